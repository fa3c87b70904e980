-- How the answers of mounts are kept: a list under each number, which has no meaning where it is empty.
use Rattle.std.specs.Prelude.{⊤, ℕ, Bool, List, [], ◌∷◌, Option, Some, None, IsTrue, is_some, nat_eq, unwrap_or}
use Rattle.indexmap.specs.IndexMap.{IndexMap, get}
use Rattle.hac_model.specs.declared.states.Answer.{Answer}
use Rattle.kept_facts.specs.Answers.{Answered}
use Rattle.kept_facts.specs.declared.answers.Answers.TheInside.{Inside}
use Rattle.kept_facts.specs.declared.answers.Ready.{Ready}
use Rattle.kept_facts.specs.declared.answers.Ready.TheVariants.{Nothing, One, All}

module _ {S : Type 0} where
  -- the number has a list
  abbrev pub has_list : IndexMap ℕ (List Answer) S → ℕ → Bool
  has_list lists number = is_some (get nat_eq lists number)

  -- the answers under a number, none where it has no list
  abbrev pub list_at : IndexMap ℕ (List Answer) S → ℕ → List Answer
  list_at lists number = unwrap_or (get nat_eq lists number) []

  -- the lists, where there are some
  abbrev pub told_of : Option (IndexMap ℕ (List Answer) S) → Option (List (ℕ × List Answer))
  told_of None = None
  told_of (Some lists) = Some lists.entries

-- what is next, by what is ready and what mounts keep
abbrev pub next_lists : Ready → List (ℕ × List Answer) → List (ℕ × List Answer)
next_lists Nothing kept = kept
next_lists (One new) kept = (new.mount, new.answers) ∷ kept
next_lists (All lists) kept = lists.entries

abbrev pub answered_of : Inside → Answered
answered_of kept = record { mounts = kept.lists.entries; next = next_lists kept.ready kept.lists.entries }

-- a mount that is ready alone has a list, which may be empty
abbrev pub HasPlace : Inside → Type 0
HasPlace kept = has_place kept.ready
  where
    has_place : Ready → Type 0
    has_place (One new) = IsTrue (has_list kept.lists new.mount)
    has_place other = ⊤
