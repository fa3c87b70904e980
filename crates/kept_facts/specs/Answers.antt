-- The answers that mounts keep.
use Rattle.std.specs.Prelude.{◌≡◌, ℕ, ◌==◌, if◌then◌else◌, true, List, [], ◌∷◌, Option, Some, None, IsTrue, nat_eq, unwrap_or}
use Rattle.std.specs.List.{AllByRecursion}
use Rattle.std.specs.Map.{lookup}
use Rattle.std.specs.Option.{option_map_or}
use Rattle.hac_model.specs.Query.Terms.{is_term_before}
use Rattle.hac_model.specs.Tree.Valid.{RiseFrom, TermsRise}
use Rattle.hac_model.specs.declared.states.Answer.{Answer}
use Rattle.hac_model.specs.declared.terms.Term.{Term}

-- the answers that mounts keep, by their numbers, and those that they are to keep
pub record Answered : Type 0 where
  pub mounts : List (ℕ × List Answer)
  pub next : List (ℕ × List Answer)

-- the answers under a number, none where it has no list
abbrev pub answers_under : List (ℕ × List Answer) → ℕ → List Answer
answers_under lists number = unwrap_or (lookup (nat_eq number) lists) []

-- the answers that a mount keeps, none where it isn't there
abbrev pub answers_kept : Answered → ℕ → List Answer
answers_kept kept = answers_under kept.mounts

-- the answers that it is to keep
abbrev pub answers_next : Answered → ℕ → List Answer
answers_next kept = answers_under kept.next

-- the answers of a mount by these lists, or, where there are none, what it keeps
abbrev pub answers_with : (ℕ → List Answer) → Option (List (ℕ × List Answer)) → ℕ → List Answer
answers_with kept None mount = kept mount
answers_with kept (Some lists) mount = answers_under lists mount

-- each mount keeps what it kept
abbrev pub SameAnswers : Answered → Answered → Type 0
SameAnswers old new = (mount : ℕ) → answers_kept new mount ≡ answers_kept old mount

-- one mount keeps these answers, and the others keep theirs
abbrev pub Replaces : Answered → Answered → ℕ → List Answer → Type 0
Replaces old new number answers = (mount : ℕ) → answers_kept new mount ≡ (if mount == number then answers else answers_kept old mount)

-- one mount is to keep these answers, and the others what they keep
abbrev pub WillReplace : Answered → ℕ → List Answer → Type 0
WillReplace kept number answers = (mount : ℕ) → answers_next kept mount ≡ (if mount == number then answers else answers_kept kept mount)

-- each mount is to keep what it keeps
abbrev pub KeepsOn : Answered → Type 0
KeepsOn kept = (mount : ℕ) → answers_next kept mount ≡ answers_kept kept mount

-- each mount keeps what it was to keep, and is to keep it
pub record Takes (old new : Answered) : Type 0 where
  pub kept : (mount : ℕ) → answers_kept new mount ≡ answers_next old mount
  pub next : KeepsOn new

-- the terms rise, each coming after this one if there is one
abbrev pub AreTermsInOrder : Option Term → List Term → Type 0
AreTermsInOrder last [] = Unit {0}
AreTermsInOrder last (term ∷ terms) = IsTrue (option_map_or (λ before. is_term_before before term) last true) × AreTermsInOrder (Some term) terms

-- the terms rise, and so do the documents that had each
pub record AreInOrder (answers : List Answer) : Type 0 where
  pub terms : TermsRise None answers
  pub documents : AllByRecursion (λ answer. RiseFrom 0 answer.documents) answers
