-- What links an item to a directory, and when that stays as it was from one state to another.
use Rattle.std.specs.Prelude.{◌≡◌, ℕ, Bool, false, ◌&&◌, ◌||◌}
use Rattle.hac_model.specs.Tree.Depends.{Among, depends}
use Rattle.hac_model.specs.Tree.Links.{has, is_item, is_lent, is_semantic, links, passes, provide}
use Rattle.hac_model.specs.declared.states.State.{State}
use Rattle.reeval.specs.declared.verdicts.Verdict.{Verdict}

-- what the links of a state say of an item in a directory
abbrev pub verdict_of : State → ℕ → ℕ → Verdict
verdict_of s item dir = record { found = has (links s dir).found item; lent = has (links s dir).lent item }

-- the directory doesn't find the item, and it isn't lent to it
abbrev pub no_verdict : Verdict
no_verdict = record { found = false; lent = false }

-- the item is found by the directory or lent to it, by verdicts on it in each directory
abbrev pub is_linked : (ℕ → Verdict) → ℕ → Bool
is_linked verdicts dir = (verdicts dir).found || (verdicts dir).lent

-- what a directory says of an item, given in which directories it is linked
abbrev pub judgement : State → (ℕ → Bool) → ℕ → ℕ → Verdict
judgement s linked item dir = record {
  found = (is_semantic s dir && is_item s item) && passes s linked dir item;
  lent = (is_semantic s dir && is_item s item) && is_lent s linked dir item;
}

-- what the links of a state say of an item is what its directories say of it by these links
abbrev pub AreJudged : State → ℕ → Type 0
AreJudged s item = (dir : ℕ) → verdict_of s item dir ≡ judgement s (is_linked (verdict_of s item)) item dir

-- the directory says the same of the item in both states, if those on which it depends provide the item alike
abbrev pub JudgesAlike : State → State → ℕ → ℕ → Type 0
JudgesAlike s t item dir =
    (a b : ℕ → Bool) → ((e : ℕ) → Among (depends t dir) e → provide s a e item ≡ provide t b e item) → judgement s a item dir ≡ judgement t b item dir

-- the directory finds the item in both states or in neither, if those on which it depends provide the item alike
abbrev pub FindsAlike : State → State → ℕ → ℕ → Type 0
FindsAlike s t item dir =
    (a b : ℕ → Bool) → ((e : ℕ) → Among (depends t dir) e → provide s a e item ≡ provide t b e item) → (judgement s a item dir).found ≡ (judgement t b item dir).found

-- the directory provides the item alike in both states, if it is linked there alike
abbrev pub ProvidesAlike : State → State → ℕ → ℕ → Type 0
ProvidesAlike s t item dir = (a b : ℕ → Bool) → a dir ≡ b dir → provide s a dir item ≡ provide t b dir item

-- judging of the item begins nowhere but at these directories: any other says the same of it as long as those on which it
-- depends do
pub record LeavesAlike (s t : State) (begins : ℕ → Bool) (item : ℕ) : Type 0 where
  pub judges : (dir : ℕ) → begins dir ≡ false → JudgesAlike s t item dir
  pub provides : (dir e : ℕ) → begins dir ≡ false → Among (depends t dir) e → begins e ≡ false → ProvidesAlike s t item e

-- the directory finds the item as before as long as those on which it depends provide it, and they provide it as long as
-- it is linked in them: only what is lent to the directory may be new
pub record TiesAlike (s t : State) (begins : ℕ → Bool) (item dir : ℕ) : Type 0 where
  pub finds : FindsAlike s t item dir
  pub provides : (e : ℕ) → Among (depends t dir) e → begins e ≡ false → ProvidesAlike s t item e
