-- What callers see of links, and how calls change them.
use Rattle.std.specs.Prelude.{◌≡◌, ℕ, ◌+◌, ◌≤◌, Bool, ◌==◌, is_some, if◌then◌else◌, List, Option, unwrap_or}
use Rattle.std.specs.Map.{lookup}
use Rattle.hac_model.specs.declared.marks.Kind.{Kind}
use Rattle.link_kinds.specs.Kinds.{AreApart, AreRising, Lists, kind_in, no_lists, without_item}

-- the lists of the directories that have their sets, and how many calls may still give a kind, or say whether an item is
-- lent, without memory
pub record Known : Type 0 where
  pub dirs : List (ℕ × Lists)
  pub spare : ℕ

-- the lists of a directory, if it has its sets
abbrev pub lists_at : Known → ℕ → Option Lists
lists_at links dir = lookup (λ number. dir == number) links.dirs

-- whether the directory has its sets
abbrev pub has_sets : Known → ℕ → Bool
has_sets links dir = is_some (lists_at links dir)

-- the lists of a directory. One without sets has no items.
abbrev pub lists_in : Known → ℕ → Lists
lists_in links dir = unwrap_or (lists_at links dir) no_lists

-- the transient items of a directory, in order of number
abbrev pub transient_in : Known → ℕ → List ℕ
transient_in links dir = (lists_in links dir).transient

-- the permanent items of a directory, in order of number
abbrev pub permanent_in : Known → ℕ → List ℕ
permanent_in links dir = (lists_in links dir).permanent

-- the prohibited items of a directory, in order of number
abbrev pub prohibited_in : Known → ℕ → List ℕ
prohibited_in links dir = (lists_in links dir).prohibited

-- the items that linked directories lend a directory, in order of number
abbrev pub lent_in : Known → ℕ → List ℕ
lent_in links dir = (lists_in links dir).lent

-- how an item is linked in a directory
abbrev pub kind_at : Known → ℕ → ℕ → Kind
kind_at links dir item = kind_in (lists_in links dir) item

-- all lists rise
abbrev pub LinkListsRise : Known → Type 0
LinkListsRise links = (dir : ℕ) → AreRising (lists_in links dir)

-- no item has two kinds in one directory
abbrev pub AllApart : Known → Type 0
AllApart links = (dir : ℕ) → AreApart (lists_in links dir)

-- nothing is linked or lent anywhere
abbrev pub IsEmpty : Known → Type 0
IsEmpty links = (dir : ℕ) → lists_in links dir ≡ no_lists

-- each item has the kinds that it had, and is lent where it was
abbrev pub SameKinds : Known → Known → Type 0
SameKinds old new = (dir : ℕ) → lists_in new dir ≡ lists_in old dir

-- the same directories have their sets
abbrev pub SameLinks : Known → Known → Type 0
SameLinks old new = (dir : ℕ) → has_sets new dir ≡ has_sets old dir

-- one directory has those lists, and the others have theirs
abbrev pub ChangesDir : Known → Known → ℕ → Lists → Type 0
ChangesDir old new dir lists = (d : ℕ) → lists_in new d ≡ (if d == dir then lists else lists_in old d)

-- the item isn't linked in any directory, nor lent to one, and each other item is as before
abbrev pub DropsItem : Known → Known → ℕ → Type 0
DropsItem old new item = (dir : ℕ) → lists_in new dir ≡ without_item item (lists_in old dir)

-- it falls by one at most, and doesn't rise
abbrev pub LosesOneAtMost : ℕ → ℕ → Type 0
LosesOneAtMost old new = (new ≤ old) × (old ≤ new + 1)
