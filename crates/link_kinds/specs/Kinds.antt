-- The items of one directory, by the kind of their links, and those that are lent to it.
use Rattle.std.specs.Prelude.{◌≡◌, ℕ, Bool, false, if◌then◌else◌, List, []}
use Rattle.std.specs.List.Sorted.{IsStrictlyIncreasing}
use Rattle.hac_model.specs.Tree.Kinds.{is_permanent, is_prohibited, is_transient}
use Rattle.hac_model.specs.declared.marks.Kind.{Kind}
use Rattle.hac_model.specs.declared.marks.Kind.TheVariants.{Transient, Permanent, Prohibited, Unlinked}
use Rattle.set_pool.specs.Rising.{inserted, is_among, removed}

-- the items of each kind, in order of number, and those that linked directories lend the directory. An item may be lent
-- whatever its kind is.
pub record Lists : Type 0 where
  pub transient : List ℕ
  pub permanent : List ℕ
  pub prohibited : List ℕ
  pub lent : List ℕ

-- no item is linked, and none is lent
abbrev pub no_lists : Lists
no_lists = record { transient = []; permanent = []; prohibited = []; lent = [] }

-- the kind of an item's link
abbrev pub kind_in : Lists → ℕ → Kind
kind_in lists item =
    if is_among item lists.transient then Transient
    else (if is_among item lists.permanent then Permanent else (if is_among item lists.prohibited then Prohibited else Unlinked))

-- the items of a kind. Those that aren't linked are in no list.
abbrev pub items_of : Kind → Lists → List ℕ
items_of Transient lists = lists.transient
items_of Permanent lists = lists.permanent
items_of Prohibited lists = lists.prohibited
items_of Unlinked lists = []

-- the item is put into a list, or taken out
abbrev pub listed : Bool → ℕ → List ℕ → List ℕ
listed on item list = if on then inserted item list else removed item list

-- the item gets the kind, in place of any that it had. It is lent or not, as it was.
abbrev pub with_kind : Kind → ℕ → Lists → Lists
with_kind kind item lists = record lists {
  transient = listed (is_transient kind) item lists.transient;
  permanent = listed (is_permanent kind) item lists.permanent;
  prohibited = listed (is_prohibited kind) item lists.prohibited;
}

-- the item is lent or no longer lent, and has the kind that it had
abbrev pub with_lent : Bool → ℕ → Lists → Lists
with_lent on item lists = record lists { lent = listed on item lists.lent }

-- the item isn't linked any more, nor lent
abbrev pub without_item : ℕ → Lists → Lists
without_item item lists = with_lent false item (with_kind Unlinked item lists)

-- an item is in the list of its kind, and in that of no other
pub record AreApart (lists : Lists) : Type 0 where
  pub transient : (item : ℕ) → is_among item lists.transient ≡ is_transient (kind_in lists item)
  pub permanent : (item : ℕ) → is_among item lists.permanent ≡ is_permanent (kind_in lists item)
  pub prohibited : (item : ℕ) → is_among item lists.prohibited ≡ is_prohibited (kind_in lists item)

-- each list rises
pub record AreRising (lists : Lists) : Type 0 where
  pub transient : IsStrictlyIncreasing lists.transient
  pub permanent : IsStrictlyIncreasing lists.permanent
  pub prohibited : IsStrictlyIncreasing lists.prohibited
  pub lent : IsStrictlyIncreasing lists.lent
