-- What the slots of a pool hold, and how the free ones are stacked.
use Rattle.std.specs.Prelude.{◌≡◌, ℕ, suc, ◌<◌, Bool, true, false, List, [], Option, Some, None, map, slice_index_or, unwrap_or, count_by}
use Rattle.set_pool.specs.Lists.{members_at}
use Rattle.set_pool.specs.Rising.{Rises, removed}
use Rattle.set_pool.specs.declared.slots.Slot.{Slot}
use Rattle.set_pool.specs.declared.slots.Slot.TheVariants.{Free, Live}

-- the list of a live slot
abbrev pub list_of_slot : Slot → Option (List ℕ)
list_of_slot (Free below count) = None
list_of_slot (Live tree) = Some tree

-- the numbers of a slot; a free one has none
abbrev pub members_in : Slot → List ℕ
members_in slot = unwrap_or (list_of_slot slot) []

-- the slot without a number in its tree
abbrev pub slots_without : ℕ → Slot → Slot
slots_without value (Free below count) = Free below count
slots_without value (Live tree) = Live (removed value tree)

-- the list of each slot
abbrev pub lists_of : List Slot → List (Option (List ℕ))
lists_of slots = map list_of_slot slots

-- whether a slot is free
abbrev pub is_free_slot : Slot → Bool
is_free_slot (Free below count) = true
is_free_slot (Live tree) = false

-- the free name below this one on the stack, and how many there are below
abbrev pub link_of : Slot → ℕ × ℕ
link_of (Free below count) = (below, count)
link_of (Live tree) = (0, 0)

-- the slot of that name; a name without a slot has a live one of no use
abbrev pub slot_at : List Slot → ℕ → Slot
slot_at slots name = slice_index_or slots name (Live [])

-- that name is free, and the stack has this many below it
abbrev pub IsFreeAbove : List Slot → ℕ → ℕ → Type 0
IsFreeAbove slots name count = (below : ℕ) × (slot_at slots name ≡ Free below count)

-- the free names are a stack with the given top, and each list rises
pub record IsStacked (slots : List Slot) (top free : ℕ) : Type 0 where
  pub counted : free ≡ count_by is_free_slot slots
  pub top_is_free : (count : ℕ) → free ≡ suc count → IsFreeAbove slots top count
  pub below_is_free : (name below count : ℕ) → slot_at slots name ≡ Free below (suc count) → IsFreeAbove slots below count
  pub below_top : (name below count : ℕ) → slot_at slots name ≡ Free below count → count < free
  pub distinct : (one other below under count : ℕ) → slot_at slots one ≡ Free below count → slot_at slots other ≡ Free under count → one ≡ other
  pub rise : (name : ℕ) → Rises (members_at (lists_of slots) name)
