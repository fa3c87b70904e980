-- The lists of a pool's sets, by name.
use Rattle.std.specs.Prelude.{◌≡◌, ℕ, Bool, ◌==◌, List, [], Option, None, is_some, unwrap_or, cond, slice_index_or}
use Rattle.std.specs.Option.{option_map}
use Rattle.std.specs.List.Sorted.{IsStrictlyIncreasing}
use Rattle.set_pool.specs.Rising.{removed}

-- the list of the set of that name, if it is live
abbrev pub list_at : List (Option (List ℕ)) → ℕ → Option (List ℕ)
list_at lists name = slice_index_or lists name None

-- whether that set is live
abbrev pub is_live_at : List (Option (List ℕ)) → ℕ → Bool
is_live_at lists name = is_some (list_at lists name)

-- the members of that set; there are none where it isn't live
abbrev pub members_at : List (Option (List ℕ)) → ℕ → List ℕ
members_at lists name = unwrap_or (list_at lists name) []

-- each list rises
abbrev pub AllRise : List (Option (List ℕ)) → Type 0
AllRise lists = (name : ℕ) → IsStrictlyIncreasing (members_at lists name)

-- each list is as before
abbrev pub SameLists : List (Option (List ℕ)) → List (Option (List ℕ)) → Type 0
SameLists old new = (name : ℕ) → list_at new name ≡ list_at old name

-- the set of that name has that list, or isn't live, and each other list is as before
abbrev pub ChangesAt : List (Option (List ℕ)) → List (Option (List ℕ)) → ℕ → Option (List ℕ) → Type 0
ChangesAt old new set list = (name : ℕ) → list_at new name ≡ cond (name == set) list (list_at old name)

-- the value is in no list any more, and each list is else as before
abbrev pub DropsAt : List (Option (List ℕ)) → List (Option (List ℕ)) → ℕ → Type 0
DropsAt old new value = (name : ℕ) → list_at new name ≡ option_map (removed value) (list_at old name)

-- the names: the list of each set, and how many names are free
pub record Names : Type 0 where
  pub lists : List (Option (List ℕ))
  pub free : ℕ
