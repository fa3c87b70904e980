-- What callers see of a pool, and how its calls change it.
use Rattle.std.specs.Prelude.{◌≡◌, ℕ, ◌+◌, ◌≤◌, Bool, ◌&&◌, ◌||◌, not, ◌==◌, List, Option, length}
use Rattle.set_pool.specs.Lists.{AllRise, ChangesAt, DropsAt, SameLists, is_live_at, list_at, members_at}
use Rattle.set_pool.specs.Rising.{is_among}

-- the list of each live set at its name, how many names are free, how many calls may still make or grow a set without
-- memory, and how many blocks are set aside for them
pub record Sets : Type 0 where
  pub lists : List (Option (List ℕ))
  pub free : ℕ
  pub spare : ℕ
  pub aside : ℕ

-- the list of a set, if it is live
abbrev pub list_of : Sets → ℕ → Option (List ℕ)
list_of sets set = list_at sets.lists set

-- whether a set is live
abbrev pub is_live : Sets → ℕ → Bool
is_live sets set = is_live_at sets.lists set

-- the members of a set; there are none where it isn't live
abbrev pub members_of : Sets → ℕ → List ℕ
members_of sets set = members_at sets.lists set

-- whether a number is in a set
abbrev pub is_in : Sets → ℕ → ℕ → Bool
is_in sets set number = is_among number (members_of sets set)

-- each set's list rises
abbrev pub AllListsRise : Sets → Type 0
AllListsRise sets = AllRise sets.lists

-- each name that came is free
abbrev pub KeepsNames : Sets → Sets → Type 0
KeepsNames old new = length new.lists + old.free ≡ length old.lists + new.free

-- the set has that list, or isn't live, and each other set is as before
abbrev pub Changes : Sets → Sets → ℕ → Option (List ℕ) → Type 0
Changes old new set list = ChangesAt old.lists new.lists set list

-- each set is as before
abbrev pub SameSets : Sets → Sets → Type 0
SameSets old new = SameLists old.lists new.lists

-- the number joins the set, and whatever else is in a set stays there
abbrev pub Joins : Sets → Sets → ℕ → ℕ → Type 0
Joins old new set number = (s n : ℕ) → is_in new s n ≡ (is_in old s n || (s == set && n == number))

-- the number leaves the set, and whatever else is in a set stays there
abbrev pub Leaves : Sets → Sets → ℕ → ℕ → Type 0
Leaves old new set number = (s n : ℕ) → is_in new s n ≡ (is_in old s n && not (s == set && n == number))

-- whatever is in a set stays there, and nothing joins one
abbrev pub SameMembers : Sets → Sets → Type 0
SameMembers old new = (s n : ℕ) → is_in new s n ≡ is_in old s n

-- that number is in no set any more, and each set is else as before
abbrev pub Drops : Sets → Sets → ℕ → Type 0
Drops old new number = DropsAt old.lists new.lists number

-- the same sets are live
abbrev pub SameLive : Sets → Sets → Type 0
SameLive old new = (s : ℕ) → is_live new s ≡ is_live old s

-- that set begins to live, and each other set lives as before
abbrev pub BeginsSet : Sets → Sets → ℕ → Type 0
BeginsSet old new set = (s : ℕ) → is_live new s ≡ (is_live old s || s == set)

-- that set no longer lives, and each other set lives as before
abbrev pub EndsSet : Sets → Sets → ℕ → Type 0
EndsSet old new set = (s : ℕ) → is_live new s ≡ (is_live old s && not (s == set))

-- nothing is in that set any more, and whatever is in another stays there
abbrev pub Clears : Sets → Sets → ℕ → Type 0
Clears old new set = (s n : ℕ) → is_in new s n ≡ (is_in old s n && not (s == set))

-- one of the calls that were spare was made. No block is set aside for others.
abbrev pub SpendsOne : Sets → Sets → Type 0
SpendsOne old new = (new.spare + 1 ≡ old.spare) × (new.aside ≤ old.aside)

-- as many calls are spare as before, and as many blocks set aside
abbrev pub SpendsNone : Sets → Sets → Type 0
SpendsNone old new = (new.spare ≡ old.spare) × (new.aside ≡ old.aside)
