-- How links are kept: four sets of a pool for each directory.
use Rattle.std.specs.Prelude.{◌≡◌, ◌≢◌, ◌==◌, ◌||◌, ℕ, Bool, false, IsTrue, List, Option, Some, if◌then◌else◌, is_some, map, nat_eq}
use Rattle.std.specs.Option.{option_map_or}
use Rattle.indexmap.specs.IndexMap.{get}
use Rattle.set_pool.specs.Sets.{AllListsRise, Sets, is_live, list_of, members_of}
use Rattle.link_kinds.specs.Kinds.{Lists}
use Rattle.link_kinds.specs.Seen.{AllApart, Known}
use Rattle.link_kinds.specs.declared.links.Links.TheInside.{Inside}
use Rattle.link_kinds.specs.declared.sets.DirSets.{DirSets}

-- what the four sets of a directory hold
abbrev pub dir_lists : Sets → DirSets → Lists
dir_lists pool sets = record { transient = members_of pool sets.transient; permanent = members_of pool sets.permanent; prohibited = members_of pool sets.prohibited; lent = members_of pool sets.lent }

-- the set is one of the four
abbrev pub is_one_of : DirSets → ℕ → Bool
is_one_of sets set = set == sets.transient || (set == sets.permanent || (set == sets.prohibited || set == sets.lent))

-- the four sets are live
abbrev pub AreLive : Sets → DirSets → Type 0
AreLive pool sets = IsTrue (is_live pool sets.transient) × IsTrue (is_live pool sets.permanent) × IsTrue (is_live pool sets.prohibited) × IsTrue (is_live pool sets.lent)

-- none of the four sets was live
abbrev pub AreFresh : Sets → DirSets → Type 0
AreFresh pool sets = (set : ℕ) → IsTrue (is_one_of sets set) → is_live pool set ≡ false

-- no two of the four sets are one
abbrev pub AreDistinct : DirSets → Type 0
AreDistinct sets =
    (sets.transient ≢ sets.permanent) × (sets.transient ≢ sets.prohibited) × (sets.transient ≢ sets.lent)
    × (sets.permanent ≢ sets.prohibited) × (sets.permanent ≢ sets.lent) × (sets.prohibited ≢ sets.lent)

-- each set but these four is as before
abbrev pub OthersStay : Sets → Sets → DirSets → Type 0
OthersStay old new sets = (set : ℕ) → is_one_of sets set ≡ false → list_of new set ≡ list_of old set

-- each of the four sets has that list, or isn't live, and each other set is as before
abbrev pub ChangesAll : Sets → Sets → DirSets → Option (List ℕ) → Type 0
ChangesAll old new sets list = (set : ℕ) → list_of new set ≡ (if is_one_of sets set then list else list_of old set)

-- the set is one of the directory's
abbrev pub has_set : Inside → ℕ → ℕ → Bool
has_set links dir set = option_map_or (λ sets. is_one_of sets set) (get nat_eq links.dirs dir) false

-- the directory is the owner
abbrev pub is_owner : Option ℕ → ℕ → Bool
is_owner owner dir = option_map_or (λ number. dir == number) owner false

abbrev pub seen_of : Inside → Known
seen_of links = record { dirs = map (λ entry. (entry.0, dir_lists links.pool entry.1)) links.dirs.entries; spare = links.pool.spare }

-- each set that is live has one owner, and just the sets of a directory are owned by it
pub record AreLinksKept (links : Inside) : Type 0 where
  pub owner : ℕ → Option ℕ
  pub live : (set : ℕ) → is_live links.pool set ≡ is_some (owner set)
  pub owned : (dir set : ℕ) → has_set links dir set ≡ is_owner (owner set) dir
  pub distinct : (dir : ℕ) (sets : DirSets) → get nat_eq links.dirs dir ≡ Some sets → AreDistinct sets
  pub rise : AllListsRise links.pool
  pub kinds : AllApart (seen_of links)
