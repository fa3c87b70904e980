-- What the calls of a tree answer.
use Rattle.std.specs.Prelude.{ℕ, Bool, false, nat_lt, List, filter, map}
use Rattle.std.specs.Option.{option_map_or}
use Rattle.hac_model.specs.Tree.{body_at, is_dirty}
use Rattle.hac_model.specs.declared.states.Entry.{Entry}

-- the numbers of entries, in their order
abbrev pub numbers_of : List Entry → List ℕ
numbers_of entries = map (λ entry. entry.number) entries

-- the entries whose numbers are above this one
abbrev pub entries_behind : ℕ → List Entry → List Entry
entries_behind last entries = filter (λ entry. nat_lt last entry.number) entries

-- the entry of a number is a dirty file
abbrev pub is_dirty_at : List Entry → ℕ → Bool
is_dirty_at entries number = option_map_or is_dirty (body_at entries number) false
