-- Which documents a mount has after an event, by what the tree has before it.
use Rattle.std.specs.Prelude.{ℕ, Bool, ◌+◌, ◌==◌, ◌&&◌, ◌||◌, nat_le, nat_lt, List, [], length}
use Rattle.std.specs.List.{list_all}
use Rattle.std.specs.Option.{option_map_or}
use Rattle.hac_model.specs.Tree.Mounting.{do_rise_from, is_among, is_document_of}
use Rattle.hac_model.specs.Tree.{entry_at}
use Rattle.hac_model.specs.declared.states.State.{State}
use Rattle.event_check.specs.declared.mounting.Coming.{Coming}

-- the name of an entry
abbrev pub name_at : State → ℕ → List ℕ
name_at s number = option_map_or (λ entry. entry.name) (entry_at s.entries number) []

-- a document of the mount that has one of these names
abbrev pub is_kept_document : State → ℕ → List (List ℕ) → ℕ → Bool
is_kept_document s mount names number = is_document_of s mount number && is_among names (name_at s number)

-- the number is one of so many, from the first on
abbrev pub is_one_of : ℕ → ℕ → ℕ → Bool
is_one_of first count number = nat_le first number && nat_lt number (first + count)

-- a document that the mount will have: it has one of these names now, or comes
abbrev pub will_have : State → List (List ℕ) → Coming → ℕ → Bool
will_have s names coming number = is_kept_document s coming.mount names number || is_one_of coming.first coming.count number

-- numbers rise, and each passes the test
abbrev pub is_told_by : (ℕ → Bool) → List ℕ → Bool
is_told_by test numbers = do_rise_from 0 numbers && list_all test numbers

-- there are so many lists, each of such numbers
abbrev pub are_told_by : (ℕ → Bool) → ℕ → List (List ℕ) → Bool
are_told_by test count told = length told == count && list_all (is_told_by test) told
