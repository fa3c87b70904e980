-- The entries of a directory, in byte order of names.
use Rattle.std.specs.Prelude.{ℕ, Bool, ◌==◌, if◌then◌else◌, List, [], ◌∷◌, ◌++◌, filter, codes}
use Rattle.std.specs.Cmp.Lexicographic.{slice_cmp}
use Rattle.std.specs.Ordering.{nat_cmp, is_lt}
use Rattle.hac_model.specs.declared.states.Body.{Body}
use Rattle.hac_model.specs.declared.states.Body.TheVariants.{File, Dir, Symlink, Semantic, Mount, Document}
use Rattle.hac_model.specs.declared.states.Entry.{Entry}
use Rattle.hac_model.specs.declared.states.State.{State}

-- the one name comes before the other, compared by bytes
abbrev pub is_before : List ℕ → List ℕ → Bool
is_before name other = is_lt (slice_cmp nat_cmp name other)

-- an entry put into its place among entries in order of their names
abbrev pub put_in_order : Entry → List Entry → List Entry
put_in_order new [] = new ∷ []
put_in_order new (entry ∷ entries) =
    if is_before new.name entry.name then new ∷ entry ∷ entries else entry ∷ put_in_order new entries

-- entries in order of their names
abbrev pub in_order : List Entry → List Entry
in_order [] = []
in_order (entry ∷ entries) = put_in_order entry (in_order entries)

-- the entries of the directory
abbrev pub children : State → ℕ → List Entry
children s dir = in_order (filter (λ entry. entry.parent == dir) s.entries)

-- the letter of an entry's kind
abbrev pub letter : Body → List ℕ
letter (File text dirty shown) = codes "f"
letter Dir = codes "d"
letter (Symlink target) = codes "l"
letter (Semantic query permanent prohibited) = codes "s"
letter (Mount space answers) = codes "m"
letter Document = codes "o"

-- an entry as `ls` lists it
abbrev pub entry_line : Entry → List ℕ
entry_line entry = letter entry.body ++ codes " " ++ entry.name
