-- How a state changes: entries come, change and go.
use Rattle.std.specs.Prelude.{ℕ, true, false, ◌+◌, ◌==◌, not, if◌then◌else◌, List, [], ◌∷◌, ◌++◌, filter, map, nat_lt, Some}
use Rattle.hac_model.specs.Query.Formula.{Formula}
use Rattle.hac_model.specs.declared.marks.Kind.{Kind}
use Rattle.hac_model.specs.declared.marks.Kind.TheVariants.{Permanent, Prohibited}
use Rattle.hac_model.specs.declared.states.Body.{Body}
use Rattle.hac_model.specs.declared.states.Body.TheVariants.{File, Dir, Semantic}
use Rattle.hac_model.specs.declared.states.Entry.{Entry}
use Rattle.hac_model.specs.declared.states.State.{State}

-- a new entry, which takes the next number
abbrev pub added : State → ℕ → List ℕ → Body → State
added s dir name body = record s {
  next = s.next + 1;
  entries = s.entries ++ record { number = s.next; parent = dir; name = name; body = body } ∷ [];
}

-- the entries, of which the one with the number is changed
abbrev pub changed_in : ℕ → (Entry → Entry) → List Entry → List Entry
changed_in number change [] = []
changed_in number change (entry ∷ entries) =
    (if entry.number == number then change entry else entry) ∷ changed_in number change entries

-- the state, in which the entry with the number is changed
abbrev pub changed_at : State → ℕ → (Entry → Entry) → State
changed_at s number change = record s { entries = changed_in number change s.entries }

-- the text is replaced, and what was indexed stays shown
abbrev pub rewritten : List ℕ → Body → Body
rewritten new (File text dirty shown) = File new true shown
rewritten new other = other

-- the text becomes the shown text, and the file is clean
abbrev pub indexed : Body → Body
indexed (File text dirty shown) = File text false (Some text)
indexed other = other

-- the directory gets a query. Its marks stay.
abbrev pub asking : Formula ℕ → Body → Body
asking new Dir = Semantic new [] []
asking new (Semantic query permanent prohibited) = Semantic new permanent prohibited
asking new other = other

-- a semantic directory becomes a plain one
abbrev pub plain_body : Body → Body
plain_body (Semantic query permanent prohibited) = Dir
plain_body other = other

-- the numbers without one of them
abbrev pub without : ℕ → List ℕ → List ℕ
without number numbers = filter (λ other. not (other == number)) numbers

-- rising numbers with one more inserted in order
abbrev pub put_in : ℕ → List ℕ → List ℕ
put_in number [] = number ∷ []
put_in number (first ∷ numbers) = if nat_lt number first then number ∷ first ∷ numbers else first ∷ put_in number numbers

-- the item loses its mark
abbrev pub forgetting : ℕ → Body → Body
forgetting item (Semantic query permanent prohibited) = Semantic query (without item permanent) (without item prohibited)
forgetting item other = other

-- an item without a mark gets one
abbrev pub marking : ℕ → Kind → Body → Body
marking item Permanent (Semantic query permanent prohibited) = Semantic query (put_in item permanent) prohibited
marking item Prohibited (Semantic query permanent prohibited) = Semantic query permanent (put_in item prohibited)
marking item other body = body

-- the item leaves both lists, and then joins the list of its mark, if any
abbrev pub marked : ℕ → Kind → Body → Body
marked item kind body = marking item kind (forgetting item body)

-- the entry with its body edited
abbrev pub edited : (Body → Body) → Entry → Entry
edited edit entry = record entry { body = edit entry.body }

-- the entry in another place
abbrev pub reseated : ℕ → List ℕ → Entry → Entry
reseated dir name entry = record entry { parent = dir; name = name }

-- the state without the entry of the number
abbrev pub removed : State → ℕ → State
removed s number = record s { entries = filter (λ entry. not (entry.number == number)) s.entries }

-- the state in which an item has no mark anywhere
abbrev pub forgotten : State → ℕ → State
forgotten s item = record s { entries = map (edited (forgetting item)) s.entries }
