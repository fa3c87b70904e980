-- What is in a directory, and what is in a file.
use Rattle.std.proofs.Common.{◌≡◌, ℕ, zero, suc, ◌<◌, ◌≤◌, true, List, [], ◌∷◌, length, get_or, map, take, refl, ap, ◌∙◌, arith}
use Rattle.std.specs.Prelude.{Option, Some, is_some}
use Rattle.std.specs.Option.{option_map_or}
use Rattle.std.specs.List.{AllByRecursion}
use Rattle.std.proofs.lemmas.List.{take_all}
use Rattle.hac_model.specs.Tree.Listing.{children, entry_line}
use Rattle.hac_model.specs.Tree.{entry_at}
use Rattle.hac_model.specs.Tree.Valid.{IsLayout}
use Rattle.hac_model.specs.declared.states.Entry.{Entry}
use Rattle.hac_model.specs.declared.states.State.{State}
use Rattle.file_tree.specs.Answers.{numbers_of}
use Rattle.file_tree.proofs.OrderLemmas.{children-found}

-- the line of a number
abbrev pub line_at : State → ℕ → List ℕ
line_at s n = option_map_or entry_line (entry_at s.entries n) []

module _ (s : State) (dir : ℕ) where
  abbrev AreChildren : List Entry → Type 0
  AreChildren es = AllByRecursion (λ (e : Entry). (entry_at s.entries e.number ≡ Some e) × (e.parent ≡ dir)) es

  lines-found : (es : List Entry) → AreChildren es → map (line_at s) (numbers_of es) ≡ map entry_line es
  lines-found [] found = refl
  lines-found (e ∷ es) found = λ i. option_map_or entry_line (found.0.0 i) [] ∷ lines-found es found.1 i

  some-at : (es : List Entry) (i d : ℕ) → AreChildren es → i < length (numbers_of es) → is_some (entry_at s.entries (get_or (numbers_of es) i d)) ≡ true
  some-at [] i d found less = absurd (omega (arith, less))
  some-at (e ∷ es) zero d found less = ap (λ (o : Option Entry). is_some o) found.0.0
  some-at (e ∷ es) (suc i) d found less = some-at es i d found.1 (omega (arith, less))

  module _ (numbers : List ℕ) (h : IsLayout s) (same : numbers ≡ numbers_of (children s dir)) where
    -- each child has an entry
    pub child-some : (i d n : ℕ) → i < length numbers → n ≡ get_or numbers i d → is_some (entry_at s.entries n) ≡ true
    child-some i d n less is =
        ap (λ (k : ℕ). is_some (entry_at s.entries k)) (is ∙ ap (λ (ns : List ℕ). get_or ns i d) same)
        ∙ some-at (children s dir) i d (children-found s dir h.numbers) (omega (arith, less, ap length same))

    -- after the last child there is a line for each
    pub children-end : (i : ℕ) (lines : List (List ℕ)) → length numbers ≤ i → lines ≡ map (line_at s) (take i numbers) → lines ≡ map entry_line (children s dir)
    children-end i lines all so_far = so_far ∙ ap (map (line_at s)) (take_all i numbers all ∙ same) ∙ lines-found (children s dir) (children-found s dir h.numbers)
