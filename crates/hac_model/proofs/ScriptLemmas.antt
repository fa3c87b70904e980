-- The step of `script` and of `whole`: the first line, and then the rest. All that is proved of a run goes by these.
use Rattle.std.proofs.Common.{◌≡◌, ℕ, zero, suc, ◌+◌, ◌≤◌, List, [], ◌∷◌, ◌++◌, length, refl, ap, sym, ◌∙◌, arith, length-drop}
use Rattle.std.specs.Prelude.{if◌then◌else◌}
use Rattle.std.specs.List.{position_or_len}
use Rattle.hac_model.specs.Bytes.{is_line_end}
use Rattle.hac_model.specs.Script.Lines.{Item}
use Rattle.hac_model.specs.Script.{first_line, after_line, due, first_items, after_item, is_first_whole, whole_line, items_of_lines, script, whole_lines, whole}

-- nothing has no items, in however many lines
items_of_lines-nothing : (n : ℕ) → items_of_lines n [] ≡ []
items_of_lines-nothing zero = refl
items_of_lines-nothing (suc n) = items_of_lines-nothing n

-- a line takes a byte at least
pub length-after_line : (x : ℕ) (b : List ℕ) → length (after_line (x ∷ b)) ≤ length b
length-after_line x b = omega (arith, length-drop (position_or_len is_line_end (x ∷ b) + 1) (x ∷ b))

-- and the bytes that belong to it are taken besides
pub length-after_item : (x : ℕ) (b : List ℕ) → length (after_item (x ∷ b)) ≤ length b
length-after_item x b = omega (arith, length-after_line x b, length-drop (due (first_line (x ∷ b))) (after_line (x ∷ b)))

-- any two counts of lines that reach the end agree
items_of_lines-enough : (n m : ℕ) (b : List ℕ) → length b ≤ n → length b ≤ m → items_of_lines n b ≡ items_of_lines m b
items_of_lines-enough n m [] h k = items_of_lines-nothing n ∙ sym (items_of_lines-nothing m)
items_of_lines-enough zero m (x ∷ b) h k = absurd (omega arith)
items_of_lines-enough (suc n) zero (x ∷ b) h k = absurd (omega arith)
items_of_lines-enough (suc n) (suc m) (x ∷ b) h k =
    ap (λ (rest : List Item). first_items (x ∷ b) ++ rest) (items_of_lines-enough n m (after_item (x ∷ b)) (omega (arith, length-after_item x b)) (omega (arith, length-after_item x b)))

-- a script gives the items of its first line, and then those of the rest
pub script-step : (b : List ℕ) → script b ≡ first_items b ++ script (after_item b)
unfolding script
script-step [] = refl
script-step (x ∷ b) =
    ap (λ (rest : List Item). first_items (x ∷ b) ++ rest) (items_of_lines-enough (length b) (length (after_item (x ∷ b))) (after_item (x ∷ b)) (length-after_item x b) (omega arith))

pub script-nothing : script [] ≡ []
unfolding script
script-nothing = refl

whole_lines-nothing : (n : ℕ) → whole_lines n [] ≡ []
whole_lines-nothing zero = refl
whole_lines-nothing (suc n) = refl

whole_lines-enough : (n m : ℕ) (b : List ℕ) → length b ≤ n → length b ≤ m → whole_lines n b ≡ whole_lines m b
whole_lines-enough n m [] h k = whole_lines-nothing n ∙ sym (whole_lines-nothing m)
whole_lines-enough zero m (x ∷ b) h k = absurd (omega arith)
whole_lines-enough (suc n) zero (x ∷ b) h k = absurd (omega arith)
whole_lines-enough (suc n) (suc m) (x ∷ b) h k =
    ap (λ (rest : List ℕ). if is_first_whole (x ∷ b) then whole_line (x ∷ b) ++ rest else []) (whole_lines-enough n m (after_item (x ∷ b)) (omega (arith, length-after_item x b)) (omega (arith, length-after_item x b)))

-- the whole lines are the first, where it is whole, and then those of the rest
pub whole-step : (b : List ℕ) → whole b ≡ (if is_first_whole b then whole_line b ++ whole (after_item b) else [])
unfolding whole
whole-step [] = refl
whole-step (x ∷ b) =
    ap (λ (rest : List ℕ). if is_first_whole (x ∷ b) then whole_line (x ∷ b) ++ rest else []) (whole_lines-enough (length b) (length (after_item (x ∷ b))) (after_item (x ∷ b)) (length-after_item x b) (omega arith))
