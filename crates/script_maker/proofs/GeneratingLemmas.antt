-- Scripts that are drawn line by line.
use Rattle.std.proofs.Common.{◌≡◌, ℕ, zero, suc, ◌+◌, ◌-◌, ◌<◌, List, [], ◌∷◌, ◌++◌, map, ap, ap₂, sym, ◌∙◌, append_assoc, arith}
use Rattle.std.specs.List.{flat_map, range_with_len}
use Rattle.std.proofs.lemmas.List.{append-nil}
use Rattle.std.proofs.lemmas.Grind.{flat_map-append}
use Rattle.std.proofs.lemmas.List.FromFn.{map-range_with_len_more}
use Rattle.hac_model.specs.Script.Generator.{Drawn, drawn_behind, drawn_line, drawn_lines, next_drawn}
use Rattle.hac_model.specs.Script.Printed.{ended}

-- the lines of one number more
pub lines-more : (line : ℕ → List ℕ) (a n j : ℕ) → a + n ≡ j
    → flat_map ended (map line (range_with_len a (n + 1))) ≡ flat_map ended (map line (range_with_len a n)) ++ ended (line j)
lines-more line a n j at =
    ap (flat_map ended) (map-range_with_len_more line a n j at)
    ∙ flat_map-append ended (map line (range_with_len a n)) (line j ∷ [])
    ∙ ap (λ (rest : List ℕ). flat_map ended (map line (range_with_len a n)) ++ rest) (append-nil (ended (line j)))

-- one number behind another
pub behind-more : (left drawn : ℕ) → 0 < left → drawn_behind left drawn ≡ drawn_behind (left - 1) (next_drawn drawn)
behind-more zero drawn some = absurd (omega (arith, some))
behind-more (suc left) drawn some = let one : left ≡ suc left - 1 = omega arith in ap (λ (n : ℕ). drawn_behind n (next_drawn drawn)) one

-- one line, and those behind it
pub drawn-more : (left drawn : ℕ) → 0 < left
    → drawn_lines left drawn ≡ (drawn_line drawn).0 ∷ drawn_lines (left - 1) (drawn_behind (drawn_line drawn).1 drawn)
drawn-more zero drawn some = absurd (omega (arith, some))
drawn-more (suc left) drawn some =
    let one : left ≡ suc left - 1 = omega arith in
    ap (λ (n : ℕ). (drawn_line drawn).0 ∷ drawn_lines n (drawn_behind (drawn_line drawn).1 drawn)) one

-- what is there and the lines that are left, behind one line
pub goes-on : (left drawn : ℕ) (items line : List ℕ) (places : ℕ) (more : List ℕ) (next : ℕ) → 0 < left → (line, places) ≡ drawn_line drawn
    → more ≡ items ++ ended line → next ≡ drawn_behind places drawn
    → more ++ flat_map ended (drawn_lines (left - 1) next) ≡ items ++ flat_map ended (drawn_lines left drawn)
goes-on left drawn items line places more next some is pushed behind =
    ap₂ (λ (front : List ℕ) (n : ℕ). front ++ flat_map ended (drawn_lines (left - 1) n)) pushed behind
    ∙ ap (λ (one : Drawn). items ++ ended one.0 ++ flat_map ended (drawn_lines (left - 1) (drawn_behind one.1 drawn))) is
    ∙ append_assoc items (ended (drawn_line drawn).0) (flat_map ended (drawn_lines (left - 1) (drawn_behind (drawn_line drawn).1 drawn)))
    ∙ ap (λ (lines : List (List ℕ)). items ++ flat_map ended lines) (sym (drawn-more left drawn some))

-- four lists, one behind the other
pub four-lists : (a b c d : List ℕ) → a ++ (b ++ (c ++ d)) ≡ ((a ++ b) ++ c) ++ d
four-lists a b c d = sym (append_assoc a b (c ++ d)) ∙ sym (append_assoc (a ++ b) c d)

-- one more of them was pushed behind what was there
pub pushed-more : (line : ℕ → List ℕ) (a n j : ℕ) (items script pushed : List ℕ) → a + n ≡ j
    → script ≡ items ++ flat_map ended (map line (range_with_len a n)) → pushed ≡ script ++ ended (line j)
    → pushed ≡ items ++ flat_map ended (map line (range_with_len a (n + 1)))
pushed-more line a n j items script pushed at so_far more =
    more ∙ ap (λ (front : List ℕ). front ++ ended (line j)) so_far
    ∙ append_assoc items (flat_map ended (map line (range_with_len a n))) (ended (line j))
    ∙ ap (λ (rest : List ℕ). items ++ rest) (sym (lines-more line a n j at))

-- three lists of lines and a last line, pushed one behind the other
pub script-made : (a b c : List (List ℕ)) (d none first second third script : List ℕ) → none ≡ [] → first ≡ none ++ flat_map ended a
    → second ≡ first ++ flat_map ended b → third ≡ second ++ flat_map ended c → script ≡ third ++ ended d
    → script ≡ flat_map ended (a ++ b ++ c ++ d ∷ [])
script-made a b c d none first second third script begun one two three last =
    last ∙ ap (λ (front : List ℕ). front ++ ended d) third_is
    ∙ sym (flat_map-append ended (a ++ b ++ c) (d ∷ []) ∙ ap (λ (rest : List ℕ). flat_map ended (a ++ b ++ c) ++ rest) (append-nil (ended d)))
  where
    first_is : first ≡ flat_map ended a
    first_is = one ∙ ap (λ (front : List ℕ). front ++ flat_map ended a) begun

    second_is : second ≡ flat_map ended (a ++ b)
    second_is = two ∙ ap (λ (front : List ℕ). front ++ flat_map ended b) first_is ∙ sym (flat_map-append ended a b)

    third_is : third ≡ flat_map ended (a ++ b ++ c)
    third_is = three ∙ ap (λ (front : List ℕ). front ++ flat_map ended c) second_is ∙ sym (flat_map-append ended (a ++ b) c)
