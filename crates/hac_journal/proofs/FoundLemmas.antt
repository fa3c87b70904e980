-- What is at a place, by its bytes.
use Rattle.std.proofs.Common.{◌≡◌, ◌≢◌, ℕ, ◌+◌, ◌-◌, ◌<◌, ◌≤◌, List, [], ◌∷◌, ◌++◌, length, take, drop, slice_index, sym, ◌∙◌, ap, arith, length-append, length-drop}
use Rattle.std.proofs.lemmas.Bool.Decides.{nat_tests}
use Rattle.std.proofs.lemmas.List.{take_rest, take-append-le, drop-append-le}
use Rattle.byteorder.specs.Endian.{little_number}
use Rattle.byteorder.specs.Numbers.{little_from-append}
use Rattle.hac_journal.specs.Finding.{Whole, Closed, Short, behind_gate, found_in}

pub behind-short : (at : ℕ) (rest : List ℕ) → length rest ≤ 4 + little_number 4 rest → behind_gate at rest ≡ Short
unfolding behind_gate
behind-short at rest short = grind (arith, nat_tests)

pub behind-whole : (at size : ℕ) (rest : List ℕ) → little_number 4 rest ≡ size → 4 + size < length rest → behind_gate at rest ≡ Whole (take size (drop 4 rest)) (at + 5 + size)
unfolding behind_gate
behind-whole at size rest is whole =
    let there : 4 + little_number 4 rest < length rest = omega arith in
    let found : behind_gate at rest ≡ Whole (take (little_number 4 rest) (drop 4 rest)) (at + 5 + little_number 4 rest) = grind (arith, nat_tests) in
    found ∙ ap (λ (n : ℕ). Whole (take n (drop 4 rest)) (at + 5 + n)) is

pub found-open : (at gate : ℕ) (rest : List ℕ) → gate ≡ 1 → found_in at (gate ∷ rest) ≡ behind_gate at rest
found-open at gate rest is = grind (arith, nat_tests)

pub found-shut : (at gate : ℕ) (rest : List ℕ) → gate ≢ 1 → found_in at (gate ∷ rest) ≡ Closed
found-shut at gate rest shut = grind (arith, nat_tests)

pub look-few : (bytes more : List ℕ) (at : ℕ) → 0 < length bytes → slice_index bytes 0 ≡ 1 → length (bytes ++ more) < 5 → found_in at (bytes ++ more) ≡ Short
look-few [] more at some is few = absurd (omega arith)
look-few (gate ∷ rest) more at some is few = found-open at gate (rest ++ more) is ∙ behind-short at (rest ++ more) (omega arith)

pub look-more : (bytes more : List ℕ) (at size : ℕ) → slice_index bytes 0 ≡ 1 → 5 ≤ length bytes
    → size ≡ little_number 4 (take (length bytes - 1) (drop 1 bytes)) → length (bytes ++ more) < 6 + size → found_in at (bytes ++ more) ≡ Short
look-more [] more at size is long number short = absurd (omega arith)
look-more (gate ∷ rest) more at size is long number short =
    let along = little_from-append 4 rest more (omega arith) in
    let counted : size ≡ little_number 4 rest = number ∙ ap (little_number 4) (take_rest (gate ∷ rest) 1) in
    found-open at gate (rest ++ more) is ∙ behind-short at (rest ++ more) (omega (arith, along, counted))

pub look-whole : (bytes more : List ℕ) (at size : ℕ) → slice_index bytes 0 ≡ 1
    → size ≡ little_number 4 (take (length bytes - 1) (drop 1 bytes)) → 6 + size ≤ length bytes
    → found_in at (bytes ++ more) ≡ Whole (take size (drop 5 bytes)) (at + 5 + size)
look-whole [] more at size is number whole = absurd (omega arith)
look-whole (gate ∷ rest) more at size is number whole =
    let along = little_from-append 4 rest more (omega arith) in
    let counted : size ≡ little_number 4 rest = number ∙ ap (little_number 4) (take_rest (gate ∷ rest) 1) in
    found-open at gate (rest ++ more) is
    ∙ behind-whole at size (rest ++ more) (along ∙ sym counted) (omega (arith, length-append rest more))
    ∙ ap (λ (l : List ℕ). Whole (take size l) (at + 5 + size)) (drop-append-le 4 rest more (omega arith))
    ∙ ap (λ (l : List ℕ). Whole l (at + 5 + size)) (take-append-le size (drop 4 rest) more (omega (arith, length-drop 4 rest)))
