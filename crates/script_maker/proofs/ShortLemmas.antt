-- Drawn scripts are short: each line is, and there are 20,021 of them.
use Rattle.std.proofs.Common.{◌≡◌, ℕ, zero, suc, ◌+◌, ◌*◌, ◌^◌, ◌/◌, ◌<◌, ◌≤◌, ◌==◌, Bool, true, false, List, [], ◌∷◌, ◌++◌, length, refl, ap, arith, mod-lt, codes, lt_of_le_of_lt}
use Rattle.std.specs.Prelude.{◌-◌, decimal, if◌then◌else◌, map, nat_le}
use Rattle.std.specs.List.{flat_map, range_with_len}
use Rattle.std.proofs.lemmas.Fmt.{length-decimal-le}
use Rattle.std.proofs.lemmas.Grind.{flat_map-append}
use Rattle.std.proofs.Math.Dec.{lit<}
use Rattle.std.proofs.lemmas.List.{length-append}
use Rattle.hac_model.specs.Script.Generator.{Drawn, asking_line, command_line, drawn_behind, drawn_count, drawn_line, drawn_lines, file_word, generated, linking_line, numbered, pick, plain_lines, removing_line, semantic_line, semantic_lines, writing_line}
use Rattle.hac_model.specs.Script.Printed.{ended}
use Rattle.hac_model.specs.declared.limits.TheConstants.{SCRIPT_LIMIT}

-- what is picked below 100 has two digits at most
numbered-short : (name : List ℕ) (n : ℕ) → n < 100 → length (numbered name n) ≤ length name + 2
numbered-short name n low = omega (arith, length-append name (decimal n), length-decimal-le 2 n (omega arith) (omega arith) (omega (arith, low)))

pick-low : (drawn places bound : ℕ) → 0 < bound → bound ≤ 100 → pick drawn places bound < 100
pick-low drawn places bound some low = omega (arith, mod-lt (drawn_behind (suc places) drawn / (2 ^ 33)) some, low)

-- a name with what is picked
picked-short : (name : List ℕ) (drawn places bound : ℕ) → 0 < bound → bound ≤ 100 → length (numbered name (pick drawn places bound)) ≤ length name + 2
picked-short name drawn places bound some low = numbered-short name (pick drawn places bound) (pick-low drawn places bound some low)

-- two lists, one behind the other
joined-short : (a b : List ℕ) {m n : ℕ} → length a ≤ m → length b ≤ n → length (a ++ b) ≤ m + n
joined-short a b few more = omega (arith, length-append a b, few, more)

-- ---- lines

abbrev IsShort : List ℕ → Type 0
IsShort line = length line < 128

whole : (word : List ℕ) → length word ≤ length word
whole word = omega arith

file-short : (drawn : ℕ) → length (file_word drawn) ≤ 8
file-short drawn =
    joined-short (numbered (codes "/d") (pick drawn 1 10)) (numbered (codes "/f") (pick drawn 2 40))
    (picked-short (codes "/d") drawn 1 10 (omega arith) (omega arith)) (picked-short (codes "/f") drawn 2 40 (omega arith) (omega arith))

writing-short : (drawn : ℕ) → IsShort (writing_line drawn)
writing-short drawn =
    let word : ℕ → List ℕ = λ places. numbered (codes " w") (pick drawn places 100) in
    let short : (places : ℕ) → length (word places) ≤ 4 = λ places. picked-short (codes " w") drawn places 100 (omega arith) (omega arith) in
    lt_of_le_of_lt
    (joined-short (codes "write " ++ file_word drawn ++ word 3 ++ word 4) (word 5)
    (joined-short (codes "write " ++ file_word drawn ++ word 3) (word 4)
    (joined-short (codes "write " ++ file_word drawn) (word 3)
    (joined-short (codes "write ") (file_word drawn) (whole (codes "write ")) (file-short drawn)) (short 3)) (short 4)) (short 5))
    (lit< tt)

removing-short : (drawn : ℕ) → IsShort (removing_line drawn)
removing-short drawn = lt_of_le_of_lt (joined-short (codes "rm ") (file_word drawn) (whole (codes "rm ")) (file-short drawn)) (lit< tt)

linking-short : (word : List ℕ) (drawn : ℕ) → length word ≤ 4 → IsShort (linking_line word drawn)
linking-short word drawn short =
    let dir : List ℕ = numbered (codes " /s") (pick drawn 3 10) in
    lt_of_le_of_lt (joined-short (word ++ file_word drawn) dir (joined-short word (file_word drawn) short (file-short drawn)) (picked-short (codes " /s") drawn 3 10 (omega arith) (omega arith))) (lit< tt)

asking-short : (drawn : ℕ) → IsShort (asking_line drawn)
asking-short drawn =
    let first : List ℕ = numbered (codes "setq /s") (pick drawn 1 10) in
    let second : List ℕ = numbered (codes " w") (pick drawn 2 100) in
    let third : List ℕ = numbered (codes " OR {/s") (pick drawn 3 10) in
    let fourth : List ℕ = numbered (codes "} AND {/d") (pick drawn 4 10) in
    lt_of_le_of_lt
    (joined-short (first ++ second ++ third ++ fourth) (codes "}")
    (joined-short (first ++ second ++ third) fourth
    (joined-short (first ++ second) third
    (joined-short first second (picked-short (codes "setq /s") drawn 1 10 (omega arith) (omega arith)) (picked-short (codes " w") drawn 2 100 (omega arith) (omega arith)))
    (picked-short (codes " OR {/s") drawn 3 10 (omega arith) (omega arith)))
    (picked-short (codes "} AND {/d") drawn 4 10 (omega arith) (omega arith)))
    (whole (codes "}")))
    (lit< tt)

making-short : (number : ℕ) → number < 90 → IsShort (semantic_line number)
making-short number low =
    let first : List ℕ = numbered (codes "smkdir /s") number in
    let second : List ℕ = numbered (codes " {/s") (number - 1) in
    let third : List ℕ = numbered (codes "} AND NOT w") (number + 10) in
    let fourth : List ℕ = numbered (codes " OR w") number in
    lt_of_le_of_lt
    (joined-short (first ++ second ++ third) fourth
    (joined-short (first ++ second) third
    (joined-short first second (numbered-short (codes "smkdir /s") number (omega (arith, low))) (numbered-short (codes " {/s") (number - 1) (omega (arith, low))))
    (numbered-short (codes "} AND NOT w") (number + 10) (omega (arith, low))))
    (numbered-short (codes " OR w") number (omega (arith, low))))
    (lit< tt)

either-short : (b : Bool) (x y : Drawn) → IsShort x.0 → IsShort y.0 → IsShort (if b then x else y).0
either-short true x y first second = first
either-short false x y first second = second

command-short : (drawn command : ℕ) → IsShort (command_line drawn command).0
command-short drawn command =
    either-short (nat_le command 4) _ _ (writing-short drawn)
    (either-short (command == 5) _ _ (removing-short drawn)
    (either-short (command == 6) _ _ (lit< tt)
    (either-short (command == 7) _ _ (linking-short (codes "srm ") drawn (omega arith))
    (either-short (command == 8) _ _ (linking-short (codes "sln ") drawn (omega arith)) (asking-short drawn)))))

-- ---- scripts

-- a line and those behind it
line-more : (line : List ℕ) (lines : List (List ℕ)) (count : ℕ) → IsShort line → length (flat_map ended lines) ≤ count * 128 → length (flat_map ended (line ∷ lines)) ≤ suc count * 128
line-more line lines count short few = omega (arith, length-append (ended line) (flat_map ended lines), length-append line (10 ∷ []), short, few)

-- a line for each number
numbers-short : (line : ℕ → List ℕ) → ((n : ℕ) → n < 90 → IsShort (line n)) → (first count : ℕ) → first + count < 90
    → length (flat_map ended (map line (range_with_len first count))) ≤ count * 128
numbers-short line short first zero low = omega arith
numbers-short line short first (suc count) low =
    line-more (line first) (map line (range_with_len (first + 1) count)) count (short first (omega (arith, low)))
    (numbers-short line short (first + 1) count (omega (arith, low)))

drawn-short : (count drawn : ℕ) → length (flat_map ended (drawn_lines count drawn)) ≤ count * 128
drawn-short zero drawn = omega arith
drawn-short (suc count) drawn =
    let line = drawn_line drawn in
    line-more line.0 (drawn_lines count (drawn_behind line.1 drawn)) count (command-short drawn (pick drawn 0 10)) (drawn-short count (drawn_behind line.1 drawn))

counted : drawn_count ≡ 20000
unfolding drawn_count
counted = refl

-- lists of lines, one behind the other
lists-short : (a b : List (List ℕ)) {m n : ℕ} → length (flat_map ended a) ≤ m → length (flat_map ended b) ≤ n → length (flat_map ended (a ++ b)) ≤ m + n
lists-short a b few more = omega (arith, ap length (flat_map-append ended a b), length-append (flat_map ended a) (flat_map ended b), few, more)

pub drawn-scripts-short : (number : ℕ) → length (generated number) ≤ SCRIPT_LIMIT
drawn-scripts-short number =
    let drawn = drawn_lines drawn_count number in
    let last : List (List ℕ) = codes "index" ∷ [] in
    let all = lists-short plain_lines (semantic_lines ++ drawn ++ last) plain-short
    (lists-short semantic_lines (drawn ++ last) semantic-short (lists-short drawn last (drawn-short drawn_count number) (line-more (codes "index") [] 0 (lit< tt) (omega arith)))) in
    omega (arith, all, counted)
  where
    plain-short : length (flat_map ended plain_lines) ≤ 10 * 128
    plain-short = numbers-short (numbered (codes "mkdir /d")) (λ n low. lt_of_le_of_lt (numbered-short (codes "mkdir /d") n (omega (arith, low))) (lit< tt)) 0 10 (omega arith)

    semantic-short : length (flat_map ended semantic_lines) ≤ 10 * 128
    semantic-short = line-more (codes "smkdir /s0 w0") (map semantic_line (range_with_len 1 9)) 9 (lit< tt) (numbers-short semantic_line making-short 1 9 (omega arith))
