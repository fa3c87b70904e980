-- The script that `--make` plays: a large one, drawn from a number. The same number gives the same script.
use Rattle.std.specs.Prelude.{ℕ, zero, suc, ◌+◌, ◌-◌, ◌*◌, ◌^◌, ◌/◌, ◌%◌, ◌==◌, if◌then◌else◌, nat_le, List, [], ◌∷◌, ◌++◌, map, codes, decimal}
use Rattle.std.specs.List.{flat_map, range_with_len}
use Rattle.hac_model.specs.Script.Printed.{ended}

-- the number that comes behind another in the row of drawn ones: a linear congruential generator, with the factor and
-- the increment of Knuth's MMIX
abbrev pub next_drawn : ℕ → ℕ
next_drawn drawn = (drawn * 6364136223846793005 + 1442695040888963407) % (2 ^ 64)

-- the number that comes so many places behind another
abbrev pub drawn_behind : ℕ → ℕ → ℕ
drawn_behind zero drawn = drawn
drawn_behind (suc places) drawn = drawn_behind places (next_drawn drawn)

-- what a drawn number picks below a bound: its high bits count
abbrev pub picked : ℕ → ℕ → ℕ
picked bound drawn = (drawn / (2 ^ 33)) % bound

-- the pick below a bound that the next number gives, behind so many that were drawn for others
abbrev pub pick : ℕ → ℕ → ℕ → ℕ
pick drawn places bound = picked bound (drawn_behind (suc places) drawn)

-- names with a number in them
abbrev pub numbered : List ℕ → ℕ → List ℕ
numbered name number = name ++ decimal number

-- `mkdir /d0` to `mkdir /d9`
abbrev pub plain_lines : List (List ℕ)
plain_lines = map (numbered (codes "mkdir /d")) (range_with_len 0 10)

-- a directory that asks for what the one before it has without one word, and for another word
abbrev pub semantic_line : ℕ → List ℕ
semantic_line number =
    numbered (codes "smkdir /s") number ++ numbered (codes " {/s") (number - 1) ++ numbered (codes "} AND NOT w") (number + 10)
    ++ numbered (codes " OR w") number

-- ten semantic directories, of which each but the first names the one before it
abbrev pub semantic_lines : List (List ℕ)
semantic_lines = codes "smkdir /s0 w0" ∷ map semantic_line (range_with_len 1 9)

-- the path of a file, picked with the first two numbers behind that of the command
abbrev pub file_word : ℕ → List ℕ
file_word drawn = numbered (codes "/d") (pick drawn 1 10) ++ numbered (codes "/f") (pick drawn 2 40)

-- a command on a file and on a semantic directory
abbrev pub linking_line : List ℕ → ℕ → List ℕ
linking_line word drawn = word ++ file_word drawn ++ numbered (codes " /s") (pick drawn 3 10)

-- a line, and how many numbers were drawn for it
abbrev pub Drawn : Type 0
Drawn = List ℕ × ℕ

-- the lines of each command
abbrev pub writing_line : ℕ → List ℕ
writing_line drawn =
    codes "write " ++ file_word drawn ++ numbered (codes " w") (pick drawn 3 100) ++ numbered (codes " w") (pick drawn 4 100)
    ++ numbered (codes " w") (pick drawn 5 100)

abbrev pub removing_line : ℕ → List ℕ
removing_line drawn = codes "rm " ++ file_word drawn

abbrev pub asking_line : ℕ → List ℕ
asking_line drawn =
    numbered (codes "setq /s") (pick drawn 1 10) ++ numbered (codes " w") (pick drawn 2 100)
    ++ numbered (codes " OR {/s") (pick drawn 3 10) ++ numbered (codes "} AND {/d") (pick drawn 4 10) ++ codes "}"

-- the line of a command, of which there are ten, and half of them write. All is picked from the left to the right
abbrev pub command_line : ℕ → ℕ → Drawn
command_line drawn command =
    if nat_le command 4 then (writing_line drawn, 6)
    else if command == 5 then (removing_line drawn, 3)
    else if command == 6 then (codes "tick 3", 1)
    else if command == 7 then (linking_line (codes "srm ") drawn, 4)
    else if command == 8 then (linking_line (codes "sln ") drawn, 4)
    else (asking_line drawn, 5)

-- the line that is drawn behind a number: the first pick is its command
abbrev pub drawn_line : ℕ → Drawn
drawn_line drawn = command_line drawn (pick drawn 0 10)

-- so many lines, one drawn behind the other
abbrev pub drawn_lines : ℕ → ℕ → List (List ℕ)
drawn_lines zero drawn = []
drawn_lines (suc count) drawn =
    let line = drawn_line drawn in
    line.0 ∷ drawn_lines count (drawn_behind line.1 drawn)

-- how many of its lines are drawn
unfoldable pub drawn_count : ℕ
drawn_count = 20000

-- ten directories, ten semantic ones, the drawn lines, and an `index`
abbrev pub generated : ℕ → List ℕ
generated number = flat_map ended (plain_lines ++ semantic_lines ++ drawn_lines drawn_count number ++ codes "index" ∷ [])
