-- The commands that the bytes of a script spell.
pub mod Lines
pub mod LineWords
pub mod PathWords
pub mod SessionWords
pub mod Numbers
pub mod Puts
pub mod Printed
pub mod Texts
pub mod CommandLine
pub mod Generator
pub mod SpaceNames
pub mod CommandTexts
pub mod Dump
use Rattle.std.specs.Prelude.{ℕ, zero, suc, Bool, ◌+◌, ◌&&◌, if◌then◌else◌, nat_le, nat_lt, List, [], ◌++◌, length, take, drop}
use Rattle.std.specs.List.{before_first, after_first, position_or_len}
use Rattle.std.specs.Option.{unwrap_or}
use Rattle.hac_model.specs.Bytes.{is_line_end}
use Rattle.hac_model.specs.Script.Lines.{Item, items_of, bytes_due}

-- the first line, without its end; the last line may have none
abbrev pub first_line : List ℕ → List ℕ
first_line bytes = before_first is_line_end bytes

-- the bytes behind the first line and its end
abbrev pub after_line : List ℕ → List ℕ
after_line bytes = after_first is_line_end bytes

-- the first line has its end
abbrev pub is_first_ended : List ℕ → Bool
is_first_ended bytes = nat_lt (position_or_len is_line_end bytes) (length bytes)

-- how many bytes behind its end belong to a line
abbrev pub due : List ℕ → ℕ
due line = unwrap_or (bytes_due line) 0

-- the items of the first line
abbrev pub first_items : List ℕ → List Item
first_items bytes = items_of (first_line bytes) (after_line bytes)

-- the bytes behind the first line, its end and the bytes that belong to it
abbrev pub after_item : List ℕ → List ℕ
after_item bytes = drop (due (first_line bytes)) (after_line bytes)

-- the items of the first n lines
abbrev pub items_of_lines : ℕ → List ℕ → List Item
items_of_lines zero bytes = []
items_of_lines (suc n) bytes = first_items bytes ++ items_of_lines n (after_item bytes)

-- the items of all lines: bytes have no more lines than bytes
unfoldable pub script : List ℕ → List Item
script bytes = items_of_lines (length bytes) bytes

-- the first line has its end, and all bytes that belong to it follow
abbrev pub is_first_whole : List ℕ → Bool
is_first_whole bytes = is_first_ended bytes && nat_le (due (first_line bytes)) (length (after_line bytes))

-- the first line with its end and the bytes that belong to it
abbrev pub whole_line : List ℕ → List ℕ
whole_line bytes = take (position_or_len is_line_end bytes + 1 + due (first_line bytes)) bytes

-- those of the first n lines that are whole, up to the first that isn't
abbrev pub whole_lines : ℕ → List ℕ → List ℕ
whole_lines zero bytes = []
whole_lines (suc n) bytes = if is_first_whole bytes then whole_line bytes ++ whole_lines n (after_item bytes) else []

-- the longest prefix that is made of whole lines, each with its end and the bytes that belong to it
unfoldable pub whole : List ℕ → List ℕ
whole bytes = whole_lines (length bytes) bytes
