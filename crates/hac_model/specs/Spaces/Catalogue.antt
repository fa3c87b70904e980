-- What a catalogue says: bytes with one document on a line, its name, a tab and its text.
use Rattle.std.specs.Prelude.{ℕ, ◌+◌, ◌-◌, ◌==◌, Bool, if◌then◌else◌, nat_lt, List, [], ◌∷◌, length}
use Rattle.std.specs.Prelude.{map, Option, Some, None, Result, Ok, Err}
use Rattle.std.specs.BTreeMap.{insert_entry}
use Rattle.std.specs.Cmp.Lexicographic.{slice_cmp}
use Rattle.std.specs.List.{after_first, before_first, list_all, list_any, onto_first}
use Rattle.std.specs.List.{position_or_len}
use Rattle.std.specs.Option.{ok_or, option_and_then, option_map}
use Rattle.std.specs.Ordering.{nat_cmp}
use Rattle.std.specs.Str.{bytes_eq}
use Rattle.hac_model.specs.Bytes.{is_line_end, is_space}
use Rattle.hac_model.specs.Run.Answers.{◌>>=◌}
use Rattle.hac_model.specs.Script.Texts.{text_of}
use Rattle.hac_model.specs.Tree.Limits.{is_text}
use Rattle.hac_model.specs.Tree.Names.{is_name}
use Rattle.hac_model.specs.declared.limits.TheConstants.{CATALOGUE_LIMIT}

-- a document: its name and its text
abbrev pub Document : Type 0
Document = List ℕ × List ℕ

abbrev pub is_tab : ℕ → Bool
is_tab b = b == 9

-- the lines of the bytes, each with its end; the last may have none
unfoldable pub lines : List ℕ → List (List ℕ)
lines [] = []
lines (b ∷ bytes) = if is_line_end b then (b ∷ []) ∷ lines bytes else onto_first b (lines bytes)

-- a line without its end
abbrev pub content : List ℕ → List ℕ
content line = before_first is_line_end line

-- the text that the bytes spell, where a file may have it
abbrev pub spelled_text : List ℕ → Option (List ℕ)
spelled_text bytes =
    option_and_then (λ text. if is_text text then Some text else None) (text_of bytes)

-- the document of a name and of the bytes that spell its text
abbrev pub document_named : List ℕ × List ℕ → Option Document
document_named parts =
    if is_name parts.0 then option_map (λ text. (parts.0, text)) (spelled_text parts.1) else None

-- the parts of the bytes before and behind the first that passes, where one does
abbrev pub split_once : (ℕ → Bool) → List ℕ → Option (List ℕ × List ℕ)
split_once p bytes =
    if nat_lt (position_or_len p bytes) (length bytes)
    then Some (before_first p bytes, after_first p bytes) else None

-- the document that a line spells: its name ends at the first tab, and any other tab is the text's
abbrev pub document_of : List ℕ → Option Document
document_of line = option_and_then document_named (split_once is_tab line)

-- the names of the documents
abbrev pub names : List Document → List (List ℕ)
names documents = map (λ document. document.0) documents

-- one of the documents has the name
abbrev pub has_name : List Document → List ℕ → Bool
has_name documents name = list_any (bytes_eq name) (names documents)

-- the documents and one more, in the order of their names; none where one of them has its name
-- already
abbrev pub with_document : List Document → Document → Option (List Document)
with_document documents document =
    if has_name documents document.0 then None
    else Some (insert_entry (slice_cmp nat_cmp) documents document.0 document.1)

-- the documents with that of a line; none where the line is bad. A blank line has none.
unfoldable pub with_line : List Document → List ℕ → Option (List Document)
with_line documents line =
    if list_all is_space line then Some documents
    else option_and_then (with_document documents) (document_of line)

-- the documents with those of some lines, or the number of the first bad line. The first line has
-- the number n, and the
-- lines may have so many bytes.
unfoldable pub with_lines : ℕ → ℕ → List (List ℕ) → List Document → Result (List Document) ℕ
with_lines n room [] documents = Ok documents
with_lines n room (line ∷ lines) documents =
    if nat_lt room (length line) then Err n
    else (ok_or (with_line documents (content line)) n
    >>= with_lines (n + 1) (room - length line) lines)

-- the documents of a catalogue in the order of their names, or the number of its first bad line
unfoldable pub catalogue : List ℕ → Result (List Document) ℕ
catalogue bytes = with_lines 1 CATALOGUE_LIMIT (lines bytes) []
