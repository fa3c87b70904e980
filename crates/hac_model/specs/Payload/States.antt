-- How a whole state is spelled in a store, and what the bytes of such a payload say.
use Rattle.std.specs.List.{flat_map}
use Rattle.std.specs.Prelude.{ℕ, Bool, true, false, ◌==◌, ◌&&◌, not, if◌then◌else◌, nat_lt, nat_le, List, [], ◌∷◌, ◌++◌, length, filter, map, Option, Some, None, Result, Ok}
use Rattle.std.specs.Option.{option_map}
use Rattle.std.specs.Str.{bytes_eq}
use Rattle.hac_model.specs.Run.Answers.{◌>>=◌}
use Rattle.hac_model.specs.Payload.Fields.{checked, choice, count, Field, list, nothing, num, Part, part, seen, Way, way, whole_way, ◌&◌}
use Rattle.hac_model.specs.Payload.Payloads.{all_of, name_field, nums, placed, rises, space_field, target_field, text_field}
use Rattle.hac_model.specs.Payload.QueryFields.{query_field, word_field}
use Rattle.hac_model.specs.Query.Terms.{is_term_before}
use Rattle.hac_model.specs.Versions.{docs_limit}
use Rattle.hac_model.specs.Tree.Listing.{children, is_before}
use Rattle.hac_model.specs.Tree.{is_document}
use Rattle.hac_model.specs.declared.states.Answer.{Answer}
use Rattle.hac_model.specs.declared.states.Body.{Body}
use Rattle.hac_model.specs.declared.states.Body.TheVariants.{File, Dir, Symlink, Semantic, Mount}
use Rattle.hac_model.specs.declared.states.Body.TheVariants as body
use Rattle.hac_model.specs.declared.snapshots.Document.{Document}
use Rattle.hac_model.specs.declared.snapshots.Snapshot.{Snapshot}
use Rattle.hac_model.specs.declared.snapshots.StoredEntry.{StoredEntry}
use Rattle.hac_model.specs.declared.states.Entry.{Entry}
use Rattle.hac_model.specs.declared.states.State.{State}
use Rattle.hac_model.specs.declared.terms.Term.{Term}
use Rattle.hac_model.specs.declared.terms.Term.TheVariants.{Word, Prefix}
use Rattle.hac_model.specs.declared.versions.Version.{Version}
use Rattle.hac_model.specs.declared.versions.Version.TheVariants.{One, Two}

-- ---- files

abbrev pub flag_part : Bool → Part
flag_part false = part 0 nothing tt
flag_part true = part 1 nothing tt

-- whether a file is dirty
abbrev pub flag_field : Field Bool
flag_field = choice flag_part (way 0 nothing (λ x. false) ∷ way 1 nothing (λ x. true) ∷ [])

-- a text that differs from another one
abbrev pub other_text : List ℕ → Field (List ℕ)
other_text text = checked text_field (λ shown. not (bytes_eq shown text))

abbrev pub shown_part : List ℕ → Option (List ℕ) → Part
shown_part text None = part 0 nothing tt
shown_part text (Some shown) = if bytes_eq shown text then part 1 nothing tt else part 2 (other_text text) shown

abbrev pub shown_ways : List ℕ → List (Way (Option (List ℕ)))
shown_ways text =
    way 0 nothing (λ x. None) ∷ way 1 nothing (λ x. Some text) ∷ way 2 (other_text text) (λ shown. Some shown) ∷ []

-- the text as it was last indexed, which has bytes of its own only where it differs from the text
abbrev pub shown_field : List ℕ → Field (Option (List ℕ))
shown_field text = choice (shown_part text) (shown_ways text)

-- a file's text, and that text behind it
abbrev pub texts_field : Field (List ℕ × Option (List ℕ))
texts_field = record {
  fits = λ x. text_field.fits x.0 && (shown_field x.0).fits x.1;
  text = λ x. text_field.text x.0 ++ (shown_field x.0).text x.1;
  read = λ bytes. text_field.read bytes >>= λ text. (shown_field text.0).read text.1 >>= λ shown. Ok ((text.0, shown.0), shown.1);
}

-- ---- mounts

-- documents of a mount, whose names rise
abbrev pub document_field : Version → Option Document → Field Document
document_field version last =
    seen (λ document. (document.number, document.name)) (λ x. record { number = x.0; name = x.1 })
    (num version & checked name_field (rises is_before (option_map (λ document. document.name) last)))

-- no more of them than a mount may have
abbrev pub documents_field : Version → Field (List Document)
documents_field version = list (checked count (λ n. nat_le n (docs_limit version))) (document_field version)

abbrev pub term_part : Term → Part
term_part (Word letters) = part 1 word_field letters
term_part (Prefix letters) = part 2 word_field letters

-- a term fails as one with its kind byte
abbrev pub term_field : Field Term
term_field = choice term_part (whole_way 1 word_field (λ letters. Word letters) ∷ whole_way 2 word_field (λ letters. Prefix letters) ∷ [])

-- what a space answered, whose terms rise
abbrev pub answer_field : Version → Option Answer → Field Answer
answer_field version last =
    seen (λ answer. (answer.term, answer.documents)) (λ x. record { term = x.0; documents = x.1 })
    (checked term_field (rises is_term_before (option_map (λ answer. answer.term) last)) & nums version)

-- ---- states

-- where nothing has documents, these have no bytes
abbrev pub no_documents : Field (List Document)
no_documents = record { fits = λ documents. length documents == 0; text = λ documents. []; read = λ bytes. Ok ([], bytes) }

-- what has no spelling
abbrev pub no_part : Part
no_part = record { fits = false; text = [] }

-- what an entry is, and the documents that are listed with it. Only a mount has any, and a document is listed there alone.
abbrev pub stored_part : Version → Body × List Document → Part
stored_part version stored = part_of stored.0
  where
    part_of : Body → Part
    part_of (File text dirty shown) = part 1 (flag_field & texts_field & no_documents) (dirty, ((text, shown), stored.1))
    part_of Dir = part 2 no_documents stored.1
    part_of (Symlink target) = part 3 (target_field & no_documents) (target, stored.1)
    part_of (Semantic query permanent prohibited) =
        part 4 (query_field version & nums version & nums version & no_documents) (query, (permanent, (prohibited, stored.1)))
    part_of (Mount space answers) = part 5 (space_field & documents_field version & list count (answer_field version)) (space, (stored.1, answers))
    part_of other = no_part

abbrev pub stored_ways : Version → List (Way (Body × List Document))
stored_ways version =
    way 1 (flag_field & texts_field) (λ x. (File x.1.0 x.0 x.1.1, []))
    ∷ way 2 nothing (λ x. (Dir, []))
    ∷ way 3 target_field (λ target. (Symlink target, []))
    ∷ way 4 (query_field version & nums version & nums version) (λ x. (Semantic x.0 x.1.0 x.1.1, []))
    ∷ way 5 (space_field & documents_field version & list count (answer_field version)) (λ x. (Mount x.0 x.1.1, x.1.0))
    ∷ []

abbrev pub stored_field : Version → Field (Body × List Document)
stored_field version = choice (stored_part version) (stored_ways version)

-- entries, whose numbers rise
abbrev pub entry_field : Version → Option StoredEntry → Field StoredEntry
entry_field version last =
    seen (λ stored. (stored.entry.number, (stored.entry.parent, (stored.entry.name, (stored.entry.body, stored.documents)))))
    (λ x. record { entry = record { number = x.0; parent = x.1.0; name = x.1.1.0; body = x.1.1.1.0 }; documents = x.1.1.1.1 })
    (checked (num version) (rises nat_lt (option_map (λ stored. stored.entry.number) last)) & num version & name_field & stored_field version)

-- the number that the next entry takes, and the entries
abbrev pub snapshot_field : Version → Field Snapshot
snapshot_field version =
    seen (λ s. (s.next, s.entries)) (λ x. record { version = version; next = x.0; entries = x.1 })
    (num version & list count (entry_field version))

-- ---- payloads

-- the kind of a payload that holds a state
abbrev pub state_kind : Version → ℕ
state_kind One = 2
state_kind Two = 3

-- how a state of a version is read
abbrev pub state_way : Version → Way Snapshot
state_way version = way (state_kind version) (snapshot_field version) (λ s. s)

-- a payload that holds a state: the byte of its kind, which tells its version, and the state
abbrev pub snapshot_payload : Field Snapshot
snapshot_payload = choice (λ s. part (state_kind s.version) (snapshot_field s.version) s) (state_way One ∷ state_way Two ∷ [])

-- what is stored of a state has a spelling: its parts are as they may be spelled
unfoldable pub is_spellable_snapshot : Snapshot → Bool
is_spellable_snapshot s = snapshot_payload.fits s

-- the payload that it is written as
unfoldable pub snapshot_text : Snapshot → List ℕ
snapshot_text s = snapshot_payload.text s

-- what a payload spells, or the place of the first field that has no allowed value or is cut short
unfoldable pub spelled_snapshot : List ℕ → Result Snapshot ℕ
spelled_snapshot bytes = placed (length bytes) (snapshot_payload.read bytes >>= all_of)

-- ---- what is stored of a state

-- a document, as it is listed with its mount
abbrev pub listed_document : Entry → Document
listed_document entry = record { number = entry.number; name = entry.name }

-- an entry with the documents that are in it, in order of their names
abbrev pub stored_entry : State → Entry → StoredEntry
stored_entry s entry = record {
  entry = entry;
  documents = map listed_document (filter (λ child. is_document child.body) (children s entry.number));
}

-- the entries, the documents left out, which are listed with their mounts; where sessions stand is left out too
unfoldable pub snapshot_of : State → Snapshot
snapshot_of s = record {
  version = s.version;
  next = s.next;
  entries = map (stored_entry s) (filter (λ entry. not (is_document entry.body)) s.entries);
}

-- ---- the state that a snapshot tells

-- a document of a mount, as an entry of it
abbrev pub document_entry : ℕ → Document → Entry
document_entry mount document = record { number = document.number; parent = mount; name = document.name; body = body.Document }

-- an entry, and behind it the documents that are listed with it
abbrev pub entries_in : StoredEntry → List Entry
entries_in stored = stored.entry ∷ map (document_entry stored.entry.number) stored.documents

-- an entry put into its place among entries in order of their numbers
abbrev pub put_by_number : Entry → List Entry → List Entry
put_by_number new [] = new ∷ []
put_by_number new (entry ∷ entries) =
    if nat_le new.number entry.number then new ∷ entry ∷ entries else entry ∷ put_by_number new entries

-- entries in order of their numbers
abbrev pub by_number : List Entry → List Entry
by_number [] = []
by_number (entry ∷ entries) = put_by_number entry (by_number entries)

-- the state that is told: the documents are among the entries again, and no session is anywhere but in the root
unfoldable pub restored : Snapshot → State
restored s = record { version = s.version; next = s.next; entries = by_number (flat_map entries_in s.entries); sessions = [] }
