-- How events are spelled in a store of a version, and what the bytes of a payload say.
use Rattle.std.specs.Prelude.{ℕ, Bool, true, false, ◌-◌, ◌==◌, if◌then◌else◌, nat_lt, nat_le, List, [], ◌∷◌, length, Option, Result, Ok, Err}
use Rattle.std.specs.Int.{w8, w16, w32}
use Rattle.std.specs.Option.{option_map_or}
use Rattle.hac_model.specs.Run.Answers.{◌>>=◌}
use Rattle.hac_model.specs.Payload.Fields.{checked, choice, count, Field, list, nothing, num, Part, part, run, Way, way, ◌&◌}
use Rattle.hac_model.specs.Tree.Listing.{is_before}
use Rattle.hac_model.specs.Tree.Names.{is_name}
use Rattle.hac_model.specs.Script.PathWords.{is_path_word}
use Rattle.hac_model.specs.Payload.QueryFields.{query_field}
use Rattle.hac_model.specs.Script.SpaceNames.{is_space_name}
use Rattle.hac_model.specs.Versions.{docs_limit}
use Rattle.hac_model.specs.declared.limits.TheConstants.{NAME_LIMIT, TARGET_LIMIT, TEXT_LIMIT}
use Rattle.hac_model.specs.declared.events.Event.{Event}
use Rattle.hac_model.specs.declared.events.Event.TheVariants.{Mkdir, NewFile, Rewrite, Ln, Mv, Rm, Rmdir, Smkdir, Setq, Unq, Mark, Smount, Ssync, Sumount, Step, Cd}
use Rattle.hac_model.specs.declared.marks.Kind.{Kind}
use Rattle.hac_model.specs.declared.marks.Kind.TheVariants.{Transient, Permanent, Prohibited, Unlinked}
use Rattle.hac_model.specs.declared.versions.Version.{Version}
use Rattle.hac_model.specs.declared.versions.Version.TheVariants.{One, Two}

-- ---- the fields of events

-- the name of an entry
abbrev pub name_field : Field (List ℕ)
name_field = run w8 NAME_LIMIT is_name

-- the name of a space
abbrev pub space_field : Field (List ℕ)
space_field = run w8 32 is_space_name

abbrev pub is_any : List ℕ → Bool
is_any bytes = true

-- the bytes of a file
abbrev pub text_field : Field (List ℕ)
text_field = run w32 TEXT_LIMIT is_any

-- where a symbolic link leads
abbrev pub target_field : Field (List ℕ)
target_field = run w16 TARGET_LIMIT is_path_word

-- what comes next is above what came last
abbrev pub rises : {A : Type 0} → (A → A → Bool) → Option A → A → Bool
rises less last next = option_map_or (λ before. less before next) last true

-- numbers that rise
abbrev pub nums : Version → Field (List ℕ)
nums version = list count (λ last. checked (num version) (rises nat_lt last))

-- the names of a space's documents, which rise, and are no more than a mount may have
abbrev pub docs_field : Version → Field (List (List ℕ))
docs_field version = list (checked count (λ n. nat_le n (docs_limit version))) (λ last. checked name_field (rises is_before last))

-- what spaces answered: for each question the numbers of documents
abbrev pub told_field : Version → Field (List (List ℕ))
told_field version = list count (λ last. nums version)

abbrev pub mark_part : Kind → Part
mark_part Unlinked = part 0 nothing tt
mark_part Permanent = part 1 nothing tt
mark_part Prohibited = part 2 nothing tt
mark_part Transient = record { fits = false; text = [] }

abbrev pub mark_ways : List (Way Kind)
mark_ways = way 0 nothing (λ x. Unlinked) ∷ way 1 nothing (λ x. Permanent) ∷ way 2 nothing (λ x. Prohibited) ∷ []

-- what an item is marked as; no mark makes a link transient
abbrev pub mark_field : Field Kind
mark_field = choice mark_part mark_ways

-- ---- events

-- the bytes of each event: the byte of its kind, and its fields. Where a session stands is never written.
abbrev pub event_part : Version → Event → Part
event_part version (Mkdir dir name) = part 1 (num version & name_field) (dir, name)
event_part version (NewFile dir name text) = part 2 (num version & name_field & text_field) (dir, (name, text))
event_part version (Rewrite file text) = part 3 (num version & text_field) (file, text)
event_part version (Ln dir name target) = part 4 (num version & name_field & target_field) (dir, (name, target))
event_part version (Mv entry dir name) = part 5 (num version & num version & name_field) (entry, (dir, name))
event_part version (Rm entry) = part 6 (num version) entry
event_part version (Rmdir dir) = part 7 (num version) dir
event_part version (Smkdir dir name query told) = part 8 (num version & name_field & query_field version & told_field version) (dir, (name, (query, told)))
event_part version (Setq dir query told) = part 9 (num version & query_field version & told_field version) (dir, (query, told))
event_part version (Unq dir) = part 10 (num version) dir
event_part version (Mark set) = part 11 (num version & num version & mark_field) (set.dir, (set.item, set.kind))
event_part version (Smount dir name space docs told) = part 12 (num version & name_field & space_field & docs_field version & told_field version) (dir, (name, (space, (docs, told))))
event_part version (Ssync mount docs told) = part 13 (num version & docs_field version & told_field version) (mount, (docs, told))
event_part version (Sumount mount) = part 14 (num version) mount
event_part version Step = part 15 nothing tt
event_part version (Cd session dir) = record { fits = false; text = [] }

-- how events of mounts are read, and an index step
abbrev pub mount_ways : Version → List (Way Event)
mount_ways version =
    way 12 (num version & name_field & space_field & docs_field version & told_field version) (λ x. Smount x.0 x.1.0 x.1.1.0 x.1.1.1.0 x.1.1.1.1)
    ∷ way 13 (num version & docs_field version & told_field version) (λ x. Ssync x.0 x.1.0 x.1.1)
    ∷ way 14 (num version) (λ mount. Sumount mount)
    ∷ way 15 nothing (λ x. Step)
    ∷ []

-- how events of semantic directories are read, and those
abbrev pub query_ways : Version → List (Way Event)
query_ways version =
    way 8 (num version & name_field & query_field version & told_field version) (λ x. Smkdir x.0 x.1.0 x.1.1.0 x.1.1.1)
    ∷ way 9 (num version & query_field version & told_field version) (λ x. Setq x.0 x.1.0 x.1.1)
    ∷ way 10 (num version) (λ dir. Unq dir)
    ∷ way 11 (num version & num version & mark_field) (λ x. Mark (record { dir = x.0; item = x.1.0; kind = x.1.1 }))
    ∷ mount_ways version

-- how any event is read
abbrev pub event_ways : Version → List (Way Event)
event_ways version =
    way 1 (num version & name_field) (λ x. Mkdir x.0 x.1)
    ∷ way 2 (num version & name_field & text_field) (λ x. NewFile x.0 x.1.0 x.1.1)
    ∷ way 3 (num version & text_field) (λ x. Rewrite x.0 x.1)
    ∷ way 4 (num version & name_field & target_field) (λ x. Ln x.0 x.1.0 x.1.1)
    ∷ way 5 (num version & num version & name_field) (λ x. Mv x.0 x.1.0 x.1.1)
    ∷ way 6 (num version) (λ entry. Rm entry)
    ∷ way 7 (num version) (λ dir. Rmdir dir)
    ∷ query_ways version

abbrev pub event_field : Version → Field Event
event_field version = choice (event_part version) (event_ways version)

-- ---- payloads

-- the kind of a payload that holds an event
abbrev pub event_kind : Version → ℕ
event_kind One = 1
event_kind Two = 4

-- a payload that holds an event: the byte of its kind, and the event
abbrev pub payload_field : Version → Field Event
payload_field version =
    choice (λ e. part (event_kind version) (event_field version) e) (way (event_kind version) (event_field version) (λ e. e) ∷ [])

-- the event has a spelling in a version: its fields are as they may be spelled, and it isn't about a session
unfoldable pub is_spellable : Version → Event → Bool
is_spellable version e = (payload_field version).fits e

-- the payload that an event is written as
unfoldable pub event_text : Version → Event → List ℕ
event_text version e = (payload_field version).text e

-- what was read, where no byte is left behind it
abbrev pub all_of : {A : Type 0} → A × List ℕ → Result A ℕ
all_of read = if length read.1 == 0 then Ok read.0 else Err (length read.1)

-- the place in a payload that has this many bytes left behind it
abbrev pub placed : {A : Type 0} → ℕ → Result A ℕ → Result A ℕ
placed size (Ok value) = Ok value
placed size (Err left) = Err (size - left)

-- the event that a payload spells in a version, or the place of the first field that has no allowed value or is cut short
unfoldable pub spelled : Version → List ℕ → Result Event ℕ
spelled version bytes = placed (length bytes) ((payload_field version).read bytes >>= all_of)
