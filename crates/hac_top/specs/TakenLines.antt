-- What a run takes up at a time: a line, and what came of the bytes that belong to it.
use Rattle.std.specs.Prelude.{◌≡◌, ⊤, ℕ, ◌+◌, ◌<◌, ◌≤◌, Bool, true, false, List, [], ◌∷◌, ◌++◌, length, drop, Option, None, Some, Err}
use Rattle.std.specs.Option.{option_map, unwrap_or}
use Rattle.hac_model.specs.Script.Lines.{Item, item_taken, put_length}
use Rattle.hac_model.specs.Script.Puts.{came}
use Rattle.hac_model.specs.Script.{first_items, after_item, whole}
use Rattle.hac_model.specs.declared.limits.LimitWord.TheVariants as limit
use Rattle.hac_model.specs.declared.limits.TheConstants.{SCRIPT_LIMIT}
use Rattle.hac_model.specs.declared.replies.Refusal.TheVariants.{Limit}
use Rattle.hac_model.specs.declared.taken.Taken.{Taken}
use Rattle.hac_outside.specs.Causes.{ReportsFault}
use Rattle.hac_outside.specs.Known.{Known}
use Rattle.hac_outside.specs.Seen.{SourceSeen}
use Rattle.line_reader.specs.Pieces.{GoesOn}
use Rattle.line_reader.specs.Reading.{Reading, given, pending, piece_size, IsReaderBehind, IsReaderOf, SameTotal}
use Rattle.line_reader.specs.declared.reading.Piece.{Piece}
use Rattle.line_reader.specs.declared.reading.Piece.TheVariants.{Blank, Bytes, LongLine, End}
use Rattle.hac_top.specs.Ends.{is_read_fault}
use Rattle.hac_top.specs.declared.status.Status.{Status}
use Rattle.hac_top.specs.declared.status.Status.TheVariants.{ReadFault, TooLong, Memory}
use Rattle.hac_top.specs.declared.taking.TakenLine.{TakenLine}

-- the items of a piece of the script, given what came of the bytes that it asks for
abbrev pub items_of_piece : Piece → Option Taken → List Item
items_of_piece Blank taken = []
items_of_piece (Bytes line) taken = item_taken line taken ∷ []
items_of_piece LongLine taken = Err (Limit limit.Line) ∷ []
items_of_piece End taken = []

abbrev pub items_of_taken : TakenLine → List Item
items_of_taken line = items_of_piece line.piece line.taken

-- how many bytes a piece asks for, where it is a line that takes bytes
abbrev pub due_of_piece : Piece → Option ℕ
due_of_piece Blank = None
due_of_piece (Bytes line) = put_length line
due_of_piece LongLine = None
due_of_piece End = None

-- one line, with the bytes that belong to it: a whole one where the stream goes on, and else the last
pub record IsLine (ended : Bool) (own rest : List ℕ) : Type 0 where
  pub one : after_item own ≡ []
  pub whole_is : ended ≡ false → whole own ≡ own
  pub last : ended ≡ true → rest ≡ []

-- it is the first line of these bytes, and the rest is pending then
pub record GivesTaken (line : TakenLine) (ended : Bool) (bytes rest : List ℕ) : Type 0 where
  pub own : List ℕ
  pub bytes_are : bytes ≡ own ++ rest
  pub some : 0 < length own
  pub items : items_of_taken line ≡ first_items own
  pub line_is : IsLine ended own rest

abbrev pub GivesFrom : Option TakenLine → Bool → List ℕ → List ℕ → Type 0
GivesFrom None ended bytes rest = (bytes ≡ []) × (rest ≡ [])
GivesFrom (Some line) ended bytes rest = GivesTaken line ended bytes rest

-- the same, if the source tells what it has left
abbrev pub Gives : Option TakenLine → Bool → Option (List ℕ) → Option (List ℕ) → Type 0
Gives line ended old new = Known (GivesFrom line ended) old new

-- how the reader meets the limit of a script
abbrev pub Advances : Option TakenLine → Reading → Reading → Type 0
Advances None old new = new.taken ≤ SCRIPT_LIMIT
Advances (Some line) old new = GoesOn old new

-- of what follows a piece, the bytes that it asks for were taken: all, or all that there are up to the end
pub record TakesDue (due : Option ℕ) (taken : Option Taken) (ended : Bool) (bytes rest : List ℕ) : Type 0 where
  pub taken_is : taken ≡ option_map (λ count. came count bytes) due
  pub behind : rest ≡ drop (unwrap_or due 0) bytes
  pub all : ended ≡ false → unwrap_or due 0 ≤ length bytes
  pub last : ended ≡ true → rest ≡ []

-- what is known of a reader and its source together: the bytes lie within the limit of a script, and less than one piece is held then
pub record GivesDue (due : Option ℕ) (taken : Option Taken) (old new : Reading) (before after : SourceSeen) : Type 0 where
  pub bytes : Known (TakesDue due taken new.ended) (pending old before.left) (pending new after.left)
  pub further : given old ≤ given new
  pub limit : given new ≤ SCRIPT_LIMIT
  pub source : IsReaderBehind 0 new after

-- no line of what was taken is whole, but for its last bytes, as many as lie beyond the limit of a script
pub record CutsLine (beyond : ℕ) (taken : List ℕ) : Type 0 where
  pub front : List ℕ
  pub over : List ℕ
  pub taken_is : taken ≡ front ++ over
  pub over_is : length over ≡ beyond
  pub none : whole front ≡ []

-- a run is stopped as it takes a line by a read that failed, by a script that is too long, or because memory ran out
abbrev pub StopsLine : Status → Type 0
StopsLine ReadFault = ⊤
StopsLine TooLong = ⊤
StopsLine Memory = ⊤
StopsLine other = ⊥

-- where a read failed no line of what was taken is whole, and where the script is too long none within its limit
abbrev pub CutsBy : Status → List ℕ → Type 0
CutsBy ReadFault taken = CutsLine 0 taken
CutsBy TooLong taken = CutsLine 1 taken
CutsBy other taken = ⊤

-- Before a stop part of what was pending was taken: one line with those of its bytes that came, and less than one piece
-- behind them.
pub record StopsIn (status : Status) (bytes left : List ℕ) : Type 0 where
  pub taken : List ℕ
  pub bytes_are : bytes ≡ taken ++ left
  pub line : List ℕ
  pub behind : List ℕ
  pub taken_is : taken ≡ line ++ behind
  pub one : after_item line ≡ []
  pub near : length behind < piece_size
  pub cuts : CutsBy status taken

-- What the reader took is what the source lost, and at most one byte of it lies beyond the limit of a script. A fault of
-- the source is reported, and no other is.
pub record LeavesSource (failed : Bool) (old new : Reading) (before after : SourceSeen) : Type 0 where
  pub total : SameTotal old.taken before.left new.taken after.left
  pub limit : new.taken ≤ SCRIPT_LIMIT + 1
  pub reported : ReportsFault failed before.faults after.faults

-- a line was taken, or the script has ended
pub record TakesLine (old new : Reading) (before after : SourceSeen) (line : Option TakenLine) : Type 0 where
  pub given : Gives line new.ended (pending old before.left) (pending new after.left)
  pub advances : Advances line old new
  pub reader : IsReaderOf new after
  pub source : LeavesSource false old new before after

-- no line was taken; where the source has ended, only because memory ran out
pub record StopsTaking (old new : Reading) (before after : SourceSeen) (status : Status) : Type 0 where
  pub why : StopsLine status
  pub stops : Known (StopsIn status) (pending old before.left) after.left
  pub goes : (status ≡ Memory → ⊥) → old.ended ≡ false
  pub past : status ≡ TooLong → new.taken ≡ SCRIPT_LIMIT + 1
  pub source : LeavesSource (is_read_fault status) old new before after
