-- A line that is given is the first line of what is pending.
use Rattle.std.proofs.Common.{◌≡◌, ℕ, ◌+◌, ◌<◌, Bool, true, false, List, [], ◌++◌, length, take, drop, ap, sym, arith, length-append, length-drop, subst, refl, Option, Some, None, Result, Ok, Err, IfOk, OnOk}
use Rattle.std.specs.Prelude.{nat_le, nat_lt, if◌then◌else◌, MatchResult, OnErr}
use Rattle.std.specs.List.{position_or_len}
use Rattle.std.specs.Io.KnownBytes.{Keeps, prepend_known}
use Rattle.hac_outside.specs.Known.{Known}
use Rattle.hac_outside.specs.Seen.{SourceSeen}
use Rattle.std.proofs.lemmas.Grind.{common_steps}
use Rattle.hac_model.specs.Bytes.{is_line_end}
use Rattle.hac_model.specs.Script.Lines.{is_quiet}
use Rattle.hac_model.specs.declared.limits.TheConstants.{LINE_LIMIT}
use Rattle.hac_model.proofs.JoinLemmas.{position-ended, first_line-ended, after_line-ended}
use Rattle.line_reader.specs.declared.reading.Piece.{Piece}
use Rattle.line_reader.specs.declared.reading.Piece.TheVariants.{Blank, Bytes, LongLine}
use Rattle.line_reader.specs.declared.reading.LineFault.{LineFault}
use Rattle.line_reader.specs.declared.reading.Found.TheVariants.{Ended}
use Rattle.line_reader.specs.Reading.{Reading, IsReaderBehind, IsReaderOf, IsUnended, ReadsOn}
use Rattle.line_reader.specs.Pieces.{piece_of, GivesLine, GivesPiece, IsLineFound}

-- a line is given as a piece that has a line's clauses
from_line : (line : List ℕ) (ended : Bool) (bytes rest : List ℕ) → GivesLine (piece_of line) ended bytes rest → GivesPiece (piece_of line) ended bytes rest
from_line line ended bytes rest h =
    elim (is_quiet line) as (λ q. GivesLine (if q then Blank else (if nat_le (length line) LINE_LIMIT then Bytes line else LongLine)) ended bytes rest → GivesPiece (if q then Blank else (if nat_le (length line) LINE_LIMIT then Bytes line else LongLine)) ended bytes rest) [
      | true ↦ (λ h. h)
      | false ↦
          elim (nat_le (length line) LINE_LIMIT) as (λ s. GivesLine (if s then Bytes line else LongLine) ended bytes rest → GivesPiece (if s then Bytes line else LongLine) ended bytes rest) [ true ↦ (λ h. h) | false ↦ (λ h. h) ]
    ] h

-- more behind it doesn't take a line's end away
is_first_ended-ended : (buffered more : List ℕ) → position_or_len is_line_end buffered < length buffered → nat_lt (position_or_len is_line_end (buffered ++ more)) (length (buffered ++ more)) ≡ true
is_first_ended-ended buffered more h = rw (position-ended buffered more h, length-append buffered more) (grind (arith, common_steps))

-- with more behind it, an ended first line is given as it is
ended_line_given : (buffered more : List ℕ) (ended : Bool) → ended ≡ false → position_or_len is_line_end buffered < length buffered →
    GivesLine (piece_of (take (position_or_len is_line_end buffered) buffered)) ended (buffered ++ more) (drop (position_or_len is_line_end buffered + 1) buffered ++ more)
ended_line_given buffered more ended goes h =
    record {
      line = ap (λ (line : List ℕ). piece_of line) (sym (first_line-ended buffered more h));
      some = omega (arith, length-append buffered more);
      behind = sym (after_line-ended buffered more h);
      whole = λ _. is_first_ended-ended buffered more h;
      last = λ e. absurd cc;
    }

-- where a line with its end is buffered, the source has not ended
goes_on : (reading : Reading) → (reading.ended ≡ true → IsUnended reading.buffered) → position_or_len is_line_end reading.buffered < length reading.buffered → reading.ended ≡ false
goes_on reading last inside =
    elim reading.ended as (λ b. (b ≡ true → IsUnended reading.buffered) → b ≡ false) [
      | true ↦ (λ last. let unended : IsUnended reading.buffered = last refl in absurd (omega (arith, unended, inside)))
      | false ↦ (λ last. refl)
    ] last

-- an ended line is given of what is pending
gives-ended : (old left : Option (List ℕ)) (mid : Reading) → Keeps old (prepend_known mid.buffered left) → position_or_len is_line_end mid.buffered < length mid.buffered → mid.ended ≡ false →
    Known (GivesPiece (piece_of (take (position_or_len is_line_end mid.buffered) mid.buffered)) mid.ended) old (prepend_known (drop (position_or_len is_line_end mid.buffered + 1) mid.buffered) left)
gives-ended None left mid keeps inside goes = tt
gives-ended (Some x) None mid keeps inside goes = absurd keeps
gives-ended (Some x) (Some y) mid keeps inside goes =
    let line = take (position_or_len is_line_end mid.buffered) mid.buffered in
    let rest = drop (position_or_len is_line_end mid.buffered + 1) mid.buffered ++ y in
    subst (λ (bytes : List ℕ). GivesPiece (piece_of (take (position_or_len is_line_end mid.buffered) mid.buffered)) mid.ended bytes (drop (position_or_len is_line_end mid.buffered + 1) mid.buffered ++ y)) keeps
    (from_line line mid.ended (mid.buffered ++ y) rest (ended_line_given mid.buffered y mid.ended goes inside))

-- the same of what the call that gives an ended line answers
pub gives-ended-told : (result : Result Piece LineFault) (old mid new : Reading) (before after : SourceSeen) (end : ℕ) → IsReaderOf mid after → ReadsOn old mid before after →
    IsLineFound (Ended end) mid → IfOk result (λ piece. piece ≡ piece_of (take end mid.buffered)) → OnOk result (new ≡ record mid { buffered = drop (end + 1) mid.buffered }) →
    IfOk result (λ piece. Known (GivesPiece piece new.ended) (prepend_known old.buffered before.left) (prepend_known new.buffered after.left))
gives-ended-told (Ok piece) old mid new before after end source reads found piece_is new_is =
    let inside : position_or_len is_line_end mid.buffered < length mid.buffered = rw (sym found.0) found.1 in
    let given = gives-ended (prepend_known old.buffered before.left) after.left mid reads.pending inside (goes_on mid source.last inside) in
    let here : Known (GivesPiece (piece_of (take end mid.buffered)) mid.ended) (prepend_known old.buffered before.left) (prepend_known (drop (end + 1) mid.buffered) after.left) =
    subst (λ (n : ℕ). Known (GivesPiece (piece_of (take n mid.buffered)) mid.ended) (prepend_known old.buffered before.left) (prepend_known (drop (n + 1) mid.buffered) after.left)) (sym found.0) given in
    subst (λ (p : Piece). Known (GivesPiece p new.ended) (prepend_known old.buffered before.left) (prepend_known new.buffered after.left)) (sym piece_is)
    (subst (λ (r : Reading). Known (GivesPiece (piece_of (take end mid.buffered)) r.ended) (prepend_known old.buffered before.left) (prepend_known r.buffered after.left)) (sym new_is) here)
gives-ended-told (Err fault) old mid new before after end source reads found piece_is new_is = tt

-- a reader is behind a line that was given
pub line-ended : (result : Result Piece LineFault) (mid new : Reading) (after : SourceSeen) (end : ℕ) → IsReaderOf mid after → IsLineFound (Ended end) mid →
    OnOk result (new ≡ record mid { buffered = drop (end + 1) mid.buffered }) → OnErr result (new ≡ mid) → MatchResult result (λ _. IsReaderBehind 0 new after) (λ _. IsReaderOf new after)
line-ended (Ok piece) mid new after end source found new_is same =
    subst (λ (r : Reading). IsReaderBehind 0 r after) (sym new_is) (record {
      ended = source.ended;
      nothing = source.nothing;
      last = λ e. let unended : IsUnended mid.buffered = source.last e in absurd (omega (arith, unended, found.0, found.1));
      near = omega (arith, source.near, found.0, found.1, length-drop (end + 1) mid.buffered);
    })
line-ended (Err fault) mid new after end source found new_is same = subst (λ (r : Reading). IsReaderOf r after) (sym same) source

-- and where all that is buffered was given
pub line-last : (result : Result Piece LineFault) (mid new : Reading) (after : SourceSeen) → IsReaderOf mid after → OnOk result (new ≡ record mid { buffered = [] }) → OnErr result (new ≡ mid) →
    MatchResult result (λ _. IsReaderBehind 0 new after) (λ _. IsReaderOf new after)
line-last (Ok piece) mid new after source new_is same =
    subst (λ (r : Reading). IsReaderBehind 0 r after) (sym new_is) (record { ended = source.ended; nothing = source.nothing; last = λ e. refl; near = omega arith })
line-last (Err fault) mid new after source new_is same = subst (λ (r : Reading). IsReaderOf r after) (sym same) source
