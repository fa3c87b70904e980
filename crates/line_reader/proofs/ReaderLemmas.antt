-- A reader at the limit of a script, and a reader that has taken one more piece.
use Rattle.std.proofs.Common.{◌≡◌, ℕ, ◌+◌, ◌-◌, ◌<◌, ◌≤◌, Bool, true, false, cond, List, ◌++◌, length, refl, ap, sym, ◌∙◌, arith, rules, append_assoc, length-append, subst, Option, Some, None}
use Rattle.std.proofs.lemmas.Bool.{eqb-true}
use Rattle.std.specs.Prelude.{max, nat_eq, position, not}
use Rattle.std.proofs.lemmas.List.Folds.{prefix_len-append}
use Rattle.std.specs.List.{position_or_len}
use Rattle.std.specs.Io.KnownBytes.{prepend_known, Keeps, Consumes}
use Rattle.std.proofs.lemmas.Grind.{common_steps}
use Rattle.hac_model.specs.Bytes.{is_line_end}
use Rattle.hac_model.specs.Script.{is_first_ended}
use Rattle.hac_model.specs.declared.limits.TheConstants.{SCRIPT_LIMIT, TEXT_LIMIT}
use Rattle.hac_outside.specs.Seen.{SourceSeen}
use Rattle.line_reader.specs.Reading.{Reading, IsReading, IsUnended, IsReaderOf, SameTotal, ReadsOn, ReadsPiece, piece_size}
use Rattle.line_reader.specs.Pieces.{IsPastLimit}
use Rattle.hac_model.proofs.JoinLemmas.{position-ended}
use Rattle.hac_model.proofs.PrefixLemmas.{unended-take, position-none}
use Rattle.std.proofs.KnownBytes.{Keeps-trans}

-- how much there may be to read yet: a read takes a byte, or ends the source
abbrev pub reads_left : Reading → ℕ
reads_left reading = (SCRIPT_LIMIT + 1 - reading.taken) + cond reading.ended 0 1

-- a source that was read beyond the limit has not ended
not_ended : (ended : Bool) (taken : ℕ) → (ended ≡ true → taken ≤ SCRIPT_LIMIT) → SCRIPT_LIMIT < taken → ended ≡ false
not_ended true taken within beyond = absurd (omega (arith, within refl))
not_ended false taken within beyond = refl

-- a line end beyond the limit is the last byte that is buffered
pub past_at : (r : Reading) (end : ℕ) → end ≡ position_or_len is_line_end r.buffered → end < length r.buffered → IsReading r → SCRIPT_LIMIT ≤ (r.taken - length r.buffered) + end → IsPastLimit r
past_at r end place inside sound beyond =
    let taken : r.taken ≡ SCRIPT_LIMIT + 1 = omega (arith, sound.kept, sound.limit, sound.given) in
    record {
      taken = taken;
      ended = not_ended r.ended r.taken sound.ended (omega arith);
      buffered = omega arith;
      unended = unended-take is_line_end (length r.buffered - 1) r.buffered (omega (arith, sound.kept, sound.limit, sound.given));
    }

-- nor is a line buffered where there is no line end
pub past_all : (r : Reading) → IsReading r → IsUnended r.buffered → SCRIPT_LIMIT < r.taken → IsPastLimit r
past_all r sound unended beyond =
    record {
      taken = omega (arith, sound.limit);
      ended = not_ended r.ended r.taken sound.ended beyond;
      buffered = omega (arith, sound.given);
      unended = unended-take is_line_end (length r.buffered - 1) r.buffered (omega arith);
    }

pending_piece : (buffered piece : List ℕ) (before after : Option (List ℕ)) → Consumes before after piece → Keeps (prepend_known buffered before) (prepend_known (buffered ++ piece) after)
pending_piece buffered piece None after consumed = search rules
pending_piece buffered piece (Some left) None consumed = absurd consumed
pending_piece buffered piece (Some left) (Some rest) consumed = append_assoc buffered piece rest ∙ ap (λ (more : List ℕ). buffered ++ more) (sym consumed)

total_piece : (taken : ℕ) (piece : List ℕ) (before after : Option (List ℕ)) → Consumes before after piece → SameTotal taken before (taken + length piece) after
total_piece taken piece None after consumed = search rules
total_piece taken piece (Some left) None consumed = absurd consumed
total_piece taken piece (Some left) (Some rest) consumed = omega (arith, ap length consumed, length-append piece rest)

-- a piece that was put behind what is buffered
pub reads-piece : (old : Reading) (bytes : List ℕ) (count most : ℕ) (before after : SourceSeen) → old.ended ≡ false → length old.buffered ≤ old.taken →
    ReadsPiece old.buffered bytes before after count most → ReadsOn old (record { buffered = bytes; taken = old.taken + count; ended = nat_eq count 0 }) before after
reads-piece old bytes count most before after unended kept read =
    record {
      pending = subst (λ (all : List ℕ). Keeps (prepend_known old.buffered before.left) (prepend_known all after.left)) (sym read.bytes) (pending_piece old.buffered read.piece before.left after.left read.source);
      buffered = (read.piece, read.bytes);
      taken = omega arith;
      given = omega (arith, ap length read.bytes, length-append old.buffered read.piece, read.length_is);
      total = subst (λ (n : ℕ). SameTotal old.taken before.left (old.taken + n) after.left) read.length_is (total_piece old.taken read.piece before.left after.left read.source);
      ended = read.ended;
      nothing = λ e. read.end (eqb-true count 0 e);
      stays = λ e. cc;
    }

pub total_on : (m n o : ℕ) (a b c : Option (List ℕ)) → SameTotal m a n b → SameTotal n b o c → SameTotal m a o c
total_on m n o None b c first second = search rules
total_on m n o (Some x) None c first second = absurd first
total_on m n o (Some x) (Some y) None first second = absurd second
total_on m n o (Some x) (Some y) (Some z) first second = omega arith

-- reading once and once more
pub reads-on : (r s t : Reading) (a b c : SourceSeen) → ReadsOn r s a b → ReadsOn s t b c → ReadsOn r t a c
reads-on r s t a b c first second =
    record {
      pending = Keeps-trans (prepend_known r.buffered a.left) (prepend_known s.buffered b.left) (prepend_known t.buffered c.left) first.pending second.pending;
      buffered = (first.buffered.0 ++ second.buffered.0, second.buffered.1 ∙ ap (λ (xs : List ℕ). xs ++ second.buffered.0) first.buffered.1 ∙ append_assoc r.buffered first.buffered.0 second.buffered.0);
      taken = omega (arith, first.taken, second.taken);
      given = second.given ∙ first.given;
      total = total_on r.taken s.taken t.taken a.left b.left c.left first.total second.total;
      ended = second.ended;
      nothing = second.nothing;
      stays = λ e. second.stays (first.stays e);
    }

-- no line end is found
pub unended-told : (bytes buffered : List ℕ) → bytes ≡ buffered → None ≡ position is_line_end bytes → IsUnended buffered
unended-told bytes buffered same none = subst (λ (xs : List ℕ). IsUnended xs) same (position-none is_line_end bytes (sym none))

-- more behind it doesn't bring a line end nearer
position-more : (buffered more : List ℕ) → position_or_len is_line_end buffered ≤ position_or_len is_line_end (buffered ++ more)
position-more buffered more = grind (arith, common_steps, prefix_len-append (λ b. not (is_line_end b)) buffered more)

-- a line end that was buffered is buffered after more was read
pub ended-unended : (buffered more piece : List ℕ) → is_first_ended buffered ≡ true → more ≡ buffered ++ piece → IsUnended more → ⊥
ended-unended buffered more piece ended grown unended =
    let inside : position_or_len is_line_end buffered < length buffered = grind (arith, common_steps, ended) in
    let place : position_or_len is_line_end more ≡ position_or_len is_line_end buffered = ap (λ (xs : List ℕ). position_or_len is_line_end xs) grown ∙ position-ended buffered piece inside in
    omega (arith, place, unended, ap length grown, length-append buffered piece)

-- a piece that was put behind what is buffered leaves a reader sound
pub reading-piece : (old : Reading) (bytes : List ℕ) (count most : ℕ) (before after : SourceSeen) → IsReading old → old.taken ≤ SCRIPT_LIMIT →
    most + old.taken ≤ SCRIPT_LIMIT + 1 → ReadsPiece old.buffered bytes before after count most → IsReading (record { buffered = bytes; taken = old.taken + count; ended = nat_eq count 0 })
reading-piece old bytes count most before after sound more_may room read =
    let more : length bytes ≡ length old.buffered + count = omega (arith, ap length read.bytes, length-append old.buffered read.piece, read.length_is) in
    record {
      kept = omega (arith, sound.kept, more);
      limit = omega (arith, room, read.within);
      ended = λ e. let none : count ≡ 0 = eqb-true count 0 e in omega (arith, none, more_may);
      given = omega (arith, sound.given, more);
    }

-- what was scanned has no line end after more was read
pub scanned-on : (old bytes : List ℕ) (scanned count most : ℕ) (before after : SourceSeen) → scanned ≤ position_or_len is_line_end old → ReadsPiece old bytes before after count most →
    scanned ≤ position_or_len is_line_end bytes
scanned-on old bytes scanned count most before after known read =
    omega (arith, known, position-more old read.piece, ap (λ (xs : List ℕ). position_or_len is_line_end xs) read.bytes)

-- what is in memory after a piece was put behind what is buffered
pub filled-kept : (old bytes : List ℕ) (count most : ℕ) (before after : SourceSeen) → length old ≤ max (position_or_len is_line_end old) TEXT_LIMIT → most ≤ piece_size → ReadsPiece old bytes before after count most →
    length bytes ≤ max (position_or_len is_line_end bytes) TEXT_LIMIT + piece_size
filled-kept old bytes count most before after few small read =
    omega (arith, few, small, read.within, ap length read.bytes, length-append old read.piece, read.length_is, position-more old read.piece, ap (λ (xs : List ℕ). position_or_len is_line_end xs) read.bytes)

-- a reader that buffered no line end is at a line after it was filled
pub line-filled : (now new : Reading) (mid after : SourceSeen) → IsUnended now.buffered → ReadsOn now new mid after → length new.buffered ≤ length now.buffered + piece_size → (new.ended ≡ true → new.buffered ≡ now.buffered) → IsReaderOf new after
line-filled now new mid after unended reads near end =
    let longer = position-more now.buffered reads.buffered.0 in
    let same = ap (λ (xs : List ℕ). position_or_len is_line_end xs) reads.buffered.1 in
    record {
      ended = reads.ended;
      nothing = reads.nothing;
      last = λ e. subst (λ (xs : List ℕ). IsUnended xs) (sym (end e)) unended;
      near = omega (arith, near, unended, longer, same);
    }
