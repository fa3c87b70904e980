-- A line that is taken up with the bytes that belong to it.
use Rattle.std.proofs.Common.{◌≡◌, ℕ, ◌+◌, ◌-◌, ◌<◌, ◌≤◌, Bool, true, false, List, [], ◌∷◌, ◌++◌, length, take, drop, refl, ap, sym, ◌∙◌, arith, append_assoc, append-nil, length-append, length-drop, subst, Option, Some, Result, Ok, Err}
use Rattle.std.specs.Prelude.{if◌then◌else◌, nat_le, None}
use Rattle.std.specs.List.{position_or_len}
use Rattle.std.specs.Option.{option_map, unwrap_or}
use Rattle.std.specs.Io.KnownBytes.{Keeps, prepend_known}
use Rattle.std.proofs.Math.ListN.{drop_of_length-le}
use Rattle.std.proofs.Math.Seq.{drop-nil}
use Rattle.std.proofs.lemmas.Bool.{and_from}
use Rattle.std.proofs.lemmas.Grind.{common_steps}
use Rattle.std.proofs.lemmas.List.{take-append-drop, length-take, length-take-le}
use Rattle.hac_outside.specs.Causes.{ReportsFault}
use Rattle.hac_outside.specs.Known.{Known}
use Rattle.hac_outside.specs.Seen.{SourceSeen}
use Rattle.hac_outside.proofs.KnownLemmas.{known-behind, known-joined, known-kept, known-weaker}
use Rattle.hac_model.specs.Bytes.{is_line_end}
use Rattle.hac_model.specs.Script.Lines.{bytes_due, is_quiet, item_of, items_of, line_with, put_length, taken_of}
use Rattle.hac_model.specs.Script.Puts.{came}
use Rattle.hac_model.specs.Script.{first_line, after_line, is_first_ended, due, after_item, first_items, whole}
use Rattle.hac_model.specs.declared.limits.LimitWord.TheVariants as limit
use Rattle.hac_model.specs.declared.limits.TheConstants.{LINE_LIMIT}
use Rattle.hac_model.specs.declared.replies.Refusal.TheVariants.{Limit}
use Rattle.hac_model.specs.declared.taken.Taken.{Taken}
use Rattle.hac_model.proofs.JoinLemmas.{after_item-line, bytes-whole, first_items-line, whole-line, le-holds, first_line-is_unended, first_line-unended, after_line-unended, bytes-line, whole-short, whole-unended}
use Rattle.line_reader.specs.Pieces.{piece_of, GivesLine, GivesPiece, PieceAdvances, GoesOn, IsPastLimit}
use Rattle.line_reader.specs.Reading.{Reading, IsReaderBehind, IsReaderOf, IsUnended, LeavesReader, pending, piece_size, is_read_fault}
use Rattle.line_reader.specs.Takes.{Misses, within}
use Rattle.line_reader.specs.declared.reading.LineFault.{LineFault}
use Rattle.line_reader.specs.declared.reading.LineFault.TheVariants as why
use Rattle.line_reader.specs.declared.reading.Piece.{Piece}
use Rattle.line_reader.specs.declared.reading.Piece.TheVariants.{Blank, Bytes, LongLine, End}
use Rattle.line_reader.proofs.ReaderLemmas.{total_on}
use Rattle.hac_top.specs.Ends.{line_status}
use Rattle.hac_top.specs.TakenLines.{items_of_piece, due_of_piece, GivesTaken, GivesFrom, Gives, TakesDue, CutsBy, CutsLine, StopsIn, StopsTaking}
use Rattle.hac_top.specs.declared.status.Status.{Status}
use Rattle.hac_top.specs.declared.status.Status.TheVariants as status

-- the items of the piece that a line is given as, given what is taken of the bytes behind it, are the line's
items-taken : (bytes behind : List ℕ) → items_of_piece (piece_of bytes) (option_map (λ count. came count behind) (bytes_due bytes)) ≡ items_of bytes behind
items-taken bytes behind =
    elim (is_quiet bytes) as (λ q.
    items_of_piece (if q then Blank else piece) (option_map (λ count. came count behind) (if q then None else due_bytes))
    ≡ (if q then [] else item_of bytes behind ∷ [])) [
      | true ↦ refl
      | false ↦ elim (nat_le (length bytes) LINE_LIMIT) as (λ b. nat_le (length bytes) LINE_LIMIT ≡ b →
          items_of_piece (if b then Bytes bytes else LongLine) (option_map (λ count. came count behind) (if b then put_length bytes else None))
          ≡ item_of bytes behind ∷ []) [
            | true ↦ (λ is. refl)
            | false ↦ (λ is. ap (λ (b : Bool). (if b then line_with bytes (taken_of bytes behind) else Err (Limit limit.Line)) ∷ []) (sym is))
          ] refl
    ]
  where
    piece : Piece
    piece = if nat_le (length bytes) LINE_LIMIT then Bytes bytes else LongLine

    due_bytes : Option ℕ
    due_bytes = if nat_le (length bytes) LINE_LIMIT then put_length bytes else None

-- and so are the bytes that it asks for
due_of_piece-piece_of : (bytes : List ℕ) → due_of_piece (piece_of bytes) ≡ bytes_due bytes
due_of_piece-piece_of bytes = grind (arith, common_steps)

-- a piece that isn't the end of the script is a line
is_line : (piece : Piece) (ended : Bool) (bytes rest : List ℕ) → (piece ≡ End → ⊥) → GivesPiece piece ended bytes rest → GivesLine piece ended bytes rest
is_line End ended bytes rest not_end gives = absurd (not_end refl)
is_line other ended bytes rest not_end gives = gives

-- where a line is given, the reader goes on
pub goes-line : (piece : Piece) (old new : Reading) → (piece ≡ End → ⊥) → PieceAdvances piece old new → GoesOn old new
goes-line End old new not_end goes = absurd (not_end refl)
goes-line other old new not_end goes = goes

still_open : (old new : Bool) → (old ≡ true → new ≡ true) → new ≡ false → old ≡ false
still_open true new stays open_now = cc (stays refl)
still_open false new stays open_now = refl

due_is : (piece : Piece) (ended : Bool) (p q : List ℕ) → GivesLine piece ended p q → due_of_piece piece ≡ bytes_due (first_line p)
due_is piece ended p q gives = ap due_of_piece gives.line ∙ due_of_piece-piece_of (first_line p)

-- a line and what came of its bytes are taken up together
taken-is : (piece : Piece) (taken : Option Taken) (was ended : Bool) (p q r : List ℕ) → GivesLine piece was p q → TakesDue (due_of_piece piece) taken ended q r → (was ≡ true → ended ≡ true) →
    GivesTaken (record { piece = piece; taken = taken }) ended p r
taken-is piece taken was ended p q r gives takes stays =
    let first = first_line p in
    let asked = due_is piece was p q gives in
    let count : unwrap_or (due_of_piece piece) 0 ≡ due first = ap (λ (o : Option ℕ). unwrap_or o 0) asked in
    let told : taken ≡ option_map (λ count. came count (after_line p)) (bytes_due (first_line p)) =
    takes.taken_is ∙ ap (λ (o : Option ℕ). option_map (λ count. came count q) o) asked ∙ ap (λ (behind : List ℕ). option_map (λ count. came count behind) (bytes_due (first_line p))) gives.behind in
    let items : items_of_piece piece taken ≡ first_items p =
    ap (λ (given : Piece). items_of_piece given taken) gives.line ∙ ap (λ (t : Option Taken). items_of_piece (piece_of (first_line p)) t) told ∙ items-taken first (after_line p) in
    let behind : r ≡ after_item p = takes.behind ∙ ap (λ (n : ℕ). drop n q) count ∙ ap (λ (behind : List ℕ). drop (due (first_line p)) behind) gives.behind in
    let xs = take (due (first_line p)) (after_line p) in
    elim ended as (λ b. (b ≡ true → r ≡ []) → (b ≡ false → unwrap_or (due_of_piece piece) 0 ≤ length q) → (was ≡ true → b ≡ true) → GivesTaken (record { piece = piece; taken = taken }) b p r) [
      | true ↦ (λ last _ _. record {
        own = p;
        bytes_are = sym (ap (λ (rest : List ℕ). p ++ rest) (last refl) ∙ append-nil p);
        some = gives.some;
        items = items;
        line_is = record { one = sym behind ∙ last refl; whole_is = λ e. absurd cc; last = last };
      })
      | false ↦ (λ last all stays.
          let enough : due first ≤ length (after_line p) = omega (arith, all refl, count, ap length gives.behind) in
          let is_cut = bytes-whole p (and_from (is_first_ended p) (nat_le (due (first_line p)) (length (after_line p))) (gives.whole (still_open was false stays refl)) (le-holds (due (first_line p)) (length (after_line p)) enough)) in
          let unended = first_line-is_unended p in
          let alone : first ++ 10 ∷ xs ≡ first ++ 10 ∷ (xs ++ []) = ap (λ (all : List ℕ). first ++ 10 ∷ all) (sym (append-nil xs)) in
          record {
            own = first ++ 10 ∷ xs;
            bytes_are = is_cut.bytes ∙ ap (λ (rest : List ℕ). first ++ 10 ∷ (xs ++ rest)) (sym behind) ∙ sym (append_assoc first (10 ∷ xs) r);
            some = omega (arith, length-append first (10 ∷ xs));
            items = items ∙ ap first_items is_cut.bytes ∙ first_items-line first xs (after_item p) unended is_cut.asked ∙ sym (ap first_items alone ∙ first_items-line first xs [] unended is_cut.asked);
            line_is = record {
              one = ap after_item alone ∙ after_item-line first xs [] unended is_cut.asked;
              whole_is = λ _. ap whole alone ∙ whole-line first xs [] unended is_cut.asked ∙ ap (λ (rest : List ℕ). (first ++ 10 ∷ xs) ++ rest) (whole-unended [] refl) ∙ append-nil (first ++ 10 ∷ xs);
              last = last;
            };
          })
    ] takes.last takes.all stays

pub taken-gives : (piece : Piece) (taken : Option Taken) (was ended : Bool) (old mid new : Option (List ℕ)) → (piece ≡ End → ⊥) → Known (GivesPiece piece was) old mid →
    Known (TakesDue (due_of_piece piece) taken ended) mid new → (was ≡ true → ended ≡ true) → Gives (Some (record { piece = piece; taken = taken })) ended old new
taken-gives piece taken was ended old mid new not_end gives takes stays =
    known-joined (GivesPiece piece was) (TakesDue (due_of_piece piece) taken ended) (GivesFrom (Some (record { piece = piece; taken = taken })) ended) old mid new
    (λ p q r given took. taken-is piece taken was ended p q r (is_line piece was p q not_end given) took stays) gives takes

-- a line with the bytes that came, cut within these
cut-at : (n : ℕ) (line gone buffered : List ℕ) → line ++ 10 ∷ (gone ++ buffered) ≡ (line ++ 10 ∷ (gone ++ take n buffered)) ++ drop n buffered
cut-at n line gone buffered =
    ap (λ (xs : List ℕ). line ++ 10 ∷ (gone ++ xs)) (sym (take-append-drop n buffered)) ∙ ap (λ (xs : List ℕ). line ++ 10 ∷ xs) (sym (append_assoc gone (take n buffered) (drop n buffered)))
    ∙ sym (append_assoc line (10 ∷ (gone ++ take n buffered)) (drop n buffered))

-- of a line whose bytes did not all come, nothing that was taken is whole
misses-cut : (fault : LineFault) (piece : Piece) (beyond : ℕ) (new : Reading) (p q left : List ℕ) → GivesLine piece false p q → (misses : Misses fault (unwrap_or (due_of_piece piece) 0) new q left) →
    (fault ≡ why.Memory → ⊥) → length new.buffered ≡ within new + beyond → CutsLine beyond (first_line p ++ 10 ∷ (misses.gone ++ new.buffered))
misses-cut fault piece beyond new p q left gives misses not_memory beyond_is =
    let first = first_line p in
    let count : unwrap_or (due_of_piece piece) 0 ≡ due (first_line p) = ap (λ (o : Option ℕ). unwrap_or o 0) (due_is piece false p q gives) in
    let own = misses.gone ++ take (within new) new.buffered in
    let few : length own < due (first_line p) =
    omega (arith, length-append misses.gone (take (within new) new.buffered), length-take-le (within new) new.buffered (omega (arith, beyond_is)), misses.missing not_memory, count) in
    record {
      front = first ++ 10 ∷ own;
      over = drop (within new) new.buffered;
      taken_is = cut-at (within new) first misses.gone new.buffered;
      over_is = omega (arith, length-drop (within new) new.buffered, beyond_is);
      none = whole-short first own (first_line-is_unended p) few;
    }

-- a reader that failed while it took the bytes of a line
module _ (T : Type 0) (mid new : Reading) (before after : SourceSeen) where
  misses-by : (fault : LineFault) (piece : Piece) (p q left : List ℕ) → GivesLine piece false p q → (misses : Misses fault (unwrap_or (due_of_piece piece) 0) new q left) → LeavesReader {T = T} (Err fault) mid new before after →
      CutsBy (line_status fault) (first_line p ++ 10 ∷ (misses.gone ++ new.buffered))
  misses-by why.Read piece p q left gives misses leaves = misses-cut why.Read piece 0 new p q left gives misses (λ m. cc) (omega (arith, (leaves.unended refl).1))
  misses-by why.TooLong piece p q left gives misses leaves = misses-cut why.TooLong piece 1 new p q left gives misses (λ m. cc) (omega (arith, (leaves.past refl).1, leaves.sound.given))
  misses-by why.Memory piece p q left gives misses leaves = tt

  -- where the source has ended it fails only if memory runs out
  goes-by : (fault : LineFault) → LeavesReader {T = T} (Err fault) mid new before after → (line_status fault ≡ status.Memory → ⊥) → mid.ended ≡ false
  goes-by why.Read leaves other = still_open mid.ended new.ended leaves.stays (leaves.unended refl).0
  goes-by why.TooLong leaves other = still_open mid.ended new.ended leaves.stays (leaves.past refl).0
  goes-by why.Memory leaves other = absurd (other refl)

  pub stops-taking : (fault : LineFault) → LeavesReader {T = T} (Err fault) mid new before after → Known (StopsIn (line_status fault)) (pending mid before.left) after.left → StopsTaking mid new before after (line_status fault)
  stops-taking why.Read leaves stops =
      record { why = tt; stops = stops; goes = goes-by why.Read leaves; past = λ e. cc; source = record { total = leaves.total; limit = leaves.sound.limit; reported = leaves.faults } }
  stops-taking why.TooLong leaves stops =
      record { why = tt; stops = stops; goes = goes-by why.TooLong leaves; past = λ e. (leaves.past refl).1; source = record { total = leaves.total; limit = leaves.sound.limit; reported = leaves.faults } }
  stops-taking why.Memory leaves stops =
      record { why = tt; stops = stops; goes = goes-by why.Memory leaves; past = λ e. cc; source = record { total = leaves.total; limit = leaves.sound.limit; reported = leaves.faults } }

-- two calls of a reader are one
pub leaves-on : (T U : Type 0) (value : T) (result : Result U LineFault) (old mid new : Reading) (a b c : SourceSeen) → LeavesReader {T = T} (Ok value) old mid a b → LeavesReader {T = U} result mid new b c → LeavesReader {T = U} result old new a c
leaves-on T U value result old mid new a b c first second =
    record {
      sound = second.sound;
      stays = λ e. second.stays (first.stays e);
      total = total_on old.taken mid.taken new.taken a.left b.left c.left first.total second.total;
      faults = subst (λ (n : ℕ). ReportsFault (is_read_fault result) n c.faults) first.faults second.faults;
      unended = second.unended;
      past = second.past;
    }

pub no_rest : (xs ys : List ℕ) → xs ++ ys ≡ [] → ys ≡ []
no_rest [] ys e = e
no_rest (x ∷ xs) ys e = cc

-- a line with its end alone takes no bytes
line-alone : (line : List ℕ) → IsUnended line → after_item (line ++ 10 ∷ []) ≡ []
line-alone line unended =
    ap (λ (behind : List ℕ). drop (due (first_line (line ++ 10 ∷ []))) behind) (after_line-unended line [] unended) ∙ drop-nil (due (first_line (line ++ 10 ∷ [])))

-- of what is buffered of a line that wasn't given, nothing is whole
buffered-by : (fault : LineFault) (r : Reading) → (fault ≡ why.Read → IsUnended r.buffered) → (fault ≡ why.TooLong → IsPastLimit r) → CutsBy (line_status fault) r.buffered
buffered-by why.Read r unended past = record { front = r.buffered; over = []; taken_is = sym (append-nil r.buffered); over_is = refl; none = whole-unended r.buffered (unended refl) }
buffered-by why.TooLong r unended past =
    let most = length r.buffered - 1 in
    record {
      front = take most r.buffered;
      over = drop most r.buffered;
      taken_is = sym (take-append-drop most r.buffered);
      over_is = omega (arith, length-drop most r.buffered, (past refl).buffered);
      none = whole-unended (take most r.buffered) (past refl).unended;
    }
buffered-by why.Memory r unended past = tt

-- a run that stops before a line is given stops in the first that is buffered
held-in : (status : Status) (buffered left line behind : List ℕ) → buffered ≡ line ++ behind → after_item line ≡ [] → length behind < piece_size → CutsBy status buffered → StopsIn status (buffered ++ left) left
held-in status buffered left line behind taken_is one near cuts = record { taken = buffered; bytes_are = refl; line = line; behind = behind; taken_is = taken_is; one = one; near = near; cuts = cuts }

buffered-stops : (status : Status) (buffered left : List ℕ) → length buffered < position_or_len is_line_end buffered + 1 + piece_size → CutsBy status buffered → StopsIn status (buffered ++ left) left
buffered-stops status buffered left near cuts =
    elim (is_first_ended buffered) as (λ t. is_first_ended buffered ≡ t → StopsIn status (buffered ++ left) left) [
      | true ↦ (λ ended.
          let line = first_line buffered in
          held-in status buffered left (line ++ 10 ∷ []) (after_line buffered) (bytes-line buffered ended ∙ sym (append_assoc line (10 ∷ []) (after_line buffered))) (line-alone line (first_line-is_unended buffered))
          (omega (arith, near, length-drop (position_or_len is_line_end buffered + 1) buffered)) cuts)
      | false ↦ (λ unended.
          let no_end : length buffered ≤ position_or_len is_line_end buffered = grind (arith, common_steps, unended) in
          let none : after_line buffered ≡ [] = drop_of_length-le buffered (omega (arith, no_end)) in
          held-in status buffered left buffered [] (sym (append-nil buffered)) (ap (λ (behind : List ℕ). drop (due (first_line buffered)) behind) none ∙ drop-nil (due (first_line buffered))) (omega arith) cuts)
    ] refl

pub buffered-stop : (fault : LineFault) (old left : Option (List ℕ)) (r : Reading) → length r.buffered < position_or_len is_line_end r.buffered + 1 + piece_size → Keeps old (prepend_known r.buffered left) →
    (fault ≡ why.Read → IsUnended r.buffered) → (fault ≡ why.TooLong → IsPastLimit r) → Known (StopsIn (line_status fault)) old left
buffered-stop fault old left r near keeps unended past =
    known-weaker (λ p l. p ≡ r.buffered ++ l) (StopsIn (line_status fault)) old left
    (λ p l same. subst (λ (xs : List ℕ). StopsIn (line_status fault) xs l) (sym same) (buffered-stops (line_status fault) r.buffered l near (buffered-by fault r unended past)))
    (known-behind (λ p q. p ≡ q) old left r.buffered (known-kept old (prepend_known r.buffered left) keeps))

-- a run that stops while it takes the bytes of a line stops in that line
misses-stop : (T : Type 0) (fault : LineFault) (piece : Piece) (was : Bool) (mid new : Reading) (before after : SourceSeen) (p q left : List ℕ) → was ≡ mid.ended → GivesLine piece was p q →
    Misses fault (unwrap_or (due_of_piece piece) 0) new q left → LeavesReader {T = T} (Err fault) mid new before after → StopsIn (line_status fault) p left
misses-stop T why.Read piece true mid new before after p q left is gives misses leaves = absurd (let never : mid.ended ≡ false = goes-by T mid new before after why.Read leaves (λ m. cc) in cc)
misses-stop T why.TooLong piece true mid new before after p q left is gives misses leaves = absurd (let never : mid.ended ≡ false = goes-by T mid new before after why.TooLong leaves (λ m. cc) in cc)
misses-stop T why.Memory piece true mid new before after p q left is gives misses leaves =
    let nothing : q ≡ [] = gives.last refl in
    let none : new.buffered ++ left ≡ [] = no_rest misses.gone (new.buffered ++ left) (sym misses.bytes_are ∙ nothing) in
    record {
      taken = p;
      bytes_are = sym (ap (λ (xs : List ℕ). p ++ xs) (no_rest new.buffered left none) ∙ append-nil p);
      line = p;
      behind = [];
      taken_is = sym (append-nil p);
      one = ap (λ (behind : List ℕ). drop (due (first_line p)) behind) (sym gives.behind ∙ nothing) ∙ drop-nil (due (first_line p));
      near = omega arith;
      cuts = tt;
    }
misses-stop T fault piece false mid new before after p q left is gives misses leaves =
    let line = first_line p in
    let buffered = new.buffered in
    let count : unwrap_or (due_of_piece piece) 0 ≡ due (first_line p) = ap (λ (o : Option ℕ). unwrap_or o 0) (due_is piece false p q gives) in
    let more = due (first_line p) - length misses.gone in
    let own = misses.gone ++ take more buffered in
    let few : length own ≤ due (first_line p) = omega (arith, length-append misses.gone (take more buffered), length-take more buffered, misses.few, count) in
    record {
      taken = line ++ 10 ∷ (misses.gone ++ buffered);
      bytes_are =
          bytes-line p (gives.whole refl) ∙ ap (λ (behind : List ℕ). first_line p ++ 10 ∷ behind) (sym gives.behind ∙ misses.bytes_are ∙ sym (append_assoc misses.gone buffered left))
          ∙ sym (append_assoc line (10 ∷ (misses.gone ++ buffered)) left);
      line = line ++ 10 ∷ own;
      behind = drop more buffered;
      taken_is = cut-at more line misses.gone buffered;
      one =
          ap (λ (first : List ℕ). drop (due first) (after_line (line ++ 10 ∷ own))) (first_line-unended line own (first_line-is_unended p))
          ∙ ap (λ (behind : List ℕ). drop (due line) behind) (after_line-unended line own (first_line-is_unended p))
          ∙ drop_of_length-le own few;
      near = omega (arith, length-drop more buffered, misses.near, misses.few, count);
      cuts = misses-by T mid new before after fault piece p q left gives misses leaves;
    }

pub taken-stop : (T : Type 0) (fault : LineFault) (piece : Piece) (mid new : Reading) (before after : SourceSeen) (old between left : Option (List ℕ)) → (piece ≡ End → ⊥) → Known (GivesPiece piece mid.ended) old between →
    Known (Misses fault (unwrap_or (due_of_piece piece) 0) new) between left → LeavesReader {T = T} (Err fault) mid new before after → Known (StopsIn (line_status fault)) old left
taken-stop T fault piece mid new before after old between left not_end gives misses leaves =
    known-joined (GivesPiece piece mid.ended) (Misses fault (unwrap_or (due_of_piece piece) 0) new) (StopsIn (line_status fault)) old between left
    (λ p q l given missed. misses-stop T fault piece mid.ended mid new before after p q l refl (is_line piece mid.ended p q not_end given) missed leaves) gives misses

-- a reader behind all that a line asks for is at the next one
pub next-reader : (r : Reading) (source : SourceSeen) → IsReaderBehind 0 r source → IsReaderOf r source
next-reader r source behind =
    record {
      ended = behind.ended;
      nothing = behind.nothing;
      last = λ e. let none : r.buffered ≡ [] = behind.last e in ap (λ (xs : List ℕ). position_or_len is_line_end xs) none ∙ sym (ap length none);
      near = omega (arith, behind.near);
    }
