-- A reader that gives the bytes behind a line.
use Rattle.std.proofs.Common.{◌≡◌, ℕ, ◌+◌, ◌-◌, ◌<◌, ◌≤◌, Bool, true, false, List, [], ◌∷◌, ◌++◌, length, take, drop, refl, ap, sym, ◌∙◌, arith, rules, append_assoc, append-nil, length-append, length-drop, drop-drop, subst, inl, Option, Some, None}
use Rattle.std.specs.Prelude.{◌⊎◌, nat_le, nat_lt, if◌then◌else◌, min, max, Result, Ok, Err, IfErr}
use Rattle.std.specs.List.{position_or_len}
use Rattle.std.specs.Io.KnownBytes.{prepend_known, Consumes, IsAtEnd}
use Rattle.std.proofs.Math.Seq.{take-append_seam, drop-append_seam, drop-nil}
use Rattle.std.proofs.lemmas.Grind.{common_steps}
use Rattle.std.proofs.lemmas.List.{length-take-le, take-append-drop}
use Rattle.hac_model.specs.Bytes.{is_line_end}
use Rattle.hac_model.specs.Script.Puts.{came}
use Rattle.hac_model.specs.declared.limits.TheConstants.{SCRIPT_LIMIT, TEXT_LIMIT}
use Rattle.hac_model.specs.declared.taken.Taken.TheVariants.{Whole, Dropped, Short}
use Rattle.hac_model.proofs.PrefixLemmas.{position-skip}
use Rattle.hac_outside.specs.Known.{Known}
use Rattle.hac_outside.specs.Seen.{SourceSeen}
use Rattle.line_reader.specs.Reading.{Reading, IsReading, IsReaderBehind, SameTotal, ReadsOn, given, piece_size}
use Rattle.line_reader.specs.Takes.{Takes, Misses, GivesPut, FallsShort, within}
use Rattle.line_reader.specs.declared.reading.LineFault.{LineFault}
use Rattle.line_reader.specs.declared.reading.LineFault.TheVariants as why
use Rattle.line_reader.proofs.ReaderLemmas.{total_on}
use Rattle.std.proofs.KnownBytes.{Consumes-kept, Consumes-nil, Keeps-refl}

-- where scanning goes on, after this many bytes were given
pub scanned-moved : (start scanned count : ℕ) (bytes : List ℕ) → start ≤ scanned → scanned ≤ start + position_or_len is_line_end (drop start bytes) → count ≤ length (drop start bytes) →
    max scanned (start + count) ≤ start + count + position_or_len is_line_end (drop (start + count) bytes)
scanned-moved start scanned count bytes begun known inside =
    elim (nat_le count (position_or_len is_line_end (drop start bytes))) as (λ b. nat_le count (position_or_len is_line_end (drop start bytes)) ≡ b → max scanned (start + count) ≤ start + count + position_or_len is_line_end (drop (start + count) bytes)) [
      | true ↦ (λ test.
          let before : count ≤ position_or_len is_line_end (drop start bytes) = grind (arith, common_steps, test) in
          let skipped = position-skip is_line_end count (drop start bytes) before in
          let same : drop count (drop start bytes) ≡ drop (start + count) bytes = drop-drop count start bytes in
          omega (arith, known, before, skipped, ap (λ (xs : List ℕ). position_or_len is_line_end xs) same))
      | false ↦ (λ test.
          let behind : position_or_len is_line_end (drop start bytes) < count = grind (arith, common_steps, test) in
          omega (arith, known, behind))
    ] refl

-- bytes within the limit that are given from what is buffered leave a reader sound
pub reading-moved : (old : Reading) (count : ℕ) → IsReading old → count ≤ within old → IsReading (record { buffered = drop count old.buffered; taken = old.taken; ended = old.ended })
reading-moved old count sound inside =
    record {
      kept = omega (arith, sound.kept, length-drop count old.buffered);
      limit = sound.limit;
      ended = sound.ended;
      given = omega (arith, sound.given, sound.limit, inside, length-drop count old.buffered);
    }

-- bytes that came, of which the first were given
consumes-moved : (all after : Option (List ℕ)) (front buffered : List ℕ) (count : ℕ) → Consumes all (prepend_known buffered after) front → Consumes all (prepend_known (drop count buffered) after) (front ++ take count buffered)
consumes-moved None after front buffered count h = search rules
consumes-moved (Some x) None front buffered count h = absurd h
consumes-moved (Some x) (Some y) front buffered count h =
    h ∙ ap (λ (xs : List ℕ). front ++ (xs ++ y)) (sym (take-append-drop count buffered)) ∙ ap (λ (xs : List ℕ). front ++ xs) (append_assoc (take count buffered) (drop count buffered) y)
    ∙ sym (append_assoc front (take count buffered) (drop count buffered ++ y))

pub no_bytes : (bytes : List ℕ) → length bytes ≡ 0 → bytes ≡ []
no_bytes [] none = refl
no_bytes (byte ∷ bytes) none = absurd (omega arith)

-- all bytes came
came-whole : (count : ℕ) (front rest : List ℕ) → length front ≡ count → came count (front ++ rest) ≡ (if nat_le count TEXT_LIMIT then Whole front else Dropped)
came-whole count front rest e =
    let all : nat_lt (length (front ++ rest)) count ≡ false = grind (arith, common_steps, length-append front rest, e) in
    let part : take count (front ++ rest) ≡ front = ap (λ (n : ℕ). take n (front ++ rest)) (sym e) ∙ take-append_seam front rest in
    ap (λ (short : Bool). if short then Short else (if nat_le count TEXT_LIMIT then Whole (take count (front ++ rest)) else Dropped)) all
    ∙ ap (λ (text : List ℕ). if nat_le count TEXT_LIMIT then Whole text else Dropped) part

at-end : (buffered : List ℕ) (left : Option (List ℕ)) → buffered ≡ [] → IsAtEnd left → IsAtEnd (prepend_known buffered left)
at-end buffered None none end = tt
at-end buffered (Some l) none end = ap (λ (xs : List ℕ). xs ++ l) none ∙ end

same-total : (taken : ℕ) (left : Option (List ℕ)) → SameTotal taken left taken left
same-total taken None = tt
same-total taken (Some x) = refl

-- all bytes that were asked for are taken
takes-all : (ended : Bool) (old new : Option (List ℕ)) (asked : ℕ) (front : List ℕ) → Consumes old new front → length front ≡ asked → (ended ≡ true → IsAtEnd new) →
    Known (Takes (if nat_le asked TEXT_LIMIT then Whole front else Dropped) asked ended) old new
takes-all ended None new asked front h counted last = tt
takes-all ended (Some x) None asked front h counted last = absurd h
takes-all ended (Some x) (Some y) asked front h counted last =
    record {
      taken_is = sym (ap (λ (xs : List ℕ). came asked xs) h ∙ came-whole asked front y counted);
      behind = sym (ap (λ (xs : List ℕ). drop asked xs) h ∙ ap (λ (n : ℕ). drop n (front ++ y)) (sym counted) ∙ drop-append_seam front y);
      whole = λ _. omega (arith, ap length h, length-append front y, counted);
      last = last;
    }

misses : (fault : LineFault) (asked : ℕ) (now : Reading) (old left : Option (List ℕ)) (gone : List ℕ) → Consumes old (prepend_known now.buffered left) gone → (asked ≤ TEXT_LIMIT → gone ≡ []) → length gone ≤ asked →
    length gone + length now.buffered < asked + piece_size → ((fault ≡ why.Memory → ⊥) → length gone + within now < asked) → Known (Misses fault asked now) old left
misses fault asked now None left gone h kept few near missing = tt
misses fault asked now (Some x) None gone h kept few near missing = absurd h
misses fault asked now (Some x) (Some y) gone h kept few near missing = record { gone = gone; bytes_are = h; kept = kept; few = few; near = near; missing = missing }

-- bytes that a text may have were read, and all that came are buffered
pub record KeepsOn (asked : ℕ) (old now : Reading) (before after : SourceSeen) : Type 0 where
  pub reads : ReadsOn old now before after
  pub last : now.ended ≡ true → (now.buffered ≡ []) ⊎ (within now < asked)
  pub near : length now.buffered < asked + piece_size

-- none was read yet
pub keeps-first : (asked : ℕ) (old : Reading) (before : SourceSeen) → IsReaderBehind asked old before → KeepsOn asked old old before before
keeps-first asked old before source =
    record {
      reads = record {
        pending = Keeps-refl (prepend_known old.buffered before.left);
        buffered = ([], sym (append-nil old.buffered));
        taken = omega arith;
        given = refl;
        total = same-total old.taken before.left;
        ended = source.ended;
        nothing = source.nothing;
        stays = λ e. e;
      };
      last = λ e. inl (source.last e);
      near = source.near;
    }

-- of bytes that a text may not have some came, which are gone, and so many are still due
pub record DropsOn (asked due : ℕ) (old now : Reading) (before after : SourceSeen) : Type 0 where
  pub gone : List ℕ
  pub bytes : Consumes (prepend_known old.buffered before.left) (prepend_known now.buffered after.left) gone
  pub counted : length gone + due ≡ asked
  pub given : given now ≡ given old + length gone
  pub total : SameTotal old.taken before.left now.taken after.left
  pub stays : old.ended ≡ true → now.ended ≡ true
  pub source : IsReaderBehind due now after

-- none came yet
pub drops-first : (asked : ℕ) (old : Reading) (before : SourceSeen) → IsReaderBehind asked old before → DropsOn asked asked old old before before
drops-first asked old before source =
    record {
      gone = [];
      bytes = Consumes-nil (prepend_known old.buffered before.left);
      counted = omega arith;
      given = omega arith;
      total = same-total old.taken before.left;
      stays = λ e. e;
      source = source;
    }

-- bytes that are buffered are dropped
pub drops-moved : (asked due count : ℕ) (old now new : Reading) (before after : SourceSeen) → DropsOn asked due old now before after → IsReading now → count ≡ min due (within now) →
    new ≡ record now { buffered = drop count now.buffered } → DropsOn asked (due - count) old new before after
drops-moved asked due count old now new before after was sound count_is new_is =
    let inside : count ≤ length now.buffered = omega (arith, count_is) in
    let part : length (take count now.buffered) ≡ count = length-take-le count now.buffered inside in
    subst (λ (r : Reading). DropsOn asked (due - count) old r before after) (sym new_is) (record {
      gone = was.gone ++ take count now.buffered;
      bytes = consumes-moved (prepend_known old.buffered before.left) after.left was.gone now.buffered count was.bytes;
      counted = omega (arith, was.counted, count_is, part, length-append was.gone (take count now.buffered));
      given = omega (arith, was.given, sound.kept, inside, part, length-drop count now.buffered, length-append was.gone (take count now.buffered));
      total = was.total;
      stays = was.stays;
      source = record {
        ended = was.source.ended;
        nothing = was.source.nothing;
        last = λ e. ap (λ (xs : List ℕ). drop count xs) (was.source.last e) ∙ drop-nil count;
        near = omega (arith, was.source.near, count_is, inside, length-drop count now.buffered);
      };
    })

-- where bytes are still due, all that is buffered within the limit was dropped
pub nothing-held : (now new : Reading) (due count : ℕ) → count ≡ min due (within now) → new ≡ record now { buffered = drop count now.buffered } → 0 < due - count → new.taken ≤ SCRIPT_LIMIT → new.buffered ≡ []
nothing-held now new due count count_is new_is more within_limit =
    let buffered : new.buffered ≡ drop count now.buffered = ap (λ (r : Reading). r.buffered) new_is in
    let taken : new.taken ≡ now.taken = ap (λ (r : Reading). r.taken) new_is in
    no_bytes new.buffered (omega (arith, ap length buffered, taken, length-drop count now.buffered, count_is, more, within_limit))

pub within-dropped : (now new : Reading) (due count : ℕ) → count ≡ min due (within now) → new ≡ record now { buffered = drop count now.buffered } → 0 < due - count → within new < due - count
within-dropped now new due count count_is new_is more =
    let buffered : new.buffered ≡ drop count now.buffered = ap (λ (r : Reading). r.buffered) new_is in
    let taken : new.taken ≡ now.taken = ap (λ (r : Reading). r.taken) new_is in
    omega (arith, ap length buffered, taken, length-drop count now.buffered, count_is, more)

-- nothing was buffered, and more was read
pub drops-filled : (asked due : ℕ) (old now new : Reading) (before mid after : SourceSeen) → DropsOn asked due old now before mid → 0 < due → now.buffered ≡ [] → ReadsOn now new mid after →
    length new.buffered ≤ length now.buffered + piece_size → (new.ended ≡ true → new.buffered ≡ now.buffered) → DropsOn asked due old new before after
drops-filled asked due old now new before mid after was more none reads near end =
    record {
      gone = was.gone;
      bytes = Consumes-kept (prepend_known old.buffered before.left) (prepend_known now.buffered mid.left) (prepend_known new.buffered after.left) was.gone was.bytes reads.pending;
      counted = was.counted;
      given = reads.given ∙ was.given;
      total = total_on old.taken now.taken new.taken before.left mid.left after.left was.total reads.total;
      stays = λ e. reads.stays (was.stays e);
      source = record {
        ended = reads.ended;
        nothing = reads.nothing;
        last = λ e. end e ∙ none;
        near = omega (arith, near, more, ap length none);
      };
    }

-- all bytes came
pub drops-all : (asked due : ℕ) (old now : Reading) (before after : SourceSeen) → DropsOn asked due old now before after → IsReading now → due ≡ 0 → TEXT_LIMIT < asked → GivesPut Dropped asked old now before after
drops-all asked due old now before after was sound none many =
    let over : nat_le asked TEXT_LIMIT ≡ false = grind (arith, common_steps, many) in
    record {
      bytes =
          subst (λ (b : Bool). Known (Takes (if b then Whole was.gone else Dropped) asked now.ended) (prepend_known old.buffered before.left) (prepend_known now.buffered after.left)) over
          (takes-all now.ended (prepend_known old.buffered before.left) (prepend_known now.buffered after.left) asked was.gone was.bytes (omega (arith, was.counted, none)) (λ e. at-end now.buffered after.left (was.source.last e) (was.source.nothing e)));
      kept = many;
      short = λ e. cc;
      further = omega (arith, was.given);
      limit = omega (arith, sound.kept, sound.given);
      source = record { ended = was.source.ended; nothing = was.source.nothing; last = was.source.last; near = omega (arith, was.source.near, none) };
    }

-- a fault came, and what came is gone
pub drops-falls : (fault : LineFault) (asked due : ℕ) (old now : Reading) (before after : SourceSeen) → DropsOn asked due old now before after → TEXT_LIMIT < asked → within now < due → FallsShort fault asked old now before after
drops-falls fault asked due old now before after was many more =
    record {
      bytes =
          misses fault asked now (prepend_known old.buffered before.left) after.left was.gone was.bytes (λ few. absurd (omega (arith, few, many))) (omega (arith, was.counted))
          (omega (arith, was.counted, was.source.near)) (λ _. omega (arith, was.counted, more));
      source = record { ended = was.source.ended; nothing = was.source.nothing; last = was.source.last; near = omega (arith, was.source.near, was.counted) };
    }

-- what holds of any fault holds where the answer is a failure
pub if-err : {T E : Type 0} (result : Result T E) (P : E → Type 0) → ((fault : E) → P fault) → IfErr result P
if-err (Ok value) P holds = tt
if-err (Err fault) P holds = holds fault
