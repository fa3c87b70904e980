-- The laws on records.
use Rattle.std.proofs.Common.{◌≡◌, ⊎_elim, ℕ, suc, ◌+◌, ◌<◌, ◌^◌, List, [], ◌∷◌, ◌++◌, length, take, drop, slice_index, refl, sym, ◌∙◌, ap, subst, arith, append_assoc, length-append, length-drop, take-append-drop}
use Rattle.std.proofs.lemmas.Bool.{cases_eq, cases_lt}
use Rattle.std.proofs.lemmas.List.{take_at, drop_at, drop-take, drop-drop, drop-append-le, drop_all, drop_more, length-take}
use Rattle.byteorder.specs.Endian.{little_number, little_bytes}
use Rattle.byteorder.specs.Numbers.{little_from-append, little_number-reads_back, length-bytes_low_first}
use Rattle.hac_journal.specs.Appending.{HoldsAt}
use Rattle.hac_journal.specs.Finding.{Whole, Closed, Short, behind_gate, found_in}
use Rattle.hac_journal.specs.Laws.{RecordsAreFound, NoneIsClosed, ClosedIsFound, FoundIsClosed, FoundIsWhole, FoundAlong}
use Rattle.hac_journal.specs.Records.{record_of, records_of, log_of}
use Rattle.hac_journal.proofs.FoundLemmas.{behind-short, behind-whole, found-open, found-shut}
use Rattle.hac_journal.proofs.RecordLemmas.{length-record}

take-one : (m n : ℕ) (rest : List ℕ) → m ≡ suc n → take m (1 ∷ rest) ≡ 1 ∷ take n rest
take-one m n rest is = ap (λ (k : ℕ). take k (1 ∷ rest)) is

-- a length and as many bytes, with at least a gate behind
whole-found : (at size : ℕ) (front more : List ℕ) → length front ≡ 4 + size → little_number 4 front ≡ size → 0 < length more
    → found_in at (1 ∷ (front ++ more)) ≡ Whole (drop 4 front) (at + 5 + size)
whole-found at size front more long number some =
    let body : length (drop 4 front) ≡ size = omega (arith, length-drop 4 front) in
    found-open at 1 (front ++ more) refl
    ∙ behind-whole at size (front ++ more) (little_from-append 4 front more (omega arith) ∙ number) (omega (arith, length-append front more))
    ∙ ap (λ (l : List ℕ). Whole (take size l) (at + 5 + size)) (drop-append-le 4 front more (omega arith))
    ∙ ap (λ (l : List ℕ). Whole l (at + 5 + size)) (take_at (drop 4 front) more size body)

-- a record that was found, by its parts
record IsWhole (at next : ℕ) (payload bytes : List ℕ) : Type 0 where
  rest : List ℕ
  is : bytes ≡ 1 ∷ rest
  there : 4 + little_number 4 rest < length rest
  payload_is : take (little_number 4 rest) (drop 4 rest) ≡ payload
  next_is : next ≡ at + 5 + little_number 4 rest

behind-parts : (at next : ℕ) (payload rest : List ℕ) → behind_gate at rest ≡ Whole payload next → IsWhole at next payload (1 ∷ rest)
behind-parts at next payload rest found =
    ⊎_elim
    (λ there.
    let is = sym (behind-whole at (little_number 4 rest) rest refl there) ∙ found in
    record { rest = rest; is = refl; there = there; payload_is = cc; next_is = cc })
    (λ short. let none = sym (behind-short at rest short) ∙ found in absurd (cc))
    (cases_lt (4 + little_number 4 rest) (length rest))

whole-parts : (at next : ℕ) (payload bytes : List ℕ) → found_in at bytes ≡ Whole payload next → IsWhole at next payload bytes
whole-parts at next payload [] found = absurd (cc)
whole-parts at next payload (gate ∷ rest) found =
    ⊎_elim
    (λ is.
    subst (λ g. IsWhole at next payload (g ∷ rest)) (sym is) (behind-parts at next payload rest (sym (found-open at gate rest is) ∙ found)))
    (λ shut. let none = sym (found-shut at gate rest shut) ∙ found in absurd (cc))
    (cases_eq gate 1)

parts-length : (at next : ℕ) (payload bytes : List ℕ) → IsWhole at next payload bytes → (next ≡ at + 5 + length payload) × (next < at + length bytes)
parts-length at next payload bytes whole =
    let size = little_number 4 whole.rest in
    let body : length payload ≡ size = omega (arith, ap length (sym whole.payload_is), length-take size (drop 4 whole.rest), length-drop 4 whole.rest, whole.there) in
    (omega (arith, whole.next_is, body), omega (arith, whole.next_is, whole.there, ap length whole.is))

pub found-is-whole : FoundIsWhole
found-is-whole at next payload file found =
    let parts = whole-parts at next payload (drop at file) found in
    let ends = parts-length at next payload (drop at file) parts in
    (ends.0, omega (arith, ends.0, ends.1, length-drop at file))

pub closed-is-found : ClosedIsFound
closed-is-found at file closed =
    ap (found_in at) (drop_more file at 0 closed.there) ∙ found-shut at (slice_index file at) (drop (at + 1) file) closed.shut

behind-closed : (at : ℕ) (rest : List ℕ) → behind_gate at rest ≡ Closed → ⊥
behind-closed at rest found =
    ⊎_elim
    (λ there. let whole = sym (behind-whole at (little_number 4 rest) rest refl there) ∙ found in cc)
    (λ short. let none = sym (behind-short at rest short) ∙ found in cc)
    (cases_lt (4 + little_number 4 rest) (length rest))

pub found-is-closed : FoundIsClosed
found-is-closed at file found =
    ⊎_elim
    (λ there.
    let from = drop_more file at 0 there in
    record {
      there = there;
      shut = λ is. behind-closed at (drop (at + 1) file) (sym (found-open at (slice_index file at) (drop (at + 1) file) is) ∙ ap (found_in at) (sym from) ∙ found);
    })
    (λ past. let none : Short ≡ Closed = ap (found_in at) (sym (drop_all at file past)) ∙ found in absurd (cc))
    (cases_lt at (length file))

pub none-is-closed : NoneIsClosed
none-is-closed at file holds =
    ⊎_elim
    (λ there.
    let gate : slice_index file at ∷ [] ≡ 0 ∷ [] = ap (take 1) (sym (drop_more file at 0 there)) ∙ holds in
    let shut : slice_index file at ≡ 0 = cc in
    record { there = there; shut = λ is. omega (arith, shut, is) })
    (λ past. let none : [] ≡ 0 ∷ [] = ap (take 1) (sym (drop_all at file past)) ∙ holds in absurd (cc))
    (cases_lt at (length file))

-- a record and what follows it
record-found : (at : ℕ) (payload more : List ℕ) → length payload < 2 ^ 32 → 0 < length more
    → found_in at (record_of payload ++ more) ≡ Whole payload (at + 5 + length payload)
unfolding record_of
record-found at payload more fits some =
    let size = length payload in
    let bytes = little_bytes 4 size in
    let count : length bytes ≡ 4 = length-bytes_low_first 0 4 size in
    whole-found at size (bytes ++ payload) more (omega (arith, length-append bytes payload, count)) (little_number-reads_back 4 size payload (omega (arith, fits))) some
    ∙ ap (λ (l : List ℕ). Whole l (at + 5 + size)) (drop_at bytes payload 4 count)

holds-split : (at : ℕ) (bytes file : List ℕ) → HoldsAt at bytes file → drop at file ≡ bytes ++ drop (length bytes) (drop at file)
holds-split at bytes file holds =
    sym (take-append-drop (length bytes) (drop at file)) ∙ ap (λ (l : List ℕ). l ++ drop (length bytes) (drop at file)) holds

pub records-are-found : RecordsAreFound
records-are-found at payload payloads file fits holds =
    let log = log_of payloads in
    let more = drop (length (log_of (payload ∷ payloads))) (drop at file) in
    let split : drop at file ≡ record_of payload ++ (log ++ more) =
    holds-split at (log_of (payload ∷ payloads)) file holds
    ∙ ap (λ (l : List ℕ). l ++ more) (append_assoc (record_of payload) (records_of payloads) (0 ∷ []))
    ∙ append_assoc (record_of payload) log more in
    let place : at + (5 + length payload) ≡ at + 5 + length payload = omega arith in
    let behind : drop (at + 5 + length payload) file ≡ log ++ more =
    ap (λ (k : ℕ). drop k file) (sym place) ∙ sym (drop-drop (5 + length payload) at file)
    ∙ ap (drop (5 + length payload)) split ∙ drop_at (record_of payload) (log ++ more) (5 + length payload) (length-record payload) in
    let some : 0 < length (log ++ more) = omega (arith, length-append log more, length-append (records_of payloads) (0 ∷ [])) in (
      ap (found_in at) split ∙ record-found at payload (log ++ more) fits some,
      ap (take (length log)) behind ∙ take_at log more (length log) refl,
    )

-- what is found again, where the bytes up to the next gate are the same
along-found : (at size : ℕ) (rest bytes : List ℕ) → little_number 4 rest ≡ size → 4 + size < length rest → take (5 + size) bytes ≡ take (5 + size) (1 ∷ rest)
    → 5 + size < length bytes → found_in at bytes ≡ Whole (take size (drop 4 rest)) (at + 5 + size)
along-found at size rest bytes number there same long =
    let front = take (4 + size) rest in
    let more = drop (5 + size) bytes in
    let begin : take (5 + size) (1 ∷ rest) ≡ 1 ∷ front = take-one (5 + size) (4 + size) rest (omega arith) in
    let split : bytes ≡ 1 ∷ (front ++ more) = sym (take-append-drop (5 + size) bytes) ∙ ap (λ (l : List ℕ). l ++ more) (same ∙ begin) in
    let count : length front ≡ 4 + size = omega (arith, length-take (4 + size) rest, there) in
    let whole : little_number 4 front ≡ little_number 4 rest =
    sym (little_from-append 4 front (drop (4 + size) rest) (omega (arith, count))) ∙ ap (little_number 4) (take-append-drop (4 + size) rest) in
    ap (found_in at) split ∙ whole-found at size front more count (whole ∙ number) (omega (arith, length-drop (5 + size) bytes, long))
    ∙ ap (λ (l : List ℕ). Whole l (at + 5 + size)) (drop-take 4 size rest)

pub found-along : FoundAlong
found-along at next payload c d found same long =
    let parts = whole-parts at next payload (drop at d) found in
    let size = little_number 4 parts.rest in
    let place : next ≡ at + (5 + size) = omega (arith, parts.next_is) in
    let front : take (5 + size) (drop at c) ≡ take (5 + size) (1 ∷ parts.rest) =
    sym (drop-take at (5 + size) c) ∙ ap (λ (k : ℕ). drop at (take k c)) (sym place) ∙ ap (drop at) same
    ∙ ap (λ (k : ℕ). drop at (take k d)) place ∙ drop-take at (5 + size) d ∙ ap (take (5 + size)) parts.is in
    along-found at size parts.rest (drop at c) refl parts.there front (omega (arith, length-drop at c, long, parts.next_is))
    ∙ ap (λ (l : List ℕ). Whole l (at + 5 + size)) parts.payload_is ∙ ap (λ (n : ℕ). Whole payload n) (sym parts.next_is)
