-- Lengths of records, and records one by one.
use Rattle.std.proofs.Common.{◌≡◌, ℕ, zero, suc, ◌+◌, ◌-◌, ◌<◌, ◌^◌, List, [], ◌∷◌, ◌++◌, length, take, drop, get_or, refl, sym, ◌∙◌, ap, arith, append_assoc, length-append, Vec}
use Rattle.std.specs.declared.alloc.Global.{Global}
use Rattle.std.proofs.lemmas.List.{take_more, take_rest, append-nil}
use Rattle.byteorder.specs.Endian.{little_bytes}
use Rattle.byteorder.specs.Numbers.{length-bytes_low_first}
use Rattle.hac_journal.specs.Records.{AreShort, record_of, records_of, log_of, contents_of}

pub length-record : (payload : List ℕ) → length (record_of payload) ≡ 5 + length payload
unfolding record_of
length-record payload =
    omega (arith, length-append (1 ∷ little_bytes 4 (length payload)) payload, length-bytes_low_first 0 4 (length payload))

pub length-log : (payloads : List (List ℕ)) → length (log_of payloads) ≡ length (records_of payloads) + 1
length-log payloads = length-append (records_of payloads) (0 ∷ [])

-- records of two lists, one behind the other
pub records-append : (xs ys : List (List ℕ)) → records_of (xs ++ ys) ≡ records_of xs ++ records_of ys
records-append [] ys = refl
records-append (x ∷ xs) ys = ap (λ (l : List ℕ). record_of x ++ l) (records-append xs ys) ∙ sym (append_assoc (record_of x) (records_of xs) (records_of ys))

contents-append : (vs ws : List (Vec ℕ Global)) → contents_of (vs ++ ws) ≡ contents_of vs ++ contents_of ws
contents-append [] ws = refl
contents-append (v ∷ vs) ws = ap (λ (l : List (List ℕ)). v.items ∷ l) (contents-append vs ws)

-- the records of the first payloads, with one more
pub records_taken : (vs : List (Vec ℕ Global)) (i : ℕ) (d : Vec ℕ Global) → i < length vs
    → records_of (contents_of (take (i + 1) vs)) ≡ records_of (contents_of (take i vs)) ++ record_of (get_or vs i d).items
records_taken vs i d below =
    let v = get_or vs i d in
    ap (λ (l : List (Vec ℕ Global)). records_of (contents_of l)) (take_more vs i d below)
    ∙ ap records_of (contents-append (take i vs) (v ∷ []))
    ∙ records-append (contents_of (take i vs)) (v.items ∷ [])
    ∙ ap (λ (l : List ℕ). records_of (contents_of (take i vs)) ++ l) (append-nil (record_of v.items))

-- and how many bytes these are
pub length_taken : (vs : List (Vec ℕ Global)) (i : ℕ) (d : Vec ℕ Global) → i < length vs
    → length (records_of (contents_of (take (i + 1) vs))) ≡ length (records_of (contents_of (take i vs))) + (5 + length (get_or vs i d).items)
length_taken vs i d below =
    omega (arith, ap length (records_taken vs i d below), length-append (records_of (contents_of (take i vs))) (record_of (get_or vs i d).items), length-record (get_or vs i d).items)

-- each of short payloads is short
pub short-at : (vs : List (Vec ℕ Global)) (i : ℕ) (d : Vec ℕ Global) → i < length vs → AreShort (contents_of vs) → length (get_or vs i d).items < 2 ^ 32
short-at [] i d below short = absurd (omega arith)
short-at (v ∷ vs) zero d below short = short.0
short-at (v ∷ vs) (suc i) d below short = short-at vs i d (omega arith) short.1

-- the records of one payload or more begin with an open gate
pub log-opens : (payloads : List (List ℕ)) → 0 < length payloads → 1 ∷ drop 1 (log_of payloads) ≡ log_of payloads
unfolding record_of
log-opens [] some = absurd (omega arith)
log-opens (payload ∷ payloads) some = refl

pub length-contents : (vs : List (Vec ℕ Global)) → length (contents_of vs) ≡ length vs
length-contents [] = refl
length-contents (v ∷ vs) = ap suc (length-contents vs)

-- all of a log behind its first gate
pub log-rest : (vs : List (Vec ℕ Global)) (bytes : List ℕ) → 0 < length vs → bytes ≡ log_of (contents_of vs)
    → 1 ∷ take (length bytes - 1) (drop 1 bytes) ≡ log_of (contents_of vs)
log-rest vs bytes some is =
    ap (λ (l : List ℕ). 1 ∷ l) (take_rest bytes 1) ∙ ap (λ (l : List ℕ). 1 ∷ drop 1 l) is
    ∙ log-opens (contents_of vs) (omega (arith, some, length-contents vs))
