-- The parts of a query, as they are read and joined.
use Rattle.std.proofs.Common.{◌≡◌, ℕ, zero, suc, ◌+◌, ◌-◌, ◌<◌, ◌≤◌, List, [], ◌∷◌, ◌++◌, length, Some, None, Result, Ok, Err, refl, sym, ap, ◌∙◌, arith}
use Rattle.std.specs.Prelude.{map}
use Rattle.std.proofs.lemmas.List.{append-nil}
use Rattle.hac_model.specs.Query.Formula.{Formula}
use Rattle.hac_model.specs.Payload.QueryFields.{Room, Token, built, put, room_after, token_at, tokens_at}
use Rattle.hac_model.specs.declared.versions.Version.{Version}
use Rattle.payload_fields.specs.declared.faults.Fault.{Fault}
use Rattle.payload_fields.specs.declared.faults.Fault.TheVariants as fault
use Rattle.payload_fields.specs.Reading.{Fails}
use Rattle.payload_fields.proofs.FrontLemmas.{with_front, regroup}

-- ---- parts of queries are joined from the last one on

pub built-last : {A : Type 0} (view : A → Token) (front : List A) (t : A) (qs : List (Formula ℕ)) → built (map view (front ++ t ∷ [])) qs ≡ built (map view front) (put (view t) qs)
unfolding built
built-last view [] t qs = refl
built-last view (u ∷ front) t qs = ap (λ x. put (view u) x) (built-last view front t qs)

pub built-none : (qs : List (Formula ℕ)) → built [] qs ≡ qs
unfolding built
built-none qs = refl

pub map-last : {A B : Type 0} (view : A → B) (front : List A) (x : A) → map view (front ++ x ∷ []) ≡ map view front ++ view x ∷ []
map-last view [] x = refl
map-last view (y ∷ ys) x = ap (λ xs. view y ∷ xs) (map-last view ys x)

-- ---- and read one by one

-- what is read behind the parts from here on is what is read in all
abbrev pub PartsGoOn : Version → List Token → Room → ℕ → List ℕ → Result (List Token × List ℕ) ℕ → Type 0
PartsGoOn version front room due bytes total = with_front front (tokens_at version due room.wanted room.terms room.letters bytes) ≡ total

pub parts_done : (version : Version) (front : List Token) (terms letters due : ℕ) (bytes : List ℕ) (total : Result (List Token × List ℕ) ℕ) → PartsGoOn version front (record { wanted = []; terms = terms; letters = letters }) due bytes total → total ≡ Ok (front, bytes)
unfolding tokens_at
parts_done version front terms letters zero bytes total so_far = sym so_far ∙ ap (λ ts. Ok (ts, bytes)) (append-nil front)
parts_done version front terms letters (suc due) bytes total so_far = sym so_far ∙ ap (λ ts. Ok (ts, bytes)) (append-nil front)

pub parts_short : (version : Version) (front : List Token) (wanted : List ℕ) (terms letters count i : ℕ) (bytes : List ℕ) (total : Result (List Token × List ℕ) ℕ) → count ≤ i → 0 < length wanted → PartsGoOn version front (record { wanted = wanted; terms = terms; letters = letters }) (count - i) bytes total → total ≡ Err 0
unfolding tokens_at
parts_short version front [] terms letters count i bytes total le some so_far = absurd (omega arith)
parts_short version front (nots ∷ wanted) terms letters count i bytes total le some so_far =
    let k : count - i ≡ 0 = omega arith in
    let one : with_front front (tokens_at version (count - i) (nots ∷ wanted) terms letters bytes) ≡ Err 0 = rw k refl in
    sym so_far ∙ one

pub part_fails : (version : Version) (f : Fault) (front : List Token) (nots : ℕ) (wanted : List ℕ) (terms letters count i : ℕ) (bytes : List ℕ) (total : Result (List Token × List ℕ) ℕ)
    → i < count → Fails f (token_at version terms bytes) → PartsGoOn version front (record { wanted = nots ∷ wanted; terms = terms; letters = letters }) (count - i) bytes total → Fails f total
unfolding tokens_at
part_fails version fault.Memory front nots wanted terms letters count i bytes total lt fails so_far = tt
part_fails version (fault.Bad left) front nots wanted terms letters count i bytes total lt fails so_far =
    let k : count - i ≡ suc (count - (i + 1)) = omega arith in
    let one : with_front front (tokens_at version (count - i) (nots ∷ wanted) terms letters bytes) ≡ Err left = rw (k, fails) refl in
    sym so_far ∙ one

pub part_barred : (version : Version) (front : List Token) (nots : ℕ) (wanted : List ℕ) (terms letters count i : ℕ) (bytes after : List ℕ) (t : Token) (total : Result (List Token × List ℕ) ℕ)
    → i < count → token_at version terms bytes ≡ Ok (t, after) → room_after nots wanted terms letters t ≡ None → PartsGoOn version front (record { wanted = nots ∷ wanted; terms = terms; letters = letters }) (count - i) bytes total → total ≡ Err (length bytes)
unfolding tokens_at
part_barred version front nots wanted terms letters count i bytes after t total lt read none so_far =
    let k : count - i ≡ suc (count - (i + 1)) = omega arith in
    let one : with_front front (tokens_at version (count - i) (nots ∷ wanted) terms letters bytes) ≡ Err (length bytes) = rw (k, read, none) refl in
    sym so_far ∙ one

pub part_read : (version : Version) (front : List Token) (nots : ℕ) (wanted : List ℕ) (terms letters count i : ℕ) (bytes after : List ℕ) (t : Token) (room : Room) (total : Result (List Token × List ℕ) ℕ)
    → i < count → token_at version terms bytes ≡ Ok (t, after) → room_after nots wanted terms letters t ≡ Some room → PartsGoOn version front (record { wanted = nots ∷ wanted; terms = terms; letters = letters }) (count - i) bytes total
    → PartsGoOn version (front ++ t ∷ []) room (count - (i + 1)) after total
unfolding tokens_at
part_read version front nots wanted terms letters count i bytes after t room total lt read some so_far =
    let k : count - i ≡ suc (count - (i + 1)) = omega arith in
    let one : with_front front (tokens_at version (count - i) (nots ∷ wanted) terms letters bytes) ≡ with_front (front ++ t ∷ []) (tokens_at version (count - (i + 1)) room.wanted room.terms room.letters after) =
    rw (k, read, some) (regroup front t (tokens_at version (count - (i + 1)) room.wanted room.terms room.letters after)) in
    sym one ∙ so_far
