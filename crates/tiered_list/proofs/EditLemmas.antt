-- Numbers that are inserted and removed by turning a part of a list.
use Rattle.std.proofs.Common.{◌≡◌, ℕ, suc, ◌+◌, ◌-◌, ◌<◌, ◌≤◌, List, [], ◌∷◌, ◌++◌, length, get_or, set, take, drop, refl, ap, sym, ◌∙◌, arith, length-append}
use Rattle.std.specs.Prelude.{insert, remove}
use Rattle.std.proofs.lemmas.List.{append-nil, append_assoc, drop-append-le, drop-set-lt, drop-take, drop_all, drop_at, drop_more, get_or-set_same, get_or_at, length-drop, length-set, length-take-le, set_at, take-append-drop, take-append-le, take-set, take-set-le, take-take, take_all, take_at, take_more_set, take_rest}
use Rattle.std.proofs.lemmas.List.Edits.{length-insert, length-remove, remove-append_left}
use Rattle.std.proofs.lemmas.Slice.{put_mid-rotated}
use borrow.Rule.Slice.PartMut.{mid_of, post_of, put_mid}

-- A number is written behind the first ones, and the last of those from a place on is brought to that place: it is
-- inserted there.
pub rotated-inserts : (xs ys mid turned post rest : List ℕ) (count place number : ℕ) → place ≤ count → count < length xs → ys ≡ set xs count number →
    mid ≡ take (count + 1 - place) (drop place ys) → turned ≡ drop (length mid - 1) mid ++ take (length mid - 1) mid →
    take (count + 1) (take place ys ++ (turned ++ post) ++ rest) ≡ insert (take count xs) place number
rotated-inserts xs ys mid turned post rest count place number low inside written is turns =
    let items = take count xs in
    let tail = drop place items in
    let front = take place ys in
    let few : length items ≡ count = length-take-le count xs (omega arith) in
    let all : place + (count + 1 - place) ≡ count + 1 = omega arith in
    let parts : mid ≡ tail ++ number ∷ [] =
    is ∙ sym (drop-take place (count + 1 - place) ys)
    ∙ ap (λ (k : ℕ). drop place (take k ys)) all
    ∙ ap (λ (ns : List ℕ). drop place (take (count + 1) ns)) written
    ∙ ap (λ (ns : List ℕ). drop place ns) (take_more_set xs count number inside)
    ∙ drop-append-le place items (number ∷ []) (omega arith) in
    let last : length mid - 1 ≡ length tail = (let more : length mid ≡ length tail + 1 = ap length parts ∙ length-append tail (number ∷ []) in omega arith) in
    let first : front ≡ take place items = ap (λ (ns : List ℕ). take place ns) written ∙ take-set-le place xs count number low ∙ sym (take-take place count xs low) in
    let whole : front ++ turned ≡ insert items place number =
    (λ i. first i ++ turns i)
    ∙ (λ i. take place items ++ (drop (last i) (parts i) ++ take (last i) (parts i)))
    ∙ (λ i. take place items ++ (drop_at tail (number ∷ []) (length tail) refl i ++ take_at tail (number ∷ []) (length tail) refl i)) in
    let long : length (front ++ turned) ≡ count + 1 = ap length whole ∙ length-insert items place number (omega arith) ∙ ap (λ (k : ℕ). k + 1) few in
    ap (λ (ns : List ℕ). take (count + 1) ns) (append_assoc front (turned ++ post) rest ∙ ap (λ (ns : List ℕ). front ++ ns) (append_assoc turned post rest) ∙ sym (append_assoc front turned (post ++ rest)))
    ∙ take_at (front ++ turned) (post ++ rest) (count + 1) long
    ∙ whole

-- what is removed from the first numbers is removed from all
pub removed-first : (xs : List ℕ) (count place : ℕ) → place < count → count ≤ length xs → take (count - 1) (remove xs place) ≡ remove (take count xs) place
removed-first xs count place inside low =
    let items = take count xs in
    let rest = drop count xs in
    let few : length items ≡ count = length-take-le count xs low in
    let less : length (remove items place) + 1 ≡ length items = length-remove items place (omega arith) in
    ap (λ (ns : List ℕ). take (count - 1) (remove ns place)) (sym (take-append-drop count xs))
    ∙ ap (λ (ns : List ℕ). take (count - 1) ns) (remove-append_left items rest place (omega arith))
    ∙ take_at (remove items place) rest (count - 1) (omega arith)

-- the part of a list from a place on is turned by one: the number there is removed, of the first ones too
pub rotated-removes : (xs ys rest turned : List ℕ) (count place : ℕ) → place < count → count ≤ length xs → ys ≡ xs → turned ≡ drop 1 (mid_of place (length ys - place) ys) ++ take 1 (mid_of place (length ys - place) ys) →
    take (count - 1) (put_mid place (length ys - place) ys turned ++ rest) ≡ remove (take count xs) place
rotated-removes xs ys rest turned count place inside low is turns =
    let long : length ys ≡ length xs = ap length is in
    let less : length (remove ys place) + 1 ≡ length ys = length-remove ys place (omega arith) in
    ap (λ (ns : List ℕ). take (count - 1) (ns ++ rest)) (put_mid-rotated place (length ys - place) ys turned 0 (omega arith) (omega arith) turns)
    ∙ ap (λ (ns : List ℕ). take (count - 1) ns) (append_assoc (remove ys place) (get_or ys place 0 ∷ []) rest)
    ∙ take-append-le (count - 1) (remove ys place) (get_or ys place 0 ∷ rest) (omega arith)
    ∙ ap (λ (ns : List ℕ). take (count - 1) (remove ns place)) is
    ∙ removed-first xs count place inside low

-- the part of a list from a place on is turned by one, and a number written at the place: it is inserted there, and the
-- last number goes out
pub turned-inserts : (xs turned : List ℕ) (place number any : ℕ) → place < length xs →
    turned ≡ drop (length (mid_of place (length xs - place) xs) - 1) (mid_of place (length xs - place) xs) ++ take (length (mid_of place (length xs - place) xs) - 1) (mid_of place (length xs - place) xs) →
    set (put_mid place (length xs - place) xs turned) place number ++ get_or (put_mid place (length xs - place) xs turned) place any ∷ [] ≡ insert xs place number
turned-inserts xs turned place number any inside turns =
    let k = length xs - place in
    let front = take place xs in
    let part = drop place xs in
    let start = take (k - 1) part in
    let last = get_or part (k - 1) 0 in
    let long : length part ≡ k = length-drop place xs in
    let few : length front ≡ place = length-take-le place xs (omega arith) in
    let mid : mid_of place k xs ≡ part = take_rest xs place in
    let end : drop (k - 1) part ≡ last ∷ [] = drop_more part (k - 1) 0 (omega arith) ∙ ap (λ (ns : List ℕ). last ∷ ns) (drop_all (k - 1 + 1) part (omega arith)) in
    let both : turned ≡ last ∷ start = turns ∙ (λ i. drop (length (mid i) - 1) (mid i) ++ take (length (mid i) - 1) (mid i)) ∙ ap (λ (m : ℕ). drop (m - 1) part ++ take (m - 1) part) long ∙ ap (λ (ns : List ℕ). ns ++ start) end in
    let rest : post_of place k xs ≡ [] = drop_all k part (omega arith) in
    let put : put_mid place k xs turned ≡ front ++ last ∷ start = (λ i. front ++ (both i ++ rest i)) ∙ ap (λ (ns : List ℕ). front ++ last ∷ ns) (append-nil start) in
    let gone : get_or (put_mid place k xs turned) place any ≡ last = ap (λ (ns : List ℕ). get_or ns place any) put ∙ get_or_at front last start any place few in
    let back : start ++ last ∷ [] ≡ part = ap (λ (ns : List ℕ). start ++ ns) (sym end) ∙ take-append-drop (k - 1) part in
    (λ i. set (put i) place number ++ gone i ∷ [])
    ∙ ap (λ (ns : List ℕ). ns ++ last ∷ []) (set_at front last start number place few)
    ∙ append_assoc front (number ∷ start) (last ∷ [])
    ∙ ap (λ (ns : List ℕ). front ++ number ∷ ns) back

-- a number is written at a place, and the part from there on is turned by one: what was there is removed, and the number
-- comes in behind the last
pub turned-removes : (xs turned : List ℕ) (place number : ℕ) → place < length xs →
    turned ≡ drop 1 (mid_of place (length (set xs place number) - place) (set xs place number)) ++ take 1 (mid_of place (length (set xs place number) - place) (set xs place number)) →
    put_mid place (length (set xs place number) - place) (set xs place number) turned ≡ remove xs place ++ number ∷ []
turned-removes xs turned place number inside turns =
    let ys = set xs place number in
    let long : length ys ≡ length xs = length-set xs place number in
    let left : take place ys ≡ take place xs = take-set xs place number in
    let right : drop (suc place) ys ≡ drop (suc place) xs = drop-set-lt (suc place) xs place number (omega arith) in
    put_mid-rotated place (length ys - place) ys turned 0 (omega arith) (omega arith) turns
    ∙ (λ i. (left i ++ right i) ++ get_or-set_same xs place number 0 inside i ∷ [])

-- the head of a ring is its last place: what is there goes out, and the number that comes in is the last
pub wrapped : (ring : List ℕ) (head number out : ℕ) → head + 1 ≡ length ring → out ≡ get_or ring head out → out ∷ (set ring head number ++ []) ≡ (drop head ring ++ take head ring) ++ number ∷ []
wrapped ring head number out last is =
    let here : drop head ring ≡ out ∷ [] = drop_more ring head out (omega arith) ∙ ap (λ (ns : List ℕ). get_or ring head out ∷ ns) (drop_all (head + 1) ring (omega arith)) ∙ ap (λ (n : ℕ). n ∷ []) (sym is) in
    let long : length (set ring head number) ≡ length ring = length-set ring head number in
    let whole : set ring head number ≡ take head ring ++ number ∷ [] = sym (take_all (head + 1) (set ring head number) (omega arith)) ∙ take_more_set ring head number (omega arith) in
    ap (λ (ns : List ℕ). out ∷ ns) (append-nil (set ring head number) ∙ whole)
    ∙ ap (λ (ns : List ℕ). (ns ++ take head ring) ++ number ∷ []) (sym here)
