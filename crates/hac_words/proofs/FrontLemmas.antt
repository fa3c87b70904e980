-- Lists whose first numbers differ are in the order of those.
use Rattle.std.proofs.Common.{◌≡◌, ◌≢◌, ◌∙◌, ℕ, zero, suc, ◌+◌, ◌-◌, ◌*◌, ◌<◌, ◌≤◌, min, List, [], ◌∷◌, ◌++◌, drop, get_or, length, replicate, slice_index, take, refl, ap, sym, w64, arith, ⊎_elim}
use Rattle.std.proofs.lemmas.Bool.{cases_eq, cases_lt, cases_order}
use Rattle.std.proofs.lemmas.Bool.Decides.{nat_tests}
use Rattle.std.proofs.lemmas.List.{get_or-append_right, get_or-drop, get_or-take, get_or_append_left, get_or_past, length-take}
use Rattle.std.specs.Cmp.Lexicographic.{slice_cmp}
use Rattle.std.specs.Int.{from_be_bytes}
use Rattle.std.specs.Ordering.{nat_cmp, ordering_then}
use Rattle.std.specs.declared.cmp.Ordering.TheVariants.{Less, Equal, Greater}
use Rattle.hac_words.specs.Fronts.{front_of}

-- each is a byte
abbrev AreBytes : List ℕ → Type 0
AreBytes bytes = (at : ℕ) → get_or bytes at 0 < 256

-- at the first n places they agree
abbrev AgreeBelow : List ℕ → List ℕ → ℕ → Type 0
AgreeBelow xs ys n = (at : ℕ) → at < n → get_or xs at 0 ≡ get_or ys at 0

-- equal fronts are of equal bytes
agree-front : (n : ℕ) (xs ys : List ℕ) → AreBytes xs → AreBytes ys → front_of n xs ≡ front_of n ys → AgreeBelow xs ys n
unfolding front_of
agree-front zero xs ys small few same at below = absurd (omega arith)
agree-front (suc n) xs ys small few same at below =
    let s = small n in
    let f = few n in
    ⊎_elim
    (λ last. ap (λ k. get_or xs k 0) last ∙ omega arith ∙ sym (ap (λ k. get_or ys k 0) last))
    (λ other. agree-front n xs ys small few (omega arith) at (omega arith))
    (cases_eq at n)

-- of different fronts the first bytes that differ are in their order
first-front : (n : ℕ) (xs ys : List ℕ) → AreBytes xs → AreBytes ys → front_of n xs < front_of n ys → (at : ℕ) × AgreeBelow xs ys at × (get_or xs at 0 < get_or ys at 0)
unfolding front_of
first-front zero xs ys small few below = absurd (omega arith)
first-front (suc n) xs ys small few below =
    let s = small n in
    let f = few n in
    ⊎_elim
    (λ same. (n, agree-front n xs ys small few same, omega arith))
    (λ apart. ⊎_elim (λ less. first-front n xs ys small few less) (λ more. absurd (omega arith)) apart)
    (cases_order (front_of n xs) (front_of n ys))

cmp-less : (x y : ℕ) → x < y → nat_cmp x y ≡ Less
cmp-less x y h = grind (arith, nat_tests)

cmp-same : (x y : ℕ) → x ≡ y → nat_cmp x y ≡ Equal
cmp-same x y h = grind (arith, nat_tests)

cmp-more : (x y : ℕ) → y < x → nat_cmp x y ≡ Greater
cmp-more x y h = grind (arith, nat_tests)

slices-less : (at : ℕ) (xs ys : List ℕ) → AgreeBelow xs ys at → get_or xs at 0 < get_or ys at 0 → slice_cmp nat_cmp xs ys ≡ Less
slices-less at [] [] agree less = absurd (omega arith)
slices-less at [] (y ∷ ys) agree less = refl
slices-less at (x ∷ xs) [] agree less = absurd (omega arith)
slices-less zero (x ∷ xs) (y ∷ ys) agree less = ap (λ r. ordering_then r (slice_cmp nat_cmp xs ys)) (cmp-less x y less)
slices-less (suc at) (x ∷ xs) (y ∷ ys) agree less =
    ap (λ r. ordering_then r (slice_cmp nat_cmp xs ys)) (cmp-same x y (agree 0 (omega arith)))
    ∙ slices-less at xs ys (λ k below. agree (suc k) (omega arith)) less

slices-more : (at : ℕ) (xs ys : List ℕ) → AgreeBelow ys xs at → get_or ys at 0 < get_or xs at 0 → slice_cmp nat_cmp xs ys ≡ Greater
slices-more at [] [] agree less = absurd (omega arith)
slices-more at [] (y ∷ ys) agree less = absurd (omega arith)
slices-more at (x ∷ xs) [] agree less = refl
slices-more zero (x ∷ xs) (y ∷ ys) agree less = ap (λ r. ordering_then r (slice_cmp nat_cmp xs ys)) (cmp-more x y less)
slices-more (suc at) (x ∷ xs) (y ∷ ys) agree less =
    ap (λ r. ordering_then r (slice_cmp nat_cmp xs ys)) (cmp-same x y (sym (agree 0 (omega arith))))
    ∙ slices-more at xs ys (λ k below. agree (suc k) (omega arith)) less

fronts-less : (n : ℕ) (xs ys : List ℕ) → AreBytes xs → AreBytes ys → front_of n xs < front_of n ys → slice_cmp nat_cmp xs ys ≡ Less
fronts-less n xs ys small few below =
    let first = first-front n xs ys small few below in
    slices-less first.0 xs ys first.1 first.2

fronts-more : (n : ℕ) (xs ys : List ℕ) → AreBytes xs → AreBytes ys → front_of n ys < front_of n xs → slice_cmp nat_cmp xs ys ≡ Greater
fronts-more n xs ys small few below =
    let first = first-front n ys xs few small below in
    slices-more first.0 xs ys first.1 first.2

-- the number that eight bytes are
pub front_of-bytes : (bytes : List ℕ) → from_be_bytes w64 bytes ≡ front_of 8 bytes
unfolding front_of
front_of-bytes bytes = omega arith

same-front : (n : ℕ) (xs ys : List ℕ) → AgreeBelow xs ys n → front_of n xs ≡ front_of n ys
unfolding front_of
same-front zero xs ys agree = refl
same-front (suc n) xs ys agree = λ i. same-front n xs ys (λ at below. agree at (omega arith)) i * 256 + agree n (omega arith) i

zeros-read : (n at : ℕ) → slice_index (replicate n 0) at ≡ 0
zeros-read zero at = refl
zeros-read (suc n) zero = refl
zeros-read (suc n) (suc at) = zeros-read n at

-- bytes that are missing are zeros
pub front_of-filled : (bytes part : List ℕ) (count from : ℕ) → count ≡ min (length bytes) 8 → part ≡ take count bytes → front_of 8 (part ++ drop from (replicate 8 0)) ≡ front_of 8 bytes
front_of-filled bytes part count from few is =
    let size : length part ≡ min (length bytes) 8 = ap length is ∙ length-take count bytes ∙ omega arith in
    same-front 8 _ bytes (λ at below.
    ⊎_elim
    (λ within. get_or_append_left part (drop from (replicate 8 0)) 0 at within ∙ ap (λ list. get_or list at 0) is ∙ get_or-take count bytes at 0 (omega arith))
    (λ past.
    let missing : length bytes ≤ at = omega arith in
    get_or-append_right part (drop from (replicate 8 0)) (length part) at 0 refl past ∙ get_or-drop from (replicate 8 0) (at - length part) 0 ∙ zeros-read 8 (from + (at - length part)) ∙ sym (get_or_past bytes at 0 missing))
    (cases_lt at (length part)))

-- where the first bytes aren't the same, they decide
pub fronts-decide : (n : ℕ) (xs ys : List ℕ) → AreBytes xs → AreBytes ys → nat_cmp (front_of n xs) (front_of n ys) ≢ Equal → nat_cmp (front_of n xs) (front_of n ys) ≡ slice_cmp nat_cmp xs ys
fronts-decide n xs ys small few apart =
    ⊎_elim
    (λ same. absurd (apart (cmp-same _ _ same)))
    (λ other.
    ⊎_elim
    (λ less. cmp-less _ _ less ∙ sym (fronts-less n xs ys small few less))
    (λ more. cmp-more _ _ more ∙ sym (fronts-more n xs ys small few more))
    other)
    (cases_order (front_of n xs) (front_of n ys))
