-- The first 43 bytes of an image decide its root.
use Rattle.std.proofs.Common.{◌≡◌, ℕ, suc, ◌+◌, ◌-◌, ◌≤◌, zero, min, nat_le, ◌==◌, if◌then◌else◌, List, [], ◌∷◌, length, take, drop, Result, Ok, Err, None, Some, ⊎_elim, refl, sym, ◌∙◌, ap, arith}
use Rattle.std.specs.declared.option.Option.{Option}
use Rattle.std.proofs.lemmas.Bool.{cases_lt}
use Rattle.std.proofs.lemmas.List.{drop-take, take-take, take_all, get_or-take, length-take}
use Rattle.byteorder.specs.Endian.{little_number}
use Rattle.byteorder.specs.Numbers.{little_from-take}
use Rattle.hac_disk.specs.Contents.{HasLength}
use Rattle.hac_checkpoint.specs.Laws.{RootsAgree, RootsStartBehind}
use Rattle.hac_checkpoint.specs.Roots.{store_name, gate_of, is_open, generation, start, agreeing, counting, higher, slots, named, root_of, placed, IsRootSeen, IsHeadRoot}
use Rattle.hac_checkpoint.specs.declared.heads.Root.{Root}
use Rattle.hac_checkpoint.specs.declared.heads.RootFault.TheVariants.{Bad}
use Rattle.hac_checkpoint.specs.declared.heads.Slot.{Slot}
use Rattle.hac_checkpoint.specs.declared.heads.Slot.TheVariants.{A, B}
use Rattle.hac_checkpoint.specs.declared.heads.Stop.{Stop}
use Rattle.hac_checkpoint.specs.declared.heads.Stop.TheVariants.{Short, BadAt}
use Rattle.hac_checkpoint.proofs.RootLemmas.{gate_of-within, le-fails, le-holds, root-live}

-- files that agree up to a place have the same numbers before it
pub number-front : (k at : ℕ) (c d : List ℕ) → k + 8 ≤ at → take at c ≡ take at d → little_number 8 (drop k c) ≡ little_number 8 (drop k d)
number-front k at c d within same =
    let split : at ≡ k + (at - k) = omega (arith, within) in
    let part : (l : List ℕ) → little_number 8 (drop k (take at l)) ≡ little_number 8 (drop k l) =
    λ l. ap (little_number 8) (ap (λ (n : ℕ). drop k (take n l)) split ∙ drop-take k (at - k) l) ∙ little_from-take 0 8 (at - k) (drop k l) (omega (arith, within)) in
    sym (part c) ∙ ap (λ (l : List ℕ). little_number 8 (drop k l)) same ∙ part d

-- the parts of a root are the same in the first 43 bytes
number-head : (k : ℕ) (image : List ℕ) → k + 8 ≤ 43 → little_number 8 (drop k (take 43 image)) ≡ little_number 8 (drop k image)
number-head k image within = number-front k 43 (take 43 image) image within (take-take 43 43 image (omega arith))

pub agreeing-head : (xs ys : List ℕ) (n : ℕ) → length xs ≤ n → agreeing xs (take n ys) ≡ agreeing xs ys
agreeing-head [] ys n le = refl
agreeing-head (x ∷ xs) [] zero le = refl
agreeing-head (x ∷ xs) [] (suc n) le = refl
agreeing-head (x ∷ xs) (y ∷ ys) zero le = absurd (omega arith)
agreeing-head (x ∷ xs) (y ∷ ys) (suc n) le =
    ap (λ (k : ℕ). if x == y then suc k else 0) (agreeing-head xs ys n (omega arith))

fits-head : (n : ℕ) (image : List ℕ) → n ≤ 43 → nat_le n (length (take 43 image)) ≡ nat_le n (length image)
fits-head n image within =
    let cut = length-take 43 image in
    ⊎_elim
    (λ short. le-fails n (length (take 43 image)) (omega (arith, cut, short)) ∙ sym (le-fails n (length image) short))
    (λ long. le-holds n (length (take 43 image)) (omega (arith, cut, long, within)) ∙ sym (le-holds n (length image) long))
    (cases_lt (length image) n)

is_open-head : (slot : Slot) (image : List ℕ) → is_open slot (take 43 image) ≡ is_open slot image
is_open-head A image = ap (λ (g : ℕ). g == 1) (get_or-take 43 image 9 0 (omega arith))
is_open-head B image = ap (λ (g : ℕ). g == 1) (get_or-take 43 image 26 0 (omega arith))

generation-head : (slot : Slot) (image : List ℕ) → generation slot (take 43 image) ≡ generation slot image
generation-head A image = number-head 10 image (omega arith)
generation-head B image = number-head 27 image (omega arith)

start-head : (slot : Slot) (image : List ℕ) → start slot (take 43 image) ≡ start slot image
start-head A image = number-head 18 image (omega arith)
start-head B image = number-head 35 image (omega arith)

-- and so is the root
counting-head : (slot : Slot) (image : List ℕ) → counting slot (take 43 image) ≡ counting slot image
unfolding counting
counting-head slot image = rw (fits-head (gate_of slot + 17) image (gate_of-within slot), start-head slot image, generation-head slot image) refl

higher-head : (image : List ℕ) → higher (take 43 image) ≡ higher image
unfolding higher
higher-head image =
    rw (is_open-head A image, generation-head A image, generation-head B image, counting-head A image, counting-head B image) refl

slots-head : (image : List ℕ) → slots (take 43 image) ≡ slots image
unfolding slots
slots-head image =
    rw (fits-head 27 image (omega arith), fits-head 35 image (omega arith), is_open-head A image, is_open-head B image, higher-head image, counting-head A image) refl

name-head : (image : List ℕ) → agreeing store_name (drop 1 (take 43 image)) ≡ agreeing store_name (drop 1 image)
name-head image = ap (agreeing store_name) (drop-take 1 42 image) ∙ agreeing-head store_name (drop 1 image) 42 (omega arith)

named-head : (image : List ℕ) → named (take 43 image) ≡ named image
unfolding named
named-head image = rw (fits-head 9 image (omega arith), name-head image, slots-head image) refl

root-head : (image : List ℕ) → root_of (take 43 image) ≡ root_of image
unfolding root_of
root-head image = rw (fits-head 1 image (omega arith), get_or-take 43 image 0 0 (omega arith), named-head image) refl

pub roots-agree : RootsAgree
roots-agree c d same = sym (root-head c) ∙ ap root_of same ∙ root-head d

-- what the head of a known file says, the file says
head-file : (file : List ℕ) (size len : ℕ) (root : Result Root Stop) → size ≡ min 43 len → len ≡ length file → root ≡ root_of (take size file) → root ≡ root_of file
head-file file size len root is long head =
    ⊎_elim
    (λ short. head ∙ ap root_of (take_all size file (omega (arith, is, long, short))))
    (λ whole. let all : size ≡ 43 = omega (arith, is, long, whole) in head ∙ ap (λ (n : ℕ). root_of (take n file)) all ∙ root-head file)
    (cases_lt (length file) 43)

pub seen-ok : (seen : Option (List ℕ)) (size len : ℕ) (root : Root) → size ≡ min 43 len → HasLength seen len → IsHeadRoot (Ok root) size seen → IsRootSeen (Ok root) seen
seen-ok None size len root is long head = tt
seen-ok (Some file) size len root is long head = sym (head-file file size len (Ok root) is long head)

pub seen-short : (seen : Option (List ℕ)) (size len : ℕ) → size ≡ min 43 len → HasLength seen len → IsHeadRoot (Err Short) size seen → IsRootSeen (Err (Bad len)) seen
seen-short None size len is long head = tt
seen-short (Some file) size len is long head =
    ap (placed file) (sym (head-file file size len (Err Short) is long head)) ∙ ap (λ (n : ℕ). Err n) (sym long)

pub seen-bad : (seen : Option (List ℕ)) (size len at : ℕ) → size ≡ min 43 len → HasLength seen len → IsHeadRoot (Err (BadAt at)) size seen → IsRootSeen (Err (Bad at)) seen
seen-bad None size len at is long head = tt
seen-bad (Some file) size len at is long head = ap (placed file) (sym (head-file file size len (Err (BadAt at)) is long head))

pub roots-start-behind : RootsStartBehind
roots-start-behind image root is = (root-live image root is).high
