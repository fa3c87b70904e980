-- Loops that read or write a list item by item.
use Rattle.std.proofs.Common.{◌≡◌, ℕ, suc, ◌+◌, ◌-◌, ◌<◌, ◌≤◌, true, List, [], ◌∷◌, ◌++◌, length, get_or, take, drop, Option, Some, None, Result, Ok, Err, refl, sym, ap, ◌∙◌, append_assoc, add-one, arith}
use Rattle.std.specs.List.{slice_get}
use Rattle.std.proofs.lemmas.Bool.{and_parts}
use Rattle.std.proofs.lemmas.List.{append-nil, length-append, take_more}
use Rattle.std.proofs.Math.Seq.{drop-cons}
use Rattle.hac_model.specs.Payload.Fields.{Field, items_at, items_fit, items_text}
use Rattle.payload_fields.specs.declared.faults.Fault.{Fault}
use Rattle.payload_fields.specs.declared.faults.Fault.TheVariants as fault
use Rattle.payload_fields.specs.Reading.{Fails}
use Rattle.payload_fields.proofs.FrontLemmas.{with_front, regroup}

-- the last one
abbrev pub last_of : {A : Type 0} → List A → Option A
last_of xs = slice_get xs (length xs - 1)

slice_get-last : {A : Type 0} (xs : List A) (x : A) → slice_get (xs ++ x ∷ []) (length xs) ≡ Some x
slice_get-last [] x = refl
slice_get-last (y ∷ ys) x = slice_get-last ys x

pub last_of-push : {A : Type 0} (xs : List A) (x : A) → last_of (xs ++ x ∷ []) ≡ Some x
last_of-push xs x =
    let size : length (xs ++ x ∷ []) - 1 ≡ length xs = omega (arith, length-append xs (x ∷ [])) in
    rw size (slice_get-last xs x)

-- what is read in front of the items from here on is what is read in all
abbrev pub GoesOn : {A : Type 0} → (Option A → Field A) → List A → ℕ → List ℕ → Result (List A × List ℕ) ℕ → Type 0
GoesOn item front due bytes total = with_front front (items_at item due (last_of front) bytes) ≡ total

pub goes_on : {A : Type 0} (item : Option A → Field A) (front : List A) (count i : ℕ) (bytes : List ℕ) (x : A) (after : List ℕ) (total : Result (List A × List ℕ) ℕ)
    → i < count → (item (last_of front)).read bytes ≡ Ok (x, after) → GoesOn item front (count - i) bytes total → GoesOn item (front ++ x ∷ []) (count - (i + 1)) after total
unfolding items_at
goes_on item front count i bytes x after total lt read so_far =
    let k : count - i ≡ suc (count - (i + 1)) = omega arith in
    let one : with_front front (items_at item (count - i) (last_of front) bytes) ≡ with_front (front ++ x ∷ []) (items_at item (count - (i + 1)) (Some x) after) =
    rw (k, read) (regroup front x (items_at item (count - (i + 1)) (Some x) after)) in
    rw (last_of-push front x) (sym one ∙ so_far)

pub goes_wrong : {A : Type 0} (item : Option A → Field A) (f : Fault) (front : List A) (count i : ℕ) (bytes : List ℕ) (total : Result (List A × List ℕ) ℕ)
    → i < count → Fails f ((item (last_of front)).read bytes) → GoesOn item front (count - i) bytes total → Fails f total
unfolding items_at
goes_wrong item fault.Memory front count i bytes total lt fails so_far = tt
goes_wrong item (fault.Bad left) front count i bytes total lt fails so_far =
    let k : count - i ≡ suc (count - (i + 1)) = omega arith in
    let one : with_front front (items_at item (count - i) (last_of front) bytes) ≡ Err left = rw (k, fails) refl in
    sym so_far ∙ one

pub is_done : {A : Type 0} (item : Option A → Field A) (front : List A) (count i : ℕ) (bytes : List ℕ) (total : Result (List A × List ℕ) ℕ)
    → count ≤ i → GoesOn item front (count - i) bytes total → total ≡ Ok (front, bytes)
unfolding items_at
is_done item front count i bytes total le so_far =
    let k : count - i ≡ 0 = omega arith in
    let one : with_front front (items_at item (count - i) (last_of front) bytes) ≡ Ok (front, bytes) = rw k (ap (λ xs. Ok (xs, bytes)) (append-nil front)) in
    sym so_far ∙ one

-- ---- writing

-- this many items were written, and the others may be
pub record WritesOn {A : Type 0} (item : Option A → Field A) (before : List ℕ) (xs : List A) (i : ℕ) (out : List ℕ) : Type 0 where
  pub text : out ++ items_text item (last_of (take i xs)) (drop i xs) ≡ before ++ items_text item None xs
  pub fits : items_fit item (last_of (take i xs)) (drop i xs) ≡ true

split_at : {A : Type 0} (xs : List A) (i : ℕ) (x : A) → i < length xs → x ≡ get_or xs i x → drop i xs ≡ x ∷ drop (i + 1) xs
split_at xs i x lt is = drop-cons xs i x lt ∙ ap (λ y. y ∷ drop (suc i) xs) (sym is) ∙ ap (λ k. x ∷ drop k xs) (sym (add-one i))

taken_more : {A : Type 0} (xs : List A) (i : ℕ) (x : A) → i < length xs → x ≡ get_or xs i x → last_of (take (i + 1) xs) ≡ Some x
taken_more xs i x lt is = ap last_of (take_more xs i x lt) ∙ last_of-push (take i xs) (get_or xs i x) ∙ ap (λ y. Some y) (sym is)

pub writes_more : {A : Type 0} (item : Option A → Field A) (before : List ℕ) (xs : List A) (i : ℕ) (out new : List ℕ) (x : A)
    → i < length xs → x ≡ get_or xs i x → ((last : Option A) → new ≡ out ++ (item last).text x) → WritesOn item before xs i out → WritesOn item before xs (i + 1) new
writes_more item before xs i out new x lt is wrote so_far =
    let last = last_of (take i xs) in
    let rest = items_text item (Some x) (drop (i + 1) xs) in
    let text : out ++ ((item last).text x ++ rest) ≡ before ++ items_text item None xs = rw (split_at xs i x lt is) at so_far.text in
    let fits = and_parts ((item last).fits x) (items_fit item (Some x) (drop (i + 1) xs)) (rw (split_at xs i x lt is) at so_far.fits) in
    record {
      text = rw (taken_more xs i x lt is, wrote last) (append_assoc out ((item last).text x) rest ∙ text);
      fits = rw (taken_more xs i x lt is) fits.1;
    }
