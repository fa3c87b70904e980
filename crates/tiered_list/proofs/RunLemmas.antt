-- Runs one behind the other, and a number that is carried from one to the next.
use Rattle.std.proofs.Common.{◌≡◌, ℕ, zero, suc, ◌+◌, ◌*◌, ◌-◌, ◌<◌, ◌≤◌, List, [], ◌∷◌, ◌++◌, length, get_or, set, take, drop, refl, ap, sym, ◌∙◌, arith, add-one, length-append}
use Rattle.std.specs.Prelude.{insert, remove}
use Rattle.std.specs.List.{concat}
use Rattle.std.proofs.lemmas.List.{append-nil, append_assoc, drop-set-lt, drop_all, drop_more, get_or-append_right, get_or_append_left, length-take-le, set-get_or, set_split, take_all, take_at, take_more_set, drop_at}
use Rattle.std.proofs.lemmas.List.Edits.{insert-append_left, insert-append_right, remove-append_left, remove-append_right}
use Rattle.std.proofs.lemmas.List.Elements.{All-head, All-tail, All-take}
use Rattle.tiered_list.specs.Runs.{AreFull}

pub concat-append : (xs ys : List (List ℕ)) → concat (xs ++ ys) ≡ concat xs ++ concat ys
concat-append [] ys = refl
concat-append (x ∷ xs) ys = ap (λ (r : List ℕ). x ++ r) (concat-append xs ys) ∙ sym (append_assoc x (concat xs) (concat ys))

pub concat-one : (xs : List (List ℕ)) (y : List ℕ) → concat (xs ++ y ∷ []) ≡ concat xs ++ y
concat-one xs y = concat-append xs (y ∷ []) ∙ ap (λ (r : List ℕ). concat xs ++ r) (append-nil y)

pub length-concat : (runs : List (List ℕ)) → AreFull runs → length (concat runs) ≡ length runs * 512
length-concat [] full = refl
length-concat (run ∷ runs) full =
    let first : length run ≡ 512 = All-head (λ (r : List ℕ). length r ≡ 512) run runs full in
    let rest : length (concat runs) ≡ length runs * 512 = length-concat runs (All-tail (λ (r : List ℕ). length r ≡ 512) run runs full) in
    omega (arith, length-append run (concat runs))

-- what is at a place

pub at-run : (runs : List (List ℕ)) (tail : List ℕ) (q j : ℕ) → AreFull runs → q < length runs → j < 512 → get_or (concat runs ++ tail) (q * 512 + j) 0 ≡ get_or (get_or runs q []) j 0
at-run [] tail q j full inside low = absurd (omega arith)
at-run (run ∷ runs) tail zero j full inside low =
    let first : length run ≡ 512 = All-head (λ (r : List ℕ). length r ≡ 512) run runs full in
    let here : zero * 512 + j ≡ j = omega arith in
    ap (λ (k : ℕ). get_or ((run ++ concat runs) ++ tail) k 0) here
    ∙ ap (λ (ns : List ℕ). get_or ns j 0) (append_assoc run (concat runs) tail)
    ∙ get_or_append_left run (concat runs ++ tail) 0 j (omega arith)
at-run (run ∷ runs) tail (suc q) j full inside low =
    let first : length run ≡ 512 = All-head (λ (r : List ℕ). length r ≡ 512) run runs full in
    let behind : suc q * 512 + j - 512 ≡ q * 512 + j = omega arith in
    ap (λ (ns : List ℕ). get_or ns (suc q * 512 + j) 0) (append_assoc run (concat runs) tail)
    ∙ get_or-append_right run (concat runs ++ tail) 512 (suc q * 512 + j) 0 first (omega arith)
    ∙ ap (λ (k : ℕ). get_or (concat runs ++ tail) k 0) behind
    ∙ at-run runs tail q j (All-tail (λ (r : List ℕ). length r ≡ 512) run runs full) (omega arith) low

-- one run among the others

set-parts : (runs : List (List ℕ)) (i : ℕ) (run : List ℕ) → i < length runs → concat (set runs i run) ≡ concat (take i runs) ++ (run ++ concat (drop (suc i) runs))
set-parts runs i run inside = ap concat (set_split runs i run inside) ∙ concat-append (take i runs) (run ∷ drop (suc i) runs)

parts : (runs : List (List ℕ)) (i : ℕ) → i < length runs → concat runs ≡ concat (take i runs) ++ (get_or runs i [] ++ concat (drop (suc i) runs))
parts runs i inside = ap concat (sym (set-get_or runs i [])) ∙ set-parts runs i (get_or runs i []) inside

front : (runs : List (List ℕ)) (i : ℕ) → AreFull runs → i < length runs → length (concat (take i runs)) ≡ i * 512
front runs i full inside =
    length-concat (take i runs) (All-take (λ (r : List ℕ). length r ≡ 512) i runs full) ∙ ap (λ (k : ℕ). k * 512) (length-take-le i runs (omega arith))

-- the numbers of the runs, and one more that is carried in front of a run
abbrev pub held : ℕ → ℕ → List (List ℕ) → List ℕ
held i number runs = concat (take i runs) ++ number ∷ concat (drop i runs)

pub held-end : (runs : List (List ℕ)) (i number : ℕ) → length runs ≤ i → held i number runs ≡ concat runs ++ number ∷ []
held-end runs i number past =
    ap (λ (rs : List (List ℕ)). concat rs ++ number ∷ concat (drop i runs)) (take_all i runs past)
    ∙ ap (λ (rs : List (List ℕ)). concat runs ++ number ∷ concat rs) (drop_all i runs past)

-- behind a run that was written
held-set : (runs : List (List ℕ)) (i number : ℕ) (run : List ℕ) → i < length runs → held (i + 1) number (set runs i run) ≡ concat (take i runs) ++ ((run ++ number ∷ []) ++ concat (drop (suc i) runs))
held-set runs i number run inside =
    let left : concat (take (i + 1) (set runs i run)) ≡ concat (take i runs) ++ run = ap concat (take_more_set runs i run inside) ∙ concat-one (take i runs) run in
    let right : concat (drop (i + 1) (set runs i run)) ≡ concat (drop (suc i) runs) = ap concat (drop-set-lt (i + 1) runs i run (omega arith) ∙ ap (λ (k : ℕ). drop k runs) (add-one i)) in
    (λ x. left x ++ number ∷ right x)
    ∙ append_assoc (concat (take i runs)) run (number ∷ concat (drop (suc i) runs))
    ∙ ap (λ (ns : List ℕ). concat (take i runs) ++ ns) (sym (append_assoc run (number ∷ []) (concat (drop (suc i) runs))))

-- in front of a run
held-here : (runs : List (List ℕ)) (i number : ℕ) → i < length runs → held i number runs ≡ concat (take i runs) ++ ((number ∷ get_or runs i []) ++ concat (drop (suc i) runs))
held-here runs i number inside =
    ap (λ (rs : List (List ℕ)). concat (take i runs) ++ number ∷ concat rs) (drop_more runs i [] inside ∙ ap (λ (k : ℕ). get_or runs i [] ∷ drop k runs) (add-one i))

-- A number comes in at the front of a run, and its last one is carried on.
pub held-forward : (runs : List (List ℕ)) (i number out : ℕ) (run : List ℕ) → i < length runs → run ++ out ∷ [] ≡ number ∷ get_or runs i [] → held (i + 1) out (set runs i run) ≡ held i number runs
held-forward runs i number out run inside is =
    held-set runs i out run inside
    ∙ ap (λ (ns : List ℕ). concat (take i runs) ++ (ns ++ concat (drop (suc i) runs))) is
    ∙ sym (held-here runs i number inside)

-- A number comes in at the end of a run, and its first one is carried back.
pub held-back : (runs : List (List ℕ)) (i number out : ℕ) (run : List ℕ) → i < length runs → out ∷ run ≡ get_or runs i [] ++ number ∷ [] → held i out (set runs i run) ≡ held (i + 1) number runs
held-back runs i number out run inside is =
    let same : set runs i (get_or runs i []) ≡ runs = set-get_or runs i [] in
    let left : take i (set runs i run) ≡ take i runs = ap (λ (rs : List (List ℕ)). take i rs) (set_split runs i run inside) ∙ take-front in
    let right : concat (drop i (set runs i run)) ≡ run ++ concat (drop (suc i) runs) = ap (λ (rs : List (List ℕ)). concat (drop i rs)) (set_split runs i run inside) ∙ ap concat drop-front in
    (λ x. concat (left x) ++ out ∷ right x)
    ∙ ap (λ (ns : List ℕ). concat (take i runs) ++ (ns ++ concat (drop (suc i) runs))) is
    ∙ sym (held-set runs i number (get_or runs i []) inside)
    ∙ ap (λ (rs : List (List ℕ)). held (i + 1) number rs) same
  where
    few : length (take i runs) ≡ i
    few = length-take-le i runs (omega arith)

    take-front : take i (take i runs ++ run ∷ drop (suc i) runs) ≡ take i runs
    take-front = take_at (take i runs) (run ∷ drop (suc i) runs) i few

    drop-front : drop i (take i runs ++ run ∷ drop (suc i) runs) ≡ run ∷ drop (suc i) runs
    drop-front = drop_at (take i runs) (run ∷ drop (suc i) runs) i few

-- A number is inserted into a run, and its last one is carried on.
pub held-inserted : (runs : List (List ℕ)) (q j number out : ℕ) (run : List ℕ) → AreFull runs → q < length runs → j < 512 → run ++ out ∷ [] ≡ insert (get_or runs q []) j number → held (q + 1) out (set runs q run) ≡ insert (concat runs) (q * 512 + j) number
held-inserted runs q j number out run full inside low is =
    let old = get_or runs q [] in
    let left = concat (take q runs) in
    let right = concat (drop (suc q) runs) in
    let long : length old ≡ 512 = full q [] inside in
    let place : q * 512 + j - q * 512 ≡ j = omega arith in
    held-set runs q out run inside
    ∙ ap (λ (ns : List ℕ). left ++ (ns ++ right)) is
    ∙ ap (λ (ns : List ℕ). left ++ ns) (sym (insert-append_left old right j number (omega arith)))
    ∙ ap (λ (k : ℕ). left ++ insert (old ++ right) k number) (sym place)
    ∙ sym (insert-append_right left (old ++ right) (q * 512) (q * 512 + j) number (front runs q full inside) (omega arith))
    ∙ ap (λ (ns : List ℕ). insert ns (q * 512 + j) number) (sym (parts runs q inside))

-- A number is removed from a run, and the one that was carried to it comes in.
pub held-removed : (runs : List (List ℕ)) (q j number : ℕ) (run : List ℕ) → AreFull runs → q < length runs → j < 512 → run ≡ remove (get_or runs q []) j ++ number ∷ [] → concat (set runs q run) ≡ remove (held (q + 1) number runs) (q * 512 + j)
held-removed runs q j number run full inside low is =
    let old = get_or runs q [] in
    let left = concat (take q runs) in
    let right = concat (drop (suc q) runs) in
    let long : length old ≡ 512 = full q [] inside in
    let place : q * 512 + j - q * 512 ≡ j = omega arith in
    let whole : held (q + 1) number runs ≡ left ++ ((old ++ number ∷ []) ++ right) = ap (λ (rs : List (List ℕ)). held (q + 1) number rs) (sym (set-get_or runs q [])) ∙ held-set runs q number old inside in
    set-parts runs q run inside
    ∙ ap (λ (ns : List ℕ). left ++ (ns ++ right)) is
    ∙ ap (λ (ns : List ℕ). left ++ ns) (append_assoc (remove old j) (number ∷ []) right)
    ∙ ap (λ (ns : List ℕ). left ++ ns) (sym (remove-append_left old (number ∷ right) j (omega arith)))
    ∙ ap (λ (k : ℕ). left ++ remove (old ++ number ∷ right) k) (sym place)
    ∙ sym (remove-append_right left (old ++ number ∷ right) (q * 512) (q * 512 + j) (front runs q full inside) (omega arith))
    ∙ ap (λ (ns : List ℕ). remove (left ++ ns) (q * 512 + j)) (sym (append_assoc old (number ∷ []) right))
    ∙ ap (λ (ns : List ℕ). remove ns (q * 512 + j)) (sym whole)

-- The tail behind the runs.

pub run-inserts : (old new tail : List ℕ) (place number last : ℕ) → place ≤ length old → new ++ last ∷ [] ≡ insert old place number → new ++ insert tail 0 last ≡ insert (old ++ tail) place number
run-inserts old new tail place number last low is =
    sym (append_assoc new (last ∷ []) tail)
    ∙ ap (λ (ns : List ℕ). ns ++ tail) is
    ∙ sym (insert-append_left old tail place number low)

pub run-removes : (old new tail : List ℕ) (place first : ℕ) → place < length old → 0 < length tail → first ≡ get_or tail 0 first → new ≡ remove old place ++ first ∷ [] → new ++ remove tail 0 ≡ remove (old ++ tail) place
run-removes old new [] place first low more at is = absurd (omega arith)
run-removes old new (n ∷ ns) place first low more at is =
    ap (λ (ms : List ℕ). ms ++ ns) is
    ∙ append_assoc (remove old place) (first ∷ []) ns
    ∙ ap (λ (m : ℕ). remove old place ++ m ∷ ns) at
    ∙ sym (remove-append_left old (n ∷ ns) place low)

pub tail-inserts : (runs : List (List ℕ)) (tail : List ℕ) (count place number : ℕ) → AreFull runs → count ≡ length runs → count * 512 ≤ place → concat runs ++ insert tail (place - count * 512) number ≡ insert (concat runs ++ tail) place number
tail-inserts runs tail count place number full is low =
    let long : length (concat runs) ≡ count * 512 = length-concat runs full ∙ ap (λ (k : ℕ). k * 512) (sym is) in
    sym (insert-append_right (concat runs) tail (count * 512) place number long low)

pub tail-removes : (runs : List (List ℕ)) (tail : List ℕ) (count place : ℕ) → AreFull runs → count ≡ length runs → count * 512 ≤ place → concat runs ++ remove tail (place - count * 512) ≡ remove (concat runs ++ tail) place
tail-removes runs tail count place full is low =
    let long : length (concat runs) ≡ count * 512 = length-concat runs full ∙ ap (λ (k : ℕ). k * 512) (sym is) in
    sym (remove-append_right (concat runs) tail (count * 512) place long low)

pub length-items : (runs : List (List ℕ)) (tail : List ℕ) → AreFull runs → length (concat runs ++ tail) ≡ length runs * 512 + length tail
length-items runs tail full = length-append (concat runs) tail ∙ ap (λ (k : ℕ). k + length tail) (length-concat runs full)
