-- A word is read from its last part to its first by `relative`, and from its first to its last by the program.
use Rattle.std.proofs.Common.{◌≡◌, ℕ, ◌+◌, ◌-◌, ◌≤◌, ◌<◌, Bool, true, false, cond, eqb, List, [], ◌∷◌, ◌++◌, length, take, drop, refl, ap, sym, ◌∙◌, arith, append_assoc, get_or, length-append, length-take}
use Rattle.std.specs.Prelude.{zero, suc}
use Rattle.std.proofs.lemmas.List.{take-append-le, take-take, take_all, drop_more, append-nil}
use Rattle.std.proofs.lemmas.Bool.Decides.{nat_tests}
use Rattle.hac_model.specs.Tree.Paths.{without_last}
use Rattle.hac_model.specs.Script.PathWords.{relative, before, is_idle, is_up}
use Rattle.hac_model.specs.declared.paths.PathWord.{PathWord}
use Rattle.hac_names.specs.Reading.{walked}

-- the first word and then the second, which is relative: what the second leads up removes names of the first, and leads
-- further up where these are too few
abbrev pub led_on : PathWord → PathWord → PathWord
led_on first second = record {
  absolute = first.absolute;
  ups = first.ups + (second.ups - length first.names);
  names = without_last second.ups first.names ++ second.names;
}

same_word : (v w : PathWord) → v.absolute ≡ w.absolute → v.ups ≡ w.ups → v.names ≡ w.names → v ≡ w
same_word v w a u n =
    let first : v ≡ record { absolute = w.absolute; ups = v.ups; names = v.names } = ap (λ x. record { absolute = x; ups = v.ups; names = v.names }) a in
    let second : record { absolute = w.absolute; ups = v.ups; names = v.names } ≡ record { absolute = w.absolute; ups = w.ups; names = v.names } = ap (λ x. record { absolute = w.absolute; ups = x; names = v.names }) u in
    first ∙ second ∙ ap (λ x. record { absolute = w.absolute; ups = w.ups; names = x }) n

-- ---- a name in the middle
name_removed : (xs : List (List ℕ)) (x : List ℕ) (n : ℕ) → without_last (suc n) (xs ++ x ∷ []) ≡ without_last n xs
name_removed xs x n =
    let e : length (xs ++ x ∷ []) - suc n ≡ length xs - n = omega (arith, length-append xs (x ∷ [])) in
    rw e (take-append-le (length xs - n) xs (x ∷ []) (omega arith))

name_kept : (xs ys : List (List ℕ)) (x : List ℕ) → without_last 0 (xs ++ x ∷ []) ++ ys ≡ without_last 0 xs ++ x ∷ ys
name_kept xs ys x =
    ap (λ zs. zs ++ ys) (take_all _ (xs ++ x ∷ []) (omega arith)) ∙ append_assoc xs (x ∷ []) ys
    ∙ sym (ap (λ zs. zs ++ x ∷ ys) (take_all _ xs (omega arith)))

-- ---- a `..` in the middle
name_up : (xs : List (List ℕ)) (n : ℕ) → without_last n (without_last 1 xs) ≡ without_last (n + 1) xs
name_up xs n =
    let e : length (take (length xs - 1) xs) - n ≡ length xs - (n + 1) = omega (arith, length-take (length xs - 1) xs) in
    rw e (take-take (length xs - (n + 1)) (length xs - 1) xs (omega arith))

pub nothing_left : (n : ℕ) → without_last n [] ≡ []
nothing_left n = take_all _ [] (omega arith)

length_up : (xs : List (List ℕ)) → length (without_last 1 xs) ≡ length xs - 1
length_up xs = omega (arith, length-take (length xs - 1) xs)

-- `walked` and `before`, given what kind of part it is
abbrev walked_by : Bool → Bool → PathWord → List ℕ → PathWord
walked_by idle up word part =
    cond idle word (cond up (cond (eqb (length word.names) 0) (record word { ups = word.ups + 1 })
    (record word { names = without_last 1 word.names }))
    (record word { names = word.names ++ part ∷ [] }))

abbrev before_by : Bool → Bool → List ℕ → PathWord → PathWord
before_by idle up part word =
    cond idle word (cond up (record word { ups = word.ups + 1 })
    (cond (eqb word.ups 0) (record word { names = part ∷ word.names })
    (record word { ups = word.ups - 1 })))

up_none : (a : Bool) (u : ℕ) (names : List (List ℕ)) (second : PathWord) (part : List ℕ)
    → led_on (walked_by false true (record { absolute = a; ups = u; names = names }) part) second
    ≡ led_on (record { absolute = a; ups = u; names = names }) (before_by false true part second)
up_none a u [] second part =
    same_word _ _ refl (omega arith) (ap (λ zs. zs ++ second.names) (nothing_left second.ups ∙ sym (nothing_left (second.ups + 1))))
up_none a u (x ∷ xs) second part =
    let some : eqb (length (x ∷ xs)) 0 ≡ false = grind (arith, nat_tests) in
    rw some (same_word _ _ refl (omega (arith, length_up (x ∷ xs))) (ap (λ zs. zs ++ second.names) (name_up (x ∷ xs) second.ups)))

name_next : (first : PathWord) (a : Bool) (v : ℕ) (names : List (List ℕ)) (part : List ℕ)
    → led_on (walked_by false false first part) (record { absolute = a; ups = v; names = names })
    ≡ led_on first (before_by false false part (record { absolute = a; ups = v; names = names }))
name_next first a zero names part = same_word _ _ refl (omega arith) (name_kept first.names names part)
name_next first a (suc n) names part =
    let e : first.ups + (suc n - length (first.names ++ part ∷ [])) ≡ first.ups + (suc n - 1 - length first.names) = omega (arith, length-append first.names (part ∷ [])) in
    let one : suc n - 1 ≡ n = omega arith in
    let some : eqb (suc n) 0 ≡ false = grind (arith, nat_tests) in
    rw some (same_word _ _ refl e (ap (λ zs. zs ++ names) (name_removed first.names part n ∙ ap (λ k. without_last k first.names) (sym one))))

by_kind : (idle up : Bool) (first second : PathWord) (part : List ℕ)
    → led_on (walked_by idle up first part) second ≡ led_on first (before_by idle up part second)
by_kind true up first second part = refl
by_kind false true first second part = up_none first.absolute first.ups first.names second part
by_kind false false first second part = name_next first second.absolute second.ups second.names part

-- a part may as well be read with what is before it as with what is behind
pub led_on-before : (part : List ℕ) (first second : PathWord) → led_on (walked first part) second ≡ led_on first (before part second)
led_on-before part first second = by_kind (is_idle part) (is_up part) first second part

-- nothing is behind
pub led_on-none : (word : PathWord) → led_on word (relative []) ≡ word
led_on-none word = same_word _ _ refl (omega arith) (append-nil _ ∙ take_all _ word.names (omega arith))

-- ---- the whole word, from the root on
absolute_by : (idle up : Bool) (part : List ℕ) (word : PathWord) → word.absolute ≡ false → (before_by idle up part word).absolute ≡ false
absolute_by true up part word h = h
absolute_by false true part word h = h
absolute_by false false part word h = grind arith

pub relative-absolute : (parts : List (List ℕ)) → (relative parts).absolute ≡ false
relative-absolute [] = refl
relative-absolute (part ∷ parts) = absolute_by (is_idle part) (is_up part) part (relative parts) (relative-absolute parts)

pub led_on-root : (parts : List (List ℕ)) → led_on (record { absolute = false; ups = 0; names = [] }) (relative parts) ≡ relative parts
led_on-root parts =
    same_word _ _ (sym (relative-absolute parts)) (omega arith) (ap (λ zs. zs ++ (relative parts).names) (nothing_left (relative parts).ups))

-- one turn of the loop
pub led_on-more : (word : PathWord) (parts : List (List ℕ)) (n : ℕ) (part : List ℕ) → (n < length parts) × (part ≡ get_or parts n part)
    → led_on (walked word part) (relative (drop (n + 1) parts)) ≡ led_on word (relative (drop n parts))
led_on-more word parts n part h =
    led_on-before part word (relative (drop (n + 1) parts))
    ∙ ap (λ ps. led_on word (relative ps)) (ap (λ p. p ∷ drop (n + 1) parts) h.1 ∙ sym (drop_more parts n part h.0))

ups_by : (idle up empty : Bool) (word : PathWord) (part : List ℕ)
    → (cond idle word (cond up (cond empty (record word { ups = word.ups + 1 })
    (record word { names = without_last 1 word.names }))
    (record word { names = word.names ++ part ∷ [] }))).ups ≤ word.ups + 1
ups_by true up empty word part = omega arith
ups_by false true true word part = omega arith
ups_by false true false word part = omega arith
ups_by false false empty word part = omega arith

-- a part leads up by one at most
pub walked-ups : (word : PathWord) (part : List ℕ) → (walked word part).ups ≤ word.ups + 1
walked-ups word part = ups_by (is_idle part) (is_up part) (eqb (length word.names) 0) word part
