-- Facts on who is in which set after a change, and on what is behind the spare.
use Rattle.std.proofs.Common.{◌≡◌, ℕ, ◌+◌, ◌-◌, ◌<◌, ◌≤◌, Bool, true, false, cond, not, ◌&&◌, ◌||◌, eqb, ltb, List, [], ◌∷◌, length, length-append, refl, sym, ap, ◌∙◌, arith, inl, inr, ◌⊎◌, Option, Some, None}
use Rattle.std.specs.List.{filter}
use Rattle.std.specs.Option.{option_map, unwrap_or}
use Rattle.std.proofs.lemmas.Bool.{cases_eq, cases_order, eq-eqb, eqb-true, le-ltb, lt-ltb, ne_eqb, or_right}
use Rattle.std.proofs.lemmas.List.Folds.{list_any-append}
use Rattle.std.proofs.lemmas.List.Sums.{count_by-le-length, length-filter}
use Rattle.set_pool.specs.Lists.{ChangesAt, DropsAt, Names, list_at, members_at}
use Rattle.set_pool.specs.Pool.{IsBacked}
use Rattle.set_pool.specs.Rising.{inserted, is_among, removed}

or-false : (b : Bool) → (b || false) ≡ b
or-false true = refl
or-false false = refl

and-comm : (a b : Bool) → (a && b) ≡ (b && a)
and-comm true true = refl
and-comm true false = refl
and-comm false true = refl
and-comm false false = refl

-- what passes a test has those of the list that pass it
among-step : (q y : ℕ) (t f : List ℕ) (c : Bool) → eqb q y ≡ c → (b p : Bool) → (c ≡ true → b ≡ p) → is_among q f ≡ (p && is_among q t) → is_among q (cond b (y ∷ f) f) ≡ (p && (eqb q y || is_among q t))
among-step q y t f true e true true same ih = rw e refl
among-step q y t f true e true false same ih = let no = same refl in cc
among-step q y t f true e false true same ih = let no = same refl in cc
among-step q y t f true e false false same ih = ih
among-step q y t f false e true p same ih = rw e ih
among-step q y t f false e false p same ih = rw e ih

among-filter : (test : ℕ → Bool) (q : ℕ) (xs : List ℕ) → is_among q (filter test xs) ≡ (test q && is_among q xs)
among-filter test q [] = and-comm false (test q)
among-filter test q (y ∷ t) = among-step q y t (filter test t) (eqb q y) refl (test y) (test q) (λ e. ap test (sym (eqb-true q y e))) (among-filter test q t)

pub among-inserted : (x q : ℕ) (xs : List ℕ) → is_among q (inserted x xs) ≡ (is_among q xs || eqb q x)
among-inserted x q xs =
    list_any-append (λ y. eqb q y) (filter (λ y. ltb y x) xs) (x ∷ filter (λ y. ltb x y) xs)
    ∙ rw (among-filter (λ y. ltb y x) q xs, among-filter (λ y. ltb x y) q xs) (cases (is_among q xs))
  where
    cases : (a : Bool) → ((ltb q x && a) || (eqb q x || (ltb x q && a))) ≡ (a || eqb q x)
    cases a =
        elim (cases_order q x) [
          | inl same ↦ let e = eq-eqb q x same in let no = le-ltb q x (omega arith) in rw (e, no) (sym (or_right a true refl))
          | inr (inl less) ↦ let e = ne_eqb q x (omega arith) in let yes = lt-ltb q x less in let no = le-ltb x q (omega arith) in rw (e, yes, no) refl
          | inr (inr more) ↦ let e = ne_eqb q x (omega arith) in let no = le-ltb q x (omega arith) in let yes = lt-ltb x q more in rw (e, no, yes) (sym (or-false a))
        ]

pub among-removed : (x q : ℕ) (xs : List ℕ) → is_among q (removed x xs) ≡ (is_among q xs && not (eqb q x))
among-removed x q xs = among-filter (λ y. not (eqb x y)) q xs ∙ and-comm (not (eqb x q)) (is_among q xs) ∙ ap (λ b. is_among q xs && not b) (turned (cases_eq q x))
  where
    turned : (q ≡ x) ⊎ (q ≡ x → ⊥) → eqb x q ≡ eqb q x
    turned (inl same) = eq-eqb x q (sym same) ∙ sym (eq-eqb q x same)
    turned (inr differ) = ne_eqb x q (λ e. differ (sym e)) ∙ sym (ne_eqb q x differ)

-- a number joins a set, or leaves it
joined : (x s set n : ℕ) (old : List (Option (List ℕ))) (b : Bool) → eqb s set ≡ b → is_among n (unwrap_or (cond b (Some (inserted x (members_at old set))) (list_at old s)) []) ≡ (is_among n (members_at old s) || (b && eqb n x))
joined x s set n old true e = among-inserted x n (members_at old set) ∙ ap (λ k. is_among n (members_at old k) || eqb n x) (sym (eqb-true s set e))
joined x s set n old false e = sym (or-false (is_among n (members_at old s)))

pub joins : (x set : ℕ) (old new : List (Option (List ℕ))) → ChangesAt old new set (Some (inserted x (members_at old set))) → (s n : ℕ) → is_among n (members_at new s) ≡ (is_among n (members_at old s) || (eqb s set && eqb n x))
joins x set old new change s n = ap (λ o. is_among n (unwrap_or o [])) (change s) ∙ joined x s set n old (eqb s set) refl

left : (x s set n : ℕ) (old : List (Option (List ℕ))) (b : Bool) → eqb s set ≡ b → is_among n (unwrap_or (cond b (Some (removed x (members_at old set))) (list_at old s)) []) ≡ (is_among n (members_at old s) && not (b && eqb n x))
left x s set n old true e = among-removed x n (members_at old set) ∙ ap (λ k. is_among n (members_at old k) && not (eqb n x)) (sym (eqb-true s set e))
left x s set n old false e = and-comm true (is_among n (members_at old s))

pub leaves : (x set : ℕ) (old new : List (Option (List ℕ))) → ChangesAt old new set (Some (removed x (members_at old set))) → (s n : ℕ) → is_among n (members_at new s) ≡ (is_among n (members_at old s) && not (eqb s set && eqb n x))
leaves x set old new change s n = ap (λ o. is_among n (unwrap_or o [])) (change s) ∙ left x s set n old (eqb s set) refl

-- a set gains at most one number by an insert, and none by a remove
sides-length : (x : ℕ) (xs : List ℕ) → length (filter (λ y. ltb y x) xs) + length (filter (λ y. ltb x y) xs) ≤ length xs
sides-length x [] = omega arith
sides-length x (y ∷ t) =
    let ih = sides-length x t in
    elim (cases_order x y) [
      | inl same ↦ let one = le-ltb y x (omega arith) in let two = le-ltb x y (omega arith) in rw (one, two) (omega arith)
      | inr (inl less) ↦ let one = le-ltb y x (omega arith) in let two = lt-ltb x y less in rw (one, two) (omega arith)
      | inr (inr more) ↦ let one = lt-ltb y x more in let two = le-ltb x y (omega arith) in rw (one, two) (omega arith)
    ]

length-inserted : (x : ℕ) (xs : List ℕ) → length (inserted x xs) ≤ length xs + 1
length-inserted x xs = omega (arith, length-append (filter (λ y. ltb y x) xs) (x ∷ filter (λ y. ltb x y) xs), sides-length x xs)

length-removed : (x : ℕ) (xs : List ℕ) → length (removed x xs) ≤ length xs
length-removed x xs = omega (arith, length-filter (λ y. not (eqb x y)) xs, count_by-le-length (λ y. not (eqb x y)) xs)

length-changed : (b : Bool) (list old : Option (List ℕ)) (bound : ℕ) → length (unwrap_or list []) ≤ bound → length (unwrap_or old []) ≤ bound → length (unwrap_or (cond b list old) []) ≤ bound
length-changed true list old bound p q = p
length-changed false list old bound p q = q

changed-length : (set : ℕ) (old new : List (Option (List ℕ))) (list : Option (List ℕ)) (bound : ℕ) → ChangesAt old new set list → length (unwrap_or list []) ≤ bound → (q : ℕ) → length (members_at old q) ≤ bound → length (members_at new q) ≤ bound
changed-length set old new list bound change p q h = rw change (length-changed (eqb q set) list (list_at old q) bound p h)

pub backed-insert : (old new : Names) (set x blocks left spare granted : ℕ) → ChangesAt old.lists new.lists set (Some (inserted x (members_at old.lists set))) → new.free ≡ old.free → blocks ≤ left + 1 → 0 < spare → IsBacked old blocks spare granted → IsBacked new left (spare - 1) granted
backed-insert old new set x blocks left spare granted change names taken some b =
    let bound = granted - spare + 1 in
    let gain = length-inserted x (members_at old.lists set) in
    let set-few = b.few set in
    record {
      enough_names = let n = b.enough_names in omega arith;
      enough_blocks = let n = b.enough_blocks in omega arith;
      given = let n = b.given in omega arith;
      few = λ q. let g = b.given in let h = b.few q in let l = changed-length set old.lists new.lists (Some (inserted x (members_at old.lists set))) bound change (omega arith) q (omega arith) in omega arith;
      small = b.small;
    }

pub backed-remove : (old new : Names) (set x blocks spare granted : ℕ) → ChangesAt old.lists new.lists set (Some (removed x (members_at old.lists set))) → new.free ≡ old.free → IsBacked old blocks spare granted → IsBacked new blocks spare granted
backed-remove old new set x blocks spare granted change names b =
    let bound = granted - spare in
    let loss = length-removed x (members_at old.lists set) in
    let set-few = b.few set in
    record {
      enough_names = let n = b.enough_names in omega arith;
      enough_blocks = b.enough_blocks;
      given = b.given;
      few = λ q. let g = b.given in let h = b.few q in let l = changed-length set old.lists new.lists (Some (removed x (members_at old.lists set))) bound change (omega arith) q (omega arith) in omega arith;
      small = b.small;
    }

thin-length : (x : ℕ) (list : Option (List ℕ)) → length (unwrap_or (option_map (removed x) list) []) ≤ length (unwrap_or list [])
thin-length x None = omega arith
thin-length x (Some list) = length-removed x list

pub backed-thin : (old new : Names) (x blocks spare granted : ℕ) → DropsAt old.lists new.lists x → new.free ≡ old.free → IsBacked old blocks spare granted → IsBacked new blocks spare granted
backed-thin old new x blocks spare granted change names b =
    record {
      enough_names = let n = b.enough_names in omega arith;
      enough_blocks = b.enough_blocks;
      given = b.given;
      few = λ q. let h = b.few q in let l = thin-length x (list_at old.lists q) in let e = ap (λ o. length (unwrap_or o [])) (change q) in omega arith;
      small = b.small;
    }
