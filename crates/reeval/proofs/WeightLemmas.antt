-- How many terms the queries on a way have: no more than all queries, since each directory comes once.
use Rattle.std.proofs.Common.{◌≡◌, ℕ, zero, suc, ◌+◌, ◌≤◌, Bool, true, false, cond, List, [], ◌∷◌, ap, arith, inl, inr, refl, subst, sym, ◌∙◌}
use Rattle.std.specs.Prelude.{◌==◌, sum_by, Option, option_and_then}
use Rattle.std.specs.List.{range_with_len}
use Rattle.std.specs.Option.{option_map, option_map_or}
use Rattle.std.proofs.lemmas.Bool.{eqb-true}
use Rattle.std.proofs.lemmas.Bool.Decides.{nat_tests}
use Rattle.std.proofs.lemmas.List.Sums.{sum_by-cons, sum_by-le-sum_by, sum_by_push}
use Rattle.dep_graph.specs.Searches.{EachOnce, IsOrdered}
use Rattle.hac_model.specs.Query.Queries.{terms}
use Rattle.hac_model.specs.Tree.Costs.{terms_at, weight}
use Rattle.hac_model.specs.Tree.Depends.{Among}
use Rattle.hac_model.specs.Tree.Valid.{IsValid}
use Rattle.hac_model.specs.Tree.{query_in}
use Rattle.hac_model.specs.declared.states.Entry.{Entry}
use Rattle.hac_model.specs.declared.states.State.{State}
use Rattle.hac_model.proofs.RangeLemmas.{range-next}
use Rattle.hac_model.proofs.TreeLemmas.{entry_at-next}
use Rattle.reeval.specs.Probes.{terms_along}
use Rattle.reeval.specs.Routes.{dirs_of}
use Rattle.reeval.specs.declared.settling.Stop.{Stop}

-- Sums over numbers.

-- what is summed, but for one number
abbrev pub but : (ℕ → ℕ) → ℕ → ℕ → ℕ
but f n k = cond (k == n) 0 (f k)

pub but-less : (f : ℕ → ℕ) (n k : ℕ) → but f n k ≤ f k
but-less f n k = elim (k == n) as (λ b. cond b 0 (f k) ≤ f k) [ true ↦ omega arith | false ↦ omega arith ]

-- it is missed where it comes
pub but-absent : (f : ℕ → ℕ) (n : ℕ) (ns : List ℕ) → ¬ Among ns n → sum_by f ns ≤ sum_by (but f n) ns
but-absent f n [] apart = omega arith
but-absent f n (k ∷ ns) apart =
    let rest = but-absent f n ns (λ more. apart (inr more)) in
    let here : f k ≤ but f n k = at (k == n) refl in
    omega (arith, rest, here, sum_by-cons f k ns, sum_by-cons (but f n) k ns)
  where
    at : (b : Bool) → (k == n) ≡ b → f k ≤ cond b 0 (f k)
    at true same = absurd (apart (inl (eqb-true k n same)))
    at false other = omega arith

-- once at most
pub but-once : (f : ℕ → ℕ) (n : ℕ) (ns : List ℕ) → EachOnce ns → sum_by f ns ≤ sum_by (but f n) ns + f n
but-once f n [] once = omega arith
but-once f n (k ∷ ns) once = at (but-once f n ns once.1) (k == n) refl
  where
    at : sum_by f ns ≤ sum_by (but f n) ns + f n → (b : Bool) → (k == n) ≡ b → sum_by f (k ∷ ns) ≤ sum_by (but f n) (k ∷ ns) + f n
    at rest true same =
        let is : k ≡ n = eqb-true k n same in
        let own : f k ≡ f n = ap f is in
        let others = but-absent f n ns (λ more. once.0 (subst (Among ns) (sym is) more)) in
        omega (arith, own, others, sum_by-cons f k ns, sum_by-cons (but f n) k ns)
    at rest false other =
        let own : but f n k ≡ f k = ap (λ (b : Bool). cond b 0 (f k)) other in
        omega (arith, own, rest, sum_by-cons f k ns, sum_by-cons (but f n) k ns)

-- what is 0 everywhere has the sum 0
pub sum-zero : (f : ℕ → ℕ) (ns : List ℕ) → ((k : ℕ) → f k ≡ 0) → sum_by f ns ≡ 0
sum-zero f [] zeros = refl
sum-zero f (k ∷ ns) zeros = let rest = sum-zero f ns zeros in let here = zeros k in omega (arith, rest, here, sum_by-cons f k ns)

-- numbers that each come once have no greater sum than all below a bound from which on there is nothing
pub sum-once : (f : ℕ → ℕ) (n : ℕ) → ((k : ℕ) → n ≤ k → f k ≡ 0) → (ns : List ℕ) → EachOnce ns → sum_by f ns ≤ sum_by f (range_with_len 0 n)
sum-once f zero none ns once = let all = sum-zero f ns (λ k. none k (omega arith)) in omega (arith, all)
sum-once f (suc n) none ns once =
    let first = but-once f n ns once in
    let rest = sum-once (but f n) n bound ns once in
    let less = sum_by-le-sum_by (but f n) f (range_with_len 0 n) (but-less f n) in
    let one : suc n ≡ n + 1 = omega arith in
    let last : sum_by f (range_with_len 0 (suc n)) ≡ sum_by f (range_with_len 0 n) + f n =
    ap (λ (m : ℕ). sum_by f (range_with_len 0 m)) one ∙ ap (sum_by f) (range-next n) ∙ sum_by_push f (range_with_len 0 n) n in
    omega (arith, first, rest, less, last)
  where
    bound : (k : ℕ) → n ≤ k → but f n k ≡ 0
    bound k high = at (k == n) refl
      where
        at : (b : Bool) → (k == n) ≡ b → cond b 0 (f k) ≡ 0
        at true same = refl
        at false other = none k (above other)
          where
            above : (k == n) ≡ false → suc n ≤ k
            above other = grind (arith, nat_tests)

-- where all but one number give nothing, no sum is greater than what that one gives
pub sum-only : (f : ℕ → ℕ) (n : ℕ) → ((k : ℕ) → (k == n) ≡ false → f k ≡ 0) → (ns : List ℕ) → EachOnce ns → sum_by f ns ≤ f n
sum-only f n none ns once =
    let all = but-once f n ns once in
    let rest = sum-zero (but f n) ns nothing in
    omega (arith, all, rest)
  where
    nothing : (k : ℕ) → but f n k ≡ 0
    nothing k = at (k == n) refl
      where
        at : (b : Bool) → (k == n) ≡ b → cond b 0 (f k) ≡ 0
        at true same = refl
        at false other = none k other

-- a list in order has each number once
pub ordered-once : (edges : ℕ → List ℕ) (ns : List ℕ) → IsOrdered edges ns → EachOnce ns
ordered-once edges [] ordered = tt
ordered-once edges (n ∷ ns) ordered = (ordered.0, ordered-once edges ns ordered.2)

-- Terms of queries.

-- what isn't below the next number has no query
pub terms-beyond : (t : State) → IsValid t → (dir : ℕ) → t.next ≤ dir → terms_at t dir ≡ 0
terms-beyond t valid dir high =
    ap (λ (o : Option Entry). option_map_or terms (option_and_then query_in (option_map (λ (e : Entry). e.body) o)) 0)
    (entry_at-next 0 t.entries t.next dir valid.layout.numbers high)

-- the terms on a way are those of its directories
pub along-dirs : (t : State) (stops : List Stop) → terms_along t stops ≡ sum_by (terms_at t) (dirs_of stops)
along-dirs t [] = refl
along-dirs t (stop ∷ stops) =
    sum_by-cons (λ (stop : Stop). terms_at t stop.dir) stop stops
    ∙ ap (λ (rest : ℕ). terms_at t stop.dir + rest) (along-dirs t stops)
    ∙ sym (sum_by-cons (terms_at t) stop.dir (dirs_of stops))

-- numbers that each come once have no more terms than all queries
pub once-most : (t : State) → IsValid t → (dirs : List ℕ) → EachOnce dirs → sum_by (terms_at t) dirs ≤ weight t
once-most t valid dirs once = sum-once (terms_at t) t.next (terms-beyond t valid) dirs once

-- so neither has a way that stops at each of its directories once
pub along-most : (t : State) → IsValid t → (stops : List Stop) → EachOnce (dirs_of stops) → terms_along t stops ≤ weight t
along-most t valid stops once = let most = once-most t valid (dirs_of stops) once in let same = along-dirs t stops in omega (arith, most, same)
