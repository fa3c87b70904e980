-- Numbers in an order in which each leads back return nowhere, and there is such an order where none returns.
use Rattle.std.proofs.Common.{◌≡◌, ◌≢◌, ℕ, zero, suc, Bool, true, false, List, [], ◌∷◌, length, subst, refl, ap, sym, ◌∙◌, inl, inr}
use Rattle.std.specs.Prelude.{◌⊎◌, ◌==◌, ◌&&◌}
use Rattle.std.specs.Bool.{Decides}
use Rattle.std.specs.List.{list_all}
use Rattle.std.proofs.lemmas.Bool.{and_from, and_parts, eqb-true, or_cases, or_left, or_right}
use Rattle.std.proofs.lemmas.List.{nil_from_length}
use Rattle.hac_model.specs.Tree.Depends.{Among, Leads, NeverReturns}
use Rattle.dep_graph.specs.Orders.{all_placed, is_settled, lead_back, with_placed}
use Rattle.dep_graph.specs.Searches.{AnyReaches, AreSources, IsOrdered}
use Rattle.dep_graph.proofs.ConeLemmas.{bare-or-some}
use Rattle.dep_graph.proofs.OwedLemmas.{marks-more, marks-same}
use Rattle.dep_graph.proofs.ReachLemmas.{leads-more, marks-cases}

-- ---- tests of all numbers of a list

all-among : (test : ℕ → Bool) (ns : List ℕ) (n : ℕ) → list_all test ns ≡ true → Among ns n → test n ≡ true
all-among test [] n h inside = absurd inside
all-among test (m ∷ ns) n h (inl same) = ap test (sym same) ∙ (and_parts (test m) (list_all test ns) h).0
all-among test (m ∷ ns) n h (inr more) = all-among test ns n (and_parts (test m) (list_all test ns) h).1 more

all-from : (test : ℕ → Bool) (ns : List ℕ) → ((n : ℕ) → Among ns n → test n ≡ true) → list_all test ns ≡ true
all-from test [] each = refl
all-from test (n ∷ ns) each = and_from (test n) (list_all test ns) (each n (inl refl)) (all-from test ns (λ m there. each m (inr there)))

-- ---- what is settled

settled-cases : (edges : ℕ → List ℕ) (placed : ℕ → Bool) (n : ℕ) → is_settled edges placed n ≡ true → (placed n ≡ true) ⊎ (edges n ≡ [])
settled-cases edges placed n h = elim (or_cases (placed n) (length (edges n) == 0) h) as (λ _. (placed n ≡ true) ⊎ (edges n ≡ [])) [
  | inl there ↦ inl there
  | inr none ↦ inr (nil_from_length (edges n) (eqb-true (length (edges n)) 0 none))
]

settled-bare : (edges : ℕ → List ℕ) (placed : ℕ → Bool) (n : ℕ) → edges n ≡ [] → is_settled edges placed n ≡ true
settled-bare edges placed n none = or_right (placed n) (length (edges n) == 0) (ap (λ (ns : List ℕ). length ns == 0) none)

settled-placed : (edges : ℕ → List ℕ) (placed : ℕ → Bool) (n : ℕ) → placed n ≡ true → is_settled edges placed n ≡ true
settled-placed edges placed n there = or_left (placed n) (length (edges n) == 0) there

settled-more : (edges : ℕ → List ℕ) (placed : ℕ → Bool) (n m : ℕ) → is_settled edges placed m ≡ true → is_settled edges (with_placed placed n) m ≡ true
settled-more edges placed n m h = elim (settled-cases edges placed m h) as (λ _. is_settled edges (with_placed placed n) m ≡ true) [
  | inl there ↦ settled-placed edges (with_placed placed n) m (marks-more n placed (with_placed placed n) (λ q. refl) m there)
  | inr none ↦ settled-bare edges (with_placed placed n) m none
]

-- ---- what is placed returns nowhere

-- what is placed leads only to what is settled, and never to itself
abbrev pub Grounded : (ℕ → List ℕ) → (ℕ → Bool) → Type 0
Grounded edges placed = (n : ℕ) → placed n ≡ true → ((next : ℕ) → Among (edges n) next → is_settled edges placed next ≡ true) × ((k : ℕ) → Leads edges (suc k) n n → ⊥)

settled-stays : (edges : ℕ → List ℕ) (placed : ℕ → Bool) → Grounded edges placed → (k a b : ℕ) → is_settled edges placed a ≡ true → Leads edges k a b → is_settled edges placed b ≡ true
settled-stays edges placed g zero a b h here = subst (λ (x : ℕ). is_settled edges placed x ≡ true) here h
settled-stays edges placed g (suc k) a b h (next, edge, rest) = elim (settled-cases edges placed a h) as (λ _. is_settled edges placed b ≡ true) [
  | inl there ↦ settled-stays edges placed g k next b ((g a there).0 next edge) rest
  | inr none ↦ absurd (subst (λ (ns : List ℕ). Among ns next) none edge)
]

grounded-one : (edges : ℕ → List ℕ) (placed : ℕ → Bool) (n : ℕ) → Grounded edges placed → list_all (is_settled edges placed) (edges n) ≡ true → Grounded edges (with_placed placed n)
grounded-one edges placed n g back m there = at m (marks-cases n placed (with_placed placed n) (λ q. refl) m there)
  where
    off : (k : ℕ) → Leads edges (suc k) n n → ⊥
    off k (next, edge, rest) = elim (settled-cases edges placed n (settled-stays edges placed g k next n (all-among (is_settled edges placed) (edges n) next back edge) rest)) as (λ _. ⊥) [
      | inl was ↦ (g n was).1 k (next, edge, rest)
      | inr none ↦ subst (λ (ns : List ℕ). Among ns next) none edge
    ]

    here : ((next : ℕ) → Among (edges n) next → is_settled edges (with_placed placed n) next ≡ true) × ((k : ℕ) → Leads edges (suc k) n n → ⊥)
    here = (λ next edge. settled-more edges placed n next (all-among (is_settled edges placed) (edges n) next back edge), off)

    at : (m : ℕ) → (n ≡ m) ⊎ (placed m ≡ true) → ((next : ℕ) → Among (edges m) next → is_settled edges (with_placed placed n) next ≡ true) × ((k : ℕ) → Leads edges (suc k) m m → ⊥)
    at m (inl same) = subst (λ (x : ℕ). ((next : ℕ) → Among (edges x) next → is_settled edges (with_placed placed n) next ≡ true) × ((k : ℕ) → Leads edges (suc k) x x → ⊥)) same here
    at m (inr was) = (λ next edge. settled-more edges placed n next ((g m was).0 next edge), (g m was).1)

grounded-all : (edges : ℕ → List ℕ) (ns : List ℕ) (placed : ℕ → Bool) → Grounded edges placed → lead_back edges placed ns ≡ true → Grounded edges (all_placed placed ns)
grounded-all edges [] placed g h = g
grounded-all edges (n ∷ ns) placed g h =
    let parts = and_parts (list_all (is_settled edges placed) (edges n)) (lead_back edges (with_placed placed n) ns) h in
    grounded-all edges ns (with_placed placed n) (grounded-one edges placed n g parts.0) parts.1

-- so nothing returns where all that has edges is settled
back-never : (edges : ℕ → List ℕ) (dirs : List ℕ) (placed : ℕ → Bool) → ((q : ℕ) → edges q ≢ [] → Among dirs q) → Grounded edges placed → list_all (is_settled edges placed) dirs ≡ true → NeverReturns edges
back-never edges dirs placed all g settled k n (next, edge, rest) =
    let some : edges n ≢ [] = λ none. subst (λ (ns : List ℕ). Among ns next) none edge in
    elim (settled-cases edges placed n (all-among (is_settled edges placed) dirs n settled (all n some))) as (λ _. ⊥) [
      | inl there ↦ (g n there).1 k (next, edge, rest)
      | inr none ↦ some none
    ]

-- ---- sources come in such an order

reaches-on : (edges : ℕ → List ℕ) (dirs : List ℕ) (n next : ℕ) → AnyReaches edges dirs n → Among (edges n) next → AnyReaches edges dirs next
reaches-on edges dirs n next (from, inside, (k, walk)) edge = (from, inside, (suc k, leads-more edges k from n next walk edge))

sources-back : (edges : ℕ → List ℕ) (dirs numbers : List ℕ) → AreSources edges dirs numbers → (left : List ℕ) (placed : ℕ → Bool)
    → ((q : ℕ) → Among numbers q → (placed q ≡ true) ⊎ Among left q) → ((q : ℕ) → Among left q → Among numbers q) → IsOrdered edges left
    → lead_back edges placed left ≡ true
sources-back edges dirs numbers sources [] placed known among ordered = refl
sources-back edges dirs numbers sources (n ∷ left) placed known among ordered =
    and_from (list_all (is_settled edges placed) (edges n)) (lead_back edges (with_placed placed n) left)
    (all-from (is_settled edges placed) (edges n) (λ next edge. by_edges next edge (bare-or-some (edges next))))
    (sources-back edges dirs numbers sources left (with_placed placed n) (λ q there. later q (known q there)) (λ q there. among q (inr there)) ordered.2)
  where
    by_place : (next : ℕ) → Among (edges n) next → (placed next ≡ true) ⊎ Among (n ∷ left) next → is_settled edges placed next ≡ true
    by_place next edge (inl there) = settled-placed edges placed next there
    by_place next edge (inr on) = absurd (ordered.1 next edge on)

    by_edges : (next : ℕ) → Among (edges n) next → (edges next ≡ []) ⊎ (edges next ≢ []) → is_settled edges placed next ≡ true
    by_edges next edge (inl none) = settled-bare edges placed next none
    by_edges next edge (inr some) = by_place next edge (known next (sources.all next some (reaches-on edges dirs n next (sources.reached n (among n (inl refl))).1 edge)))

    later : (q : ℕ) → (placed q ≡ true) ⊎ Among (n ∷ left) q → (with_placed placed n q ≡ true) ⊎ Among left q
    later q (inl there) = inl (marks-more n placed (with_placed placed n) (λ q. refl) q there)
    later q (inr (inl same)) = inl (subst (λ (x : ℕ). with_placed placed n x ≡ true) same (marks-same n placed (with_placed placed n) (λ q. refl)))
    later q (inr (inr on)) = inr on

placed-stays : (ns : List ℕ) (placed : ℕ → Bool) (q : ℕ) → placed q ≡ true → all_placed placed ns q ≡ true
placed-stays [] placed q h = h
placed-stays (n ∷ ns) placed q h = placed-stays ns (with_placed placed n) q (marks-more n placed (with_placed placed n) (λ q. refl) q h)

placed-all : (ns : List ℕ) (placed : ℕ → Bool) (q : ℕ) → Among ns q → all_placed placed ns q ≡ true
placed-all [] placed q inside = absurd inside
placed-all (n ∷ ns) placed q (inl same) = placed-stays ns (with_placed placed n) q (subst (λ (x : ℕ). with_placed placed n x ≡ true) same (marks-same n placed (with_placed placed n) (λ q. refl)))
placed-all (n ∷ ns) placed q (inr more) = placed-all ns (with_placed placed n) q more

sources-settled : (edges : ℕ → List ℕ) (dirs numbers : List ℕ) (placed : ℕ → Bool) → AreSources edges dirs numbers → list_all (is_settled edges (all_placed placed numbers)) dirs ≡ true
sources-settled edges dirs numbers placed sources = all-from (is_settled edges (all_placed placed numbers)) dirs (λ dir inside. by_edges dir inside (bare-or-some (edges dir)))
  where
    by_edges : (dir : ℕ) → Among dirs dir → (edges dir ≡ []) ⊎ (edges dir ≢ []) → is_settled edges (all_placed placed numbers) dir ≡ true
    by_edges dir inside (inl none) = settled-bare edges (all_placed placed numbers) dir none
    by_edges dir inside (inr some) = settled-placed edges (all_placed placed numbers) dir (placed-all numbers placed dir (sources.all dir some (dir, inside, (zero, refl))))

-- ---- both together

pub acyclic-Decides : (edges : ℕ → List ℕ) (dirs numbers : List ℕ) (placed : ℕ → Bool) → ((q : ℕ) → placed q ≡ false) → ((q : ℕ) → edges q ≢ [] → Among dirs q) → (NeverReturns edges → AreSources edges dirs numbers)
    → Decides (lead_back edges placed numbers && list_all (is_settled edges (all_placed placed numbers)) dirs) (NeverReturns edges)
acyclic-Decides edges dirs numbers placed fresh all order = (towards, back)
  where
    never_placed : Grounded edges placed
    never_placed n there = let never : false ≡ true = sym (fresh n) ∙ there in absurd cc

    towards : (lead_back edges placed numbers && list_all (is_settled edges (all_placed placed numbers)) dirs) ≡ true → NeverReturns edges
    towards h =
        let parts = and_parts (lead_back edges placed numbers) (list_all (is_settled edges (all_placed placed numbers)) dirs) h in
        back-never edges dirs (all_placed placed numbers) all (grounded-all edges numbers placed never_placed parts.0) parts.1

    back : NeverReturns edges → (lead_back edges placed numbers && list_all (is_settled edges (all_placed placed numbers)) dirs) ≡ true
    back never =
        let sources = order never in
        and_from (lead_back edges placed numbers) (list_all (is_settled edges (all_placed placed numbers)) dirs)
        (sources-back edges dirs numbers sources numbers placed (λ q there. inr there) (λ q there. there) sources.ordered)
        (sources-settled edges dirs numbers placed sources)
