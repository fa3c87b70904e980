-- A search by steps, each number left behind all to which it leads.
use Rattle.std.proofs.Common.{◌≡◌, ◌≢◌, ℕ, zero, suc, ◌+◌, ◌≤◌, Bool, true, false, List, [], ◌∷◌, ◌++◌, length, subst, refl, ap, sym, ◌∙◌, arith, inl, inr}
use Rattle.std.specs.Prelude.{◌⊎◌}
use Rattle.hac_model.specs.Tree.Depends.{Among, Leads, NeverReturns}
use Rattle.hac_model.proofs.AmongLemmas.{among-append, among-left, among-right}
use Rattle.dep_graph.specs.Graphs.{edges_at}
use Rattle.dep_graph.specs.Searches.{AnyReaches, AreSources, IsOrdered}
use Rattle.dep_graph.specs.Steps.{Marks, Visits, entering}
use Rattle.dep_graph.specs.declared.sources.Step.{Step}
use Rattle.dep_graph.specs.declared.sources.Step.TheVariants.{Enter, Leave}
use Rattle.dep_graph.proofs.OwedLemmas.{marks-more, marks-same, owed, owed-less, owed-marked}
use Rattle.dep_graph.proofs.ReachLemmas.{leads-more, marks-cases}

-- the number has no edges, or is done
abbrev pub Done : (ℕ → List ℕ) → List ℕ → ℕ → Type 0
Done edges done number = (edges number ≡ []) ⊎ Among done number

-- the number is to be left
abbrev pub Leaving : List Step → ℕ → Type 0
Leaving [] number = ⊥
Leaving (Enter other ∷ steps) number = Leaving steps number
Leaving (Leave other ∷ steps) number = (other ≡ number) ⊎ Leaving steps number

-- one number leads to another over some step
abbrev pub Back : (ℕ → List ℕ) → ℕ → ℕ → Type 0
Back edges from to = (steps : ℕ) × Leads edges (suc steps) from to

abbrev pub number_in : Step → ℕ
number_in (Enter number) = number
number_in (Leave number) = number

-- each number is reached, and from all that are left after it
abbrev pub Hangs : (ℕ → List ℕ) → List ℕ → List Step → Type 0
Hangs edges dirs [] = Unit {0}
Hangs edges dirs (step ∷ steps) = ((other : ℕ) → Leaving steps other → Back edges other (number_in step)) × AnyReaches edges dirs (number_in step) × Hangs edges dirs steps

-- when a number is left, all to which it leads are known, and at the end all with which the search began
abbrev pub Waits : (ℕ → List ℕ) → List ℕ → (ℕ → Type 0) → List Step → Type 0
Waits edges dirs known [] = (dir : ℕ) → Among dirs dir → known dir
Waits edges dirs known (Enter number ∷ steps) = Waits edges dirs (λ other. known other ⊎ (number ≡ other)) steps
Waits edges dirs known (Leave number ∷ steps) = ((next : ℕ) → Among (edges number) next → known next) × Waits edges dirs (λ other. known other ⊎ (number ≡ other)) steps

pub record Ordering (edges : ℕ → List ℕ) (dirs done : List ℕ) (seen : ℕ → Bool) (steps : List Step) : Type 0 where
  pub hangs : Hangs edges dirs steps
  pub waits : Waits edges dirs (Done edges done) steps
  pub marked : (n : ℕ) → seen n ≡ true → Among done n ⊎ Leaving steps n
  pub leaving : (n : ℕ) → Leaving steps n → (seen n ≡ true) × (Among done n → ⊥) × (edges n ≢ [])
  pub closed : (n next : ℕ) → Among done n → Among (edges n) next → Done edges done next
  pub reached : (n : ℕ) → Among done n → (seen n ≡ true) × (edges n ≢ []) × AnyReaches edges dirs n
  pub ordered : IsOrdered edges done

waits-weaker : (edges : ℕ → List ℕ) (dirs : List ℕ) (steps : List Step) (known more : ℕ → Type 0) → ((n : ℕ) → known n → more n) → Waits edges dirs known steps → Waits edges dirs more steps
waits-weaker edges dirs [] known more weaker h = λ dir is. weaker dir (h dir is)
waits-weaker edges dirs (Enter n ∷ steps) known more weaker h = waits-weaker edges dirs steps (λ m. known m ⊎ (n ≡ m)) (λ m. more m ⊎ (n ≡ m)) (either-weaker n known more weaker) h
  where
    either-weaker : (n : ℕ) (known more : ℕ → Type 0) → ((m : ℕ) → known m → more m) → (m : ℕ) → known m ⊎ (n ≡ m) → more m ⊎ (n ≡ m)
    either-weaker n known more weaker m (inl k) = inl (weaker m k)
    either-weaker n known more weaker m (inr same) = inr same
waits-weaker edges dirs (Leave n ∷ steps) known more weaker h = (λ next edge. weaker next (h.0 next edge), waits-weaker edges dirs steps (λ m. known m ⊎ (n ≡ m)) (λ m. more m ⊎ (n ≡ m)) (either-weaker n known more weaker) h.1)
  where
    either-weaker : (n : ℕ) (known more : ℕ → Type 0) → ((m : ℕ) → known m → more m) → (m : ℕ) → known m ⊎ (n ≡ m) → more m ⊎ (n ≡ m)
    either-weaker n known more weaker m (inl k) = inl (weaker m k)
    either-weaker n known more weaker m (inr same) = inr same

-- ---- numbers that are entered

leaving-entering : (ns : List ℕ) (steps : List Step) (n : ℕ) → Leaving (entering ns steps) n → Leaving steps n
leaving-entering [] steps n h = h
leaving-entering (m ∷ ns) steps n h = leaving-entering ns (Enter m ∷ steps) n h

entering-leaving : (ns : List ℕ) (steps : List Step) (n : ℕ) → Leaving steps n → Leaving (entering ns steps) n
entering-leaving [] steps n h = h
entering-leaving (m ∷ ns) steps n h = entering-leaving ns (Enter m ∷ steps) n h

hangs-entering : (edges : ℕ → List ℕ) (dirs ns : List ℕ) (steps : List Step) → ((n : ℕ) → Among ns n → (other : ℕ) → Leaving steps other → Back edges other n) → ((n : ℕ) → Among ns n → AnyReaches edges dirs n) → Hangs edges dirs steps → Hangs edges dirs (entering ns steps)
hangs-entering edges dirs [] steps back reach h = h
hangs-entering edges dirs (m ∷ ns) steps back reach h = hangs-entering edges dirs ns (Enter m ∷ steps) (λ n there. back n (inr there)) (λ n there. reach n (inr there)) (back m (inl refl), reach m (inl refl), h)

waits-entering : (edges : ℕ → List ℕ) (dirs ns : List ℕ) (steps : List Step) (known : ℕ → Type 0) → Waits edges dirs (λ n. known n ⊎ Among ns n) steps → Waits edges dirs known (entering ns steps)
waits-entering edges dirs [] steps known h = waits-weaker edges dirs steps (λ n. known n ⊎ Among [] n) known (λ n. none n) h
  where
    none : (n : ℕ) → known n ⊎ Among [] n → known n
    none n (inl k) = k
    none n (inr never) = absurd never
waits-entering edges dirs (m ∷ ns) steps known h = waits-entering edges dirs ns (Enter m ∷ steps) known (waits-weaker edges dirs steps (λ n. known n ⊎ Among (m ∷ ns) n) (λ n. (known n ⊎ Among ns n) ⊎ (m ≡ n)) (λ n. apart n) h)
  where
    apart : (n : ℕ) → known n ⊎ Among (m ∷ ns) n → (known n ⊎ Among ns n) ⊎ (m ≡ n)
    apart n (inl k) = inl (inl k)
    apart n (inr (inl same)) = inr same
    apart n (inr (inr there)) = inl (inr there)

-- ---- one step after the other

pub ordering-begins : (edges : ℕ → List ℕ) (dirs done : List ℕ) (seen : ℕ → Bool) (steps : List Step) → done ≡ [] → ((n : ℕ) → seen n ≡ false) → steps ≡ entering dirs [] → Ordering edges dirs done seen steps
ordering-begins edges dirs done seen steps none fresh is = subst (λ (s : List Step). Ordering edges dirs done seen s) (sym is) (subst (λ (d : List ℕ). Ordering edges dirs d seen (entering dirs [])) (sym none) (record {
  hangs = hangs-entering edges dirs dirs [] (λ n there other never. absurd never) (λ n there. (n, there, (zero, refl))) tt;
  waits = waits-entering edges dirs dirs [] (Done edges []) (λ dir there. inr there);
  marked = λ n is_seen. let never : false ≡ true = sym (fresh n) ∙ is_seen in absurd cc;
  leaving = λ n there. absurd (leaving-entering dirs [] n there);
  closed = λ n next never. absurd never;
  reached = λ n never. absurd never;
  ordered = tt;
}))

-- a number is entered that is done
pub passes-by : (edges : ℕ → List ℕ) (dirs done : List ℕ) (old new : ℕ → Bool) (n : ℕ) (steps : List Step) → NeverReturns edges → Ordering edges dirs done old (Enter n ∷ steps) → (edges n ≡ []) ⊎ (old n ≡ true) → ((m : ℕ) → new m ≡ old m) → Ordering edges dirs done new steps
passes-by edges dirs done old new n steps never h why same = record {
  hangs = h.hangs.2;
  waits = waits-weaker edges dirs steps (λ m. Done edges done m ⊎ (n ≡ m)) (Done edges done) (λ m. either m) h.waits;
  marked = λ m is. h.marked m (sym (same m) ∙ is);
  leaving = λ m there. (same m ∙ (h.leaving m there).0, (h.leaving m there).1, (h.leaving m there).2);
  closed = h.closed;
  reached = λ m there. (same m ∙ (h.reached m there).0, (h.reached m there).1, (h.reached m there).2);
  ordered = h.ordered;
}
  where
    found : Among done n ⊎ Leaving steps n → Done edges done n
    found (inl there) = inr there
    found (inr left) = absurd (never (h.hangs.0 n left).0 n (h.hangs.0 n left).1)

    known : (edges n ≡ []) ⊎ (old n ≡ true) → Done edges done n
    known (inl none) = inl none
    known (inr seen) = found (h.marked n seen)

    either : (m : ℕ) → Done edges done m ⊎ (n ≡ m) → Done edges done m
    either m (inl k) = k
    either m (inr is) = subst (λ (x : ℕ). Done edges done x) is (known why)

-- a number is entered, and is to be left behind all to which it leads
pub opens-on : (edges : ℕ → List ℕ) (dirs done : List ℕ) (old new : ℕ → Bool) (n : ℕ) (steps : List Step) → Ordering edges dirs done old (Enter n ∷ steps) → edges n ≢ [] → old n ≡ false → Marks n old new → Ordering edges dirs done new (entering (edges n) (Leave n ∷ steps))
opens-on edges dirs done old new n steps h some fresh marks = record {
  hangs = hangs-entering edges dirs (edges n) (Leave n ∷ steps) back (λ m edge. reach m edge) (h.hangs.0, h.hangs.1, h.hangs.2);
  waits = waits-entering edges dirs (edges n) (Leave n ∷ steps) (Done edges done) (λ next edge. inr edge, waits-weaker edges dirs steps (λ m. Done edges done m ⊎ (n ≡ m)) (λ m. (Done edges done m ⊎ Among (edges n) m) ⊎ (n ≡ m)) (λ m. more m) h.waits);
  marked = λ m is. marked m (marks-cases n old new marks m is);
  leaving = λ m there. leaving m (leaving-entering (edges n) (Leave n ∷ steps) m there);
  closed = h.closed;
  reached = λ m there. (marks-more n old new marks m (h.reached m there).0, (h.reached m there).1, (h.reached m there).2);
  ordered = h.ordered;
}
  where
    back : (m : ℕ) → Among (edges n) m → (other : ℕ) → (n ≡ other) ⊎ Leaving steps other → Back edges other m
    back m edge other (inl same) = (zero, (m, subst (λ (x : ℕ). Among (edges x) m) same edge, refl))
    back m edge other (inr there) = (suc (h.hangs.0 other there).0, leads-more edges (suc (h.hangs.0 other there).0) other n m (h.hangs.0 other there).1 edge)

    reach : (m : ℕ) → Among (edges n) m → AnyReaches edges dirs m
    reach m edge = (h.hangs.1.0, h.hangs.1.1, (suc h.hangs.1.2.0, leads-more edges h.hangs.1.2.0 h.hangs.1.0 n m h.hangs.1.2.1 edge))

    more : (m : ℕ) → Done edges done m ⊎ (n ≡ m) → (Done edges done m ⊎ Among (edges n) m) ⊎ (n ≡ m)
    more m (inl k) = inl (inl k)
    more m (inr same) = inr same

    later : (m : ℕ) → Among done m ⊎ Leaving steps m → Among done m ⊎ Leaving (entering (edges n) (Leave n ∷ steps)) m
    later m (inl there) = inl there
    later m (inr left) = inr (entering-leaving (edges n) (Leave n ∷ steps) m (inr left))

    marked : (m : ℕ) → (n ≡ m) ⊎ (old m ≡ true) → Among done m ⊎ Leaving (entering (edges n) (Leave n ∷ steps)) m
    marked m (inl same) = inr (entering-leaving (edges n) (Leave n ∷ steps) m (inl same))
    marked m (inr seen) = later m (h.marked m seen)

    undone : Among done n → ⊥
    undone there = let never : false ≡ true = sym fresh ∙ (h.reached n there).0 in absurd cc

    leaving : (m : ℕ) → (n ≡ m) ⊎ Leaving steps m → (new m ≡ true) × (Among done m → ⊥) × (edges m ≢ [])
    leaving m (inl same) = subst (λ (x : ℕ). (new x ≡ true) × (Among done x → ⊥) × (edges x ≢ [])) same (marks-same n old new marks, undone, some)
    leaving m (inr there) = (marks-more n old new marks m (h.leaving m there).0, (h.leaving m there).1, (h.leaving m there).2)

ordered-last : (edges : ℕ → List ℕ) (done : List ℕ) (n : ℕ) → IsOrdered edges done → (Among done n → ⊥) → ((m : ℕ) → Among done m → Among (edges m) n → ⊥) → (Among (edges n) n → ⊥) → IsOrdered edges (done ++ n ∷ [])
ordered-last edges [] n h fresh off alone = (λ never. absurd never, λ next edge there. only next edge there, tt)
  where
    only : (next : ℕ) → Among (edges n) next → Among (n ∷ []) next → ⊥
    only next edge (inl same) = alone (subst (λ (x : ℕ). Among (edges n) x) (sym same) edge)
    only next edge (inr never) = never
ordered-last edges (x ∷ xs) n h fresh off alone = (λ there. once (among-append xs (n ∷ []) x there), λ next edge there. before next edge (among-append (x ∷ xs) (n ∷ []) next there), ordered-last edges xs n h.2 (λ there. fresh (inr there)) (λ m there. off m (inr there)) alone)
  where
    once : Among xs x ⊎ Among (n ∷ []) x → ⊥
    once (inl there) = h.0 there
    once (inr (inl same)) = fresh (inl (sym same))
    once (inr (inr never)) = never

    before : (next : ℕ) → Among (edges x) next → Among (x ∷ xs) next ⊎ Among (n ∷ []) next → ⊥
    before next edge (inl there) = h.1 next edge there
    before next edge (inr (inl same)) = off x (inl refl) (subst (λ (y : ℕ). Among (edges x) y) (sym same) edge)
    before next edge (inr (inr never)) = never

-- a number is left
pub leaves : (edges : ℕ → List ℕ) (dirs done : List ℕ) (seen : ℕ → Bool) (n : ℕ) (steps : List Step) → NeverReturns edges → Ordering edges dirs done seen (Leave n ∷ steps) → Ordering edges dirs (done ++ n ∷ []) seen steps
leaves edges dirs done seen n steps never h = record {
  hangs = h.hangs.2;
  waits = waits-weaker edges dirs steps (λ m. Done edges done m ⊎ (n ≡ m)) (Done edges (done ++ n ∷ [])) (λ m. either m) h.waits.1;
  marked = λ m is. marked m (h.marked m is);
  leaving = λ m there. ((h.leaving m (inr there)).0, λ is. undone m there (among-append done (n ∷ []) m is), (h.leaving m (inr there)).2);
  closed = λ m next there edge. closed m next edge (among-append done (n ∷ []) m there);
  reached = λ m there. reached m (among-append done (n ∷ []) m there);
  ordered = ordered-last edges done n h.ordered here.1 (λ m there edge. off m (h.closed m n there edge)) (λ edge. never zero n (n, edge, refl));
}
  where
    here : (seen n ≡ true) × (Among done n → ⊥) × (edges n ≢ [])
    here = h.leaving n (inl refl)

    wider : (m : ℕ) → Done edges done m → Done edges (done ++ n ∷ []) m
    wider m (inl none) = inl none
    wider m (inr there) = inr (among-left done (n ∷ []) m there)

    last : (m : ℕ) → n ≡ m → Among (done ++ n ∷ []) m
    last m same = among-right done (n ∷ []) m (inl same)

    either : (m : ℕ) → Done edges done m ⊎ (n ≡ m) → Done edges (done ++ n ∷ []) m
    either m (inl k) = wider m k
    either m (inr same) = inr (last m same)

    marked : (m : ℕ) → Among done m ⊎ ((n ≡ m) ⊎ Leaving steps m) → Among (done ++ n ∷ []) m ⊎ Leaving steps m
    marked m (inl there) = inl (among-left done (n ∷ []) m there)
    marked m (inr (inl same)) = inl (last m same)
    marked m (inr (inr left)) = inr left

    returns : (m : ℕ) → n ≡ m → Leaving steps m → ⊥
    returns m same there = never (h.hangs.0 m there).0 m (subst (λ (x : ℕ). Leads edges (suc (h.hangs.0 m there).0) m x) same (h.hangs.0 m there).1)

    undone : (m : ℕ) → Leaving steps m → Among done m ⊎ Among (n ∷ []) m → ⊥
    undone m there (inl is) = (h.leaving m (inr there)).1 is
    undone m there (inr (inl same)) = returns m same there
    undone m there (inr (inr none)) = none

    closed : (m next : ℕ) → Among (edges m) next → Among done m ⊎ Among (n ∷ []) m → Done edges (done ++ n ∷ []) next
    closed m next edge (inl there) = wider next (h.closed m next there edge)
    closed m next edge (inr (inl same)) = wider next (h.waits.0 next (subst (λ (x : ℕ). Among (edges x) next) (sym same) edge))
    closed m next edge (inr (inr none)) = absurd none

    reached : (m : ℕ) → Among done m ⊎ Among (n ∷ []) m → (seen m ≡ true) × (edges m ≢ []) × AnyReaches edges dirs m
    reached m (inl there) = h.reached m there
    reached m (inr (inl same)) = subst (λ (x : ℕ). (seen x ≡ true) × (edges x ≢ []) × AnyReaches edges dirs x) same (here.0, here.2, h.hangs.1)
    reached m (inr (inr none)) = absurd none

    off : (m : ℕ) → Done edges done n → ⊥
    off m (inl none) = here.2 none
    off m (inr there) = here.1 there

leads-done : (edges : ℕ → List ℕ) (done : List ℕ) (k a b : ℕ) → ((n next : ℕ) → Among done n → Among (edges n) next → Done edges done next) → Done edges done a → Leads edges k a b → Done edges done b
leads-done edges done zero a b closed h here = subst (λ (x : ℕ). Done edges done x) here h
leads-done edges done (suc k) a b closed (inl none) (next, edge, rest) = let never : Among [] next = subst (λ (ns : List ℕ). Among ns next) none edge in absurd never
leads-done edges done (suc k) a b closed (inr there) (next, edge, rest) = leads-done edges done k next b closed (closed a next there edge) rest

-- with no step left, all is done
pub ordering-ends : (edges : ℕ → List ℕ) (dirs done : List ℕ) (seen : ℕ → Bool) (steps : List Step) → Ordering edges dirs done seen steps → steps ≡ [] → AreSources edges dirs done
ordering-ends edges dirs done seen steps given none = record {
  reached = λ n there. ((h.reached n there).1, (h.reached n there).2);
  all = λ n some reach. there n some (leads-done edges done reach.2.0 reach.0 n h.closed (h.waits reach.0 reach.1) reach.2.1);
  ordered = h.ordered;
}
  where
    h : Ordering edges dirs done seen []
    h = subst (λ (s : List Step). Ordering edges dirs done seen s) none given

    there : (n : ℕ) → edges n ≢ [] → Done edges done n → Among done n
    there n some (inl bare) = absurd (some bare)
    there n some (inr is) = is

-- ---- visits

pub visits-on : (edges : ℕ → List ℕ) (dirs done : List ℕ) (old new : ℕ → Bool) (n : ℕ) (before after : List Step) → NeverReturns edges → Ordering edges dirs done old (Enter n ∷ before) → Visits (edges n) n old new before after → Ordering edges dirs done new after
visits-on edges dirs done old new n before after never h (inl passed) = subst (λ (s : List Step). Ordering edges dirs done new s) (sym passed.2) (passes-by edges dirs done old new n before never h passed.0 passed.1)
visits-on edges dirs done old new n before after never h (inr opened) = subst (λ (s : List Step). Ordering edges dirs done new s) (sym opened.3) (opens-on edges dirs done old new n before h opened.0 opened.1 opened.2)

length-entering : (ns : List ℕ) (steps : List Step) → length (entering ns steps) ≡ length ns + length steps
length-entering [] steps = omega arith
length-entering (n ∷ ns) steps = length-entering ns (Enter n ∷ steps) ∙ omega arith

-- what is put onto the stack was owed
pub visits-less : (nodes : List (ℕ × List ℕ)) (old new : ℕ → Bool) (n : ℕ) (before after : List Step) → Visits (edges_at nodes n) n old new before after → owed nodes new + length after ≤ owed nodes old + length before
visits-less nodes old new n before after (inl passed) = omega (arith, owed-less nodes old new (λ q is. passed.1 q ∙ is), ap (λ (s : List Step). length s) passed.2)
visits-less nodes old new n before after (inr opened) =
    elim (owed-marked nodes n old new opened.2 opened.1) as (λ _. owed nodes new + length after ≤ owed nodes old + length before) [
      | inl none ↦ absurd (opened.0 none)
      | inr less ↦ omega (arith, less, ap (λ (s : List Step). length s) opened.3, length-entering (edges_at nodes n) (Leave n ∷ before))
    ]
