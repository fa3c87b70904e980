-- A search for a number that some number may reach.
use Rattle.std.proofs.Common.{◌≡◌, ℕ, zero, suc, Bool, true, false, cond, List, [], ◌∷◌, ◌++◌, subst, refl, sym, ◌∙◌, inl, inr}
use Rattle.std.specs.Prelude.{◌⊎◌, nat_eq, not}
use Rattle.std.proofs.lemmas.Bool.{eqb-true}
use Rattle.hac_model.specs.Tree.Depends.{Among, Leads, Reaches}
use Rattle.hac_model.proofs.AmongLemmas.{among-append, among-left, among-right}
use Rattle.dep_graph.specs.Passed.{KeepsAway}
use Rattle.dep_graph.specs.Steps.{Marks}
use Rattle.dep_graph.proofs.OwedLemmas.{marks-more, marks-same}

-- one step more at the end
pub leads-more : (edges : ℕ → List ℕ) (k a b c : ℕ) → Leads edges k a b → Among (edges b) c → Leads edges (suc k) a c
leads-more edges zero a b c here edge = (c, subst (λ (x : ℕ). Among (edges x) c) (sym here) edge, refl)
leads-more edges (suc k) a b c (next, first, rest) edge = (next, first, leads-more edges k next b c rest edge)

-- what was marked is the one marked, or was seen before
pub marks-cases : (n : ℕ) (old new : ℕ → Bool) → Marks n old new → (q : ℕ) → new q ≡ true → (n ≡ q) ⊎ (old q ≡ true)
marks-cases n old new marks q h =
    elim (nat_eq n q) as (λ b. nat_eq n q ≡ b → cond b true (old q) ≡ true → (n ≡ q) ⊎ (old q ≡ true)) [
      | true ↦ (λ same _. inl (eqb-true n q same))
      | false ↦ (λ other h. inr h)
    ] refl (sym (marks q) ∙ h)

-- all on the stack is reached, what was seen leads to what was seen or is on the stack, and the search began somewhere
pub record Searching (edges : ℕ → List ℕ) (from to : ℕ) (seen : ℕ → Bool) (stack : List ℕ) : Type 0 where
  pub reached : (n : ℕ) → Among stack n → Reaches edges from n
  pub onward : (n : ℕ) → seen n ≡ true → (n ≡ to → ⊥) × ((next : ℕ) → Among (edges n) next → (seen next ≡ true) ⊎ Among stack next)
  pub start : (seen from ≡ true) ⊎ Among stack from

pub begins : (edges : ℕ → List ℕ) (from to : ℕ) (seen : ℕ → Bool) (stack : List ℕ) → KeepsAway edges to seen → stack ≡ from ∷ [] → Searching edges from to seen stack
begins edges from to seen stack away is = subst (λ (s : List ℕ). Searching edges from to seen s) (sym is) (record {
  reached = only;
  onward = λ n h. ((away n h).0, λ next edge. inl ((away n h).1 next edge));
  start = inr (inl refl);
})
  where
    only : (n : ℕ) → Among (from ∷ []) n → Reaches edges from n
    only n (inl here) = (zero, here)
    only n (inr never) = absurd never

pub finds : (edges : ℕ → List ℕ) (from to : ℕ) (seen : ℕ → Bool) (stack left : List ℕ) (n : ℕ) → Searching edges from to seen stack → stack ≡ left ++ n ∷ [] → n ≡ to → Reaches edges from to
finds edges from to seen stack left n h is same = subst (λ (x : ℕ). Reaches edges from x) same (h.reached n (subst (λ (s : List ℕ). Among s n) (sym is) (among-right left (n ∷ []) n (inl refl))))

-- the last one goes, since it was seen
pub passes : (edges : ℕ → List ℕ) (from to : ℕ) (old new : ℕ → Bool) (stack left : List ℕ) (n : ℕ) → Searching edges from to old stack → stack ≡ left ++ n ∷ [] → Marks n old new → old n ≡ true → Searching edges from to new left
passes edges from to old new stack left n h is marks was = record {
  reached = λ m in_left. h.reached m (subst (λ (s : List ℕ). Among s m) (sym is) (among-left left (n ∷ []) m in_left));
  onward = λ m seen. onward m (before m (marks-cases n old new marks m seen));
  start = elim h.start as (λ _. (new from ≡ true) ⊎ Among left from) [ inl seen ↦ inl (marks-more n old new marks from seen) | inr on ↦ still from on ];
}
  where
    split : (m : ℕ) → Among left m ⊎ Among (n ∷ []) m → (new m ≡ true) ⊎ Among left m
    split m (inl there) = inr there
    split m (inr (inl here)) = inl (subst (λ (x : ℕ). new x ≡ true) here (marks-same n old new marks))
    split m (inr (inr never)) = absurd never

    still : (m : ℕ) → Among stack m → (new m ≡ true) ⊎ Among left m
    still m on = split m (among-append left (n ∷ []) m (subst (λ (s : List ℕ). Among s m) is on))

    later : (m : ℕ) → (old m ≡ true) ⊎ Among stack m → (new m ≡ true) ⊎ Among left m
    later m (inl seen) = inl (marks-more n old new marks m seen)
    later m (inr on) = still m on

    before : (m : ℕ) → (n ≡ m) ⊎ (old m ≡ true) → old m ≡ true
    before m (inl same) = subst (λ (x : ℕ). old x ≡ true) same was
    before m (inr seen) = seen

    onward : (m : ℕ) → old m ≡ true → (m ≡ to → ⊥) × ((next : ℕ) → Among (edges m) next → (new next ≡ true) ⊎ Among left next)
    onward m seen = ((h.onward m seen).0, λ next edge. later next ((h.onward m seen).1 next edge))

-- the last one is seen, and all to which it leads is put onto the stack
pub opens : (edges : ℕ → List ℕ) (from to : ℕ) (old new : ℕ → Bool) (stack left : List ℕ) (n : ℕ) → Searching edges from to old stack → stack ≡ left ++ n ∷ [] → Marks n old new → (n ≡ to → ⊥) → Searching edges from to new (left ++ edges n)
opens edges from to old new stack left n h is marks apart = record {
  reached = λ m on. reached m (among-append left (edges n) m on);
  onward = λ m seen. onward m (marks-cases n old new marks m seen);
  start = later from h.start;
}
  where
    here : Among stack n
    here = subst (λ (s : List ℕ). Among s n) (sym is) (among-right left (n ∷ []) n (inl refl))

    reached : (m : ℕ) → Among left m ⊎ Among (edges n) m → Reaches edges from m
    reached m (inl there) = h.reached m (subst (λ (s : List ℕ). Among s m) (sym is) (among-left left (n ∷ []) m there))
    reached m (inr edge) = (suc (h.reached n here).0, leads-more edges (h.reached n here).0 from n m (h.reached n here).1 edge)

    split : (m : ℕ) → Among left m ⊎ Among (n ∷ []) m → (new m ≡ true) ⊎ Among (left ++ edges n) m
    split m (inl there) = inr (among-left left (edges n) m there)
    split m (inr (inl same)) = inl (subst (λ (x : ℕ). new x ≡ true) same (marks-same n old new marks))
    split m (inr (inr never)) = absurd never

    later : (m : ℕ) → (old m ≡ true) ⊎ Among stack m → (new m ≡ true) ⊎ Among (left ++ edges n) m
    later m (inl seen) = inl (marks-more n old new marks m seen)
    later m (inr on) = split m (among-append left (n ∷ []) m (subst (λ (s : List ℕ). Among s m) is on))

    first : (next : ℕ) → Among (edges n) next → (new next ≡ true) ⊎ Among (left ++ edges n) next
    first next edge = inr (among-right left (edges n) next edge)

    onward : (m : ℕ) → (n ≡ m) ⊎ (old m ≡ true) → (m ≡ to → ⊥) × ((next : ℕ) → Among (edges m) next → (new next ≡ true) ⊎ Among (left ++ edges n) next)
    onward m (inl same) = subst (λ (x : ℕ). (x ≡ to → ⊥) × ((next : ℕ) → Among (edges x) next → (new next ≡ true) ⊎ Among (left ++ edges n) next)) same (apart, first)
    onward m (inr seen) = ((h.onward m seen).0, λ next edge. later next ((h.onward m seen).1 next edge))

-- with nothing on the stack, what was seen keeps away
pub keeps : (edges : ℕ → List ℕ) (from to : ℕ) (seen : ℕ → Bool) (stack : List ℕ) → Searching edges from to seen stack → stack ≡ [] → KeepsAway edges to seen
keeps edges from to seen stack h none n is = ((h.onward n is).0, λ next edge. there next ((h.onward n is).1 next edge))
  where
    there : (m : ℕ) → (seen m ≡ true) ⊎ Among stack m → seen m ≡ true
    there m (inl seen) = seen
    there m (inr on) = absurd (subst (λ (s : List ℕ). Among s m) none on)

never-reaches : (edges : ℕ → List ℕ) (to : ℕ) (seen : ℕ → Bool) (k a : ℕ) → KeepsAway edges to seen → seen a ≡ true → Leads edges k a to → ⊥
never-reaches edges to seen zero a away is here = (away a is).0 here
never-reaches edges to seen (suc k) a away is (next, edge, rest) = never-reaches edges to seen k next away ((away a is).1 next edge) rest

pub misses : (edges : ℕ → List ℕ) (from to : ℕ) (seen : ℕ → Bool) (stack : List ℕ) → Searching edges from to seen stack → stack ≡ [] → Reaches edges from to → ⊥
misses edges from to seen stack h none reach =
    elim h.start as (λ _. ⊥) [
      | inl is ↦ never-reaches edges to seen reach.0 from (keeps edges from to seen stack h none) is reach.1
      | inr on ↦ (let never : Among [] from = subst (λ (s : List ℕ). Among s from) none on in absurd never)
    ]

-- what an insertion says of the set before it
pub unmarked : (is_new had : Bool) → is_new ≡ not had → is_new ≡ true → had ≡ false
unmarked is_new true tells h = absurd cc
unmarked is_new false tells h = refl

pub was-marked : (is_new had : Bool) → is_new ≡ not had → is_new ≡ false → had ≡ true
was-marked is_new true tells h = refl
was-marked is_new false tells h = absurd cc
