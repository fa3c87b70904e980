-- Stops at which nothing is judged can be left out of a way.
use Rattle.std.proofs.Common.{◌≡◌, ℕ, Bool, true, false, List, [], ◌∷◌, ap, inl, inr, refl, subst, sym, ◌∙◌}
use Rattle.std.specs.Prelude.{◌&&◌, ◌||◌, ◌==◌, if◌then◌else◌, filter}
use Rattle.std.specs.List.{AllByRecursion, list_any}
use Rattle.dep_graph.specs.Searches.{IsOrdered}
use Rattle.hac_model.specs.Tree.Depends.{Among, depends}
use Rattle.hac_model.specs.declared.states.State.{State}
use Rattle.reeval.specs.Judging.{TiesAlike}
use Rattle.reeval.specs.Routes.{Covers, begins_at, dirs_of, ties_at}
use Rattle.reeval.proofs.PlanLemmas.{begins-more}
use Rattle.reeval.specs.declared.settling.Stop.{Stop}
use Rattle.reindex.specs.Ways.{needed, stops_at}

-- what is kept of a list is among all of it
among-kept : (p : Stop → Bool) (stops : List Stop) (dir : ℕ) → Among (dirs_of (filter p stops)) dir → Among (dirs_of stops) dir
among-kept p [] dir is = is
among-kept p (stop ∷ stops) dir is = by (among-kept p stops dir) (p stop) is
  where
    by : (Among (dirs_of (filter p stops)) dir → Among (dirs_of stops) dir) → (b : Bool)
        → Among (dirs_of (if b then stop ∷ filter p stops else filter p stops)) dir → Among (dirs_of (stop ∷ stops)) dir
    by further true (inl same) = inl same
    by further true (inr more) = inr (further more)
    by further false more = inr (further more)

-- and it stays in order
ordered-kept : (p : Stop → Bool) (edges : ℕ → List ℕ) (stops : List Stop) → IsOrdered edges (dirs_of stops) → IsOrdered edges (dirs_of (filter p stops))
ordered-kept p edges [] h = h
ordered-kept p edges (stop ∷ stops) h = by (ordered-kept p edges stops h.2) (p stop)
  where
    within : (next : ℕ) → Among (stop.dir ∷ dirs_of (filter p stops)) next → Among (dirs_of (stop ∷ stops)) next
    within next (inl same) = inl same
    within next (inr more) = inr (among-kept p stops next more)

    by : IsOrdered edges (dirs_of (filter p stops)) → (b : Bool) → IsOrdered edges (dirs_of (if b then stop ∷ filter p stops else filter p stops))
    by further true = (λ is. h.0 (among-kept p stops stop.dir is), λ next edge is. h.1 next edge (within next is), further)
    by further false = further

-- what leans on none of these directories depends on none of them
abbrev LeansWell : (ℕ → List ℕ) → List ℕ → Stop → Type 0
LeansWell edges dirs stop = stop.leans ≡ false → (e : ℕ) → Among (edges stop.dir) e → ¬ Among dirs e

alone-kept : (p : Stop → Bool) (edges : ℕ → List ℕ) (all fewer : List ℕ) → ((e : ℕ) → Among fewer e → Among all e) → (stops : List Stop)
    → AllByRecursion (LeansWell edges all) stops → AllByRecursion (LeansWell edges fewer) (filter p stops)
alone-kept p edges all fewer within [] h = tt
alone-kept p edges all fewer within (stop ∷ stops) h = by (alone-kept p edges all fewer within stops h.1) (p stop)
  where
    by : AllByRecursion (LeansWell edges fewer) (filter p stops) → (b : Bool) → AllByRecursion (LeansWell edges fewer) (if b then stop ∷ filter p stops else filter p stops)
    by further true = (λ none e edge is. h.0 none e edge (within e is), further)
    by further false = further

-- what is needed of a list is needed of a longer one
needed-behind : (stop : Stop) (stops : List Stop) (dir : ℕ) → Among (dirs_of (needed stops)) dir → Among (dirs_of (needed (stop ∷ stops))) dir
needed-behind stop stops dir is = by (stop.begins || stop.leans)
  where
    by : (b : Bool) → Among (dirs_of (if b then stop ∷ needed stops else needed stops)) dir
    by true = inr is
    by false = is

-- a directory that depends on one of the way leans, so its stop is needed
leaning-needed : (edges : ℕ → List ℕ) (all : List ℕ) (dir e : ℕ) → Among (edges dir) e → Among all e → (stops : List Stop)
    → AllByRecursion (LeansWell edges all) stops → Among (dirs_of stops) dir → Among (dirs_of (needed stops)) dir
leaning-needed edges all dir e edge inside [] h is = is
leaning-needed edges all dir e edge inside (stop ∷ stops) h (inr more) = needed-behind stop stops dir (leaning-needed edges all dir e edge inside stops h.1 more)
leaning-needed edges all dir e edge inside (stop ∷ stops) h (inl same) = by stop.begins stop.leans refl
  where
    by : (b l : Bool) → stop.leans ≡ l → Among (dirs_of (if b || l then stop ∷ needed stops else needed stops)) dir
    by true l is = inl same
    by false true is = inl same
    by false false is = absurd (h.0 is e (subst (λ (n : ℕ). Among (edges n) e) (sym same) edge) inside)

and-false : (b : Bool) → (b && false) ≡ false
and-false true = refl
and-false false = refl

-- judging begins where it did
begins-needed : (stops : List Stop) (dir : ℕ) → begins_at (needed stops) dir ≡ begins_at stops dir
begins-needed [] dir = refl
begins-needed (stop ∷ stops) dir = by (begins-needed stops dir) stop.begins stop.leans refl
  where
    begins : Stop → Bool
    begins one = one.dir == dir && one.begins

    by : list_any begins (needed stops) ≡ list_any begins stops → (b l : Bool) → stop.begins ≡ b
        → list_any begins (if b || l then stop ∷ needed stops else needed stops) ≡ (begins stop || list_any begins stops)
    by further true l is = ap (λ (rest : Bool). begins stop || rest) further
    by further false true is = ap (λ (rest : Bool). begins stop || rest) further
    by further false false is =
        further
        ∙ sym (ap (λ (b : Bool). (stop.dir == dir && b) || list_any begins stops) is ∙ ap (λ (b : Bool). b || list_any begins stops) (and-false (stop.dir == dir)))

-- what ties there did
ties-needed : (stops : List Stop) (dir : ℕ) → ties_at (needed stops) dir ≡ true → ties_at stops dir ≡ true
ties-needed [] dir is = is
ties-needed (stop ∷ stops) dir is = by (ties-needed stops dir) (stop.begins || stop.leans) is
  where
    ties : Stop → Bool
    ties one = one.dir == dir && one.ties

    wider : (a b c : Bool) → (b ≡ true → c ≡ true) → (a || b) ≡ true → (a || c) ≡ true
    wider true b c more is = refl
    wider false b c more is = more is

    behind : (a b : Bool) → b ≡ true → (a || b) ≡ true
    behind true b is = refl
    behind false b is = is

    by : (list_any ties (needed stops) ≡ true → list_any ties stops ≡ true) → (b : Bool) → list_any ties (if b then stop ∷ needed stops else needed stops) ≡ true → (ties stop || list_any ties stops) ≡ true
    by further true is = wider (ties stop) (list_any ties (needed stops)) (list_any ties stops) further is
    by further false is = behind (ties stop) (list_any ties stops) (further is)

-- where judging begins at each, all are needed
pub needed-everywhere : (leans : ℕ → Bool) (dirs : List ℕ) → needed (stops_at (λ dir. true) leans dirs) ≡ stops_at (λ dir. true) leans dirs
needed-everywhere leans [] = refl
needed-everywhere leans (dir ∷ dirs) = ap (λ (more : List Stop). record { dir = dir; begins = true; ties = false; leans = leans dir } ∷ more) (needed-everywhere leans dirs)

-- so an item is judged on the shorter way wherever it is on the longer one
pub covers-needed : (s t : State) (stops : List Stop) (item : ℕ) → Covers s t stops item → Covers s t (needed stops) item
covers-needed s t stops item c = record {
  before = c.before;
  after = c.after;
  route = record {
    ordered = ordered-kept (λ stop. stop.begins || stop.leans) (depends t) stops c.route.ordered;
    closed = λ dir e edge is.
        let inside = within e is in
        leaning-needed (depends t) (dirs_of stops) dir e edge inside stops c.route.alone (c.route.closed dir e edge inside);
    alone = alone-kept (λ stop. stop.begins || stop.leans) (depends t) (dirs_of stops) (dirs_of (needed stops)) within stops c.route.alone;
  };
  alike = begins-more s t item (begins_at stops) (begins_at (needed stops)) (λ dir out. sym (begins-needed stops dir) ∙ out) c.alike;
  tied = λ dir is. subst (λ (begins : ℕ → Bool). TiesAlike s t begins item dir) (λ i d. sym (begins-needed stops d) i) (c.tied dir (ties-needed stops dir is));
}
  where
    within : (e : ℕ) → Among (dirs_of (needed stops)) e → Among (dirs_of stops) e
    within = among-kept (λ stop. stop.begins || stop.leans) stops
