-- What the search over a graph says of the state.
use Rattle.std.proofs.Common.{◌≡◌, ℕ, true, false, cond, List, [], ◌∷◌, subst, refl, ap, sym, ◌∙◌, inl, inr}
use Rattle.std.specs.Prelude.{◌⊎◌, Bool, Option, Some, None, Result, Ok, Err, IfOk}
use Rattle.hac_model.specs.Tree.Depends.{cycle_of_mark, cycle_over, depends, first_reaching, named_in, reaches}
use Rattle.hac_model.specs.Query.Formula.{Formula}
use Rattle.hac_model.specs.Tree.{is_directory_at}
use Rattle.hac_model.specs.Tree.Kinds.{is_permanent}
use Rattle.hac_model.specs.declared.marks.Kind.{Kind}
use Rattle.hac_model.specs.declared.marks.Kind.TheVariants.{Transient, Permanent, Prohibited, Unlinked}
use Rattle.hac_model.specs.declared.marks.Mark.{Mark}
use Rattle.hac_model.specs.declared.memory.Memory.{Memory}
use Rattle.hac_model.specs.declared.states.State.{State}
use Rattle.hac_model.proofs.CycleLemmas.{reaches-told, reaches-walk}
use Rattle.dep_graph.specs.Graphs.{edges_of}
use Rattle.dep_graph.specs.Searches.{IsFirstToReach}
use Rattle.kept_state.specs.Parts.{IsLinked, state_of}
use Rattle.kept_state.specs.declared.parts.Parts.{Parts}
use Rattle.kept_state.proofs.KeptLemmas.{kept-edges}
use Rattle.kept_state.proofs.StateLemmas.{kept-bares, same-directory}

-- the first directory that is found over the dependencies is the first that reaches
pub first-told : (s : State) (dir : ℕ) (others : List ℕ) (found : Option ℕ) → IsFirstToReach (depends s) dir others found → first_reaching s dir others ≡ found
unfolding first_reaching
first-told s dir [] found h = sym h
first-told s dir (other ∷ others) found (inl (is, walk)) =
    ap (λ (b : Bool). cond b (Some other) (first_reaching s dir others)) (reaches-told s other dir walk) ∙ sym is
first-told s dir (other ∷ others) found (inr (apart, rest)) =
    elim (reaches s other dir) as (λ b. reaches s other dir ≡ b → cond b (Some other) (first_reaching s dir others) ≡ found) [
      | true ↦ (λ there. absurd (apart (reaches-walk s other dir there)))
      | false ↦ (λ away. first-told s dir others found rest)
    ] refl

-- the same, by a graph that has the dependencies
pub first-by : (s : State) (edges : ℕ → List ℕ) (dir : ℕ) (others : List ℕ) (found : Option ℕ) → ((d : ℕ) → edges d ≡ depends s d) → IsFirstToReach edges dir others found → first_reaching s dir others ≡ found
first-by s edges dir others found same h =
    first-told s dir others found (subst (λ (e : ℕ → List ℕ). IsFirstToReach e dir others found) (λ i d. same d i) h)

-- what a linked tree's graph says of the directory through which another would depend on itself
pub cycle-told : (kept : Parts) (dir parent : ℕ) (q : Formula ℕ) (edges : List ℕ) (found : Option ℕ) → IsLinked kept → edges ≡ parent ∷ named_in q → IsFirstToReach (edges_of kept.graph) dir edges found → cycle_over (state_of kept) dir parent q ≡ found
cycle-told kept dir parent q edges found h is reached =
    ap (first_reaching (state_of kept) dir) (sym is)
    ∙ first-by (state_of kept) (edges_of kept.graph) dir edges found (kept-edges kept h) reached

pub way-told : (kept : Parts) (dir parent : ℕ) (q : Formula ℕ) (edges : List ℕ) (result : Result (Option ℕ) Memory) → IsLinked kept → edges ≡ parent ∷ named_in q → IfOk result (λ found. IsFirstToReach (edges_of kept.graph) dir edges found) → IfOk result (λ way. way ≡ cycle_over (state_of kept) dir parent q)
way-told kept dir parent q edges (Ok found) h is first = sym (cycle-told kept dir parent q edges found h is first)
way-told kept dir parent q edges (Err memory) h is first = tt

-- The directory that is to be added to another.

pub mark-way : (kept : Parts) (mark : Mark) (result : Result (Option ℕ) Memory) → IsLinked kept → is_permanent mark.kind ≡ true → is_directory_at kept.tree.state.entries mark.item ≡ true →
    IfOk result (λ found. IsFirstToReach (edges_of kept.graph) mark.dir (mark.item ∷ []) found) → IfOk result (λ way. way ≡ cycle_of_mark (state_of kept) mark.dir mark.item mark.kind)
mark-way kept mark (Err memory) h permanent directory first = tt
mark-way kept mark (Ok found) h permanent directory first = at mark.kind permanent
  where
    at : (kind : Kind) → is_permanent kind ≡ true → found ≡ cycle_of_mark (state_of kept) mark.dir mark.item kind
    at Permanent is =
        sym (first-by (state_of kept) (edges_of kept.graph) mark.dir (mark.item ∷ []) found (kept-edges kept h) first)
        ∙ ap (λ (b : Bool). cond b (first_reaching (state_of kept) mark.dir (mark.item ∷ [])) None) (sym (same-directory (state_of kept) kept.tree.state (kept-bares kept) mark.item ∙ directory))
    at Transient is = absurd cc
    at Prohibited is = absurd cc
    at Unlinked is = absurd cc

pub mark-none : (kept : Parts) (mark : Mark) → (is_permanent mark.kind ≡ false) ⊎ (is_directory_at kept.tree.state.entries mark.item ≡ false) → None ≡ cycle_of_mark (state_of kept) mark.dir mark.item mark.kind
mark-none kept mark h = at mark.kind h
  where
    at : (kind : Kind) → (is_permanent kind ≡ false) ⊎ (is_directory_at kept.tree.state.entries mark.item ≡ false) → None ≡ cycle_of_mark (state_of kept) mark.dir mark.item kind
    at Permanent (inl other) = absurd cc
    at Permanent (inr plain) = ap (λ (b : Bool). cond b (first_reaching (state_of kept) mark.dir (mark.item ∷ [])) None) (sym (same-directory (state_of kept) kept.tree.state (kept-bares kept) mark.item ∙ plain))
    at Transient other = refl
    at Prohibited other = refl
    at Unlinked other = refl
