-- Walks over edges, and how a graph stays without one that returns.
use Rattle.std.proofs.Common.{◌≡◌, ℕ, zero, suc, ◌+◌, List, [], subst, refl, sym, arith, inl, inr}
use Rattle.std.specs.Prelude.{◌⊎◌}
use Rattle.hac_model.specs.Tree.Depends.{Among, Leads, NeverReturns, Reaches}

-- a step more at the end
pub leads_more : (edges : ℕ → List ℕ) (k : ℕ) (d e m : ℕ) → Leads edges k d e → Among (edges e) m → Leads edges (suc k) d m
leads_more edges zero d e m h edge = (m, subst (λ (x : ℕ). Among (edges x) m) (sym h) edge, refl)
leads_more edges (suc k) d e m h edge = (h.0, h.1, leads_more edges k h.0 e m h.2 edge)

-- one walk behind another
pub leads_join : (edges : ℕ → List ℕ) (k j : ℕ) (d e m : ℕ) → Leads edges k d e → Leads edges j e m → Leads edges (k + j) d m
leads_join edges zero j d e m h more = subst (λ (n : ℕ). Leads edges n d m) (omega arith) (subst (λ (x : ℕ). Leads edges j x m) (sym h) more)
leads_join edges (suc k) j d e m h more =
    subst (λ (n : ℕ). Leads edges n d m) (let same : suc (k + j) ≡ suc k + j = omega arith in same) (h.0, h.1, leads_join edges k j h.0 e m h.2 more)

-- each edge of a graph is one of another, or one of some new edges of a number
abbrev pub AreReplaced : (ℕ → List ℕ) → (ℕ → List ℕ) → ℕ → List ℕ → Type 0
AreReplaced old edges d new = (q e : ℕ) → Among (edges q) e → Among (old q) e ⊎ ((q ≡ d) × Among new e)

-- a walk to that number has no need of its new edges
to_old : (old edges : ℕ → List ℕ) (d : ℕ) (new : List ℕ) → AreReplaced old edges d new → (k a : ℕ) → Leads edges k a d → Reaches old a d
to_old old edges d new replaced zero a h = (zero, h)
to_old old edges d new replaced (suc k) a h = step (replaced a h.0 h.1) (to_old old edges d new replaced k h.0 h.2)
  where
    step : Among (old a) h.0 ⊎ ((a ≡ d) × Among new h.0) → Reaches old h.0 d → Reaches old a d
    step (inl edge) rest = (suc rest.0, (h.0, edge, rest.1))
    step (inr there) rest = (zero, there.0)

-- a walk is one over old edges, or it leads to that number, over a new edge, and on
abbrev Splits : (old edges : ℕ → List ℕ) → ℕ → List ℕ → ℕ → ℕ → ℕ → Type 0
Splits old edges d new k a b = Leads old k a b ⊎ ((e i j : ℕ) × Among new e × Leads edges i a d × Leads edges j e b)

splits : (old edges : ℕ → List ℕ) (d : ℕ) (new : List ℕ) → AreReplaced old edges d new → (k a b : ℕ) → Leads edges k a b → Splits old edges d new k a b
splits old edges d new replaced zero a b h = inl h
splits old edges d new replaced (suc k) a b h = step (replaced a h.0 h.1) (splits old edges d new replaced k h.0 b h.2)
  where
    step : Among (old a) h.0 ⊎ ((a ≡ d) × Among new h.0) → Splits old edges d new k h.0 b → Splits old edges d new (suc k) a b
    step (inr there) rest = inr (h.0, zero, k, there.1, there.0, h.2)
    step (inl edge) (inl rest) = inl (h.0, edge, rest)
    step (inl edge) (inr (e, i, j, inside, to, on)) = inr (e, suc i, j, inside, (h.0, h.1, to), on)

-- where no new edge of a number leads to it over the old ones, no walk returns over the edges
pub never_returns-replaced : (old edges : ℕ → List ℕ) (d : ℕ) (new : List ℕ) → AreReplaced old edges d new → ((e : ℕ) → Among new e → Reaches old e d → ⊥) → NeverReturns old → NeverReturns edges
never_returns-replaced old edges d new replaced apart never steps n back = closed (splits old edges d new replaced (suc steps) n n back)
  where
    closed : Splits old edges d new (suc steps) n n → ⊥
    closed (inl walk) = never steps n walk
    closed (inr (e, i, j, inside, to, on)) = apart e inside (to_old old edges d new replaced (j + i) e (leads_join edges j i e n d on to))

-- fewer edges have no other walks
pub never_returns-fewer : (old edges : ℕ → List ℕ) → ((q e : ℕ) → Among (edges q) e → Among (old q) e) → NeverReturns old → NeverReturns edges
never_returns-fewer old edges fewer never =
    never_returns-replaced old edges 0 [] (λ q e edge. inl (fewer q e edge)) (λ e inside. absurd inside) never
