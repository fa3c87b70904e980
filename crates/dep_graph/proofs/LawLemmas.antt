-- What a directory's new edges make of where numbers lead.
use Rattle.std.proofs.Common.{◌≡◌, ℕ, zero, suc, ◌+◌, Bool, true, false, cond, List, subst, refl, sym, arith, eq-eqb, inl, inr}
use Rattle.std.specs.Prelude.{◌⊎◌, ◌==◌}
use Rattle.std.proofs.lemmas.Bool.{eqb-true}
use Rattle.hac_model.specs.Tree.Depends.{Among, Leads, Reaches}
use Rattle.dep_graph.specs.Graphs.{replaced}
use Rattle.dep_graph.specs.Laws.{NewEdgesKeepOff, NewEdgesReturn}

pub leads-on : (edges : ℕ → List ℕ) (k m a b c : ℕ) → Leads edges k a b → Leads edges m b c → Leads edges (k + m) a c
leads-on edges zero m a b c here more = subst (λ (n : ℕ). Leads edges n a c) zero-more (subst (λ (x : ℕ). Leads edges m x c) (sym here) more)
  where
    zero-more : m ≡ zero + m
    zero-more = omega arith
leads-on edges (suc k) m a b c (next, edge, rest) more = subst (λ (n : ℕ). Leads edges n a c) one-more (next, edge, leads-on edges k m next b c rest more)
  where
    one-more : suc (k + m) ≡ suc k + m
    one-more = omega arith

-- either no step is over a new edge, or behind the last one that is all are old
after_last : (edges : ℕ → List ℕ) (dir : ℕ) (new : List ℕ) (k a b : ℕ) → Leads (replaced edges dir new) k a b → Leads edges k a b ⊎ ((next : ℕ) × (Among new next) × (Reaches edges next b))
after_last edges dir new zero a b here = inl here
after_last edges dir new (suc k) a b (next, edge, rest) =
    elim (after_last edges dir new k next b rest) as (λ _. Leads edges (suc k) a b ⊎ ((next : ℕ) × (Among new next) × (Reaches edges next b))) [
      | inr found ↦ inr found
      | inl old ↦ (elim (a == dir) as (λ t. Among (cond t new (edges a)) next → Leads edges (suc k) a b ⊎ ((next : ℕ) × (Among new next) × (Reaches edges next b))) [
        | true ↦ (λ edge. inr (next, edge, (k, old)))
        | false ↦ (λ edge. inl (next, edge, old))
      ] edge)
    ]

-- either no step is over a new edge, or the way to the first one that is is old
before_first : (edges : ℕ → List ℕ) (dir : ℕ) (new : List ℕ) (k a b : ℕ) → Leads (replaced edges dir new) k a b → Leads edges k a b ⊎ Reaches edges a dir
before_first edges dir new zero a b here = inl here
before_first edges dir new (suc k) a b (next, edge, rest) =
    elim (a == dir) as (λ t. (a == dir) ≡ t → Among (cond t new (edges a)) next → Leads edges (suc k) a b ⊎ Reaches edges a dir) [
      | true ↦ (λ same edge. inr (zero, eqb-true a dir same))
      | false ↦ (λ other edge. elim (before_first edges dir new k next b rest) as (λ _. Leads edges (suc k) a b ⊎ Reaches edges a dir) [
        | inl old ↦ inl (next, edge, old)
        | inr found ↦ inr (suc found.0, (next, edge, found.1))
      ])
    ] refl edge

pub keep_off : NewEdgesKeepOff
keep_off edges dir new never off steps number back =
    elim (after_last edges dir new (suc steps) number number back) as (λ _. ⊥) [
      | inl old ↦ never steps number old
      | inr last ↦ (elim (before_first edges dir new (suc steps) number number back) as (λ _. ⊥) [
        | inl old ↦ never steps number old
        | inr first ↦ off last.0 last.1 (last.2.0 + first.0, leads-on edges last.2.0 first.0 last.0 number dir last.2.1 first.1)
      ])
    ]

-- what reaches the directory still does, since the first to be there is reached over old edges
still : (edges : ℕ → List ℕ) (dir : ℕ) (new : List ℕ) (k a : ℕ) → Leads edges k a dir → Reaches (replaced edges dir new) a dir
still edges dir new zero a here = (zero, here)
still edges dir new (suc k) a (next, edge, rest) =
    elim (a == dir) as (λ t. (a == dir) ≡ t → Reaches (replaced edges dir new) a dir) [
      | true ↦ (λ same. (zero, eqb-true a dir same))
      | false ↦ (λ other.
          let more = still edges dir new k next rest in
          (suc more.0, (next, subst (λ (t : Bool). Among (cond t new (edges a)) next) (sym other) edge, more.1)))
    ] refl

pub return : NewEdgesReturn
return edges dir new next edge reach =
    let back = still edges dir new reach.0 next reach.1 in
    let at : (dir == dir) ≡ true = eq-eqb dir dir refl in
    (back.0, (next, subst (λ (t : Bool). Among (cond t new (edges dir)) next) (sym at) edge, back.1))
