-- How much a search has still before it: what was seen once is never counted again.
use Rattle.std.proofs.Common.{◌≡◌, ℕ, ◌+◌, ◌≤◌, Bool, true, false, cond, List, [], ◌∷◌, length, refl, ap, sym, ◌∙◌, arith, eq-eqb, inl, inr}
use Rattle.std.specs.Prelude.{◌⊎◌, ◌==◌, nat_eq}
use Rattle.std.proofs.lemmas.Bool.{eqb-true}
use Rattle.dep_graph.specs.Graphs.{edges_at}
use Rattle.dep_graph.specs.Steps.{Marks}

-- the edges of those that weren't seen, and two more for each
abbrev pub owed : List (ℕ × List ℕ) → (ℕ → Bool) → ℕ
owed [] seen = 0
owed (node ∷ nodes) seen = cond {A = ℕ} (seen node.0) 0 (2 + length node.1) + owed nodes seen

one-less : (size : ℕ) (old new : Bool) → (old ≡ true → new ≡ true) → cond {A = ℕ} new 0 size ≤ cond {A = ℕ} old 0 size
one-less size true new more = rw (more refl) (omega arith)
one-less size false true more = omega arith
one-less size false false more = omega arith

pub owed-less : (nodes : List (ℕ × List ℕ)) (old new : ℕ → Bool) → ((q : ℕ) → old q ≡ true → new q ≡ true) → owed nodes new ≤ owed nodes old
owed-less [] old new more = omega arith
owed-less (node ∷ nodes) old new more = omega (arith, one-less (2 + length node.1) (old node.0) (new node.0) (more node.0), owed-less nodes old new more)

pub marks-more : (n : ℕ) (old new : ℕ → Bool) → Marks n old new → (q : ℕ) → old q ≡ true → new q ≡ true
marks-more n old new marks q h = marks q ∙ (elim (nat_eq n q) as (λ b. cond b true (old q) ≡ true) [ true ↦ refl | false ↦ h ])

pub marks-same : (n : ℕ) (old new : ℕ → Bool) → Marks n old new → new n ≡ true
marks-same n old new marks = marks n ∙ ap (λ (b : Bool). cond b true (old n)) (eq-eqb n n refl)

pub owed-marked : (nodes : List (ℕ × List ℕ)) (n : ℕ) (old new : ℕ → Bool) → Marks n old new → old n ≡ false → (edges_at nodes n ≡ []) ⊎ (owed nodes new + 2 + length (edges_at nodes n) ≤ owed nodes old)
owed-marked [] n old new marks fresh = inl refl
owed-marked (node ∷ nodes) n old new marks fresh =
    elim (n == node.0) as (λ b. (n == node.0) ≡ b → (cond b node.1 (edges_at nodes n) ≡ []) ⊎ (owed (node ∷ nodes) new + 2 + length (cond b node.1 (edges_at nodes n)) ≤ owed (node ∷ nodes) old)) [
      | true ↦ (λ same.
          let here = eqb-true n node.0 same in
          let before : cond {A = ℕ} (old node.0) 0 (2 + length node.1) ≡ 2 + length node.1 = ap (λ (b : Bool). cond {A = ℕ} b 0 (2 + length node.1)) (ap old (sym here) ∙ fresh) in
          let after : cond {A = ℕ} (new node.0) 0 (2 + length node.1) ≡ 0 = ap (λ (b : Bool). cond {A = ℕ} b 0 (2 + length node.1)) (ap new (sym here) ∙ marks-same n old new marks) in
          inr (omega (arith, before, after, owed-less nodes old new (marks-more n old new marks))))
      | false ↦ (λ other. elim (owed-marked nodes n old new marks fresh) as (λ _. (edges_at nodes n ≡ []) ⊎ (owed (node ∷ nodes) new + 2 + length (edges_at nodes n) ≤ owed (node ∷ nodes) old)) [
        | inl none ↦ inl none
        | inr less ↦ inr (omega (arith, less, one-less (2 + length node.1) (old node.0) (new node.0) (marks-more n old new marks node.0)))
      ])
    ] refl

-- edges that are put onto a stack were owed
pub owed-opened : (nodes : List (ℕ × List ℕ)) (n : ℕ) (old new : ℕ → Bool) → Marks n old new → old n ≡ false → owed nodes new + length (edges_at nodes n) ≤ owed nodes old
owed-opened nodes n old new marks fresh =
    elim (owed-marked nodes n old new marks fresh) as (λ _. owed nodes new + length (edges_at nodes n) ≤ owed nodes old) [
      | inl none ↦ omega (arith, ap (λ (ns : List ℕ). length ns) none, owed-less nodes old new (marks-more n old new marks))
      | inr less ↦ omega (arith, less)
    ]
