-- Which directories reach which, and how a state stays without one that depends on itself.
use Rattle.std.proofs.Common.{◌≡◌, ℕ, zero, suc, ◌≤◌, Bool, true, false, cond, List, [], ◌∷◌, length, subst, refl, ap, sym, ◌∙◌, arith, eq-eqb, inl, inr}
use Rattle.std.specs.Prelude.{◌⊎◌, ◌==◌, Some, None}
use Rattle.std.specs.List.{list_any}
use Rattle.std.proofs.lemmas.Bool.{cases_eq, eqb-true, or_cases, or_left, or_right}
use Rattle.hac_model.specs.Tree.Depends.{Among, Leads, Reaches, depends, first_reaching, leads_within, reaches}
use Rattle.hac_model.specs.Tree.Limits.{semantic_count}
use Rattle.hac_model.specs.declared.states.State.{State}
use Rattle.hac_model.proofs.LinkLemmas.{Among-without, edge-among, length-without, semantic-length, semantic_numbers, without}

-- a test that a member passes is passed by some member
pub any-among : (test : ℕ → Bool) (xs : List ℕ) (n : ℕ) → Among xs n → test n ≡ true → list_any test xs ≡ true
any-among test [] n inside passes = absurd inside
any-among test (x ∷ xs) n (inl same) passes = or_left (test x) (list_any test xs) (ap test same ∙ passes)
any-among test (x ∷ xs) n (inr more) passes = or_right (test x) (list_any test xs) (any-among test xs n more passes)

pub among-any : (test : ℕ → Bool) (xs : List ℕ) → list_any test xs ≡ true → (n : ℕ) × Among xs n × (test n ≡ true)
among-any test [] h = absurd cc
among-any test (x ∷ xs) h = elim (or_cases (test x) (list_any test xs) h) [
  | inl here ↦ (x, inl refl, here)
  | inr later ↦ (let more = among-any test xs later in (more.0, inr more.1, more.2))
]

-- this many steps lead from one number to another, each from a number that is free
abbrev LeadsOver : (ℕ → List ℕ) → List ℕ → ℕ → ℕ → ℕ → Type 0
LeadsOver edges free zero from to = from ≡ to
LeadsOver edges free (suc steps) from to = Among free from × ((next : ℕ) × (Among (edges from) next) × (LeadsOver edges free steps next to))

-- a walk never steps from a number, or it steps from it a last time
last_step : (edges : ℕ → List ℕ) (free : List ℕ) (number k from to : ℕ) → LeadsOver edges free k from to
    → LeadsOver edges (without number free) k from to ⊎ ((j next : ℕ) × (Among (edges number) next) × LeadsOver edges (without number free) j next to)
last_step edges free number zero from to h = inl h
last_step edges free number (suc k) from to (inside, (next, edge, more)) = at (last_step edges free number k next to more)
  where
    at : LeadsOver edges (without number free) k next to ⊎ ((j next : ℕ) × (Among (edges number) next) × LeadsOver edges (without number free) j next to)
        → LeadsOver edges (without number free) (suc k) from to ⊎ ((j next : ℕ) × (Among (edges number) next) × LeadsOver edges (without number free) j next to)
    at (inr later) = inr later
    at (inl over) = elim (cases_eq number from) [
      | inl same ↦ inr (k, next, subst (λ (n : ℕ). Among (edges n) next) (sym same) edge, over)
      | inr other ↦ inl (Among-without number from free inside other, (next, edge, over))
    ]

none-free : (free : List ℕ) (n : ℕ) → length free ≤ 0 → Among free n → ⊥
none-free [] n few h = h
none-free (x ∷ xs) n few h = omega arith

-- a walk is seen within as many steps as numbers are free: between two steps from one number nothing is gained
shortened : (edges : ℕ → List ℕ) (most : ℕ) (free : List ℕ) (k from to : ℕ) → length free ≤ most → LeadsOver edges free k from to → leads_within edges most from to ≡ true
shortened edges zero free zero from to few h = eq-eqb from to h
shortened edges zero free (suc k) from to few (inside, more) = absurd (none-free free from few inside)
shortened edges (suc most) free zero from to few h = or_left (from == to) (list_any (λ next. leads_within edges most next to) (edges from)) (eq-eqb from to h)
shortened edges (suc most) free (suc k) from to few (inside, (next, edge, more)) =
    on (last_step edges free from k next to more) (λ j next over. shortened edges most (without from free) j next to (omega (arith, length-without from free inside)) over)
  where
    on : LeadsOver edges (without from free) k next to ⊎ ((j next : ℕ) × (Among (edges from) next) × LeadsOver edges (without from free) j next to)
        → ((j next : ℕ) → LeadsOver edges (without from free) j next to → leads_within edges most next to ≡ true)
        → leads_within edges (suc most) from to ≡ true
    on (inl over) seen = or_right (from == to) _ (any-among (λ next. leads_within edges most next to) (edges from) next edge (seen k next over))
    on (inr (j, other, step, over)) seen = or_right (from == to) _ (any-among (λ next. leads_within edges most next to) (edges from) other step (seen j other over))

-- each step is from a semantic directory
leads-over : (s : State) (k from to : ℕ) → Leads (depends s) k from to → LeadsOver (depends s) (semantic_numbers s.entries) k from to
leads-over s zero from to h = h
leads-over s (suc k) from to (next, edge, more) = (edge-among s from next edge, (next, edge, leads-over s k next to more))

-- and what is seen is a walk
pub within-walk : (edges : ℕ → List ℕ) (most from to : ℕ) → leads_within edges most from to ≡ true → Reaches edges from to
within-walk edges zero from to h = (zero, eqb-true from to h)
within-walk edges (suc most) from to h = elim (or_cases (from == to) (list_any (λ next. leads_within edges most next to) (edges from)) h) [
  | inl same ↦ (zero, eqb-true from to same)
  | inr on ↦ (
      let next = among-any (λ next. leads_within edges most next to) (edges from) on in
      let rest = within-walk edges most next.0 to next.2 in
      (suc rest.0, (next.0, next.1, rest.1)))
]

-- `reaches` is true exactly where something is reached
pub reaches-told : (s : State) (from to : ℕ) → Reaches (depends s) from to → reaches s from to ≡ true
unfolding reaches
reaches-told s from to walk =
    shortened (depends s) (semantic_count s.entries) (semantic_numbers s.entries) walk.0 from to (omega (arith, semantic-length s.entries)) (leads-over s walk.0 from to walk.1)

pub reaches-walk : (s : State) (from to : ℕ) → reaches s from to ≡ true → Reaches (depends s) from to
unfolding reaches
reaches-walk s from to h = within-walk (depends s) (semantic_count s.entries) from to h

-- where `reaches` is false of each of the directories, none reaches
pub none-reaching : (s : State) (dir : ℕ) (others : List ℕ) → first_reaching s dir others ≡ None → (e : ℕ) → Among others e → Reaches (depends s) e dir → ⊥
unfolding first_reaching
none-reaching s dir [] none e inside walk = absurd inside
none-reaching s dir (other ∷ others) none e inside walk =
    elim (reaches s other dir) as (λ b. reaches s other dir ≡ b → cond b (Some other) (first_reaching s dir others) ≡ None → ⊥) [
      | true ↦ (λ there none. absurd cc)
      | false ↦ (λ apart none. first inside apart none (λ more. none-reaching s dir others none e more walk))
    ] refl none
  where
    first : (other ≡ e) ⊎ Among others e → reaches s other dir ≡ false → first_reaching s dir others ≡ None → (Among others e → ⊥) → ⊥
    first (inl same) apart none rest =
        let never : true ≡ false = sym (reaches-told s e dir walk) ∙ ap (λ (n : ℕ). reaches s n dir) (sym same) ∙ apart in
        absurd cc
    first (inr more) apart none rest = rest more
