-- A graph into which each entry puts its edges.
use Rattle.std.proofs.Common.{◌≡◌, ℕ, zero, suc, ◌<◌, Bool, false, List, [], ◌∷◌, ◌++◌, refl, ap, sym, ◌∙◌, subst}
use Rattle.std.proofs.Common.{arith, eq-eqb, inl, inr}
use Rattle.std.specs.Prelude.{◌==◌, Option, Some, None, drop, filter, if◌then◌else◌, is_some, option_and_then}
use Rattle.std.specs.List.{AllByRecursion}
use Rattle.std.specs.Option.{option_map, option_map_or}
use Rattle.std.proofs.lemmas.Bool.{cases_eq, ne_eqb}
use Rattle.dep_graph.specs.Graphs.{replaced}
use Rattle.hac_model.specs.Query.Formula.{Formula}
use Rattle.hac_model.specs.Query.Queries.{named_in}
use Rattle.hac_model.specs.Tree.Depends.{depends}
use Rattle.hac_model.specs.Tree.{entry_at, is_directory_at, permanent_in, query_in}
use Rattle.hac_model.specs.declared.states.Entry.{Entry}
use Rattle.hac_model.specs.declared.states.State.{State}
use Rattle.layout_check.specs.Rising.{DoRise}
use Rattle.state_check.specs.Edges.{edges_put}

-- the edges of each number where some entries have put in none yet
abbrev pub edges_left : State → List Entry → ℕ → List ℕ
edges_left s left q = if is_some (entry_at left q) then [] else depends s q

-- ---- at first

-- ---- an entry that stands where some are left

all-left : (P : Entry → Type 0) (es : List Entry) (i : ℕ) (e : Entry) (left : List Entry) → AllByRecursion P es
    → drop i es ≡ e ∷ left → P e
all-left P [] zero e left h is = absurd (let never : [] ≡ e ∷ left = is in cc)
all-left P [] (suc i) e left h is = absurd (let never : [] ≡ e ∷ left = is in cc)
all-left P (x ∷ es) zero e left h is = let same : x ≡ e = cc in subst P same h.0
all-left P (x ∷ es) (suc i) e left h is = all-left P es i e left h.1 is

none-above : (number : ℕ) (es : List Entry) → AllByRecursion (λ (other : Entry). number < other.number) es
    → entry_at es number ≡ None
none-above number [] h = refl
none-above number (e ∷ es) h =
    ap (λ (b : Bool). if b then Some e else entry_at es number)
    (ne_eqb e.number number (λ same. let less = h.0 in omega (arith, same, less)))
    ∙ none-above number es h.1

-- it is the one of its number, and no other one is left
pub own-entry : (es : List Entry) (i : ℕ) (e : Entry) (left : List Entry) → DoRise es → drop i es ≡ e ∷ left
    → (entry_at es e.number ≡ Some e) × (entry_at left e.number ≡ None)
own-entry [] zero e left h is = absurd (let never : [] ≡ e ∷ left = is in cc)
own-entry [] (suc i) e left h is = absurd (let never : [] ≡ e ∷ left = is in cc)
own-entry (x ∷ es) zero e left h is =
    let same : x ≡ e = cc in
    let rest : es ≡ left = cc in (
      ap (λ (y : Entry). if y.number == e.number then Some y else entry_at es e.number) same
          ∙ ap (λ (b : Bool). if b then Some e else entry_at es e.number) (eq-eqb e.number e.number refl),
      subst (λ (l : List Entry). entry_at l e.number ≡ None) rest
          (none-above e.number es (subst
          (λ (y : Entry). AllByRecursion (λ (other : Entry). y.number < other.number) es) same h.0)),
    )
own-entry (x ∷ es) (suc i) e left h is =
    let rest = own-entry es i e left h.1 is in
    let less : x.number < e.number = all-left (λ (other : Entry). x.number < other.number) es i e left h.0 is in (
      ap (λ (b : Bool). if b then Some x else entry_at es e.number)
          (ne_eqb x.number e.number (λ same. omega (arith, same, less))) ∙ rest.0,
      rest.1,
    )

-- ---- its edges are put in

module _ (s : State) (e : Entry) where
  -- what it depends on, if it has this query
  abbrev edges_for : Formula ℕ → List ℕ
  edges_for query = e.parent ∷ named_in query ++ filter (is_directory_at s.entries) (permanent_in e.body)

  own-edges : entry_at s.entries e.number ≡ Some e → depends s e.number ≡ option_map_or edges_for (query_in e.body) []
  own-edges there =
      ap (λ (o : Option Entry). option_map_or
      (λ query. option_map_or (λ (x : Entry). x.parent) o 0 ∷ named_in query ++ filter (is_directory_at s.entries)
      (option_map_or permanent_in (option_map (λ (x : Entry). x.body) o) []))
      (option_and_then query_in (option_map (λ (x : Entry). x.body) o)) []) there

  put-own : (old : ℕ → List ℕ) (query : Option (Formula ℕ)) → old e.number ≡ []
      → option_map_or (λ query. replaced old e.number (edges_for query)) query old e.number
      ≡ option_map_or edges_for query []
  put-own old None none = none
  put-own old (Some query) none =
      ap (λ (b : Bool). if b then edges_for query else old e.number) (eq-eqb e.number e.number refl)

  put-other : (old : ℕ → List ℕ) (query : Option (Formula ℕ)) (q : ℕ) → (q == e.number) ≡ false
      → option_map_or (λ query. replaced old e.number (edges_for query)) query old q ≡ old q
  put-other old None q other = refl
  put-other old (Some query) q other = ap (λ (b : Bool). if b then edges_for query else old q) other

  pub left-less : (left : List Entry) (old : ℕ → List ℕ) → entry_at s.entries e.number ≡ Some e
      → entry_at left e.number ≡ None → ((q : ℕ) → old q ≡ edges_left s (e ∷ left) q) → (q : ℕ)
      → edges_put s.entries e old q ≡ edges_left s left q
  left-less left old there gone before q =
      elim (cases_eq e.number q) as (λ _. edges_put s.entries e old q ≡ edges_left s left q) [
        | inl same ↦ subst (λ (n : ℕ). edges_put s.entries e old n ≡ edges_left s left n) same here
        | inr other ↦ (
            put-other old (query_in e.body) q (ne_eqb q e.number (λ same. other (sym same)))
            ∙ before q
            ∙ ap (λ (b : Bool). if is_some (if b then Some e else entry_at left q) then [] else depends s q)
            (ne_eqb e.number q other))
      ]
    where
      none : old e.number ≡ []
      none = before e.number ∙ ap (λ (b : Bool). if is_some (if b then Some e else entry_at left e.number) then []
          else depends s e.number) (eq-eqb e.number e.number refl)

      here : edges_put s.entries e old e.number ≡ edges_left s left e.number
      here =
          put-own old (query_in e.body) none ∙ sym (own-edges there)
          ∙ ap (λ (o : Option Entry). if is_some o then [] else depends s e.number) (sym gone)
