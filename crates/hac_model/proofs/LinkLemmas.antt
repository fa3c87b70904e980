-- The links are the one fixed point of a round, where no directory depends on itself.
use Rattle.std.proofs.Common.{◌≡◌, ℕ, zero, suc, ◌+◌, ◌≤◌, Bool, true, false, cond, List, [], ◌∷◌, length, refl, ap, sym, ◌∙◌, arith, eq-eqb, inl, inr}
use Rattle.std.specs.Prelude.{◌&&◌, ◌||◌, ◌==◌, ◌++◌, ◌⊎◌, not, Option, Some, None, is_some, map, filter, option_and_then}
use Rattle.std.specs.List.{list_any}
use Rattle.std.specs.Option.{option_map_or, option_map}
use Rattle.std.proofs.Math.Dec.{eqb}
use Rattle.std.proofs.lemmas.Bool.{eqb-true}
use Rattle.std.proofs.lemmas.List.Sums.{sum_by-cons}
use Rattle.hac_model.specs.Tree.Depends.{depends, named_in, Among, Leads, IsAcyclic}
use Rattle.hac_model.specs.Query.Formula.{Formula}
use Rattle.hac_model.specs.Query.Formula as query
use Rattle.hac_model.specs.Tree.Limits.{semantic_count}
use Rattle.hac_model.specs.Tree.Links.{DirLinks, column, has, holds, is_below, is_item, is_judged, is_lent, is_permanent, is_semantic, is_unmarked, items, lenders, links, no_links, parent_of, passes, provide, query_at, round, rounds, satisfies}
use Rattle.hac_model.specs.Tree.{entry_at, body_at, query_in}
use Rattle.hac_model.specs.declared.states.Entry.{Entry}
use Rattle.hac_model.specs.declared.states.State.{State}
use Rattle.hac_model.proofs.AmongLemmas.{among-left, among-right}
use Rattle.hac_model.proofs.GraphLemmas.{leads_more}

-- the number is taken out, wherever it is
abbrev pub without : ℕ → List ℕ → List ℕ
without n [] = []
without n (x ∷ xs) = cond (x == n) (without n xs) (x ∷ without n xs)

length-without-le : (n : ℕ) (xs : List ℕ) → length (without n xs) ≤ length xs
length-without-le n [] = omega arith
length-without-le n (x ∷ xs) =
    elim (x == n) as (λ b. length (cond b (without n xs) (x ∷ without n xs)) ≤ length (x ∷ xs)) [
      | true ↦ omega (arith, length-without-le n xs)
      | false ↦ omega (arith, length-without-le n xs)
    ]

pub length-without : (n : ℕ) (xs : List ℕ) → Among xs n → length (without n xs) + 1 ≤ length xs
length-without n [] h = absurd h
length-without n (x ∷ xs) h =
    elim (x == n) as (λ b. (x == n) ≡ b → length (cond b (without n xs) (x ∷ without n xs)) + 1 ≤ length (x ∷ xs)) [
      | true ↦ (λ same. omega (arith, length-without-le n xs))
      | false ↦ (λ other. elim h as (λ _. length (x ∷ without n xs) + 1 ≤ length (x ∷ xs)) [
        | inl same ↦ (let even : (x == n) ≡ true = eq-eqb x n same in absurd cc)
        | inr more ↦ omega (arith, length-without n xs more)
      ])
    ] refl

-- another number stays
pub Among-without : (n m : ℕ) (xs : List ℕ) → Among xs m → ((n ≡ m) → ⊥) → Among (without n xs) m
Among-without n m [] h other = absurd h
Among-without n m (x ∷ xs) h other =
    elim (x == n) as (λ b. (x == n) ≡ b → Among (cond b (without n xs) (x ∷ without n xs)) m) [
      | true ↦ (λ same. elim h as (λ _. Among (without n xs) m) [
        | inl first ↦ absurd (other (sym (eqb-true x n same) ∙ first))
        | inr more ↦ Among-without n m xs more other
      ])
      | false ↦ (λ apart. elim h as (λ _. Among (x ∷ without n xs) m) [
        | inl first ↦ inl first
        | inr more ↦ inr (Among-without n m xs more other)
      ])
    ] refl

abbrev iterate : {A : Type 0} → ℕ → (A → A) → A → A
iterate zero f a = a
iterate (suc k) f a = f (iterate k f a)

iterate_inside : {A : Type 0} (k : ℕ) (f : A → A) (a : A) → iterate k f (f a) ≡ f (iterate k f a)
iterate_inside zero f a = refl
iterate_inside (suc k) f a = ap f (iterate_inside k f a)

iterate_fixed : {A : Type 0} (k : ℕ) (f : A → A) (a : A) → f a ≡ a → iterate k f a ≡ a
iterate_fixed zero f a h = refl
iterate_fixed (suc k) f a h = ap f (iterate_fixed k f a h) ∙ h

-- each directory is still free, or leads to this one
abbrev Trail : State → List ℕ → List ℕ → ℕ → Type 0
Trail s dirs free d = (v : ℕ) → Among dirs v → Among free v ⊎ ((k : ℕ) × Leads (depends s) (suc k) v d)

-- the semantic directories
abbrev pub semantic_numbers : List Entry → List ℕ
semantic_numbers es = map (λ (e : Entry). e.number) (filter (λ (e : Entry). is_some (query_in e.body)) es)

semantic-among : (es : List Entry) (d : ℕ) → is_some (option_and_then query_in (body_at es d)) ≡ true → Among (semantic_numbers es) d
semantic-among [] d h = absurd cc
semantic-among (e ∷ es) d h =
    elim (e.number == d) as (λ b. (e.number == d) ≡ b → is_some (option_and_then query_in (option_map (λ (e : Entry). e.body) (cond b (Some e) (entry_at es d)))) ≡ true → Among (semantic_numbers (e ∷ es)) d) [
      | true ↦ (λ same h. elim (is_some (query_in e.body)) as (λ t. t ≡ true → Among (map (λ (e : Entry). e.number) (cond t (e ∷ filter (λ (e : Entry). is_some (query_in e.body)) es) (filter (λ (e : Entry). is_some (query_in e.body)) es))) d) [ true ↦ (λ _. inl (eqb-true e.number d same)) | false ↦ (λ never. absurd cc) ] h)
      | false ↦ (λ other h. elim (is_some (query_in e.body)) as (λ t. Among (map (λ (e : Entry). e.number) (cond t (e ∷ filter (λ (e : Entry). is_some (query_in e.body)) es) (filter (λ (e : Entry). is_some (query_in e.body)) es))) d) [ true ↦ inr (semantic-among es d h) | false ↦ semantic-among es d h ])
    ] refl h

pub semantic-length : (es : List Entry) → semantic_count es ≡ length (semantic_numbers es)
semantic-length [] = refl
semantic-length (e ∷ es) =
    sum_by-cons (λ (e : Entry). cond {A = ℕ} (is_some (query_in e.body)) 1 0) e es
    ∙ (elim (is_some (query_in e.body)) as (λ t. cond {A = ℕ} t 1 0 + semantic_count es ≡ length (map (λ (e : Entry). e.number) (cond t (e ∷ filter (λ (e : Entry). is_some (query_in e.body)) es) (filter (λ (e : Entry). is_some (query_in e.body)) es)))) [
      | true ↦ omega (arith, semantic-length es)
      | false ↦ omega (arith, semantic-length es)
    ])

-- what depends on something is semantic
edge-semantic : (s : State) (d e : ℕ) → Among (depends s d) e → is_semantic s d ≡ true
edge-semantic s d e edge = elim (query_at s d) as (λ o. Among (option_map_or (λ q. parent_of s d ∷ named_in q ++ lenders s d) o []) e → is_some o ≡ true) [ None ↦ (λ h. absurd h) | Some q ↦ (λ h. refl) ] edge

pub edge-among : (s : State) (d e : ℕ) → Among (depends s d) e → Among (semantic_numbers s.entries) d
edge-among s d e edge = semantic-among s.entries d (edge-semantic s d e edge)

pub provide-same : (s : State) (a b : ℕ → Bool) (dir item : ℕ) → a dir ≡ b dir → provide s a dir item ≡ provide s b dir item
provide-same s a b dir item same = ap (λ (t : Bool). is_below s dir item || (is_semantic s dir && (t || (is_permanent s dir item && is_item s item)))) same

-- a query looks at the links of the directories that it names
pub holds-same : (s : State) (a b : ℕ → Bool) (q : Formula ℕ) (item : ℕ) → ((e : ℕ) → Among (named_in q) e → a e ≡ b e) → holds s a q item ≡ holds s b q item
holds-same s a b (query.Term term) item same = refl
holds-same s a b (query.Dir dir) item same = provide-same s a b dir item (same dir (inl refl))
holds-same s a b (query.Not q) item same = ap not (holds-same s a b q item same)
holds-same s a b (query.And p q) item same = λ i.
    holds-same s a b p item (λ e edge. same e (among-left (named_in p) (named_in q) e edge)) i
    && holds-same s a b q item (λ e edge. same e (among-right (named_in p) (named_in q) e edge)) i
holds-same s a b (query.Or p q) item same = λ i.
    holds-same s a b p item (λ e edge. same e (among-left (named_in p) (named_in q) e edge)) i
    || holds-same s a b q item (λ e edge. same e (among-right (named_in p) (named_in q) e edge)) i

pub satisfied : (s : State) (a : ℕ → Bool) (dir item : ℕ) (q : Formula ℕ) → query_at s dir ≡ Some q → satisfies s a dir item ≡ holds s a q item
satisfied s a dir item q at = ap (λ (o : Option (Formula ℕ)). option_map_or (λ (q : Formula ℕ). holds s a q item) o false) at

pub passes-same : (s : State) (a b : ℕ → Bool) (dir item : ℕ) (q : Formula ℕ) → query_at s dir ≡ Some q → ((e : ℕ) → Among (parent_of s dir ∷ named_in q) e → a e ≡ b e) → passes s a dir item ≡ passes s b dir item
passes-same s a b dir item q at same =
    ap (λ (t : Bool). t && is_judged s item && satisfies s a dir item && is_unmarked s dir item) (provide-same s a b (parent_of s dir) item (same (parent_of s dir) (inl refl)))
    ∙ ap (λ (t : Bool). provide s b (parent_of s dir) item && is_judged s item && t && is_unmarked s dir item) (satisfied s a dir item q at ∙ holds-same s a b q item (λ e edge. same e (inr edge)) ∙ sym (satisfied s b dir item q at))

pub any-agree : (p q : ℕ → Bool) (xs : List ℕ) → ((x : ℕ) → Among xs x → p x ≡ q x) → list_any p xs ≡ list_any q xs
any-agree p q [] same = refl
any-agree p q (x ∷ xs) same = λ i. same x (inl refl) i || any-agree p q xs (λ y inside. same y (inr inside)) i

pub lent-same : (s : State) (a b : ℕ → Bool) (dir item : ℕ) → ((e : ℕ) → Among (lenders s dir) e → a e ≡ b e) → is_lent s a dir item ≡ is_lent s b dir item
lent-same s a b dir item same = any-agree (λ lender. provide s a lender item) (λ lender. provide s b lender item) (lenders s dir) (λ e edge. provide-same s a b e item (same e edge))

-- the links of a semantic directory
abbrev linked_by : State → (ℕ → DirLinks) → ℕ → DirLinks
linked_by s known d = record {
  found = filter (λ item. passes s (column known item) d item) (items s);
  lent = filter (λ item. is_lent s (column known item) d item) (items s);
}

-- a round finds the links of a directory from those on which it depends
round-local : (s : State) (b c : ℕ → DirLinks) (d : ℕ) → ((e : ℕ) → Among (depends s d) e → b e ≡ c e) → round s b d ≡ round s c d
round-local s b c d same =
    elim (query_at s d) as (λ o. query_at s d ≡ o → ((e : ℕ) → Among (option_map_or (λ q. parent_of s d ∷ named_in q ++ lenders s d) o []) e → b e ≡ c e) → cond (is_some o) (linked_by s b d) no_links ≡ cond (is_some o) (linked_by s c d) no_links) [
      | None ↦ (λ at same. refl)
      | Some q ↦ (λ at same. λ i. record {
        found = filter (λ item. passes-same s (column b item) (column c item) d item q at (λ e edge. seen item e (same e (early q e edge))) i) (items s);
        lent = filter (λ item. lent-same s (column b item) (column c item) d item (λ e edge. seen item e (same e (inr (among-right (named_in q) (lenders s d) e edge)))) i) (items s);
      })
    ] refl same
  where
    seen : (item e : ℕ) → b e ≡ c e → column b item e ≡ column c item e
    seen item e even = ap (λ (known : DirLinks). has known.found item || has known.lent item) even

    early : (q : Formula ℕ) (e : ℕ) → Among (parent_of s d ∷ named_in q) e → Among (parent_of s d ∷ named_in q ++ lenders s d) e
    early q e (inl parent) = inl parent
    early q e (inr named) = inr (among-left (named_in q) (lenders s d) e named)

-- and gives none to what is no semantic directory
round-outside : (s : State) (b : ℕ → DirLinks) (d : ℕ) → (Among (semantic_numbers s.entries) d → ⊥) → round s b d ≡ no_links
round-outside s b d outside =
    elim (is_semantic s d) as (λ t. is_semantic s d ≡ t → cond t (linked_by s b d) no_links ≡ no_links) [
      | true ↦ (λ is. absurd (outside (semantic-among s.entries d is)))
      | false ↦ (λ other. refl)
    ] refl

-- a step on, the directory is no longer free
trail-next : (s : State) (free : List ℕ) (d e : ℕ) → Trail s (semantic_numbers s.entries) free d → Among (depends s d) e → Trail s (semantic_numbers s.entries) (without d free) e
trail-next s free d e trail edge v inside =
    elim (eqb d v) as (λ t. eqb d v ≡ t → Among (without d free) v ⊎ ((k : ℕ) × Leads (depends s) (suc k) v e)) [
      | true ↦ (λ same. inr (zero, leads_more (depends s) zero v d e (sym (eqb-true d v same)) edge))
      | false ↦ (λ other. elim (trail v inside) as (λ _. Among (without d free) v ⊎ ((k : ℕ) × Leads (depends s) (suc k) v e)) [
        | inl free_v ↦ inl (Among-without d v free free_v (λ same. let even : eqb d v ≡ true = eq-eqb d v same in absurd cc))
        | inr back ↦ inr (suc back.0, leads_more (depends s) (suc back.0) v d e back.1 edge)
      ])
    ] refl

-- after as many rounds as directories are free, the links of a directory no longer depend on where the rounds began
settled : (s : State) → IsAcyclic s → (k : ℕ) (free : List ℕ) (d : ℕ) (b c : ℕ → DirLinks) → length free ≤ k → Trail s (semantic_numbers s.entries) free d →
    ((v : ℕ) → (Among (semantic_numbers s.entries) v → ⊥) → b v ≡ c v) → iterate k (round s) b d ≡ iterate k (round s) c d
settled s acyclic zero free d b c few trail outside =
    outside d (λ inside. elim (trail d inside) as (λ _. ⊥) [ inl here ↦ nothing free d few here | inr back ↦ acyclic back.0 d back.1 ])
  where
    nothing : (free : List ℕ) (d : ℕ) → length free ≤ 0 → Among free d → ⊥
    nothing [] d few h = h
    nothing (x ∷ xs) d few h = omega arith
settled s acyclic (suc k) free d b c few trail outside =
    round-local s (iterate k (round s) b) (iterate k (round s) c) d (λ e edge.
    let inside = edge-among s d e edge in
    let here : Among free d = elim (trail d inside) as (λ _. Among free d) [ inl here ↦ here | inr back ↦ absurd (acyclic back.0 d back.1) ] in
    settled s acyclic k (without d free) e b c (omega (arith, length-without d free here)) (trail-next s free d e trail edge) outside)

rounds-iterate : (s : State) (k : ℕ) → rounds k s ≡ iterate k (round s) (λ d. no_links)
rounds-iterate s zero = refl
rounds-iterate s (suc k) = ap (round s) (rounds-iterate s k)

-- as many rounds as there are semantic directories lead to one end
settled_all : (s : State) → IsAcyclic s → (b c : ℕ → DirLinks) → ((v : ℕ) → (Among (semantic_numbers s.entries) v → ⊥) → b v ≡ c v) → (d : ℕ) →
    iterate (semantic_count s.entries) (round s) b d ≡ iterate (semantic_count s.entries) (round s) c d
settled_all s acyclic b c outside d =
    settled s acyclic (semantic_count s.entries) (semantic_numbers s.entries) d b c (omega (arith, semantic-length s.entries)) (λ v inside. inl inside) outside

pub links-fixed : (s : State) → IsAcyclic s → round s (links s) ≡ links s
unfolding links
links-fixed s acyclic =
    let n = semantic_count s.entries in
    let start : ℕ → DirLinks = λ d. no_links in
    let same : iterate n (round s) (round s start) ≡ iterate n (round s) start =
    λ i d. settled_all s acyclic (round s start) start (λ v outside. round-outside s start v outside) d i in
    ap (round s) (rounds-iterate s n) ∙ sym (iterate_inside n (round s) start) ∙ same ∙ sym (rounds-iterate s n)

pub links-only : (s : State) → IsAcyclic s → (known : ℕ → DirLinks) → round s known ≡ known → known ≡ links s
unfolding links
links-only s acyclic known fixed =
    let n = semantic_count s.entries in
    let start : ℕ → DirLinks = λ d. no_links in
    let same : iterate n (round s) known ≡ iterate n (round s) start =
    λ i d. settled_all s acyclic known start (λ v outside. (λ j. sym fixed j v) ∙ round-outside s known v outside) d i in
    sym (iterate_fixed n (round s) known fixed) ∙ same ∙ sym (rounds-iterate s n)
