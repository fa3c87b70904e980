-- Which nodes have an edge, behind the first, to a directory, and which have edges.
use Rattle.std.proofs.Common.{◌≡◌, ◌≢◌, ℕ, Bool, true, false, cond, List, [], ◌∷◌, ◌++◌, subst, refl, ap, sym, ◌∙◌, eq-eqb, append_assoc, arith, length, not, inl, inr}
use Rattle.std.specs.Prelude.{◌||◌, ◌==◌, Vec, drop, map, nat_eq}
use Rattle.std.specs.List.{AllByRecursion, IsDistinct, list_any}
use Rattle.std.specs.Map.{keys_of}
use Rattle.std.specs.declared.alloc.Global.{Global}
use Rattle.std.proofs.lemmas.Bool.{eqb-true, ne_eqb}
use Rattle.std.proofs.lemmas.List.{append-nil}
use Rattle.hac_model.specs.Tree.Depends.{Among}
use Rattle.dep_graph.specs.Graphs.{edges_at}
use Rattle.dep_graph.specs.Searches.{EachOnce}

-- some edge behind the first leads to the directory
abbrev pub names : ℕ → List ℕ → Bool
names dir edges = list_any (λ edge. nat_eq edge dir) (drop 1 edges)

-- there are edges
abbrev pub leads : List ℕ → Bool
leads edges = not (length edges == 0)

-- the numbers of the nodes whose edges pass a test
abbrev pub chosen : (List ℕ → Bool) → List (ℕ × List ℕ) → List ℕ
chosen test [] = []
chosen test (node ∷ nodes) = cond (test node.1) (node.0 ∷ chosen test nodes) (chosen test nodes)

abbrev pub numbers_of : List (ℕ × List ℕ) → List ℕ
numbers_of nodes = map (λ node. node.0) nodes

abbrev pub nodes_of : List (ℕ × Vec ℕ Global) → List (ℕ × List ℕ)
nodes_of entries = map (λ node. (node.0, node.1.items)) entries

apart-all : (n : ℕ) (es : List (ℕ × Vec ℕ Global)) → AllByRecursion (λ m. nat_eq n m ≡ false) (keys_of es) → Among (numbers_of (nodes_of es)) n → ⊥
apart-all n [] h never = never
apart-all n (e ∷ es) h (inl same) = let never : false ≡ true = sym h.0 ∙ eq-eqb n e.0 (sym same) in absurd cc
apart-all n (e ∷ es) h (inr there) = apart-all n es h.1 there

pub each-node-once : (es : List (ℕ × Vec ℕ Global)) → IsDistinct nat_eq (keys_of es) → EachOnce (numbers_of (nodes_of es))
unfolding IsDistinct
each-node-once [] h = tt
each-node-once (e ∷ es) h = (λ there. apart-all e.0 es h.0 there, each-node-once es h.1)

pub any-among : (xs : List ℕ) (dir : ℕ) → list_any (λ edge. nat_eq edge dir) xs ≡ true → Among xs dir
any-among [] dir h = absurd cc
any-among (x ∷ xs) dir h = elim (nat_eq x dir) as (λ b. nat_eq x dir ≡ b → (b || list_any (λ edge. nat_eq edge dir) xs) ≡ true → Among (x ∷ xs) dir) [ true ↦ (λ same _. inl (eqb-true x dir same)) | false ↦ (λ _ more. inr (any-among xs dir more)) ] refl h

pub among-any : (xs : List ℕ) (dir : ℕ) → Among xs dir → list_any (λ edge. nat_eq edge dir) xs ≡ true
among-any [] dir h = absurd h
among-any (x ∷ xs) dir (inl same) = ap (λ (b : Bool). b || list_any (λ edge. nat_eq edge dir) xs) (eq-eqb x dir same)
among-any (x ∷ xs) dir (inr there) = elim (nat_eq x dir) as (λ b. (b || list_any (λ edge. nat_eq edge dir) xs) ≡ true) [ true ↦ refl | false ↦ among-any xs dir there ]

pub leads-some : (edges : List ℕ) → leads edges ≡ true → edges ≢ []
leads-some [] h = absurd cc
leads-some (edge ∷ edges) h = λ none. cc

pub some-leads : (edges : List ℕ) → edges ≢ [] → leads edges ≡ true
some-leads [] h = absurd (h refl)
some-leads (edge ∷ edges) h = ap not (ne_eqb (length (edge ∷ edges)) 0 (λ none. omega (arith, none)))

module _ (test : List ℕ → Bool) where
  chosen-in : (nodes : List (ℕ × List ℕ)) (q : ℕ) → Among (chosen test nodes) q → Among (numbers_of nodes) q
  chosen-in [] q h = absurd h
  chosen-in (node ∷ nodes) q h = elim (test node.1) as (λ b. Among (cond b (node.0 ∷ chosen test nodes) (chosen test nodes)) q → Among (numbers_of (node ∷ nodes)) q) [
    | true ↦ (λ there. elim there as (λ _. Among (numbers_of (node ∷ nodes)) q) [ inl same ↦ inl same | inr more ↦ inr (chosen-in nodes q more) ])
    | false ↦ (λ there. inr (chosen-in nodes q there))
  ] h

  pub chosen-once : (nodes : List (ℕ × List ℕ)) → EachOnce (numbers_of nodes) → EachOnce (chosen test nodes)
  chosen-once [] h = tt
  chosen-once (node ∷ nodes) h = elim (test node.1) as (λ b. EachOnce (cond b (node.0 ∷ chosen test nodes) (chosen test nodes))) [
    | true ↦ (λ there. h.0 (chosen-in nodes node.0 there), chosen-once nodes h.1)
    | false ↦ chosen-once nodes h.1
  ]

  pub chosen-to : (nodes : List (ℕ × List ℕ)) (q : ℕ) → EachOnce (numbers_of nodes) → Among (chosen test nodes) q → test (edges_at nodes q) ≡ true
  chosen-to [] q once h = absurd h
  chosen-to (node ∷ nodes) q once h =
      elim (q == node.0) as (λ b. (q == node.0) ≡ b → test (cond b node.1 (edges_at nodes q)) ≡ true) [
        | true ↦ (λ same. here (eqb-true q node.0 same))
        | false ↦ (λ other. chosen-to nodes q once.1 (there other))
      ] refl
    where
      here : q ≡ node.0 → test node.1 ≡ true
      here same = elim (test node.1) as (λ b. test node.1 ≡ b → Among (cond b (node.0 ∷ chosen test nodes) (chosen test nodes)) q → test node.1 ≡ true) [
        | true ↦ (λ is _. is)
        | false ↦ (λ _ more. absurd (once.0 (subst (λ (n : ℕ). Among (numbers_of nodes) n) same (chosen-in nodes q more))))
      ] refl h

      later : (q == node.0) ≡ false → Among (node.0 ∷ chosen test nodes) q → Among (chosen test nodes) q
      later other (inl same) = let never : false ≡ true = sym other ∙ eq-eqb q node.0 (sym same) in absurd cc
      later other (inr more) = more

      there : (q == node.0) ≡ false → Among (chosen test nodes) q
      there other = elim (test node.1) as (λ b. Among (cond b (node.0 ∷ chosen test nodes) (chosen test nodes)) q → Among (chosen test nodes) q) [ true ↦ (λ more. later other more) | false ↦ (λ more. more) ] h

  pub chosen-from : test [] ≡ false → (nodes : List (ℕ × List ℕ)) (q : ℕ) → test (edges_at nodes q) ≡ true → Among (chosen test nodes) q
  chosen-from none [] q h = let never : false ≡ true = sym none ∙ h in absurd cc
  chosen-from none (node ∷ nodes) q h =
      elim (q == node.0) as (λ b. (q == node.0) ≡ b → test (cond b node.1 (edges_at nodes q)) ≡ true → Among (chosen test (node ∷ nodes)) q) [
        | true ↦ (λ same is. subst (λ (b : Bool). Among (cond b (node.0 ∷ chosen test nodes) (chosen test nodes)) q) (sym is) (inl (sym (eqb-true q node.0 same))))
        | false ↦ (λ other is. wider (chosen-from none nodes q is))
      ] refl h
    where
      wider : Among (chosen test nodes) q → Among (chosen test (node ∷ nodes)) q
      wider more = elim (test node.1) as (λ b. Among (cond b (node.0 ∷ chosen test nodes) (chosen test nodes)) q) [ true ↦ inr more | false ↦ more ]

  -- the nodes one after the other
  pub chosen-found : (found new : List ℕ) (e : ℕ × Vec ℕ Global) (before after : List (ℕ × Vec ℕ Global)) (all : List ℕ) → found ++ chosen test (nodes_of before) ≡ all → before ≡ e ∷ after → test e.1.items ≡ true → new ≡ found ++ e.0 ∷ [] → new ++ chosen test (nodes_of after) ≡ all
  chosen-found found new e before after all so_far is named next =
      ap (λ (ns : List ℕ). ns ++ chosen test (nodes_of after)) next
      ∙ append_assoc found (e.0 ∷ []) (chosen test (nodes_of after))
      ∙ ap (λ (b : Bool). found ++ cond b (e.0 ∷ chosen test (nodes_of after)) (chosen test (nodes_of after))) (sym named)
      ∙ ap (λ (es : List (ℕ × Vec ℕ Global)). found ++ chosen test (nodes_of es)) (sym is)
      ∙ so_far

  pub chosen-passed : (found : List ℕ) (e : ℕ × Vec ℕ Global) (before after : List (ℕ × Vec ℕ Global)) (all : List ℕ) → found ++ chosen test (nodes_of before) ≡ all → before ≡ e ∷ after → test e.1.items ≡ false → found ++ chosen test (nodes_of after) ≡ all
  chosen-passed found e before after all so_far is named =
      ap (λ (b : Bool). found ++ cond b (e.0 ∷ chosen test (nodes_of after)) (chosen test (nodes_of after))) (sym named)
      ∙ ap (λ (es : List (ℕ × Vec ℕ Global)). found ++ chosen test (nodes_of es)) (sym is)
      ∙ so_far

  pub chosen-ended : (found : List ℕ) (before : List (ℕ × Vec ℕ Global)) (all : List ℕ) → found ++ chosen test (nodes_of before) ≡ all → before ≡ [] → found ≡ all
  chosen-ended found before all so_far none = sym (append-nil found) ∙ ap (λ (es : List (ℕ × Vec ℕ Global)). found ++ chosen test (nodes_of es)) (sym none) ∙ so_far
