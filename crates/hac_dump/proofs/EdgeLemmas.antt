-- What has been made depends on no more than it does in the whole tree, so nothing that comes on the way is a cycle.
use Rattle.std.proofs.Common.{◌≡◌, ◌⊎◌, ℕ, zero, suc, ◌≤◌, Bool, true, false, cond, List, [], ◌∷◌, ◌++◌, map, subst, refl, ap, sym, ◌∙◌, arith, inl, inr}
use Rattle.std.specs.Prelude.{filter, Option, Some, None}
use Rattle.std.specs.List.{AllByRecursion}
use Rattle.hac_model.specs.Query.Formula.{Formula}
use Rattle.hac_model.specs.Query.Formula as query
use Rattle.hac_model.specs.Query.QueryText.{referred_by}
use Rattle.hac_model.specs.Tree.Depends.{Among, Leads, depends, first_reaching, named_in, reaches}
use Rattle.hac_model.specs.Tree.Facts.{edges_to, facts_at}
use Rattle.hac_model.specs.Tree.{entry_at, is_directory_at, permanent_in, query_in}
use Rattle.hac_model.specs.Tree.Valid.{IsValid}
use Rattle.hac_model.specs.declared.states.Body.{Body}
use Rattle.hac_model.specs.declared.states.Entry.{Entry}
use Rattle.hac_model.specs.declared.states.Session.{Session}
use Rattle.hac_model.specs.declared.states.State.{State}
use Rattle.hac_model.proofs.AcyclicLemmas.{edge-directory}
use Rattle.hac_model.proofs.AmongLemmas.{among-append, among-left, among-right}
use Rattle.hac_model.proofs.CycleLemmas.{reaches-walk}
use Rattle.hac_model.proofs.FactLemmas.{edges-told}
use Rattle.hac_model.proofs.TreeLemmas.{Lives, directory-lives}
use Rattle.hac_dump.proofs.EditLemmas.{counted-one}
use Rattle.hac_dump.proofs.PartLemmas.{IsPart, IsStage, Stages, counted-bounds, made-directory, made-there, moved, moved-back, part, stages-all}

-- what has come of a body asks for no more than it, under new numbers
pub record IsAsking (ρ : ℕ → ℕ) (made body : Body) : Type 0 where
  pub query : (asked : Formula ℕ) → query_in made ≡ Some asked → (q : Formula ℕ) × (query_in body ≡ Some q) × (asked ≡ referred_by ρ q)
  pub added : (m : ℕ) → Among (permanent_in made) m → (k : ℕ) × (m ≡ ρ k) × Among (permanent_in body) k

pub among-map : (ρ : ℕ → ℕ) (ns : List ℕ) (m : ℕ) → Among (map ρ ns) m → (k : ℕ) × (m ≡ ρ k) × Among ns k
among-map ρ [] m h = absurd h
among-map ρ (n ∷ ns) m (inl same) = (n, sym same, inl refl)
among-map ρ (n ∷ ns) m (inr later) = let rest = among-map ρ ns m later in (rest.0, rest.1, inr rest.2)

map-append : (ρ : ℕ → ℕ) (xs ys : List ℕ) → map ρ (xs ++ ys) ≡ map ρ xs ++ map ρ ys
map-append ρ [] ys = refl
map-append ρ (x ∷ xs) ys = ap (λ (l : List ℕ). ρ x ∷ l) (map-append ρ xs ys)

-- the directories that a renamed query names
pub named-referred : (ρ : ℕ → ℕ) (q : Formula ℕ) → named_in (referred_by ρ q) ≡ map ρ (named_in q)
named-referred ρ (query.Term term) = refl
named-referred ρ (query.Dir dir) = refl
named-referred ρ (query.Not q) = named-referred ρ q
named-referred ρ (query.And left right) = (λ i. named-referred ρ left i ++ named-referred ρ right i) ∙ sym (map-append ρ (named_in left) (named_in right))
named-referred ρ (query.Or left right) = (λ i. named-referred ρ left i ++ named-referred ρ right i) ∙ sym (map-append ρ (named_in left) (named_in right))

among-filter : (p : ℕ → Bool) (ns : List ℕ) (m : ℕ) → Among (filter p ns) m → (p m ≡ true) × Among ns m
among-filter p [] m h = absurd h
among-filter p (n ∷ ns) m h = elim (p n) as (λ b. p n ≡ b → Among (cond b (n ∷ filter p ns) (filter p ns)) m → (p m ≡ true) × Among (n ∷ ns) m) [
  | true ↦ (λ passes h. first passes h (λ later. among-filter p ns m later))
  | false ↦ (λ fails h. let rest = among-filter p ns m h in (rest.0, inr rest.1))
] refl h
  where
    first : p n ≡ true → (n ≡ m) ⊎ Among (filter p ns) m → (Among (filter p ns) m → (p m ≡ true) × Among ns m) → (p m ≡ true) × Among (n ∷ ns) m
    first passes (inl same) on = (ap p (sym same) ∙ passes, inl same)
    first passes (inr later) on = let rest = on later in (rest.0, inr rest.1)

pub filter-among : (p : ℕ → Bool) (ns : List ℕ) (m : ℕ) → p m ≡ true → Among ns m → Among (filter p ns) m
filter-among p [] m passes h = h
filter-among p (n ∷ ns) m passes (inl same) = subst (λ (b : Bool). Among (cond b (n ∷ filter p ns) (filter p ns)) m) (sym (ap p same ∙ passes)) (inl same)
filter-among p (n ∷ ns) m passes (inr later) = elim (p n) as (λ b. Among (cond b (n ∷ filter p ns) (filter p ns)) m) [
  | true ↦ inr (filter-among p ns m passes later)
  | false ↦ filter-among p ns m passes later
]

module _ (s : State) (ρ : ℕ → ℕ) (stage : Entry → Body) (sessions : List Session) (es : List Entry) (h : IsValid s) (stages : Stages s stage) (asking : (e : Entry) → entry_at s.entries e.number ≡ Some e → IsAsking ρ (stage e) e.body) (p : IsPart s ρ es) (complete : (n : ℕ) → Lives s.entries n → Lives es n)
    (kept : (e : Entry) (k : ℕ) → entry_at s.entries e.number ≡ Some e → Among (permanent_in e.body) k → Lives s.entries k) where
  abbrev u : State
  u = part ρ stage sessions es

  fits : AllByRecursion (λ e. IsStage (stage e) e.body) es
  fits = stages-all s stage es stages p.from

  pub lives-one : (m n : ℕ) → Lives es m → Lives es n → ρ m ≡ ρ n → m ≡ n
  lives-one m n (inl root) (inl other) same = root ∙ sym other
  lives-one m n (inl root) (inr (e, found)) same = let low = (counted-bounds ρ 1 es n e p.counted found).0 in let zero_ : ρ m ≡ 0 = ap ρ root ∙ p.root in let low' : 1 ≤ ρ n = low in absurd (omega (arith, low', zero_, same))
  lives-one m n (inr (e, found)) (inl root) same = let low = (counted-bounds ρ 1 es m e p.counted found).0 in let zero_ : ρ n ≡ 0 = ap ρ root ∙ p.root in let low' : 1 ≤ ρ m = low in absurd (omega (arith, low', zero_, same))
  lives-one m n (inr (e, found)) (inr (f, other)) same = counted-one ρ 1 es m n e f p.counted found other same

  -- each edge is one of the whole tree
  edge-back : (n x : ℕ) → Lives es n → Among (depends u (ρ n)) x → (k : ℕ) × (x ≡ ρ k) × Among (depends s n) k
  edge-back n x lives edge = at (entry_at u.entries (ρ n)) refl (subst (λ (l : List ℕ). Among l x) (edges-told u (ρ n)) edge)
    where
      at : (o : Option Entry) → entry_at u.entries (ρ n) ≡ o → Among (facts_at (is_directory_at u.entries) o).edges x → (k : ℕ) × (x ≡ ρ k) × Among (depends s n) k
      at None found inside = absurd inside
      at (Some f) found inside =
          let b = moved-back ρ stage 1 es (ρ n) f p.counted found in
          let e = b.0 in
          let here : entry_at s.entries e.number ≡ Some e = made-there s ρ stage sessions es h.layout p fits e.number e b.1 in
          let same : e.number ≡ n = lives-one e.number n (inr (e, b.1)) lives b.2 in
          let there : entry_at s.entries n ≡ Some e = ap (entry_at s.entries) (sym same) ∙ here in
          let inside' : Among (facts_at (is_directory_at u.entries) (Some (moved ρ stage e))).edges x = subst (λ (g : Entry). Among (facts_at (is_directory_at u.entries) (Some g)).edges x) b.3 inside in
          let known = asking e here in
          let back = by e (query_in (stage e)) refl inside' known here in
          (back.0, back.1, subst (λ (l : List ℕ). Among l back.0) (sym (edges-told s n ∙ ap (λ (o : Option Entry). (facts_at (is_directory_at s.entries) o).edges) there)) back.2)
        where
          by : (e : Entry) (o : Option (Formula ℕ)) → query_in (stage e) ≡ o → Among (edges_to (is_directory_at u.entries) (ρ e.parent) o (permanent_in (stage e))) x → IsAsking ρ (stage e) e.body → entry_at s.entries e.number ≡ Some e
              → (k : ℕ) × (x ≡ ρ k) × Among (edges_to (is_directory_at s.entries) e.parent (query_in e.body) (permanent_in e.body)) k
          by e None is inside known here = absurd inside
          by e (Some asked) is inside known here =
              let q = known.query asked is in
              let found = places inside in
              (found.0, found.1, subst (λ (o : Option (Formula ℕ)). Among (edges_to (is_directory_at s.entries) e.parent o (permanent_in e.body)) found.0) (sym q.1) found.2)
            where
              q' : (q : Formula ℕ) × (query_in e.body ≡ Some q) × (asked ≡ referred_by ρ q)
              q' = known.query asked is

              behind : Among (named_in asked ++ filter (is_directory_at u.entries) (permanent_in (stage e))) x → (k : ℕ) × (x ≡ ρ k) × Among (e.parent ∷ named_in q'.0 ++ filter (is_directory_at s.entries) (permanent_in e.body)) k
              behind inside = split (among-append (named_in asked) (filter (is_directory_at u.entries) (permanent_in (stage e))) x inside)
                where
                  split : Among (named_in asked) x ⊎ Among (filter (is_directory_at u.entries) (permanent_in (stage e))) x → (k : ℕ) × (x ≡ ρ k) × Among (e.parent ∷ named_in q'.0 ++ filter (is_directory_at s.entries) (permanent_in e.body)) k
                  split (inl named) =
                      let back = among-map ρ (named_in q'.0) x (subst (λ (l : List ℕ). Among l x) (ap (λ (f : Formula ℕ). named_in f) q'.2 ∙ named-referred ρ q'.0) named) in
                      (back.0, back.1, inr (among-left (named_in q'.0) (filter (is_directory_at s.entries) (permanent_in e.body)) back.0 back.2))
                  split (inr lent) =
                      let parts = among-filter (is_directory_at u.entries) (permanent_in (stage e)) x lent in
                      let back = known.added x parts.1 in
                      let live : Lives es back.0 = complete back.0 (kept e back.0 here back.2) in
                      let dir : is_directory_at s.entries back.0 ≡ true = sym (made-directory s ρ stage sessions es h.layout p fits back.0 live) ∙ ap (is_directory_at u.entries) (sym back.1) ∙ parts.0 in
                      (back.0, back.1, inr (among-right (named_in q'.0) (filter (is_directory_at s.entries) (permanent_in e.body)) back.0 (filter-among (is_directory_at s.entries) (permanent_in e.body) back.0 dir back.2)))

              places : (ρ e.parent ≡ x) ⊎ Among (named_in asked ++ filter (is_directory_at u.entries) (permanent_in (stage e))) x → (k : ℕ) × (x ≡ ρ k) × Among (e.parent ∷ named_in q'.0 ++ filter (is_directory_at s.entries) (permanent_in e.body)) k
              places (inl same) = (e.parent, sym same, inl refl)
              places (inr later) = behind later

  -- so each walk is
  walk-back : (steps n to : ℕ) → Lives es n → Lives es to → Leads (depends u) steps (ρ n) (ρ to) → Leads (depends s) steps n to
  walk-back zero n to lives there same = lives-one n to lives there same
  walk-back (suc steps) n to lives there (next, edge, more) =
      let back = edge-back n next lives edge in
      let on : Lives es back.0 = complete back.0 (directory-lives s.entries back.0 (edge-directory s n back.0 h back.2)) in
      (back.0, back.2, walk-back steps back.0 to on there (subst (λ (m : ℕ). Leads (depends u) steps m (ρ to)) back.1 more))

  -- what a directory depends on doesn't reach it
  pub reaches-none : (n k : ℕ) → Lives es n → Among (depends s n) k → reaches u (ρ k) (ρ n) ≡ false
  reaches-none n k lives edge = at (reaches u (ρ k) (ρ n)) refl
    where
      at : (b : Bool) → reaches u (ρ k) (ρ n) ≡ b → b ≡ false
      at false is = refl
      at true is =
          let walk = reaches-walk u (ρ k) (ρ n) is in
          let live : Lives es k = complete k (directory-lives s.entries k (edge-directory s n k h edge)) in
          absurd (h.acyclic walk.0 n (k, edge, walk-back walk.0 k n live lives walk.1))

  pub first-none : (n : ℕ) (ks : List ℕ) → Lives es n → ((k : ℕ) → Among ks k → Among (depends s n) k) → first_reaching u (ρ n) (map ρ ks) ≡ None
  unfolding first_reaching
  first-none n [] lives inside = refl
  first-none n (k ∷ ks) lives inside =
      ap (λ (b : Bool). cond b (Some (ρ k)) (first_reaching u (ρ n) (map ρ ks))) (reaches-none n k lives (inside k (inl refl)))
      ∙ first-none n ks lives (λ j later. inside j (inr later))
