-- The ways on which items are judged again lead to each directory behind those on which it depends.
use Rattle.std.proofs.Common.{◌≡◌, ℕ, zero, suc, ◌+◌, ◌<◌, Bool, true, false, List, [], ◌∷◌, length, get_or, ap, arith, eq-eqb, inl, inr, refl, subst, sym, ◌∙◌}
use Rattle.std.proofs.lemmas.Bool.{eqb-true}
use Rattle.std.proofs.lemmas.List.{map_more}
use Rattle.std.specs.Prelude.{◌&&◌, ◌||◌, ◌==◌, ◌++◌, ◌≢◌, if◌then◌else◌, filter, map, not, take, IfOk, Option, Some, None, Result, Ok, Err, is_some, option_and_then}
use Rattle.std.specs.List.{AllByRecursion, list_any}
use Rattle.std.specs.Option.{option_map, option_map_or}
use Rattle.dep_graph.specs.Searches.{EachOnce, IsCone, IsOrdered}
use Rattle.hac_model.specs.Query.Formula.{Formula}
use Rattle.hac_model.specs.Tree.Depends.{Among, Reaches, depends, named_in}
use Rattle.hac_model.specs.Tree.Links.{has, is_semantic, lenders, parent_of, query_at}
use Rattle.hac_model.specs.Tree.Valid.{IsValid}
use Rattle.hac_model.specs.Tree.{entry_at, is_directory_at, permanent_in, query_in}
use Rattle.hac_model.specs.declared.states.Body.{Body}
use Rattle.hac_model.specs.declared.states.Body.TheVariants.{File, Dir, Symlink, Semantic, Mount, Document}
use Rattle.hac_model.specs.declared.states.Entry.{Entry}
use Rattle.hac_model.specs.declared.memory.Memory.{Memory}
use Rattle.hac_model.specs.declared.states.State.{State}
use Rattle.query_index.specs.Seen.{IsIndexOf}
use Rattle.reeval.specs.Judging.{AreJudged, LeavesAlike, TiesAlike}
use Rattle.reeval.specs.Routes.{Covers, IsRoute, begins_at, dirs_of, ties_at}
use Rattle.reeval.proofs.AlikeLemmas.{touched-leave}
use Rattle.reeval.proofs.JudgeLemmas.{links-judged}
use Rattle.reeval.proofs.PlanLemmas.{begins-more}
use Rattle.reeval.proofs.WeightLemmas.{ordered-once}
use Rattle.reindex.specs.Ways.{IsWayOf, IsWayOver, begun_at, leans, stops_at, stops_from, with_first}
use Rattle.reeval.specs.declared.settling.Stop.{Stop}
use Rattle.reindex.specs.declared.ways.Way.{Way}
use Rattle.hac_model.proofs.AmongLemmas.{among-has}
use Rattle.hac_model.proofs.ChangeLemmas.{and-true}
use Rattle.link_kinds.proofs.KeptLemmas.{none-there}

-- what has edges isn't without
some-edges : (edges : List ℕ) (n : ℕ) → Among edges n → edges ≢ []
some-edges [] n h = absurd h
some-edges (edge ∷ edges) n h = λ none. absurd cc

-- Stops.

pub dirs-at : (begins leans : ℕ → Bool) (dirs : List ℕ) → dirs_of (stops_at begins leans dirs) ≡ dirs
dirs-at begins leans [] = refl
dirs-at begins leans (dir ∷ dirs) = ap (λ (more : List ℕ). dir ∷ more) (dirs-at begins leans dirs)

-- where judging begins is put anew
pub begun-stops : (begins other leans : ℕ → Bool) (dirs : List ℕ) → begun_at begins (stops_at other leans dirs) ≡ stops_at begins leans dirs
begun-stops begins other leans [] = refl
begun-stops begins other leans (dir ∷ dirs) = ap (λ (more : List Stop). record { dir = dir; begins = begins dir; ties = false; leans = leans dir } ∷ more) (begun-stops begins other leans dirs)

begins-at : (begins leans : ℕ → Bool) (dirs : List ℕ) (dir : ℕ) → begins_at (stops_at begins leans dirs) dir ≡ (has dirs dir && begins dir)
begins-at begins leans [] dir = refl
begins-at begins leans (first ∷ dirs) dir =
    ap (λ (b : Bool). (first == dir && begins first) || b) (begins-at begins leans dirs dir)
    ∙ (elim (first == dir) as (λ b. (first == dir) ≡ b → ((b && begins first) || (has dirs dir && begins dir)) ≡ ((b || has dirs dir) && begins dir)) [
      | true ↦ (λ same. ap (λ (n : ℕ). begins n || (has dirs dir && begins dir)) (eqb-true first dir same) ∙ absorbed (begins dir) (has dirs dir))
      | false ↦ (λ _. refl)
    ] refl)
  where
    absorbed : (a b : Bool) → (a || (b && a)) ≡ a
    absorbed true b = refl
    absorbed false true = refl
    absorbed false false = refl

-- none of these stops ties
pub ties-none : (begins leans : ℕ → Bool) (dirs : List ℕ) (dir : ℕ) → ties_at (stops_at begins leans dirs) dir ≡ false
ties-none begins leans [] dir = refl
ties-none begins leans (first ∷ dirs) dir = at (first == dir) (ties-none begins leans dirs dir)
  where
    at : (b : Bool) → ties_at (stops_at begins leans dirs) dir ≡ false → ((b && false) || ties_at (stops_at begins leans dirs) dir) ≡ false
    at true rest = rest
    at false rest = rest

-- so nothing has to be known of those that do
pub nothing-tied : (s t : State) (begins leans : ℕ → Bool) (dirs : List ℕ) (item dir : ℕ) → ties_at (stops_at begins leans dirs) dir ≡ true →
    TiesAlike s t (begins_at (stops_at begins leans dirs)) item dir
nothing-tied s t begins leans dirs item dir is = let none = ties-none begins leans dirs dir in absurd cc

-- what doesn't lean on others depends on none of them
abbrev pub LeansWell : (ℕ → List ℕ) → (ℕ → Bool) → List ℕ → Type 0
LeansWell edges leans dirs = (dir : ℕ) → leans dir ≡ false → (e : ℕ) → Among (edges dir) e → ¬ Among dirs e

alone-at : (edges : ℕ → List ℕ) (begins leans : ℕ → Bool) (all dirs : List ℕ) → LeansWell edges leans all → AllByRecursion (λ stop. stop.leans ≡ false → (e : ℕ) → Among (edges stop.dir) e → ¬ Among all e) (stops_at begins leans dirs)
alone-at edges begins leans all [] well = tt
alone-at edges begins leans all (dir ∷ dirs) well = (well dir, alone-at edges begins leans all dirs well)

-- the way to all directories that depend on something
route-at : (edges : ℕ → List ℕ) (begins leans : ℕ → Bool) (dirs : List ℕ) → IsOrdered edges dirs → ((q : ℕ) → edges q ≢ [] → Among dirs q) → LeansWell edges leans dirs → IsRoute edges (stops_at begins leans dirs)
route-at edges begins leans dirs ordered all well = record {
  ordered = subst (IsOrdered edges) (sym (dirs-at begins leans dirs)) ordered;
  closed = λ dir e edge _. subst (λ (numbers : List ℕ). Among numbers dir) (sym (dirs-at begins leans dirs)) (all dir (some-edges (edges dir) e edge));
  alone = subst (λ (numbers : List ℕ). AllByRecursion (λ stop. stop.leans ≡ false → (e : ℕ) → Among (edges stop.dir) e → ¬ Among numbers e) (stops_at begins leans dirs)) (sym (dirs-at begins leans dirs)) (alone-at edges begins leans dirs dirs well);
}

-- Everywhere.

-- what has no edges isn't semantic
pub unasked : (t : State) (dir : ℕ) → (depends t dir ≢ [] → ⊥) → is_semantic t dir ≡ false
unasked t dir none = elim (query_at t dir) as (λ o. (option_map_or (λ (query : Formula ℕ). parent_of t dir ∷ (named_in query ++ lenders t dir)) o [] ≢ [] → ⊥) → is_some o ≡ false) [
  | None ↦ (λ _. refl)
  | Some query ↦ (λ none. absurd (none (λ same. absurd cc)))
] none

-- and what is semantic has some
pub semantic-depends : (s : State) (dir : ℕ) → is_semantic s dir ≡ true → depends s dir ≢ []
semantic-depends s dir = elim (query_at s dir) as (λ o. is_some o ≡ true → option_map_or (λ (query : Formula ℕ). parent_of s dir ∷ (named_in query ++ lenders s dir)) o [] ≢ []) [
  | None ↦ (λ never. absurd cc)
  | Some query ↦ (λ _ none. absurd cc)
]

pub covers-everywhere : (s t : State) (leans : ℕ → Bool) (dirs : List ℕ) (item : ℕ) → AreJudged s item → IsValid t → IsOrdered (depends t) dirs → ((q : ℕ) → depends t q ≢ [] → Among dirs q) →
    LeansWell (depends t) leans dirs → ((dir : ℕ) → is_semantic t dir ≡ false → is_semantic s dir ≡ false) → Covers s t (stops_at (λ dir. true) leans dirs) item
covers-everywhere s t leans dirs item before after ordered all well plains = record {
  before = before;
  after = after;
  route = route-at (depends t) (λ dir. true) leans dirs ordered all well;
  alike = begins-more s t item (λ dir. is_semantic s dir || is_semantic t dir) (begins_at (stops_at (λ dir. true) leans dirs)) within (touched-leave s t item);
  tied = nothing-tied s t (λ dir. true) leans dirs item;
}
  where
    within : (dir : ℕ) → begins_at (stops_at (λ dir. true) leans dirs) dir ≡ false → (is_semantic s dir || is_semantic t dir) ≡ false
    within dir out =
        let absent : has dirs dir ≡ false = sym (and-true (has dirs dir)) ∙ sym (begins-at (λ dir. true) leans dirs dir) ∙ out in
        let plain : is_semantic t dir ≡ false = unasked t dir (λ some. let inside = among-has dirs dir (all dir some) in absurd cc) in
        (λ i. plains dir plain i || plain i)

-- Where judging begins at some directories, all of them on the way.

pub covers-at : (s t : State) (begins leans : ℕ → Bool) (dirs : List ℕ) (item : ℕ) → AreJudged s item → IsValid t → IsOrdered (depends t) dirs → ((q : ℕ) → depends t q ≢ [] → Among dirs q) →
    LeansWell (depends t) leans dirs → ((dir : ℕ) → begins dir ≡ true → depends t dir ≢ []) → LeavesAlike s t begins item → Covers s t (stops_at begins leans dirs) item
covers-at s t begins leans dirs item before after ordered all well asked alike = record {
  before = before;
  after = after;
  route = route-at (depends t) begins leans dirs ordered all well;
  alike = begins-more s t item begins (begins_at (stops_at begins leans dirs)) within alike;
  tied = nothing-tied s t begins leans dirs item;
}
  where
    within : (dir : ℕ) → begins_at (stops_at begins leans dirs) dir ≡ false → begins dir ≡ false
    within dir out = elim (begins dir) as (λ b. begins dir ≡ b → b ≡ false) [
      | true ↦ (λ is. let inside : has dirs dir ≡ true = among-has dirs dir (all dir (asked dir is)) in
          let never : begins_at (stops_at begins leans dirs) dir ≡ true = begins-at begins leans dirs dir ∙ (λ i. inside i && is i) in
          absurd cc)
      | false ↦ (λ _. refl)
    ] refl

-- From one directory on.

dirs-from : (first : ℕ) (ties : Bool) (dirs : List ℕ) → dirs_of (stops_from first ties dirs) ≡ dirs
dirs-from first ties [] = refl
dirs-from first ties (dir ∷ dirs) = ap (λ (more : List ℕ). dir ∷ more) (dirs-from first ties dirs)

-- judging begins as if none tied
begins-from : (first : ℕ) (ties : Bool) (dirs : List ℕ) (dir : ℕ) → begins_at (stops_from first ties dirs) dir ≡ begins_at (stops_at (λ dir. dir == first) (λ dir. true) dirs) dir
begins-from first ties [] dir = refl
begins-from first ties (one ∷ dirs) dir = ap (λ (b : Bool). (one == dir && one == first) || b) (begins-from first ties dirs dir)

-- the first alone ties
ties-from : (first : ℕ) (ties : Bool) (dirs : List ℕ) (dir : ℕ) → ties_at (stops_from first ties dirs) dir ≡ true → (ties ≡ true) × (dir ≡ first)
ties-from first ties [] dir is = absurd cc
ties-from first ties (one ∷ dirs) dir is = at (ties-from first ties dirs dir) (one == dir) ties (one == first) refl refl refl is
  where
    at : (ties_at (stops_from first ties dirs) dir ≡ true → (ties ≡ true) × (dir ≡ first)) → (a b c : Bool) → (one == dir) ≡ a → ties ≡ b → (one == first) ≡ c →
        ((a && (b && c)) || ties_at (stops_from first ties dirs) dir) ≡ true → (ties ≡ true) × (dir ≡ first)
    at more true true true here does same is = (does, sym (eqb-true one dir here) ∙ eqb-true one first same)
    at more true true false here does same is = more is
    at more true false c here does same is = more is
    at more false b c here does same is = more is

alone-from : (edges : ℕ → List ℕ) (first : ℕ) (ties : Bool) (all dirs : List ℕ) → AllByRecursion (λ stop. stop.leans ≡ false → (e : ℕ) → Among (edges stop.dir) e → ¬ Among all e) (stops_from first ties dirs)
alone-from edges first ties all [] = tt
alone-from edges first ties all (dir ∷ dirs) = (λ never. absurd cc, alone-from edges first ties all dirs)

-- fewer directories at which judging begins are among more
ties-more : (s t : State) (item dir : ℕ) (fewer more : ℕ → Bool) → ((dir : ℕ) → more dir ≡ false → fewer dir ≡ false) → TiesAlike s t fewer item dir → TiesAlike s t more item dir
ties-more s t item dir fewer more within alike = record { finds = alike.finds; provides = λ e edge away. alike.provides e edge (within e away) }

module _ (edges : ℕ → List ℕ) (first : ℕ) (cone : List ℕ) (h : IsCone edges (first ∷ []) cone) where
  abbrev pub dirs : List ℕ
  dirs = with_first first cone

  -- what isn't in its own cone has no edges
  alone : has cone first ≡ false → edges first ≢ [] → ⊥
  alone out some = let inside = among-has cone first (h.all first some (first, inl refl, (zero, refl))) in absurd cc

  pub first-there : has dirs first ≡ true
  first-there = elim (has cone first) as (λ b. has cone first ≡ b → has (if b then cone else first ∷ cone) first ≡ true) [
    | true ↦ (λ is. is)
    | false ↦ (λ _. ap (λ (b : Bool). b || has cone first) (eq-eqb first first refl))
  ] refl

  inside : (dir : ℕ) → Among cone dir → Among dirs dir
  inside dir is = elim (has cone first) as (λ b. Among (if b then cone else first ∷ cone) dir) [ true ↦ is | false ↦ inr is ]

  -- what is there reaches the first
  reaches-first : (dir : ℕ) → Among dirs dir → Reaches edges dir first
  reaches-first dir is = elim (has cone first) as (λ b. Among (if b then cone else first ∷ cone) dir → Reaches edges dir first) [
    | true ↦ (λ is. from-cone is)
    | false ↦ (λ is. elim is as (λ _. Reaches edges dir first) [ inl same ↦ (zero, sym same) | inr more ↦ from-cone more ])
  ] is
    where
      from-cone : Among cone dir → Reaches edges dir first
      from-cone is = let way = (h.reached dir is).1 in elim way.1 as (λ _. Reaches edges dir first) [ inl same ↦ subst (Reaches edges dir) (sym same) way.2 | inr never ↦ absurd never ]

  ordered : IsOrdered edges dirs
  ordered = elim (has cone first) as (λ b. has cone first ≡ b → IsOrdered edges (if b then cone else first ∷ cone)) [
    | true ↦ (λ _. h.ordered)
    | false ↦ (λ out. (λ is. let there = among-has cone first is in absurd cc, (λ next edge _. alone out (some-edges (edges first) next edge)), h.ordered))
  ] refl

  -- each directory comes once
  pub once-from : EachOnce dirs
  once-from = ordered-once edges dirs ordered

  pub route-from : (ties : Bool) → IsRoute edges (stops_from first ties dirs)
  route-from ties = record {
    ordered = subst (IsOrdered edges) (sym (dirs-from first ties dirs)) ordered;
    closed = λ dir e edge is.
        let way = reaches-first e (subst (λ (numbers : List ℕ). Among numbers e) (dirs-from first ties dirs) is) in
        subst (λ (numbers : List ℕ). Among numbers dir) (sym (dirs-from first ties dirs))
        (inside dir (h.all dir (some-edges (edges dir) e edge) (first, inl refl, (suc way.0, (e, edge, way.1)))));
    alone = alone-from edges first ties (dirs_of (stops_from first ties dirs)) dirs;
  }

-- an item is judged where judging begins at the first, also by what is lent to it alone, if the event says that of it
pub covers-from : (s t : State) (first : ℕ) (ties : Bool) (cone : List ℕ) (begins : ℕ → Bool) → IsValid s → IsValid t → IsCone (depends t) (first ∷ []) cone →
    ((dir : ℕ) → begins dir ≡ (dir == first)) → (item : ℕ) → LeavesAlike s t begins item → (ties ≡ true → TiesAlike s t begins item first) → Covers s t (stops_from first ties (with_first first cone)) item
covers-from s t first ties cone begins before after h is item alike tied = record {
  before = links-judged s before item;
  after = after;
  route = route-from (depends t) first cone h ties;
  alike = begins-more s t item begins begun within alike;
  tied = λ dir does.
      let at = ties-from first ties (with_first first cone) dir does in
      subst (λ (n : ℕ). TiesAlike s t begun item n) (sym at.1) (ties-more s t item first begins begun within (tied at.0));
}
  where
    begun : ℕ → Bool
    begun = begins_at (stops_from first ties (with_first first cone))

    within : (dir : ℕ) → begins_at (stops_from first ties (with_first first cone)) dir ≡ false → begins dir ≡ false
    within dir out = is dir ∙ (elim (dir == first) as (λ b. (dir == first) ≡ b → b ≡ false) [
      | true ↦ (λ same.
          let there : has (with_first first cone) dir ≡ true = ap (has (with_first first cone)) (eqb-true dir first same) ∙ first-there (depends t) first cone h in
          let here : begins_at (stops_from first ties (with_first first cone)) dir ≡ true =
          begins-from first ties (with_first first cone) dir ∙ begins-at (λ d. d == first) (λ d. true) (with_first first cone) dir ∙ (λ i. there i && same i) in
          absurd cc)
      | false ↦ (λ _. refl)
    ] refl)

-- The queries of directories, with that of the next.
pub queries-more : (s : State) (dirs : List ℕ) (i dir : ℕ) (query : Option (Formula ℕ)) → i < length dirs → dir ≡ get_or dirs i dir → query ≡ query_at s dir → map (query_at s) (take i dirs) ++ query ∷ [] ≡ map (query_at s) (take (i + 1) dirs)
queries-more s dirs i dir query less is asks =
    ap (λ (o : Option (Formula ℕ)). map (query_at s) (take i dirs) ++ o ∷ []) (asks ∙ ap (query_at s) is)
    ∙ sym (map_more (query_at s) dirs i dir less)

-- All that is on the way.

-- what isn't semantic has no directories that were added
pub plain-lends : (s : State) (n : ℕ) → query_at s n ≡ None → lenders s n ≡ []
plain-lends s n none = ap (filter (is_directory_at s.entries)) (at (entry_at s.entries n) none)
  where
    body : (b : Body) → query_in b ≡ None → permanent_in b ≡ []
    body (Semantic asked permanent prohibited) none = absurd cc
    body (Mount space kept) none = refl
    body (File text dirty shown) none = refl
    body Dir none = refl
    body (Symlink target) none = refl
    body Document none = refl

    at : (o : Option Entry) → option_and_then query_in (option_map (λ (e : Entry). e.body) o) ≡ None → option_map_or permanent_in (option_map (λ (e : Entry). e.body) o) [] ≡ []
    at None none = refl
    at (Some e) none = body e.body none

-- just what is semantic depends on something
pub depends-semantic : (s : State) (dir : ℕ) → depends s dir ≢ [] → is_semantic s dir ≡ true
depends-semantic s dir = elim (query_at s dir) as (λ o. option_map_or (λ (query : Formula ℕ). parent_of s dir ∷ (named_in query ++ lenders s dir)) o [] ≢ [] → is_some o ≡ true) [
  | None ↦ (λ some. absurd (some refl))
  | Some query ↦ (λ _. refl)
]

-- what none of the numbers passes, each of them fails
pub any-none : (p : ℕ → Bool) (ns : List ℕ) → list_any p ns ≡ false → (n : ℕ) → Among ns n → p n ≡ false
any-none p [] none n among = absurd among
any-none p (k ∷ ns) none n (inl same) = subst (λ (m : ℕ). p m ≡ false) same (first (p k) (list_any p ns) none)
  where
    first : (a b : Bool) → (a || b) ≡ false → a ≡ false
    first true b h = h
    first false b h = refl
any-none p (k ∷ ns) none n (inr more) = any-none p ns (second (p k) (list_any p ns) none) n more
  where
    second : (a b : Bool) → (a || b) ≡ false → b ≡ false
    second true b h = absurd cc
    second false b h = h

no-numbers : (ns : List ℕ) → not (length ns == 0) ≡ false → ns ≡ []
no-numbers ns h = empty ns (eqb-true (length ns) 0 (is (length ns == 0) h))
  where
    is : (b : Bool) → not b ≡ false → b ≡ true
    is true h = refl
    is false h = sym h

    empty : (ns : List ℕ) → length ns ≡ 0 → ns ≡ []
    empty [] h = refl
    empty (n ∷ ns) h = absurd (omega (arith, h))

-- a way over all directories that depend on something is that to all semantic ones
pub way-over : (t : State) (order : List ℕ) (way : Way) → IsWayOver t order way → IsOrdered (depends t) order → ((dir : ℕ) → depends t dir ≢ [] → Among order dir) → ((dir : ℕ) → Among order dir → depends t dir ≢ []) → IsWayOf t way
way-over t order way over ordered all only = record {
  order = order;
  ordered = ordered;
  all = all;
  only = only;
  over = over;
}

-- where the way says that no directory was added to any of its own, none was added to any at all
pub lends-none : (s : State) (way : Way) → IsWayOf s way → way.lends ≡ false → (dir : ℕ) → lenders s dir ≡ []
lends-none s way w not_any dir = at (is_semantic s dir) refl
  where
    at : (b : Bool) → is_semantic s dir ≡ b → lenders s dir ≡ []
    at true is = no-numbers (lenders s dir) (any-none (λ (d : ℕ). not (length (lenders s d) == 0)) w.order (sym w.over.lends ∙ not_any) dir (w.all dir (semantic-depends s dir is)))
    at false out = plain-lends s dir (none-there (query_at s dir) out)

pub way-if : (result : Result Way Memory) (s t : State) (order : List ℕ) → t ≡ s → IsOrdered (depends s) order → ((dir : ℕ) → depends s dir ≢ [] → Among order dir) → ((dir : ℕ) → Among order dir → depends s dir ≢ []) →
    IfOk result (IsWayOver t order) → IfOk result (IsWayOf s)
way-if (Ok way) s t order same behind all only over = way-over s order way (subst (λ (u : State). IsWayOver u order way) same over) behind all only
way-if (Err memory) s t order same behind all only over = tt

-- on the way to all semantic directories, what doesn't lean on any depends on none of them, also in a state with the same edges
pub leans-well : (s t : State) (way : Way) (w : IsWayOf s way) → ((dir : ℕ) → depends t dir ≡ depends s dir) → LeansWell (depends t) (leans s) w.order
leans-well s t way w same dir out e edge inside =
    let asked : is_semantic s e ≡ true = depends-semantic s e (w.only e inside) in
    let plain : is_semantic s e ≡ false = any-none (is_semantic s) (depends s dir) out e (subst (λ (ns : List ℕ). Among ns e) (same dir) edge) in
    let never : true ≡ false = sym asked ∙ plain in
    absurd cc

-- its stops, where judging begins elsewhere
pub begun-way : (s : State) (way : Way) (w : IsWayOf s way) (begins : ℕ → Bool) → begun_at begins way.stops.items ≡ stops_at begins (leans s) w.order
begun-way s way w begins = ap (begun_at begins) w.over.stops ∙ begun-stops begins (λ dir. true) (leans s) w.order

-- and its directories
pub dirs-way : (s : State) (way : Way) (w : IsWayOf s way) → dirs_of way.stops.items ≡ w.order
dirs-way s way w = ap dirs_of w.over.stops ∙ dirs-at (λ dir. true) (leans s) w.order

-- its queries are those of the directories at its stops
pub index-way : (s : State) (way : Way) → IsWayOf s way → IsIndexOf (map (query_at s) (dirs_of way.stops.items)) way.index
index-way s way w = subst (λ (dirs : List ℕ). IsIndexOf (map (query_at s) dirs) way.index) (sym (dirs-way s way w)) w.over.index
