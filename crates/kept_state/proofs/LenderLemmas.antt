-- The directories that users added to a directory, as they stand among its edges.
use Rattle.std.proofs.Common.{◌≡◌, ℕ, ◌+◌, ◌≤◌, Bool, true, false, cond, List, [], ◌∷◌, ◌++◌, drop, subst, refl, ap, sym, ◌∙◌, arith, ◌<◌}
use Rattle.std.specs.Prelude.{◌==◌, not, filter, nat_lt, Option, Some, None, Result, Ok, Err, IfOk, IfSome, OnOk, option_and_then}
use Rattle.std.specs.Option.{option_map, option_map_or}
use Rattle.std.proofs.lemmas.Bool.{eqb-true, lt-ltb, ltb-true}
use Rattle.hac_model.specs.Query.Formula.{Formula}
use Rattle.hac_model.specs.Tree.Depends.{depends, named_in}
use Rattle.hac_model.specs.Tree.Events.{put_in, without}
use Rattle.hac_model.specs.Tree.Facts.{Marks, edges_to, with_mark}
use Rattle.hac_model.specs.Tree.Links.{lenders, parent_of, permanent_at, query_at}
use Rattle.hac_model.specs.Tree.Valid.{AsksWell, IsValid, RiseFrom}
use Rattle.hac_model.specs.Tree.{entry_at, is_directory_at, permanent_in, query_in}
use Rattle.hac_model.specs.declared.marks.Kind.{Kind}
use Rattle.hac_model.specs.declared.marks.Kind.TheVariants.{Transient, Permanent, Prohibited, Unlinked}
use Rattle.hac_model.specs.declared.states.Body.{Body}
use Rattle.hac_model.specs.declared.states.Body.TheVariants.{File, Dir, Symlink, Semantic, Mount, Document}
use Rattle.hac_model.specs.declared.states.Entry.{Entry}
use Rattle.hac_model.specs.declared.states.State.{State}
use Rattle.hac_model.specs.declared.marks.Mark.{Mark}
use Rattle.hac_model.specs.declared.memory.Memory.{Memory}
use Rattle.hac_model.proofs.MarkLemmas.{rise-filter}
use Rattle.hac_model.proofs.TreeLemmas.{entry_at-all}
use Rattle.dep_graph.specs.Graphs as graph
use Rattle.dep_graph.specs.Graphs.{edges_of, replaced}
use Rattle.dep_graph.specs.declared.graph.NewEdges.{NewEdges}
use Rattle.kept_state.specs.Parts.{AreEdges, IsLinked, WillHave, edges_marked, edges_then, marks_kept, state_of}
use Rattle.kept_state.specs.declared.parts.Parts.{Parts}
use Rattle.kept_state.proofs.KeptLemmas.{kept-lenders, kept-permanent, own-edges}

-- to what has no query nothing was added
pub none-added : (s : State) (n : ℕ) → query_at s n ≡ None → permanent_at s n ≡ []
none-added s n = at (entry_at s.entries n)
  where
    body : (b : Body) → query_in b ≡ None → permanent_in b ≡ []
    body (File text dirty shown) none = refl
    body Dir none = refl
    body (Symlink target) none = refl
    body (Semantic query permanent prohibited) none = absurd cc
    body (Mount space answers) none = refl
    body Document none = refl

    at : (o : Option Entry) → option_and_then query_in (option_map (λ (e : Entry). e.body) o) ≡ None → option_map_or permanent_in (option_map (λ (e : Entry). e.body) o) [] ≡ []
    at None none = refl
    at (Some e) none = body e.body none

-- what was added is in order of number
pub added-rise : (s : State) (n : ℕ) → IsValid s → RiseFrom 0 (permanent_at s n)
added-rise s n h = at (entry_at s.entries n) (λ e is. entry_at-all (λ (e : Entry). AsksWell s e.body) s.entries n e h.queries is)
  where
    body : (b : Body) → AsksWell s b → RiseFrom 0 (permanent_in b)
    body (Semantic query permanent prohibited) asks = asks.added.rise
    body (File text dirty shown) asks = tt
    body Dir asks = tt
    body (Symlink target) asks = tt
    body (Mount space answers) asks = tt
    body Document asks = tt

    at : (o : Option Entry) → ((e : Entry) → o ≡ Some e → AsksWell s e.body) → RiseFrom 0 (option_map_or permanent_in (option_map (λ (e : Entry). e.body) o) [])
    at None asks = tt
    at (Some e) asks = body e.body (asks e refl)

-- the directories behind those that the query names
pub depends-asked : (s : State) (n : ℕ) (query : Formula ℕ) → query_at s n ≡ Some query → drop 1 (depends s n) ≡ named_in query ++ lenders s n
depends-asked s n query is = ap (λ (o : Option (Formula ℕ)). drop 1 (option_map_or (λ q. parent_of s n ∷ named_in q ++ lenders s n) o [])) is

-- Marks on directories.

-- where a number passes a test, it goes in its place among those that pass, too
module _ (p : ℕ → Bool) (n : ℕ) where
  put-skips : p n ≡ true → (bound : ℕ) (xs : List ℕ) → n < bound → RiseFrom bound xs → put_in n (filter p xs) ≡ n ∷ filter p xs
  put-skips passes bound xs low h = first (filter p xs) (rise-filter p bound xs h)
    where
      first : (ys : List ℕ) → RiseFrom bound ys → put_in n ys ≡ n ∷ ys
      first [] h = refl
      first (y ∷ ys) h = let less : nat_lt n y ≡ true = let above : bound ≤ y = h.0 in lt-ltb n y (omega arith) in rw less refl

  pub filter-put : p n ≡ true → (bound : ℕ) (xs : List ℕ) → RiseFrom bound xs → filter p (put_in n xs) ≡ put_in n (filter p xs)
  filter-put passes bound [] h = rw passes refl
  filter-put passes bound (x ∷ xs) h = at (filter-put passes (x + 1) xs h.1) (nat_lt n x) refl
    where
      at : filter p (put_in n xs) ≡ put_in n (filter p xs) → (b : Bool) → nat_lt n x ≡ b → filter p (cond b (n ∷ x ∷ xs) (x ∷ put_in n xs)) ≡ put_in n (filter p (x ∷ xs))
      at rest true less =
          let low : n < x = ltb-true n x less in
          rw passes (sym (put-skips passes x (x ∷ xs) low (omega arith, h.1)))
      at rest false less = kept (p x) refl
        where
          kept : (b : Bool) → p x ≡ b → cond b (x ∷ filter p (put_in n xs)) (filter p (put_in n xs)) ≡ put_in n (cond b (x ∷ filter p xs) (filter p xs))
          kept true is = rw less (ap (λ (ys : List ℕ). x ∷ ys) rest)
          kept false is = rest

  -- what fails the test adds nothing
  pub filter-put-none : p n ≡ false → (xs : List ℕ) → filter p (put_in n xs) ≡ filter p xs
  filter-put-none fails [] = rw fails refl
  filter-put-none fails (x ∷ xs) = elim (nat_lt n x) as (λ b. filter p (cond b (n ∷ x ∷ xs) (x ∷ put_in n xs)) ≡ filter p (x ∷ xs)) [
    | true ↦ rw fails refl
    | false ↦ ap (λ (ys : List ℕ). cond (p x) (x ∷ ys) ys) (filter-put-none fails xs)
  ]

  -- and nothing is lost where it goes
  pub filter-without-none : p n ≡ false → (xs : List ℕ) → filter p (without n xs) ≡ filter p xs
  filter-without-none fails [] = refl
  filter-without-none fails (x ∷ xs) = at (filter-without-none fails xs) (x == n) refl
    where
      at : filter p (without n xs) ≡ filter p xs → (b : Bool) → (x == n) ≡ b → filter p (cond (not b) (x ∷ without n xs) (without n xs)) ≡ cond (p x) (x ∷ filter p xs) (filter p xs)
      at rest true is = let gone : p x ≡ false = ap p (eqb-true x n is) ∙ fails in rw gone rest
      at rest false is = ap (λ (ys : List ℕ). cond (p x) (x ∷ ys) ys) rest

pub filters-swap : (p q : ℕ → Bool) (xs : List ℕ) → filter p (filter q xs) ≡ filter q (filter p xs)
filters-swap p q [] = refl
filters-swap p q (x ∷ xs) = at (filters-swap p q xs) (p x) refl (q x) refl
  where
    at : filter p (filter q xs) ≡ filter q (filter p xs) → (b : Bool) → p x ≡ b → (c : Bool) → q x ≡ c → filter p (cond c (x ∷ filter q xs) (filter q xs)) ≡ filter q (cond b (x ∷ filter p xs) (filter p xs))
    at rest true is true also = rw (is, also) (ap (λ (ys : List ℕ). x ∷ ys) rest)
    at rest true is false also = rw also rest
    at rest false is true also = rw is rest
    at rest false is false also = rest

-- the marks that a list of permanent ones becomes
abbrev pub marked_numbers : Kind → ℕ → List ℕ → List ℕ
marked_numbers kind n xs = (with_mark kind n (record { permanent = xs; prohibited = [] })).permanent

-- a mark on a directory is one among the directories
pub marked-directories : (is_dir : ℕ → Bool) (kind : Kind) (n : ℕ) (marks : Marks) → is_dir n ≡ true → RiseFrom 0 marks.permanent →
    filter is_dir (with_mark kind n marks).permanent ≡ marked_numbers kind n (filter is_dir marks.permanent)
marked-directories is_dir Permanent n marks is rise =
    filter-put is_dir n is 0 (without n marks.permanent) (rise-filter (λ other. not (other == n)) 0 marks.permanent rise)
    ∙ ap (put_in n) (filters-swap is_dir (λ other. not (other == n)) marks.permanent)
marked-directories is_dir Transient n marks is rise = filters-swap is_dir (λ other. not (other == n)) marks.permanent
marked-directories is_dir Prohibited n marks is rise = filters-swap is_dir (λ other. not (other == n)) marks.permanent
marked-directories is_dir Unlinked n marks is rise = filters-swap is_dir (λ other. not (other == n)) marks.permanent

-- and a mark on anything else leaves them
pub marked-other : (is_dir : ℕ → Bool) (kind : Kind) (n : ℕ) (marks : Marks) → is_dir n ≡ false → filter is_dir (with_mark kind n marks).permanent ≡ filter is_dir marks.permanent
marked-other is_dir Permanent n marks fails = filter-put-none is_dir n fails (without n marks.permanent) ∙ filter-without-none is_dir n fails marks.permanent
marked-other is_dir Transient n marks fails = filter-without-none is_dir n fails marks.permanent
marked-other is_dir Prohibited n marks fails = filter-without-none is_dir n fails marks.permanent
marked-other is_dir Unlinked n marks fails = filter-without-none is_dir n fails marks.permanent

-- What the graph is made ready for.

module _ (kept : Parts) (h : IsLinked kept) where
  pub mark-edges : (mark : Mark) (query : Formula ℕ) → query_at kept.tree.state mark.dir ≡ Some query → is_directory_at kept.tree.state.entries mark.item ≡ true →
      parent_of kept.tree.state mark.dir ∷ named_in query ++ marked_numbers mark.kind mark.item (lenders (state_of kept) mark.dir) ≡ edges_marked kept mark
  mark-edges mark query is directory =
      let t = kept.tree.state in
      let is_dir : ℕ → Bool = is_directory_at t.entries in
      let marks : Marks = marks_kept kept.marks mark.dir in
      ap (λ (numbers : List ℕ). parent_of t mark.dir ∷ named_in query ++ marked_numbers mark.kind mark.item numbers) (kept-lenders kept h mark.dir)
      ∙ ap (λ (numbers : List ℕ). parent_of t mark.dir ∷ named_in query ++ numbers)
      (sym (marked-directories is_dir mark.kind mark.item marks directory (subst (λ (numbers : List ℕ). RiseFrom 0 numbers) (kept-permanent kept h mark.dir) (added-rise (state_of kept) mark.dir h.valid))))
      ∙ ap (λ (o : Option (Formula ℕ)). edges_to is_dir (parent_of t mark.dir) o (with_mark mark.kind mark.item marks).permanent) (sym is)

  -- a mark on no directory changes no edges
  pub mark-edges-stay : (mark : Mark) → is_directory_at kept.tree.state.entries mark.item ≡ false → edges_of kept.graph mark.dir ≡ edges_marked kept mark
  mark-edges-stay mark other =
      let t = kept.tree.state in
      own-edges kept h mark.dir
      ∙ ap (λ (numbers : List ℕ). option_map_or (λ asked. parent_of t mark.dir ∷ named_in asked ++ numbers) (query_at t mark.dir) [])
      (sym (marked-other (is_directory_at t.entries) mark.kind mark.item (marks_kept kept.marks mark.dir) other))

  -- nor do those of what has no query
  pub no-edges : (n : ℕ) (edges : Option (Formula ℕ) → List ℕ) → edges None ≡ [] → query_at kept.tree.state n ≡ None → edges_of kept.graph n ≡ edges (query_at kept.tree.state n)
  no-edges n edges none is =
      let t = kept.tree.state in
      own-edges kept h n ∙ ap (λ (o : Option (Formula ℕ)). edges_then kept n (parent_of t n) o) is ∙ sym none ∙ ap edges (sym is)

  -- what a directory with this query and this parent will depend on
  pub then-edges : (dir parent : ℕ) (query : Formula ℕ) → parent ∷ named_in query ++ lenders (state_of kept) dir ≡ edges_then kept dir parent (Some query)
  then-edges dir parent query = ap (λ (numbers : List ℕ). parent ∷ named_in query ++ numbers) (kept-lenders kept h dir)

-- The graph is ready for edges that were prepared.

pub will-made : (g : graph.Seen) (dir : ℕ) (wanted : List ℕ) (new given : NewEdges) → new ≡ given → given.dir ≡ dir → given.edges.items ≡ wanted → g.ready ≡ Some dir → AreEdges g dir wanted new
will-made g dir wanted new given is dir_is are ready = record {
  ready = ready ∙ ap (λ (n : ℕ). Some n) (sym (ap (λ (e : NewEdges). e.dir) is ∙ dir_is));
  dir_is = ap (λ (e : NewEdges). e.dir) is ∙ dir_is;
  edges_are = ap (λ (e : NewEdges). e.edges.items) is ∙ are;
}

pub will-made-if : (g : graph.Seen) (dir : ℕ) (wanted : List ℕ) (given : NewEdges) (result : Result NewEdges Memory) → IfOk result (λ new. new ≡ given) → given.dir ≡ dir → given.edges.items ≡ wanted → OnOk result (g.ready ≡ Some dir) → IfOk result (λ new. AreEdges g dir wanted new)
will-made-if g dir wanted given (Ok new) is dir_is are ready = will-made g dir wanted new given is dir_is are ready
will-made-if g dir wanted given (Err memory) is dir_is are ready = tt

-- The edges are set that were prepared, if any were.

pub will-ready : (g : graph.Seen) (dir : ℕ) (wanted : List ℕ) (edges : Option NewEdges) → WillHave g dir wanted edges → IfSome edges (λ new. g.ready ≡ Some new.dir)
will-ready g dir wanted None will = tt
will-ready g dir wanted (Some new) will = will.ready

pub will-stay : (g : graph.Seen) (dir : ℕ) (wanted : List ℕ) → edges_of g dir ≡ wanted → (q : ℕ) → edges_of g q ≡ replaced (edges_of g) dir wanted q
will-stay g dir wanted has q = at (q == dir) refl
  where
    at : (b : Bool) → (q == dir) ≡ b → edges_of g q ≡ cond b wanted (edges_of g q)
    at true is = ap (edges_of g) (eqb-true q dir is) ∙ has
    at false is = refl
