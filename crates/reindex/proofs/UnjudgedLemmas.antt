-- The state in which no item was ever indexed: no directory says anything there, and where a file is judged first.
use Rattle.std.proofs.Common.{◌≡◌, ℕ, zero, suc, Bool, true, false, List, [], ◌∷◌, refl, ap, sym, ◌∙◌, subst}
use Rattle.std.specs.Prelude.{◌&&◌, ◌||◌, ◌≢◌, if◌then◌else◌, filter, Option, Some, None, is_some, option_and_then}
use Rattle.std.specs.List.{list_any}
use Rattle.std.specs.Option.{option_map, option_map_or}
use Rattle.hac_model.specs.Query.Formula.{Formula}
use Rattle.hac_model.specs.Query.Queries.{terms_of}
use Rattle.hac_model.specs.Query.Words.{words}
use Rattle.hac_model.specs.Tree.Depends.{depends}
use Rattle.hac_model.specs.Tree.Events.{edited}
use Rattle.hac_model.specs.Tree.Limits.{semantic_count}
use Rattle.hac_model.specs.Tree.Links.{DirLinks, atom, column, has, holds, is_below, is_item, is_judged, is_lent, is_permanent, is_semantic, is_unmarked, items, lenders, links, no_links, parent_of, passes, provide, query_at, round, rounds, satisfies, shown_of}
use Rattle.hac_model.specs.Tree.Valid.{IsValid}
use Rattle.hac_model.specs.Tree.{body_at, empty, entry_at, is_directory, is_document, is_linkable, permanent_in, prohibited_in, query_in, shown_text}
use Rattle.hac_model.specs.declared.states.Body.{Body}
use Rattle.hac_model.specs.declared.states.Body.TheVariants.{File, Dir, Symlink, Semantic, Mount, Document}
use Rattle.hac_model.specs.declared.states.Entry.{Entry}
use Rattle.hac_model.specs.declared.states.State.{State}
use Rattle.query_index.proofs.LawLemmas.{unfit_queries_fail}
use Rattle.reeval.specs.Judging.{AreJudged, JudgesAlike, ProvidesAlike, is_linked, no_verdict, verdict_of}
use Rattle.reeval.specs.Routes.{Covers}
use Rattle.reeval.specs.declared.settling.Stop.{Stop}
use Rattle.reeval.proofs.AlikeLemmas.{none-across, unfound-across}
use Rattle.reeval.proofs.PlanLemmas.{empty-judged, unjudged-said}
use Rattle.reindex.specs.Anew.{LendsNothing, never_indexed, unjudged_state}
use Rattle.reindex.specs.Steps.{may_begin, may_differ}
use Rattle.reindex.specs.Ways.{IsWayOf, begun_at, leans, needed, stops_at}
use Rattle.reindex.specs.declared.ways.Way.{Way}
use Rattle.reindex.proofs.LeftLemmas.{Leaves, added-left, below-left, entry_at-left, item-left, lenders-left, query-left, semantic-left}
use Rattle.reindex.proofs.TextLemmas.{all-by, text-no-document, told-by-words}
use Rattle.reindex.proofs.NeededLemmas.{covers-needed}
use Rattle.reindex.proofs.WayLemmas.{begun-way, covers-at, covers-everywhere, leans-well, semantic-depends}

-- the body of an entry then
abbrev other_body : Entry → Body
other_body e = never_indexed e.body

leaves : Leaves other_body
leaves = record {
  linkable = λ e. linkable e.body;
  directory = λ e. directory e.body;
  query = λ e. query e.body;
  permanent = λ e. permanent e.body;
  prohibited = λ e. prohibited e.body;
}
  where
    linkable : (b : Body) → is_linkable (never_indexed b) ≡ is_linkable b
    linkable (File text dirty shown) = refl
    linkable Document = refl
    linkable other = refl

    directory : (b : Body) → is_directory (never_indexed b) ≡ is_directory b
    directory (File text dirty shown) = refl
    directory Document = refl
    directory other = refl

    query : (b : Body) → query_in (never_indexed b) ≡ query_in b
    query (File text dirty shown) = refl
    query Document = refl
    query other = refl

    permanent : (b : Body) → permanent_in (never_indexed b) ≡ permanent_in b
    permanent (File text dirty shown) = refl
    permanent Document = refl
    permanent other = refl

    prohibited : (b : Body) → prohibited_in (never_indexed b) ≡ prohibited_in b
    prohibited (File text dirty shown) = refl
    prohibited Document = refl
    prohibited other = refl

module _ (s : State) where
  abbrev u : State
  u = unjudged_state s

  pub never-judged : (item : ℕ) → is_judged u item ≡ false
  never-judged item =
      ap (λ (o : Option Entry). option_map_or is_document (option_map (λ (e : Entry). e.body) o) false || is_some (option_and_then shown_text (option_map (λ (e : Entry). e.body) o))) (entry_at-left other_body s.entries item)
      ∙ at (entry_at s.entries item)
    where
      body : (b : Body) → (is_document (never_indexed b) || is_some (shown_text (never_indexed b))) ≡ false
      body (File text dirty shown) = refl
      body Document = refl
      body Dir = refl
      body (Symlink target) = refl
      body (Semantic query permanent prohibited) = refl
      body (Mount space answers) = refl

      at : (o : Option Entry) → (option_map_or is_document (option_map (λ (e : Entry). e.body) (option_map (edited never_indexed) o)) false
          || is_some (option_and_then shown_text (option_map (λ (e : Entry). e.body) (option_map (edited never_indexed) o)))) ≡ false
      at None = refl
      at (Some e) = body e.body

  module _ (unlent : LendsNothing s) where
    lends-nothing : (dir : ℕ) → lenders u dir ≡ []
    lends-nothing dir = lenders-left other_body leaves s dir ∙ unlent dir

    kept-none : (test : ℕ → Bool) → ((x : ℕ) → test x ≡ false) → (xs : List ℕ) → filter test xs ≡ []
    kept-none test none [] = refl
    kept-none test none (x ∷ xs) = ap (λ (b : Bool). if b then x ∷ filter test xs else filter test xs) (none x) ∙ kept-none test none xs

    passes-none : (linked : ℕ → Bool) (dir item : ℕ) → passes u linked dir item ≡ false
    passes-none linked dir item =
        ap (λ (b : Bool). provide u linked (parent_of u dir) item && b && satisfies u linked dir item && is_unmarked u dir item) (never-judged item)
        ∙ out (provide u linked (parent_of u dir) item) (satisfies u linked dir item) (is_unmarked u dir item)
      where
        out : (p q r : Bool) → (p && false && q && r) ≡ false
        out true q r = refl
        out false q r = refl

    lent-none : (linked : ℕ → Bool) (dir item : ℕ) → is_lent u linked dir item ≡ false
    lent-none linked dir item = ap (λ (ks : List ℕ). list_any (λ lender. provide u linked lender item) ks) (lends-nothing dir)

    round-none : (known : ℕ → DirLinks) (dir : ℕ) → round u known dir ≡ no_links
    round-none known dir = elim (is_semantic u dir) as (λ b. (if b then record {
      found = filter (λ item. passes u (column known item) dir item) (items u);
      lent = filter (λ item. is_lent u (column known item) dir item) (items u);
    } else no_links) ≡ no_links) [
      | true ↦ (λ i. record {
        found = kept-none (λ item. passes u (column known item) dir item) (λ item. passes-none (column known item) dir item) (items u) i;
        lent = kept-none (λ item. is_lent u (column known item) dir item) (λ item. lent-none (column known item) dir item) (items u) i;
      })
      | false ↦ refl
    ]

    rounds-none : (n dir : ℕ) → rounds n u dir ≡ no_links
    rounds-none zero dir = refl
    rounds-none (suc n) dir = round-none (rounds n u) dir

    links-none : (dir : ℕ) → links u dir ≡ no_links
    unfolding links
    links-none dir = rounds-none (semantic_count u.entries) dir

    -- no directory says anything of any item
    pub said-none : (item dir : ℕ) → no_verdict ≡ verdict_of u item dir
    said-none item dir = sym (ap (λ (known : DirLinks). record { found = has known.found item; lent = has known.lent item }) (links-none dir))

    pub none-judged : (item : ℕ) → AreJudged u item
    none-judged item dir = sym (said-none item dir) ∙ sym (unjudged-said u (is_linked (verdict_of u item)) item dir (never-judged item) (lends-nothing dir))

    -- it provides what is stored in it, and what was added to it
    pub provided : (dir item : ℕ) → (is_below s dir item || (is_semantic s dir && (is_permanent s dir item && is_item s item))) ≡ provide u (column (links u) item) dir item
    provided dir item = λ i. sym (below-left other_body leaves s dir item) i
        || (sym (semantic-left other_body leaves s dir) i && ((has (none i).found item || has (none i).lent item) || sym (added-left other_body leaves s dir item) i))
      where
        none : no_links ≡ links u dir
        none = sym (links-none dir)

    -- an item that is judged at each directory
    pub covers-anywhere : IsValid s → (way : Way) → IsWayOf s way → (item : ℕ) → Covers u s way.stops.items item
    covers-anywhere valid way w item =
        subst (λ (stops : List Stop). Covers u s stops item) (sym w.over.stops)
        (covers-everywhere u s (leans s) w.order item (none-judged item) valid w.ordered w.all (leans-well s s way w (λ dir. refl)) (λ dir plain. semantic-left other_body leaves s dir ∙ plain))

    -- a file that shows a text
    module _ (file : ℕ) (text : List ℕ) (shows : shown_of s file ≡ Some text) where
      judges : (dir : ℕ) → may_begin s None text dir ≡ false → JudgesAlike u s file dir
      judges dir still = at (query_at s dir) refl still
        where
          at : (o : Option (Formula ℕ)) → query_at s dir ≡ o → option_map_or (may_differ None text) o false ≡ false → JudgesAlike u s file dir
          at None asks out = none-across u s file dir (query-left other_body leaves s dir ∙ asks) asks
          at (Some asked) asks out =
              unfound-across u s file dir asked (query-left other_body leaves s dir ∙ asks) asks (item-left other_body leaves s file) (lenders-left other_body leaves s dir) (never-judged file)
              (λ b. ap (λ (o : Option (Formula ℕ)). option_map_or (λ (query : Formula ℕ). holds s b query file) o false) asks
              ∙ unfit_queries_fail (words text) asked out (atom s) (provide s b) file
              (all-by s file text (words text) (told-by-words text) (text-no-document (body_at s.entries file) text shows) shows (terms_of asked)))

      provides : (e : ℕ) → ProvidesAlike u s file e
      provides e a b linked = λ i. below-left other_body leaves s e file i || (semantic-left other_body leaves s e i && (linked i || added-left other_body leaves s e file i))

      begins-asked : (dir : ℕ) → may_begin s None text dir ≡ true → depends s dir ≢ []
      begins-asked dir is = semantic-depends s dir (at (query_at s dir) is)
        where
          at : (o : Option (Formula ℕ)) → option_map_or (may_differ None text) o false ≡ true → is_some o ≡ true
          at None h = absurd cc
          at (Some asked) h = refl

      -- it is judged wherever its words may tell
      pub covers-first : IsValid s → (way : Way) → IsWayOf s way → Covers u s (needed (begun_at (may_begin s None text) way.stops.items)) file
      covers-first valid way w =
          subst (λ (stops : List Stop). Covers u s (needed stops) file) (sym (begun-way s way w (may_begin s None text)))
          (covers-needed u s (stops_at (may_begin s None text) (leans s) w.order) file
          (covers-at u s (may_begin s None text) (leans s) w.order file (none-judged file) valid w.ordered w.all (leans-well s s way w (λ dir. refl)) begins-asked
          (record { judges = judges; provides = λ dir e still edge apart. provides e })))

-- an item that is judged at each directory, where nothing was known of any
pub covers-blank : (s : State) → IsValid s → (way : Way) → IsWayOf s way → (item : ℕ) → Covers empty s way.stops.items item
covers-blank s valid way w item =
    subst (λ (stops : List Stop). Covers empty s stops item) (sym w.over.stops)
    (covers-everywhere empty s (leans s) w.order item (empty-judged item) valid w.ordered w.all (leans-well s s way w (λ dir. refl)) (λ dir plain. refl))
