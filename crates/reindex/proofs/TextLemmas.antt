-- Where judging begins of a file that is to show another text.
use Rattle.std.proofs.Common.{◌≡◌, ℕ, Bool, true, false, List, [], ◌∷◌, ap, refl, subst, sym, ◌∙◌}
use Rattle.std.specs.Prelude.{◌||◌, ◌&&◌, ◌≢◌, if◌then◌else◌, IfOk, IfSome, Option, Some, None, Result, Ok, Err, Vec, is_some, option_and_then}
use Rattle.std.specs.List.{AllByRecursion, list_any}
use Rattle.std.specs.Option.{option_map_or}
use Rattle.std.specs.declared.alloc.Global.{Global}
use Rattle.dep_graph.specs.Searches.{IsOrdered}
use Rattle.hac_model.specs.Query.Formula.{Formula}
use Rattle.hac_model.specs.Query.Queries.{terms_of}
use Rattle.hac_model.specs.Query.Words.{has_term, is_asked, rising_words, words}
use Rattle.hac_model.specs.Tree.Depends.{depends}
use Rattle.hac_model.specs.Tree.Links.{atom, has, holds, kept_at, parent_of, provide, query_at, shown_of}
use Rattle.hac_model.specs.Tree.Valid.{IsValid}
use Rattle.hac_model.specs.Tree.{body_at, is_document, is_document_at, is_linkable, shown_text}
use Rattle.hac_model.specs.declared.memory.Memory.{Memory}
use Rattle.hac_model.specs.declared.states.Body.{Body}
use Rattle.hac_model.specs.declared.states.Body.TheVariants.{File, Dir, Symlink, Semantic, Mount, Document}
use Rattle.hac_model.specs.declared.states.State.{State}
use Rattle.hac_model.specs.declared.terms.Term.{Term}
use Rattle.hac_words.proofs.WordLemmas.{has_term-rising_words, list_any-rising_words}
use Rattle.query_index.specs.Seen.{Fitting, IsFitOf, answer_of}
use Rattle.query_index.proofs.LawLemmas.{unasked_terms_stay, unfit_queries_fail}
use Rattle.reeval.specs.Judging.{JudgesAlike, LeavesAlike, ProvidesAlike}
use Rattle.reeval.specs.Routes.{Covers}
use Rattle.reeval.specs.declared.settling.Stop.{Stop}
use Rattle.reeval.proofs.AlikeLemmas.{judge-across, none-across, unfound-across}
use Rattle.reeval.proofs.JudgeLemmas.{links-judged}
use Rattle.reindex.specs.Fitted.{TellsItem}
use Rattle.reindex.specs.Steps.{indexed_through, may_begin, may_differ}
use Rattle.reindex.specs.Ways.{IsWayOf, begun_at, leans, needed}
use Rattle.reindex.specs.declared.ways.Way.{Way}
use Rattle.reindex.proofs.IndexedLemmas.{added-indexed, below-indexed, depends-indexed, document-indexed, item-indexed, lenders-indexed, parent-indexed, permanent-indexed, prohibited-indexed, query-indexed, semantic-indexed}
use Rattle.reindex.proofs.NeededLemmas.{covers-needed}
use Rattle.reindex.proofs.WayLemmas.{begun-way, covers-at, covers-everywhere, leans-well, semantic-depends}

-- what shows a text is no document
pub text-no-document : (o : Option Body) (text : List ℕ) → option_and_then shown_text o ≡ Some text → option_map_or is_document o false ≡ false
text-no-document None text h = absurd cc
text-no-document (Some (File written dirty shown)) text h = refl
text-no-document (Some Dir) text h = absurd cc
text-no-document (Some (Symlink target)) text h = absurd cc
text-no-document (Some (Semantic query permanent prohibited)) text h = absurd cc
text-no-document (Some (Mount space answers)) text h = absurd cc
text-no-document (Some Document) text h = absurd cc

-- what has a text has the terms for which its words are, in whatever order these are listed
atom-by : (s : State) (item : ℕ) (text : List ℕ) → is_document_at s.entries item ≡ false → shown_of s item ≡ Some text → (term : Term) → atom s term item ≡ has_term text term
atom-by s item text plain shows term =
    ap (λ (b : Bool). if b then has (kept_at s (parent_of s item) term) item else option_map_or (λ text. has_term text term) (shown_of s item) false) plain
    ∙ ap (λ (o : Option (List ℕ)). option_map_or (λ text. has_term text term) o false) shows

pub all-by : (s : State) (item : ℕ) (text : List ℕ) (listed : List (List ℕ)) → ((term : Term) → has_term text term ≡ list_any (is_asked term) listed)
    → is_document_at s.entries item ≡ false → shown_of s item ≡ Some text → (terms : List Term) → AllByRecursion (λ term. atom s term item ≡ list_any (is_asked term) listed) terms
all-by s item text listed tells plain shows [] = tt
all-by s item text listed tells plain shows (term ∷ terms) = (atom-by s item text plain shows term ∙ tells term, all-by s item text listed tells plain shows terms)

-- they may be listed as the text has them
pub told-by-words : (text : List ℕ) (term : Term) → has_term text term ≡ list_any (is_asked term) (words text)
told-by-words text term = has_term-rising_words text term ∙ list_any-rising_words (is_asked term) text

-- the file is to show this text
module _ (s : State) (last file : ℕ) (text : List ℕ) (shows : shown_of (indexed_through last s) file ≡ Some text) where
  abbrev t : State
  t = indexed_through last s

  plain-then : is_document_at t.entries file ≡ false
  plain-then = text-no-document (body_at t.entries file) text shows

  plain : is_document_at s.entries file ≡ false
  plain = sym (document-indexed last s file) ∙ plain-then

  -- a query that can't hold of it found it no more before, since nothing was judged
  first-judged : (dir : ℕ) (asked : Formula ℕ) → query_at s dir ≡ Some asked → shown_of s file ≡ None → may_differ None text asked ≡ false → JudgesAlike s t file dir
  first-judged dir asked asks none out =
      unfound-across s t file dir asked asks (query-indexed last s dir ∙ asks) (sym (item-indexed last s file)) (sym (lenders-indexed last s dir))
      (λ i. plain i || is_some (none i))
      (λ b. ap (λ (o : Option (Formula ℕ)). option_map_or (λ (query : Formula ℕ). holds t b query file) o false) (query-indexed last s dir ∙ asks)
      ∙ unfit_queries_fail (words text) asked out (atom t) (provide t b) file
      (all-by t file text (words text) (told-by-words text) plain-then shows (terms_of asked)))

  -- a query that asks for no word that is gone or new holds as it did
  again-judged : (dir : ℕ) (asked : Formula ℕ) (old : List ℕ) → query_at s dir ≡ Some asked → shown_of s file ≡ Some old → may_differ (Some old) text asked ≡ false → JudgesAlike s t file dir
  again-judged dir asked old asks had out = judge-across s t file dir asked (record {
    before = asks;
    after = query-indexed last s dir ∙ asks;
    items = sym (item-indexed last s file);
    judged = (λ i. plain i || is_some (had i)) ∙ sym (λ i. plain-then i || is_some (shows i));
    parents = sym (parent-indexed last s dir);
    lending = sym (lenders-indexed last s dir);
    added = λ i. has (sym (permanent-indexed last s dir) i) file;
    removed = λ i. has (sym (prohibited-indexed last s dir) i) file;
    atoms = terms-same (terms_of asked) (unasked_terms_stay (rising_words old) (rising_words text) asked out);
  })
    where
      terms-same : (terms : List Term) → AllByRecursion (λ term. list_any (is_asked term) (rising_words old) ≡ list_any (is_asked term) (rising_words text)) terms → AllByRecursion (λ term. atom s term file ≡ atom t term file) terms
      terms-same [] h = tt
      terms-same (term ∷ terms) h = (atom-by s file old plain had term ∙ has_term-rising_words old term ∙ h.0 ∙ sym (atom-by t file text plain-then shows term ∙ has_term-rising_words text term), terms-same terms h.1)

  judges : (dir : ℕ) → may_begin s (shown_of s file) text dir ≡ false → JudgesAlike s t file dir
  judges dir still = at (query_at s dir) refl still
    where
      by : (asked : Formula ℕ) → query_at s dir ≡ Some asked → (o : Option (List ℕ)) → shown_of s file ≡ o → may_differ o text asked ≡ false → JudgesAlike s t file dir
      by asked asks None none out = first-judged dir asked asks none out
      by asked asks (Some old) had out = again-judged dir asked old asks had out

      at : (o : Option (Formula ℕ)) → query_at s dir ≡ o → option_map_or (may_differ (shown_of s file) text) o false ≡ false → JudgesAlike s t file dir
      at None asks out = none-across s t file dir asks (query-indexed last s dir ∙ asks)
      at (Some asked) asks out = by asked asks (shown_of s file) refl out

  provides : (e : ℕ) → ProvidesAlike s t file e
  provides e a b linked = λ i. sym (below-indexed last s e file) i || (sym (semantic-indexed last s e) i && (linked i || sym (added-indexed last s e file) i))

  texts-leave : LeavesAlike s t (may_begin s (shown_of s file) text) file
  texts-leave = record { judges = judges; provides = λ dir e still edge apart. provides e }

  -- judging begins at what is semantic
  begins-asked : (dir : ℕ) → may_begin s (shown_of s file) text dir ≡ true → depends t dir ≢ []
  begins-asked dir is none = semantic-depends s dir (at (query_at s dir) is) (sym (depends-indexed last s dir) ∙ none)
    where
      at : (o : Option (Formula ℕ)) → option_map_or (may_differ (shown_of s file) text) o false ≡ true → is_some o ≡ true
      at None h = absurd cc
      at (Some asked) h = refl

  -- on the way to all semantic directories the file is judged wherever its words may tell
  pub covered-text : (way : Way) → IsWayOf s way → IsValid s → IsValid t → Covers s t (begun_at (may_begin s (shown_of s file) text) way.stops.items) file
  covered-text way w before after =
      subst (λ (stops : List Stop). Covers s t stops file) (sym (begun-way s way w (may_begin s (shown_of s file) text)))
      (covers-at s t (may_begin s (shown_of s file) text) (leans s) w.order file (links-judged s before file) after
      (subst (λ (edges : ℕ → List ℕ). IsOrdered edges w.order) (λ i dir. sym (depends-indexed last s dir) i) w.ordered)
      (λ dir some. w.all dir (λ none. some (depends-indexed last s dir ∙ none))) (leans-well s t way w (depends-indexed last s)) begins-asked texts-leave)

  pub covered-if : (way : Way) → IsWayOf s way → IsValid s → IsValid t → (result : Result (Vec Stop Global) Memory) →
      IfOk result (λ stops. stops.items ≡ needed (begun_at (may_begin s (shown_of s file) text) way.stops.items)) → IfOk result (λ stops. Covers s t stops.items file)
  covered-if way w before after (Ok stops) is =
      subst (λ (items : List Stop). Covers s t items file) (sym is)
      (covers-needed s t (begun_at (may_begin s (shown_of s file) text) way.stops.items) file (covered-text way w before after))
  covered-if way w before after (Err memory) is = tt

-- on that way it may be judged at each directory, too
covered-anyway : (s : State) (last file : ℕ) (way : Way) → IsWayOf s way → IsValid s → IsValid (indexed_through last s) → Covers s (indexed_through last s) way.stops.items file
covered-anyway s last file way w before after =
    subst (λ (all : List Stop). Covers s (indexed_through last s) all file) (sym w.over.stops)
    (covers-everywhere s (indexed_through last s) (leans s) w.order file (links-judged s before file) after (subst (λ (edges : ℕ → List ℕ). IsOrdered edges w.order) (λ i dir. sym (depends-indexed last s dir) i) w.ordered)
    (λ dir some. w.all dir (λ none. some (depends-indexed last s dir ∙ none))) (leans-well s (indexed_through last s) way w (depends-indexed last s)) (λ dir plain. sym (semantic-indexed last s dir) ∙ plain))

pub covered-anyway-if : (s : State) (last file : ℕ) (way : Way) → IsWayOf s way → IsValid s → IsValid (indexed_through last s) → (result : Result (Vec Stop Global) Memory) →
    IfOk result (λ stops. stops.items ≡ way.stops.items) → IfOk result (λ stops. Covers s (indexed_through last s) stops.items file)
covered-anyway-if s last file way w before after (Ok stops) is = subst (λ (items : List Stop). Covers s (indexed_through last s) items file) (sym is) (covered-anyway s last file way w before after)
covered-anyway-if s last file way w before after (Err memory) is = tt

-- what shows a text is an item
shown-item : (o : Option Body) (text : List ℕ) → option_and_then shown_text o ≡ Some text → option_map_or is_linkable o false ≡ true
shown-item None text h = absurd cc
shown-item (Some (File written dirty shown)) text h = refl
shown-item (Some Dir) text h = absurd cc
shown-item (Some (Symlink target)) text h = absurd cc
shown-item (Some (Semantic query permanent prohibited)) text h = absurd cc
shown-item (Some (Mount space answers)) text h = absurd cc
shown-item (Some Document) text h = absurd cc

-- queries judge it, and what the index says of the words of the text, the state says of its terms
pub fit-tells : (queries : List (Option (Formula ℕ))) (fit : Fitting) (t : State) (item : ℕ) (text : List ℕ) → shown_of t item ≡ Some text → IsFitOf queries (words text) fit → TellsItem t item fit
fit-tells queries fit t item text shows is = record {
  there = shown-item (body_at t.entries item) text shows;
  judged = λ i. plain i || is_some (shows i);
  terms = λ term. of term (answer_of fit term) (is.answers term);
}
  where
    plain : is_document_at t.entries item ≡ false
    plain = text-no-document (body_at t.entries item) text shows

    of : (term : Term) (o : Option Bool) → IfSome o (λ asked. asked ≡ list_any (is_asked term) (words text)) → IfSome o (λ has. has ≡ atom t term item)
    of term None told = tt
    of term (Some asked) told = told ∙ sym (atom-by t item text plain shows term ∙ told-by-words text term)
