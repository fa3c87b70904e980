-- Where an item that moves is judged again.
use Rattle.std.proofs.Common.{◌≡◌, ℕ, Bool, true, false, List, [], ◌∷◌, ap, refl, subst, sym, ◌∙◌}
use Rattle.std.specs.Prelude.{◌==◌, ◌&&◌, ◌||◌, ◌≢◌, filter, if◌then◌else◌, not, Option, Some, None, is_some, option_and_then, unwrap_or}
use Rattle.std.specs.List.{AllByRecursion, list_any}
use Rattle.std.specs.Option.{option_map_or}
use Rattle.std.proofs.Math.Bool.{beq}
use Rattle.hac_model.specs.Query.Formula.{Formula}
use Rattle.hac_model.specs.Query.Queries.{terms_of}
use Rattle.hac_model.specs.Query.Words.{has_term}
use Rattle.hac_model.specs.Tree.Depends.{Among, depends}
use Rattle.hac_model.specs.Tree.Links.{atom, has, is_below, is_item, is_permanent, is_prohibited, kept_at, lenders, parent_of, query_at, shown_of}
use Rattle.hac_model.specs.Tree.Mounts.{kept_for}
use Rattle.hac_model.specs.Tree.Valid.{IsValid}
use Rattle.hac_model.specs.Tree.{answers_in, is_directory, is_directory_at, is_document, is_document_at, is_linkable, permanent_in, prohibited_in, query_in, shown_text}
use Rattle.hac_model.specs.declared.states.Body.{Body}
use Rattle.hac_model.specs.declared.states.State.{State}
use Rattle.hac_model.specs.declared.terms.Term.{Term}
use Rattle.reeval.specs.Judging.{JudgesAlike, LeavesAlike, ProvidesAlike}
use Rattle.reeval.specs.Routes.{Covers}
use Rattle.reeval.specs.declared.settling.Stop.{Stop}
use Rattle.reeval.proofs.AlikeLemmas.{judge-across, none-across}
use Rattle.reeval.proofs.JudgeLemmas.{links-judged}
use Rattle.reindex.specs.Moves.{OnlyMoves, crosses, place_tells}
use Rattle.reindex.specs.Ways.{IsWayOf, begun_at, leans, needed, stops_at}
use Rattle.reindex.specs.declared.ways.Way.{Way}
use Rattle.reindex.proofs.NeededLemmas.{covers-needed}
use Rattle.reindex.proofs.WayLemmas.{any-none, begun-way, covers-at, leans-well}

module _ (s t : State) (item : ℕ) (moves : OnlyMoves s t item) where
  items : is_item s item ≡ is_item t item
  items = ap (λ (o : Option Body). option_map_or is_linkable o false) (moves.bodies item)

  documents : is_document_at s.entries item ≡ is_document_at t.entries item
  documents = ap (λ (o : Option Body). option_map_or is_document o false) (moves.bodies item)

  texts : shown_of s item ≡ shown_of t item
  texts = ap (λ (o : Option Body). option_and_then shown_text o) (moves.bodies item)

  queries : (dir : ℕ) → query_at s dir ≡ query_at t dir
  queries dir = ap (λ (o : Option Body). option_and_then query_in o) (moves.bodies dir)

  directories : (dir : ℕ) → is_directory_at s.entries dir ≡ is_directory_at t.entries dir
  directories dir = ap (λ (o : Option Body). dir == 0 || option_map_or is_directory o false) (moves.bodies dir)

  added : (dir : ℕ) → is_permanent s dir item ≡ is_permanent t dir item
  added dir = ap (λ (o : Option Body). has (option_map_or permanent_in o []) item) (moves.bodies dir)

  removed : (dir : ℕ) → is_prohibited s dir item ≡ is_prohibited t dir item
  removed dir = ap (λ (o : Option Body). has (option_map_or prohibited_in o []) item) (moves.bodies dir)

  lending : (dir : ℕ) → lenders s dir ≡ lenders t dir
  lending dir = λ i. filter (λ d. directories d i) (option_map_or permanent_in (moves.bodies dir i) [])

  answers : (mount : ℕ) (term : Term) → kept_at s mount term ≡ kept_at t mount term
  answers mount term = ap (λ (o : Option Body). unwrap_or (kept_for (option_map_or answers_in o []) term) []) (moves.bodies mount)

  -- it has the terms that it had
  atom-same : (term : Term) → atom s term item ≡ atom t term item
  atom-same term = at (is_document_at s.entries item) refl
    where
      by : State → Bool → Bool
      by x b = if b then has (kept_at x (parent_of x item) term) item else option_map_or (λ text. has_term text term) (shown_of x item) false

      at : (b : Bool) → is_document_at s.entries item ≡ b → atom s term item ≡ atom t term item
      at true is =
          ap (by s) is
          ∙ ap (λ (numbers : List ℕ). has numbers item) (answers (parent_of s item) term ∙ ap (λ (m : ℕ). kept_at t m term) (moves.home is))
          ∙ sym (ap (by t) (sym documents ∙ is))
      at false is =
          ap (by s) is
          ∙ ap (λ (text : Option (List ℕ)). option_map_or (λ text. has_term text term) text false) texts
          ∙ sym (ap (by t) (sym documents ∙ is))

  atoms-same : (terms : List Term) → AllByRecursion (λ term. atom s term item ≡ atom t term item) terms
  atoms-same [] = tt
  atoms-same (term ∷ terms) = (atom-same term, atoms-same terms)

  -- so each directory says the same of it, if those on which it depends provide it alike
  judges : (dir : ℕ) → JudgesAlike s t item dir
  judges dir = at (query_at s dir) refl
    where
      at : (o : Option (Formula ℕ)) → query_at s dir ≡ o → JudgesAlike s t item dir
      at None before = none-across s t item dir before (sym (queries dir) ∙ before)
      at (Some asked) before = judge-across s t item dir asked (record {
        before = before;
        after = sym (queries dir) ∙ before;
        items = items;
        judged = λ i. documents i || is_some (texts i);
        parents = moves.asking dir (ap (λ (o : Option (Formula ℕ)). is_some o) before);
        lending = lending dir;
        added = added dir;
        removed = removed dir;
        atoms = atoms-same (terms_of asked);
      })

  even : (a b : Bool) → not (beq a b) ≡ false → a ≡ b
  even true true h = refl
  even true false h = absurd cc
  even false true h = absurd cc
  even false false h = refl

  -- and they do, unless it leaves one or comes to one
  provides : (dir e : ℕ) → place_tells s t item dir ≡ false → Among (depends t dir) e → ProvidesAlike s t item e
  provides dir e still edge a b linked = λ i. below i || (is_some (queries e i) && (linked i || (added e i && items i)))
    where
      below : is_below s e item ≡ is_below t e item
      below = even (is_below s e item) (is_below t e item) (any-none (crosses s t item) (depends t dir) still e edge)

  place-leaves : LeavesAlike s t (place_tells s t item) item
  place-leaves = record { judges = λ dir still. judges dir; provides = λ dir e still edge apart. provides dir e still edge }

  -- judging begins at what depends on something
  place-begins : (dir : ℕ) → place_tells s t item dir ≡ true → depends t dir ≢ []
  place-begins dir is none = let never : false ≡ true = sym (ap (list_any (crosses s t item)) none) ∙ is in absurd cc

  -- so it is judged again wherever its place may tell
  pub covers-place : IsValid s → IsValid t → (way : Way) → IsWayOf t way → (stops all : List Stop) → all ≡ way.stops.items → stops ≡ needed (begun_at (place_tells s t item) all) → Covers s t stops item
  covers-place before after way w stops all same are =
      subst (λ (marked : List Stop). Covers s t marked item) (sym (are ∙ ap needed (ap (begun_at (place_tells s t item)) same ∙ begun-way t way w (place_tells s t item))))
      (covers-needed s t (stops_at (place_tells s t item) (leans t) w.order) item
      (covers-at s t (place_tells s t item) (leans t) w.order item (links-judged s before item) after w.ordered w.all (leans-well t t way w (λ dir. refl)) place-begins place-leaves))
