-- A directory that is made says nothing of an item that no query judges, and no other says anything else of it.
use Rattle.std.proofs.Common.{◌≡◌, ℕ, zero, suc, ◌<◌, Bool, true, false, List, [], ◌∷◌, ◌++◌, ap, arith, inr, refl, subst, sym, ◌∙◌}
use Rattle.std.proofs.lemmas.Bool.{eqb-true}
use Rattle.std.specs.Prelude.{◌&&◌, ◌||◌, ◌==◌, filter, Option, Some, None, IsTrue, is_some, option_and_then}
use Rattle.std.specs.List.{AllByRecursion, list_any}
use Rattle.std.specs.Option.{option_map, option_map_or}
use Rattle.hac_model.specs.Query.Formula.{Formula}
use Rattle.hac_model.specs.Tree.Asking.{with_told}
use Rattle.hac_model.specs.Tree.Depends.{Among, depends}
use Rattle.hac_model.specs.Tree.Events.{accepted, apply, is_possible}
use Rattle.hac_model.specs.Tree.Limits.{passed_limit}
use Rattle.hac_model.specs.Tree.Links.{has, is_below, is_item, is_judged, is_lent, is_permanent, is_semantic, is_unmarked, lenders, parent_of, passes, provide, query_at, satisfies}
use Rattle.hac_model.specs.Tree.Touched.{begins}
use Rattle.hac_model.specs.Tree.Valid.{IsLayout, IsValid, is_in_place}
use Rattle.hac_model.specs.Tree.{entry_at, extends, is_directory_at, path_of, permanent_in, query_in}
use Rattle.hac_model.specs.declared.events.Event.TheVariants as event
use Rattle.hac_model.specs.declared.states.Body.TheVariants.{Semantic}
use Rattle.hac_model.specs.declared.states.Entry.{Entry}
use Rattle.hac_model.specs.declared.states.State.{State}
use Rattle.hac_model.proofs.AcyclicLemmas.{apply-valid}
use Rattle.hac_model.proofs.ChangeLemmas.{all-weaker, entry_at-new}
use Rattle.hac_model.proofs.GainLemmas.{layout-told}
use Rattle.hac_model.proofs.PathLemmas.{Rises, extends-rises}
use Rattle.hac_model.proofs.TreeLemmas.{entry_at-all, entry_at-next, place-directory}
use Rattle.hac_model.proofs.ValidLemmas.{accepted-parts, directory-below, free-parts, smkdir-parts}
use Rattle.reeval.specs.Judging.{LeavesAlike, is_linked, judgement, no_verdict, verdict_of}
use Rattle.reeval.proofs.EventsLeave.{events-leave}
use Rattle.reeval.proofs.JudgeLemmas.{links-judged, verdicts-only}
use Rattle.kept_links.proofs.TouchLemmas.{item-there}

all-last : (P : Entry → Type 0) (es : List Entry) (e : Entry) → AllByRecursion P es → P e → AllByRecursion P (es ++ e ∷ [])
all-last P [] e all last = (last, tt)
all-last P (x ∷ es) e all last = (all.0, all-last P es e all.1 last)

module _ (s : State) (dir : ℕ) (name : List ℕ) (query : Formula ℕ) (told : List (List ℕ)) (valid : IsValid s) (ok : IsTrue (accepted s (event.Smkdir dir name query told))) where
  abbrev u : State
  u = with_told query told s

  abbrev new : Entry
  new = record { number = s.next; parent = dir; name = name; body = Semantic query [] [] }

  abbrev t : State
  t = apply s (event.Smkdir dir name query told)

  after : IsValid t
  after = apply-valid s (event.Smkdir dir name query told) valid ok

  layout : IsLayout u
  layout = layout-told s query told valid.layout

  come : entry_at t.entries s.next ≡ Some new
  come = entry_at-new u.entries new (entry_at-next 0 u.entries u.next s.next layout.numbers (omega arith))

  home : is_directory_at s.entries dir ≡ true
  home = (free-parts s dir name (smkdir-parts s dir name query told (accepted-parts (is_possible s (event.Smkdir dir name query told)) (passed_limit t) ok).0).0).0

  -- Nothing is below it.

  parents-low : AllByRecursion (λ (e : Entry). e.parent < s.next) t.entries
  parents-low =
      all-last (λ (e : Entry). e.parent < s.next) u.entries new
      (all-weaker (λ (e : Entry). IsTrue (is_in_place u.entries e)) (λ (e : Entry). e.parent < s.next) u.entries (λ e placed. directory-below u e.parent layout (place-directory u.entries e placed)) layout.places)
      (directory-below s dir valid.layout home)

  nobody : (steps n : ℕ) → Rises t.entries (suc steps) n s.next → ⊥
  nobody zero n (e, found, is) = let low = entry_at-all (λ (e : Entry). e.parent < s.next) t.entries n e parents-low found in absurd (omega (arith, low, is))
  nobody (suc steps) n (e, found, more) = nobody steps e.parent more

  below-new : (item : ℕ) → is_below t s.next item ≡ false
  below-new item = by (is_item t item) (is_directory_at t.entries s.next) (extends (path_of t item) (path_of t s.next)) refl refl
    where
      by : (a b c : Bool) → is_item t item ≡ a → extends (path_of t item) (path_of t s.next) ≡ c → (a && b && c) ≡ false
      by false b c there is = refl
      by true false c there is = refl
      by true true false there is = refl
      by true true true there is = let (steps, rises) = extends-rises t item s.next after.layout (inr (item-there t item there)) (inr (new, come)) is in absurd (nobody steps item rises)

  -- It wasn't there.

  unasked : query_at s s.next ≡ None
  unasked = ap (λ (o : Option Entry). option_and_then query_in (option_map (λ (e : Entry). e.body) o)) (entry_at-next 0 s.entries s.next s.next valid.layout.numbers (omega arith))

  no-place : is_directory_at s.entries s.next ≡ false
  no-place = at (is_directory_at s.entries s.next) refl
    where
      at : (b : Bool) → is_directory_at s.entries s.next ≡ b → b ≡ false
      at true there = let low = directory-below s s.next valid.layout there in absurd (omega (arith, low))
      at false there = refl

  said-before : (item : ℕ) → verdict_of s item s.next ≡ no_verdict
  said-before item =
      links-judged s valid item s.next
      ∙ (λ i. record {
        found = (is_some (unasked i) && is_item s item) && passes s (is_linked (verdict_of s item)) s.next item;
        lent = (is_some (unasked i) && is_item s item) && is_lent s (is_linked (verdict_of s item)) s.next item;
      })

  -- Nothing was added to it.

  added-none : (item : ℕ) → is_permanent t s.next item ≡ false
  added-none item = ap (λ (o : Option Entry). has (option_map_or permanent_in (option_map (λ (e : Entry). e.body) o) []) item) come

  lenders-none : lenders t s.next ≡ []
  lenders-none = ap (λ (o : Option Entry). filter (is_directory_at t.entries) (option_map_or permanent_in (option_map (λ (e : Entry). e.body) o) [])) come

  module _ (item : ℕ) (unjudged : is_judged t item ≡ false) where
    abbrev linked : ℕ → Bool
    linked = is_linked (verdict_of s item)

    alone : linked s.next ≡ false
    alone = λ i. (said-before item i).found || (said-before item i).lent

    provides-before : provide s linked s.next item ≡ false
    provides-before =
        (λ i. (is_item s item && no-place i && extends (path_of s item) (path_of s s.next)) || (is_some (unasked i) && (linked s.next || (is_permanent s s.next item && is_item s item))))
        ∙ out (is_item s item) (extends (path_of s item) (path_of s s.next))
      where
        out : (a c : Bool) → ((a && false && c) || false) ≡ false
        out true c = refl
        out false c = refl

    provides-after : provide t linked s.next item ≡ false
    provides-after =
        (λ i. below-new item i || (is_semantic t s.next && (alone i || (added-none item i && is_item t item))))
        ∙ out (is_semantic t s.next)
      where
        out : (a : Bool) → (false || (a && (false || false))) ≡ false
        out true = refl
        out false = refl

    said-after : judgement t linked item s.next ≡ no_verdict
    said-after =
        ap (λ (judged : Bool). record {
          found = (is_semantic t s.next && is_item t item) && (provide t linked (parent_of t s.next) item && judged && satisfies t linked s.next item && is_unmarked t s.next item);
          lent = (is_semantic t s.next && is_item t item) && is_lent t linked s.next item;
        }) unjudged
        ∙ ap (λ (ks : List ℕ). record {
          found = (is_semantic t s.next && is_item t item) && (provide t linked (parent_of t s.next) item && false && satisfies t linked s.next item && is_unmarked t s.next item);
          lent = (is_semantic t s.next && is_item t item) && list_any (λ lender. provide t linked lender item) ks;
        }) lenders-none
        ∙ out (is_semantic t s.next && is_item t item) (provide t linked (parent_of t s.next) item) (satisfies t linked s.next item) (is_unmarked t s.next item)
      where
        out : (a p q r : Bool) → record { found = a && (p && false && q && r); lent = a && false } ≡ no_verdict
        out true true q r = refl
        out true false q r = refl
        out false p q r = refl

    alike : LeavesAlike s t (begins s (event.Smkdir dir name query told)) item
    alike = events-leave s (event.Smkdir dir name query told) valid ok item refl

    elsewhere : (d : ℕ) → (d == s.next) ≡ false → begins s (event.Smkdir dir name query told) d ≡ false
    elsewhere d other = λ i. other i || false || false

    provides-same : (d e : ℕ) → (d == s.next) ≡ false → Among (depends t d) e → provide s linked e item ≡ provide t linked e item
    provides-same d e other edge = at (e == s.next) refl
      where
        at : (b : Bool) → (e == s.next) ≡ b → provide s linked e item ≡ provide t linked e item
        at true here = subst (λ (n : ℕ). provide s linked n item ≡ provide t linked n item) (sym (eqb-true e s.next here)) (provides-before ∙ sym provides-after)
        at false away = alike.provides d e (elsewhere d other) edge (elsewhere e away) linked linked refl

    own : (d : ℕ) → verdict_of s item d ≡ judgement t linked item d
    own d = at (d == s.next) refl
      where
        at : (b : Bool) → (d == s.next) ≡ b → verdict_of s item d ≡ judgement t linked item d
        at true here = subst (λ (n : ℕ). verdict_of s item n ≡ judgement t linked item n) (sym (eqb-true d s.next here)) (said-before item ∙ sym said-after)
        at false other = links-judged s valid item d ∙ alike.judges d (elsewhere d other) linked linked (λ e edge. provides-same d e other edge)

    pub passed-over : (d : ℕ) → verdict_of s item d ≡ verdict_of t item d
    passed-over d = verdicts-only t after item (verdict_of s item) own d
