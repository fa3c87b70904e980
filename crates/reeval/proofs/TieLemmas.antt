-- What a directory finds to which an event adds another, or from which it takes one.
use Rattle.std.proofs.Common.{◌≡◌, ℕ, Bool, true, false, List, subst, refl, ap, sym, ◌∙◌}
use Rattle.std.specs.Prelude.{◌==◌, ◌&&◌, ◌||◌, if◌then◌else◌, Option, Some, None, IsTrue}
use Rattle.std.specs.Option.{option_map, option_map_or}
use Rattle.std.proofs.lemmas.Bool.{eqb-true}
use Rattle.hac_model.specs.Query.Formula.{Formula}
use Rattle.hac_model.specs.Tree.Events.{accepted, apply, edited, marked}
use Rattle.hac_model.specs.Tree.Facts.{Facts, Marks, facts_of, facts_with, with_mark}
use Rattle.hac_model.specs.Tree.Links.{has, is_item, is_permanent, is_prohibited, parent_of, query_at}
use Rattle.hac_model.specs.Tree.Touched.{begins, is_the, tied, touches}
use Rattle.hac_model.specs.Tree.Valid.{IsValid}
use Rattle.hac_model.specs.Tree.{is_directory, is_directory_at}
use Rattle.hac_model.specs.declared.events.Event.{Event}
use Rattle.hac_model.specs.declared.events.Event.TheVariants as event
use Rattle.hac_model.specs.declared.marks.Mark.{Mark}
use Rattle.hac_model.specs.declared.states.Body.{Body}
use Rattle.hac_model.specs.declared.states.Entry.{Entry}
use Rattle.hac_model.specs.declared.states.State.{State}
use Rattle.hac_model.proofs.AcyclicLemmas.{apply-valid, edge-directory}
use Rattle.hac_model.proofs.FactLemmas.{facts-law, permanent-fact, prohibited-fact}
use Rattle.hac_model.proofs.KindLemmas.{keeps-directory, role-marked}
use Rattle.hac_model.proofs.ViewLemmas.{seen-kept}
use Rattle.reeval.specs.Judging.{FindsAlike, TiesAlike}
use Rattle.reeval.specs.declared.verdicts.Verdict.{Verdict}
use Rattle.reeval.proofs.AlikeLemmas.{finds-across, none-across}
use Rattle.reeval.proofs.AskOwes.{mark-owes, marked-added, marked-removed}
use Rattle.reeval.proofs.EventLemmas.{Owes, alike, items-same, query_of}
use Rattle.reeval.proofs.LeaveLemmas.{IsAlike, atoms-same, judged-same, no_item-judged, none-provided, provided-same}
use Rattle.reeval.proofs.OweLemmas.{marked-query}

module _ (s : State) (mark : Mark) (item : ℕ) (h : IsValid s) (ok : IsTrue (accepted s (event.Mark mark))) (untouched : touches s (event.Mark mark) item ≡ false) where
  abbrev t : State
  t = apply s (event.Mark mark)

  abbrev edit : Body → Body
  edit = marked mark.item mark.kind

  -- what the mark owes where judging doesn't begin
  owes : Owes s (event.Mark mark) item
  owes = mark-owes s item h mark ok untouched

  after : IsValid t
  after = apply-valid s (event.Mark mark) h ok

  -- What a mark leaves of each entry: its query, its directory, and that it is a directory.

  queries : (n : ℕ) → query_at s n ≡ query_at t n
  queries n = sym (seen-kept query_of s.entries mark.dir (edited edit) (λ e. refl) (λ e. marked-query mark.item mark.kind e.body) n)

  parents : (n : ℕ) → parent_of s n ≡ parent_of t n
  parents n = sym (seen-kept (λ (o : Option Entry). option_map_or (λ (e : Entry). e.parent) o 0) s.entries mark.dir (edited edit) (λ e. refl) (λ e. refl) n)

  directories : (n : ℕ) → is_directory_at s.entries n ≡ is_directory_at t.entries n
  directories n = ap (λ (b : Bool). n == 0 || b)
      (sym (seen-kept (λ (o : Option Entry). option_map_or is_directory (option_map (λ (e : Entry). e.body) o) false) s.entries mark.dir (edited edit) (λ e. refl) (λ e. keeps-directory edit (role-marked mark.item mark.kind) e.body) n))

  -- What it leaves of an item that it doesn't touch.

  module _ (is : is_item s item ≡ true) where
    -- what is asked of it, and of directories where judging doesn't begin
    same : IsAlike s t (begins s (event.Mark mark)) item
    same = alike s (event.Mark mark) item h ok owes is

    -- the mark is on another number
    other : (item == mark.item) ≡ false
    other = elim (item == mark.item) as (λ b. (b && is_item s item) ≡ false → b ≡ false) [
      | true ↦ (λ untouched. let never : true ≡ false = sym is ∙ untouched in absurd cc)
      | false ↦ (λ _. refl)
    ] untouched

    -- the item's marks in any directory, the marked one too
    marks-stay : (view : Marks → List ℕ) → ((marks : Marks) → has (view marks) item ≡ has (view (with_mark mark.kind mark.item marks)) item) →
        (n : ℕ) → has (view (facts_of s n).marks) item ≡ has (view (facts_of t n).marks) item
    marks-stay view kept n =
        subst (λ (f : Facts). has (view (facts_of s n).marks) item ≡ has (view f.marks) item) (sym (facts-law s h (event.Mark mark) ok n))
        (elim (n == mark.dir) as (λ b. (n == mark.dir) ≡ b → has (view (facts_of s n).marks) item ≡ has (view (if b then new else facts_of s n).marks) item) [
          | true ↦ (λ here. ap (λ (m : ℕ). has (view (facts_of s m).marks) item) (eqb-true n mark.dir here) ∙ kept (facts_of s mark.dir).marks)
          | false ↦ (λ _. refl)
        ] refl)
      where
        new : Facts
        new = facts_with s (parent_of s mark.dir) (query_at s mark.dir) (with_mark mark.kind mark.item (facts_of s mark.dir).marks) (facts_of s mark.dir)

    -- so any directory to which it was added still has it
    added : (n : ℕ) → is_permanent s n item ≡ is_permanent t n item
    added n =
        ap (λ (ks : List ℕ). has ks item) (permanent-fact s n)
        ∙ marks-stay (λ marks. marks.permanent) (marked-added mark.item item other mark.kind) n
        ∙ ap (λ (ks : List ℕ). has ks item) (sym (permanent-fact t n))

    -- and any from which it was removed still lacks it
    removed : (n : ℕ) → is_prohibited s n item ≡ is_prohibited t n item
    removed n =
        ap (λ (ks : List ℕ). has ks item) (prohibited-fact s n)
        ∙ marks-stay (λ marks. marks.prohibited) (marked-removed mark.item item other mark.kind) n
        ∙ ap (λ (ks : List ℕ). has ks item) (sym (prohibited-fact t n))

    -- and any directory finds it alike, if those on which it depends provide it alike
    finds-same : (dir : ℕ) → FindsAlike s t item dir
    finds-same dir = at (query_at s dir) refl
      where
        at : (o : Option (Formula ℕ)) → query_at s dir ≡ o → FindsAlike s t item dir
        at None asks = λ a b provided. ap (λ (v : Verdict). v.found) (none-across s t item dir asks (sym (queries dir) ∙ asks) a b provided)
        at (Some asked) asks = finds-across s t item dir asked (record {
          before = asks;
          after = sym (queries dir) ∙ asks;
          items = same.items;
          judged = judged-same s t h after (begins s (event.Mark mark)) item same;
          parents = parents dir;
          added = added dir;
          removed = removed dir;
          atoms = atoms-same s t h after (begins s (event.Mark mark)) item same dir asked asks;
        })

  -- The same of what may be no item.

  -- what each directory finds is left alike, and what it depends on provides the item as before
  mark-ties : (dir : ℕ) → TiesAlike s t (begins s (event.Mark mark)) item dir
  mark-ties dir = at (is_item s item) refl
    where
      at : (b : Bool) → is_item s item ≡ b → TiesAlike s t (begins s (event.Mark mark)) item dir
      at true is = record {
        finds = finds-same is dir;
        provides = λ e edge.
            let there = edge-directory t dir e after edge in
            provided-same s t h after (begins s (event.Mark mark)) item (same is) e (directories e ∙ there) there;
      }
      at false none =
          let gone : is_item t item ≡ false = sym (items-same s (event.Mark mark) item h ok owes) ∙ none in
          record {
            finds = λ a b provided. ap (λ (v : Verdict). v.found) (no_item-judged s a item dir none ∙ sym (no_item-judged t b item dir gone));
            provides = λ e edge apart. none-provided s t item e none gone (queries e);
          }

-- and nothing but a mark adds a directory to another, or takes it from there
pub ties-leave : (s : State) (event : Event) → IsValid s → IsTrue (accepted s event) → (item : ℕ) → touches s event item ≡ false → (dir : ℕ) → is_the (tied s event) dir ≡ true → TiesAlike s (apply s event) (begins s event) item dir
ties-leave s (event.Mark mark) h ok item untouched dir tie = mark-ties s mark item h ok untouched dir
ties-leave s other h ok item untouched dir tie = absurd cc
