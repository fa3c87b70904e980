-- What events owe that mark an item, or give a directory a query.
use Rattle.std.proofs.Common.{◌≡◌, ℕ, Bool, true, false, List, [], ◌∷◌, ◌++◌, subst, refl, ap, sym, ◌∙◌}
use Rattle.std.specs.Prelude.{◌==◌, ◌&&◌, ◌||◌, filter, if◌then◌else◌, nat_lt, not, Option, Some, None, IsTrue}
use Rattle.std.specs.Option.{option_map, option_map_or}
use Rattle.std.proofs.lemmas.Bool.{eqb-false, eqb-true, ne_eqb}
use Rattle.hac_model.specs.Query.Formula.{Formula}
use Rattle.hac_model.specs.Tree.Asking.{gained, gaining, with_told}
use Rattle.hac_model.specs.Tree.Depends.{named_in}
use Rattle.hac_model.specs.Tree.Events.{accepted, added, apply, asking, changed_at, edited, is_possible, marked, put_in, without}
use Rattle.hac_model.specs.Tree.Facts.{Facts, Marks, facts_after, facts_of, facts_told, facts_with, no_facts, put_at, with_mark}
use Rattle.hac_model.specs.Tree.Limits.{passed_limit}
use Rattle.hac_model.specs.Tree.Links.{answers_at, has, is_item, parent_of, query_at}
use Rattle.hac_model.specs.Tree.Mounts.{is_kept, kept_for}
use Rattle.hac_model.specs.Tree.Touched.{begins, is_the, touches}
use Rattle.hac_model.specs.Tree.Valid.{IsValid, NumbersRise}
use Rattle.hac_model.specs.Tree.{entry_at, is_directory_at}
use Rattle.hac_model.specs.declared.events.Event.TheVariants as event
use Rattle.hac_model.specs.declared.marks.Kind.{Kind}
use Rattle.hac_model.specs.declared.marks.Kind.TheVariants.{Transient, Permanent, Prohibited, Unlinked}
use Rattle.hac_model.specs.declared.marks.Mark.{Mark}
use Rattle.hac_model.specs.declared.states.Answer.{Answer}
use Rattle.hac_model.specs.declared.states.Body.TheVariants.{Semantic}
use Rattle.hac_model.specs.declared.states.Entry.{Entry}
use Rattle.hac_model.specs.declared.states.State.{State}
use Rattle.hac_model.specs.declared.terms.Term.{Term}
use Rattle.hac_model.proofs.AcyclicLemmas.{apply-valid}
use Rattle.hac_model.proofs.AskLemmas.{item-no_directory}
use Rattle.hac_model.proofs.FactLemmas.{edges-told, permanent-fact}
use Rattle.hac_model.proofs.GainLemmas.{entry_at-gains, layout-told}
use Rattle.hac_model.proofs.MarkLemmas.{has-put_in}
use Rattle.hac_model.proofs.ValidLemmas.{accepted-parts, setq-parts}
use Rattle.hac_model.proofs.ViewLemmas.{seen-added, seen-changed, seen-kept, seen-plain}
use Rattle.reeval.proofs.EventLemmas.{FactsAlike, Owes, item_in, owed-below, query_of, same-facts}
use Rattle.reeval.proofs.OweLemmas.{AllStayIn, added-stay, all-parents, all-then, asking-item, edited-stay, gaining-item, gaining-query, marked-item, marked-query, mount-other, none-of, own-mount, put-other, told-kept}
use Rattle.reeval.proofs.TreeOwes.{apart-mount, has-other}

-- Marks on what is no directory.

module _ (is_dir : ℕ → Bool) (n : ℕ) (plain : is_dir n ≡ false) where
  left-without : (ks : List ℕ) → filter is_dir (without n ks) ≡ filter is_dir ks
  left-without [] = refl
  left-without (k ∷ ks) =
      elim (k == n) as (λ b. (k == n) ≡ b → filter is_dir (if not b then k ∷ without n ks else without n ks) ≡ filter is_dir (k ∷ ks)) [
        | true ↦ (λ same. left-without ks ∙ sym (ap (λ (b : Bool). if b then k ∷ filter is_dir ks else filter is_dir ks) (ap is_dir (eqb-true k n same) ∙ plain)))
        | false ↦ (λ other. ap (λ (rest : List ℕ). if is_dir k then k ∷ rest else rest) (left-without ks))
      ] refl

  left-put : (ks : List ℕ) → filter is_dir (put_in n ks) ≡ filter is_dir ks
  left-put [] = ap (λ (b : Bool). if b then n ∷ [] else []) plain
  left-put (k ∷ ks) =
      elim (nat_lt n k) as (λ b. filter is_dir (if b then n ∷ k ∷ ks else k ∷ put_in n ks) ≡ filter is_dir (k ∷ ks)) [
        | true ↦ ap (λ (b : Bool). if b then n ∷ filter is_dir (k ∷ ks) else filter is_dir (k ∷ ks)) plain
        | false ↦ ap (λ (rest : List ℕ). if is_dir k then k ∷ rest else rest) (left-put ks)
      ]

  pub marked-lenders : (kind : Kind) (marks : Marks) → filter is_dir marks.permanent ≡ filter is_dir (with_mark kind n marks).permanent
  marked-lenders Permanent marks = sym (left-put (without n marks.permanent) ∙ left-without marks.permanent)
  marked-lenders Prohibited marks = sym (left-without marks.permanent)
  marked-lenders Transient marks = sym (left-without marks.permanent)
  marked-lenders Unlinked marks = sym (left-without marks.permanent)

-- Marks on another item.

module _ (n item : ℕ) (other : (item == n) ≡ false) where
  put-has : (ks : List ℕ) → has ks item ≡ has (put_in n (without n ks)) item
  put-has ks =
      has-other n ks item other
      ∙ sym (has-put_in n (without n ks) item ∙ ap (λ (b : Bool). b || has (without n ks) item) (ne_eqb n item (λ same. eqb-false item n other (sym same))))

  pub marked-added : (kind : Kind) (marks : Marks) → has marks.permanent item ≡ has (with_mark kind n marks).permanent item
  marked-added Permanent marks = put-has marks.permanent
  marked-added Prohibited marks = has-other n marks.permanent item other
  marked-added Transient marks = has-other n marks.permanent item other
  marked-added Unlinked marks = has-other n marks.permanent item other

  pub marked-removed : (kind : Kind) (marks : Marks) → has marks.prohibited item ≡ has (with_mark kind n marks).prohibited item
  marked-removed Permanent marks = has-other n marks.prohibited item other
  marked-removed Prohibited marks = put-has marks.prohibited
  marked-removed Transient marks = has-other n marks.prohibited item other
  marked-removed Unlinked marks = has-other n marks.prohibited item other

-- Facts of which one number has others.

pub put-alike : (item : ℕ) (facts : ℕ → Facts) (k : ℕ) (new : Facts) (n : ℕ) → FactsAlike item (facts k) new → FactsAlike item (facts n) (put_at facts k new n)
put-alike item facts k new n alike =
    elim (n == k) as (λ b. (n == k) ≡ b → FactsAlike item (facts n) (if b then new else facts n)) [
      | true ↦ (λ here. subst (λ (m : ℕ). FactsAlike item (facts m) new) (sym (eqb-true n k here)) alike)
      | false ↦ (λ _. same-facts item (facts n) (facts n) refl)
    ] refl

pub put-answers : (facts : ℕ → Facts) (k : ℕ) (new : Facts) (n : ℕ) (term : Term) → (facts k).answers ≡ new.answers → kept_for (facts n).answers term ≡ kept_for (put_at facts k new n).answers term
put-answers facts k new n term same =
    elim (n == k) as (λ b. (n == k) ≡ b → kept_for (facts n).answers term ≡ kept_for (if b then new else facts n).answers term) [
      | true ↦ (λ here. ap (λ (m : ℕ). kept_for (facts m).answers term) (eqb-true n k here) ∙ ap (λ (answers : List Answer). kept_for answers term) same)
      | false ↦ (λ _. refl)
    ] refl

module _ (s : State) (item : ℕ) (h : IsValid s) where
  -- A mark.

  module _ (mark : Mark) (ok : IsTrue (accepted s (event.Mark mark))) (untouched : touches s (event.Mark mark) item ≡ false) where
    abbrev new : Facts
    new = facts_with s (parent_of s mark.dir) (query_at s mark.dir) (with_mark mark.kind mark.item (facts_of s mark.dir).marks) (facts_of s mark.dir)

    -- where the mark is on another item
    marked-facts : is_item s mark.item ≡ true → FactsAlike item (facts_of s mark.dir) new
    marked-facts is = record {
      edges =
          sym (edges-told s mark.dir)
          ∙ ap (λ (ks : List ℕ). option_map_or (λ (asked : Formula ℕ). parent_of s mark.dir ∷ named_in asked ++ filter (is_directory_at s.entries) ks) (query_at s mark.dir) []) (permanent-fact s mark.dir)
          ∙ ap (λ (linked : List ℕ). option_map_or (λ (asked : Formula ℕ). parent_of s mark.dir ∷ named_in asked ++ linked) (query_at s mark.dir) []) (marked-lenders (is_directory_at s.entries) mark.item (plain (is_directory_at s.entries mark.item) refl) mark.kind (facts_of s mark.dir).marks);
      added = marked-added mark.item item other mark.kind (facts_of s mark.dir).marks;
      removed = marked-removed mark.item item other mark.kind (facts_of s mark.dir).marks;
    }
      where
        plain : (b : Bool) → is_directory_at s.entries mark.item ≡ b → is_directory_at s.entries mark.item ≡ false
        plain false none = none
        plain true there = absurd (item-no_directory s mark.item mark.item h.layout is there refl)

        other : (item == mark.item) ≡ false
        other = elim (item == mark.item) as (λ b. (item == mark.item) ≡ b → (b && is_item s item) ≡ false → b ≡ false) [
          | true ↦ (λ here untouched. let never : true ≡ false = sym is ∙ ap (is_item s) (sym (eqb-true item mark.item here)) ∙ untouched in absurd cc)
          | false ↦ (λ _ _. refl)
        ] refl untouched

    mark-facts : (d : ℕ) → begins s (event.Mark mark) d ≡ false → FactsAlike item (facts_of s d) (put_at (facts_of s) mark.dir new d)
    mark-facts d still = at (is_item s mark.item) refl
      where
        tie : is_the (if is_item s mark.item then None else Some mark.dir) d ≡ false
        tie = (none-of false (is_the (if is_item s mark.item then None else Some mark.dir) d) false still).1

        at : (b : Bool) → is_item s mark.item ≡ b → FactsAlike item (facts_of s d) (put_at (facts_of s) mark.dir new d)
        at true is = put-alike item (facts_of s) mark.dir new d (marked-facts is)
        at false none = same-facts item (facts_of s d) (put_at (facts_of s) mark.dir new d) (put-other (facts_of s) mark.dir new d (ap (λ (b : Bool). is_the (if b then None else Some mark.dir) d) (sym none) ∙ tie))

    pub mark-owes : Owes s (event.Mark mark) item
    mark-owes =
        let edit = marked mark.item mark.kind in
        record {
          sight = sym (seen-kept item_in s.entries mark.dir (edited edit) (λ e. refl) (λ e. marked-item mark.item mark.kind e.parent e.body) item);
          queries = λ d still. sym (seen-kept query_of s.entries mark.dir (edited edit) (λ e. refl) (λ e. marked-query mark.item mark.kind e.body) d);
          facts = λ is. mark-facts;
          answers = λ mount own term known. put-answers (facts_of s) mark.dir new mount term refl;
          below = owed-below s (changed_at s mark.dir (edited edit)) item h (apply-valid s (event.Mark mark) h ok) (all-parents s (changed_at s mark.dir (edited edit)) (edited-stay s mark.dir edit));
        }

  -- A query.

  module _ (asked : Formula ℕ) (told : List (List ℕ)) where
    abbrev u : State
    u = with_told asked told s

    abbrev more : ℕ → List Answer
    more = gained (answers_at s) asked told s.entries

    abbrev gains : Entry → Entry
    gains e = edited (gaining (more e.number)) e

    -- what isn't kept is seen as before
    told-view : {X : Type 0} (view : Option Entry → X) → ((e : Entry) → view (Some (gains e)) ≡ view (Some e)) → (n : ℕ) → view (entry_at u.entries n) ≡ view (entry_at s.entries n)
    told-view view same n = ap view (entry_at-gains more s.entries n) ∙ at (entry_at s.entries n)
      where
        at : (o : Option Entry) → view (option_map gains o) ≡ view o
        at None = refl
        at (Some e) = same e

    told-stay : AllStayIn s u
    told-stay n e found = record { entry = gains e; found = entry_at-gains more s.entries n ∙ ap (option_map gains) found; parent = refl }

    told-sight : item_in (entry_at s.entries item) ≡ item_in (entry_at u.entries item)
    told-sight = sym (told-view item_in (λ e. gaining-item (more e.number) e.parent e.body) item)

    told-query : (d : ℕ) → query_at s d ≡ query_at u d
    told-query d = sym (told-view query_of (λ e. gaining-query (more e.number) e.body) d)

    told-facts : (k : ℕ) (new : Facts) (d : ℕ) → (d == k) ≡ false → FactsAlike item (facts_of s d) (put_at (facts_told asked told s (facts_of s)) k new d)
    told-facts k new d other =
        subst (FactsAlike item (facts_of s d)) (put-other (facts_told asked told s (facts_of s)) k new d other) (record { edges = refl; added = refl; removed = refl })

    told-answers : (k : ℕ) (new : Facts) (mount : ℕ) (term : Term) → (mount == k) ≡ false → is_kept (facts_of s mount).answers term ≡ true →
        kept_for (facts_of s mount).answers term ≡ kept_for (put_at (facts_told asked told s (facts_of s)) k new mount).answers term
    told-answers k new mount term other known =
        told-kept (λ m. (facts_of s m).answers) asked told s.entries mount term known
        ∙ ap (λ (f : Facts). kept_for f.answers term) (put-other (facts_told asked told s (facts_of s)) k new mount other)

    pub setq-owes : (dir : ℕ) → IsTrue (accepted s (event.Setq dir asked told)) → Owes s (event.Setq dir asked told) item
    setq-owes dir ok =
        let parts = setq-parts s dir asked told (accepted-parts (is_possible s (event.Setq dir asked told)) (passed_limit (apply s (event.Setq dir asked told))) ok).0 in
        let here : ℕ → Facts = facts_after (event.Setq dir asked told) s (facts_of s) in
        let new : Facts = facts_with s (parent_of s dir) (Some asked) (facts_of s dir).marks (facts_of s dir) in
        record {
          sight = told-sight ∙ sym (seen-kept item_in u.entries dir (edited (asking asked)) (λ e. refl) (λ e. asking-item asked e.parent e.body) item);
          queries = λ d still. told-query d ∙ put-other (query_at u) dir (query_of (option_map (edited (asking asked)) (entry_at u.entries dir))) d (none-of (d == dir) false false still).0
              ∙ sym (seen-changed query_of u.entries dir (edited (asking asked)) (λ e. refl) d);
          facts = λ is d still. told-facts dir new d (none-of (d == dir) false false still).0;
          answers = λ mount own term known. told-answers dir new mount term (apart-mount s item h mount dir own parts.4) known;
          below = owed-below s (changed_at u dir (edited (asking asked))) item h (apply-valid s (event.Setq dir asked told) h ok)
              (all-parents s (changed_at u dir (edited (asking asked))) (all-then s u (changed_at u dir (edited (asking asked))) told-stay (edited-stay u dir (asking asked))));
        }

    pub smkdir-owes : (dir : ℕ) (name : List ℕ) → IsTrue (accepted s (event.Smkdir dir name asked told)) → Owes s (event.Smkdir dir name asked told) item
    smkdir-owes dir name ok =
        let entry : Entry = record { number = s.next; parent = dir; name = name; body = Semantic asked [] [] } in
        let rise : NumbersRise 0 u.entries s.next = (layout-told s asked told h.layout).numbers in
        let new : Facts = record no_facts { edges = dir ∷ named_in asked } in
        record {
          sight = told-sight ∙ sym (seen-plain item_in u.entries entry rise refl item);
          queries = λ d still. told-query d ∙ put-other (query_at u) s.next (query_of (Some entry)) d (none-of (d == s.next) false false still).0 ∙ sym (seen-added query_of u.entries entry rise d);
          facts = λ is d still. told-facts s.next new d (none-of (d == s.next) false false still).0;
          answers = λ mount own term known. told-answers s.next new mount term (mount-other s mount h (own-mount s mount item h own)) known;
          below = owed-below s (added u dir name entry.body) item h (apply-valid s (event.Smkdir dir name asked told) h ok)
              (all-parents s (added u dir name entry.body) (all-then s u (added u dir name entry.body) told-stay (added-stay u dir name entry.body)));
        }
