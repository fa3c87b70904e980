-- The mark of each item in a directory after an event, by the marks before it.
use Rattle.std.proofs.Common.{◌≡◌, ℕ, Bool, true, false, cond, List, ◌∷◌, refl, ap, sym, ◌∙◌, eq-eqb}
use Rattle.std.specs.Prelude.{◌==◌, ◌&&◌, ◌||◌, not, Option, Some, None, IsTrue, option_and_then}
use Rattle.std.specs.Option.{option_map, option_map_or}
use Rattle.std.proofs.lemmas.Bool.{eqb-false, eqb-true, ne_eqb}
use Rattle.hac_model.specs.Tree.Depends.{named_in}
use Rattle.hac_model.specs.Tree.Events.{accepted, apply, may_mark, put_in, without}
use Rattle.hac_model.specs.Tree.Facts.{Facts, Marks, bare_after, facts_after, facts_of, facts_told, facts_with, facts_without, marks_without, no_facts, no_marks, with_mark}
use Rattle.hac_model.specs.Tree.Links.{has, is_item, parent_of, query_at}
use Rattle.hac_model.specs.Tree.Mounting.{answers_to, fresh, is_gone, is_of_mount, is_such_at, numbers_without, without_such}
use Rattle.hac_model.specs.Tree.Mounts.{terms_to_ask}
use Rattle.hac_model.specs.Tree.Valid.{IsLayout}
use Rattle.hac_model.specs.Tree.{entry_at, is_linkable}
use Rattle.hac_model.specs.declared.events.Event.{Event}
use Rattle.hac_model.specs.declared.events.Event.TheVariants as event
use Rattle.hac_model.specs.declared.marks.Kind.{Kind}
use Rattle.hac_model.specs.declared.marks.Kind.TheVariants.{Transient, Permanent, Prohibited, Unlinked}
use Rattle.hac_model.specs.declared.states.Entry.{Entry}
use Rattle.hac_model.specs.declared.states.State.{State}
use Rattle.hac_model.proofs.FillLemmas.{tree-law}
use Rattle.hac_model.proofs.MarkLemmas.{has-filter, has-put_in, has-without}
use Rattle.hac_model.proofs.MountAskLemmas.{entry_at-filter}
use Rattle.hac_model.proofs.MountLayoutLemmas.{entry_at-documents}
use Rattle.hac_model.proofs.TreeLemmas.{entry_at-below, entry_of}
use Rattle.hac_model.proofs.ValidLemmas.{mark-parts}
use Rattle.hac_model.proofs.ViewLemmas.{seen-removed}
use Rattle.link_kinds.specs.Seen.{kind_at}
use Rattle.kept_facts.specs.After.{mark_after}
use Rattle.kept_state.specs.Parts.{IsLinked, facts_kept, state_of}
use Rattle.kept_state.specs.Readers.{mark_at}
use Rattle.kept_state.specs.declared.parts.Parts.{Parts}
use Rattle.kept_state.proofs.MountPutLemmas.{going-mount, no-marks, sync-there}
use Rattle.kept_state.proofs.PutLemmas.{next-none}
use Rattle.kept_state.proofs.ReaderLemmas.{mark-told, marks-of}
use Rattle.kept_state.proofs.ReadyLemmas.{possible-of}
use Rattle.kept_state.proofs.StateLemmas.{kept-bares, same-item, same-next-bare, tree-layout}
use Rattle.hac_model.proofs.FactLemmas.{permanent-fact, prohibited-fact}

-- Marks of one directory.

abbrev kind_by : Bool → Bool → Kind
kind_by permanent prohibited = cond permanent Permanent (cond prohibited Prohibited Unlinked)

-- the mark of an item among these
abbrev pub mark_in : Marks → ℕ → Kind
mark_in marks item = kind_by (has marks.permanent item) (has marks.prohibited item)

put-has : (n : ℕ) (xs : List ℕ) → has (put_in n xs) n ≡ true
put-has n xs = has-put_in n xs n ∙ ap (λ (b : Bool). b || has xs n) (eq-eqb n n refl)

without-other : (n m : ℕ) (xs : List ℕ) → (m == n) ≡ false → has (without n xs) m ≡ has xs m
without-other n m xs other = has-filter (λ x. not (x == n)) xs m ∙ ap (λ (b : Bool). not b && has xs m) other

put-other : (n m : ℕ) (xs : List ℕ) → (m == n) ≡ false → has (put_in n (without n xs)) m ≡ has xs m
put-other n m xs other =
    has-put_in n (without n xs) m
    ∙ ap (λ (b : Bool). b || has (without n xs) m) (ne_eqb n m (λ same. eqb-false m n other (sym same)))
    ∙ without-other n m xs other

-- the item that gets a mark has it
marked-item : (s : State) (dir item : ℕ) (kind : Kind) (old : Marks) → may_mark s dir item kind ≡ true → kind ≡ mark_in (with_mark kind item old) item
marked-item s dir item Transient old may = absurd cc
marked-item s dir item Permanent old may = λ i. kind_by (sym (put-has item (without item old.permanent)) i) (has (without item old.prohibited) item)
marked-item s dir item Prohibited old may = λ i. kind_by (sym (has-without item old.permanent) i) (sym (put-has item (without item old.prohibited)) i)
marked-item s dir item Unlinked old may = λ i. kind_by (sym (has-without item old.permanent) i) (sym (has-without item old.prohibited) i)

-- the others have theirs
marked-other : (kind : Kind) (n item : ℕ) (old : Marks) → (item == n) ≡ false → mark_in old item ≡ mark_in (with_mark kind n old) item
marked-other Transient n item old other = λ i. kind_by (sym (without-other n item old.permanent other) i) (sym (without-other n item old.prohibited other) i)
marked-other Permanent n item old other = λ i. kind_by (sym (put-other n item old.permanent other) i) (sym (without-other n item old.prohibited other) i)
marked-other Prohibited n item old other = λ i. kind_by (sym (without-other n item old.permanent other) i) (sym (put-other n item old.prohibited other) i)
marked-other Unlinked n item old other = λ i. kind_by (sym (without-other n item old.permanent other) i) (sym (without-other n item old.prohibited other) i)

-- an item that doesn't go keeps its mark
such-other : (test : ℕ → Bool) (item : ℕ) (old : Marks) → test item ≡ false → mark_in old item ≡ mark_in (marks_without test old) item
such-other test item old other = λ i. kind_by (sym (left old.permanent) i) (sym (left old.prohibited) i)
  where
    left : (xs : List ℕ) → has (numbers_without test xs) item ≡ has xs item
    left xs = has-filter (λ n. not (test n)) xs item ∙ ap (λ (b : Bool). not b && has xs item) other

-- the mark of a state is among its facts
pub mark-fact : (s : State) (dir item : ℕ) → mark_at s dir item ≡ mark_in (facts_of s dir).marks item
mark-fact s dir item = λ i. kind_by (has (permanent-fact s dir i) item) (has (prohibited-fact s dir i) item)

-- What is an item after an event doesn't go by it.

abbrev tested : Option Entry → Bool
tested found = option_map_or is_linkable (option_map (λ (x : Entry). x.body) found) false

not-removed : (t : State) (entry item : ℕ) → is_item (bare_after (event.Rm entry) t) item ≡ true → (item == entry) ≡ false
not-removed t entry item there = at (item == entry) (sym (seen-removed tested t.entries entry item) ∙ there)
  where
    at : (b : Bool) → cond b false (is_item t item) ≡ true → b ≡ false
    at true there = absurd cc
    at false there = refl

not-such : (test : Entry → Bool) (t : State) (item : ℕ) → IsLayout t → is_item (without_such test t) item ≡ true → is_such_at test t.entries item ≡ false
not-such test t item layout there = at (entry_at t.entries item) (sym (ap tested (entry_at-filter (λ e. not (test e)) 0 t.entries t.next item layout.numbers)) ∙ there)
  where
    one : (e : Entry) (b : Bool) → tested (cond (not b) (Some e) None) ≡ true → b ≡ false
    one e true there = absurd cc
    one e false there = refl

    at : (o : Option Entry) → tested (option_and_then (λ (e : Entry). cond (not (test e)) (Some e) None) o) ≡ true → option_map_or test o false ≡ false
    at None there = refl
    at (Some e) there = one e (test e) there

not-gone : (t : State) (mount item : ℕ) (documents told : List (List ℕ)) → IsLayout t → is_item (bare_after (event.Ssync mount documents told) t) item ≡ true → is_such_at (is_gone mount documents) t.entries item ≡ false
not-gone t mount item documents told layout there = at (is_such_at (is_gone mount documents) t.entries item) refl
  where
    test : Entry → Bool
    test = is_gone mount documents

    at : (b : Bool) → is_such_at test t.entries item ≡ b → is_such_at test t.entries item ≡ false
    at false is = is
    at true is =
        let found = entry_of t.entries item test is in
        let low = entry_at-below 0 t.entries t.next item found.0 layout.numbers found.1 in
        not-such test t item layout (sym (ap tested (entry_at-documents (without_such test t).entries t.next mount item (fresh t mount documents) low)) ∙ there)

-- The marks after an event.

module _ (kept : Parts) (h : IsLinked kept) (dir item : ℕ) where
  abbrev s : State
  s = state_of kept

  abbrev t : State
  t = kept.tree.state

  abbrev facts : ℕ → Facts
  facts = facts_kept kept

  pub kept-mark : kind_at kept.marks dir item ≡ mark_in (facts dir).marks item
  kept-mark =
      let are = marks-of kept h in
      mark-told s kept.marks are dir item
      ∙ (λ i. kind_by (has (sym (are.permanent dir) i) item) (has (sym (are.prohibited dir) i) item))

  -- one number gets facts with the same marks, and the others keep theirs
  same-put : (m : ℕ) (new : Facts) (rest : ℕ → Facts) → new.marks ≡ (facts m).marks → (rest dir).marks ≡ (facts dir).marks → kind_at kept.marks dir item ≡ mark_in (cond (dir == m) new (rest dir)).marks item
  same-put m new rest same others = kept-mark ∙ ap (λ (marks : Marks). mark_in marks item) (at (dir == m) refl)
    where
      at : (b : Bool) → (dir == m) ≡ b → (facts dir).marks ≡ (cond b new (rest dir)).marks
      at true here = ap (λ (n : ℕ). (facts n).marks) (eqb-true dir m here) ∙ sym same
      at false here = sym others

  -- one has none
  none-put : (m : ℕ) → cond (dir == m) Unlinked (kind_at kept.marks dir item) ≡ mark_in (cond (dir == m) no_facts (facts dir)).marks item
  none-put m = at (dir == m)
    where
      at : (b : Bool) → cond b Unlinked (kind_at kept.marks dir item) ≡ mark_in (cond b no_facts (facts dir)).marks item
      at true = refl
      at false = kept-mark

  -- a mount, which has no marks, gets other facts, and items go
  such-put : (test : ℕ → Bool) (mount : ℕ) (new : Facts) → new.marks ≡ no_marks → (facts mount).marks ≡ no_marks → test item ≡ false → kind_at kept.marks dir item ≡ mark_in (cond (dir == mount) new (facts_without test facts dir)).marks item
  such-put test mount new none bare stays = kept-mark ∙ at (dir == mount) refl
    where
      at : (b : Bool) → (dir == mount) ≡ b → mark_in (facts dir).marks item ≡ mark_in (cond b new (facts_without test facts dir)).marks item
      at true here = ap (λ (marks : Marks). mark_in marks item) (ap (λ (n : ℕ). (facts n).marks) (eqb-true dir mount here) ∙ bare ∙ sym none)
      at false here = such-other test item (facts dir).marks stays

  mark-put : (n i : ℕ) (kind : Kind) (new : Facts) → may_mark s n i kind ≡ true → new.marks ≡ with_mark kind i (facts n).marks →
      cond (dir == n && item == i) kind (kind_at kept.marks dir item) ≡ mark_in (cond (dir == n) new (facts dir)).marks item
  mark-put n i kind new may is = at (dir == n) refl (item == i) refl
    where
      at : (b : Bool) → (dir == n) ≡ b → (c : Bool) → (item == i) ≡ c → cond (b && c) kind (kind_at kept.marks dir item) ≡ mark_in (cond b new (facts dir)).marks item
      at false other c is_item = kept-mark
      at true here true own =
          marked-item s n i kind (facts n).marks may
          ∙ ap (λ (k : ℕ). mark_in (with_mark kind i (facts n).marks) k) (sym (eqb-true item i own))
          ∙ ap (λ (marks : Marks). mark_in marks item) (sym is)
      at true here false other =
          kept-mark ∙ ap (λ (k : ℕ). mark_in (facts k).marks item) (eqb-true dir n here)
          ∙ marked-other kind i item (facts n).marks other
          ∙ ap (λ (marks : Marks). mark_in marks item) (sym is)

  -- the tree tells which items there are after an event
  item-told : (e : Event) → is_item (apply s e) item ≡ true → is_item (bare_after e t) item ≡ true
  item-told e there = sym (same-item (apply s e) (bare_after e t) (same-next-bare s t (kept-bares kept) e ∙ sym (tree-law e t)) item) ∙ there

  next-bare : no_marks ≡ (facts t.next).marks
  next-bare = ap (λ (f : Facts). f.marks) (next-none kept h)

  pub event-mark : (e : Event) → IsTrue (accepted s e) → is_item (apply s e) item ≡ true → mark_after e kept.marks dir item ≡ mark_in (facts_after e t facts dir).marks item
  event-mark (event.Smkdir parent name asked told) ok there = same-put t.next (record no_facts { edges = parent ∷ named_in asked }) (facts_told asked told t facts) next-bare refl
  event-mark (event.Setq n asked told) ok there = same-put n (facts_with t (parent_of t n) (Some asked) (facts n).marks (facts n)) (facts_told asked told t facts) refl refl
  event-mark (event.Unq n) ok there = none-put n
  event-mark (event.Mark mark) ok there =
      mark-put mark.dir mark.item mark.kind (facts_with t (parent_of t mark.dir) (query_at t mark.dir) (with_mark mark.kind mark.item (facts mark.dir).marks) (facts mark.dir))
      (mark-parts s mark.dir mark.item mark.kind (possible-of s (event.Mark mark) ok)).2 refl
  event-mark (event.Mv entry parent name) ok there = same-put entry (facts_with t parent (query_at t entry) (facts entry).marks (facts entry)) facts refl refl
  event-mark (event.Rm entry) ok there =
      kept-mark ∙ (λ i. kind_by
      (sym (without-other entry item (facts dir).marks.permanent (not-removed t entry item (item-told (event.Rm entry) there))) i)
      (sym (without-other entry item (facts dir).marks.prohibited (not-removed t entry item (item-told (event.Rm entry) there))) i))
  event-mark (event.Rmdir n) ok there = none-put n
  event-mark (event.Smount parent name space documents told) ok there = same-put t.next (record no_facts { answers = answers_to (terms_to_ask t.entries) told }) facts next-bare refl
  event-mark (event.Ssync mount documents told) ok there =
      such-put (is_such_at (is_gone mount documents) t.entries) mount (record no_facts { answers = answers_to (terms_to_ask t.entries) told }) refl
      (no-marks kept h mount (sync-there kept mount documents told ok))
      (not-gone t mount item documents told (tree-layout kept h) (item-told (event.Ssync mount documents told) there))
  event-mark (event.Sumount mount) ok there =
      such-put (is_such_at (is_of_mount mount) t.entries) mount no_facts refl (no-marks kept h mount (going-mount kept mount ok))
      (not-such (is_of_mount mount) t item (tree-layout kept h) (item-told (event.Sumount mount) there))
  event-mark (event.Mkdir parent name) ok there = kept-mark
  event-mark (event.NewFile parent name text) ok there = kept-mark
  event-mark (event.Rewrite file text) ok there = kept-mark
  event-mark (event.Ln parent name target) ok there = kept-mark
  event-mark event.Step ok there = kept-mark
  event-mark (event.Cd session n) ok there = kept-mark
