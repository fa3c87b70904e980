-- Behind which events items only move, and behind which they are gone: for the crate above, which knows events.
use Rattle.std.proofs.Common.{◌≡◌, ℕ, Bool, true, false, List, ap, eq-eqb, refl, subst, sym, ◌∙◌}
use Rattle.std.proofs.Math.Bool.{or-true}
use Rattle.std.proofs.lemmas.Bool.{and_parts, eqb-true}
use Rattle.std.specs.Prelude.{◌==◌, ◌||◌, filter, if◌then◌else◌, not, IsTrue, Option, Some, None, option_and_then}
use Rattle.std.specs.Option.{option_map, option_map_or}
use Rattle.hac_model.specs.Tree.Events.{accepted, apply, edited, forgetting, is_possible, removed, reseated}
use Rattle.hac_model.specs.Tree.Limits.{passed_limit}
use Rattle.hac_model.specs.Tree.Links.{is_item, is_semantic, parent_of}
use Rattle.hac_model.specs.Tree.Mounting.{forgetting_such, is_of_mount, is_such_at}
use Rattle.hac_model.specs.Tree.Touched.{begins, is_the, touches}
use Rattle.hac_model.specs.Tree.Valid.{NumbersRise}
use Rattle.hac_model.specs.Tree.{entry_at, is_document_at, is_linkable}
use Rattle.hac_model.specs.declared.events.Event.{Event}
use Rattle.hac_model.specs.declared.events.Event.TheVariants.{Mv, Rm, Sumount}
use Rattle.hac_model.specs.declared.states.Entry.{Entry}
use Rattle.hac_model.specs.declared.states.State.{State}
use Rattle.hac_model.proofs.MapLemmas.{entry_at-mapped}
use Rattle.hac_model.proofs.MountAskLemmas.{entry_at-filter, passing}
use Rattle.hac_model.proofs.ValidLemmas.{accepted-parts, move-parts}
use Rattle.hac_model.proofs.ViewLemmas.{seen-changed, seen-kept, seen-removed}
use Rattle.reindex.specs.Moves.{OnlyMoves}

-- A move at which judging of other items begins nowhere: that of anything but a semantic directory.

module _ (s : State) (entry dir : ℕ) (name : List ℕ) (ok : IsTrue (accepted s (Mv entry dir name))) (never : (d : ℕ) → begins s (Mv entry dir name) d ≡ false) where
  abbrev t : State
  t = apply s (Mv entry dir name)

  plain : is_semantic s entry ≡ false
  plain = at (is_semantic s entry) refl
    where
      at : (b : Bool) → is_semantic s entry ≡ b → is_semantic s entry ≡ false
      at false is = is
      at true is =
          let begun : begins s (Mv entry dir name) entry ≡ true =
          ap (λ (b : Bool). is_the (if b then Some entry else None) entry || false || false) is ∙ ap (λ (b : Bool). b || false || false) (eq-eqb entry entry refl) in
          let both : true ≡ false = sym begun ∙ never entry in absurd cc

  no_document : is_document_at s.entries entry ≡ false
  no_document = (move-parts s entry dir name (accepted-parts (is_possible s (Mv entry dir name)) (passed_limit t) ok).0).4

  parent-stays : (n : ℕ) → (n == entry) ≡ false → parent_of s n ≡ parent_of t n
  parent-stays n other =
      sym (seen-changed (λ (o : Option Entry). option_map_or (λ (e : Entry). e.parent) o 0) s.entries entry (reseated dir name) (λ e. refl) n
      ∙ ap (λ (b : Bool). if b then option_map_or (λ (e : Entry). e.parent) (option_map (reseated dir name) (entry_at s.entries entry)) 0 else parent_of s n) other)

  -- what passes a test that the entry fails stays in its directory
  stays-by : (test : ℕ → Bool) → test entry ≡ false → (n : ℕ) → test n ≡ true → parent_of s n ≡ parent_of t n
  stays-by test fails n passes = at (n == entry) refl
    where
      at : (b : Bool) → (n == entry) ≡ b → parent_of s n ≡ parent_of t n
      at true here = let never : false ≡ true = sym fails ∙ ap test (sym (eqb-true n entry here)) ∙ passes in absurd cc
      at false other = parent-stays n other

  -- items only move
  move-only : (item : ℕ) → OnlyMoves s t item
  move-only item = record {
    bodies = λ n. sym (seen-kept (option_map (λ (e : Entry). e.body)) s.entries entry (reseated dir name) (λ e. refl) (λ e. refl) n);
    asking = stays-by (is_semantic s) plain;
    home = stays-by (is_document_at s.entries) no_document item;
  }

pub only-moved : (s : State) (event : Event) → IsTrue (accepted s event) → ((d : ℕ) → begins s event d ≡ false) → (entry dir : ℕ) (name : List ℕ) → event ≡ Mv entry dir name → (item : ℕ) → OnlyMoves s (apply s event) item
only-moved s event ok never entry dir name is item =
    subst (λ (e : Event). OnlyMoves s (apply s e) item) (sym is)
    (move-only s entry dir name (subst (λ (e : Event). IsTrue (accepted s e)) is ok) (subst (λ (e : Event). (d : ℕ) → begins s e d ≡ false) is never) item)

-- What is removed is no item.

rm-gone : (s : State) (entry item : ℕ) → touches s (Rm entry) item ≡ true → is_item (apply s (Rm entry)) item ≡ false
rm-gone s entry item is = ap (is_item (apply s (Rm entry))) (eqb-true item entry (and_parts (item == entry) (is_item s item) is).0)
    ∙ ap (λ (o : Option Entry). option_map_or is_linkable (option_map (λ (e : Entry). e.body) o) false) (entry_at-mapped (forgetting entry) (removed s entry).entries entry ∙ ap (option_map (edited (forgetting entry))) none)
  where
    none : entry_at (removed s entry).entries entry ≡ None
    none = seen-removed (λ (o : Option Entry). o) s.entries entry entry ∙ ap (λ (b : Bool). if b then None else entry_at s.entries entry) (eq-eqb entry entry refl)

pub gone-removed : (s : State) (event : Event) (entry : ℕ) → event ≡ Rm entry → (item : ℕ) → touches s event item ≡ true → is_item (apply s event) item ≡ false
gone-removed s event entry is item touched =
    subst (λ (e : Event). is_item (apply s e) item ≡ false) (sym is) (rm-gone s entry item (subst (λ (e : Event). touches s e item ≡ true) is touched))

-- So are the documents of a mount that goes.

unmounted-gone : (s : State) (mount item : ℕ) → NumbersRise 0 s.entries s.next → touches s (Sumount mount) item ≡ true → is_item (apply s (Sumount mount)) item ≡ false
unmounted-gone s mount item rise own =
    ap (λ (o : Option Entry). option_map_or is_linkable (option_map (λ (e : Entry). e.body) o) false)
    (entry_at-mapped (forgetting_such (is_such_at (is_of_mount mount) s.entries)) (filter stays s.entries) item
    ∙ ap (option_map (edited (forgetting_such (is_such_at (is_of_mount mount) s.entries)))) none)
  where
    stays : Entry → Bool
    stays e = not (is_of_mount mount e)

    leaves : (o : Option Entry) → entry_at s.entries item ≡ o → option_and_then (passing stays) o ≡ None
    leaves None found = refl
    leaves (Some e) found =
        let home : (e.parent == mount) ≡ true =
        ap (λ (o : Option Entry). option_map_or (λ (x : Entry). x.parent) o 0 == mount) (sym found)
        ∙ (and_parts (is_document_at s.entries item) (parent_of s item == mount) own).1 in
        ap (λ (b : Bool). if not b then Some e else None) (ap (λ (b : Bool). (e.number == mount) || b) home ∙ or-true (e.number == mount))

    none : entry_at (filter stays s.entries) item ≡ None
    none = entry_at-filter stays 0 s.entries s.next item rise ∙ leaves (entry_at s.entries item) refl

pub gone-unmounted : (s : State) (event : Event) (mount : ℕ) → NumbersRise 0 s.entries s.next → event ≡ Sumount mount → (item : ℕ) → touches s event item ≡ true → is_item (apply s event) item ≡ false
gone-unmounted s event mount rise is item touched =
    subst (λ (e : Event). is_item (apply s e) item ≡ false) (sym is) (unmounted-gone s mount item rise (subst (λ (e : Event). touches s e item ≡ true) is touched))
