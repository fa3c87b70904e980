-- Where judging begins nowhere, what depends on what stays as it was.
use Rattle.std.proofs.Common.{◌≡◌, ℕ, Bool, true, false, List, [], ◌∷◌, ◌++◌, ap, arith, eq-eqb, refl, sym, ◌∙◌}
use Rattle.std.proofs.lemmas.Bool.{eqb-true}
use Rattle.std.specs.Prelude.{◌==◌, ◌||◌, drop, filter, if◌then◌else◌, length, Option, Some, None, IsTrue, is_some}
use Rattle.std.specs.Option.{option_map, option_map_or}
use Rattle.hac_model.specs.Query.Formula.{Formula}
use Rattle.hac_model.specs.Tree.Depends.{depends, named_in}
use Rattle.hac_model.specs.Tree.Events.{accepted, apply, is_possible}
use Rattle.hac_model.specs.Tree.Facts.{Facts, edges_to, facts_after, facts_at, facts_in, facts_of, facts_with, facts_without, no_facts, put_at, with_mark}
use Rattle.hac_model.specs.Tree.Limits.{passed_limit}
use Rattle.hac_model.specs.Tree.Links.{is_item, is_semantic, lenders, parent_of, query_at}
use Rattle.hac_model.specs.Tree.Mounting.{answers_to, is_gone, is_of_mount, is_such_at}
use Rattle.hac_model.specs.Tree.Mounts.{terms_to_ask}
use Rattle.hac_model.specs.Tree.Touched.{begins, is_the}
use Rattle.hac_model.specs.Tree.Valid.{IsValid}
use Rattle.hac_model.specs.Tree.{entry_at, is_directory_at, is_mount, is_mount_at}
use Rattle.hac_model.specs.declared.events.Event.{Event}
use Rattle.hac_model.specs.declared.events.Event.TheVariants as event
use Rattle.hac_model.specs.declared.marks.Mark.{Mark}
use Rattle.hac_model.specs.declared.states.Body.{Body}
use Rattle.hac_model.specs.declared.states.Body.TheVariants.{File, Dir, Symlink, Semantic, Mount, Document}
use Rattle.hac_model.specs.declared.states.Entry.{Entry}
use Rattle.hac_model.specs.declared.states.State.{State}
use Rattle.hac_model.proofs.AskLemmas.{item-no_directory}
use Rattle.hac_model.proofs.FactLemmas.{edges-told, facts-law, permanent-fact}
use Rattle.hac_model.proofs.TreeLemmas.{entry_at-next}
use Rattle.hac_model.proofs.LayoutLemmas.{ssync-parts, sumount-parts}
use Rattle.hac_model.proofs.ValidLemmas.{accepted-parts}
use Rattle.reeval.proofs.AskOwes.{marked-lenders}
use Rattle.reindex.proofs.WayLemmas.{plain-lends}
use Rattle.kept_links.proofs.SemanticLemmas.{asks-still}

-- a number that is told the edges that it had
put-edges : (facts rest : ℕ → Facts) (k : ℕ) (new : Facts) → (facts k).edges ≡ new.edges → ((n : ℕ) → (facts n).edges ≡ (rest n).edges) → (n : ℕ) → (facts n).edges ≡ (put_at rest k new n).edges
put-edges facts rest k new own same n = elim (n == k) as (λ b. (n == k) ≡ b → (facts n).edges ≡ (if b then new else rest n).edges) [
  | true ↦ (λ here. ap (λ (m : ℕ). (facts m).edges) (eqb-true n k here) ∙ own)
  | false ↦ (λ _. same n)
] refl

-- a directory is the one that is meant
is-the : (dir : ℕ) → is_the (Some dir) dir ≡ true
is-the dir = eq-eqb dir dir refl

first-of : (a b c : Bool) → (a || b || c) ≡ false → a ≡ false
first-of true b c h = h
first-of false b c h = refl

second-of : (a b c : Bool) → (a || b || c) ≡ false → b ≡ false
second-of true b c h = absurd cc
second-of false true c h = absurd cc
second-of false false c h = refl

third-of : (a b c : Bool) → (a || b || c) ≡ false → c ≡ false
third-of true b c h = absurd cc
third-of false true c h = absurd cc
third-of false false c h = h

module _ (s : State) (h : IsValid s) where
  -- a mount depends on nothing
  mount-edges : (mount : ℕ) → is_mount_at s.entries mount ≡ true → (facts_of s mount).edges ≡ []
  mount-edges mount is = at (entry_at s.entries mount) is
    where
      body : (dir : ℕ) (b : Body) → is_mount b ≡ true → (facts_in (is_directory_at s.entries) dir b).edges ≡ []
      body dir (Mount space kept) is = refl
      body dir (File text dirty shown) is = absurd cc
      body dir Dir is = absurd cc
      body dir (Symlink target) is = absurd cc
      body dir (Semantic asked permanent prohibited) is = absurd cc
      body dir Document is = absurd cc

      at : (o : Option Entry) → option_map_or is_mount (option_map (λ (e : Entry). e.body) o) false ≡ true → (facts_at (is_directory_at s.entries) o).edges ≡ []
      at None is = refl
      at (Some e) is = body e.parent e.body is

  -- nor does a number that comes
  next-edges : (facts_of s s.next).edges ≡ []
  next-edges = ap (λ (o : Option Entry). (facts_at (is_directory_at s.entries) o).edges) (entry_at-next 0 s.entries s.next s.next h.layout.numbers (omega arith))

  moved-edges : (entry dir : ℕ) → is_semantic s entry ≡ false → (facts_of s entry).edges ≡ (facts_with s dir (query_at s entry) (facts_of s entry).marks (facts_of s entry)).edges
  moved-edges entry dir plain = at (query_at s entry) refl plain
    where
      at : (o : Option (Formula ℕ)) → query_at s entry ≡ o → is_some o ≡ false → (facts_of s entry).edges ≡ edges_to (is_directory_at s.entries) dir (query_at s entry) (facts_of s entry).marks.permanent
      at None none plain =
          sym (edges-told s entry)
          ∙ ap (λ (o : Option (Formula ℕ)). option_map_or (λ (asked : Formula ℕ). parent_of s entry ∷ named_in asked ++ lenders s entry) o []) none
          ∙ sym (ap (λ (o : Option (Formula ℕ)). edges_to (is_directory_at s.entries) dir o (facts_of s entry).marks.permanent) none)
      at (Some asked) some plain = absurd cc

  marked-edges : (mark : Mark) → is_item s mark.item ≡ true → (facts_of s mark.dir).edges ≡ (facts_with s (parent_of s mark.dir) (query_at s mark.dir) (with_mark mark.kind mark.item (facts_of s mark.dir).marks) (facts_of s mark.dir)).edges
  marked-edges mark is =
      sym (edges-told s mark.dir)
      ∙ ap (λ (ks : List ℕ). option_map_or (λ (asked : Formula ℕ). parent_of s mark.dir ∷ named_in asked ++ filter (is_directory_at s.entries) ks) (query_at s mark.dir) []) (permanent-fact s mark.dir)
      ∙ ap (λ (linked : List ℕ). option_map_or (λ (asked : Formula ℕ). parent_of s mark.dir ∷ named_in asked ++ linked) (query_at s mark.dir) []) (marked-lenders (is_directory_at s.entries) mark.item (plain (is_directory_at s.entries mark.item) refl) mark.kind (facts_of s mark.dir).marks)
    where
      plain : (b : Bool) → is_directory_at s.entries mark.item ≡ b → is_directory_at s.entries mark.item ≡ false
      plain false none = none
      plain true there = absurd (item-no_directory s mark.item mark.item h.layout is there refl)

  possible : (event : Event) → IsTrue (accepted s event) → is_possible s event ≡ true
  possible event ok = (accepted-parts (is_possible s event) (passed_limit (apply s event)) ok).0

  sync-mount : (mount : ℕ) (documents told : List (List ℕ)) → IsTrue (accepted s (event.Ssync mount documents told)) → is_mount_at s.entries mount ≡ true
  sync-mount mount documents told ok = (ssync-parts s mount documents told (possible (event.Ssync mount documents told) ok)).0

  event-edges : (event : Event) → IsTrue (accepted s event) → ((dir : ℕ) → begins s event dir ≡ false) → (n : ℕ) → (facts_of s n).edges ≡ (facts_after event s (facts_of s) n).edges
  event-edges (event.Smkdir dir name asked told) ok never n =
      let out = first-of (is_the (Some s.next) s.next) false false (never s.next) in
      let is : true ≡ false = sym (is-the s.next) ∙ out in absurd cc
  event-edges (event.Setq dir asked told) ok never n =
      let out = first-of (is_the (Some dir) dir) false false (never dir) in
      let is : true ≡ false = sym (is-the dir) ∙ out in absurd cc
  event-edges (event.Unq dir) ok never n =
      let out = first-of (is_the (Some dir) dir) false false (never dir) in
      let is : true ≡ false = sym (is-the dir) ∙ out in absurd cc
  event-edges (event.Rmdir dir) ok never n =
      let out = third-of false false (is_the (Some dir) dir) (never dir) in
      let is : true ≡ false = sym (is-the dir) ∙ out in absurd cc
  event-edges (event.Mark mark) ok never n = at (is_item s mark.item) refl
    where
      at : (b : Bool) → is_item s mark.item ≡ b → (facts_of s n).edges ≡ (facts_after (event.Mark mark) s (facts_of s) n).edges
      at true is = put-edges (facts_of s) (facts_of s) mark.dir (facts_with s (parent_of s mark.dir) (query_at s mark.dir) (with_mark mark.kind mark.item (facts_of s mark.dir).marks) (facts_of s mark.dir)) (marked-edges mark is) (λ m. refl) n
      at false none =
          let out : is_the (if is_item s mark.item then None else Some mark.dir) mark.dir ≡ false = second-of false (is_the (if is_item s mark.item then None else Some mark.dir) mark.dir) false (never mark.dir) in
          let is : true ≡ false = sym (is-the mark.dir) ∙ sym (ap (λ (b : Bool). is_the (if b then None else Some mark.dir) mark.dir) none) ∙ out in absurd cc
  event-edges (event.Mv entry dir name) ok never n = at (is_semantic s entry) refl
    where
      at : (b : Bool) → is_semantic s entry ≡ b → (facts_of s n).edges ≡ (facts_after (event.Mv entry dir name) s (facts_of s) n).edges
      at true is =
          let out : is_the (if is_semantic s entry then Some entry else None) entry ≡ false = first-of (is_the (if is_semantic s entry then Some entry else None) entry) false false (never entry) in
          let is_not : true ≡ false = sym (is-the entry) ∙ sym (ap (λ (b : Bool). is_the (if b then Some entry else None) entry) is) ∙ out in absurd cc
      at false plain = put-edges (facts_of s) (facts_of s) entry (facts_with s dir (query_at s entry) (facts_of s entry).marks (facts_of s entry)) (moved-edges entry dir plain) (λ m. refl) n
  event-edges (event.Smount dir name space documents told) ok never n =
      put-edges (facts_of s) (facts_of s) s.next (record no_facts { answers = answers_to (terms_to_ask s.entries) told }) next-edges (λ m. refl) n
  event-edges (event.Ssync mount documents told) ok never n =
      put-edges (facts_of s) (facts_without (is_such_at (is_gone mount documents) s.entries) (facts_of s)) mount (record no_facts { answers = answers_to (terms_to_ask s.entries) told }) (mount-edges mount (sync-mount mount documents told ok)) (λ m. refl) n
  event-edges (event.Sumount mount) ok never n =
      put-edges (facts_of s) (facts_without (is_such_at (is_of_mount mount) s.entries) (facts_of s)) mount no_facts (mount-edges mount (sumount-parts s mount (possible (event.Sumount mount) ok)).0) (λ m. refl) n
  event-edges (event.Mkdir dir name) ok never n = refl
  event-edges (event.NewFile dir name text) ok never n = refl
  event-edges (event.Rewrite file text) ok never n = refl
  event-edges (event.Ln dir name target) ok never n = refl
  event-edges (event.Rm entry) ok never n = refl
  event-edges event.Step ok never n = refl
  event-edges (event.Cd session dir) ok never n = refl

  pub edges-still : (event : Event) → IsTrue (accepted s event) → ((dir : ℕ) → begins s event dir ≡ false) → (n : ℕ) → depends s n ≡ depends (apply s event) n
  edges-still event ok never n =
      edges-told s n ∙ event-edges event ok never n ∙ ap (λ (f : Facts). f.edges) (sym (facts-law s h event ok n)) ∙ sym (edges-told (apply s event) n)

-- what stands behind the front of a list
behind-front : (xs ys : List ℕ) → drop (length xs) (xs ++ ys) ≡ ys
behind-front [] ys = refl
behind-front (x ∷ xs) ys = behind-front xs ys

-- nor does what was added to a directory
pub lenders-still : (s : State) (h : IsValid s) (event : Event) → IsTrue (accepted s event) → ((dir : ℕ) → begins s event dir ≡ false) → (n : ℕ) → lenders s n ≡ lenders (apply s event) n
lenders-still s h event ok never n = at (query_at s n) refl
  where
    t : State
    t = apply s event

    asks : query_at s n ≡ query_at t n
    asks = asks-still s h event ok n (never n)

    edges : (u : State) (asked : Formula ℕ) → query_at u n ≡ Some asked → depends u n ≡ parent_of u n ∷ (named_in asked ++ lenders u n)
    edges u asked is = ap (λ (o : Option (Formula ℕ)). option_map_or (λ (query : Formula ℕ). parent_of u n ∷ (named_in query ++ lenders u n)) o []) is

    at : (o : Option (Formula ℕ)) → query_at s n ≡ o → lenders s n ≡ lenders t n
    at None plain = plain-lends s n plain ∙ sym (plain-lends t n (sym asks ∙ plain))
    at (Some asked) is =
        sym (behind-front (named_in asked) (lenders s n))
        ∙ ap (λ (ks : List ℕ). drop (length (named_in asked)) (drop 1 ks)) (sym (edges s asked is) ∙ edges-still s h event ok never n ∙ edges t asked (sym asks ∙ is))
        ∙ behind-front (named_in asked) (lenders t n)
