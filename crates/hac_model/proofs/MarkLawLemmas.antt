-- Marks after events, and what links and queries say of marked items.
use Rattle.std.proofs.Common.{◌≡◌, ℕ, Bool, true, false, cond, List, [], ◌∷◌, subst, refl, ap, sym, ◌∙◌, eq-eqb}
use Rattle.std.specs.Prelude.{◌==◌, ◌&&◌, ◌||◌, not, Some, None, IsTrue, is_some, option_and_then}
use Rattle.std.specs.List.{AllByRecursion, list_any}
use Rattle.std.specs.Option.{option_map, option_map_or}
use Rattle.std.proofs.lemmas.Bool.{and_parts, eqb-true, ne_eqb, or_right}
use Rattle.hac_model.specs.Query.Formula.{Formula}
use Rattle.hac_model.specs.Run.Refusals.{marks}
use Rattle.hac_model.specs.Tree.Events.{accepted, apply, put_in, without}
use Rattle.hac_model.specs.Tree.Facts.{Facts, Marks, facts_after, facts_at, facts_of, facts_told, facts_with, no_facts, put_at, with_mark}
use Rattle.hac_model.specs.Tree.Kinds as kinds
use Rattle.hac_model.specs.Tree.Links.{column, found_as, found_by, has, holds, is_below, is_item, is_judged, is_lent, is_permanent, is_prohibited, is_semantic, is_unmarked, items, lenders, links, parent_of, passes, provide, query_at, satisfies, transient_at}
use Rattle.hac_model.specs.Tree.{entry_at, is_directory_at, permanent_in, prohibited_in, query_in}
use Rattle.hac_model.specs.Tree.Valid.{AsksWell, IsValid}
use Rattle.hac_model.specs.Laws.{SameMarks}
use Rattle.hac_model.specs.declared.events.Event.{Event}
use Rattle.hac_model.specs.declared.events.Event.TheVariants.{Setq, Unq}
use Rattle.hac_model.specs.declared.marks.Kind.{Kind}
use Rattle.hac_model.specs.declared.marks.Kind.TheVariants.{Transient, Permanent, Prohibited, Unlinked}
use Rattle.hac_model.specs.declared.states.Body.{Body}
use Rattle.hac_model.specs.declared.states.Body.TheVariants.{File, Dir, Symlink, Semantic, Mount, Document}
use Rattle.hac_model.specs.declared.states.Entry.{Entry}
use Rattle.hac_model.specs.declared.states.State.{State}
use Rattle.hac_model.proofs.FactLemmas.{facts-law}
use Rattle.hac_model.proofs.ListedLemmas.{found-item, found-listed, item-listed, lent-item}
use Rattle.hac_model.proofs.MarkLemmas.{has-filter, has-put_in, has-without}
use Rattle.hac_model.proofs.TreeLemmas.{entry_at-all}

-- the marks of a directory are facts
marks-told : (s : State) (dir item : ℕ) → (has (facts_of s dir).marks.permanent item ≡ is_permanent s dir item) × (has (facts_of s dir).marks.prohibited item ≡ is_prohibited s dir item)
marks-told s dir item =
    elim (entry_at s.entries dir) as (λ o. (has (facts_at (is_directory_at s.entries) o).marks.permanent item ≡ has (option_map_or permanent_in (option_map (λ (e : Entry). e.body) o) []) item) × (has (facts_at (is_directory_at s.entries) o).marks.prohibited item ≡ has (option_map_or prohibited_in (option_map (λ (e : Entry). e.body) o) []) item)) [
      | None ↦ (refl, refl)
      | Some e ↦ (refl, refl)
    ]

-- so they are known after an event
module _ (s : State) (e : Event) (h : IsValid s) (ok : IsTrue (accepted s e)) (dir item : ℕ) where
  new : Facts
  new = facts_after e s (facts_of s) dir

  law : facts_of (apply s e) dir ≡ new
  unfolding new
  law = facts-law s h e ok dir

  permanent-after : is_permanent (apply s e) dir item ≡ has new.marks.permanent item
  permanent-after = sym (marks-told (apply s e) dir item).0 ∙ ap (λ (facts : Facts). has facts.marks.permanent item) law

  prohibited-after : is_prohibited (apply s e) dir item ≡ has new.marks.prohibited item
  prohibited-after = sym (marks-told (apply s e) dir item).1 ∙ ap (λ (facts : Facts). has facts.marks.prohibited item) law

put-here : (f : ℕ → Facts) (n : ℕ) (x : Facts) → put_at f n x n ≡ x
put-here f n x = ap (λ (b : Bool). cond b x (f n)) (eq-eqb n n refl)

put-other : (f : ℕ → Facts) (n m : ℕ) (x : Facts) → (m == n) ≡ false → put_at f n x m ≡ f m
put-other f n m x other = ap (λ (b : Bool). cond b x (f m)) other

pub put-has : (n : ℕ) (xs : List ℕ) → has (put_in n xs) n ≡ true
put-has n xs = has-put_in n xs n ∙ ap (λ (b : Bool). b || has xs n) (eq-eqb n n refl)

pub without-other : (n m : ℕ) (xs : List ℕ) → (m == n) ≡ false → has (without n xs) m ≡ has xs m
without-other n m xs other = has-filter (λ x. not (x == n)) xs m ∙ ap (λ (b : Bool). not b && has xs m) other

put-has_other : (n m : ℕ) (xs : List ℕ) → (n == m) ≡ false → (m == n) ≡ false → has (put_in n (without n xs)) m ≡ has xs m
put-has_other n m xs apart other = has-put_in n (without n xs) m ∙ ap (λ (b : Bool). b || has (without n xs) m) apart ∙ without-other n m xs other

marked-item : (kind : Kind) (item : ℕ) (old : Marks) → (has (with_mark kind item old).permanent item ≡ kinds.is_permanent kind) × (has (with_mark kind item old).prohibited item ≡ kinds.is_prohibited kind)
marked-item Permanent item old = (put-has item (without item old.permanent), has-without item old.prohibited)
marked-item Prohibited item old = (has-without item old.permanent, put-has item (without item old.prohibited))
marked-item Transient item old = (has-without item old.permanent, has-without item old.prohibited)
marked-item Unlinked item old = (has-without item old.permanent, has-without item old.prohibited)

marked-other : (kind : Kind) (item other : ℕ) (old : Marks) → (item == other) ≡ false → (other == item) ≡ false → (has (with_mark kind item old).permanent other ≡ has old.permanent other) × (has (with_mark kind item old).prohibited other ≡ has old.prohibited other)
marked-other Permanent item other old apart far = (put-has_other item other old.permanent apart far, without-other item other old.prohibited far)
marked-other Prohibited item other old apart far = (without-other item other old.permanent far, put-has_other item other old.prohibited apart far)
marked-other Transient item other old apart far = (without-other item other old.permanent far, without-other item other old.prohibited far)
marked-other Unlinked item other old apart far = (without-other item other old.permanent far, without-other item other old.prohibited far)

-- what is known of a directory once an item has a mark there
abbrev marked-facts : Kind → ℕ → ℕ → State → Facts
marked-facts kind item dir s = facts_with s (parent_of s dir) (query_at s dir) (with_mark kind item (facts_of s dir).marks) (facts_of s dir)

pub marks-set : (s : State) (dir item : ℕ) (kind : Kind) → IsValid s → IsTrue (accepted s (marks item dir kind)) → (is_permanent (apply s (marks item dir kind)) dir item ≡ kinds.is_permanent kind) × (is_prohibited (apply s (marks item dir kind)) dir item ≡ kinds.is_prohibited kind)
unfolding new
marks-set s dir item kind h ok =
    let e : Event = marks item dir kind in
    let old : Facts = facts_of s dir in
    let here = put-here (facts_of s) dir (marked-facts kind item dir s) in
    let set = marked-item kind item old.marks in
    (permanent-after s e h ok dir item ∙ ap (λ (facts : Facts). has facts.marks.permanent item) here ∙ set.0, prohibited-after s e h ok dir item ∙ ap (λ (facts : Facts). has facts.marks.prohibited item) here ∙ set.1)

-- a directory whose facts have the old marks has these
kept : (s : State) (e : Event) → IsValid s → IsTrue (accepted s e) → (dir item : ℕ) → ((facts_after e s (facts_of s) dir).marks ≡ (facts_of s dir).marks) → SameMarks s (apply s e) dir item
unfolding new
kept s e h ok dir item same =
    let told = marks-told s dir item in
    (permanent-after s e h ok dir item ∙ ap (λ (m : Marks). has m.permanent item) same ∙ told.0, prohibited-after s e h ok dir item ∙ ap (λ (m : Marks). has m.prohibited item) same ∙ told.1)

pub marks-stay : (s : State) (dir item : ℕ) (kind : Kind) (other_dir other : ℕ) → IsValid s → IsTrue (accepted s (marks item dir kind)) → (other_dir ≡ dir → other ≡ item → ⊥) → SameMarks s (apply s (marks item dir kind)) other_dir other
unfolding new
marks-stay s dir item kind other_dir other h ok apart =
    elim (other_dir == dir) as (λ b. (other_dir == dir) ≡ b → SameMarks s (apply s (marks item dir kind)) other_dir other) [
      | true ↦ (λ same. let here : other_dir ≡ dir = eqb-true other_dir dir same in subst (λ (d : ℕ). SameMarks s (apply s (marks item dir kind)) d other) (sym here) (at_dir (apart here)))
      | false ↦ (λ far. kept s (marks item dir kind) h ok other_dir other (ap (λ (facts : Facts). facts.marks) (put-other (facts_of s) dir other_dir (marked-facts kind item dir s) far)))
    ] refl
  where
    at_dir : (other ≡ item → ⊥) → SameMarks s (apply s (marks item dir kind)) dir other
    at_dir far =
        let old : Facts = facts_of s dir in
        let here = put-here (facts_of s) dir (marked-facts kind item dir s) in
        let stay = marked-other kind item other old.marks (ne_eqb item other (λ same. far (sym same))) (ne_eqb other item far) in
        let told = marks-told s dir other in
        (permanent-after s (marks item dir kind) h ok dir other ∙ ap (λ (facts : Facts). has facts.marks.permanent other) here ∙ stay.0 ∙ told.0, prohibited-after s (marks item dir kind) h ok dir other ∙ ap (λ (facts : Facts). has facts.marks.prohibited other) here ∙ stay.1 ∙ told.1)

pub queries-leave : (s : State) (asking : ℕ) (query : Formula ℕ) (told : List (List ℕ)) (dir item : ℕ) → IsValid s → IsTrue (accepted s (Setq asking query told)) → SameMarks s (apply s (Setq asking query told)) dir item
queries-leave s asking query told dir item h ok =
    kept s (Setq asking query told) h ok dir item
    (elim (dir == asking) as (λ b. (dir == asking) ≡ b → (cond b (facts_with s (parent_of s asking) (Some query) (facts_of s asking).marks (facts_of s asking)) (facts_told query told s (facts_of s) dir)).marks ≡ (facts_of s dir).marks) [
      | true ↦ (λ same. ap (λ (d : ℕ). (facts_of s d).marks) (sym (eqb-true dir asking same)))
      | false ↦ (λ far. refl)
    ] refl)

pub marks-go : (s : State) (dir item : ℕ) → IsValid s → IsTrue (accepted s (Unq dir)) → (is_permanent (apply s (Unq dir)) dir item ≡ false) × (is_prohibited (apply s (Unq dir)) dir item ≡ false)
unfolding new
marks-go s dir item h ok =
    let here = put-here (facts_of s) dir no_facts in
    (permanent-after s (Unq dir) h ok dir item ∙ ap (λ (facts : Facts). has facts.marks.permanent item) here, prohibited-after s (Unq dir) h ok dir item ∙ ap (λ (facts : Facts). has facts.marks.prohibited item) here)

-- What is found.

neither : (a b : Bool) → not (a || b) ≡ true → (a ≡ false) × (b ≡ false)
neither true b h = absurd cc
neither false true h = absurd cc
neither false false h = (refl, refl)

-- what a directory found are items, and it found them as links are found
module _ (s : State) (dir item : ℕ) (h : IsValid s) (linked : has (transient_at s dir) item ≡ true) where
  found-inside : has (items s) item ≡ true
  found-inside =
      let listed = sym (has-filter (λ x. has (transient_at s dir) x) (items s) item) ∙ ap (λ (found : List ℕ). has found item) (sym (found-listed s dir h.acyclic)) ∙ linked in
      (and_parts (has (transient_at s dir) item) (has (items s) item) listed).1

  found-passes : passes s (column (links s) item) dir item ≡ true
  found-passes = (and_parts (is_semantic s dir) (passes s (column (links s) item) dir item) (sym (found-item s dir h.acyclic item found-inside) ∙ linked)).1

pub links-unmarked : (s : State) (dir item : ℕ) → IsValid s → has (transient_at s dir) item ≡ true → (is_judged s item ≡ true) × (is_permanent s dir item ≡ false) × (is_prohibited s dir item ≡ false)
links-unmarked s dir item h linked =
    let found = found-passes s dir item h linked in
    let marks = and_parts (provide s (column (links s) item) (parent_of s dir) item && is_judged s item && satisfies s (column (links s) item) dir item) (is_unmarked s dir item) found in
    let asked = and_parts (provide s (column (links s) item) (parent_of s dir) item && is_judged s item) (satisfies s (column (links s) item) dir item) marks.0 in
    let shown = and_parts (provide s (column (links s) item) (parent_of s dir) item) (is_judged s item) asked.0 in
    let none = neither (is_permanent s dir item) (is_prohibited s dir item) marks.1 in
    (shown.1, none.0, none.1)

pub found-indexed : (s : State) (query : Formula ℕ) (item : ℕ) → has (found_by s query) item ≡ true → is_judged s item ≡ true
unfolding found_as
found-indexed s query item inside =
    let found = and_parts (is_judged s item && holds s (column (links s) item) query item) (has (items s) item) (sym (has-filter (λ x. is_judged s x && holds s (column (links s) x) query x) (items s) item) ∙ inside) in
    (and_parts (is_judged s item) (holds s (column (links s) item) query item) found.0).0

pub added-provided : (s : State) (dir item : ℕ) → is_semantic s dir ≡ true → is_permanent s dir item ≡ true → is_item s item ≡ true → provide s (column (links s) item) dir item ≡ true
added-provided s dir item semantic permanent there = all-true (is_below s dir item) (is_semantic s dir) (column (links s) item dir) (is_permanent s dir item && is_item s item) semantic ((λ i. permanent i && is_item s item) ∙ there)
  where
    all-true : (a b c d : Bool) → b ≡ true → d ≡ true → (a || (b && (c || d))) ≡ true
    all-true true b c d h k = refl
    all-true false false c d h k = absurd cc
    all-true false true true d h k = refl
    all-true false true false d h k = k

pub lent-provided : (s : State) (dir lender item : ℕ) → IsValid s → is_semantic s dir ≡ true → has (lenders s dir) lender ≡ true → is_item s item ≡ true → provide s (column (links s) item) lender item ≡ true → provide s (column (links s) item) dir item ≡ true
lent-provided s dir lender item h semantic linked there provided =
    let any : is_lent s (column (links s) item) dir item ≡ true = some (lenders s dir) linked in
    let lent : has (links s dir).lent item ≡ true = lent-item s dir h.acyclic item (item-listed s item h.layout there) ∙ (λ i. semantic i && any i) in
    all-true (is_below s dir item) (is_semantic s dir) (has (transient_at s dir) item) (has (links s dir).lent item) (is_permanent s dir item && is_item s item) semantic lent
  where
    some : (xs : List ℕ) → has xs lender ≡ true → list_any (λ x. provide s (column (links s) item) x item) xs ≡ true
    some [] inside = absurd cc
    some (x ∷ xs) inside = elim (x == lender) as (λ b. (x == lender) ≡ b → (b || has xs lender) ≡ true → (provide s (column (links s) item) x item || list_any (λ x. provide s (column (links s) item) x item) xs) ≡ true) [
      | true ↦ (λ is more. ap (λ (b : Bool). b || list_any (λ x. provide s (column (links s) item) x item) xs) (ap (λ (d : ℕ). provide s (column (links s) item) d item) (eqb-true x lender is) ∙ provided))
      | false ↦ (λ is more. or_right (provide s (column (links s) item) x item) (list_any (λ x. provide s (column (links s) item) x item) xs) (some xs more))
    ] refl inside

    all-true : (a b c d e : Bool) → b ≡ true → d ≡ true → (a || (b && ((c || d) || e))) ≡ true
    all-true true b c d e h k = refl
    all-true false false c d e h k = absurd cc
    all-true false true true d e h k = refl
    all-true false true false true e h k = refl
    all-true false true false false e h k = absurd cc

-- no item is added and removed in one directory
apart : (s : State) (dir item : ℕ) → IsValid s → is_prohibited s dir item ≡ true → is_permanent s dir item ≡ false
apart s dir item h removed =
    elim (entry_at s.entries dir) as (λ o. entry_at s.entries dir ≡ o → has (option_map_or prohibited_in (option_map (λ (e : Entry). e.body) o) []) item ≡ true → has (option_map_or permanent_in (option_map (λ (e : Entry). e.body) o) []) item ≡ false) [
      | None ↦ (λ found removed. refl)
      | Some e ↦ (λ found removed. in_body e.body (entry_at-all (λ e. AsksWell s e.body) s.entries dir e h.queries found) removed)
    ] refl removed
  where
    absent : (xs ys : List ℕ) → has ys item ≡ true → AllByRecursion (λ x. has ys x ≡ false) xs → has xs item ≡ false
    absent [] ys inside all = refl
    absent (x ∷ xs) ys inside all = elim (x == item) as (λ b. (x == item) ≡ b → (b || has xs item) ≡ false) [
      | true ↦ (λ same. let never : true ≡ false = sym inside ∙ ap (has ys) (sym (eqb-true x item same)) ∙ all.0 in absurd cc)
      | false ↦ (λ other. absent xs ys inside all.1)
    ] refl

    in_body : (body : Body) → AsksWell s body → has (prohibited_in body) item ≡ true → has (permanent_in body) item ≡ false
    in_body (Semantic query permanent prohibited) sound inside = absent permanent prohibited inside sound.apart
    in_body (File text dirty shown) sound inside = refl
    in_body Dir sound inside = refl
    in_body (Symlink target) sound inside = refl
    in_body (Mount space answers) sound inside = refl
    in_body Document sound inside = refl

pub removed-not_provided : (s : State) (dir item : ℕ) → IsValid s → is_prohibited s dir item ≡ true → provide s (column (links s) item) dir item ≡ (is_below s dir item || has (links s dir).lent item)
removed-not_provided s dir item h removed =
    (λ i. is_below s dir item || (semantic i && ((unlinked (has (transient_at s dir) item) refl i || has (links s dir).lent item) || (apart s dir item h removed i && is_item s item))))
    ∙ ap (λ (b : Bool). is_below s dir item || b) (nothing (has (links s dir).lent item))
  where
    unlinked : (b : Bool) → has (transient_at s dir) item ≡ b → has (transient_at s dir) item ≡ false
    unlinked true is = let never : true ≡ false = sym removed ∙ (links-unmarked s dir item h is).2 in absurd cc
    unlinked false is = is

    -- only a semantic directory has marks
    semantic : is_semantic s dir ≡ true
    semantic = elim (entry_at s.entries dir) as (λ o. has (option_map_or prohibited_in (option_map (λ (e : Entry). e.body) o) []) item ≡ true → is_some (option_and_then query_in (option_map (λ (e : Entry). e.body) o)) ≡ true) [
      | None ↦ (λ inside. absurd cc)
      | Some e ↦ (λ inside. body e.body inside)
    ] removed
      where
        body : (b : Body) → has (prohibited_in b) item ≡ true → is_some (query_in b) ≡ true
        body (Semantic query permanent prohibited) inside = refl
        body other inside = absurd cc

    nothing : (a : Bool) → ((false || a) || false) ≡ a
    nothing true = refl
    nothing false = refl
