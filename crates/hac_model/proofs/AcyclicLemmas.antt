-- Events keep a state valid: no directory comes to depend on itself.
use Rattle.std.proofs.Common.{◌≡◌, ℕ, zero, suc, Bool, true, false, cond, List, [], ◌∷◌, ◌++◌, subst, refl, ap, sym, ◌∙◌, arith, inl, inr}
use Rattle.std.specs.Prelude.{◌⊎◌, ◌==◌, ◌||◌, if◌then◌else◌, nat_lt, not, filter, Option, Some, None, IsTrue, option_and_then}
use Rattle.std.specs.Option.{option_map, option_map_or}
use Rattle.std.proofs.lemmas.Bool.{and_parts, eqb-true}
use Rattle.hac_model.specs.Tree.Depends.{Among, IsAcyclic, Leads, Reaches, cycle_of_mark, cycle_over, depends, first_reaching, named_in}
use Rattle.hac_model.specs.Tree.Events.{accepted, apply, are_directories, is_possible, put_in, without}
use Rattle.hac_model.specs.Tree.Facts.{Facts, Marks, edges_to, facts_after, facts_at, facts_in, facts_of, facts_told, facts_with, facts_without, no_facts, put_at, with_mark}
use Rattle.hac_model.specs.Query.Formula.{Formula}
use Rattle.hac_model.specs.Tree.Limits.{passed_limit}
use Rattle.hac_model.specs.Tree.Links.{lenders, parent_of, query_at}
use Rattle.hac_model.specs.Tree.Mounting.{answers_to, is_gone, is_of_mount, is_such_at}
use Rattle.hac_model.specs.Tree.Mounts.{terms_to_ask}
use Rattle.hac_model.specs.Query.Queries.{is_query}
use Rattle.hac_model.specs.Tree.{empty, entry_at, is_directory, is_directory_at, is_made_directory, permanent_in}
use Rattle.hac_model.specs.Tree.Valid.{AsksWell, IsLayout, IsValid, is_in_place}
use Rattle.hac_model.specs.declared.events.Event.{Event}
use Rattle.hac_model.specs.declared.events.Event.TheVariants.{Mkdir, NewFile, Rewrite, Ln, Mark, Mv, Rm, Rmdir, Setq, Smkdir, Smount, Ssync, Sumount, Step, Unq, Cd}
use Rattle.hac_model.specs.declared.marks.Kind.{Kind}
use Rattle.hac_model.specs.declared.marks.Kind.TheVariants.{Transient, Permanent, Prohibited, Unlinked}
use Rattle.hac_model.specs.declared.states.Body.{Body}
use Rattle.hac_model.specs.declared.states.Body.TheVariants.{File, Dir, Symlink, Semantic, Mount, Document}
use Rattle.hac_model.specs.declared.states.Entry.{Entry}
use Rattle.hac_model.specs.declared.states.State.{State}
use Rattle.hac_model.proofs.AmongLemmas.{among-append, among-left, among-right}
use Rattle.hac_model.proofs.AskLemmas.{apply-queries}
use Rattle.hac_model.proofs.SessionLemmas.{apply-sessions}
use Rattle.hac_model.proofs.CycleLemmas.{none-reaching}
use Rattle.hac_model.proofs.FactLemmas.{edges-told, facts-law}
use Rattle.hac_model.proofs.FewLemmas.{apply-few}
use Rattle.hac_model.proofs.GraphLemmas.{never_returns-fewer, never_returns-replaced}
use Rattle.hac_model.proofs.KeptLemmas.{apply-answers}
use Rattle.hac_model.proofs.LayoutLemmas.{apply-layout}
use Rattle.hac_model.proofs.TreeLemmas.{entry_at-all, entry_at-next, place-directory, rise-below}
use Rattle.hac_model.proofs.ValidLemmas.{accepted-parts, empty-layout, free-parts, mark-parts, move-parts, setq-parts, smkdir-parts}

-- Edges lead to directories.

among-directory : (s : State) (ds : List ℕ) (d : ℕ) → are_directories s ds ≡ true → Among ds d → is_directory_at s.entries d ≡ true
among-directory s [] d h inside = absurd inside
among-directory s (x ∷ ds) d h inside =
    let parts = and_parts (is_directory_at s.entries x) (are_directories s ds) h in
    elim inside [
      | inl same ↦ subst (λ (n : ℕ). is_directory_at s.entries n ≡ true) same parts.0
      | inr more ↦ among-directory s ds d parts.1 more
    ]

-- what a filter keeps was there and passes
among-filter : (p : ℕ → Bool) (xs : List ℕ) (n : ℕ) → Among (filter p xs) n → Among xs n × (p n ≡ true)
among-filter p [] n inside = absurd inside
among-filter p (x ∷ xs) n inside = at (p x) refl (λ more. among-filter p xs n more) inside
  where
    at : (b : Bool) → p x ≡ b → (Among (filter p xs) n → Among xs n × (p n ≡ true)) → Among (cond b (x ∷ filter p xs) (filter p xs)) n → Among (x ∷ xs) n × (p n ≡ true)
    at true is on (inl same) = (inl same, ap p (sym same) ∙ is)
    at true is on (inr more) = let rest = on more in (inr rest.0, rest.1)
    at false is on more = let rest = on more in (inr rest.0, rest.1)

-- what is put among numbers is there, or was
among-put_in : (item : ℕ) (xs : List ℕ) (n : ℕ) → Among (put_in item xs) n → (item ≡ n) ⊎ Among xs n
among-put_in item [] n inside = inside
among-put_in item (x ∷ xs) n inside = elim (nat_lt item x) as (λ b. Among (cond b (item ∷ x ∷ xs) (x ∷ put_in item xs)) n → (item ≡ n) ⊎ Among (x ∷ xs) n) [
  | true ↦ (λ inside. inside)
  | false ↦ (λ inside. elim inside [
    | inl same ↦ inr (inl same)
    | inr more ↦ elim (among-put_in item xs n more) [ inl here ↦ inl here | inr there ↦ inr (inr there) ]
  ])
] inside

-- what marks are on is among those that a mark leaves, or is what got the mark
among-marks : (kind : Kind) (item : ℕ) (marks : Marks) (n : ℕ) → Among (with_mark kind item marks).permanent n → Among marks.permanent n ⊎ ((item ≡ n) × (kind ≡ Permanent))
among-marks Permanent item marks n inside = elim (among-put_in item (without item marks.permanent) n inside) [
  | inl same ↦ inr (same, refl)
  | inr more ↦ inl (among-filter (λ other. not (other == item)) marks.permanent n more).0
]
among-marks Prohibited item marks n inside = inl (among-filter (λ other. not (other == item)) marks.permanent n inside).0
among-marks Transient item marks n inside = inl (among-filter (λ other. not (other == item)) marks.permanent n inside).0
among-marks Unlinked item marks n inside = inl (among-filter (λ other. not (other == item)) marks.permanent n inside).0

-- an edge leads to the entry's own directory, to one that its query names, or to one that was added
abbrev Leads_to : State → ℕ → Option (Formula ℕ) → List ℕ → ℕ → Type 0
Leads_to s dir query permanent e = Among (option_map_or (λ asked. dir ∷ named_in asked) query []) e ⊎ (Among permanent e × (is_directory_at s.entries e ≡ true))

edge-cases : (s : State) (dir : ℕ) (query : Option (Formula ℕ)) (permanent : List ℕ) (e : ℕ) → Among (edges_to (is_directory_at s.entries) dir query permanent) e → Leads_to s dir query permanent e
edge-cases s dir None permanent e edge = absurd edge
edge-cases s dir (Some asked) permanent e (inl parent) = inl (inl parent)
edge-cases s dir (Some asked) permanent e (inr more) = elim (among-append (named_in asked) (filter (is_directory_at s.entries) permanent) e more) [
  | inl named ↦ inl (inr named)
  | inr linked ↦ inr (among-filter (is_directory_at s.entries) permanent e linked)
]

-- the edges of a number, by its facts
told-edge : (s : State) (n e : ℕ) → Among (depends s n) e → Among (facts_of s n).edges e
told-edge s n e edge = subst (λ (es : List ℕ). Among es e) (edges-told s n) edge

edge-told : (s : State) (n e : ℕ) → Among (facts_of s n).edges e → Among (depends s n) e
edge-told s n e edge = subst (λ (es : List ℕ). Among es e) (sym (edges-told s n)) edge

-- what was added to a directory is depended on, if it is a directory
added-edge : (s : State) (n e : ℕ) → Among (facts_of s n).marks.permanent e → is_directory_at s.entries e ≡ true → Among (depends s n) e
added-edge s n e inside there = edge-told s n e (at (entry_at s.entries n) inside)
  where
    kept : (p : ℕ → Bool) (xs : List ℕ) → Among xs e → p e ≡ true → Among (filter p xs) e
    kept p [] inside passes = inside
    kept p (x ∷ xs) (inl same) passes = subst (λ (b : Bool). Among (cond b (x ∷ filter p xs) (filter p xs)) e) (sym (ap p same ∙ passes)) (inl same)
    kept p (x ∷ xs) (inr more) passes = elim (p x) as (λ b. Among (cond b (x ∷ filter p xs) (filter p xs)) e) [ true ↦ inr (kept p xs more passes) | false ↦ kept p xs more passes ]

    body : (dir : ℕ) (b : Body) → Among (permanent_in b) e → Among (facts_in (is_directory_at s.entries) dir b).edges e
    body dir (Semantic query permanent prohibited) inside = inr (among-right (named_in query) (filter (is_directory_at s.entries) permanent) e (kept (is_directory_at s.entries) permanent inside there))
    body dir (File text dirty shown) inside = absurd inside
    body dir Dir inside = absurd inside
    body dir (Symlink target) inside = absurd inside
    body dir (Mount space answers) inside = absurd inside
    body dir Document inside = absurd inside

    at : (o : Option Entry) → Among (facts_at (is_directory_at s.entries) o).marks.permanent e → Among (facts_at (is_directory_at s.entries) o).edges e
    at None inside = inside
    at (Some x) inside = body x.parent x.body inside

-- what an edge leads to is a directory
pub edge-directory : (s : State) (d e : ℕ) → IsValid s → Among (depends s d) e → is_directory_at s.entries e ≡ true
edge-directory s d e h edge = at (entry_at s.entries d) refl (told-edge s d e edge)
  where
    body : (x : Entry) → entry_at s.entries d ≡ Some x → (b : Body) → AsksWell s b → Among (facts_in (is_directory_at s.entries) x.parent b).edges e → is_directory_at s.entries e ≡ true
    body x found (Semantic query permanent prohibited) asks inside = elim (edge-cases s x.parent (Some query) permanent e inside) [
      | inl first ↦ elim first [
        | inl same ↦ subst (λ (n : ℕ). is_directory_at s.entries n ≡ true) same (place-directory s.entries x (entry_at-all (λ e. IsTrue (is_in_place s.entries e)) s.entries d x h.layout.places found))
        | inr named ↦ among-directory s (named_in query) e (and_parts (is_query query) (are_directories s (named_in query)) asks.fits).1 named
      ]
      | inr linked ↦ linked.1
    ]
    body x found other asks inside = absurd inside

    at : (o : Option Entry) → entry_at s.entries d ≡ o → Among (facts_at (is_directory_at s.entries) o).edges e → is_directory_at s.entries e ≡ true
    at None found inside = absurd inside
    at (Some x) found inside = body x found x.body (entry_at-all (λ e. AsksWell s e.body) s.entries d x h.queries found) inside

-- so a walk that begins at a directory ends at one
walk-directory : (s : State) (k from to : ℕ) → IsValid s → Leads (depends s) k from to → is_directory_at s.entries from ≡ true → is_directory_at s.entries to ≡ true
walk-directory s zero from to h walk there = subst (λ (n : ℕ). is_directory_at s.entries n ≡ true) walk there
walk-directory s (suc k) from to h (next, edge, more) there = walk-directory s k next to h more (edge-directory s from next h edge)

-- no directory has the next number yet
next-free : (s : State) → IsLayout s → is_directory_at s.entries s.next ≡ true → ⊥
next-free s h there = never (s.next == 0) refl there
  where
    none : entry_at s.entries s.next ≡ None
    none = entry_at-next 0 s.entries s.next s.next h.numbers (omega arith)

    never : (b : Bool) → (s.next == 0) ≡ b → (b || is_made_directory s.entries s.next) ≡ true → ⊥
    never true root there = let same = eqb-true s.next 0 root in let more = rise-below 0 s.entries s.next h.numbers in omega (arith, same, more)
    never false other there = let no : false ≡ true = ap (λ (o : Option Entry). option_map_or is_directory (option_map (λ (e : Entry). e.body) o) false) (sym none) ∙ there in cc

-- What an event does to edges.

module _ (s : State) (event : Event) (h : IsValid s) (ok : IsTrue (accepted s event)) where
  -- the edges after an event are told by what it does to the facts
  edge-after : (q e : ℕ) → Among (depends (apply s event) q) e → Among (facts_after event s (facts_of s) q).edges e
  edge-after q e edge = subst (λ (facts : Facts). Among facts.edges e) (facts-law s h event ok q) (told-edge (apply s event) q e edge)

  -- where each is one of before, none leads back
  fewer-acyclic : ((q e : ℕ) → Among (facts_after event s (facts_of s) q).edges e → Among (facts_of s q).edges e) → IsAcyclic (apply s event)
  fewer-acyclic fewer = never_returns-fewer (depends s) (depends (apply s event)) (λ q e edge. edge-told s q e (fewer q e (edge-after q e edge))) h.acyclic

  -- nor where the new ones of one number don't lead to it
  replaced-acyclic : (d : ℕ) (new : List ℕ) → ((q e : ℕ) → Among (facts_after event s (facts_of s) q).edges e → Among (depends s q) e ⊎ ((q ≡ d) × Among new e)) → ((e : ℕ) → Among new e → Reaches (depends s) e d → ⊥) → IsAcyclic (apply s event)
  replaced-acyclic d new replaced apart = never_returns-replaced (depends s) (depends (apply s event)) d new (λ q e edge. replaced q e (edge-after q e edge)) apart h.acyclic

-- the edges of one number are changed
put-edge : (s : State) (f : ℕ → Facts) (d : ℕ) (x : Facts) (new : List ℕ) (q e : ℕ) → ((n : ℕ) → (f n).edges ≡ (facts_of s n).edges) → (Among x.edges e → Among (depends s d) e ⊎ Among new e) → Among (put_at f d x q).edges e → Among (depends s q) e ⊎ ((q ≡ d) × Among new e)
put-edge s f d x new q e same cases edge = at (q == d) refl edge
  where
    at : (b : Bool) → (q == d) ≡ b → Among (cond b x (f q)).edges e → Among (depends s q) e ⊎ ((q ≡ d) × Among new e)
    at true is edge = let here : q ≡ d = eqb-true q d is in elim (cases edge) [
      | inl old ↦ inl (subst (λ (n : ℕ). Among (depends s n) e) (sym here) old)
      | inr more ↦ inr (here, more)
    ]
    at false is edge = inl (edge-told s q e (subst (λ (es : List ℕ). Among es e) (same q) edge))

-- the edges of one number go
put-none : (s : State) (f : ℕ → Facts) (d : ℕ) (x : Facts) (q e : ℕ) → x.edges ≡ [] → ((n : ℕ) → (f n).edges ≡ (facts_of s n).edges) → Among (put_at f d x q).edges e → Among (facts_of s q).edges e
put-none s f d x q e none same edge = at (q == d) edge
  where
    at : (b : Bool) → Among (cond b x (f q)).edges e → Among (facts_of s q).edges e
    at true edge = absurd (subst (λ (es : List ℕ). Among es e) none edge)
    at false edge = subst (λ (es : List ℕ). Among es e) (same q) edge

-- no event makes a directory depend on itself
pub apply-acyclic : (s : State) (event : Event) → IsValid s → IsTrue (accepted s event) → IsAcyclic (apply s event)
apply-acyclic s (Smkdir dir name query told) h ok =
    let parts = smkdir-parts s dir name query told (accepted-parts (is_possible s (Smkdir dir name query told)) (passed_limit (apply s (Smkdir dir name query told))) ok).0 in
    let named = and_parts (is_query query) (are_directories s (named_in query)) parts.1 in
    let there : (e : ℕ) → Among (dir ∷ named_in query) e → is_directory_at s.entries e ≡ true = λ e inside. elim inside [
      | inl same ↦ subst (λ (n : ℕ). is_directory_at s.entries n ≡ true) same (free-parts s dir name parts.0).0
      | inr more ↦ among-directory s (named_in query) e named.1 more
    ] in
    replaced-acyclic s (Smkdir dir name query told) h ok s.next (dir ∷ named_in query)
    (λ q e edge. put-edge s (facts_told query told s (facts_of s)) s.next (record no_facts { edges = dir ∷ named_in query }) (dir ∷ named_in query) q e (λ n. refl) (λ inside. inr inside) edge)
    (λ e inside walk. next-free s h.layout (walk-directory s walk.0 e s.next h walk.1 (there e inside)))
apply-acyclic s (Setq dir query told) h ok =
    let parts = setq-parts s dir query told (accepted-parts (is_possible s (Setq dir query told)) (passed_limit (apply s (Setq dir query told))) ok).0 in
    replaced-acyclic s (Setq dir query told) h ok dir (parent_of s dir ∷ named_in query)
    (λ q e edge. put-edge s (facts_told query told s (facts_of s)) dir (facts_with s (parent_of s dir) (Some query) (facts_of s dir).marks (facts_of s dir)) (parent_of s dir ∷ named_in query) q e (λ n. refl)
    (λ inside. elim (edge-cases s (parent_of s dir) (Some query) (facts_of s dir).marks.permanent e inside) [ inl first ↦ inr first | inr linked ↦ inl (added-edge s dir e linked.0 linked.1) ]) edge)
    (none-reaching s dir (parent_of s dir ∷ named_in query) parts.2)
apply-acyclic s (Mark mark) h ok =
    let parts = mark-parts s mark.dir mark.item mark.kind (accepted-parts (is_possible s (Mark mark)) (passed_limit (apply s (Mark mark))) ok).0 in
    let marks = with_mark mark.kind mark.item (facts_of s mark.dir).marks in
    replaced-acyclic s (Mark mark) h ok mark.dir (linked mark.kind)
    (λ q e edge. put-edge s (facts_of s) mark.dir (facts_with s (parent_of s mark.dir) (query_at s mark.dir) marks (facts_of s mark.dir)) (linked mark.kind) q e (λ n. refl)
    (λ inside. cases e (edge-cases s (parent_of s mark.dir) (query_at s mark.dir) marks.permanent e inside)) edge)
    (apart mark.kind parts.3)
  where
    -- the directory that is added, if one is
    linked : Kind → List ℕ
    linked Permanent = if is_directory_at s.entries mark.item then mark.item ∷ [] else []
    linked other = []

    apart : (kind : Kind) → cycle_of_mark s mark.dir mark.item kind ≡ None → (e : ℕ) → Among (linked kind) e → Reaches (depends s) e mark.dir → ⊥
    apart Permanent none e inside walk = at (is_directory_at s.entries mark.item) none inside
      where
        at : (b : Bool) → (if b then first_reaching s mark.dir (mark.item ∷ []) else None) ≡ None → Among (if b then mark.item ∷ [] else []) e → ⊥
        at true none inside = none-reaching s mark.dir (mark.item ∷ []) none e inside walk
        at false none inside = inside
    apart Prohibited none e inside walk = inside
    apart Transient none e inside walk = inside
    apart Unlinked none e inside walk = inside

    -- its place and its query it had before
    earlier : (e : ℕ) → Among (option_map_or (λ asked. parent_of s mark.dir ∷ named_in asked) (query_at s mark.dir) []) e → Among (depends s mark.dir) e
    earlier e inside = elim (query_at s mark.dir) as (λ o. Among (option_map_or (λ asked. parent_of s mark.dir ∷ named_in asked) o []) e → Among (option_map_or (λ asked. parent_of s mark.dir ∷ named_in asked ++ lenders s mark.dir) o []) e) [
      | None ↦ (λ inside. inside)
      | Some asked ↦ (λ inside. among-left (parent_of s mark.dir ∷ named_in asked) (lenders s mark.dir) e inside)
    ] inside

    new : (e : ℕ) → is_directory_at s.entries e ≡ true → (mark.item ≡ e) × (mark.kind ≡ Permanent) → Among (linked mark.kind) e
    new e there (same, kind) =
        subst (λ (k : Kind). Among (linked k) e) (sym kind)
        (subst (λ (b : Bool). Among (if b then mark.item ∷ [] else []) e) (sym (ap (is_directory_at s.entries) same ∙ there)) (inl same))

    cases : (e : ℕ) → Leads_to s (parent_of s mark.dir) (query_at s mark.dir) (with_mark mark.kind mark.item (facts_of s mark.dir).marks).permanent e → Among (depends s mark.dir) e ⊎ Among (linked mark.kind) e
    cases e (inl first) = inl (earlier e first)
    cases e (inr (inside, there)) = elim (among-marks mark.kind mark.item (facts_of s mark.dir).marks e inside) [
      | inl old ↦ inl (added-edge s mark.dir e old there)
      | inr got ↦ inr (new e there got)
    ]
apply-acyclic s (Mv entry dir name) h ok =
    let parts = move-parts s entry dir name (accepted-parts (is_possible s (Mv entry dir name)) (passed_limit (apply s (Mv entry dir name))) ok).0 in
    let new : List ℕ = option_map_or (λ asked. dir ∷ named_in asked) (query_at s entry) [] in
    replaced-acyclic s (Mv entry dir name) h ok entry new
    (λ q e edge. put-edge s (facts_of s) entry (facts_with s dir (query_at s entry) (facts_of s entry).marks (facts_of s entry)) new q e (λ n. refl)
    (λ inside. elim (edge-cases s dir (query_at s entry) (facts_of s entry).marks.permanent e inside) [ inl first ↦ inr first | inr linked ↦ inl (added-edge s entry e linked.0 linked.1) ]) edge)
    (apart (query_at s entry) parts.3)
  where
    apart : (o : Option (Formula ℕ)) → option_and_then (cycle_over s entry dir) o ≡ None → (e : ℕ) → Among (option_map_or (λ q. dir ∷ named_in q) o []) e → Reaches (depends s) e entry → ⊥
    apart None none e inside walk = inside
    apart (Some q) none e inside walk = none-reaching s entry (dir ∷ named_in q) none e inside walk
apply-acyclic s (Unq dir) h ok = fewer-acyclic s (Unq dir) h ok (λ q e edge. put-none s (facts_of s) dir no_facts q e refl (λ n. refl) edge)
apply-acyclic s (Rmdir dir) h ok = fewer-acyclic s (Rmdir dir) h ok (λ q e edge. put-none s (facts_of s) dir no_facts q e refl (λ n. refl) edge)
apply-acyclic s (Smount dir name space documents told) h ok =
    fewer-acyclic s (Smount dir name space documents told) h ok (λ q e edge. put-none s (facts_of s) s.next (record no_facts { answers = answers_to (terms_to_ask s.entries) told }) q e refl (λ n. refl) edge)
apply-acyclic s (Ssync mount documents told) h ok =
    fewer-acyclic s (Ssync mount documents told) h ok (λ q e edge. put-none s (facts_without (is_such_at (is_gone mount documents) s.entries) (facts_of s)) mount (record no_facts { answers = answers_to (terms_to_ask s.entries) told }) q e refl (λ n. refl) edge)
apply-acyclic s (Sumount mount) h ok =
    fewer-acyclic s (Sumount mount) h ok (λ q e edge. put-none s (facts_without (is_such_at (is_of_mount mount) s.entries) (facts_of s)) mount no_facts q e refl (λ n. refl) edge)
apply-acyclic s (Mkdir dir name) h ok = fewer-acyclic s (Mkdir dir name) h ok (λ q e edge. edge)
apply-acyclic s (NewFile dir name text) h ok = fewer-acyclic s (NewFile dir name text) h ok (λ q e edge. edge)
apply-acyclic s (Rewrite file text) h ok = fewer-acyclic s (Rewrite file text) h ok (λ q e edge. edge)
apply-acyclic s (Ln dir name target) h ok = fewer-acyclic s (Ln dir name target) h ok (λ q e edge. edge)
apply-acyclic s (Rm item) h ok = fewer-acyclic s (Rm item) h ok (λ q e edge. edge)
apply-acyclic s Step h ok = fewer-acyclic s Step h ok (λ q e edge. edge)
apply-acyclic s (Cd session dir) h ok = h.acyclic

pub empty-valid : IsValid empty
empty-valid = record { layout = empty-layout; queries = tt; answers = tt; few = refl; acyclic = (λ steps dir back. back.1); sessions = record { names = tt; differ = tt; there = tt; elsewhere = tt; few = refl } }

pub apply-valid : (s : State) (event : Event) → IsValid s → IsTrue (accepted s event) → IsValid (apply s event)
apply-valid s event h ok =
    let layout = apply-layout s event h.layout ok in
    let queries = apply-queries s event h ok in
    record { layout = layout; queries = queries; answers = apply-answers s event h ok; few = apply-few s event h ok; acyclic = apply-acyclic s event h ok; sessions = apply-sessions s event h ok }
