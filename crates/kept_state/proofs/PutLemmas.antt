-- What was prepared is made so: each event by what it does to the tree, the marks, the answers and the graph.
use Rattle.std.proofs.Common.{◌≡◌, ℕ, Bool, true, false, cond, List, [], ◌∷◌, refl, ap, sym, ◌∙◌, arith}
use Rattle.std.specs.Prelude.{◌==◌, ◌&&◌, not, Option, Some, None, is_some, IsTrue}
use Rattle.std.specs.Option.{option_map, option_map_or}
use Rattle.std.proofs.Math.Bool.{and-false, and-true}
use Rattle.std.proofs.lemmas.Bool.{and_parts, eqb-true}
use Rattle.std.proofs.lemmas.List.{append-nil}
use Rattle.hac_model.specs.Tree.Depends.{named_in}
use Rattle.hac_model.specs.Tree.Events.{accepted, added, asking, changed_at, edited, may_mark, removed, reseated}
use Rattle.hac_model.specs.Tree.Asking.{with_answers}
use Rattle.hac_model.specs.Tree.Facts.{Facts, Marks, bare_after, edges_to, facts_after, facts_at, facts_told, facts_with, no_facts, with_mark}
use Rattle.hac_model.specs.Query.Formula.{Formula}
use Rattle.hac_model.specs.Tree.Limits.{is_text}
use Rattle.hac_model.specs.Tree.Links.{is_semantic, parent_of, query_at}
use Rattle.hac_model.specs.Tree.Sessions.{sessions_after}
use Rattle.hac_model.specs.Tree.{body_at, entry_at, is_directory, is_directory_at, is_file_at, is_leaf, is_mount, is_mount_at}
use Rattle.hac_model.specs.declared.events.Event.{Event}
use Rattle.hac_model.specs.declared.events.Event.TheVariants as event
use Rattle.hac_model.specs.declared.marks.Kind.{Kind}
use Rattle.hac_model.specs.declared.marks.Kind.TheVariants.{Transient, Permanent, Prohibited, Unlinked}
use Rattle.hac_model.specs.declared.marks.Mark.{Mark}
use Rattle.hac_model.specs.declared.states.Answer.{Answer}
use Rattle.hac_model.specs.declared.states.Body.{Body}
use Rattle.hac_model.specs.declared.states.Body.TheVariants.{Semantic}
use Rattle.hac_model.specs.declared.states.Entry.{Entry}
use Rattle.hac_model.specs.declared.states.State.{State}
use Rattle.hac_model.proofs.TreeLemmas.{entry_at-next}
use Rattle.hac_model.proofs.ValidLemmas.{mark-parts, move-parts, rmdir-parts, setq-parts}
use Rattle.dep_graph.specs.Graphs as graph
use Rattle.dep_graph.specs.Graphs.{edges_of, replaced}
use Rattle.file_tree.specs.Seen as tree
use Rattle.set_pool.specs.Rising as items
use Rattle.link_kinds.specs.Kinds.{no_lists, with_kind, without_item}
use Rattle.link_kinds.specs.Seen.{ChangesDir, DropsItem, Known, LinkListsRise, SameLinks, has_sets, lists_in, permanent_in, prohibited_in, transient_in}
use Rattle.link_kinds.proofs.PutLemmas.{inserted-put, removed-without}
use Rattle.kept_facts.specs.Answers.{Answered, answers_kept, answers_next}
use Rattle.kept_state.specs.Gains.{answers_then}
use Rattle.kept_state.specs.Parts.{IsLinked, edges_marked, edges_then, facts_kept, state_of}
use Rattle.kept_state.specs.Ready.{GainsReady, IsCommitted}
use Rattle.kept_state.specs.declared.parts.Parts.{Parts}
use Rattle.kept_state.proofs.AnswerLemmas.{asking-keeps_none, kept-answers, mountless}
use Rattle.kept_state.proofs.GainLemmas.{gained-plain}
use Rattle.kept_state.proofs.KeptLemmas.{answers-still, has_edges, kept-lists, lists-still, own-edges, put, sets-edges, unfound}
use Rattle.kept_state.proofs.ReadyLemmas.{possible-of}
use Rattle.kept_state.proofs.StateLemmas.{kept-bares, same-file, same-leaf, same-made, same-mount, same-semantic, same-some}

-- an entry whose body passes a test is there
tested-there : (t : State) (n : ℕ) (p : Body → Bool) → option_map_or p (body_at t.entries n) false ≡ true → is_some (entry_at t.entries n) ≡ true
tested-there t n p h = elim (entry_at t.entries n) as (λ (o : Option Entry). option_map_or p (option_map (λ (e : Entry). e.body) o) false ≡ true → is_some o ≡ true) [
  | None ↦ (λ h. absurd cc)
  | Some e ↦ (λ h. refl)
] h

-- What is seen of facts that one number gets in place of others.

pub edges-put : (b : Bool) (new old : Facts) → cond b new.edges old.edges ≡ (cond b new old).edges
edges-put true new old = refl
edges-put false new old = refl

some-edges : (b : Bool) (new old : Facts) → IsTrue (has_edges new.edges) → IsTrue (has_edges old.edges) → IsTrue (has_edges (cond b new old).edges)
some-edges true new old some also = some
some-edges false new old some also = also

-- The tree has what events refer to.

module _ (kept : Parts) where
  abbrev s : State
  s = state_of kept

  pub moved-there : (entry dir : ℕ) (name : List ℕ) → IsTrue (accepted s (event.Mv entry dir name)) → is_some (entry_at kept.tree.state.entries entry) ≡ true
  moved-there entry dir name ok = sym (same-some s kept.tree.state (kept-bares kept) entry) ∙ (move-parts s entry dir name (possible-of s (event.Mv entry dir name) ok)).0

  pub text-there : (file : ℕ) (text : List ℕ) → IsTrue (accepted s (event.Rewrite file text)) → is_file_at kept.tree.state.entries file ≡ true
  text-there file text ok = sym (same-file s kept.tree.state (kept-bares kept) file) ∙ (and_parts (is_file_at s.entries file) (is_text text) (possible-of s (event.Rewrite file text) ok)).0

  pub leaf-there : (leaf : ℕ) → IsTrue (accepted s (event.Rm leaf)) → is_some (entry_at kept.tree.state.entries leaf) ≡ true
  leaf-there leaf ok = tested-there kept.tree.state leaf is_leaf (sym (same-leaf s kept.tree.state (kept-bares kept) leaf) ∙ possible-of s (event.Rm leaf) ok)

  pub directory-there : (dir : ℕ) → IsTrue (accepted s (event.Rmdir dir)) → is_some (entry_at kept.tree.state.entries dir) ≡ true
  directory-there dir ok = tested-there kept.tree.state dir is_directory (sym (same-made s kept.tree.state (kept-bares kept) dir) ∙ (rmdir-parts s dir (possible-of s (event.Rmdir dir) ok)).0)

-- nothing is kept of the next number yet
pub next-none : (kept : Parts) → IsLinked kept → no_facts ≡ facts_kept kept kept.tree.state.next
next-none kept h =
    let s = state_of kept in
    sym (ap (facts_at (is_directory_at s.entries)) (entry_at-next 0 s.entries s.next s.next h.valid.layout.numbers (omega arith))) ∙ h.own kept.tree.state.next

-- Mounts are told for a query: only what they keep changes.

still-marks : (b : Bool) (new old : Facts) (more : List Answer) → (cond b new old).marks ≡ (cond b new (record old { answers = more })).marks
still-marks true new old more = refl
still-marks false new old more = refl

module _ (kept : Parts) (asked : Formula ℕ) (told : List (List ℕ)) where
  abbrev keeps : ℕ → List Answer
  keeps = answers_kept kept.answers

  abbrev now-told : ℕ → Facts
  now-told = facts_told asked told kept.tree.state (facts_kept kept)

  -- what is no mount keeps what it kept
  pub plain-then : (n : ℕ) → is_mount_at kept.tree.state.entries n ≡ false → answers_then keeps asked told kept.tree.state n ≡ keeps n
  plain-then n plain = ap (λ (more : List Answer). with_answers more (keeps n)) (gained-plain keeps asked told kept.tree.state.entries n plain)

  pub told-but : (m : ℕ) (new : Facts) → answers_then keeps asked told kept.tree.state m ≡ new.answers → (n : ℕ) → answers_then keeps asked told kept.tree.state n ≡ (cond (n == m) new (now-told n)).answers
  told-but m new same n = at (n == m) refl
    where
      at : (b : Bool) → (n == m) ≡ b → answers_then keeps asked told kept.tree.state n ≡ (cond b new (now-told n)).answers
      at true is = ap (answers_then keeps asked told kept.tree.state) (eqb-true n m is) ∙ same
      at false is = refl

-- A semantic directory comes.

module _ (kept : Parts) (h : IsLinked kept) (dir : ℕ) (name : List ℕ) (asked : Formula ℕ) (told : List (List ℕ)) (ok : IsTrue (accepted (state_of kept) (event.Smkdir dir name asked told))) (gains : GainsReady kept asked told) where
  pub semantic-put : (tree : tree.Seen) (edges_now : graph.Seen) (answered : Answered) → tree.state ≡ added kept.tree.state dir name (Semantic asked [] []) → ((q : ℕ) → edges_of edges_now q ≡ replaced (edges_of kept.graph) kept.tree.state.next (edges_then kept kept.tree.state.next dir (Some asked)) q) →
      ((n : ℕ) → answers_kept answered n ≡ answers_next kept.answers n) → IsCommitted (event.Smkdir dir name asked told) kept (record kept { tree = tree; graph = edges_now; answers = answered })
  semantic-put tree edges_now answered is each takes =
      put kept (record kept { tree = tree; graph = edges_now; answers = answered }) (event.Smkdir dir name asked told) h ok is
      (λ n. lists-still kept h t.next new n (ap (λ (facts : Facts). facts.marks) (next-none kept h)) ∙ ap unfound (still-marks (n == t.next) new (facts_kept kept n) (now-told kept asked told n).answers))
      (λ n. each n ∙ (λ i. replaced (edges_of kept.graph) t.next (none-lend i) n) ∙ edges-put (n == t.next) new (now-told kept asked told n))
      (λ n. takes n ∙ gains n ∙ told-but kept asked told t.next new (plain-then kept asked told t.next plain ∙ sym (ap (λ (facts : Facts). facts.answers) (next-none kept h))) n)
      (λ n has. some-edges (n == t.next) new (now-told kept asked told n) refl (sets-edges kept h n has))
      refl
    where
      t : State
      t = kept.tree.state

      new : Facts
      new = record no_facts { edges = dir ∷ named_in asked }

      -- nothing was added to it yet
      none-lend : edges_then kept t.next dir (Some asked) ≡ dir ∷ named_in asked
      none-lend =
          ap (λ (facts : Facts). edges_to (is_directory_at t.entries) dir (Some asked) facts.marks.permanent) (sym (next-none kept h))
          ∙ ap (λ (numbers : List ℕ). dir ∷ numbers) (append-nil (named_in asked))

      plain : is_mount_at t.entries t.next ≡ false
      plain =
          sym (same-mount (state_of kept) t (kept-bares kept) t.next)
          ∙ ap (λ (o : Option Entry). option_map_or is_mount (option_map (λ (e : Entry). e.body) o) false) (entry_at-next 0 (state_of kept).entries t.next t.next h.valid.layout.numbers (omega arith))

-- A directory gets a query.

module _ (kept : Parts) (h : IsLinked kept) (dir : ℕ) (asked : Formula ℕ) (told : List (List ℕ)) (ok : IsTrue (accepted (state_of kept) (event.Setq dir asked told))) (gains : GainsReady kept asked told) where
  pub query-put : (tree : tree.Seen) (edges_now : graph.Seen) (answered : Answered) → tree.state ≡ changed_at kept.tree.state dir (edited (asking asked)) → ((q : ℕ) → edges_of edges_now q ≡ replaced (edges_of kept.graph) dir (edges_then kept dir (parent_of kept.tree.state dir) (Some asked)) q) →
      ((n : ℕ) → answers_kept answered n ≡ answers_next kept.answers n) → IsCommitted (event.Setq dir asked told) kept (record kept { tree = tree; graph = edges_now; answers = answered })
  query-put tree edges_now answered is each takes =
      put kept (record kept { tree = tree; graph = edges_now; answers = answered }) (event.Setq dir asked told) h ok is
      (λ n. lists-still kept h dir new n refl ∙ ap unfound (still-marks (n == dir) new (facts_kept kept n) (now-told kept asked told n).answers))
      (λ n. each n ∙ edges-put (n == dir) new (now-told kept asked told n))
      (λ n. takes n ∙ gains n ∙ told-but kept asked told dir new (plain-then kept asked told dir plain) n)
      (λ n has. some-edges (n == dir) new (now-told kept asked told n) refl (sets-edges kept h n has))
      refl
    where
      new : Facts
      new = facts_with kept.tree.state (parent_of kept.tree.state dir) (Some asked) (facts_kept kept dir).marks (facts_kept kept dir)

      plain : is_mount_at kept.tree.state.entries dir ≡ false
      plain =
          sym (same-mount (state_of kept) kept.tree.state (kept-bares kept) dir)
          ∙ (setq-parts (state_of kept) dir asked told (possible-of (state_of kept) (event.Setq dir asked told) ok)).4

-- A directory loses its marks and its edges.

module _ (kept : Parts) (h : IsLinked kept) (dir : ℕ) where
  pub asked-none : IsTrue (accepted (state_of kept) (event.Unq dir)) → answers_kept kept.answers dir ≡ []
  asked-none ok = kept-answers kept h dir ∙ asking-keeps_none (state_of kept) dir (possible-of (state_of kept) (event.Unq dir) ok)

  pub made-none : IsTrue (accepted (state_of kept) (event.Rmdir dir)) → answers_kept kept.answers dir ≡ []
  made-none ok = kept-answers kept h dir ∙ mountless (state_of kept) dir (rmdir-parts (state_of kept) dir (possible-of (state_of kept) (event.Rmdir dir) ok)).4

pub dir-gone : (kept : Parts) (e : Event) (dir : ℕ) → IsLinked kept → IsTrue (accepted (state_of kept) e) → ((n : ℕ) → facts_after e kept.tree.state (facts_kept kept) n ≡ cond (n == dir) no_facts (facts_kept kept n)) → kept.sessions ≡ sessions_after e kept.sessions → answers_kept kept.answers dir ≡ [] → (tree : tree.Seen) (marks : Known) (edges_now : graph.Seen) →
    tree.state ≡ bare_after e kept.tree.state → ((q : ℕ) → edges_of edges_now q ≡ replaced (edges_of kept.graph) dir [] q) → ChangesDir kept.marks marks dir no_lists → ((n : ℕ) → has_sets marks n ≡ (has_sets kept.marks n && not (n == dir))) → IsCommitted e kept (record kept { tree = tree; marks = marks; graph = edges_now })
dir-gone kept e dir h ok gone still none tree marks edges_now is each drops sets =
    put kept (record kept { tree = tree; marks = marks; graph = edges_now }) e h ok is
    (λ n. drops n ∙ at (n == dir) n ∙ ap (λ (facts : Facts). unfound facts.marks) (sym (gone n)))
    (λ n. each n ∙ edges-put (n == dir) no_facts (facts_kept kept n) ∙ ap (λ (facts : Facts). facts.edges) (sym (gone n)))
    (λ n. answers-still kept h dir no_facts n (sym none) ∙ ap (λ (facts : Facts). facts.answers) (sym (gone n)))
    (λ n has. ap (λ (facts : Facts). has_edges facts.edges) (gone n) ∙ left (n == dir) n (sym (sets n) ∙ has))
    still
  where
    left : (b : Bool) (n : ℕ) → IsTrue (has_sets kept.marks n && not b) → IsTrue (has_edges (cond b no_facts (facts_kept kept n)).edges)
    left true n has = let never : false ≡ true = sym (and-false (has_sets kept.marks n)) ∙ has in absurd cc
    left false n has = sets-edges kept h n (sym (and-true (has_sets kept.marks n)) ∙ has)

    at : (b : Bool) (n : ℕ) → cond b no_lists (lists_in kept.marks n) ≡ unfound (cond b no_facts (facts_kept kept n)).marks
    at true n = refl
    at false n = kept-lists kept h n

-- An item or a directory gets a mark, or loses it.

module _ (kept : Parts) (h : IsLinked kept) (mark : Mark) (ok : IsTrue (accepted (state_of kept) (event.Mark mark))) where
  mark-fits : (is_semantic (state_of kept) mark.dir ≡ true) × (may_mark (state_of kept) mark.dir mark.item mark.kind ≡ true)
  mark-fits =
      let s = state_of kept in
      let parts = mark-parts s mark.dir mark.item mark.kind (possible-of s (event.Mark mark) ok) in
      (parts.1, parts.2)

  pub mark-put : (marks : Known) (edges_now : graph.Seen) → LinkListsRise kept.marks → ChangesDir kept.marks marks mark.dir (with_kind mark.kind mark.item (lists_in kept.marks mark.dir)) → SameLinks kept.marks marks → ((q : ℕ) → edges_of edges_now q ≡ replaced (edges_of kept.graph) mark.dir (edges_marked kept mark) q) →
      IsCommitted (event.Mark mark) kept (record kept { marks = marks; graph = edges_now })
  mark-put marks edges_now rise change sets each =
      put kept (record kept { marks = marks; graph = edges_now }) (event.Mark mark) h ok refl
      (λ n. change n ∙ at (n == mark.dir) n)
      (λ n. each n ∙ edges-put (n == mark.dir) new (facts_kept kept n))
      (λ n. answers-still kept h mark.dir new n refl)
      (λ n has. some-edges (n == mark.dir) new (facts_kept kept n) (asked (query_at kept.tree.state mark.dir) refl) (sets-edges kept h n (sym (sets n) ∙ has)))
      refl
    where
      old : Marks
      old = (facts_kept kept mark.dir).marks

      new : Facts
      new = facts_with kept.tree.state (parent_of kept.tree.state mark.dir) (query_at kept.tree.state mark.dir) (with_mark mark.kind mark.item old) (facts_kept kept mark.dir)

      -- it has a query
      asked : (o : Option (Formula ℕ)) → query_at kept.tree.state mark.dir ≡ o → IsTrue (has_edges (edges_to (is_directory_at kept.tree.state.entries) (parent_of kept.tree.state mark.dir) o (with_mark mark.kind mark.item old).permanent))
      asked (Some query) is = refl
      asked None is =
          let never : is_some (query_at kept.tree.state mark.dir) ≡ true = sym (same-semantic (state_of kept) kept.tree.state (kept-bares kept) mark.dir) ∙ mark-fits.0 in
          let no : false ≡ true = ap (λ (o : Option (Formula ℕ)). is_some o) (sym is) ∙ never in
          absurd cc

      none : items.removed mark.item (transient_in kept.marks mark.dir) ≡ []
      none = ap (items.removed mark.item) (h.found mark.dir)

      -- no link that is found is put
      one : (k : Kind) → may_mark (state_of kept) mark.dir mark.item k ≡ true → with_kind k mark.item (lists_in kept.marks mark.dir) ≡ unfound (with_mark k mark.item old)
      one Transient fits = absurd cc
      one Permanent fits = λ i. record { transient = none i; permanent = inserted-put mark.item old.permanent (rise mark.dir).permanent i; prohibited = removed-without mark.item old.prohibited i; lent = h.lent mark.dir i }
      one Prohibited fits = λ i. record { transient = none i; permanent = removed-without mark.item old.permanent i; prohibited = inserted-put mark.item old.prohibited (rise mark.dir).prohibited i; lent = h.lent mark.dir i }
      one Unlinked fits = λ i. record { transient = none i; permanent = removed-without mark.item old.permanent i; prohibited = removed-without mark.item old.prohibited i; lent = h.lent mark.dir i }

      at : (b : Bool) (n : ℕ) → cond b (with_kind mark.kind mark.item (lists_in kept.marks mark.dir)) (lists_in kept.marks n) ≡ unfound (cond b new (facts_kept kept n)).marks
      at true n = one mark.kind mark-fits.1
      at false n = kept-lists kept h n

-- An entry goes elsewhere.

module _ (kept : Parts) (h : IsLinked kept) (entry dir : ℕ) (name : List ℕ) (ok : IsTrue (accepted (state_of kept) (event.Mv entry dir name))) where
  pub moved-put : (tree : tree.Seen) (edges_now : graph.Seen) → tree.state ≡ changed_at kept.tree.state entry (reseated dir name) → ((q : ℕ) → edges_of edges_now q ≡ replaced (edges_of kept.graph) entry (edges_then kept entry dir (query_at kept.tree.state entry)) q) →
      IsCommitted (event.Mv entry dir name) kept (record kept { tree = tree; graph = edges_now })
  moved-put tree edges_now is each =
      put kept (record kept { tree = tree; graph = edges_now }) (event.Mv entry dir name) h ok is
      (λ n. lists-still kept h entry new n refl)
      (λ n. each n ∙ edges-put (n == entry) new (facts_kept kept n))
      (λ n. answers-still kept h entry new n refl)
      (λ n has. asks n (n == entry) refl (sets-edges kept h n has))
      refl
    where
      new : Facts
      new = facts_with kept.tree.state dir (query_at kept.tree.state entry) (facts_kept kept entry).marks (facts_kept kept entry)

      -- it asks what it asked
      same : (o : Option (Formula ℕ)) (parent : ℕ) → has_edges (edges_then kept entry dir o) ≡ has_edges (edges_then kept entry parent o)
      same None parent = refl
      same (Some q) parent = refl

      asks : (n : ℕ) (b : Bool) → (n == entry) ≡ b → IsTrue (has_edges (edges_of kept.graph n)) → IsTrue (has_edges (cond b new (facts_kept kept n)).edges)
      asks n true here has =
          same (query_at kept.tree.state entry) (parent_of kept.tree.state entry)
          ∙ ap has_edges (sym (own-edges kept h entry))
          ∙ ap (λ (k : ℕ). has_edges (edges_of kept.graph k)) (sym (eqb-true n entry here)) ∙ has
      asks n false here has = has

-- A file or a link goes.

pub removed-put : (kept : Parts) (entry : ℕ) → IsLinked kept → IsTrue (accepted (state_of kept) (event.Rm entry)) → (tree : tree.Seen) (marks : Known) → tree.state ≡ removed kept.tree.state entry → DropsItem kept.marks marks entry → SameLinks kept.marks marks → IsCommitted (event.Rm entry) kept (record kept { tree = tree; marks = marks })
removed-put kept entry h ok tree marks is drops sets =
    put kept (record kept { tree = tree; marks = marks }) (event.Rm entry) h ok is
    (λ n. drops n ∙ ap (without_item entry) (kept-lists kept h n) ∙ (λ i. record { transient = []; permanent = removed-without entry (permanent_in kept.marks n) i; prohibited = removed-without entry (prohibited_in kept.marks n) i; lent = [] }))
    (λ n. refl) (λ n. refl) (λ n has. sets-edges kept h n (sym (sets n) ∙ has)) refl
