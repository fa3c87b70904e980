-- What a state will be after the events that it is ready for, by what was prepared.
use Rattle.std.proofs.Common.{◌≡◌, ℕ, zero, suc, Bool, true, false, cond, List, [], ◌∷◌, subst, refl, ap, sym, ◌∙◌}
use Rattle.std.specs.Prelude.{◌==◌, Option, Some, None, IsTrue, replicate, unwrap_or}
use Rattle.std.proofs.lemmas.Bool.{eqb-true}
use Rattle.std.proofs.lemmas.List.{append-nil}
use Rattle.hac_model.specs.Laws.{AllHappen}
use Rattle.hac_model.specs.Tree.Depends.{NeverReturns, depends, named_in}
use Rattle.hac_model.specs.Tree.Events.{accepted, apply, apply_all}
use Rattle.hac_model.specs.Tree.Facts.{Facts, bare_after, edges_to, facts_after, facts_of, facts_told, facts_with, facts_without, no_facts, with_mark}
use Rattle.hac_model.specs.Query.Formula.{Formula}
use Rattle.hac_model.specs.Tree.Links.{answers_at, has, is_item, kept_at, parent_of, query_at}
use Rattle.hac_model.specs.Tree.Mounting.{answers_to, is_gone, is_of_mount, is_such_at}
use Rattle.hac_model.specs.Tree.Mounts.{kept_for, terms_to_ask}
use Rattle.hac_model.specs.Tree.Sessions.{sessions_after}
use Rattle.hac_model.specs.Tree.Valid.{IsValid}
use Rattle.hac_model.specs.Tree.{is_directory_at}
use Rattle.hac_model.specs.declared.counts.Counts.{Counts}
use Rattle.hac_model.specs.declared.events.Event.{Event}
use Rattle.hac_model.specs.declared.events.Event.TheVariants as event
use Rattle.hac_model.specs.declared.states.Answer.{Answer}
use Rattle.hac_model.specs.declared.states.State.{State}
use Rattle.hac_model.specs.declared.terms.Term.{Term}
use Rattle.hac_model.proofs.AcyclicLemmas.{apply-valid}
use Rattle.hac_model.proofs.FactLemmas.{answers-fact, edges-told, facts-law}
use Rattle.hac_model.proofs.NextLemmas.{next-own, next-state}
use Rattle.dep_graph.specs.Graphs as graph
use Rattle.dep_graph.specs.Graphs.{edges_of, edges_with, replaced}
use Rattle.dep_graph.specs.declared.graph.NewEdges.{NewEdges}
use Rattle.kept_facts.specs.After.{edges_after}
use Rattle.kept_facts.specs.Answers.{AreInOrder}
use Rattle.kept_state.specs.After.{answers_next, are_quiet, edges_next, mark_next, next_state, query_next}
use Rattle.kept_state.specs.Kept.{IsKept, seen_of}
use Rattle.kept_state.specs.Parts.{IsLinked, WillHave, edges_marked, edges_then, facts_kept, state_of}
use Rattle.kept_state.specs.Readers.{mark_at}
use Rattle.kept_state.specs.Ready.{IsPreparedFor, IsReady, ready_events}
use Rattle.kept_state.specs.declared.kept.KeptState.TheInside.{Inside}
use Rattle.kept_state.specs.declared.parts.Parts.{Parts}
use Rattle.kept_state.specs.declared.ready.Ready.{Ready}
use Rattle.kept_state.specs.declared.ready.Ready.TheVariants.{Nothing, Change, Session, Steps}
use Rattle.kept_state.proofs.AnswerLemmas.{valid-order}
use Rattle.kept_state.proofs.AskedLemmas.{event-asks, stepped-asks}
use Rattle.kept_state.proofs.LenderLemmas.{will-stay}
use Rattle.kept_state.proofs.MarkedLemmas.{event-mark, kept-mark, mark-fact, mark_in}
use Rattle.kept_state.proofs.MountPutLemmas.{going-mount, no-edges, sync-there}
use Rattle.kept_state.proofs.PutLemmas.{edges-put, next-none}
use Rattle.kept_state.proofs.StateLemmas.{kept-bares, same-query}
use Rattle.kept_state.proofs.ToldNextLemmas.{event-answers}

-- What isn't an event that was prepared by itself is steps or a session's, or nothing.

quiet-steps : (count : ℕ) → are_quiet (replicate count event.Step) ≡ true
quiet-steps zero = refl
quiet-steps (suc count) = quiet-steps count

pub quiet-ready : (ready : Ready) → ((e : Event) (edges : Option NewEdges) (counts : Counts) → ready ≡ Change e edges counts → ⊥) → are_quiet (ready_events ready) ≡ true
quiet-ready (Change e edges counts) other = absurd (other e edges counts refl)
quiet-ready Nothing other = refl
quiet-ready (Session session dir sessions) other = refl
quiet-ready (Steps count) other = quiet-steps count

-- The facts after events.

-- steps tell none
steps-facts : (s : State) (count : ℕ) → IsValid s → AllHappen s (replicate count event.Step) → (n : ℕ) → facts_of (apply_all s (replicate count event.Step)) n ≡ facts_of s n
steps-facts s zero valid happen n = refl
steps-facts s (suc count) valid happen n =
    steps-facts (apply s event.Step) count (apply-valid s event.Step valid happen.0) happen.1 n ∙ facts-law s valid event.Step happen.0 n

-- events that happen leave a state valid
valid-after : (s : State) (events : List Event) → IsValid s → AllHappen s events → IsValid (apply_all s events)
valid-after s [] valid happen = valid
valid-after s (first ∷ events) valid happen = valid-after (apply s first) events (apply-valid s first valid happen.0) happen.1

-- those after all that is ready, by what is kept
abbrev pub facts_next : Ready → Parts → ℕ → Facts
facts_next (Change event edges counts) kept = facts_after event kept.tree.state (facts_kept kept)
facts_next other kept = facts_kept kept

-- nor do they ask anything
steps-ask : (s : State) (count : ℕ) (n : ℕ) → query_at (apply_all s (replicate count event.Step)) n ≡ query_at s n
steps-ask s zero n = refl
steps-ask s (suc count) n = steps-ask (apply s event.Step) count n ∙ stepped-asks s n

module _ (kept : Parts) (h : IsLinked kept) where
  one-facts : (e : Event) → IsTrue (accepted (state_of kept) e) → (n : ℕ) → facts_of (apply (state_of kept) e) n ≡ facts_after e kept.tree.state (facts_kept kept) n
  one-facts e ok n =
      let t = kept.tree.state in
      let facts : ℕ → Facts = facts_kept kept in
      let new : ℕ → Facts = facts_after e t facts in
      ap (λ (s : State). facts_of s n) (sym (next-state t facts kept.sessions e h.valid ok h.own (bare_after e t) refl new (λ m. refl) (sessions_after e kept.sessions) refl))
      ∙ next-own t facts kept.sessions e h.valid ok h.own (bare_after e t) refl new (λ m. refl) (sessions_after e kept.sessions) refl n

  all-facts : (ready : Ready) → AllHappen (state_of kept) (ready_events ready) → (n : ℕ) → facts_of (apply_all (state_of kept) (ready_events ready)) n ≡ facts_next ready kept n
  all-facts Nothing happen n = h.own n
  all-facts (Change e edges counts) happen n = one-facts e happen.0 n
  all-facts (Session session dir sessions) happen n = one-facts (event.Cd session dir) happen.0 n
  all-facts (Steps count) happen n = steps-facts (state_of kept) count h.valid happen n ∙ h.own n

  all-asks : (ready : Ready) → AllHappen (state_of kept) (ready_events ready) → (n : ℕ) → query_at (apply_all (state_of kept) (ready_events ready)) n ≡ query_next ready kept.tree.state n
  all-asks Nothing happen n = same-query (state_of kept) kept.tree.state (kept-bares kept) n
  all-asks (Change e edges counts) happen n = event-asks kept h n e happen.0
  all-asks (Session session dir sessions) happen n = event-asks kept h n (event.Cd session dir) happen.0
  all-asks (Steps count) happen n = steps-ask (state_of kept) count n ∙ same-query (state_of kept) kept.tree.state (kept-bares kept) n

-- Edges.

-- those that were prepared, or that stay, are those that are wanted
prepared-edges : (known : graph.Seen) (dir : ℕ) (wanted : List ℕ) (edges : Option NewEdges) → WillHave known dir wanted edges → (n : ℕ) → edges_with known edges n ≡ replaced (edges_of known) dir wanted n
prepared-edges known dir wanted None will n = will-stay known dir wanted will n
prepared-edges known dir wanted (Some new) will n = λ i. replaced (edges_of known) (will.dir_is i) (will.edges_are i) n

module _ (kept : Parts) (h : IsLinked kept) where
  abbrev known : ℕ → List ℕ
  known = edges_of kept.graph

  -- a number that has none gets facts without any
  none-put : (m : ℕ) (new : Facts) (rest : ℕ → Facts) → new.edges ≡ [] → known m ≡ [] → ((n : ℕ) → (rest n).edges ≡ known n) → (n : ℕ) → known n ≡ (cond (n == m) new (rest n)).edges
  none-put m new rest none bare same n = at (n == m) refl
    where
      at : (b : Bool) → (n == m) ≡ b → known n ≡ (cond b new (rest n)).edges
      at true is = ap known (eqb-true n m is) ∙ bare ∙ sym none
      at false is = sym (same n)

  -- nothing was added yet to a directory that comes
  new-edges : (dir : ℕ) (asked : Formula ℕ) → edges_then kept kept.tree.state.next dir (Some asked) ≡ dir ∷ named_in asked
  new-edges dir asked =
      ap (λ (facts : Facts). edges_to (is_directory_at kept.tree.state.entries) dir (Some asked) facts.marks.permanent) (sym (next-none kept h))
      ∙ ap (λ (numbers : List ℕ). dir ∷ numbers) (append-nil (named_in asked))

  event-edges : (e : Event) (edges : Option NewEdges) → IsTrue (accepted (state_of kept) e) → IsPreparedFor e edges kept → (n : ℕ) → edges_after e edges kept.graph n ≡ (facts_after e kept.tree.state (facts_kept kept) n).edges
  event-edges (event.Smkdir dir name asked told) edges ok fits n =
      let t = kept.tree.state in
      prepared-edges kept.graph t.next (edges_then kept t.next dir (Some asked)) edges fits.1 n
      ∙ ap (λ (wanted : List ℕ). replaced known t.next wanted n) (new-edges dir asked)
      ∙ edges-put (n == t.next) (record no_facts { edges = dir ∷ named_in asked }) (facts_told asked told t (facts_kept kept) n)
  event-edges (event.Setq dir asked told) edges ok fits n =
      let t = kept.tree.state in
      prepared-edges kept.graph dir (edges_then kept dir (parent_of t dir) (Some asked)) edges fits.0 n
      ∙ edges-put (n == dir) (facts_with t (parent_of t dir) (Some asked) (facts_kept kept dir).marks (facts_kept kept dir)) (facts_told asked told t (facts_kept kept) n)
  event-edges (event.Mark mark) edges ok fits n =
      let t = kept.tree.state in
      prepared-edges kept.graph mark.dir (edges_marked kept mark) edges fits.2 n
      ∙ edges-put (n == mark.dir) (facts_with t (parent_of t mark.dir) (query_at t mark.dir) (with_mark mark.kind mark.item (facts_kept kept mark.dir).marks) (facts_kept kept mark.dir)) (facts_kept kept n)
  event-edges (event.Mv entry dir name) edges ok fits n =
      let t = kept.tree.state in
      prepared-edges kept.graph entry (edges_then kept entry dir (query_at t entry)) edges fits.1 n
      ∙ edges-put (n == entry) (facts_with t dir (query_at t entry) (facts_kept kept entry).marks (facts_kept kept entry)) (facts_kept kept n)
  event-edges (event.Unq dir) edges ok fits n = edges-put (n == dir) no_facts (facts_kept kept n)
  event-edges (event.Rmdir dir) edges ok fits n = edges-put (n == dir) no_facts (facts_kept kept n)
  event-edges (event.Smount dir name space documents told) edges ok fits n =
      let t = kept.tree.state in
      none-put t.next (record no_facts { answers = answers_to (terms_to_ask t.entries) told }) (facts_kept kept) refl (sym (ap (λ (facts : Facts). facts.edges) (next-none kept h))) (λ m. refl) n
  event-edges (event.Ssync mount documents told) edges ok fits n =
      let t = kept.tree.state in
      none-put mount (record no_facts { answers = answers_to (terms_to_ask t.entries) told }) (facts_without (is_such_at (is_gone mount documents) t.entries) (facts_kept kept)) refl
      (no-edges kept h mount (sync-there kept mount documents told ok)) (λ m. refl) n
  event-edges (event.Sumount mount) edges ok fits n =
      none-put mount no_facts (facts_without (is_such_at (is_of_mount mount) kept.tree.state.entries) (facts_kept kept)) refl (no-edges kept h mount (going-mount kept mount ok)) (λ m. refl) n
  event-edges (event.Mkdir dir name) edges ok fits n = refl
  event-edges (event.NewFile dir name text) edges ok fits n = refl
  event-edges (event.Rewrite file text) edges ok fits n = refl
  event-edges (event.Ln dir name target) edges ok fits n = refl
  event-edges (event.Rm entry) edges ok fits n = refl
  event-edges event.Step edges ok fits n = refl
  event-edges (event.Cd session dir) edges ok fits n = refl

  ready-edges : (ready : Ready) → IsReady ready kept → AllHappen (state_of kept) (ready_events ready) → (n : ℕ) → edges_next ready kept.graph n ≡ (facts_next ready kept n).edges
  ready-edges Nothing fits happen n = refl
  ready-edges (Change e edges counts) fits happen n = event-edges e edges happen.0 fits.0 n
  ready-edges (Session session dir sessions) fits happen n = refl
  ready-edges (Steps count) fits happen n = refl

-- Marks.

ready-mark : (kept : Parts) → IsLinked kept → (dir item : ℕ) (ready : Ready) → AllHappen (state_of kept) (ready_events ready) → is_item (apply_all (state_of kept) (ready_events ready)) item ≡ true → mark_next ready kept.marks dir item ≡ mark_in (facts_next ready kept dir).marks item
ready-mark kept h dir item Nothing happen there = kept-mark kept h dir item
ready-mark kept h dir item (Change e edges counts) happen there = event-mark kept h dir item e happen.0 there
ready-mark kept h dir item (Session session n sessions) happen there = kept-mark kept h dir item
ready-mark kept h dir item (Steps count) happen there = kept-mark kept h dir item

-- Answers.

ready-answers : (kept : Parts) → IsLinked kept → (ready : Ready) → IsReady ready kept → AllHappen (state_of kept) (ready_events ready) → (n : ℕ) → answers_next ready kept.answers n ≡ (facts_next ready kept n).answers
ready-answers kept h Nothing fits happen n = refl
ready-answers kept h (Change e edges counts) fits happen n = event-answers kept h e edges happen.0 fits.0 n
ready-answers kept h (Session session dir sessions) fits happen n = refl
ready-answers kept h (Steps count) fits happen n = refl

-- All that is ready is made.

module _ (inside : Inside) (h : IsKept inside) where
  abbrev next : State
  next = next_state (seen_of inside)

  next-facts : (n : ℕ) → facts_of next n ≡ facts_next inside.ready inside.parts n
  next-facts n = all-facts inside.parts h.linked inside.ready h.happen n

  next-valid : IsValid next
  next-valid = valid-after (state_of inside.parts) (ready_events inside.ready) h.linked.valid h.happen

  pub next-edges : (n : ℕ) → edges_next inside.ready inside.parts.graph n ≡ depends next n
  next-edges n =
      ready-edges inside.parts h.linked inside.ready h.ready h.happen n
      ∙ ap (λ (facts : Facts). facts.edges) (sym (next-facts n))
      ∙ sym (edges-told next n)

  pub next-returns : NeverReturns (edges_next inside.ready inside.parts.graph)
  next-returns = subst (λ (edges : ℕ → List ℕ). NeverReturns edges) (λ i n. sym (next-edges n) i) next-valid.acyclic

  pub next-asks : (n : ℕ) → query_next inside.ready inside.parts.tree.state n ≡ query_at next n
  next-asks n = sym (all-asks inside.parts h.linked inside.ready h.happen n)

  pub next-mark : (dir item : ℕ) → IsTrue (is_item next item) → mark_next inside.ready inside.parts.marks dir item ≡ mark_at next dir item
  next-mark dir item there =
      ready-mark inside.parts h.linked dir item inside.ready h.happen there
      ∙ ap (λ (facts : Facts). mark_in facts.marks item) (sym (next-facts dir))
      ∙ sym (mark-fact next dir item)

  next-answers : (n : ℕ) → answers_next inside.ready inside.parts.answers n ≡ answers_at next n
  next-answers n =
      ready-answers inside.parts h.linked inside.ready h.ready h.happen n
      ∙ ap (λ (facts : Facts). facts.answers) (sym (next-facts n))
      ∙ sym (answers-fact next n)

  pub next-order : (n : ℕ) → AreInOrder (answers_next inside.ready inside.parts.answers n)
  next-order n = subst AreInOrder (sym (next-answers n)) (valid-order next next-valid n)

  pub next-has : (n : ℕ) (term : Term) (document : ℕ) → has (unwrap_or (kept_for (answers_next inside.ready inside.parts.answers n) term) []) document ≡ has (kept_at next n term) document
  next-has n term document = ap (λ (answers : List Answer). has (unwrap_or (kept_for answers term) []) document) (next-answers n)
