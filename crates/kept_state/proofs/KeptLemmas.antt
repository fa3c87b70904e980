-- The tree, the marks, the answers and the graph go on to be those of one valid state.
use Rattle.std.proofs.Common.{◌≡◌, ℕ, Bool, true, false, cond, List, [], ◌∷◌, ◌++◌, subst, refl, ap, sym, ◌∙◌}
use Rattle.std.specs.Prelude.{◌==◌, ◌||◌, Option, Some, None, filter, is_some, IsTrue}
use Rattle.std.specs.Option.{option_map_or}
use Rattle.std.proofs.lemmas.Bool.{eqb-true}
use Rattle.hac_model.specs.Laws.{AllHappen}
use Rattle.hac_model.specs.Tree.Depends.{depends, named_in}
use Rattle.hac_model.specs.Tree.Events.{accepted, apply}
use Rattle.hac_model.specs.Tree.Facts.{Facts, Marks, bare_after, edges_to, facts_after, facts_of, joined}
use Rattle.hac_model.specs.Query.Formula.{Formula}
use Rattle.hac_model.specs.Tree.Limits.{counts}
use Rattle.hac_model.specs.Tree as tree
use Rattle.hac_model.specs.Tree.{is_directory_at}
use Rattle.hac_model.specs.Tree.Links.{is_semantic, lenders, parent_of, permanent_at, query_at}
use Rattle.hac_model.specs.Tree.Sessions.{is_stored, sessions_after}
use Rattle.hac_model.specs.Tree.Valid.{IsLayout, IsValid}
use Rattle.hac_model.specs.declared.counts.Counts.{Counts}
use Rattle.hac_model.specs.declared.events.Event.{Event}
use Rattle.hac_model.specs.declared.states.State.{State}
use Rattle.hac_model.proofs.AcyclicLemmas.{apply-valid}
use Rattle.hac_model.proofs.FactLemmas.{edges-told, permanent-fact}
use Rattle.hac_model.proofs.FillLemmas.{tree-law, tree-sessions}
use Rattle.hac_model.proofs.NextLemmas.{next-layout, next-own, next-state}
use Rattle.dep_graph.specs.Graphs.{edges_of}
use Rattle.dep_graph.specs.declared.graph.NewEdges.{NewEdges}
use Rattle.link_kinds.specs.Kinds.{Lists}
use Rattle.link_kinds.specs.Seen.{has_sets, lists_in, permanent_in, prohibited_in}
use Rattle.kept_facts.specs.Answers.{answers_kept}
use Rattle.kept_state.specs.Kept.{IsKept}
use Rattle.kept_state.specs.Parts.{AreAlike, IsLinked, edges_then, facts_kept, state_of}
use Rattle.kept_state.specs.Ready.{IsCommitted, IsReady, CanCommit, IsPreparedFor, ready_events}
use Rattle.kept_state.specs.declared.parts.Parts.{Parts}
use Rattle.kept_state.specs.declared.ready.Ready.{Ready}
use Rattle.kept_state.specs.declared.ready.Ready.TheVariants.{Change}
use Rattle.kept_state.proofs.StateLemmas.{kept-bares, same-counts, same-directory, same-next-bare, same-parent, same-query, same-semantic}

-- The marks of a state are in its facts.

-- lists of these marks, in which no link was found and nothing is lent
abbrev pub unfound : Marks → Lists
unfound marks = record { transient = []; permanent = marks.permanent; prohibited = marks.prohibited; lent = [] }

module _ (kept : Parts) (h : IsLinked kept) where
  pub kept-lists : (n : ℕ) → lists_in kept.marks n ≡ unfound (facts_kept kept n).marks
  kept-lists n = λ i. record { transient = h.found n i; permanent = permanent_in kept.marks n; prohibited = prohibited_in kept.marks n; lent = h.lent n i }

  -- the same, where one number has other facts, but no other marks
  pub lists-still : (k : ℕ) (new : Facts) (n : ℕ) → new.marks ≡ (facts_kept kept k).marks → lists_in kept.marks n ≡ unfound (cond (n == k) new (facts_kept kept n)).marks
  lists-still k new n same = at (n == k) refl
    where
      at : (b : Bool) → (n == k) ≡ b → lists_in kept.marks n ≡ unfound (cond b new (facts_kept kept n)).marks
      at true is = kept-lists n ∙ ap (λ (k : ℕ). unfound (facts_kept kept k).marks) (eqb-true n k is) ∙ ap unfound (sym same)
      at false is = kept-lists n

  -- the same of answers
  pub answers-still : (k : ℕ) (new : Facts) (n : ℕ) → new.answers ≡ (facts_kept kept k).answers → answers_kept kept.answers n ≡ (cond (n == k) new (facts_kept kept n)).answers
  answers-still k new n same = at (n == k) refl
    where
      at : (b : Bool) → (n == k) ≡ b → answers_kept kept.answers n ≡ (cond b new (facts_kept kept n)).answers
      at true is = ap (answers_kept kept.answers) (eqb-true n k is) ∙ sym same
      at false is = refl

  -- the graph has what depends on what
  pub kept-edges : (n : ℕ) → edges_of kept.graph n ≡ depends (state_of kept) n
  kept-edges n = sym (edges-told (state_of kept) n ∙ ap (λ (facts : Facts). facts.edges) (h.own n))

  -- the permanent items and directories are those that are kept, and so are those among them that lend
  pub kept-permanent : (n : ℕ) → permanent_at (state_of kept) n ≡ permanent_in kept.marks n
  kept-permanent n = permanent-fact (state_of kept) n ∙ ap (λ (facts : Facts). facts.marks.permanent) (h.own n)

  same-directories : is_directory_at (state_of kept).entries ≡ is_directory_at kept.tree.state.entries
  same-directories = λ i d. same-directory (state_of kept) kept.tree.state (kept-bares kept) d i

  pub kept-lenders : (n : ℕ) → lenders (state_of kept) n ≡ filter (is_directory_at kept.tree.state.entries) (permanent_in kept.marks n)
  kept-lenders n = λ i. filter (same-directories i) (kept-permanent n i)

  -- what the graph has, by the tree and the marks
  pub own-edges : (n : ℕ) → edges_of kept.graph n ≡ edges_then kept n (parent_of kept.tree.state n) (query_at kept.tree.state n)
  own-edges n =
      let s = state_of kept in
      let t = kept.tree.state in
      kept-edges n
      ∙ (λ i. edges_to (same-directories i) (same-parent s t (kept-bares kept) n i) (same-query s t (kept-bares kept) n i) (kept-permanent n i))

-- where only what each part is ready for changed, all else is as before
module _ (old new : Parts) (same : AreAlike old new) where
  alike-facts : (n : ℕ) → facts_kept new n ≡ facts_kept old n
  alike-facts n = λ i. record { marks = record { permanent = (same.kinds n i).permanent; prohibited = (same.kinds n i).prohibited }; answers = same.answers n i; edges = same.edges n i }

  pub alike-state : state_of new ≡ state_of old
  alike-state = λ i. joined (λ n. alike-facts n i) (same.sessions i) (same.state i)

  pub alike-linked : IsLinked old → IsLinked new
  alike-linked h = record {
    valid = subst (λ (s : State). IsValid s) (sym alike-state) h.valid;
    own = λ n. ap (λ (s : State). facts_of s n) alike-state ∙ h.own n ∙ sym (alike-facts n);
    found = λ d. ap (λ (lists : Lists). lists.transient) (same.kinds d) ∙ h.found d;
    lent = λ d. ap (λ (lists : Lists). lists.lent) (same.kinds d) ∙ h.lent d;
    sets = λ d has. ap (λ (s : State). is_semantic s d) alike-state ∙ either (has_sets old.marks d) d refl (same.sets d has);
    alone = ap (λ (s : State). s.sessions) same.state ∙ h.alone;
  }
    where
      either : (b : Bool) (d : ℕ) → has_sets old.marks d ≡ b → (b || is_semantic old.tree.state d) ≡ true → is_semantic (state_of old) d ≡ true
      either true d is some = h.sets d is
      either false d is some = same-semantic (state_of old) old.tree.state (kept-bares old) d ∙ some

-- An event happens.

-- just a semantic directory has edges
abbrev pub has_edges : List ℕ → Bool
has_edges [] = false
has_edges (edge ∷ edges) = true

semantic-edges : (s : State) (n : ℕ) (facts : Facts) → facts_of s n ≡ facts → is_semantic s n ≡ has_edges facts.edges
semantic-edges s n facts are = told (query_at s n) ∙ ap has_edges (edges-told s n ∙ ap (λ (facts : Facts). facts.edges) are)
  where
    told : (asked : Option (Formula ℕ)) → is_some asked ≡ has_edges (option_map_or (λ q. parent_of s n ∷ named_in q ++ lenders s n) asked [])
    told None = refl
    told (Some q) = refl

-- what has sets has edges
pub sets-edges : (kept : Parts) → IsLinked kept → (n : ℕ) → IsTrue (has_sets kept.marks n) → IsTrue (has_edges (edges_of kept.graph n))
sets-edges kept h n has = sym (semantic-edges (state_of kept) n (facts_kept kept n) (h.own n)) ∙ h.sets n has

module _ (kept : Parts) (event : Event) where
  -- the counts after it are those of the tree after it
  pub next-counts : counts (apply (state_of kept) event) ≡ counts (bare_after event kept.tree.state)
  next-counts =
      same-counts (apply (state_of kept) event) (bare_after event kept.tree.state)
      (same-next-bare (state_of kept) kept.tree.state (kept-bares kept) event ∙ sym (tree-law event kept.tree.state))

  -- the tree after it is one
  pub next-tree : IsLinked kept → IsTrue (accepted (state_of kept) event) → IsLayout (bare_after event kept.tree.state)
  next-tree h ok = next-layout kept.tree.state (facts_kept kept) kept.sessions event h.valid ok

-- what was prepared is ready
pub kept-ready : (kept new : Parts) (ready : Ready) (event : Event) (edges : Option NewEdges) (told : Counts) → IsLinked kept → AreAlike kept new → IsTrue (accepted (state_of kept) event) → IsTrue (is_stored event) → IsPreparedFor event edges new → told ≡ counts (apply (state_of kept) event) →
    ready ≡ Change event edges told → IsKept (record { parts = new; ready = ready })
kept-ready kept new ready event edges told h same ok kept_too fits all is =
    let state = sym (alike-state kept new same) in
    subst (λ (r : Ready). IsKept (record { parts = new; ready = r })) (sym is) (record {
      linked = alike-linked kept new same h;
      ready = (fits, all ∙ ap (λ (s : State). counts (apply s event)) state, kept_too);
      happen = (subst (λ (s : State). IsTrue (accepted s event)) state ok, tt);
    })

-- what is ready may be applied
pub may-put : (kept : Parts) (ready : Ready) (event : Event) (edges : Option NewEdges) (told : Counts) → IsLinked kept → IsReady ready kept → AllHappen (state_of kept) (ready_events ready) → ready ≡ Change event edges told → CanCommit event told kept
may-put kept ready event edges told h fits happen is =
    let ok : IsTrue (accepted (state_of kept) event) = (subst (λ (r : Ready). AllHappen (state_of kept) (ready_events r)) is happen).0 in
    record {
      linked = h;
      happens = ok;
      tree = record { layout = next-tree kept event h ok; counts_are = (subst (λ (r : Ready). IsReady r kept) is fits).1 ∙ next-counts kept event };
    }

-- and it is one that is stored
pub ready-stored : (kept : Parts) (ready : Ready) (event : Event) (edges : Option NewEdges) (told : Counts) → IsReady ready kept → ready ≡ Change event edges told → IsTrue (is_stored event)
ready-stored kept ready event edges told fits is = (subst (λ (r : Ready). IsReady r kept) is fits).2

module _ (kept new : Parts) (event : Event) (h : IsLinked kept) (ok : IsTrue (accepted (state_of kept) event)) where
  abbrev now : ℕ → Facts
  now = facts_after event kept.tree.state (facts_kept kept)

  -- it is put by what it does to the tree, the marks, the answers and the graph
  pub put : new.tree.state ≡ bare_after event kept.tree.state → ((n : ℕ) → lists_in new.marks n ≡ unfound (now n).marks) → ((n : ℕ) → edges_of new.graph n ≡ (now n).edges) →
      ((n : ℕ) → answers_kept new.answers n ≡ (now n).answers) → ((n : ℕ) → IsTrue (has_sets new.marks n) → IsTrue (has_edges (now n).edges)) → new.sessions ≡ sessions_after event kept.sessions → IsCommitted event kept new
  put tree marks edges answers sets sessions = record {
    state = led;
    linked = record {
      valid = subst (λ (s : State). IsValid s) (sym led) (apply-valid (state_of kept) event h.valid ok);
      own = own;
      sets = λ n has. semantic-edges (state_of new) n (now n) (own n ∙ facts n) ∙ sets n has;
      found = λ d. ap (λ (lists : Lists). lists.transient) (marks d);
      lent = λ d. ap (λ (lists : Lists). lists.lent) (marks d);
      alone = ap (λ (s : State). s.sessions) tree ∙ tree-sessions event kept.tree.state ∙ h.alone;
    };
  }
    where
      facts : (n : ℕ) → facts_kept new n ≡ now n
      facts n = λ i. record { marks = record { permanent = (marks n i).permanent; prohibited = (marks n i).prohibited }; answers = answers n i; edges = edges n i }

      own : (n : ℕ) → facts_of (state_of new) n ≡ facts_kept new n
      own = next-own kept.tree.state (facts_kept kept) kept.sessions event h.valid ok h.own new.tree.state tree (facts_kept new) facts new.sessions sessions

      led : state_of new ≡ apply (state_of kept) event
      led = next-state kept.tree.state (facts_kept kept) kept.sessions event h.valid ok h.own new.tree.state tree (facts_kept new) facts new.sessions sessions

  -- an event that tells no facts
  pub put-still : now ≡ facts_kept kept → new.tree.state ≡ bare_after event kept.tree.state → new.marks ≡ kept.marks → new.answers ≡ kept.answers → new.graph ≡ kept.graph → new.sessions ≡ sessions_after event kept.sessions → IsCommitted event kept new
  put-still still tree marks answers graph sessions =
      put tree
      (λ n. ap (λ m. lists_in m n) marks ∙ kept-lists kept h n ∙ ap (λ (facts : ℕ → Facts). unfound (facts n).marks) (sym still))
      (λ n. ap (λ g. edges_of g n) graph ∙ ap (λ (facts : ℕ → Facts). (facts n).edges) (sym still))
      (λ n. ap (λ a. answers_kept a n) answers ∙ ap (λ (facts : ℕ → Facts). (facts n).answers) (sym still))
      (λ n has. ap (λ (facts : ℕ → Facts). has_edges (facts n).edges) still ∙ sets-edges kept h n (ap (λ m. has_sets m n) (sym marks) ∙ has))
      sessions
