-- Mounts are put: what they need, and what each of their events does to the tree, the marks and the answers.
use Rattle.std.proofs.Common.{◌≡◌, ℕ, ◌≤◌, Bool, true, false, cond, List, [], length, refl, ap, sym, ◌∙◌}
use Rattle.std.specs.Prelude.{◌==◌, Option, Some, None, IsTrue}
use Rattle.std.specs.List.{list_all}
use Rattle.std.specs.Option.{option_map, option_map_or}
use Rattle.std.proofs.lemmas.Bool.{and_parts, eqb-true, leb-true}
use Rattle.hac_model.specs.Tree.Events.{accepted}
use Rattle.hac_model.specs.Tree.Facts.{Facts, Marks, bare_after, facts_after, facts_at, facts_in, facts_of, facts_without, no_facts, no_marks}
use Rattle.hac_model.specs.Tree.Mounting.{answers_to, are_documents, are_told, do_names_rise, is_gone, is_of_mount, is_such_at, is_told, mounted, synced}
use Rattle.hac_model.specs.Tree.Mounts.{terms_to_ask}
use Rattle.hac_model.specs.Tree.Sessions.{sessions_after}
use Rattle.hac_model.specs.Tree.{entry_at, is_directory_at, is_mount, is_mount_at}
use Rattle.hac_model.specs.declared.events.Event.{Event}
use Rattle.hac_model.specs.declared.events.Event.TheVariants as event
use Rattle.hac_model.specs.declared.limits.TheConstants.{DOCS_LIMIT}
use Rattle.hac_model.specs.declared.states.Answer.{Answer}
use Rattle.hac_model.specs.declared.states.Body.{Body}
use Rattle.hac_model.specs.declared.states.Body.TheVariants.{File, Dir, Symlink, Semantic, Mount, Document}
use Rattle.hac_model.specs.declared.states.Entry.{Entry}
use Rattle.hac_model.specs.declared.states.State.{State}
use Rattle.hac_model.specs.declared.terms.Term.{Term}
use Rattle.hac_model.proofs.LayoutLemmas.{smount-parts, ssync-parts, sumount-parts}
use Rattle.hac_model.proofs.MountLayoutLemmas.{documents-parts}
use Rattle.hac_model.proofs.ValidLemmas.{free-parts}
use Rattle.dep_graph.specs.Graphs.{edges_of}
use Rattle.file_tree.specs.Seen as tree
use Rattle.link_kinds.specs.Seen.{Known, SameLinks, lists_in}
use Rattle.kept_facts.specs.Answers.{Answered, Replaces, Takes, answers_kept}
use Rattle.kept_state.specs.Forgetting.{ForgetsSuch, lists_without}
use Rattle.kept_state.specs.Parts.{IsLinked, facts_kept, state_of}
use Rattle.kept_state.specs.Ready.{AnswersReady, IsCommitted}
use Rattle.kept_state.specs.declared.parts.Parts.{Parts}
use Rattle.kept_state.proofs.KeptLemmas.{has_edges, kept-lists, lists-still, put, sets-edges, unfound}
use Rattle.kept_state.proofs.PutLemmas.{next-none}
use Rattle.kept_state.proofs.ReadyLemmas.{possible-of}
use Rattle.kept_state.proofs.StateLemmas.{kept-bares, same-directory, same-mount, same-terms}

-- What events of mounts need.

told-even : (s : State) (mount : ℕ) (terms : List Term) (told : List (List ℕ)) → are_told s mount terms told ≡ true → length told ≡ length terms
told-even s mount terms told h = eqb-true (length told) (length terms) (and_parts (length told == length terms) (list_all (is_told s mount) told) h).0

module _ (kept : Parts) where
  abbrev s : State
  s = state_of kept

  abbrev t : State
  t = kept.tree.state

  terms-kept : terms_to_ask s.entries ≡ terms_to_ask t.entries
  terms-kept = same-terms s t (kept-bares kept)

  module _ (dir : ℕ) (name space : List ℕ) (documents told : List (List ℕ)) (ok : IsTrue (accepted s (event.Smount dir name space documents told))) where
    mount-parts : (is_directory_at t.entries dir ≡ true) × (are_documents documents ≡ true) × (length told ≡ length (terms_to_ask t.entries))
    mount-parts =
        let parts = smount-parts s dir name space documents told (possible-of s (event.Smount dir name space documents told) ok) in (
          sym (same-directory s t (kept-bares kept) dir) ∙ (free-parts s dir name parts.0).0,
          parts.2,
          told-even (mounted s dir name space (answers_to (terms_to_ask s.entries) told) documents) s.next (terms_to_ask s.entries) told parts.3 ∙ ap (λ (ts : List Term). length ts) terms-kept,
        )

    pub mount-directory : is_directory_at t.entries dir ≡ true
    mount-directory = mount-parts.0

    pub mount-few : length documents ≤ DOCS_LIMIT
    mount-few = leb-true (length documents) DOCS_LIMIT (documents-parts documents mount-parts.1).2

    pub mount-rise : do_names_rise documents ≡ true
    mount-rise = (documents-parts documents mount-parts.1).1

    pub mount-even : length told ≡ length (terms_to_ask t.entries)
    mount-even = mount-parts.2

  module _ (mount : ℕ) (documents told : List (List ℕ)) (ok : IsTrue (accepted s (event.Ssync mount documents told))) where
    sync-parts : (is_mount_at s.entries mount ≡ true) × (are_documents documents ≡ true) × (length told ≡ length (terms_to_ask t.entries))
    sync-parts =
        let parts = ssync-parts s mount documents told (possible-of s (event.Ssync mount documents told) ok) in (
          parts.0,
          parts.1,
          told-even (synced s mount (answers_to (terms_to_ask s.entries) told) documents) mount (terms_to_ask s.entries) told parts.2 ∙ ap (λ (ts : List Term). length ts) terms-kept,
        )

    pub sync-there : is_mount_at s.entries mount ≡ true
    sync-there = sync-parts.0

    pub sync-mount : is_mount_at t.entries mount ≡ true
    sync-mount = sym (same-mount s t (kept-bares kept) mount) ∙ sync-parts.0

    pub sync-documents : are_documents documents ≡ true
    sync-documents = sync-parts.1

    pub sync-rise : do_names_rise documents ≡ true
    sync-rise = (documents-parts documents sync-parts.1).1

    pub sync-even : length told ≡ length (terms_to_ask t.entries)
    sync-even = sync-parts.2

  module _ (mount : ℕ) (ok : IsTrue (accepted s (event.Sumount mount))) where
    pub going-mount : is_mount_at s.entries mount ≡ true
    going-mount = (sumount-parts s mount (possible-of s (event.Sumount mount) ok)).0

    pub gone-mount : is_mount_at t.entries mount ≡ true
    gone-mount = sym (same-mount s t (kept-bares kept) mount) ∙ going-mount

-- what was prepared is put
pub put-answers : (kept : Parts) (mount : ℕ) (told : List (List ℕ)) (new : Answered) → AnswersReady kept mount told → Takes kept.answers new → Replaces kept.answers new mount (answers_to (terms_to_ask kept.tree.state.entries) told)
put-answers kept mount told new ready takes = λ n. takes.kept n ∙ ready n

-- A mount comes.

pub mount-put : (kept : Parts) (h : IsLinked kept) (dir : ℕ) (name space : List ℕ) (documents told : List (List ℕ)) → IsTrue (accepted (state_of kept) (event.Smount dir name space documents told)) → (tree : tree.Seen) (answered : Answered) →
    tree.state ≡ mounted kept.tree.state dir name space [] documents → Replaces kept.answers answered kept.tree.state.next (answers_to (terms_to_ask kept.tree.state.entries) told) →
    IsCommitted (event.Smount dir name space documents told) kept (record kept { tree = tree; answers = answered })
mount-put kept h dir name space documents told ok tree answered is replaces =
    put kept (record kept { tree = tree; answers = answered }) (event.Smount dir name space documents told) h ok is
    (λ n. lists-still kept h kept.tree.state.next new n (ap (λ (facts : Facts). facts.marks) (next-none kept h)))
    (λ n. edges (n == kept.tree.state.next) n refl)
    (λ n. replaces n ∙ answers (n == kept.tree.state.next) n)
    (λ n has. ap has_edges (sym (edges (n == kept.tree.state.next) n refl)) ∙ sets-edges kept h n has)
    refl
  where
    new : Facts
    new = record no_facts { answers = answers_to (terms_to_ask kept.tree.state.entries) told }

    edges : (b : Bool) (n : ℕ) → (n == kept.tree.state.next) ≡ b → edges_of kept.graph n ≡ (cond b new (facts_kept kept n)).edges
    edges true n here = ap (edges_of kept.graph) (eqb-true n kept.tree.state.next here) ∙ sym (ap (λ (facts : Facts). facts.edges) (next-none kept h))
    edges false n here = refl

    answers : (b : Bool) (n : ℕ) → cond b new.answers (answers_kept kept.answers n) ≡ (cond b new (facts_kept kept n)).answers
    answers true n = refl
    answers false n = refl

-- A mount loses documents, and has other answers.

-- a mount has no marks and no edges
mount-facts : (s : State) (n : ℕ) → is_mount_at s.entries n ≡ true → ((facts_of s n).marks ≡ no_marks) × ((facts_of s n).edges ≡ [])
mount-facts s n h = at (entry_at s.entries n) h
  where
    body-facts : (dir : ℕ) (body : Body) → is_mount body ≡ true → ((facts_in (is_directory_at s.entries) dir body).marks ≡ no_marks) × ((facts_in (is_directory_at s.entries) dir body).edges ≡ [])
    body-facts dir (Mount space answers) h = (refl, refl)
    body-facts dir (File text dirty shown) h = absurd cc
    body-facts dir Dir h = absurd cc
    body-facts dir (Symlink target) h = absurd cc
    body-facts dir (Semantic query permanent prohibited) h = absurd cc
    body-facts dir Document h = absurd cc

    at : (o : Option Entry) → option_map_or is_mount (option_map (λ (e : Entry). e.body) o) false ≡ true → ((facts_at (is_directory_at s.entries) o).marks ≡ no_marks) × ((facts_at (is_directory_at s.entries) o).edges ≡ [])
    at None h = absurd cc
    at (Some e) h = body-facts e.parent e.body h

module _ (kept : Parts) (h : IsLinked kept) (mount : ℕ) (there : is_mount_at (state_of kept).entries mount ≡ true) where
  pub no-marks : (facts_kept kept mount).marks ≡ no_marks
  no-marks = ap (λ (facts : Facts). facts.marks) (sym (h.own mount)) ∙ (mount-facts (state_of kept) mount there).0

  pub no-edges : edges_of kept.graph mount ≡ []
  no-edges = ap (λ (facts : Facts). facts.edges) (sym (h.own mount)) ∙ (mount-facts (state_of kept) mount there).1

  mount-changed : (e : Event) (test : ℕ → Bool) (answers : List Answer) → IsTrue (accepted (state_of kept) e) →
      ((n : ℕ) → facts_after e kept.tree.state (facts_kept kept) n ≡ cond (n == mount) (record no_facts { answers = answers }) (facts_without test (facts_kept kept) n)) → kept.sessions ≡ sessions_after e kept.sessions →
      (tree : tree.Seen) (marks : Known) (answered : Answered) → tree.state ≡ bare_after e kept.tree.state → ForgetsSuch test kept.marks marks → SameLinks kept.marks marks → Replaces kept.answers answered mount answers →
      IsCommitted e kept (record kept { tree = tree; marks = marks; answers = answered })
  mount-changed e test answers ok after still tree marks answered is forgets sets replaces =
      put kept (record kept { tree = tree; marks = marks; answers = answered }) e h ok is
      (λ n. forgets n ∙ lists (n == mount) n refl ∙ ap (λ (facts : Facts). unfound facts.marks) (sym (after n)))
      (λ n. edges (n == mount) n refl ∙ ap (λ (facts : Facts). facts.edges) (sym (after n)))
      (λ n. replaces n ∙ answer (n == mount) n ∙ ap (λ (facts : Facts). facts.answers) (sym (after n)))
      (λ n has. ap (λ (facts : Facts). has_edges facts.edges) (after n) ∙ ap has_edges (sym (edges (n == mount) n refl)) ∙ sets-edges kept h n (sym (sets n) ∙ has))
      still
    where
      new : Facts
      new = record no_facts { answers = answers }

      lists : (b : Bool) (n : ℕ) → (n == mount) ≡ b → lists_without test (lists_in kept.marks n) ≡ unfound (cond b new (facts_without test (facts_kept kept) n)).marks
      lists true n here =
          ap (λ (k : ℕ). lists_without test (lists_in kept.marks k)) (eqb-true n mount here) ∙ ap (lists_without test) (kept-lists kept h mount)
          ∙ ap (λ (m : Marks). lists_without test (unfound m)) no-marks
      lists false n here = ap (lists_without test) (kept-lists kept h n)

      edges : (b : Bool) (n : ℕ) → (n == mount) ≡ b → edges_of kept.graph n ≡ (cond b new (facts_without test (facts_kept kept) n)).edges
      edges true n here = ap (edges_of kept.graph) (eqb-true n mount here) ∙ no-edges
      edges false n here = refl

      answer : (b : Bool) (n : ℕ) → cond b answers (answers_kept kept.answers n) ≡ (cond b new (facts_without test (facts_kept kept) n)).answers
      answer true n = refl
      answer false n = refl

pub sync-put : (kept : Parts) → IsLinked kept → (mount : ℕ) (documents told : List (List ℕ)) → IsTrue (accepted (state_of kept) (event.Ssync mount documents told)) → (tree : tree.Seen) (marks : Known) (answered : Answered) →
    tree.state ≡ bare_after (event.Ssync mount documents told) kept.tree.state → ForgetsSuch (is_such_at (is_gone mount documents) kept.tree.state.entries) kept.marks marks → SameLinks kept.marks marks →
    Replaces kept.answers answered mount (answers_to (terms_to_ask kept.tree.state.entries) told) → IsCommitted (event.Ssync mount documents told) kept (record kept { tree = tree; marks = marks; answers = answered })
sync-put kept h mount documents told ok =
    mount-changed kept h mount (sync-parts kept mount documents told ok).0 (event.Ssync mount documents told) (is_such_at (is_gone mount documents) kept.tree.state.entries) (answers_to (terms_to_ask kept.tree.state.entries) told) ok (λ n. refl) refl

pub unmount-put : (kept : Parts) → IsLinked kept → (mount : ℕ) → IsTrue (accepted (state_of kept) (event.Sumount mount)) → (tree : tree.Seen) (marks : Known) (answered : Answered) →
    tree.state ≡ bare_after (event.Sumount mount) kept.tree.state → ForgetsSuch (is_such_at (is_of_mount mount) kept.tree.state.entries) kept.marks marks → SameLinks kept.marks marks →
    Replaces kept.answers answered mount [] → IsCommitted (event.Sumount mount) kept (record kept { tree = tree; marks = marks; answers = answered })
unmount-put kept h mount ok =
    mount-changed kept h mount (going-mount kept mount ok) (event.Sumount mount) (is_such_at (is_of_mount mount) kept.tree.state.entries) [] ok (λ n. refl) refl
