-- What is known of a command that nothing blocks, and what it leads to.
use Rattle.std.proofs.Common.{◌≡◌, ℕ, true, false, List, [], ◌∷◌, subst, refl, ap, sym, ◌∙◌, arith}
use Rattle.std.specs.Prelude.{if◌then◌else◌, ◌==◌, min, Option, None, Some, Result, Ok, Err, IfErr, IfNone, IfOk, IfSome, IsTrue, option_and_then}
use Rattle.std.specs.Option.{option_map, option_map_or}
use Rattle.std.proofs.lemmas.Bool.{and_from}
use Rattle.hac_model.specs.Laws.{AllHappen}
use Rattle.hac_model.specs.Run.Answers.{Passes, Refuses, first_cause}
use Rattle.hac_model.specs.Run.Asks.{asks, no_asks, space_of, told_to}
use Rattle.hac_model.specs.Run.Checkpoints.{is_checkpoint}
use Rattle.hac_model.specs.Run.Given.{no_answers}
use Rattle.hac_model.specs.Run.Refusals.{blocking_cause, cause, cycle_against, cycle_cause, docs_cause, early_cause, event_of, events_of, gone_cause, layout_cause, led_to, not_mount_cause, root_cause}
use Rattle.hac_model.specs.Run.Standing.{AllStand}
use Rattle.hac_model.specs.Spaces.Answering.{AreAnswersTo}
use Rattle.hac_model.specs.Tree.Events.{apply_all, dirty, is_free, is_placed}
use Rattle.hac_model.specs.Tree.Limits.{are_answers_few, counts, first_passed, layout_limits, passed_limit}
use Rattle.hac_model.specs.Tree.Links.{parent_of}
use Rattle.hac_model.specs.Tree.Mounting.{are_documents, are_documents_few}
use Rattle.hac_model.specs.Tree.Sessions.{is_stored}
use Rattle.hac_model.specs.Tree.Valid.{IsLayout, IsValid}
use Rattle.hac_model.specs.Tree.{entry_at, is_document_at, is_mount_at, path_of}
use Rattle.hac_model.specs.declared.states.Entry.{Entry}
use Rattle.hac_model.specs.declared.events.Event.{Event}
use Rattle.hac_model.specs.declared.limits.LimitWord.TheVariants.{Answers as AnswersWord, Docs}
use Rattle.hac_model.specs.declared.places.Place.TheVariants.{There, Free}
use Rattle.hac_model.specs.declared.replies.Deny.{Deny}
use Rattle.hac_model.specs.declared.replies.Refusal.{Refusal}
use Rattle.hac_model.specs.declared.replies.Refusal.TheVariants as refusal
use Rattle.hac_model.specs.declared.replies.Refusal.TheVariants.{Limit}
use Rattle.hac_model.specs.declared.resolved.Resolved.{Resolved}
use Rattle.hac_model.specs.declared.resolved.Resolved.TheVariants as command
use Rattle.hac_model.specs.declared.resolved.Resolved.TheVariants.{Index, Tick}
use Rattle.hac_model.specs.declared.spaces.Answers.{Answers}
use Rattle.hac_model.specs.declared.spaces.Asks.{Asks}
use Rattle.hac_model.specs.declared.states.State.{State}
use Rattle.hac_model.proofs.EventLemmas.{all-valid, cause-parts, made-holder, no_cause, slot-free, steps-happen, unblocked-happen, unblocked-placed}
use Rattle.hac_model.proofs.LimitLemmas.{IsWithinLimits, first-before, limits-within, none-passed, paths-short}
use Rattle.hac_model.proofs.PlayLemmas.{said-answers, saves-nothing}
use Rattle.tree_counts.specs.Seated.{is_seated}
use Rattle.hac_core.specs.Drafts.{IsChange, IsKnownOf, MakesSteps, Settles, answering, change_cause, is_indexing, is_reading, settled_change}
use Rattle.hac_core.specs.Questions.{asks_for}
use Rattle.hac_core.specs.Settling.{answered, settling_cause}
use Rattle.hac_core.specs.declared.drafts.Change.{Change}
use Rattle.hac_core.specs.declared.drafts.Known.{Known}
use Rattle.hac_core.specs.declared.drafts.Known.TheVariants.{Reads, Changes, Indexes, Saves}
use Rattle.hac_core.specs.declared.drafts.Settled.{Settled}
use Rattle.hac_core.specs.declared.drafts.Settled.TheVariants as settled
use Rattle.hac_model.specs.declared.versions.Version.{Version}
use Rattle.hac_model.specs.declared.versions.Version.TheVariants.{One, Two}
use Rattle.hac_model.proofs.VersionLemmas.{apply_all-version}

-- a valid state exceeds no limit on the tree
pub valid-limits : (s : State) → IsValid s → first_passed (layout_limits s.version (counts s)) ≡ None
valid-limits s h =
    let within : IsWithinLimits s = limits-within s h.layout.limits in
    first-before _ _ within.texts (first-before _ _ within.dirs (first-before _ _ within.semantics (first-before _ _ within.mounts (first-before _ _ within.symlinks (first-before _ _ (paths-short s.entries within.paths) none-passed)))))

-- a command that makes one event has that one
made-events : (answers : Answers) (s : State) (r : Resolved) (e : Event) → event_of answers s r ≡ Some e → events_of answers s r ≡ e ∷ []
made-events answers s Index e is = absurd cc
made-events answers s (Tick steps) e is = absurd cc
made-events answers s r e is = ap (λ (o : Option Event). option_map_or (λ e. e ∷ []) o []) is

lone : (o : Option Refusal) → first_cause (o ∷ []) ≡ o
lone None = refl
lone (Some e) = refl

-- Answers.

-- no document is no document too many
none-many : (version : Version) → (if are_documents_few version [] then None else Some (Limit Docs)) ≡ None
none-many One = refl
none-many Two = refl

-- where no list is asked for, no mount gets too many documents
few-unlisted : (s : State) (answers : Answers) (asked : Asks) → asked.list ≡ None → AreAnswersTo asked answers → docs_cause s answers ≡ None
few-unlisted s answers asked none told =
    let empty : answers.list ≡ [] = subst (λ (o : Option (List ℕ)). IfNone o (answers.list ≡ [])) none told.unlisted in
    ap (λ (names : List (List ℕ)). if are_documents_few s.version names then None else Some (Limit Docs)) empty ∙ none-many s.version

-- a command that reads, or indexes, asks for no list
text-unlisted : (s : State) (entry : ℕ) → (asks s (command.Cat entry)).list ≡ None
text-unlisted s entry = elim (is_document_at s.entries entry) as (λ b. unlisted (if b then asked else no_asks)) [ true ↦ refl | false ↦ refl ]
  where
    unlisted : Asks → Type 0
    unlisted asks = asks.list ≡ None

    asked : Asks
    asked = record no_asks {
      fetch = Some (record {
        space = space_of s (parent_of s entry);
        document = option_map_or (λ (e : Entry). e.name) (entry_at s.entries entry) [];
      });
    }

reads-unlisted : (s : State) (r : Resolved) → is_reading r ≡ true → (asks s r).list ≡ None
reads-unlisted s (command.Cat entry) reads = text-unlisted s entry
reads-unlisted s (command.Ls dir) reads = refl
reads-unlisted s (command.Pwd dir) reads = refl
reads-unlisted s (command.Readlink entry) reads = refl
reads-unlisted s (command.Query dir) reads = refl
reads-unlisted s (command.Sls dir) reads = refl
reads-unlisted s (command.Find query) reads = refl
reads-unlisted s command.Counts reads = refl
reads-unlisted s other reads = absurd cc

index-unlisted : (s : State) (r : Resolved) → is_indexing r ≡ true → (asks s r).list ≡ None
index-unlisted s Index indexes = refl
index-unlisted s (Tick steps) indexes = refl
index-unlisted s other indexes = absurd cc

-- what indexes, or makes an event, is no checkpoint
indexing-apart : (r : Resolved) → is_indexing r ≡ true → is_checkpoint r ≡ false
indexing-apart Index indexes = refl
indexing-apart (Tick steps) indexes = refl
indexing-apart other indexes = absurd cc

made-apart : (s : State) (r : Resolved) (e : Event) → event_of no_answers s r ≡ Some e → is_checkpoint r ≡ false
made-apart s command.Checkpoint e is = absurd cc
made-apart s other e is = refl

-- The first causes.

module _ (s : State) (h : IsValid s) where
  -- where a command leads to a valid state and lets no directory depend on itself, nothing refuses it that nothing blocks
  led-early : (r : Resolved) → IsValid (led_to no_answers s r) → blocking_cause s r ≡ None → cycle_cause s r ≡ None → early_cause s r ≡ None
  led-early r led free acyclic =
      let limits = subst (λ (version : Version). first_passed (layout_limits version (counts (led_to no_answers s r))) ≡ None) (apply_all-version s (events_of no_answers s r)) (valid-limits (led_to no_answers s r) led) in
      λ i. first_cause (free i ∷ option_map Limit (limits i) ∷ acyclic i ∷ [])

  -- a command that reads leaves the state
  reads-led : (answers : Answers) (r : Resolved) → is_reading r ≡ true → (led_to answers s r ≡ s) × (cycle_cause s r ≡ None)
  reads-led answers (command.Cat entry) reads = (refl, refl)
  reads-led answers (command.Ls dir) reads = (refl, refl)
  reads-led answers (command.Pwd dir) reads = (refl, refl)
  reads-led answers (command.Readlink entry) reads = (refl, refl)
  reads-led answers (command.Query dir) reads = (refl, refl)
  reads-led answers (command.Sls dir) reads = (refl, refl)
  reads-led answers (command.Find query) reads = (refl, refl)
  reads-led answers command.Counts reads = (refl, refl)
  reads-led answers other reads = absurd cc

  reads-early : (r : Resolved) → is_reading r ≡ true → blocking_cause s r ≡ None → early_cause s r ≡ None
  reads-early r reads free = let led = reads-led no_answers r reads in led-early r (subst IsValid (sym led.0) h) free led.1

  pub known-reads : (r shown : Resolved) → AllStand s r → blocking_cause s r ≡ None → (shown ≡ r) × (is_reading r ≡ true) → IsKnownOf s r (Reads shown)
  known-reads r shown stands free made = record { stands = stands; cause = reads-early r made.1 free; known = made }

  -- only a document that is gone stands against a command that reads
  pub reads-cause : (answers : Answers) (r : Resolved) → is_reading r ≡ true → early_cause s r ≡ None → AreAnswersTo (asks s r) answers → cause answers s r ≡ gone_cause answers s r
  reads-cause answers r reads early told =
      let docs = few-unlisted s answers (asks s r) (reads-unlisted s r reads) told in
      let limits : passed_limit (led_to answers s r) ≡ None = ap passed_limit (reads-led answers r reads).0 ∙ h.layout.limits in
      let few : are_answers_few (led_to answers s r).entries ≡ true = ap (λ (t : State). are_answers_few t.entries) (reads-led answers r reads).0 ∙ h.few in
      (λ i. first_cause (early i ∷ first_cause (gone_cause answers s r ∷ docs i ∷ option_map Limit (limits i) ∷ (if few i then None else Some (Limit AnswersWord)) ∷ []) ∷ []))
      ∙ alone (gone_cause answers s r)
    where
      alone : (o : Option Refusal) → first_cause (None ∷ first_cause (o ∷ None ∷ None ∷ None ∷ []) ∷ []) ≡ o
      alone None = refl
      alone (Some e) = refl

  -- indexing leads to a valid state, and asks nothing
  steps-lead : (answers : Answers) (r : Resolved) → is_indexing r ≡ true → AllHappen s (events_of answers s r)
  steps-lead answers Index indexes = steps-happen (dirty s) s h (omega arith)
  steps-lead answers (Tick steps) indexes = steps-happen (min steps (dirty s)) s h (omega arith)
  steps-lead answers other indexes = absurd cc

  steps-valid : (answers : Answers) (r : Resolved) → is_indexing r ≡ true → IsValid (led_to answers s r)
  steps-valid answers r indexes = all-valid (events_of answers s r) s h (steps-lead answers r indexes)

  index-early : (r : Resolved) → is_indexing r ≡ true → early_cause s r ≡ None
  index-early Index indexes = led-early Index (steps-valid no_answers Index refl) refl refl
  index-early (Tick steps) indexes = led-early (Tick steps) (steps-valid no_answers (Tick steps) refl) refl refl
  index-early other indexes = absurd cc

  index-gone : (answers : Answers) (r : Resolved) → is_indexing r ≡ true → (gone_cause answers s r ≡ None) × (events_of answers s r ≡ events_of no_answers s r)
  index-gone answers Index indexes = (refl, refl)
  index-gone answers (Tick steps) indexes = (refl, refl)
  index-gone answers other indexes = absurd cc

  index-free : (answers : Answers) (r : Resolved) → is_indexing r ≡ true → AreAnswersTo (asks s r) answers → cause answers s r ≡ None
  index-free answers r indexes told =
      let docs = few-unlisted s answers (asks s r) (index-unlisted s r indexes) told in
      let limits : passed_limit (led_to answers s r) ≡ None = (steps-valid answers r indexes).layout.limits in
      let few : are_answers_few (led_to answers s r).entries ≡ true = (steps-valid answers r indexes).few in
      λ i. first_cause (index-early r indexes i ∷ first_cause ((index-gone answers r indexes).0 i ∷ docs i ∷ option_map Limit (limits i) ∷ (if few i then None else Some (Limit AnswersWord)) ∷ []) ∷ [])

  pub known-indexes : (r : Resolved) (count : ℕ) → AllStand s r → MakesSteps s r count → IsKnownOf s r (Indexes count)
  known-indexes r count stands made = record { stands = stands; cause = index-early r made.0; known = made }

  -- a checkpoint leaves the state
  saves-early : (r : Resolved) → is_checkpoint r ≡ true → early_cause s r ≡ None
  saves-early command.Checkpoint saves = led-early command.Checkpoint h refl refl
  saves-early other saves = absurd cc

  saves-free : (answers : Answers) (r : Resolved) → is_checkpoint r ≡ true → AreAnswersTo (asks s r) answers → cause answers s r ≡ None
  saves-free answers command.Checkpoint saves told =
      let docs = few-unlisted s answers (asks s command.Checkpoint) refl told in
      let limits : passed_limit s ≡ None = h.layout.limits in
      let few : are_answers_few s.entries ≡ true = h.few in
      λ i. first_cause (saves-early command.Checkpoint saves i ∷ first_cause (None ∷ docs i ∷ option_map Limit (limits i) ∷ (if few i then None else Some (Limit AnswersWord)) ∷ []) ∷ [])
  saves-free answers other saves told = absurd cc

  pub known-saves : (r : Resolved) → AllStand s r → is_checkpoint r ≡ true → IsKnownOf s r Saves
  known-saves r stands saves = record { stands = stands; cause = saves-early r saves; known = saves }

  pub settles-saved : (answers : Answers) (r : Resolved) → IsKnownOf s r Saves → AreAnswersTo (asks s r) answers → Settles s answers r settled.Checkpoint
  settles-saved answers r fact told = record {
    cause = saves-free answers r fact.known told;
    area = sym fact.known;
    events = sym (saves-nothing answers s r fact.known);
    can = tt;
  }

  pub settles-steps : (answers : Answers) (r : Resolved) (count : ℕ) → IsKnownOf s r (Indexes count) → AreAnswersTo (asks s r) answers → Settles s answers r (settled.Steps count)
  settles-steps answers r count fact told = record {
    cause = index-free answers r fact.known.0 told;
    area = sym (indexing-apart r fact.known.0);
    events = sym ((index-gone answers r fact.known.0).1 ∙ fact.known.1);
    can = subst (AllHappen s) ((index-gone answers r fact.known.0).1 ∙ fact.known.1) (steps-lead answers r fact.known.0);
  }

  -- the causes against an event are those against its command
  change-early : (r : Resolved) (e : Event) → blocking_cause s r ≡ None → event_of no_answers s r ≡ Some e → early_cause s r ≡ change_cause s e
  change-early r e free is =
      λ i. first_cause (free i ∷ option_map Limit (first_passed (layout_limits s.version (counts (apply_all s (made-events no_answers s r e is i))))) ∷ option_and_then (cycle_against s) (is i) ∷ [])

  known-changes : (r : Resolved) (e : Event) (fact : Known) → AllStand s r → blocking_cause s r ≡ None → event_of no_answers s r ≡ Some e → IsChange s e fact → change_cause s e ≡ None → IsKnownOf s r fact
  known-changes r e (Changes change) stands free is made none =
      record { stands = stands; cause = change-early r e free is ∙ none; known = (is ∙ ap (λ (e : Event). some e) (sym made.0), made.1) }
    where
      some : Event → Option Event
      some e = Some e
  known-changes r e (Reads shown) stands free is made none = absurd made
  known-changes r e (Indexes count) stands free is made none = absurd made
  known-changes r e Saves stands free is made none = absurd made

  -- what is known of an event, or why nothing is
  pub knows-change : (r : Resolved) (e : Event) (result : Result Known Deny) → AllStand s r → blocking_cause s r ≡ None → event_of no_answers s r ≡ Some e → IfOk result (IsChange s e) → Passes result (change_cause s e) →
      IfOk result (IsKnownOf s r) × IfErr result (λ deny. Refuses deny (early_cause s r))
  knows-change r e (Ok fact) stands free is made passes = (known-changes r e fact stands free is made passes, tt)
  knows-change r e (Err deny) stands free is made passes = (tt, subst (Refuses deny) (sym (change-early r e free is)) passes)

-- What an event refers to is in the tree.

no-told : (s : State) (r : Resolved) → asks s r ≡ record { list = None; searches = []; fetch = None } → AreAnswersTo (asks s r) no_answers
no-told s r none = subst (λ (asked : Asks). AreAnswersTo asked no_answers) (sym none) (said-answers [] tt (record { list = None; searches = []; fetch = None }))

nothing-few : (s : State) → docs_cause s no_answers ≡ None
nothing-few s = none-many s.version

no-documents : are_documents [] ≡ true
no-documents = refl

mounted-there : (s : State) (mount : ℕ) → not_mount_cause s mount ≡ None → is_mount_at s.entries mount ≡ true
mounted-there s mount free = elim (is_mount_at s.entries mount) as (λ b. (if b then None else Some (refusal.NotMount (path_of s mount))) ≡ None → b ≡ true) [ true ↦ (λ _. refl) | false ↦ (λ h. absurd cc) ] free

not-root : (dir : ℕ) → root_cause dir ≡ None → (dir == 0) ≡ false
not-root dir free = elim (dir == 0) as (λ b. (if b then Some refusal.Root else None) ≡ None → b ≡ false) [ true ↦ (λ h. absurd cc) | false ↦ (λ _. refl) ] free

-- the parts of an event are in the tree, before any space has answered
pub seated-made : (s : State) → IsLayout s → (r : Resolved) (e : Event) → AllStand s r → blocking_cause s r ≡ None → event_of no_answers s r ≡ Some e → is_seated s e ≡ true
seated-made s h r e stands free is = subst (λ (o : Option Event). IfSome o (λ e. IsTrue (is_seated s e))) is (of r stands free)
  where
    of : (r : Resolved) → AllStand s r → blocking_cause s r ≡ None → IfSome (event_of no_answers s r) (λ e. IsTrue (is_seated s e))
    of (command.Smkdir (There number) asked) stands free = tt
    of (command.Smkdir (Free dir name) asked) stands free = slot-free s h true dir name stands.0
    of (command.Setq dir asked) stands free = made-holder s h dir stands.0 (not-root dir free)
    of (command.Smount (There number) space) stands free = tt
    of (command.Smount (Free dir name) space) stands free = and_from (is_free s dir name) (are_documents []) (slot-free s h true dir name stands.0) no-documents
    of (command.Ssync mount) stands free = and_from (is_mount_at s.entries mount) (are_documents []) (mounted-there s mount free) no-documents
    of (command.Mkdir (There number)) stands free = tt
    of (command.Mkdir (Free dir name)) stands free = unblocked-placed s h no_answers (command.Mkdir (Free dir name)) stands free (no-told s (command.Mkdir (Free dir name)) refl) (nothing-few s)
    of (command.Rmdir dir) stands free = unblocked-placed s h no_answers (command.Rmdir dir) stands free (no-told s (command.Rmdir dir) refl) (nothing-few s)
    of (command.Write (There number) text) stands free = unblocked-placed s h no_answers (command.Write (There number) text) stands free (no-told s (command.Write (There number) text) refl) (nothing-few s)
    of (command.Write (Free dir name) text) stands free = unblocked-placed s h no_answers (command.Write (Free dir name) text) stands free (no-told s (command.Write (Free dir name) text) refl) (nothing-few s)
    of (command.Cd session dir) stands free = unblocked-placed s h no_answers (command.Cd session dir) stands free (no-told s (command.Cd session dir) refl) (nothing-few s)
    of (command.Mv entry (There number)) stands free = tt
    of (command.Mv entry (Free dir name)) stands free = unblocked-placed s h no_answers (command.Mv entry (Free dir name)) stands free (no-told s (command.Mv entry (Free dir name)) refl) (nothing-few s)
    of (command.Rm entry) stands free = unblocked-placed s h no_answers (command.Rm entry) stands free (no-told s (command.Rm entry) refl) (nothing-few s)
    of (command.Ln (There number) target) stands free = tt
    of (command.Ln (Free dir name) target) stands free = unblocked-placed s h no_answers (command.Ln (Free dir name) target) stands free (no-told s (command.Ln (Free dir name) target) refl) (nothing-few s)
    of (command.Unq dir) stands free = unblocked-placed s h no_answers (command.Unq dir) stands free (no-told s (command.Unq dir) refl) (nothing-few s)
    of (command.Sln item dir) stands free = unblocked-placed s h no_answers (command.Sln item dir) stands free (no-told s (command.Sln item dir) refl) (nothing-few s)
    of (command.Srm item dir) stands free = unblocked-placed s h no_answers (command.Srm item dir) stands free (no-told s (command.Srm item dir) refl) (nothing-few s)
    of (command.Sforget item dir) stands free = unblocked-placed s h no_answers (command.Sforget item dir) stands free (no-told s (command.Sforget item dir) refl) (nothing-few s)
    of (command.Sumount mount) stands free = unblocked-placed s h no_answers (command.Sumount mount) stands free (no-told s (command.Sumount mount) refl) (nothing-few s)
    of other stands free = tt

-- What the answers of spaces make of an event.

made-answering : (answers : Answers) (s : State) (r : Resolved) → option_map (answering s answers) (event_of no_answers s r) ≡ event_of answers s r
made-answering answers s (command.Mkdir (There number)) = refl
made-answering answers s (command.Mkdir (Free dir name)) = refl
made-answering answers s (command.Write (There number) text) = refl
made-answering answers s (command.Write (Free dir name) text) = refl
made-answering answers s (command.Mv entry (There number)) = refl
made-answering answers s (command.Mv entry (Free dir name)) = refl
made-answering answers s (command.Ln (There number) target) = refl
made-answering answers s (command.Ln (Free dir name) target) = refl
made-answering answers s (command.Smkdir (There number) query) = refl
made-answering answers s (command.Smkdir (Free dir name) query) = refl
made-answering answers s (command.Smount (There number) space) = refl
made-answering answers s (command.Smount (Free dir name) space) = refl
made-answering answers s other = refl

answering-made : (answers : Answers) (s : State) (r : Resolved) (e : Event) → event_of no_answers s r ≡ Some e → event_of answers s r ≡ Some (answering s answers e)
answering-made answers s r e is = sym (made-answering answers s r) ∙ ap (option_map (answering s answers)) is

-- a command that makes an event asks what the event wants
pub asks-made : (s : State) (r : Resolved) (e : Event) → event_of no_answers s r ≡ Some e → asks s r ≡ asks_for s e
asks-made s r e is = subst (λ (o : Option Event). IfSome o (λ e. asks s r ≡ asks_for s e)) is (of r)
  where
    of : (r : Resolved) → IfSome (event_of no_answers s r) (λ e. asks s r ≡ asks_for s e)
    of (command.Mkdir (There number)) = tt
    of (command.Mkdir (Free dir name)) = refl
    of (command.Rmdir dir) = refl
    of (command.Write (There number) text) = refl
    of (command.Write (Free dir name) text) = refl
    of (command.Cd session dir) = refl
    of (command.Mv entry (There number)) = tt
    of (command.Mv entry (Free dir name)) = refl
    of (command.Rm entry) = refl
    of (command.Ln (There number) target) = tt
    of (command.Ln (Free dir name) target) = refl
    of (command.Smkdir (There number) query) = tt
    of (command.Smkdir (Free dir name) query) = refl
    of (command.Setq dir query) = refl
    of (command.Unq dir) = refl
    of (command.Sln item dir) = refl
    of (command.Srm item dir) = refl
    of (command.Sforget item dir) = refl
    of (command.Smount (There number) space) = tt
    of (command.Smount (Free dir name) space) = refl
    of (command.Ssync mount) = refl
    of (command.Sumount mount) = refl
    of other = tt

-- no document is asked for where an event is made
gone-none : (answers : Answers) (s : State) (r : Resolved) (e : Event) → event_of no_answers s r ≡ Some e → gone_cause answers s r ≡ None
gone-none answers s (command.Cat entry) e is = absurd cc
gone-none answers s other e is = refl

cause-settling : (answers : Answers) (s : State) (r : Resolved) (e : Event) → early_cause s r ≡ None → event_of no_answers s r ≡ Some e → cause answers s r ≡ settling_cause s answers e
cause-settling answers s r e early is =
    (λ i. first_cause (early i ∷ first_cause (gone-none answers s r e is i ∷ docs_cause s answers ∷ option_map Limit (passed_limit (apply_all s (events i))) ∷ (if are_answers_few (apply_all s (events i)).entries then None else Some (Limit AnswersWord)) ∷ []) ∷ []))
    ∙ lone (settling_cause s answers e)
  where
    events : events_of answers s r ≡ answering s answers e ∷ []
    events = made-events answers s r (answering s answers e) (answering-made answers s r e is)

module _ (s : State) (h : IsValid s) (answers : Answers) where
  settles-change : (r : Resolved) (change : Change) → IsKnownOf s r (Changes change) → AreAnswersTo (asks s r) answers → settling_cause s answers change.event ≡ None → Settles s answers r (settled_change (answered s answers change.event))
  settles-change r change fact told within =
      elim (is_stored next) as (λ b. is_stored next ≡ b → Settles s answers r (if b then settled.Change (answered s answers change.event) else settled.Session next)) [
        | true ↦ (λ stored. record { cause = free; area = apart; events = sym events; can = (happen, refl, stored) })
        | false ↦ (λ moves. record { cause = free; area = apart; events = sym events; can = (happen, moves) })
      ] refl
    where
      next : Event
      next = answering s answers change.event

      apart : false ≡ is_checkpoint r
      apart = sym (made-apart s r change.event fact.known.0)

      free : cause answers s r ≡ None
      free = cause-settling answers s r change.event fact.cause fact.known.0 ∙ within

      events : events_of answers s r ≡ next ∷ []
      events = made-events answers s r next (answering-made answers s r change.event fact.known.0)

      happen : AllHappen s (next ∷ [])
      happen = let parts = cause-parts answers s r free in subst (AllHappen s) events (unblocked-happen answers s r h fact.stands parts.0 parts.1 told parts.3 parts.2 parts.4)

  -- the outcome of a change, or why there is none
  pub settles-changed : (change : Change) (known : Known) (result : Result Settled Deny) → Changes change ≡ known → IfOk result (λ outcome. outcome ≡ settled_change (answered s answers change.event)) → Passes result (settling_cause s answers change.event) →
      (r : Resolved) → IsKnownOf s r known → AreAnswersTo (asks s r) answers → IfOk result (Settles s answers r) × IfErr result (λ deny. Refuses deny (cause answers s r))
  settles-changed change known (Ok outcome) is made passes r fact told =
      (subst (Settles s answers r) (sym made) (settles-change r change (subst (IsKnownOf s r) (sym is) fact) told passes), tt)
  settles-changed change known (Err deny) is made passes r fact told =
      let own = subst (IsKnownOf s r) (sym is) fact in
      (tt, subst (Refuses deny) (sym (cause-settling answers s r change.event own.cause own.known.0)) passes)

-- what was known of a command that makes this event
pub known-seated : (s : State) → IsLayout s → (r : Resolved) (change : Change) (known : Known) → Changes change ≡ known → IsKnownOf s r known → is_seated s change.event ≡ true
known-seated s h r change known is fact =
    let own = subst (IsKnownOf s r) (sym is) fact in
    seated-made s h r change.event own.stands (no_cause (blocking_cause s r) (layout_cause s r ∷ cycle_cause s r ∷ []) own.cause).0 own.known.0

-- so what spaces answered is placed
pub known-placed : (s : State) → IsLayout s → (answers : Answers) (r : Resolved) (change : Change) (known : Known) → Changes change ≡ known → IsKnownOf s r known → AreAnswersTo (asks s r) answers → docs_cause s answers ≡ None → is_placed s (answering s answers change.event) ≡ true
known-placed s h answers r change known is fact told few =
    let own = subst (IsKnownOf s r) (sym is) fact in
    let free = (no_cause (blocking_cause s r) (layout_cause s r ∷ cycle_cause s r ∷ []) own.cause).0 in
    subst (λ (o : Option Event). IfSome o (λ e. IsTrue (is_placed s e))) (answering-made answers s r change.event own.known.0) (unblocked-placed s h answers r own.stands free told few)

-- where nothing was found, nothing is told
pub nothing-told : (s : State) (mounts : List ℕ) → told_to s mounts [] ≡ []
nothing-told s [] = refl
nothing-told s (mount ∷ mounts) = refl
