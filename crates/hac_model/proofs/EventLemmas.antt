-- The events of a command that isn't refused can happen, and steps leave fewer files dirty.
use Rattle.std.proofs.Common.{◌≡◌, ℕ, zero, suc, ◌+◌, ◌<◌, ◌≤◌, Bool, true, false, cond, List, [], ◌∷◌, length, subst, refl, ap, sym, ◌∙◌, arith, zero-add}
use Rattle.std.specs.Prelude.{if◌then◌else◌, ◌==◌, ◌&&◌, ◌||◌, filter, map, min, not, nat_le, nat_lt, replicate, Option, Some, None, Ok, IfSome, IsTrue, is_some, is_none}
use Rattle.std.specs.List.{list_all}
use Rattle.std.specs.Option.{option_map, option_map_or}
use Rattle.std.proofs.lemmas.Bool.{and_from, and_parts, not-true, not_from_false, or_left, or_right}
use Rattle.std.proofs.lemmas.Bool.Decides.{nat_tests}
use Rattle.hac_model.specs.Run.Answers.{first_cause}
use Rattle.hac_model.specs.Tree.Events.{accepted, apply, apply_all, asking, changed_at, dirty, edited, indexed, is_empty_at, is_free, is_clear, is_inside, is_placed, is_possible, is_unreferenced, may_ask, next_dirty, is_made_holder, is_vacant}
use Rattle.hac_model.specs.Tree.Depends.{cycle_of_mark, cycle_of_move, cycle_over, refers_to, referrers}
use Rattle.hac_model.specs.Laws.{AllHappen}
use Rattle.hac_model.specs.Tree.Limits.{are_answers_few, dirty_count, is_text, passed_limit}
use Rattle.hac_model.specs.Script.Lines.{is_spelled_line}
use Rattle.hac_model.specs.Script.PathWords.{is_target}
use Rattle.hac_model.specs.Script.SpaceNames.{is_space_name}
use Rattle.hac_model.specs.Tree.Links.{can_be_added, has, is_item, is_permanent, is_prohibited, is_semantic, parent_of, transient_at}
use Rattle.hac_model.specs.Run.Asks.{asks, documents_named, mount_asks, query_asks, space_of, told_for}
use Rattle.hac_model.specs.Spaces.Answering.{AreAnswersTo, AreRisingNames}
use Rattle.hac_model.specs.Tree.Asking.{are_all_told, with_told}
use Rattle.hac_model.specs.Tree.Mounting.{answers_to, are_documents, are_documents_few, are_told, do_names_rise, mounted, synced}
use Rattle.hac_model.specs.Tree.Mounts.{terms_to_ask}
use Rattle.hac_model.specs.Tree.Names.{is_name}
use Rattle.hac_model.specs.declared.limits.TheConstants.{DOCS_LIMIT}
use Rattle.hac_model.specs.declared.spaces.Answers.{Answers}
use Rattle.hac_model.specs.declared.spaces.Search.{Search}
use Rattle.hac_model.specs.declared.terms.Term.{Term}
use Rattle.hac_model.specs.Run.Refusals.{already_cause, answer_cause, docs_cause, gone_cause, kept_cause, late_cause, not_mount_cause, blocking_cause, busy_cause, cause, cycle_by, cycle_cause, directory_cause, early_cause, event_of, events_of, filled_cause, layout_cause, least_path, led_to, plain_cause, referenced_cause, root_cause, taken_cause, under_cause, unlinked_cause, unmarked_cause}
use Rattle.hac_model.specs.Run.Resolving.{resolve}
use Rattle.hac_model.specs.Run.Standing.{AllStand, is_there, IsSlot, is_own}
use Rattle.hac_model.specs.Tree.Sessions.{are_few, is_busy, least_name, sessions_with, visitors}
use Rattle.hac_model.specs.Tree.{entry_at, is_directory_at, is_dirty, is_file_at, is_leaf_at, is_live, is_made_directory, is_symlink_at, path_of, is_document_at, is_holder_at, is_mount_at}
use Rattle.hac_model.specs.Tree.Valid.{IsLayout, IsValid, NumbersRise}
use Rattle.hac_model.specs.declared.commands.Line.{Line}
use Rattle.hac_model.specs.declared.events.Event.{Event}
use Rattle.hac_model.specs.declared.events.Event.TheVariants.{Step}
use Rattle.hac_model.specs.declared.limits.LimitWord.{LimitWord}
use Rattle.hac_model.specs.declared.marks.Kind.TheVariants.{Permanent}
use Rattle.hac_model.specs.declared.limits.LimitWord.TheVariants.{Docs, Sessions, Answers as Answers-word}
use Rattle.hac_model.specs.declared.places.Place.TheVariants.{There, Free}
use Rattle.hac_model.specs.declared.replies.Refusal.{Refusal}
use Rattle.hac_model.specs.declared.replies.Refusal.TheVariants as refusal
use Rattle.hac_model.specs.declared.resolved.Resolved.{Resolved}
use Rattle.hac_model.specs.declared.resolved.Resolved.TheVariants.{Mkdir, Rmdir, Write, Cd, Mv, Rm, Ln, Smkdir, Setq, Unq, Sln, Srm, Sforget, Smount, Ssync, Sumount, Index, Tick}
use Rattle.hac_model.specs.declared.states.Body.{Body}
use Rattle.hac_model.specs.declared.states.Body.TheVariants.{File, Semantic}
use Rattle.hac_model.specs.declared.states.Entry.{Entry}
use Rattle.hac_model.specs.declared.states.Session.{Session}
use Rattle.hac_model.specs.declared.states.State.{State}
use Rattle.hac_model.proofs.AcyclicLemmas.{apply-valid}
use Rattle.hac_model.proofs.CountLemmas.{dirty_count-is, measured-changed, measured-cons, one_if}
use Rattle.hac_model.proofs.FewLemmas.{asking-keeps, few-added, few-edited}
use Rattle.hac_model.proofs.FoundLemmas.{mounted-told, names-rise, query-told, synced-told}
use Rattle.std.proofs.lemmas.List.{length-map}
use Rattle.hac_model.proofs.LookLemmas.{leaf-file, leaf-or_directory, item-or_directory}
use Rattle.hac_model.proofs.StandLemmas.{line-stands}
use Rattle.hac_model.proofs.PassedLemmas.{step-passes}
use Rattle.hac_model.proofs.TreeLemmas.{is-live, entry_at-above, entry_at-behind, entry_at-first}
use Rattle.hac_model.specs.Query.Formula.{Formula}
use Rattle.hac_model.proofs.VersionLemmas.{few-any}
use Rattle.hac_model.proofs.BoolLemmas.{and-true}

-- The events of a command that isn't refused can happen.

-- no cause of a list means that the first one isn't there, nor any behind it
pub no_cause : (first : Option Refusal) (causes : List (Option Refusal)) → first_cause (first ∷ causes) ≡ None → (first ≡ None) × (first_cause causes ≡ None)
no_cause None causes h = (refl, h)
no_cause (Some refusal) causes h = absurd cc

no_refusal : (b : Bool) (e : Refusal) → cond b (Some e) None ≡ None → b ≡ false
no_refusal true e h = absurd cc
no_refusal false e h = refl

no_other : (b : Bool) (e : Refusal) → cond b None (Some e) ≡ None → b ≡ true
no_other true e h = refl
no_other false e h = absurd cc

pub no_limit : (o : Option LimitWord) → option_map refusal.Limit o ≡ None → o ≡ None
no_limit None h = refl
no_limit (Some word) h = absurd cc

-- nothing blocks the event, no directory would depend on itself, and the next state exceeds no limit
pub cause-parts : (answers : Answers) (s : State) (r : Resolved) → cause answers s r ≡ None → (blocking_cause s r ≡ None) × (cycle_cause s r ≡ None) × (passed_limit (led_to answers s r) ≡ None) × (docs_cause s answers ≡ None) × (are_answers_few (led_to answers s r).entries ≡ true)
cause-parts answers s r h =
    let both = no_cause (early_cause s r) (late_cause answers s r ∷ []) h in
    let early = no_cause (blocking_cause s r) (layout_cause s r ∷ cycle_cause s r ∷ []) both.0 in
    let layout = no_cause (layout_cause s r) (cycle_cause s r ∷ []) early.1 in
    let cycle = no_cause (cycle_cause s r) [] layout.1 in
    let late = no_cause (late_cause answers s r) [] both.1 in
    let gone = no_cause (gone_cause answers s r) (docs_cause s answers ∷ answer_cause answers s r ∷ kept_cause answers s r ∷ []) late.0 in
    let docs = no_cause (docs_cause s answers) (answer_cause answers s r ∷ kept_cause answers s r ∷ []) gone.1 in
    let limits = no_cause (answer_cause answers s r) (kept_cause answers s r ∷ []) docs.1 in
    let kept = no_cause (kept_cause answers s r) [] limits.1 in
    (early.0, cycle.0, no_limit (passed_limit (led_to answers s r)) limits.0, docs.0, no_other (are_answers_few (led_to answers s r).entries) (refusal.Limit Answers-word) kept.0)

lives-some : (s : State) (n : ℕ) → is_live s.entries n ≡ true → (n == 0) ≡ false → is_some (entry_at s.entries n) ≡ true
lives-some s n lives other = ap (λ (b : Bool). b || is_some (entry_at s.entries n)) (sym other) ∙ lives

-- a file is dirty just where one is counted
pub due : (es : List Entry) → is_some (next_dirty es) ≡ nat_lt 0 (dirty_count es)
due [] = refl
due (e ∷ es) = due-cons (is_dirty e.body) e.number (dirty_count es) (next_dirty es) (due es) ∙ ap (λ (k : ℕ). nat_lt 0 k) (sym (measured-cons (one_if is_dirty) e es))
  where
    due-cons : (b : Bool) (n k : ℕ) (rest : Option ℕ) → is_some rest ≡ nat_lt 0 k → is_some (cond b (Some n) rest) ≡ nat_lt 0 (cond {A = ℕ} b 1 0 + k)
    due-cons true n k rest h = grind (arith, nat_tests)
    due-cons false n k rest h = h ∙ ap (λ (k : ℕ). nat_lt 0 k) (sym (zero-add k))

next_dirty-entry : (above : ℕ) (es : List Entry) (next n : ℕ) → NumbersRise above es next → next_dirty es ≡ Some n → (e : Entry) × (entry_at es n ≡ Some e) × (is_dirty e.body ≡ true)
next_dirty-entry above [] next n h found = absurd cc
next_dirty-entry above (x ∷ es) next n h found =
    elim (is_dirty x.body) as (λ b. is_dirty x.body ≡ b → cond b (Some x.number) (next_dirty es) ≡ Some n → (e : Entry) × (entry_at (x ∷ es) n ≡ Some e) × (is_dirty e.body ≡ true)) [
      | true ↦ (λ dirty found. let same : x.number ≡ n = cc in (x, subst (λ (k : ℕ). entry_at (x ∷ es) k ≡ Some x) same (entry_at-first x es), dirty))
      | false ↦ (λ clean found.
          let rest = next_dirty-entry x.number es next n h.1 found in
          let more : x.number < n = entry_at-above x.number es next n rest.0 h.1 rest.1 in
          (rest.0, entry_at-behind x es n (λ same. omega arith) ∙ rest.1, rest.2))
    ] refl found

clean-indexed : (body : Body) → is_dirty (indexed body) ≡ false
clean-indexed (File text dirty shown) = refl
clean-indexed other = refl

-- a step can happen just where a file is dirty
pub steps-due : (s : State) → IsLayout s → accepted s Step ≡ nat_lt 0 (dirty s)
steps-due s h = ap (λ (o : Option LimitWord). is_some (next_dirty s.entries) && is_none o) (step-passes s h) ∙ and-true (is_some (next_dirty s.entries)) ∙ due s.entries

-- and leaves one file less dirty
pub steps-clean : (s : State) → IsLayout s → IsTrue (accepted s Step) → dirty s ≡ dirty (apply s Step) + 1
steps-clean s h ok =
    elim (next_dirty s.entries) as (λ o. next_dirty s.entries ≡ o → is_some o ≡ true → dirty s ≡ dirty (option_map_or (λ file. changed_at s file (edited indexed)) o s) + 1) [
      | None ↦ (λ found ok. absurd cc)
      | Some n ↦ (λ found ok.
          let there = next_dirty-entry 0 s.entries s.next n h.numbers found in
          let less = measured-changed (one_if is_dirty) n (edited indexed) 0 s.entries s.next there.0 h.numbers there.1 in
          let old : one_if is_dirty there.0.body ≡ 1 = ap (λ (b : Bool). cond {A = ℕ} b 1 0) there.2 in
          let new : one_if is_dirty (indexed there.0.body) ≡ 0 = ap (λ (b : Bool). cond {A = ℕ} b 1 0) (clean-indexed there.0.body) in
          omega (arith, less, old, new, dirty_count-is s.entries, dirty_count-is (changed_at s n (edited indexed)).entries))
    ] refl (and_parts (is_some (next_dirty s.entries)) (is_none (passed_limit (apply s Step))) ok).0

-- a step can happen where a file is dirty
pub step-due : (s : State) (n : ℕ) → IsLayout s → dirty s ≡ suc n → IsTrue (accepted s Step)
step-due s n h more = steps-due s h ∙ ap (λ (k : ℕ). nat_lt 0 k) more ∙ grind (arith, nat_tests)

-- as many steps can happen as there are dirty files
pub steps-happen : (n : ℕ) (s : State) → IsValid s → n ≤ dirty s → AllHappen s (replicate n Step)
steps-happen zero s h less = tt
steps-happen (suc n) s h less =
    let some : nat_lt 0 (dirty s) ≡ true = grind (arith, nat_tests, less) in
    let due : IsTrue (accepted s Step) = steps-due s h.layout ∙ some in
    let fewer : n ≤ dirty (apply s Step) = omega (arith, steps-clean s h.layout due, less) in
    (due, steps-happen n (apply s Step) (apply-valid s Step h due) fewer)

-- and leave none dirty
pub steps-clean-all : (n : ℕ) (s : State) → IsValid s → dirty s ≡ n → dirty (apply_all s (replicate n Step)) ≡ 0
steps-clean-all zero s h none = none
steps-clean-all (suc n) s h more =
    let due = step-due s n h.layout more in
    let fewer : dirty (apply s Step) ≡ n = omega (arith, steps-clean s h.layout due, more) in
    steps-clean-all n (apply s Step) (apply-valid s Step h due) fewer

-- events that can happen keep a state valid
pub all-valid : (events : List Event) (s : State) → IsValid s → AllHappen s events → IsValid (apply_all s events)
all-valid [] s h happen = h
all-valid (e ∷ events) s h happen = all-valid events (apply s e) (apply-valid s e h happen.0) happen.1

free-root : (s : State) (n : ℕ) (more : List (Option Refusal)) → first_cause (root_cause n ∷ more) ≡ None → ((n == 0) ≡ false) × (first_cause more ≡ None)
free-root s n more free = let parts = no_cause (root_cause n) more free in (no_refusal (n == 0) refusal.Root parts.0, parts.1)

-- where no entry is found that refers to a directory, none does
unreferenced : (s : State) (dir : ℕ) → referenced_cause s dir ≡ None → is_unreferenced s dir ≡ true
unreferenced s dir none = all s.entries (no-paths (referrers s dir) (no-referenced (least_path (map (λ e. path_of s e.number) (referrers s dir))) none))
  where
    no-referenced : (o : Option (List (List ℕ))) → option_map refusal.Referenced o ≡ None → o ≡ None
    no-referenced None h = refl
    no-referenced (Some path) h = absurd cc

    no-paths : (es : List Entry) → least_path (map (λ e. path_of s e.number) es) ≡ None → es ≡ []
    no-paths [] h = refl
    no-paths (e ∷ es) h = absurd cc

    all : (es : List Entry) → filter (refers_to dir) es ≡ [] → list_all (λ e. not (refers_to dir e)) es ≡ true
    all [] h = refl
    all (e ∷ es) h = elim (refers_to dir e) as (λ b. cond b (e ∷ filter (refers_to dir) es) (filter (refers_to dir) es) ≡ [] → (not b && list_all (λ e. not (refers_to dir e)) es) ≡ true) [
      | true ↦ (λ h. absurd cc)
      | false ↦ (λ h. all es h)
    ] h

-- where no session is found that stands in a directory, none does
idle : (s : State) (dir : ℕ) → busy_cause s dir ≡ None → not (is_busy s.sessions dir) ≡ true
idle s dir none = all s.sessions (no-busy (visitors s.sessions dir) none)
  where
    no-busy : (names : List (List ℕ)) → option_map refusal.Busy (least_name names) ≡ None → names ≡ []
    no-busy [] h = refl
    no-busy (name ∷ names) h = absurd cc

    all : (ss : List Session) → visitors ss dir ≡ [] → not (is_busy ss dir) ≡ true
    all [] h = refl
    all (session ∷ ss) h =
        elim (session.dir == dir) as (λ b. map (λ session. session.name) (cond b (session ∷ filter (λ session. session.dir == dir) ss) (filter (λ session. session.dir == dir) ss)) ≡ [] → not (b || is_busy ss dir) ≡ true) [
          | true ↦ (λ h. absurd cc)
          | false ↦ (λ h. all ss h)
        ] h

no-cycle : (s : State) (way : Option ℕ) → cycle_by s way ≡ None → way ≡ None
no-cycle s None h = refl
no-cycle s (Some dir) h = absurd cc

made : (s : State) (dir : ℕ) → is_directory_at s.entries dir ≡ true → (dir == 0) ≡ false → is_made_directory s.entries dir ≡ true
made s dir there other = ap (λ (b : Bool). b || is_made_directory s.entries dir) (sym other) ∙ there

-- a command that nothing blocks makes an event whose parts are in the tree
module _ (s : State) (h : IsLayout s) where
  -- what is found outside mounts and isn't a directory is a leaf, and a file where it was followed
  pub leaf-there : (follow : Bool) (n : ℕ) → is_own s follow n ≡ true → directory_cause s n ≡ None → is_leaf_at s.entries n ≡ true
  leaf-there follow n own free =
      let parts = and_parts (is_there s follow n) (not (is_document_at s.entries n)) own in
      let lives = (and_parts (is_live s.entries n) (not (follow && is_symlink_at s.entries n)) parts.0).0 in
      leaf-or_directory s n (is-live s.entries n lives) (no_refusal (is_directory_at s.entries n) (refusal.NotFile (path_of s n)) free) (not-true (is_document_at s.entries n) parts.1)

  pub file-there : (n : ℕ) → is_own s true n ≡ true → directory_cause s n ≡ None → is_file_at s.entries n ≡ true
  file-there n own free =
      let there = (and_parts (is_there s true n) (not (is_document_at s.entries n)) own).0 in
      leaf-file s n (leaf-there true n own free) (not-true (is_symlink_at s.entries n) (and_parts (is_live s.entries n) (not (is_symlink_at s.entries n)) there).1)

  -- what is found and isn't a directory is an item where it was followed
  pub item-there : (n : ℕ) → is_there s true n ≡ true → directory_cause s n ≡ None → is_item s n ≡ true
  item-there n there free =
      let parts = and_parts (is_live s.entries n) (not (is_symlink_at s.entries n)) there in
      item-or_directory s n (is-live s.entries n parts.0) (no_refusal (is_directory_at s.entries n) (refusal.NotFile (path_of s n)) free) (not-true (is_symlink_at s.entries n) parts.1)

  -- what is in a slot is no document
  slot-own : (n : ℕ) → IsSlot s true (There n) → is_own s true n ≡ true
  slot-own n slot = and_from (is_there s true n) (not (is_document_at s.entries n)) slot.0 (ap not (unmounted (is_document_at s.entries n) slot.1))
    where
      unmounted : (b : Bool) → (if b then Some (parent_of s n) else None) ≡ None → b ≡ false
      unmounted true none = absurd cc
      unmounted false none = refl

  -- a vacant slot is free
  pub slot-free : (follow : Bool) (dir : ℕ) (name : List ℕ) → IsSlot s follow (Free dir name) → is_free s dir name ≡ true
  slot-free follow dir name slot = and_from (is_vacant s dir name) (not (is_mount_at s.entries dir)) slot.0 (ap not (unmounted (is_mount_at s.entries dir) slot.1))
    where
      unmounted : (b : Bool) → (if b then Some dir else None) ≡ None → b ≡ false
      unmounted true none = absurd cc
      unmounted false none = refl

  -- a holder that isn't the root was made
  pub made-holder : (dir : ℕ) → is_holder_at s.entries dir ≡ true → (dir == 0) ≡ false → is_made_holder s dir ≡ true
  made-holder dir there other =
      let parts = and_parts (is_directory_at s.entries dir) (not (is_mount_at s.entries dir)) there in
      and_from (is_made_directory s.entries dir) (not (is_mount_at s.entries dir)) (made s dir parts.0 other) parts.1

  -- what is found may be added to a directory where it was followed
  added-there : (n : ℕ) → is_there s true n ≡ true → can_be_added s n ≡ true
  added-there n there = at (is_directory_at s.entries n) refl
    where
      at : (b : Bool) → is_directory_at s.entries n ≡ b → can_be_added s n ≡ true
      at true is = or_right (is_item s n) (is_directory_at s.entries n) is
      at false is = or_left (is_item s n) (is_directory_at s.entries n) (item-there n there (ap (λ (b : Bool). if b then Some (refusal.NotFile (path_of s n)) else None) is))

  -- a semantic directory, of which a mark speaks
  semantic-there : (dir : ℕ) (more : List (Option Refusal)) → first_cause (plain_cause s dir ∷ more) ≡ None → (is_semantic s dir ≡ true) × (first_cause more ≡ None)
  semantic-there dir more free =
      let plain = no_cause (plain_cause s dir) more free in
      (no_other (is_semantic s dir) (refusal.NotSemantic (path_of s dir)) plain.0, plain.1)

  -- what spaces answer to questions for a query may be told
  may-be-asked : (query : Formula ℕ) (found : List (List (List ℕ))) → may_ask s query ≡ true → length found ≡ length (query_asks s query).searches → (may_ask s query && are_all_told s query (told_for s query found) s.entries) ≡ true
  may-be-asked query found may even = and_from (may_ask s query) (are_all_told s query (told_for s query found) s.entries) may (query-told s query h.numbers found even)

  -- no more documents than a mount may have
  pub are-few : (answers : Answers) → docs_cause s answers ≡ None → are_documents_few s.version answers.list ≡ true
  are-few answers few = no_other (are_documents_few s.version answers.list) (refusal.Limit Docs) few

  -- so they may be those of a space
  pub are-documents : (answers : Answers) → AreRisingNames answers.list → docs_cause s answers ≡ None → are_documents answers.list ≡ true
  are-documents answers rising few =
      let parts = and_parts (list_all is_name answers.list) (do_names_rise answers.list) (names-rise answers.list rising) in
      and_from (list_all is_name answers.list) (do_names_rise answers.list && nat_le (length answers.list) DOCS_LIMIT) parts.0
      (and_from (do_names_rise answers.list) (nat_le (length answers.list) DOCS_LIMIT) parts.1 (few-any s.version (length answers.list) (are-few answers few)))

  -- each term in use is asked for
  terms-even : (space : List ℕ) (found : List (List (List ℕ))) → length found ≡ length (mount_asks s space).searches → length found ≡ length (terms_to_ask s.entries)
  terms-even space found even = even ∙ length-map (terms_to_ask s.entries) question
    where
      question : Term → Search
      question term = record { space = space; term = term }

  pub unblocked-placed : (answers : Answers) (r : Resolved) → AllStand s r → blocking_cause s r ≡ None → AreAnswersTo (asks s r) answers → docs_cause s answers ≡ None → IfSome (event_of answers s r) (λ e. IsTrue (is_placed s e))
  unblocked-placed answers (Mkdir (There number)) there free told few = tt
  unblocked-placed answers (Mkdir (Free dir name)) there free told few = slot-free true dir name there
  unblocked-placed answers (Rmdir dir) there free told few =
      let root = free-root s dir (filled_cause s dir ∷ referenced_cause s dir ∷ busy_cause s dir ∷ []) free in
      let full = no_cause (filled_cause s dir) (referenced_cause s dir ∷ busy_cause s dir ∷ []) root.1 in
      and_from (is_made_holder s dir) (is_empty_at s.entries dir) (made-holder dir there root.0) (no_other (is_empty_at s.entries dir) (refusal.NotEmpty (path_of s dir)) full.0)
  unblocked-placed answers (Write (There number) text) there free told few = and_from (is_file_at s.entries number) (is_text text) (file-there number (slot-own number there.0) free) there.1
  unblocked-placed answers (Write (Free dir name) text) there free told few = and_from (is_free s dir name) (is_text text) (slot-free true dir name there.0) there.1
  unblocked-placed answers (Cd session dir) there free told few = and_from (is_space_name session) (is_directory_at s.entries dir) there.0 there.1
  unblocked-placed answers (Mv entry (There number)) there free told few = tt
  unblocked-placed answers (Mv entry (Free dir name)) there free told few =
      let root = free-root s entry (taken_cause s (Free dir name) ∷ under_cause s entry (Free dir name) ∷ []) free in
      let under = no_cause (under_cause s entry (Free dir name)) [] root.1 in
      let outside : is_inside s dir entry ≡ false = no_refusal (is_inside s dir entry) (refusal.Under (path_of s entry)) under.0 in
      let own = and_parts (is_there s false entry) (not (is_document_at s.entries entry)) there.0 in
      let lives = and_from (is_some (entry_at s.entries entry)) (not (is_document_at s.entries entry)) (lives-some s entry (and_parts (is_live s.entries entry) true own.0).0 root.0) own.1 in
      let fits = and_from (is_some (entry_at s.entries entry) && not (is_document_at s.entries entry)) (is_free s dir name) lives (slot-free false dir name there.1) in
      and_from (is_some (entry_at s.entries entry) && not (is_document_at s.entries entry) && is_free s dir name) (not (is_inside s dir entry)) fits (not_from_false (is_inside s dir entry) outside)
  unblocked-placed answers (Rm entry) there free told few =
      let root = free-root s entry (directory_cause s entry ∷ []) free in
      leaf-there false entry there (no_cause (directory_cause s entry) [] root.1).0
  unblocked-placed answers (Ln (There number) target) there free told few = tt
  unblocked-placed answers (Ln (Free dir name) target) there free told few = and_from (is_free s dir name) (is_target target) (slot-free false dir name there.0) there.1
  unblocked-placed answers (Smkdir (There number) query) there free told few = tt
  unblocked-placed answers (Smkdir (Free dir name) query) there free told few =
      and_from (is_free s dir name) (may_ask s query && are_all_told s query (told_for s query answers.found) s.entries) (slot-free true dir name there.0) (may-be-asked query answers.found there.1 told.found)
  unblocked-placed answers (Setq dir query) there free told few =
      and_from (is_made_holder s dir) (may_ask s query && are_all_told s query (told_for s query answers.found) s.entries) (made-holder dir there.0 (no_refusal (dir == 0) refusal.Root free)) (may-be-asked query answers.found there.1 told.found)
  unblocked-placed answers (Unq dir) there free told few = no_other (is_semantic s dir) (refusal.NotSemantic (path_of s dir)) free
  unblocked-placed answers (Sln item dir) there free told few =
      and_from (can_be_added s item) (is_semantic s dir) (added-there item there.0) (semantic-there dir (already_cause s item dir ∷ []) free).0
  unblocked-placed answers (Srm item dir) there free told few =
      let file = no_cause (directory_cause s item) (plain_cause s dir ∷ unlinked_cause s item dir ∷ []) free in
      and_from (is_item s item) (is_semantic s dir) (item-there item there.0 file.0) (semantic-there dir (unlinked_cause s item dir ∷ []) file.1).0
  unblocked-placed answers (Sforget item dir) there free told few =
      and_from (can_be_added s item) (is_semantic s dir) (added-there item there.0) (semantic-there dir (unmarked_cause s item dir ∷ []) free).0
  unblocked-placed answers (Smount (There number) space) there free told few = tt
  unblocked-placed answers (Smount (Free dir name) space) there free told few =
      let told-numbers : List (List ℕ) = map (documents_named (mounted s dir name space [] answers.list) s.next) answers.found in
      let free-name = and_from (is_free s dir name) (is_space_name space) (slot-free true dir name there.0) there.1 in
      let documents = and_from (is_free s dir name && is_space_name space) (are_documents answers.list) free-name (are-documents answers told.rising few) in
      and_from (is_free s dir name && is_space_name space && are_documents answers.list && are_told (mounted s dir name space (answers_to (terms_to_ask s.entries) told-numbers) answers.list) s.next (terms_to_ask s.entries) told-numbers)
      (are_documents_few s.version answers.list)
      (and_from (is_free s dir name && is_space_name space && are_documents answers.list)
      (are_told (mounted s dir name space (answers_to (terms_to_ask s.entries) told-numbers) answers.list) s.next (terms_to_ask s.entries) told-numbers) documents
      (mounted-told s h.numbers (terms_to_ask s.entries) answers.found (terms-even space answers.found told.found) dir name space (answers_to (terms_to_ask s.entries) told-numbers) answers.list))
      (are-few answers few)
  unblocked-placed answers (Ssync mount) there free told few =
      let told-numbers : List (List ℕ) = map (documents_named (synced s mount [] answers.list) mount) answers.found in
      let is = no_other (is_mount_at s.entries mount) (refusal.NotMount (path_of s mount)) free in
      let documents = and_from (is_mount_at s.entries mount) (are_documents answers.list) is (are-documents answers told.rising few) in
      and_from (is_mount_at s.entries mount && are_documents answers.list && are_told (synced s mount (answers_to (terms_to_ask s.entries) told-numbers) answers.list) mount (terms_to_ask s.entries) told-numbers)
      (are_documents_few s.version answers.list)
      (and_from (is_mount_at s.entries mount && are_documents answers.list)
      (are_told (synced s mount (answers_to (terms_to_ask s.entries) told-numbers) answers.list) mount (terms_to_ask s.entries) told-numbers) documents
      (synced-told s h.numbers (terms_to_ask s.entries) answers.found (terms-even (space_of s mount) answers.found told.found) mount (answers_to (terms_to_ask s.entries) told-numbers) answers.list))
      (are-few answers few)
  unblocked-placed answers (Sumount mount) there free told few =
      no_other (is_mount_at s.entries mount) (refusal.NotMount (path_of s mount)) (no_cause (not_mount_cause s mount) (referenced_cause s mount ∷ busy_cause s mount ∷ []) free).0
  unblocked-placed answers other there free told few = tt

  -- and against which nothing stands
  unblocked-clear : (answers : Answers) (r : Resolved) → AllStand s r → blocking_cause s r ≡ None → cycle_cause s r ≡ None → are_answers_few (led_to answers s r).entries ≡ true → IfSome (event_of answers s r) (λ e. IsTrue (is_clear s e))
  unblocked-clear answers (Mkdir (There number)) there free acyclic few = tt
  unblocked-clear answers (Mkdir (Free dir name)) there free acyclic few = refl
  unblocked-clear answers (Rmdir dir) there free acyclic few =
      let root = free-root s dir (filled_cause s dir ∷ referenced_cause s dir ∷ busy_cause s dir ∷ []) free in
      let full = no_cause (filled_cause s dir) (referenced_cause s dir ∷ busy_cause s dir ∷ []) root.1 in
      let named = no_cause (referenced_cause s dir) (busy_cause s dir ∷ []) full.1 in
      and_from (is_unreferenced s dir) (not (is_busy s.sessions dir)) (unreferenced s dir named.0) (idle s dir (no_cause (busy_cause s dir) [] named.1).0)
  unblocked-clear answers (Write (There number) text) there free acyclic few = refl
  unblocked-clear answers (Write (Free dir name) text) there free acyclic few = refl
  unblocked-clear answers (Cd session dir) there free acyclic few = no_other (are_few s.version (sessions_with session dir s.sessions)) (refusal.Limit Sessions) free
  unblocked-clear answers (Mv entry (There number)) there free acyclic few = tt
  unblocked-clear answers (Mv entry (Free dir name)) there free acyclic few = ap (λ (o : Option ℕ). is_none o) (no-cycle s (cycle_of_move s entry dir) acyclic)
  unblocked-clear answers (Rm entry) there free acyclic few = refl
  unblocked-clear answers (Ln (There number) target) there free acyclic few = tt
  unblocked-clear answers (Ln (Free dir name) target) there free acyclic few = refl
  unblocked-clear answers (Smkdir (There number) query) there free acyclic few = tt
  unblocked-clear answers (Smkdir (Free dir name) query) there free acyclic few =
      sym (few-added (with_told query (told_for s query answers.found) s) dir name (Semantic query [] []) refl) ∙ few
  unblocked-clear answers (Setq dir query) there free acyclic few =
      let told : List (List ℕ) = told_for s query answers.found in
      and_from (is_none (cycle_over s dir (parent_of s dir) query)) (are_answers_few (with_told query told s).entries)
      (ap (λ (o : Option ℕ). is_none o) (no-cycle s (cycle_over s dir (parent_of s dir) query) acyclic))
      (sym (few-edited (with_told query told s) dir (asking query) (asking-keeps query)) ∙ few)
  unblocked-clear answers (Unq dir) there free acyclic few = refl
  unblocked-clear answers (Sln item dir) there free acyclic few =
      let more = (semantic-there dir (already_cause s item dir ∷ []) free).1 in
      and_from (not (is_permanent s dir item)) (is_none (cycle_of_mark s dir item Permanent))
      (not_from_false (is_permanent s dir item) (no_refusal (is_permanent s dir item) (refusal.Already (path_of s item)) (no_cause (already_cause s item dir) [] more).0))
      (ap (λ (o : Option ℕ). is_none o) (no-cycle s (cycle_of_mark s dir item Permanent) acyclic))
  unblocked-clear answers (Srm item dir) there free acyclic few =
      let file = no_cause (directory_cause s item) (plain_cause s dir ∷ unlinked_cause s item dir ∷ []) free in
      let more = (semantic-there dir (unlinked_cause s item dir ∷ []) file.1).1 in
      and_from (is_permanent s dir item || has (transient_at s dir) item) true
      (no_other (is_permanent s dir item || has (transient_at s dir) item) (refusal.NotLinked (path_of s item)) (no_cause (unlinked_cause s item dir) [] more).0) refl
  unblocked-clear answers (Sforget item dir) there free acyclic few =
      let more = (semantic-there dir (unmarked_cause s item dir ∷ []) free).1 in
      and_from (is_permanent s dir item || is_prohibited s dir item) true
      (no_other (is_permanent s dir item || is_prohibited s dir item) (refusal.NoMark (path_of s item)) (no_cause (unmarked_cause s item dir) [] more).0) refl
  unblocked-clear answers (Smount (There number) space) there free acyclic few = tt
  unblocked-clear answers (Smount (Free dir name) space) there free acyclic few = few
  unblocked-clear answers (Ssync mount) there free acyclic few = few
  unblocked-clear answers (Sumount mount) there free acyclic few =
      let is = no_cause (not_mount_cause s mount) (referenced_cause s mount ∷ busy_cause s mount ∷ []) free in
      let named = no_cause (referenced_cause s mount) (busy_cause s mount ∷ []) is.1 in
      and_from (is_unreferenced s mount) (not (is_busy s.sessions mount)) (unreferenced s mount named.0) (idle s mount (no_cause (busy_cause s mount) [] named.1).0)
  unblocked-clear answers other there free acyclic few = tt

-- one event, or none, happens
made-happens : (s : State) (o : Option Event) → IfSome o (λ e. IsTrue (is_placed s e)) → IfSome o (λ e. IsTrue (is_clear s e)) → passed_limit (apply_all s (option_map_or (λ e. e ∷ []) o [])) ≡ None → AllHappen s (option_map_or (λ e. e ∷ []) o [])
made-happens s None placed clear limits = tt
made-happens s (Some e) placed clear limits =
    let possible = and_from (is_clear s e) (is_placed s e) clear placed in
    (and_from (is_possible s e) (is_none (passed_limit (apply s e))) possible (ap (λ (o : Option LimitWord). is_none o) limits), tt)

pub unblocked-happen : (answers : Answers) (s : State) (r : Resolved) → IsValid s → AllStand s r → blocking_cause s r ≡ None → cycle_cause s r ≡ None → AreAnswersTo (asks s r) answers → docs_cause s answers ≡ None → passed_limit (led_to answers s r) ≡ None → are_answers_few (led_to answers s r).entries ≡ true → AllHappen s (events_of answers s r)
unblocked-happen answers s Index h there free acyclic told few limits kept = steps-happen (dirty s) s h (omega arith)
unblocked-happen answers s (Tick steps) h there free acyclic told few limits kept = steps-happen (min steps (dirty s)) s h (omega arith)
unblocked-happen answers s r h there free acyclic told few limits kept =
    made-happens s (event_of answers s r) (unblocked-placed s h.layout answers r there free told few) (unblocked-clear s h.layout answers r there free acyclic kept) limits

pub commands-happen : (s : State) (line : Line) (r : Resolved) (answers : Answers) → IsValid s → IsTrue (is_spelled_line line) → resolve s line ≡ Ok r → AreAnswersTo (asks s r) answers → cause answers s r ≡ None → AllHappen s (events_of answers s r)
commands-happen s line r answers h spelled leads told free =
    let parts = cause-parts answers s r free in
    unblocked-happen answers s r h (line-stands s line r h spelled leads) parts.0 parts.1 told parts.3 parts.2 parts.4
