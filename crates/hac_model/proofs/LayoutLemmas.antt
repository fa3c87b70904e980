-- Events keep a tree one.
use Rattle.std.proofs.Common.{◌≡◌, ℕ, true, false, List, [], refl, ◌∙◌}
use Rattle.std.specs.Prelude.{◌&&◌, not, Some, None, IsTrue, is_none, is_some}
use Rattle.std.specs.Option.{option_map_or}
use Rattle.std.proofs.lemmas.Bool.{and_parts, not-true}
use Rattle.hac_model.specs.Tree.Events.{accepted, added, apply, asking, changed_at, edited, forgetting, forgotten, indexed, is_free, is_possible, is_unreferenced, marked, next_dirty, plain_body, removed, reseated, rewritten}
use Rattle.hac_model.specs.Tree.Limits.{are_answers_few, is_text, passed_limit}
use Rattle.hac_model.specs.Tree.Links.{is_semantic}
use Rattle.hac_model.specs.Script.PathWords.{is_target}
use Rattle.hac_model.specs.Tree.Sessions.{is_busy}
use Rattle.hac_model.specs.Tree.{is_file_at, is_leaf_at, is_mount_at}
use Rattle.hac_model.specs.Tree.Valid.{IsLayout, IsSoundFile}
use Rattle.hac_model.specs.declared.events.Event.{Event}
use Rattle.hac_model.specs.declared.events.Event.TheVariants.{Mkdir, NewFile, Rewrite, Ln, Mark, Mv, Rm, Rmdir, Setq, Smkdir, Step, Unq, Cd}
use Rattle.hac_model.specs.declared.states.Body.TheVariants.{File, Dir, Symlink, Semantic}
use Rattle.hac_model.specs.declared.states.State.{State}
use Rattle.hac_model.proofs.GainLemmas.{free-told, layout-told}
use Rattle.hac_model.proofs.MapLemmas.{mapped-layout}
use Rattle.hac_model.specs.Tree.Asking.{with_told}
use Rattle.hac_model.specs.Tree.Events.{may_mount, may_sync}
use Rattle.hac_model.specs.Tree.Mounting.{answers_to, are_documents, are_documents_few, are_told, mounted, synced}
use Rattle.hac_model.specs.Tree.Mounts.{terms_to_ask}
use Rattle.hac_model.specs.Script.SpaceNames.{is_space_name}
use Rattle.hac_model.specs.declared.events.Event.TheVariants.{Smount, Ssync, Sumount}
use Rattle.hac_model.proofs.MountLayoutLemmas.{mounted-layout, synced-layout, unmounted-layout}
use Rattle.hac_model.proofs.ValidLemmas.{accepted-parts, added-layout, asking-sound, bare-all, edited-layout, forgetting-measures, forgetting-sound, indexed-sound, leaf-bare, marked-sound, move-parts, none_from, passed-forgotten, plain-sound, removed-layout, reseated-layout, rewritten-sound, rmdir-parts, smkdir-parts}
use Rattle.hac_model.proofs.KindLemmas.{role-asking, role-indexed, role-marked, role-plain, role-rewritten}

-- what may be mounted
pub smount-parts : (s : State) (dir : ℕ) (name space : List ℕ) (documents told : List (List ℕ)) → is_possible s (Smount dir name space documents told) ≡ true →
    (is_free s dir name ≡ true) × (is_space_name space ≡ true) × (are_documents documents ≡ true) × (are_told (mounted s dir name space (answers_to (terms_to_ask s.entries) told) documents) s.next (terms_to_ask s.entries) told ≡ true)
    × (are_answers_few (mounted s dir name space (answers_to (terms_to_ask s.entries) told) documents).entries ≡ true) × (are_documents_few s.version documents ≡ true)
smount-parts s dir name space documents told h =
    let few = and_parts (are_answers_few (mounted s dir name space (answers_to (terms_to_ask s.entries) told) documents).entries) (may_mount s dir name space documents told) h in
    let short = and_parts (is_free s dir name && is_space_name space && are_documents documents && are_told (mounted s dir name space (answers_to (terms_to_ask s.entries) told) documents) s.next (terms_to_ask s.entries) told) (are_documents_few s.version documents) few.1 in
    let well = and_parts (is_free s dir name && is_space_name space && are_documents documents) (are_told (mounted s dir name space (answers_to (terms_to_ask s.entries) told) documents) s.next (terms_to_ask s.entries) told) short.0 in
    let named = and_parts (is_free s dir name && is_space_name space) (are_documents documents) well.0 in
    let free = and_parts (is_free s dir name) (is_space_name space) named.0 in
    (free.0, free.1, named.1, well.1, few.0, short.1)

-- what a mount may take over
pub ssync-parts : (s : State) (mount : ℕ) (documents told : List (List ℕ)) → is_possible s (Ssync mount documents told) ≡ true →
    (is_mount_at s.entries mount ≡ true) × (are_documents documents ≡ true) × (are_told (synced s mount (answers_to (terms_to_ask s.entries) told) documents) mount (terms_to_ask s.entries) told ≡ true)
    × (are_answers_few (synced s mount (answers_to (terms_to_ask s.entries) told) documents).entries ≡ true) × (are_documents_few s.version documents ≡ true)
ssync-parts s mount documents told h =
    let few = and_parts (are_answers_few (synced s mount (answers_to (terms_to_ask s.entries) told) documents).entries) (may_sync s mount documents told) h in
    let short = and_parts (is_mount_at s.entries mount && are_documents documents && are_told (synced s mount (answers_to (terms_to_ask s.entries) told) documents) mount (terms_to_ask s.entries) told) (are_documents_few s.version documents) few.1 in
    let well = and_parts (is_mount_at s.entries mount && are_documents documents) (are_told (synced s mount (answers_to (terms_to_ask s.entries) told) documents) mount (terms_to_ask s.entries) told) short.0 in
    let there = and_parts (is_mount_at s.entries mount) (are_documents documents) well.0 in
    (there.0, there.1, well.1, few.0, short.1)

-- a mount that may go
pub sumount-parts : (s : State) (mount : ℕ) → is_possible s (Sumount mount) ≡ true → (is_mount_at s.entries mount ≡ true) × (is_unreferenced s mount ≡ true) × (is_busy s.sessions mount ≡ false)
sumount-parts s mount h =
    let clear = and_parts (is_unreferenced s mount && not (is_busy s.sessions mount)) (is_mount_at s.entries mount) h in
    let named = and_parts (is_unreferenced s mount) (not (is_busy s.sessions mount)) clear.0 in
    (clear.1, named.0, not-true (is_busy s.sessions mount) named.1)

-- so the tree stays one
pub apply-layout : (s : State) (event : Event) → IsLayout s → IsTrue (accepted s event) → IsLayout (apply s event)
apply-layout s (Mkdir dir name) h ok =
    let parts = accepted-parts (is_free s dir name) (passed_limit (added s dir name Dir)) ok in
    added-layout s dir name Dir h parts.0 tt refl parts.1
apply-layout s (NewFile dir name text) h ok =
    let parts = accepted-parts (is_free s dir name && is_text text) (passed_limit (added s dir name (File text true None))) ok in
    let fits = and_parts (is_free s dir name) (is_text text) parts.0 in
    let sound : IsSoundFile text true None = record { fits = fits.1; shown_fits = refl; clean = λ clean. absurd cc } in
    added-layout s dir name (File text true None) h fits.0 sound refl parts.1
apply-layout s (Rewrite file text) h ok =
    let parts = accepted-parts (is_file_at s.entries file && is_text text) (passed_limit (changed_at s file (edited (rewritten text)))) ok in
    let fits = and_parts (is_file_at s.entries file) (is_text text) parts.0 in
    edited-layout s file (rewritten text) (role-rewritten text) (rewritten-sound text fits.1) h parts.1
apply-layout s (Ln dir name target) h ok =
    let parts = accepted-parts (is_free s dir name && is_target target) (passed_limit (added s dir name (Symlink target))) ok in
    let fits = and_parts (is_free s dir name) (is_target target) parts.0 in
    added-layout s dir name (Symlink target) h fits.0 fits.1 refl parts.1
apply-layout s (Smkdir dir name query told) h ok =
    let parts = accepted-parts (is_possible s (Smkdir dir name query told)) (passed_limit (added (with_told query told s) dir name (Semantic query [] []))) ok in
    added-layout (with_told query told s) dir name (Semantic query [] []) (layout-told s query told h) (free-told s query told dir name ∙ (smkdir-parts s dir name query told parts.0).0) tt refl parts.1
apply-layout s (Setq dir query told) h ok =
    let parts = accepted-parts (is_possible s (Setq dir query told)) (passed_limit (changed_at (with_told query told s) dir (edited (asking query)))) ok in
    edited-layout (with_told query told s) dir (asking query) (role-asking query) (asking-sound query) (layout-told s query told h) parts.1
apply-layout s (Unq dir) h ok =
    let parts = accepted-parts (is_semantic s dir) (passed_limit (changed_at s dir (edited plain_body))) ok in
    edited-layout s dir plain_body role-plain plain-sound h parts.1
apply-layout s (Mark mark) h ok =
    let parts = accepted-parts (is_possible s (Mark mark)) (passed_limit (changed_at s mark.dir (edited (marked mark.item mark.kind)))) ok in
    edited-layout s mark.dir (marked mark.item mark.kind) (role-marked mark.item mark.kind) (marked-sound mark.item mark.kind) h parts.1
apply-layout s (Mv entry dir name) h ok =
    let parts = accepted-parts (is_possible s (Mv entry dir name)) (passed_limit (changed_at s entry (reseated dir name))) ok in
    let fits = move-parts s entry dir name parts.0 in
    reseated-layout s entry dir name h fits.1 fits.4 parts.1
apply-layout s (Rm file) h ok =
    let parts = accepted-parts (is_leaf_at s.entries file) (passed_limit (forgotten (removed s file) file)) ok in
    mapped-layout (forgetting file) (removed s file) (forgetting-measures file) (forgetting-sound file) (removed-layout s file h (leaf-bare s file h parts.0) (passed-forgotten (removed s file) file parts.1))
apply-layout s (Rmdir dir) h ok =
    let parts = accepted-parts (is_possible s (Rmdir dir)) (passed_limit (removed s dir)) ok in
    removed-layout s dir h (bare-all s.entries dir (rmdir-parts s dir parts.0).1) parts.1
apply-layout s Step h ok =
    elim (next_dirty s.entries) as (λ o. (is_some o && is_none (passed_limit (option_map_or (λ file. changed_at s file (edited indexed)) o s))) ≡ true → IsLayout (option_map_or (λ file. changed_at s file (edited indexed)) o s)) [
      | None ↦ (λ ok. h)
      | Some file ↦ (λ ok. edited-layout s file indexed role-indexed indexed-sound h (none_from (passed_limit (changed_at s file (edited indexed))) ok))
    ] ok
apply-layout s (Cd session dir) h ok = record {
  numbers = h.numbers;
  names = h.names;
  places = h.places;
  differ = h.differ;
  bodies = h.bodies;
  limits = (accepted-parts (is_possible s (Cd session dir)) (passed_limit (apply s (Cd session dir))) ok).1;
}
apply-layout s (Smount dir name space documents told) h ok =
    let parts = accepted-parts (is_possible s (Smount dir name space documents told)) (passed_limit (apply s (Smount dir name space documents told))) ok in
    let fits = smount-parts s dir name space documents told parts.0 in
    mounted-layout s dir name space (answers_to (terms_to_ask s.entries) told) documents h fits.0 fits.1 fits.2 parts.1
apply-layout s (Ssync mount documents told) h ok =
    let parts = accepted-parts (is_possible s (Ssync mount documents told)) (passed_limit (apply s (Ssync mount documents told))) ok in
    let fits = ssync-parts s mount documents told parts.0 in
    synced-layout s mount (answers_to (terms_to_ask s.entries) told) documents h fits.0 fits.1 parts.1
apply-layout s (Sumount mount) h ok =
    let parts = accepted-parts (is_possible s (Sumount mount)) (passed_limit (apply s (Sumount mount))) ok in
    unmounted-layout s mount h (sumount-parts s mount parts.0).0 parts.1
