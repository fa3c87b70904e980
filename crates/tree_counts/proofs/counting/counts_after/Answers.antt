use Rattle.std.proofs.Common.{◌≤◌, ℕ, List, length, ◌∙◌, [], None, ap, subst, sym, true}
use Rattle.std.specs.Prelude.{IsTrue}
use Rattle.std.proofs.lemmas.Bool.{and_parts, leb-true}
use Rattle.hac_model.specs.Tree.Events.{apply, asking, is_empty_at, is_free, is_made_holder, removed}
use Rattle.hac_model.specs.Tree.Limits.{counts}
use Rattle.hac_model.specs.declared.events.Event.{Event}
use Rattle.hac_model.specs.declared.states.Body.TheVariants as body
use Rattle.hac_model.specs.Tree.Mounting.{answers_to, are_documents}
use Rattle.hac_model.specs.Tree.Mounts.{terms_to_ask}
use Rattle.hac_model.specs.Tree.{is_mount_at}
use Rattle.hac_model.specs.declared.events.Event.TheVariants.{Setq, Smkdir, Ssync, Sumount}
use Rattle.hac_model.specs.declared.limits.TheConstants.{DOCS_LIMIT}
use Rattle.hac_model.proofs.MountLayoutLemmas.{documents-parts}
use Rattle.hac_model.proofs.ValidLemmas.{free-parts}
use Rattle.tree_counts.specs.Seated.{is_seated}
use Rattle.tree_counts.proofs.PlacedLemmas.{after-counts, asking-share, bare-short, leaf-short, forgotten-counts, mark-counts, new-file}
use Rattle.tree_counts.proofs.counting.counts_after.Goals as goal
use Rattle.hac_model.proofs.KindLemmas.{role-asking}

pub without-requires-clause-short : goal.without-requires-clause-short
without-requires-clause-short c = leaf-short c.args.tree.now.state c.in-Rm.entry c.know_layout.ensures.layout (subst (λ (e : Event). IsTrue (is_seated c.args.tree.now.state e)) c.in-Rm.is c.requires)

pub without-requires-in-Rmdir-clause-short : goal.without-requires-in-Rmdir-clause-short
without-requires-in-Rmdir-clause-short c =
    let s = c.args.tree.now.state in
    bare-short s c.in-Rmdir.dir c.know_layout.ensures.layout (and_parts (is_made_holder s c.in-Rmdir.dir) (is_empty_at s.entries c.in-Rmdir.dir) (subst (λ (e : Event). IsTrue (is_seated s e)) c.in-Rmdir.is c.requires)).1

pub returns-in-NewFile : goal.returns-in-NewFile
returns-in-NewFile c =
    c.with_entry-in-NewFile.ensures c.in-NewFile.name (body.File c.in-NewFile.text true None) (new-file c.in-NewFile.text c.len.result c.of_file.result c.len.ensures.len c.of_file.ensures.share)
    ∙ ap (λ (e : Event). counts (apply c.args.tree.now.state e)) (sym c.in-NewFile.is)

pub returns-in-Ln : goal.returns-in-Ln
returns-in-Ln c =
    c.with_entry-in-Ln.ensures c.in-Ln.name (body.Symlink c.in-Ln.target) (c.of_symlink.ensures.share c.in-Ln.target)
    ∙ ap (λ (e : Event). counts (apply c.args.tree.now.state e)) (sym c.in-Ln.is)

pub returns-in-Smkdir : goal.returns-in-Smkdir
returns-in-Smkdir c =
    c.with_entry-in-Smkdir.ensures c.in-Smkdir.name (body.Semantic c.in-Smkdir.query [] []) (c.of_semantic.ensures.share c.in-Smkdir.query [] [])
    ∙ after-counts c.args.tree.now.state (Smkdir c.in-Smkdir.dir c.in-Smkdir.name c.in-Smkdir.query c.in-Smkdir.told)
    ∙ ap (λ (e : Event). counts (apply c.args.tree.now.state e)) (sym c.in-Smkdir.is)

pub returns-in-Setq : goal.returns-in-Setq
returns-in-Setq c =
    let s = c.args.tree.now.state in
    let placed = subst (λ (e : Event). IsTrue (is_seated s e)) c.in-Setq.is c.requires in
    c.with_share.ensures (asking c.in-Setq.query) (role-asking c.in-Setq.query) (asking-share s c.in-Setq.dir c.in-Setq.query c.of_semantic-in-Setq.result placed c.of_semantic-in-Setq.ensures.share)
    ∙ after-counts s (Setq c.in-Setq.dir c.in-Setq.query c.in-Setq.told)
    ∙ ap (λ (e : Event). counts (apply s e)) (sym c.in-Setq.is)

pub returns-in-Rm : goal.returns-in-Rm
returns-in-Rm c =
    let s = c.args.tree.now.state in
    c.without.ensures ∙ sym (forgotten-counts (removed s c.in-Rm.entry) c.in-Rm.entry) ∙ ap (λ (e : Event). counts (apply s e)) (sym c.in-Rm.is)

pub returns-in-Mark : goal.returns-in-Mark
returns-in-Mark c = c.counts.ensures.counts ∙ mark-counts c.args.tree.now.state c.args.event.now _ c.in-Mark.is

pub returns-in-Rewrite : goal.returns-in-Rewrite
returns-in-Rewrite c = c.with_text.ensures c.in-Rewrite.text (sym c.len-in-Rewrite.ensures.len) ∙ ap (λ (e : Event). counts (apply c.args.tree.now.state e)) (sym c.in-Rewrite.is)

pub returns-in-Mv : goal.returns-in-Mv
returns-in-Mv c = c.with_moved.ensures c.in-Mv.name ∙ ap (λ (e : Event). counts (apply c.args.tree.now.state e)) (sym c.in-Mv.is)

pub counts_mounted-requires-clause-dir : goal.counts_mounted-requires-clause-dir
counts_mounted-requires-clause-dir c =
    let s = c.args.tree.now.state in
    let seated = and_parts (is_free s c.in-Smount.dir c.in-Smount.name) (are_documents c.in-Smount.docs) (subst (λ (e : Event). IsTrue (is_seated s e)) c.in-Smount.is c.requires) in
    (free-parts s c.in-Smount.dir c.in-Smount.name seated.0).0

pub counts_mounted-requires-clause-few : goal.counts_mounted-requires-clause-few
counts_mounted-requires-clause-few c =
    let s = c.args.tree.now.state in
    let seated = and_parts (is_free s c.in-Smount.dir c.in-Smount.name) (are_documents c.in-Smount.docs) (subst (λ (e : Event). IsTrue (is_seated s e)) c.in-Smount.is c.requires) in
    let few : length c.in-Smount.docs ≤ DOCS_LIMIT = leb-true (length c.in-Smount.docs) DOCS_LIMIT (documents-parts c.in-Smount.docs seated.1).2 in
    subst (λ (names : List (List ℕ)). length names ≤ DOCS_LIMIT) (sym c.as_slice.ensures) few

pub counts_synced-requires-clause-mount : goal.counts_synced-requires-clause-mount
counts_synced-requires-clause-mount c =
    let s = c.args.tree.now.state in
    (and_parts (is_mount_at s.entries c.in-Ssync.mount) (are_documents c.in-Ssync.docs) (subst (λ (e : Event). IsTrue (is_seated s e)) c.in-Ssync.is c.requires)).0

pub counts_synced-requires-clause-documents : goal.counts_synced-requires-clause-documents
counts_synced-requires-clause-documents c =
    let s = c.args.tree.now.state in
    (and_parts (is_mount_at s.entries c.in-Ssync.mount) (are_documents c.in-Ssync.docs) (subst (λ (e : Event). IsTrue (is_seated s e)) c.in-Ssync.is c.requires)).1

pub returns-in-Smount : goal.returns-in-Smount
returns-in-Smount c =
    let s = c.args.tree.now.state in
    c.counts_mounted.ensures c.in-Smount.name c.in-Smount.space (answers_to (terms_to_ask s.entries) c.in-Smount.told) c.in-Smount.docs (ap (λ (names : List (List ℕ)). length names) (sym c.as_slice.ensures))
    ∙ ap (λ (e : Event). counts (apply s e)) (sym c.in-Smount.is)

pub returns-in-Ssync : goal.returns-in-Ssync
returns-in-Ssync c = c.counts_synced.ensures ∙ after-counts c.args.tree.now.state (Ssync c.in-Ssync.mount c.in-Ssync.docs c.in-Ssync.told) ∙ ap (λ (e : Event). counts (apply c.args.tree.now.state e)) (sym c.in-Ssync.is)

pub returns-in-Sumount : goal.returns-in-Sumount
returns-in-Sumount c = c.counts_unmounted.ensures ∙ after-counts c.args.tree.now.state (Sumount c.in-Sumount.mount) ∙ ap (λ (e : Event). counts (apply c.args.tree.now.state e)) (sym c.in-Sumount.is)
