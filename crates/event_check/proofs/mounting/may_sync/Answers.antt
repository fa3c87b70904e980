use Rattle.std.proofs.Common.{ap, length, refl, sym, ◌∙◌, List, ℕ}
use Rattle.std.specs.Prelude.{◌&&◌}
use Rattle.std.proofs.lemmas.Bool.{and_parts}
use Rattle.hac_model.specs.Tree.{is_mount_at}
use Rattle.hac_model.specs.Tree.Mounting.{are_documents, are_documents_few, fresh}
use Rattle.hac_model.specs.declared.terms.Term.{Term}
use Rattle.hac_model.proofs.MountLayoutLemmas.{documents-parts}
use Rattle.event_check.specs.Mounting.{are_told_by, will_have}
use Rattle.event_check.specs.declared.mounting.Coming.{Coming}
use Rattle.event_check.proofs.PlacedLemmas.{sync-not, sync-told}
use Rattle.event_check.proofs.mounting.may_sync.Goals as goal

pub returns-then-not-may_change : goal.returns-then-not-may_change
returns-then-not-may_change c =
    sym (sync-not c.args.kept.now.state c.tree-tree.result.now.state c.tree-tree.ensures.tree.bares c.args.mount c.args.documents.now c.args.told.now
    (ap (λ (names : List (List ℕ)). is_mount_at c.tree-tree.result.now.state.entries c.args.mount && are_documents names && are_documents_few c.tree-tree.result.now.state.version names) (sym c.as_slice-names.ensures) ∙ sym c.may_change.ensures ∙ c.if-not-may_change.true))

pub are_told-requires : goal.are_told-requires
are_told-requires c =
    let change = sym c.may_change.ensures ∙ c.if-not-may_change.false in
    let names = c.as_slice-names.result.now in
    let front = (and_parts (is_mount_at c.tree-tree.result.now.state.entries c.args.mount && are_documents names) (are_documents_few c.tree-tree.result.now.state.version names) change).0 in
    (documents-parts names (and_parts (is_mount_at c.tree-tree.result.now.state.entries c.args.mount) (are_documents names) front).1).1

pub returns : goal.returns
returns c =
    let s = c.args.kept.now.state in
    let t = c.tree-tree.result.now.state in
    let coming : Coming = record { mount = c.args.mount; first = c.next_number.result; count = c.fresh_count.result } in
    c.are_told.ensures
    ∙ (λ i. are_told_by (will_have t (c.as_slice-names.ensures i) coming) (length c.as_slice.result.now) (c.as_slice-2.ensures i))
    ∙ sync-told s t c.tree-tree.ensures.tree.bares c.args.mount c.args.documents.now c.args.told.now c.tree-tree.ensures.valid.layout
    (ap (λ (names : List (List ℕ)). is_mount_at t.entries c.args.mount && are_documents names && are_documents_few t.version names) (sym c.as_slice-names.ensures) ∙ sym c.may_change.ensures ∙ c.if-not-may_change.false)
    coming (length c.as_slice.result.now) refl c.next_number.ensures.number
    (c.fresh_count.ensures ∙ ap (λ (names : List (List ℕ)). length (fresh t c.args.mount names)) c.as_slice-names.ensures)
    (ap (λ (terms : List Term). length terms) (c.as_slice.ensures ∙ c.in_ok-terms.ensures))
