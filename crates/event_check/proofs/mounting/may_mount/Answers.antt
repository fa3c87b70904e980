use Rattle.std.proofs.Common.{ap, length, sym, ◌∙◌, arith, List, ℕ}
use Rattle.std.specs.Prelude.{◌&&◌}
use Rattle.std.proofs.lemmas.Bool.{and_parts}
use Rattle.hac_model.specs.Script.SpaceNames.{is_space_name}
use Rattle.hac_model.specs.Tree.Events.{is_free}
use Rattle.hac_model.specs.Tree.Mounting.{are_documents, are_documents_few}
use Rattle.hac_model.specs.declared.terms.Term.{Term}
use Rattle.hac_model.proofs.MountLayoutLemmas.{documents-parts}
use Rattle.event_check.specs.Mounting.{are_told_by, will_have}
use Rattle.event_check.specs.declared.mounting.Coming.{Coming}
use Rattle.event_check.proofs.PlacedLemmas.{mount-not, mount-told, one-more}
use Rattle.event_check.proofs.mounting.may_mount.Goals as goal

pub overflow_add-get : goal.overflow_add-get
overflow_add-get c = omega (arith, one-more c.tree-tree.result.now.state c.next_number-mount.ensures.layout, c.get.ensures, c.next_number-mount.ensures.number)

pub returns-then-not-may_come : goal.returns-then-not-may_come
returns-then-not-may_come c =
    sym (mount-not c.args.kept.now.state c.tree-tree.result.now.state c.tree-tree.ensures.tree.bares c.args.dir c.args.name.now c.args.space.now c.args.documents.now c.args.told.now
    (ap (λ (names : List (List ℕ)). is_free c.tree-tree.result.now.state c.args.dir c.args.name.now && is_space_name c.args.space.now && are_documents names && are_documents_few c.tree-tree.result.now.state.version names) (sym c.as_slice-names.ensures) ∙ sym c.may_come.ensures ∙ c.if-not-may_come.true))

pub are_told-requires : goal.are_told-requires
are_told-requires c =
    let come = sym c.may_come.ensures ∙ c.if-not-may_come.false in
    let names = c.as_slice-names.result.now in
    let front = (and_parts (is_free c.tree-tree.result.now.state c.args.dir c.args.name.now && is_space_name c.args.space.now && are_documents names) (are_documents_few c.tree-tree.result.now.state.version names) come).0 in
    (documents-parts names (and_parts (is_free c.tree-tree.result.now.state c.args.dir c.args.name.now && is_space_name c.args.space.now) (are_documents names) front).1).1

pub returns : goal.returns
returns c =
    let s = c.args.kept.now.state in
    let t = c.tree-tree.result.now.state in
    let coming : Coming = record { mount = c.next_number-mount.result; first = c.new.result; count = length c.as_slice-names.result.now } in
    c.are_told.ensures
    ∙ (λ i. are_told_by (will_have t (c.as_slice-names.ensures i) coming) (length c.as_slice.result.now) (c.as_slice-2.ensures i))
    ∙ mount-told s t c.tree-tree.ensures.tree.bares c.args.dir c.args.name.now c.args.space.now c.args.documents.now c.args.told.now c.tree-tree.ensures.valid.layout
    (ap (λ (names : List (List ℕ)). is_free t c.args.dir c.args.name.now && is_space_name c.args.space.now && are_documents names && are_documents_few t.version names) (sym c.as_slice-names.ensures) ∙ sym c.may_come.ensures ∙ c.if-not-may_come.false)
    coming (length c.as_slice.result.now) c.next_number-mount.ensures.number
    (omega (arith, c.new.ensures, c.get.ensures, c.next_number-mount.ensures.number))
    (ap (λ (names : List (List ℕ)). length names) c.as_slice-names.ensures)
    (ap (λ (terms : List Term). length terms) (c.as_slice.ensures ∙ c.in_ok-terms.ensures))
