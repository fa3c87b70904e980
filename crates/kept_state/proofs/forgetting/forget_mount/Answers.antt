use Rattle.std.proofs.Common.{◌∙◌, ◌≡◌, ◌+◌, ◌∷◌, ℕ, Bool, List, drop, subst, ◌<◌, arith, get_or, length}
use Rattle.std.proofs.lemmas.List.{get_or_default}
use Rattle.hac_model.specs.Tree.Mounting.{is_of_mount, is_such_at}
use Rattle.kept_state.proofs.ForgetLemmas.{IsForgetting, forgets-next, forgetting-begun, forgetting-ends, of_mount-in, of_mount-own, of_mount-within}
use Rattle.hac_model.proofs.SortedLemmas.{drop-end, drop-next}
use Rattle.kept_state.proofs.forgetting.forget_mount.Goals as goal

pub documents-init : goal.documents-init
documents-init c =
    let s = c.args.tree.now.state in
    let mount = c.args.mount in
    forgetting-begun s c.know_layout.ensures.layout mount (is_such_at (is_of_mount mount) s.entries) c.children-documents.result c.args.marks.now c.drop_item.new.self c.children-documents.ensures.numbers
    (of_mount-own s mount c.requires) (of_mount-within s mount) c.drop_item.ensures.lists c.drop_item.ensures.sets

pub documents-preserved : goal.documents-preserved
documents-preserved c =
    let s = c.args.tree.now.state in
    let mount = c.args.mount in
    let test : ℕ → Bool = is_such_at (is_of_mount mount) s.entries in
    let number = c.at.result in
    let inside : c.documents.place < length c.children-documents.result = omega arith in
    let is : number ≡ get_or c.children-documents.result c.documents.place number = c.at.ensures ∙ get_or_default c.children-documents.result c.documents.place 0 number inside in
    let rest = drop (c.documents.place + 1) c.children-documents.result in
    let before : IsForgetting s mount test (number ∷ rest) c.args.marks.now c.documents.marks =
    subst (λ (ns : List ℕ). IsForgetting s mount test ns c.args.marks.now c.documents.marks) (drop-next c.children-documents.result c.documents.place number inside is) c.documents.invariant in
    forgets-next s mount test number rest c.args.marks.now c.documents.marks before (of_mount-in s mount number before.there.0) c.drop_item-in-documents.new.self c.drop_item-in-documents.ensures.lists c.drop_item-in-documents.ensures.sets

pub returns-clause-lists : goal.returns-clause-lists
returns-clause-lists c =
    let s = c.args.tree.now.state in
    let mount = c.args.mount in
    let test : ℕ → Bool = is_such_at (is_of_mount mount) s.entries in
    forgetting-ends s mount test c.args.marks.now c.documents.marks
    (subst (λ (ns : List ℕ). IsForgetting s mount test ns c.args.marks.now c.documents.marks) (drop-end c.children-documents.result c.documents.place (omega arith)) c.documents.invariant)
