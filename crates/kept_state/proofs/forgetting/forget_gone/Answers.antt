use Rattle.std.proofs.Common.{◌≡◌, ◌+◌, ◌∷◌, ◌∙◌, ℕ, Bool, List, ap, drop, subst, sym, ◌<◌, arith, get_or, length}
use Rattle.std.specs.Prelude.{not}
use Rattle.std.proofs.lemmas.List.{get_or_default}
use Rattle.hac_model.specs.Tree.Mounting.{is_gone, is_such_at}
use Rattle.link_kinds.specs.Seen.{Known}
use Rattle.kept_state.proofs.ForgetLemmas.{IsForgetting, forgets-next, forgetting-begins, forgetting-ends, gone-told, gone-within, keeps-next}
use Rattle.hac_model.proofs.SortedLemmas.{drop-end, drop-next}
use Rattle.kept_state.proofs.forgetting.forget_gone.Goals as goal
use Rattle.kept_state.proofs.forgetting.forget_gone.Goals.{then-not-has_name, else-not-has_name}

pub documents-init : goal.documents-init
documents-init c =
    let s = c.args.tree.now.state in
    forgetting-begins s c.know_layout.ensures.layout c.args.mount (is_such_at (is_gone c.args.mount c.args.names.now) s.entries) c.children-documents.result c.args.marks.now c.children-documents.ensures.numbers (gone-within s c.args.mount c.args.names.now)

pub documents-preserved : goal.documents-preserved
documents-preserved c =
    let s = c.args.tree.now.state in
    let mount = c.args.mount in
    let names = c.args.names.now in
    let test : ℕ → Bool = is_such_at (is_gone mount names) s.entries in
    let number = c.at-document.result in
    let inside : c.documents.place < length c.children-documents.result = omega arith in
    let is : number ≡ get_or c.children-documents.result c.documents.place number = c.at-document.ensures ∙ get_or_default c.children-documents.result c.documents.place 0 number inside in
    let rest = drop (c.documents.place + 1) c.children-documents.result in
    let before : IsForgetting s mount test (number ∷ rest) c.args.marks.now c.documents.marks =
    subst (λ (ns : List ℕ). IsForgetting s mount test ns c.args.marks.now c.documents.marks) (drop-next c.children-documents.result c.documents.place number inside is) c.documents.invariant in
    let told : test number ≡ not c.has_name.result =
    gone-told s mount names c.know_layout.ensures.layout c.requires.mount number c.name_of.result.now before.there.0 c.name_of.ensures ∙ ap not (sym (c.has_name.ensures c.requires.rise)) in
    elim c.if-not-has_name.branch [
      | then-not-has_name w ↦
          subst (λ (marks : Known). IsForgetting s mount test rest c.args.marks.now marks) (sym w.marks-is)
          (forgets-next s mount test number rest c.args.marks.now c.documents.marks before (told ∙ ap not w.if-not-has_name.true) w.drop_item.new.self w.drop_item.ensures.lists w.drop_item.ensures.sets)
      | else-not-has_name w ↦
          subst (λ (marks : Known). IsForgetting s mount test rest c.args.marks.now marks) (sym w.marks-is)
          (keeps-next s mount test number rest c.args.marks.now c.documents.marks before (told ∙ ap not w.if-not-has_name.false))
    ]

pub returns-clause-lists : goal.returns-clause-lists
returns-clause-lists c =
    let s = c.args.tree.now.state in
    let mount = c.args.mount in
    let test : ℕ → Bool = is_such_at (is_gone mount c.args.names.now) s.entries in
    forgetting-ends s mount test c.args.marks.now c.documents.marks
    (subst (λ (ns : List ℕ). IsForgetting s mount test ns c.args.marks.now c.documents.marks) (drop-end c.children-documents.result c.documents.place (omega arith)) c.documents.invariant)
