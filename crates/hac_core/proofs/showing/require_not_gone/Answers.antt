use Rattle.std.proofs.Common.{ap, sym, ◌∙◌, Some}
use Rattle.std.specs.Prelude.{Option}
use Rattle.hac_model.specs.declared.paths.Path.{Path}
use Rattle.hac_model.specs.declared.replies.Refusal.{Refusal}
use Rattle.hac_model.specs.declared.replies.Refusal.TheVariants as refusal
use Rattle.kept_state.proofs.StateLemmas.{same-document}
use Rattle.hac_core.proofs.ShowLemmas.{gone-file, gone-other, gone-told}
use Rattle.hac_core.proofs.showing.require_not_gone.Goals.{in_default-via-in-Cat+else-is_document, in_default-via-in_default}
use Rattle.hac_core.proofs.showing.require_not_gone.Goals as goal

abbrev gone : Path → Option Refusal
gone path = Some (refusal.Gone path)

pub returns-in_ok-path_of-in-None : goal.returns-in_ok-path_of-in-None
returns-in_ok-path_of-in-None c =
    let s = c.args.kept.now.state in
    gone-told c.args.answers.now s c.args.command.now c.in-Cat.entry c.in-Cat.is (same-document s c.tree.result.now.state c.tree.ensures.tree.bares c.in-Cat.entry ∙ sym c.is_document.ensures ∙ c.if-is_document.true) c.in-None.is
    ∙ ap gone (sym c.in_ok-path_of-in-None.ensures)

pub returns-in_default : goal.returns-in_default
returns-in_default c =
    let s = c.args.kept.now.state in
    elim c.in_default.branch [
      | in_default-via-in-Cat+else-is_document w ↦ gone-file c.args.answers.now s c.args.command.now w.in-Cat.entry w.in-Cat.is (same-document s w.tree.result.now.state w.tree.ensures.tree.bares w.in-Cat.entry ∙ sym w.is_document.ensures ∙ w.if-is_document.false)
      | in_default-via-in_default w ↦ gone-other c.args.answers.now s c.args.command.now w.in_default.not-Cat
    ]
