-- The name behind the session, as it is written, says whether the line is a `put`.
use Rattle.std.proofs.Common.{Bool, ap, sym, ◌∙◌}
use Rattle.std.specs.Prelude.{if◌then◌else◌, Err}
use Rattle.hac_model.specs.Script.Lines.{asked, put_words}
use Rattle.hac_model.specs.declared.replies.Refusal.TheVariants.{BadLine}
use Rattle.shell_lang.proofs.PutLemmas.{named}
use Rattle.shell_lang.proofs.putting.put_length.Goals as goal

pub returns : goal.returns
returns c =
    let session = c.in_ok-bytes.ensures in
    let name = c.in_ok-name.ensures in
    let arguments = c.in_ok-name.arguments.now in
    c.asked.ensures
    ∙ sym (named c.args.line.now c.in_ok-bytes.field-0-0.now c.in_ok-bytes.bytes.now c.in_ok-name.name.now name.0 arguments (sym session) name.1.0 name.1.1
    ∙ ap (λ (t : Bool). asked (if t then put_words arguments else Err BadLine)) (sym c.if-not-is_put.ensures))
