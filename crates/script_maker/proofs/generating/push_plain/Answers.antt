use Rattle.std.proofs.Common.{List, ℕ, ◌++◌, ◌∙◌, arith, ap, codes}
use Rattle.hac_model.specs.Script.Generator.{numbered}
use Rattle.hac_model.specs.Script.Printed.{ended}
use Rattle.script_maker.proofs.GeneratingLemmas.{pushed-more}
use Rattle.script_maker.proofs.generating.push_plain.Goals as goal

pub loop-number-preserved : goal.loop-number-preserved
loop-number-preserved c =
    let number = c.loop-number.number-counter in
    pushed-more (numbered (codes "mkdir /d")) 0 number number c.args.script.now.items c.loop-number.script.items c.push_line.new.script.items (omega arith) c.loop-number.invariant
    (c.in_ok-push_line.ensures ∙ ap (λ (line : List ℕ). c.loop-number.script.items ++ ended line) (c.as_bytes.ensures.value ∙ c.in_ok-format.ensures.ok))
