use Rattle.std.proofs.Common.{List, ℕ, ◌++◌, ◌∙◌, arith, string_bytes, ap}
use Rattle.hac_model.specs.Script.Printed.{ended}
use Rattle.script_maker.proofs.GeneratingLemmas.{goes-on}
use Rattle.script_maker.proofs.generating.push_drawn.Goals as goal

pub lines-preserved : goal.lines-preserved
lines-preserved c =
    let line = c.in_ok-line.line in
    goes-on c.lines.left c.lines.drawn c.lines.script.items (string_bytes line.text) line.places c.push_line.new.script.items c.drawn_behind-drawn.result
    (omega (arith, c.lines-test.true)) c.in_ok-line.ensures
    (c.in_ok-push_line.ensures ∙ ap (λ (text : List ℕ). c.lines.script.items ++ ended text) c.as_bytes.ensures.value) c.drawn_behind-drawn.ensures
    ∙ c.lines.invariant
