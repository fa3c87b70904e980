use Rattle.std.proofs.Common.{ℕ, ◌++◌, ◌∙◌, ap, codes}
use Rattle.std.specs.List.{flat_map}
use Rattle.hac_model.specs.Script.Generator.{drawn_count, drawn_lines, plain_lines, semantic_lines}
use Rattle.hac_model.specs.Script.Printed.{ended}
use Rattle.script_maker.proofs.GeneratingLemmas.{script-made}
use Rattle.script_maker.proofs.generating.make_script.Goals as goal

pub returns : goal.returns
returns c =
    script-made plain_lines semantic_lines (drawn_lines drawn_count c.args.number) (codes "index") c.new-script.result.items c.push_plain.new.script.items c.push_semantic.new.script.items
    c.push_drawn.new.script.items c.push_line.new.script.items c.new-script.ensures.items c.in_ok-push_plain.ensures c.in_ok-push_semantic.ensures
    (c.in_ok-push_drawn.ensures ∙ ap (λ (count : ℕ). c.push_semantic.new.script.items ++ flat_map ended (drawn_lines count c.args.number)) c.drawn_count.ensures)
    c.in_ok-push_line.ensures
