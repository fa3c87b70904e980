use Rattle.std.proofs.Common.{ℕ, List, ◌+◌, ◌-◌, ◌++◌, ◌∙◌, ap, codes, decimal}
use Rattle.hac_model.specs.Script.Generator.{numbered}
use Rattle.script_maker.proofs.GeneratingLemmas.{four-lists}
use Rattle.script_maker.proofs.generating.semantic_line.Goals as goal

pub returns : goal.returns
returns c =
    let number = c.args.number in
    c.in_ok-format.ensures.ok
    ∙ ap (λ (rest : List ℕ). codes "smkdir /s" ++ rest)
    (four-lists (decimal number) (numbered (codes " {/s") (number - 1)) (numbered (codes "} AND NOT w") (number + 10)) (numbered (codes " OR w") number))
