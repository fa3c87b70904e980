use Rattle.std.proofs.Common.{◌≡◌, List, ℕ, ◌+◌, ◌-◌, ◌++◌, ◌∙◌, append_assoc, arith, ap, codes, map}
use Rattle.std.specs.List.{flat_map, range_with_len}
use Rattle.hac_model.specs.Script.Generator.{semantic_line}
use Rattle.hac_model.specs.Script.Printed.{ended}
use Rattle.script_maker.proofs.GeneratingLemmas.{pushed-more}
use Rattle.script_maker.proofs.generating.push_semantic.Goals as goal

pub loop-number-preserved : goal.loop-number-preserved
loop-number-preserved c =
    let number = c.loop-number.number in
    let front = c.args.script.now.items ++ ended (codes "smkdir /s0 w0") in
    let next : number - 1 + 1 ≡ number + 1 - 1 = omega (arith, c.loop-number.invariant.0) in (
      omega arith,
      pushed-more semantic_line 1 (number - 1) number front c.loop-number.script.items c.push_line-in-loop-number.new.script.items (omega (arith, c.loop-number.invariant.0)) c.loop-number.invariant.1
          (c.in_ok-push_line-2.ensures ∙ ap (λ (line : List ℕ). c.loop-number.script.items ++ ended line) (c.as_bytes.ensures.value ∙ c.in_ok-semantic_line.ensures))
          ∙ ap (λ (n : ℕ). front ++ flat_map ended (map semantic_line (range_with_len 1 n))) next,
    )

pub returns : goal.returns
returns c =
    let front = c.args.script.now.items ++ ended (codes "smkdir /s0 w0") in
    let last : c.loop-number.number - 1 ≡ 9 = omega (arith, c.loop-number-test.false, c.loop-number.auto.number-end) in
    c.loop-number.invariant.1 ∙ ap (λ (n : ℕ). front ++ flat_map ended (map semantic_line (range_with_len 1 n))) last
    ∙ append_assoc c.args.script.now.items (ended (codes "smkdir /s0 w0")) (flat_map ended (map semantic_line (range_with_len 1 9)))
