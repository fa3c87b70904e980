use Rattle.std.proofs.Common.{◌≡◌, ◌+◌}
use Rattle.std.specs.Prelude.{drop}
use Rattle.std.specs.Option.{option_map_or}
use Rattle.hac_model.specs.Tree.ValidTest.{do_rise_from}
use Rattle.state_check.proofs.rising.do_rise.Given as goal

-- those that are left rise behind the last one just where all rise
abbrev pub invariant-loop-number : goal.invariant-loop-number
invariant-loop-number l = do_rise_from (option_map_or (λ last. last + 1) l.last 0) (drop l.number-index l.numbers)
    ≡ do_rise_from 0 l.numbers
