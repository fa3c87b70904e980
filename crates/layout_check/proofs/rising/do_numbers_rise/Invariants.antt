use Rattle.std.proofs.Common.{◌≡◌}
use Rattle.std.specs.Prelude.{drop}
use Rattle.hac_model.specs.Tree.ValidTest.{do_numbers_rise}
use Rattle.layout_check.proofs.rising.do_numbers_rise.Given as goal

-- those that are left rise from the last one on just where all rise
abbrev pub invariant-loop-entry : goal.invariant-loop-entry
invariant-loop-entry l =
    do_numbers_rise l.above (drop l.entry-index l.entries) l.next ≡ do_numbers_rise 0 l.entries l.next
