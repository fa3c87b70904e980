use Rattle.std.proofs.Common.{◌≡◌, None}
use Rattle.std.specs.Prelude.{drop}
use Rattle.std.specs.Option.{option_copied}
use Rattle.hac_model.specs.Tree.ValidTest.{do_terms_rise}
use Rattle.state_check.proofs.rising.do_terms_rise.Given as goal

-- those that are left rise behind the last one just where all rise
abbrev pub invariant-loop-answer : goal.invariant-loop-answer
invariant-loop-answer l = do_terms_rise (option_copied l.last) (drop l.answer-index l.answers)
    ≡ do_terms_rise None l.answers
