-- What a line is read as is spelled.
use Rattle.std.proofs.Common.{ℕ, List, Ok, Err, rules}
use Rattle.std.specs.Prelude.{IfOk, IsTrue, Option, Result}
use Rattle.hac_model.specs.Run.Answers.{Answers}
use Rattle.hac_model.specs.Script.Lines.{is_spelled_line, item_taken}
use Rattle.hac_model.specs.declared.commands.Line.{Line}
use Rattle.hac_model.specs.declared.replies.Deny.{Deny}
use Rattle.hac_model.specs.declared.taken.Taken.{Taken}
use Rattle.hac_model.proofs.SpellingLemmas.{taken-spells}
use Rattle.shell_lang.proofs.parsing.parse_line.Goals as goal

answer-spelled : (line : List ℕ) (taken : Option Taken) (result : Result Line Deny) → Answers result (item_taken line taken) → IfOk result (λ l. IsTrue (is_spelled_line l))
answer-spelled line taken (Ok given) told = taken-spells line taken given told
answer-spelled line taken (Err deny) told = tt

pub returns-clause-spelled : goal.returns-clause-spelled
returns-clause-spelled c =
    let told : Answers c.line_with.result (item_taken c.args.line.now c.args.taken) = search rules in
    answer-spelled c.args.line.now c.args.taken c.line_with.result told
