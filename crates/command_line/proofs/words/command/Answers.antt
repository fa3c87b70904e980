use Rattle.std.proofs.Common.{◌≡◌, ◌∙◌, false, IfOk, Ok, Err, Result, ap₂, rules}
use Rattle.clap.specs.Simple.{App}
use Rattle.clap.specs.Words.{AddsArg, Rule, app_of, rule_of, with_rule}
use Rattle.clap.specs.declared.builder.arg.Arg.{Arg}
use Rattle.clap.specs.declared.builder.command.Command.{Command}
use Rattle.command_line.specs.Words.{bare, make_option, new_option, space_names, store_name, tick_option}
use Rattle.command_line.proofs.words.command.Goals as goal

-- a command with one more argument
with-one : (old new : Command) (arg : Arg) (app : App) (rule : Rule) → AddsArg old arg new → arg.global ≡ false → app_of old ≡ app → rule_of arg ≡ rule → app_of new ≡ with_rule app rule
with-one old new arg app rule adds local was is = adds.shape local ∙ ap₂ with_rule was is

with-last : {E : Type 0} (old : Command) (given : Result Command E) (arg : Arg) (app : App) (rule : Rule) → IfOk given (λ new. AddsArg old arg new) → arg.global ≡ false → app_of old ≡ app → rule_of arg ≡ rule
    → IfOk given (λ new. app_of new ≡ with_rule app rule)
with-last old (Ok new) arg app rule adds local was is = with-one old new arg app rule adds local was is
with-last old (Err error) arg app rule adds local was is = tt

pub returns : goal.returns
returns c =
    let one = with_rule bare new_option in
    let two = with_rule one tick_option in
    let three = with_rule two make_option in
    let four = with_rule three store_name in
    let first = with-one c.disable_help_flag.result c.in_ok-arg.field-0 c.flag-fresh.result bare new_option c.in_ok-arg.ensures c.flag-fresh.ensures.local (search rules) c.flag-fresh.ensures.rule in
    let second = with-one c.in_ok-arg.field-0 c.in_ok-arg-2.field-0 c.valued-tick.result one tick_option c.in_ok-arg-2.ensures c.valued-tick.ensures.local first c.valued-tick.ensures.rule in
    let third = with-one c.in_ok-arg-2.field-0 c.in_ok-arg-3.field-0 c.valued-make.result two make_option c.in_ok-arg-3.ensures c.valued-make.ensures.local second c.valued-make.ensures.rule in
    let fourth = with-one c.in_ok-arg-3.field-0 c.in_ok-arg-4.field-0 c.required-store.result three store_name c.in_ok-arg-4.ensures (search rules) third (search rules) in
    with-last c.in_ok-arg-4.field-0 c.arg-5.result c.action-spaces.result four space_names c.arg-5.ensures (search rules) fourth (search rules)
