use Rattle.std.proofs.Common.{◌∙◌, ap, refl, sym}
use Rattle.std.proofs.lemmas.Result.{err_from_is_err_and}
use Rattle.clap.specs.Words.{app_of}
use Rattle.hac_model.specs.Script.CommandLine.{spaces_of}
use Rattle.command_line.specs.Words.{spaces_asked}
use Rattle.command_line.proofs.WordMatches.{found-in-matches, got-is, names-got, none-by-error, none-by-make, none-by-spaces, none-by-tick, store-got}
use Rattle.command_line.proofs.words.read_words.Goals as goal

pub returns-in_err-matches-clause-usage : goal.returns-in_err-matches-clause-usage
returns-in_err-matches-clause-usage c =
    let p = err_from_is_err_and c.from_residual-in_err-matches.result c.from_residual-in_err-matches.ensures.1 in
    rw p.1 (λ usage. none-by-error c.args.words.now (app_of c.in_ok-command.field-0) c.in_err-matches.field-0.0 c.in_ok-command.ensures c.in_err-matches.ensures.kinds (sym p.2 ∙ usage))

pub returns-in_default-clause-usage : goal.returns-in_default-clause-usage
returns-in_default-clause-usage c usage =
    let m = c.in_ok-matches.matches in
    let found = found-in-matches c.args.words.now (app_of c.in_ok-command.field-0) m c.in_ok-command.ensures c.in_ok-matches.ensures.kinds c.in_ok-matches.ensures.matches in
    none-by-tick c.args.words.now m found c.get_str.result c.get_str.ensures (sym c.tick_of.ensures ∙ c.in_default.is)

pub returns-in_default-make_of-clause-usage : goal.returns-in_default-make_of-clause-usage
returns-in_default-make_of-clause-usage c usage =
    let m = c.in_ok-matches.matches in
    let found = found-in-matches c.args.words.now (app_of c.in_ok-command.field-0) m c.in_ok-command.ensures c.in_ok-matches.ensures.kinds c.in_ok-matches.ensures.matches in
    none-by-make c.args.words.now m found c.get_str-2.result c.get_str-2.ensures (sym c.make_of.ensures ∙ c.in_default-make_of.is)

pub unwrap-requires : goal.unwrap-requires
unwrap-requires c =
    let m = c.in_ok-matches.matches in
    let found = found-in-matches c.args.words.now (app_of c.in_ok-command.field-0) m c.in_ok-command.ensures c.in_ok-matches.ensures.kinds c.in_ok-matches.ensures.matches in
    store-got c.args.words.now m found c.get_str-in-Ok.result c.get_str-in-Ok.ensures

pub returns-in-Ok-clause-read : goal.returns-in-Ok-clause-read
returns-in-Ok-clause-read c =
    let m = c.in_ok-matches.matches in
    let found = found-in-matches c.args.words.now (app_of c.in_ok-command.field-0) m c.in_ok-command.ensures c.in_ok-matches.ensures.kinds c.in_ok-matches.ensures.matches in
    let names = names-got m c.get_raw.result c.unwrap_or-names.result _ c.get_raw.ensures refl c.unwrap_or-names.ensures in
    got-is c.args.words.now m found c.get_str-in-Ok.result c.get_str-in-Ok.ensures c.in-Some.tick c.in-Some-make_of.make c.get_str.result c.get_str-2.result c.unwrap.result c.get_flag.result (spaces_asked c.in-Ok.spaces.items)
    c.get_str.ensures (sym c.in-Some.is ∙ c.tick_of.ensures) c.get_str-2.ensures (sym c.in-Some-make_of.is ∙ c.make_of.ensures) (ap spaces_of (sym names) ∙ c.in-Ok.ensures.read)
    c.unwrap.ensures c.get_flag.ensures.value c.get_flag.ensures.other

pub returns-clause-usage : goal.returns-clause-usage
returns-clause-usage c usage =
    let m = c.in_ok-matches.matches in
    let found = found-in-matches c.args.words.now (app_of c.in_ok-command.field-0) m c.in_ok-command.ensures c.in_ok-matches.ensures.kinds c.in_ok-matches.ensures.matches in
    let names = names-got m c.get_raw.result c.unwrap_or-names.result _ c.get_raw.ensures refl c.unwrap_or-names.ensures in
    none-by-spaces c.args.words.now m found (ap spaces_of (sym names) ∙ c.in-Err.ensures.usage usage)
