-- The path, then the length, then nothing more.
use Rattle.std.proofs.Common.{sym, ◌∙◌}
use Rattle.shell_lang.proofs.PutLemmas.{more-words, no-length, no-path, one-length, with-path}
use Rattle.shell_lang.proofs.putting.asked.Goals as goal

pub returns-in_err-rest : goal.returns-in_err-rest
returns-in_err-rest c = c.from_residual.ensures ∙ sym (no-path c.args.arguments.now c.in_err-rest.ensures)

pub returns-in_err-length : goal.returns-in_err-length
returns-in_err-length c =
    let path = c.in_ok-rest.ensures in
    let rest = c.in_ok-rest.rest.now in
    c.from_residual-in_err-length.ensures
    ∙ sym (with-path c.args.arguments.now path.0 rest path.1.1 ∙ no-length path.0 rest c.in_err-length.ensures)

pub returns-then-not-is_blank : goal.returns-then-not-is_blank
returns-then-not-is_blank c =
    let path = c.in_ok-rest.ensures in
    let rest = c.in_ok-rest.rest.now in
    let length = c.in_ok-length.ensures in
    sym (with-path c.args.arguments.now path.0 rest path.1.1
    ∙ more-words path.0 rest length.0 c.in_ok-length.behind.now length.1.1 (sym c.if-not-is_blank.ensures))

pub returns : goal.returns
returns c =
    let path = c.in_ok-rest.ensures in
    let rest = c.in_ok-rest.rest.now in
    let length = c.in_ok-length.ensures in
    c.number_of.ensures
    ∙ sym (with-path c.args.arguments.now path.0 rest path.1.1
    ∙ one-length path.0 rest c.in_ok-length.length.now length.0 c.in_ok-length.behind.now length.1.0 length.1.1 (sym c.if-not-is_blank.ensures))
