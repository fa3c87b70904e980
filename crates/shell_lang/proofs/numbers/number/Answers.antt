use Rattle.std.proofs.Common.{◌≡◌, ℕ, ◌+◌, ◌∙◌, arith, Some, take_all, ap, sym}
use Rattle.std.specs.Str.Parse.{digits_value}
use Rattle.shell_lang.proofs.NumberLemmas.{digit-more, front-le, none-fits, some-fits}
use Rattle.shell_lang.proofs.numbers.number.Goals as goal

pub returns-in_err-checked_mul : goal.returns-in_err-checked_mul
returns-in_err-checked_mul c =
    let more = digit-more c.args.digits.now c.digits.digit-index c.requires c.digits-test.true in
    let front = front-le c.args.digits.now (c.digits.digit-index + 1) in
    c.from_residual.ensures ∙ none-fits (digits_value 10 c.args.digits.now) (omega (arith, c.digits.invariant.0, more, front, c.in_err-checked_mul.ensures))

pub returns-in_err-number : goal.returns-in_err-number
returns-in_err-number c =
    let more = digit-more c.args.digits.now c.digits.digit-index c.requires c.digits-test.true in
    let front = front-le c.args.digits.now (c.digits.digit-index + 1) in
    c.from_residual-in_err-number.ensures
    ∙ none-fits (digits_value 10 c.args.digits.now) (omega (arith, c.digits.invariant.0, more, front, c.in_ok-checked_mul.ensures.1, c.from.ensures, c.in_err-number.ensures))

pub digits-preserved : goal.digits-preserved
digits-preserved c =
    let more = digit-more c.args.digits.now c.digits.digit-index c.requires c.digits-test.true in
    (omega (arith, c.digits.invariant.0, more, c.in_ok-checked_mul.ensures.1, c.from.ensures, c.in_ok-number.ensures.1), omega (arith, c.in_ok-number.ensures.0, c.in_ok-number.ensures.1))

pub returns : goal.returns
returns c =
    let whole : c.digits.number ≡ digits_value 10 c.args.digits.now =
    c.digits.invariant.0 ∙ ap (digits_value 10) (take_all c.digits.digit-index c.args.digits.now (omega (arith, c.digits-test.false))) in
    ap (λ (n : ℕ). Some n) whole ∙ some-fits (digits_value 10 c.args.digits.now) (omega (arith, sym whole, c.digits.invariant.1))
