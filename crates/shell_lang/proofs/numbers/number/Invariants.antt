use Rattle.std.proofs.Common.{◌≡◌, ◌<◌, ◌^◌, take}
use Rattle.std.specs.Str.Parse.{digits_value}
use Rattle.shell_lang.proofs.numbers.number.Given as goal

-- the number of the digits that the loop has passed, which eight bytes hold
abbrev pub invariant-digits : goal.invariant-digits
invariant-digits l = (l.number ≡ digits_value 10 (take l.digit-index l.digits)) × (l.number < 2 ^ 64)
