use Rattle.std.proofs.Common.{◌+◌, ◌*◌, ◌%◌, ℕ, ap}
use Rattle.query_index.specs.Sieve.{next}
use Rattle.query_index.proofs.sieve.next.Goals as goal

pub returns-clause-next : goal.returns-clause-next
unfolding next
returns-clause-next c = ap (λ (byte : ℕ). (c.args.number * 251 + byte) % 32768) c.from.ensures
