-- The parts before and behind the first place of the byte, where it has one.
use Rattle.std.specs.Prelude.{◌==◌}
use Rattle.sem_mounts.proofs.SplitLemmas.{split_once-none, split_once-some}
use Rattle.sem_mounts.proofs.splitting.split_once.Goals as goal

pub returns-in_err-place : goal.returns-in_err-place
returns-in_err-place c =
    rw c.from_residual.ensures (split_once-none (λ b. b == c.args.byte) c.args.bytes.now (rw
    c.in_err-place.was at c.find_byte.ensures))

pub returns : goal.returns
returns c =
    let found = rw c.in_ok-place.was at c.find_byte.ensures in
    split_once-some (λ b. b == c.args.byte) c.args.bytes.now c.in_ok-place.place found.0 found.1
