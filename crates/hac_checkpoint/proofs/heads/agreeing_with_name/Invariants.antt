use Rattle.std.proofs.Common.{◌≡◌, ◌+◌, drop}
use Rattle.hac_checkpoint.specs.Roots.{agreeing, store_name}
use Rattle.hac_checkpoint.proofs.heads.agreeing_with_name.Given as goal

abbrev pub invariant-loop-i : goal.invariant-loop-i
invariant-loop-i l = l.i + agreeing (drop l.i store_name) (drop l.i l.bytes) ≡ agreeing store_name l.bytes
