use Rattle.std.proofs.Common.{sym, arith}
use Rattle.hac_checkpoint.specs.Roots.{store_name}
use Rattle.hac_checkpoint.proofs.AgreeLemmas.{agreeing_more}
use Rattle.hac_checkpoint.proofs.heads.agreeing_with_name.Goals as goal

pub loop-i-preserved : goal.loop-i-preserved
loop-i-preserved c =
    let more = agreeing_more store_name c.args.bytes.now c.loop-i.i (omega arith) (omega arith) (sym c.if-bytes-i.false) in
    omega (arith, c.loop-i.invariant, more)
