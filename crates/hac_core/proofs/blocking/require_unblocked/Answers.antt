use Rattle.hac_core.proofs.BlockingLemmas.{blocked-early, blocked-late}
use Rattle.hac_core.proofs.blocking.require_unblocked.Goals as goal

pub returns-in-Err : goal.returns-in-Err
returns-in-Err c = blocked-early c.args.linked.now.state c.args.command.now c.in-Err.deny c.in-Err.ensures

pub returns-in-Ok : goal.returns-in-Ok
returns-in-Ok c = blocked-late c.args.linked.now.state c.args.command.now c.fits_links.result c.in-Ok.ensures c.fits_links.ensures
