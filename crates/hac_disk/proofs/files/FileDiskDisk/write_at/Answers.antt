use Rattle.std.proofs.Common.{length}
use Rattle.hac_disk.proofs.TornLemmas.{torn-none}
use Rattle.hac_disk.proofs.files.FileDiskDisk.write_at.Goals as goal

pub returns-clause-images : goal.returns-clause-images
returns-clause-images c i now = (i, tt, torn-none c.args.at (length c.args.bytes.now) i)
