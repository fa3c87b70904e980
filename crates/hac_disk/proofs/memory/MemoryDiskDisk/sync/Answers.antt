use Rattle.std.proofs.Common.{◌∷◌, ap, ◌∙◌, rules}
use Rattle.hac_disk.specs.Kept.{disk_of}
use Rattle.hac_disk.specs.Memory.{DiskState, Synced}
use Rattle.hac_disk.proofs.MemoryLemmas.{quiet-sync, calls-sync}
use Rattle.hac_disk.proofs.memory.MemoryDiskDisk.sync.Goals as goal

pub returns-clause-quiet : goal.returns-clause-quiet
returns-clause-quiet c =
    let new : DiskState = disk_of (record c.self.inside { log = c.push.new.self; calls = c.begin_within.new.self }) in
    let pushed = calls-sync c.self.inside.log.items c.push.new.self.items c.self.inside.kept.items (search rules) in
    quiet-sync c.args.self.now new (ap (λ (d : DiskState). d.first) (c.self.view_is)) (pushed ∙ ap (λ (d : DiskState). Synced ∷ d.done) (c.self.view_is))
