use Rattle.std.proofs.Common.{◌∷◌, ◌-◌, ap, ◌∙◌, length, rules}
use Rattle.hac_disk.specs.Kept.{disk_of}
use Rattle.hac_disk.specs.Memory.{DiskState, Attached}
use Rattle.hac_disk.proofs.MemoryLemmas.{quiet-attach, calls-attach}
use Rattle.hac_disk.proofs.memory.MemoryDiskDisk.attach.Goals as goal

pub returns-clause-quiet : goal.returns-clause-quiet
returns-clause-quiet c =
    let name = c.args.name.now in
    let new : DiskState = disk_of (record c.self.inside {
      log = c.push.new.self;
      kept = c.extend_from_slice.new.self;
      room = c.self.inside.room - length c.as_bytes-name.result.now;
      calls = c.begin_within.new.self;
    }) in
    let pushed = calls-attach c.self.inside.log.items c.push.new.self.items c.self.inside.kept.items c.extend_from_slice.new.self.items name (length c.as_bytes-name.result.now) c.args.make (search rules) (search rules) (search rules) in
    quiet-attach c.args.self.now new name c.args.make (ap (λ (d : DiskState). d.first) c.self.view_is) (pushed ∙ ap (λ (d : DiskState). Attached name c.args.make ∷ d.done) c.self.view_is)
