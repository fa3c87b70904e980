use Rattle.std.proofs.Common.{◌∷◌, ◌-◌, ap, ◌∙◌, length, rules}
use Rattle.hac_disk.specs.Kept.{disk_of}
use Rattle.hac_disk.specs.Memory.{DiskState, Wrote}
use Rattle.hac_disk.proofs.MemoryLemmas.{write-images, write-time, calls-write}
use Rattle.hac_disk.proofs.memory.MemoryDiskDisk.write_at.Goals as goal

pub returns-clause-images : goal.returns-clause-images
returns-clause-images c =
    let bytes = c.args.bytes.now in
    let new : DiskState = disk_of (record c.self.inside {
      head = c.write_parts.new.head;
      tail = c.write_parts.new.tail;
      log = c.push.new.self;
      kept = c.extend_from_slice.new.self;
      room = c.self.inside.room - length bytes;
      calls = c.begin_within.new.self;
    }) in
    let pushed = calls-write c.self.inside.log.items c.push.new.self.items c.self.inside.kept.items c.extend_from_slice.new.self.items bytes c.args.at (length bytes) (search rules) (search rules) (search rules) in
    write-images c.args.self.now new c.args.at bytes c.requires (ap (λ (d : DiskState). d.first) c.self.view_is) (pushed ∙ ap (λ (d : DiskState). Wrote c.args.at bytes ∷ d.done) c.self.view_is)

pub returns-clause-time : goal.returns-clause-time
returns-clause-time c =
    let bytes = c.args.bytes.now in
    let new : DiskState = disk_of (record c.self.inside {
      head = c.write_parts.new.head;
      tail = c.write_parts.new.tail;
      log = c.push.new.self;
      kept = c.extend_from_slice.new.self;
      room = c.self.inside.room - length bytes;
      calls = c.begin_within.new.self;
    }) in
    let pushed = calls-write c.self.inside.log.items c.push.new.self.items c.self.inside.kept.items c.extend_from_slice.new.self.items bytes c.args.at (length bytes) (search rules) (search rules) (search rules) in
    write-time c.args.self.now new (Wrote c.args.at bytes) (ap (λ (d : DiskState). d.first) c.self.view_is) (pushed ∙ ap (λ (d : DiskState). Wrote c.args.at bytes ∷ d.done) c.self.view_is)
