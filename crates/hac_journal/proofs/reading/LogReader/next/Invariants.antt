use Rattle.std.proofs.Common.{◌≡◌, ◌-◌, ◌^◌, length}
use Rattle.hac_disk.specs.Images.{IsQuiet}
use Rattle.hac_disk.specs.Contents.{StandAt}
use Rattle.hac_journal.specs.Finding.{held_from}
use Rattle.hac_journal.proofs.reading.LogReader.next.Given as goal

abbrev pub invariant-loop-size : goal.invariant-loop-size
invariant-loop-size g l = let seen = g.D.Disk.seen in record {
  held : StandAt (seen l.disk).contents l.self.start l.self.bytes;
  quiet : IsQuiet (seen l.initial.disk) (seen l.disk);
  attached : (seen l.disk).attached ≡ (seen l.initial.disk).attached;
  faults : (seen l.disk).faults ≡ (seen l.initial.disk).faults;
}

abbrev pub decreases-loop-size : goal.decreases-loop-size
decreases-loop-size g l = 2 ^ 33 - length (held_from l.self l.at)
