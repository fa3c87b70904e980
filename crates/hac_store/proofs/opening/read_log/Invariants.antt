use Rattle.std.proofs.Common.{◌≡◌, ◌-◌, ◌≤◌, ◌^◌}
use Rattle.hac_disk.specs.Images.{IsQuiet}
use Rattle.hac_disk.specs.Contents.{StandAt}
use Rattle.hac_store.proofs.LoadLemmas.{Leaves}
use Rattle.hac_store.proofs.ReadLemmas.{IsRead}
use Rattle.hac_store.proofs.opening.read_log.Given as goal

abbrev pub invariant-loop-reader : goal.invariant-loop-reader
invariant-loop-reader g l = let seen = g.D.Disk.seen in record {
  held : StandAt (seen l.disk).contents l.reader.start l.reader.bytes;
  ahead : l.start ≤ l.at;
  read : IsRead (seen l.initial.disk).contents l.initial.replay l.start l.replay l.at;
  quiet : IsQuiet (seen l.initial.disk) (seen l.disk);
  attached : (seen l.disk).attached ≡ (seen l.initial.disk).attached;
  faults : (seen l.disk).faults ≡ (seen l.initial.disk).faults;
  asked : Leaves (seen l.initial.disk).contents l.initial.replay l.start l.replay l.at l.initial.probes l.probes;
}

abbrev pub decreases-loop-reader : goal.decreases-loop-reader
decreases-loop-reader g l = 2 ^ 64 - l.at
