-- What a call does to a disk behind a fuse.
use Rattle.std.specs.Prelude.{◌≡◌, ◌+◌, ◌-◌, ◌<◌, Result, IsErr}
use Rattle.hac_outside.specs.Causes.{HasCause}
use Rattle.hac_disk.specs.Exchanges.{Exchange}
use Rattle.hac_disk.specs.Images.{IsQuiet}
use Rattle.hac_disk.specs.Seen.{DiskSeen, IsLawful}
use Rattle.hac_disk.specs.declared.fuse.FuseDisk.{FuseDisk}

-- what is seen of a disk behind a fuse: the calls that the fuse failed by itself are faults too
abbrev pub behind_fuse : {D : Type 0} → (D → DiskSeen) → FuseDisk D → DiskSeen
behind_fuse seen fuse = record (seen fuse.disk) { faults = (seen fuse.disk).faults + fuse.blown }

pub fuse_lawful : {D : Type 0} (seen : D → DiskSeen) (fuse : FuseDisk D) → IsLawful (seen fuse.disk) → IsLawful (behind_fuse seen fuse)
fuse_lawful seen fuse lawful = record {
  read_is_image = lawful.read_is_image;
  counts_now = lawful.counts_now;
  only_now = lawful.only_now;
}

-- one call fewer is left. Where one was left, it is passed on, so that it fails only by a fault of the disk; else it fails,
-- and the disk stays as it was. Each failure is a fault, of the disk or of the fuse
pub record Burns {D T E : Type 0} (seen : D → DiskSeen) (old new : FuseDisk D) (result : Result T E) : Type 0 where
  pub counted : new.calls ≡ old.calls - 1
  pub passed : 0 < old.calls → HasCause (seen old.disk).faults (seen new.disk).faults result
  pub failed : old.calls ≡ 0 → IsErr result
  pub same : old.calls ≡ 0 → new.disk ≡ old.disk
  pub cause : HasCause (behind_fuse seen old).faults (behind_fuse seen new).faults result

-- such a call that writes nothing and attaches nothing
pub record BurnsQuietly {D T E : Type 0} (seen : D → DiskSeen) (old new : FuseDisk D) (result : Result T E) : Type 0 where
  pub burns : Burns seen old new result
  pub quiet : IsQuiet (behind_fuse seen old) (behind_fuse seen new)
  pub attached : (seen new.disk).attached ≡ (seen old.disk).attached

-- where a call was left, the disk behind the fuse went through this one call, and through nothing else
abbrev pub fuse_does : {D : Type 0} → (Exchange → D → D → Type 0) → Exchange → FuseDisk D → FuseDisk D → Type 0
fuse_does does exchange old new = 0 < old.calls → does exchange old.disk new.disk
