-- What is seen of a disk that tells nothing.
use Rattle.std.specs.Prelude.{ℕ, ⊤, None}
use Rattle.hac_disk.specs.Seen.{DiskSeen, IsLawful}

-- it tells how many faults there were, and a crash may leave anything
abbrev pub unknown : ℕ → DiskSeen
unknown faults = record {
  contents = None;
  image = λ c. ⊤;
  moment = 0;
  image_since = λ t c. ⊤;
  attached = None;
  faults = faults;
}

pub unknown_lawful : (faults : ℕ) → IsLawful (unknown faults)
unknown_lawful faults = record {
  read_is_image = λ file same. tt;
  counts_now = λ t c le now. tt;
  only_now = λ c left. tt;
}
