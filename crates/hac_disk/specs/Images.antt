-- What a crash may leave of a file between two syncs, now and at each moment since an earlier one.
use Rattle.std.specs.Option.{IfSome}
use Rattle.std.specs.Prelude.{◌≡◌, ◌⊎◌, ℕ, ◌+◌, ◌≤◌, max, List, ◌++◌, length, take, drop}
use Rattle.hac_disk.specs.Seen.{DiskSeen}

-- the file with these bytes written at this place: over what was there, and past its end
abbrev pub overlaid : ℕ → List ℕ → List ℕ → List ℕ
overlaid at bytes file = take at file ++ bytes ++ drop (at + length bytes) file

-- after a write of n bytes that a crash cuts short: any bytes in the range and past the old end, the same elsewhere
pub record Torn (at n : ℕ) (old new : List ℕ) : Type 0 where
  pub before : take at new ≡ take at old
  pub after : drop (at + n) new ≡ drop (at + n) old
  pub no_shorter : length old ≤ length new
  pub no_longer : length new ≤ max (length old) (at + n)

-- each new image is an old one after this step
abbrev pub Follows : (List ℕ → List ℕ → Type 0) → (List ℕ → Type 0) → (List ℕ → Type 0) → Type 0
Follows step old new = (c : List ℕ) → new c → (d : List ℕ) × old d × step d c

-- some image that a write of n bytes at this place may tear into this one
abbrev pub TornFrom : ℕ → ℕ → (List ℕ → Type 0) → List ℕ → Type 0
TornFrom at n image c = (d : List ℕ) × image d × Torn at n d c

-- this file is the only image
abbrev pub Only : List ℕ → (List ℕ → Type 0) → Type 0
Only file image = (c : List ℕ) → image c → c ≡ file

-- time goes on: a crash since t might have left what it might have left before, or what it may leave now
pub record Elapses (old new : DiskSeen) : Type 0 where
  pub later : old.moment ≤ new.moment
  pub nothing_else : (t : ℕ) (c : List ℕ) → t ≤ old.moment → new.image_since t c → old.image_since t c ⊎ new.image c
  pub keeps : (t : ℕ) (c : List ℕ) → t ≤ old.moment → old.image_since t c → new.image_since t c

-- nothing was written: a read gives what it gave before, and no crash since might have left anything else
pub record IsQuiet (old new : DiskSeen) : Type 0 where
  pub same : new.contents ≡ old.contents
  pub images : (c : List ℕ) → new.image c → old.image c
  pub later : old.moment ≤ new.moment
  pub past : (t : ℕ) (c : List ℕ) → t ≤ old.moment → new.image_since t c → old.image_since t c
  pub keeps : (t : ℕ) (c : List ℕ) → t ≤ old.moment → old.image_since t c → new.image_since t c

-- a crash at any moment since old leaves an image that has P
pub record LeavesOnly (old new : DiskSeen) (P : List ℕ → Type 0) : Type 0 where
  pub later : old.moment ≤ new.moment
  pub each : (c : List ℕ) → new.image_since old.moment c → P c
  -- for a run that began earlier
  pub before : (t : ℕ) (c : List ℕ) → t ≤ old.moment → new.image_since t c → old.image_since t c ⊎ P c

-- nothing is pending: a crash leaves what a read gives
abbrev pub IsSettled : DiskSeen → Type 0
IsSettled disk = IfSome disk.contents (λ file. Only file disk.image)
