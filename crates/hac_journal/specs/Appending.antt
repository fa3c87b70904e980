-- What an append may leave.
use Rattle.std.specs.Prelude.{◌≡◌, ◌≢◌, ◌⊎◌, ℕ, ◌<◌, List, length, take, drop, slice_index}

-- there is a gate at this place that isn't open
pub record ClosedAt (at : ℕ) (file : List ℕ) : Type 0 where
  pub there : at < length file
  pub shut : slice_index file at ≢ 1

-- the file has these bytes at this place
abbrev pub HoldsAt : ℕ → List ℕ → List ℕ → Type 0
HoldsAt at bytes file = take (length bytes) (drop at file) ≡ bytes

-- an image from before, up to the end; from there on, a gate that isn't open, or all of these bytes
pub record Appending (end : ℕ) (bytes : List ℕ) (image : List ℕ → Type 0) (c : List ℕ) : Type 0 where
  pub old : List ℕ
  pub from : image old
  pub front : take end c ≡ take end old
  pub rest : ClosedAt end c ⊎ HoldsAt end bytes c
