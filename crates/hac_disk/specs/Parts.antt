-- The file of a disk in memory.
use Rattle.std.specs.Prelude.{ℕ, List, ◌++◌, replicate}

-- a head, a gap of zeros, and a tail
abbrev pub contents : List ℕ → ℕ → List ℕ → List ℕ
contents head gap tail = head ++ replicate gap 0 ++ tail
