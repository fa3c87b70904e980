-- What a torn write leaves where it was.
use Rattle.std.proofs.Common.{◌≡◌, ℕ, ◌+◌, ◌≤◌, max, List, ◌++◌, length, take, drop, refl, ◌∙◌, ap, arith, append_assoc, length-append, length-drop}
use Rattle.std.proofs.lemmas.List.{take_at, drop_at, length-take}
use Rattle.hac_disk.specs.Images.{overlaid, Torn, TornFrom}

-- nothing was torn
pub torn-none : (at n : ℕ) (file : List ℕ) → Torn at n file file
torn-none at n file = record { before = refl; after = refl; no_shorter = omega arith; no_longer = omega arith }

-- an image may be left as it is
pub torn-from : (at n : ℕ) (image : List ℕ → Type 0) (c : List ℕ) → image c → TornFrom at n image c
torn-from at n image c left = (c, left, torn-none at n c)

-- a file with bytes over it, in its three parts
module _ (at : ℕ) (bytes file : List ℕ) (starts : at ≤ length file) where
  length-before : length (take at file) ≡ at
  length-before = omega (arith, length-take at file)

  length-through : length (take at file ++ bytes) ≡ at + length bytes
  length-through = omega (arith, length-append (take at file) bytes, length-before)

  pub length-overlaid : length (overlaid at bytes file) ≡ max (length file) (at + length bytes)
  length-overlaid = omega (arith, length-append (take at file ++ bytes) (drop (at + length bytes) file), length-drop (at + length bytes) file, length-through)

  pub overlaid-before : take at (overlaid at bytes file) ≡ take at file
  overlaid-before = ap (take at) (append_assoc (take at file) bytes (drop (at + length bytes) file)) ∙ take_at (take at file) (bytes ++ drop (at + length bytes) file) at length-before

  pub overlaid-after : drop (at + length bytes) (overlaid at bytes file) ≡ drop (at + length bytes) file
  overlaid-after = drop_at (take at file ++ bytes) (drop (at + length bytes) file) (at + length bytes) length-through

  -- what was written whole is one of what a torn write may leave
  pub torn-whole : Torn at (length bytes) file (overlaid at bytes file)
  torn-whole = record {
    before = overlaid-before;
    after = overlaid-after;
    no_shorter = omega (arith, length-overlaid);
    no_longer = omega (arith, length-overlaid);
  }
