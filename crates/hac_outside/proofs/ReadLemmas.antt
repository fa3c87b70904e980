-- What a read of a source in memory gives, over plain lists.
use Rattle.std.proofs.Common.{◌≡◌, ℕ, ◌+◌, ◌-◌, ◌<◌, List, [], ◌++◌, length, take, drop, min, slice_get, sym, drop-drop}
use Rattle.std.proofs.Math.Seq.{drop-nil}
use Rattle.std.proofs.lemmas.List.{take-append-drop, take_rest}
use Rattle.std.specs.declared.option.Option.{Option}
use Rattle.hac_outside.specs.Memory.{cut_to}

-- dropping from nothing leaves nothing
drop-none : (n : ℕ) (xs : List ℕ) → xs ≡ [] → drop n xs ≡ []
drop-none n xs e = rw (e, drop-nil n)

-- a read that copies the front of what is left leaves the rest, and none at the end
pub Consumes-front : (bytes into : List ℕ) (given n : ℕ)
    → take n into ≡ take n (drop given bytes)
    → (n ≡ 0 → 0 < length into → drop given bytes ≡ [])
    → (drop given bytes ≡ take n into ++ drop (given + n) bytes)
    × (n ≡ 0 → 0 < length into → drop (given + n) bytes ≡ [])
Consumes-front bytes into given n front end = (
  rw (front, ← drop-drop n given bytes) (sym (take-append-drop n (drop given bytes))),
  λ none room. rw (← drop-drop n given bytes) (drop-none n (drop given bytes) (end none room)),
)

-- the count of a read, where its parts are written in other words
pub cut_to-same : (n : ℕ) (piece : Option ℕ) (shown pieces : List ℕ) (calls given : ℕ) (rest bytes : List ℕ) (into : List ℕ)
    → n ≡ cut_to piece (min (length into) (length (take (length rest - given) (drop given rest))))
    → piece ≡ slice_get shown calls → shown ≡ pieces → rest ≡ bytes
    → n ≡ cut_to (slice_get pieces calls) (min (length into) (length (drop given bytes)))
cut_to-same n piece shown pieces calls given rest bytes into count at same all =
    let cut = take_rest rest given in cc cut
