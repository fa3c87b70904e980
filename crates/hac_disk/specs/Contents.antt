-- Facts about the bytes of a disk that tells them. Of one that doesn't, there is nothing to show.
use Rattle.std.specs.Prelude.{◌≡◌, ℕ, ◌+◌, ◌<◌, ◌≤◌, ⊤, Bool, List, [], ◌∷◌, ◌++◌, length, take, drop, None, Some, Ok, Err, Result}
use Rattle.std.specs.declared.option.Option.{Option}
use Rattle.hac_disk.specs.Images.{overlaid, Torn}

-- the n bytes from this place on lie within the file
abbrev pub RangeWithin : Option (List ℕ) → ℕ → ℕ → Type 0
RangeWithin None at n = ⊤
RangeWithin (Some file) at n = at + n ≤ length file

-- the place is within the file, or at its end
abbrev pub StartsWithin : Option (List ℕ) → ℕ → Type 0
StartsWithin None at = ⊤
StartsWithin (Some file) at = at ≤ length file

-- there is a byte at the place
abbrev pub HasByteAt : Option (List ℕ) → ℕ → Type 0
HasByteAt None at = ⊤
HasByteAt (Some file) at = at < length file

-- the file has this length
abbrev pub HasLength : Option (List ℕ) → ℕ → Type 0
HasLength None n = ⊤
HasLength (Some file) n = n ≡ length file

-- the file has these bytes there
abbrev pub StandAt : Option (List ℕ) → ℕ → List ℕ → Type 0
StandAt None at bytes = ⊤
StandAt (Some file) at bytes = bytes ≡ take (length bytes) (drop at file)

-- the bytes were written, and if they were known before, they still are
abbrev pub Written : Option (List ℕ) → ℕ → List ℕ → Option (List ℕ) → Type 0
Written None at bytes new = new ≡ None
Written (Some old) at bytes new = new ≡ Some (overlaid at bytes old)

-- at most the n bytes from this place on were changed, and if they were known before, they still are
abbrev pub WrittenInPart : Option (List ℕ) → ℕ → ℕ → Option (List ℕ) → Type 0
WrittenInPart None at n new = new ≡ None
WrittenInPart (Some old) at n None = ⊥
WrittenInPart (Some old) at n (Some new) = Torn at n old new

-- the names that were attached grew by this one, if that went well
abbrev pub Attaches : {E : Type 0} → Option (List (List ℕ × Bool)) → List ℕ → Bool → Result Unit E → Option (List (List ℕ × Bool)) → Type 0
Attaches None name make result new = new ≡ None
Attaches (Some names) name make (Ok _) new = new ≡ Some (names ++ (name, make) ∷ [])
Attaches (Some names) name make (Err _) new = new ≡ Some names
