-- The bytes of an area.
use Rattle.std.proofs.Common.{◌≡◌, ℕ, ◌+◌, ◌≤◌, List, [], ◌∷◌, ◌++◌, length, take, drop, None, Some, Result, OnErr, OnOk, sym, ◌∙◌, ap, subst, arith, append_assoc, length-append}
use Rattle.std.specs.declared.option.Option.{Option}
use Rattle.std.proofs.lemmas.List.{append-nil, drop-drop, drop_at, length-take, take_at}
use Rattle.byteorder.specs.Endian.{little_bytes}
use Rattle.byteorder.specs.Numbers.{length-bytes_low_first}
use Rattle.hac_disk.specs.Seen.{DiskSeen, IsLawful}
use Rattle.hac_disk.specs.Images.{Elapses, Follows, LeavesOnly, Torn, TornFrom, overlaid}
use Rattle.hac_disk.specs.Contents.{StartsWithin, Written, WrittenInPart}
use Rattle.hac_disk.proofs.ContentsLemmas.{told-written}
use Rattle.hac_disk.proofs.TornLemmas.{length-overlaid}
use Rattle.hac_journal.specs.Records.{record_of}
use Rattle.hac_checkpoint.specs.Areas.{area_of}
use Rattle.hac_checkpoint.specs.Writes.{WritesWithin}
use Rattle.hac_checkpoint.proofs.WriteLemmas.{within-run, within-stable, within-write}

-- bytes behind bytes that were written are written with them
overlaid-joined : (at : ℕ) (xs ys file : List ℕ) → at ≤ length file
    → overlaid (at + length xs) ys (overlaid at xs file) ≡ overlaid at (xs ++ ys) file
overlaid-joined at xs ys file starts =
    let behind = drop (at + length xs) file in
    let front : length (take at file ++ xs) ≡ at + length xs = omega (arith, length-append (take at file) xs, length-take at file, starts) in
    let place : at + length xs + length ys ≡ at + length (xs ++ ys) = omega (arith, length-append xs ys) in
    let back : drop (at + length xs + length ys) (take at file ++ xs ++ behind) ≡ drop (at + length (xs ++ ys)) file =
    sym (drop-drop (length ys) (at + length xs) (take at file ++ xs ++ behind))
    ∙ ap (drop (length ys)) (drop_at (take at file ++ xs) behind (at + length xs) front)
    ∙ drop-drop (length ys) (at + length xs) file
    ∙ ap (λ (k : ℕ). drop k file) place in
    ap (λ (l : List ℕ). l ++ ys ++ drop (at + length xs + length ys) (take at file ++ xs ++ behind)) (take_at (take at file ++ xs) behind (at + length xs) front)
    ∙ ap (λ (l : List ℕ). take at file ++ xs ++ ys ++ l) back
    ∙ ap (λ (l : List ℕ). l ++ drop (at + length (xs ++ ys)) file) (append_assoc (take at file) xs ys)

written-joined : (seen mid new : Option (List ℕ)) (at : ℕ) (xs ys : List ℕ) → StartsWithin seen at
    → Written seen at xs mid → Written mid (at + length xs) ys new → Written seen at (xs ++ ys) new
written-joined None mid new at xs ys starts first second = subst (λ m. Written m (at + length xs) ys new) first second
written-joined (Some file) mid new at xs ys starts first second =
    told-written mid new (overlaid at xs file) ys (at + length xs) first second ∙ ap (λ (f : List ℕ). Some f) (overlaid-joined at xs ys file starts)

-- an area by its three parts
area-parts : (payload : List ℕ) → (1 ∷ little_bytes 4 (length payload)) ++ payload ++ 0 ∷ [] ≡ area_of payload
unfolding record_of
area-parts payload = ap (λ (l : List ℕ). l ++ 0 ∷ []) (sym (append-nil (record_of payload)))

-- each of the three writes of an area begins within the file
starts-behind : (seen new : Option (List ℕ)) (at : ℕ) (bytes : List ℕ) → StartsWithin seen at → Written seen at bytes new → StartsWithin new (at + length bytes)
starts-behind None new at bytes starts written = subst (λ s. StartsWithin s (at + length bytes)) (sym written) tt
starts-behind (Some file) new at bytes starts written =
    subst (λ s. StartsWithin s (at + length bytes)) (sym written) (omega (arith, length-overlaid at bytes file starts))

-- and all of them write it
pub area-written : (seen one two new : Option (List ℕ)) (at : ℕ) (head payload : List ℕ) → StartsWithin seen at → head ≡ 1 ∷ little_bytes 4 (length payload)
    → Written seen at head one → Written one (at + 5) payload two → Written two (at + 5 + length payload) (0 ∷ []) new → Written seen at (area_of payload) new
area-written seen one two new at head payload starts is first second third =
    let five : length head ≡ 5 = omega (arith, ap length is, length-bytes_low_first 0 4 (length payload)) in
    let both = written-joined seen one two at head payload starts first (subst (λ k. Written one (at + k) payload two) (sym five) second) in
    let place : at + 5 + length payload ≡ at + length (head ++ payload) = omega (arith, five, length-append head payload) in
    let all = written-joined seen two new at (head ++ payload) (0 ∷ []) starts both (subst (λ k. Written two k (0 ∷ []) new) place third) in
    let parts : head ++ payload ++ 0 ∷ [] ≡ area_of payload = ap (λ (h : List ℕ). h ++ payload ++ 0 ∷ []) is ∙ area-parts payload in
    subst (λ l. Written seen at l new) parts all

-- none of them changes more than the area
abbrev Within : ℕ → ℕ → DiskSeen → DiskSeen → Type 0
Within at size old new = WritesWithin at (size + 6) old new

-- what a write says of its images
abbrev Images : ℕ → List ℕ → DiskSeen → DiskSeen → Type 0
Images at bytes old new = Follows (Torn at (length bytes)) old.image new.image

abbrev Answers : {T E : Type 0} → Result T E → ℕ → List ℕ → DiskSeen → DiskSeen → Type 0
Answers result at bytes old new = OnOk result (Written old.contents at bytes new.contents) × OnErr result (WrittenInPart old.contents at (length bytes) new.contents)

module _ {T E : Type 0} (first : Result T E) (at size : ℕ) (head : List ℕ) (old one : DiskSeen) (is : head ≡ 1 ∷ little_bytes 4 size) (starts : StartsWithin old.contents at)
    (lawful : IsLawful old) (told : Answers first at head old one) (images : Images at head old one) (time : Elapses old one) where
  five : length head ≡ 5
  five = omega (arith, ap length is, length-bytes_low_first 0 4 size)

  pub first-within : Within at size old one
  first-within =
      within-write first at at (size + 6) head old one lawful (omega arith) (omega (arith, five)) starts told.0 told.1 images time

  module _ {Value Fault : Type 0} (second : Result Value Fault) (payload : List ℕ) (two : DiskSeen) (long : length payload ≡ size) (written : Written old.contents at head one.contents)
      (lawful2 : IsLawful one) (told2 : Answers second (at + 5) payload one two) (images2 : Images (at + 5) payload one two) (time2 : Elapses one two) where
    behind : StartsWithin one.contents (at + 5)
    behind = subst (λ k. StartsWithin one.contents (at + k)) five (starts-behind old.contents one.contents at head starts written)

    pub second-within : Within at size old two
    second-within =
        within-run at (size + 6) old one two first-within
        (within-write second (at + 5) at (size + 6) payload one two lawful2 (omega arith) (omega (arith, long)) behind told2.0 told2.1 images2 time2)

    pub third-within : {Last Failure : Type 0} (third : Result Last Failure) (new : DiskSeen) → Written one.contents (at + 5) payload two.contents
        → Answers third (at + 5 + size) (0 ∷ []) two new → Images (at + 5 + size) (0 ∷ []) two new
        → LeavesOnly two new (TornFrom (at + 5 + size) 1 two.image) → Within at size old new
    third-within third new both told3 images3 run =
        let end = subst (λ k. StartsWithin two.contents (at + 5 + k)) long (starts-behind one.contents two.contents (at + 5) payload behind both) in
        within-run at (size + 6) old two new second-within
        (within-stable third (at + 5 + size) at (size + 6) (0 ∷ []) two new (omega arith) (omega arith) end told3.0 told3.1 images3 run)
