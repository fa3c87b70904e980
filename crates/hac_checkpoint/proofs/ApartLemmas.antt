-- Areas that lie apart from what is written, and what is read in them.
use Rattle.std.proofs.Common.{◌≡◌, inl, inr, ⊎_elim, ℕ, ◌+◌, ◌-◌, ◌<◌, ◌≤◌, Bool, nat_le, if◌then◌else◌, List, [], ◌∷◌, ◌++◌, length, take, drop, slice_index, None, Some, refl, sym, ◌∙◌, ap, arith, length-append, length-drop}
use Rattle.std.specs.declared.option.Option.{Option}
use Rattle.std.proofs.Math.Seq.{take-add}
use Rattle.std.proofs.lemmas.Bool.{cases_lt}
use Rattle.std.proofs.lemmas.List.{drop-drop, drop-take, drop_all, drop_at, drop_more, length-take, take_at}
use Rattle.hac_disk.specs.Images.{overlaid}
use Rattle.hac_journal.specs.Appending.{HoldsAt}
use Rattle.hac_journal.specs.Finding.{found_in}
use Rattle.hac_journal.proofs.CrashLemmas.{front-less}
use Rattle.hac_journal.proofs.LawLemmas.{found-along, found-is-whole, none-is-closed, records-are-found}
use Rattle.hac_checkpoint.specs.Areas.{HaveSame, area_of}
use Rattle.hac_checkpoint.specs.Laws.{AreasAreFound, ClosedGatesAreKept, NewAreasLieApart, RecordsAreKept, WritesLeaveAreas, WritesLeaveRoots}
use Rattle.hac_checkpoint.specs.declared.areas.Area.{Area}
use Rattle.hac_checkpoint.proofs.FlipLemmas.{overlaid-back}
use Rattle.hac_checkpoint.proofs.HeadLemmas.{roots-agree}
use Rattle.hac_checkpoint.proofs.RootLemmas.{le-fails, le-holds}
use Rattle.hac_checkpoint.proofs.WriteLemmas.{back-less}

pub new-areas-lie-apart : NewAreasLieApart
new-areas-lie-apart limit size at live behind order is =
    let last : Option ℕ = if nat_le (live.end + 1 + size) limit then Some (live.end + 1) else None in
    ⊎_elim
    (λ low.
    let rest : last ≡ Some at = ap (λ (b : Bool). if b then Some 64 else last) (sym (le-fails (64 + size) live.start low)) ∙ is in
    ⊎_elim
    (λ past. let none : None ≡ Some at = ap (λ (b : Bool). if b then Some (live.end + 1) else None) (sym (le-fails (live.end + 1 + size) limit past)) ∙ rest in absurd (cc))
    (λ within.
    let told : Some (live.end + 1) ≡ Some at = ap (λ (b : Bool). if b then Some (live.end + 1) else None) (sym (le-holds (live.end + 1 + size) limit within)) ∙ rest in
    let place : live.end + 1 ≡ at = cc in
    (omega (arith, place, behind, order), omega (arith, place), inr (omega (arith, place))))
    (cases_lt limit (live.end + 1 + size)))
    (λ room.
    let told : Some 64 ≡ Some at = ap (λ (b : Bool). if b then Some 64 else last) (sym (le-holds (64 + size) live.start room)) ∙ is in
    let place : 64 ≡ at = cc in
    (omega (arith, place), omega (arith, place, behind, order), inl (omega (arith, place, room))))
    (cases_lt live.start (64 + size))

pub writes-leave-roots : WritesLeaveRoots
writes-leave-roots at n c d behind torn = roots-agree c d (front-less c d 43 at behind torn.before)

pub writes-leave-areas : WritesLeaveAreas
writes-leave-areas at n area c d apart torn =
    let start = area.start in
    let count = area.end + 1 - area.start in
    ⊎_elim
    (λ before. ap (take count) (back-less c d (at + n) start before torn.after))
    (λ behind.
    ⊎_elim
    (λ some.
    let all : start + count ≡ area.end + 1 = omega (arith, some) in
    let front : take (start + count) c ≡ take (start + count) d = front-less c d (start + count) at (omega (arith, all, behind)) torn.before in
    sym (drop-take start count c) ∙ ap (drop start) front ∙ drop-take start count d)
    (λ none. let zero : count ≡ 0 = omega (arith, none) in ap (λ (k : ℕ). take k (drop start c)) zero ∙ ap (λ (k : ℕ). take k (drop start d)) (sym zero))
    (cases_lt start (area.end + 1)))
    apart

-- a file that has the same in an area as another
module _ (area : Area) (c d : List ℕ) (same : HaveSame area c d) where
  -- has the same in each part of the area
  part-same : (at count : ℕ) → area.start ≤ at → at + count ≤ area.end + 1 → take count (drop at c) ≡ take count (drop at d)
  part-same at count low high =
      let skip = at - area.start in
      let place : area.start + skip ≡ at = omega (arith, low) in
      let front = front-less (drop area.start c) (drop area.start d) (skip + count) (area.end + 1 - area.start) (omega (arith, low, high)) same in
      let part : (l : List ℕ) → take count (drop at l) ≡ drop skip (take (skip + count) (drop area.start l)) =
      λ l. ap (λ (k : ℕ). take count (drop k l)) (sym place) ∙ ap (take count) (sym (drop-drop skip area.start l)) ∙ sym (drop-take skip count (drop area.start l)) in
      part c ∙ ap (drop skip) front ∙ sym (part d)

  byte-there : (at : ℕ) → area.start ≤ at → at ≤ area.end → at < length d → (at < length c) × (slice_index c at ≡ slice_index d at)
  byte-there at low high there =
      let one = part-same at 1 low (omega (arith, high)) in
      let of_d : take 1 (drop at d) ≡ slice_index d at ∷ [] = ap (take 1) (drop_more d at 0 there) in
      ⊎_elim
      (λ in_c.
      let bytes : slice_index c at ∷ [] ≡ slice_index d at ∷ [] = ap (take 1) (sym (drop_more c at 0 in_c)) ∙ one ∙ of_d in
      (in_c, cc))
      (λ past. let none : [] ≡ slice_index d at ∷ [] = ap (take 1) (sym (drop_all at c past)) ∙ one ∙ of_d in absurd (cc))
      (cases_lt at (length c))

pub closed-gates-are-kept : ClosedGatesAreKept
closed-gates-are-kept area at c d same low high closed =
    let byte = byte-there area c d same at low high closed.there in
    record { there = byte.0; shut = λ is. closed.shut (sym byte.1 ∙ is) }

pub records-are-kept : RecordsAreKept
records-are-kept area at next payload c d same low high found =
    let whole = found-is-whole at next payload d found in
    let size = next - at in
    let place : at + size ≡ next = omega (arith, whole.0) in
    let front : length (take at d) ≡ at = omega (arith, length-take at d, whole.0, whole.1) in
    let mixed = take at d ++ drop at c in
    let back : drop at mixed ≡ drop at c = drop_at (take at d) (drop at c) at front in
    let agree : take next mixed ≡ take next d =
    ap (λ (k : ℕ). take k mixed) (sym place) ∙ take-add at size mixed
    ∙ ap (λ (l : List ℕ). l ++ take size (drop at mixed)) (take_at (take at d) (drop at c) at front)
    ∙ ap (λ (l : List ℕ). take at d ++ take size l) back
    ∙ ap (λ (l : List ℕ). take at d ++ l) (part-same area c d same at size low (omega (arith, place, high)))
    ∙ sym (take-add at size d) ∙ ap (λ (k : ℕ). take k d) place in
    let there = (byte-there area c d same next (omega (arith, low, place)) high whole.1).0 in
    let long : next < length mixed = omega (arith, length-append (take at d) (drop at c), front, length-drop at c, there, place) in
    ap (found_in at) (sym back) ∙ found-along at next payload mixed d found agree long

pub areas-are-found : AreasAreFound
areas-are-found at payload file starts fits =
    let rest = drop (at + length (area_of payload)) file in
    let holds : HoldsAt at (area_of payload) (overlaid at (area_of payload) file) =
    ap (take (length (area_of payload))) (overlaid-back at (area_of payload) file starts) ∙ take_at (area_of payload) rest (length (area_of payload)) refl in
    let found = records-are-found at payload [] (overlaid at (area_of payload) file) fits holds in
    (found.0, none-is-closed (at + 5 + length payload) (overlaid at (area_of payload) file) found.1)
