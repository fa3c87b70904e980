-- How much a run has taken of a script that its source tells.
use Rattle.std.proofs.Common.{◌≡◌, ℕ, ◌+◌, ◌≤◌, Bool, true, false, List, [], ◌++◌, length, drop, Option, None, Some, refl, ap, sym, ◌∙◌, append_assoc, length-append, arith, rules}
use Rattle.std.proofs.Math.Seq.{drop-append_seam}
use Rattle.hac_model.specs.declared.limits.TheConstants.{SCRIPT_LIMIT}
use Rattle.hac_top.specs.Crashes.{StopsOpening}
use Rattle.hac_top.specs.Ends.{finished_status}
use Rattle.hac_top.specs.TakenLines.{GivesTaken, StopsIn, StopsLine}
use Rattle.hac_top.specs.Takes.{Takes, TakesBy, TakesSome}
use Rattle.hac_top.specs.declared.status.Status.{Status}
use Rattle.hac_top.specs.declared.status.Status.TheVariants.{ReadFault, DiskFault, NotStore, Memory, TooLong, AlreadyStore}
use Rattle.hac_top.specs.declared.taking.TakenLine.{TakenLine}
use Rattle.hac_top.proofs.GoesOn.{TookFirst}
use Rattle.hac_top.proofs.TakenLemmas.{no_rest}

-- what is left behind so many bytes
left-is : (front script left : List ℕ) (count : ℕ) → script ≡ front ++ left → count + length left ≡ 0 + length script → left ≡ drop count script
left-is front script left count is total =
    let same : count ≡ length front = omega (arith, total, ap length is, length-append front left) in
    sym (ap (λ (xs : List ℕ). drop count xs) is ∙ ap (λ (n : ℕ). drop n (front ++ left)) same ∙ drop-append_seam front left)

-- a run stopped as it took a line
pub takes-stop : (status : Status) (script pending left : List ℕ) (count : ℕ) → StopsLine status → TookFirst script pending → StopsIn status pending left → count + length left ≡ 0 + length script → count ≤ SCRIPT_LIMIT + 1 →
    (status ≡ TooLong → count ≡ SCRIPT_LIMIT + 1) → TakesBy status script (Some left)
takes-stop status script pending left count why took stops total limit past = by status why past
  where
    left_is : left ≡ drop count script
    left_is =
        left-is (took.0 ++ stops.taken) script left count (took.1 ∙ ap (λ (xs : List ℕ). took.0 ++ xs) stops.bytes_are ∙ sym (append_assoc took.0 stops.taken left)) total

    by : (status : Status) → StopsLine status → (status ≡ TooLong → count ≡ SCRIPT_LIMIT + 1) → TakesBy status script (Some left)
    by ReadFault why past = (count, limit, ap Some left_is)
    by Memory why past = (count, limit, ap Some left_is)
    by TooLong why past = (omega (arith, total, past refl), ap Some (left_is ∙ ap (λ (n : ℕ). drop n script) (past refl)))
    by other why past = absurd why

-- the script has ended
pub takes-end : (refused : Bool) (script pending left behind : List ℕ) (count : ℕ) → behind ++ left ≡ [] → count + length left ≡ 0 + length script → count ≤ SCRIPT_LIMIT → TakesBy (finished_status refused) script (Some left)
takes-end refused script pending left behind count none total within = by refused
  where
    nothing : left ≡ []
    nothing = no_rest behind left none

    by : (refused : Bool) → TakesBy (finished_status refused) script (Some left)
    by true = (omega (arith, total, within, ap length nothing), ap Some nothing)
    by false = (omega (arith, total, within, ap length nothing), ap Some nothing)

-- a line was taken, with less than one piece behind it
pub takes-line : (script pending left behind : List ℕ) (count : ℕ) (line : TakenLine) (ended : Bool) → TookFirst script pending → GivesTaken line ended pending (behind ++ left) → count + length left ≡ 0 + length script → count ≤ SCRIPT_LIMIT + 1 →
    TakesSome script (Some left)
takes-line script pending left behind count line ended took gives total limit =
    let so_far = took.0 ++ gives.own in
    let all : script ≡ ((took.0 ++ gives.own) ++ behind) ++ left =
    took.1 ∙ ap (λ (xs : List ℕ). took.0 ++ xs) gives.bytes_are ∙ sym (append_assoc took.0 gives.own (behind ++ left)) ∙ sym (append_assoc so_far behind left) in
    (count, limit, ap Some (left-is (so_far ++ behind) script left count all total))

-- nothing was taken
pub takes-none : (status : Status) (told : Option (List ℕ)) → StopsOpening status → Takes status told told
takes-none status None stops = search rules
takes-none (NotStore at) (Some script) stops = refl
takes-none AlreadyStore (Some script) stops = refl
takes-none DiskFault (Some script) stops = (0, omega arith, refl)
takes-none Memory (Some script) stops = (0, omega arith, refl)
takes-none other (Some script) stops = absurd stops
