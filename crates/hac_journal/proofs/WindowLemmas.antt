-- What some bytes of a file say of the file.
use Rattle.std.proofs.Common.{◌≡◌, ⊎_elim, ℕ, ◌+◌, ◌-◌, ◌<◌, List, [], ◌++◌, length, take, drop, None, Some, Vec, sym, ◌∙◌, ap, arith, length-drop, take-append-drop}
use Rattle.std.specs.declared.option.Option.{Option}
use Rattle.std.specs.declared.alloc.Global.{Global}
use Rattle.std.proofs.lemmas.Bool.{cases_lt}
use Rattle.std.proofs.lemmas.Bool.Decides.{nat_tests}
use Rattle.std.proofs.lemmas.List.{drop-take, drop-drop, drop_all, length-take}
use Rattle.hac_disk.specs.Contents.{HasLength, StandAt}
use Rattle.hac_journal.specs.declared.finding.Look.TheVariants.{Record, ClosedGate, Needs}
use Rattle.hac_journal.specs.declared.finding.Next.TheVariants.{Entry, End, Bad}
use Rattle.hac_journal.specs.Finding.{Whole, found_in, TellsAt, Window, skipped, held_from, Shows}

-- the bytes begin with these
abbrev Begins : List ℕ → List ℕ → Type 0
Begins front bytes = (more : List ℕ) × (bytes ≡ front ++ more)

none-begins : (front bytes : List ℕ) → front ≡ [] → Begins front bytes
none-begins front bytes none = (bytes, ap (λ (l : List ℕ). l ++ bytes) (sym none))

-- the bytes from a place on, of those that were read, are where the file goes on from there
part-begins : (k m : ℕ) (bytes rest : List ℕ) → bytes ≡ take m rest → Begins (drop k bytes) (drop k rest)
part-begins k m bytes rest is =
    ⊎_elim
    (λ past. none-begins (drop k bytes) (drop k rest) (drop_all k bytes (omega (arith, ap length is, length-take m rest, past))))
    (λ within.
    let split : m ≡ k + (m - k) = omega (arith, within) in
    let part : drop k bytes ≡ take (m - k) (drop k rest) =
    ap (drop k) is ∙ ap (λ (n : ℕ). drop k (take n rest)) split ∙ drop-take k (m - k) rest in
    (drop (m - k) (drop k rest), sym (take-append-drop (m - k) (drop k rest)) ∙ ap (λ (l : List ℕ). l ++ drop (m - k) (drop k rest)) (sym part)))
    (cases_lt m k)

-- so the file from a place on begins with what is held from there on
held-begins : (window : Window) (at : ℕ) (file : List ℕ) → window.bytes ≡ take (length window.bytes) (drop window.start file) → Begins (held_from window at) (drop at file)
held-begins window at file stand =
    ⊎_elim
    (λ before.
    let all : skipped window at ≡ length window.bytes = grind (arith, nat_tests) in
    none-begins (held_from window at) (drop at file) (drop_all (skipped window at) window.bytes (omega (arith, all))))
    (λ behind.
    let some : skipped window at ≡ at - window.start = grind (arith, nat_tests) in
    let there : window.start + (at - window.start) ≡ at = omega (arith, behind) in
    let part = part-begins (at - window.start) (length window.bytes) window.bytes (drop window.start file) stand in
    let from : drop (at - window.start) (drop window.start file) ≡ drop at file = drop-drop (at - window.start) window.start file ∙ ap (λ (n : ℕ). drop n file) there in
    (part.0, sym from ∙ part.1 ∙ ap (λ (k : ℕ). drop k window.bytes ++ part.0) (sym some)))
    (cases_lt at window.start)

pub tells-record : (seen : Option (List ℕ)) (window : Window) (at size : ℕ) (payload : Vec ℕ Global) → StandAt seen window.start window.bytes
    → Shows (Record size) (held_from window at) → payload.items ≡ take size (drop 5 (held_from window at)) → TellsAt (Entry payload (at + 5 + size)) at seen
tells-record None window at size payload stand shows is = tt
tells-record (Some file) window at size payload stand shows is =
    let begins = held-begins window at file stand in
    ap (found_in at) begins.1 ∙ shows.1 begins.0 at ∙ ap (λ (l : List ℕ). Whole l (at + 5 + size)) (sym is)

pub tells-end : (seen : Option (List ℕ)) (window : Window) (at : ℕ) → StandAt seen window.start window.bytes
    → Shows ClosedGate (held_from window at) → TellsAt End at seen
tells-end None window at stand shows = tt
tells-end (Some file) window at stand shows =
    let begins = held-begins window at file stand in ap (found_in at) begins.1 ∙ shows begins.0 at

pub tells-bad : (seen : Option (List ℕ)) (window : Window) (at need len : ℕ) → StandAt seen window.start window.bytes
    → Shows (Needs need) (held_from window at) → HasLength seen len → len < at + need → TellsAt (Bad len) at seen
tells-bad None window at need len stand shows long short = tt
tells-bad (Some file) window at need len stand shows long short =
    let begins = held-begins window at file stand in
    let few : length (held_from window at ++ begins.0) < need = omega (arith, sym (ap length begins.1), length-drop at file, long, short, shows.0) in
    (ap (found_in at) begins.1 ∙ shows.2 begins.0 at few, long)
