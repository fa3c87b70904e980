-- A log that is read record by record, of a disk that tells its bytes.
use Rattle.std.proofs.Common.{◌≡◌, ℕ, ◌-◌, ◌≤◌, List, length, None, Some, IfSome, Result, Ok, Err, sym, ◌∙◌, ap, subst, arith, Vec}
use Rattle.std.specs.declared.alloc.Global.{Global}
use Rattle.std.specs.declared.option.Option.{Option}
use Rattle.hac_checkpoint.specs.Roots.{placed, root_of, IsRootSeen}
use Rattle.hac_checkpoint.specs.declared.heads.Root.{Root}
use Rattle.hac_checkpoint.specs.declared.heads.RootFault.{RootFault}
use Rattle.hac_checkpoint.specs.declared.heads.RootFault.TheVariants as root
use Rattle.hac_checkpoint.specs.declared.heads.Stop.{Stop}
use Rattle.hac_checkpoint.specs.declared.heads.Stop.TheVariants as stop
use Rattle.hac_journal.specs.Finding.{TellsAt}
use Rattle.hac_journal.specs.declared.finding.Next.TheVariants.{Entry, End, Bad}
use Rattle.hac_model.specs.Run.Answers.{◌>>=◌}
use Rattle.hac_model.specs.Payload.Payloads.{all_of, payload_field, spelled}
use Rattle.hac_model.specs.Payload.Payloads.{placed as within_payload}
use Rattle.hac_model.specs.Payload.States.{snapshot_payload, spelled_snapshot}
use Rattle.hac_model.specs.declared.states.State.{State}
use Rattle.hac_model.specs.declared.versions.Version.{Version}
use Rattle.hac_store.specs.Faults.{of_root}
use Rattle.hac_store.specs.Held.{Led, area, from_root, held, after_payload, log, with_root}
use Rattle.hac_store.specs.Reading.{BeginsArea, Judges, ReadsLog}
use Rattle.hac_store.specs.Stores.{Opens}
use Rattle.hac_store.specs.declared.areas.Begun.{Begun}
use Rattle.hac_store.specs.declared.fault.StoreFault.{StoreFault}
use Rattle.hac_store.specs.declared.fault.StoreFault.TheVariants as fault
use Rattle.hac_store.proofs.HeldLemmas.{held-area, held-root, setting_of}
use Rattle.hac_store.proofs.LogLemmas.{go_on, log-closed, log-short, log-whole}

-- so far the log of a file was read as what it is from here on
abbrev pub IsRead : Option (List ℕ) → State → ℕ → State → ℕ → Type 0
IsRead seen old start new at = IfSome seen (λ file. log old start file ≡ log new at file)

abbrev pub Reads : Result ℕ StoreFault → Option (List ℕ) → State → ℕ → State → Type 0
Reads result seen old start new = IfSome seen (λ file. ReadsLog result new file (log old start file))

-- the closed gate behind it
pub read-end : (seen : Option (List ℕ)) (old : State) (start : ℕ) (s : State) (at : ℕ) → IsRead seen old start s at → TellsAt End at seen → Reads (Ok at) seen old start s
read-end None old start s at so_far tells = tt
read-end (Some file) old start s at so_far tells = so_far ∙ log-closed s at file tells

-- the file ends too early
pub read-short : (seen : Option (List ℕ)) (old : State) (start : ℕ) (s new : State) (at len : ℕ) → IsRead seen old start s at → TellsAt (Bad len) at seen → Reads (Err (fault.NotStore len)) seen old start new
read-short None old start s new at len so_far tells = tt
read-short (Some file) old start s new at len so_far tells =
    ap (placed file) (so_far ∙ log-short s at file tells.0) ∙ ap (λ (n : ℕ). Err n) (sym tells.1)

-- one record more
pub read-more : (seen : Option (List ℕ)) (old : State) (start : ℕ) (s new : State) (at next : ℕ) (payload : Vec ℕ Global) → IsRead seen old start s at
    → TellsAt (Entry payload next) at seen → after_payload s at (spelled s.version payload.items) ≡ Ok new → IsRead seen old start new next
read-more None old start s new at next payload so_far tells is = tt
read-more (Some file) old start s new at next payload so_far tells is =
    so_far ∙ log-whole s at file payload.items next tells ∙ ap (λ (r : Result State Stop). go_on r (λ after. log after next file)) is

-- a record that isn't sound
pub read-wrong : (seen : Option (List ℕ)) (old : State) (start : ℕ) (s new : State) (at next place : ℕ) (payload : Vec ℕ Global) → IsRead seen old start s at
    → TellsAt (Entry payload next) at seen → after_payload s at (spelled s.version payload.items) ≡ Err (stop.BadAt place) → Reads (Err (fault.NotStore place)) seen old start new
read-wrong None old start s new at next place payload so_far tells is = tt
read-wrong (Some file) old start s new at next place payload so_far tells is =
    ap (placed file) (so_far ∙ log-whole s at file payload.items next tells ∙ ap (λ (r : Result State Stop). go_on r (λ after. log after next file)) is)

-- a fault of a record is a fault of the log
pub read-stop : (seen : Option (List ℕ)) (old : State) (start : ℕ) (s new : State) (at next : ℕ) (payload : Vec ℕ Global) (why : StoreFault) → IsRead seen old start s at
    → TellsAt (Entry payload next) at seen → Judges (Err why) new (after_payload s at (spelled s.version payload.items)) → Reads (Err why) seen old start new
read-stop seen old start s new at next payload fault.Disk so_far tells judges = absurd judges
read-stop seen old start s new at next payload (fault.NotStore place) so_far tells judges = read-wrong seen old start s new at next place payload so_far tells judges
read-stop seen old start s new at next payload fault.AlreadyStore so_far tells judges = absurd judges
read-stop seen old start s new at next payload fault.Full so_far tells judges = absurd judges
read-stop None old start s new at next payload fault.Memory so_far tells judges = tt
read-stop (Some file) old start s new at next payload fault.Memory so_far tells judges = tt

-- what a payload can't be read for lies within it
placed-within : {A : Type 0} (size : ℕ) (r : Result A ℕ) (at : ℕ) → within_payload size r ≡ Err at → at ≤ size
placed-within size (Ok value) at is = absurd (cc)
placed-within size (Err left) at is = let place : size - left ≡ at = cc in omega (arith, place)

pub spelled-within : (version : Version) (bytes : List ℕ) (at : ℕ) → spelled version bytes ≡ Err at → at ≤ length bytes
unfolding spelled
spelled-within version bytes at is = placed-within (length bytes) ((payload_field version).read bytes >>= all_of) at is

pub snapshot-within : (bytes : List ℕ) (at : ℕ) → spelled_snapshot bytes ≡ Err at → at ≤ length bytes
unfolding spelled_snapshot
snapshot-within bytes at is = placed-within (length bytes) (snapshot_payload.read bytes >>= all_of) at is

-- an area is read where it was begun and its log is read from there on
abbrev pub ReadsArea : Result ℕ StoreFault → Option (List ℕ) → ℕ → State → Type 0
ReadsArea result seen start new = IfSome seen (λ file. ReadsLog result new file (area start file))

pub read-area : (result : Result ℕ StoreFault) (seen : Option (List ℕ)) (start : ℕ) (begun : Begun) (new : State)
    → IfSome seen (λ file. BeginsArea (Ok begun) file (area start file)) → Reads result seen begun.replay begun.at new → ReadsArea result seen start new
read-area result None start begun new begins reads = tt
read-area result (Some file) start begun new begins reads = subst (ReadsLog result new file) (sym begins) reads

-- a root and its area are a store
pub opens-ok : (seen : Option (List ℕ)) (here : Root) (s : State) (end : ℕ) → IsRootSeen (Ok here) seen → ReadsArea (Ok end) seen here.start s
    → IfSome seen (λ file. held file ≡ Ok (setting_of here (record { state = s; end = end })))
opens-ok None here s end root_is reads = tt
opens-ok (Some file) here s end root_is reads = held-area file here (record { state = s; end = end }) root_is reads

with-fault : (file : List ℕ) (here : Root) (r : Result Led Stop) (at : ℕ) → placed file r ≡ Err at → placed file (with_root here r) ≡ Err at
with-fault file here (Ok l) at is = absurd (cc)
with-fault file here (Err stop.Short) at is = let same : length file ≡ at = cc in ap (λ (n : ℕ). Err n) same
with-fault file here (Err (stop.BadAt place)) at is = let same : place ≡ at = cc in ap (λ (n : ℕ). Err n) same

pub opens-stop : (seen : Option (List ℕ)) (here : Root) (s : State) (why : StoreFault) → IsRootSeen (Ok here) seen → ReadsArea (Err why) seen here.start s
    → IfSome seen (λ file. Opens (Err why) (held file))
opens-stop None here s why root_is reads = tt
opens-stop (Some file) here s fault.Disk root_is reads = tt
opens-stop (Some file) here s (fault.NotStore at) root_is reads = held-root file here root_is ∙ with-fault file here (area here.start file) at reads
opens-stop (Some file) here s fault.AlreadyStore root_is reads = tt
opens-stop (Some file) here s fault.Full root_is reads = tt
opens-stop (Some file) here s fault.Memory root_is reads = tt

-- an area whose first record is wrong is no store
pub opens-unbegun : (seen : Option (List ℕ)) (here : Root) (why : StoreFault) → IsRootSeen (Ok here) seen → IfSome seen (λ file. BeginsArea (Err why) file (area here.start file))
    → IfSome seen (λ file. Opens (Err why) (held file))
opens-unbegun None here why root_is begins = tt
opens-unbegun (Some file) here fault.Disk root_is begins = tt
opens-unbegun (Some file) here (fault.NotStore at) root_is begins = held-root file here root_is ∙ with-fault file here (area here.start file) at begins
opens-unbegun (Some file) here fault.AlreadyStore root_is begins = tt
opens-unbegun (Some file) here fault.Full root_is begins = tt
opens-unbegun (Some file) here fault.Memory root_is begins = tt

-- without a root there is no store
from-fault : (file : List ℕ) (r : Result Root Stop) (at : ℕ) → placed file r ≡ Err at → placed file (from_root file r) ≡ Err at
from-fault file (Ok here) at is = absurd (cc)
from-fault file (Err stop.Short) at is = let same : length file ≡ at = cc in ap (λ (n : ℕ). Err n) same
from-fault file (Err (stop.BadAt place)) at is = let same : place ≡ at = cc in ap (λ (n : ℕ). Err n) same

root-fault : (file : List ℕ) (at : ℕ) → placed file (root_of file) ≡ Err at → held file ≡ Err at
unfolding held
root-fault file at is = from-fault file (root_of file) at is

pub opens-rootless : (seen : Option (List ℕ)) (why : RootFault) → IsRootSeen (Err why) seen → IfSome seen (λ file. Opens (Err (of_root why)) (held file))
opens-rootless None why is = tt
opens-rootless (Some file) root.Disk is = tt
opens-rootless (Some file) (root.Bad at) is = root-fault file at is
