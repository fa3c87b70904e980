-- Where an area begins, as it is read.
use Rattle.std.proofs.Common.{◌≡◌, inl, inr, ℕ, ◌+◌, true, Bool, if◌then◌else◌, List, None, Some, IfErr, IfOk, IfSome, Result, Ok, Err, sym, ◌∙◌, ap, subst}
use Rattle.std.specs.declared.option.Option.{Option}
use Rattle.event_codec.specs.Kinds.{kind_of}
use Rattle.event_codec.specs.declared.kinds.PayloadKind.TheVariants as kind
use Rattle.hac_checkpoint.specs.Roots.{placed}
use Rattle.hac_checkpoint.specs.declared.heads.Stop.{Stop}
use Rattle.hac_checkpoint.specs.declared.heads.Stop.TheVariants as stop
use Rattle.hac_journal.specs.Finding.{TellsAt, Whole, found_at}
use Rattle.hac_journal.specs.declared.finding.Next.TheVariants.{End, Bad}
use Rattle.hac_model.specs.Payload.States.{restored, spelled_snapshot}
use Rattle.hac_model.specs.Tree.{empty, root_alone}
use Rattle.hac_model.specs.Tree.Valid.{IsValid}
use Rattle.hac_model.specs.Tree.ValidTest.{is_valid}
use Rattle.hac_model.specs.declared.snapshots.Snapshot.{Snapshot}
use Rattle.hac_model.specs.declared.states.State.{State}
use Rattle.hac_model.specs.declared.versions.Version.{Version}
use Rattle.hac_model.specs.declared.versions.Version.TheVariants.{Two}
use Rattle.hac_model.proofs.ValidTestLemmas.{valid-Decides}
use Rattle.hac_store.specs.Held.{after_snapshot, area, log}
use Rattle.hac_store.specs.Reading.{BeginsArea, JudgesState}
use Rattle.hac_store.specs.declared.areas.Begun.{Begun}
use Rattle.hac_store.specs.declared.fault.StoreFault.{StoreFault}
use Rattle.hac_store.specs.declared.fault.StoreFault.TheVariants as fault
use Rattle.hac_store.proofs.AreaLemmas.{area-event, area-none, area-state}
use Rattle.hac_store.proofs.LogLemmas.{go_on, log-short}

-- the state of a snapshot that was read
pub state-read : (at : ℕ) (r : Result Snapshot ℕ) (snapshot : Snapshot) (s : State) → r ≡ Ok snapshot → s ≡ restored snapshot → IsValid s → after_snapshot at r ≡ Ok s
state-read at r snapshot s read told valid =
    let sound : is_valid (restored snapshot) ≡ true = (valid-Decides (restored snapshot)).1 (subst IsValid told valid) in
    ap (after_snapshot at) read
    ∙ ap (λ (b : Bool). if b then Ok (restored snapshot) else Err (stop.BadAt (at + 5))) sound
    ∙ ap (λ (t : State). Ok t) (sym told)

-- a fault of the state is a fault of its area
pub begun-wrong : (at : ℕ) (file payload : List ℕ) (behind : ℕ) (why : StoreFault) → found_at at file ≡ Whole payload behind → kind_of payload ≡ kind.State
    → JudgesState (Err why) (after_snapshot at (spelled_snapshot payload)) → BeginsArea (Err why) file (area at file)
begun-wrong at file payload behind fault.Disk found is judges = absurd judges
begun-wrong at file payload behind (fault.NotStore place) found is judges =
    ap (placed file) (area-state at file payload behind found is ∙ ap (λ (r : Result State Stop). go_on r (λ new. log new behind file)) judges)
begun-wrong at file payload behind fault.AlreadyStore found is judges = absurd judges
begun-wrong at file payload behind fault.Full found is judges = absurd judges
begun-wrong at file payload behind fault.Memory found is judges = tt

-- an area with a whole state goes on behind it
pub begun-state : (at : ℕ) (file payload : List ℕ) (behind : ℕ) (s : State) → found_at at file ≡ Whole payload behind → kind_of payload ≡ kind.State
    → after_snapshot at (spelled_snapshot payload) ≡ Ok s → area at file ≡ log s behind file
begun-state at file payload behind s found is judges =
    area-state at file payload behind found is ∙ ap (λ (r : Result State Stop). go_on r (λ new. log new behind file)) judges

-- any other goes on from the root alone, in a version
begun-alone : (version : Version) (at : ℕ) (file : List ℕ) (result : Result Begun StoreFault) → area at file ≡ log (root_alone version) at file
    → IfOk result (λ begun. begun ≡ record { replay = root_alone version; at = at })
    → IfErr result (λ why. why ≡ fault.Memory) → BeginsArea result file (area at file)
begun-alone version at file (Ok begun) leads is memory = leads ∙ ap (λ (b : Begun). log b.replay b.at file) (sym is)
begun-alone version at file (Err why) leads is memory = subst (λ (w : StoreFault). BeginsArea (Err w) file (area at file)) (sym memory) tt

pub begun-event : (at : ℕ) (file payload : List ℕ) (behind : ℕ) (version : Version) (result : Result Begun StoreFault) → found_at at file ≡ Whole payload behind → kind_of payload ≡ kind.Event version
    → IfOk result (λ begun. begun ≡ record { replay = root_alone version; at = at })
    → IfErr result (λ why. why ≡ fault.Memory) → BeginsArea result file (area at file)
begun-event at file payload behind version result found event is memory = begun-alone version at file result (area-event at file payload behind version found event) is memory

-- the same of a disk that tells its bytes
pub begins-closed : (seen : Option (List ℕ)) (at : ℕ) (result : Result Begun StoreFault) → TellsAt End at seen → IfOk result (λ begun. begun ≡ record { replay = empty; at = at })
    → IfErr result (λ why. why ≡ fault.Memory) → IfSome seen (λ file. BeginsArea result file (area at file))
begins-closed None at result tells is memory = tt
begins-closed (Some file) at result tells is memory = begun-alone Two at file result (area-none at file (inl tells)) is memory

pub begins-short : (seen : Option (List ℕ)) (at place : ℕ) → TellsAt (Bad place) at seen → IfSome seen (λ file. BeginsArea (Err (fault.NotStore place)) file (area at file))
begins-short None at place tells = tt
begins-short (Some file) at place tells =
    ap (placed file) (area-none at file (inr tells.0) ∙ log-short empty at file tells.0) ∙ ap (λ (n : ℕ). Err n) (sym tells.1)
