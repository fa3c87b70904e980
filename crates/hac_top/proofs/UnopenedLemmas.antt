-- Where the file holds no store to open, a run asks no more than finding that may take.
use Rattle.std.proofs.Common.{◌≡◌, ℕ, ◌≤◌, ◌+◌, Bool, List, Option, None, Some, Ok, Err, arith, rules, subst, sym}
use Rattle.std.specs.Prelude.{Result, IfErr}
use Rattle.std.specs.Option.{IfSome}
use Rattle.hac_model.specs.Run.Play.{Setting}
use Rattle.hac_model.specs.Script.CommandLine.{Options}
use Rattle.hac_store.specs.Held.{held}
use Rattle.hac_store.specs.Loading.{loading}
use Rattle.hac_top.specs.Crashes.{opening_outcome}
use Rattle.hac_top.specs.Run.{IfUnopened}
use Rattle.hac_top.specs.declared.status.Status.{Status}

if-err : (P : Type 0) (outcome : Result Setting Status) → P → IfErr outcome (λ _. P)
if-err P (Ok setting) holds = search rules
if-err P (Err status) holds = holds

-- what is asked is within what opening may take
pub unopened-within : (fresh : Bool) (seen : Option (List ℕ)) (old new : ℕ) → IfSome seen (λ file. new ≤ old + loading file) → IfUnopened fresh seen (λ opening. new ≤ old + opening)
unopened-within fresh None old new within = search rules
unopened-within fresh (Some file) old new within = if-err (new ≤ old + loading file) (opening_outcome fresh (held file)) within

-- nothing was asked
pub unopened-still : (fresh : Bool) (seen : Option (List ℕ)) (probes : ℕ) → IfUnopened fresh seen (λ opening. probes ≤ probes + opening)
unopened-still fresh None probes = search rules
unopened-still fresh (Some file) probes = if-err (probes ≤ probes + loading file) (opening_outcome fresh (held file)) (omega arith)

pub unopened-early : (asked : Option Options) (seen : Option (List ℕ)) (probes : ℕ) → IfSome asked (λ asked. IfUnopened asked.fresh seen (λ opening. probes ≤ probes + opening))
unopened-early None seen probes = search rules
unopened-early (Some asked) seen probes = unopened-still asked.fresh seen probes

-- a store was opened
pub opened-instead : (fresh : Bool) (seen : Option (List ℕ)) (setting : Setting) (P : ℕ → Type 0) → IfSome seen (λ file. opening_outcome fresh (held file) ≡ Ok setting) → IfUnopened fresh seen P
opened-instead fresh None setting P opened = search rules
opened-instead fresh (Some file) setting P opened = subst (λ (outcome : Result Setting Status). IfErr outcome (λ _. P (loading file))) (sym opened) (search rules)
