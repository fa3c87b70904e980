use Rattle.std.proofs.Common.{◌≡◌, rules, Err, sym, subst, ◌∙◌}
use Rattle.hac_store.specs.Held.{area}
use Rattle.hac_store.specs.Reading.{BeginsArea}
use Rattle.hac_store.proofs.BeginLemmas.{begun-event, begun-state, begun-wrong}
use Rattle.hac_store.proofs.LoadLemmas.{loads-event, loads-state}
use Rattle.hac_store.proofs.areas.begin_behind.Goals as goal

pub returns-in_err-replay-in-State-clause-area : goal.returns-in_err-replay-in-State-clause-area
returns-in_err-replay-in-State-clause-area c = λ file found.
    let why = c.in_err-replay-in-State.field-0.0 in
    let same : c.from_residual.result ≡ Err why = search rules in
    subst (λ r. BeginsArea r file (area c.args.start file)) (sym same)
    (begun-wrong c.args.start file c.args.payload.now c.args.next why found (sym c.payload_kind.ensures ∙ c.in-State.is) c.in_err-replay-in-State.ensures)

pub returns-in_ok-replay-in-State-clause-area : goal.returns-in_ok-replay-in-State-clause-area
returns-in_ok-replay-in-State-clause-area c = λ file found.
    begun-state c.args.start file c.args.payload.now c.args.next c.in_ok-replay-in-State.replay found (sym c.payload_kind.ensures ∙ c.in-State.is) c.in_ok-replay-in-State.ensures

pub returns-in_ok-replay-in-State-clause-loads : goal.returns-in_ok-replay-in-State-clause-loads
returns-in_ok-replay-in-State-clause-loads c = λ file found.
    loads-state c.args.start file c.args.payload.now c.args.next c.in_ok-replay-in-State.replay found (sym c.payload_kind.ensures ∙ c.in-State.is) c.in_ok-replay-in-State.ensures

pub returns-in-Event-clause-area : goal.returns-in-Event-clause-area
returns-in-Event-clause-area c = λ file found.
    begun-event c.args.start file c.args.payload.now c.args.next c.in-Event.version c.begin_empty.result found (sym c.payload_kind.ensures ∙ c.in-Event.is) c.begin_empty.ensures.begun c.begin_empty.ensures.memory

pub returns-in-Event-clause-loads : goal.returns-in-Event-clause-loads
returns-in-Event-clause-loads c = λ file found.
    loads-event c.args.start file c.args.payload.now c.args.next c.in-Event.version c.begin_empty.result found (sym c.payload_kind.ensures ∙ c.in-Event.is) c.begin_empty.ensures.begun
