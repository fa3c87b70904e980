use Rattle.std.proofs.Common.{◌≡◌, map, replicate}
use Rattle.hac_journal.specs.Records.{contents_of}
use Rattle.hac_model.specs.Payload.Payloads.{event_text}
use Rattle.hac_model.specs.declared.events.Event.TheVariants.{Step}
use Rattle.hac_store.proofs.appending.step_payloads.Given as goal

abbrev pub invariant-loop : goal.invariant-loop
invariant-loop l = contents_of l.payloads.items ≡ map (event_text l.version) (replicate l.counter Step)
