use Rattle.std.proofs.Common.{ap, sym, ◌∙◌}
use Rattle.hac_model.specs.Payload.States.{snapshot_of}
use Rattle.hac_model.specs.declared.states.State.{State}
use Rattle.kept_state.proofs.StateLemmas.{same-next}
use Rattle.snapshots.proofs.taking.snapshot.Goals as goal

pub returns : goal.returns
unfolding snapshot_of
returns c =
    let s = c.args.kept.now.state in
    let bares = c.tree-tree.ensures.tree.bares in
    let version = c.version.ensures ∙ sym (ap (λ (x : State). x.version) bares) in
    let next = c.next_number.ensures.number ∙ sym (same-next s c.tree-tree.result.now.state bares) in
    let entries = c.new.ensures ∙ c.in_ok-entries.ensures in
    λ i. record { version = version i; next = next i; entries = entries i }
