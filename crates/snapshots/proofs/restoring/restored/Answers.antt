use Rattle.std.proofs.Common.{◌≡◌, flat_map, ap, ◌∙◌}
use Rattle.hac_model.specs.Payload.States.{by_number, entries_in, restored}
use Rattle.snapshots.proofs.restoring.restored.Goals as goal

pub returns : goal.returns
unfolding restored
returns c =
    let entries : c.new.result ≡ by_number (flat_map entries_in c.args.snapshot.entries) =
    c.new.ensures ∙ c.in_ok-entries.ensures ∙ ap by_number c.in_ok-all_entries.ensures in
    let sessions = c.new-3.ensures ∙ c.new-2.ensures.items in
    λ i. record { version = c.args.snapshot.version; next = c.args.snapshot.next; entries = entries i; sessions = sessions i }
