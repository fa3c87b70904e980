use Rattle.std.specs.Prelude.{◌&&◌}
use Rattle.std.proofs.lemmas.Bool.{and_parts}
use Rattle.hac_model.specs.Payload.Fields.{num}
use Rattle.hac_model.specs.Payload.Payloads.{name_field}
use Rattle.hac_model.specs.Payload.States.{stored_field}
use Rattle.event_codec.proofs.snapshots.StoredEntryItem.put.Goals as goal

pub put_stored-requires : goal.put_stored-requires
put_stored-requires c =
    let stored = c.args.self.now in
    let number = and_parts _ ((num c.args.version).fits stored.entry.parent && (name_field.fits stored.entry.name && (stored_field c.args.version).fits (stored.entry.body, stored.documents))) c.requires.1 in
    let parent = and_parts ((num c.args.version).fits stored.entry.parent) (name_field.fits stored.entry.name && (stored_field c.args.version).fits (stored.entry.body, stored.documents)) number.1 in
    (and_parts (name_field.fits stored.entry.name) ((stored_field c.args.version).fits (stored.entry.body, stored.documents)) parent.1).1
