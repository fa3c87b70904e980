use Rattle.std.proofs.Common.{◌≡◌, IsTrue, [], ◌∷◌, arith, ap, refl, subst, sym, ◌∙◌}
use Rattle.hac_model.specs.Payload.Payloads.{is_spellable}
use Rattle.hac_model.specs.Tree.Valid.{IsValid}
use Rattle.hac_model.specs.declared.states.State.{State}
use Rattle.hac_model.specs.declared.versions.Version.{Version}
use Rattle.hac_model.proofs.SpelledLemmas.{accepted-spelled}
use Rattle.hac_store.specs.Stores.{Seen}
use Rattle.hac_store.proofs.PutLemmas.{none-stored}
use Rattle.hac_store.proofs.RoomLemmas.{record-has-room, room-costs}
use Rattle.hac_store.proofs.store.Store.command.Goals as goal

pub write_event-requires : goal.write_event-requires
write_event-requires g c =
    let state : c.self.inside.machine.state ≡ c.args.self.now.setting.state = ap (λ (x : Seen). x.setting.state) c.self.view_is in
    let version = c.version.ensures ∙ ap (λ (t : State). t.version) state in
    subst (λ (v : Version). IsTrue (is_spellable v c.args.change.event)) (sym version)
    (accepted-spelled c.args.self.now.setting.state c.args.change.event (subst IsValid state c.self.invariant.0) c.requires.can.2 c.requires.can.0.0)

pub returns-in-Err-clause-stores : goal.returns-in-Err-clause-stores
returns-in-Err-clause-stores g c = none-stored (g.met.D.Disk.lawful c.args.disk.now) refl (refl, refl) refl

pub put-requires-clause-stored : goal.put-requires-clause-stored
put-requires-clause-stored g c = (c.requires.can.2, tt)

-- the room for its record is the room for the event
pub returns-then-not-room_for-clause-stores : goal.returns-then-not-room_for-clause-stores
returns-then-not-room_for-clause-stores g c =
    let version = c.version.ensures ∙ ap (λ (x : Seen). x.setting.state.version) c.self.view_is in
    let room = record-has-room c.args.self.now.setting c.args.change.event c.version.result c.in-Ok.payload.items c.len.result version c.in-Ok.ensures (c.len.ensures ∙ c.in-Ok.payload.ok.0) in
    none-stored (g.met.D.Disk.lawful c.args.disk.now) refl (room ∙ sym c.room_for.ensures ∙ c.if-not-room_for.true, (refl, refl)) refl

pub returns-else-not-room_for-clause-probes : goal.returns-else-not-room_for-clause-probes
returns-else-not-room_for-clause-probes g c =
    let z = c.args.self.now.setting in
    let version = c.version.ensures ∙ ap (λ (x : Seen). x.setting.state.version) c.self.view_is in
    let room = record-has-room z c.args.change.event c.version.result c.in-Ok.payload.items c.len.result version c.in-Ok.ensures (c.len.ensures ∙ c.in-Ok.payload.ok.0) in
    let all = room-costs z (c.args.change.event ∷ []) (room ∙ sym c.room_for.ensures ∙ c.if-not-room_for.false) in
    omega (arith, c.put.ensures.probes, all)
