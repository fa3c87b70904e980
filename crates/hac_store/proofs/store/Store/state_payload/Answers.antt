use Rattle.std.proofs.Common.{◌≡◌, ℕ, IfOk, IsTrue, List, ap, subst, ◌∙◌, sym}
use Rattle.hac_model.specs.Payload.States.{is_spellable_snapshot, snapshot_text}
use Rattle.hac_model.specs.Run.Checkpoints.{state_text}
use Rattle.hac_model.specs.Tree.{raised}
use Rattle.hac_model.specs.declared.snapshots.Snapshot.{Snapshot}
use Rattle.hac_model.specs.declared.versions.Version.TheVariants.{Two}
use Rattle.hac_model.proofs.RaisedLemmas.{raised-valid}
use Rattle.hac_model.proofs.StateSpellingLemmas.{valid-states-spelled}
use Rattle.hac_store.specs.Stores.{Seen}
use Rattle.hac_store.proofs.CheckpointLemmas.{snapshot-raised}
use Rattle.hac_store.proofs.store.Store.state_payload.Goals as goal

pub write_snapshot-requires : goal.write_snapshot-requires
write_snapshot-requires c =
    let s = c.self.inside.machine.state in
    rw c.in_ok-snapshot.ensures
    (subst (λ (x : Snapshot). IsTrue (is_spellable_snapshot x)) (snapshot-raised s) (valid-states-spelled (raised s) (raised-valid s c.self.invariant.0)))

pub returns : goal.returns
returns c =
    let s = c.self.inside.machine.state in
    let same =
    ap (λ (x : Snapshot). snapshot_text (record x { version = Two })) c.in_ok-snapshot.ensures
    ∙ ap snapshot_text (sym (snapshot-raised s)) ∙ ap (λ (x : Seen). state_text (raised x.setting.state)) c.self.view_is in
    subst (λ (text : List ℕ). IfOk c.write_snapshot.result (λ payload. payload.items ≡ text)) same c.write_snapshot.ensures
