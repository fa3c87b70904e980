use Rattle.std.proofs.Common.{◌≡◌, ◌≤◌, ℕ, IfSome, List, [], arith, inr, inl, ◌∙◌, Err, ap, refl, subst, sym, true}
use Rattle.std.proofs.lemmas.Result.{err_from_is_err_and}
use Rattle.hac_disk.specs.Contents.{Written}
use Rattle.hac_journal.specs.Records.{AreShort, contents_of, log_of}
use Rattle.hac_model.specs.Laws.{AllHappen}
use Rattle.hac_model.specs.Run.Play.{end_behind}
use Rattle.hac_model.specs.Tree.Sessions.{sessionless}
use Rattle.hac_model.specs.Tree.Valid.{IsValid}
use Rattle.hac_model.specs.Versions.{store_limit}
use Rattle.hac_model.specs.declared.states.State.{State}
use Rattle.hac_model.proofs.EventLemmas.{all-valid}
use Rattle.hac_core.specs.Seen.{Seen as Kept}
use Rattle.hac_core.specs.Drafts.{settled_events}
use Rattle.hac_checkpoint.specs.Flips.{HasRoot}
use Rattle.hac_checkpoint.specs.declared.heads.Root.{Root}
use Rattle.hac_store.specs.Stores.{Seen, Stands, root_by}
use Rattle.hac_store.proofs.LogLemmas.{end-grows}
use Rattle.hac_store.proofs.PutLemmas.{can-happen, none-stored, put-moments, put-root, put-seen, put-stands, put-state}
use Rattle.hac_store.proofs.StoredLemmas.{all-stored, stored-leads, texts-short}
use Rattle.hac_store.proofs.RoomLemmas.{end-is, has-room, no-room}
use Rattle.hac_store.proofs.store.Store.put.Goals as goal

pub invariant_of-self-in-Ok : goal.invariant_of-self-in-Ok
invariant_of-self-in-Ok g c =
    let events = settled_events c.args.settled in
    let s = c.self.inside.machine.state in
    let state : c.args.self.now.setting.state ≡ s = ap (λ (x : Seen). x.setting.state) (sym c.self.view_is) in
    let after = put-state c.self.inside.machine c.prepare.new.self c.commit.new.self events c.in_ok-prepare.ensures.ok c.commit.ensures in
    let end = c.in-Ok.ensures.end ∙ end-is c.args.self.now.setting.state.version c.args.payloads.now events c.self.inside.end c.requires.texts in
    let happen = subst (λ t. AllHappen t events) state (can-happen c.args.self.now.setting.state c.args.settled c.requires.can) in (
      subst IsValid (sym after) (all-valid events s c.self.invariant.0 happen),
      omega (arith, c.self.invariant.1, end, end-grows c.args.self.now.setting.state.version events c.self.inside.end),
    )

pub append-requires-clause-short : goal.append-requires-clause-short
append-requires-clause-short g c =
    let z = c.args.self.now.setting in
    let events = settled_events c.args.settled in
    let state : c.self.inside.machine.state ≡ z.state = ap (λ (x : Seen). x.setting.state) c.self.view_is in
    let happen = can-happen z.state c.args.settled c.requires.can in
    let stored = all-stored z.state.version events z.state refl (subst IsValid state c.self.invariant.0) happen c.requires.stored in
    subst AreShort (sym c.requires.texts) (texts-short z.state.version events (sessionless z.state) stored)

pub returns-in_err-prepare-clause-stores : goal.returns-in_err-prepare-clause-stores
returns-in_err-prepare-clause-stores g c =
    let stop = err_from_is_err_and c.from_residual.result c.from_residual.ensures.1 in
    let same = put-seen c.args.self.now c.self.inside.machine.state c.prepare.new.self.state c.self.inside.start c.self.inside.end c.self.inside.generation c.self.inside.end c.self.inside.slot c.self.inside.broken []
    c.self.view_is (ap (λ (m : Kept). m.state) c.in_err-prepare.ensures.err) refl in
    rw (stop.1 ∙ ap Err stop.2)
    (none-stored (g.met.D.Disk.lawful c.args.disk.now) refl (same, refl) refl)

pub returns-in-Ok-clause-stores : goal.returns-in-Ok-clause-stores
returns-in-Ok-clause-stores g c =
    let seen = g.D.Disk.seen in
    let old = seen c.args.disk.now in
    let new = seen c.append.new.disk in
    let z = c.args.self.now.setting in
    let events = settled_events c.args.settled in
    let size : c.self.inside.end ≡ z.end = ap (λ (x : Seen). x.setting.end) c.self.view_is in
    let state : c.self.inside.machine.state ≡ z.state = ap (λ (x : Seen). x.setting.state) c.self.view_is in
    let valid = subst IsValid state c.self.invariant.0 in
    let happen = can-happen c.args.self.now.setting.state c.args.settled c.requires.can in
    let stored = all-stored z.state.version events z.state refl valid happen c.requires.stored in
    let limit = c.store_limit-limit.ensures ∙ ap store_limit (c.version.ensures ∙ ap (λ (t : State). t.version) state) in
    let full = rw (size, limit) at c.in-Ok.ensures.full in
    let after = put-state c.self.inside.machine c.prepare.new.self c.commit.new.self events c.in_ok-prepare.ensures.ok c.commit.ensures in
    let is = put-seen c.args.self.now c.self.inside.machine.state c.commit.new.self.state c.self.inside.start c.self.inside.end c.self.inside.generation c.in-Ok.end c.self.inside.slot c.self.inside.broken events
    c.self.view_is after
    (c.in-Ok.ensures.end ∙ end-is z.state.version c.args.payloads.now events c.self.inside.end c.requires.texts ∙ ap (λ (t : State). end_behind t.version c.self.inside.end events) (sym state)) in
    record {
      ends = record {
        room = has-room c.args.payloads.now events z c.requires.texts (λ past. let never = full.1 past in cc);
        store = is;
        written =
            subst (λ (l : List (List ℕ)). Written old.contents c.args.self.now.setting.end (log_of l) new.contents) c.requires.texts
            (rw size at c.in-Ok.ensures.written);
        settled = c.in-Ok.ensures.settled;
        place = (
          c.in-Ok.ensures.gate,
          subst (λ (root : Root). IfSome new.contents (HasRoot root)) (ap root_by (sym c.self.view_is))
              (put-root old new c.args.self.now (log_of (contents_of c.args.payloads.now))
              (subst (λ (x : Seen). x.setting.start ≤ x.setting.end) c.self.view_is c.self.invariant.1) c.requires.place
              (rw size at c.in-Ok.ensures.written)),
        );
      };
      stands = λ stands.
          subst (λ (x : Seen). Stands new x.setting) (sym is)
          (put-stands old new z events c.args.payloads.now
          (g.met.D.Disk.lawful c.args.disk.now) c.requires.texts stored (stored-leads events z.state valid happen c.requires.stored)
          (rw size at c.in-Ok.ensures.written) c.in-Ok.ensures.settled stands);
      moments =
          put-moments old new z events c.args.payloads.now c.requires.texts stored
          (rw size at c.append.ensures.any_moment);
      names = c.append.ensures.attached;
      reported = c.in-Ok.ensures.faults;
    }

pub returns-in-Err-Disk-clause-stores : goal.returns-in-Err-Disk-clause-stores
returns-in-Err-Disk-clause-stores g c =
    let seen = g.D.Disk.seen in
    let old = seen c.args.disk.now in
    let new = seen c.append.new.disk in
    let z = c.args.self.now.setting in
    let events = settled_events c.args.settled in
    let size : c.self.inside.end ≡ z.end = ap (λ (x : Seen). x.setting.end) c.self.view_is in
    let state : c.self.inside.machine.state ≡ z.state = ap (λ (x : Seen). x.setting.state) c.self.view_is in
    let valid = subst IsValid state c.self.invariant.0 in
    let happen = can-happen c.args.self.now.setting.state c.args.settled c.requires.can in
    let stored = all-stored z.state.version events z.state refl valid happen c.requires.stored in
    let limit = c.store_limit-limit.ensures ∙ ap store_limit (c.version.ensures ∙ ap (λ (t : State). t.version) state) in
    let full = rw (size, limit) at c.append.ensures.full in
    let failed = c.in-Err-Disk.is ∙ ap (λ f. Err f) c.in-Err-Disk.field-0-is in
    let same = put-seen c.args.self.now c.self.inside.machine.state c.prepare.new.self.state c.self.inside.start c.self.inside.end c.self.inside.generation c.self.inside.end c.self.inside.slot c.self.inside.broken []
    c.self.view_is (ap (λ (m : Kept). m.state) c.in_ok-prepare.ensures.ok) refl in
    record {
      ends = (
        has-room c.args.payloads.now events z c.requires.texts (λ past. let full_now = sym failed ∙ full.1 past in cc),
        ap (λ (x : Seen). record x { broken = true }) same,
      );
      stands = λ _. tt;
      moments =
          put-moments old new z events c.args.payloads.now c.requires.texts stored
          (rw size at c.append.ensures.any_moment);
      names = c.append.ensures.attached;
      reported = rw failed at c.append.ensures.faults;
    }

pub returns-in-Err-Full-clause-stores : goal.returns-in-Err-Full-clause-stores
returns-in-Err-Full-clause-stores g c =
    let z = c.args.self.now.setting in
    let events = settled_events c.args.settled in
    let size : c.self.inside.end ≡ z.end = ap (λ (x : Seen). x.setting.end) c.self.view_is in
    let limit = c.store_limit-limit.ensures ∙ ap store_limit (c.version.ensures ∙ ap (λ (x : Seen). x.setting.state.version) c.self.view_is) in
    let full = rw (size, limit) at c.append.ensures.full in
    let failed = c.in-Err-Full.is ∙ ap (λ f. Err f) c.in-Err-Full.field-0-is in
    let quiet = c.append.ensures.unwritten (inl failed) in
    let same = put-seen c.args.self.now c.self.inside.machine.state c.prepare.new.self.state c.self.inside.start c.self.inside.end c.self.inside.generation c.self.inside.end c.self.inside.slot c.self.inside.broken []
    c.self.view_is (ap (λ (m : Kept). m.state) c.in_ok-prepare.ensures.ok) refl in
    none-stored (g.met.D.Disk.lawful c.args.disk.now) quiet
    (no-room c.args.payloads.now events z c.requires.some c.requires.texts (full.0 failed), (same, quiet)) refl

pub returns-in-Err-Memory-clause-stores : goal.returns-in-Err-Memory-clause-stores
returns-in-Err-Memory-clause-stores g c =
    let quiet = c.append.ensures.unwritten (inr (c.in-Err-Memory.is ∙ ap (λ f. Err f) c.in-Err-Memory.field-0-is)) in
    let same = put-seen c.args.self.now c.self.inside.machine.state c.prepare.new.self.state c.self.inside.start c.self.inside.end c.self.inside.generation c.self.inside.end c.self.inside.slot c.self.inside.broken []
    c.self.view_is (ap (λ (m : Kept). m.state) c.in_ok-prepare.ensures.ok) refl in
    none-stored (g.met.D.Disk.lawful c.args.disk.now) quiet (same, quiet) refl

pub returns-in_err-prepare-clause-probes : goal.returns-in_err-prepare-clause-probes
returns-in_err-prepare-clause-probes g c = rw (ap (λ (x : Seen). x.setting.state) c.self.view_is) at c.prepare.ensures.probes

pub returns-in-Ok-clause-probes : goal.returns-in-Ok-clause-probes
returns-in-Ok-clause-probes g c = rw (ap (λ (x : Seen). x.setting.state) c.self.view_is) at c.prepare.ensures.probes

pub returns-in-Err-Disk-clause-probes : goal.returns-in-Err-Disk-clause-probes
returns-in-Err-Disk-clause-probes g c = rw (ap (λ (x : Seen). x.setting.state) c.self.view_is) at c.prepare.ensures.probes

pub returns-in-Err-Full-clause-probes : goal.returns-in-Err-Full-clause-probes
returns-in-Err-Full-clause-probes g c = rw (ap (λ (x : Seen). x.setting.state) c.self.view_is) at c.prepare.ensures.probes

pub returns-in-Err-Memory-clause-probes : goal.returns-in-Err-Memory-clause-probes
returns-in-Err-Memory-clause-probes g c = rw (ap (λ (x : Seen). x.setting.state) c.self.view_is) at c.prepare.ensures.probes
