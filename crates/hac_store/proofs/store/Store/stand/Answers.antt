use Rattle.std.proofs.Common.{◌≡◌, [], ◌∷◌, Err, ap, arith, refl, subst, sym, ◌∙◌}
use Rattle.std.proofs.lemmas.Result.{err_from_is_err_and}
use Rattle.hac_model.specs.Laws.{AllHappen}
use Rattle.hac_model.specs.Tree.Valid.{IsValid}
use Rattle.hac_model.proofs.EventLemmas.{all-valid}
use Rattle.hac_core.specs.Seen.{Seen as Kept}
use Rattle.hac_store.specs.Stores.{Seen}
use Rattle.hac_store.proofs.CostLemmas.{session-free}
use Rattle.hac_store.proofs.PutLemmas.{put-seen, put-state, stood-seen}
use Rattle.hac_store.proofs.store.Store.stand.Goals as goal

pub invariant_of-self-2 : goal.invariant_of-self-2
invariant_of-self-2 g c =
    let events = c.args.event ∷ [] in
    let s = c.self.inside.machine.state in
    let state : c.args.self.now.setting.state ≡ s = ap (λ (x : Seen). x.setting.state) (sym c.self.view_is) in
    let after = put-state c.self.inside.machine c.prepare.new.self c.commit.new.self events c.in_ok-prepare.ensures.ok c.commit.ensures in
    let happen = subst (λ t. AllHappen t events) state c.requires.can.0 in
    (subst IsValid (sym after) (all-valid events s c.self.invariant.0 happen), c.self.invariant.1)

pub returns-clause-moved : goal.returns-clause-moved
returns-clause-moved g c =
    let after = put-state c.self.inside.machine c.prepare.new.self c.commit.new.self (c.args.event ∷ []) c.in_ok-prepare.ensures.ok c.commit.ensures in
    stood-seen c.args.self.now c.self.inside.machine.state c.commit.new.self.state c.self.inside.start c.self.inside.end c.self.inside.generation c.self.inside.slot c.self.inside.broken c.args.event
    c.self.view_is after

pub returns-in_err-prepare-clause-stayed : goal.returns-in_err-prepare-clause-stayed
returns-in_err-prepare-clause-stayed g c =
    let stop = err_from_is_err_and c.from_residual.result c.from_residual.ensures.1 in
    rw (stop.1 ∙ ap Err stop.2)
    (put-seen c.args.self.now c.self.inside.machine.state c.prepare.new.self.state c.self.inside.start c.self.inside.end c.self.inside.generation c.self.inside.end c.self.inside.slot c.self.inside.broken []
    c.self.view_is (ap (λ (m : Kept). m.state) c.in_err-prepare.ensures.err) refl)

pub returns-clause-probes : goal.returns-clause-probes
returns-clause-probes g c = omega (arith, c.prepare.ensures.probes, session-free c.self.inside.machine.state c.args.event c.requires.can.1)

pub returns-in_err-prepare-clause-probes : goal.returns-in_err-prepare-clause-probes
returns-in_err-prepare-clause-probes g c = omega (arith, c.prepare.ensures.probes, session-free c.self.inside.machine.state c.args.event c.requires.can.1)
