use Rattle.std.proofs.Common.{◌≡◌, ◌∙◌, ℕ, ◌+◌, ap, refl, sym, subst}
use Rattle.hac_top.specs.Spaces.{StopsAttaching, attach_status}
use Rattle.command_line.specs.Words.{spaces_asked}
use Rattle.hac_top.specs.declared.status.Status.{Status}
use Rattle.hac_top.proofs.AttachLemmas.{attach-stops, attached-next, attached-none, unattached}
use Rattle.hac_top.proofs.attaching.attach_spaces.Goals as goal

pub loop-space-init : goal.loop-space-init
loop-space-init g c = record {
  which_is = refl;
  attached = attached-none (g.P.Spaces.seen c.args.spaces.now);
}

pub attach-requires : goal.attach-requires
attach-requires g c =
    let seen = g.P.Spaces.seen in
    unattached c.args.files.now c.loop-space.space-index c.space-item.result c.loop-space-test.true c.space-item.is c.requires.differ (seen c.args.spaces.now) (seen c.loop-space.spaces) c.requires.none c.loop-space.invariant.attached

pub returns-in-Err-clause-err : goal.returns-in-Err-clause-err
returns-in-Err-clause-err g c =
    let seen = g.P.Spaces.seen in
    let stops =
    attach-stops c.args.files.now c.loop-space.space-index c.space-item.result c.loop-space-test.true c.space-item.is (seen c.args.spaces.now) (seen c.loop-space.spaces) (seen c.attach.new.self) c.loop-space.invariant.attached
    c.attach.result c.in-Err.fault c.in-Err.is c.attach.ensures.attached c.attach.ensures.contents c.attach.ensures.cause in
    let status_is : attach_status (c.loop-space.space-index + 1) c.in-Err.fault ≡ c.attach_status.result =
    sym (c.attach_status.ensures ∙ ap (λ (n : ℕ). attach_status (n + 1) c.in-Err.fault) c.loop-space.invariant.which_is) in
    subst (λ (status : Status). StopsAttaching (spaces_asked c.args.files.now) (seen c.args.spaces.now) (seen c.attach.new.self) status) status_is stops

pub loop-space-preserved : goal.loop-space-preserved
loop-space-preserved g c =
    let seen = g.P.Spaces.seen in
    record {
      which_is = ap (λ (n : ℕ). n + 1) c.loop-space.invariant.which_is;
      attached = attached-next c.args.files.now c.loop-space.space-index c.space-item.result c.loop-space-test.true c.space-item.is (seen c.args.spaces.now) (seen c.loop-space.spaces) (seen c.attach.new.self) c.loop-space.invariant.attached
          c.attach.result c.in_default.not-Err c.attach.ensures.attached c.attach.ensures.contents c.attach.ensures.cause;
    }
