use Rattle.std.proofs.Common.{◌≡◌, ℕ, ◌+◌, ◌≤◌, List, subst, sym, inr, true≢false, ◌∙◌}
use Rattle.std.specs.Prelude.{Err, IfOk, IsErr, IsOk, OnOk, Option}
use Rattle.std.specs.Option.{IfSome}
use Rattle.hac_disk.specs.Images.{IsQuiet}
use Rattle.hac_disk.proofs.Moments.{quiet_twice}
use Rattle.hac_model.specs.Run.Play.{Setting, new_setting}
use Rattle.hac_store.specs.Held.{held}
use Rattle.hac_store.specs.Loading.{loading}
use Rattle.hac_store.proofs.LoadLemmas.{loaded-none}
use Rattle.hac_store.specs.Stores as store
use Rattle.hac_store.specs.declared.fault.StoreFault.TheVariants as fault
use Rattle.hac_store.specs.Stores.{Stands}
use Rattle.command_line.specs.Words.{asked_of}
use Rattle.hac_top.proofs.OpenedLemmas.{opens-attached, opens-new, opens-quiet}
use Rattle.hac_top.proofs.OpeningLemmas.{attach-then, loaded-opened, loaded-quiet, loaded-stands, loaded-usable, made-opened, made-quiet, made-stands, made-usable, opened-faults, where-fine}
use Rattle.hac_top.proofs.opening.open_store.Goals as goal

pub returns-then-is_err-clause-any_moment : goal.returns-then-is_err-clause-any_moment
returns-then-is_err-clause-any_moment g c =
    opens-quiet c.args.options.now.fresh (g.D.Disk.seen c.args.disk.now) (g.D.Disk.seen c.attach.new.self) (g.met.D.Disk.lawful c.args.disk.now) c.attach.ensures.quiet

pub returns-then-options-clause-any_moment : goal.returns-then-options-clause-any_moment
returns-then-options-clause-any_moment g c =
    let mid = g.D.Disk.seen c.attach.new.self in
    opens-attached c.args.options.now.fresh (g.D.Disk.seen c.args.disk.now) mid (g.D.Disk.seen c.create.new.disk) (g.met.D.Disk.lawful c.args.disk.now) c.attach.ensures.quiet
    (rw c.if-options.true (opens-new mid (g.D.Disk.seen c.create.new.disk) c.create.ensures.any_moment))

pub returns-else-options-clause-any_moment : goal.returns-else-options-clause-any_moment
returns-else-options-clause-any_moment g c =
    let mid = g.D.Disk.seen c.attach.new.self in
    opens-attached c.args.options.now.fresh (g.D.Disk.seen c.args.disk.now) mid (g.D.Disk.seen c.load.new.disk) (g.met.D.Disk.lawful c.args.disk.now) c.attach.ensures.quiet
    (opens-quiet c.args.options.now.fresh mid (g.D.Disk.seen c.load.new.disk) (g.met.D.Disk.lawful c.attach.new.self) c.load.ensures.loads.quiet)

pub returns-then-options-clause-opened : goal.returns-then-options-clause-opened
returns-then-options-clause-opened g c =
    made-opened (g.D.Disk.seen c.args.disk.now).contents c.args.options.now.fresh c.create.result c.opening_result.result c.opening_result.ensures c.if-options.true c.create.ensures.creates.store
    (subst (λ (told : Option (List ℕ)). IfSome told (λ file. OnOk c.create.result (IsErr (held file)))) c.attach.ensures.quiet.same c.create.ensures.new)
    (subst (λ (told : Option (List ℕ)). IfSome told (λ file. c.create.result ≡ Err fault.AlreadyStore → IsOk (held file))) c.attach.ensures.quiet.same c.create.ensures.already)
    c.create.ensures.creates.kind

pub returns-then-options-clause-stands : goal.returns-then-options-clause-stands
returns-then-options-clause-stands g c =
    let P : Setting → Type 0 = λ setting. Stands (g.D.Disk.seen c.create.new.disk) setting in
    made-stands P (g.D.Disk.seen c.args.disk.now).contents c.create.result c.opening_result.result c.opening_result.ensures c.create.ensures.creates.store
    (subst (λ (told : Option (List ℕ)). IfSome told (λ file. OnOk c.create.result (P new_setting))) c.attach.ensures.quiet.same c.create.ensures.creates.stands)

pub returns-then-options-clause-quiet : goal.returns-then-options-clause-quiet
returns-then-options-clause-quiet g c =
    let mid = g.D.Disk.seen c.attach.new.self in
    made-quiet (g.D.Disk.seen c.args.disk.now).contents c.args.options.now.fresh (g.D.Disk.seen c.args.disk.now) mid (g.D.Disk.seen c.create.new.disk) c.attach.ensures.quiet c.if-options.true
    (subst (λ (told : Option (List ℕ)). IfSome told (λ file. IsOk (held file) → IsQuiet mid (g.D.Disk.seen c.create.new.disk))) c.attach.ensures.quiet.same c.create.ensures.quiet)

pub returns-then-is_err-clause-still : goal.returns-then-is_err-clause-still
returns-then-is_err-clause-still g c = λ _. c.attach.ensures.quiet

pub returns-then-options-clause-still : goal.returns-then-options-clause-still
returns-then-options-clause-still g c = λ kept. absurd (true≢false (sym c.if-options.true ∙ kept))

pub returns-else-options-clause-still : goal.returns-else-options-clause-still
returns-else-options-clause-still g c = λ _.
    quiet_twice (g.D.Disk.seen c.args.disk.now) (g.D.Disk.seen c.attach.new.self) (g.D.Disk.seen c.load.new.disk) c.attach.ensures.quiet c.load.ensures.loads.quiet

pub returns-then-options-clause-attached : goal.returns-then-options-clause-attached
returns-then-options-clause-attached g c =
    inr (attach-then (g.D.Disk.seen c.args.disk.now).attached (g.D.Disk.seen c.attach.new.self).attached (g.D.Disk.seen c.create.new.disk).attached (asked_of c.args.options.now) c.attach.result c.attach.ensures.attached (sym c.is_err.ensures.value ∙ c.if-is_err.false) c.create.ensures.creates.names)

pub returns-then-options-clause-attaches : goal.returns-then-options-clause-attaches
returns-then-options-clause-attaches g c = λ fine.
    attach-then (g.D.Disk.seen c.args.disk.now).attached (g.D.Disk.seen c.attach.new.self).attached (g.D.Disk.seen c.create.new.disk).attached (asked_of c.args.options.now) c.attach.result c.attach.ensures.attached (sym c.is_err.ensures.value ∙ c.if-is_err.false) c.create.ensures.creates.names

pub returns-then-options-clause-faults : goal.returns-then-options-clause-faults
returns-then-options-clause-faults g c =
    opened-faults c.create.result c.opening_result.result (g.D.Disk.seen c.args.disk.now).faults (g.D.Disk.seen c.attach.new.self).faults (g.D.Disk.seen c.create.new.disk).faults c.opening_result.ensures c.create.ensures.creates.reported
    (where-fine _ c.attach.result (sym c.is_err.ensures.value ∙ c.if-is_err.false) c.attach.ensures.cause.none)

pub returns-else-options-clause-opened : goal.returns-else-options-clause-opened
returns-else-options-clause-opened g c =
    loaded-opened (g.D.Disk.seen c.args.disk.now).contents c.args.options.now.fresh c.load.result c.opening_result-else-options.result c.opening_result-else-options.ensures c.if-options.false
    (subst (λ (told : Option (List ℕ)). IfSome told (λ file. store.Opens c.load.result (held file))) c.attach.ensures.quiet.same c.load.ensures.loads.state) c.load.ensures.loads.kind

pub returns-else-options-clause-stands : goal.returns-else-options-clause-stands
returns-else-options-clause-stands g c =
    let P : Setting → Type 0 = λ setting. Stands (g.D.Disk.seen c.load.new.disk) setting in
    loaded-stands P (g.D.Disk.seen c.args.disk.now).contents c.load.result c.opening_result-else-options.result c.opening_result-else-options.ensures
    (subst (λ (told : Option (List ℕ)). IfSome told (λ file. IfOk c.load.result (λ opened. P opened.setting))) c.attach.ensures.quiet.same c.load.ensures.stands)

pub returns-else-options-clause-quiet : goal.returns-else-options-clause-quiet
returns-else-options-clause-quiet g c =
    loaded-quiet (g.D.Disk.seen c.args.disk.now).contents c.args.options.now.fresh (g.D.Disk.seen c.args.disk.now) (g.D.Disk.seen c.load.new.disk)
    (quiet_twice (g.D.Disk.seen c.args.disk.now) (g.D.Disk.seen c.attach.new.self) (g.D.Disk.seen c.load.new.disk) c.attach.ensures.quiet c.load.ensures.loads.quiet)

pub returns-else-options-clause-attached : goal.returns-else-options-clause-attached
returns-else-options-clause-attached g c =
    inr (attach-then (g.D.Disk.seen c.args.disk.now).attached (g.D.Disk.seen c.attach.new.self).attached (g.D.Disk.seen c.load.new.disk).attached (asked_of c.args.options.now) c.attach.result c.attach.ensures.attached (sym c.is_err.ensures.value ∙ c.if-is_err.false) c.load.ensures.loads.names)

pub returns-else-options-clause-attaches : goal.returns-else-options-clause-attaches
returns-else-options-clause-attaches g c = λ fine.
    attach-then (g.D.Disk.seen c.args.disk.now).attached (g.D.Disk.seen c.attach.new.self).attached (g.D.Disk.seen c.load.new.disk).attached (asked_of c.args.options.now) c.attach.result c.attach.ensures.attached (sym c.is_err.ensures.value ∙ c.if-is_err.false) c.load.ensures.loads.names

pub returns-else-options-clause-faults : goal.returns-else-options-clause-faults
returns-else-options-clause-faults g c =
    opened-faults c.load.result c.opening_result-else-options.result (g.D.Disk.seen c.args.disk.now).faults (g.D.Disk.seen c.attach.new.self).faults (g.D.Disk.seen c.load.new.disk).faults c.opening_result-else-options.ensures c.load.ensures.loads.reported
    (where-fine _ c.attach.result (sym c.is_err.ensures.value ∙ c.if-is_err.false) c.attach.ensures.cause.none)

pub returns-then-options-clause-probes : goal.returns-then-options-clause-probes
returns-then-options-clause-probes g c =
    subst (λ (told : Option (List ℕ)). IfSome told (λ file. c.create.new.probes ≤ c.args.probes.now + loading file)) c.attach.ensures.quiet.same c.create.ensures.probes

pub returns-else-options-clause-probes : goal.returns-else-options-clause-probes
returns-else-options-clause-probes g c =
    subst (λ (told : Option (List ℕ)). IfSome told (λ file. c.load.new.probes ≤ c.args.probes.now + loading file)) c.attach.ensures.quiet.same c.load.ensures.loads.asked

pub returns-then-is_err-clause-probes : goal.returns-then-is_err-clause-probes
returns-then-is_err-clause-probes g c = loaded-none (g.D.Disk.seen c.args.disk.now).contents c.args.probes.now

pub returns-then-options-clause-usable : goal.returns-then-options-clause-usable
returns-then-options-clause-usable g c = made-usable (g.D.Disk.seen c.create.new.disk) c.create.result c.opening_result.result c.opening_result.ensures c.create.ensures.creates.store c.create.ensures.creates.place

pub returns-else-options-clause-usable : goal.returns-else-options-clause-usable
returns-else-options-clause-usable g c = loaded-usable (g.D.Disk.seen c.load.new.disk) c.load.result c.opening_result-else-options.result c.opening_result-else-options.ensures c.load.ensures.sound c.load.ensures.loads.place
