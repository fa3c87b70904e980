use Rattle.std.proofs.Common.{◌∙◌, ap, refl, sym, arith, rules, true≢false, ◌≤◌, ◌+◌}
use Rattle.std.specs.Prelude.{⊤, is_some}
use Rattle.hac_top.specs.Run.{outside}
use Rattle.command_line.specs.Words.{asked_of}
use Rattle.hac_top.proofs.MakingLemmas.{made-ends, made-unopened, makes-opened}
use Rattle.hac_top.proofs.OpenedLemmas.{ran-opened, ran-unopened}
use Rattle.hac_top.proofs.SourceLemmas.{takes-none}
use Rattle.hac_top.proofs.UnattachedLemmas.{opened-attached, opened-own, unopened-attached, unopened-own}
use Rattle.hac_top.proofs.UnopenedLemmas.{opened-instead, unopened-within}
use Rattle.hac_top.proofs.running.run_store.Goals as goal

pub returns-in-None-clause-own : goal.returns-in-None-clause-own
returns-in-None-clause-own g c = opened-own c.play_store.result c.play_store.ensures.opened

pub returns-in-None-clause-ran : goal.returns-in-None-clause-ran
returns-in-None-clause-ran g c =
    let old = g.D.Disk.seen c.args.disk.now in
    let before = outside (g.S.Source.seen c.args.input.now) (g.K.Sink.seen c.args.output.now) c.open_store.new.probes in
    let after = outside (g.S.Source.seen c.play_store.new.input) (g.K.Sink.seen c.play_store.new.output) c.play_store.new.probes in
    λ _. ran-opened c.args.options.now.fresh c.args.options.now.tick old (g.D.Disk.seen c.open_store.new.disk) (g.D.Disk.seen c.play_store.new.disk) (g.met.D.Disk.lawful c.play_store.new.disk) c.in-Ok.store.setting before after c.args.probes.now
    (g.P.Spaces.seen c.args.spaces.now) (g.P.Spaces.seen c.play_store.new.spaces) c.play_store.result c.play_store.ensures c.in-Ok.ensures.faults c.open_store.ensures.still old.contents c.in-Ok.ensures.opened c.open_store.ensures.probes c.in-Ok.ensures.stands c.in-Ok.ensures.any_moment

pub returns-in-None-clause-takes : goal.returns-in-None-clause-takes
returns-in-None-clause-takes g c = λ _. c.play_store.ensures.takes

pub returns-in-Err-clause-takes : goal.returns-in-Err-clause-takes
returns-in-Err-clause-takes g c = λ _. takes-none c.in-Err.status (g.S.Source.seen c.args.input.now).left c.in-Err.ensures.stops

pub returns-in-Some-clause-takes : goal.returns-in-Some-clause-takes
returns-in-Some-clause-takes g c = λ reads. absurd (true≢false (ap is_some (sym c.in-Some.is ∙ reads)))

pub returns-in-None-clause-attached : goal.returns-in-None-clause-attached
returns-in-None-clause-attached g c =
    rw c.play_store.ensures.names
    (opened-attached c.play_store.result (g.D.Disk.seen c.args.disk.now).attached (asked_of c.args.options.now) (g.D.Disk.seen c.open_store.new.disk).attached c.play_store.ensures.opened (c.in-Ok.ensures.attaches (λ never. cc)))

pub returns-in-Err-clause-own : goal.returns-in-Err-clause-own
returns-in-Err-clause-own g c = unopened-own c.in-Err.status c.in-Err.ensures.stops

pub returns-in-Err-clause-ran : goal.returns-in-Err-clause-ran
returns-in-Err-clause-ran g c =
    let before = outside (g.S.Source.seen c.args.input.now) (g.K.Sink.seen c.args.output.now) c.args.probes.now in
    λ _. ran-unopened (asked_of c.args.options.now) (g.D.Disk.seen c.args.disk.now) (g.D.Disk.seen c.open_store.new.disk) (g.met.D.Disk.lawful c.open_store.new.disk) c.open_store.ensures.still before c.open_store.new.probes (g.P.Spaces.seen c.args.spaces.now)
    (λ given setting script. ⊤) (λ given setting script. tt) c.in-Err.status c.in-Err.ensures.stops c.in-Err.ensures.faults c.in-Err.ensures.opened c.open_store.ensures.probes c.in-Err.ensures.any_moment

pub returns-in-Err-clause-attached : goal.returns-in-Err-clause-attached
returns-in-Err-clause-attached g c =
    unopened-attached c.in-Err.status (g.D.Disk.seen c.args.disk.now).attached (asked_of c.args.options.now) (g.D.Disk.seen c.open_store.new.disk).attached c.in-Err.ensures.stops c.in-Err.ensures.attached
    (λ other. c.in-Err.ensures.attaches (λ same. other (cc)))

pub returns-in-None-clause-spaces : goal.returns-in-None-clause-spaces
returns-in-None-clause-spaces g c = c.play_store.ensures.asked.stay

pub returns-in-Err-clause-spaces : goal.returns-in-Err-clause-spaces
returns-in-Err-clause-spaces g c = record { attached = refl; contents = refl; later = omega arith }

-- a script is made
pub returns-in-Some-clause-own : goal.returns-in-Some-clause-own
returns-in-Some-clause-own g c = opened-own c.make_store.result c.make_store.ensures.opened

pub returns-in-Some-clause-ran : goal.returns-in-Some-clause-ran
returns-in-Some-clause-ran g c = λ reads. absurd (true≢false (ap is_some (sym c.in-Some.is ∙ reads)))

pub returns-in-Some-clause-made : goal.returns-in-Some-clause-made
returns-in-Some-clause-made g c =
    let source = g.S.Source.seen c.args.input.now in
    rw c.in-Some.is
    (makes-opened (asked_of c.args.options.now) (g.D.Disk.seen c.args.disk.now) (g.D.Disk.seen c.open_store.new.disk) (g.D.Disk.seen c.make_store.new.disk) (g.met.D.Disk.lawful c.make_store.new.disk) c.in-Ok.store.setting
    (outside source (g.K.Sink.seen c.args.output.now) c.args.probes.now) (outside source (g.K.Sink.seen c.make_store.new.output) c.make_store.new.probes) (g.P.Spaces.seen c.args.spaces.now) (g.P.Spaces.seen c.make_store.new.spaces) c.make_store.result c.in-Some.number c.open_store.new.probes
    c.make_store.ensures c.in-Ok.ensures.faults c.open_store.ensures.still refl c.in-Ok.ensures.opened c.open_store.ensures.probes c.in-Ok.ensures.stands c.in-Ok.ensures.any_moment)

pub returns-in-Some-clause-attached : goal.returns-in-Some-clause-attached
returns-in-Some-clause-attached g c =
    rw c.make_store.ensures.plays.names
    (opened-attached c.make_store.result (g.D.Disk.seen c.args.disk.now).attached (asked_of c.args.options.now) (g.D.Disk.seen c.open_store.new.disk).attached c.make_store.ensures.opened (c.in-Ok.ensures.attaches (λ never. cc)))

pub returns-in-Some-clause-spaces : goal.returns-in-Some-clause-spaces
returns-in-Some-clause-spaces g c = c.make_store.ensures.plays.asked.stay

pub returns-in-Some-clause-ends : goal.returns-in-Some-clause-ends
returns-in-Some-clause-ends g c = made-ends (outside (g.S.Source.seen c.args.input.now) (g.K.Sink.seen c.args.output.now) c.args.probes.now) (g.K.Sink.seen c.make_store.new.output) c.make_store.ensures

pub returns-in-None-clause-made : goal.returns-in-None-clause-made
returns-in-None-clause-made g c = rw c.in-None.is (search rules)

-- no store was opened
pub returns-in-Err-clause-made : goal.returns-in-Err-clause-made
returns-in-Err-clause-made g c =
    made-unopened (asked_of c.args.options.now) (g.D.Disk.seen c.args.disk.now) (g.D.Disk.seen c.open_store.new.disk) (g.met.D.Disk.lawful c.open_store.new.disk) c.open_store.ensures.still
    (outside (g.S.Source.seen c.args.input.now) (g.K.Sink.seen c.args.output.now) c.args.probes.now) c.open_store.new.probes (g.P.Spaces.seen c.args.spaces.now) c.in-Err.status c.in-Err.ensures.stops c.in-Err.ensures.faults c.in-Err.ensures.opened c.open_store.ensures.probes c.in-Err.ensures.any_moment c.args.options.now.make

-- no store is opened, or one is
pub returns-in-Err-clause-unopened_asks : goal.returns-in-Err-clause-unopened_asks
returns-in-Err-clause-unopened_asks g c = unopened-within c.args.options.now.fresh (g.D.Disk.seen c.args.disk.now).contents c.args.probes.now c.open_store.new.probes c.open_store.ensures.probes

pub returns-in-None-clause-unopened_asks : goal.returns-in-None-clause-unopened_asks
returns-in-None-clause-unopened_asks g c = opened-instead c.args.options.now.fresh (g.D.Disk.seen c.args.disk.now).contents c.in-Ok.store.setting (λ opening. c.play_store.new.probes ≤ c.args.probes.now + opening) c.in-Ok.ensures.opened

pub returns-in-Some-clause-unopened_asks : goal.returns-in-Some-clause-unopened_asks
returns-in-Some-clause-unopened_asks g c = opened-instead c.args.options.now.fresh (g.D.Disk.seen c.args.disk.now).contents c.in-Ok.store.setting (λ opening. c.make_store.new.probes ≤ c.args.probes.now + opening) c.in-Ok.ensures.opened
