use Rattle.std.proofs.Common.{refl, subst, map, string_bytes}
use Rattle.std.specs.Prelude.{⊤}
use Rattle.hac_model.specs.Script.CommandLine.{options}
use Rattle.hac_top.specs.Ends.{IsStoreStatus}
use Rattle.hac_top.specs.Run.{outside}
use Rattle.hac_top.specs.Spaces.{CanAttach, HasAttached, StopsAttaching}
use Rattle.command_line.specs.Words.{asked_of, spaces_asked}
use Rattle.command_line.proofs.WordNames.{asked-differ}
use Rattle.hac_top.proofs.AttachLemmas.{not-bad}
use Rattle.hac_top.proofs.MakingLemmas.{made-given, made-unattached, memory-made}
use Rattle.hac_top.proofs.UnattachedLemmas.{is-unattached, memory-attached, memory-quiet, memory-ran, memory-spaces, memory-takes, own-spaces, ran-given, ran-unattached, stopped-later, stopped-spaces, unattached-disk, unattached-ends, unattached-file, unattached-names, unattached-quiet, unattached-takes, unattached-usage}
use Rattle.hac_top.proofs.UnopenedLemmas.{unopened-early, unopened-still}
use Rattle.hac_top.proofs.running.run.Goals as goal

pub attach_spaces-requires-clause-differ : goal.attach_spaces-requires-clause-differ
attach_spaces-requires-clause-differ g c = rw c.deref.ensures.value (asked-differ (map string_bytes c.args.words.now) (asked_of c.in-Ok.options) c.in-Ok.ensures.read)

-- memory ran out before any space was attached
pub returns-in-Err-Memory-clause-spaces : goal.returns-in-Err-Memory-clause-spaces
returns-in-Err-Memory-clause-spaces g c = memory-spaces (options (map string_bytes c.args.words.now)) (g.P.Spaces.seen c.args.spaces.now) _ (refl, refl, refl, refl)

pub returns-in-Err-Memory-clause-ran : goal.returns-in-Err-Memory-clause-ran
returns-in-Err-Memory-clause-ran g c =
    let before = outside (g.S.Source.seen c.args.input.now) (g.K.Sink.seen c.args.output.now) c.args.probes.now in
    let spaces = g.P.Spaces.seen c.args.spaces.now in
    memory-ran
    (λ asked. CanAttach asked.spaces spaces spaces) (options (map string_bytes c.args.words.now)) (g.D.Disk.seen c.args.disk.now) (g.met.D.Disk.lawful c.args.disk.now) before spaces

pub returns-in-Err-Memory-clause-unopened : goal.returns-in-Err-Memory-clause-unopened
returns-in-Err-Memory-clause-unopened g c =
    memory-quiet
    (options (map string_bytes c.args.words.now)) (g.D.Disk.seen c.args.disk.now) c.args.input.now c.args.output.now

pub returns-in-Err-Memory-clause-attached : goal.returns-in-Err-Memory-clause-attached
returns-in-Err-Memory-clause-attached g c = memory-attached (options (map string_bytes c.args.words.now)) (g.D.Disk.seen c.args.disk.now).attached

-- each space was attached, and the run went on to its store
pub returns-in-Ok-attach_spaces-clause-usage : goal.returns-in-Ok-attach_spaces-clause-usage
returns-in-Ok-attach_spaces-clause-usage g c = λ is. absurd (subst IsStoreStatus is c.run_store.ensures.own)

pub returns-in-Ok-attach_spaces-clause-spaces : goal.returns-in-Ok-attach_spaces-clause-spaces
returns-in-Ok-attach_spaces-clause-spaces g c =
    let seen = g.P.Spaces.seen in
    let old = seen c.args.spaces.now in
    let mid = seen c.attach_spaces.new.spaces in
    let new = seen c.run_store.new.spaces in
    let files = spaces_asked c.in-Ok.options.spaces.items in
    let has : HasAttached files old mid = rw c.deref.ensures.value at c.in-Ok-attach_spaces.ensures.ok in
    rw c.in-Ok.ensures.read (own-spaces c.run_store.result files old mid new _ c.run_store.ensures.own has c.run_store.ensures.spaces)

pub returns-in-Ok-attach_spaces-clause-ran : goal.returns-in-Ok-attach_spaces-clause-ran
returns-in-Ok-attach_spaces-clause-ran g c =
    let seen = g.P.Spaces.seen in
    let before = outside (g.S.Source.seen c.args.input.now) (g.K.Sink.seen c.args.output.now) c.args.probes.now in
    let after = outside (g.S.Source.seen c.run_store.new.input) (g.K.Sink.seen c.run_store.new.output) c.run_store.new.probes in
    let files = spaces_asked c.in-Ok.options.spaces.items in
    let has : HasAttached files (seen c.args.spaces.now) (seen c.attach_spaces.new.spaces) = rw c.deref.ensures.value at c.in-Ok-attach_spaces.ensures.ok in
    rw c.in-Ok.ensures.read
    (λ reads. ran-given (g.D.Disk.seen c.args.disk.now) (g.D.Disk.seen c.run_store.new.disk) (seen c.args.spaces.now) (seen c.attach_spaces.new.spaces) (seen c.run_store.new.spaces) has.faults (asked_of c.in-Ok.options)
    ⊤ (CanAttach files (seen c.args.spaces.now) (seen c.run_store.new.spaces)) (λ _. tt) before after c.run_store.result (λ given setting script. ⊤) (c.run_store.ensures.ran reads))

pub returns-in-Ok-attach_spaces-clause-unopened : goal.returns-in-Ok-attach_spaces-clause-unopened
returns-in-Ok-attach_spaces-clause-unopened g c = rw c.in-Ok.ensures.read c.run_store.ensures.unopened

pub returns-in-Ok-attach_spaces-clause-file : goal.returns-in-Ok-attach_spaces-clause-file
returns-in-Ok-attach_spaces-clause-file g c = rw c.in-Ok.ensures.read c.run_store.ensures.file

pub returns-in-Ok-attach_spaces-clause-attached : goal.returns-in-Ok-attach_spaces-clause-attached
returns-in-Ok-attach_spaces-clause-attached g c = rw c.in-Ok.ensures.read c.run_store.ensures.attached

-- a space couldn't be attached, and nothing else was done
pub returns-clause-usage : goal.returns-clause-usage
returns-clause-usage g c =
    let seen = g.P.Spaces.seen in
    λ is. absurd (unattached-usage c.in-Err.status (is-unattached _ (seen c.args.spaces.now) (seen c.attach_spaces.new.spaces) c.in-Err.status c.in-Err.ensures.err) is)

pub returns-clause-spaces : goal.returns-clause-spaces
returns-clause-spaces g c =
    let seen = g.P.Spaces.seen in
    let old = seen c.args.spaces.now in
    let new = seen c.attach_spaces.new.spaces in
    let files = spaces_asked c.in-Ok.options.spaces.items in
    let stops : StopsAttaching files old new c.in-Err.status = rw c.deref.ensures.value at c.in-Err.ensures.err in
    rw c.in-Ok.ensures.read (stopped-spaces c.in-Err.status files old new _ (refl, refl, refl, refl) stops)

pub returns-clause-ran : goal.returns-clause-ran
returns-clause-ran g c =
    let seen = g.P.Spaces.seen in
    let old = seen c.args.spaces.now in
    let new = seen c.attach_spaces.new.spaces in
    let files = spaces_asked c.in-Ok.options.spaces.items in
    let before = outside (g.S.Source.seen c.args.input.now) (g.K.Sink.seen c.args.output.now) c.args.probes.now in
    let stops : StopsAttaching files old new c.in-Err.status = rw c.deref.ensures.value at c.in-Err.ensures.err in
    rw c.in-Ok.ensures.read
    (λ _. ran-unattached (CanAttach files old new) c.in-Err.status (is-unattached files old new c.in-Err.status stops)
    (not-bad files old new c.in-Err.status stops) (asked_of c.in-Ok.options) (g.D.Disk.seen c.args.disk.now) (g.met.D.Disk.lawful c.args.disk.now) before old new (stopped-later files old new c.in-Err.status stops) (λ given setting script. ⊤) (λ given setting script. tt))

pub returns-clause-unopened : goal.returns-clause-unopened
returns-clause-unopened g c =
    let seen = g.P.Spaces.seen in
    rw c.in-Ok.ensures.read
    (unattached-quiet c.in-Err.status
    (is-unattached _ (seen c.args.spaces.now) (seen c.attach_spaces.new.spaces) c.in-Err.status c.in-Err.ensures.err) c.in-Ok.options.fresh (g.D.Disk.seen c.args.disk.now) c.args.input.now c.args.output.now (g.D.Disk.seen c.args.disk.now).contents)

pub returns-clause-file : goal.returns-clause-file
returns-clause-file g c =
    let seen = g.P.Spaces.seen in
    rw c.in-Ok.ensures.read
    (unattached-file c.in-Err.status (is-unattached _ (seen c.args.spaces.now) (seen c.attach_spaces.new.spaces) c.in-Err.status c.in-Err.ensures.err) c.in-Ok.options.fresh (g.D.Disk.seen c.args.disk.now).contents)

pub returns-clause-attached : goal.returns-clause-attached
returns-clause-attached g c =
    let seen = g.P.Spaces.seen in
    rw c.in-Ok.ensures.read
    (unattached-names c.in-Err.status (g.D.Disk.seen c.args.disk.now).attached (asked_of c.in-Ok.options) (is-unattached _ (seen c.args.spaces.now) (seen c.attach_spaces.new.spaces) c.in-Err.status c.in-Err.ensures.err))

pub returns-clause-ends : goal.returns-clause-ends
returns-clause-ends g c =
    let seen = g.P.Spaces.seen in
    unattached-ends c.in-Err.status (outside (g.S.Source.seen c.args.input.now) (g.K.Sink.seen c.args.output.now) c.args.probes.now) (is-unattached _ (seen c.args.spaces.now) (seen c.attach_spaces.new.spaces) c.in-Err.status c.in-Err.ensures.err)

pub returns-clause-disk_faults : goal.returns-clause-disk_faults
returns-clause-disk_faults g c =
    let seen = g.P.Spaces.seen in
    unattached-disk c.in-Err.status (g.D.Disk.seen c.args.disk.now).faults (is-unattached _ (seen c.args.spaces.now) (seen c.attach_spaces.new.spaces) c.in-Err.status c.in-Err.ensures.err)

-- what was taken of the source
pub returns-in-Err-Memory-clause-takes : goal.returns-in-Err-Memory-clause-takes
returns-in-Err-Memory-clause-takes g c = memory-takes (options (map string_bytes c.args.words.now)) (g.S.Source.seen c.args.input.now).left

pub returns-in-Ok-attach_spaces-clause-takes : goal.returns-in-Ok-attach_spaces-clause-takes
returns-in-Ok-attach_spaces-clause-takes g c = rw c.in-Ok.ensures.read c.run_store.ensures.takes

pub returns-clause-takes : goal.returns-clause-takes
returns-clause-takes g c =
    let seen = g.P.Spaces.seen in
    rw c.in-Ok.ensures.read
    (λ _. unattached-takes c.in-Err.status (g.S.Source.seen c.args.input.now).left (is-unattached _ (seen c.args.spaces.now) (seen c.attach_spaces.new.spaces) c.in-Err.status c.in-Err.ensures.err))

-- the same of a script that is made
pub returns-in-Err-Memory-clause-made : goal.returns-in-Err-Memory-clause-made
returns-in-Err-Memory-clause-made g c =
    let spaces = g.P.Spaces.seen c.args.spaces.now in
    memory-made
    (λ asked. CanAttach asked.spaces spaces spaces) (options (map string_bytes c.args.words.now)) (g.D.Disk.seen c.args.disk.now) (g.met.D.Disk.lawful c.args.disk.now)
    (outside (g.S.Source.seen c.args.input.now) (g.K.Sink.seen c.args.output.now) c.args.probes.now) spaces

pub returns-in-Ok-attach_spaces-clause-made : goal.returns-in-Ok-attach_spaces-clause-made
returns-in-Ok-attach_spaces-clause-made g c =
    let seen = g.P.Spaces.seen in
    let files = spaces_asked c.in-Ok.options.spaces.items in
    let has : HasAttached files (seen c.args.spaces.now) (seen c.attach_spaces.new.spaces) = rw c.deref.ensures.value at c.in-Ok-attach_spaces.ensures.ok in
    rw c.in-Ok.ensures.read
    (made-given (asked_of c.in-Ok.options) (g.D.Disk.seen c.args.disk.now) (g.D.Disk.seen c.run_store.new.disk)
    (outside (g.S.Source.seen c.args.input.now) (g.K.Sink.seen c.args.output.now) c.args.probes.now) (outside (g.S.Source.seen c.run_store.new.input) (g.K.Sink.seen c.run_store.new.output) c.run_store.new.probes)
    (seen c.args.spaces.now) (seen c.attach_spaces.new.spaces) (seen c.run_store.new.spaces) c.run_store.result (CanAttach files (seen c.args.spaces.now) (seen c.run_store.new.spaces)) has.faults c.in-Ok.options.make c.run_store.ensures.made)

pub returns-clause-made : goal.returns-clause-made
returns-clause-made g c =
    let seen = g.P.Spaces.seen in
    let old = seen c.args.spaces.now in
    let new = seen c.attach_spaces.new.spaces in
    let files = spaces_asked c.in-Ok.options.spaces.items in
    let stops : StopsAttaching files old new c.in-Err.status = rw c.deref.ensures.value at c.in-Err.ensures.err in
    rw c.in-Ok.ensures.read
    (made-unattached
    (CanAttach files old new) c.in-Err.status (is-unattached files old new c.in-Err.status stops)
    (not-bad files old new c.in-Err.status stops) (asked_of c.in-Ok.options) (g.D.Disk.seen c.args.disk.now) (g.met.D.Disk.lawful c.args.disk.now) (outside (g.S.Source.seen c.args.input.now) (g.K.Sink.seen c.args.output.now) c.args.probes.now) old new
    (stopped-later files old new c.in-Err.status stops) c.in-Ok.options.make)

-- where no store is open, no more is asked than finding that may take
pub returns-in-Err-Memory-clause-unopened_asks : goal.returns-in-Err-Memory-clause-unopened_asks
returns-in-Err-Memory-clause-unopened_asks g c = unopened-early (options (map string_bytes c.args.words.now)) (g.D.Disk.seen c.args.disk.now).contents c.args.probes.now

pub returns-in-Ok-attach_spaces-clause-unopened_asks : goal.returns-in-Ok-attach_spaces-clause-unopened_asks
returns-in-Ok-attach_spaces-clause-unopened_asks g c = rw c.in-Ok.ensures.read c.run_store.ensures.unopened_asks

pub returns-clause-unopened_asks : goal.returns-clause-unopened_asks
returns-clause-unopened_asks g c = rw c.in-Ok.ensures.read (unopened-still c.in-Ok.options.fresh (g.D.Disk.seen c.args.disk.now).contents c.args.probes.now)
