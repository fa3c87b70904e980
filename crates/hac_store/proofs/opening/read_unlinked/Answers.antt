use Rattle.std.proofs.Common.{◌≡◌, sym, subst, rules, IfSome, Ok, Err}
use Rattle.hac_disk.proofs.Moments.{quiet_twice}
use Rattle.hac_store.specs.Faults.{of_root}
use Rattle.hac_store.specs.Held.{held}
use Rattle.hac_store.specs.Stores.{Opens}
use Rattle.hac_store.specs.declared.areas.Begun.{Begun}
use Rattle.hac_store.proofs.LoadLemmas.{loaded-log, loaded-none, loaded-ready}
use Rattle.hac_store.proofs.ReadLemmas.{opens-ok, opens-rootless, opens-stop, opens-unbegun, read-area}
use Rattle.hac_store.proofs.opening.read_unlinked.Goals as goal

pub returns-in_err-root-clause-loads : goal.returns-in_err-root-clause-loads
returns-in_err-root-clause-loads g c =
    let seen = (g.D.Disk.seen c.args.disk.now).contents in
    let why = c.in_err-root.field-0.0 in
    let same : c.from_residual.result ≡ Err (of_root why) = search rules in
    record {
      state = subst (λ r. IfSome seen (λ file. Opens r (held file))) (sym same) (opens-rootless seen why c.in_err-root.ensures.root);
      place = search rules;
      quiet = search rules;
      kind = search rules;
      names = search rules;
      reported = search rules;
      asked = loaded-none seen c.args.probes.now;
    }

pub returns-in_err-replay-clause-loads : goal.returns-in_err-replay-clause-loads
returns-in_err-replay-clause-loads g c =
    let seen = (g.D.Disk.seen c.args.disk.now).contents in
    let why = c.in_err-replay.field-0.0 in
    let same : c.from_residual-in_err-replay.result ≡ Err why = search rules in
    let begins = rw c.roots.ensures.quiet.same at c.in_err-replay.ensures.area in
    record {
      state = subst (λ r. IfSome seen (λ file. Opens r (held file))) (sym same) (opens-unbegun seen c.in_ok-root.root why c.in_ok-root.ensures.root begins);
      place = search rules;
      quiet = search rules;
      kind = search rules;
      names = search rules;
      reported = search rules;
      asked = loaded-none seen c.args.probes.now;
    }

pub returns-in-Err-clause-loads : goal.returns-in-Err-clause-loads
returns-in-Err-clause-loads g c =
    let seen = (g.D.Disk.seen c.args.disk.now).contents in
    let begun : Begun = c.in_ok-replay.field-0 in
    let begins = rw c.roots.ensures.quiet.same at c.in_ok-replay.ensures.area in
    let reads = rw (c.begin.ensures.quiet.same, c.roots.ensures.quiet.same) at c.in-Err.ensures.log in
    let loads = rw c.roots.ensures.quiet.same at c.in_ok-replay.ensures.loads in
    let asked = rw (c.begin.ensures.quiet.same, c.roots.ensures.quiet.same) at c.read_log.ensures.probes in
    record {
      state = opens-stop seen c.in_ok-root.root c.read_log.new.replay c.in-Err.fault c.in_ok-root.ensures.root
          (read-area (Err c.in-Err.fault) seen c.in_ok-root.root.start begun c.read_log.new.replay begins reads);
      place = search rules;
      quiet = quiet_twice (g.D.Disk.seen c.args.disk.now) (g.D.Disk.seen c.roots.new.disk) (g.D.Disk.seen c.read_log.new.disk) c.roots.ensures.quiet
          (quiet_twice (g.D.Disk.seen c.roots.new.disk) (g.D.Disk.seen c.begin.new.disk) (g.D.Disk.seen c.read_log.new.disk) c.begin.ensures.quiet c.in-Err.ensures.quiet);
      kind = search rules;
      names = search rules;
      reported = search rules;
      asked = loaded-log seen c.in_ok-root.root begun c.args.probes.now c.read_log.new.probes c.in_ok-root.ensures.root loads asked;
    }

pub returns-in-Ok-clause-loads : goal.returns-in-Ok-clause-loads
returns-in-Ok-clause-loads g c =
    let seen = (g.D.Disk.seen c.args.disk.now).contents in
    let begun : Begun = c.in_ok-replay.field-0 in
    let begins = rw c.roots.ensures.quiet.same at c.in_ok-replay.ensures.area in
    let reads = rw (c.begin.ensures.quiet.same, c.roots.ensures.quiet.same) at c.in-Ok.ensures.log in
    let loads = rw c.roots.ensures.quiet.same at c.in_ok-replay.ensures.loads in
    let asked = rw (c.begin.ensures.quiet.same, c.roots.ensures.quiet.same) at c.read_log.ensures.probes in
    record {
      state = opens-ok seen c.in_ok-root.root c.read_log.new.replay c.in-Ok.end c.in_ok-root.ensures.root
          (read-area (Ok c.in-Ok.end) seen c.in_ok-root.root.start begun c.read_log.new.replay begins reads);
      place = search rules;
      quiet = quiet_twice (g.D.Disk.seen c.args.disk.now) (g.D.Disk.seen c.roots.new.disk) (g.D.Disk.seen c.read_log.new.disk) c.roots.ensures.quiet
          (quiet_twice (g.D.Disk.seen c.roots.new.disk) (g.D.Disk.seen c.begin.new.disk) (g.D.Disk.seen c.read_log.new.disk) c.begin.ensures.quiet c.in-Ok.ensures.quiet);
      kind = search rules;
      names = search rules;
      reported = search rules;
      asked = loaded-log seen c.in_ok-root.root begun c.args.probes.now c.read_log.new.probes c.in_ok-root.ensures.root loads asked;
    }

-- the links of the state are found behind the log
pub returns-in-Ok-clause-opens : goal.returns-in-Ok-clause-opens
returns-in-Ok-clause-opens g c =
    let loads = rw c.roots.ensures.quiet.same at c.in_ok-replay.ensures.loads in
    let opens = rw (c.begin.ensures.quiet.same, c.roots.ensures.quiet.same) at c.in-Ok.ensures.opens in
    loaded-ready (g.D.Disk.seen c.args.disk.now).contents c.in_ok-root.root c.in_ok-replay.field-0 c.read_log.new.replay c.args.probes.now c.read_log.new.probes c.in_ok-root.ensures.root
    loads opens
