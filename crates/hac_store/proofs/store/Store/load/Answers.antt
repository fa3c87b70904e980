use Rattle.std.proofs.Common.{subst, ◌∙◌, rules}
use Rattle.std.specs.Prelude.{◌+◌, ◌≤◌, IfSome, List, Ok, Option, ℕ}
use Rattle.hac_disk.proofs.Moments.{quiet_twice}
use Rattle.hac_model.specs.Tree.Costs.{opening}
use Rattle.hac_store.specs.Held.{held}
use Rattle.hac_store.specs.Loading.{loading}
use Rattle.hac_store.specs.Stores.{Opens}
use Rattle.hac_store.proofs.CreateLemmas.{loaded-stands}
use Rattle.hac_store.proofs.LinkedLemmas.{linked-asked, linked-bears, linked-kind, linked-opens, linked-settled}
use Rattle.hac_store.proofs.store.Store.load.Goals as goal

pub returns-in-Ok-clause-stands : goal.returns-in-Ok-clause-stands
returns-in-Ok-clause-stands g c =
    let seen = g.D.Disk.seen in
    let mid = seen c.sync.new.self in
    let new = seen c.read_unlinked.new.disk in
    loaded-stands (seen c.args.disk.now) mid new c.linked.result c.in-Ok.unlinked
    c.sync.ensures.quiet.same c.in-Ok.ensures.loads.quiet c.in_ok-sync.ensures.settled c.in-Ok.ensures.loads.state c.linked.ensures.store

pub returns-in-Ok-clause-loads : goal.returns-in-Ok-clause-loads
returns-in-Ok-clause-loads g c =
    let seen = g.D.Disk.seen in
    let unlinked = c.in-Ok.unlinked in
    let read = c.in-Ok.ensures.loads in
    let told = (seen c.args.disk.now).contents in
    let was = c.sync.ensures.quiet.same in
    record {
      state = linked-opens c.linked.result unlinked c.linked.ensures.store c.linked.ensures.memory told (subst (λ (seen : Option (List ℕ)). IfSome seen (λ file. Opens (Ok unlinked) (held file))) was read.state);
      place = linked-bears c.linked.result unlinked c.linked.ensures.store c.linked.ensures.memory (seen c.read_unlinked.new.disk) read.place;
      quiet = quiet_twice (seen c.args.disk.now) (seen c.sync.new.self) (seen c.read_unlinked.new.disk) c.sync.ensures.quiet read.quiet;
      kind = linked-kind c.linked.result unlinked c.linked.ensures.store c.linked.ensures.memory;
      names = read.names ∙ c.sync.ensures.attached;
      reported = search rules;
      asked = linked-asked told unlinked c.args.probes.now c.read_unlinked.new.probes c.linked.new.probes
          (subst (λ (seen : Option (List ℕ)). IfSome seen (λ file. c.read_unlinked.new.probes + opening unlinked.setting.state ≤ c.args.probes.now + loading file)) was c.in-Ok.ensures.opens) c.linked.ensures.probes;
    }

pub returns-in-Ok-clause-settled : goal.returns-in-Ok-clause-settled
returns-in-Ok-clause-settled g c =
    let seen = g.D.Disk.seen in
    let read = c.in-Ok.ensures.loads.quiet in
    linked-settled c.linked.result (seen c.sync.new.self) (seen c.read_unlinked.new.disk) read c.in_ok-sync.ensures.settled
