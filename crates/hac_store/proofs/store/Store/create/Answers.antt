use Rattle.std.proofs.Common.{rules}
use Rattle.hac_store.proofs.CreateLemmas.{made-moments, synced-moments, synced-quiet, unsynced}
use Rattle.hac_store.proofs.store.Store.create.Goals as goal

pub returns-clause-any_moment : goal.returns-clause-any_moment
returns-clause-any_moment g c =
    let seen = g.D.Disk.seen in
    made-moments (seen c.args.disk.now) (seen c.sync.new.self) (seen c.read_unlinked.new.disk) (seen c.new_store.new.disk)
    (g.met.D.Disk.lawful c.args.disk.now) c.sync.ensures.quiet c.read_unlinked.ensures.loads.quiet c.new_store.ensures.any_moment

pub returns-in_err-sync-clause-synced : goal.returns-in_err-sync-clause-synced
returns-in_err-sync-clause-synced g c =
    unsynced g.D.Disk.seen g.D.Disk.does c.args.disk.now c.from_residual.result c.sync.new.self c.in_err-sync.field-0.0 (search rules) c.in_err-sync.ensures.once

pub returns-in_err-none-clause-synced : goal.returns-in_err-none-clause-synced
returns-in_err-none-clause-synced g c =
    synced-quiet g.D.Disk.seen g.D.Disk.does c.args.disk.now c.from_residual-in_err-none.result c.sync.new.self c.read_unlinked.new.disk
    (g.met.D.Disk.lawful c.sync.new.self) c.sync.ensures.quiet c.in_ok-sync.ensures.settled c.in_ok-sync.ensures.once c.read_unlinked.ensures.loads.quiet

pub returns-clause-synced : goal.returns-clause-synced
returns-clause-synced g c =
    synced-moments g.D.Disk.seen g.D.Disk.does c.args.disk.now c.new_store.result c.sync.new.self c.read_unlinked.new.disk c.new_store.new.disk
    (g.met.D.Disk.lawful c.sync.new.self) c.sync.ensures.quiet c.in_ok-sync.ensures.settled c.in_ok-sync.ensures.once c.read_unlinked.ensures.loads.quiet c.new_store.ensures.any_moment
