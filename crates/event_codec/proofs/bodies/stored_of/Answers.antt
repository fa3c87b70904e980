use Rattle.event_codec.proofs.bodies.stored_of.Goals as goal

pub returns-in-1 : goal.returns-in-1
returns-in-1 c = rw c.in-1.is (c.file.ensures c.args.version)

pub returns-in-3 : goal.returns-in-3
returns-in-3 c = rw c.in-3.is (c.symlink.ensures c.args.version)
