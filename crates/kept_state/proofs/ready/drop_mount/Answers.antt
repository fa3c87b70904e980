use Rattle.std.proofs.Common.{ap}
use Rattle.file_tree.specs.Seen.{Seen}
use Rattle.kept_state.proofs.MountPutLemmas.{gone-mount, unmount-put}
use Rattle.kept_state.proofs.ready.drop_mount.Goals as goal

pub forget_mount-requires : goal.forget_mount-requires
forget_mount-requires c = gone-mount c.args.kept.now c.args.mount c.requires.happens

pub unmount-requires-clause-mount : goal.unmount-requires-clause-mount
unmount-requires-clause-mount c = gone-mount c.args.kept.now c.args.mount c.requires.happens

pub returns : goal.returns
returns c =
    unmount-put c.args.kept.now c.requires.linked c.args.mount c.requires.happens c.unmount.new.self c.forget_mount.new.marks c.drop_mount.new.self (ap (λ (t : Seen). t.state) c.unmount.ensures)
    c.forget_mount.ensures.lists c.forget_mount.ensures.sets c.drop_mount.ensures.kept
