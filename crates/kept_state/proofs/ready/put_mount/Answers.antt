use Rattle.std.proofs.Common.{ap}
use Rattle.file_tree.specs.Seen.{Seen}
use Rattle.kept_state.proofs.MountPutLemmas.{mount-put, mount-rise, put-answers}
use Rattle.kept_state.proofs.ready.put_mount.Goals as goal

pub mount-requires-clause-rise : goal.mount-requires-clause-rise
mount-requires-clause-rise c = mount-rise c.args.kept.now c.args.dir c.args.name c.args.space c.args.documents c.args.told c.requires.may.happens

pub returns : goal.returns
returns c =
    let kept = c.args.kept.now in
    mount-put kept c.requires.may.linked c.args.dir c.args.name c.args.space c.args.documents c.args.told c.requires.may.happens c.mount.new.self c.put.new.self (ap (λ (t : Seen). t.state) c.mount.ensures)
    (put-answers kept kept.tree.state.next c.args.told c.put.new.self c.requires.suits.1 c.put.ensures)
