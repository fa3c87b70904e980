use Rattle.std.proofs.Common.{ℕ, List, ap, subst, sym}
use Rattle.std.specs.Prelude.{IsTrue}
use Rattle.hac_model.specs.Tree.Mounting.{do_names_rise, is_gone, is_such_at}
use Rattle.file_tree.specs.Seen.{Seen}
use Rattle.kept_state.specs.Forgetting.{ForgetsSuch}
use Rattle.kept_state.proofs.MountPutLemmas.{put-answers, sync-mount, sync-put, sync-rise}
use Rattle.kept_state.proofs.ready.put_synced.Goals as goal

pub forget_gone-requires-clause-mount : goal.forget_gone-requires-clause-mount
forget_gone-requires-clause-mount c = sync-mount c.args.kept.now c.args.mount c.args.documents c.args.told c.requires.may.happens

pub forget_gone-requires-clause-rise : goal.forget_gone-requires-clause-rise
forget_gone-requires-clause-rise c =
    subst (λ (names : List (List ℕ)). IsTrue (do_names_rise names)) (sym c.as_slice.ensures) (sync-rise c.args.kept.now c.args.mount c.args.documents c.args.told c.requires.may.happens)

pub sync-requires-clause-mount : goal.sync-requires-clause-mount
sync-requires-clause-mount c = sync-mount c.args.kept.now c.args.mount c.args.documents c.args.told c.requires.may.happens

pub sync-requires-clause-rise : goal.sync-requires-clause-rise
sync-requires-clause-rise c = sync-rise c.args.kept.now c.args.mount c.args.documents c.args.told c.requires.may.happens

pub returns : goal.returns
returns c =
    let kept = c.args.kept.now in
    sync-put kept c.requires.may.linked c.args.mount c.args.documents c.args.told c.requires.may.happens c.sync.new.self c.forget_gone.new.marks c.put.new.self (ap (λ (t : Seen). t.state) c.sync.ensures)
    (subst (λ (names : List (List ℕ)). ForgetsSuch (is_such_at (is_gone c.args.mount names) kept.tree.state.entries) kept.marks c.forget_gone.new.marks) c.as_slice.ensures c.forget_gone.ensures.lists) c.forget_gone.ensures.sets
    (put-answers kept c.args.mount c.args.told c.put.new.self c.requires.suits.1 c.put.ensures)
