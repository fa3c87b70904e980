use Rattle.reindex.proofs.EventLemmas.{gone-removed, gone-unmounted, only-moved}
use Rattle.kept_links.proofs.touched.delta_of_touched.Goals as goal

pub delta_of_move-requires-clause-moves : goal.delta_of_move-requires-clause-moves
delta_of_move-requires-clause-moves g c =
    only-moved c.args.coming.now.kept.now.state c.args.coming.now.event.now c.requires.coming.accepted c.requires.never c.in-Mv.entry c.in-Mv.dir c.in-Mv.name c.in-Mv.is

pub delta_of_removal-requires-clause-gone : goal.delta_of_removal-requires-clause-gone
delta_of_removal-requires-clause-gone g c = gone-removed c.args.coming.now.kept.now.state c.args.coming.now.event.now c.in-Rm.entry c.in-Rm.is

pub delta_of_removal-requires-in-Sumount-clause-gone : goal.delta_of_removal-requires-in-Sumount-clause-gone
delta_of_removal-requires-in-Sumount-clause-gone g c =
    gone-unmounted c.args.coming.now.kept.now.state c.args.coming.now.event.now c.in-Sumount.mount c.know_valid.ensures.layout.numbers c.in-Sumount.is
