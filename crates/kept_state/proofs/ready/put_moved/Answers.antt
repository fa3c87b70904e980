use Rattle.std.proofs.Common.{ap}
use Rattle.hac_model.specs.Tree.Links.{query_at}
use Rattle.file_tree.specs.Seen.{Seen}
use Rattle.kept_state.specs.Parts.{edges_then}
use Rattle.kept_state.proofs.LenderLemmas.{will-ready}
use Rattle.kept_state.proofs.PutLemmas.{moved-put, moved-there}
use Rattle.kept_state.proofs.ready.put_moved.Goals as goal

pub move_to-requires-clause-there : goal.move_to-requires-clause-there
move_to-requires-clause-there c = moved-there c.args.kept.now c.args.entry c.args.dir c.args.name c.requires.may.happens

pub put_edges-requires : goal.put_edges-requires
put_edges-requires c = let kept = c.args.kept.now in will-ready kept.graph c.args.entry (edges_then kept c.args.entry c.args.dir (query_at kept.tree.state c.args.entry)) c.args.edges c.requires.suits.1

pub returns : goal.returns
returns c =
    let kept = c.args.kept.now in
    moved-put kept c.requires.may.linked c.args.entry c.args.dir c.args.name c.requires.may.happens c.move_to.new.self c.put_edges.new.graph (ap (λ (t : Seen). t.state) c.move_to.ensures)
    (c.put_edges.ensures c.args.entry (edges_then kept c.args.entry c.args.dir (query_at kept.tree.state c.args.entry)) c.requires.suits.1)
