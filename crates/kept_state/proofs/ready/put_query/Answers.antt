use Rattle.std.proofs.Common.{Some, ap}
use Rattle.hac_model.specs.Tree.Links.{parent_of}
use Rattle.file_tree.specs.Seen.{Seen}
use Rattle.kept_state.specs.Parts.{edges_then}
use Rattle.kept_state.proofs.LenderLemmas.{will-ready}
use Rattle.kept_state.proofs.PutLemmas.{query-put}
use Rattle.kept_state.proofs.ready.put_query.Goals as goal

pub put_edges-requires : goal.put_edges-requires
put_edges-requires c = let kept = c.args.kept.now in will-ready kept.graph c.args.dir (edges_then kept c.args.dir (parent_of kept.tree.state c.args.dir) (Some c.args.query)) c.args.edges c.requires.suits.0

pub returns : goal.returns
returns c =
    let kept = c.args.kept.now in
    query-put kept c.requires.may.linked c.args.dir c.args.query c.args.told c.requires.may.happens c.requires.suits.1 c.set_query.new.self c.put_edges.new.graph c.put.new.self (ap (λ (t : Seen). t.state) c.set_query.ensures)
    (c.put_edges.ensures c.args.dir (edges_then kept c.args.dir (parent_of kept.tree.state c.args.dir) (Some c.args.query)) c.requires.suits.0) c.put.ensures.kept
