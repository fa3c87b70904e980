use Rattle.kept_state.specs.Parts.{edges_marked}
use Rattle.kept_state.proofs.LenderLemmas.{will-ready}
use Rattle.kept_state.proofs.PutLemmas.{mark-put}
use Rattle.kept_state.proofs.ready.put_mark.Goals as goal

pub put_edges-requires : goal.put_edges-requires
put_edges-requires c = let kept = c.args.kept.now in will-ready kept.graph c.args.mark.dir (edges_marked kept c.args.mark) c.args.edges c.requires.suits.2

pub returns : goal.returns
returns c =
    let kept = c.args.kept.now in
    mark-put kept c.requires.linked c.args.mark c.requires.happens c.set_kind.new.self c.put_edges.new.graph c.know_lists.ensures c.set_kind.ensures.lists c.set_kind.ensures.sets
    (c.put_edges.ensures c.args.mark.dir (edges_marked kept c.args.mark) c.requires.suits.2)
