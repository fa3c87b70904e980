use Rattle.std.proofs.Common.{Some, ap}
use Rattle.file_tree.specs.Seen.{Seen}
use Rattle.kept_state.specs.Parts.{edges_then}
use Rattle.kept_state.proofs.LenderLemmas.{will-ready}
use Rattle.kept_state.proofs.PutLemmas.{semantic-put}
use Rattle.kept_state.proofs.ready.put_semantic.Goals as goal

pub put_edges-requires : goal.put_edges-requires
put_edges-requires c = let kept = c.args.kept.now in will-ready kept.graph kept.tree.state.next (edges_then kept kept.tree.state.next c.args.dir (Some c.args.query)) c.args.edges c.requires.suits.1

pub returns : goal.returns
returns c =
    let kept = c.args.kept.now in
    let next = kept.tree.state.next in
    semantic-put kept c.requires.may.linked c.args.dir c.args.name c.args.query c.args.told c.requires.may.happens c.requires.suits.2 c.add.new.self c.put_edges.new.graph c.put.new.self (ap (λ (t : Seen). t.state) c.add.ensures)
    (c.put_edges.ensures next (edges_then kept next c.args.dir (Some c.args.query)) c.requires.suits.1) c.put.ensures.kept
