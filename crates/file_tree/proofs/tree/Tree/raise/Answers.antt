use Rattle.std.proofs.Common.{ap}
use Rattle.hac_model.specs.Tree.{raised}
use Rattle.hac_model.proofs.RaisedLemmas.{raised-layout}
use Rattle.file_tree.specs.Seen.{Seen}
use Rattle.file_tree.specs.Shape.{state_of}
use Rattle.file_tree.proofs.tree.Tree.raise.Goals as goal

pub returns : goal.returns
returns c = ap (λ (x : Seen). record { state = raised x.state; ready = x.ready }) c.self.view_is

-- nothing but the limits depends on the version
pub invariant_of-self : goal.invariant_of-self
invariant_of-self c =
    let h = c.self.invariant in
    record {
      shaped = record {
        lists = h.shaped.lists;
        layout = raised-layout (state_of c.self.inside) h.shaped.layout;
        root = h.shaped.root;
        spare = h.shaped.spare;
        others = h.shaped.others;
      };
      counts_are = h.counts_are;
      dirty_are = h.dirty_are;
      documents_are = h.documents_are;
    }
