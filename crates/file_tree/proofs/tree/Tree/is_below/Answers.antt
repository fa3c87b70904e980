use Rattle.std.proofs.Common.{◌∙◌}
use Rattle.file_tree.proofs.StepLemmas.{steps-extend}
use Rattle.file_tree.proofs.tree.Tree.is_below.Goals as goal

pub returns : goal.returns
returns c = c.leads_up.ensures ∙ steps-extend c.args.self.now.state c.args.item c.args.dir c.know_layout.ensures.layout c.requires.item c.requires.dir
