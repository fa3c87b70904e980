use Rattle.std.proofs.Common.{◌≡◌, Bor, refl, ◌∙◌}
use Rattle.std.specs.Prelude.{Option, None, Some, is_some}
use Rattle.std.specs.Option.{option_copied, option_map}
use Rattle.hac_model.specs.Tree.{entry_at}
use Rattle.hac_model.specs.declared.states.Entry.{Entry}
use Rattle.tree_nodes.specs.Nodes.{body_of}
use Rattle.tree_nodes.specs.declared.nodes.Content.{Content}
use Rattle.file_tree.proofs.tree.Tree.has_entry.Goals as goal

same : (content : Option (Bor Content)) (entry : Option Entry) → option_map body_of (option_copied content) ≡ option_map (λ (e : Entry). e.body) entry → is_some content ≡ is_some entry
same None None h = refl
same None (Some e) h = absurd cc
same (Some content) None h = absurd cc
same (Some content) (Some e) h = refl

pub returns : goal.returns
returns c = c.is_some.ensures ∙ same c.content.result (entry_at c.args.self.now.state.entries c.args.number) c.content.ensures
