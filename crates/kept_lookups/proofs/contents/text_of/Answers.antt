use Rattle.std.proofs.Common.{sym, ◌∙◌}
use Rattle.std.specs.Prelude.{option_and_then}
use Rattle.hac_model.specs.Tree.{body_at, text_in}
use Rattle.hac_model.proofs.AlikeLemmas.{text_at-bare}
use Rattle.kept_state.proofs.StateLemmas.{alike}
use Rattle.kept_lookups.proofs.TextLemmas.{no-text}
use Rattle.kept_lookups.proofs.contents.text_of.Goals as goal

pub returns-then-is_file : goal.returns-then-is_file
returns-then-is_file c =
    sym c.text.ensures ∙ sym (alike c.args.kept.now.state c.tree-tree.result.now.state c.tree-tree.ensures.tree.bares (λ s. option_and_then text_in (body_at s.entries c.args.file)) (λ s. text_at-bare s c.args.file))

pub returns-else-is_file : goal.returns-else-is_file
returns-else-is_file c =
    sym (no-text (body_at c.tree-tree.result.now.state.entries c.args.file) (sym c.is_file.ensures ∙ c.if-is_file.false))
    ∙ sym (alike c.args.kept.now.state c.tree-tree.result.now.state c.tree-tree.ensures.tree.bares (λ s. option_and_then text_in (body_at s.entries c.args.file)) (λ s. text_at-bare s c.args.file))
