use Rattle.std.proofs.Common.{◌≡◌, ℕ, List, map, IfOk, ap, subst, ◌∙◌, ◌++◌}
use Rattle.hac_model.specs.Tree.Depends.{named_in}
use Rattle.tree_answers.specs.Paths.{named_dir}
use Rattle.tree_answers.proofs.QueryLineLemmas.{paths-known, query-told}
use Rattle.tree_answers.proofs.lines_of_queries.printed.Goals as goal

pub print-requires : goal.print-requires
print-requires c = record {
  known = paths-known c.args.kept.now.state c.args.query.now c.add_paths.new.paths (c.in_ok-add_paths.ensures ∙ ap (λ ps. ps ++ map (named_dir c.args.kept.now.state) (named_in c.args.query.now)) c.new-paths.ensures);
}

pub returns : goal.returns
returns c =
    subst (λ (bytes : List ℕ). IfOk c.print.result (λ text. text ≡ bytes))
    (query-told c.args.kept.now.state c.args.query.now c.add_paths.new.paths (c.in_ok-add_paths.ensures ∙ ap (λ ps. ps ++ map (named_dir c.args.kept.now.state) (named_in c.args.query.now)) c.new-paths.ensures))
    c.print.ensures
