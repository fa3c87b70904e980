use Rattle.std.proofs.Common.{sym, ◌∙◌}
use Rattle.kept_links.proofs.SetLemmas.{few-dropped, few-semantic, links-dropped}
use Rattle.kept_links.proofs.sets.drop_at.Goals as goal

pub returns-then-is_semantic-clause-sets : goal.returns-then-is_semantic-clause-sets
returns-then-is_semantic-clause-sets c =
    few-semantic c.args.kept.now.state c.args.dir c.args.found.now (sym c.is_semantic.ensures ∙ c.if-is_semantic.true) c.requires.sets

pub returns-clause-links : goal.returns-clause-links
returns-clause-links c =
    links-dropped c.args.kept.now.state c.args.found.now c.drop_dir.new.self c.args.dir c.know_valid.ensures c.requires.links c.drop_dir.ensures.lists c.know_lists.ensures
    (sym c.is_semantic.ensures ∙ c.if-is_semantic.false)

pub returns-clause-sets : goal.returns-clause-sets
returns-clause-sets c = few-dropped c.args.kept.now.state c.args.dir c.args.found.now c.drop_dir.new.self c.drop_dir.ensures.sets c.requires.sets
