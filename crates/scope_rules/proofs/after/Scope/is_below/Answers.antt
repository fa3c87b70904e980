use Rattle.std.proofs.Common.{sym, true, ◌≡◌, ◌∙◌}
use Rattle.hac_model.specs.Tree.Links.{is_item}
use Rattle.hac_model.specs.Tree.{is_directory_at}
use Rattle.scope_rules.proofs.BelowLemmas.{item-lives, leads-below}
use Rattle.scope_rules.proofs.ScopeLemmas.{layout-told}
use Rattle.scope_rules.proofs.after.Scope.is_below.Goals as goal
use Rattle.scope_rules.proofs.after.Scope.is_below.Goals.{then-is_item, else-is_item}

pub returns-then-is_directory : goal.returns-then-is_directory
returns-then-is_directory c = λ after of.
    let layout = layout-told c.args.self.now after of in
    elim c.if-is_item.branch [
      | then-is_item w ↦
          (let item : is_item after c.args.item ≡ true = sym (c.is_item.ensures after of) ∙ w.if-is_item.true in
          let holds : is_directory_at after.entries c.args.dir ≡ true = sym (w.is_directory.ensures after of) ∙ sym w.value-is ∙ c.if-is_directory.true in
          c.leads_up.ensures after of (item-lives after layout c.args.dir c.args.item item) ∙ leads-below after layout c.args.dir c.args.item item holds)
      | else-is_item w ↦ absurd (let never = sym w.value-is ∙ c.if-is_directory.true in cc)
    ]
