use Rattle.std.proofs.Common.{◌≡◌, sym, ap, ◌∙◌, ℕ}
use Rattle.std.proofs.lemmas.Bool.{eqb-true}
use Rattle.hac_model.specs.Tree.Links.{is_below}
use Rattle.kept_lookups.proofs.RootLemmas.{root-holds}
use Rattle.kept_lookups.proofs.entries.is_below_in.Goals as goal

pub returns-then-eq : goal.returns-then-eq
returns-then-eq c =
    let t = c.args.tree.now.state in
    let root : c.args.dir ≡ 0 = eqb-true c.args.dir 0 (sym c.eq.ensures ∙ c.if-eq.true) in
    c.is_item.ensures ∙ sym (root-holds t c.args.item c.know_layout.ensures.layout) ∙ ap (λ (dir : ℕ). is_below t dir c.args.item) (sym root)
