use Rattle.std.proofs.Common.{sym, ◌∙◌}
use Rattle.std.specs.Prelude.{◌&&◌}
use Rattle.hac_model.specs.Tree.{extends}
use Rattle.kept_state.proofs.StateLemmas.{same-directory, same-item, same-path}
use Rattle.kept_lookups.proofs.entries.is_below.Goals as goal

pub returns : goal.returns
returns c =
    let s = c.args.kept.now.state in
    let t = c.tree.result.now.state in
    let bares = sym c.tree.ensures.tree.bares in
    c.is_below_in.ensures
    ∙ (λ i. same-item t s bares c.args.item i && same-directory t s bares c.args.dir i && extends (same-path t s bares c.args.item i) (same-path t s bares c.args.dir i))
