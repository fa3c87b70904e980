use Rattle.std.proofs.Common.{sym, ◌∙◌}
use Rattle.std.specs.Prelude.{◌==◌, ◌||◌}
use Rattle.hac_model.specs.Tree.{extends}
use Rattle.kept_state.proofs.StateLemmas.{same-path, same-some}
use Rattle.kept_lookups.proofs.entries.is_inside.Goals as goal

pub is_inside-requires-clause-number : goal.is_inside-requires-clause-number
is_inside-requires-clause-number c =
    (λ i. c.args.number == 0 || sym (same-some c.args.kept.now.state c.tree.result.now.state c.tree.ensures.tree.bares c.args.number) i) ∙ c.requires.number

pub is_inside-requires-clause-entry : goal.is_inside-requires-clause-entry
is_inside-requires-clause-entry c =
    (λ i. c.args.entry == 0 || sym (same-some c.args.kept.now.state c.tree.result.now.state c.tree.ensures.tree.bares c.args.entry) i) ∙ c.requires.entry

pub returns : goal.returns
returns c =
    let s = c.args.kept.now.state in
    let t = c.tree.result.now.state in
    let bares = sym c.tree.ensures.tree.bares in
    c.is_inside.ensures
    ∙ (λ i. (c.args.number == c.args.entry) || extends (same-path t s bares c.args.number i) (same-path t s bares c.args.entry i))
