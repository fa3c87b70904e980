use Rattle.std.proofs.Common.{◌≡◌, None, Some, ap, sym, ◌∙◌}
use Rattle.std.specs.Option.{option_copied}
use Rattle.hac_model.specs.Tree.Links.{query_at}
use Rattle.hac_model.specs.Tree.{body_at}
use Rattle.hac_model.specs.declared.states.Body.TheVariants.{Semantic}
use Rattle.kept_state.proofs.StateLemmas.{same-query}
use Rattle.snapshots.proofs.PartLemmas.{asks-none, semantic-body}
use Rattle.snapshots.proofs.taking.semantic.Goals as goal

pub unreachable-requires : goal.unreachable-requires
unreachable-requires c =
    let s = c.args.kept.now.state in
    let n = c.args.dir in
    let none : query_at s n ≡ None =
    same-query s c.tree.result.now.state c.tree.ensures.tree.bares n
    ∙ sym c.query.ensures ∙ ap (λ o. option_copied o) c.in_default.is in
    asks-none (query_at s n) c.requires none

pub returns : goal.returns
returns c =
    let s = c.args.kept.now.state in
    let n = c.args.dir in
    let is : query_at s n ≡ Some c.in-Some.query.now =
    same-query s c.tree.result.now.state c.tree.ensures.tree.bares n ∙ sym c.in-Some.ensures in
    let permanent = c.new-permanent.ensures ∙ c.in_ok-marked.ensures in
    let prohibited = c.new-prohibited.ensures ∙ c.in_ok-marked-2.ensures in
    semantic-body (body_at s.entries n) c.in-Some.query.now is
    ∙ (λ i. Some (Semantic (sym c.in_ok-query.ensures i) (sym permanent i) (sym prohibited i)))
