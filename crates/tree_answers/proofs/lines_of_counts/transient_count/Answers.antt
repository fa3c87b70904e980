use Rattle.std.proofs.Common.{◌≡◌, ◌∙◌, ◌<◌, ◌^◌, ℕ, IfOk, ap, subst, sym}
use Rattle.hac_model.specs.Tree.Links.{transient_at, transient_count}
use Rattle.hac_model.specs.Tree.Valid.{IsValid}
use Rattle.hac_model.specs.declared.marks.Kind.TheVariants.{Transient}
use Rattle.kept_state.specs.Seen.{Seen}
use Rattle.tree_answers.specs.Counting.{link_count}
use Rattle.tree_answers.proofs.CountsLemmas.{can-count, count-told}
use Rattle.tree_answers.proofs.SumLemmas.{links-few, none-linked}
use Rattle.tree_answers.proofs.lines_of_counts.transient_count.Goals as goal

pub link_count-requires : goal.link_count-requires
link_count-requires c =
    let valid = subst (λ (seen : Seen). IsValid seen.state) c.kept-kept.ensures c.know_valid.ensures in
    let s = c.args.linked.now.state in
    subst (λ (seen : Seen). link_count Transient seen.state c.links.result.now < 2 ^ 63) (sym c.kept-kept.ensures)
    (can-count s valid Transient c.links.result.now (transient_at s) c.links.ensures.found (links-few s valid))

pub returns : goal.returns
unfolding transient_count
returns c =
    let valid = subst (λ (seen : Seen). IsValid seen.state) c.kept-kept.ensures c.know_valid.ensures in
    let s = c.args.linked.now.state in
    subst (λ (n : ℕ). IfOk c.link_count.result (λ count. count ≡ n))
    (ap (λ (seen : Seen). link_count Transient seen.state c.links.result.now) c.kept-kept.ensures
    ∙ count-told s valid Transient c.links.result.now (transient_at s) c.links.ensures.found (none-linked s))
    c.link_count.ensures
