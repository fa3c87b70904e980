use Rattle.std.proofs.Common.{◌≡◌, ℕ, Bool, List, ap, arith, subst, sym, ◌∙◌}
use Rattle.std.specs.Prelude.{if◌then◌else◌}
use Rattle.hac_model.specs.Tree.Costs.{weight}
use Rattle.hac_model.specs.Tree.Links.{is_item}
use Rattle.reeval.specs.Settled.{verdict_in}
use Rattle.reeval.specs.Told.{news_on, told}
use Rattle.reeval.specs.declared.verdicts.Change.{Change}
use Rattle.reeval.specs.Settled.{AreSetsFor}
use Rattle.reindex.proofs.AnewLemmas.{asked-more, below-more, below-none-more}
use Rattle.reindex.proofs.anew.add_links.Goals as goal

pub returns-then-not-is_item-clause-links : goal.returns-then-not-is_item-clause-links
returns-then-not-is_item-clause-links g c = λ below.
    below-none-more c.args.kept.now.state c.args.found.now c.args.number c.know_valid.ensures (sym c.is_item.ensures ∙ c.if-not-is_item.true) below

pub returns-clause-links : goal.returns-clause-links
returns-clause-links g c = λ below.
    let s = c.args.kept.now.state in
    let news = c.in_ok-news.news.items in
    below-more s c.args.number c.args.found.now c.reserve.new.found c.apply.new.found news below c.in_ok-reserve.ensures.same
    c.in_ok-news.ensures.news
    (subst (λ (changes : List Change). (item dir : ℕ) → verdict_in c.apply.new.found item dir ≡ told (news_on item changes) (verdict_in c.reserve.new.found item) dir) c.as_slice-2.ensures.value c.apply.ensures.verdicts)

pub returns-clause-sets : goal.returns-clause-sets
returns-clause-sets g c = λ asked.
    asked-more c.args.kept.now.state c.args.number c.args.found.now c.reserve.new.found c.apply.new.found c.in_ok-news.news.items c.know_valid.ensures c.in_ok-news.ensures.news
    (subst (AreSetsFor c.args.found.now c.reserve.new.found) c.as_slice.ensures.value c.reserve.ensures.sets) c.apply.ensures.sets asked

pub returns-clause-probes : goal.returns-clause-probes
returns-clause-probes g c =
    let s = c.args.kept.now.state in
    let most = c.news_of.ensures.probes in
    let room : (if is_item s c.args.number then weight s else 0) ≡ weight s = ap (λ (b : Bool). if b then weight s else 0) (sym c.is_item.ensures ∙ c.if-not-is_item.false) in
    omega (arith, most, room)
