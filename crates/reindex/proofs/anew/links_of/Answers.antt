use Rattle.std.proofs.Common.{arith, refl, subst, sym, ◌∙◌}
use Rattle.std.proofs.lemmas.List.{nil_from_length}
use Rattle.std.specs.Prelude.{◌+◌}
use Rattle.hac_model.specs.Tree.Costs.{opening, weight}
use Rattle.hac_model.specs.Tree.Links.{is_item}
use Rattle.link_kinds.specs.Seen.{IsEmpty}
use Rattle.file_tree.proofs.LiveLemmas.{through-begins, through-ends, through-goes, through-here}
use Rattle.reeval.specs.Settled.{AreSetsAsked}
use Rattle.reindex.specs.Anew.{AreLinksBelow}
use Rattle.reindex.proofs.AnewLemmas.{below-all, below-none, none-passed}
use Rattle.reindex.proofs.ProbeLemmas.{more-numbers, opened}
use Rattle.reindex.proofs.anew.links_of.Goals as goal

pub loop-number-init : goal.loop-number-init
loop-number-init g c =
    let s = c.args.kept.now.state in
    let found = c.new-found.result in
    let valid = c.know_valid.ensures in
    let are = c.into_iter-number-iterator.ensures.into_iter_gives.0 ∙ c.in_ok-number-items.ensures in (
      through-begins (AreLinksBelow s found) s.entries s.next valid.layout.numbers (λ k none so_far. none-passed s found k valid none so_far)
          c.into_iter-number-iterator.result.rest.items are (below-none s found (subst IsEmpty (sym c.new-found.ensures) (λ dir. refl))),
      opened s valid c.into_iter-number-iterator.result.rest.items are c.args.probes.now,
      subst (AreSetsAsked s) (sym c.new-found.ensures) (λ dir never. absurd cc),
    )

pub loop-number-preserved : goal.loop-number-preserved
loop-number-preserved g c =
    let s = c.args.kept.now.state in
    let old = c.loop-number.found in
    let new = c.add_links.new.found in
    let valid = c.know_valid.ensures in
    let left = c.loop-number.number-iterator.rest.items in
    let rest = c.next.new.self.rest.items in
    let n = c.in-Some.number in
    let is = c.in-Some.ensures.steps.0 in (
      through-goes (AreLinksBelow s new) s.entries s.next valid.layout.numbers (λ k none so_far. none-passed s new k valid none so_far)
          (AreLinksBelow s old) left n rest is c.loop-number.invariant.0
          (c.in_ok-add_links.ensures.links (through-here (AreLinksBelow s old) s.entries s.next left n rest is c.loop-number.invariant.0)),
      more-numbers (is_item s) n rest left (weight s) (c.args.probes.now + opening s) c.loop-number.probes c.add_links.new.probes is c.loop-number.invariant.1 c.in_ok-add_links.ensures.probes,
      c.in_ok-add_links.ensures.sets c.loop-number.invariant.2,
    )

pub returns-clause-links : goal.returns-clause-links
returns-clause-links g c =
    let s = c.args.kept.now.state in
    let found = c.loop-number.found in
    let left = c.loop-number.number-iterator.rest.items in
    below-all s found c.know_valid.ensures c.know_lists.ensures
    (through-ends (AreLinksBelow s found) s.entries s.next left (nil_from_length left (omega (arith, c.in-None.ensures.steps.0, c.loop-number.number-iterator.rest.ok.0))) c.loop-number.invariant.0)

pub returns-in_err-add_links-clause-probes : goal.returns-in_err-add_links-clause-probes
returns-in_err-add_links-clause-probes g c =
    let s = c.args.kept.now.state in
    let more = more-numbers (is_item s) c.in-Some.number c.next.new.self.rest.items c.loop-number.number-iterator.rest.items (weight s) (c.args.probes.now + opening s) c.loop-number.probes c.add_links.new.probes
    c.in-Some.ensures.steps.0 c.loop-number.invariant.1 c.add_links.ensures.probes in
    omega (arith, more)
