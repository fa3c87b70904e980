use Rattle.std.proofs.Common.{◌≡◌, ◌+◌, arith, refl, subst, sym}
use Rattle.std.proofs.lemmas.Grind.{common_steps}
use Rattle.std.specs.Option.{option_copied}
use Rattle.query_index.specs.Inner.{seen_of}
use Rattle.query_index.specs.Seen.{IsIndexOf, Seen}
use Rattle.query_index.proofs.IndexLemmas.{index-more}
use Rattle.query_index.proofs.index.QueryIndex.with.Goals as goal

pub returns : goal.returns
returns c queries is =
    let inside = c.self.inside in
    let query = option_copied c.args.query in
    let next : c.in-Some.next ≡ inside.count + 1 = grind (arith, common_steps, c.in-Some.ensures) in
    index-more queries query (seen_of inside) _ inside.count (subst (λ (seen : Seen). IsIndexOf queries seen) (sym c.self.view_is) is) refl next c.in_ok-add.ensures.words c.in_ok-add.ensures.beginnings c.in_ok-add_wordless.ensures
