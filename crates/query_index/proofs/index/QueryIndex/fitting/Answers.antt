use Rattle.std.proofs.Common.{◌≡◌, ℕ, List, ap, subst, ◌∙◌}
use Rattle.hac_model.specs.Query.Words.{lower_case, runs, words}
use Rattle.hac_words.proofs.RunLemmas.{runs-lower_case}
use Rattle.query_index.specs.Inner.{AreMet}
use Rattle.query_index.specs.Seen.{Seen}
use Rattle.query_index.proofs.IndexLemmas.{fit-known, fit-places, fit-told}
use Rattle.query_index.proofs.index.QueryIndex.fitting.Goals as goal

pub invariant_of-result : goal.invariant_of-result
invariant_of-result c =
    let met = c.put_in_order.ensures c.args.self.now (runs c.deref.result.now) c.new-met.result c.new-met.ensures.words c.new-met.ensures.beginnings c.in_ok-meet_runs.ensures in (
      met.words.rise,
      met.beginnings.rise,
    )

pub returns : goal.returns
returns c queries is =
    let self = c.args.self.now in
    let lowered : c.deref.result.now ≡ lower_case c.args.text.now = cc (c.in_ok-lower.ensures.ok) in
    let found : runs c.deref.result.now ≡ words c.args.text.now = ap runs lowered ∙ runs-lower_case c.args.text.now in
    let met = c.put_in_order.new.self in
    let places = c.in_ok-places.places.items in
    let are : AreMet self (words c.args.text.now) met =
    subst (λ (these : List (List ℕ)). AreMet self these met) found (c.put_in_order.ensures self (runs c.deref.result.now) c.new-met.result c.new-met.ensures.words c.new-met.ensures.beginnings c.in_ok-meet_runs.ensures) in record {
      places = fit-places queries self is (words c.args.text.now) met are c.in_ok-wordless.wordless.items places
          (c.in_ok-wordless.ensures.items ∙ c.as_slice.ensures.value ∙ ap (λ (seen : Seen). seen.wordless) c.self.view_is) c.in_ok-places.ensures;
      answers = fit-told self (words c.args.text.now) met places are;
      known = fit-known queries self is met.words.items met.beginnings.items places;
    }
