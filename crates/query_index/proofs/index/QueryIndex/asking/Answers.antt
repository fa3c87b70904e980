use Rattle.std.proofs.Common.{List, ℕ}
use Rattle.std.specs.Prelude.{◌++◌, ◌||◌, filter, not}
use Rattle.std.proofs.lemmas.Result.{IfOk-weaker}
use Rattle.hac_model.specs.Tree.Links.{has}
use Rattle.query_index.specs.Asking.{asks_for_change, is_listed}
use Rattle.query_index.specs.Inner.{AreMet, is_under}
use Rattle.query_index.specs.Numbers.{AreThose}
use Rattle.query_index.specs.Seen.{ArePlaces}
use Rattle.query_index.proofs.IndexLemmas.{changed-places, meets-both}
use Rattle.query_index.proofs.index.QueryIndex.asking.Goals as goal

pub returns : goal.returns
returns c queries is =
    let self = c.args.self.now in
    let old = c.args.old.now in
    let new = c.args.new.now in
    let gone : List (List ℕ) = filter (λ word. not (is_listed new word)) old in
    let come : List (List ℕ) = filter (λ word. not (is_listed old word)) new in
    let met = c.put_in_order.new.self in
    let are : AreMet self (gone ++ come) met = c.put_in_order.ensures self (gone ++ come) c.new-met.result c.new-met.ensures.words c.new-met.ensures.beginnings
    (meets-both self gone come c.new-met.result c.meet_beyond.new.met c.meet_beyond-2.new.met c.in_ok-meet_beyond.ensures c.in_ok-meet_beyond-2.ensures) in
    IfOk-weaker c.places_of.result
    (λ all. AreThose (λ place. (has c.new.result.items place || is_under self.words met.words.items place) || is_under self.beginnings met.beginnings.items place) all.items)
    (λ places. ArePlaces queries (asks_for_change old new) places.items)
    (λ all those. changed-places queries self is old new met are c.new.result.items all.items c.new.ensures.items those)
    c.places_of.ensures
