use Rattle.std.proofs.Common.{◌≡◌, ◌+◌, ◌∷◌, [], ℕ, List, length, None, Option, ap, sym, ◌∙◌, arith}
use Rattle.std.specs.Vec.Iter.{into_iter_items}
use Rattle.hac_model.specs.Tree.Mounting.{documents_from}
use Rattle.tree_nodes.specs.Documents.{unknown, with_entries, with_names}
use Rattle.tree_nodes.specs.Nodes.{entry_of, name_of}
use Rattle.tree_nodes.specs.Search.{first_named}
use Rattle.tree_nodes.proofs.FoundLemmas.{found-same}
use Rattle.tree_nodes.proofs.ListLemmas.{rises-same}
use Rattle.tree_nodes.proofs.OverLemmas.{named-low, step-long, step-named, step-over, step-unknown}
use Rattle.tree_nodes.proofs.documents.put_unknown.Goals as goal

pub put_if_unknown-next-requires-clause-rise : goal.put_if_unknown-next-requires-clause-rise
put_if_unknown-next-requires-clause-rise c =
    rises-same (name_of c.args.nodes.now) (name_of c.loop-name.nodes) c.args.known.now (λ n among. c.loop-name.invariant.before n (c.requires.low n among)) c.requires.rise

pub put_if_unknown-next-requires-clause-there : goal.put_if_unknown-next-requires-clause-there
put_if_unknown-next-requires-clause-there c = λ none.
    let find = first_named (name_of c.args.nodes.now) c.args.known.now in
    let rest = into_iter_items c.next.new.self in
    let new : find c.in-Some.name ≡ None = sym (found-same (name_of c.args.nodes.now) (name_of c.loop-name.nodes) c.args.known.now c.in-Some.name (λ n among. c.loop-name.invariant.before n (c.requires.low n among))) ∙ none in
    let left : length (unknown find (into_iter_items c.loop-name.name-iterator)) ≡ 1 + length (unknown find rest) =
    ap (λ (xs : List (List ℕ)). length (unknown find xs)) c.in-Some.ensures.steps.0 ∙ step-unknown find c.in-Some.name rest c.loop-name.next c.args.mount new in
    let given : into_iter_items c.into_iter-name-iterator.result ≡ c.into_vec-name-items.result.items = c.into_iter-name-iterator.ensures.into_iter_gives.0 in
    let all : length (unknown find (into_iter_items c.into_iter-name-iterator.result)) ≡ length (unknown find c.args.names) =
    ap (λ (xs : List (List ℕ)). length (unknown find xs)) (given ∙ c.into_vec-name-items.ensures) in
    let count = c.loop-name.invariant.next in
    let ahead = c.loop-name.invariant.ahead in
    c.loop-name.invariant.numbers c.loop-name.next ∙ c.requires.there c.loop-name.next ahead (omega arith)

pub put_if_unknown-next-requires-clause-few : goal.put_if_unknown-next-requires-clause-few
put_if_unknown-next-requires-clause-few c = λ none.
    let find = first_named (name_of c.args.nodes.now) c.args.known.now in
    let rest = into_iter_items c.next.new.self in
    let new : find c.in-Some.name ≡ None = sym (found-same (name_of c.args.nodes.now) (name_of c.loop-name.nodes) c.args.known.now c.in-Some.name (λ n among. c.loop-name.invariant.before n (c.requires.low n among))) ∙ none in
    let left : length (unknown find (into_iter_items c.loop-name.name-iterator)) ≡ 1 + length (unknown find rest) =
    ap (λ (xs : List (List ℕ)). length (unknown find xs)) c.in-Some.ensures.steps.0 ∙ step-unknown find c.in-Some.name rest c.loop-name.next c.args.mount new in
    let given : into_iter_items c.into_iter-name-iterator.result ≡ c.into_vec-name-items.result.items = c.into_iter-name-iterator.ensures.into_iter_gives.0 in
    let all : length (unknown find (into_iter_items c.into_iter-name-iterator.result)) ≡ length (unknown find c.args.names) =
    ap (λ (xs : List (List ℕ)). length (unknown find xs)) (given ∙ c.into_vec-name-items.ensures) in
    let count = c.loop-name.invariant.next in
    let few = c.requires.few in
    omega arith

pub loop-name-preserved : goal.loop-name-preserved
loop-name-preserved c =
    let find = first_named (name_of c.args.nodes.now) c.args.known.now in
    let same : first_named (name_of c.loop-name.nodes) c.args.known.now ≡ find =
    λ i x. found-same (name_of c.args.nodes.now) (name_of c.loop-name.nodes) c.args.known.now x (λ n among. c.loop-name.invariant.before n (c.requires.low n among)) i in
    let name : List ℕ = c.in-Some.name in
    let rest = into_iter_items c.next.new.self in
    let k : ℕ = c.loop-name.next in
    let m : ℕ = c.args.mount in
    let items : into_iter_items c.loop-name.name-iterator ≡ name ∷ rest = c.in-Some.ensures.steps.0 in
    let next : c.put_if_unknown-next.result ≡ k + length (unknown find (name ∷ [])) =
    c.put_if_unknown-next.ensures.next ∙ ap (λ (f : List ℕ → Option ℕ). k + length (unknown f (name ∷ []))) same in
    let ahead = c.loop-name.invariant.ahead in
    record {
      next =
          ap (λ (r : ℕ). r + length (unknown find rest)) next ∙ step-long find name rest k m
          ∙ ap (λ (xs : List (List ℕ)). k + length (unknown find xs)) (sym items) ∙ c.loop-name.invariant.next;
      ahead = omega arith;
      numbers = λ q. c.put_if_unknown-next.ensures.put.numbers q ∙ c.loop-name.invariant.numbers q;
      entries = λ q.
          ap (λ (r : ℕ). with_entries (documents_from r m (unknown find rest)) (entry_of c.put_if_unknown-next.new.nodes) q) next
          ∙ step-over find name rest k m (entry_of c.loop-name.nodes) (entry_of c.put_if_unknown-next.new.nodes)
          (λ n. c.put_if_unknown-next.ensures.put.entries n ∙ ap (λ (f : List ℕ → Option ℕ). with_entries (documents_from k m (unknown f (name ∷ []))) (entry_of c.loop-name.nodes) n) same) q
          ∙ ap (λ (xs : List (List ℕ)). with_entries (documents_from k m (unknown find xs)) (entry_of c.loop-name.nodes) q) (sym items)
          ∙ c.loop-name.invariant.entries q;
      names = λ q.
          ap (λ (r : ℕ). with_names (documents_from r m (unknown find rest)) (name_of c.put_if_unknown-next.new.nodes) q) next
          ∙ step-named find name rest k m (name_of c.loop-name.nodes) (name_of c.put_if_unknown-next.new.nodes)
          (λ n. c.put_if_unknown-next.ensures.put.names n ∙ ap (λ (f : List ℕ → Option ℕ). with_names (documents_from k m (unknown f (name ∷ []))) (name_of c.loop-name.nodes) n) same) q
          ∙ ap (λ (xs : List (List ℕ)). with_names (documents_from k m (unknown find xs)) (name_of c.loop-name.nodes) q) (sym items)
          ∙ c.loop-name.invariant.names q;
      before = λ q low.
          c.put_if_unknown-next.ensures.put.names q
          ∙ named-low (unknown (first_named (name_of c.loop-name.nodes) c.args.known.now) (name ∷ [])) k m q (name_of c.loop-name.nodes) (omega arith)
          ∙ c.loop-name.invariant.before q low;
      kids = λ q. c.put_if_unknown-next.ensures.put.kids q ∙ c.loop-name.invariant.kids q;
    }
