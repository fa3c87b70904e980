-- The three kinds of questions, one behind the other.
use Rattle.std.proofs.Common.{◌≡◌, Err, rules}
use Rattle.sem_mounts.proofs.GatherLemmas.{all-answered, stops-fetching, stops-listing}
use Rattle.sem_mounts.proofs.GatherLemmas.{stops-searching}
use Rattle.sem_mounts.proofs.gathering.gather.Goals as goal

pub returns-in_err-list-clause-asked : goal.returns-in_err-list-clause-asked
returns-in_err-list-clause-asked g c =
    let fault = c.in_err-list.field-0.0 in
    let same : c.from_residual.result ≡ Err fault = search rules in
    rw same (stops-listing _ _ c.args.asks.now fault c.in_err-list.ensures.asked)

pub returns-in_err-found-clause-asked : goal.returns-in_err-found-clause-asked
returns-in_err-found-clause-asked g c =
    let fault = c.in_err-found.field-0.0 in
    let same : c.from_residual-in_err-found.result ≡ Err fault = search rules in
    rw same (stops-searching _ _ _ c.args.asks.now c.in_ok-list.list fault
    c.in_ok-list.ensures.asked (rw c.as_slice.ensures at c.in_err-found.ensures.asked))

pub returns-in_err-fetched-clause-asked : goal.returns-in_err-fetched-clause-asked
returns-in_err-fetched-clause-asked g c =
    let fault = c.in_err-fetched.field-0.0 in
    let same : c.from_residual-in_err-fetched.result ≡ Err fault = search rules in
    rw same (stops-fetching _ _ _ _ c.args.asks.now c.in_ok-list.list c.in_ok-found.found fault
    c.in_ok-list.ensures.asked (rw c.as_slice.ensures at c.in_ok-found.ensures.asked)
    c.in_err-fetched.ensures.asked)

pub returns-clause-asked : goal.returns-clause-asked
returns-clause-asked g c =
    all-answered _ _ _ _ c.args.asks.now c.in_ok-list.list c.in_ok-found.found
    c.in_ok-fetched.fetched _ c.in_ok-list.ensures.asked (rw c.as_slice.ensures at
    c.in_ok-found.ensures.asked) c.in_ok-fetched.ensures.asked
