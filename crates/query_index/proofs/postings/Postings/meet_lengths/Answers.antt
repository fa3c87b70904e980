use Rattle.std.proofs.Common.{◌≡◌, ℕ, List, arith, length, subst, sym, take}
use Rattle.std.proofs.lemmas.List.{take_all}
use Rattle.std.proofs.lemmas.Result.{on_ok_weaker}
use Rattle.query_index.specs.Inner.{is_at}
use Rattle.query_index.specs.Numbers.{AddsAll, any_below}
use Rattle.query_index.proofs.NumberLemmas.{adds-both}
use Rattle.query_index.proofs.postings.Postings.meet_lengths.Goals as goal

pub returns : goal.returns
returns c =
    let seen = c.args.self.now in
    let word = c.args.word.now in
    let old = c.args.met.now.items in
    let mid = c.loop-len.met.items in
    let new = c.meet_numbered-2.new.met.items in
    let end : c.loop-len.len ≡ length word = omega (arith, c.loop-len-test.false, c.loop-len.auto.len-end) in
    let first = subst (λ (n : ℕ). AddsAll old mid (λ at. any_below n (λ len. is_at seen (take len word) at))) end c.loop-len.invariant.met in
    let whole : take (length word) word ≡ word = take_all (length word) word (omega arith) in
    on_ok_weaker c.meet_numbered-2.result
    (λ adds.
    adds-both old mid new (λ at. any_below (length word) (λ len. is_at seen (take len word) at)) (is_at seen (take (length word) word)) first
    (subst (λ (w : List ℕ). AddsAll mid new (is_at seen w)) (sym whole) adds))
    c.meet_numbered-2.ensures
