use Rattle.std.proofs.Common.{◌≡◌, ◌≤◌, ◌++◌, ◌∙◌, ◌-◌, Bool, false, List, ap, arith, length, vec_len}
use Rattle.std.specs.Prelude.{replicate}
use Rattle.std.proofs.lemmas.List.{take_all}
use Rattle.query_index.specs.Sieve.{has_number}
use Rattle.query_index.proofs.SieveLemmas.{none-more}
use Rattle.query_index.proofs.sieve.make_marks.Goals as goal

pub returns-in_ok-resize-clause-same : goal.returns-in_ok-resize-clause-same
returns-in_ok-resize-clause-same c number =
    let old = c.args.marks.now.items in
    let short : length old ≤ 32768 = omega (arith, c.if-len-lt-NUMBERS.true, c.len.ensures) in
    ap (λ (marks : List Bool). has_number marks number) c.in_ok-resize.ensures.items
    ∙ ap (λ (marks : List Bool). has_number (marks ++ replicate (32768 - vec_len c.args.marks.now) false) number) (take_all 32768 old short)
    ∙ none-more old (32768 - vec_len c.args.marks.now) number
