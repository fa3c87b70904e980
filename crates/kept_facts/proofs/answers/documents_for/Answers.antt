use Rattle.std.proofs.Common.{◌<◌, ◌≤◌, Bool, List, None, Some, ap, cond, length, sym, ◌∙◌, ℕ, arith}
use Rattle.std.specs.Option.{option_copied}
use Rattle.std.proofs.lemmas.Bool.Decides.{nat_tests}
use Rattle.kept_facts.proofs.OrderLemmas.{found-at, found-end}
use Rattle.kept_facts.proofs.answers.documents_for.Goals as goal

pub returns-in_err-answer : goal.returns-in_err-answer
returns-in_err-answer c = λ rise.
    let outside : length c.args.answers.now ≤ c.rank.result = grind (arith, nat_tests, c.in_err-answer.ensures.lookup) in
    ap option_copied c.from_residual.ensures ∙ sym (found-end c.args.term.now c.args.answers.now rise c.rank.result (c.rank.ensures.rank rise) outside)

pub returns-then-is_before : goal.returns-then-is_before
returns-then-is_before c = λ rise.
    let inside : c.rank.result < length c.args.answers.now = grind (arith, nat_tests, c.in_ok-answer.ensures.lookup) in
    let answer = c.in_ok-answer.answer.now in
    sym (found-at c.args.term.now c.args.answers.now rise c.rank.result (c.rank.ensures.rank rise) answer inside c.in_ok-answer.ensures.lookup.1
    ∙ ap (λ (b : Bool). cond b None (Some answer.documents)) (sym c.is_before.ensures ∙ c.if-is_before.true))

pub returns-else-is_before : goal.returns-else-is_before
returns-else-is_before c = λ rise.
    let inside : c.rank.result < length c.args.answers.now = grind (arith, nat_tests, c.in_ok-answer.ensures.lookup) in
    let answer = c.in_ok-answer.answer.now in
    ap (λ (documents : List ℕ). Some documents) c.as_slice.ensures
    ∙ sym (found-at c.args.term.now c.args.answers.now rise c.rank.result (c.rank.ensures.rank rise) answer inside c.in_ok-answer.ensures.lookup.1
    ∙ ap (λ (b : Bool). cond b None (Some answer.documents)) (sym c.is_before.ensures ∙ c.if-is_before.false))
