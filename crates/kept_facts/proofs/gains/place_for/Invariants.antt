use Rattle.std.proofs.Common.{◌≡◌, ◌+◌, drop}
use Rattle.std.specs.Prelude.{not}
use Rattle.std.specs.List.{prefix_len}
use Rattle.hac_model.specs.Query.Terms.{is_term_before}
use Rattle.kept_facts.proofs.gains.place_for.Given as goal

-- all answers so far come before it
abbrev pub invariant-loop-place : goal.invariant-loop-place
invariant-loop-place l =
    l.place + prefix_len (λ answer. not (is_term_before l.term answer.term)) (drop l.place l.answers)
    ≡ prefix_len (λ answer. not (is_term_before l.term answer.term)) l.answers
