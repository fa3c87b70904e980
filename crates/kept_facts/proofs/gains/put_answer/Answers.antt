use Rattle.std.proofs.Common.{◌≡◌, ◌∙◌, ℕ, List, ap, sym}
use Rattle.std.specs.Prelude.{not}
use Rattle.std.specs.List.{insert, prefix_len}
use Rattle.hac_model.specs.Query.Terms.{is_term_before}
use Rattle.hac_model.specs.declared.states.Answer.{Answer}
use Rattle.kept_facts.proofs.GainLemmas.{put-place}
use Rattle.kept_facts.proofs.gains.put_answer.Goals as goal

pub returns : goal.returns
returns c =
    let answers = c.args.answers.now.items in
    let place : c.place_for-place.result ≡ prefix_len (λ answer. not (is_term_before c.args.answer.term answer.term)) answers =
    c.place_for-place.ensures.place ∙ ap (λ (list : List Answer). prefix_len (λ answer. not (is_term_before c.args.answer.term answer.term)) list) c.as_slice.ensures.value in
    c.in_ok-insert.ensures.items ∙ ap (λ (i : ℕ). insert answers i c.args.answer) place ∙ sym (put-place c.args.answer answers)
