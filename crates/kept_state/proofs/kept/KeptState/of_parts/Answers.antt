use Rattle.std.proofs.Common.{◌≡◌, ℕ, List, [], ap, sym, subst, ◌∙◌}
use Rattle.hac_model.specs.declared.states.Answer.{Answer}
use Rattle.hac_model.specs.declared.states.State.{State}
use Rattle.kept_facts.specs.Answers.{answers_kept}
use Rattle.kept_facts.specs.AnswersKept.{list_at}
use Rattle.kept_state.specs.Readers.{ArePartsOf}
use Rattle.kept_state.specs.declared.parts.Parts.{Parts}
use Rattle.kept_state.proofs.PartsLemmas.{parts-linked, parts-state}
use Rattle.kept_state.proofs.kept.KeptState.of_parts.Goals as goal

pub invariant_of-result : goal.invariant_of-result
invariant_of-result c =
    let kept : Parts = record { tree = c.args.tree; marks = c.args.marks; answers = c.of_lists.result; graph = c.args.graph; sessions = c.new-2.result } in
    let s : State = c.requires.0 in
    let lists : answers_kept c.of_lists.result ≡ list_at c.args.answers = ap answers_kept c.of_lists.ensures in
    record {
      linked = parts-linked kept s (subst (λ (f : ℕ → List Answer). ArePartsOf s c.args.tree.state c.args.marks f c.args.graph) (sym lists) c.requires.1) (c.new-2.ensures ∙ c.new.ensures.items);
      ready = tt;
      happen = tt;
    }

pub returns : goal.returns
returns c = λ s h.
    let kept : Parts = record { tree = c.args.tree; marks = c.args.marks; answers = c.of_lists.result; graph = c.args.graph; sessions = c.new-2.result } in
    let lists : answers_kept c.of_lists.result ≡ list_at c.args.answers = ap answers_kept c.of_lists.ensures in
    ap (λ (t : State). record { state = t; ready = [] })
    (parts-state kept s (subst (λ (f : ℕ → List Answer). ArePartsOf s c.args.tree.state c.args.marks f c.args.graph) (sym lists) h) (c.new-2.ensures ∙ c.new.ensures.items))
