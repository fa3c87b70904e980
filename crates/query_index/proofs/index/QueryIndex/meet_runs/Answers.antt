use Rattle.std.proofs.Common.{◌≡◌, ◌<◌, ℕ, List, [], ◌∷◌, length, take, get_or, rules, tests, arith, ap, subst, sym, ◌∙◌}
use Rattle.std.specs.Prelude.{◌++◌, Bool, filter, not}
use Rattle.std.specs.List.{slice_split}
use Rattle.std.proofs.lemmas.Iterator.Consumers.{YieldsList-turn, YieldsList-end}
use Rattle.std.proofs.lemmas.Iterator.Splits.{YieldsList-from_slice_split}
use Rattle.std.proofs.lemmas.List.{length_push, take_all, take_more}
use Rattle.std.proofs.lemmas.List.Elements.{filter-append}
use Rattle.hac_model.specs.Query.Words.{has_bytes, is_word_byte}
use Rattle.query_index.specs.Inner.{Meets}
use Rattle.query_index.proofs.IndexLemmas.{meets-both, meets-none}
use Rattle.query_index.proofs.index.QueryIndex.meet_runs.Goals as goal

pub loop-run-init : goal.loop-run-init
loop-run-init c = meets-none c.args.self.now c.args.met.now

pub loop-run-preserved : goal.loop-run-preserved
loop-run-preserved c =
    let at = c.into_iter-run-iterator.ensures.into_iter_gives in
    let apart : ℕ → Bool = λ b. not (is_word_byte b) in
    let parts : List (List ℕ) = slice_split apart c.args.text.now in
    let done : ℕ = length c.loop-run.yielded in
    let run : List ℕ = c.in-Some.run'.now in
    let turn : (done < length parts) × (run ≡ get_or parts done run) =
    YieldsList-turn
    (YieldsList-from_slice_split _ apart c.args.text.now (ap (λ s. s.rest.now) at ∙ c.split-run-items.ensures.rest)
    (ap (λ s. s.done) at ∙ c.split-run-items.ensures.done) (ap (λ s. s.pred) at ∙ c.split-run-items.ensures.closure) (λ x r q k. search (rules, tests)))
    c.loop-run.yielded _ c.loop-run.yielded_by _ _ c.in-Some.run' c.in-Some.is c.next.ensures.steps in
    let more : filter has_bytes (take done parts) ++ filter has_bytes (run ∷ []) ≡ filter has_bytes (take (length (c.loop-run.yielded ++ c.in-Some.run' ∷ [])) parts) =
    sym (filter-append has_bytes (take done parts) (run ∷ []))
    ∙ ap (filter has_bytes)
    (ap (λ (w : List ℕ). take done parts ++ w ∷ []) turn.1 ∙ sym (take_more parts done run turn.0) ∙ ap (λ (n : ℕ). take n parts) (sym (length_push c.loop-run.yielded c.in-Some.run'))) in
    subst (λ (met : List (List ℕ)). Meets c.args.self.now met c.args.met.now c.meet_run.new.met) more
    (meets-both c.args.self.now (filter has_bytes (take done parts)) (filter has_bytes (run ∷ [])) c.args.met.now c.loop-run.met c.meet_run.new.met c.loop-run.invariant c.in_ok-meet_run.ensures)

pub returns : goal.returns
returns c =
    let at = c.into_iter-run-iterator.ensures.into_iter_gives in
    let apart : ℕ → Bool = λ b. not (is_word_byte b) in
    let parts : List (List ℕ) = slice_split apart c.args.text.now in
    let end : length c.loop-run.yielded ≡ length parts = (YieldsList-end
    (YieldsList-from_slice_split _ apart c.args.text.now (ap (λ s. s.rest.now) at ∙ c.split-run-items.ensures.rest)
    (ap (λ s. s.done) at ∙ c.split-run-items.ensures.done) (ap (λ s. s.pred) at ∙ c.split-run-items.ensures.closure) (λ x r q k. search (rules, tests)))
    c.loop-run.yielded _ c.loop-run.yielded_by _ _ c.in-None.is c.next.ensures.steps).1 in
    subst (λ (met : List (List ℕ)). Meets c.args.self.now (filter has_bytes met) c.args.met.now c.loop-run.met) (ap (λ (n : ℕ). take n parts) end ∙ take_all (length parts) parts (omega (arith))) c.loop-run.invariant
