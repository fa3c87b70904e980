use Rattle.std.proofs.Common.{◌≡◌, ◌∙◌, ℕ, List, None, ap, arith, length, subst, sym, take}
use Rattle.std.specs.Prelude.{◌==◌, if◌then◌else◌}
use Rattle.hac_model.specs.Tree.Asking.{unanswered, with_answers}
use Rattle.hac_model.specs.Tree.Mounting.{answers_to}
use Rattle.hac_model.specs.Tree.Valid.{TermsRise}
use Rattle.hac_model.specs.declared.states.Answer.{Answer}
use Rattle.hac_model.specs.declared.terms.Term.{Term}
use Rattle.kept_facts.specs.Answers.{answers_kept}
use Rattle.kept_facts.specs.AnswersKept.{list_at}
use Rattle.kept_facts.proofs.GainLemmas.{answers-taken}
use Rattle.kept_state.specs.Gains.{asked_at}
use Rattle.kept_state.proofs.AnswerLemmas.{kept-order}
use Rattle.kept_state.proofs.GainLemmas.{mount-asked, nothing-put}
use Rattle.kept_state.proofs.gains.put_gain.Goals as goal

pub returns-then-not-is_mount-clause-lists : goal.returns-then-not-is_mount-clause-lists
returns-then-not-is_mount-clause-lists c =
    nothing-put c.args.kept.now c.requires.linked c.args.query.now c.args.told.now c.args.mount (sym c.is_mount.ensures ∙ c.if-not-is_mount.true) (λ number. list_at c.args.lists.now number) c.requires.none

pub unanswered-requires : goal.unanswered-requires
unanswered-requires c = subst (λ (list : List Answer). TermsRise None list) (sym c.kept_by-answers.ensures) (kept-order c.args.kept.now c.requires.linked c.args.mount).terms

pub split_at-requires : goal.split_at-requires
split_at-requires c =
    let there = sym c.is_mount.ensures ∙ c.if-not-is_mount.false in
    let asked : c.in_ok-terms.terms.items ≡ asked_at c.args.kept.now c.args.query.now c.args.mount =
    c.in_ok-terms.ensures ∙ ap (unanswered c.args.query.now) c.kept_by-answers.ensures ∙ sym (mount-asked c.args.kept.now c.requires.linked c.args.query.now c.args.mount there) in
    let count = ap (λ (ts : List Term). length ts) asked in
    let slice = ap (λ (ts : List Term). length ts) c.as_slice.ensures.value in
    omega (arith, count, slice, c.len-asked.ensures, c.as_slice.ensures.len, c.requires.enough)

pub returns-clause-asked : goal.returns-clause-asked
returns-clause-asked c =
    let there = sym c.is_mount.ensures ∙ c.if-not-is_mount.false in
    let asked : c.in_ok-terms.terms.items ≡ asked_at c.args.kept.now c.args.query.now c.args.mount =
    c.in_ok-terms.ensures ∙ ap (unanswered c.args.query.now) c.kept_by-answers.ensures ∙ sym (mount-asked c.args.kept.now c.requires.linked c.args.query.now c.args.mount there) in
    c.len-asked.ensures ∙ sym c.as_slice.ensures.len ∙ ap (λ (ts : List Term). length ts) (c.as_slice.ensures.value ∙ asked)

pub returns-clause-lists : goal.returns-clause-lists
returns-clause-lists c = λ number.
    let there = sym c.is_mount.ensures ∙ c.if-not-is_mount.false in
    let asked : c.in_ok-terms.terms.items ≡ asked_at c.args.kept.now c.args.query.now c.args.mount =
    c.in_ok-terms.ensures ∙ ap (unanswered c.args.query.now) c.kept_by-answers.ensures ∙ sym (mount-asked c.args.kept.now c.requires.linked c.args.query.now c.args.mount there) in
    let count : c.len-asked.result ≡ length c.in_ok-terms.terms.items = c.len-asked.ensures ∙ sym c.as_slice.ensures.len ∙ ap (λ (ts : List Term). length ts) c.as_slice.ensures.value in
    let told : List (List ℕ) = c.args.told.now in
    let more : c.in_ok-more.more.items ≡ answers_to (asked_at c.args.kept.now c.args.query.now c.args.mount) told =
    c.in_ok-more.ensures ∙ (λ i. answers_to (c.as_slice.ensures.value i) (c.split_at.ensures.front i)) ∙ ap (λ (m : ℕ). answers_to c.in_ok-terms.terms.items (take m told)) count
    ∙ answers-taken c.in_ok-terms.terms.items told ∙ ap (λ (ts : List Term). answers_to ts told) asked in
    let all : c.new.result ≡ with_answers (answers_to (asked_at c.args.kept.now c.args.query.now c.args.mount) told) (answers_kept c.args.kept.now.answers c.args.mount) =
    c.new.ensures ∙ c.in_ok-all.ensures ∙ (λ i. with_answers (more i) (c.kept_by-answers.ensures i)) in
    c.in_ok-put_list.ensures number ∙ ap (λ (answers : List Answer). if number == c.args.mount then answers else list_at c.args.lists.now number) all
