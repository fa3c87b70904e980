use Rattle.std.proofs.Common.{◌≡◌, ◌≤◌, ◌+◌, ◌*◌, List, ℕ, IfOk, ap, length, map, subst, sym, ◌∙◌}
use Rattle.hac_model.specs.Query.Queries.{terms}
use Rattle.hac_model.specs.Run.Asks.{told_for, told_to}
use Rattle.hac_model.specs.Run.Play.{found_line}
use Rattle.hac_model.specs.Tree.Asking.{with_told}
use Rattle.hac_model.specs.Tree.Valid.{IsValid}
use Rattle.kept_state.specs.Seen.{Seen}
use Rattle.tree_answers.specs.Asked.{atom_told, mount_of, questions}
use Rattle.tree_answers.specs.declared.asking.Question.{Question}
use Rattle.tree_answers.proofs.LinkLineLemmas.{found-told, items-all}
use Rattle.tree_answers.proofs.QuestionLemmas.{asks-even, mounts-told}
use Rattle.tree_answers.proofs.ToldLemmas.{told-atom}
use Rattle.tree_answers.proofs.lines_of_links.found_lines.Goals as goal

pub told_by-requires : goal.told_by-requires
told_by-requires g c =
    let s = c.args.linked.now.state in
    c.requires ∙ asks-even s c.args.query.now
    ∙ sym (ap (λ (asked : List Question). length asked) (c.as_slice.ensures.value ∙ c.in_ok-questions.ensures ∙ ap (λ (seen : Seen). questions seen.state c.args.query.now) c.kept-kept.ensures))

pub returns-clause-lines : goal.returns-clause-lines
returns-clause-lines g c =
    let s = c.args.linked.now.state in
    let q = c.args.query.now in
    let names = c.args.names.now in
    let valid = subst (λ (seen : Seen). IsValid seen.state) c.kept-kept.ensures c.know_valid.ensures in
    let answered = c.in_ok-questions.ensures ∙ ap (λ (seen : Seen). questions seen.state q) c.kept-kept.ensures in
    let asked : c.as_slice-2.result.now ≡ questions s q = c.as_slice-2.ensures.value ∙ answered in
    let told : c.as_slice-3.result.now ≡ told_for s q names =
    c.as_slice-3.ensures ∙ c.in_ok-documents.ensures
    ∙ ap (λ (seen : Seen). told_to seen.state (map mount_of c.as_slice.result.now) names) c.kept-kept.ensures
    ∙ ap (λ (asked : List Question). told_to s (map mount_of asked) names) (c.as_slice.ensures.value ∙ answered)
    ∙ ap (λ (mounts : List ℕ). told_to s mounts names) (mounts-told s q) in
    subst (λ (found : List ℕ). IfOk c.lines_of_found.result (λ lines. lines.items ≡ map (found_line s) found))
    (found-told s (atom_told s c.as_slice-2.result.now c.as_slice-3.result.now) (with_told q (told_for s q names) s) q valid.layout.numbers
    (λ term item. told-atom s valid q (told_for s q names) term item ∙ (λ i. atom_told s (sym asked i) (sym told i) term item)))
    c.lines_of_found.ensures.lines

-- the items among the numbers that are gone over are all
pub returns-clause-probes : goal.returns-clause-probes
returns-clause-probes g c =
    let s = c.args.linked.now.state in
    let valid = subst (λ (seen : Seen). IsValid seen.state) c.kept-kept.ensures c.know_valid.ensures in
    subst (λ (all : List ℕ). c.lines_of_found.new.probes ≤ c.args.probes.now + length all * terms c.args.query.now) (items-all s valid.layout.numbers) c.lines_of_found.ensures.probes
