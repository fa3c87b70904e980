use Rattle.std.proofs.Common.{◌≡◌, ◌++◌, ◌∙◌, ℕ, List, ap, arith, sym}
use Rattle.std.proofs.lemmas.List.{append-nil, nil_from_length}
use Rattle.hac_model.specs.Tree.Mounts.{terms_in_use}
use Rattle.hac_model.specs.declared.states.Entry.{Entry}
use Rattle.hac_model.specs.declared.states.State.{State}
use Rattle.hac_model.specs.declared.terms.Term.{Term}
use Rattle.file_tree.proofs.LiveLemmas.{through-begins, through-ends, through-goes, through-here}
use Rattle.kept_facts.proofs.UseLemmas.{rest-all, rest-none, rest_from, taken, untaken}
use Rattle.kept_state.proofs.terms.terms_in_use.Goals as goal

-- these terms were taken, and those of the entries from a number on are left
abbrev Taken : State → List Term → ℕ → Type 0
Taken s terms number = terms ++ terms_in_use (rest_from number s.entries) ≡ terms_in_use s.entries

pub entries-init : goal.entries-init
entries-init c =
    let s = c.args.tree.now.state in
    let rise = c.numbers.ensures.layout.numbers in
    through-begins (Taken s c.new-terms.result.items) s.entries s.next rise (λ k none so_far. untaken s k c.new-terms.result.items rise none so_far)
    c.into_iter-number-iterator.result.rest.items (c.into_iter-number-iterator.ensures.into_iter_gives.0 ∙ c.in_ok-number-items.ensures.numbers)
    (ap (λ (ts : List Term). ts ++ terms_in_use (rest_from 0 s.entries)) c.new-terms.ensures.items
    ∙ ap (λ (es : List Entry). terms_in_use es) (rest-all 0 0 s.next s.entries rise (omega arith)))

pub entries-preserved : goal.entries-preserved
entries-preserved c =
    let s = c.args.tree.now.state in
    let rise = c.numbers.ensures.layout.numbers in
    let old : List Term = c.entries.terms.items in
    let new : List Term = c.push_query_terms.new.terms.items in
    let left = c.entries.number-iterator.rest.items in
    let rest = c.next.new.self.rest.items in
    let n = c.in-Some.number in
    let is = c.in-Some.ensures.steps.0 in
    through-goes (Taken s new) s.entries s.next rise (λ k none so_far. untaken s k new rise none so_far) (Taken s old) left n rest is c.entries.invariant
    (taken s n old new rise (through-here (Taken s old) s.entries s.next left n rest is c.entries.invariant) c.in_ok-push_query_terms.ensures)

pub returns : goal.returns
returns c =
    let s = c.args.tree.now.state in
    let rise = c.numbers.ensures.layout.numbers in
    let terms : List Term = c.entries.terms.items in
    let left = c.entries.number-iterator.rest.items in
    sym (append-nil terms)
    ∙ ap (λ (es : List Entry). terms ++ terms_in_use es) (sym (rest-none 0 s.next s.entries rise))
    ∙ through-ends (Taken s terms) s.entries s.next left
    (nil_from_length left (omega (arith, c.in-None.ensures.steps.0, c.entries.number-iterator.rest.ok.0))) c.entries.invariant
