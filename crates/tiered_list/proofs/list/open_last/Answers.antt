use Rattle.std.proofs.Common.{◌≡◌, ◌++◌, [], ℕ, List, ap, sym, ◌∙◌, arith}
use Rattle.std.specs.List.{concat}
use Rattle.std.proofs.lemmas.List.{append-nil, nil_from_length}
use Rattle.tiered_list.specs.Listed.{Listed}
use Rattle.tiered_list.proofs.RunLemmas.{concat-one}
use Rattle.tiered_list.proofs.list.open_last.Goals as goal

pub returns-in-Some-clause-items : goal.returns-in-Some-clause-items
returns-in-Some-clause-items c =
    let runs = c.args.runs.now.items in
    let tail = c.args.tail.now.items in
    let left = c.pop.new.self.items in
    let none : tail ≡ [] = nil_from_length tail (omega (arith, c.len.ensures, c.if-len-gt0.false)) in
    ap (λ (ns : List ℕ). concat left ++ ns) (ap (λ (v : Listed). v.items) c.from_vec.ensures ∙ c.into_vec.ensures)
    ∙ sym (concat-one left c.in-Some.run')
    ∙ ap concat (sym c.in-Some.ensures.items)
    ∙ sym (append-nil (concat runs)) ∙ ap (λ (ns : List ℕ). concat runs ++ ns) (sym none)
