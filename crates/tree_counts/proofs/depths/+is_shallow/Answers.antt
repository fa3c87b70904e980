use Rattle.std.proofs.Common.{◌≡◌, ◌∙◌, ◌-◌, ◌<◌, ℕ, List, false, get_or, ap, sym, arith}
use Rattle.std.specs.List.{list_all}
use Rattle.std.proofs.lemmas.List.Folds.{list_all_at}
use Rattle.tree_counts.specs.Depths.{is_shallow}
use Rattle.tree_counts.proofs.ShallowLemmas.{shallow-step}
use Rattle.tree_counts.proofs.depths.+is_shallow.Goals as goal

pub returns-then-not-is_shallow : goal.returns-then-not-is_shallow
returns-then-not-is_shallow t c =
    let s = c.args.tree.now.state in
    let names = c.args.names in
    let numbers = c.children-children.result in
    let some : 0 < names = omega (arith, c.if-names-eq0.false) in
    let fails : is_shallow (names - 1) s (get_or numbers c.loop-place.place 0) ≡ false = ap (λ (k : ℕ). is_shallow (names - 1) s k) (sym c.at.ensures) ∙ sym c.is_shallow.ensures ∙ c.if-not-is_shallow.true in
    sym (
    shallow-step names s c.args.entry some
    ∙ ap (λ (ns : List ℕ). list_all (is_shallow (names - 1) s) ns) (sym c.children-children.ensures.numbers)
    ∙ list_all_at (is_shallow (names - 1) s) numbers c.loop-place.place 0 (omega (arith, c.len-place-end.ensures)) fails)
