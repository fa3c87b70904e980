use Rattle.std.proofs.Common.{◌≡◌, ◌+◌, ◌∷◌, ◌++◌, ℕ, List, [], None, Some, ap, length, sym, ◌∙◌, arith}
use Rattle.std.proofs.lemmas.List.{append-nil, append_assoc}
use Rattle.set_pool.specs.Rising.{first_from}
use Rattle.snapshots.specs.Taking.{marked_at}
use Rattle.snapshots.proofs.MarkedLemmas.{from-first, from-none, from_on, next-marked, next-small}
use Rattle.snapshots.proofs.taking.marked.Goals as goal

pub marks-init : goal.marks-init
marks-init c =
    let all : List ℕ = marked_at c.args.kept.now.state c.args.dir c.args.kind in
    ap (λ (ns : List ℕ). ns ++ from_on 0 all) c.new-numbers.ensures.items ∙ from-first all

-- all marks of the kind
abbrev all_of : goal.After-get-from → List ℕ
all_of c = marked_at c.args.kept.now.state c.args.dir c.args.kind

found : (c : goal.After-get-from) → first_from c.marks.from (all_of c) ≡ Some c.in-Some.number
found c = ap (λ (from : ℕ). first_from from (all_of c)) (sym c.new.ensures) ∙ sym c.next_marked.ensures ∙ c.in-Some.is

-- the number that is found comes first of those that were left
left : (c : goal.After-get-from)
    → from_on c.marks.from (all_of c) ≡ c.in-Some.number ∷ from_on (c.get-from.result + 1) (all_of c)
left c =
    let s = c.args.kept.now.state in
    next-marked s c.know_valid.ensures c.args.dir c.args.kind c.marks.from c.in-Some.number (found c)
    ∙ ap (λ (n : ℕ). c.in-Some.number ∷ from_on (n + 1) (all_of c)) (sym c.get-from.ensures)

pub overflow_add-from : goal.overflow_add-from
overflow_add-from c =
    let s = c.args.kept.now.state in
    let small = next-small s c.know_valid.ensures c.args.dir c.args.kind c.marks.from c.in-Some.number (found c) in
    omega (arith, small, c.get-from.ensures)

pub marks-smaller : goal.marks-smaller
marks-smaller c =
    let more = ap (λ (ns : List ℕ). length ns) (left c) in
    omega (arith, more)

pub marks-preserved : goal.marks-preserved
marks-preserved c =
    let rest : List ℕ = from_on (c.get-from.result + 1) (all_of c) in
    ap (λ (ns : List ℕ). ns ++ rest) c.in_ok-push.ensures.items
    ∙ append_assoc c.marks.numbers.items (c.in-Some.number ∷ []) rest
    ∙ ap (λ (ns : List ℕ). c.marks.numbers.items ++ ns) (sym (left c))
    ∙ c.marks.invariant

pub returns : goal.returns
returns c =
    let all : List ℕ = marked_at c.args.kept.now.state c.args.dir c.args.kind in
    let none : first_from c.marks.from all ≡ None =
    ap (λ (from : ℕ). first_from from all) (sym c.new.ensures) ∙ sym c.next_marked.ensures ∙ c.in_default.is in
    sym (append-nil c.marks.numbers.items)
    ∙ ap (λ (ns : List ℕ). c.marks.numbers.items ++ ns) (sym (from-none c.marks.from all none))
    ∙ c.marks.invariant
