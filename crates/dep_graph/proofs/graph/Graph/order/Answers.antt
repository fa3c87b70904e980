use Rattle.std.proofs.Common.{◌≡◌, ℕ, suc, ◌∷◌, nat_eq, List, length, subst, ap, sym, ◌∙◌, arith}
use Rattle.std.specs.List.{list_any}
use Rattle.std.specs.Option.{option_copied}
use Rattle.indexmap.specs.IndexSet.{contains}
use Rattle.dep_graph.specs.Graphs.{edges_with}
use Rattle.dep_graph.specs.Steps.{Visits, entering}
use Rattle.dep_graph.specs.declared.sources.Step.{Step}
use Rattle.dep_graph.specs.declared.sources.Step.TheVariants.{Enter, Leave}
use Rattle.dep_graph.proofs.NextLemmas.{nodes-with-edges, nodes_with}
use Rattle.dep_graph.proofs.StepLemmas.{Ordering, leaves, ordering-begins, ordering-ends, visits-less, visits-on}
use Rattle.dep_graph.proofs.graph.Graph.order.Goals as goal

pub stack-init : goal.stack-init
stack-init c never = ordering-begins (edges_with c.args.self.now (option_copied c.args.next)) c.args.dirs.now c.new-done.result.items (contains nat_eq c.new-seen.result) c.enter.new.stack c.new-done.ensures.items (λ n. ap (λ (ks : List ℕ). list_any (nat_eq n) ks) c.new-seen.ensures.empty) (c.in_ok-enter.ensures ∙ ap (λ (s : List Step). entering c.args.dirs.now s) c.new-stack.ensures)

pub stack-smaller-in-Continue-branch-2 : goal.stack-smaller-in-Continue-branch-2
stack-smaller-in-Continue-branch-2 c =
    let next = option_copied c.args.next in
    let one : length c.stack.stack ≡ suc (length c.pop.new.self) = ap (λ (s : List Step). length s) c.in-Some.ensures in
    let visited = subst (λ (es : List ℕ). Visits es c.in-Enter.number (contains nat_eq c.stack.seen) (contains nat_eq c.visit.new.seen) c.pop.new.self c.visit.new.stack) (c.edges_with.ensures ∙ nodes-with-edges c.args.self.now next c.in-Enter.number) c.in_ok-visit-in-Enter.ensures in
    omega (arith, visits-less (nodes_with c.args.self.now next) (contains nat_eq c.stack.seen) (contains nat_eq c.visit.new.seen) c.in-Enter.number c.pop.new.self c.visit.new.stack visited, one)

pub stack-preserved-in-Continue-branch-2 : goal.stack-preserved-in-Continue-branch-2
stack-preserved-in-Continue-branch-2 c never =
    let edges = edges_with c.args.self.now (option_copied c.args.next) in
    let top : c.stack.stack ≡ Enter c.in-Enter.number ∷ c.pop.new.self = c.in-Some.ensures ∙ ap (λ (s : Step). s ∷ c.pop.new.self) c.in-Enter.is in
    let before = subst (λ (s : List Step). Ordering edges c.args.dirs.now c.stack.done.items (contains nat_eq c.stack.seen) s) top (c.stack.invariant never) in
    let visited = subst (λ (es : List ℕ). Visits es c.in-Enter.number (contains nat_eq c.stack.seen) (contains nat_eq c.visit.new.seen) c.pop.new.self c.visit.new.stack) c.edges_with.ensures c.in_ok-visit-in-Enter.ensures in
    visits-on edges c.args.dirs.now c.stack.done.items (contains nat_eq c.stack.seen) (contains nat_eq c.visit.new.seen) c.in-Enter.number c.pop.new.self c.visit.new.stack never before visited

pub stack-preserved : goal.stack-preserved
stack-preserved c never =
    let edges = edges_with c.args.self.now (option_copied c.args.next) in
    let top : c.stack.stack ≡ Leave c.in-Leave.number ∷ c.pop.new.self = c.in-Some.ensures ∙ ap (λ (s : Step). s ∷ c.pop.new.self) c.in-Leave.is in
    let before = subst (λ (s : List Step). Ordering edges c.args.dirs.now c.stack.done.items (contains nat_eq c.stack.seen) s) top (c.stack.invariant never) in
    subst (λ (d : List ℕ). Ordering edges c.args.dirs.now d (contains nat_eq c.stack.seen) c.pop.new.self) (sym c.in_ok-push-in-Leave.ensures.items) (leaves edges c.args.dirs.now c.stack.done.items (contains nat_eq c.stack.seen) c.in-Leave.number c.pop.new.self never before)

pub returns : goal.returns
returns c never = ordering-ends (edges_with c.args.self.now (option_copied c.args.next)) c.args.dirs.now c.stack.done.items (contains nat_eq c.stack.seen) c.stack.stack (c.stack.invariant never) c.in_default.ensures.0
