use Rattle.std.proofs.Common.{◌≡◌, ℕ, ◌++◌, true, false, nat_eq, List, eq-eqb, length, subst, ap, sym, ◌∙◌, arith}
use Rattle.std.proofs.lemmas.Bool.{eqb-true}
use Rattle.std.proofs.lemmas.List.{append-nil}
use Rattle.indexmap.specs.IndexSet.{contains}
use Rattle.dep_graph.specs.Graphs.{edges_of}
use Rattle.dep_graph.specs.Steps.{Marks}
use Rattle.dep_graph.proofs.OwedLemmas.{owed-opened}
use Rattle.dep_graph.proofs.ReachLemmas.{Searching, finds, misses, opens, passes, unmarked, was-marked}
use Rattle.dep_graph.proofs.graph.Graph.reaches.Goals as goal

pub returns-then-eq-clause-reached : goal.returns-then-eq-clause-reached
returns-then-eq-clause-reached c = λ _. finds (edges_of c.args.self.now) c.args.from c.args.dir (contains nat_eq c.stack.seen) c.stack.stack.items c.pop.new.self.items c.in-Some.number c.stack.invariant c.in-Some.ensures.items (eqb-true c.in-Some.number c.args.dir (sym c.eq.ensures ∙ c.if-eq.true))

pub stack-smaller-in-Continue-branch-3 : goal.stack-smaller-in-Continue-branch-3
stack-smaller-in-Continue-branch-3 c =
    let marks : Marks c.in-Some.number (contains nat_eq c.stack.seen) (contains nat_eq c.insert.new.self) = subst (λ (n : ℕ). Marks n (contains nat_eq c.stack.seen) (contains nat_eq c.insert.new.self)) c.get.ensures c.in_ok-insert.ensures.updates.0 in
    let fresh : contains nat_eq c.stack.seen c.in-Some.number ≡ false = subst (λ (n : ℕ). contains nat_eq c.stack.seen n ≡ false) c.get.ensures (unmarked _ _ c.in_ok-insert.ensures.added c.if-branch.true) in
    omega (arith, owed-opened c.args.self.now.nodes c.in-Some.number (contains nat_eq c.stack.seen) (contains nat_eq c.insert.new.self) marks fresh, c.in_ok-extend_from_slice.ensures.len, ap (λ (ns : List ℕ). length ns) c.edges.ensures, c.in-Some.ensures.cases)

pub stack-preserved-in-Continue-branch-3 : goal.stack-preserved-in-Continue-branch-3
stack-preserved-in-Continue-branch-3 c =
    let marks : Marks c.in-Some.number (contains nat_eq c.stack.seen) (contains nat_eq c.insert.new.self) = subst (λ (n : ℕ). Marks n (contains nat_eq c.stack.seen) (contains nat_eq c.insert.new.self)) c.get.ensures c.in_ok-insert.ensures.updates.0 in
    let apart : c.in-Some.number ≡ c.args.dir → ⊥ = λ same. let never : false ≡ true = sym c.if-eq.false ∙ c.eq.ensures ∙ eq-eqb c.in-Some.number c.args.dir same in absurd cc in
    let all : c.extend_from_slice.new.self.items ≡ c.pop.new.self.items ++ edges_of c.args.self.now c.in-Some.number = c.in_ok-extend_from_slice.ensures.items ∙ ap (λ (ns : List ℕ). c.pop.new.self.items ++ ns) c.edges.ensures in
    subst (λ (s : List ℕ). Searching (edges_of c.args.self.now) c.args.from c.args.dir (contains nat_eq c.insert.new.self) s) (sym all) (opens (edges_of c.args.self.now) c.args.from c.args.dir (contains nat_eq c.stack.seen) (contains nat_eq c.insert.new.self) c.stack.stack.items c.pop.new.self.items c.in-Some.number c.stack.invariant c.in-Some.ensures.items marks apart)

pub stack-preserved : goal.stack-preserved
stack-preserved c =
    let marks : Marks c.in-Some.number (contains nat_eq c.stack.seen) (contains nat_eq c.insert.new.self) = subst (λ (n : ℕ). Marks n (contains nat_eq c.stack.seen) (contains nat_eq c.insert.new.self)) c.get.ensures c.in_ok-insert.ensures.updates.0 in
    let was : contains nat_eq c.stack.seen c.in-Some.number ≡ true = subst (λ (n : ℕ). contains nat_eq c.stack.seen n ≡ true) c.get.ensures (was-marked _ _ c.in_ok-insert.ensures.added c.if-branch.false) in
    passes (edges_of c.args.self.now) c.args.from c.args.dir (contains nat_eq c.stack.seen) (contains nat_eq c.insert.new.self) c.stack.stack.items c.pop.new.self.items c.in-Some.number c.stack.invariant c.in-Some.ensures.items marks was

pub returns-clause-never : goal.returns-clause-never
returns-clause-never c = λ _. misses (edges_of c.args.self.now) c.args.from c.args.dir (contains nat_eq c.stack.seen) c.stack.stack.items c.stack.invariant (c.in_default.ensures.items ∙ append-nil c.pop.new.self.items ∙ rw c.in_default.ensures.cases.0 at c.in_default.ensures.rest)
