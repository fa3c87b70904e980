use Rattle.std.proofs.Common.{◌≡◌, ◌≤◌, ◌+◌, ℕ, List, Some, false, cond, refl, ap, subst, sym, ◌∙◌, arith}
use Rattle.std.specs.Prelude.{◌||◌, nat_eq, nat_lt, insert}
use Rattle.std.proofs.lemmas.Bool.Decides.{nat_tests}
use Rattle.hac_model.specs.Tree.Events.{added}
use Rattle.hac_model.specs.declared.limits.TheConstants.{NUMBERS_LIMIT}
use Rattle.hac_model.proofs.LimitLemmas.{limits-within, most-numbers}
use Rattle.file_tree.specs.Answers.{is_dirty_at}
use Rattle.file_tree.specs.Bodies.{body_from}
use Rattle.tree_nodes.specs.Nodes.{entry_of, kids_of, name_of, set_at}
use Rattle.file_tree.specs.Ready.{is_awaited, ready_for}
use Rattle.tree_nodes.specs.Search.{rank_in}
use Rattle.file_tree.specs.Seen.{Seen}
use Rattle.file_tree.specs.Shape.{HasNew, HasSpare}
use Rattle.file_tree.specs.declared.ready.Ready.{Ready}
use Rattle.file_tree.specs.declared.tree.Tree.TheInside.{Inside}
use Rattle.file_tree.proofs.DirtyLemmas.{dirty-added}
use Rattle.file_tree.proofs.ReadLemmas.{seen-layout}
use Rattle.file_tree.proofs.StateLemmas.{shaped-added, state-added}
use Rattle.file_tree.proofs.NewLemmas.{spare-new}
use Rattle.file_tree.proofs.TreeLemmas.{became, set-has}
use Rattle.file_tree.proofs.tree.Tree.add.Goals as goal

pub overflow_add-get : goal.overflow_add-get
overflow_add-get c =
    let after = added c.args.self.now.state c.args.dir c.args.name (body_from c.args.body) in
    let within = limits-within after c.requires.may.layout.limits in
    let low : nat_lt NUMBERS_LIMIT (c.args.self.now.state.next + 1) ≡ false = most-numbers after within in
    let same : c.self.inside.next ≡ c.args.self.now.state.next = ap (λ (x : Seen). x.state.next) c.self.view_is in
    let small : c.args.self.now.state.next + 1 ≤ NUMBERS_LIMIT = grind (arith, nat_tests, low) in
    omega (arith, c.get.ensures)

module _ (c : goal.After-counts-1) where
  abbrev u : Inside
  u = record c.self.inside { next = c.new-self-inside.result; nodes = c.put.new.nodes; ready = c.replace.new.dest; counts = c.args.counts }

  ready : c.self.inside.ready ≡ ready_for c.args.dir c.args.body
  ready = ap (λ (x : Seen). x.ready) c.self.view_is ∙ c.requires.ready

  spare : HasNew c.args.dir c.self.inside.nodes c.self.inside.next
  spare = spare-new c.args.dir c.args.body c.self.inside.nodes c.self.inside.next (subst (λ (r : Ready). HasSpare r c.self.inside.nodes c.self.inside.next) ready c.self.invariant.shaped.spare)

  entries : (n : ℕ) → entry_of c.put.new.nodes n ≡ set_at c.self.inside.next (Some (record { number = c.self.inside.next; parent = c.args.dir; name = c.args.name; body = body_from c.args.body })) (entry_of c.self.inside.nodes) n
  entries n = c.put.ensures.entries n
      ∙ (λ i. set_at c.self.inside.next (Some (record { number = c.self.inside.next; parent = c.args.dir; name = c.args.name; body = c.new_content.ensures i })) (λ q. c.insert_named.ensures.entries q i) n)

  names : (n : ℕ) → name_of c.put.new.nodes n ≡ set_at c.self.inside.next c.args.name (name_of c.self.inside.nodes) n
  names n = c.put.ensures.names n ∙ ap (λ (x : List ℕ). cond (nat_eq c.self.inside.next n) c.args.name x) (c.insert_named.ensures.names n)

  kids : (d : ℕ) → kids_of c.put.new.nodes d ≡ set_at c.args.dir (insert (kids_of c.self.inside.nodes c.args.dir) (rank_in (name_of c.self.inside.nodes) c.args.name (kids_of c.self.inside.nodes c.args.dir)) c.self.inside.next) (kids_of c.self.inside.nodes) d
  kids d = c.put.ensures.kids d ∙ c.insert_named.ensures.kids (c.self.invariant.shaped.lists.rises c.args.dir) d
      ∙ ap (λ (x : List ℕ). set_at c.args.dir (insert (kids_of c.self.inside.nodes c.args.dir) (rank_in (name_of c.self.inside.nodes) x (kids_of c.self.inside.nodes c.args.dir)) c.self.inside.next) (kids_of c.self.inside.nodes) d) c.as_bytes.ensures

  next : c.new-self-inside.result ≡ c.self.inside.next + 1
  next = c.new-self-inside.ensures ∙ ap (λ (k : ℕ). k + 1) c.get.ensures

pub returns : goal.returns
returns c =
    let state = state-added c.self.inside c.args.self.now c.self.view_is c.self.invariant.shaped (u c) c.args.dir c.args.name (body_from c.args.body) (next c) refl (entries c) in
    λ i. record { state = state i; ready = c.replace.ensures.after i }

pub invariant_of-self : goal.invariant_of-self
invariant_of-self c =
    let s = c.args.self.now in
    became (u c) (added s.state c.args.dir c.args.name (body_from c.args.body)) (returns c)
    (shaped-added c.self.inside s c.self.view_is c.self.invariant.shaped (u c) c.args.dir c.args.name (body_from c.args.body) (next c) refl (entries c) (names c) (kids c)
    (λ n. c.put.ensures.numbers n ∙ c.insert_named.ensures.numbers n) (spare c).0.1 c.requires.may.layout (subst (λ (r : Ready). HasSpare r c.put.new.nodes c.new-self-inside.result) (sym c.replace.ensures.after) tt))
    c.requires.may.counts_are
    (λ n.
    set-has c.self.inside s c.self.view_is c.self.invariant n
    ∙ ap (λ (r : Ready). is_dirty_at s.state.entries n || is_awaited s.state.next r n) c.requires.ready
    ∙ dirty-added s.state c.args.dir c.args.name c.args.body n (seen-layout c.self.inside s c.self.view_is c.self.invariant.shaped))
