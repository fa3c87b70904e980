use Rattle.std.proofs.Common.{◌≡◌, true, ◌≤◌, ◌<◌, ◌+◌, ◌++◌, ℕ, List, ap, refl, sym, subst, ◌∙◌, arith, inl, inr, length}
use Rattle.std.specs.Prelude.{◌&&◌, nat_le}
use Rattle.std.specs.List.{list_all}
use Rattle.std.proofs.Math.Bool.{or-false}
use Rattle.std.proofs.lemmas.Bool.{and_parts}
use Rattle.std.proofs.lemmas.Bool.Decides.{nat_tests}
use Rattle.hac_model.specs.Tree.Depends.{Among}
use Rattle.hac_model.specs.Tree.Mounting.{do_names_rise}
use Rattle.hac_model.specs.Tree.Names.{is_name}
use Rattle.hac_model.specs.Tree.{is_mount_at}
use Rattle.hac_model.specs.declared.limits.TheConstants.{DOCS_LIMIT, NUMBERS_LIMIT}
use Rattle.file_tree.specs.Answers.{is_dirty_at}
use Rattle.file_tree.specs.Documents.{numbers_for}
use Rattle.tree_nodes.specs.Documents.{numbers_from, unknown}
use Rattle.tree_nodes.specs.Nodes.{name_of}
use Rattle.tree_nodes.specs.Search.{first_named}
use Rattle.file_tree.specs.Seen.{Seen}
use Rattle.file_tree.specs.Shape.{seen_of, state_of}
use Rattle.file_tree.specs.declared.ready.Ready.TheVariants.{Nothing, Sync}
use Rattle.file_tree.specs.declared.tree.Tree.TheInside.{Inside}
use Rattle.file_tree.proofs.ChildLemmas.{entry-node}
use Rattle.file_tree.proofs.DroppedLemmas.{finds, member-low, mount-inside}
use Rattle.file_tree.proofs.NumberLemmas.{number-from}
use Rattle.file_tree.proofs.StateLemmas.{state-same}
use Rattle.file_tree.proofs.SyncLemmas.{find, find-member, member}
use Rattle.file_tree.proofs.TreeLemmas.{next-small, ready-nothing, set-clean, spare-nothing, tree-readied}
use Rattle.file_tree.proofs.tree.Tree.prepare_sync.Goals as goal

pub list_numbers-requires-clause-few : goal.list_numbers-requires-clause-few
list_numbers-requires-clause-few c =
    let small : c.self.inside.next ≤ NUMBERS_LIMIT = next-small c.self.inside c.self.invariant in
    let names = c.args.documents.now in
    let parts = and_parts (list_all is_name names) (do_names_rise names && nat_le (length names) DOCS_LIMIT) c.requires.documents in
    let count : length names ≤ DOCS_LIMIT = grind (arith, nat_tests, (and_parts (do_names_rise names) (nat_le (length names) DOCS_LIMIT) parts.1).1) in
    let same : length c.as_slice.result.now ≡ length names = ap length c.as_slice.ensures in
    omega (arith, c.get-first.ensures)

pub invariant_of-self : goal.invariant_of-self
invariant_of-self c =
    tree-readied c.self.inside c.self.invariant _ refl refl c.prepare_nodes.ensures.entries
    (λ n low. c.prepare_nodes.ensures.names n (omega (arith, c.get-first.ensures))) c.prepare_nodes.ensures.kids
    (λ n low. c.prepare_nodes.ensures.others n (omega (arith, c.get-first.ensures)))
    (spare-nothing c.self.inside c.args.self.now.state (c.self.view_is ∙ c.forget.ensures) c.prepare_nodes.new.nodes c.self.inside.next) refl c.self.invariant.dirty_are c.self.invariant.documents_are

module _ (c : goal.Joined-self) where
  view : seen_of c.self.inside ≡ record { state = c.args.self.now.state; ready = Nothing }
  view = c.self.view_is ∙ c.forget.ensures

  is : is_mount_at (state_of c.self.inside).entries c.args.mount ≡ true
  is = mount-inside c.self.inside (record { state = c.args.self.now.state; ready = Nothing }) view c.args.mount c.requires.mount

  same : first_named (name_of c.self.inside.nodes) c.children_at-known.result ≡ find c.self.inside c.self.invariant.shaped c.args.mount is
  same = finds c.self.inside (record { state = c.args.self.now.state; ready = Nothing }) view c.args.mount c.self.invariant.shaped is (name_of c.self.inside.nodes) c.children_at-known.result (λ q. refl) c.children_at-known.ensures

  numbers : c.new-numbers-2.result ≡ numbers_from (find c.self.inside c.self.invariant.shaped c.args.mount is) c.self.inside.next c.args.documents.now
  numbers =
      c.new-numbers-2.ensures ∙ c.in_ok-end.ensures.numbers
      ∙ (λ i. c.new-numbers.ensures.items i ++ numbers_from (same i) (c.get-first.ensures i) (c.as_slice.ensures i))

  end : c.in_ok-end.end ≡ c.self.inside.next + length (unknown (find c.self.inside c.self.invariant.shaped c.args.mount is) c.args.documents.now)
  end = c.in_ok-end.ensures.next ∙ (λ i. c.get-first.ensures i + length (unknown (same i) (c.as_slice.ensures i)))

pub invariant_of-self-2 : goal.invariant_of-self-2
invariant_of-self-2 c =
    let t = c.self.inside in
    let h = c.self.invariant.shaped in
    let last : c.in_ok-end.end ≡ t.next + length (unknown (find t h c.args.mount (is c)) c.args.documents.now) = end c in
    tree-readied t c.self.invariant _ refl refl c.prepare_nodes.ensures.entries
    (λ n low. c.prepare_nodes.ensures.names n (omega (arith, c.get-first.ensures))) c.prepare_nodes.ensures.kids
    (λ n low. c.prepare_nodes.ensures.others n (omega (arith, c.get-first.ensures)))
    (λ q among. elim (number-from (find t h c.args.mount (is c)) c.args.documents.now t.next q (subst (λ (ns : List ℕ). Among ns q) (numbers c) among)) [
      | inl known ↦
          (let own = find-member t h c.args.mount (is c) known.0 q known.2 in
          let entry = member t h c.args.mount (is c) q own.0 in
          let low : q < t.next = member-low t h c.args.mount (is c) q own.0 in
          c.prepare_nodes.ensures.others q (omega (arith, c.get-first.ensures)) ∙ entry-node t.nodes q entry.0 entry.1)
      | inr new ↦
          (let high : t.next ≤ q = new.0 in
          let low : q < t.next + length (unknown (find t h c.args.mount (is c)) c.args.documents.now) = new.1 in
          c.in_ok-prepare_nodes.ensures.there q (omega (arith, c.get-first.ensures)) (omega arith))
    ])
    refl
    (λ n. set-clean t c.self.invariant (ready-nothing t c.args.self.now.state (view c)) n ∙ sym (or-false (is_dirty_at (state_of t).entries n)))
    tt

pub returns-clause-ok : goal.returns-clause-ok
returns-clause-ok c =
    let t = c.self.inside in
    let u : Inside = record t { nodes = c.prepare_nodes.new.nodes; ready = Sync c.args.mount c.new-numbers-2.result } in
    let state = state-same t (record { state = c.args.self.now.state; ready = Nothing }) (view c) c.self.invariant.shaped u refl refl c.prepare_nodes.ensures.entries in
    let list = numbers c ∙ ap (λ (x : Seen). numbers_for x.state c.args.mount c.args.documents.now) (view c) in
    λ i. record { state = state i; ready = Sync c.args.mount (list i) }
