use Rattle.std.proofs.Common.{◌≡◌, ℕ, List, None, ap, sym, ◌∙◌}
use Rattle.std.specs.BTreeMap.{is_at}
use Rattle.std.specs.List.{list_any}
use Rattle.std.specs.Ordering.{nat_cmp}
use Rattle.std.proofs.lemmas.Bool.{ne_eqb}
use Rattle.hac_model.specs.Tree.{root_alone}
use Rattle.hac_model.specs.declared.states.State.{State}
use Rattle.tree_nodes.specs.Nodes.{entry_of}
use Rattle.file_tree.specs.declared.ready.Ready.TheVariants.{Nothing}
use Rattle.file_tree.proofs.NewLemmas.{empty-entry, empty-kids, empty-node, shaped-new, state-new}
use Rattle.file_tree.proofs.TreeLemmas.{became}
use Rattle.file_tree.proofs.tree.Tree.new.Goals as goal

pub invariant_of-result : goal.invariant_of-result
invariant_of-result c =
    let entries : (n : ℕ) → entry_of c.prepare.new.nodes n ≡ None = λ n. c.prepare.ensures.entries n ∙ empty-entry c.new-nodes.result c.new-nodes.ensures.empty n in
    became _ (root_alone c.args.version)
    (ap (λ (s : State). record { state = s; ready = Nothing }) (state-new (record { alloc = c.args.alloc; version = c.args.version; next = c.new.result; nodes = c.prepare.new.nodes; documents = c.new-2.result; ready = Nothing; counts = c.of_root.result; to_index = c.new-3.result }) c.new.ensures entries))
    (shaped-new _ c.new.ensures entries
    (λ dir. c.prepare.ensures.kids dir ∙ empty-kids c.new-nodes.result c.new-nodes.ensures.empty dir)
    c.in_ok-prepare.ensures.there
    (λ n other. c.prepare.ensures.others n (ne_eqb 0 n (λ same. other (sym same))) ∙ empty-node c.new-nodes.result c.new-nodes.ensures.empty n) tt)
    c.of_root.ensures
    (λ n. ap (λ (ks : List ℕ). list_any (is_at (nat_cmp n)) ks) c.new-3.ensures.empty)
