use Rattle.std.proofs.Common.{◌<◌, ◌-◌, ◌++◌, ◌∷◌, [], ℕ, List, map, arith, ap, sym, ◌∙◌, append_assoc}
use Rattle.std.specs.Prelude.{reverse}
use Rattle.std.proofs.lemmas.List.{append-nil, reverse-append}
use Rattle.hac_model.specs.Tree.{ancestors}
use Rattle.hac_model.specs.declared.states.Entry.{Entry}
use Rattle.hac_model.proofs.PathLemmas.{ancestors-none}
use Rattle.file_tree.proofs.ReadLemmas.{on_ok-map, seen-none, seen-some}
use Rattle.file_tree.proofs.StepLemmas.{ancestors-next}
use Rattle.file_tree.proofs.tree.Tree.+push_names.Goals as goal

abbrev names : List Entry → List (List ℕ)
names es = reverse (map (λ (e : Entry). e.name) es)

pub returns-in_default : goal.returns-in_default
returns-in_default t c = rw (ancestors-none c.args.steps c.args.self.now.state.entries c.args.entry (seen-none c.self.inside c.args.self.now c.self.view_is c.self.invariant.shaped c.args.entry c.entry_at.result c.entry_at.ensures c.in_default.is)) (sym (append-nil c.args.path.now))

pub returns : goal.returns
returns t c =
    let some : 0 < c.args.steps = omega arith in
    let step = ancestors-next c.args.steps c.args.self.now.state.entries c.args.entry _ some (seen-some c.self.inside c.args.self.now c.self.view_is c.self.invariant.shaped c.args.entry c.entry_at.result c.entry_at.ensures c.in-Some.node c.in-Some.is) in
    on_ok-map c.push.result c.push.ensures.ok (λ done.
    done
    ∙ ap (λ (name : List ℕ). c.push_names.new.path ++ name ∷ []) c.in_ok-clone.ensures.cases
    ∙ ap (λ (path : List (List ℕ)). path ++ c.in-Some.node.now.name ∷ []) c.in_ok-push_names.ensures
    ∙ append_assoc c.args.path.now _ (c.in-Some.node.now.name ∷ [])
    ∙ ap (λ (ns : List (List ℕ)). c.args.path.now ++ ns) (sym (ap names step ∙ reverse-append (c.in-Some.node.now.name ∷ []) (map (λ (e : Entry). e.name) (ancestors (c.args.steps - 1) c.args.self.now.state.entries c.in-Some.node.now.parent)))))
