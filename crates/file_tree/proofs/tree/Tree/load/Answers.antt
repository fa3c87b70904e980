use Rattle.std.proofs.Common.{ℕ, List, [], subst, sym, ap, ◌∙◌}
use Rattle.hac_model.specs.Tree.Valid.{IsLayout}
use Rattle.hac_model.specs.Tree.Bare.{bare}
use Rattle.hac_model.specs.declared.states.State.{State}
use Rattle.hac_model.specs.declared.versions.Version.TheVariants.{Two}
use Rattle.hac_model.proofs.AlikeLemmas.{counts-bare}
use Rattle.hac_model.specs.declared.states.Entry.{Entry}
use Rattle.file_tree.specs.Loading.{IsLoaded}
use Rattle.file_tree.specs.declared.tree.Tree.TheInside.{Inside}
use Rattle.file_tree.specs.declared.ready.Ready.TheVariants.{Nothing}
use Rattle.file_tree.proofs.LoadLemmas.{dirty-loaded, layout-alone, shaped-loaded, state-loaded}
use Rattle.file_tree.proofs.TreeLemmas.{became}
use Rattle.file_tree.proofs.tree.Tree.load.Goals as goal

pub place_all-requires-clause-layout : goal.place_all-requires-clause-layout
place_all-requires-clause-layout c = subst IsLayout (λ i. record { version = Two; next = sym c.in_ok-loading.ensures.next_is i; entries = sym c.into_vec.ensures i; sessions = [] }) (layout-alone c.args.state c.requires.layout)

pub invariant_of-result : goal.invariant_of-result
invariant_of-result c =
    let s : State = c.args.state in
    let loaded : IsLoaded s.next s.entries c.place_all.new.self = subst (λ (n : ℕ). IsLoaded n s.entries c.place_all.new.self) c.in_ok-loading.ensures.next_is
    (subst (λ (es : List Entry). IsLoaded c.in_ok-loading.loading.next es c.place_all.new.self) c.into_vec.ensures c.in-Ok.ensures) in
    let u : Inside = record { alloc = c.args.alloc; version = s.version; next = s.next; nodes = c.place_all.new.self.nodes; documents = c.new.result; ready = Nothing; counts = c.args.counts; to_index = c.place_all.new.self.to_index } in
    became u (bare s) (ap (λ (x : State). record { state = x; ready = Nothing }) (state-loaded s c.requires.layout u (λ i. s.next) (λ i. s.version) loaded.entries_are))
    (shaped-loaded s c.requires.layout u (λ i. s.next) (λ i. s.version) loaded.entries_are loaded.numbers loaded.lists tt)
    (c.requires.counts ∙ sym (counts-bare s)) (λ n. loaded.dirty_are n ∙ sym (dirty-loaded s n))

pub returns-in-Ok : goal.returns-in-Ok
returns-in-Ok c =
    let s : State = c.args.state in
    let loaded : IsLoaded s.next s.entries c.place_all.new.self = subst (λ (n : ℕ). IsLoaded n s.entries c.place_all.new.self) c.in_ok-loading.ensures.next_is
    (subst (λ (es : List Entry). IsLoaded c.in_ok-loading.loading.next es c.place_all.new.self) c.into_vec.ensures c.in-Ok.ensures) in
    let u : Inside = record { alloc = c.args.alloc; version = s.version; next = s.next; nodes = c.place_all.new.self.nodes; documents = c.new.result; ready = Nothing; counts = c.args.counts; to_index = c.place_all.new.self.to_index } in
    ap (λ (x : State). record { state = x; ready = Nothing }) (state-loaded s c.requires.layout u (λ i. s.next) (λ i. s.version) loaded.entries_are)
