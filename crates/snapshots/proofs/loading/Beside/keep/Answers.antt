use Rattle.std.proofs.Common.{◌≡◌, ℕ, List, refl, ap, sym, ◌∙◌}
use Rattle.std.specs.Prelude.{Some}
use Rattle.hac_model.specs.Query.Formula.{Formula}
use Rattle.hac_model.specs.Tree.{is_directory_at}
use Rattle.hac_model.specs.Tree.Facts.{edges_to}
use Rattle.hac_model.specs.declared.states.Answer.{Answer}
use Rattle.hac_model.specs.declared.states.Body.TheVariants.{Semantic, Mount}
use Rattle.hac_model.specs.declared.states.Entry.{Entry}
use Rattle.snapshots.specs.declared.loading.Beside.{Beside}
use Rattle.snapshots.proofs.BesideLemmas.{beside-answered, beside-asked, beside-untold, on_ok-two}
use Rattle.file_tree.proofs.ReadLemmas.{on_ok-map}
use Rattle.snapshots.proofs.loading.Beside.keep.Goals as goal

pub returns-in_ok-keep_edges-in-Semantic : goal.returns-in_ok-keep_edges-in-Semantic
returns-in_ok-keep_edges-in-Semantic c = λ before new h.
    let e : Entry = c.args.entry.now in
    let old : Beside = c.args.self.now in
    let after : Beside = record { marks = c.keep_marks.new.marks; answers = old.answers; graph = c.keep_edges.new.graph } in
    let query : Formula ℕ = c.in-Semantic.query in
    let permanent : List ℕ = c.as_slice-in-Semantic.result.now in
    let prohibited : List ℕ = c.as_slice-in-Semantic-2.result.now in
    let is : e.body ≡ Semantic query permanent prohibited =
    c.in-Semantic.is ∙ (λ i. Semantic query (sym c.as_slice-in-Semantic.ensures i) (sym c.as_slice-in-Semantic-2.ensures i)) in
    let edges : c.in_ok-edges-in-Semantic.edges.items ≡ edges_to (is_directory_at c.args.entries.now) e.parent (Some query) permanent =
    c.in_ok-edges-in-Semantic.ensures ∙ ap (λ (xs : List ℕ). edges_to (is_directory_at c.args.entries.now) e.parent (Some query) xs) (c.as_slice.ensures ∙ sym c.as_slice-in-Semantic.ensures) in
    on_ok-two c.keep_marks.result c.keep_marks.ensures.lists c.keep_marks.ensures.sets
    (λ lists sets. beside-asked (is_directory_at c.args.entries.now) before e new old after h query permanent prohibited c.in_ok-edges-in-Semantic.edges.items is edges lists sets (λ n. refl) c.in_ok-keep_edges-in-Semantic.ensures)

pub returns-in-Mount : goal.returns-in-Mount
returns-in-Mount c = λ before new h.
    let e : Entry = c.args.entry.now in
    let old : Beside = c.args.self.now in
    let after : Beside = record { marks = old.marks; answers = c.keep_answers.new.lists; graph = old.graph } in
    let answers : List Answer = c.as_slice-in-Mount.result.now in
    let is : e.body ≡ Mount c.in-Mount.space answers =
    c.in-Mount.is ∙ (λ i. Mount c.in-Mount.space (sym c.as_slice-in-Mount.ensures i)) in
    on_ok-map c.keep_answers.result c.keep_answers.ensures
    (λ lists. beside-answered (is_directory_at c.args.entries.now) before e new old after h c.in-Mount.space answers is refl refl lists)

pub returns-in-File : goal.returns-in-File
returns-in-File c = λ before new h. beside-untold (is_directory_at c.args.entries.now) before c.args.entry.now new c.args.self.now c.args.self.now h c.in-File.is

pub returns-in-File-2 : goal.returns-in-File-2
returns-in-File-2 c = λ before new h. beside-untold (is_directory_at c.args.entries.now) before c.args.entry.now new c.args.self.now c.args.self.now h c.in-File.is

pub returns-in-File-3 : goal.returns-in-File-3
returns-in-File-3 c = λ before new h. beside-untold (is_directory_at c.args.entries.now) before c.args.entry.now new c.args.self.now c.args.self.now h c.in-File.is

pub returns-in-File-4 : goal.returns-in-File-4
returns-in-File-4 c = λ before new h. beside-untold (is_directory_at c.args.entries.now) before c.args.entry.now new c.args.self.now c.args.self.now h c.in-File.is
