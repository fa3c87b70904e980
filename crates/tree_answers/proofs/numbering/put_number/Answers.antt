use Rattle.std.proofs.Common.{List, ℕ, ap, subst, sym, ◌∙◌}
use Rattle.std.specs.Prelude.{Err, Ok}
use Rattle.std.specs.List.{insert}
use Rattle.std.proofs.lemmas.List.Sorted.{searched}
use Rattle.hac_model.specs.Tree.Valid.{RiseFrom}
use Rattle.tree_answers.specs.Numbering.{put_number}
use Rattle.tree_answers.proofs.NumberingLemmas.{put-between, put-there}
use Rattle.hac_model.proofs.SortedLemmas.{rise-order}
use Rattle.tree_answers.proofs.numbering.put_number.Goals as goal

pub returns-in_ok-insert : goal.returns-in_ok-insert
returns-in_ok-insert c =
    let ns = c.as_slice.result.now in
    let same = c.as_slice.ensures.value in
    let rise = subst (λ (ns : List ℕ). RiseFrom 0 ns) (sym same) c.requires in
    let place = searched ns c.args.number (Err c.in-Err.place) c.in-Err.ensures.position (rise-order 0 ns rise) in
    c.in_ok-insert.ensures.items
    ∙ ap (λ (ns : List ℕ). insert ns c.in-Err.place c.args.number) (sym same)
    ∙ sym (put-between c.args.number c.in-Err.place ns place.0 place.1 place.2)
    ∙ ap (put_number c.args.number) same

pub returns-in_default : goal.returns-in_default
returns-in_default c =
    let ns = c.as_slice.result.now in
    let same = c.as_slice.ensures.value in
    let rise = subst (λ (ns : List ℕ). RiseFrom 0 ns) (sym same) c.requires in
    let place = searched ns c.args.number (Ok c.in_default.field-0) c.in_default.ensures.position (rise-order 0 ns rise) in
    sym same ∙ sym (put-there 0 c.args.number c.in_default.field-0 ns rise place.0 place.1) ∙ ap (put_number c.args.number) same
