use Rattle.std.proofs.Common.{◌-◌, [], ◌∷◌, ◌++◌, length, set, ◌∙◌}
use borrow.Rule.Slice.PartMut.{put_mid}
use Rattle.tiered_list.proofs.EditLemmas.{turned-inserts}
use Rattle.tiered_list.proofs.runs.insert_in.Goals as goal

pub returns-clause-numbers : goal.returns-clause-numbers
returns-clause-numbers c =
    let xs = c.args.numbers.now in
    let place = c.args.place in
    let turned = c.rotate_right.new.self in
    (λ i. set (put_mid place (length xs - place) xs turned) place (c.replace.ensures.after i) ++ c.replace.ensures.value i ∷ [])
    ∙ turned-inserts xs turned place c.args.number c.index-numbers-place.result c.requires c.rotate_right.ensures.after
