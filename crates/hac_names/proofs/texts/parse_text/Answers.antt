-- Where nothing is left, the text so far is the whole text.
use Rattle.std.proofs.Common.{◌≡◌, length, ◌∙◌, rules}
use Rattle.hac_names.proofs.Spelled.{text_of-end}
use Rattle.hac_names.proofs.texts.parse_text.Goals as goal

pub returns : goal.returns
returns c =
    let none_left : length c.loop-rest.rest.now ≡ 0 = search rules in
    c.loop-rest.invariant ∙ text_of-end c.loop-rest.text.items c.loop-rest.rest.now none_left
