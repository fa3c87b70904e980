use Rattle.std.proofs.Common.{◌≡◌, ◌∙◌}
use Rattle.std.specs.Cmp.Lexicographic.{slice_cmp}
use Rattle.std.specs.Ordering.{nat_cmp}
use Rattle.hac_words.specs.Fronts.{front_of}
use Rattle.hac_words.proofs.FrontLemmas.{fronts-decide}
use Rattle.hac_words.proofs.runs.RunOrd.cmp.Goals as goal

pub returns-in_default : goal.returns-in_default
returns-in_default c =
    let mine = c.self.inside.bytes.now in
    let theirs = c.other.inside.bytes.now in
    let fronts : c.cmp.result ≡ nat_cmp (front_of 8 mine) (front_of 8 theirs) = c.cmp.ensures ∙ (λ i. nat_cmp (c.self.invariant.0 i) (c.other.invariant.0 i)) in
    fronts
    ∙ fronts-decide 8 mine theirs c.self.invariant.1 c.other.invariant.1 (λ same. c.in_default.not-Equal (fronts ∙ same))
    ∙ (λ i. slice_cmp nat_cmp (c.self.view_is i) (c.other.view_is i))
