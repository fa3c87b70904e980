use Rattle.std.proofs.Common.{◌∙◌, nat_eq, rules, arith}
use Rattle.std.proofs.lemmas.Iterator.{YieldsList-from_slice, YieldsList-from_zip}
use Rattle.std.proofs.lemmas.Iterator.Search.{all_from_yields_List}
use Rattle.std.specs.Char.{to_ascii_lowercase}
use Rattle.hac_words.proofs.RunLemmas.{begins-zip}
use Rattle.hac_words.proofs.standing.begins.Goals as goal

pub returns-then-text-letters : goal.returns-then-text-letters
returns-then-text-letters c =
    all_from_yields_List (λ p. nat_eq p.0 (to_ascii_lowercase p.1)) c.all.new.self _ _ c.all.ensures.ran
    (YieldsList-from_zip (YieldsList-from_slice c.args.letters.now cc) (YieldsList-from_slice c.args.text.now cc)) (λ x b q k. search rules)
    ∙ begins-zip c.args.letters.now c.args.text.now (omega arith)
