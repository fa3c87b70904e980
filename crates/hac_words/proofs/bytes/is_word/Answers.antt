use Rattle.std.proofs.Common.{◌≡◌, rules, arith}
use Rattle.std.proofs.lemmas.Iterator.{YieldsList-from_slice}
use Rattle.std.proofs.lemmas.Iterator.Search.{all_from_yields_List}
use Rattle.std.proofs.lemmas.Bool.Decides.{nat_tests}
use Rattle.std.specs.List.{list_all}
use Rattle.hac_model.specs.Query.Words.{is_lower_word_byte, is_word}
use Rattle.hac_words.proofs.bytes.is_word.Goals as goal

pub returns-then-not-is_empty : goal.returns-then-not-is_empty
unfolding is_word
returns-then-not-is_empty c =
    let all : c.all.result ≡ list_all is_lower_word_byte c.args.bytes.now =
    all_from_yields_List is_lower_word_byte _ _ _ c.all.ensures.ran (YieldsList-from_slice c.args.bytes.now cc) (λ x b q k. search rules) in
    grind (arith, nat_tests, all)
