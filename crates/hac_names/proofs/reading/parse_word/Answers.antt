use Rattle.std.proofs.Common.{◌≡◌, Ok, rules}
use Rattle.hac_model.specs.Script.PathWords.{word_of}
use Rattle.hac_model.proofs.WordLemmas.{word_of-names}
use Rattle.hac_names.proofs.reading.parse_word.Goals as goal

pub returns-clause-names : goal.returns-clause-names
unfolding word_of
returns-clause-names c =
    let word : word_of c.args.bytes.now ≡ Ok c.if-bytes-eq47.word = search rules in
    word_of-names c.args.bytes.now c.if-bytes-eq47.word word
