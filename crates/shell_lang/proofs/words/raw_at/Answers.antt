-- A plain word is written as it is.
use Rattle.std.proofs.Common.{◌≡◌, inl, refl, rules}
use Rattle.std.specs.Prelude.{Ok}
use Rattle.hac_model.specs.Script.LineWords.{word_at}
use Rattle.shell_lang.proofs.words.raw_at.Goals as goal

pub returns-in_default : goal.returns-in_default
returns-in_default c =
    let reads : word_at c.args.bytes.now ≡ Ok (c.split_run.result.0.now, c.split_run.result.1.now) = search rules in
    (c.split_run.result.0.now, (inl refl, reads))
