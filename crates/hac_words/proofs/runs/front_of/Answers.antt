use Rattle.std.proofs.Common.{◌∙◌}
use Rattle.hac_words.proofs.FrontLemmas.{front_of-bytes, front_of-filled}
use Rattle.hac_words.proofs.runs.front_of.Goals as goal

pub returns : goal.returns
returns c = c.from_be_bytes.ensures ∙ front_of-bytes _ ∙ front_of-filled c.args.bytes.now c.copy_from_slice.new.self c.min.result _ c.min.ensures c.copy_from_slice.ensures.after
