-- A word is no longer than the bytes that it begins.
use Rattle.std.proofs.Common.{arith}
use Rattle.std.specs.Prelude.{not}
use Rattle.std.proofs.lemmas.List.Sums.{prefix_len-le-length}
use Rattle.hac_model.specs.Bytes.{is_space}
use Rattle.shell_lang.proofs.words.split_run.Goals as goal

pub split_at-requires : goal.split_at-requires
split_at-requires c = omega (arith, prefix_len-le-length (λ b. not (is_space b)) c.skip_spaces-bytes.result.now)
