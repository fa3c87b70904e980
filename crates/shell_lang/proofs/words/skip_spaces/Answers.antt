-- The front has no more spaces than there are bytes.
use Rattle.std.proofs.Common.{rules, arith}
use Rattle.std.proofs.lemmas.List.Sums.{prefix_len-le-length}
use Rattle.hac_model.specs.Bytes.{is_space}
use Rattle.shell_lang.proofs.words.skip_spaces.Goals as goal

pub slice_bounds-result-count : goal.slice_bounds-result-count
slice_bounds-result-count c = omega (arith, prefix_len-le-length is_space c.args.bytes.now)

pub slice_bounds-result-start : goal.slice_bounds-result-start
slice_bounds-result-start c = search (rules, prefix_len-le-length is_space c.args.bytes.now)
