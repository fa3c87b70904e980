use Rattle.hac_names.proofs.Printed.{printed_path}
use Rattle.hac_names.proofs.laws.printed_path_is_read.Goals as goal

pub returns : goal.returns
returns c = printed_path
