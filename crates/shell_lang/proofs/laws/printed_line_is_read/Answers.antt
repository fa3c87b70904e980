use Rattle.shell_lang.proofs.PrintedLemmas.{printed-read, printed-refused}
use Rattle.shell_lang.proofs.laws.printed_line_is_read.Goals as goal

pub returns-clause-read : goal.returns-clause-read
returns-clause-read c = printed-read

pub returns-clause-refused : goal.returns-clause-refused
returns-clause-refused c = printed-refused
