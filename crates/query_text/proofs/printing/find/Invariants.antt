use Rattle.std.proofs.Common.{◌≡◌, drop}
use Rattle.query_text.specs.Printing.{path_at}
use Rattle.query_text.proofs.printing.find.Given as goal

-- the path is the one that the rest gives
abbrev pub invariant-loop-named : goal.invariant-loop-named
invariant-loop-named l = path_at (drop l.named-index l.paths) l.dir ≡ path_at l.paths l.dir
