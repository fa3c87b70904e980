use Rattle.std.proofs.Common.{◌≡◌, take}
use Rattle.std.specs.List.{flat_map}
use Rattle.hac_model.specs.Tree.Paths.{slashed}
use Rattle.hac_names.proofs.printing.print_path.Given as goal

-- the names so far, each behind a slash
abbrev pub invariant-loop-name : goal.invariant-loop-name
invariant-loop-name l = l.text.items ≡ flat_map slashed (take l.name-index l.path)
