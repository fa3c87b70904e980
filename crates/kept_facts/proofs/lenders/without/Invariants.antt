use Rattle.std.proofs.Common.{◌≡◌, ◌++◌, drop}
use Rattle.hac_model.specs.Tree.Events.{without}
use Rattle.kept_facts.proofs.lenders.without.Given as goal

-- the others were copied so far
abbrev pub invariant-dirs : goal.invariant-dirs
invariant-dirs l = l.after.items ++ without l.dir (drop l.other-index l.dirs) ≡ without l.fn.dir l.fn.dirs
