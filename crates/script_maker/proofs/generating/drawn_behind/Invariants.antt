use Rattle.std.proofs.Common.{◌≡◌, ◌-◌}
use Rattle.hac_model.specs.Script.Generator.{drawn_behind}
use Rattle.script_maker.proofs.generating.drawn_behind.Given as goal

-- as many places are left as the loop has still to go
abbrev pub invariant-places : goal.invariant-places
invariant-places l = drawn_behind (l.fn.places - l.counter) l.behind ≡ drawn_behind l.fn.places l.fn.drawn
