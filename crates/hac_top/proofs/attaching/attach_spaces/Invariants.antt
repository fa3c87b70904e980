use Rattle.std.proofs.Common.{◌≡◌, take}
use Rattle.hac_top.specs.Spaces.{HasAttached}
use Rattle.command_line.specs.Words.{spaces_asked}
use Rattle.hac_top.proofs.attaching.attach_spaces.Given as goal

-- the spaces so far are attached, and no other
abbrev pub invariant-loop-space : goal.invariant-loop-space
invariant-loop-space g l =
    record {
      which_is : l.which ≡ l.space-index;
      attached : HasAttached (spaces_asked (take l.space-index l.files)) (g.P.Spaces.seen l.initial.spaces) (g.P.Spaces.seen l.spaces);
    }
