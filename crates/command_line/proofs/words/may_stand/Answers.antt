use Rattle.std.proofs.Common.{◌∙◌, sym}
use Rattle.command_line.proofs.WordSpaces.{stand-read}
use Rattle.command_line.proofs.words.may_stand.Goals as goal

pub returns-then-spaces-le-SPACES_LIMIT : goal.returns-then-spaces-le-SPACES_LIMIT
returns-then-spaces-le-SPACES_LIMIT c = c.names_differ.ensures ∙ sym (stand-read c.args.spaces.now c.if-spaces-le-SPACES_LIMIT.true)
