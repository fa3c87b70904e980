use Rattle.std.proofs.Common.{ap, refl}
use Rattle.file_tree.specs.Seen.{Seen}
use Rattle.kept_state.proofs.KeptLemmas.{put-still}
use Rattle.kept_state.proofs.PutLemmas.{text-there}
use Rattle.kept_state.proofs.ready.put_text.Goals as goal

pub set_text-requires-clause-file : goal.set_text-requires-clause-file
set_text-requires-clause-file c = text-there c.args.kept.now c.args.file c.args.text c.requires.may.happens

pub returns : goal.returns
returns c = put-still c.args.kept.now _ _ c.requires.may.linked c.requires.may.happens refl (ap (λ (t : Seen). t.state) c.set_text.ensures) refl refl refl refl
