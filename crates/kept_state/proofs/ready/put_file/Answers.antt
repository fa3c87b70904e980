use Rattle.std.proofs.Common.{ap, refl}
use Rattle.file_tree.specs.Seen.{Seen}
use Rattle.kept_state.proofs.KeptLemmas.{put-still}
use Rattle.kept_state.proofs.ready.put_file.Goals as goal

pub returns : goal.returns
returns c = put-still c.args.kept.now _ _ c.requires.may.linked c.requires.may.happens refl (ap (λ (t : Seen). t.state) c.add.ensures) refl refl refl refl
