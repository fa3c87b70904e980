use Rattle.std.proofs.Common.{ap, refl}
use Rattle.file_tree.specs.Seen.{Seen}
use Rattle.kept_state.proofs.KeptLemmas.{put-still}
use Rattle.kept_state.proofs.ready.put_step.Goals as goal

pub returns : goal.returns
returns c = put-still c.args.kept.now _ _ c.requires.linked c.requires.happens refl (ap (λ (t : Seen). t.state) c.step.ensures) refl refl refl refl
