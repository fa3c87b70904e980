use Rattle.std.proofs.Common.{refl}
use Rattle.hac_model.specs.declared.events.Event.TheVariants.{Cd}
use Rattle.kept_state.proofs.KeptLemmas.{put-still}
use Rattle.kept_state.proofs.ready.put_session.Goals as goal

pub returns : goal.returns
returns c =
    let kept = c.args.kept.now in
    put-still kept (record kept { sessions = c.args.sessions }) (Cd c.args.session c.args.dir) c.requires.linked c.requires.happens refl refl refl refl refl c.requires.sessions
