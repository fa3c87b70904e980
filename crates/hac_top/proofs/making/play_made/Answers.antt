use Rattle.std.proofs.Common.{Err, ap, ◌∙◌}
use Rattle.std.proofs.lemmas.Result.{err_from_is_err_and}
use Rattle.hac_top.specs.Devices.{ScriptLeft}
use Rattle.hac_top.proofs.MakingLemmas.{made-by, made-none}
use Rattle.hac_top.proofs.making.play_made.Goals as goal

pub returns-in_err-make_script : goal.returns-in_err-make_script
returns-in_err-make_script g c =
    let stop = err_from_is_err_and c.from_residual.result c.from_residual.ensures.1 in
    rw (stop.1 ∙ ap Err stop.2)
    (made-none (g.D.Disk.seen c.args.disk.now) (g.met.D.Disk.lawful c.args.disk.now) c.args.player.now.tick c.args.number c.args.probes.now (g.P.Spaces.seen c.args.spaces.now) c.args.player.now.store c.args.player.now.refused c.requires.begun c.requires.usable)

-- the script is that of the number
pub returns : goal.returns
returns g c = made-by c.new-source.result c.play_script.new.input (ap (λ (source : ScriptLeft). source.left) c.new-source.ensures ∙ c.in_ok-make_script.ensures) c.play_script.ensures
