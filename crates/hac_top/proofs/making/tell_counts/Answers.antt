use Rattle.std.proofs.Common.{◌≡◌, Err, ap, ◌∙◌, subst}
use Rattle.hac_model.specs.declared.replies.Reply.{Reply}
use Rattle.hac_model.specs.Script.Printed.{text}
use Rattle.std.specs.Prelude.{[], ◌∷◌}
use Rattle.std.proofs.lemmas.Result.{err_from_is_err_and}
use Rattle.hac_top.specs.Making.{counts_reply}
use Rattle.hac_top.specs.Replies.{StopsWriting, WritesAll}
use Rattle.hac_top.proofs.MakingLemmas.{told-all, told-some}
use Rattle.hac_top.proofs.making.tell_counts.Goals as goal

pub returns-in_err-write_reply-clause-tells : goal.returns-in_err-write_reply-clause-tells
returns-in_err-write_reply-clause-tells g c =
    let seen = g.K.Sink.seen in
    let stop = err_from_is_err_and c.from_residual-in_err-write_reply.result c.from_residual-in_err-write_reply.ensures.1 in
    let is : c.in_ok-reply.reply ≡ counts_reply c.args.player.now.store.setting.state = c.in_ok-reply.ensures.reply ∙ ap counts_reply c.machine.ensures.state in
    rw (stop.1 ∙ ap Err stop.2)
    (told-some c.args.played c.in_ok-refused.refused c.in_err-write_reply.field-0.0 c.args.player.now.store.setting.state (seen c.args.output.now) (seen c.write_reply.new.output) c.in_ok-refused.was
    (subst (λ (reply : Reply). StopsWriting c.in_err-write_reply.field-0.0 (seen c.args.output.now) (seen c.write_reply.new.output) (text (reply ∷ []))) is c.in_err-write_reply.ensures.err))

pub returns-clause-tells : goal.returns-clause-tells
returns-clause-tells g c =
    let seen = g.K.Sink.seen in
    let is : c.in_ok-reply.reply ≡ counts_reply c.args.player.now.store.setting.state = c.in_ok-reply.ensures.reply ∙ ap counts_reply c.machine.ensures.state in
    told-all c.args.played c.in_ok-refused.refused c.args.player.now.store.setting.state (seen c.args.output.now) (seen c.write_reply.new.output) c.in_ok-refused.was
    (subst (λ (reply : Reply). WritesAll (seen c.args.output.now) (seen c.write_reply.new.output) (text (reply ∷ []))) is c.in_ok-write_reply.ensures.ok)
