use Rattle.std.proofs.Common.{List, ℕ, ap, sym, ◌∙◌, Some}
use Rattle.std.specs.Prelude.{Option}
use Rattle.hac_model.specs.Run.Asks.{mounts_asked}
use Rattle.hac_model.specs.Run.Given.{no_answers}
use Rattle.hac_model.specs.Run.Refusals.{event_of}
use Rattle.hac_model.specs.declared.events.Event.{Event}
use Rattle.hac_model.specs.declared.events.Event.TheVariants as event
use Rattle.hac_model.specs.declared.places.Place.{Place}
use Rattle.hac_model.specs.declared.resolved.Resolved.TheVariants as command
use Rattle.hac_core.proofs.DraftLemmas.{nothing-told}
use Rattle.hac_core.proofs.events.made_by.Goals as goal

abbrev some : Event → Option Event
some e = Some e

pub returns-in-Smkdir : goal.returns-in-Smkdir
returns-in-Smkdir c =
    let s = c.args.kept.now.state in
    let query = c.in-Smkdir.query in
    let found = c.vacancy-dir-in-Smkdir.result in
    ap (event_of no_answers s) c.in-Smkdir.is
    ∙ ap (λ (place : Place). event_of no_answers s (command.Smkdir place query)) c.vacancy-dir-in-Smkdir.ensures
    ∙ ap (λ (told : List (List ℕ)). some (event.Smkdir found.0 found.1 query told)) (nothing-told s (mounts_asked s query) ∙ sym (c.new-told.ensures ∙ c.new.ensures.items))

pub returns-in-Setq : goal.returns-in-Setq
returns-in-Setq c =
    let s = c.args.kept.now.state in
    let query = c.in-Setq.query in
    ap (event_of no_answers s) c.in-Setq.is
    ∙ ap (λ (told : List (List ℕ)). some (event.Setq c.in-Setq.dir query told)) (nothing-told s (mounts_asked s query) ∙ sym (c.new-told-in-Setq.ensures ∙ c.new-in-Setq.ensures.items))
