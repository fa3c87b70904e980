use Rattle.std.proofs.Common.{ap, subst, sym, ◌∙◌}
use Rattle.std.specs.Prelude.{IfErr, IfOk}
use Rattle.hac_model.specs.Run.Answers.{Refuses}
use Rattle.hac_model.specs.Run.Refusals.{cause}
use Rattle.hac_model.specs.Spaces.Answering.{AreAnswersTo}
use Rattle.hac_model.specs.declared.resolved.Resolved.{Resolved}
use Rattle.hac_model.specs.declared.spaces.Asks.{Asks}
use Rattle.hac_model.specs.declared.states.State.{State}
use Rattle.kept_state.specs.Seen as kept
use Rattle.hac_core.specs.Drafts.{IsDraft, IsDraftFor, IsKnownOf, Settles}
use Rattle.hac_core.specs.Seen.{Seen}
use Rattle.hac_core.specs.declared.drafts.Settled.TheVariants as settled
use Rattle.hac_core.proofs.DraftLemmas.{asks-made, known-placed, known-seated, settles-changed, settles-saved, settles-steps}
use Rattle.hac_core.proofs.machine.Machine.settle.Goals as goal

pub settled-requires-clause-seated : goal.settled-requires-clause-seated
settled-requires-clause-seated c =
    let same = ap (λ (seen : kept.Seen). seen.state) c.kept-kept.ensures ∙ ap (λ (seen : Seen). seen.state) c.self.view_is in
    let made = subst (λ (s : State). IsDraft s c.args.draft) (sym same) c.requires.made in
    known-seated c.kept-kept.result.now.state c.know_valid.ensures.layout made.0 c.in-Changes.change c.args.draft.known c.in-Changes.ensures made.1.known

pub settled-requires-clause-counted : goal.settled-requires-clause-counted
settled-requires-clause-counted c =
    let same = ap (λ (seen : kept.Seen). seen.state) c.kept-kept.ensures ∙ ap (λ (seen : Seen). seen.state) c.self.view_is in
    let made = subst (λ (s : State). IsDraft s c.args.draft) (sym same) c.requires.made in
    (subst (IsKnownOf c.kept-kept.result.now.state made.0) (sym c.in-Changes.ensures) made.1.known).known.1

pub settled-requires-clause-answered : goal.settled-requires-clause-answered
settled-requires-clause-answered c =
    let same = ap (λ (seen : kept.Seen). seen.state) c.kept-kept.ensures ∙ ap (λ (seen : Seen). seen.state) c.self.view_is in
    let made = subst (λ (s : State). IsDraft s c.args.draft) (sym same) c.requires.made in
    let own = subst (IsKnownOf c.kept-kept.result.now.state made.0) (sym c.in-Changes.ensures) made.1.known in
    subst (λ (asked : Asks). AreAnswersTo asked c.args.answers) (made.1.asks ∙ asks-made c.kept-kept.result.now.state made.0 c.in-Changes.change.event own.known.0) c.requires.answered

pub settled-requires-clause-placed : goal.settled-requires-clause-placed
settled-requires-clause-placed c = λ few.
    let same = ap (λ (seen : kept.Seen). seen.state) c.kept-kept.ensures ∙ ap (λ (seen : Seen). seen.state) c.self.view_is in
    let made = subst (λ (s : State). IsDraft s c.args.draft) (sym same) c.requires.made in
    known-placed c.kept-kept.result.now.state c.know_valid.ensures.layout c.args.answers made.0 c.in-Changes.change c.args.draft.known c.in-Changes.ensures made.1.known
    (subst (λ (asked : Asks). AreAnswersTo asked c.args.answers) made.1.asks c.requires.answered) few

pub returns-in-Changes-clause-settled : goal.returns-in-Changes-clause-settled
returns-in-Changes-clause-settled c =
    let same = ap (λ (seen : kept.Seen). seen.state) c.kept-kept.ensures ∙ ap (λ (seen : Seen). seen.state) c.self.view_is in
    subst (λ (s : State). (command : Resolved) → IsDraftFor s command c.args.draft → IfOk c.settled.result (Settles s c.args.answers command)) same
    (λ command for. (settles-changed c.kept-kept.result.now.state c.know_valid.ensures c.args.answers c.in-Changes.change c.args.draft.known c.settled.result c.in-Changes.ensures c.settled.ensures.settled c.settled.ensures.limits command for.known
    (subst (λ (asked : Asks). AreAnswersTo asked c.args.answers) for.asks c.requires.answered)).0)

pub returns-in-Changes-clause-refused : goal.returns-in-Changes-clause-refused
returns-in-Changes-clause-refused c =
    let same = ap (λ (seen : kept.Seen). seen.state) c.kept-kept.ensures ∙ ap (λ (seen : Seen). seen.state) c.self.view_is in
    subst (λ (s : State). (command : Resolved) → IsDraftFor s command c.args.draft → IfErr c.settled.result (λ deny. Refuses deny (cause c.args.answers s command))) same
    (λ command for. (settles-changed c.kept-kept.result.now.state c.know_valid.ensures c.args.answers c.in-Changes.change c.args.draft.known c.settled.result c.in-Changes.ensures c.settled.ensures.settled c.settled.ensures.limits command for.known
    (subst (λ (asked : Asks). AreAnswersTo asked c.args.answers) for.asks c.requires.answered)).1)

pub returns-in-Indexes-clause-settled : goal.returns-in-Indexes-clause-settled
returns-in-Indexes-clause-settled c =
    let same = ap (λ (seen : kept.Seen). seen.state) c.kept-kept.ensures ∙ ap (λ (seen : Seen). seen.state) c.self.view_is in
    subst (λ (s : State). (command : Resolved) → IsDraftFor s command c.args.draft → Settles s c.args.answers command (settled.Steps c.in-Indexes.count)) same
    (λ command for. settles-steps c.kept-kept.result.now.state c.know_valid.ensures c.args.answers command c.in-Indexes.count (subst (IsKnownOf c.kept-kept.result.now.state command) (sym c.in-Indexes.ensures) for.known)
    (subst (λ (asked : Asks). AreAnswersTo asked c.args.answers) for.asks c.requires.answered))

pub returns-in-Saves-clause-settled : goal.returns-in-Saves-clause-settled
returns-in-Saves-clause-settled c =
    let same = ap (λ (seen : kept.Seen). seen.state) c.kept-kept.ensures ∙ ap (λ (seen : Seen). seen.state) c.self.view_is in
    subst (λ (s : State). (command : Resolved) → IsDraftFor s command c.args.draft → Settles s c.args.answers command settled.Checkpoint) same
    (λ command for. settles-saved c.kept-kept.result.now.state c.know_valid.ensures c.args.answers command (subst (IsKnownOf c.kept-kept.result.now.state command) (sym c.in-Saves.ensures) for.known)
    (subst (λ (asked : Asks). AreAnswersTo asked c.args.answers) for.asks c.requires.answered))
