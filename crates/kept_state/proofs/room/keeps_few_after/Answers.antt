use Rattle.std.proofs.Common.{◌≡◌, Bool, IfOk, [], ap, subst, sym, ◌∙◌}
use Rattle.kept_facts.specs.Room.{AreKept, are_few_then}
use Rattle.kept_facts.proofs.FewLemmas.{few-asking, few-mounting, few-semantic, few-syncing, few-untold, kept-answers_at}
use Rattle.kept_state.specs.Parts.{state_of}
use Rattle.kept_state.proofs.AnswerLemmas.{kept-answers}
use Rattle.kept_state.proofs.room.keeps_few_after.Goals as goal

pub has_room-requires-in-Ssync-clause-kept : goal.has_room-requires-in-Ssync-clause-kept
has_room-requires-in-Ssync-clause-kept c =
    let kept = c.args.kept.now in
    let is = c.kept_by.ensures ∙ kept-answers kept c.requires.linked c.in-Ssync.mount in
    subst (AreKept (state_of kept).entries) (sym is) (kept-answers_at (state_of kept) c.in-Ssync.mount)

pub returns-in-Smkdir : goal.returns-in-Smkdir
returns-in-Smkdir c =
    let s = state_of c.args.kept.now in
    subst (λ (b : Bool). IfOk c.has_room.result (λ few. few ≡ b))
    (ap (are_few_then s.entries []) c.as_slice.ensures
    ∙ few-semantic s c.requires.linked.valid c.args.event.now c.requires.placed c.in-Smkdir.dir c.in-Smkdir.name c.in-Smkdir.query c.in-Smkdir.told c.in-Smkdir.is)
    c.has_room.ensures

pub returns-in-Setq : goal.returns-in-Setq
returns-in-Setq c =
    let s = state_of c.args.kept.now in
    subst (λ (b : Bool). IfOk c.has_room-in-Setq.result (λ few. few ≡ b))
    (ap (are_few_then s.entries []) c.as_slice-in-Setq.ensures
    ∙ few-asking s c.requires.linked.valid c.args.event.now c.requires.placed c.in-Setq.dir c.in-Setq.query c.in-Setq.told c.in-Setq.is)
    c.has_room-in-Setq.ensures

pub returns-in-Smount : goal.returns-in-Smount
returns-in-Smount c =
    let s = state_of c.args.kept.now in
    subst (λ (b : Bool). IfOk c.has_room-in-Smount.result (λ few. few ≡ b))
    (ap (are_few_then s.entries []) c.as_slice-in-Smount.ensures
    ∙ few-mounting s c.requires.linked.valid c.args.event.now c.requires.placed c.in-Smount.dir c.in-Smount.name c.in-Smount.space c.in-Smount.docs c.in-Smount.told c.in-Smount.is)
    c.has_room-in-Smount.ensures

pub returns-in-Ssync : goal.returns-in-Ssync
returns-in-Ssync c =
    let kept = c.args.kept.now in
    let s = state_of kept in
    let is = c.kept_by.ensures ∙ kept-answers kept c.requires.linked c.in-Ssync.mount in
    subst (λ (b : Bool). IfOk c.has_room-in-Ssync.result (λ few. few ≡ b))
    ((λ i. are_few_then s.entries (is i) (c.as_slice-in-Ssync.ensures i))
    ∙ few-syncing s c.requires.linked.valid c.args.event.now c.requires.placed c.in-Ssync.mount c.in-Ssync.docs c.in-Ssync.told c.in-Ssync.is)
    c.has_room-in-Ssync.ensures

pub returns-in_default : goal.returns-in_default
returns-in_default c =
    sym (few-untold (state_of c.args.kept.now) c.args.event.now c.requires.linked.valid c.in_default.not-Smkdir c.in_default.not-Setq c.in_default.not-Smount c.in_default.not-Ssync)
