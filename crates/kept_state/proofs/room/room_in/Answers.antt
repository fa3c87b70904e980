use Rattle.std.proofs.Common.{◌≡◌, ◌≤◌, ◌∙◌, List, arith, length, refl, subst, sym}
use Rattle.std.proofs.lemmas.List.{nil_from_length}
use Rattle.hac_model.specs.Tree.Links.{answers_at}
use Rattle.hac_model.specs.declared.limits.TheConstants.{ANSWERS_LIMIT, PAIRS_LIMIT}
use Rattle.hac_model.specs.declared.states.Answer.{Answer}
use Rattle.file_tree.proofs.LiveLemmas.{through-begins, through-ends, through-goes, through-here}
use Rattle.kept_facts.specs.Room.{IsLess, documents_in}
use Rattle.kept_facts.specs.declared.room.Room.{Room}
use Rattle.kept_facts.proofs.FewLemmas.{IsTaking, taking-answers, taking-begins, taking-documents, taking-ends, taking-goes, taking-passes}
use Rattle.kept_state.specs.Parts.{state_of}
use Rattle.kept_state.proofs.AnswerLemmas.{kept-answers}
use Rattle.kept_state.proofs.GainLemmas.{absent-none}
use Rattle.kept_state.proofs.room.room_in.Goals as goal

pub entries-init : goal.entries-init
entries-init c =
    let kept = c.args.kept.now in
    let s = state_of kept in
    let room : Room = record { documents = ANSWERS_LIMIT; answers = PAIRS_LIMIT } in
    through-begins (λ number. IsTaking s number room) kept.tree.state.entries kept.tree.state.next c.numbers.ensures.layout.numbers
    (λ k none so_far. taking-passes s c.requires.valid k room so_far (absent-none kept c.requires k none))
    c.into_iter-number-iterator.result.rest.items (c.into_iter-number-iterator.ensures.into_iter_gives.0 ∙ c.in_ok-number-items.ensures.numbers)
    (taking-begins s c.requires.valid room refl refl)

pub without-room-requires-clause-documents : goal.without-room-requires-clause-documents
without-room-requires-clause-documents c =
    let kept = c.args.kept.now in
    let s = state_of kept in
    let room : Room = c.entries.room in
    let n = c.in-Some.number in
    let here = through-here (λ number. IsTaking s number room) kept.tree.state.entries kept.tree.state.next c.entries.number-iterator.rest.items n c.next.new.self.rest.items c.in-Some.ensures.steps.0 c.entries.invariant in
    let is : c.kept_by.result.now ≡ answers_at s n = c.kept_by.ensures ∙ kept-answers kept c.requires n in
    subst (λ (answers : List Answer). documents_in answers ≤ room.documents) (sym is) (taking-documents s c.requires.valid n room here)

pub without-room-requires-clause-answers : goal.without-room-requires-clause-answers
without-room-requires-clause-answers c =
    let kept = c.args.kept.now in
    let s = state_of kept in
    let room : Room = c.entries.room in
    let n = c.in-Some.number in
    let here = through-here (λ number. IsTaking s number room) kept.tree.state.entries kept.tree.state.next c.entries.number-iterator.rest.items n c.next.new.self.rest.items c.in-Some.ensures.steps.0 c.entries.invariant in
    let is : c.kept_by.result.now ≡ answers_at s n = c.kept_by.ensures ∙ kept-answers kept c.requires n in
    subst (λ (answers : List Answer). length answers ≤ room.answers) (sym is) (taking-answers s c.requires.valid n room here)

pub entries-preserved : goal.entries-preserved
entries-preserved c =
    let kept = c.args.kept.now in
    let s = state_of kept in
    let room : Room = c.entries.room in
    let less : Room = c.without-room.result in
    let n = c.in-Some.number in
    let left = c.entries.number-iterator.rest.items in
    let rest = c.next.new.self.rest.items in
    let here = through-here (λ number. IsTaking s number room) kept.tree.state.entries kept.tree.state.next left n rest c.in-Some.ensures.steps.0 c.entries.invariant in
    let is : c.kept_by.result.now ≡ answers_at s n = c.kept_by.ensures ∙ kept-answers kept c.requires n in
    through-goes (λ number. IsTaking s number less) kept.tree.state.entries kept.tree.state.next c.numbers.ensures.layout.numbers
    (λ k none so_far. taking-passes s c.requires.valid k less so_far (absent-none kept c.requires k none))
    (λ number. IsTaking s number room) left n rest c.in-Some.ensures.steps.0 c.entries.invariant
    (taking-goes s c.requires.valid n room here less (subst (λ (answers : List Answer). IsLess answers room less) is c.without-room.ensures))

pub returns : goal.returns
returns c =
    let kept = c.args.kept.now in
    let s = state_of kept in
    let room : Room = c.entries.room in
    let left = c.entries.number-iterator.rest.items in
    taking-ends s c.requires.valid s.next room
    (through-ends (λ number. IsTaking s number room) kept.tree.state.entries kept.tree.state.next left (nil_from_length left (omega (arith, c.in-None.ensures.steps.0, c.entries.number-iterator.rest.ok.0))) c.entries.invariant)
    refl
