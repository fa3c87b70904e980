-- The lines that bstr gives are those of the catalogue, and each leads on to the next.
use Rattle.std.proofs.Common.{◌≡◌, Some, ◌∙◌, arith, refl}
use Rattle.hac_model.specs.Spaces.Catalogue.{content, with_line}
use Rattle.sem_mounts.proofs.TurnLemmas.{with_lines-bad, with_lines-end, with_lines-long}
use Rattle.sem_mounts.proofs.TurnLemmas.{with_lines-next, with_lines-start}
use Rattle.sem_mounts.proofs.catalogues.read_texts.Goals.{then-line-room-via-then-line-room}
use Rattle.sem_mounts.proofs.catalogues.read_texts.Goals.{
  then-line-room-via-else-line-room+in_ok-take_line+then-not-branch,
}
use Rattle.sem_mounts.proofs.catalogues.read_texts.Goals as goal

pub loop-line-init : goal.loop-line-init
loop-line-init c =
    let given = c.into_iter-line-iterator.ensures.into_iter_gives
    ∙ c.lines_with_terminator-line-items.ensures.value in
    let few = c.lines_with_terminator-line-items.ensures.len in (
      tt,
      tt,
      rw (given, c.new-documents.ensures) (with_lines-start c.args.bytes.now),
      rw c.into_iter-line-iterator.ensures.into_iter_gives (omega (arith, few)),
    )

pub returns-then-line-room : goal.returns-then-line-room
returns-then-line-room c =
    let old = c.loop-line in
    let so_far = rw c.in-Some.ensures.steps at old.invariant.2 in
    so_far ∙ elim c.then-line-room.branch [
      | then-line-room-via-then-line-room w ↦
          with_lines-long old.number old.room c.in-Some.line.now c.next.new.self old.documents
          w.if-line-room.true
      | then-line-room-via-else-line-room+in_ok-take_line+then-not-branch w ↦
          with_lines-bad old.number old.room c.in-Some.line.now c.next.new.self old.documents
          w.if-line-room.false
          (rw (← w.content.ensures, w.in_ok-take_line.ensures, w.if-not-branch.true) refl)
    ]

pub overflow_add-number : goal.overflow_add-number
overflow_add-number c =
    let few = rw c.in-Some.ensures.steps at c.loop-line.invariant.3 in
    omega (arith, few)

pub loop-line-preserved : goal.loop-line-preserved
loop-line-preserved c =
    let old = c.loop-line in
    let so_far = rw c.in-Some.ensures.steps at old.invariant.2 in
    let few = rw c.in-Some.ensures.steps at old.invariant.3 in
    let good : with_line old.documents (content c.in-Some.line.now) ≡ Some c.take_line.new.documents
    =
    rw (← c.content.ensures, c.in_ok-take_line.ensures, c.if-not-branch.false) refl
    in (
      tt,
      tt,
      so_far ∙ with_lines-next old.number old.room c.in-Some.line.now c.next.new.self old.documents
          c.take_line.new.documents c.if-line-room.false good,
      omega (arith, few),
    )

pub returns : goal.returns
returns c =
    rw c.in-None.ensures.steps.0 at c.loop-line.invariant.2
    ∙ with_lines-end c.loop-line.number c.loop-line.room c.loop-line.documents
