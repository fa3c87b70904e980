-- The words that are asked for stand together, from the letters on.
use Rattle.std.proofs.Common.{◌≡◌, ◌+◌, List, false, true, ℕ, drop, rules}
use Rattle.std.proofs.lemmas.List.{drop_all}
use Rattle.hac_model.specs.Query.Words.{is_asked}
use Rattle.sem_mounts.proofs.OrderLemmas.{left-next, marking-end, marking-first, marking-next}
use Rattle.sem_mounts.proofs.OrderLemmas.{marking-stop, stand-first}
use Rattle.sem_mounts.proofs.word_lists.WordLists.marks.Goals.{else-loop-word-test}
use Rattle.sem_mounts.proofs.word_lists.WordLists.marks.Goals.{
  then-loop-word-test+then-not-is_asked,
}
use Rattle.sem_mounts.proofs.word_lists.WordLists.marks.Goals as goal

pub loop-word-init : goal.loop-word-init
loop-word-init c =
    let found = c.lists_from-word-items in
    marking-first c.args.term.now c.args.count c.args.self.now found.result.now
    c.in_ok-marks.marks.items c.in_ok-marks.ensures (
      stand-first c.args.term.now found.result.now found.ensures.order found.ensures.from,
      found.ensures.asked,
    )

pub loop-word-preserved : goal.loop-word-preserved
loop-word-preserved c =
    let lists = c.lists_from-word-items.result.now in
    let i = c.loop-word.word-index in
    let list : List ℕ × List ℕ = c.loop-word-item.result in
    let asked : is_asked c.args.term.now list.0 ≡ true = search rules in
    marking-next c.args.term.now c.args.count c.args.self.now (drop i lists) (drop (i + 1) lists)
    list c.loop-word.marks.items c.mark.new.marks.items
    (left-next lists i list c.loop-word-test.true c.loop-word-item.is) asked
    c.loop-word.invariant c.mark.ensures.len (rw c.as_slice.ensures at c.mark.ensures.marks)

pub returns : goal.returns
returns c =
    let term = c.args.term.now in
    let all = c.args.self.now in
    let lists = c.lists_from-word-items.result.now in
    let i = c.loop-word.word-index in
    let marks = c.loop-word.marks.items in
    elim c.loop-word-test.branch [
      | else-loop-word-test w ↦
          marking-end term c.args.count all (drop i lists) marks c.loop-word.invariant
          (drop_all i lists w.loop-word-test.false)
      | then-loop-word-test+then-not-is_asked w ↦
          let list : List ℕ × List ℕ = w.loop-word-item.result in
          let other : is_asked term list.0 ≡ false = search rules in
          marking-stop term c.args.count all (drop i lists) (drop (i + 1) lists) list marks
          c.loop-word.invariant (left-next lists i list w.loop-word-test.true w.loop-word-item.is)
          other
    ]
