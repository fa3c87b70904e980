use Rattle.std.specs.Prelude.{◌≡◌, ℕ, false, take}
use Rattle.hac_model.specs.Tree.Depends.{Among}
use Rattle.hac_model.specs.Tree.Links.{is_item}
use Rattle.hac_model.specs.Tree.Valid.{IsValid}
use Rattle.hac_model.specs.declared.states.State.{State}
use Rattle.reindex.specs.Steps.{AreSettled}
use Rattle.reindex.proofs.moves.delta_of_gone.Given as goal

-- the items so far are settled
abbrev pub invariant-loop-item : goal.invariant-loop-item
invariant-loop-item l =
    (t : State) → IsValid t → ((item : ℕ) → Among l.items item → is_item t item ≡ false) → AreSettled l.past t (take l.item-index l.items) l.delta.items
