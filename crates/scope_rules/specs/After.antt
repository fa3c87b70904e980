-- Which state a scope tells.
use Rattle.std.specs.Prelude.{◌≡◌, IsTrue}
use Rattle.hac_model.specs.Tree.Bare.{bare}
use Rattle.hac_model.specs.Tree.Events.{accepted, apply}
use Rattle.hac_model.specs.Tree.Valid.{IsValid}
use Rattle.hac_model.specs.declared.events.Event.{Event}
use Rattle.hac_model.specs.declared.states.State.{State}
use Rattle.scope_rules.specs.declared.after.Scope.{Scope}

-- the tree is that of a valid state, which accepts the event
pub record IsBefore (s tree : State) (event : Event) : Type 0 where
  pub valid : IsValid s
  pub bares : bare s ≡ bare tree
  pub accepts : IsTrue (accepted s event)

-- the scope tells this state: it is what the event makes of one with the tree
pub record Tells (scope : Scope) (after : State) : Type 0 where
  pub old : State
  pub before : IsBefore old scope.tree.now.state scope.event.now
  pub is : after ≡ apply old scope.event.now
  pub next : scope.next ≡ after.next
