-- A state without sessions is valid by its parts.
use Rattle.std.proofs.Common.{◌≡◌, Bool, true, false, List, [], refl, ap, ◌∙◌}
use Rattle.std.specs.Prelude.{◌==◌, ◌&&◌, not}
use Rattle.std.specs.List.{list_all}
use Rattle.hac_model.specs.Script.SpaceNames.{is_space_name}
use Rattle.hac_model.specs.Tree.Sessions.{are_few}
use Rattle.hac_model.specs.Tree.{is_directory_at}
use Rattle.hac_model.specs.Tree.ValidTest.{do_sessions_differ, are_sessions, is_acyclic, is_layout, is_valid}
use Rattle.hac_model.specs.declared.states.Session.{Session}
use Rattle.hac_model.specs.declared.states.State.{State}
use Rattle.hac_model.proofs.VersionLemmas.{none-few}
use Rattle.state_check.specs.Fitting.{do_bodies_fit}

none-are-sound : (s : State) → s.sessions ≡ [] → are_sessions s ≡ true
unfolding are_sessions
none-are-sound s none =
    ap (λ (ss : List Session). list_all (λ session. is_space_name session.name) ss && do_sessions_differ ss
    && list_all (λ session. is_directory_at s.entries session.dir) ss
    && list_all (λ session. not (session.dir == 0)) ss && are_few s.version ss) none ∙ none-few s.version

joined : (layout asks keeps few acyclic sessions : Bool) → sessions ≡ true
    → (layout && asks && keeps && few && acyclic && sessions) ≡ (layout && (asks && keeps && few) && acyclic)
joined false asks keeps few acyclic sessions h = refl
joined true false keeps few acyclic sessions h = refl
joined true true false few acyclic sessions h = refl
joined true true true false acyclic sessions h = refl
joined true true true true false sessions h = refl
joined true true true true true sessions h = h

pub valid_parts : (s : State) → s.sessions ≡ [] → is_valid s ≡ (is_layout s && do_bodies_fit s && is_acyclic s)
unfolding is_valid
valid_parts s none = joined (is_layout s) _ _ _ (is_acyclic s) (are_sessions s) (none-are-sound s none)
