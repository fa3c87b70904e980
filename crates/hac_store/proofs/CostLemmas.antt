-- What an event may cost that isn't stored.
use Rattle.std.proofs.Common.{◌≡◌, ℕ, ◌+◌, ◌*◌, ◌∷◌, [], false, List, filter, length, refl, ◌∙◌, ap, arith}
use Rattle.std.specs.List.{range_with_len}
use Rattle.hac_model.specs.Tree.Costs.{cost, weight}
use Rattle.hac_model.specs.Tree.Events.{apply}
use Rattle.hac_model.specs.Tree.Sessions.{is_stored}
use Rattle.hac_model.specs.declared.events.Event.{Event}
use Rattle.hac_model.specs.declared.events.Event.TheVariants.{Mkdir, NewFile, Rewrite, Ln, Mv, Rm, Rmdir, Smkdir, Setq, Unq, Mark, Smount, Ssync, Sumount, Step, Cd}
use Rattle.hac_model.specs.declared.states.State.{State}

-- no number passes a test that none passes
filter-none : (items : List ℕ) → filter (λ (item : ℕ). false) items ≡ []
filter-none [] = refl
filter-none (item ∷ items) = filter-none items

-- nothing times anything is nothing
none-costs : (each : ℕ) → (0 + 0) * each + 0 ≡ 0
none-costs each = omega arith

-- nothing is judged for an event that only moves a session
pub session-free : (s : State) (event : Event) → is_stored event ≡ false → cost s event ≡ 0
session-free s (Cd session dir) is =
    let next = (apply s (Cd session dir)).next in
    let each = weight s + weight (apply s (Cd session dir)) in
    ap (λ (none : List ℕ). (length none + length none) * each + 0) (filter-none (range_with_len 0 next)) ∙ none-costs each
session-free s (Mkdir dir name) is = absurd (cc)
session-free s (NewFile dir name text) is = absurd (cc)
session-free s (Rewrite file text) is = absurd (cc)
session-free s (Ln dir name target) is = absurd (cc)
session-free s (Mv entry dir name) is = absurd (cc)
session-free s (Rm entry) is = absurd (cc)
session-free s (Rmdir dir) is = absurd (cc)
session-free s (Smkdir dir name query told) is = absurd (cc)
session-free s (Setq dir query told) is = absurd (cc)
session-free s (Unq dir) is = absurd (cc)
session-free s (Mark mark) is = absurd (cc)
session-free s (Smount dir name space docs told) is = absurd (cc)
session-free s (Ssync mount docs told) is = absurd (cc)
session-free s (Sumount mount) is = absurd (cc)
session-free s Step is = absurd (cc)
