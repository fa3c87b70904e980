-- Which events can happen, by the tree and by counts.
use Rattle.std.proofs.Common.{◌≡◌, ℕ, Bool, true, false, List, ap, sym, ◌∙◌}
use Rattle.std.specs.Prelude.{◌&&◌, is_none}
use Rattle.std.proofs.lemmas.Bool.{and_from}
use Rattle.std.proofs.Math.Bool.{and-false}
use Rattle.hac_model.specs.Query.Formula.{Formula}
use Rattle.hac_model.specs.Tree.Asking.{with_told}
use Rattle.hac_model.specs.Tree.Depends.{cycle_over}
use Rattle.hac_model.specs.Tree.Events.{accepted, apply, asking, is_clear, is_placed}
use Rattle.hac_model.specs.Tree.Limits.{answer_limits, are_answers_few, counts, layout_limits, passed_limit}
use Rattle.hac_model.specs.Tree.Links.{parent_of}
use Rattle.hac_model.specs.declared.counts.Counts.{Counts}
use Rattle.hac_model.specs.declared.events.Event.{Event}
use Rattle.hac_model.specs.declared.events.Event.TheVariants.{Setq}
use Rattle.hac_model.specs.declared.states.State.{State}
use Rattle.hac_model.proofs.FewLemmas.{asking-keeps, few-edited}
use Rattle.event_check.specs.Fitting.{passes_none}
use Rattle.hac_model.proofs.LimitLemmas.{none-append}
use Rattle.hac_model.proofs.VersionLemmas.{apply-version}

-- Limits.

pub none-told : (s : State) → passes_none s.version (counts s) ≡ is_none (passed_limit s)
unfolding passed_limit
none-told s = sym (none-append (layout_limits s.version (counts s)) (answer_limits s.version (counts s)))

-- the same after an event, which leaves the version
none-after : (s : State) (e : Event) (held : Counts) → held ≡ counts (apply s e) → passes_none s.version held ≡ is_none (passed_limit (apply s e))
none-after s e held is = (λ i. passes_none (sym (apply-version s e) i) (is i)) ∙ none-told (apply s e)

-- what is nowhere, exceeds a limit or isn't clear can't happen
pub not-placed : (s : State) (e : Event) → is_placed s e ≡ false → accepted s e ≡ false
not-placed s e h = ap (λ (b : Bool). is_clear s e && b && is_none (passed_limit (apply s e))) h ∙ ap (λ (b : Bool). b && is_none (passed_limit (apply s e))) (and-false (is_clear s e))

pub not-within : (s : State) (e : Event) (held : Counts) → held ≡ counts (apply s e) → passes_none s.version held ≡ false → accepted s e ≡ false
not-within s e held is h =
    let over : is_none (passed_limit (apply s e)) ≡ false = sym (none-after s e held is) ∙ h in
    ap (λ (b : Bool). is_clear s e && is_placed s e && b) over ∙ and-false (is_clear s e && is_placed s e)

pub accepts : (s : State) (e : Event) (held : Counts) → is_placed s e ≡ true → held ≡ counts (apply s e) → passes_none s.version held ≡ true → is_clear s e ≡ true → accepted s e ≡ true
accepts s e held placed is within clear =
    and_from (is_clear s e && is_placed s e) (is_none (passed_limit (apply s e))) (and_from (is_clear s e) (is_placed s e) clear placed) (sym (none-after s e held is) ∙ within)

-- a query of which no directory depends on itself is clear where mounts keep few answers after it
pub clear-asking : (s : State) (e : Event) (dir : ℕ) (query : Formula ℕ) (told : List (List ℕ)) → e ≡ Setq dir query told → is_none (cycle_over s dir (parent_of s dir) query) ≡ true → are_answers_few (apply s e).entries ≡ is_clear s e
clear-asking s e dir query told is acyclic =
    ap (λ (e : Event). are_answers_few (apply s e).entries) is
    ∙ few-edited (with_told query told s) dir (asking query) (asking-keeps query)
    ∙ ap (λ (b : Bool). b && are_answers_few (with_told query told s).entries) (sym acyclic)
    ∙ sym (ap (is_clear s) is)
