-- Commands against which there is nothing, as the tree is made again.
use Rattle.std.proofs.Common.{◌≡◌, Bool, true, false, List, [], ◌∷◌, subst, refl, ap, sym, ◌∙◌}
use Rattle.std.specs.Prelude.{if◌then◌else◌, Option, Some, None, Ok, is_none}
use Rattle.std.specs.Option.{option_map}
use Rattle.std.proofs.lemmas.Bool.{and_from, and_parts}
use Rattle.hac_model.specs.Run.Answers.{first_cause}
use Rattle.hac_model.specs.Run.Asks.{asks, no_asks}
use Rattle.hac_model.specs.Run.Play.{data_lines, is_checkpoint, no_answers, stored_events}
use Rattle.hac_model.specs.Run.Refusals.{answer_cause, blocking_cause, cycle_cause, docs_cause, early_cause, events_of, gone_cause, kept_cause, late_cause, layout_cause, led_to}
use Rattle.hac_model.specs.Run.Resolving.{resolve}
use Rattle.hac_model.specs.Script.Lines.{is_spelled}
use Rattle.hac_model.specs.Spaces.Answering.{AreAnswersTo}
use Rattle.hac_model.specs.Tree.Limits.{answer_limits, are_answers_few, counts, first_passed, layout_limits, passed_limit}
use Rattle.hac_model.specs.Tree.Valid.{IsValid}
use Rattle.hac_model.specs.declared.commands.Command.{Command}
use Rattle.hac_model.specs.declared.events.Event.{Event}
use Rattle.hac_model.specs.declared.limits.LimitWord.{LimitWord}
use Rattle.hac_model.specs.declared.limits.LimitWord.TheVariants.{Answers as AnswersWord, Docs}
use Rattle.hac_model.specs.declared.replies.Refusal.TheVariants as refusal
use Rattle.hac_model.specs.declared.resolved.Resolved.{Resolved}
use Rattle.hac_model.specs.declared.spaces.Asks.{Asks}
use Rattle.hac_model.specs.declared.states.State.{State}
use Rattle.hac_model.specs.declared.versions.Version.{Version}
use Rattle.hac_model.specs.declared.versions.Version.TheVariants.{Two}
use Rattle.hac_model.specs.Tree.Mounting.{are_documents_few}
use Rattle.hac_model.specs.Script.SpaceNames.{is_space_byte, is_space_name}
use Rattle.hac_model.specs.Script.SessionWords.{main_session}
use Rattle.hac_model.proofs.EventLemmas.{all-valid, commands-happen}
use Rattle.hac_model.proofs.LimitLemmas.{none-append}
use Rattle.hac_model.proofs.PlayLemmas.{said-answers}
use Rattle.hac_dump.proofs.TurnLemmas.{Passes, main_line}

-- ---- causes

layout-none : (s : State) → passed_limit s ≡ None → first_passed (layout_limits s.version (counts s)) ≡ None
unfolding passed_limit
layout-none s h = none-is (first_passed (layout_limits s.version (counts s)))
    (and_parts (is_none (first_passed (layout_limits s.version (counts s)))) (is_none (first_passed (answer_limits s.version (counts s))))
    (sym (none-append (layout_limits s.version (counts s)) (answer_limits s.version (counts s))) ∙ ap (λ (o : Option LimitWord). is_none o) h)).0
  where
    none-is : (o : Option LimitWord) → is_none o ≡ true → o ≡ None
    none-is None h = refl
    none-is (Some word) h = absurd cc

-- what isn't blocked, makes no cycle and leads to a state within limits passes
pub record IsClear (u : State) (command : Command) (r : Resolved) (events : List Event) (v : State) : Type 0 where
  pub version : u.version ≡ Two
  pub still : v.version ≡ Two
  pub resolves : resolve u (main_line command) ≡ Ok r
  pub unblocked : blocking_cause u r ≡ None
  pub acyclic : cycle_cause u r ≡ None
  pub stays : gone_cause no_answers u r ≡ None
  pub unasked : asks u r ≡ no_asks
  pub unsaved : is_checkpoint r ≡ false
  pub quiet : data_lines no_answers u r ≡ []
  pub stored : stored_events no_answers u r ≡ events
  pub leads : led_to no_answers u r ≡ v
  pub limits : passed_limit v ≡ None
  pub few : are_answers_few v.entries ≡ true

early-none : (u v : State) (command : Command) (r : Resolved) (events : List Event) → IsClear u command r events v → early_cause u r ≡ None
early-none u v command r events c = λ i. first_cause (c.unblocked i ∷ layout i ∷ c.acyclic i ∷ [])
  where
    layout : layout_cause u r ≡ None
    layout =
        (λ i. option_map refusal.Limit (first_passed (layout_limits ((c.version ∙ sym c.still) i) (counts (c.leads i)))))
        ∙ ap (λ (o : Option LimitWord). option_map refusal.Limit o) (layout-none v c.limits)

late-none : (u v : State) (command : Command) (r : Resolved) (events : List Event) → IsClear u command r events v → late_cause no_answers u r ≡ None
late-none u v command r events c = λ i. first_cause (c.stays i ∷ docs i ∷ answers i ∷ kept i ∷ [])
  where
    docs : docs_cause u no_answers ≡ None
    docs = ap (λ (version : Version). if are_documents_few version [] then None else Some (refusal.Limit Docs)) c.version

    answers : answer_cause no_answers u r ≡ None
    answers = ap (λ (s : State). option_map refusal.Limit (passed_limit s)) c.leads ∙ ap (λ (o : Option LimitWord). option_map refusal.Limit o) c.limits

    kept : kept_cause no_answers u r ≡ None
    kept =
        ap (λ (s : State). if are_answers_few s.entries then None else Some (refusal.Limit AnswersWord)) c.leads
        ∙ ap (λ (b : Bool). if b then None else Some (refusal.Limit AnswersWord)) c.few

pub clear-passes : (u v : State) (command : Command) (r : Resolved) (events : List Event) → IsClear u command r events v → Passes u command events v
clear-passes u v command r events c = record {
  resolved_as = r;
  resolves = c.resolves;
  early = early-none u v command r events c;
  late = late-none u v command r events c;
  unasked = c.unasked;
  unsaved = c.unsaved;
  quiet = c.quiet;
  stored = c.stored;
  leads = c.leads;
}

main-named : is_space_name main_session ≡ true
unfolding is_space_name is_space_byte
main-named = refl

-- it leads to a valid state
pub clear-valid : (u v : State) (command : Command) (r : Resolved) (events : List Event) → IsValid u → is_spelled command ≡ true → IsClear u command r events v → IsValid v
clear-valid u v command r events h spelled c =
    subst IsValid c.leads
    (all-valid (events_of no_answers u r) u h
    (commands-happen u (main_line command) r no_answers h (and_from (is_space_name main_session) (is_spelled command) main-named spelled) c.resolves
    (subst (λ (a : Asks). AreAnswersTo a no_answers) {x = no_asks} {y = asks u r} (sym c.unasked) (said-answers [] tt no_asks)) (λ i. first_cause (early-none u v command r events c i ∷ late-none u v command r events c i ∷ []))))
