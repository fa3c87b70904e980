-- The index steps that follow commands by themselves: the turns that have them, and how many there are.
use Rattle.std.proofs.Common.{◌≡◌, ◌⊎◌, ℕ, zero, suc, ◌+◌, ◌<◌, ◌≤◌, Bool, true, false, List, [], ◌∷◌, ◌++◌, length, drop, length-append, refl, ap, sym, ◌∙◌, arith, inl, inr, ⊎_elim}
use Rattle.std.specs.Prelude.{nat_lt, if◌then◌else◌, replicate, min, Option, None, Some, Result, Ok, Err, IsTrue}
use Rattle.std.specs.Option.{option_map_or}
use Rattle.std.proofs.lemmas.Bool.{and_from, and_left, and_right, cases_lt}
use Rattle.std.proofs.lemmas.Bool.Decides.{nat_tests}
use Rattle.hac_model.specs.Run.Play.{Given, Setting, Turn, after_events, answered_turn, can_step, command_turn, end_behind, given_behind, have_room, item_turn, left_by, line_turn, play, refused_turn, space_answers, steps_behind, turn_cause, turn_of, turns}
use Rattle.hac_model.specs.Run.Given.{next_fault}
use Rattle.hac_model.specs.Run.Resolving.{resolve}
use Rattle.hac_model.specs.declared.replies.Refusal.TheVariants.{SpaceFault}
use Rattle.sem_mounts.specs.Seen.{Contents}
use Rattle.hac_top.specs.Asking.{given_by}
use Rattle.hac_model.specs.Script.Lines.{Item}
use Rattle.hac_model.specs.Script.{after_item, first_items, script, whole}
use Rattle.hac_model.specs.Tree.Events.{accepted, apply, dirty}
use Rattle.hac_model.specs.Tree.Valid.{IsValid}
use Rattle.hac_model.specs.declared.events.Event.{Event}
use Rattle.hac_model.specs.declared.events.Event.TheVariants.{Step}
use Rattle.hac_model.specs.declared.replies.Refusal.{Refusal}
use Rattle.hac_model.specs.declared.resolved.Resolved.{Resolved}
use Rattle.hac_model.proofs.AcyclicLemmas.{apply-valid}
use Rattle.hac_model.proofs.EventLemmas.{steps-clean, steps-due}
use Rattle.hac_model.proofs.JoinLemmas.{script-joined, turns-append}
use Rattle.hac_model.proofs.ScriptLemmas.{script-step}
use Rattle.hac_store.specs.Stores.{fit_behind}
use Rattle.hac_store.proofs.RoomLemmas.{end-steps, steps-have-room}
use Rattle.hac_top.specs.Run.{given_after}
use Rattle.hac_top.specs.Ticking.{ticking}
use Rattle.std.proofs.lemmas.List.{drop-drop}
use Rattle.hac_model.proofs.VersionLemmas.{apply-version}
use Rattle.hac_model.specs.declared.versions.Version.{Version}

-- The turn of a line is that without steps, and the steps behind it.

-- a turn, with the steps that follow it
abbrev pub ticked : ℕ → Turn → Turn
ticked tick turn = turn_of (ticking tick) turn.reply turn.events turn.after

module _ (contents : Contents) (met : List (Option (List ℕ))) (tick : ℕ) where
  command-ticks : (setting : Setting) (r : Result Resolved Refusal) → command_turn (given_by contents met tick) setting r ≡ ticked tick (command_turn (given_by contents met 0) setting r)
  command-ticks setting (Err refusal) = refl
  command-ticks setting (Ok command) =
      let answers = space_answers (given_by contents met 0) setting.state command in
      elim (turn_cause (given_by contents met 0) setting command answers) as (λ o.
      option_map_or (refused_turn (given_by contents met tick) setting) o (answered_turn (given_by contents met tick) setting command answers)
      ≡ ticked tick (option_map_or (refused_turn (given_by contents met 0) setting) o (answered_turn (given_by contents met 0) setting command answers))) [ None ↦ refl | Some refusal ↦ refl ]

  line-ticks : (setting : Setting) (item : Item) → line_turn (given_by contents met tick) setting item ≡ ticked tick (line_turn (given_by contents met 0) setting item)
  line-ticks setting (Ok line) = command-ticks setting (resolve setting.state line)
  line-ticks setting (Err refusal) = refl

  pub turn-ticks : (setting : Setting) (item : Item) → item_turn (given_by contents met tick) setting item ≡ ticked tick (item_turn (given_by contents met 0) setting item)
  turn-ticks setting item =
      elim (next_fault (given_by contents met 0)) as (λ o.
      option_map_or (λ space. refused_turn (given_by contents met tick) setting (SpaceFault space)) o (line_turn (given_by contents met tick) setting item)
      ≡ ticked tick (option_map_or (λ space. refused_turn (given_by contents met 0) setting (SpaceFault space)) o (line_turn (given_by contents met 0) setting item))) [
        | None ↦ line-ticks setting item
        | Some space ↦ refl
      ]

-- Turns that are joined go on from what the first ones leave.

pub turns-counted : (given : Given) (setting : Setting) (items : List Item) → length (turns given setting items) ≡ length items
turns-counted given setting [] = refl
turns-counted given setting (item ∷ items) = ap (λ (n : ℕ). suc n) (turns-counted (given_behind 1 given) (item_turn given setting item).after items)

pub turns-joined : (given : Given) (setting : Setting) (xs ys : List Item) →
    turns given setting (xs ++ ys) ≡ turns given setting xs ++ turns (given_after given (turns given setting xs)) (left_by setting (turns given setting xs)) ys
turns-joined given setting xs ys =
    let done = turns given setting xs in
    turns-append given setting xs ys ∙ ap (λ (n : ℕ). done ++ turns (given_behind n given) (left_by setting done) ys) (sym (turns-counted given setting xs))

pub scripts-joined : (given : Given) (setting : Setting) (first second : List ℕ) → whole first ≡ first →
    play given setting (first ++ second) ≡ play given setting first ++ play (given_after given (play given setting first)) (left_by setting (play given setting first)) second
scripts-joined given setting first second lines =
    ap (turns given setting) (script-joined first second lines) ∙ turns-joined given setting (script first) (script second)

-- a script is played by its first line and what follows that
pub play-line : (given : Given) (setting : Setting) (b : List ℕ) →
    play given setting b
    ≡ turns given setting (first_items b) ++ play (given_after given (turns given setting (first_items b))) (left_by setting (turns given setting (first_items b))) (after_item b)
play-line given setting b = ap (turns given setting) (script-step b) ∙ turns-joined given setting (first_items b) (script (after_item b))

-- what is given behind some commands, and then behind more
pub given-further : (given : Given) (xs ys : List Turn) → given_after (given_after given xs) ys ≡ given_after given (xs ++ ys)
given-further given xs ys =
    ap (λ (faults : List (Option (List ℕ))). record given { faults = faults })
    (drop-drop (length ys) (length xs) given.faults ∙ ap (λ (n : ℕ). drop n given.faults) (omega (arith, length-append xs ys)))

-- How many steps there are.

-- where more than one has room, one has, and the others have room behind it
first-fits : (version : Version) (end n : ℕ) → fit_behind version end (suc n) 2 ≡ true → fit_behind version end 1 2 ≡ true
first-fits version end n fits = grind (arith, nat_tests, fits)

next-fits : (version : Version) (end n : ℕ) → fit_behind version end (suc n) 2 ≡ true → fit_behind version (end + 7) n 2 ≡ true
next-fits version end n fits = grind (arith, nat_tests, fits)

next-full : (version : Version) (end n : ℕ) → fit_behind version end (suc n + 1) 2 ≡ false → fit_behind version (end + 7) (n + 1) 2 ≡ false
next-full version end n full = grind (arith, nat_tests, full)

-- one step has room where one record has
one-room : (setting : Setting) (b : Bool) → fit_behind setting.state.version setting.end 1 2 ≡ b → have_room setting (Step ∷ []) ≡ b
one-room setting b fits = steps-have-room setting 1 ∙ fits

-- as many steps follow as may, as there are dirty files, or as have room, whichever is least
pub steps-counted : (tick count : ℕ) (setting : Setting) → IsValid setting.state → count ≤ tick → count ≤ dirty setting.state → fit_behind setting.state.version setting.end count 2 ≡ true →
    ((count ≡ tick) ⊎ (count ≡ dirty setting.state)) ⊎ (fit_behind setting.state.version setting.end (count + 1) 2 ≡ false) → steps_behind tick setting ≡ replicate count Step
steps-counted zero zero setting h few files fits most = refl
steps-counted zero (suc count) setting h few files fits most = absurd (omega (arith, few))
steps-counted (suc tick) zero setting h few files fits most =
    ap (λ (b : Bool). if b then Step ∷ steps_behind tick (after_events setting (Step ∷ [])) else []) (stuck most)
  where
    stuck : ((0 ≡ suc tick) ⊎ (0 ≡ dirty setting.state)) ⊎ (fit_behind setting.state.version setting.end 1 2 ≡ false) → can_step setting ≡ false
    stuck (inl (inl none)) = absurd (omega (arith, none))
    stuck (inl (inr clean)) = and_left (nat_lt 0 (dirty setting.state)) (have_room setting (Step ∷ [])) (grind (arith, nat_tests, clean))
    stuck (inr full) = and_right (nat_lt 0 (dirty setting.state)) (have_room setting (Step ∷ [])) (one-room setting false full)
steps-counted (suc tick) (suc count) setting h few files fits most =
    let some : nat_lt 0 (dirty setting.state) ≡ true = grind (arith, nat_tests, files) in
    let due : IsTrue (accepted setting.state Step) = steps-due setting.state h.layout ∙ some in
    let can : can_step setting ≡ true = and_from (nat_lt 0 (dirty setting.state)) (have_room setting (Step ∷ [])) some (one-room setting true (first-fits setting.state.version setting.end count fits)) in
    let clean : dirty setting.state ≡ dirty (apply setting.state Step) + 1 = steps-clean setting.state h.layout due in
    let next = after_events setting (Step ∷ []) in
    let end : end_behind setting.state.version setting.end (Step ∷ []) ≡ setting.end + 7 = end-steps setting.state.version 1 setting.end in
    let same : next.state.version ≡ setting.state.version = apply-version setting.state Step in
    ap (λ (b : Bool). if b then Step ∷ steps_behind tick next else []) can
    ∙ ap (λ (events : List Event). Step ∷ events)
    (steps-counted tick count next (apply-valid setting.state Step h due) (omega (arith, few)) (omega (arith, files, clean))
    ((λ i. fit_behind (same i) (end i) count 2) ∙ next-fits setting.state.version setting.end count fits) (fewer most clean same end))
  where
    fewer : ((suc count ≡ suc tick) ⊎ (suc count ≡ dirty setting.state)) ⊎ (fit_behind setting.state.version setting.end (suc count + 1) 2 ≡ false) → dirty setting.state ≡ dirty (apply setting.state Step) + 1 → (apply setting.state Step).version ≡ setting.state.version →
        end_behind setting.state.version setting.end (Step ∷ []) ≡ setting.end + 7 →
        ((count ≡ tick) ⊎ (count ≡ dirty (apply setting.state Step))) ⊎ (fit_behind (apply setting.state Step).version (end_behind setting.state.version setting.end (Step ∷ [])) (count + 1) 2 ≡ false)
    fewer (inl (inl all)) clean same end = inl (inl (omega (arith, all)))
    fewer (inl (inr last)) clean same end = inl (inr (omega (arith, last, clean)))
    fewer (inr full) clean same end = inr ((λ i. fit_behind (same i) (end i) (count + 1) 2) ∙ next-full setting.state.version setting.end count full)

-- the same, told by the room for the steps themselves
pub steps-are-due : (tick wanted count : ℕ) (setting : Setting) → IsValid setting.state → wanted ≡ min tick (dirty setting.state) → count ≤ wanted →
    have_room setting (replicate count Step) ≡ true → (count ≡ wanted) ⊎ (have_room setting (replicate (count + 1) Step) ≡ false) → steps_behind tick setting ≡ replicate count Step
steps-are-due tick wanted count setting h least within room most =
    steps-counted tick count setting h (omega (arith, least, within)) (omega (arith, least, within)) (sym (steps-have-room setting count) ∙ room)
    (⊎_elim (λ is. inl (which is (cases_lt tick (dirty setting.state)))) (λ full. inr (sym (steps-have-room setting (count + 1)) ∙ full)) most)
  where
    which : count ≡ wanted → (tick < dirty setting.state) ⊎ (dirty setting.state ≤ tick) → (count ≡ tick) ⊎ (count ≡ dirty setting.state)
    which is (inl fewer) = inl (omega (arith, is, least, fewer))
    which is (inr clean) = inr (omega (arith, is, least, clean))
