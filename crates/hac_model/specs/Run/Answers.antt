-- Values and refusals.
use Rattle.std.specs.Prelude.{◌≡◌, ⊤, List, [], ◌∷◌, Option, None, Some, Result, Ok, Err}
use Rattle.hac_model.specs.declared.replies.Deny.{Deny}
use Rattle.hac_model.specs.declared.replies.Deny.TheVariants.{Refused, Memory}
use Rattle.hac_model.specs.declared.replies.Refusal.{Refusal}

-- the call gave what was wanted: the value, or a fault that means the same
abbrev pub Gives : {A F W : Type 0} → (F → Result A W → Type 0) → Result A F → Result A W → Type 0
Gives means (Ok value) wanted = wanted ≡ Ok value
Gives means (Err fault) wanted = means fault wanted

-- the same, where a value of the call is seen by a view
abbrev pub GivesSeen : {A B F W : Type 0} → (A → B) → (F → Result B W → Type 0) → Result A F → Result B W → Type 0
GivesSeen view means (Ok value) wanted = wanted ≡ Ok (view value)
GivesSeen view means (Err fault) wanted = means fault wanted

-- the call was denied: refusing is what was wanted, unless memory ran out
abbrev pub Denies : {A : Type 0} → Deny → Result A Refusal → Type 0
Denies (Refused refusal) wanted = wanted ≡ Err refusal
Denies Memory wanted = ⊤

abbrev pub Answers : {A : Type 0} → Result A Deny → Result A Refusal → Type 0
Answers result wanted = Gives Denies result wanted

abbrev pub AnswersSeen : {A B : Type 0} → (A → B) → Result A Deny → Result B Refusal → Type 0
AnswersSeen view result wanted = GivesSeen view Denies result wanted

-- the call was denied for the cause that there is, unless memory ran out
abbrev pub Refuses : Deny → Option Refusal → Type 0
Refuses (Refused refusal) cause = cause ≡ Some refusal
Refuses Memory cause = ⊤

-- the call passed where there is no cause, and denied for the cause that there is, unless memory ran out
abbrev pub Passes : {A : Type 0} → Result A Deny → Option Refusal → Type 0
Passes (Ok value) cause = cause ≡ None
Passes (Err deny) cause = Refuses deny cause

-- what the value leads to, or the error
abbrev pub and_then : {A B E : Type 0} → (A → Result B E) → Result A E → Result B E
and_then next (Ok value) = next value
and_then next (Err error) = Err error

-- the same, where steps are written one below the other
infixl 10 ◌>>=◌
abbrev pub ◌>>=◌ : {A B E : Type 0} → Result A E → (A → Result B E) → Result B E
value >>= next = and_then next value

-- the first cause of a list in which each place may be empty
abbrev pub first_cause : List (Option Refusal) → Option Refusal
first_cause [] = None
first_cause (None ∷ causes) = first_cause causes
first_cause (Some cause ∷ causes) = Some cause
