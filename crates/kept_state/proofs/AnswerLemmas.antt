-- The answers that the mounts of a state keep.
use Rattle.std.proofs.Common.{◌≡◌, ℕ, true, false, List, [], ◌∷◌, refl, ap, subst, sym, ◌∙◌}
use Rattle.std.specs.Prelude.{◌==◌, if◌then◌else◌, Option, Some, None, is_some, option_and_then}
use Rattle.std.specs.List.{AllByRecursion}
use Rattle.std.specs.Option.{option_map, option_map_or}
use Rattle.hac_model.specs.Tree.Facts.{Facts}
use Rattle.hac_model.specs.Tree.Links.{answers_at, is_semantic}
use Rattle.hac_model.specs.Tree.Valid.{IsAnswer, IsValid, KeepsWell, RiseFrom}
use Rattle.hac_model.specs.Tree.{answers_in, body_at, entry_at, is_mount, is_mount_at, query_in}
use Rattle.hac_model.specs.declared.states.Answer.{Answer}
use Rattle.hac_model.specs.declared.states.Body.{Body}
use Rattle.hac_model.specs.declared.states.Body.TheVariants.{File, Dir, Symlink, Semantic, Mount, Document}
use Rattle.hac_model.specs.declared.states.Entry.{Entry}
use Rattle.hac_model.specs.declared.states.State.{State}
use Rattle.kept_facts.specs.Answers.{AreInOrder, answers_kept}
use Rattle.kept_state.specs.Parts.{IsLinked, state_of}
use Rattle.kept_state.specs.declared.parts.Parts.{Parts}
use Rattle.hac_model.proofs.FactLemmas.{answers-fact}

-- The answers of a number are in its facts.

pub kept-answers : (kept : Parts) → IsLinked kept → (n : ℕ) → answers_kept kept.answers n ≡ answers_at (state_of kept) n
kept-answers kept h n = sym (answers-fact (state_of kept) n ∙ ap (λ (facts : Facts). facts.answers) (h.own n))

-- Only mounts have answers.

mount-none : (body : Body) → is_mount body ≡ false → answers_in body ≡ []
mount-none (Mount space answers) h = absurd cc
mount-none (File text dirty shown) h = refl
mount-none Dir h = refl
mount-none (Symlink target) h = refl
mount-none (Semantic query permanent prohibited) h = refl
mount-none Document h = refl

query-none : (body : Body) → is_some (query_in body) ≡ true → answers_in body ≡ []
query-none (Semantic query permanent prohibited) h = refl
query-none (Mount space answers) h = absurd cc
query-none (File text dirty shown) h = absurd cc
query-none Dir h = absurd cc
query-none (Symlink target) h = absurd cc
query-none Document h = absurd cc

pub mountless : (s : State) (n : ℕ) → is_mount_at s.entries n ≡ false → answers_at s n ≡ []
mountless s n h = elim (body_at s.entries n) as (λ (o : Option Body). option_map_or is_mount o false ≡ false → option_map_or answers_in o [] ≡ []) [
  | None ↦ (λ h. refl)
  | Some body ↦ (λ h. mount-none body h)
] h

pub asking-keeps_none : (s : State) (n : ℕ) → is_semantic s n ≡ true → answers_at s n ≡ []
asking-keeps_none s n h = elim (body_at s.entries n) as (λ (o : Option Body). is_some (option_and_then query_in o) ≡ true → option_map_or answers_in o [] ≡ []) [
  | None ↦ (λ h. absurd cc)
  | Some body ↦ (λ h. query-none body h)
] h

-- What a valid state keeps is in order.

documents-rise : (s : State) (mount : ℕ) (answers : List Answer) → AllByRecursion (IsAnswer s mount) answers → AllByRecursion (λ answer. RiseFrom 0 answer.documents) answers
documents-rise s mount [] h = tt
documents-rise s mount (answer ∷ answers) h = (h.0.rise, documents-rise s mount answers h.1)

body-order : (s : State) (mount : ℕ) (body : Body) → KeepsWell s mount body → AreInOrder (answers_in body)
body-order s mount (Mount space answers) h = record { terms = h.rise; documents = documents-rise s mount answers h.sound }
body-order s mount (File text dirty shown) h = record { terms = tt; documents = tt }
body-order s mount Dir h = record { terms = tt; documents = tt }
body-order s mount (Symlink target) h = record { terms = tt; documents = tt }
body-order s mount (Semantic query permanent prohibited) h = record { terms = tt; documents = tt }
body-order s mount Document h = record { terms = tt; documents = tt }

abbrev told : Option Entry → List Answer
told entry = option_map_or answers_in (option_map (λ (e : Entry). e.body) entry) []

order-at : (s : State) (es : List Entry) (n : ℕ) → AllByRecursion (λ entry. KeepsWell s entry.number entry.body) es → AreInOrder (told (entry_at es n))
order-at s [] n h = record { terms = tt; documents = tt }
order-at s (e ∷ es) n h =
    elim (e.number == n) as (λ b. AreInOrder (told (if b then Some e else entry_at es n))) [
      | true ↦ body-order s e.number e.body h.0
      | false ↦ order-at s es n h.1
    ]

pub valid-order : (s : State) → IsValid s → (n : ℕ) → AreInOrder (answers_at s n)
valid-order s valid n = order-at s s.entries n valid.answers

pub kept-order : (kept : Parts) → IsLinked kept → (n : ℕ) → AreInOrder (answers_kept kept.answers n)
kept-order kept h n = subst AreInOrder (sym (kept-answers kept h n)) (valid-order (state_of kept) h.valid n)
