-- What the mounts have to be asked for a query, mount by mount and term by term.
use Rattle.std.specs.Prelude.{ℕ, Bool, false, ◌==◌, ◌&&◌, ◌||◌, not, if◌then◌else◌, List, [], ◌∷◌, filter, map}
use Rattle.std.specs.List.{flat_map}
use Rattle.hac_model.specs.Query.Formula.{Formula}
use Rattle.hac_model.specs.Query.Terms.{is_same_term}
use Rattle.hac_model.specs.Tree.Asking.{asked_by}
use Rattle.hac_model.specs.Tree.Links.{answers_at, atom, has, parent_of}
use Rattle.hac_model.specs.Tree.Mounts.{is_kept}
use Rattle.hac_model.specs.Tree.{is_document_at, is_mount_at}
use Rattle.hac_model.specs.declared.states.State.{State}
use Rattle.hac_model.specs.declared.terms.Term.{Term}
use Rattle.tree_answers.specs.declared.asking.Question.{Question}

-- an entry's number with each of these terms
abbrev pub questions_to : ℕ → List Term → List Question
questions_to mount terms = map (λ term. record { mount = mount; term = term }) terms

-- what the mounts have to be asked for a query: each in order of number, for the terms for which it keeps no answer
abbrev pub questions : State → Formula ℕ → List Question
questions s query = flat_map (λ entry. questions_to entry.number (asked_by (answers_at s) query entry)) s.entries

-- what a mount has to be asked about these terms: those for which it keeps no answer
abbrev pub questions_about : State → ℕ → List Term → List Question
questions_about s mount terms = questions_to mount (filter (λ term. not (is_kept (answers_at s mount) term)) terms)

-- the same of any number: what isn't a mount is asked nothing
abbrev pub questions_at : State → List Term → ℕ → List Question
questions_at s terms number = if is_mount_at s.entries number then questions_about s number terms else []

-- the mount that a question is about
abbrev pub mount_of : Question → ℕ
mount_of question = question.mount

-- the answer to a question, these documents, tells that the mount's document has the term
abbrev pub tells : Question → List ℕ → ℕ → Term → ℕ → Bool
tells question documents mount term item = question.mount == mount && (is_same_term question.term term && has documents item)

-- the answer to the first question tells so
abbrev pub first_tells : List Question → List (List ℕ) → ℕ → Term → ℕ → Bool
first_tells (question ∷ questions) (documents ∷ told) mount term item = tells question documents mount term item
first_tells questions told mount term item = false

-- the answer to one of the questions tells so
abbrev pub was_told : List Question → List (List ℕ) → ℕ → Term → ℕ → Bool
was_told (question ∷ questions) (documents ∷ told) mount term item =
    tells question documents mount term item || was_told questions told mount term item
was_told questions told mount term item = false

-- the item is a document, and its mount was told that it has the term
abbrev pub is_document_told : State → List Question → List (List ℕ) → Term → ℕ → Bool
is_document_told s questions told term item = is_document_at s.entries item && was_told questions told (parent_of s item) term item

-- the item has the term, or its mount was told that it has it
abbrev pub atom_told : State → List Question → List (List ℕ) → Term → ℕ → Bool
atom_told s questions told term item = atom s term item || is_document_told s questions told term item
