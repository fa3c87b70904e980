-- What mounts have to be asked for a query, and what they keep then.
use Rattle.std.specs.Prelude.{ℕ, Bool, ◌==◌, ◌&&◌, not, if◌then◌else◌, List, [], ◌∷◌, drop, filter, length, map, take}
use Rattle.hac_model.specs.Query.Formula.{Formula}
use Rattle.hac_model.specs.Query.Queries.{terms_of}
use Rattle.hac_model.specs.Query.Terms.{is_term_before}
use Rattle.hac_model.specs.Tree.Changes.{edited}
use Rattle.hac_model.specs.Tree.Links.{answers_at}
use Rattle.hac_model.specs.Tree.Mounting.{answers_to, are_told}
use Rattle.hac_model.specs.Tree.Mounts.{terms_in_order, is_kept}
use Rattle.hac_model.specs.Tree.{is_mount}
use Rattle.hac_model.specs.declared.states.Answer.{Answer}
use Rattle.hac_model.specs.declared.states.Body.{Body}
use Rattle.hac_model.specs.declared.states.Body.TheVariants.{Mount}
use Rattle.hac_model.specs.declared.states.Entry.{Entry}
use Rattle.hac_model.specs.declared.states.State.{State}
use Rattle.hac_model.specs.declared.terms.Term.{Term}

-- the terms of a query for which no answer is among these, in order
abbrev pub unanswered : Formula ℕ → List Answer → List Term
unanswered query answers = filter (λ term. not (is_kept answers term)) (terms_in_order (terms_of query))

-- What an entry has to be asked for a query, given what each mount keeps: a mount the terms for which it keeps no
-- answer, and any other entry nothing.
abbrev pub asked_by : (ℕ → List Answer) → Formula ℕ → Entry → List Term
asked_by kept query entry = if is_mount entry.body then unanswered query (kept entry.number) else []

-- an answer put into its place among answers whose terms rise
abbrev pub put_answer : Answer → List Answer → List Answer
put_answer new [] = new ∷ []
put_answer new (answer ∷ answers) =
    if is_term_before new.term answer.term then new ∷ answer ∷ answers else answer ∷ put_answer new answers

-- answers with more of them
abbrev pub with_answers : List Answer → List Answer → List Answer
with_answers [] answers = answers
with_answers (new ∷ more) answers = put_answer new (with_answers more answers)

-- a mount keeps these answers too
abbrev pub gaining : List Answer → Body → Body
gaining more (Mount space answers) = Mount space (with_answers more answers)
gaining more other = other

-- What the mount of a number gains, given what each mount keeps. The mounts were told in order of number: each one list
-- for each term that it has to be asked for, in order.
abbrev pub gained : (ℕ → List Answer) → Formula ℕ → List (List ℕ) → List Entry → ℕ → List Answer
gained kept query told [] number = []
gained kept query told (entry ∷ entries) number =
    if entry.number == number then answers_to (asked_by kept query entry) told
    else gained kept query (drop (length (asked_by kept query entry)) told) entries number

-- the state in which each mount keeps what it was told for a query
abbrev pub with_told : Formula ℕ → List (List ℕ) → State → State
with_told query told s = record s {
  entries = map (λ entry. edited (gaining (gained (answers_at s) query told s.entries entry.number)) entry) s.entries;
}

-- each mount was told all that it has to be asked for the query, of its own documents, and nothing else was told
abbrev pub are_all_told : State → Formula ℕ → List (List ℕ) → List Entry → Bool
are_all_told s query told [] = length told == 0
are_all_told s query told (entry ∷ entries) =
    are_told s entry.number (asked_by (answers_at s) query entry) (take (length (asked_by (answers_at s) query entry)) told)
    && are_all_told s query (drop (length (asked_by (answers_at s) query entry)) told) entries
