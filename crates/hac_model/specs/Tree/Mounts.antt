-- Mounts: the answers of spaces that they keep, and the terms that have to be asked for.
use Rattle.std.specs.Prelude.{ℕ, Bool, if◌then◌else◌, List, [], ◌∷◌, Option, Some, None, is_some}
use Rattle.std.specs.List.{flat_map}
use Rattle.std.specs.Option.{option_map_or}
use Rattle.hac_model.specs.Query.Queries.{terms_of}
use Rattle.hac_model.specs.Query.Terms.{is_same_term, is_term_before}
use Rattle.hac_model.specs.Tree.{query_in}
use Rattle.hac_model.specs.declared.states.Answer.{Answer}
use Rattle.hac_model.specs.declared.states.Body.{Body}
use Rattle.hac_model.specs.declared.states.Entry.{Entry}
use Rattle.hac_model.specs.declared.terms.Term.{Term}

-- the documents that had a term, if an answer for it is kept
abbrev pub kept_for : List Answer → Term → Option (List ℕ)
kept_for [] term = None
kept_for (answer ∷ answers) term = if is_same_term answer.term term then Some answer.documents else kept_for answers term

-- an answer for the term is kept
abbrev pub is_kept : List Answer → Term → Bool
is_kept answers term = is_some (kept_for answers term)

-- the terms that a directory asks for
abbrev pub terms_in : Body → List Term
terms_in body = option_map_or terms_of (query_in body) []

-- the terms in use: those of all queries
abbrev pub terms_in_use : List Entry → List Term
terms_in_use entries = flat_map (λ entry. terms_in entry.body) entries

-- a term put into its place among terms in order, where it isn't among them yet
abbrev pub put_term : Term → List Term → List Term
put_term term [] = term ∷ []
put_term term (first ∷ terms) =
    if is_term_before term first then term ∷ first ∷ terms
    else (if is_term_before first term then first ∷ put_term term terms else first ∷ terms)

-- terms in order, each once
abbrev pub terms_in_order : List Term → List Term
terms_in_order [] = []
terms_in_order (term ∷ terms) = put_term term (terms_in_order terms)

-- what a space is asked for as it is mounted, and as its mount is synced: the terms in use, in order
abbrev pub terms_to_ask : List Entry → List Term
terms_to_ask entries = terms_in_order (terms_in_use entries)
