-- What spaces are asked, by the tree of a state.
use Rattle.std.proofs.Common.{◌≡◌, ℕ, Bool, true, false, List, [], ◌∷◌, ◌++◌, refl, ap, sym, ◌∙◌}
use Rattle.std.specs.Prelude.{if◌then◌else◌, Option, Some, None, option_and_then}
use Rattle.std.specs.List.{flat_map}
use Rattle.std.specs.Option.{IsSome, option_map, option_map_or}
use Rattle.hac_model.specs.Query.Formula.{Formula}
use Rattle.hac_model.specs.Run.Asks.{no_asks, query_asks, searches_for, searches_of, space_of, text_asks}
use Rattle.hac_model.specs.Tree.Asking.{asked_by}
use Rattle.hac_model.specs.Tree.Bare.{bare, bare_body}
use Rattle.hac_model.specs.Tree.Changes.{edited}
use Rattle.hac_model.specs.Tree.Links.{answers_at, parent_of, space_at}
use Rattle.hac_model.specs.Tree.{entry_at, is_document, is_document_at, space_in}
use Rattle.hac_model.specs.declared.spaces.Asks.{Asks}
use Rattle.hac_model.specs.declared.spaces.Search.{Search}
use Rattle.hac_model.specs.declared.states.Body.{Body}
use Rattle.hac_model.specs.declared.states.Body.TheVariants.{Semantic, Mount}
use Rattle.hac_model.specs.declared.states.Entry.{Entry}
use Rattle.hac_model.specs.declared.states.State.{State}
use Rattle.hac_model.specs.declared.terms.Term.{Term}
use Rattle.hac_model.proofs.AlikeLemmas.{entry_at-bare}
use Rattle.kept_state.proofs.StateLemmas.{alike}
use Rattle.tree_answers.specs.Asked.{questions, questions_to}
use Rattle.tree_answers.specs.declared.asking.Question.{Question}
use Rattle.event_check.proofs.PlacedLemmas.{name-bare}
use Rattle.event_check.proofs.ToldLemmas.{questions-in}
use Rattle.hac_core.specs.Questions.{searches_with}

-- a document is an entry
pub document-some : (es : List Entry) (n : ℕ) → is_document_at es n ≡ true → IsSome (entry_at es n)
document-some es n is = at (entry_at es n) is
  where
    at : (o : Option Entry) → option_map_or is_document (option_map (λ (e : Entry). e.body) o) false ≡ true → IsSome o
    at None is = absurd cc
    at (Some e) is = refl

-- Two states whose trees are one.

space-bare : (s : State) (n : ℕ) → space_at (bare s) n ≡ space_at s n
space-bare s n = ap (λ (o : Option Entry). option_and_then space_in (option_map (λ (e : Entry). e.body) o)) (entry_at-bare s n) ∙ at (entry_at s.entries n)
  where
    body : (b : Body) → space_in (bare_body b) ≡ space_in b
    body (Semantic query permanent prohibited) = refl
    body (Mount space answers) = refl
    body other = refl

    at : (o : Option Entry) → option_and_then space_in (option_map (λ (e : Entry). e.body) (option_map (edited bare_body) o)) ≡ option_and_then space_in (option_map (λ (e : Entry). e.body) o)
    at None = refl
    at (Some e) = body e.body

module _ (s t : State) (bares : bare s ≡ bare t) where
  pub same-space : (n : ℕ) → space_at s n ≡ space_at t n
  same-space n = alike s t bares (λ s. space_at s n) (λ s. space-bare s n)

  -- a name that is found in the one is that in the other
  pub same-name : (n : ℕ) (name : List ℕ) → option_map (λ (e : Entry). e.name) (entry_at t.entries n) ≡ Some name → option_map_or (λ (e : Entry). e.name) (entry_at s.entries n) [] ≡ name
  same-name n name is = alike s t bares (λ s. option_map_or (λ (e : Entry). e.name) (entry_at s.entries n) []) (λ s. name-bare s n) ∙ at (entry_at t.entries n) is
    where
      at : (o : Option Entry) → option_map (λ (e : Entry). e.name) o ≡ Some name → option_map_or (λ (e : Entry). e.name) o [] ≡ name
      at None is = absurd cc
      at (Some e) is = cc

-- The text of a document.

abbrev fetching : List Search → List ℕ → List ℕ → Asks
fetching searches space document = record { list = None; searches = searches; fetch = Some (record { space = space; document = document }) }

module _ (s : State) (n : ℕ) where
  pub fetched : (searches : List Search) (space document : List ℕ) → is_document_at s.entries n ≡ true → searches ≡ [] → space ≡ space_of s (parent_of s n) → option_map_or (λ (e : Entry). e.name) (entry_at s.entries n) [] ≡ document → fetching searches space document ≡ text_asks s n
  fetched searches space document is none shown named =
      (λ i. fetching (none i) (shown i) (sym named i))
      ∙ sym (ap (λ (b : Bool). if b then fetching [] (space_of s (parent_of s n)) (option_map_or (λ (e : Entry). e.name) (entry_at s.entries n) []) else no_asks) is)

  pub unfetched : is_document_at s.entries n ≡ false → text_asks s n ≡ no_asks
  unfetched not-one = ap (λ (b : Bool). if b then fetching [] (space_of s (parent_of s n)) (option_map_or (λ (e : Entry). e.name) (entry_at s.entries n) []) else no_asks) not-one

-- The questions for a query.

abbrev searching : List Search → Asks
searching searches = record { list = None; searches = searches; fetch = None }

module _ (s : State) (query : Formula ℕ) where
  searches-joined : (n : ℕ) (terms : List Term) (rest : List Question) → searches_with s (questions_to n terms ++ rest) ≡ searches_for (space_of s n) terms ++ searches_with s rest
  searches-joined n [] rest = refl
  searches-joined n (term ∷ terms) rest = ap (λ (more : List Search). record { space = space_of s n; term = term } ∷ more) (searches-joined n terms rest)

  searches-in : (es : List Entry) → searches_with s (questions-in s query es) ≡ flat_map (searches_of s query) es
  searches-in [] = refl
  searches-in (e ∷ es) =
      searches-joined e.number (asked_by (answers_at s) query e) (questions-in s query es)
      ∙ ap (λ (more : List Search). searches_of s query e ++ more) (searches-in es)

  -- each is asked of the space of its mount
  searches-asked : searches_with s (questions s query) ≡ flat_map (searches_of s query) s.entries
  searches-asked = searches-in s.entries

  pub asked : (searches : List Search) (asking : List Question) → searches ≡ searches_with s asking → asking ≡ questions s query → searching searches ≡ query_asks s query
  asked searches asking is are = ap searching (is ∙ ap (searches_with s) are ∙ searches-asked)
