-- The questions for a query: entries are gone through by their numbers.
use Rattle.std.proofs.Common.{◌≡◌, ℕ, ◌+◌, Bool, true, false, cond, List, [], ◌∷◌, ◌++◌, map, length, refl, ap, sym, ◌∙◌, arith}
use Rattle.std.specs.Prelude.{◌==◌, ◌&&◌, filter, if◌then◌else◌, Option, Some}
use Rattle.std.specs.List.{flat_map}
use Rattle.std.specs.Option.{option_map, option_map_or}
use Rattle.hac_model.specs.Query.Formula.{Formula}
use Rattle.hac_model.specs.Query.Queries.{terms_of}
use Rattle.hac_model.specs.Run.Asks.{documents_named, mounts_asked, query_asks, searches_of, space_of}
use Rattle.hac_model.specs.declared.spaces.Search.{Search}
use Rattle.std.proofs.lemmas.List.{length-append, length-map}
use Rattle.std.proofs.lemmas.List.Folds.{flat_map-map}
use Rattle.hac_model.specs.Tree.Asking.{asked_by, unanswered}
use Rattle.hac_model.specs.Tree.Bare.{bare, bare_body}
use Rattle.hac_model.specs.Tree.Events.{edited}
use Rattle.hac_model.specs.Tree.Limits.{mount_count}
use Rattle.hac_model.specs.Tree.Links.{answers_at}
use Rattle.hac_model.specs.Tree.Mounts.{terms_in_order}
use Rattle.hac_model.specs.Tree.Mounting.{is_among}
use Rattle.hac_model.specs.Tree.Valid.{NumbersRise}
use Rattle.hac_model.specs.Tree.{entry_at, is_document, is_mount}
use Rattle.hac_model.specs.declared.states.Body.{Body}
use Rattle.hac_model.specs.declared.states.Body.TheVariants.{File, Dir, Symlink, Semantic, Mount, Document}
use Rattle.hac_model.specs.declared.states.Entry.{Entry}
use Rattle.hac_model.specs.declared.states.State.{State}
use Rattle.hac_model.specs.declared.terms.Term.{Term}
use Rattle.hac_model.proofs.CountLemmas.{measured-cons, one_if}
use Rattle.hac_model.proofs.ValidLemmas.{found-all}
use Rattle.std.specs.List.{AllByRecursion}
use Rattle.file_tree.specs.Answers.{numbers_of}
use Rattle.tree_answers.specs.Asked.{mount_of, questions, questions_about, questions_at, questions_to}
use Rattle.kept_state.proofs.StateLemmas.{alike}
use Rattle.tree_answers.specs.declared.asking.Question.{Question}

-- Each mount is asked about the terms of the query, in order.

module _ (s : State) (query : Formula ℕ) where
  abbrev terms : List Term
  terms = terms_in_order (terms_of query)

  -- an entry is asked what its number is asked
  asked-entry : (e : Entry) → entry_at s.entries e.number ≡ Some e → questions_at s terms e.number ≡ questions_to e.number (asked_by (answers_at s) query e)
  asked-entry e found =
      ap (λ (o : Option Entry). cond (option_map_or is_mount (option_map (λ (e : Entry). e.body) o) false) (questions_about s e.number terms) []) found
      ∙ (elim (is_mount e.body) as (λ b. cond b (questions_about s e.number terms) [] ≡ questions_to e.number (if b then unanswered query (answers_at s e.number) else [])) [ true ↦ refl | false ↦ refl ])

  asked-entries : (es : List Entry) → AllByRecursion (λ e. entry_at s.entries e.number ≡ Some e) es → flat_map (λ (e : Entry). questions_at s terms e.number) es ≡ flat_map (λ (e : Entry). questions_to e.number (asked_by (answers_at s) query e)) es
  asked-entries [] h = refl
  asked-entries (e ∷ es) h = λ i. asked-entry e h.0 i ++ asked-entries es h.1 i

  pub all-asked : NumbersRise 0 s.entries s.next → flat_map (questions_at s terms) (numbers_of s.entries) ≡ questions s query
  all-asked h = flat_map-map (questions_at s terms) (λ (e : Entry). e.number) s.entries ∙ asked-entries s.entries (found-all 0 s.entries s.next h)

  -- without mounts nothing is asked
  none-in : (es : List Entry) → mount_count es ≡ 0 → flat_map (λ (e : Entry). questions_to e.number (asked_by (answers_at s) query e)) es ≡ []
  none-in [] none = refl
  none-in (e ∷ es) none =
      elim (is_mount e.body) as (λ b. is_mount e.body ≡ b → questions_to e.number (if b then unanswered query (answers_at s e.number) else []) ++ flat_map (λ (e : Entry). questions_to e.number (asked_by (answers_at s) query e)) es ≡ []) [
        | true ↦ (λ is.
            let one : one_if is_mount e.body ≡ 1 = ap (λ (b : Bool). cond {A = ℕ} b 1 0) is in
            absurd (omega (arith, measured-cons (one_if is_mount) e es, one, none)))
        | false ↦ (λ is. none-in es (omega (arith, measured-cons (one_if is_mount) e es, none)))
      ] refl

  pub none-asked : mount_count s.entries ≡ 0 → questions s query ≡ []
  none-asked none = none-in s.entries none

-- The questions are those that spaces are asked, and are about these mounts.

module _ (s : State) (query : Formula ℕ) where
  even-in : (es : List Entry) → length (flat_map (searches_of s query) es) ≡ length (flat_map (λ (e : Entry). questions_to e.number (asked_by (answers_at s) query e)) es)
  even-in [] = refl
  even-in (e ∷ es) =
      let terms : List Term = asked_by (answers_at s) query e in
      length-append (searches_of s query e) (flat_map (searches_of s query) es)
      ∙ (λ i. (length-map terms (search e) ∙ sym (length-map terms (question e.number))) i + even-in es i)
      ∙ sym (length-append (questions_to e.number terms) (flat_map (λ (e : Entry). questions_to e.number (asked_by (answers_at s) query e)) es))
    where
      search : Entry → Term → Search
      search e term = record { space = space_of s e.number; term = term }

      question : ℕ → Term → Question
      question mount term = record { mount = mount; term = term }

  pub asks-even : length (query_asks s query).searches ≡ length (questions s query)
  asks-even = even-in s.entries

  mounts-joined : (n : ℕ) (terms : List Term) (rest : List Question) → map mount_of (questions_to n terms ++ rest) ≡ map (λ (term : Term). n) terms ++ map mount_of rest
  mounts-joined n [] rest = refl
  mounts-joined n (term ∷ terms) rest = ap (λ (ns : List ℕ). n ∷ ns) (mounts-joined n terms rest)

  mounts-in : (es : List Entry) → map mount_of (flat_map (λ (e : Entry). questions_to e.number (asked_by (answers_at s) query e)) es) ≡ flat_map (λ (e : Entry). map (λ (term : Term). e.number) (asked_by (answers_at s) query e)) es
  mounts-in [] = refl
  mounts-in (e ∷ es) =
      mounts-joined e.number (asked_by (answers_at s) query e) (flat_map (λ (e : Entry). questions_to e.number (asked_by (answers_at s) query e)) es)
      ∙ ap (λ (ns : List ℕ). map (λ (term : Term). e.number) (asked_by (answers_at s) query e) ++ ns) (mounts-in es)

  pub mounts-told : map mount_of (questions s query) ≡ mounts_asked s query
  mounts-told = mounts-in s.entries

-- What is told by the names that were answered.

abbrev is_named : ℕ → List (List ℕ) → Entry → Bool
is_named mount names e = is_document e.body && (e.parent == mount && is_among names e.name)

-- a state and one whose tree is the same name the same documents
bare-named : (mount : ℕ) (names : List (List ℕ)) (es : List Entry) → map (λ (e : Entry). e.number) (filter (is_named mount names) (map (edited bare_body) es)) ≡ map (λ (e : Entry). e.number) (filter (is_named mount names) es)
bare-named mount names [] = refl
bare-named mount names (e ∷ es) =
    ap (λ (b : Bool). map (λ (e : Entry). e.number) (if b && (e.parent == mount && is_among names e.name) then edited bare_body e ∷ filter (is_named mount names) (map (edited bare_body) es) else filter (is_named mount names) (map (edited bare_body) es))) (document-same e.body)
    ∙ (elim (is_named mount names e) as (λ b. map (λ (e : Entry). e.number) (if b then edited bare_body e ∷ filter (is_named mount names) (map (edited bare_body) es) else filter (is_named mount names) (map (edited bare_body) es)) ≡ map (λ (e : Entry). e.number) (if b then e ∷ filter (is_named mount names) es else filter (is_named mount names) es)) [
      | true ↦ ap (λ (ns : List ℕ). e.number ∷ ns) (bare-named mount names es)
      | false ↦ bare-named mount names es
    ])
  where
    document-same : (body : Body) → is_document (bare_body body) ≡ is_document body
    document-same (File text dirty shown) = refl
    document-same Dir = refl
    document-same (Symlink target) = refl
    document-same (Semantic query permanent prohibited) = refl
    document-same (Mount space answers) = refl
    document-same Document = refl

pub same-named : (s t : State) → bare s ≡ bare t → (mount : ℕ) (names : List (List ℕ)) → documents_named s mount names ≡ documents_named t mount names
same-named s t bares mount names = alike s t bares (λ s. documents_named s mount names) (λ s. bare-named mount names s.entries)
