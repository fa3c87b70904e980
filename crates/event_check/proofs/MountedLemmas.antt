-- Which documents a mount has where it comes or is synced.
use Rattle.std.proofs.Common.{◌≡◌, ℕ, ◌+◌, ◌<◌, Bool, true, false, List, [], ◌∷◌, ◌++◌, length, refl, ap, sym, ◌∙◌, arith, eq-eqb, inl, inr}
use Rattle.std.specs.Prelude.{◌&&◌, ◌||◌, ◌==◌, not, if◌then◌else◌, Option, Some, None, option_and_then}
use Rattle.std.specs.Option.{option_map, option_map_or}
use Rattle.std.proofs.lemmas.Bool.{cases_lt, eqb-true, ne_eqb}
use Rattle.std.proofs.lemmas.Bool.Decides.{nat_tests}
use Rattle.hac_model.specs.Tree.Events.{added, edited}
use Rattle.hac_model.specs.Tree.Mounting.{are_told, cleared, documents_from, forgetting_such, fresh, is_among, is_document_of, is_gone, is_such_at, keeping, mounted, redocumented, synced, with_documents, without_such}
use Rattle.hac_model.specs.Tree.Valid.{IsLayout, NumbersRise, is_in_place}
use Rattle.hac_model.specs.Tree.{entry_at, is_document}
use Rattle.hac_model.specs.declared.states.Answer.{Answer}
use Rattle.hac_model.specs.declared.states.Body.{Body}
use Rattle.hac_model.specs.declared.states.Body.TheVariants.{Mount, Document}
use Rattle.hac_model.specs.declared.states.Entry.{Entry}
use Rattle.hac_model.specs.declared.states.State.{State}
use Rattle.hac_model.specs.declared.terms.Term.{Term}
use Rattle.hac_model.proofs.ChangeLemmas.{entry_at-changed, entry_at-new, entry_at-other, numbers-append, touched}
use Rattle.hac_model.proofs.FittingLemmas.{layout-fits}
use Rattle.hac_model.proofs.KeepingLemmas.{document_by}
use Rattle.hac_model.proofs.MapLemmas.{entry_at-mapped}
use Rattle.hac_model.proofs.MountAskLemmas.{entry_at-filter, passing}
use Rattle.hac_model.proofs.MountLayoutLemmas.{cleared-fits, entry_at-documents, gone-stays}
use Rattle.hac_model.proofs.TreeLemmas.{entry_at-all, entry_at-next, place-directory}
use Rattle.hac_model.proofs.ValidLemmas.{directory-below}
use Rattle.event_check.specs.Mounting.{are_told_by, is_kept_document, is_one_of, name_at, will_have}
use Rattle.hac_model.proofs.KindLemmas.{role-such, keeps-document}
use Rattle.hac_model.proofs.BoolLemmas.{and-false, or-false}

-- Documents come.

one-none : (first n : ℕ) → is_one_of first 0 n ≡ false
one-none first n = grind (arith, nat_tests)

one-here : (first count n : ℕ) → first ≡ n → is_one_of first (count + 1) n ≡ true
one-here first count n same = grind (arith, nat_tests)

one-next : (first count n : ℕ) → (first ≡ n → ⊥) → is_one_of (first + 1) count n ≡ is_one_of first (count + 1) n
one-next first count n other = grind (arith, nat_tests)

one-low : (first count n : ℕ) → n < first → is_one_of first count n ≡ false
one-low first count n low = grind (arith, nat_tests)

-- just the numbers that they take are those of documents that come
come-documents : (first mount n : ℕ) (names : List (List ℕ)) → document_by mount (entry_at (documents_from first mount names) n) ≡ is_one_of first (length names) n
come-documents first mount n [] = sym (one-none first n)
come-documents first mount n (name ∷ names) =
    elim (first == n) as (λ b. (first == n) ≡ b → document_by mount (if b then Some (record { number = first; parent = mount; name = name; body = Document }) else entry_at (documents_from (first + 1) mount names) n) ≡ is_one_of first (length (name ∷ names)) n) [
      | true ↦ (λ here. eq-eqb mount mount refl ∙ sym (ap (λ (count : ℕ). is_one_of first count n) one ∙ one-here first (length names) n (eqb-true first n here)))
      | false ↦ (λ other. come-documents (first + 1) mount n names ∙ one-next first (length names) n (λ same. let never : true ≡ false = sym (eq-eqb first n same) ∙ other in absurd cc) ∙ ap (λ (count : ℕ). is_one_of first count n) (sym one))
    ] refl
  where
    one : length (name ∷ names) ≡ length names + 1
    one = omega arith

joined-none : (es fs : List Entry) (n : ℕ) → entry_at es n ≡ None → entry_at (es ++ fs) n ≡ entry_at fs n
joined-none [] fs n none = refl
joined-none (e ∷ es) fs n none =
    elim (e.number == n) as (λ b. (if b then Some e else entry_at es n) ≡ None → (if b then Some e else entry_at (es ++ fs) n) ≡ entry_at fs n) [
      | true ↦ (λ none. absurd cc)
      | false ↦ (λ none. joined-none es fs n none)
    ] none

-- where they come, they are documents beside those that were there
with-documents : (s : State) (mount n : ℕ) (names : List (List ℕ)) → NumbersRise 0 s.entries s.next → is_document_of (with_documents s mount names) mount n ≡ (is_document_of s mount n || is_one_of s.next (length names) n)
with-documents s mount n names rise = elim (cases_lt n s.next) [
  | inl low ↦
      (ap (document_by mount) (entry_at-documents s.entries s.next mount n names low)
      ∙ sym (or-false (is_document_of s mount n))
      ∙ ap (λ (b : Bool). is_document_of s mount n || b) (sym (one-low s.next (length names) n low)))
  | inr high ↦
      (let none : entry_at s.entries n ≡ None = entry_at-next 0 s.entries s.next n rise high in
      ap (document_by mount) (joined-none s.entries (documents_from s.next mount names) n none)
      ∙ come-documents s.next mount n names
      ∙ ap (λ (b : Bool). b || is_one_of s.next (length names) n) (sym (ap (document_by mount) none)))
]

-- A mount comes.

module _ (s : State) (dir : ℕ) (name space : List ℕ) (answers : List Answer) (documents : List (List ℕ)) (h : IsLayout s) where
  abbrev new-mount : Entry
  new-mount = record { number = s.next; parent = dir; name = name; body = Mount space answers }

  -- nothing is in a number that wasn't taken
  untaken : (n : ℕ) → is_document_of s s.next n ≡ false
  untaken n = at (entry_at s.entries n) refl
    where
      at : (o : Option Entry) → entry_at s.entries n ≡ o → document_by s.next o ≡ false
      at None found = refl
      at (Some e) found =
          let low : e.parent < s.next = directory-below s e.parent h (place-directory s.entries e (entry_at-all (λ e. is_in_place s.entries e ≡ true) s.entries n e h.places found)) in
          ap (λ (b : Bool). is_document e.body && b) (ne_eqb e.parent s.next (λ same. omega (arith, same, low))) ∙ and-false (is_document e.body)

  -- nor is the mount itself a document
  mount-alone : (n : ℕ) → is_document_of (added s dir name (Mount space answers)) s.next n ≡ false
  mount-alone n = elim (s.next == n) as (λ b. (s.next == n) ≡ b → is_document_of (added s dir name (Mount space answers)) s.next n ≡ false) [
    | true ↦ (λ here.
        let same : s.next ≡ n = eqb-true s.next n here in
        ap (is_document_of (added s dir name (Mount space answers)) s.next) (sym same)
        ∙ ap (document_by s.next) (entry_at-new s.entries new-mount (entry_at-next 0 s.entries s.next s.next h.numbers (omega arith))))
    | false ↦ (λ other.
        ap (document_by s.next) (entry_at-other s.entries new-mount n (λ same. let never : true ≡ false = sym (eq-eqb s.next n same) ∙ other in absurd cc))
        ∙ untaken n)
  ] refl

  -- its documents are the next so many behind it
  pub mounted-documents : (n : ℕ) → is_document_of (mounted s dir name space answers documents) s.next n ≡ will_have s documents (record { mount = s.next; first = s.next + 1; count = length documents }) n
  mounted-documents n =
      with-documents (added s dir name (Mount space answers)) s.next n documents (numbers-append 0 s.entries new-mount s.next h.numbers refl)
      ∙ ap (λ (b : Bool). b || is_one_of (s.next + 1) (length documents) n) (mount-alone n ∙ sym (ap (λ (b : Bool). b && is_among documents (name_at s n)) (untaken n)))

-- A mount is synced.

-- the entry, edited, if it isn't gone
abbrev unless : (Body → Body) → Entry → Bool → Option Entry
unless edit e gone = option_map (edited edit) (if not gone then Some e else None)

-- a document that goes is none any more, and any other stays one
left-document : (mount : ℕ) (documents : List (List ℕ)) (forget : Body → Body) → ((b : Body) → is_document (forget b) ≡ is_document b) → (o : Option Entry) →
    document_by mount (option_map (edited forget) (option_and_then (passing (λ e. not (is_gone mount documents e))) o)) ≡ (document_by mount o && is_among documents (option_map_or (λ (e : Entry). e.name) o []))
left-document mount documents forget keeps None = refl
left-document mount documents forget keeps (Some e) = at (is_document e.body) (e.parent == mount) (is_among documents e.name) refl refl
  where
    left : document_by mount (unless forget e false) ≡ (is_document e.body && (e.parent == mount))
    left = ap (λ (b : Bool). b && (e.parent == mount)) (keeps e.body)

    at : (d p a : Bool) → is_document e.body ≡ d → (e.parent == mount) ≡ p → document_by mount (unless forget e (d && (p && not a))) ≡ ((d && p) && a)
    at true true true document parent = left ∙ (λ i. document i && parent i)
    at true true false document parent = refl
    at true false a document parent = left ∙ (λ i. document i && parent i)
    at false p a document parent = left ∙ ap (λ (b : Bool). b && (e.parent == mount)) document

module _ (s : State) (mount : ℕ) (answers : List Answer) (documents : List (List ℕ)) (h : IsLayout s) where
  abbrev forget : Body → Body
  forget = forgetting_such (is_such_at (is_gone mount documents) s.entries)

  kept-documents : (n : ℕ) → is_document_of (cleared (is_gone mount documents) s) mount n ≡ is_kept_document s mount documents n
  kept-documents n =
      ap (document_by mount) (entry_at-mapped forget (without_such (is_gone mount documents) s).entries n
      ∙ ap (option_map (edited forget)) (entry_at-filter (λ e. not (is_gone mount documents e)) 0 s.entries s.next n h.numbers))
      ∙ left-document mount documents forget (keeps-document (forgetting_such (is_such_at (is_gone mount documents) s.entries)) (role-such (is_such_at (is_gone mount documents) s.entries))) (entry_at s.entries n)

  keeping-document : (body : Body) → is_document (keeping answers body) ≡ is_document body
  keeping-document (Mount space kept) = refl
  keeping-document other = refl

  still-document : (o : Option Entry) → document_by mount (option_map (touched mount (edited (keeping answers))) o) ≡ document_by mount o
  still-document None = refl
  still-document (Some e) = elim (e.number == mount) as (λ b. document_by mount (Some (if b then edited (keeping answers) e else e)) ≡ document_by mount (Some e)) [
    | true ↦ ap (λ (b : Bool). b && (e.parent == mount)) (keeping-document e.body)
    | false ↦ refl
  ]

  -- its documents are those that keep their places, and the next so many as have fresh names
  pub synced-documents : (n : ℕ) → is_document_of (synced s mount answers documents) mount n ≡ will_have s documents (record { mount = mount; first = s.next; count = length (fresh s mount documents) }) n
  synced-documents n =
      ap (document_by mount) (entry_at-changed mount (edited (keeping answers)) (redocumented s mount documents).entries n (λ e. refl))
      ∙ still-document (entry_at (redocumented s mount documents).entries n)
      ∙ with-documents (cleared (is_gone mount documents) s) mount n (fresh s mount documents) (cleared-fits (is_gone mount documents) s (gone-stays s mount documents) (layout-fits s h)).numbers
      ∙ ap (λ (b : Bool). b || is_one_of s.next (length (fresh s mount documents)) n) (kept-documents n)

-- what is told is judged by which documents there will be
pub told-by : (t : State) (mount : ℕ) (terms : List Term) (told : List (List ℕ)) (test : ℕ → Bool) → ((n : ℕ) → is_document_of t mount n ≡ test n) → are_told t mount terms told ≡ are_told_by test (length terms) told
told-by t mount terms told test same = ap (λ (test : ℕ → Bool). are_told_by test (length terms) told) (λ i n. same n i)
