-- Lists of words, as documents are put into them, and marks that are set by them.
use Rattle.std.proofs.Common.{◌≡◌, ◌&&◌, ◌||◌, ℕ, ◌+◌, ◌<◌, suc, Bool, true, false, cond}
use Rattle.std.proofs.Common.{List, [], ◌∷◌, length, filter, set}
use Rattle.std.proofs.Common.{refl, ap, ◌∙◌, arith}
use Rattle.std.proofs.lemmas.Bool.{eq-eqb, ne_eqb}
use Rattle.hac_model.specs.Query.Words.{has_term}
use Rattle.hac_model.specs.declared.terms.Term.{Term}
use Rattle.hac_model.specs.Spaces.Answering.{names_with}
use Rattle.hac_model.specs.Spaces.Catalogue.{Document, names}
use Rattle.sem_mounts.specs.WordLists.{AreListed, AreMarked, Lists, has_from, is_listed, is_marked}
use Rattle.sem_mounts.specs.WordLists.{marked}

-- ---- steps of loops, over what is left

-- ---- marks

module _ (term : Term) where
  -- documents that are numbered from k have no number below it
  not_before : (documents : List Document) (k n : ℕ) → n < k →
      has_from k documents n term ≡ false
  not_before [] k n below = refl
  not_before (document ∷ documents) k n below =
      rw (
        ne_eqb n k (λ (same : n ≡ k). omega (arith, below, same)),
        not_before documents (k + 1) n (omega (arith, below)),
      )
      (none (has_term document.1 term)) where
        none : (has : Bool) → ((has && false) || false) ≡ false
        none true = refl
        none false = refl

  -- the first of them has the number k
  first_from : (document : Document) (documents : List Document) (k : ℕ) →
      has_from k (document ∷ documents) k term ≡ has_term document.1 term
  first_from document documents k =
      rw (eq-eqb k k refl, not_before documents (k + 1) k (omega arith))
      (one (has_term document.1 term)) where
        one : (has : Bool) → ((has && true) || false) ≡ has
        one true = refl
        one false = refl

  -- and each other one a number behind it
  others_from : (document : Document) (documents : List Document) (k i : ℕ) →
      has_from k (document ∷ documents) (k + suc i) term
      ≡ has_from (k + 1) documents ((k + 1) + i) term
  others_from document documents k i =
      rw (ne_eqb (k + suc i) k (λ (same : k + suc i ≡ k). omega (arith, same)))
      (none (has_term document.1 term) _
      ∙ ap (λ (n : ℕ). has_from (k + 1) documents n term) (omega arith)) where
        none : (has later : Bool) → ((has && false) || later) ≡ later
        none true later = refl
        none false later = refl

  -- the names whose marks are set are those of the documents that have the term
  marked-from : (k : ℕ) (documents : List Document) (marks : List Bool) →
      length marks ≡ length documents →
      ((i : ℕ) → i < length documents → is_marked marks i ≡ has_from k documents (k + i) term) →
      marked (names documents) marks ≡ names_with documents term
  marked-from k [] marks len set = refl
  marked-from k (document ∷ documents) [] len set = absurd (omega (arith, len))
  marked-from k (document ∷ documents) (mark ∷ marks) len set =
      here mark (has_term document.1 term)
      (set 0 (omega arith)
      ∙ ap (λ (n : ℕ). has_from k (document ∷ documents) n term) (omega arith)
      ∙ first_from document documents k)
      (marked-from (k + 1) documents marks (omega (arith, len))
      (λ (i : ℕ) (below : i < length documents). set (suc i) (omega (arith, below))
      ∙ others_from document documents k i)) where
        here : (mark has : Bool) → mark ≡ has →
            marked (names documents) marks ≡ names_with documents term →
            cond mark (document.0 ∷ marked (names documents) marks) (marked (names documents) marks)
            ≡ names (cond has (document ∷ filter (λ document. has_term document.1 term) documents)
            (filter (λ document. has_term document.1 term) documents))
        here true true same later = ap (λ found. document.0 ∷ found) later
        here false false same later = later
        here true false same later = absurd cc
        here false true same later = absurd cc

pub marked-names : (term : Term) (documents : List Document) (lists : Lists) (marks : List Bool) →
    AreListed documents lists →
    AreMarked (λ n. is_listed lists n term) (length documents) marks →
    marked (names documents) marks ≡ names_with documents term
marked-names term documents lists marks listed are_marked =
    marked-from term 0 documents marks are_marked.len
    (λ (i : ℕ) (below : i < length documents). are_marked.set i below ∙ listed i term
    ∙ ap (λ (n : ℕ). has_from 0 documents n term) (omega arith))

-- where no mark is left, no name is marked
pub marked-none : (names : List (List ℕ)) (marks : List Bool) → length marks ≡ 0 →
    marked names marks ≡ []
marked-none [] marks none = refl
marked-none (name ∷ names) [] none = refl
marked-none (name ∷ names) (mark ∷ marks) none = absurd (omega (arith, none))
