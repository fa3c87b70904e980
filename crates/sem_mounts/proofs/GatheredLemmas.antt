-- Lists of words, as documents are put into them.
use Rattle.std.proofs.Common.{◌≡◌, ◌&&◌, ◌||◌, ℕ, zero, ◌<◌, suc, Bool, true, false, List, [], ◌∷◌}
use Rattle.std.proofs.Common.{length, map, get_or, set, take, refl, sym, ap, subst, ◌∙◌, ◌≤◌, arith}
use Rattle.std.specs.Prelude.{Result, Ok, Err, OnOk, nat_eq}
use Rattle.std.specs.List.{list_any}
use Rattle.std.proofs.lemmas.List.{take_all}
use Rattle.hac_model.specs.Query.Words.{has_term, is_asked, words}
use Rattle.hac_model.specs.declared.terms.Term.{Term}
use Rattle.hac_words.proofs.RunLemmas.{list_any-map}
use Rattle.sem_mounts.specs.WordLists.{IsListOf, Lists, is_listed}
use Rattle.hac_model.proofs.BoolLemmas.{or-turned}

-- ---- tests of tests

joined : (asked it had later : Bool) →
    ((asked && (it || had)) || later) ≡ ((asked && it) || ((asked && had) || later))
joined true true true later = refl
joined true true false later = refl
joined true false had later = refl
joined false it had later = refl

-- ---- one number more under a word

-- under a word that has a list
is_listed-more : (n number : ℕ) (term : Term) (lists : Lists) (place : ℕ)
    (list : List ℕ × List ℕ) (new : List ℕ) → place < length lists →
    list ≡ get_or lists place list →
    list_any (nat_eq n) new ≡ (nat_eq n number || list_any (nat_eq n) list.1) →
    is_listed (set lists place (list.0, new)) n term
    ≡ ((is_asked term list.0 && nat_eq n number) || is_listed lists n term)
is_listed-more n number term [] place list new below is put = absurd (omega (arith, below))
is_listed-more n number term (first ∷ lists) zero list new below is put =
    rw (put, is) (joined (is_asked term first.0) (nat_eq n number) (list_any (nat_eq n) first.1)
    (is_listed lists n term))
is_listed-more n number term (first ∷ lists) (suc place) list new below is put =
    ap (λ later. (is_asked term first.0 && list_any (nat_eq n) first.1) || later)
    (is_listed-more n number term lists place list new (omega (arith, below)) is put)
    ∙ or-turned (is_asked term first.0 && list_any (nat_eq n) first.1)
    (is_asked term list.0 && nat_eq n number) (is_listed lists n term)

-- a list that was written through has one number more, or there was no memory
pub put-more : {A E : Type 0} (result : Result A E) (number : ℕ) (word : List ℕ) (lists : Lists)
    (place : ℕ) (list : List ℕ × List ℕ) (new : List ℕ) → IsListOf lists word place →
    list ≡ get_or lists place list →
    OnOk result ((n : ℕ) → list_any (nat_eq n) new
    ≡ (nat_eq n number || list_any (nat_eq n) list.1)) →
    OnOk result ((n : ℕ) (term : Term) → is_listed (set lists place (list.0, new)) n term
    ≡ ((is_asked term word && nat_eq n number) || is_listed lists n term))
put-more (Ok value) number word lists place list new found is put = λ n term.
    subst (λ (w : List ℕ). is_listed (set lists place (list.0, new)) n term
    ≡ ((is_asked term w && nat_eq n number) || is_listed lists n term))
    (ap (λ list. list.0) is ∙ found.1 list)
    (is_listed-more n number term lists place list new found.0 is (put n))
put-more (Err fault) number word lists place list new found is put = tt

-- ---- the words of a text

-- where all words of a text are put, the text is listed
pub text-listed : {W : Type 0} (n number : ℕ) (term : Term) (text : List ℕ) (word_in : W → List ℕ)
    (all : List W) (count : ℕ) (old new : Bool) → length all ≤ count →
    map word_in all ≡ words text →
    new ≡ ((list_any (λ word. is_asked term (word_in word)) (take count all) && nat_eq n number)
    || old) → new ≡ ((has_term text term && nat_eq n number) || old)
unfolding has_term
text-listed n number term text word_in all count old new whole are is =
    is ∙ ap (λ (has : Bool). (has && nat_eq n number) || old)
    (ap (list_any (λ word. is_asked term (word_in word))) (take_all count all whole)
    ∙ sym (list_any-map (is_asked term) word_in all) ∙ ap (list_any (is_asked term)) are)
