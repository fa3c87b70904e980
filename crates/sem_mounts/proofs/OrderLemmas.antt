-- Words in their order: those that a term asks for stand together, from its letters on.
use Rattle.std.proofs.Common.{◌≡◌, ◌&&◌, ◌||◌, ◌<◌, ◌≤◌, ◌+◌, ◌-◌, ℕ, suc, Bool, true, false}
use Rattle.std.proofs.Common.{List, [], ◌∷◌, length, get_or, take, drop, refl, sym, ap, subst}
use Rattle.std.proofs.Common.{◌∙◌, Ordering, arith, drop-cons, length-drop}
use Rattle.std.specs.Prelude.{⊤, nat_eq}
use Rattle.std.specs.Cmp.{IsStrictWeakOrder}
use Rattle.std.specs.Cmp.Lexicographic.{nat_list_cmp_total, slice_cmp}
use Rattle.std.specs.List.{All, AllByRecursion, list_any}
use Rattle.std.specs.List.Sorted.{IsPartitionedBy, IsPartitionPoint, IsPermutation}
use Rattle.std.specs.Ordering.{is_le, is_lt, nat_cmp, ordering_reverse}
use Rattle.std.specs.declared.cmp.Ordering.TheVariants.{Less, Equal, Greater}
use Rattle.std.proofs.Math.Bool.{or-false}
use Rattle.std.proofs.lemmas.List.{get_or-drop, get_or-take, length-take-le, take-append-drop, take_rest}
use Rattle.std.proofs.lemmas.List.Elements.{recursion_from_All}
use Rattle.std.proofs.lemmas.List.Folds.{list_any-append, list_any_none}
use Rattle.std.proofs.lemmas.List.Sorted.{list_any-IsPermutation, ranks_by, sorted_far}
use Rattle.hac_model.specs.Query.Terms.{letters_in}
use Rattle.hac_model.specs.Query.Words.{is_asked}
use Rattle.hac_model.specs.declared.terms.Term.{Term}
use Rattle.hac_words.proofs.RisingLemmas.{words_apart}
use Rattle.sem_mounts.specs.WordLists.{AreInOrder, AreMarked, Lists, is_listed, is_marked}
use Rattle.hac_words.proofs.AskedLemmas.{asked-from, asked-stays, first, isnt}

-- ---- one byte

-- ---- words that begin with letters

-- ---- words that a term asks for

-- the same of a word that no other is behind
asked-remains : (term : Term) (word later : List ℕ) →
    is_le (slice_cmp nat_cmp (letters_in term) word) ≡ true →
    is_lt (slice_cmp nat_cmp later word) ≡ false → is_asked term later ≡ true →
    is_asked term word ≡ true
asked-remains term word later from behind asked =
    by_order (slice_cmp nat_cmp word later) refl
    (ap is_lt (sym (nat_list_cmp_total.antisymm later word)) ∙ behind) where
      by_order : (order : Ordering) → slice_cmp nat_cmp word later ≡ order →
          is_lt (ordering_reverse order) ≡ false → is_asked term word ≡ true
      by_order Less tie behind = asked-stays term word later from tie asked
      by_order Equal tie behind =
          subst (λ (w : List ℕ). is_asked term w ≡ true) (sym (words_apart word later tie)) asked
      by_order Greater tie behind = absurd cc

-- ---- the lists of words from the letters on

-- the list is that of a word before the letters
abbrev pub is_before : List ℕ → List ℕ × List ℕ → Bool
is_before letters list = is_lt (slice_cmp nat_cmp list.0 letters)

not_before : (letters word : List ℕ) → is_lt (slice_cmp nat_cmp word letters) ≡ false →
    is_le (slice_cmp nat_cmp letters word) ≡ true
not_before letters word is =
    ap is_le (nat_list_cmp_total.antisymm letters word) ∙ back (slice_cmp nat_cmp word letters) is
  where
    back : (order : Ordering) → is_lt order ≡ false → is_le (ordering_reverse order) ≡ true
    back Less is = absurd cc
    back Equal is = refl
    back Greater is = refl

before : (letters word : List ℕ) → is_lt (slice_cmp nat_cmp word letters) ≡ true →
    is_le (slice_cmp nat_cmp letters word) ≡ false
before letters word is =
    ap is_le (nat_list_cmp_total.antisymm letters word) ∙ back (slice_cmp nat_cmp word letters) is
  where
    back : (order : Ordering) → is_lt order ≡ true → is_le (ordering_reverse order) ≡ false
    back Less is = refl
    back other is = absurd cc

pub by_word : IsStrictWeakOrder (λ (list other : List ℕ × List ℕ).
    is_lt (slice_cmp nat_cmp list.0 other.0))
by_word = ranks_by nat_list_cmp_total (λ (list : List ℕ × List ℕ). list.0)

isnt_true : (b : Bool) → b ≡ false → ¬ (b ≡ true)
isnt_true true is = λ _. absurd cc
isnt_true false is = λ over. absurd cc

-- the words before the letters stand before the others
pub before-first : (letters : List ℕ) (lists : Lists) → AreInOrder lists →
    IsPartitionedBy (is_before letters) lists
before-first letters lists order i j d low high is_later =
    by_case (is_before letters (get_or lists i d)) refl where
      by_case : (b : Bool) → is_before letters (get_or lists i d) ≡ b →
          is_before letters (get_or lists i d) ≡ true
      by_case true is = is
      by_case false is = absurd (isnt_true (is_before letters (get_or lists j d))
          ((ranks_by nat_list_cmp_total (λ (word : List ℕ). word)).chain (get_or lists j d).0
          (get_or lists i d).0 letters
          (sorted_far (λ (list other : List ℕ × List ℕ). is_lt (slice_cmp nat_cmp list.0 other.0))
          by_word lists order i j d low high) is) is_later)

-- what stands from the first on that isn't before the letters
module _ (term : Term) (lists : Lists) (first : ℕ) where
  abbrev pub Parts : Type 0
  Parts = IsPartitionPoint (λ list. is_before (letters_in term) list ≡ true)
      (λ list. is_before (letters_in term) list ≡ false) lists first

  pub rest-from : Parts →
      All (λ list. is_le (slice_cmp nat_cmp (letters_in term) list.0) ≡ true) (drop first lists)
  rest-from parts k d high =
      rw (get_or-drop first lists k d)
      (not_before (letters_in term) (get_or lists (first + k) d).0
      (parts.1 (first + k) d (omega arith) (omega (arith, high, length-drop first lists))))

  pub rest-asked : first ≤ length lists → Parts → (n : ℕ) →
      is_listed (drop first lists) n term ≡ is_listed lists n term
  rest-asked within parts n =
      let asks : List ℕ × List ℕ → Bool =
      (λ list. is_asked term list.0 && list_any (nat_eq n) list.1) in
      let none : list_any asks (take first lists) ≡ false =
      list_any_none asks (take first lists) (λ k d high.
      let below : k < first = omega (arith, high, length-take-le first lists within) in
      rw (get_or-take first lists k d below)
      (ap (λ asked. asked && list_any (nat_eq n) (get_or lists k d).1)
      (isnt (is_asked term (get_or lists k d).0) _ (asked-from term (get_or lists k d).0)
      (before (letters_in term) (get_or lists k d).0 (parts.0 k d (omega arith) below)))))
      in
      sym (ap (λ asked. asked || list_any asks (drop first lists)) none)
      ∙ sym (list_any-append asks (take first lists) (drop first lists))
      ∙ ap (list_any asks) (take-append-drop first lists)

  -- the same of what stands from the first on as a slice has it
  pub slice-from : Parts →
      All (λ list. is_le (slice_cmp nat_cmp (letters_in term) list.0) ≡ true)
      (take (length lists - first) (drop first lists))
  slice-from parts = rw (take_rest lists first) (rest-from parts)

  pub slice-asked : Parts → first ≤ length lists → (n : ℕ) →
      is_listed (take (length lists - first) (drop first lists)) n term ≡ is_listed lists n term
  slice-asked parts within n = rw (take_rest lists first) (rest-asked within parts n)

-- lists that are only moved list the same
pub same-listed : (n : ℕ) (term : Term) (old new : Lists) → IsPermutation old new →
    is_listed new n term ≡ is_listed old n term
same-listed n term old new moved =
    sym (list_any-IsPermutation (λ list. is_asked term list.0 && list_any (nat_eq n) list.1)
    old new moved)

-- words in their order, one by one
abbrev Rising : Lists → Type 0
Rising [] = ⊤
Rising (list ∷ lists) =
    AllByRecursion (λ later. is_lt (slice_cmp nat_cmp later.0 list.0) ≡ false) lists × Rising lists

rising : (lists : Lists) → AreInOrder lists → Rising lists
rising [] order = tt
rising (list ∷ lists) order = (
  recursion_from_All (λ later. is_lt (slice_cmp nat_cmp later.0 list.0) ≡ false) lists
      (λ k d high. sorted_far (λ (list other : List ℕ × List ℕ).
      is_lt (slice_cmp nat_cmp list.0 other.0)) by_word (list ∷ lists) order 0 (suc k) d
      (omega arith) (omega (arith, high))),
  rising lists (λ k d low high. subst (λ (next : ℕ). is_lt (slice_cmp nat_cmp
      (get_or (list ∷ lists) next d).0 (get_or lists k d).0) ≡ false)
      (let e : suc k + 1 ≡ suc (k + 1) = omega arith in e)
      (order (suc k) d (omega arith) (omega (arith, high)))),
)

-- words in their order, none of them before the letters of the term
abbrev pub StandFrom : Term → Lists → Type 0
StandFrom term lists =
    Rising lists
    × AllByRecursion (λ list. is_le (slice_cmp nat_cmp (letters_in term) list.0) ≡ true) lists

pub stand-first : (term : Term) (lists : Lists) → AreInOrder lists →
    All (λ list. is_le (slice_cmp nat_cmp (letters_in term) list.0) ≡ true) lists →
    StandFrom term lists
stand-first term lists order from =
    (rising lists order, recursion_from_All _ lists from)

-- behind a word that isn't asked for there is none that is
listed-beyond : (n : ℕ) (term : Term) (word : List ℕ) (lists : Lists) →
    is_le (slice_cmp nat_cmp (letters_in term) word) ≡ true → is_asked term word ≡ false →
    AllByRecursion (λ later. is_lt (slice_cmp nat_cmp later.0 word) ≡ false) lists →
    is_listed lists n term ≡ false
listed-beyond n term word [] from other behind = refl
listed-beyond n term word (list ∷ lists) from other behind =
    ap (λ asked. (asked && list_any (nat_eq n) list.1) || is_listed lists n term)
    (isnt (is_asked term list.0) (is_asked term word)
    (asked-remains term word list.0 from behind.0) other)
    ∙ listed-beyond n term word lists from other behind.1

pub listed-none : (n : ℕ) (term : Term) (list : List ℕ × List ℕ) (lists : Lists) →
    StandFrom term (list ∷ lists) → is_asked term list.0 ≡ false →
    is_listed (list ∷ lists) n term ≡ false
listed-none n term list lists stand other =
    ap (λ asked. (asked && list_any (nat_eq n) list.1) || is_listed lists n term) other
    ∙ listed-beyond n term list.0 lists stand.1.0 other stand.0.0

pub stand-next : (term : Term) (list : List ℕ × List ℕ) (lists : Lists) →
    StandFrom term (list ∷ lists) → StandFrom term lists
stand-next term list lists stand = (stand.0.1, stand.1.1)

-- ---- the search among the words, step by step

-- what is known while the marks of the words that are left are still to be set
abbrev pub IsMarking : Term → ℕ → Lists → Lists → List Bool → Type 0
IsMarking term count all left marks =
    (length marks ≡ count) × StandFrom term left
    × ((n : ℕ) → n < count → (is_listed left n term || is_marked marks n) ≡ is_listed all n term)

pub marking-first : (term : Term) (count : ℕ) (all left : Lists) (marks : List Bool) →
    AreMarked (λ n. false) count marks →
    StandFrom term left × ((n : ℕ) → is_listed left n term ≡ is_listed all n term) →
    IsMarking term count all left marks
marking-first term count all left marks none begun = (
  none.len,
  begun.0,
  λ n below. ap (λ mark. is_listed left n term || mark) (none.set n below)
      ∙ or-false (is_listed left n term) ∙ begun.1 n,
)

between : (a b c : Bool) → (a || (b || c)) ≡ ((b || a) || c)
between true true c = refl
between true false c = refl
between false true c = refl
between false false c = refl

pub marking-next : (term : Term) (count : ℕ) (all left rest : Lists) (list : List ℕ × List ℕ)
    (old new : List Bool) → left ≡ list ∷ rest → is_asked term list.0 ≡ true →
    IsMarking term count all left old → length new ≡ length old →
    ((n : ℕ) → n < length old →
    is_marked new n ≡ (list_any (nat_eq n) list.1 || is_marked old n)) →
    IsMarking term count all rest new
marking-next term count all left rest list old new step asked was len set = (
  len ∙ was.0,
  stand-next term list rest (subst (StandFrom term) step was.1),
  λ n below. ap (λ mark. is_listed rest n term || mark)
      (set n (subst (λ (m : ℕ). n < m) (sym was.0) below))
      ∙ between (is_listed rest n term) (list_any (nat_eq n) list.1) (is_marked old n)
      ∙ ap (λ asked. ((asked && list_any (nat_eq n) list.1) || is_listed rest n term)
      || is_marked old n) (sym asked)
      ∙ ap (λ left. is_listed left n term || is_marked old n) (sym step) ∙ was.2 n below,
)

-- where no word is left that is asked for, all marks are set
marked-all : (term : Term) (count : ℕ) (all left : Lists) (marks : List Bool) →
    IsMarking term count all left marks → ((n : ℕ) → is_listed left n term ≡ false) →
    AreMarked (λ n. is_listed all n term) count marks
marked-all term count all left marks was none = record {
  len = was.0;
  set = λ n below. sym (ap (λ listed. listed || is_marked marks n) (none n)) ∙ was.2 n below;
}

-- the next of the lists that are left
pub left-next : (lists : Lists) (i : ℕ) (list : List ℕ × List ℕ) → i < length lists →
    list ≡ get_or lists i list → drop i lists ≡ list ∷ drop (i + 1) lists
left-next lists i list below is =
    drop-cons lists i list below
    ∙ ap (λ first. first ∷ drop (suc i) lists) (sym is)
    ∙ ap (λ (next : ℕ). list ∷ drop next lists) (let e : suc i ≡ i + 1 = omega arith in e)

pub marking-end : (term : Term) (count : ℕ) (all left : Lists) (marks : List Bool) →
    IsMarking term count all left marks → left ≡ [] →
    AreMarked (λ n. is_listed all n term) count marks
marking-end term count all left marks was none =
    marked-all term count all left marks was (λ n. ap (λ left. is_listed left n term) none)

pub marking-stop : (term : Term) (count : ℕ) (all left rest : Lists) (list : List ℕ × List ℕ)
    (marks : List Bool) → IsMarking term count all left marks → left ≡ list ∷ rest →
    is_asked term list.0 ≡ false → AreMarked (λ n. is_listed all n term) count marks
marking-stop term count all left rest list marks was step other =
    marked-all term count all left marks was
    (λ n. ap (λ left. is_listed left n term) step
    ∙ listed-none n term list rest (subst (StandFrom term) step was.1) other)
