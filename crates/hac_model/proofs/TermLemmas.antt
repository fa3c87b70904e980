-- Terms in order, and what was told of them.
use Rattle.std.proofs.Common.{◌≡◌, ℕ, ◌≤◌, Bool, true, false, List, [], ◌∷◌, length, refl, ap, sym, ◌∙◌, arith, inl, inr, Ordering, Less, Equal, Greater}
use Rattle.std.specs.Prelude.{◌⊎◌, ◌&&◌, ◌||◌, if◌then◌else◌, nat_le, Option, Some, None, IsTrue, is_some}
use Rattle.std.specs.Option.{option_map_or}
use Rattle.std.specs.Ordering.{is_eq, is_le, is_lt, nat_cmp, ordering_reverse}
use Rattle.std.specs.Cmp.Lexicographic.{slice_cmp}
use Rattle.std.specs.List.{AllByRecursion, list_any}
use Rattle.std.proofs.lemmas.Bool.{and_from, and_parts, le-leb, leb-true, or_cases, or_left, or_right}
use Rattle.std.proofs.lemmas.Cmp.{nat_list_cmp_total}
use Rattle.std.proofs.lemmas.Map.Text.{is_eq-slice_cmp}
use Rattle.std.proofs.lemmas.Slice.Eq.{bytes_eq-Decides}
use Rattle.hac_model.specs.Query.Formula.{Formula}
use Rattle.hac_model.specs.Query.Formula as query
use Rattle.hac_model.specs.Query.Queries.{are_terms, is_askable, is_query, is_term, letter_count, not_count, term_count, term_size, terms_of}
use Rattle.hac_model.specs.Query.Terms.{is_same_term, is_term_before}
use Rattle.hac_model.specs.Tree.Events.{are_directories, may_ask}
use Rattle.hac_model.specs.Tree.Depends.{named_in}
use Rattle.hac_model.specs.Tree.Mounting.{answers_to}
use Rattle.hac_model.specs.Tree.Mounts.{terms_in_order, is_kept, kept_for, put_term, terms_in, terms_in_use, terms_to_ask}
use Rattle.hac_model.specs.Tree.Valid.{AsksWell, TermsRise}
use Rattle.hac_model.specs.declared.limits.TheConstants.{NESTING_LIMIT, QUERY_LIMIT, TERMS_LIMIT}
use Rattle.hac_model.specs.declared.states.Body.{Body}
use Rattle.hac_model.specs.declared.states.Body.TheVariants.{File, Dir, Symlink, Semantic, Mount, Document}
use Rattle.hac_model.specs.declared.states.Entry.{Entry}
use Rattle.hac_model.specs.declared.states.State.{State}
use Rattle.hac_model.specs.declared.terms.Term.{Term}
use Rattle.hac_model.specs.declared.terms.Term.TheVariants.{Word, Prefix}
use Rattle.hac_model.proofs.ChangeLemmas.{all-joined}
use Rattle.hac_model.proofs.NameOrderLemmas.{less-from}

-- The order of terms.

-- of letters that are neither way in order no two differ
letters-even : (x y : List ℕ) → is_lt (slice_cmp nat_cmp x y) ≡ false → is_lt (slice_cmp nat_cmp y x) ≡ false → x ≡ y
letters-even x y h k = (bytes_eq-Decides x y).0 (sym (is_eq-slice_cmp x y) ∙ even (slice_cmp nat_cmp x y) h (ap is_lt (sym (nat_list_cmp_total.antisymm y x)) ∙ k))
  where
    even : (o : Ordering) → is_lt o ≡ false → is_lt (ordering_reverse o) ≡ false → is_eq o ≡ true
    even Equal h k = refl
    even other h k = absurd cc

mixed-never : (x y : List ℕ) → is_le (slice_cmp nat_cmp x y) ≡ false → is_lt (slice_cmp nat_cmp y x) ≡ false → ⊥
mixed-never x y h k = never (slice_cmp nat_cmp x y) h (ap is_lt (sym (nat_list_cmp_total.antisymm y x)) ∙ k)
  where
    never : (o : Ordering) → is_le o ≡ false → is_lt (ordering_reverse o) ≡ false → ⊥
    never Less h k = absurd cc
    never other h k = absurd cc

pub terms-even : (a b : Term) → is_term_before a b ≡ false → is_term_before b a ≡ false → a ≡ b
terms-even (Word x) (Word y) h k = ap (λ (z : List ℕ). Word z) (letters-even x y h k)
terms-even (Word x) (Prefix y) h k = absurd (mixed-never x y h k)
terms-even (Prefix x) (Word y) h k = absurd (mixed-never y x k h)
terms-even (Prefix x) (Prefix y) h k = ap (λ (z : List ℕ). Prefix z) (letters-even x y h k)

pub same-own : (term : Term) → is_same_term term term ≡ true
same-own (Word x) = (bytes_eq-Decides x x).1 refl
same-own (Prefix x) = (bytes_eq-Decides x x).1 refl

pub same-even : (a b : Term) → is_same_term a b ≡ true → a ≡ b
same-even (Word x) (Word y) h = ap (λ (z : List ℕ). Word z) ((bytes_eq-Decides x y).0 h)
same-even (Prefix x) (Prefix y) h = ap (λ (z : List ℕ). Prefix z) ((bytes_eq-Decides x y).0 h)
same-even (Word x) (Prefix y) h = absurd cc
same-even (Prefix x) (Word y) h = absurd cc

-- no term comes before itself
letters-irreflexive : (x : List ℕ) → is_lt (slice_cmp nat_cmp x x) ≡ false
letters-irreflexive x = even (slice_cmp nat_cmp x x) (is_eq-slice_cmp x x ∙ (bytes_eq-Decides x x).1 refl)
  where
    even : (o : Ordering) → is_eq o ≡ true → is_lt o ≡ false
    even Less h = absurd cc
    even Equal h = refl
    even Greater h = refl

pub term-irreflexive : (a : Term) → is_term_before a a ≡ false
term-irreflexive (Word x) = letters-irreflexive x
term-irreflexive (Prefix x) = letters-irreflexive x

pub letters-trans : (x y z : List ℕ) → is_lt (slice_cmp nat_cmp x y) ≡ true → is_lt (slice_cmp nat_cmp y z) ≡ true → is_lt (slice_cmp nat_cmp x z) ≡ true
letters-trans x y z h k = ap is_lt (nat_list_cmp_total.trans x y z (less-from (slice_cmp nat_cmp x y) h) (less-from (slice_cmp nat_cmp y z) k))

-- letters that don't come behind others are before them, or the same
pub letters-cases : (x y : List ℕ) → is_le (slice_cmp nat_cmp x y) ≡ true → (is_lt (slice_cmp nat_cmp x y) ≡ true) ⊎ (x ≡ y)
letters-cases x y h = cases (slice_cmp nat_cmp x y) (λ same. (bytes_eq-Decides x y).0 (sym (is_eq-slice_cmp x y) ∙ same)) h
  where
    cases : (o : Ordering) → (is_eq o ≡ true → x ≡ y) → is_le o ≡ true → (is_lt o ≡ true) ⊎ (x ≡ y)
    cases Less even h = inl refl
    cases Equal even h = inr (even refl)
    cases Greater even h = absurd cc

letters-le : (x y : List ℕ) → is_lt (slice_cmp nat_cmp x y) ≡ true → is_le (slice_cmp nat_cmp x y) ≡ true
letters-le x y h = le (slice_cmp nat_cmp x y) h
  where
    le : (o : Ordering) → is_lt o ≡ true → is_le o ≡ true
    le Less h = refl
    le other h = absurd cc

pub le-then : (x y z : List ℕ) → is_le (slice_cmp nat_cmp x y) ≡ true → is_lt (slice_cmp nat_cmp y z) ≡ true → is_lt (slice_cmp nat_cmp x z) ≡ true
le-then x y z h k = by (letters-cases x y h)
  where
    by : (is_lt (slice_cmp nat_cmp x y) ≡ true) ⊎ (x ≡ y) → is_lt (slice_cmp nat_cmp x z) ≡ true
    by (inl less) = letters-trans x y z less k
    by (inr even) = ap (λ (w : List ℕ). is_lt (slice_cmp nat_cmp w z)) even ∙ k

pub then-le : (x y z : List ℕ) → is_lt (slice_cmp nat_cmp x y) ≡ true → is_le (slice_cmp nat_cmp y z) ≡ true → is_lt (slice_cmp nat_cmp x z) ≡ true
then-le x y z h k = by (letters-cases y z k)
  where
    by : (is_lt (slice_cmp nat_cmp y z) ≡ true) ⊎ (y ≡ z) → is_lt (slice_cmp nat_cmp x z) ≡ true
    by (inl less) = letters-trans x y z h less
    by (inr even) = ap (λ (w : List ℕ). is_lt (slice_cmp nat_cmp x w)) (sym even) ∙ h

pub term-trans : (a b c : Term) → is_term_before a b ≡ true → is_term_before b c ≡ true → is_term_before a c ≡ true
term-trans (Word x) (Word y) (Word z) h k = letters-trans x y z h k
term-trans (Word x) (Word y) (Prefix z) h k = letters-le x z (then-le x y z h k)
term-trans (Word x) (Prefix y) (Word z) h k = le-then x y z h k
term-trans (Word x) (Prefix y) (Prefix z) h k = letters-le x z (le-then x y z h k)
term-trans (Prefix x) (Word y) (Word z) h k = letters-trans x y z h k
term-trans (Prefix x) (Word y) (Prefix z) h k = then-le x y z h k
term-trans (Prefix x) (Prefix y) (Word z) h k = letters-trans x y z h k
term-trans (Prefix x) (Prefix y) (Prefix z) h k = letters-trans x y z h k

-- terms that rise, each coming after this one if there is one
abbrev pub TermsChain : Option Term → List Term → Type 0
TermsChain last [] = Unit {0}
TermsChain last (term ∷ terms) = IsTrue (option_map_or (λ before. is_term_before before term) last true) × TermsChain (Some term) terms

put-chain : (last : Option Term) (a : Term) (ts : List Term) → option_map_or (λ before. is_term_before before a) last true ≡ true → TermsChain last ts → TermsChain last (put_term a ts)
put-chain last a [] after h = (after, tt)
put-chain last a (first ∷ ts) after h =
    elim (is_term_before a first) as (λ b. is_term_before a first ≡ b → TermsChain last (if b then a ∷ first ∷ ts else (if is_term_before first a then first ∷ put_term a ts else first ∷ ts))) [
      | true ↦ (λ before. (after, (before, h.1)))
      | false ↦ (λ _. elim (is_term_before first a) as (λ b. is_term_before first a ≡ b → TermsChain last (if b then first ∷ put_term a ts else first ∷ ts)) [
        | true ↦ (λ behind. (h.0, put-chain (Some first) a ts behind h.1))
        | false ↦ (λ _. h)
      ] refl)
    ] refl

pub order-chain : (ts : List Term) → TermsChain None (terms_in_order ts)
order-chain [] = tt
order-chain (t ∷ ts) = put-chain None t (terms_in_order ts) refl (order-chain ts)

pub all-put : (P : Term → Type 0) (a : Term) (ts : List Term) → P a → AllByRecursion P ts → AllByRecursion P (put_term a ts)
all-put P a [] p h = (p, tt)
all-put P a (first ∷ ts) p h =
    elim (is_term_before a first) as (λ b. AllByRecursion P (if b then a ∷ first ∷ ts else (if is_term_before first a then first ∷ put_term a ts else first ∷ ts))) [
      | true ↦ (p, h)
      | false ↦ elim (is_term_before first a) as (λ b. AllByRecursion P (if b then first ∷ put_term a ts else first ∷ ts)) [
        | true ↦ (h.0, all-put P a ts p h.1)
        | false ↦ h
      ]
    ]

pub all-order : (P : Term → Type 0) (ts : List Term) → AllByRecursion P ts → AllByRecursion P (terms_in_order ts)
all-order P [] h = tt
all-order P (t ∷ ts) h = all-put P t (terms_in_order ts) h.0 (all-order P ts h.1)

-- the term is one of these
abbrev pub is_of : List Term → Term → Bool
is_of terms term = list_any (λ other. is_same_term other term) terms

-- what is put is among the terms, and so is what was among them
put-of : (a : Term) (ts : List Term) (term : Term) → (is_same_term a term || is_of ts term) ≡ true → is_of (put_term a ts) term ≡ true
put-of a [] term h = h
put-of a (first ∷ ts) term h =
    elim (is_term_before a first) as (λ b. is_term_before a first ≡ b → is_of (if b then a ∷ first ∷ ts else (if is_term_before first a then first ∷ put_term a ts else first ∷ ts)) term ≡ true) [
      | true ↦ (λ _. h)
      | false ↦ (λ apart. elim (is_term_before first a) as (λ b. is_term_before first a ≡ b → is_of (if b then first ∷ put_term a ts else first ∷ ts) term ≡ true) [
        | true ↦ (λ _. behind (λ among. put-of a ts term among) (or_cases (is_same_term a term) (is_same_term first term || is_of ts term) h))
        | false ↦ (λ also. same (terms-even a first apart also) (or_cases (is_same_term a term) (is_same_term first term || is_of ts term) h))
      ] refl)
    ] refl
  where
    behind : ((is_same_term a term || is_of ts term) ≡ true → is_of (put_term a ts) term ≡ true) → (is_same_term a term ≡ true) ⊎ ((is_same_term first term || is_of ts term) ≡ true) → (is_same_term first term || is_of (put_term a ts) term) ≡ true
    behind put (inl own) = or_right (is_same_term first term) (is_of (put_term a ts) term) (put (or_left (is_same_term a term) (is_of ts term) own))
    behind put (inr other) = old (or_cases (is_same_term first term) (is_of ts term) other)
      where
        old : (is_same_term first term ≡ true) ⊎ (is_of ts term ≡ true) → (is_same_term first term || is_of (put_term a ts) term) ≡ true
        old (inl here) = or_left (is_same_term first term) (is_of (put_term a ts) term) here
        old (inr there) = or_right (is_same_term first term) (is_of (put_term a ts) term) (put (or_right (is_same_term a term) (is_of ts term) there))

    same : a ≡ first → (is_same_term a term ≡ true) ⊎ ((is_same_term first term || is_of ts term) ≡ true) → (is_same_term first term || is_of ts term) ≡ true
    same even (inl own) = or_left (is_same_term first term) (is_of ts term) (ap (λ (t : Term). is_same_term t term) (sym even) ∙ own)
    same even (inr other) = other

pub order-of : (ts : List Term) → AllByRecursion (λ t. is_of (terms_in_order ts) t ≡ true) ts
order-of [] = tt
order-of (t ∷ ts) = (
  put-of t (terms_in_order ts) t (or_left (is_same_term t t) (is_of (terms_in_order ts) t) (same-own t)),
  all-weaker-of ts (order-of ts),
)
  where
    all-weaker-of : (us : List Term) → AllByRecursion (λ u. is_of (terms_in_order ts) u ≡ true) us → AllByRecursion (λ u. is_of (put_term t (terms_in_order ts)) u ≡ true) us
    all-weaker-of [] h = tt
    all-weaker-of (u ∷ us) h = (put-of t (terms_in_order ts) u (or_right (is_same_term t u) (is_of (terms_in_order ts) u) h.0), all-weaker-of us h.1)

-- What was told.

pub answers-rise : (last : Option Term) (ts : List Term) (told : List (List ℕ)) → TermsChain last ts → TermsRise last (answers_to ts told)
answers-rise last [] told h = tt
answers-rise last (t ∷ ts) [] h = tt
answers-rise last (t ∷ ts) (numbers ∷ told) h = (h.0, answers-rise (Some t) ts told h.1)

pub answers-kept : (ts : List Term) (told : List (List ℕ)) (term : Term) → length told ≡ length ts → is_of ts term ≡ true → is_kept (answers_to ts told) term ≡ true
answers-kept [] told term even h = absurd cc
answers-kept (t ∷ ts) [] term even h = absurd (omega (arith, even))
answers-kept (t ∷ ts) (numbers ∷ told) term even h =
    elim (is_same_term t term) as (λ b. (b || is_of ts term) ≡ true → is_some (if b then Some numbers else kept_for (answers_to ts told) term) ≡ true) [
      | true ↦ (λ _. refl)
      | false ↦ (λ h. answers-kept ts told term (omega (arith, even)) h)
    ] h

-- of all terms in use an answer is kept, if each was told
pub asked-kept : (es : List Entry) (told : List (List ℕ)) → length told ≡ length (terms_to_ask es) → AllByRecursion (λ term. IsTrue (is_kept (answers_to (terms_to_ask es) told) term)) (terms_in_use es)
asked-kept es told even = each (terms_in_use es) (order-of (terms_in_use es))
  where
    each : (ts : List Term) → AllByRecursion (λ t. is_of (terms_to_ask es) t ≡ true) ts → AllByRecursion (λ term. IsTrue (is_kept (answers_to (terms_to_ask es) told) term)) ts
    each [] h = tt
    each (t ∷ ts) h = (answers-kept (terms_to_ask es) told t even h.0, each ts h.1)

-- The terms of queries can be asked for.

pub leaves-askable : (q : Formula ℕ) → are_terms q ≡ true → letter_count q ≤ QUERY_LIMIT → AllByRecursion (λ t. is_askable t ≡ true) (terms_of q)
leaves-askable (query.Term t) h size = (and_from (is_term t) (nat_le (term_size t) QUERY_LIMIT) h (le-leb (term_size t) QUERY_LIMIT size), tt)
leaves-askable (query.Dir d) h size = tt
leaves-askable (query.Not q) h size = leaves-askable q h size
leaves-askable (query.And p q) h size =
    let parts = and_parts (are_terms p) (are_terms q) h in
    let less : letter_count p ≤ QUERY_LIMIT = omega (arith, size) in
    let more : letter_count q ≤ QUERY_LIMIT = omega (arith, size) in
    all-joined (λ t. is_askable t ≡ true) (terms_of p) (terms_of q) (leaves-askable p parts.0 less) (leaves-askable q parts.1 more)
leaves-askable (query.Or p q) h size =
    let parts = and_parts (are_terms p) (are_terms q) h in
    let less : letter_count p ≤ QUERY_LIMIT = omega (arith, size) in
    let more : letter_count q ≤ QUERY_LIMIT = omega (arith, size) in
    all-joined (λ t. is_askable t ≡ true) (terms_of p) (terms_of q) (leaves-askable p parts.0 less) (leaves-askable q parts.1 more)

pub query-askable : (s : State) (q : Formula ℕ) → may_ask s q ≡ true → AllByRecursion (λ t. is_askable t ≡ true) (terms_of q)
query-askable s q h =
    let fits = and_parts (is_query q) (are_directories s (named_in q)) h in
    let nested = and_parts (are_terms q && nat_le (term_count q) TERMS_LIMIT && nat_le (letter_count q) QUERY_LIMIT) (nat_le (not_count q) NESTING_LIMIT) fits.0 in
    let sized = and_parts (are_terms q && nat_le (term_count q) TERMS_LIMIT) (nat_le (letter_count q) QUERY_LIMIT) nested.0 in
    let counted = and_parts (are_terms q) (nat_le (term_count q) TERMS_LIMIT) sized.0 in
    leaves-askable q counted.0 (leb-true (letter_count q) QUERY_LIMIT sized.1)

pub in_use-askable : (s : State) (es : List Entry) → AllByRecursion (λ e. AsksWell s e.body) es → AllByRecursion (λ t. is_askable t ≡ true) (terms_in_use es)
in_use-askable s [] h = tt
in_use-askable s (e ∷ es) h = all-joined (λ t. is_askable t ≡ true) (terms_in e.body) (terms_in_use es) (each e.body h.0) (in_use-askable s es h.1)
  where
    each : (body : Body) → AsksWell s body → AllByRecursion (λ t. is_askable t ≡ true) (terms_in body)
    each (Semantic q permanent prohibited) asks = query-askable s q asks.fits
    each (File text dirty shown) asks = tt
    each Dir asks = tt
    each (Symlink target) asks = tt
    each (Mount space answers) asks = tt
    each Document asks = tt
