-- The terms in use: they are taken from the queries one after the other, and put in order.
use Rattle.std.proofs.Common.{◌≡◌, ℕ, suc, ◌+◌, ◌<◌, ◌≤◌, Bool, true, false, cond, List, [], ◌∷◌, ◌++◌, add-one, append_assoc, drop, drop-cons, length, get_or, refl, ap, sym, ◌∙◌, arith, inl, inr}
use Rattle.std.specs.Prelude.{if◌then◌else◌, nat_le, Option, Some, None, option_and_then, slice_get}
use Rattle.std.specs.List.{AllByRecursion, insert, prefix_len}
use Rattle.std.specs.Option.{option_map, option_map_or}
use Rattle.std.proofs.lemmas.List.{append-nil}
use Rattle.std.proofs.lemmas.Bool.{cases_order, eq-eqb, le-leb, leb-true, ne_eqb}
use Rattle.hac_model.specs.Query.Queries.{terms_of}
use Rattle.hac_model.specs.Query.Terms.{is_term_before}
use Rattle.hac_model.specs.Tree.Links.{query_at}
use Rattle.hac_model.specs.Tree.Mounting.{answers_to}
use Rattle.hac_model.specs.Tree.Mounts.{terms_in_order, put_term, terms_in_use}
use Rattle.hac_model.specs.Tree.Valid.{NumbersRise}
use Rattle.hac_model.specs.Tree.{entry_at, query_in}
use Rattle.hac_model.specs.declared.states.Answer.{Answer}
use Rattle.hac_model.specs.declared.states.Entry.{Entry}
use Rattle.hac_model.specs.declared.states.State.{State}
use Rattle.hac_model.specs.declared.terms.Term.{Term}
use Rattle.hac_model.proofs.TermLemmas.{order-chain, term-trans, TermsChain}
use Rattle.hac_model.proofs.TreeLemmas.{entry_at-low}
use Rattle.kept_facts.specs.Answers.{AreTermsInOrder}
use Rattle.hac_model.proofs.SortedLemmas.{Falls}
use Rattle.hac_model.proofs.TermOrderLemmas.{never-both}
use Rattle.hac_model.proofs.ChangeLemmas.{all-weaker}
use Rattle.std.proofs.lemmas.Option.{slice_get-get_or, slice_get_past}

-- Terms in order.

chain-order : (last : Option Term) (ts : List Term) → TermsChain last ts → AreTermsInOrder last ts
chain-order last [] h = tt
chain-order last (t ∷ ts) h = (h.0, chain-order (Some t) ts h.1)

pub in-order : (ts : List Term) → AreTermsInOrder None (terms_in_order ts)
in-order ts = chain-order None (terms_in_order ts) (order-chain ts)

behind-all : (x : Term) (ts : List Term) → AreTermsInOrder (Some x) ts → AllByRecursion (λ t. is_term_before x t ≡ true) ts
behind-all x [] h = tt
behind-all x (t ∷ ts) h = (h.0, all-weaker (λ (u : Term). is_term_before t u ≡ true) (λ (u : Term). is_term_before x u ≡ true) ts (λ u behind. term-trans x t u h.0 behind) (behind-all t ts h.1))

-- the terms before a term come first
pub terms-falls : (term : Term) (last : Option Term) (ts : List Term) → AreTermsInOrder last ts → Falls (λ t. is_term_before t term) ts
terms-falls term last [] h = tt
terms-falls term last (t ∷ ts) h = (
  all-weaker (λ (u : Term). is_term_before t u ≡ true) (λ (u : Term). is_term_before u term ≡ true → is_term_before t term ≡ true) ts (λ u behind before. term-trans t u term behind before) (behind-all t ts h.1),
  terms-falls term (Some t) ts h.1,
)

module _ (a : Term) where
  abbrev pub rank : List Term → ℕ
  rank ts = prefix_len (λ t. is_term_before t a) ts

  -- a term is put where those before it end, if the one there isn't the same
  abbrev put_at : List Term → ℕ → Option Term → List Term
  put_at ts i None = insert ts i a
  put_at ts i (Some t) = cond (is_term_before a t) (insert ts i a) ts

  put-first : (t : Term) (ts : List Term) (i : ℕ) (o : Option Term) → t ∷ put_at ts i o ≡ put_at (t ∷ ts) (suc i) o
  put-first t ts i None = refl
  put-first t ts i (Some u) = elim (is_term_before a u) as (λ b. t ∷ cond b (insert ts i a) ts ≡ cond b (t ∷ insert ts i a) (t ∷ ts)) [ true ↦ refl | false ↦ refl ]

  put-rank : (ts : List Term) → put_term a ts ≡ put_at ts (rank ts) (slice_get ts (rank ts))
  put-rank [] = refl
  put-rank (t ∷ ts) =
      elim (is_term_before t a) as (λ b. is_term_before t a ≡ b → put_term a (t ∷ ts) ≡ put_at (t ∷ ts) (cond b (1 + rank ts) 0) (slice_get (t ∷ ts) (cond b (1 + rank ts) 0))) [
        | true ↦ (λ before.
            let more : 1 + rank ts ≡ suc (rank ts) = omega arith in
            (λ i. if never-both t a before i then a ∷ t ∷ ts else (if before i then t ∷ put_term a ts else t ∷ ts))
            ∙ ap (λ (us : List Term). t ∷ us) (put-rank ts)
            ∙ put-first t ts (rank ts) (slice_get ts (rank ts))
            ∙ ap (λ (i : ℕ). put_at (t ∷ ts) i (slice_get (t ∷ ts) i)) (sym more))
        | false ↦ (λ apart. ap (λ (b : Bool). if is_term_before a t then a ∷ t ∷ ts else (if b then t ∷ put_term a ts else t ∷ ts)) apart)
      ] refl

  module _ (ts : List Term) (i : ℕ) (is : i ≡ rank ts) where
    pub put-end : i ≡ length ts → put_term a ts ≡ insert ts i a
    put-end end =
        put-rank ts ∙ ap (λ (k : ℕ). put_at ts k (slice_get ts k)) (sym is) ∙ ap (put_at ts i) (slice_get_past ts i (omega (arith, end)))

    pub put-inside : (t : Term) → i < length ts → t ≡ get_or ts i t → put_term a ts ≡ cond (is_term_before a t) (insert ts i a) ts
    put-inside t inside there =
        put-rank ts ∙ ap (λ (k : ℕ). put_at ts k (slice_get ts k)) (sym is) ∙ ap (put_at ts i) (slice_get-get_or ts i t inside)
        ∙ ap (λ (u : Term). put_at ts i (Some u)) (sym there)

-- Some terms are still to be put, and those that are in order are the ones that were.

pub record IsOrdering (all left ordered : List Term) : Type 0 where
  pub done : List Term
  pub split : left ++ done ≡ all
  pub order : ordered ≡ terms_in_order done

pub ordering-ends : (all ordered : List Term) → IsOrdering all [] ordered → ordered ≡ terms_in_order all
ordering-ends all ordered h = h.order ∙ ap terms_in_order h.split

-- The queries are taken in order of number.

-- the entries from a number on
abbrev pub rest_from : ℕ → List Entry → List Entry
rest_from from [] = []
rest_from from (e ∷ es) = cond (nat_le from e.number) (e ∷ es) (rest_from from es)

pub rest-all : (from above next : ℕ) (es : List Entry) → NumbersRise above es next → from ≤ above + 1 → rest_from from es ≡ es
rest-all from above next [] h low = refl
rest-all from above next (e ∷ es) h low = let le = le-leb from e.number (omega (arith, h.0, low)) in rw le refl

pub rest-none : (above next : ℕ) (es : List Entry) → NumbersRise above es next → rest_from next es ≡ []
rest-none above next [] h = refl
rest-none above next (e ∷ es) h =
    elim (nat_le next e.number) as (λ b. nat_le next e.number ≡ b → cond b (e ∷ es) (rest_from next es) ≡ []) [
      | true ↦ (λ is. absurd (omega (arith, leb-true next e.number is, end e.number es h.1)))
      | false ↦ (λ is. rest-none e.number next es h.1)
    ] refl
  where
    end : (above : ℕ) (es : List Entry) → NumbersRise above es next → above < next
    end above [] h = h
    end above (e ∷ es) h = omega (arith, h.0, end e.number es h.1)

abbrev terms_there : Option Entry → List Term
terms_there o = option_map_or terms_of (option_and_then query_in (option_map (λ (e : Entry). e.body) o)) []

-- what is left to be taken begins with what the entry of the next number asks for
pub rest-next : (i above next : ℕ) (es : List Entry) → NumbersRise above es next → terms_in_use (rest_from i es) ≡ terms_there (entry_at es i) ++ terms_in_use (rest_from (i + 1) es)
rest-next i above next [] h = refl
rest-next i above next (e ∷ es) h =
    elim (cases_order i e.number) [
      | inl same ↦ (
          let le = le-leb i e.number (omega (arith, same)) in
          let here = eq-eqb e.number i (sym same) in
          let past = gt-leb (i + 1) e.number (omega (arith, same)) in
          let all = rest-all (i + 1) e.number next es h.1 (omega (arith, same)) in
          rw le (rw here (rw past (rw all refl))))
      | inr (inl less) ↦ (
          let le = le-leb i e.number (omega (arith, less)) in
          let also = le-leb (i + 1) e.number (omega (arith, less)) in
          let other = ne_eqb e.number i (λ same. omega (arith, less, same)) in
          let none = entry_at-low e.number es next i h.1 (omega (arith, less)) in
          rw le (rw other (rw none (rw also refl))))
      | inr (inr more) ↦ (
          let past = gt-leb i e.number more in
          let also = gt-leb (i + 1) e.number (omega (arith, more)) in
          let other = ne_eqb e.number i (λ same. omega (arith, more, same)) in
          rw past (rw other (rw also (rest-next i e.number next es h.1))))
    ]
  where
    gt-leb : (m n : ℕ) → n < m → nat_le m n ≡ false
    gt-leb m n less = not_le (nat_le m n) refl
      where
        not_le : (b : Bool) → nat_le m n ≡ b → nat_le m n ≡ false
        not_le false is = is
        not_le true is = absurd (omega (arith, less, leb-true m n is))

-- the terms of one query more are taken
pub taken : (s : State) (i : ℕ) (old new : List Term) → NumbersRise 0 s.entries s.next → old ++ terms_in_use (rest_from i s.entries) ≡ terms_in_use s.entries → new ≡ old ++ option_map_or terms_of (query_at s i) [] → new ++ terms_in_use (rest_from (i + 1) s.entries) ≡ terms_in_use s.entries
taken s i old new numbers so_far is =
    ap (λ (ts : List Term). ts ++ terms_in_use (rest_from (i + 1) s.entries)) is
    ∙ append_assoc old (option_map_or terms_of (query_at s i) []) (terms_in_use (rest_from (i + 1) s.entries))
    ∙ ap (λ (ts : List Term). old ++ ts) (sym (rest-next i 0 s.next s.entries numbers))
    ∙ so_far

-- what is no entry has none
pub untaken : (s : State) (i : ℕ) (old : List Term) → NumbersRise 0 s.entries s.next → entry_at s.entries i ≡ None → old ++ terms_in_use (rest_from i s.entries) ≡ terms_in_use s.entries → old ++ terms_in_use (rest_from (i + 1) s.entries) ≡ terms_in_use s.entries
untaken s i old numbers none so_far =
    taken s i old old numbers so_far
    (sym (append-nil old) ∙ ap (λ (o : Option Entry). old ++ option_map_or terms_of (option_and_then query_in (option_map (λ (e : Entry). e.body) o)) []) (sym none))

-- What was told of the terms.

pub told-next : (terms : List Term) (told : List (List ℕ)) (i : ℕ) (old new : List Answer) (term : Term) (numbers : List ℕ) → i < length terms → i < length told → term ≡ get_or terms i term → numbers ≡ get_or told i numbers →
    old ++ answers_to (drop i terms) (drop i told) ≡ answers_to terms told → new ≡ old ++ record { term = term; documents = numbers } ∷ [] → new ++ answers_to (drop (i + 1) terms) (drop (i + 1) told) ≡ answers_to terms told
told-next terms told i old new term numbers inside also is are so_far put =
    let answer : Answer = record { term = term; documents = numbers } in
    let one : answers_to (drop i terms) (drop i told) ≡ answer ∷ answers_to (drop (i + 1) terms) (drop (i + 1) told) =
    (λ k. answers_to (drop-cons terms i term inside k) (drop-cons told i numbers also k))
    ∙ ap (λ (a : Answer). a ∷ answers_to (drop (suc i) terms) (drop (suc i) told)) (sym (λ k. record { term = is k; documents = are k }))
    ∙ ap (λ (k : ℕ). answer ∷ answers_to (drop k terms) (drop k told)) (sym (add-one i)) in
    ap (λ (as_put : List Answer). as_put ++ answers_to (drop (i + 1) terms) (drop (i + 1) told)) put
    ∙ append_assoc old (answer ∷ []) (answers_to (drop (i + 1) terms) (drop (i + 1) told))
    ∙ ap (λ (rest : List Answer). old ++ rest) (sym one)
    ∙ so_far
