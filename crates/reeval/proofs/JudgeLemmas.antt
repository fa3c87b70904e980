-- The links of a state, item by item: they are its judgements by these links, and nothing else is.
use Rattle.std.proofs.Common.{◌≡◌, ℕ, Bool, true, false, List, [], ◌∷◌, refl, ap, sym, ◌∙◌, eq-eqb}
use Rattle.std.proofs.lemmas.Bool.{eqb-true}
use Rattle.std.specs.Prelude.{◌&&◌, ◌||◌, ◌==◌, if◌then◌else◌, filter}
use Rattle.std.specs.List.{range_with_len}
use Rattle.hac_model.specs.Tree.Links.{DirLinks, column, has, is_item, is_lent, is_semantic, items, links, no_links, passes, round}
use Rattle.hac_model.specs.Tree.Valid.{IsLayout, IsValid}
use Rattle.hac_model.specs.declared.states.State.{State}
use Rattle.hac_model.proofs.LinkLemmas.{links-fixed, links-only}
use Rattle.hac_model.proofs.ListedLemmas.{filter-agree, item-listed}
use Rattle.hac_model.proofs.MarkLemmas.{has-filter}
use Rattle.reeval.specs.Judging.{is_linked, judgement, verdict_of}
use Rattle.reeval.specs.declared.verdicts.Verdict.{Verdict}
use Rattle.hac_model.proofs.ChangeLemmas.{and-true}

filter-none : (xs : List ℕ) → filter (λ x. false) xs ≡ []
filter-none [] = refl
filter-none (x ∷ xs) = filter-none xs

-- items are what is listed
pub listed : (s : State) → IsLayout s → (item : ℕ) → has (items s) item ≡ is_item s item
listed s h item = elim (is_item s item) as (λ b. is_item s item ≡ b → has (items s) item ≡ b) [
  | true ↦ (λ is. item-listed s item h is)
  | false ↦ (λ none. has-filter (is_item s) (range_with_len 0 s.next) item ∙ ap (λ (b : Bool). b && has (range_with_len 0 s.next) item) none)
] refl

-- what a round keeps of the items by a test
abbrev kept : State → ℕ → (ℕ → Bool) → List ℕ
kept s dir test = if is_semantic s dir then filter test (items s) else []

in-kept : (s : State) → IsLayout s → (dir : ℕ) (test : ℕ → Bool) (item : ℕ) → has (kept s dir test) item ≡ ((is_semantic s dir && is_item s item) && test item)
in-kept s h dir test item = elim (is_semantic s dir) as (λ b. has (if b then filter test (items s) else []) item ≡ ((b && is_item s item) && test item)) [
  | true ↦ has-filter test (items s) item ∙ ap (λ (b : Bool). test item && b) (listed s h item) ∙ swapped (test item) (is_item s item)
  | false ↦ refl
]
  where
    swapped : (a b : Bool) → (a && b) ≡ (b && a)
    swapped true true = refl
    swapped true false = refl
    swapped false true = refl
    swapped false false = refl

-- the two lists of a round
found-kept : (s : State) (known : ℕ → DirLinks) (dir : ℕ) → (round s known dir).found ≡ kept s dir (λ item. passes s (column known item) dir item)
found-kept s known dir = elim (is_semantic s dir) as (λ b. (if b then record { found = filter (λ item. passes s (column known item) dir item) (items s); lent = filter (λ item. is_lent s (column known item) dir item) (items s) } else no_links).found ≡ (if b then filter (λ item. passes s (column known item) dir item) (items s) else [])) [ true ↦ refl | false ↦ refl ]

lent-kept : (s : State) (known : ℕ → DirLinks) (dir : ℕ) → (round s known dir).lent ≡ kept s dir (λ item. is_lent s (column known item) dir item)
lent-kept s known dir = elim (is_semantic s dir) as (λ b. (if b then record { found = filter (λ item. passes s (column known item) dir item) (items s); lent = filter (λ item. is_lent s (column known item) dir item) (items s) } else no_links).lent ≡ (if b then filter (λ item. is_lent s (column known item) dir item) (items s) else [])) [ true ↦ refl | false ↦ refl ]

pub links-judged : (s : State) → IsValid s → (item dir : ℕ) → verdict_of s item dir ≡ judgement s (is_linked (verdict_of s item)) item dir
links-judged s valid item dir = λ i. record { found = found i; lent = lent i }
  where
    found : has (links s dir).found item ≡ ((is_semantic s dir && is_item s item) && passes s (column (links s) item) dir item)
    found = ap (λ (known : ℕ → DirLinks). has (known dir).found item) (sym (links-fixed s valid.acyclic)) ∙ ap (λ (numbers : List ℕ). has numbers item) (found-kept s (links s) dir) ∙ in-kept s valid.layout dir (λ x. passes s (column (links s) x) dir x) item

    lent : has (links s dir).lent item ≡ ((is_semantic s dir && is_item s item) && is_lent s (column (links s) item) dir item)
    lent = ap (λ (known : ℕ → DirLinks). has (known dir).lent item) (sym (links-fixed s valid.acyclic)) ∙ ap (λ (numbers : List ℕ). has numbers item) (lent-kept s (links s) dir) ∙ in-kept s valid.layout dir (λ x. is_lent s (column (links s) x) dir x) item

-- Verdicts on one item that are their own judgement, beside the links of all others.
module _ (s : State) (valid : IsValid s) (item : ℕ) (verdicts : ℕ → Verdict) (own : (dir : ℕ) → verdicts dir ≡ judgement s (is_linked verdicts) item dir) where
  abbrev mixed : ℕ → ℕ → Verdict
  mixed x = if x == item then verdicts else verdict_of s x

  abbrev known : ℕ → DirLinks
  known dir = record { found = filter (λ x. (mixed x dir).found) (items s); lent = filter (λ x. (mixed x dir).lent) (items s) }

  mixed-judged : (x dir : ℕ) → mixed x dir ≡ judgement s (is_linked (mixed x)) x dir
  mixed-judged x dir = elim (x == item) as (λ b. (x == item) ≡ b → (if b then verdicts else verdict_of s x) dir ≡ judgement s (is_linked (if b then verdicts else verdict_of s x)) x dir) [
    | true ↦ (λ same. own dir ∙ ap (λ (y : ℕ). judgement s (is_linked verdicts) y dir) (sym (eqb-true x item same)))
    | false ↦ (λ other. links-judged s valid x dir)
  ] refl

  in-known : (x dir : ℕ) → has (items s) x ≡ true → column known x dir ≡ is_linked (mixed x) dir
  in-known x dir inside = λ i. part (λ y. (mixed y dir).found) i || part (λ y. (mixed y dir).lent) i
    where
      part : (test : ℕ → Bool) → has (filter test (items s)) x ≡ test x
      part test = has-filter test (items s) x ∙ ap (λ (b : Bool). test x && b) inside ∙ and-true (test x)

  -- one part of the links stays in a round
  stays : (dir : ℕ) (test : (ℕ → Bool) → ℕ → Bool) (part : Verdict → Bool) →
      ((x : ℕ) → part (mixed x dir) ≡ ((is_semantic s dir && is_item s x) && test (is_linked (mixed x)) x)) →
      kept s dir (λ x. test (column known x) x) ≡ filter (λ x. part (mixed x dir)) (items s)
  stays dir test part is = elim (is_semantic s dir) as (λ b. ((x : ℕ) → part (mixed x dir) ≡ ((b && is_item s x) && test (is_linked (mixed x)) x)) → (if b then filter (λ x. test (column known x) x) (items s) else []) ≡ filter (λ x. part (mixed x dir)) (items s)) [
    | true ↦ (λ is. filter-agree (λ x. test (column known x) x) (λ x. part (mixed x dir)) (items s) (λ x inside.
        ap (λ (linked : ℕ → Bool). test linked x) (λ i e. in-known x e inside i)
        ∙ sym (is x ∙ ap (λ (b : Bool). b && test (is_linked (mixed x)) x) (sym (listed s valid.layout x) ∙ inside))))
    | false ↦ (λ is. sym (filter-agree (λ x. part (mixed x dir)) (λ x. false) (items s) (λ x inside. is x) ∙ filter-none (items s)))
  ] is

  round-known : round s known ≡ known
  round-known = λ i dir. both dir i
    where
      both : (dir : ℕ) → round s known dir ≡ known dir
      both dir = λ i. record {
        found = (found-kept s known dir ∙ stays dir (λ linked x. passes s linked dir x) (λ v. v.found) (λ x. ap (λ (v : Verdict). v.found) (mixed-judged x dir))) i;
        lent = (lent-kept s known dir ∙ stays dir (λ linked x. is_lent s linked dir x) (λ v. v.lent) (λ x. ap (λ (v : Verdict). v.lent) (mixed-judged x dir))) i;
      }

  mine : (dir : ℕ) → mixed item dir ≡ verdicts dir
  mine dir = ap (λ (b : Bool). (if b then verdicts else verdict_of s item) dir) (eq-eqb item item refl)

  -- what is known of the item itself
  at : (dir : ℕ) (part : Verdict → Bool) (rest : Bool) → part (verdicts dir) ≡ ((is_semantic s dir && is_item s item) && rest) → has (filter (λ x. part (mixed x dir)) (items s)) item ≡ part (verdicts dir)
  at dir part rest is =
      has-filter (λ x. part (mixed x dir)) (items s) item
      ∙ (λ i. (ap part (mine dir) ∙ is) i && listed s valid.layout item i)
      ∙ narrow (is_semantic s dir) (is_item s item) rest ∙ sym is
    where
      narrow : (a b c : Bool) → (((a && b) && c) && b) ≡ ((a && b) && c)
      narrow true true true = refl
      narrow true true false = refl
      narrow true false c = refl
      narrow false b c = refl

  pub verdicts-only : (dir : ℕ) → verdicts dir ≡ verdict_of s item dir
  verdicts-only dir = λ i. record { found = found i; lent = lent i }
    where
      all : known ≡ links s
      all = links-only s valid.acyclic known round-known

      found : (verdicts dir).found ≡ has (links s dir).found item
      found = sym (at dir (λ v. v.found) (passes s (is_linked verdicts) dir item) (ap (λ (v : Verdict). v.found) (own dir))) ∙ ap (λ (k : ℕ → DirLinks). has (k dir).found item) all

      lent : (verdicts dir).lent ≡ has (links s dir).lent item
      lent = sym (at dir (λ v. v.lent) (is_lent s (is_linked verdicts) dir item) (ap (λ (v : Verdict). v.lent) (own dir))) ∙ ap (λ (k : ℕ → DirLinks). has (k dir).lent item) all
