-- What a listing needs of the links: which items they are, and by what each is linked.
use Rattle.std.proofs.Common.{◌≡◌, ℕ, ◌<◌, Bool, true, false, cond, List, [], ◌∷◌, refl, ap, sym, ◌∙◌, arith, eq-eqb, inl, inr}
use Rattle.std.specs.Prelude.{filter, if◌then◌else◌, None, Option, ◌&&◌, ◌==◌, ◌||◌}
use Rattle.std.specs.List.{range_with_len}
use Rattle.std.specs.Option.{option_map, option_map_or}
use Rattle.std.proofs.lemmas.Bool.{cases_lt, or_right}
use Rattle.hac_model.specs.Tree.Depends.{IsAcyclic}
use Rattle.hac_model.specs.Tree.Links.{DirLinks, column, has, is_item, is_lent, is_semantic, items, links, no_links, passes, round, transient_at}
use Rattle.hac_model.specs.Tree.{entry_at, is_linkable}
use Rattle.hac_model.specs.Tree.Valid.{IsLayout}
use Rattle.hac_model.specs.declared.states.Entry.{Entry}
use Rattle.hac_model.specs.declared.states.State.{State}
use Rattle.hac_model.proofs.LinkLemmas.{links-fixed}
use Rattle.hac_model.proofs.MarkLemmas.{has-filter}
use Rattle.hac_model.proofs.TreeLemmas.{entry_at-next}
use Rattle.hac_model.proofs.RangeLemmas.{range-has}
use Rattle.hac_model.proofs.BoolLemmas.{and-true}

-- conditions that agree on the members keep the same
pub filter-agree : (p q : ℕ → Bool) (xs : List ℕ) → ((x : ℕ) → has xs x ≡ true → p x ≡ q x) → filter p xs ≡ filter q xs
filter-agree p q [] same = refl
filter-agree p q (y ∷ xs) same =
    let here : p y ≡ q y = same y (ap (λ (b : Bool). b || has xs y) (eq-eqb y y refl)) in
    let rest : filter p xs ≡ filter q xs = filter-agree p q xs (λ x inside. same x (or_right (y == x) (has xs x) inside)) in
    ap (λ (b : Bool). cond b (y ∷ filter p xs) (filter p xs)) here ∙ ap (λ (zs : List ℕ). cond (q y) (y ∷ zs) zs) rest

filter-kept : (q : ℕ → Bool) (xs : List ℕ) → filter (λ x. has (filter q xs) x) xs ≡ filter q xs
filter-kept q xs = filter-agree (λ x. has (filter q xs) x) q xs (λ x inside. has-filter q xs x ∙ ap (λ (b : Bool). q x && b) inside ∙ and-true (q x))

filter-none : (xs : List ℕ) → filter (λ x. false) xs ≡ []
filter-none [] = refl
filter-none (x ∷ xs) = filter-none xs

-- what a round keeps of the items, and what is in it
module _ (s : State) (dir : ℕ) (q : ℕ → Bool) where
  abbrev kept : List ℕ
  kept = if is_semantic s dir then filter q (items s) else []

  kept-listed : filter (λ item. has kept item) (items s) ≡ kept
  kept-listed = elim (is_semantic s dir) as (λ b. filter (λ item. has (cond b (filter q (items s)) []) item) (items s) ≡ cond b (filter q (items s)) []) [
    | true ↦ filter-kept q (items s)
    | false ↦ filter-none (items s)
  ]

  kept-item : (item : ℕ) → has (items s) item ≡ true → has kept item ≡ (is_semantic s dir && q item)
  kept-item item inside = elim (is_semantic s dir) as (λ b. has (cond b (filter q (items s)) []) item ≡ (b && q item)) [
    | true ↦ has-filter q (items s) item ∙ ap (λ (b : Bool). q item && b) inside ∙ and-true (q item)
    | false ↦ refl
  ]

-- the links of a directory are those that one more round finds
module _ (s : State) (dir : ℕ) (acyclic : IsAcyclic s) where
  finds : ℕ → Bool
  finds item = passes s (column (links s) item) dir item

  lends : ℕ → Bool
  lends item = is_lent s (column (links s) item) dir item

  fixed : (part : DirLinks → List ℕ) → part (round s (links s) dir) ≡ part (links s dir)
  fixed part = ap (λ (known : ℕ → DirLinks). part (known dir)) (links-fixed s acyclic)

  found-is : transient_at s dir ≡ kept s dir finds
  unfolding finds
  found-is = sym (fixed (λ known. known.found)) ∙ (elim (is_semantic s dir) as (λ b. (cond b (record { found = filter finds (items s); lent = filter (λ item. is_lent s (column (links s) item) dir item) (items s) }) no_links).found ≡ cond b (filter finds (items s)) []) [ true ↦ refl | false ↦ refl ])

  lent-is : (links s dir).lent ≡ kept s dir lends
  unfolding lends
  lent-is = sym (fixed (λ known. known.lent)) ∙ (elim (is_semantic s dir) as (λ b. (cond b (record { found = filter (λ item. passes s (column (links s) item) dir item) (items s); lent = filter lends (items s) }) no_links).lent ≡ cond b (filter lends (items s)) []) [ true ↦ refl | false ↦ refl ])

  -- they are items, in order
  pub found-listed : transient_at s dir ≡ filter (λ item. has (transient_at s dir) item) (items s)
  found-listed = found-is ∙ sym (kept-listed s dir finds) ∙ ap (λ (found : List ℕ). filter (λ item. has found item) (items s)) (sym found-is)

  pub lent-listed : (links s dir).lent ≡ filter (λ item. has (links s dir).lent item) (items s)
  lent-listed = lent-is ∙ sym (kept-listed s dir lends) ∙ ap (λ (lent : List ℕ). filter (λ item. has lent item) (items s)) (sym lent-is)

  -- an item is found by a semantic directory just where it passes there
  pub found-item : (item : ℕ) → has (items s) item ≡ true → has (transient_at s dir) item ≡ (is_semantic s dir && passes s (column (links s) item) dir item)
  unfolding finds
  found-item item inside = ap (λ (found : List ℕ). has found item) found-is ∙ kept-item s dir finds item inside

  -- and lent to it just where a directory that was added to it provides it
  pub lent-item : (item : ℕ) → has (items s) item ≡ true → has (links s dir).lent item ≡ (is_semantic s dir && is_lent s (column (links s) item) dir item)
  unfolding lends
  lent-item item inside = ap (λ (lent : List ℕ). has lent item) lent-is ∙ kept-item s dir lends item inside

-- an item is among them
pub item-listed : (s : State) (item : ℕ) → IsLayout s → is_item s item ≡ true → has (items s) item ≡ true
item-listed s item h linked =
    let below = number-below s item h linked in
    has-filter (is_item s) (range_with_len 0 s.next) item ∙ ap (λ (b : Bool). b && has (range_with_len 0 s.next) item) linked ∙ range-has 0 s.next item (omega arith) (omega (arith, below))
  where
    number-below : (s : State) (n : ℕ) → IsLayout s → is_item s n ≡ true → n < s.next
    number-below s n h linked = elim (cases_lt n s.next) [
      | inl less ↦ less
      | inr high ↦ (let none : false ≡ true = ap (λ (o : Option Entry). option_map_or is_linkable (option_map (λ (e : Entry). e.body) o) false) (sym (entry_at-next 0 s.entries s.next n h.numbers high)) ∙ linked in absurd cc)
    ]

-- a number of no entry is that of no item
pub none-item : (s : State) (number : ℕ) → entry_at s.entries number ≡ None → is_item s number ≡ false
none-item s number none = ap (λ (o : Option Entry). option_map_or is_linkable (option_map (λ (e : Entry). e.body) o) false) none
