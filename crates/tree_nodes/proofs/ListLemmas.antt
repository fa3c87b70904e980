-- Lists of numbers that are in order of their names: who is in them, and what they are with one more or one less.
use Rattle.std.proofs.Common.{◌≡◌, ℕ, zero, suc, ◌+◌, ◌<◌, Bool, true, false, cond, List, [], ◌∷◌, length, subst, refl, ap, sym, ◌∙◌, arith, inl, inr, eq-eqb}
use Rattle.std.specs.Prelude.{◌⊎◌, ◌==◌, not, insert, remove, filter, IsTrue, take, drop}
use Rattle.std.specs.List.{AllByRecursion}
use Rattle.std.specs.Str.{bytes_eq}
use Rattle.std.proofs.lemmas.Bool.{eqb-true, ne_eqb}
use Rattle.std.specs.Cmp.Lexicographic.{nat_list_eq_equiv}
use Rattle.hac_model.specs.Tree.Depends.{Among}
use Rattle.hac_model.specs.Tree.Listing.{is_before}
use Rattle.hac_model.proofs.AmongLemmas.{among-append, among-left, among-right}
use Rattle.hac_model.proofs.ChangeLemmas.{all-filter, all-weaker}
use Rattle.tree_nodes.specs.Search.{NamesRise, rank_in}
use Rattle.hac_model.proofs.NameOrderLemmas.{before-differs, before-other, before-trans}

-- what each of them keeps, all keep
all-among : (P : ℕ → Type 0) (ns : List ℕ) → ((n : ℕ) → Among ns n → P n) → AllByRecursion P ns
all-among P [] each = tt
all-among P (n ∷ ns) each = (each n (inl refl), all-among P ns (λ m among. each m (inr among)))

pub among-all : (P : ℕ → Type 0) (ns : List ℕ) (n : ℕ) → AllByRecursion P ns → Among ns n → P n
among-all P [] n all among = absurd among
among-all P (m ∷ ns) n all (inl same) = subst P same all.0
among-all P (m ∷ ns) n all (inr rest) = among-all P ns n all.1 rest

-- a list in which nothing is
pub none-among : (ns : List ℕ) → ((n : ℕ) → Among ns n → ⊥) → ns ≡ []
none-among [] none = refl
none-among (n ∷ ns) none = absurd (none n (inl refl))

-- equal names are in the same order
pub rises-same : (names other : ℕ → List ℕ) (ns : List ℕ) → ((n : ℕ) → Among ns n → other n ≡ names n) → NamesRise names ns → NamesRise other ns
rises-same names other [] same rises = tt
rises-same names other (n ∷ ns) same rises = (
  all-among (λ m. IsTrue (is_before (other n) (other m))) ns (λ m among.
      let here : other n ≡ names n = same n (inl refl) in
      let there : other m ≡ names m = same m (inr among) in
      ap (λ (x : List ℕ). is_before x (other m)) here ∙ ap (λ (y : List ℕ). is_before (names n) y) there ∙ among-all (λ m. IsTrue (is_before (names n) (names m))) ns m rises.0 among),
  rises-same names other ns (λ m among. same m (inr among)) rises.1,
)

pub rank-same : (names other : ℕ → List ℕ) (name : List ℕ) (ns : List ℕ) → ((n : ℕ) → Among ns n → other n ≡ names n) → rank_in other name ns ≡ rank_in names name ns
rank-same names other name [] same = refl
rank-same names other name (n ∷ ns) same =
    ap (λ (x : List ℕ). cond (is_before x name) (1 + rank_in other name ns) 0) (same n (inl refl))
    ∙ ap (λ (k : ℕ). cond (is_before (names n) name) (1 + k) 0) (rank-same names other name ns (λ m among. same m (inr among)))

-- A number is put into its place.

insert-more : (m : ℕ) (ns : List ℕ) (i n : ℕ) → insert (m ∷ ns) (1 + i) n ≡ m ∷ insert ns i n
insert-more m ns i n = let more : 1 + i ≡ suc i = omega arith in rw more refl

among-take : (i : ℕ) (ns : List ℕ) (n : ℕ) → Among (take i ns) n → Among ns n
among-take zero ns n among = absurd among
among-take (suc i) [] n among = absurd among
among-take (suc i) (m ∷ ns) n (inl same) = inl same
among-take (suc i) (m ∷ ns) n (inr rest) = inr (among-take i ns n rest)

among-drop : (i : ℕ) (ns : List ℕ) (n : ℕ) → Among (drop i ns) n → Among ns n
among-drop zero ns n among = among
among-drop (suc i) [] n among = absurd among
among-drop (suc i) (m ∷ ns) n among = inr (among-drop i ns n among)

among-parts : (i : ℕ) (ns : List ℕ) (n : ℕ) → Among ns n → Among (take i ns) n ⊎ Among (drop i ns) n
among-parts zero ns n among = inr among
among-parts (suc i) [] n among = absurd among
among-parts (suc i) (m ∷ ns) n (inl same) = inl (inl same)
among-parts (suc i) (m ∷ ns) n (inr rest) = elim (among-parts i ns n rest) [ inl left ↦ inl (inr left) | inr right ↦ inr right ]

pub among-inserted : (ns : List ℕ) (i m n : ℕ) → Among (insert ns i m) n → (m ≡ n) ⊎ Among ns n
among-inserted ns i m n among = elim (among-append (take i ns) (m ∷ drop i ns) n among) [
  | inl left ↦ inr (among-take i ns n left)
  | inr right ↦ elim right [ inl same ↦ inl same | inr rest ↦ inr (among-drop i ns n rest) ]
]

pub inserted-among : (ns : List ℕ) (i m : ℕ) → Among (insert ns i m) m
inserted-among ns i m = among-right (take i ns) (m ∷ drop i ns) m (inl refl)

pub kept-among : (ns : List ℕ) (i m n : ℕ) → Among ns n → Among (insert ns i m) n
kept-among ns i m n among = elim (among-parts i ns n among) [
  | inl left ↦ among-left (take i ns) (m ∷ drop i ns) n left
  | inr right ↦ among-right (take i ns) (m ∷ drop i ns) n (inr right)
]

module _ (names : ℕ → List ℕ) where
  all-insert : (P : ℕ → Type 0) (ns : List ℕ) (i n : ℕ) → AllByRecursion P ns → P n → AllByRecursion P (insert ns i n)
  all-insert P ns i n all p = all-among P (insert ns i n) (λ m among. elim (among-inserted ns i n m among) [ inl same ↦ subst P same p | inr rest ↦ among-all P ns m all rest ])

  -- a number whose name is new among them is put where the names before it end
  pub rises-insert : (ns : List ℕ) (n : ℕ) → NamesRise names ns → ((m : ℕ) → Among ns m → bytes_eq (names m) (names n) ≡ false) → NamesRise names (insert ns (rank_in names (names n) ns) n)
  rises-insert [] n rises free = (tt, tt)
  rises-insert (m ∷ ns) n rises free =
      elim (is_before (names m) (names n)) as (λ b. is_before (names m) (names n) ≡ b → NamesRise names (insert (m ∷ ns) (cond b (1 + rank_in names (names n) ns) 0) n)) [
        | true ↦ (λ before. subst (λ (xs : List ℕ). NamesRise names xs) (sym (insert-more m ns (rank_in names (names n) ns) n)) (
          all-insert (λ k. IsTrue (is_before (names m) (names k))) ns (rank_in names (names n) ns) n rises.0 before,
          rises-insert ns n rises.1 (λ k among. free k (inr among)),
        ))
        | false ↦ (λ behind.
            let first : is_before (names n) (names m) ≡ true = before-other (names m) (names n) behind (free m (inl refl)) in (
              (first, all-weaker (λ k. IsTrue (is_before (names m) (names k))) (λ k. IsTrue (is_before (names n) (names k))) ns (λ k h. before-trans (names n) (names m) (names k) first h) rises.0),
              rises,
            ))
      ] refl

  -- A number is taken out.

  pub before-itself : (x : List ℕ) → is_before x x ≡ false
  before-itself x =
      elim (is_before x x) as (λ b. is_before x x ≡ b → b ≡ false) [
        | true ↦ (λ before. let never : false ≡ true = sym (before-differs x x before) ∙ nat_list_eq_equiv.refl x in cc)
        | false ↦ (λ h. refl)
      ] refl

  -- all but one of the numbers
  abbrev pub without : ℕ → List ℕ → List ℕ
  without n ns = filter (λ (m : ℕ). not (m == n)) ns

  without-none : (n : ℕ) (ns : List ℕ) → AllByRecursion (λ m. IsTrue (is_before (names n) (names m))) ns → without n ns ≡ ns
  without-none n [] all = refl
  without-none n (m ∷ ns) all =
      let other : (m == n) ≡ false = ne_eqb m n (λ same. let never : is_before (names n) (names n) ≡ true = subst (λ (k : ℕ). is_before (names n) (names k) ≡ true) same all.0 in let none : is_before (names n) (names n) ≡ false = before-itself (names n) in cc) in
      ap (λ (b : Bool). cond (not b) (m ∷ without n ns) (without n ns)) other ∙ ap (λ (xs : List ℕ). m ∷ xs) (without-none n ns all.1)

  -- what is where the names before its own end
  pub rank-inside : (ns : List ℕ) (n : ℕ) → NamesRise names ns → Among ns n → rank_in names (names n) ns < length ns
  rank-inside [] n rises among = absurd among
  rank-inside (m ∷ ns) n rises among =
      elim (is_before (names m) (names n)) as (λ b. is_before (names m) (names n) ≡ b → cond b (1 + rank_in names (names n) ns) 0 < length (m ∷ ns)) [
        | true ↦ (λ before. elim among [
          | inl same ↦ (let never : is_before (names n) (names n) ≡ true = subst (λ (k : ℕ). is_before (names k) (names n) ≡ true) same before in let none : is_before (names n) (names n) ≡ false = before-itself (names n) in absurd cc)
          | inr rest ↦ (let less : rank_in names (names n) ns < length ns = rank-inside ns n rises.1 rest in omega arith)
        ])
        | false ↦ (λ behind. omega arith)
      ] refl

  pub remove-rank : (ns : List ℕ) (n : ℕ) → NamesRise names ns → Among ns n → remove ns (rank_in names (names n) ns) ≡ without n ns
  remove-rank [] n rises among = refl
  remove-rank (m ∷ ns) n rises (inl same) =
      let none : is_before (names m) (names n) ≡ false = subst (λ (k : ℕ). is_before (names m) (names k) ≡ false) same (before-itself (names m)) in
      let here : (m == n) ≡ true = eq-eqb m n same in
      ap (λ (b : Bool). remove (m ∷ ns) (cond b (1 + rank_in names (names n) ns) 0)) none
      ∙ sym (without-none n ns (subst (λ (k : ℕ). AllByRecursion (λ m. IsTrue (is_before (names k) (names m))) ns) same rises.0))
      ∙ ap (λ (b : Bool). cond (not b) (m ∷ without n ns) (without n ns)) (sym here)
  remove-rank (m ∷ ns) n rises (inr rest) =
      let before : is_before (names m) (names n) ≡ true = among-all (λ k. IsTrue (is_before (names m) (names k))) ns n rises.0 rest in
      let other : (m == n) ≡ false = ne_eqb m n (λ same. let never : is_before (names n) (names n) ≡ true = subst (λ (k : ℕ). is_before (names k) (names n) ≡ true) same before in let none : is_before (names n) (names n) ≡ false = before-itself (names n) in cc) in
      let more : 1 + rank_in names (names n) ns ≡ suc (rank_in names (names n) ns) = omega arith in
      ap (λ (b : Bool). remove (m ∷ ns) (cond b (1 + rank_in names (names n) ns) 0)) before
      ∙ ap (λ (i : ℕ). remove (m ∷ ns) i) more
      ∙ ap (λ (xs : List ℕ). m ∷ xs) (remove-rank ns n rises.1 rest)
      ∙ ap (λ (b : Bool). cond (not b) (m ∷ without n ns) (without n ns)) (sym other)

  pub among-without : (n : ℕ) (ns : List ℕ) (k : ℕ) → Among (without n ns) k → Among ns k × (n ≡ k → ⊥)
  among-without n [] k among = absurd among
  among-without n (m ∷ ns) k among =
      elim (m == n) as (λ b. (m == n) ≡ b → Among (cond (not b) (m ∷ without n ns) (without n ns)) k → Among (m ∷ ns) k × (n ≡ k → ⊥)) [
        | true ↦ (λ here among. let rest = among-without n ns k among in (inr rest.0, rest.1))
        | false ↦ (λ other among. elim among [
          | inl same ↦ (inl same, λ is. let never : (m == n) ≡ true = eq-eqb m n (same ∙ sym is) in cc)
          | inr more ↦ (let rest = among-without n ns k more in (inr rest.0, rest.1))
        ])
      ] refl among

  pub without-among : (n : ℕ) (ns : List ℕ) (k : ℕ) → Among ns k → (n ≡ k → ⊥) → Among (without n ns) k
  without-among n [] k among differs = absurd among
  without-among n (m ∷ ns) k among differs =
      elim (m == n) as (λ b. (m == n) ≡ b → Among (cond (not b) (m ∷ without n ns) (without n ns)) k) [
        | true ↦ (λ here. elim among [
          | inl same ↦ absurd (differs (sym (eqb-true m n here) ∙ same))
          | inr rest ↦ without-among n ns k rest differs
        ])
        | false ↦ (λ other. elim among [
          | inl same ↦ inl same
          | inr rest ↦ inr (without-among n ns k rest differs)
        ])
      ] refl

  pub rises-without : (n : ℕ) (ns : List ℕ) → NamesRise names ns → NamesRise names (without n ns)
  rises-without n [] rises = tt
  rises-without n (m ∷ ns) rises =
      elim (not (m == n)) as (λ b. NamesRise names (cond b (m ∷ without n ns) (without n ns))) [
        | true ↦ (all-filter (λ k. IsTrue (is_before (names m) (names k))) (λ (m : ℕ). not (m == n)) ns rises.0, rises-without n ns rises.1)
        | false ↦ rises-without n ns rises.1
      ]
