-- The entries of the numbers below a number, given the entry of each.
use Rattle.std.proofs.Common.{◌≡◌, ℕ, zero, suc, ◌+◌, ◌<◌, ◌≤◌, Bool, true, false, cond, List, [], ◌∷◌, ◌++◌, length, refl, ap, sym, ◌∙◌, arith, eq-eqb, inl, inr, add-one, append_assoc}
use Rattle.std.specs.Prelude.{◌==◌, not, nat_eq, filter, Option, Some, None}
use Rattle.std.specs.Option.{option_map, option_to_list}
use Rattle.std.proofs.lemmas.Bool.{ne_eqb, cases_lt}
use Rattle.std.proofs.lemmas.Bool.Decides.{nat_tests}
use Rattle.std.proofs.lemmas.List.{append-nil}
use Rattle.hac_model.specs.Tree.Events.{changed_in}
use Rattle.hac_model.specs.Tree.{entry_at}
use Rattle.hac_model.specs.declared.states.Entry.{Entry}
use Rattle.hac_model.proofs.ChangeLemmas.{entry_at-other, entry_at-new}
use Rattle.file_tree.specs.Shape.{entries_below}
use Rattle.tree_nodes.proofs.OverLemmas.{Follows}

-- each entry has the number under which it is found
abbrev pub IsNumbered : (ℕ → Option Entry) → Type 0
IsNumbered at = (n : ℕ) (e : Entry) → at n ≡ Some e → e.number ≡ n

-- what comes last isn't found under another number
last-other : (es : List Entry) (o : Option Entry) (n : ℕ) → ((e : Entry) → o ≡ Some e → e.number ≡ n → ⊥) → entry_at (es ++ option_to_list o) n ≡ entry_at es n
last-other es None n other = ap (λ (xs : List Entry). entry_at xs n) (append-nil es)
last-other es (Some e) n other = entry_at-other es e n (other e refl)

-- and is under its own
last-own : (es : List Entry) (o : Option Entry) (n : ℕ) → ((e : Entry) → o ≡ Some e → e.number ≡ n) → entry_at es n ≡ None → entry_at (es ++ option_to_list o) n ≡ o
last-own es None n own none = ap (λ (xs : List Entry). entry_at xs n) (append-nil es) ∙ none
last-own es (Some e) n own none =
    let number : e.number ≡ n = own e refl in
    ap (λ (m : ℕ). entry_at (es ++ e ∷ []) m) (sym number) ∙ entry_at-new es e (ap (λ (m : ℕ). entry_at es m) number ∙ none)

-- no entry has a number that isn't below
pub below-none : (k : ℕ) (at : ℕ → Option Entry) (n : ℕ) → IsNumbered at → k ≤ n → entry_at (entries_below k at) n ≡ None
below-none zero at n numbered high = refl
below-none (suc k) at n numbered high =
    last-other (entries_below k at) (at k) n (λ e found same. let number : e.number ≡ k = numbered k e found in omega arith)
    ∙ below-none k at n numbered (omega arith)

-- an entry whose number is below is there
pub below-at : (k : ℕ) (at : ℕ → Option Entry) (n : ℕ) → IsNumbered at → n < k → entry_at (entries_below k at) n ≡ at n
below-at zero at n numbered low = absurd (omega arith)
below-at (suc k) at n numbered low = elim (cases_lt n k) [
  | inl less ↦
      last-other (entries_below k at) (at k) n (λ e found same. let number : e.number ≡ k = numbered k e found in omega arith)
      ∙ below-at k at n numbered less
  | inr high ↦
      (let same : k ≡ n = omega arith in
      last-own (entries_below k at) (at k) n (λ e found. numbered k e found ∙ same) (below-none k at n numbered high) ∙ ap at same)
]

-- all entries are there, where none has a number that isn't below
pub below-all : (k : ℕ) (at : ℕ → Option Entry) (n : ℕ) → IsNumbered at → ((m : ℕ) → k ≤ m → at m ≡ None) → entry_at (entries_below k at) n ≡ at n
below-all k at n numbered above = elim (cases_lt n k) [
  | inl less ↦ below-at k at n numbered less
  | inr high ↦ below-none k at n numbered high ∙ sym (above n high)
]

-- what is made of the entries part by part is made of them all
pub below-made : (make : List Entry → List Entry) → make [] ≡ [] → ((xs ys : List Entry) → make (xs ++ ys) ≡ make xs ++ make ys) → (k : ℕ) (at other : ℕ → Option Entry) → ((n : ℕ) → n < k → option_to_list (other n) ≡ make (option_to_list (at n))) → entries_below k other ≡ make (entries_below k at)
below-made make nothing parts zero at other told = sym nothing
below-made make nothing parts (suc k) at other told =
    ap (λ (es : List Entry). es ++ option_to_list (other k)) (below-made make nothing parts k at other (λ n low. told n (omega arith)))
    ∙ ap (λ (es : List Entry). make (entries_below k at) ++ es) (told k (omega arith))
    ∙ sym (parts (entries_below k at) (option_to_list (at k)))

-- equal numbers give equal entries
pub below-same : (k : ℕ) (at other : ℕ → Option Entry) → ((n : ℕ) → n < k → other n ≡ at n) → entries_below k other ≡ entries_below k at
below-same k at other same = below-made (λ es. es) refl (λ xs ys. refl) k at other (λ n low. ap (λ (o : Option Entry). option_to_list o) (same n low))

-- a new entry comes last
pub below-added : (k : ℕ) (at other : ℕ → Option Entry) (e : Entry) → ((n : ℕ) → other n ≡ cond (nat_eq k n) (Some e) (at n)) → entries_below (k + 1) other ≡ entries_below k at ++ e ∷ []
below-added k at other e told =
    let last : other k ≡ Some e = told k ∙ ap (λ (b : Bool). cond b (Some e) (at k)) (eq-eqb k k refl) in
    rw add-one (ap (λ (es : List Entry). es ++ option_to_list (other k)) (below-same k at other (λ n low. told n ∙ ap (λ (b : Bool). cond b (Some e) (at n)) (ne_eqb k n (λ same. omega arith))))
    ∙ ap (λ (o : Option Entry). entries_below k at ++ option_to_list o) last)

changed-append : (n : ℕ) (change : Entry → Entry) (xs ys : List Entry) → changed_in n change (xs ++ ys) ≡ changed_in n change xs ++ changed_in n change ys
changed-append n change [] ys = refl
changed-append n change (x ∷ xs) ys = ap (λ (es : List Entry). cond (x.number == n) (change x) x ∷ es) (changed-append n change xs ys)

-- an entry is changed
pub below-changed : (k : ℕ) (at other : ℕ → Option Entry) (m : ℕ) (change : Entry → Entry) → IsNumbered at → ((n : ℕ) → other n ≡ cond (nat_eq m n) (option_map change (at n)) (at n)) → entries_below k other ≡ changed_in m change (entries_below k at)
below-changed k at other m change numbered told =
    below-made (changed_in m change) refl (changed-append m change) k at other (λ n low. ap (λ (o : Option Entry). option_to_list o) (told n) ∙ one n (at n) (numbered n))
  where
    one : (n : ℕ) (o : Option Entry) → ((e : Entry) → o ≡ Some e → e.number ≡ n) → option_to_list (cond (nat_eq m n) (option_map change o) o) ≡ changed_in m change (option_to_list o)
    one n None number = elim (nat_eq m n) as (λ b. option_to_list (cond {A = Option Entry} b None None) ≡ []) [ true ↦ refl | false ↦ refl ]
    one n (Some e) number =
        let own : e.number ≡ n = number e refl in
        let test : nat_eq m n ≡ (e.number == m) = grind (arith, nat_tests) in
        elim (nat_eq m n) as (λ b. b ≡ (e.number == m) → option_to_list (cond b (Some (change e)) (Some e)) ≡ cond (e.number == m) (change e) e ∷ []) [
          | true ↦ (λ is. ap (λ (b : Bool). cond b (change e) e ∷ []) is)
          | false ↦ (λ is. ap (λ (b : Bool). cond b (change e) e ∷ []) is)
        ] test

-- all but the entry of a number
abbrev pub kept : ℕ → List Entry → List Entry
kept m es = filter (λ (e : Entry). not (e.number == m)) es

kept-append : (m : ℕ) (xs ys : List Entry) → kept m (xs ++ ys) ≡ kept m xs ++ kept m ys
kept-append m [] ys = refl
kept-append m (x ∷ xs) ys =
    ap (λ (es : List Entry). cond (not (x.number == m)) (x ∷ es) es) (kept-append m xs ys)
    ∙ (elim (not (x.number == m)) as (λ b. cond b (x ∷ (kept m xs ++ kept m ys)) (kept m xs ++ kept m ys) ≡ cond b (x ∷ kept m xs) (kept m xs) ++ kept m ys) [ true ↦ refl | false ↦ refl ])

-- an entry is taken out
pub below-removed : (k : ℕ) (at other : ℕ → Option Entry) (m : ℕ) → IsNumbered at → ((n : ℕ) → other n ≡ cond (nat_eq m n) None (at n)) → entries_below k other ≡ kept m (entries_below k at)
below-removed k at other m numbered told =
    below-made (kept m) refl (kept-append m) k at other (λ n low. ap (λ (o : Option Entry). option_to_list o) (told n) ∙ one n (at n) (numbered n))
  where
    one : (n : ℕ) (o : Option Entry) → ((e : Entry) → o ≡ Some e → e.number ≡ n) → option_to_list (cond (nat_eq m n) None o) ≡ kept m (option_to_list o)
    one n None number = elim (nat_eq m n) as (λ b. option_to_list (cond {A = Option Entry} b None None) ≡ []) [ true ↦ refl | false ↦ refl ]
    one n (Some e) number =
        let own : e.number ≡ n = number e refl in
        let test : nat_eq m n ≡ (e.number == m) = grind (arith, nat_tests) in
        elim (nat_eq m n) as (λ b. b ≡ (e.number == m) → option_to_list (cond b None (Some e)) ≡ cond (not (e.number == m)) (e ∷ []) []) [
          | true ↦ (λ is. ap (λ (b : Bool). cond (not b) (e ∷ []) []) is)
          | false ↦ (λ is. ap (λ (b : Bool). cond (not b) (e ∷ []) []) is)
        ] test

-- the entries below a number, and those that follow
pub below-more : (k : ℕ) (at : ℕ → Option Entry) (es : List Entry) → Follows at k es → entries_below (k + length es) at ≡ entries_below k at ++ es
below-more k at [] follow =
    let same : k + length {A = Entry} [] ≡ k = omega arith in
    ap (λ (n : ℕ). entries_below n at) same ∙ sym (append-nil (entries_below k at))
below-more k at (e ∷ es) (here, rest) =
    let far : k + length (e ∷ es) ≡ k + 1 + length es = omega arith in
    let one : entries_below (k + 1) at ≡ entries_below k at ++ e ∷ [] = rw add-one (ap (λ (o : Option Entry). entries_below k at ++ option_to_list o) here) in
    ap (λ (n : ℕ). entries_below n at) far ∙ below-more (k + 1) at es rest ∙ ap (λ (xs : List Entry). xs ++ es) one ∙ append_assoc (entries_below k at) (e ∷ []) es
