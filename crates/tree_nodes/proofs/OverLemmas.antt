-- Documents that are put under numbers that follow one another: what is under each number then.
use Rattle.std.proofs.Common.{◌≡◌, ℕ, suc, ◌+◌, ◌<◌, ◌≤◌, Bool, true, false, cond, List, [], ◌∷◌, length, refl, ap, sym, ◌∙◌, arith, inl, inr}
use Rattle.std.specs.Prelude.{nat_eq, is_none, Option, Some, None}
use Rattle.std.specs.Option.{option_map, option_map_or}
use Rattle.hac_model.specs.Tree.{is_dirty}
use Rattle.hac_model.specs.Tree.Mounting.{documents_from}
use Rattle.hac_model.specs.declared.states.Body.TheVariants.{Document}
use Rattle.hac_model.specs.declared.states.Entry.{Entry}
use Rattle.tree_nodes.specs.Documents.{unknown, with_entries, with_names}
use Rattle.tree_nodes.specs.Nodes.{parent_in, set_at}
use Rattle.tree_nodes.proofs.SetLemmas.{set-here, set-there}
use Rattle.std.proofs.lemmas.Bool.{cases_eq}

-- the entry that is looked up is dirty
abbrev pub dirty_in : Option Entry → Bool
dirty_in found = option_map_or is_dirty (option_map (λ (e : Entry). e.body) found) false

-- one document
abbrev pub document : ℕ → ℕ → List ℕ → Entry
document number mount name = record { number = number; parent = mount; name = name; body = Document }

-- the entries from a number on are these
abbrev pub Follows : (ℕ → Option Entry) → ℕ → List Entry → Type 0
Follows at k [] = Unit {0}
Follows at k (e ∷ es) = (at k ≡ Some e) × Follows at (k + 1) es

-- the names from a number on are these
abbrev pub NamesFollow : (ℕ → List ℕ) → ℕ → List (List ℕ) → Type 0
NamesFollow names k [] = Unit {0}
NamesFollow names k (x ∷ xs) = (names k ≡ x) × NamesFollow names (k + 1) xs

pub long : (k m : ℕ) (xs : List (List ℕ)) → length (documents_from k m xs) ≡ length xs
long k m [] = refl
long k m (x ∷ xs) = ap suc (long (k + 1) m xs)

-- equal entries before, equal entries after
pub over-same : (es : List Entry) (at other : ℕ → Option Entry) → ((q : ℕ) → other q ≡ at q) → (q : ℕ) → with_entries es other q ≡ with_entries es at q
over-same [] at other same q = same q
over-same (e ∷ es) at other same q = over-same es (set_at e.number (Some e) at) (set_at e.number (Some e) other) (λ n. ap (λ (o : Option Entry). cond (nat_eq e.number n) (Some e) o) (same n)) q

pub named-same : (es : List Entry) (names other : ℕ → List ℕ) → ((q : ℕ) → other q ≡ names q) → (q : ℕ) → with_names es other q ≡ with_names es names q
named-same [] names other same q = same q
named-same (e ∷ es) names other same q = named-same es (set_at e.number e.name names) (set_at e.number e.name other) (λ n. ap (λ (x : List ℕ). cond (nat_eq e.number n) e.name x) (same n)) q

-- nothing is put below the first number
pub over-low : (xs : List (List ℕ)) (k m q : ℕ) (at : ℕ → Option Entry) → q < k → with_entries (documents_from k m xs) at q ≡ at q
over-low [] k m q at low = refl
over-low (x ∷ xs) k m q at low = over-low xs (k + 1) m q (set_at k (Some (document k m x)) at) (omega arith) ∙ set-there k (Some (document k m x)) at q (λ same. omega arith)

pub named-low : (xs : List (List ℕ)) (k m q : ℕ) (names : ℕ → List ℕ) → q < k → with_names (documents_from k m xs) names q ≡ names q
named-low [] k m q names low = refl
named-low (x ∷ xs) k m q names low = named-low xs (k + 1) m q (set_at k x names) (omega arith) ∙ set-there k x names q (λ same. omega arith)

-- nor behind the last one
pub over-high : (xs : List (List ℕ)) (k m q : ℕ) (at : ℕ → Option Entry) → k + length xs ≤ q → with_entries (documents_from k m xs) at q ≡ at q
over-high [] k m q at high = refl
over-high (x ∷ xs) k m q at high = over-high xs (k + 1) m q (set_at k (Some (document k m x)) at) (omega arith) ∙ set-there k (Some (document k m x)) at q (λ same. omega arith)

-- in between are documents of the mount
pub over-inside : (xs : List (List ℕ)) (k m q : ℕ) (at : ℕ → Option Entry) → k ≤ q → q < k + length xs → parent_in (with_entries (documents_from k m xs) at q) ≡ Some m
over-inside [] k m q at high low = absurd (omega arith)
over-inside (x ∷ xs) k m q at high low = elim (cases_eq k q) [
  | inl same ↦ ap parent_in (
      over-low xs (k + 1) m q (set_at k (Some (document k m x)) at) (omega arith)
      ∙ ap (λ (n : ℕ). set_at k (Some (document k m x)) at n) (sym same)
      ∙ set-here k (Some (document k m x)) at)
  | inr other ↦ over-inside xs (k + 1) m q (set_at k (Some (document k m x)) at) (omega arith) (omega arith)
]

pub over-follow : (xs : List (List ℕ)) (k m : ℕ) (at : ℕ → Option Entry) → Follows (with_entries (documents_from k m xs) at) k (documents_from k m xs)
over-follow [] k m at = tt
over-follow (x ∷ xs) k m at = (
  over-low xs (k + 1) m k (set_at k (Some (document k m x)) at) (omega arith) ∙ set-here k (Some (document k m x)) at,
  over-follow xs (k + 1) m (set_at k (Some (document k m x)) at),
)

pub follow-same : (es : List Entry) (k : ℕ) (at other : ℕ → Option Entry) → ((q : ℕ) → k ≤ q → other q ≡ at q) → Follows at k es → Follows other k es
follow-same [] k at other same follow = tt
follow-same (e ∷ es) k at other same (here, rest) = (same k (omega arith) ∙ here, follow-same es (k + 1) at other (λ q high. same q (omega arith)) rest)

pub named-follow : (xs : List (List ℕ)) (k m : ℕ) (names : ℕ → List ℕ) → NamesFollow (with_names (documents_from k m xs) names) k xs
named-follow [] k m names = tt
named-follow (x ∷ xs) k m names = (
  named-low xs (k + 1) m k (set_at k x names) (omega arith) ∙ set-here k x names,
  named-follow xs (k + 1) m (set_at k x names),
)

pub names-same : (xs : List (List ℕ)) (k : ℕ) (names other : ℕ → List ℕ) → ((q : ℕ) → k ≤ q → q < k + length xs → other q ≡ names q) → NamesFollow names k xs → NamesFollow other k xs
names-same [] k names other same follow = tt
names-same (x ∷ xs) k names other same (here, rest) = (same k (omega arith) (omega arith) ∙ here, names-same xs (k + 1) names other (λ q high low. same q (omega arith) (omega arith)) rest)

-- none of them is dirty
pub over-clean : (xs : List (List ℕ)) (k m q : ℕ) (at : ℕ → Option Entry) → ((n : ℕ) → k ≤ n → at n ≡ None) → dirty_in (with_entries (documents_from k m xs) at q) ≡ dirty_in (at q)
over-clean [] k m q at none = refl
over-clean (x ∷ xs) k m q at none =
    over-clean xs (k + 1) m q (set_at k (Some (document k m x)) at) (λ n high. set-there k (Some (document k m x)) at n (λ same. omega arith) ∙ none n (omega arith))
    ∙ (elim (cases_eq k q) [
      | inl same ↦
          ap (λ (n : ℕ). dirty_in (set_at k (Some (document k m x)) at n)) (sym same)
          ∙ ap dirty_in (set-here k (Some (document k m x)) at)
          ∙ ap dirty_in (sym (none k (omega arith)))
          ∙ ap (λ (n : ℕ). dirty_in (at n)) same
      | inr other ↦ ap dirty_in (set-there k (Some (document k m x)) at q other)
    ])

-- One name after the other.

module _ (find : List ℕ → Option ℕ) (x : List ℕ) (xs : List (List ℕ)) (k m : ℕ) where
  pub step-long : k + length (unknown find (x ∷ [])) + length (unknown find xs) ≡ k + length (unknown find (x ∷ xs))
  step-long = elim (is_none (find x)) as (λ b. k + length (cond b (x ∷ []) []) + length (unknown find xs) ≡ k + length (cond b (x ∷ unknown find xs) (unknown find xs))) [
    | true ↦ omega arith
    | false ↦ omega arith
  ]

  pub step-over : (at other : ℕ → Option Entry) → ((q : ℕ) → other q ≡ with_entries (documents_from k m (unknown find (x ∷ []))) at q) → (q : ℕ) →
      with_entries (documents_from (k + length (unknown find (x ∷ []))) m (unknown find xs)) other q ≡ with_entries (documents_from k m (unknown find (x ∷ xs))) at q
  step-over at other told q =
      over-same (documents_from (k + length (unknown find (x ∷ []))) m (unknown find xs)) (with_entries (documents_from k m (unknown find (x ∷ []))) at) other told q
      ∙ (elim (is_none (find x)) as (λ b. with_entries (documents_from (k + length (cond b (x ∷ []) [])) m (unknown find xs)) (with_entries (documents_from k m (cond b (x ∷ []) [])) at) q ≡ with_entries (documents_from k m (cond b (x ∷ unknown find xs) (unknown find xs))) at q) [
        | true ↦ (let one : k + length (x ∷ []) ≡ k + 1 = omega arith in ap (λ (n : ℕ). with_entries (documents_from n m (unknown find xs)) (set_at k (Some (document k m x)) at) q) one)
        | false ↦ (let none : k + length {A = List ℕ} [] ≡ k = omega arith in ap (λ (n : ℕ). with_entries (documents_from n m (unknown find xs)) at q) none)
      ])

  pub step-named : (names other : ℕ → List ℕ) → ((q : ℕ) → other q ≡ with_names (documents_from k m (unknown find (x ∷ []))) names q) → (q : ℕ) →
      with_names (documents_from (k + length (unknown find (x ∷ []))) m (unknown find xs)) other q ≡ with_names (documents_from k m (unknown find (x ∷ xs))) names q
  step-named names other told q =
      named-same (documents_from (k + length (unknown find (x ∷ []))) m (unknown find xs)) (with_names (documents_from k m (unknown find (x ∷ []))) names) other told q
      ∙ (elim (is_none (find x)) as (λ b. with_names (documents_from (k + length (cond b (x ∷ []) [])) m (unknown find xs)) (with_names (documents_from k m (cond b (x ∷ []) [])) names) q ≡ with_names (documents_from k m (cond b (x ∷ unknown find xs) (unknown find xs))) names q) [
        | true ↦ (let one : k + length (x ∷ []) ≡ k + 1 = omega arith in ap (λ (n : ℕ). with_names (documents_from n m (unknown find xs)) (set_at k x names) q) one)
        | false ↦ (let none : k + length {A = List ℕ} [] ≡ k = omega arith in ap (λ (n : ℕ). with_names (documents_from n m (unknown find xs)) names q) none)
      ])

  -- a name that isn't known is one of them
  pub step-unknown : find x ≡ None → length (unknown find (x ∷ xs)) ≡ 1 + length (unknown find xs)
  step-unknown none =
      let one : length (x ∷ unknown find xs) ≡ 1 + length (unknown find xs) = omega arith in
      ap (λ (o : Option ℕ). length (cond (is_none o) (x ∷ unknown find xs) (unknown find xs))) none ∙ one
