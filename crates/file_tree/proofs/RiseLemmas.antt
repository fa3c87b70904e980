-- Entries whose numbers rise: they are told by what is looked up in them.
use Rattle.std.proofs.Common.{◌≡◌, ℕ, zero, suc, ◌<◌, ◌≤◌, List, [], ◌∷◌, ◌++◌, refl, ap, sym, subst, ◌∙◌, arith, inl, inr}
use Rattle.std.specs.Prelude.{Option, Some, None}
use Rattle.std.specs.Option.{option_to_list}
use Rattle.std.proofs.lemmas.Bool.{cases_eq}
use Rattle.std.proofs.lemmas.List.{append-nil}
use Rattle.hac_model.specs.Tree.{entry_at}
use Rattle.hac_model.specs.Tree.Valid.{NumbersRise}
use Rattle.hac_model.specs.declared.states.Entry.{Entry}
use Rattle.hac_model.proofs.TreeLemmas.{entry_at-behind, entry_at-first}
use Rattle.file_tree.specs.Shape.{entries_below}
use Rattle.file_tree.proofs.BelowLemmas.{IsNumbered, below-all}
use Rattle.hac_model.proofs.PlainLemmas.{entries-told}

-- another bound
rise-higher : (above : ℕ) (es : List Entry) (low high : ℕ) → low ≤ high → NumbersRise above es low → NumbersRise above es high
rise-higher above [] low high more h = omega arith
rise-higher above (e ∷ es) low high more h = (h.0, rise-higher e.number es low high more h.1)

-- an entry more
rise-more : (above : ℕ) (es : List Entry) (e : Entry) (low high : ℕ) → low ≤ e.number → e.number < high → NumbersRise above es low → NumbersRise above (es ++ e ∷ []) high
rise-more above [] e low high behind below h = (omega arith, below)
rise-more above (d ∷ es) e low high behind below h = (h.0, rise-more d.number es e low high behind below h.1)

-- those behind the first ones
pub rise-fresh : (above : ℕ) (taken : List Entry) (e : Entry) (rest : List Entry) (next : ℕ) → NumbersRise above (taken ++ e ∷ rest) next → (above < e.number) × (entry_at taken e.number ≡ None)
rise-fresh above [] e rest next h = (h.0, refl)
rise-fresh above (d ∷ taken) e rest next h =
    let behind = rise-fresh d.number taken e rest next h.1 in
    let after : d.number < e.number = behind.0 in
    let first : above < d.number = h.0 in
    (omega arith, entry_at-behind d taken e.number (λ same. omega arith) ∙ behind.1)

-- what the first ones haven't got is looked up behind them
pub entry_at-over : (taken rest : List Entry) (n : ℕ) → entry_at taken n ≡ None → entry_at (taken ++ rest) n ≡ entry_at rest n
entry_at-over [] rest n none = refl
entry_at-over (d ∷ taken) rest n none = elim (cases_eq d.number n) [
  | inl same ↦
      (let found : entry_at (d ∷ taken) n ≡ Some d = ap (λ (k : ℕ). entry_at (d ∷ taken) k) (sym same) ∙ entry_at-first d taken in
      absurd cc)
  | inr other ↦ entry_at-behind d (taken ++ rest) n other ∙ entry_at-over taken rest n (sym (entry_at-behind d taken n other) ∙ none)
]

-- the entries of numbers rise
below-rises : (k : ℕ) (at : ℕ → Option Entry) → IsNumbered at → at 0 ≡ None → NumbersRise 0 (entries_below (suc k) at) (suc k)
below-rises zero at numbered none = subst (λ (o : Option Entry). NumbersRise 0 (option_to_list o) 1) (sym none) (omega arith)
below-rises (suc k) at numbered none = more k at numbered (below-rises k at numbered none) (at (suc k)) refl
  where
    more : (k : ℕ) (at : ℕ → Option Entry) → IsNumbered at → NumbersRise 0 (entries_below (suc k) at) (suc k) → (found : Option Entry) → at (suc k) ≡ found → NumbersRise 0 (entries_below (suc k) at ++ option_to_list (at (suc k))) (suc (suc k))
    more k at numbered rise None is = subst (λ (o : Option Entry). NumbersRise 0 (entries_below (suc k) at ++ option_to_list o) (suc (suc k))) (sym is)
        (subst (λ (es : List Entry). NumbersRise 0 es (suc (suc k))) (sym (append-nil (entries_below (suc k) at))) (rise-higher 0 (entries_below (suc k) at) (suc k) (suc (suc k)) (omega arith) rise))
    more k at numbered rise (Some e) is =
        let number : e.number ≡ suc k = numbered (suc k) e is in
        subst (λ (o : Option Entry). NumbersRise 0 (entries_below (suc k) at ++ option_to_list o) (suc (suc k))) (sym is)
        (rise-more 0 (entries_below (suc k) at) e (suc k) (suc (suc k)) (omega arith) (omega arith) rise)

-- they are all entries, where these rise
pub below-risen : (next : ℕ) (at : ℕ → Option Entry) (es : List Entry) → IsNumbered at → at 0 ≡ None → NumbersRise 0 es next → ((m : ℕ) → next ≤ m → at m ≡ None) → ((n : ℕ) → at n ≡ entry_at es n) → entries_below next at ≡ es
below-risen zero at es numbered none rise above told = absurd (no-room 0 es rise)
  where
    no-room : (above : ℕ) (es : List Entry) → NumbersRise above es 0 → ⊥
    no-room above [] h = omega arith
    no-room above (e ∷ es) h = no-room e.number es h.1
below-risen (suc k) at es numbered none rise above told = entries-told 0 (entries_below (suc k) at) es (suc k) (below-rises k at numbered none) rise (λ n. below-all (suc k) at n numbered above ∙ told n)
