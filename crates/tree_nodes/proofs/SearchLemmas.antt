-- Names among numbers that are in order of their names.
use Rattle.std.proofs.Common.{◌≡◌, ℕ, zero, suc, ◌+◌, ◌<◌, ◌≤◌, Bool, true, false, cond, List, [], ◌∷◌, length, get_or, refl, ap, sym, ◌∙◌, arith}
use Rattle.std.specs.Prelude.{Option, Some, None, IsTrue, slice_get}
use Rattle.std.specs.List.{AllByRecursion}
use Rattle.std.specs.Cmp.Lexicographic.{nat_list_eq_equiv}
use Rattle.std.specs.Str.{bytes_eq}
use Rattle.hac_model.specs.Tree.Listing.{is_before}
use Rattle.tree_nodes.specs.Search.{NamesRise, first_named, rank_in}
use Rattle.hac_model.proofs.NameOrderLemmas.{before-differs, before-other, before-trans}
use Rattle.hac_model.proofs.SortedLemmas.{all-index}

module _ (names : ℕ → List ℕ) (name : List ℕ) where
  pub rank-length : (ns : List ℕ) → rank_in names name ns ≤ length ns
  rank-length [] = omega arith
  rank-length (n ∷ ns) =
      let rest : rank_in names name ns ≤ length ns = rank-length ns in
      elim (is_before (names n) name) as (λ b. cond b (1 + rank_in names name ns) 0 ≤ length (n ∷ ns)) [
        | true ↦ omega arith
        | false ↦ omega arith
      ]

  -- where a name comes before this one, more names do than are in front of it
  pub rank-above : (ns : List ℕ) (i : ℕ) → NamesRise names ns → i < length ns → is_before (names (get_or ns i 0)) name ≡ true → i < rank_in names name ns
  rank-above [] i h inside before = absurd (omega arith)
  rank-above (n ∷ ns) zero h inside before = rw before (omega arith)
  rank-above (n ∷ ns) (suc i) h inside before =
      let first : is_before (names n) name ≡ true = before-trans (names n) (names (get_or ns i 0)) name (all-index (λ m. IsTrue (is_before (names n) (names m))) ns i 0 h.0 (omega arith)) before in
      let rest : i < rank_in names name ns = rank-above ns i h.1 (omega arith) before in
      rw first (omega arith)

  -- where one doesn't, no more do than are in front of it
  pub rank-below : (ns : List ℕ) (i : ℕ) → i < length ns → is_before (names (get_or ns i 0)) name ≡ false → rank_in names name ns ≤ i
  rank-below [] i inside behind = absurd (omega arith)
  rank-below (n ∷ ns) zero inside behind = rw behind (omega arith)
  rank-below (n ∷ ns) (suc i) inside behind =
      let rest : rank_in names name ns ≤ i = rank-below ns i (omega arith) behind in
      elim (is_before (names n) name) as (λ b. cond b (1 + rank_in names name ns) 0 ≤ suc i) [
        | true ↦ omega arith
        | false ↦ omega arith
      ]

  -- the number that was come upon, if it has the name
  abbrev pub if_named : Option ℕ → Option ℕ
  if_named None = None
  if_named (Some n) = cond (bytes_eq (names n) name) (Some n) None

  none-behind : (x : List ℕ) (ns : List ℕ) → is_before name x ≡ true → AllByRecursion (λ m. IsTrue (is_before x (names m))) ns → first_named names ns name ≡ None
  none-behind x [] h all = refl
  none-behind x (m ∷ ns) h all =
      let other : bytes_eq (names m) name ≡ false = nat_list_eq_equiv.symm (names m) name ∙ before-differs name (names m) (before-trans name x (names m) h all.0) in
      ap (λ (b : Bool). cond b (Some m) (first_named names ns name)) other ∙ none-behind x ns h all.1

  -- a number that has the name is where the names before it end
  pub named-rank : (ns : List ℕ) → NamesRise names ns → first_named names ns name ≡ if_named (slice_get ns (rank_in names name ns))
  named-rank [] h = refl
  named-rank (n ∷ ns) h =
      elim (is_before (names n) name) as (λ b. is_before (names n) name ≡ b → first_named names (n ∷ ns) name ≡ if_named (slice_get (n ∷ ns) (cond b (1 + rank_in names name ns) 0))) [
        | true ↦ (λ before.
            let more : 1 + rank_in names name ns ≡ suc (rank_in names name ns) = omega arith in
            ap (λ (b : Bool). cond b (Some n) (first_named names ns name)) (before-differs (names n) name before)
            ∙ named-rank ns h.1
            ∙ ap (λ (i : ℕ). if_named (slice_get (n ∷ ns) i)) (sym more))
        | false ↦ (λ behind. here (is_before (names n) name) behind)
      ] refl
    where
      here : (b : Bool) → is_before (names n) name ≡ false → first_named names (n ∷ ns) name ≡ cond (bytes_eq (names n) name) (Some n) None
      here b behind =
          elim (bytes_eq (names n) name) as (λ b. bytes_eq (names n) name ≡ b → cond b (Some n) (first_named names ns name) ≡ cond b (Some n) None) [
            | true ↦ (λ same. refl)
            | false ↦ (λ other. none-behind (names n) ns (before-other (names n) name behind other) h.0)
          ] refl

pub get-inside : (ns : List ℕ) (i d : ℕ) → i < length ns → slice_get ns i ≡ Some (get_or ns i d)
get-inside [] i d inside = absurd (omega arith)
get-inside (n ∷ ns) zero d inside = refl
get-inside (n ∷ ns) (suc i) d inside = get-inside ns i d (omega arith)

pub get-outside : (ns : List ℕ) (i : ℕ) → length ns ≤ i → slice_get ns i ≡ None
get-outside [] i outside = refl
get-outside (n ∷ ns) zero outside = absurd (omega arith)
get-outside (n ∷ ns) (suc i) outside = get-outside ns i (omega arith)

module _ (names : ℕ → List ℕ) (name : List ℕ) (ns : List ℕ) (rises : NamesRise names ns) (i : ℕ) (rank : i ≡ rank_in names name ns) where
  pub named-end : length ns ≤ i → first_named names ns name ≡ None
  named-end outside =
      named-rank names name ns rises ∙ ap (λ (k : ℕ). if_named names name (slice_get ns k)) (sym rank)
      ∙ ap (λ (o : Option ℕ). if_named names name o) (get-outside ns i outside)

  pub named-at : (n : ℕ) → i < length ns → n ≡ get_or ns i n → first_named names ns name ≡ cond (bytes_eq (names n) name) (Some n) None
  named-at n inside is =
      named-rank names name ns rises ∙ ap (λ (k : ℕ). if_named names name (slice_get ns k)) (sym rank)
      ∙ ap (λ (o : Option ℕ). if_named names name o) (get-inside ns i n inside)
      ∙ ap (λ (m : ℕ). if_named names name (Some m)) (sym is)
