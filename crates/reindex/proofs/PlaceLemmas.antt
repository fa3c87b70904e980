-- The stops of a way at which judging begins, by their places.
use Rattle.std.proofs.Common.{◌≡◌, ℕ, zero, suc, ◌+◌, ◌-◌, ◌<◌, ◌≤◌, Bool, true, false, cond, List, [], ◌∷◌, length, get_or, ap, arith, inl, inr, refl, subst, sym, ◌∙◌}
use Rattle.std.specs.Prelude.{◌||◌, ◌++◌, ◌==◌, drop, take, flat_map, map, slice_get, Option, Some}
use Rattle.std.specs.Option.{option_map_or}
use Rattle.std.proofs.lemmas.Bool.{cases_eq, ne_eqb, or_parts}
use Rattle.std.proofs.lemmas.List.{append-nil, append_assoc, take_all}
use Rattle.std.proofs.lemmas.List.Concat.{flat_map-cons}
use Rattle.std.proofs.lemmas.List.Elements.{filter-append}
use Rattle.file_tree.proofs.RisingLemmas.{has-first, has-low}
use Rattle.hac_model.specs.Query.Formula.{Formula}
use Rattle.hac_model.specs.Tree.Links.{has, query_at}
use Rattle.hac_model.specs.Tree.Valid.{RiseFrom}
use Rattle.hac_model.specs.declared.states.State.{State}
use Rattle.hac_model.proofs.SortedLemmas.{drop-next}
use Rattle.query_index.specs.Numbers.{AreThose}
use Rattle.query_index.specs.Seen.{ArePlaces, passes_at}
use Rattle.reeval.specs.Routes.{dirs_of}
use Rattle.reeval.specs.declared.settling.Stop.{Stop}
use Rattle.reindex.specs.Ways.{any_leans, begins_there, begun, begun_at, begun_there, needed}
use Rattle.std.proofs.lemmas.Option.{slice_get-get_or, slice_get_past}

-- the places of queries that pass a test are those of stops whose directories ask such queries
pub places-begin : (s : State) (test : Formula ℕ → Bool) (stops : List Stop) (places : List ℕ) → ArePlaces (map (query_at s) (dirs_of stops)) test places →
    AreThose (begins_there (λ dir. option_map_or test (query_at s dir) false) stops) places
places-begin s test stops places are = record { rise = are.rise; all = λ n. are.all n ∙ same stops n }
  where
    same : (stops : List Stop) (n : ℕ) → passes_at (map (query_at s) (dirs_of stops)) test n ≡ begins_there (λ dir. option_map_or test (query_at s dir) false) stops n
    same [] n = refl
    same (stop ∷ stops) zero = refl
    same (stop ∷ stops) (suc n) = same stops n

-- places are behind one that is not among them
pub behind-rise : (place : ℕ) (places : List ℕ) → RiseFrom place places → has places place ≡ false → RiseFrom (place + 1) places
behind-rise place [] rise out = tt
behind-rise place (p ∷ ps) rise out = elim (cases_eq p place) [
  | inl first ↦ absurd (let never : true ≡ false = sym (has-first p ps) ∙ ap (has (p ∷ ps)) first ∙ out in cc)
  | inr other ↦ (omega (arith, rise.0, other), rise.1)
]

-- where no stop leans, the stops of the places are all that are needed: `at` gives them from the number of the first on
picked-from : (begins : ℕ → Bool) (n : ℕ) (at : ℕ → List Stop) (stops : List Stop) (places : List ℕ) → RiseFrom n places → ((k : ℕ) → has places (n + k) ≡ begins_there begins stops k) →
    ((k : ℕ) → at (n + k) ≡ begun_there stops k) → any_leans stops ≡ false → flat_map at places ≡ needed (begun_at begins stops)
picked-from begins n at [] [] rise those same none = refl
picked-from begins n at [] (p ∷ ps) rise those same none =
    let is : n + (p - n) ≡ p = omega (arith, rise.0) in
    absurd (let never : false ≡ true = sym (those (p - n)) ∙ ap (has (p ∷ ps)) is ∙ has-first p ps in cc)
picked-from begins n at (stop ∷ stops) places rise those same none =
    by (begins stop.dir) refl places rise those
    (λ places rise those. picked-from begins (n + 1) at stops places rise those (λ k. ap at (next k) ∙ same (suc k)) (or_parts stop.leans (any_leans stops) none).1)
  where
    next : (k : ℕ) → n + 1 + k ≡ n + suc k
    next k = omega arith

    here : n ≡ n + 0
    here = omega arith

    rest : List Stop
    rest = needed (begun_at begins stops)

    Rest : Type 0
    Rest = (places : List ℕ) → RiseFrom (n + 1) places → ((k : ℕ) → has places (n + 1 + k) ≡ begins_there begins stops k) → flat_map at places ≡ rest

    whole : (b : Bool) → begins stop.dir ≡ b → cond b (record stop { begins = true } ∷ rest) rest ≡ needed (begun_at begins (stop ∷ stops))
    whole true is = sym (λ i. cond (is i || (or_parts stop.leans (any_leans stops) none).0 i) (record stop { begins = is i } ∷ rest) rest)
    whole false is = sym (λ i. cond (is i || (or_parts stop.leans (any_leans stops) none).0 i) (record stop { begins = is i } ∷ rest) rest)

    by : (b : Bool) → begins stop.dir ≡ b → (places : List ℕ) → RiseFrom n places → ((k : ℕ) → has places (n + k) ≡ begins_there begins (stop ∷ stops) k) → Rest → flat_map at places ≡ needed (begun_at begins (stop ∷ stops))
    by true is [] rise those further = absurd (let never : false ≡ true = those 0 ∙ is in cc)
    by true is (p ∷ ps) rise those further = elim (cases_eq p n) [
      | inl first ↦
          flat_map-cons at p ps
          ∙ ap (λ (front : List Stop). front ++ flat_map at ps) (ap at (first ∙ here) ∙ same 0)
          ∙ ap (λ (more : List Stop). record stop { begins = true } ∷ more)
          (further ps (subst (λ (m : ℕ). RiseFrom (m + 1) ps) first rise.1)
          (λ k.
          let apart : (p == n + suc k) ≡ false = ne_eqb p (n + suc k) (λ e. omega (arith, first, e)) in
          ap (has ps) (next k) ∙ ap (λ (b : Bool). b || has ps (n + suc k)) (sym apart) ∙ those (suc k)))
          ∙ whole true is
      | inr other ↦
          let above : n < p = omega (arith, rise.0, other) in
          absurd (let never : false ≡ true = sym (has-low p (p ∷ ps) n (omega arith, rise.1) above) ∙ ap (has (p ∷ ps)) here ∙ those 0 ∙ is in cc)
    ]
    by false is places rise those further =
        further places (behind-rise n places rise (ap (has places) here ∙ those 0 ∙ is)) (λ k. ap (has places) (next k) ∙ those (suc k))
        ∙ whole false is

pub picked : (begins : ℕ → Bool) (stops : List Stop) (places : List ℕ) → AreThose (begins_there begins stops) places → any_leans stops ≡ false → flat_map (begun_there stops) places ≡ needed (begun_at begins stops)
picked begins stops places are none = picked-from begins 0 (begun_there stops) stops places are.rise (λ k. ap (has places) (zero-plus k) ∙ are.all k) (λ k. ap (begun_there stops) (zero-plus k)) none
  where
    zero-plus : (k : ℕ) → 0 + k ≡ k
    zero-plus k = omega arith

-- stop by stop, where some lean
pub needed-more : (begins : ℕ → Bool) (stops : List Stop) (places : List ℕ) (i : ℕ) (stop : Stop) (chosen : Bool) (old new : List Stop) → AreThose (begins_there begins stops) places →
    i < length stops → stop ≡ get_or stops i stop → chosen ≡ has places i → new ≡ old ++ needed (record stop { begins = chosen } ∷ []) →
    needed (begun_at begins stops) ≡ old ++ needed (begun_at begins (drop i stops)) → needed (begun_at begins stops) ≡ new ++ needed (begun_at begins (drop (i + 1) stops))
needed-more begins stops places i stop chosen old new are inside is among added so_far =
    so_far
    ∙ ap (λ (left : List Stop). old ++ needed (begun_at begins left)) (drop-next stops i stop inside is)
    ∙ ap (λ (left : List Stop). old ++ left) (filter-append (λ stop. stop.begins || stop.leans) (begun begins stop ∷ []) (begun_at begins (drop (i + 1) stops)))
    ∙ sym (append_assoc old (needed (begun begins stop ∷ [])) (needed (begun_at begins (drop (i + 1) stops))))
    ∙ ap (λ (all : List Stop). all ++ needed (begun_at begins (drop (i + 1) stops)))
    (ap (λ (b : Bool). old ++ needed (record stop { begins = b } ∷ [])) (sym same) ∙ sym added)
  where
    same : chosen ≡ begins stop.dir
    same =
        among
        ∙ are.all i
        ∙ ap (λ (o : Option Stop). option_map_or (λ stop. begins stop.dir) o false) (slice_get-get_or stops i stop inside)
        ∙ ap (λ (found : Stop). begins found.dir) (sym is)

-- no stop is at a place outside
pub none-there : (stops : List Stop) (place : ℕ) (items : List Stop) → length stops ≤ place → items ≡ items ++ begun_there stops place
none-there stops place items outside =
    sym (ap (λ (o : Option Stop). items ++ option_map_or (λ stop. record stop { begins = true } ∷ []) o []) (slice_get_past stops place outside) ∙ append-nil items)

-- none but the first is the least that may be there
first-there : (first place : ℕ) (more : List ℕ) → RiseFrom place (first ∷ more) → (first == place) ≡ has (first ∷ more) place
first-there first place more rise =
    sym (ap (λ (b : Bool). first == place || b) (has-low (first + 1) more place rise.1 (omega (arith, rise.0))) ∙ or-false (first == place))
  where
    or-false : (b : Bool) → (b || false) ≡ b
    or-false true = refl
    or-false false = refl

pub first-got : (places : List ℕ) (first place : ℕ) → slice_get places 0 ≡ Some first → RiseFrom place places → (first == place) ≡ has places place
first-got [] first place is rise = absurd cc
first-got (p ∷ ps) first place is rise = let same : p ≡ first = cc in ap (λ (n : ℕ). n == place) (sym same) ∙ first-there p place ps rise

-- those behind the first are behind it
rest-taken : (places : List ℕ) → take (length places - 1) (drop 1 places) ≡ drop 1 places
rest-taken [] = refl
rest-taken (p ∷ ps) = take_all (length (p ∷ ps) - 1) ps (omega arith)

rest-same : (place : ℕ) (places : List ℕ) → RiseFrom place places → has places place ≡ true → (n : ℕ) → place < n → has (drop 1 places) n ≡ has places n
rest-same place [] rise there n less = refl
rest-same place (p ∷ ps) rise there n less = elim (cases_eq p place) [
  | inl first ↦ ap (λ (b : Bool). b || has ps n) (sym (ne_eqb p n (λ e. omega (arith, first, e, less))))
  | inr other ↦
      let above : place < p = omega (arith, rise.0, other) in
      absurd (let never : true ≡ false = sym there ∙ has-low p (p ∷ ps) place (omega arith, rise.1) above in cc)
]

pub taken-same : (place : ℕ) (places : List ℕ) → RiseFrom place places → has places place ≡ true → (n : ℕ) → place < n → has (take (length places - 1) (drop 1 places)) n ≡ has places n
taken-same place places rise there n less = ap (λ (ps : List ℕ). has ps n) (rest-taken places) ∙ rest-same place places rise there n less
