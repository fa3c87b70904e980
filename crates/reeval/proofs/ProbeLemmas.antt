-- How many questions judging takes, stop by stop and item by item.
use Rattle.std.proofs.Common.{◌≡◌, ℕ, zero, suc, Bool, true, false, List, [], ◌∷◌, ◌+◌, ◌*◌, ◌≤◌, refl, ap, sym, subst, ◌∙◌, arith, inl, inr, suc-mul}
use Rattle.std.specs.Prelude.{◌&&◌, ◌||◌, not, if◌then◌else◌, drop, filter, length}
use Rattle.std.specs.List.{list_any}
use Rattle.std.proofs.lemmas.List.Sums.{sum_by-cons}
use Rattle.hac_model.specs.Tree.Costs.{is_shifted, terms_at}
use Rattle.hac_model.specs.Tree.Depends.{Among}
use Rattle.hac_model.specs.Tree.Links.{has}
use Rattle.hac_model.specs.declared.states.State.{State}
use Rattle.reeval.specs.Probes.{is_moved, terms_along, terms_asked, terms_begun, terms_settled}
use Rattle.reeval.specs.declared.settling.Stop.{Stop}
use Rattle.reeval.proofs.SettleLemmas.{none-moved, none-there}

-- a stop more

pub along-cons : (t : State) (stop : Stop) (rest : List Stop) → terms_along t (stop ∷ rest) ≡ terms_at t stop.dir + terms_along t rest
along-cons t stop rest = sum_by-cons (λ (stop : Stop). terms_at t stop.dir) stop rest

pub asked-cons : (t : State) (stop : Stop) (rest : List Stop) → terms_asked t (stop ∷ rest) ≡ terms_begun t stop + terms_asked t rest
asked-cons t stop rest = sum_by-cons (terms_begun t) stop rest

if-most : (b : Bool) (x : ℕ) → (if b then x else 0) ≤ x
if-most true x = omega arith
if-most false x = omega arith

-- where its query was asked, or was not, the rest can still be asked
pub more-along : (t : State) (stop : Stop) (rest stops : List Stop) (old before after : ℕ) (asks : Bool)
    → before + terms_along t (stop ∷ rest) ≤ old + terms_along t stops → after ≤ before + (if asks then terms_at t stop.dir else 0) → after + terms_along t rest ≤ old + terms_along t stops
more-along t stop rest stops old before after asks had more =
    let first = along-cons t stop rest in let most = if-most asks (terms_at t stop.dir) in omega (arith, had, more, first, most)

-- where nothing moved, no stop leans on anything that did
pub leans-never : (leans : Bool) (deps : List ℕ) → (leans && list_any (has []) deps) ≡ false
leans-never true deps = none-moved deps
leans-never false deps = refl

-- where nothing moved, the query is asked that judging begins by, or none
pub more-asked : (t : State) (stop : Stop) (deps moved : List ℕ) (rest stops : List Stop) (old before after : ℕ) (asks : Bool)
    → stop.begins ≡ true → moved ≡ [] → asks ≡ (not stop.ties || (stop.leans && list_any (has moved) deps))
    → before + terms_asked t (stop ∷ rest) ≤ old + terms_asked t stops → after ≤ before + (if asks then terms_at t stop.dir else 0) → after + terms_asked t rest ≤ old + terms_asked t stops
more-asked t stop deps moved rest stops old before after asks begins none is had more =
    let first = asked-cons t stop rest in
    let same : (if asks then terms_at t stop.dir else 0) ≡ terms_begun t stop =
    ap (λ (b : Bool). if b then terms_at t stop.dir else 0) (is ∙ ap (λ (b : Bool). not stop.ties || b) (ap (λ (ns : List ℕ). stop.leans && list_any (has ns) deps) none ∙ leans-never stop.leans deps) ∙ alone stop.ties)
    ∙ ap (λ (b : Bool). if b && not stop.ties then terms_at t stop.dir else 0) (sym begins) in
    omega (arith, had, more, first, same)
  where
    alone : (ties : Bool) → (not ties || false) ≡ not ties
    alone true = refl
    alone false = refl

pub most-asked : (t : State) (stop : Stop) (deps moved : List ℕ) (rest stops : List Stop) (old before after : ℕ) (asks : Bool)
    → stop.begins ≡ true → moved ≡ [] → asks ≡ (not stop.ties || (stop.leans && list_any (has moved) deps))
    → before + terms_asked t (stop ∷ rest) ≤ old + terms_asked t stops → after ≤ before + (if asks then terms_at t stop.dir else 0) → after ≤ old + terms_asked t stops
most-asked t stop deps moved rest stops old before after asks begins none is had more =
    let left = more-asked t stop deps moved rest stops old before after asks begins none is had more in omega (arith, left)

-- where a stop is passed, nothing is asked
pub same-along : (t : State) (stop : Stop) (rest stops : List Stop) (old before : ℕ) → before + terms_along t (stop ∷ rest) ≤ old + terms_along t stops → before + terms_along t rest ≤ old + terms_along t stops
same-along t stop rest stops old before had = let first = along-cons t stop rest in omega (arith, had, first)

pub same-asked : (t : State) (stop : Stop) (rest stops : List Stop) (old before : ℕ) → before + terms_asked t (stop ∷ rest) ≤ old + terms_asked t stops → before + terms_asked t rest ≤ old + terms_asked t stops
same-asked t stop rest stops old before had = let first = asked-cons t stop rest in omega (arith, had, first)

-- an item that doesn't move isn't shifted where judging begins
pub even-there : (s t : State) (stops : List Stop) (item i : ℕ) (stop : Stop) (rest : List Stop) → drop i stops ≡ stop ∷ rest → is_moved s t stops item ≡ false → stop.begins ≡ true → is_shifted s t item stop.dir ≡ false
even-there s t stops item i stop rest is still begins =
    ap (λ (b : Bool). b && is_shifted s t item stop.dir) (sym begins) ∙ none-there (λ stop. stop.begins && is_shifted s t item stop.dir) stops i stop rest is still

-- an item more

pub among-dropped : (items : List ℕ) (i item : ℕ) (rest : List ℕ) → drop i items ≡ item ∷ rest → Among items item
among-dropped items zero item rest is = subst (λ (all : List ℕ). Among all item) (sym is) (inl refl)
among-dropped [] (suc i) item rest is = absurd cc
among-dropped (first ∷ items) (suc i) item rest is = inr (among-dropped items i item rest is)

-- judged anywhere
pub more-items : (left items : List ℕ) (item along old before after : ℕ) → before + length (item ∷ left) * along ≤ old + length items * along → after ≤ before + along → after + length left * along ≤ old + length items * along
more-items left items item along old before after had more = let one = suc-mul (length left) along in omega (arith, had, more, one)

-- or only where judging begins, if it doesn't move
pub more-settled : (s t : State) (stops : List Stop) (left items : List ℕ) (item old before after : ℕ)
    → before + terms_settled s t stops (item ∷ left) ≤ old + terms_settled s t stops items
    → after ≤ before + terms_along t stops → (is_moved s t stops item ≡ false → after ≤ before + terms_asked t stops) → after + terms_settled s t stops left ≤ old + terms_settled s t stops items
more-settled s t stops left items item old before after had most few =
    by (is_moved s t stops item) refl
  where
    asked : ℕ
    asked = terms_asked t stops

    along : ℕ
    along = terms_along t stops

    moved : ℕ
    moved = length (filter (is_moved s t stops) left)

    by : (b : Bool) → is_moved s t stops item ≡ b → after + terms_settled s t stops left ≤ old + terms_settled s t stops items
    by true is =
        let count : length (filter (is_moved s t stops) (item ∷ left)) ≡ suc moved = ap (λ (b : Bool). length (if b then item ∷ filter (is_moved s t stops) left else filter (is_moved s t stops) left)) is in
        let all : terms_settled s t stops (item ∷ left) ≡ suc (length left) * asked + suc moved * along = ap (λ (n : ℕ). suc (length left) * asked + n * along) count in
        let one = suc-mul (length left) asked in
        let other = suc-mul moved along in
        omega (arith, had, most, all, one, other)
    by false is =
        let count : length (filter (is_moved s t stops) (item ∷ left)) ≡ moved = ap (λ (b : Bool). length (if b then item ∷ filter (is_moved s t stops) left else filter (is_moved s t stops) left)) is in
        let all : terms_settled s t stops (item ∷ left) ≡ suc (length left) * asked + moved * along = ap (λ (n : ℕ). suc (length left) * asked + n * along) count in
        let one = suc-mul (length left) asked in
        let still = few is in
        omega (arith, had, still, all, one)

pub most-settled : (s t : State) (stops : List Stop) (left items : List ℕ) (item old before after : ℕ)
    → before + terms_settled s t stops (item ∷ left) ≤ old + terms_settled s t stops items
    → after ≤ before + terms_along t stops → (is_moved s t stops item ≡ false → after ≤ before + terms_asked t stops) → after ≤ old + terms_settled s t stops items
most-settled s t stops left items item old before after had most few =
    let more = more-settled s t stops left items item old before after had most few in omega (arith, more)
