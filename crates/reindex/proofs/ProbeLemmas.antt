-- How many questions it takes to judge items on the ways, and how many steps may take.
use Rattle.std.proofs.Common.{◌≡◌, ℕ, zero, suc, ◌+◌, ◌*◌, ◌<◌, ◌≤◌, Bool, true, false, cond, List, [], ◌∷◌, length, ap, arith, eq-eqb, inl, inr, refl, subst, sym, ◌∙◌}
use Rattle.std.proofs.lemmas.Bool.{eqb-true}
use Rattle.std.proofs.lemmas.List.{drop_more}
use Rattle.std.proofs.lemmas.List.Sums.{length-filter, sum_by-cons}
use Rattle.std.proofs.lemmas.Nat.{mul-le}
use Rattle.std.specs.Prelude.{◌==◌, ◌&&◌, ◌||◌, drop, filter, if◌then◌else◌, not, replicate, sum_by, IfOk, Option, Some, None, Result, Ok, Err, Vec, is_some}
use Rattle.std.specs.List.{range_with_len}
use Rattle.std.specs.Option.{option_map, option_map_or}
use Rattle.std.specs.declared.alloc.Global.{Global}
use Rattle.dep_graph.specs.Searches.{EachOnce, IsCone}
use Rattle.file_tree.specs.Answers.{numbers_of}
use Rattle.file_tree.proofs.LiveLemmas.{numbers-rise}
use Rattle.hac_model.specs.Laws.{AllHappen}
use Rattle.hac_model.specs.Query.Queries.{terms}
use Rattle.hac_model.specs.Tree.Costs.{cost, costs, is_shifted, opening, shift, terms_at, weight}
use Rattle.hac_model.specs.Tree.Depends.{Among, depends}
use Rattle.hac_model.specs.Tree.Events.{accepted, apply, next_dirty}
use Rattle.hac_model.specs.Tree.Links.{has, is_item, items}
use Rattle.hac_model.specs.Tree.Touched.{touched, touches}
use Rattle.hac_model.specs.Tree.Valid.{IsLayout, IsValid, NumbersRise, RiseFrom}
use Rattle.hac_model.specs.Tree.{is_dirty, is_linkable}
use Rattle.hac_model.specs.declared.events.Event.TheVariants.{Step}
use Rattle.hac_model.specs.declared.memory.Memory.{Memory}
use Rattle.hac_model.specs.declared.states.Entry.{Entry}
use Rattle.hac_model.specs.declared.states.State.{State}
use Rattle.hac_model.proofs.AcyclicLemmas.{apply-valid}
use Rattle.hac_model.proofs.RangeLemmas.{range-in}
use Rattle.hac_model.proofs.TreeLemmas.{entry_at-next, rise-below}
use Rattle.reeval.specs.Probes.{is_moved, terms_along, terms_asked, terms_begun}
use Rattle.reeval.specs.declared.settling.Stop.{Stop}
use Rattle.reeval.proofs.ProbeLemmas.{along-cons, more-items}
use Rattle.reeval.proofs.WeightLemmas.{along-most, ordered-once, sum-once, sum-only}
use Rattle.reindex.specs.Steps.{indexed_through}
use Rattle.reindex.specs.Ways.{IsWayOf, begun, begun_at, needed, stops_from, with_first}
use Rattle.reindex.specs.declared.ways.Way.{Way}
use Rattle.reindex.proofs.IndexedLemmas.{indexed-none, query-indexed, step-indexed}
use Rattle.reindex.proofs.StepLemmas.{step-some}
use Rattle.reindex.proofs.WayLemmas.{dirs-way, first-there, once-from}

-- Ways.

-- the way to all semantic directories has no more terms than all queries
pub along-way : (t : State) (way : Way) → IsWayOf t way → IsValid t → terms_along t way.stops.items ≤ weight t
along-way t way w valid = along-most t valid way.stops.items (subst EachOnce (sym (dirs-way t way w)) (ordered-once (depends t) w.order w.ordered))

-- stops that are left out have none
along-kept : (t : State) (p : Stop → Bool) (stops : List Stop) → terms_along t (filter p stops) ≤ terms_along t stops
along-kept t p [] = omega arith
along-kept t p (stop ∷ stops) = by (along-kept t p stops) (p stop)
  where
    by : terms_along t (filter p stops) ≤ terms_along t stops → (b : Bool) → terms_along t (if b then stop ∷ filter p stops else filter p stops) ≤ terms_along t (stop ∷ stops)
    by rest true = let more = along-cons t stop (filter p stops) in let all = along-cons t stop stops in omega (arith, rest, more, all)
    by rest false = let all = along-cons t stop stops in omega (arith, rest, all)

-- it matters not where judging begins
along-begun : (t : State) (begins : ℕ → Bool) (stops : List Stop) → terms_along t (begun_at begins stops) ≡ terms_along t stops
along-begun t begins [] = refl
along-begun t begins (stop ∷ stops) =
    along-cons t (begun begins stop) (begun_at begins stops)
    ∙ ap (λ (rest : ℕ). terms_at t stop.dir + rest) (along-begun t begins stops)
    ∙ sym (along-cons t stop stops)

-- so neither have the stops of that way at which an item may be judged
pub along-needed : (t : State) (way : Way) → IsWayOf t way → IsValid t → (begins : ℕ → Bool) → terms_along t (needed (begun_at begins way.stops.items)) ≤ weight t
along-needed t way w valid begins =
    let fewer = along-kept t (λ stop. stop.begins || stop.leans) (begun_at begins way.stops.items) in
    let same = along-begun t begins way.stops.items in
    let most = along-way t way w valid in
    omega (arith, fewer, same, most)

-- From one directory on.

-- what is asked at a directory, where judging begins at the first
abbrev asked_at : State → ℕ → Bool → ℕ → ℕ
asked_at t first ties dir = if dir == first && not (ties && dir == first) then terms_at t dir else 0

asked-dirs : (t : State) (first : ℕ) (ties : Bool) (dirs : List ℕ) → terms_asked t (stops_from first ties dirs) ≡ sum_by (asked_at t first ties) dirs
asked-dirs t first ties [] = refl
asked-dirs t first ties (dir ∷ dirs) =
    sum_by-cons (terms_begun t) (record { dir = dir; begins = dir == first; ties = ties && dir == first; leans = true }) (stops_from first ties dirs)
    ∙ ap (λ (rest : ℕ). asked_at t first ties dir + rest) (asked-dirs t first ties dirs)
    ∙ sym (sum_by-cons (asked_at t first ties) dir dirs)

-- judging begins by the query of the first alone, and by none if that ties
pub asked-from : (t : State) (first : ℕ) (ties : Bool) (edges : ℕ → List ℕ) (cone : List ℕ) → IsCone edges (first ∷ []) cone →
    terms_asked t (stops_from first ties (with_first first cone)) ≤ (if ties then 0 else terms_at t first)
asked-from t first ties edges cone h =
    let all = asked-dirs t first ties (with_first first cone) in
    let most = sum-only (asked_at t first ties) first (λ k other. ap (λ (b : Bool). if b && not (ties && b) then terms_at t k else 0) other) (with_first first cone) (once-from edges first cone h) in
    let own : asked_at t first ties first ≡ (if ties then 0 else terms_at t first) = ap (λ (b : Bool). if b && not (ties && b) then terms_at t first else 0) (eq-eqb first first refl) ∙ by ties in
    omega (arith, all, most, own)
  where
    by : (b : Bool) → (if not (b && true) then terms_at t first else 0) ≡ (if b then 0 else terms_at t first)
    by true = refl
    by false = refl

moved-dirs : (s t : State) (item first : ℕ) (ties : Bool) (dirs : List ℕ) → is_moved s t (stops_from first ties dirs) item ≡ (has dirs first && is_shifted s t item first)
moved-dirs s t item first ties [] = refl
moved-dirs s t item first ties (dir ∷ dirs) =
    ap (λ (b : Bool). (dir == first && is_shifted s t item dir) || b) (moved-dirs s t item first ties dirs)
    ∙ (elim (dir == first) as (λ b. (dir == first) ≡ b → ((b && is_shifted s t item dir) || (has dirs first && is_shifted s t item first)) ≡ ((b || has dirs first) && is_shifted s t item first)) [
      | true ↦ (λ same. ap (λ (n : ℕ). is_shifted s t item n || (has dirs first && is_shifted s t item first)) (eqb-true dir first same) ∙ absorbed (is_shifted s t item first) (has dirs first))
      | false ↦ (λ _. refl)
    ] refl)
  where
    absorbed : (a b : Bool) → (a || (b && a)) ≡ a
    absorbed true b = refl
    absorbed false true = refl
    absorbed false false = refl

-- an item moves there if the first provides it in just one of both states
pub moved-from : (s t : State) (item first : ℕ) (ties : Bool) (edges : ℕ → List ℕ) (cone : List ℕ) → IsCone edges (first ∷ []) cone →
    is_moved s t (stops_from first ties (with_first first cone)) item ≡ is_shifted s t item first
moved-from s t item first ties edges cone h =
    moved-dirs s t item first ties (with_first first cone)
    ∙ ap (λ (b : Bool). b && is_shifted s t item first) (first-there edges first cone h)

-- Item by item.

-- the questions for one item more
pub more-at : (items : List ℕ) (i item : ℕ) (most old before after : ℕ) → i < length items → before + length (drop i items) * most ≤ old + length items * most → after ≤ before + most →
    after + length (drop (i + 1) items) * most ≤ old + length items * most
more-at items i item most old before after less had more =
    more-items (drop (i + 1) items) items item most old before after (subst (λ (left : List ℕ). before + length left * most ≤ old + length items * most) (drop_more items i item less) had) more

-- of a number it takes some if it is that of an item
pub more-numbers : (p : ℕ → Bool) (n : ℕ) (left ns : List ℕ) (most room before after : ℕ) → ns ≡ n ∷ left → before + length (filter p ns) * most ≤ room → after ≤ before + (if p n then most else 0) →
    after + length (filter p left) * most ≤ room
more-numbers p n left ns most room before after is had more =
    by (p n) refl (subst (λ (numbers : List ℕ). before + length (filter p numbers) * most ≤ room) is had) more
  where
    by : (b : Bool) → p n ≡ b → before + length (cond b (n ∷ filter p left) (filter p left)) * most ≤ room → after ≤ before + cond b most 0 → after + length (filter p left) * most ≤ room
    by true is had more = let one : suc (length (filter p left)) * most ≡ most + length (filter p left) * most = omega arith in omega (arith, had, more, one)
    by false is had more = omega (arith, had, more)

rise-apart : (bound n : ℕ) (ns : List ℕ) → RiseFrom bound ns → n < bound → ¬ Among ns n
rise-apart bound n [] rise low = λ never. never
rise-apart bound n (k ∷ ns) rise low = λ is. elim is as (λ _. ⊥) [
  | inl same ↦ (let up = rise.0 in absurd (omega (arith, up, same, low)))
  | inr more ↦ rise-apart (k + 1) n ns rise.1 (let up = rise.0 in omega (arith, up, low)) more
]

-- numbers that rise come once
rise-once : (bound : ℕ) (ns : List ℕ) → RiseFrom bound ns → EachOnce ns
rise-once bound [] rise = tt
rise-once bound (n ∷ ns) rise = (rise-apart (n + 1) n ns rise.1 (omega arith), rise-once (n + 1) ns rise.1)

-- no more entries are items than there are items
pub items-most : (s : State) → IsValid s → length (filter (is_item s) (numbers_of s.entries)) ≤ length (items s)
items-most s valid =
    let few = sum-once one s.next none (numbers_of s.entries) (rise-once 0 (numbers_of s.entries) (numbers-rise 0 0 s.entries s.next valid.layout.numbers (omega arith))) in
    let left = length-filter (is_item s) (numbers_of s.entries) in
    let right = length-filter (is_item s) (range_with_len 0 s.next) in
    omega (arith, few, left, right)
  where
    one : ℕ → ℕ
    one n = cond {A = ℕ} (is_item s n) 1 0

    none : (n : ℕ) → s.next ≤ n → one n ≡ 0
    none n high = ap (λ (o : Option Entry). cond {A = ℕ} (option_map_or is_linkable (option_map (λ (e : Entry). e.body) o) false) 1 0) (entry_at-next 0 s.entries s.next n valid.layout.numbers high)

-- so all links of a state take no more than it takes to open it
pub opened : (s : State) → IsValid s → (ns : List ℕ) → ns ≡ numbers_of s.entries → (old : ℕ) → old + length (filter (is_item s) ns) * weight s ≤ old + opening s
opened s valid ns is old =
    let few = mul-le (length (filter (is_item s) (numbers_of s.entries))) (weight s) (length (items s)) (weight s) (items-most s valid) (omega arith) in
    subst (λ (numbers : List ℕ). old + length (filter (is_item s) numbers) * weight s ≤ old + opening s) (sym is) (omega (arith, few))

-- Steps.

-- indexing changes no query
pub terms-indexed : (last : ℕ) (s : State) → terms_at (indexed_through last s) ≡ terms_at s
terms-indexed last s = λ i dir. option_map_or terms (query-indexed last s dir i) 0

pub weight-indexed : (last : ℕ) (s : State) → weight (indexed_through last s) ≡ weight s
weight-indexed last s = ap (λ (f : ℕ → ℕ). sum_by f (range_with_len 0 s.next)) (terms-indexed last s)

pub along-indexed : (last : ℕ) (s : State) (stops : List Stop) → terms_along (indexed_through last s) stops ≡ terms_along s stops
along-indexed last s stops = ap (λ (f : ℕ → ℕ). sum_by (λ (stop : Stop). f stop.dir) stops) (terms-indexed last s)

-- stops that have few terms have few then
pub indexed-most : (s : State) (last : ℕ) (stops : List Stop) (result : Result (Vec Stop Global) Memory) → terms_along s stops ≤ weight s → IfOk result (λ found. found.items ≡ stops) →
    IfOk result (λ found. terms_along (indexed_through last s) found.items ≤ weight s)
indexed-most s last stops (Ok found) most are =
    let same : terms_along (indexed_through last s) found.items ≡ terms_along s stops = along-indexed last s found.items ∙ ap (terms_along s) are in
    omega (arith, most, same)
indexed-most s last stops (Err memory) most are = tt

-- the file that is indexed next is below the next number
next-below : (above : ℕ) (es : List Entry) (next file : ℕ) → NumbersRise above es next → next_dirty es ≡ Some file → file < next
next-below above [] next file rise found = absurd cc
next-below above (e ∷ es) next file rise found = by (is_dirty e.body) (next-below e.number es next file rise.1) found
  where
    by : (b : Bool) → (next_dirty es ≡ Some file → file < next) → cond b (Some e.number) (next_dirty es) ≡ Some file → file < next
    by true more found = let own : e.number ≡ file = cc in let low = rise-below e.number es next rise.1 in omega (arith, own, low)
    by false more found = more found

-- a step indexes it alone
step-is : (s : State) (file : ℕ) → IsLayout s → next_dirty s.entries ≡ Some file → apply s Step ≡ indexed_through file s
step-is s file h found =
    sym (ap (λ (t : State). apply t Step) (indexed-none s h))
    ∙ (step-indexed 0 file s h (ap (λ (t : State). next_dirty t.entries) (indexed-none s h) ∙ found)).1

-- some number is kept
some-kept : (p : ℕ → Bool) (ns : List ℕ) (n : ℕ) → Among ns n → p n ≡ true → 1 ≤ length (filter p ns)
some-kept p [] n is passes = absurd is
some-kept p (k ∷ ns) n is passes = by (p k) refl is (some-kept p ns n)
  where
    by : (b : Bool) → p k ≡ b → Among (k ∷ ns) n → (Among ns n → p n ≡ true → 1 ≤ length (filter p ns)) → 1 ≤ length (cond b (k ∷ filter p ns) (filter p ns))
    by true here is more = omega arith
    by false out (inl same) more = let never : false ≡ true = sym out ∙ ap p same ∙ passes in absurd cc
    by false out (inr behind) more = more behind passes

-- so a step touches an item
step-touches : (s : State) (file : ℕ) → IsLayout s → next_dirty s.entries ≡ Some file → 1 ≤ length (touched s Step)
step-touches s file h found =
    some-kept (touches s Step) (range_with_len 0 (apply s Step).next) file
    (range-in 0 (apply s Step).next file (omega arith) (let low = next-below 0 s.entries s.next file h.numbers found in let same : (apply s Step).next ≡ s.next = ap (λ (t : State). t.next) (step-is s file h found) in omega (arith, low, same)))
    (ap (λ (o : Option ℕ). option_map_or (λ (n : ℕ). file == n) o false) found ∙ eq-eqb file file refl)

-- and may be asked for all that queries ask, which stay what they are
step-cost : (s : State) → IsValid s → accepted s Step ≡ true → (weight s ≤ cost s Step) × (weight (apply s Step) ≡ weight s)
step-cost s valid accepts = by (next_dirty s.entries) refl (step-some s accepts)
  where
    times : (m a b : ℕ) → 1 ≤ m → a ≤ m * (a + b)
    times zero a b some = absurd (omega (arith, some))
    times (suc m) a b some = let all : suc m * (a + b) ≡ (a + b) + m * (a + b) = omega arith in omega (arith, all)

    by : (o : Option ℕ) → next_dirty s.entries ≡ o → is_some o ≡ true → (weight s ≤ cost s Step) × (weight (apply s Step) ≡ weight s)
    by None none some = absurd cc
    by (Some file) found some =
        let one = step-touches s file valid.layout found in
        let all = times (length (touched s Step) + length (shift s Step)) (weight s) (weight (apply s Step)) (omega (arith, one)) in
        (omega (arith, all), ap weight (step-is s file valid.layout found) ∙ weight-indexed file s)

-- so as many steps may take as much for each
pub steps-cost : (count : ℕ) (s : State) → IsValid s → AllHappen s (replicate count Step) → count * weight s ≤ costs s (replicate count Step)
steps-cost zero s valid happen = omega arith
steps-cost (suc count) s valid happen =
    let first = step-cost s valid happen.0 in
    let rest = steps-cost count (apply s Step) (apply-valid s Step valid happen.0) happen.1 in
    let same : count * weight (apply s Step) ≡ count * weight s = ap (λ (w : ℕ). count * w) first.1 in
    let all : suc count * weight s ≡ weight s + count * weight s = omega arith in
    let own = first.0 in
    omega (arith, own, rest, same, all)
