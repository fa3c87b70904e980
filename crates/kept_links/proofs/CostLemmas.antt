-- What is judged again after an event takes no more questions than the event may.
use Rattle.std.proofs.Common.{◌≡◌, ◌≤◌, ◌+◌, ◌*◌, ℕ, zero, suc, Bool, true, false, cond, List, [], ◌∷◌, ◌++◌, length, ap, arith, eq-eqb, inl, inr, refl, subst, sym, ◌∙◌}
use Rattle.std.specs.Prelude.{◌==◌, ◌&&◌, ◌||◌, if◌then◌else◌, filter, not, Option, Some, None, IsTrue, option_and_then}
use Rattle.std.specs.List.{range_with_len}
use Rattle.std.specs.Option.{option_map, option_map_or, option_or}
use Rattle.std.proofs.lemmas.Bool.{and_parts, eqb-true}
use Rattle.std.proofs.lemmas.Nat.{mul-le}
use Rattle.dep_graph.specs.Searches.{IsCone, ReachesAny}
use Rattle.hac_model.specs.Query.Queries.{terms}
use Rattle.hac_model.specs.Tree.Costs.{cost, costs, is_shifted, shift, terms_at, weight}
use Rattle.hac_model.specs.Tree.Depends.{Among, Leads, depends, named_in}
use Rattle.hac_model.specs.Tree.Events.{accepted, apply, is_possible}
use Rattle.hac_model.specs.Tree.Limits.{passed_limit}
use Rattle.hac_model.specs.Tree.Links.{is_item, items}
use Rattle.hac_model.specs.Tree.Touched.{begins, changed, dropped, is_the, tied, touched, touches}
use Rattle.hac_model.specs.Tree.Valid.{IsValid}
use Rattle.hac_model.specs.Tree.{entry_at, is_directory, is_directory_at, is_made_directory, permanent_in, query_in}
use Rattle.hac_model.specs.declared.events.Event.{Event}
use Rattle.hac_model.specs.declared.events.Event.TheVariants.{Mkdir, NewFile, Rewrite, Ln, Smkdir, Setq, Unq, Mark, Mv, Rm, Rmdir, Smount, Ssync, Sumount, Step, Cd}
use Rattle.hac_model.specs.declared.states.Entry.{Entry}
use Rattle.hac_model.specs.declared.states.State.{State}
use Rattle.hac_model.proofs.AcyclicLemmas.{apply-valid, edge-directory}
use Rattle.hac_model.proofs.ChangeLemmas.{entry_at-gone}
use Rattle.hac_model.proofs.TreeLemmas.{entry_at-low}
use Rattle.hac_model.proofs.ValidLemmas.{accepted-parts, rmdir-parts}
use Rattle.kept_state.specs.Seen.{Seen}
use Rattle.reeval.specs.Probes.{is_moved, terms_along, terms_asked, terms_planned, terms_settled}
use Rattle.reeval.specs.Routes.{dirs_of}
use Rattle.reeval.specs.Settled.{IsPlanned}
use Rattle.reeval.specs.declared.planning.Task.{Task}
use Rattle.reeval.specs.declared.settling.Stop.{Stop}
use Rattle.reeval.proofs.WeightLemmas.{along-most, ordered-once}
use Rattle.reindex.specs.Ways.{IsWayOf, stops_from, with_first}
use Rattle.reindex.specs.declared.ways.Way.{Way}
use Rattle.kept_links.specs.Items.{is_other, is_passed_over, others}
use Rattle.kept_links.specs.Tasks.{AreAlong, IsTaskOf, is_tie}
use Rattle.reindex.proofs.ProbeLemmas.{along-way, asked-from, moved-from}
use Rattle.reindex.proofs.WayLemmas.{route-from}

-- Numbers that pass a test.

module _ (p r : ℕ → Bool) (passes : (n : ℕ) → p n ≡ true → r n ≡ true) where
  -- those that pass one are no more than those that pass another which each of them passes
  pub fewer-pass : (ns : List ℕ) → length (filter p ns) ≤ length (filter r ns)
  fewer-pass [] = omega arith
  fewer-pass (n ∷ ns) = at (p n) (r n) refl refl (fewer-pass ns)
    where
      at : (c d : Bool) → p n ≡ c → r n ≡ d → length (filter p ns) ≤ length (filter r ns) → length (cond c (n ∷ filter p ns) (filter p ns)) ≤ length (cond d (n ∷ filter r ns) (filter r ns))
      at true true is here rest = omega (arith, rest)
      at true false is here rest = let never : false ≡ true = sym here ∙ passes n is in absurd cc
      at false true is here rest = omega (arith, rest)
      at false false is here rest = rest

  -- also where only some are tried
  pub fewer-pass_both : (q : ℕ → Bool) (ns : List ℕ) → length (filter p (filter q ns)) ≤ length (filter r ns)
  fewer-pass_both q [] = omega arith
  fewer-pass_both q (n ∷ ns) = by (q n) (fewer-pass_both q ns)
    where
      at : (c d : Bool) → p n ≡ c → r n ≡ d → length (filter p (filter q ns)) ≤ length (filter r ns) → length (cond c (n ∷ filter p (filter q ns)) (filter p (filter q ns))) ≤ length (cond d (n ∷ filter r ns) (filter r ns))
      at true true is here rest = omega (arith, rest)
      at true false is here rest = let never : false ≡ true = sym here ∙ passes n is in absurd cc
      at false true is here rest = omega (arith, rest)
      at false false is here rest = rest

      by : (b : Bool) → length (filter p (filter q ns)) ≤ length (filter r ns) → length (filter p (cond b (n ∷ filter q ns) (filter q ns))) ≤ length (cond (r n) (n ∷ filter r ns) (filter r ns))
      by true rest = at (p n) (r n) refl refl rest
      by false rest = elim (r n) as (λ d. length (filter p (filter q ns)) ≤ length (cond d (n ∷ filter r ns) (filter r ns))) [ true ↦ omega (arith, rest) | false ↦ rest ]

-- Sums of products.

-- items that are each judged anywhere are among those that an event touches or shifts
each-anywhere : (few all terms before after : ℕ) → few ≤ all → terms ≤ after → few * terms ≤ all * (before + after)
each-anywhere few all terms before after fewer most = mul-le few terms all (before + after) fewer (omega (arith, most))

both-most : (touched shifted before after extra one two : ℕ) → one ≤ touched * (before + after) → two ≤ shifted * (before + after) + extra → one + two ≤ (touched + shifted) * (before + after) + extra
both-most touched shifted before after extra one two first second = omega (arith, first, second)

settled-most : (others asked moved along shifted before after extra : ℕ) → others * asked ≤ extra → moved ≤ shifted → along ≤ after → others * asked + moved * along ≤ shifted * (before + after) + extra
settled-most others asked moved along shifted before after extra few fewer most = let each = each-anywhere moved shifted along before after fewer most in omega (arith, few, each)

none-settled : (others asked moved along : ℕ) → asked ≡ 0 → along ≡ 0 → others * asked + moved * along ≡ 0
none-settled others asked moved along no_asked no_along = (λ i. others * no_asked i + moved * no_along i) ∙ omega arith

-- Where judging begins.

is-one : (one : Option ℕ) (n : ℕ) → is_the one n ≡ true → one ≡ Some n
is-one None n is = absurd cc
is-one (Some k) n is = ap Some (sym (eqb-true n k is))

-- a directory to which another is added is no directory that the event changes
tied-marks : (s : State) (event : Event) (n : ℕ) → tied s event ≡ Some n → (is_tie event ≡ true) × (changed s event ≡ None)
tied-marks s (Mark mark) n is = (refl, refl)
tied-marks s (Mkdir dir name) n is = absurd cc
tied-marks s (NewFile dir name text) n is = absurd cc
tied-marks s (Rewrite file text) n is = absurd cc
tied-marks s (Ln dir name target) n is = absurd cc
tied-marks s (Smkdir dir name query told) n is = absurd cc
tied-marks s (Setq dir query told) n is = absurd cc
tied-marks s (Unq dir) n is = absurd cc
tied-marks s (Mv entry dir name) n is = absurd cc
tied-marks s (Rm entry) n is = absurd cc
tied-marks s (Rmdir dir) n is = absurd cc
tied-marks s (Smount dir name space documents told) n is = absurd cc
tied-marks s (Ssync mount documents told) n is = absurd cc
tied-marks s (Sumount mount) n is = absurd cc
tied-marks s Step n is = absurd cc
tied-marks s (Cd session dir) n is = absurd cc

-- and what an event removes it removes alone
dropped-removes : (event : Event) (n : ℕ) → dropped event ≡ Some n → event ≡ Rmdir n
dropped-removes (Rmdir dir) n is = ap (λ (one : Option ℕ). Rmdir (option_map_or (λ k. k) one 0)) is
dropped-removes (Mark mark) n is = absurd cc
dropped-removes (Mkdir dir name) n is = absurd cc
dropped-removes (NewFile dir name text) n is = absurd cc
dropped-removes (Rewrite file text) n is = absurd cc
dropped-removes (Ln dir name target) n is = absurd cc
dropped-removes (Smkdir dir name query told) n is = absurd cc
dropped-removes (Setq dir query told) n is = absurd cc
dropped-removes (Unq dir) n is = absurd cc
dropped-removes (Mv entry dir name) n is = absurd cc
dropped-removes (Rm entry) n is = absurd cc
dropped-removes (Smount dir name space documents told) n is = absurd cc
dropped-removes (Ssync mount documents told) n is = absurd cc
dropped-removes (Sumount mount) n is = absurd cc
dropped-removes Step n is = absurd cc
dropped-removes (Cd session dir) n is = absurd cc

-- The way from one directory on.

module _ (t : State) (after : IsValid t) (first : ℕ) (ties : Bool) (along : List Stop) (a : AreAlong t first ties along) where
  along-weight : terms_along t along ≤ weight t
  along-weight = subst (λ (stops : List Stop). terms_along t stops ≤ weight t) (sym a.are)
      (along-most t after (stops_from first ties (with_first first a.cone))
      (ordered-once (depends t) (dirs_of (stops_from first ties (with_first first a.cone))) (route-from (depends t) first a.cone a.reach ties).ordered))

  -- the query of the first alone is asked, and not where it ties
  asked-most : terms_asked t along ≤ (if ties then 0 else terms_at t first)
  asked-most = subst (λ (stops : List Stop). terms_asked t stops ≤ (if ties then 0 else terms_at t first)) (sym a.are) (asked-from t first ties (depends t) a.cone a.reach)

  asked-along : terms_asked t along ≤ terms_at t first
  asked-along = elim ties as (λ b. terms_asked t along ≤ (if b then 0 else terms_at t first) → terms_asked t along ≤ terms_at t first) [ true ↦ (λ none. omega (arith, none)) | false ↦ (λ most. most) ] asked-most

  moved-along : (s : State) (item : ℕ) → is_moved s t along item ≡ true → is_shifted s t item first ≡ true
  moved-along s item is = sym (ap (λ (stops : List Stop). is_moved s t stops item) a.are ∙ moved-from s t item first ties (depends t) a.cone a.reach) ∙ is

-- A directory that goes.

-- a walk over an edge or more ends with an edge
last-edge : (edges : ℕ → List ℕ) (k from to : ℕ) → Leads edges (suc k) from to → (dir : ℕ) × Among (edges dir) to
last-edge edges zero from to (next, edge, here) = (from, subst (λ (n : ℕ). Among (edges from) n) here edge)
last-edge edges (suc k) from to (next, edge, more) = last-edge edges k next to more

module _ (s : State) (dir : ℕ) (valid : IsValid s) (ok : IsTrue (accepted s (Rmdir dir))) where
  abbrev u : State
  u = apply s (Rmdir dir)

  gone : entry_at u.entries dir ≡ None
  gone = entry_at-gone dir s.entries

  made : is_made_directory s.entries dir ≡ true
  made = (rmdir-parts s dir (accepted-parts (is_possible s (Rmdir dir)) (passed_limit u) ok).0).0

  -- it isn't the root
  no-root : (dir == 0) ≡ false
  no-root = at (dir == 0) refl
    where
      at : (b : Bool) → (dir == 0) ≡ b → b ≡ false
      at true is =
          let never : false ≡ true =
          ap (λ (o : Option Entry). option_map_or is_directory (option_map (λ (e : Entry). e.body) o) false)
          (sym (ap (entry_at s.entries) (eqb-true dir 0 is) ∙ entry_at-low 0 s.entries s.next 0 valid.layout.numbers (omega arith))) ∙ made in absurd cc
      at false is = refl

  no-directory : is_directory_at u.entries dir ≡ false
  no-directory =
      ap (λ (b : Bool). b || is_made_directory u.entries dir) no-root
      ∙ ap (λ (o : Option Entry). option_map_or is_directory (option_map (λ (e : Entry). e.body) o) false) gone

  -- nothing depends on it
  no-edge : (d : ℕ) → ¬ Among (depends u d) dir
  no-edge d edge = let there = edge-directory u d dir (apply-valid s (Rmdir dir) valid ok) edge in let never : true ≡ false = sym there ∙ no-directory in absurd cc

  -- and it depends on nothing
  no-edges : depends u dir ≡ []
  no-edges = ap (λ (o : Option Entry). option_map_or (λ query. option_map_or (λ (e : Entry). e.parent) o 0 ∷ (named_in query ++ filter (is_directory_at u.entries) (option_map_or permanent_in (option_map (λ (e : Entry). e.body) o) []))) (option_and_then query_in (option_map (λ (e : Entry). e.body) o)) []) gone

  no-terms : terms_at u dir ≡ 0
  no-terms = ap (λ (o : Option Entry). option_map_or terms (option_and_then query_in (option_map (λ (e : Entry). e.body) o)) 0) gone

  no-cone : (cone : List ℕ) → IsCone (depends u) (dir ∷ []) cone → cone ≡ []
  no-cone [] h = refl
  no-cone (n ∷ ns) h = absurd (at (h.reached n (inl refl)).1)
    where
      over : (k to : ℕ) → dir ≡ to → Leads (depends u) k n to → ⊥
      over zero to same here = (h.reached n (inl refl)).0 (ap (depends u) (here ∙ sym same) ∙ no-edges)
      over (suc k) to same walk = let last = last-edge (depends u) k n to walk in no-edge last.0 (subst (λ (m : ℕ). Among (depends u last.0) m) (sym same) last.1)

      at : ReachesAny (depends u) n (dir ∷ []) → ⊥
      at (to, inl same, (k, walk)) = over k to same walk
      at (to, inr never, walk) = absurd never

  -- so the way from it has no terms
  gone-terms : (ties : Bool) (cone : List ℕ) → IsCone (depends u) (dir ∷ []) cone → terms_along u (stops_from dir ties (with_first dir cone)) ≡ 0
  gone-terms ties cone h = ap (λ (ns : List ℕ). terms_along u (stops_from dir ties (with_first dir ns))) (no-cone cone h) ∙ alone
    where
      alone : terms_along u (stops_from dir ties (with_first dir [])) ≡ 0
      alone = let sum : terms_along u (stops_from dir ties (with_first dir [])) ≡ 0 + terms_at u dir = refl in omega (arith, sum, no-terms)

-- What a task takes.

module _ (s : State) (event : Event) (valid : IsValid s) (ok : IsTrue (accepted s event)) where
  abbrev t : State
  t = apply s event

  after : IsValid t
  after = apply-valid s event valid ok

  abbrev extra : ℕ
  extra = option_map_or (λ dir. length (items t) * terms_at t dir) (changed s event) 0

  -- the items that it touches
  pub touched-most : (terms : ℕ) → terms ≤ weight t → length (touched s event) * terms ≤ cost s event
  touched-most terms most =
      let each = each-anywhere (length (touched s event)) (length (touched s event)) terms (weight s) (weight t) (omega arith) most in
      omega (arith, both-most (length (touched s event)) (length (shift s event)) (weight s) (weight t) extra (length (touched s event) * terms) 0 each (omega arith))

  -- and the others
  others-items : length (others s event) ≤ length (items t)
  others-items = fewer-pass (is_other s event) (is_item t)
      (λ n is. (and_parts (is_item t n) (not (touches s event n)) (and_parts (is_item t n && not (touches s event n)) (not (is_passed_over s event n)) is).0).0)
      (range_with_len 0 t.next)

  shift-most : (first : ℕ) (stops : List Stop) → option_or (changed s event) (tied s event) ≡ Some first → ((item : ℕ) → is_moved s t stops item ≡ true → is_shifted s t item first ≡ true) →
      length (filter (is_moved s t stops) (others s event)) ≤ length (shift s event)
  shift-most first stops here moved = fewer-pass_both (is_moved s t stops) (λ item. option_map_or (is_shifted s t item) (option_or (changed s event) (tied s event)) false)
      (λ item is. ap (λ (one : Option ℕ). option_map_or (is_shifted s t item) one false) here ∙ moved item is)
      (is_other s event) (range_with_len 0 t.next)

  -- where the query of the first directory is asked of each, and those that move there are judged anywhere, that is enough for
  -- all others, too
  others-most : (first : ℕ) (way : Way) (along : List Stop) → IsWayOf t way → terms_along t along ≤ weight t → option_or (changed s event) (tied s event) ≡ Some first →
      ((item : ℕ) → is_moved s t along item ≡ true → is_shifted s t item first ≡ true) → length (others s event) * terms_asked t along ≤ extra →
      length (touched s event) * terms_along t way.stops.items + terms_settled s t along (others s event) ≤ cost s event
  others-most first way along w most here moved few =
      both-most (length (touched s event)) (length (shift s event)) (weight s) (weight t) extra
      (length (touched s event) * terms_along t way.stops.items) (terms_settled s t along (others s event))
      (each-anywhere (length (touched s event)) (length (touched s event)) (terms_along t way.stops.items) (weight s) (weight t) (omega arith) (along-way t way w after))
      (settled-most (length (others s event)) (terms_asked t along) (length (filter (is_moved s t along) (others s event))) (terms_along t along) (length (shift s event)) (weight s) (weight t) extra
      few (shift-most first along here moved) most)

  -- an event that changes a directory, asks its query of all items at most
  from-changed : (first : ℕ) (ties : Bool) (way : Way) (along : List Stop) → IsWayOf t way → AreAlong t first ties along → changed s event ≡ Some first →
      length (touched s event) * terms_along t way.stops.items + terms_settled s t along (others s event) ≤ cost s event
  from-changed first ties way along w a here =
      others-most first way along w (along-weight t after first ties along a) (ap (λ (one : Option ℕ). option_or one (tied s event)) here)
      (moved-along t after first ties along a s)
      (omega (
        arith,
        mul-le (length (others s event)) (terms_asked t along) (length (items t)) (terms_at t first) others-items (asked-along t after first ties along a),
        ap (λ (one : Option ℕ). option_map_or (λ dir. length (items t) * terms_at t dir) one 0) here,
      ))

  -- one that adds a directory to another, or takes it from there, asks none of them
  from-tied : (first : ℕ) (way : Way) (along : List Stop) → IsWayOf t way → AreAlong t first true along → tied s event ≡ Some first → changed s event ≡ None →
      length (touched s event) * terms_along t way.stops.items + terms_settled s t along (others s event) ≤ cost s event
  from-tied first way along w a here plain =
      others-most first way along w (along-weight t after first true along a) ((λ i. option_or (plain i) (here i)))
      (moved-along t after first true along a s)
      none
    where
      none : length (others s event) * terms_asked t along ≤ extra
      none =
          let asked = asked-most t after first true along a in
          let each = mul-le (length (others s event)) (terms_asked t along) (length (others s event)) 0 (omega arith) asked in
          omega (arith, each)

  -- and one that removes a directory asks none of any
  from-gone : (way : Way) (along : List Stop) → IsWayOf t way → terms_asked t along ≡ 0 → terms_along t along ≡ 0 →
      length (touched s event) * terms_along t way.stops.items + terms_settled s t along (others s event) ≤ cost s event
  from-gone way along w no_asked no_along =
      omega (
        arith,
        touched-most (terms_along t way.stops.items) (along-way t way w after),
        none-settled (length (others s event)) (terms_asked t along) (length (filter (is_moved s t along) (others s event))) (terms_along t along) no_asked no_along,
      )

from-dropped : (s : State) (event : Event) (valid : IsValid s) (ok : IsTrue (accepted s event)) (first : ℕ) (ties : Bool) (way : Way) (along : List Stop) → event ≡ Rmdir first → IsWayOf (apply s event) way →
    AreAlong (apply s event) first ties along →
    length (touched s event) * terms_along (apply s event) way.stops.items + terms_settled s (apply s event) along (others s event) ≤ cost s event
from-dropped s (Rmdir dir) valid ok first ties way along is w a =
    let same : dir ≡ first = ap (λ (e : Event). option_map_or (λ k. k) (dropped e) 0) is in
    let here : AreAlong (apply s (Rmdir dir)) dir ties along = subst (λ (n : ℕ). AreAlong (apply s (Rmdir dir)) n ties along) (sym same) a in
    let asked = asked-along (apply s (Rmdir dir)) (apply-valid s (Rmdir dir) valid ok) dir ties along here in
    let none = no-terms s dir valid ok in
    from-gone s (Rmdir dir) valid ok way along w (omega (arith, asked, none))
    (ap (terms_along (apply s (Rmdir dir))) here.are ∙ gone-terms s dir valid ok ties here.cone here.reach)
from-dropped s (Mkdir parent name) valid ok first ties way along is w a = absurd cc
from-dropped s (Rewrite file text) valid ok first ties way along is w a = absurd cc
from-dropped s (Ln parent name target) valid ok first ties way along is w a = absurd cc
from-dropped s (NewFile parent name text) valid ok first ties way along is w a = absurd cc
from-dropped s (Smkdir parent name query told) valid ok first ties way along is w a = absurd cc
from-dropped s (Setq parent query told) valid ok first ties way along is w a = absurd cc
from-dropped s (Unq parent) valid ok first ties way along is w a = absurd cc
from-dropped s (Mark mark) valid ok first ties way along is w a = absurd cc
from-dropped s (Mv entry to name) valid ok first ties way along is w a = absurd cc
from-dropped s (Rm entry) valid ok first ties way along is w a = absurd cc
from-dropped s (Smount parent name space documents told) valid ok first ties way along is w a = absurd cc
from-dropped s (Ssync mount documents told) valid ok first ties way along is w a = absurd cc
from-dropped s (Sumount mount) valid ok first ties way along is w a = absurd cc
from-dropped s Step valid ok first ties way along is w a = absurd cc
from-dropped s (Cd session parent) valid ok first ties way along is w a = absurd cc

-- so the task of an event that begins at a directory takes no more
pub from-most : (s : State) (event : Event) (valid : IsValid s) (ok : IsTrue (accepted s event)) (first : ℕ) → ((dir : ℕ) → begins s event dir ≡ (dir == first)) → (way : Way) (along : List Stop) →
    IsWayOf (apply s event) way → AreAlong (apply s event) first (is_tie event) along →
    length (touched s event) * terms_along (apply s event) way.stops.items + terms_settled s (apply s event) along (others s event) ≤ cost s event
from-most s event valid ok first begun way along w a = at (is_the (changed s event) first) (is_the (tied s event) first) (is_the (dropped event) first) refl refl refl (begun first ∙ eq-eqb first first refl)
  where
    at : (b c d : Bool) → is_the (changed s event) first ≡ b → is_the (tied s event) first ≡ c → is_the (dropped event) first ≡ d → (b || c || d) ≡ true →
        length (touched s event) * terms_along (apply s event) way.stops.items + terms_settled s (apply s event) along (others s event) ≤ cost s event
    at true c d changes ties drops any = from-changed s event valid ok first (is_tie event) way along w a (is-one (changed s event) first changes)
    at false true d changes ties drops any =
        let here = is-one (tied s event) first ties in
        let both = tied-marks s event first here in
        from-tied s event valid ok first way along w (subst (λ (b : Bool). AreAlong (apply s event) first b along) both.0 a) here both.1
    at false false true changes ties drops any =
        from-dropped s event valid ok first (is_tie event) way along (dropped-removes event first (is-one (dropped event) first drops)) w a
    at false false false changes ties drops any = absurd cc

-- What is asked, once it is known for what.

-- a task is carried out for no more than the event may take
pub planned-cost : (s u : State) (event : Event) (task : Task) (old new : ℕ) → u ≡ apply s event → IsTaskOf s event task → (IsPlanned s u task → new ≤ old + terms_planned s u task) → new ≤ old + cost s event
planned-cost s u event task old new same is plan = omega (
  arith,
  plan (subst (λ (t : State). IsPlanned s t task) (sym same) is.planned),
  subst (λ (t : State). terms_planned s t task ≤ cost s event) (sym same) is.most,
)

-- so are the items that it touches judged
pub touched-cost : (s u : State) (event : Event) → IsValid s → IsTrue (accepted s event) → (judged : List ℕ) (old new : ℕ) → u ≡ apply s event → judged ≡ touched s event → new ≤ old + length judged * weight u → new ≤ old + cost s event
touched-cost s u event valid ok judged old new same are most =
    let here : length judged * weight u ≡ length (touched s event) * weight (apply s event) = λ i. length (are i) * weight (same i) in
    omega (arith, most, here, touched-most s event valid ok (weight (apply s event)) (omega arith))

-- what is asked for the events that a state is ready for is what one of them costs, if it is ready for that alone
pub prepared-cost : (inside kept seen : Seen) (event : Event) (old new : ℕ) → kept ≡ record { state = inside.state; ready = event ∷ [] } → inside ≡ seen → new ≤ old + costs kept.state kept.ready → new ≤ old + cost seen.state event
prepared-cost inside kept seen event old new ready view most =
    let here : costs kept.state kept.ready ≡ cost inside.state event + 0 = ap (λ (k : Seen). costs k.state k.ready) ready in
    let same : cost inside.state event ≡ cost seen.state event = ap (λ (k : Seen). cost k.state event) view in
    omega (arith, most, here, same)
