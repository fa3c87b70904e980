-- What is judged again after an event is enough.
use Rattle.std.proofs.Common.{◌≡◌, ◌+◌, ◌*◌, ℕ, zero, Bool, true, false, List, [], ◌∷◌, length, ap, arith, eq-eqb, inl, inr, refl, subst, sym, ◌∙◌}
use Rattle.std.proofs.lemmas.Bool.{eqb-true, and_parts}
use Rattle.std.specs.Prelude.{◌==◌, ◌≢◌, ◌||◌, if◌then◌else◌, not, map, IfOk, IfSome, Result, Vec, Ok, Err, Option, Some, None, IsTrue, is_some, option_and_then}
use Rattle.std.specs.List.{list_any}
use Rattle.std.specs.Option.{option_map, option_map_or}
use Rattle.dep_graph.specs.Searches.{EachOnce, IsCone, IsOrdered}
use Rattle.hac_model.specs.Query.Formula.{Formula}
use Rattle.hac_model.specs.Tree.Depends.{Among, depends}
use Rattle.hac_model.specs.Tree.Events.{accepted, apply}
use Rattle.hac_model.specs.Tree.Links.{has, is_item, is_judged, is_semantic, lenders}
use Rattle.hac_model.specs.Tree.Touched.{begins, is_the, tied, touched, touches}
use Rattle.hac_model.specs.Tree.Valid.{IsValid}
use Rattle.hac_model.specs.Tree.{entry_at, is_document, is_linkable, shown_text}
use Rattle.hac_model.specs.declared.events.Event.{Event}
use Rattle.hac_model.specs.declared.events.Event.TheVariants.{Mkdir, NewFile, Rewrite, Ln, Smkdir, Setq, Unq, Mark, Mv, Rm, Rmdir, Smount, Ssync, Sumount, Step, Cd}
use Rattle.hac_model.specs.declared.states.Body.TheVariants.{File}
use Rattle.hac_model.specs.declared.states.Entry.{Entry}
use Rattle.hac_model.specs.declared.marks.Mark.{Mark as MarkData}
use Rattle.hac_model.specs.declared.memory.Memory.{Memory}
use Rattle.std.specs.declared.alloc.Global.{Global}
use Rattle.hac_model.specs.declared.states.State.{State}
use Rattle.hac_model.proofs.AcyclicLemmas.{apply-valid}
use Rattle.hac_model.proofs.ChangeLemmas.{entry_at-new}
use Rattle.hac_model.proofs.TreeLemmas.{entry_at-next}
use Rattle.query_index.specs.Seen.{IsIndexOf}
use Rattle.reeval.specs.Judging.{is_linked, no_verdict, verdict_of}
use Rattle.reeval.proofs.JudgeLemmas.{links-judged}
use Rattle.reeval.specs.Probes.{terms_along, terms_planned, terms_settled}
use Rattle.reeval.specs.Routes.{Covers}
use Rattle.reeval.specs.declared.planning.Task.{Task}
use Rattle.reeval.specs.declared.settling.Stop.{Stop}
use Rattle.reeval.specs.declared.verdicts.Change.{Change}
use Rattle.reeval.proofs.EventsLeave.{event-owes, events-leave}
use Rattle.reeval.proofs.PlanLemmas.{begins-more, no-item, unmoved, unjudged-said}
use Rattle.kept_links.specs.Items.{is_passed_over, others}
use Rattle.kept_links.specs.Kept.{is_still}
use Rattle.kept_links.specs.Tasks.{AreAlong, IsTaskOf, IsWayFrom, begins_touched, is_tie}
use Rattle.reindex.specs.Past.{Lead}
use Rattle.reindex.specs.Steps.{AreSettled}
use Rattle.reindex.specs.Ways.{IsWayOver, IsWayOf, begun_at, leans, needed, with_first, stops_at, stops_everywhere}
use Rattle.reindex.specs.declared.ways.Way.{Way}
use Rattle.reeval.proofs.TieLemmas.{ties-leave}
use Rattle.kept_links.proofs.CostLemmas.{from-most, touched-most}
use Rattle.kept_links.proofs.EdgeLemmas.{edges-still, lenders-still}
use Rattle.kept_links.proofs.ItemLemmas.{in-neither, others-once, others-untouched, touched-apart, touched-once, touched-touches}
use Rattle.kept_links.proofs.NewDirLemmas.{passed-over}
use Rattle.kept_links.proofs.SemanticLemmas.{asks-still, semantic-still}
use Rattle.kept_links.proofs.MarkLemmas.{mark-begins, mark-leaves}
use Rattle.reindex.proofs.SettledLemmas.{leads-if}
use Rattle.reindex.proofs.ProbeLemmas.{along-needed}
use Rattle.reindex.proofs.NeededLemmas.{covers-needed, needed-everywhere}
use Rattle.reindex.proofs.WayLemmas.{begun-way, covers-at, covers-everywhere, covers-from, depends-semantic, leans-well, lends-none, semantic-depends, way-over}
use Rattle.hac_model.proofs.AmongLemmas.{has-among}

-- an order over the same edges
ordered-same : (edges other : ℕ → List ℕ) → ((n : ℕ) → edges n ≡ other n) → (ns : List ℕ) → IsOrdered edges ns → IsOrdered other ns
ordered-same edges other same [] h = tt
ordered-same edges other same (n ∷ ns) h = (h.0, (λ next edge. h.1 next (subst (λ (ks : List ℕ). Among ks next) (sym (same n)) edge)), ordered-same edges other same ns h.2)

-- numbers with one in front have it, and the others too
with-here : (first : ℕ) (ns : List ℕ) → Among (with_first first ns) first
with-here first ns = elim (has ns first) as (λ b. has ns first ≡ b → Among (if b then ns else first ∷ ns) first) [
  | true ↦ (λ is. has-among ns first is)
  | false ↦ (λ _. inl refl)
] refl

with-rest : (first : ℕ) (ns : List ℕ) (n : ℕ) → Among ns n → Among (with_first first ns) n
with-rest first ns n is = elim (has ns first) as (λ b. Among (if b then ns else first ∷ ns) n) [ true ↦ is | false ↦ inr is ]

pub way-from : (s t : State) (first : ℕ) (known dirs order : List ℕ) (result : Result Way Memory) → dirs ≡ with_first first known → ((dir : ℕ) → depends s dir ≢ [] → Among known dir) → IsCone (depends t) dirs order →
    IfOk result (λ way. IsWayOver t order way) → IfOk result (λ way. IsWayFrom s t first way)
way-from s t first known dirs order (Ok way) are all cone over = record {
  dirs = dirs;
  order = order;
  here = subst (λ (ns : List ℕ). Among ns first) (sym are) (with-here first known);
  known = λ dir some. subst (λ (ns : List ℕ). Among ns dir) (sym are) (with-rest first known dir (all dir some));
  cone = cone;
  over = over;
}
way-from s t first known dirs order (Err memory) are all cone over = tt

-- an item that is passed over is linked where it was
passed-still : (s : State) (event : Event) → IsValid s → IsTrue (accepted s event) → (item : ℕ) → is_passed_over s event item ≡ true → (dir : ℕ) → verdict_of s item dir ≡ verdict_of (apply s event) item dir
passed-still s (Smkdir parent name query told) valid ok item over dir = passed-over s parent name query told valid ok item (is-not (is_judged (apply s (Smkdir parent name query told)) item) over) dir
  where
    is-not : (b : Bool) → not b ≡ true → b ≡ false
    is-not true h = sym h
    is-not false h = refl
passed-still s (Mkdir parent name) valid ok item over dir = absurd cc
passed-still s (NewFile parent name text) valid ok item over dir = absurd cc
passed-still s (Rewrite file text) valid ok item over dir = absurd cc
passed-still s (Ln parent name target) valid ok item over dir = absurd cc
passed-still s (Setq parent query told) valid ok item over dir = absurd cc
passed-still s (Unq parent) valid ok item over dir = absurd cc
passed-still s (Mark mark) valid ok item over dir = absurd cc
passed-still s (Mv entry to name) valid ok item over dir = absurd cc
passed-still s (Rm entry) valid ok item over dir = absurd cc
passed-still s (Rmdir parent) valid ok item over dir = absurd cc
passed-still s (Smount parent name space documents told) valid ok item over dir = absurd cc
passed-still s (Ssync mount documents told) valid ok item over dir = absurd cc
passed-still s (Sumount mount) valid ok item over dir = absurd cc
passed-still s Step valid ok item over dir = absurd cc
passed-still s (Cd session parent) valid ok item over dir = absurd cc

-- a mark of a directory begins where it ties
tie-begins : (s : State) (event : Event) (first : ℕ) → is_tie event ≡ true → begins s event first ≡ true → is_the (tied s event) first ≡ true
tie-begins s (Mark mark) first ties is = elim (is_the (tied s (Mark mark)) first) as (λ b. (false || b || false) ≡ true → b ≡ true) [ true ↦ (λ _. refl) | false ↦ (λ never. never) ] is
tie-begins s (Rmdir parent) first ties is = absurd cc
tie-begins s (Mkdir parent name) first ties is = absurd cc
tie-begins s (Rewrite file text) first ties is = absurd cc
tie-begins s (Ln parent name target) first ties is = absurd cc
tie-begins s (NewFile parent name text) first ties is = absurd cc
tie-begins s (Smkdir parent name query told) first ties is = absurd cc
tie-begins s (Setq parent query told) first ties is = absurd cc
tie-begins s (Unq parent) first ties is = absurd cc
tie-begins s (Mv entry to name) first ties is = absurd cc
tie-begins s (Rm entry) first ties is = absurd cc
tie-begins s (Smount parent name space documents told) first ties is = absurd cc
tie-begins s (Ssync mount documents told) first ties is = absurd cc
tie-begins s (Sumount mount) first ties is = absurd cc
tie-begins s Step first ties is = absurd cc
tie-begins s (Cd session parent) first ties is = absurd cc

-- The stops of an item that is touched.

pub only-if : (event : Event) (mark : MarkData) (stops all : List Stop) (result : Result (Vec Stop Global) Memory) → event ≡ Mark mark → stops ≡ all →
    IfOk result (λ only. only.items ≡ needed (begun_at (λ other. other == mark.dir) stops)) → IfOk result (λ only. only.items ≡ needed (begun_at (begins_touched event) all))
only-if event mark stops all (Ok only) is same each =
    each ∙ ap (λ (stops : List Stop). needed (begun_at (λ other. other == mark.dir) stops)) same ∙ sym (ap (λ (e : Event). needed (begun_at (begins_touched e) all)) is)
only-if event mark stops all (Err memory) is same each = tt

-- where it isn't a mark, judging begins at each, as it does on the way
pub begun-others : (s : State) (event : Event) (way : Way) → IsWayOf s way → ((mark : MarkData) → event ≡ Mark mark → ⊥) → needed (begun_at (begins_touched event) way.stops.items) ≡ way.stops.items
begun-others s (Mark mark) way w other = absurd (other mark refl)
begun-others s event way w other = ap needed (begun-way s way w (λ dir. true)) ∙ needed-everywhere (leans s) w.order ∙ sym w.over.stops

-- one that an event touches which is no mark is judged at each directory
covers-all : (s : State) (event : Event) → IsValid s → IsTrue (accepted s event) → (way : Way) (w : IsWayOf (apply s event) way) (item : ℕ) → touches s event item ≡ true → Covers s (apply s event) (stops_everywhere (apply s event) w.order) item
covers-all s event valid ok way w item is =
    covers-everywhere s (apply s event) (leans (apply s event)) w.order item (links-judged s valid item) (apply-valid s event valid ok) w.ordered w.all
    (leans-well (apply s event) (apply s event) way w (λ dir. refl)) (λ dir plain. semantic-still s valid event ok item is dir ∙ plain)

covers-begun : (s : State) (event : Event) → IsValid s → IsTrue (accepted s event) → (way : Way) (w : IsWayOf (apply s event) way) (item : ℕ) → touches s event item ≡ true → Covers s (apply s event) (stops_at (begins_touched event) (leans (apply s event)) w.order) item
covers-begun s (Mark mark) valid ok way w item is =
    let here = and_parts (item == mark.item) (is_item s item) is in
    subst (λ (n : ℕ). Covers s (apply s (Mark mark)) (stops_at (λ dir. dir == mark.dir) (leans (apply s (Mark mark))) w.order) n) (sym (eqb-true item mark.item here.0))
    (covers-at s (apply s (Mark mark)) (λ dir. dir == mark.dir) (leans (apply s (Mark mark))) w.order mark.item (links-judged s valid mark.item) (apply-valid s (Mark mark) valid ok) w.ordered w.all
    (leans-well (apply s (Mark mark)) (apply s (Mark mark)) way w (λ dir. refl)) (mark-begins s mark valid ok) (mark-leaves s mark valid ok))
covers-begun s (Smkdir parent name query told) valid ok way w item is = covers-all s (Smkdir parent name query told) valid ok way w item is
covers-begun s (Mkdir parent name) valid ok way w item is = covers-all s (Mkdir parent name) valid ok way w item is
covers-begun s (NewFile parent name text) valid ok way w item is = covers-all s (NewFile parent name text) valid ok way w item is
covers-begun s (Rewrite file text) valid ok way w item is = covers-all s (Rewrite file text) valid ok way w item is
covers-begun s (Ln parent name target) valid ok way w item is = covers-all s (Ln parent name target) valid ok way w item is
covers-begun s (Setq parent query told) valid ok way w item is = covers-all s (Setq parent query told) valid ok way w item is
covers-begun s (Unq parent) valid ok way w item is = covers-all s (Unq parent) valid ok way w item is
covers-begun s (Mv entry to name) valid ok way w item is = covers-all s (Mv entry to name) valid ok way w item is
covers-begun s (Rm entry) valid ok way w item is = covers-all s (Rm entry) valid ok way w item is
covers-begun s (Rmdir parent) valid ok way w item is = covers-all s (Rmdir parent) valid ok way w item is
covers-begun s (Smount parent name space documents told) valid ok way w item is = covers-all s (Smount parent name space documents told) valid ok way w item is
covers-begun s (Ssync mount documents told) valid ok way w item is = covers-all s (Ssync mount documents told) valid ok way w item is
covers-begun s (Sumount mount) valid ok way w item is = covers-all s (Sumount mount) valid ok way w item is
covers-begun s Step valid ok way w item is = covers-all s Step valid ok way w item is
covers-begun s (Cd session parent) valid ok way w item is = covers-all s (Cd session parent) valid ok way w item is

module _ (s : State) (event : Event) (valid : IsValid s) (ok : IsTrue (accepted s event)) where
  abbrev t : State
  t = apply s event

  pub next-valid : IsValid t
  next-valid = apply-valid s event valid ok

  -- an item that is touched, on the way to all semantic directories
  covers-touched : (way : Way) → IsWayOf t way → (item : ℕ) → touches s event item ≡ true → Covers s t way.stops.items item
  covers-touched way w item is =
      subst (λ (stops : List Stop). Covers s t stops item) (sym w.over.stops) (covers-all s event valid ok way w item is)

  -- and any other one
  covers-other : (first : ℕ) (stops : List Stop) → ((dir : ℕ) → begins s event dir ≡ (dir == first)) → AreAlong t first (is_tie event) stops → (item : ℕ) → touches s event item ≡ false → Covers s t stops item
  covers-other first stops begun way item untouched =
      subst (λ (stops : List Stop). Covers s t stops item) (sym way.are)
      (covers-from s t first (is_tie event) way.cone (begins s event) valid next-valid way.reach begun item (events-leave s event valid ok item untouched)
      (λ ties. ties-leave s event valid ok item untouched first (tie-begins s event first ties (begun first ∙ eq-eqb first first refl))))

  -- what is in neither list is passed over, or is no item
  neither : (item : ℕ) → ¬ Among (touched s event) item → ¬ Among (others s event) item → (dir : ℕ) → verdict_of s item dir ≡ verdict_of t item dir
  neither item out away dir = elim (is_passed_over s event item) as (λ b. is_passed_over s event item ≡ b → verdict_of s item dir ≡ verdict_of t item dir) [
    | true ↦ (λ over. passed-still s event valid ok item over dir)
    | false ↦ (λ seen.
        let none = in-neither s event item valid.layout ok (λ untouched. event-owes s event valid ok item untouched) seen out away in
        no-item s valid item dir none.0 ∙ sym (no-item t next-valid item dir none.1))
  ] refl

  -- nothing else is judged where judging begins nowhere
  pub stays : ((dir : ℕ) → begins s event dir ≡ false) → (item : ℕ) → ¬ Among (touched s event) item → (dir : ℕ) → verdict_of s item dir ≡ verdict_of t item dir
  stays never item out dir = elim (touches s event item) as (λ b. touches s event item ≡ b → verdict_of s item dir ≡ verdict_of t item dir) [
    | true ↦ (λ is. neither item out (λ inside. let not_it = (others-untouched s event item inside).1 in absurd cc) dir)
    | false ↦ (λ untouched. unmoved s t item (record {
      before = links-judged s valid item;
      after = next-valid;
      route = record { ordered = tt; closed = λ d e edge inside. inside; alone = tt };
      alike = begins-more s t item (begins s event) (λ d. false) (λ d _. never d) (events-leave s event valid ok item untouched);
      tied = λ d is. absurd cc;
    }) dir)
  ] refl

  -- where the items that are touched are settled, nothing else is new
  pub touched-leads : ((dir : ℕ) → begins s event dir ≡ false) → (items : List ℕ) (result : Result (Vec Change Global) Memory) → items ≡ touched s event → IfOk result (λ delta. AreSettled s t items delta.items) →
      IfOk result (λ delta. Lead s t delta.items)
  touched-leads never items result are settled =
      leads-if s t items result settled (λ item out dir. stays never item (λ inside. out (subst (λ (ns : List ℕ). Among ns item) (sym are) inside)) dir)

  pub task-from : (task : Task) (first : ℕ) (way : Way) → task.touched.items ≡ touched s event → IsWayOf t way → task.everywhere.items ≡ way.stops.items → ((dir : ℕ) → begins s event dir ≡ (dir == first)) →
      task.others.items ≡ others s event → AreAlong t first (is_tie event) task.along.items → IsTaskOf s event task
  task-from task first way is w everywhere begun are along = record {
    touched = subst EachOnce (sym is) (touched-once s event);
    others = subst EachOnce (sym are) (others-once s event);
    apart = λ item inside within. touched-apart s event item (in-touched item inside) (in-others item within);
    planned = record {
      touched = λ item inside. subst (λ (stops : List Stop). Covers s t stops item) (sym everywhere) (covers-touched way w item (touched-touches s event item (in-touched item inside)));
      others = λ item within. covers-other first task.along.items begun along item (others-untouched s event item (in-others item within)).1;
      rest = λ item out away dir. neither item (λ inside. out (subst (λ (items : List ℕ). Among items item) (sym is) inside)) (λ within. away (subst (λ (items : List ℕ). Among items item) (sym are) within)) dir;
    };
    most = omega (arith, same, from-most s event valid ok first begun way task.along.items w along);
  }
    where
      same : terms_planned s t task ≡ length (touched s event) * terms_along t way.stops.items + terms_settled s t task.along.items (others s event)
      same = λ i. length (is i) * terms_along t (everywhere i) + terms_settled s t task.along.items (are i)

      in-touched : (item : ℕ) → Among task.touched.items item → Among (touched s event) item
      in-touched item inside = subst (λ (items : List ℕ). Among items item) is inside

      in-others : (item : ℕ) → Among task.others.items item → Among (others s event) item
      in-others item within = subst (λ (items : List ℕ). Among items item) are within

  pub task-touched : (task : Task) (way : Way) → task.touched.items ≡ touched s event → (w : IsWayOf t way) → task.everywhere.items ≡ needed (begun_at (begins_touched event) way.stops.items) → ((dir : ℕ) → begins s event dir ≡ false) → task.others.items ≡ [] → IsTaskOf s event task
  task-touched task way is w where_touched never none = record {
    touched = subst EachOnce (sym is) (touched-once s event);
    others = subst EachOnce (sym none) tt;
    apart = λ item inside within. nobody item within;
    planned = record {
      touched = λ item inside. subst (λ (stops : List Stop). Covers s t stops item) (sym (where_touched ∙ ap needed (begun-way t way w (begins_touched event))))
          (covers-needed s t (stops_at (begins_touched event) (leans t) w.order) item
          (covers-begun s event valid ok way w item (touched-touches s event item (subst (λ (items : List ℕ). Among items item) is inside))));
      others = λ item within. absurd (nobody item within);
      rest = λ item out away dir. stays never item (λ inside. out (subst (λ (items : List ℕ). Among items item) (sym is) inside)) dir;
    };
    most = omega (arith, same, touched-most s event valid ok (terms_along t (needed (begun_at (begins_touched event) way.stops.items))) (along-needed t way w next-valid (begins_touched event)));
  }
    where
      same : terms_planned s t task ≡ length (touched s event) * terms_along t (needed (begun_at (begins_touched event) way.stops.items)) + 0
      same = (λ i. length (is i) * terms_along t (where_touched i) + terms_settled s t task.along.items (none i)) ∙ omega arith

      nobody : (item : ℕ) → ¬ Among task.others.items item
      nobody item within = subst (λ (items : List ℕ). Among items item) none within

  -- The way to all semantic directories.

  -- is as it was where judging begins nowhere
  pub way-still : (way : Way) → ((dir : ℕ) → begins s event dir ≡ false) → IsWayOf s way → IsWayOf t way
  way-still way never w = record {
    order = w.order;
    ordered = ordered-same (depends s) (depends t) (edges-still s valid event ok never) w.order w.ordered;
    all = λ dir some. w.all dir (λ none. some (sym (edges-still s valid event ok never dir) ∙ none));
    only = λ dir inside none. w.only dir inside (edges-still s valid event ok never dir ∙ none);
    over = record {
      stops = w.over.stops ∙ (λ i. stops_at (λ dir. true) (λ dir. leans-still dir i) w.order);
      index = subst (λ (queries : List (Option (Formula ℕ))). IsIndexOf queries way.index) (λ i. map (λ dir. asks-still s valid event ok dir (never dir) i) w.order) w.over.index;
      lends = w.over.lends ∙ (λ i. list_any (λ dir. not (length (lenders-still s valid event ok never dir i) == 0)) w.order);
      leaning = w.over.leaning;
    };
  }
    where
      asked-still : (dir : ℕ) → is_semantic s dir ≡ is_semantic t dir
      asked-still dir = ap (λ (o : Option (Formula ℕ)). is_some o) (asks-still s valid event ok dir (never dir))

      leans-still : (dir : ℕ) → leans s dir ≡ leans t dir
      leans-still dir = λ i. list_any (λ d. asked-still d i) (edges-still s valid event ok never dir i)

  -- or was found from where it begins
  pub way-found : (way : Way) (first : ℕ) → ((dir : ℕ) → begins s event dir ≡ (dir == first)) → IsWayFrom s t first way → IsWayOf t way
  way-found way first begun w = way-over t w.order way w.over w.cone.ordered there (λ dir inside. (w.cone.reached dir inside).0)
    where
      among-dirs : (dir : ℕ) → is_semantic t dir ≡ true → Among w.dirs dir
      among-dirs dir is = elim (dir == first) as (λ b. (dir == first) ≡ b → Among w.dirs dir) [
        | true ↦ (λ here. subst (λ (n : ℕ). Among w.dirs n) (sym (eqb-true dir first here)) w.here)
        | false ↦ (λ other. w.known dir (semantic-depends s dir (ap (λ (o : Option (Formula ℕ)). is_some o) (asks-still s valid event ok dir (begun dir ∙ other)) ∙ is)))
      ] refl

      there : (dir : ℕ) → depends t dir ≢ [] → Among w.order dir
      there dir some = w.cone.all dir some (dir, among-dirs dir (depends-semantic t dir some), (zero, refl))

-- a way that is known stays known where judging begins nowhere
pub way-left : (s : State) (event : Event) → IsValid s → IsTrue (accepted s event) → ((dir : ℕ) → begins s event dir ≡ false) → (known : Option Way) → IfSome known (IsWayOf s) → IfSome known (IsWayOf (apply s event))
way-left s event valid ok never None w = tt
way-left s event valid ok never (Some way) w = way-still s event valid ok way never w

-- What says nothing new.

-- an event that touches no item, and begins nowhere
module _ (s : State) (event : Event) (valid : IsValid s) (ok : IsTrue (accepted s event)) (never : (dir : ℕ) → begins s event dir ≡ false) where
  pub nothing-new : (item : ℕ) → touches s event item ≡ false → (dir : ℕ) → verdict_of s item dir ≡ verdict_of (apply s event) item dir
  nothing-new item untouched dir = stays s event valid ok never item (λ inside. let is = touched-touches s event item inside in absurd cc) dir

-- a file that comes is judged by no query
module _ (s : State) (dir : ℕ) (name text : List ℕ) (valid : IsValid s) (ok : IsTrue (accepted s (NewFile dir name text))) (none : (d : ℕ) → lenders (apply s (NewFile dir name text)) d ≡ []) where
  abbrev u : State
  u = apply s (NewFile dir name text)

  come : entry_at u.entries s.next ≡ Some (record { number = s.next; parent = dir; name = name; body = File text true None })
  come = entry_at-new s.entries (record { number = s.next; parent = dir; name = name; body = File text true None }) (entry_at-next 0 s.entries s.next s.next valid.layout.numbers (omega arith))

  unjudged : is_judged u s.next ≡ false
  unjudged = ap (λ (o : Option Entry). option_map_or is_document (option_map (λ (e : Entry). e.body) o) false || is_some (option_and_then shown_text (option_map (λ (e : Entry). e.body) o))) come

  new-said : (d : ℕ) → verdict_of u s.next d ≡ no_verdict
  new-said d =
      links-judged u (next-valid s (NewFile dir name text) valid ok) s.next d
      ∙ unjudged-said u (is_linked (verdict_of u s.next)) s.next d unjudged (none d)

  none-before : is_item s s.next ≡ false
  none-before = ap (λ (o : Option Entry). option_map_or is_linkable (option_map (λ (e : Entry). e.body) o) false) (entry_at-next 0 s.entries s.next s.next valid.layout.numbers (omega arith))

  pub new-still : (item d : ℕ) → verdict_of s item d ≡ verdict_of u item d
  new-still item d = elim (item == s.next) as (λ b. (item == s.next) ≡ b → verdict_of s item d ≡ verdict_of u item d) [
    | true ↦ (λ here. subst (λ (n : ℕ). verdict_of s n d ≡ verdict_of u n d) (sym (eqb-true item s.next here)) (no-item s valid s.next d none-before ∙ sym (new-said d)))
    | false ↦ (λ other. nothing-new s (NewFile dir name text) valid ok (λ d. refl) item other d)
  ] refl

-- nothing is new behind an event that is still
pub still-leads : (s : State) (event : Event) (way : Way) → IsValid s → IsTrue (accepted s event) → IsWayOf s way → is_still way.lends event ≡ true → (item dir : ℕ) → verdict_of s item dir ≡ verdict_of (apply s event) item dir
still-leads s (Mkdir parent name) way valid ok w still item dir = nothing-new s (Mkdir parent name) valid ok (λ d. refl) item refl dir
still-leads s (Rewrite file text) way valid ok w still item dir = nothing-new s (Rewrite file text) valid ok (λ d. refl) item refl dir
still-leads s (Ln parent name target) way valid ok w still item dir = nothing-new s (Ln parent name target) valid ok (λ d. refl) item refl dir
still-leads s (NewFile parent name text) way valid ok w still item dir =
    new-still s parent name text valid ok (λ d. sym (lenders-still s valid (NewFile parent name text) ok (λ n. refl) d) ∙ lends-none s way w (is-not way.lends still) d) item dir
  where
    is-not : (b : Bool) → not b ≡ true → b ≡ false
    is-not true h = sym h
    is-not false h = refl
still-leads s (Rm entry) way valid ok w still item dir = absurd cc
still-leads s (Mv entry to name) way valid ok w still item dir = absurd cc
still-leads s (Mark mark) way valid ok w still item dir = absurd cc
still-leads s Step way valid ok w still item dir = absurd cc
still-leads s (Smount parent name space documents told) way valid ok w still item dir = absurd cc
still-leads s (Ssync mount documents told) way valid ok w still item dir = absurd cc
still-leads s (Sumount mount) way valid ok w still item dir = absurd cc
still-leads s (Smkdir parent name query told) way valid ok w still item dir = absurd cc
still-leads s (Setq parent query told) way valid ok w still item dir = absurd cc
still-leads s (Unq parent) way valid ok w still item dir = absurd cc
still-leads s (Rmdir parent) way valid ok w still item dir = absurd cc
still-leads s (Cd session parent) way valid ok w still item dir = absurd cc

-- and it begins nowhere
pub still-never : (lends : Bool) (s : State) (event : Event) → is_still lends event ≡ true → (dir : ℕ) → begins s event dir ≡ false
still-never lends s (Mkdir parent name) still dir = refl
still-never lends s (Rewrite file text) still dir = refl
still-never lends s (Ln parent name target) still dir = refl
still-never lends s (NewFile parent name text) still dir = refl
still-never lends s (Rm entry) still dir = absurd cc
still-never lends s (Mv entry to name) still dir = absurd cc
still-never lends s (Mark mark) still dir = absurd cc
still-never lends s Step still dir = absurd cc
still-never lends s (Smount parent name space documents told) still dir = absurd cc
still-never lends s (Ssync mount documents told) still dir = absurd cc
still-never lends s (Sumount mount) still dir = absurd cc
still-never lends s (Smkdir parent name query told) still dir = absurd cc
still-never lends s (Setq parent query told) still dir = absurd cc
still-never lends s (Unq parent) still dir = absurd cc
still-never lends s (Rmdir parent) still dir = absurd cc
still-never lends s (Cd session parent) still dir = absurd cc
