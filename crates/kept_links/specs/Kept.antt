-- A state with its links, and what is new in them once it is the next.
use Rattle.std.specs.Prelude.{◌≡◌, ◌||◌, ℕ, Bool, true, false, not, Option, unwrap_or, [], IfSome}
use Rattle.hac_model.specs.Tree.Events.{apply_all}
use Rattle.hac_model.specs.Tree.Links.{is_semantic}
use Rattle.hac_model.specs.Tree.Touched.{is_the}
use Rattle.hac_model.specs.Tree.Valid.{IsValid}
use Rattle.hac_model.specs.declared.events.Event.{Event}
use Rattle.hac_model.specs.declared.events.Event.TheVariants.{Mkdir, NewFile, Rewrite, Ln, Step}
use Rattle.hac_model.specs.declared.states.State.{State}
use Rattle.kept_state.specs.After.{next_state}
use Rattle.kept_state.specs.Seen.{Seen}
use Rattle.link_kinds.specs.Seen.{Known, has_sets}
use Rattle.scope_rules.specs.After.{Tells}
use Rattle.reeval.specs.Settled.{AreLinksOf, HasRoom}
use Rattle.reindex.specs.Past.{Lead}
use Rattle.reindex.specs.Ways.{IsWayOf}
use Rattle.reindex.specs.declared.ways.Way.{Way}
use Rattle.kept_links.specs.declared.news.News.{News}
use Rattle.kept_links.specs.declared.linked.LinkedState.TheInside.{Inside}
use Rattle.kept_links.specs.declared.outlook.Outlook.TheInside as outlook
use Rattle.kept_links.specs.declared.unlinked.UnlinkedState.TheInside as unlinked

abbrev pub seen_of : Inside → Seen
seen_of linked = linked.kept

-- what is new in the links behind an event, and in the way to all semantic directories, and the one directory that may become
-- semantic or plain
pub record AreNews (s t : State) (old : Way) (news : News) : Type 0 where
  pub valid : IsValid t
  pub leads : Lead s t news.delta.items
  pub way : IsWayOf t (unwrap_or news.way old)
  pub begun : (dir : ℕ) → is_the news.begun dir ≡ false → is_semantic s dir ≡ is_semantic t dir

-- no directory has sets but semantic ones, and this one
abbrev pub AreSetsFew : State → Option ℕ → Known → Type 0
AreSetsFew s begun known = (dir : ℕ) → has_sets known dir ≡ true → (is_semantic s dir || is_the begun dir) ≡ true

-- the event is a step
abbrev pub is_step : Event → Bool
is_step Step = true
is_step other = false

-- nothing is said of any item, and nothing is added to a directory, that wasn't before
abbrev pub is_still : Bool → Event → Bool
is_still lends (Mkdir dir name) = true
is_still lends (Rewrite file text) = true
is_still lends (Ln dir name target) = true
is_still lends (NewFile dir name text) = not lends
is_still lends other = false

-- the links are those of the state, and the changes, for which there is room, lead to those of the next. No directory has sets
-- but semantic ones, and the one that the events that are ready may make semantic or plain
pub record AreLinksKept (linked : Inside) : Type 0 where
  pub links : AreLinksOf linked.kept.state linked.found
  pub room : HasRoom linked.found linked.delta.items
  pub leads : Lead linked.kept.state (apply_all linked.kept.state linked.kept.ready) linked.delta.items
  pub way : IsWayOf linked.kept.state linked.way
  pub next : IsWayOf (apply_all linked.kept.state linked.kept.ready) (unwrap_or linked.next linked.way)
  pub sets : AreSetsFew linked.kept.state linked.begun linked.found
  pub begun : (dir : ℕ) → is_the linked.begun dir ≡ false → is_semantic linked.kept.state dir ≡ is_semantic (apply_all linked.kept.state linked.kept.ready) dir

abbrev pub state_of_outlook : outlook.Inside → State
state_of_outlook outlook = next_state outlook.kept.now

-- the scope tells the next state
abbrev pub IsOutlook : outlook.Inside → Type 0
IsOutlook outlook = Tells outlook.scope (next_state outlook.kept.now)

abbrev pub state_of_unlinked : unlinked.Inside → State
state_of_unlinked unlinked = unlinked.kept.state

-- nothing is prepared, and the way is that of the state, where it is known
pub record IsUnlinked (unlinked : unlinked.Inside) : Type 0 where
  pub ready : unlinked.kept.ready ≡ []
  pub way : IfSome unlinked.way (IsWayOf unlinked.kept.state)
