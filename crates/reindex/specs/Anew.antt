-- All links of a state, found from nothing.
use Rattle.std.specs.Prelude.{◌≡◌, ℕ, false, true, nat_lt, if◌then◌else◌, List, [], map, None}
use Rattle.std.specs.List.{AllByRecursion, list_all}
use Rattle.hac_model.specs.Tree.Events.{edited}
use Rattle.hac_model.specs.Tree.Links.{lenders}
use Rattle.hac_model.specs.declared.states.Body.{Body}
use Rattle.hac_model.specs.declared.states.Body.TheVariants.{File, Document}
use Rattle.hac_model.specs.declared.states.State.{State}
use Rattle.link_kinds.specs.Seen.{Known}
use Rattle.reeval.specs.Judging.{no_verdict, verdict_of}
use Rattle.reeval.specs.Settled.{verdict_in}
use Rattle.reeval.specs.Told.{are_same, is_on, told}
use Rattle.reeval.specs.declared.verdicts.Change.{Change}
use Rattle.reindex.specs.declared.unjudged.Unjudged.TheInside as unjudged

-- a file that was never indexed, in place of an item
abbrev pub never_indexed : Body → Body
never_indexed (File text dirty shown) = File text true None
never_indexed Document = File [] true None
never_indexed other = other

-- the state in which no item was ever indexed, so that no query judges any
abbrev pub unjudged_state : State → State
unjudged_state s = record s { entries = map (edited never_indexed) s.entries }

-- no directory was added to another
abbrev pub LendsNothing : State → Type 0
LendsNothing s = (dir : ℕ) → lenders s dir ≡ []

abbrev pub state_of_unjudged : unjudged.Inside → State
state_of_unjudged unjudged = unjudged_state unjudged.kept.now.state

abbrev pub IsUnlent : unjudged.Inside → Type 0
IsUnlent unjudged = LendsNothing unjudged.kept.now.state

-- the changes are on the item, each says something, and they lead from no links to what the links of the state say of it
pub record AreAllNews (s : State) (item : ℕ) (news : List Change) : Type 0 where
  pub own : list_all (is_on item) news ≡ true
  pub some : AllByRecursion (λ change. are_same change.verdict no_verdict ≡ false) news
  pub told : (dir : ℕ) → told news (λ _. no_verdict) dir ≡ verdict_of s item dir

-- the links are those of the items below a number, and no others
abbrev pub AreLinksBelow : State → Known → ℕ → Type 0
AreLinksBelow s known number =
    (item dir : ℕ) → verdict_in known item dir ≡ (if nat_lt item number then verdict_of s item dir else no_verdict)
