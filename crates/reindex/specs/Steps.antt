-- Steps that are taken in a batch: the state behind them, and what they want judged again.
use Rattle.std.specs.Prelude.{◌≡◌, ◌≤◌, ℕ, Bool, true, false, if◌then◌else◌, nat_le, length, List, [], map, replicate, Option, None, Some}
use Rattle.std.specs.Option.{option_map_or}
use Rattle.dep_graph.specs.Searches.{EachOnce}
use Rattle.file_tree.specs.Answers.{is_dirty_at}
use Rattle.hac_model.specs.Query.Formula.{Formula}
use Rattle.hac_model.specs.Query.Words.{rising_words, words}
use Rattle.hac_model.specs.Tree.Depends.{Among}
use Rattle.hac_model.specs.Tree.Events.{apply_all, edited, indexed}
use Rattle.hac_model.specs.Tree.Links.{query_at}
use Rattle.hac_model.specs.declared.events.Event.TheVariants.{Step}
use Rattle.hac_model.specs.declared.states.Body.{Body}
use Rattle.hac_model.specs.declared.states.Entry.{Entry}
use Rattle.hac_model.specs.declared.states.State.{State}
use Rattle.query_index.specs.Asking.{asks_for_change, may_hold}
use Rattle.reeval.specs.Judging.{verdict_of}
use Rattle.reeval.specs.Settled.{AreFresh}
use Rattle.reeval.specs.Told.{news_on, told}
use Rattle.reeval.specs.declared.verdicts.Change.{Change}

-- the body is indexed, if it is to be
abbrev pub indexed_if : Bool → Body → Body
indexed_if wanted body = if wanted then indexed body else body

-- the entry is indexed, if its number isn't above this one
abbrev pub indexed_to : ℕ → Entry → Entry
indexed_to last entry = edited (indexed_if (nat_le entry.number last)) entry

-- the state in which each file whose number isn't above this one shows its text and is clean
abbrev pub indexed_through : ℕ → State → State
indexed_through last s = record s { entries = map (indexed_to last) s.entries }

-- a query may say something else of a file that shows the second text, and showed the first, or none
abbrev pub may_differ : Option (List ℕ) → List ℕ → Formula ℕ → Bool
may_differ None new query = may_hold (words new) query
may_differ (Some old) new query = asks_for_change (rising_words old) (rising_words new) query

-- judging of a file that is to show the second text begins at the directory: its query may say something else
abbrev pub may_begin : State → Option (List ℕ) → List ℕ → ℕ → Bool
may_begin s old new dir = option_map_or (may_differ old new) (query_at s dir) false

-- by these changes the items have the verdicts of the second state, and nothing is new of any other; each says something new
pub record AreSettled (s t : State) (items : List ℕ) (delta : List Change) : Type 0 where
  pub settled : (item : ℕ) → Among items item → (dir : ℕ) → told (news_on item delta) (verdict_of s item) dir ≡ verdict_of t item dir
  pub others : (item : ℕ) → ¬ Among items item → news_on item delta ≡ []
  pub fresh : AreFresh s delta

-- so many steps index these files, each once and as many as steps, and no other dirty file whose number isn't above the last of theirs
pub record AreIndexed (s : State) (count : ℕ) (files : List ℕ) (last : ℕ) : Type 0 where
  pub reached : apply_all s (replicate count Step) ≡ indexed_through last s
  pub once : EachOnce files
  pub many : length files ≡ count
  pub low : (n : ℕ) → Among files n → n ≤ last
  pub all : (n : ℕ) → is_dirty_at s.entries n ≡ true → n ≤ last → Among files n
