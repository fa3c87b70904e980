-- What is known once several items are settled, and links once all that is new is put.
use Rattle.std.specs.Prelude.{◌≡◌, ◌==◌, ◌||◌, ◌+◌, ◌≤◌, ℕ, true, false, IsTrue, List, [], length}
use Rattle.std.specs.List.{AllByRecursion, list_any}
use Rattle.hac_model.specs.Tree.Depends.{Among}
use Rattle.hac_model.specs.Tree.Links.{is_semantic, links}
use Rattle.hac_model.specs.declared.states.State.{State}
use Rattle.link_kinds.specs.Seen.{Known, has_sets, lent_in, transient_in}
use Rattle.set_pool.specs.Rising.{is_among}
use Rattle.reeval.specs.Judging.{verdict_of}
use Rattle.reeval.specs.Routes.{Covers}
use Rattle.reeval.specs.Told.{are_same, news_on, told}
use Rattle.reeval.specs.declared.planning.Task.{Task}
use Rattle.reeval.specs.declared.settling.Stop.{Stop}
use Rattle.reeval.specs.declared.verdicts.Change.{Change}
use Rattle.reeval.specs.declared.verdicts.Verdict.{Verdict}

-- each change says something else of its item than the state does
abbrev pub AreFresh : State → List Change → Type 0
AreFresh s delta = AllByRecursion (λ change. are_same change.verdict (verdict_of s change.item change.dir) ≡ false) delta

-- from one list of news to the next these items are settled, and nothing is new of any other; what comes is new
pub record SettlesAll (s t : State) (stops : List Stop) (items : List ℕ) (old new : List Change) : Type 0 where
  pub settled : (item : ℕ) → Among items item → news_on item old ≡ [] → Covers s t stops item →
      (dir : ℕ) → told (news_on item new) (verdict_of s item) dir ≡ verdict_of t item dir
  pub others : (item : ℕ) → ¬ Among items item → news_on item new ≡ news_on item old
  pub fresh : ((item : ℕ) → Among items item → Covers s t stops item) → AreFresh s old → AreFresh s new

-- the task has all items of which a directory may say something else in the second state, each with its way
pub record IsPlanned (s t : State) (task : Task) : Type 0 where
  pub touched : (item : ℕ) → Among task.touched.items item → Covers s t task.everywhere.items item
  pub others : (item : ℕ) → Among task.others.items item → Covers s t task.along.items item
  pub rest : (item : ℕ) → ¬ Among task.touched.items item → ¬ Among task.others.items item → (dir : ℕ) → verdict_of s item dir ≡ verdict_of t item dir

-- what is kept of an item in a directory
abbrev pub verdict_in : Known → ℕ → ℕ → Verdict
verdict_in known item dir = record { found = is_among item (transient_in known dir); lent = is_among item (lent_in known dir) }

-- the links of the state are kept
pub record AreLinksOf (s : State) (known : Known) : Type 0 where
  pub found : (dir : ℕ) → transient_in known dir ≡ (links s dir).found
  pub lent : (dir : ℕ) → lent_in known dir ≡ (links s dir).lent

-- no directory has sets but semantic ones
abbrev pub AreSetsAsked : State → Known → Type 0
AreSetsAsked s known = (dir : ℕ) → has_sets known dir ≡ true → is_semantic s dir ≡ true

-- no directory has got sets but those of which the changes tell
abbrev pub AreSetsFor : Known → Known → List Change → Type 0
AreSetsFor old new delta = (dir : ℕ) → has_sets new dir ≡ true → (has_sets old dir || list_any (λ change. change.dir == dir) delta) ≡ true

-- all of the news can be put without memory: two calls for each
pub record HasRoom (known : Known) (news : List Change) : Type 0 where
  pub sets : AllByRecursion (λ change. IsTrue (has_sets known change.dir)) news
  pub spare : length news + length news ≤ known.spare
