-- What is kept of a state beside its tree, as far as it is made of the entries.
use Rattle.std.specs.Prelude.{◌≡◌, ℕ, Bool, false, List, [], ◌∷◌, Option, None, is_some}
use Rattle.std.specs.List.{AllByRecursion}
use Rattle.std.specs.Option.{option_map_or}
use Rattle.hac_model.specs.Tree.Facts.{Marks, facts_at}
use Rattle.hac_model.specs.Tree.Links.{has}
use Rattle.hac_model.specs.Tree.{entry_at, permanent_in, prohibited_in, query_in}
use Rattle.hac_model.specs.Tree.Valid.{RiseFrom}
use Rattle.hac_model.specs.declared.marks.Kind.{Kind}
use Rattle.hac_model.specs.declared.states.Body.{Body}
use Rattle.hac_model.specs.declared.states.Entry.{Entry}
use Rattle.dep_graph.specs.Graphs.{edges_of}
use Rattle.kept_facts.specs.AnswersKept.{list_at}
use Rattle.link_kinds.specs.Kinds.{Lists, with_kind}
use Rattle.link_kinds.specs.Seen.{has_sets, lists_in}
use Rattle.snapshots.specs.declared.loading.Beside.{Beside}

-- the lists once these items have a kind, one after the other
abbrev pub marked_all : Kind → List ℕ → Lists → Lists
marked_all kind [] lists = lists
marked_all kind (item ∷ items) lists = marked_all kind items (with_kind kind item lists)

-- lists of these marks, in which no link was found and nothing is lent
abbrev pub marks_alone : Marks → Lists
marks_alone marks = record { transient = []; permanent = marks.permanent; prohibited = marks.prohibited; lent = [] }

-- the marks of a body rise, and none is of both kinds
pub record AreSoundIn (body : Body) : Type 0 where
  pub added : RiseFrom 0 (permanent_in body)
  pub removed : RiseFrom 0 (prohibited_in body)
  pub apart : AllByRecursion (λ number. has (prohibited_in body) number ≡ false) (permanent_in body)

-- so it is with all entries
abbrev pub AreSoundMarks : List Entry → Type 0
AreSoundMarks entries = AllByRecursion (λ entry. AreSoundIn entry.body) entries

-- the entry comes behind these, which have none of its number, and its marks are sound
pub record IsNew (before : List Entry) (entry : Entry) : Type 0 where
  pub number : entry_at before entry.number ≡ None
  pub marks : AreSoundIn entry.body

-- the entry has a query
abbrev pub asks : Option Entry → Bool
asks entry = option_map_or (λ entry. is_some (query_in entry.body)) entry false

-- this is what the entries tell, given which numbers are those of directories, and no more
pub record AreBeside (is_dir : ℕ → Bool) (entries : List Entry) (beside : Beside) : Type 0 where
  pub marks_are : (number : ℕ) → lists_in beside.marks number ≡ marks_alone (facts_at is_dir (entry_at entries number)).marks
  pub answers_are : (number : ℕ) → list_at beside.answers number ≡ (facts_at is_dir (entry_at entries number)).answers
  pub edges_are : (number : ℕ) → edges_of beside.graph number ≡ (facts_at is_dir (entry_at entries number)).edges
  pub sets : (number : ℕ) → has_sets beside.marks number ≡ asks (entry_at entries number)
