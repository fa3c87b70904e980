-- A state as its bare tree, its sessions and the facts of each number: what is kept of it beside the tree, and what it
-- depends on.
use Rattle.std.specs.Prelude.{ℕ, Bool, ◌==◌, ◌++◌, List, [], ◌∷◌, filter, map, Option, Some, None, if◌then◌else◌}
use Rattle.std.specs.Option.{option_map_or}
use Rattle.hac_model.specs.Tree.Depends.{named_in}
use Rattle.hac_model.specs.Tree.Asking.{gained, with_answers}
use Rattle.hac_model.specs.Tree.Events.{added, apply, asking, changed_at, edited, put_in, removed, without}
use Rattle.hac_model.specs.Tree.Mounting.{answers_to, fresh, is_gone, is_of_mount, is_such_at, mounted, numbers_without, with_documents, without_such}
use Rattle.hac_model.specs.Tree.Mounts.{terms_to_ask}
use Rattle.hac_model.specs.Query.Formula.{Formula}
use Rattle.hac_model.specs.Tree.Links.{parent_of, query_at}
use Rattle.hac_model.specs.Tree.{answers_in, entry_at, is_directory_at, permanent_in, prohibited_in, query_in}
use Rattle.hac_model.specs.declared.events.Event.{Event}
use Rattle.hac_model.specs.declared.events.Event.TheVariants.{Smkdir, Setq, Unq, Mark, Mv, Rm, Rmdir, Smount, Ssync, Sumount, Cd}
use Rattle.hac_model.specs.declared.marks.Kind.{Kind}
use Rattle.hac_model.specs.declared.marks.Kind.TheVariants.{Permanent, Prohibited}
use Rattle.hac_model.specs.declared.states.Answer.{Answer}
use Rattle.hac_model.specs.declared.states.Body.{Body}
use Rattle.hac_model.specs.declared.states.Body.TheVariants.{Semantic, Mount}
use Rattle.hac_model.specs.declared.states.Entry.{Entry}
use Rattle.hac_model.specs.declared.states.Session.{Session}
use Rattle.hac_model.specs.declared.states.State.{State}

-- the items and directories that users added to a directory, and the items that they removed from it
pub record Marks : Type 0 where
  pub permanent : List ℕ
  pub prohibited : List ℕ

-- what is known of a number: its marks, the kept answers of a mount, and the directories that it depends on
pub record Facts : Type 0 where
  pub marks : Marks
  pub answers : List Answer
  pub edges : List ℕ

abbrev pub no_marks : Marks
no_marks = record { permanent = []; prohibited = [] }

-- nothing is known
abbrev pub no_facts : Facts
no_facts = record { marks = no_marks; answers = []; edges = [] }

abbrev pub marks_in : Body → Marks
marks_in body = record { permanent = permanent_in body; prohibited = prohibited_in body }

-- what an entry in a directory depends on that has a query and to which these were added, given which numbers are those of
-- directories: on its own directory, on those that the query names, and on those that were added
abbrev pub edges_to : (ℕ → Bool) → ℕ → Option (Formula ℕ) → List ℕ → List ℕ
edges_to is_dir dir query permanent = option_map_or (λ asked. dir ∷ named_in asked ++ filter is_dir permanent) query []

-- what an entry in this directory tells by its body
abbrev pub facts_in : (ℕ → Bool) → ℕ → Body → Facts
facts_in is_dir dir body = record {
  marks = marks_in body;
  answers = answers_in body;
  edges = edges_to is_dir dir (query_in body) (permanent_in body);
}

abbrev pub facts_at : (ℕ → Bool) → Option Entry → Facts
facts_at is_dir None = no_facts
facts_at is_dir (Some entry) = facts_in is_dir entry.parent entry.body

-- the facts of each number
abbrev pub facts_of : State → ℕ → Facts
facts_of s number = facts_at (is_directory_at s.entries) (entry_at s.entries number)

-- a body with the marks and answers of these facts
abbrev pub filled : Facts → Body → Body
filled facts (Semantic query permanent prohibited) = Semantic query facts.marks.permanent facts.marks.prohibited
filled facts (Mount space answers) = Mount space facts.answers
filled facts other = other

abbrev pub filled_entry : (ℕ → Facts) → Entry → Entry
filled_entry facts entry = edited (filled (facts entry.number)) entry

-- the state that has this tree, these facts and these sessions
abbrev pub joined : (ℕ → Facts) → List Session → State → State
joined facts sessions tree = record {
  version = tree.version;
  next = tree.next;
  entries = map (filled_entry facts) tree.entries;
  sessions = sessions;
}

-- one number has another value
abbrev pub put_at : {X : Type 0} → (ℕ → X) → ℕ → X → ℕ → X
put_at values number value other = if other == number then value else values other

-- the marks without those of an item
abbrev pub without_item : ℕ → Marks → Marks
without_item item marks = record { permanent = without item marks.permanent; prohibited = without item marks.prohibited }

-- the item has this mark, and no other
abbrev pub with_mark : Kind → ℕ → Marks → Marks
with_mark Permanent item marks = record (without_item item marks) { permanent = put_in item (without item marks.permanent) }
with_mark Prohibited item marks = record (without_item item marks) { prohibited = put_in item (without item marks.prohibited) }
with_mark other item marks = without_item item marks

-- the marks without those of items that pass a test
abbrev pub marks_without : (ℕ → Bool) → Marks → Marks
marks_without test marks = record {
  permanent = numbers_without test marks.permanent;
  prohibited = numbers_without test marks.prohibited;
}

-- the facts without marks on items that pass a test
abbrev pub facts_without : (ℕ → Bool) → (ℕ → Facts) → ℕ → Facts
facts_without test facts number = record (facts number) { marks = marks_without test (facts number).marks }

-- the facts where each mount keeps what it was told for a query, too
abbrev pub facts_told : Formula ℕ → List (List ℕ) → State → (ℕ → Facts) → ℕ → Facts
facts_told query told tree facts number = record (facts number) {
  answers = with_answers (gained (λ mount. (facts mount).answers) query told tree.entries number) (facts number).answers;
}

-- the facts of an entry that is in this directory, has this query and has these marks
abbrev pub facts_with : State → ℕ → Option (Formula ℕ) → Marks → Facts → Facts
facts_with tree dir query marks facts = record facts {
  marks = marks;
  edges = edges_to (is_directory_at tree.entries) dir query marks.permanent;
}

-- the facts after an event, of which only the tree is asked what else it needs
abbrev pub facts_after : Event → State → (ℕ → Facts) → ℕ → Facts
facts_after (Smkdir dir name query told) tree facts =
    put_at (facts_told query told tree facts) tree.next (record no_facts { edges = dir ∷ named_in query })
facts_after (Setq dir query told) tree facts =
    put_at (facts_told query told tree facts) dir (facts_with tree (parent_of tree dir) (Some query) (facts dir).marks (facts dir))
facts_after (Unq dir) tree facts = put_at facts dir no_facts
facts_after (Mark mark) tree facts =
    put_at facts mark.dir
    (facts_with tree (parent_of tree mark.dir) (query_at tree mark.dir) (with_mark mark.kind mark.item (facts mark.dir).marks) (facts mark.dir))
facts_after (Mv entry dir name) tree facts =
    put_at facts entry (facts_with tree dir (query_at tree entry) (facts entry).marks (facts entry))
facts_after (Rm item) tree facts = λ number. record (facts number) { marks = without_item item (facts number).marks }
facts_after (Rmdir dir) tree facts = put_at facts dir no_facts
facts_after (Smount dir name space documents told) tree facts =
    put_at facts tree.next (record no_facts { answers = answers_to (terms_to_ask tree.entries) told })
facts_after (Ssync mount documents told) tree facts =
    put_at (facts_without (is_such_at (is_gone mount documents) tree.entries) facts) mount
    (record no_facts { answers = answers_to (terms_to_ask tree.entries) told })
facts_after (Sumount mount) tree facts = put_at (facts_without (is_such_at (is_of_mount mount) tree.entries) facts) mount no_facts
facts_after other tree facts = facts

-- the tree after an event. It has no marks to lose, no answers to keep, and no sessions.
abbrev pub bare_after : Event → State → State
bare_after (Mark mark) tree = tree
bare_after (Rm entry) tree = removed tree entry
bare_after (Smkdir dir name query told) tree = added tree dir name (Semantic query [] [])
bare_after (Setq dir query told) tree = changed_at tree dir (edited (asking query))
bare_after (Smount dir name space documents told) tree = mounted tree dir name space [] documents
bare_after (Ssync mount documents told) tree = with_documents (without_such (is_gone mount documents) tree) mount (fresh tree mount documents)
bare_after (Sumount mount) tree = without_such (is_of_mount mount) tree
bare_after (Cd session dir) tree = tree
bare_after other tree = apply tree other
