-- Theorems over the definitions, each proved as the contract of a function of the module `laws`.
use Rattle.std.specs.Prelude.{true, false, ◌≡◌, ⊤, ℕ, zero, suc, ◌<◌, ◌≤◌, ◌+◌, ◌/◌, ◌^◌, ◌||◌, length, drop, take, nat_lt, List, [], ◌∷◌, ◌++◌, map, None, Some, Ok, IsTrue, is_some, codes, replicate}
use Rattle.std.specs.List.{AllByRecursion, flat_map, position_or_len}
use Rattle.hac_model.specs.Tree.Bare.{bare}
use Rattle.hac_model.specs.Bytes.{is_line_end}
use Rattle.hac_model.specs.Script.CommandLine.{options}
use Rattle.hac_model.specs.Script.Generator.{drawn_lines, next_drawn, plain_lines, semantic_lines}
use Rattle.hac_model.specs.Tree.Depends.{IsAcyclic}
use Rattle.hac_model.specs.Tree.Events.{accepted, apply, apply_all, dirty, renamed}
use Rattle.hac_model.specs.Tree.Facts.{facts_after, facts_of}
use Rattle.hac_model.specs.Script.LineWords.{first_word, in_quotes, is_word_end, quoted_word}
use Rattle.hac_model.specs.Script.Lines.{Item, is_spelled_line, item_of}
use Rattle.hac_model.specs.Tree.Links.{DirLinks, column, found_by, has, is_below, is_item, is_permanent, is_prohibited, is_semantic, is_judged, lenders, links, provide, round, transient_at}
use Rattle.hac_model.specs.Tree.Kinds as kinds
use Rattle.hac_model.specs.Tree.Looks.{look, plain, destination}
use Rattle.hac_model.specs.Script.Printed.{ended}
use Rattle.hac_model.specs.Run.Asks.{asks}
use Rattle.hac_model.specs.Run.Refusals.{cause, events_of, led_to, marks}
use Rattle.hac_model.specs.Spaces.Answering.{AreAnswersTo, AreRisingNames}
use Rattle.hac_model.specs.Spaces.Catalogue.{names}
use Rattle.hac_model.specs.declared.spaces.Answers.{Answers}
use Rattle.hac_model.specs.Run.Checkpoints.{state_text}
use Rattle.hac_model.specs.Run.Resolving.{resolve}
use Rattle.hac_model.specs.Script.{due, whole}
use Rattle.hac_model.specs.Tree.Sessions.{is_stored, sessionless, sessions_after, stored}
use Rattle.hac_model.specs.Payload.Payloads.{event_text, is_spellable}
use Rattle.hac_model.specs.Payload.States.{is_spellable_snapshot, snapshot_of}
use Rattle.hac_model.specs.Run.Play.{Given, Setting, all_events, end_after, given_behind, left_by, new_setting, no_answers, nothing_given, play, ticking, turns, turns_text}
use Rattle.hac_model.specs.Script.Texts.{escaped_text, text_of}
use Rattle.hac_model.specs.Tree.{empty, entry_at, is_symlink_at, path_of, raised, root_alone}
use Rattle.hac_model.specs.Tree.Valid.{IsValid}
use Rattle.hac_model.specs.Tree.ValidTest.{is_valid}
use Rattle.hac_model.specs.declared.commands.Line.{Line}
use Rattle.hac_model.specs.declared.events.Event.{Event}
use Rattle.hac_model.specs.declared.events.Event.TheVariants.{Mv, Setq, Step, Unq}
use Rattle.hac_model.specs.declared.marks.Kind.{Kind}
use Rattle.hac_model.specs.Query.Formula.{Formula}
use Rattle.hac_model.specs.declared.limits.TheConstants.{PAYLOAD_LIMIT}
use Rattle.hac_model.specs.declared.places.Place.TheVariants.{There}
use Rattle.hac_model.specs.declared.resolved.Resolved.{Resolved}
use Rattle.hac_model.specs.declared.resolved.Resolved.TheVariants.{Index}
use Rattle.hac_model.specs.declared.states.State.{State}
use Rattle.hac_model.specs.declared.versions.Version.{Version}
use Rattle.hac_model.specs.declared.versions.Version.TheVariants.{One, Two}

-- two joined scripts are played one after the other, where the first one consists of whole lines
abbrev pub ScriptsJoin : Type 0
ScriptsJoin =
    (given : Given) (setting : Setting) (first second : List ℕ) → whole first ≡ first →
    play given setting (first ++ second) ≡ play given setting first
    ++ play (given_behind (length (play given setting first)) given) (left_by setting (play given setting first)) second

-- the bytes are this many lines, each with its end and the bytes that belong to it
abbrev pub AreLines : ℕ → List ℕ → Type 0
AreLines zero bytes = bytes ≡ []
AreLines (suc n) bytes =
    (line taken rest : List ℕ) × (position_or_len is_line_end line ≡ length line) × (length taken ≡ due line)
    × (bytes ≡ line ++ 10 ∷ (taken ++ rest)) × AreLines n rest

-- what is whole of any bytes is a number of lines
abbrev pub WholeIsLines : Type 0
WholeIsLines = (bytes : List ℕ) → (n : ℕ) × AreLines n (whole bytes)

-- the bytes begin with it
abbrev pub WholeIsFront : Type 0
WholeIsFront = (bytes : List ℕ) → (rest : List ℕ) × (bytes ≡ whole bytes ++ rest)

-- and with no more lines
abbrev pub WholeIsLongest : Type 0
WholeIsLongest = (n : ℕ) (front rest : List ℕ) → AreLines n front → length front ≤ length (whole (front ++ rest))

-- the empty state is valid
abbrev pub EmptyIsValid : Type 0
EmptyIsValid = IsValid empty

-- whether any state is valid can be computed
abbrev pub ValidityIsTested : Type 0
ValidityIsTested = (s : State) → (is_valid s ≡ true → IsValid s) × (IsValid s → is_valid s ≡ true)

-- a valid state stays valid by each event that can happen to it
abbrev pub EventsKeepValid : Type 0
EventsKeepValid = (s : State) (event : Event) → IsValid s → IsTrue (accepted s event) → IsValid (apply s event)

-- what an event does to the tree depends on the tree alone: not on marks, kept answers or sessions
abbrev pub BareCommutes : Type 0
BareCommutes = (s : State) (event : Event) → bare (apply s event) ≡ bare (apply (bare s) event)

-- what it does to the facts of each number depends on them and on the tree
abbrev pub FactsFollow : Type 0
FactsFollow =
    (s : State) (event : Event) → IsValid s → IsTrue (accepted s event) →
    (number : ℕ) → facts_of (apply s event) number ≡ facts_after event (bare s) (facts_of s) number

-- what it does to sessions depends on them alone
abbrev pub SessionsFollow : Type 0
SessionsFollow = (s : State) (event : Event) → (apply s event).sessions ≡ sessions_after event s.sessions

-- valid states of one tree and the same sessions are equal, if all numbers have the same facts
abbrev pub PartsTellState : Type 0
PartsTellState =
    (s t : State) → IsValid s → IsValid t → bare s ≡ bare t → s.sessions ≡ t.sessions → ((number : ℕ) → facts_of s number ≡ facts_of t number) → s ≡ t

-- a line spells a session's name and a command only with words that these may have
abbrev pub LinesSpell : Type 0
LinesSpell = (bytes behind : List ℕ) (line : Line) → item_of bytes behind ≡ Ok line → IsTrue (is_spelled_line line)

-- events can happen one after the other
abbrev pub AllHappen : State → List Event → Type 0
AllHappen s [] = ⊤
AllHappen s (event ∷ events) = IsTrue (accepted s event) × AllHappen (apply s event) events

-- the events of a command that isn't refused can happen, all of them, whatever spaces answer
abbrev pub CommandsHappen : Type 0
CommandsHappen =
    (s : State) (line : Line) (command : Resolved) (answers : Answers) → IsValid s → IsTrue (is_spelled_line line) →
    resolve s line ≡ Ok command → AreAnswersTo (asks s command) answers → cause answers s command ≡ None → AllHappen s (events_of answers s command)

-- a step can happen just where a file is dirty
abbrev pub StepsAreDue : Type 0
StepsAreDue = (s : State) → IsValid s → accepted s Step ≡ nat_lt 0 (dirty s)

-- and leaves one file less dirty
abbrev pub StepsClean : Type 0
StepsClean = (s : State) → IsValid s → IsTrue (accepted s Step) → dirty s ≡ dirty (apply s Step) + 1

-- after the steps of `index` no file is dirty
abbrev pub IndexCleans : Type 0
IndexCleans = (s : State) → IsValid s → dirty (led_to no_answers s Index) ≡ 0

-- scripts lead from valid states to valid states, where the spaces have their documents in order
abbrev pub ScriptsKeepValid : Type 0
ScriptsKeepValid =
    (given : Given) (setting : Setting) (bytes : List ℕ) →
    AllByRecursion (λ space. AreRisingNames (names space.1)) given.spaces → IsValid setting.state →
    IsValid (left_by setting (play given setting bytes)).state

-- what is stored of the state after lines is what their events make of what was stored, one after the other
abbrev pub EventsLead : Type 0
EventsLead =
    (given : Given) (setting : Setting) (items : List Item) →
    stored (left_by setting (turns given setting items)).state ≡ apply_all (stored setting.state) (all_events (turns given setting items))

-- and as long as no new area was begun, the store then ends behind the records of these events
abbrev pub EventsEnd : Type 0
EventsEnd =
    (given : Given) (setting : Setting) (items : List Item) →
    (left_by setting (turns given setting items)).generation ≡ setting.generation →
    (left_by setting (turns given setting items)).end ≡ end_after setting (all_events (turns given setting items))

-- each event that a valid state accepts and that is stored has a spelling
abbrev pub AcceptedAreSpelled : Type 0
AcceptedAreSpelled = (s : State) (event : Event) → IsValid s → IsTrue (is_stored event) → IsTrue (accepted s event) → IsTrue (is_spellable s.version event)

-- what is stored of a valid state has a spelling
abbrev pub ValidAreSpelled : Type 0
ValidAreSpelled = (s : State) → IsValid s → IsTrue (is_spellable_snapshot (snapshot_of s))

-- where sessions stand is never stored: what can happen to a state and is stored can happen to what is stored of it,
-- and leads to what is stored of the outcome
abbrev pub SessionsAreNotStored : Type 0
SessionsAreNotStored =
    (s : State) (event : Event) → IsValid s → IsTrue (is_stored event) → IsTrue (accepted s event) →
    IsTrue (accepted (sessionless s) event) × (sessionless (apply s event) ≡ apply (sessionless s) event)

-- so it is in a store of version 2, whatever the version of the state
abbrev pub StoredEventsHappen : Type 0
StoredEventsHappen =
    (s : State) (event : Event) → IsValid s → IsTrue (is_stored event) → IsTrue (accepted s event) →
    IsTrue (accepted (stored s) event) × (stored (apply s event) ≡ apply (stored s) event)

-- a state that a store of some version may hold is one that a store of version 2 may hold
abbrev pub RaisedIsValid : Type 0
RaisedIsValid = (s : State) → IsValid s → IsValid (raised s)

-- with the same links
abbrev pub RaisedLinks : Type 0
RaisedLinks = (s : State) → links (raised s) ≡ links s

-- where no directory depends on itself, the links don't change when they are found anew
abbrev pub LinksStay : Type 0
LinksStay = (s : State) → IsAcyclic s → round s (links s) ≡ links s

-- and no others stay so
abbrev pub LinksAreOnly : Type 0
LinksAreOnly = (s : State) → IsAcyclic s → (known : ℕ → DirLinks) → round s known ≡ known → known ≡ links s

-- in a valid state no directory depends on itself
abbrev pub ValidIsAcyclic : Type 0
ValidIsAcyclic = (s : State) → IsValid s → IsAcyclic s

-- an item has in a directory the mark that it was given there, and no other
abbrev pub MarksAreSet : Type 0
MarksAreSet =
    (s : State) (dir item : ℕ) (kind : Kind) → IsValid s → IsTrue (accepted s (marks item dir kind)) →
    (is_permanent (apply s (marks item dir kind)) dir item ≡ kinds.is_permanent kind)
    × (is_prohibited (apply s (marks item dir kind)) dir item ≡ kinds.is_prohibited kind)

-- the directory has the same marks on the item in both states
abbrev pub SameMarks : State → State → ℕ → ℕ → Type 0
SameMarks s t dir item = (is_permanent t dir item ≡ is_permanent s dir item) × (is_prohibited t dir item ≡ is_prohibited s dir item)

-- all other marks stay
abbrev pub MarksStay : Type 0
MarksStay =
    (s : State) (dir item : ℕ) (kind : Kind) (other_dir other : ℕ) → IsValid s → IsTrue (accepted s (marks item dir kind)) →
    (other_dir ≡ dir → other ≡ item → ⊥) → SameMarks s (apply s (marks item dir kind)) other_dir other

-- so do all marks where a directory gets another query
abbrev pub QueriesLeaveMarks : Type 0
QueriesLeaveMarks =
    (s : State) (asking : ℕ) (query : Formula ℕ) (told : List (List ℕ)) (dir item : ℕ) → IsValid s →
    IsTrue (accepted s (Setq asking query told)) → SameMarks s (apply s (Setq asking query told)) dir item

-- a directory without its query has no marks either
abbrev pub MarksGo : Type 0
MarksGo =
    (s : State) (dir item : ℕ) → IsValid s → IsTrue (accepted s (Unq dir)) →
    (is_permanent (apply s (Unq dir)) dir item ≡ false) × (is_prohibited (apply s (Unq dir)) dir item ≡ false)

-- what is found in a directory is a document or was indexed, and the user neither added nor removed it there
abbrev pub LinksAreUnmarked : Type 0
LinksAreUnmarked =
    (s : State) (dir item : ℕ) → IsValid s → has (transient_at s dir) item ≡ true →
    (is_judged s item ≡ true) × (is_permanent s dir item ≡ false) × (is_prohibited s dir item ≡ false)

-- what a query finds anywhere is a document or was indexed
abbrev pub FoundAreIndexed : Type 0
FoundAreIndexed = (s : State) (query : Formula ℕ) (item : ℕ) → has (found_by s query) item ≡ true → is_judged s item ≡ true

-- a directory provides what the user added to it
abbrev pub AddedAreProvided : Type 0
AddedAreProvided =
    (s : State) (dir item : ℕ) → is_semantic s dir ≡ true → is_permanent s dir item ≡ true → is_item s item ≡ true →
    provide s (column (links s) item) dir item ≡ true

-- and all that a directory provides which the user added to it
abbrev pub LentAreProvided : Type 0
LentAreProvided =
    (s : State) (dir lender item : ℕ) → IsValid s → is_semantic s dir ≡ true → has (lenders s dir) lender ≡ true → is_item s item ≡ true →
    provide s (column (links s) item) lender item ≡ true → provide s (column (links s) item) dir item ≡ true

-- and what the user removed from it only if it is stored below it or lent to it
abbrev pub RemovedAreNotProvided : Type 0
RemovedAreNotProvided =
    (s : State) (dir item : ℕ) → IsValid s → is_prohibited s dir item ≡ true →
    provide s (column (links s) item) dir item ≡ (is_below s dir item || has (links s dir).lent item)

-- valid states of one version that show the same tree, and would go on with the same number, are equal
abbrev pub PlainTellsState : Type 0
PlainTellsState =
    (s t : State) → IsValid s → IsValid t → s.version ≡ t.version → s.next ≡ t.next → s.sessions ≡ t.sessions →
    ((path : List (List ℕ)) → plain s path ≡ plain t path) → s ≡ t

-- looking up the path of an entry finds the entry, even if it is a symbolic link, which isn't followed then
abbrev pub LooksFind : Type 0
LooksFind = (s : State) (number : ℕ) → IsValid s → IsTrue (is_some (entry_at s.entries number)) → look s false (path_of s number) ≡ Ok (There number)

-- and what is found where no link is followed has the path that was looked up
abbrev pub LooksTell : Type 0
LooksTell = (s : State) (path : List (List ℕ)) (number : ℕ) → IsValid s → destination s path ≡ Ok (There number) → path_of s number ≡ path

-- what is found where all links are followed isn't one
abbrev pub LooksFollow : Type 0
LooksFollow =
    (s : State) (path : List (List ℕ)) (number : ℕ) → IsValid s → look s true path ≡ Ok (There number) →
    is_symlink_at s.entries number ≡ false

-- a move renames the entry and everything below it, and nothing else
abbrev pub MovesRename : Type 0
MovesRename =
    (s : State) (entry dir : ℕ) (name : List ℕ) (number : ℕ) → IsValid s → IsTrue (accepted s (Mv entry dir name)) →
    IsTrue (is_some (entry_at s.entries number)) → path_of (apply s (Mv entry dir name)) number ≡ renamed s entry dir name number

-- a printed text is read back
abbrev pub PrintedTextIsRead : Type 0
PrintedTextIsRead = (text : List ℕ) → text_of (escaped_text text) ≡ Some text

-- and a printed text is one line
abbrev pub PrintedTextIsOneLine : Type 0
PrintedTextIsOneLine = (text : List ℕ) → position_or_len is_line_end (escaped_text text) ≡ length (escaped_text text)

-- any bytes can be a word in quotes, and are read as that word, whatever follows
abbrev pub QuotedWordIsRead : Type 0
QuotedWordIsRead = (word rest : List ℕ) → IsTrue (is_word_end rest) → first_word (in_quotes word ++ rest) ≡ Ok (word, rest)

-- and nothing else behind a quote is read as that word
abbrev pub QuotesAreOneSpelling : Type 0
QuotesAreOneSpelling = (bytes word rest : List ℕ) → quoted_word bytes ≡ Ok (word, rest) → 34 ∷ bytes ≡ in_quotes word ++ rest

-- lines, each with its end
abbrev pub lines_text : List (List ℕ) → List ℕ
lines_text lines = flat_map ended lines

-- a semantic directory has the files that had its word when they were last indexed, and no directory is written over
abbrev pub FirstListings : Type 0
FirstListings =
    turns_text (play nothing_given new_setting (lines_text (
    codes "write /a Big apple" ∷ codes "smkdir /s apple" ∷ codes "sls /s" ∷ codes "index" ∷ codes "sls /s"
    ∷ codes "write /a pear" ∷ codes "sls /s" ∷ codes "write /s x" ∷ codes "smkdir /s y" ∷ [])))
    ≡ lines_text (
    codes "ok" ∷ codes "ok" ∷ codes "ok" ∷ codes "ok" ∷ codes "t /a" ∷ codes "ok"
    ∷ codes "ok" ∷ codes "t /a" ∷ codes "ok" ∷ codes "no not-file /s" ∷ codes "no exists /s" ∷ [])

-- a semantic directory has files that its parent provides: those below a plain one, the links of a semantic one. So a
-- move takes files out of its links, and brings others in.
abbrev pub MovedListings : Type 0
MovedListings =
    turns_text (play nothing_given new_setting (lines_text (
    codes "mkdir /d" ∷ codes "mkdir d/e" ∷ codes "write /d/e/f red apple" ∷ codes "write g green apple" ∷ codes "smkdir /d/s apple"
    ∷ codes "smkdir d/s/t red" ∷ codes "index" ∷ codes "sls /d/s" ∷ codes "sls /d/s/t" ∷ codes "mv /d/e /h" ∷ codes "sls /d/s"
    ∷ codes "sls /d/s/t" ∷ codes "mv /g /d/./x/../e/" ∷ codes "sls /d/s" ∷ codes "sls /d/s/t" ∷ codes "mv /h/f /d/s/g"
    ∷ codes "sls /d/s/t" ∷ codes "cat d/s/g" ∷ codes "ls" ∷ codes "ls /d" ∷ codes "ls /d/s" ∷ [])))
    ≡ lines_text (
    codes "ok" ∷ codes "ok" ∷ codes "ok" ∷ codes "ok" ∷ codes "ok"
    ∷ codes "ok" ∷ codes "ok" ∷ codes "t /d/e/f" ∷ codes "ok" ∷ codes "t /d/e/f" ∷ codes "ok" ∷ codes "ok" ∷ codes "ok"
    ∷ codes "ok" ∷ codes "ok" ∷ codes "t /d/e" ∷ codes "ok" ∷ codes "ok" ∷ codes "ok"
    ∷ codes "t /d/s/g" ∷ codes "ok" ∷ codes "= red apple" ∷ codes "ok" ∷ codes "d d" ∷ codes "d h" ∷ codes "ok"
    ∷ codes "f e" ∷ codes "s s" ∷ codes "ok" ∷ codes "f g" ∷ codes "s t" ∷ codes "ok" ∷ [])

-- a directory that was added to a semantic one lends it what it provides, as long as it is there, and can't be removed. None
-- is added to one on which it depends.
abbrev pub LentListings : Type 0
LentListings =
    turns_text (play nothing_given new_setting (lines_text (
    codes "smkdir /fp apple" ∷ codes "mkdir /x" ∷ codes "write /x/y zebra" ∷ codes "index" ∷ codes "sln /x /fp"
    ∷ codes "smkdir /fp/c zebra" ∷ codes "sls /fp" ∷ codes "sls /fp/c" ∷ codes "sln /x /fp" ∷ codes "sln /fp/c /fp" ∷ codes "rm /x/y"
    ∷ codes "rmdir /x" ∷ codes "sforget /x /fp" ∷ codes "sls /fp/c" ∷ codes "rmdir /x" ∷ codes "srm / /fp" ∷ codes "sln / /fp" ∷ [])))
    ≡ lines_text (
    codes "ok" ∷ codes "ok" ∷ codes "ok" ∷ codes "ok" ∷ codes "ok"
    ∷ codes "ok" ∷ codes "p /x" ∷ codes "ok" ∷ codes "t /x/y" ∷ codes "ok" ∷ codes "no already /x" ∷ codes "no cycle /fp/c" ∷ codes "ok"
    ∷ codes "no referenced /fp" ∷ codes "ok" ∷ codes "ok" ∷ codes "ok" ∷ codes "no not-file /" ∷ codes "ok" ∷ [])

-- a symbolic link leads on from its directory, in the middle of a path and at its end; it is moved and removed itself.
-- Links that lead to one another are a loop.
abbrev pub FirstLinks : Type 0
FirstLinks =
    turns_text (play nothing_given new_setting (lines_text (
    codes "mkdir /d" ∷ codes "write /d/f x" ∷ codes "ln d /e" ∷ codes "cat /e/f" ∷ codes "mv /e /g" ∷ codes "cat g/f"
    ∷ codes "ln ../g/f /d/h" ∷ codes "cat /g/h" ∷ codes "readlink /g/h" ∷ codes "ls /g" ∷ codes "rm /g" ∷ codes "cat /d/h"
    ∷ codes "ln /b /a" ∷ codes "ln a /b" ∷ codes "cat /a/f" ∷ codes "ln /c /a" ∷ codes "ls" ∷ [])))
    ≡ lines_text (
    codes "ok" ∷ codes "ok" ∷ codes "ok" ∷ codes "= x" ∷ codes "ok" ∷ codes "ok" ∷ codes "= x" ∷ codes "ok"
    ∷ codes "ok" ∷ codes "= x" ∷ codes "ok" ∷ codes "= ../g/f" ∷ codes "ok" ∷ codes "f f" ∷ codes "l h" ∷ codes "ok"
    ∷ codes "ok" ∷ codes "no no-path /g"
    ∷ codes "ok" ∷ codes "ok" ∷ codes "no loop /a/f" ∷ codes "no exists /a" ∷ codes "l a" ∷ codes "l b" ∷ codes "d d" ∷ codes "ok" ∷ [])

-- with one step behind each command the files are indexed without `index`, also behind a refused command; a blank line
-- and a comment are followed by none
abbrev pub FirstSteps : Type 0
FirstSteps =
    turns_text (play (ticking 1) new_setting (lines_text (
    codes "write /a x" ∷ codes "write /b x" ∷ codes "smkdir /s x" ∷ codes "sls /s" ∷ codes "write /a y" ∷ codes "tick 0"
    ∷ codes "write /b y" ∷ codes "sls /s" ∷ codes "# comment" ∷ codes "" ∷ codes "write /c x" ∷ codes "rmdir /c" ∷ codes "sls /s" ∷ [])))
    ≡ lines_text (
    codes "ok" ∷ codes "ok" ∷ codes "ok" ∷ codes "t /a" ∷ codes "t /b" ∷ codes "ok" ∷ codes "ok" ∷ codes "ok"
    ∷ codes "ok" ∷ codes "ok" ∷ codes "ok" ∷ codes "no not-dir /c" ∷ codes "t /c" ∷ codes "ok" ∷ [])

-- a store without room for one more record refuses each change, and still answers; once its state is in a new area, it
-- has room again
abbrev pub FullStore : Type 0
FullStore =
    turns_text (play nothing_given (record new_setting { start = 1099511627770; end = 1099511627770 }) (lines_text (
    codes "mkdir /a" ∷ codes "ls" ∷ codes "checkpoint" ∷ codes "mkdir /a" ∷ codes "ls" ∷ [])))
    ≡ lines_text (codes "no limit store" ∷ codes "ok" ∷ codes "ok" ∷ codes "ok" ∷ codes "d a" ∷ codes "ok" ∷ [])

-- no new area is begun without room for it, nor without a generation left for its root
abbrev pub NoRoot : Type 0
NoRoot =
    (turns_text (play nothing_given (record new_setting { end = 1099511627757 }) (lines_text (codes "checkpoint" ∷ []))) ≡ lines_text (codes "no limit store" ∷ []))
    × (turns_text (play nothing_given (record new_setting { generation = 18446744073709551615 }) (lines_text (codes "checkpoint" ∷ []))) ≡ lines_text (codes "no limit store" ∷ []))

-- what a store without entries replies to a command, where its version and its next number are these
abbrev pub reply_at : Version → ℕ → List ℕ → List ℕ
reply_at version next line =
    turns_text (play nothing_given (record new_setting { state = record (root_alone version) { next = next } }) (lines_text (line ∷ [])))

-- the last number of a store of version 1, and that of any store
abbrev pub LastNumbers : Type 0
LastNumbers =
    (reply_at One 4294967295 (codes "mkdir /x") ≡ lines_text (codes "no limit numbers" ∷ []))
    × (reply_at Two 4294967295 (codes "mkdir /x") ≡ lines_text (codes "ok" ∷ []))
    × (reply_at Two 4611686018427387903 (codes "mkdir /x") ≡ lines_text (codes "no limit numbers" ∷ []))

-- where the live area of a new store with a directory begins behind some checkpoints: behind the old area, or before it
abbrev pub start_behind : ℕ → ℕ
start_behind checkpoints = (left_by new_setting (play nothing_given new_setting (lines_text (codes "mkdir /a" ∷ replicate checkpoints (codes "checkpoint"))))).start

-- the third area lies where the first one was
abbrev pub FirstAreas : Type 0
FirstAreas = (start_behind 1 ≡ 82) × (start_behind 2 ≡ 120) × (start_behind 3 ≡ 64)

-- the record of a new directory is 16 bytes longer than its name: 17 bytes for `a`
abbrev pub FirstEnd : Type 0
FirstEnd = (left_by new_setting (play nothing_given new_setting (lines_text (codes "mkdir /a" ∷ [])))).end ≡ 64 + 17

-- a new store, an existing one, one whose name begins like an option, and both options, before the name or behind it;
-- then spaces: the first name is the store's whatever it looks like, a file may hold `=`, options stand between spaces
-- too, behind `--` each word is a name, and there may be sixteen; and a script is drawn from any number of eight bytes
abbrev pub FirstCommandLines : Type 0
FirstCommandLines =
    (options (codes "--new" ∷ codes "notes" ∷ []) ≡ Some (record { fresh = true; tick = 0; make = None; store = codes "notes"; spaces = [] }))
    × (options (codes "notes" ∷ codes "--new" ∷ []) ≡ Some (record { fresh = true; tick = 0; make = None; store = codes "notes"; spaces = [] }))
    × (options (codes "-" ∷ []) ≡ Some (record { fresh = false; tick = 0; make = None; store = codes "-"; spaces = [] }))
    × (options (codes "--" ∷ codes "--new" ∷ []) ≡ Some (record { fresh = false; tick = 0; make = None; store = codes "--new"; spaces = [] }))
    × (options (codes "--tick" ∷ codes "3" ∷ codes "notes" ∷ []) ≡ Some (record { fresh = false; tick = 3; make = None; store = codes "notes"; spaces = [] }))
    × (options (codes "--tick=3" ∷ codes "notes" ∷ []) ≡ Some (record { fresh = false; tick = 3; make = None; store = codes "notes"; spaces = [] }))
    × (options (codes "notes" ∷ codes "--tick" ∷ codes "0" ∷ codes "--new" ∷ []) ≡ Some (record { fresh = true; tick = 0; make = None; store = codes "notes"; spaces = [] }))
    × (options (codes "--tick" ∷ codes "65536" ∷ codes "--" ∷ codes "--tick" ∷ []) ≡ Some (record { fresh = false; tick = 65536; make = None; store = codes "--tick"; spaces = [] }))
    × (options (codes "a=b" ∷ []) ≡ Some (record { fresh = false; tick = 0; make = None; store = codes "a=b"; spaces = [] }))
    × (options (codes "S" ∷ codes "a=b=c" ∷ []) ≡ Some (record { fresh = false; tick = 0; make = None; store = codes "S"; spaces = (codes "a", codes "b=c") ∷ [] }))
    × (options (codes "S" ∷ codes "b=f" ∷ codes "--new" ∷ codes "a=f" ∷ codes "--tick=1" ∷ [])
    ≡ Some (record { fresh = true; tick = 1; make = None; store = codes "S"; spaces = (codes "b", codes "f") ∷ (codes "a", codes "f") ∷ [] }))
    × (options (codes "S" ∷ codes "--" ∷ codes "--new=-" ∷ []) ≡ Some (record { fresh = false; tick = 0; make = None; store = codes "S"; spaces = (codes "--new", codes "-") ∷ [] }))
    × (options (codes "S" ∷ map (λ letter. letter ∷ codes "=f") (codes "abcdefghijklmnop"))
    ≡ Some (record { fresh = false; tick = 0; make = None; store = codes "S"; spaces = map (λ letter. (letter ∷ [], codes "f")) (codes "abcdefghijklmnop") }))
    × (options (codes "--new" ∷ codes "--make" ∷ codes "7" ∷ codes "S" ∷ []) ≡ Some (record { fresh = true; tick = 0; make = Some 7; store = codes "S"; spaces = [] }))
    × (options (codes "S" ∷ codes "--make=18446744073709551615" ∷ codes "--tick=3" ∷ [])
    ≡ Some (record { fresh = false; tick = 3; make = Some 18446744073709551615; store = codes "S"; spaces = [] }))

-- faulty command lines: no word, an empty name, a second name that is no space, `--new` twice or with a value, and an
-- unknown option; `--tick` with what is no such number, without a value or with one that begins with `-`, and twice;
-- spaces without a file, without a name, with a name that no space has, twice with one name, and seventeen of them; and
-- `--make` with a greater number, with a zero in front, without a value or with one that begins with `-`, and twice
abbrev pub NoCommandLines : Type 0
NoCommandLines =
    (options [] ≡ None) × (options ([] ∷ []) ≡ None) × (options (codes "a" ∷ codes "b" ∷ []) ≡ None)
    × (options (codes "--new" ∷ codes "--new" ∷ codes "a" ∷ []) ≡ None) × (options (codes "--mak=1" ∷ codes "a" ∷ []) ≡ None)
    × (options (codes "--new=" ∷ codes "a" ∷ []) ≡ None) × (options (codes "--new=x" ∷ codes "a" ∷ []) ≡ None)
    × (options (codes "--tick" ∷ codes "x" ∷ codes "a" ∷ []) ≡ None) × (options (codes "--tick=" ∷ codes "a" ∷ []) ≡ None)
    × (options (codes "--tick" ∷ codes "65537" ∷ codes "a" ∷ []) ≡ None) × (options (codes "--tick" ∷ codes "03" ∷ codes "a" ∷ []) ≡ None)
    × (options (codes "--tick" ∷ []) ≡ None) × (options (codes "--tick" ∷ codes "a" ∷ []) ≡ None)
    × (options (codes "--tick" ∷ codes "--new" ∷ codes "a" ∷ []) ≡ None) × (options (codes "--tick" ∷ codes "--" ∷ codes "a" ∷ []) ≡ None)
    × (options (codes "--tick" ∷ codes "1" ∷ codes "--tick" ∷ codes "1" ∷ codes "a" ∷ []) ≡ None)
    × (options ([] ∷ codes "a=f" ∷ []) ≡ None) × (options (codes "S" ∷ codes "a=" ∷ []) ≡ None) × (options (codes "S" ∷ codes "=f" ∷ []) ≡ None)
    × (options (codes "S" ∷ codes "a!=f" ∷ []) ≡ None) × (options (codes "S" ∷ codes "a=1" ∷ codes "b=1" ∷ codes "a=2" ∷ []) ≡ None)
    × (options (codes "S" ∷ map (λ letter. letter ∷ codes "=f") (codes "abcdefghijklmnopq")) ≡ None)
    × (options (codes "--make=18446744073709551616" ∷ codes "a" ∷ []) ≡ None) × (options (codes "--make=07" ∷ codes "a" ∷ []) ≡ None)
    × (options (codes "a" ∷ codes "--make" ∷ []) ≡ None) × (options (codes "--make" ∷ codes "-7" ∷ codes "a" ∷ []) ≡ None)
    × (options (codes "--make=7" ∷ codes "--make=7" ∷ codes "a" ∷ []) ≡ None)

-- of the numbers behind 7 the first is 9098160460397411210, whose high bits are 1059165278: so the first line that is
-- drawn is an `sln`
abbrev pub FirstDrawn : Type 0
FirstDrawn =
    (next_drawn 7 ≡ 9098160460397411210) × (next_drawn 7 / (2 ^ 33) ≡ 1059165278)
    × (drawn_lines 1 7 ≡ codes "sln /d1/f33 /s3" ∷ [])

-- the directories that a drawn script begins with
abbrev pub FirstMade : Type 0
FirstMade =
    (take 2 plain_lines ≡ codes "mkdir /d0" ∷ codes "mkdir /d1" ∷ []) × (drop 9 plain_lines ≡ codes "mkdir /d9" ∷ [])
    × (take 2 semantic_lines ≡ codes "smkdir /s0 w0" ∷ codes "smkdir /s1 {/s0} AND NOT w11 OR w1" ∷ [])
    × (drop 9 semantic_lines ≡ codes "smkdir /s9 {/s8} AND NOT w19 OR w9" ∷ [])

-- the payload of an event that can happen and is stored is no longer than a payload may be
abbrev pub EventsAreShort : Type 0
EventsAreShort =
    (s : State) (event : Event) → IsValid s → IsTrue (is_stored event) → IsTrue (accepted s event) →
    length (event_text s.version event) ≤ PAYLOAD_LIMIT

-- four bytes say how many the one has in which a checkpoint writes a valid state
abbrev pub StatesAreShort : Type 0
StatesAreShort = (s : State) → IsValid s → length (state_text (raised s)) < 2 ^ 32
