-- Which states there can be.
use Rattle.std.specs.Prelude.{◌≡◌, ℕ, ◌<◌, ◌≤◌, ◌+◌, ◌==◌, if◌then◌else◌, filter, length, nat_le, Bool, true, false, List, [], ◌∷◌, Option, Some, None, IsTrue}
use Rattle.std.specs.List.{AllByRecursion}
use Rattle.std.specs.Option.{option_map_or}
use Rattle.std.specs.Str.{bytes_eq}
use Rattle.hac_model.specs.Tree.Depends.{IsAcyclic}
use Rattle.hac_model.specs.Query.Formula.{Formula}
use Rattle.hac_model.specs.Tree.Limits.{are_answers_few, is_text, passed_limit}
pub use Rattle.hac_model.specs.Tree.Mounting.{is_document_of}
use Rattle.hac_model.specs.Tree.Mounts.{is_kept, terms_in_use}
use Rattle.hac_model.specs.Tree.Names.{is_name}
use Rattle.hac_model.specs.Tree.Sessions.{are_few}
use Rattle.hac_model.specs.Script.PathWords.{is_target}
use Rattle.hac_model.specs.Script.SpaceNames.{is_space_name}
use Rattle.hac_model.specs.Tree.Events.{may_ask}
use Rattle.hac_model.specs.Query.Queries.{is_askable}
use Rattle.hac_model.specs.Query.Terms.{is_term_before}
use Rattle.hac_model.specs.Tree.Links.{can_be_added, has, is_item}
use Rattle.hac_model.specs.Tree.{child, is_directory_at, is_document, is_holder_at, is_mount_at}
use Rattle.hac_model.specs.Versions.{docs_limit}
use Rattle.hac_model.specs.declared.states.Answer.{Answer}
use Rattle.hac_model.specs.declared.states.Body.{Body}
use Rattle.hac_model.specs.declared.states.Body.TheVariants.{File, Dir, Symlink, Semantic, Mount, Document}
use Rattle.hac_model.specs.declared.states.Entry.{Entry}
use Rattle.hac_model.specs.declared.states.Session.{Session}
use Rattle.hac_model.specs.declared.states.State.{State}
use Rattle.hac_model.specs.declared.terms.Term.{Term}
use Rattle.hac_model.specs.declared.versions.Version.{Version}

-- the numbers of the entries rise, above one number and below another
abbrev pub NumbersRise : ℕ → List Entry → ℕ → Type 0
NumbersRise above [] below = above < below
NumbersRise above (entry ∷ entries) below = (above < entry.number) × NumbersRise entry.number entries below

-- no two entries of a directory have one name
abbrev pub NamesDiffer : List Entry → Type 0
NamesDiffer [] = Unit {0}
NamesDiffer (entry ∷ entries) = (child entries entry.parent entry.name ≡ None) × NamesDiffer entries

-- a clean file shows its text, so one that was never indexed is dirty
pub record IsSoundFile (text : List ℕ) (dirty : Bool) (shown : Option (List ℕ)) : Type 0 where
  pub fits : IsTrue (is_text text)
  pub shown_fits : IsTrue (option_map_or is_text shown true)
  pub clean : dirty ≡ false → shown ≡ Some text

-- an entry is where its kind may be: a document in a mount, and anything else in a directory that is none
abbrev pub is_in_place : List Entry → Entry → Bool
is_in_place entries entry = if is_document entry.body then is_mount_at entries entry.parent else is_holder_at entries entry.parent

-- the parts of a body fit together
abbrev pub IsSound : Body → Type 0
IsSound (File text dirty shown) = IsSoundFile text dirty shown
IsSound Dir = Unit {0}
IsSound (Symlink target) = IsTrue (is_target target)
IsSound (Semantic query permanent prohibited) = Unit {0}
IsSound (Mount space answers) = IsTrue (is_space_name space)
IsSound Document = Unit {0}

-- the entries are sound, and they fit one another and the next number: the tree without its queries
pub record IsLayout (s : State) : Type 0 where
  pub numbers : NumbersRise 0 s.entries s.next
  pub names : AllByRecursion (λ entry. IsTrue (is_name entry.name)) s.entries
  pub places : AllByRecursion (λ entry. IsTrue (is_in_place s.entries entry)) s.entries
  pub differ : NamesDiffer s.entries
  pub bodies : AllByRecursion (λ entry. IsSound entry.body) s.entries
  -- so each path is short, which is to say that steps over parents end at the root
  pub limits : passed_limit s ≡ None

-- numbers that rise, from a bound on
abbrev pub RiseFrom : ℕ → List ℕ → Type 0
RiseFrom bound [] = Unit {0}
RiseFrom bound (number ∷ numbers) = (bound ≤ number) × RiseFrom (number + 1) numbers

-- marks are on what can have them, each once
pub record AreMarks (test : ℕ → Bool) (numbers : List ℕ) : Type 0 where
  pub rise : RiseFrom 0 numbers
  pub there : AllByRecursion (λ number. IsTrue (test number)) numbers

-- a directory may ask its query, items and directories were added, items were removed, and none is both
pub record IsSoundQuery (s : State) (query : Formula ℕ) (permanent prohibited : List ℕ) : Type 0 where
  pub fits : IsTrue (may_ask s query)
  pub added : AreMarks (can_be_added s) permanent
  pub removed : AreMarks (is_item s) prohibited
  pub apart : AllByRecursion (λ number. has prohibited number ≡ false) permanent

abbrev pub AsksWell : State → Body → Type 0
AsksWell s (Semantic query permanent prohibited) = IsSoundQuery s query permanent prohibited
AsksWell s other = Unit {0}

-- the terms rise, each coming after this one if there is one
abbrev pub TermsRise : Option Term → List Answer → Type 0
TermsRise last [] = Unit {0}
TermsRise last (answer ∷ answers) =
    IsTrue (option_map_or (λ before. is_term_before before answer.term) last true) × TermsRise (Some answer.term) answers

-- an answer names documents of the mount, each once, and its term is one that texts can have
pub record IsAnswer (s : State) (mount : ℕ) (answer : Answer) : Type 0 where
  pub fits : IsTrue (is_askable answer.term)
  pub rise : RiseFrom 0 answer.documents
  pub documents : AllByRecursion (λ number. IsTrue (is_document_of s mount number)) answer.documents

-- the directory has no more entries than a mount may have documents
abbrev pub has_few : Version → List Entry → ℕ → Bool
has_few version entries dir = nat_le (length (filter (λ entry. entry.parent == dir) entries)) (docs_limit version)

-- a mount has no more documents than it may, and keeps one answer for a term at most, and one for each term in use
pub record IsSoundMount (s : State) (mount : ℕ) (answers : List Answer) : Type 0 where
  pub few : IsTrue (has_few s.version s.entries mount)
  pub rise : TermsRise None answers
  pub sound : AllByRecursion (IsAnswer s mount) answers
  pub all : AllByRecursion (λ term. IsTrue (is_kept answers term)) (terms_in_use s.entries)

abbrev pub KeepsWell : State → ℕ → Body → Type 0
KeepsWell s mount (Mount space answers) = IsSoundMount s mount answers
KeepsWell s mount other = Unit {0}

-- no two sessions have one name
abbrev pub SessionsDiffer : List Session → Type 0
SessionsDiffer [] = Unit {0}
SessionsDiffer (session ∷ sessions) =
    AllByRecursion (λ other. bytes_eq session.name other.name ≡ false) sessions × SessionsDiffer sessions

-- the sessions that stand elsewhere than in the root are in directories, each once
pub record AreSessions (s : State) : Type 0 where
  pub names : AllByRecursion (λ session. IsTrue (is_space_name session.name)) s.sessions
  pub differ : SessionsDiffer s.sessions
  pub there : AllByRecursion (λ session. IsTrue (is_directory_at s.entries session.dir)) s.sessions
  pub elsewhere : AllByRecursion (λ session. (session.dir == 0) ≡ false) s.sessions
  pub few : IsTrue (are_few s.version s.sessions)

-- a tree whose queries, marks, kept answers and sessions are sound too
pub record IsValid (s : State) : Type 0 where
  pub layout : IsLayout s
  pub queries : AllByRecursion (λ entry. AsksWell s entry.body) s.entries
  pub answers : AllByRecursion (λ entry. KeepsWell s entry.number entry.body) s.entries
  pub few : IsTrue (are_answers_few s.entries)
  pub acyclic : IsAcyclic s
  pub sessions : AreSessions s
