-- Whether a state is valid, as a test that can be computed: one for each of the definitions of `Valid`.
use Rattle.std.specs.Prelude.{ℕ, ◌==◌, ◌&&◌, ◌||◌, not, nat_lt, Bool, true, false, List, [], ◌∷◌, Option, Some, None, is_none}
use Rattle.std.specs.List.{list_all, list_any}
use Rattle.std.specs.Option.{option_map_or}
use Rattle.std.specs.Str.{bytes_eq}
use Rattle.hac_model.specs.Query.Formula.{Formula}
use Rattle.hac_model.specs.Script.PathWords.{is_target}
use Rattle.hac_model.specs.Script.SpaceNames.{is_space_name}
use Rattle.hac_model.specs.Tree.Depends.{depends, reaches}
use Rattle.hac_model.specs.Tree.Events.{may_ask}
use Rattle.hac_model.specs.Query.Queries.{is_askable}
use Rattle.hac_model.specs.Query.Terms.{is_term_before}
use Rattle.hac_model.specs.Tree.Limits.{are_answers_few, is_text, passed_limit}
pub use Rattle.hac_model.specs.Tree.Mounting.{do_rise_from}
use Rattle.hac_model.specs.Tree.Mounts.{is_kept, terms_in_use}
use Rattle.hac_model.specs.Tree.Valid.{has_few, is_document_of, is_in_place}
use Rattle.hac_model.specs.Tree.Links.{can_be_added, has, is_item}
use Rattle.hac_model.specs.Tree.Names.{is_name}
use Rattle.hac_model.specs.Tree.Sessions.{are_few}
use Rattle.hac_model.specs.Tree.{child, is_directory_at}
use Rattle.hac_model.specs.declared.states.Answer.{Answer}
use Rattle.hac_model.specs.declared.states.Body.{Body}
use Rattle.hac_model.specs.declared.states.Body.TheVariants.{File, Dir, Symlink, Semantic, Mount, Document}
use Rattle.hac_model.specs.declared.states.Entry.{Entry}
use Rattle.hac_model.specs.declared.states.Session.{Session}
use Rattle.hac_model.specs.declared.states.State.{State}
use Rattle.hac_model.specs.declared.terms.Term.{Term}

-- the numbers of the entries rise, above one number and below another
abbrev pub do_numbers_rise : ℕ → List Entry → ℕ → Bool
do_numbers_rise above [] below = nat_lt above below
do_numbers_rise above (entry ∷ entries) below = nat_lt above entry.number && do_numbers_rise entry.number entries below

-- no two entries of a directory have one name
abbrev pub do_names_differ : List Entry → Bool
do_names_differ [] = true
do_names_differ (entry ∷ entries) = is_none (child entries entry.parent entry.name) && do_names_differ entries

-- a clean file shows its text
abbrev pub is_sound_file : List ℕ → Bool → Option (List ℕ) → Bool
is_sound_file text dirty shown =
    is_text text && option_map_or is_text shown true && (dirty || option_map_or (λ shown. bytes_eq shown text) shown false)

-- the parts of a body fit together
abbrev pub is_sound : Body → Bool
is_sound (File text dirty shown) = is_sound_file text dirty shown
is_sound Dir = true
is_sound (Symlink target) = is_target target
is_sound (Semantic query permanent prohibited) = true
is_sound (Mount space answers) = is_space_name space
is_sound Document = true

-- the entries are sound, and they fit one another and the next number
unfoldable pub is_layout : State → Bool
is_layout s =
    do_numbers_rise 0 s.entries s.next
    && list_all (λ entry. is_name entry.name) s.entries
    && list_all (λ entry. is_in_place s.entries entry) s.entries
    && do_names_differ s.entries
    && list_all (λ entry. is_sound entry.body) s.entries
    && is_none (passed_limit s)

-- marks are on what can have them, each once
abbrev pub are_marks : (ℕ → Bool) → List ℕ → Bool
are_marks test numbers = do_rise_from 0 numbers && list_all (λ number. test number) numbers

-- a directory may ask its query, items and directories were added, items were removed, and none is both
abbrev pub is_sound_query : State → Formula ℕ → List ℕ → List ℕ → Bool
is_sound_query s query permanent prohibited =
    may_ask s query && are_marks (can_be_added s) permanent && are_marks (is_item s) prohibited
    && list_all (λ number. not (has prohibited number)) permanent

abbrev pub asks_well : State → Body → Bool
asks_well s (Semantic query permanent prohibited) = is_sound_query s query permanent prohibited
asks_well s other = true

-- the terms rise, each coming after this one if there is one
abbrev pub do_terms_rise : Option Term → List Answer → Bool
do_terms_rise last [] = true
do_terms_rise last (answer ∷ answers) =
    option_map_or (λ before. is_term_before before answer.term) last true && do_terms_rise (Some answer.term) answers

-- an answer names documents of the mount, each once, and its term is one that texts can have
abbrev pub is_answer : State → ℕ → Answer → Bool
is_answer s mount answer =
    is_askable answer.term && do_rise_from 0 answer.documents
    && list_all (λ number. is_document_of s mount number) answer.documents

-- a mount has no more documents than it may, and keeps one answer for a term at most, and one for each term in use
abbrev pub is_sound_mount : State → ℕ → List Answer → Bool
is_sound_mount s mount answers =
    has_few s.version s.entries mount && do_terms_rise None answers && list_all (is_answer s mount) answers
    && list_all (λ term. is_kept answers term) (terms_in_use s.entries)

abbrev pub keeps_well : State → ℕ → Body → Bool
keeps_well s mount (Mount space answers) = is_sound_mount s mount answers
keeps_well s mount other = true

-- the directory depends on one that depends on it
abbrev pub returns : State → ℕ → Bool
returns s dir = list_any (λ next. reaches s next dir) (depends s dir)

-- no directory depends on itself
unfoldable pub is_acyclic : State → Bool
is_acyclic s = list_all (λ entry. not (returns s entry.number)) s.entries

-- no two sessions have one name
abbrev pub do_sessions_differ : List Session → Bool
do_sessions_differ [] = true
do_sessions_differ (session ∷ sessions) =
    list_all (λ other. not (bytes_eq session.name other.name)) sessions && do_sessions_differ sessions

-- the sessions that stand elsewhere than in the root are in directories, each once
unfoldable pub are_sessions : State → Bool
are_sessions s =
    list_all (λ session. is_space_name session.name) s.sessions
    && do_sessions_differ s.sessions
    && list_all (λ session. is_directory_at s.entries session.dir) s.sessions
    && list_all (λ session. not (session.dir == 0)) s.sessions
    && are_few s.version s.sessions

-- the state is valid
unfoldable pub is_valid : State → Bool
is_valid s =
    is_layout s && list_all (λ entry. asks_well s entry.body) s.entries
    && list_all (λ entry. keeps_well s entry.number entry.body) s.entries && are_answers_few s.entries
    && is_acyclic s && are_sessions s
