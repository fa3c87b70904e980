-- The test of a state says exactly whether it is valid.
use Rattle.std.proofs.Common.{◌≡◌, ℕ, suc, ◌≤◌, Bool, true, false, List, [], ◌∷◌, refl, ap, sym, ◌∙◌, inl, inr}
use Rattle.std.specs.Prelude.{◌+◌, ◌==◌, ◌||◌, if◌then◌else◌, not, map, filter, nat_lt, nat_le, Option, Some, None, IsTrue, is_none, is_some}
use Rattle.std.specs.Bool.{Decides}
use Rattle.std.specs.List.{AllByRecursion, list_all}
use Rattle.std.specs.Option.{option_map_or}
use Rattle.std.specs.Str.{bytes_eq}
use Rattle.std.proofs.lemmas.Bool.{and_from, and_parts, le-leb, leb-true, not-true}
use Rattle.std.proofs.lemmas.Bool.Decides.{Decides-and, Decides-like, Decides-ltb}
use Rattle.std.proofs.lemmas.Slice.Eq.{bytes_eq-Decides}
use Rattle.hac_model.specs.Query.Formula.{Formula}
use Rattle.hac_model.specs.Script.PathWords.{is_target}
use Rattle.hac_model.specs.Script.SpaceNames.{is_space_name}
use Rattle.hac_model.specs.Tree.Depends.{Among, IsAcyclic, Leads, depends, reaches}
use Rattle.hac_model.specs.Tree.Events.{may_ask}
use Rattle.hac_model.specs.Tree.Limits.{are_answers_few, is_text, passed_limit}
use Rattle.hac_model.specs.Tree.Links.{can_be_added, has, is_item}
use Rattle.hac_model.specs.Tree.Names.{is_name}
use Rattle.hac_model.specs.Tree.Sessions.{are_few}
use Rattle.hac_model.specs.Tree.{child, is_directory_at, query_in}
use Rattle.hac_model.specs.Tree.Valid.{AreMarks, AreSessions, AsksWell, IsLayout, IsSound, IsSoundFile, IsSoundQuery, IsValid, NamesDiffer, NumbersRise, RiseFrom, SessionsDiffer, IsAnswer, IsSoundMount, KeepsWell, TermsRise, has_few, is_document_of, is_in_place}
use Rattle.hac_model.specs.Tree.ValidTest.{are_marks, are_sessions, asks_well, do_names_differ, do_numbers_rise, do_rise_from, do_sessions_differ, is_acyclic, is_layout, is_sound, is_sound_file, is_sound_query, is_valid, returns, do_terms_rise, is_answer, is_sound_mount, keeps_well}
use Rattle.hac_model.specs.declared.states.Body.{Body}
use Rattle.hac_model.specs.declared.states.Body.TheVariants.{File, Dir, Symlink, Semantic, Mount, Document}
use Rattle.hac_model.specs.declared.states.Entry.{Entry}
use Rattle.hac_model.specs.declared.states.Session.{Session}
use Rattle.hac_model.specs.declared.states.State.{State}
use Rattle.hac_model.proofs.CycleLemmas.{among-any, any-among, reaches-told, reaches-walk}
use Rattle.hac_model.proofs.LinkLemmas.{edge-among, semantic_numbers}
use Rattle.hac_model.specs.Tree.Mounts.{is_kept, terms_in_use}
use Rattle.hac_model.specs.Query.Queries.{is_askable}
use Rattle.hac_model.specs.Query.Terms.{is_term_before}
use Rattle.hac_model.specs.declared.states.Answer.{Answer}
use Rattle.hac_model.specs.declared.terms.Term.{Term}

-- Tests of parts.

Decides-all : {X : Type 0} (p : X → Bool) (P : X → Type 0) → ((x : X) → Decides (p x) (P x)) → (xs : List X) → Decides (list_all p xs) (AllByRecursion P xs)
Decides-all p P each [] = (λ _. tt, λ _. refl)
Decides-all p P each (x ∷ xs) = Decides-and (p x) (list_all p xs) (each x) (Decides-all p P each xs)

Decides-test : (b : Bool) → Decides b (IsTrue b)
Decides-test b = (λ h. h, λ h. h)

Decides-false : (b : Bool) → Decides (not b) (b ≡ false)
Decides-false true = (λ h. absurd cc, λ h. absurd cc)
Decides-false false = (λ h. refl, λ h. refl)

Decides-none : {X : Type 0} (o : Option X) → Decides (is_none o) (o ≡ None)
Decides-none None = (λ h. refl, λ h. refl)
Decides-none (Some x) = (λ h. absurd cc, λ h. absurd cc)

Decides-within : (m n : ℕ) → Decides (nat_le m n) (m ≤ n)
Decides-within m n = (leb-true m n, le-leb m n)

-- Entries.

rise-Decides : (above : ℕ) (es : List Entry) (below : ℕ) → Decides (do_numbers_rise above es below) (NumbersRise above es below)
rise-Decides above [] below = Decides-ltb above below
rise-Decides above (e ∷ es) below = Decides-and (nat_lt above e.number) (do_numbers_rise e.number es below) (Decides-ltb above e.number) (rise-Decides e.number es below)

differ-Decides : (es : List Entry) → Decides (do_names_differ es) (NamesDiffer es)
differ-Decides [] = (λ _. tt, λ _. refl)
differ-Decides (e ∷ es) = Decides-and (is_none (child es e.parent e.name)) (do_names_differ es) (Decides-none (child es e.parent e.name)) (differ-Decides es)

shows-Decides : (text : List ℕ) (dirty : Bool) (shown : Option (List ℕ)) → Decides (dirty || option_map_or (λ shown. bytes_eq shown text) shown false) (dirty ≡ false → shown ≡ Some text)
shows-Decides text true shown = (λ _ clean. absurd cc, λ _. refl)
shows-Decides text false None = (λ h. absurd cc, λ h. let never : None ≡ Some text = h refl in absurd cc)
shows-Decides text false (Some other) =
    let same = bytes_eq-Decides other text in
    (λ h _. ap (λ (t : List ℕ). Some t) (same.0 h), λ h. let even : Some other ≡ Some text = h refl in let one : other ≡ text = cc in same.1 one)

file-Decides : (text : List ℕ) (dirty : Bool) (shown : Option (List ℕ)) → Decides (is_sound_file text dirty shown) (IsSoundFile text dirty shown)
file-Decides text dirty shown =
    Decides-like (is_sound_file text dirty shown)
    (λ h. record { fits = h.0.0; shown_fits = h.0.1; clean = h.1 })
    (λ h. ((h.fits, h.shown_fits), h.clean))
    (Decides-and _ _ (Decides-and _ _ (Decides-test (is_text text))
    (Decides-test (option_map_or is_text shown true)))
    (shows-Decides text dirty shown))

sound-Decides : (body : Body) → Decides (is_sound body) (IsSound body)
sound-Decides (File text dirty shown) = file-Decides text dirty shown
sound-Decides Dir = (λ _. tt, λ _. refl)
sound-Decides (Symlink target) = Decides-test (is_target target)
sound-Decides (Semantic query permanent prohibited) = (λ _. tt, λ _. refl)
sound-Decides (Mount space answers) = Decides-test (is_space_name space)
sound-Decides Document = (λ _. tt, λ _. refl)

layout-Decides : (s : State) → Decides (is_layout s) (IsLayout s)
unfolding is_layout
layout-Decides s =
    Decides-like (is_layout s)
    (λ h. record { numbers = h.0.0.0.0.0; names = h.0.0.0.0.1; places = h.0.0.0.1; differ = h.0.0.1; bodies = h.0.1; limits = h.1 })
    (λ h. (((((h.numbers, h.names), h.places), h.differ), h.bodies), h.limits))
    (Decides-and _ _ (Decides-and _ _ (Decides-and _ _ (Decides-and _ _ (Decides-and _ _ (rise-Decides 0 s.entries s.next)
    (Decides-all (λ e. is_name e.name) (λ e. IsTrue (is_name e.name)) (λ e. Decides-test (is_name e.name)) s.entries))
    (Decides-all (λ e. is_in_place s.entries e) (λ e. IsTrue (is_in_place s.entries e)) (λ e. Decides-test (is_in_place s.entries e)) s.entries))
    (differ-Decides s.entries))
    (Decides-all (λ e. is_sound e.body) (λ e. IsSound e.body) (λ e. sound-Decides e.body) s.entries))
    (Decides-none (passed_limit s)))

-- Queries and marks.

from-Decides : (bound : ℕ) (numbers : List ℕ) → Decides (do_rise_from bound numbers) (RiseFrom bound numbers)
from-Decides bound [] = (λ _. tt, λ _. refl)
from-Decides bound (n ∷ ns) = Decides-and (nat_le bound n) (do_rise_from (n + 1) ns) (Decides-within bound n) (from-Decides (n + 1) ns)

marks-Decides : (test : ℕ → Bool) (numbers : List ℕ) → Decides (are_marks test numbers) (AreMarks test numbers)
marks-Decides test numbers =
    Decides-like (are_marks test numbers)
    (λ h. record { rise = h.0; there = h.1 })
    (λ h. (h.rise, h.there))
    (Decides-and _ _ (from-Decides 0 numbers) (Decides-all (λ n. test n) (λ n. IsTrue (test n)) (λ n. Decides-test (test n)) numbers))

query-Decides : (s : State) (query : Formula ℕ) (permanent prohibited : List ℕ) → Decides (is_sound_query s query permanent prohibited) (IsSoundQuery s query permanent prohibited)
query-Decides s query permanent prohibited =
    Decides-like (is_sound_query s query permanent prohibited)
    (λ h. record { fits = h.0.0.0; added = h.0.0.1; removed = h.0.1; apart = h.1 })
    (λ h. (((h.fits, h.added), h.removed), h.apart))
    (Decides-and _ _ (Decides-and _ _ (Decides-and _ _ (Decides-test (may_ask s query))
    (marks-Decides (can_be_added s) permanent))
    (marks-Decides (is_item s) prohibited))
    (Decides-all (λ n. not (has prohibited n)) (λ n. has prohibited n ≡ false) (λ n. Decides-false (has prohibited n)) permanent))

asks-Decides : (s : State) (body : Body) → Decides (asks_well s body) (AsksWell s body)
asks-Decides s (Semantic query permanent prohibited) = query-Decides s query permanent prohibited
asks-Decides s (File text dirty shown) = (λ _. tt, λ _. refl)
asks-Decides s Dir = (λ _. tt, λ _. refl)
asks-Decides s (Symlink target) = (λ _. tt, λ _. refl)
asks-Decides s (Mount space answers) = (λ _. tt, λ _. refl)
asks-Decides s Document = (λ _. tt, λ _. refl)

-- Kept answers.

terms-Decides : (last : Option Term) (answers : List Answer) → Decides (do_terms_rise last answers) (TermsRise last answers)
terms-Decides last [] = (λ _. tt, λ _. refl)
terms-Decides last (answer ∷ answers) =
    Decides-and _ _ (Decides-test (option_map_or (λ before. is_term_before before answer.term) last true)) (terms-Decides (Some answer.term) answers)

answer-Decides : (s : State) (mount : ℕ) (answer : Answer) → Decides (is_answer s mount answer) (IsAnswer s mount answer)
answer-Decides s mount answer =
    Decides-like (is_answer s mount answer)
    (λ h. record { fits = h.0.0; rise = h.0.1; documents = h.1 })
    (λ h. ((h.fits, h.rise), h.documents))
    (Decides-and _ _ (Decides-and _ _ (Decides-test (is_askable answer.term)) (from-Decides 0 answer.documents))
    (Decides-all (λ n. is_document_of s mount n) (λ n. IsTrue (is_document_of s mount n)) (λ n. Decides-test (is_document_of s mount n)) answer.documents))

mount-Decides : (s : State) (mount : ℕ) (answers : List Answer) → Decides (is_sound_mount s mount answers) (IsSoundMount s mount answers)
mount-Decides s mount answers =
    Decides-like (is_sound_mount s mount answers)
    (λ h. record { few = h.0.0.0; rise = h.0.0.1; sound = h.0.1; all = h.1 })
    (λ h. (((h.few, h.rise), h.sound), h.all))
    (Decides-and _ _ (Decides-and _ _ (Decides-and _ _ (Decides-test (has_few s.version s.entries mount)) (terms-Decides None answers))
    (Decides-all (is_answer s mount) (IsAnswer s mount) (answer-Decides s mount) answers))
    (Decides-all (λ term. is_kept answers term) (λ term. IsTrue (is_kept answers term)) (λ term. Decides-test (is_kept answers term)) (terms_in_use s.entries)))

keeps-Decides : (s : State) (mount : ℕ) (body : Body) → Decides (keeps_well s mount body) (KeepsWell s mount body)
keeps-Decides s mount (Mount space answers) = mount-Decides s mount answers
keeps-Decides s mount (Semantic query permanent prohibited) = (λ _. tt, λ _. refl)
keeps-Decides s mount (File text dirty shown) = (λ _. tt, λ _. refl)
keeps-Decides s mount Dir = (λ _. tt, λ _. refl)
keeps-Decides s mount (Symlink target) = (λ _. tt, λ _. refl)
keeps-Decides s mount Document = (λ _. tt, λ _. refl)

-- Cycles.

returns-Decides : (s : State) (d : ℕ) → Decides (returns s d) ((k : ℕ) × Leads (depends s) (suc k) d d)
returns-Decides s d = (towards, back)
  where
    towards : returns s d ≡ true → (k : ℕ) × Leads (depends s) (suc k) d d
    towards h =
        let next = among-any (λ next. reaches s next d) (depends s d) h in
        let walk = reaches-walk s next.0 d next.2 in
        (walk.0, (next.0, next.1, walk.1))

    back : (k : ℕ) × Leads (depends s) (suc k) d d → returns s d ≡ true
    back (k, (next, edge, more)) = any-among (λ next. reaches s next d) (depends s d) next edge (reaches-told s next d (k, more))

-- what is tested of all entries is tested of each semantic directory
pub all-numbered : (test : ℕ → Bool) (es : List Entry) (n : ℕ) → list_all (λ e. test e.number) es ≡ true → Among (semantic_numbers es) n → test n ≡ true
all-numbered test [] n h inside = absurd inside
all-numbered test (e ∷ es) n h inside =
    let parts = and_parts (test e.number) (list_all (λ e. test e.number) es) h in
    among (is_some (query_in e.body)) parts.0 (λ more. all-numbered test es n parts.1 more) inside
  where
    among : (b : Bool) → test e.number ≡ true → (Among (semantic_numbers es) n → test n ≡ true)
        → Among (map (λ (e : Entry). e.number) (if b then e ∷ filter (λ (e : Entry). is_some (query_in e.body)) es else filter (λ (e : Entry). is_some (query_in e.body)) es)) n → test n ≡ true
    among true here later (inl same) = ap test (sym same) ∙ here
    among true here later (inr more) = later more
    among false here later more = later more

pub all-tested : (test : Entry → Bool) (es : List Entry) → ((e : Entry) → test e ≡ true) → list_all test es ≡ true
all-tested test [] each = refl
all-tested test (e ∷ es) each = and_from (test e) (list_all test es) (each e) (all-tested test es each)

pub acyclic-Decides : (s : State) → Decides (is_acyclic s) (IsAcyclic s)
unfolding is_acyclic
acyclic-Decides s = (towards, back)
  where
    towards : list_all (λ e. not (returns s e.number)) s.entries ≡ true → IsAcyclic s
    towards h k d (next, edge, more) =
        let apart : returns s d ≡ false = not-true (returns s d) (all-numbered (λ n. not (returns s n)) s.entries d h (edge-among s d next edge)) in
        let there : returns s d ≡ true = (returns-Decides s d).1 (k, (next, edge, more)) in
        let never : true ≡ false = sym there ∙ apart in cc

    apart : IsAcyclic s → (d : ℕ) → not (returns s d) ≡ true
    apart acyclic d = elim (returns s d) as (λ b. returns s d ≡ b → not b ≡ true) [
      | true ↦ (λ there. let walk = (returns-Decides s d).0 there in absurd (acyclic walk.0 d walk.1))
      | false ↦ (λ other. refl)
    ] refl

    back : IsAcyclic s → list_all (λ e. not (returns s e.number)) s.entries ≡ true
    back acyclic = all-tested (λ e. not (returns s e.number)) s.entries (λ e. apart acyclic e.number)

-- Sessions.

sessions_differ-Decides : (ss : List Session) → Decides (do_sessions_differ ss) (SessionsDiffer ss)
sessions_differ-Decides [] = (λ _. tt, λ _. refl)
sessions_differ-Decides (session ∷ ss) =
    Decides-and _ _ (Decides-all (λ other. not (bytes_eq session.name other.name)) (λ other. bytes_eq session.name other.name ≡ false) (λ other. Decides-false (bytes_eq session.name other.name)) ss) (sessions_differ-Decides ss)

sessions-Decides : (s : State) → Decides (are_sessions s) (AreSessions s)
unfolding are_sessions
sessions-Decides s =
    Decides-like (are_sessions s)
    (λ h. record { names = h.0.0.0.0; differ = h.0.0.0.1; there = h.0.0.1; elsewhere = h.0.1; few = h.1 })
    (λ h. ((((h.names, h.differ), h.there), h.elsewhere), h.few))
    (Decides-and _ _ (Decides-and _ _ (Decides-and _ _ (Decides-and _ _ (Decides-all (λ session. is_space_name session.name) (λ session. IsTrue (is_space_name session.name)) (λ session. Decides-test (is_space_name session.name)) s.sessions)
    (sessions_differ-Decides s.sessions))
    (Decides-all (λ session. is_directory_at s.entries session.dir) (λ session. IsTrue (is_directory_at s.entries session.dir)) (λ session. Decides-test (is_directory_at s.entries session.dir)) s.sessions))
    (Decides-all (λ session. not (session.dir == 0)) (λ session. (session.dir == 0) ≡ false) (λ session. Decides-false (session.dir == 0)) s.sessions))
    (Decides-test (are_few s.version s.sessions)))

-- All together.

pub valid-Decides : (s : State) → Decides (is_valid s) (IsValid s)
unfolding is_valid
valid-Decides s =
    Decides-like (is_valid s)
    (λ h. record { layout = h.0.0.0.0.0; queries = h.0.0.0.0.1; answers = h.0.0.0.1; few = h.0.0.1; acyclic = h.0.1; sessions = h.1 })
    (λ h. (((((h.layout, h.queries), h.answers), h.few), h.acyclic), h.sessions))
    (Decides-and _ _ (Decides-and _ _ (Decides-and _ _ (Decides-and _ _ (Decides-and _ _ (layout-Decides s)
    (Decides-all (λ e. asks_well s e.body) (λ e. AsksWell s e.body) (λ e. asks-Decides s e.body) s.entries))
    (Decides-all (λ e. keeps_well s e.number e.body) (λ e. KeepsWell s e.number e.body) (λ e. keeps-Decides s e.number e.body) s.entries))
    (Decides-test (are_answers_few s.entries)))
    (acyclic-Decides s))
    (sessions-Decides s))
