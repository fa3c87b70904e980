-- Sessions stay sound, and what an event does to them.
use Rattle.hac_model.specs.declared.events.Event.TheVariants.{Smount, Ssync, Sumount}
use Rattle.hac_model.specs.Tree.Mounting.{answers_to}
use Rattle.hac_model.specs.Tree.Mounts.{terms_to_ask}
use Rattle.hac_model.specs.Tree.Asking.{with_told}
use Rattle.hac_model.proofs.GainLemmas.{directory-told}
use Rattle.hac_model.proofs.LayoutLemmas.{sumount-parts}
use Rattle.hac_model.proofs.MountAskLemmas.{mounted-sessions, synced-sessions, unmounted-sessions}
use Rattle.std.proofs.Common.{◌≡◌, ℕ, Bool, true, false, List, [], ◌∷◌, ◌++◌, cond, filter, refl, sym, subst, ◌∙◌, append-nil}
use Rattle.std.specs.Prelude.{◌==◌, ◌&&◌, not, if◌then◌else◌, Some, None, IsTrue}
use Rattle.std.specs.List.{AllByRecursion}
use Rattle.std.specs.Option.{option_map_or}
use Rattle.std.specs.Str.{bytes_eq}
use Rattle.std.proofs.lemmas.Bool.{and_parts, eqb-false, or_parts}
use Rattle.hac_model.specs.Tree.Events.{accepted, apply, asking, changed_at, edited, forgetting, indexed, is_possible, marked, next_dirty, plain_body, reseated, rewritten}
use Rattle.hac_model.specs.Tree.Limits.{passed_limit}
use Rattle.hac_model.specs.Tree.Sessions.{are_few, is_busy, sessions_after, sessions_with, stands_in}
use Rattle.hac_model.specs.Tree.{is_directory_at}
use Rattle.hac_model.specs.Tree.Valid.{AreSessions, IsValid, SessionsDiffer}
use Rattle.hac_model.specs.Script.SpaceNames.{is_space_name}
use Rattle.hac_model.specs.declared.events.Event.{Event}
use Rattle.hac_model.specs.declared.events.Event.TheVariants.{Mkdir, NewFile, Rewrite, Ln, Mark, Mv, Rm, Rmdir, Setq, Smkdir, Step, Unq, Cd}
use Rattle.hac_model.specs.declared.states.Body.TheVariants.{File, Dir, Symlink, Semantic}
use Rattle.hac_model.specs.declared.states.Session.{Session}
use Rattle.hac_model.specs.declared.states.State.{State}
use Rattle.hac_model.proofs.AskLemmas.{added-directories, edited-directories, leaf-no_directory}
use Rattle.hac_model.proofs.ChangeLemmas.{all-append, all-filter, directory-changed, directory-kept, is_kept}
use Rattle.hac_model.proofs.MapLemmas.{directory-mapped}
use Rattle.hac_model.proofs.StayLemmas.{sessions-stay, sessions-there}
use Rattle.hac_model.proofs.ValidLemmas.{accepted-parts, rmdir-parts}
use Rattle.hac_model.proofs.KindLemmas.{role-forgetting, role-asking, role-indexed, role-marked, role-plain, role-rewritten, keeps-directory}

-- only an event of a session changes sessions
pub sessions-follow : (s : State) (event : Event) → (apply s event).sessions ≡ sessions_after event s.sessions
sessions-follow s Step = elim (next_dirty s.entries) as (λ o. (option_map_or (λ file. changed_at s file (edited indexed)) o s).sessions ≡ s.sessions) [ None ↦ refl | Some file ↦ refl ]
sessions-follow s other = refl

-- where a session stands there is a directory
pub session-there : (s : State) (sessions : List Session) (name : List ℕ) → AllByRecursion (λ session. IsTrue (is_directory_at s.entries session.dir)) sessions → is_directory_at s.entries (stands_in sessions name) ≡ true
session-there s [] name there = refl
session-there s (session ∷ sessions) name there =
    elim (bytes_eq session.name name) as (λ b. is_directory_at s.entries (if b then session.dir else stands_in sessions name) ≡ true) [
      | true ↦ there.0
      | false ↦ session-there s sessions name there.1
    ]

-- nobody stands in a directory that isn't busy
not-there : (s : State) (dir : ℕ) (sessions : List Session) → is_busy sessions dir ≡ false → AllByRecursion (λ session. IsTrue (is_directory_at s.entries session.dir)) sessions →
    AllByRecursion (λ session. IsTrue (is_directory_at (filter (is_kept dir) s.entries) session.dir)) sessions
not-there s dir [] idle there = tt
not-there s dir (session ∷ sessions) idle there =
    let parts = or_parts (session.dir == dir) (is_busy sessions dir) idle in
    (directory-kept dir s.entries session.dir (λ same. eqb-false session.dir dir parts.0 (sym same)) ∙ there.0, not-there s dir sessions parts.1 there.1)

-- A session that stands in another directory.

module _ (name : List ℕ) (dir : ℕ) where
  abbrev is_other : Session → Bool
  is_other session = not (bytes_eq session.name name)

  all-with : (P : Session → Type 0) (sessions : List Session) → AllByRecursion P sessions → ((dir == 0) ≡ false → P (record { name = name; dir = dir })) → AllByRecursion P (sessions_with name dir sessions)
  all-with P sessions h new =
      let rest = all-filter P is_other sessions h in
      elim (dir == 0) as (λ b. (dir == 0) ≡ b → AllByRecursion P (filter is_other sessions ++ (if b then [] else record { name = name; dir = dir } ∷ []))) [
        | true ↦ (λ _. subst (AllByRecursion P) (sym (append-nil (filter is_other sessions))) rest)
        | false ↦ (λ elsewhere. all-append P (filter is_other sessions) (record { name = name; dir = dir }) rest (new elsewhere))
      ] refl

  differ-filter : (sessions : List Session) → SessionsDiffer sessions → SessionsDiffer (filter is_other sessions)
  differ-filter [] h = tt
  differ-filter (session ∷ sessions) h =
      let rest = differ-filter sessions h.1 in
      elim (is_other session) as (λ b. SessionsDiffer (cond b (session ∷ filter is_other sessions) (filter is_other sessions))) [
        | true ↦ (all-filter (λ other. bytes_eq session.name other.name ≡ false) is_other sessions h.0, rest)
        | false ↦ rest
      ]

  differ-append : (sessions : List Session) → SessionsDiffer sessions → AllByRecursion (λ session. bytes_eq session.name name ≡ false) sessions → SessionsDiffer (sessions ++ record { name = name; dir = dir } ∷ [])
  differ-append [] h apart = (tt, tt)
  differ-append (session ∷ sessions) h apart =
      (all-append (λ other. bytes_eq session.name other.name ≡ false) sessions (record { name = name; dir = dir }) h.0 apart.0, differ-append sessions h.1 apart.1)

  others-apart : (sessions : List Session) → AllByRecursion (λ session. bytes_eq session.name name ≡ false) (filter is_other sessions)
  others-apart [] = tt
  others-apart (session ∷ sessions) =
      elim (bytes_eq session.name name) as (λ b. bytes_eq session.name name ≡ b → AllByRecursion (λ session. bytes_eq session.name name ≡ false) (cond (not b) (session ∷ filter is_other sessions) (filter is_other sessions))) [
        | true ↦ (λ _. others-apart sessions)
        | false ↦ (λ other. (other, others-apart sessions))
      ] refl

  differ-with : (sessions : List Session) → SessionsDiffer sessions → SessionsDiffer (sessions_with name dir sessions)
  differ-with sessions h =
      let rest = differ-filter sessions h in
      elim (dir == 0) as (λ b. SessionsDiffer (filter is_other sessions ++ (if b then [] else record { name = name; dir = dir } ∷ []))) [
        | true ↦ subst SessionsDiffer (sym (append-nil (filter is_other sessions))) rest
        | false ↦ differ-append (filter is_other sessions) rest (others-apart sessions)
      ]

-- what is asked of an event that moves a session
pub cd-parts : (s : State) (session : List ℕ) (dir : ℕ) → is_possible s (Cd session dir) ≡ true → (is_space_name session ≡ true) × (is_directory_at s.entries dir ≡ true) × (are_few s.version (sessions_with session dir s.sessions) ≡ true)
cd-parts s session dir h =
    let both = and_parts (are_few s.version (sessions_with session dir s.sessions)) (is_space_name session && is_directory_at s.entries dir) h in
    let placed = and_parts (is_space_name session) (is_directory_at s.entries dir) both.1 in
    (placed.0, placed.1, both.0)

moved : (s : State) (session : List ℕ) (dir : ℕ) → AreSessions s → is_space_name session ≡ true → is_directory_at s.entries dir ≡ true → are_few s.version (sessions_with session dir s.sessions) ≡ true → AreSessions (apply s (Cd session dir))
moved s session dir h named there few = record {
  names = all-with session dir (λ other. IsTrue (is_space_name other.name)) s.sessions h.names (λ _. named);
  differ = differ-with session dir s.sessions h.differ;
  there = all-with session dir (λ other. IsTrue (is_directory_at s.entries other.dir)) s.sessions h.there (λ _. there);
  elsewhere = all-with session dir (λ other. (other.dir == 0) ≡ false) s.sessions h.elsewhere (λ elsewhere. elsewhere);
  few = few;
}

-- sessions stay sound
pub apply-sessions : (s : State) (event : Event) → IsValid s → IsTrue (accepted s event) → AreSessions (apply s event)
apply-sessions s (Mkdir dir name) h ok = sessions-stay s (apply s (Mkdir dir name)) refl refl h.sessions (added-directories s dir name Dir)
apply-sessions s (NewFile dir name text) h ok = sessions-stay s (apply s (NewFile dir name text)) refl refl h.sessions (added-directories s dir name (File text true None))
apply-sessions s (Rewrite file text) h ok = sessions-stay s (apply s (Rewrite file text)) refl refl h.sessions (edited-directories s file (rewritten text) (keeps-directory (rewritten text) (role-rewritten text)))
apply-sessions s (Ln dir name target) h ok = sessions-stay s (apply s (Ln dir name target)) refl refl h.sessions (added-directories s dir name (Symlink target))
apply-sessions s (Smkdir dir name query told) h ok =
    sessions-stay s (apply s (Smkdir dir name query told)) refl refl h.sessions (λ d there. added-directories (with_told query told s) dir name (Semantic query [] []) d (directory-told s query told d ∙ there))
apply-sessions s (Setq dir query told) h ok =
    sessions-stay s (apply s (Setq dir query told)) refl refl h.sessions (λ d there. edited-directories (with_told query told s) dir (asking query) (keeps-directory (asking query) (role-asking query)) d (directory-told s query told d ∙ there))
apply-sessions s (Unq dir) h ok = sessions-stay s (apply s (Unq dir)) refl refl h.sessions (edited-directories s dir plain_body (keeps-directory plain_body role-plain))
apply-sessions s (Mark mark) h ok = sessions-stay s (apply s (Mark mark)) refl refl h.sessions (edited-directories s mark.dir (marked mark.item mark.kind) (keeps-directory (marked mark.item mark.kind) (role-marked mark.item mark.kind)))
apply-sessions s (Mv entry dir name) h ok =
    sessions-stay s (apply s (Mv entry dir name)) refl refl h.sessions (λ d there. directory-changed entry (reseated dir name) s.entries d (λ e. refl) (λ e. refl) ∙ there)
apply-sessions s (Rm file) h ok =
    let possible = (accepted-parts (is_possible s (Rm file)) (passed_limit (apply s (Rm file))) ok).0 in
    sessions-stay s (apply s (Rm file)) refl refl h.sessions (λ d there.
    directory-mapped (forgetting file) (filter (is_kept file) s.entries) d (keeps-directory (forgetting file) (role-forgetting file))
    ∙ directory-kept file s.entries d (leaf-no_directory s file d h.layout possible there) ∙ there)
apply-sessions s (Rmdir dir) h ok =
    let possible = (accepted-parts (is_possible s (Rmdir dir)) (passed_limit (apply s (Rmdir dir))) ok).0 in
    sessions-there s (apply s (Rmdir dir)) refl refl h.sessions (not-there s dir s.sessions (rmdir-parts s dir possible).3 h.sessions.there)
apply-sessions s Step h ok =
    elim (next_dirty s.entries) as (λ o. AreSessions (option_map_or (λ file. changed_at s file (edited indexed)) o s)) [
      | None ↦ h.sessions
      | Some file ↦ sessions-stay s (changed_at s file (edited indexed)) refl refl h.sessions (edited-directories s file indexed (keeps-directory indexed role-indexed))
    ]
apply-sessions s (Cd session dir) h ok =
    let parts = cd-parts s session dir (accepted-parts (is_possible s (Cd session dir)) (passed_limit (apply s (Cd session dir))) ok).0 in
    moved s session dir h.sessions parts.0 parts.1 parts.2
apply-sessions s (Smount dir name space documents told) h ok = mounted-sessions s dir name space (answers_to (terms_to_ask s.entries) told) documents h
apply-sessions s (Ssync mount documents told) h ok = synced-sessions s mount (answers_to (terms_to_ask s.entries) told) documents h
apply-sessions s (Sumount mount) h ok =
    let parts = sumount-parts s mount (accepted-parts (is_possible s (Sumount mount)) (passed_limit (apply s (Sumount mount))) ok).0 in
    unmounted-sessions s mount h parts.0 parts.2
