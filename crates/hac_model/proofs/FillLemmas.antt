-- A state is its bare tree joined with its facts and its sessions.
use Rattle.std.proofs.Common.{◌≡◌, ℕ, ◌+◌, Bool, List, [], ◌∷◌, ◌++◌, length, map, refl, ap, sym, ◌∙◌}
use Rattle.std.specs.Prelude.{Some, filter}
use Rattle.std.specs.List.{AllByRecursion}
use Rattle.std.proofs.lemmas.List.{map-append}
use Rattle.hac_model.specs.Tree.Bare.{bare, bare_body}
use Rattle.hac_model.specs.Tree.Events.{added, apply, asking, changed_at, edited, marked}
use Rattle.hac_model.specs.Tree.Facts.{Facts, bare_after, facts_at, facts_in, facts_of, filled, filled_entry, joined}
use Rattle.hac_model.specs.Tree.Mounting.{answers_to, cleared, documents_from, fresh, is_gone, is_of_mount, is_such_at, keeping, redocumented, synced, without_such}
use Rattle.hac_model.specs.Tree.Mounts.{terms_to_ask}
use Rattle.hac_model.specs.Tree.{entry_at, is_directory_at}
use Rattle.hac_model.specs.Tree.Valid.{NumbersRise}
use Rattle.hac_model.specs.declared.events.Event.{Event}
use Rattle.hac_model.specs.declared.events.Event.TheVariants.{Mark, Rm, Setq, Smkdir, Smount, Ssync, Sumount, Step, Cd}
use Rattle.hac_model.specs.declared.states.Body.{Body}
use Rattle.hac_model.specs.declared.states.Body.TheVariants.{File, Dir, Symlink, Semantic, Mount, Document}
use Rattle.hac_model.specs.declared.states.Entry.{Entry}
use Rattle.hac_model.specs.declared.states.Session.{Session}
use Rattle.hac_model.specs.declared.states.State.{State}
use Rattle.hac_model.proofs.SessionLemmas.{sessions-follow}
use Rattle.hac_model.proofs.BareLemmas.{added-bare, asking-passes, changed-kept, changed_at-bare, forgotten-entries, keeping-bare, marked-bare, mounted-bare, such-entries}
use Rattle.hac_model.proofs.ChangeLemmas.{is_kept}
use Rattle.hac_model.proofs.GainLemmas.{bare-told}
use Rattle.hac_model.specs.Tree.Asking.{with_told}
use Rattle.hac_model.proofs.TreeLemmas.{all-entries}

-- what was taken from a body is in its facts
filled-again : (is_dir : ℕ → Bool) (dir : ℕ) (body : Body) → filled (facts_in is_dir dir body) (bare_body body) ≡ body
filled-again is_dir dir (File text dirty shown) = refl
filled-again is_dir dir Dir = refl
filled-again is_dir dir (Symlink target) = refl
filled-again is_dir dir (Semantic query permanent prohibited) = refl
filled-again is_dir dir (Mount space answers) = refl
filled-again is_dir dir Document = refl

filled-bare : (facts : Facts) (body : Body) → filled facts (bare_body body) ≡ filled facts body
filled-bare facts (File text dirty shown) = refl
filled-bare facts Dir = refl
filled-bare facts (Symlink target) = refl
filled-bare facts (Semantic query permanent prohibited) = refl
filled-bare facts (Mount space answers) = refl
filled-bare facts Document = refl

bare-filled : (facts : Facts) (body : Body) → bare_body (filled facts body) ≡ bare_body body
bare-filled facts (File text dirty shown) = refl
bare-filled facts Dir = refl
bare-filled facts (Symlink target) = refl
bare-filled facts (Semantic query permanent prohibited) = refl
bare-filled facts (Mount space answers) = refl
bare-filled facts Document = refl

abbrev IsFilled : State → Entry → Type 0
IsFilled s e = filled_entry (facts_of s) (edited bare_body e) ≡ e

pub rejoined : (s : State) → NumbersRise 0 s.entries s.next → joined (facts_of s) s.sessions (bare s) ≡ s
rejoined s rise = λ i. record { version = s.version; next = s.next; entries = all s.entries (all-entries (IsFilled s) 0 s.entries s.next rise again) i; sessions = s.sessions }
  where
    again : (e : Entry) → entry_at s.entries e.number ≡ Some e → IsFilled s e
    again e found =
        (λ i. record e { body = filled (facts_at (is_directory_at s.entries) (found i)) (bare_body e.body) })
        ∙ ap (λ (body : Body). record e { body = body }) (filled-again (is_directory_at s.entries) e.parent e.body)

    all : (es : List Entry) → AllByRecursion (IsFilled s) es → map (filled_entry (facts_of s)) (map (edited bare_body) es) ≡ es
    all [] h = refl
    all (e ∷ es) h = λ i. h.0 i ∷ all es h.1 i

pub joined-bare : (facts : ℕ → Facts) (sessions : List Session) (t : State) → joined facts sessions (bare t) ≡ joined facts sessions t
joined-bare facts sessions t = λ i. record { version = t.version; next = t.next; entries = each t.entries i; sessions = sessions }
  where
    each : (es : List Entry) → map (filled_entry facts) (map (edited bare_body) es) ≡ map (filled_entry facts) es
    each [] = refl
    each (e ∷ es) = λ i. record e { body = filled-bare (facts e.number) e.body i } ∷ each es i

pub bare-joined : (facts : ℕ → Facts) (sessions : List Session) (t : State) → bare (joined facts sessions t) ≡ bare t
bare-joined facts sessions t = λ i. record { version = t.version; next = t.next; entries = each t.entries i; sessions = [] }
  where
    each : (es : List Entry) → map (edited bare_body) (map (filled_entry facts) es) ≡ map (edited bare_body) es
    each [] = refl
    each (e ∷ es) = λ i. record e { body = bare-filled (facts e.number) e.body i } ∷ each es i

-- states of one tree, equal facts and the same sessions are equal
pub same-state : (s t : State) → NumbersRise 0 s.entries s.next → NumbersRise 0 t.entries t.next → s.sessions ≡ t.sessions → bare s ≡ bare t → ((n : ℕ) → facts_of s n ≡ facts_of t n) → s ≡ t
same-state s t rise grow sessions bares facts = sym (rejoined s rise) ∙ (λ i. joined (λ n. facts n i) (sessions i) (bares i)) ∙ rejoined t grow

-- the tree after an event is that of the state after it
pub tree-law : (e : Event) (t : State) → bare (bare_after e t) ≡ bare (apply t e)
tree-law (Mark mark) t = λ i. record { version = t.version; next = t.next; entries = sym (changed-kept mark.dir (marked mark.item mark.kind) t.entries (marked-bare mark.item mark.kind)) i; sessions = [] }
tree-law (Rm entry) t = λ i. record { version = t.version; next = t.next; entries = sym (forgotten-entries entry (filter (is_kept entry) t.entries)) i; sessions = [] }
tree-law (Smkdir dir name query told) t =
    added-bare t dir name (Semantic query [] [])
    ∙ ap (λ (x : State). bare (added x dir name (Semantic query [] []))) (sym (bare-told t query told))
    ∙ sym (added-bare (with_told query told t) dir name (Semantic query [] []))
tree-law (Setq dir query told) t =
    changed_at-bare t dir (edited (asking query)) (asking-passes query)
    ∙ ap (λ (x : State). bare (changed_at x dir (edited (asking query)))) (sym (bare-told t query told))
    ∙ sym (changed_at-bare (with_told query told t) dir (edited (asking query)) (asking-passes query))
tree-law (Smount dir name space documents told) t =
    mounted-bare t dir name space [] [] documents ∙ sym (mounted-bare t dir name space (answers_to (terms_to_ask t.entries) told) [] documents)
tree-law (Ssync mount documents told) t = λ i. record { version = t.version; next = t.next + length (fresh t mount documents); entries = entries i; sessions = [] }
  where
    left : List Entry
    left = (without_such (is_gone mount documents) t).entries

    come : List Entry
    come = documents_from t.next mount (fresh t mount documents)

    entries : map (edited bare_body) (left ++ come) ≡ map (edited bare_body) (synced t mount (answers_to (terms_to_ask t.entries) told) documents).entries
    entries =
        map-append (edited bare_body) left come
        ∙ ap (λ (es : List Entry). es ++ map (edited bare_body) come) (sym (such-entries (is_such_at (is_gone mount documents) t.entries) left))
        ∙ sym (map-append (edited bare_body) (cleared (is_gone mount documents) t).entries come)
        ∙ sym (changed-kept mount (keeping (answers_to (terms_to_ask t.entries) told)) (redocumented t mount documents).entries (keeping-bare (answers_to (terms_to_ask t.entries) told)))
tree-law (Sumount mount) t = λ i. record { version = t.version; next = t.next; entries = sym (such-entries (is_such_at (is_of_mount mount) t.entries) (without_such (is_of_mount mount) t).entries) i; sessions = [] }
tree-law other t = refl

pub tree-sessions : (e : Event) (t : State) → (bare_after e t).sessions ≡ t.sessions
tree-sessions (Mark mark) t = refl
tree-sessions (Rm entry) t = refl
tree-sessions (Cd session dir) t = refl
tree-sessions Step t = sessions-follow t Step
tree-sessions other t = refl
