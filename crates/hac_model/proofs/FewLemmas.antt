-- Mounts keep no more answers after an event than they may.
use Rattle.std.proofs.Common.{◌≡◌, ℕ, ◌≤◌, Bool, true, false, cond, List, [], ◌∷◌, ◌++◌, length, map, refl, ap, ◌∙◌, arith}
use Rattle.std.specs.Prelude.{◌&&◌, not, filter, nat_le, Some, None, IsTrue, sum_by}
use Rattle.std.specs.Option.{option_map_or}
use Rattle.std.proofs.lemmas.Bool.{and_from, and_parts, leb-true, le-leb}
use Rattle.hac_model.specs.Query.Formula.{Formula}
use Rattle.hac_model.specs.Tree.Asking.{with_told}
use Rattle.hac_model.specs.Tree.Events.{accepted, added, apply, asking, changed_at, edited, forgetting, indexed, is_possible, marked, next_dirty, plain_body, reseated, rewritten}
use Rattle.hac_model.specs.Tree.Limits.{answers_kept, are_answers_few, documents_kept, passed_limit}
use Rattle.hac_model.specs.Tree.Mounting.{forgetting_such, is_of_mount, is_such_at, without_such}
use Rattle.hac_model.specs.Tree.{answers_in}
use Rattle.hac_model.specs.Tree.Valid.{IsValid}
use Rattle.hac_model.specs.declared.events.Event.{Event}
use Rattle.hac_model.specs.declared.events.Event.TheVariants.{Mkdir, NewFile, Rewrite, Ln, Mark, Mv, Rm, Rmdir, Setq, Smkdir, Smount, Ssync, Sumount, Step, Unq, Cd}
use Rattle.hac_model.specs.declared.limits.TheConstants.{ANSWERS_LIMIT, PAIRS_LIMIT}
use Rattle.hac_model.specs.declared.marks.Kind.{Kind}
use Rattle.hac_model.specs.declared.marks.Kind.TheVariants.{Transient, Permanent, Prohibited, Unlinked}
use Rattle.hac_model.specs.declared.states.Answer.{Answer}
use Rattle.hac_model.specs.declared.states.Body.{Body}
use Rattle.hac_model.specs.declared.states.Body.TheVariants.{File, Dir, Symlink, Semantic}
use Rattle.hac_model.specs.declared.states.Entry.{Entry}
use Rattle.hac_model.specs.declared.states.State.{State}
use Rattle.hac_model.proofs.ChangeLemmas.{is_kept}
use Rattle.hac_model.proofs.CountLemmas.{measured, measured-added, measured-cons, measured-fewer, measured-reseated, measured-same}
use Rattle.hac_model.proofs.LayoutLemmas.{smount-parts, ssync-parts}
use Rattle.hac_model.proofs.MapLemmas.{measured-mapped}
use Rattle.hac_model.proofs.ValidLemmas.{accepted-parts, setq-parts, smkdir-parts}

-- where neither sum is greater
pub few-less : (es fs : List Entry) → measured documents_kept fs ≤ measured documents_kept es → measured answers_kept fs ≤ measured answers_kept es → are_answers_few es ≡ true → are_answers_few fs ≡ true
few-less es fs documents pairs few =
    let parts = and_parts (nat_le (measured documents_kept es) ANSWERS_LIMIT) (nat_le (measured answers_kept es) PAIRS_LIMIT) few in
    let most : measured documents_kept es ≤ ANSWERS_LIMIT = leb-true (measured documents_kept es) ANSWERS_LIMIT parts.0 in
    let many : measured answers_kept es ≤ PAIRS_LIMIT = leb-true (measured answers_kept es) PAIRS_LIMIT parts.1 in
    and_from (nat_le (measured documents_kept fs) ANSWERS_LIMIT) (nat_le (measured answers_kept fs) PAIRS_LIMIT)
    (le-leb (measured documents_kept fs) ANSWERS_LIMIT (omega (arith, documents, most)))
    (le-leb (measured answers_kept fs) PAIRS_LIMIT (omega (arith, pairs, many)))

-- where both are the same
pub few-same : (es fs : List Entry) → ((f : Body → ℕ) → ((b c : Body) → answers_in b ≡ answers_in c → f b ≡ f c) → measured f fs ≡ measured f es) → are_answers_few es ≡ true → are_answers_few fs ≡ true
few-same es fs same few =
    let documents : measured documents_kept fs ≡ measured documents_kept es = same documents_kept (λ b c even. ap (λ (xs : List Answer). sum_by (λ answer. length answer.documents) xs) even) in
    let pairs : measured answers_kept fs ≡ measured answers_kept es = same answers_kept (λ b c even. ap (λ (xs : List Answer). length xs) even) in
    few-less es fs (omega (arith, documents)) (omega (arith, pairs)) few

-- An entry is added that keeps nothing.

nothing-kept : (f : Body → ℕ) (es : List Entry) (e : Entry) → f e.body ≡ 0 → measured f (es ++ e ∷ []) ≡ measured f es
nothing-kept f es e none = omega (arith, measured-added f es e, none)

pub few-added : (s : State) (dir : ℕ) (name : List ℕ) (body : Body) → answers_in body ≡ [] → are_answers_few (added s dir name body).entries ≡ are_answers_few s.entries
few-added s dir name body none = λ i.
    nat_le (nothing-kept documents_kept s.entries new (ap (λ (xs : List Answer). sum_by (λ answer. length answer.documents) xs) none) i) ANSWERS_LIMIT
    && nat_le (nothing-kept answers_kept s.entries new (ap (λ (xs : List Answer). length xs) none) i) PAIRS_LIMIT
  where
    new : Entry
    new = record { number = s.next; parent = dir; name = name; body = body }

-- A body is edited that keeps its answers.

abbrev pub KeepsAnswers : (Body → Body) → Type 0
KeepsAnswers edit = (body : Body) → answers_in (edit body) ≡ answers_in body

pub few-edited : (s : State) (n : ℕ) (edit : Body → Body) → KeepsAnswers edit → are_answers_few (changed_at s n (edited edit)).entries ≡ are_answers_few s.entries
few-edited s n edit keeps = λ i.
    nat_le (measured-same documents_kept n (edited edit) s.entries (λ e. ap (λ (xs : List Answer). sum_by (λ answer. length answer.documents) xs) (keeps e.body)) i) ANSWERS_LIMIT
    && nat_le (measured-same answers_kept n (edited edit) s.entries (λ e. ap (λ (xs : List Answer). length xs) (keeps e.body)) i) PAIRS_LIMIT

pub rewritten-keeps : (text : List ℕ) → KeepsAnswers (rewritten text)
rewritten-keeps text (File old dirty shown) = refl
rewritten-keeps text other = refl

pub indexed-keeps : KeepsAnswers indexed
indexed-keeps (File old dirty shown) = refl
indexed-keeps other = refl

pub asking-keeps : (query : Formula ℕ) → KeepsAnswers (asking query)
asking-keeps query Dir = refl
asking-keeps query (Semantic old permanent prohibited) = refl
asking-keeps query other = refl

pub plain-keeps : KeepsAnswers plain_body
plain-keeps (Semantic query permanent prohibited) = refl
plain-keeps other = refl

pub marked-keeps : (item : ℕ) (kind : Kind) → KeepsAnswers (marked item kind)
marked-keeps item Permanent (Semantic query permanent prohibited) = refl
marked-keeps item Prohibited (Semantic query permanent prohibited) = refl
marked-keeps item Transient (Semantic query permanent prohibited) = refl
marked-keeps item Unlinked (Semantic query permanent prohibited) = refl
marked-keeps item Permanent other = refl
marked-keeps item Prohibited other = refl
marked-keeps item Transient other = refl
marked-keeps item Unlinked other = refl

pub forgetting-keeps : (item : ℕ) → KeepsAnswers (forgetting item)
forgetting-keeps item (Semantic query permanent prohibited) = refl
forgetting-keeps item other = refl

pub forgetting_such-keeps : (test : ℕ → Bool) → KeepsAnswers (forgetting_such test)
forgetting_such-keeps test (Semantic query permanent prohibited) = refl
forgetting_such-keeps test other = refl

-- Entries go, and marks on them.

pub mapped-few : (edit : Body → Body) (es : List Entry) → KeepsAnswers edit → are_answers_few es ≡ true → are_answers_few (map (edited edit) es) ≡ true
mapped-few edit es keeps few = few-same es (map (edited edit) es) (λ f by. measured-mapped f edit es (λ body. by (edit body) body (keeps body))) few

pub removed-few : (n : ℕ) (es : List Entry) → are_answers_few es ≡ true → are_answers_few (filter (is_kept n) es) ≡ true
removed-few n es few = few-less es (filter (is_kept n) es) (measured-fewer documents_kept n es) (measured-fewer answers_kept n es) few

measured-filter : (f : Body → ℕ) (p : Entry → Bool) (es : List Entry) → measured f (filter p es) ≤ measured f es
measured-filter f p [] = omega arith
measured-filter f p (e ∷ es) = elim (p e) as (λ b. measured f (cond b (e ∷ filter p es) (filter p es)) ≤ measured f (e ∷ es)) [
  | true ↦ omega (arith, measured-cons f e (filter p es), measured-cons f e es, measured-filter f p es)
  | false ↦ omega (arith, measured-cons f e es, measured-filter f p es)
]

pub without-few : (p : Entry → Bool) (es : List Entry) → are_answers_few es ≡ true → are_answers_few (filter p es) ≡ true
without-few p es few = few-less es (filter p es) (measured-filter documents_kept p es) (measured-filter answers_kept p es) few

-- All events.

pub apply-few : (s : State) (event : Event) → IsValid s → IsTrue (accepted s event) → are_answers_few (apply s event).entries ≡ true
apply-few s (Mkdir dir name) h ok = few-added s dir name Dir refl ∙ h.few
apply-few s (NewFile dir name text) h ok = few-added s dir name (File text true None) refl ∙ h.few
apply-few s (Rewrite file text) h ok = few-edited s file (rewritten text) (rewritten-keeps text) ∙ h.few
apply-few s (Ln dir name target) h ok = few-added s dir name (Symlink target) refl ∙ h.few
apply-few s (Smkdir dir name query told) h ok =
    let parts = accepted-parts (is_possible s (Smkdir dir name query told)) (passed_limit (apply s (Smkdir dir name query told))) ok in
    few-added (with_told query told s) dir name (Semantic query [] []) refl ∙ (smkdir-parts s dir name query told parts.0).3
apply-few s (Setq dir query told) h ok =
    let parts = accepted-parts (is_possible s (Setq dir query told)) (passed_limit (apply s (Setq dir query told))) ok in
    few-edited (with_told query told s) dir (asking query) (asking-keeps query) ∙ (setq-parts s dir query told parts.0).5
apply-few s (Unq dir) h ok = few-edited s dir plain_body plain-keeps ∙ h.few
apply-few s (Mark mark) h ok = few-edited s mark.dir (marked mark.item mark.kind) (marked-keeps mark.item mark.kind) ∙ h.few
apply-few s (Mv entry dir name) h ok = few-same s.entries (changed_at s entry (reseated dir name)).entries (λ f by. measured-reseated f s entry dir name) h.few
apply-few s (Rm item) h ok = mapped-few (forgetting item) (filter (is_kept item) s.entries) (forgetting-keeps item) (removed-few item s.entries h.few)
apply-few s (Rmdir dir) h ok = removed-few dir s.entries h.few
apply-few s Step h ok = elim (next_dirty s.entries) as (λ o. are_answers_few (option_map_or (λ file. changed_at s file (edited indexed)) o s).entries ≡ true) [
  | None ↦ h.few
  | Some file ↦ few-edited s file indexed indexed-keeps ∙ h.few
]
apply-few s (Cd session dir) h ok = h.few
apply-few s (Smount dir name space documents told) h ok =
    let parts = accepted-parts (is_possible s (Smount dir name space documents told)) (passed_limit (apply s (Smount dir name space documents told))) ok in
    (smount-parts s dir name space documents told parts.0).4
apply-few s (Ssync mount documents told) h ok =
    let parts = accepted-parts (is_possible s (Ssync mount documents told)) (passed_limit (apply s (Ssync mount documents told))) ok in
    (ssync-parts s mount documents told parts.0).3
apply-few s (Sumount mount) h ok =
    mapped-few (forgetting_such (is_such_at (is_of_mount mount) s.entries)) (without_such (is_of_mount mount) s).entries (forgetting_such-keeps (is_such_at (is_of_mount mount) s.entries))
    (without-few (λ entry. not (is_of_mount mount entry)) s.entries h.few)
