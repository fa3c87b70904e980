-- How much more mounts may keep, counted number by number; and that events which tell nothing leave few answers.
use Rattle.std.proofs.Common.{◌≡◌, ℕ, ◌+◌, ◌<◌, ◌≤◌, Bool, true, false, List, [], ◌∷◌, length, refl, ap, sym, ◌∙◌, arith, inl, inr}
use Rattle.std.specs.Prelude.{◌==◌, ◌&&◌, not, filter, nat_le, Option, Some, None}
use Rattle.std.specs.List.{list_all}
use Rattle.std.specs.Option.{option_map, option_map_or}
use Rattle.std.proofs.lemmas.Bool.{and_parts, cases_order, eq-eqb, eqb-true, le-leb, leb-true, ne_eqb}
use Rattle.hac_model.specs.Query.Formula.{Formula}
use Rattle.hac_model.specs.Tree.Events.{apply, asking, changed_at, edited, forgetting, indexed, is_free, is_made_holder, is_placed, marked, may_ask, next_dirty, plain_body, reseated, rewritten}
use Rattle.hac_model.specs.Script.SpaceNames.{is_space_name}
use Rattle.hac_model.specs.Tree.Asking.{with_told}
use Rattle.hac_model.specs.Tree.Limits.{are_answers_few}
use Rattle.hac_model.specs.Tree.Links.{answers_at}
use Rattle.hac_model.specs.Tree.Mounting.{answers_to, are_documents, are_documents_few, are_told, forgetting_such, is_of_mount, is_such_at, is_told, mounted, synced, without_such}
use Rattle.hac_model.specs.Tree.Mounts.{terms_to_ask}
use Rattle.hac_model.specs.Tree.Valid.{IsValid, NumbersRise}
use Rattle.hac_model.specs.Tree.{answers_in, entry_at, is_mount_at}
use Rattle.hac_model.specs.declared.events.Event.{Event}
use Rattle.hac_model.specs.declared.events.Event.TheVariants.{Mkdir, NewFile, Rewrite, Ln, Mark, Mv, Rm, Rmdir, Setq, Smkdir, Smount, Ssync, Sumount, Step, Unq, Cd}
use Rattle.hac_model.specs.declared.limits.TheConstants.{ANSWERS_LIMIT, PAIRS_LIMIT}
use Rattle.hac_model.specs.declared.states.Answer.{Answer}
use Rattle.hac_model.specs.declared.states.Body.{Body}
use Rattle.hac_model.specs.declared.states.Body.TheVariants.{File, Dir, Symlink, Semantic}
use Rattle.hac_model.specs.declared.states.Entry.{Entry}
use Rattle.hac_model.specs.declared.states.State.{State}
use Rattle.hac_model.proofs.ChangeLemmas.{is_kept}
use Rattle.hac_model.proofs.CountLemmas.{measured, measured-cons, measured-holds, measured-reseated}
use Rattle.hac_model.proofs.FewLemmas.{asking-keeps, few-added, few-edited, few-same, forgetting-keeps, forgetting_such-keeps, indexed-keeps, mapped-few, marked-keeps, plain-keeps, removed-few, rewritten-keeps, without-few}
use Rattle.hac_model.proofs.TreeLemmas.{entry_at-low}
use Rattle.kept_facts.specs.Room.{AreKept, IsLess, IsRoom, all_answers, all_documents, are_few_then, documents_in, fits}
use Rattle.kept_facts.specs.declared.room.Room.{Room}
use Rattle.kept_facts.proofs.RoomLemmas.{few-mounted, few-synced, few-told}
use Rattle.kept_facts.proofs.UseLemmas.{rest-all, rest-none, rest_from}

-- The answers of the mounts are taken in order of number.

module _ (of : List Answer → ℕ) (none : of [] ≡ 0) where
  abbrev kept : Body → ℕ
  kept body = of (answers_in body)

  abbrev kept_there : Option Entry → ℕ
  kept_there o = of (option_map_or answers_in (option_map (λ (e : Entry). e.body) o) [])

  -- what is left begins with what the entry of the next number keeps
  rest-keeps : (i above next : ℕ) (es : List Entry) → NumbersRise above es next → measured kept (rest_from i es) ≡ kept_there (entry_at es i) + measured kept (rest_from (i + 1) es)
  rest-keeps i above next [] h = omega (arith, none)
  rest-keeps i above next (e ∷ es) h =
      elim (cases_order i e.number) [
        | inl same ↦ (
            let le = le-leb i e.number (omega (arith, same)) in
            let here = eq-eqb e.number i (sym same) in
            let past = gt-leb (i + 1) e.number (omega (arith, same)) in
            let all = rest-all (i + 1) e.number next es h.1 (omega (arith, same)) in
            rw le (rw here (rw past (rw all (measured-cons kept e es)))))
        | inr (inl less) ↦ (
            let le = le-leb i e.number (omega (arith, less)) in
            let also = le-leb (i + 1) e.number (omega (arith, less)) in
            let other = ne_eqb e.number i (λ same. omega (arith, less, same)) in
            let low = entry_at-low e.number es next i h.1 (omega (arith, less)) in
            rw le (rw other (rw low (rw also (omega (arith, none))))))
        | inr (inr more) ↦ (
            let past = gt-leb i e.number more in
            let also = gt-leb (i + 1) e.number (omega (arith, more)) in
            let other = ne_eqb e.number i (λ same. omega (arith, more, same)) in
            rw past (rw other (rw also (rest-keeps i e.number next es h.1))))
      ]
    where
      gt-leb : (m n : ℕ) → n < m → nat_le m n ≡ false
      gt-leb m n less = not_le (nat_le m n) refl
        where
          not_le : (b : Bool) → nat_le m n ≡ b → nat_le m n ≡ false
          not_le false is = is
          not_le true is = absurd (omega (arith, less, leb-true m n is))

  -- an entry keeps no more than all
  some-keeps : (es : List Entry) (n : ℕ) → kept_there (entry_at es n) ≤ measured kept es
  some-keeps es n = at (entry_at es n) refl
    where
      at : (o : Option Entry) → entry_at es n ≡ o → kept_there o ≤ measured kept es
      at None found = omega (arith, none)
      at (Some e) found = measured-holds kept es n e found

-- the numbers below this one are taken
pub record IsTaking (s : State) (number : ℕ) (room : Room) : Type 0 where
  pub documents : room.documents + all_documents s.entries ≡ ANSWERS_LIMIT + all_documents (rest_from number s.entries)
  pub answers : room.answers + all_answers s.entries ≡ PAIRS_LIMIT + all_answers (rest_from number s.entries)

module _ (s : State) (h : IsValid s) where
  few-documents : all_documents s.entries ≤ ANSWERS_LIMIT
  few-documents = leb-true (all_documents s.entries) ANSWERS_LIMIT (and_parts (nat_le (all_documents s.entries) ANSWERS_LIMIT) (nat_le (all_answers s.entries) PAIRS_LIMIT) h.few).0

  few-answers : all_answers s.entries ≤ PAIRS_LIMIT
  few-answers = leb-true (all_answers s.entries) PAIRS_LIMIT (and_parts (nat_le (all_documents s.entries) ANSWERS_LIMIT) (nat_le (all_answers s.entries) PAIRS_LIMIT) h.few).1

  pub taking-begins : (room : Room) → room.documents ≡ ANSWERS_LIMIT → room.answers ≡ PAIRS_LIMIT → IsTaking s 0 room
  taking-begins room documents answers =
      let all = rest-all 0 0 s.next s.entries h.layout.numbers (omega arith) in
      record {
        documents = λ i. documents i + all_documents (sym all i);
        answers = λ i. answers i + all_answers (sym all i);
      }

  module _ (number : ℕ) (room : Room) (taking : IsTaking s number room) where
    next-documents : all_documents (rest_from number s.entries) ≡ documents_in (answers_at s number) + all_documents (rest_from (number + 1) s.entries)
    next-documents = rest-keeps documents_in refl number 0 s.next s.entries h.layout.numbers

    next-answers : all_answers (rest_from number s.entries) ≡ length (answers_at s number) + all_answers (rest_from (number + 1) s.entries)
    next-answers = rest-keeps (λ answers. length answers) refl number 0 s.next s.entries h.layout.numbers

    pub taking-documents : documents_in (answers_at s number) ≤ room.documents
    taking-documents = omega (arith, next-documents, few-documents, taking.documents)

    pub taking-answers : length (answers_at s number) ≤ room.answers
    taking-answers = omega (arith, next-answers, few-answers, taking.answers)

    pub taking-goes : (less : Room) → IsLess (answers_at s number) room less → IsTaking s (number + 1) less
    taking-goes less is = record {
      documents = omega (arith, next-documents, taking.documents, is.documents);
      answers = omega (arith, next-answers, taking.answers, is.answers);
    }

    -- what keeps nothing is passed
    pub taking-passes : answers_at s number ≡ [] → IsTaking s (number + 1) room
    taking-passes none = taking-goes room (record {
      documents = ap (λ (answers : List Answer). room.documents + documents_in answers) none ∙ omega arith;
      answers = ap (λ (answers : List Answer). room.answers + length answers) none ∙ omega arith;
    })

    pub taking-ends : number ≡ s.next → IsRoom s.entries room
    taking-ends end =
        let none = ap (λ (k : ℕ). rest_from k s.entries) end ∙ rest-none 0 s.next s.entries h.layout.numbers in
        record {
          documents = taking.documents ∙ (λ i. ANSWERS_LIMIT + all_documents (none i)) ∙ omega arith;
          answers = taking.answers ∙ (λ i. PAIRS_LIMIT + all_answers (none i)) ∙ omega arith;
        }

-- what one mount keeps is kept
pub kept-answers_at : (s : State) (mount : ℕ) → AreKept s.entries (answers_at s mount)
kept-answers_at s mount = record {
  documents = some-keeps documents_in refl s.entries mount;
  answers = some-keeps (λ answers. length answers) refl s.entries mount;
}

-- Events that tell nothing.

-- an event leaves few answers where it tells mounts nothing
pub few-untold : (s : State) (e : Event) → IsValid s → ((dir : ℕ) (name : List ℕ) (query : Formula ℕ) (told : List (List ℕ)) → e ≡ Smkdir dir name query told → ⊥) → ((dir : ℕ) (query : Formula ℕ) (told : List (List ℕ)) → e ≡ Setq dir query told → ⊥)
    → ((dir : ℕ) (name space : List ℕ) (documents told : List (List ℕ)) → e ≡ Smount dir name space documents told → ⊥) → ((mount : ℕ) (documents told : List (List ℕ)) → e ≡ Ssync mount documents told → ⊥) → are_answers_few (apply s e).entries ≡ true
few-untold s (Smkdir dir name query told) h semantic asks comes syncs = absurd (semantic dir name query told refl)
few-untold s (Setq dir query told) h semantic asks comes syncs = absurd (asks dir query told refl)
few-untold s (Smount dir name space documents told) h semantic asks comes syncs = absurd (comes dir name space documents told refl)
few-untold s (Ssync mount documents told) h semantic asks comes syncs = absurd (syncs mount documents told refl)
few-untold s (Mkdir dir name) h semantic asks comes syncs = few-added s dir name Dir refl ∙ h.few
few-untold s (NewFile dir name text) h semantic asks comes syncs = few-added s dir name (File text true None) refl ∙ h.few
few-untold s (Rewrite file text) h semantic asks comes syncs = few-edited s file (rewritten text) (rewritten-keeps text) ∙ h.few
few-untold s (Ln dir name target) h semantic asks comes syncs = few-added s dir name (Symlink target) refl ∙ h.few
few-untold s (Unq dir) h semantic asks comes syncs = few-edited s dir plain_body plain-keeps ∙ h.few
few-untold s (Mark mark) h semantic asks comes syncs = few-edited s mark.dir (marked mark.item mark.kind) (marked-keeps mark.item mark.kind) ∙ h.few
few-untold s (Mv entry dir name) h semantic asks comes syncs = few-same s.entries (changed_at s entry (reseated dir name)).entries (λ f by. measured-reseated f s entry dir name) h.few
few-untold s (Rm item) h semantic asks comes syncs = mapped-few (forgetting item) (filter (is_kept item) s.entries) (forgetting-keeps item) (removed-few item s.entries h.few)
few-untold s (Rmdir dir) h semantic asks comes syncs = removed-few dir s.entries h.few
few-untold s Step h semantic asks comes syncs = elim (next_dirty s.entries) as (λ o. are_answers_few (option_map_or (λ file. changed_at s file (edited indexed)) o s).entries ≡ true) [
  | None ↦ h.few
  | Some file ↦ few-edited s file indexed indexed-keeps ∙ h.few
]
few-untold s (Cd session dir) h semantic asks comes syncs = h.few
few-untold s (Sumount mount) h semantic asks comes syncs =
    mapped-few (forgetting_such (is_such_at (is_of_mount mount) s.entries)) (without_such (is_of_mount mount) s).entries (forgetting_such-keeps (is_such_at (is_of_mount mount) s.entries))
    (without-few (λ entry. not (is_of_mount mount entry)) s.entries h.few)

-- Events that tell mounts something.

module _ (s : State) (h : IsValid s) (e : Event) (placed : is_placed s e ≡ true) where
  abbrev few_after : Event → Bool
  few_after e = are_answers_few (apply s e).entries

  pub few-semantic : (dir : ℕ) (name : List ℕ) (query : Formula ℕ) (told : List (List ℕ)) → e ≡ Smkdir dir name query told → are_few_then s.entries [] told ≡ few_after e
  few-semantic dir name query told is =
      let fits = and_parts (is_free s dir name) _ (sym (ap (is_placed s) is) ∙ placed) in
      few-told s query told h.layout.numbers (and_parts (may_ask s query) _ fits.1).1
      ∙ sym (few-added (with_told query told s) dir name (Semantic query [] []) refl) ∙ sym (ap few_after is)

  pub few-asking : (dir : ℕ) (query : Formula ℕ) (told : List (List ℕ)) → e ≡ Setq dir query told → are_few_then s.entries [] told ≡ few_after e
  few-asking dir query told is =
      let fits = and_parts (is_made_holder s dir) _ (sym (ap (is_placed s) is) ∙ placed) in
      few-told s query told h.layout.numbers (and_parts (may_ask s query) _ fits.1).1
      ∙ sym (few-edited (with_told query told s) dir (asking query) (asking-keeps query)) ∙ sym (ap few_after is)

  even-told : (t : State) (mount : ℕ) (told : List (List ℕ)) → are_told t mount (terms_to_ask s.entries) told ≡ true → length told ≡ length (terms_to_ask s.entries)
  even-told t mount told all = eqb-true (length told) (length (terms_to_ask s.entries)) (and_parts (length told == length (terms_to_ask s.entries)) (list_all (is_told t mount) told) all).0

  pub few-mounting : (dir : ℕ) (name space : List ℕ) (documents told : List (List ℕ)) → e ≡ Smount dir name space documents told → are_few_then s.entries [] told ≡ few_after e
  few-mounting dir name space documents told is =
      let short = and_parts _ (are_documents_few s.version documents) (sym (ap (is_placed s) is) ∙ placed) in
      let fits = and_parts (is_free s dir name && is_space_name space && are_documents documents) _ short.0 in
      let even = even-told (mounted s dir name space (answers_to (terms_to_ask s.entries) told) documents) s.next told fits.1 in
      few-mounted s dir name space (terms_to_ask s.entries) told documents even ∙ sym (ap few_after is)

  pub few-syncing : (mount : ℕ) (documents told : List (List ℕ)) → e ≡ Ssync mount documents told → are_few_then s.entries (answers_at s mount) told ≡ few_after e
  few-syncing mount documents told is =
      let short = and_parts _ (are_documents_few s.version documents) (sym (ap (is_placed s) is) ∙ placed) in
      let fits = and_parts (is_mount_at s.entries mount && are_documents documents) _ short.0 in
      let there = and_parts (is_mount_at s.entries mount) (are_documents documents) fits.0 in
      let even = even-told (synced s mount (answers_to (terms_to_ask s.entries) told) documents) mount told fits.1 in
      few-synced s mount (terms_to_ask s.entries) told documents h.layout.numbers there.0 even ∙ sym (ap few_after is)

-- Room for what is told.
