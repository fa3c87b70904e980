-- What entries and facts are after changes, where they stay as they were.
use Rattle.std.proofs.Common.{◌≡◌, ℕ, ◌<◌, Bool, true, false, List, [], ◌∷◌, length, subst, refl, ap, sym, ◌∙◌, arith}
use Rattle.std.specs.Prelude.{◌==◌, ◌||◌, drop, filter, if◌then◌else◌, not, Option, Some, None}
use Rattle.std.specs.List.{AllByRecursion}
use Rattle.std.specs.Option.{option_map}
use Rattle.std.proofs.lemmas.Bool.{and_parts, eqb-true, ne_eqb}
use Rattle.hac_model.specs.Query.Formula.{Formula}
use Rattle.hac_model.specs.Query.Queries.{terms_of}
use Rattle.hac_model.specs.Query.Terms.{is_same_term, is_term_before}
use Rattle.hac_model.specs.Tree.Asking.{asked_by, gained, gaining, put_answer, unanswered, with_answers}
use Rattle.hac_model.specs.Tree.Events.{added, asking, changed_at, edited, forgetting, indexed, marked, plain_body, rewritten}
use Rattle.hac_model.specs.Tree.Facts.{put_at}
use Rattle.hac_model.specs.Tree.Links.{parent_of}
use Rattle.hac_model.specs.Tree.Mounting.{answers_to, forgetting_such, is_document_of, keeping}
use Rattle.hac_model.specs.Tree.Mounts.{terms_in_order, is_kept, kept_for}
use Rattle.hac_model.specs.Tree.Valid.{IsLayout, IsValid}
use Rattle.hac_model.specs.Tree.{entry_at, is_document_at, is_mount, is_mount_at, query_in}
use Rattle.hac_model.specs.declared.marks.Kind.{Kind}
use Rattle.hac_model.specs.declared.marks.Kind.TheVariants.{Transient, Permanent, Prohibited, Unlinked}
use Rattle.hac_model.specs.declared.states.Answer.{Answer}
use Rattle.hac_model.specs.declared.states.Body.{Body}
use Rattle.hac_model.specs.declared.states.Body.TheVariants.{File, Dir, Semantic, Mount}
use Rattle.hac_model.specs.declared.states.Entry.{Entry}
use Rattle.hac_model.specs.declared.states.State.{State}
use Rattle.hac_model.specs.declared.terms.Term.{Term}
use Rattle.hac_model.proofs.ChangeLemmas.{entry_at-append, entry_at-changed, touched, touched-keeps}
use Rattle.hac_model.proofs.TermLemmas.{same-even}
use Rattle.hac_model.proofs.TreeLemmas.{entry_at-below}
use Rattle.reeval.proofs.EventLemmas.{item_of}
use Rattle.reeval.proofs.LeaveLemmas.{body-entry, document-home}
use Rattle.reeval.proofs.StayLemmas.{ParentsStay, StaysIn}

-- none of three tests is passed
pub none-of : (a b c : Bool) → (a || b || c) ≡ false → (a ≡ false) × (b ≡ false) × (c ≡ false)
none-of true b c h = absurd cc
none-of false true c h = absurd cc
none-of false false c h = (refl, refl, h)

pub put-other : {X : Type 0} (values : ℕ → X) (k : ℕ) (value : X) (n : ℕ) → (n == k) ≡ false → values n ≡ put_at values k value n
put-other values k value n other = ap (λ (b : Bool). if b then value else values n) (sym other)

-- Directories of entries.

-- entries that stay, each in its directory
abbrev pub AllStayIn : State → State → Type 0
AllStayIn s t = (n : ℕ) (e : Entry) → entry_at s.entries n ≡ Some e → StaysIn t n e

pub all-parents : (s t : State) → AllStayIn s t → ParentsStay s t
all-parents s t stay n e f before after =
    let there = stay n e before in
    let same : Some there.entry ≡ Some f = sym there.found ∙ after in
    let even : there.entry ≡ f = cc in
    ap (λ (x : Entry). x.parent) (sym even) ∙ there.parent

pub all-then : (s u t : State) → AllStayIn s u → AllStayIn u t → AllStayIn s t
all-then s u t first second n e found =
    let there = first n e found in
    let more = second n there.entry there.found in
    record { entry = more.entry; found = more.found; parent = more.parent ∙ there.parent }

pub added-stay : (s : State) (dir : ℕ) (name : List ℕ) (body : Body) → AllStayIn s (added s dir name body)
added-stay s dir name body n e found = record { entry = e; found = entry_at-append s.entries (record { number = s.next; parent = dir; name = name; body = body }) n e found; parent = refl }

pub edited-stay : (s : State) (k : ℕ) (edit : Body → Body) → AllStayIn s (changed_at s k (edited edit))
edited-stay s k edit n e found = record {
  entry = touched k (edited edit) e;
  found = entry_at-changed k (edited edit) s.entries n (λ e. refl) ∙ ap (option_map (touched k (edited edit))) found;
  parent = touched-keeps (λ e. e.parent) k (edited edit) e refl;
}

-- entries that stay or go, before others come
pub parents-then : (s u t : State) → IsLayout s → ParentsStay s u → AllStayIn u t → ((n : ℕ) → n < s.next → entry_at u.entries n ≡ None → entry_at t.entries n ≡ None) → ParentsStay s t
parents-then s u t h first second gone n e f before after = at (entry_at u.entries n) refl
  where
    at : (o : Option Entry) → entry_at u.entries n ≡ o → f.parent ≡ e.parent
    at None none = let never : Some f ≡ None = sym after ∙ gone n (entry_at-below 0 s.entries s.next n e h.numbers before) none in absurd cc
    at (Some g) found = all-parents u t second n g f found after ∙ first n e g before found

-- Items after an edit.

pub rewritten-item : (text : List ℕ) (dir : ℕ) (b : Body) → item_of dir (rewritten text b) ≡ item_of dir b
rewritten-item text dir (File old dirty shown) = refl
rewritten-item text dir other = refl

pub asking-item : (asked : Formula ℕ) (dir : ℕ) (b : Body) → item_of dir (asking asked b) ≡ item_of dir b
asking-item asked dir Dir = refl
asking-item asked dir (Semantic query permanent prohibited) = refl
asking-item asked dir other = refl

pub plain-item : (dir : ℕ) (b : Body) → item_of dir (plain_body b) ≡ item_of dir b
plain-item dir (Semantic query permanent prohibited) = refl
plain-item dir other = refl

pub marked-item : (n : ℕ) (kind : Kind) (dir : ℕ) (b : Body) → item_of dir (marked n kind b) ≡ item_of dir b
marked-item n Permanent dir (Semantic query permanent prohibited) = refl
marked-item n Prohibited dir (Semantic query permanent prohibited) = refl
marked-item n Transient dir (Semantic query permanent prohibited) = refl
marked-item n Unlinked dir (Semantic query permanent prohibited) = refl
marked-item n Permanent dir other = refl
marked-item n Prohibited dir other = refl
marked-item n Transient dir other = refl
marked-item n Unlinked dir other = refl

pub forgetting-item : (n dir : ℕ) (b : Body) → item_of dir (forgetting n b) ≡ item_of dir b
forgetting-item n dir (Semantic query permanent prohibited) = refl
forgetting-item n dir other = refl

pub gaining-item : (more : List Answer) (dir : ℕ) (b : Body) → item_of dir (gaining more b) ≡ item_of dir b
gaining-item more dir (Mount space answers) = refl
gaining-item more dir other = refl

pub such-item : (test : ℕ → Bool) (dir : ℕ) (b : Body) → item_of dir (forgetting_such test b) ≡ item_of dir b
such-item test dir (Semantic query permanent prohibited) = refl
such-item test dir other = refl

pub keeping-item : (answers : List Answer) (dir : ℕ) (b : Body) → item_of dir (keeping answers b) ≡ item_of dir b
keeping-item answers dir (Mount space kept) = refl
keeping-item answers dir other = refl

-- Queries after an edit.

pub indexed-query : (b : Body) → query_in (indexed b) ≡ query_in b
indexed-query (File old dirty shown) = refl
indexed-query other = refl

pub marked-query : (n : ℕ) (kind : Kind) (b : Body) → query_in (marked n kind b) ≡ query_in b
marked-query n Permanent (Semantic query permanent prohibited) = refl
marked-query n Prohibited (Semantic query permanent prohibited) = refl
marked-query n Transient (Semantic query permanent prohibited) = refl
marked-query n Unlinked (Semantic query permanent prohibited) = refl
marked-query n Permanent other = refl
marked-query n Prohibited other = refl
marked-query n Transient other = refl
marked-query n Unlinked other = refl

pub forgetting-query : (n : ℕ) (b : Body) → query_in (forgetting n b) ≡ query_in b
forgetting-query n (Semantic query permanent prohibited) = refl
forgetting-query n other = refl

pub gaining-query : (more : List Answer) (b : Body) → query_in (gaining more b) ≡ query_in b
gaining-query more (Mount space answers) = refl
gaining-query more other = refl

pub such-query : (test : ℕ → Bool) (b : Body) → query_in (forgetting_such test b) ≡ query_in b
such-query test (Semantic query permanent prohibited) = refl
such-query test other = refl

pub keeping-query : (answers : List Answer) (b : Body) → query_in (keeping answers b) ≡ query_in b
keeping-query answers (Mount space kept) = refl
keeping-query answers other = refl

-- Mounts of documents.

-- the mount of a document is one
pub own-mount : (s : State) (mount item : ℕ) → IsValid s → is_document_of s mount item ≡ true → is_mount_at s.entries mount ≡ true
own-mount s mount item h own =
    let parts = and_parts (is_document_at s.entries item) (parent_of s item == mount) own in
    ap (is_mount_at s.entries) (sym (eqb-true (parent_of s item) mount parts.1)) ∙ document-home s item h parts.0

-- and not the next number
pub mount-other : (s : State) (mount : ℕ) → IsValid s → is_mount_at s.entries mount ≡ true → (mount == s.next) ≡ false
mount-other s mount h is =
    let e = body-entry is_mount s.entries mount is in
    ne_eqb mount s.next (λ same. let low : mount < s.next = entry_at-below 0 s.entries s.next mount e.0 h.layout.numbers e.1 in omega (arith, low, same))

-- What mounts are told leaves what they keep.

put-kept : (new : Answer) (answers : List Answer) (term : Term) → is_same_term new.term term ≡ false → kept_for (put_answer new answers) term ≡ kept_for answers term
put-kept new [] term other = ap (λ (b : Bool). if b then Some new.documents else None) other
put-kept new (first ∷ answers) term other =
    elim (is_term_before new.term first.term) as (λ b. kept_for (if b then new ∷ first ∷ answers else first ∷ put_answer new answers) term ≡ kept_for (first ∷ answers) term) [
      | true ↦ ap (λ (b : Bool). if b then Some new.documents else kept_for (first ∷ answers) term) other
      | false ↦ ap (λ (o : Option (List ℕ)). if is_same_term first.term term then Some first.documents else o) (put-kept new answers term other)
    ]

-- none of the new answers is to a term that is kept
abbrev AreNew : List Answer → List Answer → Type 0
AreNew answers more = AllByRecursion (λ answer. is_kept answers answer.term ≡ false) more

with-kept : (more answers : List Answer) (term : Term) → AreNew answers more → is_kept answers term ≡ true → kept_for answers term ≡ kept_for (with_answers more answers) term
with-kept [] answers term new known = refl
with-kept (first ∷ more) answers term new known = with-kept more answers term new.1 known ∙ sym (put-kept first (with_answers more answers) term (apart (is_same_term first.term term) refl))
  where
    apart : (b : Bool) → is_same_term first.term term ≡ b → is_same_term first.term term ≡ false
    apart false is = is
    apart true is =
        let even : first.term ≡ term = same-even first.term term is in
        let never : true ≡ false = sym known ∙ ap (is_kept answers) (sym even) ∙ new.0 in absurd cc

unanswered-new : (answers : List Answer) (terms : List Term) (told : List (List ℕ)) → AreNew answers (answers_to (filter (λ term. not (is_kept answers term)) terms) told)
unanswered-new answers [] told = tt
unanswered-new answers (term ∷ terms) told =
    elim (is_kept answers term) as (λ b. is_kept answers term ≡ b → AreNew answers (answers_to (if not b then term ∷ filter (λ term. not (is_kept answers term)) terms else filter (λ term. not (is_kept answers term)) terms) told)) [
      | true ↦ (λ _. unanswered-new answers terms told)
      | false ↦ (λ none. first none (λ told. unanswered-new answers terms told) told)
    ] refl
  where
    first : is_kept answers term ≡ false → ((told : List (List ℕ)) → AreNew answers (answers_to (filter (λ term. not (is_kept answers term)) terms) told)) →
        (told : List (List ℕ)) → AreNew answers (answers_to (term ∷ filter (λ term. not (is_kept answers term)) terms) told)
    first none rest [] = tt
    first none rest (numbers ∷ told) = (none, rest told)

gained-new : (kept : ℕ → List Answer) (asked : Formula ℕ) (told : List (List ℕ)) (es : List Entry) (n : ℕ) → AreNew (kept n) (gained kept asked told es n)
gained-new kept asked told [] n = tt
gained-new kept asked told (e ∷ es) n =
    elim (e.number == n) as (λ b. (e.number == n) ≡ b → AreNew (kept n) (if b then answers_to (asked_by kept asked e) told else gained kept asked (drop (length (asked_by kept asked e)) told) es n)) [
      | true ↦ (λ here. subst (λ (k : ℕ). AreNew (kept k) (answers_to (asked_by kept asked e) told)) (eqb-true e.number n here) own)
      | false ↦ (λ other. gained-new kept asked (drop (length (asked_by kept asked e)) told) es n)
    ] refl
  where
    own : AreNew (kept e.number) (answers_to (asked_by kept asked e) told)
    own = elim (is_mount e.body) as (λ b. AreNew (kept e.number) (answers_to (if b then unanswered asked (kept e.number) else []) told)) [
      | true ↦ unanswered-new (kept e.number) (terms_in_order (terms_of asked)) told
      | false ↦ tt
    ]

pub told-kept : (kept : ℕ → List Answer) (asked : Formula ℕ) (told : List (List ℕ)) (es : List Entry) (n : ℕ) (term : Term) → is_kept (kept n) term ≡ true →
    kept_for (kept n) term ≡ kept_for (with_answers (gained kept asked told es n) (kept n)) term
told-kept kept asked told es n term known = with-kept (gained kept asked told es n) (kept n) term (gained-new kept asked told es n) known
