-- What the events of mounts owe.
use Rattle.std.proofs.Common.{◌≡◌, ℕ, ◌+◌, Bool, true, false, List, [], ◌∷◌, ◌++◌, subst, refl, ap, sym, ◌∙◌, arith, eq-eqb, inl, inr}
use Rattle.std.specs.Prelude.{◌⊎◌, ◌==◌, ◌&&◌, ◌||◌, if◌then◌else◌, not, Option, Some, None, IsTrue, option_and_then}
use Rattle.std.specs.Option.{option_map, option_map_or}
use Rattle.std.proofs.lemmas.Bool.{and_parts, eqb-true, not-true, or_parts}
use Rattle.hac_model.specs.Tree.Events.{accepted, added, edited, is_possible}
use Rattle.hac_model.specs.Tree.Facts.{Facts, facts_at, facts_in, facts_of, facts_without, no_facts, put_at}
use Rattle.hac_model.specs.Tree.Limits.{passed_limit}
use Rattle.hac_model.specs.Tree.Links.{has, is_item, parent_of, query_at}
use Rattle.hac_model.specs.Tree.Mounting.{answers_to, cleared, documents_from, forgetting_such, fresh, is_among, is_document_of, is_gone, is_of_mount, is_such_at, keeping, mounted, numbers_without, redocumented, synced, unmounted, with_documents, without_such}
use Rattle.hac_model.specs.Tree.Mounts.{kept_for, terms_to_ask}
use Rattle.hac_model.specs.Tree.Touched.{touches}
use Rattle.hac_model.specs.Tree.Valid.{IsLayout, IsValid, is_in_place}
use Rattle.hac_model.specs.Tree.{entry_at, is_directory_at, is_document, is_document_at, is_holder_at, is_mount, is_mount_at, query_in}
use Rattle.hac_model.specs.declared.events.Event.TheVariants as event
use Rattle.hac_model.specs.declared.states.Answer.{Answer}
use Rattle.hac_model.specs.declared.states.Body.{Body}
use Rattle.hac_model.specs.declared.states.Body.TheVariants.{File, Dir, Symlink, Semantic, Mount, Document}
use Rattle.hac_model.specs.declared.states.Entry.{Entry}
use Rattle.hac_model.specs.declared.states.State.{State}
use Rattle.hac_model.proofs.AcyclicLemmas.{apply-valid}
use Rattle.hac_model.proofs.ChangeLemmas.{entry_at-changed, touched}
use Rattle.hac_model.proofs.LayoutLemmas.{ssync-parts, sumount-parts}
use Rattle.hac_model.proofs.MapLemmas.{entry_at-mapped}
use Rattle.hac_model.proofs.MarkLemmas.{has-filter}
use Rattle.hac_model.proofs.MountAskLemmas.{entry_at-filter, passing}
use Rattle.hac_model.proofs.MountLayoutLemmas.{entry_at-documents}
use Rattle.hac_model.proofs.TreeLemmas.{entry_at-all, entry_at-next, entry_at-number, mount-directory}
use Rattle.hac_model.proofs.ValidLemmas.{accepted-parts}
use Rattle.hac_model.proofs.ViewLemmas.{seen-kept, seen-plain}
use Rattle.reeval.proofs.AskOwes.{put-alike}
use Rattle.reeval.proofs.EventLemmas.{FactsAlike, ItemSeen, Owes, documents-seen, homes-seen, is_seen, item_in, item_of, items-seen, owed-below, query_of}
use Rattle.reeval.proofs.OweLemmas.{AllStayIn, added-stay, all-parents, all-then, edited-stay, keeping-item, keeping-query, mount-other, own-mount, parents-then, put-other, such-item, such-query}
use Rattle.reeval.proofs.StayLemmas.{ParentsStay}
use Rattle.reeval.proofs.TreeOwes.{directory-unseen, mapped-stay}
use Rattle.hac_model.proofs.AskLemmas.{mount-asks}

-- Documents come.

-- what isn't there is a document of the mount then
record Comes (mount : ℕ) (before after : Option Entry) : Type 0 where
  pub none : before ≡ None
  pub doc : Entry
  pub found : after ≡ Some doc
  pub body : doc.body ≡ Document
  pub parent : doc.parent ≡ mount

come : (next mount n : ℕ) (names : List (List ℕ)) → (entry_at (documents_from next mount names) n ≡ None) ⊎ Comes mount None (entry_at (documents_from next mount names) n)
come next mount n [] = inl refl
come next mount n (name ∷ names) =
    let new : Entry = record { number = next; parent = mount; name = name; body = Document } in
    elim (next == n) as (λ b. ((if b then Some new else entry_at (documents_from (next + 1) mount names) n) ≡ None) ⊎ Comes mount None (if b then Some new else entry_at (documents_from (next + 1) mount names) n)) [
      | true ↦ inr (record { none = refl; doc = new; found = refl; body = refl; parent = refl })
      | false ↦ come (next + 1) mount n names
    ]

-- what is there stays
come-behind : (es : List Entry) (next mount n : ℕ) (names : List (List ℕ)) → (entry_at (es ++ documents_from next mount names) n ≡ entry_at es n) ⊎ Comes mount (entry_at es n) (entry_at (es ++ documents_from next mount names) n)
come-behind [] next mount n names = come next mount n names
come-behind (e ∷ es) next mount n names =
    elim (e.number == n) as (λ b. ((if b then Some e else entry_at (es ++ documents_from next mount names) n) ≡ (if b then Some e else entry_at es n))
    ⊎ Comes mount (if b then Some e else entry_at es n) (if b then Some e else entry_at (es ++ documents_from next mount names) n)) [
      | true ↦ inl refl
      | false ↦ come-behind es next mount n names
    ]

-- documents have no query
come-query : (es : List Entry) (next mount n : ℕ) (names : List (List ℕ)) → query_of (entry_at (es ++ documents_from next mount names) n) ≡ query_of (entry_at es n)
come-query es next mount n names = elim (come-behind es next mount n names) [
  | inl same ↦ ap query_of same
  | inr comes ↦ ap query_of comes.found ∙ ap query_in comes.body ∙ sym (ap query_of comes.none)
]

come-stay : (s : State) (mount : ℕ) (names : List (List ℕ)) → AllStayIn s (with_documents s mount names)
come-stay s mount names n e found = record { entry = e; found = at (come-behind s.entries s.next mount n names); parent = refl }
  where
    at : (entry_at (with_documents s mount names).entries n ≡ entry_at s.entries n) ⊎ Comes mount (entry_at s.entries n) (entry_at (with_documents s mount names).entries n) → entry_at (with_documents s mount names).entries n ≡ Some e
    at (inl same) = same ∙ found
    at (inr comes) = let never : None ≡ Some e = sym comes.none ∙ found in absurd cc

-- Documents of a mount, as they are seen.

abbrev document_seen : ℕ → Option ItemSeen
document_seen mount = Some (record { document = true; text = None; parent = mount })

seen-own : (s : State) (mount n : ℕ) → item_in (entry_at s.entries n) ≡ document_seen mount → is_document_of s mount n ≡ true
seen-own s mount n seen =
    (λ i. document i && (parent i == mount)) ∙ eq-eqb mount mount refl
  where
    document : is_document_at s.entries n ≡ true
    document = documents-seen (entry_at s.entries n) ∙ ap (λ (o : Option ItemSeen). option_map_or (λ (i : ItemSeen). i.document) o false) seen

    parent : parent_of s n ≡ mount
    parent = homes-seen (entry_at s.entries n) (items-seen (entry_at s.entries n) ∙ ap is_seen seen) ∙ ap (λ (o : Option ItemSeen). option_map_or (λ (i : ItemSeen). i.parent) o 0) seen

-- what comes is seen as a document
comes-seen : (mount : ℕ) (before after : Option Entry) → Comes mount before after → item_in after ≡ document_seen mount
comes-seen mount before after comes = ap item_in comes.found ∙ (λ i. item_of (comes.parent i) (comes.body i))

-- an entry that is one
entry-own : (s : State) (mount n : ℕ) (e : Entry) → entry_at s.entries n ≡ Some e → is_document e.body ≡ true → (e.parent == mount) ≡ true → is_document_of s mount n ≡ true
entry-own s mount n e found document parent =
    (λ i. option_map_or is_document (option_map (λ (e : Entry). e.body) (found i)) false && (option_map_or (λ (e : Entry). e.parent) (found i) 0 == mount))
    ∙ (λ i. document i && parent i)

-- nothing but documents is in a mount
inside-document : (s : State) (mount n : ℕ) (e : Entry) → IsLayout s → is_mount_at s.entries mount ≡ true → entry_at s.entries n ≡ Some e → (e.parent == mount) ≡ true → is_document e.body ≡ true
inside-document s mount n e h there found here = elim (is_document e.body) as (λ b. (if b then is_mount_at s.entries e.parent else is_holder_at s.entries e.parent) ≡ true → b ≡ true) [
  | true ↦ (λ _. refl)
  | false ↦ (λ holder.
      let plain : is_mount_at s.entries e.parent ≡ false = not-true (is_mount_at s.entries e.parent) (and_parts (is_directory_at s.entries e.parent) (not (is_mount_at s.entries e.parent)) holder).1 in
      sym plain ∙ ap (is_mount_at s.entries) (eqb-true e.parent mount here) ∙ there)
] (entry_at-all (λ e. IsTrue (is_in_place s.entries e)) s.entries n e h.places found)

no-query : (b : Body) → is_document b ≡ true → query_in b ≡ None
no-query (File text dirty shown) is = refl
no-query Dir is = refl
no-query (Symlink target) is = refl
no-query (Semantic asked permanent prohibited) is = absurd cc
no-query (Mount space answers) is = refl
no-query Document is = refl

-- What is known of a mount beside its answers.

mount-facts : (s : State) (mount item : ℕ) (answers : List Answer) → is_mount_at s.entries mount ≡ true → FactsAlike item (facts_of s mount) (record no_facts { answers = answers })
mount-facts s mount item answers is = at (entry_at s.entries mount) is
  where
    body : (dir : ℕ) (b : Body) → is_mount b ≡ true → FactsAlike item (facts_in (is_directory_at s.entries) dir b) (record no_facts { answers = answers })
    body dir (Mount space kept) is = record { edges = refl; added = refl; removed = refl }
    body dir (File text dirty shown) is = absurd cc
    body dir Dir is = absurd cc
    body dir (Symlink target) is = absurd cc
    body dir (Semantic asked permanent prohibited) is = absurd cc
    body dir Document is = absurd cc

    at : (o : Option Entry) → option_map_or is_mount (option_map (λ (e : Entry). e.body) o) false ≡ true → FactsAlike item (facts_at (is_directory_at s.entries) o) (record no_facts { answers = answers })
    at None is = absurd cc
    at (Some e) is = body e.parent e.body is

-- marks on what doesn't go stay
kept-facts : (gone : ℕ → Bool) (facts : ℕ → Facts) (item n : ℕ) → gone item ≡ false → FactsAlike item (facts n) (facts_without gone facts n)
kept-facts gone facts item n stays = record { edges = refl; added = kept (facts n).marks.permanent; removed = kept (facts n).marks.prohibited }
  where
    kept : (ks : List ℕ) → has ks item ≡ has (numbers_without gone ks) item
    kept ks = sym (has-filter (λ k. not (gone k)) ks item ∙ ap (λ (b : Bool). not b && has ks item) stays)

-- those of one number are others
one-alike : (facts others : ℕ → Facts) (k item : ℕ) (new : Facts) (n : ℕ) → FactsAlike item (facts k) new → FactsAlike item (facts n) (others n) → FactsAlike item (facts n) (put_at others k new n)
one-alike facts others k item new n own rest =
    elim (n == k) as (λ b. (n == k) ≡ b → FactsAlike item (facts n) (if b then new else others n)) [
      | true ↦ (λ here. subst (λ (m : ℕ). FactsAlike item (facts m) new) (sym (eqb-true n k here)) own)
      | false ↦ (λ _. rest)
    ] refl

-- Entries go, several at once.

module _ (s : State) (h : IsLayout s) (test : Entry → Bool) where
  abbrev gone : ℕ → Bool
  gone n = is_such_at test s.entries n

  abbrev left : State
  left = without_such test s

  -- what is seen of an entry that stays, or of which nothing was seen, is seen as before
  cleared-view : {X : Type 0} (view : Option Entry → X) → ((e : Entry) → view (Some (edited (forgetting_such gone) e)) ≡ view (Some e)) → (n : ℕ) →
      ((e : Entry) → entry_at s.entries n ≡ Some e → test e ≡ true → view (Some e) ≡ view None) → view (entry_at (cleared test s).entries n) ≡ view (entry_at s.entries n)
  cleared-view view same n none =
      ap view (entry_at-mapped (forgetting_such gone) left.entries n)
      ∙ forgot (entry_at left.entries n)
      ∙ ap view (entry_at-filter (λ e. not (test e)) 0 s.entries s.next n h.numbers)
      ∙ at (entry_at s.entries n) refl
    where
      forgot : (o : Option Entry) → view (option_map (edited (forgetting_such gone)) o) ≡ view o
      forgot None = refl
      forgot (Some e) = same e

      at : (o : Option Entry) → entry_at s.entries n ≡ o → view (option_and_then (passing (λ e. not (test e))) o) ≡ view o
      at None found = refl
      at (Some e) found = elim (test e) as (λ b. test e ≡ b → view (if not b then Some e else None) ≡ view (Some e)) [
        | true ↦ (λ goes. sym (none e found goes))
        | false ↦ (λ _. refl)
      ] refl

  left-parents : ParentsStay s left
  left-parents n e f before after =
      let kept : option_and_then (passing (λ e. not (test e))) (Some e) ≡ Some f =
      ap (option_and_then (passing (λ e. not (test e)))) (sym before) ∙ sym (entry_at-filter (λ e. not (test e)) 0 s.entries s.next n h.numbers) ∙ after in
      at (test e) kept
    where
      at : (b : Bool) → (if not b then Some e else None) ≡ Some f → f.parent ≡ e.parent
      at true same = absurd cc
      at false same = let even : e ≡ f = cc in ap (λ (x : Entry). x.parent) (sym even)

  cleared-parents : ParentsStay s (cleared test s)
  cleared-parents =
      parents-then s left (cleared test s) h left-parents (mapped-stay left (cleared test s) (forgetting_such gone) refl)
      (λ n low none. entry_at-mapped (forgetting_such gone) left.entries n ∙ ap (option_map (edited (forgetting_such gone))) none)

module _ (s : State) (item : ℕ) (h : IsValid s) where
  -- A mount comes.

  module _ (dir : ℕ) (name space : List ℕ) (documents told : List (List ℕ)) (ok : IsTrue (accepted s (event.Smount dir name space documents told))) (untouched : touches s (event.Smount dir name space documents told) item ≡ false) where
    abbrev kept : List Answer
    kept = answers_to (terms_to_ask s.entries) told

    abbrev new : Entry
    new = record { number = s.next; parent = dir; name = name; body = Mount space kept }

    abbrev u : State
    u = added s dir name (Mount space kept)

    abbrev t : State
    t = mounted s dir name space kept documents

    mounted-sight : item_in (entry_at s.entries item) ≡ item_in (entry_at t.entries item)
    mounted-sight = elim (come-behind u.entries u.next s.next item documents) [
      | inl same ↦ sym (ap item_in same ∙ seen-plain item_in s.entries new h.layout.numbers refl item)
      | inr comes ↦ (let never : true ≡ false = sym (seen-own t s.next item (comes-seen s.next (entry_at u.entries item) (entry_at t.entries item) comes)) ∙ untouched in absurd cc)
    ]

    next-facts : FactsAlike item (facts_of s s.next) (record no_facts { answers = kept })
    next-facts = subst (λ (f : Facts). FactsAlike item f (record no_facts { answers = kept }))
        (sym (ap (facts_at (is_directory_at s.entries)) (entry_at-next 0 s.entries s.next s.next h.layout.numbers (omega arith)))) (record { edges = refl; added = refl; removed = refl })

    pub smount-owes : Owes s (event.Smount dir name space documents told) item
    smount-owes = record {
      sight = mounted-sight;
      queries = λ d still. sym (come-query u.entries u.next s.next d documents ∙ seen-plain query_of s.entries new h.layout.numbers refl d);
      facts = λ is d still. put-alike item (facts_of s) s.next (record no_facts { answers = kept }) d next-facts;
      answers = λ mount own term known. ap (λ (f : Facts). kept_for f.answers term) (put-other (facts_of s) s.next (record no_facts { answers = kept }) mount (mount-other s mount h (own-mount s mount item h own)));
      below = owed-below s t item h (apply-valid s (event.Smount dir name space documents told) h ok)
          (all-parents s t (all-then s u t (added-stay s dir name (Mount space kept)) (come-stay u s.next documents)));
    }

  -- documents of another mount than this one are untouched
  own-other : (mount other : ℕ) → is_document_of s mount item ≡ false → is_document_of s other item ≡ true → (other == mount) ≡ false
  own-other mount other untouched own = elim (other == mount) as (λ b. (other == mount) ≡ b → b ≡ false) [
    | true ↦ (λ here. let never : true ≡ false = sym own ∙ ap (λ (m : ℕ). is_document_of s m item) (eqb-true other mount here) ∙ untouched in absurd cc)
    | false ↦ (λ _. refl)
  ] refl

  -- A mount is synced.

  module _ (mount : ℕ) (documents told : List (List ℕ)) (ok : IsTrue (accepted s (event.Ssync mount documents told))) (untouched : touches s (event.Ssync mount documents told) item ≡ false) where
    abbrev takes : List Answer
    takes = answers_to (terms_to_ask s.entries) told

    abbrev goes : Entry → Bool
    goes = is_gone mount documents

    abbrev rest : State
    rest = cleared goes s

    abbrev filled : State
    filled = redocumented s mount documents

    abbrev after : State
    after = synced s mount takes documents

    parts-untouched : (is_document_of s mount item ≡ false) × (is_document_of after mount item ≡ false)
    parts-untouched = or_parts (is_document_of s mount item) (is_document_of after mount item) untouched

    there : is_mount_at s.entries mount ≡ true
    there = (ssync-parts s mount documents told (accepted-parts (is_possible s (event.Ssync mount documents told)) (passed_limit after) ok).0).0

    -- what goes is a document of the mount
    goes-own : (n : ℕ) (e : Entry) → entry_at s.entries n ≡ Some e → goes e ≡ true → (is_document e.body ≡ true) × (is_document_of s mount n ≡ true)
    goes-own n e found going =
        let parts = and_parts (is_document e.body) (e.parent == mount && not (is_among documents e.name)) going in
        let more = and_parts (e.parent == mount) (not (is_among documents e.name)) parts.1 in
        (parts.0, entry-own s mount n e found parts.0 more.0)

    stays : is_such_at goes s.entries item ≡ false
    stays = at (entry_at s.entries item) refl
      where
        at : (o : Option Entry) → entry_at s.entries item ≡ o → option_map_or goes o false ≡ false
        at None found = refl
        at (Some e) found = elim (goes e) as (λ b. goes e ≡ b → b ≡ false) [
          | true ↦ (λ going. let never : true ≡ false = sym (goes-own item e found going).1 ∙ parts-untouched.0 in absurd cc)
          | false ↦ (λ _. refl)
        ] refl

    kept-sight : item_in (entry_at after.entries item) ≡ item_in (entry_at filled.entries item)
    kept-sight = seen-kept item_in filled.entries mount (edited (keeping takes)) (λ e. refl) (λ e. keeping-item takes e.parent e.body) item

    synced-sight : item_in (entry_at s.entries item) ≡ item_in (entry_at after.entries item)
    synced-sight = elim (come-behind rest.entries rest.next mount item (fresh s mount documents)) [
      | inl same ↦ sym (
          kept-sight ∙ ap item_in same
          ∙ cleared-view s h.layout goes item_in (λ e. such-item (is_such_at goes s.entries) e.parent e.body) item
          (λ e found going. let never : true ≡ false = sym (goes-own item e found going).1 ∙ parts-untouched.0 in absurd cc))
      | inr comes ↦
          (let never : true ≡ false = sym (seen-own after mount item (kept-sight ∙ comes-seen mount (entry_at rest.entries item) (entry_at filled.entries item) comes)) ∙ parts-untouched.1 in absurd cc)
    ]

    synced-query : (d : ℕ) → query_at s d ≡ query_at after d
    synced-query d = sym (
        seen-kept query_of filled.entries mount (edited (keeping takes)) (λ e. refl) (λ e. keeping-query takes e.body) d
        ∙ come-query rest.entries rest.next mount d (fresh s mount documents)
        ∙ cleared-view s h.layout goes query_of (λ e. such-query (is_such_at goes s.entries) e.body) d (λ e found going. no-query e.body (goes-own d e found going).0))

    synced-parents : ParentsStay s after
    synced-parents =
        parents-then s rest after h.layout (cleared-parents s h.layout goes)
        (all-then rest filled after (come-stay rest mount (fresh s mount documents)) (edited-stay filled mount (keeping takes)))
        (λ n low none. entry_at-changed mount (edited (keeping takes)) filled.entries n (λ e. refl)
        ∙ ap (option_map (touched mount (edited (keeping takes)))) (entry_at-documents rest.entries rest.next mount n (fresh s mount documents) low ∙ none))

    pub ssync-owes : Owes s (event.Ssync mount documents told) item
    ssync-owes = record {
      sight = synced-sight;
      queries = λ d still. synced-query d;
      facts = λ is d still. one-alike (facts_of s) (facts_without (is_such_at goes s.entries) (facts_of s)) mount item (record no_facts { answers = takes }) d
          (mount-facts s mount item takes there) (kept-facts (is_such_at goes s.entries) (facts_of s) item d stays);
      answers = λ other own term known. ap (λ (f : Facts). kept_for f.answers term)
          (put-other (facts_without (is_such_at goes s.entries) (facts_of s)) mount (record no_facts { answers = takes }) other (own-other mount other parts-untouched.0 own));
      below = owed-below s after item h (apply-valid s (event.Ssync mount documents told) h ok) synced-parents;
    }

  -- A mount goes.

  module _ (mount : ℕ) (ok : IsTrue (accepted s (event.Sumount mount))) (untouched : touches s (event.Sumount mount) item ≡ false) where
    abbrev leaves : Entry → Bool
    leaves = is_of_mount mount

    abbrev bare : State
    bare = unmounted s mount

    stands : is_mount_at s.entries mount ≡ true
    stands = (sumount-parts s mount (accepted-parts (is_possible s (event.Sumount mount)) (passed_limit bare) ok).0).0

    -- what goes is the mount or a document of it
    leaves-own : (n : ℕ) (e : Entry) → entry_at s.entries n ≡ Some e → leaves e ≡ true → (n ≡ mount) ⊎ ((is_document e.body ≡ true) × (is_document_of s mount n ≡ true))
    leaves-own n e found leaving = elim (e.number == mount) as (λ b. (e.number == mount) ≡ b → (b || e.parent == mount) ≡ true → (n ≡ mount) ⊎ ((is_document e.body ≡ true) × (is_document_of s mount n ≡ true))) [
      | true ↦ (λ here _. inl (sym (entry_at-number s.entries n e found) ∙ eqb-true e.number mount here))
      | false ↦ (λ _ inside. (let document = inside-document s mount n e h.layout stands found inside in inr (document, entry-own s mount n e found document inside)))
    ] refl leaving

    -- so no item that isn't touched
    leaves-hidden : (e : Entry) → entry_at s.entries item ≡ Some e → leaves e ≡ true → item_in (Some e) ≡ None
    leaves-hidden e found leaving = elim (leaves-own item e found leaving) [
      | inl here ↦ ap item_in (sym found) ∙ ap (λ (n : ℕ). item_in (entry_at s.entries n)) here ∙ directory-unseen s mount h.layout (mount-directory s.entries mount stands)
      | inr own ↦ (let never : true ≡ false = sym own.1 ∙ untouched in absurd cc)
    ]

    -- and nothing with a query
    leaves-plain : (d : ℕ) (e : Entry) → entry_at s.entries d ≡ Some e → leaves e ≡ true → query_in e.body ≡ None
    leaves-plain d e found leaving = elim (leaves-own d e found leaving) [
      | inl here ↦ mount-asks e.body (ap (λ (o : Option Entry). option_map_or is_mount (option_map (λ (e : Entry). e.body) o) false) (sym found ∙ ap (entry_at s.entries) here) ∙ stands)
      | inr own ↦ no-query e.body own.0
    ]

    remains : is_item s item ≡ true → is_such_at leaves s.entries item ≡ false
    remains is = at (entry_at s.entries item) refl
      where
        at : (o : Option Entry) → entry_at s.entries item ≡ o → option_map_or leaves o false ≡ false
        at None found = refl
        at (Some e) found = elim (leaves e) as (λ b. leaves e ≡ b → b ≡ false) [
          | true ↦ (λ leaving. let never : true ≡ false = sym is ∙ items-seen (entry_at s.entries item) ∙ ap is_seen (ap item_in found ∙ leaves-hidden e found leaving) in absurd cc)
          | false ↦ (λ _. refl)
        ] refl

    pub sumount-owes : Owes s (event.Sumount mount) item
    sumount-owes = record {
      sight = sym (cleared-view s h.layout leaves item_in (λ e. such-item (is_such_at leaves s.entries) e.parent e.body) item leaves-hidden);
      queries = λ d still. sym (cleared-view s h.layout leaves query_of (λ e. such-query (is_such_at leaves s.entries) e.body) d (leaves-plain d));
      facts = λ is d still. one-alike (facts_of s) (facts_without (is_such_at leaves s.entries) (facts_of s)) mount item no_facts d
          (mount-facts s mount item [] stands) (kept-facts (is_such_at leaves s.entries) (facts_of s) item d (remains is));
      answers = λ other own term known. ap (λ (f : Facts). kept_for f.answers term)
          (put-other (facts_without (is_such_at leaves s.entries) (facts_of s)) mount no_facts other (own-other mount other untouched own));
      below = owed-below s bare item h (apply-valid s (event.Sumount mount) h ok) (cleared-parents s h.layout leaves);
    }
