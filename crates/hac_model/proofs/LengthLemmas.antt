-- The payload of each event that can happen is shorter than 2 ^ 32 bytes, so that a record's four bytes hold its length.
use Rattle.std.proofs.Common.{◌≡◌, ℕ, zero, suc, ◌+◌, ◌*◌, ◌<◌, ◌≤◌, ◌^◌, Bool, true, false, cond, List, [], ◌∷◌, ◌++◌, length, refl, sym, ◌∙◌, ap, nat_lt, arith, length-append}
use Rattle.std.specs.Prelude.{◌==◌, ◌&&◌, not, nat_le, sum_by, map, drop, take, if◌then◌else◌, Option, Some, None, IsTrue}
use Rattle.std.specs.Int.{w8, w16, w32, to_le_bytes}
use Rattle.std.specs.List.{AllByRecursion, list_all}
use Rattle.std.specs.Option.{option_map, option_map_or}
use Rattle.std.proofs.lemmas.Bool.{and_parts, eq-eqb, eqb-true, leb-true, ne_eqb}
use Rattle.std.proofs.lemmas.Bool.Decides.{nat_tests}
use Rattle.std.proofs.lemmas.List.{nil_from_length, take-append-drop}
use Rattle.std.proofs.lemmas.List.Sums.{sum_by-append, sum_by-cons}
use Rattle.hac_model.specs.Payload.Fields.{checked, count, Field, items_fit, items_text, num, ◌&◌}
use Rattle.hac_model.specs.Payload.Payloads.{docs_field, event_field, event_text, is_spellable, mark_field, name_field, nums, rises, space_field, target_field, text_field, told_field}
use Rattle.hac_model.specs.Payload.QueryFields.{are_nums, query_bytes, query_field}
use Rattle.hac_model.specs.Query.Formula.{Formula}
use Rattle.hac_model.specs.Query.Formula as query
use Rattle.hac_model.specs.Query.Queries.{are_terms, is_query, letter_count, not_count, sum_leaves, term_count, terms_of}
use Rattle.hac_model.specs.Script.PathWords.{is_path_word}
use Rattle.hac_model.specs.Script.SpaceNames.{is_space_name}
use Rattle.hac_model.specs.Query.Terms.{is_term_before}
use Rattle.hac_model.specs.Tree.Asking.{are_all_told, asked_by, gained, gaining, put_answer, unanswered, with_answers, with_told}
use Rattle.hac_model.specs.Tree.Depends.{named_in}
use Rattle.hac_model.specs.Tree.Events.{accepted, apply, are_directories, is_possible, may_ask}
use Rattle.hac_model.specs.Tree.Links.{answers_at, parent_of}
use Rattle.hac_model.specs.Tree.Mounts.{terms_in_order, is_kept, terms_to_ask}
use Rattle.hac_model.specs.Tree.Changes.{changed_in, edited}
use Rattle.hac_model.specs.Tree.Limits.{answers_kept, are_answers_few, documents_kept, item_count, mount_count, passed_limit}
use Rattle.hac_model.specs.Tree.Listing.{is_before}
use Rattle.hac_model.specs.Tree.Mounting.{answers_to, are_told, cleared, do_rise_from, documents_from, fresh, is_document_of, is_gone, is_told, keeping, mounted, redocumented, synced}
use Rattle.hac_model.specs.Tree.Sessions.{is_stored}
use Rattle.hac_model.specs.Tree.Valid.{IsLayout, IsValid, NumbersRise, RiseFrom}
use Rattle.hac_model.specs.Tree.{entry_at, is_document, is_document_at, is_linkable, is_mount, is_mount_at}
use Rattle.hac_model.specs.Versions.{docs_limit}
use Rattle.hac_model.specs.declared.limits.TheConstants.{ANSWERS_LIMIT, ITEMS_LIMIT, MOUNTS_LIMIT, NAME_LIMIT, NESTING_LIMIT, PAIRS_LIMIT, QUERY_LIMIT, TARGET_LIMIT, TERMS_LIMIT, TEXT_LIMIT}
use Rattle.hac_model.specs.declared.events.Event.{Event}
use Rattle.hac_model.specs.declared.events.Event.TheVariants.{Mkdir, NewFile, Rewrite, Ln, Mv, Rm, Rmdir, Smkdir, Setq, Unq, Mark, Smount, Ssync, Sumount, Step, Cd}
use Rattle.hac_model.specs.declared.marks.Kind.{Kind}
use Rattle.hac_model.specs.declared.marks.Kind.TheVariants.{Transient, Permanent, Prohibited, Unlinked}
use Rattle.hac_model.specs.declared.states.Answer.{Answer}
use Rattle.hac_model.specs.declared.states.Body.{Body}
use Rattle.hac_model.specs.declared.states.Body.TheVariants.{File, Dir, Mount, Document}
use Rattle.hac_model.specs.declared.states.Entry.{Entry}
use Rattle.hac_model.specs.declared.states.State.{State}
use Rattle.hac_model.specs.declared.terms.Term.{Term}
use Rattle.hac_model.specs.declared.terms.Term.TheVariants.{Word, Prefix}
use Rattle.hac_model.specs.declared.versions.Version.{Version}
use Rattle.hac_model.specs.declared.versions.Version.TheVariants.{One, Two}
use Rattle.hac_model.proofs.CountLemmas.{measured, measured-added, measured-cons, one_if}
use Rattle.hac_model.proofs.ChangeLemmas.{all-weaker}
use Rattle.hac_model.proofs.FittingLemmas.{layout-fits}
use Rattle.hac_model.proofs.LimitLemmas.{limits-within, most-mounts}
use Rattle.hac_model.proofs.MountKeptLemmas.{rise-told}
use Rattle.hac_model.proofs.LayoutLemmas.{smount-parts, ssync-parts}
use Rattle.hac_model.proofs.SpelledLemmas.{accepted-spelled}
use Rattle.hac_model.proofs.ValidLemmas.{accepted-parts, setq-parts, smkdir-parts}
use Rattle.hac_model.proofs.TreeLemmas.{entry_at-above, entry_at-behind}
use Rattle.hac_model.proofs.MountAskLemmas.{test-joined}
use Rattle.hac_model.proofs.MountLayoutLemmas.{all-tested, cleared-mount}
use Rattle.hac_model.proofs.SpellableLemmas.{filter-few, order-few, terms-few}

-- ---- numbers and runs of bytes

pub num-length : (version : Version) (n : ℕ) → length ((num version).text n) ≤ 8
num-length One n = omega arith
num-length Two n = omega arith

pub name-length : (name : List ℕ) → name_field.fits name ≡ true → length (name_field.text name) ≤ 256
name-length name fits =
    let most : length name ≤ NAME_LIMIT = leb-true (length name) NAME_LIMIT (and_parts (nat_le (length name) NAME_LIMIT) _ fits).0 in
    omega (arith, most, length-append (to_le_bytes w8 (length name)) name)

-- ---- numbers that rise

-- how many numbers the lists have together
abbrev told_size : List (List ℕ) → ℕ
told_size told = sum_by (λ (ns : List ℕ). length ns) told

items-length : (version : Version) (last : Option ℕ) (ns : List ℕ) → length (items_text (λ last. checked (num version) (rises nat_lt last)) last ns) ≤ 8 * length ns
items-length version last [] = omega arith
items-length version last (n ∷ ns) =
    omega (arith, num-length version n, items-length version (Some n) ns, length-append ((num version).text n) (items_text (λ last. checked (num version) (rises nat_lt last)) (Some n) ns))

pub nums-length : (version : Version) (ns : List ℕ) → length ((nums version).text ns) ≤ 4 + 8 * length ns
nums-length version ns = omega (arith, items-length version None ns, length-append (count.text (length ns)) (items_text (λ last. checked (num version) (rises nat_lt last)) None ns))

lists-length : (version : Version) (last : Option (List ℕ)) (told : List (List ℕ)) → length (items_text (λ last. nums version) last told) ≤ 4 * length told + 8 * told_size told
lists-length version last [] = omega arith
lists-length version last (ns ∷ told) =
    omega (arith, nums-length version ns, lists-length version (Some ns) told, sum_by-cons (λ (ns : List ℕ). length ns) ns told, length-append ((nums version).text ns) (items_text (λ last. nums version) (Some ns) told))

told-length : (version : Version) (told : List (List ℕ)) → length ((told_field version).text told) ≤ 4 + 4 * length told + 8 * told_size told
told-length version told = omega (arith, lists-length version None told, length-append (count.text (length told)) (items_text (λ last. nums version) None told))

-- ---- queries

-- what each leaf counts for
abbrev weighed : ℕ → Formula ℕ → ℕ
weighed k q = sum_leaves (λ term. k) (λ dir. k) q

-- `NOT`s stand around terms
leaves-more : (k n : ℕ) (q : Formula ℕ) → k < n → weighed k q + 1 ≤ weighed n q
leaves-more k n (query.Term term) less = omega (arith, less)
leaves-more k n (query.Dir dir) less = omega (arith, less)
leaves-more k n (query.Not q) less = leaves-more k n q less
leaves-more k n (query.And left right) less = omega (arith, leaves-more k n left less, leaves-more k n right less)
leaves-more k n (query.Or left right) less = omega (arith, leaves-more k n left less, leaves-more k n right less)

query-parts : (version : Version) (k : ℕ) (q : Formula ℕ) → not_count q ≤ k
    → length (query_bytes version q) + 1 ≤ letter_count q + weighed (10 + k) q
query-parts version k (query.Term (Word letters)) nots = omega (arith, length-append (to_le_bytes w16 (length letters)) letters)
query-parts version k (query.Term (Prefix letters)) nots = omega (arith, length-append (to_le_bytes w16 (length letters)) letters)
query-parts version k (query.Dir dir) nots = omega (arith, num-length version dir)
query-parts version zero (query.Not q) nots = absurd (omega (arith, nots))
query-parts version (suc k) (query.Not q) nots =
    let inner : length (query_bytes version q) + 1 ≤ letter_count (query.Not q) + weighed (10 + k) q = query-parts version k q (omega (arith, nots)) in
    let more : weighed (10 + k) q + 1 ≤ weighed (10 + suc k) (query.Not q) = leaves-more (10 + k) (10 + suc k) q (omega arith) in
    omega (arith, inner, more)
query-parts version k (query.And left right) nots =
    omega (arith, query-parts version k left (omega (arith, nots)), query-parts version k right (omega (arith, nots)), length-append (query_bytes version left) (query_bytes version right))
query-parts version k (query.Or left right) nots =
    omega (arith, query-parts version k left (omega (arith, nots)), query-parts version k right (omega (arith, nots)), length-append (query_bytes version left) (query_bytes version right))

leaves-all : (q : Formula ℕ) → sum_leaves (λ term. 42) (λ dir. 42) q ≡ 42 * term_count q
leaves-all (query.Term term) = refl
leaves-all (query.Dir dir) = refl
leaves-all (query.Not q) = leaves-all q
leaves-all (query.And left right) = omega (arith, leaves-all left, leaves-all right)
leaves-all (query.Or left right) = omega (arith, leaves-all left, leaves-all right)

pub query-length : (version : Version) (q : Formula ℕ) → (query_field version).fits q ≡ true → length ((query_field version).text q) ≤ 3712
query-length version q fits =
    let asked = and_parts (is_query q) (are_nums version q) fits in
    let nested = and_parts (are_terms q && nat_le (term_count q) TERMS_LIMIT && nat_le (letter_count q) QUERY_LIMIT) (nat_le (not_count q) NESTING_LIMIT) asked.0 in
    let sized = and_parts (are_terms q && nat_le (term_count q) TERMS_LIMIT) (nat_le (letter_count q) QUERY_LIMIT) nested.0 in
    let terms : term_count q ≤ TERMS_LIMIT = leb-true (term_count q) TERMS_LIMIT (and_parts (are_terms q) (nat_le (term_count q) TERMS_LIMIT) sized.0).1 in
    let letters : letter_count q ≤ QUERY_LIMIT = leb-true (letter_count q) QUERY_LIMIT sized.1 in
    let nots : not_count q ≤ 32 = leb-true (not_count q) NESTING_LIMIT nested.1 in
    omega (arith, query-parts version 32 q nots, leaves-all q, terms, letters)

-- ---- names of documents

docs-items : (last : Option (List ℕ)) (names : List (List ℕ)) → items_fit (λ last. checked name_field (rises is_before last)) last names ≡ true
    → length (items_text (λ last. checked name_field (rises is_before last)) last names) ≤ 256 * length names
docs-items last [] fit = omega arith
docs-items last (name ∷ names) fit =
    let parts = and_parts (name_field.fits name && rises is_before last name) (items_fit (λ last. checked name_field (rises is_before last)) (Some name) names) fit in
    let own = and_parts (name_field.fits name) (rises is_before last name) parts.0 in
    omega (arith, name-length name own.0, docs-items (Some name) names parts.1, length-append (name_field.text name) (items_text (λ last. checked name_field (rises is_before last)) (Some name) names))

pub most-docs : (version : Version) → docs_limit version ≤ 65536
most-docs One = omega arith
most-docs Two = omega arith

docs-length : (version : Version) (names : List (List ℕ)) → (docs_field version).fits names ≡ true → length ((docs_field version).text names) ≤ 16777220
docs-length version names fits =
    let parts = and_parts (count.fits (length names) && nat_le (length names) (docs_limit version)) (items_fit (λ last. checked name_field (rises is_before last)) None names) fits in
    let few : length names ≤ docs_limit version = leb-true (length names) (docs_limit version) (and_parts (count.fits (length names)) (nat_le (length names) (docs_limit version)) parts.0).1 in
    omega (arith, most-docs version, few, docs-items None names parts.1, length-append (count.text (length names)) (items_text (λ last. checked name_field (rises is_before last)) None names))

-- ---- what a mount is told, of each term in use

answers-size : (terms : List Term) (told : List (List ℕ)) → length told ≡ length terms
    → (length (answers_to terms told) ≡ length told) × (sum_by (λ (answer : Answer). length answer.documents) (answers_to terms told) ≡ told_size told)
answers-size [] [] even = (refl, refl)
answers-size [] (ns ∷ told) even = absurd (omega (arith, even))
answers-size (term ∷ terms) [] even = absurd (omega (arith, even))
answers-size (term ∷ terms) (ns ∷ told) even =
    let rest = answers-size terms told (omega (arith, even)) in
    let here : Answer = record { term = term; documents = ns } in (
      omega (arith, rest.0),
      omega (arith, rest.1, sum_by-cons (λ (answer : Answer). length answer.documents) here (answers_to terms told), sum_by-cons (λ (ns : List ℕ). length ns) ns told),
    )

-- so many answers and documents are kept, so many were told at most
told-kept : (version : Version) (es : List Entry) (space : List ℕ) (terms : List Term) (told : List (List ℕ)) → length told ≡ length terms → are_answers_few es ≡ true
    → documents_kept (Mount space (answers_to terms told)) ≤ measured documents_kept es → answers_kept (Mount space (answers_to terms told)) ≤ measured answers_kept es
    → length ((told_field version).text told) ≤ 33816580
told-kept version es space terms told even few documents answers =
    let parts = and_parts (nat_le (measured documents_kept es) ANSWERS_LIMIT) (nat_le (measured answers_kept es) PAIRS_LIMIT) few in
    let most : measured documents_kept es ≤ ANSWERS_LIMIT = leb-true (measured documents_kept es) ANSWERS_LIMIT parts.0 in
    let pairs : measured answers_kept es ≤ PAIRS_LIMIT = leb-true (measured answers_kept es) PAIRS_LIMIT parts.1 in
    let sizes = answers-size terms told even in
    omega (arith, told-length version told, sizes.0, sizes.1, most, pairs, documents, answers)

-- a measure of entries counts that of each
measured-joined : (f : Body → ℕ) (xs ys : List Entry) → measured f xs ≤ measured f (xs ++ ys)
measured-joined f [] ys = omega arith
measured-joined f (x ∷ xs) ys = omega (arith, measured-cons f x xs, measured-cons f x (xs ++ ys), measured-joined f xs ys)

measured-mounted : (f : Body → ℕ) (s : State) (dir : ℕ) (name space : List ℕ) (answers : List Answer) (documents : List (List ℕ))
    → f (Mount space answers) ≤ measured f (mounted s dir name space answers documents).entries
measured-mounted f s dir name space answers documents =
    let new : Entry = record { number = s.next; parent = dir; name = name; body = Mount space answers } in
    omega (arith, measured-added f s.entries new, measured-joined f (s.entries ++ new ∷ []) (documents_from (s.next + 1) s.next documents))

-- a mount that is there keeps what it is to keep
measured-keeping : (f : Body → ℕ) (space : List ℕ) (answers : List Answer) → ((other : List ℕ) → f (Mount other answers) ≡ f (Mount space answers))
    → (es : List Entry) (mount : ℕ) → is_mount_at es mount ≡ true
    → f (Mount space answers) ≤ measured f (changed_in mount (edited (keeping answers)) es)
measured-keeping f space answers same [] mount there = absurd cc
measured-keeping f space answers same (e ∷ es) mount there =
    elim (e.number == mount) as (λ b. option_map_or is_mount (option_map (λ (e : Entry). e.body) (cond b (Some e) (entry_at es mount))) false ≡ true
    → f (Mount space answers) ≤ measured f (cond b (edited (keeping answers) e) e ∷ changed_in mount (edited (keeping answers)) es)) [
      | true ↦ (λ is. omega (arith, own e.body is, measured-cons f (edited (keeping answers) e) (changed_in mount (edited (keeping answers)) es)))
      | false ↦ (λ is. omega (arith, measured-keeping f space answers same es mount is, measured-cons f e (changed_in mount (edited (keeping answers)) es)))
    ] there
  where
    own : (body : Body) → is_mount body ≡ true → f (keeping answers body) ≡ f (Mount space answers)
    own (Mount other kept) is = same other
    own other is = absurd cc

redocumented-mount : (s : State) (mount : ℕ) (documents : List (List ℕ)) → IsLayout s → is_mount_at s.entries mount ≡ true → is_mount_at (redocumented s mount documents).entries mount ≡ true
redocumented-mount s mount documents h there =
    test-joined is_mount (cleared (is_gone mount documents) s).entries (documents_from s.next mount (fresh s mount documents)) mount
    (cleared-mount s mount documents (layout-fits s h) there)

-- ---- what mounts are told for a query

-- the number is that of a file or a document
abbrev pub IsItem : List Entry → ℕ → Type 0
IsItem es n = (e : Entry) × (entry_at es n ≡ Some e) × (is_linkable e.body ≡ true)

items-behind : (e : Entry) (es : List Entry) (bound : ℕ) (ns : List ℕ) → e.number < bound → RiseFrom bound ns → AllByRecursion (IsItem (e ∷ es)) ns → AllByRecursion (IsItem es) ns
items-behind e es bound [] less rise are = tt
items-behind e es bound (n ∷ ns) less rise are =
    let above : bound ≤ n = rise.0 in
    let found : entry_at (e ∷ es) n ≡ Some are.0.0 = are.0.1 in
    ((are.0.0, sym (entry_at-behind e es n (λ same. omega (arith, less, above, same))) ∙ found, are.0.2), items-behind e es (n + 1) ns (omega (arith, less, above)) rise.1 are.1)

-- rising numbers of items are no more than the items
pub items-few : (above : ℕ) (es : List Entry) (next bound : ℕ) (ns : List ℕ) → NumbersRise above es next → RiseFrom bound ns → AllByRecursion (IsItem es) ns → length ns ≤ measured (one_if is_linkable) es
items-few above [] next bound [] rise up are = omega arith
items-few above [] next bound (n ∷ ns) rise up are = let never : None ≡ Some are.0.0 = are.0.1 in absurd cc
items-few above (e ∷ es) next bound [] rise up are = omega arith
items-few above (e ∷ es) next bound (n ∷ ns) rise up are =
    by (e.number == n) refl are.0.1 (λ bound ns up are. items-few e.number es next bound ns rise.1 up are)
  where
    by : (b : Bool) → (e.number == n) ≡ b → cond b (Some e) (entry_at es n) ≡ Some are.0.0
        → ((bound : ℕ) (ns : List ℕ) → RiseFrom bound ns → AllByRecursion (IsItem es) ns → length ns ≤ measured (one_if is_linkable) es)
        → length (n ∷ ns) ≤ measured (one_if is_linkable) (e ∷ es)
    by true same found rest =
        let here : e ≡ are.0.0 = cc in
        let item : one_if is_linkable e.body ≡ 1 = ap (λ (b : Bool). cond {A = ℕ} b 1 0) (ap (λ (x : Entry). is_linkable x.body) here ∙ are.0.2) in
        let first : e.number ≡ n = eqb-true e.number n same in
        let all = items-behind e es (n + 1) ns (omega (arith, first)) up.1 are.1 in
        omega (arith, rest (n + 1) ns up.1 all, item, measured-cons (one_if is_linkable) e es)
    by false other found rest =
        let more : e.number < n = entry_at-above e.number es next n are.0.0 rise.1 found in
        let all = items-behind e es n (n ∷ ns) more (omega arith, up.1) are in
        omega (arith, rest n (n ∷ ns) (omega arith, up.1) all, measured-cons (one_if is_linkable) e es)

item-is : (s : State) (mount n : ℕ) → is_document_of s mount n ≡ true → IsItem s.entries n
item-is s mount n is = by (entry_at s.entries n) refl (and_parts (is_document_at s.entries n) (parent_of s n == mount) is).0
  where
    item : (body : Body) → is_document body ≡ true → is_linkable body ≡ true
    item Document is = refl
    item (File text dirty shown) is = refl
    item other is = absurd cc

    by : (o : Option Entry) → entry_at s.entries n ≡ o → option_map_or is_document (option_map (λ (e : Entry). e.body) o) false ≡ true → IsItem s.entries n
    by None found is = absurd cc
    by (Some e) found is = (e, found, item e.body is)

-- what answers name, together
abbrev kept_size : List Answer → ℕ
kept_size answers = sum_by (λ (answer : Answer). length answer.documents) answers

-- one answer more is kept beside the others
put-size : (new : Answer) (answers : List Answer)
    → (length (put_answer new answers) ≡ suc (length answers)) × (kept_size (put_answer new answers) ≡ length new.documents + kept_size answers)
put-size new [] = (refl, sum_by-cons (λ (answer : Answer). length answer.documents) new [])
put-size new (answer ∷ answers) =
    let rest = put-size new answers in
    elim (is_term_before new.term answer.term) as (λ b. (length (if b then new ∷ answer ∷ answers else answer ∷ put_answer new answers) ≡ suc (suc (length answers)))
    × (kept_size (if b then new ∷ answer ∷ answers else answer ∷ put_answer new answers) ≡ length new.documents + kept_size (answer ∷ answers))) [
      | true ↦ (refl, sum_by-cons (λ (answer : Answer). length answer.documents) new (answer ∷ answers))
      | false ↦ (
        ap suc rest.0,
        omega (arith, rest.1, sum_by-cons (λ (answer : Answer). length answer.documents) answer (put_answer new answers), sum_by-cons (λ (answer : Answer). length answer.documents) answer answers),
      )
    ]

with-size : (more answers : List Answer)
    → (length (with_answers more answers) ≡ length more + length answers) × (kept_size (with_answers more answers) ≡ kept_size more + kept_size answers)
with-size [] answers = (omega arith, omega arith)
with-size (new ∷ more) answers =
    let rest = with-size more answers in
    let put = put-size new (with_answers more answers) in
    (omega (arith, put.0, rest.0), omega (arith, put.1, rest.1, sum_by-cons (λ (answer : Answer). length answer.documents) new more))

-- answers to terms take no more lists than there are terms
answers-front : (terms : List Term) (told : List (List ℕ)) → answers_to terms told ≡ answers_to terms (take (length terms) told)
answers-front [] told = refl
answers-front (term ∷ terms) [] = refl
answers-front (term ∷ terms) (ns ∷ told) = ap (λ (answers : List Answer). record { term = term; documents = ns } ∷ answers) (answers-front terms told)

-- a mount keeps what it gains; nothing else is told anything
gaining-size : (more : List Answer) (body : Body) → (is_mount body ≡ false → (length more ≡ 0) × (kept_size more ≡ 0))
    → (kept_size more ≤ documents_kept (gaining more body)) × (length more ≤ answers_kept (gaining more body))
gaining-size more (Mount space answers) none = let sizes = with-size more answers in (omega (arith, sizes.1), omega (arith, sizes.0))
gaining-size more other none = let no = none refl in (omega (arith, no.1), omega (arith, no.0))

asked-none : (kept : ℕ → List Answer) (query : Formula ℕ) (e : Entry) → is_mount e.body ≡ false → asked_by kept query e ≡ []
asked-none kept query e is = ap (λ (b : Bool). if b then unanswered query (kept e.number) else []) is

-- what all mounts were told they keep
all-told-kept : (s : State) (query : Formula ℕ) (gains : ℕ → List Answer) (above : ℕ) (es : List Entry) (next : ℕ) (told : List (List ℕ)) → NumbersRise above es next
    → ((n : ℕ) → above < n → gains n ≡ gained (answers_at s) query told es n) → are_all_told s query told es ≡ true
    → (told_size told ≤ measured documents_kept (map (λ (e : Entry). edited (gaining (gains e.number)) e) es))
    × (length told ≤ measured answers_kept (map (λ (e : Entry). edited (gaining (gains e.number)) e) es))
all-told-kept s query gains above [] next [] rise same all = (omega arith, omega arith)
all-told-kept s query gains above [] next (ns ∷ told) rise same all = let none : length (ns ∷ told) ≡ 0 = eqb-true (length (ns ∷ told)) 0 all in absurd (omega (arith, none))
all-told-kept s query gains above (e ∷ es) next told rise same all =
    let asked = asked_by (answers_at s) query e in
    let k = length asked in
    let front = take k told in
    let behind = drop k told in
    let parts = and_parts (are_told s e.number asked front) (are_all_told s query behind es) all in
    let own = and_parts (length front == k) (list_all (is_told s e.number) front) parts.0 in
    let even : length front ≡ k = eqb-true (length front) k own.0 in
    let here : gains e.number ≡ answers_to asked front =
    same e.number rise.0 ∙ ap (λ (b : Bool). if b then answers_to asked told else gained (answers_at s) query behind es e.number) (eq-eqb e.number e.number refl) ∙ answers-front asked told in
    let on : (n : ℕ) → e.number < n → gains n ≡ gained (answers_at s) query behind es n =
    λ n less. same n (omega (arith, less, rise.0))
    ∙ ap (λ (b : Bool). if b then answers_to asked told else gained (answers_at s) query behind es n) (ne_eqb e.number n (λ is. omega (arith, less, is))) in
    let rest = all-told-kept s query gains e.number es next behind rise.1 on parts.1 in
    let answers = answers-size asked front even in
    let length_is : length (gains e.number) ≡ length front = ap length here ∙ answers.0 in
    let size_is : kept_size (gains e.number) ≡ told_size front = ap kept_size here ∙ answers.1 in
    let mount = gaining-size (gains e.number) e.body (λ no.
    let none : k ≡ 0 = ap length (asked-none (answers_at s) query e no) in
    let empty : front ≡ [] = nil_from_length front (omega (arith, even, none)) in
    (omega (arith, length_is, even, none), size_is ∙ ap told_size empty)) in
    let new = edited (gaining (gains e.number)) e in
    let more = map (λ (e : Entry). edited (gaining (gains e.number)) e) es in
    let split = take-append-drop k told in
    let both : length front + length behind ≡ length told = sym (length-append front behind) ∙ ap (λ (ns : List (List ℕ)). length ns) split in
    let sizes : told_size front + told_size behind ≡ told_size told = sym (sum_by-append (λ (ns : List ℕ). length ns) front behind) ∙ ap told_size split in (
      omega (arith, sizes, rest.0, mount.0, size_is, measured-cons documents_kept new more),
      omega (arith, both, rest.1, mount.1, length_is, measured-cons answers_kept new more),
    )

told-asked : (s : State) (query : Formula ℕ) (told : List (List ℕ)) → IsLayout s → are_all_told s query told s.entries ≡ true → are_answers_few (with_told query told s).entries ≡ true
    → length ((told_field s.version).text told) ≤ 33816580
told-asked s query told h all few =
    let es = (with_told query told s).entries in
    let kept = all-told-kept s query (λ n. gained (answers_at s) query told s.entries n) 0 s.entries s.next told h.numbers (λ n above. refl) all in
    let parts = and_parts (nat_le (measured documents_kept es) ANSWERS_LIMIT) (nat_le (measured answers_kept es) PAIRS_LIMIT) few in
    let most : measured documents_kept es ≤ ANSWERS_LIMIT = leb-true (measured documents_kept es) ANSWERS_LIMIT parts.0 in
    let pairs : measured answers_kept es ≤ PAIRS_LIMIT = leb-true (measured answers_kept es) PAIRS_LIMIT parts.1 in
    omega (arith, told-length s.version told, kept.0, kept.1, most, pairs)

-- ---- events

text-length : (text : List ℕ) → text_field.fits text ≡ true → length (text_field.text text) ≤ 1048580
text-length text fits =
    let most : length text ≤ TEXT_LIMIT = leb-true (length text) TEXT_LIMIT (and_parts (nat_le (length text) TEXT_LIMIT) true fits).0 in
    omega (arith, most, length-append (to_le_bytes w32 (length text)) text)

pub target-length : (target : List ℕ) → target_field.fits target ≡ true → length (target_field.text target) ≤ 1026
target-length target fits =
    let most : length target ≤ TARGET_LIMIT = leb-true (length target) TARGET_LIMIT (and_parts (nat_le (length target) TARGET_LIMIT) (is_path_word target) fits).0 in
    omega (arith, most, length-append (to_le_bytes w16 (length target)) target)

pub space-length : (space : List ℕ) → space_field.fits space ≡ true → length (space_field.text space) ≤ 33
space-length space fits =
    let most : length space ≤ 32 = leb-true (length space) 32 (and_parts (nat_le (length space) 32) (is_space_name space) fits).0 in
    omega (arith, most, length-append (to_le_bytes w8 (length space)) space)

mark-length : (kind : Kind) → length (mark_field.text kind) ≤ 1
mark-length Transient = omega arith
mark-length Permanent = omega arith
mark-length Prohibited = omega arith
mark-length Unlinked = omega arith

-- two fields, and three
pub joined-length : {A B : Type 0} (f : Field A) (g : Field B) (x : A) (y : B) (m n : ℕ) → length (f.text x) ≤ m → length (g.text y) ≤ n → length ((f & g).text (x, y)) ≤ m + n
joined-length f g x y m n one two = omega (arith, one, two, length-append (f.text x) (g.text y))

module _ (s : State) (h : IsValid s) where
  abbrev version : Version
  version = s.version

  part-length : (e : Event) → is_possible s e ≡ true → (event_field version).fits e ≡ true → length ((event_field version).text e) ≤ 50594100
  part-length (Mkdir dir name) is fits =
      let parts = and_parts ((num version).fits dir) (name_field.fits name) fits in
      omega (arith, joined-length (num version) name_field dir name 8 256 (num-length version dir) (name-length name parts.1))
  part-length (NewFile dir name text) is fits =
      let parts = and_parts ((num version).fits dir) (name_field.fits name && text_field.fits text) fits in
      let more = and_parts (name_field.fits name) (text_field.fits text) parts.1 in
      let rest = joined-length name_field text_field name text 256 1048580 (name-length name more.0) (text-length text more.1) in
      omega (arith, joined-length (num version) (name_field & text_field) dir (name, text) 8 1048836 (num-length version dir) rest)
  part-length (Rewrite file text) is fits =
      let parts = and_parts ((num version).fits file) (text_field.fits text) fits in
      omega (arith, joined-length (num version) text_field file text 8 1048580 (num-length version file) (text-length text parts.1))
  part-length (Ln dir name target) is fits =
      let parts = and_parts ((num version).fits dir) (name_field.fits name && target_field.fits target) fits in
      let more = and_parts (name_field.fits name) (target_field.fits target) parts.1 in
      let rest = joined-length name_field target_field name target 256 1026 (name-length name more.0) (target-length target more.1) in
      omega (arith, joined-length (num version) (name_field & target_field) dir (name, target) 8 1282 (num-length version dir) rest)
  part-length (Mv entry dir name) is fits =
      let parts = and_parts ((num version).fits entry) ((num version).fits dir && name_field.fits name) fits in
      let more = and_parts ((num version).fits dir) (name_field.fits name) parts.1 in
      let rest = joined-length (num version) name_field dir name 8 256 (num-length version dir) (name-length name more.1) in
      omega (arith, joined-length (num version) (num version & name_field) entry (dir, name) 8 264 (num-length version entry) rest)
  part-length (Rm entry) is fits = omega (arith, num-length version entry)
  part-length (Rmdir dir) is fits = omega (arith, num-length version dir)
  part-length (Smkdir dir name query told) is fits =
      let asks = smkdir-parts s dir name query told is in
      let parts = and_parts ((num version).fits dir) (name_field.fits name && ((query_field version).fits query && (told_field version).fits told)) fits in
      let more = and_parts (name_field.fits name) ((query_field version).fits query && (told_field version).fits told) parts.1 in
      let last = and_parts ((query_field version).fits query) ((told_field version).fits told) more.1 in
      let asked = joined-length (query_field version) (told_field version) query told 3712 33816580 (query-length version query last.0) (told-asked s query told h.layout asks.2 asks.3) in
      let rest = joined-length name_field (query_field version & told_field version) name (query, told) 256 33820292 (name-length name more.0) asked in
      omega (arith, joined-length (num version) (name_field & query_field version & told_field version) dir (name, (query, told)) 8 33820548 (num-length version dir) rest)
  part-length (Setq dir query told) is fits =
      let asks = setq-parts s dir query told is in
      let parts = and_parts ((num version).fits dir) ((query_field version).fits query && (told_field version).fits told) fits in
      let last = and_parts ((query_field version).fits query) ((told_field version).fits told) parts.1 in
      let asked = joined-length (query_field version) (told_field version) query told 3712 33816580 (query-length version query last.0) (told-asked s query told h.layout asks.3 asks.5) in
      omega (arith, joined-length (num version) (query_field version & told_field version) dir (query, told) 8 33820292 (num-length version dir) asked)
  part-length (Unq dir) is fits = omega (arith, num-length version dir)
  part-length (Mark set) is fits =
      let rest = joined-length (num version) mark_field set.item set.kind 8 1 (num-length version set.item) (mark-length set.kind) in
      omega (arith, joined-length (num version) (num version & mark_field) set.dir (set.item, set.kind) 8 9 (num-length version set.dir) rest)
  part-length (Smount dir name space docs told) is fits =
      let mounts = smount-parts s dir name space docs told is in
      let parts = and_parts ((num version).fits dir) (name_field.fits name && (space_field.fits space && ((docs_field version).fits docs && (told_field version).fits told))) fits in
      let more = and_parts (name_field.fits name) (space_field.fits space && ((docs_field version).fits docs && (told_field version).fits told)) parts.1 in
      let behind = and_parts (space_field.fits space) ((docs_field version).fits docs && (told_field version).fits told) more.1 in
      let last = and_parts ((docs_field version).fits docs) ((told_field version).fits told) behind.1 in
      let terms = terms_to_ask s.entries in
      let answers = answers_to terms told in
      let t : State = mounted s dir name space answers docs in
      let even = eqb-true (length told) (length terms) (and_parts (length told == length terms) (list_all (is_told t s.next) told) mounts.3).0 in
      let kept =
      told-kept version t.entries space terms told even mounts.4 (measured-mounted documents_kept s dir name space answers docs) (measured-mounted answers_kept s dir name space answers docs) in
      let one = joined-length (docs_field version) (told_field version) docs told 16777220 33816580 (docs-length version docs last.0) kept in
      let two = joined-length space_field (docs_field version & told_field version) space (docs, told) 33 50593800 (space-length space behind.0) one in
      let three = joined-length name_field (space_field & docs_field version & told_field version) name (space, (docs, told)) 256 50593833 (name-length name more.0) two in
      omega (arith, joined-length (num version) (name_field & space_field & docs_field version & told_field version) dir (name, (space, (docs, told))) 8 50594089 (num-length version dir) three)
  part-length (Ssync mount docs told) is fits =
      let syncs = ssync-parts s mount docs told is in
      let parts = and_parts ((num version).fits mount) ((docs_field version).fits docs && (told_field version).fits told) fits in
      let last = and_parts ((docs_field version).fits docs) ((told_field version).fits told) parts.1 in
      let terms = terms_to_ask s.entries in
      let answers = answers_to terms told in
      let t : State = synced s mount answers docs in
      let there = redocumented-mount s mount docs h.layout syncs.0 in
      let even = eqb-true (length told) (length terms) (and_parts (length told == length terms) (list_all (is_told t mount) told) syncs.2).0 in
      let kept =
      told-kept version t.entries [] terms told even syncs.3
      (measured-keeping documents_kept [] answers (λ other. refl) (redocumented s mount docs).entries mount there)
      (measured-keeping answers_kept [] answers (λ other. refl) (redocumented s mount docs).entries mount there) in
      let one = joined-length (docs_field version) (told_field version) docs told 16777220 33816580 (docs-length version docs last.0) kept in
      omega (arith, joined-length (num version) (docs_field version & told_field version) mount (docs, told) 8 50593800 (num-length version mount) one)
  part-length (Sumount mount) is fits = omega (arith, num-length version mount)
  part-length Step is fits = omega arith
  part-length (Cd session dir) is fits = omega arith

-- the payload of an event that can happen is short enough for a parcel
pub text-fits : (s : State) (e : Event) → IsValid s → IsTrue (is_stored e) → IsTrue (accepted s e) → length (event_text s.version e) ≤ 67108864
unfolding event_text is_spellable
text-fits s e h kept is =
    let parts = accepted-parts (is_possible s e) (passed_limit (apply s e)) is in
    omega (arith, part-length s h e parts.0 (accepted-spelled s e h kept is))

-- so it is for a record
pub text-short : (s : State) (e : Event) → IsValid s → IsTrue (is_stored e) → IsTrue (accepted s e) → length (event_text s.version e) < 2 ^ 32
text-short s e h kept is = omega (arith, text-fits s e h kept is)
