-- The payload that a whole valid state is written as is shorter than 2 ^ 32 bytes, so that a record's four bytes hold its length.
use Rattle.std.proofs.Common.{inl, inr, ◌≡◌, ℕ, ◌+◌, ◌*◌, ◌<◌, ◌≤◌, ◌^◌, Bool, true, false, cond, List, [], ◌∷◌, length, refl, nat_lt, arith, length-append}
use Rattle.std.specs.Prelude.{◌&&◌, not, nat_le, sum_by, filter, map, if◌then◌else◌, Option, Some, None}
use Rattle.std.specs.Int.{w16, w32, to_le_bytes}
use Rattle.std.specs.List.{AllByRecursion}
use Rattle.std.specs.Option.{option_map, option_map_or}
use Rattle.std.specs.Str.{bytes_eq}
use Rattle.std.proofs.lemmas.Bool.{and_parts, leb-true, or_cases}
use Rattle.std.proofs.lemmas.Bool.Decides.{nat_tests}
use Rattle.std.proofs.lemmas.List.Sums.{sum_by-cons}
use Rattle.hac_model.specs.Payload.Fields.{count, Field, items_fit, items_text, list, nothing, num, part, ◌&◌}
use Rattle.hac_model.specs.Payload.Payloads.{name_field, nums, rises, space_field, target_field, text_field}
use Rattle.hac_model.specs.Payload.QueryFields.{query_field}
use Rattle.hac_model.specs.Payload.States.{answer_field, document_field, documents_field, entry_field, flag_field, is_spellable_snapshot, no_documents, other_text, shown_field, snapshot_of, snapshot_text, stored_entry, stored_field, term_field, texts_field}
use Rattle.hac_model.specs.Query.Terms.{is_term_before}
use Rattle.hac_model.specs.Query.Words.{is_word}
use Rattle.hac_model.specs.Run.Checkpoints.{state_text}
use Rattle.hac_model.specs.Tree.Limits.{answers_kept, documents_kept, file_bytes, item_count}
use Rattle.hac_model.specs.Tree.Links.{can_be_added, is_item}
use Rattle.hac_model.specs.Tree.Valid.{AsksWell, IsValid}
use Rattle.hac_model.specs.Tree.{is_queried, entry_at, is_directory_at, is_document, is_linkable, is_mount, is_symlink, permanent_in, prohibited_in, raised}
use Rattle.hac_model.specs.Versions.{docs_limit}
use Rattle.hac_model.specs.declared.limits.TheConstants.{ANSWERS_LIMIT, ITEMS_LIMIT, MOUNTS_LIMIT, PAIRS_LIMIT, QUERY_LIMIT, SEMANTICS_LIMIT, SYMLINKS_LIMIT, TEXTS_LIMIT}
use Rattle.hac_model.specs.declared.snapshots.Document as listed
use Rattle.hac_model.specs.declared.snapshots.StoredEntry.{StoredEntry}
use Rattle.hac_model.specs.declared.states.Answer.{Answer}
use Rattle.hac_model.specs.declared.states.Body.{Body}
use Rattle.hac_model.specs.declared.states.Body.TheVariants.{File, Dir, Symlink, Semantic, Mount, Document}
use Rattle.hac_model.specs.declared.states.Entry.{Entry}
use Rattle.hac_model.specs.declared.states.State.{State}
use Rattle.hac_model.specs.declared.terms.Term.{Term}
use Rattle.hac_model.specs.declared.terms.Term.TheVariants.{Word, Prefix}
use Rattle.hac_model.specs.declared.versions.Version.{Version}
use Rattle.hac_model.proofs.ChangeLemmas.{all-weaker}
use Rattle.hac_model.proofs.CountLemmas.{measured, measured-cons, one_if}
use Rattle.hac_model.proofs.LimitLemmas.{limits-within, most-mounts, most-symlinks}
use Rattle.hac_model.proofs.LiveLemmas.{all-few, live-few, tested-entry}
use Rattle.hac_model.proofs.RaisedLemmas.{raised-valid}
use Rattle.hac_model.proofs.StateSpellingLemmas.{valid-states-spelled}
use Rattle.hac_model.proofs.TreeLemmas.{directory-lives, Lives}
use Rattle.hac_model.proofs.LengthLemmas.{IsItem, items-few, joined-length, most-docs, name-length, num-length, nums-length, query-length, space-length, target-length}

-- ---- the fields of an entry

-- a flag has one byte
flag-length : (dirty : Bool) → length (flag_field.text dirty) ≤ 1
flag-length true = omega arith
flag-length false = omega arith

-- a shown text has its bytes where it differs from the text, and five more at most
shown-length : (text : List ℕ) (shown : Option (List ℕ)) → length ((shown_field text).text shown) ≤ 5 + option_map_or (λ (shown : List ℕ). length shown) shown 0
shown-length text None = omega arith
shown-length text (Some shown) =
    elim (bytes_eq shown text) as (λ b. length (if b then part 1 nothing tt else part 2 (other_text text) shown).text ≤ 5 + length shown) [
      | true ↦ omega arith
      | false ↦ omega (arith, length-append (to_le_bytes w32 (length shown)) shown)
    ]

-- a file's two texts count as the longer of them, twice
texts-length : (text : List ℕ) (dirty : Bool) (shown : Option (List ℕ)) → length (texts_field.text (text, shown)) ≤ 9 + 2 * file_bytes (File text dirty shown)
texts-length text dirty shown =
    omega (arith, shown-length text shown, length-append (to_le_bytes w32 (length text)) text, length-append (text_field.text text) ((shown_field text).text shown))

-- the documents of a mount
documents-items : (version : Version) (last : Option listed.Document) (docs : List listed.Document) → items_fit (document_field version) last docs ≡ true
    → length (items_text (document_field version) last docs) ≤ 264 * length docs
documents-items version last [] fit = omega arith
documents-items version last (d ∷ docs) fit =
    let parts = and_parts ((document_field version last).fits d) (items_fit (document_field version) (Some d) docs) fit in
    let own = and_parts ((num version).fits d.number) _ parts.0 in
    let named = and_parts (name_field.fits d.name) _ own.1 in
    let here : length ((document_field version last).text d) ≤ 264 =
    omega (arith, joined-length (num version) name_field d.number d.name 8 256 (num-length version d.number) (name-length d.name named.0)) in
    omega (arith, here, documents-items version (Some d) docs parts.1, length-append ((document_field version last).text d) (items_text (document_field version) (Some d) docs))

-- all of them, as a mount has no more than it may
documents-length : (version : Version) (docs : List listed.Document) → (documents_field version).fits docs ≡ true → length ((documents_field version).text docs) ≤ 17301508
documents-length version docs fit =
    let parts = and_parts (count.fits (length docs) && nat_le (length docs) (docs_limit version)) (items_fit (document_field version) None docs) fit in
    let few : length docs ≤ docs_limit version = leb-true (length docs) (docs_limit version) (and_parts (count.fits (length docs)) (nat_le (length docs) (docs_limit version)) parts.0).1 in
    omega (arith, most-docs version, few, documents-items version None docs parts.1, length-append (count.text (length docs)) (items_text (document_field version) None docs))

-- a term is no longer than a query may be
term-length : (term : Term) → term_field.fits term ≡ true → length (term_field.text term) ≤ 1027
term-length (Word letters) fits =
    let most : length letters ≤ QUERY_LIMIT = leb-true (length letters) QUERY_LIMIT (and_parts (nat_le (length letters) QUERY_LIMIT) (is_word letters) fits).0 in
    omega (arith, most, length-append (to_le_bytes w16 (length letters)) letters)
term-length (Prefix letters) fits =
    let most : length letters ≤ QUERY_LIMIT = leb-true (length letters) QUERY_LIMIT (and_parts (nat_le (length letters) QUERY_LIMIT) (is_word letters) fits).0 in
    omega (arith, most, length-append (to_le_bytes w16 (length letters)) letters)

-- how many documents the answers name
abbrev named_size : List Answer → ℕ
named_size answers = sum_by (λ (answer : Answer). length answer.documents) answers

-- the answers that a mount keeps
answers-items : (version : Version) (last : Option Answer) (answers : List Answer) → items_fit (answer_field version) last answers ≡ true
    → length (items_text (answer_field version) last answers) ≤ 1031 * length answers + 8 * named_size answers
answers-items version last [] fit = omega arith
answers-items version last (a ∷ answers) fit =
    let parts = and_parts ((answer_field version last).fits a) (items_fit (answer_field version) (Some a) answers) fit in
    let own = and_parts (term_field.fits a.term && rises is_term_before (option_map (λ (a : Answer). a.term) last) a.term) ((nums version).fits a.documents) parts.0 in
    let asked = and_parts (term_field.fits a.term) (rises is_term_before (option_map (λ (a : Answer). a.term) last) a.term) own.0 in
    let here : length ((answer_field version last).text a) ≤ 1031 + 8 * length a.documents =
    omega (arith, joined-length term_field (nums version) a.term a.documents 1027 (4 + 8 * length a.documents) (term-length a.term asked.0) (nums-length version a.documents)) in
    let sizes = sum_by-cons (λ (answer : Answer). length answer.documents) a answers in
    let both = length-append ((answer_field version last).text a) (items_text (answer_field version) (Some a) answers) in
    omega (arith, here, answers-items version (Some a) answers parts.1, sizes, both)

-- and their number before them
answers-length : (version : Version) (answers : List Answer) → (list count (answer_field version)).fits answers ≡ true
    → length ((list count (answer_field version)).text answers) ≤ 4 + 1031 * length answers + 8 * named_size answers
answers-length version answers fit =
    let parts = and_parts (count.fits (length answers)) (items_fit (answer_field version) None answers) fit in
    omega (arith, answers-items version None answers parts.1, length-append (count.text (length answers)) (items_text (answer_field version) None answers))

-- ---- entries

-- what an entry costs at most, by what limits count
abbrev cost : Body → ℕ
cost body =
    284 + 2 * file_bytes body + 1026 * one_if is_symlink body + 2100880 * one_if is_queried body + 17301545 * one_if is_mount body
    + 8 * documents_kept body + 1031 * answers_kept body

-- the marks of a semantic directory are few
abbrev AreMarksFew : Body → Type 0
AreMarksFew body = (length (permanent_in body) ≤ 196609) × (length (prohibited_in body) ≤ 65536)

-- what an entry is costs no more, with a number, a parent and a name
stored-length : (version : Version) (body : Body) (docs : List listed.Document) → (stored_field version).fits (body, docs) ≡ true → AreMarksFew body
    → 272 + length ((stored_field version).text (body, docs)) ≤ cost body
stored-length version (File text dirty shown) docs fits few =
    let texts = joined-length texts_field no_documents (text, shown) docs (9 + 2 * file_bytes (File text dirty shown)) 0 (texts-length text dirty shown) (omega arith) in
    omega (arith, joined-length flag_field (texts_field & no_documents) dirty ((text, shown), docs) 1 (9 + 2 * file_bytes (File text dirty shown) + 0) (flag-length dirty) texts)
stored-length version Dir docs fits few = omega arith
stored-length version (Symlink target) docs fits few =
    let parts = and_parts (target_field.fits target) (no_documents.fits docs) fits in
    omega (arith, joined-length target_field no_documents target docs 1026 0 (target-length target parts.0) (omega arith))
stored-length version (Semantic query permanent prohibited) docs fits few =
    let parts = and_parts ((query_field version).fits query) _ fits in
    let added : length permanent ≤ 196609 = few.0 in
    let removed : length prohibited ≤ 65536 = few.1 in
    let one : length ((nums version).text permanent) ≤ 1572876 = omega (arith, added, nums-length version permanent) in
    let two : length ((nums version).text prohibited) ≤ 524292 = omega (arith, removed, nums-length version prohibited) in
    let last = joined-length (nums version) no_documents prohibited docs 524292 0 two (omega arith) in
    let marks = joined-length (nums version) (nums version & no_documents) permanent (prohibited, docs) 1572876 524292 one (omega (arith, last)) in
    let all = joined-length (query_field version) (nums version & nums version & no_documents) query (permanent, (prohibited, docs)) 3712 2097168 (query-length version query parts.0) (omega (arith, marks)) in
    omega (arith, all)
stored-length version (Mount space answers) docs fits few =
    let parts = and_parts (space_field.fits space) _ fits in
    let more = and_parts ((documents_field version).fits docs) ((list count (answer_field version)).fits answers) parts.1 in
    let most = 4 + 1031 * length answers + 8 * named_size answers in
    let one = joined-length (documents_field version) (list count (answer_field version)) docs answers 17301508 most (documents-length version docs more.0) (answers-length version answers more.1) in
    omega (arith, joined-length space_field (documents_field version & list count (answer_field version)) space (docs, answers) 33 (17301508 + most) (space-length space parts.0) one)
stored-length version Document docs fits few = absurd cc

-- an entry costs no more, with the documents that are listed with it
entry-length : (version : Version) (last : Option StoredEntry) (stored : StoredEntry) → (entry_field version last).fits stored ≡ true → AreMarksFew stored.entry.body
    → length ((entry_field version last).text stored) ≤ cost stored.entry.body
entry-length version last stored fits few =
    let e = stored.entry in
    let part : Body × List listed.Document = (e.body, stored.documents) in
    let parts = and_parts ((num version).fits e.number && rises nat_lt (option_map (λ (stored : StoredEntry). stored.entry.number) last) e.number) _ fits in
    let more = and_parts ((num version).fits e.parent) _ parts.1 in
    let named = and_parts (name_field.fits e.name) ((stored_field version).fits part) more.1 in
    let size = length ((stored_field version).text part) in
    let one = joined-length name_field (stored_field version) e.name part 256 size (name-length e.name named.0) (omega arith) in
    let two = joined-length (num version) (name_field & stored_field version) e.parent (e.name, part) 8 (256 + size) (num-length version e.parent) one in
    let all = joined-length (num version) (num version & name_field & stored_field version) e.number (e.parent, (e.name, part)) 8 (8 + (256 + size)) (num-length version e.number) two in
    omega (arith, all, stored-length version e.body stored.documents named.1 few)

-- what all entries cost, by what limits count
cost-all : (es : List Entry)
    → measured cost es ≡ 284 * length es + 2 * measured file_bytes es + 1026 * measured (one_if is_symlink) es + 2100880 * measured (one_if is_queried) es
    + 17301545 * measured (one_if is_mount) es + 8 * measured documents_kept es + 1031 * measured answers_kept es
cost-all [] = refl
cost-all (e ∷ es) =
    let bytes = measured-cons file_bytes e es in
    let symlinks = measured-cons (one_if is_symlink) e es in
    let semantics = measured-cons (one_if is_queried) e es in
    let mounts = measured-cons (one_if is_mount) e es in
    let documents = measured-cons documents_kept e es in
    let answers = measured-cons answers_kept e es in
    omega (arith, cost-all es, measured-cons cost e es, bytes, symlinks, semantics, mounts, documents, answers)

-- ---- states

-- the entries that are stored, which aren't documents
abbrev kept : List Entry → List Entry
kept es = filter (λ (e : Entry). not (is_document e.body)) es

module _ (s : State) (h : IsValid s) where
  -- what is stored of entries
  abbrev stored : List Entry → List StoredEntry
  stored es = map (stored_entry s) (kept es)

  -- entries are no longer than they cost
  entries-length : (last : Option StoredEntry) (es : List Entry) → items_fit (entry_field s.version) last (stored es) ≡ true → AllByRecursion (λ e. AreMarksFew e.body) es
      → length (items_text (entry_field s.version) last (stored es)) ≤ measured cost es
  entries-length last [] fit few = omega arith
  entries-length last (e ∷ es) fit few = by (is_document e.body) (λ last fit. entries-length last es fit few.1) fit
    where
      by : (b : Bool) → ((last : Option StoredEntry) → items_fit (entry_field s.version) last (stored es) ≡ true → length (items_text (entry_field s.version) last (stored es)) ≤ measured cost es)
          → items_fit (entry_field s.version) last (map (stored_entry s) (cond (not b) (e ∷ kept es) (kept es))) ≡ true
          → length (items_text (entry_field s.version) last (map (stored_entry s) (cond (not b) (e ∷ kept es) (kept es)))) ≤ measured cost (e ∷ es)
      by true rest fit = omega (arith, rest last fit, measured-cons cost e es)
      by false rest fit =
          let field : Option StoredEntry → Field StoredEntry = entry_field s.version in
          let first = stored_entry s e in
          let parts = and_parts ((field last).fits first) (items_fit field (Some first) (stored es)) fit in
          let here = entry-length s.version last first parts.0 few.0 in
          omega (arith, here, rest (Some first) parts.1, measured-cons cost e es, length-append ((field last).text first) (items_text field (Some first) (stored es)))

  -- an item is what can be linked
  item-is : (n : ℕ) → is_item s n ≡ true → IsItem s.entries n
  item-is n is = by (entry_at s.entries n) refl is
    where
      by : (o : Option Entry) → entry_at s.entries n ≡ o → option_map_or is_linkable (option_map (λ (e : Entry). e.body) o) false ≡ true → IsItem s.entries n
      by None found is = absurd cc
      by (Some e) found is = (e, found, is)

  -- what can be added is there
  added-live : (n : ℕ) → can_be_added s n ≡ true → Lives s.entries n
  added-live n can = elim (or_cases (is_item s n) (is_directory_at s.entries n) can) [
    | inl item ↦ inr (tested-entry s.entries is_linkable n item)
    | inr dir ↦ directory-lives s.entries n dir
  ]

  -- so marks are few
  marks-few : (body : Body) → AsksWell s body → AreMarksFew body
  marks-few (Semantic query permanent prohibited) asks =
      let items : item_count s.entries ≤ ITEMS_LIMIT = grind (arith, nat_tests, (limits-within s h.layout.limits).items) in
      let added = all-weaker (λ n. can_be_added s n ≡ true) (Lives s.entries) permanent added-live asks.added.there in
      let removed = all-weaker (λ n. is_item s n ≡ true) (IsItem s.entries) prohibited item-is asks.removed.there in (
        live-few s permanent h.layout asks.added.rise added,
        omega (arith, items, items-few 0 s.entries s.next 0 prohibited h.layout.numbers asks.removed.rise removed),
      )
  marks-few (File text dirty shown) asks = (omega arith, omega arith)
  marks-few Dir asks = (omega arith, omega arith)
  marks-few (Symlink target) asks = (omega arith, omega arith)
  marks-few (Mount space answers) asks = (omega arith, omega arith)
  marks-few Document asks = (omega arith, omega arith)

  -- limits let entries cost no more than this
  cost-most : measured cost s.entries ≤ 3566595264
  cost-most =
      let within = limits-within s h.layout.limits in
      let bytes : measured file_bytes s.entries ≤ TEXTS_LIMIT = grind (arith, nat_tests, within.texts) in
      let symlinks : measured (one_if is_symlink) s.entries ≤ SYMLINKS_LIMIT = grind (arith, nat_tests, most-symlinks s within) in
      let semantics : measured (one_if is_queried) s.entries ≤ SEMANTICS_LIMIT = grind (arith, nat_tests, within.semantics) in
      let mounts : measured (one_if is_mount) s.entries ≤ MOUNTS_LIMIT = grind (arith, nat_tests, most-mounts s within) in
      let parts = and_parts (nat_le (measured documents_kept s.entries) ANSWERS_LIMIT) (nat_le (measured answers_kept s.entries) PAIRS_LIMIT) h.few in
      let documents : measured documents_kept s.entries ≤ ANSWERS_LIMIT = leb-true (measured documents_kept s.entries) ANSWERS_LIMIT parts.0 in
      let answers : measured answers_kept s.entries ≤ PAIRS_LIMIT = leb-true (measured answers_kept s.entries) PAIRS_LIMIT parts.1 in
      omega (arith, cost-all s.entries, all-few s h.layout, bytes, symlinks, semantics, mounts, documents, answers)

  -- a valid state's payload is short enough for a record
  state-short : length (state_text s) < 2 ^ 32
  unfolding snapshot_text snapshot_of is_spellable_snapshot
  state-short =
      let fits : is_spellable_snapshot (snapshot_of s) ≡ true = valid-states-spelled s h in
      let parts = and_parts ((num s.version).fits s.next) ((list count (entry_field s.version)).fits (stored s.entries)) fits in
      let entries = and_parts (count.fits (length (stored s.entries))) (items_fit (entry_field s.version) None (stored s.entries)) parts.1 in
      let few = all-weaker (λ e. AsksWell s e.body) (λ e. AreMarksFew e.body) s.entries (λ e asks. marks-few e.body asks) h.queries in
      let all = entries-length None s.entries entries.1 few in
      let listed : length ((list count (entry_field s.version)).text (stored s.entries)) ≤ 4 + measured cost s.entries =
      omega (arith, all, length-append (count.text (length (stored s.entries))) (items_text (entry_field s.version) None (stored s.entries))) in
      omega (arith, cost-most, joined-length (num s.version) (list count (entry_field s.version)) s.next (stored s.entries) 8 (4 + measured cost s.entries) (num-length s.version s.next) listed)

-- and so is the one that a checkpoint writes
pub states-short : (s : State) → IsValid s → length (state_text (raised s)) < 2 ^ 32
states-short s h = state-short (raised s) (raised-valid s h)
