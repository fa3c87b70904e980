-- What is stored of a valid state has a spelling: its numbers have their bytes, its entries, marks and kept answers are no
-- more than four bytes can count; its names, texts, queries and terms are no longer than such may be; and
-- the names of a mount's documents rise.
use Rattle.std.proofs.Common.{inl, inr, ◌≡◌, ℕ, suc, ◌<◌, ◌≤◌, Bool, true, false, cond, List, [], ◌∷◌, length, subst, refl, ap, ◌∙◌, arith}
use Rattle.std.specs.Prelude.{not, ◌&&◌, ◌==◌, if◌then◌else◌, nat_lt, nat_le, map, filter, Option, Some, None, IsTrue}
use Rattle.std.specs.Cmp.Lexicographic.{nat_list_eq_equiv}
use Rattle.std.specs.List.{AllByRecursion, list_all}
use Rattle.std.specs.Option.{option_map, option_map_or}
use Rattle.std.specs.Str.{bytes_eq}
use Rattle.std.proofs.lemmas.Bool.{and_from, and_parts, eqb-true, le-leb, leb-true, or_cases}
use Rattle.std.proofs.lemmas.Bool.Decides.{nat_tests}
use Rattle.std.proofs.lemmas.List.{length-map}
use Rattle.hac_model.specs.Payload.Fields.{count, items_fit, num}
use Rattle.hac_model.specs.Payload.Payloads.{name_field, nums, rises, space_field, text_field}
use Rattle.hac_model.specs.Payload.QueryFields.{query_field}
use Rattle.hac_model.specs.Payload.States.{answer_field, document_field, documents_field, entry_field, is_spellable_snapshot, listed_document, no_documents, shown_field, shown_part, snapshot_of, stored_entry, stored_field, term_field}
use Rattle.hac_model.specs.Query.Queries.{is_askable, is_term}
use Rattle.hac_model.specs.Query.Terms.{is_term_before}
use Rattle.hac_model.specs.Tree.Limits.{answers_kept, documents_kept, is_text}
use Rattle.hac_model.specs.Tree.Links.{can_be_added, is_item}
use Rattle.hac_model.specs.Tree.Listing.{children, in_order, is_before, put_in_order}
use Rattle.hac_model.specs.Tree.Names.{is_name}
use Rattle.hac_model.specs.Tree.{answers_in, child, entry_at, is_directory_at, is_document, is_holder_at, is_linkable, is_mount, is_mount_at}
use Rattle.hac_model.specs.Tree.Valid.{AreMarks, AsksWell, IsAnswer, IsSound, IsValid, KeepsWell, NamesDiffer, NumbersRise, TermsRise, has_few, is_in_place}
use Rattle.hac_model.specs.declared.limits.TheConstants.{ANSWERS_LIMIT, PAIRS_LIMIT, QUERY_LIMIT}
use Rattle.hac_model.specs.declared.snapshots.Document as listed
use Rattle.hac_model.specs.declared.snapshots.StoredEntry.{StoredEntry}
use Rattle.hac_model.specs.declared.states.Answer.{Answer}
use Rattle.hac_model.specs.declared.states.Body.{Body}
use Rattle.hac_model.specs.declared.states.Body.TheVariants.{File, Dir, Symlink, Semantic, Mount, Document}
use Rattle.hac_model.specs.declared.states.Entry.{Entry}
use Rattle.hac_model.specs.declared.states.State.{State}
use Rattle.hac_model.specs.declared.terms.Term.{Term}
use Rattle.hac_model.specs.declared.terms.Term.TheVariants.{Word, Prefix}
use Rattle.hac_model.proofs.ChangeLemmas.{all-filter, all-weaker}
use Rattle.hac_model.proofs.CountLemmas.{measured, measured-removed}
use Rattle.hac_model.proofs.SpellableLemmas.{documents-live, name-fits, nums-fit, small-fits, space-fits}
use Rattle.hac_model.proofs.SpelledLemmas.{number-fits, query-fits, text-fits}
use Rattle.hac_model.proofs.TreeLemmas.{all-entries, directory-lives, entry_at-all, Lives, place-directory}
use Rattle.hac_model.proofs.VersionLemmas.{count-fits, docs-fits}
use Rattle.hac_model.specs.Versions.{docs_limit}
use Rattle.hac_model.specs.declared.versions.Version.{Version}
use Rattle.hac_model.specs.declared.versions.Version.TheVariants.{One, Two}
use Rattle.hac_model.proofs.LiveLemmas.{all-few, tested-entry}
use Rattle.hac_model.proofs.NameOrderLemmas.{before-other, before-trans}

-- ---- names in order

-- each name comes before all behind it
abbrev NamesRise : List Entry → Type 0
NamesRise [] = Unit {0}
NamesRise (e ∷ es) = AllByRecursion (λ f. IsTrue (is_before e.name f.name)) es × NamesRise es

-- what holds of entries holds of them in order
pub all-put : (P : Entry → Type 0) (new : Entry) (es : List Entry) → P new → AllByRecursion P es → AllByRecursion P (put_in_order new es)
all-put P new [] p h = (p, tt)
all-put P new (e ∷ es) p h = elim (is_before new.name e.name) as (λ b. AllByRecursion P (cond b (new ∷ e ∷ es) (e ∷ put_in_order new es))) [
  | true ↦ (p, h)
  | false ↦ (h.0, all-put P new es p h.1)
]

pub all-order : (P : Entry → Type 0) (es : List Entry) → AllByRecursion P es → AllByRecursion P (in_order es)
all-order P [] h = tt
all-order P (e ∷ es) h = all-put P e (in_order es) h.0 (all-order P es h.1)

-- an entry whose name is new is put into its place
put-rises : (new : Entry) (es : List Entry) → AllByRecursion (λ e. bytes_eq e.name new.name ≡ false) es → NamesRise es → NamesRise (put_in_order new es)
put-rises new [] differ rise = (tt, tt)
put-rises new (e ∷ es) differ rise =
    elim (is_before new.name e.name) as (λ b. is_before new.name e.name ≡ b → NamesRise (cond b (new ∷ e ∷ es) (e ∷ put_in_order new es))) [
      | true ↦ (λ before. (
        (before, all-weaker (λ f. IsTrue (is_before e.name f.name)) (λ f. IsTrue (is_before new.name f.name)) es (λ f h. before-trans new.name e.name f.name before h) rise.0),
        rise,
      ))
      | false ↦ (λ behind. (
        all-put (λ f. IsTrue (is_before e.name f.name)) new es (before-other new.name e.name behind (nat_list_eq_equiv.symm new.name e.name ∙ differ.0)) rise.0,
        put-rises new es differ.1 rise.1,
      ))
    ] refl

-- what is in a directory, of these entries
abbrev standing : ℕ → List Entry → List Entry
standing dir es = filter (λ (e : Entry). e.parent == dir) es

-- where a directory has nothing under a name, nothing in it has the name
name-free : (dir : ℕ) (name : List ℕ) (es : List Entry) → child es dir name ≡ None → AllByRecursion (λ e. bytes_eq e.name name ≡ false) (standing dir es)
name-free dir name [] none = tt
name-free dir name (e ∷ es) none =
    elim (e.parent == dir) as (λ b. cond (b && bytes_eq e.name name) (Some e.number) (child es dir name) ≡ None → AllByRecursion (λ e. bytes_eq e.name name ≡ false) (cond b (e ∷ standing dir es) (standing dir es))) [
      | true ↦ (λ none.
          elim (bytes_eq e.name name) as (λ b. bytes_eq e.name name ≡ b → cond b (Some e.number) (child es dir name) ≡ None → AllByRecursion (λ e. bytes_eq e.name name ≡ false) (e ∷ standing dir es)) [
            | true ↦ (λ same none. absurd cc)
            | false ↦ (λ other none. (other, name-free dir name es none))
          ] refl none)
      | false ↦ (λ none. name-free dir name es none)
    ] none

-- what is in a directory is in order of names
order-rises : (dir : ℕ) (es : List Entry) → NamesDiffer es → NamesRise (in_order (standing dir es))
order-rises dir [] differ = tt
order-rises dir (e ∷ es) differ =
    elim (e.parent == dir) as (λ b. (e.parent == dir) ≡ b → NamesRise (in_order (cond b (e ∷ standing dir es) (standing dir es)))) [
      | true ↦ (λ here.
          let none : child es dir e.name ≡ None = subst (λ (d : ℕ). child es d e.name ≡ None) (eqb-true e.parent dir here) differ.0 in
          put-rises e (in_order (standing dir es)) (all-order (λ f. bytes_eq f.name e.name ≡ false) (standing dir es) (name-free dir e.name es none)) (order-rises dir es differ.1))
      | false ↦ (λ other. order-rises dir es differ.1)
    ] refl

rises-filter : (p : Entry → Bool) (es : List Entry) → NamesRise es → NamesRise (filter p es)
rises-filter p [] rise = tt
rises-filter p (e ∷ es) rise =
    elim (p e) as (λ b. NamesRise (cond b (e ∷ filter p es) (filter p es))) [
      | true ↦ (all-filter (λ f. IsTrue (is_before e.name f.name)) p es rise.0, rises-filter p es rise.1)
      | false ↦ rises-filter p es rise.1
    ]

-- ---- counting

-- entries that pass a test are as many in order
length-put : (p : Entry → Bool) (e : Entry) (es : List Entry) → length (filter p (put_in_order e es)) ≡ length (filter p (e ∷ es))
length-put p e [] = refl
length-put p e (x ∷ xs) =
    elim (is_before e.name x.name) as (λ b. length (filter p (cond b (e ∷ x ∷ xs) (x ∷ put_in_order e xs))) ≡ length (filter p (e ∷ x ∷ xs))) [
      | true ↦ refl
      | false ↦ turned (p x) (p e) (length-put p e xs)
    ]
  where
    turned : (b c : Bool) → length (filter p (put_in_order e xs)) ≡ length (cond c (e ∷ filter p xs) (filter p xs))
        → length (cond b (x ∷ filter p (put_in_order e xs)) (filter p (put_in_order e xs))) ≡ length (cond c (e ∷ cond b (x ∷ filter p xs) (filter p xs)) (cond b (x ∷ filter p xs) (filter p xs)))
    turned true true same = ap suc same
    turned true false same = ap suc same
    turned false true same = same
    turned false false same = same

length-order : (p : Entry → Bool) (dir : ℕ) (es : List Entry) → length (filter p (in_order (standing dir es))) ≡ length (filter (λ (e : Entry). p e && (e.parent == dir)) es)
length-order p dir [] = refl
length-order p dir (e ∷ es) =
    elim (e.parent == dir) as (λ b. length (filter p (in_order (cond b (e ∷ standing dir es) (standing dir es)))) ≡ length (cond (p e && b) (e ∷ filter (λ (e : Entry). p e && (e.parent == dir)) es) (filter (λ (e : Entry). p e && (e.parent == dir)) es))) [
      | true ↦ length-put p e (in_order (standing dir es)) ∙ counted (filter p (in_order (standing dir es))) (filter (λ (e : Entry). p e && (e.parent == dir)) es) (p e) (length-order p dir es)
      | false ↦ passed (filter p (in_order (standing dir es))) (filter (λ (e : Entry). p e && (e.parent == dir)) es) (p e) (length-order p dir es)
    ]
  where
    counted : (xs ys : List Entry) (b : Bool) → length xs ≡ length ys → length (cond b (e ∷ xs) xs) ≡ length (cond (b && true) (e ∷ ys) ys)
    counted xs ys true same = ap suc same
    counted xs ys false same = same

    passed : (xs ys : List Entry) (b : Bool) → length xs ≡ length ys → length xs ≡ length (cond (b && false) (e ∷ ys) ys)
    passed xs ys true same = same
    passed xs ys false same = same

-- what is kept of a list is no longer
filter-few : (p : Entry → Bool) (es : List Entry) → length (filter p es) ≤ length es
filter-few p [] = omega arith
filter-few p (e ∷ es) = elim (p e) as (λ b. length (cond b (e ∷ filter p es) (filter p es)) ≤ length (e ∷ es)) [
  | true ↦ omega (arith, filter-few p es)
  | false ↦ omega (arith, filter-few p es)
]

filter-none : (p : Entry → Bool) (es : List Entry) → AllByRecursion (λ e. p e ≡ false) es → filter p es ≡ []
filter-none p [] none = refl
filter-none p (e ∷ es) none = ap (λ (b : Bool). cond b (e ∷ filter p es) (filter p es)) none.0 ∙ filter-none p es none.1

-- a test that all pass
all-pass : (p : Entry → Bool) (es : List Entry) → list_all p es ≡ true → AllByRecursion (λ e. IsTrue (p e)) es
all-pass p [] pass = tt
all-pass p (e ∷ es) pass = let parts = and_parts (p e) (list_all p es) pass in (parts.0, all-pass p es parts.1)

-- ---- files, terms and documents

shown-fits : (s : State) → IsValid s → (text : List ℕ) (shown : Option (List ℕ)) → option_map_or is_text shown true ≡ true → (shown_field text).fits shown ≡ true
shown-fits s h text None is = refl
shown-fits s h text (Some shown) is =
    elim (bytes_eq shown text) as (λ b. bytes_eq shown text ≡ b → (shown_part text (Some shown)).fits ≡ true) [
      | true ↦ λ same. rw same refl
      | false ↦ λ other. rw other (and_from (text_field.fits shown) true (text-fits s h shown is) refl)
    ] refl

term-fits : (term : Term) → is_askable term ≡ true → term_field.fits term ≡ true
term-fits (Word letters) is = let parts = and_parts (is_term (Word letters)) (nat_le (length letters) QUERY_LIMIT) is in and_from (nat_le (length letters) QUERY_LIMIT) (is_term (Word letters)) parts.1 parts.0
term-fits (Prefix letters) is = let parts = and_parts (is_term (Prefix letters)) (nat_le (length letters) QUERY_LIMIT) is in and_from (nat_le (length letters) QUERY_LIMIT) (is_term (Prefix letters)) parts.1 parts.0

-- the number and the name of an entry have their bytes
abbrev IsListable : Version → Entry → Type 0
IsListable version e = ((num version).fits e.number ≡ true) × (name_field.fits e.name ≡ true)

items-listed : (version : Version) (last : Option listed.Document) (es : List Entry) → AllByRecursion (λ e. rises is_before (option_map (λ (d : listed.Document). d.name) last) e.name ≡ true) es
    → NamesRise es → AllByRecursion (IsListable version) es → items_fit (document_field version) last (map listed_document es) ≡ true
items-listed version last [] before rise fit = refl
items-listed version last (e ∷ es) before rise fit =
    and_from _ _
    (and_from ((num version).fits e.number) _ fit.0.0 (and_from (name_field.fits e.name) _ fit.0.1 before.0))
    (items-listed version (Some (listed_document e)) es rise.0 rise.1 fit.1)

all-first : (es : List Entry) → AllByRecursion (λ e. rises is_before None e.name ≡ true) es
all-first [] = tt
all-first (e ∷ es) = (refl, all-first es)

nothing-fits : (version : Version) → (documents_field version).fits [] ≡ true
nothing-fits One = refl
nothing-fits Two = refl

module _ (s : State) (h : IsValid s) where
  -- ---- numbers and marks

  item-live : (n : ℕ) → is_item s n ≡ true → Lives s.entries n
  item-live n is = inr (tested-entry s.entries is_linkable n is)

  added-live : (n : ℕ) → can_be_added s n ≡ true → Lives s.entries n
  added-live n can = elim (or_cases (is_item s n) (is_directory_at s.entries n) can) [ inl item ↦ item-live n item | inr dir ↦ directory-lives s.entries n dir ]

  marks-fit : (test : ℕ → Bool) → ((n : ℕ) → test n ≡ true → Lives s.entries n) → (ns : List ℕ) → AreMarks test ns → (nums s.version).fits ns ≡ true
  marks-fit test live ns are = nums-fit s h.layout ns are.rise (all-weaker (λ n. test n ≡ true) (Lives s.entries) ns live are.there)

  -- ---- answers

  answers-fit : (mount : ℕ) (last : Option Answer) (answers : List Answer) → TermsRise (option_map (λ (a : Answer). a.term) last) answers → AllByRecursion (IsAnswer s mount) answers
      → items_fit (answer_field s.version) last answers ≡ true
  answers-fit mount last [] rise are = refl
  answers-fit mount last (a ∷ answers) rise are =
      and_from _ _
      (and_from (term_field.fits a.term && rises is_term_before (option_map (λ (a : Answer). a.term) last) a.term) ((nums s.version).fits a.documents)
      (and_from (term_field.fits a.term) _ (term-fits a.term are.0.fits) rise.0) (nums-fit s h.layout a.documents are.0.rise (documents-live s h.layout mount a.documents are.0.documents)))
      (answers-fit mount (Some a) answers rise.1 are.1)

  -- ---- documents

  found-all : AllByRecursion (λ e. entry_at s.entries e.number ≡ Some e) s.entries
  found-all = all-entries (λ e. entry_at s.entries e.number ≡ Some e) 0 s.entries s.next h.layout.numbers (λ e found. found)

  -- what holds of all entries holds of those in a directory
  all-children : (P : Entry → Type 0) (dir : ℕ) → AllByRecursion P s.entries → AllByRecursion P (children s dir)
  all-children P dir all = all-order P (standing dir s.entries) (all-filter P (λ (e : Entry). e.parent == dir) s.entries all)

  in-children : (dir : ℕ) → AllByRecursion (λ e. e.parent ≡ dir) (children s dir)
  in-children dir = all-order (λ e. e.parent ≡ dir) (standing dir s.entries) (there s.entries)
    where
      there : (es : List Entry) → AllByRecursion (λ e. e.parent ≡ dir) (standing dir es)
      there [] = tt
      there (e ∷ es) = elim (e.parent == dir) as (λ b. (e.parent == dir) ≡ b → AllByRecursion (λ e. e.parent ≡ dir) (cond b (e ∷ standing dir es) (standing dir es))) [
        | true ↦ (λ here. (eqb-true e.parent dir here, there es))
        | false ↦ (λ other. there es)
      ] refl

  entry-listable : (e : Entry) → entry_at s.entries e.number ≡ Some e → IsListable s.version e
  entry-listable e found = (number-fits s h e.number (inr (e, found)), name-fits e.name (entry_at-all (λ e. IsTrue (is_name e.name)) s.entries e.number e h.layout.names found))

  -- the documents that are listed with an entry
  abbrev documents_at : ℕ → List Entry
  documents_at n = filter (λ (e : Entry). is_document e.body) (children s n)

  -- no more of them than entries of the directory
  documents-fewer : (n : ℕ) (es : List Entry) → length (filter (λ (e : Entry). is_document e.body && (e.parent == n)) es) ≤ length (filter (λ (e : Entry). e.parent == n) es)
  documents-fewer n [] = omega arith
  documents-fewer n (e ∷ es) = one (is_document e.body) (e.parent == n) (documents-fewer n es)
    where
      one : (a b : Bool) → length (filter (λ (e : Entry). is_document e.body && (e.parent == n)) es) ≤ length (filter (λ (e : Entry). e.parent == n) es)
          → length (cond (a && b) (e ∷ filter (λ (e : Entry). is_document e.body && (e.parent == n)) es) (filter (λ (e : Entry). is_document e.body && (e.parent == n)) es)) ≤ length (cond b (e ∷ filter (λ (e : Entry). e.parent == n) es) (filter (λ (e : Entry). e.parent == n) es))
      one true true rest = omega (arith, rest)
      one true false rest = rest
      one false true rest = omega (arith, rest)
      one false false rest = rest

  documents-fit : (n : ℕ) → has_few s.version s.entries n ≡ true → (documents_field s.version).fits (map listed_document (documents_at n)) ≡ true
  documents-fit n few =
      let docs = documents_at n in
      let count : length (map listed_document docs) ≡ length (filter (λ (e : Entry). is_document e.body && (e.parent == n)) s.entries) = length-map docs listed_document ∙ length-order (λ (e : Entry). is_document e.body) n s.entries in
      let inside : length (filter (λ (e : Entry). e.parent == n) s.entries) ≤ docs_limit s.version = leb-true (length (filter (λ (e : Entry). e.parent == n) s.entries)) (docs_limit s.version) few in
      let most : length (map listed_document docs) ≤ docs_limit s.version = omega (arith, count, documents-fewer n s.entries, inside) in
      let listable = all-filter (IsListable s.version) (λ (e : Entry). is_document e.body) (children s n) (all-children (IsListable s.version) n (all-weaker (λ e. entry_at s.entries e.number ≡ Some e) (IsListable s.version) s.entries entry-listable found-all)) in
      and_from _ _
      (counted (length (map listed_document docs)) most)
      (items-listed s.version None docs (all-first docs) (rises-filter (λ (e : Entry). is_document e.body) (children s n) (order-rises n s.entries h.layout.differ)) listable)
    where
      counted : (k : ℕ) → k ≤ docs_limit s.version → (count.fits k && nat_le k (docs_limit s.version)) ≡ true
      counted k most = and_from (count.fits k) (nat_le k (docs_limit s.version)) (docs-fits s.version k most) (le-leb k (docs_limit s.version) most)

  -- nothing but a mount has documents
  none-listed : (e : Entry) → entry_at s.entries e.number ≡ Some e → is_mount e.body ≡ false → documents_at e.number ≡ []
  none-listed e found other = filter-none (λ (f : Entry). is_document f.body) (children s e.number) (none (children s e.number) (in-children e.number) (all-children (λ f. IsTrue (is_in_place s.entries f)) e.number h.layout.places))
    where
      no_mount : (n : ℕ) → n ≡ e.number → is_mount_at s.entries n ≡ false
      no_mount n same = ap (λ (m : ℕ). is_mount_at s.entries m) same ∙ ap (λ (o : Option Entry). option_map_or is_mount (option_map (λ (e : Entry). e.body) o) false) found ∙ other

      none : (fs : List Entry) → AllByRecursion (λ f. f.parent ≡ e.number) fs → AllByRecursion (λ f. IsTrue (is_in_place s.entries f)) fs → AllByRecursion (λ f. is_document f.body ≡ false) fs
      none [] there places = tt
      none (f ∷ fs) there places = (
        elim (is_document f.body) as (λ b. (if b then is_mount_at s.entries f.parent else is_holder_at s.entries f.parent) ≡ true → b ≡ false) [
          | true ↦ (λ mount. let never : is_mount_at s.entries f.parent ≡ false = no_mount f.parent there.0 in absurd cc)
          | false ↦ (λ holder. refl)
        ] places.0,
        none fs there.1 places.1,
      )

  -- ---- entries

  stored-fits : (n : ℕ) (body : Body) (docs : List listed.Document) → IsSound body → AsksWell s body → KeepsWell s n body → is_document body ≡ false
      → (is_mount body ≡ false → docs ≡ []) → (documents_field s.version).fits docs ≡ true → count.fits (length (answers_in body)) ≡ true → (stored_field s.version).fits (body, docs) ≡ true
  stored-fits n (File text dirty shown) docs sound asks keeps other alone fit few =
      let none : no_documents.fits docs ≡ true = ap (λ (ds : List listed.Document). length ds == 0) (alone refl) in
      let texts = and_from (text_field.fits text) ((shown_field text).fits shown) (text-fits s h text sound.fits) (shown-fits s h text shown sound.shown_fits) in
      let behind = and_from _ (no_documents.fits docs) texts none in
      elim dirty as (λ b. (stored_field s.version).fits (File text b shown, docs) ≡ true) [ true ↦ behind | false ↦ behind ]
  stored-fits n Dir docs sound asks keeps other alone fit few = ap (λ (ds : List listed.Document). length ds == 0) (alone refl)
  stored-fits n (Symlink target) docs sound asks keeps other alone fit few =
      and_from _ (no_documents.fits docs) sound (ap (λ (ds : List listed.Document). length ds == 0) (alone refl))
  stored-fits n (Semantic query permanent prohibited) docs sound asks keeps other alone fit few =
      and_from ((query_field s.version).fits query) _ (query-fits s h query asks.fits)
      (and_from ((nums s.version).fits permanent) _ (marks-fit (can_be_added s) added-live permanent asks.added)
      (and_from ((nums s.version).fits prohibited) (no_documents.fits docs) (marks-fit (is_item s) item-live prohibited asks.removed) (ap (λ (ds : List listed.Document). length ds == 0) (alone refl))))
  stored-fits n (Mount space answers) docs sound asks keeps other alone fit few =
      and_from (space_field.fits space) _ (space-fits space sound)
      (and_from ((documents_field s.version).fits docs) _ fit (and_from (count.fits (length answers)) _ few (answers-fit n None answers keeps.rise keeps.sound)))
  stored-fits n Document docs sound asks keeps other alone fit few = absurd cc

  -- a mount keeps no more answers than all of them
  answers-few : (e : Entry) → entry_at s.entries e.number ≡ Some e → count.fits (length (answers_in e.body)) ≡ true
  answers-few e found =
      let parts = and_parts (nat_le (measured documents_kept s.entries) ANSWERS_LIMIT) (nat_le (measured answers_kept s.entries) PAIRS_LIMIT) h.few in
      let all : measured answers_kept s.entries ≤ PAIRS_LIMIT = leb-true (measured answers_kept s.entries) PAIRS_LIMIT parts.1 in
      small (length (answers_in e.body)) (omega (arith, all, measured-removed answers_kept e.number 0 s.entries s.next e h.layout.numbers found))
    where
      small : (k : ℕ) → k ≤ PAIRS_LIMIT → count.fits k ≡ true
      small k most = count-fits k (omega (arith, most))

  -- each entry but a document fits behind one whose number is below
  entry-fits : (e : Entry) (last : Option StoredEntry) → entry_at s.entries e.number ≡ Some e → is_document e.body ≡ false
      → rises nat_lt (option_map (λ (stored : StoredEntry). stored.entry.number) last) e.number ≡ true → (entry_field s.version last).fits (stored_entry s e) ≡ true
  entry-fits e last found other before =
      let all : (P : Entry → Type 0) → AllByRecursion P s.entries → P e = λ P each. entry_at-all P s.entries e.number e each found in
      let place = all (λ e. IsTrue (is_in_place s.entries e)) h.layout.places in
      let parent : (num s.version).fits e.parent ≡ true = number-fits s h e.parent (directory-lives s.entries e.parent (place-directory s.entries e place)) in
      let listable = entry-listable e found in
      and_from _ _
      (and_from ((num s.version).fits e.number) _ listable.0 before)
      (and_from ((num s.version).fits e.parent) _ parent
      (and_from (name_field.fits e.name) ((stored_field s.version).fits (e.body, map listed_document (documents_at e.number))) listable.1
      (stored-fits e.number e.body (map listed_document (documents_at e.number)) (all (λ e. IsSound e.body) h.layout.bodies) (all (λ e. AsksWell s e.body) h.queries) (all (λ e. KeepsWell s e.number e.body) h.answers) other
      (λ plain. ap (map listed_document) (none-listed e found plain)) (fit (is_mount e.body) refl) (answers-few e found))))
    where
      mount : (n : ℕ) (body : Body) → KeepsWell s n body → is_mount body ≡ true → (documents_field s.version).fits (map listed_document (documents_at n)) ≡ true
      mount n (Mount space answers) keeps is = documents-fit n keeps.few
      mount n other keeps is = absurd cc

      fit : (b : Bool) → is_mount e.body ≡ b → (documents_field s.version).fits (map listed_document (documents_at e.number)) ≡ true
      fit true is = mount e.number e.body (entry_at-all (λ e. KeepsWell s e.number e.body) s.entries e.number e h.answers found) is
      fit false is = ap (λ (docs : List Entry). (documents_field s.version).fits (map listed_document docs)) (none-listed e found is) ∙ nothing-fits s.version

  entries-fit : (above : ℕ) (last : Option StoredEntry) (es : List Entry) → ((n : ℕ) → above < n → rises nat_lt (option_map (λ (stored : StoredEntry). stored.entry.number) last) n ≡ true)
      → NumbersRise above es s.next → AllByRecursion (λ e. entry_at s.entries e.number ≡ Some e) es
      → items_fit (entry_field s.version) last (map (stored_entry s) (filter (λ (e : Entry). not (is_document e.body)) es)) ≡ true
  entries-fit above last [] before rise found = refl
  entries-fit above last (e ∷ es) before rise found =
      elim (is_document e.body) as (λ b. is_document e.body ≡ b → items_fit (entry_field s.version) last (map (stored_entry s) (cond (not b) (e ∷ filter (λ (e : Entry). not (is_document e.body)) es) (filter (λ (e : Entry). not (is_document e.body)) es))) ≡ true) [
        | true ↦ (λ document. let above_e : above < e.number = rise.0 in entries-fit e.number last es (λ n lt. before n (omega (arith, above_e, lt))) rise.1 found.1)
        | false ↦ (λ other. and_from _ _ (entry-fits e last found.0 other (before e.number rise.0)) (entries-fit e.number (Some (stored_entry s e)) es (λ n lt. grind (arith, nat_tests, lt)) rise.1 found.1))
      ] refl

  valid-spelled : is_spellable_snapshot (snapshot_of s) ≡ true
  unfolding is_spellable_snapshot snapshot_of
  valid-spelled =
      let kept = filter (λ (e : Entry). not (is_document e.body)) s.entries in
      let few = all-few s h.layout in
      let fewer = filter-few (λ (e : Entry). not (is_document e.body)) s.entries in
      let same : length (map (stored_entry s) kept) ≡ length kept = length-map kept (stored_entry s) in
      and_from ((num s.version).fits s.next) _ (small-fits s h.layout s.next (omega arith))
      (and_from (count.fits (length (map (stored_entry s) kept))) _ (count-fits (length (map (stored_entry s) kept)) (omega (arith, few, fewer, same))) (entries-fit 0 None s.entries (λ n lt. refl) h.layout.numbers found-all))

pub valid-states-spelled : (s : State) → IsValid s → IsTrue (is_spellable_snapshot (snapshot_of s))
valid-states-spelled s h = valid-spelled s h
