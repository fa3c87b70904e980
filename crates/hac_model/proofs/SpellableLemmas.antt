-- Which names, numbers and lists have a spelling: numbers of a tree have their bytes, those that rise are no more than
-- four bytes can count, and no more terms are in use than that.
use Rattle.std.proofs.Common.{[], ap, arith, Bool, false, inr, length, List, refl, subst, suc, sym, true, ℕ, ◌*◌, ◌+◌, ◌<◌, ◌∙◌, ◌∷◌, ◌≡◌, ◌≤◌}
use Rattle.std.specs.Prelude.{codes, drop, filter, not, take, ◌&&◌, ◌==◌, if◌then◌else◌, nat_lt, nat_le, Option, Some, None}
use Rattle.std.specs.List.{AllByRecursion, list_all}
use Rattle.std.specs.Str.{bytes_eq}
use Rattle.std.proofs.lemmas.Bool.{and_from, and_parts, eqb-true, leb-true, ltb-false}
use Rattle.std.proofs.lemmas.Bool.Decides.{nat_tests}
use Rattle.std.proofs.lemmas.List.{length-append, take-append-drop}
use Rattle.hac_model.specs.Payload.Fields.{checked, count, items_fit, num}
use Rattle.hac_model.specs.Payload.Payloads.{docs_field, name_field, nums, rises, space_field, told_field}
use Rattle.hac_model.specs.Query.Formula.{Formula}
use Rattle.hac_model.specs.Query.Formula as query
use Rattle.hac_model.specs.Query.Queries.{are_terms, is_query, letter_count, not_count, term_count, terms_of}
use Rattle.hac_model.specs.Query.Terms.{is_term_before}
use Rattle.hac_model.specs.Script.SpaceNames.{is_space_byte, is_space_name}
use Rattle.hac_model.specs.Tree.Depends.{named_in}
use Rattle.hac_model.specs.Tree.Events.{are_directories, may_ask}
use Rattle.hac_model.specs.Tree.Asking.{are_all_told, asked_by, unanswered}
use Rattle.hac_model.specs.Tree.Limits.{mount_count, semantic_count}
use Rattle.hac_model.specs.Tree.Links.{answers_at, parent_of}
use Rattle.hac_model.specs.Tree.Listing.{is_before}
use Rattle.hac_model.specs.Tree.Mounting.{are_documents, are_documents_few, are_told, do_names_rise, do_rise_from, is_document_of, is_told}
use Rattle.hac_model.specs.Tree.Mounts.{terms_in_order, is_kept, put_term, terms_in, terms_in_use, terms_to_ask}
use Rattle.hac_model.specs.Tree.Names.{is_name, is_name_byte}
use Rattle.hac_model.specs.Tree.{is_queried, is_document, is_document_at, is_mount}
use Rattle.hac_model.specs.Tree.Valid.{AsksWell, IsLayout, IsValid, RiseFrom}
use Rattle.hac_model.specs.declared.limits.TheConstants.{MOUNTS_LIMIT, NAME_LIMIT, NESTING_LIMIT, QUERY_LIMIT, SEMANTICS_LIMIT, TERMS_LIMIT}
use Rattle.hac_model.specs.declared.states.Body.{Body}
use Rattle.hac_model.specs.declared.states.Body.TheVariants.{File, Dir, Symlink, Semantic, Mount, Document}
use Rattle.hac_model.specs.declared.states.Entry.{Entry}
use Rattle.hac_model.specs.declared.states.State.{State}
use Rattle.hac_model.specs.declared.terms.Term.{Term}
use Rattle.hac_model.proofs.ChangeLemmas.{all-joined, all-weaker}
use Rattle.hac_model.proofs.CountLemmas.{measured-cons, one_if}
use Rattle.hac_model.proofs.LimitLemmas.{IsWithinLimits, limits-within, most-mounts}
use Rattle.hac_model.proofs.MountKeptLemmas.{rise-told}
use Rattle.hac_model.proofs.MountLayoutLemmas.{all-tested, documents-parts}
use Rattle.hac_model.proofs.VersionLemmas.{count-fits, docs-fits, num-fits}
use Rattle.hac_model.specs.Versions.{docs_limit, numbers_limit}
use Rattle.hac_model.specs.declared.versions.Version.{Version}
use Rattle.hac_model.proofs.LiveLemmas.{live-below, live-few, tested-entry}
use Rattle.hac_model.proofs.TreeLemmas.{Lives}

-- Names.

pub name-fits : (name : List ℕ) → is_name name ≡ true → name_field.fits name ≡ true
name-fits name is =
    let one = and_parts (nat_le 1 (length name) && nat_le (length name) NAME_LIMIT && list_all is_name_byte name && not (bytes_eq name (codes "."))) (not (bytes_eq name (codes ".."))) is in
    let two = and_parts (nat_le 1 (length name) && nat_le (length name) NAME_LIMIT && list_all is_name_byte name) (not (bytes_eq name (codes "."))) one.0 in
    let three = and_parts (nat_le 1 (length name) && nat_le (length name) NAME_LIMIT) (list_all is_name_byte name) two.0 in
    let four = and_parts (nat_le 1 (length name)) (nat_le (length name) NAME_LIMIT) three.0 in
    and_from (nat_le (length name) NAME_LIMIT) (is_name name) four.1 is

pub space-fits : (space : List ℕ) → is_space_name space ≡ true → space_field.fits space ≡ true
unfolding is_space_name
space-fits space is =
    let front = and_parts (nat_le 1 (length space) && nat_le (length space) 32) (list_all is_space_byte space) is in
    and_from (nat_le (length space) 32) (is_space_name space) (and_parts (nat_le 1 (length space)) (nat_le (length space) 32) front.0).1 is

-- names that rise behind one that is before them all
names-fit : (last : Option (List ℕ)) (names : List (List ℕ)) → AllByRecursion (λ name. rises is_before last name ≡ true) names → AllByRecursion (λ name. is_name name ≡ true) names → do_names_rise names ≡ true
    → items_fit (λ last. checked name_field (rises is_before last)) last names ≡ true
names-fit last [] before named rise = refl
names-fit last (name ∷ names) before named rise =
    let parts = and_parts (list_all (is_before name) names) (do_names_rise names) rise in
    and_from (name_field.fits name && rises is_before last name) _
    (and_from (name_field.fits name) (rises is_before last name) (name-fits name named.0) before.0)
    (names-fit (Some name) names (all-tested (is_before name) names parts.0) named.1 parts.1)

-- names of documents
pub docs-fit : (version : Version) (names : List (List ℕ)) → are_documents names ≡ true → are_documents_few version names ≡ true → (docs_field version).fits names ≡ true
docs-fit version names are few =
    let parts = documents-parts names are in
    let most : length names ≤ docs_limit version = leb-true (length names) (docs_limit version) few in
    and_from (count.fits (length names) && nat_le (length names) (docs_limit version)) _
    (and_from (count.fits (length names)) (nat_le (length names) (docs_limit version)) (docs-fits version (length names) most) few)
    (names-fit None names (first names) parts.0 parts.1)
  where
    first : (names : List (List ℕ)) → AllByRecursion (λ name. rises is_before None name ≡ true) names
    first [] = tt
    first (name ∷ names) = (refl, first names)

-- Numbers.

module _ (s : State) (h : IsLayout s) where
  next-few : s.next ≤ numbers_limit s.version
  next-few = ltb-false (numbers_limit s.version) s.next (limits-within s h.limits).numbers

  pub small-fits : (n : ℕ) → n ≤ s.next → (num s.version).fits n ≡ true
  small-fits n below = num-fits s.version n (omega (arith, below, next-few))

  -- numbers fit behind one that is below them all
  rising-fit : (bound : ℕ) (last : Option ℕ) (ns : List ℕ) → ((n : ℕ) → bound ≤ n → rises nat_lt last n ≡ true) → RiseFrom bound ns → AllByRecursion (λ n. n < s.next) ns
      → items_fit (λ last. checked (num s.version) (rises nat_lt last)) last ns ≡ true
  rising-fit bound last [] before rise below = refl
  rising-fit bound last (n ∷ ns) before rise below =
      and_from ((num s.version).fits n && rises nat_lt last n) _
      (and_from ((num s.version).fits n) (rises nat_lt last n) (small-fits n (omega (arith, below.0))) (before n rise.0))
      (rising-fit (n + 1) (Some n) ns (λ m le. grind (arith, nat_tests, le)) rise.1 below.1)

  pub nums-fit : (ns : List ℕ) → RiseFrom 0 ns → AllByRecursion (Lives s.entries) ns → (nums s.version).fits ns ≡ true
  nums-fit ns rise live =
      let few = live-few s ns h rise live in
      let below = all-weaker (Lives s.entries) (λ n. n < s.next) ns (λ n. live-below s.entries n s.next h.numbers) live in
      and_from (count.fits (length ns)) _ (count-fits (length ns) (omega (arith, few))) (rising-fit 0 None ns (λ n le. refl) rise below)

  -- documents of a mount
  pub documents-live : (mount : ℕ) (ns : List ℕ) → AllByRecursion (λ n. is_document_of s mount n ≡ true) ns → AllByRecursion (Lives s.entries) ns
  documents-live mount ns are =
      all-weaker (λ n. is_document_of s mount n ≡ true) (Lives s.entries) ns
      (λ n is. inr (tested-entry s.entries is_document n (and_parts (is_document_at s.entries n) (parent_of s n == mount) is).0)) are

  -- what was told of each term
  lists-fit : (mount : ℕ) (last : Option (List ℕ)) (told : List (List ℕ)) → list_all (is_told s mount) told ≡ true → items_fit (λ last. nums s.version) last told ≡ true
  lists-fit mount last [] are = refl
  lists-fit mount last (ns ∷ told) are =
      let parts = and_parts (is_told s mount ns) (list_all (is_told s mount) told) are in
      let own = and_parts (do_rise_from 0 ns) (list_all (is_document_of s mount) ns) parts.0 in
      and_from ((nums s.version).fits ns) _ (nums-fit ns (rise-told 0 ns own.0) (documents-live mount ns (all-tested (is_document_of s mount) ns own.1))) (lists-fit mount (Some ns) told parts.1)

-- Terms.

pub put-few : (term : Term) (terms : List Term) → length (put_term term terms) ≤ suc (length terms)
put-few term [] = omega arith
put-few term (first ∷ terms) =
    elim (is_term_before term first) as (λ b. length (if b then term ∷ first ∷ terms else (if is_term_before first term then first ∷ put_term term terms else first ∷ terms)) ≤ suc (length (first ∷ terms))) [
      | true ↦ omega arith
      | false ↦ elim (is_term_before first term) as (λ b. length (if b then first ∷ put_term term terms else first ∷ terms) ≤ suc (length (first ∷ terms))) [
        | true ↦ omega (arith, put-few term terms)
        | false ↦ omega arith
      ]
    ]

pub order-few : (terms : List Term) → length (terms_in_order terms) ≤ length terms
order-few [] = omega arith
order-few (term ∷ terms) = omega (arith, order-few terms, put-few term (terms_in_order terms))

pub terms-few : (q : Formula ℕ) → length (terms_of q) ≤ term_count q
terms-few (query.Term term) = omega arith
terms-few (query.Dir dir) = omega arith
terms-few (query.Not q) = terms-few q
terms-few (query.And left right) = omega (arith, length-append (terms_of left) (terms_of right), terms-few left, terms-few right)
terms-few (query.Or left right) = omega (arith, length-append (terms_of left) (terms_of right), terms-few left, terms-few right)

query-few : (s : State) (q : Formula ℕ) → may_ask s q ≡ true → length (terms_of q) ≤ TERMS_LIMIT
query-few s q may =
    let fits = and_parts (is_query q) (are_directories s (named_in q)) may in
    let nested = and_parts (are_terms q && nat_le (term_count q) TERMS_LIMIT && nat_le (letter_count q) QUERY_LIMIT) (nat_le (not_count q) NESTING_LIMIT) fits.0 in
    let sized = and_parts (are_terms q && nat_le (term_count q) TERMS_LIMIT) (nat_le (letter_count q) QUERY_LIMIT) nested.0 in
    let most : term_count q ≤ TERMS_LIMIT = leb-true (term_count q) TERMS_LIMIT (and_parts (are_terms q) (nat_le (term_count q) TERMS_LIMIT) sized.0).1 in
    omega (arith, terms-few q, most)

-- each query has so many terms at most
in_use-few : (s : State) (es : List Entry) → AllByRecursion (λ e. AsksWell s e.body) es → length (terms_in_use es) ≤ 64 * semantic_count es
in_use-few s [] asks = omega arith
in_use-few s (e ∷ es) asks =
    let here : length (terms_in e.body) ≤ 64 * one_if is_queried e.body = each e.body asks.0 in
    let both : length (terms_in_use (e ∷ es)) ≡ length (terms_in e.body) + length (terms_in_use es) = length-append (terms_in e.body) (terms_in_use es) in
    let count : semantic_count (e ∷ es) ≡ one_if is_queried e.body + semantic_count es = measured-cons (one_if is_queried) e es in
    let rest : length (terms_in_use es) ≤ 64 * semantic_count es = in_use-few s es asks.1 in
    omega (arith, here, both, count, rest)
  where
    each : (body : Body) → AsksWell s body → length (terms_in body) ≤ 64 * one_if is_queried body
    each (Semantic q permanent prohibited) asks = query-few s q asks.fits
    each (File text dirty shown) asks = omega arith
    each Dir asks = omega arith
    each (Symlink target) asks = omega arith
    each (Mount space answers) asks = omega arith
    each Document asks = omega arith

-- so what is told of the terms in use has a spelling, where it is told by documents of a tree
pub told-fit : (s t : State) (mount : ℕ) (told : List (List ℕ)) → IsValid s → IsLayout t → are_told t mount (terms_to_ask s.entries) told ≡ true → (told_field t.version).fits told ≡ true
told-fit s t mount told h tree are =
    let parts = and_parts (length told == length (terms_to_ask s.entries)) (list_all (is_told t mount) told) are in
    let even : length told ≡ length (terms_to_ask s.entries) = eqb-true (length told) (length (terms_to_ask s.entries)) parts.0 in
    let within : IsWithinLimits s = limits-within s h.layout.limits in
    let few : semantic_count s.entries ≤ SEMANTICS_LIMIT = grind (arith, nat_tests, within.semantics) in
    let all : length (terms_in_use s.entries) ≤ 64 * semantic_count s.entries = in_use-few s s.entries h.queries in
    let asked : length (terms_to_ask s.entries) ≤ length (terms_in_use s.entries) = order-few (terms_in_use s.entries) in
    and_from (count.fits (length told)) _ (count-fits (length told) (omega (arith, even, few, all, asked))) (lists-fit t tree mount None told parts.1)

-- What mounts are told for a query.

pub filter-few : (p : Term → Bool) (terms : List Term) → length (filter p terms) ≤ length terms
filter-few p [] = omega arith
filter-few p (term ∷ terms) =
    let rest = filter-few p terms in
    elim (p term) as (λ b. length (if b then term ∷ filter p terms else filter p terms) ≤ length (term ∷ terms)) [ true ↦ omega (arith, rest) | false ↦ omega (arith, rest) ]

module _ (s : State) (query : Formula ℕ) (h : IsLayout s) (may : may_ask s query ≡ true) where
  -- a mount has to be asked for no more terms than a query may have
  asked-few : (e : Entry) → length (asked_by (answers_at s) query e) ≤ 64 * one_if is_mount e.body
  asked-few e = few (is_mount e.body)
    where
      few : (b : Bool) → length (if b then unanswered query (answers_at s e.number) else []) ≤ 64 * (if b then 1 else 0)
      few true =
          let terms = filter-few (λ term. not (is_kept (answers_at s e.number) term)) (terms_in_order (terms_of query)) in
          omega (arith, terms, order-few (terms_of query), query-few s query may)
      few false = omega arith

  told-few : (es : List Entry) (told : List (List ℕ)) → are_all_told s query told es ≡ true → length told ≤ 64 * mount_count es
  told-few [] told all = let none : length told ≡ 0 = eqb-true (length told) 0 all in omega (arith, none)
  told-few (e ∷ es) told all =
      let k = length (asked_by (answers_at s) query e) in
      let parts = and_parts (are_told s e.number (asked_by (answers_at s) query e) (take k told)) (are_all_told s query (drop k told) es) all in
      let own = and_parts (length (take k told) == k) (list_all (is_told s e.number) (take k told)) parts.0 in
      let even : length (take k told) ≡ k = eqb-true (length (take k told)) k own.0 in
      let both : length (take k told) + length (drop k told) ≡ length told = sym (length-append (take k told) (drop k told)) ∙ ap (λ (ns : List (List ℕ)). length ns) (take-append-drop k told) in
      let rest = told-few es (drop k told) parts.1 in
      omega (arith, even, both, rest, asked-few e, measured-cons (one_if is_mount) e es)

  each-fits : (es : List Entry) (told : List (List ℕ)) → are_all_told s query told es ≡ true → AllByRecursion (λ ns. (nums s.version).fits ns ≡ true) told
  each-fits [] [] all = tt
  each-fits [] (ns ∷ told) all = let never : length (ns ∷ told) ≡ 0 = eqb-true (length (ns ∷ told)) 0 all in absurd (omega (arith, never))
  each-fits (e ∷ es) told all =
      let k = length (asked_by (answers_at s) query e) in
      let parts = and_parts (are_told s e.number (asked_by (answers_at s) query e) (take k told)) (are_all_told s query (drop k told) es) all in
      let own = and_parts (length (take k told) == k) (list_all (is_told s e.number) (take k told)) parts.0 in
      subst (AllByRecursion (λ ns. (nums s.version).fits ns ≡ true)) (take-append-drop k told)
      (all-joined (λ ns. (nums s.version).fits ns ≡ true) (take k told) (drop k told) (own-fit e.number (take k told) own.1) (each-fits es (drop k told) parts.1))
    where
      own-fit : (mount : ℕ) (told : List (List ℕ)) → list_all (is_told s mount) told ≡ true → AllByRecursion (λ ns. (nums s.version).fits ns ≡ true) told
      own-fit mount [] are = tt
      own-fit mount (ns ∷ told) are =
          let parts = and_parts (is_told s mount ns) (list_all (is_told s mount) told) are in
          ((and_parts ((nums s.version).fits ns) (items_fit (λ last. nums s.version) (Some ns) told) (lists-fit s h mount None (ns ∷ told) are)).0, own-fit mount told parts.1)

lists-all : (version : Version) (last : Option (List ℕ)) (told : List (List ℕ)) → AllByRecursion (λ ns. (nums version).fits ns ≡ true) told → items_fit (λ last. nums version) last told ≡ true
lists-all version last [] fits = refl
lists-all version last (ns ∷ told) fits = and_from ((nums version).fits ns) _ fits.0 (lists-all version (Some ns) told fits.1)

-- so what mounts are told for a query has a spelling
pub all-told-fit : (s : State) (query : Formula ℕ) (told : List (List ℕ)) → IsValid s → may_ask s query ≡ true → are_all_told s query told s.entries ≡ true → (told_field s.version).fits told ≡ true
all-told-fit s query told h may all =
    let within : IsWithinLimits s = limits-within s h.layout.limits in
    let few : mount_count s.entries ≤ MOUNTS_LIMIT = grind (arith, nat_tests, most-mounts s within) in
    let told-all : length told ≤ 64 * mount_count s.entries = told-few s query h.layout may s.entries told all in
    and_from (count.fits (length told)) _ (count-fits (length told) (omega (arith, few, told-all))) (lists-all s.version None told (each-fits s query h.layout may s.entries told all))
