-- What mounts are told by the names that their spaces answered: documents of their own, each once.
use Rattle.std.proofs.Common.{◌≡◌, ℕ, zero, suc, ◌<◌, ◌≤◌, ◌+◌, Bool, true, false, List, [], ◌∷◌, ◌++◌, length, map, refl, ap, sym, ◌∙◌, arith}
use Rattle.std.specs.Prelude.{◌==◌, ◌&&◌, if◌then◌else◌, drop, filter, nat_le, not, take, Some}
use Rattle.std.specs.List.{AllByRecursion, flat_map, list_all}
use Rattle.std.specs.List.Sorted.{IsStrictlySortedBy}
use Rattle.std.specs.Cmp.Lexicographic.{slice_cmp}
use Rattle.std.specs.Ordering.{is_lt, nat_cmp}
use Rattle.std.proofs.Common.{Less}
use Rattle.std.proofs.Math.Seq.{drop-append_seam, take-append_seam}
use Rattle.std.proofs.lemmas.Bool.{and_from, and_parts, eq-eqb, le-leb}
use Rattle.std.proofs.lemmas.List.{length-append, length-map, length-take-le}
use Rattle.std.proofs.lemmas.List.Sums.{list_all-from_AllPass}
use Rattle.hac_model.specs.Query.Formula.{Formula}
use Rattle.hac_model.specs.Run.Asks.{documents_named, query_asks, searches_of, space_of, told_for, told_to}
use Rattle.hac_model.specs.Spaces.Answering.{AreRisingNames}
use Rattle.hac_model.specs.Tree.Asking.{are_all_told, asked_by}
use Rattle.hac_model.specs.Tree.Bare.{bare}
use Rattle.hac_model.specs.Tree.Events.{edited}
use Rattle.hac_model.specs.Tree.Links.{answers_at}
use Rattle.hac_model.specs.Tree.Listing.{is_before}
use Rattle.hac_model.specs.Tree.Mounting.{are_told, cleared, do_names_rise, do_rise_from, forgetting_such, fresh, is_among, is_gone, is_such_at, is_told, keeping, mounted, redocumented, synced, without_such}
use Rattle.hac_model.specs.Tree.Names.{is_name}
use Rattle.hac_model.specs.Tree.{entry_at, is_document}
use Rattle.hac_model.specs.Tree.Valid.{NumbersRise, is_document_of}
use Rattle.hac_model.specs.declared.spaces.Search.{Search}
use Rattle.hac_model.specs.declared.states.Answer.{Answer}
use Rattle.hac_model.specs.declared.states.Body.TheVariants.{Mount}
use Rattle.hac_model.specs.declared.states.Entry.{Entry}
use Rattle.hac_model.specs.declared.states.State.{State}
use Rattle.hac_model.specs.declared.terms.Term.{Term}
use Rattle.hac_model.proofs.AlikeLemmas.{document-bare, parent_of-bare}
use Rattle.hac_model.proofs.BareLemmas.{mounted-bare, synced-bare}
use Rattle.hac_model.proofs.ChangeLemmas.{numbers-append, numbers-changed, numbers-filter}
use Rattle.hac_model.proofs.KeepingLemmas.{document_by}
use Rattle.hac_model.proofs.MapLemmas.{numbers-mapped}
use Rattle.hac_model.proofs.MountLayoutLemmas.{numbers-documents}
use Rattle.hac_model.proofs.ValidLemmas.{found-all}

-- Names as spaces give them.

rising-names : (names : List (List ℕ)) → IsStrictlySortedBy (slice_cmp nat_cmp) names → do_names_rise names ≡ true
unfolding IsStrictlySortedBy
rising-names [] h = refl
rising-names (name ∷ names) h = and_from (list_all (is_before name) names) (do_names_rise names) (before names h.0) (rising-names names h.1)
  where
    before : (others : List (List ℕ)) → AllByRecursion (λ other. slice_cmp nat_cmp name other ≡ Less) others → list_all (is_before name) others ≡ true
    before [] h = refl
    before (other ∷ others) h = and_from (is_before name other) (list_all (is_before name) others) (ap is_lt h.0) (before others h.1)

pub names-rise : (names : List (List ℕ)) → AreRisingNames names → (list_all is_name names && do_names_rise names) ≡ true
names-rise names h = and_from (list_all is_name names) (do_names_rise names) (list_all-from_AllPass is_name names h.names) (rising-names names h.rising)

-- Documents of a mount that have one of some names.

named-rise : (above bound : ℕ) (p : Entry → Bool) (es : List Entry) (next : ℕ) → bound ≤ above + 1 → NumbersRise above es next → do_rise_from bound (map (λ (e : Entry). e.number) (filter p es)) ≡ true
named-rise above bound p [] next low h = refl
named-rise above bound p (e ∷ es) next low h =
    let more : above < e.number = h.0 in
    elim (p e) as (λ b. do_rise_from bound (map (λ (e : Entry). e.number) (if b then e ∷ filter p es else filter p es)) ≡ true) [
      | true ↦ and_from (nat_le bound e.number) (do_rise_from (e.number + 1) (map (λ (e : Entry). e.number) (filter p es))) (le-leb bound e.number (omega (arith, low, more))) (named-rise e.number (e.number + 1) p es next (omega arith) h.1)
      | false ↦ named-rise e.number bound p es next (omega (arith, low, more)) h.1
    ]

pub named-told : (s : State) (mount : ℕ) (names : List (List ℕ)) → NumbersRise 0 s.entries s.next → is_told s mount (documents_named s mount names) ≡ true
named-told s mount names h =
    and_from (do_rise_from 0 (documents_named s mount names)) (list_all (is_document_of s mount) (documents_named s mount names))
    (named-rise 0 0 test s.entries s.next (omega arith) h) (own s.entries (found-all 0 s.entries s.next h))
  where
    test : Entry → Bool
    test e = is_document e.body && (e.parent == mount && is_among names e.name)

    own : (es : List Entry) → AllByRecursion (λ e. entry_at s.entries e.number ≡ Some e) es → list_all (is_document_of s mount) (map (λ (e : Entry). e.number) (filter test es)) ≡ true
    own [] found = refl
    own (e ∷ es) found =
        elim (test e) as (λ b. test e ≡ b → list_all (is_document_of s mount) (map (λ (e : Entry). e.number) (if b then e ∷ filter test es else filter test es)) ≡ true) [
          | true ↦ (λ passes.
              let parts = and_parts (is_document e.body) (e.parent == mount && is_among names e.name) passes in
              let inside = and_parts (e.parent == mount) (is_among names e.name) parts.1 in
              and_from (is_document_of s mount e.number) (list_all (is_document_of s mount) (map (λ (e : Entry). e.number) (filter test es)))
              (ap (document_by mount) found.0 ∙ and_from (is_document e.body) (e.parent == mount) parts.0 inside.0) (own es found.1))
          | false ↦ (λ _. own es found.1)
        ] refl

all-named : (s : State) (mount : ℕ) (found : List (List (List ℕ))) → NumbersRise 0 s.entries s.next → list_all (is_told s mount) (map (documents_named s mount) found) ≡ true
all-named s mount [] h = refl
all-named s mount (names ∷ found) h = and_from (is_told s mount (documents_named s mount names)) (list_all (is_told s mount) (map (documents_named s mount) found)) (named-told s mount names h) (all-named s mount found h)

are-named : (s : State) (mount : ℕ) (terms : List Term) (found : List (List (List ℕ))) → NumbersRise 0 s.entries s.next → length found ≡ length terms → are_told s mount terms (map (documents_named s mount) found) ≡ true
are-named s mount terms found h even =
    and_from (length (map (documents_named s mount) found) == length terms) (list_all (is_told s mount) (map (documents_named s mount) found))
    (eq-eqb (length (map (documents_named s mount) found)) (length terms) (length-map found (documents_named s mount) ∙ even)) (all-named s mount found h)

-- in a state whose tree is the same the same may be told
documents-bare : (s : State) (m n : ℕ) → is_document_of (bare s) m n ≡ is_document_of s m n
documents-bare s m n = λ i. document-bare s n i && (parent_of-bare s n i == m)

pub told-alike : (s t : State) (mount : ℕ) (terms : List Term) (told : List (List ℕ)) → bare s ≡ bare t → are_told s mount terms told ≡ are_told t mount terms told
told-alike s t mount terms told same = λ i. length told == length terms && list_all (λ ns. do_rise_from 0 ns && list_all (λ n. own n i) ns) told
  where
    own : (n : ℕ) → is_document_of s mount n ≡ is_document_of t mount n
    own n = sym (documents-bare s mount n) ∙ ap (λ (x : State). is_document_of x mount n) same ∙ documents-bare t mount n

-- A space is mounted, or a mount synced.

module _ (s : State) (h : NumbersRise 0 s.entries s.next) (terms : List Term) (found : List (List (List ℕ))) (even : length found ≡ length terms) where
  pub mounted-told : (dir : ℕ) (name space : List ℕ) (answers : List Answer) (names : List (List ℕ)) →
      are_told (mounted s dir name space answers names) s.next terms (map (documents_named (mounted s dir name space [] names) s.next) found) ≡ true
  mounted-told dir name space answers names =
      told-alike (mounted s dir name space answers names) (mounted s dir name space [] names) s.next terms (map (documents_named (mounted s dir name space [] names) s.next) found)
      (mounted-bare s dir name space answers [] names ∙ sym (mounted-bare s dir name space [] [] names))
      ∙ are-named (mounted s dir name space [] names) s.next terms found
      (numbers-documents 0 (s.entries ++ record { number = s.next; parent = dir; name = name; body = Mount space [] } ∷ []) (s.next + 1) s.next names (numbers-append 0 s.entries (record { number = s.next; parent = dir; name = name; body = Mount space [] }) s.next h refl)) even

  pub synced-told : (mount : ℕ) (answers : List Answer) (names : List (List ℕ)) → are_told (synced s mount answers names) mount terms (map (documents_named (synced s mount [] names) mount) found) ≡ true
  synced-told mount answers names =
      told-alike (synced s mount answers names) (synced s mount [] names) mount terms (map (documents_named (synced s mount [] names) mount) found)
      (synced-bare s mount answers [] names ∙ sym (synced-bare s mount [] [] names))
      ∙ are-named (synced s mount [] names) mount terms found
      (numbers-changed mount (edited (keeping [])) 0 (redocumented s mount names).entries (s.next + length (fresh s mount names)) (λ e. refl)
      (numbers-documents 0 (cleared (is_gone mount names) s).entries s.next mount (fresh s mount names)
      (numbers-mapped (forgetting_such (is_such_at (is_gone mount names) s.entries)) 0 (without_such (is_gone mount names) s).entries s.next (numbers-filter (λ e. not (is_gone mount names e)) 0 s.entries s.next h)))) even

-- What the mounts are told for a query.

told-split : (s : State) (mount : ℕ) (terms : List Term) (rest : List ℕ) (found : List (List (List ℕ))) → length terms ≤ length found →
    told_to s (map (λ term. mount) terms ++ rest) found ≡ map (documents_named s mount) (take (length terms) found) ++ told_to s rest (drop (length terms) found)
told-split s mount [] rest found fits = refl
told-split s mount (term ∷ terms) rest [] fits = absurd (omega (arith, fits))
told-split s mount (term ∷ terms) rest (names ∷ found) fits = ap (λ (more : List (List ℕ)). documents_named s mount names ∷ more) (told-split s mount terms rest found (omega (arith, fits)))

module _ (s : State) (query : Formula ℕ) (h : NumbersRise 0 s.entries s.next) where
  abbrev asked-in : List Entry → List ℕ
  asked-in es = flat_map (λ (e : Entry). map (λ (term : Term). e.number) (asked_by (answers_at s) query e)) es

  all-told-by : (es : List Entry) (found : List (List (List ℕ))) → length found ≡ length (asked-in es) → are_all_told s query (told_to s (asked-in es) found) es ≡ true
  all-told-by [] found even = refl
  all-told-by (e ∷ es) found even =
      let asked : List Term = asked_by (answers_at s) query e in
      let both : length (asked-in (e ∷ es)) ≡ length asked + length (asked-in es) = length-append (map (λ (term : Term). e.number) asked) (asked-in es) ∙ ap (λ (k : ℕ). k + length (asked-in es)) (length-map asked (λ (term : Term). e.number)) in
      let fits : length asked ≤ length found = omega (arith, even, both) in
      let own : List (List ℕ) = map (documents_named s e.number) (take (length asked) found) in
      let more : List (List ℕ) = told_to s (asked-in es) (drop (length asked) found) in
      let split : told_to s (asked-in (e ∷ es)) found ≡ own ++ more = told-split s e.number asked (asked-in es) found fits in
      let taken : length (take (length asked) found) ≡ length asked = length-take-le (length asked) found fits in
      let size : length own ≡ length asked = length-map (take (length asked) found) (documents_named s e.number) ∙ taken in
      let front : take (length asked) (own ++ more) ≡ own = ap (λ (k : ℕ). take k (own ++ more)) (sym size) ∙ take-append_seam own more in
      let behind : drop (length asked) (own ++ more) ≡ more = ap (λ (k : ℕ). drop k (own ++ more)) (sym size) ∙ drop-append_seam own more in
      let left : length found ≡ length asked + length (drop (length asked) found) = seam (length asked) found fits in
      and_from (are_told s e.number asked (take (length asked) (told_to s (asked-in (e ∷ es)) found))) (are_all_told s query (drop (length asked) (told_to s (asked-in (e ∷ es)) found)) es)
      (ap (are_told s e.number asked) (ap (take (length asked)) split ∙ front) ∙ are-named s e.number asked (take (length asked) found) h taken)
      (ap (λ (told : List (List ℕ)). are_all_told s query told es) (ap (drop (length asked)) split ∙ behind) ∙ all-told-by es (drop (length asked) found) (omega (arith, even, both, left)))
    where
      seam : (k : ℕ) (xs : List (List (List ℕ))) → k ≤ length xs → length xs ≡ k + length (drop k xs)
      seam zero xs fits = omega arith
      seam (suc k) [] fits = absurd (omega (arith, fits))
      seam (suc k) (x ∷ xs) fits = let rest = seam k xs (omega (arith, fits)) in omega (arith, rest)

  -- one question for each
  asked-even : (es : List Entry) → length (flat_map (searches_of s query) es) ≡ length (asked-in es)
  asked-even [] = refl
  asked-even (e ∷ es) =
      let asked : List Term = asked_by (answers_at s) query e in
      length-append (searches_of s query e) (flat_map (searches_of s query) es)
      ∙ (λ i. (length-map asked (λ (term : Term). question term) ∙ sym (length-map asked (λ (term : Term). e.number))) i + asked-even es i)
      ∙ sym (length-append (map (λ (term : Term). e.number) asked) (asked-in es))
    where
      question : Term → Search
      question term = record { space = space_of s e.number; term = term }

  pub query-told : (found : List (List (List ℕ))) → length found ≡ length (query_asks s query).searches → are_all_told s query (told_for s query found) s.entries ≡ true
  query-told found even = all-told-by s.entries found (even ∙ asked-even s.entries)
