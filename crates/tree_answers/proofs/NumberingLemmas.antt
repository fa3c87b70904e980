-- Numbers of documents, found by their names.
use Rattle.std.proofs.Common.{◌≡◌, ℕ, zero, suc, ◌+◌, ◌<◌, ◌≤◌, Bool, true, false, cond, List, [], ◌∷◌, ◌++◌, length, map, get_or, drop, subst, refl, ap, sym, ◌∙◌, arith, eq-eqb, inl, inr, Ordering, Less, Greater}
use Rattle.std.specs.Prelude.{◌^◌, ◌==◌, ◌&&◌, ◌||◌, if◌then◌else◌, filter, nat_lt, not, Option, Some, None, IfOk, IsTrue, Result, Ok, Err, is_none}
use Rattle.std.specs.Cmp.Lexicographic.{nat_list_cmp_total, slice_cmp}
use Rattle.std.specs.List.{AllByRecursion, insert, list_all}
use Rattle.std.specs.List.Sorted.{IsBinarySearchResult, IsPartitionPoint, IsSortedBy, IsStrictlySortedBy}
use Rattle.std.specs.Option.{option_map, option_map_or, unwrap_or}
use Rattle.std.specs.Ordering.{is_eq, is_lt, nat_cmp, ordering_reverse}
use Rattle.std.specs.Str.{bytes_eq}
use Rattle.std.proofs.lemmas.Bool.{and_parts, and_right, cases_lt, eqb-false, le-ltb, lt-ltb, ltb-false, ltb-true, ne_eqb, not-true}
use Rattle.std.proofs.lemmas.Bool.Decides.{nat_tests}
use Rattle.std.proofs.lemmas.List.{drop_all, drop_more}
use Rattle.std.proofs.lemmas.List.Sorted.{searchable_from_sorted}
use Rattle.std.proofs.lemmas.Map.Keys.{Less-from_sorted}
use Rattle.std.proofs.lemmas.Map.Text.{is_eq-slice_cmp}
use Rattle.std.proofs.lemmas.Slice.Eq.{bytes_eq-Decides}
use Rattle.hac_model.specs.Run.Asks.{documents_named}
use Rattle.hac_model.specs.Spaces.Answering.{AreRisingNames}
use Rattle.hac_model.specs.Tree.Bare.{bare, bare_body}
use Rattle.hac_model.specs.Tree.Changes.{changed_in, edited}
use Rattle.hac_model.specs.Tree.Mounting.{cleared, do_names_rise, documents_from, forgetting_such, fresh, is_among, is_gone, is_such_at, keeping, mounted, redocumented, synced}
use Rattle.hac_model.specs.Tree.Names.{is_name}
use Rattle.hac_model.specs.Tree.{child, entry_at, is_directory_at, is_document, is_document_at, is_holder_at, is_mount_at}
use Rattle.hac_model.specs.Tree.Valid.{IsLayout, NamesDiffer, NumbersRise, RiseFrom, is_in_place}
use Rattle.hac_model.specs.declared.states.Body.{Body}
use Rattle.hac_model.specs.declared.states.Body.TheVariants.{Mount}
use Rattle.hac_model.specs.declared.states.Entry.{Entry}
use Rattle.hac_model.specs.declared.states.State.{State}
use Rattle.hac_model.proofs.BareLemmas.{mounted-bare, synced-bare}
use Rattle.hac_model.proofs.ChangeLemmas.{all-filter, all-joined, all-weaker, first_apart}
use Rattle.hac_model.proofs.FittingLemmas.{IsFitting, layout-fits}
use Rattle.hac_model.proofs.FoundLemmas.{names-rise}
use Rattle.hac_model.proofs.LimitLemmas.{limits-within, most-numbers}
use Rattle.hac_model.proofs.MountLayoutLemmas.{all-tested, cleared-fits, cleared-mount, fresh-free, gone-stays, numbers-documents, rise-filter, with_documents-fits}
use Rattle.hac_model.proofs.TreeLemmas.{child-entry, entry_at-above, entry_at-all, entry_at-behind, entry_at-first, place-directory, same_place}
use Rattle.hac_model.proofs.ValidLemmas.{directory-below}
use Rattle.tree_answers.specs.Numbering.{document_with, listed_with, numbered_by, numbers_of, put_found, put_number}
use Rattle.hac_model.proofs.NameOrderLemmas.{same-turned}
use Rattle.hac_model.proofs.KindLemmas.{role-bare, role-keeping, role-such, keeps-document}

-- A number among numbers that rise.

above-bound : (bound i : ℕ) (ns : List ℕ) → RiseFrom bound ns → i < length ns → bound ≤ get_or ns i 0
above-bound bound i [] h inside = absurd (omega arith)
above-bound bound zero (n ∷ ns) h inside = h.0
above-bound bound (suc i) (n ∷ ns) h inside = let first : bound ≤ n = h.0 in let more : n + 1 ≤ get_or ns i 0 = above-bound (n + 1) i ns h.1 (omega arith) in omega arith

-- where it is already, nothing changes
pub put-there : (bound n i : ℕ) (ns : List ℕ) → RiseFrom bound ns → i < length ns → get_or ns i 0 ≡ n → put_number n ns ≡ ns
put-there bound n i [] h inside is = absurd (omega arith)
put-there bound n zero (m ∷ ns) h inside is = ap (λ (b : Bool). cond b (m ∷ ns) (cond (nat_lt n m) (n ∷ m ∷ ns) (m ∷ put_number n ns))) (eq-eqb n m (sym is))
put-there bound n (suc i) (m ∷ ns) h inside is =
    let more : m + 1 ≤ get_or ns i 0 = above-bound (m + 1) i ns h.1 (omega arith) in
    ap (λ (b : Bool). cond b (m ∷ ns) (cond (nat_lt n m) (n ∷ m ∷ ns) (m ∷ put_number n ns))) (ne_eqb n m (λ same. omega (arith, same, is, more)))
    ∙ ap (λ (b : Bool). cond b (n ∷ m ∷ ns) (m ∷ put_number n ns)) (le-ltb n m (omega (arith, is, more)))
    ∙ ap (λ (rest : List ℕ). m ∷ rest) (put-there (m + 1) n i ns h.1 (omega arith) is)

-- where it isn't, it goes between the lower numbers and the higher ones
pub put-between : (n i : ℕ) (ns : List ℕ) → i ≤ length ns → ((k : ℕ) → k < i → get_or ns k 0 < n) → ((k : ℕ) → i ≤ k → k < length ns → n < get_or ns k 0) → put_number n ns ≡ insert ns i n
put-between n zero [] inside low high = refl
put-between n (suc i) [] inside low high = absurd (omega arith)
put-between n zero (m ∷ ns) inside low high =
    let less : n < m = high 0 (omega arith) (omega arith) in
    ap (λ (b : Bool). cond b (m ∷ ns) (cond (nat_lt n m) (n ∷ m ∷ ns) (m ∷ put_number n ns))) (ne_eqb n m (λ same. omega (arith, same, less)))
    ∙ ap (λ (b : Bool). cond b (n ∷ m ∷ ns) (m ∷ put_number n ns)) (lt-ltb n m less)
put-between n (suc i) (m ∷ ns) inside low high =
    let more : m < n = low 0 (omega arith) in
    ap (λ (b : Bool). cond b (m ∷ ns) (cond (nat_lt n m) (n ∷ m ∷ ns) (m ∷ put_number n ns))) (ne_eqb n m (λ same. omega (arith, same, more)))
    ∙ ap (λ (b : Bool). cond b (n ∷ m ∷ ns) (m ∷ put_number n ns)) (le-ltb n m (omega (arith, more)))
    ∙ ap (λ (rest : List ℕ). m ∷ rest) (put-between n i ns (omega arith) (λ k less. low (suc k) (omega arith)) (λ k over less. high (suc k) (omega arith) (omega arith)))

-- numbers that rise go on to rise
put-rises : (bound n : ℕ) (ns : List ℕ) → bound ≤ n → RiseFrom bound ns → RiseFrom bound (put_number n ns)
put-rises bound n [] low h = (low, tt)
put-rises bound n (m ∷ ns) low h =
    elim (n == m) as (λ b. (n == m) ≡ b → RiseFrom bound (cond b (m ∷ ns) (cond (nat_lt n m) (n ∷ m ∷ ns) (m ∷ put_number n ns)))) [
      | true ↦ (λ same. h)
      | false ↦ (λ other. elim (nat_lt n m) as (λ b. nat_lt n m ≡ b → RiseFrom bound (cond b (n ∷ m ∷ ns) (m ∷ put_number n ns))) [
        | true ↦ (λ less. (low, (less-next n m less, h.1)))
        | false ↦ (λ more. (h.0, put-rises (m + 1) n ns (next-below n m more other) h.1))
      ] refl)
    ] refl
  where
    less-next : (n m : ℕ) → nat_lt n m ≡ true → n + 1 ≤ m
    less-next n m h = let less = ltb-true n m h in omega (arith, less)

    next-below : (n m : ℕ) → nat_lt n m ≡ false → (n == m) ≡ false → m + 1 ≤ n
    next-below n m h k = let over : m ≤ n = ltb-false n m h in elim (cases_lt m n) [ inl less ↦ omega (arith, less) | inr high ↦ absurd (eqb-false n m k (omega (arith, over, high))) ]

pub found-rises : (o : Option ℕ) (ns : List ℕ) → RiseFrom 0 ns → RiseFrom 0 (put_found o ns)
found-rises None ns h = h
found-rises (Some n) ns h = put-rises 0 n ns (omega arith) h

-- one more name is looked up
pub numbered-next : (find : List ℕ → Option ℕ) (names : List (List ℕ)) (i : ℕ) (x : List ℕ) (old new all : List ℕ) → i < length names → x ≡ get_or names i x → numbered_by find old (drop i names) ≡ all → new ≡ put_found (find x) old → numbered_by find new (drop (i + 1) names) ≡ all
numbered-next find names i x old new all inside is so_far put =
    ap (λ (ns : List ℕ). numbered_by find ns (drop (i + 1) names)) put
    ∙ ap (numbered_by find old) (sym (drop_more names i x inside ∙ ap (λ (y : List ℕ). y ∷ drop (i + 1) names) (sym is)))
    ∙ so_far

pub numbered-done : (find : List ℕ → Option ℕ) (names : List (List ℕ)) (i : ℕ) (ns all : List ℕ) → length names ≤ i → numbered_by find ns (drop i names) ≡ all → ns ≡ all
numbered-done find names i ns all past so_far = sym (ap (numbered_by find ns) (drop_all i names past)) ∙ so_far

-- Documents by their names.

-- the documents of a mount that have one of these names, among some entries
abbrev pub named_in : List Entry → ℕ → List (List ℕ) → List ℕ
named_in es m names = map (λ (e : Entry). e.number) (filter (λ e. is_document e.body && (e.parent == m && is_among names e.name)) es)

named-none : (es : List Entry) (m : ℕ) → named_in es m [] ≡ []
named-none [] m = refl
named-none (e ∷ es) m = ap (λ (b : Bool). map (λ (e : Entry). e.number) (cond b (e ∷ filter (λ e. is_document e.body && (e.parent == m && is_among [] e.name)) es) (filter (λ e. is_document e.body && (e.parent == m && is_among [] e.name)) es))) (never (is_document e.body) (e.parent == m)) ∙ named-none es m
  where
    never : (d p : Bool) → (d && (p && false)) ≡ false
    never false p = refl
    never true false = refl
    never true true = refl

named-rise : (above bound : ℕ) (es : List Entry) (next m : ℕ) (names : List (List ℕ)) → bound ≤ above + 1 → NumbersRise above es next → RiseFrom bound (named_in es m names)
named-rise above bound [] next m names low h = tt
named-rise above bound (e ∷ es) next m names low h =
    let more : above < e.number = h.0 in
    elim (is_document e.body && (e.parent == m && is_among names e.name)) as (λ b. RiseFrom bound (map (λ (e : Entry). e.number) (cond b (e ∷ filter (λ e. is_document e.body && (e.parent == m && is_among names e.name)) es) (filter (λ e. is_document e.body && (e.parent == m && is_among names e.name)) es)))) [
      | true ↦ (omega (arith, low, more), named-rise e.number (e.number + 1) es next m names (omega arith) h.1)
      | false ↦ named-rise e.number bound es next m names (omega (arith, low, more)) h.1
    ]

document-above : (above : ℕ) (es : List Entry) (next m k : ℕ) (x : List ℕ) → NumbersRise above es next → document_with es m x ≡ Some k → above < k
document-above above [] next m k x h found = absurd cc
document-above above (e ∷ es) next m k x h found =
    let more : above < e.number = h.0 in
    elim (is_document e.body && (e.parent == m && bytes_eq e.name x)) as (λ b. cond b (Some e.number) (document_with es m x) ≡ Some k → above < k) [
      | true ↦ (λ found. let same : e.number ≡ k = cc in omega (arith, same, more))
      | false ↦ (λ found. let later = document-above e.number es next m k x h.1 found in omega (arith, later, more))
    ] found

-- where there is nothing of the name, there is no document
pub document-none : (es : List Entry) (m : ℕ) (x : List ℕ) → child es m x ≡ None → document_with es m x ≡ None
document-none [] m x none = refl
document-none (e ∷ es) m x none =
    let parts = first_apart (e.parent == m && bytes_eq e.name x) e.number (child es m x) none in
    ap (λ (b : Bool). cond b (Some e.number) (document_with es m x)) (and_right (is_document e.body) (e.parent == m && bytes_eq e.name x) parts.0) ∙ document-none es m x parts.1

-- what is there is a document or not
pub document-child : (above : ℕ) (es : List Entry) (next m k : ℕ) (x : List ℕ) → NumbersRise above es next → NamesDiffer es → child es m x ≡ Some k → document_with es m x ≡ cond (is_document_at es k) (Some k) None
document-child above [] next m k x h differ found = absurd cc
document-child above (e ∷ es) next m k x h differ found =
    elim (e.parent == m && bytes_eq e.name x) as (λ b. (e.parent == m && bytes_eq e.name x) ≡ b → cond b (Some e.number) (child es m x) ≡ Some k → cond (is_document e.body && b) (Some e.number) (document_with es m x) ≡ cond (is_document_at (e ∷ es) k) (Some k) None) [
      | true ↦ (λ here found.
          let same : e.number ≡ k = cc in
          let place = same_place e.parent m e.name x here in
          let none : child es m x ≡ None = subst (λ (d : ℕ). child es d x ≡ None) place.0 (subst (λ (y : List ℕ). child es e.parent y ≡ None) place.1 differ.0) in
          (elim (is_document e.body) as (λ d. cond (d && true) (Some e.number) (document_with es m x) ≡ cond d (Some e.number) None) [
            | true ↦ refl
            | false ↦ document-none es m x none
          ])
          ∙ ap (λ (o : Option Entry). cond (option_map_or is_document (option_map (λ (e : Entry). e.body) o) false) (Some e.number) None) (sym (entry_at-first e es))
          ∙ ap (λ (n : ℕ). cond (is_document_at (e ∷ es) n) (Some n) None) same)
      | false ↦ (λ other found.
          let there = child-entry e.number es next m k x h.1 found in
          let more : e.number < k = entry_at-above e.number es next k there.0 h.1 there.1 in
          (elim (is_document e.body) as (λ d. cond (d && false) (Some e.number) (document_with es m x) ≡ document_with es m x) [ true ↦ refl | false ↦ refl ])
          ∙ document-child e.number es next m k x h.1 differ.1 found
          ∙ ap (λ (o : Option Entry). cond (option_map_or is_document (option_map (λ (e : Entry). e.body) o) false) (Some k) None) (sym (entry_at-behind e es k (λ same. omega (arith, same, more)))))
    ] refl found

number-first : (b : Bool) (e : Entry) (es : List Entry) → map (λ (e : Entry). e.number) (cond b (e ∷ es) es) ≡ cond b (e.number ∷ map (λ (e : Entry). e.number) es) (map (λ (e : Entry). e.number) es)
number-first true e es = refl
number-first false e es = refl

-- the document of one more name is put among those of the others
pub put-document : (above : ℕ) (es : List Entry) (next m : ℕ) (x : List ℕ) (names : List (List ℕ)) → NumbersRise above es next → NamesDiffer es → put_found (document_with es m x) (named_in es m names) ≡ named_in es m (x ∷ names)
put-document above [] next m x names h differ = refl
put-document above (e ∷ es) next m x names h differ =
    ap (put_found (document_with (e ∷ es) m x)) (number-first (is_document e.body && (e.parent == m && is_among names e.name)) e (filter (λ e. is_document e.body && (e.parent == m && is_among names e.name)) es))
    ∙ joined (put-document e.number es next m x names h.1 differ.1) (is_document e.body) (e.parent == m) (bytes_eq e.name x) (is_among names e.name) alone
    ∙ sym (number-first (is_document e.body && (e.parent == m && is_among (x ∷ names) e.name)) e (filter (λ e. is_document e.body && (e.parent == m && is_among (x ∷ names) e.name)) es))
  where
    n : ℕ
    n = e.number

    old : List ℕ
    old = named_in es m names

    new : List ℕ
    new = named_in es m (x ∷ names)

    rise : RiseFrom (n + 1) old
    rise = named-rise e.number (n + 1) es next m names (omega arith) h.1

    alone : (e.parent == m && bytes_eq e.name x) ≡ true → document_with es m x ≡ None
    alone here =
        let place = same_place e.parent m e.name x here in
        document-none es m x (subst (λ (d : ℕ). child es d x ≡ None) place.0 (subst (λ (y : List ℕ). child es e.parent y ≡ None) place.1 differ.0))

    least : put_number n old ≡ n ∷ old
    least = put-between n 0 old (omega arith) (λ k less. absurd (omega (arith, less))) (λ k over inside. let more : n + 1 ≤ get_or old k 0 = above-bound (n + 1) k old rise inside in omega (arith, more))

    behind : (o : Option ℕ) → ((k : ℕ) → o ≡ Some k → n < k) → put_found o (n ∷ old) ≡ n ∷ put_found o old
    behind None high = refl
    behind (Some k) high =
        let more : n < k = high k refl in
        ap (λ (b : Bool). cond b (n ∷ old) (cond (nat_lt k n) (k ∷ n ∷ old) (n ∷ put_number k old))) (ne_eqb k n (λ same. omega (arith, same, more)))
        ∙ ap (λ (b : Bool). cond b (k ∷ n ∷ old) (n ∷ put_number k old)) (le-ltb k n (omega (arith, more)))

    joined : (put_found (document_with es m x) old ≡ new) → (d p b a : Bool) → ((p && b) ≡ true → document_with es m x ≡ None) → put_found (cond (d && (p && b)) (Some n) (document_with es m x)) (cond (d && (p && a)) (n ∷ old) old) ≡ cond (d && (p && (b || a))) (n ∷ new) new
    joined later false p b a none = later
    joined later true false b a none = later
    joined later true true true true none = ap (λ (t : Bool). cond t (n ∷ old) (cond (nat_lt n n) (n ∷ n ∷ old) (n ∷ put_number n old))) (eq-eqb n n refl) ∙ ap (λ (ns : List ℕ). n ∷ ns) (ap (λ (o : Option ℕ). put_found o old) (sym (none refl)) ∙ later)
    joined later true true true false none = least ∙ ap (λ (ns : List ℕ). n ∷ ns) (ap (λ (o : Option ℕ). put_found o old) (sym (none refl)) ∙ later)
    joined later true true false true none = behind (document_with es m x) (λ k found. document-above n es next m k x h.1 found) ∙ ap (λ (ns : List ℕ). n ∷ ns) later
    joined later true true false false none = later

-- the same names in another order
named-same : (es : List Entry) (m : ℕ) (names others : List (List ℕ)) → ((y : List ℕ) → is_among names y ≡ is_among others y) → named_in es m names ≡ named_in es m others
named-same [] m names others same = refl
named-same (e ∷ es) m names others same =
    number-first (is_document e.body && (e.parent == m && is_among names e.name)) e (filter (λ e. is_document e.body && (e.parent == m && is_among names e.name)) es)
    ∙ (λ i. cond (is_document e.body && (e.parent == m && same e.name i)) (e.number ∷ named-same es m names others same i) (named-same es m names others same i))
    ∙ sym (number-first (is_document e.body && (e.parent == m && is_among others e.name)) e (filter (λ e. is_document e.body && (e.parent == m && is_among others e.name)) es))

-- the numbers that are found are those of the documents that have the names
module _ (above : ℕ) (es : List Entry) (next m : ℕ) (find : List ℕ → Option ℕ) (h : NumbersRise above es next) (differ : NamesDiffer es) (finds : (x : List ℕ) → find x ≡ document_with es m x) where
  named-after : (seen names all : List (List ℕ)) (ns : List ℕ) → ns ≡ named_in es m seen → ((y : List ℕ) → is_among all y ≡ (is_among names y || is_among seen y)) → numbered_by find ns names ≡ named_in es m all
  named-after seen [] all ns so_far both = so_far ∙ named-same es m seen all (λ y. sym (both y))
  named-after seen (x ∷ names) all ns so_far both =
      named-after (x ∷ seen) names all (put_found (find x) ns) ((λ i. put_found (finds x i) (so_far i)) ∙ put-document above es next m x seen h differ)
      (λ y. both y ∙ moved (bytes_eq y x) (is_among names y) (is_among seen y))
    where
      moved : (a b c : Bool) → ((a || b) || c) ≡ (b || (a || c))
      moved true true c = refl
      moved true false c = refl
      moved false true c = refl
      moved false false c = refl

  pub numbered-named : (names : List (List ℕ)) → numbered_by find [] names ≡ named_in es m names
  numbered-named names = named-after [] names names [] (sym (named-none es m)) (λ y. alone (is_among names y))
    where
      alone : (b : Bool) → b ≡ (b || false)
      alone true = refl
      alone false = refl

-- Numbers that a list has.

apart-by : (o : Ordering) → is_eq o ≡ false → (x y : List ℕ) → slice_cmp nat_cmp x y ≡ o → bytes_eq x y ≡ false
apart-by o other x y is = sym (is_eq-slice_cmp x y) ∙ ap is_eq is ∙ other

listed-at : (list : List (List ℕ)) (ns : List ℕ) (x : List ℕ) (i n : ℕ) → IsStrictlySortedBy (slice_cmp nat_cmp) list → i < length list → length ns ≡ length list → get_or list i [] ≡ x → n ≡ get_or ns i n → listed_with list ns x ≡ Some n
unfolding IsStrictlySortedBy
listed-at [] ns x i n rise inside even is at = absurd (omega arith)
listed-at (y ∷ ys) [] x i n rise inside even is at = absurd (omega (arith, even))
listed-at (y ∷ ys) (m ∷ ns) x zero n rise inside even is at =
    ap (λ (b : Bool). cond b (Some m) (listed_with ys ns x)) ((bytes_eq-Decides y x).1 is) ∙ ap (λ (k : ℕ). Some k) (sym at)
listed-at (y ∷ ys) (m ∷ ns) x (suc i) n rise inside even is at =
    let before : slice_cmp nat_cmp y (get_or ys i []) ≡ Less = Less-from_sorted (slice_cmp nat_cmp) (y ∷ ys) 0 (suc i) [] rise (omega arith) inside in
    ap (λ (b : Bool). cond b (Some m) (listed_with ys ns x)) (apart-by Less refl y x (ap (slice_cmp nat_cmp y) (sym is) ∙ before))
    ∙ listed-at ys ns x i n rise.1 (omega (arith, inside)) (omega (arith, even)) is at

listed-never : (list : List (List ℕ)) (ns : List ℕ) (x : List ℕ) → ((k : ℕ) → k < length list → bytes_eq (get_or list k []) x ≡ false) → listed_with list ns x ≡ None
listed-never [] ns x never = refl
listed-never (y ∷ ys) [] x never = refl
listed-never (y ∷ ys) (m ∷ ns) x never =
    ap (λ (b : Bool). cond b (Some m) (listed_with ys ns x)) (never 0 (omega arith)) ∙ listed-never ys ns x (λ k inside. never (suc k) (omega (arith, inside)))

-- what a binary search finds
pub searched-at : (list : List (List ℕ)) (ns : List ℕ) (x : List ℕ) (i n : ℕ) → IsStrictlySortedBy (slice_cmp nat_cmp) list → i < length list → length ns ≡ length list → IsBinarySearchResult (λ y. slice_cmp nat_cmp y x) list (Ok i) → n ≡ get_or ns i n → listed_with list ns x ≡ Some n
searched-at list ns x i n rise inside even found at =
    listed-at list ns x i n rise inside even ((bytes_eq-Decides (get_or list i []) x).0 (sym (is_eq-slice_cmp (get_or list i []) x) ∙ ap is_eq (found []))) at

-- and what it doesn't find
pub searched-none : (list : List (List ℕ)) (ns : List ℕ) (x : List ℕ) (i : ℕ) → IsStrictlySortedBy (slice_cmp nat_cmp) list → IsBinarySearchResult (λ y. slice_cmp nat_cmp y x) list (Err i) → listed_with list ns x ≡ None
searched-none list ns x i rise found =
    let point : IsPartitionPoint (λ y. slice_cmp nat_cmp y x ≡ Less) (λ y. slice_cmp nat_cmp y x ≡ Greater) list i = found (searchable_from_sorted nat_list_cmp_total (λ x. x) list x sorted) in
    listed-never list ns x (λ k inside. elim (cases_lt k i) [
      | inl low ↦ apart-by Less refl (get_or list k []) x (point.0 k [] (omega arith) low)
      | inr high ↦ apart-by Greater refl (get_or list k []) x (point.1 k [] high inside)
    ])
  where
    sorted : IsSortedBy (λ x y. is_lt (slice_cmp nat_cmp x y)) list
    sorted k d low inside = ap is_lt (nat_list_cmp_total.antisymm (get_or list (k + 1) d) (get_or list k d) ∙ ap ordering_reverse (Less-from_sorted (slice_cmp nat_cmp) list k (k + 1) d rise (omega arith) inside))

-- Numbers of the documents of a list.

-- the next number is far below what a number can be
pub next-small : (s : State) → IsLayout s → s.next + 1 < 2 ^ 63
next-small s h = let most = most-numbers s (limits-within s h.limits) in grind (arith, nat_tests, most)

pub numbers-even : (es : List Entry) (m next : ℕ) (list : List (List ℕ)) → length (numbers_of es m next list) ≡ length list
numbers-even es m next [] = refl
numbers-even es m next (x ∷ list) = ap (λ (k : ℕ). suc k) (numbers-even es m (cond (is_none (child es m x)) (next + 1) next) list)

-- the first of two that was found
abbrev pub first_found : Option ℕ → Option ℕ → Option ℕ
first_found None other = other
first_found (Some n) other = Some n

-- the place of a name in a list, counted from a number on
abbrev pub rank_from : ℕ → List (List ℕ) → List ℕ → Option ℕ
rank_from next [] x = None
rank_from next (y ∷ ys) x = if bytes_eq y x then Some next else rank_from (next + 1) ys x

-- the list has the number of an entry that stays, or of a document that comes
listed-numbers : (es : List Entry) (m next : ℕ) (list : List (List ℕ)) (x : List ℕ) → first_found (cond (is_among list x) (child es m x) None) (rank_from next (filter (λ y. is_none (child es m y)) list) x) ≡ listed_with list (numbers_of es m next list) x
listed-numbers es m next [] x = refl
listed-numbers es m next (y ∷ ys) x = elim (bytes_eq y x) as (λ b. bytes_eq y x ≡ b → first_found (cond (is_among (y ∷ ys) x) (child es m x) None) (rank_from next (filter (λ y. is_none (child es m y)) (y ∷ ys)) x) ≡ listed_with (y ∷ ys) (numbers_of es m next (y ∷ ys)) x) [
  | true ↦ (λ here.
      ap (λ (o : Option ℕ). first_found (cond (is_among (y ∷ ys) x) o None) (rank_from next (filter (λ y. is_none (child es m y)) (y ∷ ys)) x)) (ap (child es m) (sym ((bytes_eq-Decides y x).0 here)))
      ∙ own here (child es m y))
  | false ↦ (λ other.
      ap (λ (b : Bool). first_found (cond (b || is_among ys x) (child es m x) None) (rank_from next (filter (λ y. is_none (child es m y)) (y ∷ ys)) x)) (same-turned x y ∙ other)
      ∙ ap (first_found (cond (is_among ys x) (child es m x) None)) (passed other (child es m y))
      ∙ listed-numbers es m (cond (is_none (child es m y)) (next + 1) next) ys x
      ∙ sym (ap (λ (b : Bool). cond b (Some (unwrap_or (child es m y) next)) (listed_with ys (numbers_of es m (cond (is_none (child es m y)) (next + 1) next) ys) x)) other))
] refl
  where
    left : List (List ℕ)
    left = filter (λ y. is_none (child es m y)) ys

    own : bytes_eq y x ≡ true → (o : Option ℕ) → first_found (cond (is_among (y ∷ ys) x) o None) (rank_from next (cond (is_none o) (y ∷ left) left) x) ≡ cond (bytes_eq y x) (Some (unwrap_or o next)) (listed_with ys (numbers_of es m (cond (is_none o) (next + 1) next) ys) x)
    own here None =
        ap (λ (b : Bool). first_found (cond (b || is_among ys x) None None) (cond (bytes_eq y x) (Some next) (rank_from (next + 1) left x))) (same-turned x y ∙ here)
        ∙ ap (λ (b : Bool). cond b (Some next) (rank_from (next + 1) left x)) here
        ∙ sym (ap (λ (b : Bool). cond b (Some next) (listed_with ys (numbers_of es m (next + 1) ys) x)) here)
    own here (Some k) =
        ap (λ (b : Bool). first_found (cond (b || is_among ys x) (Some k) None) (rank_from next left x)) (same-turned x y ∙ here)
        ∙ sym (ap (λ (b : Bool). cond b (Some k) (listed_with ys (numbers_of es m next ys) x)) here)

    passed : bytes_eq y x ≡ false → (o : Option ℕ) → rank_from next (cond (is_none o) (y ∷ left) left) x ≡ rank_from (cond (is_none o) (next + 1) next) left x
    passed other None = ap (λ (b : Bool). cond b (Some next) (rank_from (next + 1) left x)) other
    passed other (Some k) = refl

-- Documents that come, and documents that stay.

document-come : (next m : ℕ) (names : List (List ℕ)) (x : List ℕ) → document_with (documents_from next m names) m x ≡ rank_from next names x
document-come next m [] x = refl
document-come next m (y ∷ ys) x =
    ap (λ (b : Bool). cond (b && bytes_eq y x) (Some next) (document_with (documents_from (next + 1) m ys) m x)) (eq-eqb m m refl)
    ∙ ap (λ (o : Option ℕ). cond (bytes_eq y x) (Some next) o) (document-come (next + 1) m ys x)

come-differ : (next m : ℕ) (names : List (List ℕ)) → IsStrictlySortedBy (slice_cmp nat_cmp) names → NamesDiffer (documents_from next m names)
unfolding IsStrictlySortedBy
come-differ next m [] rise = tt
come-differ next m (y ∷ ys) rise = (behind (next + 1) ys rise.0, come-differ (next + 1) m ys rise.1)
  where
    behind : (next : ℕ) (others : List (List ℕ)) → AllByRecursion (λ other. slice_cmp nat_cmp y other ≡ Less) others → child (documents_from next m others) m y ≡ None
    behind next [] h = refl
    behind next (other ∷ others) h =
        ap (λ (b : Bool). cond ((m == m) && b) (Some next) (child (documents_from (next + 1) m others) m y)) (same-turned other y ∙ apart-by Less refl y other h.0)
        ∙ ap (λ (b : Bool). cond b (Some next) (child (documents_from (next + 1) m others) m y)) (and_right (m == m) false refl)
        ∙ behind (next + 1) others h.1

document-joined : (es fs : List Entry) (m : ℕ) (x : List ℕ) → document_with (es ++ fs) m x ≡ first_found (document_with es m x) (document_with fs m x)
document-joined [] fs m x = refl
document-joined (e ∷ es) fs m x =
    ap (λ (o : Option ℕ). cond (is_document e.body && (e.parent == m && bytes_eq e.name x)) (Some e.number) o) (document-joined es fs m x)
    ∙ (elim (is_document e.body && (e.parent == m && bytes_eq e.name x)) as (λ b. cond b (Some e.number) (first_found (document_with es m x) (document_with fs m x)) ≡ first_found (cond b (Some e.number) (document_with es m x)) (document_with fs m x)) [ true ↦ refl | false ↦ refl ])

document-mapped : (edit : Body → Body) (es : List Entry) (m : ℕ) (x : List ℕ) → ((body : Body) → is_document (edit body) ≡ is_document body) → document_with (map (edited edit) es) m x ≡ document_with es m x
document-mapped edit [] m x same = refl
document-mapped edit (e ∷ es) m x same = λ i. cond (same e.body i && (e.parent == m && bytes_eq e.name x)) (Some e.number) (document-mapped edit es m x same i)

-- of those that stay it is the one that was there, if the list has its name
document-left : (es : List Entry) (m : ℕ) (list : List (List ℕ)) (x : List ℕ) → document_with (filter (λ e. not (is_gone m list e)) es) m x ≡ cond (is_among list x) (document_with es m x) None
document-left [] m list x = none (is_among list x)
  where
    nothing : Option ℕ
    nothing = None

    none : (b : Bool) → nothing ≡ cond b None None
    none true = refl
    none false = refl
document-left (e ∷ es) m list x =
    elim (is_document e.body && (e.parent == m && bytes_eq e.name x)) as (λ b. (is_document e.body && (e.parent == m && bytes_eq e.name x)) ≡ b → document_with (cond (not (is_gone m list e)) (e ∷ left) left) m x ≡ cond (is_among list x) (cond b (Some e.number) (document_with es m x)) None) [
      | true ↦ (λ here.
          let parts = and_parts (is_document e.body) (e.parent == m && bytes_eq e.name x) here in
          let inside = and_parts (e.parent == m) (bytes_eq e.name x) parts.1 in
          let gone : is_gone m list e ≡ not (is_among list x) =
          (λ i. parts.0 i && (inside.0 i && not (is_among list e.name))) ∙ ap (λ (y : List ℕ). not (is_among list y)) ((bytes_eq-Decides e.name x).0 inside.1) in
          ap (λ (b : Bool). document_with (cond (not b) (e ∷ left) left) m x) gone ∙ own here (document-left es m list x) (is_among list x) refl)
      | false ↦ (λ other. passed other (not (is_gone m list e)) ∙ document-left es m list x)
    ] refl
  where
    left : List Entry
    left = filter (λ e. not (is_gone m list e)) es

    own : (is_document e.body && (e.parent == m && bytes_eq e.name x)) ≡ true → (document_with left m x ≡ cond (is_among list x) (document_with es m x) None) → (a : Bool) → is_among list x ≡ a → document_with (cond (not (not a)) (e ∷ left) left) m x ≡ cond a (Some e.number) None
    own here rest true among = ap (λ (b : Bool). cond b (Some e.number) (document_with left m x)) here
    own here rest false among = rest ∙ ap (λ (b : Bool). cond b (document_with es m x) None) among

    passed : (is_document e.body && (e.parent == m && bytes_eq e.name x)) ≡ false → (b : Bool) → document_with (cond b (e ∷ left) left) m x ≡ document_with left m x
    passed other true = ap (λ (b : Bool). cond b (Some e.number) (document_with left m x)) other
    passed other false = refl

-- nothing but documents is in a mount
document-mount : (s : State) (m : ℕ) (x : List ℕ) → IsLayout s → is_mount_at s.entries m ≡ true → document_with s.entries m x ≡ child s.entries m x
document-mount s m x h there = at (child s.entries m x) refl
  where
    inside : (e : Entry) (k : ℕ) → entry_at s.entries k ≡ Some e → e.parent ≡ m → is_document e.body ≡ true
    inside e k found here = elim (is_document e.body) as (λ b. (if b then is_mount_at s.entries e.parent else is_holder_at s.entries e.parent) ≡ true → b ≡ true) [
      | true ↦ (λ _. refl)
      | false ↦ (λ holder.
          let plain : is_mount_at s.entries e.parent ≡ false = not-true (is_mount_at s.entries e.parent) (and_parts (is_directory_at s.entries e.parent) (not (is_mount_at s.entries e.parent)) holder).1 in
          sym plain ∙ ap (is_mount_at s.entries) here ∙ there)
    ] (entry_at-all (λ e. IsTrue (is_in_place s.entries e)) s.entries k e h.places found)

    at : (o : Option ℕ) → child s.entries m x ≡ o → document_with s.entries m x ≡ o
    at None none = document-none s.entries m x none
    at (Some k) found =
        let e = child-entry 0 s.entries s.next m k x h.numbers found in
        document-child 0 s.entries s.next m k x h.numbers h.differ found
        ∙ ap (λ (b : Bool). cond b (Some k) None) (ap (λ (o : Option Entry). option_map_or is_document (option_map (λ (e : Entry). e.body) o) false) e.1 ∙ inside e.0 k e.1 e.2)

-- what is answered in two ways
pub if_ok-same : {E : Type 0} (r : Result (List ℕ) E) {xs ys : List ℕ} → xs ≡ ys → IfOk r (λ numbers. numbers ≡ xs) → IfOk r (λ numbers. numbers ≡ ys)
if_ok-same (Ok numbers) same h = h ∙ same
if_ok-same (Err e) same h = h

-- A mount comes.

-- entries that aren't documents of the mount count for nothing
named-behind : (es fs : List Entry) (m : ℕ) (names : List (List ℕ)) → AllByRecursion (λ e. (is_document e.body && e.parent == m) ≡ false) es → named_in (es ++ fs) m names ≡ named_in fs m names
named-behind [] fs m names h = refl
named-behind (e ∷ es) fs m names h =
    ap (λ (b : Bool). map (λ (e : Entry). e.number) (cond b (e ∷ filter (λ e. is_document e.body && (e.parent == m && is_among names e.name)) (es ++ fs)) (filter (λ e. is_document e.body && (e.parent == m && is_among names e.name)) (es ++ fs)))) (never (is_document e.body) (e.parent == m) h.0)
    ∙ named-behind es fs m names h.1
  where
    never : (d p : Bool) → (d && p) ≡ false → (d && (p && is_among names e.name)) ≡ false
    never false p h = refl
    never true false h = refl
    never true true h = absurd cc

-- nothing is in the number that is next
none-next : (s : State) → IsLayout s → AllByRecursion (λ e. (e.parent == s.next) ≡ false) s.entries
none-next s h = all-weaker (λ e. IsTrue (is_in_place s.entries e)) (λ e. (e.parent == s.next) ≡ false) s.entries
    (λ e there. ne_eqb e.parent s.next (λ same. let below : e.parent < s.next = directory-below s e.parent h (place-directory s.entries e there) in omega (arith, same, below))) h.places

child-never : (es : List Entry) (m : ℕ) (x : List ℕ) → AllByRecursion (λ e. (e.parent == m) ≡ false) es → child es m x ≡ None
child-never [] m x h = refl
child-never (e ∷ es) m x h = ap (λ (b : Bool). cond (b && bytes_eq e.name x) (Some e.number) (child es m x)) h.0 ∙ child-never es m x h.1

filter-all : (p : List ℕ → Bool) (xs : List (List ℕ)) → ((x : List ℕ) → p x ≡ true) → filter p xs ≡ xs
filter-all p [] h = refl
filter-all p (x ∷ xs) h = ap (λ (b : Bool). cond b (x ∷ filter p xs) (filter p xs)) (h x) ∙ ap (λ (ys : List (List ℕ)). x ∷ ys) (filter-all p xs h)

pub mounted-numbered : (s : State) (dir : ℕ) (name space : List ℕ) (list names : List (List ℕ)) → IsLayout s → AreRisingNames list →
    numbered_by (listed_with list (numbers_of s.entries s.next (s.next + 1) list)) [] names ≡ documents_named (mounted s dir name space [] list) s.next names
mounted-numbered s dir name space list names h rise =
    numbered-named 0 come (s.next + 1 + length list) s.next (listed_with list (numbers_of s.entries s.next (s.next + 1) list))
    (numbers-documents 0 [] (s.next + 1) s.next list (omega arith)) (come-differ (s.next + 1) s.next list rise.rising) finds names
    ∙ sym (named-behind (s.entries ++ mount ∷ []) come s.next names
    (all-joined (λ e. (is_document e.body && e.parent == s.next) ≡ false) s.entries (mount ∷ [])
    (all-weaker (λ e. (e.parent == s.next) ≡ false) (λ e. (is_document e.body && e.parent == s.next) ≡ false) s.entries (λ e other. and_right (is_document e.body) (e.parent == s.next) other) (none-next s h)) (refl, tt)))
  where
    come : List Entry
    come = documents_from (s.next + 1) s.next list

    mount : Entry
    mount = record { number = s.next; parent = dir; name = name; body = Mount space [] }

    never : (x : List ℕ) → child s.entries s.next x ≡ None
    never x = child-never s.entries s.next x (none-next s h)

    finds : (x : List ℕ) → listed_with list (numbers_of s.entries s.next (s.next + 1) list) x ≡ document_with come s.next x
    finds x =
        sym (listed-numbers s.entries s.next (s.next + 1) list x)
        ∙ (λ i. first_found (cond (is_among list x) (never x i) None) (rank_from (s.next + 1) (filter-all (λ y. is_none (child s.entries s.next y)) list (λ y. ap is_none (never y)) i) x))
        ∙ (elim (is_among list x) as (λ b. first_found (cond b None None) (rank_from (s.next + 1) list x) ≡ rank_from (s.next + 1) list x) [ true ↦ refl | false ↦ refl ])
        ∙ sym (document-come (s.next + 1) s.next list x)

-- A mount is synced.

redocumented-fits : (s : State) (m : ℕ) (list : List (List ℕ)) → IsLayout s → is_mount_at s.entries m ≡ true → AreRisingNames list → IsFitting (redocumented s m list)
redocumented-fits s m list h there rise =
    let parts = and_parts (list_all is_name list) (do_names_rise list) (names-rise list rise) in
    with_documents-fits (cleared (is_gone m list) s) m (fresh s m list) (cleared-fits (is_gone m list) s (gone-stays s m list) (layout-fits s h)) (cleared-mount s m list (layout-fits s h) there)
    (all-filter (λ name. is_name name ≡ true) (λ name. is_none (child s.entries m name)) list (all-tested is_name list parts.0))
    (rise-filter (λ name. is_none (child s.entries m name)) list parts.1)
    (fresh-free s m list)

named-changed : (n : ℕ) (edit : Body → Body) (es : List Entry) (m : ℕ) (names : List (List ℕ)) → ((body : Body) → is_document (edit body) ≡ is_document body) → named_in (changed_in n (edited edit) es) m names ≡ named_in es m names
named-changed n edit [] m names same = refl
named-changed n edit (e ∷ es) m names same =
    one (e.number == n) ∙ ap (λ (ns : List ℕ). cond (passes e) (e.number ∷ ns) ns) (named-changed n edit es m names same) ∙ sym (number-first (passes e) e (filter passes es))
  where
    passes : Entry → Bool
    passes e = is_document e.body && (e.parent == m && is_among names e.name)

    one : (b : Bool) → map (λ (e : Entry). e.number) (filter passes (cond b (edited edit e) e ∷ changed_in n (edited edit) es)) ≡ cond (passes e) (e.number ∷ named_in (changed_in n (edited edit) es) m names) (named_in (changed_in n (edited edit) es) m names)
    one false = number-first (passes e) e (filter passes (changed_in n (edited edit) es))
    one true =
        number-first (passes (edited edit e)) (edited edit e) (filter passes (changed_in n (edited edit) es))
        ∙ ap (λ (d : Bool). cond (d && (e.parent == m && is_among names e.name)) (e.number ∷ named_in (changed_in n (edited edit) es) m names) (named_in (changed_in n (edited edit) es) m names)) (same e.body)

pub synced-numbered : (s : State) (m : ℕ) (list names : List (List ℕ)) → IsLayout s → is_mount_at s.entries m ≡ true → AreRisingNames list →
    numbered_by (listed_with list (numbers_of s.entries m s.next list)) [] names ≡ documents_named (synced s m [] list) m names
synced-numbered s m list names h there rise =
    let fits = redocumented-fits s m list h there rise in
    numbered-named 0 (redocumented s m list).entries (redocumented s m list).next m (listed_with list (numbers_of s.entries m s.next list)) fits.numbers fits.differ finds names
    ∙ sym (named-changed m (keeping []) (redocumented s m list).entries m names (keeps-document (keeping []) (role-keeping [])))
  where
    forgets : Body → Body
    forgets = forgetting_such (is_such_at (is_gone m list) s.entries)

    left : List Entry
    left = filter (λ e. not (is_gone m list e)) s.entries

    come : List Entry
    come = documents_from s.next m (fresh s m list)

    finds : (x : List ℕ) → listed_with list (numbers_of s.entries m s.next list) x ≡ document_with (redocumented s m list).entries m x
    finds x =
        sym (listed-numbers s.entries m s.next list x)
        ∙ ap (λ (o : Option ℕ). first_found (cond (is_among list x) o None) (rank_from s.next (fresh s m list) x)) (sym (document-mount s m x h there))
        ∙ sym (document-joined (map (edited forgets) left) come m x
        ∙ (λ i. first_found ((document-mapped forgets left m x (keeps-document (forgetting_such (is_such_at (is_gone m list) s.entries)) (role-such (is_such_at (is_gone m list) s.entries))) ∙ document-left s.entries m list x) i) (document-come s.next m (fresh s m list) x i)))

-- The bare tree is asked as well.

pub named-bare : (s : State) (mount : ℕ) (names : List (List ℕ)) → documents_named s mount names ≡ documents_named (bare s) mount names
named-bare s mount names = each s.entries
  where
    passes : Entry → Bool
    passes e = is_document e.body && (e.parent == mount && is_among names e.name)

    each : (es : List Entry) → named_in es mount names ≡ named_in (map (edited bare_body) es) mount names
    each [] = refl
    each (e ∷ es) =
        number-first (passes e) e (filter passes es)
        ∙ (λ i. cond (sym (keeps-document bare_body role-bare e.body) i && (e.parent == mount && is_among names e.name)) (e.number ∷ each es i) (each es i))
        ∙ sym (number-first (passes (edited bare_body e)) (edited bare_body e) (filter passes (map (edited bare_body) es)))

-- where the trees are the same, so are the numbers
pub named-alike : (s t : State) (mount : ℕ) (names : List (List ℕ)) → bare s ≡ bare t → documents_named s mount names ≡ documents_named t mount names
named-alike s t mount names same = named-bare s mount names ∙ ap (λ (x : State). documents_named x mount names) same ∙ sym (named-bare t mount names)

pub mounted-named-bare : (s : State) (dir : ℕ) (name space : List ℕ) (list : List (List ℕ)) (mount : ℕ) (names : List (List ℕ)) → documents_named (mounted s dir name space [] list) mount names ≡ documents_named (mounted (bare s) dir name space [] list) mount names
mounted-named-bare s dir name space list mount names = named-alike (mounted s dir name space [] list) (mounted (bare s) dir name space [] list) mount names (mounted-bare s dir name space [] [] list)

pub synced-named-bare : (s : State) (mount : ℕ) (list : List (List ℕ)) (names : List (List ℕ)) → documents_named (synced s mount [] list) mount names ≡ documents_named (synced (bare s) mount [] list) mount names
synced-named-bare s mount list names = named-alike (synced s mount [] list) (synced (bare s) mount [] list) mount names (synced-bare s mount [] [] list)

pub mounted-named-alike : (s t : State) (dir : ℕ) (name space : List ℕ) (list names : List (List ℕ)) → bare s ≡ bare t → documents_named (mounted s dir name space [] list) s.next names ≡ documents_named (mounted t dir name space [] list) t.next names
mounted-named-alike s t dir name space list names same =
    mounted-named-bare s dir name space list s.next names
    ∙ ap (λ (x : State). documents_named (mounted x dir name space [] list) x.next names) same
    ∙ sym (mounted-named-bare t dir name space list t.next names)

pub synced-named-alike : (s t : State) (mount : ℕ) (list names : List (List ℕ)) → bare s ≡ bare t → documents_named (synced s mount [] list) mount names ≡ documents_named (synced t mount [] list) mount names
synced-named-alike s t mount list names same =
    synced-named-bare s mount list names
    ∙ ap (λ (x : State). documents_named (synced x mount [] list) mount names) same
    ∙ sym (synced-named-bare t mount list names)
