-- The tree stays one where mounts come, are synced and go.
use Rattle.std.proofs.Common.{◌≡◌, ℕ, ◌+◌, ◌<◌, Bool, true, false, List, [], ◌∷◌, ◌++◌, length, subst, refl, ap, sym, ◌∙◌, arith, eq-eqb, inl, inr}
use Rattle.std.specs.Prelude.{◌&&◌, ◌||◌, ◌==◌, not, filter, if◌then◌else◌, nat_le, Option, Some, None, IsTrue, is_none}
use Rattle.std.specs.Option.{option_map, option_map_or}
use Rattle.std.specs.Cmp.Lexicographic.{nat_list_eq_equiv}
use Rattle.std.specs.List.{AllByRecursion, list_all}
use Rattle.std.specs.Str.{bytes_eq}
use Rattle.std.proofs.lemmas.Bool.{and_from, and_parts, and_right, eqb-true, ne_eqb, or_right}
use Rattle.hac_model.specs.Script.SpaceNames.{is_space_name}
use Rattle.hac_model.specs.Tree.Events.{added, is_free}
use Rattle.hac_model.specs.Tree.Limits.{passed_limit}
use Rattle.hac_model.specs.Tree.Listing.{is_before}
use Rattle.hac_model.specs.Tree.Mounting.{are_documents, cleared, do_names_rise, documents_from, forgetting_such, fresh, is_among, is_gone, is_of_mount, is_such_at, keeping, mounted, redocumented, synced, unmounted, with_documents, without_such}
use Rattle.hac_model.specs.Tree.Names.{is_name}
use Rattle.hac_model.specs.Tree.{body_at, child, entry_at, is_directory, is_directory_at, is_document, is_holder_at, is_mount, is_mount_at}
use Rattle.hac_model.specs.Tree.Valid.{IsLayout, IsSound, NamesDiffer, NumbersRise, is_in_place}
use Rattle.hac_model.specs.declared.limits.TheConstants.{DOCS_LIMIT}
use Rattle.hac_model.specs.declared.states.Answer.{Answer}
use Rattle.hac_model.specs.declared.states.Body.{Body}
use Rattle.hac_model.specs.declared.states.Body.TheVariants.{Dir, Semantic, Mount, Document}
use Rattle.hac_model.specs.declared.states.Entry.{Entry}
use Rattle.hac_model.specs.declared.states.State.{State}
use Rattle.hac_model.proofs.ChangeLemmas.{all-filter, all-joined, all-weaker, apart, child-filter, entry_at-filter, entry_at-new, first_apart}
use Rattle.hac_model.proofs.FittingLemmas.{IsFitting, LeavesDirectories, fitting-layout, layout-fits, mapped-fits, without-fits}
use Rattle.hac_model.proofs.MapLemmas.{child-mapped, test-mapped}
use Rattle.hac_model.proofs.TreeLemmas.{Lives, directory-lives, entry_at-all, entry_at-below, entry_at-next, entry_at-number, place-directory, place-same}
use Rattle.hac_model.proofs.ValidLemmas.{added-fits, edited-fits, free-parts, none_from}
use Rattle.hac_model.proofs.SuchLemmas.{such-sound}
use Rattle.hac_model.proofs.NameOrderLemmas.{before-differs}
use Rattle.hac_model.proofs.KindLemmas.{role-keeping, role-such, keeps-mount}

-- Names of documents.

pub all-tested : {X : Type 0} (p : X → Bool) (xs : List X) → list_all p xs ≡ true → AllByRecursion (λ x. p x ≡ true) xs
all-tested p [] h = tt
all-tested p (x ∷ xs) h = let parts = and_parts (p x) (list_all p xs) h in (parts.0, all-tested p xs parts.1)

-- what names of documents are
pub documents-parts : (names : List (List ℕ)) → are_documents names ≡ true → (AllByRecursion (λ name. is_name name ≡ true) names) × (do_names_rise names ≡ true) × (nat_le (length names) DOCS_LIMIT ≡ true)
documents-parts names h =
    let parts = and_parts (list_all is_name names) (do_names_rise names && nat_le (length names) DOCS_LIMIT) h in
    let more = and_parts (do_names_rise names) (nat_le (length names) DOCS_LIMIT) parts.1 in
    (all-tested is_name names parts.0, more.0, more.1)

-- some of rising names rise
pub rise-filter : (p : List ℕ → Bool) (names : List (List ℕ)) → do_names_rise names ≡ true → do_names_rise (filter p names) ≡ true
rise-filter p [] h = refl
rise-filter p (name ∷ names) h =
    let parts = and_parts (list_all (is_before name) names) (do_names_rise names) h in
    let rest = rise-filter p names parts.1 in
    elim (p name) as (λ b. do_names_rise (if b then name ∷ filter p names else filter p names) ≡ true) [
      | true ↦ and_from (list_all (is_before name) (filter p names)) (do_names_rise (filter p names)) (some names parts.0) rest
      | false ↦ rest
    ]
  where
    some : (others : List (List ℕ)) → list_all (is_before name) others ≡ true → list_all (is_before name) (filter p others) ≡ true
    some [] h = refl
    some (other ∷ others) h =
        let parts = and_parts (is_before name other) (list_all (is_before name) others) h in
        elim (p other) as (λ b. list_all (is_before name) (if b then other ∷ filter p others else filter p others) ≡ true) [
          | true ↦ and_from (is_before name other) (list_all (is_before name) (filter p others)) parts.0 (some others parts.1)
          | false ↦ some others parts.1
        ]

-- Documents come.

-- documents have no lower numbers than the first
documents-none : (next mount n : ℕ) (names : List (List ℕ)) → n < next → entry_at (documents_from next mount names) n ≡ None
documents-none next mount n [] low = refl
documents-none next mount n (name ∷ names) low =
    ap (λ (b : Bool). if b then Some (record { number = next; parent = mount; name = name; body = Document }) else entry_at (documents_from (next + 1) mount names) n) (ne_eqb next n (λ same. omega (arith, same, low)))
    ∙ documents-none (next + 1) mount n names (omega (arith, low))

-- so what has one is found as before
pub entry_at-documents : (es : List Entry) (next mount n : ℕ) (names : List (List ℕ)) → n < next → entry_at (es ++ documents_from next mount names) n ≡ entry_at es n
entry_at-documents [] next mount n names low = documents-none next mount n names low
entry_at-documents (e ∷ es) next mount n names low = ap (λ (o : Option Entry). if e.number == n then Some e else o) (entry_at-documents es next mount n names low)

documents-rise : (above next mount : ℕ) (names : List (List ℕ)) → above < next → NumbersRise above (documents_from next mount names) (next + length names)
documents-rise above next mount [] low = omega (arith, low)
documents-rise above next mount (name ∷ names) low =
    let same : next + 1 + length names ≡ next + length (name ∷ names) = omega arith in
    (low, subst (λ (k : ℕ). NumbersRise next (documents_from (next + 1) mount names) k) same (documents-rise next (next + 1) mount names (omega arith)))

pub numbers-documents : (above : ℕ) (es : List Entry) (next mount : ℕ) (names : List (List ℕ)) → NumbersRise above es next → NumbersRise above (es ++ documents_from next mount names) (next + length names)
numbers-documents above [] next mount names h = documents-rise above next mount names h
numbers-documents above (e ∷ es) next mount names h = (h.0, numbers-documents e.number es next mount names h.1)

-- what follows from each name follows for its document
pub all-documents : (P : Entry → Type 0) (Q : List ℕ → Type 0) (next mount : ℕ) (names : List (List ℕ)) → ((number : ℕ) (name : List ℕ) → Q name → P (record { number = number; parent = mount; name = name; body = Document })) → AllByRecursion Q names → AllByRecursion P (documents_from next mount names)
all-documents P Q next mount [] each h = tt
all-documents P Q next mount (name ∷ names) each h = (each next name h.0, all-documents P Q (next + 1) mount names each h.1)

-- a place that none of them takes
child-documents : (next mount : ℕ) (names : List (List ℕ)) (d : ℕ) (x : List ℕ) → AllByRecursion (λ name. (mount == d && bytes_eq name x) ≡ false) names → child (documents_from next mount names) d x ≡ None
child-documents next mount [] d x h = refl
child-documents next mount (name ∷ names) d x h =
    ap (λ (b : Bool). if b then Some next else child (documents_from (next + 1) mount names) d x) h.0 ∙ child-documents (next + 1) mount names d x h.1

documents-differ : (next mount : ℕ) (names : List (List ℕ)) → do_names_rise names ≡ true → NamesDiffer (documents_from next mount names)
documents-differ next mount [] rise = tt
documents-differ next mount (name ∷ names) rise =
    let parts = and_parts (list_all (is_before name) names) (do_names_rise names) rise in (
      child-documents (next + 1) mount names mount name (all-weaker (λ other. is_before name other ≡ true) (λ other. (mount == mount && bytes_eq other name) ≡ false) names
          (λ other before. and_right (mount == mount) (bytes_eq other name) (nat_list_eq_equiv.symm other name ∙ before-differs name other before)) (all-tested (is_before name) names parts.0)),
      documents-differ (next + 1) mount names parts.1,
    )

child-joined : (es fs : List Entry) (d : ℕ) (x : List ℕ) → child es d x ≡ None → child fs d x ≡ None → child (es ++ fs) d x ≡ None
child-joined [] fs d x h k = k
child-joined (e ∷ es) fs d x h k =
    let parts = first_apart (e.parent == d && bytes_eq e.name x) e.number (child es d x) h in
    ap (λ (b : Bool). if b then Some e.number else child (es ++ fs) d x) parts.0 ∙ child-joined es fs d x parts.1 k

differ-joined : (es fs : List Entry) → NamesDiffer es → NamesDiffer fs → AllByRecursion (λ e. child fs e.parent e.name ≡ None) es → NamesDiffer (es ++ fs)
differ-joined [] fs h k free = k
differ-joined (e ∷ es) fs h k free = (child-joined es fs e.parent e.name h.0 free.0, differ-joined es fs h.1 k free.1)

-- the entries take no place that is free
free-places : (es : List Entry) (next mount : ℕ) (names : List (List ℕ)) → AllByRecursion (λ name. child es mount name ≡ None) names → AllByRecursion (λ e. child (documents_from next mount names) e.parent e.name ≡ None) es
free-places [] next mount names free = tt
free-places (e ∷ es) next mount names free = (
  child-documents next mount names e.parent e.name (all-weaker (λ name. child (e ∷ es) mount name ≡ None) (λ name. (mount == e.parent && bytes_eq name e.name) ≡ false) names
      (λ name none. apart e.parent mount e.name name (first_apart (e.parent == mount && bytes_eq e.name name) e.number (child es mount name) none).0) free),
  free-places es next mount names (all-weaker (λ name. child (e ∷ es) mount name ≡ None) (λ name. child es mount name ≡ None) names
      (λ name none. (first_apart (e.parent == mount && bytes_eq e.name name) e.number (child es mount name) none).1) free),
)

-- an entry that passes a test has a lower number than the next one
pub tested-below : (s : State) (test : Body → Bool) (n : ℕ) → NumbersRise 0 s.entries s.next → option_map_or test (body_at s.entries n) false ≡ true → n < s.next
tested-below s test n rise h = below (entry_at s.entries n) refl h
  where
    below : (o : Option Entry) → entry_at s.entries n ≡ o → option_map_or test (option_map (λ (e : Entry). e.body) o) false ≡ true → n < s.next
    below None found h = absurd cc
    below (Some e) found h = entry_at-below 0 s.entries s.next n e rise found

directory-low : (s : State) (d : ℕ) → NumbersRise 0 s.entries s.next → is_directory_at s.entries d ≡ true → d < s.next
directory-low s d rise there = below (directory-lives s.entries d there)
  where
    below : Lives s.entries d → d < s.next
    below (inl root) = let more : 0 < s.next = positive 0 s.entries s.next rise in omega (arith, root, more)
      where
        positive : (above : ℕ) (es : List Entry) (next : ℕ) → NumbersRise above es next → above < next
        positive above [] next h = h
        positive above (e ∷ es) next h = let first : above < e.number = h.0 in let more : e.number < next = positive e.number es next h.1 in omega (arith, first, more)
    below (inr found) = entry_at-below 0 s.entries s.next d found.0 rise found.1

pub with_documents-fits : (s : State) (mount : ℕ) (names : List (List ℕ)) → IsFitting s → is_mount_at s.entries mount ≡ true → AllByRecursion (λ name. is_name name ≡ true) names → do_names_rise names ≡ true → AllByRecursion (λ name. child s.entries mount name ≡ None) names → IsFitting (with_documents s mount names)
with_documents-fits s mount names h there named rise free = record {
  numbers = numbers-documents 0 s.entries s.next mount names h.numbers;
  names = all-joined (λ e. IsTrue (is_name e.name)) s.entries come h.names (all-documents (λ e. IsTrue (is_name e.name)) (λ name. is_name name ≡ true) s.next mount names (λ number name is. is) named);
  places = all-joined (λ e. IsTrue (is_in_place (s.entries ++ come) e)) s.entries come
      (all-weaker (λ e. IsTrue (is_in_place s.entries e)) (λ e. IsTrue (is_in_place (s.entries ++ come) e)) s.entries
      (λ e in-place. place-same s.entries (s.entries ++ come) e (same e.parent (directory-low s e.parent h.numbers (place-directory s.entries e in-place))) ∙ in-place) h.places)
      (all-documents (λ e. IsTrue (is_in_place (s.entries ++ come) e)) (λ name. is_name name ≡ true) s.next mount names (λ number name is. mounted-there) named);
  differ = differ-joined s.entries come h.differ (documents-differ s.next mount names rise) (free-places s.entries s.next mount names free);
  bodies = all-joined (λ e. IsSound e.body) s.entries come h.bodies (all-documents (λ e. IsSound e.body) (λ name. is_name name ≡ true) s.next mount names (λ number name is. tt) named);
}
  where
    come : List Entry
    come = documents_from s.next mount names

    same : (n : ℕ) → n < s.next → entry_at (s.entries ++ come) n ≡ entry_at s.entries n
    same n low = entry_at-documents s.entries s.next mount n names low

    mounted-there : is_mount_at (s.entries ++ come) mount ≡ true
    mounted-there = ap (λ (o : Option Entry). option_map_or is_mount (option_map (λ (e : Entry). e.body) o) false) (same mount (tested-below s is_mount mount h.numbers there)) ∙ there

-- Edits of bodies.

keeping-sound : (answers : List Answer) (body : Body) → IsSound body → IsSound (keeping answers body)
keeping-sound answers (Mount space kept) h = h
keeping-sound answers other h = h

-- Entries go.

pub cleared-fits : (test : Entry → Bool) (s : State) → LeavesDirectories test s → IsFitting s → IsFitting (cleared test s)
cleared-fits test s stays h = mapped-fits (forgetting_such at) (without_such test s) (role-such at) (such-sound at) (without-fits test s stays h)
  where
    at : ℕ → Bool
    at = is_such_at test s.entries

-- no document is a directory
directory-document : (body : Body) → is_directory body ≡ true → is_document body ≡ false
directory-document Dir h = refl
directory-document (Semantic query permanent prohibited) h = refl
directory-document (Mount space answers) h = refl
directory-document other h = absurd cc

-- what is a directory isn't a document that is gone
pub gone-directory : (mount : ℕ) (names : List (List ℕ)) (x : Entry) → is_directory x.body ≡ true → is_gone mount names x ≡ false
gone-directory mount names x kind = ap (λ (b : Bool). b && (x.parent == mount && not (is_among names x.name))) (directory-document x.body kind)

pub gone-stays : (s : State) (mount : ℕ) (names : List (List ℕ)) → LeavesDirectories (is_gone mount names) s
gone-stays s mount names e x found left is kind = gone-directory mount names x kind

-- in a mount there is no directory
pub of_mount-stays : (s : State) (mount : ℕ) → IsFitting s → is_mount_at s.entries mount ≡ true → LeavesDirectories (is_of_mount mount) s
of_mount-stays s mount h there e x found left is kind = elim (x.number == mount) as (λ b. (x.number == mount) ≡ b → (b || x.parent == mount) ≡ false) [
  | true ↦ (λ here.
      let same : e.parent ≡ mount = sym (entry_at-number s.entries e.parent x is) ∙ eqb-true x.number mount here in
      let never : true ≡ false = sym (or_right (e.number == mount) (e.parent == mount) (eq-eqb e.parent mount same)) ∙ left in absurd cc)
  | false ↦ (λ _. elim (x.parent == mount) as (λ b. (x.parent == mount) ≡ b → b ≡ false) [
    | false ↦ (λ _. refl)
    | true ↦ (λ inside. let never : true ≡ false = sym (holder (eqb-true x.parent mount inside)) ∙ ap not there in absurd cc)
  ] refl)
] refl
  where
    -- what is a directory stands in a holder
    holder : x.parent ≡ mount → not (is_mount_at s.entries mount) ≡ true
    holder inside =
        let place = entry_at-all (λ e. IsTrue (is_in_place s.entries e)) s.entries e.parent x h.places is in
        let held : is_holder_at s.entries x.parent ≡ true = ap (λ (b : Bool). if b then is_mount_at s.entries x.parent else is_holder_at s.entries x.parent) (sym (directory-document x.body kind)) ∙ place in
        (and_parts (is_directory_at s.entries mount) (not (is_mount_at s.entries mount)) (ap (is_holder_at s.entries) (sym inside) ∙ held)).1

-- Mounts.

-- the new mount is one
pub added-mount : (s : State) (dir : ℕ) (name space : List ℕ) (answers : List Answer) → NumbersRise 0 s.entries s.next → is_mount_at (added s dir name (Mount space answers)).entries s.next ≡ true
added-mount s dir name space answers rise = ap (λ (o : Option Entry). option_map_or is_mount (option_map (λ (e : Entry). e.body) o) false) (entry_at-new s.entries (record { number = s.next; parent = dir; name = name; body = Mount space answers }) (entry_at-next 0 s.entries s.next s.next rise (omega arith)))

-- and empty
added-empty : (s : State) (dir : ℕ) (name : List ℕ) (body : Body) (x : List ℕ) → IsLayout s → is_directory_at s.entries dir ≡ true → child (added s dir name body).entries s.next x ≡ None
added-empty s dir name body x h there = each s.entries h.places
  where
    apart-from : (d : ℕ) → is_directory_at s.entries d ≡ true → (d == s.next) ≡ false
    apart-from d directory = ne_eqb d s.next (λ same. let low : d < s.next = directory-low s d h.numbers directory in omega (arith, same, low))

    each : (es : List Entry) → AllByRecursion (λ e. IsTrue (is_in_place s.entries e)) es → child (es ++ record { number = s.next; parent = dir; name = name; body = body } ∷ []) s.next x ≡ None
    each [] places = ap (λ (b : Bool). if b && bytes_eq name x then Some s.next else None) (apart-from dir there)
    each (e ∷ es) places =
        ap (λ (b : Bool). if b && bytes_eq e.name x then Some e.number else child (es ++ record { number = s.next; parent = dir; name = name; body = body } ∷ []) s.next x) (apart-from e.parent (place-directory s.entries e places.0)) ∙ each es places.1

pub mounted-layout : (s : State) (dir : ℕ) (name space : List ℕ) (answers : List Answer) (documents : List (List ℕ)) → IsLayout s → is_free s dir name ≡ true → is_space_name space ≡ true → are_documents documents ≡ true → passed_limit (mounted s dir name space answers documents) ≡ None → IsLayout (mounted s dir name space answers documents)
mounted-layout s dir name space answers documents h free spaced told limits =
    let parts = documents-parts documents told in
    fitting-layout (mounted s dir name space answers documents)
    (with_documents-fits (added s dir name (Mount space answers)) s.next documents
    (added-fits s dir name (Mount space answers) h free spaced refl)
    (added-mount s dir name space answers h.numbers) parts.0 parts.1
    (all-weaker (λ x. is_name x ≡ true) (λ x. child (added s dir name (Mount space answers)).entries s.next x ≡ None) documents (λ x named. added-empty s dir name (Mount space answers) x h (free-parts s dir name free).0) parts.0)) limits

-- the names that are fresh are those that the mount has no document of, also once some are gone
pub fresh-free : (s : State) (mount : ℕ) (documents : List (List ℕ)) → AllByRecursion (λ name. child (cleared (is_gone mount documents) s).entries mount name ≡ None) (fresh s mount documents)
fresh-free s mount documents = each documents
  where
    free : (name : List ℕ) → child s.entries mount name ≡ None → child (cleared (is_gone mount documents) s).entries mount name ≡ None
    free name none =
        child-mapped (forgetting_such (is_such_at (is_gone mount documents) s.entries)) (without_such (is_gone mount documents) s).entries mount name
        ∙ child-filter (λ e. not (is_gone mount documents e)) s.entries mount name none

    each : (names : List (List ℕ)) → AllByRecursion (λ name. child (cleared (is_gone mount documents) s).entries mount name ≡ None) (filter (λ name. is_none (child s.entries mount name)) names)
    each [] = tt
    each (name ∷ names) = elim (is_none (child s.entries mount name)) as (λ b. is_none (child s.entries mount name) ≡ b → AllByRecursion (λ name. child (cleared (is_gone mount documents) s).entries mount name ≡ None) (if b then name ∷ filter (λ name. is_none (child s.entries mount name)) names else filter (λ name. is_none (child s.entries mount name)) names)) [
      | true ↦ (λ none. (free name (none_from (child s.entries mount name) none), each names))
      | false ↦ (λ _. each names)
    ] refl

mount-body : (body : Body) → is_mount body ≡ true → is_directory body ≡ true
mount-body (Mount space answers) is = refl
mount-body other is = absurd cc

-- a mount stays one where documents go
pub cleared-mount : (s : State) (mount : ℕ) (documents : List (List ℕ)) → IsFitting s → is_mount_at s.entries mount ≡ true → is_mount_at (cleared (is_gone mount documents) s).entries mount ≡ true
cleared-mount s mount documents h there =
    test-mapped is_mount (forgetting_such at) (without_such (is_gone mount documents) s).entries mount (keeps-mount (forgetting_such at) (role-such at)) ∙ left
  where
    at : ℕ → Bool
    at = is_such_at (is_gone mount documents) s.entries

    left : is_mount_at (without_such (is_gone mount documents) s).entries mount ≡ true
    left = stays (entry_at s.entries mount) refl there
      where
        stays : (o : Option Entry) → entry_at s.entries mount ≡ o → option_map_or is_mount (option_map (λ (e : Entry). e.body) o) false ≡ true → is_mount_at (without_such (is_gone mount documents) s).entries mount ≡ true
        stays None found is = absurd cc
        stays (Some e) found is = ap (λ (o : Option Entry). option_map_or is_mount (option_map (λ (e : Entry). e.body) o) false) (entry_at-filter (λ e. not (is_gone mount documents e)) s.entries mount e found (ap not (gone-directory mount documents e (mount-body e.body is)))) ∙ is

pub redocumented-fits : (s : State) (mount : ℕ) (documents : List (List ℕ)) → IsLayout s → is_mount_at s.entries mount ≡ true → are_documents documents ≡ true → IsFitting (redocumented s mount documents)
redocumented-fits s mount documents h there told =
    let parts = documents-parts documents told in
    let left = cleared-fits (is_gone mount documents) s (gone-stays s mount documents) (layout-fits s h) in
    with_documents-fits (cleared (is_gone mount documents) s) mount (fresh s mount documents) left (cleared-mount s mount documents (layout-fits s h) there)
    (all-filter (λ name. is_name name ≡ true) (λ name. is_none (child s.entries mount name)) documents parts.0)
    (rise-filter (λ name. is_none (child s.entries mount name)) documents parts.1)
    (fresh-free s mount documents)

pub synced-layout : (s : State) (mount : ℕ) (answers : List Answer) (documents : List (List ℕ)) → IsLayout s → is_mount_at s.entries mount ≡ true → are_documents documents ≡ true → passed_limit (synced s mount answers documents) ≡ None → IsLayout (synced s mount answers documents)
synced-layout s mount answers documents h there told limits =
    fitting-layout (synced s mount answers documents) (edited-fits (redocumented s mount documents) mount (keeping answers) (role-keeping answers) (keeping-sound answers) (redocumented-fits s mount documents h there told)) limits

pub unmounted-layout : (s : State) (mount : ℕ) → IsLayout s → is_mount_at s.entries mount ≡ true → passed_limit (unmounted s mount) ≡ None → IsLayout (unmounted s mount)
unmounted-layout s mount h there limits =
    fitting-layout (unmounted s mount) (cleared-fits (is_of_mount mount) s (of_mount-stays s mount (layout-fits s h) there) (layout-fits s h)) limits

pub document-is : (b : Body) → is_document b ≡ true → b ≡ Document
document-is Document is = refl
document-is other is = absurd cc

-- the entry of a mount
pub mount-found : (es : List Entry) (mount : ℕ) → is_mount_at es mount ≡ true → (e : Entry) × (entry_at es mount ≡ Some e) × (is_mount e.body ≡ true)
mount-found es mount is = in_option (entry_at es mount) is
  where
    in_option : (o : Option Entry) → option_map_or is_mount (option_map (λ (e : Entry). e.body) o) false ≡ true → (e : Entry) × (o ≡ Some e) × (is_mount e.body ≡ true)
    in_option None is = absurd cc
    in_option (Some e) is = (e, refl, is)
