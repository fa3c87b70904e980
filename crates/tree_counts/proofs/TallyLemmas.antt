-- What a state counts for when entries come and go by the many.
use Rattle.std.proofs.Common.{◌≡◌, ℕ, zero, suc, ◌+◌, ◌≤◌, Bool, true, false, cond, List, [], ◌∷◌, ◌++◌, length, subst, refl, ap, sym, ◌∙◌, arith}
use Rattle.std.specs.Prelude.{◌==◌, ◌||◌, not, filter, if◌then◌else◌, IsTrue, Option, Some, None}
use Rattle.std.specs.List.{AllByRecursion}
use Rattle.std.specs.Option.{option_and_then}
use Rattle.std.proofs.lemmas.Bool.{and_parts, eqb-true, le-leb, leb-true, ne_eqb}
use Rattle.std.proofs.lemmas.List.Sums.{sum_by-append}
use Rattle.hac_model.specs.Tree.Limits.{are_paths_short, counts, file_bytes, has_short_path, long_paths, names_below}
use Rattle.hac_model.specs.Tree.Listing.{in_order, is_before, put_in_order}
use Rattle.hac_model.specs.Tree.Mounting.{documents_from, is_of_mount, without_such}
use Rattle.hac_model.specs.Tree.{ancestors, entry_at, is_directory, is_directory_at, is_dirty, is_document, is_file, is_holder_at, is_linkable, is_mount, is_mount_at, is_queried, is_symlink, lineage, path_of}
use Rattle.hac_model.specs.Tree.Valid.{IsLayout, NumbersRise, is_in_place}
use Rattle.hac_model.specs.declared.limits.TheConstants.{PATH_LIMIT}
use Rattle.hac_model.specs.declared.states.Answer.{Answer}
use Rattle.hac_model.specs.declared.states.Body.{Body}
use Rattle.hac_model.specs.declared.states.Body.TheVariants.{Mount, Document}
use Rattle.hac_model.specs.declared.states.Entry.{Entry}
use Rattle.hac_model.specs.declared.states.State.{State}
use Rattle.hac_model.proofs.ChangeLemmas.{all-filter, all-weaker, entry_at-filter as found-filter, is_kept, numbers-filter}
use Rattle.hac_model.proofs.CountLemmas.{measured, measured-cons, measured-removed, one_if}
use Rattle.hac_model.proofs.FittingLemmas.{all-passed}
use Rattle.hac_model.proofs.LimitLemmas.{limits-within}
use Rattle.hac_model.proofs.MountAskLemmas.{entry_at-filter, passing}
use Rattle.hac_model.proofs.MountLayoutLemmas.{all-tested, document-is, mount-found}
use Rattle.hac_model.proofs.PathLemmas.{ancestors_by, limit, lineage-is, path_of-deeper}
use Rattle.entry_counts.specs.Counting.{plus, share_of}
use Rattle.hac_model.proofs.MoveLemmas.{all_pass}

-- Measures of some of the entries.

pub measured-split : (f : Body → ℕ) (test : Entry → Bool) (es : List Entry) → measured f (filter (λ (e : Entry). not (test e)) es) + measured f (filter test es) ≡ measured f es
measured-split f test [] = omega arith
measured-split f test (e ∷ es) = elim (test e) as (λ b. measured f (cond (not b) (e ∷ filter (λ (e : Entry). not (test e)) es) (filter (λ (e : Entry). not (test e)) es)) + measured f (cond b (e ∷ filter test es) (filter test es)) ≡ measured f (e ∷ es)) [
  | true ↦ omega (arith, measured-cons f e (filter test es), measured-cons f e es, measured-split f test es)
  | false ↦ omega (arith, measured-cons f e (filter (λ (e : Entry). not (test e)) es), measured-cons f e es, measured-split f test es)
]

pub measured-append : (f : Body → ℕ) (xs ys : List Entry) → measured f (xs ++ ys) ≡ measured f xs + measured f ys
measured-append f xs ys = sum_by-append (λ (e : Entry). f e.body) xs ys

pub mount-is : (b : Body) → is_mount b ≡ true → (space : List ℕ) × (answers : List Answer) × (b ≡ Mount space answers)
mount-is (Mount space answers) is = (space, answers, refl)
mount-is other is = absurd cc

-- documents count for nothing, or each for one
pub documents-none : (f : Body → ℕ) (es : List Entry) → f Document ≡ 0 → AllByRecursion (λ (e : Entry). is_document e.body ≡ true) es → measured f es ≡ 0
documents-none f [] none all = refl
documents-none f (e ∷ es) none all =
    let one : f e.body ≡ 0 = ap f (document-is e.body all.0) ∙ none in
    omega (arith, measured-cons f e es, documents-none f es none all.1)

pub documents-each : (f : Body → ℕ) (es : List Entry) → f Document ≡ 1 → AllByRecursion (λ (e : Entry). is_document e.body ≡ true) es → measured f es ≡ length es
documents-each f [] one all = refl
documents-each f (e ∷ es) one all =
    let each : f e.body ≡ 1 = ap f (document-is e.body all.0) ∙ one in
    omega (arith, measured-cons f e es, documents-each f es one all.1)

-- new documents are documents
pub all-documents : (k m : ℕ) (xs : List (List ℕ)) → AllByRecursion (λ (e : Entry). is_document e.body ≡ true) (documents_from k m xs)
all-documents k m [] = tt
all-documents k m (x ∷ xs) = (refl, all-documents (k + 1) m xs)

-- Some of the entries, and their paths.

pub filter-both : (p q : Entry → Bool) (es : List Entry) → filter (λ (e : Entry). not (p e || q e)) es ≡ filter (λ (e : Entry). not (p e)) (filter (λ (e : Entry). not (q e)) es)
filter-both p q [] = refl
filter-both p q (e ∷ es) = elim (q e) as (λ b. cond (not (p e || b)) (e ∷ filter (λ (e : Entry). not (p e || q e)) es) (filter (λ (e : Entry). not (p e || q e)) es) ≡ filter (λ (e : Entry). not (p e)) (cond (not b) (e ∷ filter (λ (e : Entry). not (q e)) es) (filter (λ (e : Entry). not (q e)) es))) [
  | true ↦ (elim (p e) as (λ b. cond (not (b || true)) (e ∷ filter (λ (e : Entry). not (p e || q e)) es) (filter (λ (e : Entry). not (p e || q e)) es) ≡ filter (λ (e : Entry). not (p e)) (filter (λ (e : Entry). not (q e)) es)) [
    | true ↦ filter-both p q es
    | false ↦ filter-both p q es
  ])
  | false ↦ (elim (p e) as (λ b. cond (not (b || false)) (e ∷ filter (λ (e : Entry). not (p e || q e)) es) (filter (λ (e : Entry). not (p e || q e)) es) ≡ cond (not b) (e ∷ filter (λ (e : Entry). not (p e)) (filter (λ (e : Entry). not (q e)) es)) (filter (λ (e : Entry). not (p e)) (filter (λ (e : Entry). not (q e)) es))) [
    | true ↦ filter-both p q es
    | false ↦ ap (λ (fs : List Entry). e ∷ fs) (filter-both p q es)
  ])
]

module _ (test : Entry → Bool) (es : List Entry) (next : ℕ) (rise : NumbersRise 0 es next) where
  ancestors-left : (steps n : ℕ) → length (ancestors steps (filter test es) n) ≤ length (ancestors steps es n)
  ancestors-left zero n = omega arith
  ancestors-left (suc steps) n =
      subst (λ (o : Option Entry). length (ancestors_by steps (filter test es) o) ≤ length (ancestors_by steps es (entry_at es n))) (sym (entry_at-filter test 0 es next n rise))
      (elim (entry_at es n) as (λ o. length (ancestors_by steps (filter test es) (option_and_then (passing test) o)) ≤ length (ancestors_by steps es o)) [
        | None ↦ omega arith
        | Some e ↦ (elim (test e) as (λ b. length (ancestors_by steps (filter test es) (if b then Some e else None)) ≤ length (ancestors_by steps es (Some e))) [
          | true ↦ (let less = ancestors-left steps e.parent in omega (arith, less))
          | false ↦ omega arith
        ])
      ])

  fits-left : (e : Entry) → has_short_path es e ≡ true → has_short_path (filter test es) e ≡ true
  fits-left e short =
      le-leb (length (lineage (filter test es) e.number) + names_below e.body) PATH_LIMIT
      (omega (arith, ancestors-left (suc limit) e.number, ap length (lineage-is es e.number), ap length (lineage-is (filter test es) e.number), leb-true (length (lineage es e.number) + names_below e.body) PATH_LIMIT short))

  -- no path becomes longer where some are left
  pub paths-left : are_paths_short es ≡ true → are_paths_short (filter test es) ≡ true
  paths-left short =
      all_pass (has_short_path (filter test es)) (filter test es)
      (all-filter (λ e. has_short_path (filter test es) e ≡ true) test es (all-weaker (λ e. has_short_path es e ≡ true) (λ e. has_short_path (filter test es) e ≡ true) es fits-left (all-tested (has_short_path es) es short)))

-- A directory has as many children as entries that are in it.

put-length : (e : Entry) (es : List Entry) → length (put_in_order e es) ≡ 1 + length es
put-length e [] = refl
put-length e (x ∷ es) = elim (is_before e.name x.name) as (λ b. length (cond b (e ∷ x ∷ es) (x ∷ put_in_order e es)) ≡ 1 + length (x ∷ es)) [
  | true ↦ omega arith
  | false ↦ omega (arith, put-length e es)
]

pub order-length : (es : List Entry) → length (in_order es) ≡ length es
order-length [] = refl
order-length (e ∷ es) = omega (arith, put-length e (in_order es), order-length es)

-- A mount goes with its documents.

module _ (s : State) (h : IsLayout s) (mount : ℕ) (is : is_mount_at s.entries mount ≡ true) where
  -- what is in it are documents
  pub in-mount : AllByRecursion (λ (e : Entry). (e.parent == mount) ≡ true → is_document e.body ≡ true) s.entries
  in-mount = all-weaker (λ (e : Entry). IsTrue (is_in_place s.entries e)) (λ (e : Entry). (e.parent == mount) ≡ true → is_document e.body ≡ true) s.entries each h.places
    where
      each : (e : Entry) → is_in_place s.entries e ≡ true → (e.parent == mount) ≡ true → is_document e.body ≡ true
      each e place here = elim (is_document e.body) as (λ b. (if b then is_mount_at s.entries e.parent else is_holder_at s.entries e.parent) ≡ true → b ≡ true) [
        | true ↦ (λ place. refl)
        | false ↦ (λ place.
            let holder = and_parts (is_directory_at s.entries e.parent) (not (is_mount_at s.entries e.parent)) place in
            let own : is_mount_at s.entries e.parent ≡ true = ap (λ (d : ℕ). is_mount_at s.entries d) (eqb-true e.parent mount here) ∙ is in
            let never : false ≡ true = sym (ap not own) ∙ holder.1 in
            absurd cc)
      ] place

  pub inside-documents : AllByRecursion (λ (e : Entry). is_document e.body ≡ true) (filter (λ (e : Entry). e.parent == mount) s.entries)
  inside-documents = all-passed (λ (e : Entry). is_document e.body ≡ true) (λ (e : Entry). e.parent == mount) s.entries in-mount

  found : (e : Entry) × (entry_at s.entries mount ≡ Some e) × (is_mount e.body ≡ true)
  found = mount-found s.entries mount is

  abbrev pub count : ℕ
  count = length (filter (λ (e : Entry). e.parent == mount) s.entries)

  abbrev left : List Entry
  left = filter (is_kept mount) (filter (λ (e : Entry). not (e.parent == mount)) s.entries)

  outside : (found.0.parent == mount) ≡ false
  outside = ne_eqb found.0.parent mount (λ same.
      let deeper = path_of-deeper s mount found.0 h found.1 in
      let never = subst (λ (k : ℕ). length (path_of s mount) ≡ length (path_of s k) + 1) same deeper in
      omega arith)

  gone : (f : Body → ℕ) (space : List ℕ) (answers : List Answer) → found.0.body ≡ Mount space answers → measured f left + f (Mount space answers) + measured f (filter (λ (e : Entry). e.parent == mount) s.entries) ≡ measured f s.entries
  gone f space answers body =
      let one = measured-removed f mount 0 (filter (λ (e : Entry). not (e.parent == mount)) s.entries) s.next found.0 (numbers-filter (λ (e : Entry). not (e.parent == mount)) 0 s.entries s.next h.numbers) (found-filter (λ (e : Entry). not (e.parent == mount)) s.entries mount found.0 found.1 (ap not outside)) in
      let same : f found.0.body ≡ f (Mount space answers) = ap f body in
      omega (arith, one, measured-split f (λ (e : Entry). e.parent == mount) s.entries)

  pub counts-unmounted : plus (counts (without_such (is_of_mount mount) s)) (record (share_of (Mount [] [])) { items = count }) ≡ counts s
  counts-unmounted =
      let kind = mount-is found.0.body found.2 in
      let all = inside-documents in
      let entries : filter (λ (e : Entry). not (is_of_mount mount e)) s.entries ≡ left = filter-both (λ (e : Entry). e.number == mount) (λ (e : Entry). e.parent == mount) s.entries in
      let paths = (limits-within s h.limits).paths in
      let before : long_paths s.entries ≡ 0 = ap (λ (b : Bool). cond {A = ℕ} b 0 1) paths in
      let after : long_paths (filter (λ (e : Entry). not (is_of_mount mount e)) s.entries) ≡ 0 = ap (λ (b : Bool). cond {A = ℕ} b 0 1) (paths-left (λ (e : Entry). not (is_of_mount mount e)) s.entries s.next h.numbers paths) in
      let bytes : measured file_bytes left + 0 ≡ measured file_bytes s.entries = omega (arith, gone file_bytes kind.0 kind.1 kind.2, documents-none file_bytes (filter (λ (e : Entry). e.parent == mount) s.entries) refl all) in
      let directories : measured (one_if is_directory) left + 1 + 1 ≡ measured (one_if is_directory) s.entries + 1 = omega (arith, gone (one_if is_directory) kind.0 kind.1 kind.2, documents-none (one_if is_directory) (filter (λ (e : Entry). e.parent == mount) s.entries) refl all) in
      let semantics : measured (one_if is_queried) left + 0 ≡ measured (one_if is_queried) s.entries = omega (arith, gone (one_if is_queried) kind.0 kind.1 kind.2, documents-none (one_if is_queried) (filter (λ (e : Entry). e.parent == mount) s.entries) refl all) in
      let mounts : measured (one_if is_mount) left + 1 ≡ measured (one_if is_mount) s.entries = omega (arith, gone (one_if is_mount) kind.0 kind.1 kind.2, documents-none (one_if is_mount) (filter (λ (e : Entry). e.parent == mount) s.entries) refl all) in
      let symlinks : measured (one_if is_symlink) left + 0 ≡ measured (one_if is_symlink) s.entries = omega (arith, gone (one_if is_symlink) kind.0 kind.1 kind.2, documents-none (one_if is_symlink) (filter (λ (e : Entry). e.parent == mount) s.entries) refl all) in
      let files : measured (one_if is_file) left + 0 ≡ measured (one_if is_file) s.entries = omega (arith, gone (one_if is_file) kind.0 kind.1 kind.2, documents-none (one_if is_file) (filter (λ (e : Entry). e.parent == mount) s.entries) refl all) in
      let items : measured (one_if is_linkable) left + count ≡ measured (one_if is_linkable) s.entries = omega (arith, gone (one_if is_linkable) kind.0 kind.1 kind.2, documents-each (one_if is_linkable) (filter (λ (e : Entry). e.parent == mount) s.entries) refl all) in
      let dirty : measured (one_if is_dirty) left + 0 ≡ measured (one_if is_dirty) s.entries = omega (arith, gone (one_if is_dirty) kind.0 kind.1 kind.2, documents-none (one_if is_dirty) (filter (λ (e : Entry). e.parent == mount) s.entries) refl all) in
      let longs : long_paths (filter (λ (e : Entry). not (is_of_mount mount e)) s.entries) + 0 ≡ long_paths s.entries = omega arith in
      let same : s.next + 0 ≡ s.next = omega arith in
      (λ i. record {
        bytes = measured file_bytes (entries i) + 0;
        directories = measured (one_if is_directory) (entries i) + 1 + 1;
        semantics = measured (one_if is_queried) (entries i) + 0;
        mounts = measured (one_if is_mount) (entries i) + 1;
        symlinks = measured (one_if is_symlink) (entries i) + 0;
        files = measured (one_if is_file) (entries i) + 0;
        items = measured (one_if is_linkable) (entries i) + count;
        dirty = measured (one_if is_dirty) (entries i) + 0;
        long_paths = longs i;
        next = same i;
      }) ∙ (λ i. record {
        bytes = bytes i;
        directories = directories i;
        semantics = semantics i;
        mounts = mounts i;
        symlinks = symlinks i;
        files = files i;
        items = items i;
        dirty = dirty i;
        long_paths = long_paths s.entries;
        next = s.next;
      })
