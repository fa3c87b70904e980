-- What a state counts for once a mount has other documents.
use Rattle.std.proofs.Common.{◌≡◌, ℕ, ◌+◌, ◌-◌, ◌<◌, ◌≤◌, Bool, true, false, cond, List, [], ◌∷◌, length, refl, ap, sym, ◌∙◌, arith}
use Rattle.std.specs.Prelude.{◌==◌, ◌&&◌, not, filter, Option}
use Rattle.std.specs.List.{AllByRecursion}
use Rattle.std.specs.Option.{option_map, option_map_or}
use Rattle.std.proofs.lemmas.Bool.{and_parts}
use Rattle.std.proofs.lemmas.List.{length-map}
use Rattle.hac_model.specs.Tree.Limits.{are_paths_short, counts, file_bytes}
use Rattle.hac_model.specs.Tree.Mounting.{do_names_rise, fresh, is_among, is_gone, with_documents, without_such}
use Rattle.hac_model.specs.Tree.{is_directory, is_dirty, is_document, is_file, is_linkable, is_mount, is_mount_at, is_queried, is_symlink}
use Rattle.hac_model.specs.Tree.Valid.{IsLayout}
use Rattle.hac_model.specs.declared.states.Body.{Body}
use Rattle.hac_model.specs.declared.states.Body.TheVariants.{Document}
use Rattle.hac_model.specs.declared.states.Entry.{Entry}
use Rattle.hac_model.specs.declared.states.State.{State}
use Rattle.hac_model.proofs.ChangeLemmas.{all-filter, entry_at-filter, numbers-filter}
use Rattle.hac_model.proofs.CountLemmas.{measured, one_if}
use Rattle.hac_model.proofs.FittingLemmas.{all-passed}
use Rattle.hac_model.proofs.LimitLemmas.{limits-within}
use Rattle.tree_counts.proofs.DeepLemmas.{counts-documents, parents-low}
use Rattle.tree_counts.proofs.SwapLemmas.{gone-and-new, names_in}
use Rattle.tree_counts.proofs.TallyLemmas.{documents-each, documents-none, in-mount, inside-documents, measured-split, mount-is, paths-left}
use Rattle.hac_model.proofs.MountLayoutLemmas.{mount-found}

module _ (s : State) (h : IsLayout s) (mount : ℕ) (is : is_mount_at s.entries mount ≡ true) (xs : List (List ℕ)) where
  abbrev gone : List Entry
  gone = filter (is_gone mount xs) s.entries

  abbrev left : State
  left = without_such (is_gone mount xs) s

  abbrev come : List (List ℕ)
  come = fresh s mount xs

  abbrev stays : Entry → Bool
  stays e = not (is_gone mount xs e)

  mount-stays : is_mount_at left.entries mount ≡ true
  mount-stays =
      let (m, found, kind) = mount-found s.entries mount is in
      let (space, answers, body) = mount-is m.body kind in
      let kept : is_gone mount xs m ≡ false = ap (λ (b : Body). is_document b && ((m.parent == mount) && not (is_among xs m.name))) body in
      ap (λ (o : Option Entry). option_map_or is_mount (option_map (λ (e : Entry). e.body) o) false) (entry_at-filter stays s.entries mount m found (ap not kept)) ∙ kind

  -- documents go, and no path becomes longer
  gone-documents : AllByRecursion (λ (e : Entry). is_document e.body ≡ true) gone
  gone-documents = all-passed (λ (e : Entry). is_document e.body ≡ true) (is_gone mount xs) s.entries (each s.entries)
    where
      each : (es : List Entry) → AllByRecursion (λ (e : Entry). is_gone mount xs e ≡ true → is_document e.body ≡ true) es
      each [] = tt
      each (e ∷ es) = ((λ goes. (and_parts (is_document e.body) ((e.parent == mount) && not (is_among xs e.name)) goes).0), each es)

  counts-left : counts left ≡ record (counts s) { items = measured (one_if is_linkable) left.entries }
  counts-left =
      let same : (f : Body → ℕ) → f Document ≡ 0 → measured f left.entries ≡ measured f s.entries = λ f none. omega (arith, measured-split f (is_gone mount xs) s.entries, documents-none f gone none gone-documents) in
      let before : are_paths_short s.entries ≡ true = (limits-within s h.limits).paths in
      let after : are_paths_short left.entries ≡ true = paths-left stays s.entries s.next h.numbers before in
      λ i. record {
        bytes = same file_bytes refl i;
        directories = same (one_if is_directory) refl i + 1;
        semantics = same (one_if is_queried) refl i;
        mounts = same (one_if is_mount) refl i;
        symlinks = same (one_if is_symlink) refl i;
        files = same (one_if is_file) refl i;
        items = measured (one_if is_linkable) left.entries;
        dirty = same (one_if is_dirty) refl i;
        long_paths = cond {A = ℕ} ((after ∙ sym before) i) 0 1;
        next = s.next;
      }

  -- Its documents, before and after.

  abbrev pub were : ℕ
  were = length (filter (λ (e : Entry). e.parent == mount) s.entries)

  -- they are items
  pub were-items : were ≤ measured (one_if is_linkable) s.entries
  were-items = omega (arith, documents-each (one_if is_linkable) (filter (λ (e : Entry). e.parent == mount) s.entries) refl (inside-documents s h mount is), measured-split (one_if is_linkable) (λ (e : Entry). e.parent == mount) s.entries)

  pub counts-synced : do_names_rise xs ≡ true → counts (with_documents left mount come) ≡ record (counts s) { items = (counts s).items - were + length xs; next = (counts s).next + length come }
  counts-synced rise =
      let swap : length gone + length xs ≡ length (names_in mount s.entries) + length come = gone-and-new mount xs s.entries h.differ rise (in-mount s h mount is) in
      let names : length (names_in mount s.entries) ≡ were = length-map (filter (λ (e : Entry). e.parent == mount) s.entries) (λ (e : Entry). e.name) in
      let items : measured (one_if is_linkable) left.entries + length come ≡ measured (one_if is_linkable) s.entries - were + length xs =
      omega (arith, measured-split (one_if is_linkable) (is_gone mount xs) s.entries, documents-each (one_if is_linkable) gone refl gone-documents, swap, names, were-items) in
      counts-documents left (numbers-filter stays 0 s.entries s.next h.numbers) (all-filter (λ (e : Entry). e.parent < s.next) stays s.entries (parents-low s h)) mount mount-stays come
      ∙ (λ i. record (counts-left i) { items = items i; next = s.next + length come })
