-- What a state counts for once a mount has more documents. No path becomes too long by them.
use Rattle.std.proofs.Common.{◌≡◌, ℕ, zero, suc, ◌+◌, ◌<◌, ◌≤◌, Bool, true, false, cond, List, [], ◌∷◌, ◌++◌, length, refl, ap, sym, ◌∙◌, arith}
use Rattle.std.specs.Prelude.{◌&&◌, not, nat_le, Some, None, IsTrue}
use Rattle.std.specs.List.{AllByRecursion, list_all}
use Rattle.std.proofs.lemmas.Bool.{and_from, le-leb, leb-true}
use Rattle.std.proofs.lemmas.List.{length-take}
use Rattle.std.proofs.lemmas.List.Folds.{list_all-append}
use Rattle.hac_model.specs.Tree.Events.{added}
use Rattle.hac_model.specs.Tree.Limits.{are_paths_short, counts, file_bytes, has_short_path, names_below}
use Rattle.hac_model.specs.Tree.Mounting.{documents_from, mounted, with_documents}
use Rattle.hac_model.specs.Tree.{ancestors, entry_at, is_directory, is_directory_at, is_dirty, is_file, is_linkable, is_mount, is_mount_at, is_queried, is_symlink, lineage}
use Rattle.hac_model.specs.Tree.Valid.{IsLayout, NumbersRise, is_in_place}
use Rattle.hac_model.specs.declared.counts.Counts.{Counts}
use Rattle.hac_model.specs.declared.limits.TheConstants.{PATH_LIMIT}
use Rattle.hac_model.specs.declared.states.Answer.{Answer}
use Rattle.hac_model.specs.declared.states.Body.{Body}
use Rattle.hac_model.specs.declared.states.Body.TheVariants.{Document, Mount}
use Rattle.hac_model.specs.declared.states.Entry.{Entry}
use Rattle.hac_model.specs.declared.states.State.{State}
use Rattle.hac_model.proofs.ChangeLemmas.{all-append, all-weaker, numbers-append}
use Rattle.hac_model.proofs.CountLemmas.{measured, one_if}
use Rattle.hac_model.proofs.MountLayoutLemmas.{added-mount, all-tested, entry_at-documents, mount-found, numbers-documents}
use Rattle.hac_model.proofs.PathLemmas.{ancestors-step, ancestors-taken, ancestors_by, limit, lineage-is}
use Rattle.hac_model.proofs.TreeLemmas.{all-entries, entry_at-all, entry_at-below, entry_at-number, place-directory}
use Rattle.hac_model.proofs.ValidLemmas.{directory-below}
use Rattle.entry_counts.specs.Counting as counting
use Rattle.entry_counts.specs.Counting.{plus, share_of}
use Rattle.entry_counts.proofs.CountingLemmas.{counts-added, long-told}
use Rattle.tree_nodes.proofs.OverLemmas.{long}
use Rattle.tree_counts.proofs.TallyLemmas.{all-documents, documents-each, documents-none, measured-append}

all-behind : (P : Entry → Type 0) (es fs : List Entry) → AllByRecursion P (es ++ fs) → AllByRecursion P fs
all-behind P [] fs all = all
all-behind P (e ∷ es) fs all = all-behind P es fs all.1

-- entries are in what has lower numbers than the next one
pub parents-low : (s : State) → IsLayout s → AllByRecursion (λ (e : Entry). e.parent < s.next) s.entries
parents-low s h = all-weaker (λ (e : Entry). IsTrue (is_in_place s.entries e)) (λ (e : Entry). e.parent < s.next) s.entries (λ e place. directory-below s e.parent h (place-directory s.entries e place)) h.places

module _ (s : State) (rise : NumbersRise 0 s.entries s.next) (low : AllByRecursion (λ (e : Entry). e.parent < s.next) s.entries) (mount : ℕ) (is : is_mount_at s.entries mount ≡ true) (xs : List (List ℕ)) where
  abbrev documents : List Entry
  documents = documents_from s.next mount xs

  abbrev all : List Entry
  all = s.entries ++ documents

  -- what is above an entry stays
  front : (steps n : ℕ) → n < s.next → ancestors steps all n ≡ ancestors steps s.entries n
  front zero n below = refl
  front (suc steps) n below =
      ap (ancestors_by steps all) (entry_at-documents s.entries s.next mount n xs below)
      ∙ (elim (entry_at s.entries n) as (λ o. entry_at s.entries n ≡ o → ancestors_by steps all o ≡ ancestors_by steps s.entries o) [
        | None ↦ (λ found. refl)
        | Some e ↦ (λ found. ap (λ (above : List Entry). e ∷ above) (front steps e.parent (entry_at-all (λ (e : Entry). e.parent < s.next) s.entries n e low found)))
      ] refl)

  lineage-same : (n : ℕ) → n < s.next → lineage all n ≡ lineage s.entries n
  lineage-same n below = lineage-is all n ∙ front (suc limit) n below ∙ sym (lineage-is s.entries n)

  fits-same : (e : Entry) → entry_at s.entries e.number ≡ Some e → has_short_path all e ≡ has_short_path s.entries e
  fits-same e found = ap (λ (es : List Entry). nat_le (length es + names_below e.body) PATH_LIMIT) (lineage-same e.number (entry_at-below 0 s.entries s.next e.number e rise found))

  -- a mount whose path is short has room for a name
  mount-room : are_paths_short s.entries ≡ true → length (lineage all mount) + 1 ≤ PATH_LIMIT
  mount-room short =
      let (m, found, kind) = mount-found s.entries mount is in
      let number : m.number ≡ mount = entry_at-number s.entries mount m found in
      let fits : has_short_path s.entries m ≡ true = entry_at-all (λ e. has_short_path s.entries e ≡ true) s.entries mount m (all-tested (has_short_path s.entries) s.entries short) found in
      let same : length (lineage all mount) ≡ length (lineage s.entries m.number) = ap length (lineage-same mount (entry_at-below 0 s.entries s.next mount m rise found)) ∙ ap (λ (k : ℕ). length (lineage s.entries k)) (sym number) in
      omega (arith, same, leb-true (length (lineage s.entries m.number) + names_below m.body) PATH_LIMIT fits, ap (λ (b : Bool). cond {A = ℕ} b 1 0) kind)

  -- so what comes into it fits
  abbrev Fits : Entry → Type 0
  Fits e = e.parent ≡ mount → is_mount e.body ≡ false → has_short_path all e ≡ true

  new-fits : are_paths_short s.entries ≡ true → (e : Entry) → entry_at all e.number ≡ Some e → Fits e
  new-fits short e found inside leaf =
      let up : length (lineage all e.number) ≡ length (e ∷ ancestors limit all mount) = ap length (lineage-is all e.number ∙ ancestors-step limit all e.number e found ∙ ap (λ (d : ℕ). e ∷ ancestors limit all d) inside) in
      let above : length (ancestors limit all mount) ≤ length (lineage all mount) = omega (arith, ap length (ancestors-taken limit all mount), length-take limit (ancestors (suc limit) all mount), ap length (lineage-is all mount)) in
      le-leb (length (lineage all e.number) + names_below e.body) PATH_LIMIT (omega (arith, up, above, mount-room short, ap (λ (b : Bool). cond {A = ℕ} b 1 0) leaf))

  paths-documents : are_paths_short all ≡ are_paths_short s.entries
  paths-documents =
      list_all-append (has_short_path all) s.entries documents
      ∙ ap (λ (b : Bool). b && list_all (has_short_path all) documents) (old s.entries (all-entries (λ e. has_short_path all e ≡ has_short_path s.entries e) 0 s.entries s.next rise fits-same))
      ∙ (elim (are_paths_short s.entries) as (λ b. are_paths_short s.entries ≡ b → (b && list_all (has_short_path all) documents) ≡ b) [
        | true ↦ (λ short. each s.next xs (all-behind Fits s.entries documents (all-entries Fits 0 all (s.next + length xs) (numbers-documents 0 s.entries s.next mount xs rise) (new-fits short))))
        | false ↦ (λ long. refl)
      ] refl)
    where
      old : (es : List Entry) → AllByRecursion (λ e. has_short_path all e ≡ has_short_path s.entries e) es → list_all (has_short_path all) es ≡ list_all (has_short_path s.entries) es
      old [] same = refl
      old (e ∷ es) same = λ i. same.0 i && old es same.1 i

      each : (k : ℕ) (names : List (List ℕ)) → AllByRecursion Fits (documents_from k mount names) → list_all (has_short_path all) (documents_from k mount names) ≡ true
      each k [] fits = refl
      each k (name ∷ names) fits = and_from (has_short_path all (record { number = k; parent = mount; name = name; body = Document })) (list_all (has_short_path all) (documents_from (k + 1) mount names)) (fits.0 refl refl) (each (k + 1) names fits.1)

  -- they are items, and take numbers
  pub counts-documents : counts (with_documents s mount xs) ≡ record (counts s) { items = (counts s).items + length xs; next = (counts s).next + length xs }
  counts-documents =
      let new = all-documents s.next mount xs in
      let same : (f : Body → ℕ) → f Document ≡ 0 → measured f all ≡ measured f s.entries = λ f none. omega (arith, measured-append f s.entries documents, documents-none f documents none new) in
      let items : measured (one_if is_linkable) all ≡ measured (one_if is_linkable) s.entries + length xs = omega (arith, measured-append (one_if is_linkable) s.entries documents, documents-each (one_if is_linkable) documents refl new, long s.next mount xs) in
      λ i. record {
        bytes = same file_bytes refl i;
        directories = same (one_if is_directory) refl i + 1;
        semantics = same (one_if is_queried) refl i;
        mounts = same (one_if is_mount) refl i;
        symlinks = same (one_if is_symlink) refl i;
        files = same (one_if is_file) refl i;
        items = items i;
        dirty = same (one_if is_dirty) refl i;
        long_paths = cond {A = ℕ} (paths-documents i) 0 1;
        next = s.next + length xs;
      }

-- A mount comes with its documents.

module _ (s : State) (h : IsLayout s) (dir : ℕ) (directory : is_directory_at s.entries dir ≡ true) (name space : List ℕ) (answers : List Answer) (xs : List (List ℕ)) (short : Bool) where
  abbrev body : Body
  body = Mount space answers

  abbrev new : Entry
  new = record { number = s.next; parent = dir; name = name; body = body }

  abbrev deep : ℕ
  deep = counting.one_if (not short)

  low-parents : AllByRecursion (λ (e : Entry). e.parent < s.next + 1) (s.entries ++ new ∷ [])
  low-parents =
      let below : dir < s.next = directory-below s dir h directory in
      all-append (λ (e : Entry). e.parent < s.next + 1) s.entries new (all-weaker (λ (e : Entry). e.parent < s.next) (λ (e : Entry). e.parent < s.next + 1) s.entries (λ e less. omega (arith, less)) (parents-low s h)) (omega (arith, below))

  pub counts-mounted : short ≡ are_paths_short (added s dir name body).entries → counts (mounted s dir name space answers xs) ≡ plus (counts s) (record (share_of body) { items = length xs; long_paths = deep; next = 1 + length xs })
  counts-mounted same =
      let items : (counts s).items + 0 + length xs ≡ (counts s).items + length xs = omega arith in
      let next : s.next + 1 + length xs ≡ s.next + (1 + length xs) = omega arith in
      counts-documents (added s dir name body) (numbers-append 0 s.entries new s.next h.numbers refl) low-parents s.next (added-mount s dir name space answers h.numbers) xs
      ∙ ap (λ (c : Counts). record c { items = c.items + length xs; next = c.next + length xs }) (counts-added s h dir name body deep (long-told (added s dir name body).entries short same))
      ∙ (λ i. record (plus (counts s) (record (share_of body) { long_paths = deep; next = 1 })) { items = items i; next = next i })
