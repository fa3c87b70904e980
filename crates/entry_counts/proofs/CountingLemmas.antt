-- How the counts of a state change with it.
use Rattle.std.proofs.Common.{◌≡◌, ℕ, ◌+◌, ◌≤◌, Bool, true, false, cond, List, [], ◌∷◌, ◌++◌, length, refl, ap, sym, ◌∙◌, arith}
use Rattle.std.specs.Prelude.{max, Option, Some, None, not, filter, IsTrue}
use Rattle.std.specs.Option.{option_and_then, option_map, option_map_or}
use Rattle.std.proofs.lemmas.Bool.Decides.{nat_tests}
use Rattle.hac_model.specs.Tree.Events.{added, changed_in, changed_at, edited, removed, reseated}
use Rattle.hac_model.specs.Tree.Limits.{are_paths_short, counts, long_paths, passed_limit, file_bytes}
use Rattle.hac_model.specs.Tree.Links.{shown_of}
use Rattle.hac_model.specs.Tree.{is_queried, body_at, entry_at, is_directory, is_dirty, is_file, is_linkable, is_mount, is_symlink, shown_text, text_in}
use Rattle.hac_model.specs.Tree.Valid.{IsLayout}
use Rattle.hac_model.specs.declared.counts.Counts.{Counts}
use Rattle.hac_model.specs.declared.states.Body.{Body}
use Rattle.hac_model.specs.declared.states.Body.TheVariants as body
use Rattle.hac_model.specs.declared.states.Entry.{Entry}
use Rattle.hac_model.specs.declared.states.State.{State}
use Rattle.hac_model.proofs.ChangeLemmas.{is_kept}
use Rattle.hac_model.proofs.CountLemmas.{measured, measured-added, measured-changed, measured-cons, measured-removed, measured-reseated, one_if}
use Rattle.hac_model.proofs.DepthLemmas.{paths-edited}
use Rattle.hac_model.proofs.LimitLemmas.{IsWithinLimits, limits-within, most-dirs, most-mounts, most-numbers, most-symlinks}
use Rattle.entry_counts.specs.Counting as counting
use Rattle.entry_counts.specs.Counting.{AreSmall, plus, share_of}
use Rattle.hac_model.proofs.KindLemmas.{KeepsRole, keeps-mount}

-- the counts of entries, each by a measure of bodies
abbrev pub tally : List Entry → ℕ → ℕ → Counts
tally es long next = record {
  bytes = measured file_bytes es;
  directories = measured (one_if is_directory) es + 1;
  semantics = measured (one_if is_queried) es;
  mounts = measured (one_if is_mount) es;
  symlinks = measured (one_if is_symlink) es;
  files = measured (one_if is_file) es;
  items = measured (one_if is_linkable) es;
  dirty = measured (one_if is_dirty) es;
  long_paths = long;
  next = next;
}

abbrev pub new_entry : State → ℕ → List ℕ → Body → Entry
new_entry s dir name new = record { number = s.next; parent = dir; name = name; body = new }

-- no path is long where no limit is passed
pub long-none : (s : State) → passed_limit s ≡ None → long_paths s.entries ≡ 0
long-none s within = let limits : IsWithinLimits s = limits-within s within in ap (λ (b : Bool). cond {A = ℕ} b 0 1) limits.paths

module _ (s : State) (h : IsLayout s) where
  -- an entry more
  pub counts-added : (dir : ℕ) (name : List ℕ) (new : Body) (long : ℕ) → long_paths (added s dir name new).entries ≡ long →
      counts (added s dir name new) ≡ plus (counts s) (record (share_of new) { long_paths = long; next = 1 })
  counts-added dir name new long told = λ i. record {
    bytes = measured-added file_bytes s.entries (new_entry s dir name new) i;
    directories = more i;
    semantics = measured-added (one_if is_queried) s.entries (new_entry s dir name new) i;
    mounts = measured-added (one_if is_mount) s.entries (new_entry s dir name new) i;
    symlinks = measured-added (one_if is_symlink) s.entries (new_entry s dir name new) i;
    files = measured-added (one_if is_file) s.entries (new_entry s dir name new) i;
    items = measured-added (one_if is_linkable) s.entries (new_entry s dir name new) i;
    dirty = measured-added (one_if is_dirty) s.entries (new_entry s dir name new) i;
    long_paths = longs i;
    next = s.next + 1;
  }
    where
      more : measured (one_if is_directory) (s.entries ++ new_entry s dir name new ∷ []) + 1 ≡ measured (one_if is_directory) s.entries + 1 + one_if is_directory new
      more = omega (arith, measured-added (one_if is_directory) s.entries (new_entry s dir name new))

      longs : long_paths (added s dir name new).entries ≡ long_paths s.entries + long
      longs = omega (arith, told, long-none s h.limits)

  module _ (n : ℕ) (e : Entry) (found : entry_at s.entries n ≡ Some e) where
    gone : (f : Body → ℕ) → measured f (filter (is_kept n) s.entries) + f e.body ≡ measured f s.entries
    gone f = measured-removed f n 0 s.entries s.next e h.numbers found

    -- what an entry counts for is a part of the whole
    pub part-of : (rest : Counts) × (counts s ≡ plus rest (share_of e.body))
    part-of = (
      tally (filter (is_kept n) s.entries) (long_paths s.entries) s.next,
      sym (λ i. record {
        bytes = gone file_bytes i;
        directories = less i;
        semantics = gone (one_if is_queried) i;
        mounts = gone (one_if is_mount) i;
        symlinks = gone (one_if is_symlink) i;
        files = gone (one_if is_file) i;
        items = gone (one_if is_linkable) i;
        dirty = gone (one_if is_dirty) i;
        long_paths = same_long i;
        next = same_next i;
      }),
    )
      where
        less : measured (one_if is_directory) (filter (is_kept n) s.entries) + 1 + one_if is_directory e.body ≡ measured (one_if is_directory) s.entries + 1
        less = omega (arith, gone (one_if is_directory))

        same_long : long_paths s.entries + 0 ≡ long_paths s.entries
        same_long = omega arith

        same_next : s.next + 0 ≡ s.next
        same_next = omega arith

    -- an entry less
    pub counts-removed : long_paths (removed s n).entries ≡ 0 → plus (counts (removed s n)) (share_of e.body) ≡ counts s
    unfolding part-of
    counts-removed k = ap (λ (long : ℕ). plus (tally (filter (is_kept n) s.entries) long s.next) (share_of e.body)) (k ∙ sym (long-none s h.limits)) ∙ sym part-of.1

    -- an entry with another body
    pub counts-edited : (edit : Body → Body) → KeepsRole edit → plus (counts (changed_at s n (edited edit))) (share_of e.body) ≡ plus (counts s) (share_of (edit e.body))
    counts-edited edit kind = λ i. record {
      bytes = new file_bytes i;
      directories = other i;
      semantics = new (one_if is_queried) i;
      mounts = new (one_if is_mount) i;
      symlinks = new (one_if is_symlink) i;
      files = new (one_if is_file) i;
      items = new (one_if is_linkable) i;
      dirty = new (one_if is_dirty) i;
      long_paths = cond {A = ℕ} (paths-edited s.entries n edit (keeps-mount edit kind) i) 0 1 + 0;
      next = s.next + 0;
    }
      where
        new : (f : Body → ℕ) → measured f (changed_in n (edited edit) s.entries) + f e.body ≡ measured f s.entries + f (edit e.body)
        new f = measured-changed f n (edited edit) 0 s.entries s.next e h.numbers found

        other : measured (one_if is_directory) (changed_in n (edited edit) s.entries) + 1 + one_if is_directory e.body ≡ measured (one_if is_directory) s.entries + 1 + one_if is_directory (edit e.body)
        other = omega (arith, new (one_if is_directory))

-- an entry in another place
pub counts-reseated : (s : State) (n dir : ℕ) (name : List ℕ) (long : ℕ) → long_paths (changed_at s n (reseated dir name)).entries ≡ long →
    counts (changed_at s n (reseated dir name)) ≡ record (counts s) { long_paths = long }
counts-reseated s n dir name long told = λ i. record {
  bytes = measured-reseated file_bytes s n dir name i;
  directories = measured-reseated (one_if is_directory) s n dir name i + 1;
  semantics = measured-reseated (one_if is_queried) s n dir name i;
  mounts = measured-reseated (one_if is_mount) s n dir name i;
  symlinks = measured-reseated (one_if is_symlink) s n dir name i;
  files = measured-reseated (one_if is_file) s n dir name i;
  items = measured-reseated (one_if is_linkable) s n dir name i;
  dirty = measured-reseated (one_if is_dirty) s n dir name i;
  long_paths = told i;
  next = s.next;
}

-- a part in place of another
pub part-replaced : (all new old : Counts) → (rest : Counts) × (all ≡ plus rest old) → (rest : Counts) × (plus all new ≡ plus rest old)
part-replaced all new old (rest, sum) = (
  plus rest new,
  ap (λ (c : Counts). plus c new) sum ∙ (λ i. record {
    bytes = turned rest.bytes old.bytes new.bytes i;
    directories = turned rest.directories old.directories new.directories i;
    semantics = turned rest.semantics old.semantics new.semantics i;
    mounts = turned rest.mounts old.mounts new.mounts i;
    symlinks = turned rest.symlinks old.symlinks new.symlinks i;
    files = turned rest.files old.files new.files i;
    items = turned rest.items old.items new.items i;
    dirty = turned rest.dirty old.dirty new.dirty i;
    long_paths = turned rest.long_paths old.long_paths new.long_paths i;
    next = turned rest.next old.next new.next i;
  }),
)
  where
    turned : (a b c : ℕ) → a + b + c ≡ a + c + b
    turned a b c = omega arith

pub same-part : (a b part : Counts) → plus a part ≡ plus b part → a ≡ b
same-part a b part same =
    let bytes : a.bytes ≡ b.bytes = omega (arith, ap (λ (c : Counts). c.bytes) same) in
    let directories : a.directories ≡ b.directories = omega (arith, ap (λ (c : Counts). c.directories) same) in
    let semantics : a.semantics ≡ b.semantics = omega (arith, ap (λ (c : Counts). c.semantics) same) in
    let mounts : a.mounts ≡ b.mounts = omega (arith, ap (λ (c : Counts). c.mounts) same) in
    let symlinks : a.symlinks ≡ b.symlinks = omega (arith, ap (λ (c : Counts). c.symlinks) same) in
    let files : a.files ≡ b.files = omega (arith, ap (λ (c : Counts). c.files) same) in
    let items : a.items ≡ b.items = omega (arith, ap (λ (c : Counts). c.items) same) in
    let dirty : a.dirty ≡ b.dirty = omega (arith, ap (λ (c : Counts). c.dirty) same) in
    let long_paths : a.long_paths ≡ b.long_paths = omega (arith, ap (λ (c : Counts). c.long_paths) same) in
    let next : a.next ≡ b.next = omega (arith, ap (λ (c : Counts). c.next) same) in
    λ i. record { bytes = bytes i; directories = directories i; semantics = semantics i; mounts = mounts i; symlinks = symlinks i; files = files i; items = items i; dirty = dirty i; long_paths = long_paths i; next = next i }

-- a file that is dirty is a file
dirty-few : (es : List Entry) → measured (one_if is_dirty) es ≤ measured (one_if is_file) es
dirty-few [] = omega arith
dirty-few (e ∷ es) = omega (arith, measured-cons (one_if is_dirty) e es, measured-cons (one_if is_file) e es, head e.body, dirty-few es)
  where
    head : (b : Body) → one_if is_dirty b ≤ one_if is_file b
    head (body.File text dirty shown) = elim dirty as (λ d. cond {A = ℕ} d 1 0 ≤ 1) [ true ↦ omega arith | false ↦ omega arith ]
    head other = omega arith

-- a file is an item
files-few : (es : List Entry) → measured (one_if is_file) es ≤ measured (one_if is_linkable) es
files-few [] = omega arith
files-few (e ∷ es) = omega (arith, measured-cons (one_if is_file) e es, measured-cons (one_if is_linkable) e es, head e.body, files-few es)
  where
    head : (b : Body) → one_if is_file b ≤ one_if is_linkable b
    head (body.File text dirty shown) = omega arith
    head other = omega arith

-- What a layout holds can be counted on.

pub counts-small : (s : State) → IsLayout s → AreSmall (counts s)
counts-small s h =
    let within : IsWithinLimits s = limits-within s h.limits in
    record {
      bytes_are = grind (arith, nat_tests, within.texts);
      directories_are = grind (arith, nat_tests, most-dirs s within);
      semantics_are = grind (arith, nat_tests, within.semantics);
      symlinks_are = grind (arith, nat_tests, most-symlinks s within);
      mounts_are = grind (arith, nat_tests, most-mounts s within);
      files_are = grind (arith, nat_tests, within.items, files-few s.entries);
      items_are = grind (arith, nat_tests, within.items);
      dirty_are = grind (arith, nat_tests, within.items, files-few s.entries, dirty-few s.entries);
      long_paths_are = omega (arith, long-none s h.limits);
      next_is = grind (arith, nat_tests, most-numbers s within);
    }

-- Counts that are known, and the part of an entry.

module _ (s : State) (h : IsLayout s) (n : ℕ) (e : Entry) (found : entry_at s.entries n ≡ Some e) (told part : Counts) (all : told ≡ counts s) (one : part ≡ share_of e.body) where
  pub part-told : (rest : Counts) × (told ≡ plus rest part)
  part-told = let parts = part-of s h n e found in (parts.0, all ∙ parts.1 ∙ ap (λ (c : Counts). plus parts.0 c) (sym one))

  pub told-removed : (left : Counts) → long_paths (removed s n).entries ≡ 0 → plus left part ≡ told → left ≡ counts (removed s n)
  told-removed left short sum = same-part left (counts (removed s n)) (share_of e.body) (ap (plus left) (sym one) ∙ sum ∙ all ∙ sym (counts-removed s h n e found short))

  pub told-edited : (edit : Body → Body) (left new : Counts) → KeepsRole edit → new ≡ share_of (edit e.body) → plus left part ≡ plus told new → left ≡ counts (changed_at s n (edited edit))
  told-edited edit left new kind is sum =
      same-part left (counts (changed_at s n (edited edit))) (share_of e.body)
      (ap (plus left) (sym one) ∙ sum ∙ (λ i. plus (all i) (is i)) ∙ sym (counts-edited s h n e found edit kind))

-- A new entry, and one that moves.

-- some path is long where not all are short
pub long-told : (es : List Entry) (short : Bool) → short ≡ are_paths_short es → long_paths es ≡ counting.one_if (not short)
long-told es short same = ap (λ (b : Bool). cond {A = ℕ} b 0 1) (sym same) ∙ turned short
  where
    turned : (b : Bool) → cond {A = ℕ} b 0 1 ≡ cond {A = ℕ} (not b) 1 0
    turned true = refl
    turned false = refl

pub told-added : (s : State) (dir : ℕ) (name : List ℕ) (b : Body) (told share more sum : Counts) (short : Bool) → IsLayout s → short ≡ are_paths_short (added s dir name b).entries → told ≡ counts s → share ≡ share_of b →
    more ≡ record share { long_paths = counting.one_if (not short); next = 1 } → sum ≡ plus told more → sum ≡ counts (added s dir name b)
told-added s dir name b told share more sum short h same all one extended summed =
    summed
    ∙ (λ i. plus (all i) ((extended ∙ ap (λ (c : Counts). record c { long_paths = counting.one_if (not short); next = 1 }) one) i))
    ∙ sym (counts-added s h dir name b (counting.one_if (not short)) (long-told (added s dir name b).entries short same))

pub told-moved : (s : State) (n dir : ℕ) (name : List ℕ) (told sum : Counts) (short : Bool) → told ≡ counts s → short ≡ are_paths_short (changed_at s n (reseated dir name)).entries →
    sum ≡ record told { long_paths = counting.one_if (not short) } → sum ≡ counts (changed_at s n (reseated dir name))
told-moved s n dir name told sum short all same is =
    is
    ∙ ap (λ (c : Counts). record c { long_paths = counting.one_if (not short) }) all
    ∙ sym (counts-reseated s n dir name (counting.one_if (not short)) (long-told (changed_at s n (reseated dir name)).entries short same))

-- A file counts for the longer of its text and the text that is shown.

file-measured : (s : State) (n : ℕ) (e : Entry) (text : List ℕ) (shown : Option (List ℕ)) → entry_at s.entries n ≡ Some e → is_file e.body ≡ true → option_and_then text_in (body_at s.entries n) ≡ Some text → shown ≡ shown_of s n →
    file_bytes e.body ≡ max (length text) (option_map_or (λ (x : List ℕ). length x) shown 0)
file-measured s n e text shown found file texts shows =
    in_body e.body file
    (ap (λ (o : Option Entry). option_and_then text_in (option_map (λ (e : Entry). e.body) o)) (sym found) ∙ texts)
    (shows ∙ ap (λ (o : Option Entry). option_and_then shown_text (option_map (λ (e : Entry). e.body) o)) found)
  where
    in_body : (b : Body) → is_file b ≡ true → text_in b ≡ Some text → shown ≡ shown_text b → file_bytes b ≡ max (length text) (option_map_or (λ (x : List ℕ). length x) shown 0)
    in_body (body.File own dirty old) file texts shows =
        let same : own ≡ text = cc in
        λ i. max (length (same i)) (option_map_or (λ (x : List ℕ). length x) (sym shows i) 0)
    in_body other file texts shows = absurd cc

pub file-share : (s : State) (n : ℕ) (e : Entry) (text : List ℕ) (shown : Option (List ℕ)) (bytes : ℕ) (dirty : Bool) (share : Counts) → entry_at s.entries n ≡ Some e → is_file e.body ≡ true → is_dirty e.body ≡ dirty →
    option_and_then text_in (body_at s.entries n) ≡ Some text → shown ≡ shown_of s n → bytes ≡ max (length text) (option_map_or (λ (x : List ℕ). length x) shown 0) →
    ((b : Body) → IsTrue (is_file b) → file_bytes b ≡ bytes → is_dirty b ≡ dirty → share ≡ share_of b) → share ≡ share_of e.body
file-share s n e text shown bytes dirty share found file stale texts shows long each = each e.body file (file-measured s n e text shown found file texts shows ∙ sym long) stale
