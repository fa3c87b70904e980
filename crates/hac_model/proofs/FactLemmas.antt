-- What an event does to the facts of each number.
use Rattle.std.proofs.Common.{◌≡◌, ℕ, ◌+◌, Bool, true, false, cond, List, [], ◌∷◌, ◌++◌, length, map, refl, ap, sym, subst, ◌∙◌, inl, inr}
use Rattle.std.specs.Prelude.{◌==◌, ◌||◌, not, drop, filter, if◌then◌else◌, Option, Some, None, IsTrue, is_some, option_and_then}
use Rattle.std.specs.List.{AllByRecursion, list_all}
use Rattle.std.specs.Option.{option_map, option_map_or}
use Rattle.std.proofs.lemmas.Bool.{and_parts, eqb-false, eqb-true, not-true, or_cases, or_parts}
use Rattle.std.proofs.lemmas.List.{append-nil}
use Rattle.hac_model.specs.Tree.Bare.{bare, bare_body}
use Rattle.hac_model.specs.Tree.Depends.{depends, named_in, names_directory, refers_to}
use Rattle.hac_model.specs.Tree.Events.{accepted, added, apply, asking, changed_at, edited, forgetting, indexed, is_possible, is_unreferenced, marked, next_dirty, plain_body, reseated, rewritten, without}
use Rattle.hac_model.specs.Tree.Facts.{Facts, Marks, edges_to, facts_after, facts_at, facts_in, facts_of, facts_told, facts_with, facts_without, no_facts, put_at, with_mark, without_item}
use Rattle.hac_model.specs.Tree.Limits.{passed_limit}
use Rattle.hac_model.specs.Tree.Mounting.{answers_to, cleared, documents_from, fresh, is_gone, is_of_mount, is_such_at, numbers_without, redocumented, synced, unmounted}
use Rattle.hac_model.specs.Tree.Mounts.{terms_to_ask}
use Rattle.hac_model.specs.Query.Formula.{Formula}
use Rattle.hac_model.specs.Tree.{answers_in, body_at, entry_at, is_directory, is_directory_at, is_leaf, is_leaf_at, is_linkable, is_made_directory, is_mount, is_mount_at, permanent_in, prohibited_in, query_in}
use Rattle.hac_model.specs.Tree.Links.{answers_at, can_be_added, has, is_item, is_semantic, parent_of, permanent_at, prohibited_at, query_at}
use Rattle.hac_model.specs.declared.states.Answer.{Answer}
use Rattle.hac_model.specs.Tree.Valid.{AsksWell, IsLayout, IsValid}
use Rattle.hac_model.specs.declared.events.Event.{Event}
use Rattle.hac_model.specs.declared.events.Event.TheVariants.{Mkdir, NewFile, Rewrite, Ln, Smkdir, Setq, Unq, Mark, Mv, Rm, Rmdir, Smount, Ssync, Sumount, Step, Cd}
use Rattle.hac_model.specs.declared.marks.Kind.{Kind}
use Rattle.hac_model.specs.declared.marks.Kind.TheVariants.{Transient, Permanent, Prohibited, Unlinked}
use Rattle.hac_model.specs.declared.states.Body.{Body}
use Rattle.hac_model.specs.declared.states.Body.TheVariants.{File, Dir, Symlink, Semantic, Mount, Document}
use Rattle.hac_model.specs.declared.states.Entry.{Entry}
use Rattle.hac_model.specs.declared.states.State.{State}
use Rattle.hac_model.specs.declared.terms.Term.{Term}
use Rattle.hac_model.proofs.AlikeLemmas.{directory-bare, parent_of-bare, query_at-bare}
use Rattle.hac_model.proofs.AskLemmas.{added-directories, item-no_directory, leaf-no_directory, test-append}
use Rattle.hac_model.proofs.ChangeLemmas.{all-both, all-filter, all-weaker, directory-changed, directory-kept, entry_at-gone, is_kept}
use Rattle.hac_model.proofs.GainLemmas.{directory-told, entry_at-gains, item-told, layout-told, made-told, mount-told, parent-told}
use Rattle.hac_model.proofs.TreeLemmas.{entry_at-all, entry_at-number}
use Rattle.hac_model.specs.Tree.Asking.{asked_by, gained, gaining, unanswered, with_answers, with_told}
use Rattle.hac_model.proofs.LayoutLemmas.{apply-layout, ssync-parts, sumount-parts}
use Rattle.hac_model.proofs.MapLemmas.{directory-mapped, entry_at-mapped}
use Rattle.hac_model.proofs.MarkLemmas.{all-passes}
use Rattle.hac_model.proofs.MountAskLemmas.{cleared-added, cleared-directory, extended, extended-directories, extended-items, gone-directory, keeping-directories, keeping-items, of_mount-directory}
use Rattle.hac_model.proofs.MountFactLemmas.{facts_by, gone_at-bare, mounted-facts, of_mount_at-bare, synced-facts, terms-bare, unmounted-facts}
use Rattle.hac_model.proofs.ValidLemmas.{accepted-parts, mark-parts, rmdir-parts, setq-parts}
use Rattle.hac_model.proofs.ViewLemmas.{seen-added, seen-changed, seen-kept, seen-plain, seen-removed}
use Rattle.hac_model.proofs.KindLemmas.{role-forgetting, role-asking, role-bare, role-indexed, role-marked, role-plain, role-rewritten, keeps-directory, keeps-mount}

abbrev forgotten_facts : ℕ → Facts → Facts
forgotten_facts item facts = record facts { marks = without_item item facts.marks }

-- what is depended on is told
pub edges-told : (s : State) (n : ℕ) → depends s n ≡ (facts_of s n).edges
edges-told s n = at (entry_at s.entries n)
  where
    at : (o : Option Entry) → option_map_or (λ query. option_map_or (λ (e : Entry). e.parent) o 0 ∷ named_in query ++ filter (is_directory_at s.entries) (option_map_or permanent_in (option_map (λ (e : Entry). e.body) o) [])) (option_and_then query_in (option_map (λ (e : Entry). e.body) o)) [] ≡ (facts_at (is_directory_at s.entries) o).edges
    at None = refl
    at (Some e) = refl

-- Below it is given which numbers are those of directories.
module _ (is_dir : ℕ → Bool) where
  -- Bodies after an edit.

  rewritten-facts : (text : List ℕ) (dir : ℕ) (body : Body) → facts_in is_dir dir (rewritten text body) ≡ facts_in is_dir dir body
  rewritten-facts text dir (File old dirty shown) = refl
  rewritten-facts text dir Dir = refl
  rewritten-facts text dir (Symlink target) = refl
  rewritten-facts text dir (Semantic query permanent prohibited) = refl
  rewritten-facts text dir (Mount space answers) = refl
  rewritten-facts text dir Document = refl

  indexed-facts : (dir : ℕ) (body : Body) → facts_in is_dir dir (indexed body) ≡ facts_in is_dir dir body
  indexed-facts dir (File old dirty shown) = refl
  indexed-facts dir Dir = refl
  indexed-facts dir (Symlink target) = refl
  indexed-facts dir (Semantic query permanent prohibited) = refl
  indexed-facts dir (Mount space answers) = refl
  indexed-facts dir Document = refl

  -- what is known of an entry in this directory with this query and these marks
  abbrev with_edges : ℕ → Option (Formula ℕ) → Marks → Facts → Facts
  with_edges dir query marks facts = record facts { marks = marks; edges = edges_to is_dir dir query marks.permanent }

  abbrev parent_in : Option Entry → ℕ
  parent_in o = option_map_or (λ (e : Entry). e.parent) o 0

  abbrev query_of : Option Entry → Option (Formula ℕ)
  query_of o = option_and_then query_in (option_map (λ (e : Entry). e.body) o)

  -- a directory gets a query
  asking-facts : (query : Formula ℕ) (o : Option Entry) → option_map_or is_directory (option_map (λ (e : Entry). e.body) o) false ≡ true → option_map_or is_mount (option_map (λ (e : Entry). e.body) o) false ≡ false →
      facts_at is_dir (option_map (edited (asking query)) o) ≡ with_edges (parent_in o) (Some query) (facts_at is_dir o).marks (facts_at is_dir o)
  asking-facts query None made holder = absurd cc
  asking-facts query (Some e) made holder = body e.body made holder
    where
      body : (b : Body) → is_directory b ≡ true → is_mount b ≡ false → facts_in is_dir e.parent (asking query b) ≡ with_edges e.parent (Some query) (facts_in is_dir e.parent b).marks (facts_in is_dir e.parent b)
      body Dir made holder = refl
      body (Semantic old permanent prohibited) made holder = refl
      body other made holder = absurd cc

  -- a semantic directory loses it
  plain-facts : (o : Option Entry) → is_some (query_of o) ≡ true → facts_at is_dir (option_map (edited plain_body) o) ≡ no_facts
  plain-facts None semantic = absurd cc
  plain-facts (Some e) semantic = body e.body semantic
    where
      body : (b : Body) → is_some (query_in b) ≡ true → facts_in is_dir e.parent (plain_body b) ≡ no_facts
      body (Semantic query permanent prohibited) semantic = refl
      body other semantic = absurd cc

  -- or gets a mark
  marked-facts : (item : ℕ) (kind : Kind) (o : Option Entry) → is_some (query_of o) ≡ true →
      facts_at is_dir (option_map (edited (marked item kind)) o) ≡ with_edges (parent_in o) (query_of o) (with_mark kind item (facts_at is_dir o).marks) (facts_at is_dir o)
  marked-facts item kind None semantic = absurd cc
  marked-facts item kind (Some e) semantic = body kind e.body semantic
    where
      body : (kind : Kind) (b : Body) → is_some (query_in b) ≡ true → facts_in is_dir e.parent (marked item kind b) ≡ with_edges e.parent (query_in b) (with_mark kind item (facts_in is_dir e.parent b).marks) (facts_in is_dir e.parent b)
      body Transient (Semantic query permanent prohibited) semantic = refl
      body Permanent (Semantic query permanent prohibited) semantic = refl
      body Prohibited (Semantic query permanent prohibited) semantic = refl
      body Unlinked (Semantic query permanent prohibited) semantic = refl
      body kind other semantic = absurd cc

  -- an entry goes elsewhere
  reseated-facts : (dir : ℕ) (name : List ℕ) (o : Option Entry) → facts_at is_dir (option_map (reseated dir name) o) ≡ with_edges dir (query_of o) (facts_at is_dir o).marks (facts_at is_dir o)
  reseated-facts dir name None = refl
  reseated-facts dir name (Some e) = refl

  -- all marks on what is no directory go
  left-without : (item : ℕ) → is_dir item ≡ false → (ks : List ℕ) → filter is_dir (without item ks) ≡ filter is_dir ks
  left-without item plain [] = refl
  left-without item plain (k ∷ ks) =
      elim (k == item) as (λ b. (k == item) ≡ b → filter is_dir (cond (not b) (k ∷ without item ks) (without item ks)) ≡ filter is_dir (k ∷ ks)) [
        | true ↦ (λ same. left-without item plain ks ∙ sym (ap (λ (b : Bool). cond b (k ∷ filter is_dir ks) (filter is_dir ks)) (ap is_dir (eqb-true k item same) ∙ plain)))
        | false ↦ (λ other. ap (λ (rest : List ℕ). cond (is_dir k) (k ∷ rest) rest) (left-without item plain ks))
      ] refl

  forgetting-facts : (item : ℕ) → is_dir item ≡ false → (o : Option Entry) → facts_at is_dir (option_map (edited (forgetting item)) o) ≡ forgotten_facts item (facts_at is_dir o)
  forgetting-facts item plain None = refl
  forgetting-facts item plain (Some e) = body e.body
    where
      body : (b : Body) → facts_in is_dir e.parent (forgetting item b) ≡ forgotten_facts item (facts_in is_dir e.parent b)
      body (File text dirty shown) = refl
      body Dir = refl
      body (Symlink target) = refl
      body (Semantic query permanent prohibited) = ap (λ (linked : List ℕ). record (forgotten_facts item (facts_in is_dir e.parent (Semantic query permanent prohibited))) { edges = e.parent ∷ named_in query ++ linked }) (left-without item plain permanent)
      body (Mount space answers) = refl
      body Document = refl

  -- a leaf tells nothing
  leaf-facts : (o : Option Entry) → option_map_or is_leaf (option_map (λ (e : Entry). e.body) o) false ≡ true → facts_at is_dir o ≡ no_facts
  leaf-facts None leaf = absurd cc
  leaf-facts (Some e) leaf = body e.body leaf
    where
      body : (b : Body) → is_leaf b ≡ true → facts_in is_dir e.parent b ≡ no_facts
      body (File text dirty shown) leaf = refl
      body (Symlink target) leaf = refl
      body other leaf = absurd cc

  removed-facts : (s : State) (item : ℕ) → is_dir item ≡ false → is_leaf_at s.entries item ≡ true → (n : ℕ) → facts_by is_dir (apply s (Rm item)) n ≡ forgotten_facts item (facts_by is_dir s n)
  removed-facts s item plain leaf n =
      ap (facts_at is_dir) (entry_at-mapped (forgetting item) (filter (is_kept item) s.entries) n)
      ∙ forgetting-facts item plain (entry_at (filter (is_kept item) s.entries) n)
      ∙ ap (forgotten_facts item) (seen-removed (facts_at is_dir) s.entries item n)
      ∙ at (n == item) refl
    where
      at : (b : Bool) → (n == item) ≡ b → forgotten_facts item (cond b no_facts (facts_by is_dir s n)) ≡ forgotten_facts item (facts_by is_dir s n)
      at true is = ap (forgotten_facts item) (sym (ap (facts_by is_dir s) (eqb-true n item is) ∙ leaf-facts (entry_at s.entries item) leaf))
      at false is = refl

  stepped-facts : (s : State) (o : Option ℕ) (n : ℕ) → facts_by is_dir (option_map_or (λ file. changed_at s file (edited indexed)) o s) n ≡ facts_by is_dir s n
  stepped-facts s None n = refl
  stepped-facts s (Some file) n = seen-kept (facts_at is_dir) s.entries file (edited indexed) (λ e. refl) (λ e. indexed-facts e.parent e.body) n

-- What mounts are told for a query.

-- an entry that is no mount gains nothing
gained-plain : (kept : ℕ → List Answer) (query : Formula ℕ) (told : List (List ℕ)) (es : List Entry) (n : ℕ) → option_map_or is_mount (body_at es n) false ≡ false → gained kept query told es n ≡ []
gained-plain kept query told [] n h = refl
gained-plain kept query told (x ∷ es) n h =
    elim (x.number == n) as (λ b. option_map_or is_mount (option_map (λ (e : Entry). e.body) (if b then Some x else entry_at es n)) false ≡ false → (if b then answers_to (asked_by kept query x) told else gained kept query (drop (length (asked_by kept query x)) told) es n) ≡ []) [
      | true ↦ (λ plain. ap (λ (b : Bool). answers_to (if b then unanswered query (kept x.number) else []) told) plain)
      | false ↦ (λ plain. gained-plain kept query (drop (length (asked_by kept query x)) told) es n plain)
    ] h

-- what is kept is told by facts
answers-facts : (s : State) → answers_at s ≡ (λ n. (facts_of s n).answers)
answers-facts s = λ i n. at (entry_at s.entries n) i
  where
    at : (o : Option Entry) → option_map_or answers_in (option_map (λ (e : Entry). e.body) o) [] ≡ (facts_at (is_directory_at s.entries) o).answers
    at None = refl
    at (Some e) = refl

told-facts : (s : State) (query : Formula ℕ) (told : List (List ℕ)) (n : ℕ) → facts_by (is_directory_at s.entries) (with_told query told s) n ≡ facts_told query told s (facts_of s) n
told-facts s query told n = ap (facts_at is_dir) (entry_at-gains (gained (answers_at s) query told s.entries) s.entries n) ∙ at (entry_at s.entries n) refl
  where
    is_dir : ℕ → Bool
    is_dir = is_directory_at s.entries

    gain : ℕ → List Answer
    gain = gained (answers_at s) query told s.entries

    new : List Answer
    new = gained (λ m. (facts_of s m).answers) query told s.entries n

    same : gain n ≡ new
    same = ap (λ (kept : ℕ → List Answer). gained kept query told s.entries n) (answers-facts s)

    none : option_map_or is_mount (body_at s.entries n) false ≡ false → new ≡ []
    none plain = sym same ∙ gained-plain (answers_at s) query told s.entries n plain

    body : (e : Entry) → entry_at s.entries n ≡ Some e → (b : Body) → e.body ≡ b → facts_in is_dir e.parent (gaining (gain e.number) b) ≡ record (facts_in is_dir e.parent b) { answers = with_answers new (facts_in is_dir e.parent b).answers }
    body e found (Mount space answers) is = ap (λ (more : List Answer). record (facts_in is_dir e.parent (Mount space answers)) { answers = with_answers more answers }) (ap gain (entry_at-number s.entries n e found) ∙ same)
    body e found (File text dirty shown) is = sym (ap (λ (more : List Answer). record (facts_in is_dir e.parent (File text dirty shown)) { answers = with_answers more [] }) (none (ap (λ (o : Option Entry). option_map_or is_mount (option_map (λ (e : Entry). e.body) o) false) found ∙ ap is_mount is)))
    body e found Dir is = sym (ap (λ (more : List Answer). record (facts_in is_dir e.parent Dir) { answers = with_answers more [] }) (none (ap (λ (o : Option Entry). option_map_or is_mount (option_map (λ (e : Entry). e.body) o) false) found ∙ ap is_mount is)))
    body e found (Symlink target) is = sym (ap (λ (more : List Answer). record (facts_in is_dir e.parent (Symlink target)) { answers = with_answers more [] }) (none (ap (λ (o : Option Entry). option_map_or is_mount (option_map (λ (e : Entry). e.body) o) false) found ∙ ap is_mount is)))
    body e found (Semantic asked permanent prohibited) is = sym (ap (λ (more : List Answer). record (facts_in is_dir e.parent (Semantic asked permanent prohibited)) { answers = with_answers more [] }) (none (ap (λ (o : Option Entry). option_map_or is_mount (option_map (λ (e : Entry). e.body) o) false) found ∙ ap is_mount is)))
    body e found Document is = sym (ap (λ (more : List Answer). record (facts_in is_dir e.parent Document) { answers = with_answers more [] }) (none (ap (λ (o : Option Entry). option_map_or is_mount (option_map (λ (e : Entry). e.body) o) false) found ∙ ap is_mount is)))

    at : (o : Option Entry) → entry_at s.entries n ≡ o → facts_at is_dir (option_map (λ e. edited (gaining (gain e.number)) e) o) ≡ record (facts_at is_dir o) { answers = with_answers new (facts_at is_dir o).answers }
    at None found = sym (ap (λ (more : List Answer). record no_facts { answers = with_answers more [] }) (none (ap (λ (o : Option Entry). option_map_or is_mount (option_map (λ (e : Entry). e.body) o) false) found)))
    at (Some e) found = body e found e.body refl

-- of what is no mount nothing is told
plain-told : (s : State) (query : Formula ℕ) (told : List (List ℕ)) (n : ℕ) → is_mount_at s.entries n ≡ false → facts_told query told s (facts_of s) n ≡ facts_of s n
plain-told s query told n plain = ap (λ (more : List Answer). record (facts_of s n) { answers = with_answers more (facts_of s n).answers })
    (ap (λ (kept : ℕ → List Answer). gained kept query told s.entries n) (sym (answers-facts s)) ∙ gained-plain (answers_at s) query told s.entries n plain)

-- of two trees that are bare alike the same mounts are told
gained-bare : (kept : ℕ → List Answer) (query : Formula ℕ) (told : List (List ℕ)) (es : List Entry) (n : ℕ) → gained kept query told (map (edited bare_body) es) n ≡ gained kept query told es n
gained-bare kept query told [] n = refl
gained-bare kept query told (x ∷ es) n = λ i.
    if x.number == n then answers_to (asked i) told
    else (ap (λ (terms : List Term). gained kept query (drop (length terms) told) (map (edited bare_body) es) n) asked ∙ gained-bare kept query (drop (length (asked_by kept query x)) told) es n) i
  where
    asked : asked_by kept query (edited bare_body x) ≡ asked_by kept query x
    asked = ap (λ (b : Bool). if b then unanswered query (kept x.number) else []) (keeps-mount bare_body role-bare x.body)

told-bare : (s : State) (query : Formula ℕ) (told : List (List ℕ)) (facts : ℕ → Facts) (n : ℕ) → facts_told query told (bare s) facts n ≡ facts_told query told s facts n
told-bare s query told facts n = ap (λ (more : List Answer). record (facts n) { answers = with_answers more (facts n).answers }) (gained-bare (λ m. (facts m).answers) query told s.entries n)

-- What becomes of the directories that were added.

-- a number stays that of a directory, or of an item
pub record StaysAs (s t : State) (n : ℕ) : Type 0 where
  pub directory : is_directory_at s.entries n ≡ true → is_directory_at t.entries n ≡ true
  pub item : is_item s n ≡ true → is_item t n ≡ true

-- the number is that of a directory before and after, or or_parts
abbrev pub IsSame : State → State → ℕ → Type 0
IsSame s t n = is_directory_at t.entries n ≡ is_directory_at s.entries n

pub stays-same : (s t : State) (n : ℕ) → IsLayout t → can_be_added s n ≡ true → StaysAs s t n → IsSame s t n
stays-same s t n h can stays = at (is_directory_at s.entries n) refl
  where
    at : (b : Bool) → is_directory_at s.entries n ≡ b → IsSame s t n
    at true there = stays.directory there ∙ sym there
    at false other = elim (or_cases (is_item s n) (is_directory_at s.entries n) can) [
      | inl item ↦ no_directory (is_directory_at t.entries n) refl (stays.item item) ∙ sym other
      | inr there ↦ stays.directory there ∙ sym there
    ]
      where
        no_directory : (b : Bool) → is_directory_at t.entries n ≡ b → is_item t n ≡ true → is_directory_at t.entries n ≡ false
        no_directory false is item = is
        no_directory true is item = absurd (item-no_directory t n n h item is refl)

-- what is told of an entry, where its marks are on the same directories
seen-same : (s t : State) (o : Option Entry) → AllByRecursion (IsSame s t) (facts_at (is_directory_at s.entries) o).marks.permanent → facts_at (is_directory_at t.entries) o ≡ facts_at (is_directory_at s.entries) o
seen-same s t None same = refl
seen-same s t (Some e) same =
    let old : ℕ → Bool = is_directory_at s.entries in
    let linked : filter (is_directory_at t.entries) (permanent_in e.body) ≡ filter old (permanent_in e.body) = same-filter (is_directory_at t.entries) old (permanent_in e.body) same in
    ap (λ (linked : List ℕ). record (facts_in old e.parent e.body) { edges = option_map_or (λ query. e.parent ∷ named_in query ++ linked) (query_in e.body) [] }) linked
  where
    same-filter : (p q : ℕ → Bool) (ks : List ℕ) → AllByRecursion (λ k. p k ≡ q k) ks → filter p ks ≡ filter q ks
    same-filter p q [] same = refl
    same-filter p q (k ∷ ks) same = λ i. cond (same.0 i) (k ∷ same-filter p q ks same.1 i) (same-filter p q ks same.1 i)

-- marks are on what may be added
marks-there : (s : State) → IsValid s → (n : ℕ) → AllByRecursion (λ k. can_be_added s k ≡ true) (facts_of s n).marks.permanent
marks-there s h n =
    elim (entry_at s.entries n) as (λ o. entry_at s.entries n ≡ o → AllByRecursion (λ k. can_be_added s k ≡ true) (facts_at (is_directory_at s.entries) o).marks.permanent) [
      | None ↦ (λ found. tt)
      | Some e ↦ (λ found. body e.body (entry_at-all (λ e. AsksWell s e.body) s.entries n e h.queries found))
    ] refl
  where
    body : (b : Body) → AsksWell s b → AllByRecursion (λ k. can_be_added s k ≡ true) (permanent_in b)
    body (Semantic query permanent prohibited) asks = asks.added.there
    body (File text dirty shown) asks = tt
    body Dir asks = tt
    body (Symlink target) asks = tt
    body (Mount space answers) asks = tt
    body Document asks = tt

-- and on no directory to which no entry refers
marks-apart : (s : State) (dir : ℕ) → is_unreferenced s dir ≡ true → (n : ℕ) → AllByRecursion (λ k. k ≡ dir → ⊥) (facts_of s n).marks.permanent
marks-apart s dir apart n =
    elim (entry_at s.entries n) as (λ o. entry_at s.entries n ≡ o → AllByRecursion (λ k. k ≡ dir → ⊥) (facts_at (is_directory_at s.entries) o).marks.permanent) [
      | None ↦ (λ found. tt)
      | Some e ↦ (λ found. absent (permanent_in e.body) (or_parts (names_directory dir e) (has (permanent_in e.body) dir) (not-true (refers_to dir e) (entry_at-all (λ e. not (refers_to dir e) ≡ true) s.entries n e (all s.entries apart) found))).1)
    ] refl
  where
    all : (es : List Entry) → list_all (λ e. not (refers_to dir e)) es ≡ true → AllByRecursion (λ e. not (refers_to dir e) ≡ true) es
    all [] h = tt
    all (e ∷ es) h = let parts = and_parts (not (refers_to dir e)) (list_all (λ e. not (refers_to dir e)) es) h in (parts.0, all es parts.1)

    absent : (ks : List ℕ) → has ks dir ≡ false → AllByRecursion (λ k. k ≡ dir → ⊥) ks
    absent [] h = tt
    absent (k ∷ ks) h = let parts = or_parts (k == dir) (has ks dir) h in (eqb-false k dir parts.0, absent ks parts.1)

put-all : (P : ℕ → Type 0) (f : ℕ → Facts) (key : ℕ) (x : Facts) (n : ℕ) → AllByRecursion P x.marks.permanent → AllByRecursion P (f n).marks.permanent → AllByRecursion P (put_at f key x n).marks.permanent
put-all P f key x n here there = elim (n == key) as (λ b. AllByRecursion P (cond b x (f n)).marks.permanent) [ true ↦ here | false ↦ there ]

module _ (s : State) (h : IsValid s) where
  abbrev old : ℕ → Bool
  old = is_directory_at s.entries

  -- all marks stay on what they were on, where directories and items stay
  all-same : (t : State) → IsLayout t → ((k : ℕ) → StaysAs s t k) → (n : ℕ) → AllByRecursion (IsSame s t) (facts_of s n).marks.permanent
  all-same t layout stays n = all-weaker (λ k. can_be_added s k ≡ true) (IsSame s t) (facts_of s n).marks.permanent (λ k can. stays-same s t k layout can (stays k)) (marks-there s h n)

  -- an entry came
  added-same : (dir : ℕ) (name : List ℕ) (body : Body) → IsLayout (added s dir name body) → (n : ℕ) → AllByRecursion (IsSame s (added s dir name body)) (facts_of s n).marks.permanent
  added-same dir name body layout n = all-same (added s dir name body) layout (λ k. record {
    directory = added-directories s dir name body k;
    item = test-append is_linkable s.entries (record { number = s.next; parent = dir; name = name; body = body }) k;
  }) n

  -- an entry was changed, and stays what it is
  changed-same : (m : ℕ) (change : Entry → Entry) → ((e : Entry) → (change e).number ≡ e.number) → ((e : Entry) → is_directory (change e).body ≡ is_directory e.body) → (k : ℕ) → IsSame s (changed_at s m change) k
  changed-same m change numbers dirs k = directory-changed m change s.entries k numbers dirs

  always : {P : ℕ → Type 0} → ((k : ℕ) → P k) → (ks : List ℕ) → AllByRecursion P ks
  always each [] = tt
  always each (k ∷ ks) = (each k, always each ks)

  -- which of the numbers are those of directories after an event that were added somewhere then
  lenders-stay : (event : Event) → IsTrue (accepted s event) → (n : ℕ) → AllByRecursion (IsSame s (apply s event)) (facts_after event s (facts_of s) n).marks.permanent
  lenders-stay (Mkdir dir name) ok n = added-same dir name Dir (apply-layout s (Mkdir dir name) h.layout ok) n
  lenders-stay (NewFile dir name text) ok n = added-same dir name (File text true None) (apply-layout s (NewFile dir name text) h.layout ok) n
  lenders-stay (Ln dir name target) ok n = added-same dir name (Symlink target) (apply-layout s (Ln dir name target) h.layout ok) n
  lenders-stay (Rewrite file text) ok n = always (changed-same file (edited (rewritten text)) (λ e. refl) (λ e. (keeps-directory (rewritten text) (role-rewritten text)) e.body)) (facts_of s n).marks.permanent
  lenders-stay (Smkdir dir name query told) ok n =
      let t : State = with_told query told s in
      put-all (IsSame s (apply s (Smkdir dir name query told))) (facts_told query told s (facts_of s)) s.next (record no_facts { edges = dir ∷ named_in query }) n tt
      (all-same (apply s (Smkdir dir name query told)) (apply-layout s (Smkdir dir name query told) h.layout ok) (λ k. record {
        directory = λ there. added-directories t dir name (Semantic query [] []) k (directory-told s query told k ∙ there);
        item = λ there. test-append is_linkable t.entries (record { number = s.next; parent = dir; name = name; body = Semantic query [] [] }) k (item-told s query told k ∙ there);
      }) n)
  lenders-stay (Setq dir query told) ok n =
      let t : State = with_told query told s in
      let same : (k : ℕ) → IsSame s (apply s (Setq dir query told)) k = λ k. directory-changed dir (edited (asking query)) t.entries k (λ e. refl) (λ e. (keeps-directory (asking query) (role-asking query)) e.body) ∙ directory-told s query told k in
      always same (facts_after (Setq dir query told) s (facts_of s) n).marks.permanent
  lenders-stay (Unq dir) ok n = always (changed-same dir (edited plain_body) (λ e. refl) (λ e. (keeps-directory plain_body role-plain) e.body)) (facts_after (Unq dir) s (facts_of s) n).marks.permanent
  lenders-stay (Mark mark) ok n = always (changed-same mark.dir (edited (marked mark.item mark.kind)) (λ e. refl) (λ e. (keeps-directory (marked mark.item mark.kind) (role-marked mark.item mark.kind)) e.body)) (facts_after (Mark mark) s (facts_of s) n).marks.permanent
  lenders-stay (Mv entry dir name) ok n = always (changed-same entry (reseated dir name) (λ e. refl) (λ e. refl)) (facts_after (Mv entry dir name) s (facts_of s) n).marks.permanent
  lenders-stay (Rm item) ok n = always same (facts_after (Rm item) s (facts_of s) n).marks.permanent
    where
      leaf : is_leaf_at s.entries item ≡ true
      leaf = (accepted-parts (is_leaf_at s.entries item) (passed_limit (apply s (Rm item))) ok).0

      same : (k : ℕ) → IsSame s (apply s (Rm item)) k
      same k = directory-mapped (forgetting item) (filter (is_kept item) s.entries) k (keeps-directory (forgetting item) (role-forgetting item)) ∙ kept (item == k) refl
        where
          kept : (b : Bool) → (item == k) ≡ b → is_directory_at (filter (is_kept item) s.entries) k ≡ is_directory_at s.entries k
          kept false other = directory-kept item s.entries k (eqb-false item k other)
          kept true is = gone (is_directory_at s.entries k) refl
            where
              here : item ≡ k
              here = eqb-true item k is

              gone : (b : Bool) → is_directory_at s.entries k ≡ b → is_directory_at (filter (is_kept item) s.entries) k ≡ is_directory_at s.entries k
              gone true there = absurd (leaf-no_directory s item k h.layout leaf there here)
              gone false none =
                  let first : (k == 0) ≡ false = (or_parts (k == 0) (is_made_directory s.entries k) none).0 in
                  ap (λ (b : Bool). b || is_made_directory (filter (is_kept item) s.entries) k) first
                  ∙ ap (λ (o : Option Entry). option_map_or is_directory (option_map (λ (e : Entry). e.body) o) false) (ap (λ (m : ℕ). entry_at (filter (is_kept item) s.entries) m) (sym here) ∙ entry_at-gone item s.entries)
                  ∙ sym none
  lenders-stay (Rmdir dir) ok n =
      let parts = rmdir-parts s dir (accepted-parts (is_possible s (Rmdir dir)) (passed_limit (apply s (Rmdir dir))) ok).0 in
      put-all (IsSame s (apply s (Rmdir dir))) (facts_of s) dir no_facts n tt
      (all-weaker (λ k. k ≡ dir → ⊥) (IsSame s (apply s (Rmdir dir))) (facts_of s n).marks.permanent (λ k apart. directory-kept dir s.entries k (λ same. apart (sym same))) (marks-apart s dir parts.2 n))
  lenders-stay Step ok n = elim (next_dirty s.entries) as (λ o. AllByRecursion (IsSame s (option_map_or (λ file. changed_at s file (edited indexed)) o s)) (facts_of s n).marks.permanent) [
    | None ↦ always (λ k. refl) (facts_of s n).marks.permanent
    | Some file ↦ always (changed-same file (edited indexed) (λ e. refl) (λ e. (keeps-directory indexed role-indexed) e.body)) (facts_of s n).marks.permanent
  ]
  lenders-stay (Cd session dir) ok n = always (λ k. refl) (facts_of s n).marks.permanent
  lenders-stay (Smount dir name space documents told) ok n =
      let t : State = apply s (Smount dir name space documents told) in
      let mount : Entry = record { number = s.next; parent = dir; name = name; body = Mount space (answers_to (terms_to_ask s.entries) told) } in
      let u : State = extended s (s.next + 1) (mount ∷ []) in
      let new : List Entry = documents_from (s.next + 1) s.next documents in
      put-all (IsSame s t) (facts_of s) s.next (record no_facts { answers = answers_to (terms_to_ask s.entries) told }) n tt
      (all-same t (apply-layout s (Smount dir name space documents told) h.layout ok) (λ k. record {
        directory = λ there. extended-directories u (s.next + 1 + length documents) new k (extended-directories s (s.next + 1) (mount ∷ []) k there);
        item = λ there. extended-items u (s.next + 1 + length documents) new k (extended-items s (s.next + 1) (mount ∷ []) k there);
      }) n)
  lenders-stay (Ssync mount documents told) ok n =
      put-all (IsSame s t) (facts_without gone (facts_of s)) mount (record no_facts { answers = answers }) n tt
      (all-both (λ k. can_be_added s k ≡ true) (λ k. not (gone k) ≡ true) (IsSame s t) (numbers_without gone (facts_of s n).marks.permanent) same
      (all-filter (λ k. can_be_added s k ≡ true) (λ k. not (gone k)) (facts_of s n).marks.permanent (marks-there s h n)) (all-passes (λ k. not (gone k)) (facts_of s n).marks.permanent))
    where
      answers : List Answer
      answers = answers_to (terms_to_ask s.entries) told

      gone : ℕ → Bool
      gone k = is_such_at (is_gone mount documents) s.entries k

      t : State
      t = synced s mount answers documents

      u : State
      u = cleared (is_gone mount documents) s

      v : State
      v = redocumented s mount documents

      new : List Entry
      new = documents_from u.next mount (fresh s mount documents)

      layout : IsLayout t
      layout = apply-layout s (Ssync mount documents told) h.layout ok

      same : (k : ℕ) → can_be_added s k ≡ true → not (gone k) ≡ true → IsSame s t k
      same k can left =
          let stays : gone k ≡ false = not-true (gone k) left in
          stays-same u t k layout (cleared-added (is_gone mount documents) s h.layout k stays ∙ can) (record {
            directory = λ there. keeping-directories v mount answers k (extended-directories u v.next new k there);
            item = λ there. keeping-items v mount answers k (extended-items u v.next new k there);
          })
          ∙ cleared-directory (is_gone mount documents) s h.layout k stays
  lenders-stay (Sumount mount) ok n =
      let gone : ℕ → Bool = λ k. is_such_at (is_of_mount mount) s.entries k in
      let t : State = unmounted s mount in
      put-all (IsSame s t) (facts_without gone (facts_of s)) mount no_facts n tt
      (all-weaker (λ k. not (gone k) ≡ true) (IsSame s t) (numbers_without gone (facts_of s n).marks.permanent)
      (λ k left. cleared-directory (is_of_mount mount) s h.layout k (not-true (gone k) left)) (all-passes (λ k. not (gone k)) (facts_of s n).marks.permanent))

  -- What an event does to the facts, given which numbers are those of directories before it.

  abbrev seen : State → ℕ → Facts
  seen t n = facts_by old t n

  facts-seen : (event : Event) → IsTrue (accepted s event) → (n : ℕ) → seen (apply s event) n ≡ facts_after event s (facts_of s) n
  facts-seen (Mkdir dir name) ok n = seen-plain (facts_at old) s.entries (record { number = s.next; parent = dir; name = name; body = Dir }) h.layout.numbers refl n
  facts-seen (NewFile dir name text) ok n = seen-plain (facts_at old) s.entries (record { number = s.next; parent = dir; name = name; body = File text true None }) h.layout.numbers refl n
  facts-seen (Rewrite file text) ok n = seen-kept (facts_at old) s.entries file (edited (rewritten text)) (λ e. refl) (λ e. rewritten-facts old text e.parent e.body) n
  facts-seen (Ln dir name target) ok n = seen-plain (facts_at old) s.entries (record { number = s.next; parent = dir; name = name; body = Symlink target }) h.layout.numbers refl n
  facts-seen (Smkdir dir name query told) ok n =
      seen-added (facts_at old) (with_told query told s).entries (record { number = s.next; parent = dir; name = name; body = Semantic query [] [] }) (layout-told s query told h.layout).numbers n
      ∙ (λ i. put_at (λ m. told-facts s query told m i) s.next (record no_facts { edges = dir ∷ append-nil (named_in query) i }) n)
  facts-seen (Setq dir query told) ok n =
      let parts = setq-parts s dir query told (accepted-parts (is_possible s (Setq dir query told)) (passed_limit (apply s (Setq dir query told))) ok).0 in
      let t : State = with_told query told s in
      seen-changed (facts_at old) t.entries dir (edited (asking query)) (λ e. refl) n
      ∙ ap (λ (new : Facts). put_at (seen t) dir new n) (asking-facts old query (entry_at t.entries dir) (made-told s query told dir ∙ parts.0) (mount-told s query told dir ∙ parts.4))
      ∙ (λ i. put_at (λ m. told-facts s query told m i) dir (facts_with s (parent-told s query told dir i) (Some query) ((told-facts s query told dir ∙ plain-told s query told dir parts.4) i).marks ((told-facts s query told dir ∙ plain-told s query told dir parts.4) i)) n)
  facts-seen (Unq dir) ok n =
      seen-changed (facts_at old) s.entries dir (edited plain_body) (λ e. refl) n
      ∙ ap (λ (new : Facts). put_at (facts_of s) dir new n) (plain-facts old (entry_at s.entries dir) (accepted-parts (is_semantic s dir) (passed_limit (apply s (Unq dir))) ok).0)
  facts-seen (Mark mark) ok n =
      seen-changed (facts_at old) s.entries mark.dir (edited (marked mark.item mark.kind)) (λ e. refl) n
      ∙ ap (λ (new : Facts). put_at (facts_of s) mark.dir new n) (marked-facts old mark.item mark.kind (entry_at s.entries mark.dir) (mark-parts s mark.dir mark.item mark.kind (accepted-parts (is_possible s (Mark mark)) (passed_limit (apply s (Mark mark))) ok).0).1)
  facts-seen (Mv entry dir name) ok n =
      seen-changed (facts_at old) s.entries entry (reseated dir name) (λ e. refl) n
      ∙ ap (λ (new : Facts). put_at (facts_of s) entry new n) (reseated-facts old dir name (entry_at s.entries entry))
  facts-seen (Rm item) ok n =
      let leaf = (accepted-parts (is_leaf_at s.entries item) (passed_limit (apply s (Rm item))) ok).0 in
      removed-facts old s item (plain leaf (old item) refl) leaf n
    where
      plain : is_leaf_at s.entries item ≡ true → (b : Bool) → old item ≡ b → old item ≡ false
      plain leaf true is = absurd (leaf-no_directory s item item h.layout leaf is refl)
      plain leaf false is = is
  facts-seen (Rmdir dir) ok n = seen-removed (facts_at old) s.entries dir n
  facts-seen (Smount dir name space documents told) ok n = mounted-facts old s dir name space (answers_to (terms_to_ask s.entries) told) documents h.layout.numbers n
  facts-seen (Ssync mount documents told) ok n =
      let parts = ssync-parts s mount documents told (accepted-parts (is_possible s (Ssync mount documents told)) (passed_limit (apply s (Ssync mount documents told))) ok).0 in
      synced-facts old s mount (answers_to (terms_to_ask s.entries) told) documents h.layout parts.0 (λ m. always (λ k there. gone-directory s mount documents k h.layout there) (facts_of s m).marks.permanent) n
  facts-seen (Sumount mount) ok n =
      let parts = sumount-parts s mount (accepted-parts (is_possible s (Sumount mount)) (passed_limit (apply s (Sumount mount))) ok).0 in
      unmounted-facts old s mount h.layout parts.0 (λ m. all-weaker (λ k. k ≡ mount → ⊥) (λ k. old k ≡ true → is_such_at (is_of_mount mount) s.entries k ≡ false) (facts_of s m).marks.permanent
      (λ k apart there. of_mount-directory s mount k h.layout parts.0 there apart) (marks-apart s mount parts.1 m)) n
  facts-seen Step ok n = stepped-facts old s (next_dirty s.entries) n
  facts-seen (Cd session dir) ok n = refl

  -- what an event does to the facts, by the facts and the tree alone
  pub facts-law : (event : Event) → IsTrue (accepted s event) → (n : ℕ) → facts_of (apply s event) n ≡ facts_after event s (facts_of s) n
  facts-law event ok n =
      seen-same s (apply s event) (entry_at (apply s event).entries n)
      (subst (λ (facts : Facts). AllByRecursion (IsSame s (apply s event)) facts.marks.permanent) (sym (facts-seen event ok n)) (lenders-stay event ok n))
      ∙ facts-seen event ok n

-- the bare tree is asked as well
bare-directories : (s : State) → is_directory_at (bare s).entries ≡ is_directory_at s.entries
bare-directories s = λ i d. directory-bare s d i

with-bare : (s : State) (dir : ℕ) (query : Option (Formula ℕ)) (marks : Marks) (facts : Facts) → facts_with (bare s) dir query marks facts ≡ facts_with s dir query marks facts
with-bare s dir query marks facts = ap (λ (is_dir : ℕ → Bool). record facts { marks = marks; edges = edges_to is_dir dir query marks.permanent }) (bare-directories s)

pub facts-bare : (event : Event) (s : State) (facts : ℕ → Facts) (n : ℕ) → facts_after event (bare s) facts n ≡ facts_after event s facts n
facts-bare (Smkdir dir name query told) s facts n = λ i. put_at (λ m. told-bare s query told facts m i) s.next (record no_facts { edges = dir ∷ named_in query }) n
facts-bare (Setq dir query told) s facts n =
    (λ i. put_at (λ m. told-bare s query told facts m i) dir (facts_with (bare s) (parent_of-bare s dir i) (Some query) (facts dir).marks (facts dir)) n)
    ∙ ap (λ (new : Facts). put_at (facts_told query told s facts) dir new n) (with-bare s (parent_of s dir) (Some query) (facts dir).marks (facts dir))
facts-bare (Mark mark) s facts n =
    let marks = with_mark mark.kind mark.item (facts mark.dir).marks in
    (λ i. put_at facts mark.dir (facts_with (bare s) (parent_of-bare s mark.dir i) (query_at-bare s mark.dir i) marks (facts mark.dir)) n)
    ∙ ap (λ (new : Facts). put_at facts mark.dir new n) (with-bare s (parent_of s mark.dir) (query_at s mark.dir) marks (facts mark.dir))
facts-bare (Mv entry dir name) s facts n =
    ap (λ (asked : Option (Formula ℕ)). put_at facts entry (facts_with (bare s) dir asked (facts entry).marks (facts entry)) n) (query_at-bare s entry)
    ∙ ap (λ (new : Facts). put_at facts entry new n) (with-bare s dir (query_at s entry) (facts entry).marks (facts entry))
facts-bare (Smount dir name space documents told) s facts n = ap (λ (terms : List Term). put_at facts s.next (record no_facts { answers = answers_to terms told }) n) (terms-bare s)
facts-bare (Ssync mount documents told) s facts n = λ i.
    put_at (facts_without (λ item. gone_at-bare mount documents s item i) facts) mount (record no_facts { answers = answers_to (terms-bare s i) told }) n
facts-bare (Sumount mount) s facts n = λ i. put_at (facts_without (λ item. of_mount_at-bare mount s item i) facts) mount no_facts n
facts-bare other s facts n = refl

pub permanent-fact : (s : State) (n : ℕ) → permanent_at s n ≡ (facts_of s n).marks.permanent
permanent-fact s n = elim (entry_at s.entries n) as (λ (o : Option Entry). option_map_or permanent_in (option_map (λ (e : Entry). e.body) o) [] ≡ (facts_at (is_directory_at s.entries) o).marks.permanent) [ None ↦ refl | Some e ↦ refl ]

pub prohibited-fact : (s : State) (n : ℕ) → prohibited_at s n ≡ (facts_of s n).marks.prohibited
prohibited-fact s n = elim (entry_at s.entries n) as (λ (o : Option Entry). option_map_or prohibited_in (option_map (λ (e : Entry). e.body) o) [] ≡ (facts_at (is_directory_at s.entries) o).marks.prohibited) [ None ↦ refl | Some e ↦ refl ]

pub answers-fact : (s : State) (n : ℕ) → answers_at s n ≡ (facts_of s n).answers
answers-fact s n = elim (entry_at s.entries n) as (λ (o : Option Entry). option_map_or answers_in (option_map (λ (e : Entry). e.body) o) [] ≡ (facts_at (is_directory_at s.entries) o).answers) [ None ↦ refl | Some e ↦ refl ]
