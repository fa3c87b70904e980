-- Events keep what directories ask and how items are marked sound.
use Rattle.hac_model.specs.declared.events.Event.TheVariants.{Smount, Ssync, Sumount}
use Rattle.hac_model.specs.Tree.Mounting.{answers_to}
use Rattle.hac_model.specs.Tree.Mounts.{terms_to_ask}
use Rattle.hac_model.proofs.LayoutLemmas.{sumount-parts}
use Rattle.hac_model.proofs.MountAskLemmas.{mounted-queries, synced-queries, unmounted-queries}
use Rattle.std.proofs.Common.{◌≡◌, ℕ, Bool, true, false, List, [], ◌∷◌, ◌++◌, refl, ap, sym, ◌∙◌}
use Rattle.std.specs.Prelude.{◌==◌, ◌||◌, not, filter, Option, Some, None, IsTrue}
use Rattle.std.specs.Option.{option_map, option_map_or}
use Rattle.std.specs.List.{AllByRecursion, list_all}
use Rattle.std.proofs.lemmas.Bool.{and_parts, eqb-false, not-true, or_parts, or_right}
use Rattle.hac_model.specs.Tree.Depends.{named_in, refers_to}
use Rattle.hac_model.specs.Tree.Events.{accepted, added, apply, asking, can_have_mark, changed_at, edited, forgetting, forgotten, indexed, is_possible, marked, may_ask, next_dirty, plain_body, removed, reseated, rewritten, without}
use Rattle.hac_model.specs.Query.Formula.{Formula}
use Rattle.hac_model.specs.Tree.Limits.{passed_limit}
use Rattle.hac_model.specs.Tree.Links.{can_be_added, has, is_item}
use Rattle.hac_model.specs.Tree.{body_at, entry_at, is_directory, is_directory_at, is_leaf_at, is_linkable, is_made_directory, is_mount, permanent_in, query_in}
use Rattle.hac_model.specs.Tree.Valid.{AreMarks, AsksWell, IsLayout, IsValid}
use Rattle.hac_model.specs.declared.events.Event.{Event}
use Rattle.hac_model.specs.declared.events.Event.TheVariants.{Mkdir, NewFile, Rewrite, Ln, Mark, Mv, Rm, Rmdir, Setq, Smkdir, Step, Unq, Cd}
use Rattle.hac_model.specs.declared.marks.Kind.{Kind}
use Rattle.hac_model.specs.declared.marks.Kind.TheVariants.{Transient, Permanent, Prohibited, Unlinked}
use Rattle.hac_model.specs.declared.states.Body.{Body}
use Rattle.hac_model.specs.declared.states.Body.TheVariants.{Dir, Document, File, Mount, Semantic, Symlink}
use Rattle.hac_model.specs.declared.states.Entry.{Entry}
use Rattle.hac_model.specs.declared.states.State.{State}
use Rattle.hac_model.proofs.ChangeLemmas.{all-append, all-both, all-changed, all-filter, all-weaker, directory-append, directory-changed, directory-kept, entry_at-append, entry_at-kept, is_kept, test-changed}
use Rattle.hac_model.proofs.MapLemmas.{all-map, directory-mapped, test-mapped}
use Rattle.hac_model.proofs.MarkLemmas.{all-passes, forgetting-asks, marked-asks}
use Rattle.hac_model.proofs.PathLemmas.{root-none}
use Rattle.hac_model.proofs.GainLemmas.{ask-told, told-valid}
use Rattle.hac_model.specs.Tree.Asking.{with_told}
use Rattle.hac_model.proofs.StayLemmas.{DirectoriesStay, ItemsStay, added-stays, all-stay, ask-stays, marks-stay}
use Rattle.hac_model.proofs.TreeLemmas.{directory-no_item, directory-no_leaf}
use Rattle.hac_model.proofs.ValidLemmas.{accepted-parts, mark-parts, rmdir-parts, setq-parts, smkdir-parts}
use Rattle.hac_model.proofs.KindLemmas.{role-asking, role-forgetting, role-indexed, role-marked, role-plain, role-rewritten, keeps-directory, keeps-item}

-- An entry is added.

-- a test that the entry of a number passes is passed once another is added
pub test-append : (test : Body → Bool) (es : List Entry) (e : Entry) (n : ℕ) → option_map_or test (body_at es n) false ≡ true → option_map_or test (body_at (es ++ e ∷ []) n) false ≡ true
test-append test es e n h = elim (entry_at es n) as (λ o. entry_at es n ≡ o → option_map_or test (option_map (λ (e : Entry). e.body) o) false ≡ true → option_map_or test (body_at (es ++ e ∷ []) n) false ≡ true) [
  | None ↦ (λ found h. absurd cc)
  | Some there ↦ (λ found h. ap (λ (o : Option Entry). option_map_or test (option_map (λ (e : Entry). e.body) o) false) (entry_at-append es e n there found) ∙ h)
] refl h

pub added-directories : (s : State) (dir : ℕ) (name : List ℕ) (body : Body) → DirectoriesStay s (added s dir name body)
added-directories s dir name body d there = directory-append s.entries (record { number = s.next; parent = dir; name = name; body = body }) d there

added-asks : (s : State) (dir : ℕ) (name : List ℕ) (body : Body) → IsValid s → AsksWell (added s dir name body) body → AllByRecursion (λ e. AsksWell (added s dir name body) e.body) (added s dir name body).entries
added-asks s dir name body h asks =
    let new : Entry = record { number = s.next; parent = dir; name = name; body = body } in
    all-append (λ e. AsksWell (added s dir name body) e.body) s.entries new (all-stay s (added s dir name body) (added-directories s dir name body) (λ n there. test-append is_linkable s.entries new n there) h.queries) asks

-- A body is edited, or an entry goes elsewhere.

changed-asks : (s : State) (n : ℕ) (change : Entry → Entry) → ((e : Entry) → (change e).number ≡ e.number) → ((e : Entry) → is_directory (change e).body ≡ is_directory e.body) → ((e : Entry) → is_linkable (change e).body ≡ is_linkable e.body) →
    ((e : Entry) → AsksWell (changed_at s n change) e.body → AsksWell (changed_at s n change) (change e).body) → IsValid s → AllByRecursion (λ e. AsksWell (changed_at s n change) e.body) (changed_at s n change).entries
changed-asks s n change numbers dirs items keeps h =
    all-changed (λ e. AsksWell (changed_at s n change) e.body) n change s.entries keeps
    (all-stay s (changed_at s n change) (λ d there. directory-changed n change s.entries d numbers dirs ∙ there) (λ m there. test-changed is_linkable n change s.entries m numbers items ∙ there) h.queries)

rewritten-asks : (s : State) (text : List ℕ) (body : Body) → AsksWell s body → AsksWell s (rewritten text body)
rewritten-asks s text (Semantic query permanent prohibited) h = h
rewritten-asks s text other h = tt

indexed-asks : (s : State) (body : Body) → AsksWell s body → AsksWell s (indexed body)
indexed-asks s (Semantic query permanent prohibited) h = h
indexed-asks s other h = tt

asking-asks : (s : State) (query : Formula ℕ) (body : Body) → may_ask s query ≡ true → AsksWell s body → AsksWell s (asking query body)
asking-asks s query Dir fits h = record { fits = fits; added = record { rise = tt; there = tt }; removed = record { rise = tt; there = tt }; apart = tt }
asking-asks s query (Semantic old permanent prohibited) fits h = record { fits = fits; added = h.added; removed = h.removed; apart = h.apart }
asking-asks s query other fits h = tt

plain-asks : (s : State) (body : Body) → AsksWell s body → AsksWell s (plain_body body)
plain-asks s (Semantic query permanent prohibited) h = tt
plain-asks s other h = tt

-- what can have a mark can still have it, where directories and items stay
marking-stays : (s t : State) (n : ℕ) (kind : Kind) → (is_directory_at s.entries n ≡ true → is_directory_at t.entries n ≡ true) → (is_item s n ≡ true → is_item t n ≡ true) → can_have_mark s n kind ≡ true → can_have_mark t n kind ≡ true
marking-stays s t n Prohibited dirs items can = items can
marking-stays s t n Permanent dirs items can = added-stays s t n dirs items can
marking-stays s t n Transient dirs items can = added-stays s t n dirs items can
marking-stays s t n Unlinked dirs items can = added-stays s t n dirs items can

-- directories and items of a state in which a body was edited
pub edited-directories : (s : State) (n : ℕ) (edit : Body → Body) → ((body : Body) → is_directory (edit body) ≡ is_directory body) → DirectoriesStay s (changed_at s n (edited edit))
edited-directories s n edit kind d there = directory-changed n (edited edit) s.entries d (λ e. refl) (λ e. kind e.body) ∙ there

edited-items : (s : State) (n : ℕ) (edit : Body → Body) → ((body : Body) → is_linkable (edit body) ≡ is_linkable body) → ItemsStay s (changed_at s n (edited edit))
edited-items s n edit item m there = test-changed is_linkable n (edited edit) s.entries m (λ e. refl) (λ e. item e.body) ∙ there

-- An entry goes.

pub leaf-no_directory : (s : State) (leaf d : ℕ) → IsLayout s → is_leaf_at s.entries leaf ≡ true → is_directory_at s.entries d ≡ true → leaf ≡ d → ⊥
leaf-no_directory s leaf d h there dir same =
    let other : is_leaf_at s.entries d ≡ false = directory-no_leaf s.entries d (root-none s h) dir in
    let never : true ≡ false = sym there ∙ ap (is_leaf_at s.entries) same ∙ other in cc

-- an item is no directory
pub item-no_directory : (s : State) (item d : ℕ) → IsLayout s → is_item s item ≡ true → is_directory_at s.entries d ≡ true → item ≡ d → ⊥
item-no_directory s item d h there dir same =
    let other : is_item s d ≡ false = directory-no_item s.entries d (root-none s h) dir in
    let never : true ≡ false = sym there ∙ ap (is_item s) same ∙ other in cc

-- without a leaf, of which no mark speaks any more
forgotten-asks : (s : State) (file : ℕ) (body : Body) → IsLayout s → is_leaf_at s.entries file ≡ true → AsksWell s body → AsksWell (forgotten (removed s file) file) (forgetting file body)
forgotten-asks s file (Semantic query permanent prohibited) h there asks =
    let rest = forgetting-asks s file (Semantic query permanent prohibited) asks in
    record {
      fits = ask-stays s (forgotten (removed s file) file) query (λ d inside dir. directory d dir) asks.fits;
      added = marks (can_be_added s) (can_be_added t) (λ n can other. added-stays s t n (directory n) (λ there. item n there other) can) permanent rest.added;
      removed = marks (is_item s) (is_item t) item prohibited rest.removed;
      apart = rest.apart;
    }
  where
    t : State
    t = forgotten (removed s file) file

    item : (n : ℕ) → is_item s n ≡ true → not (n == file) ≡ true → is_item t n ≡ true
    item n there other =
        test-mapped is_linkable (forgetting file) (filter (is_kept file) s.entries) n (keeps-item (forgetting file) (role-forgetting file))
        ∙ ap (λ (o : Option Entry). option_map_or is_linkable (option_map (λ (e : Entry). e.body) o) false) (entry_at-kept file s.entries n (λ same. eqb-false n file (not-true (n == file) other) (sym same)))
        ∙ there

    directory : (d : ℕ) → is_directory_at s.entries d ≡ true → is_directory_at t.entries d ≡ true
    directory d dir = directory-mapped (forgetting file) (filter (is_kept file) s.entries) d (keeps-directory (forgetting file) (role-forgetting file)) ∙ directory-kept file s.entries d (leaf-no_directory s file d h there dir) ∙ dir

    marks : (test kept : ℕ → Bool) → ((n : ℕ) → test n ≡ true → not (n == file) ≡ true → kept n ≡ true) → (xs : List ℕ) → AreMarks test (without file xs) → AreMarks kept (without file xs)
    marks test kept stay xs m = record {
      rise = m.rise;
      there = all-both (λ n. test n ≡ true) (λ n. not (n == file) ≡ true) (λ n. kept n ≡ true) (without file xs) stay m.there (all-passes (λ other. not (other == file)) xs);
    }
forgotten-asks s file other h there asks = tt

-- without a directory to which no entry refers
unreferenced-asks : (s : State) (dir : ℕ) (e : Entry) → IsLayout s → is_made_directory s.entries dir ≡ true → not (refers_to dir e) ≡ true → AsksWell s e.body → AsksWell (removed s dir) e.body
unreferenced-asks s dir e h made apart asks = body e.body (not-true (refers_to dir e) apart) asks
  where
    there : is_directory_at s.entries dir ≡ true
    there = or_right (dir == 0) (is_made_directory s.entries dir) made

    item : ItemsStay s (removed s dir)
    item n linked = ap (λ (o : Option Entry). option_map_or is_linkable (option_map (λ (e : Entry). e.body) o) false) (entry_at-kept dir s.entries n (λ same. item-no_directory s n dir h linked there (sym same))) ∙ linked

    other : (ns : List ℕ) → has ns dir ≡ false → AllByRecursion (λ n. dir ≡ n → ⊥) ns
    other [] apart = tt
    other (n ∷ ns) apart =
        let parts = or_parts (n == dir) (has ns dir) apart in
        (λ same. eqb-false n dir parts.0 (sym same), other ns parts.1)

    body : (b : Body) → (option_map_or (λ query. has (named_in query) dir) (query_in b) false || has (permanent_in b) dir) ≡ false → AsksWell s b → AsksWell (removed s dir) b
    body (Semantic query permanent prohibited) apart asks =
        let parts = or_parts (has (named_in query) dir) (has permanent dir) apart in
        record {
          fits = ask-stays s (removed s dir) query (λ d inside stands. directory-kept dir s.entries d (λ same. let never : true ≡ false = sym inside ∙ ap (has (named_in query)) (sym same) ∙ parts.0 in cc) ∙ stands) asks.fits;
          added = record {
            rise = asks.added.rise;
            there = all-both (λ n. dir ≡ n → ⊥) (λ n. can_be_added s n ≡ true) (λ n. can_be_added (removed s dir) n ≡ true) permanent
                (λ n apart can. added-stays s (removed s dir) n (λ stands. directory-kept dir s.entries n apart ∙ stands) (item n) can) (other permanent parts.1) asks.added.there;
          };
          removed = marks-stay (is_item s) (is_item (removed s dir)) prohibited item asks.removed;
          apart = asks.apart;
        }
    body other apart asks = tt

all-unreferenced : (s : State) (dir : ℕ) (es : List Entry) → IsLayout s → is_made_directory s.entries dir ≡ true → list_all (λ e. not (refers_to dir e)) es ≡ true → AllByRecursion (λ e. AsksWell s e.body) es → AllByRecursion (λ e. AsksWell (removed s dir) e.body) es
all-unreferenced s dir [] h made apart asks = tt
all-unreferenced s dir (e ∷ es) h made apart asks =
    let parts = and_parts (not (refers_to dir e)) (list_all (λ e. not (refers_to dir e)) es) apart in
    (unreferenced-asks s dir e h made parts.0 asks.0, all-unreferenced s dir es h made parts.1 asks.1)

-- the queries and marks stay sound
pub apply-queries : (s : State) (event : Event) → IsValid s → IsTrue (accepted s event) → AllByRecursion (λ e. AsksWell (apply s event) e.body) (apply s event).entries
apply-queries s (Mkdir dir name) h ok = added-asks s dir name Dir h tt
apply-queries s (NewFile dir name text) h ok = added-asks s dir name (File text true None) h tt
apply-queries s (Rewrite file text) h ok = changed-asks s file (edited (rewritten text)) (λ e. refl) (λ e. keeps-directory (rewritten text) (role-rewritten text) e.body) (λ e. keeps-item (rewritten text) (role-rewritten text) e.body) (λ e there. rewritten-asks (apply s (Rewrite file text)) text e.body there) h
apply-queries s (Ln dir name target) h ok = added-asks s dir name (Symlink target) h tt
apply-queries s (Smkdir dir name query told) h ok =
    let parts = accepted-parts (is_possible s (Smkdir dir name query told)) (passed_limit (apply s (Smkdir dir name query told))) ok in
    let asks = smkdir-parts s dir name query told parts.0 in
    let old : State = with_told query told s in
    let fits = ask-told s query told query ∙ asks.1 in
    let t : State = added old dir name (Semantic query [] []) in
    added-asks old dir name (Semantic query [] []) (told-valid s query told h asks.1 asks.2 asks.3) (record { fits = ask-stays old t query (λ d inside there. added-directories old dir name (Semantic query [] []) d there) fits; added = record { rise = tt; there = tt }; removed = record { rise = tt; there = tt }; apart = tt })
apply-queries s (Setq dir query told) h ok =
    let parts = accepted-parts (is_possible s (Setq dir query told)) (passed_limit (apply s (Setq dir query told))) ok in
    let asks = setq-parts s dir query told parts.0 in
    let old : State = with_told query told s in
    let t : State = changed_at old dir (edited (asking query)) in
    let fits = ask-stays old t query (λ d inside there. edited-directories old dir (asking query) (keeps-directory (asking query) (role-asking query)) d there) (ask-told s query told query ∙ asks.1) in
    changed-asks old dir (edited (asking query)) (λ e. refl) (λ e. (keeps-directory (asking query) (role-asking query)) e.body) (λ e. (keeps-item (asking query) (role-asking query)) e.body) (λ e there. asking-asks t query e.body fits there) (told-valid s query told h asks.1 asks.3 asks.5)
apply-queries s (Unq dir) h ok = changed-asks s dir (edited plain_body) (λ e. refl) (λ e. (keeps-directory plain_body role-plain) e.body) (λ e. (keeps-item plain_body role-plain) e.body) (λ e there. plain-asks (apply s (Unq dir)) e.body there) h
apply-queries s (Mark mark) h ok =
    let edit : Body → Body = marked mark.item mark.kind in
    let parts = accepted-parts (is_possible s (Mark mark)) (passed_limit (changed_at s mark.dir (edited edit))) ok in
    let t : State = changed_at s mark.dir (edited edit) in
    let can : can_have_mark t mark.item mark.kind ≡ true = marking-stays s t mark.item mark.kind (edited-directories s mark.dir edit (keeps-directory (marked mark.item mark.kind) (role-marked mark.item mark.kind)) mark.item) (edited-items s mark.dir edit (keeps-item (marked mark.item mark.kind) (role-marked mark.item mark.kind)) mark.item) (mark-parts s mark.dir mark.item mark.kind parts.0).0 in
    changed-asks s mark.dir (edited edit) (λ e. refl) (λ e. (keeps-directory (marked mark.item mark.kind) (role-marked mark.item mark.kind)) e.body) (λ e. (keeps-item (marked mark.item mark.kind) (role-marked mark.item mark.kind)) e.body) (λ e there. marked-asks t mark.item mark.kind e.body can there) h
apply-queries s (Mv entry dir name) h ok = changed-asks s entry (reseated dir name) (λ e. refl) (λ e. refl) (λ e. refl) (λ e there. there) h
apply-queries s (Rm file) h ok =
    let parts = accepted-parts (is_leaf_at s.entries file) (passed_limit (forgotten (removed s file) file)) ok in
    let t : State = forgotten (removed s file) file in
    all-map (λ e. AsksWell t e.body) (edited (forgetting file)) (filter (is_kept file) s.entries)
    (all-filter (λ e. AsksWell t (forgetting file e.body)) (is_kept file) s.entries
    (all-weaker (λ e. AsksWell s e.body) (λ e. AsksWell t (forgetting file e.body)) s.entries (λ e asks. forgotten-asks s file e.body h.layout parts.0 asks) h.queries))
apply-queries s (Rmdir dir) h ok =
    let parts = accepted-parts (is_possible s (Rmdir dir)) (passed_limit (removed s dir)) ok in
    let fits = rmdir-parts s dir parts.0 in
    all-filter (λ e. AsksWell (removed s dir) e.body) (is_kept dir) s.entries (all-unreferenced s dir s.entries h.layout fits.0 fits.2 h.queries)
apply-queries s Step h ok = elim (next_dirty s.entries) as (λ o. AllByRecursion (λ e. AsksWell (option_map_or (λ file. changed_at s file (edited indexed)) o s) e.body) (option_map_or (λ file. changed_at s file (edited indexed)) o s).entries) [
  | None ↦ h.queries
  | Some file ↦ changed-asks s file (edited indexed) (λ e. refl) (λ e. keeps-directory indexed role-indexed e.body) (λ e. keeps-item indexed role-indexed e.body) (λ e there. indexed-asks (changed_at s file (edited indexed)) e.body there) h
]
apply-queries s (Cd session dir) h ok = all-stay s (apply s (Cd session dir)) (λ d there. there) (λ n there. there) h.queries
apply-queries s (Smount dir name space documents told) h ok = mounted-queries s dir name space (answers_to (terms_to_ask s.entries) told) documents h
apply-queries s (Ssync mount documents told) h ok = synced-queries s mount (answers_to (terms_to_ask s.entries) told) documents h
apply-queries s (Sumount mount) h ok =
    let parts = sumount-parts s mount (accepted-parts (is_possible s (Sumount mount)) (passed_limit (apply s (Sumount mount))) ok).0 in
    unmounted-queries s mount h parts.0 parts.1

pub mount-asks : (b : Body) → is_mount b ≡ true → query_in b ≡ None
mount-asks (Mount space answers) mount = refl
mount-asks Document mount = refl
mount-asks (File text dirty shown) mount = refl
mount-asks Dir mount = refl
mount-asks (Symlink target) mount = refl
mount-asks (Semantic query permanent prohibited) mount = absurd cc

pub rewritten-query : (text : List ℕ) (body : Body) → query_in (rewritten text body) ≡ query_in body
rewritten-query text (File old dirty shown) = refl
rewritten-query text other = refl
