-- What is looked up after the bodies of all entries were edited.
use Rattle.std.proofs.Common.{◌≡◌, ℕ, zero, suc, Bool, true, false, cond, List, [], ◌∷◌, length, map, refl, ap, sym, ◌∙◌, arith}
use Rattle.std.specs.Prelude.{◌==◌, ◌&&◌, ◌||◌, ◌++◌, if◌then◌else◌, not, Option, Some, None, IsTrue, is_some}
use Rattle.std.specs.Option.{option_map, option_map_or}
use Rattle.std.specs.List.{AllByRecursion, list_all}
use Rattle.std.specs.Str.{bytes_eq}
use Rattle.hac_model.specs.Tree.Events.{edited}
use Rattle.hac_model.specs.Tree.Limits.{answer_limits, are_paths_short, counts, directory_count, first_passed, has_short_path, item_count, layout_limits, long_paths, mount_count, passed_limit, semantic_count, symlink_count, text_size, file_bytes}
use Rattle.hac_model.specs.Tree.Limits as limits_of
use Rattle.hac_model.specs.Tree.Names.{is_name}
use Rattle.hac_model.specs.Tree.{ancestors, body_at, child, entry_at, is_directory, is_directory_at, is_document, is_linkable, is_mount, is_mount_at, is_queried, is_symlink, lineage}
use Rattle.hac_model.specs.Tree.Valid.{IsLayout, IsSound, NamesDiffer, NumbersRise, is_in_place}
use Rattle.hac_model.specs.declared.limits.LimitWord.TheVariants.{Texts, Dirs, Semantics, Mounts, Symlinks, Path, Items, Numbers}
use Rattle.hac_model.specs.declared.limits.TheConstants.{ITEMS_LIMIT, SEMANTICS_LIMIT, TEXTS_LIMIT}
use Rattle.hac_model.specs.declared.states.Body.{Body}
use Rattle.hac_model.specs.declared.states.Entry.{Entry}
use Rattle.hac_model.specs.declared.states.State.{State}
use Rattle.hac_model.proofs.ChangeLemmas.{all-weaker}
use Rattle.hac_model.proofs.CountLemmas.{directory_count-is, measured, measured-cons, one_if}
use Rattle.hac_model.proofs.DepthLemmas.{names_of, path-alike}
use Rattle.hac_model.proofs.PathLemmas.{ancestors_by, limit, lineage-is}
use Rattle.hac_model.specs.Versions.{dirs_limit, mounts_limit, numbers_limit, symlinks_limit}
use Rattle.hac_model.proofs.KindLemmas.{KeepsKind, KeepsRole, keeps-role, keeps-directory, keeps-document, keeps-item, keeps-mount, keeps-queried, keeps-symlink}

pub all-map : {X Y : Type 0} (P : Y → Type 0) (f : X → Y) (xs : List X) → AllByRecursion (λ x. P (f x)) xs → AllByRecursion P (map f xs)
all-map P f [] h = tt
all-map P f (x ∷ xs) h = (h.0, all-map P f xs h.1)

pub entry_at-mapped : (edit : Body → Body) (es : List Entry) (n : ℕ) → entry_at (map (edited edit) es) n ≡ option_map (edited edit) (entry_at es n)
entry_at-mapped edit [] n = refl
entry_at-mapped edit (e ∷ es) n =
    ap (λ (o : Option Entry). cond (e.number == n) (Some (edited edit e)) o) (entry_at-mapped edit es n)
    ∙ (elim (e.number == n) as (λ b. cond b (Some (edited edit e)) (option_map (edited edit) (entry_at es n)) ≡ option_map (edited edit) (cond b (Some e) (entry_at es n))) [ true ↦ refl | false ↦ refl ])

-- a test of bodies that the edit leaves as it is
pub test-mapped : (test : Body → Bool) (edit : Body → Body) (es : List Entry) (n : ℕ) → ((body : Body) → test (edit body) ≡ test body) → option_map_or test (body_at (map (edited edit) es) n) false ≡ option_map_or test (body_at es n) false
test-mapped test edit es n same =
    ap (λ (o : Option Entry). option_map_or test (option_map (λ (e : Entry). e.body) o) false) (entry_at-mapped edit es n)
    ∙ (elim (entry_at es n) as (λ o. option_map_or test (option_map (λ (e : Entry). e.body) (option_map (edited edit) o)) false ≡ option_map_or test (option_map (λ (e : Entry). e.body) o) false) [
      | None ↦ refl
      | Some e ↦ same e.body
    ])

pub directory-mapped : (edit : Body → Body) (es : List Entry) (d : ℕ) → ((body : Body) → is_directory (edit body) ≡ is_directory body) → is_directory_at (map (edited edit) es) d ≡ is_directory_at es d
directory-mapped edit es d same = ap (λ (b : Bool). d == 0 || b) (test-mapped is_directory edit es d same)

-- an entry in place stays there, where the edit keeps directories, mounts and documents
pub place-mapped : (edit : Body → Body) (es : List Entry) (e : Entry) → KeepsRole edit → is_in_place (map (edited edit) es) (edited edit e) ≡ is_in_place es e
place-mapped edit es e keeps = λ i.
    if keeps-document edit keeps e.body i then mount i else (directory-mapped edit es e.parent (keeps-directory edit keeps) i && not (mount i))
  where
    mount : is_mount_at (map (edited edit) es) e.parent ≡ is_mount_at es e.parent
    mount = test-mapped is_mount edit es e.parent (keeps-mount edit keeps)

pub child-mapped : (edit : Body → Body) (es : List Entry) (dir : ℕ) (name : List ℕ) → child (map (edited edit) es) dir name ≡ child es dir name
child-mapped edit [] dir name = refl
child-mapped edit (e ∷ es) dir name = ap (λ (rest : Option ℕ). cond (e.parent == dir && bytes_eq e.name name) (Some e.number) rest) (child-mapped edit es dir name)

pub differ-mapped : (edit : Body → Body) (es : List Entry) → NamesDiffer es → NamesDiffer (map (edited edit) es)
differ-mapped edit [] h = tt
differ-mapped edit (e ∷ es) h = (child-mapped edit es e.parent e.name ∙ h.0, differ-mapped edit es h.1)

pub numbers-mapped : (edit : Body → Body) (above : ℕ) (es : List Entry) (next : ℕ) → NumbersRise above es next → NumbersRise above (map (edited edit) es) next
numbers-mapped edit above [] next h = h
numbers-mapped edit above (e ∷ es) next h = (h.0, numbers-mapped edit e.number es next h.1)

ancestors-mapped : (edit : Body → Body) (k : ℕ) (es : List Entry) (n : ℕ) → names_of (ancestors k (map (edited edit) es) n) ≡ names_of (ancestors k es n)
ancestors-mapped edit zero es n = refl
ancestors-mapped edit (suc k) es n =
    ap (λ (o : Option Entry). names_of (ancestors_by k (map (edited edit) es) o)) (entry_at-mapped edit es n)
    ∙ (elim (entry_at es n) as (λ o. names_of (ancestors_by k (map (edited edit) es) (option_map (edited edit) o)) ≡ names_of (ancestors_by k es o)) [
      | None ↦ refl
      | Some e ↦ ap (λ (names : List (List ℕ)). e.name ∷ names) (ancestors-mapped edit k es e.parent)
    ])

pub lineage-mapped : (edit : Body → Body) (es : List Entry) (n : ℕ) → names_of (lineage (map (edited edit) es) n) ≡ names_of (lineage es n)
lineage-mapped edit es n = ap names_of (lineage-is (map (edited edit) es) n) ∙ ancestors-mapped edit (suc limit) es n ∙ ap names_of (sym (lineage-is es n))

pub paths-mapped : (edit : Body → Body) (es : List Entry) → ((body : Body) → is_mount (edit body) ≡ is_mount body) → are_paths_short (map (edited edit) es) ≡ are_paths_short es
paths-mapped edit es mounts = each es
  where
    each : (fs : List Entry) → list_all (has_short_path (map (edited edit) es)) (map (edited edit) fs) ≡ list_all (has_short_path es) fs
    each [] = refl
    each (f ∷ fs) = λ i. path-alike (map (edited edit) es) es (edited edit f) f (ap length (lineage-mapped edit es f.number)) (mounts f.body) i && each fs i

-- the state in which the bodies were edited
abbrev pub mapped : (Body → Body) → State → State
mapped edit s = record s { entries = map (edited edit) s.entries }

-- an edit that keeps kinds, and makes no text longer
pub record KeepsMeasures (edit : Body → Body) : Type 0 where
  pub kind : KeepsKind edit
  pub texts : (body : Body) → file_bytes (edit body) ≡ file_bytes body

pub measures-role : (edit : Body → Body) → KeepsMeasures edit → KeepsRole edit
measures-role edit keeps = keeps-role edit keeps.kind

pub measured-mapped : (f : Body → ℕ) (edit : Body → Body) (es : List Entry) → ((body : Body) → f (edit body) ≡ f body) → measured f (map (edited edit) es) ≡ measured f es
measured-mapped f edit [] same = refl
measured-mapped f edit (e ∷ es) same =
    let here : f (edit e.body) ≡ f e.body = same e.body in
    omega (arith, measured-cons f (edited edit e) (map (edited edit) es), measured-cons f e es, here, measured-mapped f edit es same)

-- the limits are as before
counts-mapped : (edit : Body → Body) (s : State) → KeepsMeasures edit → first_passed (layout_limits s.version (counts (mapped edit s)) ++ answer_limits s.version (counts (mapped edit s))) ≡ first_passed (layout_limits s.version (counts s) ++ answer_limits s.version (counts s))
counts-mapped edit s keeps = λ i. first_passed (
    limits_of.limit (texts i) TEXTS_LIMIT Texts ∷ limits_of.limit (dirs i) (dirs_limit s.version) Dirs ∷ limits_of.limit (semantics i) SEMANTICS_LIMIT Semantics
    ∷ limits_of.limit (mounts i) (mounts_limit s.version) Mounts ∷ limits_of.limit (symlinks i) (symlinks_limit s.version) Symlinks ∷ limits_of.limit (paths i) 0 Path ∷ limits_of.limit (items i) ITEMS_LIMIT Items ∷ limits_of.limit s.next (numbers_limit s.version) Numbers ∷ [])
  where
    es : List Entry
    es = s.entries

    ones : (test : Body → Bool) → ((body : Body) → test (edit body) ≡ test body) → measured (one_if test) (map (edited edit) es) ≡ measured (one_if test) es
    ones test same = measured-mapped (one_if test) edit es (λ body. ap (λ (b : Bool). cond {A = ℕ} b 1 0) (same body))

    texts : text_size (map (edited edit) es) ≡ text_size es
    texts = measured-mapped file_bytes edit es keeps.texts

    role : KeepsRole edit
    role = measures-role edit keeps

    dirs : directory_count (map (edited edit) es) ≡ directory_count es
    dirs = omega (arith, ones is_directory (keeps-directory edit role), directory_count-is es, directory_count-is (map (edited edit) es))

    semantics : semantic_count (map (edited edit) es) ≡ semantic_count es
    semantics = ones is_queried (keeps-queried edit keeps.kind)

    symlinks : symlink_count (map (edited edit) es) ≡ symlink_count es
    symlinks = ones is_symlink (keeps-symlink edit role)

    mounts : mount_count (map (edited edit) es) ≡ mount_count es
    mounts = ones is_mount (keeps-mount edit role)

    items : item_count (map (edited edit) es) ≡ item_count es
    items = ones is_linkable (keeps-item edit role)

    paths : long_paths (map (edited edit) es) ≡ long_paths es
    paths = ap (λ (b : Bool). cond {A = ℕ} b 0 1) (paths-mapped edit es (keeps-mount edit role))

pub passed-mapped : (edit : Body → Body) (s : State) → KeepsMeasures edit → passed_limit (mapped edit s) ≡ passed_limit s
unfolding passed_limit
passed-mapped edit s keeps = counts-mapped edit s keeps

pub mapped-passes : (edit : Body → Body) (s : State) → KeepsMeasures edit → passed_limit s ≡ None → passed_limit (mapped edit s) ≡ None
mapped-passes edit s keeps limits = passed-mapped edit s keeps ∙ limits

pub measures-passed : (edit : Body → Body) (s : State) → KeepsMeasures edit → passed_limit (mapped edit s) ≡ None → passed_limit s ≡ None
measures-passed edit s keeps limits = sym (passed-mapped edit s keeps) ∙ limits

-- and a tree stays one
pub mapped-layout : (edit : Body → Body) (s : State) → KeepsMeasures edit → ((body : Body) → IsSound body → IsSound (edit body)) → IsLayout s → IsLayout (mapped edit s)
mapped-layout edit s keeps sound h = record {
  numbers = numbers-mapped edit 0 s.entries s.next h.numbers;
  names = all-map (λ e. IsTrue (is_name e.name)) (edited edit) s.entries h.names;
  places = all-map (λ e. IsTrue (is_in_place (map (edited edit) s.entries) e)) (edited edit) s.entries (all-weaker (λ e. IsTrue (is_in_place s.entries e)) (λ e. IsTrue (is_in_place (map (edited edit) s.entries) (edited edit e))) s.entries (λ e there. place-mapped edit s.entries e (measures-role edit keeps) ∙ there) h.places);
  differ = differ-mapped edit s.entries h.differ;
  bodies = all-map (λ e. IsSound e.body) (edited edit) s.entries (all-weaker (λ e. IsSound e.body) (λ e. IsSound (edit e.body)) s.entries (λ e there. sound e.body there) h.bodies);
  limits = mapped-passes edit s keeps h.limits;
}
