-- Which paths are short after an event, from the paths before it.
use Rattle.std.proofs.Common.{◌≡◌, ℕ, zero, suc, ◌+◌, true, false, cond, List, [], ◌∷◌, length, map, subst, refl, ap, sym, ◌∙◌}
use Rattle.std.specs.Prelude.{◌==◌, ◌&&◌, not, nat_le, filter, Option, Some, None}
use Rattle.std.specs.Option.{option_map}
use Rattle.std.specs.List.{AllByRecursion, list_all}
use Rattle.std.proofs.lemmas.Bool.{and_from, and_parts, eqb-false}
use Rattle.std.proofs.lemmas.List.{length-map}
use Rattle.hac_model.specs.Tree.Events.{changed_in, edited}
use Rattle.hac_model.specs.Tree.Limits.{are_paths_short, has_short_path}
use Rattle.hac_model.specs.Tree.{ancestors, entry_at, is_mount, lineage}
use Rattle.hac_model.specs.declared.limits.TheConstants.{PATH_LIMIT}
use Rattle.hac_model.specs.Tree.Valid.{IsLayout}
use Rattle.hac_model.specs.declared.states.Body.{Body}
use Rattle.hac_model.specs.declared.states.Entry.{Entry}
use Rattle.hac_model.specs.declared.states.State.{State}
use Rattle.hac_model.proofs.ChangeLemmas.{entry_at-changed, entry_at-kept, is_kept, touched, touched-keeps}
use Rattle.hac_model.proofs.PathLemmas.{ancestors_by, limit, lineage-is, root-none}
use Rattle.hac_model.proofs.TreeLemmas.{entry_at-all}

-- what has an entry is no root
pub entry-no_root : (s : State) (n : ℕ) (e : Entry) → IsLayout s → entry_at s.entries n ≡ Some e → n ≡ 0 → ⊥
entry-no_root s n e h found here = let none : entry_at s.entries n ≡ None = subst (λ (k : ℕ). entry_at s.entries k ≡ None) (sym here) (root-none s h) in absurd cc

-- the names of entries, from the lowest up
abbrev pub names_of : List Entry → List (List ℕ)
names_of es = map (λ (e : Entry). e.name) es

-- a path fits or doesn't by how many names it has, where both are mounts or neither is
pub path-alike : (es other : List Entry) (e f : Entry) → length (names_of (lineage es e.number)) ≡ length (names_of (lineage other f.number)) → is_mount e.body ≡ is_mount f.body → has_short_path es e ≡ has_short_path other f
path-alike es other e f same kind = λ i. nat_le (even i + cond {A = ℕ} (kind i) 1 0) PATH_LIMIT
  where
    even : length (lineage es e.number) ≡ length (lineage other f.number)
    even = sym (length-map (lineage es e.number) (λ (e : Entry). e.name)) ∙ same ∙ length-map (lineage other f.number) (λ (e : Entry). e.name)

-- A path where parents stay as they are.

-- the change keeps numbers, parents and names
pub record KeepsPlace (change : Entry → Entry) : Type 0 where
  pub numbers : (e : Entry) → (change e).number ≡ e.number
  pub parents : (e : Entry) → (change e).parent ≡ e.parent
  pub names : (e : Entry) → (change e).name ≡ e.name

pub edited-keeps : (edit : Body → Body) → KeepsPlace (edited edit)
edited-keeps edit = record { numbers = λ e. refl; parents = λ e. refl; names = λ e. refl }

ancestors-placed : (steps n : ℕ) (change : Entry → Entry) (es : List Entry) (m : ℕ) → KeepsPlace change → names_of (ancestors steps (changed_in n change es) m) ≡ names_of (ancestors steps es m)
ancestors-placed zero n change es m keeps = refl
ancestors-placed (suc steps) n change es m keeps =
    ap (λ (o : Option Entry). names_of (ancestors_by steps (changed_in n change es) o)) (entry_at-changed n change es m keeps.numbers)
    ∙ (elim (entry_at es m) as (λ o. names_of (ancestors_by steps (changed_in n change es) (option_map (touched n change) o)) ≡ names_of (ancestors_by steps es o)) [
      | None ↦ refl
      | Some e ↦
          ap (λ (p : ℕ). (touched n change e).name ∷ names_of (ancestors steps (changed_in n change es) p)) (touched-keeps (λ e. e.parent) n change e (keeps.parents e))
          ∙ ap (λ (names : List (List ℕ)). (touched n change e).name ∷ names) (ancestors-placed steps n change es e.parent keeps)
          ∙ ap (λ (x : List ℕ). x ∷ names_of (ancestors steps es e.parent)) (touched-keeps (λ e. e.name) n change e (keeps.names e))
    ])

lineage-edited : (es : List Entry) (n : ℕ) (edit : Body → Body) (m : ℕ) → names_of (lineage (changed_in n (edited edit) es) m) ≡ names_of (lineage es m)
lineage-edited es n edit m =
    ap names_of (lineage-is (changed_in n (edited edit) es) m) ∙ ancestors-placed (suc limit) n (edited edit) es m (edited-keeps edit) ∙ ap names_of (sym (lineage-is es m))

-- so all are short where they were
pub paths-edited : (es : List Entry) (n : ℕ) (edit : Body → Body) → ((body : Body) → is_mount (edit body) ≡ is_mount body) → are_paths_short (changed_in n (edited edit) es) ≡ are_paths_short es
paths-edited es n edit mounts = each es
  where
    one : (e : Entry) → has_short_path (changed_in n (edited edit) es) (touched n (edited edit) e) ≡ has_short_path es e
    one e = path-alike (changed_in n (edited edit) es) es (touched n (edited edit) e) e
        (ap (λ (k : ℕ). length (names_of (lineage (changed_in n (edited edit) es) k))) (touched-keeps (λ e. e.number) n (edited edit) e refl) ∙ ap length (lineage-edited es n edit e.number))
        (touched-keeps (λ e. is_mount e.body) n (edited edit) e (mounts e.body))

    each : (rest : List Entry) → list_all (has_short_path (changed_in n (edited edit) es)) (changed_in n (edited edit) rest) ≡ list_all (has_short_path es) rest
    each [] = refl
    each (e ∷ rest) = λ i. one e i && each rest i

-- A path once an empty entry was removed.

ancestors-removed : (steps n : ℕ) (es : List Entry) (m : ℕ) → AllByRecursion (λ e. n ≡ e.parent → ⊥) es → (n ≡ m → ⊥) → ancestors steps (filter (is_kept n) es) m ≡ ancestors steps es m
ancestors-removed zero n es m bare other = refl
ancestors-removed (suc steps) n es m bare other =
    ap (ancestors_by steps (filter (is_kept n) es)) (entry_at-kept n es m other)
    ∙ (elim (entry_at es m) as (λ o. entry_at es m ≡ o → ancestors_by steps (filter (is_kept n) es) o ≡ ancestors_by steps es o) [
      | None ↦ (λ found. refl)
      | Some e ↦ (λ found. ap (λ (above : List Entry). e ∷ above) (ancestors-removed steps n es e.parent bare (entry_at-all (λ e. n ≡ e.parent → ⊥) es m e bare found)))
    ] refl)

lineage-removed : (es : List Entry) (n m : ℕ) → AllByRecursion (λ e. n ≡ e.parent → ⊥) es → (n ≡ m → ⊥) → lineage (filter (is_kept n) es) m ≡ lineage es m
lineage-removed es n m bare other = lineage-is (filter (is_kept n) es) m ∙ ancestors-removed (suc limit) n es m bare other ∙ sym (lineage-is es m)

short-removed : (es : List Entry) (n : ℕ) (e : Entry) → AllByRecursion (λ e. n ≡ e.parent → ⊥) es → (n ≡ e.number → ⊥) → has_short_path (filter (is_kept n) es) e ≡ has_short_path es e
short-removed es n e bare other = path-alike (filter (is_kept n) es) es e e (ap (λ (es : List Entry). length (names_of es)) (lineage-removed es n e.number bare other)) refl

pub paths-removed : (es : List Entry) (n : ℕ) → AllByRecursion (λ e. n ≡ e.parent → ⊥) es → are_paths_short es ≡ true → are_paths_short (filter (is_kept n) es) ≡ true
paths-removed es n bare short = each es short
  where
    each : (rest : List Entry) → list_all (has_short_path es) rest ≡ true → list_all (has_short_path (filter (is_kept n) es)) (filter (is_kept n) rest) ≡ true
    each [] short = refl
    each (e ∷ rest) short =
        let parts = and_parts (has_short_path es e) (list_all (has_short_path es) rest) short in
        elim (e.number == n) as (λ b. (e.number == n) ≡ b → list_all (has_short_path (filter (is_kept n) es)) (cond (not b) (e ∷ filter (is_kept n) rest) (filter (is_kept n) rest)) ≡ true) [
          | true ↦ (λ here. each rest parts.1)
          | false ↦ (λ other. and_from (has_short_path (filter (is_kept n) es) e) (list_all (has_short_path (filter (is_kept n) es)) (filter (is_kept n) rest)) (short-removed es n e bare (λ same. eqb-false e.number n other (sym same)) ∙ parts.0) (each rest parts.1))
        ] refl
