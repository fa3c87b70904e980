-- The counts of a state after events whose references are in it.
use Rattle.std.proofs.Common.{◌≡◌, ℕ, true, false, cond, List, [], ◌∷◌, length, map, refl, ap, sym, ◌∙◌, arith}
use Rattle.std.specs.Prelude.{◌==◌, not, max, Option, Some, None, IsTrue}
use Rattle.std.specs.Option.{option_map, option_map_or}
use Rattle.std.proofs.lemmas.Bool.{and_parts, not-true}
use Rattle.hac_model.specs.Query.Formula.{Formula}
use Rattle.hac_model.specs.Tree.Bare.{bare, bare_body}
use Rattle.hac_model.specs.Tree.Facts.{bare_after}
use Rattle.hac_model.specs.Tree.Events.{apply, asking, changed_in, changed_at, edited, forgotten, is_empty_at, is_made_holder, marked, removed}
use Rattle.hac_model.specs.Tree.Limits.{counts, long_paths, file_bytes}
use Rattle.hac_model.specs.Tree.{entry_at, is_directory, is_dirty, is_file, is_leaf_at, is_made_directory, is_mount, is_mount_at}
use Rattle.hac_model.specs.Tree.Valid.{IsLayout}
use Rattle.hac_model.specs.declared.counts.Counts.{Counts}
use Rattle.hac_model.specs.declared.events.Event.{Event}
use Rattle.hac_model.specs.declared.events.Event.TheVariants as event
use Rattle.hac_model.specs.declared.marks.Kind.{Kind}
use Rattle.hac_model.specs.declared.marks.Mark.{Mark}
use Rattle.hac_model.specs.declared.states.Body.{Body}
use Rattle.hac_model.specs.declared.states.Body.TheVariants as body
use Rattle.hac_model.specs.declared.states.Entry.{Entry}
use Rattle.hac_model.specs.declared.states.State.{State}
use Rattle.hac_model.proofs.AlikeLemmas.{counts-bare}
use Rattle.hac_model.proofs.BareLemmas.{forgotten-entries, marked-bare}
use Rattle.hac_model.proofs.FillLemmas.{tree-law}
use Rattle.hac_model.proofs.PassedLemmas.{bare-passes, removed-passes}
use Rattle.hac_model.proofs.ValidLemmas.{leaf-bare}
use Rattle.entry_counts.specs.Counting.{share_of}
use Rattle.entry_counts.proofs.CountingLemmas.{long-none}

-- no path is long once something is removed

pub leaf-short : (s : State) (entry : ℕ) → IsLayout s → is_leaf_at s.entries entry ≡ true → long_paths (removed s entry).entries ≡ 0
leaf-short s entry h is = long-none (removed s entry) (removed-passes s entry h (leaf-bare s entry h is))

pub bare-short : (s : State) (dir : ℕ) → IsLayout s → is_empty_at s.entries dir ≡ true → long_paths (removed s dir).entries ≡ 0
bare-short s dir h is = long-none (removed s dir) (bare-passes s dir h is)

-- marks count for nothing
same-counts : (s t : State) → bare s ≡ bare t → counts s ≡ counts t
same-counts s t same = sym (counts-bare s) ∙ ap counts same ∙ counts-bare t

pub forgotten-counts : (s : State) (n : ℕ) → counts (forgotten s n) ≡ counts s
forgotten-counts s n = same-counts (forgotten s n) s (λ i. record { version = s.version; next = s.next; entries = forgotten-entries n s.entries i; sessions = [] })

marked-counts : (s : State) (dir item : ℕ) (kind : Kind) → counts s ≡ counts (changed_at s dir (edited (marked item kind)))
marked-counts s dir item kind = same-counts s (changed_at s dir (edited (marked item kind))) (λ i. record { version = s.version; next = s.next; entries = sym (same s.entries) i; sessions = [] })
  where
    same : (es : List Entry) → map (edited bare_body) (changed_in dir (edited (marked item kind)) es) ≡ map (edited bare_body) es
    same [] = refl
    same (e ∷ es) =
        let first : edited bare_body (cond (e.number == dir) (edited (marked item kind) e) e) ≡ edited bare_body e = elim (e.number == dir) as (λ b. edited bare_body (cond b (edited (marked item kind) e) e) ≡ edited bare_body e) [
          | true ↦ (λ i. record e { body = marked-bare item kind e.body i })
          | false ↦ refl
        ] in
        λ i. first i ∷ same es i

pub mark-counts : (s : State) (e : Event) (mark : Mark) → e ≡ event.Mark mark → counts s ≡ counts (apply s e)
mark-counts s e mark is = marked-counts s mark.dir mark.item mark.kind ∙ ap (λ (e : Event). counts (apply s e)) (sym is)

-- so what an event does to the tree is what counts
pub after-counts : (s : State) (e : Event) → counts (bare_after e s) ≡ counts (apply s e)
after-counts s e = same-counts (bare_after e s) (apply s e) (tree-law e s)

-- What the entry of an edited body counts for.

-- a directory that asks something counts as a semantic one
pub asking-share : (s : State) (dir : ℕ) (query : Formula ℕ) (share : Counts) → is_made_holder s dir ≡ true → ((asked : Formula ℕ) (permanent prohibited : List ℕ) → share ≡ share_of (body.Semantic asked permanent prohibited)) →
    (e : Entry) → entry_at s.entries dir ≡ Some e → share ≡ share_of (asking query e.body)
asking-share s dir query share made each e found =
    let parts = and_parts (is_made_directory s.entries dir) (not (is_mount_at s.entries dir)) made in
    in_body e.body (sym (ap (λ (o : Option Entry). option_map_or is_directory (option_map (λ (e : Entry). e.body) o) false) found) ∙ parts.0)
    (sym (ap (λ (o : Option Entry). option_map_or is_mount (option_map (λ (e : Entry). e.body) o) false) found) ∙ not-true (is_mount_at s.entries dir) parts.1)
  where
    in_body : (b : Body) → is_directory b ≡ true → is_mount b ≡ false → share ≡ share_of (asking query b)
    in_body body.Dir is holder = each query [] []
    in_body (body.Semantic old permanent prohibited) is holder = each query permanent prohibited
    in_body (body.Mount space answers) is holder = absurd cc
    in_body other is holder = absurd cc

-- a new file counts for its text
pub new-file : (text : List ℕ) (bytes : ℕ) (share : Counts) → bytes ≡ length text → ((b : Body) → IsTrue (is_file b) → file_bytes b ≡ bytes → is_dirty b ≡ true → share ≡ share_of b) → share ≡ share_of (body.File text true None)
new-file text bytes share long each =
    let all : max (length text) 0 ≡ bytes = grind (arith, long) in
    each (body.File text true None) refl all refl
