-- What an event refers to is in a tree just where it is in the state whose tree it is.
use Rattle.std.proofs.Common.{◌≡◌, ℕ, ◌+◌, ◌^◌, ◌<◌, Bool, true, false, List, [], length, refl, ap, sym, ◌∙◌, arith}
use Rattle.std.specs.Prelude.{◌==◌, ◌&&◌, ◌||◌, not, filter, nat_lt, Option, Some, None, is_none}
use Rattle.std.specs.Option.{option_map, option_map_or}
use Rattle.std.proofs.lemmas.Bool.Decides.{nat_tests}
use Rattle.hac_model.specs.Query.Formula.{Formula}
use Rattle.hac_model.specs.Script.PathWords.{is_target}
use Rattle.hac_model.specs.Script.SpaceNames.{is_space_name}
use Rattle.hac_model.specs.Tree.Bare.{bare, bare_body}
use Rattle.hac_model.specs.Tree.Events.{edited, is_free, is_made_holder, is_placed, may_mount, may_sync}
use Rattle.hac_model.specs.Tree.Limits.{is_text}
use Rattle.hac_model.specs.Tree.Mounting.{answers_to, are_documents, are_documents_few, are_told, fresh, is_among, mounted, synced}
use Rattle.hac_model.specs.Tree.Mounts.{terms_to_ask}
use Rattle.hac_model.specs.Tree.Valid.{IsLayout}
use Rattle.hac_model.specs.Tree.{child, entry_at, is_mount_at}
use Rattle.hac_model.specs.declared.events.Event.{Event}
use Rattle.hac_model.specs.declared.events.Event.TheVariants.{Mkdir, NewFile, Rewrite, Ln, Smkdir, Setq, Unq, Mark, Mv, Rm, Rmdir, Smount, Ssync, Sumount, Step, Cd}
use Rattle.hac_model.specs.declared.states.Entry.{Entry}
use Rattle.hac_model.specs.declared.states.State.{State}
use Rattle.hac_model.proofs.AlikeLemmas.{entry_at-bare}
use Rattle.hac_model.proofs.EventLemmas.{due}
use Rattle.hac_model.proofs.LimitLemmas.{limits-within}
use Rattle.hac_model.proofs.MapLemmas.{child-mapped}
use Rattle.kept_state.proofs.StateLemmas.{alike, same-bare, same-directory, same-dirty, same-document, same-file, same-free, same-inside, same-leaf, same-made, same-markable, same-mount, same-next, same-parent, same-semantic, same-some}
use Rattle.event_check.specs.Fitting.{asks_spaces}
use Rattle.event_check.specs.Mounting.{are_told_by, is_one_of, name_at, will_have}
use Rattle.event_check.specs.declared.mounting.Coming.{Coming}
use Rattle.event_check.proofs.MountedLemmas.{mounted-documents, synced-documents, told-by}
use Rattle.std.proofs.Math.Bool.{and-false, and-true}

-- a valid state's numbers leave room for one more
pub one-more : (s : State) → IsLayout s → s.next + 1 < 2 ^ 64
one-more s h = grind (arith, nat_tests, (limits-within s h.limits).numbers)

pub name-bare : (s : State) (n : ℕ) → name_at (bare s) n ≡ name_at s n
name-bare s n = ap (λ (o : Option Entry). option_map_or (λ (e : Entry). e.name) o []) (entry_at-bare s n) ∙ at (entry_at s.entries n)
  where
    at : (o : Option Entry) → option_map_or (λ (e : Entry). e.name) (option_map (edited bare_body) o) [] ≡ option_map_or (λ (e : Entry). e.name) o []
    at None = refl
    at (Some e) = refl

-- an event that is none of these asks no space
pub asks-none : (e : Event) → ((dir : ℕ) (name : List ℕ) (query : Formula ℕ) (told : List (List ℕ)) → e ≡ Smkdir dir name query told → ⊥) → ((dir : ℕ) (query : Formula ℕ) (told : List (List ℕ)) → e ≡ Setq dir query told → ⊥)
    → ((dir : ℕ) (name space : List ℕ) (documents told : List (List ℕ)) → e ≡ Smount dir name space documents told → ⊥) → ((mount : ℕ) (documents told : List (List ℕ)) → e ≡ Ssync mount documents told → ⊥) → asks_spaces e ≡ false
asks-none (Smkdir dir name query told) semantic asks comes syncs = absurd (semantic dir name query told refl)
asks-none (Setq dir query told) semantic asks comes syncs = absurd (asks dir query told refl)
asks-none (Smount dir name space documents told) semantic asks comes syncs = absurd (comes dir name space documents told refl)
asks-none (Ssync mount documents told) semantic asks comes syncs = absurd (syncs mount documents told refl)
asks-none other semantic asks comes syncs = refl

-- a test between two others
between-false : (a b c : Bool) → (a && c) ≡ false → (a && b && c) ≡ false
between-false true b c h = ap (λ (x : Bool). b && x) h ∙ and-false b
between-false false b c h = refl

between-true : (a b c : Bool) → (a && c) ≡ true → (a && b && c) ≡ b
between-true true b c h = ap (λ (x : Bool). b && x) h ∙ and-true b
between-true false b c h = absurd cc

module _ (s t : State) (bares : bare s ≡ bare t) where
  -- a directory that was made isn't a mount
  pub same-made_holder : (dir : ℕ) → is_made_holder s dir ≡ is_made_holder t dir
  same-made_holder dir = λ i. same-made s t bares dir i && not (same-mount s t bares dir i)

  -- an event that asks no space, and has nothing that one told
  pub same-alone : (e : Event) → asks_spaces e ≡ false → is_placed s e ≡ is_placed t e
  same-alone (Mkdir dir name) none = same-free s t bares dir name
  same-alone (NewFile dir name text) none = λ i. same-free s t bares dir name i && is_text text
  same-alone (Rewrite file text) none = λ i. same-file s t bares file i && is_text text
  same-alone (Ln dir name target) none = λ i. same-free s t bares dir name i && is_target target
  same-alone (Unq dir) none = same-semantic s t bares dir
  same-alone (Mark mark) none = λ i. same-markable s t bares mark.item mark.kind i && same-semantic s t bares mark.dir i
  same-alone (Mv entry dir name) none = λ i. same-some s t bares entry i && not (same-document s t bares entry i) && same-free s t bares dir name i && not (same-inside s t bares dir entry i)
  same-alone (Rm entry) none = same-leaf s t bares entry
  same-alone (Rmdir dir) none = λ i. same-made_holder dir i && same-bare s t bares dir i
  same-alone (Sumount mount) none = same-mount s t bares mount
  same-alone Step none = due s.entries ∙ ap (λ (k : ℕ). nat_lt 0 k) (same-dirty s t bares) ∙ sym (due t.entries)
  same-alone (Cd session dir) none = λ i. is_space_name session && same-directory s t bares dir i
  same-alone other none = absurd cc

  same-name : (n : ℕ) → name_at s n ≡ name_at t n
  same-name n = alike s t bares (λ s. name_at s n) (λ s. name-bare s n)

  -- which documents a mount will have
  same-have : (names : List (List ℕ)) (coming : Coming) (n : ℕ) → will_have s names coming n ≡ will_have t names coming n
  same-have names coming n = λ i. (same-document s t bares n i && same-parent s t bares n i == coming.mount) && is_among names (same-name n i) || is_one_of coming.first coming.count n

  same-child : (dir : ℕ) (name : List ℕ) → child s.entries dir name ≡ child t.entries dir name
  same-child dir name = alike s t bares (λ s. child s.entries dir name) (λ s. child-mapped bare_body s.entries dir name)

  same-fresh : (mount : ℕ) (names : List (List ℕ)) → fresh s mount names ≡ fresh t mount names
  same-fresh mount names = λ i. filter (λ name. is_none (same-child mount name i)) names

  same-version : s.version ≡ t.version
  same-version = ap (λ (x : State). x.version) bares

  -- A mount comes.

  module _ (dir : ℕ) (name space : List ℕ) (documents told : List (List ℕ)) where
    abbrev come : Bool
    come = is_free t dir name && is_space_name space && are_documents documents && are_documents_few t.version documents

    same-come : (is_free s dir name && is_space_name space && are_documents documents && are_documents_few s.version documents) ≡ come
    same-come = λ i. same-free s t bares dir name i && is_space_name space && are_documents documents && are_documents_few (same-version i) documents

    abbrev told-mounted : Bool
    told-mounted = are_told (mounted s dir name space (answers_to (terms_to_ask s.entries) told) documents) s.next (terms_to_ask s.entries) told

    pub mount-not : come ≡ false → may_mount s dir name space documents told ≡ false
    mount-not fails = between-false (is_free s dir name && is_space_name space && are_documents documents) told-mounted (are_documents_few s.version documents) (same-come ∙ fails)

    pub mount-told : IsLayout s → come ≡ true → (coming : Coming) (count : ℕ) → coming.mount ≡ t.next → coming.first ≡ t.next + 1 → coming.count ≡ length documents → count ≡ length (terms_to_ask s.entries) →
        are_told_by (will_have t documents coming) count told ≡ may_mount s dir name space documents told
    mount-told h fits coming count at first many terms = sym (
        between-true (is_free s dir name && is_space_name space && are_documents documents) told-mounted (are_documents_few s.version documents) (same-come ∙ fits)
        ∙ told-by (mounted s dir name space (answers_to (terms_to_ask s.entries) told) documents) s.next (terms_to_ask s.entries) told (will_have t documents coming)
        (λ n. mounted-documents s dir name space (answers_to (terms_to_ask s.entries) told) documents h n ∙ ap (λ (coming : Coming). will_have s documents coming n) (sym is) ∙ same-have documents coming n)
        ∙ ap (λ (count : ℕ). are_told_by (will_have t documents coming) count told) (sym terms))
      where
        is : coming ≡ record { mount = s.next; first = s.next + 1; count = length documents }
        is = λ i. record { mount = (at ∙ sym (same-next s t bares)) i; first = (first ∙ ap (λ (n : ℕ). n + 1) (sym (same-next s t bares))) i; count = many i }

  -- A mount is synced.

  module _ (mount : ℕ) (documents told : List (List ℕ)) where
    abbrev change : Bool
    change = is_mount_at t.entries mount && are_documents documents && are_documents_few t.version documents

    same-change : (is_mount_at s.entries mount && are_documents documents && are_documents_few s.version documents) ≡ change
    same-change = λ i. same-mount s t bares mount i && are_documents documents && are_documents_few (same-version i) documents

    abbrev told-synced : Bool
    told-synced = are_told (synced s mount (answers_to (terms_to_ask s.entries) told) documents) mount (terms_to_ask s.entries) told

    pub sync-not : change ≡ false → may_sync s mount documents told ≡ false
    sync-not fails = between-false (is_mount_at s.entries mount && are_documents documents) told-synced (are_documents_few s.version documents) (same-change ∙ fails)

    pub sync-told : IsLayout s → change ≡ true → (coming : Coming) (count : ℕ) → coming.mount ≡ mount → coming.first ≡ t.next → coming.count ≡ length (fresh t mount documents) → count ≡ length (terms_to_ask s.entries) →
        are_told_by (will_have t documents coming) count told ≡ may_sync s mount documents told
    sync-told h fits coming count at first many terms = sym (
        between-true (is_mount_at s.entries mount && are_documents documents) told-synced (are_documents_few s.version documents) (same-change ∙ fits)
        ∙ told-by (synced s mount (answers_to (terms_to_ask s.entries) told) documents) mount (terms_to_ask s.entries) told (will_have t documents coming)
        (λ n. synced-documents s mount (answers_to (terms_to_ask s.entries) told) documents h n ∙ ap (λ (coming : Coming). will_have s documents coming n) (sym is) ∙ same-have documents coming n)
        ∙ ap (λ (count : ℕ). are_told_by (will_have t documents coming) count told) (sym terms))
      where
        is : coming ≡ record { mount = mount; first = s.next; count = length (fresh s mount documents) }
        is = λ i. record { mount = at i; first = (first ∙ sym (same-next s t bares)) i; count = (many ∙ ap (λ (names : List (List ℕ)). length names) (sym (same-fresh mount documents))) i }
