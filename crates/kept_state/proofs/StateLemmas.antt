-- What a linked tree says of its state: all but marks is in the tree alone.
use Rattle.std.proofs.Common.{◌≡◌, ℕ, false, List, [], ◌∷◌, map, refl, ap, subst, sym, ◌∙◌}
use Rattle.std.specs.Prelude.{◌&&◌, ◌||◌, not, Option, Some, None, is_some, option_and_then}
use Rattle.std.specs.Option.{option_map_or}
use Rattle.hac_model.specs.Tree.Bare.{bare, bare_body}
use Rattle.hac_model.specs.Tree.Events.{apply, can_have_mark, dirty, edited, is_empty_at, is_free, is_inside, is_made_holder, may_ask}
use Rattle.hac_model.specs.Query.Formula.{Formula}
use Rattle.hac_model.specs.Tree.Limits.{counts}
use Rattle.hac_model.specs.Tree.Mounts.{terms_to_ask}
use Rattle.hac_model.specs.Tree.Links.{can_be_added, is_item, is_semantic, parent_of, query_at, shown_of}
use Rattle.hac_model.specs.Run.Resolving.{resolved_for}
use Rattle.hac_model.specs.Tree.{body_at, entry_at, is_directory, is_directory_at, is_document_at, is_file, is_file_at, is_leaf, is_leaf_at, is_made_directory, is_mount_at, is_symlink, is_symlink_at, path_of, target_in}
use Rattle.hac_model.specs.Tree.Valid.{IsLayout}
use Rattle.hac_model.specs.declared.commands.Command.{Command}
use Rattle.hac_model.specs.declared.events.Event.{Event}
use Rattle.hac_model.specs.declared.marks.Kind.{Kind}
use Rattle.hac_model.specs.declared.marks.Kind.TheVariants.{Transient, Permanent, Prohibited, Unlinked}
use Rattle.hac_model.specs.declared.states.Body.{Body}
use Rattle.hac_model.specs.declared.states.Entry.{Entry}
use Rattle.hac_model.specs.declared.states.State.{State}
use Rattle.hac_model.proofs.AlikeLemmas.{counts-bare, directory-bare, dirty-same, document-bare, file-bare, for-bare, is_bare-bare, is_free-bare, is_inside-bare, item-told, layout-bare, layout-unbare, may_ask-bare, mount-bare, parent_of-bare, path_of-bare, query_at-bare, shown-bare, some-bare, symlink-bare, target_at-bare}
use Rattle.hac_model.proofs.BareLemmas.{bare-commutes}
use Rattle.hac_model.proofs.FillLemmas.{bare-joined}
use Rattle.hac_model.proofs.MapLemmas.{test-mapped}
use Rattle.hac_model.proofs.MountFactLemmas.{terms-bare}
use Rattle.file_tree.specs.Answers.{numbers_of}
use Rattle.kept_state.specs.Parts.{IsLinked, facts_kept, state_of}
use Rattle.kept_state.specs.declared.parts.Parts.{Parts}
use Rattle.hac_model.proofs.KindLemmas as kinds

-- a leaf is a file or a symbolic link
pub leaf-told : (es : List Entry) (n : ℕ) → is_leaf_at es n ≡ (is_file_at es n || is_symlink_at es n)
leaf-told es n = at (body_at es n)
  where
    at : (o : Option Body) → option_map_or is_leaf o false ≡ (option_map_or is_file o false || option_map_or is_symlink o false)
    at None = refl
    at (Some body) = refl

module _ (s t : State) (bares : bare s ≡ bare t) where
  -- what two states that are the same without their facts agree on
  pub alike : {X : Type 0} (tell : State → X) → ((s : State) → tell (bare s) ≡ tell s) → tell s ≡ tell t
  alike tell bare-tell = sym (bare-tell s) ∙ ap tell bares ∙ bare-tell t

  pub same-path : (n : ℕ) → path_of s n ≡ path_of t n
  same-path n = alike (λ s. path_of s n) (λ s. path_of-bare s n)

  pub same-directory : (n : ℕ) → is_directory_at s.entries n ≡ is_directory_at t.entries n
  same-directory n = alike (λ s. is_directory_at s.entries n) (λ s. directory-bare s n)

  pub same-file : (n : ℕ) → is_file_at s.entries n ≡ is_file_at t.entries n
  same-file n = alike (λ s. is_file_at s.entries n) (λ s. file-bare s n)

  pub same-symlink : (n : ℕ) → is_symlink_at s.entries n ≡ is_symlink_at t.entries n
  same-symlink n = alike (λ s. is_symlink_at s.entries n) (λ s. symlink-bare s n)

  pub same-mount : (n : ℕ) → is_mount_at s.entries n ≡ is_mount_at t.entries n
  same-mount n = alike (λ s. is_mount_at s.entries n) (λ s. mount-bare s n)

  pub same-document : (n : ℕ) → is_document_at s.entries n ≡ is_document_at t.entries n
  same-document n = alike (λ s. is_document_at s.entries n) (λ s. document-bare s n)

  pub same-item : (n : ℕ) → is_item s n ≡ is_item t n
  same-item n = item-told s n ∙ (λ i. same-file n i || same-document n i) ∙ sym (item-told t n)

  pub same-leaf : (n : ℕ) → is_leaf_at s.entries n ≡ is_leaf_at t.entries n
  same-leaf n = leaf-told s.entries n ∙ (λ i. same-file n i || same-symlink n i) ∙ sym (leaf-told t.entries n)

  pub same-target : (n : ℕ) → option_and_then target_in (body_at s.entries n) ≡ option_and_then target_in (body_at t.entries n)
  same-target n = alike (λ s. option_and_then target_in (body_at s.entries n)) (λ s. target_at-bare s n)

  pub same-made : (n : ℕ) → is_made_directory s.entries n ≡ is_made_directory t.entries n
  same-made n = alike (λ s. is_made_directory s.entries n) (λ s. test-mapped is_directory bare_body s.entries n (kinds.keeps-directory bare_body kinds.role-bare))

  pub same-some : (n : ℕ) → is_some (entry_at s.entries n) ≡ is_some (entry_at t.entries n)
  same-some n = alike (λ s. is_some (entry_at s.entries n)) (λ s. some-bare s n)

  pub same-parent : (n : ℕ) → parent_of s n ≡ parent_of t n
  same-parent n = alike (λ s. parent_of s n) (λ s. parent_of-bare s n)

  pub same-query : (n : ℕ) → query_at s n ≡ query_at t n
  same-query n = alike (λ s. query_at s n) (λ s. query_at-bare s n)

  pub same-semantic : (n : ℕ) → is_semantic s n ≡ is_semantic t n
  same-semantic n = ap (λ (o : Option (Formula ℕ)). is_some o) (same-query n)

  pub same-bare : (n : ℕ) → is_empty_at s.entries n ≡ is_empty_at t.entries n
  same-bare n = alike (λ s. is_empty_at s.entries n) (λ s. is_bare-bare s n)

  pub same-inside : (dir e : ℕ) → is_inside s dir e ≡ is_inside t dir e
  same-inside dir e = alike (λ s. is_inside s dir e) (λ s. is_inside-bare s dir e)

  pub same-asks : (q : Formula ℕ) → may_ask s q ≡ may_ask t q
  same-asks q = alike (λ s. may_ask s q) (λ s. may_ask-bare s q)

  pub same-counts : counts s ≡ counts t
  same-counts = alike counts counts-bare

  pub same-dirty : dirty s ≡ dirty t
  same-dirty = alike dirty dirty-same

  pub same-shown : (n : ℕ) → shown_of s n ≡ shown_of t n
  same-shown n = alike (λ s. shown_of s n) (λ s. shown-bare s n)

  pub same-next : s.next ≡ t.next
  same-next = ap (λ (x : State). x.next) bares

  pub same-free : (dir : ℕ) (name : List ℕ) → is_free s dir name ≡ is_free t dir name
  same-free dir name = alike (λ s. is_free s dir name) (λ s. is_free-bare s dir name)

  -- a directory that was made isn't a mount
  pub same-holder : (n : ℕ) → is_made_holder s n ≡ is_made_holder t n
  same-holder n = λ i. same-made n i && not (same-mount n i)

  -- the same marks may be on it
  same-added : (n : ℕ) → can_be_added s n ≡ can_be_added t n
  same-added n = λ i. same-item n i || same-directory n i

  pub same-markable : (n : ℕ) (kind : Kind) → can_have_mark s n kind ≡ can_have_mark t n kind
  same-markable n Transient = same-added n
  same-markable n Permanent = same-added n
  same-markable n Prohibited = same-item n
  same-markable n Unlinked = same-added n

  -- both ask spaces for the same terms
  pub same-terms : terms_to_ask s.entries ≡ terms_to_ask t.entries
  same-terms = alike (λ s. terms_to_ask s.entries) terms-bare

  -- the outcome of a command
  pub same-resolved : (session : List ℕ) (base : ℕ) (c : Command) → resolved_for s session base c ≡ resolved_for t session base c
  same-resolved session base c = alike (λ s. resolved_for s session base c) (λ s. for-bare s base session c)

-- states that are one without their facts stay so by an event
pub same-next-bare : (s t : State) → bare s ≡ bare t → (e : Event) → bare (apply s e) ≡ bare (apply t e)
same-next-bare s t bares e = bare-commutes s e ∙ ap (λ (x : State). bare (apply x e)) bares ∙ sym (bare-commutes t e)

-- the tree that is kept has no facts
pub kept-bares : (kept : Parts) → bare (state_of kept) ≡ bare kept.tree.state
kept-bares kept = bare-joined (facts_kept kept) kept.sessions kept.tree.state

-- the numbers of entries are those of the bare ones
pub same-numbers : (s : State) → numbers_of (bare s).entries ≡ numbers_of s.entries
same-numbers s = same-numbers-of s.entries
  where
    same-numbers-of : (es : List Entry) → numbers_of (map (edited bare_body) es) ≡ numbers_of es
    same-numbers-of [] = refl
    same-numbers-of (e ∷ es) = ap (λ (ns : List ℕ). e.number ∷ ns) (same-numbers-of es)

-- the tree itself is one
pub tree-layout : (kept : Parts) → IsLinked kept → IsLayout kept.tree.state
tree-layout kept h = layout-unbare kept.tree.state (subst IsLayout (bare-joined (facts_kept kept) kept.sessions kept.tree.state) (layout-bare (state_of kept) h.valid.layout))
