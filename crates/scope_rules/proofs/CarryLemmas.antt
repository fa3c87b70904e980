-- What the tree after an event says of the state after it.
use Rattle.std.proofs.Common.{◌≡◌, ℕ, true, subst, ap, sym, ◌∙◌}
use Rattle.std.specs.Prelude.{◌&&◌, not, is_none, is_some}
use Rattle.std.proofs.lemmas.Bool.{and_parts}
use Rattle.hac_model.specs.Tree.Bare.{bare, bare_body}
use Rattle.hac_model.specs.Tree.Events.{apply, is_clear, is_made_holder, is_placed, is_possible}
use Rattle.hac_model.specs.Tree.Facts.{bare_after}
use Rattle.hac_model.specs.Tree.Limits.{passed_limit}
use Rattle.hac_model.specs.Tree.Links.{is_item, parent_of, query_at, shown_of}
use Rattle.hac_model.specs.Tree.Mounting.{are_documents}
use Rattle.hac_model.specs.Tree.Valid.{IsLayout}
use Rattle.hac_model.specs.Tree.{entry_at, is_directory, is_document_at, is_made_directory, is_mount_at}
use Rattle.hac_model.specs.declared.events.Event.{Event}
use Rattle.hac_model.specs.declared.events.Event.TheVariants.{Setq, Mv, Ssync}
use Rattle.hac_model.specs.declared.states.State.{State}
use Rattle.hac_model.proofs.AcyclicLemmas.{apply-valid}
use Rattle.hac_model.proofs.AlikeLemmas.{document-bare, layout-bare, layout-unbare, mount-bare, parent_of-bare, query_at-bare, shown-bare, some-bare}
use Rattle.hac_model.proofs.BareLemmas.{bare-commutes}
use Rattle.hac_model.proofs.FillLemmas.{tree-law}
use Rattle.hac_model.proofs.MapLemmas.{test-mapped}
use Rattle.hac_model.proofs.MountLayoutLemmas.{documents-parts}
use Rattle.scope_rules.specs.After.{IsBefore}
use Rattle.scope_rules.specs.Fates.{SuitsTree}
use Rattle.scope_rules.proofs.ProvideLemmas.{item-bare}
use Rattle.hac_model.proofs.KindLemmas.{role-bare, keeps-directory}

made-bare : (s : State) (n : ℕ) → is_made_directory (bare s).entries n ≡ is_made_directory s.entries n
made-bare s n = test-mapped is_directory bare_body s.entries n (keeps-directory bare_body role-bare)

module _ (s t : State) (e : Event) (before : IsBefore s t e) where
  -- both are of one tree
  next-bares : bare (apply s e) ≡ bare (bare_after e t)
  next-bares = bare-commutes s e ∙ ap (λ (x : State). bare (apply x e)) before.bares ∙ sym (bare-commutes t e) ∙ sym (tree-law e t)

  pub layout-before : IsLayout t
  layout-before = layout-unbare t (subst IsLayout before.bares (layout-bare s before.valid.layout))

  pub layout-next : IsLayout (apply s e)
  layout-next = (apply-valid s e before.valid before.accepts).layout

  pub layout-after : IsLayout (bare_after e t)
  layout-after = layout-unbare (bare_after e t) (subst IsLayout next-bares (layout-bare (apply s e) layout-next))

  -- so they agree on what depends on no mark
  alike : {X : Type 0} (tell : State → X) → ((s : State) → tell (bare s) ≡ tell s) → tell (bare_after e t) ≡ tell (apply s e)
  alike tell same = sym (same (bare_after e t)) ∙ sym (ap tell next-bares) ∙ same (apply s e)

  pub item-carried : (n : ℕ) → is_item (bare_after e t) n ≡ is_item (apply s e) n
  item-carried n = alike (λ s. is_item s n) (λ s. item-bare s n)

  pub document-carried : (n : ℕ) → is_document_at (bare_after e t).entries n ≡ is_document_at (apply s e).entries n
  document-carried n = alike (λ s. is_document_at s.entries n) (λ s. document-bare s n)

  pub shown-carried : (n : ℕ) → shown_of (bare_after e t) n ≡ shown_of (apply s e) n
  shown-carried n = alike (λ s. shown_of s n) (λ s. shown-bare s n)

  pub directory-carried : (n : ℕ) → is_made_directory (bare_after e t).entries n ≡ is_made_directory (apply s e).entries n
  directory-carried n = alike (λ s. is_made_directory s.entries n) (λ s. made-bare s n)

  pub parent-carried : (n : ℕ) → parent_of (bare_after e t) n ≡ parent_of (apply s e) n
  parent-carried n = alike (λ s. parent_of s n) (λ s. parent_of-bare s n)

  pub query-carried : (n : ℕ) → query_at (bare_after e t) n ≡ query_at (apply s e) n
  query-carried n = alike (λ s. query_at s n) (λ s. query_at-bare s n)

  pub next-carried : (bare_after e t).next ≡ (apply s e).next
  next-carried = sym (ap (λ (x : State). x.next) next-bares)

  placed : is_placed s e ≡ true
  placed = (and_parts (is_clear s e) (is_placed s e) (and_parts (is_possible s e) (is_none (passed_limit (apply s e))) before.accepts).0).1

  told-before : {X : Type 0} (tell : State → X) → ((s : State) → tell (bare s) ≡ tell s) → tell t ≡ tell s
  told-before tell same = sym (same t) ∙ sym (ap tell before.bares) ∙ same s

-- what the event changes is in the tree
pub suits : (s t : State) (e : Event) → IsBefore s t e → SuitsTree e t
suits s t e before = of e (placed s t e before)
  where
    told : {X : Type 0} (tell : State → X) → ((s : State) → tell (bare s) ≡ tell s) → tell t ≡ tell s
    told tell same = told-before s t e before tell same

    of : (f : Event) → is_placed s f ≡ true → SuitsTree f t
    of (Mv entry dir name) is = told (λ s. is_some (entry_at s.entries entry)) (λ s. some-bare s entry) ∙ (and_parts (is_some (entry_at s.entries entry)) _ (and_parts _ _ (and_parts _ _ is).0).0).0
    of (Setq dir query asked) is = (λ i. told (λ s. is_made_directory s.entries dir) (λ s. made-bare s dir) i && not (told (λ s. is_mount_at s.entries dir) (λ s. mount-bare s dir) i)) ∙ (and_parts (is_made_holder s dir) _ is).0
    of (Ssync mount documents asked) is = (documents-parts documents (and_parts (is_mount_at s.entries mount) (are_documents documents) (and_parts (is_mount_at s.entries mount && are_documents documents) _ (and_parts _ _ is).0).0).1).1
    of other is = tt
