-- What a directory provides, by the links that were found and the marks.
use Rattle.std.proofs.Common.{◌≡◌, ℕ, Bool, true, false, ◌||◌, ◌&&◌, refl, ap, sym, ◌∙◌}
use Rattle.std.specs.Prelude.{is_some}
use Rattle.hac_model.specs.Tree.Bare.{bare}
use Rattle.hac_model.specs.Tree.Links.{column, has, is_below, is_item, is_semantic, permanent_at, provide}
use Rattle.hac_model.specs.Tree.{extends}
use Rattle.hac_model.specs.declared.states.State.{State}
use Rattle.hac_model.proofs.AlikeLemmas.{directory-bare, document-bare, file-bare, item-told, path_of-bare, query_at-bare}
use Rattle.link_kinds.specs.Seen.{Known, permanent_in}
use Rattle.scope_rules.specs.Made.{IsMadeOf, found_in}

pub item-bare : (s : State) (n : ℕ) → is_item (bare s) n ≡ is_item s n
item-bare s n = item-told (bare s) n ∙ (λ i. file-bare s n i || document-bare s n i) ∙ sym (item-told s n)

module _ (s tree : State) (marks found : Known) (made : IsMadeOf s tree marks) (dir item : ℕ) where
  -- what depends on no mark is as in the tree
  alike : {X : Type 0} (tell : State → X) → ((s : State) → tell (bare s) ≡ tell s) → tell tree ≡ tell s
  alike tell same = sym (same tree) ∙ ap tell (sym made.bares) ∙ same s

  below : is_below tree dir item ≡ is_below s dir item
  below = alike (λ s. is_below s dir item) (λ s i. (item-bare s item i && directory-bare s dir i) && extends (path_of-bare s item i) (path_of-bare s dir i))

  semantic : is_semantic tree dir ≡ is_semantic s dir
  semantic = alike (λ s. is_semantic s dir) (λ s. ap is_some (query_at-bare s dir))

  is-item : is_item tree item ≡ is_item s item
  is-item = alike (λ s. is_item s item) (λ s. item-bare s item)

  -- what isn't semantic has no links
  linked : (b t : Bool) → is_semantic s dir ≡ b → (b && (t || (has (permanent_in marks dir) item && is_item tree item))) ≡ (b && (t || (has (permanent_at s dir) item && is_item s item)))
  linked true t is = λ i. t || (has (sym (made.permanent dir is) i) item && is-item i)
  linked false t is = refl

  pub provided : (b : Bool) → is_below tree dir item ≡ b → (b || (is_semantic tree dir && (column (found_in found) item dir || (has (permanent_in marks dir) item && is_item tree item)))) ≡ provide s (column (found_in found) item) dir item
  provided b is = (λ i. (sym is ∙ below) i || (semantic i && (column (found_in found) item dir || (has (permanent_in marks dir) item && is_item tree item)))) ∙ ap (λ b. is_below s dir item || b) (linked (is_semantic s dir) (column (found_in found) item dir) refl)
