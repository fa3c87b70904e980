-- All items are below the root.
use Rattle.std.proofs.Common.{◌≡◌, ℕ, Bool, true, false, List, [], ◌∷◌, refl, ap, ◌∙◌}
use Rattle.std.specs.Prelude.{◌&&◌, ◌++◌, None, Some}
use Rattle.std.specs.Option.{option_map, option_map_or}
use Rattle.hac_model.specs.Tree.{entry_at, extends, is_linkable, path_of}
use Rattle.hac_model.specs.Tree.Links.{is_below, is_item}
use Rattle.hac_model.specs.Tree.Valid.{IsLayout}
use Rattle.hac_model.specs.declared.states.Entry.{Entry}
use Rattle.hac_model.specs.declared.states.State.{State}
use Rattle.hac_model.proofs.PathLemmas.{path_of-parent, path_of-root}

pub root-holds : (s : State) (item : ℕ) → IsLayout s → is_below s 0 item ≡ is_item s item
root-holds s item h =
    (λ i. (is_item s item && true) && extends (path_of s item) (path_of-root s h i))
    ∙ elim (entry_at s.entries item) as (λ o. entry_at s.entries item ≡ o → ((option_map_or is_linkable (option_map (λ (e : Entry). e.body) o) false && true) && extends (path_of s item) []) ≡ option_map_or is_linkable (option_map (λ (e : Entry). e.body) o) false) [
      | None ↦ (λ at. refl)
      | Some e ↦ (λ at. (λ i. (is_linkable e.body && true) && named e at i) ∙ same (is_linkable e.body))
    ] refl
  where
    longer : (names : List (List ℕ)) (name : List ℕ) → extends (names ++ name ∷ []) [] ≡ true
    longer [] name = refl
    longer (first ∷ names) name = refl

    named : (e : Entry) → entry_at s.entries item ≡ Some e → extends (path_of s item) [] ≡ true
    named e at = ap (λ (names : List (List ℕ)). extends names []) (path_of-parent s item e h at) ∙ longer (path_of s e.parent) e.name

    same : (b : Bool) → ((b && true) && true) ≡ b
    same true = refl
    same false = refl
