-- The lists of a directory, as hac_model reads lists.
use Rattle.std.proofs.Common.{◌≡◌, ℕ, List, [], ◌∷◌, ◌||◌, refl, ◌∙◌}
use Rattle.hac_model.specs.Tree.Links.{has}
use Rattle.set_pool.specs.Rising.{is_among}
use Rattle.hac_model.specs.Tree.Kinds.{is_permanent, is_transient}
use Rattle.link_kinds.specs.Seen.{AllApart, Known, kind_at, permanent_in, transient_in}
use Rattle.hac_model.proofs.AmongLemmas.{eqb-turned}

pub has-among : (numbers : List ℕ) (number : ℕ) → has numbers number ≡ is_among number numbers
has-among [] number = refl
has-among (first ∷ numbers) number = λ i. eqb-turned first number i || has-among numbers number i

-- the kind of an item says in which list it is
module _ (links : Known) (apart : AllApart links) (dir item : ℕ) where
  pub transient-told : has (transient_in links dir) item ≡ is_transient (kind_at links dir item)
  transient-told = has-among (transient_in links dir) item ∙ (apart dir).transient item

  pub permanent-told : has (permanent_in links dir) item ≡ is_permanent (kind_at links dir item)
  permanent-told = has-among (permanent_in links dir) item ∙ (apart dir).permanent item
