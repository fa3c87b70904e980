-- What a state is made of, and the links that were found.
use Rattle.std.specs.Prelude.{◌≡◌, ℕ, IsTrue}
use Rattle.hac_model.specs.Tree.Bare.{bare}
use Rattle.hac_model.specs.Tree.Links.{DirLinks, is_semantic, permanent_at}
use Rattle.hac_model.specs.declared.states.State.{State}
use Rattle.link_kinds.specs.Seen.{Known, lent_in, permanent_in, transient_in}

-- the state is that tree, with the marked items as the permanent ones of its semantic directories
pub record IsMadeOf (s tree : State) (marks : Known) : Type 0 where
  pub bares : bare s ≡ bare tree
  pub permanent : (dir : ℕ) → IsTrue (is_semantic s dir) → permanent_at s dir ≡ permanent_in marks dir

-- the links of each directory, as they were found: the items that it found, and those that are lent to it
abbrev pub found_in : Known → ℕ → DirLinks
found_in found dir = record { found = transient_in found dir; lent = lent_in found dir }
