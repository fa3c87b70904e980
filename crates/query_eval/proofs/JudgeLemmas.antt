-- Items that no directory links.
use Rattle.std.proofs.Common.{◌≡◌, ℕ, Bool, true, false, None, refl, ◌∙◌}
use Rattle.std.specs.Prelude.{◌&&◌, ◌||◌, is_some}
use Rattle.hac_model.specs.Tree.Links.{is_unmarked, passes, provide, shown_of, parent_of, satisfies}
use Rattle.hac_model.specs.Tree.{is_document_at}
use Rattle.hac_model.specs.declared.states.State.{State}

fails : (a b c : Bool) → (a && false && b && c) ≡ false
fails true b c = refl
fails false b c = refl

pub passes-none : (s : State) (linked : ℕ → Bool) (dir item : ℕ) → is_document_at s.entries item ≡ false → shown_of s item ≡ None → passes s linked dir item ≡ false
passes-none s linked dir item own none =
    (λ i. provide s linked (parent_of s dir) item && (own i || is_some (none i)) && satisfies s linked dir item && is_unmarked s dir item)
    ∙ fails (provide s linked (parent_of s dir) item) (satisfies s linked dir item) (is_unmarked s dir item)
