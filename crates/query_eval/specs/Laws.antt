-- A theorem over the definitions alone.
use Rattle.std.specs.Prelude.{◌≡◌, ℕ, Bool, false, None}
use Rattle.hac_model.specs.Tree.Links.{passes, shown_of}
use Rattle.hac_model.specs.Tree.{is_document_at}
use Rattle.hac_model.specs.declared.states.State.{State}

-- an item that is no document, and was never indexed, passes no query
abbrev pub UnindexedIsLinkedNowhere : Type 0
UnindexedIsLinkedNowhere =
    (s : State) (linked : ℕ → Bool) (dir item : ℕ) → is_document_at s.entries item ≡ false → shown_of s item ≡ None → passes s linked dir item ≡ false
