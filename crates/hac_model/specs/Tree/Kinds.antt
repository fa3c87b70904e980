-- How an item is linked, one kind at a time.
use Rattle.std.specs.Prelude.{Bool, true, false}
use Rattle.hac_model.specs.declared.marks.Kind.{Kind}
use Rattle.hac_model.specs.declared.marks.Kind.TheVariants.{Transient, Permanent, Prohibited, Unlinked}

abbrev pub is_transient : Kind → Bool
is_transient Transient = true
is_transient other = false

abbrev pub is_permanent : Kind → Bool
is_permanent Permanent = true
is_permanent other = false

abbrev pub is_prohibited : Kind → Bool
is_prohibited Prohibited = true
is_prohibited other = false

abbrev pub is_unlinked : Kind → Bool
is_unlinked Unlinked = true
is_unlinked other = false

-- an item of the kind is a link, found or added
abbrev pub is_linked : Kind → Bool
is_linked Transient = true
is_linked Permanent = true
is_linked other = false
