-- What the mark of an item tells.
use Rattle.std.proofs.Common.{◌≡◌, Bool, true, false, cond, refl}
use Rattle.std.specs.Prelude.{◌||◌, not}
use Rattle.hac_model.specs.Tree.Kinds.{is_permanent, is_unlinked}
use Rattle.hac_model.specs.declared.marks.Kind.TheVariants.{Permanent, Prohibited, Unlinked}

pub permanent_mark : (p x : Bool) → is_permanent (cond p Permanent (cond x Prohibited Unlinked)) ≡ p
permanent_mark true x = refl
permanent_mark false true = refl
permanent_mark false false = refl

pub no_mark : (p x : Bool) → is_unlinked (cond p Permanent (cond x Prohibited Unlinked)) ≡ not (p || x)
no_mark true x = refl
no_mark false true = refl
no_mark false false = refl
