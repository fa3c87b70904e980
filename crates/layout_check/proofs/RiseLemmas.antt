-- Numbers that rise.
use Rattle.std.proofs.Common.{◌≡◌, ℕ, ◌<◌, true, List, [], ◌∷◌, arith}
use Rattle.std.specs.Prelude.{nat_lt}
use Rattle.std.specs.List.{AllByRecursion}
use Rattle.std.proofs.lemmas.Bool.{and_parts, ltb-true}
use Rattle.hac_model.specs.Tree.Valid.{NumbersRise}
use Rattle.hac_model.specs.Tree.ValidTest.{do_numbers_rise}
use Rattle.hac_model.specs.declared.states.Entry.{Entry}
use Rattle.layout_check.specs.Rising.{DoRise}

all-above :
    (low above : ℕ) (es : List Entry) (below : ℕ) → low < above → NumbersRise above es below →
    AllByRecursion (λ (e : Entry). low < e.number) es
all-above low above [] below less h = tt
all-above low above (e ∷ es) below less h =
    let over : low < e.number = omega (arith, h.0) in
    (over, all-above low e.number es below over h.1)

above-all :
    (above : ℕ) (es : List Entry) (below : ℕ) → NumbersRise above es below →
    AllByRecursion (λ (e : Entry). above < e.number) es
above-all above [] below h = tt
above-all above (e ∷ es) below h = (h.0, all-above above e.number es below h.0 h.1)

pub rises : (above : ℕ) (es : List Entry) (below : ℕ) → NumbersRise above es below → DoRise es
rises above [] below h = tt
rises above (e ∷ es) below h = (above-all e.number es below h.1, rises e.number es below h.1)

pub tested : (above : ℕ) (es : List Entry) (below : ℕ) → do_numbers_rise above es below ≡ true → NumbersRise above es below
tested above [] below h = ltb-true above below h
tested above (e ∷ es) below h =
    let parts = and_parts (nat_lt above e.number) (do_numbers_rise e.number es below) h in
    (ltb-true above e.number parts.0, tested e.number es below parts.1)

-- what the test says
pub tested-rises : (above : ℕ) (es : List Entry) (below : ℕ) → do_numbers_rise above es below ≡ true → DoRise es
tested-rises above es below h = rises above es below (tested above es below h)
