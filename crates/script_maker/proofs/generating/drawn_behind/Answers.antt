use Rattle.std.proofs.Common.{◌≡◌, ℕ, ◌+◌, ◌-◌, ◌∙◌, ap, arith, sym}
use Rattle.hac_model.specs.Script.Generator.{drawn_behind, next_drawn}
use Rattle.script_maker.proofs.GeneratingLemmas.{behind-more}
use Rattle.script_maker.proofs.generating.drawn_behind.Goals as goal

pub places-preserved : goal.places-preserved
places-preserved c =
    let left : c.args.places - (c.places.counter + 1) ≡ c.args.places - c.places.counter - 1 = omega arith in
    ap (drawn_behind (c.args.places - (c.places.counter + 1))) c.next_drawn-behind.ensures
    ∙ ap (λ (n : ℕ). drawn_behind n (next_drawn c.places.behind)) left
    ∙ sym (behind-more (c.args.places - c.places.counter) c.places.behind (omega (arith, c.places-test.true)))
    ∙ c.places.invariant
