use Rattle.std.proofs.Common.{List, subst, sym, ◌∙◌}
use Rattle.hac_model.specs.declared.states.Entry.{Entry}
use Rattle.layout_check.specs.Rising.{DoRise}
use Rattle.layout_check.proofs.RiseLemmas.{tested-rises}
use Rattle.layout_check.proofs.layout.is_layout.Goals as goal

pub are_in_place-requires : goal.are_in_place-requires
are_in_place-requires c =
    tested-rises 0 c.as_slice-entries.result.now c.args.state.now.next
    (sym c.do_numbers_rise.ensures ∙ c.if-not-do_numbers_rise.false)

pub passes_none-requires : goal.passes_none-requires
passes_none-requires c =
    subst (λ (es : List Entry). DoRise es) c.as_slice-entries.ensures
    (tested-rises 0 c.as_slice-entries.result.now c.args.state.now.next
    (sym c.do_numbers_rise.ensures ∙ c.if-not-do_numbers_rise.false))
