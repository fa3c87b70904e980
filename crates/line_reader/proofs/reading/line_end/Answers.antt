use Rattle.std.proofs.Common.{sym, refl, ◌∙◌}
use Rattle.hac_model.specs.Bytes.{is_line_end}
use Rattle.hac_model.proofs.PrefixLemmas.{front-le, position-from}
use Rattle.line_reader.proofs.reading.line_end.Goals as goal

pub slice_bounds-first_end-count : goal.slice_bounds-first_end-count
slice_bounds-first_end-count c = front-le is_line_end c.args.from c.args.bytes.now c.requires

pub slice_bounds-first_end-start : goal.slice_bounds-first_end-start
slice_bounds-first_end-start c = front-le is_line_end c.args.from c.args.bytes.now c.requires

pub returns-in-Some : goal.returns-in-Some
returns-in-Some c = rw (position-from is_line_end c.args.from c.args.bytes.now c.requires) (rw (sym c.first_end.ensures ∙ c.in-Some.is) refl)

pub returns-in-None : goal.returns-in-None
returns-in-None c = rw (position-from is_line_end c.args.from c.args.bytes.now c.requires) (rw (sym c.first_end.ensures ∙ c.in-None.is) refl)
