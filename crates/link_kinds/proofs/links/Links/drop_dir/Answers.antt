use Rattle.std.proofs.Common.{refl, sym, ◌∙◌, None}
use Rattle.std.specs.Prelude.{◌==◌}
use Rattle.link_kinds.specs.Seen.{has_sets}
use Rattle.link_kinds.proofs.KeptLemmas.{are-live, changes-alone, changes-dropped, kept-absent, kept-dropped, loses-sets, sets-changed}
use Rattle.link_kinds.proofs.links.Links.drop_dir.Goals as goal

pub free-requires-clause-live : goal.free-requires-clause-live
free-requires-clause-live c = are-live c.self.inside c.self.invariant c.args.dir c.in-Some.sets (sym c.in-Some.is ∙ c.take_sets.ensures.sets)

pub invariant_of-self : goal.invariant_of-self
invariant_of-self c = kept-dropped c.self.inside (record c.self.inside { dirs = c.take_sets.new.dirs; pool = c.free.new.pool }) c.self.invariant c.args.dir c.in-Some.sets (sym c.in-Some.is ∙ c.take_sets.ensures.sets) c.take_sets.ensures.taken c.free.ensures.freed c.free.ensures.rise

pub returns-in-Some-clause-lists : goal.returns-in-Some-clause-lists
returns-in-Some-clause-lists c = changes-dropped c.self.inside (record c.self.inside { dirs = c.take_sets.new.dirs; pool = c.free.new.pool }) c.self.invariant c.args.dir c.in-Some.sets (sym c.in-Some.is ∙ c.take_sets.ensures.sets) c.take_sets.ensures.taken c.free.ensures.freed c.args.self.now c.self.view_is

pub returns-in-Some-clause-sets : goal.returns-in-Some-clause-sets
returns-in-Some-clause-sets c = λ d.
    sets-changed c.self.inside (record c.self.inside { dirs = c.take_sets.new.dirs; pool = c.free.new.pool }) c.args.self.now c.self.view_is c.args.dir None c.take_sets.ensures.taken d
    ∙ loses-sets (d == c.args.dir) (has_sets c.args.self.now d)

pub invariant_of-self-in_default : goal.invariant_of-self-in_default
invariant_of-self-in_default c = kept-absent c.self.inside (record c.self.inside { dirs = c.take_sets.new.dirs }) c.args.dir c.self.invariant (sym c.in_default.is ∙ c.take_sets.ensures.sets) refl c.take_sets.ensures.taken

pub returns-in_default-clause-lists : goal.returns-in_default-clause-lists
returns-in_default-clause-lists c = changes-alone c.self.inside (record c.self.inside { dirs = c.take_sets.new.dirs }) c.args.self.now c.self.view_is c.args.dir None c.take_sets.ensures.taken refl refl

pub returns-in_default-clause-sets : goal.returns-in_default-clause-sets
returns-in_default-clause-sets c = λ d.
    sets-changed c.self.inside (record c.self.inside { dirs = c.take_sets.new.dirs }) c.args.self.now c.self.view_is c.args.dir None c.take_sets.ensures.taken d
    ∙ loses-sets (d == c.args.dir) (has_sets c.args.self.now d)
