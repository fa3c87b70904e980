use Rattle.std.proofs.Common.{subst, sym, ap, ◌∙◌}
use Rattle.std.specs.Prelude.{Ok, Err, Result}
use Rattle.std.proofs.lemmas.Result.{err_from_is_err_and}
use Rattle.command_paths.specs.Traces.{steps}
use Rattle.command_paths.specs.Walked.{Meets, MeetsDirectory, Walks, names_of}
use Rattle.command_paths.specs.declared.placing.Met.{Met}
use Rattle.command_paths.specs.declared.placing.Stop.{Stop}
use Rattle.command_paths.specs.declared.placing.Walked.{Walked}
use Rattle.command_paths.proofs.WalkedLemmas.{left-meets}
use Rattle.command_paths.proofs.placing.walk_names.Goals as goal

pub returns-in_err-number-clause-walks : goal.returns-in_err-number-clause-walks
returns-in_err-number-clause-walks c = λ jump.
    let s = c.args.tree.now.state in
    let stop = err_from_is_err_and c.from_residual.result c.from_residual.ensures.1 in
    subst (λ (r : Result Walked Stop). Walks jump (names_of c.pop.new.self) r (steps s c.args.follow jump c.args.base (names_of c.args.left.now))) (sym (stop.1 ∙ ap Err stop.2))
    (left-meets s c.args.follow jump c.args.base c.loop-name.dir c.args.left.now c.loop-name.left c.pop.new.self c.in-Some.name c.is_empty.result (Err c.in_err-number.field-0.0) (c.loop-name.invariant.leads jump) c.in-Some.ensures c.is_empty.ensures (c.in_err-number.ensures.meets jump))

pub loop-name-preserved : goal.loop-name-preserved
loop-name-preserved c =
    let s = c.args.tree.now.state in
    record {
      directory = subst (MeetsDirectory s.entries) c.in-Directory.is c.in_ok-number.ensures.directory;
      leads = λ jump. sym (subst (λ (m : Met). Meets s c.args.follow jump c.loop-name.dir (names_of c.pop.new.self) (Ok m) (steps s c.args.follow jump c.args.base (names_of c.args.left.now))) c.in-Directory.is
          (left-meets s c.args.follow jump c.args.base c.loop-name.dir c.args.left.now c.loop-name.left c.pop.new.self c.in-Some.name c.is_empty.result (Ok c.in_ok-number.field-0) (c.loop-name.invariant.leads jump) c.in-Some.ensures c.is_empty.ensures (c.in_ok-number.ensures.meets jump)));
    }

pub returns-in-Link-clause-walks : goal.returns-in-Link-clause-walks
returns-in-Link-clause-walks c = λ jump.
    let s = c.args.tree.now.state in
    subst (λ (m : Met). Meets s c.args.follow jump c.loop-name.dir (names_of c.pop.new.self) (Ok m) (steps s c.args.follow jump c.args.base (names_of c.args.left.now))) c.in-Link.is
    (left-meets s c.args.follow jump c.args.base c.loop-name.dir c.args.left.now c.loop-name.left c.pop.new.self c.in-Some.name c.is_empty.result (Ok c.in_ok-number.field-0) (c.loop-name.invariant.leads jump) c.in-Some.ensures c.is_empty.ensures (c.in_ok-number.ensures.meets jump))

pub returns-in-End-clause-walks : goal.returns-in-End-clause-walks
returns-in-End-clause-walks c = λ jump.
    let s = c.args.tree.now.state in
    subst (λ (m : Met). Meets s c.args.follow jump c.loop-name.dir (names_of c.pop.new.self) (Ok m) (steps s c.args.follow jump c.args.base (names_of c.args.left.now))) c.in-End.is
    (left-meets s c.args.follow jump c.args.base c.loop-name.dir c.args.left.now c.loop-name.left c.pop.new.self c.in-Some.name c.is_empty.result (Ok c.in_ok-number.field-0) (c.loop-name.invariant.leads jump) c.in-Some.ensures c.is_empty.ensures (c.in_ok-number.ensures.meets jump))
