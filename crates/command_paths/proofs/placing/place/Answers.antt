use Rattle.std.proofs.Common.{ℕ, List, subst, sym, ap, ◌∙◌}
use Rattle.std.specs.Prelude.{Err, Ok, Option, Result}
use Rattle.std.proofs.lemmas.Result.{err_from_is_err_and}
use Rattle.hac_model.specs.Tree.Looks.{look}
use Rattle.hac_model.specs.Tree.Paths.{join}
use Rattle.hac_model.specs.Tree.{path_of}
use Rattle.hac_model.specs.declared.limits.TheConstants.{FOLLOW_LIMIT}
use Rattle.hac_model.specs.declared.places.Place.{Place}
use Rattle.hac_model.specs.declared.replies.Refusal.TheVariants.{Loop}
use Rattle.command_paths.specs.Walked.{Finds}
use Rattle.command_paths.specs.Traces.{trace}
use Rattle.command_paths.specs.Walked.{EndsAs, names_of}
use Rattle.command_paths.specs.declared.placing.Stop.{Stop}
use Rattle.command_paths.proofs.WalkedLemmas.{place-traced}
use Rattle.command_paths.proofs.placing.place.Goals as goal

pub returns-in_err-place : goal.returns-in_err-place
returns-in_err-place c =
    let s = c.args.tree.now.state in
    let path : List (List ℕ) = join (path_of s c.args.base) c.args.word.now in
    let stop = err_from_is_err_and c.from_residual-in_err-place.result c.from_residual-in_err-place.ensures.1 in
    subst (λ (r : Result Place Stop). Finds r (look s c.args.follow path)) (sym (stop.1 ∙ ap Err stop.2))
    (subst (EndsAs path (Err c.in_err-place.field-0.0)) (place-traced s c.args.follow c.args.base c.args.word.now c.begin-start.result c.new-left.result c.push_names.new.left c.know_layout.ensures.layout c.requires.dir c.begin-start.ensures.begin c.new-left.ensures c.in_ok-push_names.ensures) (c.in_err-place.ensures path))

pub returns-in-Some : goal.returns-in-Some
returns-in-Some c =
    let s = c.args.tree.now.state in
    let path : List (List ℕ) = join (path_of s c.args.base) c.args.word.now in
    sym (place-traced s c.args.follow c.args.base c.args.word.now c.begin-start.result c.new-left.result c.push_names.new.left c.know_layout.ensures.layout c.requires.dir c.begin-start.ensures.begin c.new-left.ensures c.in_ok-push_names.ensures)
    ∙ subst (λ (o : Option Place). EndsAs path (Ok o) (trace s c.args.follow path FOLLOW_LIMIT c.begin-start.result (names_of c.push_names.new.left))) c.in-Some.is (c.in_ok-place.ensures path)

pub returns : goal.returns
returns c =
    let s = c.args.tree.now.state in
    let path : List (List ℕ) = join (path_of s c.args.base) c.args.word.now in
    sym (place-traced s c.args.follow c.args.base c.args.word.now c.begin-start.result c.new-left.result c.push_names.new.left c.know_layout.ensures.layout c.requires.dir c.begin-start.ensures.begin c.new-left.ensures c.in_ok-push_names.ensures)
    ∙ subst (λ (o : Option Place). EndsAs path (Ok o) (trace s c.args.follow path FOLLOW_LIMIT c.begin-start.result (names_of c.push_names.new.left))) c.in-None.is (c.in_ok-place.ensures path)
    ∙ ap (λ (p : List (List ℕ)). Err (Loop p)) (sym c.in_ok-joined-in-None.ensures)
