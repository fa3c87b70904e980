use Rattle.std.proofs.Common.{◌≡◌, ◌∙◌, ◌+◌, ◌-◌, ◌≤◌, ℕ, Bool, false, length, arith, ap, sym}
use Rattle.std.specs.Prelude.{◌&&◌, nat_le}
use Rattle.std.proofs.lemmas.Bool.{le-leb}
use Rattle.std.proofs.lemmas.Bool.Decides.{nat_tests}
use Rattle.hac_model.specs.Tree.{path_of}
use Rattle.hac_model.specs.declared.limits.TheConstants.{PATH_LIMIT}
use Rattle.tree_counts.specs.Depths.{is_shallow}
use Rattle.tree_counts.proofs.ShallowLemmas.{deeper-told, no_deeper-told}
use Rattle.tree_counts.proofs.depths.stays_short.Goals as goal

pub returns-then-new-old : goal.returns-then-new-old
returns-then-new-old c = λ name.
    let s = c.args.tree.now.state in
    let new = c.depth-new.result + 1 in
    let less : new ≤ length (path_of s c.args.entry) = omega (arith, c.if-new-old.true, c.depth-old.ensures.depth) in
    le-leb new c.depth-old.result c.if-new-old.true
    ∙ no_deeper-told s c.know_layout.ensures.layout c.args.entry c.args.dir c.requires name new (ap (λ (k : ℕ). k + 1) c.depth-new.ensures.depth) less

pub returns-then-new-le-PATH_LIMIT : goal.returns-then-new-le-PATH_LIMIT
returns-then-new-le-PATH_LIMIT c = λ name.
    let s = c.args.tree.now.state in
    let new = c.depth-new.result + 1 in
    c.is_shallow.ensures
    ∙ ap (λ (b : Bool). b && is_shallow (PATH_LIMIT - new) s c.args.entry) (sym (le-leb new PATH_LIMIT c.if-new-le-PATH_LIMIT.true))
    ∙ deeper-told s c.know_layout.ensures.layout c.args.entry c.args.dir c.requires name new (ap (λ (k : ℕ). k + 1) c.depth-new.ensures.depth)

pub returns-else-new-le-PATH_LIMIT : goal.returns-else-new-le-PATH_LIMIT
returns-else-new-le-PATH_LIMIT c = λ name.
    let s = c.args.tree.now.state in
    let new = c.depth-new.result + 1 in
    let long : nat_le new PATH_LIMIT ≡ false = grind (arith, nat_tests, c.if-new-le-PATH_LIMIT.false) in
    long
    ∙ ap (λ (b : Bool). b && is_shallow (PATH_LIMIT - new) s c.args.entry) (sym long)
    ∙ deeper-told s c.know_layout.ensures.layout c.args.entry c.args.dir c.requires name new (ap (λ (k : ℕ). k + 1) c.depth-new.ensures.depth)
