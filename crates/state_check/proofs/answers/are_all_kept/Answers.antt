use Rattle.std.proofs.Common.{rules, sym, ◌∙◌}
use Rattle.std.specs.List.{list_all}
use Rattle.std.proofs.lemmas.Iterator.{YieldsList-from_slice}
use Rattle.std.proofs.lemmas.Iterator.Search.{all_from_yields_List}
use Rattle.hac_model.specs.Tree.Mounts.{is_kept, terms_in}
use Rattle.hac_model.specs.declared.states.Entry.{Entry}
use Rattle.state_check.proofs.ListLemmas.{all_flat}
use Rattle.state_check.proofs.answers.are_all_kept.Goals as goal

pub returns : goal.returns
returns c =
    all_from_yields_List (λ (e : Entry). list_all (is_kept c.args.answers.now)
    (terms_in e.body)) _ _ _ c.all.ensures.ran (YieldsList-from_slice c.args.entries.now cc)
    (λ x b q k. search rules)
    ∙ sym (all_flat (is_kept c.args.answers.now) (λ (e : Entry). terms_in e.body) c.args.entries.now)
