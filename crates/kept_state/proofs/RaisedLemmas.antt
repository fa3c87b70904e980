-- A state that is raised to version 2.
use Rattle.std.proofs.Common.{◌≡◌, ap, subst, sym, ◌∙◌}
use Rattle.hac_model.specs.Tree.Facts.{facts_of, joined}
use Rattle.hac_model.specs.Tree.Links.{is_semantic}
use Rattle.hac_model.specs.Tree.{raised}
use Rattle.hac_model.specs.Tree.Valid.{IsValid}
use Rattle.hac_model.specs.declared.states.State.{State}
use Rattle.hac_model.proofs.RaisedLemmas.{raised-valid}
use Rattle.file_tree.specs.Seen as tree
use Rattle.kept_state.specs.Parts.{IsLinked, facts_kept, state_of}
use Rattle.kept_state.specs.declared.parts.Parts.{Parts}

module _ (kept : Parts) (h : IsLinked kept) (grown : tree.Seen) (is : grown.state ≡ raised kept.tree.state) where
  pub raised-state : state_of (record kept { tree = grown }) ≡ raised (state_of kept)
  raised-state = ap (λ (t : State). joined (facts_kept kept) kept.sessions t) is

  pub raised-linked : IsLinked (record kept { tree = grown })
  raised-linked = record {
    valid = subst (λ (s : State). IsValid s) (sym raised-state) (raised-valid (state_of kept) h.valid);
    own = λ n. ap (λ (s : State). facts_of s n) raised-state ∙ h.own n;
    found = h.found;
    lent = h.lent;
    sets = λ dir has. ap (λ (s : State). is_semantic s dir) raised-state ∙ h.sets dir has;
    alone = ap (λ (t : State). t.sessions) is ∙ h.alone;
  }
