-- What the parts of a kept state tell of it.
use Rattle.std.proofs.Common.{◌≡◌, ℕ, false, cond, List, ap, sym, ◌∙◌}
use Rattle.hac_model.specs.Tree.Facts.{Facts}
use Rattle.hac_model.specs.Tree.Links.{has, is_permanent, is_prohibited}
use Rattle.hac_model.specs.Tree as tree
use Rattle.hac_model.specs.declared.marks.Kind.TheVariants.{Transient, Permanent, Prohibited, Unlinked}
use Rattle.hac_model.specs.declared.states.State.{State}
use Rattle.hac_model.proofs.FillLemmas.{bare-joined}
use Rattle.set_pool.specs.Rising.{is_among}
use Rattle.link_kinds.specs.Seen.{Known, kind_at, permanent_in, prohibited_in, transient_in}
use Rattle.link_kinds.proofs.HasLemmas.{has-among}
use Rattle.kept_state.specs.Parts.{IsLinked, facts_kept, state_of}
use Rattle.kept_state.specs.Readers.{AreMarksOf, IsTreeOf, mark_at}
use Rattle.kept_state.specs.declared.parts.Parts.{Parts}
use Rattle.kept_state.proofs.KeptLemmas.{kept-permanent}
use Rattle.kept_state.proofs.StateLemmas.{tree-layout}
use Rattle.hac_model.proofs.FactLemmas.{prohibited-fact}

-- so are the prohibited items of its directories

module _ (kept : Parts) (h : IsLinked kept) where
  pub tree-of : IsTreeOf (state_of kept) kept.tree.state
  tree-of = record { bares = bare-joined (facts_kept kept) kept.sessions kept.tree.state; layout = tree-layout kept h; sessions = h.alone }

  pub marks-of : AreMarksOf (state_of kept) kept.marks
  marks-of = record {
    permanent = λ dir. sym (kept-permanent kept h dir);
    prohibited = λ dir. sym (prohibited-fact (state_of kept) dir ∙ ap (λ (facts : Facts). facts.marks.prohibited) (h.own dir));
    found = h.found;
  }

module _ (s : State) (marks : Known) (are : AreMarksOf s marks) where
  -- the kind that is kept of an item is its mark
  pub mark-told : (dir item : ℕ) → kind_at marks dir item ≡ mark_at s dir item
  mark-told dir item = λ i. cond (none i) Transient (cond (permanent i) Permanent (cond (prohibited i) Prohibited Unlinked))
    where
      none : is_among item (transient_in marks dir) ≡ false
      none = ap (is_among item) (are.found dir)

      permanent : is_among item (permanent_in marks dir) ≡ is_permanent s dir item
      permanent = sym (has-among (permanent_in marks dir) item) ∙ ap (λ (ns : List ℕ). has ns item) (are.permanent dir)

      prohibited : is_among item (prohibited_in marks dir) ≡ is_prohibited s dir item
      prohibited = sym (has-among (prohibited_in marks dir) item) ∙ ap (λ (ns : List ℕ). has ns item) (are.prohibited dir)
