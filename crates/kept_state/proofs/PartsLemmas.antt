-- A kept state from its parts.
use Rattle.std.proofs.Common.{◌≡◌, ℕ, List, [], ap, sym, subst, ◌∙◌}
use Rattle.std.specs.Prelude.{IsTrue}
use Rattle.hac_model.specs.Tree.Facts.{Facts, facts_of, joined}
use Rattle.hac_model.specs.Tree.Links.{is_semantic}
use Rattle.hac_model.specs.Tree.Valid.{IsValid}
use Rattle.hac_model.specs.declared.states.Session.{Session}
use Rattle.hac_model.specs.declared.states.State.{State}
use Rattle.hac_model.proofs.FactLemmas.{answers-fact, edges-told, permanent-fact, prohibited-fact}
use Rattle.hac_model.proofs.FillLemmas.{rejoined}
use Rattle.kept_facts.specs.Answers.{answers_kept}
use Rattle.kept_state.specs.Parts.{IsLinked, facts_kept, state_of}
use Rattle.kept_state.specs.Readers.{ArePartsOf}
use Rattle.kept_state.specs.declared.parts.Parts.{Parts}

module _ (kept : Parts) (s : State) (h : ArePartsOf s kept.tree.state kept.marks (answers_kept kept.answers) kept.graph) (none : kept.sessions ≡ []) where
  -- what is kept of each number is what the state tells
  pub parts-facts : (n : ℕ) → facts_kept kept n ≡ facts_of s n
  parts-facts n = λ i. record {
    marks = record {
      permanent = (h.marks_are.permanent n ∙ permanent-fact s n) i;
      prohibited = (h.marks_are.prohibited n ∙ prohibited-fact s n) i;
    };
    answers = (h.answers_are n ∙ answers-fact s n) i;
    edges = (h.edges_are n ∙ edges-told s n) i;
  }

  -- so they make that state
  pub parts-state : state_of kept ≡ s
  parts-state =
      ap (λ (f : ℕ → Facts). joined f kept.sessions kept.tree.state) (λ i n. parts-facts n i)
      ∙ ap (λ (xs : List Session). joined (facts_of s) xs kept.tree.state) (none ∙ sym h.sessions)
      ∙ ap (λ (t : State). joined (facts_of s) s.sessions t) h.tree_is
      ∙ rejoined s h.valid.layout.numbers

  pub parts-linked : IsLinked kept
  parts-linked = record {
    valid = subst IsValid (sym parts-state) h.valid;
    own = λ n. ap (λ (t : State). facts_of t n) parts-state ∙ sym (parts-facts n);
    found = h.marks_are.found;
    lent = h.lent;
    sets = λ dir has. subst (λ (t : State). IsTrue (is_semantic t dir)) (sym parts-state) (h.sets dir has);
    alone = ap (λ (t : State). t.sessions) h.tree_is;
  }
