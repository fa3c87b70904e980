use Rattle.std.proofs.Common.{◌≡◌, ◌∙◌, Bool, List, inl, inr, subst, sym, true}
use Rattle.query_index.specs.Sieve.{has_number, number_of}
use Rattle.query_index.proofs.SieveLemmas.{set-only, set-still}
use Rattle.query_index.proofs.sieve.Sieve.admit.Goals as goal

pub returns-clause-others : goal.returns-clause-others
returns-clause-others c others passes =
    let before = subst (λ (marks : List Bool). has_number marks (number_of others) ≡ true) (sym c.self.view_is) passes in
    set-still c.make_marks.new.marks.items c.number_of.result (number_of others) (c.make_marks.ensures.same (number_of others) ∙ before)

pub returns-clause-only : goal.returns-clause-only
returns-clause-only c number marked =
    elim (set-only c.make_marks.new.marks.items c.number_of.result number marked) [
      | inl same ↦ inl (same ∙ c.number_of.ensures.number)
      | inr before ↦ inr (subst (λ (marks : List Bool). has_number marks number ≡ true) c.self.view_is (sym (c.make_marks.ensures.same number) ∙ before))
    ]
