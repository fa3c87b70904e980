use Rattle.std.proofs.Common.{◌≡◌, ◌∙◌, ℕ, Bool, List, None, ap, cond, length, subst, sym, arith}
use Rattle.std.specs.List.{insert}
use Rattle.hac_model.specs.declared.terms.Term.{Term}
use Rattle.kept_facts.specs.Answers.{AreTermsInOrder}
use Rattle.kept_facts.proofs.UseLemmas.{put-end, put-inside, rank}
use Rattle.kept_facts.proofs.terms.put_term.Goals as goal
use Rattle.kept_facts.proofs.terms.put_term.Goals.{then-place-len-via-then-place-len, then-place-len-via-else-place-len+then-is_before}

-- the place is that of the term's rank
ranked : (term : Term) (ts slice : List Term) (place : ℕ) → slice ≡ ts → AreTermsInOrder None ts → (AreTermsInOrder None slice → place ≡ rank term slice) → place ≡ rank term ts
ranked term ts slice place same order is = is (subst (λ (us : List Term). AreTermsInOrder None us) (sym same) order) ∙ ap (λ (us : List Term). rank term us) same

pub returns-in_ok-insert : goal.returns-in_ok-insert
returns-in_ok-insert c =
    let ts = c.args.terms.now.items in
    let place = c.rank-place.result in
    let is : place ≡ rank c.args.term ts = ranked c.args.term ts c.as_slice.result.now place c.as_slice.ensures.value c.requires c.rank-place.ensures.rank in
    let even = ap (λ (ts : List Term). length ts) c.as_slice.ensures.value in
    c.in_ok-insert.ensures.items ∙ sym (elim c.then-place-len.branch [
      | then-place-len-via-then-place-len w ↦ put-end c.args.term ts place is (omega (arith, w.if-place-len.true, c.len.ensures, c.as_slice.ensures.len, even))
      | then-place-len-via-else-place-len+then-is_before w ↦
          put-inside c.args.term ts place is w.index.result.now (omega (arith, w.if-place-len.false, c.rank-place.ensures.within, c.len.ensures, c.as_slice.ensures.len, even)) w.index.ensures
          ∙ ap (λ (b : Bool). cond b (insert ts place c.args.term) ts) (sym w.is_before.ensures ∙ w.if-is_before.true)
    ])

pub returns-else-is_before : goal.returns-else-is_before
returns-else-is_before c =
    let ts = c.args.terms.now.items in
    let place = c.rank-place.result in
    let is : place ≡ rank c.args.term ts = ranked c.args.term ts c.as_slice.result.now place c.as_slice.ensures.value c.requires c.rank-place.ensures.rank in
    let even = ap (λ (ts : List Term). length ts) c.as_slice.ensures.value in
    sym (put-inside c.args.term ts place is c.index.result.now (omega (arith, c.if-place-len.false, c.rank-place.ensures.within, c.len.ensures, c.as_slice.ensures.len, even)) c.index.ensures
    ∙ ap (λ (b : Bool). cond b (insert ts place c.args.term) ts) (sym c.is_before.ensures ∙ c.if-is_before.false))
