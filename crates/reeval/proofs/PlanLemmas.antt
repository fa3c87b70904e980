-- The new verdicts on all items, from those that are touched and those that aren't.
use Rattle.std.proofs.Common.{◌≡◌, ℕ, Bool, true, false, List, [], refl, ap, ◌∙◌}
use Rattle.std.specs.Prelude.{◌&&◌}
use Rattle.hac_model.specs.Tree.Depends.{Among}
use Rattle.std.specs.List.{list_any}
use Rattle.hac_model.specs.Tree.Links.{has, is_item, is_judged, is_lent, is_semantic, is_unmarked, lenders, links, parent_of, passes, provide, satisfies}
use Rattle.hac_model.specs.Tree.Valid.{IsValid}
use Rattle.hac_model.specs.Tree.{empty}
use Rattle.hac_model.specs.declared.states.State.{State}
use Rattle.reeval.specs.Judging.{AreJudged, LeavesAlike, is_linked, judgement, no_verdict, verdict_of}
use Rattle.reeval.specs.Routes.{Covers}
use Rattle.reeval.specs.Settled.{AreFresh, IsPlanned, SettlesAll}
use Rattle.reeval.specs.Told.{news_on, told}
use Rattle.reeval.specs.declared.planning.Task.{Task}
use Rattle.reeval.specs.declared.verdicts.Change.{Change}
use Rattle.reeval.proofs.JudgeLemmas.{links-judged}
use Rattle.reeval.proofs.SettleLemmas.{settled-all, settled-none}
use Rattle.hac_model.proofs.AmongLemmas.{among-has, has-among}

-- where judging begins nowhere, all stays as it was
pub unmoved : (s t : State) (item : ℕ) → Covers s t [] item → (dir : ℕ) → verdict_of s item dir ≡ verdict_of t item dir
unmoved s t item covers dir = settled-all s t item [] covers (verdict_of s item) [] (settled-none s t item [] covers) dir

-- and nothing is said of what is no item
pub no-item : (s : State) → IsValid s → (item dir : ℕ) → is_item s item ≡ false → verdict_of s item dir ≡ no_verdict
no-item s valid item dir none = links-judged s valid item dir ∙ ap (λ (is : Bool). record { found = (is_semantic s dir && is) && passes s (is_linked (verdict_of s item)) dir item; lent = (is_semantic s dir && is) && is_lent s (is_linked (verdict_of s item)) dir item }) none ∙ out (is_semantic s dir) (passes s (is_linked (verdict_of s item)) dir item) (is_lent s (is_linked (verdict_of s item)) dir item)
  where
    out : (a b c : Bool) → record { found = (a && false) && b; lent = (a && false) && c } ≡ no_verdict
    out true b c = refl
    out false b c = refl

-- nor of what no query judges, where nothing is lent
pub unjudged-said : (s : State) (linked : ℕ → Bool) (item dir : ℕ) → is_judged s item ≡ false → lenders s dir ≡ [] → judgement s linked item dir ≡ no_verdict
unjudged-said s linked item dir unjudged none =
    (λ i. record {
      found = (is_semantic s dir && is_item s item) && (provide s linked (parent_of s dir) item && unjudged i && satisfies s linked dir item && is_unmarked s dir item);
      lent = (is_semantic s dir && is_item s item) && list_any (λ lender. provide s linked lender item) (none i);
    })
    ∙ out (is_semantic s dir && is_item s item) (provide s linked (parent_of s dir) item) (satisfies s linked dir item) (is_unmarked s dir item)
  where
    out : (a p q r : Bool) → record { found = a && (p && false && q && r); lent = a && false } ≡ no_verdict
    out true true q r = refl
    out true false q r = refl
    out false p q r = refl

-- nothing is said of anything in the root alone
pub empty-said : (item dir : ℕ) → no_verdict ≡ verdict_of empty item dir
unfolding links
empty-said item dir = refl

pub empty-judged : (item : ℕ) → AreJudged empty item
unfolding links
empty-judged item dir = refl

-- fewer directories at which judging begins are among more
pub begins-more : (s t : State) (item : ℕ) (fewer more : ℕ → Bool) → ((dir : ℕ) → more dir ≡ false → fewer dir ≡ false) → LeavesAlike s t fewer item → LeavesAlike s t more item
begins-more s t item fewer more within alike = record {
  judges = λ dir out. alike.judges dir (within dir out);
  provides = λ dir e out edge away. alike.provides dir e (within dir out) edge (within e away);
}

-- both lists of items, one behind the other
module _ (s t : State) (task : Task) (planned : IsPlanned s t task) (apart : (item : ℕ) → Among task.touched.items item → Among task.others.items item → ⊥)
    (first second : List Change) (some : SettlesAll s t task.everywhere.items task.touched.items [] first) (more : SettlesAll s t task.along.items task.others.items first second) where
  pub all-fresh : AreFresh s second
  all-fresh = more.fresh planned.others (some.fresh planned.touched tt)

  pub all-told : (item dir : ℕ) → told (news_on item second) (verdict_of s item) dir ≡ verdict_of t item dir
  all-told item dir = elim (has task.touched.items item) as (λ b. has task.touched.items item ≡ b → told (news_on item second) (verdict_of s item) dir ≡ verdict_of t item dir) [
    | true ↦ (λ is. let inside = has-among task.touched.items item is in
        ap (λ (news : List Change). told news (verdict_of s item) dir) (more.others item (apart item inside)) ∙ some.settled item inside refl (planned.touched item inside) dir)
    | false ↦ (λ not_it. elim (has task.others.items item) as (λ b. has task.others.items item ≡ b → told (news_on item second) (verdict_of s item) dir ≡ verdict_of t item dir) [
      | true ↦ (λ is. let inside = has-among task.others.items item is in
          more.settled item inside (some.others item (outside task.touched.items not_it)) (planned.others item inside) dir)
      | false ↦ (λ nor. let none : news_on item second ≡ [] = more.others item (outside task.others.items nor) ∙ some.others item (outside task.touched.items not_it) in
          ap (λ (news : List Change). told news (verdict_of s item) dir) none ∙ planned.rest item (outside task.touched.items not_it) (outside task.others.items nor) dir)
    ] refl)
  ] refl
    where
      outside : (ns : List ℕ) → has ns item ≡ false → ¬ Among ns item
      outside ns out inside = let is : has ns item ≡ true = among-has ns item inside in absurd cc
