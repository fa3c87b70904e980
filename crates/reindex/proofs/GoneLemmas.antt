-- What is said of an item that goes.
use Rattle.std.proofs.Common.{◌≡◌, ℕ, Bool, true, false, List, [], ◌∷◌, ◌++◌, ap, refl, subst, sym, ◌∙◌}
use Rattle.std.proofs.Math.Bool.{beq}
use Rattle.std.proofs.lemmas.Bool.{eqb-true}
use Rattle.std.specs.Prelude.{◌==◌, ◌&&◌, ◌||◌, if◌then◌else◌}
use Rattle.std.specs.List.{list_all}
use Rattle.hac_model.specs.Tree.Links.{has, is_item, is_lent, is_semantic, passes}
use Rattle.hac_model.specs.Tree.Valid.{IsValid}
use Rattle.hac_model.specs.declared.states.State.{State}
use Rattle.reeval.specs.Judging.{is_linked, no_verdict, verdict_of}
use Rattle.reeval.specs.Routes.{dirs_of}
use Rattle.reeval.specs.Settled.{AreFresh}
use Rattle.reeval.specs.Told.{are_same, is_on, latest, told}
use Rattle.reeval.specs.declared.settling.Stop.{Stop}
use Rattle.reeval.specs.declared.verdicts.Change.{Change}
use Rattle.reeval.specs.declared.verdicts.Verdict.{Verdict}
use Rattle.reeval.proofs.JudgeLemmas.{links-judged}
use Rattle.reeval.proofs.FreshLemmas.{fresh-joined}
use Rattle.reeval.proofs.ToldLemmas.{latest-pushed, own-pushed}
use Rattle.reindex.specs.Ways.{IsWayOf}
use Rattle.reindex.specs.declared.ways.Way.{Way}
use Rattle.reindex.proofs.WayLemmas.{dirs-way, unasked}
use Rattle.hac_model.proofs.AmongLemmas.{among-has}

-- what isn't semantic says nothing
pub plain-said : (s : State) → IsValid s → (item dir : ℕ) → is_semantic s dir ≡ false → verdict_of s item dir ≡ no_verdict
plain-said s valid item dir plain = links-judged s valid item dir ∙ (λ i. record {
  found = (plain i && is_item s item) && passes s (is_linked (verdict_of s item)) dir item;
  lent = (plain i && is_item s item) && is_lent s (is_linked (verdict_of s item)) dir item;
})

-- the changes are on the item and say nothing of it, and no directory says anything but those that are left
pub record AreGone (s : State) (item : ℕ) (left : List Stop) (news : List Change) : Type 0 where
  pub own : list_all (is_on item) news ≡ true
  pub fresh : AreFresh s news
  pub silent : (dir : ℕ) → latest news dir no_verdict ≡ no_verdict
  pub gone : (dir : ℕ) → has (dirs_of left) dir ≡ false → told news (verdict_of s item) dir ≡ no_verdict

pub gone-none : (s : State) → IsValid s → (way : Way) → IsWayOf s way → (item : ℕ) (stops : List Stop) (news : List Change) → stops ≡ way.stops.items → news ≡ [] → AreGone s item stops news
gone-none s valid way w item stops news are none = record {
  own = ap (list_all (is_on item)) none;
  fresh = subst (AreFresh s) (sym none) tt;
  silent = λ dir. ap (λ (changes : List Change). latest changes dir no_verdict) none;
  gone = λ dir out.
      let apart : has w.order dir ≡ false = sym (ap (λ (dirs : List ℕ). has dirs dir) (ap dirs_of are ∙ dirs-way s way w)) ∙ out in
      ap (λ (changes : List Change). told changes (verdict_of s item) dir) none
      ∙ plain-said s valid item dir (unasked s dir (λ some. let inside = among-has w.order dir (w.all dir some) in absurd cc));
}

-- one stop more
module _ (s : State) (item : ℕ) (stop : Stop) (left : List Stop) (news : List Change) (h : AreGone s item (stop ∷ left) news) where
  abbrev change : Change
  change = record { dir = stop.dir; item = item; verdict = no_verdict }

  -- where the item was linked, the directory says nothing more
  pub gone-linked : (verdict : Verdict) → verdict ≡ verdict_of s item stop.dir → (verdict.found || verdict.lent) ≡ true → (more : List Change) → more ≡ news ++ change ∷ [] → AreGone s item left more
  gone-linked verdict said linked more pushed = record {
    own = ap (list_all (is_on item)) pushed ∙ own-pushed news change item h.own refl;
    fresh = subst (AreFresh s) (sym pushed) (fresh-joined s news (change ∷ []) h.fresh (ap (are_same no_verdict) (sym said) ∙ some verdict.found verdict.lent linked, tt));
    silent = λ dir. ap (λ (changes : List Change). latest changes dir no_verdict) pushed ∙ latest-pushed news change dir no_verdict
        ∙ (elim (stop.dir == dir) as (λ b. (if b then no_verdict else latest news dir no_verdict) ≡ no_verdict) [ true ↦ refl | false ↦ h.silent dir ]);
    gone = λ dir out. ap (λ (changes : List Change). told changes (verdict_of s item) dir) pushed ∙ latest-pushed news change dir (verdict_of s item dir)
        ∙ (elim (stop.dir == dir) as (λ b. (stop.dir == dir) ≡ b → (if b then no_verdict else told news (verdict_of s item) dir) ≡ no_verdict) [
          | true ↦ (λ _. refl)
          | false ↦ (λ other. h.gone dir ((λ i. other i || has (dirs_of left) dir) ∙ out))
        ] refl);
  }
    where
      some : (found lent : Bool) → (found || lent) ≡ true → (beq false found && beq false lent) ≡ false
      some true lent is = refl
      some false true is = refl
      some false false never = absurd cc

  -- where it wasn't, it said nothing
  pub gone-unlinked : (verdict : Verdict) → verdict ≡ verdict_of s item stop.dir → (verdict.found || verdict.lent) ≡ false → AreGone s item left news
  gone-unlinked verdict said unlinked = record {
    own = h.own;
    fresh = h.fresh;
    silent = h.silent;
    gone = λ dir out. elim (stop.dir == dir) as (λ b. (stop.dir == dir) ≡ b → told news (verdict_of s item) dir ≡ no_verdict) [
      | true ↦ (λ same. ap (latest news dir) (ap (verdict_of s item) (sym (eqb-true stop.dir dir same)) ∙ sym said ∙ none verdict.found verdict.lent unlinked) ∙ h.silent dir)
      | false ↦ (λ other. h.gone dir ((λ i. other i || has (dirs_of left) dir) ∙ out))
    ] refl;
  }
    where
      none : (found lent : Bool) → (found || lent) ≡ false → record { found = found; lent = lent } ≡ no_verdict
      none true lent h = absurd cc
      none false true h = absurd cc
      none false false h = refl
