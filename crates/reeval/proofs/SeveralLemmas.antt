-- Several items, settled one after the other.
use Rattle.std.proofs.Common.{◌≡◌, ℕ, true, false, List, [], ◌∷◌, ◌++◌, refl, ap, sym, ◌∙◌, subst, eq-eqb, inl, inr}
use Rattle.std.proofs.lemmas.Bool.{eqb-true}
use Rattle.std.specs.Prelude.{◌==◌, ◌⊎◌}
use Rattle.std.specs.List.{list_all}
use Rattle.dep_graph.specs.Searches.{EachOnce}
use Rattle.hac_model.specs.Tree.Depends.{Among}
use Rattle.hac_model.specs.declared.states.State.{State}
use Rattle.reeval.specs.Judging.{verdict_of}
use Rattle.reeval.specs.Routes.{Covers}
use Rattle.reeval.specs.Settled.{AreFresh, SettlesAll}
use Rattle.reeval.specs.Told.{is_on, news_on, told}
use Rattle.reeval.specs.declared.settling.Stop.{Stop}
use Rattle.reeval.specs.declared.verdicts.Change.{Change}
use Rattle.reeval.proofs.FreshLemmas.{fresh-joined}
use Rattle.reeval.proofs.ToldLemmas.{news-here, news-there}

-- all items but those that are left are settled
pub record PartlySettled (s t : State) (stops : List Stop) (items left : List ℕ) (old new : List Change) : Type 0 where
  pub once : EachOnce left
  pub some : (item : ℕ) → Among left item → Among items item
  pub settled : (item : ℕ) → Among items item → ¬ Among left item → news_on item old ≡ [] → Covers s t stops item →
      (dir : ℕ) → told (news_on item new) (verdict_of s item) dir ≡ verdict_of t item dir
  pub others : (item : ℕ) → ¬ Among items item ⊎ Among left item → news_on item new ≡ news_on item old
  pub fresh : ((item : ℕ) → Among items item → Covers s t stops item) → AreFresh s old → AreFresh s new

pub partly-none : (s t : State) (stops : List Stop) (items : List ℕ) (news : List Change) → EachOnce items → PartlySettled s t stops items items news news
partly-none s t stops items news once = record {
  once = once;
  some = λ item inside. inside;
  settled = λ item inside out. absurd (out inside);
  others = λ item _. refl;
  fresh = λ covers known. known;
}

pub partly-all : (s t : State) (stops : List Stop) (items : List ℕ) (old new : List Change) → PartlySettled s t stops items [] old new → SettlesAll s t stops items old new
partly-all s t stops items old new h = record {
  settled = λ item inside. h.settled item inside (λ never. never);
  others = λ item out. h.others item (inl out);
  fresh = h.fresh;
}

pub partly-more : (s t : State) (stops : List Stop) (items : List ℕ) (item : ℕ) (left : List ℕ) (old new more : List Change) →
    PartlySettled s t stops items (item ∷ left) old new → list_all (is_on item) more ≡ true →
    (Covers s t stops item → (dir : ℕ) → told more (verdict_of s item) dir ≡ verdict_of t item dir) → (Covers s t stops item → AreFresh s more) → PartlySettled s t stops items left old (new ++ more)
partly-more s t stops items item left old new more h own news fresh = record {
  once = h.once.1;
  some = λ x inside. h.some x (inr inside);
  settled = λ x inside out none covers dir. elim (item == x) as (λ b. (item == x) ≡ b → told (news_on x (new ++ more)) (verdict_of s x) dir ≡ verdict_of t x dir) [
    | true ↦ (λ same. here x (eqb-true item x same) none covers dir)
    | false ↦ (λ other. let apart = differ x other in
        ap (λ (all : List Change). told all (verdict_of s x) dir) (news-there new more item x own apart) ∙ h.settled x inside (past x apart out) none covers dir)
  ] refl;
  others = λ x out. elim (item == x) as (λ b. (item == x) ≡ b → news_on x (new ++ more) ≡ news_on x old) [
    | true ↦ (λ same. absurd (inside-left x (eqb-true item x same) out))
    | false ↦ (λ other. let apart = differ x other in news-there new more item x own apart ∙ h.others x (wider x out))
  ] refl;
  fresh = λ covers known. fresh-joined s new more (h.fresh covers known) (fresh (covers item (h.some item (inl refl))));
}
  where
    differ : (x : ℕ) → (item == x) ≡ false → (item ≡ x) → ⊥
    differ x other same = let is = eq-eqb item x same in absurd cc

    past : (x : ℕ) → ((item ≡ x) → ⊥) → ¬ Among left x → ¬ Among (item ∷ left) x
    past x apart out (inl same) = apart same
    past x apart out (inr more) = out more

    wider : (x : ℕ) → ¬ Among items x ⊎ Among left x → ¬ Among items x ⊎ Among (item ∷ left) x
    wider x (inl out) = inl out
    wider x (inr inside) = inr (inr inside)

    inside-left : (x : ℕ) → (item ≡ x) → ¬ Among items x ⊎ Among left x → ⊥
    inside-left x same (inl out) = out (subst (λ (n : ℕ). Among items n) same (h.some item (inl refl)))
    inside-left x same (inr inside) = h.once.0 (subst (λ (n : ℕ). Among left n) (sym same) inside)

    here : (x : ℕ) → (item ≡ x) → news_on x old ≡ [] → Covers s t stops x → (dir : ℕ) → told (news_on x (new ++ more)) (verdict_of s x) dir ≡ verdict_of t x dir
    here x same none covers dir = subst (λ (n : ℕ). news_on n old ≡ [] → Covers s t stops n → told (news_on n (new ++ more)) (verdict_of s n) dir ≡ verdict_of t n dir) same
        (λ none covers. ap (λ (all : List Change). told all (verdict_of s item) dir) (news-here new more item (h.others item (inr (inl refl)) ∙ none) own) ∙ news covers dir) none covers
