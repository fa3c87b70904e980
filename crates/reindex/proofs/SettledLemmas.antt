-- Items that are settled one by one: what is known of them, and where that leads.
use Rattle.std.proofs.Common.{◌≡◌, ℕ, zero, suc, ◌+◌, ◌<◌, true, false, List, [], ◌∷◌, ◌++◌, length, get_or, ap, inl, inr, refl, subst, sym, ◌∙◌}
use Rattle.std.specs.Prelude.{drop, take, IfOk, Result, Ok, Err, Vec}
use Rattle.std.specs.List.{list_all}
use Rattle.std.specs.declared.alloc.Global.{Global}
use Rattle.std.proofs.lemmas.List.{drop_more, take_more}
use Rattle.dep_graph.specs.Searches.{EachOnce}
use Rattle.hac_model.specs.Tree.Depends.{Among}
use Rattle.hac_model.specs.Tree.Links.{has}
use Rattle.hac_model.specs.declared.memory.Memory.{Memory}
use Rattle.hac_model.specs.declared.states.State.{State}
use Rattle.hac_model.proofs.AmongLemmas.{among-append, among-has, among-left, among-right, has-among}
use Rattle.reeval.specs.Judging.{verdict_of}
use Rattle.reeval.specs.Settled.{AreFresh}
use Rattle.reeval.specs.Told.{is_on, news_on, told}
use Rattle.reeval.specs.declared.verdicts.Change.{Change}
use Rattle.reeval.proofs.FreshLemmas.{fresh-joined}
use Rattle.reeval.proofs.ToldLemmas.{news-here, news-there}
use Rattle.reindex.specs.Past.{Lead}
use Rattle.reindex.specs.Steps.{AreSettled}

-- an item that comes behind others of which each comes once
here-among : (items : List ℕ) (i : ℕ) (item : ℕ) (rest : List ℕ) → drop i items ≡ item ∷ rest → Among items item
here-among items zero item rest is = subst (λ (ns : List ℕ). Among ns item) (sym is) (inl refl)
here-among [] (suc i) item rest is = absurd cc
here-among (k ∷ items) (suc i) item rest is = inr (here-among items i item rest is)

pub among-at : (items : List ℕ) (i item : ℕ) → i < length items → item ≡ get_or items i item → Among items item
among-at items i item less is = here-among items i item (drop (i + 1) items) (drop_more items i item less ∙ ap (λ (n : ℕ). n ∷ drop (i + 1) items) (sym is))

pub once-apart : (items : List ℕ) (i : ℕ) (item : ℕ) (rest : List ℕ) → EachOnce items → drop i items ≡ item ∷ rest → ¬ Among (take i items) item
once-apart items zero item rest once is = λ never. never
once-apart [] (suc i) item rest once is = absurd cc
once-apart (first ∷ items) (suc i) item rest once is = λ before. elim before as (λ _. ⊥) [
  | inl same ↦ once.0 (subst (λ (n : ℕ). Among items n) (sym same) (here-among items i item rest is))
  | inr more ↦ once-apart items i item rest once.1 is more
]

module _ (s t : State) where
  pub settled-none : (delta : List Change) → delta ≡ [] → AreSettled s t [] delta
  settled-none delta none = record {
    settled = λ item inside dir. absurd inside;
    others = λ item out. ap (news_on item) none;
    fresh = subst (AreFresh s) (sym none) tt;
  }

  -- one item more, with what is new of it behind what is new of others
  settled-with : (items : List ℕ) (item : ℕ) (old news : List Change) → ¬ Among items item → list_all (is_on item) news ≡ true → ((dir : ℕ) → told news (verdict_of s item) dir ≡ verdict_of t item dir) →
      AreFresh s news → AreSettled s t items old → AreSettled s t (items ++ item ∷ []) (old ++ news)
  settled-with items item old news apart own leads fresh h = record {
    settled = λ other inside dir. elim (among-append items (item ∷ []) other inside) as (λ _. told (news_on other (old ++ news)) (verdict_of s other) dir ≡ verdict_of t other dir) [
      | inl before ↦
          ap (λ (changes : List Change). told changes (verdict_of s other) dir) (news-there old news item other own (λ same. apart (subst (λ (n : ℕ). Among items n) (sym same) before)))
          ∙ h.settled other before dir
      | inr last ↦ elim last as (λ _. told (news_on other (old ++ news)) (verdict_of s other) dir ≡ verdict_of t other dir) [
        | inl same ↦ subst (λ (n : ℕ). told (news_on n (old ++ news)) (verdict_of s n) dir ≡ verdict_of t n dir) same
            (ap (λ (changes : List Change). told changes (verdict_of s item) dir) (news-here old news item (h.others item apart) own) ∙ leads dir)
        | inr never ↦ absurd never
      ]
    ];
    others = λ other out.
        news-there old news item other own (λ same. out (among-right items (item ∷ []) other (inl same)))
        ∙ h.others other (λ before. out (among-left items (item ∷ []) other before));
    fresh = fresh-joined s old news h.fresh fresh;
  }

  -- the item at a place of a list in which each comes once
  pub settled-next : (items : List ℕ) (i item : ℕ) (old news more : List Change) → EachOnce items → i < length items → item ≡ get_or items i item → more ≡ old ++ news → list_all (is_on item) news ≡ true →
      ((dir : ℕ) → told news (verdict_of s item) dir ≡ verdict_of t item dir) → AreFresh s news → AreSettled s t (take i items) old → AreSettled s t (take (i + 1) items) more
  settled-next items i item old news more once less is joined own leads fresh h =
      let rest : List ℕ = drop (i + 1) items in
      let left : drop i items ≡ item ∷ rest = drop_more items i item less ∙ ap (λ (n : ℕ). n ∷ rest) (sym is) in
      let done : take (i + 1) items ≡ take i items ++ item ∷ [] = take_more items i item less ∙ ap (λ (n : ℕ). take i items ++ n ∷ []) (sym is) in
      subst (AreSettled s t (take (i + 1) items)) (sym joined)
      (subst (λ (settled : List ℕ). AreSettled s t settled (old ++ news)) (sym done) (settled-with (take i items) item old news (once-apart items i item rest once left) own leads fresh h))

  -- where nothing is new of any other item, that is all that is new
  pub settled-leads : (items : List ℕ) (delta : List Change) → AreSettled s t items delta → ((item : ℕ) → ¬ Among items item → (dir : ℕ) → verdict_of s item dir ≡ verdict_of t item dir) → Lead s t delta
  settled-leads items delta settled untouched = record {
    verdicts = λ item dir. elim (has items item) as (λ b. has items item ≡ b → told (news_on item delta) (verdict_of s item) dir ≡ verdict_of t item dir) [
      | true ↦ (λ is. settled.settled item (has-among items item is) dir)
      | false ↦ (λ out.
          let apart : ¬ Among items item = λ inside. let is : has items item ≡ true = among-has items item inside in absurd cc in
          ap (λ (news : List Change). told news (verdict_of s item) dir) (settled.others item apart) ∙ untouched item apart dir)
    ] refl;
    fresh = settled.fresh;
  }

  -- where the verdicts are told and each change is new, the changes lead there
  pub leads-both : (result : Result (Vec Change Global) Memory) → IfOk result (λ delta. (item dir : ℕ) → told (news_on item delta.items) (verdict_of s item) dir ≡ verdict_of t item dir) → IfOk result (λ delta. AreFresh s delta.items) →
      IfOk result (λ delta. Lead s t delta.items)
  leads-both (Ok delta) verdicts fresh = record { verdicts = verdicts; fresh = fresh }
  leads-both (Err memory) verdicts fresh = tt

  pub leads-if : (items : List ℕ) (result : Result (Vec Change Global) Memory) → IfOk result (λ delta. AreSettled s t items delta.items) → ((item : ℕ) → ¬ Among items item → (dir : ℕ) → verdict_of s item dir ≡ verdict_of t item dir) →
      IfOk result (λ delta. Lead s t delta.items)
  leads-if items (Ok delta) settled untouched = settled-leads items delta.items settled untouched
  leads-if items (Err memory) settled untouched = tt
