-- Changes that each say something new, and the directories of which they tell.
use Rattle.std.proofs.Common.{◌≡◌, ℕ, Bool, true, false, List, [], ◌∷◌, ◌++◌, ap, eq-eqb, refl, sym, ◌∙◌}
use Rattle.std.proofs.lemmas.Bool.{eqb-true}
use Rattle.std.proofs.lemmas.List.{append_assoc}
use Rattle.std.specs.Prelude.{◌==◌, ◌||◌, if◌then◌else◌}
use Rattle.std.specs.List.{AllByRecursion, list_any}
use Rattle.hac_model.specs.declared.states.State.{State}
use Rattle.link_kinds.specs.Seen.{Known, has_sets}
use Rattle.reeval.specs.Judging.{no_verdict, verdict_of}
use Rattle.reeval.specs.Settled.{AreFresh, AreSetsFor}
use Rattle.reeval.specs.Told.{are_same, is_on, latest, news_on, told}
use Rattle.reeval.specs.declared.verdicts.Change.{Change}
use Rattle.reeval.specs.declared.verdicts.Verdict.{Verdict}
use Rattle.reeval.proofs.ToldLemmas.{news-joined}

pub fresh-joined : (s : State) (old more : List Change) → AreFresh s old → AreFresh s more → AreFresh s (old ++ more)
fresh-joined s [] more h k = k
fresh-joined s (first ∷ old) more h k = (h.0, fresh-joined s old more h.1 k)

-- The directories of which changes tell.

-- what holds of each change wherever it stands among them holds of all
each-there : (p : Change → Bool) (all front rest : List Change) → all ≡ front ++ rest → ((before : List Change) (change : Change) (behind : List Change) → all ≡ before ++ change ∷ behind → p change ≡ true) →
    AllByRecursion (λ change. p change ≡ true) rest
each-there p all front [] is holds = tt
each-there p all front (change ∷ rest) is holds =
    (holds front change rest is, each-there p all (front ++ change ∷ []) rest (is ∙ sym (append_assoc front (change ∷ []) rest)) holds)

any-behind : (p : Change → Bool) (front : List Change) (change : Change) (rest : List Change) → p change ≡ true → list_any p (front ++ change ∷ rest) ≡ true
any-behind p [] change rest is = ap (λ (b : Bool). b || list_any p rest) is
any-behind p (first ∷ front) change rest is = elim (p first) as (λ b. (b || list_any p (front ++ change ∷ rest)) ≡ true) [ true ↦ refl | false ↦ any-behind p front change rest is ]

-- each change of the directory says something
abbrev SaySome : ℕ → List Change → Type 0
SaySome dir news = AllByRecursion (λ change. (change.dir == dir) ≡ true → are_same change.verdict no_verdict ≡ false) news

-- so what is said last is something, if anything was said before
latest-some : (news : List Change) (dir : ℕ) (verdict : Verdict) → SaySome dir news → are_same verdict no_verdict ≡ false → are_same (latest news dir verdict) no_verdict ≡ false
latest-some [] dir verdict all some = some
latest-some (first ∷ news) dir verdict all some = elim (first.dir == dir) as (λ b. (first.dir == dir) ≡ b → are_same (latest news dir (if b then first.verdict else verdict)) no_verdict ≡ false) [
  | true ↦ (λ here. latest-some news dir first.verdict all.1 (all.0 here))
  | false ↦ (λ _. latest-some news dir verdict all.1 some)
] refl

-- or if one of them is of the directory
latest-said : (news : List Change) (dir : ℕ) (verdict : Verdict) → SaySome dir news → list_any (λ change. change.dir == dir) news ≡ true → are_same (latest news dir verdict) no_verdict ≡ false
latest-said [] dir verdict all any = absurd cc
latest-said (first ∷ news) dir verdict all any = elim (first.dir == dir) as (λ b. (first.dir == dir) ≡ b → (b || list_any (λ change. change.dir == dir) news) ≡ true → are_same (latest news dir (if b then first.verdict else verdict)) no_verdict ≡ false) [
  | true ↦ (λ here _. latest-some news dir first.verdict all.1 (all.0 here))
  | false ↦ (λ _ any. latest-said news dir verdict all.1 any)
] refl any

-- where nothing is said before changes by a directory that fails a test, and nothing behind them, all are of directories that
-- pass it
module _ (s : State) (p : ℕ → Bool) (delta : List Change) (fresh : AreFresh s delta)
    (none : (item dir : ℕ) → p dir ≡ false → verdict_of s item dir ≡ no_verdict)
    (silent : (item dir : ℕ) → p dir ≡ false → told (news_on item delta) (verdict_of s item) dir ≡ no_verdict) where
  say-some : (item dir : ℕ) → p dir ≡ false → (news : List Change) → AreFresh s news → SaySome dir (news_on item news)
  say-some item dir fails [] h = tt
  say-some item dir fails (first ∷ news) h = elim (first.item == item) as (λ b. (first.item == item) ≡ b → SaySome dir (if b then first ∷ news_on item news else news_on item news)) [
    | true ↦ (λ own. (
      (λ here. ap (are_same first.verdict) (sym ((λ i. verdict_of s (eqb-true first.item item own i) (eqb-true first.dir dir here i)) ∙ none item dir fails)) ∙ h.0),
      say-some item dir fails news h.1,
    ))
    | false ↦ (λ _. say-some item dir fails news h.1)
  ] refl

  passes-there : (before : List Change) (change : Change) (behind : List Change) → delta ≡ before ++ change ∷ behind → p change.dir ≡ true
  passes-there before change behind is = at (p change.dir) refl
    where
      own : news_on change.item delta ≡ news_on change.item before ++ change ∷ news_on change.item behind
      own = ap (news_on change.item) is ∙ news-joined before (change ∷ behind) change.item
          ∙ ap (λ (b : Bool). news_on change.item before ++ (if b then change ∷ news_on change.item behind else news_on change.item behind)) (eq-eqb change.item change.item refl)

      any : list_any (λ other. other.dir == change.dir) (news_on change.item delta) ≡ true
      any = ap (list_any (λ (other : Change). other.dir == change.dir)) own
          ∙ any-behind (λ other. other.dir == change.dir) (news_on change.item before) change (news_on change.item behind) (eq-eqb change.dir change.dir refl)

      at : (b : Bool) → p change.dir ≡ b → p change.dir ≡ true
      at true passes = passes
      at false fails =
          let never : false ≡ true =
          sym (latest-said (news_on change.item delta) change.dir (verdict_of s change.item change.dir) (say-some change.item change.dir fails delta fresh) any)
          ∙ ap (λ (v : Verdict). are_same v no_verdict) (silent change.item change.dir fails) in absurd cc

  pub fresh-pass : AllByRecursion (λ change. p change.dir ≡ true) delta
  fresh-pass = each-there (λ change. p change.dir) delta [] delta refl passes-there

-- the same of changes that each say something, where nothing was said before
module _ (p : ℕ → Bool) (news : List Change) (some : AllByRecursion (λ change. are_same change.verdict no_verdict ≡ false) news) (silent : (dir : ℕ) → p dir ≡ false → latest news dir no_verdict ≡ no_verdict) where
  some-of : (dir : ℕ) (changes : List Change) → AllByRecursion (λ change. are_same change.verdict no_verdict ≡ false) changes → SaySome dir changes
  some-of dir [] h = tt
  some-of dir (first ∷ changes) h = ((λ _. h.0), some-of dir changes h.1)

  own-there : (before : List Change) (change : Change) (behind : List Change) → news ≡ before ++ change ∷ behind → p change.dir ≡ true
  own-there before change behind is = at (p change.dir) refl
    where
      any : list_any (λ other. other.dir == change.dir) news ≡ true
      any = ap (list_any (λ (other : Change). other.dir == change.dir)) is ∙ any-behind (λ other. other.dir == change.dir) before change behind (eq-eqb change.dir change.dir refl)

      at : (b : Bool) → p change.dir ≡ b → p change.dir ≡ true
      at true passes = passes
      at false fails =
          let never : false ≡ true =
          sym (latest-said news change.dir no_verdict (some-of change.dir news some) any) ∙ ap (λ (v : Verdict). are_same v no_verdict) (silent change.dir fails) in absurd cc

  pub some-pass : AllByRecursion (λ change. p change.dir ≡ true) news
  some-pass = each-there (λ change. p change.dir) news [] news refl own-there

-- a directory of which they tell passes the test
pub any-passes : (p : ℕ → Bool) (delta : List Change) (dir : ℕ) → AllByRecursion (λ change. p change.dir ≡ true) delta → list_any (λ change. change.dir == dir) delta ≡ true → p dir ≡ true
any-passes p [] dir all any = absurd cc
any-passes p (first ∷ delta) dir all any = elim (first.dir == dir) as (λ b. (first.dir == dir) ≡ b → (b || list_any (λ change. change.dir == dir) delta) ≡ true → p dir ≡ true) [
  | true ↦ (λ here _. ap p (sym (eqb-true first.dir dir here)) ∙ all.0)
  | false ↦ (λ _ any. any-passes p delta dir all.1 any)
] refl any

-- so a directory that has sets once there is room for them had some before, or passes
pub sets-pass : (p : ℕ → Bool) (old new : Known) (delta : List Change) → AllByRecursion (λ change. p change.dir ≡ true) delta → AreSetsFor old new delta → ((dir : ℕ) → has_sets old dir ≡ true → p dir ≡ true) →
    (dir : ℕ) → has_sets new dir ≡ true → p dir ≡ true
sets-pass p old new delta all more had dir is = at (has_sets old dir) refl (more dir is)
  where
    at : (b : Bool) → has_sets old dir ≡ b → (b || list_any (λ change. change.dir == dir) delta) ≡ true → p dir ≡ true
    at true was _ = had dir was
    at false _ any = any-passes p delta dir all any
