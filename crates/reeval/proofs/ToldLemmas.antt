-- Verdicts once one more is known.
use Rattle.std.proofs.Common.{◌≡◌, ℕ, Bool, true, false, List, [], ◌∷◌, ◌++◌, refl, ap, sym, ◌∙◌, eq-eqb}
use Rattle.std.proofs.Math.Bool.{beq}
use Rattle.std.proofs.lemmas.Bool.{eqb-true}
use Rattle.std.proofs.lemmas.List.{append-nil}
use Rattle.std.specs.Prelude.{◌&&◌, ◌==◌, if◌then◌else◌}
use Rattle.std.specs.List.{list_all}
use Rattle.reeval.specs.Told.{are_same, is_on, latest, news_on, told}
use Rattle.reeval.specs.declared.verdicts.Change.{Change}
use Rattle.reeval.specs.declared.verdicts.Verdict.{Verdict}
use Rattle.hac_model.proofs.AmongLemmas.{eqb-turned}

pub latest-pushed : (news : List Change) (more : Change) (dir : ℕ) (verdict : Verdict) → latest (news ++ more ∷ []) dir verdict ≡ (if more.dir == dir then more.verdict else latest news dir verdict)
latest-pushed [] more dir verdict = refl
latest-pushed (first ∷ news) more dir verdict = latest-pushed news more dir (if first.dir == dir then first.verdict else verdict)

pub told-pushed : (news : List Change) (dir item : ℕ) (verdict : Verdict) (verdicts : ℕ → Verdict) (d : ℕ) →
    told (news ++ record { dir = dir; item = item; verdict = verdict } ∷ []) verdicts d ≡ (if d == dir then verdict else told news verdicts d)
told-pushed news dir item verdict verdicts d =
    latest-pushed news (record { dir = dir; item = item; verdict = verdict }) d (verdicts d) ∙ ap (λ (b : Bool). if b then verdict else told news verdicts d) (eqb-turned dir d)

one-same : (a b : Bool) → beq a b ≡ true → a ≡ b
one-same true true h = refl
one-same true false h = absurd cc
one-same false true h = absurd cc
one-same false false h = refl

-- verdicts that say the same are one
pub same-verdict : (v w : Verdict) → are_same v w ≡ true → v ≡ w
same-verdict v w same = λ i. record { found = one-same v.found w.found (left (beq v.found w.found) (beq v.lent w.lent) same) i; lent = one-same v.lent w.lent (right (beq v.found w.found) (beq v.lent w.lent) same) i }
  where
    left : (a b : Bool) → (a && b) ≡ true → a ≡ true
    left true b h = refl
    left false b h = h

    right : (a b : Bool) → (a && b) ≡ true → b ≡ true
    right true b h = h
    right false b h = absurd cc

-- nothing has to be known where a directory says what it said
pub told-same : (verdicts : ℕ → Verdict) (dir : ℕ) (verdict : Verdict) → verdict ≡ verdicts dir → (d : ℕ) → verdicts d ≡ (if d == dir then verdict else verdicts d)
told-same verdicts dir verdict same d = elim (d == dir) as (λ b. (d == dir) ≡ b → verdicts d ≡ (if b then verdict else verdicts d)) [
  | true ↦ (λ is. ap verdicts (eqb-true d dir is) ∙ sym same)
  | false ↦ (λ other. refl)
] refl

-- The news on one item, among those on several.

pub own-pushed : (news : List Change) (more : Change) (item : ℕ) → list_all (is_on item) news ≡ true → more.item ≡ item → list_all (is_on item) (news ++ more ∷ []) ≡ true
own-pushed [] more item all is = ap (λ (b : Bool). b && true) (eq-eqb more.item item is)
own-pushed (first ∷ news) more item all is = elim (first.item == item) as (λ b. (b && list_all (is_on item) news) ≡ true → (b && list_all (is_on item) (news ++ more ∷ [])) ≡ true) [
  | true ↦ (λ all. own-pushed news more item all is)
  | false ↦ (λ never. absurd cc)
] all

-- of news on one item all are on it, and none on another
news-own : (news : List Change) (item : ℕ) → list_all (is_on item) news ≡ true → news_on item news ≡ news
news-own [] item all = refl
news-own (first ∷ news) item all = elim (first.item == item) as (λ b. (b && list_all (is_on item) news) ≡ true → (if b then first ∷ news_on item news else news_on item news) ≡ first ∷ news) [
  | true ↦ (λ all. ap (λ (more : List Change). first ∷ more) (news-own news item all))
  | false ↦ (λ never. absurd cc)
] all

news-other : (news : List Change) (item other : ℕ) → list_all (is_on item) news ≡ true → ((item ≡ other) → ⊥) → news_on other news ≡ []
news-other [] item other all apart = refl
news-other (first ∷ news) item other all apart = elim (first.item == item) as (λ b. (first.item == item) ≡ b → (b && list_all (is_on item) news) ≡ true → news_on other (first ∷ news) ≡ []) [
  | true ↦ (λ same all. elim (first.item == other) as (λ b. (first.item == other) ≡ b → (if b then first ∷ news_on other news else news_on other news) ≡ []) [
    | true ↦ (λ too. absurd (apart (sym (eqb-true first.item item same) ∙ eqb-true first.item other too)))
    | false ↦ (λ _. news-other news item other all apart)
  ] refl)
  | false ↦ (λ _ never. absurd cc)
] refl all

pub news-joined : (news more : List Change) (item : ℕ) → news_on item (news ++ more) ≡ news_on item news ++ news_on item more
news-joined [] more item = refl
news-joined (first ∷ news) more item = elim (first.item == item) as (λ b. (if b then first ∷ news_on item (news ++ more) else news_on item (news ++ more)) ≡ (if b then first ∷ news_on item news else news_on item news) ++ news_on item more) [
  | true ↦ ap (λ (all : List Change). first ∷ all) (news-joined news more item)
  | false ↦ news-joined news more item
]

-- where news on one item come behind those on others
pub news-here : (news more : List Change) (item : ℕ) → news_on item news ≡ [] → list_all (is_on item) more ≡ true → news_on item (news ++ more) ≡ more
news-here news more item none own = news-joined news more item ∙ (λ i. none i ++ news-own more item own i)

pub news-there : (news more : List Change) (item other : ℕ) → list_all (is_on item) more ≡ true → ((item ≡ other) → ⊥) → news_on other (news ++ more) ≡ news_on other news
news-there news more item other own apart = news-joined news more other ∙ ap (λ (behind : List Change). news_on other news ++ behind) (news-other more item other own apart) ∙ append-nil (news_on other news)
