-- New verdicts, put into the links that are kept.
use Rattle.std.proofs.Common.{◌≡◌, ℕ, zero, suc, ◌+◌, ◌*◌, ◌<◌, ◌≤◌, Bool, true, false, List, [], ◌∷◌, ◌++◌, get_or, length, refl, ap, subst, sym, ◌∙◌, arith}
use Rattle.std.proofs.Math.Dec.{eqb}
use Rattle.std.proofs.Math.Nat.{le-max_left, le-max_right, max-le}
use Rattle.std.proofs.lemmas.List.{drop_more, take_more}
use Rattle.std.proofs.lemmas.Bool.{eq-eqb, eqb-true}
use Rattle.std.specs.Prelude.{◌&&◌, ◌||◌, ◌==◌, drop, if◌then◌else◌, max, not, take, IsTrue}
use Rattle.std.specs.List.{AllByRecursion, list_any}
use Rattle.hac_model.specs.declared.marks.Kind.TheVariants.{Transient, Unlinked}
use Rattle.link_kinds.specs.Kinds.{Lists, with_kind, with_lent}
use Rattle.link_kinds.specs.Seen.{ChangesDir, Known, SameLinks, has_sets, lists_in}
use Rattle.set_pool.specs.Rising.{inserted, is_among, removed}
use Rattle.set_pool.proofs.PoolLemmas.{among-inserted, among-removed}
use Rattle.reeval.specs.Settled.{AreSetsFor, HasRoom, verdict_in}
use Rattle.reeval.specs.Told.{latest, news_on, told}
use Rattle.reeval.specs.declared.verdicts.Change.{Change}
use Rattle.reeval.specs.declared.verdicts.Verdict.{Verdict}
use Rattle.hac_model.proofs.AmongLemmas.{eqb-turned}

-- who is among numbers, once one is put in or taken out
placed : (item x : ℕ) (on : Bool) (xs : List ℕ) → is_among x (if on then inserted item xs else removed item xs) ≡ (if x == item then on else is_among x xs)
placed item x true xs = among-inserted item x xs ∙ or-test (is_among x xs) (eqb x item)
  where
    or-test : (a b : Bool) → (a || b) ≡ (if b then true else a)
    or-test true true = refl
    or-test true false = refl
    or-test false true = refl
    or-test false false = refl
placed item x false xs = among-removed item x xs ∙ and-test (is_among x xs) (eqb x item)
  where
    and-test : (a b : Bool) → (a && not b) ≡ (if b then false else a)
    and-test true true = refl
    and-test true false = refl
    and-test false true = refl
    and-test false false = refl

found-placed : (item x : ℕ) (on : Bool) (lists : Lists) → is_among x (with_kind (if on then Transient else Unlinked) item lists).transient ≡ (if x == item then on else is_among x lists.transient)
found-placed item x true lists = placed item x true lists.transient
found-placed item x false lists = placed item x false lists.transient

still-lent : (item : ℕ) (on : Bool) (lists : Lists) → (with_kind (if on then Transient else Unlinked) item lists).lent ≡ lists.lent
still-lent item true lists = refl
still-lent item false lists = refl

pub verdict-put : (old mid new : Known) (dir item : ℕ) (verdict : Verdict) →
    ChangesDir old mid dir (with_kind (if verdict.found then Transient else Unlinked) item (lists_in old dir)) → ChangesDir mid new dir (with_lent verdict.lent item (lists_in mid dir)) →
    (x d : ℕ) → verdict_in new x d ≡ (if d == dir && x == item then verdict else verdict_in old x d)
verdict-put old mid new dir item verdict first second x d =
    (λ i. record { found = is_among x (lists i).transient; lent = is_among x (lists i).lent })
    ∙ (elim (d == dir) as (λ b. (d == dir) ≡ b → record { found = is_among x (both b).transient; lent = is_among x (both b).lent } ≡ (if b && x == item then verdict else verdict_in old x d)) [
      | true ↦ (λ here. at here)
      | false ↦ (λ other. refl)
    ] refl)
  where
    kinds : Lists → Lists
    kinds before = with_kind (if verdict.found then Transient else Unlinked) item before

    both : Bool → Lists
    both b = if b then with_lent verdict.lent item (kinds (lists_in old dir)) else lists_in old d

    middle : lists_in mid dir ≡ kinds (lists_in old dir)
    middle = first dir ∙ ap (λ (b : Bool). if b then kinds (lists_in old dir) else lists_in old dir) (eq-eqb dir dir refl)

    lists : lists_in new d ≡ both (d == dir)
    lists = second d ∙ (elim (d == dir) as (λ b. (d == dir) ≡ b → (if b then with_lent verdict.lent item (lists_in mid dir) else lists_in mid d) ≡ both b) [
      | true ↦ (λ _. ap (with_lent verdict.lent item) middle)
      | false ↦ (λ other. first d ∙ ap (λ (b : Bool). if b then kinds (lists_in old dir) else lists_in old d) other)
    ] refl)

    one : (b : Bool) (f l : Bool) → record { found = if b then verdict.found else f; lent = if b then verdict.lent else l } ≡ (if b then verdict else record { found = f; lent = l })
    one true f l = refl
    one false f l = refl

    at : (d == dir) ≡ true → record { found = is_among x (both true).transient; lent = is_among x (both true).lent } ≡ (if x == item then verdict else verdict_in old x d)
    at here =
        (λ i. record { found = found-placed item x verdict.found (lists_in old dir) i; lent = (ap (λ (xs : List ℕ). is_among x (if verdict.lent then inserted item xs else removed item xs)) (still-lent item verdict.found (lists_in old dir)) ∙ placed item x verdict.lent (lists_in old dir).lent) i })
        ∙ one (x == item) (is_among x (lists_in old dir).transient) (is_among x (lists_in old dir).lent)
        ∙ ap (λ (n : ℕ). if x == item then verdict else verdict_in old x n) (sym (eqb-true d dir here))

-- what the rest of the news makes of the links, once the first is put
pub told-first : (x : ℕ) (first : Change) (rest : List Change) (before after : ℕ → Verdict) → ((d : ℕ) → after d ≡ (if d == first.dir && x == first.item then first.verdict else before d)) →
    (d : ℕ) → told (news_on x rest) after d ≡ told (news_on x (first ∷ rest)) before d
told-first x first rest before after put d =
    ap (latest (news_on x rest) d) (put d ∙ (λ i. if eqb-turned d first.dir i && eqb-turned x first.item i then first.verdict else before d))
    ∙ (elim (first.item == x) as (λ b. latest (news_on x rest) d (if first.dir == d && b then first.verdict else before d) ≡ latest (if b then first ∷ news_on x rest else news_on x rest) d (before d)) [
      | true ↦ ap (λ (b : Bool). latest (news_on x rest) d (if b then first.verdict else before d)) (and-true (first.dir == d))
      | false ↦ ap (λ (b : Bool). latest (news_on x rest) d (if b then first.verdict else before d)) (and-false (first.dir == d))
    ])
  where
    and-true : (b : Bool) → (b && true) ≡ b
    and-true true = refl
    and-true false = refl

    and-false : (b : Bool) → (b && false) ≡ false
    and-false true = refl
    and-false false = refl

-- the room for the rest
pub room-left : (old new : Known) (first : Change) (rest : List Change) → HasRoom old (first ∷ rest) → SameLinks old new → old.spare ≤ new.spare + 2 → HasRoom new rest
room-left old new first rest room same spare = record {
  sets = all rest room.sets.1;
  spare = (let had : length (first ∷ rest) + length (first ∷ rest) ≤ old.spare = room.spare in omega (arith, had, spare));
}
  where
    all : (news : List Change) → AllByRecursion (λ change. IsTrue (has_sets old change.dir)) news → AllByRecursion (λ change. IsTrue (has_sets new change.dir)) news
    all [] h = tt
    all (change ∷ news) h = (same change.dir ∙ h.0, all news h.1)

-- What is taken for changes.

pub most_begins : (old calls : ℕ) → old ≤ max old calls
most_begins old calls = le-max_left old calls

pub most_again : (old calls mid new : ℕ) → mid ≤ max old calls → new ≡ max mid calls → new ≤ max old calls
most_again old calls mid new most is = subst (λ (n : ℕ). n ≤ max old calls) (sym is) (max-le most (le-max_right old calls))

pub most_ends : (old calls n new : ℕ) → new ≤ max old calls → calls ≡ n * 2 → new ≤ max old (n + n)
most_ends old calls n new most is = subst (λ (k : ℕ). new ≤ max old k) (is ∙ omega arith) most

-- the directory of one change more has its sets
pub have-more : (mid new : Known) (changes : List Change) (i : ℕ) (change : Change) → i < length changes → change ≡ get_or changes i change → ((d : ℕ) → has_sets new d ≡ (has_sets mid d || d == change.dir)) →
    AllByRecursion (λ other. IsTrue (has_sets mid other.dir)) (take i changes) → AllByRecursion (λ other. IsTrue (has_sets new other.dir)) (take (i + 1) changes)
have-more mid new changes i change less is sets all =
    subst (AllByRecursion (λ (other : Change). IsTrue (has_sets new other.dir))) (sym (take_more changes i change less ∙ ap (λ (last : Change). take i changes ++ last ∷ []) (sym is))) (joined (take i changes) all)
  where
    either : (a b : Bool) → b ≡ true → (a || b) ≡ true
    either true b is = refl
    either false b is = is

    had : (d : ℕ) → has_sets mid d ≡ true → has_sets new d ≡ true
    had d was = sets d ∙ ap (λ (b : Bool). b || d == change.dir) was

    joined : (front : List Change) → AllByRecursion (λ other. IsTrue (has_sets mid other.dir)) front → AllByRecursion (λ other. IsTrue (has_sets new other.dir)) (front ++ change ∷ [])
    joined [] h = (sets change.dir ∙ either (has_sets mid change.dir) (change.dir == change.dir) (eq-eqb change.dir change.dir refl), tt)
    joined (first ∷ front) h = (had first.dir h.0, joined front h.1)

-- no directory has got sets yet
pub sets_begin : (old : Known) (changes : List Change) → AreSetsFor old old changes
sets_begin old changes dir is = ap (λ (b : Bool). b || list_any (λ (other : Change). other.dir == dir) changes) is

-- that of a change gets some
told-there : (changes : List Change) (i : ℕ) (change : Change) (rest : List Change) (dir : ℕ) → drop i changes ≡ change ∷ rest → (change.dir == dir) ≡ true → list_any (λ other. other.dir == dir) changes ≡ true
told-there changes zero change rest dir is here = ap (list_any (λ (other : Change). other.dir == dir)) is ∙ ap (λ (b : Bool). b || list_any (λ (other : Change). other.dir == dir) rest) here
told-there [] (suc i) change rest dir is here = absurd cc
told-there (first ∷ changes) (suc i) change rest dir is here =
    elim (first.dir == dir) as (λ b. (b || list_any (λ (other : Change). other.dir == dir) changes) ≡ true) [ true ↦ refl | false ↦ told-there changes i change rest dir is here ]

pub sets_more : (old mid new : Known) (changes : List Change) (i : ℕ) (change : Change) → i < length changes → change ≡ get_or changes i change → AreSetsFor old mid changes →
    ((d : ℕ) → has_sets new d ≡ (has_sets mid d || d == change.dir)) → AreSetsFor old new changes
sets_more old mid new changes i change less is had sets dir has = at (has_sets mid dir) refl (sym (sets dir) ∙ has)
  where
    left : drop i changes ≡ change ∷ drop (i + 1) changes
    left = drop_more changes i change less ∙ ap (λ (first : Change). first ∷ drop (i + 1) changes) (sym is)

    last : (a b : Bool) → b ≡ true → (a || b) ≡ true
    last true b any = refl
    last false b any = any

    at : (b : Bool) → has_sets mid dir ≡ b → (b || dir == change.dir) ≡ true → (has_sets old dir || list_any (λ (other : Change). other.dir == dir) changes) ≡ true
    at true was _ = had dir was
    at false _ here =
        last (has_sets old dir) (list_any (λ (other : Change). other.dir == dir) changes) (told-there changes i change (drop (i + 1) changes) dir left (eqb-turned change.dir dir ∙ here))

-- or none does
pub sets_stay : (old mid new : Known) (changes : List Change) → AreSetsFor old mid changes → SameLinks mid new → AreSetsFor old new changes
sets_stay old mid new changes had same dir is = had dir (sym (same dir) ∙ is)
