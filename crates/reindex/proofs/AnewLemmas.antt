-- The links of a state as they are found from nothing, item by item.
use Rattle.std.proofs.Common.{◌≡◌, ℕ, ◌+◌, ◌≤◌, Bool, true, false, cond, List, [], ◌∷◌, ap, eq-eqb, refl, sym, subst, ◌∙◌, arith}
use Rattle.std.specs.Prelude.{◌==◌, nat_lt, None, IfOk, Result, Ok, Err, Vec}
use Rattle.std.specs.List.{AllByRecursion, list_all}
use Rattle.std.specs.declared.alloc.Global.{Global}
use Rattle.std.proofs.lemmas.Bool.{eqb-true}
use Rattle.std.proofs.lemmas.Bool.Decides.{nat_tests}
use Rattle.hac_model.specs.Tree.Links.{is_item, is_judged, is_semantic}
use Rattle.hac_model.specs.Tree.Valid.{IsValid}
use Rattle.hac_model.specs.Tree.{entry_at}
use Rattle.hac_model.specs.declared.memory.Memory.{Memory}
use Rattle.hac_model.specs.declared.states.State.{State}
use Rattle.hac_model.proofs.TreeLemmas.{entry_at-next}
use Rattle.link_kinds.specs.Seen.{IsEmpty, Known, LinkListsRise, SameKinds, SameLinks}
use Rattle.reeval.specs.Judging.{is_linked, no_verdict, verdict_of}
use Rattle.reeval.specs.Routes.{Covers}
use Rattle.reeval.specs.Settled.{AreFresh, AreLinksOf, AreSetsAsked, AreSetsFor, verdict_in}
use Rattle.reeval.specs.Told.{are_same, is_on, latest, news_on, told}
use Rattle.reeval.specs.declared.settling.Stop.{Stop}
use Rattle.reeval.specs.declared.verdicts.Change.{Change}
use Rattle.reeval.proofs.FreshLemmas.{sets-pass, some-pass}
use Rattle.reeval.proofs.JudgeLemmas.{links-judged}
use Rattle.reeval.proofs.LinkedLemmas.{links-told, told-alike, told-nothing}
use Rattle.reeval.proofs.PlanLemmas.{no-item, unjudged-said}
use Rattle.reeval.proofs.ToldLemmas.{news-here, news-there}
use Rattle.reindex.specs.Anew.{AreAllNews, AreLinksBelow, LendsNothing}
use Rattle.reindex.proofs.GoneLemmas.{plain-said}
use Rattle.hac_model.proofs.ListedLemmas.{none-item}

-- One item.

abbrev AllSaySome : List Change → Type 0
AllSaySome news = AllByRecursion (λ change. are_same change.verdict no_verdict ≡ false) news

-- what is new where nothing was said says something
fresh-some : (u : State) → ((item dir : ℕ) → no_verdict ≡ verdict_of u item dir) → (news : List Change) → AreFresh u news → AllSaySome news
fresh-some u silent [] h = tt
fresh-some u silent (first ∷ news) h = (ap (are_same first.verdict) (silent first.item first.dir) ∙ h.0, fresh-some u silent news h.1)

-- nothing is said of what is no item
pub news-of-none : (s : State) (item : ℕ) (news : List Change) → IsValid s → news ≡ [] → is_item s item ≡ false → AreAllNews s item news
news-of-none s item news valid none out = record {
  own = ap (list_all (is_on item)) none;
  some = subst AllSaySome (sym none) tt;
  told = λ dir. ap (λ (changes : List Change). told changes (λ _. no_verdict) dir) none ∙ sym (no-item s valid item dir out);
}

-- nor of what no query judges, where nothing is lent
pub news-of-unjudged : (s : State) (item : ℕ) (news : List Change) → IsValid s → news ≡ [] → LendsNothing s → is_judged s item ≡ false → AreAllNews s item news
news-of-unjudged s item news valid none unlent out = record {
  own = ap (list_all (is_on item)) none;
  some = subst AllSaySome (sym none) tt;
  told = λ dir. ap (λ (changes : List Change). told changes (λ _. no_verdict) dir) none
      ∙ sym (links-judged s valid item dir ∙ unjudged-said s (is_linked (verdict_of s item)) item dir out (unlent dir));
}

-- an item that is settled from a state that says nothing
pub settled-news : (s t u : State) (stops : List Stop) (item : ℕ) (result : Result (Vec Change Global) Memory) → t ≡ s → ((n dir : ℕ) → no_verdict ≡ verdict_of u n dir) →
    IfOk result (λ news. list_all (is_on item) news.items ≡ true) →
    (Covers u t stops item → IfOk result (λ news. (dir : ℕ) → told news.items (verdict_of u item) dir ≡ verdict_of t item dir)) →
    (Covers u t stops item → IfOk result (λ news. AreFresh u news.items)) →
    Covers u s stops item → IfOk result (λ news. AreAllNews s item news.items)
settled-news s t u stops item (Ok news) same none own settled fresh covers = record {
  own = own;
  some = fresh-some u none news.items (fresh (subst (λ (x : State). Covers u x stops item) (sym same) covers));
  told = λ dir. ap (latest news.items dir) (none item dir)
      ∙ settled (subst (λ (x : State). Covers u x stops item) (sym same) covers) dir
      ∙ ap (λ (x : State). verdict_of x item dir) same;
}
settled-news s t u stops item (Err memory) same none own settled fresh covers = tt

-- only semantic directories get sets for it
pub asked-more : (s : State) (item : ℕ) (old room new : Known) (news : List Change) → IsValid s → AreAllNews s item news → AreSetsFor old room news → SameLinks room new → AreSetsAsked s old → AreSetsAsked s new
asked-more s item old room new news valid all sets same asked dir is =
    sets-pass (is_semantic s) old room news
    (some-pass (is_semantic s) news all.some (λ dir plain. all.told dir ∙ plain-said s valid item dir plain))
    sets asked dir (sym (same dir) ∙ is)

-- Item by item.

pub below-none : (s : State) (known : Known) → IsEmpty known → AreLinksBelow s known 0
below-none s known none item dir =
    let out : nat_lt item 0 ≡ false = grind (arith, nat_tests) in
    told-nothing known none item dir ∙ ap (λ (b : Bool). cond b (verdict_of s item dir) no_verdict) (sym out)

-- the news of one item more
module _ (s : State) (number : ℕ) (old room new : Known) (news : List Change) (h : AreLinksBelow s old number) (same : SameKinds old room) (all : AreAllNews s number news)
    (put : (item dir : ℕ) → verdict_in new item dir ≡ told (news_on item news) (verdict_in room item) dir) where
  was : (item dir : ℕ) → verdict_in room item dir ≡ cond (nat_lt item number) (verdict_of s item dir) no_verdict
  was item dir = told-alike old room same item dir ∙ h item dir

  here : (dir : ℕ) → verdict_in new number dir ≡ verdict_of s number dir
  here dir =
      let out : nat_lt number number ≡ false = grind (arith, nat_tests) in
      put number dir
      ∙ (λ i. told (news-here [] news number refl all.own i) (verdict_in room number) dir)
      ∙ ap (latest news dir) (was number dir ∙ ap (λ (b : Bool). cond b (verdict_of s number dir) no_verdict) out)
      ∙ all.told dir

  away : (item dir : ℕ) → ((number ≡ item) → ⊥) → verdict_in new item dir ≡ verdict_in room item dir
  away item dir apart = put item dir ∙ (λ i. told (news-there [] news number item all.own apart i) (verdict_in room item) dir)

  pub below-more : AreLinksBelow s new (number + 1)
  below-more item dir = elim (item == number) as (λ b. (item == number) ≡ b → verdict_in new item dir ≡ cond (nat_lt item (number + 1)) (verdict_of s item dir) no_verdict) [
    | true ↦ (λ is.
        let at : item ≡ number = eqb-true item number is in
        let low : nat_lt item (number + 1) ≡ true = grind (arith, nat_tests) in
        subst (λ (n : ℕ). verdict_in new n dir ≡ verdict_of s n dir) (sym at) (here dir)
        ∙ ap (λ (b : Bool). cond b (verdict_of s item dir) no_verdict) (sym low))
    | false ↦ (λ other.
        away item dir (λ at. let is : (item == number) ≡ true = ap (λ (n : ℕ). item == n) at ∙ own item in absurd cc)
        ∙ was item dir ∙ ap (λ (b : Bool). cond b (verdict_of s item dir) no_verdict) (lower item other))
  ] refl
    where
      own : (n : ℕ) → (n == n) ≡ true
      own n = eq-eqb n n refl

      lower : (n : ℕ) → (n == number) ≡ false → nat_lt n number ≡ nat_lt n (number + 1)
      lower n other = elim (nat_lt n number) as (λ b. nat_lt n number ≡ b → b ≡ nat_lt n (number + 1)) [
        | true ↦ (λ less. grind (arith, nat_tests))
        | false ↦ (λ more. grind (arith, nat_tests))
      ] refl

-- what is no item has none
pub below-none-more : (s : State) (known : Known) (number : ℕ) → IsValid s → is_item s number ≡ false → AreLinksBelow s known number → AreLinksBelow s known (number + 1)
below-none-more s known number valid out h =
    below-more s number known known known [] h (λ dir. refl) (news-of-none s number [] valid refl out) (λ item dir. refl)

-- so it has none either
pub none-passed : (s : State) (known : Known) (number : ℕ) → IsValid s → entry_at s.entries number ≡ None → AreLinksBelow s known number → AreLinksBelow s known (number + 1)
none-passed s known number valid none h = below-none-more s known number valid (none-item s number none) h

-- those of all items are the links of the state
pub below-all : (s : State) (known : Known) → IsValid s → LinkListsRise known → AreLinksBelow s known s.next → AreLinksOf s known
below-all s known valid rise h = links-told s known valid rise (λ item dir. h item dir ∙ all item dir (nat_lt item s.next) refl)
  where
    all : (item dir : ℕ) (b : Bool) → nat_lt item s.next ≡ b → cond b (verdict_of s item dir) no_verdict ≡ verdict_of s item dir
    all item dir true less = refl
    all item dir false more =
        let above : s.next ≤ item = grind (arith, nat_tests) in
        sym (no-item s valid item dir (none-item s item (entry_at-next 0 s.entries s.next item valid.layout.numbers above)))
