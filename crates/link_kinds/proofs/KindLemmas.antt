-- The kinds of a directory's items, after one of them gets another.
use Rattle.std.proofs.Common.{◌≡◌, ℕ, Bool, List, true, false, cond, not, ◌&&◌, ◌||◌, eqb, refl, sym, ap, ◌∙◌}
use Rattle.set_pool.specs.Rising.{is_among}
use Rattle.set_pool.proofs.PoolLemmas.{among-inserted, among-removed}
use Rattle.hac_model.specs.declared.marks.Kind.{Kind}
use Rattle.hac_model.specs.declared.marks.Kind.TheVariants.{Transient, Permanent, Prohibited, Unlinked}
use Rattle.hac_model.specs.Tree.Kinds.{is_permanent, is_prohibited, is_transient}
use Rattle.link_kinds.specs.Kinds.{AreApart, Lists, kind_in, listed, no_lists, with_kind, with_lent, without_item}

-- whether an item is in a list after a change of another or of the same: the list is that of the kind, the item was in
-- it, it is the one that changes
then-listed : Bool → Bool → Bool → Bool
then-listed true was here = was || here
then-listed false was here = was && not here

-- the item is in the list of its kind, and each other where it was
then-listed-is : (for was here : Bool) → then-listed for was here ≡ cond here for was
unfolding then-listed
then-listed-is true true true = refl
then-listed-is true true false = refl
then-listed-is true false true = refl
then-listed-is true false false = refl
then-listed-is false true true = refl
then-listed-is false true false = refl
then-listed-is false false true = refl
then-listed-is false false false = refl

-- the kind, from the lists in which an item is
kind-of : Bool → Bool → Bool → Kind
kind-of a b c = cond a Transient (cond b Permanent (cond c Prohibited Unlinked))

kind-own : (kind : Kind) → kind-of (is_transient kind) (is_permanent kind) (is_prohibited kind) ≡ kind
unfolding kind-of
kind-own Transient = refl
kind-own Permanent = refl
kind-own Prohibited = refl
kind-own Unlinked = refl

kind-changed : (kind : Kind) (here a b c : Bool) → kind-of (then-listed (is_transient kind) a here) (then-listed (is_permanent kind) b here) (then-listed (is_prohibited kind) c here) ≡ cond here kind (kind-of a b c)
kind-changed kind here a b c =
    (λ i. kind-of (then-listed-is (is_transient kind) a here i) (then-listed-is (is_permanent kind) b here i) (then-listed-is (is_prohibited kind) c here i))
    ∙ (elim here as (λ here. kind-of (cond here (is_transient kind) a) (cond here (is_permanent kind) b) (cond here (is_prohibited kind) c) ≡ cond here kind (kind-of a b c)) [ true ↦ kind-own kind | false ↦ refl ])

-- in which lists an item is after another gets a kind, or it itself
record AreListed (kind : Kind) (item i : ℕ) (lists : Lists) : Type 0 where
  transient : is_among i (with_kind kind item lists).transient ≡ then-listed (is_transient kind) (is_among i lists.transient) (eqb i item)
  permanent : is_among i (with_kind kind item lists).permanent ≡ then-listed (is_permanent kind) (is_among i lists.permanent) (eqb i item)
  prohibited : is_among i (with_kind kind item lists).prohibited ≡ then-listed (is_prohibited kind) (is_among i lists.prohibited) (eqb i item)

among-listed : (on : Bool) (item i : ℕ) (list : List ℕ) → is_among i (listed on item list) ≡ then-listed on (is_among i list) (eqb i item)
unfolding then-listed
among-listed true item i list = among-inserted item i list
among-listed false item i list = among-removed item i list

are-listed : (kind : Kind) (item i : ℕ) (lists : Lists) → AreListed kind item i lists
are-listed kind item i lists = record {
  transient = among-listed (is_transient kind) item i lists.transient;
  permanent = among-listed (is_permanent kind) item i lists.permanent;
  prohibited = among-listed (is_prohibited kind) item i lists.prohibited;
}

-- the item has the kind that it got, and each other item its own
pub kind-with : (kind : Kind) (item i : ℕ) (lists : Lists) → kind_in (with_kind kind item lists) i ≡ cond (eqb i item) kind (kind_in lists i)
unfolding kind-of
kind-with kind item i lists =
    let are = are-listed kind item i lists in
    (λ k. kind-of (are.transient k) (are.permanent k) (are.prohibited k))
    ∙ kind-changed kind (eqb i item) (is_among i lists.transient) (is_among i lists.permanent) (is_among i lists.prohibited)

-- no item gets into two lists
pub apart-with : (kind : Kind) (item : ℕ) (lists : Lists) → AreApart lists → AreApart (with_kind kind item lists)
apart-with kind item lists apart =
    record {
      transient = λ i. (are-listed kind item i lists).transient ∙ told is_transient i (is_among i lists.transient) (apart.transient i);
      permanent = λ i. (are-listed kind item i lists).permanent ∙ told is_permanent i (is_among i lists.permanent) (apart.permanent i);
      prohibited = λ i. (are-listed kind item i lists).prohibited ∙ told is_prohibited i (is_among i lists.prohibited) (apart.prohibited i);
    }
  where
    told : (test : Kind → Bool) (i : ℕ) (was : Bool) → was ≡ test (kind_in lists i) → then-listed (test kind) was (eqb i item) ≡ test (kind_in (with_kind kind item lists) i)
    told test i was same =
        then-listed-is (test kind) was (eqb i item)
        ∙ ap (cond (eqb i item) (test kind)) same
        ∙ (elim (eqb i item) as (λ here. cond here (test kind) (test (kind_in lists i)) ≡ test (cond here kind (kind_in lists i))) [ true ↦ refl | false ↦ refl ])
        ∙ ap test (sym (kind-with kind item i lists))

-- who is lent tells nothing of kinds
pub apart-lent : (on : Bool) (item : ℕ) (lists : Lists) → AreApart lists → AreApart (with_lent on item lists)
apart-lent on item lists apart = record { transient = apart.transient; permanent = apart.permanent; prohibited = apart.prohibited }

pub apart-without : (item : ℕ) (lists : Lists) → AreApart lists → AreApart (without_item item lists)
apart-without item lists apart = apart-lent false item (with_kind Unlinked item lists) (apart-with Unlinked item lists apart)

pub apart-none : AreApart no_lists
apart-none = record { transient = λ item. refl; permanent = λ item. refl; prohibited = λ item. refl }
