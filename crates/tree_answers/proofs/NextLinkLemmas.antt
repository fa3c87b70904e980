-- A list of links leaves out no number that is linked.
use Rattle.std.proofs.Common.{◌≡◌, ℕ, zero, suc, ◌+◌, ◌-◌, ◌<◌, ◌≤◌, Bool, true, false, cond, List, [], ◌∷◌, ◌++◌, refl, ap, sym, subst, ◌∙◌, arith, eq-eqb, eqb-true, ne_eqb}
use Rattle.std.specs.Prelude.{⊤, ◌&&◌, ◌||◌, ◌==◌, Option, None, Some, nat_le, IsTrue}
use Rattle.std.specs.List.{AllByRecursion, flat_map, range_with_len}
use Rattle.std.proofs.lemmas.Bool.Decides.{nat_tests}
use Rattle.std.proofs.lemmas.List.{append-nil}
use Rattle.hac_model.specs.Tree.Links.{can_be_added, has, is_item, is_permanent, is_prohibited, items, kind, permanent_at, prohibited_at, transient_at}
use Rattle.hac_model.specs.Tree.Valid.{AreMarks, IsValid, RiseFrom}
use Rattle.hac_model.specs.Tree.{path_of}
use Rattle.hac_model.specs.Run.Play.{kind_lines}
use Rattle.hac_model.specs.declared.marks.Kind.TheVariants.{Transient, Permanent, Prohibited, Unlinked}
use Rattle.hac_model.specs.declared.states.State.{State}
use Rattle.hac_model.proofs.ListedLemmas.{found-listed}
use Rattle.hac_model.proofs.MarkLemmas.{has-filter, rise-filter}
use Rattle.file_tree.proofs.RisingLemmas.{has-low}
use Rattle.set_pool.specs.Rising.{first_from}
use Rattle.tree_answers.specs.NextLinks.{lesser, next_linked}
use Rattle.tree_answers.proofs.CountsLemmas.{are-marks, item-below, markable-below}
use Rattle.tree_answers.proofs.RangeLemmas.{flat_next}
use Rattle.hac_model.proofs.RangeLemmas.{range-rises}
use Rattle.hac_model.proofs.BoolLemmas.{or-true}

-- the number comes before another, if there is one
abbrev IsBefore : ℕ → Option ℕ → Type 0
IsBefore k None = ⊤
IsBefore k (Some a) = k < a

-- Numbers that rise.

-- none is between a number and the first from it on
first-clear : (low from : ℕ) (ns : List ℕ) (k : ℕ) → RiseFrom low ns → from ≤ k → IsBefore k (first_from from ns) → has ns k ≡ false
first-clear low from [] k rise more before = refl
first-clear low from (n ∷ ns) k rise more before = by_test (nat_le from n) refl before (first-clear (n + 1) from ns k rise.1 more)
  where
    by_test : (b : Bool) → nat_le from n ≡ b → IsBefore k (cond b (Some n) (first_from from ns)) → (IsBefore k (first_from from ns) → has ns k ≡ false) → has (n ∷ ns) k ≡ false
    by_test true is less rest = has-low n (n ∷ ns) k (omega arith, rise.1) less
    by_test false is less rest =
        let apart : n < k = grind (arith, nat_tests, is, more) in
        ap (λ (b : Bool). b || has ns k) (ne_eqb n k (λ same. omega (arith, apart, same))) ∙ rest less

-- and it is one of them
first-there : (from : ℕ) (ns : List ℕ) (a : ℕ) → first_from from ns ≡ Some a → (from ≤ a) × (has ns a ≡ true)
first-there from [] a is = absurd cc
first-there from (n ∷ ns) a is = by_test (nat_le from n) refl is (first-there from ns a)
  where
    by_test : (b : Bool) → nat_le from n ≡ b → cond b (Some n) (first_from from ns) ≡ Some a → (first_from from ns ≡ Some a → (from ≤ a) × (has ns a ≡ true)) → (from ≤ a) × (has (n ∷ ns) a ≡ true)
    by_test true least is rest =
        let same : n ≡ a = cc in
        (grind (arith, nat_tests, least, same), ap (λ (b : Bool). b || has ns a) (eq-eqb n a same))
    by_test false least is rest = ((rest is).0, ap (λ (b : Bool). (n == a) || b) (rest is).1 ∙ or-true (n == a))

-- the lesser comes before no number that both come before
lesser-before : (k : ℕ) (one other : Option ℕ) → IsBefore k (lesser one other) → IsBefore k one × IsBefore k other
lesser-before k None other before = (tt, before)
lesser-before k (Some a) None before = (before, tt)
lesser-before k (Some a) (Some b) before = by_test (nat_le a b) refl before
  where
    by_test : (t : Bool) → nat_le a b ≡ t → IsBefore k (cond t (Some a) (Some b)) → (k < a) × (k < b)
    by_test true is less = (less, grind (arith, nat_tests, is, less))
    by_test false is less = (grind (arith, nat_tests, is, less), less)

-- what holds of both holds of the lesser
lesser-all : (P : ℕ → Type 0) (one other : Option ℕ) → ((a : ℕ) → one ≡ Some a → P a) → ((a : ℕ) → other ≡ Some a → P a) → (a : ℕ) → lesser one other ≡ Some a → P a
lesser-all P None other left right a is = right a is
lesser-all P (Some x) None left right a is = left a is
lesser-all P (Some x) (Some y) left right a is = by_test (nat_le x y) is
  where
    by_test : (t : Bool) → cond t (Some x) (Some y) ≡ Some a → P a
    by_test true is = left a is
    by_test false is = right a is

-- what is among marks passes their test
marked-passes : (test : ℕ → Bool) (ns : List ℕ) (k : ℕ) → AllByRecursion (λ n. IsTrue (test n)) ns → has ns k ≡ true → test k ≡ true
marked-passes test [] k all is = absurd cc
marked-passes test (n ∷ ns) k all is = by_test (n == k) refl is (marked-passes test ns k all.1)
  where
    by_test : (b : Bool) → (n == k) ≡ b → (b || has ns k) ≡ true → (has ns k ≡ true → test k ≡ true) → test k ≡ true
    by_test true same is rest = ap test (sym (eqb-true n k same)) ∙ all.0
    by_test false apart is rest = rest is

-- Lines of numbers, of which some have none.

skip-by : {A : Type 0} (f : ℕ → List A) (from d : ℕ) → ((k : ℕ) → from ≤ k → k < from + d → f k ≡ []) → flat_map f (range_with_len 0 (from + d)) ≡ flat_map f (range_with_len 0 from)
skip-by f from zero none = let same : from + zero ≡ from = omega arith in ap (λ (n : ℕ). flat_map f (range_with_len 0 n)) same
skip-by f from (suc d) none =
    let one : from + suc d ≡ from + d + 1 = omega arith in
    ap (λ (n : ℕ). flat_map f (range_with_len 0 n)) one
    ∙ flat_next f (from + d)
    ∙ ap (λ lines. flat_map f (range_with_len 0 (from + d)) ++ lines) (none (from + d) (omega arith) (omega arith))
    ∙ append-nil (flat_map f (range_with_len 0 (from + d)))
    ∙ skip-by f from d (λ k more less. none k more (omega (arith, less)))

skipped : {A : Type 0} (f : ℕ → List A) (from to : ℕ) → from ≤ to → ((k : ℕ) → from ≤ k → k < to → f k ≡ []) → flat_map f (range_with_len 0 to) ≡ flat_map f (range_with_len 0 from)
skipped f from to more none =
    let sum : from + (to - from) ≡ to = omega (arith, more) in
    ap (λ (n : ℕ). flat_map f (range_with_len 0 n)) (sym sum) ∙ skip-by f from (to - from) (λ k high low. none k high (omega (arith, low, sum)))

-- The lines of a directory.

-- the line of a number, if it has one
abbrev pub line_of : State → ℕ → ℕ → List (List ℕ)
line_of s dir number = kind_lines (path_of s number) (kind s dir number)

module _ (s : State) (h : IsValid s) (dir : ℕ) where
  found-rise : RiseFrom 0 (transient_at s dir)
  found-rise = subst (RiseFrom 0) (sym (found-listed s dir h.acyclic)) (rise-filter (λ item. has (transient_at s dir) item) 0 (items s) (rise-filter (is_item s) 0 (range_with_len 0 s.next) (range-rises 0 s.next)))

  -- what is found, added and removed nowhere has no line
  no-line : (k : ℕ) → has (transient_at s dir) k ≡ false → is_permanent s dir k ≡ false → is_prohibited s dir k ≡ false → line_of s dir k ≡ []
  unfolding kind
  no-line k found added removed = λ i. kind_lines (path_of s k) (cond (added i) Permanent (cond (removed i) Prohibited (cond (found i) Transient Unlinked)))

  clear : (from k : ℕ) → from ≤ k → IsBefore k (next_linked s dir from) → line_of s dir k ≡ []
  clear from k more before =
      let marks = are-marks s h dir in
      let parts = lesser-before k (first_from from (transient_at s dir)) (lesser (first_from from (permanent_at s dir)) (first_from from (prohibited_at s dir))) before in
      let both = lesser-before k (first_from from (permanent_at s dir)) (first_from from (prohibited_at s dir)) parts.1 in
      no-line k
      (first-clear 0 from (transient_at s dir) k found-rise more parts.0)
      (first-clear 0 from (permanent_at s dir) k marks.0.rise more both.0)
      (first-clear 0 from (prohibited_at s dir) k marks.1.rise more both.1)

  found-items : (k : ℕ) → has (transient_at s dir) k ≡ true → k < s.next
  found-items k is = item-below s h k (middle (has (transient_at s dir) k) (is_item s k) (has (range_with_len 0 s.next) k) (sym listed ∙ is))
    where
      listed : has (transient_at s dir) k ≡ (has (transient_at s dir) k && (is_item s k && has (range_with_len 0 s.next) k))
      listed =
          ap (λ (ns : List ℕ). has ns k) (found-listed s dir h.acyclic)
          ∙ has-filter (λ item. has (transient_at s dir) item) (items s) k
          ∙ ap (λ (b : Bool). has (transient_at s dir) k && b) (has-filter (is_item s) (range_with_len 0 s.next) k)

      middle : (a b c : Bool) → (a && (b && c)) ≡ true → b ≡ true
      middle true true c is = refl
      middle true false c is = absurd cc
      middle false b c is = absurd cc

  abbrev IsNext : ℕ → ℕ → Type 0
  IsNext from a = (from ≤ a) × (a < s.next)

  -- the next number that is linked is below the next number of all
  pub next-below : (from item : ℕ) → next_linked s dir from ≡ Some item → (from ≤ item) × (item < s.next)
  next-below from =
      lesser-all (IsNext from) (first_from from (transient_at s dir)) (lesser (first_from from (permanent_at s dir)) (first_from from (prohibited_at s dir)))
      (λ a is. let there = first-there from (transient_at s dir) a is in (there.0, found-items a there.1))
      (lesser-all (IsNext from) (first_from from (permanent_at s dir)) (first_from from (prohibited_at s dir))
      (λ a is. let there = first-there from (permanent_at s dir) a is in (there.0, markable-below s h a (marked-passes (can_be_added s) (permanent_at s dir) a marks.0.there there.1)))
      (λ a is. let there = first-there from (prohibited_at s dir) a is in (there.0, item-below s h a (marked-passes (is_item s) (prohibited_at s dir) a marks.1.there there.1))))
    where
      marks : AreMarks (can_be_added s) (permanent_at s dir) × AreMarks (is_item s) (prohibited_at s dir)
      marks = are-marks s h dir

  -- one linked number more
  pub lines-next : (from item : ℕ) (lines more : List (List ℕ)) → next_linked s dir from ≡ Some item → lines ≡ flat_map (line_of s dir) (range_with_len 0 from) → more ≡ lines ++ line_of s dir item → more ≡ flat_map (line_of s dir) (range_with_len 0 (item + 1))
  lines-next from item lines more is so_far grows =
      grows
      ∙ ap (λ (xs : List (List ℕ)). xs ++ line_of s dir item) (so_far ∙ sym (skipped (line_of s dir) from item (next-below from item is).0 (λ k high low. clear from k high (subst (IsBefore k) (sym is) low))))
      ∙ sym (flat_next (line_of s dir) item)

  -- behind the last
  pub lines-all : (from : ℕ) (lines : List (List ℕ)) → from ≤ s.next → next_linked s dir from ≡ None → lines ≡ flat_map (line_of s dir) (range_with_len 0 from) → lines ≡ flat_map (line_of s dir) (range_with_len 0 s.next)
  lines-all from lines low none so_far = so_far ∙ sym (skipped (line_of s dir) from s.next low (λ k high below. clear from k high (subst (IsBefore k) (sym none) tt)))
