-- Marks are forgotten on the entries of a mount, one after the other.
use Rattle.std.proofs.Common.{◌≡◌, ℕ, Bool, true, false, cond, List, [], ◌∷◌, refl, ap, subst, sym, ◌∙◌, arith, inl, inr, ◌≤◌}
use Rattle.std.specs.Prelude.{◌==◌, ◌&&◌, ◌||◌, not, filter, map, Option, Some, None, IsTrue}
use Rattle.std.specs.List.{AllByRecursion}
use Rattle.std.specs.Option.{option_map, option_map_or}
use Rattle.std.proofs.lemmas.Bool.{and_parts, cases_eq, eq-eqb, eqb-true, ne_eqb, or_right}
use Rattle.std.proofs.Math.Bool.{and-false}
use Rattle.hac_model.specs.Tree.Changes.{without}
use Rattle.hac_model.specs.Tree.Links.{has}
use Rattle.hac_model.specs.Tree.Listing.{children, in_order, is_before, put_in_order}
use Rattle.hac_model.specs.Tree.Mounting.{is_among, is_gone, is_of_mount, is_such_at, numbers_without}
use Rattle.hac_model.specs.Tree.Valid.{IsLayout, NumbersRise, is_in_place}
use Rattle.hac_model.specs.Tree.{entry_at, is_directory_at, is_document, is_holder_at, is_mount, is_mount_at}
use Rattle.hac_model.specs.declared.states.Entry.{Entry}
use Rattle.hac_model.specs.declared.states.State.{State}
use Rattle.hac_model.proofs.TreeLemmas.{entry_at-all, entry_at-low, entry_at-number}
use Rattle.set_pool.specs.Rising as items
use Rattle.link_kinds.specs.Kinds.{Lists, without_item}
use Rattle.link_kinds.specs.Seen.{DropsItem, Known, SameLinks, lists_in}
use Rattle.link_kinds.proofs.PutLemmas.{removed-without}
use Rattle.file_tree.proofs.OrderLemmas.{children-found}
use Rattle.kept_state.specs.Forgetting.{ForgetsSuch, lists_without}
use Rattle.hac_model.proofs.AmongLemmas.{eqb-turned}
use Rattle.hac_model.proofs.ChangeLemmas.{or-turned}

-- Numbers are left out.

without-fused : (n : ℕ) (p q : ℕ → Bool) → ((m : ℕ) → q m ≡ ((n == m) || p m)) → (xs : List ℕ) → numbers_without p (without n xs) ≡ numbers_without q xs
without-fused n p q is [] = refl
without-fused n p q is (x ∷ xs) =
    elim (cases_eq x n) [
      | inl same ↦ (
          let here = eq-eqb x n same in
          let gone : q x ≡ true = is x ∙ ap (λ (b : Bool). b || p x) (eq-eqb n x (sym same)) in
          rw here (rw gone (without-fused n p q is xs)))
      | inr differ ↦ (
          let here = ne_eqb x n differ in
          let stays : q x ≡ p x = is x ∙ ap (λ (b : Bool). b || p x) (ne_eqb n x (λ same. differ (sym same))) in
          rw here (rw stays (ap (λ (rest : List ℕ). cond (not (p x)) (x ∷ rest) rest) (without-fused n p q is xs))))
    ]

none-without : (p : ℕ → Bool) → ((m : ℕ) → p m ≡ false) → (xs : List ℕ) → numbers_without p xs ≡ xs
none-without p none [] = refl
none-without p none (x ∷ xs) = let stays = none x in rw stays (ap (λ (rest : List ℕ). x ∷ rest) (none-without p none xs))

lists-fused : (n : ℕ) (p q : ℕ → Bool) → ((m : ℕ) → q m ≡ ((n == m) || p m)) → (lists : Lists) → lists_without p (without_item n lists) ≡ lists_without q lists
lists-fused n p q is lists = λ i. record { transient = one lists.transient i; permanent = one lists.permanent i; prohibited = one lists.prohibited i; lent = one lists.lent i }
  where
    one : (xs : List ℕ) → numbers_without p (items.removed n xs) ≡ numbers_without q xs
    one xs = ap (numbers_without p) (removed-without n xs) ∙ without-fused n p q is xs

-- What is still to be forgotten.

abbrev pub left : (ℕ → Bool) → List ℕ → ℕ → Bool
left test numbers number = has numbers number && test number

-- the numbers are of entries in the directory
abbrev pub is_in : State → ℕ → ℕ → Bool
is_in s dir number = is_such_at (λ entry. entry.parent == dir) s.entries number

-- of the items that pass the test those among the numbers are still to be forgotten
pub record IsForgetting (s : State) (dir : ℕ) (test : ℕ → Bool) (numbers : List ℕ) (old mid : Known) : Type 0 where
  pub lists : (d : ℕ) → lists_without (left test numbers) (lists_in mid d) ≡ lists_without test (lists_in old d)
  pub sets : SameLinks old mid
  pub there : AllByRecursion (λ number. is_in s dir number ≡ true) numbers

module _ (s : State) (dir : ℕ) (test : ℕ → Bool) (n : ℕ) (numbers : List ℕ) (old mid : Known) (h : IsForgetting s dir test (n ∷ numbers) old mid) where
  pub forgets-next : test n ≡ true → (new : Known) → DropsItem mid new n → SameLinks mid new → IsForgetting s dir test numbers old new
  forgets-next passes new drops sets = record {
    lists = λ d. ap (lists_without (left test numbers)) (drops d) ∙ lists-fused n (left test numbers) (left test (n ∷ numbers)) (λ m. one m (n == m) refl) (lists_in mid d) ∙ h.lists d;
    sets = λ d. sets d ∙ h.sets d;
    there = h.there.1;
  }
    where
      one : (m : ℕ) (b : Bool) → (n == m) ≡ b → ((b || has numbers m) && test m) ≡ (b || (has numbers m && test m))
      one m true is = ap test (sym (eqb-true n m is)) ∙ passes
      one m false is = refl

  pub keeps-next : test n ≡ false → IsForgetting s dir test numbers old mid
  keeps-next fails = record {
    lists = λ d. (λ i. lists_without (λ m. one m (n == m) refl i) (lists_in mid d)) ∙ h.lists d;
    sets = h.sets;
    there = h.there.1;
  }
    where
      one : (m : ℕ) (b : Bool) → (n == m) ≡ b → (has numbers m && test m) ≡ ((b || has numbers m) && test m)
      one m true is = let none : test m ≡ false = ap test (sym (eqb-true n m is)) ∙ fails in ap (λ (b : Bool). has numbers m && b) none ∙ and-false (has numbers m) ∙ sym none
      one m false is = refl

pub forgetting-ends : (s : State) (dir : ℕ) (test : ℕ → Bool) (old new : Known) → IsForgetting s dir test [] old new → ForgetsSuch test old new
forgetting-ends s dir test old new h d =
    sym (λ i. let lists = lists_in new d in record {
      transient = none-without (left test []) (λ m. refl) lists.transient i;
      permanent = none-without (left test []) (λ m. refl) lists.permanent i;
      prohibited = none-without (left test []) (λ m. refl) lists.prohibited i;
      lent = none-without (left test []) (λ m. refl) lists.lent i;
    })
    ∙ h.lists d

-- What is in a directory.

abbrev numbers_of : List Entry → List ℕ
numbers_of es = map (λ (e : Entry). e.number) es

has-put : (e : Entry) (es : List Entry) (m : ℕ) → has (numbers_of (put_in_order e es)) m ≡ ((e.number == m) || has (numbers_of es) m)
has-put e [] m = refl
has-put e (f ∷ es) m =
    elim (is_before e.name f.name) as (λ b. has (numbers_of (cond b (e ∷ f ∷ es) (f ∷ put_in_order e es))) m ≡ ((e.number == m) || ((f.number == m) || has (numbers_of es) m))) [
      | true ↦ refl
      | false ↦ ap (λ (b : Bool). (f.number == m) || b) (has-put e es m) ∙ or-turned (f.number == m) (e.number == m) (has (numbers_of es) m)
    ]

has-order : (es : List Entry) (m : ℕ) → has (numbers_of (in_order es)) m ≡ has (numbers_of es) m
has-order [] m = refl
has-order (e ∷ es) m = has-put e (in_order es) m ∙ ap (λ (b : Bool). (e.number == m) || b) (has-order es m)

module _ (dir : ℕ) where
  abbrev standing : List Entry → List Entry
  standing es = filter (λ e. e.parent == dir) es

  has-standing : (above : ℕ) (es : List Entry) (next m : ℕ) → NumbersRise above es next → has (numbers_of (standing es)) m ≡ is_such_at (λ e. e.parent == dir) es m
  has-standing above [] next m h = refl
  has-standing above (e ∷ es) next m h =
      elim (cases_eq e.number m) [
        | inl same ↦ (
            let here = eq-eqb e.number m same in
            let rest : has (numbers_of (standing es)) m ≡ false = has-standing e.number es next m h.1 ∙ ap (λ (o : Option Entry). option_map_or (λ e. e.parent == dir) o false) (entry_at-low e.number es next m h.1 (le-of same)) in
            rw here (elim (e.parent == dir) as (λ b. has (numbers_of (cond b (e ∷ standing es) (standing es))) m ≡ b) [
              | true ↦ ap (λ (b : Bool). b || has (numbers_of (standing es)) m) here
              | false ↦ rest
            ]))
        | inr differ ↦ (
            let other = ne_eqb e.number m differ in
            rw other (elim (e.parent == dir) as (λ b. has (numbers_of (cond b (e ∷ standing es) (standing es))) m ≡ is_such_at (λ e. e.parent == dir) es m) [
              | true ↦ ap (λ (b : Bool). b || has (numbers_of (standing es)) m) other ∙ has-standing e.number es next m h.1
              | false ↦ has-standing e.number es next m h.1
            ]))
      ]
    where
      le-of : e.number ≡ m → m ≤ e.number
      le-of same = omega (arith, same)

module _ (s : State) (layout : IsLayout s) (dir : ℕ) where
  has-children : (m : ℕ) → has (numbers_of (children s dir)) m ≡ is_in s dir m
  has-children m = has-order (standing dir s.entries) m ∙ has-standing dir 0 s.entries s.next m layout.numbers

  in-children : AllByRecursion (λ number. is_in s dir number ≡ true) (numbers_of (children s dir))
  in-children = each (children s dir) (children-found s dir layout.numbers)
    where
      each : (es : List Entry) → AllByRecursion (λ e. (entry_at s.entries e.number ≡ Some e) × (e.parent ≡ dir)) es → AllByRecursion (λ number. is_in s dir number ≡ true) (numbers_of es)
      each [] h = tt
      each (e ∷ es) h = (ap (λ (o : Option Entry). option_map_or (λ e. e.parent == dir) o false) h.0.0 ∙ eq-eqb e.parent dir h.0.1, each es h.1)

  -- where just what is in the directory passes a test, all that is in it is still to be looked at
  pub forgetting-begins : (test : ℕ → Bool) (numbers : List ℕ) (marks : Known) → numbers ≡ numbers_of (children s dir) → ((m : ℕ) → test m ≡ true → is_in s dir m ≡ true) → IsForgetting s dir test numbers marks marks
  forgetting-begins test numbers marks are within =
      subst (λ (ns : List ℕ). IsForgetting s dir test ns marks marks) (sym are) (record {
        lists = λ d i. lists_without (λ m. one m (test m) refl i) (lists_in marks d);
        sets = λ d. refl;
        there = in-children;
      })
    where
      one : (m : ℕ) (b : Bool) → test m ≡ b → (has (numbers_of (children s dir)) m && test m) ≡ test m
      one m true is = ap (λ (b : Bool). b && test m) (has-children m ∙ within m is)
      one m false is = ap (λ (b : Bool). has (numbers_of (children s dir)) m && b) is ∙ and-false (has (numbers_of (children s dir)) m) ∙ sym is

  -- the same, where the directory itself passes the test too, and is forgotten
  pub forgetting-begun : (test : ℕ → Bool) (numbers : List ℕ) (old mid : Known) → numbers ≡ numbers_of (children s dir) → test dir ≡ true → ((m : ℕ) → test m ≡ true → ((dir == m) || is_in s dir m) ≡ true) → DropsItem old mid dir → SameLinks old mid → IsForgetting s dir test numbers old mid
  forgetting-begun test numbers old mid are own within drops sets =
      subst (λ (ns : List ℕ). IsForgetting s dir test ns old mid) (sym are) (record {
        lists = λ d. ap (lists_without (left test (numbers_of (children s dir)))) (drops d) ∙ lists-fused dir (left test (numbers_of (children s dir))) test (λ m. one m (dir == m) refl (test m) refl) (lists_in old d);
        sets = sets;
        there = in-children;
      })
    where
      one : (m : ℕ) (a : Bool) → (dir == m) ≡ a → (b : Bool) → test m ≡ b → test m ≡ (a || (has (numbers_of (children s dir)) m && test m))
      one m true here b is = ap test (sym (eqb-true dir m here)) ∙ own
      one m false other true is =
          is ∙ sym (ap (λ (b : Bool). b && test m) (has-children m ∙ ap (λ (b : Bool). b || is_in s dir m) (sym other) ∙ within m is) ∙ is)
      one m false other false is = is ∙ sym (ap (λ (b : Bool). has (numbers_of (children s dir)) m && b) is ∙ and-false (has (numbers_of (children s dir)) m))

-- What goes with a mount, or from it.

module _ (s : State) (mount : ℕ) where
  pub of_mount-within : (m : ℕ) → is_such_at (is_of_mount mount) s.entries m ≡ true → ((mount == m) || is_in s mount m) ≡ true
  of_mount-within m h = at (entry_at s.entries m) refl h
    where
      at : (o : Option Entry) → entry_at s.entries m ≡ o → option_map_or (is_of_mount mount) o false ≡ true → ((mount == m) || option_map_or (λ e. e.parent == mount) o false) ≡ true
      at None found h = absurd cc
      at (Some e) found h =
          let number : e.number ≡ m = entry_at-number s.entries m e found in
          ap (λ (b : Bool). b || (e.parent == mount)) (eqb-turned mount m ∙ ap (λ (k : ℕ). k == mount) (sym number)) ∙ h

  pub of_mount-own : is_mount_at s.entries mount ≡ true → is_such_at (is_of_mount mount) s.entries mount ≡ true
  of_mount-own h = at (entry_at s.entries mount) refl h
    where
      at : (o : Option Entry) → entry_at s.entries mount ≡ o → option_map_or is_mount (option_map (λ (e : Entry). e.body) o) false ≡ true → option_map_or (is_of_mount mount) o false ≡ true
      at None found h = absurd cc
      at (Some e) found h = ap (λ (b : Bool). b || (e.parent == mount)) (eq-eqb e.number mount (entry_at-number s.entries mount e found))

  pub of_mount-in : (m : ℕ) → is_in s mount m ≡ true → is_such_at (is_of_mount mount) s.entries m ≡ true
  of_mount-in m h = elim (entry_at s.entries m) as (λ (o : Option Entry). option_map_or (λ e. e.parent == mount) o false ≡ true → option_map_or (is_of_mount mount) o false ≡ true) [
    | None ↦ (λ h. absurd cc)
    | Some e ↦ (λ h. or_right (e.number == mount) (e.parent == mount) h)
  ] h

  module _ (names : List (List ℕ)) where
    pub gone-within : (m : ℕ) → is_such_at (is_gone mount names) s.entries m ≡ true → is_in s mount m ≡ true
    gone-within m h = elim (entry_at s.entries m) as (λ (o : Option Entry). option_map_or (is_gone mount names) o false ≡ true → option_map_or (λ e. e.parent == mount) o false ≡ true) [
      | None ↦ (λ h. absurd cc)
      | Some e ↦ (λ h. (and_parts (e.parent == mount) (not (is_among names e.name)) (and_parts (is_document e.body) _ h).1).0)
    ] h

    -- what is in a mount is a document, and goes unless its name is among these
    pub gone-told : IsLayout s → is_mount_at s.entries mount ≡ true → (m : ℕ) (name : List ℕ) → is_in s mount m ≡ true → option_map (λ (e : Entry). e.name) (entry_at s.entries m) ≡ Some name → is_such_at (is_gone mount names) s.entries m ≡ not (is_among names name)
    gone-told layout is m name there named = at (entry_at s.entries m) refl there named
      where
        at : (o : Option Entry) → entry_at s.entries m ≡ o → option_map_or (λ e. e.parent == mount) o false ≡ true → option_map (λ (e : Entry). e.name) o ≡ Some name → option_map_or (is_gone mount names) o false ≡ not (is_among names name)
        at None found there named = absurd cc
        at (Some e) found there named =
            let same : e.name ≡ name = cc in
            let document : is_document e.body ≡ true = kind (is_document e.body) refl in
            (λ i. document i && (there i && not (is_among names (same i))))
          where
            kind : (b : Bool) → is_document e.body ≡ b → is_document e.body ≡ true
            kind true is_one = is_one
            kind false is_none =
                let placed : is_in_place s.entries e ≡ true = entry_at-all (λ x. IsTrue (is_in_place s.entries x)) s.entries m e layout.places found in
                let held : is_holder_at s.entries mount ≡ true = ap (λ (d : ℕ). is_holder_at s.entries d) (sym (eqb-true e.parent mount there)) ∙ sym (ap (λ (b : Bool). cond b (is_mount_at s.entries e.parent) (is_holder_at s.entries e.parent)) is_none) ∙ placed in
                let apart : not (is_mount_at s.entries mount) ≡ true = (and_parts (is_directory_at s.entries mount) (not (is_mount_at s.entries mount)) held).1 in
                let never : false ≡ true = sym (ap not is) ∙ apart in absurd cc
