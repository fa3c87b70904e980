-- Which files are dirty, and which numbers the set of a tree has.
use Rattle.std.proofs.Common.{◌≡◌, ℕ, ◌<◌, ◌≤◌, Bool, true, false, cond, List, [], ◌∷◌, filter, refl, ap, sym, ◌∙◌, subst, arith, eq-eqb}
use Rattle.std.specs.Prelude.{◌==◌, ◌&&◌, ◌||◌, not, nat_le, nat_lt, find, Option, Some, None, is_some}
use Rattle.std.specs.BTreeMap.{is_at}
use Rattle.std.specs.BTreeMap.Range.{range_contains}
use Rattle.std.specs.Cmp.{unsigned_ties}
use Rattle.std.specs.List.{AllByRecursion, list_any}
use Rattle.std.specs.List.Sorted.{IsStrictlySortedBy}
use Rattle.std.specs.Option.{option_map, option_map_or}
use Rattle.std.specs.Ordering.{is_lt, nat_cmp}
use Rattle.std.specs.declared.cmp.Ordering.TheVariants.{Less, Equal, Greater}
use Rattle.std.specs.declared.ops.Bound.TheVariants.{Excluded, Unbounded}
use Rattle.std.proofs.lemmas.Bool.{and_parts, eqb-true, ltb-true, ne_eqb}
use Rattle.std.proofs.lemmas.Bool.Decides.{nat_tests}
use Rattle.std.proofs.Math.Bool.{and-false, and-true, or-false}
use Rattle.hac_model.specs.Query.Formula.{Formula}
use Rattle.hac_model.specs.Tree.Events.{added, apply, asking, changed_at, edited, indexed, next_dirty, plain_body, removed, rewritten}
use Rattle.hac_model.specs.Tree.{entry_at, is_dirty, is_file, is_file_at}
use Rattle.hac_model.specs.Tree.Valid.{IsLayout, NumbersRise}
use Rattle.hac_model.specs.declared.events.Event.TheVariants.{Step}
use Rattle.hac_model.specs.declared.states.Body.{Body}
use Rattle.hac_model.specs.declared.states.Body.TheVariants as body
use Rattle.hac_model.specs.declared.states.Entry.{Entry}
use Rattle.hac_model.specs.declared.states.State.{State}
use Rattle.hac_model.proofs.ChangeLemmas.{entry_at-changed, entry_at-gone, entry_at-kept, entry_at-new, entry_at-other, touched}
use Rattle.hac_model.proofs.EventLemmas.{due, steps-due}
use Rattle.hac_model.proofs.TreeLemmas.{entry_at-behind, entry_at-first, entry_at-low, entry_at-next, entry_at-number}
use Rattle.hac_model.proofs.LayoutLemmas.{apply-layout}
use Rattle.file_tree.specs.Answers.{entries_behind, is_dirty_at}
use Rattle.file_tree.specs.Bodies.{body_from}
use Rattle.file_tree.specs.Ready.{is_awaited, ready_for}
use Rattle.file_tree.specs.declared.bodies.NewBody.{NewBody}
use Rattle.file_tree.specs.declared.ready.Ready.TheVariants.{Text}
use Rattle.file_tree.specs.declared.bodies.NewBody.TheVariants as new

-- the entry that is looked up is dirty
abbrev dirty_in : Option Entry → Bool
dirty_in found = option_map_or is_dirty (option_map (λ (e : Entry). e.body) found) false

other-eqb : (m n : ℕ) → (m == n) ≡ false → m ≡ n → ⊥
other-eqb m n other same = let even : (m == n) ≡ true = eq-eqb m n same in cc

-- What a set has beside the dirty files.

module _ (dirty : ℕ → Bool) (n : ℕ) where
  -- a number that isn't dirty goes, and the set has what it had
  pub without-clean : (file : ℕ) → dirty file ≡ false → ((dirty n || (file == n)) && not (file == n)) ≡ dirty n
  without-clean file clean = elim (file == n) as (λ b. (file == n) ≡ b → ((dirty n || b) && not b) ≡ dirty n) [
    | true ↦ (λ same. and-false (dirty n || true) ∙ sym clean ∙ ap dirty (eqb-true file n same))
    | false ↦ (λ other. and-true (dirty n || false) ∙ or-false (dirty n))
  ] refl

  -- one that is dirty stays
  pub with-dirty : (file : ℕ) → dirty file ≡ true → ((dirty n || (file == n)) && true) ≡ dirty n
  with-dirty file is = and-true (dirty n || (file == n)) ∙ (elim (file == n) as (λ b. (file == n) ≡ b → (dirty n || b) ≡ dirty n) [
    | true ↦ (λ same. let here : dirty n ≡ true = ap dirty (sym (eqb-true file n same)) ∙ is in ap (λ (b : Bool). b || true) here ∙ sym here)
    | false ↦ (λ other. or-false (dirty n))
  ] refl)

  pub with-none : ((dirty n || false) && true) ≡ dirty n
  with-none = and-true (dirty n || false) ∙ or-false (dirty n)

-- Which files are dirty after a change.

-- a new entry has the number that was next
new-number : (s : State) → IsLayout s → is_dirty_at s.entries s.next ≡ false
new-number s h = ap dirty_in (entry_at-next 0 s.entries s.next s.next h.numbers (omega arith))

-- a new file is awaited
pub dirty-added : (s : State) (dir : ℕ) (name : List ℕ) (b : NewBody) (n : ℕ) → IsLayout s →
    (is_dirty_at s.entries n || is_awaited s.next (ready_for dir b) n) ≡ is_dirty_at (added s dir name (body_from b)).entries n
dirty-added s dir name b n h = ap (λ (t : Bool). is_dirty_at s.entries n || t) (awaits b) ∙ (elim (s.next == n) as (λ t. (s.next == n) ≡ t → (is_dirty_at s.entries n || (is_dirty (body_from b) && t)) ≡ is_dirty_at (added s dir name (body_from b)).entries n) [
  | true ↦ (λ same.
      let here : s.next ≡ n = eqb-true s.next n same in
      let clean : is_dirty_at s.entries n ≡ false = ap (λ (k : ℕ). is_dirty_at s.entries k) (sym here) ∙ new-number s h in
      ap (λ (t : Bool). t || (is_dirty (body_from b) && true)) clean
      ∙ and-true (is_dirty (body_from b))
      ∙ sym (ap dirty_in (ap (λ (k : ℕ). entry_at (added s dir name (body_from b)).entries k) (sym here) ∙ entry_at-new s.entries (record { number = s.next; parent = dir; name = name; body = body_from b }) (entry_at-next 0 s.entries s.next s.next h.numbers (omega arith)))))
  | false ↦ (λ other.
      ap (λ (t : Bool). is_dirty_at s.entries n || t) (and-false (is_dirty (body_from b)))
      ∙ or-false (is_dirty_at s.entries n)
      ∙ sym (ap dirty_in (entry_at-other s.entries (record { number = s.next; parent = dir; name = name; body = body_from b }) n (other-eqb s.next n other))))
] refl)
  where
    awaits : (b : NewBody) → is_awaited s.next (ready_for dir b) n ≡ (is_dirty (body_from b) && (s.next == n))
    awaits (new.File text) = refl
    awaits new.Dir = refl
    awaits (new.Symlink target) = refl
    awaits (new.Semantic query) = refl
    awaits (new.Mount space) = refl
    awaits new.Document = refl

-- after a change of one entry
dirty-changed : (s : State) (k : ℕ) (change : Entry → Entry) (n : ℕ) → ((e : Entry) → (change e).number ≡ e.number) →
    is_dirty_at (changed_at s k change).entries n ≡ cond (k == n) (dirty_in (option_map change (entry_at s.entries n))) (is_dirty_at s.entries n)
dirty-changed s k change n keeps = ap dirty_in (entry_at-changed k change s.entries n keeps) ∙ told (entry_at s.entries n) refl
  where
    told : (o : Option Entry) → entry_at s.entries n ≡ o → dirty_in (option_map (touched k change) o) ≡ cond (k == n) (dirty_in (option_map change o)) (dirty_in o)
    told None there = elim (k == n) as (λ b. false ≡ cond b false false) [ true ↦ refl | false ↦ refl ]
    told (Some e) there = elim (k == n) as (λ b. (k == n) ≡ b → is_dirty (touched k change e).body ≡ cond b (is_dirty (change e).body) (is_dirty e.body)) [
      | true ↦ (λ same. ap (λ (b : Bool). is_dirty (cond b (change e) e).body) (eq-eqb e.number k (entry_at-number s.entries n e there ∙ sym (eqb-true k n same))))
      | false ↦ (λ other. ap (λ (b : Bool). is_dirty (cond b (change e) e).body) (ne_eqb e.number k (λ same. other-eqb k n other (sym same ∙ entry_at-number s.entries n e there))))
    ] refl

-- a change that leaves each entry as dirty as it was
pub dirty-kept : (s : State) (k : ℕ) (change : Entry → Entry) (n : ℕ) → ((e : Entry) → (change e).number ≡ e.number) → ((e : Entry) → is_dirty (change e).body ≡ is_dirty e.body) →
    is_dirty_at s.entries n ≡ is_dirty_at (changed_at s k change).entries n
dirty-kept s k change n keeps same = sym (dirty-changed s k change n keeps ∙ (elim (k == n) as (λ b. cond b (dirty_in (option_map change (entry_at s.entries n))) (is_dirty_at s.entries n) ≡ is_dirty_at s.entries n) [
  | true ↦ told (entry_at s.entries n)
  | false ↦ refl
]))
  where
    told : (o : Option Entry) → dirty_in (option_map change o) ≡ dirty_in o
    told None = refl
    told (Some e) = same e

-- a file that is written becomes dirty
pub dirty-written : (s : State) (file : ℕ) (text : List ℕ) (n : ℕ) → is_file_at s.entries file ≡ true →
    (is_dirty_at s.entries n || is_awaited s.next (Text file) n) ≡ is_dirty_at (changed_at s file (edited (rewritten text))).entries n
dirty-written s file text n is = sym (dirty-changed s file (edited (rewritten text)) n (λ e. refl) ∙ (elim (file == n) as (λ b. (file == n) ≡ b → cond b (dirty_in (option_map (edited (rewritten text)) (entry_at s.entries n))) (is_dirty_at s.entries n) ≡ (is_dirty_at s.entries n || b)) [
  | true ↦ (λ same.
      told (entry_at s.entries n) (ap (λ (k : ℕ). is_file_at s.entries k) (sym (eqb-true file n same)) ∙ is) ∙ sym (or-true (is_dirty_at s.entries n)))
  | false ↦ (λ other. sym (or-false (is_dirty_at s.entries n)))
] refl))
  where
    or-true : (b : Bool) → (b || true) ≡ true
    or-true true = refl
    or-true false = refl

    in_body : (b : Body) → is_file b ≡ true → is_dirty (rewritten text b) ≡ true
    in_body (body.File old dirty shown) file = refl
    in_body other file = absurd cc

    told : (o : Option Entry) → option_map_or is_file (option_map (λ (e : Entry). e.body) o) false ≡ true → dirty_in (option_map (edited (rewritten text)) o) ≡ true
    told None file = absurd cc
    told (Some e) file = in_body e.body file

-- a file that is indexed is clean
pub dirty-indexed : (s : State) (file n : ℕ) → (is_dirty_at s.entries n && not (file == n)) ≡ is_dirty_at (changed_at s file (edited indexed)).entries n
dirty-indexed s file n = sym (dirty-changed s file (edited indexed) n (λ e. refl) ∙ (elim (file == n) as (λ b. cond b (dirty_in (option_map (edited indexed) (entry_at s.entries n))) (is_dirty_at s.entries n) ≡ (is_dirty_at s.entries n && not b)) [
  | true ↦ told (entry_at s.entries n) ∙ sym (and-false (is_dirty_at s.entries n))
  | false ↦ sym (and-true (is_dirty_at s.entries n))
]))
  where
    in_body : (b : Body) → is_dirty (indexed b) ≡ false
    in_body (body.File text dirty shown) = refl
    in_body other = refl

    told : (o : Option Entry) → dirty_in (option_map (edited indexed) o) ≡ false
    told None = refl
    told (Some e) = in_body e.body

-- and what is removed isn't there
pub dirty-removed : (s : State) (k n : ℕ) → (is_dirty_at s.entries n && not (k == n)) ≡ is_dirty_at (removed s k).entries n
dirty-removed s k n = elim (k == n) as (λ b. (k == n) ≡ b → (is_dirty_at s.entries n && not b) ≡ is_dirty_at (removed s k).entries n) [
  | true ↦ (λ same. and-false (is_dirty_at s.entries n) ∙ sym (ap dirty_in (ap (λ (m : ℕ). entry_at (removed s k).entries m) (sym (eqb-true k n same)) ∙ entry_at-gone k s.entries)))
  | false ↦ (λ other. and-true (is_dirty_at s.entries n) ∙ sym (ap dirty_in (entry_at-kept k s.entries n (other-eqb k n other))))
] refl

-- the least number of a dirty file is next
pub least-next : (above : ℕ) (es : List Entry) (next n : ℕ) → NumbersRise above es next → is_dirty_at es n ≡ true → ((k : ℕ) → k < n → is_dirty_at es k ≡ false) → next_dirty es ≡ Some n
least-next above [] next n h dirty least = absurd cc
least-next above (e ∷ es) next n h dirty least =
    elim (e.number == n) as (λ b. (e.number == n) ≡ b → next_dirty (e ∷ es) ≡ Some n) [
      | true ↦ (λ same.
          let here : e.number ≡ n = eqb-true e.number n same in
          let is : is_dirty e.body ≡ true = sym (ap dirty_in (entry_at-first e es)) ∙ ap (λ (k : ℕ). is_dirty_at (e ∷ es) k) here ∙ dirty in
          ap (λ (b : Bool). cond b (Some e.number) (next_dirty es)) is ∙ ap Some here)
      | false ↦ (λ other.
          let apart : e.number ≡ n → ⊥ = λ same. let even : (e.number == n) ≡ true = eq-eqb e.number n same in absurd cc in
          let behind : is_dirty_at es n ≡ true = sym (ap dirty_in (entry_at-behind e es n apart)) ∙ dirty in
          let beyond : e.number < n = above_it n behind in
          let clean : is_dirty e.body ≡ false = sym (ap dirty_in (entry_at-first e es)) ∙ least e.number beyond in
          ap (λ (b : Bool). cond b (Some e.number) (next_dirty es)) clean ∙ least-next e.number es next n h.1 behind (λ k less. fewer k less))
    ] refl
  where
    low : (k : ℕ) → k ≤ e.number → is_dirty_at es k ≡ false
    low k less = ap dirty_in (entry_at-low e.number es next k h.1 less)

    above_it : (n : ℕ) → is_dirty_at es n ≡ true → e.number < n
    above_it n is = elim (nat_le n e.number) as (λ b. nat_le n e.number ≡ b → e.number < n) [
      | true ↦ (λ less. let never : true ≡ false = sym is ∙ low n (grind (arith, nat_tests, less)) in absurd cc)
      | false ↦ (λ more. grind (arith, nat_tests, more))
    ] refl

    fewer : (k : ℕ) → k < n → is_dirty_at es k ≡ false
    fewer k less = elim (nat_le k e.number) as (λ b. nat_le k e.number ≡ b → is_dirty_at es k ≡ false) [
      | true ↦ (λ few. low k (grind (arith, nat_tests, few)))
      | false ↦ (λ more. sym (ap dirty_in (entry_at-behind e es k (λ same. grind (arith, nat_tests, more, same)))) ∙ least k less)
    ] refl

-- nothing is next where no file is dirty
pub none-dirty : (es : List Entry) → ((k : ℕ) → is_dirty_at es k ≡ false) → (above next : ℕ) → NumbersRise above es next → next_dirty es ≡ None
none-dirty [] clean above next h = refl
none-dirty (e ∷ es) clean above next h =
    let first : is_dirty e.body ≡ false = sym (ap dirty_in (entry_at-first e es)) ∙ clean e.number in
    ap (λ (b : Bool). cond b (Some e.number) (next_dirty es)) first ∙ none-dirty es behind e.number next h.1
  where
    behind : (k : ℕ) → is_dirty_at es k ≡ false
    behind k = elim (e.number == k) as (λ b. (e.number == k) ≡ b → is_dirty_at es k ≡ false) [
      | true ↦ (λ same. ap dirty_in (entry_at-low e.number es next k h.1 (omega (arith, eqb-true e.number k same))))
      | false ↦ (λ other. sym (ap dirty_in (entry_at-behind e es k (λ same. let even : (e.number == k) ≡ true = eq-eqb e.number k same in absurd cc))) ∙ clean k)
    ] refl

-- a tree stays one when its next dirty file is indexed
pub step-layout : (s : State) → IsLayout s → IsLayout (apply s Step)
step-layout s h = elim (next_dirty s.entries) as (λ o. next_dirty s.entries ≡ o → IsLayout (option_map_or (λ file. changed_at s file (edited indexed)) o s)) [
  | None ↦ (λ next. h)
  | Some file ↦ (λ next.
      subst (λ (o : Option ℕ). IsLayout (option_map_or (λ file. changed_at s file (edited indexed)) o s)) next
      (apply-layout s Step h (steps-due s h ∙ sym (due s.entries) ∙ ap (λ (o : Option ℕ). is_some o) next)))
] refl

pub indexed-layout : (s : State) (n : ℕ) → IsLayout s → next_dirty s.entries ≡ Some n → IsLayout (changed_at s n (edited indexed))
indexed-layout s n h next = subst (λ (o : Option ℕ). IsLayout (option_map_or (λ file. changed_at s file (edited indexed)) o s)) next (step-layout s h)

-- a query has nothing to do with what is dirty
pub asking-dirty : (query : Formula ℕ) (b : Body) → is_dirty (asking query b) ≡ is_dirty b
asking-dirty query body.Dir = refl
asking-dirty query (body.Semantic old permanent prohibited) = refl
asking-dirty query other = refl

pub plain-dirty : (b : Body) → is_dirty (plain_body b) ≡ is_dirty b
plain-dirty (body.Semantic query permanent prohibited) = refl
plain-dirty other = refl

-- The least number of a set that has each dirty file.

less-lt : (k y : ℕ) → nat_cmp k y ≡ Less → k < y
less-lt k y less = elim (nat_lt k y) as (λ b. nat_lt k y ≡ b → cond b Less (cond (k == y) Equal Greater) ≡ Less → k < y) [
  | true ↦ (λ is less. ltb-true k y is)
  | false ↦ (λ not_so less. elim (k == y) as (λ b. cond b Equal Greater ≡ Less → k < y) [ true ↦ (λ never. absurd cc) | false ↦ (λ never. absurd cc) ] less)
] refl less

-- a number below all of them isn't among them
none-below : (k j : ℕ) (ks : List ℕ) → j < k → AllByRecursion (λ y. nat_cmp k y ≡ Less) ks → list_any (is_at (nat_cmp j)) ks ≡ false
none-below k j [] low above = refl
none-below k j (y ∷ ks) low above =
    let more : k < y = less-lt k y above.0 in
    let other : (j == y) ≡ false = ne_eqb j y (λ same. omega arith) in
    ap (λ (b : Bool). b || list_any (is_at (nat_cmp j)) ks) (sym (unsigned_ties j y) ∙ other) ∙ none-below k j ks low above.1

pub found-next : (es : List Entry) (next : ℕ) → NumbersRise 0 es next → (keys : List ℕ) → IsStrictlySortedBy nat_cmp keys → ((n : ℕ) → is_dirty_at es n ≡ true → list_any (is_at (nat_cmp n)) keys ≡ true) →
    next_dirty es ≡ find (is_dirty_at es) keys
unfolding IsStrictlySortedBy
found-next es next h [] sorted has = none-dirty es (λ n. clean n (is_dirty_at es n) refl) 0 next h
  where
    clean : (n : ℕ) (b : Bool) → is_dirty_at es n ≡ b → is_dirty_at es n ≡ false
    clean n true dirty = (let never : false ≡ true = has n dirty in absurd cc)
    clean n false is = is
found-next es next h (k ∷ ks) (above, sorted) has = elim (is_dirty_at es k) as (λ b. is_dirty_at es k ≡ b → next_dirty es ≡ cond b (Some k) (find (is_dirty_at es) ks)) [
  | true ↦ (λ dirty. least-next 0 es next k h dirty (λ j low. low-clean j low (is_dirty_at es j) refl))
  | false ↦ (λ clean. found-next es next h ks sorted (λ n dirty. behind n dirty clean))
] refl
  where
    low-clean : (j : ℕ) → j < k → (b : Bool) → is_dirty_at es j ≡ b → is_dirty_at es j ≡ false
    low-clean j low true dirty =
        let other : (j == k) ≡ false = ne_eqb j k (λ same. omega arith) in
        let never : false ≡ true = sym (ap (λ (b : Bool). b || list_any (is_at (nat_cmp j)) ks) (sym (unsigned_ties j k) ∙ other) ∙ none-below k j ks low above) ∙ has j dirty in
        absurd cc
    low-clean j low false is = is

    behind : (n : ℕ) → is_dirty_at es n ≡ true → is_dirty_at es k ≡ false → list_any (is_at (nat_cmp n)) ks ≡ true
    behind n dirty clean =
        let other : (n == k) ≡ false = ne_eqb n k (λ same. let never : true ≡ false = sym dirty ∙ ap (λ (m : ℕ). is_dirty_at es m) same ∙ clean in cc) in
        ap (λ (b : Bool). b || list_any (is_at (nat_cmp n)) ks) (sym (sym (unsigned_ties n k) ∙ other)) ∙ has n dirty

-- The same of the files whose numbers are above one.

module _ (test : Entry → Bool) where
  rises-lower : (low high : ℕ) (es : List Entry) (next : ℕ) → low ≤ high → NumbersRise high es next → NumbersRise low es next
  rises-lower low high [] next less h = omega (arith, h)
  rises-lower low high (e ∷ es) next less h = (omega (arith, h.0), h.1)

  some-rise : (above : ℕ) (es : List Entry) (next : ℕ) → NumbersRise above es next → NumbersRise above (filter test es) next
  some-rise above [] next h = h
  some-rise above (e ∷ es) next h = elim (test e) as (λ b. NumbersRise above (cond b (e ∷ filter test es) (filter test es)) next) [
    | true ↦ (h.0, some-rise e.number es next h.1)
    | false ↦
        (let first : above < e.number = h.0 in
        rises-lower above e.number (filter test es) next (omega arith) (some-rise e.number es next h.1))
  ]

-- an entry is found among them where its number is above that one
entry-behind : (last : ℕ) (es : List Entry) (n : ℕ) → entry_at (entries_behind last es) n ≡ cond (nat_lt last n) (entry_at es n) None
entry-behind last [] n = elim (nat_lt last n) as (λ b. None ≡ cond {A = Option Entry} b None None) [ true ↦ refl | false ↦ refl ]
entry-behind last (e ∷ es) n = by_tests (nat_lt last e.number) (e.number == n) (nat_lt last n) refl refl refl (entry-behind last es n)
  where
    by_tests : (passes here wanted : Bool) → nat_lt last e.number ≡ passes → (e.number == n) ≡ here → nat_lt last n ≡ wanted → entry_at (entries_behind last es) n ≡ cond (nat_lt last n) (entry_at es n) None →
        entry_at (cond passes (e ∷ entries_behind last es) (entries_behind last es)) n ≡ cond wanted (cond here (Some e) (entry_at es n)) None
    by_tests true true true passes is wants rest = ap (λ (b : Bool). cond b (Some e) (entry_at (entries_behind last es) n)) is
    by_tests true true false passes is wants rest = absurd (let never : true ≡ false = sym passes ∙ ap (nat_lt last) (eqb-true e.number n is) ∙ wants in cc)
    by_tests true false wanted passes is wants rest = ap (λ (b : Bool). cond b (Some e) (entry_at (entries_behind last es) n)) is ∙ rest ∙ ap (λ (b : Bool). cond b (entry_at es n) None) wants
    by_tests false true true passes is wants rest = absurd (let never : true ≡ false = sym wants ∙ ap (nat_lt last) (sym (eqb-true e.number n is)) ∙ passes in cc)
    by_tests false true false passes is wants rest = rest ∙ ap (λ (b : Bool). cond b (entry_at es n) None) wants
    by_tests false false wanted passes is wants rest = rest ∙ ap (λ (b : Bool). cond b (entry_at es n) None) wants

pub dirty-behind : (last : ℕ) (es : List Entry) (n : ℕ) → is_dirty_at (entries_behind last es) n ≡ (nat_lt last n && is_dirty_at es n)
dirty-behind last es n =
    ap dirty_in (entry-behind last es n)
    ∙ (elim (nat_lt last n) as (λ b. dirty_in (cond b (entry_at es n) None) ≡ (b && is_dirty_at es n)) [ true ↦ refl | false ↦ refl ])

find-passing : (p q r : ℕ → Bool) → ((k : ℕ) → r k ≡ (q k && p k)) → (ks : List ℕ) → find r ks ≡ find p (filter q ks)
find-passing p q r both [] = refl
find-passing p q r both (k ∷ ks) =
    ap (λ (b : Bool). cond b (Some k) (find r ks)) (both k)
    ∙ (elim (q k) as (λ b. cond (b && p k) (Some k) (find r ks) ≡ find p (cond b (k ∷ filter q ks) (filter q ks))) [
      | true ↦ ap (λ (o : Option ℕ). cond (p k) (Some k) o) (find-passing p q r both ks)
      | false ↦ find-passing p q r both ks
    ])

above-test : (last k : ℕ) → range_contains nat_cmp (Excluded last) Unbounded k ≡ nat_lt last k
above-test last k = elim (nat_lt last k) as (λ b. (is_lt (cond b Less (cond (last == k) Equal Greater)) && true) ≡ b) [
  | true ↦ refl
  | false ↦ elim (last == k) as (λ b. (is_lt (cond b Equal Greater) && true) ≡ false) [ true ↦ refl | false ↦ refl ]
]

pub found-behind : (last : ℕ) (es : List Entry) (next : ℕ) → NumbersRise 0 es next → (keys : List ℕ) → IsStrictlySortedBy nat_cmp keys → ((n : ℕ) → is_dirty_at es n ≡ true → list_any (is_at (nat_cmp n)) keys ≡ true) →
    next_dirty (entries_behind last es) ≡ find (is_dirty_at es) (filter (range_contains nat_cmp (Excluded last) Unbounded) keys)
found-behind last es next h keys sorted has =
    found-next (entries_behind last es) next (some-rise (λ (e : Entry). nat_lt last e.number) 0 es next h) keys sorted (λ n dirty. has n (dirty-too n (sym (dirty-behind last es n) ∙ dirty)))
    ∙ find-passing (is_dirty_at es) (range_contains nat_cmp (Excluded last) Unbounded) (is_dirty_at (entries_behind last es)) (λ k. dirty-behind last es k ∙ ap (λ (b : Bool). b && is_dirty_at es k) (sym (above-test last k))) keys
  where
    dirty-too : (n : ℕ) → (nat_lt last n && is_dirty_at es n) ≡ true → is_dirty_at es n ≡ true
    dirty-too n both = (and_parts (nat_lt last n) (is_dirty_at es n) both).1

-- all entries are behind the root
pub behind-root : (above : ℕ) (es : List Entry) (next : ℕ) → NumbersRise above es next → entries_behind 0 es ≡ es
behind-root above [] next h = refl
behind-root above (e ∷ es) next h =
    let first : above < e.number = h.0 in
    let passes : nat_lt 0 e.number ≡ true = grind (arith, nat_tests) in
    ap (λ (b : Bool). cond b (e ∷ entries_behind 0 es) (entries_behind 0 es)) passes
    ∙ ap (λ (xs : List Entry). e ∷ xs) (behind-root e.number es next h.1)
