-- A root that counts, by what the head of a file has.
use Rattle.std.proofs.Common.{◌≡◌, ◌≢◌, ◌⊎◌, inl, inr, ⊎_elim, ℕ, ◌+◌, ◌<◌, ◌≤◌, Bool, true, false, nat_le, nat_lt, ◌==◌, if◌then◌else◌, List, length, drop, slice_index, Result, Ok, Err, refl, sym, ◌∙◌, ap, subst, arith}
use Rattle.std.proofs.lemmas.Bool.{cases_lt}
use Rattle.std.proofs.lemmas.Bool.Decides.{nat_tests}
use Rattle.hac_checkpoint.specs.Flips.{HasRoot, other_slot}
use Rattle.hac_checkpoint.specs.Roots.{agreeing, counting, gate_of, generation, higher, is_open, named, needs, root_of, slots, start, store_name}
use Rattle.hac_checkpoint.specs.declared.heads.Root.{Root}
use Rattle.hac_checkpoint.specs.declared.heads.Slot.{Slot}
use Rattle.hac_checkpoint.specs.declared.heads.Slot.TheVariants.{A, B}
use Rattle.hac_checkpoint.specs.declared.heads.Stop.{Stop}
use Rattle.hac_checkpoint.specs.declared.heads.Stop.TheVariants.{Short, BadAt}

pub gate_of-within : (slot : Slot) → gate_of slot + 17 ≤ 43
gate_of-within A = omega arith
gate_of-within B = omega arith

-- the other slot of the other slot
pub other-twice : (slot : Slot) → other_slot (other_slot slot) ≡ slot
other-twice A = refl
other-twice B = refl

-- why this root counts: its slot is open, and the other one isn't or has a lower generation
pub record Live (root : Root) (file : List ℕ) : Type 0 where
  pub mark : slice_index file 0 ≡ 1
  pub name : agreeing store_name (drop 1 file) ≡ 8
  pub gate : is_open root.slot file ≡ true
  pub generation_is : generation root.slot file ≡ root.generation
  pub start_is : start root.slot file ≡ root.start
  pub high : 64 ≤ root.start
  pub above : is_open (other_slot root.slot) file ≡ true → generation (other_slot root.slot) file < root.generation

-- tests of numbers, each way
pub le-holds : (m n : ℕ) → m ≤ n → nat_le m n ≡ true
le-holds m n h = grind (arith, nat_tests)

pub le-fails : (m n : ℕ) → n < m → nat_le m n ≡ false
le-fails m n h = grind (arith, nat_tests)

lt-holds : (m n : ℕ) → m < n → nat_lt m n ≡ true
lt-holds m n h = grind (arith, nat_tests)

lt-fails : (m n : ℕ) → n ≤ m → nat_lt m n ≡ false
lt-fails m n h = grind (arith, nat_tests)

lt-failed : (m n : ℕ) → nat_lt m n ≡ false → n ≤ m
lt-failed m n is = grind (arith, nat_tests)

eq-holds : (m n : ℕ) → m ≡ n → (m == n) ≡ true
eq-holds m n h = grind (arith, nat_tests)

eq-fails : (m n : ℕ) → m ≢ n → (m == n) ≡ false
eq-fails m n h = grind (arith, nat_tests)

eq-held : (m n : ℕ) → (m == n) ≡ true → m ≡ n
eq-held m n is = grind (arith, nat_tests)

-- a test that goes this way
if-true : (b : Bool) (x y : Result Root Stop) → b ≡ true → (if b then x else y) ≡ x
if-true b x y is = ap (λ (c : Bool). if c then x else y) is

if-false : (b : Bool) (x y : Result Root Stop) → b ≡ false → (if b then x else y) ≡ y
if-false b x y is = ap (λ (c : Bool). if c then x else y) is

-- there is a root only if the tests before it held, or failed
held : (b : Bool) (x : Result Root Stop) (why : Stop) (root : Root) → (if b then x else Err why) ≡ Ok root → (b ≡ true) × (x ≡ Ok root)
held true x why root is = (refl, is)
held false x why root is = absurd (cc)

failed : (b : Bool) (x : Result Root Stop) (why : Stop) (root : Root) → (if b then Err why else x) ≡ Ok root → (b ≡ false) × (x ≡ Ok root)
failed true x why root is = absurd (cc)
failed false x why root is = (refl, is)

held-first : (b long : Bool) (x y : Result Root Stop) (root : Root) → (if b then if long then x else Err Short else y) ≡ Ok root → (if b then x else y) ≡ Ok root
held-first true long x y root is = (held long x Short root is).1
held-first false long x y root is = is

-- which of two slots counts, given their gates, their generations and their roots
abbrev pick : Bool → Bool → ℕ → ℕ → Result Root Stop → Result Root Stop → Result Root Stop
pick mine its m n x y =
    if its then (if mine then (if m == n then Err (BadAt 27) else if nat_lt n m then x else y) else y) else if mine then x else Err (BadAt 9)

pick-lower : (m n : ℕ) (x y : Result Root Stop) → n < m → pick true true m n x y ≡ x
pick-lower m n x y below = if-false (m == n) (Err (BadAt 27)) (if nat_lt n m then x else y) (eq-fails m n (λ is. omega arith)) ∙ if-true (nat_lt n m) x y (lt-holds n m below)

pick-higher : (m n : ℕ) (x y : Result Root Stop) → m < n → pick true true m n x y ≡ y
pick-higher m n x y below = if-false (m == n) (Err (BadAt 27)) (if nat_lt n m then x else y) (eq-fails m n (λ is. omega arith)) ∙ if-false (nat_lt n m) x y (lt-fails n m (omega arith))

pick-first : (its : Bool) (m n : ℕ) (x y : Result Root Stop) → (its ≡ true → n < m) → pick true its m n x y ≡ x
pick-first true m n x y above = pick-lower m n x y (above refl)
pick-first false m n x y above = refl

pick-second : (mine : Bool) (m n : ℕ) (x y : Result Root Stop) → (mine ≡ true → m < n) → pick mine true m n x y ≡ y
pick-second true m n x y above = pick-higher m n x y (above refl)
pick-second false m n x y above = refl

-- what follows where one of the two counts
pick-parts : (mine its : Bool) (m n : ℕ) (x y : Result Root Stop) (root : Root) → pick mine its m n x y ≡ Ok root
    → ((mine ≡ true) × (x ≡ Ok root) × (its ≡ true → n < m)) ⊎ ((its ≡ true) × (y ≡ Ok root) × (mine ≡ true → m < n))
pick-parts true false m n x y root is = inl (refl, is, λ none. absurd (cc))
pick-parts false true m n x y root is = inr (refl, is, λ none. absurd (cc))
pick-parts false false m n x y root is = absurd (cc)
pick-parts true true m n x y root is =
    ⊎_elim
    (λ below. inl (refl, sym (pick-lower m n x y below) ∙ is, λ _. below))
    (λ not_below.
    let differ : m ≢ n = λ same. let never = sym (eq-holds m n same) ∙ (failed (m == n) (if nat_lt n m then x else y) (BadAt 27) root is).0 in cc in
    let above : m < n = omega arith in
    inr (refl, sym (pick-higher m n x y above) ∙ is, λ _. above))
    (cases_lt n m)

module _ (file : List ℕ) where
  abbrev root_in : Slot → Root
  root_in slot = record { slot = slot; generation = generation slot file; start = start slot file }

  abbrev picked : Result Root Stop
  picked = pick (is_open A file) (is_open B file) (generation A file) (generation B file) (counting A file) (counting B file)

  -- from a root to why it counts
  slot-live : (slot : Slot) (root : Root) → slice_index file 0 ≡ 1 → agreeing store_name (drop 1 file) ≡ 8 → is_open slot file ≡ true → counting slot file ≡ Ok root
      → (is_open (other_slot slot) file ≡ true → generation (other_slot slot) file < generation slot file) → Live root file
  unfolding counting
  slot-live slot root mark name gate counts above =
      let stop = BadAt (gate_of slot + 9) in
      let there = held (nat_le (gate_of slot + 17) (length file)) (if nat_lt (start slot file) 64 then Err stop else Ok (root_in slot)) Short root counts in
      let high = failed (nat_lt (start slot file) 64) (Ok (root_in slot)) stop root there.1 in
      let same : root_in slot ≡ root = cc high.1 in
      subst (λ r. Live r file) same (record {
        mark = mark;
        name = name;
        gate = gate;
        generation_is = refl;
        start_is = refl;
        high = lt-failed (start slot file) 64 high.0;
        above = above;
      })

  pub root-live : (root : Root) → HasRoot root file → Live root file
  unfolding root_of named slots higher
  root-live root is =
      let same = agreeing store_name (drop 1 file) in
      let first = held (nat_le 1 (length file)) (if slice_index file 0 == 1 then named file else Err (BadAt 0)) Short root is in
      let gate = held (slice_index file 0 == 1) (named file) (BadAt 0) root first.1 in
      let ninth = held (nat_le 9 (length file)) (if same == 8 then slots file else Err (BadAt (1 + same))) Short root gate.1 in
      let name = held (same == 8) (slots file) (BadAt (1 + same)) root ninth.1 in
      let one = if is_open A file then counting A file else Err (BadAt 9) in
      let both = held (nat_le 27 (length file)) (if is_open B file then needs 35 file (higher file) else one) Short root name.1 in
      let mark = eq-held (slice_index file 0) 1 gate.0 in
      let agree = eq-held same 8 name.0 in
      ⊎_elim
      (λ a. slot-live A root mark agree a.0 a.1 a.2)
      (λ b. slot-live B root mark agree b.0 b.1 b.2)
      (pick-parts (is_open A file) (is_open B file) (generation A file) (generation B file) (counting A file) (counting B file) root
      (held-first (is_open B file) (nat_le 35 (length file)) (higher file) one root both.1))

  -- and back, where the head is whole
  module _ (long : 43 ≤ length file) where
    needs-long : (n : ℕ) (x : Result Root Stop) → n ≤ 43 → needs n file x ≡ x
    needs-long n x within = if-true (nat_le n (length file)) x (Err Short) (le-holds n (length file) (omega (arith, within, long)))

    slots-pick : slots file ≡ picked
    unfolding slots higher
    slots-pick =
        let one = if is_open A file then counting A file else Err (BadAt 9) in
        needs-long 27 (if is_open B file then needs 35 file (higher file) else one) (omega arith)
        ∙ ap (λ (r : Result Root Stop). if is_open B file then r else one) (needs-long 35 (higher file) (omega arith))

    slot-counts : (slot : Slot) → is_open slot file ≡ true → (is_open (other_slot slot) file ≡ true → generation (other_slot slot) file < generation slot file)
        → picked ≡ counting slot file
    slot-counts A gate above =
        ap (λ (b : Bool). pick b (is_open B file) (generation A file) (generation B file) (counting A file) (counting B file)) gate
        ∙ pick-first (is_open B file) (generation A file) (generation B file) (counting A file) (counting B file) above
    slot-counts B gate above =
        ap (λ (b : Bool). pick (is_open A file) b (generation A file) (generation B file) (counting A file) (counting B file)) gate
        ∙ pick-second (is_open A file) (generation A file) (generation B file) (counting A file) (counting B file) above

    counting-high : (slot : Slot) → 64 ≤ start slot file → counting slot file ≡ Ok (root_in slot)
    unfolding counting
    counting-high slot high =
        let stop = BadAt (gate_of slot + 9) in
        needs-long (gate_of slot + 17) (if nat_lt (start slot file) 64 then Err stop else Ok (root_in slot)) (gate_of-within slot)
        ∙ if-false (nat_lt (start slot file) 64) (Err stop) (Ok (root_in slot)) (lt-fails (start slot file) 64 high)

    pub live-root : (root : Root) → Live root file → HasRoot root file
    unfolding root_of named
    live-root root live =
        let agree = agreeing store_name (drop 1 file) in
        let same : root_in root.slot ≡ root =
        ap (λ (n : ℕ). record { slot = root.slot; generation = n; start = start root.slot file }) live.generation_is
        ∙ ap (λ (n : ℕ). record { slot = root.slot; generation = root.generation; start = n }) live.start_is in
        needs-long 1 (if slice_index file 0 == 1 then named file else Err (BadAt 0)) (omega arith)
        ∙ if-true (slice_index file 0 == 1) (named file) (Err (BadAt 0)) (eq-holds (slice_index file 0) 1 live.mark)
        ∙ needs-long 9 (if agree == 8 then slots file else Err (BadAt (1 + agree))) (omega arith)
        ∙ if-true (agree == 8) (slots file) (Err (BadAt (1 + agree))) (eq-holds agree 8 live.name)
        ∙ slots-pick
        ∙ slot-counts root.slot live.gate (λ is. omega (arith, live.above is, live.generation_is))
        ∙ counting-high root.slot (omega (arith, live.high, live.start_is))
        ∙ ap (λ (r : Root). Ok r) same
