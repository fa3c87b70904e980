-- Numbers that rise, and are those of entries or of the root, are no more than these: so they can be counted.
use Rattle.std.proofs.Common.{inl, inr, ◌≡◌, ℕ, ◌+◌, ◌<◌, ◌≤◌, Bool, true, false, cond, List, [], ◌∷◌, length, refl, sym, ◌∙◌, arith}
use Rattle.std.specs.Prelude.{◌==◌, Option, Some, None}
use Rattle.std.specs.List.{AllByRecursion}
use Rattle.std.specs.Option.{option_map, option_map_or}
use Rattle.std.proofs.lemmas.Bool.{cases_lt}
use Rattle.std.proofs.lemmas.Bool.Decides.{nat_tests}
use Rattle.hac_model.specs.Tree.Limits.{directory_count, item_count, symlink_count}
use Rattle.hac_model.specs.Tree.{body_at, entry_at, is_directory, is_linkable, is_symlink}
use Rattle.hac_model.specs.Tree.Valid.{IsLayout, NumbersRise, RiseFrom}
use Rattle.hac_model.specs.declared.limits.TheConstants.{DIRS_LIMIT, ITEMS_LIMIT, SYMLINKS_LIMIT}
use Rattle.hac_model.specs.declared.states.Body.{Body}
use Rattle.hac_model.specs.declared.states.Body.TheVariants.{File, Dir, Symlink, Semantic, Mount, Document}
use Rattle.hac_model.specs.declared.states.Entry.{Entry}
use Rattle.hac_model.specs.declared.states.State.{State}
use Rattle.hac_model.proofs.CountLemmas.{directory_count-is, measured, measured-cons, one_if}
use Rattle.hac_model.proofs.LimitLemmas.{IsWithinLimits, limits-within, most-dirs, most-symlinks}
use Rattle.hac_model.proofs.TreeLemmas.{Lives, entry_at-above, entry_at-behind, entry_at-below, rise-below}

abbrev pub IsEntry : List Entry → ℕ → Type 0
IsEntry es n = (e : Entry) × (entry_at es n ≡ Some e)

-- where a test of its body passes, an entry has the number
pub tested-entry : (es : List Entry) (test : Body → Bool) (n : ℕ) → option_map_or test (body_at es n) false ≡ true → IsEntry es n
tested-entry es test n h = there (entry_at es n) refl h
  where
    there : (o : Option Entry) → entry_at es n ≡ o → option_map_or test (option_map (λ (e : Entry). e.body) o) false ≡ true → IsEntry es n
    there None found h = absurd cc
    there (Some e) found h = (e, found)

-- a live number is below the next one
pub live-below : (es : List Entry) (n next : ℕ) → NumbersRise 0 es next → Lives es n → n < next
live-below es n next rise (inl root) = let more : 0 < next = rise-below 0 es next rise in omega (arith, root, more)
live-below es n next rise (inr found) = entry_at-below 0 es next n found.0 rise found.1

-- an entry behind the first one
entries-behind : (e : Entry) (es : List Entry) (bound : ℕ) (ns : List ℕ) → e.number < bound → RiseFrom bound ns → AllByRecursion (IsEntry (e ∷ es)) ns → AllByRecursion (IsEntry es) ns
entries-behind e es bound [] less rise are = tt
entries-behind e es bound (n ∷ ns) less rise are =
    let above : bound ≤ n = rise.0 in
    let found : entry_at (e ∷ es) n ≡ Some are.0.0 = are.0.1 in
    ((are.0.0, sym (entry_at-behind e es n (λ same. omega (arith, less, above, same))) ∙ found), entries-behind e es (n + 1) ns (omega (arith, less, above)) rise.1 are.1)

-- rising numbers of entries are no more than the entries
pub entries-few : (above : ℕ) (es : List Entry) (next bound : ℕ) (ns : List ℕ) → NumbersRise above es next → RiseFrom bound ns → AllByRecursion (IsEntry es) ns → length ns ≤ length es
entries-few above [] next bound [] rise up are = omega arith
entries-few above [] next bound (n ∷ ns) rise up are = let never : None ≡ Some are.0.0 = are.0.1 in absurd cc
entries-few above (e ∷ es) next bound [] rise up are = omega arith
entries-few above (e ∷ es) next bound (n ∷ ns) rise up are = elim (cases_lt e.number n) [
  | inl more ↦ (
      let all = entries-behind e es n (n ∷ ns) more (omega arith, up.1) are in
      let rest = entries-few e.number es next n (n ∷ ns) rise.1 (omega arith, up.1) all in
      omega (arith, rest))
  | inr low ↦ (
      let low_e : n ≤ e.number = low in
      let first : e.number ≤ n = least (e.number == n) refl are.0.1 in
      let all = entries-behind e es (n + 1) ns (omega (arith, low_e)) up.1 are.1 in
      let rest = entries-few e.number es next (n + 1) ns rise.1 up.1 all in
      omega (arith, rest))
]
  where
    -- no number of an entry is below that of the first one
    least : (b : Bool) → (e.number == n) ≡ b → cond b (Some e) (entry_at es n) ≡ Some are.0.0 → e.number ≤ n
    least true same found = grind (arith, nat_tests, same)
    least false other found = let more : e.number < n = entry_at-above e.number es next n are.0.0 rise.1 found in omega (arith, more)

-- those of entries and of the root are one more at most
pub lives-few : (es : List Entry) (next : ℕ) (ns : List ℕ) → NumbersRise 0 es next → RiseFrom 0 ns → AllByRecursion (Lives es) ns → length ns ≤ length es + 1
lives-few es next [] rise up are = omega arith
lives-few es next (n ∷ ns) rise up are =
    let rest = entries-few 0 es next (n + 1) ns rise up.1 (no-root (n + 1) ns (omega arith) up.1 are.1) in
    omega (arith, rest)
  where
    no-root : (bound : ℕ) (ns : List ℕ) → 0 < bound → RiseFrom bound ns → AllByRecursion (Lives es) ns → AllByRecursion (IsEntry es) ns
    no-root bound [] more up are = tt
    no-root bound (n ∷ ns) more up are = (own n up.0 are.0, no-root (n + 1) ns (omega arith) up.1 are.1)
      where
        own : (n : ℕ) → bound ≤ n → Lives es n → IsEntry es n
        own n above (inl root) = absurd (omega (arith, root, above, more))
        own n above (inr found) = found

-- each entry is an item, a directory or a symbolic link
kinds-all : (es : List Entry) → directory_count es + item_count es + symlink_count es ≡ length es + 1
kinds-all es = let all = summed es in omega (arith, all, directory_count-is es)
  where
    one : (b : Body) → one_if is_directory b + one_if is_linkable b + one_if is_symlink b ≡ 1
    one (File text dirty shown) = refl
    one Dir = refl
    one (Symlink target) = refl
    one (Semantic query permanent prohibited) = refl
    one (Mount space answers) = refl
    one Document = refl

    summed : (es : List Entry) → measured (one_if is_directory) es + measured (one_if is_linkable) es + measured (one_if is_symlink) es ≡ length es
    summed [] = refl
    summed (e ∷ es) =
        let here = one e.body in
        let rest = summed es in
        omega (arith, here, rest, measured-cons (one_if is_directory) e es, measured-cons (one_if is_linkable) e es, measured-cons (one_if is_symlink) e es)

-- so a state has no more entries than the limits on these let it have
pub all-few : (s : State) → IsLayout s → length s.entries ≤ 196608
all-few s h =
    let within : IsWithinLimits s = limits-within s h.limits in
    let dirs : directory_count s.entries ≤ DIRS_LIMIT = grind (arith, nat_tests, most-dirs s within) in
    let items : item_count s.entries ≤ ITEMS_LIMIT = grind (arith, nat_tests, within.items) in
    let symlinks : symlink_count s.entries ≤ SYMLINKS_LIMIT = grind (arith, nat_tests, most-symlinks s within) in
    omega (arith, kinds-all s.entries, dirs, items, symlinks)

-- and so have numbers that rise and are live
pub live-few : (s : State) (ns : List ℕ) → IsLayout s → RiseFrom 0 ns → AllByRecursion (Lives s.entries) ns → length ns ≤ 196609
live-few s ns h rise are = let few = lives-few s.entries s.next ns h.numbers rise are in omega (arith, few, all-few s h)
