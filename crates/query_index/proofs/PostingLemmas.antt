-- Letters with their places: what a change leaves, and where letters stand.
use Rattle.std.proofs.Common.{◌≡◌, ℕ, zero, suc, ◌+◌, Bool, true, false, cond, List, [], ◌∷◌, map, length, get_or, Bor, None, Some, refl, ap, sym, ◌∙◌, arith, inl, inr}
use Rattle.std.specs.Prelude.{◌==◌, ◌&&◌, ◌||◌, ◌++◌, not, nat_lt, Option, Vec, if◌then◌else◌, is_some, unwrap_or, position, slice_get}
use Rattle.std.specs.List.{position_or_len}
use Rattle.std.specs.Map.{keys_of, lookup, set_value}
use Rattle.std.specs.Option.{option_copied, option_map, option_map_or}
use Rattle.std.specs.Str.{bytes_eq}
use Rattle.std.specs.declared.alloc.Global.{Global}
use Rattle.std.proofs.lemmas.Bool.{cases_lt, eq-eqb, eqb-true, false≢true, le-ltb, lt-ltb, or_left}
use Rattle.std.proofs.lemmas.List.Folds.{list_any-append}
use Rattle.std.proofs.lemmas.List.Quantifiers.{position-Some}
use Rattle.std.proofs.lemmas.Slice.Eq.{bytes_eq-Decides}
use Rattle.indexmap.specs.IndexMap.{insert_entry}
use Rattle.hac_model.specs.Tree.Links.{has}
use Rattle.query_index.specs.Inner.{AddsPlace, begins_at, is_at, places_in}
use Rattle.query_index.specs.Seen.{place_of, places_of}
use Rattle.query_index.specs.Sieve.{passes}
use Rattle.query_index.proofs.ListLemmas.{below-none}
use Rattle.hac_model.proofs.BoolLemmas.{agree, or-false, or-true}

abbrev pub Letters : Type 0
Letters = Vec ℕ Global

abbrev pub is_for : List ℕ → Letters → Bool
is_for letters key = bytes_eq letters key.items

abbrev same_key : Letters → Letters → Bool
same_key one other = bytes_eq one.items other.items

abbrev pub items_of : Option Letters → List ℕ
items_of places = option_map_or (λ places. places.items) places []

same : (xs ys : List ℕ) → bytes_eq xs ys ≡ true → xs ≡ ys
same xs ys is = (bytes_eq-Decides xs ys).0 is

apart : (letters xs ys : List ℕ) → bytes_eq xs ys ≡ false → bytes_eq letters ys ≡ true → bytes_eq letters xs ≡ false
apart letters xs ys differ is = of (bytes_eq letters xs) refl
  where
    of : (b : Bool) → bytes_eq letters xs ≡ b → b ≡ false
    of false also = refl
    of true also = sym ((bytes_eq-Decides xs ys).1 (sym (same letters xs also) ∙ same letters ys is)) ∙ differ

-- ---- letters that are new

inserted : (letters : List ℕ) (es : List (Letters × Letters)) (k v : Letters) → lookup (is_for letters) (insert_entry same_key es k v) ≡ cond (is_for letters k) (Some v) (lookup (is_for letters) es)
inserted letters [] k v = refl
inserted letters (e ∷ es) k v = of (inserted letters es k v) (same_key k e.0) refl
  where
    of : lookup (is_for letters) (insert_entry same_key es k v) ≡ cond (is_for letters k) (Some v) (lookup (is_for letters) es) → (b : Bool) → same_key k e.0 ≡ b → lookup (is_for letters) (if b then (e.0, v) ∷ es else e ∷ insert_entry same_key es k v) ≡ cond (is_for letters k) (Some v) (lookup (is_for letters) (e ∷ es))
    of rest true is =
        ap (λ (key : List ℕ). cond (bytes_eq letters key) (Some v) (lookup (is_for letters) es)) (sym (same k.items e.0.items is))
        ∙ twice (bytes_eq letters k.items) (bytes_eq letters e.0.items) (ap (bytes_eq letters) (same k.items e.0.items is))
      where
        twice : (b c : Bool) → b ≡ c → cond b (Some v) (lookup (is_for letters) es) ≡ cond b (Some v) (cond c (Some e.1) (lookup (is_for letters) es))
        twice true c even = refl
        twice false true even = absurd (false≢true even)
        twice false false even = refl
    of rest false is =
        ap (λ (o : Option Letters). cond (is_for letters e.0) (Some e.1) o) rest
        ∙ swap (is_for letters e.0) (is_for letters k) (λ here. apart letters k.items e.0.items is here)
      where
        swap : (b c : Bool) → (b ≡ true → c ≡ false) → cond b (Some e.1) (cond c (Some v) (lookup (is_for letters) es)) ≡ cond c (Some v) (cond b (Some e.1) (lookup (is_for letters) es))
        swap true true other = absurd (false≢true (sym (other refl)))
        swap true false other = refl
        swap false c other = refl

pub none-found : {X : Type 0} (r : Option (Bor X)) (found : Option X) → is_some r ≡ false → option_copied r ≡ found → found ≡ None
none-found None found none is = sym is
none-found (Some x) found none is = absurd cc

-- letters that are new and have no places change none
pub made : (letters : List ℕ) (es : List (Letters × Letters)) (k v : Letters) (others : List ℕ) → k.items ≡ letters → v.items ≡ [] → lookup (is_for letters) es ≡ None →
    items_of (lookup (is_for others) (insert_entry same_key es k v)) ≡ items_of (lookup (is_for others) es)
made letters es k v others key none new = ap items_of (inserted others es k v) ∙ of (bytes_eq others k.items) refl
  where
    of : (b : Bool) → bytes_eq others k.items ≡ b → items_of (cond b (Some v) (lookup (is_for others) es)) ≡ items_of (lookup (is_for others) es)
    of true is = none ∙ ap items_of (sym new) ∙ ap (λ (xs : List ℕ). items_of (lookup (is_for xs) es)) (sym (same others k.items is ∙ key))
    of false is = refl

-- ---- places that are written

written : (letters others : List ℕ) (es : List (Letters × Letters)) (w : Letters) → is_some (lookup (is_for letters) es) ≡ true →
    lookup (is_for others) (set_value (is_for letters) es w) ≡ cond (bytes_eq others letters) (Some w) (lookup (is_for others) es)
written letters others [] w there = absurd cc
written letters others (e ∷ es) w there = of (written letters others es w) (is_for letters e.0) refl there
  where
    of : (is_some (lookup (is_for letters) es) ≡ true → lookup (is_for others) (set_value (is_for letters) es w) ≡ cond (bytes_eq others letters) (Some w) (lookup (is_for others) es)) → (b : Bool) → is_for letters e.0 ≡ b → is_some (cond b (Some e.1) (lookup (is_for letters) es)) ≡ true →
        lookup (is_for others) (cond b ((e.0, w) ∷ es) (e ∷ set_value (is_for letters) es w)) ≡ cond (bytes_eq others letters) (Some w) (lookup (is_for others) (e ∷ es))
    of rest true is there = twice (bytes_eq others e.0.items) (bytes_eq others letters) (ap (bytes_eq others) (sym (same letters e.0.items is)))
      where
        twice : (b c : Bool) → b ≡ c → cond b (Some w) (lookup (is_for others) es) ≡ cond c (Some w) (cond b (Some e.1) (lookup (is_for others) es))
        twice true true even = refl
        twice true false even = absurd (false≢true (sym even))
        twice false true even = absurd (false≢true even)
        twice false false even = refl
    of rest false is there =
        ap (λ (o : Option Letters). cond (is_for others e.0) (Some e.1) o) (rest there)
        ∙ swap (is_for others e.0) (bytes_eq others letters) (λ here. apart others letters e.0.items is here)
      where
        swap : (b c : Bool) → (b ≡ true → c ≡ false) → cond b (Some e.1) (cond c (Some w) (lookup (is_for others) es)) ≡ cond c (Some w) (cond b (Some e.1) (lookup (is_for others) es))
        swap true true other = absurd (false≢true (sym (other refl)))
        swap true false other = refl
        swap false c other = refl

-- a place behind those of letters
pub put : (letters others : List ℕ) (es : List (Letters × Letters)) (v w : Letters) (place : ℕ) → lookup (is_for letters) es ≡ Some v → w.items ≡ v.items ++ place ∷ [] →
    items_of (lookup (is_for others) (set_value (is_for letters) es w)) ≡ (if bytes_eq others letters then items_of (lookup (is_for others) es) ++ place ∷ [] else items_of (lookup (is_for others) es))
put letters others es v w place was is = ap items_of (written letters others es w (ap is_some was)) ∙ of (bytes_eq others letters) refl
  where
    of : (b : Bool) → bytes_eq others letters ≡ b → items_of (cond b (Some w) (lookup (is_for others) es)) ≡ (if b then items_of (lookup (is_for others) es) ++ place ∷ [] else items_of (lookup (is_for others) es))
    of true here = is ∙ ap (λ (o : Option Letters). items_of o ++ place ∷ []) (sym was ∙ ap (λ (xs : List ℕ). lookup (is_for xs) es) (sym (same others letters here)))
    of false here = refl

-- it is among them then
pub added : (b : Bool) (places : List ℕ) (place other : ℕ) → has (if b then places ++ place ∷ [] else places) other ≡ (has places other || (b && place == other))
added true places place other = list_any-append (λ x. x == other) places (place ∷ []) ∙ ap (λ (c : Bool). has places other || c) (or-false (place == other))
added false places place other = sym (or-false (has places other))

-- ---- what callers see

pub places-seen : (entries : List (Letters × Letters)) (letters : List ℕ) →
    unwrap_or (lookup (bytes_eq letters) (map (λ entry. (entry.0.items, entry.1.items)) entries)) [] ≡ items_of (lookup (is_for letters) entries)
places-seen [] letters = refl
places-seen (e ∷ es) letters =
    elim (bytes_eq letters e.0.items) as (λ b. unwrap_or (cond b (Some e.1.items) (lookup (bytes_eq letters) (map (λ entry. (entry.0.items, entry.1.items)) es))) [] ≡ items_of (cond b (Some e.1) (lookup (is_for letters) es))) [
      | true ↦ refl
      | false ↦ places-seen es letters
    ]

-- ---- where letters stand

ltb-suc : (a b : ℕ) → nat_lt (suc a) (suc b) ≡ nat_lt a b
ltb-suc a b = elim (cases_lt a b) [
  | inl low ↦ lt-ltb (suc a) (suc b) (omega (arith, low)) ∙ sym (lt-ltb a b low)
  | inr high ↦ le-ltb (suc a) (suc b) (omega (arith, high)) ∙ sym (le-ltb a b high)
]

next-place : (b : Bool) (n : ℕ) → cond b (Some (suc n)) None ≡ option_map suc (cond b (Some n) None)
next-place true n = refl
next-place false n = refl

position-cons : {X : Type 0} (p : X → Bool) (x : X) (xs : List X) → position p (x ∷ xs) ≡ cond (p x) (Some 0) (option_map suc (position p xs))
position-cons p x xs = of (p x)
  where
    one : (n : ℕ) → 1 + n ≡ suc n
    one n = omega arith

    of : (b : Bool) → cond (nat_lt (cond (not b) (1 + position_or_len p xs) 0) (suc (length xs))) (Some (cond (not b) (1 + position_or_len p xs) 0)) None ≡ cond b (Some 0) (option_map suc (position p xs))
    of true = ap (λ (b : Bool). cond b (Some 0) None) (lt-ltb 0 (suc (length xs)) (omega arith))
    of false =
        ap (λ (n : ℕ). cond (nat_lt n (suc (length xs))) (Some n) None) (one (position_or_len p xs))
        ∙ ap (λ (b : Bool). cond b (Some (suc (position_or_len p xs))) None) (ltb-suc (position_or_len p xs) (length xs))
        ∙ next-place (nat_lt (position_or_len p xs) (length xs)) (position_or_len p xs)

abbrev pub Seen_postings : Type 0
Seen_postings = List (List ℕ × List ℕ)

place-cons : (entry : List ℕ × List ℕ) (entries : Seen_postings) (letters : List ℕ) → place_of (entry ∷ entries) letters ≡ cond (bytes_eq letters entry.0) (Some 0) (option_map suc (place_of entries letters))
place-cons entry entries letters = position-cons (λ entry. bytes_eq letters entry.0) entry entries

pub place-seen : (entries : List (Letters × Letters)) (letters : List ℕ) → position (is_for letters) (keys_of entries) ≡ place_of (map (λ entry. (entry.0.items, entry.1.items)) entries) letters
place-seen [] letters = refl
place-seen (e ∷ es) letters =
    position-cons (is_for letters) e.0 (keys_of es)
    ∙ ap (λ (o : Option ℕ). cond (bytes_eq letters e.0.items) (Some 0) (option_map suc o)) (place-seen es letters)
    ∙ sym (place-cons (e.0.items, e.1.items) (map (λ entry. (entry.0.items, entry.1.items)) es) letters)

-- a place that letters have is among those where they stand
pub stands-there : (entries : Seen_postings) (letters : List ℕ) (place : ℕ) → has (places_of entries letters) place ≡ option_map_or (λ at. has (places_in entries at) place) (place_of entries letters) false
stands-there [] letters place = refl
stands-there (e ∷ es) letters place =
    of (bytes_eq letters e.0) (stands-there es letters place)
    ∙ ap (λ (o : Option ℕ). option_map_or (λ at. has (places_in (e ∷ es) at) place) o false) (sym (place-cons e es letters))
  where
    later : (o : Option ℕ) → option_map_or (λ at. has (places_in es at) place) o false ≡ option_map_or (λ at. has (places_in (e ∷ es) at) place) (option_map suc o) false
    later None = refl
    later (Some at) = refl

    of : (b : Bool) → has (places_of es letters) place ≡ option_map_or (λ at. has (places_in es at) place) (place_of es letters) false →
        has (unwrap_or (cond b (Some e.1) (lookup (bytes_eq letters) es)) []) place ≡ option_map_or (λ at. has (places_in (e ∷ es) at) place) (cond b (Some 0) (option_map suc (place_of es letters))) false
    of true rest = refl
    of false rest = rest ∙ later (place_of es letters)

-- letters that stand there are the key
key-there : (entries : Seen_postings) (letters : List ℕ) (at : ℕ) → place_of entries letters ≡ Some at → letters ≡ (get_or entries at ([], [])).0
key-there entries letters at is =
    let found = position-Some (λ entry. bytes_eq letters entry.0) entries at ([], []) is in
    same letters (get_or entries at ([], [])).0 found.1

pub stands-as : (o : Option ℕ) (at : ℕ) → option_map_or (λ found. found == at) o false ≡ true → o ≡ Some at
stands-as None at is = absurd cc
stands-as (Some found) at is = ap (λ (n : ℕ). Some n) (eqb-true found at is)

-- where letters stand, a word stands that is those letters, and no other
pub one-there : (entries : Seen_postings) (letters word : List ℕ) (at : ℕ) → place_of entries letters ≡ Some at → is_at entries word at ≡ bytes_eq letters word
one-there entries letters word at is = agree (is_at entries word at) (bytes_eq letters word) there back
  where
    there : is_at entries word at ≡ true → bytes_eq letters word ≡ true
    there stands = (bytes_eq-Decides letters word).1 (key-there entries letters at is ∙ sym (key-there entries word at (stands-as (place_of entries word) at stands)))

    back : bytes_eq letters word ≡ true → is_at entries word at ≡ true
    back even =
        ap (λ (o : Option ℕ). option_map_or (λ found. found == at) o false) (ap (place_of entries) (sym (same letters word even)) ∙ is)
        ∙ eq-eqb at at refl

-- where there are no letters, none begin a word
pub none-begin : (entries : List (Letters × Letters)) (word : List ℕ) (at : ℕ) → entries ≡ [] → false ≡ begins_at (map (λ entry. (entry.0.items, entry.1.items)) entries) word at
none-begin entries word at none =
    sym (below-none (suc (length word)))
    ∙ ap (λ (es : List (Letters × Letters)). begins_at (map (λ entry. (entry.0.items, entry.1.items)) es) word at) (sym none)

-- letters that aren't there stand nowhere
pub nowhere : (entries : List (Letters × Letters)) (letters : List ℕ) → is_some (lookup (is_for letters) entries) ≡ false → place_of (map (λ entry. (entry.0.items, entry.1.items)) entries) letters ≡ None
nowhere [] letters none = refl
nowhere (e ∷ es) letters none =
    place-cons (e.0.items, e.1.items) (map (λ entry. (entry.0.items, entry.1.items)) es) letters
    ∙ of (is_for letters e.0) (nowhere es letters) none
  where
    of : (b : Bool) → (is_some (lookup (is_for letters) es) ≡ false → place_of (map (λ entry. (entry.0.items, entry.1.items)) es) letters ≡ None) → is_some (cond b (Some e.1) (lookup (is_for letters) es)) ≡ false →
        cond b (Some 0) (option_map suc (place_of (map (λ entry. (entry.0.items, entry.1.items)) es) letters)) ≡ None
    of true rest none = absurd (false≢true (sym none))
    of false rest none = ap (option_map suc) (rest none)

-- letters that were looked up, one or none
pub none-met : (o : Option ℕ) → o ≡ None → (n : ℕ) → false ≡ option_map_or (λ found. found == n) o false
none-met o is n = ap (λ (o : Option ℕ). option_map_or (λ found. found == n) o false) (sym is)

-- the places that are kept there
pub kept-seen : (entries : List (Letters × Letters)) (at : ℕ) → option_map_or (λ entry. entry.1.items) (slice_get entries at) [] ≡ places_in (map (λ entry. (entry.0.items, entry.1.items)) entries) at
kept-seen [] at = refl
kept-seen (e ∷ es) zero = refl
kept-seen (e ∷ es) (suc at) = kept-seen es at

-- ---- letters that pass a sieve

-- letters that don't pass aren't there
pub unpassed : (there passes : Bool) → (there ≡ true → passes ≡ true) → passes ≡ false → there ≡ false
unpassed true passes all none = absurd (false≢true (sym none ∙ all refl))
unpassed false passes all none = refl

-- letters that don't pass stand nowhere
pub unpassed-nowhere : (entries : List (Letters × Letters)) (marks : List Bool) (letters : List ℕ) → ((others : List ℕ) → is_some (lookup (is_for others) entries) ≡ true → passes marks others ≡ true) → passes marks letters ≡ false →
    place_of (map (λ entry. (entry.0.items, entry.1.items)) entries) letters ≡ None
unpassed-nowhere entries marks letters all none = nowhere entries letters (unpassed (is_some (lookup (is_for letters) entries)) (passes marks letters) (all letters) none)

-- only the letters that are put in are new
pub new-letters : (letters others : List ℕ) (es : List (Letters × Letters)) (k v : Letters) → k.items ≡ letters → is_some (lookup (is_for others) (insert_entry same_key es k v)) ≡ true → (is_some (lookup (is_for others) es) || bytes_eq others letters) ≡ true
new-letters letters others es k v key there = of (bytes_eq others k.items) refl (sym (ap is_some (inserted others es k v)) ∙ there)
  where
    of : (b : Bool) → bytes_eq others k.items ≡ b → is_some (cond b (Some v) (lookup (is_for others) es)) ≡ true → (is_some (lookup (is_for others) es) || bytes_eq others letters) ≡ true
    of true is there =
        ap (λ (c : Bool). is_some (lookup (is_for others) es) || c) (ap (bytes_eq others) (sym key) ∙ is)
        ∙ or-true (is_some (lookup (is_for others) es))
    of false is there = or_left (is_some (lookup (is_for others) es)) (bytes_eq others letters) there

-- no letters come or go where places are written
pub same-letters : (letters others : List ℕ) (es : List (Letters × Letters)) (w : Letters) → is_some (lookup (is_for others) (set_value (is_for letters) es w)) ≡ is_some (lookup (is_for others) es)
same-letters letters others [] w = refl
same-letters letters others (e ∷ es) w = of (is_for letters e.0) (same-letters letters others es w)
  where
    here : (c : Bool) → is_some (cond c (Some w) (lookup (is_for others) es)) ≡ is_some (cond c (Some e.1) (lookup (is_for others) es))
    here true = refl
    here false = refl

    there : (c : Bool) → is_some (lookup (is_for others) (set_value (is_for letters) es w)) ≡ is_some (lookup (is_for others) es) →
        is_some (cond c (Some e.1) (lookup (is_for others) (set_value (is_for letters) es w))) ≡ is_some (cond c (Some e.1) (lookup (is_for others) es))
    there true rest = refl
    there false rest = rest

    of : (b : Bool) → is_some (lookup (is_for others) (set_value (is_for letters) es w)) ≡ is_some (lookup (is_for others) es) →
        is_some (lookup (is_for others) (cond b ((e.0, w) ∷ es) (e ∷ set_value (is_for letters) es w))) ≡ is_some (lookup (is_for others) (e ∷ es))
    of true rest = here (is_for others e.0)
    of false rest = there (is_for others e.0) rest

-- a place that is put behind those of letters is added, as callers see it
pub puts-seen : (before mid after : List (Letters × Letters)) (letters : List ℕ) (place : ℕ) → ((others : List ℕ) → items_of (lookup (is_for others) mid) ≡ items_of (lookup (is_for others) before)) →
    ((others : List ℕ) → items_of (lookup (is_for others) after) ≡ (if bytes_eq others letters then items_of (lookup (is_for others) mid) ++ place ∷ [] else items_of (lookup (is_for others) mid))) →
    AddsPlace (map (λ entry. (entry.0.items, entry.1.items)) before) (map (λ entry. (entry.0.items, entry.1.items)) after) (λ others. bytes_eq others letters) place
puts-seen before mid after letters place room puts others other =
    ap (λ (places : List ℕ). has places other) (places-seen after others ∙ puts others)
    ∙ ap (λ (places : List ℕ). has (if bytes_eq others letters then places ++ place ∷ [] else places) other) (room others)
    ∙ added (bytes_eq others letters) (items_of (lookup (is_for others) before)) place other
    ∙ ap (λ (places : List ℕ). has places other || (bytes_eq others letters && place == other)) (sym (places-seen before others))

-- both tests, one behind the other
pub adds-two : (before mid after : Seen_postings) (p q r : List ℕ → Bool) (place : ℕ) → AddsPlace before mid p place → AddsPlace mid after q place → ((letters : List ℕ) → r letters ≡ (p letters || q letters)) → AddsPlace before after r place
adds-two before mid after p q r place first second either letters other =
    second letters other
    ∙ ap (λ (b : Bool). b || (q letters && place == other)) (first letters other)
    ∙ spread (has (places_of before letters) other) (p letters) (q letters) (place == other)
    ∙ ap (λ (b : Bool). has (places_of before letters) other || (b && place == other)) (sym (either letters))
  where
    spread : (a b c e : Bool) → ((a || (b && e)) || (c && e)) ≡ (a || ((b || c) && e))
    spread true b c e = refl
    spread false true true true = refl
    spread false true true false = refl
    spread false true false true = refl
    spread false true false false = refl
    spread false false c e = refl
