-- A number goes out of every slot, one slot after the other.
use Rattle.std.proofs.Common.{◌≡◌, ℕ, zero, suc, ◌+◌, ◌<◌, ◌≤◌, cond, List, [], ◌∷◌, length, map, get_or, take, drop, ◌++◌, refl, sym, ap, ◌∙◌, subst, arith, Option, Some, None}
use Rattle.std.specs.Option.{option_map, unwrap_or}
use Rattle.std.specs.List.{count_by}
use Rattle.std.proofs.lemmas.List.{ext_get_or, get_or_read, length-map}
use Rattle.std.proofs.lemmas.List.Sums.{sum_by-cons}
use Rattle.set_pool.specs.Lists.{DropsAt, list_at, members_at}
use Rattle.set_pool.specs.Rising.{Rises, removed}
use Rattle.set_pool.specs.Slots.{IsFreeAbove, IsStacked, is_free_slot, list_of_slot, lists_of, members_in, slot_at, slots_without}
use Rattle.set_pool.specs.declared.slots.Slot.{Slot}
use Rattle.set_pool.specs.declared.slots.Slot.TheVariants.{Free, Live}
use Rattle.set_pool.proofs.RisingLemmas.{rises-removed}
use Rattle.set_pool.proofs.SlotLemmas.{list_at-slot}

-- the value is out of the slots below a place, and the others are as before
pub record Thinned (value : ℕ) (old new : List Slot) (place : ℕ) : Type 0 where
  pub long : length new ≡ length old
  pub below : (q : ℕ) → q < place → slot_at new q ≡ slots_without value (slot_at old q)
  pub above : (q : ℕ) → place ≤ q → slot_at new q ≡ slot_at old q

slot-map : (value : ℕ) (xs : List Slot) (q : ℕ) → slot_at (map (slots_without value) xs) q ≡ slots_without value (slot_at xs q)
slot-map value [] q = refl
slot-map value (x ∷ xs) zero = refl
slot-map value (x ∷ xs) (suc q) = slot-map value xs q

pub thinned-end : (value place : ℕ) (old new : List Slot) → length old ≤ place → Thinned value old new place → new ≡ map (slots_without value) old
thinned-end value place old new done t = ext_get_or (Live []) new (map (slots_without value) old) (t.long ∙ sym (length-map old (slots_without value))) (λ q less. t.below q (let l = t.long in omega arith) ∙ sym (slot-map value old q))

list-thin : (value : ℕ) (x : Slot) → list_of_slot (slots_without value x) ≡ option_map (removed value) (list_of_slot x)
list-thin value (Free below count) = refl
list-thin value (Live tree) = refl

-- the value is in no list any more
pub thin-lists : (value : ℕ) (xs : List Slot) → DropsAt (lists_of xs) (lists_of (map (slots_without value) xs)) value
thin-lists value [] q = refl
thin-lists value (x ∷ xs) zero = list-thin value x
thin-lists value (x ∷ xs) (suc q) = thin-lists value xs q

free-before : (value : ℕ) (x : Slot) (below count : ℕ) → slots_without value x ≡ Free below count → x ≡ Free below count
free-before value (Free one other) below count e = e
free-before value (Live tree) below count e = cc

is_free-thin : (value : ℕ) (x : Slot) → is_free_slot (slots_without value x) ≡ is_free_slot x
is_free-thin value (Free below count) = refl
is_free-thin value (Live tree) = refl

count-thin : (value : ℕ) (xs : List Slot) → count_by is_free_slot (map (slots_without value) xs) ≡ count_by is_free_slot xs
count-thin value [] = refl
count-thin value (x ∷ xs) =
    sum_by-cons (λ z. cond (is_free_slot z) 1 0) (slots_without value x) (map (slots_without value) xs)
    ∙ (λ i. cond (is_free-thin value x i) 1 0 + count-thin value xs i)
    ∙ sym (sum_by-cons (λ z. cond (is_free_slot z) 1 0) x xs)

members-thin : (value : ℕ) (list : Option (List ℕ)) → Rises (unwrap_or list []) → Rises (unwrap_or (option_map (removed value) list) [])
members-thin value None r = r
members-thin value (Some list) r = rises-removed value list r

-- and the stack of free slots is as before
pub thin-stacked : (value : ℕ) (xs : List Slot) (top free : ℕ) → IsStacked xs top free → IsStacked (map (slots_without value) xs) top free
thin-stacked value xs top free i =
    record {
      counted = i.counted ∙ sym (count-thin value xs);
      top_is_free = λ count e. still top count (i.top_is_free count e);
      below_is_free = λ name below count e. still below count (i.below_is_free name below count (before name below (suc count) e));
      below_top = λ name below count e. i.below_top name below count (before name below count e);
      distinct = λ one other below under count e f. i.distinct one other below under count (before one below count e) (before other under count f);
      rise = λ q. subst (λ o. Rises (unwrap_or o [])) (sym (thin-lists value xs q)) (members-thin value (list_at (lists_of xs) q) (i.rise q));
    }
  where
    before : (name below count : ℕ) → slot_at (map (slots_without value) xs) name ≡ Free below count → slot_at xs name ≡ Free below count
    before name below count e = free-before value (slot_at xs name) below count (sym (slot-map value xs name) ∙ e)

    still : (name count : ℕ) → IsFreeAbove xs name count → IsFreeAbove (map (slots_without value) xs) name count
    still name count f = (f.0, slot-map value xs name ∙ ap (slots_without value) f.1)

whole-map : (f : Slot → Slot) (xs : List Slot) → take (length xs) (map f xs ++ drop (length (map f xs)) xs) ≡ map f xs
whole-map f [] = refl
whole-map f (x ∷ xs) = ap (λ (rest : List Slot). f x ∷ rest) (whole-map f xs)

-- what a vector holds once its slots were written through a slice
pub thinned-whole : (value place n : ℕ) (xs zs ys : List Slot) → n ≡ length xs → zs ≡ xs → length zs ≤ place → Thinned value zs ys place → take n (ys ++ drop (length ys) xs) ≡ map (slots_without value) xs
thinned-whole value place n xs zs ys long same done t =
    let end : ys ≡ map (slots_without value) xs = thinned-end value place zs ys done t ∙ ap (map (slots_without value)) same in
    (λ i. take (long i) (end i ++ drop (length (end i)) xs)) ∙ whole-map (slots_without value) xs

-- the slot at the place rises still
pub thinned-rises : (value place : ℕ) (xs zs ys : List Slot) (slot : Slot) → zs ≡ xs → place < length zs → length ys ≡ length zs → slot ≡ get_or ys place slot → Thinned value zs ys place → ((q : ℕ) → Rises (members_at (lists_of xs) q)) → Rises (members_in slot)
thinned-rises value place xs zs ys slot same within long is t rise =
    let there : slot_at ys place ≡ slot = sym (get_or_read ys place slot (omega arith) is (Live [])) in
    let is_old : slot ≡ slot_at xs place = sym there ∙ t.above place (omega arith) ∙ ap (λ zs. slot_at zs place) same in
    let within : place < length xs = subst (λ zs. place < length zs) same within in
    subst (λ o. Rises (unwrap_or o [])) (list_at-slot xs place within ∙ ap list_of_slot (sym is_old)) (rise place)

-- within a list it doesn't count what is read past its end
pub get_or_default : (xs : List Slot) (n : ℕ) (d : Slot) → n < length xs → get_or xs n d ≡ get_or xs n (get_or xs n d)
get_or_default [] n d within = absurd (omega arith)
get_or_default (x ∷ xs) zero d within = refl
get_or_default (x ∷ xs) (suc n) d within = get_or_default xs n d (omega arith)
