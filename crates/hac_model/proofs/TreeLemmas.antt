-- Look-ups among entries: by number, and by directory and name.
use Rattle.std.proofs.Common.{◌≡◌, ℕ, ◌<◌, ◌≤◌, Bool, true, false, cond, List, [], ◌∷◌, subst, refl, ap, sym, ◌∙◌, arith, eq-eqb, inl, inr}
use Rattle.std.specs.Prelude.{◌⊎◌, ◌==◌, ◌&&◌, ◌||◌, if◌then◌else◌, not, Option, Some, None, is_some}
use Rattle.std.specs.Option.{option_map, option_map_or}
use Rattle.std.specs.List.{AllByRecursion}
use Rattle.std.specs.Str.{bytes_eq}
use Rattle.std.proofs.lemmas.Bool.{and_from, and_parts, cases_lt, eqb-true, ne_eqb, or_right}
use Rattle.std.proofs.lemmas.Slice.Eq.{bytes_eq-Decides}
use Rattle.hac_model.specs.Tree.{body_at, child, entry_at, is_directory, is_directory_at, is_document, is_holder_at, is_leaf, is_leaf_at, is_linkable, is_made_directory, is_mount, is_mount_at, is_live}
use Rattle.hac_model.specs.Tree.Valid.{NamesDiffer, NumbersRise, is_in_place}
use Rattle.hac_model.specs.declared.states.Body.{Body}
use Rattle.hac_model.specs.declared.states.Body.TheVariants.{Dir, Semantic, Mount}
use Rattle.hac_model.specs.declared.states.Entry.{Entry}
use Rattle.hac_model.proofs.BoolLemmas.{or-true}

-- the root, or an entry
abbrev pub Lives : List Entry → ℕ → Type 0
Lives es n = (n ≡ 0) ⊎ ((e : Entry) × (entry_at es n ≡ Some e))

-- another number than the first entry's is looked up behind it
pub entry_at-behind : (e : Entry) (es : List Entry) (n : ℕ) → (e.number ≡ n → ⊥) → entry_at (e ∷ es) n ≡ entry_at es n
entry_at-behind e es n other = ap (λ (b : Bool). cond b (Some e) (entry_at es n)) (ne_eqb e.number n other)

pub entry_at-first : (e : Entry) (es : List Entry) → entry_at (e ∷ es) e.number ≡ Some e
entry_at-first e es = ap (λ (b : Bool). cond b (Some e) (entry_at es e.number)) (eq-eqb e.number e.number refl)

-- no entry has a number that is not above those that the entries have to be above
pub entry_at-low : (above : ℕ) (es : List Entry) (next n : ℕ) → NumbersRise above es next → n ≤ above → entry_at es n ≡ None
entry_at-low above [] next n h low = refl
entry_at-low above (e ∷ es) next n h low =
    let first : above < e.number = h.0 in
    entry_at-behind e es n (λ same. omega arith) ∙ entry_at-low e.number es next n h.1 (omega arith)

-- what all numbers are above is below the next one
pub rise-below : (above : ℕ) (es : List Entry) (next : ℕ) → NumbersRise above es next → above < next
rise-below above [] next h = h
rise-below above (e ∷ es) next h = let first : above < e.number = h.0 in let more : e.number < next = rise-below e.number es next h.1 in omega arith

-- nor has one the next number
pub entry_at-next : (above : ℕ) (es : List Entry) (next n : ℕ) → NumbersRise above es next → next ≤ n → entry_at es n ≡ None
entry_at-next above [] next n h high = refl
entry_at-next above (e ∷ es) next n h high =
    let below : e.number < next = rise-below e.number es next h.1 in
    entry_at-behind e es n (λ same. omega arith) ∙ entry_at-next e.number es next n h.1 high

-- the entry that is looked up has the number
pub entry_at-number : (es : List Entry) (n : ℕ) (e : Entry) → entry_at es n ≡ Some e → e.number ≡ n
entry_at-number [] n e found = absurd cc
entry_at-number (first ∷ es) n e found =
    elim (first.number == n) as (λ b. (first.number == n) ≡ b → cond b (Some first) (entry_at es n) ≡ Some e → e.number ≡ n) [
      | true ↦ (λ here found. let same : first ≡ e = cc in ap (λ (x : Entry). x.number) (sym same) ∙ eqb-true first.number n here)
      | false ↦ (λ here found. entry_at-number es n e found)
    ] refl found

-- it is above those that the entries have to be above
pub entry_at-above : (above : ℕ) (es : List Entry) (next n : ℕ) (e : Entry) → NumbersRise above es next → entry_at es n ≡ Some e → above < n
entry_at-above above es next n e h found =
    elim (cases_lt above n) [ inl more ↦ more | inr low ↦ (let none = entry_at-low above es next n h low in absurd cc) ]

-- and below the next one
pub entry_at-below : (above : ℕ) (es : List Entry) (next n : ℕ) (e : Entry) → NumbersRise above es next → entry_at es n ≡ Some e → n < next
entry_at-below above es next n e h found =
    elim (cases_lt n next) [ inl less ↦ less | inr high ↦ (let none = entry_at-next above es next n h high in absurd cc) ]

-- what holds of all entries holds of the one that is looked up
pub entry_at-all : (P : Entry → Type 0) (es : List Entry) (n : ℕ) (e : Entry) → AllByRecursion P es → entry_at es n ≡ Some e → P e
entry_at-all P [] n e h found = absurd cc
entry_at-all P (first ∷ es) n e h found =
    elim (first.number == n) as (λ b. cond b (Some first) (entry_at es n) ≡ Some e → P e) [
      | true ↦ (λ found. let same : first ≡ e = cc in subst P same h.0)
      | false ↦ (λ found. entry_at-all P es n e h.1 found)
    ] found

-- what holds of each number with its entry holds of all entries
pub all-entries : (P : Entry → Type 0) (above : ℕ) (es : List Entry) (next : ℕ) → NumbersRise above es next → ((e : Entry) → entry_at es e.number ≡ Some e → P e) → AllByRecursion P es
all-entries P above [] next h each = tt
all-entries P above (e ∷ es) next h each = (
  each e (entry_at-first e es),
  all-entries P e.number es next h.1 (λ f found.
      let more : e.number < f.number = entry_at-above e.number es next f.number f h.1 found in
      each f (entry_at-behind e es f.number (λ same. omega arith) ∙ found)),
)

-- one place has one directory and one name
pub same_place : (d e : ℕ) (x y : List ℕ) → (d == e && bytes_eq x y) ≡ true → (d ≡ e) × (x ≡ y)
same_place d e x y h = let parts = and_parts (d == e) (bytes_eq x y) h in (eqb-true d e parts.0, (bytes_eq-Decides x y).0 parts.1)

pub own_place : (d e : ℕ) (x y : List ℕ) → d ≡ e → x ≡ y → (d == e && bytes_eq x y) ≡ true
own_place d e x y p q = and_from (d == e) (bytes_eq x y) (eq-eqb d e p) ((bytes_eq-Decides x y).1 q)

-- an entry is what its directory has under its name
pub child-own : (es : List Entry) (n : ℕ) (e : Entry) → NamesDiffer es → entry_at es n ≡ Some e → child es e.parent e.name ≡ Some n
child-own [] n e h found = absurd cc
child-own (first ∷ es) n e h found =
    elim (first.number == n) as (λ b. (first.number == n) ≡ b → cond b (Some first) (entry_at es n) ≡ Some e → child (first ∷ es) e.parent e.name ≡ Some n) [
      | true ↦ (λ here found.
          let same : first ≡ e = cc in
          let number : first.number ≡ n = eqb-true first.number n here in
          ap (λ (b : Bool). cond b (Some first.number) (child es e.parent e.name)) (own_place first.parent e.parent first.name e.name (ap (λ (x : Entry). x.parent) same) (ap (λ (x : Entry). x.name) same))
          ∙ ap (λ (k : ℕ). Some k) number)
      | false ↦ (λ here found. behind (child-own es n e h.1 found))
    ] refl found
  where
    behind : child es e.parent e.name ≡ Some n → child (first ∷ es) e.parent e.name ≡ Some n
    behind there = elim (first.parent == e.parent && bytes_eq first.name e.name) as (λ b. (first.parent == e.parent && bytes_eq first.name e.name) ≡ b → cond b (Some first.number) (child es e.parent e.name) ≡ Some n) [
      | true ↦ (λ here.
          let place = same_place first.parent e.parent first.name e.name here in
          let none : child es e.parent e.name ≡ None = subst (λ (d : ℕ). child es d e.name ≡ None) place.0 (subst (λ (x : List ℕ). child es first.parent x ≡ None) place.1 h.0) in
          absurd cc)
      | false ↦ (λ here. there)
    ] refl

-- what a directory has under a name is an entry of that directory
pub child-entry : (above : ℕ) (es : List Entry) (next d n : ℕ) (x : List ℕ) → NumbersRise above es next → child es d x ≡ Some n → (e : Entry) × (entry_at es n ≡ Some e) × (e.parent ≡ d) × (e.name ≡ x)
child-entry above [] next d n x h found = absurd cc
child-entry above (first ∷ es) next d n x h found =
    elim (first.parent == d && bytes_eq first.name x) as (λ b. (first.parent == d && bytes_eq first.name x) ≡ b → cond b (Some first.number) (child es d x) ≡ Some n → (e : Entry) × (entry_at (first ∷ es) n ≡ Some e) × (e.parent ≡ d) × (e.name ≡ x)) [
      | true ↦ (λ here found.
          let number : first.number ≡ n = cc in
          let place = same_place first.parent d first.name x here in
          (first, subst (λ (k : ℕ). entry_at (first ∷ es) k ≡ Some first) number (entry_at-first first es), place.0, place.1))
      | false ↦ (λ here found.
          let rest = child-entry first.number es next d n x h.1 found in
          let more : first.number < n = entry_at-above first.number es next n rest.0 h.1 rest.1 in
          (rest.0, entry_at-behind first es n (λ same. omega arith) ∙ rest.1, rest.2, rest.3))
    ] refl found

-- what is looked up is an entry or nothing
pub entry_at-cases : (es : List Entry) (n : ℕ) → (entry_at es n ≡ None) ⊎ ((e : Entry) × (entry_at es n ≡ Some e))
entry_at-cases es n = elim (entry_at es n) as (λ o. entry_at es n ≡ o → (entry_at es n ≡ None) ⊎ ((e : Entry) × (entry_at es n ≡ Some e))) [ None ↦ (λ found. inl found) | Some e ↦ (λ found. inr (e, found)) ] refl

-- an entry where a test of it is passed
pub entry_of : (es : List Entry) (n : ℕ) (p : Entry → Bool) → option_map_or p (entry_at es n) false ≡ true → (e : Entry) × (entry_at es n ≡ Some e) × (p e ≡ true)
entry_of es n p h = elim (entry_at es n) as (λ o. entry_at es n ≡ o → option_map_or p o false ≡ true → (e : Entry) × (entry_at es n ≡ Some e) × (p e ≡ true)) [ None ↦ (λ found h. absurd cc) | Some e ↦ (λ found h. (e, found, h)) ] refl h

-- the test says so
pub live-is : (es : List Entry) (n : ℕ) → Lives es n → is_live es n ≡ true
live-is es n (inl root) = ap (λ (b : Bool). b || is_some (entry_at es n)) (eq-eqb n 0 root)
live-is es n (inr found) = ap (λ (o : Option Entry). (n == 0) || is_some o) found.1 ∙ or-true (n == 0)

pub is-live : (es : List Entry) (n : ℕ) → is_live es n ≡ true → Lives es n
is-live es n h =
    elim (n == 0) as (λ b. (n == 0) ≡ b → (b || is_some (entry_at es n)) ≡ true → Lives es n) [
      | true ↦ (λ same h. inl (eqb-true n 0 same))
      | false ↦ (λ other h. elim (entry_at es n) as (λ o. entry_at es n ≡ o → is_some o ≡ true → Lives es n) [
        | None ↦ (λ found h. absurd cc)
        | Some e ↦ (λ found h. inr (e, found))
      ] refl h)
    ] refl h

-- a directory lives
pub directory-lives : (es : List Entry) (d : ℕ) → is_directory_at es d ≡ true → Lives es d
directory-lives es d h =
    elim (d == 0) as (λ b. (d == 0) ≡ b → (b || is_made_directory es d) ≡ true → Lives es d) [
      | true ↦ (λ root h. inl (eqb-true d 0 root))
      | false ↦ (λ root h. made (entry_at-cases es d) h)
    ] refl h
  where
    made : (entry_at es d ≡ None) ⊎ ((e : Entry) × (entry_at es d ≡ Some e)) → is_made_directory es d ≡ true → Lives es d
    made (inl none) h = let never : false ≡ true = ap (λ (o : Option Entry). option_map_or is_directory (option_map (λ (e : Entry). e.body) o) false) (sym none) ∙ h in absurd cc
    made (inr found) h = inr found

other_kind : (body : Body) → is_directory body ≡ true → is_leaf body ≡ false
other_kind Dir h = refl
other_kind (Semantic query permanent prohibited) h = refl
other_kind (Mount space answers) h = refl
other_kind other h = absurd cc

-- a directory fails a test that all directories fail
directory-tests : (test : Body → Bool) → ((body : Body) → is_directory body ≡ true → test body ≡ false) → (es : List Entry) (d : ℕ) → entry_at es 0 ≡ None → is_directory_at es d ≡ true → option_map_or test (body_at es d) false ≡ false
directory-tests test fails es d root h =
    elim (entry_at es d) as (λ o. entry_at es d ≡ o → (d == 0 || option_map_or is_directory (option_map (λ (e : Entry). e.body) o) false) ≡ true → option_map_or test (option_map (λ (e : Entry). e.body) o) false ≡ false) [
      | None ↦ (λ found h. refl)
      | Some e ↦ (λ found h. made e found h)
    ] refl h
  where
    made : (e : Entry) → entry_at es d ≡ Some e → (d == 0 || is_directory e.body) ≡ true → test e.body ≡ false
    made e found h = elim (d == 0) as (λ b. (d == 0) ≡ b → (b || is_directory e.body) ≡ true → test e.body ≡ false) [
      | true ↦ (λ here h. let none : entry_at es d ≡ None = subst (λ (k : ℕ). entry_at es k ≡ None) (sym (eqb-true d 0 here)) root in absurd cc)
      | false ↦ (λ here h. fails e.body h)
    ] refl h

-- a directory is no leaf
pub directory-no_leaf : (es : List Entry) (d : ℕ) → entry_at es 0 ≡ None → is_directory_at es d ≡ true → is_leaf_at es d ≡ false
directory-no_leaf es d root h = directory-tests is_leaf other_kind es d root h

-- a mount is a directory
pub mount-directory : (es : List Entry) (d : ℕ) → is_mount_at es d ≡ true → is_directory_at es d ≡ true
mount-directory es d h = or_right (d == 0) (is_made_directory es d) (elim (entry_at es d) as (λ o. option_map_or is_mount (option_map (λ (e : Entry). e.body) o) false ≡ true → option_map_or is_directory (option_map (λ (e : Entry). e.body) o) false ≡ true) [
  | None ↦ (λ h. absurd cc)
  | Some e ↦ (λ h. body e.body h)
] h)
  where
    body : (b : Body) → is_mount b ≡ true → is_directory b ≡ true
    body (Mount space answers) h = refl
    body other h = absurd cc

-- what is in place is in a directory
pub place-directory : (es : List Entry) (e : Entry) → is_in_place es e ≡ true → is_directory_at es e.parent ≡ true
place-directory es e h =
    elim (is_document e.body) as (λ b. (if b then is_mount_at es e.parent else is_holder_at es e.parent) ≡ true → is_directory_at es e.parent ≡ true) [
      | true ↦ (λ mount. mount-directory es e.parent mount)
      | false ↦ (λ holder. (and_parts (is_directory_at es e.parent) (not (is_mount_at es e.parent)) holder).0)
    ] h

-- it stays in place where the entry of its directory stays
pub place-same : (es fs : List Entry) (e : Entry) → entry_at fs e.parent ≡ entry_at es e.parent → is_in_place fs e ≡ is_in_place es e
place-same es fs e same = ap (λ (o : Option Entry).
    if is_document e.body then option_map_or is_mount (option_map (λ (e : Entry). e.body) o) false
    else ((e.parent == 0 || option_map_or is_directory (option_map (λ (e : Entry). e.body) o) false) && not (option_map_or is_mount (option_map (λ (e : Entry). e.body) o) false))) same

no_linkable : (body : Body) → is_directory body ≡ true → is_linkable body ≡ false
no_linkable Dir h = refl
no_linkable (Semantic query permanent prohibited) h = refl
no_linkable (Mount space answers) h = refl
no_linkable other h = absurd cc

-- a directory is nothing that can be linked
pub directory-no_item : (es : List Entry) (d : ℕ) → entry_at es 0 ≡ None → is_directory_at es d ≡ true → option_map_or is_linkable (body_at es d) false ≡ false
directory-no_item es d root h = directory-tests is_linkable no_linkable es d root h
