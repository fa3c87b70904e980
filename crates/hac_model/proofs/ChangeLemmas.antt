-- What is looked up after an entry was added, changed or removed.
use Rattle.std.proofs.Common.{◌≡◌, ℕ, ◌+◌, ◌<◌, ◌≤◌, Bool, true, false, cond, List, [], ◌∷◌, ◌++◌, subst, refl, ap, sym, ◌∙◌, arith, eq-eqb}
use Rattle.std.specs.Prelude.{◌&&◌, ◌||◌, ◌==◌, not, filter, Option, Some, None}
use Rattle.std.specs.Option.{option_map, option_map_or}
use Rattle.std.specs.List.{AllByRecursion}
use Rattle.std.specs.Str.{bytes_eq}
use Rattle.std.specs.Cmp.{nat_eq_equiv}
use Rattle.std.specs.Cmp.Lexicographic.{nat_list_eq_equiv}
use Rattle.std.proofs.lemmas.Bool.{eqb-true, ne_eqb}
use Rattle.hac_model.specs.Tree.Events.{changed_in, edited, reseated}
use Rattle.hac_model.specs.Tree.{body_at, child, entry_at, is_directory, is_directory_at, is_made_directory}
use Rattle.hac_model.specs.Tree.Valid.{NamesDiffer, NumbersRise}
use Rattle.hac_model.specs.declared.states.Body.{Body}
use Rattle.hac_model.specs.declared.states.Entry.{Entry}
pub use Rattle.hac_model.proofs.BoolLemmas.{and-true, or-turned}

-- Tests joined.

-- What holds of all members.

pub all-append : {X : Type 0} (P : X → Type 0) (xs : List X) (x : X) → AllByRecursion P xs → P x → AllByRecursion P (xs ++ x ∷ [])
all-append P [] x h p = (p, tt)
all-append P (y ∷ xs) x h p = (h.0, all-append P xs x h.1 p)

pub all-both : {X : Type 0} (P Q R : X → Type 0) (xs : List X) → ((x : X) → P x → Q x → R x) → AllByRecursion P xs → AllByRecursion Q xs → AllByRecursion R xs
all-both P Q R [] f h k = tt
all-both P Q R (x ∷ xs) f h k = (f x h.0 k.0, all-both P Q R xs f h.1 k.1)

pub all-joined : {X : Type 0} (P : X → Type 0) (xs ys : List X) → AllByRecursion P xs → AllByRecursion P ys → AllByRecursion P (xs ++ ys)
all-joined P [] ys h k = k
all-joined P (x ∷ xs) ys h k = (h.0, all-joined P xs ys h.1 k)

pub all-weaker : {X : Type 0} (P Q : X → Type 0) (xs : List X) → ((x : X) → P x → Q x) → AllByRecursion P xs → AllByRecursion Q xs
all-weaker P Q [] f h = tt
all-weaker P Q (x ∷ xs) f h = (f x h.0, all-weaker P Q xs f h.1)

pub all-filter : {X : Type 0} (P : X → Type 0) (p : X → Bool) (xs : List X) → AllByRecursion P xs → AllByRecursion P (filter p xs)
all-filter P p [] h = tt
all-filter P p (x ∷ xs) h = elim (p x) as (λ b. AllByRecursion P (cond b (x ∷ filter p xs) (filter p xs))) [ true ↦ (h.0, all-filter P p xs h.1) | false ↦ all-filter P p xs h.1 ]

-- An entry is added.

-- a new entry takes the next number
pub numbers-append : (above : ℕ) (es : List Entry) (e : Entry) (next : ℕ) → NumbersRise above es next → e.number ≡ next → NumbersRise above (es ++ e ∷ []) (next + 1)
numbers-append above [] e next h same = (omega arith, omega arith)
numbers-append above (x ∷ es) e next h same = (h.0, numbers-append x.number es e next h.1 same)

-- what was there before is found first
pub entry_at-append : (es : List Entry) (e : Entry) (n : ℕ) (found : Entry) → entry_at es n ≡ Some found → entry_at (es ++ e ∷ []) n ≡ Some found
entry_at-append [] e n found h = absurd cc
entry_at-append (x ∷ es) e n found h = elim (x.number == n) as (λ b. cond b (Some x) (entry_at es n) ≡ Some found → cond b (Some x) (entry_at (es ++ e ∷ []) n) ≡ Some found) [ true ↦ (λ h. h) | false ↦ (λ h. entry_at-append es e n found h) ] h

pub entry_at-other : (es : List Entry) (e : Entry) (n : ℕ) → (e.number ≡ n → ⊥) → entry_at (es ++ e ∷ []) n ≡ entry_at es n
entry_at-other [] e n other = ap (λ (b : Bool). cond b (Some e) None) (ne_eqb e.number n other)
entry_at-other (x ∷ es) e n other = ap (λ (o : Option Entry). cond (x.number == n) (Some x) o) (entry_at-other es e n other)

pub entry_at-new : (es : List Entry) (e : Entry) → entry_at es e.number ≡ None → entry_at (es ++ e ∷ []) e.number ≡ Some e
entry_at-new [] e none = ap (λ (b : Bool). cond b (Some e) None) (eq-eqb e.number e.number refl)
entry_at-new (x ∷ es) e none = elim (x.number == e.number) as (λ b. cond b (Some x) (entry_at es e.number) ≡ None → cond b (Some x) (entry_at (es ++ e ∷ []) e.number) ≡ Some e) [ true ↦ (λ none. absurd cc) | false ↦ (λ none. entry_at-new es e none) ] none

-- a directory stays one
pub directory-append : (es : List Entry) (e : Entry) (d : ℕ) → is_directory_at es d ≡ true → is_directory_at (es ++ e ∷ []) d ≡ true
directory-append es e d h = elim (d == 0) as (λ b. (b || is_made_directory es d) ≡ true → (b || is_made_directory (es ++ e ∷ []) d) ≡ true) [ true ↦ (λ h. refl) | false ↦ (λ h. made h) ] h
  where
    made : is_made_directory es d ≡ true → is_made_directory (es ++ e ∷ []) d ≡ true
    made h = elim (entry_at es d) as (λ o. entry_at es d ≡ o → option_map_or is_directory (option_map (λ (e : Entry). e.body) o) false ≡ true → is_made_directory (es ++ e ∷ []) d ≡ true) [
      | None ↦ (λ found h. absurd cc)
      | Some there ↦ (λ found h. ap (λ (o : Option Entry). option_map_or is_directory (option_map (λ (e : Entry). e.body) o) false) (entry_at-append es e d there found) ∙ h)
    ] refl h

-- whether two entries have the same place doesn't depend on which is named first
pub apart : (a b : ℕ) (x y : List ℕ) → (a == b && bytes_eq x y) ≡ false → (b == a && bytes_eq y x) ≡ false
apart a b x y h = rw (nat_eq_equiv.symm b a, nat_list_eq_equiv.symm y x) h

pub first_apart : (b : Bool) (n : ℕ) (rest : Option ℕ) → cond b (Some n) rest ≡ None → (b ≡ false) × (rest ≡ None)
first_apart true n rest h = absurd cc
first_apart false n rest h = (refl, h)

-- a directory has nothing under a name, and what is added has another name
pub child-append : (es : List Entry) (e : Entry) (dir : ℕ) (name : List ℕ) → child es dir name ≡ None → (e.parent == dir && bytes_eq e.name name) ≡ false → child (es ++ e ∷ []) dir name ≡ None
child-append [] e dir name h other = ap (λ (b : Bool). cond b (Some e.number) None) other
child-append (x ∷ es) e dir name h other = elim (x.parent == dir && bytes_eq x.name name) as (λ b. cond b (Some x.number) (child es dir name) ≡ None → cond b (Some x.number) (child (es ++ e ∷ []) dir name) ≡ None) [ true ↦ (λ h. cc) | false ↦ (λ h. child-append es e dir name h other) ] h

pub differ-append : (es : List Entry) (e : Entry) → NamesDiffer es → child es e.parent e.name ≡ None → NamesDiffer (es ++ e ∷ [])
differ-append [] e h free = (refl, tt)
differ-append (x ∷ es) e h free =
    let parts = first_apart (x.parent == e.parent && bytes_eq x.name e.name) x.number (child es e.parent e.name) free in
    (child-append es e x.parent x.name h.0 (apart x.parent e.parent x.name e.name parts.0), differ-append es e h.1 parts.1)

-- An entry is changed, its number kept.

-- the entry after a change of the one with the number
abbrev pub touched : ℕ → (Entry → Entry) → Entry → Entry
touched n change e = cond (e.number == n) (change e) e

-- the change keeps numbers
abbrev pub KeepsNumbers : (Entry → Entry) → Type 0
KeepsNumbers change = (e : Entry) → (change e).number ≡ e.number

pub touched-keeps : {X : Type 0} (part : Entry → X) (n : ℕ) (change : Entry → Entry) (e : Entry) → part (change e) ≡ part e → part (touched n change e) ≡ part e
touched-keeps part n change e same = elim (e.number == n) as (λ b. part (cond b (change e) e) ≡ part e) [ true ↦ same | false ↦ refl ]

pub entry_at-changed : (n : ℕ) (change : Entry → Entry) (es : List Entry) (m : ℕ) → KeepsNumbers change → entry_at (changed_in n change es) m ≡ option_map (touched n change) (entry_at es m)
entry_at-changed n change [] m keeps = refl
entry_at-changed n change (e ∷ es) m keeps =
    ap (λ (k : ℕ). cond (k == m) (Some (touched n change e)) (entry_at (changed_in n change es) m)) (touched-keeps (λ e. e.number) n change e (keeps e))
    ∙ ap (λ (o : Option Entry). cond (e.number == m) (Some (touched n change e)) o) (entry_at-changed n change es m keeps)
    ∙ (elim (e.number == m) as (λ b. cond b (Some (touched n change e)) (option_map (touched n change) (entry_at es m)) ≡ option_map (touched n change) (cond b (Some e) (entry_at es m))) [ true ↦ refl | false ↦ refl ])

-- a test of bodies that the change leaves as it is
pub test-changed : (test : Body → Bool) (n : ℕ) (change : Entry → Entry) (es : List Entry) (m : ℕ) → KeepsNumbers change → ((e : Entry) → test (change e).body ≡ test e.body) → option_map_or test (body_at (changed_in n change es) m) false ≡ option_map_or test (body_at es m) false
test-changed test n change es m keeps same =
    ap (λ (o : Option Entry). option_map_or test (option_map (λ (e : Entry). e.body) o) false) (entry_at-changed n change es m keeps)
    ∙ (elim (entry_at es m) as (λ o. option_map_or test (option_map (λ (e : Entry). e.body) (option_map (touched n change) o)) false ≡ option_map_or test (option_map (λ (e : Entry). e.body) o) false) [
      | None ↦ refl
      | Some e ↦ touched-keeps (λ e. test e.body) n change e (same e)
    ])

pub directory-changed : (n : ℕ) (change : Entry → Entry) (es : List Entry) (d : ℕ) → KeepsNumbers change → ((e : Entry) → is_directory (change e).body ≡ is_directory e.body) → is_directory_at (changed_in n change es) d ≡ is_directory_at es d
directory-changed n change es d keeps same = ap (λ (b : Bool). d == 0 || b) (test-changed is_directory n change es d keeps same)

pub numbers-changed : (n : ℕ) (change : Entry → Entry) (above : ℕ) (es : List Entry) (next : ℕ) → KeepsNumbers change → NumbersRise above es next → NumbersRise above (changed_in n change es) next
numbers-changed n change above [] next keeps h = h
numbers-changed n change above (e ∷ es) next keeps h =
    let same : (touched n change e).number ≡ e.number = touched-keeps (λ e. e.number) n change e (keeps e) in (
      subst (λ (k : ℕ). above < k) (sym same) h.0,
      subst (λ (k : ℕ). NumbersRise k (changed_in n change es) next) (sym same) (numbers-changed n change e.number es next keeps h.1),
    )

pub all-changed : (P : Entry → Type 0) (n : ℕ) (change : Entry → Entry) (es : List Entry) → ((e : Entry) → P e → P (change e)) → AllByRecursion P es → AllByRecursion P (changed_in n change es)
all-changed P n change [] keeps h = tt
all-changed P n change (e ∷ es) keeps h = (elim (e.number == n) as (λ b. P (cond b (change e) e)) [ true ↦ keeps e h.0 | false ↦ h.0 ], all-changed P n change es keeps h.1)

-- a number that no entry has changes none
pub changed-low : (n : ℕ) (change : Entry → Entry) (above : ℕ) (es : List Entry) (next : ℕ) → NumbersRise above es next → n ≤ above → changed_in n change es ≡ es
changed-low n change above [] next h low = refl
changed-low n change above (e ∷ es) next h low =
    let first : above < e.number = h.0 in
    let head : (e.number == n) ≡ false = ne_eqb e.number n (λ same. omega arith) in
    let tail : changed_in n change es ≡ es = changed-low n change e.number es next h.1 (omega arith) in
    λ i. cond (head i) (change e) e ∷ tail i

-- an edit of a body leaves places as they are
pub child-edited : (n : ℕ) (edit : Body → Body) (es : List Entry) (dir : ℕ) (name : List ℕ) → child (changed_in n (edited edit) es) dir name ≡ child es dir name
child-edited n edit [] dir name = refl
child-edited n edit (e ∷ es) dir name =
    ap (λ (rest : Option ℕ). cond ((touched n (edited edit) e).parent == dir && bytes_eq (touched n (edited edit) e).name name) (Some (touched n (edited edit) e).number) rest) (child-edited n edit es dir name)
    ∙ touched-keeps (λ e. cond (e.parent == dir && bytes_eq e.name name) (Some e.number) (child es dir name)) n (edited edit) e refl

pub differ-edited : (n : ℕ) (edit : Body → Body) (es : List Entry) → NamesDiffer es → NamesDiffer (changed_in n (edited edit) es)
differ-edited n edit [] h = tt
differ-edited n edit (e ∷ es) h = (
  touched-keeps (λ x. child (changed_in n (edited edit) es) x.parent x.name) n (edited edit) e refl ∙ child-edited n edit es e.parent e.name ∙ h.0,
  differ-edited n edit es h.1,
)

-- an entry that goes to another place leaves a free place free
pub child-reseated : (n dir : ℕ) (name : List ℕ) (es : List Entry) (d : ℕ) (x : List ℕ) → child es d x ≡ None → (dir == d && bytes_eq name x) ≡ false → child (changed_in n (reseated dir name) es) d x ≡ None
child-reseated n dir name [] d x h other = refl
child-reseated n dir name (e ∷ es) d x h other =
    let parts = first_apart (e.parent == d && bytes_eq e.name x) e.number (child es d x) h in
    let rest : child (changed_in n (reseated dir name) es) d x ≡ None = child-reseated n dir name es d x parts.1 other in
    elim (e.number == n) as (λ b. (let moved : Entry = cond b (reseated dir name e) e in cond (moved.parent == d && bytes_eq moved.name x) (Some moved.number) (child (changed_in n (reseated dir name) es) d x)) ≡ None) [
      | true ↦ ap (λ (b : Bool). cond b (Some e.number) (child (changed_in n (reseated dir name) es) d x)) other ∙ rest
      | false ↦ ap (λ (b : Bool). cond b (Some e.number) (child (changed_in n (reseated dir name) es) d x)) parts.0 ∙ rest
    ]

-- to a free place
pub differ-reseated : (n dir : ℕ) (name : List ℕ) (above : ℕ) (es : List Entry) (next : ℕ) → NumbersRise above es next → child es dir name ≡ None → NamesDiffer es → NamesDiffer (changed_in n (reseated dir name) es)
differ-reseated n dir name above [] next rise free h = tt
differ-reseated n dir name above (e ∷ es) next rise free h =
    let parts = first_apart (e.parent == dir && bytes_eq e.name name) e.number (child es dir name) free in
    elim (e.number == n) as (λ b. (e.number == n) ≡ b → NamesDiffer (cond b (reseated dir name e) e ∷ changed_in n (reseated dir name) es)) [
      | true ↦ (λ here.
          let low : n ≤ e.number = (let same : e.number ≡ n = eqb-true e.number n here in omega arith) in
          let rest : changed_in n (reseated dir name) es ≡ es = changed-low n (reseated dir name) e.number es next rise.1 low in
          (ap (λ (es : List Entry). child es dir name) rest ∙ parts.1, subst (λ (es : List Entry). NamesDiffer es) (sym rest) h.1))
      | false ↦ (λ other. (child-reseated n dir name es e.parent e.name h.0 (apart e.parent dir e.name name parts.0), differ-reseated n dir name e.number es next rise.1 parts.1 h.1))
    ] refl

-- An entry is removed.

-- the entry is not the one with the number
abbrev pub is_kept : ℕ → Entry → Bool
is_kept n e = not (e.number == n)

pub entry_at-kept : (n : ℕ) (es : List Entry) (m : ℕ) → (n ≡ m → ⊥) → entry_at (filter (is_kept n) es) m ≡ entry_at es m
entry_at-kept n [] m other = refl
entry_at-kept n (e ∷ es) m other =
    elim (e.number == n) as (λ b. (e.number == n) ≡ b → entry_at (cond (not b) (e ∷ filter (is_kept n) es) (filter (is_kept n) es)) m ≡ cond (e.number == m) (Some e) (entry_at es m)) [
      | true ↦ (λ here. entry_at-kept n es m other ∙ ap (λ (b : Bool). cond b (Some e) (entry_at es m)) (sym (ne_eqb e.number m (λ same. other (sym (eqb-true e.number n here) ∙ same)))))
      | false ↦ (λ apart. ap (λ (o : Option Entry). cond (e.number == m) (Some e) o) (entry_at-kept n es m other))
    ] refl

pub entry_at-gone : (n : ℕ) (es : List Entry) → entry_at (filter (is_kept n) es) n ≡ None
entry_at-gone n [] = refl
entry_at-gone n (e ∷ es) =
    elim (e.number == n) as (λ b. (e.number == n) ≡ b → entry_at (cond (not b) (e ∷ filter (is_kept n) es) (filter (is_kept n) es)) n ≡ None) [
      | true ↦ (λ here. entry_at-gone n es)
      | false ↦ (λ other. ap (λ (b : Bool). cond b (Some e) (entry_at (filter (is_kept n) es) n)) other ∙ entry_at-gone n es)
    ] refl

pub directory-kept : (n : ℕ) (es : List Entry) (d : ℕ) → (n ≡ d → ⊥) → is_directory_at (filter (is_kept n) es) d ≡ is_directory_at es d
directory-kept n es d other = ap (λ (o : Option Entry). d == 0 || option_map_or is_directory (option_map (λ (e : Entry). e.body) o) false) (entry_at-kept n es d other)

pub rise-lower : (low above : ℕ) (es : List Entry) (next : ℕ) → low ≤ above → NumbersRise above es next → NumbersRise low es next
rise-lower low above [] next less h = omega arith
rise-lower low above (e ∷ es) next less h = let first : above < e.number = h.0 in (omega arith, h.1)

pub numbers-filter : (p : Entry → Bool) (above : ℕ) (es : List Entry) (next : ℕ) → NumbersRise above es next → NumbersRise above (filter p es) next
numbers-filter p above [] next h = h
numbers-filter p above (e ∷ es) next h =
    let first : above < e.number = h.0 in
    let rest = numbers-filter p e.number es next h.1 in
    elim (p e) as (λ b. NumbersRise above (cond b (e ∷ filter p es) (filter p es)) next) [ true ↦ (first, rest) | false ↦ rise-lower above e.number (filter p es) next (omega arith) rest ]

pub child-filter : (p : Entry → Bool) (es : List Entry) (d : ℕ) (x : List ℕ) → child es d x ≡ None → child (filter p es) d x ≡ None
child-filter p [] d x h = refl
child-filter p (e ∷ es) d x h =
    let parts = first_apart (e.parent == d && bytes_eq e.name x) e.number (child es d x) h in
    let rest = child-filter p es d x parts.1 in
    elim (p e) as (λ b. child (cond b (e ∷ filter p es) (filter p es)) d x ≡ None) [ true ↦ ap (λ (b : Bool). cond b (Some e.number) (child (filter p es) d x)) parts.0 ∙ rest | false ↦ rest ]

pub differ-filter : (p : Entry → Bool) (es : List Entry) → NamesDiffer es → NamesDiffer (filter p es)
differ-filter p [] h = tt
differ-filter p (e ∷ es) h = elim (p e) as (λ b. NamesDiffer (cond b (e ∷ filter p es) (filter p es))) [ true ↦ (child-filter p es e.parent e.name h.0, differ-filter p es h.1) | false ↦ differ-filter p es h.1 ]

-- what is left is found as before
pub entry_at-filter : (p : Entry → Bool) (es : List Entry) (n : ℕ) (found : Entry) → entry_at es n ≡ Some found → p found ≡ true → entry_at (filter p es) n ≡ Some found
entry_at-filter p [] n found h left = absurd cc
entry_at-filter p (e ∷ es) n found h left =
    elim (e.number == n) as (λ b. (e.number == n) ≡ b → cond b (Some e) (entry_at es n) ≡ Some found → entry_at (cond (p e) (e ∷ filter p es) (filter p es)) n ≡ Some found) [
      | true ↦ (λ here h.
          let same : e ≡ found = cc in
          ap (λ (b : Bool). entry_at (cond b (e ∷ filter p es) (filter p es)) n) (ap p same ∙ left)
          ∙ ap (λ (b : Bool). cond b (Some e) (entry_at (filter p es) n)) here ∙ ap (λ (x : Entry). Some x) same)
      | false ↦ (λ other h.
          let rest = entry_at-filter p es n found h left in
          elim (p e) as (λ b. entry_at (cond b (e ∷ filter p es) (filter p es)) n ≡ Some found) [
            | true ↦ ap (λ (b : Bool). cond b (Some e) (entry_at (filter p es) n)) other ∙ rest
            | false ↦ rest
          ])
    ] refl h

pub entry_at-none : (p : Entry → Bool) (es : List Entry) (n : ℕ) → entry_at es n ≡ None → entry_at (filter p es) n ≡ None
entry_at-none p [] n h = refl
entry_at-none p (e ∷ es) n h =
    elim (e.number == n) as (λ b. (e.number == n) ≡ b → cond b (Some e) (entry_at es n) ≡ None → entry_at (cond (p e) (e ∷ filter p es) (filter p es)) n ≡ None) [
      | true ↦ (λ here h. absurd cc)
      | false ↦ (λ other h.
          let rest = entry_at-none p es n h in
          elim (p e) as (λ b. entry_at (cond b (e ∷ filter p es) (filter p es)) n ≡ None) [
            | true ↦ ap (λ (b : Bool). cond b (Some e) (entry_at (filter p es) n)) other ∙ rest
            | false ↦ rest
          ])
    ] refl h

pub numbers-kept : (n above : ℕ) (es : List Entry) (next : ℕ) → NumbersRise above es next → NumbersRise above (filter (is_kept n) es) next
numbers-kept n above es next h = numbers-filter (is_kept n) above es next h

pub differ-kept : (n : ℕ) (es : List Entry) → NamesDiffer es → NamesDiffer (filter (is_kept n) es)
differ-kept n es h = differ-filter (is_kept n) es h
