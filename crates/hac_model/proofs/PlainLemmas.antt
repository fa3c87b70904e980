-- What the plain tree of a valid state shows.
use Rattle.std.proofs.Common.{◌≡◌, ℕ, ◌<◌, ◌≤◌, List, [], ◌∷◌, ◌++◌, subst, refl, ap, sym, ◌∙◌, arith, inl, inr, append_assoc}
use Rattle.std.specs.Prelude.{◌⊎◌, Option, Some, None, option_and_then}
use Rattle.std.specs.Option.{option_map, unwrap_or}
use Rattle.std.proofs.lemmas.Bool.{cases_eq, cases_order}
use Rattle.std.proofs.lemmas.List.{append-nil}
use Rattle.hac_model.specs.Tree.Looks.{body_of, plain, stands_at}
use Rattle.hac_model.specs.Tree.{child, entry_at, path_of}
use Rattle.hac_model.specs.Tree.Valid.{IsLayout, IsValid, NumbersRise}
use Rattle.hac_model.specs.declared.states.Body.{Body}
use Rattle.hac_model.specs.declared.states.Body.TheVariants.{Dir}
use Rattle.hac_model.specs.declared.states.Entry.{Entry}
use Rattle.hac_model.specs.declared.states.State.{State}
use Rattle.hac_model.proofs.DepthLemmas.{entry-no_root}
use Rattle.hac_model.proofs.PathLemmas.{from_root, parent-lives, path_of-parent, path_of-root, snoc-parts}
use Rattle.hac_model.proofs.LookLemmas.{child-lives, child-path}
use Rattle.hac_model.proofs.TreeLemmas.{Lives, child-own, entry_at-behind, entry_at-cases, entry_at-first, entry_at-low, entry_at-number}

-- one name more leads to a child of the entry there
pub stands-last : (es : List Entry) (dir : ℕ) (path : List (List ℕ)) (name : List ℕ) → stands_at es dir (path ++ name ∷ []) ≡ option_and_then (λ number. child es number name) (stands_at es dir path)
stands-last es dir [] name = elim (child es dir name) as (λ o. option_and_then (λ number. Some number) o ≡ o) [ None ↦ refl | Some n ↦ refl ]
stands-last es dir (x ∷ path) name = elim (child es dir x) as (λ o. option_and_then (λ n. stands_at es n (path ++ name ∷ [])) o ≡ option_and_then (λ n. child es n name) (option_and_then (λ n. stands_at es n path) o)) [
  | None ↦ refl
  | Some n ↦ stands-last es n path name
]

-- what lives is found at its path
pub stands-path : (s : State) (n : ℕ) → IsLayout s → Lives s.entries n → stands_at s.entries 0 (path_of s n) ≡ Some n
stands-path s n h lives = from_root s (λ n. stands_at s.entries 0 (path_of s n) ≡ Some n) h (ap (stands_at s.entries 0) (path_of-root s h)) step n lives
  where
    step : (n : ℕ) (e : Entry) → entry_at s.entries n ≡ Some e → stands_at s.entries 0 (path_of s e.parent) ≡ Some e.parent → stands_at s.entries 0 (path_of s n) ≡ Some n
    step n e found known =
        ap (stands_at s.entries 0) (path_of-parent s n e h found)
        ∙ stands-last s.entries 0 (path_of s e.parent) e.name
        ∙ ap (λ (o : Option ℕ). option_and_then (λ number. child s.entries number e.name) o) known
        ∙ child-own s.entries n e h.differ found

-- what is found at a path has that path
stands-found : (s : State) (dir : ℕ) (names : List (List ℕ)) (n : ℕ) → IsLayout s → Lives s.entries dir → stands_at s.entries dir names ≡ Some n → (path_of s n ≡ path_of s dir ++ names) × Lives s.entries n
stands-found s dir [] n h lives found = let same : dir ≡ n = cc in (ap (path_of s) (sym same) ∙ sym (append-nil (path_of s dir)), subst (Lives s.entries) same lives)
stands-found s dir (name ∷ names) n h lives found =
    elim (child s.entries dir name) as (λ o. child s.entries dir name ≡ o → option_and_then (λ m. stands_at s.entries m names) o ≡ Some n → (path_of s n ≡ path_of s dir ++ name ∷ names) × Lives s.entries n) [
      | None ↦ (λ at found. absurd cc)
      | Some m ↦ (λ at found.
          let more = stands-found s m names n h (child-lives s.entries dir name m at) found in
          (more.0 ∙ ap (λ (p : List (List ℕ)). p ++ names) (child-path s dir m name h at) ∙ append_assoc (path_of s dir) (name ∷ []) names, more.1))
    ] refl found

-- a row of the plain tree
abbrev Row : Type 0
Row = ℕ × Body

abbrev row_of : State → Option ℕ → Option Row
row_of s o = option_map {T = ℕ} {U = Row} (λ number. (number, body_of s number)) o

row-of : (s : State) (o : Option ℕ) (row : Row) → row_of s o ≡ Some row → (o ≡ Some row.0) × (body_of s row.0 ≡ row.1)
row-of s None row h = absurd cc
row-of s (Some m) row h =
    let pair : (m, body_of s m) ≡ row = cc in
    let same : m ≡ row.0 = ap (λ (p : Row). p.0) pair in
    (ap (λ (k : ℕ). Some k) same, ap (λ (k : ℕ). body_of s k) (sym same) ∙ ap (λ (p : Row). p.1) pair)

-- what a row of the plain tree says
row-parts : (s : State) (path : List (List ℕ)) (row : Row) → plain s path ≡ Some row → (stands_at s.entries 0 path ≡ Some row.0) × (body_of s row.0 ≡ row.1)
row-parts s path row h = row-of s (stands_at s.entries 0 path) row h

-- a number of one state has the same path in another that shows the same tree
there-too : (s t : State) (n : ℕ) → IsLayout s → ((path : List (List ℕ)) → plain s path ≡ plain t path) → Lives s.entries n → (stands_at t.entries 0 (path_of s n) ≡ Some n) × (body_of t n ≡ body_of s n)
there-too s t n h same lives =
    row-parts t (path_of s n) (n, body_of s n) (sym (same (path_of s n)) ∙ ap (row_of s) (stands-path s n h lives))

same-path : (s t : State) (n : ℕ) → IsLayout s → IsLayout t → ((path : List (List ℕ)) → plain s path ≡ plain t path) → Lives s.entries n → (path_of t n ≡ path_of s n) × Lives t.entries n
same-path s t n h k same lives =
    let found = stands-found t 0 (path_of s n) n k (inl refl) (there-too s t n h same lives).0 in
    (found.0 ∙ ap (λ (p : List (List ℕ)). p ++ path_of s n) (path_of-root t k), found.1)

-- so an entry of the one is an entry of the other
same-entry : (s t : State) (n : ℕ) (e : Entry) → IsLayout s → IsLayout t → ((path : List (List ℕ)) → plain s path ≡ plain t path) → entry_at s.entries n ≡ Some e → entry_at t.entries n ≡ Some e
same-entry s t n e h k same found = there (same-path s t n h k same (inr (e, found)))
  where
    entry_in : (f : Entry) → entry_at t.entries n ≡ Some f → path_of t n ≡ path_of s n → entry_at t.entries n ≡ Some e
    entry_in f at path =
        let parts = snoc-parts (path_of t f.parent) (path_of s e.parent) f.name e.name (sym (path_of-parent t n f k at) ∙ path ∙ path_of-parent s n e h found) in
        let parent = same-path s t e.parent h k same (parent-lives s n e h found) in
        let both : Some f.parent ≡ Some e.parent =
        sym (stands-path t f.parent k (parent-lives t n f k at)) ∙ ap (stands_at t.entries 0) (parts.0 ∙ sym parent.0) ∙ stands-path t e.parent k parent.1 in
        let parents : f.parent ≡ e.parent = cc (both) in
        let numbers : f.number ≡ e.number = entry_at-number t.entries n f at ∙ sym (entry_at-number s.entries n e found) in
        let bodies : f.body ≡ e.body =
        sym (ap (λ (o : Option Entry). unwrap_or (option_map (λ (e : Entry). e.body) o) Dir) at)
        ∙ (there-too s t n h same (inr (e, found))).1
        ∙ ap (λ (o : Option Entry). unwrap_or (option_map (λ (e : Entry). e.body) o) Dir) found in
        at ∙ (λ i. Some (record { number = numbers i; parent = parents i; name = parts.1 i; body = bodies i }))

    there : (path_of t n ≡ path_of s n) × Lives t.entries n → entry_at t.entries n ≡ Some e
    there (path, inl root) = absurd (entry-no_root s n e h found root)
    there (path, inr (f, at)) = entry_in f at path

same-lookup : (s t : State) (n : ℕ) → IsLayout s → IsLayout t → ((path : List (List ℕ)) → plain s path ≡ plain t path) → entry_at s.entries n ≡ entry_at t.entries n
same-lookup s t n h k same = elim (entry_at-cases s.entries n) [
  | inr (e, found) ↦ found ∙ sym (same-entry s t n e h k same found)
  | inl none ↦ elim (entry_at-cases t.entries n) [
    | inl other ↦ none ∙ sym other
    | inr (f, found) ↦ same-entry t s n f k h (λ path. sym (same path)) found ∙ sym found
  ]
]

-- entries whose numbers rise are known by what is looked up among them
pub entries-told : (above : ℕ) (es fs : List Entry) (next : ℕ) → NumbersRise above es next → NumbersRise above fs next → ((n : ℕ) → entry_at es n ≡ entry_at fs n) → es ≡ fs
entries-told above [] [] next h k same = refl
entries-told above [] (f ∷ fs) next h k same = let never : None ≡ Some f = same f.number ∙ entry_at-first f fs in absurd cc
entries-told above (e ∷ es) [] next h k same = let never : Some e ≡ None = sym (entry_at-first e es) ∙ same e.number in absurd cc
entries-told above (e ∷ es) (f ∷ fs) next h k same = told (cases_order e.number f.number) (λ rise. entries-told e.number es fs next h.1 rise (λ n. tails n (cases_eq e.number n) rise))
  where
    tails : (n : ℕ) → (e.number ≡ n) ⊎ (e.number ≡ n → ⊥) → NumbersRise e.number fs next → entry_at es n ≡ entry_at fs n
    tails n (inl here) rise =
        let low : n ≤ e.number = omega (arith, here) in
        entry_at-low e.number es next n h.1 low ∙ sym (entry_at-low e.number fs next n rise low)
    tails n (inr other) rise = elim (cases_eq f.number n) [
      | inl there ↦ (
          let none : entry_at fs n ≡ None = entry_at-low f.number fs next n k.1 (omega (arith, there)) in
          let mine : entry_at es n ≡ Some f = sym (entry_at-behind e es n other) ∙ same n ∙ subst (λ (j : ℕ). entry_at (f ∷ fs) j ≡ Some f) there (entry_at-first f fs) in
          absurd (elsewhere n there other mine))
      | inr apart ↦ sym (entry_at-behind e es n other) ∙ same n ∙ entry_at-behind f fs n apart
    ]
      where
        -- an entry behind the first one has a greater number than both first ones
        elsewhere : (n : ℕ) → f.number ≡ n → (e.number ≡ n → ⊥) → entry_at es n ≡ Some f → ⊥
        elsewhere n there other mine = elim (cases_order e.number f.number) [
          | inl equal ↦ other (equal ∙ there)
          | inr (inl less) ↦ (let never : Some e ≡ None = sym (entry_at-first e es) ∙ same e.number ∙ entry_at-low e.number (f ∷ fs) next e.number (less, k.1) (omega arith) in cc)
          | inr (inr more) ↦ (let never : None ≡ Some f = sym (entry_at-low f.number (e ∷ es) next f.number (more, h.1) (omega arith)) ∙ same f.number ∙ entry_at-first f fs in cc)
        ]

    told : (e.number ≡ f.number) ⊎ ((e.number < f.number) ⊎ (f.number < e.number)) → (NumbersRise e.number fs next → es ≡ fs) → e ∷ es ≡ f ∷ fs
    told (inl equal) rest =
        let heads : Some e ≡ Some f = sym (entry_at-first e es) ∙ same e.number ∙ subst (λ (j : ℕ). entry_at (f ∷ fs) j ≡ Some f) (sym equal) (entry_at-first f fs) in
        let head : e ≡ f = cc (heads) in
        let tail : es ≡ fs = rest (subst (λ (j : ℕ). NumbersRise j fs next) (sym equal) k.1) in
        λ i. head i ∷ tail i
    told (inr (inl less)) rest = let never : Some e ≡ None = sym (entry_at-first e es) ∙ same e.number ∙ entry_at-low e.number (f ∷ fs) next e.number (less, k.1) (omega arith) in absurd cc
    told (inr (inr more)) rest = let never : None ≡ Some f = sym (entry_at-low f.number (e ∷ es) next f.number (more, h.1) (omega arith)) ∙ same f.number ∙ entry_at-first f fs in absurd cc

pub plain-tells : (s t : State) → IsValid s → IsValid t → s.version ≡ t.version → s.next ≡ t.next → s.sessions ≡ t.sessions → ((path : List (List ℕ)) → plain s path ≡ plain t path) → s ≡ t
plain-tells s t h k version next sessions same =
    let rise : NumbersRise 0 t.entries s.next = subst (λ (n : ℕ). NumbersRise 0 t.entries n) (sym next) k.layout.numbers in
    let entries : s.entries ≡ t.entries = entries-told 0 s.entries t.entries s.next h.layout.numbers rise (λ n. same-lookup s t n h.layout k.layout same) in
    λ i. record { version = version i; next = next i; entries = entries i; sessions = sessions i }
