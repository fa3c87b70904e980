-- A part of a tree under new numbers.
use Rattle.std.proofs.Common.{◌≡◌, ℕ, zero, suc, ◌+◌, ◌<◌, ◌≤◌, Bool, true, false, cond, List, [], ◌∷◌, ◌++◌, length, map, subst, refl, ap, sym, ◌∙◌, arith, inl, inr, eq-eqb, append_assoc, length-append}
use Rattle.std.specs.Prelude.{◌||◌, ◌==◌, nat_lt, sum_by, Option, Some, None}
use Rattle.std.specs.List.{AllByRecursion, list_all}
use Rattle.std.specs.Option.{option_map, option_map_or}
use Rattle.std.proofs.lemmas.Bool.{and_from, eqb-true, ne_eqb, le-leb, leb-true, le-ltb, ltb-false}
use Rattle.std.proofs.lemmas.List.{append-nil}
use Rattle.std.proofs.lemmas.List.Sums.{sum_by-cons}
use Rattle.hac_model.specs.Tree.Events.{added}
use Rattle.hac_model.specs.Tree.Limits.{answers_kept, are_answers_few, documents_kept, directory_count, file_bytes, has_short_path, item_count, names_below, passed_limit, semantic_count, symlink_count, text_size}
use Rattle.hac_model.specs.Tree.{ancestors, child, entry_at, is_directory, is_directory_at, is_document, is_document_at, is_linkable, is_mount, is_mount_at, is_queried, is_symlink, is_symlink_at, lineage, path_of}
use Rattle.hac_model.specs.Tree.Valid.{IsLayout, NumbersRise}
use Rattle.hac_model.specs.declared.limits.TheConstants.{PATH_LIMIT, SEMANTICS_LIMIT, ITEMS_LIMIT, NUMBERS_LIMIT, TEXTS_LIMIT, DIRS_LIMIT, SYMLINKS_LIMIT, MOUNTS_LIMIT}
use Rattle.hac_model.specs.declared.states.Body.{Body}
use Rattle.hac_model.specs.declared.states.Body.TheVariants.{Mount}
use Rattle.hac_model.specs.declared.states.Entry.{Entry}
use Rattle.hac_model.specs.declared.states.Session.{Session}
use Rattle.hac_model.specs.declared.states.State.{State}
use Rattle.hac_model.specs.declared.versions.Version.TheVariants.{Two}
use Rattle.hac_model.proofs.CountLemmas.{directory_count-is, measured, measured-cons, one_if}
use Rattle.hac_model.proofs.FewLemmas.{few-less}
use Rattle.hac_model.proofs.LimitLemmas.{IsWithinLimits, limits-none, limits-within, most-dirs, most-numbers, most-symlinks}
use Rattle.hac_model.proofs.PathLemmas.{ancestors-none, ancestors-step, from_root, limit, lineage-is, parent-lives, path-fits, path_of-one, path_of-parent, path_of-root, root-none}
use Rattle.hac_model.proofs.TreeLemmas.{Lives, child-entry, entry_at-all, entry_at-behind, entry_at-first, entry_at-low, entry_at-number}

-- an entry under new numbers, with what has come of its body so far
abbrev pub moved : (ℕ → ℕ) → (Entry → Body) → Entry → Entry
moved ρ stage e = record { number = ρ e.number; parent = ρ e.parent; name = e.name; body = stage e }

-- what has come of a tree when these of its entries are made
abbrev pub part : (ℕ → ℕ) → (Entry → Body) → List Session → List Entry → State
part ρ stage sessions es = record { version = Two; next = length es + 1; entries = map (moved ρ stage) es; sessions = sessions }

-- the new numbers of entries follow one another, from this one on
abbrev pub Counted : (ℕ → ℕ) → ℕ → List Entry → Type 0
Counted ρ k [] = Unit {0}
Counted ρ k (e ∷ es) = (ρ e.number ≡ k) × Counted ρ (k + 1) es

-- some entries of a tree, each behind its directory, and their new numbers
pub record IsPart (s : State) (ρ : ℕ → ℕ) (es : List Entry) : Type 0 where
  pub root : ρ 0 ≡ 0
  pub counted : Counted ρ 1 es
  pub from : AllByRecursion (λ e. entry_at s.entries e.number ≡ Some e) es
  pub rooted : AllByRecursion (λ e. Lives es e.parent) es
  pub within : (f : Entry → ℕ) → sum_by f es ≤ sum_by f s.entries

-- what has come of a body is no more than it, of its kind
pub record IsStage (made body : Body) : Type 0 where
  pub bytes : file_bytes made ≤ file_bytes body
  pub dirs : is_directory made ≡ is_directory body
  pub semantics : one_if is_queried made ≤ one_if is_queried body
  pub mounts : is_mount made ≡ false
  pub symlinks : is_symlink made ≡ is_symlink body
  pub items : is_linkable made ≡ is_linkable body
  pub documents : is_document made ≡ false

-- ---- numbers

pub counted-bounds : (ρ : ℕ → ℕ) (k : ℕ) (es : List Entry) (n : ℕ) (e : Entry) → Counted ρ k es → entry_at es n ≡ Some e → (k ≤ ρ n) × (ρ n < k + length es)
counted-bounds ρ k [] n e h found = absurd cc
counted-bounds ρ k (x ∷ es) n e h found =
    elim (x.number == n) as (λ b. (x.number == n) ≡ b → cond b (Some x) (entry_at es n) ≡ Some e → (k ≤ ρ n) × (ρ n < k + length (x ∷ es))) [
      | true ↦ (λ here found. let same : ρ x.number ≡ ρ n = ap ρ (eqb-true x.number n here) in let first : ρ x.number ≡ k = h.0 in (omega (arith, same, first), omega (arith, same, first)))
      | false ↦ (λ other found. let rest = counted-bounds ρ (k + 1) es n e h.1 found in let low : k + 1 ≤ ρ n = rest.0 in let high : ρ n < k + 1 + length es = rest.1 in (omega (arith, low), omega (arith, high)))
    ] refl found

-- the entry of a new number
pub entry_at-moved : (ρ : ℕ → ℕ) (stage : Entry → Body) (k : ℕ) (es : List Entry) (n : ℕ) (e : Entry) → Counted ρ k es → entry_at es n ≡ Some e → entry_at (map (moved ρ stage) es) (ρ n) ≡ Some (moved ρ stage e)
entry_at-moved ρ stage k [] n e h found = absurd cc
entry_at-moved ρ stage k (x ∷ es) n e h found =
    elim (x.number == n) as (λ b. (x.number == n) ≡ b → cond b (Some x) (entry_at es n) ≡ Some e → cond (ρ x.number == ρ n) (Some (moved ρ stage x)) (entry_at (map (moved ρ stage) es) (ρ n)) ≡ Some (moved ρ stage e)) [
      | true ↦ (λ here found.
          let same : x ≡ e = cc in
          ap (λ (b : Bool). cond b (Some (moved ρ stage x)) (entry_at (map (moved ρ stage) es) (ρ n))) (eq-eqb (ρ x.number) (ρ n) (ap ρ (eqb-true x.number n here)))
          ∙ ap (λ (y : Entry). Some (moved ρ stage y)) same)
      | false ↦ (λ other found.
          let low : k + 1 ≤ ρ n = (counted-bounds ρ (k + 1) es n e h.1 found).0 in
          let first : ρ x.number ≡ k = h.0 in
          ap (λ (b : Bool). cond b (Some (moved ρ stage x)) (entry_at (map (moved ρ stage) es) (ρ n))) (ne_eqb (ρ x.number) (ρ n) (λ same. omega (arith, low, first, same)))
          ∙ entry_at-moved ρ stage (k + 1) es n e h.1 found)
    ] refl found

-- numbers rise
pub moved-rise : (ρ : ℕ → ℕ) (stage : Entry → Body) (above k : ℕ) (es : List Entry) (next : ℕ) → above < k → k + length es ≤ next → Counted ρ k es → NumbersRise above (map (moved ρ stage) es) next
moved-rise ρ stage above k [] next low high h = omega (arith, low, high)
moved-rise ρ stage above k (e ∷ es) next low high h =
    let first : ρ e.number ≡ k = h.0 in
    let inside : k + length (e ∷ es) ≤ next = high in
    (omega (arith, first, low), moved-rise ρ stage (ρ e.number) (k + 1) es next (omega (arith, first)) (omega (arith, inside)) h.1)

-- an entry under a new number comes from one
pub moved-back : (ρ : ℕ → ℕ) (stage : Entry → Body) (k : ℕ) (es : List Entry) (m : ℕ) (f : Entry) → Counted ρ k es → entry_at (map (moved ρ stage) es) m ≡ Some f → (e : Entry) × (entry_at es e.number ≡ Some e) × (ρ e.number ≡ m) × (f ≡ moved ρ stage e)
moved-back ρ stage k [] m f h found = absurd cc
moved-back ρ stage k (x ∷ es) m f h found =
    elim (ρ x.number == m) as (λ b. (ρ x.number == m) ≡ b → cond b (Some (moved ρ stage x)) (entry_at (map (moved ρ stage) es) m) ≡ Some f → (e : Entry) × (entry_at (x ∷ es) e.number ≡ Some e) × (ρ e.number ≡ m) × (f ≡ moved ρ stage e)) [
      | true ↦ (λ here found. let same : f ≡ moved ρ stage x = cc in (x, entry_at-first x es, eqb-true (ρ x.number) m here, same))
      | false ↦ (λ other found.
          let rest = moved-back ρ stage (k + 1) es m f h.1 found in
          let e = rest.0 in
          let low : k + 1 ≤ ρ e.number = (counted-bounds ρ (k + 1) es e.number e h.1 rest.1).0 in
          let first : ρ x.number ≡ k = h.0 in
          (e, entry_at-behind x es e.number (λ same. let even : ρ x.number ≡ ρ e.number = ap ρ same in omega (arith, low, first, even)) ∙ rest.1, rest.2, rest.3))
    ] refl found

module _ (s : State) (ρ : ℕ → ℕ) (stage : Entry → Body) (sessions : List Session) (es : List Entry) (h : IsLayout s) (p : IsPart s ρ es) (fits : AllByRecursion (λ e. IsStage (stage e) e.body) es) where
  abbrev u : State
  u = part ρ stage sessions es

  -- what is made is in the tree
  pub made-there : (n : ℕ) (e : Entry) → entry_at es n ≡ Some e → entry_at s.entries n ≡ Some e
  made-there n e found =
      ap (entry_at s.entries) (sym (entry_at-number es n e found)) ∙ entry_at-all (λ e. entry_at s.entries e.number ≡ Some e) es n e p.from found

  pub made-entry : (n : ℕ) (e : Entry) → entry_at es n ≡ Some e → entry_at u.entries (ρ n) ≡ Some (moved ρ stage e)
  made-entry n e found = entry_at-moved ρ stage 1 es n e p.counted found

  pub made-root : entry_at u.entries 0 ≡ None
  made-root = entry_at-low 0 u.entries u.next 0 (moved-rise ρ stage 0 1 es u.next (omega arith) (omega arith) p.counted) (omega arith)

  pub made-parent : (n : ℕ) (e : Entry) → entry_at es n ≡ Some e → Lives es e.parent
  made-parent n e found = entry_at-all (λ e. Lives es e.parent) es n e p.rooted found

  made-fits : (n : ℕ) (e : Entry) → entry_at es n ≡ Some e → IsStage (stage e) e.body
  made-fits n e found = entry_at-all (λ e. IsStage (stage e) e.body) es n e fits found

  -- a test of bodies that tells the same of what has come of them
  made-test : (test : Body → Bool) → ((made body : Body) → IsStage made body → test made ≡ test body) → (n : ℕ) → Lives es n → option_map_or test (option_map (λ (e : Entry). e.body) (entry_at u.entries (ρ n))) false ≡ option_map_or test (option_map (λ (e : Entry). e.body) (entry_at s.entries n)) false
  made-test test same n (inl root) =
      ap (λ (o : Option Entry). option_map_or test (option_map (λ (e : Entry). e.body) o) false) (ap (λ (k : ℕ). entry_at u.entries (ρ k)) root ∙ ap (entry_at u.entries) p.root ∙ made-root)
      ∙ sym (ap (λ (o : Option Entry). option_map_or test (option_map (λ (e : Entry). e.body) o) false) (ap (entry_at s.entries) root ∙ root-none s h))
  made-test test same n (inr (e, found)) =
      ap (λ (o : Option Entry). option_map_or test (option_map (λ (e : Entry). e.body) o) false) (made-entry n e found)
      ∙ same (stage e) e.body (made-fits n e found)
      ∙ sym (ap (λ (o : Option Entry). option_map_or test (option_map (λ (e : Entry). e.body) o) false) (made-there n e found))

  pub lives-zero : (n : ℕ) → Lives es n → (ρ n == 0) ≡ (n == 0)
  lives-zero n (inl root) = ap (λ (k : ℕ). ρ k == 0) root ∙ ap (λ (k : ℕ). k == 0) p.root ∙ sym (ap (λ (k : ℕ). k == 0) root)
  lives-zero n (inr (e, found)) =
      let low : 1 ≤ ρ n = (counted-bounds ρ 1 es n e p.counted found).0 in
      ne_eqb (ρ n) 0 (λ same. omega (arith, low, same))
      ∙ sym (ne_eqb n 0 (λ same. let none : None ≡ Some e = sym (ap (entry_at s.entries) same ∙ root-none s h) ∙ made-there n e found in absurd cc))

  -- a directory is one
  pub made-directory : (n : ℕ) → Lives es n → is_directory_at u.entries (ρ n) ≡ is_directory_at s.entries n
  made-directory n lives = λ i. lives-zero n lives i || made-test is_directory (λ made body k. k.dirs) n lives i

  pub made-symlink : (n : ℕ) → Lives es n → is_symlink_at u.entries (ρ n) ≡ is_symlink_at s.entries n
  made-symlink n lives = made-test is_symlink (λ made body k. k.symlinks) n lives

  pub made-no_mount : (n : ℕ) → Lives es n → is_mount_at u.entries (ρ n) ≡ false
  made-no_mount n (inl root) = ap (λ (o : Option Entry). option_map_or is_mount (option_map (λ (e : Entry). e.body) o) false) (ap (λ (k : ℕ). entry_at u.entries (ρ k)) root ∙ ap (entry_at u.entries) p.root ∙ made-root)
  made-no_mount n (inr (e, found)) = ap (λ (o : Option Entry). option_map_or is_mount (option_map (λ (e : Entry). e.body) o) false) (made-entry n e found) ∙ (made-fits n e found).mounts

  pub made-no_document : (n : ℕ) → Lives es n → is_document_at u.entries (ρ n) ≡ false
  made-no_document n (inl root) = ap (λ (o : Option Entry). option_map_or is_document (option_map (λ (e : Entry). e.body) o) false) (ap (λ (k : ℕ). entry_at u.entries (ρ k)) root ∙ ap (entry_at u.entries) p.root ∙ made-root)
  made-no_document n (inr (e, found)) = ap (λ (o : Option Entry). option_map_or is_document (option_map (λ (e : Entry). e.body) o) false) (made-entry n e found) ∙ (made-fits n e found).documents

  pub made-lives : (n : ℕ) → Lives es n → Lives u.entries (ρ n)
  made-lives n (inl root) = inl (ap ρ root ∙ p.root)
  made-lives n (inr (e, found)) = inr (moved ρ stage e, made-entry n e found)

  -- the path of what is made is its path in the tree
  pub made-path : IsLayout u → (n : ℕ) → Lives s.entries n → Lives es n → path_of u (ρ n) ≡ path_of s n
  made-path layout n lives made = from_root s (λ n. Lives es n → path_of u (ρ n) ≡ path_of s n) h
      (λ _. ap (path_of u) p.root ∙ path_of-root u layout ∙ sym (path_of-root s h)) step n lives made
    where
      step : (n : ℕ) (e : Entry) → entry_at s.entries n ≡ Some e → (Lives es e.parent → path_of u (ρ e.parent) ≡ path_of s e.parent) → Lives es n → path_of u (ρ n) ≡ path_of s n
      step n e found known (inl root) = let none : None ≡ Some e = sym (ap (entry_at s.entries) root ∙ root-none s h) ∙ found in absurd cc
      step n e found known (inr (f, made)) =
          let same : f ≡ e = (let even : Some f ≡ Some e = sym (made-there n f made) ∙ found in cc) in
          let here : entry_at es n ≡ Some e = made ∙ ap (λ (y : Entry). Some y) same in
          path_of-parent u (ρ n) (moved ρ stage e) layout (made-entry n e here)
          ∙ ap (λ (path : List (List ℕ)). path ++ e.name ∷ []) (known (made-parent n e here))
          ∙ sym (path_of-parent s n e h found)

  -- ---- limits

  made-ancestors : (k n : ℕ) → Lives es n → length (ancestors k u.entries (ρ n)) ≡ length (ancestors k s.entries n)
  made-ancestors zero n lives = refl
  made-ancestors (suc k) n (inl root) =
      ap (λ (l : List Entry). length l) (ancestors-none (suc k) u.entries (ρ n) (ap (λ (k : ℕ). entry_at u.entries (ρ k)) root ∙ ap (entry_at u.entries) p.root ∙ made-root))
      ∙ sym (ap (λ (l : List Entry). length l) (ancestors-none (suc k) s.entries n (ap (entry_at s.entries) root ∙ root-none s h)))
  made-ancestors (suc k) n (inr (e, found)) =
      ap (λ (l : List Entry). length l) (ancestors-step k u.entries (ρ n) (moved ρ stage e) (made-entry n e found))
      ∙ ap (λ (j : ℕ). suc j) (made-ancestors k e.parent (made-parent n e found))
      ∙ sym (ap (λ (l : List Entry). length l) (ancestors-step k s.entries n e (made-there n e found)))

  made-short : (rest : List Entry) → AllByRecursion (λ e. entry_at es e.number ≡ Some e) rest → list_all (has_short_path u.entries) (map (moved ρ stage) rest) ≡ true
  made-short [] there = refl
  made-short (e ∷ rest) there =
      and_from (has_short_path u.entries (moved ρ stage e)) (list_all (has_short_path u.entries) (map (moved ρ stage) rest)) one (made-short rest there.1)
    where
      old : length (lineage s.entries e.number) + names_below e.body ≤ PATH_LIMIT
      old = leb-true (length (lineage s.entries e.number) + names_below e.body) PATH_LIMIT (path-fits s e.number e h (made-there e.number e there.0))

      even : length (lineage u.entries (ρ e.number)) ≡ length (lineage s.entries e.number)
      even =
          ap (λ (l : List Entry). length l) (lineage-is u.entries (ρ e.number))
          ∙ made-ancestors (suc limit) e.number (inr (e, there.0))
          ∙ sym (ap (λ (l : List Entry). length l) (lineage-is s.entries e.number))

      below : names_below (stage e) ≡ 0
      below = ap (λ (b : Bool). cond {A = ℕ} b 1 0) (made-fits e.number e there.0).mounts

      one : has_short_path u.entries (moved ρ stage e) ≡ true
      one = le-leb (length (lineage u.entries (ρ e.number)) + names_below (stage e)) PATH_LIMIT (omega (arith, old, even, below))

  -- each entry is found by its number
  pub made-own : (k : ℕ) (rest : List Entry) → Counted ρ k rest → AllByRecursion (λ e. entry_at rest e.number ≡ Some e) rest
  made-own k [] c = tt
  made-own k (e ∷ rest) c = (entry_at-first e rest, behind rest (k + 1) (omega arith) c.1 (made-own (k + 1) rest c.1))
    where
      behind : (more : List Entry) (j : ℕ) → k < j → Counted ρ j more → AllByRecursion (λ x. entry_at rest x.number ≡ Some x) more → AllByRecursion (λ x. entry_at (e ∷ rest) x.number ≡ Some x) more
      behind [] j low d there = tt
      behind (x ∷ more) j low d there =
          let first : ρ e.number ≡ k = c.0 in
          let here : ρ x.number ≡ j = d.0 in (
            entry_at-behind e rest x.number (λ same. let even : ρ e.number ≡ ρ x.number = ap ρ same in omega (arith, low, first, here, even)) ∙ there.0,
            behind more (j + 1) (omega (arith, low)) d.1 there.1,
          )

  made-less : (f : Body → ℕ) → ((made body : Body) → IsStage made body → f made ≤ f body) → measured f u.entries ≤ measured f s.entries
  made-less f less = omega (arith, each es fits, p.within (λ (e : Entry). f e.body))
    where
      each : (rest : List Entry) → AllByRecursion (λ e. IsStage (stage e) e.body) rest → measured f (map (moved ρ stage) rest) ≤ measured f rest
      each [] fits = omega arith
      each (e ∷ rest) fits =
          omega (arith, measured-cons f (moved ρ stage e) (map (moved ρ stage) rest), measured-cons f e rest, less (stage e) e.body fits.0, each rest fits.1)

  one-same : (test : Body → Bool) (made body : Body) → test made ≡ test body → one_if test made ≤ one_if test body
  one-same test made body same = let even : one_if test made ≡ one_if test body = ap (λ (b : Bool). cond {A = ℕ} b 1 0) same in omega (arith, even)

  none-mounted : (rest : List Entry) → AllByRecursion (λ e. IsStage (stage e) e.body) rest → measured (one_if is_mount) (map (moved ρ stage) rest) ≡ 0
  none-mounted [] fits = refl
  none-mounted (e ∷ rest) fits =
      let first : one_if is_mount (stage e) ≡ 0 = ap (λ (b : Bool). cond {A = ℕ} b 1 0) fits.0.mounts in
      omega (arith, measured-cons (one_if is_mount) (moved ρ stage e) (map (moved ρ stage) rest), first, none-mounted rest fits.1)

  made-fewer : length es + 1 ≤ s.next
  made-fewer = omega (arith, p.within (λ (e : Entry). 1), ones es, ones s.entries, rising 0 s.entries s.next h.numbers)
    where
      ones : (rest : List Entry) → sum_by (λ (e : Entry). 1) rest ≡ length rest
      ones [] = refl
      ones (e ∷ rest) = omega (arith, measured-cons (λ (b : Body). 1) e rest, ones rest)

      rising : (above : ℕ) (rest : List Entry) (next : ℕ) → NumbersRise above rest next → above + length rest < next
      rising above [] next h = omega (arith, h)
      rising above (e ∷ rest) next h = let first : above < e.number = h.0 in omega (arith, first, rising e.number rest next h.1)

  lesser : (most m n : ℕ) → m ≤ n → nat_lt most n ≡ false → nat_lt most m ≡ false
  lesser most m n less within = let high : n ≤ most = ltb-false most n within in le-ltb most m (omega arith)

  -- what is made passes no limit
  pub made-within : passed_limit u ≡ None
  made-within =
      let old : IsWithinLimits s = limits-within s h.limits in
      limits-none u (record {
        texts = lesser TEXTS_LIMIT (text_size u.entries) (text_size s.entries) (made-less file_bytes (λ made body k. k.bytes)) old.texts;
        dirs = lesser DIRS_LIMIT (directory_count u.entries) (directory_count s.entries)
            (omega (arith, made-less (one_if is_directory) (λ made body k. one-same is_directory made body k.dirs), directory_count-is s.entries, directory_count-is u.entries)) (most-dirs s old);
        semantics = lesser SEMANTICS_LIMIT (semantic_count u.entries) (semantic_count s.entries) (made-less (one_if is_queried) (λ made body k. k.semantics)) old.semantics;
        mounts = ap (λ (k : ℕ). nat_lt MOUNTS_LIMIT k) (none-mounted es fits);
        symlinks = lesser SYMLINKS_LIMIT (symlink_count u.entries) (symlink_count s.entries) (made-less (one_if is_symlink) (λ made body k. one-same is_symlink made body k.symlinks)) (most-symlinks s old);
        paths = made-short es (made-own 1 es p.counted);
        items = lesser ITEMS_LIMIT (item_count u.entries) (item_count s.entries) (made-less (one_if is_linkable) (λ made body k. one-same is_linkable made body k.items)) old.items;
        numbers = lesser NUMBERS_LIMIT u.next s.next made-fewer (most-numbers s old);
      })

  -- it keeps no answers
  pub made-few : are_answers_few u.entries ≡ true
  made-few = few-less [] u.entries (omega (arith, none documents_kept (λ body k. documents body k) es fits)) (omega (arith, none answers_kept (λ body k. answers body k) es fits)) refl
    where
      answers : (body : Body) → is_mount body ≡ false → answers_kept body ≡ 0
      answers (Mount space kept) h = absurd cc
      answers other h = refl

      documents : (body : Body) → is_mount body ≡ false → documents_kept body ≡ 0
      documents (Mount space kept) h = absurd cc
      documents other h = refl

      none : (f : Body → ℕ) → ((body : Body) → is_mount body ≡ false → f body ≡ 0) → (rest : List Entry) → AllByRecursion (λ e. IsStage (stage e) e.body) rest → measured f (map (moved ρ stage) rest) ≡ 0
      none f zero-of [] fits = refl
      none f zero-of (e ∷ rest) fits = omega (arith, measured-cons f (moved ρ stage e) (map (moved ρ stage) rest), zero-of (stage e) fits.0.mounts, none f zero-of rest fits.1)

  -- what is to be made next isn't there yet
  pub made-empty : IsLayout u → (e : Entry) → entry_at s.entries e.number ≡ Some e → Lives es e.parent → entry_at es e.number ≡ None → child u.entries (ρ e.parent) e.name ≡ None
  made-empty layout e found parent new = at (child u.entries (ρ e.parent) e.name) refl
    where
      at : (o : Option ℕ) → child u.entries (ρ e.parent) e.name ≡ o → o ≡ None
      at None is = refl
      at (Some m) is =
          let there = child-entry 0 u.entries u.next (ρ e.parent) m e.name layout.numbers is in
          let f = moved-back ρ stage 1 es m there.0 p.counted there.1 in
          let here : entry_at s.entries f.0.number ≡ Some f.0 = made-there f.0.number f.0 f.1 in
          let one : path_of u m ≡ path_of s f.0.number = ap (path_of u) (sym f.2) ∙ made-path layout f.0.number (inr (f.0, here)) (inr (f.0, f.1)) in
          let other : path_of u m ≡ path_of s e.number =
          path_of-parent u m there.0 layout there.1
          ∙ (λ i. path_of u (there.2 i) ++ there.3 i ∷ [])
          ∙ ap (λ (path : List (List ℕ)). path ++ e.name ∷ []) (made-path layout e.parent (parent-lives s e.number e h found) parent)
          ∙ sym (path_of-parent s e.number e h found) in
          let same : f.0.number ≡ e.number = path_of-one s f.0.number e.number h (inr (f.0, here)) (inr (e, found)) (sym one ∙ other) in
          let never : Some f.0 ≡ None = sym f.1 ∙ ap (entry_at es) same ∙ new in
          absurd cc

-- ---- a whole order of making

-- each entry lies in the root or in one before it
abbrev pub Rooted : List Entry → List Entry → Type 0
Rooted before [] = Unit {0}
Rooted before (e ∷ es) = Lives before e.parent × Rooted (before ++ e ∷ []) es

-- an order in which the entries of a tree can be made, and their new numbers
pub record IsOrder (s : State) (ρ : ℕ → ℕ) (order : List Entry) : Type 0 where
  pub root : ρ 0 ≡ 0
  pub counted : Counted ρ 1 order
  pub from : AllByRecursion (λ e. entry_at s.entries e.number ≡ Some e) order
  pub rooted : Rooted [] order
  pub sums : (f : Entry → ℕ) → sum_by f order ≤ sum_by f s.entries

pub entry-more : (es fs : List Entry) (n : ℕ) (e : Entry) → entry_at es n ≡ Some e → entry_at (es ++ fs) n ≡ Some e
entry-more [] fs n e found = absurd cc
entry-more (x ∷ es) fs n e found = elim (x.number == n) as (λ b. cond b (Some x) (entry_at es n) ≡ Some e → cond b (Some x) (entry_at (es ++ fs) n) ≡ Some e) [
  | true ↦ (λ found. found)
  | false ↦ (λ found. entry-more es fs n e found)
] found

pub lives-more : (es fs : List Entry) (n : ℕ) → Lives es n → Lives (es ++ fs) n
lives-more es fs n (inl root) = inl root
lives-more es fs n (inr (e, found)) = inr (e, entry-more es fs n e found)

counted-front : (ρ : ℕ → ℕ) (k : ℕ) (es fs : List Entry) → Counted ρ k (es ++ fs) → Counted ρ k es
counted-front ρ k [] fs h = tt
counted-front ρ k (e ∷ es) fs h = (h.0, counted-front ρ (k + 1) es fs h.1)

counted-next : (ρ : ℕ → ℕ) (k : ℕ) (es : List Entry) (e : Entry) (fs : List Entry) → Counted ρ k (es ++ e ∷ fs) → ρ e.number ≡ k + length es
counted-next ρ k [] e fs h = let first : ρ e.number ≡ k = h.0 in omega (arith, first)
counted-next ρ k (x ∷ es) e fs h = omega (arith, counted-next ρ (k + 1) es e fs h.1)

all-front : (P : Entry → Type 0) (es fs : List Entry) → AllByRecursion P (es ++ fs) → AllByRecursion P es
all-front P [] fs h = tt
all-front P (e ∷ es) fs h = (h.0, all-front P es fs h.1)

all-next : (P : Entry → Type 0) (es : List Entry) (e : Entry) (fs : List Entry) → AllByRecursion P (es ++ e ∷ fs) → P e
all-next P [] e fs h = h.0
all-next P (x ∷ es) e fs h = all-next P es e fs h.1

rooted-front : (before es fs : List Entry) → Rooted before (es ++ fs) → Rooted before es
rooted-front before [] fs h = tt
rooted-front before (e ∷ es) fs h = (h.0, rooted-front (before ++ e ∷ []) es fs h.1)

rooted-next : (before es : List Entry) (e : Entry) (fs : List Entry) → Rooted before (es ++ e ∷ fs) → Lives (before ++ es) e.parent
rooted-next before [] e fs h = subst (λ (l : List Entry). Lives l e.parent) (sym (append-nil before)) h.0
rooted-next before (x ∷ es) e fs h = subst (λ (l : List Entry). Lives l e.parent) (append_assoc before (x ∷ []) es) (rooted-next (before ++ x ∷ []) es e fs h.1)

rooted-all : (before es : List Entry) → Rooted before es → AllByRecursion (λ e. Lives (before ++ es) e.parent) es
rooted-all before [] h = tt
rooted-all before (e ∷ es) h = (
  lives-more before (e ∷ es) e.parent h.0,
  subst (λ (l : List Entry). AllByRecursion (λ x. Lives l x.parent) es) (append_assoc before (e ∷ []) es) (rooted-all (before ++ e ∷ []) es h.1),
)

sums-front : (f : Entry → ℕ) (es fs : List Entry) → sum_by f es ≤ sum_by f (es ++ fs)
sums-front f [] fs = omega arith
sums-front f (e ∷ es) fs = omega (arith, sum_by-cons f e es, sum_by-cons f e (es ++ fs), sums-front f es fs)

-- what was made first is a part of the tree
pub order-part : (s : State) (ρ : ℕ → ℕ) (es fs : List Entry) → IsOrder s ρ (es ++ fs) → IsPart s ρ es
order-part s ρ es fs o = record {
  root = o.root;
  counted = counted-front ρ 1 es fs o.counted;
  from = all-front (λ e. entry_at s.entries e.number ≡ Some e) es fs o.from;
  rooted = rooted-all [] es (rooted-front [] es fs o.rooted);
  within = λ f. omega (arith, sums-front f es fs, o.sums f);
}

-- and of what comes next these are known
pub record IsNext (s : State) (ρ : ℕ → ℕ) (es : List Entry) (e : Entry) : Type 0 where
  pub number : ρ e.number ≡ 1 + length es
  pub there : entry_at s.entries e.number ≡ Some e
  pub parent : Lives es e.parent

pub order-next : (s : State) (ρ : ℕ → ℕ) (es : List Entry) (e : Entry) (fs : List Entry) → IsOrder s ρ (es ++ e ∷ fs) → IsNext s ρ es e
order-next s ρ es e fs o = record {
  number = counted-next ρ 1 es e fs o.counted;
  there = all-next (λ e. entry_at s.entries e.number ≡ Some e) es e fs o.from;
  parent = rooted-next [] es e fs o.rooted;
}

pub next-new : (s : State) (ρ : ℕ → ℕ) (es : List Entry) (e : Entry) → IsPart s ρ es → IsNext s ρ es e → entry_at es e.number ≡ None
next-new s ρ es e p n = at (entry_at es e.number) refl
  where
    at : (o : Option Entry) → entry_at es e.number ≡ o → o ≡ None
    at None is = refl
    at (Some x) is = let high : ρ e.number < 1 + length es = (counted-bounds ρ 1 es e.number x p.counted is).1 in absurd (omega (arith, high, n.number))

-- every body has come to something that is no more than it
abbrev pub Stages : State → (Entry → Body) → Type 0
Stages s stage = (e : Entry) → entry_at s.entries e.number ≡ Some e → IsStage (stage e) e.body

pub stages-all : (s : State) (stage : Entry → Body) (es : List Entry) → Stages s stage → AllByRecursion (λ e. entry_at s.entries e.number ≡ Some e) es → AllByRecursion (λ e. IsStage (stage e) e.body) es
stages-all s stage [] h from = tt
stages-all s stage (e ∷ es) h from = (h e from.0, stages-all s stage es h from.1)

-- one more is made
pub part-added : (ρ : ℕ → ℕ) (stage : Entry → Body) (sessions : List Session) (es : List Entry) (e : Entry) → ρ e.number ≡ 1 + length es →
    added (part ρ stage sessions es) (ρ e.parent) e.name (stage e) ≡ part ρ stage sessions (es ++ e ∷ [])
part-added ρ stage sessions es e number = λ i. record { version = Two; next = next i; entries = entries i; sessions = sessions }
  where
    mapped : (es : List Entry) → map (moved ρ stage) (es ++ e ∷ []) ≡ map (moved ρ stage) es ++ moved ρ stage e ∷ []
    mapped [] = refl
    mapped (x ∷ es) = ap (λ (l : List Entry). moved ρ stage x ∷ l) (mapped es)

    next : length es + 1 + 1 ≡ length (es ++ e ∷ []) + 1
    next = omega (arith, length-append es (e ∷ []))

    entries : map (moved ρ stage) es ++ record { number = length es + 1; parent = ρ e.parent; name = e.name; body = stage e } ∷ [] ≡ map (moved ρ stage) (es ++ e ∷ [])
    entries =
        ap (λ (k : ℕ). map (moved ρ stage) es ++ record { number = k; parent = ρ e.parent; name = e.name; body = stage e } ∷ []) (let same : length es + 1 ≡ ρ e.number = omega (arith, number) in same)
        ∙ sym (mapped es)
