-- The counts of a state after an event, from those before it.
use Rattle.std.proofs.Common.{◌≡◌, ℕ, ◌+◌, ◌<◌, ◌≤◌, Bool, true, false, cond, List, [], ◌∷◌, ◌++◌, refl, ap, ◌∙◌, arith}
use Rattle.std.specs.Prelude.{◌==◌, ◌||◌, not, filter, sum_by, Some, is_some}
use Rattle.std.proofs.lemmas.Bool.{eqb-true, ne_eqb}
use Rattle.std.proofs.lemmas.List.Sums.{sum_by-cons, sum_by_push}
use Rattle.hac_model.specs.Tree.Events.{changed_in, changed_at, edited, indexed, reseated, rewritten}
use Rattle.hac_model.specs.Tree.Limits.{directory_count, dirty_count, item_count, mount_count, semantic_count, symlink_count, text_size, file_bytes}
use Rattle.hac_model.specs.Tree.{entry_at, is_directory, is_dirty, is_linkable, is_mount, is_queried, is_symlink}
use Rattle.hac_model.specs.Tree.Valid.{NumbersRise}
use Rattle.hac_model.specs.declared.states.Body.{Body}
use Rattle.hac_model.specs.declared.states.Body.TheVariants.{File}
use Rattle.hac_model.specs.declared.states.Entry.{Entry}
use Rattle.hac_model.specs.declared.states.State.{State}
use Rattle.hac_model.proofs.ChangeLemmas.{changed-low, is_kept, touched}
use Rattle.hac_model.proofs.KindLemmas.{KeepsKind, keeps-role, keeps-directory, keeps-item, keeps-mount, keeps-queried, keeps-symlink}

-- a measure of bodies, summed over the entries
abbrev pub measured : (Body → ℕ) → List Entry → ℕ
measured f es = sum_by (λ (e : Entry). f e.body) es

-- one where the body passes
abbrev pub one_if : (Body → Bool) → Body → ℕ
one_if test body = cond {A = ℕ} (test body) 1 0

pub measured-cons : (f : Body → ℕ) (e : Entry) (es : List Entry) → measured f (e ∷ es) ≡ f e.body + measured f es
measured-cons f e es = sum_by-cons (λ (e : Entry). f e.body) e es

pub measured-added : (f : Body → ℕ) (es : List Entry) (e : Entry) → measured f (es ++ e ∷ []) ≡ measured f es + f e.body
measured-added f es e = sum_by_push (λ (e : Entry). f e.body) es e

-- the measure after a change of one entry
pub measured-changed : (f : Body → ℕ) (n : ℕ) (change : Entry → Entry) (above : ℕ) (es : List Entry) (next : ℕ) (e : Entry) → NumbersRise above es next → entry_at es n ≡ Some e → measured f (changed_in n change es) + f e.body ≡ measured f es + f (change e).body
measured-changed f n change above [] next e h found = absurd cc
measured-changed f n change above (x ∷ es) next e h found =
    elim (x.number == n) as (λ b. (x.number == n) ≡ b → cond b (Some x) (entry_at es n) ≡ Some e → measured f (cond b (change x) x ∷ changed_in n change es) + f e.body ≡ measured f (x ∷ es) + f (change e).body) [
      | true ↦ (λ here found.
          let same : x ≡ e = cc in
          let low : n ≤ x.number = (let number : x.number ≡ n = eqb-true x.number n here in omega arith) in
          let rest : measured f (changed_in n change es) ≡ measured f es = ap (measured f) (changed-low n change x.number es next h.1 low) in
          let old : f x.body ≡ f e.body = ap (λ (y : Entry). f y.body) same in
          let new : f (change x).body ≡ f (change e).body = ap (λ (y : Entry). f (change y).body) same in
          omega (arith, measured-cons f (change x) (changed_in n change es), measured-cons f x es, rest, old, new))
      | false ↦ (λ other found. omega (arith, measured-cons f x (changed_in n change es), measured-cons f x es, measured-changed f n change x.number es next e h.1 found))
    ] refl found

-- a change that leaves the measure of each entry leaves that of all
pub measured-same : (f : Body → ℕ) (n : ℕ) (change : Entry → Entry) (es : List Entry) → ((e : Entry) → f (change e).body ≡ f e.body) → measured f (changed_in n change es) ≡ measured f es
measured-same f n change [] same = refl
measured-same f n change (e ∷ es) same =
    let here : f (touched n change e).body ≡ f e.body = elim (e.number == n) as (λ b. f (cond b (change e) e).body ≡ f e.body) [ true ↦ same e | false ↦ refl ] in
    omega (arith, measured-cons f (touched n change e) (changed_in n change es), measured-cons f e es, here, measured-same f n change es same)

-- one that makes none greater makes the sum no greater
pub measured-less : (f : Body → ℕ) (n : ℕ) (change : Entry → Entry) (es : List Entry) → ((e : Entry) → f (change e).body ≤ f e.body) → measured f (changed_in n change es) ≤ measured f es
measured-less f n change [] less = omega arith
measured-less f n change (e ∷ es) less =
    let here : f (touched n change e).body ≤ f e.body = elim (e.number == n) as (λ b. f (cond b (change e) e).body ≤ f e.body) [ true ↦ less e | false ↦ omega arith ] in
    omega (arith, measured-cons f (touched n change e) (changed_in n change es), measured-cons f e es, here, measured-less f n change es less)

-- a number that no entry has takes none away
pub kept-low : (n above : ℕ) (es : List Entry) (next : ℕ) → NumbersRise above es next → n ≤ above → filter (is_kept n) es ≡ es
kept-low n above [] next h low = refl
kept-low n above (e ∷ es) next h low =
    let first : above < e.number = h.0 in
    let head : (e.number == n) ≡ false = ne_eqb e.number n (λ same. omega arith) in
    ap (λ (b : Bool). cond (not b) (e ∷ filter (is_kept n) es) (filter (is_kept n) es)) head ∙ ap (λ (rest : List Entry). e ∷ rest) (kept-low n e.number es next h.1 (omega arith))

-- the measure after one entry went
pub measured-removed : (f : Body → ℕ) (n above : ℕ) (es : List Entry) (next : ℕ) (e : Entry) → NumbersRise above es next → entry_at es n ≡ Some e → measured f (filter (is_kept n) es) + f e.body ≡ measured f es
measured-removed f n above [] next e h found = absurd cc
measured-removed f n above (x ∷ es) next e h found =
    elim (x.number == n) as (λ b. (x.number == n) ≡ b → cond b (Some x) (entry_at es n) ≡ Some e → measured f (cond (not b) (x ∷ filter (is_kept n) es) (filter (is_kept n) es)) + f e.body ≡ measured f (x ∷ es)) [
      | true ↦ (λ here found.
          let same : x ≡ e = cc in
          let low : n ≤ x.number = (let number : x.number ≡ n = eqb-true x.number n here in omega arith) in
          let rest : measured f (filter (is_kept n) es) ≡ measured f es = ap (measured f) (kept-low n x.number es next h.1 low) in
          let old : f x.body ≡ f e.body = ap (λ (y : Entry). f y.body) same in
          omega (arith, measured-cons f x es, rest, old))
      | false ↦ (λ other found. omega (arith, measured-cons f x (filter (is_kept n) es), measured-cons f x es, measured-removed f n x.number es next e h.1 found))
    ] refl found

-- and it isn't greater whatever went
pub measured-fewer : (f : Body → ℕ) (n : ℕ) (es : List Entry) → measured f (filter (is_kept n) es) ≤ measured f es
measured-fewer f n [] = omega arith
measured-fewer f n (e ∷ es) =
    elim (is_kept n e) as (λ b. measured f (cond b (e ∷ filter (is_kept n) es) (filter (is_kept n) es)) ≤ measured f (e ∷ es)) [
      | true ↦ omega (arith, measured-cons f e (filter (is_kept n) es), measured-cons f e es, measured-fewer f n es)
      | false ↦ omega (arith, measured-cons f e es, measured-fewer f n es)
    ]

-- each entry's measure is within the sum
pub measured-holds : (f : Body → ℕ) (es : List Entry) (n : ℕ) (e : Entry) → entry_at es n ≡ Some e → f e.body ≤ measured f es
measured-holds f [] n e found = absurd cc
measured-holds f (x ∷ es) n e found =
    elim (x.number == n) as (λ b. cond b (Some x) (entry_at es n) ≡ Some e → f e.body ≤ measured f (x ∷ es)) [
      | true ↦ (λ found. let same : x ≡ e = cc in let here : f x.body ≡ f e.body = ap (λ (y : Entry). f y.body) same in omega (arith, measured-cons f x es, here))
      | false ↦ (λ found. omega (arith, measured-cons f x es, measured-holds f es n e found))
    ] found

-- The four counts of a state are such measures.

pub directory_count-is : (es : List Entry) → directory_count es ≡ measured (one_if is_directory) es + 1
directory_count-is es = refl

pub dirty_count-is : (es : List Entry) → dirty_count es ≡ measured (one_if is_dirty) es
dirty_count-is es = refl

-- After a body was edited counts of kinds stay where the edit keeps the kind.

pub directory_count-edited : (s : State) (n : ℕ) (edit : Body → Body) → KeepsKind edit → directory_count (changed_at s n (edited edit)).entries ≡ directory_count s.entries
directory_count-edited s n edit keeps = ap (λ (k : ℕ). k + 1) (measured-same (one_if is_directory) n (edited edit) s.entries (λ e. ap (λ (b : Bool). cond {A = ℕ} b 1 0) (keeps-directory edit (keeps-role edit keeps) e.body)))

pub semantic_count-edited : (s : State) (n : ℕ) (edit : Body → Body) → KeepsKind edit → semantic_count (changed_at s n (edited edit)).entries ≡ semantic_count s.entries
semantic_count-edited s n edit keeps = measured-same (one_if is_queried) n (edited edit) s.entries (λ e. ap (λ (b : Bool). cond {A = ℕ} b 1 0) (keeps-queried edit keeps e.body))

pub symlink_count-edited : (s : State) (n : ℕ) (edit : Body → Body) → KeepsKind edit → symlink_count (changed_at s n (edited edit)).entries ≡ symlink_count s.entries
symlink_count-edited s n edit keeps = measured-same (one_if is_symlink) n (edited edit) s.entries (λ e. ap (λ (b : Bool). cond {A = ℕ} b 1 0) (keeps-symlink edit (keeps-role edit keeps) e.body))

pub mount_count-edited : (s : State) (n : ℕ) (edit : Body → Body) → KeepsKind edit → mount_count (changed_at s n (edited edit)).entries ≡ mount_count s.entries
mount_count-edited s n edit keeps = measured-same (one_if is_mount) n (edited edit) s.entries (λ e. ap (λ (b : Bool). cond {A = ℕ} b 1 0) (keeps-mount edit (keeps-role edit keeps) e.body))

pub item_count-edited : (s : State) (n : ℕ) (edit : Body → Body) → KeepsKind edit → item_count (changed_at s n (edited edit)).entries ≡ item_count s.entries
item_count-edited s n edit keeps = measured-same (one_if is_linkable) n (edited edit) s.entries (λ e. ap (λ (b : Bool). cond {A = ℕ} b 1 0) (keeps-item edit (keeps-role edit keeps) e.body))

-- a text that is shown weighs no more than before
pub indexed-lighter : (body : Body) → file_bytes (indexed body) ≤ file_bytes body
indexed-lighter (File text dirty shown) = grind arith
indexed-lighter other = omega arith

pub text_size-indexed : (s : State) (n : ℕ) → text_size (changed_at s n (edited indexed)).entries ≤ text_size s.entries
text_size-indexed s n = measured-less file_bytes n (edited indexed) s.entries (λ e. indexed-lighter e.body)

-- After an entry went to another place all counts are as before.

pub measured-reseated : (f : Body → ℕ) (s : State) (n dir : ℕ) (name : List ℕ) → measured f (changed_at s n (reseated dir name)).entries ≡ measured f s.entries
measured-reseated f s n dir name = measured-same f n (reseated dir name) s.entries (λ e. refl)

-- After an entry was removed each count is less by what it was.
