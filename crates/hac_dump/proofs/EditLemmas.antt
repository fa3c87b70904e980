-- What has come of one entry changes.
use Rattle.std.proofs.Common.{◌≡◌, ℕ, zero, suc, ◌+◌, ◌<◌, ◌≤◌, Bool, true, false, cond, List, [], ◌∷◌, ◌++◌, length, map, subst, refl, ap, sym, ◌∙◌, arith, eq-eqb, append_assoc}
use Rattle.std.specs.Prelude.{◌==◌, filter, if◌then◌else◌, replicate, Option, Some}
use Rattle.std.specs.List.{AllByRecursion}
use Rattle.std.specs.Option.{option_map_or}
use Rattle.std.proofs.lemmas.Bool.{eqb-true, eqb-false, ne_eqb}
use Rattle.hac_model.specs.Tree.Events.{apply_all, changed_at, changed_in, dirty, edited, indexed, next_dirty}
use Rattle.hac_model.specs.Tree.Limits.{dirty_count}
use Rattle.hac_model.specs.Tree.Sessions.{is_stored}
use Rattle.hac_model.specs.Tree.{entry_at, is_dirty}
use Rattle.hac_model.specs.Tree.Valid.{NumbersRise}
use Rattle.hac_model.specs.declared.events.Event.{Event}
use Rattle.hac_model.specs.declared.events.Event.TheVariants.{Step}
use Rattle.hac_model.specs.declared.states.Body.{Body}
use Rattle.hac_model.specs.declared.states.Body.TheVariants.{File}
use Rattle.hac_model.specs.declared.states.Entry.{Entry}
use Rattle.hac_model.specs.declared.states.Session.{Session}
use Rattle.hac_model.specs.declared.states.State.{State}
use Rattle.hac_model.specs.declared.versions.Version.TheVariants.{Two}
use Rattle.hac_model.proofs.ChangeLemmas.{changed-low}
use Rattle.hac_model.proofs.CountLemmas.{dirty_count-is, measured-cons, one_if}
use Rattle.hac_dump.proofs.PartLemmas.{Counted, counted-bounds, moved, part}

-- no two entries get one number
pub counted-one : (ρ : ℕ → ℕ) (k : ℕ) (es : List Entry) (m n : ℕ) (x y : Entry) → Counted ρ k es → entry_at es m ≡ Some x → entry_at es n ≡ Some y → ρ m ≡ ρ n → m ≡ n
counted-one ρ k [] m n x y c found other same = absurd cc
counted-one ρ k (z ∷ es) m n x y c found other same =
    elim (z.number == m) as (λ b. (z.number == m) ≡ b → cond b (Some z) (entry_at es m) ≡ Some x → m ≡ n) [
      | true ↦ (λ here _. elim (z.number == n) as (λ b. (z.number == n) ≡ b → cond b (Some z) (entry_at es n) ≡ Some y → m ≡ n) [
        | true ↦ (λ there _. sym (eqb-true z.number m here) ∙ eqb-true z.number n there)
        | false ↦ (λ there found.
            let low : k + 1 ≤ ρ n = (counted-bounds ρ (k + 1) es n y c.1 found).0 in
            let first : ρ z.number ≡ k = c.0 in
            let even : ρ z.number ≡ ρ m = ap ρ (eqb-true z.number m here) in
            absurd (omega (arith, low, first, even, same)))
      ] refl other)
      | false ↦ (λ here found. elim (z.number == n) as (λ b. (z.number == n) ≡ b → cond b (Some z) (entry_at es n) ≡ Some y → m ≡ n) [
        | true ↦ (λ there _.
            let low : k + 1 ≤ ρ m = (counted-bounds ρ (k + 1) es m x c.1 found).0 in
            let first : ρ z.number ≡ k = c.0 in
            let even : ρ z.number ≡ ρ n = ap ρ (eqb-true z.number n there) in
            absurd (omega (arith, low, first, even, same)))
        | false ↦ (λ there other. counted-one ρ (k + 1) es m n x y c.1 found other same)
      ] refl other)
    ] refl found

-- the entry of a number has come to something else
abbrev pub put : (Entry → Body) → ℕ → Body → Entry → Body
put stage n body e = if e.number == n then body else stage e

-- only what is made matters
pub part-alike : (ρ : ℕ → ℕ) (stage other : Entry → Body) (sessions : List Session) (es : List Entry) → AllByRecursion (λ e. stage e ≡ other e) es → part ρ stage sessions es ≡ part ρ other sessions es
part-alike ρ stage other sessions es same = λ i. record { version = Two; next = length es + 1; entries = each es same i; sessions = sessions }
  where
    each : (rest : List Entry) → AllByRecursion (λ e. stage e ≡ other e) rest → map (moved ρ stage) rest ≡ map (moved ρ other) rest
    each [] same = refl
    each (e ∷ rest) same = λ i. record { number = ρ e.number; parent = ρ e.parent; name = e.name; body = same.0 i } ∷ each rest same.1 i

-- one entry is edited
pub part-edited : (ρ : ℕ → ℕ) (stage : Entry → Body) (sessions : List Session) (es : List Entry) (n : ℕ) (e : Entry) (edit : Body → Body) (body : Body) → Counted ρ 1 es → AllByRecursion (λ x. entry_at es x.number ≡ Some x) es
    → entry_at es n ≡ Some e → edit (stage e) ≡ body → changed_at (part ρ stage sessions es) (ρ n) (edited edit) ≡ part ρ (put stage n body) sessions es
part-edited ρ stage sessions es n e edit body c own found is = λ i. record { version = Two; next = length es + 1; entries = each es own i; sessions = sessions }
  where
    one : (x : Entry) → entry_at es x.number ≡ Some x → (if ρ x.number == ρ n then edited edit (moved ρ stage x) else moved ρ stage x) ≡ moved ρ (put stage n body) x
    one x there = elim (x.number == n) as (λ b. (x.number == n) ≡ b → (if ρ x.number == ρ n then edited edit (moved ρ stage x) else moved ρ stage x) ≡ record (moved ρ stage x) { body = if b then body else stage x }) [
      | true ↦ (λ here.
          let even : x ≡ e = (let both : Some x ≡ Some e = sym there ∙ ap (entry_at es) (eqb-true x.number n here) ∙ found in cc) in
          ap (λ (b : Bool). if b then edited edit (moved ρ stage x) else moved ρ stage x) (eq-eqb (ρ x.number) (ρ n) (ap ρ (eqb-true x.number n here)))
          ∙ (λ i. record (moved ρ stage x) { body = (ap (λ (y : Entry). edit (stage y)) even ∙ is) i }))
      | false ↦ (λ here.
          ap (λ (b : Bool). if b then edited edit (moved ρ stage x) else moved ρ stage x) (ne_eqb (ρ x.number) (ρ n) (λ same. eqb-false x.number n here (counted-one ρ 1 es x.number n x e c there found same))))
    ] refl

    each : (rest : List Entry) → AllByRecursion (λ x. entry_at es x.number ≡ Some x) rest → changed_in (ρ n) (edited edit) (map (moved ρ stage) rest) ≡ map (moved ρ (put stage n body)) rest
    each [] own = refl
    each (x ∷ rest) own = λ i. one x own.0 i ∷ each rest own.1 i

-- ---- all files are indexed

abbrev pub settled : Body → Body
settled body = if is_dirty body then indexed body else body

-- the changed entry is the first of its number
changed-behind : (before : List Entry) (e : Entry) (rest : List Entry) (change : Entry → Entry) (above next : ℕ) → NumbersRise above (before ++ e ∷ rest) next → changed_in e.number change (before ++ e ∷ rest) ≡ before ++ change e ∷ rest
changed-behind [] e rest change above next h =
    ap (λ (b : Bool). (if b then change e else e) ∷ changed_in e.number change rest) (eq-eqb e.number e.number refl)
    ∙ ap (λ (l : List Entry). change e ∷ l) (changed-low e.number change e.number rest next h.1 (omega arith))
changed-behind (x ∷ before) e rest change above next h =
    ap (λ (b : Bool). (if b then change x else x) ∷ changed_in e.number change (before ++ e ∷ rest)) (ne_eqb x.number e.number (λ same. omega (arith, same, below before x.number h.1)))
    ∙ ap (λ (l : List Entry). x ∷ l) (changed-behind before e rest change x.number next h.1)
  where
    below : (before : List Entry) (above : ℕ) → NumbersRise above (before ++ e ∷ rest) next → above < e.number
    below [] above h = h.0
    below (y ∷ before) above h = let first : above < y.number = h.0 in omega (arith, first, below before y.number h.1)

next-behind : (before : List Entry) (e : Entry) (rest : List Entry) → AllByRecursion (λ x. is_dirty x.body ≡ false) before → is_dirty e.body ≡ true → next_dirty (before ++ e ∷ rest) ≡ Some e.number
next-behind [] e rest clean due = ap (λ (b : Bool). if b then Some e.number else next_dirty rest) due
next-behind (x ∷ before) e rest clean due = ap (λ (b : Bool). if b then Some x.number else next_dirty (before ++ e ∷ rest)) clean.0 ∙ next-behind before e rest clean.1 due

abbrev with_entries : State → List Entry → State
with_entries s es = record s { entries = es }

all-last : (P : Entry → Type 0) (es : List Entry) (e : Entry) → AllByRecursion P es → P e → AllByRecursion P (es ++ e ∷ [])
all-last P [] e h k = (k, tt)
all-last P (x ∷ es) e h k = (h.0, all-last P es e h.1 k)

rise-changed : (before : List Entry) (e f : Entry) (rest : List Entry) (above next : ℕ) → f.number ≡ e.number → NumbersRise above (before ++ e ∷ rest) next → NumbersRise above (before ++ f ∷ rest) next
rise-changed [] e f rest above next same h = (let first : above < e.number = h.0 in omega (arith, first, same), subst (λ (k : ℕ). NumbersRise k rest next) (sym same) h.1)
rise-changed (x ∷ before) e f rest above next same h = (h.0, rise-changed before e f rest x.number next same h.1)

clean-indexed : (body : Body) → is_dirty (indexed body) ≡ false
clean-indexed (File text dirty shown) = refl
clean-indexed other = refl

index-rest : (s : State) (before rest : List Entry) → NumbersRise 0 (before ++ rest) s.next → AllByRecursion (λ x. is_dirty x.body ≡ false) before
    → apply_all (with_entries s (before ++ rest)) (replicate (dirty_count rest) Step) ≡ with_entries s (before ++ map (edited settled) rest)
index-rest s before [] h clean = refl
index-rest s before (e ∷ rest) h clean =
    elim (is_dirty e.body) as (λ b. is_dirty e.body ≡ b → apply_all (with_entries s (before ++ e ∷ rest)) (replicate (dirty_count (e ∷ rest)) Step) ≡ with_entries s (before ++ record e { body = if b then indexed e.body else e.body } ∷ map (edited settled) rest)) [
      | true ↦ (λ due.
          let f = edited indexed e in
          let count : dirty_count (e ∷ rest) ≡ suc (dirty_count rest) = (let one : one_if is_dirty e.body ≡ 1 = ap (λ (b : Bool). cond {A = ℕ} b 1 0) due in omega (arith, measured-cons (one_if is_dirty) e rest, dirty_count-is (e ∷ rest), dirty_count-is rest, one)) in
          ap (λ (k : ℕ). apply_all (with_entries s (before ++ e ∷ rest)) (replicate k Step)) count
          ∙ ap (λ (o : Option ℕ). apply_all (option_map_or (λ file. changed_at (with_entries s (before ++ e ∷ rest)) file (edited indexed)) o (with_entries s (before ++ e ∷ rest))) (replicate (dirty_count rest) Step)) (next-behind before e rest clean due)
          ∙ ap (λ (l : List Entry). apply_all (with_entries s l) (replicate (dirty_count rest) Step)) (changed-behind before e rest (edited indexed) 0 s.next h ∙ sym (append_assoc before (f ∷ []) rest))
          ∙ index-rest s (before ++ f ∷ []) rest
          (subst (λ (l : List Entry). NumbersRise 0 l s.next) (sym (append_assoc before (f ∷ []) rest)) (rise-changed before e f rest 0 s.next refl h))
          (all-last (λ x. is_dirty x.body ≡ false) before f clean (clean-indexed e.body))
          ∙ ap (λ (l : List Entry). with_entries s l) (append_assoc before (f ∷ []) (map (edited settled) rest)))
      | false ↦ (λ idle.
          let count : dirty_count (e ∷ rest) ≡ dirty_count rest = (let none : one_if is_dirty e.body ≡ 0 = ap (λ (b : Bool). cond {A = ℕ} b 1 0) idle in omega (arith, measured-cons (one_if is_dirty) e rest, dirty_count-is (e ∷ rest), dirty_count-is rest, none)) in
          ap (λ (k : ℕ). apply_all (with_entries s (before ++ e ∷ rest)) (replicate k Step)) count
          ∙ ap (λ (l : List Entry). apply_all (with_entries s l) (replicate (dirty_count rest) Step)) (sym (append_assoc before (e ∷ []) rest))
          ∙ index-rest s (before ++ e ∷ []) rest
          (subst (λ (l : List Entry). NumbersRise 0 l s.next) (sym (append_assoc before (e ∷ []) rest)) h)
          (all-last (λ x. is_dirty x.body ≡ false) before e clean idle)
          ∙ ap (λ (l : List Entry). with_entries s l) (append_assoc before (e ∷ []) (map (edited settled) rest)))
    ] refl

-- as many steps as files are dirty index each of them
pub index-all : (s : State) → NumbersRise 0 s.entries s.next → apply_all s (replicate (dirty s) Step) ≡ record s { entries = map (edited settled) s.entries }
index-all s h = index-rest s [] s.entries h tt

pub part-indexed : (ρ : ℕ → ℕ) (stage : Entry → Body) (sessions : List Session) (es : List Entry) → NumbersRise 0 (part ρ stage sessions es).entries (length es + 1) → apply_all (part ρ stage sessions es) (replicate (dirty (part ρ stage sessions es)) Step) ≡ part ρ (λ e. settled (stage e)) sessions es
part-indexed ρ stage sessions es h = index-all (part ρ stage sessions es) h ∙ (λ i. record { version = Two; next = length es + 1; entries = each es i; sessions = sessions })
  where
    each : (rest : List Entry) → map (edited settled) (map (moved ρ stage) rest) ≡ map (moved ρ (λ e. settled (stage e))) rest
    each [] = refl
    each (e ∷ rest) = ap (λ (l : List Entry). moved ρ (λ e. settled (stage e)) e ∷ l) (each rest)

pub steps-stored : (n : ℕ) → filter is_stored (replicate n Step) ≡ replicate n Step
steps-stored zero = refl
steps-stored (suc n) = ap (λ (l : List Event). Step ∷ l) (steps-stored n)
