-- Which files steps index that are taken in a batch.
use Rattle.std.proofs.Common.{◌≡◌, ℕ, zero, suc, ◌+◌, ◌<◌, ◌≤◌, Bool, true, false, cond, List, [], ◌∷◌, ◌++◌, length-append, map, refl, ap, sym, ◌∙◌, subst, arith, inl, inr}
use Rattle.std.specs.Prelude.{◌==◌, nat_le, nat_lt, replicate, Option, Some, None, is_none, is_some, option_and_then}
use Rattle.std.specs.Option.{option_map, option_map_or}
use Rattle.std.proofs.lemmas.Bool.{and_parts, cases_lt, eqb-true}
use Rattle.std.proofs.lemmas.Bool.Decides.{nat_tests}
use Rattle.dep_graph.specs.Searches.{EachOnce}
use Rattle.file_tree.specs.Answers.{entries_behind, is_dirty_at}
use Rattle.hac_model.specs.Laws.{AllHappen}
use Rattle.hac_model.specs.Tree.Bare.{bare, bare_body}
use Rattle.hac_model.specs.Tree.Depends.{Among}
use Rattle.hac_model.specs.Tree.Events.{accepted, apply, apply_all, edited, next_dirty}
use Rattle.hac_model.specs.Tree.Limits.{passed_limit}
use Rattle.hac_model.specs.Tree.Links.{shown_of}
use Rattle.hac_model.specs.Tree.Valid.{IsLayout, IsSound, NumbersRise}
use Rattle.hac_model.specs.Tree.{entry_at, is_dirty, shown_text, text_in}
use Rattle.hac_model.specs.declared.events.Event.TheVariants.{Step}
use Rattle.hac_model.specs.declared.states.Body.{Body}
use Rattle.hac_model.specs.declared.states.Body.TheVariants.{File, Dir, Symlink, Semantic, Mount, Document}
use Rattle.hac_model.specs.declared.states.Entry.{Entry}
use Rattle.hac_model.specs.declared.states.State.{State}
use Rattle.hac_model.proofs.AmongLemmas.{among-append, among-left, among-right}
use Rattle.hac_model.proofs.BareLemmas.{next_dirty-bare}
use Rattle.hac_model.proofs.PathLemmas.{root-none}
use Rattle.hac_model.proofs.TreeLemmas.{entry_at-above, entry_at-all}
use Rattle.reindex.specs.Steps.{AreIndexed, indexed_if, indexed_through, indexed_to}
use Rattle.reindex.proofs.IndexedLemmas.{dirty-if, dirty-indexed, indexed-none, rise-indexed, step-indexed, text_of}

-- One step after the other.

steps-then : (n : ℕ) (s : State) → apply_all s (replicate (suc n) Step) ≡ apply (apply_all s (replicate n Step)) Step
steps-then zero s = refl
steps-then (suc n) s = steps-then n (apply s Step)

happens-then : (n count : ℕ) (s : State) → AllHappen s (replicate count Step) → n < count → accepted (apply_all s (replicate n Step)) Step ≡ true
happens-then n zero s happen less = absurd (omega arith)
happens-then zero (suc count) s happen less = happen.0
happens-then (suc n) (suc count) s happen less = happens-then n count (apply s Step) happen.1 (omega arith)

-- where a step can happen there is a dirty file
pub step-some : (s : State) → accepted s Step ≡ true → is_some (next_dirty s.entries) ≡ true
step-some s accepts = (and_parts (is_some (next_dirty s.entries)) (is_none (passed_limit (apply s Step))) accepts).0

-- so there is one before each step
pub never-none : (s : State) (n count : ℕ) (files : List ℕ) (last : ℕ) → AllHappen s (replicate count Step) → n < count → AreIndexed s n files last → next_dirty (indexed_through last s).entries ≡ None → ⊥
never-none s n count files last happen less known none =
    let some : is_some (next_dirty (indexed_through last s).entries) ≡ true =
    ap (λ (t : State). is_some (next_dirty t.entries)) (sym known.reached) ∙ step-some (apply_all s (replicate n Step)) (happens-then n count s happen less) in
    absurd cc

-- no dirty file has a lower number than the next one
pub next-least : (above : ℕ) (es : List Entry) (next file n : ℕ) → NumbersRise above es next → next_dirty es ≡ Some file → is_dirty_at es n ≡ true → file ≤ n
next-least above [] next file n h found dirty = absurd cc
next-least above (e ∷ es) next file n h found dirty = at (next-least e.number es next file n h.1) (is_dirty e.body) (e.number == n) refl refl
  where
    dirty_in : Option Entry → Bool
    dirty_in o = option_map_or is_dirty (option_map (λ (e : Entry). e.body) o) false

    behind : (e.number == n) ≡ false → entry_at (e ∷ es) n ≡ entry_at es n
    behind apart = ap (λ (b : Bool). cond b (Some e) (entry_at es n)) apart

    at : (next_dirty es ≡ Some file → is_dirty_at es n ≡ true → file ≤ n) → (b c : Bool) → is_dirty e.body ≡ b → (e.number == n) ≡ c → file ≤ n
    at rest true true is here =
        let same : Some e.number ≡ Some file = ap (λ (b : Bool). cond b (Some e.number) (next_dirty es)) (sym is) ∙ found in
        let own : e.number ≡ file = cc in
        omega (arith, own, eqb-true e.number n here)
    at rest true false is apart =
        let same : Some e.number ≡ Some file = ap (λ (b : Bool). cond b (Some e.number) (next_dirty es)) (sym is) ∙ found in
        let own : e.number ≡ file = cc in
        let more : e.number < n = high (entry_at es n) refl (ap dirty_in (sym (behind apart)) ∙ dirty) in
        omega (arith, own, more)
      where
        high : (o : Option Entry) → entry_at es n ≡ o → option_map_or is_dirty (option_map (λ (x : Entry). x.body) o) false ≡ true → e.number < n
        high None there some = absurd cc
        high (Some x) there some = entry_at-above e.number es next n x h.1 there
    at rest false true is here =
        let never : false ≡ true = sym is ∙ sym (ap (λ (b : Bool). option_map_or is_dirty (option_map (λ (x : Entry). x.body) (cond b (Some e) (entry_at es n))) false) here) ∙ dirty in
        absurd cc
    at rest false false is apart =
        rest (ap (λ (b : Bool). cond b (Some e.number) (next_dirty es)) (sym is) ∙ found) (ap dirty_in (sym (behind apart)) ∙ dirty)

-- The files of so many steps.

-- what is above is as dirty as it was
dirty-high : (s : State) (last n : ℕ) → last < n → is_dirty_at (indexed_through last s).entries n ≡ is_dirty_at s.entries n
dirty-high s last n high = let out : nat_le n last ≡ false = grind (arith, nat_tests) in dirty-indexed last s n ∙ ap (λ (b : Bool). cond b false (is_dirty_at s.entries n)) out

once-more : (files : List ℕ) (file : ℕ) → EachOnce files → (Among files file → ⊥) → EachOnce (files ++ file ∷ [])
once-more [] file once apart = (λ never. never, tt)
once-more (first ∷ files) file once apart = (
  λ again. elim (among-append files (file ∷ []) first again) [
    | inl before ↦ once.0 before
    | inr last ↦ elim last [ inl same ↦ apart (inl (sym same)) | inr never ↦ absurd never ]
  ],
  once-more files file once.1 (λ later. apart (inr later)),
)

-- none before the first
pub indexed-start : (s : State) (files : List ℕ) → IsLayout s → files ≡ [] → AreIndexed s 0 files 0
indexed-start s files h none = subst (λ (numbers : List ℕ). AreIndexed s 0 numbers 0) (sym none) (record {
  reached = sym (indexed-none s h);
  once = tt;
  many = refl;
  low = λ n never. absurd never;
  all = λ n dirty low.
      let root : n ≡ 0 = omega arith in
      let never : false ≡ true = sym (ap (λ (o : Option Entry). option_map_or is_dirty (option_map (λ (e : Entry). e.body) o) false) (ap (entry_at s.entries) root ∙ root-none s h)) ∙ dirty in
      absurd cc;
})

-- a dirty file that isn't indexed yet is the next one, or behind it
before-next : (s : State) (last file n : ℕ) → IsLayout s → next_dirty (indexed_through last s).entries ≡ Some file → is_dirty_at s.entries n ≡ true → n ≤ file → last < n → file ≡ n
before-next s last file n h found dirty low high =
    let still : is_dirty_at (indexed_through last s).entries n ≡ true = dirty-high s last n high ∙ dirty in
    let least : file ≤ n = next-least 0 (indexed_through last s).entries s.next file n (rise-indexed last 0 s.entries s.next h.numbers) found still in
    omega arith

-- one more with each step
pub indexed-more : (s : State) (n : ℕ) (files : List ℕ) (last file : ℕ) → IsLayout s → AreIndexed s n files last → next_dirty (indexed_through last s).entries ≡ Some file → AreIndexed s (n + 1) (files ++ file ∷ []) file
indexed-more s n files last file h known found =
    let step = step-indexed last file s h found in
    let more : last < file = step.0 in
    let one : n + 1 ≡ suc n = omega arith in
    record {
      reached = ap (λ (k : ℕ). apply_all s (replicate k Step)) one ∙ steps-then n s ∙ ap (λ (t : State). apply t Step) known.reached ∙ step.1;
      many = length-append files (file ∷ []) ∙ ap (λ (k : ℕ). k + 1) known.many;
      once = once-more files file known.once (λ before. let low = known.low file before in absurd (omega (arith, low, more)));
      low = λ k among. elim (among-append files (file ∷ []) k among) as (λ _. k ≤ file) [
        | inl before ↦ (let low = known.low k before in omega (arith, low, more))
        | inr last ↦ elim last as (λ _. k ≤ file) [ inl same ↦ omega (arith, same) | inr never ↦ absurd never ]
      ];
      all = λ k dirty low. elim (cases_lt last k) as (λ _. Among (files ++ file ∷ []) k) [
        | inl high ↦ among-right files (file ∷ []) k (inl (before-next s last file k h found dirty low high))
        | inr before ↦ among-left files (file ∷ []) k (known.all k dirty before)
      ];
    }

-- Texts.

-- a clean file shows its text
clean-shows : (b : Body) → IsSound b → is_dirty b ≡ false → text_in b ≡ shown_text b
clean-shows (File text dirty shown) sound clean = sym (sound.clean clean)
clean-shows Dir sound clean = refl
clean-shows (Symlink target) sound clean = refl
clean-shows (Semantic query permanent prohibited) sound clean = refl
clean-shows (Mount space answers) sound clean = refl
clean-shows Document sound clean = refl

pub clean-shown : (s : State) (n : ℕ) → IsLayout s → is_dirty_at s.entries n ≡ false → text_of s n ≡ shown_of s n
clean-shown s n h clean = at (entry_at s.entries n) refl clean
  where
    at : (o : Option Entry) → entry_at s.entries n ≡ o → option_map_or is_dirty (option_map (λ (e : Entry). e.body) o) false ≡ false →
        option_and_then text_in (option_map (λ (e : Entry). e.body) o) ≡ option_and_then shown_text (option_map (λ (e : Entry). e.body) o)
    at None found clean = refl
    at (Some e) found clean = clean-shows e.body (entry_at-all (λ e. IsSound e.body) s.entries n e h.bodies found) clean

-- The next file that is dirty.

-- it is the first one behind those that are indexed
pub next-behind : (last : ℕ) (es : List Entry) → next_dirty (map (indexed_to last) es) ≡ next_dirty (entries_behind last es)
next-behind last [] = refl
next-behind last (e ∷ es) = at (next-behind last es) (nat_le e.number last) refl
  where
    at : next_dirty (map (indexed_to last) es) ≡ next_dirty (entries_behind last es) → (b : Bool) → nat_le e.number last ≡ b → next_dirty (map (indexed_to last) (e ∷ es)) ≡ next_dirty (entries_behind last (e ∷ es))
    at rest true low =
        let out : nat_lt last e.number ≡ false = grind (arith, nat_tests) in
        ap (λ (b : Bool). cond (is_dirty (indexed_if b e.body)) (Some e.number) (next_dirty (map (indexed_to last) es))) low
        ∙ ap (λ (b : Bool). cond b (Some e.number) (next_dirty (map (indexed_to last) es))) (sym (dirty-if true e.body))
        ∙ rest
        ∙ ap (λ (b : Bool). next_dirty (cond b (e ∷ entries_behind last es) (entries_behind last es))) (sym out)
    at rest false high =
        let behind : nat_lt last e.number ≡ true = grind (arith, nat_tests) in
        ap (λ (b : Bool). cond (is_dirty (indexed_if b e.body)) (Some e.number) (next_dirty (map (indexed_to last) es))) high
        ∙ ap (λ (o : Option ℕ). cond (is_dirty e.body) (Some e.number) o) rest
        ∙ ap (λ (b : Bool). next_dirty (cond b (e ∷ entries_behind last es) (entries_behind last es))) (sym behind)

-- marks and answers have nothing to do with which entries are behind
behind-bare : (last : ℕ) (es : List Entry) → entries_behind last (map (edited bare_body) es) ≡ map (edited bare_body) (entries_behind last es)
behind-bare last [] = refl
behind-bare last (e ∷ es) = elim (nat_lt last e.number) as (λ b. cond b (edited bare_body e ∷ entries_behind last (map (edited bare_body) es)) (entries_behind last (map (edited bare_body) es)) ≡ map (edited bare_body) (cond b (e ∷ entries_behind last es) (entries_behind last es))) [
  | true ↦ ap (λ (xs : List Entry). edited bare_body e ∷ xs) (behind-bare last es)
  | false ↦ behind-bare last es
]

-- nor with which of them is the next
pub next-bare : (last : ℕ) (s : State) → next_dirty (entries_behind last (bare s).entries) ≡ next_dirty (entries_behind last s.entries)
next-bare last s = ap next_dirty (behind-bare last s.entries) ∙ next_dirty-bare (entries_behind last s.entries)
