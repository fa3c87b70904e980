-- What mounts gain: they are looked at one after the other, and each takes as much of what was told as it was asked for.
use Rattle.std.proofs.Common.{◌≡◌, ℕ, zero, suc, ◌+◌, ◌<◌, ◌≤◌, Bool, true, false, cond, List, [], ◌∷◌, drop, length, take, map, refl, ap, subst, sym, ◌∙◌, arith, inl, inr}
use Rattle.std.specs.Prelude.{◌==◌, if◌then◌else◌, nat_le, Option, Some, None}
use Rattle.std.specs.List.{list_all}
use Rattle.std.specs.Option.{option_map, option_map_or}
use Rattle.std.proofs.lemmas.Bool.{and_parts, cases_lt, cases_order, eq-eqb, eqb-false, eqb-true, le-leb, leb-true, ne_eqb}
use Rattle.hac_model.specs.Query.Formula.{Formula}
use Rattle.hac_model.specs.Tree.Asking.{are_all_told, asked_by, gained, unanswered, with_answers}
use Rattle.hac_model.specs.Tree.Facts.{Facts, facts_at, filled, filled_entry}
use Rattle.hac_model.specs.Tree.Links.{answers_at}
use Rattle.hac_model.specs.Tree.Mounting.{answers_to, are_told, is_told}
use Rattle.hac_model.specs.Tree.Valid.{NumbersRise}
use Rattle.hac_model.specs.Tree.{entry_at, is_directory_at, is_mount, is_mount_at}
use Rattle.hac_model.specs.declared.states.Answer.{Answer}
use Rattle.hac_model.specs.declared.states.Body.{Body}
use Rattle.hac_model.specs.declared.states.Body.TheVariants.{File, Dir, Symlink, Semantic, Mount, Document}
use Rattle.hac_model.specs.declared.states.Entry.{Entry}
use Rattle.hac_model.specs.declared.states.State.{State}
use Rattle.hac_model.specs.declared.terms.Term.{Term}
use Rattle.hac_model.proofs.TreeLemmas.{entry_at-low, entry_at-next, entry_at-number}
use Rattle.kept_facts.specs.Answers.{answers_kept}
use Rattle.kept_state.specs.Gains.{answers_then, asked_at}
use Rattle.kept_state.specs.Parts.{IsLinked, facts_kept, state_of}
use Rattle.kept_state.specs.declared.parts.Parts.{Parts}
use Rattle.kept_state.proofs.AnswerLemmas.{kept-answers, mountless}
use Rattle.hac_model.proofs.SortedLemmas.{drop-end}
use Rattle.kept_facts.proofs.UseLemmas.{rest-all, rest-none, rest_from}
use Rattle.kept_state.proofs.StateLemmas.{kept-bares, same-mount}

-- What was told is enough.

-- there is a list for each term that these entries are asked for, in order
abbrev pub AreEnough : (Entry → List Term) → List (List ℕ) → List Entry → Type 0
AreEnough asked told [] = Unit {0}
AreEnough asked told (e ∷ es) = (length (asked e) ≤ length told) × AreEnough asked (drop (length (asked e)) told) es

taken-within : (k : ℕ) (told : List (List ℕ)) → length (take k told) ≡ k → k ≤ length told
taken-within zero told h = omega arith
taken-within (suc k) [] h = absurd (omega (arith, h))
taken-within (suc k) (numbers ∷ told) h = let rest = taken-within k told (omega (arith, h)) in omega (arith, rest)

filled-mount : (facts : Facts) (body : Body) → is_mount (filled facts body) ≡ is_mount body
filled-mount facts (Mount space answers) = refl
filled-mount facts (Semantic query permanent prohibited) = refl
filled-mount facts (File text dirty shown) = refl
filled-mount facts Dir = refl
filled-mount facts (Symlink target) = refl
filled-mount facts Document = refl

module _ (s : State) (query : Formula ℕ) (kept : ℕ → List Answer) (same : answers_at s ≡ kept) (facts : ℕ → Facts) where
  asked-same : (e : Entry) → asked_by (answers_at s) query (filled_entry facts e) ≡ asked_by kept query e
  asked-same e = λ i. if filled-mount (facts e.number) e.body i then unanswered query (same i e.number) else []

  told-enough : (told : List (List ℕ)) (es : List Entry) → are_all_told s query told (map (filled_entry facts) es) ≡ true → AreEnough (asked_by kept query) told es
  told-enough told [] h = tt
  told-enough told (e ∷ es) h =
      let x = filled_entry facts e in
      let k = length (asked_by (answers_at s) query x) in
      let parts = and_parts (are_told s x.number (asked_by (answers_at s) query x) (take k told)) (are_all_told s query (drop k told) (map (filled_entry facts) es)) h in
      let even = (and_parts (length (take k told) == k) (list_all (is_told s x.number) (take k told)) parts.0).0 in
      let count = ap (λ (ts : List Term). length ts) (asked-same e) in (
        subst (λ (m : ℕ). m ≤ length told) count (taken-within k told (eqb-true (length (take k told)) k even)),
        subst (λ (m : ℕ). AreEnough (asked_by kept query) (drop m told) es) count (told-enough (drop k told) es parts.1),
      )

-- The entries are looked at in order of number.

gt-leb : (m n : ℕ) → n < m → nat_le m n ≡ false
gt-leb m n less = not_le (nat_le m n) refl
  where
    not_le : (b : Bool) → nat_le m n ≡ b → nat_le m n ≡ false
    not_le false is = is
    not_le true is = absurd (omega (arith, less, leb-true m n is))

pub enough-next : (asked : Entry → List Term) (i above next : ℕ) (told : List (List ℕ)) (es : List Entry) → NumbersRise above es next → AreEnough asked told (rest_from i es) →
    (length (option_map_or asked (entry_at es i) []) ≤ length told) × AreEnough asked (drop (length (option_map_or asked (entry_at es i) [])) told) (rest_from (i + 1) es)
enough-next asked i above next told [] h enough = (omega arith, tt)
enough-next asked i above next told (e ∷ es) h enough =
    elim (cases_order i e.number) [
      | inl same ↦ (
          let le = le-leb i e.number (omega (arith, same)) in
          let here = eq-eqb e.number i (sym same) in
          let past = gt-leb (i + 1) e.number (omega (arith, same)) in
          let all = rest-all (i + 1) e.number next es h.1 (omega (arith, same)) in
          let known : AreEnough asked told (e ∷ es) = subst (λ (b : Bool). AreEnough asked told (cond b (e ∷ es) (rest_from i es))) le enough in
          rw here (rw past (rw all known)))
      | inr (inl less) ↦ (
          let le = le-leb i e.number (omega (arith, less)) in
          let also = le-leb (i + 1) e.number (omega (arith, less)) in
          let other = ne_eqb e.number i (λ same. omega (arith, less, same)) in
          let none = entry_at-low e.number es next i h.1 (omega (arith, less)) in
          let known : AreEnough asked told (e ∷ es) = subst (λ (b : Bool). AreEnough asked told (cond b (e ∷ es) (rest_from i es))) le enough in
          rw other (rw none (rw also (omega arith, known))))
      | inr (inr more) ↦ (
          let past = gt-leb i e.number more in
          let also = gt-leb (i + 1) e.number (omega (arith, more)) in
          let other = ne_eqb e.number i (λ same. omega (arith, more, same)) in
          let known : AreEnough asked told (rest_from i es) = subst (λ (b : Bool). AreEnough asked told (cond b (e ∷ es) (rest_from i es))) past enough in
          rw other (rw also (enough-next asked i e.number next told es h.1 known)))
    ]

module _ (kept : ℕ → List Answer) (query : Formula ℕ) where
  abbrev asked : Entry → List Term
  asked e = asked_by kept query e

  -- nothing is gained where nothing was told
  none-left : (terms : List Term) → answers_to terms [] ≡ []
  none-left [] = refl
  none-left (term ∷ terms) = refl

  pub gained-untold : (es : List Entry) (n : ℕ) → gained kept query [] es n ≡ []
  gained-untold [] n = refl
  gained-untold (e ∷ es) n =
      elim (e.number == n) as (λ b. (if b then answers_to (asked e) [] else gained kept query (drop (length (asked e)) []) es n) ≡ []) [
        | true ↦ none-left (asked e)
        | false ↦ ap (λ (told : List (List ℕ)). gained kept query told es n) (drop-end [] (length (asked e)) (omega arith)) ∙ gained-untold es n
      ]

  -- what is no mount gains nothing
  pub gained-plain : (told : List (List ℕ)) (es : List Entry) (n : ℕ) → is_mount_at es n ≡ false → gained kept query told es n ≡ []
  gained-plain told [] n h = refl
  gained-plain told (e ∷ es) n h =
      elim (e.number == n) as (λ b. option_map_or is_mount (option_map (λ (e : Entry). e.body) (if b then Some e else entry_at es n)) false ≡ false → (if b then answers_to (asked e) told else gained kept query (drop (length (asked e)) told) es n) ≡ []) [
        | true ↦ (λ plain. ap (λ (b : Bool). answers_to (if b then unanswered query (kept e.number) else []) told) plain)
        | false ↦ (λ plain. gained-plain (drop (length (asked e)) told) es n plain)
      ] h

  gained-low : (above next n : ℕ) (told : List (List ℕ)) (es : List Entry) → NumbersRise above es next → n ≤ above → gained kept query told es n ≡ []
  gained-low above next n told [] h low = refl
  gained-low above next n told (e ∷ es) h low =
      let other = ne_eqb e.number n (λ same. omega (arith, h.0, low, same)) in
      rw other (gained-low e.number next n (drop (length (asked e)) told) es h.1 (omega (arith, h.0, low)))

  turned : (a b : ℕ) → (a == b) ≡ (b == a)
  turned a b = by (a == b) refl
    where
      by : (v : Bool) → (a == b) ≡ v → (a == b) ≡ (b == a)
      by true is = is ∙ sym (eq-eqb b a (sym (eqb-true a b is)))
      by false is = is ∙ sym (ne_eqb b a (λ same. eqb-false a b is (sym same)))

  either-way : (b : Bool) (answers : List Answer) → answers ≡ cond b answers answers
  either-way true answers = refl
  either-way false answers = refl

  -- what the entries from a number on gain: the one of the number, and those behind it
  pub gained-next : (i above next n : ℕ) (told : List (List ℕ)) (es : List Entry) → NumbersRise above es next → gained kept query told (rest_from i es) n
      ≡ cond (i == n) (answers_to (option_map_or asked (entry_at es i) []) told) (gained kept query (drop (length (option_map_or asked (entry_at es i) [])) told) (rest_from (i + 1) es) n)
  gained-next i above next n told [] h = either-way (i == n) []
  gained-next i above next n told (e ∷ es) h =
      elim (cases_order i e.number) [
        | inl same ↦ (
            let le = le-leb i e.number (omega (arith, same)) in
            let here = eq-eqb e.number i (sym same) in
            let past = gt-leb (i + 1) e.number (omega (arith, same)) in
            let all = rest-all (i + 1) e.number next es h.1 (omega (arith, same)) in
            rw le (rw here (rw past (rw all (ap (λ (k : ℕ). cond (k == n) (answers_to (asked e) told) (gained kept query (drop (length (asked e)) told) es n)) (sym same))))))
        | inr (inl less) ↦ (
            let le = le-leb i e.number (omega (arith, less)) in
            let also = le-leb (i + 1) e.number (omega (arith, less)) in
            let other = ne_eqb e.number i (λ same. omega (arith, less, same)) in
            let none = entry_at-low e.number es next i h.1 (omega (arith, less)) in
            rw le (rw other (rw none (rw also (away less (i == n) refl)))))
        | inr (inr more) ↦ (
            let past = gt-leb i e.number more in
            let also = gt-leb (i + 1) e.number (omega (arith, more)) in
            let other = ne_eqb e.number i (λ same. omega (arith, more, same)) in
            rw past (rw other (rw also (gained-next i e.number next n told es h.1))))
      ]
    where
      away : i < e.number → (b : Bool) → (i == n) ≡ b → gained kept query told (e ∷ es) n ≡ cond b [] (gained kept query told (e ∷ es) n)
      away less true is =
          let number = eqb-true i n is in
          let other = ne_eqb e.number n (λ same. omega (arith, less, same, number)) in
          rw other (gained-low e.number next n (drop (length (asked e)) told) es h.1 (omega (arith, less, number)))
      away less false is = refl

-- Mounts gain one after the other.

module _ (kept : Parts) (h : IsLinked kept) (query : Formula ℕ) where
  abbrev t : State
  t = kept.tree.state

  abbrev k : ℕ → List Answer
  k = answers_kept kept.answers

  -- what is no mount keeps nothing
  pub plain-none : (n : ℕ) → is_mount_at t.entries n ≡ false → k n ≡ []
  plain-none n plain = kept-answers kept h n ∙ mountless (state_of kept) n (same-mount (state_of kept) t (kept-bares kept) n ∙ plain)

  pub plain-asked : (n : ℕ) → is_mount_at t.entries n ≡ false → asked_at kept query n ≡ []
  plain-asked n plain = at (entry_at t.entries n) plain
    where
      at : (o : Option Entry) → option_map_or is_mount (option_map (λ (e : Entry). e.body) o) false ≡ false → option_map_or (asked_by k query) o [] ≡ []
      at None plain = refl
      at (Some e) plain = ap (λ (b : Bool). if b then unanswered query (k e.number) else []) plain

  pub mount-asked : (n : ℕ) → is_mount_at t.entries n ≡ true → asked_at kept query n ≡ unanswered query (k n)
  mount-asked n there = at (entry_at t.entries n) refl there
    where
      at : (o : Option Entry) → entry_at t.entries n ≡ o → option_map_or is_mount (option_map (λ (e : Entry). e.body) o) false ≡ true → option_map_or (asked_by k query) o [] ≡ unanswered query (k n)
      at None found there = absurd cc
      at (Some e) found there = (λ i. if there i then unanswered query (k (entry_at-number t.entries n e found i)) else [])

  -- what is no mount gains nothing, whatever is told
  pub nothing-put : (told : List (List ℕ)) (m : ℕ) → is_mount_at t.entries m ≡ false → (lists : ℕ → List Answer) → lists m ≡ [] → (n : ℕ) → lists n ≡ (if n == m then with_answers (answers_to (asked_at kept query m) told) (k m) else lists n)
  nothing-put told m plain lists none n = at (n == m) refl
    where
      at : (b : Bool) → (n == m) ≡ b → lists n ≡ (if b then with_answers (answers_to (asked_at kept query m) told) (k m) else lists n)
      at true here = ap lists (eqb-true n m here) ∙ none ∙ sym (λ i. with_answers (answers_to (plain-asked m plain i) told) (plain-none m plain i))
      at false other = refl

-- what is no entry keeps nothing
pub absent-none : (kept : Parts) → IsLinked kept → (n : ℕ) → entry_at kept.tree.state.entries n ≡ None → answers_at (state_of kept) n ≡ []
absent-none kept h n none =
    let plain : is_mount_at kept.tree.state.entries n ≡ false = ap (λ (o : Option Entry). option_map_or is_mount (option_map (λ (e : Entry). e.body) o) false) none in
    mountless (state_of kept) n (same-mount (state_of kept) kept.tree.state (kept-bares kept) n ∙ plain)

pub none-told : (told : List (List ℕ)) → (length told == 0) ≡ true → told ≡ []
none-told [] none = refl
none-told (numbers ∷ told) none = let no : length (numbers ∷ told) ≡ 0 = eqb-true (length (numbers ∷ told)) 0 none in absurd (omega (arith, no))

-- the numbers below this one have what they keep then, and the others nothing yet; what is left is told to these
pub record IsGaining (kept : Parts) (query : Formula ℕ) (told left : List (List ℕ)) (number : ℕ) (lists : ℕ → List Answer) : Type 0 where
  pub enough : AreEnough (asked_by (answers_kept kept.answers) query) left (rest_from number kept.tree.state.entries)
  pub rest : (n : ℕ) → number ≤ n → gained (answers_kept kept.answers) query left (rest_from number kept.tree.state.entries) n ≡ gained (answers_kept kept.answers) query told kept.tree.state.entries n
  pub done : (n : ℕ) → n < number → lists n ≡ answers_then (answers_kept kept.answers) query told kept.tree.state n
  pub none : (n : ℕ) → number ≤ n → lists n ≡ []

module _ (kept : Parts) (h : IsLinked kept) (query : Formula ℕ) (told : List (List ℕ)) (rise : NumbersRise 0 kept.tree.state.entries kept.tree.state.next) where
  abbrev t' : State
  t' = kept.tree.state

  abbrev k' : ℕ → List Answer
  k' = answers_kept kept.answers

  pub gaining-begins : are_all_told (state_of kept) query told (state_of kept).entries ≡ true → (lists : ℕ → List Answer) → ((n : ℕ) → lists n ≡ []) → IsGaining kept query told told 0 lists
  gaining-begins all lists empty =
      let whole = rest-all 0 0 t'.next t'.entries rise (omega arith) in
      record {
        enough = subst (λ (es : List Entry). AreEnough (asked_by k' query) told es) (sym whole)
            (told-enough (state_of kept) query k' (sym (λ i n. kept-answers kept h n i)) (facts_kept kept) told t'.entries all);
        rest = λ n low. ap (λ (es : List Entry). gained k' query told es n) whole;
        done = λ n low. absurd (omega (arith, low));
        none = λ n low. empty n;
      }

  module _ (left : List (List ℕ)) (number : ℕ) (lists : ℕ → List Answer) (g : IsGaining kept query told left number lists) where
    pub gaining-enough : length (asked_at kept query number) ≤ length left
    gaining-enough = (enough-next (asked_by k' query) number 0 t'.next left t'.entries rise g.enough).0

    pub gaining-goes : (next : List (List ℕ)) (new : ℕ → List Answer) → next ≡ drop (length (asked_at kept query number)) left →
        ((n : ℕ) → new n ≡ (if n == number then with_answers (answers_to (asked_at kept query number) left) (k' number) else lists n)) → IsGaining kept query told next (number + 1) new
    gaining-goes next new is puts = record {
      enough = subst (λ (left : List (List ℕ)). AreEnough (asked_by k' query) left (rest_from (number + 1) t'.entries)) (sym is) (enough-next (asked_by k' query) number 0 t'.next left t'.entries rise g.enough).1;
      rest = λ n low.
          let other = ne_eqb number n (λ same. omega (arith, low, same)) in
          ap (λ (left : List (List ℕ)). gained k' query left (rest_from (number + 1) t'.entries) n) is
          ∙ sym (gained-next k' query number 0 t'.next n left t'.entries rise ∙ ap (λ (b : Bool). cond b (answers_to (asked_at kept query number) left) (gained k' query (drop (length (asked_at kept query number)) left) (rest_from (number + 1) t'.entries) n)) other)
          ∙ g.rest n (omega (arith, low));
      done = λ n low. puts n ∙ at n low (n == number) refl;
      none = λ n low.
          let other = ne_eqb n number (λ same. omega (arith, low, same)) in
          puts n ∙ ap (λ (b : Bool). if b then with_answers (answers_to (asked_at kept query number) left) (k' number) else lists n) other ∙ g.none n (omega (arith, low));
    }
      where
        own : gained k' query told t'.entries number ≡ answers_to (asked_at kept query number) left
        own =
            sym (g.rest number (omega arith)) ∙ gained-next k' query number 0 t'.next number left t'.entries rise
            ∙ ap (λ (b : Bool). cond b (answers_to (asked_at kept query number) left) (gained k' query (drop (length (asked_at kept query number)) left) (rest_from (number + 1) t'.entries) number)) (eq-eqb number number refl)

        at : (n : ℕ) → n < number + 1 → (b : Bool) → (n == number) ≡ b → (if b then with_answers (answers_to (asked_at kept query number) left) (k' number) else lists n) ≡ answers_then k' query told t' n
        at n low true here = sym (ap (answers_then k' query told t') (eqb-true n number here) ∙ ap (λ (more : List Answer). with_answers more (k' number)) own)
        at n low false other = g.done n (let apart = eqb-false n number other in below apart)
          where
            below : (n ≡ number → ⊥) → n < number
            below apart = elim (cases_lt n number) [ inl less ↦ less | inr more ↦ absurd (apart (omega (arith, low, more))) ]

    -- what is no entry is told nothing
    pub gaining-passes : entry_at t'.entries number ≡ None → IsGaining kept query told left (number + 1) lists
    gaining-passes none =
        let plain : is_mount_at t'.entries number ≡ false = ap (λ (o : Option Entry). option_map_or is_mount (option_map (λ (e : Entry). e.body) o) false) none in
        gaining-goes left lists (ap (λ (k : ℕ). drop k left) (ap (λ (ts : List Term). length ts) (sym (plain-asked kept h query number plain))))
        (nothing-put kept h query left number plain lists (g.none number (omega arith)))

  pub gaining-ends : (left : List (List ℕ)) (number : ℕ) (lists : ℕ → List Answer) → IsGaining kept query told left number lists → number ≡ t'.next → (n : ℕ) → lists n ≡ answers_then k' query told t' n
  gaining-ends left number lists g end n = elim (cases_lt n number) [
    | inl less ↦ g.done n less
    | inr more ↦ g.none n more ∙ sym (none more)
  ]
    where
      gains : number ≤ n → gained k' query told t'.entries n ≡ []
      gains more = sym (g.rest n more) ∙ ap (λ (from : ℕ). gained k' query left (rest_from from t'.entries) n) end ∙ ap (λ (es : List Entry). gained k' query left es n) (rest-none 0 t'.next t'.entries rise)

      keeps : number ≤ n → k' n ≡ []
      keeps more = ap (λ (facts : Facts). facts.answers) (sym (h.own n)) ∙ ap (λ (o : Option Entry). (facts_at (is_directory_at (state_of kept).entries) o).answers) (entry_at-next 0 (state_of kept).entries (state_of kept).next n h.valid.layout.numbers (omega (arith, more, end)))

      none : number ≤ n → answers_then k' query told t' n ≡ []
      none more = (λ i. with_answers (gains more i) (keeps more i))
