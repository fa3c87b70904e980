-- What a state tells once its files are indexed up to a number, and how it is reached step by step.
use Rattle.std.proofs.Common.{◌≡◌, ℕ, ◌<◌, ◌≤◌, Bool, true, false, cond, List, [], ◌∷◌, map, refl, ap, sym, ◌∙◌, subst, arith, eq-eqb}
use Rattle.std.specs.Prelude.{◌&&◌, ◌||◌, nat_le, not, Option, Some, None, option_and_then}
use Rattle.std.specs.List.{AllByRecursion}
use Rattle.std.specs.Option.{option_map, option_map_or, unwrap_or}
use Rattle.std.proofs.lemmas.Bool.{ne_eqb}
use Rattle.std.proofs.lemmas.Bool.Decides.{nat_tests}
use Rattle.file_tree.specs.Answers.{is_dirty_at}
use Rattle.hac_model.specs.Tree.Depends.{depends}
use Rattle.hac_model.specs.Tree.Events.{apply, changed_at, changed_in, edited, indexed, next_dirty}
use Rattle.hac_model.specs.Tree.Links.{answers_at, has, is_below, is_item, is_permanent, is_semantic, is_unmarked, kept_at, lenders, parent_of, permanent_at, prohibited_at, query_at, shown_of}
use Rattle.hac_model.specs.Tree.Valid.{IsLayout, IsSound, NumbersRise}
use Rattle.hac_model.specs.Tree.{answers_in, body_at, entry_at, is_directory, is_dirty, is_document, is_document_at, is_linkable, path_of, permanent_in, prohibited_in, query_in, shown_text, text_in}
use Rattle.hac_model.specs.declared.events.Event.TheVariants.{Step}
use Rattle.hac_model.specs.declared.states.Answer.{Answer}
use Rattle.hac_model.specs.declared.states.Body.{Body}
use Rattle.hac_model.specs.declared.states.Body.TheVariants.{File, Dir, Symlink, Semantic, Mount, Document}
use Rattle.hac_model.specs.declared.states.Entry.{Entry}
use Rattle.hac_model.specs.declared.states.State.{State}
use Rattle.hac_model.specs.declared.terms.Term.{Term}
use Rattle.hac_model.specs.Tree.Mounts.{kept_for}
use Rattle.hac_model.proofs.ChangeLemmas.{changed-low}
use Rattle.hac_model.proofs.TreeLemmas.{entry_at-number}
use Rattle.reindex.proofs.LeftLemmas.{Leaves, added-left, below-left, depends-left, entry_at-left, item-left, lenders-left, parent-left, path_of-left, permanent-left, prohibited-left, query-left, seen-left, semantic-left}
use Rattle.reindex.specs.Steps.{indexed_if, indexed_through, indexed_to}
use Rattle.reeval.proofs.OweLemmas.{indexed-query}
use Rattle.hac_model.proofs.KindLemmas.{role-indexed, keeps-document, keeps-item}

-- What indexing leaves.

-- the body of an entry once it is indexed, if its number isn't above this one
abbrev indexed_body : ℕ → Entry → Body
indexed_body last e = indexed_if (nat_le e.number last) e.body

-- what indexing leaves of each body is left of each entry
of_body : {X : Type 0} (view : Body → X) → ((b : Body) → view (indexed b) ≡ view b) → (last : ℕ) (e : Entry) → view (indexed_body last e) ≡ view e.body
of_body view same last e = elim (nat_le e.number last) as (λ b. view (indexed_if b e.body) ≡ view e.body) [ true ↦ same e.body | false ↦ refl ]

kept-directory : (b : Body) → is_directory (indexed b) ≡ is_directory b
kept-directory (File text dirty shown) = refl
kept-directory other = refl

kept-permanent : (b : Body) → permanent_in (indexed b) ≡ permanent_in b
kept-permanent (File text dirty shown) = refl
kept-permanent other = refl

kept-prohibited : (b : Body) → prohibited_in (indexed b) ≡ prohibited_in b
kept-prohibited (File text dirty shown) = refl
kept-prohibited other = refl

kept-answers : (b : Body) → answers_in (indexed b) ≡ answers_in b
kept-answers (File text dirty shown) = refl
kept-answers other = refl

leaves : (last : ℕ) → Leaves (indexed_body last)
leaves last = record {
  linkable = of_body is_linkable (keeps-item indexed role-indexed) last;
  directory = of_body is_directory kept-directory last;
  query = of_body query_in indexed-query last;
  permanent = of_body permanent_in kept-permanent last;
  prohibited = of_body prohibited_in kept-prohibited last;
}

entry_at-indexed : (last : ℕ) (es : List Entry) (n : ℕ) → entry_at (map (indexed_to last) es) n ≡ option_map (indexed_to last) (entry_at es n)
entry_at-indexed last = entry_at-left (indexed_body last)

module _ (last : ℕ) (s : State) where
  abbrev t : State
  t = indexed_through last s

  pub path_of-indexed : (n : ℕ) → path_of t n ≡ path_of s n
  path_of-indexed = path_of-left (indexed_body last) (leaves last) s

  pub item-indexed : (n : ℕ) → is_item t n ≡ is_item s n
  item-indexed = item-left (indexed_body last) (leaves last) s

  pub document-indexed : (n : ℕ) → is_document_at t.entries n ≡ is_document_at s.entries n
  document-indexed n = seen-left (indexed_body last) (λ o. option_map_or is_document (option_map (λ (e : Entry). e.body) o) false) s.entries n (of_body is_document (keeps-document indexed role-indexed) last)

  pub parent-indexed : (n : ℕ) → parent_of t n ≡ parent_of s n
  parent-indexed = parent-left (indexed_body last) (leaves last) s

  pub query-indexed : (n : ℕ) → query_at t n ≡ query_at s n
  query-indexed = query-left (indexed_body last) (leaves last) s

  pub semantic-indexed : (n : ℕ) → is_semantic t n ≡ is_semantic s n
  semantic-indexed = semantic-left (indexed_body last) (leaves last) s

  pub permanent-indexed : (n : ℕ) → permanent_at t n ≡ permanent_at s n
  permanent-indexed = permanent-left (indexed_body last) (leaves last) s

  pub prohibited-indexed : (n : ℕ) → prohibited_at t n ≡ prohibited_at s n
  prohibited-indexed = prohibited-left (indexed_body last) (leaves last) s

  answers-indexed : (n : ℕ) → answers_at t n ≡ answers_at s n
  answers-indexed n = seen-left (indexed_body last) (λ o. option_map_or answers_in (option_map (λ (e : Entry). e.body) o) []) s.entries n (of_body answers_in kept-answers last)

  pub kept-indexed : (n : ℕ) (term : Term) → kept_at t n term ≡ kept_at s n term
  kept-indexed n term = ap (λ (answers : List Answer). unwrap_or (kept_for answers term) []) (answers-indexed n)

  pub lenders-indexed : (n : ℕ) → lenders t n ≡ lenders s n
  lenders-indexed = lenders-left (indexed_body last) (leaves last) s

  pub depends-indexed : (n : ℕ) → depends t n ≡ depends s n
  depends-indexed = depends-left (indexed_body last) (leaves last) s

  pub below-indexed : (d n : ℕ) → is_below t d n ≡ is_below s d n
  below-indexed = below-left (indexed_body last) (leaves last) s

  -- marks
  pub added-indexed : (d n : ℕ) → (is_permanent t d n && is_item t n) ≡ (is_permanent s d n && is_item s n)
  added-indexed = added-left (indexed_body last) (leaves last) s

  pub unmarked-indexed : (d n : ℕ) → is_unmarked t d n ≡ is_unmarked s d n
  unmarked-indexed d n = λ i. not (has (permanent-indexed d i) n || has (prohibited-indexed d i) n)

  -- what the mount of a document keeps
  pub told-indexed : (n : ℕ) (term : Term) → has (kept_at t (parent_of t n) term) n ≡ has (kept_at s (parent_of s n) term) n
  told-indexed n term = ap (λ (m : ℕ). has (kept_at t m term) n) (parent-indexed n) ∙ ap (λ (numbers : List ℕ). has numbers n) (kept-indexed (parent_of s n) term)

-- What it changes.

-- the text of a file
abbrev pub text_of : State → ℕ → Option (List ℕ)
text_of s n = option_and_then text_in (body_at s.entries n)

-- by the number of the entry that is looked up
numbered : {X : Type 0} (es : List Entry) (n : ℕ) (old : ℕ → Option Entry → X) (new : Option Entry → X) → ((k : ℕ) → old k None ≡ new None) → ((e : Entry) → old e.number (Some e) ≡ new (Some e)) → old n (entry_at es n) ≡ new (entry_at es n)
numbered es n old new none some = at (entry_at es n) refl
  where
    at : (o : Option Entry) → entry_at es n ≡ o → old n o ≡ new o
    at None found = none n
    at (Some e) found = ap (λ (k : ℕ). old k (Some e)) (sym (entry_at-number es n e found)) ∙ some e

shown-if : (b : Bool) (body : Body) → cond b (text_in body) (shown_text body) ≡ shown_text (indexed_if b body)
shown-if true (File text dirty shown) = refl
shown-if true Dir = refl
shown-if true (Symlink target) = refl
shown-if true (Semantic query permanent prohibited) = refl
shown-if true (Mount space answers) = refl
shown-if true Document = refl
shown-if false body = refl

-- a file that is indexed is clean
pub dirty-if : (b : Bool) (body : Body) → cond b false (is_dirty body) ≡ is_dirty (indexed_if b body)
dirty-if true (File text dirty shown) = refl
dirty-if true other = refl
dirty-if false body = refl

neither : {X : Type 0} (b : Bool) (x : X) → cond b x x ≡ x
neither true x = refl
neither false x = refl

-- a file that isn't above shows its text
pub shown-indexed : (last : ℕ) (s : State) (n : ℕ) → shown_of (indexed_through last s) n ≡ cond (nat_le n last) (text_of s n) (shown_of s n)
shown-indexed last s n =
    ap (λ (o : Option Entry). option_and_then shown_text (option_map (λ (e : Entry). e.body) o)) (entry_at-indexed last s.entries n)
    ∙ sym (numbered s.entries n
    (λ k o. cond (nat_le k last) (option_and_then text_in (option_map (λ (e : Entry). e.body) o)) (option_and_then shown_text (option_map (λ (e : Entry). e.body) o)))
    (λ o. option_and_then shown_text (option_map (λ (e : Entry). e.body) (option_map (indexed_to last) o)))
    (λ k. neither (nat_le k last) None)
    (λ e. shown-if (nat_le e.number last) e.body))

pub shown-low : (last : ℕ) (s : State) (n : ℕ) → n ≤ last → shown_of (indexed_through last s) n ≡ text_of s n
shown-low last s n low = let within : nat_le n last ≡ true = grind (arith, nat_tests) in shown-indexed last s n ∙ ap (λ (b : Bool). cond b (text_of s n) (shown_of s n)) within

-- one that is above shows what it showed
pub shown-high : (last : ℕ) (s : State) (n : ℕ) → last < n → shown_of (indexed_through last s) n ≡ shown_of s n
shown-high last s n high = let out : nat_le n last ≡ false = grind (arith, nat_tests) in shown-indexed last s n ∙ ap (λ (b : Bool). cond b (text_of s n) (shown_of s n)) out

-- what isn't above is clean
pub dirty-indexed : (last : ℕ) (s : State) (n : ℕ) → is_dirty_at (indexed_through last s).entries n ≡ cond (nat_le n last) false (is_dirty_at s.entries n)
dirty-indexed last s n =
    ap (λ (o : Option Entry). option_map_or is_dirty (option_map (λ (e : Entry). e.body) o) false) (entry_at-indexed last s.entries n)
    ∙ sym (numbered s.entries n
    (λ k o. cond (nat_le k last) false (option_map_or is_dirty (option_map (λ (e : Entry). e.body) o) false))
    (λ o. option_map_or is_dirty (option_map (λ (e : Entry). e.body) (option_map (indexed_to last) o)) false)
    (λ k. neither (nat_le k last) false)
    (λ e. dirty-if (nat_le e.number last) e.body))

-- the numbers rise as before
pub rise-indexed : (last above : ℕ) (es : List Entry) (next : ℕ) → NumbersRise above es next → NumbersRise above (map (indexed_to last) es) next
rise-indexed last above [] next h = h
rise-indexed last above (e ∷ es) next h = (h.0, rise-indexed last e.number es next h.1)

-- From step to step.

-- a clean file shows its text
pub clean-indexed : (b : Body) → IsSound b → is_dirty b ≡ false → indexed b ≡ b
clean-indexed (File text dirty shown) sound clean = λ i. File text (sym clean i) (sym (sound.clean clean) i)
clean-indexed Dir sound clean = refl
clean-indexed (Symlink target) sound clean = refl
clean-indexed (Semantic query permanent prohibited) sound clean = refl
clean-indexed (Mount space answers) sound clean = refl
clean-indexed Document sound clean = refl

-- nothing is indexed of what is above
above-indexed : (last above : ℕ) (es : List Entry) (next : ℕ) → NumbersRise above es next → last ≤ above → map (indexed_to last) es ≡ es
above-indexed last above [] next h low = refl
above-indexed last above (e ∷ es) next h low =
    let first : above < e.number = h.0 in
    let out : nat_le e.number last ≡ false = grind (arith, nat_tests) in
    λ i. edited (indexed_if (out i)) e ∷ above-indexed last e.number es next h.1 (omega arith) i

-- so none is up to the number 0
pub indexed-none : (s : State) → IsLayout s → indexed_through 0 s ≡ s
indexed-none s h = ap (λ (es : List Entry). record s { entries = es }) (above-indexed 0 0 s.entries s.next h.numbers (omega arith))

-- the next dirty file is behind those that were indexed, and is indexed then
pub record IsNext (above last file : ℕ) (es : List Entry) : Type 0 where
  pub high : above < file
  pub more : last < file
  pub then : changed_in file (edited indexed) (map (indexed_to last) es) ≡ map (indexed_to file) es

-- the same of those behind one
abbrev NextBehind : ℕ → ℕ → Entry → List Entry → Type 0
NextBehind last file e es = next_dirty (map (indexed_to last) es) ≡ Some file → IsNext e.number last file es

next-indexed : (above last file : ℕ) (es : List Entry) (next : ℕ) → NumbersRise above es next → AllByRecursion (λ e. IsSound e.body) es → next_dirty (map (indexed_to last) es) ≡ Some file → IsNext above last file es
next-indexed above last file [] next h sound found = absurd cc
next-indexed above last file (e ∷ es) next h sound found = at (next-indexed e.number last file es next h.1 sound.1) (nat_le e.number last) (is_dirty e.body) refl refl
  where
    later : NextBehind last file e es → (b : Bool) → nat_le e.number last ≡ b → is_dirty (indexed_if b e.body) ≡ false → indexed_if b e.body ≡ indexed e.body → IsNext above last file (e ∷ es)
    later rest b is clean same =
        let first : above < e.number = h.0 in
        let tail = rest (ap (λ (c : Bool). cond c (Some e.number) (next_dirty (map (indexed_to last) es))) (sym (ap (λ (c : Bool). is_dirty (indexed_if c e.body)) is ∙ clean)) ∙ found) in
        let high : e.number < file = tail.high in
        let within : nat_le e.number file ≡ true = grind (arith, nat_tests) in
        record {
          high = omega arith;
          more = tail.more;
          then = λ i. (ap (λ (c : Bool). cond c (edited indexed (indexed_to last e)) (indexed_to last e)) (ne_eqb e.number file (λ even. omega arith))
              ∙ ap (λ (c : Bool). edited (indexed_if c) e) is ∙ ap (λ (body : Body). record e { body = body }) same ∙ ap (λ (c : Bool). edited (indexed_if c) e) (sym within)) i
              ∷ tail.then i;
        }

    at : NextBehind last file e es → (b c : Bool) → nat_le e.number last ≡ b → is_dirty e.body ≡ c → IsNext above last file (e ∷ es)
    at rest true c is dirt = later rest true is (sym (dirty-if true e.body)) refl
    at rest false false is dirt = later rest false is dirt (sym (clean-indexed e.body sound.0 dirt))
    at rest false true is dirt =
        let first : above < e.number = h.0 in
        let here : e.number ≡ file = some-same (ap (λ (c : Bool). cond (is_dirty (indexed_if c e.body)) (Some e.number) (next_dirty (map (indexed_to last) es))) (sym is) ∙ found) in
        let more : last < e.number = grind (arith, nat_tests) in
        subst (λ (f : ℕ). IsNext above last f (e ∷ es)) here (record {
          high = first;
          more = more;
          then = λ i. (ap (λ (c : Bool). cond c (edited indexed (indexed_to last e)) (indexed_to last e)) (eq-eqb e.number e.number refl)
              ∙ ap (λ (c : Bool). edited indexed (edited (indexed_if c) e)) is ∙ ap (λ (c : Bool). edited (indexed_if c) e) (sym (own e.number))) i
              ∷ (ap (changed_in e.number (edited indexed)) (above-indexed last e.number es next h.1 (omega arith))
              ∙ changed-low e.number (edited indexed) e.number es next h.1 (omega arith) ∙ sym (above-indexed e.number e.number es next h.1 (omega arith))) i;
        })
      where
        own : (n : ℕ) → nat_le n n ≡ true
        own n = grind (arith, nat_tests)

        some-same : cond (is_dirty e.body) (Some e.number) (next_dirty (map (indexed_to last) es)) ≡ Some file → e.number ≡ file
        some-same known = let same : Some e.number ≡ Some file = ap (λ (c : Bool). cond c (Some e.number) (next_dirty (map (indexed_to last) es))) (sym dirt) ∙ known in cc

-- a step goes on with the next dirty file
pub step-indexed : (last file : ℕ) (s : State) → IsLayout s → next_dirty (indexed_through last s).entries ≡ Some file → (last < file) × (apply (indexed_through last s) Step ≡ indexed_through file s)
step-indexed last file s h found =
    let next = next-indexed 0 last file s.entries s.next h.numbers h.bodies found in (
      next.more,
      ap (λ (o : Option ℕ). option_map_or (λ n. changed_at (indexed_through last s) n (edited indexed)) o (indexed_through last s)) found
          ∙ ap (λ (es : List Entry). record s { entries = es }) next.then,
    )
