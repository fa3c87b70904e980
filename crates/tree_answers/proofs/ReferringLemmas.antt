-- Which directories refer to another, by a graph and by the entries.
use Rattle.std.proofs.Common.{◌≡◌, ℕ, suc, Bool, true, false, cond, List, [], ◌∷◌, ◌++◌, length, map, filter, eqb, refl, ap, sym, ◌∙◌, arith, inl, inr, ne_eqb, eqb-true}
use Rattle.std.specs.Prelude.{◌==◌, ◌&&◌, ◌||◌, ◌↔◌, not, drop, Option, Some, None, IsPermutation, IsSorted, option_and_then}
use Rattle.std.specs.List.{AllByRecursion, IsDistinct, list_all}
use Rattle.std.specs.Option.{option_map, option_map_or}
use Rattle.std.specs.Ordering.{nat_cmp}
use Rattle.std.proofs.lemmas.List.Folds.{list_any-append}
use Rattle.std.proofs.lemmas.List.Sorted.{IsNonDecreasingBy-from_sort, list_any-IsPermutation}
use Rattle.std.proofs.lemmas.Map.Keys.{IsDistinct-IsPermutation, IsStrictlyIncreasing-from_distinct}
use Rattle.std.proofs.lemmas.Simd.{map-map}
use Rattle.hac_model.specs.Tree.Depends.{Among, depends, named_in, referrers, refers_to}
use Rattle.hac_model.specs.Tree.Events.{is_unreferenced}
use Rattle.hac_model.specs.Query.Formula.{Formula}
use Rattle.hac_model.specs.Tree.Links.{has}
use Rattle.hac_model.specs.Tree.{entry_at, is_directory_at, path_of, permanent_in, query_in}
use Rattle.hac_model.specs.Tree.Valid.{IsValid, NumbersRise}
use Rattle.hac_model.specs.declared.states.Body.{Body}
use Rattle.hac_model.specs.declared.states.Body.TheVariants.{File, Dir, Symlink, Semantic, Mount, Document}
use Rattle.hac_model.specs.declared.states.Entry.{Entry}
use Rattle.hac_model.specs.declared.states.State.{State}
use Rattle.hac_model.proofs.ChangeLemmas.{numbers-filter}
use Rattle.hac_model.proofs.MarkLemmas.{has-filter}
use Rattle.hac_model.proofs.TreeLemmas.{entry_at-low}
use Rattle.file_tree.specs.Answers.{numbers_of}
use Rattle.file_tree.proofs.LiveLemmas.{numbers-rise}
use Rattle.file_tree.proofs.RisingLemmas.{has-first, rising-one}
use Rattle.dep_graph.specs.Graphs as graph
use Rattle.dep_graph.specs.Graphs.{referred_by}
use Rattle.dep_graph.specs.Searches.{EachOnce}
use Rattle.kept_state.specs.Readers.{AreEdgesOf}
use Rattle.hac_model.proofs.SortedLemmas.{steps-rise}
use Rattle.hac_model.proofs.AmongLemmas.{among-has, eqb-turned, has-among}

-- Who is among numbers.

has-same : (ms ns : List ℕ) (m n : ℕ) → Among ms m ↔ Among ns n → has ms m ≡ has ns n
has-same ms ns m n same = by_tests (has ms m) (has ns n) refl refl
  where
    by_tests : (a b : Bool) → has ms m ≡ a → has ns n ≡ b → a ≡ b
    by_tests true true left right = refl
    by_tests false false left right = refl
    by_tests true false left right = sym (among-has ns n (same.0 (has-among ms m left))) ∙ right
    by_tests false true left right = sym left ∙ among-has ms m (same.1 (has-among ns n right))

each-apart : (n : ℕ) (ns : List ℕ) → (Among ns n → ⊥) → AllByRecursion (λ m. eqb n m ≡ false) ns
each-apart n [] apart = tt
each-apart n (m ∷ ns) apart = (ne_eqb n m (λ same. apart (inl (sym same))), each-apart n ns (λ more. apart (inr more)))

once-distinct : (ns : List ℕ) → EachOnce ns → IsDistinct eqb ns
unfolding IsDistinct
once-distinct [] once = tt
once-distinct (n ∷ ns) once = (each-apart n ns once.0, once-distinct ns once.1)

-- Entries.

module _ (test : Entry → Bool) where
  -- those that pass are the entries that pass
  has-passing : (above : ℕ) (es : List Entry) (next n : ℕ) → NumbersRise above es next → has (numbers_of (filter test es)) n ≡ option_map_or test (entry_at es n) false
  has-passing above [] next n h = refl
  has-passing above (e ∷ es) next n h = by_tests (has-passing e.number es next n h.1) (test e) (e.number == n) refl refl
    where
      by_tests : has (numbers_of (filter test es)) n ≡ option_map_or test (entry_at es n) false → (passes here : Bool) → test e ≡ passes → (e.number == n) ≡ here → has (numbers_of (cond passes (e ∷ filter test es) (filter test es))) n ≡ option_map_or test (cond here (Some e) (entry_at es n)) false
      by_tests rest true true passes is = ap (λ (b : Bool). b || has (numbers_of (filter test es)) n) is ∙ sym passes
      by_tests rest true false passes other = ap (λ (b : Bool). b || has (numbers_of (filter test es)) n) other ∙ rest
      by_tests rest false true fails is = rest ∙ ap (λ (o : Option Entry). option_map_or test o false) (entry_at-low e.number es next n h.1 (omega (arith, eqb-true e.number n is))) ∙ sym fails
      by_tests rest false false fails other = rest

-- a directory refers to another where it depends on it, beside its own directory
refers-has : (s : State) (dir q : ℕ) → is_directory_at s.entries dir ≡ true → option_map_or (refers_to dir) (entry_at s.entries q) false ≡ has (drop 1 (depends s q)) dir
refers-has s dir q there = by_entry (entry_at s.entries q)
  where
    is_dir : ℕ → Bool
    is_dir = is_directory_at s.entries

    among : (asked : Formula ℕ) (permanent : List ℕ) → (has (named_in asked) dir || has permanent dir) ≡ has (named_in asked ++ filter is_dir permanent) dir
    among asked permanent = sym (list_any-append (λ other. other == dir) (named_in asked) (filter is_dir permanent) ∙ ap (λ (b : Bool). has (named_in asked) dir || b) (has-filter is_dir permanent dir ∙ ap (λ (b : Bool). b && has permanent dir) there))

    by_body : (parent : ℕ) (b : Body) → (option_map_or (λ asked. has (named_in asked) dir) (query_in b) false || has (permanent_in b) dir) ≡ has (drop 1 (option_map_or (λ asked. parent ∷ named_in asked ++ filter is_dir (permanent_in b)) (query_in b) [])) dir
    by_body parent (Semantic asked permanent prohibited) = among asked permanent
    by_body parent (File text dirty shown) = refl
    by_body parent Dir = refl
    by_body parent (Symlink target) = refl
    by_body parent (Mount space answers) = refl
    by_body parent Document = refl

    by_entry : (o : Option Entry) → option_map_or (refers_to dir) o false ≡ has (drop 1 (option_map_or (λ asked. option_map_or (λ (e : Entry). e.parent) o 0 ∷ named_in asked ++ filter is_dir (option_map_or permanent_in (option_map (λ (e : Entry). e.body) o) [])) (option_and_then query_in (option_map (λ (e : Entry). e.body) o)) [])) dir
    by_entry None = refl
    by_entry (Some e) = by_body e.parent e.body

longer : (n : ℕ) → (suc n == 0) ≡ false
longer n = ne_eqb (suc n) 0 (λ same. omega (arith, same))

-- the filter of an empty list is empty
none-left : (test : Entry → Bool) (es : List Entry) → list_all (λ e. not (test e)) es ≡ (length (numbers_of (filter test es)) == 0)
none-left test [] = refl
none-left test (e ∷ es) = elim (test e) as (λ b. (not b && list_all (λ e. not (test e)) es) ≡ (length (numbers_of (cond b (e ∷ filter test es) (filter test es))) == 0)) [ true ↦ sym (longer (length (numbers_of (filter test es)))) | false ↦ none-left test es ]

-- two lists with the same numbers have none, or both some
both-empty : (ms ns : List ℕ) → ((n : ℕ) → has ms n ≡ has ns n) → (length ms == 0) ≡ (length ns == 0)
both-empty [] [] same = refl
both-empty (m ∷ ms) [] same = absurd (let none : true ≡ false = sym (has-first m ms) ∙ same m in cc)
both-empty [] (n ∷ ns) same = absurd (let none : false ≡ true = same n ∙ has-first n ns in cc)
both-empty (m ∷ ms) (n ∷ ns) same = longer (length ms) ∙ sym (longer (length ns))

module _ (s : State) (valid : IsValid s) (edges : graph.Seen) (are : AreEdgesOf s edges) (dir : ℕ) (there : is_directory_at s.entries dir ≡ true) (found : List ℕ) (named : (q : ℕ) → Among found q ↔ Among (referred_by edges q) dir) where
  -- the graph gave the entries that refer to the directory
  referrers-found : (q : ℕ) → has (numbers_of (referrers s dir)) q ≡ has found q
  referrers-found q =
      has-passing (refers_to dir) 0 s.entries s.next q valid.layout.numbers
      ∙ refers-has s dir q there
      ∙ ap (λ (ns : List ℕ). has (drop 1 ns) dir) (sym (are q))
      ∙ sym (has-same found (referred_by edges q) q dir (named q))

  pub unreferenced-told : is_unreferenced s dir ≡ (length found == 0)
  unreferenced-told = none-left (refers_to dir) s.entries ∙ both-empty (numbers_of (referrers s dir)) found referrers-found

  -- sorted, they have the paths of those entries in order
  pub paths-told : (sorted : List ℕ) → EachOnce found → IsPermutation found sorted → IsSorted nat_cmp sorted → map (path_of s) sorted ≡ map (λ (e : Entry). path_of s e.number) (referrers s dir)
  paths-told sorted once same order =
      ap (map (path_of s))
      (rising-one 0 0 sorted (numbers_of (referrers s dir))
      (steps-rise 0 sorted (λ n more is. omega arith) (IsStrictlyIncreasing-from_distinct sorted (IsNonDecreasingBy-from_sort (λ n. n) sorted order) (IsDistinct-IsPermutation eqb eqb-turned found sorted same (once-distinct found once))))
      (numbers-rise 0 0 (referrers s dir) s.next (numbers-filter (refers_to dir) 0 s.entries s.next valid.layout.numbers) (omega arith))
      (λ q. sym (referrers-found q ∙ list_any-IsPermutation (λ n. n == q) found sorted same)))
      ∙ map-map (path_of s) (λ (e : Entry). e.number) (referrers s dir)
