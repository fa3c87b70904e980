-- A query that is read is as a line spells it: it holds no more than a query may, and its directories begin at the
-- root.
use Rattle.std.proofs.Common.{◌≡◌, ℕ, zero, suc, ◌+◌, ◌≤◌, Bool, true, false, cond, List, [], ◌∷◌, ◌++◌, length, Option, Some, None, Result, Ok, Err, refl, ap, sym, subst, ◌∙◌, arith, length-append, le_refl}
use Rattle.std.specs.Prelude.{◌&&◌, ◌==◌, nat_le, nat_lt, max, map, slice_index, codes, option_and_then, ⊤}
use Rattle.std.specs.Char.{to_ascii_lowercase}
use Rattle.std.specs.List.{list_all}
use Rattle.std.specs.Option.{option_map, ok_or, IfSome}
use Rattle.std.specs.Str.{bytes_eq}
use Rattle.std.proofs.lemmas.Bool.{and_parts, and_from, cond_both}
use Rattle.std.proofs.lemmas.Bool.Decides.{nat_tests}
use Rattle.std.proofs.lemmas.List.Folds.{list_all-append}
use Rattle.hac_model.specs.Run.Answers.{and_then}
use Rattle.hac_model.specs.Bytes.{is_backslash, is_slash, is_space}
use Rattle.hac_model.specs.Query.Formula.{Formula}
use Rattle.hac_model.specs.Query.Formula as formula
use Rattle.hac_model.specs.Query.Grammar.{is_control, Leaf, Word, Prefix, Dir, leaf_part, not_part, and_part, or_part, group_part}
use Rattle.hac_model.specs.Script.PathWords.{is_bad, has_long_part, untested_word, relative, parts, at_root, word_of}
use Rattle.hac_model.specs.Tree.Paths.{are_names}
use Rattle.hac_model.specs.Query.Queries.{are_terms, is_operator, is_query, letter_count, not_count, term_count}
use Rattle.hac_model.specs.Query.QueryReading.{join_and, join_or, nots_part, enter, negate, receive, whole_part, after_and, after_or, grouped, leave, ungrouped, finish, kind_of, operand_begins, sign_begins, operator_begins, after_run, token_begins, run_ends, run_step, brace_step, path_step, escape_step, operand_step, sign_ends, operator_step, kind_step, step, ended_token, read_whole, fresh_reader, goes_on, read_on, parsed, named, worded, limited_query, spelled_query, read_query, are_rooted, is_spelled_query}
use Rattle.hac_model.specs.Query.Words.{has_bytes, is_word, is_word_byte, is_lower_word_byte, lower_case}
use Rattle.hac_model.specs.declared.limits.TheConstants.{QUERY_LIMIT, TERMS_LIMIT, NESTING_LIMIT}
use Rattle.hac_model.specs.declared.paths.PathWord.{PathWord}
use Rattle.hac_model.specs.declared.reading.ByteKind.{ByteKind}
use Rattle.hac_model.specs.declared.reading.ByteKind.TheVariants as kind
use Rattle.hac_model.specs.declared.reading.Ended.{Ended}
use Rattle.hac_model.specs.declared.reading.Level.{Level}
use Rattle.hac_model.specs.declared.reading.Operand.{Operand}
use Rattle.hac_model.specs.declared.reading.Operand.TheVariants as operand
use Rattle.hac_model.specs.declared.reading.Operator.{Operator}
use Rattle.hac_model.specs.declared.reading.Operator.TheVariants as operator
use Rattle.hac_model.specs.declared.reading.Part.{Part}
use Rattle.hac_model.specs.declared.reading.Reader.{Reader}
use Rattle.hac_model.specs.declared.reading.Reader.TheVariants.{Wants, Ends}
use Rattle.hac_model.specs.declared.reading.Stack.{Stack}
use Rattle.hac_model.specs.declared.reading.Stack.TheVariants.{Wanting, Ending}
use Rattle.hac_model.specs.declared.reading.Wanted.{Wanted}
use Rattle.hac_model.specs.declared.replies.Refusal.{Refusal}
use Rattle.hac_model.proofs.WordLemmas.{word_of-names}

-- What is known of a part.

-- the bytes of a path begin at the root
abbrev IsRooted : List ℕ → Type 0
IsRooted [] = ⊥
IsRooted (b ∷ path) = is_slash b ≡ true

abbrev AreRooted : Formula (List ℕ) → Type 0
AreRooted (formula.Term asked) = ⊤
AreRooted (formula.Dir path) = IsRooted path
AreRooted (formula.Not asked) = AreRooted asked
AreRooted (formula.And left right) = AreRooted left × AreRooted right
AreRooted (formula.Or left right) = AreRooted left × AreRooted right

-- its words are those of texts, its paths begin at the root, and it has no more `NOT`s on a way down than its nesting
record IsGood (part : Part) : Type 0 where
  terms : are_terms part.query ≡ true
  paths : AreRooted part.query
  nots : not_count part.query ≤ part.nesting

abbrev GoodIfAny : Option Part → Type 0
GoodIfAny None = ⊤
GoodIfAny (Some part) = IsGood part

abbrev GoodLevel : Level → Type 0
GoodLevel l = GoodIfAny l.ors × GoodIfAny l.ands

abbrev GoodLevels : List Level → Type 0
GoodLevels [] = ⊤
GoodLevels (l ∷ outer) = GoodLevel l × GoodLevels outer

-- the letters of all terms that were read
abbrev letters : Part → ℕ
letters part = letter_count part.query

abbrev any_letters : Option Part → ℕ
any_letters None = 0
any_letters (Some part) = letters part

abbrev level_letters : Level → ℕ
level_letters l = any_letters l.ors + any_letters l.ands

abbrev all_letters : List Level → ℕ
all_letters [] = 0
all_letters (l ∷ outer) = level_letters l + all_letters outer

-- what is wanted, or held, is good, and has at most this many letters
record WantedGood (n : ℕ) (w : Wanted) : Type 0 where
  level : GoodLevel w.level
  outer : GoodLevels w.outer
  few : level_letters w.level + all_letters w.outer ≤ n

record EndedGood (n : ℕ) (h : Ended) : Type 0 where
  ors : GoodIfAny h.ors
  part : IsGood h.part
  outer : GoodLevels h.outer
  few : any_letters h.ors + letters h.part + all_letters h.outer ≤ n

record PartGood (n : ℕ) (part : Part) : Type 0 where
  good : IsGood part
  few : letters part ≤ n

-- Parts that are joined.

good-not : (part : Part) → IsGood part → IsGood (not_part part)
good-not part good = record { terms = good.terms; paths = good.paths; nots = let h : not_count part.query ≤ part.nesting = good.nots in omega arith }

good-nots : (n : ℕ) (part : Part) → IsGood part → IsGood (nots_part n part)
good-nots zero part good = good
good-nots (suc n) part good = good-nots n (not_part part) (good-not part good)

letters-nots : (n : ℕ) (part : Part) → letters (nots_part n part) ≡ letters part
letters-nots zero part = refl
letters-nots (suc n) part = letters-nots n (not_part part)

good-group : (part : Part) → IsGood part → IsGood (group_part part)
good-group part good = record { terms = good.terms; paths = good.paths; nots = let h : not_count part.query ≤ part.nesting = good.nots in omega arith }

both-max : (a b c d : ℕ) → a ≤ c → b ≤ d → max a b ≤ max c d
both-max a b c d h k = grind arith

good-both : (left right : Part) → IsGood left → IsGood right → IsGood (and_part left right)
good-both left right one other = record {
  terms = and_from (are_terms left.query) (are_terms right.query) one.terms other.terms;
  paths = (one.paths, other.paths);
  nots = both-max (not_count left.query) (not_count right.query) left.nesting right.nesting one.nots other.nots;
}

good-either : (left right : Part) → IsGood left → IsGood right → IsGood (or_part left right)
good-either left right one other = record {
  terms = and_from (are_terms left.query) (are_terms right.query) one.terms other.terms;
  paths = (one.paths, other.paths);
  nots = both-max (not_count left.query) (not_count right.query) left.nesting right.nesting one.nots other.nots;
}

good-and : (left : Option Part) (part : Part) → GoodIfAny left → IsGood part → IsGood (join_and left part)
good-and None part any good = good
good-and (Some left) part any good = good-both left part any good

good-or : (left : Option Part) (part : Part) → GoodIfAny left → IsGood part → IsGood (join_or left part)
good-or None part any good = good
good-or (Some left) part any good = good-either left part any good

letters-and : (left : Option Part) (part : Part) → letters (join_and left part) ≡ any_letters left + letters part
letters-and None part = omega arith
letters-and (Some left) part = refl

letters-or : (left : Option Part) (part : Part) → letters (join_or left part) ≡ any_letters left + letters part
letters-or None part = omega arith
letters-or (Some left) part = refl

-- Tokens.

received : (n : ℕ) (part : Part) (w : Wanted) → IsGood part → GoodLevel w.level → GoodLevels w.outer
    → letters part + (level_letters w.level + all_letters w.outer) ≤ n → EndedGood n (receive part w)
received n part w good level outer few = record {
  ors = level.0;
  part = good-and w.level.ands (nots_part w.level.nots part) level.1 (good-nots w.level.nots part good);
  outer = outer;
  few = omega (arith, few, letters-and w.level.ands (nots_part w.level.nots part), letters-nots w.level.nots part);
}

entered : (n : ℕ) (w : Wanted) → WantedGood n w → WantedGood n (enter w)
entered n w good = record { level = (tt, tt); outer = (good.level, good.outer); few = let few : level_letters w.level + all_letters w.outer ≤ n = good.few in omega (arith, few) }

negated : (n : ℕ) (w : Wanted) → WantedGood n w → WantedGood n (negate w)
negated n w good = record { level = good.level; outer = good.outer; few = good.few }

and_follows : (n : ℕ) (h : Ended) → EndedGood n h → WantedGood n (after_and h)
and_follows n h good = record { level = (good.ors, good.part); outer = good.outer; few = good.few }

or_follows : (n : ℕ) (h : Ended) → EndedGood n h → WantedGood n (after_or h)
or_follows n h good = record {
  level = (good-or h.ors h.part good.ors good.part, tt);
  outer = good.outer;
  few = let few : any_letters h.ors + letters h.part + all_letters h.outer ≤ n = good.few in omega (arith, few, letters-or h.ors h.part);
}

grouped-good : (n : ℕ) (part : Part) (outer : List Level) → IsGood part → GoodLevels outer → letters part + all_letters outer ≤ n
    → IfSome (grouped part outer) (λ h. EndedGood n h)
grouped-good n part [] good levels few = tt
grouped-good n part (level ∷ outer) good levels few =
    received n (group_part part) (record { level = level; outer = outer }) (good-group part good) levels.0 levels.1 few

whole-few : (n : ℕ) (h : Ended) → EndedGood n h → letters (whole_part h) + all_letters h.outer ≤ n
whole-few n h good = let few : any_letters h.ors + letters h.part + all_letters h.outer ≤ n = good.few in omega (arith, few, letters-or h.ors h.part)

left-good : (n : ℕ) (h : Ended) → EndedGood n h → IfSome (leave h) (λ h. EndedGood n h)
left-good n h good = grouped-good n (whole_part h) h.outer (good-or h.ors h.part good.ors good.part) good.outer (whole-few n h good)

ungrouped-good : (n : ℕ) (part : Part) (outer : List Level) → IsGood part → letters part + all_letters outer ≤ n
    → IfSome (ungrouped part outer) (λ part. PartGood n part)
ungrouped-good n part [] good few = record { good = good; few = omega (arith, few) }
ungrouped-good n part (level ∷ outer) good few = tt

finished : (n : ℕ) (h : Ended) → EndedGood n h → IfSome (finish h) (λ part. PartGood n part)
finished n h good = ungrouped-good n (whole_part h) h.outer (good-or h.ors h.part good.ors good.part) (whole-few n h good)

-- Words.

lower_byte : (b : ℕ) → is_word_byte b ≡ true → is_lower_word_byte (to_ascii_lowercase b) ≡ true
unfolding is_word_byte is_lower_word_byte
lower_byte b h = grind (arith, nat_tests, h)

lower_bytes : (bytes : List ℕ) → list_all is_word_byte bytes ≡ true → list_all is_lower_word_byte (map to_ascii_lowercase bytes) ≡ true
lower_bytes [] h = refl
lower_bytes (b ∷ bytes) h =
    let parts = and_parts (is_word_byte b) (list_all is_word_byte bytes) h in
    and_from (is_lower_word_byte (to_ascii_lowercase b)) (list_all is_lower_word_byte (map to_ascii_lowercase bytes)) (lower_byte b parts.0) (lower_bytes bytes parts.1)

has_bytes-lower : (bytes : List ℕ) → has_bytes bytes ≡ true → has_bytes (lower_case bytes) ≡ true
has_bytes-lower [] h = h
has_bytes-lower (b ∷ bytes) h = grind (arith, nat_tests)

length-lower : (bytes : List ℕ) → length (lower_case bytes) ≡ length bytes
length-lower [] = refl
length-lower (b ∷ bytes) = ap suc (length-lower bytes)

-- the bytes are a run of a word's bytes
record IsRun (run : List ℕ) : Type 0 where
  some : has_bytes run ≡ true
  all : list_all is_word_byte run ≡ true

-- a run in letters of either case is a word in lower case
word-lower : (run : List ℕ) → IsRun run → is_word (lower_case run) ≡ true
unfolding is_word
word-lower run is = and_from (has_bytes (lower_case run)) (list_all is_lower_word_byte (lower_case run)) (has_bytes-lower run is.some) (lower_bytes run is.all)

run-begins : (b : ℕ) → is_word_byte b ≡ true → IsRun (b ∷ [])
run-begins b is = record { some = refl; all = and_from (is_word_byte b) true is refl }

some-more : (run : List ℕ) (b : ℕ) → has_bytes (run ++ b ∷ []) ≡ true
some-more [] b = refl
some-more (c ∷ run) b = grind (arith, nat_tests)

run-more : (run : List ℕ) (b : ℕ) → IsRun run → is_word_byte b ≡ true → IsRun (run ++ b ∷ [])
run-more run b is word = record {
  some = some-more run b;
  all = list_all-append is_word_byte run (b ∷ []) ∙ and_from (list_all is_word_byte run) (is_word_byte b && true) is.all (and_from (is_word_byte b) true word refl);
}

rooted-more : (path : List ℕ) (b : ℕ) → IsRooted path → IsRooted (path ++ b ∷ [])
rooted-more [] b is = elim is [ ]
rooted-more (c ∷ path) b is = is

good-word : (run : List ℕ) → IsRun run → IsGood (leaf_part (Word (lower_case run)))
good-word run is = record { terms = word-lower run is; paths = tt; nots = le_refl 0 }

good-prefix : (run : List ℕ) → IsRun run → IsGood (leaf_part (Prefix (lower_case run)))
good-prefix run is = record { terms = word-lower run is; paths = tt; nots = le_refl 0 }

good-dir : (path : List ℕ) → IsRooted path → IsGood (leaf_part (Dir path))
good-dir path is = record { terms = refl; paths = is; nots = le_refl 0 }

-- Bytes.

-- what is known of a byte of the kind
abbrev IsOf : ByteKind → ℕ → Type 0
IsOf kind.Word b = is_word_byte b ≡ true
IsOf kind.Slash b = is_slash b ≡ true
IsOf other b = ⊤

kind_is : (b : ℕ) → IsOf (kind_of b) b
unfolding kind_of
kind_is b =
    let P : ByteKind → Type 0 = λ k. IsOf k b in
    cond_both (is_word_byte b) kind.Word _ P (λ is. is) (λ _.
    cond_both (is_space b) kind.Space _ P (λ _. tt) (λ _.
    cond_both (b == 40) kind.Open _ P (λ _. tt) (λ _.
    cond_both (b == 41) kind.Close _ P (λ _. tt) (λ _.
    cond_both (b == 42) kind.Star _ P (λ _. tt) (λ _.
    cond_both (b == 123) kind.Brace _ P (λ _. tt) (λ _.
    cond_both (b == 125) kind.EndBrace _ P (λ _. tt) (λ _.
    cond_both (is_backslash b) kind.Backslash _ P (λ _. tt) (λ _.
    cond_both (is_slash b) kind.Slash _ P (λ is. is) (λ _.
    cond_both (is_control b) kind.Control kind.Foreign P (λ _. tt) (λ _. tt))))))))))

-- what was read of an operand adds letters only where it is a run
abbrev run_letters : Operand → ℕ
run_letters (operand.Run run) = length run
run_letters other = 0

abbrev GoodOperand : Operand → Type 0
GoodOperand operand.Nothing = ⊤
GoodOperand (operand.Run run) = IsRun run
GoodOperand operand.Brace = ⊤
GoodOperand (operand.Path path) = IsRooted path
GoodOperand (operand.Escape path) = IsRooted path

-- what was read of this many bytes is good
record WantsGood (n : ℕ) (read : Operand) (w : Wanted) : Type 0 where
  operand : GoodOperand read
  level : GoodLevel w.level
  outer : GoodLevels w.outer
  few : run_letters read + (level_letters w.level + all_letters w.outer) ≤ n

abbrev ReaderGood : ℕ → Reader → Type 0
ReaderGood n (Wants read w) = WantsGood n read w
ReaderGood n (Ends read h) = EndedGood n h

abbrev StackGood : ℕ → Stack → Type 0
StackGood n (Wanting w) = WantedGood n w
StackGood n (Ending h) = EndedGood n h

-- behind one byte more
abbrev NextGood : ℕ → Option Reader → Type 0
NextGood n next = IfSome next (λ reader. ReaderGood (n + 1) reader)

ended-more : (n : ℕ) (h : Ended) → EndedGood n h → EndedGood (n + 1) h
ended-more n h good = record {
  ors = good.ors;
  part = good.part;
  outer = good.outer;
  few = let few : any_letters h.ors + letters h.part + all_letters h.outer ≤ n = good.few in omega (arith, few);
}

wants : (n : ℕ) (w : Wanted) (read : Operand) → WantedGood n w → GoodOperand read → run_letters read ≤ 1 → WantsGood (n + 1) read w
wants n w read good is one = record {
  operand = is;
  level = good.level;
  outer = good.outer;
  few = let few : level_letters w.level + all_letters w.outer ≤ n = good.few in omega (arith, few, one);
}

begins-operand : (k : ByteKind) (b n : ℕ) (w : Wanted) → IsOf k b → WantedGood n w → NextGood n (operand_begins k b w)
begins-operand kind.Word b n w is good = wants n w (operand.Run (b ∷ [])) good (run-begins b is) (le_refl 1)
begins-operand kind.Space b n w is good = wants n w operand.Nothing good tt (omega arith)
begins-operand kind.Open b n w is good = wants n (enter w) operand.Nothing (entered n w good) tt (omega arith)
begins-operand kind.Brace b n w is good = wants n w operand.Brace good tt (omega arith)
begins-operand kind.Close b n w is good = tt
begins-operand kind.Star b n w is good = tt
begins-operand kind.EndBrace b n w is good = tt
begins-operand kind.Backslash b n w is good = tt
begins-operand kind.Slash b n w is good = tt
begins-operand kind.Control b n w is good = tt
begins-operand kind.Foreign b n w is good = tt

begins-sign : (b n : ℕ) (h : Ended) → EndedGood n h → NextGood n (sign_begins b h)
begins-sign b n h good =
    cond_both (b == 65) _ _ (NextGood n) (λ _. ended-more n h good) (λ _.
    cond_both (b == 79) _ _ (NextGood n) (λ _. ended-more n h good) (λ _. tt))

closes : (n : ℕ) (left : Option Ended) → IfSome left (λ h. EndedGood n h) → NextGood n (option_map (Ends operator.Nothing) left)
closes n None good = tt
closes n (Some h) good = ended-more n h good

begins-operator : (k : ByteKind) (b n : ℕ) (h : Ended) → EndedGood n h → NextGood n (operator_begins k b h)
begins-operator kind.Word b n h good = begins-sign b n h good
begins-operator kind.Space b n h good = ended-more n h good
begins-operator kind.Close b n h good = closes n (leave h) (left-good n h good)
begins-operator kind.Open b n h good = tt
begins-operator kind.Star b n h good = tt
begins-operator kind.Brace b n h good = tt
begins-operator kind.EndBrace b n h good = tt
begins-operator kind.Backslash b n h good = tt
begins-operator kind.Slash b n h good = tt
begins-operator kind.Control b n h good = tt
begins-operator kind.Foreign b n h good = tt

begins-token : (k : ByteKind) (b n : ℕ) (s : Stack) → IsOf k b → StackGood n s → NextGood n (token_begins k b s)
begins-token k b n (Wanting w) is good = begins-operand k b n w is good
begins-token k b n (Ending h) is good = begins-operator k b n h good

-- a leaf behind what was wanted
leaf-ended : (n : ℕ) (l : Leaf) (w : Wanted) (read : Operand) → WantsGood n read w → IsGood (leaf_part l) → letters (leaf_part l) ≤ run_letters read
    → EndedGood n (receive (leaf_part l) w)
leaf-ended n l w read good is few =
    let all : run_letters read + (level_letters w.level + all_letters w.outer) ≤ n = good.few in
    received n (leaf_part l) w is good.level good.outer (omega (arith, all, few))

-- what is wanted, whatever was read of it
still-wanted : (n : ℕ) (w : Wanted) (read : Operand) → WantsGood n read w → WantedGood n w
still-wanted n w read good = record {
  level = good.level;
  outer = good.outer;
  few = let all : run_letters read + (level_letters w.level + all_letters w.outer) ≤ n = good.few in omega (arith, all);
}

run-ended : (n : ℕ) (run : List ℕ) (w : Wanted) → WantsGood n (operand.Run run) w → IfSome (after_run run w) (λ s. StackGood n s)
unfolding after_run
run-ended n run w good =
    let P : Option Stack → Type 0 = λ s. IfSome s (λ s. StackGood n s) in
    cond_both (bytes_eq run (codes "NOT")) _ _ P (λ _. negated n w (still-wanted n w (operand.Run run) good)) (λ _.
    cond_both (is_operator run) _ _ P (λ _. tt) (λ _.
    leaf-ended n (Word (lower_case run)) w (operand.Run run) good (good-word run good.operand) (omega (arith, length-lower run))))

follows-run : (k : ByteKind) (b n : ℕ) (s : Option Stack) → IsOf k b → IfSome s (λ s. StackGood n s) → NextGood n (option_and_then (token_begins k b) s)
follows-run k b n None is good = tt
follows-run k b n (Some s) is good = begins-token k b n s is good

ends-run : (k : ByteKind) (b n : ℕ) (run : List ℕ) (w : Wanted) → IsOf k b → WantsGood n (operand.Run run) w → NextGood n (run_ends k b run w)
ends-run k b n run w is good = follows-run k b n (after_run run w) is (run-ended n run w good)

steps-run : (k : ByteKind) (b n : ℕ) (run : List ℕ) (w : Wanted) → IsOf k b → WantsGood n (operand.Run run) w → NextGood n (run_step k b run w)
steps-run kind.Word b n run w is good = record {
  operand = run-more run b good.operand is;
  level = good.level;
  outer = good.outer;
  few = let all : length run + (level_letters w.level + all_letters w.outer) ≤ n = good.few in omega (arith, all, length-append run (b ∷ []));
}
steps-run kind.Star b n run w is good =
    ended-more n (receive (leaf_part (Prefix (lower_case run))) w)
    (leaf-ended n (Prefix (lower_case run)) w (operand.Run run) good (good-prefix run good.operand) (omega (arith, length-lower run)))
steps-run kind.Space b n run w is good = ends-run kind.Space b n run w is good
steps-run kind.Open b n run w is good = ends-run kind.Open b n run w is good
steps-run kind.Close b n run w is good = ends-run kind.Close b n run w is good
steps-run kind.Brace b n run w is good = ends-run kind.Brace b n run w is good
steps-run kind.EndBrace b n run w is good = ends-run kind.EndBrace b n run w is good
steps-run kind.Backslash b n run w is good = ends-run kind.Backslash b n run w is good
steps-run kind.Slash b n run w is good = ends-run kind.Slash b n run w is good
steps-run kind.Control b n run w is good = ends-run kind.Control b n run w is good
steps-run kind.Foreign b n run w is good = ends-run kind.Foreign b n run w is good

steps-brace : (k : ByteKind) (b n : ℕ) (w : Wanted) → IsOf k b → WantsGood n operand.Brace w → NextGood n (brace_step k b w)
steps-brace kind.Slash b n w is good = wants n w (operand.Path (b ∷ [])) (still-wanted n w operand.Brace good) is (omega arith)
steps-brace kind.Word b n w is good = tt
steps-brace kind.Space b n w is good = tt
steps-brace kind.Open b n w is good = tt
steps-brace kind.Close b n w is good = tt
steps-brace kind.Star b n w is good = tt
steps-brace kind.Brace b n w is good = tt
steps-brace kind.EndBrace b n w is good = tt
steps-brace kind.Backslash b n w is good = tt
steps-brace kind.Control b n w is good = tt
steps-brace kind.Foreign b n w is good = tt

-- a byte more of a path
path-more : (n : ℕ) (path : List ℕ) (b : ℕ) (w : Wanted) → IsRooted path → WantedGood n w → WantsGood (n + 1) (operand.Path (path ++ b ∷ [])) w
path-more n path b w is good = wants n w (operand.Path (path ++ b ∷ [])) good (rooted-more path b is) (omega arith)

steps-path : (k : ByteKind) (b n : ℕ) (path : List ℕ) (w : Wanted) → WantsGood n (operand.Path path) w → NextGood n (path_step k b path w)
steps-path kind.EndBrace b n path w good =
    ended-more n (receive (leaf_part (Dir path)) w) (leaf-ended n (Dir path) w (operand.Path path) good (good-dir path good.operand) (le_refl 0))
steps-path kind.Backslash b n path w good = wants n w (operand.Escape path) (still-wanted n w (operand.Path path) good) good.operand (omega arith)
steps-path kind.Control b n path w good = tt
steps-path kind.Word b n path w good = path-more n path b w good.operand (still-wanted n w (operand.Path path) good)
steps-path kind.Space b n path w good = path-more n path b w good.operand (still-wanted n w (operand.Path path) good)
steps-path kind.Open b n path w good = path-more n path b w good.operand (still-wanted n w (operand.Path path) good)
steps-path kind.Close b n path w good = path-more n path b w good.operand (still-wanted n w (operand.Path path) good)
steps-path kind.Star b n path w good = path-more n path b w good.operand (still-wanted n w (operand.Path path) good)
steps-path kind.Brace b n path w good = path-more n path b w good.operand (still-wanted n w (operand.Path path) good)
steps-path kind.Slash b n path w good = path-more n path b w good.operand (still-wanted n w (operand.Path path) good)
steps-path kind.Foreign b n path w good = path-more n path b w good.operand (still-wanted n w (operand.Path path) good)

steps-escape : (k : ByteKind) (b n : ℕ) (path : List ℕ) (w : Wanted) → WantsGood n (operand.Escape path) w → NextGood n (escape_step k b path w)
steps-escape kind.EndBrace b n path w good = path-more n path b w good.operand (still-wanted n w (operand.Escape path) good)
steps-escape kind.Backslash b n path w good = path-more n path b w good.operand (still-wanted n w (operand.Escape path) good)
steps-escape kind.Word b n path w good = tt
steps-escape kind.Space b n path w good = tt
steps-escape kind.Open b n path w good = tt
steps-escape kind.Close b n path w good = tt
steps-escape kind.Star b n path w good = tt
steps-escape kind.Brace b n path w good = tt
steps-escape kind.Slash b n path w good = tt
steps-escape kind.Control b n path w good = tt
steps-escape kind.Foreign b n path w good = tt

steps-operand : (k : ByteKind) (b n : ℕ) (read : Operand) (w : Wanted) → IsOf k b → WantsGood n read w → NextGood n (operand_step k b read w)
steps-operand k b n operand.Nothing w is good = begins-operand k b n w is (still-wanted n w operand.Nothing good)
steps-operand k b n (operand.Run run) w is good = steps-run k b n run w is good
steps-operand k b n operand.Brace w is good = steps-brace k b n w is good
steps-operand k b n (operand.Path path) w is good = steps-path k b n path w good
steps-operand k b n (operand.Escape path) w is good = steps-escape k b n path w good

ends-sign : (k : ByteKind) (b n : ℕ) (w : Wanted) → IsOf k b → WantedGood n w → NextGood n (sign_ends k b w)
ends-sign kind.Word b n w is good = tt
ends-sign kind.Star b n w is good = tt
ends-sign kind.Space b n w is good = begins-operand kind.Space b n w is good
ends-sign kind.Open b n w is good = begins-operand kind.Open b n w is good
ends-sign kind.Close b n w is good = tt
ends-sign kind.Brace b n w is good = begins-operand kind.Brace b n w is good
ends-sign kind.EndBrace b n w is good = tt
ends-sign kind.Backslash b n w is good = tt
ends-sign kind.Slash b n w is good = tt
ends-sign kind.Control b n w is good = tt
ends-sign kind.Foreign b n w is good = tt

steps-operator : (k : ByteKind) (b n : ℕ) (read : Operator) (h : Ended) → IsOf k b → EndedGood n h → NextGood n (operator_step k b read h)
steps-operator k b n operator.Nothing h is good = begins-operator k b n h good
steps-operator k b n operator.A h is good = cond_both (b == 78) _ _ (NextGood n) (λ _. ended-more n h good) (λ _. tt)
steps-operator k b n operator.An h is good = cond_both (b == 68) _ _ (NextGood n) (λ _. ended-more n h good) (λ _. tt)
steps-operator k b n operator.And h is good = ends-sign k b n (after_and h) is (and_follows n h good)
steps-operator k b n operator.O h is good = cond_both (b == 82) _ _ (NextGood n) (λ _. ended-more n h good) (λ _. tt)
steps-operator k b n operator.Or h is good = ends-sign k b n (after_or h) is (or_follows n h good)

steps-kind : (k : ByteKind) (b n : ℕ) (reader : Reader) → IsOf k b → ReaderGood n reader → NextGood n (kind_step k b reader)
steps-kind k b n (Wants read w) is good = steps-operand k b n read w is good
steps-kind k b n (Ends read h) is good = steps-operator k b n read h is good

steps : (b n : ℕ) (reader : Reader) → ReaderGood n reader → NextGood n (step b reader)
steps b n reader good = steps-kind (kind_of b) b n reader (kind_is b) good

-- The end.

token-ended : (n : ℕ) (s : Option Stack) → IfSome s (λ s. StackGood n s) → IfSome (option_and_then ended_token s) (λ part. PartGood n part)
token-ended n None good = tt
token-ended n (Some (Wanting w)) good = tt
token-ended n (Some (Ending h)) good = finished n h good

ends : (n : ℕ) (reader : Reader) → ReaderGood n reader → IfSome (read_whole reader) (λ part. PartGood n part)
ends n (Wants operand.Nothing w) good = tt
ends n (Wants (operand.Run run) w) good = token-ended n (after_run run w) (run-ended n run w good)
ends n (Wants operand.Brace w) good = tt
ends n (Wants (operand.Path path) w) good = tt
ends n (Wants (operand.Escape path) w) good = tt
ends n (Ends operator.Nothing h) good = finished n h good
ends n (Ends operator.A h) good = tt
ends n (Ends operator.An h) good = tt
ends n (Ends operator.And h) good = tt
ends n (Ends operator.O h) good = tt
ends n (Ends operator.Or h) good = tt

-- the part that was read of this many bytes is good
abbrev ReadGood : ℕ → Result Part ℕ → Type 0
ReadGood n (Ok part) = PartGood n part
ReadGood n (Err place) = ⊤

all-read : (n place : ℕ) (o : Option Part) → IfSome o (λ part. PartGood n part) → ReadGood n (ok_or o place)
all-read n place None good = tt
all-read n place (Some part) good = good

goes : (n m place : ℕ) (follow : Reader → Result Part ℕ) (next : Option Reader) → NextGood n next
    → ((reader : Reader) → ReaderGood (n + 1) reader → ReadGood m (follow reader)) → ReadGood m (goes_on place follow next)
goes n m place follow None good reads = tt
goes n m place follow (Some reader) good reads = reads reader good

read-good : (bytes : List ℕ) (place n m : ℕ) (reader : Reader) → n + length bytes ≡ m → ReaderGood n reader → ReadGood m (read_on place bytes reader)
unfolding read_on
read-good [] place n m reader is good =
    let same : n ≡ m = omega (arith, is) in
    subst (λ (m : ℕ). ReadGood m (ok_or (read_whole reader) place)) same (all-read n place (read_whole reader) (ends n reader good))
read-good (b ∷ bytes) place n m reader is good =
    goes n m place (read_on (place + 1) bytes) (step b reader) (steps b n reader good)
    (λ next there. read-good bytes (place + 1) (n + 1) m next (omega (arith, is)) there)

start-good : ReaderGood 0 fresh_reader
start-good = record { operand = tt; level = (tt, tt); outer = tt; few = le_refl 0 }

-- Path words.

at_path : (path : List ℕ) → IsRooted path → is_slash (slice_index path 0) ≡ true
at_path [] is = elim is [ ]
at_path (b ∷ path) is = is

tested : (bad long : Bool) (word found : PathWord) (a b : Refusal) → cond bad (Err a) (cond long (Err b) (Ok word)) ≡ Ok found → word ≡ found
tested true long word found a b e = absurd cc
tested false true word found a b e = absurd cc
tested false false word found a b e = cc

rooted : (path : List ℕ) (word : PathWord) → IsRooted path → word_of path ≡ Ok word → word.absolute ≡ true
unfolding word_of
rooted path word is e =
    ap (λ (w : PathWord). w.absolute) (sym (tested (is_bad path) (has_long_part path) (untested_word path) word _ _ e))
    ∙ ap (λ (t : Bool). (cond t (at_root (relative (parts path))) (relative (parts path))).absolute) (at_path path is)

-- The query with its words.

-- it asks for as much as the query does
record IsWording (q : Formula (List ℕ)) (w : Formula PathWord) : Type 0 where
  terms : are_terms w ≡ true
  rooted : are_rooted w ≡ true
  letters : letter_count w ≡ letter_count q
  nots : not_count w ≡ not_count q

abbrev IsWorded : Formula (List ℕ) → Result (Formula PathWord) Refusal → Type 0
IsWorded q (Ok w) = IsWording q w
IsWorded q (Err refusal) = ⊤

dir_worded : (path : List ℕ) (found : Result PathWord Refusal) → IsRooted path → word_of path ≡ found
    → IsWorded (formula.Dir path) (and_then (λ word. Ok (formula.Dir word)) (named found))
dir_worded path (Ok word) is e = record { terms = refl; rooted = and_from word.absolute (are_names word.names) (rooted path word is e) (word_of-names path word e); letters = refl; nots = refl }
dir_worded path (Err refusal) is e = tt

not_worded : (q : Formula (List ℕ)) (r : Result (Formula PathWord) Refusal) → IsWorded q r → IsWorded (formula.Not q) (and_then (λ inner. Ok (formula.Not inner)) r)
not_worded q (Ok w) is = record { terms = is.terms; rooted = is.rooted; letters = is.letters; nots = ap (λ (n : ℕ). n + 1) is.nots }
not_worded q (Err refusal) is = tt

module _ (p q : Formula (List ℕ)) where
  and_worded : (r s : Result (Formula PathWord) Refusal) → IsWorded p r → IsWorded q s
      → IsWorded (formula.And p q) (and_then (λ first. and_then (λ second. Ok (formula.And first second)) s) r)
  and_worded (Ok v) (Ok w) one other = record {
    terms = and_from (are_terms v) (are_terms w) one.terms other.terms;
    rooted = and_from (are_rooted v) (are_rooted w) one.rooted other.rooted;
    letters = λ i. one.letters i + other.letters i;
    nots = λ i. max (one.nots i) (other.nots i);
  }
  and_worded (Ok v) (Err refusal) one other = tt
  and_worded (Err refusal) s one other = tt

  or_worded : (r s : Result (Formula PathWord) Refusal) → IsWorded p r → IsWorded q s
      → IsWorded (formula.Or p q) (and_then (λ first. and_then (λ second. Ok (formula.Or first second)) s) r)
  or_worded (Ok v) (Ok w) one other = record {
    terms = and_from (are_terms v) (are_terms w) one.terms other.terms;
    rooted = and_from (are_rooted v) (are_rooted w) one.rooted other.rooted;
    letters = λ i. one.letters i + other.letters i;
    nots = λ i. max (one.nots i) (other.nots i);
  }
  or_worded (Ok v) (Err refusal) one other = tt
  or_worded (Err refusal) s one other = tt

worded_good : (q : Formula (List ℕ)) → are_terms q ≡ true → AreRooted q → IsWorded q (worded q)
worded_good (formula.Term asked) word paths = record { terms = word; rooted = refl; letters = refl; nots = refl }
worded_good (formula.Dir path) word paths = dir_worded path (word_of path) paths refl
worded_good (formula.Not q) word paths = not_worded q (worded q) (worded_good q word paths)
worded_good (formula.And l r) word paths =
    let words = and_parts (are_terms l) (are_terms r) word in
    and_worded l r (worded l) (worded r) (worded_good l words.0 paths.0) (worded_good r words.1 paths.1)
worded_good (formula.Or l r) word paths =
    let words = and_parts (are_terms l) (are_terms r) word in
    or_worded l r (worded l) (worded r) (worded_good l words.0 paths.0) (worded_good r words.1 paths.1)

-- Limits.

within : (a b : Bool) (w q : Formula PathWord) (x y : Refusal) → cond a (Err x) (cond b (Err y) (Ok w)) ≡ Ok q → (a ≡ false) × (b ≡ false) × (w ≡ q)
within true b w q x y e = absurd cc
within false true w q x y e = absurd cc
within false false w q x y e = (refl, refl, cc)

not_above : (most count : ℕ) → nat_lt most count ≡ false → nat_le count most ≡ true
not_above most count h = grind (arith, nat_tests)

no_more : (most most_so_far count : ℕ) → nat_lt most most_so_far ≡ false → count ≤ most_so_far → nat_le count most ≡ true
no_more most most_so_far count h k = grind (arith, nat_tests)

module _ (n : ℕ) (part : Part) (short : nat_lt QUERY_LIMIT n ≡ false) (good : PartGood n part) where
  fits : (w : Formula PathWord) → IsWording part.query w → nat_lt TERMS_LIMIT (term_count w) ≡ false → nat_lt NESTING_LIMIT part.nesting ≡ false → is_spelled_query w ≡ true
  fits w is few flat =
      let letters : nat_le (letter_count w) QUERY_LIMIT ≡ true = no_more QUERY_LIMIT n (letter_count w) short (subst (λ (c : ℕ). c ≤ n) (sym is.letters) good.few) in
      let nots : nat_le (not_count w) NESTING_LIMIT ≡ true = no_more NESTING_LIMIT part.nesting (not_count w) flat (subst (λ (c : ℕ). c ≤ part.nesting) (sym is.nots) good.good.nots) in
      let terms : nat_le (term_count w) TERMS_LIMIT ≡ true = not_above TERMS_LIMIT (term_count w) few in
      and_from (is_query w) (are_rooted w) (and_from _ _ (and_from _ _ (and_from _ _ is.terms terms) letters) nots) is.rooted

  limited_good : (r : Result (Formula PathWord) Refusal) (q : Formula PathWord) → IsWorded part.query r → and_then (λ w. limited_query part.nesting w) r ≡ Ok q → is_spelled_query q ≡ true
  limited_good (Err refusal) q is e = absurd cc
  limited_good (Ok w) q is e =
      let kept = within (nat_lt TERMS_LIMIT (term_count w)) (nat_lt NESTING_LIMIT part.nesting) w q _ _ e in
      ap is_spelled_query (sym kept.2) ∙ fits w is kept.0 kept.1

read_good : (n : ℕ) (found : Result Part ℕ) (q : Formula PathWord) → nat_lt QUERY_LIMIT n ≡ false → ReadGood n found
    → and_then (λ part. and_then (λ w. limited_query part.nesting w) (worded part.query)) (parsed found) ≡ Ok q → is_spelled_query q ≡ true
read_good n (Err place) q short good e = absurd cc
read_good n (Ok part) q short good e =
    limited_good n part short good (worded part.query) q (worded_good part.query good.good.terms good.good.paths) e

short_good : (long : Bool) (bytes : List ℕ) (q : Formula PathWord) (x : Refusal) → nat_lt QUERY_LIMIT (length bytes) ≡ long → cond long (Err x) (spelled_query bytes) ≡ Ok q → is_spelled_query q ≡ true
short_good true bytes q x short e = absurd cc
short_good false bytes q x short e = read_good (length bytes) (read_on 1 bytes fresh_reader) q short (read-good bytes 1 0 (length bytes) fresh_reader (omega arith) start-good) e

-- a query that is read is as a line spells it
pub read_spelled : (bytes : List ℕ) (q : Formula PathWord) → read_query bytes ≡ Ok q → is_spelled_query q ≡ true
unfolding read_query
read_spelled bytes q e = short_good (nat_lt QUERY_LIMIT (length bytes)) bytes q _ refl e
