-- Queries of lines as they are printed: they are read as themselves, but for the limits of their texts.
use Rattle.std.proofs.Common.{◌≡◌, ℕ, ◌≤◌, Bool, true, false, List, [], ◌∷◌, ◌++◌, length, refl, ap, sym, subst, ◌∙◌, arith, codes, Ok, Err, Some, None}
use Rattle.std.specs.Prelude.{⊤, ◌&&◌, ◌||◌, ◌==◌, if◌then◌else◌, nat_le, nat_lt, Result}
use Rattle.std.specs.List.{flat_map, list_all}
use Rattle.std.proofs.lemmas.Bool.{and_from, and_parts}
use Rattle.std.proofs.lemmas.Bool.Decides.{nat_tests}
use Rattle.hac_model.specs.Run.Answers.{◌>>=◌}
use Rattle.hac_model.specs.Query.Formula.{Formula}
use Rattle.hac_model.specs.Query.Formula as formula
use Rattle.hac_model.specs.Query.Grammar.{IsPath, Reads, escape, escaped, meaning}
use Rattle.hac_model.specs.Query.Queries.{are_terms, is_query, letter_count, not_count, term_count}
use Rattle.hac_model.specs.Query.QueryReading.{are_rooted, dir_word, fresh_reader, limited_query, named, parsed, read_on, read_query, spelled_query, worded}
use Rattle.hac_model.specs.Query.QueryText.{around, is_joined, is_or, referred_by, query_text}
use Rattle.hac_model.specs.Query.Words.{has_bytes, is_lower_word_byte, is_word, is_word_byte}
use Rattle.hac_model.specs.Script.CommandTexts.{query_part, steps, word_text}
use Rattle.hac_model.specs.Script.PathWords.{word_of}
use Rattle.hac_model.specs.Tree.Paths.{are_names, path_text, slashed}
use Rattle.hac_model.specs.declared.limits.LimitWord.TheVariants as limit
use Rattle.hac_model.specs.declared.limits.TheConstants.{NESTING_LIMIT, QUERY_LIMIT, TERMS_LIMIT}
use Rattle.hac_model.specs.declared.paths.PathWord.{PathWord}
use Rattle.hac_model.specs.declared.reading.Part.{Part}
use Rattle.hac_model.specs.declared.replies.Refusal.{Refusal}
use Rattle.hac_model.specs.declared.replies.Refusal.TheVariants.{Limit}
use Rattle.hac_model.specs.declared.terms.Term.TheVariants as term
use Rattle.hac_model.proofs.QueryLemmas.{read_spelled}
use Rattle.query_text.proofs.FaultLemmas.{is_found, read_is_found}
use Rattle.query_text.proofs.PrintLemmas.{text_means, text_spells, trees}
use Rattle.query_text.specs.Laws.{ArePaths, IsFound}
use Rattle.shell_lang.proofs.GivenLemmas.{IsAsked, IsWord}
use Rattle.shell_lang.proofs.LineLemmas.{asked_as}
use Rattle.shell_lang.proofs.NestingLemmas.{deep, nests, pair, text_nesting}
use Rattle.shell_lang.proofs.PathLemmas.{all-weaker, is_inner, is_one_line, marked-one_line, one_line-join, word-one_line, word-parts, word_text-read}
use Rattle.query_text.proofs.BackLemmas.{text_path}

-- What is known of a query that is read.

-- its directories are path words that are read
abbrev AreWords : Formula PathWord → Type 0
AreWords (formula.Term asked) = ⊤
AreWords (formula.Dir word) = IsWord word
AreWords (formula.Not query) = AreWords query
AreWords (formula.And left right) = AreWords left × AreWords right
AreWords (formula.Or left right) = AreWords left × AreWords right

-- a step that gave a value had one to begin with
then-ok : {A B : Type 0} (first : Result A Refusal) (step : A → Result B Refusal) (value : B) → (first >>= step) ≡ Ok value → (a : A) × (first ≡ Ok a) × (step a ≡ Ok value)
then-ok (Ok a) step value e = (a, refl, e)
then-ok (Err refusal) step value e = absurd cc

ok-same : {A : Type 0} (one other : A) → (let read : Result A Refusal = Ok one in read) ≡ Ok other → one ≡ other
ok-same one other e = cc

named-ok : (read : Result PathWord Refusal) (word : PathWord) → named read ≡ Ok word → read ≡ Ok word
named-ok (Ok given) word e = e
named-ok (Err refusal) word e = absurd cc

asked-words : (raw : Formula (List ℕ)) (q : Formula PathWord) → worded raw ≡ Ok q → AreWords q
asked-words (formula.Term asked) q e = subst AreWords (ok-same (formula.Term asked) q e) tt
asked-words (formula.Dir path) q e =
    let word = then-ok (dir_word path) (λ w. Ok (formula.Dir w)) q e in
    subst AreWords (ok-same (formula.Dir word.0) q word.2) (path, named-ok (word_of path) word.0 word.1)
asked-words (formula.Not raw) q e =
    let inner = then-ok (worded raw) (λ w. Ok (formula.Not w)) q e in
    subst AreWords (ok-same (formula.Not inner.0) q inner.2) (asked-words raw inner.0 inner.1)
asked-words (formula.And l r) q e =
    let left = then-ok (worded l) (λ v. worded r >>= λ w. Ok (formula.And v w)) q e in
    let right = then-ok (worded r) (λ w. Ok (formula.And left.0 w)) q left.2 in
    subst AreWords (ok-same (formula.And left.0 right.0) q right.2) (asked-words l left.0 left.1, asked-words r right.0 right.1)
asked-words (formula.Or l r) q e =
    let left = then-ok (worded l) (λ v. worded r >>= λ w. Ok (formula.Or v w)) q e in
    let right = then-ok (worded r) (λ w. Ok (formula.Or left.0 w)) q left.2 in
    subst AreWords (ok-same (formula.Or left.0 right.0) q right.2) (asked-words l left.0 left.1, asked-words r right.0 right.1)

guarded : {A : Type 0} (b : Bool) (refusal : Refusal) (other : Result A Refusal) (value : A) → (if b then Err refusal else other) ≡ Ok value → other ≡ Ok value
guarded true refusal other value e = absurd cc
guarded false refusal other value e = e

limited-same : (nesting : ℕ) (query q : Formula PathWord) → limited_query nesting query ≡ Ok q → query ≡ q
limited-same nesting query q e =
    ok-same query q (guarded (nat_lt NESTING_LIMIT nesting) _ (Ok query) q (guarded (nat_lt TERMS_LIMIT (term_count query)) _ _ q e))

read-words : (bytes : List ℕ) (q : Formula PathWord) → read_query bytes ≡ Ok q → AreWords q
unfolding read_query
read-words bytes q e =
    let spelled : spelled_query bytes ≡ Ok q = guarded (nat_lt QUERY_LIMIT (length bytes)) _ (spelled_query bytes) q e in
    let part = then-ok (parsed (read_on 1 bytes fresh_reader)) (λ p. worded p.query >>= λ w. limited_query p.nesting w) q spelled in
    let query = then-ok (worded part.0.query) (λ w. limited_query part.0.nesting w) q part.2 in
    asked-words part.0.query q (query.1 ∙ ap (λ (w : Formula PathWord). Ok w) (limited-same part.0.nesting query.0 q query.2))

-- Paths between braces.

rooted-path : (word : PathWord) → word.absolute ≡ true → are_names word.names ≡ true → IsPath (word_text word)
rooted-path word is names = subst IsPath (ap (λ (t : Bool). if t then path_text word.names else codes "." ++ flat_map slashed (steps word)) (sym is)) (text_path word.names names)

-- One line.

escaped-one_line : (bytes : List ℕ) → is_one_line bytes ≡ true → is_one_line (escaped bytes) ≡ true
escaped-one_line [] h = refl
escaped-one_line (b ∷ bytes) h =
    let both = and_parts (is_inner b) (is_one_line bytes) h in
    one_line-join (escape b) (escaped bytes) (marked-one_line (b == 125 || b == 92) b both.0) (escaped-one_line bytes both.1)

word_byte-inner : (b : ℕ) → is_lower_word_byte b ≡ true → is_inner b ≡ true
unfolding is_lower_word_byte is_word_byte
word_byte-inner b h = grind (arith, nat_tests)

letters-one_line : (letters : List ℕ) → is_word letters ≡ true → is_one_line letters ≡ true
unfolding is_word
letters-one_line letters h = all-weaker is_lower_word_byte is_inner word_byte-inner letters (and_parts (has_bytes letters) (list_all is_lower_word_byte letters) h).1

around-one_line : (needed : Bool) (bytes : List ℕ) → is_one_line bytes ≡ true → is_one_line (around needed bytes) ≡ true
around-one_line true bytes h = one_line-join bytes (codes ")") h refl
around-one_line false bytes h = h

-- The text of a query that is read.

abbrev printed : Formula PathWord → Formula (List ℕ)
printed q = referred_by word_text q

record Asked (q : Formula PathWord) : Type 0 where
  terms : are_terms (printed q) ≡ true
  paths : ArePaths (printed q)
  words : worded (printed q) ≡ Ok q
  one_line : is_one_line (query_text (printed q)) ≡ true

two-words : (l r : Formula PathWord) (join : Formula PathWord → Formula PathWord → Formula PathWord) → worded (printed l) ≡ Ok l → worded (printed r) ≡ Ok r
    → (worded (printed l) >>= λ v. worded (printed r) >>= λ w. Ok (join v w)) ≡ Ok (join l r)
two-words l r join left right =
    ap (λ (x : Result (Formula PathWord) Refusal). x >>= λ v. worded (printed r) >>= λ w. Ok (join v w)) left
    ∙ ap (λ (x : Result (Formula PathWord) Refusal). x >>= λ w. Ok (join l w)) right

asked : (q : Formula PathWord) → are_terms q ≡ true → are_rooted q ≡ true → AreWords q → Asked q
asked (formula.Term (term.Word letters)) terms rooted words = record { terms = terms; paths = tt; words = refl; one_line = letters-one_line letters terms }
asked (formula.Term (term.Prefix letters)) terms rooted words =
    record { terms = terms; paths = tt; words = refl; one_line = one_line-join letters (codes "*") (letters-one_line letters terms) refl }
asked (formula.Dir word) terms rooted words =
    let both = and_parts word.absolute (are_names word.names) rooted in
    let known = word-parts word words in
    record {
      terms = refl;
      paths = rooted-path word both.0 both.1;
      words = ap (λ (r : Result PathWord Refusal). named r >>= λ w. Ok (formula.Dir w)) (word_text-read word known);
      one_line = one_line-join (escaped (word_text word)) (codes "}") (escaped-one_line (word_text word) (word-one_line word known)) refl;
    }
asked (formula.Not q) terms rooted words =
    let inner = asked q terms rooted words in
    record {
      terms = inner.terms;
      paths = inner.paths;
      words = ap (λ (r : Result (Formula PathWord) Refusal). r >>= λ w. Ok (formula.Not w)) inner.words;
      one_line = around-one_line (is_joined (printed q)) (query_text (printed q)) inner.one_line;
    }
asked (formula.And l r) terms rooted words =
    let both = and_parts (are_terms l) (are_terms r) terms in
    let roots = and_parts (are_rooted l) (are_rooted r) rooted in
    let left = asked l both.0 roots.0 words.0 in
    let right = asked r both.1 roots.1 words.1 in
    record {
      terms = and_from (are_terms (printed l)) (are_terms (printed r)) left.terms right.terms;
      paths = (left.paths, right.paths);
      words = two-words l r formula.And left.words right.words;
      one_line = one_line-join (around (is_or (printed l)) (query_text (printed l))) _ (around-one_line (is_or (printed l)) (query_text (printed l)) left.one_line)
          (around-one_line (is_joined (printed r)) (query_text (printed r)) right.one_line);
    }
asked (formula.Or l r) terms rooted words =
    let both = and_parts (are_terms l) (are_terms r) terms in
    let roots = and_parts (are_rooted l) (are_rooted r) rooted in
    let left = asked l both.0 roots.0 words.0 in
    let right = asked r both.1 roots.1 words.1 in
    record {
      terms = and_from (are_terms (printed l)) (are_terms (printed r)) left.terms right.terms;
      paths = (left.paths, right.paths);
      words = two-words l r formula.Or left.words right.words;
      one_line = one_line-join (query_text (printed l)) _ left.one_line
          (around-one_line (is_or (printed r)) (query_text (printed r)) right.one_line);
    }

-- a query has its shape whatever its directories are named by
record Alike (raw : Formula (List ℕ)) (q : Formula PathWord) : Type 0 where
  nesting : text_nesting raw ≡ text_nesting (printed q)
  ors : pair (is_or raw) ≡ pair (is_or (printed q))
  joins : pair (is_joined raw) ≡ pair (is_joined (printed q))

alike : (raw : Formula (List ℕ)) (q : Formula PathWord) → worded raw ≡ Ok q → Alike raw q
alike (formula.Term asked) q e = subst (Alike (formula.Term asked)) (ok-same (formula.Term asked) q e) (record { nesting = refl; ors = refl; joins = refl })
alike (formula.Dir path) q e =
    let word = then-ok (dir_word path) (λ w. Ok (formula.Dir w)) q e in
    subst (Alike (formula.Dir path)) (ok-same (formula.Dir word.0) q word.2) (record { nesting = refl; ors = refl; joins = refl })
alike (formula.Not raw) q e =
    let inner = then-ok (worded raw) (λ w. Ok (formula.Not w)) q e in
    let same = alike raw inner.0 inner.1 in
    let a : text_nesting raw ≡ text_nesting (printed inner.0) = same.nesting in
    let b : pair (is_joined raw) ≡ pair (is_joined (printed inner.0)) = same.joins in
    subst (Alike (formula.Not raw)) (ok-same (formula.Not inner.0) q inner.2) (record { nesting = omega (arith, a, b); ors = refl; joins = refl })
alike (formula.And l r) q e =
    let left = then-ok (worded l) (λ v. worded r >>= λ w. Ok (formula.And v w)) q e in
    let right = then-ok (worded r) (λ w. Ok (formula.And left.0 w)) q left.2 in
    let one = alike l left.0 left.1 in
    let other = alike r right.0 right.1 in
    let a : text_nesting l ≡ text_nesting (printed left.0) = one.nesting in
    let b : pair (is_or l) ≡ pair (is_or (printed left.0)) = one.ors in
    let c : text_nesting r ≡ text_nesting (printed right.0) = other.nesting in
    let d : pair (is_joined r) ≡ pair (is_joined (printed right.0)) = other.joins in
    subst (Alike (formula.And l r)) (ok-same (formula.And left.0 right.0) q right.2) (record { nesting = omega (arith, a, b, c, d); ors = refl; joins = refl })
alike (formula.Or l r) q e =
    let left = then-ok (worded l) (λ v. worded r >>= λ w. Ok (formula.Or v w)) q e in
    let right = then-ok (worded r) (λ w. Ok (formula.Or left.0 w)) q left.2 in
    let one = alike l left.0 left.1 in
    let other = alike r right.0 right.1 in
    let a : text_nesting l ≡ text_nesting (printed left.0) = one.nesting in
    let c : text_nesting r ≡ text_nesting (printed right.0) = other.nesting in
    let d : pair (is_or r) ≡ pair (is_or (printed right.0)) = other.ors in
    subst (Alike (formula.Or l r)) (ok-same (formula.Or left.0 right.0) q right.2) (record { nesting = omega (arith, a, c, d); ors = refl; joins = refl })

-- Limits.

passed : {A : Type 0} (b : Bool) (refusal : Refusal) (other : Result A Refusal) (value : A) → (if b then Err refusal else other) ≡ Ok value → b ≡ false
passed true refusal other value e = absurd cc
passed false refusal other value e = refl

parsed-ok : (read : Result Part ℕ) (part : Part) → parsed read ≡ Ok part → read ≡ Ok part
parsed-ok (Ok given) part e = ap (λ (p : Part). Ok p) (ok-same given part e)
parsed-ok (Err place) part e = absurd cc

-- the text of a query that is read is no deeper than it may be
read-shallow : (bytes : List ℕ) (q : Formula PathWord) → read_query bytes ≡ Ok q → text_nesting (printed q) ≤ NESTING_LIMIT
unfolding read_query
read-shallow bytes q e =
    let spelled : spelled_query bytes ≡ Ok q = guarded (nat_lt QUERY_LIMIT (length bytes)) _ (spelled_query bytes) q e in
    let part = then-ok (parsed (read_on 1 bytes fresh_reader)) (λ p. worded p.query >>= λ w. limited_query p.nesting w) q spelled in
    let query = then-ok (worded part.0.query) (λ w. limited_query part.0.nesting w) q part.2 in
    let reads : Reads bytes part.0 = subst (λ (r : Result Part ℕ). IsFound bytes r) (parsed-ok (read_on 1 bytes fresh_reader) part.0 part.1) (read_is_found bytes) in
    let least : text_nesting part.0.query ≤ part.0.nesting = subst (λ (p : Part). text_nesting p.query ≤ p.nesting) reads.2 (deep reads.0) in
    let few : nat_lt NESTING_LIMIT part.0.nesting ≡ false =
    passed (nat_lt NESTING_LIMIT part.0.nesting) _ (Ok query.0) q (guarded (nat_lt TERMS_LIMIT (term_count query.0)) _ _ q query.2) in
    let most : part.0.nesting ≤ NESTING_LIMIT = grind (arith, nat_tests, few) in
    let same : text_nesting part.0.query ≡ text_nesting (printed q) =
    (alike part.0.query query.0 query.1).nesting ∙ ap (λ (w : Formula PathWord). text_nesting (printed w)) (limited-same part.0.nesting query.0 q query.2) in
    omega (arith, least, most, same)

limit-told : (q : Formula PathWord) (long : Bool) → (if long then Err (Limit limit.Query) else Ok q) ≡ asked_as q (if long then Some limit.Query else None)
limit-told q true = refl
limit-told q false = refl

-- the parts of what is known of a query that is read
read-asked : (bytes : List ℕ) (q : Formula PathWord) → read_query bytes ≡ Ok q → Asked q × (nat_le (term_count q) TERMS_LIMIT ≡ true)
read-asked bytes q read =
    let spelled = and_parts (is_query q) (are_rooted q) (read_spelled bytes q read) in
    let first = and_parts (are_terms q && nat_le (term_count q) TERMS_LIMIT && nat_le (letter_count q) QUERY_LIMIT) (nat_le (not_count q) NESTING_LIMIT) spelled.0 in
    let second = and_parts (are_terms q && nat_le (term_count q) TERMS_LIMIT) (nat_le (letter_count q) QUERY_LIMIT) first.0 in
    let third = and_parts (are_terms q) (nat_le (term_count q) TERMS_LIMIT) second.0 in
    (asked q third.0 spelled.1 (read-words bytes q read), third.1)

pub query-read : (q : Formula PathWord) → IsAsked q → read_query (query_text (printed q)) ≡ asked_as q (if nat_lt QUERY_LIMIT (length (query_text (printed q))) then Some limit.Query else None)
unfolding read_query
query-read q (bytes, read) =
    let both = read-asked bytes q read in
    let known = both.0 in
    let few : nat_lt TERMS_LIMIT (term_count q) ≡ false = grind (arith, nat_tests, both.1) in
    let part : Part = meaning (trees (printed q)).whole in
    let depth : part.nesting ≡ text_nesting (printed q) = (nests (printed q)).whole in
    let most : text_nesting (printed q) ≤ NESTING_LIMIT = read-shallow bytes q read in
    let shallow : nat_lt NESTING_LIMIT part.nesting ≡ false = grind (arith, nat_tests, depth, most) in
    let found : read_on 1 (query_text (printed q)) fresh_reader ≡ Ok part = is_found (query_text (printed q)) part ((trees (printed q)).whole, text_spells (printed q) known.terms known.paths, refl) in
    let words : worded part.query ≡ Ok q = ap worded (text_means (printed q)) ∙ known.words in
    let limited : spelled_query (query_text (printed q)) ≡ Ok q =
    ap (λ (r : Result Part ℕ). parsed r >>= λ p. worded p.query >>= λ w. limited_query p.nesting w) found
    ∙ ap (λ (r : Result (Formula PathWord) Refusal). r >>= λ w. limited_query part.nesting w) words
    ∙ ap (λ (t : Bool). if t then Err (Limit limit.Terms) else (if nat_lt NESTING_LIMIT part.nesting then Err (Limit limit.Nesting) else Ok q)) few
    ∙ ap (λ (t : Bool). if t then Err (Limit limit.Nesting) else Ok q) shallow in
    ap (λ (r : Result (Formula PathWord) Refusal). if nat_lt QUERY_LIMIT (length (query_text (printed q))) then Err (Limit limit.Query) else r) limited
    ∙ limit-told q (nat_lt QUERY_LIMIT (length (query_text (printed q))))

pub query-one_line : (q : Formula PathWord) → IsAsked q → is_one_line (query_part q) ≡ true
query-one_line q (bytes, read) = (read-asked bytes q read).0.one_line
