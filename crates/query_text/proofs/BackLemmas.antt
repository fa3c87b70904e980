-- A printed query is read back.
use Rattle.std.proofs.Common.{◌≡◌, ℕ, Bool, true, false, cond, List, [], ◌∷◌, ◌++◌, Option, Some, None, Ok, Err, refl, ap, sym, subst, ◌∙◌, arith}
use Rattle.std.specs.Prelude.{◌&&◌, ◌==◌, nat_lt, length, is_some, Result}
use Rattle.std.specs.List.{list_all, flat_map}
use Rattle.std.specs.Option.{option_map_or}
use Rattle.std.proofs.lemmas.Bool.{and_parts}
use Rattle.std.proofs.lemmas.Bool.Decides.{nat_tests}
use Rattle.hac_model.specs.Run.Answers.{and_then}
use Rattle.hac_model.specs.Query.Formula.{Formula}
use Rattle.hac_model.specs.Query.Formula as formula
use Rattle.hac_model.specs.Query.Grammar.{IsPath, AllPathBytes, is_control}
use Rattle.hac_model.specs.Tree.Names.{is_name, is_name_byte}
use Rattle.hac_model.specs.Script.PathWords.{word_of}
use Rattle.hac_model.specs.Tree.Paths.{are_names, path_text, slashed}
use Rattle.hac_model.specs.Query.QueryReading.{read_on, fresh_reader, parsed, named, worded, limited_query, spelled_query, read_query}
use Rattle.hac_model.specs.Query.Queries.{are_terms, term_count}
use Rattle.hac_model.specs.Query.QueryText.{referred_by}
use Rattle.hac_model.specs.declared.limits.LimitWord.{LimitWord}
use Rattle.hac_model.specs.declared.limits.TheConstants.{QUERY_LIMIT, TERMS_LIMIT, NESTING_LIMIT}
use Rattle.hac_model.specs.declared.paths.PathWord.{PathWord}
use Rattle.hac_model.specs.declared.reading.Part.{Part}
use Rattle.hac_model.specs.declared.replies.Refusal.{Refusal}
use Rattle.hac_model.specs.declared.replies.Refusal.TheVariants.{Limit}
use Rattle.hac_model.proofs.WordLemmas.{leads_down}
use Rattle.hac_names.proofs.Printed.{printed_path}
use Rattle.query_text.proofs.FaultLemmas.{is_found}
use Rattle.query_text.proofs.PrintLemmas.{text_read}
use Rattle.query_text.specs.Laws.{ArePaths, IsReadBack, word_to}
use Rattle.query_text.specs.Printing.{path_at, are_known, pathed, printed_query}
use Rattle.query_text.specs.declared.paths.NamedDir.{NamedDir}

-- Paths.

pub name_byte : (b : ℕ) → is_name_byte b ≡ true → is_control b ≡ false
name_byte b h = grind (arith, nat_tests)

pub name_bytes : (name rest : List ℕ) → list_all is_name_byte name ≡ true → AllPathBytes rest → AllPathBytes (name ++ rest)
name_bytes [] rest h all = all
name_bytes (b ∷ name) rest h all = let p = and_parts (is_name_byte b) (list_all is_name_byte name) h in (name_byte b p.0, name_bytes name rest p.1 all)

pub names_bytes : (names : List (List ℕ)) → are_names names ≡ true → AllPathBytes (flat_map slashed names)
names_bytes [] h = tt
names_bytes (name ∷ names) h =
    let p = and_parts (is_name name) (are_names names) h in
    (refl, name_bytes name (flat_map slashed names) (leads_down name p.0).part (names_bytes names p.1))

pub text_path : (path : List (List ℕ)) → are_names path ≡ true → IsPath (path_text path)
text_path [] h = (refl, tt)
text_path (name ∷ names) h = (refl, (names_bytes (name ∷ names) h).1)

abbrev Named : Option (List (List ℕ)) → Type 0
Named None = ⊥
Named (Some path) = are_names path ≡ true

chosen : (t : Bool) (path : List (List ℕ)) (rest : Option (List (List ℕ))) → are_names path ≡ true → (is_some rest ≡ true → Named rest)
    → is_some (cond t (Some path) rest) ≡ true → Named (cond t (Some path) rest)
chosen true path rest here there known = here
chosen false path rest here there known = there known

named_at : (paths : List NamedDir) (dir : ℕ) → list_all (λ told. are_names told.path) paths ≡ true → is_some (path_at paths dir) ≡ true → Named (path_at paths dir)
named_at [] dir all known = cc
named_at (told ∷ paths) dir all known =
    let both = and_parts (are_names told.path) (list_all (λ told. are_names told.path) paths) all in
    chosen (told.dir == dir) told.path (path_at paths dir) both.0 (λ known. named_at paths dir both.1 known) known

-- a directory with its path, given what was found
dir_read : (found : Option (List (List ℕ))) → Named found → IsPath (option_map_or path_text found [])
    × (named (word_of (option_map_or path_text found [])) ≡ Ok (record { absolute = true; ups = 0; names = option_map_or (λ path. path) found [] }))
dir_read None is = elim is [ ]
dir_read (Some path) is = (text_path path is, ap named (printed_path path is))

module _ (paths : List NamedDir) (all : list_all (λ told. are_names told.path) paths ≡ true) where
  record Known (q : Formula ℕ) : Type 0 where
    terms : are_terms (pathed paths q) ≡ are_terms q
    dirs : ArePaths (pathed paths q)
    words : worded (pathed paths q) ≡ Ok (referred_by (word_to paths) q)

  known : (q : Formula ℕ) → are_known paths q ≡ true → Known q
  known (formula.Term asked) h = record { terms = refl; dirs = tt; words = refl }
  known (formula.Dir dir) h =
      let read = dir_read (path_at paths dir) (named_at paths dir all h) in
      record { terms = refl; dirs = read.0; words = ap (and_then (λ word. Ok (formula.Dir word))) read.1 }
  known (formula.Not q) h =
      let inner = known q h in
      record { terms = inner.terms; dirs = inner.dirs; words = ap (and_then (λ w. Ok (formula.Not w))) inner.words }
  known (formula.And l r) h =
      let both = and_parts (are_known paths l) (are_known paths r) h in
      let left = known l both.0 in
      let right = known r both.1 in
      record {
        terms = ap (λ (b : Bool). b && are_terms (pathed paths r)) left.terms ∙ ap (λ (b : Bool). are_terms l && b) right.terms;
        dirs = (left.dirs, right.dirs);
        words = ap (λ (x : Result (Formula PathWord) Refusal). and_then (λ v. and_then (λ w. Ok (formula.And v w)) (worded (pathed paths r))) x) left.words
            ∙ ap (and_then (λ w. Ok (formula.And (referred_by (word_to paths) l) w))) right.words;
      }
  known (formula.Or l r) h =
      let both = and_parts (are_known paths l) (are_known paths r) h in
      let left = known l both.0 in
      let right = known r both.1 in
      record {
        terms = ap (λ (b : Bool). b && are_terms (pathed paths r)) left.terms ∙ ap (λ (b : Bool). are_terms l && b) right.terms;
        dirs = (left.dirs, right.dirs);
        words = ap (λ (x : Result (Formula PathWord) Refusal). and_then (λ v. and_then (λ w. Ok (formula.Or v w)) (worded (pathed paths r))) x) left.words
            ∙ ap (and_then (λ w. Ok (formula.Or (referred_by (word_to paths) l) w))) right.words;
      }

-- Limits.

limits_read : (q : Formula PathWord) (a b : Bool) (x y : LimitWord) → IsReadBack q (cond a (Err (Limit x)) (cond b (Err (Limit y)) (Ok q)))
limits_read q true b x y = tt
limits_read q false true x y = tt
limits_read q false false x y = refl

long_read : (q : Formula PathWord) (long : Bool) (x : LimitWord) (r : Result (Formula PathWord) Refusal) → IsReadBack q r → IsReadBack q (cond long (Err (Limit x)) r)
long_read q true x r is = tt
long_read q false x r is = is

pub read_back : (paths : List NamedDir) (q : Formula ℕ) → list_all (λ told. are_names told.path) paths ≡ true → are_known paths q ≡ true → are_terms q ≡ true
    → IsReadBack (referred_by (word_to paths) q) (read_query (printed_query paths q))
unfolding read_query
read_back paths q all knows word =
    let k = known paths all q knows in
    let text = text_read (pathed paths q) (k.terms ∙ word) k.dirs in
    let wanted = referred_by (word_to paths) q in
    let found : read_on 1 (printed_query paths q) fresh_reader ≡ Ok text.0 = is_found (printed_query paths q) text.0 text.1 in
    let words : worded text.0.query ≡ Ok wanted = ap worded text.2 ∙ k.words in
    let spelled : spelled_query (printed_query paths q) ≡ limited_query text.0.nesting wanted =
    ap (λ (r : Result Part ℕ). and_then (λ part. and_then (λ w. limited_query part.nesting w) (worded part.query)) (parsed r)) found
    ∙ ap (and_then (λ w. limited_query text.0.nesting w)) words in
    long_read wanted (nat_lt QUERY_LIMIT (length (printed_query paths q))) _ (spelled_query (printed_query paths q))
    (subst (λ (r : Result (Formula PathWord) Refusal). IsReadBack wanted r) (sym spelled)
    (limits_read wanted (nat_lt TERMS_LIMIT (term_count wanted)) (nat_lt NESTING_LIMIT text.0.nesting) _ _))
