-- Path words as they are printed: they are read as themselves, and stand on one line.
use Rattle.std.proofs.Common.{◌≡◌, ℕ, zero, suc, ◌+◌, ◌-◌, true, false, Bool, cond, eqb, List, [], ◌∷◌, ◌++◌, length, refl, ap, sym, ◌∙◌, arith, codes, Ok, Err}
use Rattle.std.specs.Prelude.{not, nat_le, replicate, slice_index, Result, ◌&&◌, ◌||◌, if◌then◌else◌}
use Rattle.std.specs.List.{list_all, list_any, flat_map, onto_first, position_or_len}
use Rattle.std.proofs.lemmas.Bool.{and_from, and_parts, cond-false, not-true, not_from_true, or_from}
use Rattle.std.proofs.lemmas.List.{append-nil}
use Rattle.std.proofs.lemmas.List.Folds.{list_all-append}
use Rattle.std.proofs.lemmas.List.Splits.{slice_split_none, slice_split_at}
use Rattle.std.proofs.lemmas.Bool.Decides.{nat_tests}
use Rattle.hac_model.specs.Bytes.{is_backslash, is_line_end, is_quote, is_slash}
use Rattle.hac_model.specs.Script.LineWords.{quoted_byte}
use Rattle.hac_model.specs.Script.CommandTexts.{path_part, quoted_part, steps, word_text}
use Rattle.hac_model.specs.Script.PathWords.{parts, is_part, is_long, is_bad, is_path_word, is_target, has_long_part, relative, at_root, before, untested_word, word_of}
use Rattle.hac_model.specs.Tree.Names.{is_name, is_name_byte}
use Rattle.hac_model.specs.Tree.Paths.{are_names, slashed, path_text}
use Rattle.hac_model.specs.declared.limits.TheConstants.{TARGET_LIMIT}
use Rattle.hac_model.specs.declared.paths.PathWord.{PathWord}
use Rattle.hac_model.specs.declared.replies.Refusal.{Refusal}
use Rattle.hac_model.proofs.WordLemmas.{leads_down, word_of-names}
use Rattle.hac_names.proofs.Printed.{all_parts, no_slash, none_long, printed_path}
use Rattle.shell_lang.proofs.GivenLemmas.{IsWord}
use Rattle.hac_names.proofs.Walks.{relative-absolute}

-- What is known of a word that is read.

pub record WordParts (word : PathWord) : Type 0 where
  pub names : are_names word.names ≡ true
  pub ups : word.absolute ≡ true → word.ups ≡ 0

rooted-ups : (slash : Bool) (word : PathWord) → word.absolute ≡ false → (cond slash (at_root word) word).absolute ≡ true → (cond slash (at_root word) word).ups ≡ 0
rooted-ups true word own is = refl
rooted-ups false word own is = absurd (let clash : false ≡ true = sym own ∙ is in cc)

guard : (b : Bool) (refusal : Refusal) (other : Result PathWord Refusal) (word : PathWord) → cond b (Err refusal) other ≡ Ok word → other ≡ Ok word
guard true refusal other word h = absurd cc
guard false refusal other word h = h

ok-same : (one other : PathWord) → (let read : Result PathWord Refusal = Ok one in read) ≡ Ok other → one ≡ other
ok-same one other e = cc

word-ups : (bytes : List ℕ) (word : PathWord) → word_of bytes ≡ Ok word → word.absolute ≡ true → word.ups ≡ 0
unfolding word_of
word-ups bytes word h is =
    let same : untested_word bytes ≡ word = ok-same (untested_word bytes) word (guard (has_long_part bytes) _ _ word (guard (is_bad bytes) _ _ word h)) in
    ap (λ (w : PathWord). w.ups) (sym same) ∙ rooted-ups (is_slash (slice_index bytes 0)) (relative (parts bytes)) (relative-absolute (parts bytes)) (ap (λ (w : PathWord). w.absolute) same ∙ is)

pub word-parts : (word : PathWord) → IsWord word → WordParts word
word-parts word (bytes, read) = record { names = word_of-names bytes word read; ups = word-ups bytes word read }

-- The steps of a relative word.

parts-slashed : (front : List ℕ) (ps : List (List ℕ)) → is_part front ≡ true → list_all is_part ps ≡ true → parts (front ++ flat_map slashed ps) ≡ front ∷ ps
parts-slashed front [] is all = ap parts (append-nil front) ∙ slice_split_none is_slash front (no_slash front is)
parts-slashed front (next ∷ ps) is all =
    let both = and_parts (is_part next) (list_all is_part ps) all in
    slice_split_at is_slash front 47 (next ++ flat_map slashed ps) (no_slash front is) refl
    ∙ ap (λ (rest : List (List ℕ)). front ∷ rest) (parts-slashed next ps both.0 both.1)

steps-parts : (n : ℕ) (names : List (List ℕ)) → are_names names ≡ true → list_all is_part (replicate n (codes "..") ++ names) ≡ true
steps-parts zero names h = all_parts names h
steps-parts (suc n) names h = steps-parts n names h

steps-short : (n : ℕ) (names : List (List ℕ)) → are_names names ≡ true → list_any is_long (replicate n (codes "..") ++ names) ≡ false
steps-short zero names h = none_long names h
steps-short (suc n) names h = steps-short n names h

abbrev below : ℕ → List (List ℕ) → PathWord
below n names = record { absolute = false; ups = n; names = names }

names-lead : (names : List (List ℕ)) → are_names names ≡ true → relative names ≡ below 0 names
names-lead [] h = refl
names-lead (name ∷ names) h =
    let p = and_parts (is_name name) (are_names names) h in
    let n = leads_down name p.0 in
    let moves = n.moves in
    let down = n.down in
    let rest = names-lead names p.1 in
    rw (moves, down, rest) refl

steps-lead : (n : ℕ) (names : List (List ℕ)) → are_names names ≡ true → relative (replicate n (codes "..") ++ names) ≡ below n names
steps-lead zero names h = names-lead names h
steps-lead (suc n) names h = ap (λ (w : PathWord). before (codes "..") w) (steps-lead n names h) ∙ ap (λ (m : ℕ). below m names) (omega arith)

relative-read : (n : ℕ) (names : List (List ℕ)) → are_names names ≡ true → word_of (word_text (below n names)) ≡ Ok (below n names)
unfolding word_of
relative-read n names h =
    let ps : List (List ℕ) = replicate n (codes "..") ++ names in
    let text : List ℕ = codes "." ++ flat_map slashed ps in
    let cut : parts text ≡ codes "." ∷ ps = parts-slashed (codes ".") ps refl (steps-parts n names h) in
    let bad : is_bad text ≡ false =
    or_from (eqb (length text) 0) (not (list_all is_part (parts text))) (grind (arith, nat_tests))
    (not_from_true (list_all is_part (parts text)) (ap (list_all is_part) cut ∙ steps-parts n names h)) in
    let long : has_long_part text ≡ false = ap (list_any is_long) cut ∙ steps-short n names h in
    let word : untested_word text ≡ below n names = ap relative cut ∙ steps-lead n names h in
    cond-false (is_bad text) _ _ bad ∙ cond-false (has_long_part text) _ _ long ∙ ap (λ (w : PathWord). Ok w) word

read-back : (absolute : Bool) (n : ℕ) (names : List (List ℕ)) → are_names names ≡ true → (absolute ≡ true → n ≡ 0)
    → (let word : PathWord = record { absolute = absolute; ups = n; names = names } in word_of (word_text word) ≡ Ok word)
read-back true n names h none = printed_path names h ∙ ap (λ (m : ℕ). Ok (record { absolute = true; ups = m; names = names })) (sym (none refl))
read-back false n names h none = relative-read n names h

pub word_text-read : (word : PathWord) → WordParts word → word_of (word_text word) ≡ Ok word
word_text-read word known = read-back word.absolute word.ups word.names known.names known.ups

-- One line.

-- the byte ends no line
abbrev pub is_inner : ℕ → Bool
is_inner b = not (is_line_end b)

abbrev pub is_one_line : List ℕ → Bool
is_one_line bytes = list_all is_inner bytes

pub one_line-join : (a b : List ℕ) → is_one_line a ≡ true → is_one_line b ≡ true → is_one_line (a ++ b) ≡ true
one_line-join a b p q = list_all-append is_inner a b ∙ and_from (is_one_line a) (is_one_line b) p q

pub one_line-unended : (bytes : List ℕ) → is_one_line bytes ≡ true → position_or_len is_line_end bytes ≡ length bytes
one_line-unended [] h = refl
one_line-unended (b ∷ bytes) h =
    let p = and_parts (is_inner b) (is_one_line bytes) h in
    let rest = one_line-unended bytes p.1 in
    ap (λ (t : Bool). cond t (1 + position_or_len is_line_end bytes) 0) p.0 ∙ omega (arith, rest)

name_byte-inner : (b : ℕ) → is_name_byte b ≡ true → is_inner b ≡ true
name_byte-inner b h = grind (arith, nat_tests)

pub all-weaker : (p q : ℕ → Bool) → ((b : ℕ) → p b ≡ true → q b ≡ true) → (bytes : List ℕ) → list_all p bytes ≡ true → list_all q bytes ≡ true
all-weaker p q weaker [] h = refl
all-weaker p q weaker (b ∷ bytes) h =
    let both = and_parts (p b) (list_all p bytes) h in
    and_from (q b) (list_all q bytes) (weaker b both.0) (all-weaker p q weaker bytes both.1)

slashed-one_line : (ps : List (List ℕ)) → list_all is_part ps ≡ true → is_one_line (flat_map slashed ps) ≡ true
slashed-one_line [] all = refl
slashed-one_line (part ∷ ps) all =
    let both = and_parts (is_part part) (list_all is_part ps) all in
    one_line-join part (flat_map slashed ps) (all-weaker is_name_byte is_inner name_byte-inner part both.0) (slashed-one_line ps both.1)

path-one_line : (names : List (List ℕ)) → are_names names ≡ true → is_one_line (path_text names) ≡ true
path-one_line [] h = refl
path-one_line (name ∷ names) h = slashed-one_line (name ∷ names) (all_parts (name ∷ names) h)

pub word-one_line : (word : PathWord) → WordParts word → is_one_line (word_text word) ≡ true
word-one_line word known =
    elim word.absolute as (λ a. is_one_line (if a then path_text word.names else codes "." ++ flat_map slashed (steps word)) ≡ true) [
      | true ↦ path-one_line word.names known.names
      | false ↦ slashed-one_line (steps word) (steps-parts word.ups word.names known.names)
    ]

-- a byte, with a backslash before it or not
pub marked-one_line : (mark : Bool) (b : ℕ) → is_inner b ≡ true → is_one_line (if mark then 92 ∷ b ∷ [] else b ∷ []) ≡ true
marked-one_line true b h = and_from (is_inner b) true h refl
marked-one_line false b h = and_from (is_inner b) true h refl

quoted-one_line : (bytes : List ℕ) → is_one_line bytes ≡ true → is_one_line (flat_map quoted_byte bytes) ≡ true
quoted-one_line [] h = refl
quoted-one_line (b ∷ bytes) h =
    let both = and_parts (is_inner b) (is_one_line bytes) h in
    one_line-join (quoted_byte b) (flat_map quoted_byte bytes) (marked-one_line (is_quote b || is_backslash b) b both.0) (quoted-one_line bytes both.1)

pub quoted_part-one_line : (bytes : List ℕ) → is_one_line bytes ≡ true → is_one_line (quoted_part bytes) ≡ true
quoted_part-one_line bytes h = one_line-join (flat_map quoted_byte bytes) (34 ∷ []) (quoted-one_line bytes h) refl

pub path_part-one_line : (word : PathWord) → WordParts word → is_one_line (path_part word) ≡ true
path_part-one_line word known = quoted_part-one_line (word_text word) (word-one_line word known)

-- Targets.

-- the first byte of parts is one that names may hold, or a slash
onto-parts : (b : ℕ) (ps : List (List ℕ)) → list_all is_part (onto_first b ps) ≡ true → (is_name_byte b ≡ true) × (list_all is_part ps ≡ true)
onto-parts b [] h = ((and_parts (is_name_byte b) true (and_parts (is_name_byte b && true) true h).0).0, refl)
onto-parts b (part ∷ ps) h =
    let both = and_parts (is_part (b ∷ part)) (list_all is_part ps) h in
    let first = and_parts (is_name_byte b) (is_part part) both.0 in
    (first.0, and_from (is_part part) (list_all is_part ps) first.1 both.1)

slash-inner : (b : ℕ) → is_slash b ≡ true → is_inner b ≡ true
slash-inner b h = grind (arith, nat_tests)

parts-one_line : (bytes : List ℕ) → list_all is_part (parts bytes) ≡ true → is_one_line bytes ≡ true
parts-one_line [] h = refl
parts-one_line (b ∷ bytes) h =
    elim (is_slash b) as (λ t. is_slash b ≡ t → list_all is_part (cond t ([] ∷ parts bytes) (onto_first b (parts bytes))) ≡ true → is_one_line (b ∷ bytes) ≡ true) [
      | true ↦ (λ slash all. and_from (is_inner b) (is_one_line bytes) (slash-inner b slash) (parts-one_line bytes all))
      | false ↦ (λ other all.
          let first = onto-parts b (parts bytes) all in
          and_from (is_inner b) (is_one_line bytes) (name_byte-inner b first.0) (parts-one_line bytes first.1))
    ] refl h

-- what is known of the target of a link
pub record TargetParts (target : List ℕ) : Type 0 where
  pub few : nat_le (length target) TARGET_LIMIT ≡ true
  pub read : word_of target ≡ Ok (untested_word target)
  pub one_line : is_one_line (quoted_part target) ≡ true

pub target-parts : (target : List ℕ) → is_target target ≡ true → TargetParts target
unfolding word_of
target-parts target h =
    let both = and_parts (nat_le (length target) TARGET_LIMIT) (is_path_word target) h in
    let word = and_parts (not (is_bad target)) (not (has_long_part target)) both.1 in
    let good : is_bad target ≡ false = not-true (is_bad target) word.0 in
    let short : has_long_part target ≡ false = not-true (has_long_part target) word.1 in
    record {
      few = both.0;
      read = cond-false (is_bad target) _ _ good ∙ cond-false (has_long_part target) _ _ short;
      one_line = quoted_part-one_line target (parts-one_line target (or_none (eqb (length target) 0) (list_all is_part (parts target)) good));
    }
  where
    or_none : (one other : Bool) → (one || not other) ≡ false → other ≡ true
    or_none true other e = absurd cc
    or_none false true e = refl
    or_none false false e = absurd cc
