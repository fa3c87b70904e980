-- Printed lines are read as the commands that they spell.
use Rattle.std.proofs.Common.{◌≡◌, ℕ, zero, suc, ◌+◌, ◌<◌, ◌≤◌, ◌^◌, Bool, true, false, cond, List, [], ◌∷◌, ◌++◌, length, take, drop, get_or, refl, ap, sym, ◌∙◌, append-nil, append_assoc, arith, Ok, Err}
use Rattle.std.specs.Prelude.{◌==◌, ◌&&◌, ◌||◌, not, if◌then◌else◌, nat_le, slice_index, codes, decimal, Option, Some, None, Result}
use Rattle.std.specs.Char.{is_ascii_digit}
use Rattle.std.specs.Fmt.{digits}
use Rattle.std.specs.List.{before_first, list_all, position_or_len, prefix_len}
use Rattle.std.specs.Str.{bytes_eq}
use Rattle.std.specs.Str.Parse.{AllDigits, digits_value}
use Rattle.std.proofs.Math.Seq.{drop-append_seam, take-append_seam}
use Rattle.std.proofs.lemmas.Bool.{and_from, and_parts, not-true}
use Rattle.std.proofs.lemmas.Bool.Decides.{nat_tests}
use Rattle.std.proofs.lemmas.Fmt.{decimal_is_IsNumeral, first_decimal, length-decimal-le}
use Rattle.std.proofs.lemmas.Str.Parse.{digit_from_value}
use Rattle.hac_model.specs.Run.Answers.{◌>>=◌}
use Rattle.hac_model.specs.Bytes.{is_quote, is_space}
use Rattle.hac_model.specs.Query.Formula.{Formula}
use Rattle.hac_model.specs.Script.LineWords.{in_quotes}
use Rattle.hac_model.specs.Query.QueryReading.{read_query}
use Rattle.hac_model.specs.Query.QueryText.{referred_by, query_text}
use Rattle.hac_model.specs.Script.CommandTexts.{number_part, path_part, query_part, quoted_part, word_text}
use Rattle.hac_model.specs.Script.LineWords.{after_first_run, after_space, first_run, first_word, is_word_end, quoted_word, skip_spaces, word_at}
use Rattle.hac_model.specs.Script.Lines.{each_path, find_of, limited_target, ln_of, mount_named, of_two_paths, one_path, only_word, path_and_query, put_words, smount_of, tick_of, two_paths}
use Rattle.hac_model.specs.Script.PathWords.{has_long_part, is_bad, untested_word, word_of}
use Rattle.hac_model.specs.Script.Numbers.{are_steps, is_number, is_tick}
use Rattle.hac_model.specs.Script.SessionWords.{main_session, named_session, names_session, session_words}
use Rattle.hac_model.specs.Script.SpaceNames.{is_space_byte, is_space_name}
use Rattle.hac_model.specs.declared.commands.Command.{Command}
use Rattle.hac_model.specs.declared.commands.Command.TheVariants.{Find, Ln, Smount, Tick}
use Rattle.hac_model.specs.declared.limits.LimitWord.{LimitWord}
use Rattle.hac_model.specs.declared.limits.LimitWord.TheVariants as limit
use Rattle.hac_model.specs.declared.paths.PathWord.{PathWord}
use Rattle.hac_model.specs.declared.replies.Refusal.{Refusal}
use Rattle.hac_model.specs.declared.replies.Refusal.TheVariants.{BadLine, BadName, Limit}
use Rattle.hac_model.proofs.QuoteLemmas.{word-read}
use Rattle.shell_lang.proofs.PathLemmas.{TargetParts, WordParts, all-weaker, is_inner, is_one_line, word_text-read}
use Rattle.hac_model.proofs.BoolLemmas.{or-true}

-- Words.

-- a byte that ends no word
abbrev pub is_unspaced : ℕ → Bool
is_unspaced b = not (is_space b)

pub space-ends : (bytes : List ℕ) → is_word_end (32 ∷ bytes) ≡ true
space-ends bytes =
    let some : (length (32 ∷ bytes) == 0) ≡ false = grind (arith, nat_tests) in
    ap (λ (t : Bool). t || true) some

end-none : (rest : List ℕ) → is_word_end rest ≡ true → position_or_len is_space rest ≡ 0
end-none [] h = refl
end-none (b ∷ rest) h =
    let some : (length (b ∷ rest) == 0) ≡ false = grind (arith, nat_tests) in
    let space : is_space b ≡ true = ap (λ (t : Bool). t || is_space b) (sym some) ∙ h in
    ap (λ (t : Bool). cond (not t) (1 + position_or_len is_space rest) 0) space

run-length : (word rest : List ℕ) → list_all is_unspaced word ≡ true → is_word_end rest ≡ true → position_or_len is_space (word ++ rest) ≡ length word
run-length [] rest all ends = end-none rest ends
run-length (b ∷ word) rest all ends =
    let both = and_parts (is_unspaced b) (list_all is_unspaced word) all in
    let behind = run-length word rest both.1 ends in
    ap (λ (t : Bool). cond t (1 + position_or_len is_space (word ++ rest)) 0) both.0 ∙ omega (arith, behind)

unskipped : (b : ℕ) (bytes : List ℕ) → is_space b ≡ false → skip_spaces (b ∷ bytes) ≡ b ∷ bytes
unskipped b bytes dull = ap (λ (t : Bool). drop (cond t (1 + prefix_len is_space bytes) 0) (b ∷ bytes)) dull

-- what begins with a byte that is no space: the first run of it, and what follows that
pub record RunAt (b : ℕ) (word rest : List ℕ) : Type 0 where
  pub skipped : skip_spaces (b ∷ (word ++ rest)) ≡ b ∷ (word ++ rest)
  pub run : first_run (b ∷ (word ++ rest)) ≡ b ∷ word
  pub behind : after_first_run (b ∷ (word ++ rest)) ≡ rest

pub run-at : (b : ℕ) (word rest : List ℕ) → is_space b ≡ false → list_all is_unspaced word ≡ true → is_word_end rest ≡ true → RunAt b word rest
run-at b word rest dull all ends =
    let skipped : skip_spaces (b ∷ (word ++ rest)) ≡ b ∷ (word ++ rest) = unskipped b (word ++ rest) dull in
    let inner : list_all is_unspaced (b ∷ word) ≡ true = and_from (is_unspaced b) (list_all is_unspaced word) (ap not dull) all in
    let run : first_run (b ∷ (word ++ rest)) ≡ b ∷ word =
    ap (λ (bytes : List ℕ). before_first is_space bytes) skipped
    ∙ ap (λ (n : ℕ). take n (b ∷ (word ++ rest))) (run-length (b ∷ word) rest inner ends)
    ∙ take-append_seam (b ∷ word) rest in
    record {
      skipped = skipped;
      run = run;
      behind = ap (λ (w : List ℕ). drop (length w) (skip_spaces (b ∷ (word ++ rest)))) run
          ∙ ap (λ (bytes : List ℕ). drop (length (b ∷ word)) bytes) skipped
          ∙ drop-append_seam (b ∷ word) rest;
    }

-- a word that needs no quotes is read as it is
pub plain-read : (b : ℕ) (word rest : List ℕ) → is_space b ≡ false → is_quote b ≡ false → list_all is_unspaced word ≡ true → is_word_end rest ≡ true
    → first_word (b ∷ (word ++ rest)) ≡ Ok (b ∷ word, rest)
plain-read b word rest dull other all ends =
    let at = run-at b word rest dull all ends in
    let some : (length (b ∷ (word ++ rest)) == 0) ≡ false = grind (arith, nat_tests) in
    ap (λ (bytes : List ℕ). word_at bytes) at.skipped
    ∙ ap (λ (t : Bool). if t then Err BadLine else (if is_quote b then quoted_word (word ++ rest) else Ok (first_run (b ∷ (word ++ rest)), after_first_run (b ∷ (word ++ rest))))) some
    ∙ ap (λ (t : Bool). if t then quoted_word (word ++ rest) else Ok (first_run (b ∷ (word ++ rest)), after_first_run (b ∷ (word ++ rest)))) other
    ∙ ap (λ (w : List ℕ). Ok (w, after_first_run (b ∷ (word ++ rest)))) at.run
    ∙ ap (λ (r : List ℕ). Ok (b ∷ word, r)) at.behind

-- A session's name.

space_byte-plain : (b : ℕ) → is_space_byte b ≡ true → is_unspaced b ≡ true
unfolding is_space_byte
space_byte-plain b h = grind (arith, nat_tests)

space_byte-inner : (b : ℕ) → is_space_byte b ≡ true → is_inner b ≡ true
unfolding is_space_byte
space_byte-inner b h = grind (arith, nat_tests)

space_name-bytes : (name : List ℕ) → is_space_name name ≡ true → list_all is_space_byte name ≡ true
unfolding is_space_name
space_name-bytes name h = (and_parts (nat_le 1 (length name) && nat_le (length name) 32) (list_all is_space_byte name) h).1

pub name-one_line : (name : List ℕ) → is_space_name name ≡ true → is_one_line name ≡ true
name-one_line name h = all-weaker is_space_byte is_inner space_byte-inner name (space_name-bytes name h)

-- a line that names its session is parted there
pub session-read : (name rest : List ℕ) → is_space_name name ≡ true → is_word_end rest ≡ true → session_words (64 ∷ (name ++ rest)) ≡ Ok (name, rest)
session-read name rest h ends =
    let at = run-at 64 name rest refl (all-weaker is_space_byte is_unspaced space_byte-plain name (space_name-bytes name h)) ends in
    let named : names_session (64 ∷ (name ++ rest)) ≡ true = ap (λ (bytes : List ℕ). slice_index bytes 0 == 64) at.skipped in
    ap (λ (t : Bool). if t then named_session (64 ∷ (name ++ rest)) else Ok (main_session, 64 ∷ (name ++ rest))) named
    ∙ ap (λ (w : List ℕ). if is_space_name (drop 1 w) then Ok (drop 1 w, after_first_run (64 ∷ (name ++ rest))) else Err BadLine) at.run
    ∙ ap (λ (t : Bool). if t then Ok (name, after_first_run (64 ∷ (name ++ rest))) else Err BadLine) h
    ∙ ap (λ (r : List ℕ). Ok (name, r)) at.behind

-- bytes in quotes are read as they are
quoted-first : (bytes rest : List ℕ) → is_word_end rest ≡ true → first_word (quoted_part bytes ++ rest) ≡ Ok (bytes, rest)
quoted-first bytes rest ends = ap first_word (append_assoc (codes " ") (in_quotes bytes) rest) ∙ word-read bytes rest ends

-- a path in quotes is read as the path
path-first : (word : PathWord) (rest : List ℕ) → is_word_end rest ≡ true → first_word (path_part word ++ rest) ≡ Ok (word_text word, rest)
path-first word rest ends = quoted-first (word_text word) rest ends

-- the one word of bytes, given what is read of them
only-first : (bytes word : List ℕ) → first_word bytes ≡ Ok (word, []) → only_word bytes ≡ Ok word
only-first bytes word read = ap (λ (r : Result (List ℕ × List ℕ) Refusal). r >>= λ w. if list_all is_space w.1 then Ok w.0 else Err BadLine) read

quoted-only : (bytes : List ℕ) → only_word (quoted_part bytes) ≡ Ok bytes
quoted-only bytes = only-first (quoted_part bytes) bytes (ap first_word (sym (append-nil (quoted_part bytes))) ∙ quoted-first bytes [] refl)

path-only : (word : PathWord) → only_word (path_part word) ≡ Ok (word_text word)
path-only word = quoted-only (word_text word)

pub one-read : (command : PathWord → Command) (word : PathWord) → WordParts word → one_path command (path_part word) ≡ Ok (command word)
unfolding one_path
one-read command word known =
    ap (λ (r : Result (List ℕ) Refusal). (r >>= word_of) >>= λ path. Ok (command path)) (path-only word)
    ∙ ap (λ (r : Result PathWord Refusal). r >>= λ path. Ok (command path)) (word_text-read word known)

not_bad : (bytes : List ℕ) (word : PathWord) → word_of bytes ≡ Ok word → is_bad bytes ≡ false
unfolding word_of
not_bad bytes word read =
    elim (is_bad bytes) as (λ b. (let wanted : Result PathWord Refusal = if b then Err BadName else (if has_long_part bytes then Err (Limit limit.Name) else Ok (untested_word bytes)) in wanted) ≡ Ok word → b ≡ false) [
      | true ↦ (λ same. absurd cc)
      | false ↦ (λ same. refl)
    ] read

both-read : (first second : List ℕ) (from to : PathWord) → word_of first ≡ Ok from → word_of second ≡ Ok to → two_paths first second ≡ Ok (from, to)
both-read first second from to one other =
    ap (λ (t : Bool). if t || is_bad second then Err BadName else each_path first second) (not_bad first from one)
    ∙ ap (λ (t : Bool). if t then Err BadName else each_path first second) (not_bad second to other)
    ∙ ap (λ (r : Result PathWord Refusal). r >>= λ from. word_of second >>= λ to. Ok (from, to)) one
    ∙ ap (λ (r : Result PathWord Refusal). r >>= λ to. Ok (from, to)) other

pub two-read : (command : PathWord → PathWord → Command) (first second : PathWord) → WordParts first → WordParts second
    → of_two_paths command (path_part first ++ path_part second) ≡ Ok (command first second)
unfolding of_two_paths
two-read command first second one other =
    ap (λ (r : Result (List ℕ × List ℕ) Refusal). r >>= λ w. only_word w.1 >>= λ v. two_paths w.0 v >>= λ paths. Ok (command paths.0 paths.1))
    (path-first first (path_part second) (space-ends (in_quotes (word_text second))))
    ∙ ap (λ (r : Result (List ℕ) Refusal). r >>= λ v. two_paths (word_text first) v >>= λ paths. Ok (command paths.0 paths.1)) (path-only second)
    ∙ ap (λ (r : Result (PathWord × PathWord) Refusal). r >>= λ paths. Ok (command paths.0 paths.1))
    (both-read (word_text first) (word_text second) first second (word_text-read first one) (word_text-read second other))

pub link-read : (target : List ℕ) (path : PathWord) → TargetParts target → WordParts path → ln_of (quoted_part target ++ path_part path) ≡ Ok (Ln target path)
unfolding ln_of
link-read target path known is =
    ap (λ (r : Result (List ℕ × List ℕ) Refusal). r >>= λ w. only_word w.1 >>= λ v. two_paths w.0 v >>= λ paths. limited_target w.0 >>= λ bytes. Ok (Ln bytes paths.1))
    (quoted-first target (path_part path) (space-ends (in_quotes (word_text path))))
    ∙ ap (λ (r : Result (List ℕ) Refusal). r >>= λ v. two_paths target v >>= λ paths. limited_target target >>= λ bytes. Ok (Ln bytes paths.1)) (path-only path)
    ∙ ap (λ (r : Result (PathWord × PathWord) Refusal). r >>= λ paths. limited_target target >>= λ bytes. Ok (Ln bytes paths.1))
    (both-read target (word_text path) (untested_word target) path known.read (word_text-read path is))
    ∙ ap (λ (t : Bool). (if t then Ok target else Err (Limit limit.Target)) >>= λ bytes. Ok (Ln bytes path)) known.few

pub mount-read : (path : PathWord) (space : List ℕ) → WordParts path → is_space_name space ≡ true → smount_of (path_part path ++ quoted_part space) ≡ Ok (Smount path space)
unfolding smount_of
mount-read path space known is =
    ap (λ (r : Result (List ℕ × List ℕ) Refusal). r >>= λ w. only_word w.1 >>= λ v. mount_named w.0 v) (path-first path (quoted_part space) (space-ends (in_quotes space)))
    ∙ ap (λ (r : Result (List ℕ) Refusal). r >>= λ v. mount_named (word_text path) v) (quoted-only space)
    ∙ ap (λ (t : Bool). (if t then Ok space else Err BadLine) >>= λ name. word_of (word_text path) >>= λ word. Ok (Smount word name)) is
    ∙ ap (λ (r : Result PathWord Refusal). r >>= λ word. Ok (Smount word space)) (word_text-read path known)

-- what a query is read as, given the limit that its text exceeds
abbrev pub asked_as : Formula PathWord → Option LimitWord → Result (Formula PathWord) Refusal
asked_as query None = Ok query
asked_as query (Some word) = Err (Limit word)

-- and what a command is
abbrev pub told_as : Command → Option LimitWord → Result Command Refusal
told_as command None = Ok command
told_as command (Some word) = Err (Limit word)

told : (command : Formula PathWord → Command) (query : Formula PathWord) (word : Option LimitWord) → (asked_as query word >>= λ q. Ok (command q)) ≡ told_as (command query) word
told command query None = refl
told command query (Some word) = refl

pub asking-read : (command : PathWord → Formula PathWord → Command) (word : PathWord) (query : Formula PathWord) (limits : Option LimitWord) → WordParts word
    → read_query (after_space (query_part query)) ≡ asked_as query limits → path_and_query command (path_part word ++ query_part query) ≡ told_as (command word query) limits
unfolding path_and_query
asking-read command word query limits known read =
    ap (λ (r : Result (List ℕ × List ℕ) Refusal). r >>= λ w. word_of w.0 >>= λ path. read_query (after_space w.1) >>= λ q. Ok (command path q))
    (path-first word (query_part query) (space-ends (query_text (referred_by word_text query))))
    ∙ ap (λ (r : Result PathWord Refusal). r >>= λ path. read_query (after_space (query_part query)) >>= λ q. Ok (command path q)) (word_text-read word known)
    ∙ ap (λ (r : Result (Formula PathWord) Refusal). r >>= λ q. Ok (command word q)) read
    ∙ told (command word) query limits

pub find-read : (query : Formula PathWord) (limits : Option LimitWord) → read_query (after_space (query_part query)) ≡ asked_as query limits → find_of (query_part query) ≡ told_as (Find query) limits
unfolding find_of
find-read query limits read = ap (λ (r : Result (Formula PathWord) Refusal). r >>= λ q. Ok (Find q)) read ∙ told Find query limits

-- Numbers.

digit-plain : (c : ℕ) → is_ascii_digit c ≡ true → is_unspaced c ≡ true
digit-plain c h = grind (arith, nat_tests)

digit-quote : (c : ℕ) → is_ascii_digit c ≡ true → is_quote c ≡ false
digit-quote c h = grind (arith, nat_tests)

digit-is : (c : ℕ) → 48 ≤ c → c ≤ 57 → is_ascii_digit c ≡ true
digit-is c low high = grind (arith, nat_tests, low, high)

digits-all : (ds : List ℕ) → AllDigits 10 ds → list_all is_ascii_digit ds ≡ true
digits-all [] h = refl
digits-all (c ∷ ds) h =
    let range = digit_from_value c h.0 in
    and_from (is_ascii_digit c) (list_all is_ascii_digit ds) (digit-is c range.0 range.1) (digits-all ds h.1)

pub space-skipped : (bytes : List ℕ) → first_word (32 ∷ bytes) ≡ first_word bytes
space-skipped bytes =
    let one : 1 + prefix_len is_space bytes ≡ suc (prefix_len is_space bytes) = omega arith in
    ap (λ (n : ℕ). word_at (drop n (32 ∷ bytes))) one

digits-first : (ds : List ℕ) → 0 < length ds → list_all is_ascii_digit ds ≡ true → first_word (32 ∷ ds) ≡ Ok (ds, [])
digits-first [] some all = absurd (omega (arith, some))
digits-first (c ∷ ds) some all =
    let both = and_parts (is_ascii_digit c) (list_all is_ascii_digit ds) all in
    let dull : is_space c ≡ false = not-true (is_space c) (digit-plain c both.0) in
    space-skipped (c ∷ ds)
    ∙ ap (λ (bytes : List ℕ). first_word (c ∷ bytes)) (sym (append-nil ds))
    ∙ plain-read c ds [] dull (digit-quote c both.0) (all-weaker is_ascii_digit is_unspaced digit-plain ds both.1) refl

nonzero-number : (ds : List ℕ) → 0 < length ds → length ds ≤ 10 → list_all is_ascii_digit ds ≡ true → 48 < get_or ds 0 0 → is_number ds ≡ true
nonzero-number ds some few all first =
    let least : nat_le 1 (length ds) ≡ true = grind (arith, nat_tests, some) in
    let most : nat_le (length ds) 10 ≡ true = grind (arith, nat_tests, few) in
    let other : (slice_index ds 0 == 48) ≡ false = grind (arith, nat_tests, first) in
    let four : (nat_le 1 (length ds) && nat_le (length ds) 10 && list_all is_ascii_digit ds && not (slice_index ds 0 == 48)) ≡ true =
    and_from (nat_le 1 (length ds) && nat_le (length ds) 10 && list_all is_ascii_digit ds) (not (slice_index ds 0 == 48))
    (and_from (nat_le 1 (length ds) && nat_le (length ds) 10) (list_all is_ascii_digit ds) (and_from (nat_le 1 (length ds)) (nat_le (length ds) 10) least most) all)
    (ap not other) in
    ap (λ (t : Bool). bytes_eq ds (codes "0") || t) four ∙ or-true (bytes_eq ds (codes "0"))

-- a number is printed as one
decimal-number : (n : ℕ) → n < 10000000000 → is_number (decimal n) ≡ true
unfolding digits
decimal-number zero few = refl
decimal-number (suc n) few =
    let small : suc n < 2 ^ 64 = omega (arith, few) in
    let is = decimal_is_IsNumeral (suc n) small in
    nonzero-number (decimal (suc n)) is.0.0 (length-decimal-le 10 (suc n) (omega arith) (omega (arith, few)) small) (digits-all (decimal (suc n)) is.0.1) (first_decimal (suc n) (omega arith) small)

digit-inner : (c : ℕ) → is_ascii_digit c ≡ true → is_inner c ≡ true
digit-inner c h = grind (arith, nat_tests)

pub number-one_line : (n : ℕ) → n < 10000000000 → is_one_line (number_part n) ≡ true
number-one_line n few =
    let is = decimal_is_IsNumeral n (omega (arith, few)) in
    all-weaker is_ascii_digit is_inner digit-inner (decimal n) (digits-all (decimal n) is.0.1)

number-only : (n : ℕ) → n < 10000000000 → only_word (number_part n) ≡ Ok (decimal n)
number-only n few =
    let is = decimal_is_IsNumeral n (omega (arith, few)) in
    only-first (number_part n) (decimal n) (digits-first (decimal n) is.0.0 (digits-all (decimal n) is.0.1))

-- so many steps are printed as a number that a `tick` may have
pub steps-few : (n : ℕ) → are_steps n ≡ true → n < 10000000000
steps-few n h = grind (arith, nat_tests, h)

pub tick-read : (n : ℕ) → are_steps n ≡ true → tick_of (number_part n) ≡ Ok (Tick n)
unfolding tick_of
tick-read n h =
    let few = steps-few n h in
    let value : digits_value 10 (decimal n) ≡ n = (decimal_is_IsNumeral n (omega (arith, few))).1 in
    let is : is_tick (decimal n) ≡ true =
    and_from (is_number (decimal n)) (are_steps (digits_value 10 (decimal n))) (decimal-number n few) (ap (λ (m : ℕ). are_steps m) value ∙ h) in
    ap (λ (r : Result (List ℕ) Refusal). r >>= λ word. if is_tick word then Ok (Tick (digits_value 10 word)) else Err BadLine) (number-only n few)
    ∙ ap (λ (t : Bool). if t then Ok (Tick (digits_value 10 (decimal n))) else Err BadLine) is
    ∙ ap (λ (m : ℕ). Ok (Tick m)) value

pub put-words : (word : PathWord) (n : ℕ) → n < 10000000000 → put_words (path_part word ++ number_part n) ≡ Ok (word_text word, decimal n)
unfolding put_words
put-words word n few =
    ap (λ (r : Result (List ℕ × List ℕ) Refusal). r >>= λ path. only_word path.1 >>= λ length. if is_number length then Ok (path.0, length) else Err BadLine)
    (path-first word (number_part n) (space-ends (decimal n)))
    ∙ ap (λ (r : Result (List ℕ) Refusal). r >>= λ length. if is_number length then Ok (word_text word, length) else Err BadLine)
    (number-only n few)
    ∙ ap (λ (t : Bool). if t then Ok (word_text word, decimal n) else Err BadLine) (decimal-number n few)
