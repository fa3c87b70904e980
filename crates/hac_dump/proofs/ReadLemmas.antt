-- The lines of a dump are read as their commands.
use Rattle.std.proofs.Common.{◌≡◌, ℕ, zero, suc, ◌+◌, ◌*◌, ◌≤◌, ◌<◌, Bool, true, false, List, [], ◌∷◌, ◌++◌, length, map, take, refl, ap, sym, ◌∙◌, append_assoc, length-append, arith, Ok, Err, Option, Some, None}
use Rattle.std.specs.Prelude.{◌||◌, ◌&&◌, if◌then◌else◌, nat_le, nat_lt, not, codes, decimal, Result}
use Rattle.std.specs.Fmt.{digits}
use Rattle.std.specs.Str.{bytes_eq}
use Rattle.std.specs.List.{AllByRecursion, flat_map, list_all}
use Rattle.std.specs.Option.{option_map, unwrap_or}
use Rattle.std.proofs.lemmas.Bool.{and_parts, le-leb, leb-true, ltb-false}
use Rattle.std.proofs.lemmas.Bool.Decides.{nat_tests}
use Rattle.std.proofs.lemmas.Fmt.{decimal_is_IsNumeral, length-decimal-le}
use Rattle.std.proofs.lemmas.List.{take_all}
use Rattle.hac_model.specs.Run.Answers.{◌>>=◌}
use Rattle.hac_model.specs.Bytes.{is_backslash, is_quote, is_space}
use Rattle.hac_model.specs.Query.Formula.{Formula}
use Rattle.hac_model.specs.Query.QueryReading.{read_query, spelled_query}
use Rattle.hac_model.specs.Query.QueryText.{referred_by, query_text}
use Rattle.hac_model.specs.Script.{due, script}
use Rattle.hac_model.specs.Script.CommandTexts.{number_part, path_part, put_bytes, query_part, quoted_part, word_text}
use Rattle.hac_model.specs.Script.LineWords.{first_word, in_quotes, is_word_end, quoted_byte}
use Rattle.hac_model.specs.Script.Lines.{Item, alone, asked, called_with, command_with, each_path, is_put, is_quiet, item_of, items_of, limited_text, line_with, maybe_path, named_command, of_two_paths, only_word, put_length, put_of, put_to, put_words, taken_of, two_paths}
use Rattle.hac_model.specs.Script.Printed.{ended}
use Rattle.hac_model.specs.Script.Puts.{came}
use Rattle.hac_model.specs.Script.PathWords.{has_long_part, is_bad, is_path_word, is_target, untested_word, word_of}
use Rattle.hac_model.specs.Script.SessionWords.{main_session, named_session, names_session, session_words}
use Rattle.hac_model.specs.Tree.Limits.{is_text}
use Rattle.hac_model.specs.Tree.Names.{is_name, is_name_byte}
use Rattle.hac_model.specs.Tree.Paths.{are_names, path_text, slashed}
use Rattle.hac_model.specs.declared.commands.Command.{Command}
use Rattle.hac_model.specs.declared.commands.Command.TheVariants.{Mkdir, Write, Cd, Ln, Setq, Sln, Srm, Index}
use Rattle.hac_model.specs.declared.limits.LimitWord.TheVariants as limit
use Rattle.hac_model.specs.declared.limits.TheConstants.{LINE_LIMIT, NAME_LIMIT, QUERY_LIMIT, TARGET_LIMIT, TEXT_LIMIT}
use Rattle.hac_model.specs.declared.paths.PathWord.{PathWord}
use Rattle.hac_model.specs.declared.replies.Refusal.{Refusal}
use Rattle.hac_model.specs.declared.replies.Refusal.TheVariants.{BadLine, BadName, Limit}
use Rattle.hac_model.specs.declared.taken.Taken.{Taken}
use Rattle.hac_model.specs.declared.taken.Taken.TheVariants.{Whole, Dropped, Short}
use Rattle.hac_model.proofs.JoinLemmas.{script-line}
use Rattle.hac_model.proofs.QuoteLemmas.{word-read}
use Rattle.shell_lang.proofs.AskedLemmas.{query-one_line}
use Rattle.shell_lang.proofs.LineLemmas.{asking-read, is_unspaced, link-read, number-one_line, one-read, plain-read, put-words, space-ends}
use Rattle.shell_lang.proofs.PathLemmas.{WordParts, is_one_line, one_line-join, one_line-unended, path_part-one_line, target-parts, word_text-read}
use Rattle.shell_lang.proofs.PutLemmas.{put_said}
use Rattle.hac_model.specs.Script.Dump.{dump_line, dumped, word_here, word_to}
use Rattle.hac_dump.proofs.TurnLemmas.{main_line}

-- how many bytes a line asks for
abbrev pub asks_for : Command → Option ℕ
asks_for (Write path text) = Some (length text)
asks_for other = None

abbrev pub taken_by : Command → Option Taken
taken_by command = option_map (λ count. came count (put_bytes command)) (asks_for command)

-- a text is read as a command
pub record ReadsAs (command : Command) (text : List ℕ) : Type 0 where
  pub one_line : is_one_line text ≡ true
  pub loud : is_quiet text ≡ false
  pub unnamed : names_session text ≡ false
  pub asks : asked (put_said text) ≡ asks_for command
  pub reads : command_with text (taken_by command) ≡ Ok command

asks-length : (command : Command) → unwrap_or (asks_for command) 0 ≡ length (put_bytes command)
asks-length (Write path text) = refl
asks-length other = refl

-- so its line is, with its end and what belongs to it
pub line-read : (command : Command) (text more : List ℕ) → ReadsAs command text → length text ≤ LINE_LIMIT → script ((ended text ++ put_bytes command) ++ more) ≡ Ok (main_line command) ∷ script more
line-read command text more r short =
    ap script (simp append_assoc)
    ∙ script-line text (put_bytes command) more (one_line-unended text r.one_line) due-length
    ∙ ap (λ (items : List Item). items ++ script more) item
  where
    fits : nat_le (length text) LINE_LIMIT ≡ true
    fits = le-leb (length text) LINE_LIMIT short

    words : session_words text ≡ Ok (main_session, text)
    words = ap (λ (t : Bool). if t then named_session text else Ok (main_session, text)) r.unnamed

    asks : put_length text ≡ asks_for command
    asks = ap (λ (s : Result (List ℕ × List ℕ) Refusal). asked (s >>= λ session. put_said session.1)) words ∙ r.asks

    due-length : due text ≡ length (put_bytes command)
    due-length =
        ap (λ (t : Bool). unwrap_or (if t then None else (if nat_le (length text) LINE_LIMIT then put_length text else None)) 0) r.loud
        ∙ ap (λ (t : Bool). unwrap_or (if t then put_length text else None) 0) fits
        ∙ ap (λ (o : Option ℕ). unwrap_or o 0) asks ∙ asks-length command

    item : items_of text (put_bytes command) ≡ Ok (main_line command) ∷ []
    item =
        ap (λ (t : Bool). if t then [] else item_of text (put_bytes command) ∷ []) r.loud
        ∙ ap (λ (t : Bool). (if t then line_with text (taken_of text (put_bytes command)) else Err (Limit limit.Line)) ∷ []) fits
        ∙ ap (λ (o : Option ℕ). line_with text (option_map (λ count. came count (put_bytes command)) o) ∷ []) asks
        ∙ ap (λ (s : Result (List ℕ × List ℕ) Refusal). (s >>= λ session. command_with session.1 (taken_by command) >>= λ c. Ok (record { session = session.0; command = c })) ∷ []) words
        ∙ ap (λ (c : Result Command Refusal). (c >>= λ c. Ok (record { session = main_session; command = c })) ∷ []) r.reads

-- ---- each command

-- a command that is no `put`
record Named (text : List ℕ) (wanted : Result Command Refusal) : Type 0 where
  asks : asked (put_said text) ≡ None
  reads : (taken : Option Taken) → command_with text taken ≡ wanted

named : (b : ℕ) (name arguments : List ℕ) (wanted : Result Command Refusal) → is_space b ≡ false → is_quote b ≡ false → list_all is_unspaced name ≡ true
    → is_put (b ∷ name) ≡ false → is_word_end arguments ≡ true → named_command (b ∷ name) arguments ≡ wanted → Named (b ∷ (name ++ arguments)) wanted
named b name arguments wanted dull other all not_put ends is =
    let first = plain-read b name arguments dull other all ends in
    record {
      asks = ap (λ (r : Result (List ℕ × List ℕ) Refusal). asked (r >>= λ word. if is_put word.0 then put_words word.1 else Err BadLine)) first
          ∙ ap (λ (t : Bool). asked (if t then put_words arguments else Err BadLine)) not_put;
      reads = λ taken.
          ap (λ (r : Result (List ℕ × List ℕ) Refusal). r >>= λ word. called_with word.0 word.1 taken) first
          ∙ ap (λ (t : Bool). if t then put_of arguments taken else named_command (b ∷ name) arguments) not_put ∙ is;
    }

of_named : (command : Command) (text : List ℕ) → asks_for command ≡ None → is_one_line text ≡ true → is_quiet text ≡ false → names_session text ≡ false → Named text (Ok command) → ReadsAs command text
of_named command text none one_line loud unnamed is = record { one_line = one_line; loud = loud; unnamed = unnamed; asks = is.asks ∙ sym none; reads = is.reads (taken_by command) }

path-ends : (word : PathWord) (rest : List ℕ) → is_word_end (path_part word ++ rest) ≡ true
path-ends word rest = space-ends (in_quotes (word_text word) ++ rest)

path-only_ends : (word : PathWord) → is_word_end (path_part word) ≡ true
path-only_ends word = space-ends (in_quotes (word_text word))

text-came : (text : List ℕ) → is_text text ≡ true → came (length text) text ≡ Whole text
text-came text fits =
    let short : nat_lt (length text) (length text) ≡ false = grind (arith, nat_tests) in
    ap (λ (t : Bool). if t then Short else (if is_text text then Whole (take (length text) text) else Dropped)) short
    ∙ ap (λ (t : Bool). if t then Whole (take (length text) text) else Dropped) fits
    ∙ ap Whole (take_all (length text) text (omega arith))

alone-read : (command : Command) → alone command [] ≡ Ok command
unfolding alone
alone-read command = refl

none-read : (command : Option PathWord → Command) → maybe_path command [] ≡ Ok (command None)
unfolding maybe_path
none-read command = refl

some-read : (command : Option PathWord → Command) (path : PathWord) → WordParts path → maybe_path command (path_part path) ≡ Ok (command (Some path))
unfolding maybe_path
some-read command path known = one-read (λ p. command (Some p)) path known

pub reads-mkdir : (path : PathWord) → WordParts path → ReadsAs (Mkdir path) (dump_line (Mkdir path))
reads-mkdir path known = of_named (Mkdir path) (dump_line (Mkdir path)) refl (path_part-one_line path known) refl refl
    (named 109 (codes "kdir") (path_part path) (Ok (Mkdir path)) refl refl refl refl (path-only_ends path) (one-read Mkdir path known))

pub reads-index : ReadsAs Index (dump_line Index)
reads-index = of_named Index (dump_line Index) refl refl refl refl (named 105 (codes "ndex") [] (Ok Index) refl refl refl refl refl (alone-read Index))

pub reads-back : ReadsAs (Cd None) (dump_line (Cd None))
reads-back = of_named (Cd None) (dump_line (Cd None)) refl refl refl refl (named 99 (codes "d") [] (Ok (Cd None)) refl refl refl refl refl (none-read Cd))

pub reads-cd : (path : PathWord) → WordParts path → ReadsAs (Cd (Some path)) (dump_line (Cd (Some path)))
reads-cd path known = of_named (Cd (Some path)) (dump_line (Cd (Some path))) refl (path_part-one_line path known) refl refl
    (named 99 (codes "d") (path_part path) (Ok (Cd (Some path))) refl refl refl refl (path-only_ends path) (some-read Cd path known))

pub reads-link : (target : List ℕ) (path : PathWord) → is_target target ≡ true → WordParts path → ReadsAs (Ln target path) (dump_line (Ln target path))
reads-link target path fits known =
    let parts = target-parts target fits in
    of_named (Ln target path) (dump_line (Ln target path)) refl (one_line-join (quoted_part target) (path_part path) parts.one_line (path_part-one_line path known)) refl refl
    (named 108 (codes "n") (quoted_part target ++ path_part path) (Ok (Ln target path)) refl refl refl refl (space-ends (in_quotes target ++ path_part path)) (link-read target path parts known))

pub reads-query : (path : PathWord) (query : Formula PathWord) → WordParts path → read_query (query_text (referred_by word_text query)) ≡ Ok query → ReadsAs (Setq path query) (dump_line (Setq path query))
reads-query path query known read =
    of_named (Setq path query) (dump_line (Setq path query)) refl
    (one_line-join (path_part path) (query_part query) (path_part-one_line path known) (query-one_line query (query_text (referred_by word_text query), read))) refl refl
    (named 115 (codes "etq") (path_part path ++ query_part query) (Ok (Setq path query)) refl refl refl refl (path-ends path (query_part query)) (asking-read Setq path query None known read))

pub reads-put : (path : PathWord) (text : List ℕ) → WordParts path → is_text text ≡ true → ReadsAs (Write path text) (dump_line (Write path text))
reads-put path text known fits =
    let most : length text ≤ TEXT_LIMIT = grind (arith, nat_tests, fits) in
    let few : length text < 10000000000 = omega (arith, most) in
    let small : length text < 18446744073709551616 = omega (arith, most) in
    let arguments : List ℕ = path_part path ++ number_part (length text) in
    let first = plain-read 112 (codes "ut") arguments refl refl refl (path-ends path (number_part (length text))) in
    let words = put-words path (length text) few in
    let taken : taken_by (Write path text) ≡ Some (Whole text) = ap (λ (t : Taken). Some t) (text-came text fits) in
    record {
      one_line = one_line-join (path_part path) (number_part (length text)) (path_part-one_line path known) (number-one_line (length text) few);
      loud = refl;
      unnamed = refl;
      asks = ap (λ (r : Result (List ℕ × List ℕ) Refusal). asked (r >>= λ word. if is_put word.0 then put_words word.1 else Err BadLine)) first
          ∙ ap asked words ∙ ap (λ (n : ℕ). Some n) (decimal_is_IsNumeral (length text) small).1;
      reads = ap (λ (t : Option Taken). command_with (codes "put" ++ arguments) t) taken
          ∙ ap (λ (r : Result (List ℕ × List ℕ) Refusal). r >>= λ word. called_with word.0 word.1 (Some (Whole text))) first
          ∙ ap (λ (r : Result (List ℕ × List ℕ) Refusal). r >>= λ w. put_to w.0 (Some (Whole text))) words
          ∙ ap (λ (r : Result PathWord Refusal). r >>= λ word. limited_text text >>= λ bytes. Ok (Write word bytes)) (word_text-read path known)
          ∙ ap (λ (t : Bool). (if t then Ok text else Err (Limit limit.Text)) >>= λ bytes. Ok (Write path bytes)) fits;
    }

-- ---- `.`

here-word : word_of (codes ".") ≡ Ok word_here
unfolding word_of
here-word = refl

here-bad : is_bad (codes ".") ≡ false
here-bad = refl

not_bad : (bytes : List ℕ) (word : PathWord) → word_of bytes ≡ Ok word → is_bad bytes ≡ false
unfolding word_of
not_bad bytes word read =
    elim (is_bad bytes) as (λ b. (let wanted : Result PathWord Refusal = if b then Err BadName else (if has_long_part bytes then Err (Limit limit.Name) else Ok (untested_word bytes)) in wanted) ≡ Ok word → b ≡ false) [
      | true ↦ (λ same. absurd cc)
      | false ↦ (λ same. refl)
    ] read

here-first : only_word (codes " .") ≡ Ok (codes ".")
here-first = refl

here-read : (command : PathWord → PathWord → Command) (item : PathWord) → WordParts item → of_two_paths command (path_part item ++ codes " .") ≡ Ok (command item word_here)
unfolding of_two_paths
here-read command item known =
    ap (λ (r : Result (List ℕ × List ℕ) Refusal). r >>= λ w. only_word w.1 >>= λ v. two_paths w.0 v >>= λ paths. Ok (command paths.0 paths.1))
    (ap first_word (append_assoc (codes " ") (in_quotes (word_text item)) (codes " .")) ∙ word-read (word_text item) (codes " .") (space-ends (codes ".")))
    ∙ ap (λ (r : Result (List ℕ) Refusal). r >>= λ v. two_paths (word_text item) v >>= λ paths. Ok (command paths.0 paths.1)) here-first
    ∙ ap (λ (r : Result (PathWord × PathWord) Refusal). r >>= λ paths. Ok (command paths.0 paths.1)) both
  where
    both : two_paths (word_text item) (codes ".") ≡ Ok (item, word_here)
    both =
        (λ i. if not_bad (word_text item) item (word_text-read item known) i || here-bad i then Err BadName else each_path (word_text item) (codes "."))
        ∙ ap (λ (r : Result PathWord Refusal). r >>= λ from. word_of (codes ".") >>= λ to. Ok (from, to)) (word_text-read item known)
        ∙ ap (λ (r : Result PathWord Refusal). r >>= λ to. Ok (item, to)) here-word

pub reads-add : (item : PathWord) → WordParts item → ReadsAs (Sln item word_here) (dump_line (Sln item word_here))
reads-add item known = of_named (Sln item word_here) (dump_line (Sln item word_here)) refl (one_line-join (path_part item) (codes " .") (path_part-one_line item known) refl) refl refl
    (named 115 (codes "ln") (path_part item ++ codes " .") (Ok (Sln item word_here)) refl refl refl refl (path-ends item (codes " .")) (here-read Sln item known))

pub reads-remove : (item : PathWord) → WordParts item → ReadsAs (Srm item word_here) (dump_line (Srm item word_here))
reads-remove item known = of_named (Srm item word_here) (dump_line (Srm item word_here)) refl (one_line-join (path_part item) (codes " .") (path_part-one_line item known) refl) refl refl
    (named 115 (codes "rm") (path_part item ++ codes " .") (Ok (Srm item word_here)) refl refl refl refl (path-ends item (codes " .")) (here-read Srm item known))

-- ---- all lines

-- an empty line says nothing
empty-line : (more : List ℕ) → script (10 ∷ more) ≡ script more
empty-line more = script-line [] [] more refl refl

pub dumped-read : (command : Command) (more : List ℕ) → ReadsAs command (dump_line command) → length (dump_line command) ≤ LINE_LIMIT → script (dumped command ++ more) ≡ Ok (main_line command) ∷ script more
dumped-read (Write path text) more r short =
    ap script (simp append_assoc)
    ∙ line-read (Write path text) (dump_line (Write path text)) (10 ∷ more) r short
    ∙ ap (λ (items : List Item). Ok (main_line (Write path text)) ∷ items) (empty-line more)
dumped-read other more r short = line-read other (dump_line other) more r short

-- what is known of each line of a dump
abbrev pub IsFine : Command → Type 0
IsFine command = ReadsAs command (dump_line command) × (length (dump_line command) ≤ LINE_LIMIT)

script-none : script [] ≡ []
unfolding script
script-none = refl

pub all-read : (commands : List Command) → AllByRecursion IsFine commands → script (flat_map dumped commands) ≡ map (λ command. Ok (main_line command)) commands
all-read [] fine = script-none
all-read (command ∷ commands) fine =
    dumped-read command (flat_map dumped commands) fine.0.0 fine.0.1
    ∙ ap (λ (items : List Item). Ok (main_line command) ∷ items) (all-read commands fine.1)

-- ---- lengths

names-size : (path : List (List ℕ)) → are_names path ≡ true → length (flat_map slashed path) ≤ 256 * length path
names-size [] named = omega arith
names-size (name ∷ path) named =
    let parts = and_parts (is_name name) (are_names path) named in
    let rest = names-size path parts.1 in
    let one : length name ≤ 255 = name-size name parts.0 in
    let joined = length-append (slashed name) (flat_map slashed path) in
    let first : length (slashed name) ≡ suc (length name) = refl in
    omega (arith, rest, one, joined, first)
  where
    name-size : (name : List ℕ) → is_name name ≡ true → length name ≤ 255
    name-size name is =
        let a = (and_parts (nat_le 1 (length name) && nat_le (length name) NAME_LIMIT && list_all is_name_byte name && not (bytes_eq name (codes "."))) (not (bytes_eq name (codes ".."))) is).0 in
        let b = (and_parts (nat_le 1 (length name) && nat_le (length name) NAME_LIMIT && list_all is_name_byte name) (not (bytes_eq name (codes "."))) a).0 in
        let c = (and_parts (nat_le 1 (length name) && nat_le (length name) NAME_LIMIT) (list_all is_name_byte name) b).0 in
        let d = (and_parts (nat_le 1 (length name)) (nat_le (length name) NAME_LIMIT) c).1 in
        leb-true (length name) NAME_LIMIT d

path-size : (path : List (List ℕ)) → are_names path ≡ true → length path ≤ 64 → length (path_text path) ≤ 16385
path-size [] named few = omega arith
path-size (name ∷ path) named few = let all = names-size (name ∷ path) named in omega (arith, all, few)

quoted-size : (word : List ℕ) → length (in_quotes word) ≤ 2 * length word + 2
quoted-size word = let inner = each word in let joined = length-append (flat_map quoted_byte word) (34 ∷ []) in omega (arith, inner, joined)
  where
    each : (bytes : List ℕ) → length (flat_map quoted_byte bytes) ≤ 2 * length bytes
    each [] = omega arith
    each (b ∷ bytes) =
        let rest = each bytes in
        let joined = length-append (quoted_byte b) (flat_map quoted_byte bytes) in
        let one : length (quoted_byte b) ≤ 2 = elim (is_quote b || is_backslash b) as (λ t. length (if t then 92 ∷ b ∷ [] else b ∷ []) ≤ 2) [ true ↦ omega arith | false ↦ omega arith ] in
        omega (arith, rest, joined, one)

pub part-size : (path : List (List ℕ)) → are_names path ≡ true → length path ≤ 64 → length (path_part (word_to path)) ≤ 32773
part-size path named few = let size = path-size path named few in let quotes = quoted-size (path_text path) in omega (arith, size, quotes)

decimal-size : (n : ℕ) → n < 10000000000 → length (decimal n) ≤ 10
unfolding digits
decimal-size zero few = omega arith
decimal-size (suc n) few = length-decimal-le 10 (suc n) (omega arith) (omega (arith, few)) (omega (arith, few))

module _ (path : List (List ℕ)) (named-path : are_names path ≡ true) (few : length path ≤ 64) where
  known : WordParts (word_to path)
  known = record { names = named-path; ups = λ _. refl }

  size : length (path_part (word_to path)) ≤ 32773
  size = part-size path named-path few

  pub fine-mkdir : IsFine (Mkdir (word_to path))
  fine-mkdir = (reads-mkdir (word_to path) known, omega (arith, size, length-append (codes "mkdir") (path_part (word_to path))))

  pub fine-cd : IsFine (Cd (Some (word_to path)))
  fine-cd = (reads-cd (word_to path) known, omega (arith, size, length-append (codes "cd") (path_part (word_to path))))

  pub fine-add : IsFine (Sln (word_to path) word_here)
  fine-add = (reads-add (word_to path) known, omega (arith, size, length-append (codes "sln") (path_part (word_to path) ++ codes " ."), length-append (path_part (word_to path)) (codes " .")))

  pub fine-remove : IsFine (Srm (word_to path) word_here)
  fine-remove = (reads-remove (word_to path) known, omega (arith, size, length-append (codes "srm") (path_part (word_to path) ++ codes " ."), length-append (path_part (word_to path)) (codes " .")))

  pub fine-put : (text : List ℕ) → is_text text ≡ true → IsFine (Write (word_to path) text)
  fine-put text fits =
      let most : length text ≤ TEXT_LIMIT = grind (arith, nat_tests, fits) in
      let digits = decimal-size (length text) (omega (arith, most)) in
      (reads-put (word_to path) text known fits, omega (arith, size, digits, length-append (codes "put") (path_part (word_to path) ++ number_part (length text)), length-append (path_part (word_to path)) (number_part (length text))))

  pub fine-link : (target : List ℕ) → is_target target ≡ true → IsFine (Ln target (word_to path))
  fine-link target fits =
      let most : length target ≤ TARGET_LIMIT = leb-true (length target) TARGET_LIMIT (and_parts (nat_le (length target) TARGET_LIMIT) (is_path_word target) fits).0 in
      let quotes = quoted-size target in
      (reads-link target (word_to path) fits known, omega (arith, size, most, quotes, length-append (codes "ln") (quoted_part target ++ path_part (word_to path)), length-append (quoted_part target) (path_part (word_to path))))

  query-short : (text : List ℕ) (q : Formula PathWord) → read_query text ≡ Ok q → length text ≤ QUERY_LIMIT
  unfolding read_query
  query-short text q read = at (nat_lt QUERY_LIMIT (length text)) refl read
    where
      at : (b : Bool) → nat_lt QUERY_LIMIT (length text) ≡ b → (if b then Err (Limit limit.Query) else spelled_query text) ≡ Ok q → length text ≤ QUERY_LIMIT
      at true is read = absurd cc
      at false is read = ltb-false QUERY_LIMIT (length text) is

  pub fine-query : (query : Formula PathWord) → read_query (query_text (referred_by word_text query)) ≡ Ok query → IsFine (Setq (word_to path) query)
  fine-query query read =
      let short = query-short (query_text (referred_by word_text query)) query read in
      (reads-query (word_to path) query known read, omega (arith, size, short, length-append (codes "setq") (path_part (word_to path) ++ query_part query), length-append (path_part (word_to path)) (query_part query)))

pub fine-index : IsFine Index
fine-index = (reads-index, omega arith)

pub fine-back : IsFine (Cd None)
fine-back = (reads-back, omega arith)
