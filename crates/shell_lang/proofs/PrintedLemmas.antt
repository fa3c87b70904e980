-- A printed line, with its end and the bytes that belong to it, is read as its command.
use Rattle.std.proofs.Common.{◌≡◌, ℕ, ◌≤◌, ◌<◌, Bool, true, false, List, [], ◌∷◌, ◌++◌, length, take, refl, ap, sym, ◌∙◌, append_assoc, arith, Ok, Err, Option, Some, None}
use Rattle.std.specs.Prelude.{if◌then◌else◌, nat_le, nat_lt, codes, decimal, Result}
use Rattle.std.specs.List.{list_all, position_or_len}
use Rattle.std.specs.Option.{option_map, unwrap_or}
use Rattle.std.proofs.lemmas.Bool.{and_parts}
use Rattle.std.proofs.lemmas.Bool.Decides.{nat_tests}
use Rattle.std.proofs.lemmas.Fmt.{decimal_is_IsNumeral}
use Rattle.std.proofs.lemmas.List.{take_all}
use Rattle.std.proofs.lemmas.Slice.Eq.{bytes_eq-Decides}
use Rattle.std.specs.Str.{bytes_eq}
use Rattle.hac_model.specs.Run.Answers.{◌>>=◌}
use Rattle.hac_model.specs.Bytes.{is_line_end, is_quote, is_space}
use Rattle.hac_model.specs.Query.Formula.{Formula}
use Rattle.hac_model.specs.Script.LineWords.{in_quotes}
use Rattle.hac_model.specs.Query.QueryText.{referred_by, query_text}
use Rattle.hac_model.specs.Script.{due, first_items, script}
use Rattle.hac_model.specs.Script.CommandTexts.{command_text, line_text, number_part, path_part, put_bytes, query_part, quoted_part, session_line, word_text}
use Rattle.hac_model.specs.Script.LineWords.{first_word, is_word_end}
use Rattle.hac_model.specs.Script.Lines.{Item, alone, asked, called_with, command_with, is_put, is_quiet, is_spelled, is_spelled_word, item_of, items_of, limited_text, line_with, maybe_path, named_command, put_to, put_length, put_of, put_words, taken_of}
use Rattle.hac_model.specs.Script.Puts.{came}
use Rattle.hac_model.specs.Script.PathWords.{is_target}
use Rattle.hac_model.specs.Script.SessionWords.{main_session, named_session, names_session, session_words}
use Rattle.hac_model.specs.Script.SpaceNames.{is_space_name}
use Rattle.hac_model.specs.Tree.Limits.{is_text}
use Rattle.hac_model.specs.declared.commands.Command.{Command}
use Rattle.hac_model.specs.declared.commands.Command.TheVariants.{Mkdir, Rmdir, Write, Cat, Ls, Cd, Pwd, Mv, Rm, Ln, Readlink, Smkdir, Setq, Unq, Query, Sls, Sln, Srm, Sforget, Find, Smount, Ssync, Sumount, Index, Tick, Counts, Checkpoint}
use Rattle.hac_model.specs.declared.commands.Line.{Line}
use Rattle.hac_model.specs.declared.limits.LimitWord.{LimitWord}
use Rattle.hac_model.specs.declared.limits.LimitWord.TheVariants as limit
use Rattle.hac_model.specs.declared.limits.TheConstants.{LINE_LIMIT, QUERY_LIMIT, TEXT_LIMIT}
use Rattle.hac_model.specs.declared.paths.PathWord.{PathWord}
use Rattle.hac_model.specs.declared.replies.Refusal.{Refusal}
use Rattle.hac_model.specs.declared.replies.Refusal.TheVariants.{BadLine, Limit}
use Rattle.hac_model.specs.declared.taken.Taken.{Taken}
use Rattle.hac_model.specs.declared.taken.Taken.TheVariants.{Whole, Dropped, Short}
use Rattle.hac_model.proofs.JoinLemmas.{first_items-line, script-line}
use Rattle.shell_lang.proofs.AskedLemmas.{query-one_line, query-read}
use Rattle.shell_lang.proofs.GivenLemmas.{Given, IsAsked, IsWord, given-line}
use Rattle.shell_lang.proofs.LineLemmas.{asking-read, name-one_line, number-one_line, find-read, is_unspaced, link-read, mount-read, one-read, plain-read, put-words, session-read, space-ends, space-skipped, steps-few, tick-read, told_as, two-read}
use Rattle.shell_lang.proofs.PathLemmas.{WordParts, is_one_line, one_line-join, one_line-unended, path_part-one_line, quoted_part-one_line, target-parts, word-parts, word_text-read}
use Rattle.shell_lang.proofs.PutLemmas.{behind-session, put_said}
use Rattle.shell_lang.specs.Laws.{IsGiven}
use Rattle.shell_lang.specs.Limits.{excess, query_size}

-- how many bytes the printed line asks for
abbrev asks_for : Command → Option ℕ
asks_for (Write path text) = Some (length text)
asks_for other = None

-- the limit of a query that is printed with so many bytes
abbrev past_query : ℕ → Option LimitWord
past_query size = if nat_lt QUERY_LIMIT size then Some limit.Query else None

abbrev query_told : Command → Result Command Refusal
query_told command = told_as command (past_query (query_size command))

-- what comes of the bytes that the printed line asks for
abbrev taken_by : Command → Option Taken
taken_by command = option_map (λ count. came count (put_bytes command)) (asks_for command)

-- what is known of a printed command
record Printed (command : Command) : Type 0 where
  one_line : is_one_line (line_text command) ≡ true
  loud : is_quiet (line_text command) ≡ false
  unnamed : names_session (line_text command) ≡ false
  asks : asked (put_said (line_text command)) ≡ asks_for command
  reads : command_with (line_text command) (taken_by command) ≡ query_told command

-- a command that is no `put`
record Named (text : List ℕ) (wanted : Result Command Refusal) : Type 0 where
  asks : asked (put_said text) ≡ None
  reads : (taken : Option Taken) → command_with text taken ≡ wanted

named : (b : ℕ) (name arguments : List ℕ) (wanted : Result Command Refusal) → is_space b ≡ false → is_quote b ≡ false → list_all is_unspaced name ≡ true
    → is_put (b ∷ name) ≡ false → is_word_end arguments ≡ true → named_command (b ∷ name) arguments ≡ wanted → Named (b ∷ (name ++ arguments)) wanted
named b name arguments wanted dull other all not_put ends is =
    let first = plain-read b name arguments dull other all ends in
    record {
      asks = ap (λ (r : Result (List ℕ × List ℕ) Refusal). asked (r >>= λ word. if is_put word.0 then put_words word.1 else Err BadLine)) first
          ∙ ap (λ (t : Bool). asked (if t then put_words arguments else Err BadLine)) not_put;
      reads = λ taken.
          ap (λ (r : Result (List ℕ × List ℕ) Refusal). r >>= λ word. called_with word.0 word.1 taken) first
          ∙ ap (λ (t : Bool). if t then put_of arguments taken else named_command (b ∷ name) arguments) not_put ∙ is;
    }

of_named : (command : Command) → asks_for command ≡ None → is_one_line (line_text command) ≡ true → is_quiet (line_text command) ≡ false
    → names_session (line_text command) ≡ false → Named (line_text command) (query_told command) → Printed command
of_named command none one_line loud unnamed is =
    record { one_line = one_line; loud = loud; unnamed = unnamed; asks = is.asks ∙ sym none; reads = is.reads (taken_by command) }

-- what follows the name of a command with a path
path-ends : (word : PathWord) (rest : List ℕ) → is_word_end (path_part word ++ rest) ≡ true
path-ends word rest = space-ends (in_quotes (word_text word) ++ rest)

path-only_ends : (word : PathWord) → is_word_end (path_part word) ≡ true
path-only_ends word = space-ends (in_quotes (word_text word))

pair-one_line : (first second : PathWord) → IsWord first → IsWord second → is_one_line (path_part first ++ path_part second) ≡ true
pair-one_line first second one other =
    one_line-join (path_part first) (path_part second) (path_part-one_line first (word-parts first one)) (path_part-one_line second (word-parts second other))

asking-one_line : (word : PathWord) (query : Formula PathWord) → IsWord word → IsAsked query → is_one_line (path_part word ++ query_part query) ≡ true
asking-one_line word query is asked = one_line-join (path_part word) (query_part query) (path_part-one_line word (word-parts word is)) (query-one_line query asked)

-- the bytes of a text come whole
text-came : (text : List ℕ) → is_text text ≡ true → came (length text) text ≡ Whole text
text-came text fits =
    let short : nat_lt (length text) (length text) ≡ false = grind (arith, nat_tests) in
    ap (λ (t : Bool). if t then Short else (if is_text text then Whole (take (length text) text) else Dropped)) short
    ∙ ap (λ (t : Bool). if t then Whole (take (length text) text) else Dropped) fits
    ∙ ap Whole (take_all (length text) text (omega arith))

put-printed : (path : PathWord) (text : List ℕ) → IsWord path → is_text text ≡ true → Printed (Write path text)
put-printed path text is fits =
    let most : length text ≤ TEXT_LIMIT = grind (arith, nat_tests, fits) in
    let few : length text < 10000000000 = omega (arith, most) in
    let small : length text < 18446744073709551616 = omega (arith, most) in
    let known = word-parts path is in
    let arguments : List ℕ = path_part path ++ number_part (length text) in
    let first = plain-read 112 (codes "ut") arguments refl refl refl (path-ends path (number_part (length text))) in
    let words = put-words path (length text) few in
    let taken : taken_by (Write path text) ≡ Some (Whole text) = ap (λ (t : Taken). Some t) (text-came text fits) in
    record {
      one_line = one_line-join (path_part path) (number_part (length text)) (path_part-one_line path known) (number-one_line (length text) few);
      loud = refl;
      unnamed = refl;
      asks = ap (λ (r : Result (List ℕ × List ℕ) Refusal). asked (r >>= λ word. if is_put word.0 then put_words word.1 else Err BadLine)) first
          ∙ ap asked words ∙ ap (λ (n : ℕ). Some n) (decimal_is_IsNumeral (length text) small).1;
      reads = ap (λ (t : Option Taken). command_with (codes "put" ++ arguments) t) taken
          ∙ ap (λ (r : Result (List ℕ × List ℕ) Refusal). r >>= λ word. called_with word.0 word.1 (Some (Whole text))) first
          ∙ ap (λ (r : Result (List ℕ × List ℕ) Refusal). r >>= λ w. put_to w.0 (Some (Whole text))) words
          ∙ ap (λ (r : Result PathWord Refusal). r >>= λ word. limited_text text >>= λ bytes. Ok (Write word bytes)) (word_text-read path known)
          ∙ ap (λ (t : Bool). (if t then Ok text else Err (Limit limit.Text)) >>= λ bytes. Ok (Write path bytes)) fits;
    }

part-one_line : (word : PathWord) → IsWord word → is_one_line (path_part word) ≡ true
part-one_line word is = path_part-one_line word (word-parts word is)

alone-read : (command : Command) → alone command [] ≡ Ok command
unfolding alone
alone-read command = refl

none-read : (command : Option PathWord → Command) → maybe_path command [] ≡ Ok (command None)
unfolding maybe_path
none-read command = refl

some-read : (command : Option PathWord → Command) (path : PathWord) → WordParts path → maybe_path command (path_part path) ≡ Ok (command (Some path))
unfolding maybe_path
some-read command path known = one-read (λ p. command (Some p)) path known

printed : (command : Command) → is_spelled command ≡ true → Given command → Printed command
printed (Mkdir path) spelled is =
    of_named (Mkdir path) refl (part-one_line path is) refl refl
    (named 109 (codes "kdir") (path_part path) (Ok (Mkdir path)) refl refl refl refl (path-only_ends path) (one-read Mkdir path (word-parts path is)))
printed (Rmdir path) spelled is =
    of_named (Rmdir path) refl (part-one_line path is) refl refl
    (named 114 (codes "mdir") (path_part path) (Ok (Rmdir path)) refl refl refl refl (path-only_ends path) (one-read Rmdir path (word-parts path is)))
printed (Write path text) spelled is = put-printed path text is (and_parts (is_spelled_word path) (is_text text) spelled).1
printed (Cat path) spelled is =
    of_named (Cat path) refl (part-one_line path is) refl refl
    (named 99 (codes "at") (path_part path) (Ok (Cat path)) refl refl refl refl (path-only_ends path) (one-read Cat path (word-parts path is)))
printed (Ls None) spelled is = of_named (Ls None) refl refl refl refl (named 108 (codes "s") [] (Ok (Ls None)) refl refl refl refl refl (none-read Ls))
printed (Ls (Some path)) spelled is =
    of_named (Ls (Some path)) refl (part-one_line path is) refl refl
    (named 108 (codes "s") (path_part path) (Ok (Ls (Some path))) refl refl refl refl (path-only_ends path) (some-read Ls path (word-parts path is)))
printed (Cd None) spelled is = of_named (Cd None) refl refl refl refl (named 99 (codes "d") [] (Ok (Cd None)) refl refl refl refl refl (none-read Cd))
printed (Cd (Some path)) spelled is =
    of_named (Cd (Some path)) refl (part-one_line path is) refl refl
    (named 99 (codes "d") (path_part path) (Ok (Cd (Some path))) refl refl refl refl (path-only_ends path) (some-read Cd path (word-parts path is)))
printed Pwd spelled is = of_named Pwd refl refl refl refl (named 112 (codes "wd") [] (Ok Pwd) refl refl refl refl refl (alone-read Pwd))
printed (Mv from to) spelled is =
    of_named (Mv from to) refl (pair-one_line from to is.0 is.1) refl refl
    (named 109 (codes "v") (path_part from ++ path_part to) (Ok (Mv from to)) refl refl refl refl (path-ends from (path_part to)) (two-read Mv from to (word-parts from is.0) (word-parts to is.1)))
printed (Rm path) spelled is =
    of_named (Rm path) refl (part-one_line path is) refl refl
    (named 114 (codes "m") (path_part path) (Ok (Rm path)) refl refl refl refl (path-only_ends path) (one-read Rm path (word-parts path is)))
printed (Ln target path) spelled is =
    let parts = and_parts (is_target target) (is_spelled_word path) spelled in
    let known = target-parts target parts.0 in
    of_named (Ln target path) refl (one_line-join (quoted_part target) (path_part path) known.one_line (part-one_line path is)) refl refl
    (named 108 (codes "n") (quoted_part target ++ path_part path) (Ok (Ln target path)) refl refl refl refl (space-ends (in_quotes target ++ path_part path)) (link-read target path known (word-parts path is)))
printed (Readlink path) spelled is =
    of_named (Readlink path) refl (part-one_line path is) refl refl
    (named 114 (codes "eadlink") (path_part path) (Ok (Readlink path)) refl refl refl refl (path-only_ends path) (one-read Readlink path (word-parts path is)))
printed (Smkdir path query) spelled is =
    of_named (Smkdir path query) refl (asking-one_line path query is.0 is.1) refl refl
    (named 115 (codes "mkdir") (path_part path ++ query_part query) (told_as (Smkdir path query) (past_query (length (query_text (referred_by word_text query))))) refl refl refl refl (path-ends path (query_part query))
    (asking-read Smkdir path query (past_query (length (query_text (referred_by word_text query)))) (word-parts path is.0) (query-read query is.1)))
printed (Setq path query) spelled is =
    of_named (Setq path query) refl (asking-one_line path query is.0 is.1) refl refl
    (named 115 (codes "etq") (path_part path ++ query_part query) (told_as (Setq path query) (past_query (length (query_text (referred_by word_text query))))) refl refl refl refl (path-ends path (query_part query))
    (asking-read Setq path query (past_query (length (query_text (referred_by word_text query)))) (word-parts path is.0) (query-read query is.1)))
printed (Unq path) spelled is =
    of_named (Unq path) refl (part-one_line path is) refl refl
    (named 117 (codes "nq") (path_part path) (Ok (Unq path)) refl refl refl refl (path-only_ends path) (one-read Unq path (word-parts path is)))
printed (Query path) spelled is =
    of_named (Query path) refl (part-one_line path is) refl refl
    (named 113 (codes "uery") (path_part path) (Ok (Query path)) refl refl refl refl (path-only_ends path) (one-read Query path (word-parts path is)))
printed (Sls None) spelled is = of_named (Sls None) refl refl refl refl (named 115 (codes "ls") [] (Ok (Sls None)) refl refl refl refl refl (none-read Sls))
printed (Sls (Some path)) spelled is =
    of_named (Sls (Some path)) refl (part-one_line path is) refl refl
    (named 115 (codes "ls") (path_part path) (Ok (Sls (Some path))) refl refl refl refl (path-only_ends path) (some-read Sls path (word-parts path is)))
printed (Sln item dir) spelled is =
    of_named (Sln item dir) refl (pair-one_line item dir is.0 is.1) refl refl
    (named 115 (codes "ln") (path_part item ++ path_part dir) (Ok (Sln item dir)) refl refl refl refl (path-ends item (path_part dir)) (two-read Sln item dir (word-parts item is.0) (word-parts dir is.1)))
printed (Srm item dir) spelled is =
    of_named (Srm item dir) refl (pair-one_line item dir is.0 is.1) refl refl
    (named 115 (codes "rm") (path_part item ++ path_part dir) (Ok (Srm item dir)) refl refl refl refl (path-ends item (path_part dir)) (two-read Srm item dir (word-parts item is.0) (word-parts dir is.1)))
printed (Sforget item dir) spelled is =
    of_named (Sforget item dir) refl (pair-one_line item dir is.0 is.1) refl refl
    (named 115 (codes "forget") (path_part item ++ path_part dir) (Ok (Sforget item dir)) refl refl refl refl (path-ends item (path_part dir)) (two-read Sforget item dir (word-parts item is.0) (word-parts dir is.1)))
printed (Find query) spelled is =
    of_named (Find query) refl (query-one_line query is) refl refl
    (named 102 (codes "ind") (query_part query) (told_as (Find query) (past_query (length (query_text (referred_by word_text query))))) refl refl refl refl (space-ends (query_text (referred_by word_text query))) (find-read query (past_query (length (query_text (referred_by word_text query)))) (query-read query is)))
printed (Smount path space) spelled is =
    let parts = and_parts (is_spelled_word path) (is_space_name space) spelled in
    of_named (Smount path space) refl (one_line-join (path_part path) (quoted_part space) (part-one_line path is) (quoted_part-one_line space (name-one_line space parts.1))) refl refl
    (named 115 (codes "mount") (path_part path ++ quoted_part space) (Ok (Smount path space)) refl refl refl refl (path-ends path (quoted_part space)) (mount-read path space (word-parts path is) parts.1))
printed (Ssync path) spelled is =
    of_named (Ssync path) refl (part-one_line path is) refl refl
    (named 115 (codes "sync") (path_part path) (Ok (Ssync path)) refl refl refl refl (path-only_ends path) (one-read Ssync path (word-parts path is)))
printed (Sumount path) spelled is =
    of_named (Sumount path) refl (part-one_line path is) refl refl
    (named 115 (codes "umount") (path_part path) (Ok (Sumount path)) refl refl refl refl (path-only_ends path) (one-read Sumount path (word-parts path is)))
printed Index spelled is = of_named Index refl refl refl refl (named 105 (codes "ndex") [] (Ok Index) refl refl refl refl refl (alone-read Index))
printed (Tick steps) spelled is =
    of_named (Tick steps) refl (number-one_line steps (steps-few steps spelled)) refl refl
    (named 116 (codes "ick") (number_part steps) (Ok (Tick steps)) refl refl refl refl (space-ends (decimal steps)) (tick-read steps spelled))
printed Counts spelled is = of_named Counts refl refl refl refl (named 99 (codes "ounts") [] (Ok Counts) refl refl refl refl refl (alone-read Counts))
printed Checkpoint spelled is = of_named Checkpoint refl refl refl refl (named 99 (codes "heckpoint") [] (Ok Checkpoint) refl refl refl refl refl (alone-read Checkpoint))

-- The line, with its session.

-- what is known of the text of a line: where its session is named or not, and what follows
record Opened (line : Line) (text : List ℕ) : Type 0 where
  one_line : is_one_line text ≡ true
  loud : is_quiet text ≡ false
  bytes : List ℕ
  words : session_words text ≡ Ok (line.session, bytes)
  first : first_word bytes ≡ first_word (line_text line.command)

opened : (line : Line) → is_space_name line.session ≡ true → Printed line.command → Opened line (session_line line)
opened line spelled known =
    let text : List ℕ = line_text line.command in
    elim (bytes_eq line.session main_session) as (λ t. bytes_eq line.session main_session ≡ t → Opened line ((if t then [] else codes "@" ++ (line.session ++ codes " ")) ++ text)) [
      | true ↦ (λ own.
          let same : line.session ≡ main_session = (bytes_eq-Decides line.session main_session).0 own in
          record {
            one_line = known.one_line;
            loud = known.loud;
            bytes = text;
            words = ap (λ (t : Bool). if t then named_session text else Ok (main_session, text)) known.unnamed ∙ ap (λ (name : List ℕ). Ok (name, text)) (sym same);
            first = refl;
          })
      | false ↦ (λ other. record {
        one_line = one_line-join (line.session ++ codes " ") text (one_line-join line.session (codes " ") (name-one_line line.session spelled) refl) known.one_line;
        loud = refl;
        bytes = 32 ∷ text;
        words = ap (λ (more : List ℕ). session_words (64 ∷ more)) (append_assoc line.session (codes " ") text)
            ∙ session-read line.session (32 ∷ text) spelled (space-ends text);
        first = space-skipped text;
      })
    ] refl

-- The script.

asks-length : (command : Command) → unwrap_or (asks_for command) 0 ≡ length (put_bytes command)
asks-length (Write path text) = refl
asks-length other = refl

cut : (line bytes more : List ℕ) → ((line ++ 10 ∷ []) ++ bytes) ++ more ≡ line ++ 10 ∷ (bytes ++ more)
cut line bytes more = simp append_assoc

-- an item, given what its line is read as
told_item : Line → Option LimitWord → Item
told_item line None = Ok line
told_item line (Some word) = Err (Limit word)

said-told : (line : Line) (word : Option LimitWord) →
    (let item : Item = told_as line.command word >>= λ command. Ok (record { session = line.session; command = command }) in item) ≡ told_item line word
unfolding told_item
said-told line None = refl
said-told line (Some word) = refl

module _ (line : Line) (known : Printed line.command) (text : Opened line (session_line line)) where
  unended : position_or_len is_line_end (session_line line) ≡ length (session_line line)
  unended = one_line-unended (session_line line) text.one_line

  asks : put_length (session_line line) ≡ asks_for line.command
  asks =
      behind-session (session_line line) line.session text.bytes text.words
      ∙ ap (λ (r : Result (List ℕ × List ℕ) Refusal). asked (r >>= λ name. if is_put name.0 then put_words name.1 else Err BadLine)) text.first
      ∙ known.asks

  reads : line_with (session_line line) (taken_of (session_line line) (put_bytes line.command)) ≡ told_item line (past_query (query_size line.command))
  reads =
      ap (λ (o : Option ℕ). line_with (session_line line) (option_map (λ count. came count (put_bytes line.command)) o)) asks
      ∙ ap (λ (r : Result (List ℕ × List ℕ) Refusal). r >>= λ words. command_with words.1 (taken_by line.command) >>= λ command. Ok (record { session = words.0; command = command })) text.words
      ∙ ap (λ (r : Result (List ℕ × List ℕ) Refusal). (r >>= λ name. called_with name.0 name.1 (taken_by line.command)) >>= λ command. Ok (record { session = line.session; command = command })) text.first
      ∙ ap (λ (r : Result Command Refusal). r >>= λ command. Ok (record { session = line.session; command = command })) known.reads
      ∙ said-told line (past_query (query_size line.command))

  -- of a line that isn't too long
  module _ (short : nat_lt LINE_LIMIT (length (session_line line)) ≡ false) where
    fits : nat_le (length (session_line line)) LINE_LIMIT ≡ true
    fits = grind (arith, nat_tests, short)

    due-length : due (session_line line) ≡ length (put_bytes line.command)
    due-length =
        ap (λ (t : Bool). unwrap_or (if t then None else (if nat_le (length (session_line line)) LINE_LIMIT then put_length (session_line line) else None)) 0) text.loud
        ∙ ap (λ (t : Bool). unwrap_or (if t then put_length (session_line line) else None) 0) fits
        ∙ ap (λ (o : Option ℕ). unwrap_or o 0) asks ∙ asks-length line.command

    item-told : items_of (session_line line) (put_bytes line.command) ≡ told_item line (past_query (query_size line.command)) ∷ []
    item-told =
        ap (λ (t : Bool). if t then [] else item_of (session_line line) (put_bytes line.command) ∷ []) text.loud
        ∙ ap (λ (t : Bool). (if t then line_with (session_line line) (taken_of (session_line line) (put_bytes line.command)) else Err (Limit limit.Line)) ∷ []) fits
        ∙ ap (λ (i : Item). i ∷ []) reads

  -- of one that is
  module _ (long : nat_lt LINE_LIMIT (length (session_line line)) ≡ true) where
    passes : nat_le (length (session_line line)) LINE_LIMIT ≡ false
    passes = grind (arith, nat_tests, long)

    due-none : due (session_line line) ≡ 0
    due-none =
        ap (λ (t : Bool). unwrap_or (if t then None else (if nat_le (length (session_line line)) LINE_LIMIT then put_length (session_line line) else None)) 0) text.loud
        ∙ ap (λ (t : Bool). unwrap_or (if t then put_length (session_line line) else None) 0) passes

    item-long : items_of (session_line line) [] ≡ Err (Limit limit.Line) ∷ []
    item-long =
        ap (λ (t : Bool). if t then [] else item_of (session_line line) [] ∷ []) text.loud
        ∙ ap (λ (t : Bool). (if t then line_with (session_line line) (taken_of (session_line line) []) else Err (Limit limit.Line)) ∷ []) passes

-- the limits of a line, by its length
short-excess : (long : Bool) (word : Option LimitWord) → (if long then Some limit.Line else word) ≡ None → (long ≡ false) × (word ≡ None)
short-excess true word e = absurd cc
short-excess false word e = (refl, e)

pub printed-read : (line : Line) (more : List ℕ) → IsGiven line → excess line ≡ None → script (command_text line ++ more) ≡ Ok line ∷ script more
unfolding told_item
printed-read line more given none =
    let is = given-line line given in
    let known = printed line.command is.spelled is.parts in
    let text = opened line is.session known in
    let limits = short-excess (nat_lt LINE_LIMIT (length (session_line line))) (past_query (query_size line.command)) none in
    ap script (cut (session_line line) (put_bytes line.command) more)
    ∙ script-line (session_line line) (put_bytes line.command) more (unended line known text) (due-length line known text limits.0)
    ∙ ap (λ (items : List Item). items ++ script more) (item-told line known text limits.0)
    ∙ ap (λ (word : Option LimitWord). told_item line word ∷ script more) limits.1

pub printed-refused : (line : Line) (word : LimitWord) (more : List ℕ) → IsGiven line → excess line ≡ Some word → first_items (command_text line ++ more) ≡ Err (Limit word) ∷ []
unfolding told_item
printed-refused line word more given past =
    let is = given-line line given in
    let known = printed line.command is.spelled is.parts in
    let text = opened line is.session known in
    let bytes : List ℕ = put_bytes line.command in
    let whole : first_items (command_text line ++ more) ≡ first_items (session_line line ++ 10 ∷ (bytes ++ more)) = ap first_items (cut (session_line line) bytes more) in
    elim (nat_lt LINE_LIMIT (length (session_line line))) as (λ b. nat_lt LINE_LIMIT (length (session_line line)) ≡ b
    → (if b then Some limit.Line else past_query (query_size line.command)) ≡ Some word → first_items (command_text line ++ more) ≡ Err (Limit word) ∷ []) [
      | true ↦ (λ long same.
          let even : limit.Line ≡ word = cc in
          whole ∙ first_items-line (session_line line) [] (bytes ++ more) (unended line known text) (due-none line known text long)
          ∙ item-long line known text long ∙ ap (λ (w : LimitWord). Err (Limit w) ∷ []) even)
      | false ↦ (λ short same.
          whole ∙ first_items-line (session_line line) bytes more (unended line known text) (due-length line known text short)
          ∙ item-told line known text short ∙ ap (λ (w : Option LimitWord). told_item line w ∷ []) same)
    ] refl past
