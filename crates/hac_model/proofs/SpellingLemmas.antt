-- Lines spell commands with words that the commands may have.
use Rattle.std.proofs.Common.{◌≡◌, ℕ, Bool, true, false, List, length, refl, ap, sym, ◌∙◌}
use Rattle.std.specs.Prelude.{◌&&◌, ◌||◌, not, if◌then◌else◌, nat_le, codes, Option, Some, None, Result, Ok, Err, IsTrue, ⊤}
use Rattle.std.specs.List.{list_all}
use Rattle.std.specs.Option.{ok_or}
use Rattle.std.specs.Str.{bytes_eq}
use Rattle.std.specs.Str.Parse.{digits_value}
use Rattle.std.proofs.lemmas.Bool.{and_from, and_parts, cond_both}
use Rattle.hac_model.specs.Run.Answers.{◌>>=◌}
use Rattle.hac_model.specs.Bytes.{is_space}
use Rattle.hac_model.specs.Tree.Limits.{is_text}
use Rattle.hac_model.specs.Script.LineWords.{after_first_run, after_space, first_word}
use Rattle.hac_model.specs.Script.Numbers.{are_steps, is_number, is_tick}
use Rattle.hac_model.specs.Script.SessionWords.{main_session, named_session, names_session, session_name, session_words}
use Rattle.hac_model.specs.Script.SpaceNames.{is_space_byte, is_space_name}
use Rattle.hac_model.specs.Script.Lines.{Item, alone, called_with, command_with, each_path, find_of, is_put, is_spelled, is_spelled_line, item_of, item_taken, limited_target, limited_text, line_with, ln_of, maybe_path, named_command, of_two_paths, one_path, only_path, only_word, path_and_query, put_to, put_of, put_words, smount_of, taken_of, tick_of, two_paths, write_of}
use Rattle.hac_model.specs.Script.PathWords.{has_long_part, is_bad, is_path_word, is_target, untested_word, word_of}
use Rattle.hac_model.specs.Tree.Paths.{are_names}
use Rattle.hac_model.specs.Query.Formula.{Formula}
use Rattle.hac_model.specs.Query.QueryReading.{is_spelled_query, read_query}
use Rattle.hac_model.specs.Script.Texts.{text_of}
use Rattle.hac_model.specs.declared.commands.Command.{Command}
use Rattle.hac_model.specs.declared.commands.Command.TheVariants.{Mkdir, Rmdir, Write, Cat, Ls, Cd, Pwd, Mv, Rm, Ln, Readlink, Smkdir, Setq, Unq, Query, Sls, Sln, Srm, Sforget, Find, Smount, Ssync, Sumount, Index, Tick, Counts, Checkpoint}
use Rattle.hac_model.specs.declared.commands.Line.{Line}
use Rattle.hac_model.specs.declared.limits.LimitWord.TheVariants as limit
use Rattle.hac_model.specs.declared.limits.TheConstants.{LINE_LIMIT, TARGET_LIMIT}
use Rattle.hac_model.specs.declared.paths.PathWord.{PathWord}
use Rattle.hac_model.specs.declared.replies.Refusal.{Refusal}
use Rattle.hac_model.specs.declared.replies.Refusal.TheVariants.{BadLine, BadName, Limit}
use Rattle.hac_model.specs.declared.taken.Taken.{Taken}
use Rattle.hac_model.specs.declared.taken.Taken.TheVariants.{Whole, Dropped, Short}
use Rattle.hac_model.proofs.QueryLemmas.{read_spelled}
use Rattle.hac_model.proofs.WordLemmas.{word_of-names}

-- what is spelled is a command with words that it may have, or a refusal
Spells : Result Command Refusal → Type 0
Spells (Ok command) = IsTrue (is_spelled command)
Spells (Err refusal) = ⊤

command-spelled : (command : Command) → is_spelled command ≡ true → Spells (Ok command)
unfolding Spells
command-spelled command h = h

spells-if : (b : Bool) (x y : Result Command Refusal) → (b ≡ true → Spells x) → (b ≡ false → Spells y) → Spells (if b then x else y)
spells-if true x y p q = p refl
spells-if false x y p q = q refl

-- what comes after a step is spelled, where it is by whatever the step gives
spells-then : {A : Type 0} (first : Result A Refusal) (step : A → Result Command Refusal) → ((value : A) → first ≡ Ok value → Spells (step value)) → Spells (first >>= step)
unfolding Spells
spells-then (Ok value) step h = h value refl
spells-then (Err refusal) step h = tt

spells_bad_line : Spells (Err BadLine)
unfolding Spells
spells_bad_line = tt

-- the same of the only path
only_path-spelled : (word : Result (List ℕ) Refusal) (path : PathWord) → (word >>= word_of) ≡ Ok path → are_names path.names ≡ true
only_path-spelled (Ok bytes) path given = word_of-names bytes path given
only_path-spelled (Err refusal) path given = absurd cc

pub pair-same : (from to : PathWord) (paths : PathWord × PathWord) → (let read : Result (PathWord × PathWord) Refusal = Ok (from, to) in read) ≡ Ok paths → (from, to) ≡ paths
pair-same from to paths given = cc

-- and of two
pub each_path-spelled : (first second : Result PathWord Refusal) (paths : PathWord × PathWord) →
    (first >>= λ from. second >>= λ to. Ok (from, to)) ≡ Ok paths → (first ≡ Ok paths.0) × (second ≡ Ok paths.1)
each_path-spelled (Ok from) (Ok to) paths given = (ap (λ (p : PathWord × PathWord). Ok p.0) (pair-same from to paths given), ap (λ (p : PathWord × PathWord). Ok p.1) (pair-same from to paths given))
each_path-spelled (Ok from) (Err refusal) paths given = absurd cc
each_path-spelled (Err refusal) second paths given = absurd cc

two_paths-spelled : (first second : List ℕ) (paths : PathWord × PathWord) → two_paths first second ≡ Ok paths →
    (are_names paths.0.names ≡ true) × (are_names paths.1.names ≡ true)
two_paths-spelled first second paths given =
    elim (is_bad first || is_bad second) as (λ b. (let read : Result (PathWord × PathWord) Refusal = if b then Err BadName else each_path first second in read) ≡ Ok paths → (are_names paths.0.names ≡ true) × (are_names paths.1.names ≡ true)) [
      | true ↦ (λ same. absurd cc)
      | false ↦ (λ same.
          let each = each_path-spelled (word_of first) (word_of second) paths same in
          (word_of-names first paths.0 each.0, word_of-names second paths.1 each.1))
    ] given

spells_one : (command : PathWord → Command) (arguments : List ℕ) → ((path : PathWord) → are_names path.names ≡ true → is_spelled (command path) ≡ true) →
    Spells (one_path command arguments)
unfolding one_path
spells_one command arguments spelled =
    spells-then (only_path arguments) _ (λ path given.
    command-spelled (command path) (spelled path (only_path-spelled (only_word arguments) path given)))

spells_maybe : (command : Option PathWord → Command) (arguments : List ℕ) → is_spelled (command None) ≡ true
    → ((path : PathWord) → are_names path.names ≡ true → is_spelled (command (Some path)) ≡ true) → Spells (maybe_path command arguments)
unfolding maybe_path
spells_maybe command arguments none some =
    spells-if (list_all is_space arguments) (Ok (command None)) (one_path (λ path. command (Some path)) arguments)
    (λ _. command-spelled (command None) none) (λ _. spells_one (λ path. command (Some path)) arguments some)

spells_two : (command : PathWord → PathWord → Command) (arguments : List ℕ)
    → ((first second : PathWord) → are_names first.names ≡ true → are_names second.names ≡ true → is_spelled (command first second) ≡ true)
    → Spells (of_two_paths command arguments)
unfolding of_two_paths
spells_two command arguments spelled =
    spells-then (first_word arguments) _ (λ first _.
    spells-then (only_word first.1) _ (λ second _.
    spells-then (two_paths first.0 second) _ (λ paths given.
    let both = two_paths-spelled first.0 second paths given in
    command-spelled (command paths.0 paths.1) (spelled paths.0 paths.1 both.0 both.1))))

limited_text-is : (bytes text : List ℕ) → limited_text bytes ≡ Ok text → is_text text ≡ true
limited_text-is bytes text given =
    elim (is_text bytes) as (λ b. is_text bytes ≡ b → (let read : Result (List ℕ) Refusal = if b then Ok bytes else Err (Limit limit.Text) in read) ≡ Ok text → is_text text ≡ true) [
      | true ↦ (λ fits same. let even : bytes ≡ text = cc in ap is_text (sym even) ∙ fits)
      | false ↦ (λ other same. absurd cc)
    ] refl given

spells_write : (arguments : List ℕ) → Spells (write_of arguments)
unfolding write_of
spells_write arguments =
    spells-then (first_word arguments) _ (λ word _.
    spells-then (ok_or (text_of (after_space word.1)) BadLine) _ (λ spelled _.
    spells-then (word_of word.0) _ (λ path named.
    spells-then (limited_text spelled) _ (λ text fits.
    command-spelled (Write path text) (and_from (are_names path.names) (is_text text) (word_of-names word.0 path named) (limited_text-is spelled text fits))))))

-- a word that is read is a path word
word-read : (bytes : List ℕ) (path : PathWord) → word_of bytes ≡ Ok path → is_path_word bytes ≡ true
unfolding word_of
word-read bytes path given = told (is_bad bytes) (has_long_part bytes) given
  where
    told : (bad long : Bool) → (let read : Result PathWord Refusal = if bad then Err BadName else (if long then Err (Limit limit.Name) else Ok (untested_word bytes)) in read) ≡ Ok path → (not bad && not long) ≡ true
    told true long same = absurd cc
    told false true same = absurd cc
    told false false same = refl

first_path-read : (first second : List ℕ) (paths : PathWord × PathWord) → two_paths first second ≡ Ok paths → is_path_word first ≡ true
first_path-read first second paths given =
    elim (is_bad first || is_bad second) as (λ b. (let read : Result (PathWord × PathWord) Refusal = if b then Err BadName else each_path first second in read) ≡ Ok paths → is_path_word first ≡ true) [
      | true ↦ (λ same. absurd cc)
      | false ↦ (λ same. word-read first paths.0 (each_path-spelled (word_of first) (word_of second) paths same).0)
    ] given

limited_target-is : (bytes target : List ℕ) → is_path_word bytes ≡ true → limited_target bytes ≡ Ok target → is_target target ≡ true
limited_target-is bytes target word given =
    elim (nat_le (length bytes) TARGET_LIMIT) as (λ b. nat_le (length bytes) TARGET_LIMIT ≡ b → (let read : Result (List ℕ) Refusal = if b then Ok bytes else Err (Limit limit.Target) in read) ≡ Ok target → is_target target ≡ true) [
      | true ↦ (λ fits same. let even : bytes ≡ target = cc in ap is_target (sym even) ∙ and_from (nat_le (length bytes) TARGET_LIMIT) (is_path_word bytes) fits word)
      | false ↦ (λ other same. absurd cc)
    ] refl given

spells_ln : (arguments : List ℕ) → Spells (ln_of arguments)
unfolding ln_of
spells_ln arguments =
    spells-then (first_word arguments) _ (λ word _.
    spells-then (only_word word.1) _ (λ path _.
    spells-then (two_paths word.0 path) _ (λ paths given.
    spells-then (limited_target word.0) _ (λ target fits.
    command-spelled (Ln target paths.1)
    (and_from (is_target target) (are_names paths.1.names) (limited_target-is word.0 target (first_path-read word.0 path paths given) fits) (two_paths-spelled word.0 path paths given).1)))))

spells_queried : (command : PathWord → Formula PathWord → Command) (arguments : List ℕ)
    → ((path : PathWord) (query : Formula PathWord) → are_names path.names ≡ true → is_spelled_query query ≡ true → is_spelled (command path query) ≡ true)
    → Spells (path_and_query command arguments)
unfolding path_and_query
spells_queried command arguments spelled =
    spells-then (first_word arguments) _ (λ word _.
    spells-then (word_of word.0) _ (λ path named.
    spells-then (read_query (after_space word.1)) _ (λ query read.
    command-spelled (command path query) (spelled path query (word_of-names word.0 path named) (read_spelled (after_space word.1) query read)))))

spells_find : (arguments : List ℕ) → Spells (find_of arguments)
unfolding find_of
spells_find arguments =
    spells-then (read_query (after_space arguments)) _ (λ query read.
    command-spelled (Find query) (read_spelled (after_space arguments) query read))

spells_alone : (command : Command) (arguments : List ℕ) → is_spelled command ≡ true → Spells (alone command arguments)
unfolding Spells alone
spells_alone command arguments spelled = spells-if (list_all is_space arguments) (Ok command) (Err BadLine) (λ good. spelled) (λ bad. tt)

named-space : (space name : List ℕ) → (if is_space_name space then Ok space else Err BadLine) ≡ Ok name → is_space_name name ≡ true
named-space space name is = elim (is_space_name space) as (λ b. is_space_name space ≡ b → (if b then Ok space else Err BadLine) ≡ Ok name → is_space_name name ≡ true) [
  | true ↦ (λ good is. let same : space ≡ name = cc in ap is_space_name (sym same) ∙ good)
  | false ↦ (λ bad is. absurd cc)
] refl is

spells_mount : (arguments : List ℕ) → Spells (smount_of arguments)
unfolding smount_of
spells_mount arguments =
    spells-then (first_word arguments) _ (λ word _.
    spells-then (only_word word.1) _ (λ space _.
    spells-then (if is_space_name space then Ok space else Err BadLine) _ (λ name good.
    spells-then (word_of word.0) _ (λ path named.
    command-spelled (Smount path name) (and_from (are_names path.names) (is_space_name name) (word_of-names word.0 path named) (named-space space name good))))))

tick-spelled : (word : List ℕ) → Spells (if is_tick word then Ok (Tick (digits_value 10 word)) else Err BadLine)
tick-spelled word =
    spells-if (is_tick word) (Ok (Tick (digits_value 10 word))) (Err BadLine)
    (λ is. command-spelled (Tick (digits_value 10 word)) (and_parts (is_number word) (are_steps (digits_value 10 word)) is).1) (λ other. spells_bad_line)

spells_tick : (arguments : List ℕ) → Spells (tick_of arguments)
unfolding tick_of
spells_tick arguments = spells-then (only_word arguments) _ (λ word _. tick-spelled word)

spells_named : (name arguments : List ℕ) → Spells (named_command name arguments)
spells_named name arguments =
    let P = Spells in
    let both : (first second : PathWord) → are_names first.names ≡ true → are_names second.names ≡ true → (are_names first.names && are_names second.names) ≡ true =
    λ first second one other. and_from (are_names first.names) (are_names second.names) one other in
    let asks : (path : PathWord) (query : Formula PathWord) → are_names path.names ≡ true → is_spelled_query query ≡ true → (are_names path.names && is_spelled_query query) ≡ true =
    λ path query one other. and_from (are_names path.names) (is_spelled_query query) one other in
    cond_both (bytes_eq name (codes "mkdir")) _ _ P (λ _. spells_one Mkdir arguments (λ path names. names))
    (λ _. cond_both (bytes_eq name (codes "rmdir")) _ _ P (λ _. spells_one Rmdir arguments (λ path names. names))
    (λ _. cond_both (bytes_eq name (codes "write")) _ _ P (λ _. spells_write arguments)
    (λ _. cond_both (bytes_eq name (codes "cat")) _ _ P (λ _. spells_one Cat arguments (λ path names. names))
    (λ _. cond_both (bytes_eq name (codes "ls")) _ _ P (λ _. spells_maybe Ls arguments refl (λ path names. names))
    (λ _. cond_both (bytes_eq name (codes "cd")) _ _ P (λ _. spells_maybe Cd arguments refl (λ path names. names))
    (λ _. cond_both (bytes_eq name (codes "pwd")) _ _ P (λ _. spells_alone Pwd arguments refl)
    (λ _. cond_both (bytes_eq name (codes "mv")) _ _ P (λ _. spells_two Mv arguments both)
    (λ _. cond_both (bytes_eq name (codes "rm")) _ _ P (λ _. spells_one Rm arguments (λ path names. names))
    (λ _. cond_both (bytes_eq name (codes "ln")) _ _ P (λ _. spells_ln arguments)
    (λ _. cond_both (bytes_eq name (codes "readlink")) _ _ P (λ _. spells_one Readlink arguments (λ path names. names))
    (λ _. cond_both (bytes_eq name (codes "smkdir")) _ _ P (λ _. spells_queried Smkdir arguments asks)
    (λ _. cond_both (bytes_eq name (codes "setq")) _ _ P (λ _. spells_queried Setq arguments asks)
    (λ _. cond_both (bytes_eq name (codes "unq")) _ _ P (λ _. spells_one Unq arguments (λ path names. names))
    (λ _. cond_both (bytes_eq name (codes "query")) _ _ P (λ _. spells_one Query arguments (λ path names. names))
    (λ _. cond_both (bytes_eq name (codes "sls")) _ _ P (λ _. spells_maybe Sls arguments refl (λ path names. names))
    (λ _. cond_both (bytes_eq name (codes "sln")) _ _ P (λ _. spells_two Sln arguments both)
    (λ _. cond_both (bytes_eq name (codes "srm")) _ _ P (λ _. spells_two Srm arguments both)
    (λ _. cond_both (bytes_eq name (codes "sforget")) _ _ P (λ _. spells_two Sforget arguments both)
    (λ _. cond_both (bytes_eq name (codes "find")) _ _ P (λ _. spells_find arguments)
    (λ _. cond_both (bytes_eq name (codes "smount")) _ _ P (λ _. spells_mount arguments)
    (λ _. cond_both (bytes_eq name (codes "ssync")) _ _ P (λ _. spells_one Ssync arguments (λ path names. names))
    (λ _. cond_both (bytes_eq name (codes "sumount")) _ _ P (λ _. spells_one Sumount arguments (λ path names. names))
    (λ _. cond_both (bytes_eq name (codes "index")) _ _ P (λ _. spells_alone Index arguments refl)
    (λ _. cond_both (bytes_eq name (codes "tick")) _ _ P (λ _. spells_tick arguments)
    (λ _. cond_both (bytes_eq name (codes "counts")) _ _ P (λ _. spells_alone Counts arguments refl)
    (λ _. cond_both (bytes_eq name (codes "checkpoint")) _ _ P (λ _. spells_alone Checkpoint arguments refl)
    (λ _. spells_bad_line)))))))))))))))))))))))))))

spells_put_at : (word : List ℕ) (taken : Option Taken) → Spells (put_to word taken)
unfolding Spells
spells_put_at word (Some (Whole bytes)) =
    spells-then (word_of word) _ (λ path named.
    spells-then (limited_text bytes) _ (λ text fits.
    command-spelled (Write path text) (and_from (are_names path.names) (is_text text) (word_of-names word path named) (limited_text-is bytes text fits))))
spells_put_at word (Some Dropped) = spells-then (word_of word) _ (λ path named. tt)
spells_put_at word (Some Short) = tt
spells_put_at word None = tt

spells_put : (arguments : List ℕ) (taken : Option Taken) → Spells (put_of arguments taken)
spells_put arguments taken = spells-then (put_words arguments) _ (λ words _. spells_put_at words.0 taken)

spells_called : (name arguments : List ℕ) (taken : Option Taken) → Spells (called_with name arguments taken)
spells_called name arguments taken = cond_both (is_put name) _ _ Spells (λ _. spells_put arguments taken) (λ _. spells_named name arguments)

spells_with : (bytes : List ℕ) (taken : Option Taken) → Spells (command_with bytes taken)
spells_with bytes taken = spells-then (first_word bytes) _ (λ name _. spells_called name.0 name.1 taken)

-- The session.

main-spelled : is_space_name main_session ≡ true
unfolding is_space_byte is_space_name
main-spelled = refl

named-spelled : (line : List ℕ) (session : List ℕ × List ℕ) → named_session line ≡ Ok session → is_space_name session.0 ≡ true
named-spelled line session given =
    elim (is_space_name (session_name line)) as (λ b. is_space_name (session_name line) ≡ b
    → (let read : Result (List ℕ × List ℕ) Refusal = if b then Ok (session_name line, after_first_run line) else Err BadLine in read) ≡ Ok session → is_space_name session.0 ≡ true) [
      | true ↦ (λ is same. let even : (session_name line, after_first_run line) ≡ session = cc in ap (λ (w : List ℕ × List ℕ). is_space_name w.0) (sym even) ∙ is)
      | false ↦ (λ other same. absurd cc)
    ] refl given

-- the name of a session is one that a space may have
pub session-spelled : (line : List ℕ) (session : List ℕ × List ℕ) → session_words line ≡ Ok session → is_space_name session.0 ≡ true
session-spelled line session given =
    elim (names_session line) as (λ b. (let read : Result (List ℕ × List ℕ) Refusal = if b then named_session line else Ok (main_session, line) in read) ≡ Ok session → is_space_name session.0 ≡ true) [
      | true ↦ (λ same. named-spelled line session same)
      | false ↦ (λ same. let even : (main_session, line) ≡ session = cc in ap (λ (w : List ℕ × List ℕ). is_space_name w.0) (sym even) ∙ main-spelled)
    ] given

-- an item is a line whose session and command have words that they may have, or a refusal
abbrev pub IsItem : Item → Type 0
IsItem (Ok line) = IsTrue (is_spelled_line line)
IsItem (Err refusal) = ⊤

said-item : (name : List ℕ) (command : Result Command Refusal) → is_space_name name ≡ true → Spells command → IsItem (command >>= λ c. Ok (record { session = name; command = c }))
unfolding Spells
said-item name (Ok command) is h = and_from (is_space_name name) (is_spelled command) is h
said-item name (Err refusal) is h = tt

session-item : (session : Result (List ℕ × List ℕ) Refusal) (taken : Option Taken) → ((words : List ℕ × List ℕ) → session ≡ Ok words → is_space_name words.0 ≡ true)
    → IsItem (session >>= λ words. command_with words.1 taken >>= λ c. Ok (record { session = words.0; command = c }))
session-item (Ok words) taken is = said-item words.0 (command_with words.1 taken) (is words refl) (spells_with words.1 taken)
session-item (Err refusal) taken is = tt

item_taken-item : (line : List ℕ) (taken : Option Taken) → IsItem (item_taken line taken)
item_taken-item line taken =
    elim (nat_le (length line) LINE_LIMIT) as (λ b. IsItem (if b then line_with line taken else Err (Limit limit.Line))) [
      | true ↦ session-item (session_words line) taken (session-spelled line)
      | false ↦ tt
    ]

pub item_of-item : (bytes behind : List ℕ) → IsItem (item_of bytes behind)
item_of-item bytes behind = item_taken-item bytes (taken_of bytes behind)

-- of a line both the session's name and the command are spelled
pub spelled-parts : (line : Line) → IsTrue (is_spelled_line line) → IsTrue (is_space_name line.session) × IsTrue (is_spelled line.command)
spelled-parts line h = and_parts (is_space_name line.session) (is_spelled line.command) h

line-spelled : (item : Item) (line : Line) → IsItem item → item ≡ Ok line → IsTrue (is_spelled_line line)
line-spelled (Ok given) line h same = let even : given ≡ line = cc in ap (λ (l : Line). is_spelled_line l) (sym even) ∙ h
line-spelled (Err refusal) line h same = absurd cc

-- whatever came of the bytes that a line asks for
pub taken-spells : (line : List ℕ) (taken : Option Taken) (given : Line) → item_taken line taken ≡ Ok given → IsTrue (is_spelled_line given)
taken-spells line taken given same = line-spelled (item_taken line taken) given (item_taken-item line taken) same

pub lines-spell : (bytes behind : List ℕ) (line : Line) → item_of bytes behind ≡ Ok line → IsTrue (is_spelled_line line)
lines-spell bytes behind line same = taken-spells bytes (taken_of bytes behind) line same
