-- What is known of a command that some bytes are read as.
use Rattle.std.proofs.Common.{◌≡◌, ℕ, Bool, true, false, List, length, refl, subst}
use Rattle.std.specs.Prelude.{◌||◌, if◌then◌else◌, nat_le, codes, Option, Some, None, Result, Ok, Err, ⊤}
use Rattle.std.specs.List.{list_all}
use Rattle.std.specs.Option.{ok_or}
use Rattle.std.specs.Str.{bytes_eq}
use Rattle.std.specs.Str.Parse.{digits_value}
use Rattle.std.proofs.lemmas.Bool.{cond_both}
use Rattle.hac_model.specs.Run.Answers.{◌>>=◌}
use Rattle.hac_model.specs.Bytes.{is_space}
use Rattle.hac_model.specs.Script.LineWords.{first_word, after_space}
use Rattle.hac_model.specs.Script.Numbers.{is_tick}
use Rattle.hac_model.specs.Script.SessionWords.{session_words}
use Rattle.hac_model.specs.Script.SpaceNames.{is_space_name}
use Rattle.hac_model.specs.Script.Lines.{Item, alone, called_with, command_with, each_path, find_of, is_put, is_spelled, limited_target, limited_text, line_with, ln_of, maybe_path, named_command, of_two_paths, one_path, only_path, only_word, path_and_query, put_to, put_of, put_words, smount_of, tick_of, two_paths, write_of}
use Rattle.hac_model.specs.Script.PathWords.{is_bad, word_of}
use Rattle.hac_model.specs.Query.Formula.{Formula}
use Rattle.hac_model.specs.Query.QueryReading.{read_query}
use Rattle.hac_model.specs.Script.Texts.{text_of}
use Rattle.hac_model.specs.declared.commands.Command.{Command}
use Rattle.hac_model.specs.declared.commands.Command.TheVariants.{Mkdir, Rmdir, Write, Cat, Ls, Cd, Pwd, Mv, Rm, Ln, Readlink, Smkdir, Setq, Unq, Query, Sls, Sln, Srm, Sforget, Find, Smount, Ssync, Sumount, Index, Tick, Counts, Checkpoint}
use Rattle.hac_model.specs.declared.commands.Line.{Line}
use Rattle.hac_model.specs.declared.limits.LimitWord.TheVariants as limit
use Rattle.hac_model.specs.declared.limits.TheConstants.{LINE_LIMIT}
use Rattle.hac_model.specs.declared.paths.PathWord.{PathWord}
use Rattle.hac_model.specs.declared.replies.Refusal.{Refusal}
use Rattle.hac_model.specs.declared.replies.Refusal.TheVariants.{BadLine, BadName, Limit}
use Rattle.hac_model.specs.declared.taken.Taken.{Taken}
use Rattle.hac_model.specs.declared.taken.Taken.TheVariants.{Whole, Dropped, Short}
use Rattle.hac_model.proofs.SpellingLemmas.{each_path-spelled, spelled-parts, taken-spells}
use Rattle.shell_lang.specs.Laws.{IsGiven}

-- some bytes are read as this path word
abbrev pub IsWord : PathWord → Type 0
IsWord word = (bytes : List ℕ) × (word_of bytes ≡ Ok word)

-- some bytes are read as this query
abbrev pub IsAsked : Formula PathWord → Type 0
IsAsked query = (bytes : List ℕ) × (read_query bytes ≡ Ok query)

-- some bytes are read as each path word and query of the command
abbrev pub Given : Command → Type 0
Given (Mkdir path) = IsWord path
Given (Rmdir path) = IsWord path
Given (Write path text) = IsWord path
Given (Cat path) = IsWord path
Given (Ls None) = ⊤
Given (Ls (Some path)) = IsWord path
Given (Cd None) = ⊤
Given (Cd (Some path)) = IsWord path
Given Pwd = ⊤
Given (Mv from to) = IsWord from × IsWord to
Given (Rm path) = IsWord path
Given (Ln target path) = IsWord path
Given (Readlink path) = IsWord path
Given (Smkdir path query) = IsWord path × IsAsked query
Given (Setq path query) = IsWord path × IsAsked query
Given (Unq path) = IsWord path
Given (Query path) = IsWord path
Given (Sls None) = ⊤
Given (Sls (Some path)) = IsWord path
Given (Sln item dir) = IsWord item × IsWord dir
Given (Srm item dir) = IsWord item × IsWord dir
Given (Sforget item dir) = IsWord item × IsWord dir
Given (Find query) = IsAsked query
Given (Smount path space) = IsWord path
Given (Ssync path) = IsWord path
Given (Sumount path) = IsWord path
Given Index = ⊤
Given (Tick steps) = ⊤
Given Counts = ⊤
Given Checkpoint = ⊤

-- what is read is a command of such parts, or a refusal
Gives : Result Command Refusal → Type 0
Gives (Ok command) = Given command
Gives (Err refusal) = ⊤

command-given : (command : Command) → Given command → Gives (Ok command)
unfolding Gives
command-given command h = h

gives-if : (b : Bool) (x y : Result Command Refusal) → Gives x → Gives y → Gives (if b then x else y)
gives-if true x y p q = p
gives-if false x y p q = q

gives-then : {A : Type 0} (first : Result A Refusal) (step : A → Result Command Refusal) → ((value : A) → first ≡ Ok value → Gives (step value)) → Gives (first >>= step)
unfolding Gives
gives-then (Ok value) step h = h value refl
gives-then (Err refusal) step h = tt

gives_bad_line : Gives (Err BadLine)
unfolding Gives
gives_bad_line = tt

only_path-word : (word : Result (List ℕ) Refusal) (path : PathWord) → (word >>= word_of) ≡ Ok path → IsWord path
only_path-word (Ok bytes) path given = (bytes, given)
only_path-word (Err refusal) path given = absurd cc

two_paths-words : (first second : List ℕ) (paths : PathWord × PathWord) → two_paths first second ≡ Ok paths → IsWord paths.0 × IsWord paths.1
two_paths-words first second paths given =
    elim (is_bad first || is_bad second) as (λ b. (let read : Result (PathWord × PathWord) Refusal = if b then Err BadName else each_path first second in read) ≡ Ok paths → IsWord paths.0 × IsWord paths.1) [
      | true ↦ (λ same. absurd cc)
      | false ↦ (λ same.
          let each = each_path-spelled (word_of first) (word_of second) paths same in
          ((first, each.0), (second, each.1)))
    ] given

gives_one : (command : PathWord → Command) (arguments : List ℕ) → ((path : PathWord) → IsWord path → Given (command path)) → Gives (one_path command arguments)
unfolding one_path
gives_one command arguments parts =
    gives-then (only_path arguments) _ (λ path given. command-given (command path) (parts path (only_path-word (only_word arguments) path given)))

gives_maybe : (command : Option PathWord → Command) (arguments : List ℕ) → Given (command None) → ((path : PathWord) → IsWord path → Given (command (Some path)))
    → Gives (maybe_path command arguments)
unfolding maybe_path
gives_maybe command arguments none some =
    gives-if (list_all is_space arguments) (Ok (command None)) (one_path (λ path. command (Some path)) arguments)
    (command-given (command None) none) (gives_one (λ path. command (Some path)) arguments some)

gives_two : (command : PathWord → PathWord → Command) (arguments : List ℕ)
    → ((first second : PathWord) → IsWord first → IsWord second → Given (command first second)) → Gives (of_two_paths command arguments)
unfolding of_two_paths
gives_two command arguments parts =
    gives-then (first_word arguments) _ (λ first _.
    gives-then (only_word first.1) _ (λ second _.
    gives-then (two_paths first.0 second) _ (λ paths given.
    let both = two_paths-words first.0 second paths given in
    command-given (command paths.0 paths.1) (parts paths.0 paths.1 both.0 both.1))))

gives_write : (arguments : List ℕ) → Gives (write_of arguments)
unfolding write_of
gives_write arguments =
    gives-then (first_word arguments) _ (λ word _.
    gives-then (ok_or (text_of (after_space word.1)) BadLine) _ (λ spelled _.
    gives-then (word_of word.0) _ (λ path named.
    gives-then (limited_text spelled) _ (λ text _.
    command-given (Write path text) (word.0, named)))))

gives_ln : (arguments : List ℕ) → Gives (ln_of arguments)
unfolding ln_of
gives_ln arguments =
    gives-then (first_word arguments) _ (λ word _.
    gives-then (only_word word.1) _ (λ path _.
    gives-then (two_paths word.0 path) _ (λ paths given.
    gives-then (limited_target word.0) _ (λ target _.
    command-given (Ln target paths.1) (two_paths-words word.0 path paths given).1))))

gives_asking : (command : PathWord → Formula PathWord → Command) (arguments : List ℕ)
    → ((path : PathWord) (query : Formula PathWord) → IsWord path → IsAsked query → Given (command path query)) → Gives (path_and_query command arguments)
unfolding path_and_query
gives_asking command arguments parts =
    gives-then (first_word arguments) _ (λ word _.
    gives-then (word_of word.0) _ (λ path named.
    gives-then (read_query (after_space word.1)) _ (λ query read.
    command-given (command path query) (parts path query (word.0, named) (after_space word.1, read)))))

gives_find : (arguments : List ℕ) → Gives (find_of arguments)
unfolding find_of
gives_find arguments = gives-then (read_query (after_space arguments)) _ (λ query read. command-given (Find query) (after_space arguments, read))

gives_mount : (arguments : List ℕ) → Gives (smount_of arguments)
unfolding smount_of
gives_mount arguments =
    gives-then (first_word arguments) _ (λ word _.
    gives-then (only_word word.1) _ (λ space _.
    gives-then (if is_space_name space then Ok space else Err BadLine) _ (λ name _.
    gives-then (word_of word.0) _ (λ path named.
    command-given (Smount path name) (word.0, named)))))

gives_alone : (command : Command) (arguments : List ℕ) → Given command → Gives (alone command arguments)
unfolding Gives alone
gives_alone command arguments given = gives-if (list_all is_space arguments) (Ok command) (Err BadLine) given tt

gives_tick : (arguments : List ℕ) → Gives (tick_of arguments)
unfolding tick_of
gives_tick arguments =
    gives-then (only_word arguments) _ (λ word _.
    gives-if (is_tick word) (Ok (Tick (digits_value 10 word))) (Err BadLine) (command-given (Tick (digits_value 10 word)) tt) gives_bad_line)

gives_named : (name arguments : List ℕ) → Gives (named_command name arguments)
gives_named name arguments =
    let P = Gives in
    cond_both (bytes_eq name (codes "mkdir")) _ _ P (λ _. gives_one Mkdir arguments (λ path is. is))
    (λ _. cond_both (bytes_eq name (codes "rmdir")) _ _ P (λ _. gives_one Rmdir arguments (λ path is. is))
    (λ _. cond_both (bytes_eq name (codes "write")) _ _ P (λ _. gives_write arguments)
    (λ _. cond_both (bytes_eq name (codes "cat")) _ _ P (λ _. gives_one Cat arguments (λ path is. is))
    (λ _. cond_both (bytes_eq name (codes "ls")) _ _ P (λ _. gives_maybe Ls arguments tt (λ path is. is))
    (λ _. cond_both (bytes_eq name (codes "cd")) _ _ P (λ _. gives_maybe Cd arguments tt (λ path is. is))
    (λ _. cond_both (bytes_eq name (codes "pwd")) _ _ P (λ _. gives_alone Pwd arguments tt)
    (λ _. cond_both (bytes_eq name (codes "mv")) _ _ P (λ _. gives_two Mv arguments (λ a b p q. (p, q)))
    (λ _. cond_both (bytes_eq name (codes "rm")) _ _ P (λ _. gives_one Rm arguments (λ path is. is))
    (λ _. cond_both (bytes_eq name (codes "ln")) _ _ P (λ _. gives_ln arguments)
    (λ _. cond_both (bytes_eq name (codes "readlink")) _ _ P (λ _. gives_one Readlink arguments (λ path is. is))
    (λ _. cond_both (bytes_eq name (codes "smkdir")) _ _ P (λ _. gives_asking Smkdir arguments (λ a b p q. (p, q)))
    (λ _. cond_both (bytes_eq name (codes "setq")) _ _ P (λ _. gives_asking Setq arguments (λ a b p q. (p, q)))
    (λ _. cond_both (bytes_eq name (codes "unq")) _ _ P (λ _. gives_one Unq arguments (λ path is. is))
    (λ _. cond_both (bytes_eq name (codes "query")) _ _ P (λ _. gives_one Query arguments (λ path is. is))
    (λ _. cond_both (bytes_eq name (codes "sls")) _ _ P (λ _. gives_maybe Sls arguments tt (λ path is. is))
    (λ _. cond_both (bytes_eq name (codes "sln")) _ _ P (λ _. gives_two Sln arguments (λ a b p q. (p, q)))
    (λ _. cond_both (bytes_eq name (codes "srm")) _ _ P (λ _. gives_two Srm arguments (λ a b p q. (p, q)))
    (λ _. cond_both (bytes_eq name (codes "sforget")) _ _ P (λ _. gives_two Sforget arguments (λ a b p q. (p, q)))
    (λ _. cond_both (bytes_eq name (codes "find")) _ _ P (λ _. gives_find arguments)
    (λ _. cond_both (bytes_eq name (codes "smount")) _ _ P (λ _. gives_mount arguments)
    (λ _. cond_both (bytes_eq name (codes "ssync")) _ _ P (λ _. gives_one Ssync arguments (λ path is. is))
    (λ _. cond_both (bytes_eq name (codes "sumount")) _ _ P (λ _. gives_one Sumount arguments (λ path is. is))
    (λ _. cond_both (bytes_eq name (codes "index")) _ _ P (λ _. gives_alone Index arguments tt)
    (λ _. cond_both (bytes_eq name (codes "tick")) _ _ P (λ _. gives_tick arguments)
    (λ _. cond_both (bytes_eq name (codes "counts")) _ _ P (λ _. gives_alone Counts arguments tt)
    (λ _. cond_both (bytes_eq name (codes "checkpoint")) _ _ P (λ _. gives_alone Checkpoint arguments tt)
    (λ _. gives_bad_line)))))))))))))))))))))))))))

gives_put_at : (word : List ℕ) (taken : Option Taken) → Gives (put_to word taken)
unfolding Gives
gives_put_at word (Some (Whole bytes)) =
    gives-then (word_of word) _ (λ path named.
    gives-then (limited_text bytes) _ (λ text _. command-given (Write path text) (word, named)))
gives_put_at word (Some Dropped) = gives-then (word_of word) _ (λ path named. tt)
gives_put_at word (Some Short) = tt
gives_put_at word None = tt

gives_put : (arguments : List ℕ) (taken : Option Taken) → Gives (put_of arguments taken)
gives_put arguments taken = gives-then (put_words arguments) _ (λ words _. gives_put_at words.0 taken)

gives_called : (name arguments : List ℕ) (taken : Option Taken) → Gives (called_with name arguments taken)
gives_called name arguments taken = cond_both (is_put name) _ _ Gives (λ _. gives_put arguments taken) (λ _. gives_named name arguments)

gives_with : (bytes : List ℕ) (taken : Option Taken) → Gives (command_with bytes taken)
gives_with bytes taken = gives-then (first_word bytes) _ (λ name _. gives_called name.0 name.1 taken)

-- a line that is read: its session has a name, and its command is spelled
pub record GivenLine (line : Line) : Type 0 where
  pub session : is_space_name line.session ≡ true
  pub spelled : is_spelled line.command ≡ true
  pub parts : Given line.command

said-given : (name : List ℕ) (command : Result Command Refusal) (line : Line) → Gives command →
    (let item : Item = command >>= λ c. Ok (record { session = name; command = c }) in item) ≡ Ok line → Given line.command
unfolding Gives
said-given name (Ok command) line h same =
    let made : Line = record { session = name; command = command } in
    let even : made ≡ line = cc in
    subst (λ (l : Line). Given l.command) even h
said-given name (Err refusal) line h same = absurd cc

session-given : (session : Result (List ℕ × List ℕ) Refusal) (taken : Option Taken) (line : Line) →
    (let item : Item = session >>= λ words. command_with words.1 taken >>= λ c. Ok (record { session = words.0; command = c }) in item) ≡ Ok line → Given line.command
session-given (Ok words) taken line same = said-given words.0 (command_with words.1 taken) line (gives_with words.1 taken) same
session-given (Err refusal) taken line same = absurd cc

line-given : (line : Line) → IsGiven line → Given line.command
line-given line (bytes, taken, given) =
    elim (nat_le (length bytes) LINE_LIMIT) as (λ b. (let item : Item = if b then line_with bytes taken else Err (Limit limit.Line) in item) ≡ Ok line → Given line.command) [
      | true ↦ (λ same. session-given (session_words bytes) taken line same)
      | false ↦ (λ same. absurd cc)
    ] given

pub given-line : (line : Line) → IsGiven line → GivenLine line
given-line line given =
    let spelled = spelled-parts line (taken-spells given.0 given.1 line given.2) in
    record { session = spelled.0; spelled = spelled.1; parts = line-given line given }
