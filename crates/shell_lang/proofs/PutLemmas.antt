-- How many bytes a `put` asks for, word by word.
use Rattle.std.proofs.Common.{◌≡◌, ℕ, Bool, true, false, List, refl, ap, sym, ◌∙◌}
use Rattle.std.specs.Prelude.{if◌then◌else◌, Option, Some, None, Result, Ok, Err}
use Rattle.std.specs.List.{list_all}
use Rattle.std.specs.Str.Parse.{digits_value}
use Rattle.hac_model.specs.Run.Answers.{◌>>=◌}
use Rattle.hac_model.specs.Bytes.{is_space}
use Rattle.hac_model.specs.Script.LineWords.{first_word}
use Rattle.hac_model.specs.Script.Lines.{asked, is_put, put_length, put_words}
use Rattle.hac_model.specs.Script.Numbers.{is_number}
use Rattle.hac_model.specs.Script.SessionWords.{session_words}
use Rattle.hac_model.specs.declared.replies.Refusal.{Refusal}
use Rattle.hac_model.specs.declared.replies.Refusal.TheVariants.{BadLine}
use Rattle.shell_lang.specs.RawWords.{IsRaw}
use Rattle.shell_lang.proofs.RawLemmas.{raw-is_number, raw-number, raw-put}

-- the words of bytes behind a session that are a `put` of the right form
abbrev pub put_said : List ℕ → Result (List ℕ × List ℕ) Refusal
put_said bytes = first_word bytes >>= λ name. if is_put name.0 then put_words name.1 else Err BadLine

-- what a line asks for, by what follows its session
pub behind-session : (line name bytes : List ℕ) → session_words line ≡ Ok (name, bytes) →
    put_length line ≡ asked (put_said bytes)
behind-session line name bytes session =
    ap (λ (words : Result (List ℕ × List ℕ) Refusal). asked (words >>= λ session. put_said session.1)) session

-- a line is a `put` where its first word behind the session, as it is written, is the name of that command
pub named : (line name bytes raw word arguments : List ℕ) → session_words line ≡ Ok (name, bytes) → IsRaw raw word → first_word bytes ≡ Ok (word, arguments) →
    put_length line ≡ asked (if is_put raw then put_words arguments else Err BadLine)
named line name bytes raw word arguments session stands first =
    behind-session line name bytes session
    ∙ ap (λ (first : Result (List ℕ × List ℕ) Refusal). asked (first >>= λ name. if is_put name.0 then put_words name.1 else Err BadLine)) first
    ∙ ap (λ (t : Bool). asked (if t then put_words arguments else Err BadLine)) (sym (raw-put raw word stands))

-- what is asked for behind the path, by the word that follows it
abbrev pub behind_path : List ℕ → Result (List ℕ × List ℕ) Refusal → Option ℕ
behind_path path second =
    asked ((second >>= λ word. if list_all is_space word.1 then Ok word.0 else Err BadLine) >>= λ length. if is_number length then Ok (path, length) else Err BadLine)

pub no-path : (arguments : List ℕ) → first_word arguments ≡ Err BadLine → asked (put_words arguments) ≡ None
unfolding put_words
no-path arguments bad =
    ap (λ (first : Result (List ℕ × List ℕ) Refusal). asked (first >>= λ path. (first_word path.1 >>= λ word. if list_all is_space word.1 then Ok word.0 else Err BadLine) >>= λ length. if is_number length then Ok (path.0, length) else Err BadLine)) bad

pub with-path : (arguments path rest : List ℕ) → first_word arguments ≡ Ok (path, rest) → asked (put_words arguments) ≡ behind_path path (first_word rest)
unfolding put_words
with-path arguments path rest first =
    ap (λ (first : Result (List ℕ × List ℕ) Refusal). asked (first >>= λ path. (first_word path.1 >>= λ word. if list_all is_space word.1 then Ok word.0 else Err BadLine) >>= λ length. if is_number length then Ok (path.0, length) else Err BadLine)) first

pub no-length : (path rest : List ℕ) → first_word rest ≡ Err BadLine → behind_path path (first_word rest) ≡ None
no-length path rest bad = ap (λ (second : Result (List ℕ × List ℕ) Refusal). behind_path path second) bad

pub more-words : (path rest word behind : List ℕ) → first_word rest ≡ Ok (word, behind) → list_all is_space behind ≡ false → behind_path path (first_word rest) ≡ None
more-words path rest word behind second more =
    ap (λ (second : Result (List ℕ × List ℕ) Refusal). behind_path path second) second
    ∙ ap (λ (t : Bool). asked ((if t then Ok word else Err BadLine) >>= λ length. if is_number length then Ok (path, length) else Err BadLine)) more

number-of : (path raw word : List ℕ) → IsRaw raw word → asked (if is_number word then Ok (path, word) else Err BadLine) ≡ (if is_number raw then Some (digits_value 10 raw) else None)
number-of path raw word stands =
    elim (is_number raw) as (λ t. is_number raw ≡ t → asked (if is_number word then Ok (path, word) else Err BadLine) ≡ (if t then Some (digits_value 10 raw) else None)) [
      | true ↦ (λ is.
          ap (λ (t : Bool). asked (if t then Ok (path, word) else Err BadLine)) (sym (raw-is_number raw word stands) ∙ is)
          ∙ ap (λ (w : List ℕ). Some (digits_value 10 w)) (sym (raw-number raw word stands is)))
      | false ↦ (λ other. ap (λ (t : Bool). asked (if t then Ok (path, word) else Err BadLine)) (sym (raw-is_number raw word stands) ∙ other))
    ] refl

-- the one word behind the path, as it is written, is the length
pub one-length : (path rest raw word behind : List ℕ) → IsRaw raw word → first_word rest ≡ Ok (word, behind) → list_all is_space behind ≡ true →
    behind_path path (first_word rest) ≡ (if is_number raw then Some (digits_value 10 raw) else None)
one-length path rest raw word behind stands second blank =
    ap (λ (second : Result (List ℕ × List ℕ) Refusal). behind_path path second) second
    ∙ ap (λ (t : Bool). asked ((if t then Ok word else Err BadLine) >>= λ length. if is_number length then Ok (path, length) else Err BadLine)) blank
    ∙ number-of path raw word stands
