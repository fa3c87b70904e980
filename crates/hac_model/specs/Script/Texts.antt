-- Texts, as commands spell them and as they are printed.
use Rattle.std.specs.Prelude.{ℕ, ◌+◌, ◌*◌, ◌/◌, ◌%◌, ◌==◌, ◌&&◌, ◌||◌, if◌then◌else◌, nat_lt, List, [], ◌∷◌, ◌++◌, codes, Option, Some, None}
use Rattle.std.specs.Char.{digit_char, digit_value, is_digit}
use Rattle.std.specs.List.{flat_map}
use Rattle.std.specs.Option.{option_map}
use Rattle.hac_model.specs.Bytes.{is_backslash}

-- a byte in front of a text, where there is one
abbrev pub with_byte : ℕ → Option (List ℕ) → Option (List ℕ)
with_byte b text = option_map (λ bytes. b ∷ bytes) text

-- the text that follows a byte, where both are spelled well
abbrev pub then_text : Option ℕ → Option (List ℕ) → Option (List ℕ)
then_text None text = None
then_text (Some b) text = with_byte b text

-- what a byte means behind a backslash: `n` a line end, `t` a tab, and a backslash itself; no other is an escape alone
abbrev pub escape_meaning : ℕ → Option ℕ
escape_meaning b = if b == 110 then Some 10 else (if b == 116 then Some 9 else (if is_backslash b then Some b else None))

-- the byte whose number two hexadecimal digits are, of either case
abbrev pub hex_byte : ℕ → ℕ → Option ℕ
hex_byte high low = if is_digit high 16 && is_digit low 16 then Some (digit_value high * 16 + digit_value low) else None

unfoldable mutual
  -- the text that the bytes spell: each byte is itself, but a backslash begins an escape; none where an escape is bad
  pub text_of : List ℕ → Option (List ℕ)
  text_of [] = Some []
  text_of (b ∷ bytes) = if is_backslash b then escape_of bytes else with_byte b (text_of bytes)

  -- the text from behind a backslash on: an `x` begins the number of a byte, and any other escape is one byte
  pub escape_of : List ℕ → Option (List ℕ)
  escape_of [] = None
  escape_of (b ∷ bytes) = if b == 120 then hex_of bytes else then_text (escape_meaning b) (text_of bytes)

  -- the text from behind `\x` on: two digits are the number of a byte
  pub hex_of : List ℕ → Option (List ℕ)
  hex_of [] = None
  hex_of (high ∷ []) = None
  hex_of (high ∷ low ∷ bytes) = then_text (hex_byte high low) (text_of bytes)

-- a byte as it is printed: line ends, tabs, backslashes and other control bytes are escaped, with digits in lower case
unfoldable pub escaped_byte : ℕ → List ℕ
escaped_byte b =
    if b == 10 then codes "\\n"
    else (if b == 9 then codes "\\t"
    else (if is_backslash b then codes "\\\\"
    else (if nat_lt b 32 || b == 127 then codes "\\x" ++ digit_char (b / 16) ∷ digit_char (b % 16) ∷ []
    else b ∷ [])))

-- a text as it is printed, on one line
abbrev pub escaped_text : List ℕ → List ℕ
escaped_text text = flat_map escaped_byte text
