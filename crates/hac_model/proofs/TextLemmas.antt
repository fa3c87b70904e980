-- What is printed or put in quotes is read again.
use Rattle.std.proofs.Common.{◌≡◌, ℕ, ◌+◌, ◌*◌, ◌/◌, ◌%◌, ◌<◌, Bool, true, false, List, [], ◌∷◌, ◌++◌, length, refl, ap, sym, ◌∙◌, arith}
use Rattle.std.specs.Prelude.{◌==◌, ◌&&◌, ◌||◌, if◌then◌else◌, nat_lt, not, codes, Option, Some, None}
use Rattle.std.specs.Char.{digit_char, digit_value, is_digit}
use Rattle.std.specs.List.{position_or_len}
use Rattle.std.proofs.lemmas.Bool.{cond_both, eqb-true}
use Rattle.std.proofs.lemmas.Bool.Decides.{nat_tests}
use Rattle.std.proofs.lemmas.Grind.{common_steps}
use Rattle.std.proofs.lemmas.List.Folds.{prefix_len-append}
use Rattle.std.proofs.lemmas.Str.{digit_value-digit_char}
use Rattle.hac_model.specs.Bytes.{is_backslash, is_line_end}
use Rattle.hac_model.specs.Script.Texts.{escape_of, escaped_text, hex_of, hex_byte, escaped_byte, text_of, then_text, with_byte}

-- two digits are read as their number
digits-read : (high low h l : ℕ) (rest : List ℕ) → digit_value high ≡ h → digit_value low ≡ l → h < 16 → l < 16 →
    hex_of (high ∷ low ∷ rest) ≡ with_byte (h * 16 + l) (text_of rest)
unfolding text_of
digits-read high low h l rest e f hs ls =
    let both : (is_digit high 16 && is_digit low 16) ≡ true = rw (e, f) (grind (arith, nat_tests)) in
    let value : hex_byte high low ≡ Some (h * 16 + l) =
    ap (λ (b : Bool). if b then Some (digit_value high * 16 + digit_value low) else None) both
    ∙ ap (λ (n : ℕ). Some (n * 16 + digit_value low)) e
    ∙ ap (λ (n : ℕ). Some (h * 16 + n)) f in
    ap (λ (b : Option ℕ). then_text b (text_of rest)) value

-- a byte by its number
number-read : (b : ℕ) (rest : List ℕ) → b < 256 → text_of (codes "\\x" ++ digit_char (b / 16) ∷ digit_char (b % 16) ∷ rest) ≡ with_byte b (text_of rest)
unfolding text_of
number-read b rest small =
    digits-read (digit_char (b / 16)) (digit_char (b % 16)) (b / 16) (b % 16) rest
    (digit_value-digit_char (b / 16) (omega arith)) (digit_value-digit_char (b % 16) (omega arith)) (omega arith) (omega arith)
    ∙ ap (λ (n : ℕ). with_byte n (text_of rest)) (omega arith)

plain-read : (b : ℕ) (rest : List ℕ) → is_backslash b ≡ false → text_of (b ∷ rest) ≡ with_byte b (text_of rest)
unfolding text_of
plain-read b rest plain = ap (λ (t : Bool). if t then escape_of rest else with_byte b (text_of rest)) plain

-- a printed byte is read as itself
byte-read : (b : ℕ) (rest : List ℕ) → text_of (escaped_byte b ++ rest) ≡ with_byte b (text_of rest)
unfolding escaped_byte text_of
byte-read b rest =
    let Reads : List ℕ → Type 0 = λ spelled. text_of (spelled ++ rest) ≡ with_byte b (text_of rest) in
    cond_both (b == 10) _ _ Reads (λ is. ap (λ (n : ℕ). with_byte n (text_of rest)) (sym (eqb-true b 10 is))) (λ _.
    cond_both (b == 9) _ _ Reads (λ is. ap (λ (n : ℕ). with_byte n (text_of rest)) (sym (eqb-true b 9 is))) (λ _.
    cond_both (is_backslash b) _ _ Reads (λ is. ap (λ (n : ℕ). with_byte n (text_of rest)) (sym (eqb-true b 92 is))) (λ plain.
    cond_both (nat_lt b 32 || b == 127) _ _ Reads (λ control. number-read b rest (grind (arith, nat_tests, control))) (λ _. plain-read b rest plain))))

pub text-read : (text : List ℕ) → text_of (escaped_text text) ≡ Some text
unfolding text_of
text-read [] = refl
text-read (b ∷ text) = byte-read b (escaped_text text) ∙ ap (λ (read : Option (List ℕ)). with_byte b read) (text-read text)

-- lists without a line end have none when they are joined
unended-join : (a b : List ℕ) → position_or_len is_line_end a ≡ length a → position_or_len is_line_end b ≡ length b → position_or_len is_line_end (a ++ b) ≡ length (a ++ b)
unended-join a b e f = grind (arith, common_steps, prefix_len-append (λ x. not (is_line_end x)) a b)

-- a byte that is no line end
unended-one : (b : ℕ) → is_line_end b ≡ false → position_or_len is_line_end (b ∷ []) ≡ 1
unended-one b other = ap (λ (t : Bool). if not t then 1 else 0) other

digit-one : (d : ℕ) → position_or_len is_line_end (digit_char d ∷ []) ≡ 1
digit-one d = unended-one (digit_char d) (grind (arith, nat_tests))

byte-one_line : (b : ℕ) → position_or_len is_line_end (escaped_byte b) ≡ length (escaped_byte b)
unfolding escaped_byte
byte-one_line b =
    let Unended : List ℕ → Type 0 = λ spelled. position_or_len is_line_end spelled ≡ length spelled in
    cond_both (b == 10) _ _ Unended (λ _. refl) (λ other.
    cond_both (b == 9) _ _ Unended (λ _. refl) (λ _.
    cond_both (is_backslash b) _ _ Unended (λ _. refl) (λ _.
    cond_both (nat_lt b 32 || b == 127) _ _ Unended
    (λ _. unended-join (codes "\\x") (digit_char (b / 16) ∷ digit_char (b % 16) ∷ []) refl (unended-join (digit_char (b / 16) ∷ []) (digit_char (b % 16) ∷ []) (digit-one (b / 16)) (digit-one (b % 16))))
    (λ _. unended-one b other))))

pub text-one_line : (text : List ℕ) → position_or_len is_line_end (escaped_text text) ≡ length (escaped_text text)
text-one_line [] = refl
text-one_line (b ∷ text) = unended-join (escaped_byte b) (escaped_text text) (byte-one_line b) (text-one_line text)
