-- A word as it is written in a line: what is true of it is true of the word that it means.
use Rattle.std.proofs.Common.{◌≡◌, ℕ, ◌+◌, ◌-◌, Bool, true, false, List, [], ◌∷◌, ◌++◌, length, take, drop, refl, ap, sym, ◌∙◌, append_assoc, inl, inr, arith, subst}
use Rattle.std.specs.Prelude.{◌||◌, if◌then◌else◌, slice_index, codes, Option, Some, None, Ok, Err}
use Rattle.std.specs.List.{flat_map, list_any}
use Rattle.std.specs.Option.{ok_or, option_map}
use Rattle.std.specs.Str.Parse.{AllDigits}
use Rattle.std.proofs.Math.Seq.{take-append_seam}
use Rattle.std.proofs.lemmas.Bool.Decides.{nat_tests}
use Rattle.std.proofs.lemmas.List.{length-append}
use Rattle.std.proofs.lemmas.Slice.Eq.{bytes_eq-Decides}
use Rattle.std.proofs.lemmas.Str.Parse.{digit_from_value}
use Rattle.hac_model.specs.Run.Answers.{◌>>=◌}
use Rattle.hac_model.specs.Bytes.{is_backslash, is_quote}
use Rattle.hac_model.specs.Script.LineWords.{quoted_byte}
use Rattle.hac_model.specs.Script.LineWords.{in_front, is_word_end, quoted, quoted_word}
use Rattle.hac_model.specs.Script.Lines.{is_put}
use Rattle.hac_model.specs.Script.Numbers.{is_number}
use Rattle.hac_model.specs.declared.replies.Refusal.TheVariants.{BadLine}
use Rattle.hac_model.proofs.QuoteLemmas.{word-only}
use Rattle.shell_lang.specs.RawWords.{IsRaw}
use Rattle.shell_lang.proofs.NumberLemmas.{all-digits, number-digits}
use Rattle.shell_lang.proofs.QuoteLemmas.{quoted-closed}

-- what follows a word that is read
abbrev pub behind : Option (List ℕ × List ℕ) → Option (List ℕ)
behind read = option_map (λ (word : List ℕ × List ℕ). word.1) read

pub behind-front : (b : ℕ) (read : Option (List ℕ × List ℕ)) → behind (in_front b read) ≡ behind read
behind-front b None = refl
behind-front b (Some word) = refl

-- at the closing quote it is what follows that
pub behind-closed : (rest : List ℕ) → is_quote (slice_index rest 0) ≡ true → behind (quoted rest) ≡ Some (drop 1 rest)
behind-closed rest closed = ap behind (quoted-closed rest closed)

-- a word in quotes up to what follows it
pub record RawQuoted (bytes rest : List ℕ) : Type 0 where
  pub word : List ℕ
  pub stands : bytes ≡ flat_map quoted_byte word ++ 34 ∷ rest
  pub reads : quoted_word bytes ≡ Ok (word, rest)

behind-some : (read : Option (List ℕ × List ℕ)) (rest : List ℕ) → Some rest ≡ behind read → (word : List ℕ) × (read ≡ Some (word, rest))
behind-some None rest e = absurd cc
behind-some (Some read) rest e =
    let same : rest ≡ read.1 = cc in
    (read.0, ap (λ (r : List ℕ). Some (read.0, r)) (sym same))

pub raw-quoted : (bytes rest : List ℕ) → Some rest ≡ behind (quoted bytes) → is_word_end rest ≡ true → RawQuoted bytes rest
raw-quoted bytes rest e ends =
    let read = behind-some (quoted bytes) rest e in
    let word : List ℕ = read.0 in
    let reads : quoted_word bytes ≡ Ok (word, rest) =
    ap (λ (r : Option (List ℕ × List ℕ)). ok_or r BadLine >>= λ w. if is_word_end w.1 then Ok w else Err BadLine) read.1
    ∙ ap (λ (t : Bool). if t then Ok (word, rest) else Err BadLine) ends in
    record {
      word = word;
      stands = ap (λ (all : List ℕ). drop 1 all) (word-only bytes word rest reads) ∙ append_assoc (flat_map quoted_byte word) (34 ∷ []) rest;
      reads = reads;
    }

pub quoted-length : (bytes rest : List ℕ) (raw : RawQuoted bytes rest) → length bytes ≡ length (flat_map quoted_byte raw.word) + (length rest + 1)
quoted-length bytes rest raw = omega (arith, ap length raw.stands, length-append (flat_map quoted_byte raw.word) (34 ∷ rest))

-- what is between the quotes
pub quoted-bytes : (bytes rest : List ℕ) (raw : RawQuoted bytes rest) → take (length bytes - length rest - 1) bytes ≡ flat_map quoted_byte raw.word
quoted-bytes bytes rest raw =
    let front : List ℕ = flat_map quoted_byte raw.word in
    let count : length bytes - length rest - 1 ≡ length front = omega (arith, quoted-length bytes rest raw) in
    ap (λ (n : ℕ). take n bytes) count ∙ ap (λ (all : List ℕ). take (length front) all) raw.stands ∙ take-append_seam front (34 ∷ rest)

abbrev is_mark : ℕ → Bool
is_mark b = is_quote b || is_backslash b

-- a quote or a backslash is among the bytes
abbrev pub has_mark : List ℕ → Bool
has_mark bytes = list_any is_mark bytes

marks : (b : ℕ) (word : List ℕ) → has_mark (flat_map quoted_byte word) ≡ has_mark word → has_mark (quoted_byte b ++ flat_map quoted_byte word) ≡ has_mark (b ∷ word)
marks b word more =
    elim (is_quote b || is_backslash b) as (λ m. (is_quote b || is_backslash b) ≡ m → has_mark ((if m then 92 ∷ b ∷ [] else b ∷ []) ++ flat_map quoted_byte word) ≡ (m || has_mark word)) [
      | true ↦ (λ is. refl)
      | false ↦ (λ other. ap (λ (m : Bool). m || has_mark (flat_map quoted_byte word)) other ∙ more)
    ] refl

quoted-mark : (word : List ℕ) → has_mark (flat_map quoted_byte word) ≡ has_mark word
quoted-mark [] = refl
quoted-mark (b ∷ word) = marks b word (quoted-mark word)

quoted-plain : (word : List ℕ) → has_mark word ≡ false → flat_map quoted_byte word ≡ word
quoted-plain [] plain = refl
quoted-plain (b ∷ word) plain =
    elim (is_quote b || is_backslash b) as (λ m. (m || has_mark word) ≡ false → (if m then 92 ∷ b ∷ [] else b ∷ []) ++ flat_map quoted_byte word ≡ b ∷ word) [
      | true ↦ (λ marked. absurd cc)
      | false ↦ (λ rest. ap (λ (more : List ℕ). b ∷ more) (quoted-plain word rest))
    ] plain

raw-mark : (raw word : List ℕ) → IsRaw raw word → has_mark raw ≡ has_mark word
raw-mark raw word (inl same) = ap has_mark same
raw-mark raw word (inr same) = ap has_mark same ∙ quoted-mark word

-- bytes with neither a quote nor a backslash are the word that they mean
raw-plain : (raw word : List ℕ) → IsRaw raw word → has_mark raw ≡ false → raw ≡ word
raw-plain raw word (inl same) plain = same
raw-plain raw word (inr same) plain = same ∙ quoted-plain word (sym (raw-mark raw word (inr same)) ∙ plain)

fails : (test : List ℕ → Bool) → ((w : List ℕ) → test w ≡ true → has_mark w ≡ false) → (w : List ℕ) → has_mark w ≡ true → test w ≡ false
fails test plain w marked =
    elim (test w) as (λ b. test w ≡ b → b ≡ false) [
      | true ↦ (λ passed. absurd (let clash : true ≡ false = sym marked ∙ plain w passed in cc))
      | false ↦ (λ _. refl)
    ] refl

-- a test that no quote and no backslash passes has one answer for the bytes and for the word
pub raw-test : (test : List ℕ → Bool) → ((w : List ℕ) → test w ≡ true → has_mark w ≡ false) → (raw word : List ℕ) → IsRaw raw word → test raw ≡ test word
raw-test test plain raw word stands =
    elim (has_mark raw) as (λ m. has_mark raw ≡ m → test raw ≡ test word) [
      | true ↦ (λ marked. fails test plain raw marked ∙ sym (fails test plain word (sym (raw-mark raw word stands) ∙ marked)))
      | false ↦ (λ unmarked. ap test (raw-plain raw word stands unmarked))
    ] refl

put-plain : (w : List ℕ) → is_put w ≡ true → has_mark w ≡ false
put-plain w h = subst (λ (v : List ℕ). has_mark v ≡ false) (sym ((bytes_eq-Decides w (codes "put")).0 h)) refl

digits-plain : (w : List ℕ) → AllDigits 10 w → has_mark w ≡ false
digits-plain [] h = refl
digits-plain (c ∷ cs) h =
    let range = digit_from_value c h.0 in
    let other : is_mark c ≡ false = grind (arith, nat_tests, range.0, range.1) in
    ap (λ (m : Bool). m || has_mark cs) other ∙ digits-plain cs h.1

number-plain : (w : List ℕ) → is_number w ≡ true → has_mark w ≡ false
number-plain w h = digits-plain w (all-digits w (number-digits 10 w (omega arith) h).0)

pub raw-put : (raw word : List ℕ) → IsRaw raw word → is_put raw ≡ is_put word
raw-put raw word stands = raw-test is_put put-plain raw word stands

pub raw-is_number : (raw word : List ℕ) → IsRaw raw word → is_number raw ≡ is_number word
raw-is_number raw word stands = raw-test is_number number-plain raw word stands

-- and a number is itself
pub raw-number : (raw word : List ℕ) → IsRaw raw word → is_number raw ≡ true → raw ≡ word
raw-number raw word stands is = raw-plain raw word stands (number-plain raw is)
