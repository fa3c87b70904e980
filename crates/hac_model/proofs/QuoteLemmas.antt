-- A word in quotes is read as that word, and has no other spelling there.
use Rattle.std.proofs.Common.{◌≡◌, ℕ, Bool, true, false, List, [], ◌∷◌, ◌++◌, length, refl, ap, sym, ◌∙◌, append_assoc, arith}
use Rattle.std.specs.Prelude.{◌==◌, ◌||◌, if◌then◌else◌, Option, Some, None, Result, Ok, Err, IsTrue}
use Rattle.std.specs.List.{flat_map}
use Rattle.std.specs.Option.{ok_or}
use Rattle.std.proofs.lemmas.Bool.{eqb-true}
use Rattle.std.proofs.lemmas.Bool.Decides.{nat_tests}
use Rattle.hac_model.specs.Run.Answers.{◌>>=◌}
use Rattle.hac_model.specs.Bytes.{is_backslash, is_quote}
use Rattle.hac_model.specs.Script.LineWords.{first_word, in_front, is_word_end, quoted, quoted_escape, quoted_word}
use Rattle.hac_model.specs.Script.LineWords.{in_quotes, quoted_byte}
use Rattle.hac_model.specs.declared.replies.Refusal.{Refusal}
use Rattle.hac_model.specs.declared.replies.Refusal.TheVariants.{BadLine}

-- a byte in quotes is read as itself
byte-read : (b : ℕ) (tail : List ℕ) → quoted (quoted_byte b ++ tail) ≡ in_front b (quoted tail)
unfolding quoted
byte-read b tail =
    elim (is_quote b) as (λ q. is_quote b ≡ q → quoted ((if q || is_backslash b then 92 ∷ b ∷ [] else b ∷ []) ++ tail) ≡ in_front b (quoted tail)) [
      | true ↦ (λ is. ap (λ (q : Bool). if q || is_backslash b then in_front b (quoted tail) else None) is)
      | false ↦ (λ other.
          elim (is_backslash b) as (λ s. is_backslash b ≡ s → quoted ((if s then 92 ∷ b ∷ [] else b ∷ []) ++ tail) ≡ in_front b (quoted tail)) [
            | true ↦ (λ is. ap (λ (q : Bool). if q || is_backslash b then in_front b (quoted tail) else None) other ∙ ap (λ (s : Bool). if s then in_front b (quoted tail) else None) is)
            | false ↦ (λ plain. ap (λ (q : Bool). if q then Some ([], tail) else (if is_backslash b then quoted_escape tail else in_front b (quoted tail))) other ∙ ap (λ (s : Bool). if s then quoted_escape tail else in_front b (quoted tail)) plain)
          ] refl)
    ] refl

quoted-read : (word rest : List ℕ) → quoted (flat_map quoted_byte word ++ 34 ∷ rest) ≡ Some (word, rest)
unfolding quoted
quoted-read [] rest = refl
quoted-read (b ∷ word) rest =
    ap quoted (append_assoc (quoted_byte b) (flat_map quoted_byte word) (34 ∷ rest))
    ∙ byte-read b (flat_map quoted_byte word ++ 34 ∷ rest)
    ∙ ap (λ (read : Option (List ℕ × List ℕ)). in_front b read) (quoted-read word rest)

-- what begins with a quote is a word in quotes
at_quote : (bytes : List ℕ) → first_word (34 ∷ bytes) ≡ quoted_word bytes
at_quote bytes =
    let some : (length (34 ∷ bytes) == 0) ≡ false = grind (arith, nat_tests) in
    ap (λ (t : Bool). if t then Err BadLine else quoted_word bytes) some

pub word-read : (word rest : List ℕ) → IsTrue (is_word_end rest) → first_word (in_quotes word ++ rest) ≡ Ok (word, rest)
word-read word rest ends =
    at_quote ((flat_map quoted_byte word ++ 34 ∷ []) ++ rest)
    ∙ ap (λ (bytes : List ℕ). quoted_word bytes) (append_assoc (flat_map quoted_byte word) (34 ∷ []) rest)
    ∙ ap (λ (read : Option (List ℕ × List ℕ)). ok_or read BadLine >>= λ w. if is_word_end w.1 then Ok w else Err BadLine) (quoted-read word rest)
    ∙ ap (λ (t : Bool). if t then Ok (word, rest) else Err BadLine) ends

-- a word with a byte in front begins with that byte
pub record Fronted (b : ℕ) (read : Option (List ℕ × List ℕ)) (word rest : List ℕ) : Type 0 where
  pub tail : List ℕ
  pub whole : b ∷ tail ≡ word
  pub goes_on : read ≡ Some (tail, rest)

fronted : (b : ℕ) (read : Option (List ℕ × List ℕ)) (word rest : List ℕ) → in_front b read ≡ Some (word, rest) → Fronted b read word rest
fronted b None word rest e = absurd cc
fronted b (Some inner) word rest e =
    let same : (b ∷ inner.0, inner.1) ≡ (word, rest) = cc in
    record {
      tail = inner.0;
      whole = ap (λ (w : List ℕ × List ℕ). w.0) same;
      goes_on = ap (λ (r : List ℕ). Some (inner.0, r)) (ap (λ (w : List ℕ × List ℕ). w.1) same);
    }

none-some : {w : List ℕ × List ℕ} → (let read : Option (List ℕ × List ℕ) = None in read) ≡ Some w → ⊥
none-some e = cc

quoted-nothing : quoted [] ≡ None
unfolding quoted
quoted-nothing = refl

quoted-first : (b : ℕ) (bytes : List ℕ) → quoted (b ∷ bytes) ≡ (if is_quote b then Some ([], bytes) else (if is_backslash b then quoted_escape bytes else in_front b (quoted bytes)))
unfolding quoted
quoted-first b bytes = refl

escape-nothing : quoted_escape [] ≡ None
unfolding quoted
escape-nothing = refl

escape-first : (b : ℕ) (bytes : List ℕ) → quoted_escape (b ∷ bytes) ≡ (if is_quote b || is_backslash b then in_front b (quoted bytes) else None)
unfolding quoted
escape-first b bytes = refl

quoted_byte-plain : (b : ℕ) → is_quote b ≡ false → is_backslash b ≡ false → quoted_byte b ≡ b ∷ []
quoted_byte-plain b other plain =
    ap (λ (q : Bool). if q || is_backslash b then 92 ∷ b ∷ [] else b ∷ []) other ∙ ap (λ (s : Bool). if s then 92 ∷ b ∷ [] else b ∷ []) plain

quoted_byte-escaped : (b : ℕ) → (is_quote b || is_backslash b) ≡ true → quoted_byte b ≡ 92 ∷ b ∷ []
quoted_byte-escaped b meant = ap (λ (s : Bool). if s then 92 ∷ b ∷ [] else b ∷ []) meant

-- what is in quotes up to the closing one, and then the rest
abbrev pub spelled : List ℕ → List ℕ → List ℕ
spelled word rest = flat_map quoted_byte word ++ 34 ∷ rest

closes : (b : ℕ) (bytes word rest : List ℕ) → is_quote b ≡ true → (let read : Option (List ℕ × List ℕ) = Some ([], bytes) in read) ≡ Some (word, rest) → b ∷ bytes ≡ spelled word rest
closes b bytes word rest is e =
    let same : (let none : List ℕ = [] in (none, bytes)) ≡ (word, rest) = cc in
    ap (λ (n : ℕ). n ∷ bytes) (eqb-true b 34 is)
    ∙ ap (λ (w : List ℕ × List ℕ). spelled w.0 w.1) same

plainly : (b : ℕ) (bytes tail word rest : List ℕ) → is_quote b ≡ false → is_backslash b ≡ false → bytes ≡ spelled tail rest → b ∷ tail ≡ word → b ∷ bytes ≡ spelled word rest
plainly b bytes tail word rest other plain behind whole =
    ap (λ (more : List ℕ). b ∷ more) behind
    ∙ ap (λ (front : List ℕ). (front ++ flat_map quoted_byte tail) ++ 34 ∷ rest) (sym (quoted_byte-plain b other plain))
    ∙ ap (λ (w : List ℕ). spelled w rest) whole

by_escape : (b : ℕ) (bytes tail word rest : List ℕ) → (is_quote b || is_backslash b) ≡ true → bytes ≡ spelled tail rest → b ∷ tail ≡ word → 92 ∷ b ∷ bytes ≡ spelled word rest
by_escape b bytes tail word rest meant behind whole =
    ap (λ (more : List ℕ). 92 ∷ b ∷ more) behind
    ∙ ap (λ (front : List ℕ). (front ++ flat_map quoted_byte tail) ++ 34 ∷ rest) (sym (quoted_byte-escaped b meant))
    ∙ ap (λ (w : List ℕ). spelled w rest) whole

mutual
  quoted-only : (bytes word rest : List ℕ) → quoted bytes ≡ Some (word, rest) → bytes ≡ spelled word rest
  quoted-only [] word rest e = absurd (none-some (sym quoted-nothing ∙ e))
  quoted-only (b ∷ bytes) word rest e =
      elim (is_quote b) as (λ q. is_quote b ≡ q → (if q then Some ([], bytes) else (if is_backslash b then quoted_escape bytes else in_front b (quoted bytes))) ≡ Some (word, rest) → b ∷ bytes ≡ spelled word rest) [
        | true ↦ (λ is same. closes b bytes word rest is same)
        | false ↦ (λ other.
            elim (is_backslash b) as (λ s. is_backslash b ≡ s → (if s then quoted_escape bytes else in_front b (quoted bytes)) ≡ Some (word, rest) → b ∷ bytes ≡ spelled word rest) [
              | true ↦ (λ is same. ap (λ (n : ℕ). n ∷ bytes) (eqb-true b 92 is) ∙ escape-only bytes word rest same)
              | false ↦ (λ plain same.
                  let f = fronted b (quoted bytes) word rest same in
                  plainly b bytes f.tail word rest other plain (quoted-only bytes f.tail rest f.goes_on) f.whole)
            ] refl)
      ] refl (sym (quoted-first b bytes) ∙ e)

  escape-only : (bytes word rest : List ℕ) → quoted_escape bytes ≡ Some (word, rest) → 92 ∷ bytes ≡ spelled word rest
  escape-only [] word rest e = absurd (none-some (sym escape-nothing ∙ e))
  escape-only (b ∷ bytes) word rest e =
      elim (is_quote b || is_backslash b) as (λ m. (is_quote b || is_backslash b) ≡ m → (if m then in_front b (quoted bytes) else None) ≡ Some (word, rest) → 92 ∷ b ∷ bytes ≡ spelled word rest) [
        | true ↦ (λ meant same.
            let f = fronted b (quoted bytes) word rest same in
            by_escape b bytes f.tail word rest meant (quoted-only bytes f.tail rest f.goes_on) f.whole)
        | false ↦ (λ other same. absurd (none-some same))
      ] refl (sym (escape-first b bytes) ∙ e)

ended : (read : Option (List ℕ × List ℕ)) (word rest : List ℕ) → (ok_or read BadLine >>= λ w. if is_word_end w.1 then Ok w else Err BadLine) ≡ Ok (word, rest) → read ≡ Some (word, rest)
ended None word rest e = absurd cc
ended (Some w) word rest e =
    elim (is_word_end w.1) as (λ t. (let read : Result (List ℕ × List ℕ) Refusal = if t then Ok w else Err BadLine in read) ≡ Ok (word, rest) → (let read : Option (List ℕ × List ℕ) = Some w in read) ≡ Some (word, rest)) [
      | true ↦ (λ same. let even : w ≡ (word, rest) = cc in ap Some even)
      | false ↦ (λ same. absurd cc)
    ] e

pub word-only : (bytes word rest : List ℕ) → quoted_word bytes ≡ Ok (word, rest) → 34 ∷ bytes ≡ in_quotes word ++ rest
word-only bytes word rest e =
    ap (λ (more : List ℕ). 34 ∷ more) (quoted-only bytes word rest (ended (quoted bytes) word rest e) ∙ sym (append_assoc (flat_map quoted_byte word) (34 ∷ []) rest))
