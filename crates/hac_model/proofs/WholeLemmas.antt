-- What is whole of a script is its longest front that is made of lines, each with its end and the bytes that belong to
-- it.
use Rattle.std.proofs.Common.{◌≡◌, ℕ, zero, suc, ◌<◌, ◌≤◌, Bool, true, false, List, [], ◌∷◌, ◌++◌, length, take, refl, ap, sym, ◌∙◌, arith, append_assoc, length-append}
use Rattle.std.specs.Prelude.{if◌then◌else◌}
use Rattle.hac_model.specs.Laws.{AreLines}
use Rattle.hac_model.specs.Script.{after_item, after_line, due, first_line, is_first_whole, whole, whole_line}
use Rattle.hac_model.proofs.JoinLemmas.{bytes-whole, cut-append, first_line-is_unended, whole-line}
use Rattle.hac_model.proofs.ScriptLemmas.{whole-step}

-- the first line of bytes is whole, or nothing is
none-whole : (bytes : List ℕ) → is_first_whole bytes ≡ false → whole bytes ≡ []
none-whole bytes test = whole-step bytes ∙ ap (λ (t : Bool). if t then whole_line bytes ++ whole (after_item bytes) else []) test

one-whole : (bytes : List ℕ) → is_first_whole bytes ≡ true → whole bytes ≡ (first_line bytes ++ 10 ∷ take (due (first_line bytes)) (after_line bytes)) ++ whole (after_item bytes)
one-whole bytes test =
    let is_cut = bytes-whole bytes test in
    ap whole is_cut.bytes ∙ whole-line (first_line bytes) (take (due (first_line bytes)) (after_line bytes)) (after_item bytes) (first_line-is_unended bytes) is_cut.asked

shorter : (bytes : List ℕ) (is : is_first_whole bytes ≡ true) → length (after_item bytes) < length bytes
shorter bytes is =
    let is_cut = bytes-whole bytes is in
    let line = first_line bytes in
    let xs = take (due (first_line bytes)) (after_line bytes) in
    omega (arith, ap length is_cut.bytes, length-append line (10 ∷ (xs ++ after_item bytes)), length-append xs (after_item bytes))

lines-within : (n : ℕ) (bytes : List ℕ) → length bytes ≤ n → (k : ℕ) × AreLines k (whole bytes)
lines-within zero bytes few = elim (is_first_whole bytes) as (λ b. is_first_whole bytes ≡ b → (k : ℕ) × AreLines k (whole bytes)) [
  | true ↦ (λ is. absurd (omega (arith, shorter bytes is, few)))
  | false ↦ (λ other. (0, none-whole bytes other))
] refl
lines-within (suc n) bytes few = elim (is_first_whole bytes) as (λ b. is_first_whole bytes ≡ b → (k : ℕ) × AreLines k (whole bytes)) [
  | true ↦ (λ is.
      let is_cut = bytes-whole bytes is in
      let line = first_line bytes in
      let xs = take (due (first_line bytes)) (after_line bytes) in
      let more = lines-within n (after_item bytes) (omega (arith, shorter bytes is, few)) in
      (suc more.0, (line, xs, whole (after_item bytes), first_line-is_unended bytes, sym is_cut.asked, one-whole bytes is ∙ append_assoc line (10 ∷ xs) (whole (after_item bytes)), more.1)))
  | false ↦ (λ other. (0, none-whole bytes other))
] refl

pub whole-lines : (bytes : List ℕ) → (n : ℕ) × AreLines n (whole bytes)
whole-lines bytes = lines-within (length bytes) bytes (omega arith)

front-within : (n : ℕ) (bytes : List ℕ) → length bytes ≤ n → (rest : List ℕ) × (bytes ≡ whole bytes ++ rest)
front-within zero bytes few = elim (is_first_whole bytes) as (λ b. is_first_whole bytes ≡ b → (rest : List ℕ) × (bytes ≡ whole bytes ++ rest)) [
  | true ↦ (λ is. absurd (omega (arith, shorter bytes is, few)))
  | false ↦ (λ other. (bytes, ap (λ (front : List ℕ). front ++ bytes) (sym (none-whole bytes other))))
] refl
front-within (suc n) bytes few = elim (is_first_whole bytes) as (λ b. is_first_whole bytes ≡ b → (rest : List ℕ) × (bytes ≡ whole bytes ++ rest)) [
  | true ↦ (λ is.
      let is_cut = bytes-whole bytes is in
      let line = first_line bytes in
      let xs = take (due (first_line bytes)) (after_line bytes) in
      let more = front-within n (after_item bytes) (omega (arith, shorter bytes is, few)) in
      let front : List ℕ = whole (after_item bytes) in (
        more.0,
        is_cut.bytes
            ∙ ap (λ (rest : List ℕ). line ++ 10 ∷ (xs ++ rest)) more.1
            ∙ sym (append_assoc line (10 ∷ xs) (front ++ more.0))
            ∙ sym (append_assoc (line ++ 10 ∷ xs) front more.0)
            ∙ ap (λ (all : List ℕ). all ++ more.0) (sym (one-whole bytes is)),
      ))
  | false ↦ (λ other. (bytes, ap (λ (front : List ℕ). front ++ bytes) (sym (none-whole bytes other))))
] refl

pub whole-front : (bytes : List ℕ) → (rest : List ℕ) × (bytes ≡ whole bytes ++ rest)
whole-front bytes = front-within (length bytes) bytes (omega arith)

pub whole-longest : (n : ℕ) (front rest : List ℕ) → AreLines n front → length front ≤ length (whole (front ++ rest))
whole-longest zero front rest none = omega (arith, ap length none)
whole-longest (suc n) front rest (line, taken, more, unended, asked, bytes, lines) =
    let is : whole (front ++ rest) ≡ (line ++ 10 ∷ taken) ++ whole (more ++ rest) =
    ap (λ (all : List ℕ). whole (all ++ rest)) bytes ∙ ap whole (cut-append line taken more rest) ∙ whole-line line taken (more ++ rest) unended (sym asked) in
    omega (
      arith,
      ap length is,
      ap length bytes,
      length-append (line ++ 10 ∷ taken) (whole (more ++ rest)),
      length-append line (10 ∷ taken),
      length-append line (10 ∷ (taken ++ more)),
      length-append taken more,
      whole-longest n more rest lines,
    )
