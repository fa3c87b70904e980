-- The lines that bstr gives are the lines of a catalogue.
use Rattle.std.proofs.Common.{◌≡◌, ℕ, zero, suc, ◌≤◌, Bool, true, false, List, [], ◌∷◌, length}
use Rattle.std.proofs.Common.{take, drop, refl, sym, ap, ◌∙◌, arith, rules, length-drop}
use Rattle.std.specs.Prelude.{◌==◌, if◌then◌else◌, cond}
use Rattle.std.specs.List.{onto_first}
use Rattle.bstr.specs.Text.{line_len, lines_from, lines_of}
use Rattle.hac_model.specs.Spaces.Catalogue.{lines}

-- the first line, and the lines of what follows it
lines-first : (b : ℕ) (bytes : List ℕ) → lines (b ∷ bytes) ≡ take (line_len (b ∷ bytes)) (b ∷ bytes)
    ∷ lines (drop (line_len (b ∷ bytes)) (b ∷ bytes))
unfolding lines line_len
lines-first b [] = by_end (b == 10) where
  by_end : (is_end : Bool) →
      (if is_end then (b ∷ []) ∷ lines [] else onto_first b (lines []))
      ≡ take (cond is_end 1 (suc (line_len []))) (b ∷ []) ∷ lines (drop (cond is_end 1 (suc
      (line_len []))) (b ∷ []))
  by_end true = refl
  by_end false = refl
lines-first b (c ∷ bytes) = by_end (b == 10) (lines-first c bytes) where
  by_end : (is_end : Bool) → lines (c ∷ bytes) ≡ take (line_len (c ∷ bytes)) (c ∷ bytes) ∷ lines
      (drop (line_len (c ∷ bytes)) (c ∷ bytes)) →
      (if is_end then (b ∷ []) ∷ lines (c ∷ bytes) else onto_first b (lines (c ∷ bytes)))
      ≡ take (cond is_end 1 (suc (line_len (c ∷ bytes)))) (b ∷ c ∷ bytes) ∷ lines (drop (cond is_end
      1 (suc (line_len (c ∷ bytes)))) (b ∷ c ∷ bytes))
  by_end true later = refl
  by_end false later = ap (onto_first b) later

-- the lines that are found by counting
lines_from-lines : (n : ℕ) (bytes : List ℕ) → length bytes ≤ n → lines_from n bytes ≡ lines bytes
unfolding lines_from lines line_len
lines_from-lines zero [] short = refl
lines_from-lines zero (b ∷ bytes) short = absurd (omega (arith, short))
lines_from-lines (suc n) [] short = refl
lines_from-lines (suc n) (b ∷ bytes) short =
    ap (λ more. take (line_len (b ∷ bytes)) (b ∷ bytes) ∷ more) (lines_from-lines n (drop (line_len
    (b ∷ bytes)) (b ∷ bytes)) (fits (b == 10)))
    ∙ sym (lines-first b bytes) where
      fits : (is_end : Bool) → length (drop (cond is_end 1 (suc (line_len bytes))) (b ∷ bytes)) ≤ n
      fits true = search (rules, short)
      fits false = omega (arith, short, length-drop (suc (line_len bytes)) (b ∷ bytes))

pub lines_of-lines : (bytes : List ℕ) → lines_of bytes ≡ lines bytes
lines_of-lines bytes = lines_from-lines (length bytes) bytes (omega arith)
