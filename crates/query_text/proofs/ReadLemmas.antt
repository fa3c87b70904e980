-- Reading bytes one after the other, by their index.
use Rattle.std.proofs.Common.{◌≡◌, ℕ, suc, ◌+◌, ◌<◌, ◌≤◌, List, length, get_or, drop, Option, Some, None, Err, ap, sym, ◌∙◌, arith, add-one, drop-cons}
use Rattle.std.specs.Option.{ok_or}
use Rattle.std.proofs.lemmas.List.{drop_all}
use Rattle.hac_model.specs.Query.QueryReading.{read_on, step, read_whole, goes_on}
use Rattle.hac_model.specs.declared.reading.Part.{Part}
use Rattle.hac_model.specs.declared.reading.Reader.{Reader}

module _ (bytes : List ℕ) (i : ℕ) (reader : Reader) where
  next-byte : i < length bytes → read_on (i + 1) (drop i bytes) reader ≡ goes_on (i + 1) (read_on (i + 1 + 1) (drop (suc i) bytes)) (step (get_or bytes i 0) reader)
  unfolding read_on
  next-byte h = ap (λ (rest : List ℕ). read_on (i + 1) rest reader) (drop-cons bytes i 0 h)

  pub next-none : i < length bytes → step (get_or bytes i 0) reader ≡ None → read_on (i + 1) (drop i bytes) reader ≡ Err (i + 1)
  next-none h e = next-byte h ∙ ap (goes_on (i + 1) (read_on (i + 1 + 1) (drop (suc i) bytes))) e

  pub next-some : (next : Reader) → i < length bytes → step (get_or bytes i 0) reader ≡ Some next
      → read_on (i + 1) (drop i bytes) reader ≡ read_on (i + 1 + 1) (drop (i + 1) bytes) next
  next-some next h e =
      next-byte h ∙ ap (goes_on (i + 1) (read_on (i + 1 + 1) (drop (suc i) bytes))) e
      ∙ ap (λ (n : ℕ). read_on (i + 1 + 1) (drop n bytes) next) (sym (add-one i))

  pub at-end : (o : Option Part) → length bytes ≤ i → i ≤ length bytes → read_whole reader ≡ o → read_on (i + 1) (drop i bytes) reader ≡ ok_or o (length bytes + 1)
  unfolding read_on
  at-end o low high e =
      let same : i + 1 ≡ length bytes + 1 = omega arith in
      ap (λ (rest : List ℕ). read_on (i + 1) rest reader) (drop_all i bytes low) ∙ ap (λ (n : ℕ). ok_or (read_whole reader) n) same ∙ ap (λ (o : Option Part). ok_or o (length bytes + 1)) e
