-- Terms of queries: their letters, and their order.
use Rattle.std.specs.Prelude.{ℕ, Bool, false, List}
use Rattle.std.specs.Str.{bytes_eq}
use Rattle.std.specs.Cmp.Lexicographic.{slice_cmp}
use Rattle.std.specs.Ordering.{nat_cmp, is_le, is_lt}
use Rattle.hac_model.specs.declared.terms.Term.{Term}
use Rattle.hac_model.specs.declared.terms.Term.TheVariants.{Word, Prefix}

-- the letters of a term
abbrev pub letters_in : Term → List ℕ
letters_in (Word letters) = letters
letters_in (Prefix letters) = letters

-- the two terms are one
abbrev pub is_same_term : Term → Term → Bool
is_same_term (Word letters) (Word others) = bytes_eq letters others
is_same_term (Prefix letters) (Prefix others) = bytes_eq letters others
is_same_term one other = false

-- the one term comes before the other: by their letters, and a word before a prefix of the same letters
abbrev pub is_term_before : Term → Term → Bool
is_term_before (Word letters) (Prefix others) = is_le (slice_cmp nat_cmp letters others)
is_term_before one other = is_lt (slice_cmp nat_cmp (letters_in one) (letters_in other))
