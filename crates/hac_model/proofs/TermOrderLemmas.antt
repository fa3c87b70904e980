-- The order of terms.
use Rattle.std.proofs.Common.{◌≡◌, Bool, true, false, List, refl, ap, sym, ◌∙◌}
use Rattle.std.specs.Prelude.{ℕ}
use Rattle.std.specs.Cmp.Lexicographic.{nat_list_cmp_total, slice_cmp, texts_ties}
use Rattle.std.specs.Ordering.{is_eq, is_lt, nat_cmp, ordering_reverse}
use Rattle.std.specs.Str.{bytes_eq}
use Rattle.std.specs.declared.cmp.Ordering.{Ordering}
use Rattle.std.specs.declared.cmp.Ordering.TheVariants.{Less, Equal, Greater}
use Rattle.hac_model.specs.Query.Terms.{is_same_term, is_term_before}
use Rattle.hac_model.specs.declared.terms.Term.{Term}
use Rattle.hac_model.specs.declared.terms.Term.TheVariants.{Word, Prefix}
use Rattle.hac_model.proofs.TermLemmas.{term-irreflexive, term-trans}
use Rattle.hac_model.proofs.NameOrderLemmas.{less-from}

-- Letters.

-- Terms.

lt-differs : (x y : List ℕ) → is_lt (slice_cmp nat_cmp x y) ≡ true → bytes_eq x y ≡ false
lt-differs x y h = texts_ties x y ∙ ap is_eq (less-from (slice_cmp nat_cmp x y) h)

gt-differs : (x y : List ℕ) → is_lt (slice_cmp nat_cmp y x) ≡ true → bytes_eq x y ≡ false
gt-differs x y h = texts_ties x y ∙ turned (slice_cmp nat_cmp x y) (ap is_lt (sym (nat_list_cmp_total.antisymm y x)) ∙ h)
  where
    turned : (o : Ordering) → is_lt (ordering_reverse o) ≡ true → is_eq o ≡ false
    turned Less h = refl
    turned Equal h = absurd cc
    turned Greater h = refl

-- of terms in order the two aren't one
pub before-differs : (a b : Term) → is_term_before a b ≡ true → is_same_term a b ≡ false
before-differs (Word x) (Word y) h = lt-differs x y h
before-differs (Word x) (Prefix y) h = refl
before-differs (Prefix x) (Word y) h = refl
before-differs (Prefix x) (Prefix y) h = lt-differs x y h

pub behind-differs : (a b : Term) → is_term_before b a ≡ true → is_same_term a b ≡ false
behind-differs (Word x) (Word y) h = gt-differs x y h
behind-differs (Word x) (Prefix y) h = refl
behind-differs (Prefix x) (Word y) h = refl
behind-differs (Prefix x) (Prefix y) h = gt-differs x y h

pub never-both : (a b : Term) → is_term_before a b ≡ true → is_term_before b a ≡ false
never-both a b before = of (is_term_before b a) refl
  where
    of : (c : Bool) → is_term_before b a ≡ c → c ≡ false
    of false is = refl
    of true is = sym (term-trans a b a before is) ∙ term-irreflexive a
