-- No tree of a query has fewer parentheses than its text.
use Rattle.std.proofs.Common.{◌≡◌, ℕ, ◌+◌, ◌≤◌, Bool, true, false, List, [], ◌∷◌, ◌++◌, refl, ap, arith}
use Rattle.hac_model.specs.Query.Formula.{Formula}
use Rattle.hac_model.specs.Query.Formula as formula
use Rattle.hac_model.specs.Query.Grammar.{Rule, query, and_rule, not_rule, prim, Tree, of_and, or, of_not, and, of_prim, negation, group, leaf, Token, Open, Close, And, Or, Not, Of, Word, Prefix, Dir, tokens, meaning, SpellAll}
use Rattle.hac_model.specs.Query.Queries.{are_terms}
use Rattle.hac_model.specs.Query.QueryText.{is_or, is_joined, query_text}
use Rattle.hac_model.specs.declared.terms.Term.TheVariants as term
use Rattle.query_text.proofs.PrintLemmas.{trees, text_spells, text_means}
use Rattle.query_text.specs.Laws.{ArePaths, opened}

abbrev pair : Bool → ℕ
pair true = 1
pair false = 0

-- how many pairs of parentheses the text of a query has
abbrev pairs : Formula (List ℕ) → ℕ
pairs (formula.Term asked) = 0
pairs (formula.Dir path) = 0
pairs (formula.Not q) = pair (is_joined q) + pairs q
pairs (formula.And l r) = (pair (is_or l) + pairs l) + (pair (is_joined r) + pairs r)
pairs (formula.Or l r) = pairs l + (pair (is_or r) + pairs r)

opened-append : (ts us : List Token) → opened (ts ++ us) ≡ opened ts + opened us
opened-append [] us = omega arith
opened-append (Open ∷ ts) us = let h = opened-append ts us in omega (arith, h)
opened-append (Close ∷ ts) us = opened-append ts us
opened-append (And ∷ ts) us = opened-append ts us
opened-append (Or ∷ ts) us = opened-append ts us
opened-append (Not ∷ ts) us = opened-append ts us
opened-append (Of l ∷ ts) us = opened-append ts us

pub or_joined : (q : Formula (List ℕ)) → pair (is_or q) ≤ pair (is_joined q)
or_joined (formula.Term asked) = omega arith
or_joined (formula.Dir path) = omega arith
or_joined (formula.Not q) = omega arith
or_joined (formula.And l r) = omega arith
or_joined (formula.Or l r) = omega arith

pub pair_one : (b : Bool) → pair b ≤ 1
pair_one true = omega arith
pair_one false = omega arith

abbrev Least : (rule : Rule) → Tree rule → Type 0
Least query t = pairs (meaning t).query ≤ opened (tokens t)
Least and_rule t = pair (is_or (meaning t).query) + pairs (meaning t).query ≤ opened (tokens t)
Least not_rule t = pair (is_joined (meaning t).query) + pairs (meaning t).query ≤ opened (tokens t)
Least prim t = pair (is_joined (meaning t).query) + pairs (meaning t).query ≤ opened (tokens t)

least : {rule : Rule} (t : Tree rule) → Least rule t
least (of_and t) = let h : pair (is_or (meaning t).query) + pairs (meaning t).query ≤ opened (tokens t) = least t in omega (arith, h)
least (or t u) =
    let h : pairs (meaning t).query ≤ opened (tokens t) = least t in
    let k : pair (is_or (meaning u).query) + pairs (meaning u).query ≤ opened (tokens u) = least u in
    omega (arith, h, k, opened-append (tokens t) (Or ∷ tokens u))
least (of_not t) =
    let h : pair (is_joined (meaning t).query) + pairs (meaning t).query ≤ opened (tokens t) = least t in
    omega (arith, h, or_joined (meaning t).query)
least (and t u) =
    let h : pair (is_or (meaning t).query) + pairs (meaning t).query ≤ opened (tokens t) = least t in
    let k : pair (is_joined (meaning u).query) + pairs (meaning u).query ≤ opened (tokens u) = least u in
    omega (arith, h, k, opened-append (tokens t) (And ∷ tokens u))
least (of_prim t) = least t
least (negation t) = let h : pair (is_joined (meaning t).query) + pairs (meaning t).query ≤ opened (tokens t) = least t in omega (arith, h)
least (group t) =
    let h : pairs (meaning t).query ≤ opened (tokens t) = least t in
    omega (arith, h, opened-append (tokens t) (Close ∷ []), pair_one (is_joined (meaning t).query))
least (leaf (Word letters)) = omega arith
least (leaf (Prefix letters)) = omega arith
least (leaf (Dir path)) = omega arith

record Opens (q : Formula (List ℕ)) : Type 0 where
  whole : opened (tokens (trees q).whole) ≡ pairs q
  joining : opened (tokens (trees q).joining) ≡ pair (is_or q) + pairs q
  negated : opened (tokens (trees q).negated) ≡ pair (is_joined q) + pairs q

opens : (q : Formula (List ℕ)) → Opens q
opens (formula.Term (term.Word letters)) = record { whole = refl; joining = refl; negated = refl }
opens (formula.Term (term.Prefix letters)) = record { whole = refl; joining = refl; negated = refl }
opens (formula.Dir path) = record { whole = refl; joining = refl; negated = refl }
opens (formula.Not q) =
    let e : opened (tokens (trees q).negated) ≡ pair (is_joined q) + pairs q = (opens q).negated in
    record { whole = e; joining = omega (arith, e); negated = omega (arith, e) }
opens (formula.And l r) =
    let h : opened (tokens (trees l).joining) ≡ pair (is_or l) + pairs l = (opens l).joining in
    let k : opened (tokens (trees r).negated) ≡ pair (is_joined r) + pairs r = (opens r).negated in
    let two = tokens (trees (formula.And l r)).whole in
    let e : opened two ≡ pairs (formula.And l r) = omega (arith, h, k, opened-append (tokens (trees l).joining) (And ∷ tokens (trees r).negated)) in
    record { whole = e; joining = omega (arith, e); negated = omega (arith, e, opened-append two (Close ∷ [])) }
opens (formula.Or l r) =
    let h : opened (tokens (trees l).whole) ≡ pairs l = (opens l).whole in
    let k : opened (tokens (trees r).joining) ≡ pair (is_or r) + pairs r = (opens r).joining in
    let two = tokens (trees (formula.Or l r)).whole in
    let e : opened two ≡ pairs (formula.Or l r) = omega (arith, h, k, opened-append (tokens (trees l).whole) (Or ∷ tokens (trees r).joining)) in
    let f : opened (Open ∷ (two ++ (Close ∷ []))) ≡ 1 + pairs (formula.Or l r) = omega (arith, e, opened-append two (Close ∷ [])) in
    record { whole = e; joining = f; negated = f }

-- no tree of the query has fewer than that of its text
pub fewest : (q : Formula (List ℕ)) → are_terms q ≡ true → ArePaths q
    → (t : Tree query) × SpellAll (tokens t) (query_text q) × ((meaning t).query ≡ q) × ((other : Tree query) → (meaning other).query ≡ q → opened (tokens t) ≤ opened (tokens other))
fewest q word paths = (
  (trees q).whole,
  text_spells q word paths,
  text_means q,
  λ other e. let h : pairs (meaning other).query ≤ opened (tokens other) = least other in omega (arith, h, ap pairs e, (opens q).whole),
)
