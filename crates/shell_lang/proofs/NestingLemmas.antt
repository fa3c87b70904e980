-- How deep the terms of a query are in its text: no spelling of the query has them less deep.
use Rattle.std.proofs.Common.{◌≡◌, ℕ, ◌+◌, ◌≤◌, Bool, true, false, List, refl, ap, ◌∙◌, arith}
use Rattle.std.specs.Prelude.{max}
use Rattle.hac_model.specs.Query.Formula.{Formula}
use Rattle.hac_model.specs.Query.Formula as formula
use Rattle.hac_model.specs.Query.Grammar.{Dir, Prefix, Rule, Tree, Word, and, and_rule, group, leaf, meaning, negation, not_rule, of_and, of_not, of_prim, or, prim, query}
use Rattle.hac_model.specs.Query.QueryText.{is_joined, is_or}
use Rattle.hac_model.specs.declared.terms.Term.TheVariants as term
use Rattle.query_text.proofs.PrintLemmas.{trees}
use Rattle.query_text.proofs.LeastLemmas.{or_joined, pair_one}

abbrev pub pair : Bool → ℕ
pair true = 1
pair false = 0

-- the most parentheses and `NOT`s round any one term in the text of a query
abbrev pub text_nesting : Formula (List ℕ) → ℕ
text_nesting (formula.Term asked) = 0
text_nesting (formula.Dir path) = 0
text_nesting (formula.Not q) = (text_nesting q + pair (is_joined q)) + 1
text_nesting (formula.And left right) = max (text_nesting left + pair (is_or left)) (text_nesting right + pair (is_joined right))
text_nesting (formula.Or left right) = max (text_nesting left) (text_nesting right + pair (is_or right))

pub record Nests (q : Formula (List ℕ)) : Type 0 where
  pub whole : (meaning (trees q).whole).nesting ≡ text_nesting q
  pub joining : (meaning (trees q).joining).nesting ≡ text_nesting q + pair (is_or q)
  pub negated : (meaning (trees q).negated).nesting ≡ text_nesting q + pair (is_joined q)

pub nests : (q : Formula (List ℕ)) → Nests q
nests (formula.Term (term.Word letters)) = record { whole = refl; joining = refl; negated = refl }
nests (formula.Term (term.Prefix letters)) = record { whole = refl; joining = refl; negated = refl }
nests (formula.Dir path) = record { whole = refl; joining = refl; negated = refl }
nests (formula.Not q) =
    let e : (meaning (trees q).negated).nesting + 1 ≡ text_nesting (formula.Not q) = ap (λ (n : ℕ). n + 1) (nests q).negated in
    record { whole = e; joining = omega (arith, e); negated = omega (arith, e) }
nests (formula.And l r) =
    let e : max (meaning (trees l).joining).nesting (meaning (trees r).negated).nesting ≡ text_nesting (formula.And l r) =
    ap (λ (n : ℕ). max n (meaning (trees r).negated).nesting) (nests l).joining ∙ ap (λ (n : ℕ). max (text_nesting l + pair (is_or l)) n) (nests r).negated in
    record { whole = e; joining = omega (arith, e); negated = ap (λ (n : ℕ). n + 1) e }
nests (formula.Or l r) =
    let e : max (meaning (trees l).whole).nesting (meaning (trees r).joining).nesting ≡ text_nesting (formula.Or l r) =
    ap (λ (n : ℕ). max n (meaning (trees r).joining).nesting) (nests l).whole ∙ ap (λ (n : ℕ). max (text_nesting l) n) (nests r).joining in
    record { whole = e; joining = ap (λ (n : ℕ). n + 1) e; negated = ap (λ (n : ℕ). n + 1) e }

abbrev pub Deep : (rule : Rule) → Tree rule → Type 0
Deep query t = text_nesting (meaning t).query ≤ (meaning t).nesting
Deep and_rule t = text_nesting (meaning t).query + pair (is_or (meaning t).query) ≤ (meaning t).nesting
Deep not_rule t = text_nesting (meaning t).query + pair (is_joined (meaning t).query) ≤ (meaning t).nesting
Deep prim t = text_nesting (meaning t).query + pair (is_joined (meaning t).query) ≤ (meaning t).nesting

pub deep : {rule : Rule} (t : Tree rule) → Deep rule t
deep (of_and t) = let h : text_nesting (meaning t).query + pair (is_or (meaning t).query) ≤ (meaning t).nesting = deep t in omega (arith, h)
deep (or t u) =
    let h : text_nesting (meaning t).query ≤ (meaning t).nesting = deep t in
    let k : text_nesting (meaning u).query + pair (is_or (meaning u).query) ≤ (meaning u).nesting = deep u in
    omega (arith, h, k)
deep (of_not t) =
    let h : text_nesting (meaning t).query + pair (is_joined (meaning t).query) ≤ (meaning t).nesting = deep t in
    omega (arith, h, or_joined (meaning t).query)
deep (and t u) =
    let h : text_nesting (meaning t).query + pair (is_or (meaning t).query) ≤ (meaning t).nesting = deep t in
    let k : text_nesting (meaning u).query + pair (is_joined (meaning u).query) ≤ (meaning u).nesting = deep u in
    omega (arith, h, k)
deep (of_prim t) = deep t
deep (negation t) = let h : text_nesting (meaning t).query + pair (is_joined (meaning t).query) ≤ (meaning t).nesting = deep t in omega (arith, h)
deep (group t) =
    let h : text_nesting (meaning t).query ≤ (meaning t).nesting = deep t in
    omega (arith, h, pair_one (is_joined (meaning t).query))
deep (leaf (Word letters)) = omega arith
deep (leaf (Prefix letters)) = omega arith
deep (leaf (Dir path)) = omega arith
