-- The text of a query spells a tree of it, with the fewest parentheses.
use Rattle.std.proofs.Common.{◌≡◌, ℕ, zero, suc, Bool, true, false, List, [], ◌∷◌, ◌++◌, refl, ap, sym, subst, ◌∙◌, arith, append_assoc, append-nil}
use Rattle.std.specs.Prelude.{◌||◌, not, codes}
use Rattle.std.specs.Char.{to_ascii_lowercase, is_ascii_uppercase}
use Rattle.std.specs.List.{list_all}
use Rattle.std.specs.Str.{bytes_eq}
use Rattle.std.proofs.lemmas.Bool.{and_parts, not-true}
use Rattle.std.proofs.lemmas.Bool.Decides.{nat_tests}
use Rattle.std.proofs.lemmas.Slice.Eq.{bytes_eq-Decides}
use Rattle.hac_model.specs.Query.Formula.{Formula}
use Rattle.hac_model.specs.Query.Formula as formula
use Rattle.hac_model.specs.Query.Grammar.{query, and_rule, not_rule, Tree, of_and, or, of_not, and, of_prim, negation, group, leaf, Token, Open, Close, And, Or, Not, Of, Leaf, Word, Prefix, Dir, tokens, meaning, Spells, SpellAll, EndsRun, EndsToken, IsRun, AllWordBytes, escaped, Reads}
use Rattle.hac_model.specs.Query.Queries.{are_terms, is_operator}
use Rattle.hac_model.specs.Query.QueryText.{is_or, is_joined, around, query_text}
use Rattle.hac_model.specs.Query.Words.{has_bytes, is_word, is_word_byte, is_lower_word_byte, lower_case}
use Rattle.hac_model.specs.declared.reading.Part.{Part}
use Rattle.hac_model.specs.declared.terms.Term.TheVariants as term
use Rattle.query_text.specs.Laws.{ArePaths}

-- Words in lower case.

record IsLower (b : ℕ) : Type 0 where
  word : is_word_byte b ≡ true
  small : is_ascii_uppercase b ≡ false

lower_byte : (b : ℕ) → is_lower_word_byte b ≡ true → IsLower b
unfolding is_lower_word_byte
lower_byte b h =
    let both = and_parts (is_word_byte b) (not (is_ascii_uppercase b)) h in
    record { word = both.0; small = not-true (is_ascii_uppercase b) both.1 }

lower_stays : (b : ℕ) → is_ascii_uppercase b ≡ false → b ≡ to_ascii_lowercase b
lower_stays b h = grind (arith, nat_tests)

all_lower : (bytes : List ℕ) → list_all is_lower_word_byte bytes ≡ true → AllWordBytes bytes × (bytes ≡ lower_case bytes)
all_lower [] h = (tt, refl)
all_lower (b ∷ bytes) h =
    let both = and_parts (is_lower_word_byte b) (list_all is_lower_word_byte bytes) h in
    let first = lower_byte b both.0 in
    let rest = all_lower bytes both.1 in
    ((first.word, rest.0), ap (λ (x : ℕ). x ∷ bytes) (lower_stays b first.small) ∙ ap (λ (x : List ℕ). to_ascii_lowercase b ∷ x) rest.1)

word_runs : (letters : List ℕ) → is_word letters ≡ true → IsRun letters × (letters ≡ lower_case letters)
unfolding is_word
word_runs [] h = cc
word_runs (b ∷ bytes) h = let all = all_lower (b ∷ bytes) (and_parts (has_bytes (b ∷ bytes)) (list_all is_lower_word_byte (b ∷ bytes)) h).1 in (all.0, all.1)

and_word : is_word (codes "AND") ≡ false
unfolding is_word is_lower_word_byte is_word_byte
and_word = refl

or_word : is_word (codes "OR") ≡ false
unfolding is_word is_lower_word_byte is_word_byte
or_word = refl

not_word : is_word (codes "NOT") ≡ false
unfolding is_word is_lower_word_byte is_word_byte
not_word = refl

differs : (letters other : List ℕ) → is_word letters ≡ true → is_word other ≡ false → bytes_eq letters other ≡ false
differs letters other word none = test (bytes_eq letters other) refl
  where
    test : (t : Bool) → bytes_eq letters other ≡ t → bytes_eq letters other ≡ false
    test false e = e
    test true e = let h : is_word letters ≡ false = ap is_word ((bytes_eq-Decides letters other).0 e) ∙ none in cc

none_of : (a b c : Bool) → a ≡ false → b ≡ false → c ≡ false → (a || b || c) ≡ false
none_of a b c e f g = cc

word_operator : (letters : List ℕ) → is_word letters ≡ true → is_operator letters ≡ false
word_operator letters word =
    none_of (bytes_eq letters (codes "AND")) (bytes_eq letters (codes "OR")) (bytes_eq letters (codes "NOT"))
    (differs letters (codes "AND") word and_word) (differs letters (codes "OR") word or_word) (differs letters (codes "NOT") word not_word)

-- The trees of a query: as a query, as an operand of `AND`, and as one of `NOT`.

pub record Trees : Type 0 where
  pub whole : Tree query
  pub joining : Tree and_rule
  pub negated : Tree not_rule

abbrev pub trees : Formula (List ℕ) → Trees
trees (formula.Term (term.Word letters)) = record { whole = of_and (of_not (of_prim (leaf (Word letters)))); joining = of_not (of_prim (leaf (Word letters))); negated = of_prim (leaf (Word letters)) }
trees (formula.Term (term.Prefix letters)) = record { whole = of_and (of_not (of_prim (leaf (Prefix letters)))); joining = of_not (of_prim (leaf (Prefix letters))); negated = of_prim (leaf (Prefix letters)) }
trees (formula.Dir path) = record { whole = of_and (of_not (of_prim (leaf (Dir path)))); joining = of_not (of_prim (leaf (Dir path))); negated = of_prim (leaf (Dir path)) }
trees (formula.Not q) =
    let n = negation (trees q).negated in
    record { whole = of_and (of_not n); joining = of_not n; negated = n }
trees (formula.And l r) =
    let a = and (trees l).joining (trees r).negated in
    record { whole = of_and a; joining = a; negated = of_prim (group (of_and a)) }
trees (formula.Or l r) =
    let o = or (trees l).whole (trees r).joining in
    record { whole = o; joining = of_not (of_prim (group o)); negated = of_prim (group o) }

record Means (q : Formula (List ℕ)) : Type 0 where
  whole : (meaning (trees q).whole).query ≡ q
  joining : (meaning (trees q).joining).query ≡ q
  negated : (meaning (trees q).negated).query ≡ q

means : (q : Formula (List ℕ)) → Means q
means (formula.Term (term.Word letters)) = record { whole = refl; joining = refl; negated = refl }
means (formula.Term (term.Prefix letters)) = record { whole = refl; joining = refl; negated = refl }
means (formula.Dir path) = record { whole = refl; joining = refl; negated = refl }
means (formula.Not q) =
    let e = ap (λ (x : Formula (List ℕ)). formula.Not x) (means q).negated in
    record { whole = e; joining = e; negated = e }
means (formula.And l r) =
    let e = ap (λ (x : Formula (List ℕ)). formula.And x (meaning (trees r).negated).query) (means l).joining ∙ ap (λ (x : Formula (List ℕ)). formula.And l x) (means r).negated in
    record { whole = e; joining = e; negated = e }
means (formula.Or l r) =
    let e = ap (λ (x : Formula (List ℕ)). formula.Or x (meaning (trees r).joining).query) (means l).whole ∙ ap (λ (x : Formula (List ℕ)). formula.Or l x) (means r).joining in
    record { whole = e; joining = e; negated = e }

-- The text spells them.

-- the bytes spell the tokens, whatever tokens follow where a run may end
abbrev Prints : List Token → List ℕ → Type 0
Prints ts bytes = (more : List Token) (rest : List ℕ) → SpellAll more rest → EndsRun rest → SpellAll (ts ++ more) (bytes ++ rest)

space_more : (ts : List Token) (bytes : List ℕ) → SpellAll ts bytes → SpellAll ts (32 ∷ bytes)
space_more [] bytes (n, is) = (suc n, ap (λ (x : List ℕ). 32 ∷ x) is)
space_more (t ∷ ts) bytes (n, body, rest, spells, ends, all, is) = (suc n, body, rest, spells, ends, all, ap (λ (x : List ℕ). 32 ∷ x) is)

space_ends : (bytes : List ℕ) → EndsRun (32 ∷ bytes)
unfolding is_word_byte
space_ends bytes = (refl, refl)

close_ends : (bytes : List ℕ) → EndsRun (41 ∷ bytes)
unfolding is_word_byte
close_ends bytes = (refl, refl)

respelled : (ts us : List Token) (xs ys : List ℕ) → ts ≡ us → xs ≡ ys → SpellAll us ys → SpellAll ts xs
respelled ts us xs ys e f all = subst (λ (u : List Token). SpellAll u xs) (sym e) (subst (λ (x : List ℕ). SpellAll us x) (sym f) all)

print_leaf : (l : Leaf) (bytes : List ℕ) → Spells (Of l) bytes → ((rest : List ℕ) → EndsRun rest → EndsToken (Of l) rest) → Prints (Of l ∷ []) bytes
print_leaf l bytes spells may more rest all ends = (zero, bytes, rest, spells, may rest ends, all, refl)

print_group : (ts : List Token) (bytes : List ℕ) → Prints ts bytes → Prints (Open ∷ (ts ++ (Close ∷ []))) (40 ∷ (bytes ++ (41 ∷ [])))
print_group ts bytes prints more rest all ends = (
  zero,
  40 ∷ [],
  (bytes ++ (41 ∷ [])) ++ rest,
  refl,
  tt,
  respelled ((ts ++ (Close ∷ [])) ++ more) (ts ++ (Close ∷ more)) ((bytes ++ (41 ∷ [])) ++ rest) (bytes ++ (41 ∷ rest)) (append_assoc ts (Close ∷ []) more) (append_assoc bytes (41 ∷ []) rest)
      (prints (Close ∷ more) (41 ∷ rest) (zero, 41 ∷ [], rest, refl, tt, all, refl) (close_ends rest)),
  refl,
)

print_not : (ts : List Token) (bytes : List ℕ) → Prints ts bytes → Prints (Not ∷ ts) (codes "NOT " ++ bytes)
print_not ts bytes prints more rest all ends =
    (zero, codes "NOT", 32 ∷ (bytes ++ rest), refl, space_ends (bytes ++ rest), space_more (ts ++ more) (bytes ++ rest) (prints more rest all ends), refl)

print_two : (t : Token) (sign : List ℕ) (ts us : List Token) (bytes other : List ℕ) → Spells t sign → ((rest : List ℕ) → EndsRun rest → EndsToken t rest)
    → Prints ts bytes → Prints us other → Prints (ts ++ (t ∷ us)) (bytes ++ ((32 ∷ (sign ++ (32 ∷ []))) ++ other))
print_two t sign ts us bytes other spells may first second more rest all ends =
    respelled ((ts ++ (t ∷ us)) ++ more) (ts ++ (t ∷ (us ++ more))) ((bytes ++ ((32 ∷ (sign ++ (32 ∷ []))) ++ other)) ++ rest) (bytes ++ (32 ∷ (sign ++ (32 ∷ (other ++ rest)))))
    (append_assoc ts (t ∷ us) more) (moved bytes sign other rest)
    (first (t ∷ (us ++ more)) (32 ∷ (sign ++ (32 ∷ (other ++ rest))))
    (suc zero, sign, 32 ∷ (other ++ rest), spells, may (32 ∷ (other ++ rest)) (space_ends (other ++ rest)), space_more (us ++ more) (other ++ rest) (second more rest all ends), refl)
    (space_ends (sign ++ (32 ∷ (other ++ rest)))))
  where
    moved : (a b c d : List ℕ) → (a ++ ((32 ∷ (b ++ (32 ∷ []))) ++ c)) ++ d ≡ a ++ (32 ∷ (b ++ (32 ∷ (c ++ d))))
    moved a b c d = simp append_assoc

record Printed (q : Formula (List ℕ)) : Type 0 where
  whole : Prints (tokens (trees q).whole) (query_text q)
  joining : Prints (tokens (trees q).joining) (around (is_or q) (query_text q))
  negated : Prints (tokens (trees q).negated) (around (is_joined q) (query_text q))

alike : (q : Formula (List ℕ)) (ts : List Token) → Prints ts (query_text q) → (tokens (trees q).whole ≡ ts) → (tokens (trees q).joining ≡ ts) → (tokens (trees q).negated ≡ ts)
    → is_or q ≡ false → is_joined q ≡ false → Printed q
alike q ts prints a b c e f = record {
  whole = subst (λ (x : List Token). Prints x (query_text q)) (sym a) prints;
  joining = subst (λ (t : Bool). Prints (tokens (trees q).joining) (around t (query_text q))) (sym e) (subst (λ (x : List Token). Prints x (query_text q)) (sym b) prints);
  negated = subst (λ (t : Bool). Prints (tokens (trees q).negated) (around t (query_text q))) (sym f) (subst (λ (x : List Token). Prints x (query_text q)) (sym c) prints);
}

printed : (q : Formula (List ℕ)) → are_terms q ≡ true → ArePaths q → Printed q
printed (formula.Term (term.Word letters)) word paths =
    let runs = word_runs letters word in
    alike (formula.Term (term.Word letters)) (Of (Word letters) ∷ [])
    (print_leaf (Word letters) letters (runs.0, word_operator letters word, runs.1) (λ rest ends. ends)) refl refl refl refl refl
printed (formula.Term (term.Prefix letters)) word paths =
    let runs = word_runs letters word in
    alike (formula.Term (term.Prefix letters)) (Of (Prefix letters) ∷ [])
    (print_leaf (Prefix letters) (letters ++ codes "*") (letters, runs.0, runs.1, refl) (λ rest ends. tt)) refl refl refl refl refl
printed (formula.Dir path) word paths =
    alike (formula.Dir path) (Of (Dir path) ∷ []) (print_leaf (Dir path) (codes "{" ++ (escaped path ++ codes "}")) (paths, refl) (λ rest ends. tt)) refl refl refl refl refl
printed (formula.Not q) word paths =
    alike (formula.Not q) (tokens (negation (trees q).negated))
    (print_not (tokens (trees q).negated) (around (is_joined q) (query_text q)) (printed q word paths).negated) refl refl refl refl refl
printed (formula.And l r) word paths =
    let words = and_parts (are_terms l) (are_terms r) word in
    let two = print_two And (codes "AND") (tokens (trees l).joining) (tokens (trees r).negated) (around (is_or l) (query_text l)) (around (is_joined r) (query_text r)) refl (λ rest ends. ends)
    (printed l words.0 paths.0).joining (printed r words.1 paths.1).negated in
    record { whole = two; joining = two; negated = print_group (tokens (trees (formula.And l r)).whole) (query_text (formula.And l r)) two }
printed (formula.Or l r) word paths =
    let words = and_parts (are_terms l) (are_terms r) word in
    let two = print_two Or (codes "OR") (tokens (trees l).whole) (tokens (trees r).joining) (query_text l) (around (is_or r) (query_text r)) refl (λ rest ends. ends)
    (printed l words.0 paths.0).whole (printed r words.1 paths.1).joining in
    let grouped = print_group (tokens (trees (formula.Or l r)).whole) (query_text (formula.Or l r)) two in
    record { whole = two; joining = grouped; negated = grouped }

pub text_spells : (q : Formula (List ℕ)) → are_terms q ≡ true → ArePaths q → SpellAll (tokens (trees q).whole) (query_text q)
text_spells q word paths =
    respelled (tokens (trees q).whole) (tokens (trees q).whole ++ []) (query_text q) (query_text q ++ []) (sym (append-nil (tokens (trees q).whole))) (sym (append-nil (query_text q)))
    ((printed q word paths).whole [] [] (zero, refl) tt)

pub text_means : (q : Formula (List ℕ)) → (meaning (trees q).whole).query ≡ q
text_means q = (means q).whole

pub text_read : (q : Formula (List ℕ)) → are_terms q ≡ true → ArePaths q → (part : Part) × Reads (query_text q) part × (part.query ≡ q)
text_read q word paths = (meaning (trees q).whole, ((trees q).whole, text_spells q word paths, refl), text_means q)
