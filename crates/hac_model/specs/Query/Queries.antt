-- Queries: what they say of an item, what they name, and how much one may hold.
use Rattle.std.specs.Prelude.{ℕ, Bool, true, ◌+◌, ◌&&◌, ◌||◌, not, nat_le, max, List, [], ◌∷◌, ◌++◌, length, codes}
use Rattle.std.specs.Str.{bytes_eq}
use Rattle.hac_model.specs.Query.Terms.{letters_in}
use Rattle.hac_model.specs.Query.Words.{is_word}
use Rattle.hac_model.specs.Query.Formula.{Formula}
use Rattle.hac_model.specs.Query.Formula as query
use Rattle.hac_model.specs.declared.limits.TheConstants.{QUERY_LIMIT, TERMS_LIMIT, NESTING_LIMIT}
use Rattle.hac_model.specs.declared.terms.Term.{Term}

-- the bytes join queries, and are no word of one
abbrev pub is_operator : List ℕ → Bool
is_operator run = bytes_eq run (codes "AND") || bytes_eq run (codes "OR") || bytes_eq run (codes "NOT")

-- ---- walks over a query, whose leaves are its terms and its directories

-- each leaf passes the test of its kind
abbrev pub all_leaves : {D : Type 0} → (Term → Bool) → (D → Bool) → Formula D → Bool
all_leaves is_good is_there (query.Term term) = is_good term
all_leaves is_good is_there (query.Dir dir) = is_there dir
all_leaves is_good is_there (query.Not query) = all_leaves is_good is_there query
all_leaves is_good is_there (query.And left right) = all_leaves is_good is_there left && all_leaves is_good is_there right
all_leaves is_good is_there (query.Or left right) = all_leaves is_good is_there left && all_leaves is_good is_there right

-- the sum of what each leaf counts for
abbrev pub sum_leaves : {D : Type 0} → (Term → ℕ) → (D → ℕ) → Formula D → ℕ
sum_leaves of_term of_dir (query.Term term) = of_term term
sum_leaves of_term of_dir (query.Dir dir) = of_dir dir
sum_leaves of_term of_dir (query.Not query) = sum_leaves of_term of_dir query
sum_leaves of_term of_dir (query.And left right) = sum_leaves of_term of_dir left + sum_leaves of_term of_dir right
sum_leaves of_term of_dir (query.Or left right) = sum_leaves of_term of_dir left + sum_leaves of_term of_dir right

-- how many words and beginnings of words a query has
abbrev pub terms : {D : Type 0} → Formula D → ℕ
terms query = sum_leaves (λ term. 1) (λ dir. 0) query

-- the directories that a query names, in its order
abbrev pub named_in : {D : Type 0} → Formula D → List D
named_in (query.Term term) = []
named_in (query.Dir dir) = dir ∷ []
named_in (query.Not query) = named_in query
named_in (query.And left right) = named_in left ++ named_in right
named_in (query.Or left right) = named_in left ++ named_in right

-- the words and beginnings of words that a query asks for, in its order
abbrev pub terms_of : {D : Type 0} → Formula D → List Term
terms_of (query.Term term) = term ∷ []
terms_of (query.Dir dir) = []
terms_of (query.Not query) = terms_of query
terms_of (query.And left right) = terms_of left ++ terms_of right
terms_of (query.Or left right) = terms_of left ++ terms_of right

-- the item satisfies the query, given which items have a term and which a directory provides
abbrev pub query_meaning : (Term → ℕ → Bool) → (ℕ → ℕ → Bool) → Formula ℕ → ℕ → Bool
query_meaning has provides (query.Term term) item = has term item
query_meaning has provides (query.Dir dir) item = provides dir item
query_meaning has provides (query.Not query) item = not (query_meaning has provides query item)
query_meaning has provides (query.And left right) item = query_meaning has provides left item && query_meaning has provides right item
query_meaning has provides (query.Or left right) item = query_meaning has provides left item || query_meaning has provides right item

-- ---- how much a query may hold

-- the letters are those of a word as texts have them
abbrev pub is_term : Term → Bool
is_term term = is_word (letters_in term)

-- the words and beginnings of words of a query are as texts have them
abbrev pub are_terms : {D : Type 0} → Formula D → Bool
are_terms query = all_leaves is_term (λ dir. true) query

-- how many terms a query has: words, beginnings of words, and directories
abbrev pub term_count : {D : Type 0} → Formula D → ℕ
term_count query = sum_leaves (λ term. 1) (λ dir. 1) query

-- how many bytes the letters of a term are
abbrev pub term_size : Term → ℕ
term_size term = length (letters_in term)

-- a query can hold the term
abbrev pub is_askable : Term → Bool
is_askable term = is_term term && nat_le (term_size term) QUERY_LIMIT

-- how many bytes the letters of a query's terms are, all together
abbrev pub letter_count : {D : Type 0} → Formula D → ℕ
letter_count query = sum_leaves term_size (λ dir. 0) query

-- the most `NOT`s on any way down to a term
abbrev pub not_count : {D : Type 0} → Formula D → ℕ
not_count (query.Term term) = 0
not_count (query.Dir dir) = 0
not_count (query.Not query) = not_count query + 1
not_count (query.And left right) = max (not_count left) (not_count right)
not_count (query.Or left right) = max (not_count left) (not_count right)

-- the query holds no more than a query may
abbrev pub is_query : {D : Type 0} → Formula D → Bool
is_query query =
    are_terms query && nat_le (term_count query) TERMS_LIMIT && nat_le (letter_count query) QUERY_LIMIT && nat_le (not_count query) NESTING_LIMIT
