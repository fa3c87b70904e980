-- How queries are spelled: each `AND`, `OR` and `NOT` in front of what it joins.
use Rattle.std.specs.Prelude.{ℕ, zero, suc, Bool, true, false, ◌-◌, ◌==◌, ◌&&◌, if◌then◌else◌, nat_le, List, [], ◌∷◌, ◌++◌, length, Option, Some, None, Result, Ok, Err}
use Rattle.std.specs.Int.{w16}
use Rattle.std.specs.Option.{ok_or}
use Rattle.hac_model.specs.Run.Answers.{◌>>=◌}
use Rattle.hac_model.specs.Payload.Fields.{Field, Part, Way, num, run, nothing, part, way, whole_way, choice}
use Rattle.hac_model.specs.Query.Formula.{Formula}
use Rattle.hac_model.specs.Query.Formula as query
use Rattle.hac_model.specs.Query.Queries.{all_leaves, is_query, term_size}
use Rattle.hac_model.specs.Query.Words.{is_word}
use Rattle.hac_model.specs.declared.limits.TheConstants.{NESTING_LIMIT, QUERY_LIMIT, TERMS_LIMIT}
use Rattle.hac_model.specs.declared.terms.Term as asked
use Rattle.hac_model.specs.declared.terms.Term.TheVariants.{Word, Prefix}
use Rattle.hac_model.specs.declared.versions.Version.{Version}

-- the letters of a term
abbrev pub word_field : Field (List ℕ)
word_field = run w16 QUERY_LIMIT is_word

-- a part of a query without what it joins
pub data Token : Type 0 where
  Term : asked.Term → Token
  Dir : ℕ → Token
  Not : Token
  And : Token
  Or : Token

abbrev pub token_part : Version → Token → Part
token_part version (Term (Word letters)) = part 1 word_field letters
token_part version (Term (Prefix letters)) = part 2 word_field letters
token_part version (Dir dir) = part 3 (num version) dir
token_part version Not = part 4 nothing tt
token_part version And = part 5 nothing tt
token_part version Or = part 6 nothing tt

-- a term fails as one with its kind byte
abbrev pub token_ways : Version → List (Way Token)
token_ways version =
    whole_way 1 word_field (λ letters. Term (Word letters))
    ∷ whole_way 2 word_field (λ letters. Term (Prefix letters))
    ∷ way 3 (num version) (λ dir. Dir dir)
    ∷ way 4 nothing (λ x. Not)
    ∷ way 5 nothing (λ x. And)
    ∷ way 6 nothing (λ x. Or)
    ∷ []

abbrev pub token_field : Version → Field Token
token_field version = choice (token_part version) (token_ways version)

-- the bytes of a query
abbrev pub query_bytes : Version → Formula ℕ → List ℕ
query_bytes version (query.Term term) = (token_field version).text (Term term)
query_bytes version (query.Dir dir) = (token_field version).text (Dir dir)
query_bytes version (query.Not q) = (token_field version).text Not ++ query_bytes version q
query_bytes version (query.And left right) = (token_field version).text And ++ (query_bytes version left ++ query_bytes version right)
query_bytes version (query.Or left right) = (token_field version).text Or ++ (query_bytes version left ++ query_bytes version right)

-- ---- how a query is read

-- what may still come: for each query that is still wanted how many `NOT`s it may have, and for all of them how many
-- terms and how many bytes of letters
pub record Room : Type 0 where
  pub wanted : List ℕ
  pub terms : ℕ
  pub letters : ℕ

-- what may come behind a part, where it may come itself
abbrev pub room_after : ℕ → List ℕ → ℕ → ℕ → Token → Option Room
room_after nots wanted terms letters (Term term) =
    if nat_le 1 terms && nat_le (term_size term) letters then Some (record { wanted = wanted; terms = terms - 1; letters = letters - term_size term }) else None
room_after nots wanted terms letters (Dir dir) = if nat_le 1 terms then Some (record { wanted = wanted; terms = terms - 1; letters = letters }) else None
room_after nots wanted terms letters Not = if nat_le 1 nots then Some (record { wanted = (nots - 1) ∷ wanted; terms = terms; letters = letters }) else None
room_after nots wanted terms letters And = Some (record { wanted = nots ∷ nots ∷ wanted; terms = terms; letters = letters })
room_after nots wanted terms letters Or = Some (record { wanted = nots ∷ nots ∷ wanted; terms = terms; letters = letters })

-- a directory comes where no term may: it fails before its number is read
abbrev pub is_barred : ℕ → List ℕ → Bool
is_barred terms [] = false
is_barred terms (kind ∷ bytes) = kind == 3 && terms == 0

-- the part at the front, unless it is barred
abbrev pub token_at : Version → ℕ → List ℕ → Result (Token × List ℕ) ℕ
token_at version terms bytes = if is_barred terms bytes then Err (length bytes) else (token_field version).read bytes

-- the parts of the queries that are wanted, at most this many parts. One that is too many fails where it begins.
unfoldable pub tokens_at : Version → ℕ → List ℕ → ℕ → ℕ → List ℕ → Result (List Token × List ℕ) ℕ
tokens_at version k [] terms letters bytes = Ok ([], bytes)
tokens_at version zero (nots ∷ wanted) terms letters bytes = Err 0
tokens_at version (suc k) (nots ∷ wanted) terms letters bytes =
    token_at version terms bytes >>= λ first.
    ok_or (room_after nots wanted terms letters first.0) (length bytes) >>= λ room.
    tokens_at version k room.wanted room.terms room.letters first.1 >>= λ others.
    Ok (first.0 ∷ others.0, others.1)

-- the first two queries two_joined
abbrev pub two_joined : (Formula ℕ → Formula ℕ → Formula ℕ) → List (Formula ℕ) → List (Formula ℕ)
two_joined join (left ∷ right ∷ queries) = join left right ∷ queries
two_joined join queries = []

-- a part put in front of queries: it takes those that it joins
abbrev pub put : Token → List (Formula ℕ) → List (Formula ℕ)
put (Term term) queries = query.Term term ∷ queries
put (Dir dir) queries = query.Dir dir ∷ queries
put Not [] = []
put Not (q ∷ queries) = query.Not q ∷ queries
put And queries = two_joined query.And queries
put Or queries = two_joined query.Or queries

-- the queries that parts make in front of others
unfoldable pub built : List Token → List (Formula ℕ) → List (Formula ℕ)
built [] queries = queries
built (token ∷ tokens) queries = put token (built tokens queries)

-- the first query that was built
abbrev pub first_built : List (Formula ℕ) → List ℕ → Result (Formula ℕ × List ℕ) ℕ
first_built [] bytes = Err (length bytes)
first_built (q ∷ queries) bytes = Ok (q, bytes)

-- one query, which holds no more than a query may
unfoldable pub query_read : Version → List ℕ → Result (Formula ℕ × List ℕ) ℕ
query_read version bytes = tokens_at version (length bytes) (NESTING_LIMIT ∷ []) TERMS_LIMIT QUERY_LIMIT bytes >>= λ tokens. first_built (built tokens.0 []) tokens.1

-- the directories of a query are numbers that have bytes
abbrev pub are_nums : Version → Formula ℕ → Bool
are_nums version q = all_leaves (λ term. true) (λ dir. (num version).fits dir) q

-- the query holds no more than a query may, and its numbers have bytes
abbrev pub query_fits : Version → Formula ℕ → Bool
query_fits version q = is_query q && are_nums version q

-- a query
abbrev pub query_field : Version → Field (Formula ℕ)
query_field version = record { fits = λ q. query_fits version q; text = λ q. query_bytes version q; read = λ bytes. query_read version bytes }
