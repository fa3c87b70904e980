-- The grammar of queries.
--
--     query = and { "OR" and }        and  = not { "AND" not }
--     not   = "NOT" not | prim        prim = "(" query ")" | word | word "*" | "{" path "}"
use Rattle.std.specs.Prelude.{◌≡◌, ⊤, ℕ, zero, suc, ◌+◌, ◌<◌, ◌≤◌, Bool, true, false, ◌==◌, ◌||◌, nat_lt, max, if◌then◌else◌, List, [], ◌∷◌, ◌++◌, length, take, codes}
use Rattle.hac_model.specs.Query.Formula.{Formula}
use Rattle.hac_model.specs.Query.Formula as formula
use Rattle.hac_model.specs.Query.Queries.{is_operator}
use Rattle.hac_model.specs.Query.Words.{is_word_byte, lower_case}
use Rattle.hac_model.specs.declared.reading.Part.{Part}
use Rattle.hac_model.specs.declared.terms.Term.TheVariants as term

-- the rules of the grammar
pub data Rule : Type 0 where
  query and_rule not_rule prim : Rule

-- where a branch ends: a word, the beginning of one, or a directory by the bytes of its path
pub data Leaf : Type 0 where
  Word Prefix Dir : List ℕ → Leaf

-- the ways in which each rule goes
pub data Tree : Rule → Type 0 where
  of_and : Tree and_rule → Tree query
  or : Tree query → Tree and_rule → Tree query
  of_not : Tree not_rule → Tree and_rule
  and : Tree and_rule → Tree not_rule → Tree and_rule
  of_prim : Tree prim → Tree not_rule
  negation : Tree not_rule → Tree not_rule
  group : Tree query → Tree prim
  leaf : Leaf → Tree prim

-- what spaces may separate
pub data Token : Type 0 where
  Open Close And Or Not : Token
  Of : Leaf → Token

-- the tokens of a tree in their order
abbrev pub tokens : {rule : Rule} → Tree rule → List Token
tokens (of_and t) = tokens t
tokens (or t u) = tokens t ++ (Or ∷ tokens u)
tokens (of_not t) = tokens t
tokens (and t u) = tokens t ++ (And ∷ tokens u)
tokens (of_prim t) = tokens t
tokens (negation t) = Not ∷ tokens t
tokens (group t) = Open ∷ (tokens t ++ (Close ∷ []))
tokens (leaf l) = Of l ∷ []

-- the query of a leaf alone
abbrev pub leaf_query : Leaf → Formula (List ℕ)
leaf_query (Word letters) = formula.Term (term.Word letters)
leaf_query (Prefix letters) = formula.Term (term.Prefix letters)
leaf_query (Dir path) = formula.Dir path

abbrev pub leaf_part : Leaf → Part
leaf_part l = record { query = leaf_query l; nesting = 0 }

abbrev pub not_part : Part → Part
not_part p = record { query = formula.Not p.query; nesting = p.nesting + 1 }

abbrev pub and_part : Part → Part → Part
and_part p q = record { query = formula.And p.query q.query; nesting = max p.nesting q.nesting }

abbrev pub or_part : Part → Part → Part
or_part p q = record { query = formula.Or p.query q.query; nesting = max p.nesting q.nesting }

-- a query in parentheses, which say the same
abbrev pub group_part : Part → Part
group_part p = record { query = p.query; nesting = p.nesting + 1 }

-- the query of a tree, and how deep its terms are in parentheses and `NOT`s
abbrev pub meaning : {rule : Rule} → Tree rule → Part
meaning (of_and t) = meaning t
meaning (or t u) = or_part (meaning t) (meaning u)
meaning (of_not t) = meaning t
meaning (and t u) = and_part (meaning t) (meaning u)
meaning (of_prim t) = meaning t
meaning (negation t) = not_part (meaning t)
meaning (group t) = group_part (meaning t)
meaning (leaf l) = leaf_part l

-- Bytes.

-- a byte that no path has
abbrev pub is_control : ℕ → Bool
is_control b = nat_lt b 32 || b == 127

abbrev pub AllWordBytes : List ℕ → Type 0
AllWordBytes [] = ⊤
AllWordBytes (b ∷ bytes) = (is_word_byte b ≡ true) × AllWordBytes bytes

-- the bytes are a run of word bytes
abbrev pub IsRun : List ℕ → Type 0
IsRun [] = ⊥
IsRun (b ∷ bytes) = (is_word_byte b ≡ true) × AllWordBytes bytes

abbrev pub AllPathBytes : List ℕ → Type 0
AllPathBytes [] = ⊤
AllPathBytes (b ∷ bytes) = (is_control b ≡ false) × AllPathBytes bytes

-- the bytes are a path word that begins at the root
abbrev pub IsPath : List ℕ → Type 0
IsPath [] = ⊥
IsPath (b ∷ bytes) = (b ≡ 47) × AllPathBytes bytes

-- a byte of a path between braces: `}` and `\` have a backslash before them
abbrev pub escape : ℕ → List ℕ
escape b = if b == 125 || b == 92 then 92 ∷ b ∷ [] else b ∷ []

abbrev pub escaped : List ℕ → List ℕ
escaped [] = []
escaped (b ∷ bytes) = escape b ++ escaped bytes

-- the bytes spell the token. A run in upper case that is `AND`, `OR` or `NOT` is that operator, and no word.
abbrev pub Spells : Token → List ℕ → Type 0
Spells Open bytes = bytes ≡ codes "("
Spells Close bytes = bytes ≡ codes ")"
Spells And bytes = bytes ≡ codes "AND"
Spells Or bytes = bytes ≡ codes "OR"
Spells Not bytes = bytes ≡ codes "NOT"
Spells (Of (Word letters)) bytes = IsRun bytes × (is_operator bytes ≡ false) × (letters ≡ lower_case bytes)
Spells (Of (Prefix letters)) bytes = (run : List ℕ) × IsRun run × (letters ≡ lower_case run) × (bytes ≡ run ++ codes "*")
Spells (Of (Dir path)) bytes = IsPath path × (bytes ≡ codes "{" ++ (escaped path ++ codes "}"))

-- a run may end before these bytes: they go on with neither a word byte nor `*`
abbrev pub EndsRun : List ℕ → Type 0
EndsRun [] = ⊤
EndsRun (b ∷ bytes) = (is_word_byte b ≡ false) × ((b == 42) ≡ false)

-- the token may end before these bytes
abbrev pub EndsToken : Token → List ℕ → Type 0
EndsToken Open rest = ⊤
EndsToken Close rest = ⊤
EndsToken And rest = EndsRun rest
EndsToken Or rest = EndsRun rest
EndsToken Not rest = EndsRun rest
EndsToken (Of (Word letters)) rest = EndsRun rest
EndsToken (Of (Prefix letters)) rest = ⊤
EndsToken (Of (Dir path)) rest = ⊤

-- this many spaces in front of bytes
abbrev pub spaced : ℕ → List ℕ → List ℕ
spaced zero bytes = bytes
spaced (suc n) bytes = 32 ∷ spaced n bytes

-- the bytes spell the tokens one after the other, with any number of spaces before, between and behind them
abbrev pub SpellAll : List Token → List ℕ → Type 0
SpellAll [] bytes = (n : ℕ) × (bytes ≡ spaced n [])
SpellAll (t ∷ ts) bytes =
    (n : ℕ) × (body : List ℕ) × (rest : List ℕ) × Spells t body × EndsToken t rest × SpellAll ts rest × (bytes ≡ spaced n (body ++ rest))

-- the bytes are read as this query
abbrev pub Reads : List ℕ → Part → Type 0
Reads bytes part = (t : Tree query) × SpellAll (tokens t) bytes × (meaning t ≡ part)

-- a query begins with the bytes
abbrev pub BeginsQuery : List ℕ → Type 0
BeginsQuery bytes = (more : List ℕ) × (part : Part) × Reads (bytes ++ more) part

-- the bytes are no query, and the place, counted from 1, is the least such that so many bytes begin none; it is one
-- past the last where all of them begin one
pub record IsFault (bytes : List ℕ) (place : ℕ) : Type 0 where
  pub counted : 0 < place
  pub within : place ≤ length bytes + 1
  pub least : (n : ℕ) → n < place → BeginsQuery (take n bytes)
  pub stops : place ≤ length bytes → BeginsQuery (take place bytes) → ⊥
  pub unread : (part : Part) → Reads bytes part → ⊥
