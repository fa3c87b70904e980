-- How a query is read from its bytes, one after the other.
use Rattle.std.specs.Prelude.{ℕ, zero, suc, ◌+◌, ◌==◌, ◌&&◌, Bool, true, nat_lt, if◌then◌else◌, List, [], ◌∷◌, ◌++◌, length, codes, Option, None, Some, Result, Ok, Err, option_and_then}
use Rattle.std.specs.Option.{option_map, ok_or}
use Rattle.std.specs.Str.{bytes_eq}
use Rattle.hac_model.specs.Run.Answers.{◌>>=◌}
use Rattle.hac_model.specs.Bytes.{is_slash, is_space, is_backslash}
use Rattle.hac_model.specs.Query.Formula.{Formula}
use Rattle.hac_model.specs.Query.Formula as formula
use Rattle.hac_model.specs.Query.Grammar.{Leaf, leaf_part, not_part, and_part, or_part, group_part, is_control}
use Rattle.hac_model.specs.Query.Grammar as leaf
use Rattle.hac_model.specs.Script.PathWords.{word_of}
use Rattle.hac_model.specs.Tree.Paths.{are_names}
use Rattle.hac_model.specs.Query.Queries.{all_leaves, is_operator, is_query, term_count}
use Rattle.hac_model.specs.Query.Words.{is_word_byte, lower_case}
use Rattle.hac_model.specs.declared.limits.LimitWord.TheVariants as limit
use Rattle.hac_model.specs.declared.limits.TheConstants.{QUERY_LIMIT, TERMS_LIMIT, NESTING_LIMIT}
use Rattle.hac_model.specs.declared.paths.PathWord.{PathWord}
use Rattle.hac_model.specs.declared.reading.ByteKind.{ByteKind}
use Rattle.hac_model.specs.declared.reading.ByteKind.TheVariants.{Word, Space, Open, Close, Star, Brace, EndBrace, Backslash, Slash, Control, Foreign}
use Rattle.hac_model.specs.declared.reading.Ended.{Ended}
use Rattle.hac_model.specs.declared.reading.Level.{Level}
use Rattle.hac_model.specs.declared.reading.Operand.{Operand}
use Rattle.hac_model.specs.declared.reading.Operand.TheVariants as operand
use Rattle.hac_model.specs.declared.reading.Operator.{Operator}
use Rattle.hac_model.specs.declared.reading.Operator.TheVariants as operator
use Rattle.hac_model.specs.declared.reading.Part.{Part}
use Rattle.hac_model.specs.declared.reading.Reader.{Reader}
use Rattle.hac_model.specs.declared.reading.Reader.TheVariants.{Wants, Ends}
use Rattle.hac_model.specs.declared.reading.Stack.{Stack}
use Rattle.hac_model.specs.declared.reading.Stack.TheVariants.{Wanting, Ending}
use Rattle.hac_model.specs.declared.reading.Wanted.{Wanted}
use Rattle.hac_model.specs.declared.replies.Refusal.{Refusal}
use Rattle.hac_model.specs.declared.replies.Refusal.TheVariants.{BadQuery, Limit}

-- Operands and what joins them.

-- a part behind an `AND`, where there is one
abbrev pub join_and : Option Part → Part → Part
join_and None part = part
join_and (Some left) part = and_part left part

-- a part behind an `OR`, where there is one
abbrev pub join_or : Option Part → Part → Part
join_or None part = part
join_or (Some left) part = or_part left part

-- a part behind this many `NOT`s
abbrev pub nots_part : ℕ → Part → Part
nots_part zero part = part
nots_part (suc n) part = nots_part n (not_part part)

-- what comes before the first operand behind a parenthesis
abbrev pub empty_level : Level
empty_level = record { ors = None; ands = None; nots = 0 }

-- behind `(`
abbrev pub enter : Wanted → Wanted
enter w = record { level = empty_level; outer = w.level ∷ w.outer }

-- behind `NOT`
abbrev pub negate : Wanted → Wanted
negate w = record { level = record { ors = w.level.ors; ands = w.level.ands; nots = suc w.level.nots }; outer = w.outer }

-- behind the operand that was wanted
abbrev pub receive : Part → Wanted → Ended
receive part w = record { ors = w.level.ors; part = join_and w.level.ands (nots_part w.level.nots part); outer = w.outer }

-- all that was read from the last open parenthesis on
abbrev pub whole_part : Ended → Part
whole_part h = join_or h.ors h.part

-- behind `AND`
abbrev pub after_and : Ended → Wanted
after_and h = record { level = record { ors = h.ors; ands = Some h.part; nots = 0 }; outer = h.outer }

-- behind `OR`
abbrev pub after_or : Ended → Wanted
after_or h = record { level = record { ors = Some (whole_part h); ands = None; nots = 0 }; outer = h.outer }

-- a part in parentheses, given what comes before each open one
abbrev pub grouped : Part → List Level → Option Ended
grouped part [] = None
grouped part (level ∷ outer) = Some (receive (group_part part) (record { level = level; outer = outer }))

-- behind `)`
abbrev pub leave : Ended → Option Ended
leave h = grouped (whole_part h) h.outer

-- the part where no parenthesis is open
abbrev pub ungrouped : Part → List Level → Option Part
ungrouped part [] = Some part
ungrouped part (level ∷ outer) = None

-- the query, where nothing follows
abbrev pub finish : Ended → Option Part
finish h = ungrouped (whole_part h) h.outer

-- Bytes.

-- what a byte is in a query
unfoldable pub kind_of : ℕ → ByteKind
kind_of b =
    if is_word_byte b then Word
    else (if is_space b then Space
    else (if b == 40 then Open
    else (if b == 41 then Close
    else (if b == 42 then Star
    else (if b == 123 then Brace
    else (if b == 125 then EndBrace
    else (if is_backslash b then Backslash
    else (if is_slash b then Slash
    else (if is_control b then Control
    else Foreign)))))))))

-- a byte behind a token, where an operand is wanted
abbrev pub operand_begins : ByteKind → ℕ → Wanted → Option Reader
operand_begins Word b w = Some (Wants (operand.Run (b ∷ [])) w)
operand_begins Space b w = Some (Wants operand.Nothing w)
operand_begins Open b w = Some (Wants operand.Nothing (enter w))
operand_begins Brace b w = Some (Wants operand.Brace w)
operand_begins other b w = None

-- the run of an operator that is due begins with a letter
abbrev pub sign_begins : ℕ → Ended → Option Reader
sign_begins b h = if b == 65 then Some (Ends operator.A h) else (if b == 79 then Some (Ends operator.O h) else None)

-- a byte behind a token, where an operand ended
abbrev pub operator_begins : ByteKind → ℕ → Ended → Option Reader
operator_begins Word b h = sign_begins b h
operator_begins Space b h = Some (Ends operator.Nothing h)
operator_begins Close b h = option_map (Ends operator.Nothing) (leave h)
operator_begins other b h = None

-- where no token is under way
abbrev pub at : Stack → Reader
at (Wanting w) = Wants operand.Nothing w
at (Ending h) = Ends operator.Nothing h

-- behind a run that ended where an operand was wanted: `NOT`, or a word
unfoldable pub after_run : List ℕ → Wanted → Option Stack
after_run run w =
    if bytes_eq run (codes "NOT") then Some (Wanting (negate w))
    else (if is_operator run then None
    else Some (Ending (receive (leaf_part (leaf.Word (lower_case run))) w)))

-- a byte behind a token
abbrev pub token_begins : ByteKind → ℕ → Stack → Option Reader
token_begins kind b (Wanting w) = operand_begins kind b w
token_begins kind b (Ending h) = operator_begins kind b h

-- a byte behind a run that ended
abbrev pub run_ends : ByteKind → ℕ → List ℕ → Wanted → Option Reader
run_ends kind b run w = option_and_then (token_begins kind b) (after_run run w)

-- a byte behind a part of a run
abbrev pub run_step : ByteKind → ℕ → List ℕ → Wanted → Option Reader
run_step Word b run w = Some (Wants (operand.Run (run ++ b ∷ [])) w)
run_step Star b run w = Some (Ends operator.Nothing (receive (leaf_part (leaf.Prefix (lower_case run))) w))
run_step other b run w = run_ends other b run w

-- a byte behind an opening brace: a path begins with a slash
abbrev pub brace_step : ByteKind → ℕ → Wanted → Option Reader
brace_step Slash b w = Some (Wants (operand.Path (b ∷ [])) w)
brace_step other b w = None

-- a byte behind a part of a path
abbrev pub path_step : ByteKind → ℕ → List ℕ → Wanted → Option Reader
path_step EndBrace b path w = Some (Ends operator.Nothing (receive (leaf_part (leaf.Dir path)) w))
path_step Backslash b path w = Some (Wants (operand.Escape path) w)
path_step Control b path w = None
path_step other b path w = Some (Wants (operand.Path (path ++ b ∷ [])) w)

-- a byte behind a backslash in a path
abbrev pub escape_step : ByteKind → ℕ → List ℕ → Wanted → Option Reader
escape_step EndBrace b path w = Some (Wants (operand.Path (path ++ b ∷ [])) w)
escape_step Backslash b path w = Some (Wants (operand.Path (path ++ b ∷ [])) w)
escape_step other b path w = None

-- a byte where an operand is wanted
abbrev pub operand_step : ByteKind → ℕ → Operand → Wanted → Option Reader
operand_step kind b operand.Nothing w = operand_begins kind b w
operand_step kind b (operand.Run run) w = run_step kind b run w
operand_step kind b operand.Brace w = brace_step kind b w
operand_step kind b (operand.Path path) w = path_step kind b path w
operand_step kind b (operand.Escape path) w = escape_step kind b path w

-- a byte behind an operator: it doesn't go on with the operator's run
abbrev pub sign_ends : ByteKind → ℕ → Wanted → Option Reader
sign_ends Word b w = None
sign_ends Star b w = None
sign_ends other b w = operand_begins other b w

-- a byte where an operand ended
abbrev pub operator_step : ByteKind → ℕ → Operator → Ended → Option Reader
operator_step kind b operator.Nothing h = operator_begins kind b h
operator_step kind b operator.A h = if b == 78 then Some (Ends operator.An h) else None
operator_step kind b operator.An h = if b == 68 then Some (Ends operator.And h) else None
operator_step kind b operator.And h = sign_ends kind b (after_and h)
operator_step kind b operator.O h = if b == 82 then Some (Ends operator.Or h) else None
operator_step kind b operator.Or h = sign_ends kind b (after_or h)

-- a byte of a kind behind what was read
abbrev pub kind_step : ByteKind → ℕ → Reader → Option Reader
kind_step kind b (Wants read w) = operand_step kind b read w
kind_step kind b (Ends read h) = operator_step kind b read h

-- a byte behind what was read; None where no query goes on so
abbrev pub step : ℕ → Reader → Option Reader
step b reader = kind_step (kind_of b) b reader

-- the query, where a token ended and nothing follows
abbrev pub ended_token : Stack → Option Part
ended_token (Wanting w) = None
ended_token (Ending h) = finish h

-- the query that was read, where nothing follows
abbrev pub read_whole : Reader → Option Part
read_whole (Wants (operand.Run run) w) = option_and_then ended_token (after_run run w)
read_whole (Wants read w) = None
read_whole (Ends operator.Nothing h) = finish h
read_whole (Ends read h) = None

-- nothing was read
abbrev pub fresh_reader : Reader
fresh_reader = Wants operand.Nothing (record { level = empty_level; outer = [] })

-- what follows, where a query goes on; else the place
abbrev pub goes_on : ℕ → (Reader → Result Part ℕ) → Option Reader → Result Part ℕ
goes_on place next None = Err place
goes_on place next (Some reader) = next reader

-- the query to which bytes lead behind what was read, or the place where none goes on, given that of the first byte
unfoldable pub read_on : ℕ → List ℕ → Reader → Result Part ℕ
read_on place [] reader = ok_or (read_whole reader) place
read_on place (b ∷ bytes) reader = goes_on place (read_on (place + 1) bytes) (step b reader)

-- Queries of lines.

-- the query that was read, or the refusal of its place
abbrev pub parsed : Result Part ℕ → Result Part Refusal
parsed (Ok part) = Ok part
parsed (Err place) = Err (BadQuery place)

-- the word, or the one cause for which a path between braces is none
abbrev pub named : Result PathWord Refusal → Result PathWord Refusal
named (Ok word) = Ok word
named (Err refusal) = Err (Limit limit.Name)

-- a path between braces as a word. It is a path word but for the length of its names.
abbrev pub dir_word : List ℕ → Result PathWord Refusal
dir_word path = named (word_of path)

-- the query with its directories as path words
abbrev pub worded : Formula (List ℕ) → Result (Formula PathWord) Refusal
worded (formula.Term asked) = Ok (formula.Term asked)
worded (formula.Dir path) = do
  word ← dir_word path
  Ok (formula.Dir word)
worded (formula.Not query) = do
  inner ← worded query
  Ok (formula.Not inner)
worded (formula.And left right) = do
  first ← worded left
  second ← worded right
  Ok (formula.And first second)
worded (formula.Or left right) = do
  first ← worded left
  second ← worded right
  Ok (formula.Or first second)

-- the query, if it has no more terms than a query may have, and these are no deeper than they may be
abbrev pub limited_query : ℕ → Formula PathWord → Result (Formula PathWord) Refusal
limited_query nesting query =
    if nat_lt TERMS_LIMIT (term_count query) then Err (Limit limit.Terms)
    else (if nat_lt NESTING_LIMIT nesting then Err (Limit limit.Nesting)
    else Ok query)

-- the query that the bytes spell, or its first refusal, their number aside
abbrev pub spelled_query : List ℕ → Result (Formula PathWord) Refusal
spelled_query bytes = do
  part ← parsed (read_on 1 bytes fresh_reader)
  query ← worded part.query
  limited_query part.nesting query

-- the query that the bytes spell, or its first refusal
unfoldable pub read_query : List ℕ → Result (Formula PathWord) Refusal
read_query bytes = if nat_lt QUERY_LIMIT (length bytes) then Err (Limit limit.Query) else spelled_query bytes

-- the directories of a query are words that begin at the root, and their names are names
abbrev pub are_rooted : Formula PathWord → Bool
are_rooted query = all_leaves (λ asked. true) (λ word. word.absolute && are_names word.names) query

-- the query is as a line spells it: it holds no more than a query may, and its directories begin at the root
abbrev pub is_spelled_query : Formula PathWord → Bool
is_spelled_query query = is_query query && are_rooted query
