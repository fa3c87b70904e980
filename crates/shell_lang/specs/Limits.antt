-- Which limit the text of a printed line exceeds: it may have more bytes than those from which the line was read.
use Rattle.std.specs.Prelude.{ℕ, if◌then◌else◌, nat_lt, length, Option, None, Some}
use Rattle.hac_model.specs.Query.QueryText.{referred_by, query_text}
use Rattle.hac_model.specs.Script.CommandTexts.{session_line, word_text}
use Rattle.hac_model.specs.declared.commands.Command.{Command}
use Rattle.hac_model.specs.declared.commands.Command.TheVariants.{Smkdir, Setq, Find}
use Rattle.hac_model.specs.declared.commands.Line.{Line}
use Rattle.hac_model.specs.declared.limits.LimitWord.{LimitWord}
use Rattle.hac_model.specs.declared.limits.LimitWord.TheVariants as limit
use Rattle.hac_model.specs.declared.limits.TheConstants.{LINE_LIMIT, QUERY_LIMIT}

-- how many bytes the query of a command is printed with, 0 where it has none
abbrev pub query_size : Command → ℕ
query_size (Smkdir path query) = length (query_text (referred_by word_text query))
query_size (Setq path query) = length (query_text (referred_by word_text query))
query_size (Find query) = length (query_text (referred_by word_text query))
query_size other = 0

-- the limit that the text of a line exceeds, if any: that of a line, or else that of a query
abbrev pub excess : Line → Option LimitWord
excess line =
    if nat_lt LINE_LIMIT (length (session_line line)) then Some limit.Line
    else (if nat_lt QUERY_LIMIT (query_size line.command) then Some limit.Query
    else None)
