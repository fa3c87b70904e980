-- Replies as the program prints them.
use Rattle.std.specs.Prelude.{ℕ, List, [], ◌∷◌, ◌++◌, codes, decimal}
use Rattle.std.specs.List.{flat_map}
use Rattle.hac_model.specs.Tree.Paths.{path_text}
use Rattle.hac_model.specs.declared.limits.LimitWord.{LimitWord}
use Rattle.hac_model.specs.declared.limits.LimitWord.TheVariants as limit
use Rattle.hac_model.specs.declared.replies.Refusal.{Refusal}
use Rattle.hac_model.specs.declared.replies.Refusal.TheVariants.{BadLine, BadName, NoPath, NotDir, NotFile, Exists, NotEmpty, Under, Root, BadQuery, Cycle, Referenced, Busy, NotSemantic, NotLinked, Already, NoMark, NoSpace, SpaceFault, Limit, InMount, Loop, NotLink, ShortPut, NotMount, Gone}
use Rattle.hac_model.specs.declared.replies.Reply.{Reply}
use Rattle.hac_model.specs.declared.replies.Reply.TheVariants.{Lines, Refused}

-- bytes and a line end
abbrev pub ended : List ℕ → List ℕ
ended bytes = bytes ++ 10 ∷ []

abbrev pub limit_word : LimitWord → List ℕ
limit_word limit.Line = codes "line"
limit_word limit.Name = codes "name"
limit_word limit.Target = codes "target"
limit_word limit.Text = codes "text"
limit_word limit.Query = codes "query"
limit_word limit.Terms = codes "terms"
limit_word limit.Nesting = codes "nesting"
limit_word limit.Texts = codes "texts"
limit_word limit.Dirs = codes "dirs"
limit_word limit.Semantics = codes "semantics"
limit_word limit.Mounts = codes "mounts"
limit_word limit.Symlinks = codes "symlinks"
limit_word limit.Path = codes "path"
limit_word limit.Sessions = codes "sessions"
limit_word limit.Docs = codes "docs"
limit_word limit.Items = codes "items"
limit_word limit.Numbers = codes "numbers"
limit_word limit.Answers = codes "answers"
limit_word limit.Store = codes "store"

-- a cause and its detail
abbrev pub refusal_text : Refusal → List ℕ
refusal_text BadLine = codes "bad-line"
refusal_text BadName = codes "bad-name"
refusal_text (NoPath path) = codes "no-path " ++ path_text path
refusal_text (NotDir path) = codes "not-dir " ++ path_text path
refusal_text (NotFile path) = codes "not-file " ++ path_text path
refusal_text (Exists path) = codes "exists " ++ path_text path
refusal_text (NotEmpty path) = codes "not-empty " ++ path_text path
refusal_text (Under path) = codes "under " ++ path_text path
refusal_text Root = codes "root"
refusal_text (BadQuery place) = codes "bad-query " ++ decimal place
refusal_text (Cycle path) = codes "cycle " ++ path_text path
refusal_text (Referenced path) = codes "referenced " ++ path_text path
refusal_text (Busy session) = codes "busy " ++ session
refusal_text (NotSemantic path) = codes "not-semantic " ++ path_text path
refusal_text (NotLinked path) = codes "not-linked " ++ path_text path
refusal_text (Already path) = codes "already " ++ path_text path
refusal_text (NoMark path) = codes "no-mark " ++ path_text path
refusal_text (NoSpace space) = codes "no-space " ++ space
refusal_text (SpaceFault space) = codes "space-fault " ++ space
refusal_text (Limit word) = codes "limit " ++ limit_word word
refusal_text (InMount path) = codes "in-mount " ++ path_text path
refusal_text (Loop path) = codes "loop " ++ path_text path
refusal_text (NotLink path) = codes "not-link " ++ path_text path
refusal_text ShortPut = codes "short-put"
refusal_text (NotMount path) = codes "not-mount " ++ path_text path
refusal_text (Gone path) = codes "gone " ++ path_text path

-- data lines and then `ok`, or one line `no CAUSE DETAIL`
abbrev pub reply_text : Reply → List ℕ
reply_text (Lines lines) = flat_map ended lines ++ ended (codes "ok")
reply_text (Refused refusal) = ended (codes "no " ++ refusal_text refusal)

abbrev pub text : List Reply → List ℕ
text replies = flat_map reply_text replies
