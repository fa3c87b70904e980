-- What a path word says.
use Rattle.std.specs.Prelude.{ℕ, Bool, true, false, ◌+◌, ◌-◌, ◌==◌, ◌&&◌, ◌||◌, not, if◌then◌else◌, nat_le, nat_lt, List, [], ◌∷◌, length, slice_index, codes, Result, Ok, Err}
use Rattle.std.specs.List.{slice_split, list_any, list_all}
use Rattle.std.specs.Str.{bytes_eq}
use Rattle.hac_model.specs.Bytes.{is_slash}
use Rattle.hac_model.specs.Tree.Names.{is_name_byte}
use Rattle.hac_model.specs.declared.limits.LimitWord.TheVariants as limit
use Rattle.hac_model.specs.declared.limits.TheConstants.{NAME_LIMIT, TARGET_LIMIT}
use Rattle.hac_model.specs.declared.paths.PathWord.{PathWord}
use Rattle.hac_model.specs.declared.replies.Refusal.{Refusal}
use Rattle.hac_model.specs.declared.replies.Refusal.TheVariants.{BadName, Limit}

-- the parts of a word between its slashes. The first part of an absolute word is empty.
abbrev pub parts : List ℕ → List (List ℕ)
parts bytes = slice_split is_slash bytes

-- a part of a word: it has only bytes that names may hold. It may be empty, `.` or `..`, which are no names.
abbrev pub is_part : List ℕ → Bool
is_part part = list_all is_name_byte part

-- a part that is longer than a name may be
abbrev pub is_long : List ℕ → Bool
is_long part = nat_lt NAME_LIMIT (length part)

-- a part that leads nowhere
abbrev pub is_idle : List ℕ → Bool
is_idle part = length part == 0 || bytes_eq part (codes ".")

-- a part that leads up
abbrev pub is_up : List ℕ → Bool
is_up part = bytes_eq part (codes "..")

-- a relative word with a part in front of it. A name in front is removed by a `..` that has no name before it yet.
abbrev pub before : List ℕ → PathWord → PathWord
before part word =
    if is_idle part then word
    else (if is_up part then record word { ups = word.ups + 1 }
    else (if word.ups == 0 then record word { names = part ∷ word.names }
    else record word { ups = word.ups - 1 }))

-- the relative word of parts, read from the last one to the first
abbrev pub relative : List (List ℕ) → PathWord
relative [] = record { absolute = false; ups = 0; names = [] }
relative (part ∷ parts) = before part (relative parts)

-- the same word read at the root, above which nothing is
abbrev pub at_root : PathWord → PathWord
at_root word = record word { absolute = true; ups = 0 }

-- the word that the bytes are, its parts not tested. One that begins with a slash is read at the root.
abbrev pub untested_word : List ℕ → PathWord
untested_word bytes = if is_slash (slice_index bytes 0) then at_root (relative (parts bytes)) else relative (parts bytes)

-- the bytes are no word: none, or a part has a byte that no name may hold. A part that a `..` removes counts too.
abbrev pub is_bad : List ℕ → Bool
is_bad bytes = length bytes == 0 || not (list_all is_part (parts bytes))

abbrev pub has_long_part : List ℕ → Bool
has_long_part bytes = list_any is_long (parts bytes)

-- what the bytes of a word say. A bad part counts before a long one, wherever they are.
unfoldable pub word_of : List ℕ → Result PathWord Refusal
word_of bytes =
    if is_bad bytes then Err BadName
    else (if has_long_part bytes then Err (Limit limit.Name)
    else Ok (untested_word bytes))

-- the bytes are a path word
abbrev pub is_path_word : List ℕ → Bool
is_path_word bytes = not (is_bad bytes) && not (has_long_part bytes)

-- the bytes may be the target of a symbolic link
abbrev pub is_target : List ℕ → Bool
is_target bytes = nat_le (length bytes) TARGET_LIMIT && is_path_word bytes
