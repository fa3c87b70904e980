-- What the words of the program ask for.
use Rattle.std.specs.Prelude.{ℕ, zero, suc, Bool, true, false, ◌==◌, ◌&&◌, not, if◌then◌else◌, nat_le, List, [], ◌∷◌, length, map, take, drop, codes, Option, Some, None, option_and_then, option_map}
use Rattle.std.specs.List.{after_first, before_first, list_any}
use Rattle.std.specs.Str.{bytes_eq}
use Rattle.std.specs.Str.Parse.{digits_value}
use Rattle.hac_model.specs.Script.Numbers.{is_seed, is_tick}
use Rattle.hac_model.specs.Script.SpaceNames.{is_space_name}
use Rattle.hac_model.specs.declared.limits.TheConstants.{SPACES_LIMIT}

-- the name of a space, and the file of its documents
abbrev pub Space : Type 0
Space = List ℕ × List ℕ

-- whether the store is to be a new one, how many files may be indexed behind each command, the number from which the
-- script is drawn, if it is, the store's file, and the spaces in their order
pub record Options : Type 0 where
  pub fresh : Bool
  pub tick : ℕ
  pub make : Option ℕ
  pub store : List ℕ
  pub spaces : List Space

-- what words give: `--new` so many times, these values of `--tick` and of `--make`, and these names
pub record Parsed : Type 0 where
  pub news : ℕ
  pub ticks : List (List ℕ)
  pub makes : List (List ℕ)
  pub names : List (List ℕ)

-- these names alone
abbrev pub names_alone : List (List ℕ) → Parsed
names_alone names = record { news = 0; ticks = []; makes = []; names = names }

-- the same, and one more
abbrev pub with_new : Parsed → Parsed
with_new given = record given { news = suc given.news }

abbrev pub with_tick : List ℕ → Parsed → Parsed
with_tick value given = record given { ticks = value ∷ given.ticks }

abbrev pub with_make : List ℕ → Parsed → Parsed
with_make value given = record given { makes = value ∷ given.makes }

abbrev pub with_name : List ℕ → Parsed → Parsed
with_name name given = record given { names = name ∷ given.names }

-- behind this word each one is a name, whatever it begins with
abbrev pub ends_options : List ℕ → Bool
ends_options word = bytes_eq word (codes "--")

abbrev pub is_new : List ℕ → Bool
is_new word = bytes_eq word (codes "--new")

-- the value of `--tick` is the next word
abbrev pub is_tick_word : List ℕ → Bool
is_tick_word word = bytes_eq word (codes "--tick")

-- or it follows in the same word
abbrev pub begins_tick : List ℕ → Bool
begins_tick word = bytes_eq (take 7 word) (codes "--tick=")

-- the same for `--make`
abbrev pub is_make_word : List ℕ → Bool
is_make_word word = bytes_eq word (codes "--make")

abbrev pub begins_make : List ℕ → Bool
begins_make word = bytes_eq (take 7 word) (codes "--make=")

-- two or more bytes, of which the first is `-`
abbrev pub is_dashed : List ℕ → Bool
is_dashed word = nat_le 2 (length word) && bytes_eq (take 1 word) (codes "-")

abbrev mutual
  -- what words give, from the first one on, unless one of them is faulty
  pub given_by : List (List ℕ) → Option Parsed
  given_by [] = Some (names_alone [])
  given_by (word ∷ words) =
      if ends_options word then Some (names_alone words)
      else (if is_new word then option_map with_new (given_by words)
      else (if is_tick_word word then given_with_value with_tick words
      else (if begins_tick word then option_map (with_tick (drop 7 word)) (given_by words)
      else (if is_make_word word then given_with_value with_make words
      else (if begins_make word then option_map (with_make (drop 7 word)) (given_by words)
      else (if is_dashed word then None
      else option_map (with_name word) (given_by words)))))))

  -- the same where the first one is the value of an option
  pub given_with_value : (List ℕ → Parsed → Parsed) → List (List ℕ) → Option Parsed
  given_with_value with_value [] = None
  given_with_value with_value (word ∷ words) = if is_dashed word then None else option_map (with_value word) (given_by words)

-- `--new` stands at most once
abbrev pub fresh_of : ℕ → Option Bool
fresh_of zero = Some false
fresh_of (suc zero) = Some true
fresh_of (suc (suc more)) = None

-- so does `--tick`, with a number; without it nothing is indexed
abbrev pub tick_of : List (List ℕ) → Option ℕ
tick_of [] = Some 0
tick_of (value ∷ []) = if is_tick value then Some (digits_value 10 value) else None
tick_of other = None

-- and `--make`; without it no script is drawn
abbrev pub make_of : List (List ℕ) → Option (Option ℕ)
make_of [] = Some None
make_of (value ∷ []) = if is_seed value then Some (Some (digits_value 10 value)) else None
make_of other = None

-- the first name is the store's, and not an empty one
abbrev pub store_of : List (List ℕ) → Option (List ℕ)
store_of [] = None
store_of (name ∷ names) = if nat_le 1 (length name) then Some name else None

abbrev pub is_equals : ℕ → Bool
is_equals b = b == 61

-- a space's name stands before the first `=` of a word, and its file behind that
abbrev pub space_in_word : List ℕ → Option Space
space_in_word word =
    let name = before_first is_equals word in
    let file = after_first is_equals word in
    if is_space_name name && nat_le 1 (length file) then Some (name, file) else None

-- the spaces of words, if each word has one
abbrev pub each_space : List (List ℕ) → Option (List Space)
each_space [] = Some []
each_space (word ∷ words) = option_and_then (λ space. option_map (λ spaces. space ∷ spaces) (each_space words)) (space_in_word word)

-- no two of the names are the same
abbrev pub names_differ : List (List ℕ) → Bool
names_differ [] = true
names_differ (name ∷ names) = not (list_any (bytes_eq name) names) && names_differ names

-- they are few enough, and their names differ
abbrev pub may_stand : List Space → Bool
may_stand spaces = nat_le (length spaces) SPACES_LIMIT && names_differ (map (λ space. space.0) spaces)

-- each name behind the store's is that of a space with its file
abbrev pub spaces_of : List (List ℕ) → Option (List Space)
spaces_of words = option_and_then (λ spaces. if may_stand spaces then Some spaces else None) (each_space words)

-- what is asked for by what was given
abbrev pub options_from : Parsed → Option Options
options_from given =
    option_and_then (λ fresh. option_and_then (λ tick. option_and_then (λ make. option_and_then (λ store. option_map (λ spaces.
    record { fresh = fresh; tick = tick; make = make; store = store; spaces = spaces })
    (spaces_of (drop 1 given.names))) (store_of given.names)) (make_of given.makes)) (tick_of given.ticks)) (fresh_of given.news)

-- what words ask for, if they fit the usage: `[--new] [--tick N] [--make NUMBER] STORE [NAME=FILE]...`, with options
-- anywhere before `--`
unfoldable pub options : List (List ℕ) → Option Options
options words = option_and_then options_from (given_by words)
