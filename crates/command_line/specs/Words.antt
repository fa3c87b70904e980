-- The words of the program, as the library reads them.
use Rattle.std.specs.Prelude.{true, codes, List, ℕ, [], ◌∷◌, map, Option, Some, None}
use Rattle.std.specs.Borrow.{Bor}
use Rattle.clap.specs.Simple.{on_top}
use Rattle.clap.specs.Words.{App, Rule, new_app, new_rule, with_rule}
use Rattle.clap.specs.declared.builder.ArgAction.TheVariants.{Append, SetTrue}
use Rattle.clap.specs.declared.builder.value_parser.ValueParser.TheVariants.{NonEmptyString}
use Rattle.clap.specs.declared.error.kind.ErrorKind.{ErrorKind}
use Rattle.clap.specs.declared.error.kind.ErrorKind.TheVariants.{OutOfMemory}
use Rattle.hac_model.specs.Script.CommandLine as line
use Rattle.command_line.specs.declared.words.Options.{Options}
use Rattle.command_line.specs.declared.words.SpaceFile.{SpaceFile}
use Rattle.command_line.specs.declared.words.WordsFault.{WordsFault}
use Rattle.command_line.specs.declared.words.WordsFault.TheVariants.{Memory, Usage}

-- what was read, as the definition has it
abbrev pub space_asked : SpaceFile → line.Space
space_asked space = (space.name, space.file.now)

abbrev pub spaces_asked : List SpaceFile → List line.Space
spaces_asked = map space_asked

abbrev pub asked_of : Options → line.Options
asked_of options = record {
  fresh = options.fresh;
  tick = options.tick;
  make = options.make;
  store = options.store.now;
  spaces = spaces_asked options.spaces.items;
}

-- the value that was given, if one was
abbrev pub values_of : Option (Bor (List ℕ)) → List (List ℕ)
values_of None = []
values_of (Some value) = value.now ∷ []

-- an option that stands alone
abbrev pub flag_option : List ℕ → Rule
flag_option name = record (new_rule name) { long = Some name; action = Some SetTrue }

-- an option with one value
abbrev pub valued_option : List ℕ → Rule
valued_option name = record (new_rule name) { long = Some name }

-- `--new`, `--tick` and `--make`
abbrev pub new_option : Rule
new_option = flag_option (codes "new")

abbrev pub tick_option : Rule
tick_option = valued_option (codes "tick")

abbrev pub make_option : Rule
make_option = valued_option (codes "make")

-- STORE
abbrev pub store_name : Rule
store_name = record (new_rule (codes "store")) { parser = Some NonEmptyString; required = true }

-- each NAME=FILE
abbrev pub space_names : Rule
space_names = record (new_rule (codes "spaces")) { action = Some Append }

-- the command line without its arguments: no name of the program stands before the words, and no help is given
abbrev pub bare : App
bare = on_top (λ s. record s { no_binary_name = true; disable_help_flag = true }) (new_app (codes "hac"))

-- and with them
abbrev pub hac : App
hac = with_rule (with_rule (with_rule (with_rule (with_rule bare new_option) tick_option) make_option) store_name) space_names

-- an error of the library, as a fault
abbrev pub fault_by : ErrorKind → WordsFault
fault_by OutOfMemory = Memory
fault_by other = Usage
