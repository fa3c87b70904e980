-- What a dump promises, and some dumps.
use Rattle.std.specs.Prelude.{◌≡◌, ℕ, nat_lt, List, [], ◌∷◌, None, IsTrue, codes}
use Rattle.std.specs.List.{AllByRecursion}
use Rattle.hac_model.specs.Run.Play.{Setting, Turn, all_events, end_after, given_spaces, left_by, new_setting, nothing_given, play}
use Rattle.hac_model.specs.Laws.{lines_text}
use Rattle.hac_model.specs.Spaces.Answering.{Attached}
use Rattle.hac_model.specs.Tree.Valid.{IsValid}
use Rattle.hac_model.specs.Tree.{empty}
use Rattle.hac_model.specs.Versions.{store_limit}
use Rattle.hac_model.specs.declared.events.Event.{Event}
use Rattle.hac_model.specs.declared.replies.Reply.TheVariants.{Lines}
use Rattle.hac_model.specs.declared.states.State.{State}
use Rattle.hac_model.specs.Script.Dump.{dump_text, first_mount, first_unprintable}
use Rattle.hac_model.specs.Tree.Same.{Same}

-- each command is answered by `ok` alone
abbrev pub AllOk : List Turn → Type 0
AllOk turns = AllByRecursion (λ turn. turn.reply ≡ Lines []) turns

-- a store has room for the records of events
abbrev pub HasRoom : Setting → List Event → Type 0
HasRoom setting events = IsTrue (nat_lt (end_after setting events) (store_limit setting.state.version))

-- Turns make these events and no others, each command is answered by `ok`, and behind them the tree is the same.
pub record Makes (s : State) (events : List Event) (setting : Setting) (turns : List Turn) : Type 0 where
  pub ok : AllOk turns
  pub made : all_events turns ≡ events
  pub same : Same s (left_by setting turns).state

-- A state without mounts, whose queries can be printed: its dump has events, and played on an empty tree, with room for
-- their records and no index steps behind commands, it makes the same tree by them, whatever spaces are attached.
abbrev pub DumpsMake : Type 0
DumpsMake =
    (s : State) → IsValid s → first_mount s ≡ None → first_unprintable s ≡ None →
    (events : List Event) × ((spaces : List Attached) (setting : Setting) → setting.state ≡ empty → HasRoom setting events →
    Makes s events setting (play (given_spaces spaces) setting (dump_text s)))

-- a state that a script leaves of a new store
abbrev pub made_by : List (List ℕ) → State
made_by lines = (left_by new_setting (play nothing_given new_setting (lines_text lines))).state

-- a file that was indexed and written again, and a semantic directory from which the user removed it
abbrev pub FirstDump : Type 0
FirstDump =
    dump_text (made_by (
    codes "mkdir /d" ∷ codes "write /d/f apple" ∷ codes "smkdir /s apple" ∷ codes "index" ∷ codes "write /d/f pear" ∷ codes "srm /d/f /s" ∷ []))
    ≡ lines_text (
    codes "mkdir \"/d\"" ∷ codes "mkdir \"/s\"" ∷ codes "put \"/d/f\" 5" ∷ codes "apple" ∷ codes "index"
    ∷ codes "put \"/d/f\" 4" ∷ codes "pear" ∷ codes "setq \"/s\" apple" ∷ codes "cd \"/s\"" ∷ codes "sln \"/d/f\" ." ∷ codes "srm \"/d/f\" ." ∷ codes "cd" ∷ [])

-- a new store
abbrev pub EmptyDump : Type 0
EmptyDump = dump_text empty ≡ lines_text (codes "index" ∷ [])

-- printed paths are compared byte by byte, also where a slash is one of them; new files stand among those that were
-- written again; links of all kinds, a directory that was added, and a query with a path
abbrev pub SecondDump : Type 0
SecondDump =
    dump_text (made_by (
    codes "mkdir /a" ∷ codes "mkdir \"/a b\"" ∷ codes "mkdir /a/b" ∷ codes "write /h 1" ∷ codes "index" ∷ codes "write /h 2"
    ∷ codes "write /g 3" ∷ codes "ln /x /l" ∷ codes "setq \"/a b\" {/a/b} OR x" ∷ codes "setq /a y" ∷ codes "sln / \"/a b\"" ∷ codes "sln /a/b \"/a b\"" ∷ []))
    ≡ lines_text (
    codes "mkdir \"/a\"" ∷ codes "mkdir \"/a b\"" ∷ codes "mkdir \"/a/b\"" ∷ codes "put \"/h\" 1" ∷ codes "1" ∷ codes "index"
    ∷ codes "put \"/g\" 1" ∷ codes "3" ∷ codes "put \"/h\" 1" ∷ codes "2" ∷ codes "ln \"/x\" \"/l\"" ∷ codes "setq \"/a\" y"
    ∷ codes "setq \"/a b\" {/a/b} OR x" ∷ codes "cd \"/a b\"" ∷ codes "sln \"/\" ." ∷ codes "sln \"/a/b\" ." ∷ codes "cd" ∷ [])
