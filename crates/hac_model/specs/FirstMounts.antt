-- A small state with a mount, proved to be valid, and a run from it: what a directory that queries a mount lists, what
-- may be done in a mount, and what has to ask its space, which isn't attached; and a run in which one is.
use Rattle.std.specs.Prelude.{◌≡◌, true, false, [], ◌∷◌, codes}
use Rattle.hac_model.specs.Tree.Events.{accepted, apply}
use Rattle.hac_model.specs.declared.events.Event.TheVariants.{Smount, Ssync, Sumount}
use Rattle.hac_model.specs.Laws.{lines_text}
use Rattle.hac_model.specs.Query.Formula as query
use Rattle.hac_model.specs.Run.Play.{given_spaces, new_setting, nothing_given, play, turns_text}
use Rattle.hac_model.specs.Tree.ValidTest.{is_valid}
use Rattle.hac_model.specs.declared.states.Body.TheVariants.{Document, Mount, Semantic}
use Rattle.hac_model.specs.declared.states.State.{State}
use Rattle.hac_model.specs.declared.versions.Version.TheVariants.{Two}
use Rattle.hac_model.specs.declared.terms.Term.TheVariants.{Word}

-- `/s` asks for apple, and of the documents of `/lib` the first and the last had the word
abbrev pub small_library : State
small_library = record {
  version = Two;
  next = 6;
  entries =
      record { number = 1; parent = 0; name = codes "s"; body = Semantic (query.Term (Word (codes "apple"))) [] [] }
      ∷ record { number = 2; parent = 0; name = codes "lib"; body = Mount (codes "space") (record { term = Word (codes "apple"); documents = 3 ∷ 5 ∷ [] } ∷ []) }
      ∷ record { number = 3; parent = 2; name = codes "one"; body = Document }
      ∷ record { number = 4; parent = 2; name = codes "three"; body = Document }
      ∷ record { number = 5; parent = 2; name = codes "two"; body = Document }
      ∷ [];
  sessions = [];
}

-- the same before the space was mounted
abbrev pub without_library : State
without_library = record {
  version = Two;
  next = 2;
  entries = record { number = 1; parent = 0; name = codes "s"; body = Semantic (query.Term (Word (codes "apple"))) [] [] } ∷ [];
  sessions = [];
}

-- and with a mark on each of its first two documents
abbrev pub marked_library : State
marked_library = record small_library {
  entries =
      record { number = 1; parent = 0; name = codes "s"; body = Semantic (query.Term (Word (codes "apple"))) (4 ∷ []) (3 ∷ []) }
      ∷ record { number = 2; parent = 0; name = codes "lib"; body = Mount (codes "space") (record { term = Word (codes "apple"); documents = 3 ∷ 5 ∷ [] } ∷ []) }
      ∷ record { number = 3; parent = 2; name = codes "one"; body = Document }
      ∷ record { number = 4; parent = 2; name = codes "three"; body = Document }
      ∷ record { number = 5; parent = 2; name = codes "two"; body = Document }
      ∷ [];
}

-- the space has lost one of them and got another
abbrev pub synced_library : State
synced_library = record {
  version = Two;
  next = 7;
  entries =
      record { number = 1; parent = 0; name = codes "s"; body = Semantic (query.Term (Word (codes "apple"))) [] (3 ∷ []) }
      ∷ record { number = 2; parent = 0; name = codes "lib"; body = Mount (codes "space") (record { term = Word (codes "apple"); documents = 5 ∷ 6 ∷ [] } ∷ []) }
      ∷ record { number = 3; parent = 2; name = codes "one"; body = Document }
      ∷ record { number = 5; parent = 2; name = codes "two"; body = Document }
      ∷ record { number = 6; parent = 2; name = codes "four"; body = Document }
      ∷ [];
  sessions = [];
}

-- the documents of a new mount take the numbers behind its own, and it keeps what was told of the term in use
abbrev pub MountsCome : Type 0
MountsCome =
    (accepted without_library (Smount 0 (codes "lib") (codes "space") (codes "one" ∷ codes "three" ∷ codes "two" ∷ []) ((3 ∷ 5 ∷ []) ∷ [])) ≡ true)
    × (apply without_library (Smount 0 (codes "lib") (codes "space") (codes "one" ∷ codes "three" ∷ codes "two" ∷ []) ((3 ∷ 5 ∷ []) ∷ [])) ≡ small_library)

-- documents whose names are still there keep their numbers and marks, and what was told before is gone
abbrev pub SyncsKeepNumbers : Type 0
SyncsKeepNumbers =
    (accepted marked_library (Ssync 2 (codes "four" ∷ codes "one" ∷ codes "two" ∷ []) ((5 ∷ 6 ∷ []) ∷ [])) ≡ true)
    × (apply marked_library (Ssync 2 (codes "four" ∷ codes "one" ∷ codes "two" ∷ []) ((5 ∷ 6 ∷ []) ∷ [])) ≡ synced_library)

-- a mount goes with its documents and all marks on them, and their numbers stay used
abbrev pub MountsGo : Type 0
MountsGo =
    (accepted marked_library (Sumount 2) ≡ true)
    × (apply marked_library (Sumount 2) ≡ record without_library { next = 6 })

-- nothing else may be told: too few lists, a number that no document has, names out of order
abbrev pub FalseIsNotTold : Type 0
FalseIsNotTold =
    (accepted without_library (Smount 0 (codes "lib") (codes "space") (codes "one" ∷ []) []) ≡ false)
    × (accepted without_library (Smount 0 (codes "lib") (codes "space") (codes "one" ∷ []) ((2 ∷ []) ∷ [])) ≡ false)
    × (accepted without_library (Smount 0 (codes "lib") (codes "space") (codes "two" ∷ codes "one" ∷ []) ([] ∷ [])) ≡ false)
    × (accepted marked_library (Ssync 2 (codes "four" ∷ codes "one" ∷ []) ((5 ∷ []) ∷ [])) ≡ false)

abbrev pub LibraryIsValid : Type 0
LibraryIsValid = is_valid small_library ≡ true

-- documents are linked as files are, and a query finds them by the answers that are kept
abbrev pub FirstMounts : Type 0
FirstMounts =
    turns_text (play nothing_given (record new_setting { state = small_library }) (lines_text (
    codes "sls /s" ∷ codes "ls /lib" ∷ codes "ls" ∷ codes "srm /lib/one /s" ∷ codes "sls /s" ∷ codes "smkdir /t NOT apple"
    ∷ codes "sls /t" ∷ codes "mv /lib /m" ∷ codes "find apple AND {/m}" ∷ codes "sln /m/one /t" ∷ codes "sls /t" ∷ codes "counts" ∷ [])))
    ≡ lines_text (
    codes "t /lib/one" ∷ codes "t /lib/two" ∷ codes "ok"
    ∷ codes "o one" ∷ codes "o three" ∷ codes "o two" ∷ codes "ok"
    ∷ codes "m lib" ∷ codes "s s" ∷ codes "ok"
    ∷ codes "ok" ∷ codes "x /lib/one" ∷ codes "t /lib/two" ∷ codes "ok"
    ∷ codes "ok" ∷ codes "t /lib/three" ∷ codes "ok"
    ∷ codes "ok" ∷ codes "o /m/one" ∷ codes "o /m/two" ∷ codes "ok"
    ∷ codes "ok" ∷ codes "p /m/one" ∷ codes "t /m/three" ∷ codes "ok"
    ∷ codes "= files 0 documents 3 directories 0 semantic 2 mounts 1 symbolic 0 transient 2 permanent 1 prohibited 1 dirty 0 next 7" ∷ codes "ok" ∷ [])

-- the space is attached: it is mounted and asked, its documents are linked, read and found, a sync that finds nothing new
-- leaves them, and they go with their mount
abbrev pub AttachedMounts : Type 0
AttachedMounts =
    turns_text (play (given_spaces ((codes "lib", (codes "one", codes "apple pie") ∷ (codes "two", codes "pear") ∷ []) ∷ [])) new_setting (lines_text (
    codes "smkdir /s apple" ∷ codes "smount /m none" ∷ codes "smount /m lib" ∷ codes "sls /s" ∷ codes "cat /m/one" ∷ codes "find pear"
    ∷ codes "setq /s pear" ∷ codes "sls /s" ∷ codes "ssync /m" ∷ codes "sls /s" ∷ codes "sumount /m" ∷ codes "sls /s" ∷ [])))
    ≡ lines_text (
    codes "ok" ∷ codes "no no-space none" ∷ codes "ok" ∷ codes "t /m/one" ∷ codes "ok" ∷ codes "= apple pie" ∷ codes "ok" ∷ codes "o /m/two" ∷ codes "ok"
    ∷ codes "ok" ∷ codes "t /m/two" ∷ codes "ok" ∷ codes "ok" ∷ codes "t /m/two" ∷ codes "ok" ∷ codes "ok" ∷ codes "ok" ∷ [])

-- nothing is put into a mount or taken out of it, and what has to ask its space is refused
abbrev pub MountsRefuse : Type 0
MountsRefuse =
    turns_text (play nothing_given (record new_setting { state = small_library }) (lines_text (
    codes "write /lib/x y" ∷ codes "write /lib/one y" ∷ codes "mkdir /lib/one" ∷ codes "rm /lib/one" ∷ codes "mv /lib/one /x"
    ∷ codes "ln a /lib/x" ∷ codes "rmdir /lib" ∷ codes "setq /lib apple" ∷ codes "cd /lib/one" ∷ codes "cat /lib/none"
    ∷ codes "cat /lib/one" ∷ codes "cat /lib" ∷ codes "smkdir /t pear" ∷ codes "setq /s apple*" ∷ codes "find pear" ∷ codes "sls /lib" ∷ [])))
    ≡ lines_text (
    codes "no in-mount /lib" ∷ codes "no in-mount /lib" ∷ codes "no in-mount /lib" ∷ codes "no in-mount /lib" ∷ codes "no in-mount /lib"
    ∷ codes "no in-mount /lib" ∷ codes "no in-mount /lib" ∷ codes "no in-mount /lib" ∷ codes "no not-dir /lib/one" ∷ codes "no no-path /lib/none"
    ∷ codes "no no-space space" ∷ codes "no not-file /lib" ∷ codes "no no-space space" ∷ codes "no no-space space" ∷ codes "no no-space space"
    ∷ codes "no not-semantic /lib" ∷ [])
