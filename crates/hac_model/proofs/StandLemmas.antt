-- What the paths of a command lead to is in the state.
use Rattle.std.proofs.Common.{◌≡◌, ℕ, ◌+◌, Bool, true, false, List, refl, ap, ◌∙◌}
use Rattle.std.specs.Prelude.{◌&&◌, ◌++◌, not, if◌then◌else◌, max, nat_le, Option, Some, None, Result, Ok, Err, IfOk, IsTrue}
use Rattle.std.specs.Option.{option_map_or}
use Rattle.std.proofs.lemmas.Bool.{and_from, and_parts}
use Rattle.std.proofs.lemmas.List.Folds.{list_all-append}
use Rattle.std.proofs.lemmas.Result.{IfOk-at_ok, IfOk-weaker}
use Rattle.hac_model.specs.Run.Answers.{and_then}
use Rattle.hac_model.specs.Run.Resolving.{wanted_directory, directory, directory_or_root, entry, item_and_dir, listed_directory, numbered_query, place, resolve, resolved, resolved_for, wanted_entry, holder, mount_of, outside_mounts, own_entry, slot, wanted_holder, wanted_own}
use Rattle.hac_model.specs.Run.Standing.{AllStand, AreThere, StandsAt, is_there, IsSlot, is_own}
use Rattle.hac_model.specs.Tree.Depends.{named_in}
use Rattle.hac_model.specs.Tree.Events.{are_directories, may_ask}
use Rattle.hac_model.specs.Tree.Limits.{is_text}
use Rattle.hac_model.specs.Tree.Paths.{are_names, join}
use Rattle.hac_model.specs.Tree.Sessions.{stands_in}
use Rattle.hac_model.specs.Tree.{is_directory_at, is_live, is_symlink_at, path_of, is_document_at, is_holder_at, is_mount_at}
use Rattle.hac_model.specs.Tree.Valid.{IsLayout, IsValid}
use Rattle.hac_model.specs.Query.Formula.{Formula}
use Rattle.hac_model.specs.Query.Formula as query
use Rattle.hac_model.specs.Query.Queries.{are_terms, is_query, letter_count, not_count, term_count}
use Rattle.hac_model.specs.Query.QueryReading.{are_rooted, is_spelled_query}
use Rattle.hac_model.specs.Script.Lines.{is_spelled, is_spelled_line, is_spelled_word}
use Rattle.hac_model.specs.Script.PathWords.{is_target}
use Rattle.hac_model.specs.Script.SpaceNames.{is_space_name}
use Rattle.hac_model.specs.declared.commands.Command.{Command}
use Rattle.hac_model.specs.declared.commands.Command.TheVariants as command
use Rattle.hac_model.specs.declared.commands.Line.{Line}
use Rattle.hac_model.specs.declared.limits.TheConstants.{NESTING_LIMIT, QUERY_LIMIT, TERMS_LIMIT}
use Rattle.hac_model.specs.declared.paths.PathWord.{PathWord}
use Rattle.hac_model.specs.declared.places.Place.{Place}
use Rattle.hac_model.specs.declared.places.Place.TheVariants.{There, Free}
use Rattle.hac_model.specs.declared.replies.Refusal.{Refusal}
use Rattle.hac_model.specs.declared.replies.Refusal.TheVariants.{NotDir, InMount}
use Rattle.hac_model.specs.declared.resolved.Resolved.{Resolved}
use Rattle.hac_model.specs.declared.resolved.Resolved.TheVariants.{Mkdir, Rmdir, Write, Cat, Ls, Cd, Mv, Rm, Ln, Readlink, Smkdir, Setq, Unq, Query, Sls, Sln, Srm, Sforget, Find, Smount, Ssync, Sumount}
use Rattle.hac_model.specs.declared.states.State.{State}
use Rattle.hac_model.proofs.FollowLemmas.{look-follows, place-free, place-lives}
use Rattle.hac_model.proofs.SessionLemmas.{session-there}
use Rattle.hac_model.proofs.TreeLemmas.{directory-lives, live-is}
use Rattle.hac_model.specs.Tree.Links.{parent_of}

-- what is known of a value is known of what comes of it
on-ok : {A B : Type 0} (P : A → Type 0) (Q : B → Type 0) (next : A → Result B Refusal) (r : Result A Refusal) → IfOk r P → ((x : A) → P x → IfOk (next x) Q) → IfOk (and_then next r) Q
on-ok P Q next (Ok x) here on = on x here
on-ok P Q next (Err refusal) here on = tt

-- a query with its directories by number has the same size as with them by word, and they are in the state
record IsNumbered (s : State) (raw : Formula PathWord) (asked : Formula ℕ) : Type 0 where
  terms : are_terms asked ≡ are_terms raw
  count : term_count asked ≡ term_count raw
  letters : letter_count asked ≡ letter_count raw
  nots : not_count asked ≡ not_count raw
  named : are_directories s (named_in asked) ≡ true

directories-append : (s : State) (ds es : List ℕ) → are_directories s ds ≡ true → are_directories s es ≡ true → are_directories s (ds ++ es) ≡ true
directories-append s ds es h k =
    list_all-append (λ d. is_directory_at s.entries d) ds es ∙ and_from (are_directories s ds) (are_directories s es) h k

-- In a tree, from a directory on.

module _ (s : State) (base : ℕ) (h : IsLayout s) (from : is_directory_at s.entries base ≡ true) where
  abbrev IsThere : Bool → ℕ → Type 0
  IsThere follow n = IsTrue (is_there s follow n)

  abbrev IsDirectory : ℕ → Type 0
  IsDirectory n = IsTrue (is_directory_at s.entries n)

  -- what is found is there, and no link where it was followed
  there : (follow : Bool) (word : PathWord) (n : ℕ) → place s base follow word ≡ Ok (There n) → IsThere follow n
  there follow word n is = and_from (is_live s.entries n) (not (follow && is_symlink_at s.entries n)) (live-is s.entries n (place-lives s base follow word n is)) (unlinked follow is)
    where
      unlinked : (follow : Bool) → place s base follow word ≡ Ok (There n) → not (follow && is_symlink_at s.entries n) ≡ true
      unlinked true is = ap not (look-follows s (join (path_of s base) word) n h is)
      unlinked false is = refl

  place-stands : (follow : Bool) (word : PathWord) → are_names word.names ≡ true → IfOk (place s base follow word) (StandsAt s follow)
  place-stands follow word named = at (place s base follow word) refl
    where
      at : (r : Result Place Refusal) → place s base follow word ≡ r → IfOk r (StandsAt s follow)
      at (Ok (There n)) is = there follow word n is
      at (Ok (Free dir name)) is = place-free s base follow word dir name h (directory-lives s.entries base from) named is
      at (Err refusal) is = tt

  -- a slot isn't in a mount either
  slot-stands : (follow : Bool) (word : PathWord) → are_names word.names ≡ true → IfOk (slot s base follow word) (IsSlot s follow)
  slot-stands follow word named = on-ok (StandsAt s follow) (IsSlot s follow) (outside_mounts s) (place s base follow word) (place-stands follow word named) (λ found stands. at found stands (mount_of s found) refl)
    where
      at : (found : Place) → StandsAt s follow found → (o : Option ℕ) → mount_of s found ≡ o → IfOk (option_map_or (λ mount. Err (InMount (path_of s mount))) o (Ok found)) (IsSlot s follow)
      at found stands None none = (stands, none)
      at found stands (Some mount) is = tt

  entry-stands : (follow : Bool) (word : PathWord) → IfOk (entry s base follow word) (IsThere follow)
  entry-stands follow word = at (place s base follow word) refl
    where
      at : (r : Result Place Refusal) → place s base follow word ≡ r → IfOk (and_then (wanted_entry s) r) (IsThere follow)
      at (Ok (There n)) is = there follow word n is
      at (Ok (Free dir name)) is = tt
      at (Err refusal) is = tt

  directory-stands : (word : PathWord) → IfOk (directory s base word) IsDirectory
  directory-stands word = on-ok (IsThere true) IsDirectory (wanted_directory s) (entry s base true word) (entry-stands true word) (λ n _. at n (is_directory_at s.entries n) refl)
    where
      at : (n : ℕ) (b : Bool) → is_directory_at s.entries n ≡ b → IfOk (if b then Ok n else Err (NotDir (path_of s n))) IsDirectory
      at n true is = is
      at n false is = tt

  abbrev IsOwn : Bool → ℕ → Type 0
  IsOwn follow n = IsTrue (is_own s follow n)

  abbrev IsHolder : ℕ → Type 0
  IsHolder n = IsTrue (is_holder_at s.entries n)

  own-stands : (follow : Bool) (word : PathWord) → IfOk (own_entry s base follow word) (IsOwn follow)
  own-stands follow word = on-ok (IsThere follow) (IsOwn follow) (wanted_own s) (entry s base follow word) (entry-stands follow word) (λ n there. at n there (is_document_at s.entries n) refl)
    where
      at : (n : ℕ) → IsThere follow n → (b : Bool) → is_document_at s.entries n ≡ b → IfOk (if b then Err (InMount (path_of s (parent_of s n))) else Ok n) (IsOwn follow)
      at n there true is = tt
      at n there false is = and_from (is_there s follow n) (not (is_document_at s.entries n)) there (ap not is)

  holder-stands : (word : PathWord) → IfOk (holder s base word) IsHolder
  holder-stands word = on-ok IsDirectory IsHolder (wanted_holder s) (directory s base word) (directory-stands word) (λ n there. at n there (is_mount_at s.entries n) refl)
    where
      at : (n : ℕ) → IsDirectory n → (b : Bool) → is_mount_at s.entries n ≡ b → IfOk (if b then Err (InMount (path_of s n)) else Ok n) IsHolder
      at n there true is = tt
      at n there false is = and_from (is_directory_at s.entries n) (not (is_mount_at s.entries n)) there (ap not is)

  listed-stands : (word : Option PathWord) → IfOk (listed_directory s base word) IsDirectory
  listed-stands (Some word) = directory-stands word
  listed-stands None = from

  rooted-stands : (word : Option PathWord) → IfOk (directory_or_root s base word) IsDirectory
  rooted-stands (Some word) = directory-stands word
  rooted-stands None = refl

  numbered-is : (raw : Formula PathWord) → IfOk (numbered_query s base raw) (IsNumbered s raw)
  numbered-is (query.Term term) = record { terms = refl; count = refl; letters = refl; nots = refl; named = refl }
  numbered-is (query.Dir word) =
      on-ok IsDirectory (IsNumbered s (query.Dir word)) (λ n. Ok (query.Dir n)) (directory s base word) (directory-stands word) (λ n there. record {
        terms = refl;
        count = refl;
        letters = refl;
        nots = refl;
        named = and_from (is_directory_at s.entries n) true there refl;
      })
  numbered-is (query.Not raw) =
      on-ok (IsNumbered s raw) (IsNumbered s (query.Not raw)) (λ q. Ok (query.Not q)) (numbered_query s base raw) (numbered-is raw) (λ q is. record {
        terms = is.terms;
        count = is.count;
        letters = is.letters;
        nots = ap (λ (k : ℕ). k + 1) is.nots;
        named = is.named;
      })
  numbered-is (query.And left right) =
      on-ok (IsNumbered s left) (IsNumbered s (query.And left right)) (λ p. and_then (λ q. Ok (query.And p q)) (numbered_query s base right)) (numbered_query s base left) (numbered-is left) (λ p l.
      on-ok (IsNumbered s right) (IsNumbered s (query.And left right)) (λ q. Ok (query.And p q)) (numbered_query s base right) (numbered-is right) (λ q r. record {
        terms = λ i. l.terms i && r.terms i;
        count = λ i. l.count i + r.count i;
        letters = λ i. l.letters i + r.letters i;
        nots = λ i. max (l.nots i) (r.nots i);
        named = directories-append s (named_in p) (named_in q) l.named r.named;
      }))
  numbered-is (query.Or left right) =
      on-ok (IsNumbered s left) (IsNumbered s (query.Or left right)) (λ p. and_then (λ q. Ok (query.Or p q)) (numbered_query s base right)) (numbered_query s base left) (numbered-is left) (λ p l.
      on-ok (IsNumbered s right) (IsNumbered s (query.Or left right)) (λ q. Ok (query.Or p q)) (numbered_query s base right) (numbered-is right) (λ q r. record {
        terms = λ i. l.terms i && r.terms i;
        count = λ i. l.count i + r.count i;
        letters = λ i. l.letters i + r.letters i;
        nots = λ i. max (l.nots i) (r.nots i);
        named = directories-append s (named_in p) (named_in q) l.named r.named;
      }))

  -- so a query that a line spells may be asked
  numbered-asks : (raw : Formula PathWord) → is_spelled_query raw ≡ true → IfOk (numbered_query s base raw) (λ asked. IsTrue (may_ask s asked))
  numbered-asks raw spelled = IfOk-weaker (numbered_query s base raw) (IsNumbered s raw) (λ asked. IsTrue (may_ask s asked)) asks (numbered-is raw)
    where
      asks : (asked : Formula ℕ) → IsNumbered s raw asked → IsTrue (may_ask s asked)
      asks asked is =
          let parts = and_parts (is_query raw) (are_rooted raw) spelled in
          let same : is_query asked ≡ is_query raw = λ i. is.terms i && nat_le (is.count i) TERMS_LIMIT && nat_le (is.letters i) QUERY_LIMIT && nat_le (is.nots i) NESTING_LIMIT in
          and_from (is_query asked) (are_directories s (named_in asked)) (same ∙ parts.0) is.named

  -- one path, to a slot, an entry or a directory
  at-slot : (make : Place → Resolved) (follow : Bool) (word : PathWord) → are_names word.names ≡ true → ((p : Place) → IsSlot s follow p → AllStand s (make p)) → IfOk (and_then (λ p. Ok (make p)) (slot s base follow word)) (AllStand s)
  at-slot make follow word named known = on-ok (IsSlot s follow) (AllStand s) (λ p. Ok (make p)) (slot s base follow word) (slot-stands follow word named) known

  at-entry : (make : ℕ → Resolved) (follow : Bool) (word : PathWord) → ((n : ℕ) → IsThere follow n → AllStand s (make n)) → IfOk (and_then (λ n. Ok (make n)) (entry s base follow word)) (AllStand s)
  at-entry make follow word known = on-ok (IsThere follow) (AllStand s) (λ n. Ok (make n)) (entry s base follow word) (entry-stands follow word) known

  at-own : (make : ℕ → Resolved) (follow : Bool) (word : PathWord) → ((n : ℕ) → IsOwn follow n → AllStand s (make n)) → IfOk (and_then (λ n. Ok (make n)) (own_entry s base follow word)) (AllStand s)
  at-own make follow word known = on-ok (IsOwn follow) (AllStand s) (λ n. Ok (make n)) (own_entry s base follow word) (own-stands follow word) known

  at-holder : (make : ℕ → Resolved) (word : PathWord) → ((n : ℕ) → IsHolder n → AllStand s (make n)) → IfOk (and_then (λ n. Ok (make n)) (holder s base word)) (AllStand s)
  at-holder make word known = on-ok IsHolder (AllStand s) (λ n. Ok (make n)) (holder s base word) (holder-stands word) known

  at-directory : (make : ℕ → Resolved) (word : PathWord) → ((n : ℕ) → IsDirectory n → AllStand s (make n)) → IfOk (and_then (λ n. Ok (make n)) (directory s base word)) (AllStand s)
  at-directory make word known = on-ok IsDirectory (AllStand s) (λ n. Ok (make n)) (directory s base word) (directory-stands word) known

  at-listed : (make : ℕ → Resolved) (word : Option PathWord) → ((n : ℕ) → IsDirectory n → AllStand s (make n)) → IfOk (and_then (λ n. Ok (make n)) (listed_directory s base word)) (AllStand s)
  at-listed make word known = on-ok IsDirectory (AllStand s) (λ n. Ok (make n)) (listed_directory s base word) (listed-stands word) known

  asking : (make : Formula ℕ → Resolved) (raw : Formula PathWord) → is_spelled_query raw ≡ true → ((q : Formula ℕ) → IsTrue (may_ask s q) → AllStand s (make q)) → IfOk (and_then (λ q. Ok (make q)) (numbered_query s base raw)) (AllStand s)
  asking make raw spelled known = on-ok (λ q. IsTrue (may_ask s q)) (AllStand s) (λ q. Ok (make q)) (numbered_query s base raw) (numbered-asks raw spelled) known

  -- an item and a directory
  at-both : (make : ℕ → ℕ → Resolved) (item dir : PathWord) → ((n m : ℕ) → AreThere s n m → AllStand s (make n m)) → IfOk (item_and_dir make s base item dir) (AllStand s)
  at-both make item dir known =
      on-ok (IsThere true) (AllStand s) (λ n. and_then (λ m. Ok (make n m)) (directory s base dir)) (entry s base true item) (entry-stands true item) (λ n lives.
      at-directory (make n) dir (λ m there. known n m (lives, there)))

  resolved-stands : (c : Command) → is_spelled c ≡ true → IfOk (resolved s base c) (AllStand s)
  resolved-stands (command.Mkdir path) spelled = at-slot Mkdir true path spelled (λ p there. there)
  resolved-stands (command.Rmdir path) spelled = at-holder Rmdir path (λ n there. there)
  resolved-stands (command.Write path text) spelled =
      let parts = and_parts (is_spelled_word path) (is_text text) spelled in
      at-slot (λ p. Write p text) true path parts.0 (λ p there. (there, parts.1))
  resolved-stands (command.Cat path) spelled = at-entry Cat true path (λ n lives. lives)
  resolved-stands (command.Ls path) spelled = at-listed Ls path (λ n there. there)
  resolved-stands command.Pwd spelled = from
  resolved-stands (command.Mv from to) spelled =
      let parts = and_parts (is_spelled_word from) (is_spelled_word to) spelled in
      on-ok (IsOwn false) (AllStand s) (λ n. and_then (λ p. Ok (Mv n p)) (slot s base false to)) (own_entry s base false from) (own-stands false from) (λ n lives.
      at-slot (Mv n) false to parts.1 (λ p there. (lives, there)))
  resolved-stands (command.Rm path) spelled = at-own Rm false path (λ n lives. lives)
  resolved-stands (command.Ln target path) spelled =
      let parts = and_parts (is_target target) (is_spelled_word path) spelled in
      at-slot (λ p. Ln p target) false path parts.1 (λ p there. (there, parts.0))
  resolved-stands (command.Readlink path) spelled = at-entry Readlink false path (λ n lives. lives)
  resolved-stands (command.Smkdir path raw) spelled =
      let parts = and_parts (is_spelled_word path) (is_spelled_query raw) spelled in
      on-ok (IsSlot s true) (AllStand s) (λ p. and_then (λ q. Ok (Smkdir p q)) (numbered_query s base raw)) (slot s base true path) (slot-stands true path parts.0) (λ p there.
      asking (Smkdir p) raw parts.1 (λ q may. (there, may)))
  resolved-stands (command.Setq path raw) spelled =
      let parts = and_parts (is_spelled_word path) (is_spelled_query raw) spelled in
      on-ok IsHolder (AllStand s) (λ n. and_then (λ q. Ok (Setq n q)) (numbered_query s base raw)) (holder s base path) (holder-stands path) (λ n there.
      asking (Setq n) raw parts.1 (λ q may. (there, may)))
  resolved-stands (command.Unq path) spelled = at-directory Unq path (λ n there. there)
  resolved-stands (command.Query path) spelled = at-directory Query path (λ n there. there)
  resolved-stands (command.Sls path) spelled = at-listed Sls path (λ n there. there)
  resolved-stands (command.Sln item dir) spelled = at-both Sln item dir (λ n m there. there)
  resolved-stands (command.Srm item dir) spelled = at-both Srm item dir (λ n m there. there)
  resolved-stands (command.Sforget item dir) spelled = at-both Sforget item dir (λ n m there. there)
  resolved-stands (command.Find raw) spelled = asking Find raw spelled (λ q may. may)
  resolved-stands (command.Smount path space) spelled =
      let parts = and_parts (is_spelled_word path) (is_space_name space) spelled in
      at-slot (λ p. Smount p space) true path parts.0 (λ p there. (there, parts.1))
  resolved-stands (command.Ssync path) spelled = at-directory Ssync path (λ n there. there)
  resolved-stands (command.Sumount path) spelled = at-directory Sumount path (λ n there. there)
  resolved-stands command.Index spelled = tt
  resolved-stands command.Counts spelled = tt
  resolved-stands command.Checkpoint spelled = tt
  resolved-stands other spelled = tt

  pub for-stands : (session : List ℕ) (c : Command) → is_space_name session ≡ true → is_spelled c ≡ true → IfOk (resolved_for s session base c) (AllStand s)
  for-stands session (command.Cd path) named spelled =
      on-ok IsDirectory (AllStand s) (λ n. Ok (Cd session n)) (directory_or_root s base path) (rooted-stands path) (λ n there. (named, there))
  for-stands session other named spelled = resolved-stands other spelled

-- so what a line leads to is there
pub line-stands : (s : State) (line : Line) (r : Resolved) → IsValid s → IsTrue (is_spelled_line line) → resolve s line ≡ Ok r → AllStand s r
line-stands s line r h spelled leads =
    let parts = and_parts (is_space_name line.session) (is_spelled line.command) spelled in
    IfOk-at_ok (AllStand s) leads
    (for-stands s (stands_in s.sessions line.session) h.layout (session-there s s.sessions line.session h.sessions.there) line.session line.command parts.0 parts.1)
