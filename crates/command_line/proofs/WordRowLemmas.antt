-- The words of the program: the rows that the library keeps of what was given, and what they tell.
use Rattle.std.proofs.Common.{◌≡◌, ◌∙◌, ◌||◌, ℕ, suc, ◌+◌, Bool, cond, true, false, true≢false, List, [], ◌∷◌, ◌++◌, length, Option, Some, None, refl, sym, ap, subst, append_assoc, append-nil, arith, codes, le-leb, lt-ltb, inl, inr}
use Rattle.std.specs.Prelude.{◌⊎◌, if◌then◌else◌, nat_lt, nat_le, option_and_then, option_map, option_to_list, is_some, find, unwrap_or}
use Rattle.std.specs.List.{list_any}
use Rattle.std.specs.Option.{option_or}
use Rattle.std.specs.Str.{bytes_eq}
use Rattle.std.proofs.lemmas.List.Folds.{find-append}
use Rattle.hac_model.specs.Script.CommandLine.{Parsed, options_from, fresh_of, make_of, store_of, tick_of, with_name, with_new}
use Rattle.clap.specs.Faults.{settle_fault}
use Rattle.clap.specs.Walk.{Row, Text, at_row, has_row, more_values, stronger, settled_rows, with_values}
use Rattle.clap.specs.declared.builder.value_parser.Reading.TheVariants.{AsWritten}
use Rattle.clap.specs.declared.parser.matches.ValueSource.TheVariants.{CommandLine}
use Rattle.command_line.proofs.WordLooks.{Valued, arguments, has_fault, held_with, make_value, name_of, same-bytes, tick_value, with_value}

-- ---- rows

abbrev pub row_by : Text → List Row → Option Row
row_by id rows = find (λ r. bytes_eq r.id id) rows

abbrev pub one_row : Text → Text → Row
one_row id text = record { id = id; values = text ∷ []; count = None; source = Some CommandLine; reading = AsWritten }

pub any-find : {T : Type 0} (p : T → Bool) (xs : List T) → list_any p xs ≡ is_some (find p xs)
any-find p [] = refl
any-find p (x ∷ xs) = by (p x) (any-find p xs)
  where
    by : (b : Bool) → list_any p xs ≡ is_some (find p xs) → (b || list_any p xs) ≡ is_some (cond b (Some x) (find p xs))
    by true later = refl
    by false later = later

pub has-row : (id : Text) (rows : List Row) (row : Option Row) → row_by id rows ≡ row → has_row id rows ≡ is_some row
has-row id rows row is = any-find (λ r. bytes_eq r.id id) rows ∙ ap is_some is

-- what is changed isn't there
pub absent : (id : Text) (change : Row → List Row) (missing rows : List Row) → row_by id rows ≡ None → at_row id change missing rows ≡ rows ++ missing
absent id change missing [] none = refl
absent id change missing (row ∷ rows) none = by (bytes_eq row.id id) none (absent id change missing rows)
  where
    by : (b : Bool) → cond b (Some row) (row_by id rows) ≡ None → (row_by id rows ≡ None → at_row id change missing rows ≡ rows ++ missing)
        → cond b (change row ++ rows) (row ∷ at_row id change missing rows) ≡ row ∷ (rows ++ missing)
    by true some later = absurd (true≢false (ap is_some some))
    by false none later = ap (λ more. row ∷ more) (later none)

-- a first use of an argument gives one more row
pub used-first : (id text : Text) (rows : List Row) → row_by id rows ≡ None → with_values id AsWritten CommandLine (text ∷ []) (at_row id (λ row. []) [] rows) ≡ rows ++ one_row id text ∷ []
used-first id text rows none =
    let same : at_row id (λ row. []) [] rows ≡ rows = absent id (λ row. []) [] rows none ∙ append-nil rows in
    ap (with_values id AsWritten CommandLine (text ∷ [])) same ∙ absent id (more_values CommandLine (text ∷ [])) (one_row id text ∷ []) rows none

pub own-row : (id : Text) (row : Row) (rows : List Row) → row_by id rows ≡ None → bytes_eq row.id id ≡ true → row_by id (rows ++ row ∷ []) ≡ Some row
own-row id row rows none same = find-append (λ r. bytes_eq r.id id) rows (row ∷ []) ∙ ap (λ o. option_or o (row_by id (row ∷ []))) none ∙ rw same refl

pub or-none : {T : Type 0} (o : Option T) → option_or o None ≡ o
or-none None = refl
or-none (Some x) = refl

pub other-row : (id : Text) (row : Row) (rows : List Row) → bytes_eq row.id id ≡ false → row_by id (rows ++ row ∷ []) ≡ row_by id rows
other-row id row rows differs =
    let last : row_by id (row ∷ []) ≡ None = rw differs refl in
    find-append (λ r. bytes_eq r.id id) rows (row ∷ []) ∙ ap (option_or (row_by id rows)) last ∙ or-none (row_by id rows)

-- ids that were told apart by one are told apart by the other
pub apart : (id other name : Text) → bytes_eq name id ≡ true → bytes_eq id other ≡ false → bytes_eq name other ≡ false
apart id other name same differs = subst (λ (text : Text). bytes_eq text other ≡ false) (sym (same-bytes name id same)) differs

-- a row that is changed keeps its id, so it is found as before, and no other is
module _ (id : Text) (change : Row → Row) (keeps : (row : Row) → (change row).id ≡ row.id) (missing : List Row) where
  changed-row : (rows : List Row) (row : Row) → row_by id rows ≡ Some row → row_by id (at_row id (λ r. change r ∷ []) missing rows) ≡ Some (change row)
  changed-row [] row found = absurd (true≢false (sym (ap is_some found)))
  changed-row (first ∷ rows) row found = by (bytes_eq first.id id) refl found (changed-row rows row)
    where
      by : (b : Bool) → bytes_eq first.id id ≡ b → cond b (Some first) (row_by id rows) ≡ Some row
          → (row_by id rows ≡ Some row → row_by id (at_row id (λ r. change r ∷ []) missing rows) ≡ Some (change row))
          → row_by id (cond b (change first ∷ rows) (first ∷ at_row id (λ r. change r ∷ []) missing rows)) ≡ Some (change row)
      by true same here later =
          let first_is : first ≡ row = ap (λ (o : Option Row). unwrap_or o first) here in
          let kept : bytes_eq (change first).id id ≡ true = ap (λ (text : Text). bytes_eq text id) (keeps first) ∙ same in
          ap (λ b. cond b (Some (change first)) (row_by id rows)) kept ∙ ap (λ (r : Row). Some (change r)) first_is
      by false differs there later =
          ap (λ b. cond b (Some first) (row_by id (at_row id (λ r. change r ∷ []) missing rows))) differs ∙ later there

  unchanged-row : (other : Text) → bytes_eq id other ≡ false → (rows : List Row) (row : Row) → row_by id rows ≡ Some row
      → row_by other (at_row id (λ r. change r ∷ []) missing rows) ≡ row_by other rows
  unchanged-row other differs [] row found = absurd (true≢false (sym (ap is_some found)))
  unchanged-row other differs (first ∷ rows) row found = by (bytes_eq first.id id) refl found (unchanged-row other differs rows row)
    where
      by : (b : Bool) → bytes_eq first.id id ≡ b → cond b (Some first) (row_by id rows) ≡ Some row
          → (row_by id rows ≡ Some row → row_by other (at_row id (λ r. change r ∷ []) missing rows) ≡ row_by other rows)
          → row_by other (cond b (change first ∷ rows) (first ∷ at_row id (λ r. change r ∷ []) missing rows)) ≡ row_by other (first ∷ rows)
      by true same here later =
          let changed : bytes_eq (change first).id other ≡ false = apart id other (change first).id (ap (λ (text : Text). bytes_eq text id) (keeps first) ∙ same) differs in
          ap (λ b. cond b (Some (change first)) (row_by other rows)) changed
          ∙ sym (ap (λ b. cond b (Some first) (row_by other rows)) (apart id other first.id same differs))
      by false apart_from there later = ap (λ (o : Option Row). cond (bytes_eq first.id other) (Some first) o) (later there)

-- ---- what was given

abbrev pub parsed_of : ℕ → List Text → List Text → List Text → Parsed
parsed_of news ticks makes names = record { news = news; ticks = ticks; makes = makes; names = names }

-- `--new` so many times, these values of each option that has one, and these names
abbrev pub so_far : ℕ → (Valued → List Text) → List Text → Parsed
so_far news values names = parsed_of news (values tick_value) (values make_value) names

-- what was given, and what follows gives
abbrev pub joined : Parsed → Parsed → Parsed
joined before more = parsed_of (before.news + more.news) (before.ticks ++ more.ticks) (before.makes ++ more.makes) (before.names ++ more.names)

-- one value more
abbrev pub added : Valued → Text → (Valued → List Text) → Valued → List Text
added tick_value word values tick_value = values tick_value ++ word ∷ []
added tick_value word values make_value = values make_value
added make_value word values tick_value = values tick_value
added make_value word values make_value = values make_value ++ word ∷ []

pub same-given : (news more_news : ℕ) (ticks more_ticks makes more_makes names more_names : List Text) → news ≡ more_news → ticks ≡ more_ticks → makes ≡ more_makes → names ≡ more_names
    → parsed_of news ticks makes names ≡ parsed_of more_news more_ticks more_makes more_names
same-given news more_news ticks more_ticks makes more_makes names more_names a b c d = λ i. record { news = a i; ticks = b i; makes = c i; names = d i }

pub none-through : {T U : Type 0} (o : Option T) (f : T → Option U) → ((x : T) → f x ≡ None) → option_and_then f o ≡ None
none-through None f none = refl
none-through (Some x) f none = none x

pub none-by-news : (given : Parsed) → fresh_of given.news ≡ None → options_from given ≡ None
none-by-news given none = rw none refl

pub none-by-ticks : (given : Parsed) → tick_of given.ticks ≡ None → options_from given ≡ None
none-by-ticks given none = none-through (fresh_of given.news) _ (λ fresh. rw none refl)

pub none-by-makes : (given : Parsed) → make_of given.makes ≡ None → options_from given ≡ None
none-by-makes given none = none-through (fresh_of given.news) _ (λ fresh. none-through (tick_of given.ticks) _ (λ tick. rw none refl))

pub none-by-names : (given : Parsed) → store_of given.names ≡ None → options_from given ≡ None
none-by-names given none =
    none-through (fresh_of given.news) _ (λ fresh. none-through (tick_of given.ticks) _ (λ tick. none-through (make_of given.makes) _ (λ make. rw none refl)))

-- whatever follows, nothing is asked for
abbrev pub IsTooMuch : Parsed → Type 0
IsTooMuch before = (more : Parsed) → options_from (joined before more) ≡ None

pub two-news : (values : Valued → List Text) (names : List Text) → IsTooMuch (so_far 2 values names)
two-news values names more =
    let many : 2 + more.news ≡ suc (suc more.news) = omega arith in
    none-by-news (joined (so_far 2 values names) more) (ap fresh_of many)

pub two-values : (which : Valued) (news : ℕ) (a b : Text) (values : Valued → List Text) (names : List Text) → values which ≡ a ∷ b ∷ [] → IsTooMuch (so_far news values names)
two-values tick_value news a b values names is more = none-by-ticks (joined (so_far news values names) more) (ap (λ (given : List Text). tick_of (given ++ more.ticks)) is)
two-values make_value news a b values names is more = none-by-makes (joined (so_far news values names) more) (ap (λ (given : List Text). make_of (given ++ more.makes)) is)

pub empty-name : (news : ℕ) (values : Valued → List Text) → IsTooMuch (so_far news values ([] ∷ []))
empty-name news values more = none-by-names (joined (so_far news values ([] ∷ [])) more) refl

pub none-more : (before : Parsed) (more : Option Parsed) → IsTooMuch before → option_and_then options_from (option_map (joined before) more) ≡ None
none-more before None too_much = refl
none-more before (Some more) too_much = too_much more

-- one more thing is given
pub moved : (before after : Parsed) (step : Parsed → Parsed) → ((more : Parsed) → joined before (step more) ≡ joined after more) → (more : Option Parsed)
    → option_map (joined after) more ≡ option_map (joined before) (option_map step more)
moved before after step same None = refl
moved before after step same (Some more) = ap Some (sym (same more))

pub new-moves : (news : ℕ) (values : Valued → List Text) (names : List Text) (more : Parsed) → joined (so_far news values names) (with_new more) ≡ joined (so_far (suc news) values names) more
new-moves news values names more = same-given _ _ _ _ _ _ _ _ (omega arith) refl refl refl

pub value-moves : (which : Valued) (news : ℕ) (values : Valued → List Text) (names : List Text) (word : Text) (more : Parsed)
    → joined (so_far news values names) (with_value which word more) ≡ joined (so_far news (added which word values) names) more
value-moves tick_value news values names word more = same-given _ _ _ _ _ _ _ _ refl (sym (append_assoc (values tick_value) (word ∷ []) more.ticks)) refl refl
value-moves make_value news values names word more = same-given _ _ _ _ _ _ _ _ refl refl (sym (append_assoc (values make_value) (word ∷ []) more.makes)) refl

pub name-moves : (news : ℕ) (values : Valued → List Text) (names : List Text) (word : Text) (more : Parsed) → joined (so_far news values names) (with_name word more) ≡ joined (so_far news values (names ++ word ∷ [])) more
name-moves news values names word more = same-given _ _ _ _ _ _ _ _ refl refl refl (sym (append_assoc names (word ∷ []) more.names))

-- ---- the rows of what was given

-- the rows of names: the first one is the store's, and spaces follow
abbrev pub store_row_of : List Text → Option Row
store_row_of [] = None
store_row_of (name ∷ names) = Some (one_row (codes "store") name)

abbrev pub row_of_spaces : Text → List Text → Row
row_of_spaces space spaces = record { id = codes "spaces"; values = space ∷ spaces; count = None; source = Some CommandLine; reading = AsWritten }

abbrev pub spaces_row : List Text → Option Row
spaces_row [] = None
spaces_row (space ∷ spaces) = Some (row_of_spaces space spaces)

abbrev pub spaces_row_of : List Text → Option Row
spaces_row_of [] = None
spaces_row_of (name ∷ names) = spaces_row names

-- the store's name isn't empty
abbrev pub is_filled : List Text → Bool
is_filled [] = true
is_filled (name ∷ names) = nat_le 1 (length name)

-- each option at most once, and the names
pub record Shows (rows : List Row) (news : ℕ) (values : Valued → List Text) (names : List Text) : Type 0 where
  pub fresh : Bool
  pub told : Valued → Option Text
  pub news_are : news ≡ (if fresh then 1 else 0)
  pub told_are : (which : Valued) → values which ≡ option_to_list (told which)
  pub new_row : row_by (codes "new") rows ≡ (if fresh then Some (one_row (codes "new") (codes "true")) else None)
  pub told_row : (which : Valued) → row_by (name_of which) rows ≡ option_map (one_row (name_of which)) (told which)
  pub store_row : row_by (codes "store") rows ≡ store_row_of names
  pub spaces_row : row_by (codes "spaces") rows ≡ spaces_row_of names
  pub filled : is_filled names ≡ true

-- the library holds what was given, or too much was given, and the fault will be told
abbrev pub Holds : List Row → Option (Text × List Text) → ℕ → (Valued → List Text) → List Text → Type 0
Holds rows pending news values names =
    ((settle_fault arguments false (held_with rows pending) ≡ []) × Shows (settled_rows arguments pending rows) news values names)
    ⊎ ((has_fault (settle_fault arguments false (held_with rows pending)) ≡ true) × IsTooMuch (so_far news values names))

-- the name of an option with a value is none of the others
pub record IsApart (which : Valued) : Type 0 where
  pub new_is : bytes_eq (codes "new") (name_of which) ≡ false
  pub store_is : bytes_eq (codes "store") (name_of which) ≡ false
  pub spaces_are : bytes_eq (codes "spaces") (name_of which) ≡ false
  pub is_new : bytes_eq (name_of which) (codes "new") ≡ false
  pub is_store : bytes_eq (name_of which) (codes "store") ≡ false
  pub are_spaces : bytes_eq (name_of which) (codes "spaces") ≡ false

pub is-apart : (which : Valued) → IsApart which
is-apart tick_value = record { new_is = refl; store_is = refl; spaces_are = refl; is_new = refl; is_store = refl; are_spaces = refl }
is-apart make_value = record { new_is = refl; store_is = refl; spaces_are = refl; is_new = refl; is_store = refl; are_spaces = refl }

pub use-new : (rows : List Row) (news : ℕ) (values : Valued → List Text) (names : List Text) → Shows rows news values names → Holds rows (Some (codes "new", [])) (suc news) values names
use-new rows news values names shows = by shows.fresh shows.news_are shows.new_row
  where
    by : (fresh : Bool) → news ≡ (if fresh then 1 else 0) → row_by (codes "new") rows ≡ (if fresh then Some (one_row (codes "new") (codes "true")) else None)
        → Holds rows (Some (codes "new", [])) (suc news) values names
    by true is row =
        let two : suc news ≡ 2 = omega (arith, is) in
        inr (rw (has-row (codes "new") rows _ row) refl, subst (λ n. IsTooMuch (so_far n values names)) (sym two) (two-news values names))
    by false is row =
        let after : List Row = rows ++ one_row (codes "new") (codes "true") ∷ [] in
        let one : suc news ≡ 1 = omega (arith, is) in
        inl (
          rw (has-row (codes "new") rows _ row) refl,
          subst (λ r. Shows r (suc news) values names) (sym (used-first (codes "new") (codes "true") rows row)) (record {
            fresh = true;
            told = shows.told;
            news_are = one;
            told_are = shows.told_are;
            new_row = own-row (codes "new") (one_row (codes "new") (codes "true")) rows row refl;
            told_row = λ which. other-row (name_of which) (one_row (codes "new") (codes "true")) rows (is-apart which).new_is ∙ shows.told_row which;
            store_row = other-row (codes "store") (one_row (codes "new") (codes "true")) rows refl ∙ shows.store_row;
            spaces_row = other-row (codes "spaces") (one_row (codes "new") (codes "true")) rows refl ∙ shows.spaces_row;
            filled = shows.filled;
          }),
        )

-- a first value of an option is used, and a second one is refused
abbrev pub told_with : Valued → Text → (Valued → Option Text) → Valued → Option Text
told_with tick_value word told tick_value = Some word
told_with tick_value word told make_value = told make_value
told_with make_value word told tick_value = told tick_value
told_with make_value word told make_value = Some word

pub added-told : (which other : Valued) (word : Text) (values : Valued → List Text) (told : Valued → Option Text) → values which ≡ [] → ((each : Valued) → values each ≡ option_to_list (told each))
    → added which word values other ≡ option_to_list (told_with which word told other)
added-told tick_value tick_value word values told none are = ap (λ (t : List Text). t ++ word ∷ []) none
added-told tick_value make_value word values told none are = are make_value
added-told make_value tick_value word values told none are = are tick_value
added-told make_value make_value word values told none are = ap (λ (t : List Text). t ++ word ∷ []) none

pub told-rows : (which other : Valued) (word : Text) (rows : List Row) (told : Valued → Option Text) → row_by (name_of which) rows ≡ None
    → ((each : Valued) → row_by (name_of each) rows ≡ option_map (one_row (name_of each)) (told each))
    → row_by (name_of other) (rows ++ one_row (name_of which) word ∷ []) ≡ option_map (one_row (name_of other)) (told_with which word told other)
told-rows tick_value tick_value word rows told none are = own-row (codes "tick") (one_row (codes "tick") word) rows none refl
told-rows tick_value make_value word rows told none are = other-row (codes "make") (one_row (codes "tick") word) rows refl ∙ are make_value
told-rows make_value tick_value word rows told none are = other-row (codes "tick") (one_row (codes "make") word) rows refl ∙ are tick_value
told-rows make_value make_value word rows told none are = own-row (codes "make") (one_row (codes "make") word) rows none refl

pub value-refused : (which : Valued) (rows : List Row) (word first : Text) → row_by (name_of which) rows ≡ Some (one_row (name_of which) first)
    → has_fault (settle_fault arguments false (held_with rows (Some (name_of which, word ∷ [])))) ≡ true
value-refused tick_value rows word first row = rw (has-row (codes "tick") rows _ row) refl
value-refused make_value rows word first row = rw (has-row (codes "make") rows _ row) refl

pub value-used : (which : Valued) (rows : List Row) (word : Text) → row_by (name_of which) rows ≡ None
    → (settle_fault arguments false (held_with rows (Some (name_of which, word ∷ []))) ≡ []) × (settled_rows arguments (Some (name_of which, word ∷ [])) rows ≡ rows ++ one_row (name_of which) word ∷ [])
value-used tick_value rows word row = (rw (has-row (codes "tick") rows _ row) refl, used-first (codes "tick") word rows row)
value-used make_value rows word row = (rw (has-row (codes "make") rows _ row) refl, used-first (codes "make") word rows row)

pub added-own : (which : Valued) (word : Text) (values : Valued → List Text) → added which word values which ≡ values which ++ word ∷ []
added-own tick_value word values = refl
added-own make_value word values = refl

pub use-value : (which : Valued) (rows : List Row) (news : ℕ) (values : Valued → List Text) (names : List Text) (word : Text) → Shows rows news values names
    → Holds rows (Some (name_of which, word ∷ [])) news (added which word values) names
use-value which rows news values names word shows = by (shows.told which) (shows.told_are which) (shows.told_row which)
  where
    by : (told : Option Text) → values which ≡ option_to_list told → row_by (name_of which) rows ≡ option_map (one_row (name_of which)) told
        → Holds rows (Some (name_of which, word ∷ [])) news (added which word values) names
    by (Some first) is row =
        inr (value-refused which rows word first row, two-values which news first word (added which word values) names (added-own which word values ∙ ap (λ (t : List Text). t ++ word ∷ []) is))
    by None is row =
        let used = value-used which rows word row in
        inl (
          used.0,
          subst (λ r. Shows r news (added which word values) names) (sym used.1) (record {
            fresh = shows.fresh;
            told = told_with which word shows.told;
            news_are = shows.news_are;
            told_are = λ other. added-told which other word values shows.told is shows.told_are;
            new_row = other-row (codes "new") (one_row (name_of which) word) rows (is-apart which).is_new ∙ shows.new_row;
            told_row = λ other. told-rows which other word rows shows.told row shows.told_row;
            store_row = other-row (codes "store") (one_row (name_of which) word) rows (is-apart which).is_store ∙ shows.store_row;
            spaces_row = other-row (codes "spaces") (one_row (name_of which) word) rows (is-apart which).are_spaces ∙ shows.spaces_row;
            filled = shows.filled;
          }),
        )

pub use-store : (rows : List Row) (news : ℕ) (values : Valued → List Text) (word : Text) → Shows rows news values [] → Holds rows (Some (codes "store", word ∷ [])) news values (word ∷ [])
use-store rows news values [] shows = inr (rw (has-row (codes "store") rows _ shows.store_row) refl, empty-name news values)
use-store rows news values (x ∷ xs) shows =
    let long : nat_lt 0 (length (x ∷ xs)) ≡ true = lt-ltb 0 (length (x ∷ xs)) (omega arith) in
    inl (
      rw (has-row (codes "store") rows _ shows.store_row, long) refl,
      subst (λ r. Shows r news values ((x ∷ xs) ∷ [])) (sym (used-first (codes "store") (x ∷ xs) rows shows.store_row)) (record {
        fresh = shows.fresh;
        told = shows.told;
        news_are = shows.news_are;
        told_are = shows.told_are;
        new_row = other-row (codes "new") (one_row (codes "store") (x ∷ xs)) rows refl ∙ shows.new_row;
        told_row = λ which. other-row (name_of which) (one_row (codes "store") (x ∷ xs)) rows (is-apart which).store_is ∙ shows.told_row which;
        store_row = own-row (codes "store") (one_row (codes "store") (x ∷ xs)) rows shows.store_row refl;
        spaces_row = other-row (codes "spaces") (one_row (codes "store") (x ∷ xs)) rows refl ∙ shows.spaces_row;
        filled = le-leb 1 (length (x ∷ xs)) (omega arith);
      }),
    )

-- one more value of a row
abbrev pub one_more : Text → Row → Row
one_more word row = record row { values = row.values ++ word ∷ []; source = Some (stronger row.source CommandLine) }

-- the row of a first space is new, and each further one is a value more of it
pub space-rows : (rows : List Row) (word : Text) (spaces : List Text) → row_by (codes "spaces") rows ≡ spaces_row spaces
    → (row_by (codes "spaces") (with_values (codes "spaces") AsWritten CommandLine (word ∷ []) rows) ≡ spaces_row (spaces ++ word ∷ []))
    × ((other : Text) → bytes_eq (codes "spaces") other ≡ false → row_by other (with_values (codes "spaces") AsWritten CommandLine (word ∷ []) rows) ≡ row_by other rows)
space-rows rows word [] row =
    let same : with_values (codes "spaces") AsWritten CommandLine (word ∷ []) rows ≡ rows ++ one_row (codes "spaces") word ∷ []
    = absent (codes "spaces") (more_values CommandLine (word ∷ [])) (one_row (codes "spaces") word ∷ []) rows row in (
      ap (row_by (codes "spaces")) same ∙ own-row (codes "spaces") (one_row (codes "spaces") word) rows row refl,
      λ other differs. ap (row_by other) same ∙ other-row other (one_row (codes "spaces") word) rows differs,
    )
space-rows rows word (space ∷ spaces) row = (
  changed-row (codes "spaces") (one_more word) (λ r. refl) (one_row (codes "spaces") word ∷ []) rows (row_of_spaces space spaces) row,
  λ other differs. unchanged-row (codes "spaces") (one_more word) (λ r. refl) (one_row (codes "spaces") word ∷ []) other differs rows (row_of_spaces space spaces) row,
)

pub use-space : (rows : List Row) (news : ℕ) (values : Valued → List Text) (name : Text) (spaces : List Text) (word : Text) → Shows rows news values (name ∷ spaces)
    → Holds rows (Some (codes "spaces", word ∷ [])) news values (name ∷ (spaces ++ word ∷ []))
use-space rows news values name spaces word shows =
    let after = space-rows rows word spaces shows.spaces_row in
    inl (
      refl,
      record {
        fresh = shows.fresh;
        told = shows.told;
        news_are = shows.news_are;
        told_are = shows.told_are;
        new_row = after.1 (codes "new") refl ∙ shows.new_row;
        told_row = λ which. after.1 (name_of which) (is-apart which).spaces_are ∙ shows.told_row which;
        store_row = after.1 (codes "store") refl ∙ shows.store_row;
        spaces_row = after.0;
        filled = shows.filled;
      },
    )
