-- The words of the program: what the library finds in them is what they give.
use Rattle.std.proofs.Common.{◌≡◌, ◌∙◌, ◌||◌, ◌&&◌, ℕ, suc, Bool, cond, true, false, List, [], ◌∷◌, ◌++◌, length, Option, Some, None, refl, sym, ap, ap₂, subst, append-nil, arith, codes, inl, inr}
use Rattle.std.specs.Prelude.{◌⊎◌, ⊤, if◌then◌else◌, nat_le, option_and_then, option_map, option_to_list, is_some, fold, slice_get, unwrap_or}
use Rattle.std.specs.List.{AllByRecursion}
use Rattle.std.specs.Str.{IsUtf8, bytes_eq}
use Rattle.std.proofs.Math.Bool.{or-false}
use Rattle.hac_model.specs.Script.CommandLine.{Parsed, options_from, given_with_value, given_by, is_dashed, names_alone, with_name, with_new}
use Rattle.clap.specs.Values.{bool_text}
use Rattle.clap.specs.Kinds.{Kinds, or_else}
use Rattle.clap.specs.Faults.{check_fault, defaults_fault, entered_fault, fault_of, level_fault, settle_fault, step_fault, turn_fault, walk_fault, word_fault}
use Rattle.clap.specs.Walk.{Held, Row, Rule, Step, Text, Waiting, Walk, after_step, all_of, finished, first_of, has_row, idle, nothing_held, walk, more_values, is_pending, one_of, plain_word, positional, row_text, option, pushed, settled, settled_rows, value, walked, with_default, with_values, word_met}
use Rattle.clap.specs.declared.builder.value_parser.Reading.TheVariants.{AsWritten}
use Rattle.clap.specs.declared.parser.matches.ValueSource.TheVariants.{DefaultValue}
use Rattle.clap.specs.Words.{matches_of}
use Rattle.clap.specs.Simple.{built, entered, filled}
use Rattle.command_line.specs.Words.{hac, space_names, store_name}
use Rattle.command_line.proofs.WordLooks.{IsFaulty, IsPlain, Look, Looks, Valued, all-pass, alone, arguments, ends, faulty, faulty-behind, fresh, has_fault, held_with, looks, make_value, name_of, or-first, plain, tick_value, top, two-or-more, valued, with_value}
use Rattle.command_line.proofs.WordRowLemmas.{Holds, Shows, absent, added, has-row, is-apart, joined, moved, name-moves, new-moves, none-by-names, none-more, one_row, other-row, own-row, row_by, same-given, so_far, spaces_row, use-new, use-space, use-store, use-value, value-moves}

-- ---- what the library finds

-- between two words: the place of the next name, and what is held
abbrev place_of : List Text → ℕ
place_of [] = 1
place_of (name ∷ names) = 2

-- whether the word before was a space, behind which the library waits for more of them
abbrev waiting_by : Bool → Waiting
waiting_by false = idle
waiting_by true = positional

abbrev walk_at : Bool → Bool → ℕ → List Row → Option (Text × List Text) → Walk
walk_at ended behind place rows pending = record { held = held_with rows pending; waiting = waiting_by behind; position = place; is_trailing = ended; stopped = None }

-- the same where the value of an option is due
abbrev due_at : Valued → Bool → ℕ → List Row → Walk
due_at which ended place rows = record { held = held_with rows (Some (name_of which, [])); waiting = option (name_of which); position = place; is_trailing = ended; stopped = None }

abbrev end_from : Walk → List Text → Held
end_from walk words = (fold (walked arguments []) walk words).held

-- the faults behind the last word
abbrev end_fault : Held → Kinds
end_fault held = or_else (settle_fault arguments false held)
    (or_else (defaults_fault (settled arguments held).rows arguments) (check_fault top (finished arguments held) false))

abbrev fault_from : Walk → List Text → Kinds
fault_from walk words = or_else (walk_fault top [] walk words) (end_fault (end_from walk words))

abbrev rows_from : Walk → List Text → List Row
rows_from walk words = finished arguments (end_from walk words)

-- the texts of an argument, if it has any
abbrev pub texts_of : Text → List Row → List Text
texts_of id rows = unwrap_or (all_of id rows) []

-- what was given has a name that isn't empty, and each option at most once, and the rows have just that
pub record Found (given : Option Parsed) (rows : List Row) : Type 0 where
  pub fresh : Bool
  pub told : Valued → Option Text
  pub store : Text
  pub spaces : List Text
  pub given_is : given ≡ Some (so_far (if fresh then 1 else 0) (λ which. option_to_list (told which)) (store ∷ spaces))
  pub filled : nat_le 1 (length store) ≡ true
  pub new_is : one_of (codes "new") rows ≡ Some (bool_text fresh)
  pub told_is : (which : Valued) → first_of (name_of which) rows ≡ told which
  pub store_is : first_of (codes "store") rows ≡ Some store
  pub spaces_are : texts_of (codes "spaces") rows ≡ spaces

-- the library finds it, or tells a fault where nothing is asked for
abbrev pub Finds : Option Parsed → Kinds → List Row → Type 0
Finds given kinds rows = ((has_fault kinds ≡ true) × (option_and_then options_from given ≡ None)) ⊎ ((kinds ≡ []) × Found given rows)

abbrev FindsFrom : Option Parsed → Walk → List Text → Type 0
FindsFrom given walk words = Finds given (fault_from walk words) (rows_from walk words)

-- ---- no more words

same-both : {T : Type 0} (b : Bool) (x : T) → cond b x x ≡ x
same-both true x = refl
same-both false x = refl

or-true : {T : Type 0} (b : Bool) (x y : T) → cond (b || true) x y ≡ x
or-true true x y = refl
or-true false x y = refl

abbrev default_row : Row
default_row = record { id = codes "new"; values = codes "false" ∷ []; count = None; source = Some DefaultValue; reading = AsWritten }

-- only `--new` has a default
abbrev with_first : List Row → List Row
with_first rows = if has_row (codes "new") rows then rows else with_values (codes "new") AsWritten DefaultValue (codes "false" ∷ []) rows

module _ (rows : List Row) where
  abbrev first_added : List Row
  first_added = with_first rows

  abbrev second_added : List Row
  second_added = if has_row (codes "tick") first_added then first_added else first_added

  abbrev third_added : List Row
  third_added = if has_row (codes "make") second_added then second_added else second_added

  abbrev fourth_added : List Row
  fourth_added = if has_row (codes "store") third_added then third_added else third_added

  with-defaults : fold with_default rows arguments ≡ with_first rows
  with-defaults =
      same-both (has_row (codes "spaces") fourth_added) fourth_added ∙ same-both (has_row (codes "store") third_added) third_added
      ∙ same-both (has_row (codes "make") second_added) second_added ∙ same-both (has_row (codes "tick") first_added) first_added

  defaults-pass : defaults_fault rows arguments ≡ []
  unfolding defaults_fault
  defaults-pass =
      all-pass _ _ _ _ _ (same-both (has_row (codes "new") rows || false) []) (or-true (has_row (codes "tick") first_added) [] _)
      (or-true (has_row (codes "make") second_added) [] _) (or-true (has_row (codes "store") third_added) [] _) (or-true (has_row (codes "spaces") fourth_added) [] _)

defaulted : (rows : List Row) (fresh : Bool) → row_by (codes "new") rows ≡ (if fresh then Some (one_row (codes "new") (codes "true")) else None)
    → ((other : Text) → bytes_eq (codes "new") other ≡ false → row_by other (with_first rows) ≡ row_by other rows)
    × (one_of (codes "new") (with_first rows) ≡ Some (bool_text fresh))
defaulted rows true row =
    let same : with_first rows ≡ rows = rw (has-row (codes "new") rows _ row) refl in
    (λ other differs. ap (row_by other) same, ap (one_of (codes "new")) same ∙ ap (option_and_then row_text) row)
defaulted rows false row =
    let added : with_values (codes "new") AsWritten DefaultValue (codes "false" ∷ []) rows ≡ rows ++ default_row ∷ [] = absent (codes "new") (more_values DefaultValue (codes "false" ∷ [])) (default_row ∷ []) rows row in
    let same : with_first rows ≡ rows ++ default_row ∷ [] = ap (λ b. cond b rows (with_values (codes "new") AsWritten DefaultValue (codes "false" ∷ []) rows)) (has-row (codes "new") rows None row) ∙ added in (
      λ other differs. ap (row_by other) same ∙ other-row other default_row rows differs,
      ap (one_of (codes "new")) same ∙ ap (option_and_then row_text) (own-row (codes "new") default_row rows row refl),
    )

nothing-more : (news : ℕ) (values : Valued → List Text) (names : List Text) → joined (so_far news values names) (names_alone []) ≡ so_far news values names
nothing-more news values names = same-given _ _ _ _ _ _ _ _ (omega arith) (append-nil (values tick_value)) (append-nil (values make_value)) (append-nil names)

only-value : (name : Text) (told : Option Text) → option_and_then (λ r. slice_get r.values 0) (option_map (one_row name) told) ≡ told
only-value name None = refl
only-value name (Some text) = refl

all-values : (spaces : List Text) → unwrap_or (option_map (λ r. r.values) (spaces_row spaces)) [] ≡ spaces
all-values [] = refl
all-values (space ∷ spaces) = refl

end-of : (rows : List Row) (pending : Option (Text × List Text)) (news : ℕ) (values : Valued → List Text) (names : List Text) → Holds rows pending news values names
    → Finds (Some (so_far news values names)) (end_fault (held_with rows pending)) (finished arguments (held_with rows pending))
end-of rows pending news values names (inr (fails, too_much)) =
    inl (or-first (settle_fault arguments false (held_with rows pending)) _ fails, ap options_from (sym (nothing-more news values names)) ∙ too_much (names_alone []))
end-of rows pending news values names (inl (passes, shows)) = by names shows
  where
    now : List Row
    now = settled_rows arguments pending rows

    checked : end_fault (held_with rows pending) ≡ check_fault top (with_first now) false
    checked = rw (passes, defaults-pass now) (ap (λ r. check_fault top r false) (with-defaults now))

    by : (names : List Text) → Shows now news values names
        → Finds (Some (so_far news values names)) (end_fault (held_with rows pending)) (finished arguments (held_with rows pending))
    by [] shows =
        let has = defaulted now shows.fresh shows.new_row in
        let required : has_fault (check_fault top (with_first now) false) ≡ true = rw (has.0 (codes "store") refl ∙ shows.store_row) refl in
        inl (ap has_fault checked ∙ required, none-by-names (so_far news values []) refl)
    by (name ∷ spaces) shows =
        let has = defaulted now shows.fresh shows.new_row in
        let given : check_fault top (with_first now) false ≡ [] = rw (has.0 (codes "store") refl ∙ shows.store_row) refl in
        inr (
          checked ∙ given,
          record {
            fresh = shows.fresh;
            told = shows.told;
            store = name;
            spaces = spaces;
            given_is = ap Some (same-given _ _ _ _ _ _ _ _ shows.news_are (shows.told_are tick_value) (shows.told_are make_value) refl);
            filled = shows.filled;
            new_is = ap (one_of (codes "new")) (with-defaults now) ∙ has.1;
            told_is = λ which. ap (first_of (name_of which)) (with-defaults now)
                ∙ ap (option_and_then (λ r. slice_get r.values 0)) (has.0 (name_of which) (is-apart which).new_is ∙ shows.told_row which) ∙ only-value (name_of which) (shows.told which);
            store_is = ap (first_of (codes "store")) (with-defaults now) ∙ ap (option_and_then (λ r. slice_get r.values 0)) (has.0 (codes "store") refl ∙ shows.store_row);
            spaces_are = ap (texts_of (codes "spaces")) (with-defaults now)
                ∙ ap (λ row. unwrap_or (option_map (λ r. r.values) row) []) (has.0 (codes "spaces") refl ∙ shows.spaces_row) ∙ all-values spaces;
          },
        )

-- ---- one more word

-- the library refuses a word, and nothing is asked for
refused : (walk : Walk) (word : Text) (rest : List Text) (given : Option Parsed) → option_and_then options_from given ≡ None → has_fault (turn_fault top [] walk word) ≡ true → FindsFrom given walk (word ∷ rest)
unfolding walk_fault
refused walk word rest given none fails =
    inl (or-first (or_else (turn_fault top [] walk word) (walk_fault top [] (walked arguments [] walk word) rest)) _ (or-first (turn_fault top [] walk word) _ fails), none)

-- it takes a word
goes-on : (walk after : Walk) (word : Text) (rest : List Text) (given more : Option Parsed) → turn_fault top [] walk word ≡ [] → walked arguments [] walk word ≡ after → more ≡ given
    → FindsFrom more after rest → FindsFrom given walk (word ∷ rest)
unfolding walk_fault
goes-on walk after word rest given more passes goes same finds =
    let there : FindsFrom given (walked arguments [] walk word) rest = subst (λ w. FindsFrom given w rest) (sym goes) (subst (λ o. FindsFrom o after rest) same finds) in
    subst (λ kinds. Finds given (or_else (or_else kinds (walk_fault top [] (walked arguments [] walk word) rest)) (end_fault (end_from (walked arguments [] walk word) rest)))
    (rows_from (walked arguments [] walk word) rest)) (sym passes) there

abbrev given_in : Bool → List Text → Option Parsed
given_in true words = Some (names_alone words)
given_in false words = given_by words

-- what the library finds in the words that follow what was given; `ended`: they are names alone
abbrev FindsAt : Bool → Bool → List Text → List Row → Option (Text × List Text) → ℕ → (Valued → List Text) → List Text → Type 0
FindsAt ended behind words rows pending news values names =
    FindsFrom (option_map (joined (so_far news values names)) (given_in ended words)) (walk_at ended behind (place_of names) rows pending) words

-- the same where the value of an option is due
abbrev FindsDue : Valued → List Text → List Row → ℕ → (Valued → List Text) → List Text → Type 0
FindsDue which words rows news values names =
    FindsFrom (option_map (joined (so_far news values names)) (given_with_value (with_value which) words)) (due_at which false (place_of names) rows) words

-- what the library finds from each stand between two words
record FindsAll (words : List Text) : Type 0 where
  free : (ended behind : Bool) (rows : List Row) (pending : Option (Text × List Text)) (news : ℕ) (values : Valued → List Text) (names : List Text) → Holds rows pending news values names
      → FindsAt ended behind words rows pending news values names
  due : (which : Valued) (rows : List Row) (news : ℕ) (values : Valued → List Text) (names : List Text) → Shows rows news values names
      → FindsDue which words rows news values names

-- ---- a name

abbrev AsName : Bool → Text → Type 0
AsName true word = ⊤
AsName false word = IsPlain word

name-given : (ended : Bool) (word : Text) → AsName ended word → (rest : List Text) → given_in ended (word ∷ rest) ≡ option_map (with_name word) (given_in ended rest)
name-given true word is rest = refl
name-given false word is rest = is.given rest

as-value : (behind : Bool) (word : Text) (held : Held) → plain_word arguments (waiting_by behind) word held ≡ (held, value)
as-value false word held = refl
as-value true word held = refl

name-met : (ended : Bool) (word : Text) → AsName ended word → (behind : Bool) (place : ℕ) (held : Held) → word_met arguments [] ended (waiting_by behind) place word held ≡ (held, value)
name-met true word is behind place held = refl
name-met false word is behind place held = is.met (waiting_by behind) place held ∙ as-value behind word held

name-passes : (ended : Bool) (word : Text) → AsName ended word → (behind : Bool) (held : Held) → word_fault top [] ended (waiting_by behind) word held ≡ []
name-passes true word is behind held = refl
name-passes false word is behind held = is.passes (waiting_by behind) held

never : {T : Type 0} (b : Bool) (x y : T) → cond (b && false) x y ≡ y
never true x y = refl
never false x y = refl

abbrev store_argument : Rule
store_argument = record (filled store_name) { index = Some 1 }

abbrev spaces_argument : Rule
spaces_argument = record (filled space_names) { index = Some 2 }

module _ (rest : List Text) (later : FindsAll rest) (ended : Bool) (word : Text) (is : AsName ended word) (behind : Bool) where
  name-turn : (place : ℕ) (rows : List Row) (pending : Option (Text × List Text)) → turn_fault top [] (walk_at ended behind place rows pending) word ≡ step_fault top place (held_with rows pending) value
  name-turn place rows pending =
      ap₂ (λ (kinds : Kinds) (met : Held × Step). or_else kinds (step_fault top place met.0 met.1)) (name-passes ended word is behind (held_with rows pending)) (name-met ended word is behind place (held_with rows pending))

  name-walked : (place : ℕ) (rows : List Row) (pending : Option (Text × List Text))
      → walked arguments [] (walk_at ended behind place rows pending) word ≡ after_step arguments word (walk_at ended behind place rows pending) (held_with rows pending) value
  unfolding walked
  name-walked place rows pending = ap (λ (met : Held × Step). after_step arguments word (walk_at ended behind place rows pending) met.0 met.1) (name-met ended word is behind place (held_with rows pending))

  name-moved : (news : ℕ) (values : Valued → List Text) (names : List Text) → option_map (joined (so_far news values (names ++ word ∷ []))) (given_in ended rest) ≡ option_map (joined (so_far news values names)) (given_in ended (word ∷ rest))
  name-moved news values names =
      moved (so_far news values names) (so_far news values (names ++ word ∷ [])) (with_name word) (name-moves news values names word) (given_in ended rest)
      ∙ ap (option_map (joined (so_far news values names))) (sym (name-given ended word is rest))

  first-turn : (rows : List Row) (pending : Option (Text × List Text)) → turn_fault top [] (walk_at ended behind 1 rows pending) word ≡ settle_fault arguments false (held_with rows pending)
  first-turn rows pending = name-turn 1 rows pending ∙ never (is_pending store_argument pending) [] (settle_fault arguments false (held_with rows pending))

  first-walked : (rows : List Row) (pending : Option (Text × List Text)) → walked arguments [] (walk_at ended behind 1 rows pending) word ≡ walk_at ended false 2 (settled_rows arguments pending rows) (Some (codes "store", word ∷ []))
  first-walked rows pending =
      name-walked 1 rows pending
      ∙ ap₂ (λ (held : Held) (trailing : Bool). record { held = pushed (codes "store") word held; waiting = idle; position = 2; is_trailing = trailing; stopped = None })
      (never (is_pending store_argument pending) (held_with rows pending) (settled arguments (held_with rows pending))) (or-false ended)

  second-turn : (rows : List Row) (pending : Option (Text × List Text)) → turn_fault top [] (walk_at ended behind 2 rows pending) word ≡ settle_fault arguments false (held_with rows pending)
  second-turn rows pending = name-turn 2 rows pending ∙ never (is_pending spaces_argument pending) [] (settle_fault arguments false (held_with rows pending))

  second-walked : (rows : List Row) (pending : Option (Text × List Text)) → walked arguments [] (walk_at ended behind 2 rows pending) word ≡ walk_at ended true 2 (settled_rows arguments pending rows) (Some (codes "spaces", word ∷ []))
  second-walked rows pending =
      name-walked 2 rows pending
      ∙ ap₂ (λ (held : Held) (trailing : Bool). record { held = pushed (codes "spaces") word held; waiting = positional; position = 2; is_trailing = trailing; stopped = None })
      (never (is_pending spaces_argument pending) (held_with rows pending) (settled arguments (held_with rows pending))) (or-false ended)

  name-comes : (rows : List Row) (pending : Option (Text × List Text)) (news : ℕ) (values : Valued → List Text) (names : List Text) → Holds rows pending news values names
      → FindsAt ended behind (word ∷ rest) rows pending news values names
  name-comes rows pending news values [] (inl (passes, shows)) =
      goes-on (walk_at ended behind 1 rows pending) (walk_at ended false 2 (settled_rows arguments pending rows) (Some (codes "store", word ∷ []))) word rest
      _ (option_map (joined (so_far news values (word ∷ []))) (given_in ended rest)) (first-turn rows pending ∙ passes) (first-walked rows pending) (name-moved news values [])
      (later.free ended false (settled_rows arguments pending rows) (Some (codes "store", word ∷ [])) news values (word ∷ []) (use-store (settled_rows arguments pending rows) news values word shows))
  name-comes rows pending news values [] (inr (fails, too_much)) =
      refused (walk_at ended behind 1 rows pending) word rest _ (none-more (so_far news values []) (given_in ended (word ∷ rest)) too_much) (ap has_fault (first-turn rows pending) ∙ fails)
  name-comes rows pending news values (name ∷ spaces) (inl (passes, shows)) =
      goes-on (walk_at ended behind 2 rows pending) (walk_at ended true 2 (settled_rows arguments pending rows) (Some (codes "spaces", word ∷ []))) word rest
      _ (option_map (joined (so_far news values (name ∷ (spaces ++ word ∷ [])))) (given_in ended rest)) (second-turn rows pending ∙ passes) (second-walked rows pending) (name-moved news values (name ∷ spaces))
      (later.free ended true (settled_rows arguments pending rows) (Some (codes "spaces", word ∷ [])) news values (name ∷ (spaces ++ word ∷ []))
      (use-space (settled_rows arguments pending rows) news values name spaces word shows))
  name-comes rows pending news values (name ∷ spaces) (inr (fails, too_much)) =
      refused (walk_at ended behind 2 rows pending) word rest _ (none-more (so_far news values (name ∷ spaces)) (given_in ended (word ∷ rest)) too_much) (ap has_fault (second-turn rows pending) ∙ fails)

-- ---- options

-- a value that is due stays so behind `--`, and the next name or the end shows it
stays-faulty : (which : Valued) (rows : List Row) (names : List Text) (words : List Text) → has_fault (fault_from (due_at which true (place_of names) rows) words) ≡ true
unfolding walk_fault
stays-faulty tick_value rows names [] = refl
stays-faulty tick_value rows [] (word ∷ words) = refl
stays-faulty tick_value rows (name ∷ names) (word ∷ words) = refl
stays-faulty make_value rows names [] = refl
stays-faulty make_value rows [] (word ∷ words) = refl
stays-faulty make_value rows (name ∷ names) (word ∷ words) = refl

-- a word that begins an option looks the same behind a space
end-met : (behind : Bool) (place : ℕ) (rows : List Row) (pending : Option (Text × List Text))
    → (turn_fault top [] (walk_at false behind place rows pending) (codes "--") ≡ []) × (walked arguments [] (walk_at false behind place rows pending) (codes "--") ≡ walk_at true behind place rows pending)
unfolding walked
end-met false place rows pending = (refl, refl)
end-met true place rows pending = (refl, refl)

-- an option with all that belongs to it: what is pending is used, and then this
abbrev IsUse : Text → Text × List Text → Bool → ℕ → List Row → Option (Text × List Text) → Type 0
IsUse word used behind place rows pending =
    (turn_fault top [] (walk_at false behind place rows pending) word
    ≡ or_else (or_else (settle_fault arguments false (held_with rows pending)) (settle_fault arguments false (held_with (settled_rows arguments pending rows) (Some used)))) [])
    × (walked arguments [] (walk_at false behind place rows pending) word ≡ walk_at false false place (settled_rows arguments (Some used) (settled_rows arguments pending rows)) None)

new-met : (behind : Bool) (place : ℕ) (rows : List Row) (pending : Option (Text × List Text)) → IsUse (codes "--new") (codes "new", []) behind place rows pending
unfolding walked
new-met false place rows pending = (refl, refl)
new-met true place rows pending = (refl, refl)

value-met : (which : Valued) (text : Text) (behind : Bool) (place : ℕ) (rows : List Row) (pending : Option (Text × List Text))
    → IsUse (codes "--" ++ name_of which ++ codes "=" ++ text) (name_of which, text ∷ []) behind place rows pending
unfolding walked
value-met tick_value text false place rows pending = (refl, refl)
value-met tick_value text true place rows pending = (refl, refl)
value-met make_value text false place rows pending = (refl, refl)
value-met make_value text true place rows pending = (refl, refl)

value-given : (which : Valued) (text : Text) (words : List Text) → given_by ((codes "--" ++ name_of which ++ codes "=" ++ text) ∷ words) ≡ option_map (with_value which text) (given_by words)
value-given tick_value text words = refl
value-given make_value text words = refl

alone-met : (which : Valued) (behind : Bool) (place : ℕ) (rows : List Row) (pending : Option (Text × List Text))
    → (turn_fault top [] (walk_at false behind place rows pending) (codes "--" ++ name_of which) ≡ or_else (settle_fault arguments false (held_with rows pending)) [])
    × (walked arguments [] (walk_at false behind place rows pending) (codes "--" ++ name_of which) ≡ due_at which false place (settled_rows arguments pending rows))
unfolding walked
alone-met tick_value false place rows pending = (refl, refl)
alone-met tick_value true place rows pending = (refl, refl)
alone-met make_value false place rows pending = (refl, refl)
alone-met make_value true place rows pending = (refl, refl)

alone-given : (which : Valued) (words : List Text) → given_by ((codes "--" ++ name_of which) ∷ words) ≡ given_with_value (with_value which) words
alone-given tick_value words = refl
alone-given make_value words = refl

module _ (rest : List Text) (later : FindsAll rest) (behind : Bool) where
  end-comes : (rows : List Row) (pending : Option (Text × List Text)) (news : ℕ) (values : Valued → List Text) (names : List Text) → Holds rows pending news values names
      → FindsAt false behind (codes "--" ∷ rest) rows pending news values names
  end-comes rows pending news values names holds =
      let met = end-met behind (place_of names) rows pending in
      goes-on (walk_at false behind (place_of names) rows pending) (walk_at true behind (place_of names) rows pending) (codes "--") rest
      _ (option_map (joined (so_far news values names)) (given_in true rest)) met.0 met.1 refl (later.free true behind rows pending news values names holds)

  use-comes : (word : Text) (used : Text × List Text) (step : Parsed → Parsed) (rows : List Row) (pending : Option (Text × List Text)) (news new_news : ℕ) (values new_values : Valued → List Text) (names : List Text)
      → given_by (word ∷ rest) ≡ option_map step (given_by rest)
      → ((more : Parsed) → joined (so_far news values names) (step more) ≡ joined (so_far new_news new_values names) more)
      → IsUse word used behind (place_of names) rows pending
      → (Shows (settled_rows arguments pending rows) news values names → Holds (settled_rows arguments pending rows) (Some used) new_news new_values names)
      → Holds rows pending news values names
      → FindsAt false behind (word ∷ rest) rows pending news values names
  use-comes word used step rows pending news new_news values new_values names given moves met shown (inr (fails, too_much)) =
      refused (walk_at false behind (place_of names) rows pending) word rest _ (none-more (so_far news values names) (given_by (word ∷ rest)) too_much)
      (ap has_fault met.0 ∙ or-first (or_else (settle_fault arguments false (held_with rows pending)) _) [] (or-first (settle_fault arguments false (held_with rows pending)) _ fails))
  use-comes word used step rows pending news new_news values new_values names given moves met shown (inl (passes, shows)) = by (shown shows)
    where
      same : option_map (joined (so_far new_news new_values names)) (given_by rest) ≡ option_map (joined (so_far news values names)) (given_by (word ∷ rest))
      same =
          moved (so_far news values names) (so_far new_news new_values names) step moves (given_by rest) ∙ ap (option_map (joined (so_far news values names))) (sym given)

      first : turn_fault top [] (walk_at false behind (place_of names) rows pending) word ≡ or_else (settle_fault arguments false (held_with (settled_rows arguments pending rows) (Some used))) []
      first = met.0 ∙ ap (λ kinds. or_else (or_else kinds (settle_fault arguments false (held_with (settled_rows arguments pending rows) (Some used)))) []) passes

      by : Holds (settled_rows arguments pending rows) (Some used) new_news new_values names
          → FindsAt false behind (word ∷ rest) rows pending news values names
      by (inl (uses, has)) =
          goes-on (walk_at false behind (place_of names) rows pending) (walk_at false false (place_of names) (settled_rows arguments (Some used) (settled_rows arguments pending rows)) None) word rest
          _ (option_map (joined (so_far new_news new_values names)) (given_by rest)) (first ∙ ap (λ kinds. or_else kinds []) uses) met.1 same
          (later.free false false (settled_rows arguments (Some used) (settled_rows arguments pending rows)) None new_news new_values names (inl (refl, has)))
      by (inr (fails, too_much)) =
          refused (walk_at false behind (place_of names) rows pending) word rest _
          (ap (option_and_then options_from) (sym same) ∙ none-more (so_far new_news new_values names) (given_by rest) too_much)
          (ap has_fault first ∙ or-first (settle_fault arguments false (held_with (settled_rows arguments pending rows) (Some used))) [] fails)

  new-comes : (rows : List Row) (pending : Option (Text × List Text)) (news : ℕ) (values : Valued → List Text) (names : List Text) → Holds rows pending news values names
      → FindsAt false behind (codes "--new" ∷ rest) rows pending news values names
  new-comes rows pending news values names =
      use-comes (codes "--new") (codes "new", []) with_new rows pending news (suc news) values values names refl (new-moves news values names) (new-met behind (place_of names) rows pending)
      (use-new (settled_rows arguments pending rows) news values names)

  value-comes : (which : Valued) (text : Text) (rows : List Row) (pending : Option (Text × List Text)) (news : ℕ) (values : Valued → List Text) (names : List Text) → Holds rows pending news values names
      → FindsAt false behind ((codes "--" ++ name_of which ++ codes "=" ++ text) ∷ rest) rows pending news values names
  value-comes which text rows pending news values names =
      use-comes (codes "--" ++ name_of which ++ codes "=" ++ text) (name_of which, text ∷ []) (with_value which text) rows pending news news values (added which text values) names (value-given which text rest)
      (value-moves which news values names text) (value-met which text behind (place_of names) rows pending) (use-value which (settled_rows arguments pending rows) news values names text)

  alone-comes : (which : Valued) (rows : List Row) (pending : Option (Text × List Text)) (news : ℕ) (values : Valued → List Text) (names : List Text) → Holds rows pending news values names
      → FindsAt false behind ((codes "--" ++ name_of which) ∷ rest) rows pending news values names
  alone-comes which rows pending news values names (inl (passes, shows)) =
      let met = alone-met which behind (place_of names) rows pending in
      goes-on (walk_at false behind (place_of names) rows pending) (due_at which false (place_of names) (settled_rows arguments pending rows)) (codes "--" ++ name_of which) rest
      _ (option_map (joined (so_far news values names)) (given_with_value (with_value which) rest)) (met.0 ∙ ap (λ kinds. or_else kinds []) passes) met.1
      (ap (option_map (joined (so_far news values names))) (sym (alone-given which rest))) (later.due which (settled_rows arguments pending rows) news values names shows)
  alone-comes which rows pending news values names (inr (fails, too_much)) =
      refused (walk_at false behind (place_of names) rows pending) (codes "--" ++ name_of which) rest _ (none-more (so_far news values names) (given_by ((codes "--" ++ name_of which) ∷ rest)) too_much)
      (ap has_fault (alone-met which behind (place_of names) rows pending).0 ∙ or-first (settle_fault arguments false (held_with rows pending)) [] fails)

  faulty-comes : (word : Text) → IsFaulty word → (rows : List Row) (pending : Option (Text × List Text)) (news : ℕ) (values : Valued → List Text) (names : List Text)
      → FindsAt false behind (word ∷ rest) rows pending news values names
  faulty-comes word is rows pending news values names =
      refused (walk_at false behind (place_of names) rows pending) word rest _ (ap (λ o. option_and_then options_from (option_map (joined (so_far news values names)) o)) (is.given rest))
      (or-first (word_fault top [] false (waiting_by behind) word (held_with rows pending)) _ (is.fails (waiting_by behind) rows pending))

  word-comes : (word : Text) (look : Look) → Looks look word → (rows : List Row) (pending : Option (Text × List Text)) (news : ℕ) (values : Valued → List Text) (names : List Text) → Holds rows pending news values names
      → FindsAt false behind (word ∷ rest) rows pending news values names
  word-comes word plain is rows pending news values names = name-comes rest later false word is behind rows pending news values names
  word-comes word faulty is rows pending news values names = λ holds. faulty-comes word is rows pending news values names
  word-comes word ends is rows pending news values names =
      subst (λ w. Holds rows pending news values names → FindsAt false behind (w ∷ rest) rows pending news values names) (sym is)
      (end-comes rows pending news values names)
  word-comes word fresh is rows pending news values names =
      subst (λ w. Holds rows pending news values names → FindsAt false behind (w ∷ rest) rows pending news values names) (sym is)
      (new-comes rows pending news values names)
  word-comes word (alone which) is rows pending news values names =
      subst (λ w. Holds rows pending news values names → FindsAt false behind (w ∷ rest) rows pending news values names) (sym is)
      (alone-comes which rows pending news values names)
  word-comes word (valued which text) is rows pending news values names =
      subst (λ w. Holds rows pending news values names → FindsAt false behind (w ∷ rest) rows pending news values names) (sym is)
      (value-comes which text rows pending news values names)

-- ---- where the value of an option is due

-- what the library makes of a name then
abbrev met_due : Valued → Text → List Row → Held × Step
met_due which word rows = plain_word arguments (option (name_of which)) word (held_with rows (Some (name_of which, [])))

-- it is the value
due-met : (which : Valued) (word : Text) (place : ℕ) (rows : List Row)
    → (step_fault top place (met_due which word rows).0 (met_due which word rows).1 ≡ [])
    × (after_step arguments word (due_at which false place rows) (met_due which word rows).0 (met_due which word rows).1 ≡ walk_at false false place rows (Some (name_of which, word ∷ [])))
due-met tick_value word place rows = (refl, refl)
due-met make_value word place rows = (refl, refl)

-- `--` leaves it due
due-ended : (which : Valued) (place : ℕ) (rows : List Row)
    → (turn_fault top [] (due_at which false place rows) (codes "--") ≡ []) × (walked arguments [] (due_at which false place rows) (codes "--") ≡ due_at which true place rows)
unfolding walked
due-ended tick_value place rows = (refl, refl)
due-ended make_value place rows = (refl, refl)

-- and an option that the program has is refused
due-option : (which : Valued) (rows : List Row) → has_fault (word_fault top [] false (option (name_of which)) (codes "--new") (held_with rows (Some (name_of which, [])))) ≡ true
due-option tick_value rows = refl
due-option make_value rows = refl

due-alone : (which other : Valued) (rows : List Row) → has_fault (word_fault top [] false (option (name_of which)) (codes "--" ++ name_of other) (held_with rows (Some (name_of which, [])))) ≡ true
due-alone tick_value tick_value rows = refl
due-alone tick_value make_value rows = refl
due-alone make_value tick_value rows = refl
due-alone make_value make_value rows = refl

due-valued : (which other : Valued) (text : Text) (rows : List Row)
    → has_fault (word_fault top [] false (option (name_of which)) (codes "--" ++ name_of other ++ codes "=" ++ text) (held_with rows (Some (name_of which, [])))) ≡ true
due-valued tick_value tick_value text rows = refl
due-valued tick_value make_value text rows = refl
due-valued make_value tick_value text rows = refl
due-valued make_value make_value text rows = refl

module _ (rest : List Text) (later : FindsAll rest) (which : Valued) where
  due-plain : (word : Text) → IsPlain word → (rows : List Row) (news : ℕ) (values : Valued → List Text) (names : List Text) → Shows rows news values names
      → FindsDue which (word ∷ rest) rows news values names
  unfolding walked
  due-plain word is rows news values names shows =
      let held : Held = held_with rows (Some (name_of which, [])) in
      let due : Waiting = option (name_of which) in
      let one = due-met which word (place_of names) rows in
      let met : word_met arguments [] false due (place_of names) word held ≡ met_due which word rows = is.met due (place_of names) held in
      goes-on (due_at which false (place_of names) rows) (walk_at false false (place_of names) rows (Some (name_of which, word ∷ []))) word rest _
      (option_map (joined (so_far news (added which word values) names)) (given_by rest))
      (ap₂ (λ (kinds : Kinds) (met : Held × Step). or_else kinds (step_fault top (place_of names) met.0 met.1)) (is.passes due held) met ∙ one.0)
      (ap (λ (met : Held × Step). after_step arguments word (due_at which false (place_of names) rows) met.0 met.1) met ∙ one.1)
      (moved (so_far news values names) (so_far news (added which word values) names) (with_value which word) (value-moves which news values names word) (given_by rest)
      ∙ ap (option_map (joined (so_far news values names))) (sym (is.behind (with_value which) rest)))
      (later.free false false rows (Some (name_of which, word ∷ [])) news (added which word values) names (use-value which rows news values names word shows))

  -- `--`: the library tells the fault later
  due-end : (rows : List Row) (news : ℕ) (values : Valued → List Text) (names : List Text) → FindsDue which (codes "--" ∷ rest) rows news values names
  due-end rows news values names =
      let ended = due-ended which (place_of names) rows in
      goes-on (due_at which false (place_of names) rows) (due_at which true (place_of names) rows) (codes "--") rest None None ended.0 ended.1 refl (inl (stays-faulty which rows names rest, refl))

  due-refused : (word : Text) (rows : List Row) (news : ℕ) (values : Valued → List Text) (names : List Text) → given_with_value (with_value which) (word ∷ rest) ≡ None
      → has_fault (word_fault top [] false (option (name_of which)) word (held_with rows (Some (name_of which, [])))) ≡ true
      → FindsDue which (word ∷ rest) rows news values names
  due-refused word rows news values names none fails =
      refused (due_at which false (place_of names) rows) word rest _ (ap (λ o. option_and_then options_from (option_map (joined (so_far news values names)) o)) none)
      (or-first (word_fault top [] false (option (name_of which)) word (held_with rows (Some (name_of which, [])))) _ fails)

  due-comes : (word : Text) (look : Look) → Looks look word → (rows : List Row) (news : ℕ) (values : Valued → List Text) (names : List Text) → Shows rows news values names
      → FindsDue which (word ∷ rest) rows news values names
  due-comes word plain is rows news values names shows = due-plain word is rows news values names shows
  due-comes word faulty is rows news values names shows =
      due-refused word rows news values names (is.behind (with_value which) rest) (is.fails (option (name_of which)) rows (Some (name_of which, [])))
  due-comes word ends is rows news values names shows =
      subst (λ w. FindsDue which (w ∷ rest) rows news values names) (sym is)
      (due-end rows news values names)
  due-comes word fresh is rows news values names shows =
      subst (λ w. FindsDue which (w ∷ rest) rows news values names) (sym is)
      (due-refused (codes "--new") rows news values names refl (due-option which rows))
  due-comes word (alone other) is rows news values names shows =
      let two : is_dashed (codes "--" ++ name_of other) ≡ true = two-or-more 45 45 (name_of other) in
      subst (λ w. FindsDue which (w ∷ rest) rows news values names) (sym is)
      (due-refused (codes "--" ++ name_of other) rows news values names (faulty-behind (codes "--" ++ name_of other) two (with_value which) rest) (due-alone which other rows))
  due-comes word (valued other text) is rows news values names shows =
      let long : Text = codes "--" ++ name_of other ++ codes "=" ++ text in
      let two : is_dashed long ≡ true = two-or-more 45 45 (name_of other ++ codes "=" ++ text) in
      subst (λ w. FindsDue which (w ∷ rest) rows news values names) (sym is)
      (due-refused long rows news values names (faulty-behind long two (with_value which) rest) (due-valued which other text rows))

-- ---- all the words

at-end : (ended behind : Bool) (rows : List Row) (pending : Option (Text × List Text)) (news : ℕ) (values : Valued → List Text) (names : List Text) → Holds rows pending news values names
    → FindsAt ended behind [] rows pending news values names
unfolding walk_fault
at-end ended behind rows pending news values names holds =
    subst (λ given. FindsFrom given (walk_at ended behind (place_of names) rows pending) []) (sym (same ended)) (end-of rows pending news values names holds)
  where
    same : (b : Bool) → option_map (joined (so_far news values names)) (given_in b []) ≡ Some (so_far news values names)
    same true = ap Some (nothing-more news values names)
    same false = ap Some (nothing-more news values names)

due-at-end : (which : Valued) (rows : List Row) (news : ℕ) (values : Valued → List Text) (names : List Text) → FindsDue which [] rows news values names
unfolding walk_fault
due-at-end tick_value rows news values names = inl (refl, refl)
due-at-end make_value rows news values names = inl (refl, refl)

found-all : (words : List Text) → AllByRecursion IsUtf8 words → FindsAll words
found-all [] texts = record { free = at-end; due = λ which rows news values names shows. due-at-end which rows news values names }
found-all (word ∷ rest) texts =
    let later = found-all rest texts.1 in
    let look = looks word texts.0 in
    record { free = by later look.0 look.1; due = λ which. due-comes rest later which word look.0 look.1 }
  where
    by : FindsAll rest → (look : Look) → Looks look word → (ended behind : Bool) (rows : List Row) (pending : Option (Text × List Text)) (news : ℕ) (values : Valued → List Text) (names : List Text)
        → Holds rows pending news values names → FindsAt ended behind (word ∷ rest) rows pending news values names
    by later look is true behind rows pending news values names holds = name-comes rest later true word tt behind rows pending news values names holds
    by later look is false behind rows pending news values names holds = word-comes rest later behind word look is rows pending news values names holds

-- no word is the name of a subcommand
not-entered : (stop : Option (Text × List Text)) → (entered_fault (built hac) stop ≡ []) × (is_some (entered (built hac) stop) ≡ false)
not-entered None = (refl, refl)
not-entered (Some stop) = (refl, refl)

-- nothing was given yet
abbrev no_values : Valued → List Text
no_values which = []

nothing-before : (given : Option Parsed) → option_map (joined (so_far 0 no_values [])) given ≡ given
nothing-before None = refl
nothing-before (Some given) = ap Some (same-given _ _ _ _ _ _ _ _ (omega arith) refl refl refl)

-- the library finds what the words give
pub words-found : (words : List Text) → AllByRecursion IsUtf8 words → Finds (given_by words) (fault_of hac words) (matches_of hac words)
words-found words texts =
    let no_entry = not-entered (walk arguments [] nothing_held words).stopped in
    let shows : Shows [] 0 no_values [] = record { fresh = false; told = λ which. None; news_are = refl; told_are = λ which. refl; new_row = refl; told_row = λ which. refl; store_row = refl; spaces_row = refl; filled = refl } in
    subst (λ kinds. Finds (given_by words) kinds (matches_of hac words)) (sym (ap₂ (λ below entered. level_fault top [] nothing_held words entered below) no_entry.0 no_entry.1))
    (subst (λ given. FindsFrom given (walk_at false false 1 [] None) words) (nothing-before (given_by words)) ((found-all words texts).free false false [] None 0 no_values [] (inl (refl, shows))))
