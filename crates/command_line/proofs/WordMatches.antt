-- What a caller of the library knows of the words of the program.
use Rattle.std.proofs.Common.{◌≡◌, ◌∙◌, ℕ, Bool, true, false, true≢false, List, [], ◌∷◌, length, Option, Some, None, refl, sym, ap, ap₂, subst, codes, inl, inr, map, String, string_bytes}
use Rattle.std.specs.Prelude.{IsSome, if◌then◌else◌, is_some, nat_le, option_and_then, option_map, option_to_list, unwrap_or}
use Rattle.std.specs.Borrow.{Bor}
use Rattle.std.specs.List.{AllByRecursion}
use Rattle.std.specs.Str.{IsUtf8}
use Rattle.std.proofs.lemmas.Str.{IsUtf8-string_bytes}
use Rattle.hac_model.specs.Script.CommandLine.{Parsed, Options, Space, options_from, fresh_of, given_by, make_of, options, spaces_of, store_of, tick_of}
use Rattle.clap.specs.Values.{bool_text}
use Rattle.clap.specs.Kinds.{Kinds}
use Rattle.clap.specs.Faults.{fault_of}
use Rattle.clap.specs.Simple.{App}
use Rattle.clap.specs.Walk.{Row, Text, first_of, one_of}
use Rattle.clap.specs.Words.{HasKind, HasMatchesOf, found_of, first_value, is_simple_and_free, kind_of, matched_of, matches_of, one_text, raw_values, rows_of}
use Rattle.clap.specs.declared.error.Error.{Error}
use Rattle.clap.specs.declared.parser.matches.ArgMatches.{ArgMatches}
use Rattle.clap.proofs.WalkLemmas.{first_value-rows, one_text-rows, raw_values-rows}
use Rattle.command_line.specs.Words.{fault_by, hac, values_of}
use Rattle.command_line.specs.declared.words.WordsFault.{WordsFault}
use Rattle.command_line.specs.declared.words.WordsFault.TheVariants.{Memory, Usage}
use Rattle.command_line.proofs.WordLooks.{Valued, has_fault, make_value, name_of, tick_value}
use Rattle.command_line.proofs.WordLemmas.{Finds, texts_of, words-found}
use Rattle.command_line.proofs.WordRowLemmas.{none-through, so_far}

-- each word is text
all-text : {Z : Type 0} (words : List (String Z)) → AllByRecursion IsUtf8 (map string_bytes words)
all-text [] = tt
all-text (word ∷ words) = (IsUtf8-string_bytes word, all-text words)

-- the values of an argument, if it has any
abbrev pub given_values : ArgMatches → Text → List Text
given_values m id = unwrap_or (option_map raw_values (matched_of (found_of m) id)) []

-- what a getter answers of them, or none in its place
pub names-got : (m : ArgMatches) (got : Option (Bor (List (Bor Text)))) (given none : Bor (List (Bor Text)))
    → option_map (λ texts. map (λ text. text.now) texts.now) got ≡ option_map raw_values (matched_of (found_of m) (codes "spaces")) → none.now ≡ [] → given ≡ unwrap_or got none
    → map (λ text. text.now) given.now ≡ given_values m (codes "spaces")
names-got m got given none gets empty is = ap (λ (texts : Bor (List (Bor Text))). map (λ text. text.now) texts.now) is ∙ by got ∙ ap (λ texts. unwrap_or texts []) gets
  where
    by : (o : Option (Bor (List (Bor Text)))) → map (λ text. text.now) (unwrap_or o none).now ≡ unwrap_or (option_map (λ texts. map (λ text. text.now) texts.now) o) []
    by None = ap (map (λ text. text.now)) empty
    by (Some texts) = refl

-- what the words give is in the matches
pub record IsFound (given : Option Parsed) (m : ArgMatches) : Type 0 where
  pub fresh : Bool
  pub told : Valued → Option Text
  pub store : Text
  pub spaces : List Text
  pub given_is : given ≡ Some (so_far (if fresh then 1 else 0) (λ which. option_to_list (told which)) (store ∷ spaces))
  pub filled : nat_le 1 (length store) ≡ true
  pub new_is : one_text (found_of m) (codes "new") ≡ Some (bool_text fresh)
  pub told_is : (which : Valued) → first_value (found_of m) (name_of which) ≡ told which
  pub store_is : first_value (found_of m) (codes "store") ≡ Some store
  pub spaces_are : given_values m (codes "spaces") ≡ spaces

found-in : (given : Option Parsed) (kinds : Kinds) (rows : List Row) (m : ArgMatches) → Finds given kinds rows → kinds ≡ [] → rows_of (found_of m) ≡ rows → IsFound given m
found-in given kinds rows m (inl (fails, none)) passes same = absurd (true≢false (sym fails ∙ ap has_fault passes))
found-in given kinds rows m (inr (free, found)) passes same = record {
  fresh = found.fresh;
  told = found.told;
  store = found.store;
  spaces = found.spaces;
  given_is = found.given_is;
  filled = found.filled;
  new_is = one_text-rows (found_of m) (codes "new") ∙ ap (one_of (codes "new")) same ∙ found.new_is;
  told_is = λ which. first_value-rows (found_of m) (name_of which) ∙ ap (first_of (name_of which)) same ∙ found.told_is which;
  store_is = first_value-rows (found_of m) (codes "store") ∙ ap (first_of (codes "store")) same ∙ found.store_is;
  spaces_are = ap (λ values. unwrap_or values []) (raw_values-rows (found_of m) (codes "spaces")) ∙ ap (texts_of (codes "spaces")) same ∙ found.spaces_are;
}

pub found-in-matches : {Z : Type 0} (words : List (String Z)) (app : App) (m : ArgMatches) → app ≡ hac
    → (is_simple_and_free app ≡ true → fault_of app (map string_bytes words) ≡ []) → HasMatchesOf app (map string_bytes words) m → IsFound (given_by (map string_bytes words)) m
found-in-matches words app m is passes has =
    let texts = map string_bytes words in
    found-in (given_by texts) (fault_of hac texts) (matches_of hac texts) m (words-found texts (all-text words))
    (subst (λ a. is_simple_and_free a ≡ true → fault_of a texts ≡ []) is passes refl)
    (subst (λ a. HasMatchesOf a texts m) is has refl).0

is_memory : WordsFault → Bool
is_memory Memory = true
is_memory Usage = false

none-by : (given : Option Parsed) (kinds : Kinds) (rows : List Row) (e : Error) → Finds given kinds rows → HasKind kinds e → fault_by (kind_of e) ≡ Usage → option_and_then options_from given ≡ None
unfolding is_memory
none-by given kinds rows e (inl (fails, none)) has is = none
none-by given kinds rows e (inr (free, found)) has is = elim (subst (λ ks. HasKind ks e) free has) [
  | inl memory ↦ absurd (true≢false (ap is_memory (sym (ap fault_by memory) ∙ is)))
  | inr never ↦ absurd never
]

pub none-by-error : {Z : Type 0} (words : List (String Z)) (app : App) (e : Error) → app ≡ hac
    → (is_simple_and_free app ≡ true → HasKind (fault_of app (map string_bytes words)) e) → fault_by (kind_of e) ≡ Usage → options (map string_bytes words) ≡ None
unfolding options
none-by-error words app e is has usage =
    let texts = map string_bytes words in
    none-by (given_by texts) (fault_of hac texts) (matches_of hac texts) e (words-found texts (all-text words))
    (subst (λ a. is_simple_and_free a ≡ true → HasKind (fault_of a texts) e) is has refl) usage

-- what they ask for, by the numbers that `--tick` and `--make` give and by the spaces
abbrev asked_with : Bool → Text → Option ℕ → Option (Option ℕ) → Option (List Space) → Option Options
asked_with fresh store tick make spaces =
    option_and_then (λ tick. option_and_then (λ make. option_map (λ spaces. record { fresh = fresh; tick = tick; make = make; store = store; spaces = spaces }) spaces) make) tick

asked-is : (fresh : Bool) (values : Valued → List Text) (store : Text) (spaces : List Text) → nat_le 1 (length store) ≡ true
    → options_from (so_far (if fresh then 1 else 0) values (store ∷ spaces)) ≡ asked_with fresh store (tick_of (values tick_value)) (make_of (values make_value)) (spaces_of spaces)
asked-is fresh values store spaces filled = by fresh (tick_of (values tick_value)) (make_of (values make_value))
  where
    rest_of : Bool → ℕ → Option ℕ → Option Options
    rest_of fresh tick make =
        option_and_then (λ store. option_map (λ spaces. record { fresh = fresh; tick = tick; make = make; store = store; spaces = spaces }) (spaces_of spaces)) (store_of (store ∷ spaces))

    numbers : (fresh : Bool) (tick : Option ℕ) (make : Option (Option ℕ)) → option_and_then (λ tick. option_and_then (rest_of fresh tick) make) tick ≡ asked_with fresh store tick make (spaces_of spaces)
    numbers fresh None make = refl
    numbers fresh (Some tick) None = refl
    numbers fresh (Some tick) (Some make) = rw filled refl

    by : (fresh : Bool) (tick : Option ℕ) (make : Option (Option ℕ))
        → option_and_then (λ fresh. option_and_then (λ tick. option_and_then (rest_of fresh tick) make) tick) (fresh_of (if fresh then 1 else 0)) ≡ asked_with fresh store tick make (spaces_of spaces)
    by true tick make = numbers true tick make
    by false tick make = numbers false tick make

values-are : (got : Option (Bor Text)) → values_of got ≡ option_to_list (option_map (λ text. text.now) got)
values-are None = refl
values-are (Some text) = refl

-- and in what the getters of the matches answer
module _ {Z : Type 0} (words : List (String Z)) (m : ArgMatches) (has : IsFound (given_by (map string_bytes words)) m) where
  abbrev named : Option (List Space)
  named = spaces_of (given_values m (codes "spaces"))

  abbrev Gets : Text → Option (Bor Text) → Type 0
  Gets name got = option_map (λ text. text.now) got ≡ first_value (found_of m) name

  abbrev tick_asked : Option ℕ
  tick_asked = tick_of (option_to_list (has.told tick_value))

  abbrev make_asked : Option (Option ℕ)
  make_asked = make_of (option_to_list (has.told make_value))

  asked-told : options (map string_bytes words) ≡ asked_with has.fresh has.store tick_asked make_asked named
  unfolding options
  asked-told =
      ap (option_and_then options_from) has.given_is ∙ asked-is has.fresh (λ which. option_to_list (has.told which)) has.store has.spaces has.filled
      ∙ ap (λ spaces. asked_with has.fresh has.store tick_asked make_asked (spaces_of spaces)) (sym has.spaces_are)

  got-told : (which : Valued) (got : Option (Bor Text)) → Gets (name_of which) got → values_of got ≡ option_to_list (has.told which)
  got-told which got gets = values-are got ∙ ap option_to_list (gets ∙ has.told_is which)

  tick-got : (got : Option (Bor Text)) → Gets (codes "tick") got → tick_asked ≡ tick_of (values_of got)
  tick-got got gets = ap tick_of (sym (got-told tick_value got gets))

  make-got : (got : Option (Bor Text)) → Gets (codes "make") got → make_asked ≡ make_of (values_of got)
  make-got got gets = ap make_of (sym (got-told make_value got gets))

  -- the value of `--tick` is no number that it takes
  pub none-by-tick : (got : Option (Bor Text)) → Gets (codes "tick") got → tick_of (values_of got) ≡ None → options (map string_bytes words) ≡ None
  none-by-tick got gets none = asked-told ∙ ap (λ tick. asked_with has.fresh has.store tick make_asked named) (tick-got got gets ∙ none)

  -- nor is that of `--make`
  pub none-by-make : (got : Option (Bor Text)) → Gets (codes "make") got → make_of (values_of got) ≡ None → options (map string_bytes words) ≡ None
  none-by-make got gets none =
      asked-told ∙ ap (λ make. asked_with has.fresh has.store tick_asked make named) (make-got got gets ∙ none) ∙ none-through tick_asked _ (λ tick. refl)

  -- some name behind the store's is that of no space, or they may not stand together
  pub none-by-spaces : named ≡ None → options (map string_bytes words) ≡ None
  none-by-spaces none =
      asked-told ∙ ap (asked_with has.fresh has.store tick_asked make_asked) none ∙ none-through tick_asked _ (λ tick. none-through make_asked _ (λ make. refl))

  module _ (got : Option (Bor Text)) (gets : option_map (λ text. text.now) got ≡ first_value (found_of m) (codes "store")) where
    pub store-got : IsSome got
    store-got = by got (gets ∙ has.store_is)
      where
        by : (o : Option (Bor Text)) → option_map (λ text. text.now) o ≡ Some has.store → IsSome o
        by None same = absurd (true≢false (sym (ap is_some same)))
        by (Some text) same = refl

    pub got-is : (tick : ℕ) (make : Option ℕ) (tick_given make_given : Option (Bor Text)) (text : Bor Text) (flag : Bool) (spaces : List Space)
        → Gets (codes "tick") tick_given → Some tick ≡ tick_of (values_of tick_given) → Gets (codes "make") make_given → Some make ≡ make_of (values_of make_given) → named ≡ Some spaces
        → got ≡ Some text → (one_text (found_of m) (codes "new") ≡ Some (codes "true") → flag ≡ true) → (one_text (found_of m) (codes "new") ≡ Some (codes "false") → flag ≡ false)
        → options (map string_bytes words) ≡ Some (record { fresh = flag; tick = tick; make = make; store = text.now; spaces = spaces })
    got-is tick make tick_given make_given text flag spaces tick_gets tick_is make_gets make_is spaces_are one on off =
        let store_is : text.now ≡ has.store = ap (λ (o : Option Text). unwrap_or o []) (sym (ap (option_map (λ (t : Bor Text). t.now)) one) ∙ gets ∙ has.store_is) in
        asked-told ∙ ap₂ (λ t m. asked_with has.fresh has.store t m named) (tick-got tick_given tick_gets ∙ sym tick_is) (make-got make_given make_gets ∙ sym make_is)
        ∙ ap (asked_with has.fresh has.store (Some tick) (Some make)) spaces_are
        ∙ ap₂ (λ (f : Bool) (t : Text). Some (record { fresh = f; tick = tick; make = make; store = t; spaces = spaces })) (sym (flag-is has.fresh has.new_is)) (sym store_is)
      where
        flag-is : (b : Bool) → one_text (found_of m) (codes "new") ≡ Some (bool_text b) → flag ≡ b
        flag-is true same = on same
        flag-is false same = off same
