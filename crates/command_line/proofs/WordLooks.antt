-- What each word of the program is, to the definition and to the library.
use Rattle.std.proofs.Common.{◌≡◌, ◌∙◌, ◌&&◌, ◌||◌, ℕ, suc, ◌+◌, Bool, true, false, true≢false, List, [], ◌∷◌, ◌++◌, append_assoc, take, drop, length, Option, None, refl, sym, ap, ap₂, subst, take-append-drop, arith, eqb-true, codes, rules, le-leb}
use Rattle.std.specs.Prelude.{◌==◌, not, option_map, slice_get}
use Rattle.std.specs.List.{after_first, before_first, position_or_len}
use Rattle.std.specs.Str.{IsUtf8, bytes_eq, chars, encode_utf8_all}
use Rattle.std.proofs.lemmas.Slice.Eq.{bytes_eq-Decides}
use Rattle.std.proofs.lemmas.Str.{IsUtf8-past_char, encode_ascii, encodes-chars}
use Rattle.hac_model.specs.Script.CommandLine.{Parsed, begins_make, begins_tick, ends_options, given_with_value, given_by, is_dashed, is_make_word, is_new, is_tick_word, with_make, with_name, with_tick}
use Rattle.clap.specs.Lexer.{has_byte}
use Rattle.clap.specs.Kinds.{Kinds, or_else}
use Rattle.clap.specs.Faults.{bundle_step_fault, flags_fault, word_fault}
use Rattle.clap.specs.Simple.{Shape, built}
use Rattle.clap.specs.Walk.{Held, Row, Rule, Text, Waiting, idle, option, positional, plain_word, word_met}
use Rattle.command_line.specs.Words.{hac}
use Rattle.std.proofs.lemmas.Bool.{false_from_ne_true}

-- the command as the library completes it, and its arguments
abbrev pub top : Shape
top = (built hac).top

abbrev pub arguments : List Rule
arguments = top.rules

-- some fault is told
abbrev pub has_fault : Kinds → Bool
has_fault [] = false
has_fault (kind ∷ kinds) = true

pub or-first : (a b : Kinds) → has_fault a ≡ true → has_fault (or_else a b) ≡ true
or-first [] b fails = absurd (true≢false (sym fails))
or-first (kind ∷ kinds) b fails = fails

pub all-pass : (a b c d e : Kinds) → a ≡ [] → b ≡ [] → c ≡ [] → d ≡ [] → e ≡ [] → or_else a (or_else b (or_else c (or_else d (or_else e [])))) ≡ []
all-pass a b c d e first second third fourth fifth = rw (first, second, third, fourth, fifth) refl

-- an option with a value
pub data Valued : Type 0 where
  tick_value : Valued
  make_value : Valued

-- its name, and what its value gives
abbrev pub name_of : Valued → Text
name_of tick_value = codes "tick"
name_of make_value = codes "make"

abbrev pub with_value : Valued → Text → Parsed → Parsed
with_value tick_value = with_tick
with_value make_value = with_make

-- what the library holds between two words
abbrev pub held_with : List Row → Option (Text × List Text) → Held
held_with rows pending = record { rows = rows; pending = pending; skip = 0 }

-- ---- what a word is, before `--`

-- a name, or a value
pub record IsPlain (word : Text) : Type 0 where
  pub given : (words : List Text) → given_by (word ∷ words) ≡ option_map (with_name word) (given_by words)
  pub behind : (step : Text → Parsed → Parsed) (words : List Text) → given_with_value step (word ∷ words) ≡ option_map (step word) (given_by words)
  pub met : (waiting : Waiting) (place : ℕ) (held : Held) → word_met arguments [] false waiting place word held ≡ plain_word arguments waiting word held
  pub passes : (waiting : Waiting) (held : Held) → word_fault top [] false waiting word held ≡ []

-- no option that the program has
pub record IsFaulty (word : Text) : Type 0 where
  pub given : (words : List Text) → given_by (word ∷ words) ≡ None
  pub behind : (step : Text → Parsed → Parsed) (words : List Text) → given_with_value step (word ∷ words) ≡ None
  pub fails : (waiting : Waiting) (rows : List Row) (pending : Option (Text × List Text)) → has_fault (word_fault top [] false waiting word (held_with rows pending)) ≡ true

-- how a word looks
pub data Look : Type 0 where
  plain : Look
  ends : Look
  fresh : Look
  alone : Valued → Look
  valued : Valued → Text → Look
  faulty : Look

abbrev pub Looks : Look → Text → Type 0
Looks plain word = IsPlain word
Looks ends word = word ≡ codes "--"
Looks fresh word = word ≡ codes "--new"
Looks (alone which) word = word ≡ codes "--" ++ name_of which
Looks (valued which text) word = word ≡ codes "--" ++ name_of which ++ codes "=" ++ text
Looks faulty word = IsFaulty word

-- ---- lists

pub same-bytes : (xs ys : Text) → bytes_eq xs ys ≡ true → xs ≡ ys
same-bytes xs ys h = search (rules, bytes_eq-Decides)

abbrev is_equals : ℕ → Bool
is_equals x = x == 61

-- the first byte is no `=`
first-behind : (x : ℕ) (xs : Text) → (x == 61) ≡ false → position_or_len is_equals (x ∷ xs) ≡ suc (position_or_len is_equals xs)
first-behind x xs other = rw other (omega arith)

before-on : (x : ℕ) (xs : Text) → (x == 61) ≡ false → before_first is_equals (x ∷ xs) ≡ x ∷ before_first is_equals xs
before-on x xs other = ap (λ (n : ℕ). take n (x ∷ xs)) (first-behind x xs other)

after-on : (x : ℕ) (xs : Text) → (x == 61) ≡ false → after_first is_equals (x ∷ xs) ≡ after_first is_equals xs
after-on x xs other =
    let behind : position_or_len is_equals (x ∷ xs) + 1 ≡ suc (position_or_len is_equals xs + 1) = omega (arith, first-behind x xs other) in
    ap (λ (n : ℕ). drop n (x ∷ xs)) behind

-- where no element passes, all stand before the first one that does
all-before : (xs : Text) → has_byte 61 xs ≡ false → before_first is_equals xs ≡ xs
all-before [] h = refl
all-before (x ∷ xs) h = by (x == 61) refl h (all-before xs)
  where
    by : (b : Bool) → (x == 61) ≡ b → (b || has_byte 61 xs) ≡ false → (has_byte 61 xs ≡ false → before_first is_equals xs ≡ xs) → before_first is_equals (x ∷ xs) ≡ x ∷ xs
    by true is none later = absurd (true≢false none)
    by false is none later = before-on x xs is ∙ ap (λ ys. x ∷ ys) (later none)

-- where one does, it stands between the two parts
cut : (xs : Text) → has_byte 61 xs ≡ true → xs ≡ before_first is_equals xs ++ 61 ∷ after_first is_equals xs
cut [] h = absurd (true≢false (sym h))
cut (x ∷ xs) h = by (x == 61) refl h (cut xs)
  where
    by : (b : Bool) → (x == 61) ≡ b → (b || has_byte 61 xs) ≡ true → (has_byte 61 xs ≡ true → xs ≡ before_first is_equals xs ++ 61 ∷ after_first is_equals xs)
        → x ∷ xs ≡ before_first is_equals (x ∷ xs) ++ 61 ∷ after_first is_equals (x ∷ xs)
    by true is one later = rw is (ap (λ y. y ∷ xs) (eqb-true x 61 is))
    by false is one later = ap (λ ys. x ∷ ys) (later one) ∙ sym (ap₂ (λ front back. front ++ 61 ∷ back) (before-on x xs is) (after-on x xs is))

never-both : (b : Bool) → b ≡ not b → ⊥
never-both true same = true≢false same
never-both false same = true≢false (sym same)

-- what a test tells apart isn't the same
differ : (test : Text → Bool) (b : Bool) (xs ys : Text) → test xs ≡ b → test ys ≡ not b → bytes_eq xs ys ≡ false
differ test b xs ys here there = false_from_ne_true _ (λ same. never-both b (sym here ∙ ap test (same-bytes xs ys same) ∙ there))

differ-front : (test : Text → Bool) (b : Bool) (front xs : Text) → test xs ≡ b → ((value : Text) → test (front ++ value) ≡ not b) → bytes_eq (take 5 xs) front ≡ false
differ-front test b front xs here there =
    false_from_ne_true _ (λ same. never-both b (sym here ∙ ap test (sym (take-append-drop 5 xs) ∙ ap (λ t. t ++ drop 5 xs) (same-bytes (take 5 xs) front same)) ∙ there (drop 5 xs)))

-- ---- what a word is

-- from two bytes on, the first one says whether a word is dashed
pub two-or-more : (x y : ℕ) (ys : Text) → is_dashed (x ∷ y ∷ ys) ≡ ((x == 45) && true)
two-or-more x y ys = ap (λ b. b && ((x == 45) && true)) (le-leb 2 (length (x ∷ y ∷ ys)) (omega arith))

-- it is none of the words that the program knows
record IsNone (word : Text) : Type 0 where
  no_end : ends_options word ≡ false
  no_new : is_new word ≡ false
  no_tick : is_tick_word word ≡ false
  no_tick_value : begins_tick word ≡ false
  no_make : is_make_word word ≡ false
  no_make_value : begins_make word ≡ false

faulty-given : (word : Text) → IsNone word → is_dashed word ≡ true → (words : List Text) → given_by (word ∷ words) ≡ None
faulty-given word none dashed words = rw (none.no_end, none.no_new, none.no_tick, none.no_tick_value, none.no_make, none.no_make_value, dashed) refl

pub faulty-behind : (word : Text) → is_dashed word ≡ true → (step : Text → Parsed → Parsed) (words : List Text) → given_with_value step (word ∷ words) ≡ None
faulty-behind word dashed step words = rw dashed refl

plain-given : (word : Text) → IsNone word → is_dashed word ≡ false → (words : List Text) → given_by (word ∷ words) ≡ option_map (with_name word) (given_by words)
plain-given word none bare words = rw (none.no_end, none.no_new, none.no_tick, none.no_tick_value, none.no_make, none.no_make_value, bare) refl

plain-behind : (word : Text) → is_dashed word ≡ false → (step : Text → Parsed → Parsed) (words : List Text) → given_with_value step (word ∷ words) ≡ option_map (step word) (given_by words)
plain-behind word bare step words = rw bare refl

has-first : (x : ℕ) (xs : Text) → IsUtf8 (x ∷ xs) → (c : ℕ) × (cs : Text) × (chars (x ∷ xs) ≡ c ∷ cs)
has-first x xs text = by (chars (x ∷ xs)) refl
  where
    by : (cs : Text) → chars (x ∷ xs) ≡ cs → (c : ℕ) × (cs : Text) × (chars (x ∷ xs) ≡ c ∷ cs)
    by (c ∷ cs) is = (c, cs, is)
    by [] is =
        let bad : [] ≡ x ∷ xs = ap encode_utf8_all (sym is) ∙ encodes-chars (x ∷ xs) text in
        let short : 0 ≡ suc (length xs) = ap length bad in
        absurd (omega arith)

-- one hyphen, and something that is no hyphen
short-is : (x : ℕ) (xs : Text) → (x == 45) ≡ false → IsUtf8 (x ∷ xs) → IsFaulty (45 ∷ x ∷ xs)
unfolding flags_fault
short-is x xs other text = record {
  given = faulty-given (45 ∷ x ∷ xs) (record { no_end = rw other refl; no_new = rw other refl; no_tick = rw other refl; no_tick_value = rw other refl; no_make = rw other refl; no_make_value = rw other refl }) (two-or-more 45 x xs);
  behind = faulty-behind (45 ∷ x ∷ xs) (two-or-more 45 x xs);
  fails = fails;
}
  where
    first : (c : ℕ) × (cs : Text) × (chars (x ∷ xs) ≡ c ∷ cs)
    first = has-first x xs text

    named : (rows : List Row) (pending : Option (Text × List Text)) → has_fault (flags_fault arguments false (length (x ∷ xs)) (x ∷ xs) 0 (held_with rows pending)) ≡ true
    named rows pending = ap (λ cs. has_fault (bundle_step_fault arguments false (slice_get cs 0) (x ∷ xs) 0 (held_with rows pending) (flags_fault arguments false (length xs)))) first.2

    fails : (waiting : Waiting) (rows : List Row) (pending : Option (Text × List Text)) → has_fault (word_fault top [] false waiting (45 ∷ x ∷ xs) (held_with rows pending)) ≡ true
    fails idle rows pending = rw other (rw other (named rows pending))
    fails (option id) rows pending = rw other (rw other (named rows pending))
    fails positional rows pending = rw other (rw other (named rows pending))

-- two hyphens, and what follows them
abbrev is_named : Text → Text → Bool
is_named name xs = bytes_eq name (before_first is_equals xs)

module _ (x : ℕ) (xs : Text) where
  abbrev rest : Text
  rest = x ∷ xs

  -- no option
  unknown-is : is_named (codes "new") rest ≡ false → is_named (codes "tick") rest ≡ false → is_named (codes "make") rest ≡ false → IsFaulty (45 ∷ 45 ∷ x ∷ xs)
  unknown-is no_new no_tick no_make = record {
    given = faulty-given (45 ∷ 45 ∷ x ∷ xs) (record {
      no_end = refl;
      no_new = differ (is_named (codes "new")) false rest (codes "new") no_new refl;
      no_tick = differ (is_named (codes "tick")) false rest (codes "tick") no_tick refl;
      no_tick_value = differ-front (is_named (codes "tick")) false (codes "tick=") rest no_tick (λ value. refl);
      no_make = differ (is_named (codes "make")) false rest (codes "make") no_make refl;
      no_make_value = differ-front (is_named (codes "make")) false (codes "make=") rest no_make (λ value. refl);
    }) (two-or-more 45 45 (x ∷ xs));
    behind = faulty-behind (45 ∷ 45 ∷ x ∷ xs) (two-or-more 45 45 (x ∷ xs));
    fails = fails;
  }
    where
      fails : (waiting : Waiting) (rows : List Row) (pending : Option (Text × List Text)) → has_fault (word_fault top [] false waiting (45 ∷ 45 ∷ x ∷ xs) (held_with rows pending)) ≡ true
      fails idle rows pending = rw (no_new, no_tick, no_make) refl
      fails (option id) rows pending = rw (no_new, no_tick, no_make) refl
      fails positional rows pending = rw (no_new, no_tick, no_make) refl

  -- `--new` with a value
  valued-is : is_named (codes "new") rest ≡ true → has_byte 61 rest ≡ true → IsFaulty (45 ∷ 45 ∷ x ∷ xs)
  valued-is new has = record {
    given = faulty-given (45 ∷ 45 ∷ x ∷ xs) (record {
      no_end = refl;
      no_new = differ (has_byte 61) true rest (codes "new") has refl;
      no_tick = differ (has_byte 61) true rest (codes "tick") has refl;
      no_tick_value = differ-front (is_named (codes "new")) true (codes "tick=") rest new (λ value. refl);
      no_make = differ (has_byte 61) true rest (codes "make") has refl;
      no_make_value = differ-front (is_named (codes "new")) true (codes "make=") rest new (λ value. refl);
    }) (two-or-more 45 45 (x ∷ xs));
    behind = faulty-behind (45 ∷ 45 ∷ x ∷ xs) (two-or-more 45 45 (x ∷ xs));
    fails = fails;
  }
    where
      fails : (waiting : Waiting) (rows : List Row) (pending : Option (Text × List Text)) → has_fault (word_fault top [] false waiting (45 ∷ 45 ∷ x ∷ xs) (held_with rows pending)) ≡ true
      fails idle rows pending = rw (new, has) refl
      fails (option id) rows pending = rw (new, has) refl
      fails positional rows pending = rw (new, has) refl

  whole-name : (name : Text) → is_named name rest ≡ true → has_byte 61 rest ≡ false → 45 ∷ 45 ∷ x ∷ xs ≡ 45 ∷ 45 ∷ name
  whole-name name is has = ap (λ t. 45 ∷ 45 ∷ t) (sym (all-before rest has) ∙ sym (same-bytes name (before_first is_equals rest) is))

  with-text : (name : Text) → is_named name rest ≡ true → has_byte 61 rest ≡ true → 45 ∷ 45 ∷ x ∷ xs ≡ 45 ∷ 45 ∷ (name ++ 61 ∷ after_first is_equals rest)
  with-text name is has =
      ap (λ t. 45 ∷ 45 ∷ t) (cut rest has ∙ ap (λ t. t ++ 61 ∷ after_first is_equals rest) (sym (same-bytes name (before_first is_equals rest) is)))

  valued-look : (which : Valued) → is_named (name_of which) rest ≡ true → (look : Look) × Looks look (45 ∷ 45 ∷ x ∷ xs)
  valued-look which is = by (has_byte 61 rest) refl
    where
      by : (has_text : Bool) → has_byte 61 rest ≡ has_text → (look : Look) × Looks look (45 ∷ 45 ∷ x ∷ xs)
      by false has = (alone which, whole-name (name_of which) is has)
      by true has = (valued which (after_first is_equals rest), with-text (name_of which) is has ∙ ap (λ t. 45 ∷ 45 ∷ t) (sym (append_assoc (name_of which) (codes "=") (after_first is_equals rest))))

  long-is : (look : Look) × Looks look (45 ∷ 45 ∷ x ∷ xs)
  long-is = by (is_named (codes "new") rest) refl (is_named (codes "tick") rest) refl (is_named (codes "make") rest) refl (has_byte 61 rest) refl
    where
      by : (new : Bool) → is_named (codes "new") rest ≡ new → (ticks : Bool) → is_named (codes "tick") rest ≡ ticks → (makes : Bool) → is_named (codes "make") rest ≡ makes
          → (has_text : Bool) → has_byte 61 rest ≡ has_text → (look : Look) × Looks look (45 ∷ 45 ∷ x ∷ xs)
      by false no_new false no_tick false no_make has_text has = (faulty, unknown-is no_new no_tick no_make)
      by false no_new false no_tick true is has_text has = valued-look make_value is
      by false no_new true is makes other has_text has = valued-look tick_value is
      by true is ticks other makes another false has = (fresh, whole-name (codes "new") is has)
      by true is ticks other makes another true has = (faulty, valued-is is has)

hyphens-are : (xs : Text) → (look : Look) × Looks look (45 ∷ 45 ∷ xs)
hyphens-are [] = (ends, refl)
hyphens-are (x ∷ xs) = long-is x xs

-- an empty word, and a hyphen alone
empty-is : IsPlain []
empty-is = record { given = λ words. refl; behind = λ step words. refl; met = met; passes = passes }
  where
    met : (waiting : Waiting) (place : ℕ) (held : Held) → word_met arguments [] false waiting place [] held ≡ plain_word arguments waiting [] held
    met idle place held = refl
    met (option id) place held = refl
    met positional place held = refl

    passes : (waiting : Waiting) (held : Held) → word_fault top [] false waiting [] held ≡ []
    passes idle held = refl
    passes (option id) held = refl
    passes positional held = refl

lone-is : IsPlain (45 ∷ [])
lone-is = record { given = λ words. refl; behind = λ step words. refl; met = met; passes = passes }
  where
    met : (waiting : Waiting) (place : ℕ) (held : Held) → word_met arguments [] false waiting place (45 ∷ []) held ≡ plain_word arguments waiting (45 ∷ []) held
    met idle place held = refl
    met (option id) place held = refl
    met positional place held = refl

    passes : (waiting : Waiting) (held : Held) → word_fault top [] false waiting (45 ∷ []) held ≡ []
    passes idle held = refl
    passes (option id) held = refl
    passes positional held = refl

-- a word that begins with anything else
plain-is : (x : ℕ) (xs : Text) → (x == 45) ≡ false → IsPlain (x ∷ xs)
plain-is x xs other = record {
  given = plain-given (x ∷ xs) (record { no_end = rw other refl; no_new = rw other refl; no_tick = rw other refl; no_tick_value = rw other refl; no_make = rw other refl; no_make_value = rw other refl }) (bare xs);
  behind = plain-behind (x ∷ xs) (bare xs);
  met = met;
  passes = passes;
}
  where
    bare : (ys : Text) → is_dashed (x ∷ ys) ≡ false
    bare [] = refl
    bare (y ∷ ys) = two-or-more x y ys ∙ rw other refl

    met : (waiting : Waiting) (place : ℕ) (held : Held) → word_met arguments [] false waiting place (x ∷ xs) held ≡ plain_word arguments waiting (x ∷ xs) held
    met idle place held = rw other (rw other refl)
    met (option id) place held = rw other (rw other refl)
    met positional place held = rw other (rw other refl)

    passes : (waiting : Waiting) (held : Held) → word_fault top [] false waiting (x ∷ xs) held ≡ []
    passes idle held = rw other (rw other refl)
    passes (option id) held = rw other (rw other refl)
    passes positional held = rw other (rw other refl)

hyphen-is : (xs : Text) → IsUtf8 (45 ∷ xs) → (look : Look) × Looks look (45 ∷ xs)
hyphen-is [] text = (plain, lone-is)
hyphen-is (x ∷ xs) text = by (x == 45) refl
  where
    by : (hyphen : Bool) → (x == 45) ≡ hyphen → (look : Look) × Looks look (45 ∷ x ∷ xs)
    by true is = subst (λ c. (look : Look) × Looks look (45 ∷ c ∷ xs)) (sym (eqb-true x 45 is)) (hyphens-are xs)
    by false is = (faulty, short-is x xs is (IsUtf8-past_char (45 ∷ x ∷ xs) (x ∷ xs) 45 text (sym (ap (λ t. t ++ x ∷ xs) (encode_ascii 45 (omega arith))))))

-- each word looks somehow
pub looks : (word : Text) → IsUtf8 word → (look : Look) × Looks look word
looks [] text = (plain, empty-is)
looks (x ∷ xs) text = by (x == 45) refl
  where
    by : (hyphen : Bool) → (x == 45) ≡ hyphen → (look : Look) × Looks look (x ∷ xs)
    by true is = subst (λ c. IsUtf8 (c ∷ xs) → (look : Look) × Looks look (c ∷ xs)) (sym (eqb-true x 45 is)) (hyphen-is xs) text
    by false is = (plain, plain-is x xs is)
