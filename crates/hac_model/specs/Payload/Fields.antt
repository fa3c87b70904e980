-- Fields: how the values of a payload are spelled as bytes, and how bytes are read from the left.
use Rattle.std.specs.Prelude.{ℕ, zero, suc, Bool, true, ◌+◌, ◌^◌, ◌==◌, ◌&&◌, if◌then◌else◌, nat_lt, nat_le, List, [], ◌∷◌, ◌++◌, length, take, drop, Option, Some, None, Result, Ok, Err}
use Rattle.std.specs.Int.{Width, w32, w64, byte_len, from_le_bytes, to_le_bytes}
use Rattle.hac_model.specs.Run.Answers.{◌>>=◌}
use Rattle.hac_model.specs.declared.limits.TheConstants.{NUMBERS_LIMIT}
use Rattle.hac_model.specs.declared.versions.Version.{Version}
use Rattle.hac_model.specs.declared.versions.Version.TheVariants.{One, Two}

-- A field of a payload: which values it has bytes for, the bytes of each, and what any bytes say: the value at their
-- front and the bytes behind it, or how many bytes are left where the first field begins that has no allowed value.
pub record Field (A : Type 0) : Type 0 where
  pub fits : A → Bool
  pub text : A → List ℕ
  pub read : List ℕ → Result (A × List ℕ) ℕ

-- ---- numbers and runs of bytes

unfoldable pub number_at : Width → List ℕ → Result (ℕ × List ℕ) ℕ
number_at width bytes =
    if nat_lt (length bytes) (byte_len width) then Err (length bytes)
    else Ok (from_le_bytes width (take (byte_len width) bytes), drop (byte_len width) bytes)

-- a number of this many bytes, the lowest first
abbrev pub number : Width → Field ℕ
number width = record { fits = λ n. nat_lt n (256 ^ byte_len width); text = λ n. to_le_bytes width n; read = λ bytes. number_at width bytes }

unfoldable pub run_at : Width → ℕ → (List ℕ → Bool) → List ℕ → Result (List ℕ × List ℕ) ℕ
run_at width most test bytes =
    let count = from_le_bytes width (take (byte_len width) bytes) in
    let rest = drop (byte_len width) bytes in
    if nat_le (byte_len width + count) (length bytes) && nat_le count most && test (take count rest) then Ok (take count rest, drop count rest)
    else Err (length bytes)

-- bytes behind their number, at most this many, which pass a test. All of it is one field.
abbrev pub run : Width → ℕ → (List ℕ → Bool) → Field (List ℕ)
run width most test = record {
  fits = λ run. nat_le (length run) most && test run;
  text = λ run. to_le_bytes width (length run) ++ run;
  read = λ bytes. run_at width most test bytes;
}

-- ---- fields made of fields

-- no bytes
abbrev pub nothing : Field (Unit {0})
nothing = record { fits = λ x. true; text = λ x. []; read = λ bytes. Ok (tt, bytes) }

-- one field behind another
infixr 20 ◌&◌
abbrev pub ◌&◌ : {A B : Type 0} → Field A → Field B → Field (A × B)
f & g = record {
  fits = λ x. f.fits x.0 && g.fits x.1;
  text = λ x. f.text x.0 ++ g.text x.1;
  read = λ bytes. f.read bytes >>= λ first. g.read first.1 >>= λ second. Ok ((first.0, second.0), second.1);
}

-- a field whose value passes a test. One that doesn't fails where the field begins.
abbrev pub checked : {A : Type 0} → Field A → (A → Bool) → Field A
checked f test = record {
  fits = λ x. f.fits x && test x;
  text = λ x. f.text x;
  read = λ bytes. f.read bytes >>= λ x. if test x.0 then Ok x else Err (length bytes);
}

-- a field whose values are seen as others: of these its own values are taken, and from its own these are made
abbrev pub seen : {A B : Type 0} → (B → A) → (A → B) → Field A → Field B
seen taken made f = record {
  fits = λ x. f.fits (taken x);
  text = λ x. f.text (taken x);
  read = λ bytes. f.read bytes >>= λ x. Ok (made x.0, x.1);
}

-- this many items, one behind the other. An item's field may depend on the item before it, which the first one lacks.
unfoldable pub items_at : {A : Type 0} → (Option A → Field A) → ℕ → Option A → List ℕ → Result (List A × List ℕ) ℕ
items_at item zero last bytes = Ok ([], bytes)
items_at item (suc n) last bytes =
    (item last).read bytes >>= λ first. items_at item n (Some first.0) first.1 >>= λ others. Ok (first.0 ∷ others.0, others.1)

abbrev pub items_fit : {A : Type 0} → (Option A → Field A) → Option A → List A → Bool
items_fit item last [] = true
items_fit item last (x ∷ xs) = (item last).fits x && items_fit item (Some x) xs

abbrev pub items_text : {A : Type 0} → (Option A → Field A) → Option A → List A → List ℕ
items_text item last [] = []
items_text item last (x ∷ xs) = (item last).text x ++ items_text item (Some x) xs

-- items behind their number
abbrev pub list : {A : Type 0} → Field ℕ → (Option A → Field A) → Field (List A)
list count item = record {
  fits = λ xs. count.fits (length xs) && items_fit item None xs;
  text = λ xs. count.text (length xs) ++ items_text item None xs;
  read = λ bytes. count.read bytes >>= λ n. items_at item n.0 None n.1;
}

-- how many there are of something: a number of four bytes
abbrev pub count : Field ℕ
count = number w32

-- ---- numbers of entries

-- the number of an entry: of four bytes, or of eight that are no greater than such a number may be
abbrev pub num : Version → Field ℕ
num One = number w32
num Two = checked (number w64) (λ n. nat_le n NUMBERS_LIMIT)

-- ---- fields of several kinds

-- a value of one kind: whether it has bytes, and which
pub record Part : Type 0 where
  pub fits : Bool
  pub text : List ℕ

-- a value of a kind is the byte of its kind and then a field
abbrev pub part : {A : Type 0} → ℕ → Field A → A → Part
part kind f x = record { fits = f.fits x; text = kind ∷ f.text x }

-- how the bytes behind a kind byte are read
pub record Way (A : Type 0) : Type 0 where
  pub kind : ℕ
  pub read : List ℕ → Result (A × List ℕ) ℕ

-- reading by a field, and making a value of what it read
abbrev pub way : {A B : Type 0} → ℕ → Field A → (A → B) → Way B
way kind f made = record { kind = kind; read = λ bytes. f.read bytes >>= λ x. Ok (made x.0, x.1) }

-- the fault is at another place
abbrev pub failing_at : {A : Type 0} → ℕ → Result A ℕ → Result A ℕ
failing_at left (Ok x) = Ok x
failing_at left (Err other) = Err left

-- the same, where the kind byte and the field fail as one
abbrev pub whole_way : {A B : Type 0} → ℕ → Field A → (A → B) → Way B
whole_way kind f made = record { kind = kind; read = λ bytes. failing_at (suc (length bytes)) (f.read bytes) >>= λ x. Ok (made x.0, x.1) }

-- the way of a kind; a byte that is no kind fails at its place
unfoldable pub way_at : {A : Type 0} → List (Way A) → ℕ → List ℕ → Result (A × List ℕ) ℕ
way_at [] kind bytes = Err (suc (length bytes))
way_at (way ∷ ways) kind bytes = if kind == way.kind then way.read bytes else way_at ways kind bytes

unfoldable pub choice_at : {A : Type 0} → List (Way A) → List ℕ → Result (A × List ℕ) ℕ
choice_at ways [] = Err 0
choice_at ways (kind ∷ bytes) = way_at ways kind bytes

-- a field of several kinds, each with its byte
abbrev pub choice : {A : Type 0} → (A → Part) → List (Way A) → Field A
choice parts ways = record { fits = λ x. (parts x).fits; text = λ x. (parts x).text; read = λ bytes. choice_at ways bytes }
