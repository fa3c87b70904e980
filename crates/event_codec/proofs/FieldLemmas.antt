-- Fields are read back, and what is read is what they spell: once for each way of making a field.
use Rattle.std.proofs.Common.{◌≡◌, ℕ, zero, suc, ◌+◌, ◌%◌, ◌^◌, ◌<◌, ◌≤◌, Bool, true, false, cond, eqb, ltb, leb, nat_le, ◌&&◌, List, [], ◌∷◌, ◌++◌, length, take, drop, Option, Some, None, Result, Ok, Err, refl, sym, ap, subst, ◌∙◌, append_assoc, arith, inl, inr}
use Rattle.std.specs.Int.{Width, w8, w16, w32, w64, byte_len, from_le_bytes, to_le_bytes}
use Rattle.std.proofs.lemmas.Bool.{cases_lt, ltb-true, ltb-false, lt-ltb, le-ltb, leb-true, le-leb, eqb-true, and_parts, and_from}
use Rattle.std.proofs.lemmas.List.{take_at, drop_at, take-append-drop, length-append, length-take, length-drop, get_or-drop, get_or-take, get_or_past}
use Rattle.std.proofs.lemmas.Nat.{le_bytes_2, le_bytes_4, le_bytes_8, from_le_bytes-to_le_bytes_2, from_le_bytes-to_le_bytes_4, from_le_bytes-to_le_bytes_8}
use Rattle.hac_model.specs.Run.Answers.{◌>>=◌}
use Rattle.hac_model.specs.Payload.Fields.{Field, count, num, number_at, number, run_at, run, nothing, ◌&◌, checked, items_at, items_fit, items_text, list, seen, Part, part, Way, failing_at, way, whole_way, way_at, choice_at, choice}
use Rattle.hac_model.specs.declared.limits.TheConstants.{NUMBERS_LIMIT}
use Rattle.hac_model.specs.declared.versions.Version.{Version}
use Rattle.hac_model.specs.declared.versions.Version.TheVariants.{One, Two}
use Rattle.event_codec.specs.Laws.{AreBytes}

AreBytes-drop : (n : ℕ) (bytes : List ℕ) → AreBytes bytes → AreBytes (drop n bytes)
AreBytes-drop n bytes h i = rw get_or-drop (h (n + i))

AreBytes-take : (n : ℕ) (bytes : List ℕ) → AreBytes bytes → AreBytes (take n bytes)
AreBytes-take n bytes h i =
    elim (cases_lt i n) [
      | inl lt ↦ rw (get_or-take n bytes i 0 lt) (h i)
      | inr le ↦ rw (get_or_past (take n bytes) i 0 (omega (arith, length-take n bytes))) (omega arith)
    ]

pub AreBytes-rest : (b : ℕ) (bytes : List ℕ) → AreBytes (b ∷ bytes) → AreBytes bytes
AreBytes-rest b bytes h i = h (suc i)

-- the value of a step that didn't fail
pub bind_ok : {A B : Type 0} (r : Result A ℕ) (next : A → Result B ℕ) (y : B) → (r >>= next) ≡ Ok y → (x : A) × (r ≡ Ok x) × (next x ≡ Ok y)
bind_ok (Ok x) next y e = (x, refl, e)
bind_ok (Err left) next y e = absurd cc

-- a test that didn't fail
pub guard_ok : {A : Type 0} (b : Bool) (left : ℕ) (x y : A) → cond b (Ok x) (Err left) ≡ Ok y → (b ≡ true) × (x ≡ y)
guard_ok true left x y e = (refl, cc)
guard_ok false left x y e = absurd cc

pub denied_ok : {A : Type 0} (b : Bool) (left : ℕ) (x y : A) → cond b (Err left) (Ok x) ≡ Ok y → (b ≡ false) × (x ≡ y)
denied_ok true left x y e = absurd cc
denied_ok false left x y e = (refl, cc)

abbrev done : {A : Type 0} → A → Result A ℕ
done x = Ok x

pub ok_is : {A : Type 0} (x y : A) → done x ≡ done y → x ≡ y
ok_is x y e = cc

-- a field took a value from the front of the bytes
pub record Took {A : Type 0} (f : Field A) (bytes : List ℕ) (x : A × List ℕ) : Type 0 where
  pub parts : bytes ≡ f.text x.0 ++ x.1
  pub rest : AreBytes x.1
  pub fits : f.fits x.0 ≡ true

-- what a field reads is what it spells, and what it spells it reads, whatever follows
pub record Lawful {A : Type 0} (f : Field A) : Type 0 where
  pub takes : (bytes : List ℕ) (x : A × List ℕ) → AreBytes bytes → f.read bytes ≡ Ok x → Took f bytes x
  pub again : (x : A) (rest : List ℕ) → f.fits x ≡ true → f.read (f.text x ++ rest) ≡ Ok (x, rest)

-- ---- numbers and runs

pub record IsWide (w : Width) : Type 0 where
  pub len : (n : ℕ) → length (to_le_bytes w n) ≡ byte_len w
  pub back : (bytes : List ℕ) → length bytes ≡ byte_len w → AreBytes bytes → to_le_bytes w (from_le_bytes w bytes) ≡ bytes
  pub again : (n : ℕ) → n < 256 ^ byte_len w → from_le_bytes w (to_le_bytes w n) ≡ n
  pub below : (bytes : List ℕ) → AreBytes bytes → from_le_bytes w bytes < 256 ^ byte_len w

one_back : (bytes : List ℕ) → length bytes ≡ 1 → AreBytes bytes → to_le_bytes w8 (from_le_bytes w8 bytes) ≡ bytes
one_back [] len fits = absurd (omega arith)
one_back (b ∷ []) len fits =
    let small : b < 256 = fits 0 in
    let same : from_le_bytes w8 (b ∷ []) % 256 ≡ b = omega arith in
    ap (λ (n : ℕ). n ∷ []) same
one_back (b ∷ c ∷ bytes) len fits = absurd (omega arith)

pub wide8 : IsWide w8
wide8 = record {
  len = λ n. refl;
  back = one_back;
  again = λ n lt. omega arith;
  below = λ bytes fits. omega (arith, fits 0);
}

pub wide16 : IsWide w16
wide16 = record {
  len = λ n. refl;
  back = λ bytes len fits. le_bytes_2 bytes _ len fits refl;
  again = λ n lt. from_le_bytes-to_le_bytes_2 n lt;
  below = λ bytes fits. omega (arith, fits 0, fits 1);
}

pub wide32 : IsWide w32
wide32 = record {
  len = λ n. refl;
  back = λ bytes len fits. le_bytes_4 bytes _ len fits refl;
  again = λ n lt. from_le_bytes-to_le_bytes_4 n lt;
  below = λ bytes fits. omega (arith, fits 0, fits 1, fits 2, fits 3);
}

wide64 : IsWide w64
wide64 = record {
  len = λ n. refl;
  back = λ bytes len fits. le_bytes_8 bytes _ len fits refl;
  again = λ n lt. from_le_bytes-to_le_bytes_8 n lt;
  below = λ bytes fits. omega (arith, fits 0, fits 1, fits 2, fits 3, fits 4, fits 5, fits 6, fits 7);
}

-- the number at the front
front_is : (w : Width) (wide : IsWide w) (bytes : List ℕ) → AreBytes bytes → byte_len w ≤ length bytes → to_le_bytes w (from_le_bytes w (take (byte_len w) bytes)) ≡ take (byte_len w) bytes
front_is w wide bytes fits long = wide.back (take (byte_len w) bytes) (omega (arith, length-take (byte_len w) bytes)) (AreBytes-take (byte_len w) bytes fits)

number_takes : (w : Width) (wide : IsWide w) (bytes : List ℕ) (x : ℕ × List ℕ) → AreBytes bytes → number_at w bytes ≡ Ok x → Took (number w) bytes x
unfolding number_at
number_takes w wide bytes x fits e =
    let n = from_le_bytes w (take (byte_len w) bytes) in
    let g = denied_ok (ltb (length bytes) (byte_len w)) (length bytes) (n, drop (byte_len w) bytes) x e in
    let long : byte_len w ≤ length bytes = ltb-false _ _ g.0 in
    let front = front_is w wide bytes fits long in
    let took : Took (number w) bytes (n, drop (byte_len w) bytes) = record {
      parts = rw front (sym (take-append-drop (byte_len w) bytes));
      rest = AreBytes-drop (byte_len w) bytes fits;
      fits = lt-ltb _ _ (wide.below (take (byte_len w) bytes) (AreBytes-take (byte_len w) bytes fits));
    } in
    subst (λ (y : ℕ × List ℕ). Took (number w) bytes y) g.1 took

number_again : (w : Width) (wide : IsWide w) (n : ℕ) (rest : List ℕ) → ltb n (256 ^ byte_len w) ≡ true → number_at w (to_le_bytes w n ++ rest) ≡ Ok (n, rest)
unfolding number_at
number_again w wide n rest lt =
    let len = wide.len n in
    let long : ltb (length (to_le_bytes w n ++ rest)) (byte_len w) ≡ false = le-ltb _ _ (omega (arith, length-append (to_le_bytes w n) rest)) in
    rw (long, take_at (to_le_bytes w n) rest (byte_len w) len, drop_at (to_le_bytes w n) rest (byte_len w) len, wide.again n (ltb-true _ _ lt)) refl

pub number_lawful : (w : Width) → IsWide w → Lawful (number w)
number_lawful w wide = record { takes = number_takes w wide; again = number_again w wide }

pub count_lawful : Lawful count
count_lawful = number_lawful w32 wide32

run_takes : (w : Width) (wide : IsWide w) (most : ℕ) (test : List ℕ → Bool) (bytes : List ℕ) (x : List ℕ × List ℕ) → AreBytes bytes → run_at w most test bytes ≡ Ok x → Took (run w most test) bytes x
unfolding run_at
run_takes w wide most test bytes x fits e =
    let head = byte_len w in
    let count = from_le_bytes w (take head bytes) in
    let behind = drop head bytes in
    let g = guard_ok (leb (head + count) (length bytes) && leb count most && test (take count behind)) (length bytes) (take count behind, drop count behind) x e in
    let a = and_parts (leb (head + count) (length bytes) && leb count most) (test (take count behind)) g.0 in
    let b = and_parts (leb (head + count) (length bytes)) (leb count most) a.0 in
    let long : head + count ≤ length bytes = leb-true _ _ b.0 in
    let enough : head ≤ length bytes = omega arith in
    let front = front_is w wide bytes fits enough in
    let size : length (take count behind) ≡ count = omega (arith, length-take count behind, length-drop head bytes) in
    let spelled : to_le_bytes w (length (take count behind)) ≡ take head bytes = rw size front in
    let whole : bytes ≡ (to_le_bytes w (length (take count behind)) ++ take count behind) ++ drop count behind =
    rw (spelled, append_assoc, take-append-drop count behind) (sym (take-append-drop head bytes)) in
    let took : Took (run w most test) bytes (take count behind, drop count behind) = record {
      parts = whole;
      rest = AreBytes-drop count behind (AreBytes-drop head bytes fits);
      fits = and_from _ _ (rw size b.1) a.1;
    } in
    subst (λ (y : List ℕ × List ℕ). Took (run w most test) bytes y) g.1 took

run_again : (w : Width) (wide : IsWide w) (most : ℕ) (test : List ℕ → Bool) → most < 256 ^ byte_len w → (x rest : List ℕ) → (leb (length x) most && test x) ≡ true → run_at w most test ((to_le_bytes w (length x) ++ x) ++ rest) ≡ Ok (x, rest)
unfolding run_at
run_again w wide most test small x rest fits =
    let a = and_parts (leb (length x) most) (test x) fits in
    let few : length x ≤ most = leb-true _ _ a.0 in
    let len = wide.len (length x) in
    let same : from_le_bytes w (to_le_bytes w (length x)) ≡ length x = wide.again (length x) (omega arith) in
    let long : leb (byte_len w + length x) (length (to_le_bytes w (length x) ++ (x ++ rest))) ≡ true =
    le-leb _ _ (omega (arith, length-append (to_le_bytes w (length x)) (x ++ rest), length-append x rest)) in
    rw (append_assoc (to_le_bytes w (length x)) x rest, take_at (to_le_bytes w (length x)) (x ++ rest) (byte_len w) len, drop_at (to_le_bytes w (length x)) (x ++ rest) (byte_len w) len, same, long, a.0, take_at x rest (length x) refl, drop_at x rest (length x) refl, a.1) refl

pub run_lawful : (w : Width) (most : ℕ) (test : List ℕ → Bool) → IsWide w → most < 256 ^ byte_len w → Lawful (run w most test)
run_lawful w most test wide small = record { takes = run_takes w wide most test; again = run_again w wide most test small }

-- ---- fields made of fields

pub nothing_lawful : Lawful nothing
nothing_lawful = record {
  takes = λ bytes x fits e. let same = ok_is (tt, bytes) x e in subst (λ (y : Unit {0} × List ℕ). Took nothing bytes y) same (record { parts = refl; rest = fits; fits = refl });
  again = λ x rest h. refl;
}

both_takes : {A B : Type 0} (f : Field A) (g : Field B) (p : Lawful f) (q : Lawful g) (bytes : List ℕ) (x : (A × B) × List ℕ) → AreBytes bytes → (f & g).read bytes ≡ Ok x → Took (f & g) bytes x
both_takes {A} {B} f g p q bytes x fits e =
    let a = bind_ok (f.read bytes) (λ first. g.read first.1 >>= λ second. Ok ((first.0, second.0), second.1)) x e in
    let b = bind_ok (g.read a.0.1) (λ second. Ok ((a.0.0, second.0), second.1)) x a.2 in
    let first = p.takes bytes a.0 fits a.1 in
    let second = q.takes a.0.1 b.0 first.rest b.1 in
    let took : Took (f & g) bytes ((a.0.0, b.0.0), b.0.1) = record {
      parts = first.parts ∙ ap (λ (t : List ℕ). f.text a.0.0 ++ t) second.parts ∙ sym (append_assoc (f.text a.0.0) (g.text b.0.0) b.0.1);
      rest = second.rest;
      fits = and_from _ _ first.fits second.fits;
    } in
    subst (λ (y : (A × B) × List ℕ). Took (f & g) bytes y) (ok_is ((a.0.0, b.0.0), b.0.1) x b.2) took

both_again : {A B : Type 0} (f : Field A) (g : Field B) (p : Lawful f) (q : Lawful g) (x : A × B) (rest : List ℕ) → (f.fits x.0 && g.fits x.1) ≡ true → (f & g).read ((f.text x.0 ++ g.text x.1) ++ rest) ≡ Ok (x, rest)
both_again f g p q x rest fits =
    let parts = and_parts _ _ fits in
    rw (append_assoc (f.text x.0) (g.text x.1) rest, p.again x.0 (g.text x.1 ++ rest) parts.0, q.again x.1 rest parts.1) refl

pub both_lawful : {A B : Type 0} (f : Field A) (g : Field B) → Lawful f → Lawful g → Lawful (f & g)
both_lawful f g p q = record { takes = both_takes f g p q; again = both_again f g p q }

checked_takes : {A : Type 0} (f : Field A) (test : A → Bool) (p : Lawful f) (bytes : List ℕ) (x : A × List ℕ) → AreBytes bytes → (checked f test).read bytes ≡ Ok x → Took (checked f test) bytes x
checked_takes {A} f test p bytes x fits e =
    let a = bind_ok (f.read bytes) (λ x. cond (test x.0) (Ok x) (Err (length bytes))) x e in
    let g = guard_ok (test a.0.0) (length bytes) a.0 x a.2 in
    let first = p.takes bytes a.0 fits a.1 in
    let took : Took (checked f test) bytes a.0 = record { parts = first.parts; rest = first.rest; fits = and_from _ _ first.fits g.0 } in
    subst (λ (y : A × List ℕ). Took (checked f test) bytes y) g.1 took

checked_again : {A : Type 0} (f : Field A) (test : A → Bool) (p : Lawful f) (x : A) (rest : List ℕ) → (f.fits x && test x) ≡ true → (checked f test).read (f.text x ++ rest) ≡ Ok (x, rest)
checked_again f test p x rest fits =
    let parts = and_parts _ _ fits in
    rw (p.again x rest parts.0, parts.1) refl

pub checked_lawful : {A : Type 0} (f : Field A) (test : A → Bool) → Lawful f → Lawful (checked f test)
checked_lawful f test p = record { takes = checked_takes f test p; again = checked_again f test p }

pub num_lawful : (version : Version) → Lawful (num version)
num_lawful One = number_lawful w32 wide32
num_lawful Two = checked_lawful (number w64) (λ n. nat_le n NUMBERS_LIMIT) (number_lawful w64 wide64)

-- what is read and made anew is seen as it was
pub seen_lawful : {A B : Type 0} (taken : B → A) (made : A → B) (f : Field A) → Lawful f → ((x : B) → made (taken x) ≡ x) → ((x : A) → taken (made x) ≡ x) → Lawful (seen taken made f)
seen_lawful {A} {B} taken made f p anew back = record { takes = takes; again = λ x rest fits. rw (p.again (taken x) rest fits, anew x) refl }
  where
    takes : (bytes : List ℕ) (x : B × List ℕ) → AreBytes bytes → (seen taken made f).read bytes ≡ Ok x → Took (seen taken made f) bytes x
    takes bytes x fits e =
        let a = bind_ok (f.read bytes) (λ y. Ok (made y.0, y.1)) x e in
        let first = p.takes bytes a.0 fits a.1 in
        let took : Took (seen taken made f) bytes (made a.0.0, a.0.1) = record { parts = rw (back a.0.0) first.parts; rest = first.rest; fits = rw (back a.0.0) first.fits } in
        subst (λ (y : B × List ℕ). Took (seen taken made f) bytes y) (ok_is (made a.0.0, a.0.1) x a.2) took

-- ---- lists

record TookItems {A : Type 0} (item : Option A → Field A) (n : ℕ) (last : Option A) (bytes : List ℕ) (x : List A × List ℕ) : Type 0 where
  pub parts : bytes ≡ items_text item last x.0 ++ x.1
  pub rest : AreBytes x.1
  pub fits : items_fit item last x.0 ≡ true
  pub count : length x.0 ≡ n

items_take : {A : Type 0} (item : Option A → Field A) (p : (last : Option A) → Lawful (item last)) (n : ℕ) (last : Option A) (bytes : List ℕ) (x : List A × List ℕ) → AreBytes bytes → items_at item n last bytes ≡ Ok x → TookItems item n last bytes x
unfolding items_at
items_take {A} item p zero last bytes x fits e =
    subst (λ (y : List A × List ℕ). TookItems item 0 last bytes y) (ok_is ([], bytes) x e) (record { parts = refl; rest = fits; fits = refl; count = refl })
items_take {A} item p (suc n) last bytes x fits e =
    let a = bind_ok ((item last).read bytes) (λ first. items_at item n (Some first.0) first.1 >>= λ others. Ok (first.0 ∷ others.0, others.1)) x e in
    let b = bind_ok (items_at item n (Some a.0.0) a.0.1) (λ others. Ok (a.0.0 ∷ others.0, others.1)) x a.2 in
    let first = (p last).takes bytes a.0 fits a.1 in
    let others = items_take item p n (Some a.0.0) a.0.1 b.0 first.rest b.1 in
    let took : TookItems item (suc n) last bytes (a.0.0 ∷ b.0.0, b.0.1) = record {
      parts = first.parts ∙ ap (λ (t : List ℕ). (item last).text a.0.0 ++ t) others.parts ∙ sym (append_assoc ((item last).text a.0.0) (items_text item (Some a.0.0) b.0.0) b.0.1);
      rest = others.rest;
      fits = and_from _ _ first.fits others.fits;
      count = ap (λ (k : ℕ). suc k) others.count;
    } in
    subst (λ (y : List A × List ℕ). TookItems item (suc n) last bytes y) (ok_is (a.0.0 ∷ b.0.0, b.0.1) x b.2) took

items_again : {A : Type 0} (item : Option A → Field A) (p : (last : Option A) → Lawful (item last)) (last : Option A) (xs : List A) (rest : List ℕ) → items_fit item last xs ≡ true → items_at item (length xs) last (items_text item last xs ++ rest) ≡ Ok (xs, rest)
unfolding items_at
items_again item p last [] rest fits = refl
items_again item p last (x ∷ xs) rest fits =
    let parts = and_parts _ _ fits in
    rw (append_assoc ((item last).text x) (items_text item (Some x) xs) rest, (p last).again x (items_text item (Some x) xs ++ rest) parts.0, items_again item p (Some x) xs rest parts.1) refl

list_takes : {A : Type 0} (count : Field ℕ) (item : Option A → Field A) (c : Lawful count) (p : (last : Option A) → Lawful (item last)) (bytes : List ℕ) (x : List A × List ℕ) → AreBytes bytes → (list count item).read bytes ≡ Ok x → Took (list count item) bytes x
list_takes {A} count item c p bytes x fits e =
    let a = bind_ok (count.read bytes) (λ n. items_at item n.0 None n.1) x e in
    let first = c.takes bytes a.0 fits a.1 in
    let items = items_take item p a.0.0 None a.0.1 x first.rest a.2 in
    record {
      parts = rw items.count (first.parts ∙ ap (λ (t : List ℕ). count.text a.0.0 ++ t) items.parts ∙ sym (append_assoc (count.text a.0.0) (items_text item None x.0) x.1));
      rest = items.rest;
      fits = and_from _ _ (rw items.count first.fits) items.fits;
    }

list_again : {A : Type 0} (count : Field ℕ) (item : Option A → Field A) (c : Lawful count) (p : (last : Option A) → Lawful (item last)) (xs : List A) (rest : List ℕ) → (count.fits (length xs) && items_fit item None xs) ≡ true → (list count item).read ((count.text (length xs) ++ items_text item None xs) ++ rest) ≡ Ok (xs, rest)
list_again count item c p xs rest fits =
    let parts = and_parts _ _ fits in
    rw (append_assoc (count.text (length xs)) (items_text item None xs) rest, c.again (length xs) (items_text item None xs ++ rest) parts.0) (items_again item p None xs rest parts.1)

pub list_lawful : {A : Type 0} (count : Field ℕ) (item : Option A → Field A) → Lawful count → ((last : Option A) → Lawful (item last)) → Lawful (list count item)
list_lawful count item c p = record { takes = list_takes count item c p; again = list_again count item c p }

-- ---- fields of several kinds

-- a way takes what its kind spells
pub record WayTakes {A : Type 0} (parts : A → Part) (w : Way A) : Type 0 where
  pub takes : (bytes : List ℕ) (x : A × List ℕ) → AreBytes bytes → w.read bytes ≡ Ok x → ((w.kind ∷ bytes) ≡ (parts x.0).text ++ x.1) × AreBytes x.1 × ((parts x.0).fits ≡ true)

abbrev pub WaysTake : {A : Type 0} → (A → Part) → List (Way A) → Type 0
WaysTake parts [] = Unit {0}
WaysTake parts (w ∷ ws) = WayTakes parts w × WaysTake parts ws

way_took : {A B : Type 0} (parts : B → Part) (kind : ℕ) (f : Field A) (made : A → B) (p : Lawful f) (same : (x : A) → f.fits x ≡ true → parts (made x) ≡ part kind f x) (read : Result (A × List ℕ) ℕ) (bytes : List ℕ) (x : B × List ℕ)
    → ((y : A × List ℕ) → read ≡ Ok y → f.read bytes ≡ Ok y) → AreBytes bytes → (read >>= λ y. Ok (made y.0, y.1)) ≡ Ok x
    → ((kind ∷ bytes) ≡ (parts x.0).text ++ x.1) × AreBytes x.1 × ((parts x.0).fits ≡ true)
way_took {A} {B} parts kind f made p same read bytes x sound fits e =
    let a = bind_ok read (λ y. Ok (made y.0, y.1)) x e in
    let took = p.takes bytes a.0 fits (sound a.0 a.1) in
    let text : (kind ∷ bytes) ≡ (parts (made a.0.0)).text ++ a.0.1 = rw (same a.0.0 took.fits) (ap (λ (t : List ℕ). kind ∷ t) took.parts) in
    let whole : ((kind ∷ bytes) ≡ (parts (made a.0.0)).text ++ a.0.1) × AreBytes a.0.1 × ((parts (made a.0.0)).fits ≡ true) = (text, took.rest, rw (same a.0.0 took.fits) took.fits) in
    subst (λ (y : B × List ℕ). ((kind ∷ bytes) ≡ (parts y.0).text ++ y.1) × AreBytes y.1 × ((parts y.0).fits ≡ true)) (ok_is (made a.0.0, a.0.1) x a.2) whole

-- where the values that the field spells are of the kind
pub way_is_fitting : {A B : Type 0} (parts : B → Part) (kind : ℕ) (f : Field A) (made : A → B) → Lawful f → ((x : A) → f.fits x ≡ true → parts (made x) ≡ part kind f x) → WayTakes parts (way kind f made)
way_is_fitting parts kind f made p same = record { takes = λ bytes x fits e. way_took parts kind f made p same (f.read bytes) bytes x (λ y h. h) fits e }

-- where all its values are
pub way_is : {A B : Type 0} (parts : B → Part) (kind : ℕ) (f : Field A) (made : A → B) → Lawful f → ((x : A) → parts (made x) ≡ part kind f x) → WayTakes parts (way kind f made)
way_is parts kind f made p same = way_is_fitting parts kind f made p (λ x spelled. same x)

failing-ok : {A : Type 0} (left : ℕ) (read : Result A ℕ) (x : A) → failing_at left read ≡ Ok x → read ≡ Ok x
failing-ok left (Ok y) x e = e
failing-ok left (Err other) x e = absurd cc

pub whole_way_is : {A B : Type 0} (parts : B → Part) (kind : ℕ) (f : Field A) (made : A → B) → Lawful f → ((x : A) → parts (made x) ≡ part kind f x) → WayTakes parts (whole_way kind f made)
whole_way_is parts kind f made p same = record {
  takes = λ bytes x fits e. way_took parts kind f made p (λ y spelled. same y) (failing_at (suc (length bytes)) (f.read bytes)) bytes x (λ y h. failing-ok (suc (length bytes)) (f.read bytes) y h) fits e;
}

found_takes : {A : Type 0} (parts : A → Part) (ways : List (Way A)) → WaysTake parts ways → (kind : ℕ) (bytes : List ℕ) (x : A × List ℕ) → AreBytes bytes → way_at ways kind bytes ≡ Ok x
    → ((kind ∷ bytes) ≡ (parts x.0).text ++ x.1) × AreBytes x.1 × ((parts x.0).fits ≡ true)
unfolding way_at
found_takes parts [] p kind bytes x fits e = absurd cc
found_takes parts (w ∷ ws) p kind bytes x fits e =
    elim (eqb kind w.kind) as (λ b. eqb kind w.kind ≡ b → cond b (w.read bytes) (way_at ws kind bytes) ≡ Ok x → ((kind ∷ bytes) ≡ (parts x.0).text ++ x.1) × AreBytes x.1 × ((parts x.0).fits ≡ true)) [
      | true ↦ λ same read. rw (eqb-true kind w.kind same) (p.0.takes bytes x fits read)
      | false ↦ λ other read. found_takes parts ws p.1 kind bytes x fits read
    ] refl e

pub choice_takes : {A : Type 0} (parts : A → Part) (ways : List (Way A)) → WaysTake parts ways → (bytes : List ℕ) (x : A × List ℕ) → AreBytes bytes → choice_at ways bytes ≡ Ok x → Took (choice parts ways) bytes x
unfolding choice_at
choice_takes parts ways p [] x fits e = absurd cc
choice_takes parts ways p (kind ∷ bytes) x fits e =
    let found = found_takes parts ways p kind bytes x (AreBytes-rest kind bytes fits) e in
    record { parts = found.0; rest = found.1; fits = found.2 }

abbrev pub remade : {A B : Type 0} → (A → B) → A × List ℕ → Result (B × List ℕ) ℕ
remade made x = Ok (made x.0, x.1)

-- what follows a kind byte is read again
pub way_again : {A B : Type 0} (f : Field A) (made : A → B) → Lawful f → (x : A) (rest : List ℕ) → f.fits x ≡ true → (f.read (f.text x ++ rest) >>= remade made) ≡ Ok (made x, rest)
way_again f made p x rest fits = rw (p.again x rest fits) refl

pub whole_way_again : {A B : Type 0} (f : Field A) (made : A → B) → Lawful f → (x : A) (rest : List ℕ) (left : ℕ) → f.fits x ≡ true → (failing_at left (f.read (f.text x ++ rest)) >>= remade made) ≡ Ok (made x, rest)
whole_way_again f made p x rest left fits = rw (p.again x rest fits) refl
