-- A line that is whole, in front of anything; and two scripts that are joined.
use Rattle.std.proofs.Common.{◌≡◌, ℕ, zero, suc, ◌+◌, ◌<◌, ◌≤◌, Bool, true, false, List, [], ◌∷◌, ◌++◌, length, take, drop, get_or, Option, refl, ap, sym, ◌∙◌, arith, append_assoc, length-append}
use Rattle.std.specs.Prelude.{◌&&◌, not, if◌then◌else◌, nat_le, nat_lt}
use Rattle.std.specs.List.{position_or_len}
use Rattle.std.proofs.lemmas.Bool.{and_parts, eqb-true}
use Rattle.std.proofs.lemmas.List.{append_cancel_left, length-take-le, take-append-drop, take-append-le, drop-append-le}
use Rattle.std.proofs.lemmas.List.Folds.{prefix_len-append}
use Rattle.std.proofs.lemmas.List.Sums.{split_at_first, passes_at_first}
use Rattle.std.proofs.Math.Seq.{take-append_seam, drop-append_seam, drop-append-add, drop-nil}
use Rattle.std.proofs.lemmas.Grind.{common_steps}
use Rattle.hac_model.specs.Bytes.{is_line_end}
use Rattle.hac_model.specs.Script.Lines.{Item, items_of}
use Rattle.hac_model.specs.Script.{first_line, after_line, is_first_ended, due, first_items, after_item, script, is_first_whole, whole_line, whole}
use Rattle.hac_model.specs.Run.Play.{Given, Setting, Turn, given_behind, left_by, nothing_given, play, item_turn, turns}
use Rattle.hac_model.proofs.FrontLemmas.{items-front}
use Rattle.hac_model.proofs.PrefixLemmas.{unended-take}
use Rattle.hac_model.proofs.ScriptLemmas.{script-step, script-nothing, whole-step, length-after_item}

pub le-holds : (m n : ℕ) → m ≤ n → nat_le m n ≡ true
le-holds m n h = grind (arith, common_steps, h)

le-fails : (m n : ℕ) → n < m → nat_le m n ≡ false
le-fails m n h = grind (arith, common_steps, h)

le-told : (m n : ℕ) → nat_le m n ≡ true → m ≤ n
le-told m n h = grind (arith, common_steps, h)

-- a first line that has its end stays the first line, whatever follows
pub position-ended : (a more : List ℕ) → position_or_len is_line_end a < length a → position_or_len is_line_end (a ++ more) ≡ position_or_len is_line_end a
position-ended a more h = grind (arith, common_steps, prefix_len-append (λ b. not (is_line_end b)) a more)

-- bytes without a line end end where the next line end is
pub position-unended : (a b : List ℕ) → position_or_len is_line_end a ≡ length a → position_or_len is_line_end (a ++ 10 ∷ b) ≡ length a
position-unended a b e = grind (arith, common_steps, prefix_len-append (λ x. not (is_line_end x)) a (10 ∷ b))

pub first_line-ended : (a more : List ℕ) → position_or_len is_line_end a < length a → take (position_or_len is_line_end (a ++ more)) (a ++ more) ≡ take (position_or_len is_line_end a) a
first_line-ended a more ended = rw (position-ended a more ended) (take-append-le (position_or_len is_line_end a) a more (omega arith))

pub after_line-ended : (a more : List ℕ) → position_or_len is_line_end a < length a → drop (position_or_len is_line_end (a ++ more) + 1) (a ++ more) ≡ drop (position_or_len is_line_end a + 1) a ++ more
after_line-ended a more ended = rw (position-ended a more ended) (drop-append-le (position_or_len is_line_end a + 1) a more (omega arith))

pub first_line-unended : (a b : List ℕ) → position_or_len is_line_end a ≡ length a → take (position_or_len is_line_end (a ++ 10 ∷ b)) (a ++ 10 ∷ b) ≡ a
first_line-unended a b unended = rw (position-unended a b unended) (take-append_seam a (10 ∷ b))

pub after_line-unended : (a b : List ℕ) → position_or_len is_line_end a ≡ length a → drop (position_or_len is_line_end (a ++ 10 ∷ b) + 1) (a ++ 10 ∷ b) ≡ b
after_line-unended a b unended = rw (position-unended a b unended) (drop-append-add a (10 ∷ b) 1)

-- the first line has no line end in it
pub first_line-is_unended : (b : List ℕ) → position_or_len is_line_end (first_line b) ≡ length (first_line b)
first_line-is_unended b = unended-take is_line_end (position_or_len is_line_end b) b (omega arith)

-- bytes whose first line has its end are that line, its end, and what is behind it
pub bytes-line : (b : List ℕ) → is_first_ended b ≡ true → b ≡ first_line b ++ 10 ∷ after_line b
bytes-line b ended =
    let inside : position_or_len is_line_end b < length b = grind (arith, common_steps, ended) in
    let end : get_or b (position_or_len is_line_end b) 0 ≡ 10 = eqb-true (get_or b (position_or_len is_line_end b) 0) 10 (passes_at_first is_line_end b 0 inside) in
    split_at_first is_line_end b 0 inside ∙ ap (λ (e : ℕ). first_line b ++ e ∷ after_line b) end

pub first_items-line : (line xs more : List ℕ) → position_or_len is_line_end line ≡ length line → due line ≡ length xs → first_items (line ++ 10 ∷ (xs ++ more)) ≡ items_of line xs
first_items-line line xs more unended asked =
    let b = line ++ 10 ∷ (xs ++ more) in
    ap (λ (first : List ℕ). items_of first (after_line b)) (first_line-unended line (xs ++ more) unended)
    ∙ ap (λ (behind : List ℕ). items_of line behind) (after_line-unended line (xs ++ more) unended)
    ∙ items-front line xs more asked

pub after_item-line : (line xs more : List ℕ) → position_or_len is_line_end line ≡ length line → due line ≡ length xs → after_item (line ++ 10 ∷ (xs ++ more)) ≡ more
after_item-line line xs more unended asked =
    let b = line ++ 10 ∷ (xs ++ more) in
    ap (λ (first : List ℕ). drop (due first) (after_line b)) (first_line-unended line (xs ++ more) unended)
    ∙ ap (λ (behind : List ℕ). drop (due line) behind) (after_line-unended line (xs ++ more) unended)
    ∙ ap (λ (n : ℕ). drop n (xs ++ more)) asked ∙ drop-append_seam xs more

-- a whole line gives its items before all that follows
pub script-line : (line xs more : List ℕ) → position_or_len is_line_end line ≡ length line → due line ≡ length xs →
    script (line ++ 10 ∷ (xs ++ more)) ≡ items_of line xs ++ script more
script-line line xs more unended asked =
    let b = line ++ 10 ∷ (xs ++ more) in
    script-step b
    ∙ ap (λ (items : List Item). items ++ script (after_item b)) (first_items-line line xs more unended asked)
    ∙ ap (λ (rest : List ℕ). items_of line xs ++ script rest) (after_item-line line xs more unended asked)

-- whether a line with its end is whole depends on the bytes behind it
is_first_whole-line : (line behind : List ℕ) → position_or_len is_line_end line ≡ length line → is_first_whole (line ++ 10 ∷ behind) ≡ nat_le (due line) (length behind)
is_first_whole-line line behind unended =
    let b = line ++ 10 ∷ behind in
    let ended : is_first_ended (line ++ 10 ∷ behind) ≡ true = rw (position-unended line behind unended, length-append line (10 ∷ behind)) (grind (arith, common_steps)) in
    ap (λ (test : Bool). test && nat_le (due (first_line b)) (length (after_line b))) ended
    ∙ ap (λ (first : List ℕ). nat_le (due first) (length (after_line b))) (first_line-unended line behind unended)
    ∙ ap (λ (rest : List ℕ). nat_le (due line) (length rest)) (after_line-unended line behind unended)

whole_line-line : (line xs more : List ℕ) → position_or_len is_line_end line ≡ length line → due line ≡ length xs → whole_line (line ++ 10 ∷ (xs ++ more)) ≡ line ++ 10 ∷ xs
whole_line-line line xs more unended asked =
    let b = line ++ 10 ∷ (xs ++ more) in
    let count : length line + 1 + length xs ≡ length (line ++ 10 ∷ xs) = omega (arith, length-append line (10 ∷ xs)) in
    ap (λ (first : List ℕ). take (position_or_len is_line_end b + 1 + due first) b) (first_line-unended line (xs ++ more) unended)
    ∙ ap (λ (n : ℕ). take (n + 1 + due line) b) (position-unended line (xs ++ more) unended)
    ∙ ap (λ (n : ℕ). take (length line + 1 + n) b) asked
    ∙ ap (λ (n : ℕ). take n b) count
    ∙ ap (λ (all : List ℕ). take (length (line ++ 10 ∷ xs)) all) (sym (append_assoc line (10 ∷ xs) more))
    ∙ take-append_seam (line ++ 10 ∷ xs) more

-- a whole line is whole before all that follows
pub whole-line : (line xs more : List ℕ) → position_or_len is_line_end line ≡ length line → due line ≡ length xs → whole (line ++ 10 ∷ (xs ++ more)) ≡ (line ++ 10 ∷ xs) ++ whole more
whole-line line xs more unended asked =
    let b = line ++ 10 ∷ (xs ++ more) in
    let test : nat_le (due line) (length (xs ++ more)) ≡ true = le-holds (due line) (length (xs ++ more)) (omega (arith, length-append xs more, asked)) in
    whole-step b
    ∙ ap (λ (t : Bool). if t then whole_line b ++ whole (after_item b) else []) (is_first_whole-line line (xs ++ more) unended ∙ test)
    ∙ ap (λ (front : List ℕ). front ++ whole (after_item b)) (whole_line-line line xs more unended asked)
    ∙ ap (λ (rest : List ℕ). (line ++ 10 ∷ xs) ++ whole rest) (after_item-line line xs more unended asked)

-- a line with its end isn't whole where not all bytes follow that belong to it
pub whole-short : (line xs : List ℕ) → position_or_len is_line_end line ≡ length line → length xs < due line → whole (line ++ 10 ∷ xs) ≡ []
whole-short line xs unended short =
    let b = line ++ 10 ∷ xs in
    let test : nat_le (due line) (length xs) ≡ false = le-fails (due line) (length xs) short in
    whole-step b ∙ ap (λ (t : Bool). if t then whole_line b ++ whole (after_item b) else []) (is_first_whole-line line xs unended ∙ test)

-- bytes without a line end have no whole line
pub whole-unended : (b : List ℕ) → position_or_len is_line_end b ≡ length b → whole b ≡ []
whole-unended b unended =
    let open_end : nat_lt (position_or_len is_line_end b) (length b) ≡ false = grind (arith, common_steps, unended) in
    whole-step b ∙ ap (λ (test : Bool). if test && nat_le (due (first_line b)) (length (after_line b)) then whole_line b ++ whole (after_item b) else []) open_end

-- bytes whose first line is whole are that line, its end, the bytes that belong to it, and what is behind them
pub record IsCut (b line xs rest : List ℕ) : Type 0 where
  pub bytes : b ≡ line ++ 10 ∷ (xs ++ rest)
  pub asked : due line ≡ length xs

pub bytes-whole : (b : List ℕ) → is_first_whole b ≡ true → IsCut b (first_line b) (take (due (first_line b)) (after_line b)) (after_item b)
bytes-whole b is_whole =
    let parts = and_parts (is_first_ended b) (nat_le (due (first_line b)) (length (after_line b))) is_whole in
    let enough : due (first_line b) ≤ length (after_line b) = le-told (due (first_line b)) (length (after_line b)) parts.1 in
    record {
      bytes = bytes-line b parts.0 ∙ ap (λ (behind : List ℕ). first_line b ++ 10 ∷ behind) (sym (take-append-drop (due (first_line b)) (after_line b)));
      asked = sym (length-take-le (due (first_line b)) (after_line b) enough);
    }

-- whole lines whose first is cut off are whole lines
whole-rest : (b line xs rest : List ℕ) → position_or_len is_line_end line ≡ length line → IsCut b line xs rest → whole b ≡ b → whole rest ≡ rest
whole-rest b line xs rest unended is_cut lines =
    append_cancel_left (line ++ 10 ∷ xs) (whole rest) rest
    (sym (whole-line line xs rest unended is_cut.asked) ∙ ap (λ (all : List ℕ). whole all) (sym is_cut.bytes) ∙ lines ∙ is_cut.bytes ∙ sym (append_assoc line (10 ∷ xs) rest))

-- a line, its end and its bytes, with more behind what is behind them
pub cut-append : (line xs rest more : List ℕ) → (line ++ 10 ∷ (xs ++ rest)) ++ more ≡ line ++ 10 ∷ (xs ++ (rest ++ more))
cut-append line xs rest more = append_assoc line (10 ∷ (xs ++ rest)) more ∙ ap (λ (behind : List ℕ). line ++ 10 ∷ behind) (append_assoc xs rest more)

joined_behind : (a b line xs rest : List ℕ) → position_or_len is_line_end line ≡ length line → IsCut a line xs rest → script (rest ++ b) ≡ script rest ++ script b → script (a ++ b) ≡ script a ++ script b
joined_behind a b line xs rest unended is_cut behind =
    let items = items_of line xs in
    ap (λ (all : List ℕ). script (all ++ b)) is_cut.bytes
    ∙ ap (λ (all : List ℕ). script all) (cut-append line xs rest b)
    ∙ script-line line xs (rest ++ b) unended is_cut.asked
    ∙ ap (λ (more : List Item). items ++ more) behind
    ∙ sym (append_assoc items (script rest) (script b))
    ∙ ap (λ (more : List Item). more ++ script b) (sym (script-line line xs rest unended is_cut.asked))
    ∙ ap (λ (all : List ℕ). script all ++ script b) (sym is_cut.bytes)

no_whole_line : (x : ℕ) (a : List ℕ) → is_first_whole (x ∷ a) ≡ false → whole (x ∷ a) ≡ x ∷ a → ⊥
no_whole_line x a test lines =
    let nothing : whole (x ∷ a) ≡ [] = whole-step (x ∷ a) ∙ ap (λ (t : Bool). if t then whole_line (x ∷ a) ++ whole (after_item (x ∷ a)) else []) test in
    absurd cc

script-joined-within : (n : ℕ) (a b : List ℕ) → length a ≤ n → whole a ≡ a → script (a ++ b) ≡ script a ++ script b
script-joined-within n [] b h lines = ap (λ (items : List Item). items ++ script b) (sym script-nothing)
script-joined-within zero (x ∷ a) b h lines = absurd (omega arith)
script-joined-within (suc n) (x ∷ a) b h lines =
    elim (is_first_whole (x ∷ a)) as (λ t. is_first_whole (x ∷ a) ≡ t → script ((x ∷ a) ++ b) ≡ script (x ∷ a) ++ script b) [
      | true ↦ (λ test.
          let all = x ∷ a in
          let is_cut = bytes-whole (x ∷ a) test in
          let unended = first_line-is_unended (x ∷ a) in
          let rest = after_item (x ∷ a) in
          let xs = take (due (first_line (x ∷ a))) (after_line (x ∷ a)) in
          joined_behind all b (first_line all) xs rest unended is_cut
          (script-joined-within n (after_item (x ∷ a)) b (omega (arith, length-after_item x a)) (whole-rest all (first_line all) xs rest unended is_cut lines)))
      | false ↦ (λ test. absurd (no_whole_line x a test lines))
    ] refl

-- a script of whole lines gives its items before all that follows
pub script-joined : (a b : List ℕ) → whole a ≡ a → script (a ++ b) ≡ script a ++ script b
script-joined a b lines = script-joined-within (length a) a b (omega arith) lines

-- what is given behind one command, and then behind n more
given_behind-next : (n : ℕ) (given : Given) → given_behind n (given_behind 1 given) ≡ given_behind (suc n) given
given_behind-next n given = ap (λ (faults : List (Option (List ℕ))). record given { faults = faults }) (next given.faults)
  where
    next : (faults : List (Option (List ℕ))) → drop n (drop 1 faults) ≡ drop (suc n) faults
    next [] = drop-nil n
    next (fault ∷ faults) = refl

-- turns that are joined go on from what the first ones leave
pub turns-append : (given : Given) (setting : Setting) (xs ys : List Item) →
    turns given setting (xs ++ ys) ≡ turns given setting xs ++ turns (given_behind (length xs) given) (left_by setting (turns given setting xs)) ys
turns-append given setting [] ys = refl
turns-append given setting (x ∷ xs) ys =
    let after = (item_turn given setting x).after in
    let rest = turns (given_behind 1 given) after xs in
    ap (λ (more : List Turn). item_turn given setting x ∷ more) (turns-append (given_behind 1 given) after xs ys)
    ∙ ap (λ (behind : Given). item_turn given setting x ∷ (rest ++ turns behind (left_by after rest) ys)) (given_behind-next (length xs) given)

-- there are as many turns as lines
turns-length : (given : Given) (setting : Setting) (xs : List Item) → length (turns given setting xs) ≡ length xs
turns-length given setting [] = refl
turns-length given setting (x ∷ xs) = ap (λ (n : ℕ). suc n) (turns-length (given_behind 1 given) (item_turn given setting x).after xs)

pub left_by-append : (setting : Setting) (xs ys : List Turn) → left_by setting (xs ++ ys) ≡ left_by (left_by setting xs) ys
left_by-append setting [] ys = refl
left_by-append setting (x ∷ xs) ys = left_by-append x.after xs ys

pub scripts-join : (given : Given) (setting : Setting) (first second : List ℕ) → whole first ≡ first →
    play given setting (first ++ second)
    ≡ play given setting first ++ play (given_behind (length (play given setting first)) given) (left_by setting (play given setting first)) second
scripts-join given setting first second lines =
    ap (turns given setting) (script-joined first second lines) ∙ turns-append given setting (script first) (script second)
    ∙ ap (λ (n : ℕ). play given setting first ++ play (given_behind n given) (left_by setting (play given setting first)) second)
    (sym (turns-length given setting (script first)))

-- Where nothing is given, nothing is behind any commands.

given-nothing : (n : ℕ) → given_behind n nothing_given ≡ nothing_given
given-nothing n = ap (λ (faults : List (Option (List ℕ))). record nothing_given { faults = faults }) (drop-nil n)

pub turns-joined : (setting : Setting) (xs ys : List Item) →
    turns nothing_given setting (xs ++ ys) ≡ turns nothing_given setting xs ++ turns nothing_given (left_by setting (turns nothing_given setting xs)) ys
turns-joined setting xs ys =
    let done = turns nothing_given setting xs in
    turns-append nothing_given setting xs ys ∙ ap (λ (given : Given). done ++ turns given (left_by setting done) ys) (given-nothing (length xs))

pub scripts-joined : (setting : Setting) (first second : List ℕ) → whole first ≡ first →
    play nothing_given setting (first ++ second) ≡ play nothing_given setting first ++ play nothing_given (left_by setting (play nothing_given setting first)) second
scripts-joined setting first second lines =
    ap (turns nothing_given setting) (script-joined first second lines) ∙ turns-joined setting (script first) (script second)

-- a script is played by its first line and what follows that
pub play-line : (setting : Setting) (b : List ℕ) →
    play nothing_given setting b
    ≡ turns nothing_given setting (first_items b) ++ play nothing_given (left_by setting (turns nothing_given setting (first_items b))) (after_item b)
play-line setting b = ap (turns nothing_given setting) (script-step b) ∙ turns-joined setting (first_items b) (script (after_item b))
