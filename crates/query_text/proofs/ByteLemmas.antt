-- Spelled tokens are read as such.
use Rattle.std.proofs.Common.{◌≡◌, ℕ, zero, suc, ◌≤◌, Bool, true, false, cond, List, [], ◌∷◌, ◌++◌, Option, Some, None, refl, ap, sym, ◌∙◌, arith, inl, inr, ◌⊎◌, append_assoc, append-nil}
use Rattle.std.specs.Prelude.{◌||◌, ◌==◌, option_and_then, codes}
use Rattle.std.specs.Option.{option_map, IfSome}
use Rattle.std.specs.Str.{bytes_eq}
use Rattle.hac_model.specs.Query.Grammar.{AllWordBytes, IsRun, AllPathBytes, IsPath, escape, escaped, Spells, EndsRun, EndsToken, spaced, SpellAll, Token, Open, Close, And, Or, Not, Of, Word, Prefix, Dir, leaf_part}
use Rattle.hac_model.specs.Query.Queries.{is_operator}
use Rattle.hac_model.specs.Query.QueryReading.{negate, receive, after_and, after_or, leave, at, after_run, run_step, sign_ends, brace_step, path_step, escape_step, token_begins, operand_begins, operator_begins, kind_of, step, read_whole, ended_token}
use Rattle.hac_model.specs.Query.Words.{lower_case}
use Rattle.hac_model.specs.declared.reading.ByteKind.{ByteKind}
use Rattle.hac_model.specs.declared.reading.ByteKind.TheVariants as kind
use Rattle.hac_model.specs.declared.reading.Ended.{Ended}
use Rattle.hac_model.specs.declared.reading.Operand.TheVariants as operand
use Rattle.hac_model.specs.declared.reading.Operator.TheVariants as operator
use Rattle.hac_model.specs.declared.reading.Part.{Part}
use Rattle.hac_model.specs.declared.reading.Reader.{Reader}
use Rattle.hac_model.specs.declared.reading.Reader.TheVariants.{Wants, Ends}
use Rattle.hac_model.specs.declared.reading.Stack.{Stack}
use Rattle.hac_model.specs.declared.reading.Stack.TheVariants.{Wanting, Ending}
use Rattle.hac_model.specs.declared.reading.Wanted.{Wanted}
use Rattle.query_text.proofs.KindLemmas.{kind_is, word_kind, space_kind, open_kind, close_kind, star_kind, brace_kind, end_brace_kind, backslash_kind, slash_kind, letter_word, ends_word, ends_sign, bare_step, escape_cases}
use Rattle.query_text.proofs.TokenLemmas.{feed, feeds}

-- the query to which bytes lead behind what was read
abbrev pub reads : List ℕ → Reader → Option Part
reads [] reader = read_whole reader
reads (b ∷ bytes) reader = option_and_then (reads bytes) (step b reader)

-- Spaces.

space_stays : (s : Stack) → token_begins kind.Space 32 s ≡ Some (at s)
space_stays (Wanting w) = refl
space_stays (Ending h) = refl

-- a byte where no token is under way
pub at_step : (b : ℕ) (s : Stack) → step b (at s) ≡ token_begins (kind_of b) b s
at_step b (Wanting w) = refl
at_step b (Ending h) = refl

pub spaces_skipped : (n : ℕ) (bytes : List ℕ) (s : Stack) → reads (spaced n bytes) (at s) ≡ reads bytes (at s)
spaces_skipped zero bytes s = refl
spaces_skipped (suc n) bytes s =
    ap (option_and_then (reads (spaced n bytes))) (at_step 32 s ∙ ap (λ (k : ByteKind). token_begins k 32 s) space_kind ∙ space_stays s)
    ∙ spaces_skipped n bytes s

ended_at : (s : Stack) → read_whole (at s) ≡ ended_token s
ended_at (Wanting w) = refl
ended_at (Ending h) = refl

-- Runs.

run_reads : (run more rest : List ℕ) (w : Wanted) → AllWordBytes more
    → reads (more ++ rest) (Wants (operand.Run run) w) ≡ reads rest (Wants (operand.Run (run ++ more)) w)
run_reads run [] rest w all = ap (λ (r : List ℕ). reads rest (Wants (operand.Run r) w)) (sym (append-nil run))
run_reads run (b ∷ more) rest w (word, all) =
    ap (λ (k : ByteKind). option_and_then (reads (more ++ rest)) (run_step k b run w)) (word_kind b word)
    ∙ run_reads (run ++ (b ∷ [])) more rest w all
    ∙ ap (λ (r : List ℕ). reads rest (Wants (operand.Run r) w)) (append_assoc run (b ∷ []) more)

-- a whole run where an operand is wanted
pub whole_run : (run rest : List ℕ) (w : Wanted) → IsRun run → reads (run ++ rest) (Wants operand.Nothing w) ≡ reads rest (Wants (operand.Run run) w)
whole_run [] rest w is = elim is [ ]
whole_run (b ∷ run) rest w (word, all) =
    ap (λ (k : ByteKind). option_and_then (reads (run ++ rest)) (operand_begins k b w)) (word_kind b word)
    ∙ run_reads (b ∷ []) run rest w all

pub and_then_again : {A B C : Type 0} (f : B → Option C) (g : A → Option B) (o : Option A)
    → option_and_then f (option_and_then g o) ≡ option_and_then (λ x. option_and_then f (g x)) o
and_then_again f g None = refl
and_then_again f g (Some x) = refl

-- what ends a run is a byte behind its token
pub run_over : (run rest : List ℕ) (w : Wanted) → EndsRun rest
    → reads rest (Wants (operand.Run run) w) ≡ option_and_then (λ s. reads rest (at s)) (after_run run w)
run_over run [] w ends = ap (λ (f : Stack → Option Part). option_and_then f (after_run run w)) (λ i s. sym (ended_at s) i)
run_over run (b ∷ rest) w (word, star) =
    ap (option_and_then (reads rest)) (ends_word (kind_of b) b run w (kind_is b) word star)
    ∙ and_then_again (reads rest) (token_begins (kind_of b) b) (after_run run w)
    ∙ ap (λ (f : Stack → Option Part). option_and_then f (after_run run w)) (λ i s. option_and_then (reads rest) (sym (at_step b s) i))

-- what ends an operator is a byte behind it
sign_over : (rest : List ℕ) (w : Wanted) → EndsRun rest → (reader : Reader) → read_whole reader ≡ None
    → ((b : ℕ) → step b reader ≡ sign_ends (kind_of b) b w) → reads rest reader ≡ reads rest (Wants operand.Nothing w)
sign_over [] w ends reader none steps = none
sign_over (b ∷ rest) w (word, star) reader none steps =
    ap (option_and_then (reads rest)) (steps b ∙ ends_sign (kind_of b) b w (kind_is b) word star)

pub after_not : (w : Wanted) → after_run (codes "NOT") w ≡ Some (Wanting (negate w))
unfolding after_run
after_not w = refl

not_operator : (run : List ℕ) → is_operator run ≡ false → bytes_eq run (codes "NOT") ≡ false
not_operator run none = last (bytes_eq run (codes "AND")) (bytes_eq run (codes "OR")) (bytes_eq run (codes "NOT")) none
  where
    last : (a b c : Bool) → (a || b || c) ≡ false → c ≡ false
    last false false c e = e
    last true b c e = cc
    last false true c e = cc

pub after_word : (run : List ℕ) (w : Wanted) → is_operator run ≡ false → after_run run w ≡ Some (Ending (receive (leaf_part (Word (lower_case run))) w))
unfolding after_run
after_word run w none =
    let other : Option Stack = Some (Ending (receive (leaf_part (Word (lower_case run))) w)) in
    ap (λ (t : Bool). cond t (Some (Wanting (negate w))) (cond (is_operator run) None other)) (not_operator run none)
    ∙ ap (λ (t : Bool). cond t None other) none

-- Paths.

path_reads : (path more rest : List ℕ) (w : Wanted) → AllPathBytes more
    → reads (escaped more ++ rest) (Wants (operand.Path path) w) ≡ reads rest (Wants (operand.Path (path ++ more)) w)
path_reads path [] rest w all = ap (λ (p : List ℕ). reads rest (Wants (operand.Path p) w)) (sym (append-nil path))
path_reads path (b ∷ more) rest w (control, all) =
    ap (λ (bytes : List ℕ). reads bytes (Wants (operand.Path path) w)) (append_assoc (escape b) (escaped more) rest)
    ∙ byte (escape_cases b)
    ∙ path_reads (path ++ (b ∷ [])) more rest w all
    ∙ ap (λ (p : List ℕ). reads rest (Wants (operand.Path p) w)) (append_assoc path (b ∷ []) more)
  where
    after : Option Part
    after = reads (escaped more ++ rest) (Wants (operand.Path (path ++ (b ∷ []))) w)

    slashed : (c : ℕ) (k : ByteKind) → kind_of c ≡ k → escape_step k c path w ≡ Some (Wants (operand.Path (path ++ (c ∷ []))) w)
        → reads (92 ∷ c ∷ (escaped more ++ rest)) (Wants (operand.Path path) w) ≡ reads (escaped more ++ rest) (Wants (operand.Path (path ++ (c ∷ []))) w)
    slashed c k is next =
        ap (λ (k : ByteKind). option_and_then (reads (c ∷ (escaped more ++ rest))) (path_step k 92 path w)) backslash_kind
        ∙ ap (option_and_then (reads (escaped more ++ rest))) (ap (λ (k : ByteKind). escape_step k c path w) is ∙ next)

    byte : (((b ≡ 125) ⊎ (b ≡ 92)) × (escape b ≡ 92 ∷ b ∷ [])) ⊎ (((b == 125 || b == 92) ≡ false) × (escape b ≡ b ∷ []))
        → reads (escape b ++ (escaped more ++ rest)) (Wants (operand.Path path) w) ≡ reads (escaped more ++ rest) (Wants (operand.Path (path ++ (b ∷ []))) w)
    byte (inl (inl brace, e)) =
        ap (λ (x : List ℕ). reads (x ++ (escaped more ++ rest)) (Wants (operand.Path path) w)) e
        ∙ slashed b kind.EndBrace (ap kind_of brace ∙ end_brace_kind) refl
    byte (inl (inr back, e)) =
        ap (λ (x : List ℕ). reads (x ++ (escaped more ++ rest)) (Wants (operand.Path path) w)) e
        ∙ slashed b kind.Backslash (ap kind_of back ∙ backslash_kind) refl
    byte (inr (bare, e)) =
        ap (λ (x : List ℕ). reads (x ++ (escaped more ++ rest)) (Wants (operand.Path path) w)) e
        ∙ ap (option_and_then (reads (escaped more ++ rest))) (bare_step (kind_of b) b path w (kind_is b) control bare)

whole_path : (path rest : List ℕ) (w : Wanted) → IsPath path → reads (escaped path ++ rest) (Wants operand.Brace w) ≡ reads rest (Wants (operand.Path path) w)
whole_path [] rest w is = elim is [ ]
whole_path (b ∷ path) rest w (slash, all) =
    ap (λ (x : ℕ). reads (escaped (x ∷ path) ++ rest) (Wants operand.Brace w)) slash
    ∙ ap (λ (k : ByteKind). option_and_then (reads (escaped path ++ rest)) (brace_begins k)) slash_kind
    ∙ path_reads (47 ∷ []) path rest w all
    ∙ ap (λ (x : ℕ). reads rest (Wants (operand.Path (x ∷ path)) w)) (sym slash)
  where
    brace_begins : ByteKind → Option Reader
    brace_begins k = brace_step k 47 w

-- Tokens.

letter : (b : ℕ) → kind_of b ≡ kind.Word → (rest : List ℕ) (h : Ended) (next : Reader) → operator_begins kind.Word b h ≡ Some next
    → reads (b ∷ rest) (Ends operator.Nothing h) ≡ reads rest next
letter b is rest h next e = ap (λ (k : ByteKind). option_and_then (reads rest) (operator_begins k b h)) is ∙ ap (option_and_then (reads rest)) e

capital : (b : ℕ) → 65 ≤ b → b ≤ 90 → kind_of b ≡ kind.Word
capital b low high = word_kind b (letter_word b low high)

-- a spelled token, at a place where it may come
token_reads : (t : Token) (s : Stack) (body rest : List ℕ) → Spells t body → EndsToken t rest
    → IfSome (feed t s) (λ next. reads (body ++ rest) (at s) ≡ reads rest (at next))
token_reads Open (Wanting w) body rest is ends =
    ap (λ (x : List ℕ). reads (x ++ rest) (Wants operand.Nothing w)) is
    ∙ ap (λ (k : ByteKind). option_and_then (reads rest) (operand_begins k 40 w)) open_kind
token_reads Not (Wanting w) body rest is ends =
    ap (λ (x : List ℕ). reads (x ++ rest) (Wants operand.Nothing w)) is
    ∙ whole_run (codes "NOT") rest w (letter_word 78 (omega arith) (omega arith), (letter_word 79 (omega arith) (omega arith), (letter_word 84 (omega arith) (omega arith), tt)))
    ∙ run_over (codes "NOT") rest w ends
    ∙ ap (option_and_then (λ s. reads rest (at s))) (after_not w)
token_reads (Of (Word letters)) (Wanting w) body rest (is, none, e) ends =
    whole_run body rest w is
    ∙ run_over body rest w ends
    ∙ ap (option_and_then (λ s. reads rest (at s))) (after_word body w none)
    ∙ ap (λ (x : List ℕ). reads rest (Ends operator.Nothing (receive (leaf_part (Word x)) w))) (sym e)
token_reads (Of (Prefix letters)) (Wanting w) body rest (run, is, e, b) ends =
    ap (λ (x : List ℕ). reads (x ++ rest) (Wants operand.Nothing w)) b
    ∙ ap (λ (x : List ℕ). reads x (Wants operand.Nothing w)) (append_assoc run (42 ∷ []) rest)
    ∙ whole_run run (42 ∷ rest) w is
    ∙ ap (λ (k : ByteKind). option_and_then (reads rest) (run_step k 42 run w)) star_kind
    ∙ ap (λ (x : List ℕ). reads rest (Ends operator.Nothing (receive (leaf_part (Prefix x)) w))) (sym e)
token_reads (Of (Dir path)) (Wanting w) body rest (is, b) ends =
    ap (λ (x : List ℕ). reads (x ++ rest) (Wants operand.Nothing w)) b
    ∙ ap (λ (k : ByteKind). option_and_then (reads ((escaped path ++ (125 ∷ [])) ++ rest)) (operand_begins k 123 w)) brace_kind
    ∙ ap (λ (x : List ℕ). reads x (Wants operand.Brace w)) (append_assoc (escaped path) (125 ∷ []) rest)
    ∙ whole_path path (125 ∷ rest) w is
    ∙ ap (λ (k : ByteKind). option_and_then (reads rest) (path_step k 125 path w)) end_brace_kind
token_reads Close (Wanting w) body rest is ends = tt
token_reads And (Wanting w) body rest is ends = tt
token_reads Or (Wanting w) body rest is ends = tt
token_reads And (Ending h) body rest is ends =
    ap (λ (x : List ℕ). reads (x ++ rest) (Ends operator.Nothing h)) is
    ∙ letter 65 (capital 65 (omega arith) (omega arith)) (78 ∷ 68 ∷ rest) h (Ends operator.A h) refl
    ∙ sign_over rest (after_and h) ends (Ends operator.And h) refl (λ b. refl)
token_reads Or (Ending h) body rest is ends =
    ap (λ (x : List ℕ). reads (x ++ rest) (Ends operator.Nothing h)) is
    ∙ letter 79 (capital 79 (omega arith) (omega arith)) (82 ∷ rest) h (Ends operator.O h) refl
    ∙ sign_over rest (after_or h) ends (Ends operator.Or h) refl (λ b. refl)
token_reads Close (Ending h) body rest is ends = closes (leave h) refl
  where
    closes : (o : Option Ended) → leave h ≡ o → IfSome (option_map Ending o) (λ next. reads (body ++ rest) (Ends operator.Nothing h) ≡ reads rest (at next))
    closes None e = tt
    closes (Some next) e =
        ap (λ (x : List ℕ). reads (x ++ rest) (Ends operator.Nothing h)) is
        ∙ ap (λ (k : ByteKind). option_and_then (reads rest) (operator_begins k 41 h)) close_kind
        ∙ ap (λ (o : Option Ended). option_and_then (reads rest) (option_map (Ends operator.Nothing) o)) e
token_reads Open (Ending h) body rest is ends = tt
token_reads Not (Ending h) body rest is ends = tt
token_reads (Of (Word letters)) (Ending h) body rest is ends = tt
token_reads (Of (Prefix letters)) (Ending h) body rest is ends = tt
token_reads (Of (Dir path)) (Ending h) body rest is ends = tt

module _ (ts : List Token) (rest all : List ℕ) (s : Stack) (part : Part) where
  goes : (o : Option Stack) → IfSome o (λ next. reads all (at s) ≡ reads rest (at next))
      → ((next : Stack) → feeds ts next ≡ Some part → reads rest (at next) ≡ Some part) → option_and_then (feeds ts) o ≡ Some part → reads all (at s) ≡ Some part
  goes None same follow e = cc
  goes (Some next) same follow e = same ∙ follow next e

-- tokens that lead to a query are read as it, however they are spelled
pub spelled_reads : (ts : List Token) (bytes : List ℕ) (s : Stack) (part : Part) → SpellAll ts bytes → feeds ts s ≡ Some part → reads bytes (at s) ≡ Some part
spelled_reads [] bytes s part (n, is) e = ap (λ (x : List ℕ). reads x (at s)) is ∙ spaces_skipped n [] s ∙ ended_at s ∙ e
spelled_reads (t ∷ ts) bytes s part (n, body, rest, spells, ends, all, is) e =
    ap (λ (x : List ℕ). reads x (at s)) is ∙ spaces_skipped n (body ++ rest) s
    ∙ goes ts rest (body ++ rest) s part (feed t s) (token_reads t s body rest spells ends) (λ next e. spelled_reads ts rest next part all e) e
