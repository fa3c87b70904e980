-- Bytes that lead to a query spell tokens that do.
use Rattle.std.proofs.Common.{◌≡◌, ℕ, zero, suc, Bool, true, false, cond, List, [], ◌∷◌, ◌++◌, Option, Some, None, refl, ap, sym, subst, ◌∙◌, append_assoc, append-nil}
use Rattle.std.specs.Prelude.{◌==◌, option_and_then, ⊤, codes}
use Rattle.std.specs.Option.{option_map, IfSome}
use Rattle.std.specs.Str.{bytes_eq}
use Rattle.std.proofs.lemmas.Bool.{eqb-true}
use Rattle.std.proofs.lemmas.Slice.Eq.{bytes_eq-Decides}
use Rattle.hac_model.specs.Query.Grammar.{AllWordBytes, IsRun, AllPathBytes, IsPath, is_control, escape, escaped, Spells, EndsRun, EndsToken, SpellAll, Token, Open, Close, And, Or, Not, Of, Word, Prefix, Dir, leaf_part}
use Rattle.hac_model.specs.Query.Queries.{is_operator}
use Rattle.hac_model.specs.Query.QueryReading.{enter, negate, receive, after_and, after_or, leave, after_run, run_step, run_ends, sign_ends, brace_step, path_step, escape_step, token_begins, operand_begins, operator_begins, kind_step, kind_of, read_whole, ended_token}
use Rattle.hac_model.specs.Query.Words.{is_word_byte, lower_case}
use Rattle.hac_model.specs.declared.reading.ByteKind.{ByteKind}
use Rattle.hac_model.specs.declared.reading.ByteKind.TheVariants as kind
use Rattle.hac_model.specs.declared.reading.Ended.{Ended}
use Rattle.hac_model.specs.declared.reading.Operand.TheVariants as operand
use Rattle.hac_model.specs.declared.reading.Operator.{Operator}
use Rattle.hac_model.specs.declared.reading.Operator.TheVariants as operator
use Rattle.hac_model.specs.declared.reading.Part.{Part}
use Rattle.hac_model.specs.declared.reading.Reader.{Reader}
use Rattle.hac_model.specs.declared.reading.Reader.TheVariants.{Wants, Ends}
use Rattle.hac_model.specs.declared.reading.Stack.{Stack}
use Rattle.hac_model.specs.declared.reading.Stack.TheVariants.{Wanting, Ending}
use Rattle.hac_model.specs.declared.reading.Wanted.{Wanted}
use Rattle.query_text.proofs.ByteLemmas.{reads}
use Rattle.query_text.proofs.KindLemmas.{IsKind, kind_is, IsEnd, kind_ends, IsPathKind, path_bare}
use Rattle.query_text.proofs.TokenLemmas.{feed, feeds}

-- the bytes of the token under way
abbrev pub pending : Reader → List ℕ
pending (Wants operand.Nothing w) = []
pending (Wants (operand.Run run) w) = run
pending (Wants operand.Brace w) = 123 ∷ []
pending (Wants (operand.Path path) w) = 123 ∷ escaped path
pending (Wants (operand.Escape path) w) = 123 ∷ (escaped path ++ (92 ∷ []))
pending (Ends operator.Nothing h) = []
pending (Ends operator.A h) = 65 ∷ []
pending (Ends operator.An h) = 65 ∷ 78 ∷ []
pending (Ends operator.And h) = 65 ∷ 78 ∷ 68 ∷ []
pending (Ends operator.O h) = 79 ∷ []
pending (Ends operator.Or h) = 79 ∷ 82 ∷ []

-- they are those of such a token
abbrev pub Proper : Reader → Type 0
Proper (Wants (operand.Run run) w) = IsRun run
Proper (Wants (operand.Path path) w) = IsPath path
Proper (Wants (operand.Escape path) w) = IsPath path
Proper other = ⊤

abbrev pub before : Reader → Stack
before (Wants read w) = Wanting w
before (Ends read h) = Ending h

-- the bytes spell tokens that lead to the query
abbrev pub Shown : List ℕ → Stack → Part → Type 0
Shown bytes s part = (ts : List Token) × SpellAll ts bytes × (feeds ts s ≡ Some part)

space_shown : (bytes : List ℕ) (s : Stack) (part : Part) → Shown bytes s part → Shown (32 ∷ bytes) s part
space_shown bytes s part ([], (n, is), e) = ([], (suc n, ap (λ (x : List ℕ). 32 ∷ x) is), e)
space_shown bytes s part (t ∷ ts, (n, body, rest, spells, ends, all, is), e) = (t ∷ ts, (suc n, body, rest, spells, ends, all, ap (λ (x : List ℕ). 32 ∷ x) is), e)

token_shown : (t : Token) (s next : Stack) (body rest : List ℕ) (part : Part) → Spells t body → EndsToken t rest → feed t s ≡ Some next → Shown rest next part → Shown (body ++ rest) s part
token_shown t s next body rest part spells ends fed (ts, all, e) =
    (t ∷ ts, (zero, body, rest, spells, ends, all, refl), ap (option_and_then (feeds ts)) fed ∙ e)

-- a run more
run_more : (run : List ℕ) (b : ℕ) → IsRun run → is_word_byte b ≡ true → IsRun (run ++ (b ∷ []))
run_more [] b is word = elim is [ ]
run_more (c ∷ run) b (first, all) word = (first, more run all)
  where
    more : (run : List ℕ) → AllWordBytes run → AllWordBytes (run ++ (b ∷ []))
    more [] all = (word, tt)
    more (c ∷ run) (first, all) = (first, more run all)

path_more : (path : List ℕ) (b : ℕ) → IsPath path → is_control b ≡ false → IsPath (path ++ (b ∷ []))
path_more [] b is control = elim is [ ]
path_more (c ∷ path) b (first, all) control = (first, more path all)
  where
    more : (path : List ℕ) → AllPathBytes path → AllPathBytes (path ++ (b ∷ []))
    more [] all = (control, tt)
    more (c ∷ path) (first, all) = (first, more path all)

escaped_more : (path : List ℕ) (b : ℕ) → escaped (path ++ (b ∷ [])) ≡ escaped path ++ escape b
escaped_more [] b = append-nil (escape b)
escaped_more (c ∷ path) b = ap (λ (x : List ℕ). escape c ++ x) (escaped_more path b) ∙ sym (append_assoc (escape c) (escaped path) (escape b))

-- the token that a run is
run_token : (run : List ℕ) (w : Wanted) → IsRun run
    → IfSome (after_run run w) (λ next. (t : Token) × Spells t run × (feed t (Wanting w) ≡ Some next) × ((rest : List ℕ) → EndsRun rest → EndsToken t rest))
unfolding after_run
run_token run w is = pick (bytes_eq run (codes "NOT")) (is_operator run) refl refl
  where
    pick : (a b : Bool) → bytes_eq run (codes "NOT") ≡ a → is_operator run ≡ b
        → IfSome (cond a (Some (Wanting (negate w))) (cond b None (Some (Ending (receive (leaf_part (Word (lower_case run))) w)))))
        (λ next. (t : Token) × Spells t run × (feed t (Wanting w) ≡ Some next) × ((rest : List ℕ) → EndsRun rest → EndsToken t rest))
    pick true b e f = (Not, (bytes_eq-Decides run (codes "NOT")).0 e, refl, λ rest ends. ends)
    pick false true e f = tt
    pick false false e f = (Of (Word (lower_case run)), (is, f, refl), refl, λ rest ends. ends)

-- a run that ended
run_shown : (run rest : List ℕ) (w : Wanted) (part : Part) (follow : Stack → Option Part) → IsRun run → EndsRun rest
    → ((next : Stack) → follow next ≡ Some part → Shown rest next part)
    → option_and_then follow (after_run run w) ≡ Some part → Shown (run ++ rest) (Wanting w) part
run_shown run rest w part follow is ends shown e = at_token (after_run run w) (run_token run w is) e
  where
    at_token : (o : Option Stack)
        → IfSome o (λ next. (t : Token) × Spells t run × (feed t (Wanting w) ≡ Some next) × ((rest : List ℕ) → EndsRun rest → EndsToken t rest))
        → option_and_then follow o ≡ Some part → Shown (run ++ rest) (Wanting w) part
    at_token None none e = cc
    at_token (Some next) (t, spells, fed, may) e = token_shown t (Wanting w) next run rest part spells (may rest ends) fed (shown next e)

-- One byte more, given what is shown behind it.

module _ (bytes : List ℕ) (part : Part) (known : (reader : Reader) → Proper reader → reads bytes reader ≡ Some part → Shown (pending reader ++ bytes) (before reader) part) where
  -- where an operand is wanted
  wanted_shown : (k : ByteKind) (b : ℕ) (w : Wanted) → IsKind k b → option_and_then (reads bytes) (operand_begins k b w) ≡ Some part → Shown (b ∷ bytes) (Wanting w) part
  wanted_shown kind.Word b w is e = known (Wants (operand.Run (b ∷ [])) w) (is, tt) e
  wanted_shown kind.Space b w is e = subst (λ (x : ℕ). Shown (x ∷ bytes) (Wanting w) part) (sym is) (space_shown bytes (Wanting w) part (known (Wants operand.Nothing w) tt e))
  wanted_shown kind.Open b w is e =
      token_shown Open (Wanting w) (Wanting (enter w)) (b ∷ []) bytes part (ap (λ (x : ℕ). x ∷ []) is) tt refl (known (Wants operand.Nothing (enter w)) tt e)
  wanted_shown kind.Brace b w is e = subst (λ (x : ℕ). Shown (x ∷ bytes) (Wanting w) part) (sym is) (known (Wants operand.Brace w) tt e)
  wanted_shown kind.Close b w is e = cc
  wanted_shown kind.Star b w is e = cc
  wanted_shown kind.EndBrace b w is e = cc
  wanted_shown kind.Backslash b w is e = cc
  wanted_shown kind.Slash b w is e = cc
  wanted_shown kind.Control b w is e = cc
  wanted_shown kind.Foreign b w is e = cc

  sign_shown : (t u : Bool) (b : ℕ) (h : Ended) → (b == 65) ≡ t → (b == 79) ≡ u
      → option_and_then (reads bytes) (cond t (Some (Ends operator.A h)) (cond u (Some (Ends operator.O h)) None)) ≡ Some part → Shown (b ∷ bytes) (Ending h) part
  sign_shown true u b h is other e = subst (λ (x : ℕ). Shown (x ∷ bytes) (Ending h) part) (sym (eqb-true b 65 is)) (known (Ends operator.A h) tt e)
  sign_shown false true b h is other e = subst (λ (x : ℕ). Shown (x ∷ bytes) (Ending h) part) (sym (eqb-true b 79 other)) (known (Ends operator.O h) tt e)
  sign_shown false false b h is other e = cc

  close_shown : (b : ℕ) (h : Ended) (o : Option Ended) → b ≡ 41 → leave h ≡ o → option_and_then (reads bytes) (option_map (Ends operator.Nothing) o) ≡ Some part → Shown (b ∷ bytes) (Ending h) part
  close_shown b h None is left e = cc
  close_shown b h (Some next) is left e =
      token_shown Close (Ending h) (Ending next) (b ∷ []) bytes part (ap (λ (x : ℕ). x ∷ []) is) tt (ap (option_map Ending) left) (known (Ends operator.Nothing next) tt e)

  -- where an operand ended
  held_shown : (k : ByteKind) (b : ℕ) (h : Ended) → IsKind k b → option_and_then (reads bytes) (operator_begins k b h) ≡ Some part → Shown (b ∷ bytes) (Ending h) part
  held_shown kind.Word b h is e = sign_shown (b == 65) (b == 79) b h refl refl e
  held_shown kind.Space b h is e = subst (λ (x : ℕ). Shown (x ∷ bytes) (Ending h) part) (sym is) (space_shown bytes (Ending h) part (known (Ends operator.Nothing h) tt e))
  held_shown kind.Close b h is e = close_shown b h (leave h) is refl e
  held_shown kind.Open b h is e = cc
  held_shown kind.Brace b h is e = cc
  held_shown kind.Star b h is e = cc
  held_shown kind.EndBrace b h is e = cc
  held_shown kind.Backslash b h is e = cc
  held_shown kind.Slash b h is e = cc
  held_shown kind.Control b h is e = cc
  held_shown kind.Foreign b h is e = cc

  begun_shown : (k : ByteKind) (b : ℕ) (s : Stack) → IsKind k b → option_and_then (reads bytes) (token_begins k b s) ≡ Some part → Shown (b ∷ bytes) s part
  begun_shown k b (Wanting w) is e = wanted_shown k b w is e
  begun_shown k b (Ending h) is e = held_shown k b h is e

  and_then_again : {A B C : Type 0} (f : B → Option C) (g : A → Option B) (o : Option A)
      → option_and_then f (option_and_then g o) ≡ option_and_then (λ x. option_and_then f (g x)) o
  and_then_again f g None = refl
  and_then_again f g (Some x) = refl

  ended_run : (k : ByteKind) (b : ℕ) (run : List ℕ) (w : Wanted) → IsKind k b → IsEnd k → IsRun run
      → option_and_then (reads bytes) (run_ends k b run w) ≡ Some part → Shown (run ++ (b ∷ bytes)) (Wanting w) part
  ended_run k b run w is end proper e =
      run_shown run (b ∷ bytes) w part (λ s. option_and_then (reads bytes) (token_begins k b s)) proper (kind_ends k b is end)
      (λ next e. begun_shown k b next is e) (sym (and_then_again (reads bytes) (token_begins k b) (after_run run w)) ∙ e)

  -- behind a part of a run
  in_run : (k : ByteKind) (b : ℕ) (run : List ℕ) (w : Wanted) → IsKind k b → IsRun run
      → option_and_then (reads bytes) (run_step k b run w) ≡ Some part → Shown (run ++ (b ∷ bytes)) (Wanting w) part
  in_run kind.Word b run w is proper e =
      subst (λ (x : List ℕ). Shown x (Wanting w) part) (append_assoc run (b ∷ []) bytes) (known (Wants (operand.Run (run ++ (b ∷ []))) w) (run_more run b proper is) e)
  in_run kind.Star b run w is proper e =
      subst (λ (x : List ℕ). Shown x (Wanting w) part) (append_assoc run (b ∷ []) bytes)
      (token_shown (Of (Prefix (lower_case run))) (Wanting w) (Ending (receive (leaf_part (Prefix (lower_case run))) w)) (run ++ (b ∷ [])) bytes part
      (run, proper, refl, ap (λ (x : ℕ). run ++ (x ∷ [])) is) tt refl (known (Ends operator.Nothing (receive (leaf_part (Prefix (lower_case run))) w)) tt e))
  in_run kind.Space b run w is proper e = ended_run kind.Space b run w is tt proper e
  in_run kind.Open b run w is proper e = ended_run kind.Open b run w is tt proper e
  in_run kind.Close b run w is proper e = ended_run kind.Close b run w is tt proper e
  in_run kind.Brace b run w is proper e = ended_run kind.Brace b run w is tt proper e
  in_run kind.EndBrace b run w is proper e = ended_run kind.EndBrace b run w is tt proper e
  in_run kind.Backslash b run w is proper e = ended_run kind.Backslash b run w is tt proper e
  in_run kind.Slash b run w is proper e = ended_run kind.Slash b run w is tt proper e
  in_run kind.Control b run w is proper e = ended_run kind.Control b run w is tt proper e
  in_run kind.Foreign b run w is proper e = ended_run kind.Foreign b run w is tt proper e

  -- behind the opening brace
  in_brace : (k : ByteKind) (b : ℕ) (w : Wanted) → IsKind k b → option_and_then (reads bytes) (brace_step k b w) ≡ Some part → Shown (123 ∷ b ∷ bytes) (Wanting w) part
  in_brace kind.Slash b w is e =
      subst (λ (x : ℕ). Shown (123 ∷ x ∷ bytes) (Wanting w) part) (sym is)
      (known (Wants (operand.Path (47 ∷ [])) w) (refl, tt) (ap (λ (x : ℕ). reads bytes (Wants (operand.Path (x ∷ [])) w)) (sym is) ∙ e))
  in_brace kind.Word b w is e = cc
  in_brace kind.Space b w is e = cc
  in_brace kind.Open b w is e = cc
  in_brace kind.Close b w is e = cc
  in_brace kind.Star b w is e = cc
  in_brace kind.Brace b w is e = cc
  in_brace kind.EndBrace b w is e = cc
  in_brace kind.Backslash b w is e = cc
  in_brace kind.Control b w is e = cc
  in_brace kind.Foreign b w is e = cc

  bare_shown : (k : ByteKind) (b : ℕ) (path : List ℕ) (w : Wanted) → IsKind k b → IsPathKind k → IsPath path
      → reads bytes (Wants (operand.Path (path ++ (b ∷ []))) w) ≡ Some part → Shown (123 ∷ (escaped path ++ (b ∷ bytes))) (Wanting w) part
  bare_shown k b path w is plain proper e =
      let bare = path_bare k b is plain in
      subst (λ (x : List ℕ). Shown x (Wanting w) part)
      (ap (λ (x : List ℕ). 123 ∷ (x ++ bytes)) (escaped_more path b ∙ ap (λ (t : Bool). escaped path ++ cond t (92 ∷ b ∷ []) (b ∷ [])) bare.1)
      ∙ ap (λ (x : List ℕ). 123 ∷ x) (append_assoc (escaped path) (b ∷ []) bytes))
      (known (Wants (operand.Path (path ++ (b ∷ []))) w) (path_more path b proper bare.0) e)

  -- behind a part of a path
  in_path : (k : ByteKind) (b : ℕ) (path : List ℕ) (w : Wanted) → IsKind k b → IsPath path
      → option_and_then (reads bytes) (path_step k b path w) ≡ Some part → Shown (123 ∷ (escaped path ++ (b ∷ bytes))) (Wanting w) part
  in_path kind.EndBrace b path w is proper e =
      subst (λ (x : List ℕ). Shown x (Wanting w) part) (ap (λ (x : List ℕ). 123 ∷ x) (append_assoc (escaped path) (b ∷ []) bytes))
      (token_shown (Of (Dir path)) (Wanting w) (Ending (receive (leaf_part (Dir path)) w)) (123 ∷ (escaped path ++ (b ∷ []))) bytes part
      (proper, ap (λ (x : ℕ). 123 ∷ (escaped path ++ (x ∷ []))) is) tt refl (known (Ends operator.Nothing (receive (leaf_part (Dir path)) w)) tt e))
  in_path kind.Backslash b path w is proper e =
      subst (λ (x : List ℕ). Shown x (Wanting w) part)
      (ap (λ (x : List ℕ). 123 ∷ x) (append_assoc (escaped path) (92 ∷ []) bytes ∙ ap (λ (x : ℕ). escaped path ++ (x ∷ bytes)) (sym is)))
      (known (Wants (operand.Escape path) w) proper e)
  in_path kind.Control b path w is proper e = cc
  in_path kind.Word b path w is proper e = bare_shown kind.Word b path w is tt proper e
  in_path kind.Space b path w is proper e = bare_shown kind.Space b path w is tt proper e
  in_path kind.Open b path w is proper e = bare_shown kind.Open b path w is tt proper e
  in_path kind.Close b path w is proper e = bare_shown kind.Close b path w is tt proper e
  in_path kind.Star b path w is proper e = bare_shown kind.Star b path w is tt proper e
  in_path kind.Brace b path w is proper e = bare_shown kind.Brace b path w is tt proper e
  in_path kind.Slash b path w is proper e = bare_shown kind.Slash b path w is tt proper e
  in_path kind.Foreign b path w is proper e = bare_shown kind.Foreign b path w is tt proper e

  escape_shown : (b : ℕ) (path : List ℕ) (w : Wanted) → escape b ≡ 92 ∷ b ∷ [] → is_control b ≡ false → IsPath path
      → reads bytes (Wants (operand.Path (path ++ (b ∷ []))) w) ≡ Some part → Shown (123 ∷ ((escaped path ++ (92 ∷ [])) ++ (b ∷ bytes))) (Wanting w) part
  escape_shown b path w spelled control proper e =
      subst (λ (x : List ℕ). Shown x (Wanting w) part)
      (ap (λ (x : List ℕ). 123 ∷ (x ++ bytes)) (escaped_more path b ∙ ap (λ (x : List ℕ). escaped path ++ x) spelled) ∙ ap (λ (x : List ℕ). 123 ∷ x) (moved (escaped path)))
      (known (Wants (operand.Path (path ++ (b ∷ []))) w) (path_more path b proper control) e)
    where
      moved : (p : List ℕ) → (p ++ (92 ∷ b ∷ [])) ++ bytes ≡ (p ++ (92 ∷ [])) ++ (b ∷ bytes)
      moved p = simp append_assoc

  -- behind a backslash in a path
  in_escape : (k : ByteKind) (b : ℕ) (path : List ℕ) (w : Wanted) → IsKind k b → IsPath path
      → option_and_then (reads bytes) (escape_step k b path w) ≡ Some part → Shown (123 ∷ ((escaped path ++ (92 ∷ [])) ++ (b ∷ bytes))) (Wanting w) part
  in_escape kind.EndBrace b path w is proper e =
      escape_shown b path w (ap (λ (x : ℕ). escape x) is ∙ ap (λ (x : ℕ). 92 ∷ x ∷ []) (sym is)) (ap is_control is) proper e
  in_escape kind.Backslash b path w is proper e =
      escape_shown b path w (ap (λ (x : ℕ). escape x) is ∙ ap (λ (x : ℕ). 92 ∷ x ∷ []) (sym is)) (ap is_control is) proper e
  in_escape kind.Word b path w is proper e = cc
  in_escape kind.Space b path w is proper e = cc
  in_escape kind.Open b path w is proper e = cc
  in_escape kind.Close b path w is proper e = cc
  in_escape kind.Star b path w is proper e = cc
  in_escape kind.Brace b path w is proper e = cc
  in_escape kind.Slash b path w is proper e = cc
  in_escape kind.Control b path w is proper e = cc
  in_escape kind.Foreign b path w is proper e = cc

  -- behind an operator
  in_sign : (k : ByteKind) (b : ℕ) (t : Token) (body : List ℕ) (h : Ended) (w : Wanted) → IsKind k b → Spells t body → feed t (Ending h) ≡ Some (Wanting w)
      → ((rest : List ℕ) → EndsRun rest → EndsToken t rest) → option_and_then (reads bytes) (sign_ends k b w) ≡ Some part → Shown (body ++ (b ∷ bytes)) (Ending h) part
  in_sign kind.Word b t body h w is spells fed may e = cc
  in_sign kind.Star b t body h w is spells fed may e = cc
  in_sign kind.Space b t body h w is spells fed may e = token_shown t (Ending h) (Wanting w) body (b ∷ bytes) part spells (may (b ∷ bytes) (kind_ends kind.Space b is tt)) fed (wanted_shown kind.Space b w is e)
  in_sign kind.Open b t body h w is spells fed may e = token_shown t (Ending h) (Wanting w) body (b ∷ bytes) part spells (may (b ∷ bytes) (kind_ends kind.Open b is tt)) fed (wanted_shown kind.Open b w is e)
  in_sign kind.Brace b t body h w is spells fed may e = token_shown t (Ending h) (Wanting w) body (b ∷ bytes) part spells (may (b ∷ bytes) (kind_ends kind.Brace b is tt)) fed (wanted_shown kind.Brace b w is e)
  in_sign kind.Close b t body h w is spells fed may e = cc
  in_sign kind.EndBrace b t body h w is spells fed may e = cc
  in_sign kind.Backslash b t body h w is spells fed may e = cc
  in_sign kind.Slash b t body h w is spells fed may e = cc
  in_sign kind.Control b t body h w is spells fed may e = cc
  in_sign kind.Foreign b t body h w is spells fed may e = cc

  letter_shown : (t : Bool) (b c : ℕ) (body : List ℕ) (h : Ended) (next : Operator) → (b == c) ≡ t → pending (Ends next h) ≡ body ++ (c ∷ [])
      → option_and_then (reads bytes) (cond t (Some (Ends next h)) None) ≡ Some part → Shown (body ++ (b ∷ bytes)) (Ending h) part
  letter_shown false b c body h next is more e = cc
  letter_shown true b c body h next is more e =
      subst (λ (x : List ℕ). Shown x (Ending h) part)
      (ap (λ (x : List ℕ). x ++ bytes) more ∙ append_assoc body (c ∷ []) bytes ∙ ap (λ (x : ℕ). body ++ (x ∷ bytes)) (sym (eqb-true b c is)))
      (known (Ends next h) (any next) e)
    where
      any : (next : Operator) → Proper (Ends next h)
      any operator.Nothing = tt
      any operator.A = tt
      any operator.An = tt
      any operator.And = tt
      any operator.O = tt
      any operator.Or = tt

  byte_shown : (k : ByteKind) (b : ℕ) (reader : Reader) → IsKind k b → Proper reader → option_and_then (reads bytes) (kind_step k b reader) ≡ Some part
      → Shown (pending reader ++ (b ∷ bytes)) (before reader) part
  byte_shown k b (Wants operand.Nothing w) is proper e = wanted_shown k b w is e
  byte_shown k b (Wants (operand.Run run) w) is proper e = in_run k b run w is proper e
  byte_shown k b (Wants operand.Brace w) is proper e = in_brace k b w is e
  byte_shown k b (Wants (operand.Path path) w) is proper e = in_path k b path w is proper e
  byte_shown k b (Wants (operand.Escape path) w) is proper e = in_escape k b path w is proper e
  byte_shown k b (Ends operator.Nothing h) is proper e = held_shown k b h is e
  byte_shown k b (Ends operator.A h) is proper e = letter_shown (b == 78) b 78 (65 ∷ []) h operator.An refl refl e
  byte_shown k b (Ends operator.An h) is proper e = letter_shown (b == 68) b 68 (65 ∷ 78 ∷ []) h operator.And refl refl e
  byte_shown k b (Ends operator.And h) is proper e = in_sign k b And (65 ∷ 78 ∷ 68 ∷ []) h (after_and h) is refl refl (λ rest ends. ends) e
  byte_shown k b (Ends operator.O h) is proper e = letter_shown (b == 82) b 82 (79 ∷ []) h operator.Or refl refl e
  byte_shown k b (Ends operator.Or h) is proper e = in_sign k b Or (79 ∷ 82 ∷ []) h (after_or h) is refl refl (λ rest ends. ends) e

end_shown : (reader : Reader) (part : Part) → Proper reader → read_whole reader ≡ Some part → Shown (pending reader ++ []) (before reader) part
end_shown (Wants operand.Nothing w) part proper e = cc
end_shown (Wants (operand.Run run) w) part proper e = run_shown run [] w part ended_token proper tt (λ next e. ([], (zero, refl), e)) e
end_shown (Wants operand.Brace w) part proper e = cc
end_shown (Wants (operand.Path path) w) part proper e = cc
end_shown (Wants (operand.Escape path) w) part proper e = cc
end_shown (Ends operator.Nothing h) part proper e = ([], (zero, refl), e)
end_shown (Ends operator.A h) part proper e = cc
end_shown (Ends operator.An h) part proper e = cc
end_shown (Ends operator.And h) part proper e = cc
end_shown (Ends operator.O h) part proper e = cc
end_shown (Ends operator.Or h) part proper e = cc

-- bytes that lead to a query spell tokens that do
pub shown : (bytes : List ℕ) (part : Part) (reader : Reader) → Proper reader → reads bytes reader ≡ Some part → Shown (pending reader ++ bytes) (before reader) part
shown [] part reader proper e = end_shown reader part proper e
shown (b ∷ bytes) part reader proper e = byte_shown bytes part (λ reader proper e. shown bytes part reader proper e) (kind_of b) b reader (kind_is b) proper e
