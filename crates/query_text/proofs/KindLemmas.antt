-- What a byte is in a query, and what a byte of each kind makes of what was read.
use Rattle.std.proofs.Common.{◌≡◌, ℕ, ◌≤◌, Bool, true, false, cond, List, [], ◌∷◌, ◌++◌, Some, refl, ap, sym, subst, arith, inl, inr, ◌⊎◌}
use Rattle.std.specs.Prelude.{◌||◌, ◌==◌, ⊤}
use Rattle.std.proofs.lemmas.Bool.{eqb-true, or_cases, or_from}
use Rattle.std.proofs.lemmas.Bool.Decides.{nat_tests}
use Rattle.hac_model.specs.Bytes.{is_space, is_slash, is_backslash}
use Rattle.hac_model.specs.Query.Grammar.{is_control, escape}
use Rattle.hac_model.specs.Query.QueryReading.{kind_of, operand_begins, run_step, run_ends, sign_ends, path_step}
use Rattle.hac_model.specs.Query.Words.{is_word_byte}
use Rattle.hac_model.specs.declared.reading.ByteKind.{ByteKind}
use Rattle.hac_model.specs.declared.reading.ByteKind.TheVariants.{Word, Space, Open, Close, Star, Brace, EndBrace, Backslash, Slash, Control, Foreign}
use Rattle.hac_model.specs.declared.reading.Operand.TheVariants as operand
use Rattle.hac_model.specs.declared.reading.Reader.TheVariants.{Wants}
use Rattle.hac_model.specs.declared.reading.Wanted.{Wanted}

-- the byte is of the kind
abbrev pub IsKind : ByteKind → ℕ → Type 0
IsKind Word b = is_word_byte b ≡ true
IsKind Space b = b ≡ 32
IsKind Open b = b ≡ 40
IsKind Close b = b ≡ 41
IsKind Star b = b ≡ 42
IsKind Brace b = b ≡ 123
IsKind EndBrace b = b ≡ 125
IsKind Backslash b = b ≡ 92
IsKind Slash b = b ≡ 47
IsKind Control b = (is_word_byte b ≡ false) × (is_control b ≡ true) × ((b == 42) ≡ false)
IsKind Foreign b = (is_word_byte b ≡ false) × (is_control b ≡ false) × ((b == 42) ≡ false) × ((b == 125 || b == 92) ≡ false)

picked : (P : ByteKind → Type 0) (t : Bool) (x y : ByteKind) → (t ≡ true → P x) → (t ≡ false → P y) → P (cond t x y)
picked P true x y first second = first refl
picked P false x y first second = second refl

pub kind_is : (b : ℕ) → IsKind (kind_of b) b
unfolding kind_of
kind_is b =
    let P : ByteKind → Type 0 = λ kind. IsKind kind b in
    picked P (is_word_byte b) _ _ (λ h. h) (λ word.
    picked P (is_space b) _ _ (λ h. eqb-true b 32 h) (λ _.
    picked P (b == 40) _ _ (λ h. eqb-true b 40 h) (λ _.
    picked P (b == 41) _ _ (λ h. eqb-true b 41 h) (λ _.
    picked P (b == 42) _ _ (λ h. eqb-true b 42 h) (λ star.
    picked P (b == 123) _ _ (λ h. eqb-true b 123 h) (λ _.
    picked P (b == 125) _ _ (λ h. eqb-true b 125 h) (λ brace.
    picked P (is_backslash b) _ _ (λ h. eqb-true b 92 h) (λ back.
    picked P (is_slash b) _ _ (λ h. eqb-true b 47 h) (λ _.
    picked P (is_control b) _ _ (λ h. (word, h, star)) (λ control. (word, control, star, or_from (b == 125) (b == 92) brace back)))))))))))

pub word_kind : (b : ℕ) → is_word_byte b ≡ true → kind_of b ≡ Word
unfolding kind_of
word_kind b h = rw h refl

pub space_kind : kind_of 32 ≡ Space
unfolding kind_of is_word_byte
space_kind = refl

pub open_kind : kind_of 40 ≡ Open
unfolding kind_of is_word_byte
open_kind = refl

pub close_kind : kind_of 41 ≡ Close
unfolding kind_of is_word_byte
close_kind = refl

pub star_kind : kind_of 42 ≡ Star
unfolding kind_of is_word_byte
star_kind = refl

pub brace_kind : kind_of 123 ≡ Brace
unfolding kind_of is_word_byte
brace_kind = refl

pub end_brace_kind : kind_of 125 ≡ EndBrace
unfolding kind_of is_word_byte
end_brace_kind = refl

pub backslash_kind : kind_of 92 ≡ Backslash
unfolding kind_of is_word_byte
backslash_kind = refl

pub slash_kind : kind_of 47 ≡ Slash
unfolding kind_of is_word_byte
slash_kind = refl

-- the letters of operators are word bytes

pub letter_word : (b : ℕ) → 65 ≤ b → b ≤ 90 → is_word_byte b ≡ true
unfolding is_word_byte
letter_word b low high = grind (arith, nat_tests)

-- bytes that end a run

pub ends_word : (kind : ByteKind) (b : ℕ) (run : List ℕ) (w : Wanted) → IsKind kind b → is_word_byte b ≡ false → (b == 42) ≡ false
    → run_step kind b run w ≡ run_ends kind b run w
ends_word Word b run w is other star = cc
ends_word Star b run w is other star = let e : (42 == 42) ≡ false = subst (λ (x : ℕ). (x == 42) ≡ false) is star in cc
ends_word Space b run w is other star = refl
ends_word Open b run w is other star = refl
ends_word Close b run w is other star = refl
ends_word Brace b run w is other star = refl
ends_word EndBrace b run w is other star = refl
ends_word Backslash b run w is other star = refl
ends_word Slash b run w is other star = refl
ends_word Control b run w is other star = refl
ends_word Foreign b run w is other star = refl

pub ends_sign : (kind : ByteKind) (b : ℕ) (w : Wanted) → IsKind kind b → is_word_byte b ≡ false → (b == 42) ≡ false
    → sign_ends kind b w ≡ operand_begins kind b w
ends_sign Word b w is other star = cc
ends_sign Star b w is other star = let e : (42 == 42) ≡ false = subst (λ (x : ℕ). (x == 42) ≡ false) is star in cc
ends_sign Space b w is other star = refl
ends_sign Open b w is other star = refl
ends_sign Close b w is other star = refl
ends_sign Brace b w is other star = refl
ends_sign EndBrace b w is other star = refl
ends_sign Backslash b w is other star = refl
ends_sign Slash b w is other star = refl
ends_sign Control b w is other star = refl
ends_sign Foreign b w is other star = refl

-- the kind is not that of a byte that goes on with a run
abbrev pub IsEnd : ByteKind → Type 0
IsEnd Word = ⊥
IsEnd Star = ⊥
IsEnd other = ⊤

-- such a byte ends a run
pub kind_ends : (kind : ByteKind) (b : ℕ) → IsKind kind b → IsEnd kind → (is_word_byte b ≡ false) × ((b == 42) ≡ false)
unfolding is_word_byte
kind_ends Word b is end = elim end [ ]
kind_ends Star b is end = elim end [ ]
kind_ends Space b is end = subst (λ (x : ℕ). (is_word_byte x ≡ false) × ((x == 42) ≡ false)) (sym is) (refl, refl)
kind_ends Open b is end = subst (λ (x : ℕ). (is_word_byte x ≡ false) × ((x == 42) ≡ false)) (sym is) (refl, refl)
kind_ends Close b is end = subst (λ (x : ℕ). (is_word_byte x ≡ false) × ((x == 42) ≡ false)) (sym is) (refl, refl)
kind_ends Brace b is end = subst (λ (x : ℕ). (is_word_byte x ≡ false) × ((x == 42) ≡ false)) (sym is) (refl, refl)
kind_ends EndBrace b is end = subst (λ (x : ℕ). (is_word_byte x ≡ false) × ((x == 42) ≡ false)) (sym is) (refl, refl)
kind_ends Backslash b is end = subst (λ (x : ℕ). (is_word_byte x ≡ false) × ((x == 42) ≡ false)) (sym is) (refl, refl)
kind_ends Slash b is end = subst (λ (x : ℕ). (is_word_byte x ≡ false) × ((x == 42) ≡ false)) (sym is) (refl, refl)
kind_ends Control b is end = (is.0, is.2)
kind_ends Foreign b is end = (is.0, is.2)

-- Bytes of paths.

-- what a byte of a path is that needs no backslash
abbrev pub IsPathKind : ByteKind → Type 0
IsPathKind EndBrace = ⊥
IsPathKind Backslash = ⊥
IsPathKind Control = ⊥
IsPathKind other = ⊤

abbrev IsBare : ℕ → Type 0
IsBare b = (is_control b ≡ false) × ((b == 125 || b == 92) ≡ false)

word_bare : (b : ℕ) → is_word_byte b ≡ true → IsBare b
unfolding is_word_byte
word_bare b h = (grind (arith, nat_tests), grind (arith, nat_tests))

pub path_bare : (kind : ByteKind) (b : ℕ) → IsKind kind b → IsPathKind kind → IsBare b
path_bare Word b is plain = word_bare b is
path_bare Space b is plain = subst (λ (x : ℕ). IsBare x) (sym is) (refl, refl)
path_bare Open b is plain = subst (λ (x : ℕ). IsBare x) (sym is) (refl, refl)
path_bare Close b is plain = subst (λ (x : ℕ). IsBare x) (sym is) (refl, refl)
path_bare Star b is plain = subst (λ (x : ℕ). IsBare x) (sym is) (refl, refl)
path_bare Brace b is plain = subst (λ (x : ℕ). IsBare x) (sym is) (refl, refl)
path_bare EndBrace b is plain = elim plain [ ]
path_bare Backslash b is plain = elim plain [ ]
path_bare Slash b is plain = subst (λ (x : ℕ). IsBare x) (sym is) (refl, refl)
path_bare Control b is plain = elim plain [ ]
path_bare Foreign b is plain = (is.1, is.3)

pub bare_step : (kind : ByteKind) (b : ℕ) (path : List ℕ) (w : Wanted) → IsKind kind b → is_control b ≡ false → (b == 125 || b == 92) ≡ false
    → path_step kind b path w ≡ Some (Wants (operand.Path (path ++ (b ∷ []))) w)
bare_step EndBrace b path w is control bare = let e : (125 == 125 || 125 == 92) ≡ false = subst (λ (x : ℕ). (x == 125 || x == 92) ≡ false) is bare in cc
bare_step Backslash b path w is control bare = let e : (92 == 125 || 92 == 92) ≡ false = subst (λ (x : ℕ). (x == 125 || x == 92) ≡ false) is bare in cc
bare_step Control b path w is control bare = cc (is.1)
bare_step Word b path w is control bare = refl
bare_step Space b path w is control bare = refl
bare_step Open b path w is control bare = refl
bare_step Close b path w is control bare = refl
bare_step Star b path w is control bare = refl
bare_step Brace b path w is control bare = refl
bare_step Slash b path w is control bare = refl
bare_step Foreign b path w is control bare = refl

-- a byte is that of a directory's escapes, or it isn't
pub escape_cases : (b : ℕ) → (((b ≡ 125) ⊎ (b ≡ 92)) × (escape b ≡ 92 ∷ b ∷ [])) ⊎ (((b == 125 || b == 92) ≡ false) × (escape b ≡ b ∷ []))
escape_cases b = at (b == 125 || b == 92) refl
  where
    at : (t : Bool) → (b == 125 || b == 92) ≡ t → (((b ≡ 125) ⊎ (b ≡ 92)) × (escape b ≡ 92 ∷ b ∷ [])) ⊎ (((b == 125 || b == 92) ≡ false) × (escape b ≡ b ∷ []))
    at true e = inl (elim (or_cases (b == 125) (b == 92) e) [ inl h ↦ inl (eqb-true b 125 h) | inr h ↦ inr (eqb-true b 92 h) ], ap (λ (t : Bool). cond t (92 ∷ b ∷ []) (b ∷ [])) e)
    at false e = inr (e, ap (λ (t : Bool). cond t (92 ∷ b ∷ []) (b ∷ [])) e)
