-- Of the bytes behind a line only those that it asks for count.
use Rattle.std.proofs.Common.{◌≡◌, ℕ, Bool, true, false, cond, List, [], ◌∷◌, ◌++◌, length, refl, ap, sym, ◌∙◌, arith, length-append}
use Rattle.std.specs.Prelude.{nat_le, nat_lt, take, Option, None, Some, Err}
use Rattle.std.specs.Option.{option_map, unwrap_or}
use Rattle.std.proofs.lemmas.Bool.{le-ltb}
use Rattle.std.proofs.lemmas.List.{take-append-le}
use Rattle.hac_model.specs.Script.Lines.{Item, is_quiet, item_of, items_of, line_with, put_length}
use Rattle.hac_model.specs.Script.Puts.{came}
use Rattle.hac_model.specs.Script.{due}
use Rattle.hac_model.specs.declared.limits.LimitWord.TheVariants as limit
use Rattle.hac_model.specs.declared.limits.TheConstants.{LINE_LIMIT, TEXT_LIMIT}
use Rattle.hac_model.specs.declared.replies.Refusal.TheVariants.{Limit}
use Rattle.hac_model.specs.declared.taken.Taken.{Taken}
use Rattle.hac_model.specs.declared.taken.Taken.TheVariants.{Whole, Dropped, Short}

came-front : (count : ℕ) (xs more : List ℕ) → count ≡ length xs → came count (xs ++ more) ≡ came count xs
came-front count xs more same =
    let all : nat_lt (length (xs ++ more)) count ≡ false = le-ltb (length (xs ++ more)) count (omega (arith, same, length-append xs more)) in
    let just : nat_lt (length xs) count ≡ false = le-ltb (length xs) count (omega (arith, same)) in
    ap (λ (b : Bool). cond b Short (cond (nat_le count TEXT_LIMIT) (Whole (take count (xs ++ more))) Dropped)) all
    ∙ ap (λ (text : List ℕ). cond (nat_le count TEXT_LIMIT) (Whole text) Dropped) (take-append-le count xs more (omega (arith, same)))
    ∙ sym (ap (λ (b : Bool). cond b Short (cond (nat_le count TEXT_LIMIT) (Whole (take count xs)) Dropped)) just)

taken-front : (asked : Option ℕ) (xs more : List ℕ) → unwrap_or asked 0 ≡ length xs → option_map (λ count. came count (xs ++ more)) asked ≡ option_map (λ count. came count xs) asked
taken-front (Some count) xs more same = ap Some (came-front count xs more same)
taken-front None xs more same = refl

item-front : (line xs more : List ℕ) → unwrap_or (cond (nat_le (length line) LINE_LIMIT) (put_length line) None) 0 ≡ length xs → item_of line (xs ++ more) ≡ item_of line xs
item-front line xs more same =
    elim (nat_le (length line) LINE_LIMIT) as (λ b. unwrap_or (cond b (put_length line) None) 0 ≡ length xs →
    cond b (line_with line (option_map (λ count. came count (xs ++ more)) (put_length line))) (Err (Limit limit.Line)) ≡ cond b (line_with line (option_map (λ count. came count xs) (put_length line))) (Err (Limit limit.Line))) [
      | true ↦ (λ same. ap (λ (taken : Option Taken). line_with line taken) (taken-front (put_length line) xs more same))
      | false ↦ (λ same. refl)
    ] same

-- so a line gives the same items in front of more bytes
pub items-front : (line xs more : List ℕ) → due line ≡ length xs → items_of line (xs ++ more) ≡ items_of line xs
items-front line xs more same =
    elim (is_quiet line) as (λ b. unwrap_or (cond b None (cond (nat_le (length line) LINE_LIMIT) (put_length line) None)) 0 ≡ length xs → cond b [] (item_of line (xs ++ more) ∷ []) ≡ cond b [] (item_of line xs ∷ [])) [
      | true ↦ (λ same. refl)
      | false ↦ (λ same. ap (λ (item : Item). item ∷ []) (item-front line xs more same))
    ] same
