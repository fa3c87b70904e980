-- Names and parts: a part that leads down is a name, and so are the names of a word that is read.
use Rattle.std.proofs.Common.{◌≡◌, ℕ, ◌+◌, ◌-◌, Bool, true, false, cond, eqb, List, [], ◌∷◌, length, refl, ap, sym, ◌∙◌, arith, codes, ◌&&◌, Ok, Err}
use Rattle.std.proofs.lemmas.Bool.{and_parts, and_from, or_parts, not-false}
use Rattle.std.proofs.lemmas.Bool.Decides.{nat_tests}
use Rattle.std.specs.Prelude.{not, nat_le, nat_lt, ◌||◌, slice_index, Result}
use Rattle.std.specs.Str.{bytes_eq}
use Rattle.std.specs.List.{list_all, list_any}
use Rattle.hac_model.specs.Bytes.{is_slash}
use Rattle.hac_model.specs.Tree.Names.{is_name, is_name_byte}
use Rattle.hac_model.specs.Tree.Paths.{are_names}
use Rattle.hac_model.specs.Script.PathWords.{parts, is_part, is_long, is_idle, is_up, is_bad, has_long_part, at_root, relative, word_of}
use Rattle.hac_model.specs.declared.paths.PathWord.{PathWord}
use Rattle.hac_model.specs.declared.replies.Refusal.{Refusal}

-- what is known of a name's bytes as a part of a word
pub record LeadsDown (name : List ℕ) : Type 0 where
  pub part : is_part name ≡ true
  pub short : is_long name ≡ false
  pub moves : is_idle name ≡ false
  pub down : is_up name ≡ false

-- `is_name`, given what its tests say
name_by : (n : ℕ) (bytes dot up : Bool) → (nat_le 1 n && nat_le n 255 && bytes && not dot && not up) ≡ true
    → (bytes ≡ true) × (nat_lt 255 n ≡ false) × ((eqb n 0 || dot) ≡ false) × (up ≡ false)
name_by n bytes dot up h = grind (arith, nat_tests)

down_by : (n : ℕ) (bytes dot up : Bool) → bytes ≡ true → nat_lt 255 n ≡ false → (eqb n 0 || dot) ≡ false → up ≡ false
    → (nat_le 1 n && nat_le n 255 && bytes && not dot && not up) ≡ true
down_by n bytes dot up a b d e = grind (arith, nat_tests)

pub leads_down : (name : List ℕ) → is_name name ≡ true → LeadsDown name
leads_down name h =
    let f = name_by (length name) (list_all is_name_byte name) (bytes_eq name (codes ".")) (bytes_eq name (codes "..")) h in
    record { part = f.0; short = f.1; moves = f.2; down = f.3 }

pub name-from_leads_down : (part : List ℕ) → LeadsDown part → is_name part ≡ true
name-from_leads_down part h =
    down_by (length part) (list_all is_name_byte part) (bytes_eq part (codes ".")) (bytes_eq part (codes "..")) h.part h.short h.moves h.down

-- `before`, given what kind of part it is
names_by : (idle up none : Bool) (part : List ℕ) (word : PathWord) → (idle ≡ false → up ≡ false → is_name part ≡ true) → are_names word.names ≡ true
    → are_names (cond idle word (cond up (record word { ups = word.ups + 1 })
    (cond none (record word { names = part ∷ word.names })
    (record word { ups = word.ups - 1 })))).names ≡ true
names_by true up none part word h w = w
names_by false true none part word h w = w
names_by false false true part word h w = and_from (is_name part) (are_names word.names) (h refl refl) w
names_by false false false part word h w = w

-- parts that break no rule lead down by names
pub relative-names : (parts : List (List ℕ)) → list_all is_part parts ≡ true → list_any is_long parts ≡ false → are_names (relative parts).names ≡ true
relative-names [] h k = refl
relative-names (part ∷ parts) h k =
    let p = and_parts (is_part part) (list_all is_part parts) h in
    let q = or_parts (is_long part) (list_any is_long parts) k in
    names_by (is_idle part) (is_up part) (eqb (relative parts).ups 0) part (relative parts)
    (λ i u. name-from_leads_down part (record { part = p.0; short = q.0; moves = i; down = u }))
    (relative-names parts p.1 q.1)

guard : (b : Bool) (refusal : Refusal) (other : Result PathWord Refusal) (word : PathWord) → cond b (Err refusal) other ≡ Ok word → (b ≡ false) × (other ≡ Ok word)
guard true refusal other word h = cc
guard false refusal other word h = (refl, h)

-- read at the root or not, a word has the same names
names_of : (slash : Bool) (relative word : PathWord) → are_names relative.names ≡ true → (let read : Result PathWord Refusal = Ok (cond slash (at_root relative) relative) in read) ≡ Ok word → are_names word.names ≡ true
names_of true relative word h e = let same : at_root relative ≡ word = cc in ap (λ w. are_names w.names) (sym same) ∙ h
names_of false relative word h e = let same : relative ≡ word = cc in ap (λ w. are_names w.names) (sym same) ∙ h

-- a word that is read has names only
pub word_of-names : (bytes : List ℕ) (word : PathWord) → word_of bytes ≡ Ok word → are_names word.names ≡ true
unfolding word_of
word_of-names bytes word h =
    let p = guard (is_bad bytes) _ _ word h in
    let q = guard (has_long_part bytes) _ _ word p.1 in
    let good = (or_parts (eqb (length bytes) 0) (not (list_all is_part (parts bytes))) p.0).1 in
    let names = relative-names (parts bytes) (not-false (list_all is_part (parts bytes)) good) q.0 in
    names_of (is_slash (slice_index bytes 0)) (relative (parts bytes)) word names q.1
