-- A printed path is read as that path.
use Rattle.std.proofs.Common.{◌≡◌, ℕ, true, false, eqb, List, [], ◌∷◌, ◌++◌, length, get_or, refl, ap, ◌∙◌, arith, Ok}
use Rattle.std.specs.Prelude.{not, All}
use Rattle.std.specs.List.{list_all, list_any, flat_map}
use Rattle.std.proofs.lemmas.Bool.{and_parts, and_from, or_from, not_from_true, true_from_ne_false, both_ways, cond-false}
use Rattle.std.proofs.lemmas.List.{append-nil}
use Rattle.std.proofs.lemmas.List.Folds.{list_all_at}
use Rattle.std.proofs.lemmas.List.Splits.{slice_split_none, slice_split_at}
use Rattle.std.proofs.lemmas.Bool.Decides.{nat_tests}
use Rattle.hac_model.specs.Bytes.{is_slash}
use Rattle.hac_model.specs.Tree.Names.{is_name, is_name_byte}
use Rattle.hac_model.specs.Tree.Paths.{are_names, slashed, path_text}
use Rattle.hac_model.specs.Script.PathWords.{parts, is_part, is_long, is_bad, has_long_part, relative, at_root, untested_word, word_of}
use Rattle.hac_names.specs.Laws.{PrintedPathIsRead}
use Rattle.hac_model.proofs.WordLemmas.{leads_down}

pub no_slash_byte : (b : ℕ) → is_name_byte b ≡ true → is_slash b ≡ false
no_slash_byte b h = grind (arith, nat_tests)

-- a part has no slash
pub no_slash : (bytes : List ℕ) → is_part bytes ≡ true → All (λ b. is_slash b ≡ false) bytes
no_slash bytes h k d within =
    no_slash_byte (get_or bytes k d) (true_from_ne_false (is_name_byte (get_or bytes k d)) (λ bad. both_ways (is_part bytes) (list_all_at is_name_byte bytes k d within bad) h))

-- names behind slashes are the parts of their text, behind an empty one
parts-slashed : (name : List ℕ) (names : List (List ℕ)) → are_names (name ∷ names) ≡ true → parts (name ++ flat_map slashed names) ≡ name ∷ names
parts-slashed name [] h =
    let n = leads_down name (and_parts (is_name name) (are_names []) h).0 in
    ap parts (append-nil name) ∙ slice_split_none is_slash name (no_slash name n.part)
parts-slashed name (next ∷ names) h =
    let p = and_parts (is_name name) (are_names (next ∷ names)) h in
    let n = leads_down name p.0 in
    slice_split_at is_slash name 47 (next ++ flat_map slashed names) (no_slash name n.part) refl
    ∙ ap (λ ps. name ∷ ps) (parts-slashed next names p.1)

-- names break no rule of parts
pub all_parts : (path : List (List ℕ)) → are_names path ≡ true → list_all is_part path ≡ true
all_parts [] h = refl
all_parts (name ∷ names) h =
    let p = and_parts (is_name name) (are_names names) h in
    and_from (is_part name) (list_all is_part names) (leads_down name p.0).part (all_parts names p.1)

pub none_long : (path : List (List ℕ)) → are_names path ≡ true → list_any is_long path ≡ false
none_long [] h = refl
none_long (name ∷ names) h =
    let p = and_parts (is_name name) (are_names names) h in
    or_from (is_long name) (list_any is_long names) (leads_down name p.0).short (none_long names p.1)

-- and lead down one after the other
relative-names_only : (path : List (List ℕ)) → are_names path ≡ true → relative path ≡ record { absolute = false; ups = 0; names = path }
relative-names_only [] h = refl
relative-names_only (name ∷ names) h =
    let p = and_parts (is_name name) (are_names names) h in
    let n = leads_down name p.0 in
    let moves = n.moves in
    let down = n.down in
    let rest = relative-names_only names p.1 in
    rw (moves, down, rest) refl

-- the text of a path that has names
read_names : (name : List ℕ) (names : List (List ℕ)) → are_names (name ∷ names) ≡ true → word_of (path_text (name ∷ names)) ≡ Ok (record { absolute = true; ups = 0; names = name ∷ names })
unfolding word_of
read_names name names h =
    let path : List (List ℕ) = name ∷ names in
    let text : List ℕ = path_text path in
    let cut : parts text ≡ [] ∷ path = ap (λ ps. [] ∷ ps) (parts-slashed name names h) in
    let bad : is_bad text ≡ false =
    or_from (eqb (length text) 0) (not (list_all is_part (parts text))) (grind (arith, nat_tests))
    (not_from_true (list_all is_part (parts text)) (ap (list_all is_part) cut ∙ all_parts path h)) in
    let long : has_long_part text ≡ false = ap (list_any is_long) cut ∙ none_long path h in
    let word : untested_word text ≡ record { absolute = true; ups = 0; names = path } =
    ap (λ ps. at_root (relative ps)) cut ∙ ap at_root (relative-names_only path h) in
    cond-false (is_bad text) _ _ bad ∙ cond-false (has_long_part text) _ _ long ∙ ap (λ w. Ok w) word

pub printed_path : PrintedPathIsRead
unfolding word_of
printed_path [] h = refl
printed_path (name ∷ names) h = read_names name names h
