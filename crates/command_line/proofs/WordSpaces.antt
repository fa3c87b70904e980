-- The spaces that words name, one after the other.
use Rattle.std.proofs.Common.{◌≡◌, ◌∙◌, ◌||◌, ◌&&◌, ℕ, ◌+◌, ◌<◌, ◌≤◌, true, false, List, [], ◌∷◌, ◌++◌, length, map, Option, Some, None, refl, sym, ap, ap₂, append_assoc, append-nil, le-leb, slice_index_or}
use Rattle.std.specs.Prelude.{drop, nat_le, not, option_and_then, option_map}
use Rattle.std.specs.Borrow.{Bor}
use Rattle.std.specs.List.{list_any}
use Rattle.std.specs.Str.{bytes_eq}
use Rattle.std.proofs.lemmas.List.{at_drop_more, drop_all, length-map, map-append}
use Rattle.hac_model.specs.Script.CommandLine.{Space, each_space, may_stand, names_differ, space_in_word}
use Rattle.hac_model.specs.declared.limits.TheConstants.{SPACES_LIMIT}
use Rattle.command_line.specs.Words.{space_asked, spaces_asked}
use Rattle.command_line.specs.declared.words.SpaceFile.{SpaceFile}

abbrev pub names : List SpaceFile → List (List ℕ)
names = map (λ space. space.name)

named-among : (name : List ℕ) (spaces : List SpaceFile) → list_any (bytes_eq name) (names spaces) ≡ list_any (λ space. bytes_eq name space.name) spaces
named-among name [] = refl
named-among name (space ∷ spaces) = ap (λ among. bytes_eq name space.name || among) (named-among name spaces)

-- names differ where the first one isn't among the others, and those differ
module _ (spaces : List SpaceFile) (at : ℕ) (space : SpaceFile) (inside : at < length spaces) (is : space ≡ slice_index_or spaces at space) where
  abbrev behind : List SpaceFile
  behind = drop (at + 1) spaces

  differ-step : (name : List ℕ) → name ≡ space.name → (left : List SpaceFile) → left ≡ behind
      → names_differ (names (drop at spaces)) ≡ (not (list_any (λ other. bytes_eq name other.name) left) && names_differ (names behind))
  differ-step name named left rest =
      at_drop_more (λ left. names_differ (names left)) spaces at space inside
      ∙ ap (λ first. names_differ (names (first ∷ behind))) (sym is)
      ∙ ap (λ among. not among && names_differ (names behind)) (named-among space.name behind)
      ∙ ap₂ (λ (text : List ℕ) (left : List SpaceFile). not (list_any (λ other. bytes_eq text other.name) left) && names_differ (names behind)) (sym named) (sym rest)

  pub named-again : (name : List ℕ) (left : List SpaceFile) → true ≡ list_any (λ other. bytes_eq name other.name) left → name ≡ space.name → left ≡ behind → names_differ (names (drop at spaces)) ≡ false
  named-again name left among named rest = differ-step name named left rest ∙ ap (λ among. not among && names_differ (names behind)) (sym among)

  pub named-once : (name : List ℕ) (left : List SpaceFile) → false ≡ list_any (λ other. bytes_eq name other.name) left → name ≡ space.name → left ≡ behind
      → names_differ (names behind) ≡ names_differ (names (drop at spaces))
  named-once name left among named rest = sym (differ-step name named left rest ∙ ap (λ among. not among && names_differ (names behind)) (sym among))

-- none are left
pub differ-end : (spaces : List SpaceFile) (at : ℕ) → length spaces ≤ at → names_differ (names (drop at spaces)) ≡ true
differ-end spaces at past = ap (λ left. names_differ (names left)) (drop_all at spaces past)

same-names : (spaces : List SpaceFile) → map (λ space. space.0) (spaces_asked spaces) ≡ names spaces
same-names [] = refl
same-names (space ∷ spaces) = ap (λ more. space.name ∷ more) (same-names spaces)

-- as they were read, spaces may stand together where they are few and their names differ
pub stand-read : (spaces : List SpaceFile) → length spaces ≤ SPACES_LIMIT → may_stand (spaces_asked spaces) ≡ names_differ (names spaces)
stand-read spaces few =
    ap (λ count. nat_le count SPACES_LIMIT && names_differ (map (λ space. space.0) (spaces_asked spaces))) (length-map spaces space_asked)
    ∙ ap₂ (λ within differ. within && differ) (le-leb (length spaces) SPACES_LIMIT few) (ap names_differ (same-names spaces))

-- what stands before the spaces of the words that are left
abbrev pub before : List Space → Option (List Space) → Option (List Space)
before spaces = option_map (λ more. spaces ++ more)

abbrev pub texts : List (Bor (List ℕ)) → List (List ℕ)
texts = map (λ word. word.now)

pub none-before : (words : Option (List Space)) → before [] words ≡ words
none-before None = refl
none-before (Some spaces) = refl

before-more : (spaces : List Space) (space : Space) (more : Option (List Space)) → before (spaces ++ space ∷ []) more ≡ before spaces (option_map (λ more. space ∷ more) more)
before-more spaces space None = refl
before-more spaces space (Some more) = ap Some (append_assoc spaces (space ∷ []) more)

module _ (words : List (Bor (List ℕ))) (at : ℕ) (word : Bor (List ℕ)) (inside : at < length words) (is : word ≡ slice_index_or words at (record { ref_ptr = (0, 0); now = [] })) (spaces : List Space) where
  one-more : before spaces (each_space (texts (drop at words))) ≡ before spaces (option_and_then (λ space. option_map (λ more. space ∷ more) (each_space (texts (drop (at + 1) words)))) (space_in_word word.now))
  one-more =
      at_drop_more (λ left. before spaces (each_space (texts left))) words at (record { ref_ptr = (0, 0); now = [] }) inside
      ∙ ap (λ first. before spaces (each_space (texts (first ∷ drop (at + 1) words)))) (sym is)

  -- the next word has a space
  pub space-next : (space : Space) → space_in_word word.now ≡ Some space → before (spaces ++ space ∷ []) (each_space (texts (drop (at + 1) words))) ≡ before spaces (each_space (texts (drop at words)))
  space-next space has =
      before-more spaces space (each_space (texts (drop (at + 1) words)))
      ∙ sym (one-more ∙ ap (λ found. before spaces (option_and_then (λ space. option_map (λ more. space ∷ more) (each_space (texts (drop (at + 1) words)))) found)) has)

  -- it has none
  pub no-space : space_in_word word.now ≡ None → before spaces (each_space (texts (drop at words))) ≡ None
  no-space none = one-more ∙ ap (λ found. before spaces (option_and_then (λ space. option_map (λ more. space ∷ more) (each_space (texts (drop (at + 1) words)))) found)) none

-- no words are left
pub spaces-end : (words : List (Bor (List ℕ))) (at : ℕ) (spaces : List Space) → length words ≤ at → before spaces (each_space (texts (drop at words))) ≡ Some spaces
spaces-end words at spaces past = ap (λ left. before spaces (each_space (texts left))) (drop_all at words past) ∙ ap Some (append-nil spaces)

-- one more space was read
pub asked-more : (spaces : List SpaceFile) (space : SpaceFile) → spaces_asked (spaces ++ space ∷ []) ≡ spaces_asked spaces ++ space_asked space ∷ []
asked-more spaces space = map-append space_asked spaces (space ∷ [])
