-- What the calls of a walk know.
use Rattle.std.proofs.Common.{Bor, ◌≡◌, ℕ, suc, ◌+◌, ◌-◌, ◌<◌, Bool, true, false, cond, List, [], ◌∷◌, ◌++◌, length, subst, refl, ap, sym, ◌∙◌, arith}
use Rattle.std.specs.Prelude.{◌==◌, ◌||◌, not, Option, Some, None, Result, Ok}
use Rattle.std.specs.Option.{option_copied, option_map_or}
use Rattle.std.proofs.lemmas.Bool.{ne_eqb}
use Rattle.std.proofs.lemmas.List.{append-nil}
use Rattle.hac_model.specs.Tree.Links.{parent_of}
use Rattle.hac_model.specs.Tree.Looks.{has_names, look}
use Rattle.hac_model.specs.Tree.Paths.{join}
use Rattle.hac_model.specs.Tree.{child, is_directory_at, path_of}
use Rattle.hac_model.specs.Tree.Valid.{IsLayout}
use Rattle.hac_model.specs.declared.limits.TheConstants.{FOLLOW_LIMIT}
use Rattle.hac_model.specs.declared.paths.PathWord.{PathWord}
use Rattle.hac_model.specs.declared.places.Place.{Place}
use Rattle.hac_model.specs.declared.places.Place.TheVariants.{There, Free}
use Rattle.hac_model.specs.declared.replies.Refusal.{Refusal}
use Rattle.hac_model.specs.declared.states.State.{State}
use Rattle.command_paths.specs.Traces.{begin, step_to, steps, trace, up, word_at, word_met}
use Rattle.command_paths.specs.Walked.{Meets, names_of}
use Rattle.command_paths.specs.declared.placing.Met.{Met}
use Rattle.command_paths.specs.declared.placing.Stop.{Stop}
use Rattle.command_paths.proofs.TraceLemmas.{look-traced}

-- one step is made of those that are left
pub up-next : (s : State) (all done above : ℕ) → done < all → up (all - (done + 1)) s (parent_of s above) ≡ up (all - done) s above
up-next s all done above more =
    let one : all - done ≡ suc (all - (done + 1)) = omega arith in
    sym (ap (λ (k : ℕ). up k s above) one)

module _ (s : State) (follow : Bool) where
  -- no link is met
  pub met-none : (names : List (List ℕ)) (number : ℕ) (asked : Bool) (word : Option (Bor PathWord)) → (follow || has_names names) ≡ asked → option_copied word ≡ cond asked (word_at s number) None → word ≡ None → word_met s follow number names ≡ None
  met-none names number asked word same told none = ap (λ (b : Bool). cond b (word_at s number) None) same ∙ sym told ∙ ap (λ (o : Option (Bor PathWord)). option_copied o) none

  module _ (jump : ℕ → PathWord → List (List ℕ) → Result Place Refusal) where
    -- the last name leads to what is there
    pub last-step : (dir : ℕ) (name : List ℕ) (names : List (List ℕ)) (number : ℕ) → child s.entries dir name ≡ Some number → word_met s follow number names ≡ None → has_names names ≡ false
        → steps s follow jump dir (name ∷ names) ≡ Ok (There number)
    last-step dir name [] number found unmet last =
        ap (λ (o : Option ℕ). option_map_or (step_to s follow jump dir name [] (λ number. steps s follow jump number [])) o (Ok (Free dir name))) found
        ∙ ap (λ (o : Option PathWord). option_map_or (λ word. jump dir word []) o (Ok (There number))) unmet
    last-step dir name (more ∷ names) number found unmet last = absurd cc

    names-left : (left : List (Bor (List ℕ))) → has_names (names_of left) ≡ not (length left == 0)
    names-left [] = refl
    names-left (name ∷ left) = sym (ap not (ne_eqb (suc (length left)) 0 (λ same. omega arith)))

    -- what one step of a walk meets is what the whole walk leads to
    pub left-meets : (base dir : ℕ) (all left rest : List (Bor (List ℕ))) (name : Bor (List ℕ)) (empty : Bool) (r : Result Met Stop) → steps s follow jump dir (names_of left) ≡ steps s follow jump base (names_of all) → left ≡ name ∷ rest → empty ≡ (length rest == 0)
        → ((names : List (List ℕ)) → has_names names ≡ not empty → Meets s follow jump dir names r (steps s follow jump dir (name.now ∷ names))) → Meets s follow jump dir (names_of rest) r (steps s follow jump base (names_of all))
    left-meets base dir all left rest name empty r same popped is meets =
        subst (Meets s follow jump dir (names_of rest) r) (ap (λ (l : List (Bor (List ℕ))). steps s follow jump dir (names_of l)) (sym popped) ∙ same)
        (meets (names_of rest) (names-left rest ∙ ap not (sym is)))

  -- a look-up is the walk by the names of its word
  pub place-traced : (base : ℕ) (word : PathWord) (start : ℕ) (before left : List (Bor (List ℕ))) → IsLayout s → is_directory_at s.entries base ≡ true → start ≡ begin s base word → before ≡ [] → names_of left ≡ word.names ++ names_of before
      → trace s follow (join (path_of s base) word) FOLLOW_LIMIT start (names_of left) ≡ look s follow (join (path_of s base) word)
  place-traced base word start before left h is begins bare pushed =
      (λ i. trace s follow (join (path_of s base) word) FOLLOW_LIMIT (begins i) ((pushed ∙ ap (λ (l : List (Bor (List ℕ))). word.names ++ names_of l) bare ∙ append-nil word.names) i))
      ∙ sym (look-traced s follow base word h is)
