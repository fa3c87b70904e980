-- How much a state holds after an event, by its tree.
use Rattle.std.proofs.Common.{◌≡◌, true, false, cond, List, [], ◌∷◌, ◌++◌, refl, ap, sym, ◌∙◌}
use Rattle.std.specs.Prelude.{◌&&◌, nat_lt, Some, None}
use Rattle.std.specs.Option.{option_map}
use Rattle.std.proofs.lemmas.Bool.{and_from, and_parts}
use Rattle.hac_model.specs.Run.Answers.{Refuses}
use Rattle.hac_model.specs.Tree.Bare.{bare}
use Rattle.hac_model.specs.Script.SpaceNames.{is_space_name}
use Rattle.hac_model.specs.Tree.Events.{apply, is_free, is_made_holder, is_placed}
use Rattle.hac_model.specs.Tree.Limits.{counts, first_passed}
use Rattle.hac_model.specs.Tree.Mounting.{are_documents, are_documents_few}
use Rattle.hac_model.specs.Tree.{is_mount_at}
use Rattle.hac_model.specs.declared.events.Event.{Event}
use Rattle.hac_model.specs.declared.events.Event.TheVariants.{Smkdir, Setq, Smount, Ssync}
use Rattle.hac_model.specs.declared.limits.Limit.{Limit}
use Rattle.hac_model.specs.declared.limits.LimitWord.{LimitWord}
use Rattle.hac_model.specs.declared.replies.Deny.{Deny}
use Rattle.hac_model.specs.declared.replies.Deny.TheVariants as deny
use Rattle.hac_model.specs.declared.replies.Refusal.TheVariants as refusal
use Rattle.hac_model.specs.declared.states.State.{State}
use Rattle.hac_model.proofs.AlikeLemmas.{counts-bare}
use Rattle.hac_model.proofs.BareLemmas.{bare-commutes}
use Rattle.tree_counts.specs.Seated.{is_seated}
use Rattle.kept_state.proofs.StateLemmas.{same-free, same-mount}
use Rattle.event_check.proofs.PlacedLemmas.{same-alone, same-made_holder}
use Rattle.hac_model.proofs.EventLemmas.{no_limit}

-- what is placed is in the tree
pub placed-seated : (s : State) (e : Event) → is_placed s e ≡ true → is_seated s e ≡ true
placed-seated s (Smkdir dir name query told) h = (and_parts (is_free s dir name) _ h).0
placed-seated s (Setq dir query told) h = (and_parts (is_made_holder s dir) _ h).0
placed-seated s (Smount dir name space documents told) h =
    let short = and_parts _ (are_documents_few s.version documents) h in
    let well = and_parts (is_free s dir name && is_space_name space && are_documents documents) _ short.0 in
    let named = and_parts (is_free s dir name && is_space_name space) (are_documents documents) well.0 in
    let free = and_parts (is_free s dir name) (is_space_name space) named.0 in
    and_from (is_free s dir name) (are_documents documents) free.0 named.1
placed-seated s (Ssync mount documents told) h =
    let short = and_parts _ (are_documents_few s.version documents) h in
    (and_parts (is_mount_at s.entries mount && are_documents documents) _ short.0).0
placed-seated s other h = h

module _ (s t : State) (bares : bare s ≡ bare t) where
  -- what an event refers to is in the tree where it is in the state
  pub same-seated : (e : Event) → is_seated s e ≡ is_seated t e
  same-seated (Smkdir dir name query told) = same-free s t bares dir name
  same-seated (Setq dir query told) = same-made_holder s t bares dir
  same-seated (Smount dir name space documents told) = λ i. same-free s t bares dir name i && are_documents documents
  same-seated (Ssync mount documents told) = λ i. same-mount s t bares mount i && are_documents documents
  same-seated other = same-alone s t bares other refl

  -- and the tree holds as much after it
  pub same-after : (e : Event) → counts (apply t e) ≡ counts (apply s e)
  same-after e =
      sym (counts-bare (apply t e))
      ∙ ap counts (bare-commutes t e ∙ ap (λ (x : State). bare (apply x e)) (sym bares) ∙ sym (bare-commutes s e))
      ∙ counts-bare (apply s e)

-- Limits one behind the other.

front-passed : (xs ys : List Limit) (word : LimitWord) → first_passed xs ≡ Some word → first_passed (xs ++ ys) ≡ Some word
unfolding first_passed
front-passed [] ys word h = absurd cc
front-passed (x ∷ xs) ys word h =
    elim (nat_lt x.most x.count) as (λ b. cond b (Some x.word) (first_passed xs) ≡ Some word → cond b (Some x.word) (first_passed (xs ++ ys)) ≡ Some word) [
      | true ↦ (λ h. h)
      | false ↦ (λ h. front-passed xs ys word h)
    ] h

none-passed : (xs ys : List Limit) → first_passed xs ≡ None → first_passed (xs ++ ys) ≡ first_passed ys
unfolding first_passed
none-passed [] ys h = refl
none-passed (x ∷ xs) ys h =
    elim (nat_lt x.most x.count) as (λ b. cond b (Some x.word) (first_passed xs) ≡ None → cond b (Some x.word) (first_passed (xs ++ ys)) ≡ first_passed ys) [
      | true ↦ (λ h. absurd cc)
      | false ↦ (λ h. none-passed xs ys h)
    ] h

-- a limit that stands first stands against both
pub refused-front : (xs ys : List Limit) (deny : Deny) → Refuses deny (option_map refusal.Limit (first_passed xs)) → Refuses deny (option_map refusal.Limit (first_passed (xs ++ ys)))
refused-front xs ys deny.Memory h = tt
refused-front xs ys (deny.Refused e) h = elim (first_passed xs) as (λ o. first_passed xs ≡ o → option_map refusal.Limit o ≡ Some e → option_map refusal.Limit (first_passed (xs ++ ys)) ≡ Some e) [
  | None ↦ (λ _ h. absurd cc)
  | Some word ↦ (λ is h. ap (option_map refusal.Limit) (front-passed xs ys word is) ∙ h)
] refl h

-- and where none does, those behind stand
pub passed-front : (xs ys : List Limit) → option_map refusal.Limit (first_passed xs) ≡ None → option_map refusal.Limit (first_passed (xs ++ ys)) ≡ option_map refusal.Limit (first_passed ys)
passed-front xs ys h = ap (option_map refusal.Limit) (none-passed xs ys (no_limit (first_passed xs) h))
