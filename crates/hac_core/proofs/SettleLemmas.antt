-- What becomes of a change once spaces have answered.
use Rattle.std.proofs.Common.{◌≡◌, ℕ, true, false, List, [], ◌∷◌, ◌++◌, length, subst, refl, ap, sym, ◌∙◌}
use Rattle.std.specs.Prelude.{None, Option}
use Rattle.std.specs.Option.{option_map}
use Rattle.std.proofs.lemmas.Bool.{and_from, and_parts}
use Rattle.hac_model.specs.Query.Formula.{Formula}
use Rattle.hac_model.specs.Run.Answers.{first_cause}
use Rattle.hac_model.specs.Run.Asks.{query_asks}
use Rattle.hac_model.specs.Run.Refusals.{docs_cause}
use Rattle.hac_model.specs.Spaces.Answering.{AreAnswersTo}
use Rattle.hac_model.specs.Tree.Events.{apply, is_free}
use Rattle.hac_model.specs.Tree.Limits.{answer_limits, counts, first_passed, layout_limits, passed_limit}
use Rattle.hac_model.specs.Tree.Mounting.{are_documents}
use Rattle.hac_model.specs.Tree.Valid.{IsLayout}
use Rattle.hac_model.specs.Tree.{is_mount_at}
use Rattle.hac_model.specs.declared.events.Event.{Event}
use Rattle.hac_model.specs.declared.events.Event.TheVariants.{Smkdir, Setq, Smount, Ssync}
use Rattle.hac_model.specs.declared.replies.Refusal.TheVariants.{Limit}
use Rattle.hac_model.specs.declared.spaces.Answers.{Answers}
use Rattle.hac_model.specs.declared.states.State.{State}
use Rattle.hac_model.proofs.EventLemmas.{are-documents}
use Rattle.tree_counts.specs.Seated.{is_seated}
use Rattle.hac_core.specs.Drafts.{IsCounted, answering}
use Rattle.event_check.specs.Fitting.{asks_spaces}
use Rattle.hac_core.specs.Questions.{asks_for}
use Rattle.hac_core.specs.Settling.{answered, keeping_cause, limits_cause, settling_cause}
use Rattle.hac_core.specs.declared.drafts.Change.{Change}
use Rattle.hac_model.proofs.VersionLemmas.{apply-version}
use Rattle.hac_model.specs.declared.versions.Version.{Version}
use Rattle.hac_model.specs.declared.limits.LimitWord.{LimitWord}

-- what is told of an event that asks no space is nothing
pub answering-none : (s : State) (answers : Answers) (e : Event) → asks_spaces e ≡ false → answering s answers e ≡ e
answering-none s answers (Smkdir dir name query told) none = absurd cc
answering-none s answers (Setq dir query told) none = absurd cc
answering-none s answers (Smount dir name space documents told) none = absurd cc
answering-none s answers (Ssync mount documents told) none = absurd cc
answering-none s answers other none = refl

-- the event is in the tree still
pub seated-answering : (s : State) → IsLayout s → (answers : Answers) (e : Event) → is_seated s e ≡ true → AreAnswersTo (asks_for s e) answers → docs_cause s answers ≡ None → is_seated s (answering s answers e) ≡ true
seated-answering s h answers (Smkdir dir name query told) seated answered few = seated
seated-answering s h answers (Setq dir query told) seated answered few = seated
seated-answering s h answers (Smount dir name space documents told) seated answered few =
    and_from (is_free s dir name) (are_documents answers.list) (and_parts (is_free s dir name) (are_documents documents) seated).0 (are-documents s h answers answered.rising few)
seated-answering s h answers (Ssync mount documents told) seated answered few =
    and_from (is_mount_at s.entries mount) (are_documents answers.list) (and_parts (is_mount_at s.entries mount) (are_documents documents) seated).0 (are-documents s h answers answered.rising few)
seated-answering s h answers other seated answered few = seated

pub change-is : (s : State) (change : Change) (e : Event) → change.event ≡ e → change.counts ≡ counts (apply s change.event) → change ≡ record { event = e; counts = counts (apply s e) }
change-is s change e is counted = λ i. record { event = is i; counts = (counted ∙ ap (λ (e : Event). counts (apply s e)) is) i }

pub unasked-change : (s : State) (answers : Answers) (change : Change) → asks_spaces change.event ≡ false → IsCounted s change → change ≡ answered s answers change.event
unasked-change s answers change none counted = change-is s change (answering s answers change.event) (sym (answering-none s answers change.event none)) counted

-- only a limit on the next state can stand against it where its documents are few
pub settling-is : (s : State) (answers : Answers) (e : Event) (change : Change) → change ≡ answered s answers e → docs_cause s answers ≡ None → settling_cause s answers e ≡ limits_cause s change
unfolding passed_limit
settling-is s answers e change is few =
    (λ i. first_cause (few i ∷ option_map Limit (limit_of (apply-version s (answering s answers e) i)) ∷ keeping_cause s (answering s answers e) ∷ []))
    ∙ (λ i. first_cause (option_map Limit (first_passed (layout_limits s.version (sym is i).counts ++ answer_limits s.version (sym is i).counts)) ∷ keeping_cause s (sym is i).event ∷ []))
  where
    limit_of : Version → Option LimitWord
    limit_of version = first_passed (layout_limits version (counts (apply s (answering s answers e))) ++ answer_limits version (counts (apply s (answering s answers e))))

-- what the answers to an event's questions are

module _ (s : State) (answers : Answers) (e : Event) (told : AreAnswersTo (asks_for s e) answers) where
  pub semantic-found : (dir : ℕ) (name : List ℕ) (query : Formula ℕ) (were : List (List ℕ)) → e ≡ Smkdir dir name query were → length answers.found ≡ length (query_asks s query).searches
  semantic-found dir name query were is = (subst (λ (e : Event). AreAnswersTo (asks_for s e) answers) is told).found

  pub asking-found : (dir : ℕ) (query : Formula ℕ) (were : List (List ℕ)) → e ≡ Setq dir query were → length answers.found ≡ length (query_asks s query).searches
  asking-found dir query were is = (subst (λ (e : Event). AreAnswersTo (asks_for s e) answers) is told).found
