-- The replies to commands that read.
use Rattle.std.proofs.Common.{◌≡◌, ℕ, Bool, true, false, subst, refl, ap, sym, ◌∙◌}
use Rattle.std.specs.Prelude.{if◌then◌else◌, None, Some, Result, Ok, Err, IfErr, IfOk}
use Rattle.std.specs.Option.{option_map_or}
use Rattle.hac_model.specs.Run.Answers.{Refuses}
use Rattle.hac_model.specs.Run.Asks.{asks}
use Rattle.hac_model.specs.Run.Refusals.{cause, early_cause, gone_cause}
use Rattle.hac_model.specs.Run.Showing.{data_lines}
use Rattle.hac_model.specs.Spaces.Answering.{AreAnswersTo}
use Rattle.hac_model.specs.Tree.{is_document_at, path_of}
use Rattle.hac_model.specs.Tree.Valid.{IsValid}
use Rattle.hac_model.specs.declared.replies.Deny.{Deny}
use Rattle.hac_model.specs.declared.replies.Deny.TheVariants as deny
use Rattle.hac_model.specs.declared.replies.Refusal.TheVariants.{Gone}
use Rattle.hac_model.specs.declared.replies.Reply.{Reply}
use Rattle.hac_model.specs.declared.replies.Reply.TheVariants.{Lines}
use Rattle.hac_model.specs.declared.resolved.Resolved.{Resolved}
use Rattle.hac_model.specs.declared.resolved.Resolved.TheVariants.{Cat}
use Rattle.hac_model.specs.declared.spaces.Answers.{Answers}
use Rattle.hac_model.specs.declared.states.State.{State}
use Rattle.hac_core.specs.Drafts.{Shows, is_reading}
use Rattle.hac_core.proofs.DraftLemmas.{reads-cause}

-- A document that its space has no more.

module _ (answers : Answers) (s : State) (r : Resolved) where
  pub gone-told : (entry : ℕ) → r ≡ Cat entry → is_document_at s.entries entry ≡ true → answers.fetched ≡ None → gone_cause answers s r ≡ Some (Gone (path_of s entry))
  gone-told entry is document none =
      ap (gone_cause answers s) is
      ∙ (λ i. if document i then option_map_or (λ text. None) (none i) (Some (Gone (path_of s entry))) else None)

  pub gone-file : (entry : ℕ) → r ≡ Cat entry → is_document_at s.entries entry ≡ false → gone_cause answers s r ≡ None
  gone-file entry is file = ap (gone_cause answers s) is ∙ ap (λ (b : Bool). if b then option_map_or (λ text. None) answers.fetched (Some (Gone (path_of s entry))) else None) file

pub gone-other : (answers : Answers) (s : State) (r : Resolved) → ((entry : ℕ) → r ≡ Cat entry → ⊥) → gone_cause answers s r ≡ None
gone-other answers s (Cat entry) other = absurd (other entry refl)
gone-other answers s r other = refl

module _ (s : State) (h : IsValid s) (answers : Answers) (r : Resolved) (reads : is_reading r ≡ true) (early : early_cause s r ≡ None) (told : AreAnswersTo (asks s r) answers) where
  pub refuses-gone : (denied : Deny) → Refuses denied (gone_cause answers s r) → Refuses denied (cause answers s r)
  refuses-gone denied refuses = subst (Refuses denied) (sym (reads-cause s h answers r reads early told)) refuses

  pub shows-lines : gone_cause answers s r ≡ None → (result : Result Reply Deny) → IfOk result (λ reply. reply ≡ Lines (data_lines answers s r)) → IfErr result (λ denied. denied ≡ deny.Memory) →
      IfOk result (Shows s answers r) × IfErr result (λ denied. Refuses denied (cause answers s r))
  shows-lines none (Ok reply) lines memory = (record { cause = reads-cause s h answers r reads early told ∙ none; lines = lines }, tt)
  shows-lines none (Err denied) lines memory = (tt, subst (λ (d : Deny). Refuses d (cause answers s r)) (sym memory) tt)
