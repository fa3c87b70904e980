-- `counts` is refused by no state.
use Rattle.std.proofs.Common.{◌≡◌, ◌∙◌, true, true≢false, [], ◌∷◌, Option, None, Ok, refl, sym, ap, subst, arith}
use Rattle.std.specs.Prelude.{IsTrue, codes, is_none, option_map}
use Rattle.std.specs.List.Sorted.{IsStrictlySortedBy}
use Rattle.hac_model.specs.Run.Answers.{Refuses, first_cause}
use Rattle.hac_model.specs.Run.Given.{no_answers}
use Rattle.hac_model.specs.Run.Refusals.{cause, early_cause}
use Rattle.hac_model.specs.Tree.Valid.{IsValid}
use Rattle.hac_model.specs.declared.limits.Limit.{Limit}
use Rattle.hac_model.specs.declared.limits.LimitWord.{LimitWord}
use Rattle.hac_model.specs.declared.limits.LimitWord.TheVariants as word
use Rattle.hac_model.specs.declared.replies.Deny.{Deny}
use Rattle.hac_model.specs.declared.replies.Deny.TheVariants as deny
use Rattle.hac_model.specs.declared.replies.Refusal.{Refusal}
use Rattle.hac_model.specs.declared.replies.Refusal.TheVariants as refusal
use Rattle.hac_model.specs.declared.resolved.Resolved.TheVariants.{Counts}
use Rattle.hac_model.specs.declared.states.State.{State}
use Rattle.hac_core.specs.Drafts.{DraftSeen, IsDraftFor, IsDraftOf}
use Rattle.hac_model.specs.Run.Refusals.{early_refusal}
use Rattle.hac_model.specs.Run.Resolving.{resolve}
use Rattle.hac_model.specs.Script.Lines.{is_spelled_line}
use Rattle.hac_model.specs.Script.SpaceNames.{is_space_byte, is_space_name}
use Rattle.hac_model.specs.Spaces.Answering.{AreAnswersTo, AreRisingNames}
use Rattle.hac_model.specs.declared.commands.Command.TheVariants as command
use Rattle.hac_model.specs.declared.commands.Line.{Line}
use Rattle.hac_model.specs.declared.resolved.Resolved.{Resolved}
use Rattle.hac_model.specs.declared.spaces.Answers.{Answers}
use Rattle.hac_model.specs.declared.spaces.Asks.{Asks}
use Rattle.hac_core.proofs.DraftLemmas.{valid-limits}

-- nothing refuses it before spaces answer
pub counts-early : (s : State) → IsValid s → early_cause s Counts ≡ None
counts-early s valid = ap (λ (passed : Option LimitWord). first_cause (option_map refusal.Limit passed ∷ None ∷ [])) (valid-limits s valid)

-- what nothing refuses is denied where memory ran out
pub only-memory : (why : Deny) (cause : Option Refusal) → cause ≡ None → Refuses why cause → why ≡ deny.Memory
only-memory (deny.Refused refusal) cause none refuses = absurd (true≢false (ap is_none (sym none ∙ refuses)))
only-memory deny.Memory cause none refuses = refl

-- the line `counts`
abbrev pub counts_line : Line
counts_line = record { session = codes "main"; command = command.Counts }

pub counts-spelled : (line : Line) → line ≡ counts_line → IsTrue (is_spelled_line line)
unfolding is_space_name is_space_byte
counts-spelled line is = subst (λ (l : Line). IsTrue (is_spelled_line l)) (sym is) refl

pub counts-refused : (s : State) (line : Line) (why : Deny) → IsValid s → line ≡ counts_line → Refuses why (early_refusal s line) → why ≡ deny.Memory
counts-refused s line why valid is refuses = only-memory why (early_refusal s line) (ap (early_refusal s) is ∙ counts-early s valid) refuses

-- no names rise
nothing-rises : AreRisingNames []
unfolding IsStrictlySortedBy
nothing-rises = record { names = λ k d low. absurd (omega (arith, low)); rising = tt }

-- what is known of its draft
pub counts-draft : (s : State) (line : Line) (draft : DraftSeen) → line ≡ counts_line → IsDraftOf s line draft → IsDraftFor s Counts draft
counts-draft s line draft is of =
    let resolves : Ok of.0 ≡ Ok Counts = sym of.1 ∙ ap (resolve s) is in
    let same : of.0 ≡ Counts = cc in
    subst (λ (c : Resolved). IsDraftFor s c draft) same of.2

pub counts-answers : (s : State) (draft : DraftSeen) (answers : Answers) → answers ≡ no_answers → IsDraftFor s Counts draft → AreAnswersTo draft.asks answers
counts-answers s draft answers are for =
    subst (λ (a : Answers). AreAnswersTo draft.asks a) (sym are)
    (subst (λ (a : Asks). AreAnswersTo a no_answers) (sym for.asks) (record { rising = nothing-rises; unlisted = refl; found = refl }))
