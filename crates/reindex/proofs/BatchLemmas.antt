-- What is judged again after steps that are taken in a batch.
use Rattle.std.proofs.Common.{◌≡◌, ℕ, Bool, true, false, cond, List, [], ◌∷◌, ◌++◌, ap, inl, inr, refl, subst, sym, ◌∙◌, arith}
use Rattle.std.specs.Prelude.{nat_le, replicate, IfOk, OnOk, Result, Ok, Err, Vec}
use Rattle.std.specs.declared.alloc.Global.{Global}
use Rattle.std.proofs.lemmas.Bool.Decides.{nat_tests}
use Rattle.file_tree.specs.Answers.{is_dirty_at}
use Rattle.hac_model.specs.Laws.{AllHappen}
use Rattle.hac_model.specs.Tree.Depends.{Among}
use Rattle.hac_model.specs.Tree.Events.{apply_all}
use Rattle.hac_model.specs.Tree.Links.{has, parent_of, shown_of}
use Rattle.hac_model.specs.Tree.Valid.{IsValid}
use Rattle.hac_model.specs.Tree.{extends}
use Rattle.hac_model.specs.declared.events.Event.TheVariants.{Step}
use Rattle.hac_model.specs.declared.memory.Memory.{Memory}
use Rattle.hac_model.specs.declared.states.State.{State}
use Rattle.hac_model.proofs.AmongLemmas.{among-append, among-left, among-right}
use Rattle.hac_model.proofs.EventLemmas.{all-valid}
use Rattle.reeval.specs.Judging.{verdict_of}
use Rattle.reeval.specs.Routes.{Covers}
use Rattle.reeval.specs.Settled.{SettlesAll}
use Rattle.reeval.specs.Told.{news_on, told}
use Rattle.reeval.specs.declared.settling.Stop.{Stop}
use Rattle.reeval.specs.declared.verdicts.Change.{Change}
use Rattle.reeval.proofs.JudgeLemmas.{links-judged}
use Rattle.reeval.proofs.LeaveLemmas.{IsAlike, leaves-alike}
use Rattle.reeval.proofs.PlanLemmas.{unmoved}
use Rattle.reindex.specs.Past.{Lead}
use Rattle.reindex.specs.Steps.{AreIndexed, AreSettled, indexed_through}
use Rattle.reindex.proofs.IndexedLemmas.{depends-indexed, document-indexed, item-indexed, kept-indexed, parent-indexed, path_of-indexed, permanent-indexed, prohibited-indexed, query-indexed, shown-indexed, text_of}
use Rattle.reindex.proofs.SettledLemmas.{settled-leads}
use Rattle.reindex.proofs.StepLemmas.{clean-shown}

module _ (s : State) (count : ℕ) (files : List ℕ) (last : ℕ) (h : IsValid s) (happen : AllHappen s (replicate count Step)) (known : AreIndexed s count files last) where
  abbrev t : State
  t = indexed_through last s

  pub after : IsValid t
  after = subst IsValid known.reached (all-valid (replicate count Step) s h happen)

  -- what isn't indexed shows what it showed
  shown-same : (item : ℕ) → ¬ Among files item → shown_of s item ≡ shown_of t item
  shown-same item apart = at (nat_le item last) (is_dirty_at s.entries item) refl refl
    where
      shown : (b : Bool) → nat_le item last ≡ b → shown_of t item ≡ cond b (text_of s item) (shown_of s item)
      shown b is = shown-indexed last s item ∙ ap (λ (c : Bool). cond c (text_of s item) (shown_of s item)) is

      at : (b c : Bool) → nat_le item last ≡ b → is_dirty_at s.entries item ≡ c → shown_of s item ≡ shown_of t item
      at false c is dirt = sym (shown false is)
      at true false is dirt = sym (shown true is ∙ clean-shown s item h.layout dirt)
      at true true is dirt = absurd (apart (known.all item dirt (grind (arith, nat_tests))))

  alike : (item : ℕ) → ¬ Among files item → IsAlike s t (λ dir. false) item
  alike item apart = record {
    items = sym (item-indexed last s item);
    documents = sym (document-indexed last s item);
    texts = shown-same item apart;
    homes = λ is. sym (parent-indexed last s item);
    answers = λ is term held. sym (kept-indexed last s (parent_of s item) term);
    queries = λ dir still. sym (query-indexed last s dir);
    edges = λ dir still. sym (depends-indexed last s dir);
    added = λ dir still. ap (λ (numbers : List ℕ). has numbers item) (sym (permanent-indexed last s dir));
    removed = λ dir still. ap (λ (numbers : List ℕ). has numbers item) (sym (prohibited-indexed last s dir));
    below = λ e old new is still. λ i. extends (sym (path_of-indexed last s item) i) (sym (path_of-indexed last s e) i);
  }

  -- so all directories say of it what they said
  untouched : (item : ℕ) → ¬ Among files item → (dir : ℕ) → verdict_of s item dir ≡ verdict_of t item dir
  untouched item apart = unmoved s t item (record {
    before = links-judged s h item;
    after = after;
    route = record { ordered = tt; closed = λ dir e edge never. absurd never; alone = tt };
    alike = leaves-alike s t h after (λ dir. false) item (alike item apart);
    tied = λ dir never. absurd cc;
  })

  -- once the files are settled, all that is new is known
  pub batch-leads : (delta : List Change) → AreSettled s t files delta → Lead s t delta
  batch-leads delta settled = settled-leads s t files delta settled untouched

  -- changes that lead to the state with these files indexed lead to that behind the steps
  pub steps-led : (delta : List Change) → Lead s t delta → Lead s (apply_all s (replicate count Step)) delta
  steps-led delta leads = subst (λ (next : State). Lead s next delta) (sym known.reached) leads

  pub batch-if : (result : Result (Vec Change Global) Memory) → IfOk result (λ delta. AreSettled s t files delta.items) → IfOk result (λ delta. Lead s (apply_all s (replicate count Step)) delta.items)
  batch-if (Ok delta) settled = steps-led delta.items (batch-leads delta.items settled)
  batch-if (Err memory) settled = tt

-- File by file.

pub settled-more : (s t : State) (stops : List Stop) (files : List ℕ) (file : ℕ) (old new : List Change) → ¬ Among files file → Covers s t stops file → SettlesAll s t stops (file ∷ []) old new → AreSettled s t files old → AreSettled s t (files ++ file ∷ []) new
settled-more s t stops files file old new apart covers more h = record {
  settled = λ item inside dir. elim (among-append files (file ∷ []) item inside) as (λ _. told (news_on item new) (verdict_of s item) dir ≡ verdict_of t item dir) [
    | inl before ↦ ap (λ (news : List Change). told news (verdict_of s item) dir) (more.others item (other item before)) ∙ h.settled item before dir
    | inr last ↦ elim last as (λ _. told (news_on item new) (verdict_of s item) dir ≡ verdict_of t item dir) [
      | inl same ↦ subst (λ (n : ℕ). told (news_on n new) (verdict_of s n) dir ≡ verdict_of t n dir) same (more.settled file (inl refl) (h.others file apart) covers dir)
      | inr never ↦ absurd never
    ]
  ];
  others = λ item out. more.others item (λ inside. elim inside as (λ _. ⊥) [
    | inl same ↦ out (among-right files (file ∷ []) item (inl same))
    | inr never ↦ never
  ]) ∙ h.others item (λ before. out (among-left files (file ∷ []) item before));
  fresh = more.fresh (λ item inside. elim inside as (λ _. Covers s t stops item) [
    | inl same ↦ subst (λ (n : ℕ). Covers s t stops n) same covers
    | inr never ↦ absurd never
  ]) h.fresh;
}
  where
    other : (item : ℕ) → Among files item → ¬ Among (file ∷ []) item
    other item before (inl same) = apart (subst (λ (n : ℕ). Among files n) (sym same) before)
    other item before (inr never) = never

pub settled-if : {X E : Type 0} (result : Result X E) (s t : State) (stops : List Stop) (file : ℕ) (old new : List Change) → Covers s t stops file → OnOk result (SettlesAll s t stops (file ∷ []) old new) →
    OnOk result ((files : List ℕ) → ¬ Among files file → AreSettled s t files old → AreSettled s t (files ++ file ∷ []) new)
settled-if (Ok x) s t stops file old new covers more = λ files apart h. settled-more s t stops files file old new apart covers more h
settled-if (Err e) s t stops file old new covers more = tt
