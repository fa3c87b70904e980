-- The state after an event, put together from its tree, its facts and its sessions.
use Rattle.std.proofs.Common.{◌≡◌, ℕ, List, ap, sym, subst, ◌∙◌}
use Rattle.std.specs.Prelude.{IsTrue}
use Rattle.hac_model.specs.Tree.Bare.{bare}
use Rattle.hac_model.specs.Tree.Events.{accepted, apply}
use Rattle.hac_model.specs.Tree.Facts.{Facts, bare_after, facts_after, facts_of, joined}
use Rattle.hac_model.specs.Tree.Sessions.{sessions_after}
use Rattle.hac_model.specs.Tree.Valid.{IsLayout, IsValid}
use Rattle.hac_model.specs.declared.events.Event.{Event}
use Rattle.hac_model.specs.declared.states.Session.{Session}
use Rattle.hac_model.specs.declared.states.State.{State}
use Rattle.hac_model.proofs.AcyclicLemmas.{apply-valid}
use Rattle.hac_model.proofs.AlikeLemmas.{layout-bare, layout-unbare}
use Rattle.hac_model.proofs.BareLemmas.{bare-commutes}
use Rattle.hac_model.proofs.FactLemmas.{facts-bare, facts-law}
use Rattle.hac_model.proofs.FillLemmas.{bare-joined, joined-bare, rejoined, tree-law}
use Rattle.hac_model.proofs.SessionLemmas.{sessions-follow}

-- what two trees that are the same without their facts make of facts
facts-alike : (event : Event) (s t : State) (facts : ℕ → Facts) (n : ℕ) → bare s ≡ bare t → facts_after event s facts n ≡ facts_after event t facts n
facts-alike event s t facts n same = sym (facts-bare event s facts n) ∙ ap (λ (x : State). facts_after event x facts n) same ∙ facts-bare event t facts n

module _ (tree : State) (facts : ℕ → Facts) (sessions : List Session) (event : Event) (valid : IsValid (joined facts sessions tree)) (ok : IsTrue (accepted (joined facts sessions tree) event)) where
  abbrev old : State
  old = joined facts sessions tree

  next-bare : bare (apply old event) ≡ bare (bare_after event tree)
  next-bare =
      bare-commutes old event ∙ ap (λ (x : State). bare (apply x event)) (bare-joined facts sessions tree)
      ∙ sym (bare-commutes tree event) ∙ sym (tree-law event tree)

  -- the tree after the event is one
  pub next-layout : IsLayout (bare_after event tree)
  next-layout = layout-unbare (bare_after event tree) (subst (λ (x : State). IsLayout x) next-bare (layout-bare (apply old event) (apply-valid old event valid ok).layout))

  module _ (own : (n : ℕ) → facts_of old n ≡ facts n) (after : State) (is : after ≡ bare_after event tree) (new : ℕ → Facts) (each : (n : ℕ) → new n ≡ facts_after event tree facts n)
      (now : List Session) (stand : now ≡ sessions_after event sessions) where
    told : (n : ℕ) → facts_of (apply old event) n ≡ new n
    told n =
        facts-law old valid event ok n
        ∙ facts-alike event old tree (facts_of old) n (bare-joined facts sessions tree)
        ∙ ap (λ (f : ℕ → Facts). facts_after event tree f n) (λ i n. own n i)
        ∙ sym (each n)

    -- with the facts and the sessions after it, it is the state
    pub next-state : joined new now after ≡ apply old event
    next-state =
        let next = apply-valid old event valid ok in
        sym (joined-bare new now after)
        ∙ (λ i. joined (λ n. sym (told n) i) ((stand ∙ sym (sessions-follow old event)) i) ((ap bare is ∙ sym next-bare) i))
        ∙ rejoined (apply old event) next.layout.numbers

    -- in which each number has those facts, and no others
    pub next-own : (n : ℕ) → facts_of (joined new now after) n ≡ new n
    next-own n = ap (λ (s : State). facts_of s n) next-state ∙ told n
