-- What each mount keeps after an event, by what was prepared for it.
use Rattle.std.proofs.Common.{◌≡◌, ℕ, Bool, true, false, cond, List, ◌∷◌, refl, ap, sym, ◌∙◌, arith}
use Rattle.std.specs.Prelude.{◌==◌, Option, Some, IsTrue}
use Rattle.std.specs.Option.{option_map, option_map_or}
use Rattle.hac_model.specs.Tree.Depends.{named_in}
use Rattle.hac_model.specs.Tree.Events.{accepted}
use Rattle.hac_model.specs.Tree.Facts.{Facts, facts_after, facts_with, facts_without, no_facts, with_mark}
use Rattle.hac_model.specs.Tree.Links.{parent_of, query_at}
use Rattle.hac_model.specs.Tree.Mounting.{answers_to, is_gone, is_of_mount, is_such_at}
use Rattle.hac_model.specs.Tree.Mounts.{terms_to_ask}
use Rattle.hac_model.specs.Tree.{is_mount, is_mount_at}
use Rattle.hac_model.specs.declared.events.Event.{Event}
use Rattle.hac_model.specs.declared.events.Event.TheVariants as event
use Rattle.hac_model.specs.declared.states.Answer.{Answer}
use Rattle.hac_model.specs.declared.states.Entry.{Entry}
use Rattle.hac_model.specs.declared.states.State.{State}
use Rattle.hac_model.proofs.TreeLemmas.{entry_at-next}
use Rattle.hac_model.proofs.ValidLemmas.{setq-parts}
use Rattle.dep_graph.specs.declared.graph.NewEdges.{NewEdges}
use Rattle.kept_facts.specs.Answers.{answers_kept}
use Rattle.kept_facts.specs.After.{answers_after}
use Rattle.kept_state.specs.Parts.{IsLinked, facts_kept, state_of}
use Rattle.kept_state.specs.Ready.{IsPreparedFor}
use Rattle.kept_state.specs.declared.parts.Parts.{Parts}
use Rattle.kept_state.proofs.KeptLemmas.{answers-still}
use Rattle.kept_state.proofs.PutLemmas.{asked-none, made-none, next-none, plain-then, told-but}
use Rattle.kept_state.proofs.ReadyLemmas.{possible-of}
use Rattle.kept_state.proofs.StateLemmas.{kept-bares, same-mount}

-- one number gets other answers
answers-put : (b : Bool) (new old : Facts) → cond b new.answers old.answers ≡ (cond b new old).answers
answers-put true new old = refl
answers-put false new old = refl

module _ (kept : Parts) (h : IsLinked kept) where
  abbrev s : State
  s = state_of kept

  abbrev t : State
  t = kept.tree.state

  abbrev facts : ℕ → Facts
  facts = facts_kept kept

  abbrev keeps : ℕ → List Answer
  keeps = answers_kept kept.answers

  -- the next number is no mount's yet
  next-plain : is_mount_at t.entries t.next ≡ false
  next-plain =
      sym (same-mount s t (kept-bares kept) t.next)
      ∙ ap (λ (o : Option Entry). option_map_or is_mount (option_map (λ (e : Entry). e.body) o) false) (entry_at-next 0 s.entries t.next t.next h.valid.layout.numbers (omega arith))

  pub event-answers : (e : Event) (edges : Option NewEdges) → IsTrue (accepted s e) → IsPreparedFor e edges kept → (n : ℕ) → answers_after e kept.answers n ≡ (facts_after e t facts n).answers
  event-answers (event.Smkdir dir name asked told) edges ok fits n =
      fits.2 n
      ∙ told-but kept asked told t.next (record no_facts { edges = dir ∷ named_in asked })
      (plain-then kept asked told t.next next-plain ∙ sym (ap (λ (f : Facts). f.answers) (next-none kept h))) n
  event-answers (event.Setq dir asked told) edges ok fits n =
      let plain : is_mount_at t.entries dir ≡ false = sym (same-mount s t (kept-bares kept) dir) ∙ (setq-parts s dir asked told (possible-of s (event.Setq dir asked told) ok)).4 in
      fits.1 n
      ∙ told-but kept asked told dir (facts_with t (parent_of t dir) (Some asked) (facts dir).marks (facts dir)) (plain-then kept asked told dir plain) n
  event-answers (event.Unq dir) edges ok fits n = answers-still kept h dir no_facts n (sym (asked-none kept h dir ok))
  event-answers (event.Rmdir dir) edges ok fits n = answers-still kept h dir no_facts n (sym (made-none kept h dir ok))
  event-answers (event.Mark mark) edges ok fits n =
      answers-still kept h mark.dir (facts_with t (parent_of t mark.dir) (query_at t mark.dir) (with_mark mark.kind mark.item (facts mark.dir).marks) (facts mark.dir)) n refl
  event-answers (event.Mv entry dir name) edges ok fits n = answers-still kept h entry (facts_with t dir (query_at t entry) (facts entry).marks (facts entry)) n refl
  event-answers (event.Smount dir name space documents told) edges ok fits n =
      fits.1 n
      ∙ answers-put (n == t.next) (record no_facts { answers = answers_to (terms_to_ask t.entries) told }) (facts n)
  event-answers (event.Ssync mount documents told) edges ok fits n =
      fits.1 n
      ∙ answers-put (n == mount) (record no_facts { answers = answers_to (terms_to_ask t.entries) told }) (facts_without (is_such_at (is_gone mount documents) t.entries) facts n)
  event-answers (event.Sumount mount) edges ok fits n = answers-put (n == mount) no_facts (facts_without (is_such_at (is_of_mount mount) t.entries) facts n)
  event-answers (event.Mkdir dir name) edges ok fits n = refl
  event-answers (event.NewFile dir name text) edges ok fits n = refl
  event-answers (event.Rewrite file text) edges ok fits n = refl
  event-answers (event.Ln dir name target) edges ok fits n = refl
  event-answers (event.Rm entry) edges ok fits n = refl
  event-answers event.Step edges ok fits n = refl
  event-answers (event.Cd session dir) edges ok fits n = refl
