-- Which directories have sets of links, and how those are given back.
use Rattle.std.proofs.Common.{◌≡◌, ℕ, zero, suc, Bool, true, false, List, ap, refl, sym, ◌∙◌}
use Rattle.std.proofs.Math.Bool.{or-true}
use Rattle.std.proofs.lemmas.Bool.{and_parts, eqb-true}
use Rattle.std.specs.Prelude.{◌&&◌, ◌||◌, ◌==◌, if◌then◌else◌, not, replicate, Option, Some, None}
use Rattle.hac_model.specs.Laws.{AllHappen}
use Rattle.hac_model.specs.Tree.Events.{apply, apply_all}
use Rattle.hac_model.specs.Tree.Links.{is_semantic}
use Rattle.hac_model.specs.Tree.Touched.{is_the}
use Rattle.hac_model.specs.Tree.Valid.{IsValid}
use Rattle.hac_model.specs.declared.events.Event.TheVariants.{Step}
use Rattle.hac_model.specs.declared.states.State.{State}
use Rattle.hac_model.proofs.AcyclicLemmas.{apply-valid}
use Rattle.hac_model.proofs.EventLemmas.{all-valid}
use Rattle.link_kinds.specs.Kinds.{Lists, no_lists}
use Rattle.link_kinds.specs.Seen.{ChangesDir, Known, LinkListsRise, SameLinks, has_sets, lists_in}
use Rattle.set_pool.specs.Rising.{is_among}
use Rattle.reeval.specs.Judging.{no_verdict, verdict_of}
use Rattle.reeval.specs.Settled.{AreLinksOf, AreSetsAsked, AreSetsFor, verdict_in}
use Rattle.reeval.specs.Told.{news_on, told}
use Rattle.reeval.specs.declared.verdicts.Change.{Change}
use Rattle.reeval.specs.declared.verdicts.Verdict.{Verdict}
use Rattle.reeval.proofs.FreshLemmas.{fresh-pass, sets-pass}
use Rattle.reeval.proofs.LinkedLemmas.{links-tell, links-told}
use Rattle.reindex.specs.Past.{Lead}
use Rattle.reindex.proofs.GoneLemmas.{plain-said}
use Rattle.kept_links.specs.Kept.{AreSetsFew}
use Rattle.kept_links.proofs.SemanticLemmas.{still-semantic}

pub asked-few : (s : State) (begun : Option ℕ) (known : Known) → AreSetsAsked s known → AreSetsFew s begun known
asked-few s begun known asked dir is = ap (λ (b : Bool). b || is_the begun dir) (asked dir is)

alone : (a : Bool) → (a || false) ≡ true → a ≡ true
alone true is = refl
alone false never = absurd cc

pub few-asked : (s : State) (known : Known) → AreSetsFew s None known → AreSetsAsked s known
few-asked s known few dir is = alone (is_semantic s dir) (few dir is)

-- the one directory is semantic
pub few-semantic : (s : State) (dir : ℕ) (known : Known) → is_semantic s dir ≡ true → AreSetsFew s (Some dir) known → AreSetsAsked s known
few-semantic s dir known semantic few d is = at (d == dir) refl (few d is)
  where
    at : (b : Bool) → (d == dir) ≡ b → (is_semantic s d || b) ≡ true → is_semantic s d ≡ true
    at true here _ = ap (is_semantic s) (eqb-true d dir here) ∙ semantic
    at false _ or = alone (is_semantic s d) or

-- or gives back its sets
pub few-dropped : (s : State) (dir : ℕ) (old new : Known) → ((d : ℕ) → has_sets new d ≡ (has_sets old d && not (d == dir))) → AreSetsFew s (Some dir) old → AreSetsAsked s new
few-dropped s dir old new sets few d is = at (d == dir) parts.1 (few d parts.0)
  where
    parts : (has_sets old d ≡ true) × (not (d == dir) ≡ true)
    parts = and_parts (has_sets old d) (not (d == dir)) (sym (sets d) ∙ is)

    at : (b : Bool) → not b ≡ true → (is_semantic s d || b) ≡ true → is_semantic s d ≡ true
    at true never _ = absurd cc
    at false _ or = alone (is_semantic s d) or

-- and no link changes, since there is none in a directory that isn't semantic
pub links-dropped : (s : State) (old new : Known) (dir : ℕ) → IsValid s → AreLinksOf s old → ChangesDir old new dir no_lists → LinkListsRise new → is_semantic s dir ≡ false → AreLinksOf s new
links-dropped s old new dir valid are changes rise plain = links-told s new valid rise (λ item d. at item d (d == dir) refl)
  where
    said : ℕ → Lists → Verdict
    said item lists = record { found = is_among item lists.transient; lent = is_among item lists.lent }

    now : (item d : ℕ) (b : Bool) → (d == dir) ≡ b → verdict_in new item d ≡ said item (if b then no_lists else lists_in old d)
    now item d b is = ap (said item) (changes d ∙ ap (λ (c : Bool). if c then no_lists else lists_in old d) is)

    at : (item d : ℕ) (b : Bool) → (d == dir) ≡ b → verdict_in new item d ≡ verdict_of s item d
    at item d true here = now item d true here ∙ sym (plain-said s valid item d (ap (is_semantic s) (eqb-true d dir here) ∙ plain))
    at item d false other = now item d false other ∙ links-tell s old are item d

-- behind the events no other directory is semantic, or plain
pub few-next : (s t : State) (begun : Option ℕ) (old new : Known) → ((dir : ℕ) → is_the begun dir ≡ false → is_semantic s dir ≡ is_semantic t dir) → SameLinks old new → AreSetsFew s begun old → AreSetsFew t begun new
few-next s t begun old new still same few dir is = at (is_the begun dir) refl (few dir (sym (same dir) ∙ is))
  where
    at : (b : Bool) → is_the begun dir ≡ b → (is_semantic s dir || b) ≡ true → (is_semantic t dir || is_the begun dir) ≡ true
    at true here _ = ap (λ (b : Bool). is_semantic t dir || b) here ∙ or-true (is_semantic t dir)
    at false out or = ap (λ (b : Bool). b || is_the begun dir) (sym (still dir out) ∙ alone (is_semantic s dir) or)

-- changes that say something new tell of directories that are semantic before or behind them, so no other gets sets for them
pub few-news : (s t : State) (begun : Option ℕ) (old new : Known) (delta : List Change) → IsValid s → IsValid t → ((dir : ℕ) → is_the begun dir ≡ false → is_semantic s dir ≡ is_semantic t dir) →
    Lead s t delta → AreSetsFor old new delta → AreSetsAsked s old → AreSetsFew s begun new
few-news s t begun old new delta valid after still lead sets asked =
    sets-pass there old new delta (fresh-pass s there delta lead.fresh none silent) sets (λ dir had. ap (λ (b : Bool). b || is_the begun dir) (asked dir had))
  where
    there : ℕ → Bool
    there dir = is_semantic s dir || is_the begun dir

    parts : (a b : Bool) → (a || b) ≡ false → (a ≡ false) × (b ≡ false)
    parts true b never = absurd cc
    parts false b out = (refl, out)

    none : (item dir : ℕ) → there dir ≡ false → verdict_of s item dir ≡ no_verdict
    none item dir out = plain-said s valid item dir (parts (is_semantic s dir) (is_the begun dir) out).0

    silent : (item dir : ℕ) → there dir ≡ false → told (news_on item delta) (verdict_of s item) dir ≡ no_verdict
    silent item dir out =
        let both = parts (is_semantic s dir) (is_the begun dir) out in
        lead.verdicts item dir ∙ plain-said t after item dir (sym (still dir both.1) ∙ both.0)

-- Steps.

pub semantic-steps : (s : State) (count : ℕ) → IsValid s → AllHappen s (replicate count Step) → (dir : ℕ) → is_semantic s dir ≡ is_semantic (apply_all s (replicate count Step)) dir
semantic-steps s zero valid happen dir = refl
semantic-steps s (suc count) valid happen dir =
    still-semantic s valid Step happen.0 dir refl ∙ semantic-steps (apply s Step) count (apply-valid s Step valid happen.0) happen.1 dir

pub steps-asked : (s : State) (count : ℕ) (old new : Known) (delta : List Change) → IsValid s → AllHappen s (replicate count Step) → Lead s (apply_all s (replicate count Step)) delta → AreSetsFor old new delta → AreSetsAsked s old → AreSetsAsked s new
steps-asked s count old new delta valid happen lead sets asked =
    few-asked s new (few-news s (apply_all s (replicate count Step)) None old new delta valid (all-valid (replicate count Step) s valid happen) (λ dir _. semantic-steps s count valid happen dir) lead sets asked)
