-- Which directories are noted as moved: all that moved where some stop leans on another, and else none needs to be.
use Rattle.std.proofs.Common.{◌≡◌, ℕ, Bool, true, false, List, [], ◌∷◌, refl, sym, ◌∙◌}
use Rattle.std.proofs.Math.Bool.{beq}
use Rattle.std.specs.Prelude.{◌&&◌, ◌||◌, ◌==◌, not, if◌then◌else◌}
use Rattle.std.specs.List.{list_any}
use Rattle.hac_model.specs.Tree.Costs.{is_shifted}
use Rattle.hac_model.specs.Tree.Links.{has, provide}
use Rattle.hac_model.specs.declared.states.State.{State}
use Rattle.reeval.specs.Judging.{is_linked, judgement, verdict_of}
use Rattle.reeval.specs.Routes.{Covers, dirs_of}
use Rattle.reeval.specs.declared.settling.Stop.{Stop}
use Rattle.reeval.specs.declared.verdicts.Verdict.{Verdict}
use Rattle.reeval.proofs.SettleLemmas.{Settled, none-moves, settled-judged, settled-none}

-- a stop leans on the same, whether all that moved are noted or nothing leans
pub leans-same : (leans own : Bool) (moved all deps : List ℕ) → (own ≡ true → leans ≡ true) → (leans ≡ true → (d : ℕ) → has moved d ≡ has all d)
    → (own && list_any (has moved) deps) ≡ (own && list_any (has all) deps)
leans-same leans true moved all deps any same = λ i. list_any (λ d. same (any refl) d i) deps
leans-same leans false moved all deps any same = refl

-- one number more, if it is to be there
one-more : (ns : List ℕ) (n : ℕ) (wanted : Bool) (d : ℕ) → has (if wanted then n ∷ ns else ns) d ≡ (has ns d || (n == d && wanted))
one-more ns n true d = either (n == d) (has ns d)
  where
    either : (a b : Bool) → (a || b) ≡ (b || (a && true))
    either true true = refl
    either true false = refl
    either false true = refl
    either false false = refl
one-more ns n false d = neither (n == d) (has ns d)
  where
    neither : (a b : Bool) → b ≡ (b || (a && false))
    neither true true = refl
    neither true false = refl
    neither false true = refl
    neither false false = refl

module _ (s t : State) (item : ℕ) (stops : List Stop) (covers : Covers s t stops item) (leans : Bool) where
  -- the directories so far are settled with all that moved, which are noted if some stop leans on another
  pub record Noted (left : List ℕ) (known : ℕ → Verdict) (moved : List ℕ) : Type 0 where
    pub all : List ℕ
    pub same : leans ≡ true → (d : ℕ) → has moved d ≡ has all d
    pub settled : Settled s t item stops covers left known all

  pub noted-none : Noted (dirs_of stops) (verdict_of s item) []
  noted-none = record { all = []; same = λ _ d. refl; settled = settled-none s t item stops covers }

  -- one directory more
  module _ (dir : ℕ) (left : List ℕ) (known : ℕ → Verdict) (moved : List ℕ) (h : Noted (dir ∷ left) known moved) (more : ℕ → Verdict) (moves : List ℕ)
      (told : (d : ℕ) → more d ≡ (if d == dir then judgement t (is_linked known) item dir else known d))
      (noted : (d : ℕ) → has moves d ≡ (has moved d || (leans && (dir == d && not (beq (provide s (is_linked (verdict_of s item)) dir item) (provide t (is_linked more) dir item)))))) where
    abbrev differs : Bool
    differs = not (beq (provide s (is_linked (verdict_of s item)) dir item) (provide t (is_linked more) dir item))

    abbrev all : List ℕ
    all = if differs then dir ∷ h.all else h.all

    pub noted-judged : Noted left more moves
    noted-judged = record {
      all = all;
      same = λ is d. noted d ∙ (λ i. h.same is d i || (is i && (dir == d && differs))) ∙ sym (one-more h.all dir differs d);
      settled = settled-judged s t item stops covers dir left known h.all h.settled more all told (one-more h.all dir differs);
    }

    -- where it provides the item in both states or in neither, nothing moves
    pub none-noted : is_shifted s t item dir ≡ false → h.all ≡ [] → noted-judged.all ≡ []
    unfolding noted-judged
    none-noted even none = none-moves s t item stops covers dir left known h.all h.settled more all told (one-more h.all dir differs) even none
