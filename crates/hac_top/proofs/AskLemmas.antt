-- Turns depend on the faults that their own commands meet, and on no others.
use Rattle.std.proofs.Common.{◌≡◌, ℕ, ◌-◌, ◌≤◌, Bool, true, false, List, [], ◌∷◌, ◌++◌, length, drop, refl, ap, sym, subst, ◌∙◌, arith}
use Rattle.std.specs.Prelude.{◌^◌, IsTrue, is_some, Option, None, Some, Result, Ok, Err}
use Rattle.std.specs.List.{list_any}
use Rattle.std.specs.Io.KnownBytes.{Appends}
use Rattle.std.proofs.Math.Seq.{drop-append_seam}
use Rattle.hac_model.specs.Run.Play.{AreAskable, Given, MayFail, Setting, Turn, askable, command_turn, has_refusal, item_turn, left_by, turns, turns_text}
use Rattle.hac_model.specs.Run.Resolving.{resolve}
use Rattle.hac_model.specs.Script.Lines.{Item}
use Rattle.hac_model.specs.Script.{first_items, script}
use Rattle.hac_model.specs.Tree.Mounting.{is_among}
use Rattle.hac_model.specs.declared.replies.Refusal.{Refusal}
use Rattle.hac_model.specs.declared.resolved.Resolved.{Resolved}
use Rattle.hac_model.specs.declared.states.State.{State}
use Rattle.hac_outside.specs.Calls.{next_number}
use Rattle.hac_outside.specs.Causes.{Rose}
use Rattle.hac_outside.specs.Seen.{SinkSeen}
use Rattle.sem_mounts.specs.Seen.{Contents}
use Rattle.hac_top.specs.Asking.{faults_after, given_by}
use Rattle.hac_top.specs.Run.{given_after}
use Rattle.hac_top.proofs.GoesOn.{Goes, turns_of}
use Rattle.hac_top.proofs.TickLemmas.{turns-counted, turns-joined}

-- a command that met a fault asked the space, whatever the others met
pub fails-same : (contents : Contents) (m n : ℕ) (xs ys : List (Option (List ℕ))) (s : State) (item : Item) (fault : Option (List ℕ)) → MayFail (given_by contents xs m) s item fault → MayFail (given_by contents ys n) s item fault
fails-same contents m n xs ys s item None may = tt
fails-same contents m n xs ys s (Err refusal) (Some space) may = may
fails-same contents m n xs ys s (Ok line) (Some space) may = subst (λ (names : List (List ℕ)). IsTrue (is_among names space)) (by (resolve s line)) may
  where
    by : (r : Result Resolved Refusal) → askable (given_by contents xs m) s r ≡ askable (given_by contents ys n) s r
    by (Err refusal) = refl
    by (Ok command) = refl

-- a count within its type doesn't fall
stays-later : (count : ℕ) (faults : List (Option (List ℕ))) → count ≤ 2 ^ 64 - 1 → count ≤ faults_after count faults
stays-later count [] within = omega arith
stays-later count (None ∷ faults) within = stays-later count faults within
stays-later count (Some space ∷ faults) within = omega (arith, within, stays-later (next_number count) faults (omega arith))

-- where a command met a fault, the count has risen
met-rose : (count now : ℕ) (faults : List (Option (List ℕ))) → faults_after count faults ≤ now → list_any is_some faults ≡ true → Rose count now
met-rose count now [] counted some = absurd cc
met-rose count now (None ∷ faults) counted some = met-rose count now faults counted some
met-rose count now (Some space ∷ faults) counted some = omega (arith, counted, stays-later (next_number count) faults (omega arith))

pub met-none : (count now : ℕ) (faults : List (Option (List ℕ))) → faults_after count faults ≤ now → (Rose count now → ⊥) → list_any is_some faults ≡ false
met-none count now faults counted none = by (list_any is_some faults) refl
  where
    by : (some : Bool) → list_any is_some faults ≡ some → list_any is_some faults ≡ false
    by false is = is
    by true is = absurd (none (met-rose count now faults counted is))

module _ (contents : Contents) (tick : ℕ) where
  command-same : (xs ys : List (Option (List ℕ))) (setting : Setting) (r : Result Resolved Refusal) → command_turn (given_by contents xs tick) setting r ≡ command_turn (given_by contents ys tick) setting r
  command-same xs ys setting (Err refusal) = refl
  command-same xs ys setting (Ok command) = refl

  pub turn-same : (fault : Option (List ℕ)) (xs ys : List (Option (List ℕ))) (setting : Setting) (item : Item) → item_turn (given_by contents (fault ∷ xs) tick) setting item ≡ item_turn (given_by contents (fault ∷ ys) tick) setting item
  turn-same (Some space) xs ys setting item = refl
  turn-same None xs ys setting (Err refusal) = refl
  turn-same None xs ys setting (Ok line) = command-same (None ∷ xs) (None ∷ ys) setting (resolve setting.state line)

  turns-front : (met more : List (Option (List ℕ))) (setting : Setting) (items : List Item) → length met ≡ length items →
      turns (given_by contents (met ++ more) tick) setting items ≡ turns (given_by contents met tick) setting items
  turns-front met more setting [] same = refl
  turns-front [] more setting (item ∷ items) same = absurd (omega (arith, same))
  turns-front (fault ∷ met) more setting (item ∷ items) same =
      let turn = item_turn (given_by contents (fault ∷ met) tick) setting item in
      ap (λ (t : Turn). t ∷ turns (given_by contents (met ++ more) tick) t.after items) (turn-same fault (met ++ more) met setting item)
      ∙ ap (λ (rest : List Turn). turn ∷ rest) (turns-front met more turn.after items (omega (arith, same)))

  pub askable-none : (setting : Setting) (items : List Item) → AreAskable (given_by contents [] tick) setting items
  askable-none setting [] = refl
  askable-none setting (item ∷ items) = (tt, askable-none (item_turn (given_by contents [] tick) setting item).after items)

  -- what further commands met
  pub askable-further : (met more : List (Option (List ℕ))) (setting : Setting) (items behind : List Item) → length met ≡ length items → AreAskable (given_by contents met tick) setting items →
      AreAskable (given_by contents more tick) (left_by setting (turns (given_by contents met tick) setting items)) behind → AreAskable (given_by contents (met ++ more) tick) setting (items ++ behind)
  askable-further [] more setting [] behind same first then_all = then_all
  askable-further (fault ∷ met) more setting [] behind same first then_all = absurd (omega (arith, same))
  askable-further [] more setting (item ∷ items) behind same first then_all = absurd (omega (arith, same))
  askable-further (fault ∷ met) more setting (item ∷ items) behind same first then_all =
      let turn = item_turn (given_by contents (fault ∷ met) tick) setting item in (
        fails-same contents tick tick (fault ∷ met) (fault ∷ (met ++ more)) setting.state item fault first.0,
        subst (λ (t : Turn). AreAskable (given_by contents (met ++ more) tick) t.after (items ++ behind)) (sym (turn-same fault (met ++ more) met setting item))
            (askable-further met more turn.after items behind (omega (arith, same)) first.1 then_all),
      )

  -- what is given behind commands that met these faults
  pub given-met : (met more : List (Option (List ℕ))) (answered : List Turn) → length met ≡ length answered → given_after (given_by contents (met ++ more) tick) answered ≡ given_by contents more tick
  given-met met more answered same =
      ap (λ (n : ℕ). given_by contents (drop n (met ++ more)) tick) (sym same) ∙ ap (λ (faults : List (Option (List ℕ))). given_by contents faults tick) (drop-append_seam met more)

  pub items-are : (given : Given) (first : Setting) (played last : List ℕ) → turns_of given first played last ≡ turns given first (script played ++ first_items last)
  items-are given first played last = sym (turns-joined given first (script played) (first_items last))

  pub items-counted : (given : Given) (first : Setting) (played last : List ℕ) → length (turns_of given first played last) ≡ length (script played ++ first_items last)
  items-counted given first played last = ap length (items-are given first played last) ∙ turns-counted given first (script played ++ first_items last)

  pub turns-of-front : (met more : List (Option (List ℕ))) (first : Setting) (played last : List ℕ) → length met ≡ length (turns_of (given_by contents met tick) first played last) →
      turns_of (given_by contents (met ++ more) tick) first played last ≡ turns_of (given_by contents met tick) first played last
  turns-of-front met more first played last same =
      let items = script played ++ first_items last in
      items-are (given_by contents (met ++ more) tick) first played last
      ∙ turns-front met more first items (same ∙ items-counted (given_by contents met tick) first played last)
      ∙ sym (items-are (given_by contents met tick) first played last)

  -- so a run goes on whatever the commands meet that are to come
  abbrev pub goes-further : (met more : List (Option (List ℕ))) (first : Setting) (s p : List ℕ) (ended : Bool) (setting : Setting) (refused : Bool) (before now : SinkSeen)
      (goes : Goes (given_by contents met tick) (given_by contents [] tick) first s p ended setting refused before now) → length met ≡ length (turns_of (given_by contents met tick) first goes.played goes.last) →
      Goes (given_by contents (met ++ more) tick) (given_by contents more tick) first s p ended setting refused before now
  goes-further met more first s p ended setting refused before now goes same =
      let front = turns-of-front met more first goes.played goes.last same in
      record {
        played = goes.played;
        last = goes.last;
        script_is = goes.script_is;
        lines = goes.lines;
        line_is = goes.line_is;
        given_is = sym (ap (given_after (given_by contents (met ++ more) tick)) front ∙ given-met met more (turns_of (given_by contents met tick) first goes.played goes.last) same);
        left_is = goes.left_is ∙ ap (left_by first) (sym front);
        written = subst (λ (ts : List Turn). Appends before.written now.written (turns_text ts)) (sym front) goes.written;
        refused_is = goes.refused_is ∙ ap has_refusal (sym front);
      }
