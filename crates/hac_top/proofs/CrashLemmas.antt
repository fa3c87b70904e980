-- What a crash leaves as a run goes on, counted by the events of what was answered.
use Rattle.std.proofs.Common.{◌≡◌, ℕ, suc, ◌+◌, ◌<◌, ◌≤◌, true, false, Bool, List, [], ◌∷◌, ◌++◌, length, take, refl, ap, sym, subst, ◌∙◌, arith, append_assoc, append-nil, length-append}
use Rattle.std.specs.Prelude.{Ok}
use Rattle.std.proofs.Math.Seq.{take-append-add, take-append_seam, take-length}
use Rattle.std.proofs.lemmas.List.{take-append-le}
use Rattle.std.proofs.lemmas.Grind.{flat_map-append}
use Rattle.hac_model.specs.Tree.Events.{apply_all}
use Rattle.hac_model.specs.Run.Play.{Setting, Turn, all_events, events_before, events_in}
use Rattle.hac_model.specs.declared.events.Event.{Event}
use Rattle.hac_model.specs.declared.states.State.{State}
use Rattle.hac_model.proofs.PlayLemmas.{apply_all-append}
use Rattle.hac_store.specs.Held.{held}
use Rattle.hac_top.specs.Crashes.{Holds, IsTreeAfter, IsTreeOfAnswered, Reopens}
use Rattle.hac_top.specs.Ticking.{command_events}
use Rattle.hac_model.specs.Tree.Sessions.{stored}

-- Events of turns.

pub all_events-append : (xs ys : List Turn) → all_events (xs ++ ys) ≡ all_events xs ++ all_events ys
all_events-append xs ys = flat_map-append events_in xs ys

-- Counts.

-- before the last of some replies there are no more events than theirs
before-last : (done rest : List Turn) → events_before (length done) (done ++ rest) ≤ length (all_events done)
before-last [] rest = omega arith
before-last (turn ∷ []) rest = omega (arith, length-append turn.events turn.steps, length-append (events_in turn) [])
before-last (turn ∷ next ∷ done) rest = omega (arith, before-last (next ∷ done) rest, length-append (events_in turn) (all_events (next ∷ done)))

-- before the reply behind them there are its own besides
before-next : (done rest : List Turn) (turn : Turn) → events_before (suc (length done)) (done ++ turn ∷ rest) ≡ length (all_events done) + length turn.events
before-next [] rest turn = omega arith
before-next (first ∷ done) rest turn = omega (arith, before-next done rest turn, length-append (events_in first) (all_events done), more done)
  where
    more : (done : List Turn) → events_before (suc (suc (length done))) (first ∷ (done ++ turn ∷ rest)) ≡ length (events_in first) + events_before (suc (length done)) (done ++ turn ∷ rest)
    more [] = refl
    more (next ∷ done) = refl

-- some of the events behind others
taken-behind : (xs ys zs : List Event) (n : ℕ) → n ≤ length ys → take (length xs + n) (xs ++ (ys ++ zs)) ≡ xs ++ take n ys
taken-behind xs ys zs n few = take-append-add xs (ys ++ zs) n ∙ ap (λ (more : List Event). xs ++ more) (take-append-le n ys zs few)

-- a tree after some of the events that follow others
abbrev tree-behind : (s t now : State) (done here rest : List Turn) → t ≡ apply_all s (all_events done) → IsTreeAfter t (all_events here) now → IsTreeAfter s (all_events (done ++ (here ++ rest))) now
tree-behind s t now done here rest led tree =
    let all_is : all_events (done ++ (here ++ rest)) ≡ all_events done ++ (all_events here ++ all_events rest) = all_events-append done (here ++ rest) ∙ ap (λ (more : List Event). all_events done ++ more) (all_events-append here rest) in
    record {
      count = length (all_events done) + tree.count;
      within = omega (arith, tree.within, ap length all_is, length-append (all_events done) (all_events here ++ all_events rest), length-append (all_events here) (all_events rest));
      is =
          tree.is ∙ ap (λ (state : State). apply_all state (take tree.count (all_events here))) led ∙ sym (apply_all-append (all_events done) (take tree.count (all_events here)) s)
          ∙ ap (apply_all s) (sym (ap (take (length (all_events done) + tree.count)) all_is ∙ taken-behind (all_events done) (all_events here) (all_events rest) tree.count tree.within));
    }

-- What a crash leaves.

-- what has this, the other has
pub holds-weaker : (P Q : State → Type 0) (image : List ℕ) → ((s : State) → P s → Q s) → Holds P image → Holds Q image
holds-weaker P Q image then_q holds = record { kept = holds.kept; is = holds.is; state = then_q (stored holds.kept.state) holds.state }

-- what is held is held, whatever was asked for
pub reopens : (fresh : Bool) (P : State → Type 0) (image : List ℕ) → Holds P image → Reopens fresh P image
reopens false P image holds = holds
reopens true P image holds = λ kept is. subst P (ap (λ (setting : Setting). stored setting.state) (same kept is)) holds.state
  where
    same : (kept : Setting) → held image ≡ Ok kept → holds.kept ≡ kept
    same kept is = let both : Ok holds.kept ≡ Ok kept = sym holds.is ∙ is in cc

-- some of these events are some of them and of more behind them
pub tree-more : (s now : State) (xs ys : List Event) → IsTreeAfter s xs now → IsTreeAfter s (xs ++ ys) now
tree-more s now xs ys tree =
    record { count = tree.count; within = omega (arith, tree.within, length-append xs ys); is = tree.is ∙ ap (apply_all s) (sym (take-append-le tree.count xs ys tree.within)) }

-- and some behind all of these
abbrev pub tree-then : (s t now : State) (xs ys : List Event) → t ≡ apply_all s xs → IsTreeAfter t ys now → IsTreeAfter s (xs ++ ys) now
tree-then s t now xs ys led tree =
    record {
      count = length xs + tree.count;
      within = omega (arith, tree.within, length-append xs ys);
      is = tree.is ∙ ap (λ (u : State). apply_all u (take tree.count ys)) led ∙ sym (apply_all-append xs (take tree.count ys) s) ∙ ap (apply_all s) (sym (take-append-add xs ys tree.count));
    }

-- a tree after all of the events
pub tree-all : (s now : State) (events : List Event) → now ≡ apply_all s events → IsTreeAfter s events now
tree-all s now events is = record { count = length events; within = omega arith; is = is ∙ ap (apply_all s) (sym (take-length events)) }

-- The commands in hand, of which there is one at most.

-- some of the events of a command, and none of the steps behind it: it isn't answered
pub none-answered : (t now : State) (here : List Turn) → length here ≤ 1 → IsTreeAfter t (command_events here) now → IsTreeOfAnswered t here 0 now
none-answered t now [] few tree = record { count = tree.count; within = tree.within; is = tree.is; answered = omega arith; no_further = λ more. absurd (omega (arith, more)) }
none-answered t now (turn ∷ []) few tree =
    let own : command_events (turn ∷ []) ≡ turn.events = append-nil turn.events in
    let within : tree.count ≤ length turn.events = omega (arith, tree.within, ap length own) in
    record {
      count = tree.count;
      within = omega (arith, within, ap length (append-nil (events_in turn)), length-append turn.events turn.steps);
      is =
          tree.is
          ∙ ap (apply_all t) (ap (take tree.count) own ∙ sym (take-append-le tree.count turn.events turn.steps within) ∙ sym (ap (take tree.count) (append-nil (events_in turn))));
      answered = omega arith;
      no_further = λ _. within;
    }
none-answered t now (turn ∷ other ∷ here) few tree = absurd (omega (arith, few))

-- all of the events of a command: it may be answered
pub may-be-answered : (t now : State) (here : List Turn) → length here ≤ 1 → now ≡ apply_all t (command_events here) → IsTreeOfAnswered t here (length here) now
may-be-answered t now [] few is = record { count = 0; within = omega arith; is = is; answered = omega arith; no_further = λ more. absurd (omega (arith, more)) }
may-be-answered t now (turn ∷ []) few is =
    record {
      count = length turn.events;
      within = omega (arith, ap length (append-nil (events_in turn)), length-append turn.events turn.steps);
      is =
          is
          ∙ ap (apply_all t) (append-nil turn.events ∙ sym (take-append_seam turn.events turn.steps) ∙ sym (ap (take (length turn.events)) (append-nil (events_in turn))));
      answered = omega arith;
      no_further = λ more. absurd (omega (arith, more));
    }
may-be-answered t now (turn ∷ other ∷ here) few is = absurd (omega (arith, few))

-- what a crash leaves of answered commands is some of their events
abbrev pub answered-tree : (t now : State) (here : List Turn) (told : ℕ) → IsTreeOfAnswered t here told now → IsTreeAfter t (all_events here) now
answered-tree t now here told tree = record { count = tree.count; within = tree.within; is = tree.is }

-- none of the commands in hand is answered
pub answered-first : (s t now : State) (all done here rest : List Turn) → all ≡ done ++ (here ++ rest) → t ≡ apply_all s (all_events done) → IsTreeOfAnswered t here 0 now → IsTreeOfAnswered s all (length done) now
answered-first s t now all done here rest is led tree =
    let behind = tree-behind s t now done here rest led (answered-tree t now here 0 tree) in
    subst (λ (ts : List Turn). IsTreeOfAnswered s ts (length done) now) (sym is) (record {
      count = length (all_events done) + tree.count;
      within = behind.within;
      is = behind.is;
      answered = omega (arith, before-last done (here ++ rest));
      no_further = further here rest tree.count tree.within tree.no_further;
    })
  where
    further : (here rest : List Turn) (count : ℕ) → count ≤ length (all_events here) → (0 < length here → count ≤ events_before 1 here) → length done < length (done ++ (here ++ rest)) →
        length (all_events done) + count ≤ events_before (suc (length done)) (done ++ (here ++ rest))
    further [] [] count within most more = absurd (omega (arith, more, length-append done []))
    further [] (next ∷ rest) count within most more = omega (arith, within, before-next done rest next)
    further (turn ∷ here) rest count within most more = omega (arith, most (omega arith), before-next done (here ++ rest) turn)

-- all of them are
pub answered-last : (s t now : State) (all done here rest : List Turn) → all ≡ done ++ (here ++ rest) → length here ≤ 1 → t ≡ apply_all s (all_events done) → IsTreeOfAnswered t here (length here) now → IsTreeOfAnswered s all (length (done ++ here)) now
answered-last s t now all done here rest is few led tree =
    let behind = tree-behind s t now done here rest led (answered-tree t now here (length here) tree) in
    subst (λ (ts : List Turn). IsTreeOfAnswered s ts (length (done ++ here)) now) (sym is) (record {
      count = length (all_events done) + tree.count;
      within = behind.within;
      is = behind.is;
      answered = least here few tree.count tree.answered;
      no_further = further rest;
    })
  where
    least : (here : List Turn) → length here ≤ 1 → (count : ℕ) → events_before (length here) here ≤ count → events_before (length (done ++ here)) (done ++ (here ++ rest)) ≤ length (all_events done) + count
    least [] few count enough = omega (arith, before-last done rest, ap (λ (n : ℕ). events_before n (done ++ rest)) (ap length (append-nil done)))
    least (turn ∷ []) few count enough =
        omega (arith, enough, before-next done rest turn, ap (λ (n : ℕ). events_before n (done ++ turn ∷ rest)) (length-append done (turn ∷ []) ∙ one (length done)))
      where
        one : (n : ℕ) → n + 1 ≡ suc n
        one n = omega arith
    least (turn ∷ other ∷ here) few count enough = absurd (omega (arith, few))

    further : (rest : List Turn) → length (done ++ here) < length (done ++ (here ++ rest)) → length (all_events done) + tree.count ≤ events_before (suc (length (done ++ here))) (done ++ (here ++ rest))
    further [] more = absurd (omega (arith, more, length-append done here, length-append done (here ++ []), length-append here []))
    further (next ∷ rest) more =
        omega (
          arith,
          tree.within,
          before-next (done ++ here) rest next,
          ap (λ (ts : List Turn). events_before (suc (length (done ++ here))) ts) (append_assoc done here (next ∷ rest)),
          ap length (all_events-append done here),
          length-append (all_events done) (all_events here),
        )

-- nothing is in hand
pub all-answered : (s now : State) (all done rest : List Turn) → all ≡ done ++ rest → now ≡ apply_all s (all_events done) → IsTreeOfAnswered s all (length done) now
all-answered s now all done rest is led = answered-first s now now all done [] rest is led (none-answered now now [] (omega arith) (record { count = 0; within = omega arith; is = refl }))

-- a tree of what is in hand is one of all
pub tree-of-all : (s t now : State) (all done here rest : List Turn) → all ≡ done ++ (here ++ rest) → t ≡ apply_all s (all_events done) → IsTreeAfter t (all_events here) now → IsTreeAfter s (all_events all) now
tree-of-all s t now all done here rest is led tree = subst (λ (ts : List Turn). IsTreeAfter s (all_events ts) now) (sym is) (tree-behind s t now done here rest led tree)
