-- What an answer does: its command is stored, its reply is told, and the index steps behind it are stored.
use Rattle.std.proofs.Common.{◌≡◌, ℕ, ◌≤◌, rules, true, false, Bool, List, [], ◌∷◌, ◌++◌, length, take, ◌+◌, refl, ap, sym, subst, ◌∙◌, append-nil, arith, inl, inr}
use Rattle.std.specs.Prelude.{◌⊎◌, ◌||◌, Option, None, Some, Result, Ok, Err, IfErr, OnOk}
use Rattle.std.specs.Option.{IfSome}
use Rattle.hac_disk.specs.Seen.{DiskSeen, IsLawful}
use Rattle.hac_disk.proofs.Moments.{quiet_twice, then_run, weaken}
use Rattle.hac_model.specs.Run.Costs.{answering_line}
use Rattle.hac_model.specs.Tree.Costs.{costs}
use Rattle.hac_model.specs.Tree.Events.{apply_all}
use Rattle.hac_model.specs.Run.Play.{Setting, Turn, after_events, all_events, has_refusal, is_refused, nothing_given, refused_turn, steps_behind, turns_text}
use Rattle.hac_model.specs.Script.Lines.{Item}
use Rattle.hac_model.specs.Tree.Sessions.{stored}
use Rattle.hac_model.specs.declared.replies.Refusal.{Refusal}
use Rattle.hac_model.specs.declared.replies.Reply.TheVariants.{Refused}
use Rattle.sem_mounts.specs.Seen.{Contents, SpacesSeen}
use Rattle.hac_model.specs.declared.events.Event.{Event}
use Rattle.hac_model.specs.declared.replies.Reply.{Reply}
use Rattle.hac_model.specs.declared.states.State.{State}
use Rattle.hac_model.proofs.PlayLemmas.{apply_all-append, steps-stored, stored-all}
use Rattle.hac_outside.specs.Seen.{SinkSeen}
use Rattle.hac_store.specs.Stores.{Bears, Seen, Stands}
use Rattle.hac_store.specs.declared.fault.StoreFault.{StoreFault}
use Rattle.hac_store.specs.declared.fault.StoreFault.TheVariants as fault
use Rattle.hac_top.specs.Asking.{given_by}
use Rattle.hac_top.specs.Crashes.{Holds, IsTreeAfter, IsTreeOfAnswered}
use Rattle.hac_top.specs.Ends.{is_disk_fault, store_status}
use Rattle.hac_top.specs.Replies.{CutsWriting, WritesAll}
use Rattle.hac_top.specs.Storing.{AnswersItems, AnswersLine, AreTurns, IsBare, IsTurnOf, StopsAnswer, StopsCommand, StopsSteps, Stores, StoresItem, StoresSteps, StoresTurn}
use Rattle.hac_top.specs.Ticking.{command_events, told_turn}
use Rattle.hac_model.specs.Script.Printed.{text}
use Rattle.hac_top.specs.TakenLines.{items_of_piece}
use Rattle.hac_model.specs.declared.taken.Taken.{Taken}
use Rattle.line_reader.specs.declared.reading.Piece.{Piece}
use Rattle.line_reader.specs.declared.reading.Piece.TheVariants.{Blank, End}
use Rattle.hac_top.specs.declared.status.Status.{Status}
use Rattle.hac_top.specs.declared.status.Status.TheVariants.{WriteFault, DiskFault, Memory}
use Rattle.hac_top.proofs.CostLemmas.{line-cost}
use Rattle.hac_top.proofs.CrashLemmas.{holds-weaker, tree-more, tree-then}
use Rattle.hac_top.specs.Writes.{GrowsBy}
use Rattle.hac_top.proofs.StoringLemmas.{stores-nothing, told-since}
use Rattle.hac_top.proofs.WriteLemmas.{both-none, grows-none, grows-same, grows-then}
use Rattle.hac_top.proofs.TickLemmas.{ticked, turn-ticks}
use Rattle.hac_top.proofs.AskLemmas.{fails-same}
use Rattle.std.proofs.KnownBytes.{Appends-nil}

-- the events of a turn that stores nothing before its reply are the steps behind it
told-events : (tick : ℕ) (setting : Setting) (reply : Reply) → all_events (told_turn tick setting reply ∷ []) ≡ steps_behind tick setting
told-events tick setting reply = append-nil (steps_behind tick setting)

-- those of a turn with steps
ticked-events : (tick : ℕ) (turn : Turn) → all_events (ticked tick turn ∷ []) ≡ turn.events ++ steps_behind tick turn.after
ticked-events tick turn = append-nil (turn.events ++ steps_behind tick turn.after)

-- some of the steps behind a reply, the first ones
some-steps : (tick : ℕ) (setting : Setting) (reply : Reply) (now : State) → IsTreeAfter (stored setting.state) (steps_behind tick setting) now → IsTreeOfAnswered (stored setting.state) (told_turn tick setting reply ∷ []) 1 now
some-steps tick setting reply now tree =
    let all = subst (λ (es : List Event). IsTreeAfter (stored setting.state) es now) (sym (told-events tick setting reply)) tree in
    record { count = all.count; within = all.within; is = all.is; answered = omega arith; no_further = λ more. absurd (omega (arith, more)) }

-- what a turn with steps leads to
ticked-leads : (tick : ℕ) (setting : Setting) (turn : Turn) → stored turn.after.state ≡ apply_all (stored setting.state) turn.events →
    stored (ticked tick turn).after.state ≡ apply_all (stored setting.state) (all_events (ticked tick turn ∷ []))
ticked-leads tick setting turn led =
    let steps = steps_behind tick turn.after in
    stored-all steps turn.after.state ∙ ap (apply_all (stored turn.after.state)) (steps-stored tick turn.after) ∙ ap (λ (s : State). apply_all s steps) led
    ∙ sym (apply_all-append turn.events steps (stored setting.state)) ∙ ap (apply_all (stored setting.state)) (sym (ticked-events tick turn))

or-none : (b : Bool) → (b || false) ≡ b
or-none true = refl
or-none false = refl

-- whether a line was refused is told by its reply
line-refused : (tick : ℕ) (turn : Turn) (reply : Reply) (was now : Bool) (result : Result (Unit {0}) Status) → reply ≡ turn.reply → OnOk result (now ≡ (was || is_refused reply)) →
    OnOk result (now ≡ (was || has_refusal (ticked tick turn ∷ [])))
line-refused tick turn reply was now (Err status) same told = tt
line-refused tick turn reply was now (Ok done) same told = told ∙ ap (λ (b : Bool). was || b) (ap is_refused same ∙ sym (or-none (is_refused turn.reply)))

-- the turn of a line is that without steps, and the steps behind it
line-turns : (contents : Contents) (fault : Option (List ℕ)) (tick : ℕ) (setting : Setting) (item : Item) (turn : Turn) (probes probes_now : ℕ) → IsTurnOf contents fault setting item turn → IsBare setting turn →
    probes_now ≤ probes + (answering_line setting.state item + costs setting.state turn.events + costs turn.after.state (steps_behind tick turn.after)) →
    AreTurns contents (fault ∷ []) tick setting (item ∷ []) (ticked tick turn ∷ []) probes probes_now
line-turns contents fault tick setting item turn probes probes_now of bare asks =
    let given = given_by contents (fault ∷ []) tick in
    record {
      are = ap (λ (t : Turn). ticked tick t ∷ []) of.is ∙ ap (λ (t : Turn). t ∷ []) (sym (turn-ticks contents (fault ∷ []) tick setting item));
      count = refl;
      askable = (fails-same contents 0 tick (fault ∷ []) (fault ∷ []) setting.state item fault of.may, refl);
      asks = subst (λ (most : ℕ). probes_now ≤ probes + most) (sym (line-cost contents fault tick setting item turn of bare)) asks;
    }

-- a blank line asks for nothing, nor does the end of a script
pub no-items : (piece : Piece) (taken : Option Taken) → (piece ≡ Blank) ⊎ (piece ≡ End) → items_of_piece piece taken ≡ []
no-items piece taken (inl is) = ap (λ (p : Piece). items_of_piece p taken) is
no-items piece taken (inr is) = ap (λ (p : Piece). items_of_piece p taken) is

-- what is known where the contents are told
told-alike : (P Q : Contents → Type 0) (o : Option Contents) → ((contents : Contents) → P contents → Q contents) → IfSome o P → IfSome o Q
told-alike P Q None then_q p = search rules
told-alike P Q (Some contents) then_q p = then_q contents p

-- a store that went on by events, and then by more
stores-then : (old mid new : DiskSeen) (z w v : Setting) (xs ys : List Event) (failed : Bool) → z.generation ≤ w.generation → w.generation ≤ v.generation → Stores old mid z w xs false →
    (Stands old z → Stands mid w) → stored w.state ≡ apply_all (stored z.state) xs →
    Stores mid new w v ys failed → Stores old new z v (xs ++ ys) failed
stores-then old mid new z w v xs ys failed rises later before stands led after =
    let all = Holds (IsTreeAfter (stored z.state) (xs ++ ys)) in
    record {
      moments = λ stood.
          then_run old mid new all
          (weaken old mid (Holds (IsTreeAfter (stored z.state) xs)) all
          (λ c holds. holds-weaker (IsTreeAfter (stored z.state) xs) (IsTreeAfter (stored z.state) (xs ++ ys)) c (λ s tree. tree-more (stored z.state) s xs ys tree) holds) (before.moments stood))
          (weaken mid new (Holds (IsTreeAfter (stored w.state) ys)) all
          (λ c holds. holds-weaker (IsTreeAfter (stored w.state) ys) (IsTreeAfter (stored z.state) (xs ++ ys)) c (λ s tree. tree-then (stored z.state) (stored w.state) s xs ys led tree) holds) (after.moments (stands stood)));
      idle = λ nothing.
          let none = both-none xs ys nothing.1 in
          quiet_twice old mid new (before.idle (omega (arith, rises, later, nothing.0), none.0)) (after.idle (omega (arith, rises, later, nothing.0), none.1));
      settled = λ fine settled. after.settled fine (before.settled refl settled);
      names = after.names ∙ before.names;
      reported = told-since failed old.faults mid.faults new.faults before.reported after.reported;
    }

-- the same events, in other words
stores-same : (old new : DiskSeen) (setting last : Setting) (xs ys : List Event) (failed : Bool) → xs ≡ ys → Stores old new setting last xs failed → Stores old new setting last ys failed
stores-same old new setting last xs ys failed same stores = subst (λ (es : List Event). Stores old new setting last es failed) same stores

-- A reply, and the steps behind it.

module _ (old new : DiskSeen) (store after : Seen) (tick : ℕ) (reply : Reply) (sink sink_after : SinkSeen) (told : WritesAll sink sink_after (turns_text (told_turn tick store.setting reply ∷ []))) where
  -- all steps were stored
  pub steps-end : StoresSteps old new store after (steps_behind tick store.setting) (Ok tt) →
      AnswersLine old new store after sink sink_after (told_turn tick store.setting reply ∷ [])
  steps-end went =
      record {
        replies = told;
        on = record {
          setting = went.ok.setting;
          intact = went.ok.intact;
          place = went.ok.place;
          stands = went.ok.stands;
          grows =
              subst (λ (es : List Event). GrowsBy old.contents new.contents store.setting (after_events store.setting (steps_behind tick store.setting)) es) (sym (told-events tick store.setting reply)) went.ok.grows;
        };
        stores =
            stores-same old new store.setting (after_events store.setting (steps_behind tick store.setting)) (steps_behind tick store.setting) (all_events (told_turn tick store.setting reply ∷ [])) false (sym (told-events tick store.setting reply)) went.stores;
      }

  -- or some
  pub steps-stop : IsLawful new → (reason : StoreFault) →
      StoresSteps old new store after (steps_behind tick store.setting) (Err reason) →
      StopsAnswer old new store.setting sink sink_after (told_turn tick store.setting reply ∷ []) (store_status reason)
  steps-stop lawful reason went =
      inr (record {
        why = stops reason went.err;
        replies = told;
        left = λ stands c left.
            let run = went.stores.moments stands in
            holds-weaker (IsTreeAfter (stored store.setting.state) (steps_behind tick store.setting)) (IsTreeOfAnswered (stored store.setting.state) (told_turn tick store.setting reply ∷ []) 1) c (some-steps tick store.setting reply)
            (run.each c (lawful.counts_now old.moment c run.later left));
        stores =
            stores-same old new store.setting (after_events store.setting (steps_behind tick store.setting)) (steps_behind tick store.setting) (all_events (told_turn tick store.setting reply ∷ [])) (is_disk_fault (store_status reason)) (sym (told-events tick store.setting reply)) went.stores;
      })
    where
      stops : (reason : StoreFault) → StopsSteps reason → StopsCommand (store_status reason)
      stops fault.Disk why = tt
      stops fault.Memory why = tt
      stops other why = absurd why

-- A command, and its reply with the steps behind it.

-- the steps behind a turn begin no new area
stores-ticked : (old new : DiskSeen) (setting : Setting) (tick : ℕ) (turn : Turn) (events : List Event) (failed : Bool) → Stores old new setting turn.after events failed → Stores old new setting (ticked tick turn).after events failed
stores-ticked old new setting tick turn events failed stores = record { moments = stores.moments; idle = stores.idle; settled = stores.settled; names = stores.names; reported = stores.reported }

-- no reply was told
command-stops : (old new : DiskSeen) (before after : Seen) (tick : ℕ) (turn : Turn) (sink : SinkSeen) (status : Status) → all_events (turn ∷ []) ≡ turn.events → StoresTurn old new before after turn (Err status) →
    StopsAnswer old new before.setting sink sink (ticked tick turn ∷ []) status
command-stops old new before after tick turn sink status bare went =
    inl (record {
      replies = nothing status went.err;
      stored = λ write. absurd (no-write status went.err write);
      stores = stores-ticked old new before.setting tick turn (command_events (ticked tick turn ∷ [])) (is_disk_fault status) (stores-same old new before.setting turn.after (all_events (turn ∷ [])) (command_events (ticked tick turn ∷ [])) (is_disk_fault status) own went.stores);
    })
  where
    own : all_events (turn ∷ []) ≡ command_events (ticked tick turn ∷ [])
    own = bare ∙ sym (append-nil turn.events)

    nothing : (status : Status) → StopsCommand status → CutsWriting status sink sink (turns_text (ticked tick turn ∷ []))
    nothing DiskFault why = refl
    nothing Memory why = refl
    nothing other why = absurd why

    no-write : (status : Status) → StopsCommand status → status ≡ WriteFault → ⊥
    no-write WriteFault why write = absurd why
    no-write DiskFault why write = cc
    no-write Memory why write = cc
    no-write other why write = absurd why

-- a command was stored, before its reply was told
module _ (old mid new : DiskSeen) (before store after : Seen) (turn : Turn) (reply : Reply) (sink sink_after : SinkSeen) (tick : ℕ) (went : StoresTurn old mid before store turn (Ok reply))
    (own : all_events (turn ∷ []) ≡ turn.events) (led : stored turn.after.state ≡ apply_all (stored before.setting.state) turn.events) where
  led-on : stored store.setting.state ≡ apply_all (stored before.setting.state) turn.events
  led-on = ap (λ (z : Setting). stored z.state) went.ok.on.setting ∙ led

  all-events : turn.events ++ all_events (told_turn tick store.setting reply ∷ []) ≡ all_events (ticked tick turn ∷ [])
  all-events = ap (λ (es : List Event). turn.events ++ es) (told-events tick store.setting reply ∙ ap (steps_behind tick) went.ok.on.setting) ∙ sym (ticked-events tick turn)

  -- what the turn leaves with its steps
  last-is : (told_turn tick store.setting reply).after ≡ (ticked tick turn).after
  last-is = ap (λ (z : Setting). after_events z (steps_behind tick z)) went.ok.on.setting

  stores-on : (more : List Event) (failed : Bool) → Stores mid new store.setting (told_turn tick store.setting reply).after more failed → Stores old new before.setting (ticked tick turn).after (turn.events ++ more) failed
  stores-on more failed stores =
      subst (λ (z : Setting). Stores old new before.setting z (turn.events ++ more) failed) last-is
      (stores-then old mid new before.setting store.setting (told_turn tick store.setting reply).after turn.events more failed (omega (arith, went.ok.on.grows.later, ap (λ (z : Setting). z.generation) went.ok.on.setting)) (omega arith)
      (subst (λ (z : Setting). Stores old mid before.setting z turn.events false) (sym went.ok.on.setting) (stores-same old mid before.setting turn.after (all_events (turn ∷ [])) turn.events false own went.stores)) went.ok.on.stands led-on stores)

  then-told : AnswersLine mid new store after sink sink_after (told_turn tick store.setting reply ∷ []) →
      AnswersLine old new before after sink sink_after (ticked tick turn ∷ [])
  then-told answers =
      record {
        replies = subst (λ (r : Reply). WritesAll sink sink_after (text (r ∷ []))) went.ok.reply_is answers.replies;
        on = record {
          setting = answers.on.setting ∙ ap (λ (z : Setting). after_events z (steps_behind tick z)) went.ok.on.setting;
          intact = answers.on.intact ∙ went.ok.on.intact;
          place = answers.on.place;
          stands = λ stands. answers.on.stands (went.ok.on.stands stands);
          grows =
              grows-same old.contents new.contents before.setting (told_turn tick store.setting reply).after (ticked tick turn).after (turn.events ++ all_events (told_turn tick store.setting reply ∷ [])) (all_events (ticked tick turn ∷ [])) last-is all-events
              (grows-then old.contents mid.contents new.contents before.setting store.setting (told_turn tick store.setting reply).after turn.events (all_events (told_turn tick store.setting reply ∷ []))
              (subst (λ (z : Setting). GrowsBy old.contents mid.contents before.setting z turn.events) (sym went.ok.on.setting) went.ok.on.grows) answers.on.grows);
        };
        stores =
            stores-same old new before.setting (ticked tick turn).after (turn.events ++ all_events (told_turn tick store.setting reply ∷ [])) (all_events (ticked tick turn ∷ [])) false all-events
            (stores-on (all_events (told_turn tick store.setting reply ∷ [])) false answers.stores);
      }

  -- some of the steps behind the reply
  told-tree : (now : State) → IsTreeOfAnswered (stored store.setting.state) (told_turn tick store.setting reply ∷ []) 1 now → IsTreeOfAnswered (stored before.setting.state) (ticked tick turn ∷ []) 1 now
  told-tree now tree =
      let more = all_events (told_turn tick store.setting reply ∷ []) in
      let behind = tree-then (stored before.setting.state) (stored store.setting.state) now turn.events more led-on (record { count = tree.count; within = tree.within; is = tree.is }) in
      record {
        count = length turn.events + tree.count;
        within = omega (arith, behind.within, ap length all-events);
        is = behind.is ∙ ap (λ (es : List Event). apply_all (stored before.setting.state) (take (length turn.events + tree.count) es)) all-events;
        answered = omega arith;
        no_further = λ more. absurd (omega (arith, more));
      }

  then-stops : (status : Status) → StopsAnswer mid new store.setting sink sink_after (told_turn tick store.setting reply ∷ []) status →
      StopsAnswer old new before.setting sink sink_after (ticked tick turn ∷ []) status
  then-stops status (inl stop) =
      inl (record {
        replies = subst (λ (r : Reply). CutsWriting status sink sink_after (text (r ∷ []))) went.ok.reply_is stop.replies;
        stored = λ write stands c left.
            holds-weaker (λ now. now ≡ stored store.setting.state) (λ now. now ≡ apply_all (stored before.setting.state) (command_events (ticked tick turn ∷ []))) c
            (λ now is. is ∙ led-on ∙ ap (apply_all (stored before.setting.state)) (sym (append-nil turn.events))) (stop.stored write (went.ok.on.stands stands) c left);
        stores = stores-on [] (is_disk_fault status) stop.stores;
      })
  then-stops status (inr stop) =
      inr (record {
        why = stop.why;
        replies = subst (λ (r : Reply). WritesAll sink sink_after (text (r ∷ []))) went.ok.reply_is stop.replies;
        left = λ stands c left.
            holds-weaker (IsTreeOfAnswered (stored store.setting.state) (told_turn tick store.setting reply ∷ []) 1) (IsTreeOfAnswered (stored before.setting.state) (ticked tick turn ∷ []) 1) c told-tree
            (stop.left (went.ok.on.stands stands) c left);
        stores =
            stores-same old new before.setting (ticked tick turn).after (turn.events ++ all_events (told_turn tick store.setting reply ∷ [])) (all_events (ticked tick turn ∷ [])) (is_disk_fault status) all-events
            (stores-on (all_events (told_turn tick store.setting reply ∷ [])) (is_disk_fault status) stop.stores);
      })

-- A line, whose turn is known where the contents of the spaces are told.

-- its turn was answered, or its answer stopped
item-answers : (old mid new : DiskSeen) (spaces left : SpacesSeen) (before store after : Seen) (tick : ℕ) (item : Item) (sink sink_after : SinkSeen) (was now : Bool) (probes probes_told probes_now : ℕ)
    (stored_item : Result Reply Status) (result : Result (Unit {0}) Status) (went : StoresItem old mid spaces left before store item probes probes_told stored_item) →
    probes_now ≤ probes + (answering_line before.setting.state item + costs before.setting.state went.turn.events + costs went.turn.after.state (steps_behind tick went.turn.after)) →
    OnOk result (now ≡ (was || has_refusal (ticked tick went.turn ∷ []))) →
    OnOk result (AnswersLine old new before after sink sink_after (ticked tick went.turn ∷ [])) →
    IfErr result (StopsAnswer old new before.setting sink sink_after (ticked tick went.turn ∷ [])) →
    AnswersItems old new spaces left tick before after sink sink_after (item ∷ []) was now probes probes_now result
item-answers old mid new spaces left before store after tick item sink sink_after was now probes probes_told probes_now stored_item result went asks refused ok err =
    record {
      met = went.fault ∷ [];
      asked = went.asked;
      answered = ticked tick went.turn ∷ [];
      few = omega arith;
      leads = ticked-leads tick before.setting went.turn went.bare.leads;
      told =
          told-alike (λ contents. IsTurnOf contents went.fault before.setting item went.turn) (λ contents. AreTurns contents (went.fault ∷ []) tick before.setting (item ∷ []) (ticked tick went.turn ∷ []) probes probes_now) spaces.contents
          (λ contents of. line-turns contents went.fault tick before.setting item went.turn probes probes_now of went.bare asks) went.told;
      refused = refused;
      ok = ok;
      err = err;
    }

-- no reply was told
pub item-stops : (old new : DiskSeen) (spaces left : SpacesSeen) (before after : Seen) (tick : ℕ) (item : Item) (sink : SinkSeen) (was now : Bool) (probes probes_now : ℕ) (status : Status) →
    StoresItem old new spaces left before after item probes probes_now (Err status) →
    AnswersItems old new spaces left tick before after sink sink (item ∷ []) was now probes probes_now (Err status)
item-stops old new spaces left before after tick item sink was now probes probes_now status went =
    item-answers old new new spaces left before after after tick item sink sink was now probes probes_now probes_now (Err status) (Err status) went (omega (arith, went.asks)) tt tt
    (command-stops old new before after tick went.turn sink status went.bare.own went.stores)

module _ (old mid new : DiskSeen) (spaces left : SpacesSeen) (before store after : Seen) (reply : Reply) (sink sink_after : SinkSeen) (tick : ℕ) (item : Item) (probes probes_told probes_now : ℕ)
    (went : StoresItem old mid spaces left before store item probes probes_told (Ok reply)) where
  line-told : (result : Result (Unit {0}) Status) → OnOk result (AnswersLine mid new store after sink sink_after (told_turn tick store.setting reply ∷ [])) →
      OnOk result (AnswersLine old new before after sink sink_after (ticked tick went.turn ∷ []))
  line-told (Err status) answers = tt
  line-told (Ok done) answers = then-told old mid new before store after went.turn reply sink sink_after tick went.stores went.bare.own went.bare.leads answers

  line-stops-behind : (result : Result (Unit {0}) Status) → IfErr result (StopsAnswer mid new store.setting sink sink_after (told_turn tick store.setting reply ∷ [])) →
      IfErr result (StopsAnswer old new before.setting sink sink_after (ticked tick went.turn ∷ []))
  line-stops-behind (Ok done) stop = tt
  line-stops-behind (Err status) stop = then-stops old mid new before store after went.turn reply sink sink_after tick went.stores went.bare.own went.bare.leads status stop

  -- its reply was told, or stopped
  pub item-told : (was now : Bool) (result : Result (Unit {0}) Status) → OnOk result (now ≡ (was || is_refused reply)) →
      OnOk result (AnswersLine mid new store after sink sink_after (told_turn tick store.setting reply ∷ [])) →
      IfErr result (StopsAnswer mid new store.setting sink sink_after (told_turn tick store.setting reply ∷ [])) →
      probes_now ≤ probes_told + costs store.setting.state (steps_behind tick store.setting) →
      AnswersItems old new spaces left tick before after sink sink_after (item ∷ []) was now probes probes_now result
  item-told was now result told_refused answers stops asks =
      item-answers old mid new spaces left before store after tick item sink sink_after was now probes probes_told probes_now (Ok reply) result went all-asks
      (line-refused tick went.turn reply was now result went.stores.ok.reply_is told_refused) (line-told result answers) (line-stops-behind result stops)
    where
      all-asks : probes_now ≤ probes + (answering_line before.setting.state item + costs before.setting.state went.turn.events + costs went.turn.after.state (steps_behind tick went.turn.after))
      all-asks =
          let behind = subst (λ (z : Setting). probes_now ≤ probes_told + costs z.state (steps_behind tick z)) went.stores.ok.on.setting asks in
          omega (arith, went.asks, behind)

-- A line that is refused by its form asks nothing.
pub form-told : (old new : DiskSeen) (spaces : SpacesSeen) (before after : Seen) (sink sink_after : SinkSeen) (tick : ℕ) (refusal : Refusal) (was now : Bool) (probes probes_now : ℕ) (result : Result (Unit {0}) Status) →
    OnOk result (now ≡ (was || is_refused (Refused refusal))) →
    OnOk result (AnswersLine old new before after sink sink_after (told_turn tick before.setting (Refused refusal) ∷ [])) →
    IfErr result (StopsAnswer old new before.setting sink sink_after (told_turn tick before.setting (Refused refusal) ∷ [])) →
    probes_now ≤ probes + costs before.setting.state (steps_behind tick before.setting) →
    AnswersItems old new spaces spaces tick before after sink sink_after (Err refusal ∷ []) was now probes probes_now result
form-told old new spaces before after sink sink_after tick refusal was now probes probes_now result told_refused answers stops asks =
    record {
      met = None ∷ [];
      asked = record { stay = record { attached = refl; contents = refl; later = omega arith }; count = refl };
      answered = told_turn tick before.setting (Refused refusal) ∷ [];
      few = omega arith;
      leads = ticked-leads tick before.setting (refused_turn nothing_given before.setting refusal) refl;
      told = told spaces.contents;
      refused = told_refused_on result told_refused;
      ok = answers;
      err = stops;
    }
  where
    told : (o : Option Contents) → IfSome o (λ contents. AreTurns contents (None ∷ []) tick before.setting (Err refusal ∷ []) (told_turn tick before.setting (Refused refusal) ∷ []) probes probes_now)
    told None = search rules
    told (Some contents) = record { are = refl; count = refl; askable = (tt, refl); asks = omega (arith, asks) }

    told_refused_on : (result : Result (Unit {0}) Status) → OnOk result (now ≡ (was || is_refused (Refused refusal))) → OnOk result (now ≡ (was || has_refusal (told_turn tick before.setting (Refused refusal) ∷ [])))
    told_refused_on (Ok done) is = is
    told_refused_on (Err status) is = tt

-- nothing is answered
pub none-told : (disk : DiskSeen) → IsLawful disk → (spaces : SpacesSeen) (store : Seen) (sink : SinkSeen) (tick : ℕ) (was : Bool) (probes : ℕ) → Bears disk store →
    AnswersItems disk disk spaces spaces tick store store sink sink [] was was probes probes (Ok tt)
none-told disk lawful spaces store sink tick was probes place =
    record {
      met = [];
      asked = record { stay = record { attached = refl; contents = refl; later = omega arith }; count = refl };
      answered = [];
      few = omega arith;
      leads = refl;
      told = told spaces.contents;
      refused = sym (or-none was);
      ok = record {
        replies = record { written = Appends-nil sink.written; passed = λ none. none; faults = refl };
        on = record { setting = refl; intact = refl; place = place; stands = λ stands. stands; grows = grows-none disk.contents store.setting };
        stores = stores-nothing disk lawful store.setting store.setting [];
      };
      err = tt;
    }
  where
    told : (o : Option Contents) → IfSome o (λ contents. AreTurns contents [] tick store.setting [] [] probes probes)
    told None = search rules
    told (Some contents) = record { are = refl; count = refl; askable = refl; asks = omega arith }
