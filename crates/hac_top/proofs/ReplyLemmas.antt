-- The replies to some turns that were written, whole and in part.
use Rattle.std.proofs.Common.{◌≡◌, ℕ, ◌-◌, ◌<◌, ◌≤◌, true, false, List, [], ◌∷◌, ◌++◌, length, take, drop, refl, ap, sym, ◌∙◌, arith, append_assoc, length-append, append-nil, length-drop, subst, inl, inr, rules, Option}
use Rattle.std.specs.Prelude.{◌⊎◌, codes, nat_le, Result, Ok, Err, OnErr}
use Rattle.std.specs.List.{flat_map}
use Rattle.std.specs.Io.KnownBytes.{Appends, Keeps}
use Rattle.std.proofs.Math.Seq.{take-append_seam, take-length, drop-append_seam}
use Rattle.std.proofs.lemmas.Grind.{common_steps}
use Rattle.std.proofs.lemmas.List.{take-append-drop, take_all}
use Rattle.hac_outside.specs.Seen.{SinkSeen, Writes, WritesSome}
use Rattle.hac_model.specs.declared.replies.Reply.{Reply}
use Rattle.hac_model.specs.declared.replies.Reply.TheVariants as reply
use Rattle.hac_model.specs.Run.Play.{Turn, turn_text, turns, turns_text}
use Rattle.hac_model.specs.Script.Printed.{ended, refusal_text, reply_text}
use Rattle.hac_top.specs.Replies.{IsBeginning, WritesReplies, last_written}
use Rattle.hac_store.specs.Held.{held}
use Rattle.hac_top.specs.Run.{AppendsSome}
use Rattle.std.proofs.KnownBytes.{Appends-kept, Appends-trans}

-- all bytes were written, and the flush failed or not
pub some-flushed : {E : Type 0} (result : Result (Unit {0}) E) (a b c : SinkSeen) (bytes : List ℕ) → Writes a b bytes → Keeps b.written c.written → c.held_back ≤ b.held_back → OnErr result (WritesSome a c bytes)
some-flushed (Ok done) a b c bytes writes keeps less = search rules
some-flushed (Err fault) a b c bytes writes keeps less =
    record {
      count = length bytes;
      within = omega arith;
      front = subst (λ (xs : List ℕ). Writes a c xs) (sym (take-length bytes)) (record { written = Appends-kept a.written b.written c.written bytes writes.written keeps; held = omega (arith, writes.held, less) });
    }

pub some-all : (a b : Option (List ℕ)) (bytes : List ℕ) → Appends a b bytes → AppendsSome a b bytes
some-all a b bytes all = (length bytes, subst (λ (xs : List ℕ). Appends a b xs) (sym (take-length bytes)) all)

pub text-append : (xs ys : List Turn) → turns_text (xs ++ ys) ≡ turns_text xs ++ turns_text ys
text-append [] ys = refl
text-append (x ∷ xs) ys = ap (λ (more : List ℕ). turn_text x ++ more) (text-append xs ys) ∙ sym (append_assoc (turn_text x) (turns_text xs) (turns_text ys))

-- the first `done` turns are those that were answered
pub front-turns : (all done rest : List Turn) → all ≡ done ++ rest → take (length done) all ≡ done
front-turns all done rest is = ap (λ (ts : List Turn). take (length done) ts) is ∙ take-append_seam done rest

-- a reply has a byte
text-some : (reply : Reply) → 0 < length (reply_text reply)
text-some (reply.Lines lines) = omega (arith, length-append (flat_map ended lines) (ended (codes "ok")), length-append (codes "ok") (10 ∷ []))
text-some (reply.Refused refusal) = omega (arith, length-append (codes "no " ++ refusal_text refusal) (10 ∷ []))

pub begin-none : (turns : List Turn) → IsBeginning [] turns
begin-none [] = refl
begin-none (turn ∷ turns) = (turn_text turn, text-some turn.reply, refl)

-- replies that were written whole, with nothing behind them
abbrev pub replies-whole : (all done rest : List Turn) (before after : SinkSeen) → all ≡ done ++ rest → Appends before.written after.written (turns_text done) →
    (before.held_back ≡ 0 → after.held_back ≤ length (last_written [] done)) → WritesReplies all before after
replies-whole all done rest before after is written held =
    record {
      done = length done;
      within = omega (arith, ap length is, length-append done rest);
      cut = [];
      short = begin-none (drop (length done) all);
      written = subst (λ (xs : List ℕ). Appends before.written after.written xs) (sym (append-nil (turns_text (take (length done) all)) ∙ ap (λ (ts : List Turn). turns_text ts) (front-turns all done rest is))) written;
      held = λ none. subst (λ (ts : List Turn). after.held_back ≤ length (last_written [] ts)) (sym (front-turns all done rest is)) (held none);
    }

no-less : (cut : List ℕ) (turns : List Turn) → length cut ≤ length (last_written cut turns)
no-less [] turns = omega arith
no-less (byte ∷ bytes) turns = omega arith

last-turn : (done : List Turn) (turn : Turn) → drop (length (done ++ turn ∷ []) - 1) (done ++ turn ∷ []) ≡ turn ∷ []
last-turn done turn =
    let count : length (done ++ turn ∷ []) - 1 ≡ length done = omega (arith, length-append done (turn ∷ [])) in
    ap (λ (n : ℕ). drop n (done ++ turn ∷ [])) count ∙ drop-append_seam done (turn ∷ [])

-- a run that stops while it writes what comes behind the answered turns
pub record StopsWithin (all done now : List Turn) (before after : SinkSeen) : Type 0 where
  pub replies : WritesReplies all before after
  pub front : (k : ℕ) × (take replies.done all ≡ done ++ take k now)
  -- none of them was written whole, or all, which is one at most
  pub place : (replies.done ≡ length done) ⊎ (replies.done ≡ length (done ++ now))

begins : (cut : List ℕ) (turns rest : List Turn) (turn : Turn) (more : List ℕ) → turns ≡ turn ∷ rest → 0 < length more → turn_text turn ≡ cut ++ more → IsBeginning cut turns
begins cut turns rest turn more is some text_is = subst (λ (ts : List Turn). IsBeginning cut ts) (sym is) (more, some, text_is)

-- the last of what was written is no shorter than the text of one turn
last-text : (done now : List Turn) → length now ≤ 1 → length (turns_text now) ≤ length (last_written [] (done ++ now))
last-text done [] few = omega arith
last-text done (turn ∷ []) few = omega (arith, ap (λ (ts : List Turn). length (turns_text ts)) (last-turn done turn))
last-text done (turn ∷ other ∷ now) few = absurd (omega (arith, few))

-- some bytes of one reply were written, and not all
cut-within : (all done now rest : List Turn) (before mid after : SinkSeen) (count : ℕ) → all ≡ done ++ (now ++ rest) → length now ≤ 1 → Appends before.written mid.written (turns_text done) →
    (before.held_back ≡ 0 → mid.held_back ≡ 0) → count < length (turns_text now) → Writes mid after (take count (turns_text now)) → StopsWithin all done now before after
cut-within all done [] rest before mid after count is few written passed fewer writes = absurd (omega (arith, fewer))
cut-within all done (turn ∷ other ∷ now) rest before mid after count is few written passed fewer writes = absurd (omega (arith, few))
cut-within all done (turn ∷ []) rest before mid after count is few written passed fewer writes =
    let text_is : turns_text (turn ∷ []) ≡ turn_text turn = append-nil (turn_text turn) in
    let rest_is : drop (length done) all ≡ turn ∷ rest = ap (λ (ts : List Turn). drop (length done) ts) is ∙ drop-append_seam done (turn ∷ rest) in
    record {
      replies = record {
        done = length done;
        within = omega (arith, ap length is, length-append done (turn ∷ rest));
        cut = take count (turns_text (turn ∷ []));
        short =
            begins (take count (turns_text (turn ∷ []))) (drop (length done) all) rest turn (drop count (turns_text (turn ∷ []))) rest_is (omega (arith, length-drop count (turns_text (turn ∷ [])), fewer))
            (sym text_is ∙ sym (take-append-drop count (turns_text (turn ∷ []))));
        written =
            subst (λ (ts : List Turn). Appends before.written after.written (turns_text ts ++ take count (turns_text (turn ∷ [])))) (sym (front-turns all done (turn ∷ rest) is))
            (Appends-trans before.written mid.written after.written (turns_text done) (take count (turns_text (turn ∷ []))) written writes.written);
        held = λ none. omega (arith, passed none, writes.held, no-less (take count (turns_text (turn ∷ []))) (take (length done) all));
      };
      front = (0, front-turns all done (turn ∷ rest) is ∙ sym (append-nil done));
      place = inl refl;
    }

pub cuts-replies : (all done now rest : List Turn) (before mid after : SinkSeen) (count : ℕ) → all ≡ done ++ (now ++ rest) → length now ≤ 1 → Appends before.written mid.written (turns_text done) →
    (before.held_back ≡ 0 → mid.held_back ≡ 0) → Writes mid after (take count (turns_text now)) → StopsWithin all done now before after
cuts-replies all done now rest before mid after count is few written passed writes =
    elim (nat_le (length (turns_text now)) count) as (λ b. nat_le (length (turns_text now)) count ≡ b → StopsWithin all done now before after) [
      | true ↦ (λ test.
          let whole_text : take count (turns_text now) ≡ turns_text now = take_all count (turns_text now) (grind (arith, common_steps, test)) in
          let all_is : all ≡ (done ++ now) ++ rest = is ∙ sym (append_assoc done now rest) in
          let all_written : Appends before.written after.written (turns_text (done ++ now)) =
          subst (λ (xs : List ℕ). Appends before.written after.written xs) (ap (λ (xs : List ℕ). turns_text done ++ xs) whole_text ∙ sym (text-append done now))
          (Appends-trans before.written mid.written after.written (turns_text done) (take count (turns_text now)) written writes.written) in
          record {
            replies = replies-whole all (done ++ now) rest before after all_is all_written (λ none. omega (arith, passed none, writes.held, ap length whole_text, last-text done now few));
            front = (length now, front-turns all (done ++ now) rest all_is ∙ ap (λ (ts : List Turn). done ++ ts) (sym (take-length now)));
            place = inr refl;
          })
      | false ↦ (λ test. cut-within all done now rest before mid after count is few written passed (grind (arith, common_steps, test)) writes)
    ] refl
