use Rattle.std.proofs.Common.{◌≡◌, ◌+◌, ◌*◌, ◌/◌, ◌%◌, ◌<◌, [], ◌∷◌, ℕ, List, length, ap, ◌∙◌, arith}
use Rattle.std.specs.Prelude.{insert}
use Rattle.std.specs.List.{concat}
use Rattle.std.proofs.lemmas.List.{get_or_default, length-set}
use Rattle.std.proofs.lemmas.List.Elements.{All-set}
use Rattle.tiered_list.proofs.RunLemmas.{held-forward, held-inserted, length-concat}
use Rattle.tiered_list.proofs.runs.insert_into.Goals as goal

pub bounds-runs-first : goal.bounds-runs-first
bounds-runs-first c =
    let long : length (concat c.args.runs.now) ≡ length c.args.runs.now * 512 = length-concat c.args.runs.now c.requires.full in
    omega arith

pub insert-carried-requires : goal.insert-carried-requires
insert-carried-requires c =
    let long : length (concat c.args.runs.now) ≡ length c.args.runs.now * 512 = length-concat c.args.runs.now c.requires.full in
    let run = c.requires.full (c.args.place / 512) c.index-runs-first.result (omega arith) in
    omega arith

pub loop-next-init : goal.loop-next-init
loop-next-init c =
    let runs = c.args.runs.now in
    let place : ℕ = c.args.place in
    let run = c.insert-carried.new.self in
    let long : length (concat runs) ≡ length runs * 512 = length-concat runs c.requires.full in
    let inside : place / 512 < length runs = omega arith in
    let low : place % 512 < 512 = omega arith in
    let whole : place / 512 * 512 + place % 512 ≡ place = omega arith in
    let all : length run ≡ 512 = c.insert-carried.ensures.length ∙ c.requires.full (place / 512) c.index-runs-first.result inside in
    record {
      numbers =
          held-inserted runs (place / 512) (place % 512) c.args.number c.insert-carried.result run c.requires.full inside low
          (c.insert-carried.ensures.numbers ∙ ap (λ (r : List ℕ). insert r (place % 512) c.args.number) (get_or_default runs (place / 512) c.index-runs-first.result [] inside))
          ∙ ap (λ (k : ℕ). insert (concat runs) k c.args.number) whole;
      full = All-set (λ (r : List ℕ). length r ≡ 512) runs (place / 512) run all c.requires.full;
      same = length-set runs (place / 512) run;
    }

pub loop-next-preserved : goal.loop-next-preserved
loop-next-preserved c =
    let runs = c.loop-next.runs in
    let next : ℕ = c.loop-next.next in
    let run = c.push_front-carried.new.self in
    let inside : next < length runs = omega arith in
    let all : length run ≡ 512 = c.push_front-carried.ensures.length ∙ c.loop-next.invariant.full next c.index-runs-next.result inside in
    record {
      numbers =
          held-forward runs next c.loop-next.carried c.push_front-carried.result run inside
          (c.push_front-carried.ensures.numbers ∙ ap (λ (r : List ℕ). c.loop-next.carried ∷ r) (get_or_default runs next c.index-runs-next.result [] inside))
          ∙ c.loop-next.invariant.numbers;
      full = All-set (λ (r : List ℕ). length r ≡ 512) runs next run all c.loop-next.invariant.full;
      same = length-set runs next run ∙ c.loop-next.invariant.same;
    }
