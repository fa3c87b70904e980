use Rattle.std.proofs.Common.{◌≡◌, ◌+◌, ◌-◌, ◌*◌, ◌/◌, ◌%◌, ◌<◌, ◌++◌, [], ◌∷◌, ℕ, List, length, ap, ◌∙◌, arith}
use Rattle.std.specs.Prelude.{remove}
use Rattle.std.specs.List.{concat}
use Rattle.std.proofs.lemmas.List.{get_or_default, length-set}
use Rattle.std.proofs.lemmas.List.Edits.{remove-append_left}
use Rattle.std.proofs.lemmas.List.Elements.{All-set}
use Rattle.tiered_list.proofs.RunLemmas.{held, held-back, held-end, held-removed, length-concat}
use Rattle.tiered_list.proofs.runs.remove_from.Goals as goal

pub loop-next-init : goal.loop-next-init
loop-next-init c =
    let runs = c.args.runs.now in
    let long : length (concat runs) ≡ length runs * 512 = length-concat runs c.requires.full in
    record {
      numbers = held-end runs (length runs) c.args.number (omega arith);
      full = c.requires.full;
      same = omega arith;
      low = omega arith;
      high = omega arith;
    }

pub loop-next-preserved : goal.loop-next-preserved
loop-next-preserved c =
    let runs = c.loop-next.runs in
    let next : ℕ = c.loop-next.next - 1 in
    let run = c.push_back-carried.new.self in
    let invariant = c.loop-next.invariant in
    let inside : next < length runs = omega arith in
    let one : next + 1 ≡ c.loop-next.next = omega arith in
    let all : length run ≡ 512 = c.push_back-carried.ensures.length ∙ invariant.full next c.index-runs-next.result inside in
    record {
      numbers =
          held-back runs next c.loop-next.carried c.push_back-carried.result run inside
          (c.push_back-carried.ensures.numbers ∙ ap (λ (r : List ℕ). r ++ c.loop-next.carried ∷ []) (get_or_default runs next c.index-runs-next.result [] inside))
          ∙ ap (λ (k : ℕ). held k c.loop-next.carried runs) one
          ∙ invariant.numbers;
      full = All-set (λ (r : List ℕ). length r ≡ 512) runs next run all invariant.full;
      same = length-set runs next run ∙ invariant.same;
      low = omega arith;
      high = omega arith;
    }

pub returns-clause-numbers : goal.returns-clause-numbers
returns-clause-numbers c =
    let runs = c.loop-next.runs in
    let place : ℕ = c.args.place in
    let run = c.remove.new.self in
    let invariant = c.loop-next.invariant in
    let inside : place / 512 < length runs = omega arith in
    let low : place % 512 < 512 = omega arith in
    let whole : place / 512 * 512 + place % 512 ≡ place = omega arith in
    let first : place / 512 + 1 ≡ c.loop-next.next = omega arith in
    held-removed runs (place / 512) (place % 512) c.loop-next.carried run invariant.full inside low
    (c.remove.ensures.numbers ∙ ap (λ (r : List ℕ). remove r (place % 512) ++ c.loop-next.carried ∷ []) (get_or_default runs (place / 512) c.index-runs-first.result [] inside))
    ∙ ap (λ (k : ℕ). remove (held (place / 512 + 1) c.loop-next.carried runs) k) whole
    ∙ ap (λ (k : ℕ). remove (held k c.loop-next.carried runs) place) first
    ∙ ap (λ (ns : List ℕ). remove ns place) invariant.numbers
    ∙ remove-append_left (concat c.args.runs.now) (c.args.number ∷ []) place c.requires.place
