use Rattle.std.proofs.Common.{◌≡◌, ◌+◌, ◌*◌, ◌/◌, ◌%◌, ◌<◌, ◌++◌, [], ℕ, List, length, get_or, ap, sym, ◌∙◌, arith, length-append}
use Rattle.std.specs.List.{concat}
use Rattle.std.proofs.lemmas.List.{get_or-append_right, get_or_default}
use Rattle.tiered_list.proofs.RunLemmas.{at-run, length-concat}
use Rattle.tiered_list.proofs.items.Items.at.Goals as goal

pub number_at-requires : goal.number_at-requires
number_at-requires c =
    let runs = c.self.inside.runs.now in
    let tail = c.self.inside.tail.now in
    let front : length (concat runs) ≡ length runs * 512 = length-concat runs c.self.invariant.0 in
    let all : length (concat runs) + length tail ≡ length c.args.self.now = sym (length-append (concat runs) tail) ∙ ap length c.self.view_is in
    omega arith

pub returns-then-run-self : goal.returns-then-run-self
returns-then-run-self c =
    let runs = c.self.inside.runs.now in
    let tail = c.self.inside.tail.now in
    let place : ℕ = c.args.place in
    let low : place % 512 < 512 = omega arith in
    let whole : place / 512 * 512 + place % 512 ≡ place = omega arith in
    c.at.ensures
    ∙ ap (λ (run : List ℕ). get_or run (place % 512) 0) (get_or_default runs (place / 512) c.index-self-run.result [] c.if-run-self.true)
    ∙ sym (at-run runs tail (place / 512) (place % 512) c.self.invariant.0 c.if-run-self.true low)
    ∙ ap (λ (k : ℕ). get_or (concat runs ++ tail) k 0) whole
    ∙ ap (λ (ns : List ℕ). get_or ns place 0) c.self.view_is

pub returns-else-run-self : goal.returns-else-run-self
returns-else-run-self c =
    let runs = c.self.inside.runs.now in
    let tail = c.self.inside.tail.now in
    let place : ℕ = c.args.place in
    let front : length (concat runs) ≡ length runs * 512 = length-concat runs c.self.invariant.0 in
    let all : length (concat runs) + length tail ≡ length c.args.self.now = sym (length-append (concat runs) tail) ∙ ap length c.self.view_is in
    c.number_at.ensures
    ∙ sym (get_or-append_right (concat runs) tail (length runs * 512) place 0 front (omega arith))
    ∙ ap (λ (ns : List ℕ). get_or ns place 0) c.self.view_is
