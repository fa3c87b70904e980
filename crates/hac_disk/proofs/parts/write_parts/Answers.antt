use Rattle.std.proofs.Common.{◌≡◌, ℕ, ◌+◌, ◌-◌, List, ◌++◌, length, sym, ◌∙◌, ap, arith, length-append, replicate}
use Rattle.std.proofs.lemmas.List.{length-replicate}
use Rattle.hac_disk.proofs.PartLemmas.{overlaid-behind}
use Rattle.hac_disk.proofs.parts.write_parts.Goals as goal

pub returns-then-at-tail_at-clause-written : goal.returns-then-at-tail_at-clause-written
returns-then-at-tail_at-clause-written c _ =
    let head = c.args.head.now.items in
    let tail = c.args.tail.now.items in
    let gap = c.args.gap in
    let before : length (head ++ replicate gap 0) ≡ length head + gap = omega (arith, length-append head (replicate gap 0), length-replicate {A = ℕ} gap 0) in
    ap (λ (l : List ℕ). head ++ replicate gap 0 ++ l) c.overlay.ensures.items
    ∙ sym (overlaid-behind (head ++ replicate gap 0) tail c.args.bytes.now c.args.at (c.args.at - (c.len.result + gap)) (omega (arith, before)))
