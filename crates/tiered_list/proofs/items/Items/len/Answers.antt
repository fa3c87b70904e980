use Rattle.std.proofs.Common.{◌+◌, ℕ, length, ap, sym, ◌∙◌, length-append}
use Rattle.std.specs.List.{concat}
use Rattle.tiered_list.proofs.RunLemmas.{length-concat}
use Rattle.tiered_list.proofs.items.Items.len.Goals as goal

pub returns : goal.returns
returns c =
    let runs = c.self.inside.runs.now in
    let tail = c.self.inside.tail.now in
    ap (λ (k : ℕ). k + length tail) (sym (length-concat runs c.self.invariant.0))
    ∙ sym (length-append (concat runs) tail) ∙ ap length c.self.view_is
