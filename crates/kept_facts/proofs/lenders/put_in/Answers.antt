use Rattle.std.proofs.Common.{ℕ, List, ap, sym, ◌∙◌}
use Rattle.std.specs.Prelude.{nat_le}
use Rattle.std.specs.List.{insert, prefix_len}
use Rattle.kept_facts.proofs.LenderLemmas.{put_in-place}
use Rattle.kept_facts.proofs.lenders.put_in.Goals as goal

pub returns : goal.returns
returns c =
    let dirs = c.args.dirs.now.items in
    c.in_ok-insert.ensures.items
    ∙ ap (λ (place : ℕ). insert dirs place c.args.dir) (c.place_of-place.ensures.place ∙ ap (λ (numbers : List ℕ). prefix_len (λ other. nat_le other c.args.dir) numbers) c.as_slice.ensures.value)
    ∙ sym (put_in-place c.args.dir dirs)
