use Rattle.std.proofs.Common.{◌≡◌, ◌++◌, List, ℕ, ap, ◌∙◌}
use Rattle.tree_answers.proofs.lines_of_counts.line_of_counts.Goals as goal

-- one row more
more : {new before told : List ℕ} (added : List ℕ) → new ≡ before ++ added → before ≡ told → new ≡ told ++ added
more added grows same = grows ∙ ap (λ xs. xs ++ added) same

pub returns : goal.returns
returns c = c.new.ensures ∙ more _ c.in_ok-push_count-11.ensures (more _ c.in_ok-push_count-10.ensures (more _ c.in_ok-push_count-9.ensures (more _ c.in_ok-push_count-8.ensures (more _ c.in_ok-push_count-7.ensures (more _ c.in_ok-push_count-6.ensures (more _ c.in_ok-push_count-5.ensures (more _ c.in_ok-push_count-4.ensures (more _ c.in_ok-push_count-3.ensures (more _ c.in_ok-push_count-2.ensures (more _ c.in_ok-push_count.ensures c.in_ok-line.ensures.items))))))))))
