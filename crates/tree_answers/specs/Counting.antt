-- How many links there are.
use Rattle.std.specs.Prelude.{ℕ, length, sum_by}
use Rattle.hac_model.specs.declared.marks.Kind.{Kind}
use Rattle.hac_model.specs.declared.states.State.{State}
use Rattle.file_tree.specs.Answers.{numbers_of}
use Rattle.link_kinds.specs.Kinds.{items_of}
use Rattle.link_kinds.specs.Seen.{Known, lists_in}

-- how many links of a kind there are, over the entries of a state
abbrev pub link_count : Kind → State → Known → ℕ
link_count kind s links = sum_by (λ dir. length (items_of kind (lists_in links dir))) (numbers_of s.entries)
