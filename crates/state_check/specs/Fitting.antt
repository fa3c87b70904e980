-- What entries hold beside what shapes the tree.
use Rattle.std.specs.Prelude.{Bool, ◌&&◌}
use Rattle.std.specs.List.{list_all}
use Rattle.hac_model.specs.Tree.Limits.{are_answers_few}
use Rattle.hac_model.specs.Tree.ValidTest.{asks_well, keeps_well}
use Rattle.hac_model.specs.declared.states.State.{State}

-- queries, marks and kept answers are sound
abbrev pub do_bodies_fit : State → Bool
do_bodies_fit s =
    list_all (λ entry. asks_well s entry.body) s.entries
    && list_all (λ entry. keeps_well s entry.number entry.body) s.entries
    && are_answers_few s.entries
