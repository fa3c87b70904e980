-- How the tail of a list keeps places for more.
use Rattle.std.specs.Prelude.{◌-◌, ◌≤◌, length, take}
use Rattle.tiered_list.specs.Listed.{Listed}
use Rattle.tiered_list.specs.declared.tail.Tail.TheInside.{Inside}

abbrev pub counted : Inside → Listed
counted tail = record { items = take tail.count tail.numbers.items; spare = length tail.numbers.items - tail.count }

-- as many numbers are there as are counted
abbrev pub HasCount : Inside → Type 0
HasCount tail = tail.count ≤ length tail.numbers.items
