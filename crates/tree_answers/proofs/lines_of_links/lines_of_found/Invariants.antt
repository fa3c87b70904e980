use Rattle.std.proofs.Common.{◌≡◌, ◌≤◌, ◌+◌, ◌*◌, ◌++◌, filter, length, map}
use Rattle.hac_model.specs.Query.Queries.{terms}
use Rattle.hac_model.specs.Run.Play.{found_line}
use Rattle.hac_model.specs.Tree.Links.{is_item}
use Rattle.file_tree.specs.Answers.{numbers_of}
use Rattle.tree_answers.specs.Told.{is_found_told}
use Rattle.tree_answers.proofs.lines_of_links.lines_of_found.Given as goal

-- the lines so far, and those of the entries to come that the query finds, are all; and the questions for the items among
-- those to come can still be asked
abbrev pub invariant-loop-number : goal.invariant-loop-number
invariant-loop-number g l =
    (l.lines.items ++ map (found_line l.told.linked.now.state) (filter (is_found_told l.told l.query) l.number-iterator.rest.items)
    ≡ map (found_line l.told.linked.now.state) (filter (is_found_told l.told l.query) (numbers_of l.told.linked.now.state.entries))) × (
    l.probes + length (filter (is_item l.told.linked.now.state) l.number-iterator.rest.items) * terms l.query
    ≤ l.fn.probes + length (filter (is_item l.told.linked.now.state) (numbers_of l.told.linked.now.state.entries)) * terms l.query)
