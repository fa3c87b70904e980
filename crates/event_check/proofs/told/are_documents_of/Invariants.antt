use Rattle.std.proofs.Common.{◌≡◌, drop}
use Rattle.std.specs.List.{list_all}
use Rattle.hac_model.specs.Tree.Mounting.{is_document_of}
use Rattle.event_check.proofs.told.are_documents_of.Given as goal

-- the numbers are what those that are left are
abbrev pub invariant-loop-number : goal.invariant-loop-number
invariant-loop-number l = list_all (is_document_of l.tree.state l.mount) l.numbers ≡ list_all (is_document_of l.tree.state l.mount) (drop l.number-index l.numbers)
