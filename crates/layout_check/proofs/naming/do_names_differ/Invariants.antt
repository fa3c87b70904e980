use Rattle.std.proofs.Common.{◌≡◌}
use Rattle.std.specs.Prelude.{drop}
use Rattle.hac_model.specs.Tree.ValidTest.{do_names_differ}
use Rattle.layout_check.proofs.NamingLemmas.{are_free, is_taken}
use Rattle.layout_check.proofs.naming.do_names_differ.Given as goal

-- those that are left differ from one another and from those seen just where all differ
abbrev pub invariant-loop-entry : goal.invariant-loop-entry
invariant-loop-entry l = are_free (is_taken l.places) (drop l.entry-index l.entries) ≡ do_names_differ l.entries
