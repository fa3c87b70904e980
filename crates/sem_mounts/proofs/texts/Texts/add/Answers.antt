-- The name was free where the insertion gives nothing back, and each name is a name.
use Rattle.std.proofs.Common.{IsTrue}
use Rattle.std.specs.Cmp.Lexicographic.{slice_cmp}
use Rattle.std.specs.Ordering.{nat_cmp}
use Rattle.std.proofs.lemmas.Map.Views.{All-keys-insert_entry}
use Rattle.hac_model.specs.Tree.Names.{is_name}
use Rattle.sem_mounts.proofs.AddLemmas.{adds-new}
use Rattle.sem_mounts.proofs.texts.Texts.add.Goals as goal

pub returns : goal.returns
returns c =
    let inserted = c.in_ok-insert.ensures in
    rw (← c.self.view_is, inserted.entries) (adds-new c.self.inside.texts.entries c.args.name
    c.args.text c.in_ok-insert.field-0 c.is_none.result inserted.old c.is_none.ensures)

pub invariant_of-self-2 : goal.invariant_of-self-2
invariant_of-self-2 c =
    rw c.in_ok-insert.ensures.entries (All-keys-insert_entry (slice_cmp nat_cmp) c.args.name
    c.args.text (λ name. IsTrue (is_name name)) c.self.inside.texts.entries c.self.invariant
    c.requires)
