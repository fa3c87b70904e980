-- The map has the text of the name.
use Rattle.std.proofs.Common.{Some, ◌∙◌, ap, sym}
use Rattle.std.specs.Option.{option_copied}
use Rattle.sem_mounts.proofs.AddLemmas.{lookup-text_at}
use Rattle.sem_mounts.proofs.texts.Texts.text.Goals as goal

pub returns-in_ok-from_slice-in-Some : goal.returns-in_ok-from_slice-in-Some
returns-in_ok-from_slice-in-Some c =
    ap Some (c.in_ok-from_slice-in-Some.ensures.items ∙ c.as_slice.ensures)
    ∙ sym (ap option_copied c.in-Some.is)
    ∙ c.get.ensures.value
    ∙ rw (← c.self.view_is) (lookup-text_at c.args.name.now c.self.inside.texts.entries)

pub returns-in-None : goal.returns-in-None
returns-in-None c =
    sym (ap option_copied c.in-None.is)
    ∙ c.get.ensures.value
    ∙ rw (← c.self.view_is) (lookup-text_at c.args.name.now c.self.inside.texts.entries)
