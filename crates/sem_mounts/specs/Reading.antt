-- What the calls answer that read a catalogue.
use Rattle.std.specs.Prelude.{◌≡◌, ⊤, ℕ, Bool, if◌then◌else◌, List, Option, Some, None, Result, Err}
use Rattle.std.specs.Option.{option_and_then}
use Rattle.hac_model.specs.Run.Answers.{Gives}
use Rattle.hac_model.specs.Spaces.Catalogue.{Document, document_named, with_document}
use Rattle.sem_mounts.specs.declared.catalogues.CatalogueFault.{CatalogueFault}
use Rattle.sem_mounts.specs.declared.catalogues.CatalogueFault.TheVariants.{Bad, Memory}
use Rattle.sem_mounts.specs.declared.faults.AttachFault.{AttachFault}
use Rattle.sem_mounts.specs.declared.faults.AttachFault.TheVariants as attach

-- the fault is the bad line that there is, unless memory ran out
abbrev pub IsCatalogueFault : CatalogueFault → Result (List Document) ℕ → Type 0
IsCatalogueFault (Bad line) wanted = wanted ≡ Err line
IsCatalogueFault Memory wanted = ⊤

-- the call gave the documents that are wanted, or the bad line, unless memory ran out
abbrev pub ReadsCatalogue : Result (List Document) CatalogueFault → Result (List Document) ℕ →
    Type 0
ReadsCatalogue result wanted = Gives IsCatalogueFault result wanted

-- the documents are these with what was to be added, or they can't take it
abbrev pub Adds : Option (List Document) → List Document → Bool → Type 0
Adds wanted documents added = wanted ≡ (if added then Some documents else None)

-- the documents with that of a name and of the bytes that spell its text
abbrev pub with_spelled : List Document → List ℕ → List ℕ → Option (List Document)
with_spelled documents name bytes =
    option_and_then (with_document documents) (document_named (name, bytes))

-- why a space whose file is no catalogue isn't attached
abbrev pub attach_fault : CatalogueFault → AttachFault
attach_fault (Bad line) = attach.BadCatalogue line
attach_fault Memory = attach.Memory
