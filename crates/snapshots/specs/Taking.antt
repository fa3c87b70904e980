-- What is stored of a state, number by number.
use Rattle.std.specs.Prelude.{ℕ, not, List, [], filter, map, option_to_list}
use Rattle.hac_model.specs.Payload.States.{listed_document, stored_entry}
use Rattle.hac_model.specs.Tree.{entry_at, is_document}
use Rattle.hac_model.specs.Tree.Links.{permanent_at, prohibited_at}
use Rattle.hac_model.specs.Tree.Listing.{children}
use Rattle.hac_model.specs.declared.marks.Kind.{Kind}
use Rattle.hac_model.specs.declared.marks.Kind.TheVariants.{Permanent, Prohibited}
use Rattle.hac_model.specs.declared.snapshots.Document.{Document}
use Rattle.hac_model.specs.declared.snapshots.StoredEntry.{StoredEntry}
use Rattle.hac_model.specs.declared.states.State.{State}

-- what is stored of a number: its entry, if that is no document
abbrev pub stored_at : State → ℕ → List StoredEntry
stored_at s number =
    map (stored_entry s) (filter (λ entry. not (is_document entry.body)) (option_to_list (entry_at s.entries number)))

-- the document of a number, as it is listed, if one has it
abbrev pub document_at : State → ℕ → List Document
document_at s number =
    map listed_document (filter (λ entry. is_document entry.body) (option_to_list (entry_at s.entries number)))

-- the documents that are listed with an entry
abbrev pub documents_of : State → ℕ → List Document
documents_of s number = map listed_document (filter (λ child. is_document child.body) (children s number))

-- the items and directories that users marked in a directory
abbrev pub marked_at : State → ℕ → Kind → List ℕ
marked_at s dir Permanent = permanent_at s dir
marked_at s dir Prohibited = prohibited_at s dir
marked_at s dir other = []
