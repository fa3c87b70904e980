-- A document that is added to others.
use Rattle.std.proofs.Common.{◌≡◌, ℕ, Bool, true, false, List, [], ◌∷◌, None, Some, refl, ap, rules}
use Rattle.std.specs.Prelude.{◌||◌, cond, is_some, not, Option}
use Rattle.std.specs.BTreeMap.{insert_entry, is_at}
use Rattle.std.specs.Cmp.Lexicographic.{slice_cmp}
use Rattle.std.specs.Map.{lookup}
use Rattle.std.specs.Ordering.{nat_cmp}
use Rattle.std.specs.Str.{bytes_eq}
use Rattle.std.proofs.lemmas.Map.Text.{is_eq-slice_cmp}
use Rattle.hac_model.specs.Spaces.Answering.{text_at}
use Rattle.hac_model.specs.Spaces.Catalogue.{Document, has_name, with_document}
use Rattle.sem_mounts.specs.Reading.{Adds}

-- a document has the name where the map has a value at it
pub has_name-lookup : (name : List ℕ) (documents : List Document) →
    has_name documents name ≡ is_some (lookup (is_at (slice_cmp nat_cmp name)) documents)
has_name-lookup name [] = refl
has_name-lookup name (document ∷ documents) =
    rw (is_eq-slice_cmp name document.0) (here (bytes_eq name document.0) (has_name-lookup name
    documents)) where
      here : (b : Bool) → has_name documents name ≡ is_some (lookup (is_at (slice_cmp nat_cmp name))
          documents) →
          (b || has_name documents name) ≡ is_some (cond b (Some document.1) (lookup (is_at
          (slice_cmp nat_cmp name)) documents))
      here true later = refl
      here false later = later

-- the map has the text of the document of a name
pub lookup-text_at : (name : List ℕ) (documents : List Document) →
    lookup (is_at (slice_cmp nat_cmp name)) documents ≡ text_at documents name
lookup-text_at name [] = refl
lookup-text_at name (document ∷ documents) =
    rw (is_eq-slice_cmp name document.0) (ap (λ later. cond (bytes_eq name document.0) (Some
    document.1) later) (lookup-text_at name documents))

-- a document is added where there was no value at its name
pub adds-new : (documents : List Document) (name text : List ℕ) (old : Option (List ℕ)) (is_new :
    Bool) →
    old ≡ lookup (is_at (slice_cmp nat_cmp name)) documents → is_some old ≡ not is_new →
    Adds (with_document documents (name, text)) (insert_entry (slice_cmp nat_cmp) documents name
    text) is_new
adds-new documents name text None true was says = rw (has_name-lookup name documents, ← was) refl
adds-new documents name text (Some other) false was says = rw (
  has_name-lookup name documents,
  ← was,
) refl
adds-new documents name text None false was says = absurd (search (rules, says))
adds-new documents name text (Some other) true was says = absurd (search (rules, says))
