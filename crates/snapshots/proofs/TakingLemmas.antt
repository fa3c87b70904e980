-- What is stored of a state is told number by number, and by what is looked up of each.
use Rattle.std.proofs.Common.{◌≡◌, ℕ, Bool, true, false, cond, List, [], ◌∷◌, ◌++◌, map, flat_map, refl, ap, ◌∙◌}
use Rattle.std.specs.Prelude.{not, filter, Option, Some, None, is_some, option_to_list}
use Rattle.std.specs.List.{AllByRecursion}
use Rattle.std.specs.Option.{option_map, option_map_or}
use Rattle.hac_model.specs.Payload.States.{listed_document, stored_entry}
use Rattle.hac_model.specs.Tree.Listing.{children}
use Rattle.hac_model.specs.Tree.{entry_at, is_document, is_document_at}
use Rattle.hac_model.specs.Tree.Valid.{NumbersRise}
use Rattle.hac_model.specs.declared.snapshots.StoredEntry.{StoredEntry}
use Rattle.hac_model.specs.declared.states.Entry.{Entry}
use Rattle.hac_model.specs.declared.states.State.{State}
use Rattle.hac_model.proofs.TreeLemmas.{all-entries, entry_at-number}
use Rattle.file_tree.specs.Answers.{numbers_of}
use Rattle.file_tree.proofs.OrderLemmas.{children-found}
use Rattle.snapshots.specs.Taking.{document_at, documents_of, stored_at}
use Rattle.hac_model.proofs.ChangeLemmas.{all-weaker}

-- ---- all entries

-- what is made of entries that pass a test is told by their numbers, where each entry is found by its own
told : {A : Type 0} (f : Entry → A) (test : Entry → Bool) (s : State) (es : List Entry)
    → AllByRecursion (λ e. entry_at s.entries e.number ≡ Some e) es
    → flat_map (λ n. map f (filter test (option_to_list (entry_at s.entries n)))) (numbers_of es) ≡ map f (filter test es)
told f test s [] found = refl
told f test s (e ∷ es) found =
    (λ i. map f (filter test (option_to_list (found.0 i))) ++ told f test s es found.1 i) ∙ first (test e)
  where
    first : (b : Bool) → map f (cond b (e ∷ []) []) ++ map f (filter test es)
        ≡ map f (cond b (e ∷ filter test es) (filter test es))
    first true = refl
    first false = refl

-- what is stored of the numbers of the entries is what is stored of the entries
pub stored-all : (s : State) → NumbersRise 0 s.entries s.next
    → flat_map (stored_at s) (numbers_of s.entries)
    ≡ map (stored_entry s) (filter (λ entry. not (is_document entry.body)) s.entries)
stored-all s h =
    told (stored_entry s) (λ entry. not (is_document entry.body)) s s.entries
    (all-entries (λ e. entry_at s.entries e.number ≡ Some e) 0 s.entries s.next h (λ e found. found))

-- the documents of a directory are told by the numbers of what is in it
pub documents-told : (s : State) (dir : ℕ) → NumbersRise 0 s.entries s.next
    → flat_map (document_at s) (numbers_of (children s dir)) ≡ documents_of s dir
documents-told s dir h =
    told listed_document (λ entry. is_document entry.body) s (children s dir)
    (all-weaker (λ e. (entry_at s.entries e.number ≡ Some e) × (e.parent ≡ dir)) (λ e. entry_at s.entries e.number ≡ Some e)
    (children s dir) (λ e found. found.0) (children-found s dir h))

-- ---- one number

-- what is stored of an entry, if there is one and it is no document
abbrev plain : State → Option Entry → List StoredEntry
plain s o = map (stored_entry s) (filter (λ entry. not (is_document entry.body)) (option_to_list o))

-- what is stored of an entry that is no document
pub stored-one : (s : State) (n : ℕ) (stored : StoredEntry) → is_document_at s.entries n ≡ false
    → option_map (stored_entry s) (entry_at s.entries n) ≡ Some stored → stored_at s n ≡ stored ∷ []
stored-one s n stored kind is = one (entry_at s.entries n) kind is
  where
    one : (o : Option Entry) → option_map_or is_document (option_map (λ (e : Entry). e.body) o) false ≡ false
        → option_map (stored_entry s) o ≡ Some stored → plain s o ≡ stored ∷ []
    one None kind is = absurd cc
    one (Some e) kind is =
        let same : stored_entry s e ≡ stored = cc in
        ap (λ (b : Bool). map (stored_entry s) (cond (not b) (e ∷ []) [])) kind ∙ ap (λ (x : StoredEntry). x ∷ []) same

-- nothing is stored of a document
pub stored-document : (s : State) (n : ℕ) → is_document_at s.entries n ≡ true → stored_at s n ≡ []
stored-document s n kind = one (entry_at s.entries n) kind
  where
    one : (o : Option Entry) → option_map_or is_document (option_map (λ (e : Entry). e.body) o) false ≡ true
        → plain s o ≡ []
    one None kind = refl
    one (Some e) kind = ap (λ (b : Bool). map (stored_entry s) (cond (not b) (e ∷ []) [])) kind

-- nor where there is no entry
pub stored-none : (s : State) (n : ℕ) → is_some (entry_at s.entries n) ≡ false → stored_at s n ≡ []
stored-none s n none = one (entry_at s.entries n) none
  where
    one : (o : Option Entry) → is_some o ≡ false → plain s o ≡ []
    one None none = refl
    one (Some e) none = absurd cc

-- a document is listed with its number and its name
pub document-one : (s : State) (n : ℕ) (name : List ℕ) → is_document_at s.entries n ≡ true
    → option_map (λ (e : Entry). e.name) (entry_at s.entries n) ≡ Some name
    → document_at s n ≡ record { number = n; name = name } ∷ []
document-one s n name kind is = one (entry_at s.entries n) refl kind is
  where
    one : (o : Option Entry) → entry_at s.entries n ≡ o
        → option_map_or is_document (option_map (λ (e : Entry). e.body) o) false ≡ true
        → option_map (λ (e : Entry). e.name) o ≡ Some name
        → map listed_document (filter (λ entry. is_document entry.body) (option_to_list o))
        ≡ record { number = n; name = name } ∷ []
    one None found kind is = absurd cc
    one (Some e) found kind is =
        let own : e.number ≡ n = entry_at-number s.entries n e found in
        let same : e.name ≡ name = cc in
        ap (λ (b : Bool). map listed_document (cond b (e ∷ []) [])) kind
        ∙ (λ i. record { number = own i; name = same i } ∷ [])

-- nothing is listed of what is no document
pub document-none : (s : State) (n : ℕ) → is_document_at s.entries n ≡ false → document_at s n ≡ []
document-none s n kind = one (entry_at s.entries n) kind
  where
    one : (o : Option Entry) → option_map_or is_document (option_map (λ (e : Entry). e.body) o) false ≡ false
        → map listed_document (filter (λ entry. is_document entry.body) (option_to_list o)) ≡ []
    one None kind = refl
    one (Some e) kind = ap (λ (b : Bool). map listed_document (cond b (e ∷ []) [])) kind
