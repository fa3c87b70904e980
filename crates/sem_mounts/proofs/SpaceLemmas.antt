-- Which spaces are attached, and with what.
use Rattle.std.proofs.Common.{◌≡◌, ℕ, ◌<◌, ◌^◌, arith, Bool, true, false, List, map, None, Some, Ok}
use Rattle.std.proofs.Common.{Err, inl, inr, refl, ap, sym, ◌∙◌}
use Rattle.std.specs.Prelude.{◌⊎◌, ◌↔◌, if◌then◌else◌, is_some, IsFalse, IsTrue, not}
use Rattle.std.specs.List.{list_any}
use Rattle.std.specs.Map.{lookup}
use Rattle.std.specs.Option.{option_map}
use Rattle.std.specs.Str.{bytes_eq}
use Rattle.std.proofs.lemmas.Bool.{false≢true}
use Rattle.std.proofs.lemmas.Map.Made.{is_some-lookup}
use Rattle.hac_outside.specs.Calls.{next_number}
use Rattle.hac_model.specs.Spaces.Catalogue.{Document, catalogue}
use Rattle.sem_mounts.specs.Memory.{is_out_of_memory}
use Rattle.sem_mounts.specs.Reading.{attach_fault}
use Rattle.sem_mounts.specs.Seen.{CountsFault, is_attach_failed}
use Rattle.sem_mounts.specs.declared.catalogues.CatalogueFault.{CatalogueFault}
use Rattle.sem_mounts.specs.declared.catalogues.CatalogueFault.TheVariants.{Bad, Memory}

-- something stands beside the name, so the name is among the names
pub there : {X : Type 0} (name : List ℕ) (entries : List (List ℕ × X)) (value : X) →
    lookup (bytes_eq name) entries ≡ Some value →
    false ≡ not (list_any (bytes_eq name) (map (λ entry. entry.0) entries))
there name entries value found = sym (ap not (sym (is_some-lookup (bytes_eq name) entries)
    ∙ ap is_some found))

-- nothing stands beside it, so it isn't
pub not_there : {X : Type 0} (name : List ℕ) (entries : List (List ℕ × X)) →
    lookup (bytes_eq name) entries ≡ None →
    true ≡ not (list_any (bytes_eq name) (map (λ entry. entry.0) entries))
not_there name entries none = sym (ap not (sym (is_some-lookup (bytes_eq name) entries)
    ∙ ap is_some none))

-- what a file says whose bytes were found
pub says-found : (file : List ℕ) (files : List (List ℕ × List ℕ)) (bytes : List ℕ) (documents : List
    Document) →
    lookup (bytes_eq file) files ≡ Some bytes → catalogue bytes ≡ Ok documents →
    option_map catalogue (lookup (bytes_eq file) files) ≡ Some (Ok documents)
says-found file files bytes documents found says = rw (found, says) refl

-- a fault that is counted is told
pub counted_fault : (failed : Bool) (before now : ℕ) → before < 2 ^ 64 →
    now ≡ (if failed then next_number before else before) → CountsFault failed before now
counted_fault true before now fits counted =
    rw counted ((omega (arith, fits), omega arith), refl)
counted_fault false before now fits counted = (counted, counted)

-- a question to a space that is there fails by its number
pub fails-there : {X : Type 0} (failed : Bool) (Fails : Type 0) (name : List ℕ) (entries : List
    (List ℕ × X)) (value : X) → (IsTrue failed ↔ Fails) →
    lookup (bytes_eq name) entries ≡ Some value → IsTrue failed ↔ (Fails × IsTrue (list_any
    (bytes_eq name) (map (λ entry. entry.0) entries)))
fails-there failed Fails name entries value fails found =
    let is : list_any (bytes_eq name) (map (λ entry. entry.0) entries) ≡ true =
    sym (is_some-lookup (bytes_eq name) entries) ∙ ap is_some found in (
      λ (failed : IsTrue failed). (fails.0 failed, is),
      λ (both : Fails × IsTrue (list_any (bytes_eq
          name) (map (λ entry. entry.0) entries))). fails.1 both.0,
    )

-- and one to no space never does
pub fails-nowhere : {X : Type 0} (Fails : Type 0) (name : List ℕ) (entries : List (List ℕ × X)) →
    lookup (bytes_eq name) entries ≡ None →
    IsTrue false ↔ (Fails × IsTrue (list_any (bytes_eq name) (map (λ entry. entry.0) entries)))
fails-nowhere Fails name entries none = (
  λ (no : IsTrue false). absurd (false≢true no),
  λ (both : Fails × IsTrue (list_any (bytes_eq
      name) (map (λ entry. entry.0) entries))). sym (ap is_some none)
      ∙ is_some-lookup (bytes_eq name) entries ∙ both.1,
)

-- a call fails for a file that isn't there
pub fails-missing : {X : Type 0} (Fails : Type 0) (name : List ℕ) (entries : List (List ℕ × X)) →
    lookup (bytes_eq name) entries ≡ None →
    IsTrue true ↔ (Fails ⊎ IsFalse (list_any (bytes_eq name) (map (λ entry. entry.0) entries)))
fails-missing Fails name entries none = (
  λ _. inr (sym (is_some-lookup (bytes_eq name) entries)
      ∙ ap is_some none),
  λ _. refl,
)

-- and not for one that is
fails-found : {X : Type 0} (Fails : Type 0) (name : List ℕ) (entries : List (List ℕ × X)) (value :
    X) → (Fails → IsTrue false) → lookup (bytes_eq name) entries ≡ Some value →
    Fails ⊎ IsFalse (list_any (bytes_eq name) (map (λ entry. entry.0) entries)) → IsTrue false
fails-found Fails name entries value fails found (inl is) = fails is
fails-found Fails name entries value fails found (inr missing) = sym missing
    ∙ sym (is_some-lookup (bytes_eq name) entries) ∙ ap is_some found

-- no reason to fail
pub fails-not : (Fails : Type 0) → (Fails → IsTrue false) → IsTrue false ↔ Fails
fails-not Fails not_so = (λ (no : IsTrue false). absurd (false≢true no), not_so)

pub fails-opened : {X : Type 0} (Fails : Type 0) (name : List ℕ) (entries : List (List ℕ × X))
    (value : X) → (Fails → IsTrue false) → lookup (bytes_eq name) entries ≡ Some value →
    IsTrue false ↔ (Fails ⊎ IsFalse (list_any (bytes_eq name) (map (λ entry. entry.0) entries)))
fails-opened Fails name entries value fails found = fails-not _ (fails-found Fails name entries
    value fails found)

-- a catalogue that is bad is no reason
pub fails-bad : (fault : CatalogueFault) (Fails : Type 0) → (Fails → IsTrue false) →
    IsTrue (is_attach_failed {A = Unit {0}} (Err (attach_fault fault))) ↔ (IsFalse (is_out_of_memory
    {A = Unit {0}} (Err (attach_fault fault))) × Fails)
fails-bad (Bad line) Fails not_so = fails-not (IsFalse false × Fails) (λ (both : IsFalse false ×
    Fails). not_so both.1)
fails-bad Memory Fails not_so = fails-not (IsFalse true × Fails) (λ (both : IsFalse true × Fails).
    not_so both.1)

pub fault-bad : {before now : ℕ} (fault : CatalogueFault) → now ≡ before →
    now ≡ (if is_attach_failed {A = Unit {0}} (Err (attach_fault fault)) then next_number before
    else before)
fault-bad (Bad line) same = same
fault-bad Memory same = same
