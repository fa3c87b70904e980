-- Entries that fit one another, limits aside: what holds on the way from one tree to another.
use Rattle.std.proofs.Common.{◌≡◌, ℕ, Bool, true, false, List, [], ◌∷◌, refl, ap, sym, ◌∙◌, inl, inr, arith}
use Rattle.std.specs.Prelude.{◌||◌, not, filter, map, if◌then◌else◌, Option, Some, None, IsTrue}
use Rattle.std.specs.Option.{option_map, option_map_or}
use Rattle.std.specs.List.{AllByRecursion}
use Rattle.std.proofs.lemmas.Bool.{ne_eqb, not-true}
use Rattle.hac_model.specs.Tree.Events.{edited}
use Rattle.hac_model.specs.Tree.Limits.{passed_limit}
use Rattle.hac_model.specs.Tree.Mounting.{without_such}
use Rattle.hac_model.specs.Tree.Names.{is_name}
use Rattle.hac_model.specs.Tree.{entry_at, is_directory, is_directory_at, is_document, is_mount}
use Rattle.hac_model.specs.Tree.Valid.{IsLayout, IsSound, NamesDiffer, NumbersRise, is_in_place}
use Rattle.hac_model.specs.declared.states.Body.{Body}
use Rattle.hac_model.specs.declared.states.Entry.{Entry}
use Rattle.hac_model.specs.declared.states.State.{State}
use Rattle.hac_model.proofs.ChangeLemmas.{all-both, all-weaker, differ-filter, entry_at-filter, entry_at-none, numbers-filter}
use Rattle.hac_model.proofs.MapLemmas.{all-map, differ-mapped, mapped, numbers-mapped, place-mapped}
use Rattle.hac_model.proofs.TreeLemmas.{Lives, all-entries, directory-lives, entry_at-low, place-directory, place-same}
use Rattle.hac_model.proofs.KindLemmas.{KeepsRole}

pub record IsFitting (s : State) : Type 0 where
  pub numbers : NumbersRise 0 s.entries s.next
  pub names : AllByRecursion (λ e. IsTrue (is_name e.name)) s.entries
  pub places : AllByRecursion (λ e. IsTrue (is_in_place s.entries e)) s.entries
  pub differ : NamesDiffer s.entries
  pub bodies : AllByRecursion (λ e. IsSound e.body) s.entries

pub layout-fits : (s : State) → IsLayout s → IsFitting s
layout-fits s h = record { numbers = h.numbers; names = h.names; places = h.places; differ = h.differ; bodies = h.bodies }

pub fitting-layout : (s : State) → IsFitting s → passed_limit s ≡ None → IsLayout s
fitting-layout s h limits = record { numbers = h.numbers; names = h.names; places = h.places; differ = h.differ; bodies = h.bodies; limits = limits }

-- what holds of those that pass a test holds of all that are left by it
pub all-passed : {X : Type 0} (P : X → Type 0) (p : X → Bool) (xs : List X) → AllByRecursion (λ x. p x ≡ true → P x) xs → AllByRecursion P (filter p xs)
all-passed P p [] h = tt
all-passed P p (x ∷ xs) h = elim (p x) as (λ b. p x ≡ b → AllByRecursion P (if b then x ∷ filter p xs else filter p xs)) [
  | true ↦ (λ passes. (h.0 passes, all-passed P p xs h.1))
  | false ↦ (λ _. all-passed P p xs h.1)
] refl

-- Bodies are edited.

pub mapped-fits : (edit : Body → Body) (s : State) → KeepsRole edit → ((body : Body) → IsSound body → IsSound (edit body)) → IsFitting s → IsFitting (mapped edit s)
mapped-fits edit s keeps sound h = record {
  numbers = numbers-mapped edit 0 s.entries s.next h.numbers;
  names = all-map (λ e. IsTrue (is_name e.name)) (edited edit) s.entries h.names;
  places = all-map (λ e. IsTrue (is_in_place (map (edited edit) s.entries) e)) (edited edit) s.entries (all-weaker (λ e. IsTrue (is_in_place s.entries e)) (λ e. IsTrue (is_in_place (map (edited edit) s.entries) (edited edit e))) s.entries (λ e there. place-mapped edit s.entries e keeps ∙ there) h.places);
  differ = differ-mapped edit s.entries h.differ;
  bodies = all-map (λ e. IsSound e.body) (edited edit) s.entries (all-weaker (λ e. IsSound e.body) (λ e. IsSound (edit e.body)) s.entries (λ e there. sound e.body there) h.bodies);
}

-- Entries go, with all that is in them.

-- where an entry is left, so is its directory
abbrev pub LeavesDirectories : (Entry → Bool) → State → Type 0
LeavesDirectories test s = (e x : Entry) → entry_at s.entries e.number ≡ Some e → test e ≡ false → entry_at s.entries e.parent ≡ Some x → is_directory x.body ≡ true → test x ≡ false

-- what is found of a directory that stays
pub directory-left : (test : Entry → Bool) (s : State) (d : ℕ) → NumbersRise 0 s.entries s.next → is_directory_at s.entries d ≡ true → ((x : Entry) → entry_at s.entries d ≡ Some x → is_directory x.body ≡ true → test x ≡ false) → entry_at (without_such test s).entries d ≡ entry_at s.entries d
directory-left test s d rise there stays = at (directory-lives s.entries d there)
  where
    at : Lives s.entries d → entry_at (without_such test s).entries d ≡ entry_at s.entries d
    at (inl root) =
        let none : entry_at s.entries d ≡ None = entry_at-low 0 s.entries s.next d rise (omega (arith, root)) in
        entry_at-none (λ e. not (test e)) s.entries d none ∙ sym none
    at (inr found) =
        entry_at-filter (λ e. not (test e)) s.entries d found.0 found.1 (ap not (stays found.0 found.1 kind)) ∙ sym found.1
      where
        above : (d ≡ 0) → ⊥
        above root = let none : entry_at s.entries d ≡ None = entry_at-low 0 s.entries s.next d rise (omega (arith, root)) in let never : Some found.0 ≡ None = sym found.1 ∙ none in absurd cc

        kind : is_directory found.0.body ≡ true
        kind =
            ap (λ (o : Option Entry). option_map_or is_directory (option_map (λ (e : Entry). e.body) o) false) (sym found.1)
            ∙ ap (λ (b : Bool). b || option_map_or is_directory (option_map (λ (e : Entry). e.body) (entry_at s.entries d)) false) (sym (ne_eqb d 0 above))
            ∙ there

pub without-fits : (test : Entry → Bool) (s : State) → LeavesDirectories test s → IsFitting s → IsFitting (without_such test s)
without-fits test s stays h = record {
  numbers = numbers-filter left 0 s.entries s.next h.numbers;
  names = all-passed (λ e. IsTrue (is_name e.name)) left s.entries (all-weaker (λ e. IsTrue (is_name e.name)) (λ e. left e ≡ true → IsTrue (is_name e.name)) s.entries (λ e named _. named) h.names);
  places = all-passed (λ e. IsTrue (is_in_place (without_such test s).entries e)) left s.entries
      (all-both (λ e. IsTrue (is_in_place s.entries e)) (λ e. entry_at s.entries e.number ≡ Some e) (λ e. left e ≡ true → IsTrue (is_in_place (without_such test s).entries e)) s.entries
      (λ e there found passes.
      place-same s.entries (without_such test s).entries e (directory-left test s e.parent h.numbers (place-directory s.entries e there) (λ x is kind. stays e x found (not-true (test e) passes) is kind)) ∙ there)
      h.places (all-entries (λ e. entry_at s.entries e.number ≡ Some e) 0 s.entries s.next h.numbers (λ e found. found)));
  differ = differ-filter left s.entries h.differ;
  bodies = all-passed (λ e. IsSound e.body) left s.entries (all-weaker (λ e. IsSound e.body) (λ e. left e ≡ true → IsSound e.body) s.entries (λ e sound _. sound) h.bodies);
}
  where
    left : Entry → Bool
    left e = not (test e)
