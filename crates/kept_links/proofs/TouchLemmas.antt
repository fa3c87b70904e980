-- What an event touches at most.
use Rattle.std.proofs.Common.{◌≡◌, ℕ, zero, suc, ◌<◌, ◌≤◌, Bool, true, false, cond, List, [], ◌∷◌, inr, refl, sym, ◌∙◌, subst, arith}
use Rattle.std.specs.Prelude.{◌==◌, ◌&&◌, ◌||◌, not, Option, Some, None, is_none, is_some}
use Rattle.std.specs.List.{range_with_len}
use Rattle.std.specs.Option.{option_map, option_map_or}
use Rattle.std.proofs.lemmas.Bool.{and_parts, eqb-true}
use Rattle.hac_model.specs.Tree.Events.{accepted, apply, is_clear, is_free, is_inside, is_placed, is_possible, next_dirty}
use Rattle.hac_model.specs.Tree.Limits.{passed_limit}
use Rattle.hac_model.specs.Tree.Links.{is_item}
use Rattle.hac_model.specs.Tree.Touched.{touched, touches}
use Rattle.hac_model.specs.Tree.Valid.{IsLayout}
use Rattle.hac_model.specs.Tree.{entry_at, extends, is_directory_at, is_document_at, is_linkable, path_of}
use Rattle.hac_model.specs.declared.events.Event.{Event}
use Rattle.hac_model.specs.declared.events.Event.TheVariants.{NewFile, Mark, Mv, Rm, Smount, Ssync, Sumount, Step}
use Rattle.hac_model.specs.declared.states.Entry.{Entry}
use Rattle.hac_model.specs.declared.states.State.{State}
use Rattle.hac_model.proofs.PathLemmas.{Rises, extends-rises}
use Rattle.hac_model.proofs.TreeLemmas.{entry_at-all, place-directory}
use Rattle.kept_links.specs.Items.{reach_of}
use Rattle.kept_links.specs.declared.items.Reach.{Reach}
use Rattle.kept_links.specs.declared.items.Reach.TheVariants.{Nothing, One, Any}
use Rattle.kept_links.proofs.ItemLemmas.{filter_nowhere, filter_one, filter_past}

-- what is of an item is there
pub item-there : (s : State) (item : ℕ) → is_item s item ≡ true → (e : Entry) × (entry_at s.entries item ≡ Some e)
item-there s item is = at (entry_at s.entries item) refl is
  where
    at : (o : Option Entry) → entry_at s.entries item ≡ o → option_map_or is_linkable (option_map (λ (x : Entry). x.body) o) false ≡ true → (e : Entry) × (entry_at s.entries item ≡ Some e)
    at None found is = absurd cc
    at (Some x) found is = (x, found)

pub some-there : (s : State) (n : ℕ) → is_some (entry_at s.entries n) ≡ true → (e : Entry) × (entry_at s.entries n ≡ Some e)
some-there s n is = at (entry_at s.entries n) refl is
  where
    at : (o : Option Entry) → entry_at s.entries n ≡ o → is_some o ≡ true → (e : Entry) × (entry_at s.entries n ≡ Some e)
    at None found is = absurd cc
    at (Some x) found is = (x, found)

-- steps over parents end at a directory
rises-directory : (s : State) (steps n d : ℕ) → IsLayout s → Rises s.entries (suc steps) n d → is_directory_at s.entries d ≡ true
rises-directory s zero n d h (e, found, here) =
    subst (λ (k : ℕ). is_directory_at s.entries k ≡ true) here (place-directory s.entries e (entry_at-all _ s.entries n e h.places found))
rises-directory s (suc steps) n d h (e, found, more) = rises-directory s steps e.parent d h more

-- nothing but itself is inside what is no directory
leaf-alone : (s : State) (entry item : ℕ) → IsLayout s → is_some (entry_at s.entries entry) ≡ true → is_directory_at s.entries entry ≡ false → (is_item s item && is_inside s item entry) ≡ true → item ≡ entry
leaf-alone s entry item h there leaf both = at (item == entry) refl parts.1
  where
    parts : (is_item s item ≡ true) × (is_inside s item entry ≡ true)
    parts = and_parts (is_item s item) (is_inside s item entry) both

    at : (b : Bool) → (item == entry) ≡ b → (b || extends (path_of s item) (path_of s entry)) ≡ true → item ≡ entry
    at true same inside = eqb-true item entry same
    at false apart inside =
        let (steps, rises) = extends-rises s item entry h (inr (item-there s item parts.0)) (inr (some-there s entry there)) inside in
        let never : false ≡ true = sym leaf ∙ rises-directory s steps item entry h rises in absurd cc

-- all that pass are within the reach
abbrev IsWithin : Reach → (ℕ → Bool) → Type 0
IsWithin Nothing p = (n : ℕ) → p n ≡ false
IsWithin (One only) p = (n : ℕ) → p n ≡ true → n ≡ only
IsWithin Any p = Unit {0}

-- what moves is there
pub moves : (s : State) (entry dir : ℕ) (name : List ℕ) → accepted s (Mv entry dir name) ≡ true → is_some (entry_at s.entries entry) ≡ true
moves s entry dir name accepts =
    let happens = and_parts (is_possible s (Mv entry dir name)) (is_none (passed_limit (apply s (Mv entry dir name)))) accepts in
    let placed = and_parts (is_clear s (Mv entry dir name)) (is_placed s (Mv entry dir name)) happens.0 in
    (and_parts (is_some (entry_at s.entries entry)) (not (is_document_at s.entries entry)) (and_parts (is_some (entry_at s.entries entry) && not (is_document_at s.entries entry)) (is_free s dir name) (and_parts (is_some (entry_at s.entries entry) && not (is_document_at s.entries entry) && is_free s dir name) (not (is_inside s dir entry)) placed.1).0).0).0

within-reach : (s : State) (e : Event) → IsLayout s → accepted s e ≡ true → IsWithin (reach_of s e) (touches s e)
within-reach s (NewFile dir name text) h accepts = λ n is. eqb-true n s.next is
within-reach s (Rm entry) h accepts = λ n is. eqb-true n entry (and_parts (n == entry) (is_item s n) is).0
within-reach s (Mv entry dir name) h accepts = at (is_directory_at s.entries entry) refl
  where
    at : (b : Bool) → is_directory_at s.entries entry ≡ b → IsWithin (cond b Any (One entry)) (touches s (Mv entry dir name))
    at true is = tt
    at false is = λ n touched. leaf-alone s entry n h (moves s entry dir name accepts) is touched
within-reach s (Mark mark) h accepts = λ n is. eqb-true n mark.item (and_parts (n == mark.item) (is_item s n) is).0
within-reach s Step h accepts = elim (next_dirty s.entries) as (λ o. IsWithin (option_map_or (λ file. One file) o Nothing) (λ item. option_map_or (λ file. item == file) o false)) [
  | None ↦ (λ n. refl)
  | Some file ↦ (λ n is. eqb-true n file is)
]
within-reach s (Smount dir name space documents told) h accepts = tt
within-reach s (Ssync mount documents told) h accepts = tt
within-reach s (Sumount mount) h accepts = tt
within-reach s other h accepts = λ n. refl

module _ (s : State) (e : Event) (h : IsLayout s) (accepts : accepted s e ≡ true) where
  pub touched-nothing : reach_of s e ≡ Nothing → touched s e ≡ []
  touched-nothing is = filter_nowhere (touches s e) (range_with_len 0 (apply s e).next) (subst (λ (r : Reach). IsWithin r (touches s e)) is (within-reach s e h accepts))

  pub touched-one : (only : ℕ) → reach_of s e ≡ One only → only < (apply s e).next → touched s e ≡ cond (touches s e only) (only ∷ []) []
  touched-one only is less = filter_one (touches s e) only 0 (apply s e).next (subst (λ (r : Reach). IsWithin r (touches s e)) is (within-reach s e h accepts)) (omega arith) (omega (arith, less))

  pub touched-past : (only : ℕ) → reach_of s e ≡ One only → (apply s e).next ≤ only → touched s e ≡ []
  touched-past only is high = filter_past (touches s e) only 0 (apply s e).next (subst (λ (r : Reach). IsWithin r (touches s e)) is (within-reach s e h accepts)) (omega (arith, high))
