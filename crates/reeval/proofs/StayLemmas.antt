-- What is below a directory stays below it where the directories of entries stay.
use Rattle.std.proofs.Common.{◌≡◌, ℕ, true, ap, sym, ◌∙◌, inl, inr}
use Rattle.std.specs.Prelude.{◌==◌, ◌||◌, Some, None}
use Rattle.hac_model.specs.Tree.Valid.{IsLayout}
use Rattle.hac_model.specs.Tree.{entry_at, extends, is_directory_at, path_of}
use Rattle.hac_model.specs.declared.states.Entry.{Entry}
use Rattle.hac_model.specs.declared.states.State.{State}
use Rattle.hac_model.proofs.PathLemmas.{extends-parent, extends-root, from_root, parent-lives, root-none}
use Rattle.hac_model.proofs.TreeLemmas.{Lives, directory-lives}

-- an entry is in the same directory in both states
pub record StaysIn (t : State) (n : ℕ) (e : Entry) : Type 0 where
  pub entry : Entry
  pub found : entry_at t.entries n ≡ Some entry
  pub parent : entry.parent ≡ e.parent

-- the numbers that stay where they are, with all that is above them
abbrev pub StayUp : State → State → (ℕ → Type 0) → Type 0
StayUp s t Stays = (n : ℕ) (e : Entry) → Stays n → entry_at s.entries n ≡ Some e → StaysIn t n e × Stays e.parent

pub below-stays : (s t : State) → IsLayout s → IsLayout t → (Stays : ℕ → Type 0) → StayUp s t Stays → (d : ℕ) → is_directory_at s.entries d ≡ true → is_directory_at t.entries d ≡ true → (n : ℕ) → Lives s.entries n → Stays n →
    extends (path_of s n) (path_of s d) ≡ extends (path_of t n) (path_of t d)
below-stays s t h k Stays up d before after n lives stays = from_root s P h root step n lives stays
  where
    P : ℕ → Type 0
    P n = Stays n → extends (path_of s n) (path_of s d) ≡ extends (path_of t n) (path_of t d)

    root : P 0
    root stays = extends-root s (path_of s d) h ∙ sym (extends-root t (path_of t d) k)

    step : (n : ℕ) (e : Entry) → entry_at s.entries n ≡ Some e → P e.parent → P n
    step n e found known stays =
        let parts = up n e stays found in
        extends-parent s n d e h (directory-lives s.entries d before) found
        ∙ (λ i. sym parts.0.parent i == d || (known parts.1 ∙ ap (λ (p : ℕ). extends (path_of t p) (path_of t d)) (sym parts.0.parent)) i)
        ∙ sym (extends-parent t n d parts.0.entry k (directory-lives t.entries d after) parts.0.found)

-- entries that live in both states are in the same directories
abbrev pub ParentsStay : State → State → Type 0
ParentsStay s t = (n : ℕ) (e f : Entry) → entry_at s.entries n ≡ Some e → entry_at t.entries n ≡ Some f → f.parent ≡ e.parent

-- so what lives still is below the same directories
pub below-live : (s t : State) → IsLayout s → IsLayout t → ParentsStay s t → (d : ℕ) → is_directory_at s.entries d ≡ true → is_directory_at t.entries d ≡ true → (n : ℕ) → Lives s.entries n → Lives t.entries n →
    extends (path_of s n) (path_of s d) ≡ extends (path_of t n) (path_of t d)
below-live s t h k stay d before after n lives still = below-stays s t h k (Lives t.entries) up d before after n lives still
  where
    up : StayUp s t (Lives t.entries)
    up n e (inl here) found = let never : None ≡ Some e = sym (root-none s h) ∙ ap (entry_at s.entries) (sym here) ∙ found in absurd cc
    up n e (inr (f, there)) found =
        let same = stay n e f found there in
        (record { entry = f; found = there; parent = same }, lower same (parent-lives t n f k there))
      where
        lower : f.parent ≡ e.parent → Lives t.entries f.parent → Lives t.entries e.parent
        lower same (inl root) = inl (sym same ∙ root)
        lower same (inr (g, here)) = inr (g, ap (entry_at t.entries) (sym same) ∙ here)
