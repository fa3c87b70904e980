-- What blocks a command doesn't depend on marks, so the tree alone decides it.
use Rattle.std.proofs.Common.{◌≡◌, ℕ, cond, List, [], ◌∷◌, subst, refl, ap, sym, ◌∙◌}
use Rattle.std.specs.Prelude.{Option, Some, None, Result}
use Rattle.hac_model.specs.Run.Answers.{Passes, Refuses, first_cause}
use Rattle.hac_model.specs.Tree.Bare.{bare}
use Rattle.hac_model.specs.Run.Refusals.{blocking_cause, busy_cause, directory_cause, filled_cause, not_link_cause, not_mount_cause, plain_cause, referenced_cause, root_cause, session_cause, taken_cause, under_cause, unlinked_cause, written_cause}
use Rattle.hac_model.specs.declared.places.Place.{Place}
use Rattle.hac_model.specs.declared.places.Place.TheVariants.{There, Free}
use Rattle.hac_model.specs.declared.replies.Refusal.TheVariants as refusal
use Rattle.hac_model.specs.declared.resolved.Resolved.{Resolved}
use Rattle.hac_model.specs.declared.resolved.Resolved.TheVariants.{Mkdir, Rmdir, Write, Cat, Cd, Mv, Rm, Ln, Readlink, Smkdir, Unq, Query, Sls, Sln, Srm, Sforget, Smount, Ssync, Sumount}
use Rattle.hac_model.specs.declared.states.State.{State}
use Rattle.hac_core.specs.Blocking.{link_cause, tree_cause}
use Rattle.hac_model.specs.declared.replies.Deny.{Deny}
use Rattle.hac_model.specs.declared.replies.Deny.TheVariants as deny
use Rattle.hac_model.specs.declared.replies.Refusal.{Refusal}
use Rattle.kept_state.proofs.StateLemmas.{same-bare, same-directory, same-inside, same-mount, same-path, same-semantic, same-symlink}

module _ (s t : State) (bares : bare s ≡ bare t) where
  same-directory_cause : (n : ℕ) → directory_cause s n ≡ directory_cause t n
  same-directory_cause n = λ i. cond (same-directory s t bares n i) (Some (refusal.NotFile (same-path s t bares n i))) None

  same-plain_cause : (dir : ℕ) → plain_cause s dir ≡ plain_cause t dir
  same-plain_cause dir = λ i. cond (same-semantic s t bares dir i) None (Some (refusal.NotSemantic (same-path s t bares dir i)))

  same-not_link : (n : ℕ) → not_link_cause s n ≡ not_link_cause t n
  same-not_link n = λ i. cond (same-symlink s t bares n i) None (Some (refusal.NotLink (same-path s t bares n i)))

  same-not_mount : (dir : ℕ) → not_mount_cause s dir ≡ not_mount_cause t dir
  same-not_mount dir = λ i. cond (same-mount s t bares dir i) None (Some (refusal.NotMount (same-path s t bares dir i)))

  same-full_cause : (dir : ℕ) → filled_cause s dir ≡ filled_cause t dir
  same-full_cause dir = λ i. cond (same-bare s t bares dir i) None (Some (refusal.NotEmpty (same-path s t bares dir i)))

  same-written : (place : Place) → written_cause s place ≡ written_cause t place
  same-written (There number) = same-directory_cause number
  same-written (Free dir name) = refl

  same-taken : (place : Place) → taken_cause s place ≡ taken_cause t place
  same-taken (There number) = ap (λ (path : List (List ℕ)). Some (refusal.Exists path)) (same-path s t bares number)
  same-taken (Free dir name) = refl

  same-under : (entry : ℕ) (place : Place) → under_cause s entry place ≡ under_cause t entry place
  same-under entry (There number) = refl
  same-under entry (Free dir name) = λ i. cond (same-inside s t bares dir entry i) (Some (refusal.Under (same-path s t bares entry i))) None

  pub same-tree : (r : Resolved) → tree_cause s r ≡ tree_cause t r
  same-tree (Mkdir place) = same-taken place
  same-tree (Rmdir dir) = λ i. first_cause (root_cause dir ∷ same-full_cause dir i ∷ [])
  same-tree (Write place text) = same-written place
  same-tree (Cat entry) = same-directory_cause entry
  same-tree (Cd session dir) = refl
  same-tree (Mv entry place) = λ i. first_cause (root_cause entry ∷ same-taken place i ∷ same-under entry place i ∷ [])
  same-tree (Rm entry) = λ i. first_cause (root_cause entry ∷ same-directory_cause entry i ∷ [])
  same-tree (Ln place target) = same-taken place
  same-tree (Readlink entry) = same-not_link entry
  same-tree (Smkdir place query) = same-taken place
  same-tree (Unq dir) = same-plain_cause dir
  same-tree (Query dir) = same-plain_cause dir
  same-tree (Sls dir) = same-plain_cause dir
  same-tree (Sln item dir) = same-plain_cause dir
  same-tree (Srm item dir) = λ i. first_cause (same-directory_cause item i ∷ same-plain_cause dir i ∷ [])
  same-tree (Sforget item dir) = same-plain_cause dir
  same-tree (Smount place space) = same-taken place
  same-tree (Ssync mount) = same-not_mount mount
  same-tree (Sumount mount) = same-not_mount mount
  same-tree other = refl

-- What blocks a command is what the tree says, and then what links, marks and other queries say.

alone : (o : Option Refusal) → first_cause (o ∷ None ∷ []) ≡ o
alone None = refl
alone (Some e) = refl

lone : (o : Option Refusal) → first_cause (None ∷ o ∷ []) ≡ o
lone None = refl
lone (Some e) = refl

split : (a b c d : Option Refusal) → first_cause (first_cause (a ∷ b ∷ []) ∷ first_cause (c ∷ d ∷ []) ∷ []) ≡ first_cause (a ∷ b ∷ c ∷ d ∷ [])
split (Some e) b c d = refl
split None (Some e) c d = refl
split None None (Some e) d = refl
split None None None (Some e) = refl
split None None None None = refl

joined : (a b c : Option Refusal) → first_cause (first_cause (a ∷ b ∷ []) ∷ c ∷ []) ≡ first_cause (a ∷ b ∷ c ∷ [])
joined (Some e) b c = refl
joined None (Some e) c = refl
joined None None c = refl

behind : (a b c : Option Refusal) → first_cause (a ∷ first_cause (b ∷ c ∷ []) ∷ []) ≡ first_cause (a ∷ b ∷ c ∷ [])
behind (Some e) b c = refl
behind None (Some e) c = refl
behind None None (Some e) = refl
behind None None None = refl

parted : (s : State) (r : Resolved) → first_cause (tree_cause s r ∷ link_cause s r ∷ []) ≡ blocking_cause s r
parted s (Rmdir dir) = split (root_cause dir) (filled_cause s dir) (referenced_cause s dir) (busy_cause s dir)
parted s (Cd session dir) = lone (session_cause s session dir)
parted s (Sumount mount) = behind (not_mount_cause s mount) (referenced_cause s mount) (busy_cause s mount)
parted s (Sln item dir) = refl
parted s (Srm item dir) = joined (directory_cause s item) (plain_cause s dir) (unlinked_cause s item dir)
parted s (Sforget item dir) = refl
parted s other = alone (blocking_cause s other)

-- a command that the tree refuses is refused, and one that it lets pass is refused for what else blocks it
pub blocked-early : (s : State) (r : Resolved) (deny : Deny) → Refuses deny (tree_cause s r) → Refuses deny (blocking_cause s r)
blocked-early s r (deny.Refused e) h = sym (parted s r) ∙ ap (λ (o : Option Refusal). first_cause (o ∷ link_cause s r ∷ [])) h
blocked-early s r deny.Memory h = tt

pub blocked-late : {A : Type 0} (s : State) (r : Resolved) (result : Result A Deny) → tree_cause s r ≡ None → Passes result (link_cause s r) → Passes result (blocking_cause s r)
blocked-late s r result free passes =
    subst (λ (cause : Option Refusal). Passes result cause) (sym (ap (λ (o : Option Refusal). first_cause (o ∷ link_cause s r ∷ [])) free ∙ lone (link_cause s r)) ∙ parted s r) passes
