-- What a command refers to is in the tree just where it is in the state.
use Rattle.std.proofs.Common.{◌≡◌, ℕ, Bool, true, false, cond, List, ap, sym, ◌∙◌}
use Rattle.std.specs.Prelude.{◌==◌, ◌&&◌, ◌||◌, not, Some, None, IsTrue, is_none}
use Rattle.hac_model.specs.Run.Resolving.{mount_of}
use Rattle.hac_model.specs.declared.places.Place.{Place}
use Rattle.hac_model.specs.declared.places.Place.TheVariants.{There, Free}
use Rattle.hac_model.specs.declared.resolved.Resolved.{Resolved}
use Rattle.hac_model.specs.declared.resolved.Resolved.TheVariants.{Mkdir, Rmdir, Write, Cat, Ls, Cd, Pwd, Mv, Rm, Ln, Readlink, Smkdir, Setq, Unq, Query, Sls, Sln, Srm, Sforget, Find, Smount, Ssync, Sumount, Index, Tick, Counts, Checkpoint}
use Rattle.hac_model.specs.Tree.Bare.{bare, bare_body}
use Rattle.hac_model.specs.Tree.Events.{is_vacant}
use Rattle.hac_model.specs.Tree.Names.{is_name}
use Rattle.hac_model.specs.Tree.{child, is_holder_at}
use Rattle.hac_model.proofs.MapLemmas.{child-mapped}
use Rattle.hac_model.specs.declared.states.State.{State}
use Rattle.hac_model.specs.Run.Standing.{AllStand, IsSlot, StandsAt, is_own, is_there}
use Rattle.kept_state.proofs.StateLemmas.{alike, same-asks, same-directory, same-document, same-mount, same-parent, same-some, same-symlink}

module _ (s t : State) (bares : bare s ≡ bare t) where
  there : (follow : Bool) (n : ℕ) → IsTrue (is_there s follow n) → IsTrue (is_there t follow n)
  there follow n h = sym (λ i. (n == 0 || same-some s t bares n i) && not (follow && same-symlink s t bares n i)) ∙ h

  own : (follow : Bool) (n : ℕ) → IsTrue (is_own s follow n) → IsTrue (is_own t follow n)
  own follow n h = sym (λ i. (n == 0 || same-some s t bares n i) && not (follow && same-symlink s t bares n i) && not (same-document s t bares n i)) ∙ h

  holder : (dir : ℕ) → IsTrue (is_holder_at s.entries dir) → IsTrue (is_holder_at t.entries dir)
  holder dir h = sym (λ i. same-directory s t bares dir i && not (same-mount s t bares dir i)) ∙ h

  same-vacant : (dir : ℕ) (name : List ℕ) → is_vacant s dir name ≡ is_vacant t dir name
  same-vacant dir name = λ i. same-directory s t bares dir i && is_name name && is_none (vacant i)
    where
      vacant : child s.entries dir name ≡ child t.entries dir name
      vacant = alike s t bares (λ s. child s.entries dir name) (λ s. child-mapped bare_body s.entries dir name)

  same-mounted : (p : Place) → mount_of s p ≡ mount_of t p
  same-mounted (There number) = λ i. cond (same-document s t bares number i) (Some (same-parent s t bares number i)) None
  same-mounted (Free dir name) = ap (λ (b : Bool). cond b (Some dir) None) (same-mount s t bares dir)

  place : (follow : Bool) (p : Place) → StandsAt s follow p → StandsAt t follow p
  place follow (There number) h = there follow number h
  place follow (Free dir name) h = sym (same-vacant dir name) ∙ h

  slot : (follow : Bool) (p : Place) → IsSlot s follow p → IsSlot t follow p
  slot follow p h = (place follow p h.0, sym (same-mounted p) ∙ h.1)

  pub stands-kept : (r : Resolved) → AllStand s r → AllStand t r
  stands-kept (Mkdir p) h = slot true p h
  stands-kept (Rmdir dir) h = holder dir h
  stands-kept (Write p text) h = (slot true p h.0, h.1)
  stands-kept (Cat entry) h = there true entry h
  stands-kept (Ls dir) h = sym (same-directory s t bares dir) ∙ h
  stands-kept (Cd session dir) h = (h.0, sym (same-directory s t bares dir) ∙ h.1)
  stands-kept (Pwd dir) h = sym (same-directory s t bares dir) ∙ h
  stands-kept (Mv entry p) h = (own false entry h.0, slot false p h.1)
  stands-kept (Rm entry) h = own false entry h
  stands-kept (Ln p target) h = (slot false p h.0, h.1)
  stands-kept (Readlink entry) h = there false entry h
  stands-kept (Smkdir p query) h = (slot true p h.0, sym (same-asks s t bares query) ∙ h.1)
  stands-kept (Setq dir query) h = (holder dir h.0, sym (same-asks s t bares query) ∙ h.1)
  stands-kept (Unq dir) h = sym (same-directory s t bares dir) ∙ h
  stands-kept (Query dir) h = sym (same-directory s t bares dir) ∙ h
  stands-kept (Sls dir) h = sym (same-directory s t bares dir) ∙ h
  stands-kept (Sln item dir) h = (there true item h.0, sym (same-directory s t bares dir) ∙ h.1)
  stands-kept (Srm item dir) h = (there true item h.0, sym (same-directory s t bares dir) ∙ h.1)
  stands-kept (Sforget item dir) h = (there true item h.0, sym (same-directory s t bares dir) ∙ h.1)
  stands-kept (Find query) h = sym (same-asks s t bares query) ∙ h
  stands-kept (Smount p space) h = (slot true p h.0, h.1)
  stands-kept (Ssync mount) h = sym (same-directory s t bares mount) ∙ h
  stands-kept (Sumount mount) h = sym (same-directory s t bares mount) ∙ h
  stands-kept Index h = tt
  stands-kept (Tick steps) h = tt
  stands-kept Counts h = tt
  stands-kept Checkpoint h = tt
