-- What comes of bodies, one after the other, as a tree is made again.
use Rattle.std.proofs.Common.{◌≡◌, ℕ, Bool, true, false, List, [], ◌∷◌, ◌++◌, refl, ap, sym, ◌∙◌, arith}
use Rattle.std.specs.Prelude.{◌||◌, ◌==◌, if◌then◌else◌, Option, Some, None}
use Rattle.std.specs.List.{list_any}
use Rattle.hac_model.specs.Query.Formula.{Formula}
use Rattle.hac_model.specs.Tree.Valid.{IsSoundFile}
use Rattle.hac_model.specs.Tree.{is_dirty, is_document, is_mount}
use Rattle.hac_model.specs.declared.states.Body.{Body}
use Rattle.hac_model.specs.declared.states.Body.TheVariants.{File, Dir, Symlink, Semantic, Mount, Document}
use Rattle.hac_model.specs.declared.states.Entry.{Entry}
use Rattle.hac_dump.proofs.PartLemmas.{IsStage}

-- as it is made first: a file gets the text that was indexed, where one was
abbrev pub begun : Body → Body
begun (File text dirty (Some shown)) = File shown true None
begun (File text dirty None) = File text true None
begun (Symlink target) = Symlink target
begun other = Dir

-- once that text is indexed
abbrev pub clean : Body → Body
clean (File text dirty (Some shown)) = File shown false (Some shown)
clean other = begun other

-- once a file has its text
abbrev pub written : Body → Body
written (File text dirty shown) = File text dirty shown
written other = begun other

-- what no mount holds
pub record IsPlainKind (body : Body) : Type 0 where
  pub mount : is_mount body ≡ false
  pub document : is_document body ≡ false

pub begun-stage : (body : Body) → IsPlainKind body → IsStage (begun body) body
begun-stage (File text dirty (Some shown)) h = record { bytes = omega arith; dirs = refl; semantics = omega arith; mounts = refl; symlinks = refl; items = refl; documents = refl }
begun-stage (File text dirty None) h = record { bytes = omega arith; dirs = refl; semantics = omega arith; mounts = refl; symlinks = refl; items = refl; documents = refl }
begun-stage Dir h = record { bytes = omega arith; dirs = refl; semantics = omega arith; mounts = refl; symlinks = refl; items = refl; documents = refl }
begun-stage (Symlink target) h = record { bytes = omega arith; dirs = refl; semantics = omega arith; mounts = refl; symlinks = refl; items = refl; documents = refl }
begun-stage (Semantic query permanent prohibited) h = record { bytes = omega arith; dirs = refl; semantics = omega arith; mounts = refl; symlinks = refl; items = refl; documents = refl }
begun-stage (Mount space kept) h = let no = h.mount in absurd cc
begun-stage Document h = let no = h.document in absurd cc

pub clean-stage : (body : Body) → IsPlainKind body → IsStage (clean body) body
clean-stage (File text dirty (Some shown)) h = record { bytes = omega arith; dirs = refl; semantics = omega arith; mounts = refl; symlinks = refl; items = refl; documents = refl }
clean-stage (File text dirty None) h = begun-stage (File text dirty None) h
clean-stage Dir h = begun-stage Dir h
clean-stage (Symlink target) h = begun-stage (Symlink target) h
clean-stage (Semantic query permanent prohibited) h = begun-stage (Semantic query permanent prohibited) h
clean-stage (Mount space kept) h = begun-stage (Mount space kept) h
clean-stage Document h = begun-stage Document h

pub written-stage : (body : Body) → IsPlainKind body → IsStage (written body) body
written-stage (File text dirty shown) h = record { bytes = omega arith; dirs = refl; semantics = omega arith; mounts = refl; symlinks = refl; items = refl; documents = refl }
written-stage Dir h = begun-stage Dir h
written-stage (Symlink target) h = begun-stage (Symlink target) h
written-stage (Semantic query permanent prohibited) h = begun-stage (Semantic query permanent prohibited) h
written-stage (Mount space kept) h = begun-stage (Mount space kept) h
written-stage Document h = begun-stage Document h

-- a semantic directory is one whatever it asks
pub semantic-stage : (query asked : Formula ℕ) (permanent prohibited added removed : List ℕ) → IsStage (Semantic query permanent prohibited) (Semantic asked added removed)
semantic-stage query asked permanent prohibited added removed = record { bytes = omega arith; dirs = refl; semantics = omega arith; mounts = refl; symlinks = refl; items = refl; documents = refl }

-- ---- stages that go from entry to entry

-- one of these has the number
abbrev pub is_done : List Entry → ℕ → Bool
is_done done number = list_any (λ e. e.number == number) done

-- those that are done have come to something else
abbrev pub puts : (Entry → Body) → (Entry → Body) → List Entry → Entry → Body
puts stage final done e = if is_done done e.number then final e else stage e

pub done-last : (done : List Entry) (e : Entry) (number : ℕ) → is_done (done ++ e ∷ []) number ≡ (is_done done number || (e.number == number))
done-last [] e number = or-false (e.number == number)
  where
    or-false : (b : Bool) → (b || false) ≡ b
    or-false true = refl
    or-false false = refl
done-last (x ∷ done) e number = ap (λ (b : Bool). x.number == number || b) (done-last done e number) ∙ turned (x.number == number) (is_done done number) (e.number == number)
  where
    turned : (a b c : Bool) → (a || (b || c)) ≡ ((a || b) || c)
    turned true b c = refl
    turned false b c = refl

-- a file that is dirty or not is as it was written at last
pub clean-written : (body : Body) → ((text : List ℕ) (dirty : Bool) (shown : Option (List ℕ)) → body ≡ File text dirty shown → IsSoundFile text dirty shown) → is_dirty body ≡ false → clean body ≡ written body
clean-written (File text dirty (Some shown)) sound idle =
    let same : Some shown ≡ Some text = (sound text dirty (Some shown) refl).clean idle in
    let even : shown ≡ text = cc in
    λ i. File (even i) (sym idle i) (Some shown)
clean-written (File text dirty None) sound idle = let same : None ≡ Some text = (sound text dirty None refl).clean idle in absurd cc
clean-written Dir sound idle = refl
clean-written (Symlink target) sound idle = refl
clean-written (Semantic query permanent prohibited) sound idle = refl
clean-written (Mount space kept) sound idle = refl
clean-written Document sound idle = refl
