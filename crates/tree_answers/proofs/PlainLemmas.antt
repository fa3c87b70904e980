-- Plain directories are those that are neither semantic nor mounts, the root left out.
use Rattle.std.proofs.Common.{◌≡◌, ℕ, ◌+◌, ◌-◌, ◌≤◌, Bool, cond, List, [], ◌∷◌, refl, arith}
use Rattle.std.specs.Prelude.{is_some, sum_by}
use Rattle.std.proofs.lemmas.List.Sums.{sum_by-cons}
use Rattle.hac_model.specs.Tree.Limits.{counts, plain_count}
use Rattle.hac_model.specs.Tree.{is_directory, is_document, is_file, is_linkable, is_mount, is_plain, query_in}
use Rattle.hac_model.specs.declared.states.Body.{Body}
use Rattle.hac_model.specs.declared.states.Body.TheVariants.{File, Dir, Symlink, Semantic, Mount, Document}
use Rattle.hac_model.specs.declared.states.Entry.{Entry}
use Rattle.hac_model.specs.declared.states.State.{State}

ones : (Body → Bool) → List Entry → ℕ
ones test es = sum_by (λ (e : Entry). cond {A = ℕ} (test e.body) 1 0) es

one : (Body → Bool) → Body → ℕ
one test b = cond {A = ℕ} (test b) 1 0

ones-cons : (test : Body → Bool) (e : Entry) (es : List Entry) → ones test (e ∷ es) ≡ one test e.body + ones test es
unfolding ones one
ones-cons test e es = sum_by-cons (λ (e : Entry). cond {A = ℕ} (test e.body) 1 0) e es

abbrev asks : Body → Bool
asks b = is_some (query_in b)

body-split : (b : Body) → one is_directory b ≡ one is_plain b + one asks b + one is_mount b
unfolding one
body-split (File text dirty shown) = refl
body-split Dir = refl
body-split (Symlink target) = refl
body-split (Semantic query permanent prohibited) = refl
body-split (Mount space answers) = refl
body-split Document = refl

split : (es : List Entry) → ones is_directory es ≡ ones is_plain es + ones asks es + ones is_mount es
unfolding ones
split [] = refl
split (e ∷ es) = omega (arith, body-split e.body, split es, ones-cons is_directory e es, ones-cons is_plain e es, ones-cons asks e es, ones-cons is_mount e es)

-- so the subtraction is exact
pub plain-counted : (s : State) → (1 + (counts s).semantics + (counts s).mounts ≤ (counts s).directories) × (plain_count s.entries ≡ (counts s).directories - 1 - (counts s).semantics - (counts s).mounts)
unfolding ones
plain-counted s = (omega (arith, split s.entries), omega (arith, split s.entries))

-- Items are files and documents.

item-split : (b : Body) → one is_linkable b ≡ one is_file b + one is_document b
unfolding one
item-split (File text dirty shown) = refl
item-split Dir = refl
item-split (Symlink target) = refl
item-split (Semantic query permanent prohibited) = refl
item-split (Mount space answers) = refl
item-split Document = refl

items-split : (es : List Entry) → ones is_linkable es ≡ ones is_file es + ones is_document es
unfolding ones
items-split [] = refl
items-split (e ∷ es) = omega (arith, item-split e.body, items-split es, ones-cons is_linkable e es, ones-cons is_file e es, ones-cons is_document e es)

-- so there are no more files than items
pub files-counted : (s : State) → (counts s).files ≤ (counts s).items
unfolding ones
files-counted s = omega (arith, items-split s.entries)
