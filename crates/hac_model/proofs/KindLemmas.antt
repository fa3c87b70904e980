-- What an edit of a body leaves of its kind, and what follows from that: each test of kinds says what it said before.
use Rattle.std.proofs.Common.{◌≡◌, ℕ, Bool, List, refl, sym, ◌∙◌, ap}
use Rattle.std.specs.Prelude.{◌||◌}
use Rattle.hac_model.specs.Query.Formula.{Formula}
use Rattle.hac_model.specs.Tree.Asking.{gaining}
use Rattle.hac_model.specs.Tree.Bare.{bare_body}
use Rattle.hac_model.specs.Tree.Changes.{asking, forgetting, indexed, marked, marking, plain_body, rewritten}
use Rattle.hac_model.specs.Tree.Mounting.{forgetting_such, keeping}
use Rattle.hac_model.specs.Tree.{entry_kind, is_directory, is_document, is_file, is_kind, is_linkable, is_mount, is_queried, is_symlink}
use Rattle.hac_model.specs.declared.marks.Kind.{Kind}
use Rattle.hac_model.specs.declared.marks.Kind.TheVariants.{Transient, Permanent, Prohibited, Unlinked}
use Rattle.hac_model.specs.declared.states.Answer.{Answer}
use Rattle.hac_model.specs.declared.states.Body.{Body}
use Rattle.hac_model.specs.declared.states.Body.TheVariants.{File, Dir, Semantic, Mount}
use Rattle.hac_model.specs.declared.states.EntryKind.{EntryKind}
use Rattle.hac_model.specs.declared.states.EntryKind.TheVariants as kind

-- the edit keeps the kind of each body
abbrev pub KeepsKind : (Body → Body) → Type 0
KeepsKind edit = (body : Body) → entry_kind (edit body) ≡ entry_kind body

-- a kind, whether or not there is a query
abbrev unasked : EntryKind → EntryKind
unasked kind.Semantic = kind.Dir
unasked other = other

-- the edit changes no more of a kind than whether a directory has a query
abbrev pub KeepsRole : (Body → Body) → Type 0
KeepsRole edit = (body : Body) → unasked (entry_kind (edit body)) ≡ unasked (entry_kind body)

pub keeps-role : (edit : Body → Body) → KeepsKind edit → KeepsRole edit
keeps-role edit keeps body = ap unasked (keeps body)

-- ---- what follows

-- of a test that is told by the kind but for queries
module _ (test : Body → Bool) (told : EntryKind → Bool) (is : (body : Body) → test body ≡ told (unasked (entry_kind body))) where
  by-role : (edit : Body → Body) → KeepsRole edit → (body : Body) → test (edit body) ≡ test body
  by-role edit keeps body = is (edit body) ∙ ap told (keeps body) ∙ sym (is body)

pub keeps-directory : (edit : Body → Body) → KeepsRole edit → (body : Body) → is_directory (edit body) ≡ is_directory body
keeps-directory = by-role is_directory (λ k. is_kind kind.Dir k || is_kind kind.Mount k) told
  where
    told : (body : Body) → is_directory body ≡ (is_kind kind.Dir (unasked (entry_kind body)) || is_kind kind.Mount (unasked (entry_kind body)))
    told Dir = refl
    told other = refl

pub keeps-file : (edit : Body → Body) → KeepsRole edit → (body : Body) → is_file (edit body) ≡ is_file body
keeps-file = by-role is_file (is_kind kind.File) told
  where
    told : (body : Body) → is_file body ≡ is_kind kind.File (unasked (entry_kind body))
    told Dir = refl
    told other = refl

pub keeps-symlink : (edit : Body → Body) → KeepsRole edit → (body : Body) → is_symlink (edit body) ≡ is_symlink body
keeps-symlink = by-role is_symlink (is_kind kind.Symlink) told
  where
    told : (body : Body) → is_symlink body ≡ is_kind kind.Symlink (unasked (entry_kind body))
    told Dir = refl
    told other = refl

pub keeps-mount : (edit : Body → Body) → KeepsRole edit → (body : Body) → is_mount (edit body) ≡ is_mount body
keeps-mount = by-role is_mount (is_kind kind.Mount) told
  where
    told : (body : Body) → is_mount body ≡ is_kind kind.Mount (unasked (entry_kind body))
    told Dir = refl
    told other = refl

pub keeps-document : (edit : Body → Body) → KeepsRole edit → (body : Body) → is_document (edit body) ≡ is_document body
keeps-document = by-role is_document (is_kind kind.Document) told
  where
    told : (body : Body) → is_document body ≡ is_kind kind.Document (unasked (entry_kind body))
    told Dir = refl
    told other = refl

pub keeps-item : (edit : Body → Body) → KeepsRole edit → (body : Body) → is_linkable (edit body) ≡ is_linkable body
keeps-item edit keeps body = λ i. keeps-file edit keeps body i || keeps-document edit keeps body i

pub keeps-queried : (edit : Body → Body) → KeepsKind edit → (body : Body) → is_queried (edit body) ≡ is_queried body
keeps-queried edit keeps body = told (edit body) ∙ ap (is_kind kind.Semantic) (keeps body) ∙ sym (told body)
  where
    told : (body : Body) → is_queried body ≡ is_kind kind.Semantic (entry_kind body)
    told Dir = refl
    told other = refl

-- ---- the edits

pub kind-rewritten : (text : List ℕ) → KeepsKind (rewritten text)
kind-rewritten text (File old dirty shown) = refl
kind-rewritten text other = refl

pub kind-indexed : KeepsKind indexed
kind-indexed (File text dirty shown) = refl
kind-indexed other = refl

pub kind-forgetting : (item : ℕ) → KeepsKind (forgetting item)
kind-forgetting item (Semantic query permanent prohibited) = refl
kind-forgetting item other = refl

pub kind-such : (test : ℕ → Bool) → KeepsKind (forgetting_such test)
kind-such test (Semantic query permanent prohibited) = refl
kind-such test other = refl

kind-marking : (item : ℕ) (mark : Kind) → KeepsKind (marking item mark)
kind-marking item Permanent (Semantic query permanent prohibited) = refl
kind-marking item Permanent other = refl
kind-marking item Prohibited (Semantic query permanent prohibited) = refl
kind-marking item Prohibited other = refl
kind-marking item Transient body = refl
kind-marking item Unlinked body = refl

pub kind-marked : (item : ℕ) (mark : Kind) → KeepsKind (marked item mark)
kind-marked item mark body = kind-marking item mark (forgetting item body) ∙ kind-forgetting item body

pub kind-gaining : (more : List Answer) → KeepsKind (gaining more)
kind-gaining more (Mount space answers) = refl
kind-gaining more other = refl

pub kind-keeping : (answers : List Answer) → KeepsKind (keeping answers)
kind-keeping answers (Mount space kept) = refl
kind-keeping answers other = refl

pub kind-bare : KeepsKind bare_body
kind-bare (Semantic query permanent prohibited) = refl
kind-bare (Mount space answers) = refl
kind-bare other = refl

pub role-asking : (query : Formula ℕ) → KeepsRole (asking query)
role-asking query Dir = refl
role-asking query (Semantic old permanent prohibited) = refl
role-asking query other = refl

pub role-plain : KeepsRole plain_body
role-plain (Semantic query permanent prohibited) = refl
role-plain other = refl

pub role-rewritten : (text : List ℕ) → KeepsRole (rewritten text)
role-rewritten text = keeps-role (rewritten text) (kind-rewritten text)

pub role-indexed : KeepsRole indexed
role-indexed = keeps-role indexed kind-indexed

pub role-forgetting : (item : ℕ) → KeepsRole (forgetting item)
role-forgetting item = keeps-role (forgetting item) (kind-forgetting item)

pub role-such : (test : ℕ → Bool) → KeepsRole (forgetting_such test)
role-such test = keeps-role (forgetting_such test) (kind-such test)

pub role-marked : (item : ℕ) (mark : Kind) → KeepsRole (marked item mark)
role-marked item mark = keeps-role (marked item mark) (kind-marked item mark)

pub role-gaining : (more : List Answer) → KeepsRole (gaining more)
role-gaining more = keeps-role (gaining more) (kind-gaining more)

pub role-keeping : (answers : List Answer) → KeepsRole (keeping answers)
role-keeping answers = keeps-role (keeping answers) (kind-keeping answers)

pub role-bare : KeepsRole bare_body
role-bare = keeps-role bare_body kind-bare
