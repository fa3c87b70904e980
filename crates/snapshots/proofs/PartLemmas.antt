-- An entry is told by what is looked up of it, and that is looked up in its tree.
use Rattle.std.proofs.Common.{◌≡◌, ℕ, Bool, true, false, cond, List, [], ◌∷◌, map, refl, ap, subst, sym, ◌∙◌}
use Rattle.std.specs.Prelude.{◌==◌, filter, Option, Some, None, IsSome, is_some, option_and_then}
use Rattle.std.specs.Option.{option_map, option_map_or}
use Rattle.hac_model.specs.Payload.States.{listed_document, stored_entry}
use Rattle.hac_model.specs.Tree.Bare.{bare, bare_body}
use Rattle.hac_model.specs.Tree.Events.{edited}
use Rattle.hac_model.specs.Tree.Links.{space_at}
use Rattle.hac_model.specs.Tree.Listing.{children, in_order, is_before, put_in_order}
use Rattle.hac_model.specs.Tree.{answers_in, body_at, entry_at, is_dirty, is_document, is_file, is_mount, is_symlink}
use Rattle.hac_model.specs.Tree.{permanent_in, prohibited_in, query_in, shown_text, space_in, target_in, text_in}
use Rattle.hac_model.specs.Query.Formula.{Formula}
use Rattle.hac_model.specs.declared.snapshots.Document as stored
use Rattle.hac_model.specs.declared.states.Body.{Body}
use Rattle.hac_model.specs.declared.states.Body.TheVariants.{File, Dir, Symlink, Semantic, Mount, Document}
use Rattle.hac_model.specs.declared.states.Entry.{Entry}
use Rattle.hac_model.specs.declared.states.State.{State}
use Rattle.hac_model.proofs.AlikeLemmas.{bare-dirty, entry_at-bare, text_at-bare}
use Rattle.hac_model.proofs.TreeLemmas.{entry_at-number}
use Rattle.file_tree.specs.Answers.{is_dirty_at}
use Rattle.hac_model.specs.Tree.{entry_kind, entry_kind_at}
use Rattle.hac_model.specs.declared.states.EntryKind.{EntryKind}
use Rattle.hac_model.specs.declared.states.EntryKind.TheVariants as kind
use Rattle.kept_state.proofs.StateLemmas.{alike}
use Rattle.snapshots.specs.Taking.{documents_of}
use Rattle.hac_model.proofs.KindLemmas.{kind-bare, role-bare, keeps-document}

-- ---- a body by its parts

pub file-body : (o : Option Body) (text : List ℕ) → option_and_then text_in o ≡ Some text
    → o ≡ Some (File text (option_map_or is_dirty o false) (option_and_then shown_text o))
file-body None text is = absurd cc
file-body (Some (File own dirty shown)) text is =
    let same : own ≡ text = cc in ap (λ (x : List ℕ). Some (File x dirty shown)) same
file-body (Some Dir) text is = absurd cc
file-body (Some (Symlink target)) text is = absurd cc
file-body (Some (Semantic query permanent prohibited)) text is = absurd cc
file-body (Some (Mount space answers)) text is = absurd cc
file-body (Some Document) text is = absurd cc

pub symlink-body : (o : Option Body) (target : List ℕ) → option_and_then target_in o ≡ Some target
    → o ≡ Some (Symlink target)
symlink-body None target is = absurd cc
symlink-body (Some (File text dirty shown)) target is = absurd cc
symlink-body (Some Dir) target is = absurd cc
symlink-body (Some (Symlink own)) target is =
    let same : own ≡ target = cc in ap (λ (x : List ℕ). Some (Symlink x)) same
symlink-body (Some (Semantic query permanent prohibited)) target is = absurd cc
symlink-body (Some (Mount space answers)) target is = absurd cc
symlink-body (Some Document) target is = absurd cc

pub semantic-body : (o : Option Body) (query : Formula ℕ) → option_and_then query_in o ≡ Some query
    → o ≡ Some (Semantic query (option_map_or permanent_in o []) (option_map_or prohibited_in o []))
semantic-body None query is = absurd cc
semantic-body (Some (File text dirty shown)) query is = absurd cc
semantic-body (Some Dir) query is = absurd cc
semantic-body (Some (Symlink target)) query is = absurd cc
semantic-body (Some (Semantic own permanent prohibited)) query is =
    let same : own ≡ query = cc in ap (λ (x : Formula ℕ). Some (Semantic x permanent prohibited)) same
semantic-body (Some (Mount space answers)) query is = absurd cc
semantic-body (Some Document) query is = absurd cc

pub mount-body : (o : Option Body) (space : List ℕ) → option_and_then space_in o ≡ Some space
    → o ≡ Some (Mount space (option_map_or answers_in o []))
mount-body None space is = absurd cc
mount-body (Some (File text dirty shown)) space is = absurd cc
mount-body (Some Dir) space is = absurd cc
mount-body (Some (Symlink target)) space is = absurd cc
mount-body (Some (Semantic query permanent prohibited)) space is = absurd cc
mount-body (Some (Mount own answers)) space is =
    let same : own ≡ space = cc in ap (λ (x : List ℕ). Some (Mount x answers)) same
mount-body (Some Document) space is = absurd cc

-- a symbolic link leads somewhere
pub symlink-target : (o : Option Body) → option_map_or is_symlink o false ≡ true
    → option_and_then target_in o ≡ None → ⊥
symlink-target None link none = cc
symlink-target (Some (File text dirty shown)) link none = cc
symlink-target (Some Dir) link none = cc
symlink-target (Some (Symlink target)) link none = cc
symlink-target (Some (Semantic query permanent prohibited)) link none = cc
symlink-target (Some (Mount space answers)) link none = cc
symlink-target (Some Document) link none = cc

-- a mount shows a space
pub mount-space : (o : Option Body) → option_map_or is_mount o false ≡ true → option_and_then space_in o ≡ None → ⊥
mount-space None mount none = cc
mount-space (Some (File text dirty shown)) mount none = cc
mount-space (Some Dir) mount none = cc
mount-space (Some (Symlink target)) mount none = cc
mount-space (Some (Semantic query permanent prohibited)) mount none = cc
mount-space (Some (Mount space answers)) mount none = cc
mount-space (Some Document) mount none = cc

-- a semantic directory asks a query
pub asks-none : (o : Option (Formula ℕ)) → is_some o ≡ true → o ≡ None → ⊥
asks-none None asks none = cc
asks-none (Some query) asks none = cc

-- what is known of a body of a kind; of the root there is none, and it is told to be a directory
abbrev pub IsOfKind : Option Body → EntryKind → Type 0
IsOfKind o kind.File = option_map_or is_file o false ≡ true
IsOfKind o kind.Dir = IsSome o → o ≡ Some Dir
IsOfKind o kind.Symlink = option_map_or is_symlink o false ≡ true
IsOfKind o kind.Semantic = is_some (option_and_then query_in o) ≡ true
IsOfKind o kind.Mount = option_map_or is_mount o false ≡ true
IsOfKind o kind.Document = o ≡ Some Document

of-own-kind : (o : Option Body) → IsOfKind o (option_map_or entry_kind o kind.Dir)
of-own-kind None = λ there. absurd cc
of-own-kind (Some (File text dirty shown)) = refl
of-own-kind (Some Dir) = λ there. refl
of-own-kind (Some (Symlink target)) = refl
of-own-kind (Some (Semantic query permanent prohibited)) = refl
of-own-kind (Some (Mount space answers)) = refl
of-own-kind (Some Document) = refl

-- an entry has a body
pub some-body : (o : Option Entry) → IsSome o → IsSome (option_map (λ (e : Entry). e.body) o)
some-body None there = there
some-body (Some e) there = refl

-- ---- an entry by its parts

-- the name of the entry of a number
abbrev pub name_at : List Entry → ℕ → Option (List ℕ)
name_at es n = option_map (λ (e : Entry). e.name) (entry_at es n)

-- what an entry in a directory is
abbrev made : ℕ → ℕ → List ℕ → Body → Entry
made number parent name body = record { number = number; parent = parent; name = name; body = body }

pub entry-found : (es : List Entry) (n : ℕ) (name : List ℕ) (body : Body) → name_at es n ≡ Some name
    → body_at es n ≡ Some body
    → entry_at es n ≡ Some (made n (option_map_or (λ (e : Entry). e.parent) (entry_at es n) 0) name body)
entry-found es n name body names bodies = one (entry_at es n) refl names bodies
  where
    one : (o : Option Entry) → entry_at es n ≡ o → option_map (λ (e : Entry). e.name) o ≡ Some name
        → option_map (λ (e : Entry). e.body) o ≡ Some body
        → o ≡ Some (made n (option_map_or (λ (e : Entry). e.parent) o 0) name body)
    one None found names bodies = absurd cc
    one (Some e) found names bodies =
        let own : e.number ≡ n = entry_at-number es n e found in
        let named : e.name ≡ name = cc in
        let is : e.body ≡ body = cc in
        λ i. Some (made (own i) e.parent (named i) (is i))

pub entry-stored : (s : State) (n : ℕ) (entry : Entry) (documents : List stored.Document)
    → entry_at s.entries n ≡ Some entry → documents ≡ documents_of s n
    → option_map (stored_entry s) (entry_at s.entries n) ≡ Some (record { entry = entry; documents = documents })
entry-stored s n entry documents found listed =
    let own : n ≡ entry.number = sym (entry_at-number s.entries n entry found) in
    ap (λ (o : Option Entry). option_map (stored_entry s) o) found
    ∙ (λ i. Some (record { entry = entry; documents = sym (listed ∙ ap (documents_of s) own) i }))

-- ---- the tree of a state

-- a part of a body that has to do neither with marks nor with answers
part-bare : {X : Type 0} (tell : Option Body → X) → ((body : Body) → tell (Some (bare_body body)) ≡ tell (Some body))
    → (s : State) (n : ℕ) → tell (body_at (bare s).entries n) ≡ tell (body_at s.entries n)
part-bare tell same s n =
    ap (λ (o : Option Entry). tell (option_map (λ (e : Entry). e.body) o)) (entry_at-bare s n)
    ∙ one (entry_at s.entries n)
  where
    one : (o : Option Entry)
        → tell (option_map (λ (e : Entry). e.body) (option_map (edited bare_body) o))
        ≡ tell (option_map (λ (e : Entry). e.body) o)
    one None = refl
    one (Some e) = same e.body

name-bare : (s : State) (n : ℕ) → name_at (bare s).entries n ≡ name_at s.entries n
name-bare s n =
    ap (λ (o : Option Entry). option_map (λ (e : Entry). e.name) o) (entry_at-bare s n) ∙ one (entry_at s.entries n)
  where
    one : (o : Option Entry)
        → option_map (λ (e : Entry). e.name) (option_map (edited bare_body) o) ≡ option_map (λ (e : Entry). e.name) o
    one None = refl
    one (Some e) = refl

space-bare : (body : Body) → space_in (bare_body body) ≡ space_in body
space-bare (Semantic query permanent prohibited) = refl
space-bare (Mount space answers) = refl
space-bare other = refl

-- what is in a directory is in order with its marks and answers and without
order-bare : (es : List Entry) → in_order (map (edited bare_body) es) ≡ map (edited bare_body) (in_order es)
order-bare [] = refl
order-bare (e ∷ es) = ap (put_in_order (edited bare_body e)) (order-bare es) ∙ put e (in_order es)
  where
    put : (e : Entry) (es : List Entry)
        → put_in_order (edited bare_body e) (map (edited bare_body) es) ≡ map (edited bare_body) (put_in_order e es)
    put e [] = refl
    put e (x ∷ es) = elim (is_before e.name x.name)
        as (λ b. cond b (edited bare_body e ∷ edited bare_body x ∷ map (edited bare_body) es)
        (edited bare_body x ∷ put_in_order (edited bare_body e) (map (edited bare_body) es))
        ≡ map (edited bare_body) (cond b (e ∷ x ∷ es) (x ∷ put_in_order e es))) [
          | true ↦ refl
          | false ↦ ap (λ (rest : List Entry). edited bare_body x ∷ rest) (put e es)
        ]

filter-bare : (test : Entry → Bool) → ((e : Entry) → test (edited bare_body e) ≡ test e) → (es : List Entry)
    → filter test (map (edited bare_body) es) ≡ map (edited bare_body) (filter test es)
filter-bare test same [] = refl
filter-bare test same (e ∷ es) =
    let rest : List Entry = filter test (map (edited bare_body) es) in
    ap (λ (b : Bool). cond b (edited bare_body e ∷ rest) rest) (same e) ∙ one (test e) (filter-bare test same es)
  where
    one : (b : Bool) → filter test (map (edited bare_body) es) ≡ map (edited bare_body) (filter test es)
        → cond b (edited bare_body e ∷ filter test (map (edited bare_body) es))
        (filter test (map (edited bare_body) es))
        ≡ map (edited bare_body) (cond b (e ∷ filter test es) (filter test es))
    one true rest = ap (λ (es : List Entry). edited bare_body e ∷ es) rest
    one false rest = rest

listed-bare : (es : List Entry) → map listed_document (map (edited bare_body) es) ≡ map listed_document es
listed-bare [] = refl
listed-bare (e ∷ es) = ap (λ (rest : List stored.Document). listed_document e ∷ rest) (listed-bare es)

documents-bare : (s : State) (dir : ℕ) → documents_of (bare s) dir ≡ documents_of s dir
documents-bare s dir =
    ap (λ (es : List Entry). map listed_document (filter (λ child. is_document child.body) es))
    (ap in_order (filter-bare (λ e. e.parent == dir) (λ e. refl) s.entries)
    ∙ order-bare (filter (λ e. e.parent == dir) s.entries))
    ∙ ap (λ (es : List Entry). map listed_document es)
    (filter-bare (λ child. is_document child.body) (λ e. keeps-document bare_body role-bare e.body) (children s dir))
    ∙ listed-bare (filter (λ child. is_document child.body) (children s dir))

module _ (s t : State) (bares : bare s ≡ bare t) where
  part : {X : Type 0} (tell : Option Body → X) → ((body : Body) → tell (Some (bare_body body)) ≡ tell (Some body))
      → (n : ℕ) → tell (body_at s.entries n) ≡ tell (body_at t.entries n)
  part tell same n = alike s t bares (λ s. tell (body_at s.entries n)) (λ s. part-bare tell same s n)

  same-kind : (n : ℕ) → entry_kind_at s.entries n ≡ entry_kind_at t.entries n
  same-kind n = part (λ o. option_map_or entry_kind o kind.Dir) kind-bare n

  -- a body is of the kind that the tree tells
  pub of-kind : (n : ℕ) (k : EntryKind) → entry_kind_at t.entries n ≡ k → IsOfKind (body_at s.entries n) k
  of-kind n k told =
      let own = of-own-kind (body_at s.entries n) in
      subst (λ (k : EntryKind). IsOfKind (body_at s.entries n) k) (same-kind n ∙ told) own

  pub same-text : (n : ℕ)
      → option_and_then text_in (body_at s.entries n) ≡ option_and_then text_in (body_at t.entries n)
  same-text n = alike s t bares (λ s. option_and_then text_in (body_at s.entries n)) (λ s. text_at-bare s n)

  pub same-dirty : (n : ℕ) → is_dirty_at s.entries n ≡ is_dirty_at t.entries n
  same-dirty n = part (λ o. option_map_or is_dirty o false) bare-dirty n

  pub same-space : (n : ℕ) → space_at s n ≡ space_at t n
  same-space n = part (λ o. option_and_then space_in o) space-bare n

  pub same-name : (n : ℕ) → name_at s.entries n ≡ name_at t.entries n
  same-name n = alike s t bares (λ s. name_at s.entries n) (λ s. name-bare s n)

  pub same-documents : (dir : ℕ) → documents_of s dir ≡ documents_of t dir
  same-documents dir = alike s t bares (λ s. documents_of s dir) (λ s. documents-bare s dir)
