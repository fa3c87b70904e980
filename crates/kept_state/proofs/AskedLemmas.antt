-- The query of each directory after an event, by the tree before it.
use Rattle.std.proofs.Common.{◌≡◌, ℕ, ◌+◌, Bool, true, false, cond, List, [], ◌∷◌, ◌++◌, refl, ap, sym, ◌∙◌}
use Rattle.std.specs.Prelude.{◌==◌, ◌&&◌, not, Option, Some, None, IsTrue, option_and_then}
use Rattle.std.specs.Option.{option_map, option_map_or}
use Rattle.std.proofs.lemmas.Bool.{and_parts, eqb-false, eqb-true, or_right}
use Rattle.hac_model.specs.Query.Formula.{Formula}
use Rattle.hac_model.specs.Tree.Events.{accepted, added, apply, asking, changed_at, edited, indexed, next_dirty, plain_body, reseated, rewritten}
use Rattle.hac_model.specs.Tree.Facts.{bare_after, put_at}
use Rattle.hac_model.specs.Tree.Links.{query_at}
use Rattle.hac_model.specs.Tree.Mounting.{documents_from, fresh, is_among, is_gone, is_of_mount, is_such_at, without_such}
use Rattle.hac_model.specs.Tree.Valid.{IsLayout, NumbersRise}
use Rattle.hac_model.specs.Tree.{entry_at, is_directory, is_directory_at, is_document, is_leaf, is_made_directory, is_mount, is_mount_at, query_in}
use Rattle.hac_model.specs.declared.events.Event.{Event}
use Rattle.hac_model.specs.declared.events.Event.TheVariants.{Mkdir, NewFile, Rewrite, Ln, Smkdir, Setq, Unq, Mark, Mv, Rm, Rmdir, Smount, Ssync, Sumount, Step, Cd}
use Rattle.hac_model.specs.declared.states.Body.{Body}
use Rattle.hac_model.specs.declared.states.Body.TheVariants.{File, Dir, Symlink, Semantic, Mount, Document}
use Rattle.hac_model.specs.declared.states.Entry.{Entry}
use Rattle.hac_model.specs.declared.states.State.{State}
use Rattle.hac_model.proofs.FillLemmas.{tree-law}
use Rattle.hac_model.proofs.MountAskLemmas.{entry_at-filter, of_mount-directory}
use Rattle.hac_model.proofs.ValidLemmas.{setq-parts}
use Rattle.hac_model.proofs.ViewLemmas.{put-same, seen-added, seen-changed, seen-kept, seen-plain, seen-removed}
use Rattle.kept_state.specs.After.{query_after}
use Rattle.kept_state.specs.Parts.{IsLinked, state_of}
use Rattle.kept_state.specs.declared.parts.Parts.{Parts}
use Rattle.kept_state.proofs.MountPutLemmas.{gone-mount}
use Rattle.kept_state.proofs.ReadyLemmas.{possible-of}
use Rattle.kept_state.proofs.StateLemmas.{kept-bares, same-leaf, same-made, same-mount, same-next-bare, same-query, tree-layout}
use Rattle.hac_model.proofs.AskLemmas.{mount-asks, rewritten-query}

-- the query of what was found
abbrev asked : Option Entry → Option (Formula ℕ)
asked found = option_and_then query_in (option_map (λ (x : Entry). x.body) found)

-- whether it passes a test
abbrev tested : (Body → Bool) → Option Entry → Bool
tested test found = option_map_or test (option_map (λ (x : Entry). x.body) found) false

-- What bodies ask.

indexed-asks : (body : Body) → query_in (indexed body) ≡ query_in body
indexed-asks (File text dirty shown) = refl
indexed-asks other = refl

plain-asks : (o : Option Entry) → asked (option_map (edited plain_body) o) ≡ None
plain-asks None = refl
plain-asks (Some e) = body e.body
  where
    body : (b : Body) → query_in (plain_body b) ≡ None
    body (Semantic query permanent prohibited) = refl
    body (File text dirty shown) = refl
    body Dir = refl
    body (Symlink target) = refl
    body (Mount space answers) = refl
    body Document = refl

-- a directory that isn't a mount can ask
holder-asks : (query : Formula ℕ) (o : Option Entry) → tested is_directory o ≡ true → tested is_mount o ≡ false → asked (option_map (edited (asking query)) o) ≡ Some query
holder-asks query None made plain = absurd cc
holder-asks query (Some e) made plain = body e.body made plain
  where
    body : (b : Body) → is_directory b ≡ true → is_mount b ≡ false → query_in (asking query b) ≡ Some query
    body Dir made plain = refl
    body (Semantic old permanent prohibited) made plain = refl
    body (File text dirty shown) made plain = absurd cc
    body (Symlink target) made plain = absurd cc
    body (Mount space answers) made plain = absurd cc
    body Document made plain = absurd cc

-- a leaf asks nothing
leaf-asks : (o : Option Entry) → tested is_leaf o ≡ true → None ≡ asked o
leaf-asks None leaf = refl
leaf-asks (Some e) leaf = body e.body leaf
  where
    body : (b : Body) → is_leaf b ≡ true → None ≡ query_in b
    body (File text dirty shown) leaf = refl
    body (Symlink target) leaf = refl
    body Dir leaf = absurd cc
    body (Semantic query permanent prohibited) leaf = absurd cc
    body (Mount space answers) leaf = absurd cc
    body Document leaf = refl

-- Mounts and their documents ask nothing.

documents-ask : (es : List Entry) (first mount n : ℕ) (names : List (List ℕ)) → asked (entry_at (es ++ documents_from first mount names) n) ≡ asked (entry_at es n)
documents-ask [] first mount n [] = refl
documents-ask [] first mount n (name ∷ names) =
    elim (first == n) as (λ b. asked (cond b (Some (record { number = first; parent = mount; name = name; body = Document })) (entry_at (documents_from (first + 1) mount names) n)) ≡ None) [
      | true ↦ refl
      | false ↦ documents-ask [] (first + 1) mount n names
    ]
documents-ask (e ∷ es) first mount n names =
    elim (e.number == n) as (λ b. asked (cond b (Some e) (entry_at (es ++ documents_from first mount names) n)) ≡ asked (cond b (Some e) (entry_at es n))) [
      | true ↦ refl
      | false ↦ documents-ask es first mount n names
    ]

-- where entries go that ask nothing, the others ask what they did
module _ (test : Entry → Bool) (t : State) (n : ℕ) (rise : NumbersRise 0 t.entries t.next) where
  going-asks : ((e : Entry) → entry_at t.entries n ≡ Some e → test e ≡ true → query_in e.body ≡ None) → query_at (without_such test t) n ≡ query_at t n
  going-asks none = ap asked (entry_at-filter (λ e. not (test e)) 0 t.entries t.next n rise) ∙ at (entry_at t.entries n) refl
    where
      one : (e : Entry) → entry_at t.entries n ≡ Some e → (b : Bool) → test e ≡ b → asked (cond (not b) (Some e) None) ≡ query_in e.body
      one e there true is = sym (none e there is)
      one e there false is = refl

      at : (o : Option Entry) → entry_at t.entries n ≡ o → asked (option_and_then (λ (e : Entry). cond (not (test e)) (Some e) None) o) ≡ asked o
      at None there = refl
      at (Some e) there = one e there (test e) refl

gone-asks : (mount : ℕ) (names : List (List ℕ)) (e : Entry) → is_gone mount names e ≡ true → query_in e.body ≡ None
gone-asks mount names e gone = body e.body (and_parts (is_document e.body) (e.parent == mount && not (is_among names e.name)) gone).0
  where
    body : (b : Body) → is_document b ≡ true → query_in b ≡ None
    body Document document = refl
    body (File text dirty shown) document = refl
    body Dir document = refl
    body (Symlink target) document = refl
    body (Mount space answers) document = refl
    body (Semantic query permanent prohibited) document = absurd cc

directory-asks : (b : Body) → is_directory b ≡ false → query_in b ≡ None
directory-asks (Semantic query permanent prohibited) none = absurd cc
directory-asks (File text dirty shown) none = refl
directory-asks Dir none = refl
directory-asks (Symlink target) none = refl
directory-asks (Mount space answers) none = refl
directory-asks Document none = refl

-- The tree after an event.

-- a step asks nothing
pub stepped-asks : (t : State) (n : ℕ) → query_at (apply t Step) n ≡ query_at t n
stepped-asks t n = elim (next_dirty t.entries) as (λ o. query_at (option_map_or (λ file. changed_at t file (edited indexed)) o t) n ≡ query_at t n) [
  | None ↦ refl
  | Some file ↦ seen-kept asked t.entries file (edited indexed) (λ e. refl) (λ e. indexed-asks e.body) n
]

module _ (t : State) (layout : IsLayout t) (n : ℕ) where
  abbrev rise : NumbersRise 0 t.entries t.next
  rise = layout.numbers

  abbrev seen : ℕ → Option (Formula ℕ)
  seen = query_at t

  plain-added : (dir : ℕ) (name : List ℕ) (body : Body) → query_in body ≡ None → query_at (added t dir name body) n ≡ query_at t n
  plain-added dir name body none = seen-plain asked t.entries (record { number = t.next; parent = dir; name = name; body = body }) rise none n

  same-changed : (k : ℕ) (edit : Body → Body) → ((b : Body) → query_in (edit b) ≡ query_in b) → query_at (changed_at t k (edited edit)) n ≡ query_at t n
  same-changed k edit same = seen-kept asked t.entries k (edited edit) (λ e. refl) (λ e. same e.body) n

  unmounted : (mount : ℕ) → is_mount_at t.entries mount ≡ true → query_at (without_such (is_of_mount mount) t) n ≡ query_at t n
  unmounted mount there = going-asks (is_of_mount mount) t n rise (λ e found gone. at e found gone (is_directory e.body) refl)
    where
      at : (e : Entry) → entry_at t.entries n ≡ Some e → is_of_mount mount e ≡ true → (b : Bool) → is_directory e.body ≡ b → query_in e.body ≡ None
      at e found gone false kind = directory-asks e.body kind
      at e found gone true kind = own (n == mount) refl
        where
          directory : is_directory_at t.entries n ≡ true
          directory = or_right (n == 0) (is_made_directory t.entries n) (ap (tested is_directory) found ∙ kind)

          own : (b : Bool) → (n == mount) ≡ b → query_in e.body ≡ None
          own true here = mount-asks e.body (sym (ap (tested is_mount) found) ∙ ap (is_mount_at t.entries) (eqb-true n mount here) ∙ there)
          own false other =
              let left : is_such_at (is_of_mount mount) t.entries n ≡ false = of_mount-directory t mount n layout there directory (eqb-false n mount other) in
              let never : true ≡ false = sym gone ∙ sym (ap (λ (o : Option Entry). option_map_or (is_of_mount mount) o false) found) ∙ left in
              absurd cc

module _ (kept : Parts) (h : IsLinked kept) (n : ℕ) where
  abbrev s : State
  s = state_of kept

  abbrev t : State
  t = kept.tree.state

  layout : IsLayout t
  layout = tree-layout kept h

  tree-asks : (e : Event) → IsTrue (accepted s e) → query_at (bare_after e t) n ≡ query_after e t n
  tree-asks (Mkdir dir name) ok = plain-added t layout n dir name Dir refl
  tree-asks (NewFile dir name text) ok = plain-added t layout n dir name (File text true None) refl
  tree-asks (Ln dir name target) ok = plain-added t layout n dir name (Symlink target) refl
  tree-asks (Smkdir dir name query told) ok = seen-added asked t.entries (record { number = t.next; parent = dir; name = name; body = Semantic query [] [] }) layout.numbers n
  tree-asks (Setq dir query told) ok =
      let parts = setq-parts s dir query told (possible-of s (Setq dir query told) ok) in
      seen-changed asked t.entries dir (edited (asking query)) (λ e. refl) n
      ∙ ap (λ (now : Option (Formula ℕ)). put_at (query_at t) dir now n)
      (holder-asks query (entry_at t.entries dir) (sym (same-made s t (kept-bares kept) dir) ∙ parts.0) (sym (same-mount s t (kept-bares kept) dir) ∙ parts.4))
  tree-asks (Unq dir) ok =
      seen-changed asked t.entries dir (edited plain_body) (λ e. refl) n
      ∙ ap (λ (now : Option (Formula ℕ)). put_at (query_at t) dir now n) (plain-asks (entry_at t.entries dir))
  tree-asks (Mark mark) ok = refl
  tree-asks (Mv entry dir name) ok = seen-kept asked t.entries entry (reseated dir name) (λ e. refl) (λ e. refl) n
  tree-asks (Rm entry) ok =
      seen-removed asked t.entries entry n
      ∙ put-same (query_at t) entry None n (leaf-asks (entry_at t.entries entry) (sym (same-leaf s t (kept-bares kept) entry) ∙ possible-of s (Rm entry) ok))
  tree-asks (Rmdir dir) ok = seen-removed asked t.entries dir n
  tree-asks (Rewrite file text) ok = same-changed t layout n file (rewritten text) (rewritten-query text)
  tree-asks Step ok = stepped-asks t n
  tree-asks (Cd session dir) ok = refl
  tree-asks (Smount dir name space documents told) ok =
      documents-ask (added t dir name (Mount space [])).entries (t.next + 1) t.next n documents ∙ plain-added t layout n dir name (Mount space []) refl
  tree-asks (Ssync mount documents told) ok =
      documents-ask (without_such (is_gone mount documents) t).entries t.next mount n (fresh t mount documents)
      ∙ going-asks (is_gone mount documents) t n layout.numbers (λ e found gone. gone-asks mount documents e gone)
  tree-asks (Sumount mount) ok = unmounted t layout n mount (gone-mount kept mount ok)

  pub event-asks : (e : Event) → IsTrue (accepted s e) → query_at (apply s e) n ≡ query_after e t n
  event-asks e ok =
      same-query (apply s e) (bare_after e t) (same-next-bare s t (kept-bares kept) e ∙ sym (tree-law e t)) n
      ∙ tree-asks e ok
