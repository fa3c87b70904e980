-- What is asked of the tree after an event, from the tree before it.
use Rattle.std.proofs.Common.{◌≡◌, ℕ, Bool, true, false, cond, List, [], refl, ap, sym, ◌∙◌, eq-eqb}
use Rattle.std.specs.Prelude.{◌==◌, ◌&&◌, not, Option, Some, None, is_some, option_and_then}
use Rattle.std.specs.Option.{option_map, option_map_or}
use Rattle.std.proofs.lemmas.Bool.{and_parts, eqb-false, eqb-true, ne_eqb, not-true}
use Rattle.hac_model.specs.Query.Formula.{Formula}
use Rattle.hac_model.specs.Tree.Changes.{asking, edited, indexed, plain_body, reseated, rewritten}
use Rattle.hac_model.specs.Tree.Events.{is_made_holder, next_dirty}
use Rattle.hac_model.specs.Tree.Facts.{bare_after}
use Rattle.hac_model.specs.Tree.Links.{is_item, parent_of, query_at, shown_of}
use Rattle.hac_model.specs.Tree.{entry_at, is_directory, is_document, is_document_at, is_linkable, is_made_directory, is_mount, is_mount_at, query_in, shown_text, text_in}
use Rattle.hac_model.specs.declared.events.Event.{Event}
use Rattle.hac_model.specs.declared.events.Event.TheVariants.{Rewrite, Setq, Unq, Mv, Smount, Step}
use Rattle.hac_model.specs.declared.states.Body.{Body}
use Rattle.hac_model.specs.declared.states.Body.TheVariants.{File, Dir, Symlink, Semantic, Mount, Document}
use Rattle.hac_model.specs.declared.states.Entry.{Entry}
use Rattle.hac_model.specs.declared.states.State.{State}
use Rattle.hac_model.proofs.ChangeLemmas.{touched, touched-keeps}
use Rattle.hac_model.proofs.TreeLemmas.{entry_at-number}
use Rattle.scope_rules.specs.Fates.{SuitsTree, goes, is_indexed, left_parent, left_query, left_shown, new_body, new_parent}
use Rattle.scope_rules.proofs.EntryLemmas.{IsNew, left_at, stayed}
use Rattle.hac_model.proofs.KindLemmas.{role-indexed, keeps-directory, keeps-document, keeps-item}
use Rattle.hac_model.proofs.BoolLemmas.{and-false, and-true}

-- Bodies that are edited.

-- what is told of bodies is the same after each edit of a text or a query
record Keeps {X : Type 0} (tell : Body → X) : Type 0 where
  rewrites : (text : List ℕ) (body : Body) → tell (rewritten text body) ≡ tell body
  asks : (query : Formula ℕ) (body : Body) → tell (asking query body) ≡ tell body
  plains : (body : Body) → tell (plain_body body) ≡ tell body

linkable-keeps : Keeps is_linkable
linkable-keeps = record { rewrites = rewrites; asks = asks; plains = plains }
  where
    rewrites : (text : List ℕ) (body : Body) → is_linkable (rewritten text body) ≡ is_linkable body
    rewrites text (File old dirty shown) = refl
    rewrites text other = refl

    asks : (query : Formula ℕ) (body : Body) → is_linkable (asking query body) ≡ is_linkable body
    asks query Dir = refl
    asks query (Semantic old permanent prohibited) = refl
    asks query other = refl

    plains : (body : Body) → is_linkable (plain_body body) ≡ is_linkable body
    plains (Semantic query permanent prohibited) = refl
    plains other = refl

directory-keeps : Keeps is_directory
directory-keeps = record { rewrites = rewrites; asks = asks; plains = plains }
  where
    rewrites : (text : List ℕ) (body : Body) → is_directory (rewritten text body) ≡ is_directory body
    rewrites text (File old dirty shown) = refl
    rewrites text other = refl

    asks : (query : Formula ℕ) (body : Body) → is_directory (asking query body) ≡ is_directory body
    asks query Dir = refl
    asks query (Semantic old permanent prohibited) = refl
    asks query other = refl

    plains : (body : Body) → is_directory (plain_body body) ≡ is_directory body
    plains (Semantic query permanent prohibited) = refl
    plains other = refl

document-keeps : Keeps is_document
document-keeps = record { rewrites = rewrites; asks = asks; plains = plains }
  where
    rewrites : (text : List ℕ) (body : Body) → is_document (rewritten text body) ≡ is_document body
    rewrites text (File old dirty shown) = refl
    rewrites text other = refl

    asks : (query : Formula ℕ) (body : Body) → is_document (asking query body) ≡ is_document body
    asks query Dir = refl
    asks query (Semantic old permanent prohibited) = refl
    asks query other = refl

    plains : (body : Body) → is_document (plain_body body) ≡ is_document body
    plains (Semantic query permanent prohibited) = refl
    plains other = refl

shown-keeps : Keeps shown_text
shown-keeps = record { rewrites = rewrites; asks = asks; plains = plains }
  where
    rewrites : (text : List ℕ) (body : Body) → shown_text (rewritten text body) ≡ shown_text body
    rewrites text (File old dirty shown) = refl
    rewrites text other = refl

    asks : (query : Formula ℕ) (body : Body) → shown_text (asking query body) ≡ shown_text body
    asks query Dir = refl
    asks query (Semantic old permanent prohibited) = refl
    asks query other = refl

    plains : (body : Body) → shown_text (plain_body body) ≡ shown_text body
    plains (Semantic query permanent prohibited) = refl
    plains other = refl

-- an entry stays what it is, a step aside
stays-but : {X : Type 0} (tell : Body → X) → Keeps tell → (e : Event) (es : List Entry) (x : Entry) → (e ≡ Step → ⊥) → tell (stayed e es x).body ≡ tell x.body
stays-but tell keeps (Rewrite file text) es x no-step = touched-keeps (λ x. tell x.body) file (edited (rewritten text)) x (keeps.rewrites text x.body)
stays-but tell keeps (Setq dir query told) es x no-step = touched-keeps (λ x. tell x.body) dir (edited (asking query)) x (keeps.asks query x.body)
stays-but tell keeps (Unq dir) es x no-step = touched-keeps (λ x. tell x.body) dir (edited plain_body) x (keeps.plains x.body)
stays-but tell keeps (Mv entry dir name) es x no-step = touched-keeps (λ x. tell x.body) entry (reseated dir name) x refl
stays-but tell keeps Step es x no-step = absurd (no-step refl)
stays-but tell keeps other es x no-step = refl

-- also by a step, where indexing keeps it
stays : {X : Type 0} (tell : Body → X) → Keeps tell → ((body : Body) → tell (indexed body) ≡ tell body) → (e : Event) (es : List Entry) (x : Entry) → tell (stayed e es x).body ≡ tell x.body
stays tell keeps indexes Step es x = elim (next_dirty es) as (λ o. tell (option_map_or (λ file. touched file (edited indexed)) o (λ e. e) x).body ≡ tell x.body) [
  | None ↦ refl
  | Some file ↦ touched-keeps (λ x. tell x.body) file (edited indexed) x (indexes x.body)
]
stays tell keeps indexes (Rewrite file text) es x = stays-but tell keeps (Rewrite file text) es x (λ same. absurd cc)
stays tell keeps indexes (Setq dir query told) es x = stays-but tell keeps (Setq dir query told) es x (λ same. absurd cc)
stays tell keeps indexes (Unq dir) es x = stays-but tell keeps (Unq dir) es x (λ same. absurd cc)
stays tell keeps indexes (Mv entry dir name) es x = stays-but tell keeps (Mv entry dir name) es x (λ same. absurd cc)
stays tell keeps indexes other es x = refl

-- Tests of what has a number.

-- whether an entry passes a test
abbrev tested : (Body → Bool) → Option Entry → Bool
tested test found = option_map_or test (option_map (λ (x : Entry). x.body) found) false

-- of what is left after the event
tested-kept : (test : Body → Bool) (e : Event) (t : State) (n : ℕ) → ((x : Entry) → test (stayed e t.entries x).body ≡ test x.body) →
    tested test (left_at e t n) ≡ (tested test (entry_at t.entries n) && not (goes e t n))
tested-kept test e t n same = elim (goes e t n) as (λ b. tested test (cond b None (option_map (stayed e t.entries) (entry_at t.entries n))) ≡ (tested test (entry_at t.entries n) && not b)) [
  | true ↦ sym (and-false (tested test (entry_at t.entries n)))
  | false ↦ at (entry_at t.entries n) ∙ sym (and-true (tested test (entry_at t.entries n)))
]
  where
    at : (o : Option Entry) → tested test (option_map (stayed e t.entries) o) ≡ tested test o
    at None = refl
    at (Some x) = same x

module _ (e : Event) (t : State) (n : ℕ) (is : entry_at (bare_after e t).entries n ≡ left_at e t n) where
  pub item-left : is_item (bare_after e t) n ≡ (is_item t n && not (goes e t n))
  item-left = ap (tested is_linkable) is ∙ tested-kept is_linkable e t n (stays is_linkable linkable-keeps (keeps-item indexed role-indexed) e t.entries)

  pub directory-left : is_made_directory (bare_after e t).entries n ≡ (is_made_directory t.entries n && not (goes e t n))
  directory-left = ap (tested is_directory) is ∙ tested-kept is_directory e t n (stays is_directory directory-keeps (keeps-directory indexed role-indexed) e t.entries)

  pub document-left : is_document_at (bare_after e t).entries n ≡ (is_document_at t.entries n && not (goes e t n))
  document-left = ap (tested is_document) is ∙ tested-kept is_document e t n (stays is_document document-keeps (keeps-document indexed role-indexed) e t.entries)

module _ (e : Event) (t : State) (n : ℕ) (x : Entry) (is : IsNew e t n x) where
  new-tested : (test : Body → Bool) → tested test (entry_at (bare_after e t).entries n) ≡ option_map_or test (new_body e t.next n) false
  new-tested test = ap (tested test) is.found ∙ ap (λ (o : Option Body). option_map_or test o false) is.body

  pub new-item : is_item (bare_after e t) n ≡ option_map_or is_linkable (new_body e t.next n) false
  new-item = new-tested is_linkable

  pub new-directory : is_made_directory (bare_after e t).entries n ≡ option_map_or is_directory (new_body e t.next n) false
  new-directory = new-tested is_directory

  pub new-document : is_document_at (bare_after e t).entries n ≡ option_map_or is_document (new_body e t.next n) false
  new-document = new-tested is_document

  pub new-parent : parent_of (bare_after e t) n ≡ new_parent e t.next n
  new-parent = ap (λ (o : Option Entry). option_map_or (λ (x : Entry). x.parent) o 0) is.found ∙ is.parent

  pub new-query : query_at (bare_after e t) n ≡ option_and_then query_in (new_body e t.next n)
  new-query = ap (λ (o : Option Entry). option_and_then query_in (option_map (λ (x : Entry). x.body) o)) is.found ∙ ap (λ (o : Option Body). option_and_then query_in o) is.body

-- The text by which a file is judged.

-- the text that was last indexed of what was found
abbrev shown-in : Option Entry → Option (List ℕ)
shown-in found = option_and_then shown_text (option_map (λ (x : Entry). x.body) found)

-- what is indexed shows its own text
indexed-shows : (body : Body) → shown_text (indexed body) ≡ text_in body
indexed-shows (File text dirty shown) = refl
indexed-shows other = refl

module _ (t : State) (n : ℕ) where
  step-shows : (o : Option ℕ) (x : Entry) → entry_at t.entries n ≡ Some x →
      shown_text (option_map_or (λ file. touched file (edited indexed)) o (λ e. e) x).body ≡ cond (option_map_or (λ file. file == n) o false) (text_in x.body) (shown_text x.body)
  step-shows None x there = refl
  step-shows (Some file) x there = elim (file == n) as (λ b. (file == n) ≡ b → shown_text (touched file (edited indexed) x).body ≡ cond b (text_in x.body) (shown_text x.body)) [
    | true ↦ (λ here.
        ap (λ (b : Bool). shown_text (cond b (edited indexed x) x).body) (eq-eqb x.number file (entry_at-number t.entries n x there ∙ sym (eqb-true file n here)))
        ∙ indexed-shows x.body)
    | false ↦ (λ other.
        ap (λ (b : Bool). shown_text (cond b (edited indexed x) x).body) (ne_eqb x.number file (λ same. eqb-false file n other (sym same ∙ entry_at-number t.entries n x there))))
  ] refl

  shows : (e : Event) (x : Entry) → entry_at t.entries n ≡ Some x → shown_text (stayed e t.entries x).body ≡ cond (is_indexed e t n) (text_in x.body) (shown_text x.body)
  shows Step x there = step-shows (next_dirty t.entries) x there
  shows (Rewrite file text) x there = stays-but shown_text shown-keeps (Rewrite file text) t.entries x (λ same. absurd cc)
  shows (Setq dir query told) x there = stays-but shown_text shown-keeps (Setq dir query told) t.entries x (λ same. absurd cc)
  shows (Unq dir) x there = stays-but shown_text shown-keeps (Unq dir) t.entries x (λ same. absurd cc)
  shows (Mv entry dir name) x there = stays-but shown_text shown-keeps (Mv entry dir name) t.entries x (λ same. absurd cc)
  shows other x there = refl

  shown-stays : (e : Event) (o : Option Entry) → entry_at t.entries n ≡ o →
      shown-in (option_map (stayed e t.entries) o) ≡ cond (is_indexed e t n) (option_and_then text_in (option_map (λ (x : Entry). x.body) o)) (shown-in o)
  shown-stays e None there = elim (is_indexed e t n) as (λ b. None ≡ cond {A = Option (List ℕ)} b None None) [ true ↦ refl | false ↦ refl ]
  shown-stays e (Some x) there = shows e x there

  pub shown-left : (e : Event) → entry_at (bare_after e t).entries n ≡ left_at e t n → shown_of (bare_after e t) n ≡ cond (goes e t n) None (left_shown e t n)
  shown-left e is =
      ap shown-in is
      ∙ (elim (goes e t n) as (λ b. shown-in (cond b None (option_map (stayed e t.entries) (entry_at t.entries n))) ≡ cond b None (left_shown e t n)) [
        | true ↦ refl
        | false ↦ shown-stays e (entry_at t.entries n) refl
      ])

-- nothing new was indexed
unshown-new : (e : Event) (first n : ℕ) → option_and_then shown_text (new_body e first n) ≡ None
unshown-new (Smount dir name space documents told) first n = elim (n == first) as (λ b. shown_text (cond b (Mount space []) Document) ≡ None) [ true ↦ refl | false ↦ refl ]
unshown-new other first n = refl

pub new-shown : (e : Event) (t : State) (n : ℕ) (x : Entry) → IsNew e t n x → shown_of (bare_after e t) n ≡ None
new-shown e t n x is = ap shown-in is.found ∙ ap (λ (o : Option Body). option_and_then shown_text o) is.body ∙ unshown-new e t.next n

-- Where entries are, and what they ask.

module _ (t : State) (n : ℕ) where
  -- an entry that moves is there
  moved-parent : (entry dir : ℕ) (name : List ℕ) → is_some (entry_at t.entries entry) ≡ true → option_map_or (λ (x : Entry). x.parent) (option_map (touched entry (reseated dir name)) (entry_at t.entries n)) 0 ≡ cond (n == entry) dir (parent_of t n)
  moved-parent entry dir name some = at (entry_at t.entries n) refl
    where
      at : (o : Option Entry) → entry_at t.entries n ≡ o → option_map_or (λ (x : Entry). x.parent) (option_map (touched entry (reseated dir name)) o) 0 ≡ cond (n == entry) dir (option_map_or (λ (x : Entry). x.parent) o 0)
      at None there = ap (λ (b : Bool). cond b dir 0) (sym (ne_eqb n entry (λ same.
          let never : false ≡ true = ap (λ (o : Option Entry). is_some o) (sym there) ∙ ap (λ (k : ℕ). is_some (entry_at t.entries k)) same ∙ some in absurd cc)))
      at (Some x) there =
          ap (λ (k : ℕ). (cond (k == entry) (reseated dir name x) x).parent) (entry_at-number t.entries n x there)
          ∙ (elim (n == entry) as (λ b. (cond b (reseated dir name x) x).parent ≡ cond b dir x.parent) [ true ↦ refl | false ↦ refl ])

  edited-parent : (k : ℕ) (edit : Body → Body) (o : Option Entry) → option_map_or (λ (x : Entry). x.parent) (option_map (touched k (edited edit)) o) 0 ≡ option_map_or (λ (x : Entry). x.parent) o 0
  edited-parent k edit None = refl
  edited-parent k edit (Some x) = touched-keeps (λ x. x.parent) k (edited edit) x refl

  same-parent : (o : Option Entry) → option_map_or (λ (x : Entry). x.parent) (option_map (λ (x : Entry). x) o) 0 ≡ option_map_or (λ (x : Entry). x.parent) o 0
  same-parent None = refl
  same-parent (Some x) = refl

  parents : (e : Event) → SuitsTree e t → option_map_or (λ (x : Entry). x.parent) (option_map (stayed e t.entries) (entry_at t.entries n)) 0 ≡ left_parent e t n
  parents (Mv entry dir name) seated = moved-parent entry dir name seated
  parents (Rewrite file text) seated = edited-parent file (rewritten text) (entry_at t.entries n)
  parents (Setq dir query told) seated = edited-parent dir (asking query) (entry_at t.entries n)
  parents (Unq dir) seated = edited-parent dir plain_body (entry_at t.entries n)
  parents Step seated = elim (next_dirty t.entries) as (λ o. option_map_or (λ (x : Entry). x.parent) (option_map (option_map_or (λ file. touched file (edited indexed)) o (λ e. e)) (entry_at t.entries n)) 0 ≡ parent_of t n) [
    | None ↦ same-parent (entry_at t.entries n)
    | Some file ↦ edited-parent file indexed (entry_at t.entries n)
  ]
  parents other seated = same-parent (entry_at t.entries n)

  pub parent-left : (e : Event) → SuitsTree e t → entry_at (bare_after e t).entries n ≡ left_at e t n → parent_of (bare_after e t) n ≡ cond (goes e t n) 0 (left_parent e t n)
  parent-left e seated is =
      ap (λ (o : Option Entry). option_map_or (λ (x : Entry). x.parent) o 0) is
      ∙ (elim (goes e t n) as (λ b. option_map_or (λ (x : Entry). x.parent) (cond b None (option_map (stayed e t.entries) (entry_at t.entries n))) 0 ≡ cond b 0 (left_parent e t n)) [
        | true ↦ refl
        | false ↦ parents e seated
      ])

  -- the query of what was found
  abbrev asked : Option Entry → Option (Formula ℕ)
  asked found = option_and_then query_in (option_map (λ (x : Entry). x.body) found)

  -- a directory that isn't a mount can ask
  asking-asks : (query : Formula ℕ) (body : Body) → is_directory body ≡ true → is_mount body ≡ false → query_in (asking query body) ≡ Some query
  asking-asks query Dir made holds = refl
  asking-asks query (Semantic old permanent prohibited) made holds = refl
  asking-asks query other made holds = absurd cc

  plain-asks : (body : Body) → query_in (plain_body body) ≡ None
  plain-asks (Semantic query permanent prohibited) = refl
  plain-asks (File text dirty shown) = refl
  plain-asks Dir = refl
  plain-asks (Symlink target) = refl
  plain-asks (Mount space answers) = refl
  plain-asks Document = refl

  -- the entry with the number is edited
  edited-asks : (k : ℕ) (edit : Body → Body) (now : Option (Formula ℕ)) → ((x : Entry) → entry_at t.entries k ≡ Some x → query_in (edit x.body) ≡ now) → (entry_at t.entries k ≡ None → now ≡ None) → asked (option_map (touched k (edited edit)) (entry_at t.entries n)) ≡ cond (n == k) now (query_at t n)
  edited-asks k edit now same none = elim (n == k) as (λ b. (n == k) ≡ b → asked (option_map (touched k (edited edit)) (entry_at t.entries n)) ≡ cond b now (query_at t n)) [
    | true ↦ (λ here. own (eqb-true n k here) (entry_at t.entries n) refl)
    | false ↦ (λ other. others (eqb-false n k other) (entry_at t.entries n) refl)
  ] refl
    where
      own : n ≡ k → (o : Option Entry) → entry_at t.entries n ≡ o → asked (option_map (touched k (edited edit)) o) ≡ now
      own here None there = sym (none (ap (entry_at t.entries) (sym here) ∙ there))
      own here (Some x) there =
          ap (λ (b : Bool). query_in (cond b (edited edit x) x).body) (eq-eqb x.number k (entry_at-number t.entries n x there ∙ here))
          ∙ same x (ap (entry_at t.entries) (sym here) ∙ there)

      others : (n ≡ k → ⊥) → (o : Option Entry) → entry_at t.entries n ≡ o → asked (option_map (touched k (edited edit)) o) ≡ asked o
      others apart None there = refl
      others apart (Some x) there = ap (λ (b : Bool). query_in (cond b (edited edit x) x).body) (ne_eqb x.number k (λ same. apart (sym (entry_at-number t.entries n x there) ∙ same)))

  kept-asks : (k : ℕ) (edit : Body → Body) → ((body : Body) → query_in (edit body) ≡ query_in body) → (o : Option Entry) → asked (option_map (touched k (edited edit)) o) ≡ asked o
  kept-asks k edit same None = refl
  kept-asks k edit same (Some x) = touched-keeps (λ x. query_in x.body) k (edited edit) x (same x.body)

  same-asks : (o : Option Entry) → asked (option_map (λ (x : Entry). x) o) ≡ asked o
  same-asks None = refl
  same-asks (Some x) = refl

  rewritten-asks : (text : List ℕ) (body : Body) → query_in (rewritten text body) ≡ query_in body
  rewritten-asks text (File old dirty shown) = refl
  rewritten-asks text other = refl

  indexed-asks : (body : Body) → query_in (indexed body) ≡ query_in body
  indexed-asks (File text dirty shown) = refl
  indexed-asks other = refl

  moved-asks : (entry dir : ℕ) (name : List ℕ) (o : Option Entry) → asked (option_map (touched entry (reseated dir name)) o) ≡ asked o
  moved-asks entry dir name None = refl
  moved-asks entry dir name (Some x) = touched-keeps (λ x. query_in x.body) entry (reseated dir name) x refl

  holder-asks : (dir : ℕ) (query : Formula ℕ) → is_made_holder t dir ≡ true → asked (option_map (touched dir (edited (asking query))) (entry_at t.entries n)) ≡ cond (n == dir) (Some query) (query_at t n)
  holder-asks dir query held =
      let parts = and_parts (is_made_directory t.entries dir) (not (is_mount_at t.entries dir)) held in
      edited-asks dir (asking query) (Some query)
      (λ x there. asking-asks query x.body (sym (ap (tested is_directory) there) ∙ parts.0) (not-true (is_mount x.body) (sym (ap (λ (o : Option Entry). not (tested is_mount o)) there) ∙ parts.1)))
      (λ none. let never : false ≡ true = sym (ap (tested is_directory) none) ∙ parts.0 in absurd cc)

  asks : (e : Event) → SuitsTree e t → asked (option_map (stayed e t.entries) (entry_at t.entries n)) ≡ left_query e t n
  asks (Setq dir query told) seated = holder-asks dir query seated
  asks (Unq dir) seated = edited-asks dir plain_body None (λ x there. plain-asks x.body) (λ none. refl)
  asks (Rewrite file text) seated = kept-asks file (rewritten text) (rewritten-asks text) (entry_at t.entries n)
  asks (Mv entry dir name) seated = moved-asks entry dir name (entry_at t.entries n)
  asks Step seated = elim (next_dirty t.entries) as (λ o. asked (option_map (option_map_or (λ file. touched file (edited indexed)) o (λ e. e)) (entry_at t.entries n)) ≡ query_at t n) [
    | None ↦ same-asks (entry_at t.entries n)
    | Some file ↦ kept-asks file indexed indexed-asks (entry_at t.entries n)
  ]
  asks other seated = same-asks (entry_at t.entries n)

  pub query-left : (e : Event) → SuitsTree e t → entry_at (bare_after e t).entries n ≡ left_at e t n → query_at (bare_after e t) n ≡ cond (goes e t n) None (left_query e t n)
  query-left e seated is =
      ap asked is
      ∙ (elim (goes e t n) as (λ b. asked (cond b None (option_map (stayed e t.entries) (entry_at t.entries n))) ≡ cond b None (left_query e t n)) [
        | true ↦ refl
        | false ↦ asks e seated
      ])
