-- From what stays alike of an item and of directories to what all directories say of the item.
use Rattle.std.proofs.Common.{◌≡◌, ℕ, Bool, true, false, List, [], ◌∷◌, subst, refl, ap, sym, ◌∙◌}
use Rattle.std.specs.Prelude.{◌&&◌, ◌||◌, ◌++◌, drop, if◌then◌else◌, length, Option, Some, None, IsTrue, is_some, option_and_then}
use Rattle.std.specs.List.{AllByRecursion}
use Rattle.std.specs.Option.{option_map, option_map_or}
use Rattle.std.proofs.Math.Bool.{and-false}
use Rattle.std.proofs.Math.Seq.{drop-append_seam}
use Rattle.hac_model.specs.Query.Formula.{Formula}
use Rattle.hac_model.specs.Query.Queries.{terms_of}
use Rattle.hac_model.specs.Query.Words.{has_term}
use Rattle.hac_model.specs.Tree.Depends.{Among, depends, named_in}
use Rattle.hac_model.specs.Tree.Links.{answers_at, atom, has, is_below, is_item, is_judged, is_lent, is_permanent, is_prohibited, is_semantic, kept_at, lenders, parent_of, passes, query_at, shown_of}
use Rattle.hac_model.specs.Tree.Mounts.{is_kept, terms_in, terms_in_use}
use Rattle.hac_model.specs.Tree.Valid.{IsValid, KeepsWell, is_in_place}
use Rattle.hac_model.specs.Tree.{answers_in, body_at, entry_at, extends, is_directory_at, is_document, is_document_at, is_holder_at, is_mount, is_mount_at, path_of, query_in}
use Rattle.hac_model.specs.declared.states.Answer.{Answer}
use Rattle.hac_model.specs.declared.states.Body.{Body}
use Rattle.hac_model.specs.declared.states.Body.TheVariants.{File, Dir, Symlink, Semantic, Mount, Document}
use Rattle.hac_model.specs.declared.states.Entry.{Entry}
use Rattle.hac_model.specs.declared.states.State.{State}
use Rattle.hac_model.specs.declared.terms.Term.{Term}
use Rattle.hac_model.proofs.ChangeLemmas.{all-weaker}
use Rattle.hac_model.proofs.KeepingLemmas.{AreKept, EachKept, each-kept}
use Rattle.hac_model.proofs.TreeLemmas.{entry_at-all}
use Rattle.reeval.specs.Judging.{JudgesAlike, LeavesAlike, ProvidesAlike, judgement}
use Rattle.reeval.proofs.AlikeLemmas.{SameInputs, depends-asked, judge-across, none-across}
use Rattle.hac_model.proofs.AcyclicLemmas.{edge-directory}

always : {X : Type 0} (P : X → Type 0) → ((x : X) → P x) → (xs : List X) → AllByRecursion P xs
always P each [] = tt
always P each (x ∷ xs) = (each x, always P each xs)

-- Entries whose bodies pass a test.

-- the entry of a number
pub body-entry : (test : Body → Bool) (es : List Entry) (n : ℕ) → option_map_or test (body_at es n) false ≡ true → (e : Entry) × (entry_at es n ≡ Some e) × (test e.body ≡ true)
body-entry test es n h = at (entry_at es n) refl h
  where
    at : (o : Option Entry) → entry_at es n ≡ o → option_map_or test (option_map (λ (e : Entry). e.body) o) false ≡ true → (e : Entry) × (entry_at es n ≡ Some e) × (test e.body ≡ true)
    at None found h = absurd cc
    at (Some e) found h = (e, found, h)

-- the entry of a directory with a query
query-entry : (s : State) (dir : ℕ) (asked : Formula ℕ) → query_at s dir ≡ Some asked → (e : Entry) × (entry_at s.entries dir ≡ Some e) × (query_in e.body ≡ Some asked)
query-entry s dir asked h = at (entry_at s.entries dir) refl h
  where
    at : (o : Option Entry) → entry_at s.entries dir ≡ o → option_and_then query_in (option_map (λ (e : Entry). e.body) o) ≡ Some asked → (e : Entry) × (entry_at s.entries dir ≡ Some e) × (query_in e.body ≡ Some asked)
    at None found h = absurd cc
    at (Some e) found h = (e, found, h)

parent-found : (s : State) (n : ℕ) (e : Entry) → entry_at s.entries n ≡ Some e → parent_of s n ≡ e.parent
parent-found s n e found = ap (λ (o : Option Entry). option_map_or (λ (e : Entry). e.parent) o 0) found

-- What a valid state keeps.

-- a document is in a mount
pub document-home : (s : State) (item : ℕ) → IsValid s → is_document_at s.entries item ≡ true → is_mount_at s.entries (parent_of s item) ≡ true
document-home s item h is =
    let x = body-entry is_document s.entries item is in
    ap (is_mount_at s.entries) (parent-found s item x.0 x.1)
    ∙ ap (λ (b : Bool). if b then is_mount_at s.entries x.0.parent else is_holder_at s.entries x.0.parent) (sym x.2)
    ∙ entry_at-all (λ e. IsTrue (is_in_place s.entries e)) s.entries item x.0 h.layout.places x.1

-- a mount keeps an answer for each term in use
mount-knows : (s : State) (mount : ℕ) → IsValid s → is_mount_at s.entries mount ≡ true → AreKept (answers_at s mount) (terms_in_use s.entries)
mount-knows s mount h is =
    let m = body-entry is_mount s.entries mount is in
    subst (λ (answers : List Answer). AreKept answers (terms_in_use s.entries)) (sym (ap (λ (o : Option Entry). option_map_or answers_in (option_map (λ (e : Entry). e.body) o) []) m.1))
    (body m.0.number m.0.body m.2 (entry_at-all (λ e. KeepsWell s e.number e.body) s.entries mount m.0 h.answers m.1))
  where
    body : (n : ℕ) (b : Body) → is_mount b ≡ true → KeepsWell s n b → AreKept (answers_in b) (terms_in_use s.entries)
    body n (Mount space answers) is keeps = keeps.all
    body n (File text dirty shown) is keeps = absurd cc
    body n Dir is keeps = absurd cc
    body n (Symlink target) is keeps = absurd cc
    body n (Semantic asked permanent prohibited) is keeps = absurd cc
    body n Document is keeps = absurd cc

-- so the mount of a document knows each term of any directory's query
terms-known : (s : State) (item dir : ℕ) (asked : Formula ℕ) → IsValid s → is_document_at s.entries item ≡ true → query_at s dir ≡ Some asked → AreKept (answers_at s (parent_of s item)) (terms_of asked)
terms-known s item dir asked h is at =
    let d = query-entry s dir asked at in
    let answers : List Answer = answers_at s (parent_of s item) in
    let each : EachKept answers s.entries = each-kept answers s.entries (mount-knows s (parent_of s item) h (document-home s item h is)) in
    subst (λ (terms : List Term). AreKept answers terms) (ap (λ (o : Option (Formula ℕ)). option_map_or terms_of o []) d.2)
    (entry_at-all (λ e. AreKept answers (terms_in e.body)) s.entries dir d.0 each d.1)

-- What is no item.

pub no_item-judged : (s : State) (linked : ℕ → Bool) (item dir : ℕ) → is_item s item ≡ false → judgement s linked item dir ≡ record { found = false; lent = false }
no_item-judged s linked item dir none = λ i. record { found = guard i && passes s linked dir item; lent = guard i && is_lent s linked dir item }
  where
    guard : (is_semantic s dir && is_item s item) ≡ false
    guard = ap (λ (b : Bool). is_semantic s dir && b) none ∙ and-false (is_semantic s dir)

-- a directory that keeps its query provides alike what is no item
pub none-provided : (s t : State) (item e : ℕ) → is_item s item ≡ false → is_item t item ≡ false → query_at s e ≡ query_at t e → ProvidesAlike s t item e
none-provided s t item e before after query a b linked = λ i. below i || (is_some (query i) && (linked i || added i))
  where
    below : is_below s e item ≡ is_below t e item
    below =
        ap (λ (b : Bool). b && is_directory_at s.entries e && extends (path_of s item) (path_of s e)) before
        ∙ sym (ap (λ (b : Bool). b && is_directory_at t.entries e && extends (path_of t item) (path_of t e)) after)

    added : (is_permanent s e item && is_item s item) ≡ (is_permanent t e item && is_item t item)
    added =
        ap (λ (b : Bool). is_permanent s e item && b) before ∙ and-false (is_permanent s e item)
        ∙ sym (ap (λ (b : Bool). is_permanent t e item && b) after ∙ and-false (is_permanent t e item))

-- nothing is said of what is no item
pub none-alike : (s t : State) (begins : ℕ → Bool) (item : ℕ) → is_item s item ≡ false → is_item t item ≡ false → ((dir : ℕ) → begins dir ≡ false → query_at s dir ≡ query_at t dir) → LeavesAlike s t begins item
none-alike s t begins item before after queries = record {
  judges = λ dir still a b same. no_item-judged s a item dir before ∙ sym (no_item-judged t b item dir after);
  provides = λ dir e still edge apart. none-provided s t item e before after (queries e apart);
}

-- What stays alike of an item.

-- what is asked of an item, of directories at which judging doesn't begin, and of where these are
pub record IsAlike (s t : State) (begins : ℕ → Bool) (item : ℕ) : Type 0 where
  pub items : is_item s item ≡ is_item t item
  pub documents : is_document_at s.entries item ≡ is_document_at t.entries item
  pub texts : shown_of s item ≡ shown_of t item
  pub homes : is_document_at s.entries item ≡ true → parent_of s item ≡ parent_of t item
  pub answers : is_document_at s.entries item ≡ true → (term : Term) → is_kept (answers_at s (parent_of s item)) term ≡ true → kept_at s (parent_of s item) term ≡ kept_at t (parent_of s item) term
  pub queries : (dir : ℕ) → begins dir ≡ false → query_at s dir ≡ query_at t dir
  pub edges : (dir : ℕ) → begins dir ≡ false → depends s dir ≡ depends t dir
  pub added : (dir : ℕ) → begins dir ≡ false → is_permanent s dir item ≡ is_permanent t dir item
  pub removed : (dir : ℕ) → begins dir ≡ false → is_prohibited s dir item ≡ is_prohibited t dir item
  pub below : (e : ℕ) → is_directory_at s.entries e ≡ true → is_directory_at t.entries e ≡ true → is_item s item ≡ true → is_item t item ≡ true → extends (path_of s item) (path_of s e) ≡ extends (path_of t item) (path_of t e)

abbrev first_of_list : List ℕ → ℕ
first_of_list [] = 0
first_of_list (x ∷ xs) = x

module _ (s t : State) (h : IsValid s) (k : IsValid t) (begins : ℕ → Bool) (item : ℕ) (same : IsAlike s t begins item) where
  pub judged-same : is_judged s item ≡ is_judged t item
  judged-same = λ i. same.documents i || is_some (same.texts i)

  -- a term that the document's mount keeps
  atom-same : (term : Term) → (is_document_at s.entries item ≡ true → is_kept (answers_at s (parent_of s item)) term ≡ true) → atom s term item ≡ atom t term item
  atom-same term known = at (is_document_at s.entries item) refl
    where
      by : State → Bool → Bool
      by x b = if b then has (kept_at x (parent_of x item) term) item else option_map_or (λ text. has_term text term) (shown_of x item) false

      at : (b : Bool) → is_document_at s.entries item ≡ b → atom s term item ≡ atom t term item
      at true is =
          ap (by s) is
          ∙ ap (λ (numbers : List ℕ). has numbers item) (same.answers is term (known is) ∙ ap (λ (m : ℕ). kept_at t m term) (same.homes is))
          ∙ sym (ap (by t) (sym same.documents ∙ is))
      at false is =
          ap (by s) is
          ∙ ap (λ (text : Option (List ℕ)). option_map_or (λ text. has_term text term) text false) same.texts
          ∙ sym (ap (by t) (sym same.documents ∙ is))

  pub atoms-same : (dir : ℕ) (asked : Formula ℕ) → query_at s dir ≡ Some asked → AllByRecursion (λ term. atom s term item ≡ atom t term item) (terms_of asked)
  atoms-same dir asked asks = at (is_document_at s.entries item) refl
    where
      at : (b : Bool) → is_document_at s.entries item ≡ b → AllByRecursion (λ term. atom s term item ≡ atom t term item) (terms_of asked)
      at true is =
          all-weaker (λ term. is_kept (answers_at s (parent_of s item)) term ≡ true) (λ term. atom s term item ≡ atom t term item) (terms_of asked)
          (λ term known. atom-same term (λ _. known)) (terms-known s item dir asked h is asks)
      at false is = always (λ term. atom s term item ≡ atom t term item) (λ term. atom-same term (λ document. let never : true ≡ false = sym document ∙ is in absurd cc)) (terms_of asked)

  -- parents and lenders are told by what is depended on
  parts-same : (dir : ℕ) (asked : Formula ℕ) → begins dir ≡ false → query_at s dir ≡ Some asked → query_at t dir ≡ Some asked → (parent_of s dir ≡ parent_of t dir) × (lenders s dir ≡ lenders t dir)
  parts-same dir asked still before after =
      let all : parent_of s dir ∷ (named_in asked ++ lenders s dir) ≡ parent_of t dir ∷ (named_in asked ++ lenders t dir) =
      sym (depends-asked s dir asked before) ∙ same.edges dir still ∙ depends-asked t dir asked after in
      let rest : named_in asked ++ lenders s dir ≡ named_in asked ++ lenders t dir = ap (drop 1) all in (
        ap first_of_list all,
        sym (drop-append_seam (named_in asked) (lenders s dir)) ∙ ap (drop (length (named_in asked))) rest ∙ drop-append_seam (named_in asked) (lenders t dir),
      )

  inputs-same : (dir : ℕ) (asked : Formula ℕ) → begins dir ≡ false → query_at s dir ≡ Some asked → query_at t dir ≡ Some asked → SameInputs s t item dir asked
  inputs-same dir asked still before after =
      let parts = parts-same dir asked still before after in
      record {
        before = before;
        after = after;
        items = same.items;
        judged = judged-same;
        parents = parts.0;
        lending = parts.1;
        added = same.added dir still;
        removed = same.removed dir still;
        atoms = atoms-same dir asked before;
      }

  judges-same : (dir : ℕ) → begins dir ≡ false → JudgesAlike s t item dir
  judges-same dir still = at (query_at s dir) refl
    where
      at : (o : Option (Formula ℕ)) → query_at s dir ≡ o → JudgesAlike s t item dir
      at None before = none-across s t item dir before (sym (same.queries dir still) ∙ before)
      at (Some asked) before = judge-across s t item dir asked (inputs-same dir asked still before (sym (same.queries dir still) ∙ before))

  below-same : (e : ℕ) → is_directory_at s.entries e ≡ true → is_directory_at t.entries e ≡ true → is_below s e item ≡ is_below t e item
  below-same e before after = at (is_item s item) refl
    where
      at : (b : Bool) → is_item s item ≡ b → is_below s e item ≡ is_below t e item
      at false none =
          ap (λ (b : Bool). b && is_directory_at s.entries e && extends (path_of s item) (path_of s e)) none
          ∙ sym (ap (λ (b : Bool). b && is_directory_at t.entries e && extends (path_of t item) (path_of t e)) (sym same.items ∙ none))
      at true is = λ i. same.items i && (before ∙ sym after) i && same.below e before after is (sym same.items ∙ is) i

  -- what is a directory in both states provides the item alike
  pub provided-same : (e : ℕ) → is_directory_at s.entries e ≡ true → is_directory_at t.entries e ≡ true → begins e ≡ false → ProvidesAlike s t item e
  provided-same e before after apart a b linked = λ i. below-same e before after i || (is_some (same.queries e apart i) && (linked i || (same.added e apart i && same.items i)))

  -- and so does what a directory depends on
  provides-same : (dir e : ℕ) → begins dir ≡ false → Among (depends t dir) e → begins e ≡ false → ProvidesAlike s t item e
  provides-same dir e still edge = provided-same e (edge-directory s dir e h (subst (λ (es : List ℕ). Among es e) (sym (same.edges dir still)) edge)) (edge-directory t dir e k edge)

  pub leaves-alike : LeavesAlike s t begins item
  leaves-alike = record { judges = judges-same; provides = provides-same }
