-- From what an event does to single entries and facts to what it leaves alone.
use Rattle.std.proofs.Common.{◌≡◌, ℕ, Bool, true, false, List, [], subst, refl, ap, sym, ◌∙◌, eq-eqb, inr}
use Rattle.std.specs.Prelude.{◌==◌, ◌&&◌, if◌then◌else◌, Option, Some, None, IsTrue, is_some, option_and_then}
use Rattle.std.specs.Option.{option_map, option_map_or, unwrap_or}
use Rattle.hac_model.specs.Query.Formula.{Formula}
use Rattle.hac_model.specs.Tree.Events.{accepted, apply}
use Rattle.hac_model.specs.Tree.Facts.{Facts, facts_after, facts_of}
use Rattle.hac_model.specs.Tree.Links.{answers_at, has, is_item, kept_at, parent_of, query_at}
use Rattle.hac_model.specs.Tree.Mounting.{is_document_of}
use Rattle.hac_model.specs.Tree.Mounts.{is_kept, kept_for}
use Rattle.hac_model.specs.Tree.Touched.{begins}
use Rattle.hac_model.specs.Tree.Valid.{IsValid}
use Rattle.hac_model.specs.Tree.{entry_at, extends, is_directory_at, is_document, is_document_at, is_linkable, path_of, query_in, shown_text}
use Rattle.hac_model.specs.declared.events.Event.{Event}
use Rattle.hac_model.specs.declared.states.Answer.{Answer}
use Rattle.hac_model.specs.declared.states.Body.{Body}
use Rattle.hac_model.specs.declared.states.Body.TheVariants.{File, Dir, Symlink, Semantic, Mount, Document}
use Rattle.hac_model.specs.declared.states.Entry.{Entry}
use Rattle.hac_model.specs.declared.states.State.{State}
use Rattle.hac_model.specs.declared.terms.Term.{Term}
use Rattle.hac_model.proofs.AcyclicLemmas.{apply-valid}
use Rattle.hac_model.proofs.FactLemmas.{answers-fact, edges-told, facts-law, permanent-fact, prohibited-fact}
use Rattle.hac_model.proofs.TreeLemmas.{Lives}
use Rattle.reeval.specs.Judging.{LeavesAlike}
use Rattle.reeval.proofs.LeaveLemmas.{IsAlike, body-entry, leaves-alike, none-alike}
use Rattle.reeval.proofs.StayLemmas.{ParentsStay, below-live}

-- What is seen of entries.

-- what queries see of an item: whether it is a document, its text as last indexed, and its directory
pub record ItemSeen : Type 0 where
  pub document : Bool
  pub text : Option (List ℕ)
  pub parent : ℕ

-- in a directory
abbrev pub item_of : ℕ → Body → Option ItemSeen
item_of dir body = if is_linkable body then Some (record { document = is_document body; text = shown_text body; parent = dir }) else None

abbrev pub item_in : Option Entry → Option ItemSeen
item_in None = None
item_in (Some e) = item_of e.parent e.body

-- the query of an entry
abbrev pub query_of : Option Entry → Option (Formula ℕ)
query_of o = option_and_then query_in (option_map (λ (e : Entry). e.body) o)

abbrev pub is_seen : Option ItemSeen → Bool
is_seen o = is_some o

pub items-seen : (o : Option Entry) → option_map_or is_linkable (option_map (λ (e : Entry). e.body) o) false ≡ is_seen (item_in o)
items-seen None = refl
items-seen (Some e) = elim (is_linkable e.body) as (λ b. b ≡ is_seen (if b then Some (record { document = is_document e.body; text = shown_text e.body; parent = e.parent }) else None)) [ true ↦ refl | false ↦ refl ]

pub documents-seen : (o : Option Entry) → option_map_or is_document (option_map (λ (e : Entry). e.body) o) false ≡ option_map_or (λ (i : ItemSeen). i.document) (item_in o) false
documents-seen None = refl
documents-seen (Some e) = body e.body
  where
    body : (b : Body) → is_document b ≡ option_map_or (λ (i : ItemSeen). i.document) (if is_linkable b then Some (record { document = is_document b; text = shown_text b; parent = e.parent }) else None) false
    body (File text dirty shown) = refl
    body Dir = refl
    body (Symlink target) = refl
    body (Semantic query permanent prohibited) = refl
    body (Mount space answers) = refl
    body Document = refl

texts-seen : (o : Option Entry) → option_and_then shown_text (option_map (λ (e : Entry). e.body) o) ≡ option_and_then (λ (i : ItemSeen). i.text) (item_in o)
texts-seen None = refl
texts-seen (Some e) = body e.body
  where
    body : (b : Body) → shown_text b ≡ option_and_then (λ (i : ItemSeen). i.text) (if is_linkable b then Some (record { document = is_document b; text = shown_text b; parent = e.parent }) else None)
    body (File text dirty shown) = refl
    body Dir = refl
    body (Symlink target) = refl
    body (Semantic query permanent prohibited) = refl
    body (Mount space answers) = refl
    body Document = refl

pub homes-seen : (o : Option Entry) → option_map_or is_linkable (option_map (λ (e : Entry). e.body) o) false ≡ true → option_map_or (λ (e : Entry). e.parent) o 0 ≡ option_map_or (λ (i : ItemSeen). i.parent) (item_in o) 0
homes-seen None is = refl
homes-seen (Some e) is = ap (λ (b : Bool). option_map_or (λ (i : ItemSeen). i.parent) (if b then Some (record { document = is_document e.body; text = shown_text e.body; parent = e.parent }) else None) 0) (sym is)

-- what can't be linked isn't seen
pub unseen : (o : Option Entry) → option_map_or is_linkable (option_map (λ (e : Entry). e.body) o) false ≡ false → item_in o ≡ None
unseen None plain = refl
unseen (Some e) plain = ap (λ (b : Bool). if b then Some (record { document = is_document e.body; text = shown_text e.body; parent = e.parent }) else None) plain

-- a document can be linked
document-item : (s : State) (item : ℕ) → is_document_at s.entries item ≡ true → is_item s item ≡ true
document-item s item is = at (entry_at s.entries item) is
  where
    body : (b : Body) → is_document b ≡ true → is_linkable b ≡ true
    body (File text dirty shown) is = refl
    body Dir is = absurd cc
    body (Symlink target) is = absurd cc
    body (Semantic query permanent prohibited) is = absurd cc
    body (Mount space answers) is = absurd cc
    body Document is = refl

    at : (o : Option Entry) → option_map_or is_document (option_map (λ (e : Entry). e.body) o) false ≡ true → option_map_or is_linkable (option_map (λ (e : Entry). e.body) o) false ≡ true
    at None is = absurd cc
    at (Some e) is = body e.body is

-- Facts.

-- the facts of a number are alike but for marks on other items
pub record FactsAlike (item : ℕ) (f g : Facts) : Type 0 where
  pub edges : f.edges ≡ g.edges
  pub added : has f.marks.permanent item ≡ has g.marks.permanent item
  pub removed : has f.marks.prohibited item ≡ has g.marks.prohibited item

pub same-facts : (item : ℕ) (f g : Facts) → f ≡ g → FactsAlike item f g
same-facts item f g same = record {
  edges = ap (λ (x : Facts). x.edges) same;
  added = ap (λ (x : Facts). has x.marks.permanent item) same;
  removed = ap (λ (x : Facts). has x.marks.prohibited item) same;
}

-- What an event owes.

-- an item that it doesn't touch, directories at which judging doesn't begin, and what they know stay as they are
pub record Owes (s : State) (event : Event) (item : ℕ) : Type 0 where
  pub sight : item_in (entry_at s.entries item) ≡ item_in (entry_at (apply s event).entries item)
  pub queries : (dir : ℕ) → begins s event dir ≡ false → query_at s dir ≡ query_at (apply s event) dir
  pub facts : is_item s item ≡ true → (dir : ℕ) → begins s event dir ≡ false → FactsAlike item (facts_of s dir) (facts_after event s (facts_of s) dir)
  pub answers : (mount : ℕ) → is_document_of s mount item ≡ true → (term : Term) → is_kept (facts_of s mount).answers term ≡ true → kept_for (facts_of s mount).answers term ≡ kept_for (facts_after event s (facts_of s) mount).answers term
  pub below : (d : ℕ) → is_directory_at s.entries d ≡ true → is_directory_at (apply s event).entries d ≡ true → is_item s item ≡ true → is_item (apply s event) item ≡ true → extends (path_of s item) (path_of s d) ≡ extends (path_of (apply s event) item) (path_of (apply s event) d)

pub item-lives : (s : State) (item : ℕ) → is_item s item ≡ true → Lives s.entries item
item-lives s item is = let e = body-entry is_linkable s.entries item is in inr (e.0, e.1)

-- what is below directories stays there, where the directories of entries stay
pub owed-below : (s t : State) (item : ℕ) → IsValid s → IsValid t → ParentsStay s t →
    (d : ℕ) → is_directory_at s.entries d ≡ true → is_directory_at t.entries d ≡ true → is_item s item ≡ true → is_item t item ≡ true → extends (path_of s item) (path_of s d) ≡ extends (path_of t item) (path_of t d)
owed-below s t item h k stay d before after is still = below-live s t h.layout k.layout stay d before after item (item-lives s item is) (item-lives t item still)

module _ (s : State) (event : Event) (item : ℕ) (h : IsValid s) (ok : IsTrue (accepted s event)) (owes : Owes s event item) where
  abbrev t : State
  t = apply s event

  facts-same : is_item s item ≡ true → (dir : ℕ) → begins s event dir ≡ false → FactsAlike item (facts_of s dir) (facts_of t dir)
  facts-same is dir still = subst (FactsAlike item (facts_of s dir)) (sym (facts-law s h event ok dir)) (owes.facts is dir still)

  home-same : is_document_at s.entries item ≡ true → parent_of s item ≡ parent_of t item
  home-same is =
      let before = document-item s item is in
      homes-seen (entry_at s.entries item) before
      ∙ ap (λ (o : Option ItemSeen). option_map_or (λ (i : ItemSeen). i.parent) o 0) owes.sight
      ∙ sym (homes-seen (entry_at t.entries item) (items-seen (entry_at t.entries item) ∙ ap is_seen (sym owes.sight) ∙ sym (items-seen (entry_at s.entries item)) ∙ before))

  kept-same : is_document_at s.entries item ≡ true → (term : Term) → is_kept (answers_at s (parent_of s item)) term ≡ true → kept_at s (parent_of s item) term ≡ kept_at t (parent_of s item) term
  kept-same is term known =
      let m : ℕ = parent_of s item in
      let own : is_document_of s m item ≡ true = ap (λ (b : Bool). b && (m == m)) is ∙ eq-eqb m m refl in
      ap (λ (answers : List Answer). unwrap_or (kept_for answers term) []) (answers-fact s m)
      ∙ ap (λ (o : Option (List ℕ)). unwrap_or o []) (owes.answers m own term (ap (λ (answers : List Answer). is_kept answers term) (sym (answers-fact s m)) ∙ known))
      ∙ ap (λ (answers : List Answer). unwrap_or (kept_for answers term) []) (sym (ap (λ (f : Facts). f.answers) (facts-law s h event ok m)) ∙ sym (answers-fact t m))

  pub items-same : is_item s item ≡ is_item t item
  items-same = items-seen (entry_at s.entries item) ∙ ap is_seen owes.sight ∙ sym (items-seen (entry_at t.entries item))

  pub alike : is_item s item ≡ true → IsAlike s t (begins s event) item
  alike is = record {
    items = items-same;
    documents = documents-seen (entry_at s.entries item) ∙ ap (λ (o : Option ItemSeen). option_map_or (λ (i : ItemSeen). i.document) o false) owes.sight ∙ sym (documents-seen (entry_at t.entries item));
    texts = texts-seen (entry_at s.entries item) ∙ ap (λ (o : Option ItemSeen). option_and_then (λ (i : ItemSeen). i.text) o) owes.sight ∙ sym (texts-seen (entry_at t.entries item));
    homes = home-same;
    answers = kept-same;
    queries = owes.queries;
    edges = λ dir still. edges-told s dir ∙ (facts-same is dir still).edges ∙ sym (edges-told t dir);
    added = λ dir still. ap (λ (ks : List ℕ). has ks item) (permanent-fact s dir) ∙ (facts-same is dir still).added ∙ ap (λ (ks : List ℕ). has ks item) (sym (permanent-fact t dir));
    removed = λ dir still. ap (λ (ks : List ℕ). has ks item) (prohibited-fact s dir) ∙ (facts-same is dir still).removed ∙ ap (λ (ks : List ℕ). has ks item) (sym (prohibited-fact t dir));
    below = owes.below;
  }

  -- so it leaves them alone
  pub owed-leaves : LeavesAlike s t (begins s event) item
  owed-leaves = at (is_item s item) refl
    where
      at : (b : Bool) → is_item s item ≡ b → LeavesAlike s t (begins s event) item
      at true is = leaves-alike s t h (apply-valid s event h ok) (begins s event) item (alike is)
      at false none = none-alike s t (begins s event) item none (sym items-same ∙ none) owes.queries
