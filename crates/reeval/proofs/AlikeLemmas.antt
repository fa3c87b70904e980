-- What a directory says of an item, and provides of it, from one state to another that tells alike what this needs.
use Rattle.std.proofs.Common.{◌≡◌, ℕ, Bool, true, false, List, [], ◌∷◌, subst, refl, ap, sym, ◌∙◌, inl, inr}
use Rattle.std.specs.Prelude.{◌&&◌, ◌||◌, ◌++◌, not, Option, Some, None, is_some}
use Rattle.std.specs.List.{AllByRecursion, list_any}
use Rattle.std.specs.Option.{option_map_or}
use Rattle.std.proofs.lemmas.Bool.{or_parts}
use Rattle.hac_model.specs.Query.Formula.{Formula}
use Rattle.hac_model.specs.Query.Formula as query
use Rattle.hac_model.specs.Query.Queries.{terms_of}
use Rattle.hac_model.specs.Tree.Depends.{Among, depends, named_in}
use Rattle.hac_model.specs.Tree.Links.{atom, holds, is_item, is_judged, is_lent, is_permanent, is_prohibited, is_semantic, is_unmarked, lenders, parent_of, passes, provide, query_at, satisfies}
use Rattle.hac_model.specs.declared.states.State.{State}
use Rattle.hac_model.proofs.AmongLemmas.{among-left, among-right}
use Rattle.hac_model.proofs.KeepingLemmas.{all-parted}
use Rattle.reeval.specs.Judging.{FindsAlike, JudgesAlike, LeavesAlike, judgement}
use Rattle.reeval.specs.declared.verdicts.Verdict.{Verdict}
use Rattle.hac_model.proofs.LinkLemmas.{any-agree, satisfied}

-- What is semantic neither before nor after.

-- what isn't semantic says nothing of an item
abbrev nothing : Verdict
nothing = record { found = false; lent = false }

none-judged : (s : State) (linked : ℕ → Bool) (item dir : ℕ) → is_semantic s dir ≡ false → judgement s linked item dir ≡ nothing
none-judged s linked item dir plain = λ i. record {
  found = (plain i && is_item s item) && passes s linked dir item;
  lent = (plain i && is_item s item) && is_lent s linked dir item;
}

-- nor does it depend on anything
none-edges : (t : State) (dir e : ℕ) → is_semantic t dir ≡ false → Among (depends t dir) e → ⊥
none-edges t dir e plain edge = elim (query_at t dir) as (λ o. is_some o ≡ false → Among (option_map_or (λ query. parent_of t dir ∷ named_in query ++ lenders t dir) o []) e → ⊥) [
  | None ↦ (λ plain edge. edge)
  | Some query ↦ (λ plain edge. absurd cc)
] plain edge

pub touched-leave : (s t : State) (item : ℕ) → LeavesAlike s t (λ dir. is_semantic s dir || is_semantic t dir) item
touched-leave s t item = record {
  judges = λ dir plain a b same.
      let parts = or_parts (is_semantic s dir) (is_semantic t dir) plain in
      none-judged s a item dir parts.0 ∙ sym (none-judged t b item dir parts.1);
  provides = λ dir e plain edge other a b same.
      let parts = or_parts (is_semantic s dir) (is_semantic t dir) plain in
      absurd (none-edges t dir e parts.1 edge);
}

-- What has to be alike.

-- what a directory with a query is asked for an item, and what the item itself is asked
pub record SameInputs (s t : State) (item dir : ℕ) (asked : Formula ℕ) : Type 0 where
  pub before : query_at s dir ≡ Some asked
  pub after : query_at t dir ≡ Some asked
  pub items : is_item s item ≡ is_item t item
  pub judged : is_judged s item ≡ is_judged t item
  pub parents : parent_of s dir ≡ parent_of t dir
  pub lending : lenders s dir ≡ lenders t dir
  pub added : is_permanent s dir item ≡ is_permanent t dir item
  pub removed : is_prohibited s dir item ≡ is_prohibited t dir item
  pub atoms : AllByRecursion (λ term. atom s term item ≡ atom t term item) (terms_of asked)

module _ (s t : State) (item : ℕ) (a b : ℕ → Bool) where
  -- a query holds alike where its terms do and what its directories provide
  holds-across : (asked : Formula ℕ) → AllByRecursion (λ term. atom s term item ≡ atom t term item) (terms_of asked) → ((e : ℕ) → Among (named_in asked) e → provide s a e item ≡ provide t b e item) →
      holds s a asked item ≡ holds t b asked item
  holds-across (query.Term term) atoms same = atoms.0
  holds-across (query.Dir dir) atoms same = same dir (inl refl)
  holds-across (query.Not p) atoms same = ap not (holds-across p atoms same)
  holds-across (query.And p q) atoms same =
      let parts = all-parted (λ term. atom s term item ≡ atom t term item) (terms_of p) (terms_of q) atoms in
      λ i. holds-across p parts.0 (λ e edge. same e (among-left (named_in p) (named_in q) e edge)) i
      && holds-across q parts.1 (λ e edge. same e (among-right (named_in p) (named_in q) e edge)) i
  holds-across (query.Or p q) atoms same =
      let parts = all-parted (λ term. atom s term item ≡ atom t term item) (terms_of p) (terms_of q) atoms in
      λ i. holds-across p parts.0 (λ e edge. same e (among-left (named_in p) (named_in q) e edge)) i
      || holds-across q parts.1 (λ e edge. same e (among-right (named_in p) (named_in q) e edge)) i

-- the directories on which one with a query depends
pub depends-asked : (s : State) (dir : ℕ) (asked : Formula ℕ) → query_at s dir ≡ Some asked → depends s dir ≡ parent_of s dir ∷ (named_in asked ++ lenders s dir)
depends-asked s dir asked at = ap (λ (o : Option (Formula ℕ)). option_map_or (λ (query : Formula ℕ). parent_of s dir ∷ named_in query ++ lenders s dir) o []) at

-- what is lent to it is what its lenders provide
lent-across : (s t : State) (item dir : ℕ) (asked : Formula ℕ) (a b : ℕ → Bool) → query_at t dir ≡ Some asked → lenders s dir ≡ lenders t dir →
    ((e : ℕ) → Among (depends t dir) e → provide s a e item ≡ provide t b e item) → is_lent s a dir item ≡ is_lent t b dir item
lent-across s t item dir asked a b after lending same =
    ap (λ (dirs : List ℕ). list_any (λ lender. provide s a lender item) dirs) lending
    ∙ any-agree (λ lender. provide s a lender item) (λ lender. provide t b lender item) (lenders t dir)
    (λ e inside. same e (subst (λ (es : List ℕ). Among es e) (sym (depends-asked t dir asked after)) (inr (among-right (named_in asked) (lenders t dir) e inside))))

-- what it is asked but for what is lent to it
pub record SameTests (s t : State) (item dir : ℕ) (asked : Formula ℕ) : Type 0 where
  pub before : query_at s dir ≡ Some asked
  pub after : query_at t dir ≡ Some asked
  pub items : is_item s item ≡ is_item t item
  pub judged : is_judged s item ≡ is_judged t item
  pub parents : parent_of s dir ≡ parent_of t dir
  pub added : is_permanent s dir item ≡ is_permanent t dir item
  pub removed : is_prohibited s dir item ≡ is_prohibited t dir item
  pub atoms : AllByRecursion (λ term. atom s term item ≡ atom t term item) (terms_of asked)

-- a directory finds an item alike by the same tests, if those on which it depends provide the item alike
pub finds-across : (s t : State) (item dir : ℕ) (asked : Formula ℕ) → SameTests s t item dir asked → FindsAlike s t item dir
finds-across s t item dir asked h a b same = λ i. (is_some (query i) && h.items i) && (above i && h.judged i && satisfied-same i && not (h.added i || h.removed i))
  where
    query : query_at s dir ≡ query_at t dir
    query = h.before ∙ sym h.after

    edge : (e : ℕ) → Among (parent_of t dir ∷ (named_in asked ++ lenders t dir)) e → provide s a e item ≡ provide t b e item
    edge e inside = same e (subst (λ (es : List ℕ). Among es e) (sym (depends-asked t dir asked h.after)) inside)

    above : provide s a (parent_of s dir) item ≡ provide t b (parent_of t dir) item
    above = ap (λ (p : ℕ). provide s a p item) h.parents ∙ edge (parent_of t dir) (inl refl)

    satisfied-same : satisfies s a dir item ≡ satisfies t b dir item
    satisfied-same =
        satisfied s a dir item asked h.before
        ∙ holds-across s t item a b asked h.atoms (λ e named. edge e (inr (among-left (named_in asked) (lenders t dir) e named)))
        ∙ sym (satisfied t b dir item asked h.after)

-- a directory says the same of an item by the same inputs, if those on which it depends provide the item alike
pub judge-across : (s t : State) (item dir : ℕ) (asked : Formula ℕ) → SameInputs s t item dir asked → JudgesAlike s t item dir
judge-across s t item dir asked h a b same = λ i. record {
  found = finds-across s t item dir asked tests a b same i;
  lent = (is_some ((h.before ∙ sym h.after) i) && h.items i) && lent-across s t item dir asked a b h.after h.lending same i;
}
  where
    tests : SameTests s t item dir asked
    tests = record {
      before = h.before;
      after = h.after;
      items = h.items;
      judged = h.judged;
      parents = h.parents;
      added = h.added;
      removed = h.removed;
      atoms = h.atoms;
    }

-- nor does it find an item in either state that wasn't judged before and doesn't satisfy the query behind
pub unfound-across : (s t : State) (item dir : ℕ) (asked : Formula ℕ) → query_at s dir ≡ Some asked → query_at t dir ≡ Some asked → is_item s item ≡ is_item t item → lenders s dir ≡ lenders t dir →
    is_judged s item ≡ false → ((b : ℕ → Bool) → satisfies t b dir item ≡ false) → JudgesAlike s t item dir
unfound-across s t item dir asked before after items lending unjudged fails a b same = λ i. record {
  found = (out (is_some (query_at s dir) && is_item s item) (provide s a (parent_of s dir) item) (is_judged s item) (satisfies s a dir item) (is_unmarked s dir item) unjudged
      ∙ sym (out-behind (is_some (query_at t dir) && is_item t item) (provide t b (parent_of t dir) item) (is_judged t item) (satisfies t b dir item) (is_unmarked t dir item) (fails b))) i;
  lent = (is_some ((before ∙ sym after) i) && items i) && lent-across s t item dir asked a b after lending same i;
}
  where
    out : (x p q r u : Bool) → q ≡ false → (x && (p && q && r && u)) ≡ false
    out x p true r u h = absurd cc
    out true true false r u h = refl
    out true false false r u h = refl
    out false p false r u h = refl

    out-behind : (x p q r u : Bool) → r ≡ false → (x && (p && q && r && u)) ≡ false
    out-behind x p q true u h = absurd cc
    out-behind false p q false u h = refl
    out-behind true false q false u h = refl
    out-behind true true true false u h = refl
    out-behind true true false false u h = refl

pub none-across : (s t : State) (item dir : ℕ) → query_at s dir ≡ None → query_at t dir ≡ None → JudgesAlike s t item dir
none-across s t item dir before after a b same =
    none-judged s a item dir (ap (λ (o : Option (Formula ℕ)). is_some o) before) ∙ sym (none-judged t b item dir (ap (λ (o : Option (Formula ℕ)). is_some o) after))
