-- The lists of children after an entry came, went or was edited, given the entry, the name and the children of each
-- number.
use Rattle.std.proofs.Common.{◌≡◌, ℕ, ◌<◌, ◌≤◌, true, false, cond, List, [], subst, refl, ap, sym, ◌∙◌, arith, inl, inr}
use Rattle.std.specs.Prelude.{nat_eq, insert, remove, Option, Some, None}
use Rattle.std.specs.Str.{bytes_eq}
use Rattle.std.proofs.lemmas.Bool.{cases_eq}
use Rattle.hac_model.specs.Tree.Depends.{Among}
use Rattle.hac_model.specs.declared.states.Entry.{Entry}
use Rattle.tree_nodes.specs.Nodes.{set_at, parent_in}
use Rattle.tree_nodes.specs.Search.{rank_in, NamesRise}
use Rattle.file_tree.specs.Shape.{AreNested}
use Rattle.tree_nodes.proofs.SetLemmas.{set-here, set-there}
use Rattle.tree_nodes.proofs.ListLemmas.{among-inserted, among-without, inserted-among, kept-among, rank-same, remove-rank, rises-insert, rises-same, rises-without, without, without-among}

pub none-standing : (found : Option Entry) → parent_in found ≡ None → found ≡ None
none-standing None h = refl
none-standing (Some e) h = absurd cc

-- parents and children stay
pub tree-same : (next : ℕ) (at other : ℕ → Option Entry) (names named : ℕ → List ℕ) (kids lists : ℕ → List ℕ) → AreNested next at names kids →
    ((n : ℕ) → parent_in (other n) ≡ parent_in (at n)) → ((dir n : ℕ) → parent_in (at n) ≡ Some dir → named n ≡ names n) → ((dir : ℕ) → lists dir ≡ kids dir) → AreNested next other named lists
tree-same next at other names named kids lists h parents same children = record {
  root = none-standing (other 0) (parents 0 ∙ ap parent_in h.root);
  above = λ n high. none-standing (other n) (parents n ∙ ap parent_in (h.above n high));
  fresh = λ dir high. children dir ∙ h.fresh dir high;
  listed = λ dir n among. parents n ∙ h.listed dir n (subst (λ (ns : List ℕ). Among ns n) (children dir) among);
  lists = λ dir n stands. subst (λ (ns : List ℕ). Among ns n) (sym (children dir)) (h.lists dir n (sym (parents n) ∙ stands));
  rises = λ dir. subst (λ (ns : List ℕ). NamesRise named ns) (sym (children dir)) (rises-same names named (kids dir) (λ n among. same dir n (h.listed dir n among)) (h.rises dir));
}

-- an entry goes
pub tree-unlinked : (next : ℕ) (at : ℕ → Option Entry) (names : ℕ → List ℕ) (kids : ℕ → List ℕ) (n dir : ℕ) → AreNested next at names kids → parent_in (at n) ≡ Some dir →
    AreNested next (set_at n None at) names (set_at dir (remove (kids dir) (rank_in names (names n) (kids dir))) kids)
tree-unlinked next at names kids n dir h stands = record {
  root = none-at 0 h.root;
  above = λ q high. none-at q (h.above q high);
  fresh = λ d high. fresh d high;
  listed = λ d q among. listed d q among;
  lists = λ d q there. lists d q there;
  rises = λ d. rises d;
}
  where
    member : Among (kids dir) n
    member = h.lists dir n stands

    gone : remove (kids dir) (rank_in names (names n) (kids dir)) ≡ without names n (kids dir)
    gone = remove-rank names (kids dir) n (h.rises dir) member

    none-at : (q : ℕ) → at q ≡ None → set_at n None at q ≡ None
    none-at q none = elim (nat_eq n q) as (λ b. cond b None (at q) ≡ None) [ true ↦ refl | false ↦ none ]

    fresh : (d : ℕ) → next ≤ d → set_at dir (remove (kids dir) (rank_in names (names n) (kids dir))) kids d ≡ []
    fresh d high = elim (cases_eq dir d) [
      | inl same ↦
          (let none : kids dir ≡ [] = h.fresh dir (omega arith) in
          absurd (subst (λ (ns : List ℕ). Among ns n) none member))
      | inr other ↦ set-there dir (remove (kids dir) (rank_in names (names n) (kids dir))) kids d other ∙ h.fresh d high
    ]

    left : (d q : ℕ) → Among (set_at dir (remove (kids dir) (rank_in names (names n) (kids dir))) kids d) q → Among (kids d) q × (n ≡ q → ⊥)
    left d q among = elim (cases_eq dir d) [
      | inl same ↦
          (let here : set_at dir (remove (kids dir) (rank_in names (names n) (kids dir))) kids d ≡ without names n (kids dir) =
          ap (λ (k : ℕ). set_at dir (remove (kids dir) (rank_in names (names n) (kids dir))) kids k) (sym same) ∙ set-here dir (remove (kids dir) (rank_in names (names n) (kids dir))) kids ∙ gone in
          let rest = among-without names n (kids dir) q (subst (λ (ns : List ℕ). Among ns q) here among) in
          (subst (λ (k : ℕ). Among (kids k) q) same rest.0, rest.1))
      | inr other ↦
          (let there : Among (kids d) q = subst (λ (ns : List ℕ). Among ns q) (set-there dir (remove (kids dir) (rank_in names (names n) (kids dir))) kids d other) among in
          (there, λ is. other (let one : Some dir ≡ Some d = sym stands ∙ ap (λ (k : ℕ). parent_in (at k)) is ∙ h.listed d q there in cc)))
    ]

    listed : (d q : ℕ) → Among (set_at dir (remove (kids dir) (rank_in names (names n) (kids dir))) kids d) q → parent_in (set_at n None at q) ≡ Some d
    listed d q among =
        let rest = left d q among in
        ap parent_in (set-there n None at q rest.1) ∙ h.listed d q rest.0

    lists : (d q : ℕ) → parent_in (set_at n None at q) ≡ Some d → Among (set_at dir (remove (kids dir) (rank_in names (names n) (kids dir))) kids d) q
    lists d q there = elim (cases_eq n q) [
      | inl same ↦
          (let none : parent_in (set_at n None at q) ≡ None = ap (λ (k : ℕ). parent_in (set_at n None at k)) (sym same) ∙ ap parent_in (set-here n None at) in
          absurd cc)
      | inr other ↦
          (let old : Among (kids d) q = h.lists d q (sym (ap parent_in (set-there n None at q other)) ∙ there) in
          elim (cases_eq dir d) [
            | inl same ↦ subst (λ (ns : List ℕ). Among ns q) (sym (ap (λ (k : ℕ). set_at dir (remove (kids dir) (rank_in names (names n) (kids dir))) kids k) (sym same) ∙ set-here dir (remove (kids dir) (rank_in names (names n) (kids dir))) kids ∙ gone)) (without-among names n (kids dir) q (subst (λ (k : ℕ). Among (kids k) q) (sym same) old) other)
            | inr differs ↦ subst (λ (ns : List ℕ). Among ns q) (sym (set-there dir (remove (kids dir) (rank_in names (names n) (kids dir))) kids d differs)) old
          ])
    ]

    rises : (d : ℕ) → NamesRise names (set_at dir (remove (kids dir) (rank_in names (names n) (kids dir))) kids d)
    rises d = elim (nat_eq dir d) as (λ b. NamesRise names (cond b (remove (kids dir) (rank_in names (names n) (kids dir))) (kids d))) [
      | true ↦ subst (λ (ns : List ℕ). NamesRise names ns) (sym gone) (rises-without names n (kids dir) (h.rises dir))
      | false ↦ h.rises d
    ]

-- an entry comes
pub tree-linked : (next more : ℕ) (at : ℕ → Option Entry) (names : ℕ → List ℕ) (kids : ℕ → List ℕ) (n dir : ℕ) (e : Entry) (name : List ℕ) → AreNested next at names kids →
    at n ≡ None → 0 < n → n < more → next ≤ more → dir < more → e.parent ≡ dir → ((m : ℕ) → Among (kids dir) m → bytes_eq (names m) name ≡ false) →
    AreNested more (set_at n (Some e) at) (set_at n name names) (set_at dir (insert (kids dir) (rank_in names name (kids dir)) n) kids)
tree-linked next more at names kids n dir e name h new positive low grows inside parent free = record {
  root = set-there n (Some e) at 0 (λ same. omega arith) ∙ h.root;
  above = λ q high. set-there n (Some e) at q (λ same. omega arith) ∙ h.above q (omega arith);
  fresh = λ d high. set-there dir (insert (kids dir) (rank_in names name (kids dir)) n) kids d (λ same. omega arith) ∙ h.fresh d (omega arith);
  listed = λ d q among. listed d q among;
  lists = λ d q there. lists d q there;
  rises = λ d. rises d;
}
  where
    -- no list has the number yet
    absent : (d q : ℕ) → Among (kids d) q → n ≡ q → ⊥
    absent d q among same =
        let none : parent_in (at q) ≡ None = ap (λ (k : ℕ). parent_in (at k)) (sym same) ∙ ap parent_in new in
        let some : parent_in (at q) ≡ Some d = h.listed d q among in
        cc

    old : (d q : ℕ) → Among (kids d) q → parent_in (set_at n (Some e) at q) ≡ Some d
    old d q among = ap parent_in (set-there n (Some e) at q (absent d q among)) ∙ h.listed d q among

    own : (q : ℕ) → n ≡ q → parent_in (set_at n (Some e) at q) ≡ Some dir
    own q same = ap (λ (k : ℕ). parent_in (set_at n (Some e) at k)) (sym same) ∙ ap parent_in (set-here n (Some e) at) ∙ ap (λ (k : ℕ). Some k) parent

    list-here : (d : ℕ) → dir ≡ d → set_at dir (insert (kids dir) (rank_in names name (kids dir)) n) kids d ≡ insert (kids dir) (rank_in names name (kids dir)) n
    list-here d same = ap (λ (k : ℕ). set_at dir (insert (kids dir) (rank_in names name (kids dir)) n) kids k) (sym same) ∙ set-here dir (insert (kids dir) (rank_in names name (kids dir)) n) kids

    listed : (d q : ℕ) → Among (set_at dir (insert (kids dir) (rank_in names name (kids dir)) n) kids d) q → parent_in (set_at n (Some e) at q) ≡ Some d
    listed d q among = elim (cases_eq dir d) [
      | inl same ↦
          (let here = subst (λ (ns : List ℕ). Among ns q) (list-here d same) among in
          elim (among-inserted (kids dir) (rank_in names name (kids dir)) n q here) [
            | inl is ↦ own q is ∙ ap (λ (k : ℕ). Some k) same
            | inr rest ↦ old dir q rest ∙ ap (λ (k : ℕ). Some k) same
          ])
      | inr other ↦ old d q (subst (λ (ns : List ℕ). Among ns q) (set-there dir (insert (kids dir) (rank_in names name (kids dir)) n) kids d other) among)
    ]

    lists : (d q : ℕ) → parent_in (set_at n (Some e) at q) ≡ Some d → Among (set_at dir (insert (kids dir) (rank_in names name (kids dir)) n) kids d) q
    lists d q there = elim (cases_eq n q) [
      | inl is ↦
          (let both : Some dir ≡ Some d = sym (own q is) ∙ there in
          let same : dir ≡ d = cc in
          subst (λ (ns : List ℕ). Among ns q) (sym (list-here d same)) (subst (λ (k : ℕ). Among (insert (kids dir) (rank_in names name (kids dir)) n) k) is (inserted-among (kids dir) (rank_in names name (kids dir)) n)))
      | inr differs ↦
          (let among : Among (kids d) q = h.lists d q (sym (ap parent_in (set-there n (Some e) at q differs)) ∙ there) in
          elim (cases_eq dir d) [
            | inl same ↦ subst (λ (ns : List ℕ). Among ns q) (sym (list-here d same)) (kept-among (kids dir) (rank_in names name (kids dir)) n q (subst (λ (k : ℕ). Among (kids k) q) (sym same) among))
            | inr other ↦ subst (λ (ns : List ℕ). Among ns q) (sym (set-there dir (insert (kids dir) (rank_in names name (kids dir)) n) kids d other)) among
          ])
    ]

    named : (d q : ℕ) → Among (kids d) q → set_at n name names q ≡ names q
    named d q among = set-there n name names q (absent d q among)

    ordered : NamesRise (set_at n name names) (insert (kids dir) (rank_in names name (kids dir)) n)
    ordered =
        let mine : set_at n name names n ≡ name = set-here n name names in
        let rank : rank_in (set_at n name names) (set_at n name names n) (kids dir) ≡ rank_in names name (kids dir) =
        ap (λ (x : List ℕ). rank_in (set_at n name names) x (kids dir)) mine ∙ rank-same names (set_at n name names) name (kids dir) (named dir) in
        subst (λ (i : ℕ). NamesRise (set_at n name names) (insert (kids dir) i n)) rank
        (rises-insert (set_at n name names) (kids dir) n (rises-same names (set_at n name names) (kids dir) (named dir) (h.rises dir)) (λ m among.
        ap (λ (x : List ℕ). bytes_eq x (set_at n name names n)) (named dir m among) ∙ ap (λ (y : List ℕ). bytes_eq (names m) y) mine ∙ free m among))

    rises : (d : ℕ) → NamesRise (set_at n name names) (set_at dir (insert (kids dir) (rank_in names name (kids dir)) n) kids d)
    rises d = elim (nat_eq dir d) as (λ b. NamesRise (set_at n name names) (cond b (insert (kids dir) (rank_in names name (kids dir)) n) (kids d))) [
      | true ↦ ordered
      | false ↦ rises-same names (set_at n name names) (kids d) (named d) (h.rises d)
    ]
