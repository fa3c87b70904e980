-- The lists of children once a mount has the documents of other names: some go, some stay, and some come.
use Rattle.std.proofs.Common.{◌≡◌, ℕ, ◌+◌, ◌<◌, ◌≤◌, Bool, true, false, cond, List, [], length, map, refl, ap, sym, subst, ◌∙◌, arith, inl, inr}
use Rattle.std.specs.Prelude.{◌&&◌, not, Option, Some, None}
use Rattle.std.proofs.Math.Bool.{and-false}
use Rattle.std.proofs.lemmas.Bool.{cases_eq, cases_lt}
use Rattle.hac_model.specs.Tree.Depends.{Among}
use Rattle.hac_model.specs.Tree.Links.{has}
use Rattle.hac_model.specs.Tree.Mounting.{do_names_rise, is_among}
use Rattle.hac_model.specs.declared.states.Entry.{Entry}
use Rattle.tree_nodes.specs.Nodes.{set_at, parent_in}
use Rattle.tree_nodes.specs.Documents.{numbers_from, unknown}
use Rattle.file_tree.specs.Shape.{AreNested}
use Rattle.tree_nodes.specs.Search.{NamesRise}
use Rattle.tree_nodes.proofs.FoundLemmas.{has-not}
use Rattle.tree_nodes.proofs.ListLemmas.{rises-same}
use Rattle.file_tree.proofs.NumberLemmas.{names-rise, number-from, number-known, number-names, number-new}
use Rattle.tree_nodes.proofs.OverLemmas.{NamesFollow}
use Rattle.tree_nodes.proofs.SetLemmas.{set-here, set-there}
use Rattle.hac_model.proofs.AmongLemmas.{among-has}

-- an entry goes whose name isn't among these
abbrev pub goes : (ℕ → List ℕ) → List ℕ → List (List ℕ) → ℕ → Bool
goes names numbers xs q = has numbers q && not (is_among xs (names q))

-- what is known of each number before and after
pub record IsSynced (next m : ℕ) (at other : ℕ → Option Entry) (names named : ℕ → List ℕ) (kids : ℕ → List ℕ) (find : List ℕ → Option ℕ) (xs : List (List ℕ)) : Type 0 where
  pub low : m < next
  pub found : (x : List ℕ) (q : ℕ) → find x ≡ Some q → Among (kids m) q × (names q ≡ x)
  pub own : (q : ℕ) → Among (kids m) q → find (names q) ≡ Some q
  pub told : (q : ℕ) → q < next → other q ≡ cond (goes names (kids m) xs q) None (at q)
  pub fresh : (q : ℕ) → next ≤ q → q < next + length (unknown find xs) → parent_in (other q) ≡ Some m
  pub above : (q : ℕ) → next + length (unknown find xs) ≤ q → other q ≡ None
  pub same : (q : ℕ) → q < next → goes names (kids m) xs q ≡ false → named q ≡ names q
  pub follow : NamesFollow named next (unknown find xs)
  pub rise : do_names_rise xs ≡ true

module _ (next m : ℕ) (at other : ℕ → Option Entry) (names named : ℕ → List ℕ) (kids : ℕ → List ℕ) (find : List ℕ → Option ℕ) (xs : List (List ℕ)) (h : AreNested next at names kids) (s : IsSynced next m at other names named kids find xs) where
  -- what is in a directory has a number that was taken
  taken : (d q : ℕ) → parent_in (at q) ≡ Some d → q < next
  taken d q stands = elim (cases_lt q next) [
    | inl low ↦ low
    | inr high ↦ (let none : parent_in (at q) ≡ None = ap parent_in (h.above q high) in absurd cc)
  ]

  -- what is in another directory stays
  stays-other : (d q : ℕ) → (m ≡ d → ⊥) → parent_in (at q) ≡ Some d → goes names (kids m) xs q ≡ false
  stays-other d q other stands =
      ap (λ (b : Bool). b && not (is_among xs (names q)))
      (has-not (kids m) q (λ among. other (let both : Some m ≡ Some d = sym (h.listed m q among) ∙ stands in cc)))

  -- so does what has one of the names
  stays-named : (q : ℕ) → is_among xs (names q) ≡ true → goes names (kids m) xs q ≡ false
  stays-named q is = ap (λ (b : Bool). has (kids m) q && not b) is ∙ and-false (has (kids m) q)

  kept : (q : ℕ) → q < next → goes names (kids m) xs q ≡ false → other q ≡ at q
  kept q low stays = s.told q low ∙ ap (λ (b : Bool). cond b None (at q)) stays

  -- what is found under one of the names stays
  known-stays : (x : List ℕ) (q : ℕ) → is_among xs x ≡ true → find x ≡ Some q → goes names (kids m) xs q ≡ false
  known-stays x q is found = stays-named q (ap (λ (y : List ℕ). is_among xs y) (s.found x q found).1 ∙ is)

  own-list : (q : ℕ) → Among (numbers_from find next xs) q → parent_in (other q) ≡ Some m
  own-list q among = elim (number-from find xs next q among) [
    | inl known ↦
        (let stands : parent_in (at q) ≡ Some m = h.listed m q (s.found known.0 q known.2).0 in
        ap parent_in (kept q (taken m q stands) (known-stays known.0 q known.1 known.2)) ∙ stands)
    | inr new ↦ s.fresh q new.0 new.1
  ]

  listed : (d q : ℕ) → Among (set_at m (numbers_from find next xs) kids d) q → parent_in (other q) ≡ Some d
  listed d q among = elim (cases_eq m d) [
    | inl same ↦
        own-list q (subst (λ (ns : List ℕ). Among ns q) (ap (λ (k : ℕ). set_at m (numbers_from find next xs) kids k) (sym same) ∙ set-here m (numbers_from find next xs) kids) among)
        ∙ ap (λ (k : ℕ). Some k) same
    | inr differs ↦
        (let stands : parent_in (at q) ≡ Some d = h.listed d q (subst (λ (ns : List ℕ). Among ns q) (set-there m (numbers_from find next xs) kids d differs) among) in
        ap parent_in (kept q (taken d q stands) (stays-other d q differs stands)) ∙ stands)
  ]

  -- what stays of the mount is in its new list
  stays-listed : (q : ℕ) → Among (kids m) q → goes names (kids m) xs q ≡ false → Among (numbers_from find next xs) q
  stays-listed q among stays = number-known find xs next (names q) q (by_test (is_among xs (names q)) (sym (ap (λ (b : Bool). b && not (is_among xs (names q))) (among-has (kids m) q among)) ∙ stays)) (s.own q among)
    where
      by_test : (b : Bool) → not b ≡ false → b ≡ true
      by_test true h = refl
      by_test false h = absurd cc

  here : (q : ℕ) → Among (numbers_from find next xs) q → Among (set_at m (numbers_from find next xs) kids m) q
  here q among = subst (λ (ns : List ℕ). Among ns q) (sym (set-here m (numbers_from find next xs) kids)) among

  lists : (d q : ℕ) → parent_in (other q) ≡ Some d → Among (set_at m (numbers_from find next xs) kids d) q
  lists d q there = elim (cases_lt q next) [
    | inl low ↦ elim (goes names (kids m) xs q) as (λ b. goes names (kids m) xs q ≡ b → Among (set_at m (numbers_from find next xs) kids d) q) [
      | true ↦ (λ gone.
          let none : parent_in (other q) ≡ None = ap parent_in (s.told q low ∙ ap (λ (b : Bool). cond b None (at q)) gone) in
          absurd cc)
      | false ↦ (λ stays.
          let stands : parent_in (at q) ≡ Some d = sym (ap parent_in (kept q low stays)) ∙ there in
          elim (cases_eq m d) [
            | inl same ↦ subst (λ (k : ℕ). Among (set_at m (numbers_from find next xs) kids k) q) same (here q (stays-listed q (subst (λ (k : ℕ). Among (kids k) q) (sym same) (h.lists d q stands)) stays))
            | inr differs ↦ subst (λ (ns : List ℕ). Among ns q) (sym (set-there m (numbers_from find next xs) kids d differs)) (h.lists d q stands)
          ])
    ] refl
    | inr high ↦ elim (cases_lt q (next + length (unknown find xs))) [
      | inl inside ↦
          (let both : Some m ≡ Some d = sym (s.fresh q high inside) ∙ there in
          let same : m ≡ d = cc in
          subst (λ (k : ℕ). Among (set_at m (numbers_from find next xs) kids k) q) same (here q (number-new find xs next q high inside)))
      | inr beyond ↦ (let none : parent_in (other q) ≡ None = ap parent_in (s.above q beyond) in absurd cc)
    ]
  ]

  pub names-are : map named (numbers_from find next xs) ≡ xs
  names-are = number-names find named xs next (λ x n is found.
      let member = s.found x n found in
      s.same n (taken m n (h.listed m n member.0)) (known-stays x n is found) ∙ member.1) s.follow

  rises : (d : ℕ) → NamesRise named (set_at m (numbers_from find next xs) kids d)
  rises d = elim (cases_eq m d) [
    | inl same ↦
        subst (λ (k : ℕ). NamesRise named (set_at m (numbers_from find next xs) kids k)) same
        (subst (λ (ns : List ℕ). NamesRise named ns) (sym (set-here m (numbers_from find next xs) kids)) (names-rise named (numbers_from find next xs) (ap do_names_rise names-are ∙ s.rise)))
    | inr differs ↦
        subst (λ (ns : List ℕ). NamesRise named ns) (sym (set-there m (numbers_from find next xs) kids d differs))
        (rises-same names named (kids d) (λ n among.
        let stands : parent_in (at n) ≡ Some d = h.listed d n among in
        s.same n (taken d n stands) (stays-other d n differs stands)) (h.rises d))
  ]

  pub tree-synced : AreNested (next + length (unknown find xs)) other named (set_at m (numbers_from find next xs) kids)
  tree-synced = record {
    root = root;
    above = s.above;
    fresh = fresh;
    listed = listed;
    lists = lists;
    rises = rises;
  }
    where
      root : other 0 ≡ None
      root =
          let low : m < next = s.low in
          s.told 0 (omega arith) ∙ (elim (goes names (kids m) xs 0) as (λ b. cond b None (at 0) ≡ None) [ true ↦ refl | false ↦ h.root ])

      fresh : (d : ℕ) → next + length (unknown find xs) ≤ d → set_at m (numbers_from find next xs) kids d ≡ []
      fresh d high =
          let low : m < next = s.low in
          set-there m (numbers_from find next xs) kids d (λ same. omega arith) ∙ h.fresh d (omega arith)
