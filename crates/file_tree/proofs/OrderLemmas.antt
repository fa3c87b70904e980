-- A directory's list has what is in it, in byte order of names.
use Rattle.std.proofs.Common.{◌≡◌, ℕ, Bool, true, false, cond, List, [], ◌∷◌, length, subst, refl, ap, sym, ◌∙◌, arith, inl, inr, eq-eqb}
use Rattle.std.specs.Prelude.{◌==◌, ◌&&◌, not, filter, map, Some, None, IsTrue}
use Rattle.std.specs.List.{AllByRecursion}
use Rattle.std.specs.Str.{bytes_eq}
use Rattle.std.specs.Cmp.Lexicographic.{nat_list_eq_equiv}
use Rattle.std.proofs.lemmas.Bool.{eqb-true, ne_eqb}
use Rattle.hac_model.specs.Tree.Depends.{Among}
use Rattle.hac_model.specs.Tree.Events.{is_empty_at}
use Rattle.hac_model.specs.Tree.Listing.{children, in_order, is_before, put_in_order}
use Rattle.hac_model.specs.Tree.{child, entry_at}
use Rattle.hac_model.specs.Tree.Valid.{NamesDiffer, NumbersRise}
use Rattle.hac_model.specs.declared.states.Entry.{Entry}
use Rattle.hac_model.specs.declared.states.State.{State}
use Rattle.hac_model.proofs.ChangeLemmas.{all-weaker}
use Rattle.hac_model.proofs.TreeLemmas.{all-entries}
use Rattle.tree_nodes.specs.Nodes.{entry_of, kids_of, name_of, parent_in}
use Rattle.file_tree.specs.Seen.{Seen}
use Rattle.file_tree.specs.Shape.{IsShaped, seen_of, state_of}
use Rattle.tree_nodes.specs.Search.{NamesRise}
use Rattle.file_tree.specs.declared.tree.Tree.TheInside.{Inside}
use Rattle.file_tree.proofs.ChildLemmas.{name-told, parent-told}
use Rattle.tree_nodes.proofs.ListLemmas.{among-all, before-itself}
use Rattle.file_tree.proofs.ReadLemmas.{entry_of-number, seen-entry}
use Rattle.hac_model.proofs.NameOrderLemmas.{before-other, before-trans}
use Rattle.hac_model.proofs.StateSpellingLemmas.{all-order, all-put}

-- the numbers of entries
abbrev pub numbers_of : List Entry → List ℕ
numbers_of es = map (λ (e : Entry). e.number) es

-- what is in a directory, of these entries
abbrev pub standing : ℕ → List Entry → List Entry
standing dir es = filter (λ (e : Entry). e.parent == dir) es

-- an entry that is put in is there, and so is what was
put-among : (new : Entry) (es : List Entry) → Among (numbers_of (put_in_order new es)) new.number
put-among new [] = inl refl
put-among new (e ∷ es) = elim (is_before new.name e.name) as (λ b. Among (numbers_of (cond b (new ∷ e ∷ es) (e ∷ put_in_order new es))) new.number) [
  | true ↦ inl refl
  | false ↦ inr (put-among new es)
]

put-kept : (new : Entry) (es : List Entry) (n : ℕ) → Among (numbers_of es) n → Among (numbers_of (put_in_order new es)) n
put-kept new [] n among = absurd among
put-kept new (e ∷ es) n among = elim (is_before new.name e.name) as (λ b. Among (numbers_of (cond b (new ∷ e ∷ es) (e ∷ put_in_order new es))) n) [
  | true ↦ inr among
  | false ↦ elim among [ inl here ↦ inl here | inr rest ↦ inr (put-kept new es n rest) ]
]

-- an entry of the directory is among them
order-among : (dir : ℕ) (es : List Entry) (n : ℕ) (e : Entry) → entry_at es n ≡ Some e → e.number ≡ n → e.parent ≡ dir → Among (numbers_of (in_order (standing dir es))) n
order-among dir [] n e found number parent = absurd cc
order-among dir (f ∷ es) n e found number parent =
    elim (f.number == n) as (λ b. (f.number == n) ≡ b → cond b (Some f) (entry_at es n) ≡ Some e → Among (numbers_of (in_order (standing dir (f ∷ es)))) n) [
      | true ↦ (λ here found.
          let same : f ≡ e = cc in
          let stands : (f.parent == dir) ≡ true = eq-eqb f.parent dir (ap (λ (x : Entry). x.parent) same ∙ parent) in
          subst (λ (b : Bool). Among (numbers_of (in_order (cond b (f ∷ standing dir es) (standing dir es)))) n) (sym stands)
          (subst (λ (k : ℕ). Among (numbers_of (put_in_order f (in_order (standing dir es)))) k) (eqb-true f.number n here) (put-among f (in_order (standing dir es)))))
      | false ↦ (λ other found.
          let rest = order-among dir es n e found number parent in
          elim (f.parent == dir) as (λ b. Among (numbers_of (in_order (cond b (f ∷ standing dir es) (standing dir es)))) n) [
            | true ↦ put-kept f (in_order (standing dir es)) n rest
            | false ↦ rest
          ])
    ] refl found

-- what holds of entries holds of those in the directory
standing-all : (P : Entry → Type 0) (dir : ℕ) (es : List Entry) → AllByRecursion P es → AllByRecursion (λ e. P e × (e.parent ≡ dir)) (standing dir es)
standing-all P dir [] h = tt
standing-all P dir (e ∷ es) h = elim (e.parent == dir) as (λ b. (e.parent == dir) ≡ b → AllByRecursion (λ e. P e × (e.parent ≡ dir)) (cond b (e ∷ standing dir es) (standing dir es))) [
  | true ↦ (λ here. ((h.0, eqb-true e.parent dir here), standing-all P dir es h.1))
  | false ↦ (λ other. standing-all P dir es h.1)
] refl

-- what is in a directory are entries, each found by its number
pub children-found : (s : State) (dir : ℕ) → NumbersRise 0 s.entries s.next → AllByRecursion (λ e. (entry_at s.entries e.number ≡ Some e) × (e.parent ≡ dir)) (children s dir)
children-found s dir numbers =
    all-order (λ e. (entry_at s.entries e.number ≡ Some e) × (e.parent ≡ dir)) (standing dir s.entries)
    (standing-all (λ e. entry_at s.entries e.number ≡ Some e) dir s.entries (all-entries (λ e. entry_at s.entries e.number ≡ Some e) 0 s.entries s.next numbers (λ e found. found)))

-- the directory has nothing under a name
free-all : (P : Entry → Type 0) (es : List Entry) (dir : ℕ) (name : List ℕ) → child es dir name ≡ None → AllByRecursion P es → AllByRecursion (λ e. P e × ((e.parent == dir && bytes_eq e.name name) ≡ false)) es
free-all P [] dir name none h = tt
free-all P (e ∷ es) dir name none h = elim (e.parent == dir && bytes_eq e.name name) as (λ b. (e.parent == dir && bytes_eq e.name name) ≡ b → cond b (Some e.number) (child es dir name) ≡ None → AllByRecursion (λ e. P e × ((e.parent == dir && bytes_eq e.name name) ≡ false)) (e ∷ es)) [
  | true ↦ (λ here none. absurd cc)
  | false ↦ (λ other none. ((h.0, other), free-all P es dir name none h.1))
] refl none

module _ (names : ℕ → List ℕ) where
  -- the name of an entry
  abbrev pub IsTold : Entry → Type 0
  IsTold e = names e.number ≡ e.name

  all-numbers : (P : ℕ → Type 0) (es : List Entry) → AllByRecursion (λ e. P e.number) es → AllByRecursion P (numbers_of es)
  all-numbers P [] h = tt
  all-numbers P (e ∷ es) h = (h.0, all-numbers P es h.1)

  numbers-all : (P : ℕ → Type 0) (es : List Entry) → AllByRecursion P (numbers_of es) → AllByRecursion (λ e. P e.number) es
  numbers-all P [] h = tt
  numbers-all P (e ∷ es) h = (h.0, numbers-all P es h.1)

  -- an entry whose name is new is put into its place
  put-rises : (new : Entry) (es : List Entry) → IsTold new → AllByRecursion (λ e. IsTold e × (bytes_eq e.name new.name ≡ false)) es → NamesRise names (numbers_of es) → NamesRise names (numbers_of (put_in_order new es))
  put-rises new [] told all rises = (tt, tt)
  put-rises new (e ∷ es) told all rises =
      elim (is_before new.name e.name) as (λ b. is_before new.name e.name ≡ b → NamesRise names (numbers_of (cond b (new ∷ e ∷ es) (e ∷ put_in_order new es)))) [
        | true ↦ (λ before.
            let first : is_before (names new.number) (names e.number) ≡ true = ap (λ (x : List ℕ). is_before x (names e.number)) told ∙ ap (λ (y : List ℕ). is_before new.name y) all.0.0 ∙ before in (
              (first, all-weaker (λ k. IsTrue (is_before (names e.number) (names k))) (λ k. IsTrue (is_before (names new.number) (names k))) (numbers_of es) (λ k h. before-trans (names new.number) (names e.number) (names k) first h) rises.0),
              rises,
            ))
        | false ↦ (λ behind.
            let differs : bytes_eq new.name e.name ≡ false = nat_list_eq_equiv.symm new.name e.name ∙ all.0.1 in
            let first : is_before (names e.number) (names new.number) ≡ true = ap (λ (x : List ℕ). is_before x (names new.number)) all.0.0 ∙ ap (λ (y : List ℕ). is_before e.name y) told ∙ before-other new.name e.name behind differs in (
              all-numbers (λ k. IsTrue (is_before (names e.number) (names k))) (put_in_order new es) (all-put (λ f. IsTrue (is_before (names e.number) (names f.number))) new es first (numbers-all (λ k. IsTrue (is_before (names e.number) (names k))) es rises.0)),
              put-rises new es told all.1 rises.1,
            ))
      ] refl

  -- what is in a directory is in order of names
  order-rises : (dir : ℕ) (es : List Entry) → NamesDiffer es → AllByRecursion IsTold es → NamesRise names (numbers_of (in_order (standing dir es)))
  order-rises dir [] differ told = tt
  order-rises dir (e ∷ es) differ told =
      elim (e.parent == dir) as (λ b. (e.parent == dir) ≡ b → NamesRise names (numbers_of (in_order (cond b (e ∷ standing dir es) (standing dir es))))) [
        | true ↦ (λ here.
            let parent : e.parent ≡ dir = eqb-true e.parent dir here in
            let none : child es dir e.name ≡ None = subst (λ (d : ℕ). child es d e.name ≡ None) parent differ.0 in
            put-rises e (in_order (standing dir es)) told.0
            (all-order (λ f. IsTold f × (bytes_eq f.name e.name ≡ false)) (standing dir es)
            (all-weaker (λ f. (IsTold f × ((f.parent == dir && bytes_eq f.name e.name) ≡ false)) × (f.parent ≡ dir)) (λ f. IsTold f × (bytes_eq f.name e.name ≡ false)) (standing dir es) (λ f h. (h.0.0, sym (ap (λ (b : Bool). b && bytes_eq f.name e.name) (eq-eqb f.parent dir h.1)) ∙ h.0.1))
            (standing-all (λ f. IsTold f × ((f.parent == dir && bytes_eq f.name e.name) ≡ false)) dir es (free-all IsTold es dir e.name none told.1))))
            (order-rises dir es differ.1 told.1))
        | false ↦ (λ other. order-rises dir es differ.1 told.1)
      ] refl

  never-both : (x y : ℕ) → is_before (names x) (names y) ≡ true → is_before (names y) (names x) ≡ true → ⊥
  never-both x y h k =
      let yes_so : is_before (names x) (names x) ≡ true = before-trans (names x) (names y) (names x) h k in
      let none : is_before (names x) (names x) ≡ false = before-itself names (names x) in
      cc

  -- two lists in order with the same numbers are one
  rising-one : (ms ns : List ℕ) → NamesRise names ms → NamesRise names ns → ((k : ℕ) → Among ms k → Among ns k) → ((k : ℕ) → Among ns k → Among ms k) → ms ≡ ns
  rising-one [] [] h k left right = refl
  rising-one [] (n ∷ ns) h k left right = absurd (right n (inl refl))
  rising-one (m ∷ ms) [] h k left right = absurd (left m (inl refl))
  rising-one (m ∷ ms) (n ∷ ns) h k left right =
      let tails : ms ≡ ns = rising-one ms ns h.1 k.1 forward backward in
      ap (λ (x : ℕ). x ∷ ms) heads ∙ ap (λ (xs : List ℕ). n ∷ xs) tails
    where
      heads : m ≡ n
      heads = elim (left m (inl refl)) [
        | inl same ↦ sym same
        | inr later ↦ elim (right n (inl refl)) [
          | inl same ↦ same
          | inr also ↦ absurd (never-both m n (among-all (λ k. IsTrue (is_before (names m) (names k))) ms n h.0 also) (among-all (λ k. IsTrue (is_before (names n) (names k))) ns m k.0 later))
        ]
      ]

      forward : (x : ℕ) → Among ms x → Among ns x
      forward x among = elim (left x (inr among)) [
        | inl same ↦
            (let before : is_before (names m) (names x) ≡ true = among-all (λ k. IsTrue (is_before (names m) (names k))) ms x h.0 among in
            absurd (never-both m m (subst (λ (k : ℕ). is_before (names m) (names k) ≡ true) (sym same ∙ sym heads) before) (subst (λ (k : ℕ). is_before (names m) (names k) ≡ true) (sym same ∙ sym heads) before)))
        | inr rest ↦ rest
      ]

      backward : (x : ℕ) → Among ns x → Among ms x
      backward x among = elim (right x (inr among)) [
        | inl same ↦
            (let before : is_before (names n) (names x) ≡ true = among-all (λ k. IsTrue (is_before (names n) (names k))) ns x k.0 among in
            absurd (never-both n n (subst (λ (k : ℕ). is_before (names n) (names k) ≡ true) (sym same ∙ heads) before) (subst (λ (k : ℕ). is_before (names n) (names k) ≡ true) (sym same ∙ heads) before)))
        | inr rest ↦ rest
      ]

module _ (t : Inside) (h : IsShaped t) (dir : ℕ) where
  names-all : AllByRecursion (IsTold (name_of t.nodes)) (state_of t).entries
  names-all = all-entries (IsTold (name_of t.nodes)) 0 (state_of t).entries t.next h.layout.numbers (λ e found. name-told t.nodes e.number e (sym (seen-entry t h e.number) ∙ found))

  -- the numbers of what is in a directory are those of its list
  pub children-numbers : numbers_of (children (state_of t) dir) ≡ kids_of t.nodes dir
  children-numbers = rising-one (name_of t.nodes) (numbers_of (children (state_of t) dir)) (kids_of t.nodes dir) (order-rises (name_of t.nodes) dir (state_of t).entries h.layout.differ names-all) (h.lists.rises dir) forward backward
    where
      parents : AllByRecursion (λ e. parent_in (entry_of t.nodes e.number) ≡ Some dir) (children (state_of t) dir)
      parents = all-weaker (λ e. (entry_at (state_of t).entries e.number ≡ Some e) × (e.parent ≡ dir)) (λ e. parent_in (entry_of t.nodes e.number) ≡ Some dir) (children (state_of t) dir)
          (λ e both. ap parent_in (sym (seen-entry t h e.number) ∙ both.0) ∙ ap (λ (d : ℕ). Some d) both.1) (children-found (state_of t) dir h.layout.numbers)

      forward : (n : ℕ) → Among (numbers_of (children (state_of t) dir)) n → Among (kids_of t.nodes dir) n
      forward n among = h.lists.lists dir n (among-all (λ k. parent_in (entry_of t.nodes k) ≡ Some dir) (numbers_of (children (state_of t) dir)) n (all-numbers (name_of t.nodes) (λ k. parent_in (entry_of t.nodes k) ≡ Some dir) (children (state_of t) dir) parents) among)

      backward : (n : ℕ) → Among (kids_of t.nodes dir) n → Among (numbers_of (children (state_of t) dir)) n
      backward n among =
          let found = parent-told (entry_of t.nodes n) dir (h.lists.listed dir n among) in
          order-among dir (state_of t).entries n found.0 (seen-entry t h n ∙ found.1) (entry_of-number t.nodes n found.0 found.1) found.2

-- a directory with an empty list is empty
bare-list : (dir : ℕ) (es : List Entry) → is_empty_at es dir ≡ (length (numbers_of (in_order (standing dir es))) == 0)
bare-list dir [] = refl
bare-list dir (e ∷ es) = elim (e.parent == dir) as (λ b. (not b && is_empty_at es dir) ≡ (length (numbers_of (in_order (cond b (e ∷ standing dir es) (standing dir es)))) == 0)) [
  | true ↦ sym (some_in (numbers_of (put_in_order e (in_order (standing dir es)))) (put-among e (in_order (standing dir es))))
  | false ↦ bare-list dir es
]
  where
    some_in : (ns : List ℕ) → Among ns e.number → (length ns == 0) ≡ false
    some_in [] among = absurd among
    some_in (m ∷ ns) among = ne_eqb (length (m ∷ ns)) 0 (λ same. omega arith)

module _ (t : Inside) (s : Seen) (view : seen_of t ≡ s) (h : IsShaped t) (dir : ℕ) where
  pub children-seen : numbers_of (children s.state dir) ≡ kids_of t.nodes dir
  children-seen = ap (λ (x : Seen). numbers_of (children x.state dir)) (sym view) ∙ children-numbers t h dir

  pub bare-seen : is_empty_at s.state.entries dir ≡ (length (kids_of t.nodes dir) == 0)
  bare-seen = bare-list dir s.state.entries ∙ ap (λ (ns : List ℕ). length ns == 0) children-seen
