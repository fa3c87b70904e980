-- A tree that is made entry by entry: what holds once the first ones are in it.
use Rattle.std.proofs.Common.{◌≡◌, ℕ, ◌<◌, ◌≤◌, Bool, true, false, cond, List, [], ◌∷◌, ◌++◌, subst, refl, ap, sym, ◌∙◌, arith, inl, inr, eq-eqb}
use Rattle.std.specs.Prelude.{◌==◌, ◌||◌, ◌&&◌, nat_eq, insert, is_some, Option, Some, None, IsTrue}
use Rattle.std.specs.BTreeSet.{contains}
use Rattle.std.specs.Option.{option_map, option_map_or}
use Rattle.std.specs.Ordering.{nat_cmp}
use Rattle.std.specs.Str.{bytes_eq}
use Rattle.std.proofs.Math.Bool.{or-false, and-true, and-false}
use Rattle.std.proofs.lemmas.Bool.{cases_Bool, cases_eq, ne_eqb}
use Rattle.std.proofs.lemmas.Slice.Eq.{bytes_eq-Decides}
use Rattle.hac_model.specs.Tree.Bare.{bare}
use Rattle.hac_model.specs.Tree.Depends.{Among}
use Rattle.hac_model.specs.Tree.Limits.{passed_limit}
use Rattle.hac_model.specs.Tree.{child, entry_at, is_dirty}
use Rattle.hac_model.specs.Tree.Valid.{IsLayout, IsSound, NumbersRise, is_in_place}
use Rattle.hac_model.specs.declared.states.Entry.{Entry}
use Rattle.hac_model.specs.declared.states.State.{State}
use Rattle.hac_model.specs.declared.versions.Version.TheVariants.{Two}
use Rattle.hac_model.proofs.AlikeLemmas.{bare-dirty, entry_at-bare, layout-bare}
use Rattle.hac_model.proofs.ChangeLemmas.{entry_at-new, entry_at-other}
use Rattle.hac_model.proofs.RaisedLemmas.{raised-layout}
use Rattle.hac_model.proofs.TreeLemmas.{Lives, child-own, directory-lives, entry_at-all, entry_at-below, entry_at-first, entry_at-low, entry_at-next, place-directory, rise-below}
use Rattle.file_tree.specs.Answers.{is_dirty_at}
use Rattle.file_tree.specs.Loading.{IsPlaced, IsPrepared, bare_entry, is_to_load}
use Rattle.file_tree.specs.Shape.{entries_below, AreNested, HasSpare, IsShaped, state_of}
use Rattle.tree_nodes.specs.Nodes.{entry_of, has_node, kids_of, name_of, set_at, parent_in}
use Rattle.tree_nodes.specs.Search.{rank_in, NamesRise}
use Rattle.file_tree.specs.declared.loading.Loading.{Loading}
use Rattle.file_tree.specs.declared.tree.Tree.TheInside.{Inside}
use Rattle.file_tree.proofs.ChildLemmas.{name-told, parent-told}
use Rattle.file_tree.proofs.ReadLemmas.{entry_of-number}
use Rattle.file_tree.proofs.RiseLemmas.{below-risen, entry_at-over, rise-fresh}
use Rattle.file_tree.proofs.ShapeLemmas.{tree-linked, tree-same}
use Rattle.file_tree.proofs.StateLemmas.{state_with}
use Rattle.hac_model.proofs.MountAskLemmas.{entry_at-joined}

-- the entry that is looked up is dirty
abbrev dirty_in : Option Entry → Bool
dirty_in found = option_map_or is_dirty (option_map (λ (e : Entry). e.body) found) false

-- an entry more is looked up under its number
entry_at-more : (taken : List Entry) (e : Entry) (q : ℕ) → entry_at taken e.number ≡ None → entry_at (taken ++ e ∷ []) q ≡ cond (nat_eq e.number q) (Some e) (entry_at taken q)
entry_at-more taken e q none = elim (cases_eq e.number q) [
  | inl same ↦
      ap (λ (k : ℕ). entry_at (taken ++ e ∷ []) k) (sym same) ∙ entry_at-new taken e none
      ∙ sym (ap (λ (b : Bool). cond b (Some e) (entry_at taken q)) (eq-eqb e.number q same))
  | inr other ↦ entry_at-other taken e q other ∙ sym (ap (λ (b : Bool). cond b (Some e) (entry_at taken q)) (ne_eqb e.number q other))
]

-- what holds once some of the entries are in the tree
pub record AreLoaded (next : ℕ) (all rest : List Entry) (loading : Loading) : Type 0 where
  pub taken : List Entry
  pub split : all ≡ taken ++ rest
  pub next_is : loading.next ≡ next
  pub numbers : (number : ℕ) → has_node loading.nodes number ≡ is_to_load all number
  pub entries_are : (number : ℕ) → entry_of loading.nodes number ≡ option_map bare_entry (entry_at taken number)
  pub lists : AreNested next (entry_of loading.nodes) (name_of loading.nodes) (kids_of loading.nodes)
  pub dirty_are : (number : ℕ) → contains nat_cmp loading.to_index number ≡ is_dirty_at taken number

-- none is in it
pub loaded-none : (next : ℕ) (all : List Entry) (loading : Loading) → IsPrepared next all loading → AreLoaded next all all loading
loaded-none next all loading h = record {
  taken = [];
  split = refl;
  next_is = h.next_is;
  numbers = h.numbers;
  entries_are = λ n. (h.alone n).none;
  lists = record {
    root = (h.alone 0).none;
    above = λ n high. (h.alone n).none;
    fresh = λ dir high. (h.alone dir).bare;
    listed = λ dir n among. absurd (subst (λ (ns : List ℕ). Among ns n) (h.alone dir).bare among);
    lists = λ dir n stands. (let none : parent_in (entry_of loading.nodes n) ≡ None = ap parent_in (h.alone n).none in absurd cc);
    rises = λ dir. subst (λ (ns : List ℕ). NamesRise (name_of loading.nodes) ns) (sym (h.alone dir).bare) tt;
  };
  dirty_are = h.clean;
}

module _ (next : ℕ) (all : List Entry) (layout : IsLayout (state_with Two next all)) (taken : List Entry) (e : Entry) (rest : List Entry) (split : all ≡ taken ++ e ∷ rest) where
  behind : (0 < e.number) × (entry_at taken e.number ≡ None)
  behind = rise-fresh 0 taken e rest next (subst (λ (es : List Entry). NumbersRise 0 es next) split layout.numbers)

  here : entry_at all e.number ≡ Some e
  here = ap (λ (es : List Entry). entry_at es e.number) split ∙ entry_at-over taken (e ∷ rest) e.number behind.1 ∙ entry_at-first e rest

  low : e.number < next
  low = entry_at-below 0 all next e.number e layout.numbers here

  -- its body is sound
  pub sound-one : IsSound e.body
  sound-one = entry_at-all (λ x. IsSound x.body) all e.number e layout.bodies here

  -- it has a node
  pub node-one : is_to_load all e.number ≡ true
  node-one = ap (λ (o : Option Entry). e.number == 0 || is_some o) here ∙ (elim (e.number == 0) as (λ b. (b || true) ≡ true) [ true ↦ refl | false ↦ refl ])

  lives : Lives all e.parent
  lives = directory-lives all e.parent (place-directory all e (entry_at-all (λ x. IsTrue (is_in_place all x)) all e.number e layout.places here))

  -- and so has its directory
  pub directory-one : is_to_load all e.parent ≡ true
  directory-one = elim lives [
    | inl root ↦ ap (λ (b : Bool). b || is_some (entry_at all e.parent)) (eq-eqb e.parent 0 root)
    | inr found ↦ ap (λ (o : Option Entry). e.parent == 0 || is_some o) found.1 ∙ (elim (e.parent == 0) as (λ b. (b || true) ≡ true) [ true ↦ refl | false ↦ refl ])
  ]

  directory-low : e.parent < next
  directory-low = elim lives [
    | inl root ↦ (let positive : 0 < next = rise-below 0 all next layout.numbers in omega arith)
    | inr found ↦ entry_at-below 0 all next e.parent found.0 layout.numbers found.1
  ]

  -- what the tree shows of an entry is an entry
  shown : (at : Option Entry) (x : Entry) → option_map bare_entry at ≡ Some x → (f : Entry) × (at ≡ Some f) × (bare_entry f ≡ x)
  shown None x is = absurd cc
  shown (Some f) x is = let same : bare_entry f ≡ x = cc in (f, refl, same)

  -- one more is in it
  pub loaded-more : (old new : Loading) (left : List Entry) → (h : AreLoaded next all left old) → h.taken ≡ taken → IsPlaced e old new → AreLoaded next all rest new
  loaded-more old new left h same placed = record {
    taken = taken ++ e ∷ [];
    split = split ∙ again taken;
    next_is = placed.next_is ∙ h.next_is;
    numbers = λ q. placed.numbers q ∙ h.numbers q;
    entries_are = λ q. entries q ∙ ap (λ (o : Option Entry). option_map bare_entry o) (sym (entry_at-more taken e q behind.1));
    lists = tree-same next (set_at e.number (Some (bare_entry e)) at) (entry_of new.nodes) (set_at e.number e.name names) (name_of new.nodes) (set_at e.parent (insert (kids e.parent) (rank_in names e.name (kids e.parent)) e.number) kids) (kids_of new.nodes) linked
        (λ q. ap parent_in (placed.entries q)) (λ d q there. placed.names q) (placed.kids (h.lists.rises e.parent));
    dirty_are = λ q. placed.dirty q ∙ ap (λ (b : Bool). b || (is_dirty e.body && nat_eq e.number q)) (before_dirty q) ∙ dirty q;
  }
    where
      at : ℕ → Option Entry
      at = entry_of old.nodes

      names : ℕ → List ℕ
      names = name_of old.nodes

      kids : ℕ → List ℕ
      kids = kids_of old.nodes

      again : (xs : List Entry) → xs ++ e ∷ rest ≡ (xs ++ e ∷ []) ++ rest
      again [] = refl
      again (x ∷ xs) = ap (λ (es : List Entry). x ∷ es) (again xs)

      before : (q : ℕ) → at q ≡ option_map bare_entry (entry_at taken q)
      before q = h.entries_are q ∙ ap (λ (es : List Entry). option_map bare_entry (entry_at es q)) same

      before_dirty : (q : ℕ) → contains nat_cmp old.to_index q ≡ is_dirty_at taken q
      before_dirty q = h.dirty_are q ∙ ap (λ (es : List Entry). is_dirty_at es q) same

      entries : (q : ℕ) → entry_of new.nodes q ≡ option_map bare_entry (cond (nat_eq e.number q) (Some e) (entry_at taken q))
      entries q = placed.entries q ∙ ap (λ (o : Option Entry). cond (nat_eq e.number q) (Some (bare_entry e)) o) (before q) ∙ (elim (nat_eq e.number q) as (λ b. cond b (Some (bare_entry e)) (option_map bare_entry (entry_at taken q)) ≡ option_map bare_entry (cond b (Some e) (entry_at taken q))) [ true ↦ refl | false ↦ refl ])

      dirty : (q : ℕ) → (is_dirty_at taken q || (is_dirty e.body && nat_eq e.number q)) ≡ is_dirty_at (taken ++ e ∷ []) q
      dirty q = elim (cases_eq e.number q) [
        | inl is ↦
            (let none : is_dirty_at taken q ≡ false = ap (λ (k : ℕ). is_dirty_at taken k) (sym is) ∙ ap dirty_in behind.1 in
            (λ i. none i || (is_dirty e.body && eq-eqb e.number q is i)) ∙ and-true (is_dirty e.body)
            ∙ sym (ap dirty_in (entry_at-more taken e q behind.1 ∙ ap (λ (b : Bool). cond b (Some e) (entry_at taken q)) (eq-eqb e.number q is))))
        | inr other ↦
            (λ i. is_dirty_at taken q || (is_dirty e.body && ne_eqb e.number q other i)) ∙ ap (λ (b : Bool). is_dirty_at taken q || b) (and-false (is_dirty e.body)) ∙ or-false (is_dirty_at taken q)
            ∙ sym (ap dirty_in (entry_at-other taken e q other))
      ]

      free : (m : ℕ) → Among (kids e.parent) m → bytes_eq (names m) e.name ≡ false
      free m among = elim (cases_Bool (bytes_eq (names m) e.name)) [
        | inr other ↦ other
        | inl even ↦
            (let found = parent-told (at m) e.parent (h.lists.listed e.parent m among) in
            let entry = shown (entry_at taken m) found.0 (sym (before m) ∙ found.1) in
            let first : entry_at all m ≡ Some entry.0 = ap (λ (es : List Entry). entry_at es m) split ∙ entry_at-joined taken (e ∷ rest) m entry.0 entry.1 in
            let name : entry.0.name ≡ e.name = ap (λ (x : Entry). x.name) entry.2 ∙ sym (name-told old.nodes m found.0 found.1) ∙ (bytes_eq-Decides (names m) e.name).0 even in
            let dir : entry.0.parent ≡ e.parent = ap (λ (x : Entry). x.parent) entry.2 ∙ found.2 in
            let both : Some m ≡ Some e.number =
            sym (child-own all m entry.0 layout.differ first) ∙ ap (λ (d : ℕ). child all d entry.0.name) dir ∙ ap (λ (x : List ℕ). child all e.parent x) name
            ∙ child-own all e.number e layout.differ here in
            let one : m ≡ e.number = cc in
            let gone : Some entry.0 ≡ None = sym entry.1 ∙ ap (λ (k : ℕ). entry_at taken k) one ∙ behind.1 in
            absurd cc)
      ]

      linked : AreNested next (set_at e.number (Some (bare_entry e)) at) (set_at e.number e.name names) (set_at e.parent (insert (kids e.parent) (rank_in names e.name (kids e.parent)) e.number) kids)
      linked = tree-linked next next at names kids e.number e.parent (bare_entry e) e.name h.lists (before e.number ∙ ap (λ (o : Option Entry). option_map bare_entry o) behind.1) behind.0 low (omega arith) directory-low refl free

-- the layout of a state is that of its entries, which fit in a store of version 2 too
pub layout-alone : (s : State) → IsLayout s → IsLayout (state_with Two s.next s.entries)
unfolding passed_limit
layout-alone s h =
    let high = raised-layout s h in
    record { numbers = h.numbers; names = h.names; places = h.places; differ = h.differ; bodies = h.bodies; limits = high.limits }

-- What is loaded is the state without what is kept beside it.
module _ (s : State) (layout : IsLayout s) (u : Inside) (next : u.next ≡ s.next) (version : u.version ≡ s.version) (loaded : (n : ℕ) → entry_of u.nodes n ≡ option_map bare_entry (entry_at s.entries n)) where
  told : (n : ℕ) → entry_of u.nodes n ≡ entry_at (bare s).entries n
  told n = loaded n ∙ sym (entry_at-bare s n)

  above : (n : ℕ) → s.next ≤ n → entry_of u.nodes n ≡ None
  above n high = told n ∙ entry_at-next 0 (bare s).entries s.next n (layout-bare s layout).numbers high

  pub state-loaded : state_of u ≡ bare s
  state-loaded =
      (λ i. state_with (version i) (next i) (entries_below (next i) (entry_of u.nodes)))
      ∙ ap (λ (es : List Entry). state_with s.version s.next es) (below-risen s.next (entry_of u.nodes) (bare s).entries (entry_of-number u.nodes) (told 0 ∙ entry_at-low 0 (bare s).entries s.next 0 (layout-bare s layout).numbers (omega arith)) (layout-bare s layout).numbers above told)

  pub shaped-loaded : ((n : ℕ) → has_node u.nodes n ≡ is_to_load s.entries n) → AreNested s.next (entry_of u.nodes) (name_of u.nodes) (kids_of u.nodes) → HasSpare u.ready u.nodes u.next → IsShaped u
  shaped-loaded numbers lists spare = record {
    lists = subst (λ (k : ℕ). AreNested k (entry_of u.nodes) (name_of u.nodes) (kids_of u.nodes)) (sym next) lists;
    layout = subst IsLayout (sym state-loaded) (layout-bare s layout);
    root = numbers 0;
    spare = spare;
    others = λ n root low none. numbers n ∙ (λ i. ne_eqb n 0 root i || is_some (missing n none i));
  }
    where
      bare-none : (found : Option Entry) → option_map bare_entry found ≡ None → found ≡ None
      bare-none None none = refl
      bare-none (Some e) none = absurd cc

      missing : (n : ℕ) → entry_of u.nodes n ≡ None → entry_at s.entries n ≡ None
      missing n none = bare-none (entry_at s.entries n) (sym (loaded n) ∙ none)

-- the same files are dirty
pub dirty-loaded : (s : State) (n : ℕ) → is_dirty_at (bare s).entries n ≡ is_dirty_at s.entries n
dirty-loaded s n = ap dirty_in (entry_at-bare s n) ∙ (elim (entry_at s.entries n) as (λ o. dirty_in (option_map bare_entry o) ≡ dirty_in o) [
  | None ↦ refl
  | Some e ↦ bare-dirty e.body
])

-- the lists once a number is put into one of them, given the names and the lists before, and the same again once there is
-- a place for it
pub placed-lists : (names named : ℕ → List ℕ) (kids lists new : ℕ → List ℕ) (dir : ℕ) (name : List ℕ) (number : ℕ) → ((q : ℕ) → named q ≡ names q) → ((q : ℕ) → lists q ≡ kids q) →
    (NamesRise named (lists dir) → (q : ℕ) → new q ≡ cond (nat_eq dir q) (insert (lists dir) (rank_in named name (lists dir)) number) (lists q)) →
    NamesRise names (kids dir) → (q : ℕ) → new q ≡ cond (nat_eq dir q) (insert (kids dir) (rank_in names name (kids dir)) number) (kids q)
placed-lists names named kids lists new dir name number same children put rise q =
    subst (λ (f : ℕ → List ℕ). (NamesRise f (lists dir) → (q : ℕ) → new q ≡ cond (nat_eq dir q) (insert (lists dir) (rank_in f name (lists dir)) number) (lists q)) → new q ≡ cond (nat_eq dir q) (insert (kids dir) (rank_in names name (kids dir)) number) (kids q)) (λ i q. sym (same q) i)
    (subst (λ (f : ℕ → List ℕ). (NamesRise names (f dir) → (q : ℕ) → new q ≡ cond (nat_eq dir q) (insert (f dir) (rank_in names name (f dir)) number) (f q)) → new q ≡ cond (nat_eq dir q) (insert (kids dir) (rank_in names name (kids dir)) number) (kids q)) (λ i q. sym (children q) i)
    (λ told. told rise q))
    put
