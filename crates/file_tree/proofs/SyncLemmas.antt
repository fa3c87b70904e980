-- What a tree keeps when a mount gets other documents, or goes, given what is under each number before and after.
use Rattle.std.proofs.Common.{◌≡◌, ℕ, ◌+◌, ◌<◌, ◌≤◌, Bool, true, false, cond, List, [], ◌∷◌, ◌++◌, length, subst, refl, ap, sym, ◌∙◌, arith, inl, inr, eq-eqb}
use Rattle.std.specs.Prelude.{◌==◌, ◌&&◌, not, filter, if◌then◌else◌, IsTrue, Option, Some, None}
use Rattle.std.specs.Option.{option_map, option_map_or, option_to_list}
use Rattle.std.proofs.lemmas.Slice.Eq.{bytes_eq-Decides}
use Rattle.std.proofs.lemmas.Bool.{and_parts, cases_eq, cases_lt, ne_eqb}
use Rattle.std.proofs.lemmas.List.Elements.{filter-append}
use Rattle.std.proofs.Math.Bool.{and-false}
use Rattle.hac_model.specs.Tree.Depends.{Among}
use Rattle.hac_model.specs.Tree.Links.{has}
use Rattle.hac_model.specs.Tree.Mounting.{do_names_rise, documents_from, is_among, is_gone, with_documents, without_such}
use Rattle.hac_model.specs.Tree.{child, entry_at, is_directory_at, is_document, is_holder_at, is_linkable, is_mount, is_mount_at}
use Rattle.hac_model.specs.Tree.Valid.{IsLayout, is_in_place}
use Rattle.hac_model.specs.declared.states.Body.{Body}
use Rattle.hac_model.specs.declared.states.Body.TheVariants.{File, Dir, Symlink, Semantic, Mount, Document}
use Rattle.hac_model.specs.declared.states.Entry.{Entry}
use Rattle.hac_model.proofs.PathLemmas.{parent-directory}
use Rattle.hac_model.proofs.TreeLemmas.{child-own, directory-no_item, entry_at-all}
use Rattle.tree_nodes.specs.Documents.{numbers_from, unknown, with_entries, with_names}
use Rattle.file_tree.specs.Shape.{entries_below, AreNested, HasNoOther, HasSpare, IsShaped, state_of}
use Rattle.tree_nodes.specs.Nodes.{entry_of, has_node, kids_of, name_of, set_at, parent_in}
use Rattle.file_tree.specs.declared.tree.Tree.TheInside.{Inside}
use Rattle.file_tree.proofs.BelowLemmas.{below-made, below-more}
use Rattle.file_tree.proofs.ChildLemmas.{child-named, name-told, named-member, parent-told}
use Rattle.tree_nodes.proofs.FoundLemmas.{has-not}
use Rattle.tree_nodes.proofs.ListLemmas.{none-among}
use Rattle.file_tree.proofs.NestLemmas.{IsSynced, goes, tree-synced}
use Rattle.tree_nodes.proofs.OverLemmas.{dirty_in, follow-same, long, named-follow, named-low, names-same, over-clean, over-follow, over-high, over-inside, over-low}
use Rattle.file_tree.proofs.ReadLemmas.{seen-entry}
use Rattle.tree_nodes.proofs.SetLemmas.{set-here, set-there}
use Rattle.file_tree.proofs.ShapeLemmas.{tree-same}
use Rattle.file_tree.proofs.StateLemmas.{state_with}
use Rattle.hac_model.proofs.AmongLemmas.{among-has, has-among}

mount-in : (o : Option Entry) → option_map_or is_mount (option_map (λ (e : Entry). e.body) o) false ≡ true → (e : Entry) × (o ≡ Some e) × (is_mount e.body ≡ true)
mount-in None is = absurd cc
mount-in (Some e) is = (e, refl, is)

document-clean : (b : Body) → is_document b ≡ true → dirty_in (Some (record { number = 0; parent = 0; name = []; body = b })) ≡ false
document-clean Document is = refl
document-clean (File text dirty shown) is = absurd cc
document-clean Dir is = absurd cc
document-clean (Symlink target) is = absurd cc
document-clean (Semantic query permanent prohibited) is = absurd cc
document-clean (Mount space answers) is = absurd cc

pub mount-clean : (b : Body) → is_mount b ≡ true → dirty_in (Some (record { number = 0; parent = 0; name = []; body = b })) ≡ false
mount-clean (Mount space answers) is = refl
mount-clean (File text dirty shown) is = absurd cc
mount-clean Dir is = absurd cc
mount-clean (Symlink target) is = absurd cc
mount-clean (Semantic query permanent prohibited) is = absurd cc
mount-clean Document is = absurd cc

document-linkable : (b : Body) → is_document b ≡ true → is_linkable b ≡ true
document-linkable Document is = refl
document-linkable (File text dirty shown) is = absurd cc
document-linkable Dir is = absurd cc
document-linkable (Symlink target) is = absurd cc
document-linkable (Semantic query permanent prohibited) is = absurd cc
document-linkable (Mount space answers) is = absurd cc

-- entries that pass a test are left
pub below-left : (test : Entry → Bool) (k : ℕ) (at other : ℕ → Option Entry) (gone : ℕ → Bool) → ((n : ℕ) → n < k → other n ≡ cond (gone n) None (at n)) → ((n : ℕ) (e : Entry) → at n ≡ Some e → test e ≡ not (gone n)) →
    entries_below k other ≡ filter test (entries_below k at)
below-left test k at other gone told tests =
    below-made (filter test) refl (filter-append test) k at other (λ n low. ap (λ (o : Option Entry). option_to_list o) (told n low) ∙ one n (at n) (tests n))
  where
    one : (n : ℕ) (o : Option Entry) → ((e : Entry) → o ≡ Some e → test e ≡ not (gone n)) → option_to_list (cond (gone n) None o) ≡ filter test (option_to_list o)
    one n None is = elim (gone n) as (λ b. option_to_list (cond {A = Option Entry} b None None) ≡ []) [ true ↦ refl | false ↦ refl ]
    one n (Some e) is =
        (elim (gone n) as (λ b. option_to_list (cond b None (Some e)) ≡ cond (not b) (e ∷ []) []) [ true ↦ refl | false ↦ refl ])
        ∙ ap (λ (b : Bool). cond b (e ∷ []) []) (sym (is e refl))

module _ (t : Inside) (h : IsShaped t) (mount : ℕ) (is : is_mount_at (state_of t).entries mount ≡ true) where
  -- the mount is an entry
  pub mount-entry : (e : Entry) × (entry_of t.nodes mount ≡ Some e) × (is_mount e.body ≡ true)
  mount-entry = mount-in (entry_of t.nodes mount) (ap (λ (o : Option Entry). option_map_or is_mount (option_map (λ (e : Entry). e.body) o) false) (sym (seen-entry t h mount)) ∙ is)

  -- what is in it is a document
  pub child-document : (q : ℕ) (e : Entry) → entry_of t.nodes q ≡ Some e → e.parent ≡ mount → is_document e.body ≡ true
  child-document q e found parent = elim (is_document e.body) as (λ b. (if b then is_mount_at (state_of t).entries e.parent else is_holder_at (state_of t).entries e.parent) ≡ true → b ≡ true) [
    | true ↦ (λ place. refl)
    | false ↦ (λ place.
        let holder = and_parts (is_directory_at (state_of t).entries e.parent) (not (is_mount_at (state_of t).entries e.parent)) place in
        let here : is_mount_at (state_of t).entries e.parent ≡ true = ap (λ (d : ℕ). is_mount_at (state_of t).entries d) parent ∙ is in
        let never : false ≡ true = sym (ap not here) ∙ holder.1 in
        absurd cc)
  ] (entry_at-all (λ (x : Entry). IsTrue (is_in_place (state_of t).entries x)) (state_of t).entries q e h.layout.places (seen-entry t h q ∙ found))

  -- an entry that is in it
  pub member : (q : ℕ) → Among (kids_of t.nodes mount) q → (e : Entry) × (entry_of t.nodes q ≡ Some e) × (e.parent ≡ mount)
  member q among = parent-told (entry_of t.nodes q) mount (h.lists.listed mount q among)

  -- nothing is in a document
  pub document-bare : (q : ℕ) → Among (kids_of t.nodes mount) q → kids_of t.nodes q ≡ []
  document-bare q among = none-among (kids_of t.nodes q) (λ n inside.
      let own = member q among in
      let found = parent-told (entry_of t.nodes n) q (h.lists.listed q n inside) in
      let directory : is_directory_at (state_of t).entries q ≡ true = subst (λ (d : ℕ). is_directory_at (state_of t).entries d ≡ true) found.2 (parent-directory (state_of t) n found.0 h.layout (seen-entry t h n ∙ found.1)) in
      let none = directory-no_item (state_of t).entries q (seen-entry t h 0 ∙ h.lists.root) directory in
      let some : option_map_or is_linkable (option_map (λ (e : Entry). e.body) (entry_at (state_of t).entries q)) false ≡ true =
      ap (λ (o : Option Entry). option_map_or is_linkable (option_map (λ (e : Entry). e.body) o) false) (seen-entry t h q ∙ own.1) ∙ document-linkable own.0.body (child-document q own.0 own.1 own.2) in
      let never : false ≡ true = sym none ∙ some in
      cc)

  -- the mount isn't in itself, nor is the root
  pub mount-outside : has (kids_of t.nodes mount) mount ≡ false
  mount-outside = has-not (kids_of t.nodes mount) mount (λ among.
      let own = member mount among in
      let document = child-document mount own.0 own.1 own.2 in
      let same : Some own.0 ≡ Some mount-entry.0 = sym own.1 ∙ mount-entry.1 in
      let one : own.0 ≡ mount-entry.0 = cc in
      apart own.0.body document (ap (λ (e : Entry). is_mount e.body) one ∙ mount-entry.2))
    where
      apart : (b : Body) → is_document b ≡ true → is_mount b ≡ true → ⊥
      apart Document document mount = let never : false ≡ true = mount in cc
      apart (File text dirty shown) document mount = let never : false ≡ true = mount in cc
      apart Dir document mount = let never : false ≡ true = mount in cc
      apart (Symlink target) document mount = let never : false ≡ true = mount in cc
      apart (Semantic query permanent prohibited) document mount = let never : false ≡ true = mount in cc
      apart (Mount space answers) document mount = let never : false ≡ true = document in cc

  pub root-outside : has (kids_of t.nodes mount) 0 ≡ false
  root-outside = has-not (kids_of t.nodes mount) 0 (λ among.
      let own = member 0 among in
      let none : entry_of t.nodes 0 ≡ None = h.lists.root in
      let some : entry_of t.nodes 0 ≡ Some own.0 = own.1 in
      cc)

  -- nor a number that wasn't taken
  pub high-outside : (q : ℕ) → t.next ≤ q → has (kids_of t.nodes mount) q ≡ false
  high-outside q high = has-not (kids_of t.nodes mount) q (λ among.
      let own = member q among in
      let none : entry_of t.nodes q ≡ None = h.lists.above q high in
      let some : entry_of t.nodes q ≡ Some own.0 = own.1 in
      cc)

  abbrev pub find : List ℕ → Option ℕ
  find = child (state_of t).entries mount

  pub find-member : (x : List ℕ) (q : ℕ) → find x ≡ Some q → Among (kids_of t.nodes mount) q × (name_of t.nodes q ≡ x)
  find-member x q found =
      let named = named-member (name_of t.nodes) (kids_of t.nodes mount) x q (sym (child-named t h mount x) ∙ found) in
      (named.0, (bytes_eq-Decides (name_of t.nodes q) x).0 named.1)

  pub find-own : (q : ℕ) → Among (kids_of t.nodes mount) q → find (name_of t.nodes q) ≡ Some q
  find-own q among =
      let own = member q among in
      ap find (name-told t.nodes q own.0 own.1)
      ∙ ap (λ (d : ℕ). child (state_of t).entries d own.0.name) (sym own.2)
      ∙ child-own (state_of t).entries q own.0 h.layout.differ (seen-entry t h q ∙ own.1)

  pub mount-low : mount < t.next
  mount-low = elim (cases_lt mount t.next) [
    | inl low ↦ low
    | inr high ↦
        (let none : entry_of t.nodes mount ≡ None = h.lists.above mount high in
        let some : entry_of t.nodes mount ≡ Some mount-entry.0 = mount-entry.1 in
        absurd cc)
  ]

  -- a document isn't dirty
  pub dropped-clean : (q : ℕ) → has (kids_of t.nodes mount) q ≡ true → dirty_in (entry_of t.nodes q) ≡ false
  dropped-clean q in_it =
      let own = member q (has-among (kids_of t.nodes mount) q in_it) in
      ap dirty_in own.1 ∙ document-clean own.0.body (child-document q own.0 own.1 own.2)

  module _ (xs : List (List ℕ)) where
    abbrev pub leaves : ℕ → Bool
    leaves = goes (name_of t.nodes) (kids_of t.nodes mount) xs

    abbrev pub more : List (List ℕ)
    more = unknown find xs

    abbrev pub documents : List Entry
    documents = documents_from t.next mount more

    pub stays-by : (q : ℕ) → has (kids_of t.nodes mount) q ≡ false → leaves q ≡ false
    stays-by q out = ap (λ (b : Bool). b && not (is_among xs (name_of t.nodes q))) out

    pub leaves-in : (q : ℕ) → leaves q ≡ true → has (kids_of t.nodes mount) q ≡ true
    leaves-in q gone = (and_parts (has (kids_of t.nodes mount) q) (not (is_among xs (name_of t.nodes q))) gone).0

    -- the test of an entry says the same
    leaves-told : (q : ℕ) (e : Entry) → entry_of t.nodes q ≡ Some e → leaves q ≡ is_gone mount xs e
    leaves-told q e found = elim (cases_eq e.parent mount) [
      | inl same ↦
          (let in_it : has (kids_of t.nodes mount) q ≡ true = among-has (kids_of t.nodes mount) q (h.lists.lists mount q (ap parent_in found ∙ ap (λ (d : ℕ). Some d) same)) in
          let test : (e.parent == mount) ≡ true = eq-eqb e.parent mount same in
          ap (λ (b : Bool). b && not (is_among xs (name_of t.nodes q))) in_it
          ∙ ap (λ (x : List ℕ). not (is_among xs x)) (name-told t.nodes q e found)
          ∙ sym (ap (λ (b : Bool). b && ((e.parent == mount) && not (is_among xs e.name))) (child-document q e found same) ∙ ap (λ (b : Bool). b && not (is_among xs e.name)) test))
      | inr other ↦
          (let test : (e.parent == mount) ≡ false = ne_eqb e.parent mount other in
          stays-by q (has-not (kids_of t.nodes mount) q (λ among.
          let own = member q among in
          let same : Some own.0 ≡ Some e = sym own.1 ∙ found in
          let one : own.0 ≡ e = cc in
          other (sym (ap (λ (x : Entry). x.parent) one) ∙ own.2)))
          ∙ sym (ap (λ (b : Bool). is_document e.body && (b && not (is_among xs e.name))) test ∙ and-false (is_document e.body)))
    ]

    module _ (u : Inside) where
      -- what is under each number then
      pub record IsRedone : Type 0 where
        pub next : u.next ≡ t.next + length more
        pub version : u.version ≡ t.version
        pub entries : (q : ℕ) → entry_of u.nodes q ≡ cond (leaves q) None (with_entries documents (entry_of t.nodes) q)
        pub named : (q : ℕ) → leaves q ≡ false → name_of u.nodes q ≡ with_names documents (name_of t.nodes) q
        pub lists : (d : ℕ) → kids_of u.nodes d ≡ set_at mount (numbers_from find t.next xs) (λ n. cond (leaves n) [] (set_at mount [] (kids_of t.nodes) n)) d
        pub numbers : (q : ℕ) → has_node u.nodes q ≡ cond (leaves q) false (has_node t.nodes q)

      module _ (m : IsRedone) where
        high-entry : (q : ℕ) → t.next ≤ q → entry_of u.nodes q ≡ with_entries documents (entry_of t.nodes) q
        high-entry q high = m.entries q ∙ ap (λ (b : Bool). cond b None (with_entries documents (entry_of t.nodes) q)) (stays-by q (high-outside q high))

        low-entry : (q : ℕ) → q < t.next → entry_of u.nodes q ≡ cond (leaves q) None (entry_of t.nodes q)
        low-entry q low = m.entries q ∙ ap (λ (o : Option Entry). cond (leaves q) None o) (over-low more t.next mount q (entry_of t.nodes) low)

        pub state-redone : state_of u ≡ with_documents (without_such (is_gone mount xs) (state_of t)) mount more
        state-redone =
            let far : u.next ≡ t.next + length documents = m.next ∙ ap (λ (k : ℕ). t.next + k) (sym (long t.next mount more)) in
            let follow = follow-same documents t.next (with_entries documents (entry_of t.nodes)) (entry_of u.nodes) high-entry (over-follow more t.next mount (entry_of t.nodes)) in
            let first : entries_below t.next (entry_of u.nodes) ≡ filter (λ (e : Entry). not (is_gone mount xs e)) (entries_below t.next (entry_of t.nodes)) =
            below-left (λ (e : Entry). not (is_gone mount xs e)) t.next (entry_of t.nodes) (entry_of u.nodes) leaves low-entry (λ q e found. ap not (sym (leaves-told q e found))) in
            let all : entries_below u.next (entry_of u.nodes) ≡ filter (λ (e : Entry). not (is_gone mount xs e)) (entries_below t.next (entry_of t.nodes)) ++ documents =
            ap (λ (k : ℕ). entries_below k (entry_of u.nodes)) far ∙ below-more t.next (entry_of u.nodes) documents follow ∙ ap (λ (es : List Entry). es ++ documents) first in
            λ i. state_with (m.version i) (m.next i) (all i)

        pub clean-redone : (q : ℕ) → dirty_in (entry_of u.nodes q) ≡ dirty_in (entry_of t.nodes q)
        clean-redone q = ap dirty_in (m.entries q) ∙ (elim (leaves q) as (λ b. leaves q ≡ b → dirty_in (cond b None (with_entries documents (entry_of t.nodes) q)) ≡ dirty_in (entry_of t.nodes q)) [
          | true ↦ (λ gone. sym (dropped-clean q (leaves-in q gone)))
          | false ↦ (λ stays. over-clean more t.next mount q (entry_of t.nodes) h.lists.above)
        ] refl)

        module _ (rise : do_names_rise xs ≡ true) where
          synced : IsSynced t.next mount (entry_of t.nodes) (entry_of u.nodes) (name_of t.nodes) (name_of u.nodes) (kids_of t.nodes) find xs
          synced = record {
            low = mount-low;
            found = find-member;
            own = find-own;
            told = low-entry;
            fresh = λ q high low. ap parent_in (high-entry q high) ∙ over-inside more t.next mount q (entry_of t.nodes) high low;
            above = λ q high. high-entry q (omega arith) ∙ over-high more t.next mount q (entry_of t.nodes) high ∙ h.lists.above q (omega arith);
            same = λ q low stays. m.named q stays ∙ named-low more t.next mount q (name_of t.nodes) low;
            follow = names-same more t.next (with_names documents (name_of t.nodes)) (name_of u.nodes) (λ q high low. m.named q (stays-by q (high-outside q high))) (named-follow more t.next mount (name_of t.nodes));
            rise = rise;
          }

          nested : AreNested u.next (entry_of u.nodes) (name_of u.nodes) (kids_of u.nodes)
          nested =
              let all = tree-synced t.next mount (entry_of t.nodes) (entry_of u.nodes) (name_of t.nodes) (name_of u.nodes) (kids_of t.nodes) find xs h.lists synced in
              subst (λ (k : ℕ). AreNested k (entry_of u.nodes) (name_of u.nodes) (kids_of u.nodes)) (sym m.next)
              (tree-same (t.next + length more) (entry_of u.nodes) (entry_of u.nodes) (name_of u.nodes) (name_of u.nodes) (set_at mount (numbers_from find t.next xs) (kids_of t.nodes)) (kids_of u.nodes) all (λ q. refl) (λ d q stands. refl) (λ d. m.lists d ∙ list d))
            where
              -- a document that goes has no list
              list : (d : ℕ) → set_at mount (numbers_from find t.next xs) (λ n. cond (leaves n) [] (set_at mount [] (kids_of t.nodes) n)) d ≡ set_at mount (numbers_from find t.next xs) (kids_of t.nodes) d
              list d = elim (cases_eq mount d) [
                | inl same ↦
                    ap (λ (k : ℕ). set_at mount (numbers_from find t.next xs) (λ n. cond (leaves n) [] (set_at mount [] (kids_of t.nodes) n)) k) (sym same)
                    ∙ set-here mount (numbers_from find t.next xs) (λ n. cond (leaves n) [] (set_at mount [] (kids_of t.nodes) n))
                    ∙ sym (set-here mount (numbers_from find t.next xs) (kids_of t.nodes))
                    ∙ ap (λ (k : ℕ). set_at mount (numbers_from find t.next xs) (kids_of t.nodes) k) same
                | inr other ↦
                    set-there mount (numbers_from find t.next xs) (λ n. cond (leaves n) [] (set_at mount [] (kids_of t.nodes) n)) d other
                    ∙ ap (λ (ns : List ℕ). cond (leaves d) [] ns) (set-there mount [] (kids_of t.nodes) d other)
                    ∙ (elim (leaves d) as (λ b. leaves d ≡ b → cond b [] (kids_of t.nodes d) ≡ kids_of t.nodes d) [
                      | true ↦ (λ gone. sym (document-bare d (has-among (kids_of t.nodes mount) d (leaves-in d gone))))
                      | false ↦ (λ stays. refl)
                    ] refl)
                    ∙ sym (set-there mount (numbers_from find t.next xs) (kids_of t.nodes) d other)
              ]

          others : HasNoOther u.nodes u.next
          others q root below gone = elim (cases_lt q t.next) [
            | inl low ↦ m.numbers q ∙ (elim (leaves q) as (λ b. leaves q ≡ b → cond b false (has_node t.nodes q) ≡ false) [
              | true ↦ (λ left. refl)
              | false ↦ (λ stays. h.others q root low (sym (low-entry q low ∙ ap (λ (b : Bool). cond b None (entry_of t.nodes q)) stays) ∙ gone))
            ] refl)
            | inr high ↦
                (let far : q < t.next + length more = subst (λ (k : ℕ). q < k) m.next below in
                let some : parent_in (entry_of u.nodes q) ≡ Some mount = ap parent_in (high-entry q high) ∙ over-inside more t.next mount q (entry_of t.nodes) high far in
                let none : parent_in (entry_of u.nodes q) ≡ None = ap parent_in gone in
                absurd cc)
          ]

          pub shaped-redone : IsLayout (state_of u) → HasSpare u.ready u.nodes u.next → IsShaped u
          shaped-redone layout spare = record {
            lists = nested;
            layout = layout;
            root = m.numbers 0 ∙ ap (λ (b : Bool). cond b false (has_node t.nodes 0)) (stays-by 0 root-outside) ∙ h.root;
            spare = spare;
            others = others;
          }
