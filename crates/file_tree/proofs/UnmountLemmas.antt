-- What a tree keeps when a mount goes with its documents, given what is under each number before and after.
use Rattle.std.proofs.Common.{◌≡◌, ℕ, ◌+◌, ◌<◌, Bool, true, false, cond, List, [], length, subst, refl, ap, sym, ◌∙◌, arith, inl, inr, eq-eqb}
use Rattle.std.specs.Prelude.{◌==◌, ◌&&◌, ◌||◌, not, filter, remove, nat_eq, Option, Some, None}
use Rattle.std.proofs.lemmas.Bool.{cases_eq, ne_eqb}
use Rattle.hac_model.specs.Tree.Depends.{Among}
use Rattle.hac_model.specs.Tree.Links.{has}
use Rattle.hac_model.specs.Tree.Mounting.{is_of_mount, without_such}
use Rattle.hac_model.specs.Tree.{is_mount_at}
use Rattle.hac_model.specs.Tree.Valid.{IsLayout}
use Rattle.hac_model.specs.declared.states.Entry.{Entry}
use Rattle.file_tree.specs.Shape.{entries_below, AreNested, HasNoOther, HasSpare, IsShaped, state_of}
use Rattle.tree_nodes.specs.Nodes.{entry_of, has_node, kids_of, name_of, set_at, parent_in}
use Rattle.tree_nodes.specs.Search.{rank_in}
use Rattle.file_tree.specs.declared.tree.Tree.TheInside.{Inside}
use Rattle.tree_nodes.proofs.FoundLemmas.{has-not}
use Rattle.file_tree.proofs.NestLemmas.{IsSynced, tree-synced}
use Rattle.tree_nodes.proofs.OverLemmas.{dirty_in}
use Rattle.file_tree.proofs.ReadLemmas.{entry_of-number}
use Rattle.tree_nodes.proofs.SetLemmas.{set-here, set-there}
use Rattle.file_tree.proofs.ShapeLemmas.{tree-same, tree-unlinked}
use Rattle.file_tree.proofs.StateLemmas.{state_with}
use Rattle.file_tree.proofs.SyncLemmas.{below-left, document-bare, dropped-clean, find, find-member, find-own, leaves, leaves-in, member, mount-clean, mount-entry, mount-low, mount-outside, root-outside, stays-by}
use Rattle.hac_model.proofs.AmongLemmas.{among-has, has-among}

module _ (t : Inside) (h : IsShaped t) (mount : ℕ) (is : is_mount_at (state_of t).entries mount ≡ true) (dir : ℕ) (stands : parent_in (entry_of t.nodes mount) ≡ Some dir) where
  -- what goes with the mount
  abbrev pub inside : ℕ → Bool
  inside = leaves t h mount is []

  -- the tree without it
  abbrev pub emptied : ℕ → Option Entry
  emptied q = cond (inside q) None (entry_of t.nodes q)

  -- the list of the directory without the mount
  abbrev pub rest : List ℕ
  rest = remove (kids_of t.nodes dir) (rank_in (name_of t.nodes) (name_of t.nodes mount) (kids_of t.nodes dir))

  abbrev pub cut : ℕ → List ℕ
  cut = set_at dir rest (kids_of t.nodes)

  -- a mount isn't in itself
  pub apart : mount ≡ dir → ⊥
  apart same =
      let own : has (kids_of t.nodes mount) mount ≡ true = among-has (kids_of t.nodes mount) mount (h.lists.lists mount mount (stands ∙ ap (λ (d : ℕ). Some d) (sym same))) in
      let none : has (kids_of t.nodes mount) mount ≡ false = mount-outside t h mount is in
      cc

  mount-stays : inside mount ≡ false
  mount-stays = stays-by t h mount is [] mount (mount-outside t h mount is)

  module _ (u : Inside) where
    -- what is under each number then
    pub record IsUnmounted : Type 0 where
      pub next : u.next ≡ t.next
      pub version : u.version ≡ t.version
      pub entries : (q : ℕ) → entry_of u.nodes q ≡ set_at mount None emptied q
      pub named : (q : ℕ) → nat_eq mount q ≡ false → inside q ≡ false → name_of u.nodes q ≡ name_of t.nodes q
      pub lists : (d : ℕ) → kids_of u.nodes d ≡ set_at mount [] (λ n. cond (inside n) [] (set_at mount [] cut n)) d
      pub numbers : (q : ℕ) → has_node u.nodes q ≡ set_at mount false (λ n. cond (inside n) false (has_node t.nodes n)) q

    module _ (m : IsUnmounted) where
      -- an entry is of the mount where it is the mount, or in it
      told : (q : ℕ) (e : Entry) → entry_of t.nodes q ≡ Some e → is_of_mount mount e ≡ (nat_eq mount q || inside q)
      told q e found =
          ap (λ (b : Bool). b || (e.parent == mount)) number ∙ ap (λ (b : Bool). nat_eq mount q || b) parent
        where
          number : (e.number == mount) ≡ nat_eq mount q
          number = elim (cases_eq mount q) [
            | inl same ↦ eq-eqb e.number mount (entry_of-number t.nodes q e found ∙ sym same) ∙ sym (eq-eqb mount q same)
            | inr other ↦ ne_eqb e.number mount (λ same. other (sym same ∙ entry_of-number t.nodes q e found)) ∙ sym (ne_eqb mount q other)
          ]

          parent : (e.parent == mount) ≡ inside q
          parent = elim (cases_eq e.parent mount) [
            | inl same ↦
                eq-eqb e.parent mount same
                ∙ sym (ap (λ (b : Bool). b && true) (among-has (kids_of t.nodes mount) q (h.lists.lists mount q (ap parent_in found ∙ ap (λ (d : ℕ). Some d) same))))
            | inr other ↦
                ne_eqb e.parent mount other
                ∙ sym (stays-by t h mount is [] q (has-not (kids_of t.nodes mount) q (λ among.
                let own = member t h mount is q among in
                let same : Some own.0 ≡ Some e = sym own.1 ∙ found in
                let one : own.0 ≡ e = cc in
                other (sym (ap (λ (x : Entry). x.parent) one) ∙ own.2))))
          ]

      pub state-unmounted : state_of u ≡ without_such (is_of_mount mount) (state_of t)
      state-unmounted =
          let left : entries_below t.next (entry_of u.nodes) ≡ filter (λ (e : Entry). not (is_of_mount mount e)) (entries_below t.next (entry_of t.nodes)) =
          below-left (λ (e : Entry). not (is_of_mount mount e)) t.next (entry_of t.nodes) (entry_of u.nodes) (λ q. nat_eq mount q || inside q)
          (λ q low. m.entries q ∙ (elim (nat_eq mount q) as (λ b. cond b None (emptied q) ≡ cond (b || inside q) None (entry_of t.nodes q)) [ true ↦ refl | false ↦ refl ]))
          (λ q e found. ap not (told q e found)) in
          let all : entries_below u.next (entry_of u.nodes) ≡ filter (λ (e : Entry). not (is_of_mount mount e)) (entries_below t.next (entry_of t.nodes)) =
          ap (λ (k : ℕ). entries_below k (entry_of u.nodes)) m.next ∙ left in
          λ i. state_with (m.version i) (m.next i) (all i)

      pub clean-unmounted : (q : ℕ) → dirty_in (entry_of u.nodes q) ≡ dirty_in (entry_of t.nodes q)
      clean-unmounted q = ap dirty_in (m.entries q) ∙ (elim (cases_eq mount q) [
        | inl same ↦
            (let entry = mount-entry t h mount is in
            ap (λ (k : ℕ). dirty_in (set_at mount None emptied k)) (sym same) ∙ ap dirty_in (set-here mount None emptied)
            ∙ sym (ap dirty_in entry.1 ∙ mount-clean entry.0.body entry.2) ∙ ap (λ (k : ℕ). dirty_in (entry_of t.nodes k)) same)
        | inr other ↦ ap dirty_in (set-there mount None emptied q other) ∙ (elim (inside q) as (λ b. inside q ≡ b → dirty_in (cond b None (entry_of t.nodes q)) ≡ dirty_in (entry_of t.nodes q)) [
          | true ↦ (λ gone. sym (dropped-clean t h mount is q (leaves-in t h mount is [] q gone)))
          | false ↦ (λ stays. refl)
        ] refl)
      ])

      bare : AreNested t.next emptied (name_of t.nodes) (set_at mount [] (kids_of t.nodes))
      bare =
          let same : t.next + length {A = List ℕ} [] ≡ t.next = omega arith in
          let synced : IsSynced t.next mount (entry_of t.nodes) emptied (name_of t.nodes) (name_of t.nodes) (kids_of t.nodes) (find t h mount is) [] = record {
            low = mount-low t h mount is;
            found = find-member t h mount is;
            own = find-own t h mount is;
            told = λ q low. refl;
            fresh = λ q high low. absurd (omega arith);
            above = λ q high. ap (λ (o : Option Entry). cond (inside q) None o) (h.lists.above q (omega arith)) ∙ (elim (inside q) as (λ b. cond {A = Option Entry} b None None ≡ None) [ true ↦ refl | false ↦ refl ]);
            same = λ q low stays. refl;
            follow = tt;
            rise = refl;
          } in
          subst (λ (k : ℕ). AreNested k emptied (name_of t.nodes) (set_at mount [] (kids_of t.nodes))) same
          (tree-synced t.next mount (entry_of t.nodes) emptied (name_of t.nodes) (name_of t.nodes) (kids_of t.nodes) (find t h mount is) [] h.lists synced)

      -- the mount is in its directory still
      emptied-stands : parent_in (emptied mount) ≡ Some dir
      emptied-stands = ap (λ (b : Bool). parent_in (cond b None (entry_of t.nodes mount))) mount-stays ∙ stands

      dir-stays : inside dir ≡ false
      dir-stays = elim (inside dir) as (λ b. inside dir ≡ b → b ≡ false) [
        | true ↦ (λ gone.
            let empty : kids_of t.nodes dir ≡ [] = document-bare t h mount is dir (has-among (kids_of t.nodes mount) dir (leaves-in t h mount is [] dir gone)) in
            absurd (subst (λ (ns : List ℕ). Among ns mount) empty (h.lists.lists dir mount stands)))
        | false ↦ (λ stays. refl)
      ] refl

      same-list : set_at mount [] (kids_of t.nodes) dir ≡ kids_of t.nodes dir
      same-list = set-there mount [] (kids_of t.nodes) dir apart

      -- the lists are those that are left
      lists : (d : ℕ) → kids_of u.nodes d ≡ set_at dir (remove (set_at mount [] (kids_of t.nodes) dir) (rank_in (name_of t.nodes) (name_of t.nodes mount) (set_at mount [] (kids_of t.nodes) dir))) (set_at mount [] (kids_of t.nodes)) d
      lists d = m.lists d ∙ (elim (cases_eq mount d) [
        | inl same ↦
            ap (λ (k : ℕ). set_at mount [] (λ n. cond (inside n) [] (set_at mount [] cut n)) k) (sym same)
            ∙ set-here mount [] (λ n. cond (inside n) [] (set_at mount [] cut n))
            ∙ sym (set-here mount [] (kids_of t.nodes))
            ∙ sym (set-there dir (remove (set_at mount [] (kids_of t.nodes) dir) (rank_in (name_of t.nodes) (name_of t.nodes mount) (set_at mount [] (kids_of t.nodes) dir))) (set_at mount [] (kids_of t.nodes)) mount (λ is. apart (sym is)))
            ∙ ap (λ (k : ℕ). set_at dir (remove (set_at mount [] (kids_of t.nodes) dir) (rank_in (name_of t.nodes) (name_of t.nodes mount) (set_at mount [] (kids_of t.nodes) dir))) (set_at mount [] (kids_of t.nodes)) k) same
        | inr other ↦
            set-there mount [] (λ n. cond (inside n) [] (set_at mount [] cut n)) d other
            ∙ ap (λ (ns : List ℕ). cond (inside d) [] ns) (set-there mount [] cut d other)
            ∙ (elim (cases_eq dir d) [
              | inl here ↦
                  ap (λ (k : ℕ). cond (inside k) [] (cut k)) (sym here)
                  ∙ ap (λ (b : Bool). cond b [] (cut dir)) dir-stays
                  ∙ set-here dir rest (kids_of t.nodes)
                  ∙ ap (λ (ns : List ℕ). remove ns (rank_in (name_of t.nodes) (name_of t.nodes mount) ns)) (sym same-list)
                  ∙ sym (set-here dir (remove (set_at mount [] (kids_of t.nodes) dir) (rank_in (name_of t.nodes) (name_of t.nodes mount) (set_at mount [] (kids_of t.nodes) dir))) (set_at mount [] (kids_of t.nodes)))
                  ∙ ap (λ (k : ℕ). set_at dir (remove (set_at mount [] (kids_of t.nodes) dir) (rank_in (name_of t.nodes) (name_of t.nodes mount) (set_at mount [] (kids_of t.nodes) dir))) (set_at mount [] (kids_of t.nodes)) k) here
              | inr elsewhere ↦
                  ap (λ (ns : List ℕ). cond (inside d) [] ns) (set-there dir rest (kids_of t.nodes) d elsewhere)
                  ∙ (elim (inside d) as (λ b. inside d ≡ b → cond b [] (kids_of t.nodes d) ≡ kids_of t.nodes d) [
                    | true ↦ (λ gone. sym (document-bare t h mount is d (has-among (kids_of t.nodes mount) d (leaves-in t h mount is [] d gone))))
                    | false ↦ (λ stays. refl)
                  ] refl)
                  ∙ sym (set-there mount [] (kids_of t.nodes) d other)
                  ∙ sym (set-there dir (remove (set_at mount [] (kids_of t.nodes) dir) (rank_in (name_of t.nodes) (name_of t.nodes mount) (set_at mount [] (kids_of t.nodes) dir))) (set_at mount [] (kids_of t.nodes)) d elsewhere)
            ])
      ])

      nested : AreNested u.next (entry_of u.nodes) (name_of u.nodes) (kids_of u.nodes)
      nested = subst (λ (k : ℕ). AreNested k (entry_of u.nodes) (name_of u.nodes) (kids_of u.nodes)) (sym m.next)
          (tree-same t.next (set_at mount None emptied) (entry_of u.nodes) (name_of t.nodes) (name_of u.nodes) (set_at dir (remove (set_at mount [] (kids_of t.nodes) dir) (rank_in (name_of t.nodes) (name_of t.nodes mount) (set_at mount [] (kids_of t.nodes) dir))) (set_at mount [] (kids_of t.nodes))) (kids_of u.nodes)
          (tree-unlinked t.next emptied (name_of t.nodes) (set_at mount [] (kids_of t.nodes)) mount dir bare emptied-stands)
          (λ q. ap parent_in (m.entries q)) names lists)
        where
          names : (d q : ℕ) → parent_in (set_at mount None emptied q) ≡ Some d → name_of u.nodes q ≡ name_of t.nodes q
          names d q there = elim (nat_eq mount q) as (λ b. nat_eq mount q ≡ b → parent_in (cond b None (emptied q)) ≡ Some d → name_of u.nodes q ≡ name_of t.nodes q) [
            | true ↦ (λ same never. absurd cc)
            | false ↦ (λ other there. elim (inside q) as (λ b. inside q ≡ b → parent_in (cond b None (entry_of t.nodes q)) ≡ Some d → name_of u.nodes q ≡ name_of t.nodes q) [
              | true ↦ (λ gone never. absurd cc)
              | false ↦ (λ stays there. m.named q other stays)
            ] refl there)
          ] refl there

      others : HasNoOther u.nodes u.next
      others q root below gone = m.numbers q ∙ (elim (nat_eq mount q) as (λ b. nat_eq mount q ≡ b → cond b false (cond (inside q) false (has_node t.nodes q)) ≡ false) [
        | true ↦ (λ same. refl)
        | false ↦ (λ other. elim (inside q) as (λ b. inside q ≡ b → cond b false (has_node t.nodes q) ≡ false) [
          | true ↦ (λ left. refl)
          | false ↦ (λ stays.
              let found : entry_of u.nodes q ≡ entry_of t.nodes q = m.entries q ∙ ap (λ (b : Bool). cond b None (emptied q)) other ∙ ap (λ (b : Bool). cond b None (entry_of t.nodes q)) stays in
              h.others q root (subst (λ (k : ℕ). q < k) m.next below) (sym found ∙ gone))
        ] refl)
      ] refl)

      pub shaped-unmounted : IsLayout (state_of u) → HasSpare u.ready u.nodes u.next → IsShaped u
      shaped-unmounted layout spare = record {
        lists = nested;
        layout = layout;
        root = root;
        spare = spare;
        others = others;
      }
        where
          root : has_node u.nodes 0 ≡ true
          root =
              let entry = mount-entry t h mount is in
              m.numbers 0
              ∙ set-there mount false (λ n. cond (inside n) false (has_node t.nodes n)) 0 (λ same.
              let none : entry_of t.nodes mount ≡ None = ap (λ (k : ℕ). entry_of t.nodes k) same ∙ h.lists.root in
              let some : entry_of t.nodes mount ≡ Some entry.0 = entry.1 in
              cc)
              ∙ ap (λ (b : Bool). cond b false (has_node t.nodes 0)) (stays-by t h mount is [] 0 (root-outside t h mount is))
              ∙ h.root
