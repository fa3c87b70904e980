-- What a tree keeps when a mount comes with its documents, given what is under each number before and after.
use Rattle.std.proofs.Common.{◌≡◌, ℕ, ◌+◌, ◌<◌, ◌≤◌, true, false, cond, List, [], ◌∷◌, ◌++◌, length, subst, refl, ap, sym, ◌∙◌, arith, inl, inr}
use Rattle.std.specs.Prelude.{insert, Option, Some, None}
use Rattle.std.specs.Str.{bytes_eq}
use Rattle.std.proofs.lemmas.Slice.Eq.{bytes_eq-Decides}
use Rattle.std.proofs.lemmas.Bool.{cases_Bool, cases_eq, cases_lt}
use Rattle.hac_model.specs.Tree.Depends.{Among}
use Rattle.hac_model.specs.Tree.Mounting.{do_names_rise, documents_from, mounted}
use Rattle.hac_model.specs.Tree.Valid.{IsLayout}
use Rattle.hac_model.specs.declared.states.Body.TheVariants.{Mount}
use Rattle.hac_model.specs.declared.states.Entry.{Entry}
use Rattle.hac_model.specs.declared.states.State.{State}
use Rattle.hac_model.proofs.TreeLemmas.{rise-below}
use Rattle.file_tree.specs.Answers.{is_dirty_at}
use Rattle.tree_nodes.specs.Documents.{numbers_from, numbers_up, unknown, with_entries, with_names}
use Rattle.file_tree.specs.Shape.{entries_below, AreNested, HasNoOther, HasSpare, IsShaped, seen_of, state_of}
use Rattle.tree_nodes.specs.Nodes.{entry_of, has_node, kids_of, name_of, set_at, parent_in}
use Rattle.tree_nodes.specs.Search.{rank_in}
use Rattle.file_tree.specs.Seen.{Seen}
use Rattle.file_tree.specs.declared.tree.Tree.TheInside.{Inside}
use Rattle.file_tree.proofs.BelowLemmas.{below-added, below-same, below-more}
use Rattle.file_tree.proofs.ChildLemmas.{name-told, parent-told}
use Rattle.file_tree.proofs.NestLemmas.{IsSynced, goes, tree-synced}
use Rattle.file_tree.proofs.NumberLemmas.{numbers-none, unknown-none}
use Rattle.tree_nodes.proofs.OverLemmas.{NamesFollow, dirty_in, follow-same, long, named-follow, named-low, names-same, over-clean, over-follow, over-high, over-inside, over-low}
use Rattle.file_tree.proofs.ReadLemmas.{seen-at, seen-entry}
use Rattle.tree_nodes.proofs.SetLemmas.{set-here, set-there}
use Rattle.file_tree.proofs.ShapeLemmas.{tree-linked, tree-same}
use Rattle.file_tree.proofs.StateLemmas.{apart, entry-low, state_with}

-- nothing is found
abbrev pub nowhere : List ℕ → Option ℕ
nowhere name = None

-- the same numbers are dirty where the same nodes are
pub dirty-same : (t : Inside) (s : Seen) → seen_of t ≡ s → IsShaped t → (u : Inside) (after : State) → IsShaped u → state_of u ≡ after → ((n : ℕ) → dirty_in (entry_of u.nodes n) ≡ dirty_in (entry_of t.nodes n)) →
    (n : ℕ) → is_dirty_at s.state.entries n ≡ is_dirty_at after.entries n
dirty-same t s view h u after shaped state same n =
    ap dirty_in (seen-at t s view h n) ∙ sym (same n) ∙ ap dirty_in (sym (seen-entry u shaped n)) ∙ ap (λ (x : State). is_dirty_at x.entries n) state

module _ (t : Inside) (s : Seen) (view : seen_of t ≡ s) (h : IsShaped t) (u : Inside) (dir : ℕ) (name space : List ℕ) (xs : List (List ℕ)) where
  abbrev pub new : Entry
  new = record { number = t.next; parent = dir; name = name; body = Mount space [] }

  -- the mount alone
  abbrev pub at : ℕ → Option Entry
  at = set_at t.next (Some new) (entry_of t.nodes)

  abbrev pub names : ℕ → List ℕ
  names = set_at t.next name (name_of t.nodes)

  abbrev pub kids : ℕ → List ℕ
  kids = set_at dir (insert (kids_of t.nodes dir) (rank_in (name_of t.nodes) name (kids_of t.nodes dir)) t.next) (kids_of t.nodes)

  -- what is under each number then
  pub record IsMounted : Type 0 where
    pub next : u.next ≡ t.next + 1 + length xs
    pub version : u.version ≡ t.version
    pub entries : (n : ℕ) → entry_of u.nodes n ≡ with_entries (documents_from (t.next + 1) t.next xs) at n
    pub named : (n : ℕ) → name_of u.nodes n ≡ with_names (documents_from (t.next + 1) t.next xs) names n
    pub lists : (d : ℕ) → kids_of u.nodes d ≡ set_at t.next (numbers_up (t.next + 1) (length xs)) kids d
    pub numbers : (n : ℕ) → has_node u.nodes n ≡ has_node t.nodes n

  module _ (m : IsMounted) where
    low-entry : (n : ℕ) → n < t.next + 1 → entry_of u.nodes n ≡ at n
    low-entry n low = m.entries n ∙ over-low xs (t.next + 1) t.next n at low

    pub state-mounted : state_of u ≡ mounted s.state dir name space [] xs
    state-mounted =
        let documents = documents_from (t.next + 1) t.next xs in
        let far : u.next ≡ t.next + 1 + length documents = m.next ∙ ap (λ (k : ℕ). t.next + 1 + k) (sym (long (t.next + 1) t.next xs)) in
        let follow = follow-same documents (t.next + 1) (with_entries documents at) (entry_of u.nodes) (λ q high. m.entries q) (over-follow xs (t.next + 1) t.next at) in
        let first : entries_below (t.next + 1) (entry_of u.nodes) ≡ entries_below t.next (entry_of t.nodes) ++ new ∷ [] =
        below-same (t.next + 1) at (entry_of u.nodes) low-entry ∙ below-added t.next (entry_of t.nodes) at new (λ n. refl) in
        let all : entries_below u.next (entry_of u.nodes) ≡ entries_below t.next (entry_of t.nodes) ++ new ∷ [] ++ documents =
        ap (λ (k : ℕ). entries_below k (entry_of u.nodes)) far ∙ below-more (t.next + 1) (entry_of u.nodes) documents follow ∙ ap (λ (es : List Entry). es ++ documents) first in
        (λ i. state_with (m.version i) (m.next i) (all i))
        ∙ ap (λ (x : Seen). mounted x.state dir name space [] xs) view

    pub clean-mounted : (n : ℕ) → dirty_in (entry_of u.nodes n) ≡ dirty_in (entry_of t.nodes n)
    clean-mounted n =
        ap dirty_in (m.entries n)
        ∙ over-clean xs (t.next + 1) t.next n at (λ k high. set-there t.next (Some new) (entry_of t.nodes) k (λ same. omega arith) ∙ h.lists.above k (omega arith))
        ∙ (elim (cases_eq t.next n) [
          | inl same ↦
              ap (λ (k : ℕ). dirty_in (at k)) (sym same) ∙ ap dirty_in (set-here t.next (Some new) (entry_of t.nodes))
              ∙ ap dirty_in (sym (h.lists.above t.next (omega arith))) ∙ ap (λ (k : ℕ). dirty_in (entry_of t.nodes k)) same
          | inr other ↦ ap dirty_in (set-there t.next (Some new) (entry_of t.nodes) n other)
        ])

    module _ (low : dir < t.next) (rise : do_names_rise xs ≡ true) (layout : IsLayout (mounted s.state dir name space [] xs)) where
      sound : IsLayout (state_of u)
      sound = subst IsLayout (sym state-mounted) layout

      here : entry_of u.nodes t.next ≡ Some new
      here = low-entry t.next (omega arith) ∙ set-here t.next (Some new) (entry_of t.nodes)

      -- a directory had no entry of a number that wasn't taken
      above : (n : ℕ) → u.next ≤ n → entry_of u.nodes n ≡ None
      above n high =
          let far : t.next + 1 + length xs ≤ n = subst (λ (k : ℕ). k ≤ n) m.next high in
          m.entries n ∙ over-high xs (t.next + 1) t.next n at far ∙ set-there t.next (Some new) (entry_of t.nodes) n (λ same. omega arith) ∙ h.lists.above n (omega arith)

      free : (n : ℕ) → Among (kids_of t.nodes dir) n → bytes_eq (name_of t.nodes n) name ≡ false
      free n among = elim (cases_Bool (bytes_eq (name_of t.nodes n) name)) [
        | inr other ↦ other
        | inl same ↦
            (let found = parent-told (entry_of t.nodes n) dir (h.lists.listed dir n among) in
            let less : n < t.next = entry-low t s view h u n found.0 found.1 in
            let there : entry_of u.nodes n ≡ Some found.0 = low-entry n (omega arith) ∙ set-there t.next (Some new) (entry_of t.nodes) n (λ is. omega arith) ∙ found.1 in
            let one : n ≡ t.next = apart u sound above n t.next found.0 new there here found.2 (sym (name-told t.nodes n found.0 found.1) ∙ (bytes_eq-Decides (name_of t.nodes n) name).0 same) in
            absurd (omega arith))
      ]

      linked : AreNested (t.next + 1) at names kids
      linked = tree-linked t.next (t.next + 1) (entry_of t.nodes) (name_of t.nodes) (kids_of t.nodes) t.next dir new name h.lists (h.lists.above t.next (omega arith)) (rise-below 0 (state_of t).entries t.next h.layout.numbers) (omega arith) (omega arith) (omega arith) refl free

      -- nothing is in the mount yet
      bare : kids t.next ≡ []
      bare = set-there dir (insert (kids_of t.nodes dir) (rank_in (name_of t.nodes) name (kids_of t.nodes dir)) t.next) (kids_of t.nodes) t.next (λ same. omega arith) ∙ h.lists.fresh t.next (omega arith)

      synced : IsSynced (t.next + 1) t.next at (entry_of u.nodes) names (name_of u.nodes) kids nowhere xs
      synced = record {
        low = omega arith;
        found = λ x q never. absurd cc;
        own = λ q among. absurd (subst (λ (ns : List ℕ). Among ns q) bare among);
        told = λ q low. low-entry q low ∙ sym (ap (λ (ns : List ℕ). cond (goes names ns xs q) None (at q)) bare);
        fresh = λ q high low. ap parent_in (m.entries q) ∙ over-inside xs (t.next + 1) t.next q at high (subst (λ (ys : List (List ℕ)). q < t.next + 1 + length ys) (unknown-none xs) low);
        above = λ q high. above q (subst (λ (k : ℕ). k ≤ q) (sym m.next) (subst (λ (ys : List (List ℕ)). t.next + 1 + length ys ≤ q) (unknown-none xs) high));
        same = λ q low stays. m.named q ∙ named-low xs (t.next + 1) t.next q names low;
        follow = subst (λ (ys : List (List ℕ)). NamesFollow (name_of u.nodes) (t.next + 1) ys) (sym (unknown-none xs))
            (names-same xs (t.next + 1) (with_names (documents_from (t.next + 1) t.next xs) names) (name_of u.nodes) (λ q high low. m.named q) (named-follow xs (t.next + 1) t.next names));
        rise = rise;
      }

      nested : AreNested u.next (entry_of u.nodes) (name_of u.nodes) (kids_of u.nodes)
      nested =
          let all = tree-synced (t.next + 1) t.next at (entry_of u.nodes) names (name_of u.nodes) kids nowhere xs linked synced in
          let far : t.next + 1 + length (unknown nowhere xs) ≡ u.next = ap (λ (ys : List (List ℕ)). t.next + 1 + length ys) (unknown-none xs) ∙ sym m.next in
          subst (λ (k : ℕ). AreNested k (entry_of u.nodes) (name_of u.nodes) (kids_of u.nodes)) far
          (tree-same (t.next + 1 + length (unknown nowhere xs)) (entry_of u.nodes) (entry_of u.nodes) (name_of u.nodes) (name_of u.nodes) (set_at t.next (numbers_from nowhere (t.next + 1) xs) kids) (kids_of u.nodes) all (λ n. refl) (λ d n stands. refl)
          (λ d. m.lists d ∙ ap (λ (ns : List ℕ). set_at t.next ns kids d) (sym (numbers-none xs (t.next + 1)))))

      others : HasNoOther u.nodes u.next
      others n root below gone = elim (cases_lt n (t.next + 1)) [
        | inl less ↦ elim (cases_eq t.next n) [
          | inl same ↦ (let none : Some new ≡ None = sym here ∙ ap (λ (k : ℕ). entry_of u.nodes k) same ∙ gone in absurd cc)
          | inr other ↦
              (let lower : n < t.next = omega arith in
              m.numbers n ∙ h.others n root lower (sym (set-there t.next (Some new) (entry_of t.nodes) n other) ∙ sym (low-entry n less) ∙ gone))
        ]
        | inr high ↦
            (let far : n < t.next + 1 + length xs = subst (λ (k : ℕ). n < k) m.next below in
            let some : parent_in (entry_of u.nodes n) ≡ Some t.next = ap parent_in (m.entries n) ∙ over-inside xs (t.next + 1) t.next n at high far in
            let none : parent_in (entry_of u.nodes n) ≡ None = ap parent_in gone in
            absurd cc)
      ]

      pub shaped-mounted : HasSpare u.ready u.nodes u.next → IsShaped u
      shaped-mounted spare = record {
        lists = nested;
        layout = sound;
        root = m.numbers 0 ∙ h.root;
        spare = spare;
        others = others;
      }
