use Rattle.std.proofs.Common.{◌≡◌, ◌≤◌, ◌<◌, ◌+◌, ℕ, List, [], Bool, true, false, length, cond, refl, ap, subst, sym, ◌∙◌, arith}
use Rattle.std.specs.Prelude.{◌&&◌, ◌||◌, nat_eq, nat_lt, is_none, Option, None}
use Rattle.std.proofs.lemmas.Bool.Decides.{nat_tests}
use Rattle.std.proofs.Math.Bool.{or-false}
use Rattle.hac_model.specs.Tree.Depends.{Among}
use Rattle.hac_model.specs.Tree.Mounting.{fresh, is_gone, with_documents, without_such}
use Rattle.hac_model.specs.Tree.{is_mount_at}
use Rattle.hac_model.specs.Tree.Valid.{IsLayout}
use Rattle.hac_model.specs.declared.states.Entry.{Entry}
use Rattle.hac_model.specs.declared.limits.TheConstants.{NUMBERS_LIMIT}
use Rattle.hac_model.proofs.LimitLemmas.{limits-within, most-numbers}
use Rattle.file_tree.specs.Answers.{is_dirty_at}
use Rattle.tree_nodes.specs.Documents.{is_dropped, numbers_from, unknown, with_entries, with_names}
use Rattle.tree_nodes.specs.Nodes.{entry_of, has_node, kids_of, name_of}
use Rattle.file_tree.specs.Ready.{is_awaited, numbers_in}
use Rattle.tree_nodes.specs.Search.{first_named, NamesRise}
use Rattle.file_tree.specs.Seen.{Seen}
use Rattle.file_tree.specs.Shape.{HasSpare, state_of}
use Rattle.file_tree.specs.declared.ready.Ready.{Ready}
use Rattle.file_tree.specs.declared.tree.Tree.TheInside.{Inside}
use Rattle.file_tree.proofs.ChildLemmas.{entry-node}
use Rattle.file_tree.proofs.DroppedLemmas.{dropped-told, entries-put, finds, low-name, member-low, mount-inside, names-put, ready-inside, rise-redone, spare-inside}
use Rattle.tree_nodes.proofs.ListLemmas.{rises-same}
use Rattle.file_tree.proofs.MountLemmas.{dirty-same}
use Rattle.file_tree.proofs.NumberLemmas.{number-new}
use Rattle.file_tree.proofs.SyncLemmas.{IsRedone, clean-redone, documents, find, leaves, mount-entry, mount-outside, shaped-redone, state-redone}
use Rattle.file_tree.proofs.TreeLemmas.{became, set-has}
use Rattle.tiered_list.specs.Listed.{Listed}
use Rattle.file_tree.proofs.tree.Tree.sync.Goals as goal

pub put_children-requires : goal.put_children-requires
put_children-requires c =
    let is = mount-inside c.self.inside c.args.self.now c.self.view_is c.args.mount c.requires.mount in
    let entry = mount-entry c.self.inside c.self.invariant.shaped c.args.mount is in
    entry-node c.self.inside.nodes c.args.mount entry.0 entry.1

pub put_unknown-self-inside-requires-clause-rise : goal.put_unknown-self-inside-requires-clause-rise
put_unknown-self-inside-requires-clause-rise c =
    let known : c.items.result ≡ kids_of c.self.inside.nodes c.args.mount = c.items.ensures ∙ c.put_children.ensures.given in
    rises-same (name_of c.self.inside.nodes) (name_of c.put_children.new.nodes) c.items.result (λ n among. c.put_children.ensures.list.names n)
    (subst (λ (ns : List ℕ). NamesRise (name_of c.self.inside.nodes) ns) (sym known) (c.self.invariant.shaped.lists.rises c.args.mount))

pub put_unknown-self-inside-requires-clause-low : goal.put_unknown-self-inside-requires-clause-low
put_unknown-self-inside-requires-clause-low c = λ q among.
    let is = mount-inside c.self.inside c.args.self.now c.self.view_is c.args.mount c.requires.mount in
    member-low c.self.inside c.self.invariant.shaped c.args.mount is q (subst (λ (ns : List ℕ). Among ns q) (c.items.ensures ∙ c.put_children.ensures.given) among)

pub put_unknown-self-inside-requires-clause-there : goal.put_unknown-self-inside-requires-clause-there
put_unknown-self-inside-requires-clause-there c = λ q high low.
    let t = c.self.inside in
    let h = c.self.invariant.shaped in
    let is = mount-inside t c.args.self.now c.self.view_is c.args.mount c.requires.mount in
    let same = finds t c.args.self.now c.self.view_is c.args.mount h is (name_of c.put_children.new.nodes) c.items.result c.put_children.ensures.list.names (c.items.ensures ∙ c.put_children.ensures.given) in
    let inside : q < t.next + length (unknown (find t h c.args.mount is) c.args.documents) = subst (λ (f : List ℕ → Option ℕ). q < t.next + length (unknown f c.args.documents)) same low in
    c.put_children.ensures.list.numbers q
    ∙ spare-inside t c.args.self.now c.self.view_is c.args.mount h is c.args.documents c.requires.ready q (number-new (find t h c.args.mount is) c.args.documents t.next q high inside)

pub put_unknown-self-inside-requires-clause-few : goal.put_unknown-self-inside-requires-clause-few
put_unknown-self-inside-requires-clause-few c =
    let t = c.self.inside in
    let s = c.args.self.now.state in
    let h = c.self.invariant.shaped in
    let is = mount-inside t c.args.self.now c.self.view_is c.args.mount c.requires.mount in
    let same = finds t c.args.self.now c.self.view_is c.args.mount h is (name_of c.put_children.new.nodes) c.items.result c.put_children.ensures.list.names (c.items.ensures ∙ c.put_children.ensures.given) in
    let after = with_documents (without_such (is_gone c.args.mount c.args.documents) s) c.args.mount (fresh s c.args.mount c.args.documents) in
    let within = limits-within after c.requires.may.layout.limits in
    let low : nat_lt NUMBERS_LIMIT (s.next + length (fresh s c.args.mount c.args.documents)) ≡ false = most-numbers after within in
    let small : s.next + length (fresh s c.args.mount c.args.documents) ≤ NUMBERS_LIMIT = grind (arith, nat_tests, low) in
    let inside : t.next + length (unknown (find t h c.args.mount is) c.args.documents) ≤ NUMBERS_LIMIT = subst (λ (x : Seen). x.state.next + length (fresh x.state c.args.mount c.args.documents) ≤ NUMBERS_LIMIT) (sym c.self.view_is) small in
    let most : (k : ℕ) → k ≤ NUMBERS_LIMIT → k < 18446744073709551616 = λ k le. omega arith in
    subst (λ (f : List ℕ → Option ℕ). t.next + length (unknown f c.args.documents) < 18446744073709551616) (sym same) (most (t.next + length (unknown (find t h c.args.mount is) c.args.documents)) inside)

pub take_dropped-requires-clause-rise : goal.take_dropped-requires-clause-rise
take_dropped-requires-clause-rise c =
    let t = c.self.inside in
    let h = c.self.invariant.shaped in
    let g = name_of c.put_unknown-self-inside.new.nodes in
    let is = mount-inside t c.args.self.now c.self.view_is c.args.mount c.requires.mount in
    let same = finds t c.args.self.now c.self.view_is c.args.mount h is (name_of c.put_children.new.nodes) c.items.result c.put_children.ensures.list.names (c.items.ensures ∙ c.put_children.ensures.given) in
    let named = names-put t h c.args.mount is c.args.documents (first_named (name_of c.put_children.new.nodes) c.items.result) same g (name_of c.put_children.new.nodes) c.put_children.ensures.list.names c.put_unknown-self-inside.ensures.put.names in
    let known : c.items-2.result ≡ kids_of t.nodes c.args.mount = c.items-2.ensures ∙ c.put_children.ensures.given in
    subst (λ (ns : List ℕ). NamesRise g ns) (sym known)
    (rises-same (name_of t.nodes) g (kids_of t.nodes c.args.mount) (λ n among. low-name t h c.args.mount is c.args.documents g named n (member-low t h c.args.mount is n among)) (h.lists.rises c.args.mount))

pub take_dropped-requires-clause-kept_rise : goal.take_dropped-requires-clause-kept_rise
take_dropped-requires-clause-kept_rise c =
    let t = c.self.inside in
    let h = c.self.invariant.shaped in
    let g = name_of c.put_unknown-self-inside.new.nodes in
    let is = mount-inside t c.args.self.now c.self.view_is c.args.mount c.requires.mount in
    let same = finds t c.args.self.now c.self.view_is c.args.mount h is (name_of c.put_children.new.nodes) c.items.result c.put_children.ensures.list.names (c.items.ensures ∙ c.put_children.ensures.given) in
    let named = names-put t h c.args.mount is c.args.documents (first_named (name_of c.put_children.new.nodes) c.items.result) same g (name_of c.put_children.new.nodes) c.put_children.ensures.list.names c.put_unknown-self-inside.ensures.put.names in
    let numbers : c.items-3.result ≡ numbers_from (find t h c.args.mount is) t.next c.args.documents =
    c.items-3.ensures ∙ ap (λ (x : Listed). x.items) c.from_vec-numbers.ensures ∙ c.numbers_in.ensures ∙ ap numbers_in (c.replace-ready.ensures.value ∙ ready-inside t c.args.self.now c.self.view_is c.args.mount h is c.args.documents c.requires.ready) in
    subst (λ (ns : List ℕ). NamesRise g ns) (sym numbers) (rise-redone t h c.args.mount is c.args.documents g named c.requires.rise)

pub put_children-requires-2 : goal.put_children-requires-2
put_children-requires-2 c =
    let t = c.self.inside in
    let h = c.self.invariant.shaped in
    let g = name_of c.put_unknown-self-inside.new.nodes in
    let is = mount-inside t c.args.self.now c.self.view_is c.args.mount c.requires.mount in
    let entry = mount-entry t h c.args.mount is in
    let out : is_dropped g c.items-2.result c.items-3.result c.args.mount ≡ false =
    ap (λ (ns : List ℕ). is_dropped g ns c.items-3.result c.args.mount) (c.items-2.ensures ∙ c.put_children.ensures.given)
    ∙ ap (λ (b : Bool). b && is_none (first_named g c.items-3.result (g c.args.mount))) (mount-outside t h c.args.mount is) in
    c.take_dropped.ensures.numbers c.args.mount
    ∙ ap (λ (b : Bool). cond b false (has_node c.put_unknown-self-inside.new.nodes c.args.mount)) out
    ∙ c.put_unknown-self-inside.ensures.put.numbers c.args.mount ∙ c.put_children.ensures.list.numbers c.args.mount
    ∙ entry-node t.nodes c.args.mount entry.0 entry.1

module _ (c : goal.After-drop-numbers-inside-2) where
  abbrev t : Inside
  t = c.self.inside

  abbrev u : Inside
  u = record c.self.inside { next = c.put_unknown-self-inside.result; nodes = c.put_children-2.new.nodes; ready = c.replace-ready.new.dest; counts = c.args.counts }

  is : is_mount_at (state_of c.self.inside).entries c.args.mount ≡ true
  is = mount-inside c.self.inside c.args.self.now c.self.view_is c.args.mount c.requires.mount

  same : first_named (name_of c.put_children.new.nodes) c.items.result ≡ find c.self.inside c.self.invariant.shaped c.args.mount is
  same = finds c.self.inside c.args.self.now c.self.view_is c.args.mount c.self.invariant.shaped is (name_of c.put_children.new.nodes) c.items.result c.put_children.ensures.list.names (c.items.ensures ∙ c.put_children.ensures.given)

  numbers : c.from_vec-numbers.result.items ≡ numbers_from (find c.self.inside c.self.invariant.shaped c.args.mount is) c.self.inside.next c.args.documents
  numbers = ap (λ (x : Listed). x.items) c.from_vec-numbers.ensures ∙ c.numbers_in.ensures ∙ ap numbers_in (c.replace-ready.ensures.value ∙ ready-inside c.self.inside c.args.self.now c.self.view_is c.args.mount c.self.invariant.shaped is c.args.documents c.requires.ready)

  named : (q : ℕ) → name_of c.put_unknown-self-inside.new.nodes q ≡ with_names (documents c.self.inside c.self.invariant.shaped c.args.mount is c.args.documents) (name_of c.self.inside.nodes) q
  named = names-put c.self.inside c.self.invariant.shaped c.args.mount is c.args.documents (first_named (name_of c.put_children.new.nodes) c.items.result) same (name_of c.put_unknown-self-inside.new.nodes) (name_of c.put_children.new.nodes) c.put_children.ensures.list.names c.put_unknown-self-inside.ensures.put.names

  put : (q : ℕ) → entry_of c.put_unknown-self-inside.new.nodes q ≡ with_entries (documents c.self.inside c.self.invariant.shaped c.args.mount is c.args.documents) (entry_of c.self.inside.nodes) q
  put = entries-put c.self.inside c.self.invariant.shaped c.args.mount is c.args.documents (first_named (name_of c.put_children.new.nodes) c.items.result) same (entry_of c.put_unknown-self-inside.new.nodes) (entry_of c.put_children.new.nodes) c.put_children.ensures.list.entries c.put_unknown-self-inside.ensures.put.entries

  abbrev left : ℕ → Bool
  left = leaves c.self.inside c.self.invariant.shaped c.args.mount is c.args.documents

  dropped : (q : ℕ) → is_dropped (name_of c.put_unknown-self-inside.new.nodes) c.items-2.result c.items-3.result q ≡ leaves c.self.inside c.self.invariant.shaped c.args.mount is c.args.documents q
  dropped q =
      ap (λ (ns : List ℕ). is_dropped (name_of c.put_unknown-self-inside.new.nodes) ns c.items-3.result q) (c.items-2.ensures ∙ c.put_children.ensures.given)
      ∙ ap (λ (ns : List ℕ). is_dropped (name_of c.put_unknown-self-inside.new.nodes) (kids_of c.self.inside.nodes c.args.mount) ns q) (c.items-3.ensures ∙ numbers)
      ∙ dropped-told c.self.inside c.self.invariant.shaped c.args.mount is c.args.documents (name_of c.put_unknown-self-inside.new.nodes) named q

  redone : IsRedone c.self.inside c.self.invariant.shaped c.args.mount is c.args.documents u
  redone = record {
    next = c.put_unknown-self-inside.ensures.next ∙ (λ i. c.self.inside.next + length (unknown (same i) c.args.documents));
    version = refl;
    entries = λ q.
        c.put_children-2.ensures.list.entries q ∙ c.take_dropped.ensures.entries q
        ∙ ap (λ (b : Bool). cond {A = Option Entry} b None (entry_of c.put_unknown-self-inside.new.nodes q)) (dropped q)
        ∙ ap (λ (o : Option Entry). cond (left q) None o) (put q);
    named = λ q stays. c.put_children-2.ensures.list.names q ∙ c.take_dropped.ensures.names q (dropped q ∙ stays) ∙ named q;
    lists = λ d.
        c.put_children-2.ensures.list.kids d
        ∙ ap (λ (ns : List ℕ). cond (nat_eq c.args.mount d) ns (kids_of c.take_dropped.new.nodes d)) numbers
        ∙ ap (λ (ns : List ℕ). cond (nat_eq c.args.mount d) (numbers_from (find c.self.inside c.self.invariant.shaped c.args.mount is) c.self.inside.next c.args.documents) ns) (
        c.take_dropped.ensures.kids d
        ∙ ap (λ (b : Bool). cond {A = List ℕ} b [] (kids_of c.put_unknown-self-inside.new.nodes d)) (dropped d)
        ∙ ap (λ (ns : List ℕ). cond (left d) [] ns) (
        c.put_unknown-self-inside.ensures.put.kids d ∙ c.put_children.ensures.list.kids d
        ∙ ap (λ (ns : List ℕ). cond (nat_eq c.args.mount d) ns (kids_of c.self.inside.nodes d)) (ap (λ (x : Listed). x.items) c.new-known.ensures)));
    numbers = λ q.
        c.put_children-2.ensures.list.numbers q ∙ c.take_dropped.ensures.numbers q
        ∙ ap (λ (b : Bool). cond b false (has_node c.put_unknown-self-inside.new.nodes q)) (dropped q)
        ∙ ap (λ (b : Bool). cond (left q) false b) (c.put_unknown-self-inside.ensures.put.numbers q ∙ c.put_children.ensures.list.numbers q);
  }

  state : state_of u ≡ with_documents (without_such (is_gone c.args.mount c.args.documents) c.args.self.now.state) c.args.mount (fresh c.args.self.now.state c.args.mount c.args.documents)
  state =
      state-redone c.self.inside c.self.invariant.shaped c.args.mount is c.args.documents u redone
      ∙ ap (λ (x : Seen). with_documents (without_such (is_gone c.args.mount c.args.documents) x.state) c.args.mount (fresh x.state c.args.mount c.args.documents)) c.self.view_is

pub returns : goal.returns
returns c = λ i. record { state = state c i; ready = c.replace-ready.ensures.after i }

pub invariant_of-self : goal.invariant_of-self
invariant_of-self c =
    let s = c.args.self.now in
    let h = c.self.invariant.shaped in
    let after = with_documents (without_such (is_gone c.args.mount c.args.documents) s.state) c.args.mount (fresh s.state c.args.mount c.args.documents) in
    let shaped = shaped-redone c.self.inside h c.args.mount (is c) c.args.documents (u c) (redone c) c.requires.rise (subst IsLayout (sym (state c)) c.requires.may.layout)
    (subst (λ (r : Ready). HasSpare r c.put_children-2.new.nodes c.put_unknown-self-inside.result) (sym c.replace-ready.ensures.after) tt) in
    became (u c) after (returns c) shaped c.requires.may.counts_are
    (λ n.
    set-has c.self.inside s c.self.view_is c.self.invariant n
    ∙ ap (λ (r : Ready). is_dirty_at s.state.entries n || is_awaited s.state.next r n) c.requires.ready
    ∙ or-false (is_dirty_at s.state.entries n)
    ∙ dirty-same c.self.inside s c.self.view_is h (u c) after shaped (state c) (clean-redone c.self.inside h c.args.mount (is c) c.args.documents (u c) (redone c)) n)
