use Rattle.std.proofs.Common.{◌≡◌, ◌≤◌, ◌+◌, ℕ, List, [], Option, Some, false, length, cond, refl, ap, subst, sym, ◌∙◌, arith}
use Rattle.std.specs.Prelude.{◌||◌, nat_eq, nat_lt, insert}
use Rattle.std.proofs.lemmas.Bool.Decides.{nat_tests}
use Rattle.std.proofs.Math.Bool.{or-false}
use Rattle.hac_model.specs.Tree.Depends.{Among}
use Rattle.hac_model.specs.Tree.Mounting.{documents_from, mounted}
use Rattle.hac_model.specs.declared.states.Body.TheVariants as body
use Rattle.hac_model.specs.declared.states.Entry.{Entry}
use Rattle.hac_model.specs.declared.states.State.{State}
use Rattle.hac_model.specs.declared.limits.TheConstants.{NUMBERS_LIMIT}
use Rattle.hac_model.proofs.LimitLemmas.{limits-within, most-numbers}
use Rattle.file_tree.specs.Answers.{is_dirty_at}
use Rattle.tree_nodes.specs.Documents.{numbers_up, unknown, with_entries, with_names}
use Rattle.tree_nodes.specs.Nodes.{entry_of, kids_of, name_of, set_at}
use Rattle.file_tree.specs.Ready.{is_awaited}
use Rattle.tree_nodes.specs.Search.{first_named, rank_in, NamesRise}
use Rattle.file_tree.specs.Seen.{Seen}
use Rattle.file_tree.specs.Shape.{HasDocuments, HasNew, HasNodes, HasSpare}
use Rattle.file_tree.specs.declared.ready.Ready.{Ready}
use Rattle.file_tree.specs.declared.ready.Ready.TheVariants.{Mount, Nothing}
use Rattle.file_tree.specs.declared.tree.Tree.TheInside.{Inside}
use Rattle.file_tree.proofs.MountLemmas.{IsMounted, at, clean-mounted, dirty-same, shaped-mounted, state-mounted}
use Rattle.file_tree.proofs.NumberLemmas.{unknown-none}
use Rattle.tree_nodes.proofs.OverLemmas.{named-same, over-same}
use Rattle.file_tree.proofs.TreeLemmas.{became, set-has}
use Rattle.file_tree.proofs.tree.Tree.mount.Goals as goal

-- what was prepared is there
spare-mount : (t : Inside) (dir count : ℕ) → t.ready ≡ Mount dir count → HasSpare t.ready t.nodes t.next → HasNew dir t.nodes t.next × HasNodes t.nodes t.next (t.next + 1 + count)
spare-mount t dir count ready spare = subst (λ (r : Ready). HasSpare r t.nodes t.next) ready spare

list-mount : (t : Inside) (dir count : ℕ) → t.ready ≡ Mount dir count → HasDocuments t.ready t.next t.documents.items → t.documents.items ≡ numbers_up (t.next + 1) count
list-mount t dir count ready documents = subst (λ (r : Ready). HasDocuments r t.next t.documents.items) ready documents

pub put_unknown-self-inside-requires-clause-rise : goal.put_unknown-self-inside-requires-clause-rise
put_unknown-self-inside-requires-clause-rise c = subst (λ (ns : List ℕ). NamesRise (name_of c.put.new.nodes) ns) (sym c.from_slice.ensures) tt

pub put_unknown-self-inside-requires-clause-low : goal.put_unknown-self-inside-requires-clause-low
put_unknown-self-inside-requires-clause-low c = λ q among. absurd (subst (λ (ns : List ℕ). Among ns q) c.from_slice.ensures among)

pub put_unknown-self-inside-requires-clause-there : goal.put_unknown-self-inside-requires-clause-there
put_unknown-self-inside-requires-clause-there c = λ q high low.
    let ready : c.self.inside.ready ≡ Mount c.args.dir (length c.args.documents) = ap (λ (x : Seen). x.ready) c.self.view_is ∙ c.requires.ready in
    let has = spare-mount c.self.inside c.args.dir (length c.args.documents) ready c.self.invariant.shaped.spare in
    let first : c.new-first.result ≡ c.self.inside.next + 1 = c.new-first.ensures ∙ ap (λ (k : ℕ). k + 1) c.get.ensures in
    let all : length (unknown (first_named (name_of c.put.new.nodes) c.from_slice.result) c.args.documents) ≡ length c.args.documents =
    ap (λ (ns : List ℕ). length (unknown (first_named (name_of c.put.new.nodes) ns) c.args.documents)) c.from_slice.ensures ∙ ap length (unknown-none c.args.documents) in
    c.put.ensures.numbers q ∙ c.insert_named.ensures.numbers q ∙ has.1 q (omega arith) (omega arith)

pub put_unknown-self-inside-requires-clause-few : goal.put_unknown-self-inside-requires-clause-few
put_unknown-self-inside-requires-clause-few c =
    let after = mounted c.args.self.now.state c.args.dir c.args.name c.args.space [] c.args.documents in
    let within = limits-within after c.requires.may.layout.limits in
    let low : nat_lt NUMBERS_LIMIT (c.args.self.now.state.next + 1 + length c.args.documents) ≡ false = most-numbers after within in
    let same : c.self.inside.next ≡ c.args.self.now.state.next = ap (λ (x : Seen). x.state.next) c.self.view_is in
    let small : c.args.self.now.state.next + 1 + length c.args.documents ≤ NUMBERS_LIMIT = grind (arith, nat_tests, low) in
    let first : c.new-first.result ≡ c.self.inside.next + 1 = c.new-first.ensures ∙ ap (λ (k : ℕ). k + 1) c.get.ensures in
    let all : length (unknown (first_named (name_of c.put.new.nodes) c.from_slice.result) c.args.documents) ≡ length c.args.documents =
    ap (λ (ns : List ℕ). length (unknown (first_named (name_of c.put.new.nodes) ns) c.args.documents)) c.from_slice.ensures ∙ ap length (unknown-none c.args.documents) in
    omega arith

module _ (c : goal.After-counts-1) where
  abbrev t : Inside
  t = c.self.inside

  abbrev u : Inside
  u = record c.self.inside { next = c.put_unknown-self-inside.result; nodes = c.put_children.new.nodes; documents = c.put_children.new.children; ready = Nothing; counts = c.args.counts }

  ready : c.self.inside.ready ≡ Mount c.args.dir (length c.args.documents)
  ready = ap (λ (x : Seen). x.ready) c.self.view_is ∙ c.requires.ready

  spare : HasNew c.args.dir c.self.inside.nodes c.self.inside.next
  spare = (spare-mount c.self.inside c.args.dir (length c.args.documents) ready c.self.invariant.shaped.spare).0

  first : c.new-first.result ≡ c.self.inside.next + 1
  first = c.new-first.ensures ∙ ap (λ (k : ℕ). k + 1) c.get.ensures

  all : unknown (first_named (name_of c.put.new.nodes) c.from_slice.result) c.args.documents ≡ c.args.documents
  all = ap (λ (ns : List ℕ). unknown (first_named (name_of c.put.new.nodes) ns) c.args.documents) c.from_slice.ensures ∙ unknown-none c.args.documents

  came : IsMounted c.self.inside c.args.self.now c.self.view_is c.self.invariant.shaped u c.args.dir c.args.name c.args.space c.args.documents
  came = record {
    next = c.put_unknown-self-inside.ensures.next ∙ (λ i. first i + length (all i));
    version = refl;
    entries = λ n.
        c.put_children.ensures.list.entries n ∙ c.put_unknown-self-inside.ensures.put.entries n
        ∙ (λ i. with_entries (documents_from (first i) t.next (all i)) (entry_of c.put.new.nodes) n)
        ∙ over-same (documents_from (t.next + 1) t.next c.args.documents) (at t c.args.self.now c.self.view_is c.self.invariant.shaped u c.args.dir c.args.name c.args.space c.args.documents) (entry_of c.put.new.nodes)
        (λ q. c.put.ensures.entries q ∙ ap (λ (o : Option Entry). cond (nat_eq t.next q) (Some (record { number = t.next; parent = c.args.dir; name = c.args.name; body = body.Mount c.args.space [] })) o) (c.insert_named.ensures.entries q)) n;
    named = λ n.
        c.put_children.ensures.list.names n ∙ c.put_unknown-self-inside.ensures.put.names n
        ∙ (λ i. with_names (documents_from (first i) t.next (all i)) (name_of c.put.new.nodes) n)
        ∙ named-same (documents_from (t.next + 1) t.next c.args.documents) (set_at t.next c.args.name (name_of t.nodes)) (name_of c.put.new.nodes)
        (λ q. c.put.ensures.names q ∙ ap (λ (x : List ℕ). cond (nat_eq t.next q) c.args.name x) (c.insert_named.ensures.names q)) n;
    lists = λ d.
        c.put_children.ensures.list.kids d
        ∙ ap (λ (ns : List ℕ). cond (nat_eq t.next d) ns (kids_of c.put_unknown-self-inside.new.nodes d)) (list-mount t c.args.dir (length c.args.documents) ready c.self.invariant.documents_are)
        ∙ ap (λ (ns : List ℕ). cond (nat_eq t.next d) (numbers_up (t.next + 1) (length c.args.documents)) ns) (
        c.put_unknown-self-inside.ensures.put.kids d ∙ c.put.ensures.kids d ∙ c.insert_named.ensures.kids (c.self.invariant.shaped.lists.rises c.args.dir) d
        ∙ ap (λ (x : List ℕ). set_at c.args.dir (insert (kids_of t.nodes c.args.dir) (rank_in (name_of t.nodes) x (kids_of t.nodes c.args.dir)) t.next) (kids_of t.nodes) d) c.as_bytes.ensures);
    numbers = λ n. c.put_children.ensures.list.numbers n ∙ c.put_unknown-self-inside.ensures.put.numbers n ∙ c.put.ensures.numbers n ∙ c.insert_named.ensures.numbers n;
  }

pub returns : goal.returns
returns c =
    let s = c.args.self.now in
    ap (λ (x : State). record { state = x; ready = Nothing }) (state-mounted c.self.inside s c.self.view_is c.self.invariant.shaped (u c) c.args.dir c.args.name c.args.space c.args.documents (came c))

pub invariant_of-self : goal.invariant_of-self
invariant_of-self c =
    let s = c.args.self.now in
    let t = c.self.inside in
    let h = c.self.invariant.shaped in
    let after = mounted s.state c.args.dir c.args.name c.args.space [] c.args.documents in
    let state = state-mounted t s c.self.view_is h (u c) c.args.dir c.args.name c.args.space c.args.documents (came c) in
    let shaped = shaped-mounted t s c.self.view_is h (u c) c.args.dir c.args.name c.args.space c.args.documents (came c) (spare c).0.1 c.requires.rise c.requires.may.layout tt in
    became (u c) after (returns c) shaped c.requires.may.counts_are
    (λ n.
    set-has t s c.self.view_is c.self.invariant n
    ∙ ap (λ (r : Ready). is_dirty_at s.state.entries n || is_awaited s.state.next r n) c.requires.ready
    ∙ or-false (is_dirty_at s.state.entries n)
    ∙ dirty-same t s c.self.view_is h (u c) after shaped state (clean-mounted t s c.self.view_is h (u c) c.args.dir c.args.name c.args.space c.args.documents (came c)) n)
