use Rattle.std.proofs.Common.{◌&&◌, ◌||◌, ℕ, Bool, List, Option, Some, cond, ap, ◌∙◌}
use Rattle.std.specs.Prelude.{insert, nat_eq}
use Rattle.std.specs.BTreeSet.{contains}
use Rattle.std.specs.Ordering.{nat_cmp}
use Rattle.hac_model.specs.Tree.{is_dirty}
use Rattle.hac_model.specs.declared.states.Body.{Body}
use Rattle.hac_model.specs.declared.states.Entry.{Entry}
use Rattle.file_tree.specs.Loading.{bare_entry}
use Rattle.tree_nodes.specs.Nodes.{entry_of, kids_of, name_of}
use Rattle.tree_nodes.specs.Search.{rank_in}
use Rattle.file_tree.proofs.LoadLemmas.{placed-lists}
use Rattle.hac_model.proofs.AlikeLemmas.{bare-dirty}
use Rattle.file_tree.proofs.loading.Loading.place.Goals as goal

-- each part is changed by its own call
pub returns : goal.returns
returns c =
    let e : Entry = c.args.entry in
    let old = c.args.self.now in
    let body = c.in_ok-content.ensures in
    record {
      next_is = c.reserve.ensures.next;
      numbers = λ q. c.put.ensures.numbers q ∙ c.insert_named.ensures.numbers q ∙ c.reserve.ensures.same.numbers q;
      entries = λ q. c.put.ensures.entries q
          ∙ ap (λ (b : Body). cond {A = Option Entry} (nat_eq e.number q) (Some (record { number = e.number; parent = e.parent; name = e.name; body = b })) (entry_of c.insert_named.new.nodes q)) body
          ∙ ap (λ (o : Option Entry). cond (nat_eq e.number q) (Some (bare_entry e)) o) (c.insert_named.ensures.entries q ∙ c.reserve.ensures.same.entries q);
      names = λ q. c.put.ensures.names q ∙ ap (λ (x : List ℕ). cond (nat_eq e.number q) e.name x) (c.insert_named.ensures.names q ∙ c.reserve.ensures.same.names q);
      kids = λ rise q. c.put.ensures.kids q
          ∙ placed-lists (name_of old.nodes) (name_of c.reserve.new.self.nodes) (kids_of old.nodes) (kids_of c.reserve.new.self.nodes) (kids_of c.insert_named.new.nodes) e.parent c.as_bytes.result.now e.number c.reserve.ensures.same.names c.reserve.ensures.same.kids c.insert_named.ensures.kids rise q
          ∙ ap (λ (x : List ℕ). cond (nat_eq e.parent q) (insert (kids_of old.nodes e.parent) (rank_in (name_of old.nodes) x (kids_of old.nodes e.parent)) e.number) (kids_of old.nodes q)) c.as_bytes.ensures;
      dirty = λ q. c.in_ok-reserve.ensures.dirty q
          ∙ ap (λ (b : Body). contains nat_cmp old.to_index q || (is_dirty b && nat_eq e.number q)) body
          ∙ ap (λ (b : Bool). contains nat_cmp old.to_index q || (b && nat_eq e.number q)) (bare-dirty e.body);
    }
