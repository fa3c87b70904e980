use Rattle.std.proofs.Common.{◌≡◌, ◌+◌, ◌-◌, List, ℕ, length, ap, sym, ◌∙◌, arith}
use Rattle.std.specs.Prelude.{◌==◌, ◌&&◌, filter, nat_le}
use Rattle.std.specs.List.{list_all}
use Rattle.std.proofs.lemmas.Bool.{and_parts}
use Rattle.std.proofs.lemmas.List.{length-map}
use Rattle.hac_model.specs.Tree.Listing.{children}
use Rattle.hac_model.specs.Tree.Mounting.{do_names_rise, fresh}
use Rattle.hac_model.specs.Tree.Names.{is_name}
use Rattle.hac_model.specs.Tree.{is_linkable}
use Rattle.hac_model.specs.declared.counts.Counts.{Counts}
use Rattle.hac_model.specs.declared.limits.TheConstants.{DOCS_LIMIT}
use Rattle.hac_model.specs.declared.states.Entry.{Entry}
use Rattle.hac_model.proofs.CountLemmas.{measured, one_if}
use Rattle.tree_counts.proofs.LongLemmas.{counts-synced, were, were-items}
use Rattle.tree_counts.proofs.TallyLemmas.{order-length}
use Rattle.tree_counts.proofs.mounting.counts_synced.Goals as goal

pub synced-requires-clause-there : goal.synced-requires-clause-there
synced-requires-clause-there c =
    let s = c.args.tree.now.state in
    let h = c.small_counts.ensures.layout in
    let old : c.len-old.result ≡ were s h c.args.mount c.requires.mount c.args.documents.now =
    c.len-old.ensures ∙ ap length c.children.ensures.numbers ∙ length-map (children s c.args.mount) (λ (e : Entry). e.number) ∙ order-length (filter (λ (e : Entry). e.parent == c.args.mount) s.entries) in
    let items : c.small_counts.result.items ≡ measured (one_if is_linkable) s.entries = ap (λ (x : Counts). x.items) c.small_counts.ensures.counts in
    omega (arith, were-items s h c.args.mount c.requires.mount c.args.documents.now)

pub returns : goal.returns
returns c =
    let s = c.args.tree.now.state in
    let h = c.small_counts.ensures.layout in
    let names = c.args.documents.now in
    let parts = and_parts (list_all is_name names) (do_names_rise names && nat_le (length names) DOCS_LIMIT) c.requires.documents in
    let rise = (and_parts (do_names_rise names) (nat_le (length names) DOCS_LIMIT) parts.1).0 in
    let old : c.len-old.result ≡ were s h c.args.mount c.requires.mount names =
    c.len-old.ensures ∙ ap length c.children.ensures.numbers ∙ length-map (children s c.args.mount) (λ (e : Entry). e.number) ∙ order-length (filter (λ (e : Entry). e.parent == c.args.mount) s.entries) in
    let come : c.count_fresh-fresh.result ≡ length (fresh s c.args.mount names) = c.count_fresh-fresh.ensures.count ∙ ap (λ (xs : List (List ℕ)). length (fresh s c.args.mount xs)) c.as_slice-names.ensures in
    c.synced.ensures
    ∙ (λ i. record (c.small_counts.ensures.counts i) {
      items = (c.small_counts.ensures.counts i).items - old i + length (c.as_slice-names.ensures i);
      next = (c.small_counts.ensures.counts i).next + come i;
    })
    ∙ sym (counts-synced s h c.args.mount c.requires.mount names rise)
