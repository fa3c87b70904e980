use Rattle.std.proofs.Common.{[], List, ap, refl, subst, sym, ◌∙◌, ℕ}
use Rattle.hac_model.specs.Tree.Valid.{RiseFrom}
use Rattle.tree_answers.specs.Numbering.{document_with, numbered_by, put_found}
use Rattle.tree_answers.proofs.NumberingLemmas.{found-rises, numbered-done, numbered-named, numbered-next}
use Rattle.tree_answers.proofs.numbering.documents_named.Goals as goal

pub names-preserved : goal.names-preserved
names-preserved c =
    let find = document_with c.args.tree.now.state.entries c.args.mount in
    let names = c.args.names.now in
    record {
      rise = subst (λ (ns : List ℕ). RiseFrom 0 ns) (sym c.in_ok-put_found.ensures) (found-rises c.document_with.result c.names.numbers.items c.names.invariant.rise);
      so_far = numbered-next find names c.names.name-index c.name-item.result c.names.numbers.items c.put_found.new.numbers.items (numbered_by find [] names) c.names-test.true c.name-item.is c.names.invariant.so_far
          (c.in_ok-put_found.ensures ∙ ap (λ found. put_found found c.names.numbers.items) c.document_with.ensures);
    }

pub returns : goal.returns
returns c =
    let s = c.args.tree.now.state in
    let find = document_with s.entries c.args.mount in
    let names = c.args.names.now in
    c.new.ensures
    ∙ numbered-done find names c.names.name-index c.names.numbers.items (numbered_by find [] names) c.names-test.false c.names.invariant.so_far
    ∙ numbered-named 0 s.entries s.next c.args.mount find c.know_layout.ensures.layout.numbers c.know_layout.ensures.layout.differ (λ x. refl) names
