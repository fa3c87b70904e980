use Rattle.std.proofs.Common.{[], List, ap, subst, sym, ◌∙◌, ℕ}
use Rattle.hac_model.specs.Tree.Valid.{RiseFrom}
use Rattle.tree_answers.specs.Numbering.{listed_with, numbered_by, put_found}
use Rattle.tree_answers.proofs.NumberingLemmas.{found-rises, numbered-next}
use Rattle.tree_answers.proofs.numbering.numbered.Goals as goal

pub names-preserved : goal.names-preserved
names-preserved c =
    let find = listed_with c.args.list.now c.args.numbers.now in
    let names = c.args.names.now in
    record {
      rise = subst (λ (ns : List ℕ). RiseFrom 0 ns) (sym c.in_ok-put_found.ensures) (found-rises c.listed_with.result c.names.found.items c.names.invariant.rise);
      so_far = numbered-next find names c.names.name-index c.name-item.result c.names.found.items c.put_found.new.numbers.items (numbered_by find [] names) c.names-test.true c.name-item.is c.names.invariant.so_far
          (c.in_ok-put_found.ensures ∙ ap (λ found. put_found found c.names.found.items) c.listed_with.ensures);
    }
