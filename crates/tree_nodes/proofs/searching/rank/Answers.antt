use Rattle.std.proofs.Common.{◌≡◌, ◌+◌, ◌-◌, ◌/◌, ◌<◌, ◌≤◌, ℕ, List, true, false, get_or, length, ap, sym, ◌∙◌, arith}
use Rattle.hac_model.specs.Tree.Listing.{is_before}
use Rattle.tree_nodes.specs.Nodes.{name_of}
use Rattle.tree_nodes.specs.Search.{rank_in}
use Rattle.tree_nodes.proofs.SearchLemmas.{rank-above, rank-below, rank-length}
use Rattle.tree_nodes.proofs.searching.rank.Goals as goal

pub halves-init : goal.halves-init
halves-init c =
    let ns = c.args.numbers.now in
    let few : rank_in (name_of c.args.nodes.now) c.args.name.now ns ≤ length ns = rank-length (name_of c.args.nodes.now) c.args.name.now ns in
    let all : c.len-high.result ≡ length ns = c.len-high.ensures in
    record {
      low = omega arith;
      high = omega arith;
      rank = λ rises. (omega arith, omega arith);
    }

pub halves-preserved-then-is_before : goal.halves-preserved-then-is_before
halves-preserved-then-is_before c =
    let names = name_of c.args.nodes.now in
    let name = c.args.name.now in
    let ns = c.args.numbers.now in
    let middle : ℕ = c.halves.low + (c.halves.high - c.halves.low) / 2 in
    let inside : middle < length ns = omega arith in
    let before : is_before (names (get_or ns middle 0)) name ≡ true =
    ap (λ (n : ℕ). is_before (names n) name) (sym c.at.ensures) ∙ ap (λ (x : List ℕ). is_before x name) (sym c.name_at.ensures) ∙ sym c.is_before.ensures ∙ c.if-is_before.true in
    record {
      low = omega arith;
      high = omega arith;
      rank = λ rises.
          let above : middle < rank_in names name ns = rank-above names name ns middle rises inside before in
          (omega arith, (c.halves.invariant.rank rises).1);
    }

pub halves-preserved : goal.halves-preserved
halves-preserved c =
    let names = name_of c.args.nodes.now in
    let name = c.args.name.now in
    let ns = c.args.numbers.now in
    let middle : ℕ = c.halves.low + (c.halves.high - c.halves.low) / 2 in
    let inside : middle < length ns = omega arith in
    let behind : is_before (names (get_or ns middle 0)) name ≡ false =
    ap (λ (n : ℕ). is_before (names n) name) (sym c.at.ensures) ∙ ap (λ (x : List ℕ). is_before x name) (sym c.name_at.ensures) ∙ sym c.is_before.ensures ∙ c.if-is_before.false in
    record {
      low = omega arith;
      high = omega arith;
      rank = λ rises. ((c.halves.invariant.rank rises).0, rank-below names name ns middle inside behind);
    }
