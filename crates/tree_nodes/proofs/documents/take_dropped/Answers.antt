use Rattle.std.proofs.Common.{◌≡◌, ◌<◌, ℕ, List, [], Bool, false, None, Option, cond, take, get_or, length, ap, ◌∙◌, arith}
use Rattle.std.specs.Prelude.{◌&&◌, is_none, nat_eq}
use Rattle.std.proofs.Math.Bool.{and-false}
use Rattle.std.proofs.lemmas.List.{get_or_default}
use Rattle.hac_model.specs.Tree.Depends.{Among}
use Rattle.hac_model.specs.Tree.Links.{has}
use Rattle.hac_model.specs.declared.states.Entry.{Entry}
use Rattle.tree_nodes.specs.Documents.{is_dropped}
use Rattle.tree_nodes.specs.Nodes.{entry_of, has_node, kids_of, name_of}
use Rattle.tree_nodes.specs.Search.{first_named}
use Rattle.tree_nodes.proofs.FoundLemmas.{drop-more, drop-none, found-own, found-same, once}
use Rattle.tree_nodes.proofs.ListLemmas.{rises-same}
use Rattle.tree_nodes.proofs.documents.take_dropped.Goals as goal

-- what is kept isn't dropped
kept-stays : (names : ℕ → List ℕ) (ns kept : List ℕ) (n : ℕ) → Among kept n → is_dropped names ns kept n ≡ false
kept-stays names ns kept n among = ap (λ (b : Bool). has ns n && b) (found-own names kept n among) ∙ and-false (has ns n)

pub take_if_dropped-requires : goal.take_if_dropped-requires
take_if_dropped-requires c =
    rises-same (name_of c.args.nodes.now) (name_of c.loop-place.nodes) c.args.kept.now
    (λ n among. c.loop-place.invariant.names n (kept-stays (name_of c.args.nodes.now) (take c.loop-place.place c.args.numbers.now) c.args.kept.now n among)) c.requires.kept_rise

pub loop-place-preserved : goal.loop-place-preserved
loop-place-preserved c =
    let names = name_of c.args.nodes.now in
    let ns = c.args.numbers.now in
    let kept = c.args.kept.now in
    let i : ℕ = c.loop-place.place in
    let d : ℕ = c.at.result in
    let inside : i < length ns = omega (arith, c.len-place-end.ensures) in
    let here : d ≡ get_or ns i d = c.at.ensures ∙ get_or_default ns i 0 d inside in
    let alone : is_dropped names (take i ns) kept d ≡ false =
    ap (λ (b : Bool). b && is_none (first_named names kept (names d))) (ap (λ (n : ℕ). has (take i ns) n) here ∙ once names ns i d c.requires.rise inside) in
    let test : is_none (first_named (name_of c.loop-place.nodes) kept (name_of c.loop-place.nodes d)) ≡ is_none (first_named names kept (names (get_or ns i d))) =
    ap (λ (x : List ℕ). is_none (first_named (name_of c.loop-place.nodes) kept x)) (c.loop-place.invariant.names d alone)
    ∙ ap (λ (o : Option ℕ). is_none o) (found-same names (name_of c.loop-place.nodes) kept (names d) (λ n among. c.loop-place.invariant.names n (kept-stays names (take i ns) kept n among)))
    ∙ ap (λ (n : ℕ). is_none (first_named names kept (names n))) here in
    let b : Bool = is_none (first_named (name_of c.loop-place.nodes) kept (name_of c.loop-place.nodes d)) in
    record {
      numbers = λ q. c.take_if_dropped.ensures.numbers q
          ∙ ap (λ (n : ℕ). cond (nat_eq n q && b) false (has_node c.loop-place.nodes q)) here
          ∙ drop-more names ns kept i d inside q false (has_node c.args.nodes.now q) (has_node c.loop-place.nodes q) b test (c.loop-place.invariant.numbers q);
      entries = λ q. c.take_if_dropped.ensures.entries q
          ∙ ap (λ (n : ℕ). cond {A = Option Entry} (nat_eq n q && b) None (entry_of c.loop-place.nodes q)) here
          ∙ drop-more names ns kept i d inside q None (entry_of c.args.nodes.now q) (entry_of c.loop-place.nodes q) b test (c.loop-place.invariant.entries q);
      names = λ q none.
          let before = drop-none names ns kept i d inside q b test none in
          c.take_if_dropped.ensures.names q (ap (λ (n : ℕ). nat_eq n q && b) here ∙ before.0) ∙ c.loop-place.invariant.names q before.1;
      kids = λ q. c.take_if_dropped.ensures.kids q
          ∙ ap (λ (n : ℕ). cond {A = List ℕ} (nat_eq n q && b) [] (kids_of c.loop-place.nodes q)) here
          ∙ drop-more names ns kept i d inside q [] (kids_of c.args.nodes.now q) (kids_of c.loop-place.nodes q) b test (c.loop-place.invariant.kids q);
    }
