use Rattle.std.proofs.Common.{◌≡◌, ◌<◌, ◌≤◌, length, ℕ, List, Bool, Some, None, cond, get_or, sym, ap, ◌∙◌, arith}
use Rattle.std.proofs.lemmas.List.{get_or_default}
use Rattle.std.specs.Str.{bytes_eq}
use Rattle.tree_nodes.specs.Nodes.{name_of}
use Rattle.tree_nodes.proofs.SearchLemmas.{named-at, named-end}
use Rattle.tree_nodes.proofs.searching.named.Goals as goal

pub returns-then-place-len : goal.returns-then-place-len
returns-then-place-len c = λ rises.
    let outside : length c.args.numbers.now ≤ c.rank-place.result = omega (arith, c.len.ensures) in
    sym (named-end (name_of c.args.nodes.now) c.args.name.now c.args.numbers.now rises c.rank-place.result (c.rank-place.ensures.rank rises) outside)

pub returns-then-eq : goal.returns-then-eq
returns-then-eq c = λ rises.
    let ns = c.args.numbers.now in
    let number = c.at-number.result in
    let inside : c.rank-place.result < length ns = omega (arith, c.len.ensures, c.rank-place.ensures.within) in
    let is : number ≡ get_or ns c.rank-place.result number = c.at-number.ensures ∙ get_or_default ns c.rank-place.result 0 number inside in
    sym (named-at (name_of c.args.nodes.now) c.args.name.now ns rises c.rank-place.result (c.rank-place.ensures.rank rises) number inside is
    ∙ ap (λ (b : Bool). cond b (Some number) None) (ap (λ (bytes : List ℕ). bytes_eq bytes c.args.name.now) (sym c.name_at.ensures) ∙ sym c.eq.ensures ∙ c.if-eq.true))

pub returns-else-eq : goal.returns-else-eq
returns-else-eq c = λ rises.
    let ns = c.args.numbers.now in
    let number = c.at-number.result in
    let inside : c.rank-place.result < length ns = omega (arith, c.len.ensures, c.rank-place.ensures.within) in
    let is : number ≡ get_or ns c.rank-place.result number = c.at-number.ensures ∙ get_or_default ns c.rank-place.result 0 number inside in
    sym (named-at (name_of c.args.nodes.now) c.args.name.now ns rises c.rank-place.result (c.rank-place.ensures.rank rises) number inside is
    ∙ ap (λ (b : Bool). cond b (Some number) None) (ap (λ (bytes : List ℕ). bytes_eq bytes c.args.name.now) (sym c.name_at.ensures) ∙ sym c.eq.ensures ∙ c.if-eq.false))
