use Rattle.std.proofs.Common.{◌≡◌, ◌+◌, ◌*◌, ◌<◌, ◌≤◌, ◌++◌, ℕ, List, length, ap, sym, subst, ◌∙◌, arith}
use Rattle.std.specs.Prelude.{insert}
use Rattle.std.specs.List.{concat}
use Rattle.std.proofs.lemmas.List.{take_at}
use Rattle.tiered_list.specs.Listed.{Listed}
use Rattle.tiered_list.proofs.RunLemmas.{length-concat, length-items, run-inserts, tail-inserts}
use Rattle.tiered_list.proofs.list.TieredList.insert.Goals as goal

pub insert_into-last-requires-clause-place : goal.insert_into-last-requires-clause-place
insert_into-last-requires-clause-place c =
    let runs = c.self.inside.runs.items in
    let long : length (concat runs) ≡ length runs * 512 = length-concat runs c.self.invariant.0 in
    let count : c.len.result ≡ length runs = c.len.ensures ∙ c.self.inside.runs.ok.0 in
    let inside : c.args.place < length (concat runs) = omega arith in
    subst (λ (rs : List (List ℕ)). c.args.place < length (concat rs)) (sym c.deref_mut.ensures.value) inside

pub insert-requires-else-place-len-clause-place : goal.insert-requires-else-place-len-clause-place
insert-requires-else-place-len-clause-place c =
    let runs = c.self.inside.runs.items in
    let long : length (concat runs ++ c.self.inside.tail.items) ≡ length runs * 512 + length c.self.inside.tail.items = length-items runs c.self.inside.tail.items c.self.invariant.0 in
    let count : c.len-else-place-len.result ≡ length runs = c.len-else-place-len.ensures ∙ c.self.inside.runs.ok.0 in
    let low : c.args.place ≤ length (concat runs ++ c.self.inside.tail.items) = subst (λ (v : Listed). c.args.place ≤ length v.items) (sym c.self.view_is) c.requires.place in
    omega arith

pub returns-then-place-len-clause-items : goal.returns-then-place-len-clause-items
returns-then-place-len-clause-items c =
    let runs = c.self.inside.runs.items in
    let tail = c.self.inside.tail.items in
    let new = c.insert_into-last.new.runs in
    let last = c.insert_into-last.result in
    let place : ℕ = c.args.place in
    let long : length (concat runs) ≡ length runs * 512 = length-concat runs c.self.invariant.0 in
    let count : c.len.result ≡ length runs = c.len.ensures ∙ c.self.inside.runs.ok.0 in
    ap (λ (rs : List (List ℕ)). concat rs ++ c.insert.new.self.items) (take_at new _ c.self.inside.runs.len (c.insert_into-last.ensures.length ∙ c.deref_mut.ensures.len))
    ∙ ap (λ (ns : List ℕ). concat new ++ ns) c.insert.ensures.items
    ∙ run-inserts (concat runs) (concat new) tail place c.args.number last (omega arith)
    (c.insert_into-last.ensures.numbers ∙ ap (λ (rs : List (List ℕ)). insert (concat rs) place c.args.number) c.deref_mut.ensures.value)
    ∙ ap (λ (v : Listed). insert v.items place c.args.number) c.self.view_is

pub returns-else-place-len-clause-items : goal.returns-else-place-len-clause-items
returns-else-place-len-clause-items c =
    let runs = c.self.inside.runs.items in
    let tail = c.self.inside.tail.items in
    let place : ℕ = c.args.place in
    let count : c.len.result ≡ length runs = c.len.ensures ∙ c.self.inside.runs.ok.0 in
    let again : c.len-else-place-len.result ≡ length runs = c.len-else-place-len.ensures ∙ c.self.inside.runs.ok.0 in
    ap (λ (ns : List ℕ). concat runs ++ ns) c.insert-else-place-len.ensures.items
    ∙ tail-inserts runs tail c.len-else-place-len.result place c.args.number c.self.invariant.0 again (omega arith)
    ∙ ap (λ (v : Listed). insert v.items place c.args.number) c.self.view_is
