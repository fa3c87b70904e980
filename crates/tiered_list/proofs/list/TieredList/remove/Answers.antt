use Rattle.std.proofs.Common.{◌≡◌, ◌+◌, ◌*◌, ◌<◌, ◌++◌, [], ◌∷◌, ℕ, List, inl, inr, get_or, length, ap, sym, subst, ◌∙◌, arith}
use Rattle.std.specs.Prelude.{remove}
use Rattle.std.specs.List.{concat}
use Rattle.std.proofs.lemmas.List.{take_at}
use Rattle.tiered_list.specs.Listed.{Listed}
use Rattle.tiered_list.proofs.RunLemmas.{length-concat, length-items, run-removes, tail-removes}
use Rattle.tiered_list.proofs.list.TieredList.remove.Goals as goal

pub remove_from-requires-clause-place : goal.remove_from-requires-clause-place
remove_from-requires-clause-place c =
    let runs = c.open_last.new.runs.items in
    let long : length (concat runs) ≡ length runs * 512 = length-concat runs c.open_last.ensures.full in
    let count : c.len.result ≡ length runs = c.len.ensures ∙ c.open_last.new.runs.ok.0 in
    let inside : c.args.place < length (concat runs) = omega arith in
    subst (λ (rs : List (List ℕ)). c.args.place < length (concat rs)) (sym c.deref_mut.ensures.value) inside

pub remove-requires-else-place-len : goal.remove-requires-else-place-len
remove-requires-else-place-len c =
    let runs = c.open_last.new.runs.items in
    let tail = c.open_last.new.tail.items in
    let long : length (concat runs ++ tail) ≡ length runs * 512 + length tail = length-items runs tail c.open_last.ensures.full in
    let count : c.len-else-place-len.result ≡ length runs = c.len-else-place-len.ensures ∙ c.open_last.new.runs.ok.0 in
    let low : c.args.place < length (concat runs ++ tail) = subst (λ (ns : List ℕ). c.args.place < length ns) (sym (c.open_last.ensures.items ∙ ap (λ (v : Listed). v.items) c.self.view_is)) c.requires in
    omega arith

pub returns-then-place-len-clause-items : goal.returns-then-place-len-clause-items
returns-then-place-len-clause-items c =
    let runs = c.open_last.new.runs.items in
    let tail = c.open_last.new.tail.items in
    let new = c.remove_from.new.runs in
    let first = c.index-as_slice-0.result in
    let place : ℕ = c.args.place in
    let long : length (concat runs) ≡ length runs * 512 = length-concat runs c.open_last.ensures.full in
    let count : c.len.result ≡ length runs = c.len.ensures ∙ c.open_last.new.runs.ok.0 in
    let more : 0 < length tail =
    elim c.open_last.ensures.there as (λ _. 0 < length tail) [
      | inl none ↦ (let empty : length runs ≡ 0 = ap length none in omega arith)
      | inr there ↦ there
    ] in
    let at : first ≡ get_or tail 0 first = c.index-as_slice-0.is ∙ ap (λ (ns : List ℕ). get_or ns 0 first) c.as_slice.ensures in
    ap (λ (rs : List (List ℕ)). concat rs ++ c.remove.new.self.items) (take_at new _ c.open_last.new.runs.len (c.remove_from.ensures.length ∙ c.deref_mut.ensures.len))
    ∙ ap (λ (ns : List ℕ). concat new ++ ns) c.remove.ensures.items
    ∙ run-removes (concat runs) (concat new) tail place first (omega arith) more at
    (c.remove_from.ensures.numbers ∙ ap (λ (rs : List (List ℕ)). remove (concat rs) place ++ first ∷ []) c.deref_mut.ensures.value)
    ∙ ap (λ (ns : List ℕ). remove ns place) (c.open_last.ensures.items ∙ ap (λ (v : Listed). v.items) c.self.view_is)

pub returns-else-place-len-clause-items : goal.returns-else-place-len-clause-items
returns-else-place-len-clause-items c =
    let runs = c.open_last.new.runs.items in
    let tail = c.open_last.new.tail.items in
    let place : ℕ = c.args.place in
    let count : c.len.result ≡ length runs = c.len.ensures ∙ c.open_last.new.runs.ok.0 in
    let again : c.len-else-place-len.result ≡ length runs = c.len-else-place-len.ensures ∙ c.open_last.new.runs.ok.0 in
    ap (λ (ns : List ℕ). concat runs ++ ns) c.remove-else-place-len.ensures.items
    ∙ tail-removes runs tail c.len-else-place-len.result place c.open_last.ensures.full again (omega arith)
    ∙ ap (λ (ns : List ℕ). remove ns place) (c.open_last.ensures.items ∙ ap (λ (v : Listed). v.items) c.self.view_is)
