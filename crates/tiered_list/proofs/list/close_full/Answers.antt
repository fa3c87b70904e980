use Rattle.std.proofs.Common.{◌≡◌, ◌++◌, ◌∷◌, [], ℕ, List, length, ap, sym, ◌∙◌}
use Rattle.std.specs.List.{concat}
use Rattle.std.proofs.lemmas.List.{append-nil}
use Rattle.std.proofs.lemmas.List.Elements.{All-push, All-same}
use Rattle.tiered_list.specs.Listed.{Listed}
use Rattle.tiered_list.proofs.RunLemmas.{concat-one}
use Rattle.tiered_list.proofs.list.close_full.Goals as goal

pub returns-in-Ok-clause-items : goal.returns-in-Ok-clause-items
returns-in-Ok-clause-items c =
    let runs = c.args.runs.now.items in
    let run = c.new-2.result in
    let is : run ≡ c.args.tail.now.items = c.new-2.ensures ∙ c.into_vec-run.ensures ∙ ap (λ (v : Listed). v.items) c.replace.ensures.value in
    let none : c.replace.new.dest.items ≡ [] = ap (λ (v : Listed). v.items) (c.replace.ensures.after ∙ c.new.ensures) in
    (λ i. concat (c.in-Ok.ensures.items i) ++ none i)
    ∙ append-nil (concat (runs ++ run ∷ [])) ∙ concat-one runs run ∙ ap (λ (ns : List ℕ). concat runs ++ ns) is

pub returns-in-Ok-clause-full : goal.returns-in-Ok-clause-full
returns-in-Ok-clause-full c =
    let runs = c.args.runs.now.items in
    let run = c.new-2.result in
    let is : run ≡ c.args.tail.now.items = c.new-2.ensures ∙ c.into_vec-run.ensures ∙ ap (λ (v : Listed). v.items) c.replace.ensures.value in
    let long : length run ≡ 512 = ap length is ∙ sym c.len.ensures ∙ c.if-len-ne-RUN.false in
    All-same (λ (r : List ℕ). length r ≡ 512) c.push.new.self.items (runs ++ run ∷ []) c.in-Ok.ensures.items (All-push (λ (r : List ℕ). length r ≡ 512) runs run c.requires.full long)
