use Rattle.std.proofs.Common.{◌≡◌, ◌+◌, ℕ, List, [], ◌∷◌, ap, subst, sym, ◌∙◌, take}
use Rattle.std.specs.Prelude.{◌++◌, Bool, filter, not}
use Rattle.std.proofs.lemmas.List.{take_more}
use Rattle.std.proofs.lemmas.List.Elements.{filter-append}
use Rattle.query_index.specs.Asking.{is_listed}
use Rattle.query_index.specs.Inner.{Meets}
use Rattle.query_index.proofs.IndexLemmas.{meets-both, meets-none}
use Rattle.query_index.proofs.index.QueryIndex.meet_beyond.Goals as goal

pub loop-word-init : goal.loop-word-init
loop-word-init c = meets-none c.args.self.now c.args.met.now

pub loop-word-preserved : goal.loop-word-preserved
loop-word-preserved c =
    let words = c.args.words.now in
    let word = c.word-item.result in
    let i = c.loop-word.word-index in
    let beyond : List ℕ → Bool = λ word. not (is_listed c.args.others.now word) in
    let more : filter beyond (take i words) ++ filter beyond (word ∷ []) ≡ filter beyond (take (i + 1) words) =
    sym (filter-append beyond (take i words) (word ∷ []))
    ∙ ap (filter beyond) (ap (λ (w : List ℕ). take i words ++ w ∷ []) c.word-item.is ∙ sym (take_more words i word c.loop-word-test.true)) in
    subst (λ (done : List (List ℕ)). Meets c.args.self.now done c.args.met.now c.meet_new.new.met) more
    (meets-both c.args.self.now (filter beyond (take i words)) (filter beyond (word ∷ [])) c.args.met.now c.loop-word.met c.meet_new.new.met c.loop-word.invariant c.in_ok-meet_new.ensures)
