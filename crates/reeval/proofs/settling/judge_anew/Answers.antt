use Rattle.std.proofs.Common.{◌≡◌, ℕ, false, List, [], ◌∷◌, refl, ap, subst, sym, ◌∙◌}
use Rattle.std.specs.Prelude.{◌==◌, if◌then◌else◌}
use Rattle.std.specs.List.{list_all}
use Rattle.reeval.specs.Judging.{is_linked, judgement, verdict_of}
use Rattle.reeval.specs.Settled.{AreFresh}
use Rattle.reeval.specs.Told.{are_same, is_on, told}
use Rattle.reeval.specs.declared.verdicts.Change.{Change}
use Rattle.reeval.specs.declared.verdicts.Verdict.{Verdict}
use Rattle.reeval.proofs.FreshLemmas.{fresh-joined}
use Rattle.reeval.proofs.ToldLemmas.{own-pushed, same-verdict, told-pushed, told-same}
use Rattle.reeval.proofs.settling.judge_anew.Goals as goal

pub returns-in_ok-push-clause-news : goal.returns-in_ok-push-clause-news
returns-in_ok-push-clause-news g c = λ known d.
    let s = g.B.Before.state c.args.before.now in
    let t = g.Y.Layout.state c.args.layout.now in
    let known-there : c.args.asks ≡ false → (told c.as_slice.result.now (verdict_of s c.args.item) c.args.dir).found ≡ (judgement t (is_linked (told c.as_slice.result.now (verdict_of s c.args.item))) c.args.item c.args.dir).found =
    subst (λ (items : List Change). c.args.asks ≡ false → (told items (verdict_of s c.args.item) c.args.dir).found ≡ (judgement t (is_linked (told items (verdict_of s c.args.item))) c.args.item c.args.dir).found) (sym c.as_slice.ensures.value) known in
    let news = c.args.news.now.items in
    let old : ℕ → Verdict = told news (verdict_of s c.args.item) in
    ap (λ (items : List Change). told items (verdict_of s c.args.item) d) c.in_ok-push.ensures.items
    ∙ told-pushed news c.args.dir c.args.item c.judge-verdict.result (verdict_of s c.args.item) d
    ∙ ap (λ (v : Verdict). if d == c.args.dir then v else old d) (c.judge-verdict.ensures.verdict known-there ∙ ap (λ (items : List Change). judgement (g.Y.Layout.state c.args.layout.now) (is_linked (told items (verdict_of s c.args.item))) c.args.item c.args.dir) c.as_slice.ensures.value)

pub returns-in_ok-push-clause-own : goal.returns-in_ok-push-clause-own
returns-in_ok-push-clause-own g c = λ own.
    ap (list_all (is_on c.args.item)) c.in_ok-push.ensures.items ∙ own-pushed c.args.news.now.items (record { dir = c.args.dir; item = c.args.item; verdict = c.judge-verdict.result }) c.args.item own refl

pub returns-in_ok-push-clause-fresh : goal.returns-in_ok-push-clause-fresh
returns-in_ok-push-clause-fresh g c = λ unsaid fresh.
    let s = g.B.Before.state c.args.before.now in
    let had : c.verdict.result ≡ verdict_of s c.args.item c.args.dir =
    c.verdict.ensures ∙ ap (λ (items : List Change). told items (verdict_of s c.args.item) c.args.dir) c.as_slice.ensures.value ∙ unsaid in
    let new : are_same c.judge-verdict.result (verdict_of s c.args.item c.args.dir) ≡ false =
    ap (are_same c.judge-verdict.result) (sym had) ∙ sym c.is_same.ensures ∙ c.if-not-is_same.true in
    subst (AreFresh s) (sym c.in_ok-push.ensures.items)
    (fresh-joined s c.args.news.now.items (record { dir = c.args.dir; item = c.args.item; verdict = c.judge-verdict.result } ∷ []) fresh (new, tt))

pub returns-else-not-is_same-clause-news : goal.returns-else-not-is_same-clause-news
returns-else-not-is_same-clause-news g c = λ known d.
    let s = g.B.Before.state c.args.before.now in
    let t = g.Y.Layout.state c.args.layout.now in
    let known-there : c.args.asks ≡ false → (told c.as_slice.result.now (verdict_of s c.args.item) c.args.dir).found ≡ (judgement t (is_linked (told c.as_slice.result.now (verdict_of s c.args.item))) c.args.item c.args.dir).found =
    subst (λ (items : List Change). c.args.asks ≡ false → (told items (verdict_of s c.args.item) c.args.dir).found ≡ (judgement t (is_linked (told items (verdict_of s c.args.item))) c.args.item c.args.dir).found) (sym c.as_slice.ensures.value) known in
    let news = c.args.news.now.items in
    let old : ℕ → Verdict = told news (verdict_of s c.args.item) in
    let said : c.judge-verdict.result ≡ judgement (g.Y.Layout.state c.args.layout.now) (is_linked old) c.args.item c.args.dir = c.judge-verdict.ensures.verdict known-there ∙ ap (λ (items : List Change). judgement (g.Y.Layout.state c.args.layout.now) (is_linked (told items (verdict_of s c.args.item))) c.args.item c.args.dir) c.as_slice.ensures.value in
    let had : c.verdict.result ≡ old c.args.dir = c.verdict.ensures ∙ ap (λ (items : List Change). told items (verdict_of s c.args.item) c.args.dir) c.as_slice.ensures.value in
    let same : c.judge-verdict.result ≡ c.verdict.result = same-verdict c.judge-verdict.result c.verdict.result (sym c.is_same.ensures ∙ c.if-not-is_same.false) in
    told-same old c.args.dir (judgement (g.Y.Layout.state c.args.layout.now) (is_linked old) c.args.item c.args.dir) (sym said ∙ same ∙ had) d
