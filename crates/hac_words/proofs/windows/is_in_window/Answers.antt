use Rattle.std.proofs.Common.{◌+◌, ◌≤◌, ◌∙◌, ap, length, rules, sym, subst, arith}
use Rattle.std.proofs.lemmas.Iterator.Adapters.{serves_from_places}
use Rattle.std.proofs.lemmas.Iterator.Consumers.{YieldsList-from_first}
use Rattle.std.proofs.lemmas.Iterator.Search.{any_from_yields_List}
use Rattle.std.specs.List.{list_any}
use Rattle.memchr.specs.Find.{OccursAt, matches}
use Rattle.memchr.proofs.lemmas.CallerLemmas.{All-matches}
use Rattle.hac_words.specs.declared.windows.TheConstants.{WINDOW}
use Rattle.hac_words.specs.Standing.{stands_at}
use Rattle.hac_words.proofs.WindowLemmas.{length-window_at, window-tells}
use Rattle.hac_words.proofs.windows.is_in_window.Goals as goal

pub any-requires-clause-callable : goal.any-requires-clause-callable
any-requires-clause-callable c =
    let window = c.args.window.now in
    let letters = c.args.finder.now in
    serves_from_places (YieldsList-from_first (λ x. x) (λ rest. rest) _ c.find_iter.ensures.value)
    (λ x q h. search rules)
    (λ x k low is.
    let occurs : OccursAt window letters x = subst (OccursAt window letters) (sym is) (All-matches window letters 0 k x low) in
    let within : c.args.from + x ≤ length c.args.text.now = omega (arith, occurs.fits, ap length c.requires.window, length-window_at WINDOW c.args.text.now c.args.from) in
    search (rules, arith))

pub returns : goal.returns
returns c =
    let text = c.args.text.now in
    let term = c.args.term.now in
    let from = c.args.from in
    window-tells term c.requires.word WINDOW text from c.any.result
    (any_from_yields_List (λ found. stands_at text (from + found) term) _ _ _ c.any.ensures.ran
    (YieldsList-from_first (λ x. x) (λ rest. rest) _ c.find_iter.ensures.value)
    (λ x b q k. search rules)
    ∙ (λ i. list_any (λ found. stands_at text (from + found) term) (matches (c.requires.window i) (c.requires.finder i) 0)))
