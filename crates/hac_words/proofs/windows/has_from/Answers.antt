use Rattle.std.proofs.Common.{◌≡◌, ◌-◌, ◌∙◌, ap, drop, length, min, take, arith}
use Rattle.std.proofs.lemmas.List.{take_min, take_rest}
use Rattle.hac_model.specs.Query.Words.{lower_case}
use Rattle.hac_words.specs.declared.windows.TheConstants.{WINDOW}
use Rattle.hac_words.specs.Standing.{window_at}
use Rattle.hac_words.proofs.windows.has_from.Goals as goal

pub is_in_window-requires-clause-window : goal.is_in_window-requires-clause-window
unfolding window_at
is_in_window-requires-clause-window c =
    let text = c.args.text.now in
    let rest = take (length text - c.args.from) (drop c.args.from text) in
    let part : c.min.result ≡ min WINDOW (length rest) = c.min.ensures ∙ omega arith in
    c.make_ascii_lowercase.ensures.after
    ∙ ap lower_case (c.copy_from_slice.ensures.after ∙ ap (λ n. take n rest) part ∙ take_min WINDOW rest ∙ ap (take WINDOW) (take_rest text c.args.from))
