-- Limits, told by bounded counts.
use Rattle.std.proofs.Common.{◌≡◌, ℕ, Bool, false, List, refl, ap, sym, ◌∙◌, arith}
use Rattle.std.specs.Prelude.{◌&&◌, nat_lt, is_none}
use Rattle.std.proofs.lemmas.Bool.Decides.{nat_tests}
use Rattle.hac_model.specs.Tree.Limits.{answer_limits, counts, first_passed, layout_limits, passed_limit, text_size}
use Rattle.hac_model.specs.declared.counts.Counts.{Counts}
use Rattle.hac_model.specs.declared.limits.Limit.{Limit}
use Rattle.hac_model.specs.declared.limits.TheConstants.{TEXTS_LIMIT}
use Rattle.hac_model.specs.declared.states.State.{State}
use Rattle.hac_model.specs.Tree.Valid.{IsLayout}
use Rattle.hac_model.proofs.LimitLemmas.{limits-within, none-append}
use Rattle.layout_check.specs.Bounded.{bounded}

-- none of the limits is exceeded
abbrev pub are_kept : List Limit → Bool
are_kept limits = is_none (first_passed limits)

-- the counts, but for bytes that no word counts
abbrev pub bounded_counts : State → Counts
bounded_counts s = record (counts s) { bytes = bounded (text_size s.entries) }

bounded-passes : (bytes : ℕ) → nat_lt TEXTS_LIMIT (bounded bytes) ≡ nat_lt TEXTS_LIMIT bytes
bounded-passes bytes = grind (arith, nat_tests)

bounded-first : (s : State) → first_passed (layout_limits s.version (bounded_counts s)) ≡ first_passed (layout_limits s.version (counts s))
unfolding first_passed
bounded-first s = rw (bounded-passes (text_size s.entries)) refl

-- bounded counts exceed a limit just where the state does
pub limits-told :
    (s : State) →
    (are_kept (layout_limits s.version (bounded_counts s)) && are_kept (answer_limits s.version (bounded_counts s)))
    ≡ is_none (passed_limit s)
unfolding passed_limit
limits-told s =
    ap (λ o. is_none o && is_none (first_passed (answer_limits s.version (counts s)))) (bounded-first s)
    ∙ sym (none-append (layout_limits s.version (counts s)) (answer_limits s.version (counts s)))

-- where no limit is exceeded, a word counts the bytes
pub bounded-same : (s : State) → IsLayout s → bounded_counts s ≡ counts s
bounded-same s h =
    let few : nat_lt TEXTS_LIMIT (text_size s.entries) ≡ false = (limits-within s h.limits).texts in
    let same : bounded (text_size s.entries) ≡ text_size s.entries = grind (arith, nat_tests, few) in
    λ i. record (counts s) { bytes = same i }
