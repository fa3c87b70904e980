use Rattle.std.proofs.Common.{◌≡◌, ◌∙◌, [], fold, ap, sym}
use Rattle.std.proofs.lemmas.List.{map-id}
use Rattle.std.proofs.lemmas.List.Filters.{dedup_is}
use Rattle.std.specs.BTreeSet.{insert_key}
use Rattle.std.specs.Cmp.Lexicographic.{slice_cmp}
use Rattle.std.specs.Ordering.{nat_cmp}
use Rattle.hac_model.specs.Query.Words.{lower_case, rising_words, runs, words}
use Rattle.hac_words.proofs.RisingLemmas.{settled}
use Rattle.hac_words.proofs.RunLemmas.{runs-lower_case}
use Rattle.hac_words.proofs.listing.words_of.Goals as goal

pub returns : goal.returns
unfolding rising_words
returns c =
    let lowered : c.deref.result.now ≡ lower_case c.args.text.now = cc (c.in_ok-text.ensures.ok) in
    let found : c.in_ok-words.words.items ≡ words c.args.text.now = c.in_ok-words.ensures ∙ ap runs lowered ∙ runs-lower_case c.args.text.now in
    c.new.ensures
    ∙ c.in_ok-names.ensures
    ∙ c.deref-2.ensures.value
    ∙ dedup_is _ _ _ c.dedup.ensures.filtered
    ∙ sym (map-id _)
    ∙ settled (λ run. run) _ _ c.sort_unstable.ensures.permutation c.sort_unstable.ensures.sorted
    ∙ ap (fold (insert_key (slice_cmp nat_cmp)) []) (map-id _ ∙ found)
