use Rattle.std.proofs.Common.{◌≡◌, ◌+◌, true, false, ◌∷◌, refl, ap, sym, ◌∙◌}
use Rattle.std.specs.Prelude.{drop, not}
use Rattle.std.specs.BTreeSet.{Updates}
use Rattle.std.proofs.lemmas.Bool.{not-false, not-true}
use Rattle.std.proofs.lemmas.List.{drop_more}
use Rattle.hac_model.specs.declared.states.Entry.{Entry}
use Rattle.layout_check.proofs.NamingLemmas.{are_free, free-begins, free-more, free-taken, is_taken, place_cmp}
use Rattle.layout_check.proofs.NamingLemmas.{taken-is, taken-more}
use Rattle.layout_check.proofs.naming.do_names_differ.Goals as goal

pub loop-entry-init : goal.loop-entry-init
loop-entry-init c =
    free-begins (is_taken c.new-places.result) c.args.entries.now (λ x. rw c.new-places.ensures.empty refl)

pub returns-then-not-branch : goal.returns-then-not-branch
returns-then-not-branch c =
    let entries = c.args.entries.now in
    let places = c.loop-entry.places in
    let entry : Entry = c.entry-item.result in
    let rest = drop (c.loop-entry.entry-index + 1) entries in
    let next : drop c.loop-entry.entry-index entries ≡ entry ∷ rest =
    drop_more entries c.loop-entry.entry-index entry c.loop-entry-test.true
    ∙ ap (λ (e : Entry). e ∷ rest) (sym c.entry-item.is)
    in
    let free : not (is_taken places entry) ≡ false =
    ap not (sym (taken-is places entry c.get.result c.as_bytes.result c.get.ensures c.as_bytes.ensures))
    ∙ sym c.in_ok-insert.ensures.added ∙ c.if-not-branch.true
    in
    sym (free-taken (is_taken places) entry rest (not-false (is_taken places entry) free))
    ∙ ap (are_free (is_taken places)) (sym next) ∙ c.loop-entry.invariant

pub loop-entry-preserved : goal.loop-entry-preserved
loop-entry-preserved c =
    let entries = c.args.entries.now in
    let places = c.loop-entry.places in
    let more = c.insert.new.self in
    let entry : Entry = c.entry-item.result in
    let rest = drop (c.loop-entry.entry-index + 1) entries in
    let next : drop c.loop-entry.entry-index entries ≡ entry ∷ rest =
    drop_more entries c.loop-entry.entry-index entry c.loop-entry-test.true
    ∙ ap (λ (e : Entry). e ∷ rest) (sym c.entry-item.is)
    in
    let updates : Updates place_cmp places more (c.get.result, c.as_bytes.result) true =
    c.in_ok-insert.ensures.updates in
    let free : not (is_taken places entry) ≡ true =
    ap not (sym (taken-is places entry c.get.result c.as_bytes.result c.get.ensures c.as_bytes.ensures))
    ∙ sym c.in_ok-insert.ensures.added ∙ c.if-not-branch.false
    in
    sym (free-more (is_taken places) (is_taken more) entry rest (not-true (is_taken places entry) free)
    (taken-more places more entry c.get.result c.as_bytes.result c.get.ensures c.as_bytes.ensures updates))
    ∙ ap (are_free (is_taken places)) (sym next) ∙ c.loop-entry.invariant
