use Rattle.std.proofs.Common.{◌≡◌, ap, ◌∙◌, inl, inr}
use Rattle.std.specs.Prelude.{◌++◌}
use Rattle.std.specs.List.{list_any}
use Rattle.std.proofs.lemmas.List.Folds.{list_any-append}
use Rattle.std.proofs.lemmas.Result.{on_ok_weaker}
use Rattle.hac_model.specs.Query.Formula.{And, Or}
use Rattle.hac_model.specs.Query.Queries.{terms_of}
use Rattle.hac_model.specs.Query.Terms.{is_same_term}
use Rattle.hac_model.specs.declared.terms.Term.TheVariants.{Prefix, Word}
use Rattle.query_index.specs.Inner.{has_beginning, has_word}
use Rattle.query_index.proofs.PostingLemmas.{adds-two}
use Rattle.query_index.proofs.queries.+add_terms.Goals as goal

pub returns-in_ok-add_terms-in-And-clause-words : goal.returns-in_ok-add_terms-in-And-clause-words
returns-in_ok-add_terms-in-And-clause-words t c =
    let left = c.deref-in-And.result.now in
    let right = c.deref-in-And-2.result.now in
    let terms : terms_of c.args.query.now ≡ terms_of left ++ terms_of right = elim c.in-And.is [
      | inl is ↦ ap terms_of (let whole : c.args.query.now ≡ And left right = cc (c.query.view_is, is, c.deref-in-And.ensures, c.deref-in-And-2.ensures) in whole)
      | inr is ↦ ap terms_of (let whole : c.args.query.now ≡ Or left right = cc (c.query.view_is, is, c.deref-in-And.ensures, c.deref-in-And-2.ensures) in whole)
    ] in
    on_ok_weaker c.add_terms-in-And-2.result
    (λ second.
    adds-two c.args.words.now c.add_terms-in-And.new.words c.add_terms-in-And-2.new.words (λ letters. has_word letters left) (λ letters. has_word letters right) (λ letters. has_word letters c.args.query.now) c.args.place
    c.in_ok-add_terms-in-And.ensures.words second
    (λ letters. ap (list_any (is_same_term (Word letters))) terms ∙ list_any-append (is_same_term (Word letters)) (terms_of left) (terms_of right)))
    c.add_terms-in-And-2.ensures.words

pub returns-in_ok-add_terms-in-And-clause-beginnings : goal.returns-in_ok-add_terms-in-And-clause-beginnings
returns-in_ok-add_terms-in-And-clause-beginnings t c =
    let left = c.deref-in-And.result.now in
    let right = c.deref-in-And-2.result.now in
    let terms : terms_of c.args.query.now ≡ terms_of left ++ terms_of right = elim c.in-And.is [
      | inl is ↦ ap terms_of (let whole : c.args.query.now ≡ And left right = cc (c.query.view_is, is, c.deref-in-And.ensures, c.deref-in-And-2.ensures) in whole)
      | inr is ↦ ap terms_of (let whole : c.args.query.now ≡ Or left right = cc (c.query.view_is, is, c.deref-in-And.ensures, c.deref-in-And-2.ensures) in whole)
    ] in
    on_ok_weaker c.add_terms-in-And-2.result
    (λ second.
    adds-two c.args.beginnings.now c.add_terms-in-And.new.beginnings c.add_terms-in-And-2.new.beginnings (λ letters. has_beginning letters left) (λ letters. has_beginning letters right) (λ letters. has_beginning letters c.args.query.now) c.args.place
    c.in_ok-add_terms-in-And.ensures.beginnings second
    (λ letters. ap (list_any (is_same_term (Prefix letters))) terms ∙ list_any-append (is_same_term (Prefix letters)) (terms_of left) (terms_of right)))
    c.add_terms-in-And-2.ensures.beginnings
