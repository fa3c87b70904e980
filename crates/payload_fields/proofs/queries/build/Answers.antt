use Rattle.std.proofs.Common.{◌≡◌, [], ◌∷◌, ◌++◌, sym, ◌∙◌}
use Rattle.std.proofs.lemmas.List.{append-nil}
use Rattle.hac_model.specs.Payload.QueryFields.{built}
use Rattle.payload_fields.specs.Tokens.{token_of, tokens_of}
use Rattle.payload_fields.proofs.PartLemmas.{built-last, built-none}
use Rattle.payload_fields.proofs.queries.build.Goals as goal

pub parts-preserved : goal.parts-preserved
parts-preserved c =
    let left = c.pop.new.self.items in
    let pile = c.parts.pile in
    let tokens : c.parts.tokens.items ≡ left ++ c.in-Some.token ∷ [] = c.in-Some.ensures.items in
    let so_far : built (tokens_of (left ++ c.in-Some.token ∷ [])) pile ≡ built (tokens_of c.args.tokens.items) [] = rw tokens at c.parts.invariant in
    rw c.in_ok-put.ensures (sym (built-last token_of left c.in-Some.token pile) ∙ so_far)

pub returns : goal.returns
returns c =
    let none : c.pop.new.self.items ≡ [] = rw c.in_default.ensures.cases.0 at c.in_default.ensures.rest in
    let empty : c.parts.tokens.items ≡ [] = c.in_default.ensures.items ∙ append-nil c.pop.new.self.items ∙ none in
    let so_far : built (tokens_of []) c.parts.pile ≡ built (tokens_of c.args.tokens.items) [] = rw empty at c.parts.invariant in
    sym (built-none c.parts.pile) ∙ so_far
