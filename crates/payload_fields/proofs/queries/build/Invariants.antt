use Rattle.std.proofs.Common.{◌≡◌, [], vec_len}
use Rattle.hac_model.specs.Payload.QueryFields.{built}
use Rattle.payload_fields.specs.Tokens.{tokens_of}
use Rattle.payload_fields.proofs.queries.build.Given as goal

abbrev pub invariant-parts : goal.invariant-parts
invariant-parts l = built (tokens_of l.tokens.items) l.pile ≡ built (tokens_of l.fn.tokens.items) []

abbrev pub decreases-parts : goal.decreases-parts
decreases-parts l = vec_len l.tokens
