use Rattle.std.proofs.Common.{◌-◌, [], ◌∷◌, length}
use Rattle.hac_model.specs.Payload.QueryFields.{tokens_at}
use Rattle.hac_model.specs.declared.limits.TheConstants.{NESTING_LIMIT, QUERY_LIMIT, TERMS_LIMIT}
use Rattle.payload_fields.specs.Tokens.{tokens_of, room_of}
use Rattle.payload_fields.proofs.PartLemmas.{PartsGoOn}
use Rattle.payload_fields.proofs.queries.tokens.Given as goal

abbrev pub invariant-parts : goal.invariant-parts
invariant-parts l = PartsGoOn l.fn.version (tokens_of l.tokens.items) (room_of l.room) (length l.fn.bytes - l.counter) l.bytes (tokens_at l.fn.version (length l.fn.bytes) (NESTING_LIMIT ∷ []) TERMS_LIMIT QUERY_LIMIT l.fn.bytes)
