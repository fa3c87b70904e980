-- Parts of queries and room for them, as the code holds them.
use Rattle.std.specs.Prelude.{◌≡◌, ℕ, Bool, if◌then◌else◌, List, ◌∷◌, map, Option, Some, None}
use Rattle.hac_model.specs.Query.Formula.{Formula}
use Rattle.hac_model.specs.Payload.QueryFields as query
use Rattle.hac_model.specs.Payload.QueryFields.{room_after}
use Rattle.payload_fields.specs.declared.queries.Token.{Token}
use Rattle.payload_fields.specs.declared.queries.Token.TheVariants.{Term, Dir, Not, And, Or}
use Rattle.payload_fields.specs.declared.rooms.Room.{Room}

-- the part that the code holds
abbrev pub token_of : Token → query.Token
token_of (Term term) = query.Term term
token_of (Dir dir) = query.Dir dir
token_of Not = query.Not
token_of And = query.And
token_of Or = query.Or

abbrev pub tokens_of : List Token → List query.Token
tokens_of tokens = map token_of tokens

-- the room that the code holds
abbrev pub room_of : Room → query.Room
room_of room = record { wanted = room.wanted; terms = room.terms; letters = room.letters }

-- a part was taken, and the room behind it is left; or there is no room for it
abbrev pub TakesPart : ℕ → query.Token → Room → Room → Bool → Type 0
TakesPart nots token old new taken =
    room_after nots old.wanted old.terms old.letters token ≡ if taken then Some (room_of new) else None

-- the first two queries of a pile are taken, where it has two; else it is cleared
abbrev pub TakesTwo : List (Formula ℕ) → List (Formula ℕ) → Option (Formula ℕ × Formula ℕ) → Type 0
TakesTwo old new None = (join : Formula ℕ → Formula ℕ → Formula ℕ) → query.two_joined join old ≡ new
TakesTwo old new (Some two) = old ≡ two.0 ∷ two.1 ∷ new
