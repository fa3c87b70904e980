use Rattle.std.proofs.Common.{◌≡◌, ◌-◌, ◌<◌, ◌≤◌, [], ◌∷◌, length, Some, None, sym, ◌∙◌, arith}
use Rattle.std.proofs.lemmas.Bool.{eqb-false, eqb-true}
use Rattle.std.proofs.lemmas.List.{nil_from_length}
use Rattle.std.proofs.lemmas.Result.{err_from_is_err_and}
use Rattle.hac_model.specs.Payload.QueryFields.{room_after, tokens_at}
use Rattle.hac_model.specs.declared.limits.TheConstants.{NESTING_LIMIT, QUERY_LIMIT, TERMS_LIMIT}
use Rattle.payload_fields.specs.Tokens.{room_of, token_of, tokens_of}
use Rattle.payload_fields.proofs.PartLemmas.{map-last, parts_done, parts_short, part_barred, part_fails, part_read}
use Rattle.payload_fields.proofs.queries.tokens.Goals as goal

pub returns-in_default : goal.returns-in_default
returns-in_default c =
    parts_done c.args.version (tokens_of c.parts.tokens.items) c.parts.room.terms c.parts.room.letters (length c.args.bytes.now - c.parts.counter) c.parts.bytes _ (rw c.in_default.ensures.0 at c.parts.invariant)

pub returns-in_err-token : goal.returns-in_err-token
returns-in_err-token c =
    let more : c.parts.counter < length c.args.bytes.now = rw (← c.left-end.ensures.left) c.parts-test.true in
    let wrong = part_fails c.args.version c.in_err-token.field-0.0 (tokens_of c.parts.tokens.items) c.in-Some.nots c.pop.new.self c.parts.room.terms c.parts.room.letters (length c.args.bytes.now) c.parts.counter c.parts.bytes
    (tokens_at c.args.version (length c.args.bytes.now) (NESTING_LIMIT ∷ []) TERMS_LIMIT QUERY_LIMIT c.args.bytes.now) more c.in_err-token.ensures (rw c.in-Some.ensures at c.parts.invariant) in
    let p = err_from_is_err_and c.from_residual-in_err-token.result c.from_residual-in_err-token.ensures.1 in
    rw (p.1, p.2) wrong

pub returns-then-not-branch : goal.returns-then-not-branch
returns-then-not-branch c =
    let more : c.parts.counter < length c.args.bytes.now = rw (← c.left-end.ensures.left) c.parts-test.true in
    let none : room_after c.in-Some.nots c.pop.new.self c.parts.room.terms c.parts.room.letters (token_of c.in_ok-token.token) ≡ None = rw c.if-not-branch.true at c.in_ok-take.ensures in
    rw c.bad-bad.ensures (part_barred c.args.version (tokens_of c.parts.tokens.items) c.in-Some.nots c.pop.new.self c.parts.room.terms c.parts.room.letters (length c.args.bytes.now) c.parts.counter c.parts.bytes c.next_token.new.bytes (token_of c.in_ok-token.token)
    (tokens_at c.args.version (length c.args.bytes.now) (NESTING_LIMIT ∷ []) TERMS_LIMIT QUERY_LIMIT c.args.bytes.now) more c.in_ok-token.ensures none (rw c.in-Some.ensures at c.parts.invariant))

pub parts-preserved : goal.parts-preserved
parts-preserved c =
    let more : c.parts.counter < length c.args.bytes.now = rw (← c.left-end.ensures.left) c.parts-test.true in
    let some : room_after c.in-Some.nots c.pop.new.self c.parts.room.terms c.parts.room.letters (token_of c.in_ok-token.token) ≡ Some (room_of c.take.new.self) = rw c.if-not-branch.false at c.in_ok-take.ensures in
    rw (c.in_ok-push.ensures.items, map-last token_of c.parts.tokens.items c.in_ok-token.token) (part_read c.args.version (tokens_of c.parts.tokens.items) c.in-Some.nots c.pop.new.self c.parts.room.terms c.parts.room.letters (length c.args.bytes.now) c.parts.counter c.parts.bytes c.next_token.new.bytes (token_of c.in_ok-token.token) (room_of c.take.new.self)
    (tokens_at c.args.version (length c.args.bytes.now) (NESTING_LIMIT ∷ []) TERMS_LIMIT QUERY_LIMIT c.args.bytes.now) more c.in_ok-token.ensures some (rw c.in-Some.ensures at c.parts.invariant))

pub returns-then-is_empty : goal.returns-then-is_empty
returns-then-is_empty c =
    let empty : c.parts.room.wanted ≡ [] = nil_from_length c.parts.room.wanted (eqb-true _ _ (sym c.is_empty.ensures ∙ c.if-is_empty.true)) in
    parts_done c.args.version (tokens_of c.parts.tokens.items) c.parts.room.terms c.parts.room.letters (length c.args.bytes.now - c.parts.counter) c.parts.bytes _ (rw empty at c.parts.invariant)

pub returns : goal.returns
returns c =
    let all : length c.args.bytes.now ≤ c.parts.counter = rw (← c.left-end.ensures.left) c.parts-test.false in
    let not_zero = eqb-false (length c.parts.room.wanted) 0 (sym c.is_empty.ensures ∙ c.if-is_empty.false) in
    let some : 0 < length c.parts.room.wanted = grind (arith, not_zero) in
    parts_short c.args.version (tokens_of c.parts.tokens.items) c.parts.room.wanted c.parts.room.terms c.parts.room.letters (length c.args.bytes.now) c.parts.counter c.parts.bytes _ all some c.parts.invariant
