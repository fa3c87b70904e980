use Rattle.std.proofs.Common.{◌≡◌, [], ◌∷◌, ◌++◌, None, Ok}
use Rattle.std.proofs.Math.Nat.{sub-zero}
use Rattle.std.proofs.lemmas.Result.{err_from_is_err_and}
use Rattle.std.specs.Option.{option_copied}
use Rattle.hac_model.specs.Payload.Fields.{items_at}
use Rattle.event_codec.proofs.LoopLemmas.{goes_on, goes_wrong, is_done, last_of}
use Rattle.payload_fields.proofs.FrontLemmas.{front_none}
use Rattle.payload_fields.specs.Reading.{Fails}
use Rattle.event_codec.proofs.lists.items.Goals as goal

pub items-init : goal.items-init
items-init g c = rw (sub-zero, c.new-items.ensures.items) (front_none (items_at (g.T.Item.item c.args.version) c.args.count None c.args.bytes.now))

pub returns-in_err-item : goal.returns-in_err-item
returns-in_err-item g c =
    let last : option_copied c.last.result ≡ last_of c.items.items.items = rw (← c.deref.ensures.value) c.last.ensures.value in
    let fails : Fails c.in_err-item.field-0.0 ((g.T.Item.item c.args.version (last_of c.items.items.items)).read c.items.bytes) = rw (← last) c.in_err-item.ensures in
    let wrong = goes_wrong (g.T.Item.item c.args.version) c.in_err-item.field-0.0 c.items.items.items c.args.count c.items.counter c.items.bytes (items_at (g.T.Item.item c.args.version) c.args.count None c.args.bytes.now) c.items-test.true fails c.items.invariant in
    let p = err_from_is_err_and c.from_residual.result c.from_residual.ensures.1 in
    rw (p.1, p.2) wrong

pub items-preserved : goal.items-preserved
items-preserved g c =
    let last : option_copied c.last.result ≡ last_of c.items.items.items = rw (← c.deref.ensures.value) c.last.ensures.value in
    let read : (g.T.Item.item c.args.version (last_of c.items.items.items)).read c.items.bytes ≡ Ok (c.in_ok-item.item, c.read.new.bytes) = rw (← last) c.in_ok-item.ensures in
    let items : c.push.new.self.items ≡ c.items.items.items ++ c.in_ok-item.item ∷ [] = c.in_ok-push.ensures.items in
    rw items (goes_on (g.T.Item.item c.args.version) c.items.items.items c.args.count c.items.counter c.items.bytes c.in_ok-item.item c.read.new.bytes (items_at (g.T.Item.item c.args.version) c.args.count None c.args.bytes.now) c.items-test.true read c.items.invariant)

pub returns : goal.returns
returns g c = rw c.new.ensures (is_done (g.T.Item.item c.args.version) c.items.items.items c.args.count c.items.counter c.items.bytes (items_at (g.T.Item.item c.args.version) c.args.count None c.args.bytes.now) c.items-test.false c.items.invariant)
