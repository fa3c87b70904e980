use Rattle.std.proofs.Common.{arith, ◌≡◌, ◌≤◌, ◌+◌, ◌-◌, length, drop, ap, sym, ◌∙◌, subst}
use Rattle.std.specs.Prelude.{ℕ, List, max, nat_eq}
use Rattle.std.specs.List.{position_or_len}
use Rattle.hac_model.specs.Bytes.{is_line_end}
use Rattle.hac_model.specs.declared.limits.TheConstants.{SCRIPT_LIMIT, TEXT_LIMIT}
use Rattle.line_reader.specs.Reading.{Reading, ReadsOn, ReadsPiece, piece_size}
use Rattle.line_reader.proofs.ReaderLemmas.{filled-kept, reads-piece, reading-piece, scanned-on}
use Rattle.line_reader.proofs.reading.Reader.fill.Goals as goal
use Rattle.line_reader.proofs.reading.Reader.fill.Goals.{then-room, else-room}

pub returns-clause-reads : goal.returns-clause-reads
returns-clause-reads g c =
    let buffered : c.drop_front.new.bytes.items ≡ c.args.self.now.buffered = c.drop_front.ensures ∙ ap (λ (r : Reading). r.buffered) c.self.view_is in
    let taken : c.self.inside.taken ≡ c.args.self.now.taken = ap (λ (r : Reading). r.taken) c.self.view_is in
    let kept : length c.args.self.now.buffered ≤ c.args.self.now.taken = omega (arith, c.self.invariant.reading.kept, ap (λ (r : Reading). length r.buffered) c.self.view_is, taken) in
    let before = g.S.Source.seen c.args.source.now in
    let after = g.S.Source.seen c.read_onto.new.source in
    let read : ReadsPiece c.args.self.now.buffered c.read_onto.new.bytes.items before after c.in_ok-count.count c.if-room.most =
    subst (λ (xs : List ℕ). ReadsPiece xs c.read_onto.new.bytes.items before after c.in_ok-count.count c.if-room.most) buffered c.in_ok-count.ensures.ok in
    subst (λ (n : ℕ). ReadsOn c.args.self.now (record { buffered = c.read_onto.new.bytes.items; taken = n + c.in_ok-count.count; ended = nat_eq c.in_ok-count.count 0 }) before after) (sym taken)
    (reads-piece c.args.self.now c.read_onto.new.bytes.items c.in_ok-count.count c.if-room.most before after c.requires.open kept read)

pub invariant_of-self-2 : goal.invariant_of-self-2
invariant_of-self-2 g c =
    let inside = c.self.inside in
    let old : Reading = record { buffered = drop inside.start inside.bytes.items; taken = inside.taken; ended = inside.ended } in
    let more_may : old.taken ≤ SCRIPT_LIMIT = subst (λ (r : Reading). r.taken ≤ SCRIPT_LIMIT) (sym c.self.view_is) c.requires.room in
    let before = g.S.Source.seen c.args.source.now in
    let after = g.S.Source.seen c.read_onto.new.source in
    let all = c.read_onto.new.bytes.items in
    let read : ReadsPiece old.buffered c.read_onto.new.bytes.items before after c.in_ok-count.count c.if-room.most =
    subst (λ (xs : List ℕ). ReadsPiece xs c.read_onto.new.bytes.items before after c.in_ok-count.count c.if-room.most) c.drop_front.ensures c.in_ok-count.ensures.ok in
    let few = subst (λ (r : Reading). length r.buffered ≤ max (position_or_len is_line_end r.buffered) TEXT_LIMIT) (sym c.self.view_is) c.requires.few in
    let bound : (c.if-room.most + old.taken ≤ SCRIPT_LIMIT + 1) × (c.if-room.most ≤ piece_size) = elim c.if-room.branch [ then-room w ↦ (omega (arith, w.most-is, more_may), omega (arith, w.most-is, w.if-room.true)) | else-room w ↦ (omega (arith, w.most-is, w.if-room.false, more_may), omega (arith, w.most-is)) ] in
    record {
      start = omega arith;
      begun = omega arith;
      scanned = omega (arith, scanned-on old.buffered all (inside.scanned - inside.start) c.in_ok-count.count c.if-room.most before after (omega (arith, c.self.invariant.scanned, c.self.invariant.begun)) read);
      kept = filled-kept old.buffered all c.in_ok-count.count c.if-room.most before after few bound.1 read;
      reading = reading-piece old all c.in_ok-count.count c.if-room.most before after c.self.invariant.reading more_may bound.0 read;
    }

pub returns-clause-sound : goal.returns-clause-sound
returns-clause-sound g c = (invariant_of-self-2 g c).reading
