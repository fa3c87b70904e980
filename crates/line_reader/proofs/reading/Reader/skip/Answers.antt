use Rattle.std.proofs.Common.{◌≤◌, List, ℕ, drop, drop-drop, length-drop, arith, subst, sym}
use Rattle.line_reader.specs.Reading.{Reading, IsReading}
use Rattle.line_reader.specs.Takes.{within}
use Rattle.line_reader.proofs.TakeLemmas.{reading-moved, scanned-moved}
use Rattle.line_reader.proofs.reading.Reader.skip.Goals as goal

pub invariant_of-self : goal.invariant_of-self
invariant_of-self c =
    let inside = c.self.inside in
    let old : Reading = record { buffered = drop inside.start inside.bytes.items; taken = inside.taken; ended = inside.ended } in
    let bound : c.args.count ≤ within old = subst (λ (r : Reading). c.args.count ≤ within r) (sym c.self.view_is) c.requires.inside in
    let moved = reading-moved old c.args.count c.self.invariant.reading bound in
    let scanned = scanned-moved inside.start inside.scanned c.args.count inside.bytes.items c.self.invariant.begun c.self.invariant.scanned (omega (arith, bound)) in
    record {
      start = omega (arith, bound, length-drop inside.start inside.bytes.items, c.self.invariant.start);
      begun = omega (arith, c.max-self-inside.ensures);
      scanned = omega (arith, scanned, c.max-self-inside.ensures);
      kept = c.self.invariant.kept;
      reading = subst (λ (buffered : List ℕ). IsReading (record { buffered = buffered; taken = inside.taken; ended = inside.ended })) (drop-drop c.args.count inside.start inside.bytes.items) moved;
    }

pub returns-clause-sound : goal.returns-clause-sound
returns-clause-sound c = (invariant_of-self c).reading
