use Rattle.std.proofs.Common.{◌-◌, ◌<◌, refl, arith, rules, subst, sym}
use Rattle.line_reader.specs.Reading.{Reading}
use Rattle.line_reader.specs.Takes.{FallsShort, within}
use Rattle.line_reader.specs.declared.reading.LineFault.{LineFault}
use Rattle.line_reader.proofs.TakeLemmas.{drops-first, drops-moved, drops-filled, drops-all, drops-falls, if-err, nothing-held, within-dropped}
use Rattle.line_reader.proofs.reading.Reader.drop_put.Goals as goal

pub bytes-init : goal.bytes-init
bytes-init g c =
    record {
      drops = drops-first c.args.asked c.args.self.now (g.S.Source.seen c.args.source.now) c.requires.source;
      more = omega (arith, c.requires.many);
      unread = λ buffered. (refl, buffered);
      faults = refl;
    }

pub returns-then-due-eq0 : goal.returns-then-due-eq0
returns-then-due-eq0 g c =
    let seen = g.S.Source.seen in
    let took = c.drop_held-due.ensures in
    let now = c.drop_held-due.new.self in
    let before = seen c.args.source.now in
    let moved = drops-moved c.args.asked c.bytes.due c.drop_held-due.result c.args.self.now c.bytes.self now before (seen c.bytes.source) c.bytes.invariant.drops took.was took.count took.buffered in
    record {
      given = drops-all c.args.asked (c.bytes.due - c.drop_held-due.result) c.args.self.now now before (seen c.bytes.source) moved took.sound c.if-due-eq0.true c.requires.many;
      fault = search rules;
      unread = search rules;
      leaves = search rules;
    }

pub returns-in_err-has_ended : goal.returns-in_err-has_ended
returns-in_err-has_ended g c =
    let seen = g.S.Source.seen in
    let took = c.drop_held-due.ensures in
    let now = c.drop_held-due.new.self in
    let before = seen c.args.source.now in
    let after = seen c.bytes.source in
    let more : 0 < c.bytes.due - c.drop_held-due.result = omega (arith, c.if-due-eq0.false) in
    let moved = drops-moved c.args.asked c.bytes.due c.drop_held-due.result c.args.self.now c.bytes.self now before after c.bytes.invariant.drops took.was took.count took.buffered in
    let fewer = within-dropped c.bytes.self now c.bytes.due c.drop_held-due.result took.count took.buffered more in
    record {
      given = search rules;
      fault =
          if-err c.from_residual.result (λ (fault : LineFault). FallsShort fault c.args.asked c.args.self.now c.drop_held-due.new.self (g.S.Source.seen c.args.source.now) (g.S.Source.seen c.bytes.source))
          (λ fault. drops-falls fault c.args.asked (c.bytes.due - c.drop_held-due.result) c.args.self.now now before after moved c.requires.many fewer);
      unread = search rules;
      leaves = search rules;
    }

pub bytes-preserved : goal.bytes-preserved
bytes-preserved g c =
    let seen = g.S.Source.seen in
    let took = c.drop_held-due.ensures in
    let now = c.drop_held-due.new.self in
    let before = seen c.args.source.now in
    let mid = seen c.bytes.source in
    let more : 0 < c.bytes.due - c.drop_held-due.result = omega (arith, c.if-due-eq0.false) in
    let moved = drops-moved c.args.asked c.bytes.due c.drop_held-due.result c.args.self.now c.bytes.self now before mid c.bytes.invariant.drops took.was took.count took.buffered in
    let none = nothing-held c.bytes.self now c.bytes.due c.drop_held-due.result took.count took.buffered more c.in_ok-has_ended.ensures.room in
    record {
      drops =
          drops-filled c.args.asked (c.bytes.due - c.drop_held-due.result) c.args.self.now now c.fill.new.self before mid (seen c.fill.new.source) moved more none
          c.fill.ensures.reads c.fill.ensures.near c.fill.ensures.end;
      more = more;
      unread = λ buffered. absurd (omega (arith, (c.bytes.invariant.unread buffered).1, took.count, more));
      faults = search rules;
    }

pub returns-in_err-fill : goal.returns-in_err-fill
returns-in_err-fill g c =
    let seen = g.S.Source.seen in
    let took = c.drop_held-due.ensures in
    let now = c.drop_held-due.new.self in
    let before = seen c.args.source.now in
    let mid = seen c.bytes.source in
    let after = seen c.fill.new.source in
    let more : 0 < c.bytes.due - c.drop_held-due.result = omega (arith, c.if-due-eq0.false) in
    let due = c.bytes.due - c.drop_held-due.result in
    let moved = drops-moved c.args.asked c.bytes.due c.drop_held-due.result c.args.self.now c.bytes.self now before mid c.bytes.invariant.drops took.was took.count took.buffered in
    let none = nothing-held c.bytes.self now c.bytes.due c.drop_held-due.result took.count took.buffered more c.in_ok-has_ended.ensures.room in
    let filled = drops-filled c.args.asked (c.bytes.due - c.drop_held-due.result) c.args.self.now now c.fill.new.self before mid after moved more none c.fill.ensures.reads c.fill.ensures.near c.fill.ensures.end in
    let fewer : within c.fill.new.self < c.bytes.due - c.drop_held-due.result =
    subst (λ (r : Reading). within r < c.bytes.due - c.drop_held-due.result) (sym c.in_err-fill.ensures.err) (within-dropped c.bytes.self now c.bytes.due c.drop_held-due.result took.count took.buffered more) in
    record {
      given = search rules;
      fault =
          if-err c.from_residual-in_err-fill.result (λ (fault : LineFault). FallsShort fault c.args.asked c.args.self.now c.fill.new.self (g.S.Source.seen c.args.source.now) (g.S.Source.seen c.fill.new.source))
          (λ fault. drops-falls fault c.args.asked due c.args.self.now c.fill.new.self before after filled c.requires.many fewer);
      unread = search rules;
      leaves = search rules;
    }
