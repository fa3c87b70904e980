use Rattle.std.proofs.Common.{Err, ap, ◌∙◌, arith}
use Rattle.std.specs.Prelude.{Option}
use Rattle.std.proofs.lemmas.Result.{err_from_is_err_and}
use Rattle.hac_model.specs.declared.taken.Taken.{Taken}
use Rattle.line_reader.specs.Reading.{pending}
use Rattle.line_reader.specs.declared.reading.Piece.{Piece}
use Rattle.hac_top.proofs.TakenLemmas.{goes-line, buffered-stop, leaves-on, next-reader, stops-taking, taken-gives, taken-stop}
use Rattle.hac_top.proofs.taking.take_line.Goals as goal

pub returns-in_err-piece-clause-stops : goal.returns-in_err-piece-clause-stops
returns-in_err-piece-clause-stops g c =
    let seen = g.S.Source.seen in
    let old = c.args.reader.now in
    let new = c.next_line.new.self in
    let fault = c.in_err-piece.field-0.0 in
    let stop = err_from_is_err_and c.from_residual.result c.from_residual.ensures.1 in
    let was = c.in_err-piece.ensures in
    rw (stop.1 ∙ ap Err stop.2)
    (stops-taking Piece old new (seen c.args.input.now) (seen c.next_line.new.source) fault was.leaves
    (buffered-stop fault (pending old (seen c.args.input.now).left) (seen c.next_line.new.source).left new was.source.near was.err (λ read. was.unended (ap Err read)) (λ past. was.past (ap Err past))))

pub returns-in-Ok-clause-line : goal.returns-in-Ok-clause-line
returns-in-Ok-clause-line g c =
    let seen = g.S.Source.seen in
    let old = c.args.reader.now in
    let mid = c.next_line.new.self in
    let new = c.take_due.new.reader in
    let goes = goes-line c.in_ok-piece.piece old mid c.in_default.not-End c.in_ok-piece.ensures.advances in
    let given = c.in-Ok.ensures.given in
    let leaves = leaves-on Piece (Option Taken) c.in_ok-piece.piece c.take_due.result old mid new (seen c.args.input.now) (seen c.next_line.new.source) (seen c.take_due.new.input) c.in_ok-piece.ensures.leaves c.take_due.ensures.leaves in
    record {
      given =
          taken-gives c.in_ok-piece.piece c.in-Ok.taken mid.ended new.ended (pending old (seen c.args.input.now).left) (pending mid (seen c.next_line.new.source).left) (pending new (seen c.take_due.new.input).left)
          c.in_default.not-End c.in_ok-piece.ensures.piece (rw c.due_of.ensures at c.in-Ok.ensures.given.bytes) c.in-Ok.ensures.leaves.stays;
      advances = record { further = omega (arith, goes.further, given.further); limit = given.limit; near = omega (arith, given.source.near) };
      reader = next-reader new (seen c.take_due.new.input) given.source;
      source = record { total = leaves.total; limit = leaves.sound.limit; reported = c.in-Ok.ensures.leaves.faults ∙ c.in_ok-piece.ensures.leaves.faults };
    }

pub returns-in-Err-clause-stops : goal.returns-in-Err-clause-stops
returns-in-Err-clause-stops g c =
    let seen = g.S.Source.seen in
    let old = c.args.reader.now in
    let mid = c.next_line.new.self in
    let new = c.take_due.new.reader in
    let fault = c.in-Err.fault in
    let leaves = leaves-on Piece (Option Taken) c.in_ok-piece.piece (Err fault) old mid new (seen c.args.input.now) (seen c.next_line.new.source) (seen c.take_due.new.input) c.in_ok-piece.ensures.leaves c.in-Err.ensures.leaves in
    rw c.from.ensures
    (stops-taking (Option Taken) old new (seen c.args.input.now) (seen c.take_due.new.input) fault leaves
    (taken-stop (Option Taken) fault c.in_ok-piece.piece mid new (seen c.next_line.new.source) (seen c.take_due.new.input) (pending old (seen c.args.input.now).left) (pending mid (seen c.next_line.new.source).left) (seen c.take_due.new.input).left
    c.in_default.not-End c.in_ok-piece.ensures.piece (rw c.due_of.ensures at c.in-Err.ensures.fault.bytes) c.in-Err.ensures.leaves))
