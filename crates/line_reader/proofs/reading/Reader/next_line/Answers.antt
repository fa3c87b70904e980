use Rattle.line_reader.proofs.GiveLemmas.{gives-ended-told, line-ended, line-last}
use Rattle.line_reader.proofs.reading.Reader.next_line.Goals as goal

pub returns-in-Ended-clause-piece : goal.returns-in-Ended-clause-piece
returns-in-Ended-clause-piece g c =
    gives-ended-told c.give.result c.args.self.now c.find_line.new.self c.give.new.self (g.S.Source.seen c.args.source.now) (g.S.Source.seen c.find_line.new.source) c.in-Ended.end
    c.find_line.ensures.source c.find_line.ensures.reads (rw c.in-Ended.is at c.in_ok-end.ensures.found) c.give.ensures.piece c.give.ensures.ok

pub returns-in-Ended-clause-source : goal.returns-in-Ended-clause-source
returns-in-Ended-clause-source g c =
    line-ended c.give.result c.find_line.new.self c.give.new.self (g.S.Source.seen c.find_line.new.source) c.in-Ended.end
    c.find_line.ensures.source (rw c.in-Ended.is at c.in_ok-end.ensures.found) c.give.ensures.ok c.give.ensures.err

pub returns-in-Last-clause-source : goal.returns-in-Last-clause-source
returns-in-Last-clause-source g c =
    line-last c.give_last.result c.find_line.new.self c.give_last.new.self (g.S.Source.seen c.find_line.new.source)
    c.find_line.ensures.source c.give_last.ensures.ok c.give_last.ensures.err
