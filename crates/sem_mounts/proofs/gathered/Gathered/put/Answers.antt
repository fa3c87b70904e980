-- The list of a word has one number more.
use Rattle.sem_mounts.proofs.GatheredLemmas.{put-more}
use Rattle.sem_mounts.proofs.gathered.Gathered.put.Goals as goal

pub returns-in-Some : goal.returns-in-Some
returns-in-Some c =
    rw (← c.self.view_is) (put-more c.put.result c.args.number c.args.word.now
    c.self.inside.lists.items c.in-Some.place c.index_mut.result.now c.put.new.self
    (rw c.deref.ensures.value at c.in-Some.ensures) c.index_mut.ensures.value c.put.ensures)
