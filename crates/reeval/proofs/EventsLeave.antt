-- What each event leaves alone.
use Rattle.std.proofs.Common.{◌≡◌, ℕ, false}
use Rattle.std.specs.Prelude.{IsTrue}
use Rattle.hac_model.specs.Tree.Events.{accepted, apply}
use Rattle.hac_model.specs.Tree.Touched.{begins, touches}
use Rattle.hac_model.specs.Tree.Valid.{IsValid}
use Rattle.hac_model.specs.declared.events.Event.{Event}
use Rattle.hac_model.specs.declared.events.Event.TheVariants.{Mkdir, NewFile, Rewrite, Ln, Smkdir, Setq, Unq, Mark, Mv, Rm, Rmdir, Smount, Ssync, Sumount, Step, Cd}
use Rattle.hac_model.specs.declared.states.State.{State}
use Rattle.reeval.specs.Judging.{LeavesAlike}
use Rattle.reeval.proofs.AskOwes.{mark-owes, setq-owes, smkdir-owes}
use Rattle.reeval.proofs.EventLemmas.{Owes, owed-leaves}
use Rattle.reeval.proofs.MountOwes.{smount-owes, ssync-owes, sumount-owes}
use Rattle.reeval.proofs.MoveOwes.{move-owes}
use Rattle.reeval.proofs.TreeOwes.{cd-owes, ln-owes, mkdir-owes, new_file-owes, rewrite-owes, rm-owes, rmdir-owes, step-owes, unq-owes}

pub event-owes : (s : State) (event : Event) → IsValid s → IsTrue (accepted s event) → (item : ℕ) → touches s event item ≡ false → Owes s event item
event-owes s (Mkdir dir name) h ok item untouched = mkdir-owes s item h dir name ok
event-owes s (NewFile dir name text) h ok item untouched = new_file-owes s item h dir name text ok untouched
event-owes s (Rewrite file text) h ok item untouched = rewrite-owes s item h file text ok
event-owes s (Ln dir name target) h ok item untouched = ln-owes s item h dir name target ok
event-owes s (Smkdir dir name query told) h ok item untouched = smkdir-owes s item h query told dir name ok
event-owes s (Setq dir query told) h ok item untouched = setq-owes s item h query told dir ok
event-owes s (Unq dir) h ok item untouched = unq-owes s item h dir ok
event-owes s (Mark mark) h ok item untouched = mark-owes s item h mark ok untouched
event-owes s (Mv entry dir name) h ok item untouched = move-owes s item h entry dir name ok untouched
event-owes s (Rm leaf) h ok item untouched = rm-owes s item h leaf ok untouched
event-owes s (Rmdir dir) h ok item untouched = rmdir-owes s item h dir ok
event-owes s (Smount dir name space documents told) h ok item untouched = smount-owes s item h dir name space documents told ok untouched
event-owes s (Ssync mount documents told) h ok item untouched = ssync-owes s item h mount documents told ok untouched
event-owes s (Sumount mount) h ok item untouched = sumount-owes s item h mount ok untouched
event-owes s Step h ok item untouched = step-owes s item h ok untouched
event-owes s (Cd session dir) h ok item untouched = cd-owes s item h session dir ok

pub events-leave : (s : State) (event : Event) → IsValid s → IsTrue (accepted s event) → (item : ℕ) → touches s event item ≡ false → LeavesAlike s (apply s event) (begins s event) item
events-leave s event h ok item untouched = owed-leaves s event item h ok (event-owes s event h ok item untouched)
