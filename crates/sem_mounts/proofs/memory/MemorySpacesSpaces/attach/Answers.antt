-- The file was found, and its bytes are a catalogue; or why not.
use Rattle.std.proofs.Common.{Err, ◌∙◌, ap, refl}
use Rattle.std.proofs.lemmas.Result.{err_from_is_err_and}
use Rattle.sem_mounts.proofs.SpaceLemmas.{fails-bad, fails-not, fault-bad, says-found}
use Rattle.sem_mounts.proofs.memory.MemorySpacesSpaces.attach.Goals as goal

pub returns-clause-contents : goal.returns-clause-contents
returns-clause-contents c =
    let says = rw c.as_slice.ensures at c.in_ok-documents.ensures in (
      c.in_ok-documents.documents,
      rw (← c.self.view_is) (says-found c.args.file.now c.self.inside.files.items
          c.in_ok-bytes.bytes.now c.in_ok-documents.documents (rw c.deref.ensures.value at
          c.in_ok-bytes.ensures.bytes) says),
      rw (
        ← c.self.view_is,
        c.in_ok-push.ensures.ok,
        c.in_default.ensures.ok,
        c.in_ok-copy_of.ensures,
      ) refl,
    )

pub returns-in_err-bytes-clause-plan : goal.returns-in_err-bytes-clause-plan
returns-in_err-bytes-clause-plan c =
    let stop = err_from_is_err_and c.from_residual.result c.from_residual.ensures.1 in
    let reason = rw c.deref.ensures.value at (c.in_err-bytes.ensures.fails.0 refl) in
    rw (stop.1 ∙ ap Err stop.2, ← c.self.view_is) (record {
      fails = (λ _. (refl, reason), λ _. refl);
      failing = c.opened.ensures.failing;
      made = c.opened.ensures.made;
      faults = c.in_err-bytes.ensures.faults;
    })

pub returns-in_err-documents-clause-plan : goal.returns-in_err-documents-clause-plan
returns-in_err-documents-clause-plan c =
    let given = c.from_residual-in_err-documents in
    let stop = err_from_is_err_and given.result given.ensures.1 in
    let not_so = rw c.deref.ensures.value at c.in_ok-bytes.ensures.fails.1 in
    rw (stop.1 ∙ ap Err stop.2, ← c.self.view_is) (record {
      fails = fails-bad c.in_err-documents.field-0.0 _ not_so;
      failing = c.opened.ensures.failing;
      made = c.opened.ensures.made;
      faults = fault-bad c.in_err-documents.field-0.0 c.in_ok-bytes.ensures.faults;
    })

pub returns-clause-plan : goal.returns-clause-plan
returns-clause-plan c =
    let not_so = rw c.deref.ensures.value at c.in_ok-bytes.ensures.fails.1 in
    rw (← c.self.view_is) (record {
      fails = fails-not _ (λ both. not_so both.1);
      failing = c.opened.ensures.failing;
      made = c.opened.ensures.made;
      faults = c.in_ok-bytes.ensures.faults;
    })
