use Rattle.std.proofs.Common.{List, ap, sym, subst}
use Rattle.hac_model.specs.Tree.{is_directory_at}
use Rattle.hac_model.specs.declared.states.Entry.{Entry}
use Rattle.hac_model.specs.declared.states.State.{State}
use Rattle.file_tree.specs.Seen.{Seen}
use Rattle.layout_check.specs.Rising.{DoRise}
use Rattle.layout_check.proofs.RiseLemmas.{rises}
use Rattle.snapshots.specs.Loading.{AreBeside, AreSoundMarks}
use Rattle.snapshots.proofs.LoadLemmas.{loaded-parts, sound-marks}
use Rattle.snapshots.proofs.loading.load.Goals as goal

pub kept_beside-requires-clause-rise : goal.kept_beside-requires-clause-rise
kept_beside-requires-clause-rise c =
    subst (λ (es : List Entry). DoRise es) (sym c.as_slice.ensures) (rises 0 c.args.state.entries c.args.state.next c.requires.valid.layout.numbers)

pub kept_beside-requires-clause-sound : goal.kept_beside-requires-clause-sound
kept_beside-requires-clause-sound c =
    subst (λ (es : List Entry). AreSoundMarks es) (sym c.as_slice.ensures) (sound-marks c.args.state c.requires.valid)

pub of_parts-requires : goal.of_parts-requires
of_parts-requires c =
    let s : State = c.args.state in
    let beside : AreBeside (is_directory_at s.entries) s.entries c.in_ok-beside.beside =
    subst (λ (es : List Entry). AreBeside (is_directory_at es) es c.in_ok-beside.beside) c.as_slice.ensures c.in_ok-beside.ensures in
    (s, loaded-parts s c.in-Ok.tree.state c.in_ok-beside.beside c.requires.valid c.requires.sessions (ap (λ (t : Seen). t.state) c.in-Ok.ensures) beside)

pub returns-in-Ok : goal.returns-in-Ok
returns-in-Ok c =
    let s : State = c.args.state in
    let beside : AreBeside (is_directory_at s.entries) s.entries c.in_ok-beside.beside =
    subst (λ (es : List Entry). AreBeside (is_directory_at es) es c.in_ok-beside.beside) c.as_slice.ensures c.in_ok-beside.ensures in
    c.of_parts.ensures s (loaded-parts s c.in-Ok.tree.state c.in_ok-beside.beside c.requires.valid c.requires.sessions (ap (λ (t : Seen). t.state) c.in-Ok.ensures) beside)
