use Rattle.std.proofs.Common.{subst}
use Rattle.std.specs.Prelude.{IsTrue}
use Rattle.hac_model.specs.Tree.Events.{accepted}
use Rattle.hac_model.specs.declared.events.Event.{Event}
use Rattle.kept_state.specs.Parts.{facts_kept, state_of}
use Rattle.kept_state.proofs.MountPutLemmas.{mount-directory, mount-even, mount-few, sync-documents, sync-even, sync-mount}
use Rattle.kept_state.proofs.ReadyLemmas.{file-directory, link-parts, mark-directory, mkdir-directory, move-directory, moved-ready, setq-told, smkdir-directory, smkdir-told}
use Rattle.kept_state.proofs.ready.prepare.Goals as goal

pub prepare_entry-requires : goal.prepare_entry-requires
prepare_entry-requires c = mkdir-directory (facts_kept c.args.kept.now) c.args.kept.now.sessions c.args.kept.now.tree.state c.args.event.now c.requires.accepted c.in-Mkdir.dir c.in-Mkdir.name c.in-Mkdir.is

pub prepare_entry-requires-in-NewFile : goal.prepare_entry-requires-in-NewFile
prepare_entry-requires-in-NewFile c = file-directory (facts_kept c.args.kept.now) c.args.kept.now.sessions c.args.kept.now.tree.state c.args.event.now c.requires.accepted c.in-NewFile.dir c.in-NewFile.name c.in-NewFile.text c.in-NewFile.is

pub prepare_link-requires-clause-dir : goal.prepare_link-requires-clause-dir
prepare_link-requires-clause-dir c = (link-parts (facts_kept c.args.kept.now) c.args.kept.now.sessions c.args.kept.now.tree.state c.args.event.now c.requires.accepted c.in-Ln.dir c.in-Ln.name c.in-Ln.target c.in-Ln.is).0

pub prepare_link-requires-clause-target : goal.prepare_link-requires-clause-target
prepare_link-requires-clause-target c = (link-parts (facts_kept c.args.kept.now) c.args.kept.now.sessions c.args.kept.now.tree.state c.args.event.now c.requires.accepted c.in-Ln.dir c.in-Ln.name c.in-Ln.target c.in-Ln.is).1

pub prepare_semantic-requires-clause-dir : goal.prepare_semantic-requires-clause-dir
prepare_semantic-requires-clause-dir c = smkdir-directory (facts_kept c.args.kept.now) c.args.kept.now.sessions c.args.kept.now.tree.state c.args.event.now c.requires.accepted c.in-Smkdir.dir c.in-Smkdir.name c.in-Smkdir.query c.in-Smkdir.told c.in-Smkdir.is

pub prepare_move-requires-clause-dir : goal.prepare_move-requires-clause-dir
prepare_move-requires-clause-dir c = move-directory (facts_kept c.args.kept.now) c.args.kept.now.sessions c.args.kept.now.tree.state c.args.event.now c.requires.accepted c.in-Mv.entry c.in-Mv.dir c.in-Mv.name c.in-Mv.is

pub prepare_mark-requires-clause-semantic : goal.prepare_mark-requires-clause-semantic
prepare_mark-requires-clause-semantic c = mark-directory (facts_kept c.args.kept.now) c.args.kept.now.sessions c.args.kept.now.tree.state c.args.event.now c.requires.accepted c.in-Mark.mark c.in-Mark.is

pub prepare_mount-requires-clause-dir : goal.prepare_mount-requires-clause-dir
prepare_mount-requires-clause-dir c = mount-directory c.args.kept.now c.in-Smount.dir c.in-Smount.name c.in-Smount.space c.in-Smount.docs c.in-Smount.told (subst (λ (e : Event). IsTrue (accepted (state_of c.args.kept.now) e)) c.in-Smount.is c.requires.accepted)

pub prepare_mount-requires-clause-few : goal.prepare_mount-requires-clause-few
prepare_mount-requires-clause-few c = mount-few c.args.kept.now c.in-Smount.dir c.in-Smount.name c.in-Smount.space c.in-Smount.docs c.in-Smount.told (subst (λ (e : Event). IsTrue (accepted (state_of c.args.kept.now) e)) c.in-Smount.is c.requires.accepted)

pub prepare_mount-requires-clause-even : goal.prepare_mount-requires-clause-even
prepare_mount-requires-clause-even c = mount-even c.args.kept.now c.in-Smount.dir c.in-Smount.name c.in-Smount.space c.in-Smount.docs c.in-Smount.told (subst (λ (e : Event). IsTrue (accepted (state_of c.args.kept.now) e)) c.in-Smount.is c.requires.accepted)

pub prepare_sync-requires-clause-mount : goal.prepare_sync-requires-clause-mount
prepare_sync-requires-clause-mount c = sync-mount c.args.kept.now c.in-Ssync.mount c.in-Ssync.docs c.in-Ssync.told (subst (λ (e : Event). IsTrue (accepted (state_of c.args.kept.now) e)) c.in-Ssync.is c.requires.accepted)

pub prepare_sync-requires-clause-documents : goal.prepare_sync-requires-clause-documents
prepare_sync-requires-clause-documents c = sync-documents c.args.kept.now c.in-Ssync.mount c.in-Ssync.docs c.in-Ssync.told (subst (λ (e : Event). IsTrue (accepted (state_of c.args.kept.now) e)) c.in-Ssync.is c.requires.accepted)

pub prepare_sync-requires-clause-even : goal.prepare_sync-requires-clause-even
prepare_sync-requires-clause-even c = sync-even c.args.kept.now c.in-Ssync.mount c.in-Ssync.docs c.in-Ssync.told (subst (λ (e : Event). IsTrue (accepted (state_of c.args.kept.now) e)) c.in-Ssync.is c.requires.accepted)

pub prepare_semantic-requires-clause-told : goal.prepare_semantic-requires-clause-told
prepare_semantic-requires-clause-told c = smkdir-told (facts_kept c.args.kept.now) c.args.kept.now.sessions c.args.kept.now.tree.state c.args.event.now c.requires.accepted c.in-Smkdir.dir c.in-Smkdir.name c.in-Smkdir.query c.in-Smkdir.told c.in-Smkdir.is

pub prepare_query-requires-clause-told : goal.prepare_query-requires-clause-told
prepare_query-requires-clause-told c = setq-told (facts_kept c.args.kept.now) c.args.kept.now.sessions c.args.kept.now.tree.state c.args.event.now c.requires.accepted c.in-Setq.dir c.in-Setq.query c.in-Setq.told c.in-Setq.is

pub returns-in-Mv-clause-suits : goal.returns-in-Mv-clause-suits
returns-in-Mv-clause-suits c = moved-ready c.prepare_move.new.kept c.args.event.now c.in-Mv.entry c.in-Mv.dir c.in-Mv.name c.prepare_move.result c.in-Mv.is c.prepare_move.ensures.ready c.prepare_move.ensures.edges
