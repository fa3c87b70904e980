use Rattle.std.proofs.Common.{subst}
use Rattle.hac_model.specs.Script.PathWords.{word_of}
use Rattle.hac_names.specs.Reading.{IsNameFault}
use Rattle.hac_names.specs.declared.reading.NameFault.{NameFault}
use Rattle.tree_nodes.proofs.TargetLemmas.{target-read, target-unrefused}
use Rattle.tree_nodes.proofs.targets.read_word.Goals as goal

pub returns-in-Ok : goal.returns-in-Ok
returns-in-Ok c = target-read c.args.target.now c.as_slice.result.now c.in-Ok.word c.requires c.as_slice.ensures c.in-Ok.ensures.word

pub unreachable-requires : goal.unreachable-requires
unreachable-requires c =
    target-unrefused c.args.target.now c.as_slice.result.now _ c.requires c.as_slice.ensures
    (subst (λ (fault : NameFault). IsNameFault fault (word_of c.as_slice.result.now)) c.in-Err-Bad.field-0-is c.in-Err-Bad.ensures.word)

pub unreachable-requires-in-Err-Limit : goal.unreachable-requires-in-Err-Limit
unreachable-requires-in-Err-Limit c =
    target-unrefused c.args.target.now c.as_slice.result.now _ c.requires c.as_slice.ensures
    (subst (λ (fault : NameFault). IsNameFault fault (word_of c.as_slice.result.now)) c.in-Err-Limit.field-0-is c.in-Err-Limit.ensures.word)
