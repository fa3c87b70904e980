use Rattle.std.proofs.Common.{refl}
use Rattle.std.specs.Fmt.{digits}
use Rattle.hac_model.specs.Tree.Limits.{first_passed, passed_limit}
use Rattle.hac_model.specs.Script.LineWords.{quoted}
use Rattle.hac_model.specs.Script.Lines.{alone, ln_of, maybe_path, of_two_paths, one_path, path_and_query, write_of}
use Rattle.hac_model.specs.Tree.Depends.{first_reaching, reaches}
use Rattle.hac_model.specs.Tree.Links.{kind, links}
use Rattle.hac_model.specs.Script.PathWords.{word_of}
use Rattle.hac_model.specs.Payload.Payloads.{event_text}
use Rattle.hac_model.specs.Query.QueryReading.{after_run, kind_of, read_on, read_query}
use Rattle.hac_model.specs.Script.{script}
use Rattle.hac_model.specs.Script.Texts.{escaped_byte, text_of}
use Rattle.hac_model.specs.Tree.Looks.{look, destination, next_path}
use Rattle.hac_model.specs.Tree.{lineage, path_of}
use Rattle.hac_model.specs.Query.Words.{has_term, is_word_byte, words}
use Rattle.hac_model.specs.Script.Dump.{dump_commands, dump_text}
use Rattle.hac_dump.proofs.laws.first_dumps.Goals as goal

pub returns-clause-first : goal.returns-clause-first
unfolding after_run alone digits dump_commands dump_text escaped_byte event_text first_passed first_reaching has_term is_word_byte kind_of lineage links ln_of look destination next_path maybe_path of_two_paths one_path passed_limit path_and_query path_of quoted reaches read_on read_query script text_of word_of words write_of kind
returns-clause-first c = refl

pub returns-clause-empty : goal.returns-clause-empty
unfolding dump_commands dump_text
returns-clause-empty c = refl

pub returns-clause-second : goal.returns-clause-second
unfolding after_run alone digits dump_commands dump_text escaped_byte event_text first_passed first_reaching has_term is_word_byte kind_of lineage links ln_of look destination next_path maybe_path of_two_paths one_path passed_limit path_and_query path_of quoted reaches read_on read_query script text_of word_of words write_of kind
returns-clause-second c = refl
