use Rattle.std.proofs.Common.{refl}
use Rattle.std.specs.Fmt.{digits}
use Rattle.hac_model.specs.Tree.Limits.{first_passed, passed_limit}
use Rattle.hac_model.specs.Script.LineWords.{quoted}
use Rattle.hac_model.specs.Script.Lines.{alone, maybe_path, of_two_paths, one_path, path_and_query, write_of}
use Rattle.hac_model.specs.Tree.Depends.{first_reaching, reaches}
use Rattle.hac_model.specs.Tree.Links.{kind, links}
use Rattle.hac_model.specs.Script.PathWords.{word_of}
use Rattle.hac_model.specs.Payload.Payloads.{event_text}
use Rattle.hac_model.specs.Query.QueryReading.{after_run, kind_of, read_on, read_query}
use Rattle.hac_model.specs.Script.{script}
use Rattle.hac_model.specs.Script.Texts.{escaped_byte, text_of}
use Rattle.hac_model.specs.Tree.Looks.{look, destination, next_path}
use Rattle.hac_model.specs.Tree.{lineage, path_of}
use Rattle.hac_model.specs.Query.Words.{has_term, is_word_byte, words}
use Rattle.hac_model.proofs.laws.lent_listings.Goals as goal

pub returns : goal.returns
unfolding after_run alone digits escaped_byte event_text first_passed first_reaching has_term is_word_byte kind_of lineage links look destination next_path maybe_path of_two_paths one_path passed_limit path_and_query path_of quoted reaches read_on read_query script text_of word_of words write_of kind
returns c = refl
