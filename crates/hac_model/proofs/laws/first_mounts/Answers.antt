use Rattle.std.proofs.Common.{refl}
use Rattle.std.specs.Fmt.{digits}
use Rattle.hac_model.specs.Tree.Limits.{first_passed, passed_limit}
use Rattle.hac_model.specs.Script.LineWords.{quoted}
use Rattle.hac_model.specs.Script.Lines.{find_of, ln_of, alone, maybe_path, of_two_paths, one_path, path_and_query, smount_of, write_of}
use Rattle.hac_model.specs.Tree.Depends.{first_reaching, reaches}
use Rattle.hac_model.specs.Tree.Links.{found_as, kind, links, permanent_count, prohibited_count, transient_count}
use Rattle.hac_model.specs.Tree.ValidTest.{are_sessions, is_acyclic, is_layout, is_valid}
use Rattle.hac_model.specs.Script.PathWords.{word_of}
use Rattle.hac_model.specs.Payload.Payloads.{event_text}
use Rattle.hac_model.specs.Query.QueryReading.{after_run, kind_of, read_on, read_query}
use Rattle.hac_model.specs.Script.{script}
use Rattle.hac_model.specs.Script.Texts.{escaped_byte, text_of}
use Rattle.hac_model.specs.Tree.Looks.{look, destination, next_path}
use Rattle.hac_model.specs.Tree.{lineage, path_of}
use Rattle.hac_model.specs.Script.SpaceNames.{is_space_byte, is_space_name}
use Rattle.hac_model.specs.Query.Words.{has_term, is_lower_word_byte, is_word, is_word_byte, words}
use Rattle.hac_model.proofs.laws.first_mounts.Goals as goal

pub returns-clause-valid : goal.returns-clause-valid
unfolding is_valid is_layout is_acyclic are_sessions reaches first_passed lineage passed_limit is_space_name is_space_byte is_word is_lower_word_byte is_word_byte
returns-clause-valid c = refl

pub returns-clause-run : goal.returns-clause-run
unfolding find_of after_run alone digits escaped_byte event_text first_passed found_as has_term first_reaching is_lower_word_byte is_word reaches is_word_byte kind kind_of lineage links look destination next_path maybe_path of_two_paths one_path passed_limit path_and_query path_of permanent_count prohibited_count quoted read_on read_query script text_of transient_count word_of words write_of
returns-clause-run c = refl

pub returns-clause-attached : goal.returns-clause-attached
unfolding find_of after_run alone digits escaped_byte event_text first_passed found_as has_term first_reaching is_lower_word_byte is_word reaches is_word_byte is_space_name is_space_byte kind kind_of lineage links look destination next_path maybe_path of_two_paths one_path passed_limit path_and_query path_of quoted read_on read_query script smount_of text_of word_of words write_of
returns-clause-attached c = refl

pub returns-clause-refuse : goal.returns-clause-refuse
unfolding find_of ln_of after_run alone digits escaped_byte event_text first_passed found_as has_term first_reaching is_lower_word_byte is_word reaches is_word_byte kind kind_of lineage links look destination next_path maybe_path of_two_paths one_path passed_limit path_and_query path_of quoted read_on read_query script text_of word_of words write_of
returns-clause-refuse c = refl

pub returns-clause-come : goal.returns-clause-come
unfolding first_passed lineage passed_limit is_space_name is_space_byte reaches links is_word is_lower_word_byte is_word_byte
returns-clause-come c = (refl, refl)

pub returns-clause-sync : goal.returns-clause-sync
unfolding first_passed lineage passed_limit is_space_name is_space_byte reaches links is_word is_lower_word_byte is_word_byte
returns-clause-sync c = (refl, refl)

pub returns-clause-go : goal.returns-clause-go
unfolding first_passed lineage passed_limit is_space_name is_space_byte reaches links is_word is_lower_word_byte is_word_byte
returns-clause-go c = (refl, refl)

pub returns-clause-told : goal.returns-clause-told
unfolding first_passed lineage passed_limit is_space_name is_space_byte reaches links is_word is_lower_word_byte is_word_byte
returns-clause-told c = (refl, refl, refl, refl)
