-- The words of targets.
use Rattle.std.proofs.Common.{◌≡◌, ℕ, true, List, ap, sym, ◌∙◌}
use Rattle.std.specs.Prelude.{Some, Ok, Err}
use Rattle.std.specs.Result.{result_ok}
use Rattle.hac_model.specs.Script.PathWords.{is_target, untested_word, word_of}
use Rattle.hac_model.specs.declared.paths.PathWord.{PathWord}
use Rattle.hac_model.specs.declared.replies.Refusal.{Refusal}
use Rattle.hac_model.proofs.FollowLemmas.{target-is_word}

-- what is read of a target is its word
pub target-read : (target bytes : List ℕ) (word : PathWord) → is_target target ≡ true → bytes ≡ target → word_of bytes ≡ Ok word → word ≡ untested_word target
target-read target bytes word fits same read =
    let both : Some word ≡ Some (untested_word target) = sym (ap result_ok (ap word_of (sym same) ∙ read)) ∙ target-is_word target fits in
    cc

-- and it is read
pub target-unrefused : (target bytes : List ℕ) (refusal : Refusal) → is_target target ≡ true → bytes ≡ target → word_of bytes ≡ Err refusal → ⊥
target-unrefused target bytes refusal fits same refused =
    let never = sym (ap result_ok (ap word_of (sym same) ∙ refused)) ∙ target-is_word target fits in
    cc
