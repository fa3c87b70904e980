-- Bytes that spell a text without an escape.
use Rattle.std.proofs.Common.{◌≡◌, ℕ, suc, Bool, List, [], ◌∷◌, length, Option, Some, ap, refl, ◌∙◌}
use Rattle.std.proofs.Common.{arith}
use Rattle.std.specs.Prelude.{◌==◌, if◌then◌else◌}
use Rattle.memchr.specs.Find.{Nowhere, Passes}
use Rattle.hac_model.specs.Script.Texts.{escape_of, text_of, with_byte}
use Rattle.sem_mounts.proofs.SplitLemmas.{not_true}

pub plain-text : (bytes : List ℕ) → Nowhere (Passes (λ b. b == 92) bytes) 0 (length bytes) →
    text_of bytes ≡ Some bytes
unfolding text_of
plain-text [] nowhere = refl
plain-text (b ∷ bytes) nowhere =
    ap (λ (escapes : Bool). if escapes then escape_of bytes else with_byte b (text_of bytes))
    (not_true (b == 92) (nowhere 0 (omega arith) (omega arith)))
    ∙ ap (λ (text : Option (List ℕ)). with_byte b text)
    (plain-text bytes (λ k low high. nowhere (suc k) (omega arith) (omega (arith, high))))
