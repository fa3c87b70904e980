-- Bytes that are added to others.
use Rattle.std.proofs.Common.{◌≡◌, refl, append_assoc}
use Rattle.std.proofs.lemmas.List.{append-nil}
use Rattle.hac_model.specs.Payload.QueryFields.{token_field}
use Rattle.hac_model.specs.Payload.QueryFields as token
use Rattle.hac_model.specs.Payload.States.{term_field}
use Rattle.hac_model.specs.declared.terms.Term.{Term}
use Rattle.hac_model.specs.declared.terms.Term.TheVariants.{Word, Prefix}
use Rattle.hac_model.specs.declared.versions.Version.{Version}

pub ruleset puts = (append_assoc, append-nil)

-- a term alone has the bytes that it has in a query
pub term-token : (version : Version) (term : Term) → (token_field version).text (token.Term term) ≡ term_field.text term
term-token version (Word letters) = refl
term-token version (Prefix letters) = refl
