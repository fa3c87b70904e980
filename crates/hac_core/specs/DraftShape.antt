-- What a draft is seen as.
use Rattle.std.specs.Prelude.{refl}
use Rattle.std.specs.Coded.{Coded, code_by, coded×}
use Rattle.hac_model.specs.contracts.spaces.Asks as asks
use Rattle.hac_model.specs.declared.spaces.Asks.{Asks}
use Rattle.hac_core.specs.Drafts.{DraftSeen}
use Rattle.hac_core.specs.contracts.drafts.Known as known
use Rattle.hac_core.specs.declared.drafts.Draft.TheInside.{Inside}
use Rattle.hac_core.specs.declared.drafts.Known.{Known}

abbrev pub draft_code : Coded DraftSeen
draft_code = code_by (Known × Asks) (coded× known.the_row.coded asks.the_row.coded) (λ seen. (seen.known, seen.asks)) (λ parts. record { known = parts.0; asks = parts.1 }) (λ _. refl)

abbrev pub draft_of : Inside → DraftSeen
draft_of draft = record { known = draft.known; asks = draft.asks }
