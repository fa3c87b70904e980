-- What a call that reads a query answers is as a line spells it.
use Rattle.std.proofs.Common.{◌≡◌, ℕ, true, List, Ok, Err}
use Rattle.std.specs.Prelude.{Result}
use Rattle.std.specs.Result.{IfOk}
use Rattle.hac_model.specs.Query.Formula.{Formula}
use Rattle.hac_model.specs.Query.QueryReading.{read_query, is_spelled_query}
use Rattle.hac_model.specs.declared.paths.PathWord.{PathWord}
use Rattle.hac_model.proofs.QueryLemmas.{read_spelled}
use Rattle.query_text.specs.Reading.{ReadsQuery}
use Rattle.query_text.specs.declared.faults.QueryFault.{QueryFault}

pub reads_spelled : (bytes : List ℕ) (r : Result (Formula PathWord) QueryFault) → ReadsQuery r (read_query bytes) → IfOk r (λ q. is_spelled_query q ≡ true)
reads_spelled bytes (Ok q) e = read_spelled bytes q e
reads_spelled bytes (Err fault) e = tt
