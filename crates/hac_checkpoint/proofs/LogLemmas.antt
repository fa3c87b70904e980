-- Logs that end within an area.
use Rattle.std.proofs.Common.{◌≡◌, ℕ, ◌+◌, ◌≤◌, List, [], None, Some, ◌∙◌, ap, arith}
use Rattle.hac_journal.specs.Finding.{Whole, Closed}
use Rattle.hac_journal.specs.Logs.{Log, behind_record, log_at}
use Rattle.hac_journal.proofs.LawLemmas.{closed-is-found, found-is-whole}
use Rattle.hac_journal.proofs.LogLemmas.{log-found, log-has}
use Rattle.hac_checkpoint.specs.Laws.{LogsAreKept}
use Rattle.hac_checkpoint.specs.declared.areas.Area.{Area}
use Rattle.hac_checkpoint.proofs.ApartLemmas.{closed-gates-are-kept, records-are-kept}

-- from a place in the area on, the file has this log
abbrev IsLogOf : Area → List ℕ → ℕ → Log → Type 0
IsLogOf area c at log = area.start ≤ at → log_at at c ≡ log

pub logs-are-kept : LogsAreKept
logs-are-kept area at end c d same low high is =
    log-has (IsLogOf area c) d end
    (λ closed low. log-found end c Closed (closed-is-found end c (closed-gates-are-kept area end c d same low high closed)))
    (λ first behind payload log found ahead rest low.
    let whole = found-is-whole first behind payload d found in
    log-found first c (Whole payload behind) (records-are-kept area first behind payload c d same low (omega (arith, ahead, high)) found)
    ∙ ap (behind_record (record { at = first; payload = payload })) (rest (omega (arith, whole.0, low))))
    at is low
