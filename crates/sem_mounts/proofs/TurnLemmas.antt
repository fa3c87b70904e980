-- What one line does to the documents before it.
use Rattle.std.proofs.Common.{◌≡◌, ℕ, ◌+◌, ◌-◌, ◌<◌, ◌≤◌, true, false, List, [], ◌∷◌, length, None}
use Rattle.std.proofs.Common.{Some, Ok, Err, refl, rules, nat_lt}
use Rattle.std.specs.Option.{ok_or}
use Rattle.bstr.specs.Text.{lines_of}
use Rattle.hac_model.specs.Run.Answers.{◌>>=◌}
use Rattle.hac_model.specs.Spaces.Catalogue.{Document, catalogue, content, with_line, with_lines}
use Rattle.sem_mounts.proofs.LineLemmas.{lines_of-lines}

-- at the start there are no documents, and all lines are left
pub with_lines-start : (bytes : List ℕ) → catalogue bytes ≡ with_lines 1 67108864 (lines_of bytes)
    []
unfolding catalogue
with_lines-start bytes = rw (lines_of-lines bytes) refl

-- a line that has no room is bad
pub with_lines-long : (n room : ℕ) (line : List ℕ) (more : List (List ℕ)) (documents : List
    Document) → room < length line → with_lines n room (line ∷ more) documents ≡ Err n
unfolding with_lines
with_lines-long n room line more documents long =
    let is : nat_lt room (length line) ≡ true = search (rules, long) in rw is refl

-- a line that has room leads on, or it is bad
with_lines-step : (n room : ℕ) (line : List ℕ) (more : List (List ℕ)) (documents : List Document) →
    length line ≤ room →
    with_lines n room (line ∷ more) documents ≡ (ok_or (with_line documents (content line)) n >>=
    with_lines (n + 1) (room - length line) more)
unfolding with_lines
with_lines-step n room line more documents fits =
    let is : nat_lt room (length line) ≡ false = search (rules, fits) in rw is refl

pub with_lines-bad : (n room : ℕ) (line : List ℕ) (more : List (List ℕ)) (documents : List Document)
    → length line ≤ room →
    with_line documents (content line) ≡ None → with_lines n room (line ∷ more) documents ≡ Err n
with_lines-bad n room line more documents fits bad = rw (
  with_lines-step n room line more documents
      fits,
  bad,
) refl

pub with_lines-next : (n room : ℕ) (line : List ℕ) (more : List (List ℕ)) (documents next : List
    Document) → length line ≤ room →
    with_line documents (content line) ≡ Some next → with_lines n room (line ∷ more) documents ≡
    with_lines (n + 1) (room - length line) more next
with_lines-next n room line more documents next fits good = rw (
  with_lines-step n room line more
      documents fits,
  good,
) refl

-- where no line is left, the documents are all
pub with_lines-end : (n room : ℕ) (documents : List Document) →
    with_lines n room [] documents ≡ Ok documents
unfolding with_lines
with_lines-end n room documents = refl
