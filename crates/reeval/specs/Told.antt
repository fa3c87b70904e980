-- Verdicts that are new.
use Rattle.std.specs.Prelude.{ℕ, Bool, ◌==◌, ◌&&◌, filter, if◌then◌else◌, List, [], ◌∷◌}
use Rattle.std.proofs.Math.Bool.{beq}
use Rattle.reeval.specs.declared.verdicts.Change.{Change}
use Rattle.reeval.specs.declared.verdicts.Verdict.{Verdict}

-- both verdicts say the same
abbrev pub are_same : Verdict → Verdict → Bool
are_same verdict other = beq verdict.found other.found && beq verdict.lent other.lent

-- the last of the new verdicts of a directory, or else the one that it had
abbrev pub latest : List Change → ℕ → Verdict → Verdict
latest [] dir verdict = verdict
latest (news ∷ more) dir verdict = latest more dir (if news.dir == dir then news.verdict else verdict)

-- the verdicts on an item once these are known
abbrev pub told : List Change → (ℕ → Verdict) → ℕ → Verdict
told news verdicts dir = latest news dir (verdicts dir)

-- the change is one for the item
abbrev pub is_on : ℕ → Change → Bool
is_on item news = news.item == item

-- the new verdicts on an item, among those on all
abbrev pub news_on : ℕ → List Change → List Change
news_on item news = filter (is_on item) news
