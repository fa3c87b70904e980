-- What an answer says of the outside: there is a fault where it is a failure, and none where it isn't.
use Rattle.std.specs.Prelude.{◌≡◌, ℕ, ◌+◌, ◌-◌, ◌^◌, ◌≤◌, Bool, true, false, min, Result, OnOk, OnErr}

-- the count of faults has risen, or it is at the end of its type
abbrev pub Rose : ℕ → ℕ → Type 0
Rose before now = min (before + 1) (2 ^ 64 - 1) ≤ now

-- the count of faults has not fallen; it rose where the answer is a failure, and is unchanged where it isn't
pub record HasCause {T E : Type 0} (before now : ℕ) (result : Result T E) : Type 0 where
  pub later : before ≤ now
  pub failed : OnErr result (Rose before now)
  pub none : OnOk result (now ≡ before)

-- where the answer reports a fault there was one, and else there was none
abbrev pub ReportsFault : Bool → ℕ → ℕ → Type 0
ReportsFault true before now = (before ≤ now) × Rose before now
ReportsFault false before now = now ≡ before
