-- Marks are forgotten on several items at once.
use Rattle.std.specs.Prelude.{◌≡◌, ℕ, Bool}
use Rattle.hac_model.specs.Tree.Mounting.{numbers_without}
use Rattle.link_kinds.specs.Kinds.{Lists}
use Rattle.link_kinds.specs.Seen.{Known, lists_in}

-- the lists without the items that pass a test
abbrev pub lists_without : (ℕ → Bool) → Lists → Lists
lists_without test lists = record {
  transient = numbers_without test lists.transient;
  permanent = numbers_without test lists.permanent;
  prohibited = numbers_without test lists.prohibited;
  lent = numbers_without test lists.lent;
}

-- no item that passes the test is linked anywhere, and each other item is as before
abbrev pub ForgetsSuch : (ℕ → Bool) → Known → Known → Type 0
ForgetsSuch test old new = (dir : ℕ) → lists_in new dir ≡ lists_without test (lists_in old dir)
