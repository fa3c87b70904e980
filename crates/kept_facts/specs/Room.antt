-- How much more mounts may keep.
use Rattle.std.specs.Prelude.{◌≡◌, ◌≤◌, ℕ, Bool, ◌+◌, ◌&&◌, nat_le, List, length, sum_by}
use Rattle.hac_model.specs.Tree.Limits.{answers_kept, documents_kept}
use Rattle.hac_model.specs.declared.limits.TheConstants.{ANSWERS_LIMIT, PAIRS_LIMIT}
use Rattle.hac_model.specs.declared.states.Answer.{Answer}
use Rattle.hac_model.specs.declared.states.Entry.{Entry}
use Rattle.kept_facts.specs.declared.room.Room.{Room}

-- how many documents answers name
abbrev pub documents_in : List Answer → ℕ
documents_in answers = sum_by (λ answer. length answer.documents) answers

-- how many numbers there are in lists
abbrev pub numbers_in : List (List ℕ) → ℕ
numbers_in lists = sum_by (λ list. length list) lists

-- how many documents all kept answers name
abbrev pub all_documents : List Entry → ℕ
all_documents entries = sum_by (λ entry. documents_kept entry.body) entries

-- how many answers are kept
abbrev pub all_answers : List Entry → ℕ
all_answers entries = sum_by (λ entry. answers_kept entry.body) entries

-- an answer for each of these lists can be kept
abbrev pub fits : Room → List (List ℕ) → Bool
fits room told = nat_le (length told) room.answers && nat_le (numbers_in told) room.documents

-- what mounts keep leaves this room
pub record IsRoom (entries : List Entry) (room : Room) : Type 0 where
  pub documents : room.documents + all_documents entries ≡ ANSWERS_LIMIT
  pub answers : room.answers + all_answers entries ≡ PAIRS_LIMIT

-- these answers leave so much of the room
pub record IsLess (taken : List Answer) (room less : Room) : Type 0 where
  pub documents : less.documents + documents_in taken ≡ room.documents
  pub answers : less.answers + length taken ≡ room.answers

-- no more than these are kept
pub record AreKept (entries : List Entry) (some : List Answer) : Type 0 where
  pub documents : documents_in some ≤ all_documents entries
  pub answers : length some ≤ all_answers entries

-- once these answers are gone, and there is one for each of these lists, mounts keep no more than they may
abbrev pub are_few_then : List Entry → List Answer → List (List ℕ) → Bool
are_few_then entries gone told =
    nat_le (all_answers entries + length told) (PAIRS_LIMIT + length gone)
    && nat_le (all_documents entries + numbers_in told) (ANSWERS_LIMIT + documents_in gone)
