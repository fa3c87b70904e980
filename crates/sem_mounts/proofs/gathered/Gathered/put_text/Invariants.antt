use Rattle.std.proofs.Common.{◌≡◌, ◌&&◌, ◌||◌, ℕ, take}
use Rattle.std.specs.Prelude.{nat_eq}
use Rattle.std.specs.List.{list_any}
use Rattle.hac_model.specs.Query.Words.{is_asked}
use Rattle.hac_model.specs.declared.terms.Term.{Term}
use Rattle.sem_mounts.specs.WordLists.{is_listed}
use Rattle.sem_mounts.proofs.gathered.Gathered.put_text.Given as goal

-- the document is listed under the words so far
abbrev pub invariant-loop-word : goal.invariant-loop-word
invariant-loop-word l =
    (n : ℕ) (term : Term) →
    is_listed l.self n term
    ≡ ((list_any (λ word. is_asked term word.now) (take l.word-index l.word-items)
    && nat_eq n l.number) || is_listed l.initial.self n term)
