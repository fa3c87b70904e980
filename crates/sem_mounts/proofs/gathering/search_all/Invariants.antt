use Rattle.std.proofs.Common.{◌≡◌, length, map, take, Ok}
use Rattle.std.specs.Prelude.{IfSome}
use Rattle.hac_model.specs.Spaces.Answering.{documents_in, names_with}
use Rattle.sem_mounts.specs.Gathering.{AreGathered}
use Rattle.sem_mounts.proofs.gathering.search_all.Given as goal

-- the questions so far were answered, each by what the documents say
abbrev pub invariant-loop-question : goal.invariant-loop-question
invariant-loop-question g l =
    let seen = g.P.Spaces.seen in
    record {
      asked : AreGathered {A = Unit {0}} (seen l.initial.spaces) (seen l.spaces) (map (λ question.
          question.space) (take l.question-index l.searches)) (Ok tt);
      count : length l.found.items ≡ l.question-index;
      said : IfSome (seen l.initial.spaces).contents (λ contents.
          l.found.items ≡ map (λ question. names_with (documents_in contents.spaces question.space)
          question.term) (take l.question-index l.searches));
    }
