-- Questions to spaces, one behind the other.
use Rattle.std.proofs.Common.{◌≡◌, ℕ, ◌+◌, ◌<◌, Bool, true, false, cond, List, [], ◌∷◌, ◌++◌}
use Rattle.std.proofs.Common.{length, map, take, drop, get_or, append-nil, arith, None, Some, Ok}
use Rattle.std.proofs.Common.{Err, refl, sym, ap, subst, ◌∙◌}
use Rattle.std.specs.Prelude.{◌||◌, IfSome, is_some, not, Option, Result}
use Rattle.std.specs.List.{find, list_any, take_while}
use Rattle.std.specs.Map.{lookup}
use Rattle.std.specs.Option.{option_and_then, option_map, option_to_list, unwrap_or}
use Rattle.std.specs.Str.{bytes_eq}
use Rattle.std.specs.List.Sorted.{IsStrictlySortedBy}
use Rattle.std.proofs.lemmas.List.{map-append, map_more, take-append-drop}
use Rattle.std.proofs.lemmas.List.Sums.{take_while-cons}
use Rattle.std.proofs.lemmas.Map.Made.{is_some-lookup}
use Rattle.hac_model.specs.declared.spaces.Asks.{Asks}
use Rattle.hac_model.specs.declared.spaces.Search.{Search}
use Rattle.hac_model.specs.Spaces.Answering.{AreRisingNames, asked_spaces, documents_in}
use Rattle.hac_model.specs.Spaces.Catalogue.{Document}
use Rattle.sem_mounts.specs.Gathering.{AreGathered, Ends, first_absent}
use Rattle.sem_mounts.specs.Gathering.{is_space_fault}
use Rattle.sem_mounts.specs.Seen.{Contents, CountsFault, IsSaid, SpacesSeen, is_attached}
use Rattle.sem_mounts.specs.declared.gathering.GatherFault.{GatherFault}
use Rattle.sem_mounts.specs.declared.gathering.GatherFault.TheVariants as gather
use Rattle.std.proofs.lemmas.Bool.{or_right}

-- a map of one value more
one-more : {X Y : Type 0} (f : X → Y) (xs : List X) (i : ℕ) (x : X) → i < length xs →
    x ≡ get_or xs i x → map f (take (i + 1) xs) ≡ map f (take i xs) ++ f x ∷ []
one-more {X} f xs i x below is = map_more f xs i x below ∙ ap (λ (y : X). map f (take i xs) ++ f y ∷
    []) (sym is)

-- where all in front pass, the first that doesn't is behind them
find-behind : (p : List ℕ → Bool) (front back : List (List ℕ)) →
    find (λ x. not (p x)) front ≡ None → find (λ x. not (p x)) (front ++ back) ≡ find (λ x. not (p
    x)) back
find-behind p [] back none = refl
find-behind p (x ∷ front) back none = here (p x) (find-behind p front back) none where
  here : (passes : Bool) → (find (λ x. not (p x)) front ≡ None →
      find (λ x. not (p x)) (front ++ back) ≡ find (λ x. not (p x)) back) →
      cond (not passes) (Some x) (find (λ x. not (p x)) front) ≡ None →
      cond (not passes) (Some x) (find (λ x. not (p x)) (front ++ back)) ≡ find (λ x. not (p x))
      back
  here true later none = later none
  here false later none = absurd cc

-- what is found in front is found first
find-front : (p : List ℕ → Bool) (front back : List (List ℕ)) (found : List ℕ) →
    find p front ≡ Some found → find p (front ++ back) ≡ Some found
find-front p [] back found is = absurd cc
find-front p (x ∷ front) back found is = here (p x) (find-front p front back found) is where
  here : (passes : Bool) → (find p front ≡ Some found → find p (front ++ back) ≡ Some found) →
      cond passes (Some x) (find p front) ≡ Some found → cond passes (Some x) (find p (front ++
      back)) ≡ Some found
  here true later is = is
  here false later is = later is

-- one of two tests
either : (b : Bool) (c d : Bool) → (c ≡ true → d ≡ true) → (b || c) ≡ true → (b || d) ≡ true
either true c d leads is = refl
either false c d leads is = leads is

-- one is among those that pass at the front, if it is so among fewer
among-front : (q p : List ℕ → Bool) (front back : List (List ℕ)) →
    list_any q (take_while p front) ≡ true → list_any q (take_while p (front ++ back)) ≡ true
among-front q p [] back is = absurd cc
among-front q p (x ∷ front) back is =
    ap (list_any q) (take_while-cons p x (front ++ back)) ∙ here (p x) (among-front q p front back)
    (sym (ap (list_any q) (take_while-cons p x front)) ∙ is) where
      here : (passes : Bool) → (list_any q (take_while p front) ≡ true →
          list_any q (take_while p (front ++ back)) ≡ true) →
          list_any q (cond passes (x ∷ take_while p front) []) ≡ true →
          list_any q (cond passes (x ∷ take_while p (front ++ back)) []) ≡ true
      here true later is = either (q x) _ _ later is
      here false later is = absurd cc

-- and so it is where all in front pass
among-behind : (q p : List ℕ → Bool) (front back : List (List ℕ)) →
    find (λ x. not (p x)) front ≡ None → list_any q (take_while p back) ≡ true →
    list_any q (take_while p (front ++ back)) ≡ true
among-behind q p [] back none is = is
among-behind q p (x ∷ front) back none is =
    ap (list_any q) (take_while-cons p x (front ++ back)) ∙ here (p x) (λ (all : find (λ x. not (p
    x)) front ≡ None). among-behind q p front back all is) none where
      here : (passes : Bool) → (find (λ x. not (p x)) front ≡ None →
          list_any q (take_while p (front ++ back)) ≡ true) →
          cond (not passes) (Some x) (find (λ x. not (p x)) front) ≡ None →
          list_any q (cond passes (x ∷ take_while p (front ++ back)) []) ≡ true
      here true later none = or_right (q x) _ (later none)
      here false later none = absurd cc

-- how questions end, where all before them were answered
ends-behind : {A : Type 0} (old now : SpacesSeen) (front back : List (List ℕ)) (result : Result A
    GatherFault) → now.attached ≡ old.attached →
    first_absent old front ≡ None → Ends now back result → Ends old (front ++ back) result
ends-behind old now front back (Ok x) same none ends =
    find-behind (is_attached old) front back none
    ∙ subst (λ (names : List (List ℕ)). find (λ x. not (list_any (bytes_eq x) names)) back ≡ None)
    same ends
ends-behind old now front back (Err (gather.NoSpace name)) same none ends =
    find-behind (is_attached old) front back none
    ∙ subst (λ (names : List (List ℕ)). find (λ x. not (list_any (bytes_eq x) names)) back ≡ Some
    name) same ends
ends-behind old now front back (Err (gather.SpaceFault name)) same none ends =
    among-behind (bytes_eq name) (is_attached old) front back none
    (subst (λ (names : List (List ℕ)). list_any (bytes_eq name) (take_while (λ x. list_any (bytes_eq
    x) names) back) ≡ true) same ends)
ends-behind old now front back (Err gather.Memory) same none ends = tt

-- questions that were answered, and then others
behind : {A B : Type 0} (old now new : SpacesSeen) (front back : List (List ℕ)) (answers : A)
    (result : Result B GatherFault) →
    AreGathered old now front (Ok answers) → AreGathered now new back result →
    AreGathered old new (front ++ back) result
behind old now new front back answers result first then = record {
  attached = then.attached ∙ first.attached;
  contents = then.contents ∙ first.contents;
  cause = subst (λ (n : ℕ). CountsFault (is_space_fault result) n new.faults) first.cause.0
      then.cause;
  ends = ends-behind old now front back result first.attached first.ends then.ends;
}

-- questions that stopped, and others that weren't asked
stopped : {A B : Type 0} (old new : SpacesSeen) (front back : List (List ℕ)) (fault : GatherFault) →
    AreGathered {A = A} old new front (Err fault) → AreGathered {A =
    B} old new (front ++ back) (Err fault)
stopped old new front back (gather.NoSpace name) at = record {
  attached = at.attached;
  contents = at.contents;
  cause = at.cause;
  ends = find-front (λ x. not (is_attached old x)) front back name at.ends;
}
stopped old new front back (gather.SpaceFault name) at = record {
  attached = at.attached;
  contents = at.contents;
  cause = at.cause;
  ends = among-front (bytes_eq name) (is_attached old) front back at.ends;
}
stopped old new front back gather.Memory at = record {
  attached = at.attached;
  contents =
      at.contents;
  cause = at.cause;
  ends = tt;
}

-- what the documents say of a space that is attached, if they are told
pub told : {X : Type 0} (spaces : SpacesSeen) (name : List ℕ) (says : List Document →
    X) (answer : X) →
    IfSome spaces.contents (λ contents. spaces.attached ≡ map (λ space. space.0) contents.spaces) →
    false ≡ not (is_attached spaces name) →
    IsSaid spaces name says answer → IfSome spaces.contents (λ contents. answer ≡ says (documents_in
    contents.spaces name))
told {X} spaces name says answer law attached said = by spaces.contents law said where
  some : (documents : Option (List Document)) → is_some documents ≡ true →
      IfSome documents (λ documents. answer ≡ says documents) →
      answer ≡ says (unwrap_or documents [])
  some None is said = absurd cc
  some (Some documents) is said = said

  yes : (b : Bool) → false ≡ not b → b ≡ true
  yes true is = refl
  yes false is = absurd cc

  by : (contents : Option Contents) → IfSome contents (λ contents. spaces.attached ≡ map (λ space.
      space.0) contents.spaces) →
      IfSome (option_and_then (λ contents. lookup (bytes_eq name) contents.spaces) contents) (λ
      documents. answer ≡ says documents) →
      IfSome contents (λ contents. answer ≡ says (documents_in contents.spaces name))
  by None law said = tt
  by (Some contents) law said =
      some (lookup (bytes_eq name) contents.spaces)
      (is_some-lookup (bytes_eq name) contents.spaces ∙ ap (list_any (bytes_eq name)) (sym law)
      ∙ yes (is_attached spaces name) attached) said

-- other answers, or the same fault
again : {A B : Type 0} (old new : SpacesSeen) (asked : List (List ℕ)) (answer : A) (other : B) →
    AreGathered old new asked (Ok answer) → AreGathered old new asked (Ok other)
again old new asked answer other at = record {
  attached = at.attached;
  contents =
      at.contents;
  cause = at.cause;
  ends = at.ends;
}

same-fault : {A B : Type 0} (old new : SpacesSeen) (asked : List (List ℕ)) (fault : GatherFault) →
    AreGathered {A = A} old new asked (Err fault) → AreGathered {A = B} old new asked (Err fault)
same-fault {A} {B} old new asked fault at = subst (λ (names : List (List ℕ)). AreGathered {A =
    B} old new names (Err fault)) (append-nil asked) (stopped old new asked [] fault at)

-- no names rise
pub none-rise : (found : List (List ℕ)) → found ≡ [] → AreRisingNames found
unfolding IsStrictlySortedBy
none-rise found is = rw is (record {
  names = λ k d below. absurd (omega (arith, below));
  rising =
      tt;
})

-- the spaces of some questions
abbrev spaces_of : List Search → List (List ℕ)
spaces_of questions = map (λ question. question.space) questions

-- one more question was answered
pub next-asked : {A : Type 0} (old now new : SpacesSeen) (questions : List Search) (i : ℕ) (question
    : Search) (answer : A) →
    i < length questions → question ≡ get_or questions i question → AreGathered {A =
    Unit {0}} old now (spaces_of (take i questions)) (Ok tt) →
    AreGathered now new (question.space ∷ []) (Ok answer) → AreGathered {A =
    Unit {0}} old new (spaces_of (take (i + 1) questions)) (Ok tt)
next-asked old now new questions i question answer below is so_far one =
    subst (λ (names : List (List ℕ)). AreGathered {A = Unit {0}} old new names (Ok tt)) (sym
    (one-more (λ (q : Search). q.space) questions i question below is))
    (again old new _ answer tt (behind old now new (spaces_of (take i questions)) (question.space ∷
    []) tt (Ok answer) so_far one))

-- the next question stopped all
pub next-stops : {A B : Type 0} (old now new : SpacesSeen) (questions : List Search) (i : ℕ)
    (question : Search) (fault : GatherFault) →
    i < length questions → question ≡ get_or questions i question → AreGathered {A =
    Unit {0}} old now (spaces_of (take i questions)) (Ok tt) →
    AreGathered {A = A} now new (question.space ∷ []) (Err fault) → AreGathered {A =
    B} old new (spaces_of questions) (Err fault)
next-stops {A} {B} old now new questions i question fault below is so_far one =
    subst (λ (names : List (List ℕ)). AreGathered {A = B} old new names (Err fault)) whole
    (stopped old new _ (spaces_of (drop (i + 1) questions)) fault (behind old now new (spaces_of
    (take i questions)) (question.space ∷ []) tt (Err fault) so_far one)) where
      whole : (spaces_of (take i questions) ++ question.space ∷ []) ++ spaces_of (drop (i + 1)
          questions) ≡ spaces_of questions
      whole =
          ap (λ (names : List (List ℕ)). names ++ spaces_of (drop (i + 1) questions)) (sym (one-more
          (λ (q : Search). q.space) questions i question below is))
          ∙ sym (map-append (λ (q : Search). q.space) (take (i + 1) questions) (drop (i + 1)
          questions)) ∙ ap spaces_of (take-append-drop (i + 1) questions)

-- one more answer is what the documents say
pub next-said : {Y : Type 0} (old now : Option Contents) (says : Contents → Search →
    Y) (questions : List Search) (i : ℕ) (question : Search) (said more : List Y) (answer : Y) →
    i < length questions → question ≡ get_or questions i question → now ≡ old →
    more ≡ said ++ answer ∷ [] →
    IfSome old (λ contents. said ≡ map (says contents) (take i questions)) →
    IfSome now (λ contents. answer ≡ says contents question) →
    IfSome old (λ contents. more ≡ map (says contents) (take (i + 1) questions))
next-said None now says questions i question said more answer below is same grown so_far one = tt
next-said {Y} (Some contents) now says questions i question said more answer below is same grown
    so_far one =
    let here : answer ≡ says contents question = subst (λ (o : Option Contents). IfSome o (λ
    contents. answer ≡ says contents question)) same one in
    grown ∙ ap (λ (ys : List Y). ys ++ answer ∷ []) so_far ∙ ap (λ (y : Y). map (says contents)
    (take i questions) ++ y ∷ []) here
    ∙ sym (one-more (says contents) questions i question below is)

-- the spaces of the texts that are asked for
abbrev fetched_from : Asks → List (List ℕ)
fetched_from asks = option_to_list (option_map (λ fetch. fetch.space) asks.fetch)

-- the questions of a command end at the list, at a term or at the text, or all are answered
pub stops-listing : {A B : Type 0} (old new : SpacesSeen) (asks : Asks) (fault : GatherFault) →
    AreGathered {A = A} old new (option_to_list asks.list) (Err fault) → AreGathered {A =
    B} old new (asked_spaces asks) (Err fault)
stops-listing old new asks fault at = stopped old new (option_to_list asks.list) (spaces_of
    asks.searches ++ fetched_from asks) fault at

pub stops-searching : {A B C : Type 0} (old now new : SpacesSeen) (asks : Asks) (list : A) (fault :
    GatherFault) →
    AreGathered old now (option_to_list asks.list) (Ok list) → AreGathered {A =
    B} now new (spaces_of asks.searches) (Err fault) → AreGathered {A =
    C} old new (asked_spaces asks) (Err fault)
stops-searching old now new asks list fault first at =
    behind old now new (option_to_list asks.list) (spaces_of asks.searches ++ fetched_from asks)
    list (Err fault) first (stopped now new (spaces_of asks.searches) (fetched_from asks) fault
    at)

pub stops-fetching : {A B C D : Type 0} (old now later new : SpacesSeen) (asks : Asks) (list : A)
    (found : B) (fault : GatherFault) →
    AreGathered old now (option_to_list asks.list) (Ok list) →
    AreGathered now later (spaces_of asks.searches) (Ok found) → AreGathered {A =
    C} later new (fetched_from asks) (Err fault) →
    AreGathered {A = D} old new (asked_spaces asks) (Err fault)
stops-fetching old now later new asks list found fault first then at =
    behind old now new (option_to_list asks.list) (spaces_of asks.searches ++ fetched_from asks)
    list (Err fault) first
    (behind now later new (spaces_of asks.searches) (fetched_from asks) found (Err fault) then
    (same-fault later new (fetched_from asks) fault at))

pub all-answered : {A B C D : Type 0} (old now later new : SpacesSeen) (asks : Asks) (list : A)
    (found : B) (fetched : C) (answers : D) →
    AreGathered old now (option_to_list asks.list) (Ok list) →
    AreGathered now later (spaces_of asks.searches) (Ok found) →
    AreGathered later new (fetched_from asks) (Ok fetched) →
    AreGathered old new (asked_spaces asks) (Ok answers)
all-answered old now later new asks list found fetched answers first then last =
    behind old now new (option_to_list asks.list) (spaces_of asks.searches ++ fetched_from asks)
    list (Ok answers) first
    (behind now later new (spaces_of asks.searches) (fetched_from asks) found (Ok answers) then
    (again later new (fetched_from asks) fetched answers last))
