-- A draft is decided on as the spaces answer to its questions.
use Rattle.std.proofs.Common.{◌≡◌, ℕ, Bool, List, [], ◌∷◌, map, refl, ap, ap₂, sym, subst, ◌∙◌, arith, rules}
use Rattle.std.specs.Prelude.{◌+◌, ◌||◌, if◌then◌else◌, not, take, is_none, IsTrue, IfOk, Option, None, Some, Result, Ok, Err}
use Rattle.std.specs.List.{find, list_any, prefix_len, take_while}
use Rattle.std.specs.Option.{IfSome}
use Rattle.std.specs.Str.{bytes_eq}
use Rattle.hac_core.specs.Drafts.{DraftSeen, IsDraftFor, IsDraftOf}
use Rattle.hac_model.specs.Run.Answers.{Denies, Refuses}
use Rattle.hac_model.specs.Run.Resolving.{resolve}
use Rattle.hac_model.specs.Script.Lines.{Item}
use Rattle.hac_model.specs.declared.commands.Line.{Line}
use Rattle.hac_model.specs.declared.replies.Deny.{Deny}
use Rattle.hac_model.specs.Run.Asks.{asks}
use Rattle.hac_model.specs.Run.Play.{MayFail, Setting, askable, command_turn, given_spaces, item_turn, nothing_given, refused_turn}
use Rattle.hac_model.specs.Run.Refusals.{early_refusal}
use Rattle.hac_model.specs.Spaces.Answering.{AreAnswersTo, Attached, answers_of, asked_spaces}
use Rattle.hac_model.specs.Spaces.Answering as model
use Rattle.hac_model.specs.Tree.Mounting.{is_among}
use Rattle.hac_model.specs.declared.memory.Memory.{Memory}
use Rattle.hac_model.specs.declared.replies.Deny.TheVariants as deny
use Rattle.hac_model.specs.declared.replies.Refusal.{Refusal}
use Rattle.hac_model.specs.declared.replies.Refusal.TheVariants.{NoSpace, SpaceFault}
use Rattle.hac_model.specs.declared.resolved.Resolved.{Resolved}
use Rattle.hac_model.specs.declared.spaces.Answers.{Answers}
use Rattle.hac_model.specs.declared.spaces.Asks.{Asks}
use Rattle.hac_model.specs.declared.states.State.{State}
use Rattle.sem_mounts.specs.Gathering.{AreAnswers, AreGathered, first_absent}
use Rattle.sem_mounts.specs.Seen.{Contents, SpacesSeen, is_attached}
use Rattle.sem_mounts.specs.declared.gathering.GatherFault.{GatherFault}
use Rattle.sem_mounts.specs.declared.gathering.GatherFault.TheVariants as gather
use Rattle.hac_top.specs.Asking.{HaveAsked, given_by}
use Rattle.hac_top.specs.Deciding.{CanHappen, Decides, DecidesDraft, DecidesItem, IsDenial, denial, met_turn}
use Rattle.hac_top.specs.declared.deciding.Decision.{Decision}
use Rattle.hac_top.proofs.DecidingLemmas.{absent-draft, decides-alike, decides-denied, denied-happens, early-turn}

-- answers as spaces give them
pub answers-to : (old : SpacesSeen) (asks : Asks) (answers : Answers) → AreAnswers old asks answers → AreAnswersTo asks answers
answers-to old asks answers are = record { rising = are.rising; unlisted = are.unlisted; found = are.found }

-- tests that agree find and take the same
find-same : (p q : List ℕ → Bool) → ((x : List ℕ) → p x ≡ q x) → (xs : List (List ℕ)) → find p xs ≡ find q xs
find-same p q same [] = refl
find-same p q same (x ∷ xs) = ap₂ (λ (b : Bool) (rest : Option (List ℕ)). if b then Some x else rest) (same x) (find-same p q same xs)

prefix-same : (p q : List ℕ → Bool) → ((x : List ℕ) → p x ≡ q x) → (xs : List (List ℕ)) → prefix_len p xs ≡ prefix_len q xs
prefix-same p q same [] = refl
prefix-same p q same (x ∷ xs) = ap₂ (λ (b : Bool) (n : ℕ). if b then 1 + n else 0) (same x) (prefix-same p q same xs)

take-same : (p q : List ℕ → Bool) → ((x : List ℕ) → p x ≡ q x) → (xs : List (List ℕ)) → take_while p xs ≡ take_while q xs
take-same p q same xs = ap (λ (n : ℕ). take n xs) (prefix-same p q same xs)

-- a space is attached where its documents are told
among-map : (name : List ℕ) (spaces : List Attached) → list_any (bytes_eq name) (map (λ space. space.0) spaces) ≡ model.is_attached spaces name
among-map name [] = refl
among-map name (space ∷ spaces) = ap (λ (b : Bool). bytes_eq name space.0 || b) (among-map name spaces)

attached-same : (old : SpacesSeen) (contents : Contents) → old.attached ≡ map (λ space. space.0) contents.spaces → (name : List ℕ) → is_attached old name ≡ model.is_attached contents.spaces name
attached-same old contents told name = ap (list_any (bytes_eq name)) told ∙ among-map name contents.spaces

absent-same : (old : SpacesSeen) (contents : Contents) → old.attached ≡ map (λ space. space.0) contents.spaces → (asked : List (List ℕ)) → first_absent old asked ≡ model.first_absent contents.spaces asked
absent-same old contents told asked = find-same (λ name. not (is_attached old name)) (λ name. not (model.is_attached contents.spaces name)) (λ name. ap not (attached-same old contents told name)) asked

-- what spaces tell is that those are attached whose documents are told
abbrev pub AreTold : SpacesSeen → Type 0
AreTold old = IfSome old.contents (λ contents. old.attached ≡ map (λ space. space.0) contents.spaces)

-- each question has its answer
pub gathered-decides : (old new : SpacesSeen) (s : State) (draft : DraftSeen) (answers : Answers) (result : Result Decision Memory) → AreTold old → AreGathered old new (asked_spaces draft.asks) (Ok answers) → AreAnswers old draft.asks answers →
    IfOk result (CanHappen s) →
    ((command : Resolved) → IsDraftFor s command draft → (attached : List Attached) → answers ≡ answers_of attached draft.asks → model.first_absent attached (asked_spaces draft.asks) ≡ None →
    IfOk result (Decides s (λ setting. command_turn (given_spaces attached) setting (Ok command)))) →
    DecidesDraft old new s draft result
gathered-decides old new s draft answers result told gathered are happens leads =
    record {
      fault = None;
      asked = record { stay = record { attached = gathered.attached; contents = gathered.contents; later = omega (arith, gathered.cause.0) }; count = gathered.cause.0 };
      happen = happens;
      told = λ command for. by command for old.contents told are.said;
    }
  where
    by : (command : Resolved) → IsDraftFor s command draft → (o : Option Contents) → IfSome o (λ contents. old.attached ≡ map (λ space. space.0) contents.spaces) → IfSome o (λ contents. answers ≡ answers_of contents.spaces draft.asks) →
        IfSome o (λ contents. IfSome None (λ space. IsTrue (is_among (askable (given_spaces contents.spaces) s (Ok command)) space))
        × IfOk result (Decides s (λ setting. met_turn contents.spaces None setting command)))
    by command for None told said = search rules
    by command for (Some contents) told said = (search rules, leads command for contents.spaces said (sym (absent-same old contents told (asked_spaces draft.asks)) ∙ gathered.ends))

-- the space that failed is one that is asked
asks-it : (attached : List Attached) (s : State) (command : Resolved) (draft : DraftSeen) (space : List ℕ) → IsDraftFor s command draft → IsTrue (list_any (bytes_eq space) (take_while (model.is_attached attached) (asked_spaces draft.asks))) →
    IsTrue (is_among (askable (given_spaces attached) s (Ok command)) space)
asks-it attached s command draft space for among =
    subst (λ (free : Bool). IsTrue (is_among (if free then take_while (model.is_attached attached) (asked_spaces (asks s command)) else []) space)) (sym (ap is_none for.known.cause))
    (subst (λ (a : Asks). IsTrue (list_any (bytes_eq space) (take_while (model.is_attached attached) (asked_spaces a)))) for.asks among)

-- one has none
pub fault-decides : (old new : SpacesSeen) (s : State) (draft : DraftSeen) (fault : GatherFault) (result : Result Decision Memory) → AreTold old → AreGathered {A = Answers} old new (asked_spaces draft.asks) (Err fault) → IsDenial (denial fault) result →
    DecidesDraft old new s draft result
fault-decides old new s draft (gather.NoSpace name) result told gathered denies =
    record {
      fault = None;
      asked = record { stay = record { attached = gathered.attached; contents = gathered.contents; later = omega (arith, gathered.cause.0) }; count = gathered.cause.0 };
      happen = denied-happens (denial (gather.NoSpace name)) result s denies;
      told = λ command for. by command for old.contents told;
    }
  where
    by : (command : Resolved) → IsDraftFor s command draft → (o : Option Contents) → IfSome o (λ contents. old.attached ≡ map (λ space. space.0) contents.spaces) →
        IfSome o (λ contents. IfSome None (λ space. IsTrue (is_among (askable (given_spaces contents.spaces) s (Ok command)) space))
        × IfOk result (Decides s (λ setting. met_turn contents.spaces None setting command)))
    by command for None told = search rules
    by command for (Some contents) told = (
      search rules,
      decides-denied (denial (gather.NoSpace name)) result s (λ setting. met_turn contents.spaces None setting command) denies
          (λ refusal is setting same.
          let why : NoSpace name ≡ refusal = cc in
          absent-draft contents.spaces setting s command draft name same for (sym (absent-same old contents told (asked_spaces draft.asks)) ∙ gathered.ends) ∙ ap (refused_turn nothing_given setting) why),
    )
fault-decides old new s draft (gather.SpaceFault name) result told gathered denies =
    record {
      fault = Some name;
      asked = record { stay = record { attached = gathered.attached; contents = gathered.contents; later = gathered.cause.0.0 }; count = gathered.cause.1 };
      happen = denied-happens (denial (gather.SpaceFault name)) result s denies;
      told = λ command for. by command for old.contents told;
    }
  where
    by : (command : Resolved) → IsDraftFor s command draft → (o : Option Contents) → IfSome o (λ contents. old.attached ≡ map (λ space. space.0) contents.spaces) →
        IfSome o (λ contents. IfSome (Some name) (λ space. IsTrue (is_among (askable (given_spaces contents.spaces) s (Ok command)) space))
        × IfOk result (Decides s (λ setting. met_turn contents.spaces (Some name) setting command)))
    by command for None told = search rules
    by command for (Some contents) told = (
      asks-it contents.spaces s command draft name for
          (subst (λ (names : List (List ℕ)). IsTrue (list_any (bytes_eq name) names)) (take-same (is_attached old) (model.is_attached contents.spaces) (attached-same old contents told) (asked_spaces draft.asks)) gathered.ends),
      decides-denied (denial (gather.SpaceFault name)) result s (λ setting. met_turn contents.spaces (Some name) setting command) denies
          (λ refusal is setting same. let why : SpaceFault name ≡ refusal = cc in ap (refused_turn nothing_given setting) why),
    )
fault-decides old new s draft gather.Memory result told gathered denies =
    record {
      fault = None;
      asked = record { stay = record { attached = gathered.attached; contents = gathered.contents; later = omega (arith, gathered.cause.0) }; count = gathered.cause.0 };
      happen = denied-happens (denial gather.Memory) result s denies;
      told = λ command for. by command old.contents;
    }
  where
    by : (command : Resolved) → (o : Option Contents) →
        IfSome o (λ contents. IfSome None (λ space. IsTrue (is_among (askable (given_spaces contents.spaces) s (Ok command)) space))
        × IfOk result (Decides s (λ setting. met_turn contents.spaces None setting command)))
    by command None = search rules
    by command (Some contents) = (search rules, decides-denied (denial gather.Memory) result s (λ setting. met_turn contents.spaces None setting command) denies (λ refusal is. absurd cc))

-- Lines.

none-asked : (spaces : SpacesSeen) → HaveAsked spaces spaces (None ∷ [])
none-asked spaces = record { stay = record { attached = refl; contents = refl; later = omega arith }; count = refl }

-- the turn of a command doesn't depend on what others meet
command-met : (spaces : List Attached) (met : List (Option (List ℕ))) (setting : Setting) (r : Result Resolved Refusal) → command_turn (record (given_spaces spaces) { faults = met }) setting r ≡ command_turn (given_spaces spaces) setting r
command-met spaces met setting (Err refusal) = refl
command-met spaces met setting (Ok command) = refl

-- what a line met that spells the command of a draft
pub draft-item : (old new : SpacesSeen) (s : State) (line : Line) (draft : DraftSeen) (result : Result Decision Memory) → IsDraftOf s line draft → DecidesDraft old new s draft result → DecidesItem old new s (Ok line) result
draft-item old new s line draft result (command, resolved, for) decides =
    record { fault = decides.fault; asked = decides.asked; happen = decides.happen; told = by old.contents decides.fault (decides.told command for) }
  where
    at-once : (contents : Contents) (fault : Option (List ℕ)) → IfSome fault (λ space. IsTrue (is_among (askable (given_spaces contents.spaces) s (Ok command)) space)) → MayFail (given_by contents (fault ∷ []) 0) s (Ok line) fault
    at-once contents None may = tt
    at-once contents (Some space) may = subst (λ (r : Result Resolved Refusal). IsTrue (is_among (askable (given_by contents (Some space ∷ []) 0) s r) space)) (sym resolved) may

    turns : (contents : Contents) (fault : Option (List ℕ)) (setting : Setting) → setting.state ≡ s → met_turn contents.spaces fault setting command ≡ item_turn (given_by contents (fault ∷ []) 0) setting (Ok line)
    turns contents (Some space) setting same = refl
    turns contents None setting same =
        sym (ap (command_turn (given_by contents (None ∷ []) 0) setting) (ap (λ (t : State). resolve t line) same ∙ resolved) ∙ command-met contents.spaces (None ∷ []) setting (Ok command))

    by : (o : Option Contents) (fault : Option (List ℕ)) →
        IfSome o (λ contents. IfSome fault (λ space. IsTrue (is_among (askable (given_spaces contents.spaces) s (Ok command)) space)) × IfOk result (Decides s (λ setting. met_turn contents.spaces fault setting command))) →
        IfSome o (λ contents. MayFail (given_by contents (fault ∷ []) 0) s (Ok line) fault × IfOk result (Decides s (λ setting. item_turn (given_by contents (fault ∷ []) 0) setting (Ok line))))
    by None fault told = search rules
    by (Some contents) fault told = (
      at-once contents fault told.0,
      decides-alike s (λ setting. met_turn contents.spaces fault setting command) (λ setting. item_turn (given_by contents (fault ∷ []) 0) setting (Ok line)) result (turns contents fault) told.1,
    )

-- a line that is refused whatever spaces answer
refused-item : (spaces : SpacesSeen) (s : State) (item : Item) (why : Deny) (result : Result Decision Memory) → IsDenial why result →
    ((contents : Contents) (refusal : Refusal) → why ≡ deny.Refused refusal → (setting : Setting) → setting.state ≡ s → item_turn (given_by contents (None ∷ []) 0) setting item ≡ refused_turn nothing_given setting refusal) →
    DecidesItem spaces spaces s item result
refused-item spaces s item why result denies refuses =
    record { fault = None; asked = none-asked spaces; happen = denied-happens why result s denies; told = by spaces.contents }
  where
    by : (o : Option Contents) → IfSome o (λ contents. MayFail (given_by contents (None ∷ []) 0) s item None × IfOk result (Decides s (λ setting. item_turn (given_by contents (None ∷ []) 0) setting item)))
    by None = search rules
    by (Some contents) = (tt, decides-denied why result s (λ setting. item_turn (given_by contents (None ∷ []) 0) setting item) denies (refuses contents))

pub early-item : (spaces : SpacesSeen) (s : State) (line : Line) (why : Deny) (result : Result Decision Memory) → IsDenial why result → Refuses why (early_refusal s line) → DecidesItem spaces spaces s (Ok line) result
early-item spaces s line why result denies refuses =
    refused-item spaces s (Ok line) why result denies
    (λ contents refusal is setting same.
    command-met contents.spaces (None ∷ []) setting (resolve setting.state line)
    ∙ early-turn contents.spaces setting (resolve setting.state line) refusal
    (ap (λ (t : State). early_refusal t line) same ∙ subst (λ (d : Deny). Refuses d (early_refusal s line)) is refuses))

-- or by its form
pub form-decides : (spaces : SpacesSeen) (s : State) (item : Item) (why : Deny) (result : Result Decision Memory) → IsDenial why result → Denies why item → DecidesItem spaces spaces s item result
form-decides spaces s item why result denies form =
    refused-item spaces s item why result denies
    (λ contents refusal is setting same. ap (item_turn (given_by contents (None ∷ []) 0) setting) (subst (λ (d : Deny). Denies d item) is form))
