-- Entries are made one behind the other.
use Rattle.std.proofs.Common.{◌≡◌, ℕ, Bool, true, false, List, [], ◌∷◌, ◌++◌, map, subst, refl, ap, sym, ◌∙◌, inr, append_assoc}
use Rattle.std.specs.Prelude.{if◌then◌else◌, Some, None, Result, Ok, Err}
use Rattle.std.specs.List.{AllByRecursion}
use Rattle.std.specs.Option.{option_map_or}
use Rattle.std.proofs.lemmas.Bool.{and_from}
use Rattle.std.proofs.lemmas.List.{append-nil}
use Rattle.hac_model.specs.Run.Answers.{and_then}
use Rattle.hac_model.specs.Run.Resolving.{outside_mounts, slot}
use Rattle.hac_model.specs.Script.Lines.{is_spelled, is_spelled_word}
use Rattle.hac_model.specs.Script.PathWords.{is_target}
use Rattle.hac_model.specs.Tree.Limits.{is_text}
use Rattle.hac_model.specs.Script.SessionWords.{main_session}
use Rattle.hac_model.specs.Tree.Events.{added}
use Rattle.hac_model.specs.Tree.Looks.{look}
use Rattle.hac_model.specs.Tree.Sessions.{stands_in}
use Rattle.hac_model.specs.Tree.{entry_at, path_of}
use Rattle.hac_model.specs.Tree.Valid.{IsLayout, IsValid}
use Rattle.hac_model.specs.declared.commands.Command.{Command}
use Rattle.hac_model.specs.declared.commands.Command.TheVariants as command
use Rattle.hac_model.specs.declared.events.Event.{Event}
use Rattle.hac_model.specs.declared.events.Event.TheVariants as event
use Rattle.hac_model.specs.declared.places.Place.{Place}
use Rattle.hac_model.specs.declared.places.Place.TheVariants.{Free}
use Rattle.hac_model.specs.declared.replies.Refusal.{Refusal}
use Rattle.hac_model.specs.declared.replies.Refusal.TheVariants.{InMount}
use Rattle.hac_model.specs.declared.resolved.Resolved.{Resolved}
use Rattle.hac_model.specs.declared.resolved.Resolved.TheVariants as resolved
use Rattle.hac_model.specs.declared.states.Body.{Body}
use Rattle.hac_model.specs.declared.states.Body.TheVariants.{File, Dir, Symlink}
use Rattle.hac_model.specs.declared.states.Entry.{Entry}
use Rattle.hac_model.specs.declared.states.Session.{Session}
use Rattle.hac_model.specs.declared.states.State.{State}
use Rattle.hac_model.specs.declared.versions.Version.TheVariants.{Two}
use Rattle.hac_model.proofs.LookLemmas.{path-named}
use Rattle.hac_model.proofs.PathLemmas.{parent-directory, parent-lives, path_of-parent}
use Rattle.hac_model.specs.Script.Dump.{make_directory, word_at}
use Rattle.hac_model.proofs.HereLemmas.{look-free}
use Rattle.hac_dump.proofs.PartLemmas.{IsNext, IsOrder, IsPart, Stages, made-directory, made-empty, made-few, made-no_mount, made-path, made-within, next-new, order-next, order-part, part, part-added, stages-all}
use Rattle.hac_dump.proofs.StepLemmas.{IsClear, clear-passes, clear-valid}
use Rattle.hac_dump.proofs.TurnLemmas.{Plays, plays-both, plays-none, plays-one}

module _ (s : State) (ρ : ℕ → ℕ) (stage : Entry → Body) (sessions : List Session) (es : List Entry) (e : Entry) (rest : List Entry) (h : IsLayout s) (stages : Stages s stage) (o : IsOrder s ρ (es ++ e ∷ rest)) where
  abbrev u : State
  u = part ρ stage sessions es

  abbrev v : State
  v = part ρ stage sessions (es ++ e ∷ [])

  p : IsPart s ρ es
  p = order-part s ρ es (e ∷ rest) o

  n : IsNext s ρ es e
  n = order-next s ρ es e rest o

  q : IsPart s ρ (es ++ e ∷ [])
  q = order-part s ρ (es ++ e ∷ []) rest (subst (λ (l : List Entry). IsOrder s ρ l) (sym (append_assoc es (e ∷ []) rest)) o)

  -- where the entry will be
  abbrev at : Place
  at = Free (ρ e.parent) e.name

  free : (follow : Bool) → IsLayout u → look u follow (path_of s e.number) ≡ Ok at
  free follow layout =
      ap (look u follow)
      (path_of-parent s e.number e h n.there
      ∙ ap (λ (path : List (List ℕ)). path ++ e.name ∷ []) (sym (made-path s ρ stage sessions es h p (stages-all s stage es stages p.from) layout e.parent (parent-lives s e.number e h n.there) n.parent)))
      ∙ look-free u follow (ρ e.parent) e.name layout
      (made-directory s ρ stage sessions es h p (stages-all s stage es stages p.from) e.parent n.parent ∙ parent-directory s e.number e h n.there)
      (made-empty s ρ stage sessions es h p (stages-all s stage es stages p.from) layout e n.there n.parent (next-new s ρ es e p n))

  slot-free : (follow : Bool) (from : ℕ) → IsLayout u → slot u from follow (word_at s e.number) ≡ Ok at
  slot-free follow from layout =
      ap (λ (r : Result Place Refusal). and_then (outside_mounts u) r) (free follow layout)
      ∙ ap (λ (b : Bool). option_map_or (λ mount. Err (InMount (path_of u mount))) (if b then Some (ρ e.parent) else None) (Ok at))
      (made-no_mount s ρ stage sessions es h p (stages-all s stage es stages p.from) e.parent n.parent)

  comes : (body : Body) → stage e ≡ body → added u (ρ e.parent) e.name body ≡ v
  comes body is = ap (λ (b : Body). added u (ρ e.parent) e.name b) (sym is) ∙ part-added ρ stage sessions es e n.number

  -- a directory is made
  pub makes-directory : IsLayout u → stage e ≡ Dir → IsClear u (command.Mkdir (word_at s e.number)) (resolved.Mkdir at) (event.Mkdir (ρ e.parent) e.name ∷ []) v
  makes-directory layout is = record {
    version = refl;
    still = refl;
    resolves = ap (λ (r : Result Place Refusal). and_then (λ found. Ok (resolved.Mkdir found)) r) (slot-free true (stands_in sessions main_session) layout);
    unblocked = refl;
    acyclic = refl;
    stays = refl;
    unasked = refl;
    unsaved = refl;
    quiet = refl;
    stored = refl;
    leads = comes Dir is;
    limits = made-within s ρ stage sessions (es ++ e ∷ []) h q (stages-all s stage (es ++ e ∷ []) stages q.from);
    few = made-few s ρ stage sessions (es ++ e ∷ []) h q (stages-all s stage (es ++ e ∷ []) stages q.from);
  }

  -- a file is made
  pub makes-file : (text : List ℕ) → IsLayout u → stage e ≡ File text true None → IsClear u (command.Write (word_at s e.number) text) (resolved.Write at text) (event.NewFile (ρ e.parent) e.name text ∷ []) v
  makes-file text layout is = record {
    version = refl;
    still = refl;
    resolves = ap (λ (r : Result Place Refusal). and_then (λ found. Ok (resolved.Write found text)) r) (slot-free true (stands_in sessions main_session) layout);
    unblocked = refl;
    acyclic = refl;
    stays = refl;
    unasked = refl;
    unsaved = refl;
    quiet = refl;
    stored = refl;
    leads = comes (File text true None) is;
    limits = made-within s ρ stage sessions (es ++ e ∷ []) h q (stages-all s stage (es ++ e ∷ []) stages q.from);
    few = made-few s ρ stage sessions (es ++ e ∷ []) h q (stages-all s stage (es ++ e ∷ []) stages q.from);
  }

  -- a link is made
  pub makes-link : (target : List ℕ) → IsLayout u → stage e ≡ Symlink target → IsClear u (command.Ln target (word_at s e.number)) (resolved.Ln at target) (event.Ln (ρ e.parent) e.name target ∷ []) v
  makes-link target layout is = record {
    version = refl;
    still = refl;
    resolves = ap (λ (r : Result Place Refusal). and_then (λ found. Ok (resolved.Ln found target)) r) (slot-free false (stands_in sessions main_session) layout);
    unblocked = refl;
    acyclic = refl;
    stays = refl;
    unasked = refl;
    unsaved = refl;
    quiet = refl;
    stored = refl;
    leads = comes (Symlink target) is;
    limits = made-within s ρ stage sessions (es ++ e ∷ []) h q (stages-all s stage (es ++ e ∷ []) stages q.from);
    few = made-few s ρ stage sessions (es ++ e ∷ []) h q (stages-all s stage (es ++ e ∷ []) stages q.from);
  }

-- ---- many, one behind the other

-- commands lead from a valid state to a valid state, with these events
pub record Leads (u : State) (commands : List Command) (events : List Event) (v : State) : Type 0 where
  pub plays : Plays u commands events v
  pub valid : IsValid v

pub leads-one : (u v : State) (command : Command) (r : Resolved) (events : List Event) → IsValid u → is_spelled command ≡ true → IsClear u command r events v → Leads u (command ∷ []) events v
leads-one u v command r events h spelled c = record {
  plays = plays-one u v command events (clear-passes u v command r events c);
  valid = clear-valid u v command r events h spelled c;
}

pub leads-both : (u v w : State) (xs ys : List Command) (es fs : List Event) → v.version ≡ u.version → Leads u xs es v → (IsValid v → Leads v ys fs w) → Leads u (xs ++ ys) (es ++ fs) w
leads-both u v w xs ys es fs same first second = let next = second first.valid in record { plays = plays-both u v w xs ys es fs same first.plays next.plays; valid = next.valid }

-- a step for each entry of a list, each behind what was done before it
pub leads-all : (U : List Entry → State) (command : Entry → Command) (event : Entry → Event) (order : List Entry) (P : Entry → Type 0)
    → ((es : List Entry) → (U es).version ≡ Two)
    → ((es : List Entry) (e : Entry) (rest : List Entry) → order ≡ es ++ e ∷ rest → P e → IsValid (U es) → Leads (U es) (command e ∷ []) (event e ∷ []) (U (es ++ e ∷ [])))
    → (es todo rest : List Entry) → order ≡ es ++ (todo ++ rest) → AllByRecursion P todo → IsValid (U es) → Leads (U es) (map command todo) (map event todo) (U (es ++ todo))
leads-all U command event order P two step es [] rest is good h =
    subst (λ (l : List Entry). Leads (U es) [] [] (U l)) (sym (append-nil es)) (record { plays = plays-none (U es); valid = h })
leads-all U command event order P two step es (e ∷ todo) rest is good h =
    let further = leads-all U command event order P two step (es ++ e ∷ []) todo rest (is ∙ sym (append_assoc es (e ∷ []) (todo ++ rest))) good.1 in
    subst (λ (l : List Entry). Leads (U es) (command e ∷ map command todo) (event e ∷ map event todo) (U l)) (append_assoc es (e ∷ []) todo)
    (leads-both (U es) (U (es ++ e ∷ [])) (U ((es ++ e ∷ []) ++ todo)) (command e ∷ []) (map command todo) (event e ∷ []) (map event todo) (two (es ++ e ∷ []) ∙ sym (two es))
    (step es e (todo ++ rest) is good.0 h) further)

-- ---- the directories

module _ (s : State) (ρ : ℕ → ℕ) (stage : Entry → Body) (sessions : List Session) (order : List Entry) (h : IsLayout s) (stages : Stages s stage) (o : IsOrder s ρ order) where
  abbrev U : List Entry → State
  U es = part ρ stage sessions es

  abbrev IsThere : Entry → Type 0
  IsThere e = entry_at s.entries e.number ≡ Some e

  pub directories-lead : (es todo rest : List Entry) → order ≡ es ++ (todo ++ rest) → AllByRecursion (λ e. stage e ≡ Dir) todo → IsValid (U es)
      → Leads (U es) (map (make_directory s) todo) (map (λ e. event.Mkdir (ρ e.parent) e.name) todo) (U (es ++ todo))
  directories-lead = leads-all U (make_directory s) (λ e. event.Mkdir (ρ e.parent) e.name) order (λ e. stage e ≡ Dir) (λ es. refl) step
    where
      step : (es : List Entry) (e : Entry) (rest : List Entry) → order ≡ es ++ e ∷ rest → stage e ≡ Dir → IsValid (U es) → Leads (U es) (make_directory s e ∷ []) (event.Mkdir (ρ e.parent) e.name ∷ []) (U (es ++ e ∷ []))
      step es e rest is dir valid =
          let here = subst (λ (l : List Entry). IsOrder s ρ l) is o in
          leads-one (U es) (U (es ++ e ∷ [])) (make_directory s e) (resolved.Mkdir (Free (ρ e.parent) e.name)) (event.Mkdir (ρ e.parent) e.name ∷ []) valid
          (path-named s e.number h (inr (e, (order-next s ρ es e rest here).there)))
          (makes-directory s ρ stage sessions es e rest h stages here valid.layout dir)

  -- ---- files, and links

  pub files-lead : (text : Entry → List ℕ) (es todo rest : List Entry) → order ≡ es ++ (todo ++ rest) → AllByRecursion (λ e. (stage e ≡ File (text e) true None) × (is_text (text e) ≡ true)) todo → IsValid (U es)
      → Leads (U es) (map (λ e. command.Write (word_at s e.number) (text e)) todo) (map (λ e. event.NewFile (ρ e.parent) e.name (text e)) todo) (U (es ++ todo))
  files-lead text = leads-all U (λ e. command.Write (word_at s e.number) (text e)) (λ e. event.NewFile (ρ e.parent) e.name (text e)) order (λ e. (stage e ≡ File (text e) true None) × (is_text (text e) ≡ true)) (λ es. refl) step
    where
      step : (es : List Entry) (e : Entry) (rest : List Entry) → order ≡ es ++ e ∷ rest → (stage e ≡ File (text e) true None) × (is_text (text e) ≡ true) → IsValid (U es)
          → Leads (U es) (command.Write (word_at s e.number) (text e) ∷ []) (event.NewFile (ρ e.parent) e.name (text e) ∷ []) (U (es ++ e ∷ []))
      step es e rest is file valid =
          let here = subst (λ (l : List Entry). IsOrder s ρ l) is o in
          leads-one (U es) (U (es ++ e ∷ [])) (command.Write (word_at s e.number) (text e)) (resolved.Write (Free (ρ e.parent) e.name) (text e)) (event.NewFile (ρ e.parent) e.name (text e) ∷ []) valid
          (and_from (is_spelled_word (word_at s e.number)) (is_text (text e)) (path-named s e.number h (inr (e, (order-next s ρ es e rest here).there))) file.1)
          (makes-file s ρ stage sessions es e rest h stages here (text e) valid.layout file.0)

  pub links-lead : (target : Entry → List ℕ) (es todo rest : List Entry) → order ≡ es ++ (todo ++ rest) → AllByRecursion (λ e. (stage e ≡ Symlink (target e)) × (is_target (target e) ≡ true)) todo → IsValid (U es)
      → Leads (U es) (map (λ e. command.Ln (target e) (word_at s e.number)) todo) (map (λ e. event.Ln (ρ e.parent) e.name (target e)) todo) (U (es ++ todo))
  links-lead target = leads-all U (λ e. command.Ln (target e) (word_at s e.number)) (λ e. event.Ln (ρ e.parent) e.name (target e)) order (λ e. (stage e ≡ Symlink (target e)) × (is_target (target e) ≡ true)) (λ es. refl) step
    where
      step : (es : List Entry) (e : Entry) (rest : List Entry) → order ≡ es ++ e ∷ rest → (stage e ≡ Symlink (target e)) × (is_target (target e) ≡ true) → IsValid (U es)
          → Leads (U es) (command.Ln (target e) (word_at s e.number) ∷ []) (event.Ln (ρ e.parent) e.name (target e) ∷ []) (U (es ++ e ∷ []))
      step es e rest is link valid =
          let here = subst (λ (l : List Entry). IsOrder s ρ l) is o in
          leads-one (U es) (U (es ++ e ∷ [])) (command.Ln (target e) (word_at s e.number)) (resolved.Ln (Free (ρ e.parent) e.name) (target e)) (event.Ln (ρ e.parent) e.name (target e) ∷ []) valid
          (and_from (is_target (target e)) (is_spelled_word (word_at s e.number)) link.1 (path-named s e.number h (inr (e, (order-next s ρ es e rest here).there))))
          (makes-link s ρ stage sessions es e rest h stages here (target e) valid.layout link.0)
