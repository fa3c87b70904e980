-- Files are indexed and written again.
use Rattle.std.proofs.Common.{◌≡◌, ℕ, Bool, true, false, List, [], ◌∷◌, ◌++◌, map, subst, refl, ap, sym, ◌∙◌, inr, eq-eqb, append_assoc}
use Rattle.std.specs.Prelude.{◌||◌, ◌==◌, filter, not, if◌then◌else◌, replicate, Option, Some, None, Result, Ok, Err}
use Rattle.std.specs.List.{AllByRecursion}
use Rattle.std.specs.Option.{option_map, option_map_or, unwrap_or}
use Rattle.std.proofs.lemmas.Bool.{and_from, eqb-true, eqb-false, ne_eqb}
use Rattle.std.proofs.lemmas.List.{append-nil}
use Rattle.hac_model.specs.Run.Answers.{and_then}
use Rattle.hac_model.specs.Run.Resolving.{outside_mounts}
use Rattle.hac_model.specs.Script.Lines.{is_spelled, is_spelled_word}
use Rattle.hac_model.specs.Tree.Events.{dirty, rewritten}
use Rattle.hac_model.specs.Tree.Limits.{is_text}
use Rattle.hac_model.specs.Tree.Links.{parent_of}
use Rattle.hac_model.specs.Tree.Looks.{look}
use Rattle.hac_model.specs.Tree.{entry_at, is_directory, is_directory_at, is_dirty, is_file, is_symlink, path_of, text_in}
use Rattle.hac_model.specs.Tree.Valid.{IsLayout, IsValid}
use Rattle.hac_model.specs.declared.commands.Command.TheVariants as command
use Rattle.hac_model.specs.declared.events.Event.{Event}
use Rattle.hac_model.specs.declared.events.Event.TheVariants as event
use Rattle.hac_model.specs.declared.places.Place.{Place}
use Rattle.hac_model.specs.declared.places.Place.TheVariants.{There, Free}
use Rattle.hac_model.specs.declared.replies.Refusal.{Refusal}
use Rattle.hac_model.specs.declared.replies.Refusal.TheVariants.{InMount, NotFile}
use Rattle.hac_model.specs.declared.resolved.Resolved.TheVariants as resolved
use Rattle.hac_model.specs.declared.states.Body.{Body}
use Rattle.hac_model.specs.declared.states.Body.TheVariants.{File, Symlink, Document}
use Rattle.hac_model.specs.declared.states.Entry.{Entry}
use Rattle.hac_model.specs.declared.states.Session.{Session}
use Rattle.hac_model.specs.declared.states.State.{State}
use Rattle.hac_model.proofs.LookLemmas.{path-named}
use Rattle.hac_model.proofs.PathLemmas.{root-none}
use Rattle.hac_model.specs.Script.Dump.{put_text, is_shown, word_at}
use Rattle.hac_dump.proofs.AddLemmas.{Leads, leads-both, leads-one, makes-file}
use Rattle.hac_dump.proofs.EditLemmas.{part-alike, part-edited, part-indexed, put, settled, steps-stored}
use Rattle.hac_model.proofs.HereLemmas.{look-there}
use Rattle.hac_dump.proofs.PartLemmas.{IsNext, IsOrder, IsPart, IsStage, Stages, entry-more, made-directory, made-few, made-lives, made-no_document, made-own, made-path, made-symlink, made-there, made-within, next-new, order-next, order-part, part, stages-all}
use Rattle.hac_dump.proofs.StageLemmas.{IsPlainKind, clean, clean-stage, done-last, is_done, puts, written, written-stage}
use Rattle.hac_dump.proofs.StepLemmas.{IsClear}
use Rattle.hac_dump.proofs.TurnLemmas.{plays-none}

module _ (s : State) (ρ : ℕ → ℕ) (stage : Entry → Body) (sessions : List Session) (es rest : List Entry) (h : IsLayout s) (stages : Stages s stage) (o : IsOrder s ρ (es ++ rest)) where
  abbrev u : State
  u = part ρ stage sessions es

  p : IsPart s ρ es
  p = order-part s ρ es rest o

  -- all files are indexed
  pub makes-index : (next : Entry → Body) → IsLayout u → Stages s next → AllByRecursion (λ e. settled (stage e) ≡ next e) es → IsClear u command.Index resolved.Index (replicate (dirty u) event.Step) (part ρ next sessions es)
  makes-index next layout nexts same = record {
    version = refl;
    still = refl;
    resolves = refl;
    unblocked = refl;
    acyclic = refl;
    stays = refl;
    unasked = refl;
    unsaved = refl;
    quiet = refl;
    stored = steps-stored (dirty u);
    leads = part-indexed ρ stage sessions es layout.numbers ∙ part-alike ρ (λ e. settled (stage e)) next sessions es same;
    limits = made-within s ρ next sessions es h p (stages-all s next es nexts p.from);
    few = made-few s ρ next sessions es h p (stages-all s next es nexts p.from);
  }

  -- where what was made is found
  pub finds : IsLayout u → (n : ℕ) (e : Entry) → entry_at es n ≡ Some e → is_symlink e.body ≡ false → look u true (path_of s n) ≡ Ok (There (ρ n))
  finds layout n e found plain =
      let fits = stages-all s stage es stages p.from in
      let here : entry_at s.entries n ≡ Some e = made-there s ρ stage sessions es h p fits n e found in
      ap (look u true) (sym (made-path s ρ stage sessions es h p fits layout n (inr (e, here)) (inr (e, found))))
      ∙ look-there u true (ρ n) layout (made-lives s ρ stage sessions es h p fits n (inr (e, found)))
      (made-symlink s ρ stage sessions es h p fits n (inr (e, found)) ∙ ap (λ (x : Option Entry). option_map_or is_symlink (option_map (λ (e : Entry). e.body) x) false) here ∙ plain)

  no_directory : (n : ℕ) (e : Entry) → entry_at s.entries n ≡ Some e → is_directory e.body ≡ false → is_directory_at s.entries n ≡ false
  no_directory n e found plain =
      (λ i. ne_eqb n 0 (λ same. let none : None ≡ Some e = sym (ap (entry_at s.entries) same ∙ root) ∙ found in absurd cc) i || option_map_or is_directory (option_map (λ (e : Entry). e.body) (found i)) false)
      ∙ plain
    where
      root : entry_at s.entries 0 ≡ None
      root = root-none s h

  -- a file is written again
  pub makes-rewrite : (n : ℕ) (e : Entry) (text : List ℕ) (body : Body) → IsLayout u → entry_at es n ≡ Some e → is_file e.body ≡ true → rewritten text (stage e) ≡ body → Stages s (put stage n body)
      → IsClear u (command.Write (word_at s n) text) (resolved.Write (There (ρ n)) text) (event.Rewrite (ρ n) text ∷ []) (part ρ (put stage n body) sessions es)
  makes-rewrite n e text body layout found file is nexts = record {
    version = refl;
    still = refl;
    resolves =
        ap (λ (r : Result Place Refusal). and_then (λ found. Ok (resolved.Write found text)) (and_then (outside_mounts u) r)) (finds layout n e found (no-link e.body file))
        ∙ ap (λ (b : Bool). and_then (λ found. Ok (resolved.Write found text)) (option_map_or (λ mount. Err (InMount (path_of u mount))) (if b then Some (parent_of u (ρ n)) else None) (Ok (There (ρ n))))) (made-no_document s ρ stage sessions es h p fits n (inr (e, found)));
    unblocked =
        ap (λ (b : Bool). if b then Some (NotFile (path_of u (ρ n))) else None)
        (made-directory s ρ stage sessions es h p fits n (inr (e, found)) ∙ no_directory n e (made-there s ρ stage sessions es h p fits n e found) (no-dir e.body file));
    acyclic = refl;
    stays = refl;
    unasked = refl;
    unsaved = refl;
    quiet = refl;
    stored = refl;
    leads = part-edited ρ stage sessions es n e (rewritten text) body p.counted (made-own s ρ stage sessions es h p fits 1 es p.counted) found is;
    limits = made-within s ρ (put stage n body) sessions es h p (stages-all s (put stage n body) es nexts p.from);
    few = made-few s ρ (put stage n body) sessions es h p (stages-all s (put stage n body) es nexts p.from);
  }
    where
      fits : AllByRecursion (λ e. IsStage (stage e) e.body) es
      fits = stages-all s stage es stages p.from

      no-link : (body : Body) → is_file body ≡ true → is_symlink body ≡ false
      no-link (Symlink target) h = absurd cc
      no-link other h = refl

      no-dir : (body : Body) → is_file body ≡ true → is_directory body ≡ false
      no-dir (File text dirty shown) h = refl
      no-dir (Symlink target) h = refl
      no-dir Document h = refl
      no-dir other h = absurd cc

-- ---- all dirty files get their texts

rewritten-clean : (body : Body) → is_dirty body ≡ true → is_shown body ≡ true → rewritten (unwrap_or (text_in body) []) (clean body) ≡ written body
rewritten-clean (File text dirty (Some shown)) due there = λ i. File text (sym due i) (Some shown)
rewritten-clean (File text dirty None) due there = absurd cc
rewritten-clean other due there = absurd cc

rewritten-written : (body : Body) → is_dirty body ≡ true → rewritten (unwrap_or (text_in body) []) (written body) ≡ written body
rewritten-written (File text dirty shown) due = λ i. File text (sym due i) shown
rewritten-written other due = absurd cc

written-new : (body : Body) → is_dirty body ≡ true → is_shown body ≡ false → written body ≡ File (unwrap_or (text_in body) []) true None
written-new (File text dirty (Some shown)) due none = absurd cc
written-new (File text dirty None) due none = λ i. File text (due i) None
written-new other due none = absurd cc

dirty-file : (body : Body) → is_dirty body ≡ true → is_file body ≡ true
dirty-file (File text dirty shown) due = refl
dirty-file other due = absurd cc

module _ (s : State) (ρ : ℕ → ℕ) (sessions : List Session) (base links dirties : List Entry) (h : IsLayout s) (plain : (e : Entry) → entry_at s.entries e.number ≡ Some e → IsPlainKind e.body) where
  abbrev pub is_new : Entry → Bool
  is_new e = not (is_shown e.body)

  abbrev pub stage_of : List Entry → Entry → Body
  stage_of done = puts (λ e. clean e.body) (λ e. written e.body) done

  abbrev pub made_of : List Entry → List Entry
  made_of done = base ++ filter is_new done

  abbrev pub U : List Entry → State
  U done = part ρ (stage_of done) sessions (made_of done)

  pub stages-of : (done : List Entry) → Stages s (stage_of done)
  stages-of done e there = elim (is_done done e.number) as (λ b. IsStage (if b then written e.body else clean e.body) e.body) [
    | true ↦ written-stage e.body (plain e there)
    | false ↦ clean-stage e.body (plain e there)
  ]

  filter-append : (xs ys : List Entry) → filter is_new (xs ++ ys) ≡ filter is_new xs ++ filter is_new ys
  filter-append [] ys = refl
  filter-append (x ∷ xs) ys = elim (is_new x) as (λ b. (if b then x ∷ filter is_new (xs ++ ys) else filter is_new (xs ++ ys)) ≡ (if b then x ∷ filter is_new xs else filter is_new xs) ++ filter is_new ys) [
    | true ↦ ap (λ (l : List Entry). x ∷ l) (filter-append xs ys)
    | false ↦ filter-append xs ys
  ]

  pub order-split : (done todo : List Entry) → base ++ (filter is_new (done ++ todo) ++ links) ≡ made_of done ++ (filter is_new todo ++ links)
  order-split done todo =
      ap (λ (l : List Entry). base ++ (l ++ links)) (filter-append done todo)
      ∙ ap (λ (l : List Entry). base ++ l) (append_assoc (filter is_new done) (filter is_new todo) links)
      ∙ sym (append_assoc base (filter is_new done) (filter is_new todo ++ links))

  -- a dirty file
  pub record IsDue (e : Entry) : Type 0 where
    pub there : entry_at s.entries e.number ≡ Some e
    pub due : is_dirty e.body ≡ true
    pub known : is_shown e.body ≡ true → entry_at base e.number ≡ Some e
    pub fits : is_text (unwrap_or (text_in e.body) []) ≡ true

  abbrev pub event_of : Entry → Event
  event_of e = if is_shown e.body then event.Rewrite (ρ e.number) (unwrap_or (text_in e.body) []) else event.NewFile (ρ e.parent) e.name (unwrap_or (text_in e.body) [])

  or-true : (b : Bool) → (b || true) ≡ true
  or-true true = refl
  or-true false = refl

  or-false : (b : Bool) → (b || false) ≡ b
  or-false true = refl
  or-false false = refl

  -- what comes of another entry stays
  other-stays : (done : List Entry) (e x : Entry) → (e.number ≡ x.number → ⊥) → stage_of done x ≡ stage_of (done ++ e ∷ []) x
  other-stays done e x other =
      ap (λ (b : Bool). if b then written x.body else clean x.body)
      (sym (done-last done e x.number ∙ ap (λ (b : Bool). is_done done x.number || b) (ne_eqb e.number x.number other) ∙ or-false (is_done done x.number)))

  itself-written : (done : List Entry) (e : Entry) → stage_of (done ++ e ∷ []) e ≡ written e.body
  itself-written done e =
      ap (λ (b : Bool). if b then written e.body else clean e.body)
      (done-last done e e.number ∙ ap (λ (b : Bool). is_done done e.number || b) (eq-eqb e.number e.number refl) ∙ or-true (is_done done e.number))

  abbrev IsThere : Entry → Type 0
  IsThere e = entry_at s.entries e.number ≡ Some e

  step : (done : List Entry) (e : Entry) (todo : List Entry) → IsOrder s ρ (base ++ (filter is_new (done ++ e ∷ todo) ++ links)) → IsDue e → IsValid (U done) → Leads (U done) (put_text s e ∷ []) (event_of e ∷ []) (U (done ++ e ∷ []))
  step done e todo o d valid = at (is_shown e.body) refl
    where
      es : List Entry
      es = made_of done

      text : List ℕ
      text = unwrap_or (text_in e.body) []

      split : IsOrder s ρ (es ++ (filter is_new (e ∷ todo) ++ links))
      split = subst (λ (l : List Entry). IsOrder s ρ l) (order-split done (e ∷ todo)) o

      p : IsPart s ρ es
      p = order-part s ρ es (filter is_new (e ∷ todo) ++ links) split

      spelled : is_spelled (put_text s e) ≡ true
      spelled = and_from (is_spelled_word (word_at s e.number)) (is_text text) (path-named s e.number h (inr (e, d.there))) d.fits

      Goal : Event → Type 0
      Goal event = Leads (U done) (put_text s e ∷ []) (event ∷ []) (U (done ++ e ∷ []))

      old : is_shown e.body ≡ true → Goal (event.Rewrite (ρ e.number) text)
      old shown = subst (λ (v : State). Leads (U done) (put_text s e ∷ []) (event.Rewrite (ρ e.number) text ∷ []) v) even
          (leads-one (U done) (part ρ (put (stage_of done) e.number (written e.body)) sessions es) (put_text s e) (resolved.Write (There (ρ e.number)) text) (event.Rewrite (ρ e.number) text ∷ []) valid spelled
          (makes-rewrite s ρ (stage_of done) sessions es (filter is_new (e ∷ todo) ++ links) h (stages-of done) split e.number e text (written e.body) valid.layout (entry-more base (filter is_new done) e.number e (d.known shown)) (dirty-file e.body d.due) again (λ x there. put-stage x there)))
        where
          again : rewritten text (stage_of done e) ≡ written e.body
          again = elim (is_done done e.number) as (λ b. rewritten text (if b then written e.body else clean e.body) ≡ written e.body) [
            | true ↦ rewritten-written e.body d.due
            | false ↦ rewritten-clean e.body d.due shown
          ]

          same-entry : (x : Entry) → entry_at s.entries x.number ≡ Some x → (x.number == e.number) ≡ true → x ≡ e
          same-entry x there here = let both : Some x ≡ Some e = sym there ∙ ap (entry_at s.entries) (eqb-true x.number e.number here) ∙ d.there in cc

          put-stage : (x : Entry) → entry_at s.entries x.number ≡ Some x → IsStage (put (stage_of done) e.number (written e.body) x) x.body
          put-stage x there = elim (x.number == e.number) as (λ b. (x.number == e.number) ≡ b → IsStage (if b then written e.body else stage_of done x) x.body) [
            | true ↦ (λ here. subst (λ (y : Entry). IsStage (written e.body) y.body) (sym (same-entry x there here)) (written-stage e.body (plain e d.there)))
            | false ↦ (λ _. stages-of done x there)
          ] refl

          alike : (rest : List Entry) → AllByRecursion IsThere rest → AllByRecursion (λ x. put (stage_of done) e.number (written e.body) x ≡ stage_of (done ++ e ∷ []) x) rest
          alike [] there = tt
          alike (x ∷ rest) there = (one x there.0, alike rest there.1)
            where
              one : (x : Entry) → entry_at s.entries x.number ≡ Some x → put (stage_of done) e.number (written e.body) x ≡ stage_of (done ++ e ∷ []) x
              one x there = elim (x.number == e.number) as (λ b. (x.number == e.number) ≡ b → (if b then written e.body else stage_of done x) ≡ stage_of (done ++ e ∷ []) x) [
                | true ↦ (λ here. sym (itself-written done e) ∙ ap (stage_of (done ++ e ∷ [])) (sym (same-entry x there here)))
                | false ↦ (λ here. other-stays done e x (λ same. eqb-false x.number e.number here (sym same)))
              ] refl

          nothing : made_of (done ++ e ∷ []) ≡ es
          nothing =
              ap (λ (l : List Entry). base ++ l)
              (filter-append done (e ∷ []) ∙ ap (λ (b : Bool). filter is_new done ++ (if not b then e ∷ [] else [])) shown ∙ append-nil (filter is_new done))

          even : part ρ (put (stage_of done) e.number (written e.body)) sessions es ≡ U (done ++ e ∷ [])
          even = part-alike ρ (put (stage_of done) e.number (written e.body)) (stage_of (done ++ e ∷ [])) sessions es (alike es p.from) ∙ ap (part ρ (stage_of (done ++ e ∷ [])) sessions) (sym nothing)

      new : is_shown e.body ≡ false → Goal (event.NewFile (ρ e.parent) e.name text)
      new unshown =
          subst (λ (v : State). Leads (U done) (put_text s e ∷ []) (event.NewFile (ρ e.parent) e.name text ∷ []) v) behind
          (subst (λ (u : State). Leads u (put_text s e ∷ []) (event.NewFile (ρ e.parent) e.name text ∷ []) (part ρ stage sessions (es ++ e ∷ []))) (sym before)
          (leads-one (part ρ stage sessions es) (part ρ stage sessions (es ++ e ∷ [])) (put_text s e) (resolved.Write (Free (ρ e.parent) e.name) text) (event.NewFile (ρ e.parent) e.name text ∷ []) (subst IsValid before valid) spelled
          (makes-file s ρ stage sessions es e rest h (stages-of (done ++ e ∷ [])) here text (subst IsValid before valid).layout (itself-written done e ∙ written-new e.body d.due unshown))))
        where
          stage : Entry → Body
          stage = stage_of (done ++ e ∷ [])

          rest : List Entry
          rest = filter is_new todo ++ links

          here : IsOrder s ρ (es ++ e ∷ rest)
          here = subst (λ (b : Bool). IsOrder s ρ (es ++ ((if not b then e ∷ filter is_new todo else filter is_new todo) ++ links))) unshown split

          n : IsNext s ρ es e
          n = order-next s ρ es e rest here

          alike : (rest : List Entry) → AllByRecursion (λ x. entry_at es x.number ≡ Some x) rest → AllByRecursion (λ x. stage_of done x ≡ stage x) rest
          alike [] there = tt
          alike (x ∷ rest) there =
              (other-stays done e x (λ same. let none : None ≡ Some x = sym (next-new s ρ es e p n) ∙ ap (entry_at es) same ∙ there.0 in absurd cc), alike rest there.1)

          before : U done ≡ part ρ stage sessions es
          before = part-alike ρ (stage_of done) stage sessions es (alike es (made-own s ρ (stage_of done) sessions es h p (stages-all s (stage_of done) es (stages-of done) p.from) 1 es p.counted))

          behind : part ρ stage sessions (es ++ e ∷ []) ≡ U (done ++ e ∷ [])
          behind = ap (part ρ stage sessions)
              (append_assoc base (filter is_new done) (e ∷ [])
              ∙ ap (λ (l : List Entry). base ++ l) (sym (filter-append done (e ∷ []) ∙ ap (λ (b : Bool). filter is_new done ++ (if not b then e ∷ [] else [])) unshown)))

      at : (b : Bool) → is_shown e.body ≡ b → Goal (if b then event.Rewrite (ρ e.number) text else event.NewFile (ρ e.parent) e.name text)
      at true is = old is
      at false is = new is

  -- so all of them are written
  pub texts-lead : (done todo : List Entry) → IsOrder s ρ (base ++ (filter is_new (done ++ todo) ++ links)) → AllByRecursion IsDue todo → IsValid (U done) → Leads (U done) (map (put_text s) todo) (map event_of todo) (U (done ++ todo))
  texts-lead done [] o due valid = subst (λ (l : List Entry). Leads (U done) [] [] (U l)) (sym (append-nil done)) (record { plays = plays-none (U done); valid = valid })
  texts-lead done (e ∷ todo) o due valid =
      let further = texts-lead (done ++ e ∷ []) todo (subst (λ (l : List Entry). IsOrder s ρ (base ++ (filter is_new l ++ links))) (sym (append_assoc done (e ∷ []) todo)) o) due.1 in
      subst (λ (l : List Entry). Leads (U done) (put_text s e ∷ map (put_text s) todo) (event_of e ∷ map event_of todo) (U l)) (append_assoc done (e ∷ []) todo)
      (leads-both (U done) (U (done ++ e ∷ [])) (U ((done ++ e ∷ []) ++ todo)) (put_text s e ∷ []) (map (put_text s) todo) (event_of e ∷ []) (map event_of todo) refl (step done e todo o due.0 valid) further)
