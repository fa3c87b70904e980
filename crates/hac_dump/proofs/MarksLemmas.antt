-- All semantic directories get their marks, and the session goes back.
use Rattle.std.proofs.Common.{◌≡◌, ℕ, ◌<◌, Bool, true, false, List, [], ◌∷◌, ◌++◌, map, subst, refl, ap, sym, ◌∙◌, arith, inr, append_assoc}
use Rattle.std.specs.Prelude.{◌||◌, ◌==◌, if◌then◌else◌, Some, None, Result, Ok}
use Rattle.std.specs.List.{AllByRecursion, flat_map}
use Rattle.std.specs.Option.{option_map, option_map_or}
use Rattle.std.proofs.lemmas.Bool.{eqb-true, ne_eqb}
use Rattle.std.proofs.lemmas.List.{append-nil}
use Rattle.hac_model.specs.Query.Formula.{Formula}
use Rattle.hac_model.specs.Query.QueryText.{referred_by}
use Rattle.hac_model.specs.Run.Answers.{and_then}
use Rattle.hac_model.specs.Run.Refusals.{marks}
use Rattle.hac_model.specs.Script.SessionWords.{main_session}
use Rattle.hac_model.specs.Tree.Depends.{Among}
use Rattle.hac_model.specs.Tree.Links.{has}
use Rattle.hac_model.specs.Tree.Sessions.{are_few, session_in, sessions_with, sessions_without, stands_in}
use Rattle.hac_model.specs.Tree.{entry_at, is_directory, is_directory_at, is_symlink_at, permanent_in, prohibited_in}
use Rattle.hac_model.specs.Tree.Valid.{IsValid, NumbersRise, RiseFrom}
use Rattle.hac_model.specs.declared.commands.Command.{Command}
use Rattle.hac_model.specs.declared.commands.Command.TheVariants as command
use Rattle.hac_model.specs.declared.events.Event.{Event}
use Rattle.hac_model.specs.declared.limits.LimitWord.TheVariants as word
use Rattle.hac_model.specs.declared.marks.Kind.TheVariants.{Permanent, Prohibited}
use Rattle.hac_model.specs.declared.replies.Refusal.{Refusal}
use Rattle.hac_model.specs.declared.replies.Refusal.TheVariants as refusal
use Rattle.hac_model.specs.declared.resolved.Resolved.TheVariants as resolved
use Rattle.hac_model.specs.declared.states.Body.{Body}
use Rattle.hac_model.specs.declared.states.Body.TheVariants.{File, Dir, Symlink, Semantic, Mount, Document}
use Rattle.hac_model.specs.declared.states.Entry.{Entry}
use Rattle.hac_model.specs.declared.states.Session.{Session}
use Rattle.hac_model.specs.declared.states.State.{State}
use Rattle.hac_model.specs.declared.versions.Version.TheVariants.{Two}
use Rattle.hac_model.proofs.LookLemmas.{path-named}
use Rattle.hac_model.proofs.PathLemmas.{root-none}
use Rattle.hac_model.proofs.TreeLemmas.{Lives}
use Rattle.hac_model.specs.Script.Dump.{add_here, go_back, going_to, mark_here, remove_here, set_marks, word_at}
use Rattle.hac_dump.proofs.AddLemmas.{Leads, leads-both, leads-one}
use Rattle.hac_dump.proofs.EdgeLemmas.{IsAsking}
use Rattle.hac_dump.proofs.EditLemmas.{part-alike, put}
use Rattle.hac_dump.proofs.FinalLemmas.{final, final-asks, final-stage}
use Rattle.hac_dump.proofs.FindLemmas.{directory-found}
use Rattle.hac_dump.proofs.MarkLemmas.{adds-lead, none-grown, removes, removes-lead, standing}
use Rattle.hac_dump.proofs.PartLemmas.{IsPart, IsStage, Stages, lives-zero, made-few, made-within, part, stages-all}
use Rattle.hac_dump.proofs.SetLemmas.{puts-one, puts-same, queried, queried-asks, queried-stage}
use Rattle.hac_dump.proofs.StageLemmas.{IsPlainKind, is_done, puts}
use Rattle.hac_dump.proofs.TurnLemmas.{plays-none}

-- no other session stands anywhere
abbrev pub IsMain : List Session → Type 0
IsMain sessions = sessions_without main_session sessions ≡ []

pub standing-main : (dir : ℕ) → IsMain (standing dir)
standing-main dir = refl

-- an entry is none of those before it
pub not-done : (done : List Entry) (e : Entry) (todo : List Entry) (above next : ℕ) → NumbersRise above (done ++ e ∷ todo) next → is_done done e.number ≡ false
not-done [] e todo above next rise = refl
not-done (x ∷ done) e todo above next rise =
    (λ i. ne_eqb x.number e.number (λ same. omega (arith, same, below done x.number rise.1)) i || not-done done e todo x.number next rise.1 i)
  where
    below : (done : List Entry) (above : ℕ) → NumbersRise above (done ++ e ∷ todo) next → above < e.number
    below [] above h = h.0
    below (y ∷ done) above h = let first : above < y.number = h.0 in omega (arith, first, below done y.number h.1)

module _ (s : State) (ρ : ℕ → ℕ) (es : List Entry) (h : IsValid s) (plain : (e : Entry) → entry_at s.entries e.number ≡ Some e → IsPlainKind e.body) (p : IsPart s ρ es) (complete : (n : ℕ) → Lives s.entries n → Lives es n)
    (kept : (e : Entry) (k : ℕ) → entry_at s.entries e.number ≡ Some e → Among (permanent_in e.body) k → Lives s.entries k)
    (apart : (e : Entry) (k : ℕ) → entry_at s.entries e.number ≡ Some e → Among (prohibited_in e.body) k → has (map ρ (permanent_in e.body)) (ρ k) ≡ false) where
  abbrev pub stage_of : List Entry → Entry → Body
  stage_of done = puts (λ e. queried ρ e.body) (λ e. final ρ e.body) done

  abbrev pub W : List Entry → List Session → State
  W done sessions = part ρ (stage_of done) sessions es

  pub stages-of : (done : List Entry) → Stages s (stage_of done)
  stages-of done e there = elim (is_done done e.number) as (λ b. IsStage (if b then final ρ e.body else queried ρ e.body) e.body) [
    | true ↦ final-stage ρ e.body (plain e there) (λ k inside. apart e k there inside)
    | false ↦ queried-stage ρ e.body (plain e there)
  ]

  pub asks-of : (done : List Entry) (e : Entry) → entry_at s.entries e.number ≡ Some e → IsAsking ρ (stage_of done e) e.body
  asks-of done e there = elim (is_done done e.number) as (λ b. IsAsking ρ (if b then final ρ e.body else queried ρ e.body) e.body) [
    | true ↦ final-asks ρ e.body (λ k inside. apart e k there inside)
    | false ↦ queried-asks ρ e.body
  ]

  -- the session goes to a directory
  goes : (done : List Entry) (sessions : List Session) (e : Entry) → entry_at s.entries e.number ≡ Some e → is_directory e.body ≡ true → IsMain sessions → IsValid (W done sessions)
      → Leads (W done sessions) (command.Cd (Some (word_at s e.number)) ∷ []) [] (W done (standing (ρ e.number)))
  goes done sessions e there dir main valid =
      leads-one (W done sessions) (W done (standing (ρ e.number))) (command.Cd (Some (word_at s e.number))) (resolved.Cd main_session (ρ e.number)) [] valid (path-named s e.number h.layout (inr (e, there)))
      (record {
        version = refl;
        still = refl;
        resolves = ap (λ (r : Result ℕ Refusal). and_then (λ n. Ok (resolved.Cd main_session n)) r) (directory-found s ρ (stage_of done) sessions es h.layout (stages-of done) p complete valid.layout (stands_in sessions main_session) e.number there-dir);
        unblocked = ap (λ (l : List Session). if are_few Two l then None else Some (refusal.Limit word.Sessions)) alone;
        acyclic = refl;
        stays = refl;
        unasked = refl;
        unsaved = refl;
        quiet = refl;
        stored = refl;
        leads = ap (λ (l : List Session). part ρ (stage_of done) l es) alone;
        limits = made-within s ρ (stage_of done) (standing (ρ e.number)) es h.layout p fits;
        few = made-few s ρ (stage_of done) (standing (ρ e.number)) es h.layout p fits;
      })
    where
      fits : AllByRecursion (λ x. IsStage (stage_of done x) x.body) es
      fits = stages-all s (stage_of done) es (stages-of done) p.from

      no_root : (e.number == 0) ≡ false
      no_root = ne_eqb e.number 0 (λ same. let none : None ≡ Some e = sym (ap (entry_at s.entries) same ∙ root-none s h.layout) ∙ there in absurd cc)

      there-dir : is_directory_at s.entries e.number ≡ true
      there-dir = (λ i. no_root i || option_map_or is_directory (option_map (λ (e : Entry). e.body) (there i)) false) ∙ dir

      alone : sessions_with main_session (ρ e.number) sessions ≡ standing (ρ e.number)
      alone =
          ap (λ (l : List Session). l ++ session_in main_session (ρ e.number)) main
          ∙ ap (λ (b : Bool). if b then [] else standing (ρ e.number)) (lives-zero s ρ (stage_of done) sessions es h.layout p fits e.number (complete e.number (inr (e, there))) ∙ no_root)

  -- and back to the root
  back : (done : List Entry) (sessions : List Session) → IsMain sessions → IsValid (W done sessions) → Leads (W done sessions) (command.Cd None ∷ []) [] (W done [])
  back done sessions main valid =
      leads-one (W done sessions) (W done []) (command.Cd None) (resolved.Cd main_session 0) [] valid refl
      (record {
        version = refl;
        still = refl;
        resolves = refl;
        unblocked = ap (λ (l : List Session). if are_few Two (l ++ []) then None else Some (refusal.Limit word.Sessions)) main;
        acyclic = refl;
        stays = refl;
        unasked = refl;
        unsaved = refl;
        quiet = refl;
        stored = refl;
        leads = ap (λ (l : List Session). part ρ (stage_of done) (l ++ []) es) main;
        limits = made-within s ρ (stage_of done) [] es h.layout p fits;
        few = made-few s ρ (stage_of done) [] es h.layout p fits;
      })
    where
      fits : AllByRecursion (λ x. IsStage (stage_of done x) x.body) es
      fits = stages-all s (stage_of done) es (stages-of done) p.from

  -- what is known of a semantic directory's marks
  pub record IsMarked (e : Entry) : Type 0 where
    pub there : entry_at s.entries e.number ≡ Some e
    pub rise : RiseFrom 0 (permanent_in e.body)
    pub may_add : (k : ℕ) → Among (permanent_in e.body) k → Lives s.entries k × (is_symlink_at s.entries k ≡ false)
    pub may_remove : (k : ℕ) → Among (prohibited_in e.body) k → Lives s.entries k × (is_symlink_at s.entries k ≡ false) × (is_directory_at s.entries k ≡ false) × (Among (permanent_in e.body) k → ⊥)

  abbrev pub events_in : Body → ℕ → List Event
  events_in body n = map (λ x. marks (ρ x) (ρ n) Permanent) (permanent_in body) ++ flat_map (λ x. marks (ρ x) (ρ n) Permanent ∷ marks (ρ x) (ρ n) Prohibited ∷ []) (prohibited_in body)

  -- all marks of one
  marked-one : (done : List Entry) (e : Entry) → IsMarked e → is_done done e.number ≡ false → (q : Formula ℕ) (permanent prohibited : List ℕ) → e.body ≡ Semantic q permanent prohibited → IsValid (W done (standing (ρ e.number)))
      → Leads (W done (standing (ρ e.number))) (mark_here s (Semantic q permanent prohibited)) (events_in (Semantic q permanent prohibited) e.number) (W (done ++ e ∷ []) (standing (ρ e.number)))
  marked-one done e m new q permanent prohibited is valid =
      let first = adds-lead s ρ (stage_of done) es h (stages-of done) (asks-of done) p complete kept e m.there q permanent prohibited is 0 permanent [] []
      (subst (λ (l : List ℕ). RiseFrom 0 l) is-permanent m.rise)
      (λ k inside. let may = m.may_add k (subst (λ (l : List ℕ). Among l k) (sym is-permanent) inside) in (record { lives = may.0; plain = may.1; lent = λ _. inside }, inside))
      (none-grown s ρ (stage_of done) es h (stages-of done) (asks-of done) p complete kept e m.there q permanent prohibited is)
      (λ x low lives. refl)
      (subst IsValid (sym before) valid) in
      let second = removes-lead s ρ (stage_of done) es h (stages-of done) (asks-of done) p complete kept e m.there q permanent prohibited is prohibited first.0 first.1
      (λ k inside.
      let may = m.may_remove k (subst (λ (l : List ℕ). Among l k) (sym is-prohibited) inside) in
      record { lives = may.0; plain = may.1; item = may.2; apart = λ also. may.3 (subst (λ (l : List ℕ). Among l k) (sym is-permanent) also) })
      lives-of first.3 first.2.valid in
      subst (λ (v : State). Leads (W done (standing (ρ e.number))) (mark_here s (Semantic q permanent prohibited)) (events_in (Semantic q permanent prohibited) e.number) v)
      (after second.0 second.1 (ap (final ρ) is ∙ ap (removes ρ prohibited) first.4 ∙ second.4))
      (subst (λ (u : State). Leads u (mark_here s (Semantic q permanent prohibited)) (events_in (Semantic q permanent prohibited) e.number) (Mark second.0 second.1)) before
      (leads-both (Mark [] []) (Mark first.0 first.1) (Mark second.0 second.1) (map (add_here s) permanent) (flat_map (remove_here s) prohibited) (map (λ x. marks (ρ x) (ρ e.number) Permanent) permanent) (flat_map (λ x. marks (ρ x) (ρ e.number) Permanent ∷ marks (ρ x) (ρ e.number) Prohibited ∷ []) prohibited) refl first.2 (λ _. second.2)))
    where
      Mark : List ℕ → List ℕ → State
      Mark added removed = part ρ (put (stage_of done) e.number (Semantic (referred_by ρ q) added removed)) (standing (ρ e.number)) es

      is-permanent : permanent_in e.body ≡ permanent
      is-permanent = ap permanent_in is

      is-prohibited : prohibited_in e.body ≡ prohibited
      is-prohibited = ap prohibited_in is

      asked-now : stage_of done e ≡ Semantic (referred_by ρ q) [] []
      asked-now = ap (λ (b : Bool). if b then final ρ e.body else queried ρ e.body) new ∙ ap (queried ρ) is

      unfolded : (stage : Entry → Body) → AllByRecursion (λ x. entry_at s.entries x.number ≡ Some x) es → stage e ≡ Semantic (referred_by ρ q) [] [] → part ρ (put stage e.number (Semantic (referred_by ρ q) [] [])) (standing (ρ e.number)) es ≡ part ρ stage (standing (ρ e.number)) es
      unfolded stage from same = part-alike ρ (put stage e.number (Semantic (referred_by ρ q) [] [])) stage (standing (ρ e.number)) es (each es from)
        where
          each : (rest : List Entry) → AllByRecursion (λ x. entry_at s.entries x.number ≡ Some x) rest → AllByRecursion (λ x. put stage e.number (Semantic (referred_by ρ q) [] []) x ≡ stage x) rest
          each [] from = tt
          each (x ∷ rest) from = (
            elim (x.number == e.number) as (λ b. (x.number == e.number) ≡ b → (if b then Semantic (referred_by ρ q) [] [] else stage x) ≡ stage x) [
              | true ↦ (λ here. let even : e ≡ x = (let both : Some e ≡ Some x = sym m.there ∙ ap (entry_at s.entries) (sym (eqb-true x.number e.number here)) ∙ from.0 in cc) in sym same ∙ ap stage even)
              | false ↦ (λ _. refl)
            ] refl,
            each rest from.1,
          )

      before : Mark [] [] ≡ W done (standing (ρ e.number))
      before = unfolded (stage_of done) p.from asked-now

      lives-of : (k : ℕ) → Among permanent k → Lives s.entries k
      lives-of k inside = (m.may_add k (subst (λ (l : List ℕ). Among l k) (sym is-permanent) inside)).0

      after : (more less : List ℕ) → final ρ e.body ≡ Semantic (referred_by ρ q) more less → Mark more less ≡ W (done ++ e ∷ []) (standing (ρ e.number))
      after more less all =
          ap (λ (b : Body). part ρ (put (stage_of done) e.number b) (standing (ρ e.number)) es) (sym all)
          ∙ part-alike ρ (put (stage_of done) e.number (final ρ e.body)) (stage_of (done ++ e ∷ [])) (standing (ρ e.number)) es (puts-one s (λ e. queried ρ e.body) (λ e. final ρ e.body) done e m.there es p.from)

  -- all marks of an entry, whatever it is
  step : (done : List Entry) (e : Entry) (sessions : List Session) → IsMarked e → is_done done e.number ≡ false → IsMain sessions → IsValid (W done sessions)
      → (on : List Session) × Leads (W done sessions) (set_marks s e) (events_in e.body e.number) (W (done ++ e ∷ []) on) × IsMain on × (set_marks s e ≡ [] → on ≡ sessions)
  step done e sessions m new main valid = at e.body refl
    where
      Goal : Body → Type 0
      Goal body = (on : List Session) × Leads (W done sessions) (going_to (word_at s e.number) (mark_here s body)) (events_in body e.number) (W (done ++ e ∷ []) on) × IsMain on × (going_to (word_at s e.number) (mark_here s body) ≡ [] → on ≡ sessions)

      unset : final ρ e.body ≡ queried ρ e.body → Leads (W done sessions) [] [] (W (done ++ e ∷ []) sessions)
      unset same =
          let even : W done sessions ≡ W (done ++ e ∷ []) sessions = part-alike ρ (stage_of done) (stage_of (done ++ e ∷ [])) sessions es (puts-same (λ e. queried ρ e.body) (λ e. final ρ e.body) done e s m.there same es p.from) in
          subst (λ (v : State). Leads (W done sessions) [] [] v) even (record { plays = plays-none (W done sessions); valid = valid })

      set : (q : Formula ℕ) (permanent prohibited : List ℕ) (first : Command) (rest : List Command) → e.body ≡ Semantic q permanent prohibited → mark_here s (Semantic q permanent prohibited) ≡ first ∷ rest → Goal (Semantic q permanent prohibited)
      set q permanent prohibited first rest is some =
          let gone = goes done sessions e m.there (ap is_directory is) main valid in
          let all = leads-both (W done sessions) (W done (standing (ρ e.number))) (W (done ++ e ∷ []) (standing (ρ e.number))) (command.Cd (Some (word_at s e.number)) ∷ []) (mark_here s (Semantic q permanent prohibited)) [] (events_in (Semantic q permanent prohibited) e.number) refl gone
          (λ v. marked-one done e m new q permanent prohibited is v) in (
            standing (ρ e.number),
            subst (λ (l : List Command). Leads (W done sessions) l (events_in (Semantic q permanent prohibited) e.number) (W (done ++ e ∷ []) (standing (ρ e.number))))
                (ap (λ (l : List Command). command.Cd (Some (word_at s e.number)) ∷ l) some ∙ sym (ap (going_to (word_at s e.number)) some)) all,
            standing-main (ρ e.number),
            λ none. let never : going_to (word_at s e.number) (first ∷ rest) ≡ [] = sym (ap (going_to (word_at s e.number)) some) ∙ none in absurd cc,
          )

      semantic : (q : Formula ℕ) (permanent prohibited : List ℕ) → e.body ≡ Semantic q permanent prohibited → Goal (Semantic q permanent prohibited)
      semantic q [] [] is = (sessions, unset (ap (final ρ) is ∙ sym (ap (queried ρ) is)), main, λ _. refl)
      semantic q [] (x ∷ prohibited) is = set q [] (x ∷ prohibited) (add_here s x) _ is refl
      semantic q (x ∷ permanent) prohibited is = set q (x ∷ permanent) prohibited (add_here s x) _ is refl

      at : (body : Body) → e.body ≡ body → Goal body
      at (Semantic q permanent prohibited) is = semantic q permanent prohibited is
      at (File text dirty shown) is = (sessions, unset (ap (final ρ) is ∙ sym (ap (queried ρ) is)), main, λ _. refl)
      at Dir is = (sessions, unset (ap (final ρ) is ∙ sym (ap (queried ρ) is)), main, λ _. refl)
      at (Symlink target) is = (sessions, unset (ap (final ρ) is ∙ sym (ap (queried ρ) is)), main, λ _. refl)
      at (Mount space kept) is = (sessions, unset (ap (final ρ) is ∙ sym (ap (queried ρ) is)), main, λ _. refl)
      at Document is = (sessions, unset (ap (final ρ) is ∙ sym (ap (queried ρ) is)), main, λ _. refl)

  abbrev pub events_of : Entry → List Event
  events_of e = events_in e.body e.number

  joined-none : (xs ys : List Command) → xs ++ ys ≡ [] → (xs ≡ []) × (ys ≡ [])
  joined-none [] ys none = (refl, none)
  joined-none (x ∷ xs) ys none = absurd cc

  all-lead : (done todo : List Entry) (sessions : List Session) (above next : ℕ) → NumbersRise above (done ++ todo) next → AllByRecursion IsMarked todo → IsMain sessions → IsValid (W done sessions)
      → (on : List Session) × Leads (W done sessions) (flat_map (set_marks s) todo) (flat_map events_of todo) (W (done ++ todo) on) × IsMain on × (flat_map (set_marks s) todo ≡ [] → on ≡ sessions)
  all-lead done [] sessions above next rise m main valid =
      (sessions, subst (λ (l : List Entry). Leads (W done sessions) [] [] (W l sessions)) (sym (append-nil done)) (record { plays = plays-none (W done sessions); valid = valid }), main, λ _. refl)
  all-lead done (e ∷ todo) sessions above next rise m main valid =
      let first = step done e sessions m.0 (not-done done e todo above next rise) main valid in
      let second = all-lead (done ++ e ∷ []) todo first.0 above next (subst (λ (l : List Entry). NumbersRise above l next) (sym (append_assoc done (e ∷ []) todo)) rise) m.1 first.2 first.1.valid in (
        second.0,
        subst (λ (l : List Entry). Leads (W done sessions) (set_marks s e ++ flat_map (set_marks s) todo) (events_of e ++ flat_map events_of todo) (W l second.0)) (append_assoc done (e ∷ []) todo)
            (leads-both (W done sessions) (W (done ++ e ∷ []) first.0) (W ((done ++ e ∷ []) ++ todo) second.0) (set_marks s e) (flat_map (set_marks s) todo) (events_of e) (flat_map events_of todo) refl first.1 (λ _. second.1)),
        second.2,
        λ none. let parts = joined-none (set_marks s e) (flat_map (set_marks s) todo) none in second.3 parts.1 ∙ first.3 parts.0,
      )

  -- all marks are made, and the session stands in the root again
  pub marks-lead : (todo : List Entry) (next : ℕ) → NumbersRise 0 todo next → AllByRecursion IsMarked todo → IsValid (W [] [])
      → Leads (W [] []) (go_back (flat_map (set_marks s) todo)) (flat_map events_of todo) (W todo [])
  marks-lead todo next rise m valid =
      let all = all-lead [] todo [] 0 next rise m refl valid in
      at (flat_map (set_marks s) todo) refl all.0 all.1 all.2 all.3
    where
      at : (l : List Command) → flat_map (set_marks s) todo ≡ l → (on : List Session) → Leads (W [] []) (flat_map (set_marks s) todo) (flat_map events_of todo) (W todo on) → IsMain on → (flat_map (set_marks s) todo ≡ [] → on ≡ [])
          → Leads (W [] []) (go_back l) (flat_map events_of todo) (W todo [])
      at [] is on led main alone =
          subst (λ (l : List Command). Leads (W [] []) l (flat_map events_of todo) (W todo [])) is
          (subst (λ (ss : List Session). Leads (W [] []) (flat_map (set_marks s) todo) (flat_map events_of todo) (W todo ss)) (alone is) led)
      at (x ∷ xs) is on led main alone =
          subst (λ (events : List Event). Leads (W [] []) (x ∷ xs ++ command.Cd None ∷ []) events (W todo [])) (append-nil (flat_map events_of todo))
          (leads-both (W [] []) (W todo on) (W todo []) (x ∷ xs) (command.Cd None ∷ []) (flat_map events_of todo) [] refl (subst (λ (l : List Command). Leads (W [] []) l (flat_map events_of todo) (W todo on)) is led) (λ v. back todo on main v))
