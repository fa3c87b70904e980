-- Semantic directories get their queries.
use Rattle.std.proofs.Common.{◌≡◌, ℕ, Bool, true, false, List, [], ◌∷◌, ◌++◌, subst, refl, ap, sym, ◌∙◌, inl, inr, eq-eqb, append_assoc}
use Rattle.std.specs.Prelude.{◌||◌, ◌==◌, filter, if◌then◌else◌, Option, Some, None, Result, Ok}
use Rattle.std.specs.List.{AllByRecursion, flat_map}
use Rattle.std.specs.Option.{option_map, option_map_or}
use Rattle.std.proofs.lemmas.Bool.{and_from, and_parts, eqb-true, eqb-false, ne_eqb}
use Rattle.std.proofs.lemmas.List.{append-nil}
use Rattle.hac_model.specs.Query.Formula.{Formula}
use Rattle.hac_model.specs.Query.QueryReading.{is_spelled_query}
use Rattle.hac_model.specs.Query.QueryText.{referred_by}
use Rattle.hac_model.specs.Run.Answers.{and_then}
use Rattle.hac_model.specs.Run.Refusals.{cycle_by}
use Rattle.hac_model.specs.Run.Resolving.{numbered_query}
use Rattle.hac_model.specs.Script.Lines.{is_spelled_word}
use Rattle.hac_model.specs.Script.SessionWords.{main_session}
use Rattle.hac_model.specs.Tree.Depends.{Among, cycle_over, depends, first_reaching, named_in}
use Rattle.hac_model.specs.Tree.Events.{are_directories, asking, changed_at, edited}
use Rattle.hac_model.specs.Tree.Facts.{facts_at}
use Rattle.hac_model.specs.Query.Queries.{is_query}
use Rattle.hac_model.specs.Run.Asks.{mounts_asked, told_for}
use Rattle.hac_model.specs.Tree.Links.{parent_of}
use Rattle.hac_model.specs.Tree.Sessions.{stands_in}
use Rattle.hac_model.specs.Tree.{entry_at, is_directory, is_directory_at, permanent_in, query_in}
use Rattle.hac_model.specs.Tree.Valid.{AsksWell, IsLayout, IsSoundQuery, IsValid}
use Rattle.hac_model.specs.declared.commands.Command.TheVariants as command
use Rattle.hac_model.specs.declared.events.Event.{Event}
use Rattle.hac_model.specs.declared.events.Event.TheVariants as event
use Rattle.hac_model.specs.declared.replies.Refusal.{Refusal}
use Rattle.hac_model.specs.declared.replies.Refusal.TheVariants as refusal
use Rattle.hac_model.specs.declared.resolved.Resolved.TheVariants as resolved
use Rattle.hac_model.specs.declared.states.Body.{Body}
use Rattle.hac_model.specs.declared.states.Body.TheVariants.{File, Dir, Symlink, Semantic, Mount, Document}
use Rattle.hac_model.specs.declared.states.Entry.{Entry}
use Rattle.hac_model.specs.declared.states.Session.{Session}
use Rattle.hac_model.specs.declared.states.State.{State}
use Rattle.hac_model.proofs.AmongLemmas.{among-left}
use Rattle.hac_model.proofs.FactLemmas.{edges-told}
use Rattle.hac_model.proofs.LookLemmas.{path-named}
use Rattle.hac_model.proofs.PathLemmas.{root-none}
use Rattle.hac_model.proofs.TreeLemmas.{Lives, entry_at-all}
use Rattle.hac_model.specs.Script.Dump.{set_query, word_at}
use Rattle.hac_dump.proofs.AddLemmas.{Leads, leads-both, leads-one}
use Rattle.hac_dump.proofs.EdgeLemmas.{IsAsking, first-none, named-referred}
use Rattle.hac_dump.proofs.EditLemmas.{part-alike, part-edited, put}
use Rattle.hac_dump.proofs.FindLemmas.{NoMounts, asks-none, holder-found, none-mounted, numbered, told-none, told-nothing}
use Rattle.hac_dump.proofs.PartLemmas.{IsPart, IsStage, Stages, lives-zero, made-entry, made-few, made-own, made-there, made-within, part, stages-all}
use Rattle.hac_dump.proofs.StageLemmas.{IsPlainKind, done-last, is_done, puts, semantic-stage, written, written-stage}
use Rattle.hac_dump.proofs.StepLemmas.{IsClear}
use Rattle.hac_dump.proofs.TurnLemmas.{plays-none}

-- a body that has its query
abbrev pub queried : (ℕ → ℕ) → Body → Body
queried ρ (Semantic asked permanent prohibited) = Semantic (referred_by ρ asked) [] []
queried ρ other = written other

pub queried-stage : (ρ : ℕ → ℕ) (body : Body) → IsPlainKind body → IsStage (queried ρ body) body
queried-stage ρ (Semantic asked permanent prohibited) k = semantic-stage (referred_by ρ asked) asked [] [] permanent prohibited
queried-stage ρ (File text dirty shown) k = written-stage (File text dirty shown) k
queried-stage ρ Dir k = written-stage Dir k
queried-stage ρ (Symlink target) k = written-stage (Symlink target) k
queried-stage ρ (Mount space kept) k = written-stage (Mount space kept) k
queried-stage ρ Document k = written-stage Document k

pub written-asks : (ρ : ℕ → ℕ) (body : Body) → IsAsking ρ (written body) body
written-asks ρ (File text dirty shown) = record { query = λ asked is. absurd cc; added = λ m inside. absurd inside }
written-asks ρ Dir = record { query = λ asked is. absurd cc; added = λ m inside. absurd inside }
written-asks ρ (Symlink target) = record { query = λ asked is. absurd cc; added = λ m inside. absurd inside }
written-asks ρ (Semantic q permanent prohibited) = record { query = λ asked is. absurd cc; added = λ m inside. absurd inside }
written-asks ρ (Mount space kept) = record { query = λ asked is. absurd cc; added = λ m inside. absurd inside }
written-asks ρ Document = record { query = λ asked is. absurd cc; added = λ m inside. absurd inside }

pub queried-asks : (ρ : ℕ → ℕ) (body : Body) → IsAsking ρ (queried ρ body) body
queried-asks ρ (Semantic q permanent prohibited) = record { query = λ asked is. (q, refl, (let even : asked ≡ referred_by ρ q = cc in even)); added = λ m inside. absurd inside }
queried-asks ρ (File text dirty shown) = written-asks ρ (File text dirty shown)
queried-asks ρ Dir = written-asks ρ Dir
queried-asks ρ (Symlink target) = written-asks ρ (Symlink target)
queried-asks ρ (Mount space kept) = written-asks ρ (Mount space kept)
queried-asks ρ Document = written-asks ρ Document

or-true : (b : Bool) → (b || true) ≡ true
or-true true = refl
or-true false = refl

or-false : (b : Bool) → (b || false) ≡ b
or-false true = refl
or-false false = refl

-- what one more entry comes to is put into place
pub puts-one : (s : State) (stage final : Entry → Body) (done : List Entry) (e : Entry) → entry_at s.entries e.number ≡ Some e → (es : List Entry) → AllByRecursion (λ x. entry_at s.entries x.number ≡ Some x) es
    → AllByRecursion (λ x. put (puts stage final done) e.number (final e) x ≡ puts stage final (done ++ e ∷ []) x) es
puts-one s stage final done e here [] there = tt
puts-one s stage final done e here (x ∷ es) there = (one, puts-one s stage final done e here es there.1)
  where
    one : put (puts stage final done) e.number (final e) x ≡ puts stage final (done ++ e ∷ []) x
    one = elim (x.number == e.number) as (λ b. (x.number == e.number) ≡ b → (if b then final e else puts stage final done x) ≡ puts stage final (done ++ e ∷ []) x) [
      | true ↦ (λ same.
          let even : x ≡ e = (let both : Some x ≡ Some e = sym there.0 ∙ ap (entry_at s.entries) (eqb-true x.number e.number same) ∙ here in cc) in
          ap final (sym even)
          ∙ sym (ap (λ (b : Bool). if b then final x else stage x)
          (done-last done e x.number ∙ ap (λ (b : Bool). is_done done x.number || b) (eq-eqb e.number x.number (sym (eqb-true x.number e.number same))) ∙ or-true (is_done done x.number))))
      | false ↦ (λ other.
          sym (ap (λ (b : Bool). if b then final x else stage x)
          (done-last done e x.number ∙ ap (λ (b : Bool). is_done done x.number || b) (ne_eqb e.number x.number (λ same. eqb-false x.number e.number other (sym same))) ∙ or-false (is_done done x.number))))
    ] refl

-- nothing changes where an entry has come to what it is to
pub puts-same : (stage final : Entry → Body) (done : List Entry) (e : Entry) (s : State) → entry_at s.entries e.number ≡ Some e → final e ≡ stage e → (es : List Entry) → AllByRecursion (λ x. entry_at s.entries x.number ≡ Some x) es
    → AllByRecursion (λ x. puts stage final done x ≡ puts stage final (done ++ e ∷ []) x) es
puts-same stage final done e s here same [] there = tt
puts-same stage final done e s here same (x ∷ es) there = (one, puts-same stage final done e s here same es there.1)
  where
    one : puts stage final done x ≡ puts stage final (done ++ e ∷ []) x
    one = elim (e.number == x.number) as (λ b. (e.number == x.number) ≡ b → puts stage final done x ≡ puts stage final (done ++ e ∷ []) x) [
      | true ↦ (λ is.
          let even : e ≡ x = (let both : Some e ≡ Some x = sym here ∙ ap (entry_at s.entries) (eqb-true e.number x.number is) ∙ there.0 in cc) in
          let last : puts stage final (done ++ e ∷ []) x ≡ final x = ap (λ (b : Bool). if b then final x else stage x) (done-last done e x.number ∙ ap (λ (b : Bool). is_done done x.number || b) is ∙ or-true (is_done done x.number)) in
          let alike : final x ≡ stage x = subst (λ (y : Entry). final y ≡ stage y) even same in
          elim (is_done done x.number) as (λ b. (if b then final x else stage x) ≡ puts stage final (done ++ e ∷ []) x) [
            | true ↦ sym last
            | false ↦ sym alike ∙ sym last
          ])
      | false ↦ (λ other.
          sym (ap (λ (b : Bool). if b then final x else stage x) (done-last done e x.number ∙ ap (λ (b : Bool). is_done done x.number || b) other ∙ or-false (is_done done x.number))))
    ] refl

module _ (s : State) (ρ : ℕ → ℕ) (sessions : List Session) (es : List Entry) (h : IsValid s) (plain : (e : Entry) → entry_at s.entries e.number ≡ Some e → IsPlainKind e.body) (p : IsPart s ρ es) (complete : (n : ℕ) → Lives s.entries n → Lives es n)
    (kept : (e : Entry) (k : ℕ) → entry_at s.entries e.number ≡ Some e → Among (permanent_in e.body) k → Lives s.entries k) where
  abbrev pub stage_of : List Entry → Entry → Body
  stage_of done = puts (λ e. written e.body) (λ e. queried ρ e.body) done

  abbrev pub U : List Entry → State
  U done = part ρ (stage_of done) sessions es

  pub stages-of : (done : List Entry) → Stages s (stage_of done)
  stages-of done e there = elim (is_done done e.number) as (λ b. IsStage (if b then queried ρ e.body else written e.body) e.body) [
    | true ↦ queried-stage ρ e.body (plain e there)
    | false ↦ written-stage e.body (plain e there)
  ]

  asks-of : (done : List Entry) (e : Entry) → IsAsking ρ (stage_of done e) e.body
  asks-of done e = elim (is_done done e.number) as (λ b. IsAsking ρ (if b then queried ρ e.body else written e.body) e.body) [ true ↦ queried-asks ρ e.body | false ↦ written-asks ρ e.body ]

  made : (done : List Entry) (e : Entry) → entry_at s.entries e.number ≡ Some e → (q : Formula ℕ) (permanent prohibited : List ℕ) → e.body ≡ Semantic q permanent prohibited
      → IsLayout (U done) → IsClear (U done) (command.Setq (word_at s e.number) (referred_by (word_at s) q)) (resolved.Setq (ρ e.number) (referred_by ρ q)) (event.Setq (ρ e.number) (referred_by ρ q) [] ∷ []) (U (done ++ e ∷ []))
  made done e there q permanent prohibited is layout = record {
    version = refl;
    still = refl;
    resolves =
        ap (λ (r : Result ℕ Refusal). and_then (λ dir. and_then (λ asked. Ok (resolved.Setq dir asked)) (numbered_query (U done) from (referred_by (word_at s) q))) r)
        (holder-found s ρ (stage_of done) sessions es h.layout (stages-of done) p complete layout from e.number dir)
        ∙ ap (λ (r : Result (Formula ℕ) Refusal). and_then (λ asked. Ok (resolved.Setq (ρ e.number) asked)) r)
        (numbered s ρ (stage_of done) sessions es h.layout (stages-of done) p complete layout from q named);
    unblocked = ap (λ (b : Bool). if b then Some refusal.Root else None) (lives-zero s ρ (stage_of done) sessions es h.layout p fits e.number live ∙ no_root);
    acyclic = ap (cycle_by (U done)) cycle;
    stays = refl;
    unasked = asks-none (referred_by ρ q) (U done) mounts;
    unsaved = refl;
    quiet = refl;
    stored = ap (λ (told : List (List ℕ)). event.Setq (ρ e.number) (referred_by ρ q) told ∷ []) (told-nothing (U done) (mounts_asked (U done) (referred_by ρ q)));
    leads =
        ap (λ (v : State). changed_at v (ρ e.number) (edited (asking (referred_by ρ q)))) (told-none (referred_by ρ q) (told_for (U done) (referred_by ρ q) []) (U done) mounts)
        ∙ part-edited ρ (stage_of done) sessions es e.number e (asking (referred_by ρ q)) (queried ρ e.body) p.counted (made-own s ρ (stage_of done) sessions es h.layout p fits 1 es p.counted) found asks
        ∙ part-alike ρ (put (stage_of done) e.number (queried ρ e.body)) (stage_of (done ++ e ∷ [])) sessions es (puts-one s (λ e. written e.body) (λ e. queried ρ e.body) done e there es p.from);
    limits = made-within s ρ (stage_of (done ++ e ∷ [])) sessions es h.layout p (stages-all s (stage_of (done ++ e ∷ [])) es (stages-of (done ++ e ∷ [])) p.from);
    few = made-few s ρ (stage_of (done ++ e ∷ [])) sessions es h.layout p (stages-all s (stage_of (done ++ e ∷ [])) es (stages-of (done ++ e ∷ [])) p.from);
  }
    where
      fits : AllByRecursion (λ e. IsStage (stage_of done e) e.body) es
      fits = stages-all s (stage_of done) es (stages-of done) p.from

      from : ℕ
      from = stands_in sessions main_session

      live : Lives es e.number
      live = complete e.number (inr (e, there))

      no_root : (e.number == 0) ≡ false
      no_root = ne_eqb e.number 0 (λ same. let none : None ≡ Some e = sym (ap (entry_at s.entries) same ∙ root-none s h.layout) ∙ there in absurd cc)

      dir : is_directory_at s.entries e.number ≡ true
      dir = (λ i. no_root i || option_map_or is_directory (option_map (λ (e : Entry). e.body) (there i)) false) ∙ ap is_directory is

      sound : IsSoundQuery s q permanent prohibited
      sound = subst (λ (b : Body). AsksWell s b) is (entry_at-all (λ e. AsksWell s e.body) s.entries e.number e h.queries there)

      named : are_directories s (named_in q) ≡ true
      named = (and_parts (is_query q) (are_directories s (named_in q)) sound.fits).1

      mounts : NoMounts (U done).entries
      mounts = none-mounted s ρ (stage_of done) sessions es h.layout (stages-of done) p complete layout

      found : entry_at es e.number ≡ Some e
      found = own live
        where
          own : Lives es e.number → entry_at es e.number ≡ Some e
          own (inl root) = let none : None ≡ Some e = sym (ap (entry_at s.entries) root ∙ root-none s h.layout) ∙ there in absurd cc
          own (inr (f, other)) =
              let both : Some f ≡ Some e = sym (made-there s ρ (stage_of done) sessions es h.layout p fits e.number f other) ∙ there in
              other ∙ both

      asks : asking (referred_by ρ q) (stage_of done e) ≡ queried ρ e.body
      asks = elim (is_done done e.number) as (λ b. asking (referred_by ρ q) (if b then queried ρ e.body else written e.body) ≡ queried ρ e.body) [
        | true ↦ ap (λ (b : Body). asking (referred_by ρ q) (queried ρ b)) is ∙ ap (queried ρ) (sym is)
        | false ↦ ap (λ (b : Body). asking (referred_by ρ q) (written b)) is ∙ ap (queried ρ) (sym is)
      ]

      edges : depends s e.number ≡ e.parent ∷ named_in q ++ filter (is_directory_at s.entries) permanent
      edges = edges-told s e.number ∙ ap (λ (o : Option Entry). (facts_at (is_directory_at s.entries) o).edges) there ∙ ap (λ (b : Body). (facts_at (is_directory_at s.entries) (Some (record e { body = b }))).edges) is

      cycle : cycle_over (U done) (ρ e.number) (parent_of (U done) (ρ e.number)) (referred_by ρ q) ≡ None
      cycle =
          (λ i. first_reaching (U done) (ρ e.number) (option_map_or (λ (e : Entry). e.parent) (made-entry s ρ (stage_of done) sessions es h.layout p fits e.number e found i) 0 ∷ named-referred ρ q i))
          ∙ first-none s ρ (stage_of done) sessions es h (stages-of done) (λ e _. asks-of done e) p complete kept e.number (e.parent ∷ named_in q) live
          (λ k inside. subst (λ (l : List ℕ). Among l k) (sym edges) (among-left (e.parent ∷ named_in q) (filter (is_directory_at s.entries) permanent) k inside))

  -- each semantic directory among them gets its query
  pub record IsReadable (e : Entry) : Type 0 where
    pub there : entry_at s.entries e.number ≡ Some e
    pub spelled : (q : Formula ℕ) → query_in e.body ≡ Some q → is_spelled_query (referred_by (word_at s) q) ≡ true

  abbrev pub events_of : Entry → List Event
  events_of e = option_map_or (λ q. event.Setq (ρ e.number) (referred_by ρ q) [] ∷ []) (query_in e.body) []

  step : (done : List Entry) (e : Entry) → IsReadable e → IsValid (U done) → Leads (U done) (set_query s e) (events_of e) (U (done ++ e ∷ []))
  step done e r valid = at e.body refl
    where
      of : (body : Body) → Type 0
      of body = Leads (U done) (option_map_or (λ query. command.Setq (word_at s e.number) (referred_by (word_at s) query) ∷ []) (query_in body) []) (option_map_or (λ q. event.Setq (ρ e.number) (referred_by ρ q) [] ∷ []) (query_in body) []) (U (done ++ e ∷ []))

      unset : queried ρ e.body ≡ written e.body → Leads (U done) [] [] (U (done ++ e ∷ []))
      unset same =
          let even : U done ≡ U (done ++ e ∷ []) = part-alike ρ (stage_of done) (stage_of (done ++ e ∷ [])) sessions es (puts-same (λ e. written e.body) (λ e. queried ρ e.body) done e s r.there same es p.from) in
          subst (λ (v : State). Leads (U done) [] [] v) even (record { plays = plays-none (U done); valid = valid })

      at : (body : Body) → e.body ≡ body → of body
      at (Semantic q permanent prohibited) is =
          leads-one (U done) (U (done ++ e ∷ [])) (command.Setq (word_at s e.number) (referred_by (word_at s) q)) (resolved.Setq (ρ e.number) (referred_by ρ q)) (event.Setq (ρ e.number) (referred_by ρ q) [] ∷ []) valid
          (and_from (is_spelled_word (word_at s e.number)) (is_spelled_query (referred_by (word_at s) q)) (path-named s e.number h.layout (inr (e, r.there))) (r.spelled q (ap query_in is)))
          (made done e r.there q permanent prohibited is valid.layout)
      at (File text dirty shown) is = unset (ap (queried ρ) is ∙ sym (ap written is))
      at Dir is = unset (ap (queried ρ) is ∙ sym (ap written is))
      at (Symlink target) is = unset (ap (queried ρ) is ∙ sym (ap written is))
      at (Mount space kept) is = unset (ap (queried ρ) is ∙ sym (ap written is))
      at Document is = unset (ap (queried ρ) is ∙ sym (ap written is))

  pub queries-lead : (done todo : List Entry) → AllByRecursion IsReadable todo → IsValid (U done) → Leads (U done) (flat_map (set_query s) todo) (flat_map events_of todo) (U (done ++ todo))
  queries-lead done [] r valid = subst (λ (l : List Entry). Leads (U done) [] [] (U l)) (sym (append-nil done)) (record { plays = plays-none (U done); valid = valid })
  queries-lead done (e ∷ todo) r valid =
      subst (λ (l : List Entry). Leads (U done) (set_query s e ++ flat_map (set_query s) todo) (events_of e ++ flat_map events_of todo) (U l)) (append_assoc done (e ∷ []) todo)
      (leads-both (U done) (U (done ++ e ∷ [])) (U ((done ++ e ∷ []) ++ todo)) (set_query s e) (flat_map (set_query s) todo) (events_of e) (flat_map events_of todo) refl (step done e r.0 valid)
      (queries-lead (done ++ e ∷ []) todo r.1))
