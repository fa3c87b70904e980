-- Semantic directories get their marks.
use Rattle.std.proofs.Common.{◌≡◌, ℕ, ◌+◌, ◌≤◌, Bool, true, false, List, [], ◌∷◌, ◌++◌, map, subst, refl, ap, sym, ◌∙◌, arith, inl, inr, eq-eqb}
use Rattle.std.specs.Prelude.{◌&&◌, ◌||◌, ◌==◌, not, filter, if◌then◌else◌, Option, Some, None, Result, Ok, is_some, option_and_then}
use Rattle.std.specs.List.{AllByRecursion, flat_map}
use Rattle.std.specs.Option.{option_map, option_map_or}
use Rattle.std.proofs.lemmas.Bool.{and_from, and_parts, eqb-true, ne_eqb}
use Rattle.hac_model.specs.Query.Formula.{Formula}
use Rattle.hac_model.specs.Query.QueryText.{referred_by}
use Rattle.hac_model.specs.Run.Answers.{and_then, first_cause}
use Rattle.hac_model.specs.Run.Refusals.{already_cause, cycle_by, directory_cause, marks, plain_cause, unlinked_cause}
use Rattle.hac_model.specs.Run.Resolving.{directory}
use Rattle.hac_model.specs.Script.Lines.{is_spelled, is_spelled_word}
use Rattle.hac_model.specs.Script.SessionWords.{main_session}
use Rattle.hac_model.specs.Tree.Depends.{Among, cycle_of_mark, depends, first_reaching, named_in}
use Rattle.hac_model.specs.Tree.Events.{marked, put_in, without}
use Rattle.hac_model.specs.Tree.Facts.{facts_at}
use Rattle.hac_model.specs.Tree.Links.{has, is_permanent, transient_at}
use Rattle.hac_model.specs.Tree.{entry_at, is_directory, is_directory_at, is_symlink_at, path_of, permanent_in, query_in}
use Rattle.hac_model.specs.Tree.Valid.{IsLayout, IsValid, RiseFrom}
use Rattle.hac_model.specs.declared.commands.Command.TheVariants as command
use Rattle.hac_model.specs.declared.marks.Kind.TheVariants.{Permanent, Prohibited}
use Rattle.hac_model.specs.declared.replies.Refusal.{Refusal}
use Rattle.hac_model.specs.declared.replies.Refusal.TheVariants as refusal
use Rattle.hac_model.specs.declared.resolved.Resolved.TheVariants as resolved
use Rattle.hac_model.specs.declared.states.Body.{Body}
use Rattle.hac_model.specs.declared.states.Body.TheVariants.{Semantic}
use Rattle.hac_model.specs.declared.states.Entry.{Entry}
use Rattle.hac_model.specs.declared.states.Session.{Session}
use Rattle.hac_model.specs.declared.states.State.{State}
use Rattle.hac_model.proofs.AmongLemmas.{among-has, among-right}
use Rattle.hac_model.proofs.FactLemmas.{edges-told}
use Rattle.hac_model.proofs.LookLemmas.{path-named}
use Rattle.hac_model.proofs.MarkLemmas.{has-filter, has-put_in}
use Rattle.hac_model.proofs.PathLemmas.{root-none}
use Rattle.hac_model.proofs.TreeLemmas.{Lives}
use Rattle.hac_model.specs.Script.Dump.{add_here, remove_here, word_at, word_here}
use Rattle.hac_dump.proofs.AddLemmas.{Leads, leads-both, leads-one}
use Rattle.hac_dump.proofs.EdgeLemmas.{IsAsking, filter-among, first-none, lives-one}
use Rattle.hac_dump.proofs.EditLemmas.{part-alike, part-edited, put}
use Rattle.hac_dump.proofs.FindLemmas.{entry-found, here-found}
use Rattle.hac_dump.proofs.PartLemmas.{IsPart, IsStage, Stages, made-directory, made-entry, made-few, made-own, made-there, made-within, part, stages-all}
use Rattle.hac_dump.proofs.StageLemmas.{semantic-stage}
use Rattle.hac_dump.proofs.StepLemmas.{IsClear}
use Rattle.hac_dump.proofs.TurnLemmas.{plays-none}

-- the session stands in a directory
abbrev pub standing : ℕ → List Session
standing dir = record { name = main_session; dir = dir } ∷ []

-- the marks that the commands give, one behind the other
abbrev pub adds : (ℕ → ℕ) → List ℕ → Body → Body
adds ρ [] body = body
adds ρ (x ∷ xs) body = adds ρ xs (marked (ρ x) Permanent body)

abbrev pub removes : (ℕ → ℕ) → List ℕ → Body → Body
removes ρ [] body = body
removes ρ (x ∷ xs) body = removes ρ xs (marked (ρ x) Prohibited (marked (ρ x) Permanent body))

module _ (s : State) (ρ : ℕ → ℕ) (stage : Entry → Body) (es : List Entry) (h : IsValid s) (stages : Stages s stage) (asking : (e : Entry) → entry_at s.entries e.number ≡ Some e → IsAsking ρ (stage e) e.body) (p : IsPart s ρ es) (complete : (n : ℕ) → Lives s.entries n → Lives es n)
    (kept : (e : Entry) (k : ℕ) → entry_at s.entries e.number ≡ Some e → Among (permanent_in e.body) k → Lives s.entries k)
    (e : Entry) (there : entry_at s.entries e.number ≡ Some e) (q : Formula ℕ) (permanent prohibited : List ℕ) (is : e.body ≡ Semantic q permanent prohibited) where
  abbrev pub body_of : List ℕ → List ℕ → Body
  body_of added removed = Semantic (referred_by ρ q) added removed

  -- the directory has come to this body, and the session stands in it
  abbrev pub staged : Body → Entry → Body
  staged body = put stage e.number body

  abbrev pub M : Body → State
  M body = part ρ (staged body) (standing (ρ e.number)) es

  -- each of these is under its new number one that the directory has
  pub IsGrown : List ℕ → Type 0
  IsGrown added = (m : ℕ) → has added m ≡ true → (k : ℕ) × (m ≡ ρ k) × Among permanent k

  same-entry : (x : Entry) → entry_at s.entries x.number ≡ Some x → (x.number == e.number) ≡ true → x ≡ e
  same-entry x here same = let both : Some x ≡ Some e = sym here ∙ ap (entry_at s.entries) (eqb-true x.number e.number same) ∙ there in cc

  pub staged-stages : (added removed : List ℕ) → Stages s (staged (body_of added removed))
  staged-stages added removed x here = elim (x.number == e.number) as (λ b. (x.number == e.number) ≡ b → IsStage (if b then body_of added removed else stage x) x.body) [
    | true ↦ (λ same. subst (λ (b : Body). IsStage (body_of added removed) b) (sym (ap (λ (y : Entry). y.body) (same-entry x here same) ∙ is)) (semantic-stage (referred_by ρ q) q added removed permanent prohibited))
    | false ↦ (λ _. stages x here)
  ] refl

  staged-asks : (added removed : List ℕ) → IsGrown added → (x : Entry) → entry_at s.entries x.number ≡ Some x → IsAsking ρ (staged (body_of added removed) x) x.body
  unfolding IsGrown
  staged-asks added removed grown x here = elim (x.number == e.number) as (λ b. (x.number == e.number) ≡ b → IsAsking ρ (if b then body_of added removed else stage x) x.body) [
    | true ↦ (λ same. subst (λ (b : Body). IsAsking ρ (body_of added removed) b) (sym (ap (λ (y : Entry). y.body) (same-entry x here same) ∙ is))
        (record { query = λ asked told. (q, refl, (let even : asked ≡ referred_by ρ q = cc in even)); added = λ m inside. grown m (among-has added m inside) }))
    | false ↦ (λ _. asking x here)
  ] refl

  live : Lives es e.number
  live = complete e.number (inr (e, there))

  own : entry_at es e.number ≡ Some e
  own = at live
    where
      at : Lives es e.number → entry_at es e.number ≡ Some e
      at (inl root) = let none : None ≡ Some e = sym (ap (entry_at s.entries) root ∙ root-none s h.layout) ∙ there in absurd cc
      at (inr (f, other)) = let both : Some f ≡ Some e = sym (made-there s ρ stage [] es h.layout p (stages-all s stage es stages p.from) e.number f other) ∙ there in other ∙ both

  dir : is_directory_at s.entries e.number ≡ true
  dir = (λ i. ne_eqb e.number 0 (λ same. let none : None ≡ Some e = sym (ap (entry_at s.entries) same ∙ root-none s h.layout) ∙ there in absurd cc) i || option_map_or is_directory (option_map (λ (e : Entry). e.body) (there i)) false) ∙ ap is_directory is

  at-it : (body : Body) → staged body e ≡ body
  at-it body = ap (λ (b : Bool). if b then body else stage e) (eq-eqb e.number e.number refl)

  fits : (added removed : List ℕ) → AllByRecursion (λ x. IsStage (staged (body_of added removed) x) x.body) es
  fits added removed = stages-all s (staged (body_of added removed)) es (staged-stages added removed) p.from

  there-body : (added removed : List ℕ) → option_map (λ (e : Entry). e.body) (entry_at (M (body_of added removed)).entries (ρ e.number)) ≡ Some (body_of added removed)
  there-body added removed =
      ap (option_map (λ (e : Entry). e.body)) (made-entry s ρ (staged (body_of added removed)) (standing (ρ e.number)) es h.layout p (fits added removed) e.number e own)
      ∙ ap (λ (b : Body). Some b) (at-it (body_of added removed))

  semantic : (added removed : List ℕ) → plain_cause (M (body_of added removed)) (ρ e.number) ≡ None
  semantic added removed = ap (λ (o : Option Body). if is_some (option_and_then query_in o) then None else Some (refusal.NotSemantic (path_of (M (body_of added removed)) (ρ e.number)))) (there-body added removed)

  permanent-is : (added removed : List ℕ) (m : ℕ) → is_permanent (M (body_of added removed)) (ρ e.number) m ≡ has added m
  permanent-is added removed m = ap (λ (o : Option Body). has (option_map_or permanent_in o []) m) (there-body added removed)

  edges : depends s e.number ≡ e.parent ∷ named_in q ++ filter (is_directory_at s.entries) permanent
  edges = edges-told s e.number ∙ ap (λ (o : Option Entry). (facts_at (is_directory_at s.entries) o).edges) there ∙ ap (λ (b : Body). (facts_at (is_directory_at s.entries) (Some (record e { body = b }))).edges) is

  again : (old new : Body) → part ρ (put (staged old) e.number new) (standing (ρ e.number)) es ≡ M new
  again old new = part-alike ρ (put (staged old) e.number new) (staged new) (standing (ρ e.number)) es (each es)
    where
      each : (rest : List Entry) → AllByRecursion (λ x. put (staged old) e.number new x ≡ staged new x) rest
      each [] = tt
      each (x ∷ rest) = (elim (x.number == e.number) as (λ b. (if b then new else (if b then old else stage x)) ≡ (if b then new else stage x)) [ true ↦ refl | false ↦ refl ], each rest)

  -- what may be marked: something that lives and is no link, and where it is a directory, one that was added
  pub record IsMarkable (x : ℕ) : Type 0 where
    pub lives : Lives s.entries x
    pub plain : is_symlink_at s.entries x ≡ false
    pub lent : is_directory_at s.entries x ≡ true → Among permanent x

  spelled : (x : ℕ) → Lives s.entries x → is_spelled (add_here s x) ≡ true
  spelled x lives = and_from (is_spelled_word (word_at s x)) true (path-named s x h.layout lives) refl

  adds-one : (added removed : List ℕ) (x : ℕ) → IsMarkable x → IsGrown added → has added (ρ x) ≡ false → IsLayout (M (body_of added removed))
      → IsClear (M (body_of added removed)) (add_here s x) (resolved.Sln (ρ x) (ρ e.number)) (marks (ρ x) (ρ e.number) Permanent ∷ []) (M (marked (ρ x) Permanent (body_of added removed)))
  adds-one added removed x m grown new layout = record {
    version = refl;
    still = refl;
    resolves =
        ap (λ (r : Result ℕ Refusal). and_then (λ first. and_then (λ second. Ok (resolved.Sln first second)) (directory u (ρ e.number) word_here)) r)
        (entry-found s ρ (staged (body_of added removed)) (standing (ρ e.number)) es h.layout (staged-stages added removed) p complete layout (ρ e.number) x m.lives m.plain)
        ∙ ap (λ (r : Result ℕ Refusal). and_then (λ second. Ok (resolved.Sln (ρ x) second)) r)
        (here-found s ρ (staged (body_of added removed)) (standing (ρ e.number)) es h.layout (staged-stages added removed) p complete layout e.number dir);
    unblocked = λ i. first_cause (semantic added removed i ∷ fresh i ∷ []);
    acyclic = ap (cycle_by u) (cycle (is_directory_at s.entries x) refl);
    stays = refl;
    unasked = refl;
    unsaved = refl;
    quiet = refl;
    stored = refl;
    leads =
        part-edited ρ (staged (body_of added removed)) (standing (ρ e.number)) es e.number e (marked (ρ x) Permanent) (marked (ρ x) Permanent (body_of added removed)) p.counted (made-own s ρ (staged (body_of added removed)) (standing (ρ e.number)) es h.layout p (fits added removed) 1 es p.counted) own (ap (marked (ρ x) Permanent) (at-it (body_of added removed)))
        ∙ again (body_of added removed) (marked (ρ x) Permanent (body_of added removed));
    limits = made-within s ρ (staged (body_of (put_in (ρ x) (without (ρ x) added)) (without (ρ x) removed))) (standing (ρ e.number)) es h.layout p (fits (put_in (ρ x) (without (ρ x) added)) (without (ρ x) removed));
    few = made-few s ρ (staged (body_of (put_in (ρ x) (without (ρ x) added)) (without (ρ x) removed))) (standing (ρ e.number)) es h.layout p (fits (put_in (ρ x) (without (ρ x) added)) (without (ρ x) removed));
  }
    where
      u : State
      u = M (body_of added removed)

      fresh : already_cause u (ρ x) (ρ e.number) ≡ None
      fresh = ap (λ (b : Bool). if b then Some (refusal.Already (path_of u (ρ x))) else None) (permanent-is added removed (ρ x) ∙ new)

      told : is_directory_at u.entries (ρ x) ≡ is_directory_at s.entries x
      told = made-directory s ρ (staged (body_of added removed)) (standing (ρ e.number)) es h.layout p (fits added removed) x (complete x m.lives)

      cycle : (b : Bool) → is_directory_at s.entries x ≡ b → cycle_of_mark u (ρ e.number) (ρ x) Permanent ≡ None
      cycle false plain = ap (λ (b : Bool). if b then first_reaching u (ρ e.number) (ρ x ∷ []) else None) (told ∙ plain)
      cycle true lends =
          ap (λ (b : Bool). if b then first_reaching u (ρ e.number) (ρ x ∷ []) else None) (told ∙ lends)
          ∙ first-none s ρ (staged (body_of added removed)) (standing (ρ e.number)) es h (staged-stages added removed) (staged-asks added removed grown) p complete kept e.number (x ∷ []) live inside
        where
          inside : (k : ℕ) → Among (x ∷ []) k → Among (depends s e.number) k
          inside k (inl same) =
              subst (λ (j : ℕ). Among (depends s e.number) j) same
              (subst (λ (l : List ℕ). Among l x) (sym edges) (among-right (e.parent ∷ named_in q) (filter (is_directory_at s.entries) permanent) x (filter-among (is_directory_at s.entries) permanent x lends (m.lent lends))))
          inside k (inr none) = absurd none

  removes-one : (added removed : List ℕ) (x : ℕ) → Lives s.entries x → is_symlink_at s.entries x ≡ false → is_directory_at s.entries x ≡ false → has added (ρ x) ≡ true → IsLayout (M (body_of added removed))
      → IsClear (M (body_of added removed)) (command.Srm (word_at s x) word_here) (resolved.Srm (ρ x) (ρ e.number)) (marks (ρ x) (ρ e.number) Prohibited ∷ []) (M (marked (ρ x) Prohibited (body_of added removed)))
  removes-one added removed x lives plain item old layout = record {
    version = refl;
    still = refl;
    resolves =
        ap (λ (r : Result ℕ Refusal). and_then (λ first. and_then (λ second. Ok (resolved.Srm first second)) (directory u (ρ e.number) word_here)) r)
        (entry-found s ρ (staged (body_of added removed)) (standing (ρ e.number)) es h.layout (staged-stages added removed) p complete layout (ρ e.number) x lives plain)
        ∙ ap (λ (r : Result ℕ Refusal). and_then (λ second. Ok (resolved.Srm (ρ x) second)) r)
        (here-found s ρ (staged (body_of added removed)) (standing (ρ e.number)) es h.layout (staged-stages added removed) p complete layout e.number dir);
    unblocked = λ i. first_cause (file i ∷ semantic added removed i ∷ linked i ∷ []);
    acyclic = refl;
    stays = refl;
    unasked = refl;
    unsaved = refl;
    quiet = refl;
    stored = refl;
    leads =
        part-edited ρ (staged (body_of added removed)) (standing (ρ e.number)) es e.number e (marked (ρ x) Prohibited) (marked (ρ x) Prohibited (body_of added removed)) p.counted (made-own s ρ (staged (body_of added removed)) (standing (ρ e.number)) es h.layout p (fits added removed) 1 es p.counted) own (ap (marked (ρ x) Prohibited) (at-it (body_of added removed)))
        ∙ again (body_of added removed) (marked (ρ x) Prohibited (body_of added removed));
    limits = made-within s ρ (staged (body_of (without (ρ x) added) (put_in (ρ x) (without (ρ x) removed)))) (standing (ρ e.number)) es h.layout p (fits (without (ρ x) added) (put_in (ρ x) (without (ρ x) removed)));
    few = made-few s ρ (staged (body_of (without (ρ x) added) (put_in (ρ x) (without (ρ x) removed)))) (standing (ρ e.number)) es h.layout p (fits (without (ρ x) added) (put_in (ρ x) (without (ρ x) removed)));
  }
    where
      u : State
      u = M (body_of added removed)

      file : directory_cause u (ρ x) ≡ None
      file = ap (λ (b : Bool). if b then Some (refusal.NotFile (path_of u (ρ x))) else None)
          (made-directory s ρ (staged (body_of added removed)) (standing (ρ e.number)) es h.layout p (fits added removed) x (complete x lives) ∙ item)

      linked : unlinked_cause u (ρ x) (ρ e.number) ≡ None
      linked = ap (λ (b : Bool). if b || has (transient_at u (ρ e.number)) (ρ x) then None else Some (refusal.NotLinked (path_of u (ρ x)))) (permanent-is added removed (ρ x) ∙ old)

  -- ---- one behind the other

  grown-more : (added : List ℕ) (x : ℕ) → Among permanent x → IsGrown added → IsGrown (put_in (ρ x) (without (ρ x) added))
  unfolding IsGrown
  grown-more added x inside grown m is = at (ρ x == m) refl (sym (has-put_in (ρ x) (without (ρ x) added) m) ∙ is)
    where
      at : (b : Bool) → (ρ x == m) ≡ b → (b || has (without (ρ x) added) m) ≡ true → (k : ℕ) × (m ≡ ρ k) × Among permanent k
      at true here _ = (x, sym (eqb-true (ρ x) m here), inside)
      at false other is = grown m (and_parts (not (m == ρ x)) (has added m) (sym (has-filter (λ y. not (y == ρ x)) added m) ∙ is)).1

  -- items and directories are added
  pub adds-lead : (bound : ℕ) (todo added removed : List ℕ) → RiseFrom bound todo → ((k : ℕ) → Among todo k → IsMarkable k × Among permanent k) → IsGrown added → ((x : ℕ) → bound ≤ x → Lives s.entries x → has added (ρ x) ≡ false) → IsValid (M (body_of added removed))
      → (more less : List ℕ) × Leads (M (body_of added removed)) (map (add_here s) todo) (map (λ x. marks (ρ x) (ρ e.number) Permanent) todo) (M (body_of more less)) × IsGrown more × (adds ρ todo (body_of added removed) ≡ body_of more less)
  adds-lead bound [] added removed rise may grown new valid = (added, removed, record { plays = plays-none (M (body_of added removed)); valid = valid }, grown, refl)
  adds-lead bound (x ∷ todo) added removed rise may grown new valid =
      let here = may x (inl refl) in
      let first = leads-one (M (body_of added removed)) (M (marked (ρ x) Permanent (body_of added removed))) (add_here s x) (resolved.Sln (ρ x) (ρ e.number)) (marks (ρ x) (ρ e.number) Permanent ∷ []) valid (spelled x here.0.lives)
      (adds-one added removed x here.0 grown (new x rise.0 here.0.lives) valid.layout) in
      let on = adds-lead (x + 1) todo (put_in (ρ x) (without (ρ x) added)) (without (ρ x) removed) rise.1 (λ k later. may k (inr later)) (grown-more added x here.1 grown) (fresher here.0.lives) first.valid in
      (on.0, on.1, leads-both (M (body_of added removed)) (M (marked (ρ x) Permanent (body_of added removed))) (M (body_of on.0 on.1)) (add_here s x ∷ []) (map (add_here s) todo) (marks (ρ x) (ρ e.number) Permanent ∷ []) (map (λ x. marks (ρ x) (ρ e.number) Permanent) todo) refl first (λ _. on.2), on.3, on.4)
    where
      fresher : Lives s.entries x → (y : ℕ) → x + 1 ≤ y → Lives s.entries y → has (put_in (ρ x) (without (ρ x) added)) (ρ y) ≡ false
      fresher live y above lives =
          has-put_in (ρ x) (without (ρ x) added) (ρ y)
          ∙ ap (λ (b : Bool). b || has (without (ρ x) added) (ρ y)) (ne_eqb (ρ x) (ρ y) (λ same. (let one = lives-one s ρ stage [] es h stages asking p complete kept x y (complete x live) (complete y lives) same in omega (arith, one, above))))
          ∙ has-filter (λ z. not (z == ρ x)) added (ρ y)
          ∙ ap (λ (b : Bool). not (ρ y == ρ x) && b) (new y (let low : bound ≤ x = rise.0 in omega (arith, low, above)) lives)
          ∙ and-false (not (ρ y == ρ x))
        where
          and-false : (b : Bool) → (b && false) ≡ false
          and-false true = refl
          and-false false = refl

  pub none-grown : IsGrown []
  unfolding IsGrown
  none-grown m is = absurd cc

  -- what was removed again isn't there
  without-grown : (added : List ℕ) (x : ℕ) → IsGrown added → IsGrown (without (ρ x) (put_in (ρ x) (without (ρ x) added)))
  unfolding IsGrown
  without-grown added x grown m is =
      let parts = and_parts (not (m == ρ x)) (has (put_in (ρ x) (without (ρ x) added)) m) (sym (has-filter (λ y. not (y == ρ x)) (put_in (ρ x) (without (ρ x) added)) m) ∙ is) in
      at (ρ x == m) refl parts.0 (sym (has-put_in (ρ x) (without (ρ x) added) m) ∙ parts.1)
    where
      at : (b : Bool) → (ρ x == m) ≡ b → not (m == ρ x) ≡ true → (b || has (without (ρ x) added) m) ≡ true → (k : ℕ) × (m ≡ ρ k) × Among permanent k
      at true here other _ = let never : not true ≡ true = sym (ap not (eq-eqb m (ρ x) (sym (eqb-true (ρ x) m here)))) ∙ other in absurd cc
      at false here other is = grown m (and_parts (not (m == ρ x)) (has added m) (sym (has-filter (λ y. not (y == ρ x)) added m) ∙ is)).1

  grown-told : (added : List ℕ) → IsGrown added → (m : ℕ) → has added m ≡ true → (k : ℕ) × (m ≡ ρ k) × Among permanent k
  unfolding IsGrown
  grown-told added grown m is = grown m is

  -- an item that is to be removed
  pub record IsRemovable (x : ℕ) : Type 0 where
    pub lives : Lives s.entries x
    pub plain : is_symlink_at s.entries x ≡ false
    pub item : is_directory_at s.entries x ≡ false
    pub apart : Among permanent x → ⊥

  -- items are removed
  pub removes-lead : (todo added removed : List ℕ) → ((k : ℕ) → Among todo k → IsRemovable k) → ((k : ℕ) → Among permanent k → Lives s.entries k) → IsGrown added → IsValid (M (body_of added removed))
      → (more less : List ℕ) × Leads (M (body_of added removed)) (flat_map (remove_here s) todo) (flat_map (λ x. marks (ρ x) (ρ e.number) Permanent ∷ marks (ρ x) (ρ e.number) Prohibited ∷ []) todo) (M (body_of more less)) × IsGrown more × (removes ρ todo (body_of added removed) ≡ body_of more less)
  removes-lead [] added removed may lives grown valid = (added, removed, record { plays = plays-none (M (body_of added removed)); valid = valid }, grown, refl)
  removes-lead (x ∷ todo) added removed may lives grown valid =
      let here = may x (inl refl) in
      let first = leads-one (M (body_of added removed)) (M (marked (ρ x) Permanent (body_of added removed))) (add_here s x) (resolved.Sln (ρ x) (ρ e.number)) (marks (ρ x) (ρ e.number) Permanent ∷ []) valid (spelled x here.lives)
      (adds-one added removed x (record { lives = here.lives; plain = here.plain; lent = λ is. let never : true ≡ false = sym is ∙ here.item in absurd cc }) grown (absent here lives) valid.layout) in
      let now = put_in (ρ x) (without (ρ x) added) in
      let gone = without (ρ x) removed in
      let second = leads-one (M (body_of now gone)) (M (marked (ρ x) Prohibited (body_of now gone))) (command.Srm (word_at s x) word_here) (resolved.Srm (ρ x) (ρ e.number)) (marks (ρ x) (ρ e.number) Prohibited ∷ []) first.valid (spelled x here.lives)
      (removes-one now gone x here.lives here.plain here.item (has-put_in (ρ x) (without (ρ x) added) (ρ x) ∙ ap (λ (b : Bool). b || has (without (ρ x) added) (ρ x)) (eq-eqb (ρ x) (ρ x) refl)) first.valid.layout) in
      let both = leads-both (M (body_of added removed)) (M (body_of now gone)) (M (marked (ρ x) Prohibited (body_of now gone))) (add_here s x ∷ []) (command.Srm (word_at s x) word_here ∷ []) (marks (ρ x) (ρ e.number) Permanent ∷ []) (marks (ρ x) (ρ e.number) Prohibited ∷ []) refl first (λ _. second) in
      let on = removes-lead todo (without (ρ x) now) (put_in (ρ x) (without (ρ x) gone)) (λ k later. may k (inr later)) lives (without-grown added x grown) both.valid in
      (on.0, on.1, leads-both (M (body_of added removed)) (M (marked (ρ x) Prohibited (body_of now gone))) (M (body_of on.0 on.1)) (add_here s x ∷ command.Srm (word_at s x) word_here ∷ []) (flat_map (remove_here s) todo) (marks (ρ x) (ρ e.number) Permanent ∷ marks (ρ x) (ρ e.number) Prohibited ∷ []) (flat_map (λ x. marks (ρ x) (ρ e.number) Permanent ∷ marks (ρ x) (ρ e.number) Prohibited ∷ []) todo) refl both (λ _. on.2), on.3, on.4)
    where
      absent : IsRemovable x → ((k : ℕ) → Among permanent k → Lives s.entries k) → has added (ρ x) ≡ false
      absent here lives = at (has added (ρ x)) refl
        where
          at : (b : Bool) → has added (ρ x) ≡ b → b ≡ false
          at false is = refl
          at true is = from (grown-told added grown (ρ x) is)
            where
              from : (k : ℕ) × (ρ x ≡ ρ k) × Among permanent k → true ≡ false
              from (k, same, inside) =
                  let one : x ≡ k = lives-one s ρ stage [] es h stages asking p complete kept x k (complete x here.lives) (complete k (lives k inside)) same in
                  absurd (here.apart (subst (λ (j : ℕ). Among permanent j) (sym one) inside))
