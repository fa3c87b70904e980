-- Where the words of a dump lead once all entries are made, and what a query asks where no mount is.
use Rattle.std.proofs.Common.{◌≡◌, ℕ, Bool, true, false, List, [], ◌∷◌, ◌++◌, length, map, refl, ap, sym, ◌∙◌, arith}
use Rattle.std.specs.Prelude.{◌-◌, if◌then◌else◌, Option, Some, None, Result, Ok, Err}
use Rattle.std.specs.List.{AllByRecursion, flat_map}
use Rattle.std.specs.Option.{option_map, option_map_or}
use Rattle.std.proofs.lemmas.Bool.{and_parts}
use Rattle.std.proofs.lemmas.List.{append-nil, take_all}
use Rattle.std.proofs.lemmas.List.Folds.{list_all-append}
use Rattle.hac_model.specs.Query.Formula.{Formula}
use Rattle.hac_model.specs.Query.Formula as query
use Rattle.hac_model.specs.Query.QueryText.{referred_by}
use Rattle.hac_model.specs.Run.Answers.{and_then}
use Rattle.hac_model.specs.Run.Asks.{no_asks, query_asks, searches_of, searches_for, space_of, told_to}
use Rattle.hac_model.specs.Run.Resolving.{directory, entry, holder, numbered_query, place, wanted_directory, wanted_entry, wanted_holder}
use Rattle.hac_model.specs.Tree.Asking.{asked_by, gained, gaining, unanswered, with_told}
use Rattle.hac_model.specs.Tree.Depends.{named_in}
use Rattle.hac_model.specs.Tree.Events.{are_directories, edited}
use Rattle.hac_model.specs.Tree.Links.{answers_at}
use Rattle.hac_model.specs.Tree.Looks.{look}
use Rattle.hac_model.specs.Tree.Paths.{without_last}
use Rattle.hac_model.specs.Tree.{entry_at, is_directory_at, is_leaf, is_mount, is_symlink, is_symlink_at, path_of}
use Rattle.hac_model.specs.Tree.Valid.{IsLayout}
use Rattle.hac_model.specs.declared.places.Place.{Place}
use Rattle.hac_model.specs.declared.places.Place.TheVariants.{There}
use Rattle.hac_model.specs.declared.replies.Refusal.{Refusal}
use Rattle.hac_model.specs.declared.replies.Refusal.TheVariants.{InMount, NotDir}
use Rattle.hac_model.specs.declared.spaces.Search.{Search}
use Rattle.hac_model.specs.declared.states.Answer.{Answer}
use Rattle.hac_model.specs.declared.states.Body.{Body}
use Rattle.hac_model.specs.declared.states.Body.TheVariants.{File, Dir, Symlink, Semantic, Mount, Document}
use Rattle.hac_model.specs.declared.states.Entry.{Entry}
use Rattle.hac_model.specs.declared.states.Session.{Session}
use Rattle.hac_model.specs.declared.states.State.{State}
use Rattle.hac_model.proofs.PathLemmas.{root-none}
use Rattle.hac_model.proofs.TreeLemmas.{Lives, directory-lives, directory-no_leaf}
use Rattle.hac_model.specs.Script.Dump.{word_at, word_here}
use Rattle.hac_model.proofs.HereLemmas.{look-there}
use Rattle.hac_dump.proofs.PartLemmas.{IsPart, IsStage, Stages, made-directory, made-lives, made-no_mount, made-path, made-symlink, part, stages-all}

-- ---- where no mount is

abbrev pub NoMounts : List Entry → Type 0
NoMounts es = AllByRecursion (λ e. is_mount e.body ≡ false) es

gaining-none : (more : List Answer) (body : Body) → is_mount body ≡ false → gaining more body ≡ body
gaining-none more (Mount space kept) h = absurd cc
gaining-none more (File text dirty shown) h = refl
gaining-none more Dir h = refl
gaining-none more (Symlink target) h = refl
gaining-none more (Semantic query permanent prohibited) h = refl
gaining-none more Document h = refl

-- nothing is told to anyone
pub told-none : (q : Formula ℕ) (told : List (List ℕ)) (u : State) → NoMounts u.entries → with_told q told u ≡ u
told-none q told u none = λ i. record u { entries = each u.entries none i }
  where
    each : (es : List Entry) → NoMounts es → map (λ e. edited (gaining (gained (answers_at u) q told u.entries e.number)) e) es ≡ es
    each [] none = refl
    each (e ∷ es) none = λ i. record e { body = gaining-none (gained (answers_at u) q told u.entries e.number) e.body none.0 i } ∷ each es none.1 i

unasked-by : (kept : ℕ → List Answer) (q : Formula ℕ) (e : Entry) → is_mount e.body ≡ false → asked_by kept q e ≡ []
unasked-by kept q e none = ap (λ (b : Bool). if b then unanswered q (kept e.number) else []) none

-- and nothing is asked
pub asks-none : (q : Formula ℕ) (u : State) → NoMounts u.entries → query_asks u q ≡ no_asks
asks-none q u none = ap (λ (l : List Search). record no_asks { searches = l }) (each u.entries none)
  where
    each : (es : List Entry) → NoMounts es → flat_map (searches_of u q) es ≡ []
    each [] none = refl
    each (e ∷ es) none = (λ i. searches_for (space_of u e.number) (unasked-by (answers_at u) q e none.0 i) ++ each es none.1 i)

pub told-nothing : (u : State) (mounts : List ℕ) → told_to u mounts [] ≡ []
told-nothing u [] = refl
told-nothing u (m ∷ ms) = refl

-- ---- where words lead

pub no_link-directory : (s : State) (n : ℕ) → IsLayout s → is_directory_at s.entries n ≡ true → is_symlink_at s.entries n ≡ false
no_link-directory s n h there = at (entry_at s.entries n) (directory-no_leaf s.entries n (root-none s h) there)
  where
    at : (o : Option Entry) → option_map_or is_leaf (option_map (λ (e : Entry). e.body) o) false ≡ false → option_map_or is_symlink (option_map (λ (e : Entry). e.body) o) false ≡ false
    at None none = refl
    at (Some e) none = body e.body none
      where
        body : (b : Body) → is_leaf b ≡ false → is_symlink b ≡ false
        body (Symlink target) none = absurd cc
        body other none = refl

module _ (s : State) (ρ : ℕ → ℕ) (stage : Entry → Body) (sessions : List Session) (es : List Entry) (h : IsLayout s) (stages : Stages s stage) (p : IsPart s ρ es) (complete : (n : ℕ) → Lives s.entries n → Lives es n) (layout : IsLayout (part ρ stage sessions es)) where
  abbrev u : State
  u = part ρ stage sessions es

  fits : AllByRecursion (λ e. IsStage (stage e) e.body) es
  fits = stages-all s stage es stages p.from

  pub none-mounted : NoMounts u.entries
  none-mounted = each es fits
    where
      each : (rest : List Entry) → AllByRecursion (λ e. IsStage (stage e) e.body) rest → NoMounts (map (λ e. record { number = ρ e.number; parent = ρ e.parent; name = e.name; body = stage e }) rest)
      each [] all = tt
      each (e ∷ rest) all = (all.0.mounts, each rest all.1)

  pub path-same : (n : ℕ) → Lives s.entries n → path_of u (ρ n) ≡ path_of s n
  path-same n lives = made-path s ρ stage sessions es h p fits layout n lives (complete n lives)

  look-found : (n : ℕ) → Lives s.entries n → is_symlink_at s.entries n ≡ false → look u true (path_of s n) ≡ Ok (There (ρ n))
  look-found n lives plain =
      ap (look u true) (sym (path-same n lives))
      ∙ look-there u true (ρ n) layout (made-lives s ρ stage sessions es h p fits n (complete n lives)) (made-symlink s ρ stage sessions es h p fits n (complete n lives) ∙ plain)

  -- what is no link is found from anywhere
  pub entry-found : (from n : ℕ) → Lives s.entries n → is_symlink_at s.entries n ≡ false → entry u from true (word_at s n) ≡ Ok (ρ n)
  entry-found from n lives plain = ap (λ (r : Result Place Refusal). and_then (wanted_entry u) r) (look-found n lives plain)

  pub made-dir : (n : ℕ) → is_directory_at s.entries n ≡ true → is_directory_at u.entries (ρ n) ≡ true
  made-dir n there = made-directory s ρ stage sessions es h p fits n (complete n (directory-lives s.entries n there)) ∙ there

  pub directory-found : (from n : ℕ) → is_directory_at s.entries n ≡ true → directory u from (word_at s n) ≡ Ok (ρ n)
  directory-found from n there =
      ap (λ (r : Result ℕ Refusal). and_then (wanted_directory u) r) (entry-found from n (directory-lives s.entries n there) (no_link-directory s n h there))
      ∙ ap (λ (b : Bool). if b then Ok (ρ n) else Err (NotDir (path_of u (ρ n)))) (made-dir n there)

  pub holder-found : (from n : ℕ) → is_directory_at s.entries n ≡ true → holder u from (word_at s n) ≡ Ok (ρ n)
  holder-found from n there =
      ap (λ (r : Result ℕ Refusal). and_then (wanted_holder u) r) (directory-found from n there)
      ∙ ap (λ (b : Bool). if b then Err (InMount (path_of u (ρ n))) else Ok (ρ n)) (made-no_mount s ρ stage sessions es h p fits n (complete n (directory-lives s.entries n there)))

  -- `.` leads to where a session stands
  pub here-found : (n : ℕ) → is_directory_at s.entries n ≡ true → directory u (ρ n) word_here ≡ Ok (ρ n)
  here-found n there =
      ap (λ (r : Result Place Refusal). and_then (wanted_directory u) (and_then (wanted_entry u) r)) leads
      ∙ ap (λ (b : Bool). if b then Ok (ρ n) else Err (NotDir (path_of u (ρ n)))) (made-dir n there)
    where
      live : Lives s.entries n
      live = directory-lives s.entries n there

      whole : without_last 0 (path_of u (ρ n)) ++ [] ≡ path_of u (ρ n)
      whole = append-nil (without_last 0 (path_of u (ρ n))) ∙ take_all (length (path_of u (ρ n)) - 0) (path_of u (ρ n)) (omega arith)

      leads : place u (ρ n) true word_here ≡ Ok (There (ρ n))
      leads = ap (look u true) whole ∙ look-there u true (ρ n) layout (made-lives s ρ stage sessions es h p fits n (complete n live)) (made-symlink s ρ stage sessions es h p fits n (complete n live) ∙ no_link-directory s n h there)

  -- a query's directories have their new numbers
  pub numbered : (from : ℕ) (q : Formula ℕ) → are_directories s (named_in q) ≡ true → numbered_query u from (referred_by (word_at s) q) ≡ Ok (referred_by ρ q)
  numbered from (query.Term term) there = refl
  numbered from (query.Dir dir) there = ap (λ (r : Result ℕ Refusal). and_then (λ n. Ok (query.Dir n)) r) (directory-found from dir (and_parts (is_directory_at s.entries dir) true there).0)
  numbered from (query.Not q) there = ap (λ (r : Result (Formula ℕ) Refusal). and_then (λ inner. Ok (query.Not inner)) r) (numbered from q there)
  numbered from (query.And left right) there =
      let parts = and_parts (are_directories s (named_in left)) (are_directories s (named_in right)) (sym (list_all-append (λ dir. is_directory_at s.entries dir) (named_in left) (named_in right)) ∙ there) in
      ap (λ (r : Result (Formula ℕ) Refusal). and_then (λ first. and_then (λ second. Ok (query.And first second)) (numbered_query u from (referred_by (word_at s) right))) r) (numbered from left parts.0)
      ∙ ap (λ (r : Result (Formula ℕ) Refusal). and_then (λ second. Ok (query.And (referred_by ρ left) second)) r) (numbered from right parts.1)
  numbered from (query.Or left right) there =
      let parts = and_parts (are_directories s (named_in left)) (are_directories s (named_in right)) (sym (list_all-append (λ dir. is_directory_at s.entries dir) (named_in left) (named_in right)) ∙ there) in
      ap (λ (r : Result (Formula ℕ) Refusal). and_then (λ first. and_then (λ second. Ok (query.Or first second)) (numbered_query u from (referred_by (word_at s) right))) r) (numbered from left parts.0)
      ∙ ap (λ (r : Result (Formula ℕ) Refusal). and_then (λ second. Ok (query.Or (referred_by ρ left) second)) r) (numbered from right parts.1)
