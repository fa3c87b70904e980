-- What stays sound where directories and items stay: what directories ask, how items are marked, and where sessions stand.
use Rattle.std.proofs.Common.{◌≡◌, ℕ, Bool, true, false, List, [], ◌∷◌, refl, ap, sym, subst, ◌∙◌, eq-eqb, inl, inr}
use Rattle.std.specs.Prelude.{◌==◌, ◌||◌, IsTrue}
use Rattle.std.specs.List.{AllByRecursion}
use Rattle.std.proofs.lemmas.Bool.{and_from, and_parts, or_cases, or_left, or_right}
use Rattle.hac_model.specs.Tree.Depends.{named_in}
use Rattle.hac_model.specs.Tree.Events.{are_directories, may_ask}
use Rattle.hac_model.specs.Query.Formula.{Formula}
use Rattle.hac_model.specs.Tree.Links.{can_be_added, has, is_item}
use Rattle.hac_model.specs.Query.Queries.{is_query}
use Rattle.hac_model.specs.Tree.Sessions.{are_few}
use Rattle.hac_model.specs.Tree.{is_directory_at}
use Rattle.hac_model.specs.Tree.Valid.{AreMarks, AreSessions, AsksWell, SessionsDiffer}
use Rattle.hac_model.specs.Script.SpaceNames.{is_space_name}
use Rattle.hac_model.specs.declared.states.Body.{Body}
use Rattle.hac_model.specs.declared.states.Body.TheVariants.{Semantic}
use Rattle.hac_model.specs.declared.states.Session.{Session}
use Rattle.hac_model.specs.declared.states.State.{State}
use Rattle.hac_model.proofs.ChangeLemmas.{all-weaker}

-- the directories of one state are directories of another
abbrev pub DirectoriesStay : State → State → Type 0
DirectoriesStay s t = (d : ℕ) → is_directory_at s.entries d ≡ true → is_directory_at t.entries d ≡ true

-- the items of one state are items of another
abbrev pub ItemsStay : State → State → Type 0
ItemsStay s t = (n : ℕ) → is_item s n ≡ true → is_item t n ≡ true

directories-stay : (s t : State) (ds : List ℕ) → ((d : ℕ) → has ds d ≡ true → is_directory_at s.entries d ≡ true → is_directory_at t.entries d ≡ true) → are_directories s ds ≡ true → are_directories t ds ≡ true
directories-stay s t [] stay h = refl
directories-stay s t (d ∷ ds) stay h =
    let parts = and_parts (is_directory_at s.entries d) (are_directories s ds) h in
    and_from (is_directory_at t.entries d) (are_directories t ds)
    (stay d (ap (λ (b : Bool). b || has ds d) (eq-eqb d d refl)) parts.0)
    (directories-stay s t ds (λ e inside. stay e (or_right (d == e) (has ds e) inside)) parts.1)

-- a query may be asked where the directories that it names stay
pub ask-stays : (s t : State) (query : Formula ℕ) → ((d : ℕ) → has (named_in query) d ≡ true → is_directory_at s.entries d ≡ true → is_directory_at t.entries d ≡ true) → may_ask s query ≡ true → may_ask t query ≡ true
ask-stays s t query stay h =
    let parts = and_parts (is_query query) (are_directories s (named_in query)) h in
    and_from (is_query query) (are_directories t (named_in query)) parts.0 (directories-stay s t (named_in query) stay parts.1)

-- marks are on what can have them where that stays
pub marks-stay : (test kept : ℕ → Bool) (xs : List ℕ) → ((n : ℕ) → test n ≡ true → kept n ≡ true) → AreMarks test xs → AreMarks kept xs
marks-stay test kept xs stay h = record { rise = h.rise; there = all-weaker (λ n. test n ≡ true) (λ n. kept n ≡ true) xs stay h.there }

-- what may be added stays so, where directories and items stay
pub added-stays : (s t : State) (n : ℕ) → (is_directory_at s.entries n ≡ true → is_directory_at t.entries n ≡ true) → (is_item s n ≡ true → is_item t n ≡ true) → can_be_added s n ≡ true → can_be_added t n ≡ true
added-stays s t n dirs items can = elim (or_cases (is_item s n) (is_directory_at s.entries n) can) [
  | inl item ↦ or_left (is_item t n) (is_directory_at t.entries n) (items item)
  | inr dir ↦ or_right (is_item t n) (is_directory_at t.entries n) (dirs dir)
]

-- what a directory asks stays sound where directories and items stay
pub asks-stays : (s t : State) (body : Body) → DirectoriesStay s t → ItemsStay s t → AsksWell s body → AsksWell t body
asks-stays s t (Semantic query permanent prohibited) dirs items h = record {
  fits = ask-stays s t query (λ d inside there. dirs d there) h.fits;
  added = marks-stay (can_be_added s) (can_be_added t) permanent (λ n can. added-stays s t n (dirs n) (items n) can) h.added;
  removed = marks-stay (is_item s) (is_item t) prohibited items h.removed;
  apart = h.apart;
}
asks-stays s t other dirs items h = tt

-- and so what all of them ask
pub all-stay : (s t : State) → DirectoriesStay s t → ItemsStay s t → AllByRecursion (λ e. AsksWell s e.body) s.entries → AllByRecursion (λ e. AsksWell t e.body) s.entries
all-stay s t dirs items h = all-weaker (λ e. AsksWell s e.body) (λ e. AsksWell t e.body) s.entries (λ e asks. asks-stays s t e.body dirs items asks) h

-- The same sessions, in a state with the same directories.

module _ (s t : State) (same : t.sessions ≡ s.sessions) (even : t.version ≡ s.version) (h : AreSessions s) where
  -- sessions stay sound that stand in directories
  pub sessions-there : AllByRecursion (λ session. IsTrue (is_directory_at t.entries session.dir)) s.sessions → AreSessions t
  sessions-there there = record {
    names = subst (λ (ss : List Session). AllByRecursion (λ session. IsTrue (is_space_name session.name)) ss) (sym same) h.names;
    differ = subst SessionsDiffer (sym same) h.differ;
    there = subst (λ (ss : List Session). AllByRecursion (λ session. IsTrue (is_directory_at t.entries session.dir)) ss) (sym same) there;
    elsewhere = subst (λ (ss : List Session). AllByRecursion (λ session. (session.dir == 0) ≡ false) ss) (sym same) h.elsewhere;
    few = (λ i. are_few (even i) (same i)) ∙ h.few;
  }

  pub sessions-stay : DirectoriesStay s t → AreSessions t
  sessions-stay dirs = sessions-there (all-weaker (λ session. IsTrue (is_directory_at s.entries session.dir)) (λ session. IsTrue (is_directory_at t.entries session.dir)) s.sessions (λ session there. dirs session.dir there) h.there)
