-- What is kept beside a tree, entry by entry.
use Rattle.std.proofs.Common.{◌≡◌, ℕ, ◌<◌, Bool, true, false, cond, List, [], ◌∷◌, ◌++◌, refl, ap, sym, subst, ◌∙◌, arith, inl, inr, eq-eqb}
use Rattle.std.specs.Prelude.{◌⊎◌, ◌==◌, ◌||◌, Option, Some, None, is_some, Result, Ok, Err, OnOk}
use Rattle.std.specs.List.{AllByRecursion}
use Rattle.std.proofs.Math.Bool.{or-false}
use Rattle.std.proofs.lemmas.Bool.{cases_eq, ne_eqb}
use Rattle.std.proofs.lemmas.List.{append-nil}
use Rattle.hac_model.specs.Query.Formula.{Formula}
use Rattle.hac_model.specs.Tree.Facts.{edges_to, facts_at, marks_in, no_marks}
use Rattle.hac_model.specs.Tree.{answers_in, entry_at, permanent_in, prohibited_in, query_in}
use Rattle.hac_model.specs.declared.marks.Kind.TheVariants.{Permanent, Prohibited}
use Rattle.hac_model.specs.declared.states.Answer.{Answer}
use Rattle.hac_model.specs.declared.states.Body.{Body}
use Rattle.hac_model.specs.declared.states.Body.TheVariants.{File, Dir, Symlink, Semantic, Mount, Document}
use Rattle.hac_model.specs.declared.states.Entry.{Entry}
use Rattle.hac_model.proofs.ChangeLemmas.{entry_at-new, entry_at-other}
use Rattle.hac_model.proofs.TreeLemmas.{entry_at-behind}
use Rattle.dep_graph.specs.Graphs.{edges_of, replaced}
use Rattle.dep_graph.specs.Graphs as graph
use Rattle.kept_facts.specs.AnswersKept.{list_at}
use Rattle.layout_check.specs.Rising.{DoRise}
use Rattle.link_kinds.specs.Kinds.{Lists, no_lists}
use Rattle.link_kinds.specs.Seen.{ChangesDir, Known, has_sets, lists_in}
use Rattle.snapshots.specs.Loading.{AreBeside, AreSoundIn, AreSoundMarks, IsNew, asks, marked_all, marks_alone}
use Rattle.snapshots.specs.declared.loading.Beside.{Beside}
use Rattle.snapshots.proofs.MarkLemmas.{marks-given}

-- a value that one number has already
pub same-at : {X : Type 0} (f : ℕ → X) (number : ℕ) (x : X) → f number ≡ x → (n : ℕ) → f n ≡ cond (n == number) x (f n)
same-at f number x is n = elim (cases_eq n number) [
  | inl same ↦ ap f same ∙ is ∙ sym (ap (λ (b : Bool). cond b x (f n)) (eq-eqb n number same))
  | inr other ↦ sym (ap (λ (b : Bool). cond b x (f n)) (ne_eqb n number other))
]

-- an entry more is looked up under its number
entry_at-more : (before : List Entry) (e : Entry) (n : ℕ) → entry_at before e.number ≡ None → entry_at (before ++ e ∷ []) n ≡ cond (n == e.number) (Some e) (entry_at before n)
entry_at-more before e n none = elim (cases_eq n e.number) [
  | inl same ↦
      ap (λ (k : ℕ). entry_at (before ++ e ∷ []) k) same ∙ entry_at-new before e none
      ∙ sym (ap (λ (b : Bool). cond b (Some e) (entry_at before n)) (eq-eqb n e.number same))
  | inr other ↦ entry_at-other before e n (λ same. other (sym same)) ∙ sym (ap (λ (b : Bool). cond b (Some e) (entry_at before n)) (ne_eqb n e.number other))
]

module _ (is_dir : ℕ → Bool) (before : List Entry) (e : Entry) (new : IsNew before e) (old after : Beside) (h : AreBeside is_dir before old) where
  -- nothing is kept of its number yet
  pub marks-before : lists_in old.marks e.number ≡ marks_alone (facts_at is_dir None).marks
  marks-before = h.marks_are e.number ∙ ap (λ (o : Option Entry). marks_alone (facts_at is_dir o).marks) new.number

  pub answers-before : list_at old.answers e.number ≡ []
  answers-before = h.answers_are e.number ∙ ap (λ (o : Option Entry). (facts_at is_dir o).answers) new.number

  pub edges-before : edges_of old.graph e.number ≡ []
  edges-before = h.edges_are e.number ∙ ap (λ (o : Option Entry). (facts_at is_dir o).edges) new.number

  told : {X : Type 0} (f : Option Entry → X) (n : ℕ) (kept was : X) → kept ≡ cond (n == e.number) (f (Some e)) was → was ≡ f (entry_at before n) → kept ≡ f (entry_at (before ++ e ∷ []) n)
  told f n kept was is held =
      is ∙ ap (λ x. cond (n == e.number) (f (Some e)) x) held
      ∙ (elim (n == e.number) as (λ b. cond b (f (Some e)) (f (entry_at before n)) ≡ f (cond b (Some e) (entry_at before n))) [ true ↦ refl | false ↦ refl ])
      ∙ sym (ap f (entry_at-more before e n new.number))

  -- what it tells is kept too
  pub beside-more : ((n : ℕ) → lists_in after.marks n ≡ cond (n == e.number) (marks_alone (marks_in e.body)) (lists_in old.marks n)) →
      ((n : ℕ) → list_at after.answers n ≡ cond (n == e.number) (answers_in e.body) (list_at old.answers n)) →
      ((n : ℕ) → edges_of after.graph n ≡ cond (n == e.number) (edges_to is_dir e.parent (query_in e.body) (permanent_in e.body)) (edges_of old.graph n)) →
      ((n : ℕ) → has_sets after.marks n ≡ cond (n == e.number) (is_some (query_in e.body)) (has_sets old.marks n)) → AreBeside is_dir (before ++ e ∷ []) after
  beside-more marks answers edges sets = record {
    marks_are = λ n. told (λ o. marks_alone (facts_at is_dir o).marks) n (lists_in after.marks n) (lists_in old.marks n) (marks n) (h.marks_are n);
    answers_are = λ n. told (λ o. (facts_at is_dir o).answers) n (list_at after.answers n) (list_at old.answers n) (answers n) (h.answers_are n);
    edges_are = λ n. told (λ o. (facts_at is_dir o).edges) n (edges_of after.graph n) (edges_of old.graph n) (edges n) (h.edges_are n);
    sets = λ n. told asks n (has_sets after.marks n) (has_sets old.marks n) (sets n) (h.sets n);
  }

  pub sets-before : has_sets old.marks e.number ≡ false
  sets-before = h.sets e.number ∙ ap asks new.number

-- one more has its sets
pub sets-one : (f g : ℕ → Bool) (number : ℕ) → ((n : ℕ) → g n ≡ (f n || (n == number))) → (n : ℕ) → g n ≡ cond (n == number) true (f n)
sets-one f g number told n = told n ∙ (elim (n == number) as (λ b. (f n || b) ≡ cond b true (f n)) [
  | true ↦ (elim (f n) as (λ b. (b || true) ≡ true) [ true ↦ refl | false ↦ refl ])
  | false ↦ or-false (f n)
])

-- what the first of the entries tell is kept
pub record AreKept (is_dir : ℕ → Bool) (all rest : List Entry) (beside : Beside) : Type 0 where
  pub taken : List Entry
  pub split : all ≡ taken ++ rest
  pub kept : AreBeside is_dir taken beside

pub kept-none : (is_dir : ℕ → Bool) (all : List Entry) (beside : Beside) → AreBeside is_dir [] beside → AreKept is_dir all all beside
kept-none is_dir all beside h = record { taken = []; split = refl; kept = h }

pub kept-all : (is_dir : ℕ → Bool) (all : List Entry) (beside : Beside) → AreKept is_dir all [] beside → AreBeside is_dir all beside
kept-all is_dir all beside h = subst (λ (es : List Entry). AreBeside is_dir es beside) (sym (h.split ∙ append-nil h.taken)) h.kept

append-one : (xs ys : List Entry) (x : Entry) → xs ++ x ∷ ys ≡ (xs ++ x ∷ []) ++ ys
append-one [] ys x = refl
append-one (z ∷ xs) ys x = ap (λ (zs : List Entry). z ∷ zs) (append-one xs ys x)

pub kept-more : (is_dir : ℕ → Bool) (all rest : List Entry) (e : Entry) (beside : Beside) (taken : List Entry) → all ≡ taken ++ e ∷ rest → AreBeside is_dir (taken ++ e ∷ []) beside → AreKept is_dir all rest beside
kept-more is_dir all rest e beside taken split h = record { taken = taken ++ e ∷ []; split = split ∙ append-one taken rest e; kept = h }

-- the next one comes behind those that were taken
pub next-new : (taken rest : List Entry) (e : Entry) → DoRise (taken ++ e ∷ rest) → AreSoundMarks (taken ++ e ∷ rest) → IsNew taken e
next-new taken rest e rise sound = record { number = fresh taken rise; marks = one taken sound }
  where
    less : (ts : List Entry) (k : ℕ) → AllByRecursion (λ (x : Entry). k < x.number) (ts ++ e ∷ rest) → k < e.number
    less [] k all = all.0
    less (t ∷ ts) k all = less ts k all.1

    fresh : (ts : List Entry) → DoRise (ts ++ e ∷ rest) → entry_at ts e.number ≡ None
    fresh [] rise = refl
    fresh (t ∷ ts) rise = entry_at-behind t ts e.number (λ same. let low : t.number < e.number = less ts t.number rise.0 in omega arith) ∙ fresh ts rise.1

    one : (ts : List Entry) → AreSoundMarks (ts ++ e ∷ rest) → AreSoundIn e.body
    one [] sound = sound.0
    one (t ∷ ts) sound = one ts sound.1

-- a body by itself: neither a semantic directory nor a mount
abbrev pub TellsNothing : Body → Type 0
TellsNothing body = ((text : List ℕ) × (dirty : Bool) × (shown : Option (List ℕ)) × (body ≡ File text dirty shown)) ⊎ ((body ≡ Dir) ⊎ (((target : List ℕ) × (body ≡ Symlink target)) ⊎ (body ≡ Document)))

module _ (is_dir : ℕ → Bool) (before : List Entry) (e : Entry) (new : IsNew before e) (old after : Beside) (h : AreBeside is_dir before old) where
  -- an entry that tells nothing leaves all as it is
  beside-still : marks_in e.body ≡ no_marks → answers_in e.body ≡ [] → query_in e.body ≡ None → AreBeside is_dir (before ++ e ∷ []) old
  beside-still marks answers query = beside-more is_dir before e new old old h
      (same-at (lists_in old.marks) e.number (marks_alone (marks_in e.body)) (marks-before is_dir before e new old old h ∙ ap marks_alone (sym marks)))
      (same-at (list_at old.answers) e.number (answers_in e.body) (answers-before is_dir before e new old old h ∙ sym answers))
      (same-at (edges_of old.graph) e.number (edges_to is_dir e.parent (query_in e.body) (permanent_in e.body)) (edges-before is_dir before e new old old h ∙ ap (λ (q : Option (Formula ℕ)). edges_to is_dir e.parent q (permanent_in e.body)) (sym query)))
      (same-at (has_sets old.marks) e.number (is_some (query_in e.body)) (sets-before is_dir before e new old old h ∙ ap (λ (q : Option (Formula ℕ)). is_some q) (sym query)))

  pub beside-untold : TellsNothing e.body → AreBeside is_dir (before ++ e ∷ []) old
  beside-untold (inl (text, dirty, shown, is)) = beside-still (ap marks_in is) (ap answers_in is) (ap query_in is)
  beside-untold (inr (inl is)) = beside-still (ap marks_in is) (ap answers_in is) (ap query_in is)
  beside-untold (inr (inr (inl (target, is)))) = beside-still (ap marks_in is) (ap answers_in is) (ap query_in is)
  beside-untold (inr (inr (inr is))) = beside-still (ap marks_in is) (ap answers_in is) (ap query_in is)

  -- a semantic directory has its marks and its edges
  pub beside-asked : (query : Formula ℕ) (permanent prohibited edges : List ℕ) → e.body ≡ Semantic query permanent prohibited → edges ≡ edges_to is_dir e.parent (Some query) permanent →
      ChangesDir old.marks after.marks e.number (marked_all Prohibited prohibited (marked_all Permanent permanent (lists_in old.marks e.number))) →
      ((n : ℕ) → has_sets after.marks n ≡ (has_sets old.marks n || (n == e.number))) → ((n : ℕ) → list_at after.answers n ≡ list_at old.answers n) →
      ((n : ℕ) → edges_of after.graph n ≡ replaced (edges_of old.graph) e.number edges n) → AreBeside is_dir (before ++ e ∷ []) after
  beside-asked query permanent prohibited edges is edges_are lists sets answers replaces = beside-more is_dir before e new old after h
      (λ n. lists n ∙ ap (λ (x : Lists). cond (n == e.number) x (lists_in old.marks n)) marks)
      (λ n. answers n ∙ same-at (list_at old.answers) e.number (answers_in e.body) (answers-before is_dir before e new old after h ∙ sym (ap answers_in is)) n)
      (λ n. replaces n ∙ ap (λ (x : List ℕ). cond (n == e.number) x (edges_of old.graph n)) (edges_are ∙ sym (ap (λ (b : Body). edges_to is_dir e.parent (query_in b) (permanent_in b)) is)))
      (λ n. sets-one (has_sets old.marks) (has_sets after.marks) e.number sets n ∙ ap (λ (x : Bool). cond (n == e.number) x (has_sets old.marks n)) (sym (ap (λ (b : Body). is_some (query_in b)) is)))
    where
      marks : marked_all Prohibited prohibited (marked_all Permanent permanent (lists_in old.marks e.number)) ≡ marks_alone (marks_in e.body)
      marks =
          ap (λ (x : Lists). marked_all Prohibited prohibited (marked_all Permanent permanent x)) (marks-before is_dir before e new old after h)
          ∙ sym (ap (λ (b : Body). marked_all Prohibited (prohibited_in b) (marked_all Permanent (permanent_in b) no_lists)) is)
          ∙ marks-given e.body new.marks

  -- a mount keeps its answers
  pub beside-answered : (space : List ℕ) (answers : List Answer) → e.body ≡ Mount space answers → after.marks ≡ old.marks → after.graph ≡ old.graph →
      ((n : ℕ) → list_at after.answers n ≡ cond (n == e.number) answers (list_at old.answers n)) → AreBeside is_dir (before ++ e ∷ []) after
  beside-answered space answers is marks edges lists = beside-more is_dir before e new old after h
      (λ n. ap (λ (m : Known). lists_in m n) marks ∙ same-at (lists_in old.marks) e.number (marks_alone (marks_in e.body)) (marks-before is_dir before e new old after h ∙ sym (ap (λ (b : Body). marks_alone (marks_in b)) is)) n)
      (λ n. lists n ∙ ap (λ (x : List Answer). cond (n == e.number) x (list_at old.answers n)) (sym (ap answers_in is)))
      (λ n. ap (λ (g : graph.Seen). edges_of g n) edges ∙ same-at (edges_of old.graph) e.number (edges_to is_dir e.parent (query_in e.body) (permanent_in e.body)) (edges-before is_dir before e new old after h ∙ sym (ap (λ (b : Body). edges_to is_dir e.parent (query_in b) (permanent_in b)) is)) n)
      (λ n. ap (λ (m : Known). has_sets m n) marks ∙ same-at (has_sets old.marks) e.number (is_some (query_in e.body)) (sets-before is_dir before e new old after h ∙ sym (ap (λ (b : Body). is_some (query_in b)) is)) n)

pub on_ok-two : {A E P Q R : Type 0} (r : Result A E) → OnOk r P → OnOk r Q → (P → Q → R) → OnOk r R
on_ok-two (Ok value) p q next = next p q
on_ok-two (Err fault) p q next = tt
