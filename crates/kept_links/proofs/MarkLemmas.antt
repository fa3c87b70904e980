-- A mark of an item tells something else of that item in its own directory alone.
use Rattle.std.proofs.Common.{◌≡◌, ℕ, Bool, true, false, List, [], ◌∷◌, ap, refl, subst, sym, ◌∙◌}
use Rattle.std.specs.Prelude.{◌==◌, ◌||◌, ◌++◌, ◌≢◌, cond, filter, Option, Some, IsTrue, is_some, option_and_then, unwrap_or}
use Rattle.std.specs.Option.{option_map, option_map_or}
use Rattle.std.proofs.lemmas.Bool.{eqb-true}
use Rattle.hac_model.specs.Query.Formula.{Formula}
use Rattle.hac_model.specs.Tree.Depends.{depends, named_in}
use Rattle.hac_model.specs.Tree.Events.{accepted, apply, edited, is_possible, marked}
use Rattle.hac_model.specs.Tree.Limits.{passed_limit}
use Rattle.hac_model.specs.Tree.Links.{answers_at, has, parent_of, query_at}
use Rattle.hac_model.specs.Tree.Mounts.{kept_for}
use Rattle.hac_model.specs.Tree.Valid.{IsValid}
use Rattle.hac_model.specs.Tree.{answers_in, entry_at, is_directory, is_directory_at, is_document, is_linkable, permanent_in, prohibited_in, query_in, shown_text}
use Rattle.hac_model.specs.declared.events.Event.TheVariants as event
use Rattle.hac_model.specs.declared.marks.Kind.{Kind}
use Rattle.hac_model.specs.declared.marks.Kind.TheVariants.{Transient, Permanent, Prohibited, Unlinked}
use Rattle.hac_model.specs.declared.marks.Mark.{Mark}
use Rattle.hac_model.specs.declared.states.Answer.{Answer}
use Rattle.hac_model.specs.declared.states.Body.{Body}
use Rattle.hac_model.specs.declared.states.Body.TheVariants.{Semantic}
use Rattle.hac_model.specs.declared.states.Entry.{Entry}
use Rattle.hac_model.specs.declared.states.State.{State}
use Rattle.hac_model.proofs.AcyclicLemmas.{apply-valid}
use Rattle.hac_model.proofs.ValidLemmas.{accepted-parts, mark-parts}
use Rattle.hac_model.proofs.ViewLemmas.{seen-changed, seen-kept}
use Rattle.reeval.specs.Judging.{LeavesAlike}
use Rattle.reeval.proofs.EventLemmas.{owed-below}
use Rattle.reeval.proofs.LeaveLemmas.{IsAlike, leaves-alike}
use Rattle.reeval.proofs.OweLemmas.{all-parents, edited-stay}
use Rattle.reindex.proofs.WayLemmas.{semantic-depends}

-- what a mark leaves of a body
marked-kept : {X : Type 0} (view : Body → X) → ((asked : Formula ℕ) (permanent prohibited others outside : List ℕ) → view (Semantic asked permanent prohibited) ≡ view (Semantic asked others outside)) →
    (n : ℕ) (kind : Kind) (b : Body) → view (marked n kind b) ≡ view b
marked-kept view same n Permanent (Semantic asked permanent prohibited) = same asked _ _ permanent prohibited
marked-kept view same n Prohibited (Semantic asked permanent prohibited) = same asked _ _ permanent prohibited
marked-kept view same n Transient (Semantic asked permanent prohibited) = same asked _ _ permanent prohibited
marked-kept view same n Unlinked (Semantic asked permanent prohibited) = same asked _ _ permanent prohibited
marked-kept view same n Permanent other = refl
marked-kept view same n Prohibited other = refl
marked-kept view same n Transient other = refl
marked-kept view same n Unlinked other = refl

module _ (s : State) (mark : Mark) (h : IsValid s) (ok : IsTrue (accepted s (event.Mark mark))) where
  abbrev t : State
  t = apply s (event.Mark mark)

  abbrev edit : Body → Body
  edit = marked mark.item mark.kind

  sees : {X : Type 0} (view : Option Entry → X) → ((e : Entry) → view (Some (edited edit e)) ≡ view (Some e)) → (n : ℕ) → view (entry_at t.entries n) ≡ view (entry_at s.entries n)
  sees view same n = seen-kept view s.entries mark.dir (edited edit) (λ e. refl) same n

  -- each other entry stays as it is
  elsewhere : (n : ℕ) → (n == mark.dir) ≡ false → entry_at t.entries n ≡ entry_at s.entries n
  elsewhere n other =
      seen-changed (λ (o : Option Entry). o) s.entries mark.dir (edited edit) (λ e. refl) n
      ∙ ap (λ (b : Bool). cond b (option_map (edited edit) (entry_at s.entries mark.dir)) (entry_at s.entries n)) other

  parents : (n : ℕ) → parent_of t n ≡ parent_of s n
  parents n = sees (λ o. option_map_or (λ (e : Entry). e.parent) o 0) (λ e. refl) n

  queries : (n : ℕ) → query_at t n ≡ query_at s n
  queries n = sees (λ o. option_and_then query_in (option_map (λ (e : Entry). e.body) o)) (λ e. marked-kept query_in (λ asked permanent prohibited others outside. refl) mark.item mark.kind e.body) n

  directories : (n : ℕ) → is_directory_at t.entries n ≡ is_directory_at s.entries n
  directories n = sees (λ o. n == 0 || option_map_or is_directory (option_map (λ (e : Entry). e.body) o) false) (λ e. ap (λ (b : Bool). n == 0 || b) (marked-kept is_directory (λ asked permanent prohibited others outside. refl) mark.item mark.kind e.body)) n

  answers : (n : ℕ) → answers_at t n ≡ answers_at s n
  answers n = sees (λ o. option_map_or answers_in (option_map (λ (e : Entry). e.body) o) []) (λ e. marked-kept answers_in (λ asked permanent prohibited others outside. refl) mark.item mark.kind e.body) n

  edges : (n : ℕ) → (n == mark.dir) ≡ false → depends t n ≡ depends s n
  edges n other = λ i. option_map_or (λ (asked : Formula ℕ). parents n i ∷ named_in asked ++ filter (λ d. directories d i) (option_map_or permanent_in (option_map (λ (e : Entry). e.body) (elsewhere n other i)) [])) (queries n i) []

  mark-alike : IsAlike s t (λ dir. dir == mark.dir) mark.item
  mark-alike = record {
    items = sym (sees (λ o. option_map_or is_linkable (option_map (λ (e : Entry). e.body) o) false) (λ e. marked-kept is_linkable (λ asked permanent prohibited others outside. refl) mark.item mark.kind e.body) mark.item);
    documents = sym (sees (λ o. option_map_or is_document (option_map (λ (e : Entry). e.body) o) false) (λ e. marked-kept is_document (λ asked permanent prohibited others outside. refl) mark.item mark.kind e.body) mark.item);
    texts = sym (sees (λ o. option_and_then shown_text (option_map (λ (e : Entry). e.body) o)) (λ e. marked-kept shown_text (λ asked permanent prohibited others outside. refl) mark.item mark.kind e.body) mark.item);
    homes = λ is. sym (parents mark.item);
    answers = λ is term known. ap (λ (answers : List Answer). unwrap_or (kept_for answers term) []) (sym (answers (parent_of s mark.item)));
    queries = λ dir still. sym (queries dir);
    edges = λ dir still. sym (edges dir still);
    added = λ dir still. ap (λ (o : Option Entry). has (option_map_or permanent_in (option_map (λ (e : Entry). e.body) o) []) mark.item) (sym (elsewhere dir still));
    removed = λ dir still. ap (λ (o : Option Entry). has (option_map_or prohibited_in (option_map (λ (e : Entry). e.body) o) []) mark.item) (sym (elsewhere dir still));
    below = owed-below s t mark.item h (apply-valid s (event.Mark mark) h ok) (all-parents s t (edited-stay s mark.dir edit));
  }

  -- judging of the item begins there
  pub mark-leaves : LeavesAlike s t (λ dir. dir == mark.dir) mark.item
  mark-leaves = leaves-alike s t h (apply-valid s (event.Mark mark) h ok) (λ dir. dir == mark.dir) mark.item mark-alike

  -- and that is on the way
  pub mark-begins : (dir : ℕ) → (dir == mark.dir) ≡ true → depends t dir ≢ []
  mark-begins dir is =
      let parts = mark-parts s mark.dir mark.item mark.kind (accepted-parts (is_possible s (event.Mark mark)) (passed_limit t) ok).0 in
      subst (λ (n : ℕ). depends t n ≢ []) (sym (eqb-true dir mark.dir is)) (semantic-depends t mark.dir (ap (λ (o : Option (Formula ℕ)). is_some o) (queries mark.dir) ∙ parts.1))
