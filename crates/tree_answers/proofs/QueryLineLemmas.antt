-- A query is printed with the paths of its directories.
use Rattle.std.proofs.Common.{◌≡◌, ℕ, Bool, true, false, cond, List, [], ◌∷◌, map, refl, ap, ◌∙◌, inl, inr}
use Rattle.std.specs.Prelude.{◌&&◌, ◌==◌, Option, Some, is_some}
use Rattle.std.specs.Option.{option_map_or}
use Rattle.std.proofs.lemmas.Bool.{eq-eqb, eqb-true}
use Rattle.hac_model.specs.Tree.Depends.{Among, named_in}
use Rattle.hac_model.specs.Query.Formula.{Formula}
use Rattle.hac_model.specs.Query.Formula as query
use Rattle.hac_model.specs.Tree.Paths.{path_text}
use Rattle.hac_model.specs.Query.QueryText.{query_text, referred_by}
use Rattle.hac_model.specs.Tree.{path_of}
use Rattle.hac_model.specs.declared.states.State.{State}
use Rattle.hac_model.proofs.AmongLemmas.{among-left, among-right}
use Rattle.query_text.specs.Printing.{are_known, dir_path, path_at, printed_query}
use Rattle.query_text.specs.declared.paths.NamedDir.{NamedDir}
use Rattle.tree_answers.specs.Paths.{named_dir}

path-told : (s : State) (dirs : List ℕ) (dir : ℕ) → Among dirs dir → path_at (map (named_dir s) dirs) dir ≡ Some (path_of s dir)
path-told s [] dir never = absurd never
path-told s (first ∷ dirs) dir among = by_first (first == dir) refl among (path-told s dirs dir)
  where
    by_first : (b : Bool) → (first == dir) ≡ b → Among (first ∷ dirs) dir → (Among dirs dir → path_at (map (named_dir s) dirs) dir ≡ Some (path_of s dir)) → cond b (Some (path_of s first)) (path_at (map (named_dir s) dirs) dir) ≡ Some (path_of s dir)
    by_first true is among more = ap (λ (n : ℕ). Some (path_of s n)) (eqb-true first dir is)
    by_first false other (inl same) more = let here : (first == dir) ≡ true = eq-eqb first dir same in absurd cc
    by_first false other (inr later) more = more later

module _ (s : State) (dirs : List ℕ) where
  known : (asked : Formula ℕ) → ((dir : ℕ) → Among (named_in asked) dir → Among dirs dir) → are_known (map (named_dir s) dirs) asked ≡ true
  known (query.Term term) told = refl
  known (query.Dir dir) told = ap (λ (o : Option (List (List ℕ))). is_some o) (path-told s dirs dir (told dir (inl refl)))
  known (query.Not q) told = known q told
  known (query.And p q) told = λ i. known p (λ dir among. told dir (among-left (named_in p) (named_in q) dir among)) i && known q (λ dir among. told dir (among-right (named_in p) (named_in q) dir among)) i
  known (query.Or p q) told = λ i. known p (λ dir among. told dir (among-left (named_in p) (named_in q) dir among)) i && known q (λ dir among. told dir (among-right (named_in p) (named_in q) dir among)) i

  named : (asked : Formula ℕ) → ((dir : ℕ) → Among (named_in asked) dir → Among dirs dir) → referred_by (dir_path (map (named_dir s) dirs)) asked ≡ referred_by (λ dir. path_text (path_of s dir)) asked
  named (query.Term term) told = refl
  named (query.Dir dir) told = ap (λ (o : Option (List (List ℕ))). query.Dir (option_map_or path_text o [])) (path-told s dirs dir (told dir (inl refl)))
  named (query.Not q) told = ap query.Not (named q told)
  named (query.And p q) told = λ i. query.And (named p (λ dir among. told dir (among-left (named_in p) (named_in q) dir among)) i) (named q (λ dir among. told dir (among-right (named_in p) (named_in q) dir among)) i)
  named (query.Or p q) told = λ i. query.Or (named p (λ dir among. told dir (among-left (named_in p) (named_in q) dir among)) i) (named q (λ dir among. told dir (among-right (named_in p) (named_in q) dir among)) i)

-- the paths of a query's own directories are enough
pub paths-known : (s : State) (asked : Formula ℕ) (paths : List NamedDir) → paths ≡ map (named_dir s) (named_in asked) → are_known paths asked ≡ true
paths-known s asked paths are = ap (λ (ps : List NamedDir). are_known ps asked) are ∙ known s (named_in asked) asked (λ dir among. among)

pub query-told : (s : State) (asked : Formula ℕ) (paths : List NamedDir) → paths ≡ map (named_dir s) (named_in asked) → printed_query paths asked ≡ query_text (referred_by (λ dir. path_text (path_of s dir)) asked)
query-told s asked paths are = ap (λ (ps : List NamedDir). printed_query ps asked) are ∙ ap query_text (named s (named_in asked) asked (λ dir among. among))
