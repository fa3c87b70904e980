-- What a state tells once its entries have other bodies that leave what an entry is to others.
use Rattle.std.proofs.Common.{◌≡◌, ℕ, zero, suc, Bool, true, false, cond, List, [], ◌∷◌, map, refl, ap, sym, ◌∙◌}
use Rattle.std.specs.Prelude.{◌==◌, ◌&&◌, ◌||◌, ◌++◌, filter, reverse, Option, Some, None, is_some, option_and_then}
use Rattle.std.specs.Option.{option_map, option_map_or}
use Rattle.hac_model.specs.Query.Formula.{Formula}
use Rattle.hac_model.specs.Tree.Depends.{depends, named_in}
use Rattle.hac_model.specs.Tree.Links.{has, is_below, is_item, is_permanent, is_semantic, lenders, parent_of, permanent_at, prohibited_at, query_at}
use Rattle.hac_model.specs.Tree.{ancestors, entry_at, extends, is_directory, is_directory_at, is_linkable, path_of, permanent_in, prohibited_in, query_in}
use Rattle.hac_model.specs.declared.states.Body.{Body}
use Rattle.hac_model.specs.declared.states.Entry.{Entry}
use Rattle.hac_model.specs.declared.states.State.{State}
use Rattle.hac_model.proofs.DepthLemmas.{names_of}
use Rattle.hac_model.proofs.PathLemmas.{ancestors_by, limit, lineage-is, path-names}

-- items stay items, and directories stay what they are, with their queries and marks
pub record Leaves (other : Entry → Body) : Type 0 where
  pub linkable : (e : Entry) → is_linkable (other e) ≡ is_linkable e.body
  pub directory : (e : Entry) → is_directory (other e) ≡ is_directory e.body
  pub query : (e : Entry) → query_in (other e) ≡ query_in e.body
  pub permanent : (e : Entry) → permanent_in (other e) ≡ permanent_in e.body
  pub prohibited : (e : Entry) → prohibited_in (other e) ≡ prohibited_in e.body

module _ (other : Entry → Body) where
  -- the entry with its other body
  abbrev pub with_other : Entry → Entry
  with_other e = record e { body = other e }

  pub entry_at-left : (es : List Entry) (n : ℕ) → entry_at (map with_other es) n ≡ option_map with_other (entry_at es n)
  entry_at-left [] n = refl
  entry_at-left (e ∷ es) n =
      ap (λ (o : Option Entry). cond (e.number == n) (Some (with_other e)) o) (entry_at-left es n)
      ∙ (elim (e.number == n) as (λ b. cond b (Some (with_other e)) (option_map with_other (entry_at es n)) ≡ option_map with_other (cond b (Some e) (entry_at es n))) [ true ↦ refl | false ↦ refl ])

  -- what is left is the same of each entry
  pub seen-left : {X : Type 0} (view : Option Entry → X) (es : List Entry) (n : ℕ) → ((e : Entry) → view (Some (with_other e)) ≡ view (Some e)) → view (entry_at (map with_other es) n) ≡ view (entry_at es n)
  seen-left view es n same = ap view (entry_at-left es n) ∙ at (entry_at es n)
    where
      at : (o : Option Entry) → view (option_map with_other o) ≡ view o
      at None = refl
      at (Some e) = same e

  names-left : (k : ℕ) (es : List Entry) (n : ℕ) → names_of (ancestors k (map with_other es) n) ≡ names_of (ancestors k es n)
  names-left zero es n = refl
  names-left (suc k) es n =
      ap (λ (o : Option Entry). names_of (ancestors_by k (map with_other es) o)) (entry_at-left es n)
      ∙ (elim (entry_at es n) as (λ o. names_of (ancestors_by k (map with_other es) (option_map with_other o)) ≡ names_of (ancestors_by k es o)) [
        | None ↦ refl
        | Some e ↦ ap (λ (names : List (List ℕ)). e.name ∷ names) (names-left k es e.parent)
      ])

  module _ (leaves : Leaves other) (s : State) where
    abbrev pub then_state : State
    then_state = record s { entries = map with_other s.entries }

    pub path_of-left : (n : ℕ) → path_of then_state n ≡ path_of s n
    path_of-left n =
        path-names then_state n ∙ ap reverse (ap names_of (lineage-is then_state.entries n) ∙ names-left (suc limit) s.entries n ∙ ap names_of (sym (lineage-is s.entries n))) ∙ sym (path-names s n)

    pub item-left : (n : ℕ) → is_item then_state n ≡ is_item s n
    item-left n = seen-left (λ o. option_map_or is_linkable (option_map (λ (e : Entry). e.body) o) false) s.entries n leaves.linkable

    pub directory-left : (n : ℕ) → is_directory_at then_state.entries n ≡ is_directory_at s.entries n
    directory-left n = seen-left (λ o. n == 0 || option_map_or is_directory (option_map (λ (e : Entry). e.body) o) false) s.entries n (λ e. ap (λ (b : Bool). n == 0 || b) (leaves.directory e))

    pub parent-left : (n : ℕ) → parent_of then_state n ≡ parent_of s n
    parent-left n = seen-left (λ o. option_map_or (λ (e : Entry). e.parent) o 0) s.entries n (λ e. refl)

    pub query-left : (n : ℕ) → query_at then_state n ≡ query_at s n
    query-left n = seen-left (λ o. option_and_then query_in (option_map (λ (e : Entry). e.body) o)) s.entries n leaves.query

    pub semantic-left : (n : ℕ) → is_semantic then_state n ≡ is_semantic s n
    semantic-left n = ap (λ (o : Option (Formula ℕ)). is_some o) (query-left n)

    pub permanent-left : (n : ℕ) → permanent_at then_state n ≡ permanent_at s n
    permanent-left n = seen-left (λ o. option_map_or permanent_in (option_map (λ (e : Entry). e.body) o) []) s.entries n leaves.permanent

    pub prohibited-left : (n : ℕ) → prohibited_at then_state n ≡ prohibited_at s n
    prohibited-left n = seen-left (λ o. option_map_or prohibited_in (option_map (λ (e : Entry). e.body) o) []) s.entries n leaves.prohibited

    pub lenders-left : (n : ℕ) → lenders then_state n ≡ lenders s n
    lenders-left n = λ i. filter (λ d. directory-left d i) (permanent-left n i)

    pub depends-left : (n : ℕ) → depends then_state n ≡ depends s n
    depends-left n = λ i. option_map_or (λ (query : Formula ℕ). parent-left n i ∷ named_in query ++ lenders-left n i) (query-left n i) []

    pub below-left : (d n : ℕ) → is_below then_state d n ≡ is_below s d n
    below-left d n = λ i. item-left n i && directory-left d i && extends (path_of-left n i) (path_of-left d i)

    pub added-left : (d n : ℕ) → (is_permanent then_state d n && is_item then_state n) ≡ (is_permanent s d n && is_item s n)
    added-left d n = λ i. has (permanent-left d i) n && item-left n i
