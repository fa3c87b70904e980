-- The lists of a directory are those that its sets hold.
use Rattle.std.proofs.Common.{◌≡◌, ℕ, Bool, true, false, cond, List, [], ◌∷◌, map, refl, sym, ap, ◌∙◌, subst, Option, Some, None, rules}
use Rattle.std.specs.Prelude.{is_some, nat_eq, unwrap_or}
use Rattle.std.specs.List.Sorted.{IsStrictlyIncreasing}
use Rattle.std.specs.Map.{lookup}
use Rattle.std.specs.Option.{option_map}
use Rattle.indexmap.specs.IndexMap.{get}
use Rattle.set_pool.specs.Sets.{Sets}
use Rattle.link_kinds.specs.Kept.{AreLinksKept, dir_lists, seen_of}
use Rattle.link_kinds.specs.Kinds.{AreRising, Lists, no_lists}
use Rattle.link_kinds.specs.Seen.{Known, LinkListsRise, has_sets, lists_in}
use Rattle.link_kinds.specs.declared.links.Links.TheInside.{Inside}
use Rattle.link_kinds.specs.declared.sets.DirSets.{DirSets}

-- the lists that sets hold, where there are some
abbrev pub lists_under : Sets → Option DirSets → Lists
lists_under pool None = no_lists
lists_under pool (Some sets) = dir_lists pool sets

lookup-map : (pool : Sets) (test : ℕ → Bool) (entries : List (ℕ × DirSets)) → lookup test (map (λ (entry : ℕ × DirSets). (entry.0, dir_lists pool entry.1)) entries) ≡ option_map (dir_lists pool) (lookup test entries)
lookup-map pool test [] = refl
lookup-map pool test (entry ∷ entries) =
    elim (test entry.0) as (λ b. cond b (Some (dir_lists pool entry.1)) (lookup test (map (λ (entry : ℕ × DirSets). (entry.0, dir_lists pool entry.1)) entries)) ≡ option_map (dir_lists pool) (cond b (Some entry.1) (lookup test entries))) [
      | true ↦ refl
      | false ↦ lookup-map pool test entries
    ]

under : (pool : Sets) (sets : Option DirSets) → (unwrap_or (option_map (dir_lists pool) sets) no_lists ≡ lists_under pool sets) × (is_some (option_map (dir_lists pool) sets) ≡ is_some sets)
under pool None = (refl, refl)
under pool (Some sets) = (refl, refl)

pub empty-rises : IsStrictlyIncreasing []
empty-rises = search rules

module _ (links : Inside) (seen : Known) (view_is : seen_of links ≡ seen) where
  pub lists-seen : (dir : ℕ) → lists_in seen dir ≡ lists_under links.pool (get nat_eq links.dirs dir)
  lists-seen dir = ap (λ seen. lists_in seen dir) (sym view_is) ∙ ap (λ lists. unwrap_or lists no_lists) (lookup-map links.pool (nat_eq dir) links.dirs.entries) ∙ (under links.pool (get nat_eq links.dirs dir)).0

  pub has-seen : (dir : ℕ) → has_sets seen dir ≡ is_some (get nat_eq links.dirs dir)
  has-seen dir = ap (λ seen. has_sets seen dir) (sym view_is) ∙ ap is_some (lookup-map links.pool (nat_eq dir) links.dirs.entries) ∙ (under links.pool (get nat_eq links.dirs dir)).1

  -- what is told of the lists that a directory's sets hold
  pub lists-told : {X : Type 0} (tell : Lists → X) (dir : ℕ) (sets : Option DirSets) → sets ≡ get nat_eq links.dirs dir → tell (lists_under links.pool sets) ≡ tell (lists_in seen dir)
  lists-told tell dir sets is = ap tell (ap (lists_under links.pool) is ∙ sym (lists-seen dir))

  rise-under : AreLinksKept links → (sets : Option DirSets) → AreRising (lists_under links.pool sets)
  rise-under kept None = record { transient = empty-rises; permanent = empty-rises; prohibited = empty-rises; lent = empty-rises }
  rise-under kept (Some sets) = record { transient = kept.rise sets.transient; permanent = kept.rise sets.permanent; prohibited = kept.rise sets.prohibited; lent = kept.rise sets.lent }

  pub rise-seen : AreLinksKept links → LinkListsRise seen
  rise-seen kept dir = subst AreRising (sym (lists-seen dir)) (rise-under kept (get nat_eq links.dirs dir))
