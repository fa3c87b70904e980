use Rattle.std.proofs.Common.{◌≡◌, ℕ, Some, None, [], cond, ap, refl, sym, ◌∙◌}
use Rattle.std.specs.Map.{lookup}
use Rattle.std.specs.Prelude.{◌==◌, is_some, nat_eq}
use Rattle.indexmap.specs.IndexMap.{get}
use Rattle.link_kinds.specs.Kept.{AreFresh, ChangesAll, is_one_of, seen_of}
use Rattle.link_kinds.specs.Seen.{has_sets}
use Rattle.link_kinds.proofs.KeptLemmas.{gets-sets, kept-added, none-there, same-added, sets-changed, sets-kept, sets-there}
use Rattle.link_kinds.proofs.SeenLemmas.{has-seen}
use Rattle.link_kinds.proofs.links.Links.prepare.Goals as goal

pub returns-then-is_some-clause-sets : goal.returns-then-is_some-clause-sets
returns-then-is_some-clause-sets c =
    let new = record c.self.inside { pool = c.reserve.new.self } in
    sets-there c.args.self.now (seen_of new) c.args.dir (sets-kept c.self.inside new c.args.self.now c.self.view_is (λ d. refl))
    (has-seen c.self.inside c.args.self.now c.self.view_is c.args.dir ∙ ap is_some (sym c.sets_at.ensures) ∙ sym c.is_some.ensures ∙ c.if-is_some.true)

-- the directory had no sets, and gets those that were made
module _ (c : goal.After-put_sets) where
  none : get nat_eq c.self.inside.dirs c.args.dir ≡ None
  none = sym c.sets_at.ensures ∙ none-there c.sets_at.result (sym c.is_some.ensures ∙ c.if-is_some.false)

  dirs : (d : ℕ) → get nat_eq c.put_sets.new.dirs d ≡ cond (d == c.args.dir) (Some c.make-sets.result) (get nat_eq c.self.inside.dirs d)
  dirs d = c.put_sets.ensures d ∙ ap (λ entries. cond (d == c.args.dir) (Some c.make-sets.result) (lookup (nat_eq d) entries)) c.reserve-2.ensures.entries

  made : ChangesAll c.self.inside.pool c.make-sets.new.pool c.make-sets.result (Some [])
  made set = c.make-sets.ensures.made set ∙ ap (cond (is_one_of c.make-sets.result set) (Some [])) (c.reserve_more.ensures.same set)

  fresh : AreFresh c.self.inside.pool c.make-sets.result
  fresh set one = ap is_some (sym (c.reserve_more.ensures.same set)) ∙ c.make-sets.ensures.fresh set one

pub invariant_of-self-2 : goal.invariant_of-self-2
invariant_of-self-2 c =
    kept-added c.self.inside (record c.self.inside { dirs = c.put_sets.new.dirs; pool = c.make-sets.new.pool }) c.self.invariant c.args.dir c.make-sets.result (none c) (dirs c) (made c) (fresh c) c.make-sets.ensures.differ c.make-sets.ensures.rise

pub returns-clause-sets : goal.returns-clause-sets
returns-clause-sets c = λ d.
    sets-changed c.self.inside (record c.self.inside { dirs = c.put_sets.new.dirs; pool = c.make-sets.new.pool }) c.args.self.now c.self.view_is c.args.dir (Some c.make-sets.result) (dirs c) d
    ∙ gets-sets (d == c.args.dir) (has_sets c.args.self.now d)

pub returns-clause-kinds : goal.returns-clause-kinds
returns-clause-kinds c =
    same-added c.self.inside (record c.self.inside { dirs = c.put_sets.new.dirs; pool = c.make-sets.new.pool }) c.self.invariant c.args.dir c.make-sets.result (none c) (dirs c) (made c) (fresh c) c.args.self.now c.self.view_is
