use Rattle.std.proofs.Common.{◌≡◌, Bool, false, ℕ, ap, refl, sym, true, ◌∙◌}
use Rattle.std.specs.Prelude.{◌==◌, ◌||◌, Option, Some, None, is_some}
use Rattle.std.specs.Option.{option_map_or}
use Rattle.hac_model.specs.Tree.Links.{parent_of}
use Rattle.hac_model.specs.Tree.Mounting.{is_of_mount, is_such_at}
use Rattle.hac_model.specs.Tree.{entry_at}
use Rattle.hac_model.specs.declared.states.Entry.{Entry}
use Rattle.hac_model.specs.declared.states.State.{State}
use Rattle.hac_model.proofs.TreeLemmas.{entry_at-number}
use Rattle.scope_rules.proofs.fates.is_of_mount.Goals as goal

-- an entry is that of the mount, or in it
told : (t : State) (mount n : ℕ) → is_some (entry_at t.entries n) ≡ true → (n == mount || parent_of t n == mount) ≡ is_such_at (is_of_mount mount) t.entries n
told t mount n there = at (entry_at t.entries n) refl there
  where
    at : (o : Option Entry) → entry_at t.entries n ≡ o → is_some o ≡ true → (n == mount || option_map_or (λ (x : Entry). x.parent) o 0 == mount) ≡ option_map_or (is_of_mount mount) o false
    at None found there = absurd cc
    at (Some x) found there = ap (λ (k : ℕ). k == mount || x.parent == mount) (sym (entry_at-number t.entries n x found))

pub returns-then-eq : goal.returns-then-eq
returns-then-eq c =
    let t = c.args.tree.now.state in
    c.if-eq.true ∙ ap (λ (b : Bool). b || parent_of t c.args.number == c.args.mount) (sym c.if-eq.true ∙ c.eq.ensures) ∙ told t c.args.mount c.args.number (sym c.has_entry.ensures ∙ c.if-has_entry.true)

pub returns-else-eq : goal.returns-else-eq
returns-else-eq c =
    let t = c.args.tree.now.state in
    c.eq-else-eq.ensures ∙ ap (λ (k : ℕ). k == c.args.mount) c.parent.ensures
    ∙ ap (λ (b : Bool). b || parent_of t c.args.number == c.args.mount) (sym c.if-eq.false ∙ c.eq.ensures) ∙ told t c.args.mount c.args.number (sym c.has_entry.ensures ∙ c.if-has_entry.true)
