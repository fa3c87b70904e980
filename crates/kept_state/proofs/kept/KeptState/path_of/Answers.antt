use Rattle.std.proofs.Common.{subst, sym, ◌≡◌}
use Rattle.std.specs.Prelude.{IfOk, List, ℕ}
use Rattle.kept_state.proofs.StateLemmas.{same-path}
use Rattle.kept_state.proofs.kept.KeptState.path_of.Goals as goal

pub returns : goal.returns
returns c = subst (λ (path : List (List ℕ)). IfOk c.path_of.result (λ told. told ≡ path)) (sym (same-path c.args.self.now.state c.tree.result.now.state c.tree.ensures.tree.bares c.args.entry)) c.path_of.ensures
