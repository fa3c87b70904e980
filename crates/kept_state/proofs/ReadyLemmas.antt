-- What an event needs so that it can be prepared.
use Rattle.std.proofs.Common.{◌≡◌, ℕ, true, List, subst, sym, ◌∙◌}
use Rattle.std.specs.Prelude.{Option, Result, Ok, Err, IfOk, IsTrue}
use Rattle.std.proofs.lemmas.Bool.{and_parts}
use Rattle.hac_model.specs.Tree.Asking.{are_all_told}
use Rattle.hac_model.specs.Tree.Events.{accepted, apply, is_free, is_possible}
use Rattle.hac_model.specs.Tree.Facts.{Facts, joined}
use Rattle.hac_model.specs.Query.Formula.{Formula}
use Rattle.hac_model.specs.Tree.Limits.{is_text, passed_limit}
use Rattle.hac_model.specs.Script.PathWords.{is_target}
use Rattle.hac_model.specs.Tree.Links.{is_semantic, query_at}
use Rattle.hac_model.specs.Tree.{is_directory_at}
use Rattle.hac_model.specs.declared.events.Event.{Event}
use Rattle.hac_model.specs.declared.events.Event.TheVariants as event
use Rattle.hac_model.specs.declared.marks.Mark.{Mark}
use Rattle.hac_model.specs.declared.memory.Memory.{Memory}
use Rattle.hac_model.specs.declared.states.Session.{Session}
use Rattle.hac_model.specs.declared.states.State.{State}
use Rattle.hac_model.proofs.FillLemmas.{bare-joined}
use Rattle.hac_model.proofs.ValidLemmas.{accepted-parts, free-parts, mark-parts, move-parts, setq-parts, smkdir-parts}
use Rattle.dep_graph.specs.declared.graph.NewEdges.{NewEdges}
use Rattle.file_tree.specs.declared.ready.Ready.TheVariants as tree
use Rattle.kept_state.specs.Parts.{WillHave, edges_then}
use Rattle.kept_state.specs.Ready.{IsPreparedFor}
use Rattle.kept_state.specs.declared.parts.Parts.{Parts}
use Rattle.kept_state.proofs.StateLemmas.{same-directory, same-semantic}

free-directory : (facts : ℕ → Facts) (sessions : List Session) (t : State) (dir : ℕ) (name : List ℕ) → is_free (joined facts sessions t) dir name ≡ true → is_directory_at t.entries dir ≡ true
free-directory facts sessions t dir name free = sym (same-directory (joined facts sessions t) t (bare-joined facts sessions t) dir) ∙ (free-parts (joined facts sessions t) dir name free).0

pub possible-of : (s : State) (e : Event) → IsTrue (accepted s e) → is_possible s e ≡ true
possible-of s e ok = (accepted-parts (is_possible s e) (passed_limit (apply s e)) ok).0

module _ (facts : ℕ → Facts) (sessions : List Session) (t : State) (e : Event) (ok : IsTrue (accepted (joined facts sessions t) e)) where
  pub mkdir-directory : (dir : ℕ) (name : List ℕ) → e ≡ event.Mkdir dir name → is_directory_at t.entries dir ≡ true
  mkdir-directory dir name is = free-directory facts sessions t dir name (possible-of (joined facts sessions t) (event.Mkdir dir name) (subst (λ (e : Event). IsTrue (accepted (joined facts sessions t) e)) is ok))

  pub file-directory : (dir : ℕ) (name text : List ℕ) → e ≡ event.NewFile dir name text → is_directory_at t.entries dir ≡ true
  file-directory dir name text is =
      let possible = possible-of (joined facts sessions t) (event.NewFile dir name text) (subst (λ (e : Event). IsTrue (accepted (joined facts sessions t) e)) is ok) in
      free-directory facts sessions t dir name (and_parts (is_free (joined facts sessions t) dir name) (is_text text) possible).0

  pub link-parts : (dir : ℕ) (name target : List ℕ) → e ≡ event.Ln dir name target → (is_directory_at t.entries dir ≡ true) × (is_target target ≡ true)
  link-parts dir name target is =
      let s = joined facts sessions t in
      let possible = possible-of s (event.Ln dir name target) (subst (λ (e : Event). IsTrue (accepted s e)) is ok) in
      let parts = and_parts (is_free s dir name) (is_target target) possible in
      (free-directory facts sessions t dir name parts.0, parts.1)

  pub smkdir-directory : (dir : ℕ) (name : List ℕ) (query : Formula ℕ) (told : List (List ℕ)) → e ≡ event.Smkdir dir name query told → is_directory_at t.entries dir ≡ true
  smkdir-directory dir name query told is =
      let possible = possible-of (joined facts sessions t) (event.Smkdir dir name query told) (subst (λ (e : Event). IsTrue (accepted (joined facts sessions t) e)) is ok) in
      free-directory facts sessions t dir name (smkdir-parts (joined facts sessions t) dir name query told possible).0

  pub move-directory : (entry dir : ℕ) (name : List ℕ) → e ≡ event.Mv entry dir name → is_directory_at t.entries dir ≡ true
  move-directory entry dir name is =
      let possible = possible-of (joined facts sessions t) (event.Mv entry dir name) (subst (λ (e : Event). IsTrue (accepted (joined facts sessions t) e)) is ok) in
      free-directory facts sessions t dir name (move-parts (joined facts sessions t) entry dir name possible).1

  pub mark-directory : (mark : Mark) → e ≡ event.Mark mark → is_semantic t mark.dir ≡ true
  mark-directory mark is =
      let s = joined facts sessions t in
      let possible = possible-of s (event.Mark mark) (subst (λ (e : Event). IsTrue (accepted s e)) is ok) in
      sym (same-semantic s t (bare-joined facts sessions t) mark.dir) ∙ (mark-parts s mark.dir mark.item mark.kind possible).1

  pub smkdir-told : (dir : ℕ) (name : List ℕ) (query : Formula ℕ) (told : List (List ℕ)) → e ≡ event.Smkdir dir name query told → are_all_told (joined facts sessions t) query told (joined facts sessions t).entries ≡ true
  smkdir-told dir name query told is =
      let s = joined facts sessions t in
      (smkdir-parts s dir name query told (possible-of s (event.Smkdir dir name query told) (subst (λ (e : Event). IsTrue (accepted s e)) is ok))).2

  pub setq-told : (dir : ℕ) (query : Formula ℕ) (told : List (List ℕ)) → e ≡ event.Setq dir query told → are_all_told (joined facts sessions t) query told (joined facts sessions t).entries ≡ true
  setq-told dir query told is =
      let s = joined facts sessions t in
      (setq-parts s dir query told (possible-of s (event.Setq dir query told) (subst (λ (e : Event). IsTrue (accepted s e)) is ok))).3

-- an entry that moves is ready where the tree and the graph are
pub moved-ready : (kept : Parts) (e : Event) (entry dir : ℕ) (name : List ℕ) (result : Result (Option NewEdges) Memory) → e ≡ event.Mv entry dir name → IfOk result (λ edges. kept.tree.ready ≡ tree.Move dir) →
    IfOk result (λ edges. WillHave kept.graph entry (edges_then kept entry dir (query_at kept.tree.state entry)) edges) → IfOk result (λ edges. IsPreparedFor e edges kept)
moved-ready kept e entry dir name (Ok edges) is ready will = subst (λ (e : Event). IsPreparedFor e edges kept) (sym is) (ready, will)
moved-ready kept e entry dir name (Err memory) is ready will = tt
