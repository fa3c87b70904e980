-- What is read of a valid state is what it keeps.
use Rattle.std.proofs.Common.{◌≡◌, ℕ, [], refl, ap, sym, ◌∙◌}
use Rattle.std.specs.Prelude.{Option, Some, None, is_some, option_and_then}
use Rattle.std.specs.Option.{option_map}
use Rattle.hac_model.specs.Tree.Bare.{bare}
use Rattle.hac_model.specs.Tree.Links.{is_semantic}
use Rattle.hac_model.specs.Tree.{entry_at, is_directory_at, query_in}
use Rattle.hac_model.specs.Tree.Valid.{AsksWell, IsValid}
use Rattle.hac_model.specs.declared.states.Body.{Body}
use Rattle.hac_model.specs.declared.states.Body.TheVariants.{File, Dir, Symlink, Semantic, Mount, Document}
use Rattle.hac_model.specs.declared.states.Entry.{Entry}
use Rattle.hac_model.specs.declared.states.State.{State}
use Rattle.hac_model.proofs.FactLemmas.{answers-fact, edges-told, permanent-fact, prohibited-fact}
use Rattle.kept_facts.specs.AnswersKept.{list_at}
use Rattle.kept_state.specs.Readers.{ArePartsOf}
use Rattle.link_kinds.specs.Kinds.{Lists}
use Rattle.snapshots.specs.Loading.{AreBeside, AreSoundIn, AreSoundMarks, asks}
use Rattle.snapshots.specs.declared.loading.Beside.{Beside}
use Rattle.hac_model.proofs.ChangeLemmas.{all-weaker}

sound-in : (s : State) (body : Body) → AsksWell s body → AreSoundIn body
sound-in s (Semantic query permanent prohibited) h = record { added = h.added.rise; removed = h.removed.rise; apart = h.apart }
sound-in s (File text dirty shown) h = record { added = tt; removed = tt; apart = tt }
sound-in s Dir h = record { added = tt; removed = tt; apart = tt }
sound-in s (Symlink target) h = record { added = tt; removed = tt; apart = tt }
sound-in s (Mount space answers) h = record { added = tt; removed = tt; apart = tt }
sound-in s Document h = record { added = tt; removed = tt; apart = tt }

-- the marks of a valid state are sound
pub sound-marks : (s : State) → IsValid s → AreSoundMarks s.entries
sound-marks s h = all-weaker (λ (e : Entry). AsksWell s e.body) (λ (e : Entry). AreSoundIn e.body) s.entries (λ e asked. sound-in s e.body asked) h.queries

asks-semantic : (s : State) (dir : ℕ) → asks (entry_at s.entries dir) ≡ is_semantic s dir
asks-semantic s dir = elim (entry_at s.entries dir) as (λ (o : Option Entry). asks o ≡ is_some (option_and_then query_in (option_map (λ (e : Entry). e.body) o))) [ None ↦ refl | Some e ↦ refl ]

-- the parts are those of the state
pub loaded-parts : (s tree : State) (beside : Beside) → IsValid s → s.sessions ≡ [] → tree ≡ bare s → AreBeside (is_directory_at s.entries) s.entries beside → ArePartsOf s tree beside.marks (list_at beside.answers) beside.graph
loaded-parts s tree beside valid none bares h = record {
  valid = valid;
  sessions = none;
  tree_is = bares;
  marks_are = record {
    permanent = λ dir. ap (λ (l : Lists). l.permanent) (h.marks_are dir) ∙ sym (permanent-fact s dir);
    prohibited = λ dir. ap (λ (l : Lists). l.prohibited) (h.marks_are dir) ∙ sym (prohibited-fact s dir);
    found = λ dir. ap (λ (l : Lists). l.transient) (h.marks_are dir);
  };
  lent = λ dir. ap (λ (l : Lists). l.lent) (h.marks_are dir);
  sets = λ dir has. sym (asks-semantic s dir) ∙ sym (h.sets dir) ∙ has;
  answers_are = λ mount. h.answers_are mount ∙ sym (answers-fact s mount);
  edges_are = λ dir. h.edges_are dir ∙ sym (edges-told s dir);
}
