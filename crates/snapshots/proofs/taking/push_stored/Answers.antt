use Rattle.std.proofs.Common.{◌≡◌, ◌∷◌, ◌++◌, false, List, [], ap, sym, ◌∙◌}
use Rattle.std.proofs.lemmas.List.{append-nil}
use Rattle.hac_model.specs.Tree.{is_document_at}
use Rattle.hac_model.specs.declared.snapshots.StoredEntry.{StoredEntry}
use Rattle.kept_state.proofs.StateLemmas.{same-document, same-some}
use Rattle.snapshots.specs.Taking.{stored_at}
use Rattle.snapshots.proofs.TakingLemmas.{stored-document, stored-none, stored-one}
use Rattle.snapshots.proofs.taking.push_stored.Goals as goal
use Rattle.snapshots.proofs.taking.push_stored.Goals.{else-has_entry-via-else-has_entry}
use Rattle.snapshots.proofs.taking.push_stored.Goals.{else-has_entry-via-then-has_entry+else-not-is_document}

pub stored-requires : goal.stored-requires
stored-requires c =
    same-some c.args.kept.now.state c.tree-tree.result.now.state c.tree-tree.ensures.tree.bares c.args.number
    ∙ sym c.has_entry.ensures ∙ c.if-has_entry.true

pub returns-in_ok-push : goal.returns-in_ok-push
returns-in_ok-push c =
    let s = c.args.kept.now.state in
    let n = c.args.number in
    let old : List StoredEntry = c.args.entries.now.items in
    let plain : is_document_at s.entries n ≡ false =
    same-document s c.tree-tree.result.now.state c.tree-tree.ensures.tree.bares n
    ∙ sym c.is_document.ensures ∙ c.if-not-is_document.true in
    let one : stored_at s n ≡ c.in_ok-stored.field-0 ∷ [] =
    stored-one s n c.in_ok-stored.field-0 plain c.in_ok-stored.ensures in
    let items : c.push.new.self.items ≡ old ++ c.in_ok-stored.field-0 ∷ [] = c.in_ok-push.ensures.items in
    items ∙ ap (λ (more : List StoredEntry). old ++ more) (sym one)

pub returns-else-has_entry : goal.returns-else-has_entry
returns-else-has_entry c =
    let s = c.args.kept.now.state in
    let t = c.tree-tree.result.now.state in
    let bares = c.tree-tree.ensures.tree.bares in
    let n = c.args.number in
    let old : List StoredEntry = c.args.entries.now.items in
    let none : stored_at s n ≡ [] = elim c.else-has_entry.branch [
      | else-has_entry-via-then-has_entry+else-not-is_document w ↦
          stored-document s n (same-document s t bares n ∙ sym w.is_document.ensures ∙ w.if-not-is_document.false)
      | else-has_entry-via-else-has_entry w ↦
          stored-none s n (same-some s t bares n ∙ sym c.has_entry.ensures ∙ w.if-has_entry.false)
    ] in
    sym (append-nil old) ∙ ap (λ (more : List StoredEntry). old ++ more) (sym none)
