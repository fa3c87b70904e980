-- Which terms items have, where mounts keep what they were told for a query.
use Rattle.std.proofs.Common.{◌≡◌, ℕ, Bool, true, false, cond, List, [], ◌∷◌, length, drop, refl, ap, sym, ◌∙◌}
use Rattle.std.specs.Prelude.{◌==◌, if◌then◌else◌, Option, Some, None, unwrap_or}
use Rattle.std.specs.Option.{option_map, option_map_or}
use Rattle.hac_model.specs.Query.Formula.{Formula}
use Rattle.hac_model.specs.Query.Words.{has_term}
use Rattle.hac_model.specs.Tree.Asking.{asked_by, gained, gaining, unanswered, with_answers, with_told}
use Rattle.hac_model.specs.Tree.Links.{answers_at, atom, has, parent_of, shown_of}
use Rattle.hac_model.specs.Tree.Mounting.{answers_to}
use Rattle.hac_model.specs.Tree.Mounts.{kept_for}
use Rattle.hac_model.specs.Tree.{answers_in, body_at, entry_at, is_document_at, is_mount}
use Rattle.hac_model.specs.declared.states.Answer.{Answer}
use Rattle.hac_model.specs.declared.states.Body.{Body}
use Rattle.hac_model.specs.declared.states.Body.TheVariants.{File, Dir, Symlink, Semantic, Mount, Document}
use Rattle.hac_model.specs.declared.states.Entry.{Entry}
use Rattle.hac_model.specs.declared.states.State.{State}
use Rattle.hac_model.specs.declared.terms.Term.{Term}
use Rattle.hac_model.proofs.GainLemmas.{bare-told, entry_at-gains}
use Rattle.hac_model.proofs.TreeLemmas.{entry_at-number}
use Rattle.kept_state.proofs.StateLemmas.{same-document, same-parent, same-shown}

-- What mounts gain.

pub untold : (terms : List Term) → answers_to terms [] ≡ []
untold [] = refl
untold (term ∷ terms) = refl

module _ (kept : ℕ → List Answer) (query : Formula ℕ) where
  -- what isn't a mount gains nothing
  gained-none : (told : List (List ℕ)) (es : List Entry) (m : ℕ) → option_map_or is_mount (body_at es m) false ≡ false → gained kept query told es m ≡ []
  gained-none told [] m none = refl
  gained-none told (e ∷ es) m none =
      elim (e.number == m) as (λ b. option_map_or is_mount (option_map (λ (e : Entry). e.body) (if b then Some e else entry_at es m)) false ≡ false →
      (if b then answers_to (asked_by kept query e) told else gained kept query (drop (length (asked_by kept query e)) told) es m) ≡ []) [
        | true ↦ (λ none. ap (λ (b : Bool). answers_to (if b then unanswered query (kept e.number) else []) told) none)
        | false ↦ (λ none. gained-none (drop (length (asked_by kept query e)) told) es m none)
      ] none

module _ (s : State) (query : Formula ℕ) (told : List (List ℕ)) where
  abbrev pub after : State
  after = with_told query told s

  abbrev pub gain : ℕ → List Answer
  gain = gained (answers_at s) query told s.entries

  -- a mount keeps what it kept, and what it was told
  pub answers-told : (m : ℕ) → answers_at after m ≡ with_answers (gain m) (answers_at s m)
  answers-told m =
      ap (λ (o : Option Entry). option_map_or answers_in (option_map (λ (e : Entry). e.body) o) []) (entry_at-gains gain s.entries m)
      ∙ (elim (entry_at s.entries m) as (λ o. entry_at s.entries m ≡ o → option_map_or answers_in (option_map (λ (e : Entry). e.body) (option_map (λ (e : Entry). record e { body = gaining (gain e.number) e.body }) o)) [] ≡ with_answers (gain m) (option_map_or answers_in (option_map (λ (e : Entry). e.body) o) [])) [
        | None ↦ (λ none. ap (λ (new : List Answer). with_answers new []) (sym (no-mount (ap (λ (o : Option Entry). option_map_or is_mount (option_map (λ (e : Entry). e.body) o) false) none))))
        | Some e ↦ (λ found. ap (λ (n : ℕ). answers_in (gaining (gain n) e.body)) (entry_at-number s.entries m e found) ∙ kept e.body (λ other. no-mount (ap (λ (o : Option Entry). option_map_or is_mount (option_map (λ (e : Entry). e.body) o) false) found ∙ other)))
      ] refl)
    where
      no-mount : option_map_or is_mount (body_at s.entries m) false ≡ false → gain m ≡ []
      no-mount none = gained-none (answers_at s) query told s.entries m none

      kept : (body : Body) → (is_mount body ≡ false → gain m ≡ []) → answers_in (gaining (gain m) body) ≡ with_answers (gain m) (answers_in body)
      kept (Mount space answers) none = refl
      kept (File text dirty shown) none = ap (λ (new : List Answer). with_answers new []) (sym (none refl))
      kept Dir none = ap (λ (new : List Answer). with_answers new []) (sym (none refl))
      kept (Symlink target) none = ap (λ (new : List Answer). with_answers new []) (sym (none refl))
      kept (Semantic asked permanent prohibited) none = ap (λ (new : List Answer). with_answers new []) (sym (none refl))
      kept Document none = ap (λ (new : List Answer). with_answers new []) (sym (none refl))

  -- an item has a term by what its mount keeps then
  pub atom-after : (term : Term) (item : ℕ) → atom after term item ≡ (if is_document_at s.entries item then has (unwrap_or (kept_for (with_answers (gain (parent_of s item)) (answers_at s (parent_of s item))) term) []) item else option_map_or (λ text. has_term text term) (shown_of s item) false)
  atom-after term item =
      (λ i. cond (same-document after s (bare-told s query told) item i) (has (unwrap_or (kept_for (answers_at after (same-parent after s (bare-told s query told) item i)) term) []) item) (option_map_or (λ text. has_term text term) (same-shown after s (bare-told s query told) item i) false))
      ∙ ap (λ (answers : List Answer). cond (is_document_at s.entries item) (has (unwrap_or (kept_for answers term) []) item) (option_map_or (λ text. has_term text term) (shown_of s item) false)) (answers-told (parent_of s item))
