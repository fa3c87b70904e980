-- What an entry counts for, by its kind.
use Rattle.std.proofs.Common.{◌≡◌, ℕ, true, false, List, refl, ap}
use Rattle.std.specs.Prelude.{Option, Some, None}
use Rattle.std.specs.Option.{option_map, option_map_or}
use Rattle.hac_model.specs.Query.Formula.{Formula}
use Rattle.hac_model.specs.Tree.{entry_at, is_dirty, is_file, is_file_at}
use Rattle.hac_model.specs.declared.counts.Counts.{Counts}
use Rattle.hac_model.specs.declared.states.Body.{Body}
use Rattle.hac_model.specs.declared.states.Body.TheVariants as body
use Rattle.hac_model.specs.declared.states.Entry.{Entry}
use Rattle.entry_counts.specs.Counting.{share_of}
use Rattle.file_tree.specs.Answers.{is_dirty_at}
use Rattle.hac_model.specs.Tree.{entry_kind, entry_kind_at}
use Rattle.hac_model.specs.declared.states.EntryKind.TheVariants.{File, Dir, Semantic}

module _ (es : List Entry) (n : ℕ) (e : Entry) (found : entry_at es n ≡ Some e) where
  -- what is looked up of the number is told by the entry
  pub kind-of : entry_kind_at es n ≡ entry_kind e.body
  kind-of = ap (λ (o : Option Entry). option_map_or entry_kind (option_map (λ (e : Entry). e.body) o) Dir) found

  pub file-of : is_file_at es n ≡ is_file e.body
  file-of = ap (λ (o : Option Entry). option_map_or is_file (option_map (λ (e : Entry). e.body) o) false) found

  pub dirty-of : is_dirty_at es n ≡ is_dirty e.body
  dirty-of = ap (λ (o : Option Entry). option_map_or is_dirty (option_map (λ (e : Entry). e.body) o) false) found

pub file-kind : (es : List Entry) (n : ℕ) → entry_kind_at es n ≡ File → is_file_at es n ≡ true
file-kind es n = in_entry (entry_at es n)
  where
    in_body : (b : Body) → entry_kind b ≡ File → is_file b ≡ true
    in_body (body.File text dirty shown) is = refl
    in_body other is = absurd cc

    in_entry : (o : Option Entry) → option_map_or entry_kind (option_map (λ (e : Entry). e.body) o) Dir ≡ File → option_map_or is_file (option_map (λ (e : Entry). e.body) o) false ≡ true
    in_entry None is = absurd cc
    in_entry (Some e) is = in_body e.body is

-- all of a kind that keep no text count for the same
pub kind-share : (a b : Body) → entry_kind a ≡ entry_kind b → is_file a ≡ false → share_of a ≡ share_of b
kind-share body.Dir body.Dir same none = refl
kind-share (body.Symlink target) (body.Symlink other) same none = refl
kind-share (body.Semantic query permanent prohibited) (body.Semantic other more less) same none = refl
kind-share (body.Mount space answers) (body.Mount other more) same none = refl
kind-share body.Document body.Document same none = refl
kind-share (body.File text dirty shown) b same none = absurd cc
kind-share a b same none = absurd cc

pub semantic-share : (b : Body) (share : Counts) → entry_kind b ≡ Semantic → ((query : Formula ℕ) (permanent prohibited : List ℕ) → share ≡ share_of (body.Semantic query permanent prohibited)) → share ≡ share_of b
semantic-share (body.Semantic query permanent prohibited) share is each = each query permanent prohibited
semantic-share other share is each = absurd cc
