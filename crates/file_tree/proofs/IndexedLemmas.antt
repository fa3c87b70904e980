-- What a dirty file counts for once it is indexed.
use Rattle.std.proofs.Common.{◌≡◌, ℕ, true, false, List, length, refl, ap, sym, ◌∙◌, arith}
use Rattle.std.specs.Prelude.{max, Option, Some, None, IsTrue}
use Rattle.std.specs.Option.{option_and_then, option_map, option_map_or}
use Rattle.hac_model.specs.Tree.Events.{indexed}
use Rattle.hac_model.specs.Tree.Limits.{file_bytes}
use Rattle.hac_model.specs.Tree.{body_at, entry_at, is_dirty, is_file, text_in}
use Rattle.hac_model.specs.declared.counts.Counts.{Counts}
use Rattle.hac_model.specs.declared.states.Body.{Body}
use Rattle.hac_model.specs.declared.states.Body.TheVariants.{File}
use Rattle.hac_model.specs.declared.states.Entry.{Entry}
use Rattle.entry_counts.specs.Counting.{share_of}
use Rattle.file_tree.specs.Answers.{is_dirty_at}

pub dirty-entry : (es : List Entry) (n : ℕ) → is_dirty_at es n ≡ true → (e : Entry) × (entry_at es n ≡ Some e) × (is_file e.body ≡ true) × (is_dirty e.body ≡ true)
dirty-entry es n = in_entry (entry_at es n)
  where
    in_body : (b : Body) → is_dirty b ≡ true → is_file b ≡ true
    in_body (File text dirty shown) is = refl
    in_body other is = absurd cc

    in_entry : (o : Option Entry) → option_map_or is_dirty (option_map (λ (e : Entry). e.body) o) false ≡ true → (e : Entry) × (o ≡ Some e) × (is_file e.body ≡ true) × (is_dirty e.body ≡ true)
    in_entry None is = absurd cc
    in_entry (Some e) is = (e, refl, in_body e.body is, is)

pub indexed-share : (es : List Entry) (n : ℕ) (e : Entry) (text : List ℕ) (bytes : ℕ) (share : Counts) → entry_at es n ≡ Some e → is_file e.body ≡ true → option_and_then text_in (body_at es n) ≡ Some text → bytes ≡ length text →
    ((b : Body) → IsTrue (is_file b) → file_bytes b ≡ bytes → is_dirty b ≡ false → share ≡ share_of b) → share ≡ share_of (indexed e.body)
indexed-share es n e text bytes share found file texts long each =
    in_body e.body file (ap (λ (o : Option Entry). option_and_then text_in (option_map (λ (e : Entry). e.body) o)) (sym found) ∙ texts)
  where
    in_body : (b : Body) → is_file b ≡ true → text_in b ≡ Some text → share ≡ share_of (indexed b)
    in_body (File own dirty shown) file texts =
        let same : own ≡ text = cc in
        let most : max (length own) (length own) ≡ bytes = grind (arith, long, ap length same) in
        each (File own false (Some own)) refl most refl
    in_body other file texts = absurd cc
