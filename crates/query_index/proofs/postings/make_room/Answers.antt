use Rattle.std.proofs.Common.{◌≡◌, ap, subst, true, ◌∙◌}
use Rattle.std.specs.Prelude.{List, is_some, not}
use Rattle.std.specs.Map.{lookup}
use Rattle.query_index.proofs.PostingLemmas.{Letters, is_for, items_of, made, new-letters, none-found}
use Rattle.query_index.proofs.postings.make_room.Goals as goal

pub returns-in_ok-insert-clause-places : goal.returns-in_ok-insert-clause-places
returns-in_ok-insert-clause-places c others =
    ap (λ (es : List (Letters × Letters)). items_of (lookup (is_for others) es)) c.in_ok-insert.ensures.entries
    ∙ made c.args.letters.now c.args.places.now.entries c.in_ok-from_slice.field-0 c.new.result others c.in_ok-from_slice.ensures.items c.new.ensures.items
    (none-found c.get.result _ (c.is_none.ensures ∙ ap not c.if-is_none.true) c.get.ensures.value)

pub returns-in_ok-insert-clause-others : goal.returns-in_ok-insert-clause-others
returns-in_ok-insert-clause-others c others there =
    new-letters c.args.letters.now others c.args.places.now.entries c.in_ok-from_slice.field-0 c.new.result c.in_ok-from_slice.ensures.items
    (subst (λ (es : List (Letters × Letters)). is_some (lookup (is_for others) es) ≡ true) c.in_ok-insert.ensures.entries there)
