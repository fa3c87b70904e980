use Rattle.std.proofs.Common.{ap, sym, ◌∙◌}
use Rattle.std.specs.Prelude.{List, is_some}
use Rattle.std.specs.Map.{lookup}
use Rattle.std.specs.Option.{option_copied_mut}
use Rattle.query_index.proofs.PostingLemmas.{Letters, is_for, items_of, put, same-letters}
use Rattle.query_index.proofs.postings.put.Goals as goal

pub returns-in_ok-push-in-Some-clause-places : goal.returns-in_ok-push-in-Some-clause-places
returns-in_ok-push-in-Some-clause-places c others =
    ap (λ (es : List (Letters × Letters)). items_of (lookup (is_for others) es)) (c.get_mut.follows.holds c.push.new.self).0
    ∙ put c.args.letters.now others c.args.places.now.entries c.in-Some.places.now c.push.new.self c.args.place
    (sym c.get_mut.ensures.value ∙ ap option_copied_mut c.in-Some.is) c.in_ok-push-in-Some.ensures.items

pub returns-in_ok-push-in-Some-clause-letters : goal.returns-in_ok-push-in-Some-clause-letters
returns-in_ok-push-in-Some-clause-letters c others =
    ap (λ (es : List (Letters × Letters)). is_some (lookup (is_for others) es)) (c.get_mut.follows.holds c.push.new.self).0
    ∙ same-letters c.args.letters.now others c.args.places.now.entries c.push.new.self

pub returns-in_err-push-in-Some-clause-letters : goal.returns-in_err-push-in-Some-clause-letters
returns-in_err-push-in-Some-clause-letters c others =
    ap (λ (es : List (Letters × Letters)). is_some (lookup (is_for others) es)) (c.get_mut.follows.holds c.push.new.self).0
    ∙ same-letters c.args.letters.now others c.args.places.now.entries c.push.new.self
