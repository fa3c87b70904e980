use Rattle.std.proofs.Common.{map, subst}
use Rattle.std.specs.Str.{bytes_eq}
use Rattle.std.proofs.lemmas.Result.{on_ok_weaker}
use Rattle.query_index.specs.Inner.{AddsPlace}
use Rattle.query_index.proofs.PostingLemmas.{Seen_postings, puts-seen}
use Rattle.query_index.proofs.postings.Postings.add.Goals as goal

pub returns : goal.returns
returns c =
    let after = c.put.new.places.entries in
    let letters = c.args.letters.now in
    on_ok_weaker c.put.result
    (λ puts.
    subst (λ (old : Seen_postings). AddsPlace old (map (λ entry. (entry.0.items, entry.1.items)) after) (λ others. bytes_eq others letters) c.args.place) c.self.view_is
    (puts-seen c.self.inside.places.entries c.make_room.new.places.entries after letters c.args.place c.in_ok-make_room.ensures.places puts))
    c.put.ensures.places
